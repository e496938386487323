use Rattle.std.proofs.Common.{◌≡◌, suc, ◌+◌, ◌-◌, ◌*◌, ◌<◌, [], ◌∷◌, ◌++◌, length, map, get_or, is_some, false, refl, sym, ap, ◌∙◌, arith}
use Rattle.std.proofs.lemmas.List.{map_push}
use Rattle.codec_payload_red.specs.RedPayload.{Red}
use Rattle.codec_payload_red.specs.RedReading.{blocks_at}
use Rattle.codec_payload_red.specs.RedBlocks.{block_of, blocks_of, older, older_of}
use Rattle.codec_payload_red.proofs.DecoderLoopLemmas.{none_there, one_there, all_there, blocks_and_primary}
use Rattle.codec_payload_red.proofs.red.blocks.blocks_from.Goals as goal

pub unreachable-requires : goal.unreachable-requires
unreachable-requires c =
    let k : c.args.count - c.loop.counter ≡ suc (c.args.count - (c.loop.counter + 1)) = omega arith in
    let none = none_there _ (c.args.count - (c.loop.counter + 1)) c.loop.heads.now c.loop.rest.now _ c.in_default.ensures.found (rw k at c.loop.invariant.whole) in
    let no : is_some (blocks_at c.args.count c.args.headers.now c.args.bodies.now) ≡ false = ap is_some none in
    cc (no, c.requires.whole)

pub loop-preserved : goal.loop-preserved
loop-preserved c =
    let k : c.args.count - c.loop.counter ≡ suc (c.args.count - (c.loop.counter + 1)) = omega arith in
    let there : 4 * (c.args.count - c.loop.counter) < length c.loop.heads.now = c.loop.invariant.there in
    let olders : map older_of c.push.new.self.items ≡ map older_of c.loop.found.items ++ older_of c.in-Some.block ∷ [] = rw c.in_ok-push.ensures.items (map_push older_of c.loop.found.items c.in-Some.block) in
    let mapped : blocks_of c.push.new.self.items ≡ blocks_of c.loop.found.items ++ block_of c.in-Some.block ∷ [] = rw c.in_ok-push.ensures.items (map_push block_of c.loop.found.items c.in-Some.block) in
    let plain : block_of c.in-Some.block ≡ older (older_of c.in-Some.block) = ap (λ t. record { pt = c.in-Some.block.pt; timestamp_offset = c.in-Some.block.timestamp_offset; payload = c.in-Some.block.payload.now; is_primary = t }) c.in-Some.ensures.older in
    record {
      whole = rw (olders, c.split_at.ensures.back) (one_there (map older_of c.loop.found.items) (c.args.count - (c.loop.counter + 1)) c.loop.heads.now c.loop.rest.now _ (older_of c.in-Some.block) c.in-Some.behind.now c.in-Some.ensures.found (rw k at c.loop.invariant.whole));
      plain = mapped ∙ ap (λ t. t ++ block_of c.in-Some.block ∷ []) c.loop.invariant.plain ∙ ap (λ t. map older (map older_of c.loop.found.items) ++ t ∷ []) plain ∙ sym (map_push older (map older_of c.loop.found.items) (older_of c.in-Some.block)) ∙ ap (λ t. map older t) (sym olders);
      there = omega (arith, c.split_at.ensures.back_len);
    }

pub returns : goal.returns
returns c =
    let k : c.args.count - c.loop.counter ≡ 0 = omega arith in
    let r : Red = record { redundant = map older_of c.loop.found.items; pt = get_or c.loop.heads.now 0 0; primary = c.loop.rest.now } in
    (r, all_there (map older_of c.loop.found.items) c.loop.heads.now c.loop.rest.now _ (rw k at c.loop.invariant.whole), rw c.in_ok-push-2.ensures.items (blocks_and_primary c.loop.found.items _ r c.loop.invariant.plain refl))
