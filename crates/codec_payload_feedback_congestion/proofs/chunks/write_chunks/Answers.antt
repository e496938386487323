use Rattle.std.proofs.Common.{◌≡◌, length, arith, rules}
use Rattle.std.proofs.lemmas.Bool.Decides.{nat_tests}
use Rattle.codec_payload_feedback_congestion.proofs.ChunkLemmas.{chunks_all, chunks_more, chunks_none}
use Rattle.codec_payload_feedback_congestion.proofs.chunks.write_chunks.Goals as goal

pub loop-rest-init : goal.loop-rest-init
loop-rest-init c = chunks_none c.args.out.now.items c.args.symbols.now c.requires

pub loop-rest-preserved : goal.loop-rest-preserved
loop-rest-preserved c =
    chunks_more c.args.out.now.items c.loop-rest.out.items c.extend_from_slice.new.self.items c.args.symbols.now c.loop-rest.rest.now c.split_at.result.1.now c.chunk-word.result.0 c.chunk-word.result.1 (search rules)
    (omega arith) (omega arith) c.chunk-word.ensures.some c.chunk-word.ensures.within c.chunk-word.ensures.far c.chunk-word.ensures.says c.loop-rest.invariant (search rules)

pub returns : goal.returns
returns c =
    let none : length c.loop-rest.rest.now ≡ 0 = grind (arith, nat_tests, c.loop-rest-test.ensures) in
    chunks_all c.args.out.now.items c.loop-rest.out.items c.args.symbols.now c.loop-rest.rest.now none c.loop-rest.invariant
