use Rattle.std.proofs.Common.{◌≡◌, ◌∙◌, ◌+◌, ◌++◌, ap, arith, inr, length, refl, sym, take, [], ◌∷◌}
use Rattle.std.proofs.lemmas.List.{append-nil, append_assoc}
use Rattle.std.proofs.Math.Seq.{take-append_seam}
use Rattle.codec_payload_jitter.specs.Missing.{absent_between}
use Rattle.codec_payload_jitter.proofs.KeptLemmas.{first_above, first_appended, free_parts}
use Rattle.codec_payload_jitter.proofs.kept_missing.append_absent.Goals as goal

pub returns-in_default-clause-ok : goal.returns-in_default-clause-ok
returns-in_default-clause-ok g c =
    let r = c.args.packets.now in
    let out = c.args.out.now.items in
    let start = c.args.from in
    let next = c.loop-place.next in
    let kept = c.loop-place.invariant in
    let parts = free_parts r.buffer.held r.no_media_numbers start next c.args.to kept.above kept.below in
    let all : absent_between r start next ≡ absent_between r start c.args.to =
    sym (parts ∙ (ap (λ ns. absent_between r start next ++ ns) c.in_default.ensures.first ∙ append-nil (absent_between r start next))) in
    record {
      numbers = kept.numbers ∙ ap (λ ns. out ++ ns) all;
      above = omega (arith, kept.above, kept.below);
      below = omega arith;
      done = inr refl;
    }

pub loop-place-smaller : goal.loop-place-smaller
loop-place-smaller g c =
    let r = c.args.packets.now in
    let n = c.in-Some.number in
    let le = first_above r.buffer.held r.no_media_numbers c.loop-place.next c.args.to n (absent_between r (n + 1) c.args.to) c.in-Some.ensures.first in
    omega (arith, le, c.in-Some.ensures.within)

pub loop-place-preserved : goal.loop-place-preserved
loop-place-preserved g c =
    let r = c.args.packets.now in
    let n = c.in-Some.number in
    let out = c.args.out.now.items in
    let start = c.args.from in
    let next = c.loop-place.next in
    let kept = c.loop-place.invariant in
    let le = first_above r.buffer.held r.no_media_numbers next c.args.to n (absent_between r (n + 1) c.args.to) c.in-Some.ensures.first in
    let more = first_appended r.buffer.held r.no_media_numbers start next c.args.to n kept.above c.in-Some.ensures.first c.in-Some.ensures.within in
    let numbers : c.push.new.self.items ≡ out ++ absent_between r start (n + 1) =
    c.in_ok-push.ensures.items ∙ (ap (λ xs. xs ++ n ∷ []) kept.numbers ∙ (append_assoc out (absent_between r start next) (n ∷ []) ∙ ap (λ ns. out ++ ns) (sym more))) in
    record {
      numbers = numbers;
      above = omega (arith, kept.above, le);
      below = omega (arith, c.in-Some.ensures.within);
      kept = ap (take (length out)) numbers ∙ take-append_seam out (absent_between r start (n + 1));
    }
