use Rattle.std.proofs.Common.{◌≡◌, ℕ, suc, ◌+◌, ◌-◌, ◌%◌, ◌/◌, ◌<◌, ◌≤◌, List, [], ◌∷◌, ◌++◌, refl, ◌∙◌, append_assoc, arith}
use Rattle.std.proofs.lemmas.Bool.{le-ltb}
use Rattle.codec_payload_base.specs.Leb.{leb, leb_within}
use Rattle.codec_payload_base.proofs.LebLemmas.{limit}
use Rattle.codec_payload_av1.proofs.Av1FrontKept.{kept_more, kept_same}
use Rattle.codec_payload_av1.proofs.av1.leb.put_number.Goals as goal

one_byte : (out : List ℕ) (i n : ℕ) → i < 9 → 128 ≤ n → (out ++ (n % 128 + 128) ∷ []) ++ leb_within (9 - (i + 1)) (n / 128) ≡ out ++ leb_within (9 - i) n
one_byte out i n lt le =
    let k : 9 - i ≡ suc (9 - (i + 1)) = omega arith in
    rw (k, le-ltb n 128 le) (append_assoc out ((n % 128 + 128) ∷ []) (leb_within (9 - (i + 1)) (n / 128)))

smaller : (i n : ℕ) → i < 9 → n < limit (9 - i) → n / 128 < limit (9 - (i + 1))
smaller i n lt le =
    let k : 9 - i ≡ suc (9 - (i + 1)) = omega arith in
    let more : n < limit (suc (9 - (i + 1))) = rw k at le in
    omega (arith, more)

pub loop-init : goal.loop-init
unfolding leb
loop-init c = record { written = refl; kept = kept_same c.args.out.now.items; small = omega arith }

pub loop-preserved : goal.loop-preserved
loop-preserved c = record {
  written = rw c.in_ok-push-2.ensures.items (one_byte c.loop.out.items c.loop.counter c.loop.rest c.loop-test.true c.if-rest-lt128.false) ∙ c.loop.invariant.written;
  kept = rw c.in_ok-push-2.ensures.items (kept_more c.args.out.now.items c.loop.out.items _ c.loop.invariant.kept);
  small = smaller c.loop.counter c.loop.rest c.loop-test.true c.loop.invariant.small;
}
