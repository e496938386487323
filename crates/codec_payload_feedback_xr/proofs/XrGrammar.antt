-- What is read is spelled so.
use Rattle.std.proofs.Common.{◌≡◌, ℕ, zero, suc, ◌*◌, ◌/◌, ◌<◌, ◌≤◌, Bool, true, false, cond, ltb, List, [], ◌∷◌, ◌++◌, length, take, drop, Result, Ok, Err, refl, sym, ap, ◌∙◌, subst, arith}
use Rattle.std.specs.Int.{w16, w32, from_be_bytes, to_be_bytes}
use Rattle.std.proofs.lemmas.Bool.{ltb-false}
use Rattle.std.proofs.lemmas.List.{length-take-le, take-append-drop}
use Rattle.std.proofs.lemmas.Nat.{be_bytes_2, be_bytes_4}
use Rattle.codec_payload_base.specs.Flags.{AreBytes}
use Rattle.codec_payload_rtcp.proofs.RtcpFields.{drop_bytes, take_bytes}
use Rattle.codec_payload_feedback_xr.specs.Xr.{Block, Report, block_bytes, blocks_bytes, body_bytes}
use Rattle.codec_payload_feedback_xr.specs.XrReading.{FitBlocks, FitsBlock, ReadIsSpelled, Walk, after_end, after_head, block_at, body_at, walk, walk_by, walk_in}
use Rattle.codec_payload_feedback_xr.specs.declared.report.XrFault.{XrFault}
use Rattle.codec_payload_feedback_xr.specs.declared.report.XrFault.TheVariants as faults

-- a test that did not fail
guard_ok : {A : Type 0} (b : Bool) (d : XrFault) (r : Result A XrFault) (y : A) → cond b (Err d) r ≡ Ok y → (b ≡ false) × (r ≡ Ok y)
guard_ok true d r y e = absurd cc
guard_ok false d r y e = (refl, e)

abbrev done : {A : Type 0} → A → Result A XrFault
done x = Ok x

ok_is : {A : Type 0} (x y : A) → done x ≡ done y → x ≡ y
ok_is x y e = cc

-- ---- blocks

record TakesBlock (bytes : List ℕ) (b : Block) (rest : List ℕ) : Type 0 where
  is : bytes ≡ block_bytes b ++ rest
  fits : FitsBlock b
  rest_are : AreBytes rest

abbrev taken : (t s size : ℕ) → List ℕ → Block × List ℕ
taken t s size bytes = (record { block_type = t; type_specific = s; contents = take size bytes }, drop size bytes)

taken_takes : (t s l1 l0 : ℕ) (bytes : List ℕ) (words : ℕ) → words ≡ from_be_bytes w16 (l1 ∷ l0 ∷ []) → AreBytes (t ∷ s ∷ l1 ∷ l0 ∷ bytes) → 4 * words ≤ length bytes
    → TakesBlock (t ∷ s ∷ l1 ∷ l0 ∷ bytes) (taken t s (4 * words) bytes).0 (drop (4 * words) bytes)
taken_takes t s l1 l0 bytes words is are enough =
    let front : List ℕ = take (4 * words) bytes in
    let rest : List ℕ = drop (4 * words) bytes in
    let long : length front ≡ 4 * words = length-take-le (4 * words) bytes enough in
    let quarter : length front / 4 ≡ words = omega (arith, long) in
    let two : AreBytes (l1 ∷ l0 ∷ []) = take_bytes 2 (l1 ∷ l0 ∷ bytes) (drop_bytes 2 (t ∷ s ∷ l1 ∷ l0 ∷ bytes) are) in
    let small : words < 65536 = omega (arith, is, two 0, two 1) in
    let spelled : to_be_bytes w16 (length front / 4) ≡ l1 ∷ l0 ∷ [] = ap (to_be_bytes w16) quarter ∙ be_bytes_2 (l1 ∷ l0 ∷ []) words refl two is in
    record {
      is = ap (λ (bs : List ℕ). t ∷ s ∷ l1 ∷ l0 ∷ bs) (sym (take-append-drop (4 * words) bytes)) ∙ ap (λ (bs : List ℕ). t ∷ s ∷ ((bs ++ front) ++ rest)) (sym spelled);
      fits = record { whole = omega (arith, long); few = omega (arith, quarter, small) };
      rest_are = drop_bytes (4 * words) bytes (drop_bytes 4 (t ∷ s ∷ l1 ∷ l0 ∷ bytes) are);
    }

head_takes : (t s l1 l0 : ℕ) (bytes : List ℕ) (words : ℕ) (x : Block × List ℕ) → words ≡ from_be_bytes w16 (l1 ∷ l0 ∷ []) → AreBytes (t ∷ s ∷ l1 ∷ l0 ∷ bytes)
    → after_head t s (4 * words) bytes ≡ Ok x → TakesBlock (t ∷ s ∷ l1 ∷ l0 ∷ bytes) x.0 x.1
head_takes t s l1 l0 bytes words x is are e =
    let g = guard_ok (ltb (length bytes) (4 * words)) faults.ContentsTooShort (Ok (taken t s (4 * words) bytes)) x e in
    let enough : 4 * words ≤ length bytes = ltb-false _ _ g.0 in
    subst (λ (y : Block × List ℕ). TakesBlock (t ∷ s ∷ l1 ∷ l0 ∷ bytes) y.0 y.1) (ok_is (taken t s (4 * words) bytes) x g.1) (taken_takes t s l1 l0 bytes words is are enough)

block_takes : (bytes : List ℕ) (x : Block × List ℕ) → AreBytes bytes → block_at bytes ≡ Ok x → TakesBlock bytes x.0 x.1
unfolding block_at
block_takes [] x are e = absurd cc
block_takes (a ∷ []) x are e = absurd cc
block_takes (a ∷ b ∷ []) x are e = absurd cc
block_takes (a ∷ b ∷ c ∷ []) x are e = absurd cc
block_takes (t ∷ s ∷ l1 ∷ l0 ∷ bytes) x are e = head_takes t s l1 l0 bytes (from_be_bytes w16 (l1 ∷ l0 ∷ [])) x refl are e

-- whole blocks, as they are spelled
abbrev AreWhole : List ℕ → Walk → Type 0
AreWhole bytes w = w.end ≡ Ok tt → (bytes ≡ blocks_bytes w.blocks) × FitBlocks w.blocks

by_takes : (others : List ℕ → Walk) (bytes : List ℕ) (o : Result (Block × List ℕ) XrFault) → ((rest : List ℕ) → AreBytes rest → AreWhole rest (others rest)) → block_at bytes ≡ o → AreBytes bytes
    → AreWhole bytes (walk_by others o)
by_takes others bytes (Err fault) h is are e = absurd cc
by_takes others bytes (Ok x) h is are e =
    let one = block_takes bytes x are is in
    let more = h x.1 one.rest_are e in
    (one.is ∙ ap (λ (bs : List ℕ). block_bytes x.0 ++ bs) more.0, (one.fits, more.1))

walk_takes : (n : ℕ) (bytes : List ℕ) → AreBytes bytes → AreWhole bytes (walk_in n bytes)
unfolding walk_in
walk_takes n [] are e = (refl, tt)
walk_takes zero (b ∷ bytes) are e = absurd cc
walk_takes (suc n) (b ∷ bytes) are e = by_takes (walk_in n) (b ∷ bytes) (block_at (b ∷ bytes)) (λ rest are-rest. walk_takes n rest are-rest) refl are e

-- ---- reports

ended : (end : Result (Unit {0}) XrFault) (r s : Report) → after_end end r ≡ Ok s → (end ≡ Ok tt) × (r ≡ s)
ended (Ok u) r s e = (refl, ok_is r s e)
ended (Err fault) r s e = absurd cc

abbrev Spelled : List ℕ → Report → Type 0
Spelled body r = (body ≡ body_bytes r) × (r.ssrc < 4294967296) × FitBlocks r.blocks

report_takes : (s3 s2 s1 s0 : ℕ) (bytes : List ℕ) (ssrc : ℕ) → ssrc ≡ from_be_bytes w32 (s3 ∷ s2 ∷ s1 ∷ s0 ∷ []) → AreBytes (s3 ∷ s2 ∷ s1 ∷ s0 ∷ bytes) → (walk bytes).end ≡ Ok tt
    → Spelled (s3 ∷ s2 ∷ s1 ∷ s0 ∷ bytes) (record { ssrc = ssrc; blocks = (walk bytes).blocks })
report_takes s3 s2 s1 s0 bytes ssrc is are e =
    let four : AreBytes (s3 ∷ s2 ∷ s1 ∷ s0 ∷ []) = take_bytes 4 (s3 ∷ s2 ∷ s1 ∷ s0 ∷ bytes) are in
    let whole = walk_takes (length bytes) bytes (drop_bytes 4 (s3 ∷ s2 ∷ s1 ∷ s0 ∷ bytes) are) e in
    let spelled : to_be_bytes w32 ssrc ≡ s3 ∷ s2 ∷ s1 ∷ s0 ∷ [] = be_bytes_4 (s3 ∷ s2 ∷ s1 ∷ s0 ∷ []) ssrc refl four is in (
      ap (λ (bs : List ℕ). s3 ∷ s2 ∷ s1 ∷ s0 ∷ bs) whole.0 ∙ ap (λ (bs : List ℕ). bs ++ blocks_bytes (walk bytes).blocks) (sym spelled),
      omega (arith, is, four 0, four 1, four 2, four 3),
      whole.1,
    )

pub read_is_spelled : ReadIsSpelled
unfolding body_at
read_is_spelled [] r are e = absurd cc
read_is_spelled (a ∷ []) r are e = absurd cc
read_is_spelled (a ∷ b ∷ []) r are e = absurd cc
read_is_spelled (a ∷ b ∷ c ∷ []) r are e = absurd cc
read_is_spelled (s3 ∷ s2 ∷ s1 ∷ s0 ∷ bytes) r are e =
    let ssrc : ℕ = from_be_bytes w32 (s3 ∷ s2 ∷ s1 ∷ s0 ∷ []) in
    let end = ended (walk bytes).end (record { ssrc = ssrc; blocks = (walk bytes).blocks }) r e in
    subst (Spelled (s3 ∷ s2 ∷ s1 ∷ s0 ∷ bytes)) end.1 (report_takes s3 s2 s1 s0 bytes ssrc refl are end.0)
