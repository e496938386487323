-- Units that are accepted in order, fewer than half the circle of picture ids apart, may all be released.
use Rattle.std.proofs.Common.{◌≡◌, ◌∙◌, refl, sym, ap, subst, ℕ, zero, suc, ◌+◌, ◌-◌, ◌<◌, ◌≤◌, ◌%◌, ◌^◌, ◌⊎◌, inl, inr, arith, [], ◌∷◌, Bool, true, false, Option, Some, None, leb}
use Rattle.std.proofs.lemmas.Bool.Decides.{nat_tests}
use Rattle.codec_payload_base.specs.declared.interface.CodecExtra.{CodecExtra}
use Rattle.codec_payload_base.specs.declared.interface.CodecExtra.TheVariants as extras
use Rattle.codec_payload_base.specs.declared.interface.Vp9CodecExtra.{Vp9CodecExtra}
use Rattle.codec_payload_contiguity.specs.ContiguityTable.{both_ids, checked, kept_by, no_ids, verdict, verdict_with, verdict_after}
use Rattle.codec_payload_codec.specs.BaseLayers.{is_absent, lacks_base}
use Rattle.codec_payload_buffer_runs.specs.ReportedIds.{ReadId, ahead, IsNextId, TellsPicture, Tells, id_later}
use Rattle.codec_payload_contiguity.specs.declared.contiguity.FrameContiguityState.{FrameContiguityState}
use Rattle.codec_payload_contiguity.specs.declared.contiguity.Contiguity.{Contiguity}
use Rattle.codec_payload_contiguity.specs.declared.contiguity.Contiguity.TheVariants as kept

-- a unit without the id of the base layer may be released, is contiguous if its numbers are, and changes nothing
verdict_lacks : (s : FrameContiguityState) (picture base layer : Option ℕ) (keyframe seq : Bool) → is_absent base ≡ true → verdict s picture base layer keyframe seq ≡ (true, seq, s)
verdict_lacks s None base layer keyframe seq lacks = refl
verdict_lacks s (Some picture) None layer keyframe seq lacks = refl
verdict_lacks s (Some picture) (Some base) layer keyframe seq lacks = cc

pub checked_lacks : (c : Contiguity) (extra : CodecExtra) (seq : Bool) → lacks_base extra ≡ true → checked c extra seq ≡ (true, seq, c)
checked_lacks (kept.Vp8 s) (extras.Vp8 e) seq lacks = ap (kept_by kept.Vp8) (verdict_lacks s e.picture_id e.tl0_picture_id (Some e.layer_index) e.is_keyframe seq lacks)
checked_lacks (kept.Vp9 s) (extras.Vp9 e) seq lacks = ap (kept_by kept.Vp9) (verdict_lacks s e.picture_id e.tl0_picture_id e.tid e.is_keyframe seq lacks)
checked_lacks c extra seq lacks = refl

-- The facts before the unit at place n, if the unit before it was the last accepted one, and the first of all units carries the id
-- `first`: the last id that was read, and the stored ids. After a unit was accepted both ids are stored, and the extended one is
-- the one that was read.
pub record IsAfter (first k : ℕ) (read : Option ReadId) (c : Contiguity) : Type 0 where
  pub picture : ℕ
  pub base : ℕ
  pub was_read : read ≡ Some (record { raw = (first + k) % 32768; extended = picture })
  pub small : picture ≤ 32768 + k
  pub is_kept : c ≡ kept.Vp9 (both_ids picture base)

abbrev pub Follows : Option ℕ → ℕ → Option ReadId → Contiguity → Type 0
Follows None n read c = Unit {0}
Follows (Some first) zero read c = (read ≡ None) × (c ≡ kept.Vp9 no_ids)
Follows (Some first) (suc k) read c = IsAfter first k read c

ahead_by : (a j : ℕ) → j < 32768 → ahead (a % 32768) ((a + j) % 32768) ≡ j
ahead_by a j l = omega (arith, l)

-- the effect of one more unit: it may be released, and the same facts apply after it; and if no ids are carried, it is contiguous
-- if its numbers are
pub record GoesOn (first : Option ℕ) (m : ℕ) (after : Option ReadId) (c : Contiguity) (extra : CodecExtra) (seq : Bool) : Type 0 where
  pub may : (checked c extra seq).0 ≡ true
  pub follows : Follows first (suc m) after (checked c extra seq).2
  pub plain : first ≡ None → (checked c extra seq).1 ≡ seq

-- the verdict of the table on a frame of the base layer with both ids
by_ids : (s : FrameContiguityState) (told : Vp9CodecExtra) (picture base : ℕ) (seq : Bool) → told.picture_id ≡ Some picture → told.tl0_picture_id ≡ Some base → told.tid ≡ Some 0
    → checked (kept.Vp9 s) (extras.Vp9 told) seq ≡ kept_by kept.Vp9 (verdict_with s.last_picture_id s.last_tl0_picture_id picture base (Some 0) told.is_keyframe)
by_ids s told picture base seq has_picture has_base layer = rw (has_picture, has_base, layer) refl

-- a later picture of the base layer is released, and its ids are stored
record IsTaken (picture base : ℕ) (answer : Bool × Bool × FrameContiguityState) : Type 0 where
  may : answer.0 ≡ true
  ids : answer.2 ≡ both_ids picture base

later_taken : (old old_base picture base : ℕ) (keyframe : Bool) → old < picture → IsTaken picture base (verdict_after old old_base picture base (Some 0) keyframe)
later_taken old old_base picture base keyframe l =
    let high : leb picture old ≡ false = grind (arith, nat_tests, l) in
    at keyframe high
  where
    at : (k : Bool) → leb picture old ≡ false → IsTaken picture base (verdict_after old old_base picture base (Some 0) k)
    at true high = rw high (record { may = refl; ids = refl })
    at false high = rw high (record { may = refl; ids = refl })

module _ (first m : ℕ) (before after : Option ReadId) (c : Contiguity) (extra : CodecExtra) (seq : Bool) (tells : TellsPicture ((first + m) % 32768) before extra after) where
  -- by the stored ids, if the unit is then accepted and its extended id is not too high
  taken : (s : FrameContiguityState) → c ≡ kept.Vp9 s → tells.picture ≤ 32768 + m
      → IsTaken tells.picture tells.base (verdict_with s.last_picture_id s.last_tl0_picture_id tells.picture tells.base (Some 0) tells.told.is_keyframe)
      → GoesOn (Some first) m after c extra seq
  taken s was small is =
      let answer : checked c extra seq ≡ kept_by kept.Vp9 (verdict_with s.last_picture_id s.last_tl0_picture_id tells.picture tells.base (Some 0) tells.told.is_keyframe) =
      ap (λ (x : Contiguity). checked x extra seq) was ∙ (ap (λ (x : CodecExtra). checked (kept.Vp9 s) x seq) tells.is
      ∙ by_ids s tells.told tells.picture tells.base seq tells.has_picture tells.has_base tells.base_layer) in
      record {
        may = ap (λ (a : Bool × Bool × Contiguity). a.0) answer ∙ is.may;
        follows = record {
          picture = tells.picture;
          base = tells.base;
          was_read = tells.read;
          small = small;
          is_kept = ap (λ (a : Bool × Bool × Contiguity). a.2) answer ∙ ap kept.Vp9 is.ids;
        };
        plain = λ none. absurd (cc);
      }

  -- the first that is taken
  first_on : before ≡ None → c ≡ kept.Vp9 no_ids → GoesOn (Some first) m after c extra seq
  first_on nothing was =
      let is : tells.picture ≡ (first + m) % 32768 = subst (λ (r : Option ReadId). IsNextId r ((first + m) % 32768) tells.picture) nothing tells.next in
      taken no_ids was (omega (arith, is)) (record { may = refl; ids = refl })

  -- one after the k-th, less than half the circle on
  later_on : (k : ℕ) → suc k ≤ m → m < suc k + 16384 → m < 2 ^ 63 → IsAfter first k before c → GoesOn (Some first) m after c extra seq
  later_on k le window few was =
      let j : ℕ = m - k in
      let sum : first + k + j ≡ first + m = omega (arith, le) in
      let step : ahead ((first + k) % 32768) ((first + m) % 32768) ≡ j = ap (λ (n : ℕ). ahead ((first + k) % 32768) (n % 32768)) (sym sum) ∙ ahead_by (first + k) j (omega (arith, window)) in
      let next = subst (λ (r : Option ReadId). IsNextId r ((first + m) % 32768) tells.picture) was.was_read tells.next in
      let grown : tells.picture ≡ (was.picture + j) % 2 ^ 64 = next (omega arith) (omega (arith, step, window, le)) ∙ ap (λ (n : ℕ). (was.picture + n) % 2 ^ 64) step in
      let is : tells.picture ≡ was.picture + j = omega (arith, grown, was.small, le, few) in
      taken (both_ids was.picture was.base) was.is_kept (omega (arith, is, was.small, le)) (later_taken was.picture was.base tells.picture tells.base tells.told.is_keyframe (omega (arith, is, le)))

-- Each accepted unit, whole or from a later first packet on, may be released, if it comes less than half the circle of ids after
-- the last accepted one, or is the first. This is the theorem of contiguity: the only use of ids.
pub goes_on : (first : Option ℕ) (n m : ℕ) (before after : Option ReadId) (c : Contiguity) (extra : CodecExtra) (seq : Bool)
    → Follows first n before c → n ≤ m → (n ≡ 0) ⊎ (m < n + 16384) → m < 2 ^ 63 → Tells (id_later first m) before extra after → GoesOn first m after c extra seq
goes_on None n m before after c extra seq here le window few tells =
    let same = checked_lacks c extra seq tells in
    record { may = ap (λ (a : Bool × Bool × Contiguity). a.0) same; follows = tt; plain = λ _. ap (λ (a : Bool × Bool × Contiguity). a.1) same }
goes_on (Some first) zero m before after c extra seq here le window few tells = first_on first m before after c extra seq tells here.0 here.1
goes_on (Some first) (suc k) m before after c extra seq here le window few tells = elim window [
  | inl none ↦ absurd (omega (arith, none))
  | inr near ↦ later_on first m before after c extra seq tells k le near few here
]

-- The premises can be met: a first unit with the id 32767, and one after the next, with the id 1.
abbrev example_extra : ℕ → ℕ → CodecExtra
example_extra picture base = extras.Vp9 (record {
  layers_scheme = None ∷ None ∷ None ∷ [];
  tid = Some 0;
  layers_widths = None ∷ None ∷ None ∷ [];
  layers_heights = None ∷ None ∷ None ∷ [];
  tl0_picture_id = Some base;
  picture_id = Some picture;
  is_keyframe = false;
})

example_first : GoesOn (Some 32767) 0 (Some (record { raw = 32767; extended = 32767 })) (kept.Vp9 no_ids) (example_extra 32767 1) true
example_first = goes_on (Some 32767) 0 0 None _ _ _ true (refl, refl) (omega arith) (inl refl) (omega arith)
    (record { told = _; is = refl; picture = 32767; base = 1; has_picture = refl; has_base = refl; base_layer = refl; next = refl; read = refl })

example_later : GoesOn (Some 32767) 2 (Some (record { raw = 1; extended = 32769 })) (kept.Vp9 (both_ids 32767 1)) (example_extra 32769 3) false
example_later = goes_on (Some 32767) 1 2 (Some (record { raw = 32767; extended = 32767 })) _ _ _ false
    (record { picture = 32767; base = 1; was_read = refl; small = omega arith; is_kept = refl }) (omega arith) (inr (omega arith)) (omega arith)
    (record { told = _; is = refl; picture = 32769; base = 3; has_picture = refl; has_base = refl; base_layer = refl; next = λ _ _. refl; read = refl })
