-- Reading the strings of a frame one after the other, as a loop does.
use Rattle.std.proofs.Common.{◌≡◌, ℕ, zero, suc, ◌+◌, ◌≤◌, ◌<◌, Bool, true, false, cond, List, [], ◌∷◌, ◌++◌, length, Option, Some, None, refl, sym, ap, ◌∙◌, append_assoc, inl, inr, arith}
use Rattle.std.proofs.lemmas.List.{append-nil, length-append}
use Rattle.std.proofs.lemmas.List.Sums.{sum_by-append}
use Rattle.std.specs.Option.{option_map}
use Rattle.std.specs.Prelude.{◌==◌, bit_and}
use Rattle.codec_payload_av1.specs.Av1Reading.{◌>>=◌}
use Rattle.codec_payload_av1.specs.Av1Obu.{Obu, is_kept_type, kept, obu_at, obus_within, obus_of, frame_kept, starts_sequence, string}
use Rattle.codec_payload_av1.specs.Av1Size.{bytes_sent}
use Rattle.codec_payload_av1.proofs.Av1ObuGrammar.{obu_split}
use Rattle.codec_payload_av1.proofs.Av1PayloadLengths.{some_is}

pub shorter : (bytes rest : List ℕ) (o : Obu) → obu_at bytes ≡ Some (o, rest) → length rest < length bytes
shorter bytes rest o is =
    let parts = obu_split bytes rest o is in
    elim parts.1 [
      | inl p ↦ omega (arith, simp length-append at (ap length p.1.2))
      | inr q ↦ omega (arith, simp length-append at (ap length q.2), ap length q.1)
    ]

-- the OBUs read before, and the ones still read
abbrev pub with_kept : List Obu → Option (List Obu) → Option (List Obu)
with_kept front read = read >>= λ os. Some (front ++ os)

same_step : (k j : ℕ) (r : Option (Obu × List ℕ)) → ((x : Obu × List ℕ) → r ≡ Some x → obus_within k x.1 ≡ obus_within j x.1)
    → (r >>= λ o. obus_within k o.1 >>= λ os. Some (o.0 ∷ os)) ≡ (r >>= λ o. obus_within j o.1 >>= λ os. Some (o.0 ∷ os))
same_step k j None same = refl
same_step k j (Some x) same = rw (same x refl) refl

fuel : (k j : ℕ) (bytes : List ℕ) → length bytes ≤ k → length bytes ≤ j → obus_within k bytes ≡ obus_within j bytes
unfolding obus_within
fuel k j [] a b = refl
fuel zero j (c ∷ bytes) a b = absurd (omega (arith, a))
fuel (suc k) zero (c ∷ bytes) a b = absurd (omega (arith, b))
fuel (suc k) (suc j) (c ∷ bytes) a b = same_step k j (obu_at (c ∷ bytes)) (λ x is. fuel k j x.1 (omega (arith, a, shorter (c ∷ bytes) x.1 x.0 is)) (omega (arith, b, shorter (c ∷ bytes) x.1 x.0 is)))

frame_cons : (bytes rest : List ℕ) (o : Obu) → 0 < length bytes → obu_at bytes ≡ Some (o, rest) → obus_of bytes ≡ (obus_of rest >>= λ os. Some (o ∷ os))
unfolding obus_of obus_within
frame_cons [] rest o lt is = absurd (omega (arith, lt))
frame_cons (c ∷ bytes) rest o lt is = rw (is, fuel (length bytes) (length rest) rest (omega (arith, shorter (c ∷ bytes) rest o is)) (omega arith)) refl

frame_none : (bytes : List ℕ) → 0 < length bytes → obu_at bytes ≡ None → obus_of bytes ≡ None
unfolding obus_of obus_within
frame_none [] lt is = absurd (omega (arith, lt))
frame_none (c ∷ bytes) lt is = rw is refl

by_type : (b : Bool) (o : Obu) (os : List Obu) → is_kept_type o.header ≡ b → kept (o ∷ os) ≡ kept (o ∷ []) ++ kept os
by_type true o os is = rw is refl
by_type false o os is = rw is refl

kept_cons : (o : Obu) (os : List Obu) → kept (o ∷ os) ≡ kept (o ∷ []) ++ kept os
kept_cons o os = by_type (is_kept_type o.header) o os refl

regroup : (front : List Obu) (o : Obu) (read : Option (List Obu))
    → with_kept front ((read >>= λ os. Some (o ∷ os)) >>= λ os. Some (kept os)) ≡ with_kept (front ++ kept (o ∷ [])) (read >>= λ os. Some (kept os))
regroup front o None = refl
regroup front o (Some os) = ap (λ (t : List Obu). Some t) (ap (λ (t : List Obu). front ++ t) (kept_cons o os) ∙ sym (append_assoc front (kept (o ∷ [])) (kept os)))

pub frame_goes_on : (front : List Obu) (bytes rest : List ℕ) (o : Obu) (total : Option (List Obu)) → 0 < length bytes → obu_at bytes ≡ Some (o, rest) → with_kept front (frame_kept bytes) ≡ total
    → with_kept (front ++ kept (o ∷ [])) (frame_kept rest) ≡ total
unfolding frame_kept
frame_goes_on front bytes rest o total lt is so_far =
    sym (regroup front o (obus_of rest)) ∙ ap (λ (r : Option (List Obu)). with_kept front (r >>= λ os. Some (kept os))) (sym (frame_cons bytes rest o lt is)) ∙ so_far

pub frame_fails : (front : List Obu) (bytes : List ℕ) (total : Option (List Obu)) → 0 < length bytes → obu_at bytes ≡ None → with_kept front (frame_kept bytes) ≡ total → total ≡ None
unfolding frame_kept
frame_fails front bytes total lt is so_far = sym so_far ∙ rw (frame_none bytes lt is) refl

pub frame_ends : (front : List Obu) (bytes : List ℕ) (total : Option (List Obu)) → length bytes ≡ 0 → with_kept front (frame_kept bytes) ≡ total → total ≡ Some front
unfolding frame_kept obus_of obus_within
frame_ends front [] total none so_far = sym so_far ∙ ap (λ (xs : List Obu). Some xs) (append-nil front)
frame_ends front (c ∷ bytes) total none so_far = absurd (omega (arith, none))

same_none : (r : Option (List Obu)) → with_kept [] r ≡ r
same_none (Some x) = refl
same_none None = refl

pub frame_starts : (bytes : List ℕ) → with_kept [] (frame_kept bytes) ≡ frame_kept bytes
frame_starts bytes = same_none (frame_kept bytes)

-- ---- counting bytes

counted : (n : ℕ) (o : Obu) (r : Option (List Obu)) → option_map (λ os. n + bytes_sent os) (with_kept (kept (o ∷ [])) r) ≡ option_map (λ os. n + bytes_sent (kept (o ∷ [])) + bytes_sent os) r
counted n o None = refl
counted n o (Some os) = ap (λ (m : ℕ). Some m) (omega (arith, sum_by-append (λ (o : Obu). length (string o)) (kept (o ∷ [])) os))

length_string : (o : Obu) → length (string o) ≡ 1 + length o.extension + length o.payload
unfolding string
length_string o = omega (arith, length-append o.extension o.payload)

one_sent : (b : Bool) (o : Obu) → is_kept_type o.header ≡ b → bytes_sent (kept (o ∷ [])) ≡ cond b (length (string o)) 0
one_sent true o is = rw is (omega arith)
one_sent false o is = rw is refl

at_most_string : (b : Bool) (o : Obu) → is_kept_type o.header ≡ b → bytes_sent (kept (o ∷ [])) ≤ length (string o)
at_most_string true o is = omega (arith, one_sent true o is)
at_most_string false o is = omega (arith, one_sent false o is)

pub sent_and_rest : (bytes rest : List ℕ) (o : Obu) → obu_at bytes ≡ Some (o, rest) → bytes_sent (kept (o ∷ [])) + length rest ≤ length bytes
sent_and_rest bytes rest o is =
    let parts = obu_split bytes rest o is in
    let most = at_most_string (is_kept_type o.header) o refl in
    elim parts.1 [
      | inl p ↦ omega (arith, most, length_string o, simp length-append at (ap length p.1.2))
      | inr q ↦ omega (arith, most, length_string o, simp length-append at (ap length q.2), ap length q.1)
    ]

pub count_goes_on : (n : ℕ) (bytes rest : List ℕ) (o : Obu) (total : Option ℕ) → 0 < length bytes → obu_at bytes ≡ Some (o, rest) → option_map (λ os. n + bytes_sent os) (frame_kept bytes) ≡ total
    → option_map (λ os. n + bytes_sent (kept (o ∷ [])) + bytes_sent os) (frame_kept rest) ≡ total
count_goes_on n bytes rest o total lt is so_far =
    sym (counted n o (frame_kept rest))
    ∙ ap (λ (r : Option (List Obu)). option_map (λ os. n + bytes_sent os) r) (frame_goes_on [] bytes rest o (with_kept [] (frame_kept bytes)) lt is refl ∙ frame_starts bytes)
    ∙ so_far

pub count_fails : (n : ℕ) (bytes : List ℕ) (total : Option ℕ) → 0 < length bytes → obu_at bytes ≡ None → option_map (λ os. n + bytes_sent os) (frame_kept bytes) ≡ total → None ≡ total
count_fails n bytes total lt is so_far = ap (λ (r : Option (List Obu)). option_map (λ os. n + bytes_sent os) r) (sym (frame_fails [] bytes (frame_kept bytes) lt is (frame_starts bytes))) ∙ so_far

pub count_ends : (n : ℕ) (bytes : List ℕ) (total : Option ℕ) → length bytes ≡ 0 → option_map (λ os. n + bytes_sent os) (frame_kept bytes) ≡ total → Some n ≡ total
count_ends n bytes total none so_far = ap (λ (m : ℕ). Some m) (omega arith)
    ∙ ap (λ (r : Option (List Obu)). option_map (λ os. n + bytes_sent os) r) (sym (frame_ends [] bytes (frame_kept bytes) none (frame_starts bytes))) ∙ so_far

from_none : (n : ℕ) (r : Option (List Obu)) → n ≡ 0 → option_map (λ os. n + bytes_sent os) r ≡ option_map bytes_sent r
from_none n None is = refl
from_none n (Some os) is = ap (λ (m : ℕ). Some m) (omega (arith, is))

pub count_starts : (bytes : List ℕ) → option_map (λ os. 0 + bytes_sent os) (frame_kept bytes) ≡ option_map bytes_sent (frame_kept bytes)
count_starts bytes = from_none 0 (frame_kept bytes) refl

-- nothing is sent exactly if nothing is kept
pub some_kept : (os : List Obu) → (bytes_sent os ≡ 0 → ⊥) → 0 < length os
some_kept [] some = absurd (some refl)
some_kept (o ∷ os) some = omega arith

pub none_kept : (os : List Obu) → bytes_sent os ≡ 0 → length os ≡ 0
none_kept [] none = refl
none_kept (o ∷ os) none = absurd (omega (arith, none, sum_by-append (λ (o : Obu). length (string o)) (o ∷ []) os, length_string o))

-- nothing more can be read, and the whole is a sequence
pub all_read : (front : List Obu) (bytes : List ℕ) (total : Option (List Obu)) (os : List Obu) → obu_at bytes ≡ None → with_kept front (frame_kept bytes) ≡ total → total ≡ Some os → front ≡ os
all_read front [] total os is so_far whole = some_is front os (sym (frame_ends front [] total refl so_far) ∙ whole)
all_read front (b ∷ bytes) total os is so_far whole = let none = sym (frame_fails front (b ∷ bytes) total (omega arith) is so_far) ∙ whole in absurd cc

pub some_read : (bytes rest : List ℕ) (o : Obu) → obu_at bytes ≡ Some (o, rest) → 0 < length bytes
some_read bytes rest o is = omega (arith, shorter bytes rest o is)

-- ---- the first that is kept

starts_of : (o : Obu) (r : Option (List Obu)) (os : List Obu) → with_kept (o ∷ []) r ≡ Some os → (bit_and o.header 0x78 == 0x08) ≡ starts_sequence os
starts_of o None os is = absurd cc
starts_of o (Some xs) os is = ap starts_sequence (some_is (o ∷ xs) os is)

pub first_kept : (bytes rest : List ℕ) (o : Obu) (os : List Obu) → obu_at bytes ≡ Some (o, rest) → is_kept_type o.header ≡ true → frame_kept bytes ≡ Some os
    → (bit_and o.header 0x78 == 0x08) ≡ starts_sequence os
first_kept bytes rest o os is keeps whole =
    let so_far = frame_goes_on [] bytes rest o (Some os) (some_read bytes rest o is) is (frame_starts bytes ∙ whole) in
    let one : kept (o ∷ []) ≡ o ∷ [] = rw keeps refl in
    starts_of o (frame_kept rest) os (rw one at so_far)

pub first_dropped : (bytes rest : List ℕ) (o : Obu) → obu_at bytes ≡ Some (o, rest) → is_kept_type o.header ≡ false → frame_kept rest ≡ frame_kept bytes
first_dropped bytes rest o is drops =
    let so_far = frame_goes_on [] bytes rest o (frame_kept bytes) (some_read bytes rest o is) is (frame_starts bytes) in
    let none : kept (o ∷ []) ≡ [] = rw drops refl in
    sym (frame_starts rest) ∙ (rw none at so_far)

pub none_first : (bytes : List ℕ) (os : List Obu) → obu_at bytes ≡ None → frame_kept bytes ≡ Some os → false ≡ starts_sequence os
none_first bytes os is whole = ap starts_sequence (all_read [] bytes (frame_kept bytes) os is (frame_starts bytes) whole)
