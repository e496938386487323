-- A sender's distances and its history.
use Rattle.std.proofs.Common.{◌≡◌, ℕ, suc, ◌+◌, ◌-◌, ◌<◌, ◌≤◌, List, [], ◌∷◌, ◌++◌, length, take, get_or, set, Option, Some, None, true, ltb, leb, ◌&&◌, refl, sym, ap, ◌∙◌, arith}
use Rattle.std.proofs.lemmas.Bool.{and_parts, ltb-true, leb-true}
use Rattle.std.specs.Borrow.{Bor}
use Rattle.std.specs.Slice.{IsItemAt}
use Rattle.std.proofs.lemmas.Option.{slice_get-map, slice_get_past, slice_get_read}
use Rattle.std.proofs.lemmas.List.{take-map, take_more, take_more_set, take_all}
use Rattle.codec_payload_red.specs.declared.red.sender.SentPayload.{SentPayload}
use Rattle.codec_payload_base.specs.Answers.{Finds}
use Rattle.codec_payload_red.specs.RedHistory.{entry_of, entries_of}
use Rattle.codec_payload_red.specs.RedLevels.{rises_above, is_accepted, deepest, back}

rises_few : (low : ℕ) (ds : List ℕ) → rises_above low ds ≡ true → low ≤ 8 → low + length ds ≤ 8
rises_few low [] h le = omega arith
rises_few low (d ∷ ds) h le =
    let (both, rest) = and_parts (ltb low d && leb d 8) (rises_above d ds) h in
    let (above, most) = and_parts (ltb low d) (leb d 8) both in
    let here : low < d = ltb-true low d above in
    let small : d ≤ 8 = leb-true d 8 most in
    omega (arith, rises_few d ds rest small)

pub accepted_few : (ds : List ℕ) → is_accepted ds ≡ true → length ds ≤ 8
accepted_few ds h = omega (arith, rises_few 0 ds h (omega arith))

pub copied_more : (xs ys : List ℕ) (i : ℕ) → i < length xs → i < length ys → take i xs ≡ take i ys → take (i + 1) (set xs i (get_or ys i 0)) ≡ take (i + 1) ys
copied_more xs ys i here there same = take_more_set xs i (get_or ys i 0) here ∙ ap (λ t. t ++ get_or ys i 0 ∷ []) same ∙ sym (take_more ys i 0 there)

pub deepest_last : (ds : List ℕ) (d : ℕ) → 0 < length ds → deepest ds ≡ get_or ds (length ds - 1) d
deepest_last [] d some = absurd (omega (arith, some))
deepest_last (x ∷ []) d some = refl
deepest_last (x ∷ y ∷ ds) d some =
    let k : length (x ∷ y ∷ ds) - 1 ≡ suc (length (y ∷ ds) - 1) = omega arith in
    rw k (deepest_last (y ∷ ds) d (omega arith))

back_past : (ps : List SentPayload) (d i : ℕ) → d ≡ suc i → length ps ≤ i → back (entries_of ps) d ≡ None
back_past ps d i one past = rw (one, slice_get-map entry_of ps i, slice_get_past ps i past) refl

back_there : (ps : List SentPayload) (d i : ℕ) (x : SentPayload) → d ≡ suc i → i < length ps → x ≡ get_or ps i x → back (entries_of ps) d ≡ Some (entry_of x)
back_there ps d i x one there here = rw (one, slice_get-map entry_of ps i, slice_get_read ps (length ps) i x refl there here) refl

pub back_found : (ps : List SentPayload) (d i : ℕ) (r : Option (Bor SentPayload)) → d ≡ suc i → IsItemAt ps i r → Finds (λ x. entry_of x.now) r (back (entries_of ps) d)
back_found ps d i None one item = back_past ps d i one item.3
back_found ps d i (Some x) one item = back_there ps d i x.now one item.3.0 item.1

pub recorded_is : (ds : List ℕ) (old pushed new : List SentPayload) (x : SentPayload) (n : ℕ) → n ≡ deepest ds → pushed ≡ x ∷ old → new ≡ take n pushed → entries_of new ≡ take (deepest ds) (entry_of x ∷ entries_of old)
recorded_is ds old pushed new x n e f g = ap entries_of g ∙ sym (take-map entry_of n pushed) ∙ ap (λ t. take t (entries_of pushed)) e ∙ ap (λ t. take (deepest ds) (entries_of t)) f

pub synced_is : (ds : List ℕ) (old new : List SentPayload) (n : ℕ) → n ≡ deepest ds → new ≡ take n old → entries_of new ≡ take (deepest ds) (entries_of old)
synced_is ds old new n e g = ap entries_of g ∙ sym (take-map entry_of n old) ∙ ap (λ t. take t (entries_of old)) e

-- nothing is past the depth
pub all_within : (old : List SentPayload) (depth : ℕ) → length old ≤ depth → old ≡ take depth old
all_within old depth few = sym (take_all depth old few)

-- one is past the depth, and leaves
pub one_past : (old new : List SentPayload) (depth : ℕ) → length old ≤ depth + 1 → depth < length old → new ≡ take (length old - 1) old → new ≡ take depth old
one_past old new depth most past g =
    let one : length old - 1 ≡ depth = omega (arith, most, past) in
    g ∙ ap (λ k. take k old) one
