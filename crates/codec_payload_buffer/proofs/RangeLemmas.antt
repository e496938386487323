-- A part of the packets by their numbers is a part by place.
use Rattle.std.proofs.Common.{◌≡◌, ◌∙◌, ℕ, suc, ◌<◌, ◌≤◌, ◌+◌, ◌-◌, [], ◌∷◌, List, length, get_or, take, drop, map, refl, ap, sym, arith, true, false, cond, ltb, add-one}
use Rattle.std.proofs.lemmas.Bool.{cases_lt}
use Rattle.std.proofs.lemmas.List.{drop_more, length-take, length-drop, drop-map, take-map}
use Rattle.std.proofs.Common.{inl, inr}
use Rattle.std.proofs.lemmas.Bool.Decides.{nat_tests}
use Rattle.codec_payload_buffer.specs.Held.{Held, held_of, Rises, AllAbove, between, above}
use Rattle.codec_payload_buffer.specs.declared.buffer.held_packet.HeldPacket.{HeldPacket}
use Rattle.std.specs.Prelude.{slice_range}
use Rattle.codec_payload_buffer.specs.Scan.{place_of, end_of}
use Rattle.codec_payload_codec.proofs.CaseLemmas.{by_test}
use Rattle.codec_payload_buffer.proofs.PlaceLemmas.{above_lower}
use Rattle.codec_payload_buffer.proofs.RowLemmas.{none_between, all_above}

place_zero : (first n : ℕ) (hs : List Held) → first ≤ n → AllAbove n hs → place_of first hs ≡ 0
place_zero first n [] l a = refl
place_zero first n (p ∷ ps) l a = grind (arith, nat_tests, a.0)

pub end_within : (last : ℕ) (hs : List Held) → end_of last hs ≤ length hs
end_within last [] = omega arith
end_within last (q ∷ qs) = grind (arith, nat_tests, end_within last qs)

pub drop_above : (last : ℕ) (hs : List Held) → Rises hs → drop (end_of last hs) hs ≡ above last hs
drop_above last [] r = refl
drop_above last (q ∷ qs) r =
    by_test (ltb last q.meta.seq_no.0) (λ b. drop (cond b 0 (end_of last qs + 1)) (q ∷ qs) ≡ cond b (q ∷ above last qs) (above last qs))
    (λ over. ap (λ (zs : List Held). q ∷ zs) (sym (all_above last qs (above_lower last q.meta.seq_no.0 qs (grind (arith, nat_tests, over)) r.0))))
    (λ e. rw add-one (drop_above last qs r.1))

pub record IsSlice (first last : ℕ) (hs : List Held) : Type 0 where
  pub order : place_of first hs ≤ end_of last hs
  pub part : take (end_of last hs - place_of first hs) (drop (place_of first hs) hs) ≡ between first last hs

pub slice_between : (first last : ℕ) (hs : List Held) → Rises hs → first ≤ last → IsSlice first last hs
slice_between first last [] r le = record { order = omega arith; part = refl }
slice_between first last (q ∷ qs) r le =
    let rest = slice_between first last qs r.1 le in
    elim (cases_lt q.meta.seq_no.0 first) [
      | inl below ↦
          let t : ltb q.meta.seq_no.0 first ≡ true = grind (arith, nat_tests) in
          let u : ltb last q.meta.seq_no.0 ≡ false = grind (arith, nat_tests) in
          let same : end_of last qs + 1 - (place_of first qs + 1) ≡ end_of last qs - place_of first qs = omega arith in
          record { order = rw (t, u) (omega (arith, rest.order)); part = rw (t, u) (rw (same, add-one) rest.part) }
      | inr at_least ↦ elim (cases_lt last q.meta.seq_no.0) [
        | inl over ↦
            let t : ltb q.meta.seq_no.0 first ≡ false = grind (arith, nat_tests) in
            let u : ltb last q.meta.seq_no.0 ≡ true = grind (arith, nat_tests) in
            record { order = rw (t, u) (omega arith); part = rw (t, u) (sym (none_between first last q.meta.seq_no.0 qs (omega arith) r.0)) }
        | inr within ↦
            let t : ltb q.meta.seq_no.0 first ≡ false = grind (arith, nat_tests) in
            let u : ltb last q.meta.seq_no.0 ≡ false = grind (arith, nat_tests) in
            let zero_place = place_zero first q.meta.seq_no.0 qs at_least r.0 in
            let same : end_of last qs + 1 - 0 ≡ suc (end_of last qs) = omega arith in
            let whole : end_of last qs - 0 ≡ end_of last qs = omega arith in
            record { order = rw (t, u) (omega arith); part = rw (t, u) (rw same (ap (λ (zs : List Held). q ∷ zs) (rw whole at (rw zero_place at rest.part)))) }
      ]
    ]

-- if the numbers of the part are consecutive, they determine its length
pub end_from_place : (first last : ℕ) (hs : List Held) → Rises hs → first ≤ last → last + 1 ≡ first + length (between first last hs) → end_of last hs ≡ place_of first hs + (last - first) + 1
end_from_place first last hs r le whole =
    let slice = slice_between first last hs r le in
    let size = end_of last hs - place_of first hs in
    omega (arith, le, whole, slice.order, end_within last hs, ap length slice.part, length-take size (drop (place_of first hs) hs), length-drop (place_of first hs) hs)

-- a part of the entries, as packets
pub slice-map : (items : List HeldPacket) (from to : ℕ) → slice_range (map held_of items) from to ≡ map held_of (slice_range items from to)
slice-map items from to = simp (drop-map, take-map)

-- the items between two places are the first one and the items behind it
pub rest_from : (xs : List HeldPacket) (i to : ℕ) (q : HeldPacket) → i < to → to ≤ length xs → q ≡ get_or xs i q → slice_range xs i to ≡ q ∷ slice_range xs (i + 1) to
rest_from xs i to q more within is =
    let front : drop i xs ≡ get_or xs i q ∷ drop (i + 1) xs = drop_more xs i q (omega (arith, more, within)) in
    let size : to - i ≡ suc (to - (i + 1)) = omega (arith, more) in
    ap (λ (n : ℕ). take n (drop i xs)) size
    ∙ (ap (take (suc (to - (i + 1)))) front ∙ ap (λ (p : HeldPacket). p ∷ slice_range xs (i + 1) to) (sym is))

-- no item is between a place and itself
pub none_from : (xs : List HeldPacket) (i to : ℕ) → to ≤ i → slice_range xs i to ≡ []
none_from xs i to end = let size : to - i ≡ 0 = omega (arith, end) in ap (λ (n : ℕ). take n (drop i xs)) size
