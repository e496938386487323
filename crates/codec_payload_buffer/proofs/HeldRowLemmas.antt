-- Consecutive numbers among packets in order.
use Rattle.std.proofs.Common.{◌≡◌, ℕ, zero, suc, ◌≢◌, ◌<◌, ◌≤◌, ◌+◌, ◌-◌, eqb, ltb, subst, [], ◌∷◌, List, length, get_or, map, refl, ap, ◌∙◌, arith, Bool, true, false}
use Rattle.std.proofs.lemmas.List.{length-map}
use Rattle.std.proofs.lemmas.Bool.Decides.{nat_tests}
use Rattle.codec_payload_buffer.specs.declared.buffer.held_packet.HeldPacket.{HeldPacket}
use Rattle.codec_payload_buffer.specs.Held.{held_of, Rises, has_number}
use Rattle.codec_payload_buffer.specs.HeldRows.{AreHeldFrom, IsRowFrom}
use Rattle.codec_payload_buffer.specs.Scan.{place_of}
use Rattle.codec_payload_buffer.proofs.PlaceLemmas.{at_place, past_place}
use Rattle.codec_payload_buffer.proofs.SearchLemmas.{same_there}

-- from place to place the numbers grow by at least one
pub numbers_grow : (xs : List HeldPacket) (d : HeldPacket) → Rises (map held_of xs) → (i j : ℕ) → i ≤ j → j < length xs
    → (get_or xs i d).number + (j - i) ≤ (get_or xs j d).number
numbers_grow [] d r i j le l = absurd (omega arith)
numbers_grow (x ∷ xs) d r zero zero le l = omega arith
numbers_grow (x ∷ []) d r zero (suc j) le l = absurd (omega arith)
numbers_grow (x ∷ y ∷ ys) d r zero (suc j) le l =
    let rest = numbers_grow (y ∷ ys) d r.1 zero j (omega arith) (omega arith) in
    let from : (get_or (x ∷ y ∷ ys) zero d).number ≡ x.number = refl in
    let next : (get_or (y ∷ ys) zero d).number ≡ y.number = refl in
    let to : (get_or (x ∷ y ∷ ys) (suc j) d).number ≡ (get_or (y ∷ ys) j d).number = refl in
    let over : x.packet.value.known.seq_no.0 < y.packet.value.known.seq_no.0 = r.0.0 in
    omega (arith, rest, over, x.numbered, y.numbered, from, next, to)
numbers_grow (x ∷ xs) d r (suc i) zero le l = absurd (omega arith)
numbers_grow (x ∷ xs) d r (suc i) (suc j) le l =
    let rest = numbers_grow xs d r.1 i j (omega arith) (omega arith) in
    let from : (get_or (x ∷ xs) (suc i) d).number ≡ (get_or xs i d).number = refl in
    let to : (get_or (x ∷ xs) (suc j) d).number ≡ (get_or xs j d).number = refl in
    omega (arith, rest, from, to)

-- between two places whose numbers lie as far apart as the places, each number follows the one before
pub row_between : (xs : List HeldPacket) (d : HeldPacket) → Rises (map held_of xs) → (i last k : ℕ) → k ≤ last → i + last < length xs
    → (get_or xs (i + last) d).number ≡ (get_or xs i d).number + last → (get_or xs (i + k) d).number ≡ (get_or xs i d).number + k
row_between xs d r i last k le l is =
    let low = numbers_grow xs d r i (i + k) (omega arith) (omega arith) in
    let high = numbers_grow xs d r (i + k) (i + last) (omega arith) (omega arith) in
    omega (arith, low, high, is)

-- the number of each packet is held
pub number_at : (xs : List HeldPacket) (i : ℕ) (d : HeldPacket) → i < length xs → has_number (get_or xs i d).number (map held_of xs) ≡ true
number_at [] i d l = absurd (omega arith)
number_at (x ∷ xs) zero d l = grind (arith, nat_tests, x.numbered)
number_at (x ∷ xs) (suc i) d l = grind (arith, nat_tests, number_at xs i d (omega arith))

-- a held number is that of a packet at some place
pub record IsAt (n : ℕ) (xs : List HeldPacket) (d : HeldPacket) : Type 0 where
  pub place : ℕ
  pub within : place < length xs
  pub is : (get_or xs place d).number ≡ n

pub place_with : (n : ℕ) (xs : List HeldPacket) (d : HeldPacket) → has_number n (map held_of xs) ≡ true → IsAt n xs d
place_with n [] d h = let no : ⊥ = cc in absurd no
place_with n (x ∷ xs) d h = by_first (λ later. place_with n xs d later) (eqb x.packet.value.known.seq_no.0 n) refl
  where
    by_first : (has_number n (map held_of xs) ≡ true → IsAt n xs d) → (b : Bool) → eqb x.packet.value.known.seq_no.0 n ≡ b → IsAt n (x ∷ xs) d
    by_first rest true e = record { place = zero; within = omega arith; is = x.numbered ∙ grind (arith, nat_tests, e) }
    by_first rest false e =
        let later = rest (grind (arith, nat_tests, h, e)) in
        record { place = suc later.place; within = omega (arith, later.within); is = later.is }

-- the same of two packets that were read
pub grown : (xs : List HeldPacket) (i j : ℕ) (x y : HeldPacket) → Rises (map held_of xs) → i ≤ j → j < length xs → x ≡ get_or xs i x → y ≡ get_or xs j y → x.number + (j - i) ≤ y.number
grown xs i j x y r le l there here =
    let grow = numbers_grow xs x r i j le l in
    let from : x.number ≡ (get_or xs i x).number = ap (λ (p : HeldPacket). p.number) there in
    let to : y.number ≡ (get_or xs j x).number = ap (λ (p : HeldPacket). p.number) (here ∙ same_there xs j y x l) in
    omega (arith, grow, from, to)

-- a row of which the last packet is known
pub row_of_last : (xs : List HeldPacket) (place count : ℕ) → Rises (map held_of xs) → 1 ≤ count → place + count ≤ length xs
    → ((p : HeldPacket) (k : ℕ) → k + 1 ≡ count → (get_or xs (place + k) p).number ≡ (get_or xs place p).number + k)
    → ((p : HeldPacket) → place + count < length xs → (get_or xs (place + count) p).number ≢ (get_or xs place p).number + count)
    → IsRowFrom xs place count
row_of_last xs place count r some within last end = record {
  some = some;
  within = within;
  row = λ p k l. row_between xs p r place (count - 1) k (omega arith) (omega arith) (last p (count - 1) (omega arith));
  end = end;
}

-- the numbers of a row are held
pub row_is_held : (n count : ℕ) (xs : List HeldPacket) (place : ℕ) → IsRowFrom xs place count → ((d : HeldPacket) → (get_or xs place d).number ≡ n) → AreHeldFrom n count (map held_of xs)
row_is_held n count [] place row at = λ k l. let within = row.within in absurd (omega (arith, within, l))
row_is_held n count (d ∷ ps) place row at = λ k l.
    let xs = d ∷ ps in
    let within = row.within in
    let there = number_at xs (place + k) d (omega (arith, within, l)) in
    let number : (get_or xs (place + k) d).number ≡ n + k = omega (arith, row.row d k l, at d) in
    subst (λ m. has_number m (map held_of xs) ≡ true) number there

-- the number behind a row is not held
row_ends_by : (n count : ℕ) (xs : List HeldPacket) (place : ℕ) (d : HeldPacket) → Rises (map held_of xs) → IsRowFrom xs place count → (get_or xs place d).number ≡ n
    → has_number (n + count) (map held_of xs) ≡ false
row_ends_by n count xs place d r row at = by_test (has_number (n + count) (map held_of xs)) refl
  where
    past : (i : ℕ) → i < length xs → (get_or xs i d).number ≡ n + count → place + count ≤ i → ⊥
    past i l is le =
        let grow = numbers_grow xs d r (place + count) i le l in
        let last = numbers_grow xs d r (place + (count - 1)) (place + count) (omega arith) (omega (arith, le, l)) in
        let end = row.end d (omega (arith, le, l)) in
        let before = row.row d (count - 1) (omega (arith, row.some)) in
        end (omega (arith, grow, last, is, at, before, row.some))

    within : (i : ℕ) → i < length xs → (get_or xs i d).number ≡ n + count → i < place + count → ⊥
    within i l is le =
        let last = numbers_grow xs d r i (place + (count - 1)) (omega (arith, le, row.some)) (omega (arith, row.within, row.some)) in
        let before = row.row d (count - 1) (omega (arith, row.some)) in
        omega (arith, last, is, at, before, row.some)

    by_place : (found : IsAt (n + count) xs d) (b : Bool) → ltb found.place (place + count) ≡ b → ⊥
    by_place found true e = within found.place found.within found.is (grind (arith, nat_tests, e))
    by_place found false e = past found.place found.within found.is (grind (arith, nat_tests, e))

    by_test : (b : Bool) → has_number (n + count) (map held_of xs) ≡ b → b ≡ false
    by_test false e = refl
    by_test true e = let found = place_with (n + count) xs d e in absurd (by_place found (ltb found.place (place + count)) refl)

pub row_ends : (n count : ℕ) (xs : List HeldPacket) (place : ℕ) → Rises (map held_of xs) → IsRowFrom xs place count → ((d : HeldPacket) → (get_or xs place d).number ≡ n)
    → has_number (n + count) (map held_of xs) ≡ false
row_ends n count [] place r row at = refl
row_ends n count (d ∷ ps) place r row at = row_ends_by n count (d ∷ ps) place d r row (at d)

-- a held number is at its place
pub record IsFound (n : ℕ) (xs : List HeldPacket) (place : ℕ) : Type 0 where
  pub within : place < length xs
  pub is : (d : HeldPacket) → (get_or xs place d).number ≡ n

pub found : (n : ℕ) (xs : List HeldPacket) (place : ℕ) → Rises (map held_of xs) → has_number n (map held_of xs) ≡ true → place ≡ place_of n (map held_of xs) → IsFound n xs place
found n xs place r held is = rw is (record { within = inside; is = number })
  where
    by_length : (b : Bool) → ltb (place_of n (map held_of xs)) (length xs) ≡ b → place_of n (map held_of xs) < length xs
    by_length true e = grind (arith, nat_tests, e)
    by_length false e =
        let le : length xs ≤ place_of n (map held_of xs) = grind (arith, nat_tests, e) in
        let out = past_place n (map held_of xs) r (omega (arith, length-map xs held_of, le)) in
        let no : ⊥ = cc in
        absurd no

    inside : place_of n (map held_of xs) < length xs
    inside = by_length (ltb (place_of n (map held_of xs)) (length xs)) refl

    number : (d : HeldPacket) → (get_or xs (place_of n (map held_of xs)) d).number ≡ n
    number d =
        let same : (get_or xs (place_of n (map held_of xs)) d).number ≡ (get_or xs (place_of n (map held_of xs)) d).packet.value.known.seq_no.0 = (get_or xs (place_of n (map held_of xs)) d).numbered in
        let test = at_place n xs d r inside in
        grind (arith, nat_tests, same, test, held)
