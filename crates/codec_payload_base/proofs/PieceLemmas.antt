-- Pieces of a frame: how they grow, and how many there are.
use Rattle.std.proofs.Common.{◌≡◌, ◌∙◌, sym, ap, refl, ℕ, ◌+◌, ◌*◌, ◌<◌, ◌≤◌, List, [], ◌∷◌, ◌++◌, length, take, drop, arith, length-append, Ok, Err, eq-eqb}
use Rattle.std.proofs.lemmas.List.{length-take, length-drop, take_all, take-append-drop, append-nil}
use Rattle.std.proofs.Math.Seq.{take-append_seam, drop-append_seam}
use Rattle.std.proofs.lemmas.Grind.{div_ceil_times}
use Rattle.std.specs.Int.{div_ceil}
use Rattle.std.proofs.lemmas.Bool.{ne_eqb}
use Rattle.codec_payload_base.specs.declared.error.PacketError.TheVariants as faults
use Rattle.codec_payload_base.specs.Pieces.{joined, AreOfSize, ArePieces, AnswersPieces, pieces_from, IsOneList}

-- a count whose multiple of size is less than size above n is at most one whose multiple reaches n
at_most : (n size a b : ℕ) → a * size < n + size → n ≤ b * size → a ≤ b
at_most n size a b a_least b_reaches = grind arith

-- two counts are equal if each is the least whose multiple of size reaches n
one_count : (n size a b : ℕ) → n ≤ a * size → a * size < n + size → n ≤ b * size → b * size < n + size → a ≡ b
one_count n size a b a_reaches a_least b_reaches b_least =
    omega (arith, at_most n size a b a_least b_reaches, at_most n size b a b_least a_reaches)

-- pieces reach as far as they are many, and the last is not empty
covers : (size : ℕ) (pieces : List (List ℕ)) → 0 < size → AreOfSize size pieces
    → (length (joined pieces) ≤ length pieces * size) × (length pieces * size < length (joined pieces) + size)
covers size [] some sizes = (omega arith, omega arith)
covers size (piece ∷ []) some sizes = (simp length-append (omega (arith, sizes.0, sizes.1)), simp length-append (omega (arith, sizes.0, sizes.1)))
covers size (piece ∷ next ∷ pieces) some sizes =
    let rest = covers size (next ∷ pieces) some sizes.1 in
    let whole = length-append piece (joined (next ∷ pieces)) in
    (omega (arith, rest.0, sizes.0, whole), omega (arith, rest.1, sizes.0, whole))

pub count_of_pieces : (size : ℕ) (frame : List ℕ) (pieces : List (List ℕ)) → 0 < size → ArePieces size frame pieces → length pieces ≡ div_ceil (length frame) size
count_of_pieces size frame pieces some are =
    let reach = covers size pieces some are.sizes in
    let most = div_ceil_times (length frame) size some in
    let same : length (joined pieces) ≡ length frame = ap length are.join in
    one_count (length frame) size (length pieces) (div_ceil (length frame) size) (omega (arith, reach.0, same)) (omega (arith, reach.1, same)) most.0 most.1

-- one more piece in front
sizes_of_one : (size : ℕ) (rest : List ℕ) (more : List (List ℕ)) → 0 < size → 0 < length rest → joined more ≡ drop size rest → AreOfSize size more → AreOfSize size (take size rest ∷ more)
sizes_of_one size rest [] some left join sizes =
    let took = length-take size rest in
    (omega (arith, took), omega (arith, took))
sizes_of_one size rest (next ∷ more) some left join sizes =
    let reach = covers size (next ∷ more) some sizes in
    let beyond = ap length join ∙ length-drop size rest in
    let took = length-take size rest in
    (omega (arith, reach.1, beyond, took), sizes)

pub one_piece : (size : ℕ) (rest : List ℕ) (more : List (List ℕ)) → 0 < size → 0 < length rest → ArePieces size (drop size rest) more → ArePieces size rest (take size rest ∷ more)
one_piece size rest more some left are = record {
  join = ap (λ x. take size rest ++ x) are.join ∙ take-append-drop size rest;
  sizes = sizes_of_one size rest more some left are.join are.sizes;
}

-- nothing is cut into no pieces
pub no_pieces : (size : ℕ) (frame : List ℕ) → frame ≡ [] → ArePieces size frame []
no_pieces size frame nothing = record { join = sym nothing; sizes = tt }

-- pieces are determined by their number
told_by_count : (size : ℕ) (pieces : List (List ℕ)) → AreOfSize size pieces → pieces ≡ pieces_from (length pieces) size (joined pieces)
told_by_count size [] sizes = refl
told_by_count size (piece ∷ []) sizes = ap (λ p. p ∷ []) (sym (ap (take size) (append-nil piece) ∙ take_all size piece sizes.1))
told_by_count size (piece ∷ next ∷ pieces) sizes =
    let rest = joined (next ∷ pieces) in
    let count = length (next ∷ pieces) in
    let first : take size (piece ++ rest) ≡ piece = ap (λ n. take n (piece ++ rest)) (sym sizes.0) ∙ take-append_seam piece rest in
    let others : drop size (piece ++ rest) ≡ rest = ap (λ n. drop n (piece ++ rest)) (sym sizes.0) ∙ drop-append_seam piece rest in
    ap (λ ps. piece ∷ ps) (told_by_count size (next ∷ pieces) sizes.1 ∙ ap (λ x. pieces_from count size x) (sym others))
    ∙ ap (λ p. p ∷ pieces_from count size (drop size (piece ++ rest))) (sym first)

-- the pieces of a frame are one list
pub one_list : IsOneList
one_list size frame pieces some are =
    told_by_count size pieces are.sizes ∙ (ap (λ x. pieces_from (length pieces) size x) are.join ∙ ap (λ n. pieces_from n size frame) (count_of_pieces size frame pieces some are))

-- the result for a frame
pub answers_empty : (mtu : ℕ) (frame : List ℕ) → length frame ≡ 0 → AnswersPieces mtu frame (Ok [])
answers_empty mtu [] none = refl
answers_empty mtu (b ∷ bs) none = absurd (omega arith)

pub answers_no_room : (mtu : ℕ) (frame : List ℕ) → mtu ≡ 0 → AnswersPieces mtu frame (Ok [])
answers_no_room mtu [] none = refl
answers_no_room mtu (b ∷ bs) none = rw (eq-eqb mtu 0 none) refl

pub answers_pieces : (mtu : ℕ) (frame : List ℕ) (packets : List (List ℕ)) → 0 < mtu → 0 < length frame → ArePieces mtu frame packets → AnswersPieces mtu frame (Ok packets)
answers_pieces mtu [] packets room some are = absurd (omega arith)
answers_pieces mtu (b ∷ bs) packets room some are = rw (ne_eqb mtu 0 (λ none. omega arith)) (are, count_of_pieces mtu (b ∷ bs) packets room are)

pub answers_for_memory : (mtu : ℕ) (frame : List ℕ) → 0 < mtu → 0 < length frame → AnswersPieces mtu frame (Err faults.OutOfMemory)
answers_for_memory mtu [] room some = absurd (omega arith)
answers_for_memory mtu (b ∷ bs) room some = rw (ne_eqb mtu 0 (λ none. omega arith)) refl
