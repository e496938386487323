-- The sum of all bit strings but one.
use Rattle.std.proofs.Common.{◌≡◌, ℕ, ◌<◌, ◌≤◌, List, [], ◌∷◌, ◌++◌, length, get_or, refl, ap, ◌∙◌, arith, bit_xor}
use Rattle.codec_payload_fec.specs.Strings.{BitString, added, added_all, bit_string, xor_all}
use Rattle.codec_payload_fec.proofs.XorLemmas.{at_sum, at_xor, length_sum, length_xor}
use Rattle.codec_payload_fec.proofs.XorTotals.{but_one, on, total}

-- a number of a bit string
abbrev pub part : (BitString → ℕ) → List ℕ → ℕ
part field p = field (bit_string p)

abbrev byte_at : ℕ → BitString → ℕ
byte_at i a = get_or a.bytes i 0

-- ---- the sum of all

first_all : (ps : List (List ℕ)) → (xor_all ps).first ≡ total (part (λ a. a.first)) ps
first_all [] = refl
first_all (p ∷ ps) = ap (λ (n : ℕ). bit_xor (bit_string p).first n) (first_all ps)

second_all : (ps : List (List ℕ)) → (xor_all ps).second ≡ total (part (λ a. a.second)) ps
second_all [] = refl
second_all (p ∷ ps) = ap (λ (n : ℕ). bit_xor (bit_string p).second n) (second_all ps)

time_all : (ps : List (List ℕ)) → (xor_all ps).time ≡ total (part (λ a. a.time)) ps
time_all [] = refl
time_all (p ∷ ps) = ap (λ (n : ℕ). bit_xor (bit_string p).time n) (time_all ps)

size_all : (ps : List (List ℕ)) → (xor_all ps).size ≡ total (part (λ a. a.size)) ps
size_all [] = refl
size_all (p ∷ ps) = ap (λ (n : ℕ). bit_xor (bit_string p).size n) (size_all ps)

pub bytes_all : (i : ℕ) (ps : List (List ℕ)) → get_or (xor_all ps).bytes i 0 ≡ total (part (byte_at i)) ps
bytes_all i [] = refl
bytes_all i (p ∷ ps) = at_xor (bit_string p).bytes (xor_all ps).bytes i ∙ ap (λ (n : ℕ). bit_xor (get_or (bit_string p).bytes i 0) n) (bytes_all i ps)

-- each is at most as long as the sum
one_of_all : (ps : List (List ℕ)) (q : List ℕ) (qs : List (List ℕ)) → length (bit_string q).bytes ≤ length (xor_all (ps ++ q ∷ qs)).bytes
one_of_all [] q qs = omega (arith, length_xor (bit_string q).bytes (xor_all qs).bytes)
one_of_all (p ∷ ps) q qs = omega (arith, one_of_all ps q qs, length_xor (bit_string p).bytes (xor_all (ps ++ q ∷ qs)).bytes)

-- ---- what is added to it

first_added : (ps : List (List ℕ)) (a : BitString) → (added_all ps a).first ≡ on (part (λ a. a.first)) a.first ps
first_added [] a = refl
first_added (p ∷ ps) a = first_added ps (added p a)

second_added : (ps : List (List ℕ)) (a : BitString) → (added_all ps a).second ≡ on (part (λ a. a.second)) a.second ps
second_added [] a = refl
second_added (p ∷ ps) a = second_added ps (added p a)

time_added : (ps : List (List ℕ)) (a : BitString) → (added_all ps a).time ≡ on (part (λ a. a.time)) a.time ps
time_added [] a = refl
time_added (p ∷ ps) a = time_added ps (added p a)

size_added : (ps : List (List ℕ)) (a : BitString) → (added_all ps a).size ≡ on (part (λ a. a.size)) a.size ps
size_added [] a = refl
size_added (p ∷ ps) a = size_added ps (added p a)

pub length_added : (ps : List (List ℕ)) (a : BitString) → length (added_all ps a).bytes ≡ length a.bytes
length_added [] a = refl
length_added (p ∷ ps) a = length_added ps (added p a) ∙ length_sum a.bytes (bit_string p).bytes

pub bytes_added : (i : ℕ) (ps : List (List ℕ)) (a : BitString) → i < length a.bytes → get_or (added_all ps a).bytes i 0 ≡ on (part (byte_at i)) (get_or a.bytes i 0) ps
bytes_added i [] a h = refl
bytes_added i (p ∷ ps) a h =
    bytes_added i ps (added p a) (omega (arith, length_sum a.bytes (bit_string p).bytes, h))
    ∙ ap (λ (n : ℕ). on (part (byte_at i)) n ps) (at_sum a.bytes (bit_string p).bytes i h)

-- ---- all but one

-- the same fields, and bytes that begin with the other ones
pub record BeginsWith (a b : BitString) : Type 0 where
  pub first : a.first ≡ b.first
  pub second : a.second ≡ b.second
  pub time : a.time ≡ b.time
  pub size : a.size ≡ b.size
  pub enough : length b.bytes ≤ length a.bytes
  pub bytes : (i : ℕ) → i < length a.bytes → get_or a.bytes i 0 ≡ get_or b.bytes i 0

abbrev sum_but : List (List ℕ) → List ℕ → List (List ℕ) → BitString
sum_but ps q qs = added_all (ps ++ qs) (xor_all (ps ++ q ∷ qs))

pub all_but_one : (ps : List (List ℕ)) (q : List ℕ) (qs : List (List ℕ)) → BeginsWith (sum_but ps q qs) (bit_string q)
all_but_one ps q qs =
    let all : BitString = xor_all (ps ++ q ∷ qs) in
    let same : length (added_all (ps ++ qs) all).bytes ≡ length all.bytes = length_added (ps ++ qs) all in
    record {
      first = first_added (ps ++ qs) all ∙ ap (λ (n : ℕ). on (part (λ a. a.first)) n (ps ++ qs)) (first_all (ps ++ q ∷ qs)) ∙ but_one (part (λ a. a.first)) ps q qs;
      second = second_added (ps ++ qs) all ∙ ap (λ (n : ℕ). on (part (λ a. a.second)) n (ps ++ qs)) (second_all (ps ++ q ∷ qs)) ∙ but_one (part (λ a. a.second)) ps q qs;
      time = time_added (ps ++ qs) all ∙ ap (λ (n : ℕ). on (part (λ a. a.time)) n (ps ++ qs)) (time_all (ps ++ q ∷ qs)) ∙ but_one (part (λ a. a.time)) ps q qs;
      size = size_added (ps ++ qs) all ∙ ap (λ (n : ℕ). on (part (λ a. a.size)) n (ps ++ qs)) (size_all (ps ++ q ∷ qs)) ∙ but_one (part (λ a. a.size)) ps q qs;
      enough = omega (arith, same, one_of_all ps q qs);
      bytes = λ i h. bytes_added i (ps ++ qs) all (omega (arith, same, h)) ∙ ap (λ (n : ℕ). on (part (byte_at i)) n (ps ++ qs)) (bytes_all i (ps ++ q ∷ qs)) ∙ but_one (part (byte_at i)) ps q qs;
    }
