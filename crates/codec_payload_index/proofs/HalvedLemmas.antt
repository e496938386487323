-- What a level has of the level below it.
use Rattle.std.proofs.Common.{◌≡◌, ℕ, zero, suc, ◌<◌, ◌+◌, ◌*◌, ◌/◌, min, [], ◌∷◌, List, length, get_or, set, refl, ap, ◌∙◌, sym, arith, ◌%◌, Bool, true, false, cond, Option, Some, None, option_map}
use Rattle.std.specs.Prelude.{nat_le}
use Rattle.std.proofs.lemmas.Bool.Decides.{nat_tests}
use Rattle.codec_payload_index.specs.Times.{chosen, first_come, halved, least_of, place_below}

-- a pair has the lesser of its two times
pub pair_of_two : (ts : List ℕ) (k d : ℕ) → 2 * k + 1 < length ts → get_or (halved ts) k d ≡ min (get_or ts (2 * k) d) (get_or ts (2 * k + 1) d)
pair_of_two [] k d l = absurd (omega arith)
pair_of_two (a ∷ []) k d l = absurd (omega arith)
pair_of_two (a ∷ b ∷ ts) zero d l = refl
pair_of_two (a ∷ b ∷ ts) (suc k) d l =
    let even : 2 * suc k ≡ suc (suc (2 * k)) = omega arith in
    let odd : 2 * suc k + 1 ≡ suc (suc (2 * k + 1)) = omega arith in
    let first : get_or (a ∷ b ∷ ts) (2 * suc k) d ≡ get_or ts (2 * k) d = ap (λ i. get_or (a ∷ b ∷ ts) i d) even in
    let second : get_or (a ∷ b ∷ ts) (2 * suc k + 1) d ≡ get_or ts (2 * k + 1) d = ap (λ i. get_or (a ∷ b ∷ ts) i d) odd in
    rw (first, second) (pair_of_two ts k d (omega arith))

-- a last pair has its only time
pub pair_of_one : (ts : List ℕ) (k d : ℕ) → 2 * k + 1 ≡ length ts → get_or (halved ts) k d ≡ get_or ts (2 * k) d
pair_of_one [] k d l = absurd (omega arith)
pair_of_one (a ∷ []) zero d l = refl
pair_of_one (a ∷ []) (suc k) d l = absurd (omega arith)
pair_of_one (a ∷ b ∷ ts) zero d l = absurd (omega arith)
pair_of_one (a ∷ b ∷ ts) (suc k) d l =
    let even : 2 * suc k ≡ suc (suc (2 * k)) = omega arith in
    rw even (pair_of_one ts k d (omega arith))

-- a place has a pair
pub has_pair : (ts : List ℕ) (i : ℕ) → i < length ts → i / 2 < length (halved ts)
has_pair [] i l = absurd (omega arith)
has_pair (a ∷ []) i l = omega arith
has_pair (a ∷ b ∷ ts) zero l = omega arith
has_pair (a ∷ b ∷ ts) (suc zero) l = omega arith
has_pair (a ∷ b ∷ ts) (suc (suc i)) l =
    let next = has_pair ts i (omega arith) in
    omega (arith, next)

-- one time is replaced: the level above changes at its pair alone
pub pair_replaced : (ts : List ℕ) (i t d : ℕ) → i < length ts → set (halved ts) (i / 2) (get_or (halved (set ts i t)) (i / 2) d) ≡ halved (set ts i t)
pair_replaced [] i t d l = absurd (omega arith)
pair_replaced (a ∷ []) zero t d l = refl
pair_replaced (a ∷ []) (suc i) t d l = absurd (omega arith)
pair_replaced (a ∷ b ∷ ts) zero t d l = refl
pair_replaced (a ∷ b ∷ ts) (suc zero) t d l = refl
pair_replaced (a ∷ b ∷ ts) (suc (suc i)) t d l =
    let half : suc (suc i) / 2 ≡ suc (i / 2) = omega arith in
    rw half (ap (λ us. min a b ∷ us) (pair_replaced ts i t d (omega arith)))

chosen_behind : (c : Bool) (place : ℕ) → option_map suc (option_map suc (chosen c place)) ≡ chosen c (suc (suc place))
chosen_behind true place = refl
chosen_behind false place =
    let same : suc (suc (place + 1)) ≡ suc (suc place) + 1 = omega arith in
    ap (λ (p : ℕ). Some p) same

-- behind two times that have not come
pub place_behind : (now a b : ℕ) (ts : List ℕ) (k : Option ℕ) → option_map suc (option_map suc (place_below now ts k)) ≡ place_below now (a ∷ b ∷ ts) (option_map suc k)
place_behind now a b ts None = refl
place_behind now a b ts (Some k) =
    let even : suc (suc (2 * k)) ≡ 2 * suc k = omega arith in
    let same : get_or ts (2 * k) 0 ≡ get_or (a ∷ b ∷ ts) (2 * suc k) 0 = ap (λ (i : ℕ). get_or (a ∷ b ∷ ts) i 0) even in
    chosen_behind (nat_le (get_or ts (2 * k) 0) now) (2 * k) ∙ ap (λ (p : ℕ). chosen (nat_le (get_or ts (2 * k) 0) now) p) even
    ∙ ap (λ (t : ℕ). chosen (nat_le t now) (2 * suc k)) same

-- the first place whose time has come, by the first one in the level above
pub first_by_above : (now : ℕ) (ts : List ℕ) → first_come now ts ≡ place_below now ts (first_come now (halved ts))
first_by_above now [] = refl
first_by_above now (a ∷ []) = by_test (nat_le a now) refl
  where
    by_test : (c : Bool) → nat_le a now ≡ c → cond c (Some 0) None ≡ place_below now (a ∷ []) (cond c (Some 0) None)
    by_test true is = sym (ap (λ (d : Bool). chosen d 0) is)
    by_test false is = refl
first_by_above now (a ∷ b ∷ ts) = by_tests (nat_le a now) (nat_le b now) (nat_le (min a b) now) refl refl refl (first_by_above now ts)
  where
    by_tests : (c d e : Bool) → nat_le a now ≡ c → nat_le b now ≡ d → nat_le (min a b) now ≡ e → first_come now ts ≡ place_below now ts (first_come now (halved ts))
        → cond c (Some 0) (option_map suc (cond d (Some 0) (option_map suc (first_come now ts)))) ≡ place_below now (a ∷ b ∷ ts) (cond e (Some 0) (option_map suc (first_come now (halved ts))))
    by_tests true d true f g h rest = sym (ap (λ (x : Bool). chosen x 0) f)
    by_tests true d false f g h rest = absurd (grind (arith, nat_tests, f, h))
    by_tests false true true f g h rest = sym (ap (λ (x : Bool). chosen x 0) f)
    by_tests false true false f g h rest = absurd (grind (arith, nat_tests, g, h))
    by_tests false false true f g h rest = absurd (grind (arith, nat_tests, f, g, h))
    by_tests false false false f g h rest =
        ap (λ (k : Option ℕ). option_map suc (option_map suc k)) rest ∙ place_behind now a b ts (first_come now (halved ts))

behind_first : (now : ℕ) (ts : List ℕ) (k : ℕ) (o : Option ℕ) → ((j : ℕ) → Some j ≡ o → j < length ts) → Some k ≡ option_map suc o → k < suc (length ts)
behind_first now ts k None within is = absurd (grind (arith, is))
behind_first now ts k (Some j) within is =
    let same : k ≡ suc j = grind (arith, is) in
    omega (arith, within j refl, same)

by_first : (now : ℕ) (ts : List ℕ) (k : ℕ) (c : Bool) → ((j : ℕ) → Some j ≡ first_come now ts → j < length ts) → Some k ≡ cond c (Some 0) (option_map suc (first_come now ts)) → k < suc (length ts)
by_first now ts k true within is =
    let same : k ≡ 0 = grind (arith, is) in
    omega (arith, same)
by_first now ts k false within is = behind_first now ts k (first_come now ts) within is

-- it is in the list
pub first_within : (now : ℕ) (ts : List ℕ) (k : ℕ) → Some k ≡ first_come now ts → k < length ts
first_within now [] k is = absurd (grind (arith, is))
first_within now (t ∷ ts) k is = by_first now ts k (nat_le t now) (first_within now ts) is

-- a pair has a first time
pub pair_within : (ts : List ℕ) (k : ℕ) → k < length (halved ts) → 2 * k < length ts
pair_within [] k l = omega (arith, l)
pair_within (a ∷ []) k l = omega (arith, l)
pair_within (a ∷ b ∷ ts) zero l = omega arith
pair_within (a ∷ b ∷ ts) (suc k) l = omega (arith, pair_within ts k (omega (arith, l)))

-- the same for a pair that was found
pub found_within : (now : ℕ) (ts : List ℕ) (k : ℕ) → Some k ≡ first_come now (halved ts) → 2 * k < length ts
found_within now ts k is = pair_within ts k (first_within now (halved ts) k is)

pub found_below : (now : ℕ) (ts : List ℕ) (k : Option ℕ) → k ≡ first_come now (halved ts) → place_below now ts k ≡ first_come now ts
found_below now ts k is = ap (λ (o : Option ℕ). place_below now ts o) is ∙ sym (first_by_above now ts)

-- how many pairs there are
pub pairs_of : (ts : List ℕ) → length (halved ts) ≡ length ts / 2 + length ts % 2
pairs_of [] = refl
pairs_of (a ∷ []) = refl
pairs_of (a ∷ b ∷ ts) = omega (arith, pairs_of ts)

pub fewer_pairs : (ts : List ℕ) → 1 < length ts → length (halved ts) < length ts
fewer_pairs ts l = omega (arith, pairs_of ts, l)

min_of_three : (a b c : ℕ) → min (min a b) c ≡ min a (min b c)
min_of_three a b c = grind arith

-- the level above has the same least time
pub least_above : (ts : List ℕ) → least_of (halved ts) ≡ least_of ts
least_above [] = refl
least_above (a ∷ []) = refl
least_above (a ∷ b ∷ ts) = ap (λ (t : ℕ). min (min a b) t) (least_above ts) ∙ min_of_three a b (least_of ts)
