-- Extended ids go along with the counters whose low bits the ids are.
use Rattle.std.proofs.Common.{◌≡◌, refl, ℕ, ◌+◌, ◌-◌, ◌%◌, ◌^◌, ◌<◌, ◌≤◌, List, [], ◌∷◌, map, Bool, true, false, Some, arith}
use Rattle.std.specs.Prelude.{nat_le}
use Rattle.std.proofs.lemmas.Bool.{leb-true, leb-false}
use Rattle.codec_payload_base.specs.Extended.{ahead, nearest, extended_each, AreNear, GoAlong, NumbersGoAlong}
use Rattle.codec_payload_base.specs.PictureIds.{extended_by, extended_ids, IdsGoAlong}
use Rattle.codec_payload_base.specs.declared.picture_id.PictureId.TheVariants.{Short, Long}

-- differences add up, modulo 2^64
joined_64 : (n last before next first number : ℕ) → (n + last) % 2 ^ 64 ≡ (before + next) % 2 ^ 64 → (before + first) % 2 ^ 64 ≡ (number + last) % 2 ^ 64
    → (n + first) % 2 ^ 64 ≡ (number + next) % 2 ^ 64
joined_64 n last before next first number one so_far = omega (arith, one, so_far)

-- the distance by which the last id's bits are moved
moved_64 : (near raw last before next : ℕ) → raw < 2 ^ 64 → (near + last) % 2 ^ 64 ≡ (raw + next) % 2 ^ 64
    → ((before + (near + 2 ^ 64 - raw) % 2 ^ 64) % 2 ^ 64 + last) % 2 ^ 64 ≡ (before + next) % 2 ^ 64
moved_64 near raw last before next small one = omega (arith, small, one)

near_128_by : (b : Bool) (previous id : ℕ) → nat_le (ahead 128 previous id) 64 ≡ b → (last next : ℕ) → previous % 128 ≡ last % 128 → id % 128 ≡ next % 128 → next < last + 64 → last < next + 64
    → (nearest 128 previous id + last) % 2 ^ 64 ≡ (previous + next) % 2 ^ 64
near_128_by true previous id is last next same_last same_next up down =
    let few : ahead 128 previous id ≤ 64 = leb-true (ahead 128 previous id) 64 is in
    rw is (omega (arith, few, same_last, same_next, up, down))
near_128_by false previous id is last next same_last same_next up down =
    let many : 64 < ahead 128 previous id = leb-false (ahead 128 previous id) 64 is in
    rw is (omega (arith, many, same_last, same_next, up, down))

near_128 : (previous id last next : ℕ) → previous % 128 ≡ last % 128 → id % 128 ≡ next % 128 → next < last + 64 → last < next + 64
    → (nearest 128 previous id + last) % 2 ^ 64 ≡ (previous + next) % 2 ^ 64
near_128 previous id last next same_last same_next up down = near_128_by (nat_le (ahead 128 previous id) 64) previous id refl last next same_last same_next up down

low_128_by : (b : Bool) (previous id : ℕ) → nat_le (ahead 128 previous id) 64 ≡ b → nearest 128 previous id % 128 ≡ id % 128
low_128_by true previous id is = let few : ahead 128 previous id ≤ 64 = leb-true (ahead 128 previous id) 64 is in rw is (omega (arith, few))
low_128_by false previous id is = let many : 64 < ahead 128 previous id = leb-false (ahead 128 previous id) 64 is in rw is (omega (arith, many))

-- the number has the low bits of the id
low_128 : (previous id : ℕ) → nearest 128 previous id % 128 ≡ id % 128
low_128 previous id = low_128_by (nat_le (ahead 128 previous id) 64) previous id refl

numbers_128 : (number first before last : ℕ) (counters : List ℕ) → before % 128 ≡ last % 128 → (before + first) % 2 ^ 64 ≡ (number + last) % 2 ^ 64 → AreNear 128 last counters
    → GoAlong number first (extended_each 128 (Some before) (map (λ c. c % 128) counters)) counters
numbers_128 number first before last [] same so_far near = tt
numbers_128 number first before last (next ∷ counters) same so_far near =
    let n : ℕ = nearest 128 before (next % 128) in
    let one : (nearest 128 before (next % 128) + last) % 2 ^ 64 ≡ (before + next) % 2 ^ 64 = near_128 before (next % 128) last next same (omega arith) near.0 near.1 in
    let along : (nearest 128 before (next % 128) + first) % 2 ^ 64 ≡ (number + next) % 2 ^ 64 = joined_64 (nearest 128 before (next % 128)) last before next first number one so_far in
    let low : nearest 128 before (next % 128) % 128 ≡ next % 128 = let l = low_128 before (next % 128) in omega (arith, l) in
    (along, numbers_128 number first (nearest 128 before (next % 128)) next counters low along near.2)

pub numbers_go_along_128 : NumbersGoAlong 128
numbers_go_along_128 first counters near = numbers_128 (first % 128) first (first % 128) first counters (omega arith) refl near

near_256_by : (b : Bool) (previous id : ℕ) → nat_le (ahead 256 previous id) 128 ≡ b → (last next : ℕ) → previous % 256 ≡ last % 256 → id % 256 ≡ next % 256 → next < last + 128 → last < next + 128
    → (nearest 256 previous id + last) % 2 ^ 64 ≡ (previous + next) % 2 ^ 64
near_256_by true previous id is last next same_last same_next up down =
    let few : ahead 256 previous id ≤ 128 = leb-true (ahead 256 previous id) 128 is in
    rw is (omega (arith, few, same_last, same_next, up, down))
near_256_by false previous id is last next same_last same_next up down =
    let many : 128 < ahead 256 previous id = leb-false (ahead 256 previous id) 128 is in
    rw is (omega (arith, many, same_last, same_next, up, down))

near_256 : (previous id last next : ℕ) → previous % 256 ≡ last % 256 → id % 256 ≡ next % 256 → next < last + 128 → last < next + 128
    → (nearest 256 previous id + last) % 2 ^ 64 ≡ (previous + next) % 2 ^ 64
near_256 previous id last next same_last same_next up down = near_256_by (nat_le (ahead 256 previous id) 128) previous id refl last next same_last same_next up down

low_256_by : (b : Bool) (previous id : ℕ) → nat_le (ahead 256 previous id) 128 ≡ b → nearest 256 previous id % 256 ≡ id % 256
low_256_by true previous id is = let few : ahead 256 previous id ≤ 128 = leb-true (ahead 256 previous id) 128 is in rw is (omega (arith, few))
low_256_by false previous id is = let many : 128 < ahead 256 previous id = leb-false (ahead 256 previous id) 128 is in rw is (omega (arith, many))

-- the number has the low bits of the id
low_256 : (previous id : ℕ) → nearest 256 previous id % 256 ≡ id % 256
low_256 previous id = low_256_by (nat_le (ahead 256 previous id) 128) previous id refl

numbers_256 : (number first before last : ℕ) (counters : List ℕ) → before % 256 ≡ last % 256 → (before + first) % 2 ^ 64 ≡ (number + last) % 2 ^ 64 → AreNear 256 last counters
    → GoAlong number first (extended_each 256 (Some before) (map (λ c. c % 256) counters)) counters
numbers_256 number first before last [] same so_far near = tt
numbers_256 number first before last (next ∷ counters) same so_far near =
    let n : ℕ = nearest 256 before (next % 256) in
    let one : (nearest 256 before (next % 256) + last) % 2 ^ 64 ≡ (before + next) % 2 ^ 64 = near_256 before (next % 256) last next same (omega arith) near.0 near.1 in
    let along : (nearest 256 before (next % 256) + first) % 2 ^ 64 ≡ (number + next) % 2 ^ 64 = joined_64 (nearest 256 before (next % 256)) last before next first number one so_far in
    let low : nearest 256 before (next % 256) % 256 ≡ next % 256 = let l = low_256 before (next % 256) in omega (arith, l) in
    (along, numbers_256 number first (nearest 256 before (next % 256)) next counters low along near.2)

pub numbers_go_along_256 : NumbersGoAlong 256
numbers_go_along_256 first counters near = numbers_256 (first % 256) first (first % 256) first counters (omega arith) refl near

near_32768_by : (b : Bool) (previous id : ℕ) → nat_le (ahead 32768 previous id) 16384 ≡ b → (last next : ℕ) → previous % 32768 ≡ last % 32768 → id % 32768 ≡ next % 32768 → next < last + 16384 → last < next + 16384
    → (nearest 32768 previous id + last) % 2 ^ 64 ≡ (previous + next) % 2 ^ 64
near_32768_by true previous id is last next same_last same_next up down =
    let few : ahead 32768 previous id ≤ 16384 = leb-true (ahead 32768 previous id) 16384 is in
    rw is (omega (arith, few, same_last, same_next, up, down))
near_32768_by false previous id is last next same_last same_next up down =
    let many : 16384 < ahead 32768 previous id = leb-false (ahead 32768 previous id) 16384 is in
    rw is (omega (arith, many, same_last, same_next, up, down))

near_32768 : (previous id last next : ℕ) → previous % 32768 ≡ last % 32768 → id % 32768 ≡ next % 32768 → next < last + 16384 → last < next + 16384
    → (nearest 32768 previous id + last) % 2 ^ 64 ≡ (previous + next) % 2 ^ 64
near_32768 previous id last next same_last same_next up down = near_32768_by (nat_le (ahead 32768 previous id) 16384) previous id refl last next same_last same_next up down

low_32768_by : (b : Bool) (previous id : ℕ) → nat_le (ahead 32768 previous id) 16384 ≡ b → nearest 32768 previous id % 32768 ≡ id % 32768
low_32768_by true previous id is = let few : ahead 32768 previous id ≤ 16384 = leb-true (ahead 32768 previous id) 16384 is in rw is (omega (arith, few))
low_32768_by false previous id is = let many : 16384 < ahead 32768 previous id = leb-false (ahead 32768 previous id) 16384 is in rw is (omega (arith, many))

-- the number has the low bits of the id
low_32768 : (previous id : ℕ) → nearest 32768 previous id % 32768 ≡ id % 32768
low_32768 previous id = low_32768_by (nat_le (ahead 32768 previous id) 16384) previous id refl

numbers_32768 : (number first before last : ℕ) (counters : List ℕ) → before % 32768 ≡ last % 32768 → (before + first) % 2 ^ 64 ≡ (number + last) % 2 ^ 64 → AreNear 32768 last counters
    → GoAlong number first (extended_each 32768 (Some before) (map (λ c. c % 32768) counters)) counters
numbers_32768 number first before last [] same so_far near = tt
numbers_32768 number first before last (next ∷ counters) same so_far near =
    let n : ℕ = nearest 32768 before (next % 32768) in
    let one : (nearest 32768 before (next % 32768) + last) % 2 ^ 64 ≡ (before + next) % 2 ^ 64 = near_32768 before (next % 32768) last next same (omega arith) near.0 near.1 in
    let along : (nearest 32768 before (next % 32768) + first) % 2 ^ 64 ≡ (number + next) % 2 ^ 64 = joined_64 (nearest 32768 before (next % 32768)) last before next first number one so_far in
    let low : nearest 32768 before (next % 32768) % 32768 ≡ next % 32768 = let l = low_32768 before (next % 32768) in omega (arith, l) in
    (along, numbers_32768 number first (nearest 32768 before (next % 32768)) next counters low along near.2)

pub numbers_go_along_32768 : NumbersGoAlong 32768
numbers_go_along_32768 first counters near = numbers_32768 (first % 32768) first (first % 32768) first counters (omega arith) refl near

ids_128 : (number start before last : ℕ) (counters : List ℕ) → (before + start) % 2 ^ 64 ≡ (number + last) % 2 ^ 64 → AreNear 128 last counters
    → GoAlong number start (extended_ids Short (Some before) (last % 128) (map (λ k. k % 128) counters)) counters
ids_128 number start before last [] so_far near = tt
ids_128 number start before last (next ∷ counters) so_far near =
    let one : (nearest 128 (last % 128) (next % 128) + last) % 2 ^ 64 ≡ (last % 128 + next) % 2 ^ 64 = near_128 (last % 128) (next % 128) last next (omega arith) (omega arith) near.0 near.1 in
    let raw : last % 128 < 2 ^ 64 = omega arith in
    let grown : (extended_by (Some before) (last % 128) (Short (next % 128)) + last) % 2 ^ 64 ≡ (before + next) % 2 ^ 64 = moved_64 (nearest 128 (last % 128) (next % 128)) (last % 128) last before next raw one in
    let along = joined_64 (extended_by (Some before) (last % 128) (Short (next % 128))) last before next start number grown so_far in
    (along, ids_128 number start (extended_by (Some before) (last % 128) (Short (next % 128))) next counters along near.2)

pub ids_go_along_128 : IdsGoAlong 128 Short
ids_go_along_128 before first counters near = ids_128 before first before first counters refl near

ids_32768 : (number start before last : ℕ) (counters : List ℕ) → (before + start) % 2 ^ 64 ≡ (number + last) % 2 ^ 64 → AreNear 32768 last counters
    → GoAlong number start (extended_ids Long (Some before) (last % 32768) (map (λ k. k % 32768) counters)) counters
ids_32768 number start before last [] so_far near = tt
ids_32768 number start before last (next ∷ counters) so_far near =
    let one : (nearest 32768 (last % 32768) (next % 32768) + last) % 2 ^ 64 ≡ (last % 32768 + next) % 2 ^ 64 = near_32768 (last % 32768) (next % 32768) last next (omega arith) (omega arith) near.0 near.1 in
    let raw : last % 32768 < 2 ^ 64 = omega arith in
    let grown : (extended_by (Some before) (last % 32768) (Long (next % 32768)) + last) % 2 ^ 64 ≡ (before + next) % 2 ^ 64 = moved_64 (nearest 32768 (last % 32768) (next % 32768)) (last % 32768) last before next raw one in
    let along = joined_64 (extended_by (Some before) (last % 32768) (Long (next % 32768))) last before next start number grown so_far in
    (along, ids_32768 number start (extended_by (Some before) (last % 32768) (Long (next % 32768))) next counters along near.2)

pub ids_go_along_32768 : IdsGoAlong 32768 Long
ids_go_along_32768 before first counters near = ids_32768 before first before first counters refl near
