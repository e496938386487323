-- The first place from one on whose time has come, by the level above.
use Rattle.std.proofs.Common.{◌≡◌, ◌∙◌, ◌<◌, ◌≤◌, ◌+◌, ◌-◌, ◌*◌, ◌/◌, ◌%◌, ℕ, zero, suc, List, [], ◌∷◌, length, take, drop, get_or, Bool, true, false, cond, Option, Some, None, option_map, ap, refl, sym, arith}
use Rattle.std.specs.Prelude.{slice_get}
use Rattle.std.specs.Global.{Vec}
use Rattle.std.proofs.lemmas.List.{take_all}
use Rattle.codec_payload_index.specs.Times.{AreLevels, bottom, first_come, first_come_from, halved, has_come, place_below}
use Rattle.codec_payload_index.proofs.HalvedLemmas.{first_by_above, first_within, pair_within, place_behind}

-- ---- one level

-- the time at the place itself has come
pub found_at : (from now : ℕ) (ts : List ℕ) → has_come (slice_get ts from) now ≡ true → Some from ≡ first_come_from from now ts
found_at zero now [] come = absurd (grind (arith, come))
found_at zero now (t ∷ ts) come = sym (ap (λ (b : Bool). cond b (Some 0) (option_map suc (first_come now ts))) come)
found_at (suc from) now [] come = absurd (grind (arith, come))
found_at (suc from) now (t ∷ ts) come = ap (λ (o : Option ℕ). option_map suc o) (found_at from now ts come)

none_in_empty : (from now : ℕ) → first_come_from from now [] ≡ None
none_in_empty zero now = refl
none_in_empty (suc from) now = refl

-- a level of at most one time has no other place
pub none_at_top : (from now : ℕ) (ts : List ℕ) → has_come (slice_get ts from) now ≡ false → length ts ≤ 1 → None ≡ first_come_from from now ts
none_at_top from now [] not_come few = sym (none_in_empty from now)
none_at_top zero now (t ∷ []) not_come few = sym (ap (λ (b : Bool). cond b (Some 0) None) not_come)
none_at_top (suc from) now (t ∷ []) not_come few = sym (ap (λ (o : Option ℕ). option_map suc o) (none_in_empty from now))
none_at_top from now (t ∷ u ∷ ts) not_come few = absurd (omega (arith, few))

-- ---- a level and the one above it

-- the time at the place has not come, so the pair at or behind it says where the first one is
pub from_above : (from now : ℕ) (ts : List ℕ) → has_come (slice_get ts from) now ≡ false → first_come_from from now ts ≡ place_below now ts (first_come_from (from / 2 + from % 2) now (halved ts))
from_above from now [] not_come = none_in_empty from now ∙ sym (ap (λ (o : Option ℕ). place_below now [] o) (none_in_empty (from / 2 + from % 2) now))
from_above zero now (t ∷ []) not_come = first_by_above now (t ∷ [])
from_above (suc from) now (t ∷ []) not_come =
    let half : suc from / 2 + suc from % 2 ≡ suc (from / 2) = omega arith in
    ap (λ (o : Option ℕ). option_map suc o) (none_in_empty from now)
    ∙ sym (ap (λ (n : ℕ). place_below now (t ∷ []) (first_come_from n now (t ∷ []))) half ∙ ap (λ (o : Option ℕ). place_below now (t ∷ []) (option_map suc o)) (none_in_empty (from / 2) now))
from_above zero now (t ∷ u ∷ ts) not_come = first_by_above now (t ∷ u ∷ ts)
from_above (suc zero) now (t ∷ u ∷ ts) not_come =
    ap (λ (b : Bool). option_map suc (cond b (Some 0) (option_map suc (first_come now ts)))) not_come
    ∙ ap (λ (o : Option ℕ). option_map suc (option_map suc o)) (first_by_above now ts)
    ∙ place_behind now t u ts (first_come now (halved ts))
from_above (suc (suc from)) now (t ∷ u ∷ ts) not_come =
    let half : suc (suc from) / 2 + suc (suc from) % 2 ≡ suc (from / 2 + from % 2) = omega arith in
    ap (λ (o : Option ℕ). option_map suc (option_map suc o)) (from_above from now ts not_come)
    ∙ place_behind now t u ts (first_come_from (from / 2 + from % 2) now (halved ts))
    ∙ sym (ap (λ (n : ℕ). place_below now (t ∷ u ∷ ts) (first_come_from n now (halved (t ∷ u ∷ ts)))) half)

behind_within : (o : Option ℕ) (n k : ℕ) → ((j : ℕ) → Some j ≡ o → j < n) → Some k ≡ option_map suc o → k < suc n
behind_within None n k within is = absurd (grind (arith, is))
behind_within (Some j) n k within is =
    let same : k ≡ suc j = grind (arith, is) in
    omega (arith, within j refl, same)

-- it is in the list
from_within : (from now : ℕ) (ts : List ℕ) (k : ℕ) → Some k ≡ first_come_from from now ts → k < length ts
from_within zero now ts k is = first_within now ts k is
from_within (suc from) now [] k is = absurd (grind (arith, is))
from_within (suc from) now (t ∷ ts) k is = behind_within (first_come_from from now ts) (length ts) k (from_within from now ts) is

-- a pair that was found has a first time
pub found_within_from : (from now : ℕ) (ts : List ℕ) (k : ℕ) → Some k ≡ first_come_from from now (halved ts) → 2 * k < length ts
found_within_from from now ts k is = pair_within ts k (from_within from now (halved ts) k is)

-- ---- the first level, and those above it

pub levels_split : (ls : List (Vec ℕ)) (x : Vec ℕ) → 1 ≤ length ls → x ≡ get_or ls 0 x → ls ≡ x ∷ take (length ls - 1) (drop 1 ls)
levels_split [] x some is = absurd (omega (arith, some))
levels_split (l ∷ ls) x some is =
    let all : length (l ∷ ls) - 1 ≡ length ls = omega arith in
    ap (λ (v : Vec ℕ). v ∷ ls) (sym is) ∙ ap (λ (rest : List (Vec ℕ)). x ∷ rest) (sym (ap (λ (n : ℕ). take n ls) all ∙ take_all (length ls) ls (omega arith)))

pub has_above : (l : Vec ℕ) (ls : List (Vec ℕ)) → AreLevels (l ∷ ls) → 0 < length ls → (bottom ls ≡ halved l.items) × AreLevels ls
has_above l [] levels some = absurd (omega (arith, some))
has_above l (m ∷ ls) levels some = levels

pub is_top : (l : Vec ℕ) (ls : List (Vec ℕ)) → AreLevels (l ∷ ls) → length ls ≡ 0 → length l.items ≤ 1
is_top l [] levels none = levels
is_top l (m ∷ ls) levels none = absurd (omega (arith, none))
