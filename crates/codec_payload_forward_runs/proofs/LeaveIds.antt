-- The picture ids of a viewer's stream: they close up behind pictures that are left out.
use Rattle.std.proofs.Common.{◌||◌, ◌&&◌, eqb, ◌≡◌, ◌≢◌, ◌∙◌, refl, sym, ap, subst, ℕ, zero, suc, ◌+◌, ◌-◌, ◌*◌, ◌%◌, ◌<◌, ◌≤◌, List, [], ◌∷◌, get_or, length, take, Bool, true, false, cond, ltb, Option, Some, None, arith}
use Rattle.std.proofs.lemmas.Bool.{eq-eqb, eqb-true, le-ltb, lt-ltb, ltb-false, ltb-true}
use Rattle.std.proofs.lemmas.List.{length-take}
use Rattle.codec_payload_base.specs.declared.wire.Codec.{Codec}
use Rattle.codec_payload_base.specs.declared.wire.Codec.TheVariants as codecs
use Rattle.codec_payload_sending_forward.specs.Forwarding.{offsets_for, payload_for}
use Rattle.codec_payload_sending_forward.specs.Ids.{Ids, after_picture, id_to_leave, is_ahead, is_that, offsets_at, picture_closed}
use Rattle.codec_payload_sending_forward.specs.Numbers.{AllBelow, Falls, Numbers, above, below, closed, is_in, without_lowest}
use Rattle.codec_payload_sending_forward.specs.Vp8Numbers.{payload_as}
use Rattle.codec_payload_sending_forward.specs.declared.ids.IdOffsets.{IdOffsets}
use Rattle.codec_payload_sending_forward.specs.declared.ids.PayloadIds.{PayloadIds}
use Rattle.codec_payload_sending_forward.proofs.NumberLemmas.{Order, above_few, above_more, all_below_at, all_below_less, all_below_take, below_more, below_same, falls_take, in_more, less, more, not_in, order, same}
use Rattle.codec_payload_forward_runs.proofs.KeptPayloads.{same_moved}
use Rattle.codec_payload_forward_runs.specs.LeaveReleases.{Offsets}

-- Lists of numbers, the highest first

-- each is at least that
abbrev pub AllFrom : ℕ → List ℕ → Type 0
AllFrom low [] = Unit {0}
AllFrom low (x ∷ xs) = (low ≤ x) × AllFrom low xs

from_at : (low k : ℕ) (xs : List ℕ) → k < length xs → AllFrom low xs → low ≤ get_or xs k 0
from_at low k [] l from = absurd (omega (arith, l))
from_at low zero (x ∷ xs) l from = from.0
from_at low (suc k) (x ∷ xs) l from = from_at low k xs (omega (arith, l)) from.1

-- all except the last one are above it
from_take : (k : ℕ) (xs : List ℕ) → length xs ≡ suc k → Falls xs → AllFrom (suc (get_or xs k 0)) (take k xs)
from_take k [] e f = absurd (omega (arith, e))
from_take zero (x ∷ xs) e f = tt
from_take (suc k) (x ∷ xs) e f = (omega (arith, all_below_at x k xs (omega (arith, e)) f.0), from_take k xs (omega (arith, e)) f.1)

-- the last one is the lowest
last_low : (k n : ℕ) (xs : List ℕ) → length xs ≡ suc k → Falls xs → is_in n xs ≡ true → get_or xs k 0 ≤ n
last_low k n [] e f there = absurd (cc)
last_low zero n (x ∷ []) e f there = by (order x n) there
  where
    by : Order x n → is_in n (x ∷ []) ≡ true → x ≤ n
    by (less l) is = omega (arith, l)
    by (same l) is = omega (arith, l)
    by (more l) is = absurd (let no : is_in n (x ∷ []) ≡ false = in_more n x [] (λ q. omega (arith, q, l)) in cc)
last_low zero n (x ∷ y ∷ xs) e f there = absurd (omega (arith, e))
last_low (suc k) n (x ∷ xs) e f there = by (eqb x n) refl (last_low k n xs (omega (arith, e)) f.1) (all_below_at x k xs (omega (arith, e)) f.0)
  where
    by : (b : Bool) → eqb x n ≡ b → (is_in n xs ≡ true → get_or xs k 0 ≤ n) → get_or xs k 0 < x → get_or xs k 0 ≤ n
    by true is rest low = omega (arith, low, is_same x n is)
      where
        is_same : (x n : ℕ) → eqb x n ≡ true → x ≡ n
        is_same x n is = eqb-true x n is
    by false is rest low = rest (subst (λ (b : Bool). (b || is_in n xs) ≡ true) is there)

-- how many are above the last one, and above a lower number
above_last : (k : ℕ) (xs : List ℕ) → length xs ≡ suc k → Falls xs → above (get_or xs k 0) xs ≡ k
above_last k [] e f = absurd (omega (arith, e))
above_last zero (x ∷ []) e f = rw (le-ltb x x (omega arith)) refl
above_last zero (x ∷ y ∷ xs) e f = absurd (omega (arith, e))
above_last (suc k) (x ∷ xs) e f = above_more (get_or xs k 0) x xs (all_below_at x k xs (omega (arith, e)) f.0) ∙ ap suc (above_last k xs (omega (arith, e)) f.1)

above_all : (t k : ℕ) (xs : List ℕ) → length xs ≡ suc k → Falls xs → t < get_or xs k 0 → above t xs ≡ suc k
above_all t k [] e f l = absurd (omega (arith, e))
above_all t zero (x ∷ []) e f l = above_more t x [] l
above_all t zero (x ∷ y ∷ xs) e f l = absurd (omega (arith, e))
above_all t (suc k) (x ∷ xs) e f l =
    above_more t x xs (omega (arith, l, all_below_at x k xs (omega (arith, e)) f.0)) ∙ ap suc (above_all t k xs (omega (arith, e)) f.1 l)

-- above a number that is among them are not all
above_in : (n : ℕ) (xs : List ℕ) → is_in n xs ≡ true → above n xs < length xs
above_in n [] there = absurd (cc)
above_in n (x ∷ xs) there = by (order n x) (above_in n xs)
  where
    by : Order n x → (is_in n xs ≡ true → above n xs < length xs) → above n (x ∷ xs) < suc (length xs)
    by (less l) rest = rw (above_more n x xs l) (omega (arith, rest (sym (in_more n x xs (λ q. omega (arith, q, l))) ∙ there)))
    by (same l) rest = rw (le-ltb n x (omega (arith, l))) (omega (arith, above_few n xs))
    by (more l) rest = rw (le-ltb n x (omega (arith, l))) (omega (arith, above_few n xs))

-- a part of a list has no more above a number
above_part : (t : ℕ) (ys xs : List ℕ) → Falls xs → Falls ys → ((n : ℕ) → is_in n xs ≡ true → is_in n ys ≡ true) → above t xs ≤ above t ys
above_part t ys [] f g part = omega arith
above_part t [] (x ∷ xs) f g part = absurd (let no : false ≡ true = part x (in_first x xs) in cc)
  where
    in_first : (x : ℕ) (xs : List ℕ) → is_in x (x ∷ xs) ≡ true
    in_first x xs = rw (eq-eqb x x refl) refl
above_part t (y ∷ ys) (x ∷ xs) f g part =
    by (order x y) (above_part t ys (x ∷ xs) f g.1) (above_part t ys xs f.1 g.1)
  where
    in_first : (x : ℕ) (xs : List ℕ) → is_in x (x ∷ xs) ≡ true
    in_first x xs = rw (eq-eqb x x refl) refl

    -- not the first one, so in the rest
    in_rest : (n : ℕ) → n ≢ y → is_in n (y ∷ ys) ≡ true → is_in n ys ≡ true
    in_rest n ne there = sym (in_more n y ys ne) ∙ there

    low_not : (n : ℕ) (zs : List ℕ) (z : ℕ) → AllBelow z zs → is_in n zs ≡ true → n < z
    low_not n zs z all there = by_order (order n z)
      where
        by_order : Order n z → n < z
        by_order (less l) = l
        by_order (same l) = absurd (let no : is_in n zs ≡ false = not_in n zs (all_below_less z n zs (omega (arith, l)) all) in cc)
        by_order (more l) = absurd (let no : is_in n zs ≡ false = not_in n zs (all_below_less z n zs (omega (arith, l)) all) in cc)

    up : above t ys ≤ above t (y ∷ ys)
    up = by_up (ltb t y) refl
      where
        by_up : (b : Bool) → ltb t y ≡ b → above t ys ≤ above t (y ∷ ys)
        by_up true e = rw e (omega arith)
        by_up false e = rw e (omega arith)

    by : Order x y → (((n : ℕ) → is_in n (x ∷ xs) ≡ true → is_in n ys ≡ true) → above t (x ∷ xs) ≤ above t ys) → (((n : ℕ) → is_in n xs ≡ true → is_in n ys ≡ true) → above t xs ≤ above t ys)
        → above t (x ∷ xs) ≤ above t (y ∷ ys)
    by (less l) drop both =
        let rest : above t (x ∷ xs) ≤ above t ys = drop (λ n there. in_rest n (λ q. at_most n q there) (part n there)) in
        omega (arith, rest, up)
      where
        at_most : (n : ℕ) → n ≡ y → is_in n (x ∷ xs) ≡ true → ⊥
        at_most n q there = omega (arith, q, l, low_not n (x ∷ xs) (suc x) (omega arith, all_below_less x (suc x) xs (omega arith) f.0) there)
    by (same l) drop both =
        let rest : above t xs ≤ above t ys = both (λ n there. in_rest n (λ q. omega (arith, q, l, low_not n xs x f.0 there)) (part n (later_in n there))) in
        both_up rest (ltb t x) refl
      where
        later_in : (n : ℕ) → is_in n xs ≡ true → is_in n (x ∷ xs) ≡ true
        later_in n there = ap (λ (b : Bool). eqb x n || b) there ∙ or_true (eqb x n)
          where
            or_true : (b : Bool) → (b || true) ≡ true
            or_true true = refl
            or_true false = refl

        both_up : above t xs ≤ above t ys → (b : Bool) → ltb t x ≡ b → above t (x ∷ xs) ≤ above t (y ∷ ys)
        both_up rest b e = subst (λ (z : ℕ). above t (x ∷ xs) ≤ above t (z ∷ ys)) l (by_both b e)
          where
            by_both : (b : Bool) → ltb t x ≡ b → above t (x ∷ xs) ≤ above t (x ∷ ys)
            by_both true e = rw e (omega (arith, rest))
            by_both false e = rw e rest
    by (more l) drop both = absurd (omega (arith, l, low_not x (y ∷ ys) (suc y) (omega arith, all_below_less y (suc y) ys (omega arith) g.0) (part x (in_first x xs))))

-- without the last one: a higher number stays, and as many are above it
in_last : (n k : ℕ) (xs : List ℕ) → length xs ≡ suc k → get_or xs k 0 < n → is_in n xs ≡ is_in n (take k xs)
in_last n k [] e l = absurd (omega (arith, e))
in_last n zero (x ∷ []) e l = in_more n x [] (λ i. omega (arith, i, l))
in_last n zero (x ∷ y ∷ ys) e l = absurd (omega (arith, e))
in_last n (suc k) (x ∷ xs) e l = ap (λ (b : Bool). eqb x n || b) (in_last n k xs (omega (arith, e)) l)

above_without : (n k : ℕ) (xs : List ℕ) → length xs ≡ suc k → get_or xs k 0 ≤ n → above n (take k xs) ≡ above n xs
above_without n k [] e l = absurd (omega (arith, e))
above_without n zero (x ∷ []) e l = sym (rw (le-ltb n x l) refl)
above_without n zero (x ∷ y ∷ ys) e l = absurd (omega (arith, e))
above_without n (suc k) (x ∷ xs) e l = ap (λ (m : ℕ). cond (ltb n x) (suc m) m) (above_without n k xs (omega (arith, e)) l)

take_in : (n k : ℕ) (xs : List ℕ) → is_in n (take k xs) ≡ true → is_in n xs ≡ true
take_in n zero xs there = absurd (cc)
take_in n (suc k) [] there = absurd (cc)
take_in n (suc k) (x ∷ xs) there = by (eqb x n) refl (take_in n k xs)
  where
    by : (b : Bool) → eqb x n ≡ b → (is_in n (take k xs) ≡ true → is_in n xs ≡ true) → is_in n (x ∷ xs) ≡ true
    by true e rest = rw e refl
    by false e rest = rw e (rest (subst (λ (b : Bool). (b || is_in n (take k xs)) ≡ true) e there))

-- The map of numbers

-- what the fields of a map meet
abbrev pub IsTop : Numbers → Type 0
IsTop m = (m.first ≤ m.highest) × AllBelow (suc m.highest) m.left_out × Falls m.left_out × (length m.left_out ≤ 4096) × AllFrom m.first m.left_out

pub sent_top : (m : Numbers) (n : ℕ) → IsTop m → m.highest < n → IsTop (record m { highest = n })
sent_top m n top l = (omega (arith, top.0, l), all_below_less (suc m.highest) (suc n) m.left_out (omega (arith, l)) top.1, top.2, top.3, top.4)

low_at : (bound k : ℕ) (xs : List ℕ) → 0 < bound → AllBelow bound xs → get_or xs k 0 < bound
low_at bound k [] some all = some
low_at bound zero (x ∷ xs) some all = all.0
low_at bound (suc k) (x ∷ xs) some all = low_at bound k xs some all.1

pub left_top : (m : Numbers) (n : ℕ) → IsTop m → m.highest < n → IsTop (closed n m) × ((closed n m).highest ≡ n)
left_top m n top l = by (ltb (length m.left_out) 4096) refl
  where
    ys : List ℕ
    ys = m.left_out

    all : AllBelow (suc n) m.left_out
    all = all_below_less (suc m.highest) (suc n) m.left_out (omega (arith, l)) top.1

    under : AllBelow n m.left_out
    under = all_below_less (suc m.highest) n m.left_out (omega (arith, l)) top.1

    low : get_or m.left_out 4095 0 < suc m.highest
    low = low_at (suc m.highest) 4095 m.left_out (omega arith) top.1

    by : (b : Bool) → ltb (length m.left_out) 4096 ≡ b → IsTop (closed n m) × ((closed n m).highest ≡ n)
    by true e = rw e ((omega (arith, top.0, l), (omega arith, all), (under, top.2), omega (arith, ltb-true (length m.left_out) 4096 e), (omega (arith, top.0, l), top.4)), refl)
    by false e =
        let full : length m.left_out ≡ 4096 = omega (arith, top.3, ltb-false (length m.left_out) 4096 e) in
        rw e (
          (
            omega (arith, low, l),
            (omega arith, all_below_take (suc n) 4095 m.left_out all),
            (all_below_take n 4095 m.left_out under, falls_take 4095 m.left_out top.2),
            omega (arith, length-take 4095 m.left_out, full),
            (omega (arith, low, l), from_take 4095 m.left_out full top.2),
          ),
          refl,
        )

-- the lowest number with a place rises
first_rises : (m : Numbers) (n : ℕ) → IsTop m → m.first ≤ (closed n m).first
first_rises m n top = by (ltb (length m.left_out) 4096) refl
  where
    by : (b : Bool) → ltb (length m.left_out) 4096 ≡ b → m.first ≤ (closed n m).first
    by true e = rw e (omega arith)
    by false e = rw e (omega (arith, from_at m.first 4095 m.left_out (omega (arith, ltb-false (length m.left_out) 4096 e)) top.4))

-- a number with a place that was left out stays so
stays_out : (m : Numbers) (n x : ℕ) → IsTop m → is_in x m.left_out ≡ true → (closed n m).first ≤ x → is_in x (closed n m).left_out ≡ true
stays_out m n x top there = by (ltb (length m.left_out) 4096) refl
  where
    or_true : (b : Bool) → (b || true) ≡ true
    or_true true = refl
    or_true false = refl

    by : (b : Bool) → ltb (length m.left_out) 4096 ≡ b → (closed n m).first ≤ x → is_in x (closed n m).left_out ≡ true
    by true e from = rw e (ap (λ (c : Bool). eqb n x || c) there ∙ or_true (eqb n x))
    by false e from =
        let full : length m.left_out ≡ 4096 = omega (arith, top.3, ltb-false (length m.left_out) 4096 e) in
        let high : get_or m.left_out 4095 0 < x = subst (λ (b : Bool). (cond b (record m { highest = n; left_out = n ∷ m.left_out }) (without_lowest n m)).first ≤ x) e from in
        rw e (ap (λ (c : Bool). eqb n x || c) (sym (in_last x 4095 m.left_out full high) ∙ there) ∙ or_true (eqb n x))

newest_out : (m : Numbers) (n : ℕ) → is_in n (closed n m).left_out ≡ true
newest_out m n = by (ltb (length m.left_out) 4096) refl
  where
    by : (b : Bool) → ltb (length m.left_out) 4096 ≡ b → is_in n (closed n m).left_out ≡ true
    by true e = rw (e, eq-eqb n n refl) refl
    by false e = rw (e, eq-eqb n n refl) refl

-- Of 4,096 pictures with a place, the lowest one loses it when another packet is left out
forgotten_low : (m : Numbers) (n : ℕ) (xs : List ℕ) → IsTop m → Falls xs → length xs ≡ 4096 → ((x : ℕ) → is_in x xs ≡ true → m.first ≤ x → is_in x m.left_out ≡ true) → get_or xs 4095 0 < (closed n m).first
forgotten_low m n xs top f full part = by_place (ltb (get_or xs 4095 0) m.first) refl
  where
    q : ℕ
    q = get_or xs 4095 0

    by_place : (b : Bool) → ltb (get_or xs 4095 0) m.first ≡ b → get_or xs 4095 0 < (closed n m).first
    by_place true e = omega (arith, ltb-true (get_or xs 4095 0) m.first e, first_rises m n top)
    by_place false e = by_room (ltb (length m.left_out) 4096) refl
      where
        from : m.first ≤ get_or xs 4095 0
        from = ltb-false (get_or xs 4095 0) m.first e

        all_part : (x : ℕ) → is_in x xs ≡ true → is_in x m.left_out ≡ true
        all_part x there = part x there (omega (arith, from, last_low 4095 x xs full f there))

        last_in : (k : ℕ) (zs : List ℕ) → k < length zs → is_in (get_or zs k 0) zs ≡ true
        last_in k [] l = absurd (omega (arith, l))
        last_in zero (z ∷ zs) l = rw (eq-eqb z z refl) refl
        last_in (suc k) (z ∷ zs) l = ap (λ (b : Bool). eqb z (get_or zs k 0) || b) (last_in k zs (omega (arith, l))) ∙ or_true (eqb z (get_or zs k 0))
          where
            or_true : (b : Bool) → (b || true) ≡ true
            or_true true = refl
            or_true false = refl

        many : 4095 ≤ above (get_or xs 4095 0) m.left_out
        many = omega (arith, above_last 4095 xs full f, above_part (get_or xs 4095 0) m.left_out xs f top.2 all_part)

        some : above (get_or xs 4095 0) m.left_out < length m.left_out
        some = above_in (get_or xs 4095 0) m.left_out (all_part (get_or xs 4095 0) (last_in 4095 xs (omega (arith, full))))

        by_room : (b : Bool) → ltb (length m.left_out) 4096 ≡ b → get_or xs 4095 0 < (closed n m).first
        by_room true e = absurd (omega (arith, many, some, ltb-true (length m.left_out) 4096 e))
        by_room false e = rw e (by_low (order (get_or m.left_out 4095 0) (get_or xs 4095 0)))
          where
            size : length m.left_out ≡ 4096
            size = omega (arith, top.3, ltb-false (length m.left_out) 4096 e)

            by_low : Order (get_or m.left_out 4095 0) (get_or xs 4095 0) → get_or xs 4095 0 < suc (get_or m.left_out 4095 0)
            by_low (less l) =
                absurd (omega (arith, above_last 4095 m.left_out size top.2, above_all (get_or m.left_out 4095 0) 4095 xs full f l, above_part (get_or m.left_out 4095 0) m.left_out xs f top.2 all_part))
            by_low (same l) = omega (arith, l)
            by_low (more l) = omega (arith, l)

-- The map of ids

-- the datagram with which it began, the number of that packet, extended, and the number that it was sent under; what was added to its
-- ids, the first datagrams of the pictures that were left out so far, and the highest index before each datagram that was left out
pub record Since : Type 0 where
  pub begin : ℕ
  pub base : ℕ
  pub start : ℕ
  pub ids : IdOffsets
  pub pictures : List ℕ
  pub highs : List ℕ

-- which pictures closed: for each datagram that was left out, `highs` has the highest index before it
abbrev pub Tracks : (ℕ → ℕ) → (gone highs pictures : List ℕ) → Type 0
Tracks id_of [] [] pictures = pictures ≡ []
Tracks id_of [] (high ∷ highs) pictures = ⊥
Tracks id_of (k ∷ gone) [] pictures = ⊥
Tracks id_of (k ∷ gone) (high ∷ highs) pictures =
    (rest : List ℕ) × Tracks id_of gone highs rest × (high < k) × (k < high + 32768) × AllBelow (suc high) gone
    × (pictures ≡ cond (is_in high gone && eqb (id_of high) (id_of k)) rest (k ∷ rest))

-- the id of the last picture, if it was left out
abbrev pub leaving_at : (ℕ → ℕ) → Bool → ℕ → Option ℕ
leaving_at id_of left high = cond left (Some (id_of high)) None

-- the offsets of the viewer's stream
abbrev pub offsets_since : Since → Offsets
offsets_since since = record { number = since.start + 65535 * since.begin; ids = since.ids; pictures = since.pictures }

-- The map of ids, if there are ids that close up; `lost` pictures were forgotten
pub record IdsHold (since : Since) (m : Ids) (x : Numbers) (gone : List ℕ) : Type 0 where
  pub lost : ℕ
  pub falls : Falls since.pictures
  pub among : (k : ℕ) → is_in k since.pictures ≡ true → is_in k gone ≡ true
  pub counts : (n k : ℕ) → n + since.begin ≡ k + since.base → x.first ≤ n → lost + (length m.left_out - above n m.left_out) ≡ below (k + 1) since.pictures
  pub offset : (m.offsets.picture + lost) % 65536 ≡ since.ids.picture % 65536
  pub tl0 : m.offsets.tl0 ≡ since.ids.tl0
  pub few : length m.left_out ≤ 4096
  pub order : Falls m.left_out
  pub low : AllBelow (suc x.highest) m.left_out
  pub part : (n : ℕ) → is_in n m.left_out ≡ true → x.first ≤ n → is_in n x.left_out ≡ true

-- a packet is sent: the map of ids stays, and that of numbers may rise
pub ids_same : (since : Since) (m t : Ids) (x y : Numbers) (gone : List ℕ) → t.offsets ≡ m.offsets → t.left_out ≡ m.left_out → y.first ≡ x.first → x.highest ≤ y.highest → y.left_out ≡ x.left_out → IdsHold since m x gone
    → IdsHold since t y gone
ids_same since m t x y gone offsets left first highest out is = record {
  lost = is.lost;
  falls = is.falls;
  among = is.among;
  counts = λ n k e from. ap (λ (xs : List ℕ). is.lost + (length xs - above n xs)) left ∙ is.counts n k e (omega (arith, first, from));
  offset = ap (λ (o : IdOffsets). (o.picture + is.lost) % 65536) offsets ∙ is.offset;
  tl0 = ap (λ (o : IdOffsets). o.tl0) offsets ∙ is.tl0;
  few = subst (λ (xs : List ℕ). length xs ≤ 4096) (sym left) is.few;
  order = subst Falls (sym left) is.order;
  low = subst (AllBelow (suc y.highest)) (sym left) (all_below_less (suc x.highest) (suc y.highest) m.left_out (omega (arith, highest)) is.low);
  part = λ n there from. ap (is_in n) out ∙ is.part n (sym (ap (is_in n) left) ∙ there) (omega (arith, first, from));
}

-- a packet with this number is left out, above all others
module _ (since : Since) (m : Ids) (x : Numbers) (gone : List ℕ) (high n k : ℕ) (n_is : n + since.begin ≡ k + since.base) (top : IsTop x) (ahead : x.highest < n) (higher : AllBelow k since.pictures) (is : IdsHold since m x gone) where
  more_out : (j : ℕ) → is_in j gone ≡ true → is_in j (k ∷ gone) ≡ true
  more_out j there = ap (λ (b : Bool). eqb k j || b) there ∙ or_true (eqb k j)
    where
      or_true : (b : Bool) → (b || true) ≡ true
      or_true true = refl
      or_true false = refl

  -- no picture closes
  pub ids_open : IdsHold (record since { highs = high ∷ since.highs }) m (closed n x) (k ∷ gone)
  ids_open = record {
    lost = is.lost;
    falls = is.falls;
    among = λ j there. more_out j (is.among j there);
    counts = λ a j e from. is.counts a j e (omega (arith, from, first_rises x n top));
    offset = is.offset;
    tl0 = is.tl0;
    few = is.few;
    order = is.order;
    low = all_below_less (suc x.highest) (suc (closed n x).highest) m.left_out (omega (arith, ahead, (left_top x n top ahead).1)) is.low;
    part = λ a there from. stays_out x n a top (is.part a there (omega (arith, from, first_rises x n top))) from;
  }

  abbrev closing : Since
  closing = record since { pictures = k ∷ since.pictures; highs = high ∷ since.highs }

  -- in a list with the new number, a number is the new one or is in the rest
  among_more : (j : ℕ) → is_in j (k ∷ since.pictures) ≡ true → is_in j (k ∷ gone) ≡ true
  among_more j there = by (eqb k j) refl
    where
      by : (b : Bool) → eqb k j ≡ b → is_in j (k ∷ gone) ≡ true
      by true e = rw e refl
      by false e = rw e (is.among j (subst (λ (b : Bool). (b || is_in j since.pictures) ≡ true) e there))

  part_more : (xs : List ℕ) → ((a : ℕ) → is_in a xs ≡ true → is_in a m.left_out ≡ true) → (a : ℕ) → is_in a (n ∷ xs) ≡ true → (closed n x).first ≤ a → is_in a (closed n x).left_out ≡ true
  part_more xs rest a there from = by (eqb n a) refl
    where
      by : (b : Bool) → eqb n a ≡ b → is_in a (closed n x).left_out ≡ true
      by true e = subst (λ (z : ℕ). is_in z (closed n x).left_out ≡ true) (eqb-true n a e) (newest_out x n)
      by false e = stays_out x n a top (is.part a (rest a (subst (λ (b : Bool). (b || is_in a xs) ≡ true) e there)) (omega (arith, from, first_rises x n top))) from

  -- how many are at most a number
  counts_more : (xs : List ℕ) (lost a j : ℕ) → a + since.begin ≡ j + since.base → lost + (length xs - above a xs) ≡ below (j + 1) since.pictures → Order n a
      → lost + (length (n ∷ xs) - above a (n ∷ xs)) ≡ below (j + 1) (k ∷ since.pictures)
  counts_more xs lost a j e count (less l) = rw (le-ltb a n (omega (arith, l)), below_more (j + 1) k since.pictures (omega (arith, l, n_is, e))) (omega (arith, count, above_few a xs))
  counts_more xs lost a j e count (same l) = rw (le-ltb a n (omega (arith, l)), below_more (j + 1) k since.pictures (omega (arith, l, n_is, e))) (omega (arith, count, above_few a xs))
  counts_more xs lost a j e count (more l) = rw (lt-ltb a n l, below_same (j + 1) k since.pictures (omega (arith, l, n_is, e))) (omega (arith, count))

  low_left : AllBelow n m.left_out
  low_left = all_below_less (suc x.highest) n m.left_out (omega (arith, ahead)) is.low

  -- a picture closes
  ids_added : (id : ℕ) → length m.left_out < 4096 → IdsHold closing (record m { left_out = n ∷ m.left_out; leaving = Some id }) (closed n x) (k ∷ gone)
  ids_added id room = record {
    lost = is.lost;
    falls = (higher, is.falls);
    among = among_more;
    counts = λ a j e from. counts_more m.left_out is.lost a j e (is.counts a j e (omega (arith, from, first_rises x n top))) (order n a);
    offset = is.offset;
    tl0 = is.tl0;
    few = omega (arith, room);
    order = (low_left, is.order);
    low = (omega (arith, (left_top x n top ahead).1), all_below_less n (suc (closed n x).highest) m.left_out (omega (arith, (left_top x n top ahead).1)) low_left);
    part = part_more m.left_out (λ a there. there);
  }

  -- and the lowest one is forgotten
  ids_replaced : (id : ℕ) → length m.left_out ≡ 4096
      → IdsHold closing (record m { offsets = record m.offsets { picture = (m.offsets.picture + 65535) % 65536 }; left_out = n ∷ take 4095 m.left_out; leaving = Some id }) (closed n x) (k ∷ gone)
  ids_replaced id full =
      let kept : List ℕ = take 4095 m.left_out in
      let size : length kept ≡ 4095 = omega (arith, length-take 4095 m.left_out, full) in
      let low : get_or m.left_out 4095 0 < (closed n x).first = forgotten_low x n m.left_out top is.order full is.part in
      record {
        lost = suc is.lost;
        falls = (higher, is.falls);
        among = among_more;
        counts = λ a j e from.
            counts_more kept (suc is.lost) a j e
            (count_one is.lost (length m.left_out) (length kept) (above a m.left_out) (above a kept) (below (j + 1) since.pictures) (is.counts a j e (omega (arith, from, first_rises x n top))) full size
            (above_without a 4095 m.left_out full (omega (arith, low, from))) (above_few a kept)) (order n a);
        offset = lost_one m.offsets.picture is.lost since.ids.picture is.offset;
        tl0 = is.tl0;
        few = omega (arith, size);
        order = (all_below_take n 4095 m.left_out low_left, falls_take 4095 m.left_out is.order);
        low = (omega (arith, (left_top x n top ahead).1), all_below_less n (suc (closed n x).highest) kept (omega (arith, (left_top x n top ahead).1)) (all_below_take n 4095 m.left_out low_left));
        part = part_more kept (λ a there. take_in a 4095 m.left_out there);
      }
    where
      count_one : (lost len size a b c : ℕ) → lost + (len - a) ≡ c → len ≡ 4096 → size ≡ 4095 → b ≡ a → b ≤ size → suc lost + (size - b) ≡ c
      count_one lost len size a b c e f g h l = omega (arith, e, f, g, h, l)

      lost_one : (o lost p : ℕ) → (o + lost) % 65536 ≡ p % 65536 → ((o + 65535) % 65536 + suc lost) % 65536 ≡ p % 65536
      lost_one o lost p e = omega (arith, e)

  pub ids_closed : (id : ℕ) → IdsHold closing (picture_closed n (Some id) m) (closed n x) (k ∷ gone)
  ids_closed id = by (ltb (length m.left_out) 4096) refl
    where
      by : (b : Bool) → ltb (length m.left_out) 4096 ≡ b → IdsHold closing (picture_closed n (Some id) m) (closed n x) (k ∷ gone)
      by true e = rw e (ids_added id (ltb-true (length m.left_out) 4096 e))
      by false e = rw e (ids_replaced id (omega (arith, is.few, ltb-false (length m.left_out) 4096 e)))

-- The id of the last picture

-- a picture stays open if the last one was left out and has its id, and closes otherwise
that_is : (id : ℕ) (o : Option ℕ) → is_that id o ≡ true → o ≡ Some id
that_is id None is = absurd (cc)
that_is id (Some x) is = ap (λ (n : ℕ). Some n) (eqb-true x id is)

ahead_of : (n high : ℕ) (xs : List ℕ) → AllBelow (suc high) xs → high < n → is_ahead n xs ≡ true
ahead_of n high [] all l = refl
ahead_of n high (x ∷ xs) all l = lt-ltb x n (omega (arith, all.0, l))

module _ (id_of : ℕ → ℕ) (m : Ids) (n top k high : ℕ) (gone : List ℕ) (low : AllBelow (suc top) m.left_out) (ahead : top < n) (leaving : m.leaving ≡ leaving_at id_of (is_in high gone) high) where
  stays_by : (b : Bool) → is_that (id_of k) m.leaving ≡ b → id_to_leave m n (Some (id_of k)) ≡ cond b None (Some (id_of k))
  stays_by true e = rw e refl
  stays_by false e = rw (e, ahead_of n top m.left_out low ahead) refl

  -- no picture closes: the last one was left out, and has the same id
  pub open_is : id_to_leave m n (Some (id_of k)) ≡ None → (m.leaving ≡ Some (id_of k)) × ((is_in high gone && eqb (id_of high) (id_of k)) ≡ true)
  open_is none = by (is_that (id_of k) m.leaving) refl
    where
      same_by : (left : Bool) → leaving_at id_of left high ≡ Some (id_of k) → (left && eqb (id_of high) (id_of k)) ≡ true
      same_by true e = eq-eqb (id_of high) (id_of k) (some_same (id_of high) (id_of k) e)
        where
          some_same : (x y : ℕ) → ◌≡◌ {A = Option ℕ} (Some x) (Some y) → x ≡ y
          some_same x y e = cc
      same_by false e = absurd (cc)

      by : (b : Bool) → is_that (id_of k) m.leaving ≡ b → (m.leaving ≡ Some (id_of k)) × ((is_in high gone && eqb (id_of high) (id_of k)) ≡ true)
      by true e = (that_is (id_of k) m.leaving e, same_by (is_in high gone) (sym leaving ∙ that_is (id_of k) m.leaving e))
      by false e = absurd (let closes : None ≡ Some (id_of k) = sym none ∙ stays_by false e in cc)

  -- one closes
  pub closed_is : (id : ℕ) → id_to_leave m n (Some (id_of k)) ≡ Some id → (id ≡ id_of k) × ((is_in high gone && eqb (id_of high) (id_of k)) ≡ false)
  closed_is id closes = by (is_that (id_of k) m.leaving) refl
    where
      some_same : (x y : ℕ) → ◌≡◌ {A = Option ℕ} (Some x) (Some y) → x ≡ y
      some_same x y e = cc

      other_by : (left : Bool) → is_that (id_of k) (leaving_at id_of left high) ≡ false → (left && eqb (id_of high) (id_of k)) ≡ false
      other_by true e = e
      other_by false e = refl

      by : (b : Bool) → is_that (id_of k) m.leaving ≡ b → (id ≡ id_of k) × ((is_in high gone && eqb (id_of high) (id_of k)) ≡ false)
      by true e = absurd (let none : None ≡ Some id = sym (stays_by true e) ∙ closes in cc)
      by false e = (some_same id (id_of k) (sym closes ∙ stays_by false e), other_by (is_in high gone) (sym (ap (is_that (id_of k)) leaving) ∙ e))

pub closed_leaving : (n id : ℕ) (m : Ids) → (picture_closed n (Some id) m).leaving ≡ Some id
closed_leaving n id m = by (ltb (length m.left_out) 4096) refl
  where
    by : (b : Bool) → ltb (length m.left_out) 4096 ≡ b → (picture_closed n (Some id) m).leaving ≡ Some id
    by true e = rw e refl
    by false e = rw e refl

-- a picture that is sent ends this
pub sent_leaving : (o : IdOffsets) (ids : Option PayloadIds) (m : Ids) → (after_picture o ids m).leaving ≡ None
sent_leaving o None m = refl
sent_leaving o (Some ids) m = refl

-- Payloads

-- the codec is not VP9
abbrev pub is_moved : Codec → Bool
is_moved codecs.Vp9 = true
is_moved codec = false

-- a payload by offsets that are the same
pub payload_same : (codec : Codec) (o x : IdOffsets) (payload : List ℕ) → is_moved codec ≡ false → o.picture % 65536 ≡ x.picture % 65536 → o.tl0 ≡ x.tl0 → payload_for codec o payload ≡ payload_for codec x payload
payload_same codecs.Vp8 o x payload fixed pictures tl0s = same_moved o.picture x.picture o.tl0 payload pictures ∙ ap (λ (n : ℕ). payload_as (record { picture = x.picture; tl0 = n }) payload) tl0s
payload_same codecs.Vp9 o x payload fixed pictures tl0s = absurd (cc)
payload_same codecs.Opus o x payload fixed pictures tl0s = refl
payload_same codecs.PCMU o x payload fixed pictures tl0s = refl
payload_same codecs.PCMA o x payload fixed pictures tl0s = refl
payload_same codecs.G722 o x payload fixed pictures tl0s = refl
payload_same codecs.CN o x payload fixed pictures tl0s = refl
payload_same codecs.AmrWb o x payload fixed pictures tl0s = refl
payload_same codecs.H264 o x payload fixed pictures tl0s = refl
payload_same codecs.H265 o x payload fixed pictures tl0s = refl
payload_same codecs.H266 o x payload fixed pictures tl0s = refl
payload_same codecs.Av1 o x payload fixed pictures tl0s = refl
payload_same codecs.Null o x payload fixed pictures tl0s = refl
payload_same codecs.Tele o x payload fixed pictures tl0s = refl
payload_same codecs.Rtx o x payload fixed pictures tl0s = refl
payload_same codecs.Red o x payload fixed pictures tl0s = refl
payload_same codecs.Unknown o x payload fixed pictures tl0s = refl

pub payload_at : (codec : Codec) (ids : Ids) (n : ℕ) (x : IdOffsets) (payload : List ℕ) → is_moved codec ≡ false → (offsets_at ids n).picture % 65536 ≡ x.picture % 65536 → ids.offsets.tl0 ≡ x.tl0
    → payload_for codec (offsets_for codec ids n) payload ≡ payload_for codec x payload
payload_at codecs.Vp8 ids n x payload fixed pictures tl0s = payload_same codecs.Vp8 (offsets_at ids n) x payload fixed pictures tl0s
payload_at codecs.Vp9 ids n x payload fixed pictures tl0s = absurd (cc)
payload_at codecs.Opus ids n x payload fixed pictures tl0s = refl
payload_at codecs.PCMU ids n x payload fixed pictures tl0s = refl
payload_at codecs.PCMA ids n x payload fixed pictures tl0s = refl
payload_at codecs.G722 ids n x payload fixed pictures tl0s = refl
payload_at codecs.CN ids n x payload fixed pictures tl0s = refl
payload_at codecs.AmrWb ids n x payload fixed pictures tl0s = refl
payload_at codecs.H264 ids n x payload fixed pictures tl0s = refl
payload_at codecs.H265 ids n x payload fixed pictures tl0s = refl
payload_at codecs.H266 ids n x payload fixed pictures tl0s = refl
payload_at codecs.Av1 ids n x payload fixed pictures tl0s = refl
payload_at codecs.Null ids n x payload fixed pictures tl0s = refl
payload_at codecs.Tele ids n x payload fixed pictures tl0s = refl
payload_at codecs.Rtx ids n x payload fixed pictures tl0s = refl
payload_at codecs.Red ids n x payload fixed pictures tl0s = refl
payload_at codecs.Unknown ids n x payload fixed pictures tl0s = refl
