-- The datagrams that are left out, and the places of the others.
use Rattle.std.proofs.Common.{◌≡◌, ◌∙◌, refl, sym, ap, subst, ℕ, zero, suc, ◌+◌, ◌%◌, ◌^◌, ◌<◌, ◌≤◌, List, [], ◌∷◌, ◌++◌, length, Bool, true, false, cond, eqb, leb, Some, arith}
use Rattle.std.specs.Prelude.{◌||◌, slice_get}
use Rattle.std.proofs.lemmas.Bool.{eq-eqb, leb-false, leb-true, ne_eqb}
use Rattle.codec_payload_base.specs.Extended.{ahead, nearest}
use Rattle.codec_payload_sending_forward.specs.Numbers.{Falls, below, is_in}
use Rattle.codec_payload_sending_forward.proofs.NumberLemmas.{Order, all_below_less, below_all, below_more, below_same, in_more, less, more, not_in, order, same}
use Rattle.codec_payload_forward_runs.specs.LeaveReleases.{Offsets, closed, closed_datagram, ids_at, place_of}
use Rattle.codec_payload_sending_forward.specs.Forwarding.{Forward}

-- Numbers that differ from indices by a constant

abbrev pub AreGone : (begin base : ℕ) → (numbers gone : List ℕ) → Type 0
AreGone begin base [] [] = Unit {0}
AreGone begin base [] (k ∷ ks) = ⊥
AreGone begin base (n ∷ ns) [] = ⊥
AreGone begin base (n ∷ ns) (k ∷ ks) = (n + begin ≡ k + base) × AreGone begin base ns ks

same_order : (begin base n k x y : ℕ) → n + begin ≡ k + base → x + begin ≡ y + base → Order n x → eqb x n ≡ eqb y k
same_order begin base n k x y e f (less l) = ne_eqb x n (λ s. omega (arith, s, l)) ∙ sym (ne_eqb y k (λ s. omega (arith, s, l, e, f)))
same_order begin base n k x y e f (same l) = eq-eqb x n (omega (arith, l)) ∙ sym (eq-eqb y k (omega (arith, l, e, f)))
same_order begin base n k x y e f (more l) = ne_eqb x n (λ s. omega (arith, s, l)) ∙ sym (ne_eqb y k (λ s. omega (arith, s, l, e, f)))

pub below_gone : (begin base : ℕ) (ns ks : List ℕ) (n k : ℕ) → n + begin ≡ k + base → AreGone begin base ns ks → below n ns ≡ below k ks
below_gone begin base [] [] n k e are = refl
below_gone begin base [] (y ∷ ks) n k e are = absurd are
below_gone begin base (x ∷ ns) [] n k e are = absurd are
below_gone begin base (x ∷ ns) (y ∷ ks) n k e are = by (order n x) (below_gone begin base ns ks n k e are.1)
  where
    by : Order n x → below n ns ≡ below k ks → below n (x ∷ ns) ≡ below k (y ∷ ks)
    by (less l) rest = rw (below_same n x ns (omega (arith, l)), below_same k y ks (omega (arith, l, e, are.0))) rest
    by (same l) rest = rw (below_same n x ns (omega (arith, l)), below_same k y ks (omega (arith, l, e, are.0))) rest
    by (more l) rest = rw (below_more n x ns l, below_more k y ks (omega (arith, l, e, are.0))) (ap suc rest)

pub in_gone : (begin base : ℕ) (ns ks : List ℕ) (n k : ℕ) → n + begin ≡ k + base → AreGone begin base ns ks → is_in n ns ≡ is_in k ks
in_gone begin base [] [] n k e are = refl
in_gone begin base [] (y ∷ ks) n k e are = absurd are
in_gone begin base (x ∷ ns) [] n k e are = absurd are
in_gone begin base (x ∷ ns) (y ∷ ks) n k e are =
    ap (λ (b : Bool). b || is_in n ns) (same_order begin base n k x y e are.0 (order n x)) ∙ ap (λ (b : Bool). eqb y k || b) (in_gone begin base ns ks n k e are.1)

-- each is above that
abbrev pub AllAbove : ℕ → List ℕ → Type 0
AllAbove low [] = Unit {0}
AllAbove low (k ∷ ks) = (low < k) × AllAbove low ks

-- between two indices are no more of them than indices
pub few_above : (low k : ℕ) (gone : List ℕ) → low ≤ k → Falls gone → AllAbove low gone → below k gone + low ≤ k
few_above low k [] l f a = omega (arith, l)
few_above low k (x ∷ xs) l f a = by (order k x) (few_above low k xs l f.1 a.1) (few_above low x xs (omega (arith, a.0)) f.1 a.1)
  where
    by : Order k x → below k xs + low ≤ k → below x xs + low ≤ x → below k (x ∷ xs) + low ≤ k
    by (less m) here there = rw (below_same k x xs (omega (arith, m))) here
    by (same m) here there = rw (below_same k x xs (omega (arith, m))) here
    by (more m) here there = rw (below_more k x xs m, below_all k xs (all_below_less x k xs (omega (arith, m)) f.0)) (omega (arith, m, there, below_all x xs f.0))

-- a higher index that is left out changes nothing for a lower one
pub in_higher : (k high : ℕ) (gone : List ℕ) → k < high → is_in k (high ∷ gone) ≡ is_in k gone
in_higher k high gone l = in_more k high gone (λ e. omega (arith, e, l))

pub below_higher : (k high : ℕ) (gone : List ℕ) → k < high → below k (high ∷ gone) ≡ below k gone
below_higher k high gone l = below_same k high gone (omega (arith, l))

-- The extended number of a datagram near the highest one

nearest_by : (b : Bool) (begin base low highest high k : ℕ) → base ≡ 65536 + (low + begin) % 65536 → highest + begin ≡ high + base → begin ≤ high → high < 2 ^ 63 → k < high + 32768 → high ≤ k + 32767
    → leb (ahead 65536 highest ((low + k) % 65536)) 32768 ≡ b → nearest 65536 highest ((low + k) % 65536) + begin ≡ k + base
nearest_by true begin base low highest high k is top from small up down e =
    let few : ahead 65536 highest ((low + k) % 65536) ≤ 32768 = leb-true (ahead 65536 highest ((low + k) % 65536)) 32768 e in
    rw e (omega (arith, is, top, from, small, up, down, few))
nearest_by false begin base low highest high k is top from small up down e =
    let many : 32768 < ahead 65536 highest ((low + k) % 65536) = leb-false (ahead 65536 highest ((low + k) % 65536)) 32768 e in
    rw e (omega (arith, is, top, from, small, up, down, many))

pub near_number : (begin base low highest high k : ℕ) → base ≡ 65536 + (low + begin) % 65536 → highest + begin ≡ high + base → begin ≤ high → high < 2 ^ 63 → k < high + 32768 → high ≤ k + 32767
    → nearest 65536 highest ((low + k) % 65536) + begin ≡ k + base
near_number begin base low highest high k is top from small up down =
    nearest_by (leb (ahead 65536 highest ((low + k) % 65536)) 32768) begin base low highest high k is top from small up down refl

-- The datagrams that were not left out

-- how many of `count` indices from k on are kept
abbrev pub kept_from : List ℕ → (k count : ℕ) → ℕ
kept_from gone k zero = 0
kept_from gone k (suc count) = cond (is_in k gone) (kept_from gone (k + 1) count) (suc (kept_from gone (k + 1) count))

pub below_next : (gone : List ℕ) (k : ℕ) → Falls gone → below (k + 1) gone ≡ cond (is_in k gone) (suc (below k gone)) (below k gone)
below_next [] k f = refl
below_next (x ∷ xs) k f = by (order k x) (below_next xs k f.1)
  where
    by : Order k x → below (k + 1) xs ≡ cond (is_in k xs) (suc (below k xs)) (below k xs) → below (k + 1) (x ∷ xs) ≡ cond (is_in k (x ∷ xs)) (suc (below k (x ∷ xs))) (below k (x ∷ xs))
    by (less l) rest = rw (in_more k x xs (λ e. omega (arith, e, l)), below_same (k + 1) x xs (omega (arith, l)), below_same k x xs (omega (arith, l))) rest
    by (same l) rest = rw (eq-eqb x k (omega (arith, l)), below_more (k + 1) x xs (omega (arith, l)), below_same k x xs (omega (arith, l)))
        (ap suc (below_all (k + 1) xs (all_below_less x (k + 1) xs (omega (arith, l)) f.0) ∙ sym (below_all k xs (all_below_less x k xs (omega (arith, l)) f.0))))
    by (more l) rest = rw (in_more k x xs (λ e. omega (arith, e, l)), not_in k xs (all_below_less x k xs (omega (arith, l)) f.0), below_more (k + 1) x xs (omega (arith, l)), below_more k x xs l)
        (ap suc (below_all (k + 1) xs (all_below_less x (k + 1) xs (omega (arith, l)) f.0) ∙ sym (below_all k xs (all_below_less x k xs (omega (arith, l)) f.0))))

kept_count : (gone : List ℕ) (k count : ℕ) → Falls gone → kept_from gone k count + below (k + count) gone ≡ count + below k gone
kept_count gone k zero f = ap (λ (n : ℕ). 0 + below n gone) (omega arith) ∙ refl
kept_count gone k (suc count) f = by (is_in k gone) refl (below_next gone k f) (kept_count gone (k + 1) count f)
  where
    by : (b : Bool) → is_in k gone ≡ b → below (k + 1) gone ≡ cond (is_in k gone) (suc (below k gone)) (below k gone)
        → kept_from gone (k + 1) count + below (k + 1 + count) gone ≡ count + below (k + 1) gone
        → cond (is_in k gone) (kept_from gone (k + 1) count) (suc (kept_from gone (k + 1) count)) + below (k + suc count) gone ≡ suc count + below k gone
    by true e next rest =
        let step : below (k + 1) gone ≡ suc (below k gone) = next ∙ ap (λ (b : Bool). cond b (suc (below k gone)) (below k gone)) e in
        let whole : below (k + suc count) gone ≡ below (k + 1 + count) gone = ap (λ (n : ℕ). below n gone) (omega arith) in
        rw e (omega (arith, step, whole, rest))
    by false e next rest =
        let step : below (k + 1) gone ≡ below k gone = next ∙ ap (λ (b : Bool). cond b (suc (below k gone)) (below k gone)) e in
        let whole : below (k + suc count) gone ≡ below (k + 1 + count) gone = ap (λ (n : ℕ). below n gone) (omega arith) in
        rw e (omega (arith, step, whole, rest))

-- between indices that are none of them nothing is below more
pub below_flat : (ks : List ℕ) (first place : ℕ) → Falls ks → ((i : ℕ) → i < place → is_in (first + i) ks ≡ false) → below (first + place) ks ≡ below first ks
below_flat ks first zero f out = ap (λ (n : ℕ). below n ks) (omega arith)
below_flat ks first (suc place) f out =
    let next : below (first + place + 1) ks ≡ cond (is_in (first + place) ks) (suc (below (first + place) ks)) (below (first + place) ks) = below_next ks (first + place) f in
    ap (λ (n : ℕ). below n ks) (omega arith)
    ∙ (next ∙ (ap (λ (b : Bool). cond b (suc (below (first + place) ks)) (below (first + place) ks)) (out place (omega arith))
    ∙ below_flat ks first place f (λ i l. out i (omega (arith, l)))))

below_zero : (gone : List ℕ) → below 0 gone ≡ 0
below_zero [] = refl
below_zero (x ∷ xs) = below_same 0 x xs (omega arith) ∙ below_zero xs

pub place_is : (gone : List ℕ) (k : ℕ) → Falls gone → kept_from gone 0 k ≡ place_of gone k
place_is gone k f =
    let all : kept_from gone 0 k + below (0 + k) gone ≡ k + below 0 gone = kept_count gone 0 k f in
    let same : below (0 + k) gone ≡ below k gone = ap (λ (n : ℕ). below n gone) (omega arith) in
    omega (arith, all, same, below_zero gone)

module _ (f : Forward) (o : Offsets) (gone : List ℕ) where
  -- one of them
  kept_get : (ds : List (List ℕ)) (k number j : ℕ) (d : List ℕ) → slice_get ds j ≡ Some d → is_in (k + j) gone ≡ false
      → slice_get (closed f o gone k number ds) (kept_from gone k j) ≡ Some (closed_datagram f (ids_at o (k + j)) (number + kept_from gone k j) d)
  kept_get [] k number j d there out = absurd (cc)
  kept_get (x ∷ ds) k number zero d there out =
      let here : is_in k gone ≡ false = ap (λ (n : ℕ). is_in n gone) (omega arith) ∙ out in
      rw here (ap (λ (y : List ℕ). Some (closed_datagram f (ids_at o k) number y)) (first x d there)
      ∙ (ap (λ (n : ℕ). Some (closed_datagram f (ids_at o k) n d)) (omega arith) ∙ ap (λ (n : ℕ). Some (closed_datagram f (ids_at o n) (number + 0) d)) (omega arith)))
    where
      first : (x d : List ℕ) → Some x ≡ Some d → x ≡ d
      first x d e = cc
  kept_get (x ∷ ds) k number (suc j) d there out =
      let later : is_in (k + 1 + j) gone ≡ false = ap (λ (n : ℕ). is_in n gone) (omega arith) ∙ out in
      by (is_in k gone) refl (kept_get ds (k + 1) number j d there later) (kept_get ds (k + 1) (number + 1) j d there later)
    where
      by : (b : Bool) → is_in k gone ≡ b
          → slice_get (closed f o gone (k + 1) number ds) (kept_from gone (k + 1) j) ≡ Some (closed_datagram f (ids_at o (k + 1 + j)) (number + kept_from gone (k + 1) j) d)
          → slice_get (closed f o gone (k + 1) (number + 1) ds) (kept_from gone (k + 1) j) ≡ Some (closed_datagram f (ids_at o (k + 1 + j)) (number + 1 + kept_from gone (k + 1) j) d)
          → slice_get (cond (is_in k gone) (closed f o gone (k + 1) number ds) (closed_datagram f (ids_at o k) number x ∷ closed f o gone (k + 1) (number + 1) ds))
          (cond (is_in k gone) (kept_from gone (k + 1) j) (suc (kept_from gone (k + 1) j)))
          ≡ Some (closed_datagram f (ids_at o (k + suc j)) (number + cond (is_in k gone) (kept_from gone (k + 1) j) (suc (kept_from gone (k + 1) j))) d)
      by true e left kept = rw e (left ∙ ap (λ (n : ℕ). Some (closed_datagram f (ids_at o n) (number + kept_from gone (k + 1) j) d)) (omega arith))
      by false e left kept = rw e (kept ∙ (ap (λ (n : ℕ). Some (closed_datagram f (ids_at o (k + 1 + j)) n d)) (omega arith)
          ∙ ap (λ (n : ℕ). Some (closed_datagram f (ids_at o n) (number + suc (kept_from gone (k + 1) j)) d)) (omega arith)))

  pub kept_at : (ds : List (List ℕ)) (number k : ℕ) (d : List ℕ) → Falls gone → slice_get ds k ≡ Some d → is_in k gone ≡ false
      → slice_get (closed f o gone 0 number ds) (place_of gone k) ≡ Some (closed_datagram f (ids_at o k) (number + place_of gone k) d)
  kept_at ds number k d falls there out =
      subst (λ (n : ℕ). slice_get (closed f o gone 0 number ds) n ≡ Some (closed_datagram f (ids_at o k) (number + n) d)) (place_is gone k falls)
      (kept_get ds 0 number k d there (ap (λ (n : ℕ). is_in n gone) (omega arith) ∙ out)
      ∙ ap (λ (n : ℕ). Some (closed_datagram f (ids_at o n) (number + kept_from gone 0 k) d)) (omega arith))

  -- more of them
  pub closed_append : (ds es : List (List ℕ)) (k number : ℕ)
      → closed f o gone k number (ds ++ es) ≡ closed f o gone k number ds ++ closed f o gone (k + length ds) (number + length (closed f o gone k number ds)) es
  closed_append [] es k number = ap (λ (n : ℕ). closed f o gone n number es) (omega arith) ∙ ap (λ (n : ℕ). closed f o gone (k + 0) n es) (omega arith)
  closed_append (x ∷ ds) es k number = by (is_in k gone) refl (closed_append ds es (k + 1) number) (closed_append ds es (k + 1) (number + 1))
    where
      by : (b : Bool) → is_in k gone ≡ b
          → closed f o gone (k + 1) number (ds ++ es) ≡ closed f o gone (k + 1) number ds ++ closed f o gone (k + 1 + length ds) (number + length (closed f o gone (k + 1) number ds)) es
          → closed f o gone (k + 1) (number + 1) (ds ++ es) ≡ closed f o gone (k + 1) (number + 1) ds ++ closed f o gone (k + 1 + length ds) (number + 1 + length (closed f o gone (k + 1) (number + 1) ds)) es
          → cond (is_in k gone) (closed f o gone (k + 1) number (ds ++ es)) (closed_datagram f (ids_at o k) number x ∷ closed f o gone (k + 1) (number + 1) (ds ++ es))
          ≡ cond (is_in k gone) (closed f o gone (k + 1) number ds) (closed_datagram f (ids_at o k) number x ∷ closed f o gone (k + 1) (number + 1) ds)
          ++ closed f o gone (k + suc (length ds)) (number + length (cond (is_in k gone) (closed f o gone (k + 1) number ds) (closed_datagram f (ids_at o k) number x ∷ closed f o gone (k + 1) (number + 1) ds))) es
      by true e left kept = rw e (left ∙ ap (λ (n : ℕ). closed f o gone (k + 1) number ds ++ closed f o gone n (number + length (closed f o gone (k + 1) number ds)) es) (omega arith))
      by false e left kept = rw e (ap (λ (xs : List (List ℕ)). closed_datagram f (ids_at o k) number x ∷ xs)
          (kept
          ∙ (ap (λ (n : ℕ). closed f o gone (k + 1) (number + 1) ds ++ closed f o gone n (number + 1 + length (closed f o gone (k + 1) (number + 1) ds)) es) (omega arith)
          ∙ ap (λ (n : ℕ). closed f o gone (k + 1) (number + 1) ds ++ closed f o gone (k + suc (length ds)) n es) (omega arith))))

  pub closed_few : (ds : List (List ℕ)) (k number : ℕ) → length (closed f o gone k number ds) ≤ length ds
  closed_few [] k number = omega arith
  closed_few (x ∷ ds) k number = by (is_in k gone) refl (closed_few ds (k + 1) number) (closed_few ds (k + 1) (number + 1))
    where
      by : (b : Bool) → is_in k gone ≡ b → length (closed f o gone (k + 1) number ds) ≤ length ds → length (closed f o gone (k + 1) (number + 1) ds) ≤ length ds
          → length (cond (is_in k gone) (closed f o gone (k + 1) number ds) (closed_datagram f (ids_at o k) number x ∷ closed f o gone (k + 1) (number + 1) ds)) ≤ suc (length ds)
      by true e left kept = rw e (omega (arith, left))
      by false e left kept = rw e (omega (arith, kept))

  -- all are left out, or none
  pub closed_none : (ds : List (List ℕ)) (k number : ℕ) → ((place : ℕ) → place < length ds → is_in (k + place) gone ≡ true) → closed f o gone k number ds ≡ []
  closed_none [] k number out = refl
  closed_none (x ∷ ds) k number out =
      let here : is_in k gone ≡ true = ap (λ (n : ℕ). is_in n gone) (omega arith) ∙ out 0 (omega arith) in
      rw here (closed_none ds (k + 1) number (λ place l. ap (λ (n : ℕ). is_in n gone) (omega arith) ∙ out (suc place) (omega (arith, l))))

  abbrev pub numbered : (k number : ℕ) → List (List ℕ) → List (List ℕ)
  numbered k number [] = []
  numbered k number (x ∷ ds) = closed_datagram f (ids_at o k) number x ∷ numbered (k + 1) (number + 1) ds

  pub closed_all : (ds : List (List ℕ)) (k number : ℕ) → ((place : ℕ) → place < length ds → is_in (k + place) gone ≡ false) → closed f o gone k number ds ≡ numbered k number ds
  closed_all [] k number out = refl
  closed_all (x ∷ ds) k number out =
      let here : is_in k gone ≡ false = ap (λ (n : ℕ). is_in n gone) (omega arith) ∙ out 0 (omega arith) in
      rw here (ap (λ (xs : List (List ℕ)). closed_datagram f (ids_at o k) number x ∷ xs)
      (closed_all ds (k + 1) (number + 1) (λ place l. ap (λ (n : ℕ). is_in n gone) (omega arith) ∙ out (suc place) (omega (arith, l)))))
