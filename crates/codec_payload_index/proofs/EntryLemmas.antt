-- Entries in rising order of SSRCs.
use Rattle.std.proofs.Common.{◌≡◌, ◌≢◌, ◌<◌, ◌≤◌, ℕ, suc, zero, ◌+◌, ◌-◌, ◌^◌, List, [], ◌∷◌, ◌++◌, length, get_or, set, map, take, drop, Some, None, Bool, refl, ap, ◌∙◌, sym, subst, add-one, arith, inl, inr}
use Rattle.std.specs.List.{AllWithin, insert, remove}
use Rattle.std.specs.List.Sorted.{IsNonDecreasingBy, IsPartitionPoint}
use Rattle.std.proofs.lemmas.Bool.{cases_lt}
use Rattle.std.specs.Prelude.{nat_lt}
use Rattle.std.proofs.lemmas.Bool.Decides.{nat_tests}
use Rattle.std.proofs.lemmas.List.{get_or_append_left, get_or_at, get_or-map, length-append, length-map}
use Rattle.std.proofs.lemmas.List.Edits.{get_or-insert_above, get_or-insert_at, get_or-insert_below, get_or-remove_above, get_or-remove_below, length-insert, length-remove}
use Rattle.codec_payload_index.specs.Ssrcs.{AreEntries, IsFirstFrom, IsListed, IsOnly, IsTold, Rises, key, key_of, lowered}
use Rattle.codec_payload_index.specs.declared.ssrcs.Entry.{Entry}

-- within a list the default does not matter
pub same_there : {X : Type 0} (xs : List X) (i : ℕ) (d e : X) → i < length xs → get_or xs i d ≡ get_or xs i e
same_there [] i d e l = absurd (omega arith)
same_there (x ∷ xs) zero d e l = refl
same_there (x ∷ xs) (suc i) d e l = same_there xs i d e (omega arith)

pub never_falls : (es : List Entry) → Rises es → IsNonDecreasingBy key_of es
never_falls es rise = λ i j d le l. elim (cases_lt i j) [
  | inl less ↦ omega (arith, rise i j d less l)
  | inr most ↦
      let same : key_of (get_or es i d) ≡ key_of (get_or es j d) = ap (λ (k : ℕ). key_of (get_or es k d)) (omega arith) in
      omega (arith, same)
]

-- the place of a search by an SSRC and a place
pub record IsPoint (ssrc from at : ℕ) (es : List Entry) : Type 0 where
  pub lower : (k : ℕ) (d : Entry) → k < at → key_of (get_or es k d) < key ssrc from
  pub behind : (k : ℕ) (d : Entry) → at ≤ k → k < length es → key ssrc from ≤ key_of (get_or es k d)

-- an entry has the SSRC and the place, and is not in front of a place of the search
pub record IsBehind (ssrc place at : ℕ) (es : List Entry) : Type 0 where
  pub index : ℕ
  pub within : index < length es
  pub behind : at ≤ index
  pub place_is : (d : Entry) → (get_or es index d).place ≡ place
  pub ssrc_is : (d : Entry) → (get_or es index d).ssrc ≡ ssrc

-- an entry with a place has the SSRC there
pub told_there : (ss : List ℕ) (es : List Entry) (i place ssrc d : ℕ) (x : Entry) → AreEntries ss es → i < length es → place < length ss → (get_or es i x).place ≡ place → get_or ss place d ≡ ssrc
    → (get_or es i x).ssrc ≡ ssrc
told_there ss es i place ssrc d x are l within is has =
    let told = are.told i x l in
    sym told.has ∙ ap (λ (k : ℕ). get_or ss k 0) is ∙ same_there ss place 0 d within ∙ has

pub behind_of : (ss : List ℕ) (es : List Entry) (ssrc from at k d : ℕ) (x : Entry) → AreEntries ss es → IsPoint ssrc from at es → from ≤ k → k < length ss → get_or ss k d ≡ ssrc → IsBehind ssrc k at es
behind_of ss es ssrc from at k d x are point later within has =
    let there = are.listed k within in
    let of_it : (y : Entry) → (get_or es there.at y).ssrc ≡ ssrc = λ y. told_there ss es there.at k ssrc d y are there.within within (there.is y) has in
    let behind : at ≤ there.at = elim (cases_lt there.at at) [
      | inl low ↦ absurd (omega (arith, point.lower there.at x low, of_it x, there.is x, later))
      | inr high ↦ high
    ] in
    record { index = there.at; within = there.within; behind = behind; place_is = there.is; ssrc_is = of_it }

-- ---- a search

-- the entry at the place of the search has the SSRC
pub found : (ss : List ℕ) (es : List Entry) (ssrc from at : ℕ) (x : Entry) → length ss < 2 ^ 64 → AreEntries ss es → IsPoint ssrc from at es → at < length es → x ≡ get_or es at x → x.ssrc ≡ ssrc
    → IsFirstFrom from ssrc ss (Some x.place)
found ss es ssrc from at x few are point within is has =
    let told : IsTold ss x = subst (λ (e : Entry). IsTold ss e) (sym is) (are.told at x within) in
    let keyed : key_of (get_or es at x) ≡ key_of x = ap key_of (sym is) in
    record {
      behind = omega (arith, point.behind at x (omega arith) within, keyed, has);
      within = told.within;
      has = told.has ∙ has;
      first = λ k d later l same.
          let b = behind_of ss es ssrc from at k d x are point later (omega (arith, l, told.within)) same in
          let le = never_falls es are.rise at b.index x b.behind b.within in
          absurd (omega (arith, le, keyed, has, b.place_is x, b.ssrc_is x, l));
    }

-- the entry at the place of the search has another SSRC
pub not_found : (ss : List ℕ) (es : List Entry) (ssrc from at : ℕ) (x : Entry) → length ss < 2 ^ 64 → AreEntries ss es → IsPoint ssrc from at es → at < length es → x ≡ get_or es at x → x.ssrc ≢ ssrc
    → IsFirstFrom from ssrc ss None
not_found ss es ssrc from at x few are point within is other = λ k d later l same.
    let told : IsTold ss x = subst (λ (e : Entry). IsTold ss e) (sym is) (are.told at x within) in
    let keyed : key_of (get_or es at x) ≡ key_of x = ap key_of (sym is) in
    let b = behind_of ss es ssrc from at k d x are point later l same in
    let le = never_falls es are.rise at b.index x b.behind b.within in
    let ge = point.behind at x (omega arith) within in
    let equal : x.ssrc ≡ ssrc = omega (arith, le, ge, keyed, b.place_is x, b.ssrc_is x, l, few, told.within) in
    other equal

-- the search ends at the end
pub past_end : (ss : List ℕ) (es : List Entry) (ssrc from at : ℕ) → AreEntries ss es → IsPoint ssrc from at es → length es ≤ at → IsFirstFrom from ssrc ss None
past_end ss es ssrc from at are point past = λ k d later l same.
    let b = behind_of ss es ssrc from at k d (record { ssrc = 0; place = 0 }) are point later l same in
    absurd (omega (arith, b.behind, b.within, past))

-- ---- the only place

pub nowhere : (ssrc : ℕ) (ss : List ℕ) → IsFirstFrom 0 ssrc ss None → IsOnly ssrc ss None
nowhere ssrc ss none = λ place first alone. none place 0 (omega arith) first.within first.has

pub several : (ssrc p q : ℕ) (ss : List ℕ) → IsFirstFrom 0 ssrc ss (Some p) → IsFirstFrom (p + 1) ssrc ss (Some q) → IsOnly ssrc ss None
several ssrc p q ss one two = λ place first alone. elim (cases_lt place q) [
  | inl less ↦ alone q 0 (omega (arith, less)) two.within two.has
  | inr more ↦ first.first p 0 (omega arith) (omega (arith, more, two.behind)) one.has
]

-- the search for the next place with the SSRC ends behind its first entry
pub next_point : (es : List Entry) (ssrc at : ℕ) (x : Entry) → Rises es → at < length es → x ≡ get_or es at x → x.ssrc ≡ ssrc → IsPoint ssrc 0 at es → IsPoint ssrc (x.place + 1) (at + 1) es
next_point es ssrc at x rise within is has point =
    let keyed : (d : Entry) → key_of (get_or es at d) ≡ key_of x = λ d. ap key_of (same_there es at d x within ∙ sym is) in
    record {
      lower = λ k d less. omega (arith, never_falls es rise k at d (omega (arith, less)) within, keyed d, has);
      behind = λ k d le l. omega (arith, rise at k d (omega (arith, le)) l, keyed d, has);
    }

-- ---- entries that are changed one after the other

get_mapped : (f : Entry → Entry) (xs : List Entry) (i : ℕ) (d : Entry) → i < length xs → get_or (map f (take i xs) ++ drop i xs) i d ≡ get_or xs i d
get_mapped f [] i d within = absurd (omega (arith, within))
get_mapped f (x ∷ xs) zero d within = refl
get_mapped f (x ∷ xs) (suc i) d within = get_mapped f xs i d (omega (arith, within))

set_mapped : (f : Entry → Entry) (xs : List Entry) (i : ℕ) (d : Entry) → i < length xs → set (map f (take i xs) ++ drop i xs) i (f (get_or xs i d)) ≡ map f (take (suc i) xs) ++ drop (suc i) xs
set_mapped f [] i d within = absurd (omega (arith, within))
set_mapped f (x ∷ xs) zero d within = refl
set_mapped f (x ∷ xs) (suc i) d within = ap (λ (l : List Entry). f x ∷ l) (set_mapped f xs i d (omega (arith, within)))

pub preserved : (f : Entry → Entry) (xs ys : List Entry) (i : ℕ) (d r : Entry) → i < length xs → ys ≡ map f (take i xs) ++ drop i xs → r ≡ f (get_or ys i d)
    → set ys i r ≡ map f (take (i + 1) xs) ++ drop (i + 1) xs
preserved f xs ys i d r within is made = rw (made, is, get_mapped f xs i d within, add-one) (set_mapped f xs i d within)

-- the clause of a search
pub point_of : (ssrc from at : ℕ) (es : List Entry) → IsPartitionPoint (λ (e : Entry). key_of e < key ssrc from) (λ (e : Entry). key ssrc from ≤ key_of e) es at → IsPoint ssrc from at es
point_of ssrc from at es point = record { lower = λ k d l. point.0 k d (omega arith) l; behind = λ k d le l. point.1 k d le l }

-- one entry decides for all in front of it
pub before_of : (t at : ℕ) (es : List Entry) (e : Entry) → Rises es → at ≢ 0 → at ≤ length es → key_of (get_or es (at - 1) e) < t → AllWithin (λ (x : Entry). key_of x < t) es 0 at
before_of t at es e rise some within low = λ k d from l.
    let positive : 0 < at = elim (cases_lt 0 at) [ inl low_at ↦ low_at | inr most ↦ absurd (some (omega (arith, most))) ] in
    let le = never_falls es rise k (at - 1) d (omega (arith, l)) (omega (arith, positive, within)) in
    let same : key_of (get_or es (at - 1) d) ≡ key_of (get_or es (at - 1) e) = ap key_of (same_there es (at - 1) d e (omega (arith, positive, within))) in
    omega (arith, le, same, low)

-- and for all behind it
pub from_of : (t at : ℕ) (es : List Entry) (e : Entry) → Rises es → at ≢ length es → at ≤ length es → t ≤ key_of (get_or es at e) → AllWithin (λ (x : Entry). t ≤ key_of x) es at (length es)
from_of t at es e rise some within high = λ k d from l.
    let inside : at < length es = elim (cases_lt at (length es)) [ inl low_at ↦ low_at | inr most ↦ absurd (some (omega (arith, most, within))) ] in
    let le = never_falls es rise at k d from l in
    let same : key_of (get_or es at d) ≡ key_of (get_or es at e) = ap key_of (same_there es at d e inside) in
    omega (arith, le, same, high)

-- ---- one more entry

insert_later : {X : Type 0} (xs : List X) (i : ℕ) (y d : X) (j : ℕ) → i < j → i ≤ length xs → get_or (insert xs i y) j d ≡ get_or xs (j - 1) d
insert_later xs i y d zero less le = absurd (omega (arith, less))
insert_later xs i y d (suc k) less le =
    let next : suc k ≡ k + 1 = omega arith in
    let same : k ≡ suc k - 1 = omega arith in
    ap (λ (n : ℕ). get_or (insert xs i y) n d) next ∙ get_or-insert_above xs i y d k (omega (arith, less)) le ∙ ap (λ (n : ℕ). get_or xs n d) same

in_order : (es : List Entry) (ssrc n at : ℕ) (e : Entry) → Rises es → ((i : ℕ) (d : Entry) → i < length es → (get_or es i d).place < n) → n < 2 ^ 64 → IsPoint ssrc n at es → at ≤ length es → e.ssrc ≡ ssrc → e.place ≡ n
    → Rises (insert es at e)
in_order es ssrc n at e rise few fits point le of_it there = λ i j d less l.
    let long = length-insert es at e le in
    let lower : i < at → get_or (insert es at e) i d ≡ get_or es i d = λ low. get_or-insert_below es at e d i low le in
    let lower_too : j < at → get_or (insert es at e) j d ≡ get_or es j d = λ low. get_or-insert_below es at e d j low le in
    let higher : at < i → get_or (insert es at e) i d ≡ get_or es (i - 1) d = λ high. insert_later es at e d i high le in
    let higher_too : at < j → get_or (insert es at e) j d ≡ get_or es (j - 1) d = λ high. insert_later es at e d j high le in
    let here : get_or (insert es at e) at d ≡ e = get_or-insert_at es at e d le in
    elim (cases_lt j at) [
      | inl low ↦ rw (lower (omega arith), lower_too low) (rise i j d less (omega (arith, low, le)))
      | inr not_low ↦ elim (cases_lt at j) [
        | inl high ↦ elim (cases_lt i at) [
          | inl below ↦ rw (lower below, higher_too high) (omega (arith, point.lower i d below, point.behind (j - 1) d (omega arith) (omega (arith, long, l))))
          | inr not_below ↦ elim (cases_lt at i) [
            | inl above ↦ rw (higher above, higher_too high) (rise (i - 1) (j - 1) d (omega arith) (omega (arith, long, l)))
            | inr equal ↦
                let is : get_or (insert es at e) i d ≡ e = ap (λ (k : ℕ). get_or (insert es at e) k d) (omega arith) ∙ here in
                rw (is, higher_too high) (omega (arith, point.behind (j - 1) d (omega arith) (omega (arith, long, l)), few (j - 1) d (omega (arith, long, l)), of_it, there, fits))
          ]
        ]
        | inr equal ↦
            let is : get_or (insert es at e) j d ≡ e = ap (λ (k : ℕ). get_or (insert es at e) k d) (omega arith) ∙ here in
            rw (lower (omega arith), is) (omega (arith, point.lower i d (omega arith), of_it, there))
      ]
    ]

told_more : (ss : List ℕ) (s : ℕ) (x : Entry) → IsTold ss x → IsTold (ss ++ s ∷ []) x
told_more ss s x told = record {
  within = omega (arith, told.within, length-append ss (s ∷ []));
  has = get_or_append_left ss (s ∷ []) 0 x.place told.within ∙ told.has;
}

told_last : (ss : List ℕ) (s : ℕ) (x : Entry) → x.ssrc ≡ s → x.place ≡ length ss → IsTold (ss ++ s ∷ []) x
told_last ss s x of_it there = record {
  within = omega (arith, there, length-append ss (s ∷ []));
  has = get_or_at ss s [] 0 x.place (sym there) ∙ sym of_it;
}

pub added : (ss : List ℕ) (es : List Entry) (ssrc at : ℕ) (e : Entry) → length ss < 2 ^ 64 → AreEntries ss es → IsPoint ssrc (length ss) at es → at ≤ length es → e.ssrc ≡ ssrc → e.place ≡ length ss
    → AreEntries (ss ++ ssrc ∷ []) (insert es at e)
added ss es ssrc at e few are point le of_it there = record {
  rise = in_order es ssrc (length ss) at e are.rise (λ i d l. (are.told i d l).within) few point le of_it there;
  told = λ i d l.
      let long = length-insert es at e le in
      elim (cases_lt i at) [
        | inl low ↦ subst (λ (x : Entry). IsTold (ss ++ ssrc ∷ []) x) (sym (get_or-insert_below es at e d i low le)) (told_more ss ssrc (get_or es i d) (are.told i d (omega (arith, low, le))))
        | inr not_low ↦ elim (cases_lt at i) [
          | inl high ↦ subst (λ (x : Entry). IsTold (ss ++ ssrc ∷ []) x) (sym (insert_later es at e d i high le)) (told_more ss ssrc (get_or es (i - 1) d) (are.told (i - 1) d (omega (arith, high, l, long))))
          | inr equal ↦
              let is : get_or (insert es at e) i d ≡ e = ap (λ (k : ℕ). get_or (insert es at e) k d) (omega arith) ∙ get_or-insert_at es at e d le in
              subst (λ (x : Entry). IsTold (ss ++ ssrc ∷ []) x) (sym is) (told_last ss ssrc e of_it there)
        ]
      ];
  listed = λ place l.
      let long = length-insert es at e le in
      let more = length-append ss (ssrc ∷ []) in
      elim (cases_lt place (length ss)) [
        | inl old ↦
            let was = are.listed place old in
            elim (cases_lt was.at at) [
              | inl low ↦ record { at = was.at; within = omega (arith, was.within, long); is = λ d. ap (λ (x : Entry). x.place) (get_or-insert_below es at e d was.at low le) ∙ was.is d }
              | inr high ↦ record { at = was.at + 1; within = omega (arith, was.within, long); is = λ d. ap (λ (x : Entry). x.place) (get_or-insert_above es at e d was.at high le) ∙ was.is d }
            ]
        | inr new ↦ record { at = at; within = omega (arith, le, long); is = λ d. ap (λ (x : Entry). x.place) (get_or-insert_at es at e d le) ∙ there ∙ omega (arith, new, l, more) }
      ];
}

-- ---- one entry less

-- the entry at the place of the search is the one of the place
pub record IsEntry (ss : List ℕ) (es : List Entry) (place at : ℕ) : Type 0 where
  pub within : at < length es
  pub is : (d : Entry) → (get_or es at d).place ≡ place
  pub only : (i : ℕ) (d : Entry) → i < length es → i ≢ at → (get_or es i d).place ≢ place

pub entry_at : (ss : List ℕ) (es : List Entry) (place ssrc at : ℕ) (d : Entry) → length ss < 2 ^ 64 → AreEntries ss es → place < length ss → get_or ss place 0 ≡ ssrc → IsPoint ssrc place at es
    → IsEntry ss es place at
entry_at ss es place ssrc at d few are within has point =
    let b = behind_of ss es ssrc place at place 0 d are point (omega arith) within has in
    let here : at < length es = omega (arith, b.behind, b.within) in
    let is : (x : Entry) → (get_or es at x).place ≡ place = λ x.
    let le = never_falls es are.rise at b.index x b.behind b.within in
    let ge = point.behind at x (omega arith) here in
    omega (arith, le, ge, b.place_is x, b.ssrc_is x, (are.told at x here).within, within, few) in
    record {
      within = here;
      is = is;
      only = λ i x l other same.
          let one = told_there ss es i place ssrc 0 x are l within same has in
          let two = told_there ss es at place ssrc 0 x are here within (is x) has in
          elim (cases_lt i at) [
            | inl low ↦ absurd (omega (arith, are.rise i at x low here, one, two, same, is x))
            | inr high ↦ elim (cases_lt at i) [
              | inl more ↦ absurd (omega (arith, are.rise at i x more l, one, two, same, is x))
              | inr equal ↦ other (omega arith)
            ]
          ];
    }

-- an entry of another place, lowered
record IsLowered (place : ℕ) (x : Entry) : Type 0 where
  ssrc_is : (lowered place x).ssrc ≡ x.ssrc
  low : x.place < place → (lowered place x).place ≡ x.place
  high : place < x.place → (lowered place x).place + 1 ≡ x.place

lowered_is : (place : ℕ) (x : Entry) → IsLowered place x
lowered_is place x = by_test (nat_lt place x.place) refl
  where
    by_test : (b : Bool) → nat_lt place x.place ≡ b → IsLowered place x
    by_test b is = record {
      ssrc_is = refl;
      low = λ l. grind (arith, nat_tests, l);
      high = λ l. grind (arith, nat_tests, l);
    }

lowered_order : (place : ℕ) (x y : Entry) → x.place ≢ place → y.place ≢ place → x.place < 2 ^ 64 → y.place < 2 ^ 64 → key_of x < key_of y → key_of (lowered place x) < key_of (lowered place y)
lowered_order place x y other another fits fit less =
    let a = lowered_is place x in
    let b = lowered_is place y in
    elim (cases_lt x.place place) [
      | inl low ↦ elim (cases_lt y.place place) [
        | inl low' ↦ omega (arith, a.ssrc_is, b.ssrc_is, a.low low, b.low low', less)
        | inr high' ↦ omega (arith, a.ssrc_is, b.ssrc_is, a.low low, b.high (omega (arith, high', another)), less, low, fits, fit)
      ]
      | inr high ↦ elim (cases_lt y.place place) [
        | inl low' ↦ omega (arith, a.ssrc_is, b.ssrc_is, a.high (omega (arith, high, other)), b.low low', less)
        | inr high' ↦ omega (arith, a.ssrc_is, b.ssrc_is, a.high (omega (arith, high, other)), b.high (omega (arith, high', another)), less)
      ]
    ]

remove_later : {X : Type 0} (xs : List X) (i : ℕ) (d : X) (j : ℕ) → i < j → i < length xs → get_or (remove xs i) (j - 1) d ≡ get_or xs j d
remove_later xs i d zero less within = absurd (omega (arith, less))
remove_later xs i d (suc k) less within =
    let same : suc k - 1 ≡ k = omega arith in
    let next : k + 1 ≡ suc k = omega arith in
    ap (λ (n : ℕ). get_or (remove xs i) n d) same ∙ get_or-remove_above xs i d k (omega (arith, less)) within ∙ ap (λ (n : ℕ). get_or xs n d) next

told_less : (ss : List ℕ) (place : ℕ) (x : Entry) → place < length ss → x.place ≢ place → IsTold ss x → IsTold (remove ss place) (lowered place x)
told_less ss place x within other told =
    let long = length-remove ss place within in
    let a = lowered_is place x in
    elim (cases_lt x.place place) [
      | inl low ↦ record {
        within = omega (arith, a.low low, told.within, long, low, within);
        has = ap (λ (i : ℕ). get_or (remove ss place) i 0) (a.low low) ∙ get_or-remove_below ss place 0 x.place low within ∙ told.has ∙ sym a.ssrc_is;
      }
      | inr high ↦
          let behind : place < x.place = omega (arith, high, other) in
          let is : (lowered place x).place ≡ x.place - 1 = omega (arith, a.high behind) in
          record {
            within = omega (arith, a.high behind, told.within, long);
            has = ap (λ (i : ℕ). get_or (remove ss place) i 0) is ∙ remove_later ss place 0 x.place behind within ∙ told.has ∙ sym a.ssrc_is;
          }
    ]

-- an entry that stays was at some other index
record IsKept (es : List Entry) (at i : ℕ) : Type 0 where
  old : ℕ
  other : old ≢ at
  within : old < length es
  is : (d : Entry) → get_or (remove es at) i d ≡ get_or es old d
  low : i < at → old ≡ i
  high : at ≤ i → old ≡ i + 1

kept_at : (es : List Entry) (at i : ℕ) → at < length es → i < length (remove es at) → IsKept es at i
kept_at es at i within l =
    let long = length-remove es at within in
    elim (cases_lt i at) [
      | inl low ↦ record {
        old = i;
        other = λ same. absurd (omega (arith, low, same));
        within = omega (arith, l, long);
        is = λ d. get_or-remove_below es at d i low within;
        low = λ _. refl;
        high = λ le. absurd (omega (arith, le, low));
      }
      | inr high ↦ record {
        old = i + 1;
        other = λ same. absurd (omega (arith, high, same));
        within = omega (arith, l, long);
        is = λ d. get_or-remove_above es at d i high within;
        low = λ less. absurd (omega (arith, less, high));
        high = λ _. refl;
      }
    ]

pub dropped : (ss : List ℕ) (es : List Entry) (place at : ℕ) → length ss < 2 ^ 64 → AreEntries ss es → place < length ss → IsEntry ss es place at
    → AreEntries (remove ss place) (map (lowered place) (remove es at))
dropped ss es place at few are within it = record {
  rise = λ i j d less l.
      let long : length (map (lowered place) (remove es at)) ≡ length (remove es at) = length-map (remove es at) (lowered place) in
      let a = kept_at es at i it.within (omega (arith, less, l, long)) in
      let b = kept_at es at j it.within (omega (arith, l, long)) in
      let one : get_or (map (lowered place) (remove es at)) i d ≡ lowered place (get_or es a.old d) = get_or-map (lowered place) (remove es at) i d d (omega (arith, less, l, long)) ∙ ap (lowered place) (a.is d) in
      let two : get_or (map (lowered place) (remove es at)) j d ≡ lowered place (get_or es b.old d) = get_or-map (lowered place) (remove es at) j d d (omega (arith, l, long)) ∙ ap (lowered place) (b.is d) in
      let rises : a.old < b.old = in_turn i j a b less in
      rw (one, two) (lowered_order place (get_or es a.old d) (get_or es b.old d) (it.only a.old d a.within a.other) (it.only b.old d b.within b.other)
      (omega (arith, (are.told a.old d a.within).within, few)) (omega (arith, (are.told b.old d b.within).within, few)) (are.rise a.old b.old d rises b.within));
  told = λ i d l.
      let long : length (map (lowered place) (remove es at)) ≡ length (remove es at) = length-map (remove es at) (lowered place) in
      let a = kept_at es at i it.within (omega (arith, l, long)) in
      let one : get_or (map (lowered place) (remove es at)) i d ≡ lowered place (get_or es a.old d) = get_or-map (lowered place) (remove es at) i d d (omega (arith, l, long)) ∙ ap (lowered place) (a.is d) in
      subst (λ (x : Entry). IsTold (remove ss place) x) (sym one) (told_less ss place (get_or es a.old d) within (it.only a.old d a.within a.other) (are.told a.old d a.within));
  listed = λ q l.
      let fewer = length-remove ss place within in
      elim (cases_lt q place) [
        | inl low ↦ still q q (are.listed q (omega (arith, l, fewer))) (λ same. absurd (omega (arith, same, low))) (λ x is. (lowered_is place x).low (omega (arith, is, low)) ∙ is)
        | inr high ↦ still q (q + 1) (are.listed (q + 1) (omega (arith, l, fewer))) (λ same. absurd (omega (arith, same, high))) (λ x is. omega (arith, (lowered_is place x).high (omega (arith, is, high)), is))
      ];
}
  where
    in_turn : (i j : ℕ) → (a : IsKept es at i) → (b : IsKept es at j) → i < j → a.old < b.old
    in_turn i j a b less = elim (cases_lt i at) [
      | inl low ↦ elim (cases_lt j at) [
        | inl low' ↦ omega (arith, a.low low, b.low low', less)
        | inr high' ↦ omega (arith, a.low low, b.high high', less)
      ]
      | inr high ↦ omega (arith, a.high high, b.high (omega (arith, high, less)), less)
    ]

    still : (q p : ℕ) → IsListed p es → p ≢ place → ((x : Entry) → x.place ≡ p → (lowered place x).place ≡ q) → IsListed q (map (lowered place) (remove es at))
    still q p was other lowers =
        let long : length (map (lowered place) (remove es at)) ≡ length (remove es at) = length-map (remove es at) (lowered place) in
        let fewer = length-remove es at it.within in
        elim (cases_lt was.at at) [
          | inl low ↦
              let within' : was.at < length (remove es at) = omega (arith, low, it.within, fewer) in
              record {
                at = was.at;
                within = omega (arith, within', long);
                is = λ d. ap (λ (x : Entry). x.place) (get_or-map (lowered place) (remove es at) was.at d d within' ∙ ap (lowered place) (get_or-remove_below es at d was.at low it.within)) ∙ lowers (get_or es was.at d) (was.is d);
              }
          | inr high ↦
              let behind : at < was.at = not_there high in
              let within' : was.at - 1 < length (remove es at) = omega (arith, behind, was.within, fewer) in
              record {
                at = was.at - 1;
                within = omega (arith, within', long);
                is = λ d. ap (λ (x : Entry). x.place) (get_or-map (lowered place) (remove es at) (was.at - 1) d d within' ∙ ap (lowered place) (remove_later es at d was.at behind it.within)) ∙ lowers (get_or es was.at d) (was.is d);
              }
        ]
      where
        nothing : Entry
        nothing = record { ssrc = 0; place = 0 }

        not_there : at ≤ was.at → at < was.at
        not_there le = elim (cases_lt at was.at) [
          | inl less ↦ less
          | inr most ↦ elim (cases_lt was.at at) [
            | inl low ↦ absurd (omega (arith, low, le))
            | inr equal ↦
                let same : was.at ≡ at = omega arith in
                absurd (other (sym (was.is nothing) ∙ ap (λ (k : ℕ). (get_or es k nothing).place) same ∙ it.is nothing))
          ]
        ]
