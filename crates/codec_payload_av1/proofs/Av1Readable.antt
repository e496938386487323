-- Whether a receiver accepts the elements of a payload, one after another, in the order of a loop.
use Rattle.std.proofs.Common.{◌≡◌, ℕ, zero, suc, ◌<◌, ◌/◌, Bool, true, false, not, eqb, ltb, List, [], ◌∷◌, ◌++◌, length, Option, Some, None, refl, sym, ap, ◌∙◌, ◌⊎◌, inl, inr, arith}
use Rattle.std.specs.Prelude.{◌||◌, ◌&&◌, is_some, bit_and}
use Rattle.std.proofs.lemmas.Bool.{ne_eqb}
use Rattle.std.proofs.lemmas.Bool.Decides.{nat_tests}
use Rattle.codec_payload_av1.specs.Av1Reading.{◌>>=◌}
use Rattle.codec_payload_av1.specs.Av1Obu.{has_bit, is_one}
use Rattle.codec_payload_av1.specs.Av1Packing.{is_begun}
use Rattle.codec_payload_av1.specs.Av1Payload.{Payload, element_at, each_at, counted_at, elements_at, next_at, w_after, payload_at}
use Rattle.codec_payload_av1.specs.Av1Receiving.{unit_of, units_of, taken, received, without_orphan, begun_at, can_take, still_pending, usable}
use Rattle.codec_payload_av1.proofs.Av1ReadingElements.{shorter, each_cons}
use Rattle.codec_payload_av1.proofs.Av1TakingElements.{after, one_taken, one_fails}
use Rattle.codec_payload_av1.proofs.Av1OneObu.{unit_is_one}
use Rattle.codec_payload_av1.proofs.Av1PayloadLengths.{some_is, bind_some}

-- ---- the next element

no_rest : (bytes e rest : List ℕ) → next_at 1 bytes ≡ Some (e, rest) → rest ≡ []
no_rest bytes e rest is = ap (λ (x : List ℕ × List ℕ). x.1) (sym (some_is (bytes, []) (e, rest) is))

all_taken : (bytes e rest : List ℕ) → next_at 1 bytes ≡ Some (e, rest) → bytes ≡ e
all_taken bytes e rest is = ap (λ (x : List ℕ × List ℕ). x.0) (some_is (bytes, []) (e, rest) is)

more_at : (k : ℕ) (bytes : List ℕ) → next_at (suc (suc k)) bytes ≡ element_at bytes
more_at k bytes = rw (ne_eqb (suc (suc k)) 1 (omega arith)) refl

pub next_shorter : (w : ℕ) (bytes e rest : List ℕ) → 0 < length bytes → next_at w bytes ≡ Some (e, rest) → length rest < length bytes
next_shorter zero bytes e rest lt is = shorter bytes e rest is
next_shorter (suc zero) bytes e rest lt is = rw (no_rest bytes e rest is) lt
next_shorter (suc (suc k)) bytes e rest lt is = shorter bytes e rest (sym (more_at k bytes) ∙ is)

counted_cons : (k : ℕ) (bytes e rest : List ℕ) → 0 < length bytes → element_at bytes ≡ Some (e, rest) → counted_at (suc k) bytes ≡ (counted_at k rest >>= λ es. Some (e ∷ es))
unfolding counted_at
counted_cons k [] e rest lt is = absurd (omega (arith, lt))
counted_cons k (c ∷ bytes) e rest lt is = rw is refl

counted_one : (bytes : List ℕ) → 0 < length bytes → counted_at 0 bytes ≡ Some (bytes ∷ [])
unfolding counted_at
counted_one [] lt = absurd (omega (arith, lt))
counted_one (c ∷ bytes) lt = refl

counted_nil : (k : ℕ) → counted_at k [] ≡ Some []
unfolding counted_at
counted_nil zero = refl
counted_nil (suc k) = refl

pub elements_cons : (w : ℕ) (bytes e rest : List ℕ) → 0 < length bytes → next_at w bytes ≡ Some (e, rest) → elements_at w bytes ≡ (elements_at (w_after w) rest >>= λ es. Some (e ∷ es))
elements_cons zero bytes e rest lt is = each_cons bytes e rest lt is
elements_cons (suc zero) bytes e rest lt is =
    rw (no_rest bytes e rest is, counted_nil 0) (counted_one bytes lt ∙ ap (λ (t : List ℕ). Some (t ∷ [])) (all_taken bytes e rest is))
elements_cons (suc (suc k)) bytes e rest lt is = counted_cons k bytes e rest lt (sym (more_at k bytes) ∙ is)

each_none : (bytes : List ℕ) → 0 < length bytes → element_at bytes ≡ None → each_at (length bytes) bytes ≡ None
unfolding each_at
each_none [] lt is = absurd (omega (arith, lt))
each_none (c ∷ bytes) lt is = rw is refl

counted_none : (k : ℕ) (bytes : List ℕ) → 0 < length bytes → element_at bytes ≡ None → counted_at (suc k) bytes ≡ None
unfolding counted_at
counted_none k [] lt is = absurd (omega (arith, lt))
counted_none k (c ∷ bytes) lt is = rw is refl

pub elements_none : (w : ℕ) (bytes : List ℕ) → 0 < length bytes → next_at w bytes ≡ None → elements_at w bytes ≡ None
elements_none zero bytes lt is = each_none bytes lt is
elements_none (suc zero) bytes lt is = absurd cc
elements_none (suc (suc k)) bytes lt is = counted_none k bytes lt (sym (more_at k bytes) ∙ is)

pub elements_nil : (w : ℕ) → elements_at w [] ≡ Some []
unfolding each_at
elements_nil zero = refl
elements_nil (suc k) = counted_nil k

-- ---- elements at a receiver

-- whether the last of n elements continues
abbrev pub open_at : Bool → ℕ → ℕ → Bool
open_at y w n = y && (eqb w 0 || eqb n w)

-- whether these elements are acceptable after the begun bytes
abbrev pub are_taken : Bool → Bool → List ℕ → ℕ → Option (List (List ℕ)) → Bool
are_taken y orphan begun w read = is_some (read >>= λ es. taken (y && (eqb w 0 || eqb (length es) w)) begun (without_orphan orphan es))

none_taken : (goes_on : Bool) (begun : List ℕ) → is_some (taken goes_on begun []) ≡ true
unfolding taken units_of
none_taken goes_on begun = refl

nothing_orphaned : (goes_on orphan : Bool) (begun : List ℕ) → is_some (taken goes_on begun (without_orphan orphan [])) ≡ true
nothing_orphaned goes_on true begun = none_taken goes_on begun
nothing_orphaned goes_on false begun = none_taken goes_on begun

pub taken_end : (y orphan : Bool) (begun : List ℕ) (w : ℕ) (bytes : List ℕ) → length bytes ≡ 0 → are_taken y orphan begun w (elements_at w bytes) ≡ true
taken_end y orphan begun w [] none = rw (elements_nil w) (nothing_orphaned (open_at y w 0) orphan begun)
taken_end y orphan begun w (b ∷ bytes) none = absurd (omega (arith, none))

pub taken_none : (y orphan : Bool) (begun : List ℕ) (w : ℕ) (bytes : List ℕ) → 0 < length bytes → next_at w bytes ≡ None → are_taken y orphan begun w (elements_at w bytes) ≡ false
taken_none y orphan begun w bytes lt is = rw (elements_none w bytes lt is) refl

and_false : (b : Bool) → false ≡ (b && false)
and_false true = refl
and_false false = refl

and_true : (b : Bool) → b ≡ (b && true)
and_true true = refl
and_true false = refl

some_after : (u : List ℕ) (r : Option (List ℕ × List ℕ)) → is_some (after u r) ≡ is_some r
some_after u None = refl
some_after u (Some x) = refl

-- an element that ends here, and the others
ends_and : (goes_on : Bool) (begun e : List ℕ) (es : List (List ℕ)) (u : Option (List ℕ)) → unit_of (begun ++ e) ≡ u → (goes_on ≡ false) ⊎ (0 < length es)
    → is_some (taken goes_on begun (e ∷ es)) ≡ (is_some u && is_some (taken goes_on [] es))
ends_and goes_on begun e es None is ends = ap is_some (one_fails goes_on begun e es ends is)
ends_and goes_on begun e es (Some u) is ends = ap is_some (one_taken goes_on begun e es u ends is) ∙ some_after u (taken goes_on [] es)

goes_open : (begun e : List ℕ) → is_some (taken true begun (e ∷ [])) ≡ true
unfolding taken units_of
goes_open begun e = refl

pub last_open : (y : Bool) (w : ℕ) → open_at y w 1 ≡ (y && ltb w 2)
last_open false w = refl
last_open true zero = refl
last_open true (suc zero) = refl
last_open true (suc (suc k)) = grind arith

last_step : (b : Bool) (begun e : List ℕ) → is_some (taken b begun (e ∷ [])) ≡ (b || is_one (begun ++ e))
last_step true begun e = goes_open begun e
last_step false begun e = ends_and false begun e [] (unit_of (begun ++ e)) refl (inl refl) ∙ rw (none_taken false [], unit_is_one (begun ++ e)) (sym (and_true (is_one (begun ++ e))))

eqb_suc : (a b : ℕ) → eqb (suc a) (suc b) ≡ eqb a b
eqb_suc a b = grind (arith, nat_tests)

-- if more elements follow, the same element continues
pub same_open : (y : Bool) (w : ℕ) (rest : List ℕ) (f : List ℕ) (fs : List (List ℕ)) → (w ≡ 1 → rest ≡ []) → elements_at (w_after w) rest ≡ Some (f ∷ fs)
    → open_at y w (suc (length (f ∷ fs))) ≡ open_at y (w_after w) (length (f ∷ fs))
same_open y zero rest f fs one read = refl
same_open y (suc zero) rest f fs one read = let none = sym (elements_nil 1) ∙ (ap (elements_at 1) (sym (one refl)) ∙ read) in absurd cc
same_open y (suc (suc k)) rest f fs one read =
    rw (ne_eqb (suc (suc k)) 0 (omega arith), ne_eqb (suc k) 0 (omega arith), eqb_suc (length (f ∷ fs)) (suc k)) refl

each_some : (k : ℕ) (bytes : List ℕ) → each_at k bytes ≡ Some [] → bytes ≡ []
unfolding each_at
each_some k [] is = refl
each_some zero (b ∷ bytes) is = absurd cc
each_some (suc k) (b ∷ bytes) is =
    let x = bind_some (element_at (b ∷ bytes)) (λ x. each_at k x.1 >>= λ ys. Some (x.0 ∷ ys)) [] is in
    let ys = bind_some (each_at k x.0.1) (λ ys. Some (x.0.0 ∷ ys)) [] x.2 in
    absurd (let no = ys.2 in cc)

counted_some : (k : ℕ) (bytes : List ℕ) → counted_at k bytes ≡ Some [] → bytes ≡ []
unfolding counted_at
counted_some k [] is = refl
counted_some zero (b ∷ bytes) is = absurd cc
counted_some (suc k) (b ∷ bytes) is =
    let x = bind_some (element_at (b ∷ bytes)) (λ x. counted_at k x.1 >>= λ ys. Some (x.0 ∷ ys)) [] is in
    let ys = bind_some (counted_at k x.0.1) (λ ys. Some (x.0.0 ∷ ys)) [] x.2 in
    absurd (let no = ys.2 in cc)

pub no_elements : (w : ℕ) (bytes : List ℕ) → elements_at w bytes ≡ Some [] → bytes ≡ []
no_elements zero bytes is = each_some (length bytes) bytes is
no_elements (suc k) bytes is = counted_some k bytes is

some_bytes : (w : ℕ) (bytes : List ℕ) (f : List ℕ) (fs : List (List ℕ)) → elements_at w bytes ≡ Some (f ∷ fs) → is_begun bytes ≡ true
some_bytes w [] f fs is = let none = sym (elements_nil w) ∙ is in absurd cc
some_bytes w (b ∷ bytes) f fs is = refl

at_the_end : (a b u : Bool) → ((a && b) || u) ≡ (((a && b && true) || u) && true)
at_the_end true true u = refl
at_the_end true false true = refl
at_the_end true false false = refl
at_the_end false b true = refl
at_the_end false b false = refl

before_others : (a b u v : Bool) → (u && v) ≡ (((a && b && false) || u) && v)
before_others true true u v = refl
before_others true false u v = refl
before_others false b u v = refl

-- one element, and then the others
taken_step : (y orphan : Bool) (begun : List ℕ) (w : ℕ) (e rest : List ℕ) (r : Option (List (List ℕ))) → elements_at (w_after w) rest ≡ r → (w ≡ 1 → rest ≡ []) → (orphan ≡ true → begun ≡ [])
    → are_taken y orphan begun w (r >>= λ es. Some (e ∷ es)) ≡ (can_take orphan y w begun e rest && are_taken y false [] (w_after w) r)
taken_step y orphan begun w e rest None read one lost = and_false (can_take orphan y w begun e rest)
taken_step y true begun w e rest (Some []) read one lost = none_taken (open_at y w 1) begun ∙ sym (none_taken (open_at y (w_after w) 0) [])
taken_step y false begun w e rest (Some []) read one lost =
    rw (no_elements (w_after w) rest read, none_taken (open_at y (w_after w) 0) [])
    (ap (λ (b : Bool). is_some (taken b begun (e ∷ []))) (last_open y w) ∙ last_step (y && ltb w 2) begun e ∙ at_the_end y (ltb w 2) (is_one (begun ++ e)))
taken_step y true begun w e rest (Some (f ∷ fs)) read one lost = rw (lost refl) (ap (λ (b : Bool). is_some (taken b [] (f ∷ fs))) (same_open y w rest f fs one read))
taken_step y false begun w e rest (Some (f ∷ fs)) read one lost =
    rw (some_bytes (w_after w) rest f fs read, same_open y w rest f fs one read)
    (ends_and (open_at y (w_after w) (length (f ∷ fs))) begun e (f ∷ fs) (unit_of (begun ++ e)) refl (inr (omega arith))
    ∙ ap (λ (u : Bool). u && is_some (taken (open_at y (w_after w) (length (f ∷ fs))) [] (f ∷ fs))) (unit_is_one (begun ++ e))
    ∙ before_others y (ltb w 2) (is_one (begun ++ e)) (is_some (taken (open_at y (w_after w) (length (f ∷ fs))) [] (f ∷ fs))))

pub one_rest : (w : ℕ) (bytes e rest : List ℕ) → next_at w bytes ≡ Some (e, rest) → w ≡ 1 → rest ≡ []
one_rest w bytes e rest is one = no_rest bytes e rest (ap (λ (v : ℕ). next_at v bytes) (sym one) ∙ is)

pub taken_next : (y orphan : Bool) (begun : List ℕ) (w : ℕ) (bytes e rest : List ℕ) → 0 < length bytes → next_at w bytes ≡ Some (e, rest) → (orphan ≡ true → begun ≡ [])
    → are_taken y orphan begun w (elements_at w bytes) ≡ (can_take orphan y w begun e rest && are_taken y false [] (w_after w) (elements_at (w_after w) rest))
taken_next y orphan begun w bytes e rest lt is lost =
    ap (are_taken y orphan begun w) (elements_cons w bytes e rest lt is) ∙ taken_step y orphan begun w e rest (elements_at (w_after w) rest) refl (one_rest w bytes e rest is) lost

received_some : (pending : List ℕ) (h w : ℕ) (r : Option (List (List ℕ))) → are_taken (has_bit 64 h) (has_bit 128 h && not (is_begun (begun_at h pending))) (begun_at h pending) w r
    ≡ is_some ((r >>= λ es. Some (record {
      continues = has_bit 128 h;
      goes_on = has_bit 64 h &&
          (eqb w 0 || eqb (length es) w);
      starts = has_bit 8 h;
      elements = es;
    })) >>= λ (p : Payload). taken p.goes_on (still_pending p pending) (usable p (still_pending p pending)))
received_some pending h w None = refl
received_some pending h w (Some es) = refl

-- the elements of a payload, after the pending bytes
pub taken_first : (pending : List ℕ) (h : ℕ) (bytes : List ℕ)
    → are_taken (has_bit 64 h) (has_bit 128 h && not (is_begun (begun_at h pending))) (begun_at h pending) (bit_and h 0x30 / 16)
    (elements_at (bit_and h 0x30 / 16) bytes) ≡ is_some (received pending (h ∷ bytes))
unfolding received payload_at
taken_first pending h bytes = received_some pending h (bit_and h 0x30 / 16) (elements_at (bit_and h 0x30 / 16) bytes)

nothing_lost : (begun : List ℕ) → not (is_begun begun) ≡ true → begun ≡ []
nothing_lost [] is = refl
nothing_lost (b ∷ begun) is = absurd cc

pub orphan_lost : (continues : Bool) (begun : List ℕ) → (continues && not (is_begun begun)) ≡ true → begun ≡ []
orphan_lost true begun is = nothing_lost begun is
orphan_lost false begun is = absurd cc
