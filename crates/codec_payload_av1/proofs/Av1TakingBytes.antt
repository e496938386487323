-- Taking the elements of a payload as they are read, one after the other, as a loop does.
use Rattle.std.proofs.Common.{◌≡◌, ℕ, ◌<◌, ◌/◌, Bool, true, false, not, eqb, ltb, cond, List, [], ◌∷◌, ◌++◌, length, Option, Some, None, refl, sym, ap, ◌∙◌, ◌⊎◌, inl, inr, arith}
use Rattle.std.specs.Prelude.{◌||◌, ◌&&◌, bit_and}
use Rattle.std.proofs.lemmas.List.{append-nil}
use Rattle.codec_payload_base.specs.declared.error.PacketError.{PacketError}
use Rattle.codec_payload_base.specs.declared.error.PacketError.TheVariants as faults
use Rattle.codec_payload_av1.specs.Av1Reading.{◌>>=◌}
use Rattle.codec_payload_av1.specs.Av1Obu.{has_bit}
use Rattle.codec_payload_av1.specs.Av1Outcome.{Fails}
use Rattle.codec_payload_av1.specs.Av1Packing.{is_begun}
use Rattle.codec_payload_av1.specs.Av1Payload.{Payload, counted_at, elements_at, next_at, w_after, payload_at}
use Rattle.codec_payload_av1.specs.Av1Receiving.{unit_of, units_of, taken, received, without_orphan, begun_at, still_pending, usable}
use Rattle.codec_payload_av1.proofs.Av1TakingElements.{after, entry, one_taken, one_fails, after_after, none_before, ends_with}
use Rattle.codec_payload_av1.proofs.Av1Readable.{elements_cons, elements_none, elements_nil, open_at, last_open, same_open, no_elements, one_rest}

-- the output of these elements after the begun bytes
abbrev pub takes : Bool → Bool → List ℕ → ℕ → Option (List (List ℕ)) → Option (List ℕ × List ℕ)
takes y orphan begun w read = read >>= λ es. taken (y && (eqb w 0 || eqb (length es) w)) begun (without_orphan orphan es)

nothing_taken : (goes_on orphan : Bool) (begun : List ℕ) → taken goes_on begun (without_orphan orphan []) ≡ entry [] begun
unfolding taken units_of
nothing_taken goes_on true begun = refl
nothing_taken goes_on false begun = refl

takes_end : (y orphan : Bool) (begun : List ℕ) (w : ℕ) (bytes : List ℕ) → length bytes ≡ 0 → takes y orphan begun w (elements_at w bytes) ≡ entry [] begun
takes_end y orphan begun w [] none = rw (elements_nil w) (nothing_taken (open_at y w 0) orphan begun)
takes_end y orphan begun w (b ∷ bytes) none = absurd (omega (arith, none))

takes_none : (y orphan : Bool) (begun : List ℕ) (w : ℕ) (bytes : List ℕ) → 0 < length bytes → next_at w bytes ≡ None → takes y orphan begun w (elements_at w bytes) ≡ None
takes_none y orphan begun w bytes lt is = rw (elements_none w bytes lt is) refl

goes_open : (begun e : List ℕ) → taken true begun (e ∷ []) ≡ entry [] (begun ++ e)
unfolding taken units_of
goes_open begun e = refl

open_rest : (rest : List ℕ) → not (is_begun rest) ≡ true → rest ≡ []
open_rest [] is = refl
open_rest (b ∷ rest) is = absurd cc

-- an element that continues was not dropped
pub whole_open : (orphan a b c : Bool) → (not orphan && a && b && c) ≡ true → (orphan ≡ false) × ((a && b && c) ≡ true)
whole_open true a b c is = absurd cc
whole_open false a b c is = (refl, is)

all_three : (a b c : Bool) → (a && b && c) ≡ true → (a ≡ true) × (b ≡ true) × (c ≡ true)
all_three true true true is = (refl, refl, refl)
all_three true true false is = absurd cc
all_three true false c is = absurd cc
all_three false b c is = absurd cc

takes_open : (y : Bool) (begun : List ℕ) (w : ℕ) (bytes e rest : List ℕ) → 0 < length bytes → next_at w bytes ≡ Some (e, rest)
    → (y && ltb w 2 && not (is_begun rest)) ≡ true → takes y false begun w (elements_at w bytes) ≡ entry [] (begun ++ e)
takes_open y begun w bytes e rest lt is test =
    let t = all_three y (ltb w 2) (not (is_begun rest)) test in
    let one : elements_at w bytes ≡ Some (e ∷ []) = elements_cons w bytes e rest lt is
    ∙ ap (λ (r : List ℕ). elements_at (w_after w) r >>= λ es. Some (e ∷ es)) (open_rest rest t.2) ∙ rw (elements_nil (w_after w)) refl in
    let opened : open_at y w 1 ≡ true = last_open y w ∙ rw (t.0, t.1) refl in
    ap (takes y false begun w) one ∙ ap (λ (b : Bool). taken b begun (e ∷ [])) opened ∙ goes_open begun e

orphan_read : (y : Bool) (w : ℕ) (e rest : List ℕ) (r : Option (List (List ℕ))) → elements_at (w_after w) rest ≡ r → (w ≡ 1 → rest ≡ [])
    → takes y true [] w (r >>= λ es. Some (e ∷ es)) ≡ takes y false [] (w_after w) r
orphan_read y w e rest None read one = refl
orphan_read y w e rest (Some []) read one = nothing_taken (open_at y w 1) false [] ∙ sym (nothing_taken (open_at y (w_after w) 0) false [])
orphan_read y w e rest (Some (f ∷ fs)) read one = ap (λ (b : Bool). taken b [] (f ∷ fs)) (same_open y w rest f fs one read)

last_closed : (y : Bool) (w : ℕ) (rest : List ℕ) → rest ≡ [] → (y && ltb w 2 && not (is_begun rest)) ≡ false → open_at y w 1 ≡ false
last_closed y w rest none test = last_open y w ∙ closed (y) (ltb w 2) (ap (λ (t : List ℕ). y && ltb w 2 && not (is_begun t)) (sym none) ∙ test)
  where
    closed : (a b : Bool) → (a && b && true) ≡ false → (a && b) ≡ false
    closed true true is = absurd cc
    closed true false is = refl
    closed false b is = refl

-- the unit of an element, and then the output of the others
abbrev and_then : Option (List ℕ) → Option (List ℕ × List ℕ) → Option (List ℕ × List ℕ)
and_then u r = u >>= λ u. after u r

and_none : (u : Option (List ℕ)) → None ≡ and_then u None
and_none None = refl
and_none (Some u) = refl

ends_of : (goes_on : Bool) (begun e : List ℕ) (es : List (List ℕ)) (u : Option (List ℕ)) → unit_of (begun ++ e) ≡ u → (goes_on ≡ false) ⊎ (0 < length es)
    → taken goes_on begun (e ∷ es) ≡ and_then u (taken goes_on [] es)
ends_of goes_on begun e es None is ends = one_fails goes_on begun e es ends is
ends_of goes_on begun e es (Some u) is ends = one_taken goes_on begun e es u ends is

ends_read : (y : Bool) (begun : List ℕ) (w : ℕ) (e rest : List ℕ) (r : Option (List (List ℕ))) → elements_at (w_after w) rest ≡ r → (w ≡ 1 → rest ≡ []) → (y && ltb w 2 && not (is_begun rest)) ≡ false
    → takes y false begun w (r >>= λ es. Some (e ∷ es)) ≡ and_then (unit_of (begun ++ e)) (takes y false [] (w_after w) r)
ends_read y begun w e rest None read one test = and_none (unit_of (begun ++ e))
ends_read y begun w e rest (Some []) read one test =
    let closed = last_closed y w rest (no_elements (w_after w) rest read) test in
    ends_of (open_at y w 1) begun e [] (unit_of (begun ++ e)) refl (inl closed)
    ∙ ap (and_then (unit_of (begun ++ e))) (nothing_taken (open_at y w 1) false [] ∙ sym (nothing_taken (open_at y (w_after w) 0) false []))
ends_read y begun w e rest (Some (f ∷ fs)) read one test =
    ends_of (open_at y w (length (e ∷ f ∷ fs))) begun e (f ∷ fs) (unit_of (begun ++ e)) refl (inr (omega arith))
    ∙ ap (λ (b : Bool). and_then (unit_of (begun ++ e)) (taken b [] (f ∷ fs))) (same_open y w rest f fs one read)

-- the output of an element that is dropped if its beginning was lost
abbrev pub given : Bool → List ℕ → List ℕ → Option (List ℕ)
given orphan begun e = cond orphan (Some []) (unit_of (begun ++ e))

after_nothing : (r : Option (List ℕ × List ℕ)) → r ≡ after [] r
after_nothing None = refl
after_nothing (Some x) = refl

takes_next : (y orphan : Bool) (begun : List ℕ) (w : ℕ) (bytes e rest : List ℕ) → 0 < length bytes → next_at w bytes ≡ Some (e, rest) → (orphan ≡ true → begun ≡ [])
    → (not orphan && y && ltb w 2 && not (is_begun rest)) ≡ false
    → takes y orphan begun w (elements_at w bytes) ≡ and_then (given orphan begun e) (takes y false [] (w_after w) (elements_at (w_after w) rest))
takes_next y true begun w bytes e rest lt is lost test =
    rw (lost refl)
    (ap (takes y true [] w) (elements_cons w bytes e rest lt is)
    ∙ orphan_read y w e rest (elements_at (w_after w) rest) refl (one_rest w bytes e rest is)
    ∙ after_nothing (takes y false [] (w_after w) (elements_at (w_after w) rest)))
takes_next y false begun w bytes e rest lt is lost test =
    ap (takes y false begun w) (elements_cons w bytes e rest lt is)
    ∙ ends_read y begun w e rest (elements_at (w_after w) rest) refl (one_rest w bytes e rest is) test

-- ---- the steps of a loop that has appended the bytes after old

module _ (y orphan : Bool) (begun : List ℕ) (w : ℕ) (bytes : List ℕ) (out old : List ℕ) (total : Option (List ℕ × List ℕ))
    (so_far : after out (takes y orphan begun w (elements_at w bytes)) ≡ after old total) where
  pub all_taken : length bytes ≡ 0 → (x : List ℕ) × (total ≡ Some (x, begun)) × (out ≡ old ++ x)
  all_taken none = ends_with out begun old total (ap (after out) (sym (takes_end y orphan begun w bytes none)) ∙ so_far)

  pub none_read : 0 < length bytes → next_at w bytes ≡ None → total ≡ None
  none_read lt is = none_before old total (sym so_far ∙ ap (after out) (takes_none y orphan begun w bytes lt is))

  module _ (e rest : List ℕ) (lt : 0 < length bytes) (is : next_at w bytes ≡ Some (e, rest)) where
    pub stays : (new : List ℕ) → orphan ≡ false → (y && ltb w 2 && not (is_begun rest)) ≡ true → new ≡ begun ++ e → (x : List ℕ) × (total ≡ Some (x, new)) × (out ≡ old ++ x)
    stays new whole test made =
        let here : takes y orphan begun w (elements_at w bytes) ≡ entry [] new = ap (λ (b : Bool). takes y b begun w (elements_at w bytes)) whole
        ∙ takes_open y begun w bytes e rest lt is test ∙ ap (entry []) (sym made) in
        ends_with out new old total (ap (after out) (sym here) ∙ so_far)

    pub goes_on : (new u : List ℕ) → (orphan ≡ true → begun ≡ []) → (not orphan && y && ltb w 2 && not (is_begun rest)) ≡ false → given orphan begun e ≡ Some u → new ≡ out ++ u
        → after new (takes y false [] (w_after w) (elements_at (w_after w) rest)) ≡ after old total
    goes_on new u lost test gives made =
        let others = takes y false [] (w_after w) (elements_at (w_after w) rest) in
        let here : takes y orphan begun w (elements_at w bytes) ≡ after u others = takes_next y orphan begun w bytes e rest lt is lost test ∙ ap (λ (r : Option (List ℕ)). and_then r others) gives in
        rw made (sym (after_after out u others) ∙ ap (after out) (sym here) ∙ so_far)

    pub fails : (fault : PacketError) → (orphan ≡ true → begun ≡ []) → (not orphan && y && ltb w 2 && not (is_begun rest)) ≡ false → Fails fault (given orphan begun e) → Fails fault total
    fails faults.OutOfMemory lost test f = tt
    fails faults.ErrAv1CorruptedPacket lost test f =
        none_before old total (sym so_far ∙ ap (after out) (takes_next y orphan begun w bytes e rest lt is lost test
        ∙ ap (λ (r : Option (List ℕ)). and_then r (takes y false [] (w_after w) (elements_at (w_after w) rest))) f))
    fails _ lost test f = absurd f

-- ---- the first step

received_takes : (pending : List ℕ) (h w : ℕ) (r : Option (List (List ℕ))) → takes (has_bit 64 h) (has_bit 128 h && not (is_begun (begun_at h pending))) (begun_at h pending) w r
    ≡ ((r >>= λ es. Some (record { continues = has_bit 128 h; goes_on = has_bit 64 h && (eqb w 0 || eqb (length es) w); starts = has_bit 8 h; elements = es })) >>= λ
    (p : Payload). taken p.goes_on (still_pending p pending) (usable p (still_pending p pending)))
received_takes pending h w None = refl
received_takes pending h w (Some es) = refl

-- the elements of a payload, after the pending bytes
pub takes_first : (pending : List ℕ) (h : ℕ) (bytes : List ℕ)
    → takes (has_bit 64 h) (has_bit 128 h && not (is_begun (begun_at h pending))) (begun_at h pending) (bit_and h 0x30 / 16) (elements_at (bit_and h 0x30 / 16) bytes) ≡ received pending (h ∷ bytes)
unfolding received payload_at
takes_first pending h bytes = received_takes pending h (bit_and h 0x30 / 16) (elements_at (bit_and h 0x30 / 16) bytes)

begun_twice : (b : Bool) (pending : List ℕ) → cond b (cond b pending []) [] ≡ cond b pending []
begun_twice true pending = refl
begun_twice false pending = refl

-- pending bytes count only if they continue
pub received_begun : (pending : List ℕ) (h : ℕ) (bytes : List ℕ) → received (begun_at h pending) (h ∷ bytes) ≡ received pending (h ∷ bytes)
received_begun pending h bytes =
    sym (takes_first (begun_at h pending) h bytes)
    ∙ ap (λ (b : List ℕ). takes (has_bit 64 h) (has_bit 128 h && not (is_begun b)) b (bit_and h 0x30 / 16) (elements_at (bit_and h 0x30 / 16) bytes))
    (begun_twice (has_bit 128 h && not (has_bit 8 h)) pending)
    ∙ takes_first pending h bytes

-- ---- inside an OBU

inner_begun : (p : ℕ) (pending bytes : List ℕ) → received (p ∷ pending) (0xd0 ∷ bytes) ≡ entry [] ((p ∷ pending) ++ bytes)
unfolding received payload_at counted_at taken units_of
inner_begun p pending [] = ap (entry []) (sym (append-nil (p ∷ pending)))
inner_begun p pending (b ∷ bytes) = refl

-- a payload of one element that continues the pending bytes and continues in the next payload
pub received_inner : (pending : List ℕ) (h : ℕ) (bytes : List ℕ) → h ≡ 0xd0 → (length pending ≡ 0 → ⊥) → received pending (h ∷ bytes) ≡ entry [] (pending ++ bytes)
received_inner [] h bytes is some = absurd (some refl)
received_inner (p ∷ pending) h bytes is some = ap (λ (t : ℕ). received (p ∷ pending) (t ∷ bytes)) is ∙ inner_begun p pending bytes
