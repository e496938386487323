-- Places of a store.
use Rattle.std.proofs.Common.{◌≡◌, ℕ, zero, suc, ◌<◌, ◌≤◌, ◌%◌, Bool, cond, List, [], ◌∷◌, ◌++◌, drop, add-one, ◌+◌, length, get_or, set, replicate, Option, Some, None, refl, sym, ap, subst, ◌∙◌, arith}
use Rattle.std.proofs.lemmas.Bool.{eq-eqb, le-ltb, ne_eqb}
use Rattle.std.proofs.lemmas.List.{length-set}
use Rattle.codec_payload_fec.specs.declared.store.Slot.{Slot}
use Rattle.codec_payload_fec.specs.Stores.{AreFormer, IsStored, Store, kept, no_slots, slot_of, slots_of}
use Rattle.codec_payload_fec.specs.Strings.{number_of}

pub slot_at : (clears : ℕ) (slots : List (Option Slot)) (i : ℕ) (d : Option Slot) → i < length slots → get_or (slots_of clears slots) i None ≡ slot_of clears (get_or slots i d)
slot_at clears [] i d h = absurd (omega (arith, h))
slot_at clears (s ∷ slots) zero d h = refl
slot_at clears (s ∷ slots) (suc i) d h = slot_at clears slots i d (omega (arith, h))

pub slots_set : (clears : ℕ) (slots : List (Option Slot)) (i : ℕ) (p : Option Slot) → slots_of clears (set slots i p) ≡ set (slots_of clears slots) i (slot_of clears p)
slots_set clears [] i p = refl
slots_set clears (s ∷ slots) zero p = refl
slots_set clears (s ∷ slots) (suc i) p = ap (λ (ss : List (Option (List ℕ))). slot_of clears s ∷ ss) (slots_set clears slots i p)

none_slots : (clears n : ℕ) → slots_of clears (replicate n None) ≡ replicate n None
none_slots clears zero = refl
none_slots clears (suc n) = ap (λ (ss : List (Option (List ℕ))). None ∷ ss) (none_slots clears n)

pub empty : (clears : ℕ) → slots_of clears (replicate 512 None) ≡ replicate 512 None
empty clears = none_slots clears 512

former_none : (clears n : ℕ) → AreFormer clears (replicate n None)
former_none clears zero = tt
former_none clears (suc n) = former_none clears n

-- places without packets are those of a store
pub stored_none : (clears : ℕ) (slots : List (Option Slot)) → slots ≡ replicate 512 None → IsStored clears slots
stored_none clears slots e = subst (λ (ss : List (Option Slot)). IsStored clears ss) (sym e) (refl, former_none clears 512)

former_set : (clears : ℕ) (slots : List (Option Slot)) (i : ℕ) (p : Slot) → p.clears ≤ clears → AreFormer clears slots → AreFormer clears (set slots i (Some p))
former_set clears [] i p h are = tt
former_set clears (None ∷ slots) zero p h are = (h, are)
former_set clears (Some s ∷ slots) zero p h are = (h, are.1)
former_set clears (None ∷ slots) (suc i) p h are = former_set clears slots i p h are
former_set clears (Some s ∷ slots) (suc i) p h are = (are.0, former_set clears slots i p h are.1)

-- a packet that comes is one of a store
pub stored_set : (clears : ℕ) (slots : List (Option Slot)) (i : ℕ) (p : Slot) → p.clears ≡ clears → IsStored clears slots → IsStored clears (set slots i (Some p))
stored_set clears slots i p h are = (length-set slots i (Some p) ∙ are.0, former_set clears slots i p (omega (arith, h)) are.1)

former_more : (clears : ℕ) (slots : List (Option Slot)) → AreFormer clears slots → AreFormer (clears + 1) slots
former_more clears [] are = tt
former_more clears (None ∷ slots) are = former_more clears slots are
former_more clears (Some s ∷ slots) are = (omega (arith, are.0), former_more clears slots are.1)

pub stored_more : (clears : ℕ) (slots : List (Option Slot)) → IsStored clears slots → IsStored (clears + 1) slots
stored_more clears slots are = (are.0, former_more clears slots are.1)

-- after one more clear no packet counts
none_former : (clears : ℕ) (slots : List (Option Slot)) → AreFormer clears slots → slots_of (clears + 1) slots ≡ replicate (length slots) None
none_former clears [] are = refl
none_former clears (None ∷ slots) are = ap (λ (ss : List (Option (List ℕ))). None ∷ ss) (none_former clears slots are)
none_former clears (Some s ∷ slots) are =
    ap (λ (b : Bool). cond b (Some s.packet.items) None ∷ slots_of (clears + 1) slots) (ne_eqb s.clears (clears + 1) (λ e. omega (arith, are.0, e)))
    ∙ ap (λ (ss : List (Option (List ℕ))). None ∷ ss) (none_former clears slots are.1)

emptied : (i : ℕ) (xs : List (Option Slot)) → i < length xs → set (replicate i None ++ drop i xs) i None ≡ replicate (suc i) None ++ drop (suc i) xs
emptied i [] h = absurd (omega (arith, h))
emptied zero (x ∷ xs) h = refl
emptied (suc i) (x ∷ xs) h = ap (λ (ss : List (Option Slot)). None ∷ ss) (emptied i xs (omega (arith, h)))

-- one more place is empty
pub emptied_more : (i : ℕ) (xs ys : List (Option Slot)) → i < length xs → ys ≡ replicate i None ++ drop i xs → set ys i None ≡ replicate (i + 1) None ++ drop (i + 1) xs
emptied_more i xs ys h e =
    let more : replicate (suc i) None ++ drop (suc i) xs ≡ replicate (i + 1) None ++ drop (i + 1) xs = rw add-one refl in
    ap (λ (ss : List (Option Slot)). set ss i None) e ∙ emptied i xs h ∙ more

no_slots_are : replicate 512 None ≡ no_slots
unfolding no_slots
no_slots_are = refl

-- all places of a store are empty
pub cleared : (clears : ℕ) (left : List (Option Slot)) (largest : ℕ) → left ≡ replicate 512 None
    → ◌≡◌ {A = Store} (record { slots = slots_of clears left; largest = largest }) (record { slots = no_slots; largest = largest })
cleared clears left largest e =
    ap (λ (ss : List (Option Slot)). record { slots = slots_of clears ss; largest = largest }) e
    ∙ ap (λ (ss : List (Option (List ℕ))). record { slots = ss; largest = largest }) (empty clears ∙ no_slots_are)

-- a store after one more clear
pub cleared_once : (clears : ℕ) (slots : List (Option Slot)) (largest : ℕ) → IsStored clears slots
    → ◌≡◌ {A = Store} (record { slots = slots_of (clears + 1) slots; largest = largest }) (record { slots = no_slots; largest = largest })
cleared_once clears slots largest are =
    ap (λ (ss : List (Option (List ℕ))). record { slots = ss; largest = largest }) (none_former clears slots are.1 ∙ ap (λ (n : ℕ). replicate n None) are.0 ∙ no_slots_are)

pub counted : (clears : ℕ) (p : Slot) → p.clears ≡ clears → slot_of clears (Some p) ≡ Some p.packet.items
counted clears p h = ap (λ (b : Bool). cond b (Some p.packet.items) None) (eq-eqb p.clears clears h)

pub former : (clears : ℕ) (p : Slot) → (p.clears ≡ clears → ⊥) → slot_of clears (Some p) ≡ None
former clears p h = ap (λ (b : Bool). cond b (Some p.packet.items) None) (ne_eqb p.clears clears h)

pub kept_is : (clears : ℕ) (slots : List (Option Slot)) (largest number : ℕ) (p : List ℕ) (copy : Slot) (s : Store) → record { slots = slots_of clears slots; largest = largest } ≡ s → length p ≤ largest → copy.clears ≡ clears → copy.packet.items ≡ p
    → number ≡ number_of p → record { slots = slots_of clears (set slots (number % 512) (Some copy)); largest = largest } ≡ kept p s
kept_is clears slots largest number p copy s is small now same place =
    ap (λ (ss : List (Option (List ℕ))). record { slots = ss; largest = largest }) (slots_set clears slots (number % 512) (Some copy))
    ∙ ap (λ (o : Option (List ℕ)). record { slots = set (slots_of clears slots) (number % 512) o; largest = largest }) (counted clears copy now)
    ∙ ap (λ (bs : List ℕ). record { slots = set (slots_of clears slots) (number % 512) (Some bs); largest = largest }) same
    ∙ ap (λ (n : ℕ). record { slots = set (slots_of clears slots) (n % 512) (Some p); largest = largest }) place
    ∙ sym (ap (λ (b : Bool). cond b (record { slots = slots_of clears slots; largest = largest }) (record { slots = set (slots_of clears slots) (number_of p % 512) (Some p); largest = largest })) (le-ltb largest (length p) small))
    ∙ ap (kept p) is
