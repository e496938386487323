-- What the writer makes is made from sent packets.
use Rattle.std.proofs.Common.{◌≡◌, ℕ, zero, suc, ◌+◌, ◌-◌, ◌%◌, ◌<◌, ◌≤◌, Bool, true, false, List, [], ◌∷◌, ◌++◌, length, map, Option, Some, refl, sym, ap, subst, ◌∙◌, inl, inr, arith}
use Rattle.std.specs.Prelude.{IfSome}
use Rattle.codec_payload_fec.specs.Fec.{Fec, if_set, is_set, mask_of, number_at, numbers, numbers_in}
use Rattle.codec_payload_fec.specs.Protecting.{AreOfStream, IsAmong, IsOfStream, Protects}
use Rattle.codec_payload_fec.specs.Strings.{number_of}
use Rattle.codec_payload_fec.proofs.WriterLemmas.{AreAmong, made_in}
use Rattle.codec_payload_fec_receiver.specs.OwnFec.{OwnFecIsMade, WereSentFrom}
use Rattle.codec_payload_fec_receiver.specs.Runs.{IsMadeFrom, IsSender, WereSentNear}

-- a number is at a place
IsAt : ℕ → ℕ → ℕ → Type 0
IsAt k base n = (place : ℕ) × (place < k) × (n ≡ (base + place) % 65536)

last_at : (k base n : ℕ) (ns : List ℕ) (b : Bool) → if_set b (number_at k base) ≡ n ∷ ns → (place : ℕ) × (place < suc k) × (n ≡ (base + place) % 65536)
last_at k base n ns true e = (k, omega arith, cc)
last_at k base n ns false e = absurd cc

in_front : (k base n : ℕ) (ns xs : List ℕ) (b : Bool) → ((x : ℕ) (rest : List ℕ) → xs ≡ x ∷ rest → (place : ℕ) × (place < k) × (x ≡ (base + place) % 65536)) → xs ++ if_set b (number_at k base) ≡ n ∷ ns
    → (place : ℕ) × (place < suc k) × (n ≡ (base + place) % 65536)
in_front k base n ns [] b front e = last_at k base n ns b e
in_front k base n ns (x ∷ xs) b front e =
    let at = front x xs refl in
    let same : n ≡ x = cc in
    (at.0, omega (arith, at.1), same ∙ at.2)

first_at : (k mask base n : ℕ) (ns : List ℕ) → numbers_in k mask base ≡ n ∷ ns → (place : ℕ) × (place < k) × (n ≡ (base + place) % 65536)
unfolding numbers_in
first_at zero mask base n ns e = absurd cc
first_at (suc k) mask base n ns e = in_front k base n ns (numbers_in k mask base) (is_set k mask) (λ x rest is. first_at k mask base x rest is) e

numbers_are : (f : Fec) → numbers f ≡ numbers_in 48 (mask_of f.mask f.continued) f.base
unfolding numbers
numbers_are f = refl

module _ (sent : ℕ → Option (List ℕ)) where
  abbrev WasSentFrom : ℕ → List ℕ → Type 0
  WasSentFrom n p = (i : ℕ) × (sent i ≡ Some p) × (n ≤ i) × (i < n + 8000)

  among_sent : (n : ℕ) (p : List ℕ) (qs : List (List ℕ)) → WereSentFrom sent n qs → IsAmong p qs → WasSentFrom n p
  among_sent n p [] were h = absurd h
  among_sent n p (q ∷ qs) were h =
      elim h [ inl is ↦ (were.0.0, were.0.1 ∙ ap (λ (bs : List ℕ). Some bs) (sym is), were.0.2, were.0.3) | inr later ↦ among_sent n p qs were.1 later ]

  all_from : (n : ℕ) (ps qs : List (List ℕ)) → WereSentFrom sent n qs → AreAmong ps qs → WereSentFrom sent n ps
  all_from n [] qs were are = tt
  all_from n (p ∷ ps) qs were are = (among_sent n p qs were are.0, all_from n ps qs were are.1)

  all_near : (n m : ℕ) (ps : List (List ℕ)) → m < n + 8000 → n ≤ m + 48 → WereSentFrom sent n ps → WereSentNear sent m ps
  all_near n m [] up low were = tt
  all_near n m (p ∷ ps) up low were =
      ((were.0.0, were.0.1, omega (arith, up, low, were.0), omega (arith, up, low, were.0)), all_near n m ps up low were.1)

  module _ (ssrc : ℕ) (is_sender : IsSender ssrc sent) where
    is_of : (n : ℕ) (p : List ℕ) → sent n ≡ Some p → IsOfStream ssrc p × (number_of p ≡ n % 65536)
    is_of n p e = let P : Option (List ℕ) → Type 0 = λ o. IfSome o (λ q. IsOfStream ssrc q × (number_of q ≡ n % 65536)) in subst P e (is_sender.packets n)

    are_of : (n : ℕ) (ps : List (List ℕ)) → WereSentFrom sent n ps → AreOfStream ssrc ps
    are_of n [] h = tt
    are_of n (p ∷ ps) h = ((is_of h.0.0 p h.0.1).0, are_of n ps h.1)

    made_from : (n : ℕ) (f : Fec) (ps : List (List ℕ)) → 48 ≤ n → f.base < 65536 → Protects f ps → WereSentFrom sent n ps → (m : ℕ) × IsMadeFrom sent m f
    made_from n f [] early small is were = (f.base, record { base = omega (arith, small); packets = []; protects = is; were_sent = tt })
    made_from n f (p ∷ ps) early small is were =
        let at = first_at 48 (mask_of f.mask f.continued) f.base (number_of p) (map number_of ps) (sym (numbers_are f) ∙ is.numbers_are) in
        let number : number_of p ≡ were.0.0 % 65536 = (is_of were.0.0 p were.0.1).1 in
        let i : ℕ = were.0.0 in
        let m : ℕ = i - at.0 in
        let base : f.base ≡ (i - at.0) % 65536 = omega (arith, small, early, at.1, sym at.2 ∙ number, were.0.2) in
        (i - at.0, record { base = base; packets = p ∷ ps; protects = is; were_sent = all_near n (i - at.0) (p ∷ ps) (omega (arith, were.0.3)) (omega (arith, at.1, were.0.2)) were })

pub own_fec_is_made : OwnFecIsMade
own_fec_is_made ssrc protection n sent packets f is early were small h =
    let made = made_in (length packets) protection ssrc f packets (are_of sent ssrc is n packets were) h in
    made_from sent ssrc is n f made.packets early small made.is (all_from sent n made.packets packets were made.are)
