-- The steps of a packer.
use Rattle.std.proofs.Common.{◌≡◌, ℕ, zero, suc, ◌+◌, ◌≤◌, ◌<◌, Bool, true, false, List, [], ◌∷◌, ◌++◌, length, refl, ap, arith}
use Rattle.std.proofs.lemmas.List.{map_push, length-append}
use Rattle.std.proofs.lemmas.Bool.{lt-ltb, ne_eqb}
use Rattle.codec_payload_av1.specs.Av1Payload.{Payload}
use Rattle.codec_payload_av1.specs.Av1Packing.{IsElement, with_next, Sent}
use Rattle.codec_payload_av1.specs.Av1Size.{packet_size, own, leb_len, lengths}
use Rattle.codec_payload_av1.specs.Av1Laying.{IsClosed, Lays, starts_next, starts_with}
use Rattle.codec_payload_av1.proofs.Av1PayloadLengths.{length_written, leb_len_rises}
use Rattle.codec_payload_av1.proofs.Av1LayingStrings.{laying_none, lay_end, lay_part, lay_between, lay_last}
use Rattle.codec_payload_av1.proofs.Av1PacketGrowth.{size_push}

starts_same : (starts : Bool) (ps : List Payload) → starts_with starts ps ≡ starts_next starts ps
starts_same true [] = refl
starts_same false [] = refl
starts_same true (p ∷ ps) = ne_eqb (length (p ∷ ps)) 0 (λ e. absurd (omega (arith, e)))
starts_same false (p ∷ ps) = refl

abbrev made : Bool → Bool → Bool → List (List ℕ) → Payload
made continues goes_on starts es = record { continues = continues; goes_on = goes_on; starts = starts; elements = es }

-- the payload that is closed
abbrev pub closing : Bool → List Payload → Bool → Bool → List (List ℕ) → Payload
closing starts ps continues goes_on es = record { continues = continues; goes_on = goes_on; starts = starts_with starts ps; elements = es }

next_between : (next : ℕ) (es : List (List ℕ)) → 0 < length es → lengths (with_next false next es) ≡ lengths es ++ 1 ∷ []
next_between next [] ne = absurd (omega (arith, ne))
next_between next (e ∷ []) ne = refl
next_between next (e ∷ f ∷ es) ne = ap (λ (t : List ℕ). length e ∷ t) (next_between next (f ∷ es) (omega arith))

next_part : (next : ℕ) (es : List (List ℕ)) (e : List ℕ) → lengths (with_next true next (es ++ e ∷ [])) ≡ lengths es ++ (length e + 1) ∷ []
next_part next [] e = ap (λ (n : ℕ). n ∷ []) (length-append e (next ∷ []))
next_part next (f ∷ []) e = ap (λ (n : ℕ). length f ∷ n ∷ []) (length-append e (next ∷ []))
next_part next (f ∷ g ∷ es) e = ap (λ (t : List ℕ). length f ∷ t) (next_part next (g ∷ es) e)

pub lays_none : (mtu : ℕ) (starts : Bool) → 1 ≤ mtu → Lays starts [] [] [] false (record { mtu = mtu; elements = [] })
lays_none mtu starts le = (laying_none mtu starts, le)

module _ (starts : Bool) (before : List (List ℕ)) (partial : List ℕ) (ps : List Payload) (continues : Bool) (mtu : ℕ) (es : List (List ℕ))
    (h : Lays starts before partial ps continues (record { mtu = mtu; elements = es })) where
  pub lays_between : 0 < length es → 1 ≤ mtu → mtu < packet_size leb_len (lengths es ++ 1 ∷ [])
      → Lays starts before [] (ps ++ closing starts ps continues false es ∷ []) false (record { mtu = mtu; elements = [] })
  lays_between ne le most =
      let p = closing starts ps continues false es in
      let closed : IsClosed mtu p = record {
        nonempty = ne;
        within = rw (length_written p) h.1;
        full = λ next. rw (length_written (record p { elements = with_next false next es }), next_between next es ne) most;
      } in
      (lay_between mtu starts before partial ps continues es p h.0 ne (ap (λ (n : Bool). made continues false n es) (starts_same starts ps)) closed, le)

  pub lays_part : (e : List ℕ) → IsElement e → 1 ≤ mtu → packet_size leb_len (lengths es ++ length e ∷ []) ≤ mtu → mtu < packet_size leb_len (lengths es ++ (length e + 1) ∷ [])
      → Lays starts before (partial ++ e) (ps ++ closing starts ps continues true (es ++ e ∷ []) ∷ []) true (record { mtu = mtu; elements = [] })
  lays_part e one le fits most =
      let p = closing starts ps continues true (es ++ e ∷ []) in
      let closed : IsClosed mtu p = record {
        nonempty = omega (arith, length-append es (e ∷ []));
        within = rw (length_written p, map_push (length {A = ℕ}) es e) fits;
        full = λ next. rw (length_written (record p { elements = with_next true next (es ++ e ∷ []) }), next_part next es e) most;
      } in
      (lay_part mtu starts before partial ps continues es e p h.0 one (ap (λ (n : Bool). made continues true n (es ++ e ∷ [])) (starts_same starts ps)) closed, le)

  pub lays_end : (e : List ℕ) → IsElement e → packet_size leb_len (lengths es ++ length e ∷ []) ≤ mtu
      → Lays starts (before ++ (partial ++ e) ∷ []) [] ps continues (record { mtu = mtu; elements = es ++ e ∷ [] })
  lays_end e one fits = (lay_end mtu starts before partial ps continues es e h.0 one, rw (map_push (length {A = ℕ}) es e) fits)

  pub lays_last : 0 < length es → Sent mtu starts before (ps ++ closing starts ps continues false es ∷ [])
  lays_last ne =
      let p = closing starts ps continues false es in
      lay_last mtu starts before partial ps continues es p h.0 ne (ap (λ (n : Bool). made continues false n es) (starts_same starts ps)) (rw (length_written p) h.1)

own_rises : (es : List ℕ) (m n : ℕ) → m ≤ n → own leb_len es m ≤ own leb_len es n
own_rises [] m n le = omega arith
own_rises (a ∷ []) m n le = omega arith
own_rises (a ∷ b ∷ []) m n le = omega arith
own_rises (a ∷ b ∷ c ∷ es) m n le = rw (lt-ltb 2 (length (a ∷ b ∷ c ∷ es)) (omega arith)) (leb_len_rises m n le)

-- a shorter element takes less
pub shorter_fits : (es : List ℕ) (m n mtu : ℕ) → m ≤ n → packet_size leb_len (es ++ n ∷ []) ≤ mtu → packet_size leb_len (es ++ m ∷ []) ≤ mtu
shorter_fits es m n mtu le fits = omega (arith, size_push leb_len es m, size_push leb_len es n, own_rises es m n le, fits)

-- if not one more byte fits, there is an element
pub some_element : (es : List (List ℕ)) (mtu : ℕ) → 2 ≤ mtu → mtu < packet_size leb_len (lengths es ++ 1 ∷ []) → 0 < length es
some_element [] mtu le most = absurd (omega (arith, le, most))
some_element (e ∷ es) mtu le most = omega arith

-- if one byte fits, there is room
pub some_room : (es : List (List ℕ)) (room mtu : ℕ) → packet_size leb_len (lengths es ++ 1 ∷ []) ≤ mtu → mtu < packet_size leb_len (lengths es ++ (room + 1) ∷ []) → 0 < room
some_room es zero mtu fits most = absurd (omega (arith, fits, most))
some_room es (suc room) mtu fits most = omega arith

-- ---- a payload inside a string

-- the payload of one element that continues from the payload before and in the next
abbrev pub inner : List ℕ → Payload
inner e = record { continues = true; goes_on = true; starts = false; elements = e ∷ [] }

never_starts : (starts : Bool) (ps : List Payload) → 0 < length ps → starts_with starts ps ≡ false
never_starts starts [] later = absurd (omega (arith, later))
never_starts true (p ∷ ps) later = starts_same true (p ∷ ps)
never_starts false (p ∷ ps) later = refl

pub lays_inner : (starts : Bool) (before : List (List ℕ)) (partial : List ℕ) (ps : List Payload) (continues : Bool) (mtu : ℕ) (es : List (List ℕ)) (e : List ℕ)
    → Lays starts before partial ps continues (record { mtu = mtu; elements = es }) → es ≡ [] → continues ≡ true → 0 < length ps → IsElement e → 1 ≤ mtu
    → packet_size leb_len (length e ∷ []) ≤ mtu → mtu < packet_size leb_len ((length e + 1) ∷ [])
    → Lays starts before (partial ++ e) (ps ++ inner e ∷ []) continues (record { mtu = mtu; elements = es })
lays_inner starts before partial ps continues mtu es e h none goes_on later one le fits most =
    let begun : Lays starts before partial ps true (record { mtu = mtu; elements = [] }) = rw (none, goes_on) at h in
    let part = lays_part starts before partial ps true mtu [] begun e one le fits most in
    let inside : Lays starts before (partial ++ e) (ps ++ inner e ∷ []) true (record { mtu = mtu; elements = [] }) = rw (never_starts starts ps later) at part in
    rw (none, goes_on) inside
