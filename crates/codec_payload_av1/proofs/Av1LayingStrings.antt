-- Laying strings into packets one after the other, as a loop does.
use Rattle.std.proofs.Common.{◌≡◌, ℕ, ◌≤◌, ◌<◌, Bool, true, false, List, [], ◌∷◌, ◌++◌, length, refl, sym, ap, subst, ◌∙◌, append_assoc, arith}
use Rattle.std.specs.List.{AllByRecursion}
use Rattle.std.proofs.lemmas.List.{append-nil, same_from_push, length-append}
use Rattle.codec_payload_av1.specs.Av1Payload.{Payload, written}
use Rattle.codec_payload_av1.specs.Av1Laying.{Laid, Laying, IsClosed, starts_next}
use Rattle.codec_payload_av1.specs.Av1Packing.{ended, left_open, is_begun, IsElement, StandsAfter, AllFullButLast, HasElement, StartsFirst, Sent}

laid_push : (begun : List ℕ) (ps : List Payload) (strings : List (List ℕ)) (left : List ℕ) (p : Payload) → Laid begun ps strings left → p.continues ≡ is_begun left
    → AllByRecursion IsElement p.elements
    → Laid begun (ps ++ p ∷ []) (strings ++ ended p.goes_on left p.elements) (left_open p.goes_on left p.elements)
laid_push begun [] strings left p h z es =
    subst (λ (b : List ℕ). Laid b (p ∷ []) (strings ++ ended p.goes_on left p.elements) (left_open p.goes_on left p.elements)) (sym h.1)
    (z, es, ([], rw h.0 (sym (append-nil (ended p.goes_on left p.elements))), (refl, refl)))
laid_push begun (q ∷ ps) strings left p h z es =
    let more = laid_push (left_open q.goes_on begun q.elements) ps h.2.0 left p h.2.2 z es in (
      h.0,
      h.1,
      (
        h.2.0 ++ ended p.goes_on left p.elements,
        ap (λ (t : List (List ℕ)). t ++ ended p.goes_on left p.elements) h.2.1
            ∙ append_assoc (ended q.goes_on begun q.elements) h.2.0 (ended p.goes_on left p.elements),
        more,
      ),
    )

laid_stands : (begun : List ℕ) (ps : List Payload) (strings : List (List ℕ)) → Laid begun ps strings [] → StandsAfter begun ps strings
laid_stands begun [] strings h = (h.1, h.0)
laid_stands begun (p ∷ ps) strings h = (h.0, h.1, (h.2.0, h.2.1, laid_stands (left_open p.goes_on begun p.elements) ps h.2.0 h.2.2))

-- ---- one more element

ended_push : (mid : List ℕ) (es : List (List ℕ)) (e : List ℕ) → 0 < length es → ended false mid (es ++ e ∷ []) ≡ ended false mid es ++ e ∷ []
ended_push mid [] e ne = absurd (omega (arith, ne))
ended_push mid (f ∷ []) e ne = refl
ended_push mid (f ∷ g ∷ es) e ne = ap (λ (t : List (List ℕ)). (mid ++ f) ∷ t) (ended_push [] (g ∷ es) e (omega arith))

open_push : (mid : List ℕ) (es : List (List ℕ)) (e : List ℕ) → ended false mid (es ++ e ∷ []) ≡ ended true mid (es ++ e ∷ []) ++ left_open true mid (es ++ e ∷ []) ∷ []
open_push mid [] e = refl
open_push mid (f ∷ []) e = refl
open_push mid (f ∷ g ∷ es) e = ap (λ (t : List (List ℕ)). (mid ++ f) ∷ t) (open_push [] (g ∷ es) e)

left_closed : (mid : List ℕ) (es : List (List ℕ)) → 0 < length es → left_open false mid es ≡ []
left_closed mid [] ne = absurd (omega (arith, ne))
left_closed mid (f ∷ []) ne = refl
left_closed mid (f ∷ g ∷ es) ne = left_closed [] (g ∷ es) (omega arith)

elements_push : (es : List (List ℕ)) (e : List ℕ) → AllByRecursion IsElement es → IsElement e → AllByRecursion IsElement (es ++ e ∷ [])
elements_push [] e h one = (one, tt)
elements_push (f ∷ es) e h one = (h.0, elements_push es e h.1 one)

-- ---- the state between two pieces

pub laying_none : (mtu : ℕ) (starts : Bool) → Laying mtu starts [] [] [] false []
laying_none mtu starts = record { strings = []; mid = []; laid = (refl, refl); next = λ e. refl; continues_is = refl; elements = tt; closed = tt; first = tt }

none_push : (ps : List Payload) (p : Payload) → AllByRecursion (λ q. q.starts ≡ false) ps → p.starts ≡ false → AllByRecursion (λ q. q.starts ≡ false) (ps ++ p ∷ [])
none_push [] p h is = (is, tt)
none_push (q ∷ ps) p h is = (h.0, none_push ps p h.1 is)

first_push : (starts : Bool) (ps : List Payload) (p : Payload) → StartsFirst starts ps → p.starts ≡ starts_next starts ps → StartsFirst starts (ps ++ p ∷ [])
first_push starts [] p h is = (is, tt)
first_push starts (q ∷ ps) p h is = (h.0, none_push ps p h.1 is)

all_push : {X : Type 0} (P : X → Type 0) (xs : List X) (x : X) → AllByRecursion P xs → P x → AllByRecursion P (xs ++ x ∷ [])
all_push P [] x h one = (one, tt)
all_push P (y ∷ xs) x h one = (h.0, all_push P xs x h.1 one)

-- a string ends in the opened packet
pub lay_end : (mtu : ℕ) (starts : Bool) (before : List (List ℕ)) (partial : List ℕ) (ps : List Payload) (continues : Bool) (opened : List (List ℕ)) (e : List ℕ)
    → Laying mtu starts before partial ps continues opened → IsElement e → Laying mtu starts (before ++ (partial ++ e) ∷ []) [] ps continues (opened ++ e ∷ [])
lay_end mtu starts before partial ps continues opened e s one = record {
  strings = s.strings;
  mid = s.mid;
  laid = s.laid;
  next = λ f. ap (λ (t : List (List ℕ)). s.strings ++ t) (ended_push s.mid (opened ++ e ∷ []) f (omega (arith, length-append opened (e ∷ []))))
      ∙ sym (append_assoc s.strings (ended false s.mid (opened ++ e ∷ [])) (f ∷ [])) ∙ ap (λ (t : List (List ℕ)). t ++ f ∷ []) (s.next e);
  continues_is = s.continues_is;
  elements = elements_push opened e s.elements one;
  closed = s.closed;
  first = s.first;
}

begun_more : (xs ys : List ℕ) → IsElement ys → true ≡ is_begun (xs ++ ys)
begun_more [] [] h = absurd (omega (arith, h))
begun_more [] (y ∷ ys) h = refl
begun_more (x ∷ xs) ys h = refl

-- a packet is closed in the midst of a string
pub lay_part : (mtu : ℕ) (starts : Bool) (before : List (List ℕ)) (partial : List ℕ) (ps : List Payload) (continues : Bool) (opened : List (List ℕ)) (e : List ℕ) (p : Payload)
    → Laying mtu starts before partial ps continues opened → IsElement e
    → p ≡ record { continues = continues; goes_on = true; starts = starts_next starts ps; elements = opened ++ e ∷ [] } → IsClosed mtu p
    → Laying mtu starts before (partial ++ e) (ps ++ p ∷ []) true []
lay_part mtu starts before partial ps continues opened e p s one is closed =
    let es = elements_push opened e s.elements one in
    let parts = same_from_push (s.strings ++ ended true s.mid (opened ++ e ∷ [])) before (left_open true s.mid (opened ++ e ∷ [])) (partial ++ e)
    (append_assoc s.strings (ended true s.mid (opened ++ e ∷ [])) (left_open true s.mid (opened ++ e ∷ []) ∷ [])
    ∙ ap (λ (t : List (List ℕ)). s.strings ++ t) (sym (open_push s.mid opened e)) ∙ s.next e) in
    let laid = laid_push [] ps s.strings s.mid p s.laid (ap (λ (q : Payload). q.continues) is ∙ s.continues_is) (subst (λ (q : Payload). AllByRecursion IsElement q.elements) (sym is) es) in
    record {
      strings = before;
      mid = partial ++ e;
      laid = subst (λ (l : List (List ℕ)). Laid [] (ps ++ p ∷ []) l (partial ++ e)) parts.0
          (subst (λ (b : List ℕ). Laid [] (ps ++ p ∷ []) (s.strings ++ ended true s.mid (opened ++ e ∷ [])) b) parts.1
          (subst (λ (q : Payload). Laid [] (ps ++ p ∷ []) (s.strings ++ ended q.goes_on s.mid q.elements) (left_open q.goes_on s.mid q.elements)) is laid));
      next = λ f. refl;
      continues_is = begun_more partial e one;
      elements = tt;
      closed = all_push (IsClosed mtu) ps p s.closed closed;
      first = first_push starts ps p s.first (ap (λ (q : Payload). q.starts) is);
    }

-- a packet is closed between two strings
pub lay_between : (mtu : ℕ) (starts : Bool) (before : List (List ℕ)) (partial : List ℕ) (ps : List Payload) (continues : Bool) (opened : List (List ℕ)) (p : Payload)
    → Laying mtu starts before partial ps continues opened → 0 < length opened
    → p ≡ record { continues = continues; goes_on = false; starts = starts_next starts ps; elements = opened } → IsClosed mtu p
    → Laying mtu starts before [] (ps ++ p ∷ []) false []
lay_between mtu starts before partial ps continues opened p s ne is closed =
    let parts = same_from_push (s.strings ++ ended false s.mid opened) before [] (partial ++ [])
    (append_assoc s.strings (ended false s.mid opened) ([] ∷ []) ∙ ap (λ (t : List (List ℕ)). s.strings ++ t) (sym (ended_push s.mid opened [] ne)) ∙ s.next []) in
    let laid = laid_push [] ps s.strings s.mid p s.laid (ap (λ (q : Payload). q.continues) is ∙ s.continues_is) (subst (λ (q : Payload). AllByRecursion IsElement q.elements) (sym is) s.elements) in
    record {
      strings = before;
      mid = [];
      laid = subst (λ (l : List (List ℕ)). Laid [] (ps ++ p ∷ []) l []) parts.0
          (subst (λ (b : List ℕ). Laid [] (ps ++ p ∷ []) (s.strings ++ ended false s.mid opened) b) (left_closed s.mid opened ne)
          (subst (λ (q : Payload). Laid [] (ps ++ p ∷ []) (s.strings ++ ended q.goes_on s.mid q.elements) (left_open q.goes_on s.mid q.elements)) is laid));
      next = λ f. refl;
      continues_is = refl;
      elements = tt;
      closed = all_push (IsClosed mtu) ps p s.closed closed;
      first = first_push starts ps p s.first (ap (λ (q : Payload). q.starts) is);
    }

-- ---- the end

lengths_push : (mtu : ℕ) (ps : List Payload) (p : Payload) → AllByRecursion (IsClosed mtu) ps → AllFullButLast mtu (ps ++ p ∷ [])
lengths_push mtu [] p h = tt
lengths_push mtu (q ∷ []) p h = (h.0.full, tt)
lengths_push mtu (q ∷ r ∷ ps) p h = (h.0.full, lengths_push mtu (r ∷ ps) p h.1)

nonempty_push : (mtu : ℕ) (ps : List Payload) (p : Payload) → AllByRecursion (IsClosed mtu) ps → HasElement p → AllByRecursion HasElement (ps ++ p ∷ [])
nonempty_push mtu [] p h one = (one, tt)
nonempty_push mtu (q ∷ ps) p h one = (h.0.nonempty, nonempty_push mtu ps p h.1 one)

within_push : (mtu : ℕ) (ps : List Payload) (p : Payload) → AllByRecursion (IsClosed mtu) ps → length (written p) ≤ mtu → AllByRecursion (λ q. length (written q) ≤ mtu) (ps ++ p ∷ [])
within_push mtu [] p h one = (one, tt)
within_push mtu (q ∷ ps) p h one = (h.0.within, within_push mtu ps p h.1 one)

pub lay_last : (mtu : ℕ) (starts : Bool) (before : List (List ℕ)) (partial : List ℕ) (ps : List Payload) (continues : Bool) (opened : List (List ℕ)) (p : Payload)
    → Laying mtu starts before partial ps continues opened → 0 < length opened
    → p ≡ record { continues = continues; goes_on = false; starts = starts_next starts ps; elements = opened } → length (written p) ≤ mtu
    → Sent mtu starts before (ps ++ p ∷ [])
lay_last mtu starts before partial ps continues opened p s ne is within =
    let parts = same_from_push (s.strings ++ ended false s.mid opened) before [] (partial ++ [])
    (append_assoc s.strings (ended false s.mid opened) ([] ∷ []) ∙ ap (λ (t : List (List ℕ)). s.strings ++ t) (sym (ended_push s.mid opened [] ne)) ∙ s.next []) in
    let laid = laid_push [] ps s.strings s.mid p s.laid (ap (λ (q : Payload). q.continues) is ∙ s.continues_is) (subst (λ (q : Payload). AllByRecursion IsElement q.elements) (sym is) s.elements) in
    let all : Laid [] (ps ++ p ∷ []) before [] = subst (λ (l : List (List ℕ)). Laid [] (ps ++ p ∷ []) l []) parts.0
    (subst (λ (b : List ℕ). Laid [] (ps ++ p ∷ []) (s.strings ++ ended false s.mid opened) b) (left_closed s.mid opened ne)
    (subst (λ (q : Payload). Laid [] (ps ++ p ∷ []) (s.strings ++ ended q.goes_on s.mid q.elements) (left_open q.goes_on s.mid q.elements)) is laid)) in
    record {
      stands = laid_stands [] (ps ++ p ∷ []) before all;
      nonempty = nonempty_push mtu ps p s.closed (subst HasElement (sym is) ne);
      within = within_push mtu ps p s.closed within;
      full = lengths_push mtu ps p s.closed;
      first = first_push starts ps p s.first (ap (λ (q : Payload). q.starts) is);
    }
