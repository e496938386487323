-- The packets of a frame give its kept OBUs, from any state of a receiver; a last part of them gives a last part.
use Rattle.std.proofs.Common.{◌≡◌, ℕ, ◌^◌, ◌<◌, ◌≤◌, Bool, true, false, List, [], ◌∷◌, ◌++◌, length, map, Some, refl, sym, ap, subst, ◌∙◌, append_assoc, ◌⊎◌, inl, inr, arith}
use Rattle.std.specs.List.{AllByRecursion, flat_map}
use Rattle.std.proofs.lemmas.List.{length-append}
use Rattle.std.proofs.lemmas.Bool.{cases_lt, lt-ltb, le-ltb}
use Rattle.codec_payload_base.specs.Leb.{leb}
use Rattle.codec_payload_av1.specs.Av1Reading.{◌>>=◌}
use Rattle.codec_payload_av1.specs.Av1Obu.{Obu, is_kept_type, string, canonical, kept, canonical_unit}
use Rattle.codec_payload_av1.specs.Av1Payload.{Payload, written, is_head, body, each_with_length, all_but_last_with_length, payload_at}
use Rattle.codec_payload_av1.specs.Av1Packing.{ended, left_open, is_begun, IsElement, StandsAfter, HasElement, Sent, AreRead}
use Rattle.codec_payload_av1.specs.Av1Receiving.{taken, unit_of, units_of, still_pending, usable, without_orphan, received, all_received}
use Rattle.codec_payload_av1.proofs.Av1PayloadLengths.{bind_some, some_is}
use Rattle.codec_payload_av1.proofs.Av1ReadBack.{Spelled, payload_again, written_head, IsGood, unit_again}
use Rattle.codec_payload_av1.proofs.Av1FewestPackets.{segments, segment, all_marks, one_byte}
use Rattle.codec_payload_av1.proofs.Av1FewestSegments.{join}

-- ---- elements of a payload of fewer than 2 ^ 64 bytes can be spelled

each_spelled : (es : List (List ℕ)) → AllByRecursion IsElement es → length (each_with_length es) < 2 ^ 64 → AllByRecursion Spelled es
each_spelled [] h lt = tt
each_spelled (e ∷ es) h lt = (
  (h.0, omega (arith, lt, length-append (leb (length e) ++ e) (each_with_length es), length-append (leb (length e)) e)),
  each_spelled es h.1 (omega (arith, lt, length-append (leb (length e) ++ e) (each_with_length es), length-append (leb (length e)) e)),
)

all_but_last_spelled : (es : List (List ℕ)) → AllByRecursion IsElement es → length (all_but_last_with_length es) < 2 ^ 64 → AllByRecursion Spelled es
all_but_last_spelled [] h lt = tt
all_but_last_spelled (e ∷ []) h lt = ((h.0, lt), tt)
all_but_last_spelled (e ∷ f ∷ es) h lt = (
  (h.0, omega (arith, lt, length-append (leb (length e) ++ e) (all_but_last_with_length (f ∷ es)), length-append (leb (length e)) e)),
  all_but_last_spelled (f ∷ es) h.1 (omega (arith, lt, length-append (leb (length e) ++ e) (all_but_last_with_length (f ∷ es)), length-append (leb (length e)) e)),
)

body_spelled : (es : List (List ℕ)) → AllByRecursion IsElement es → length (body es) < 2 ^ 64 → AllByRecursion Spelled es
body_spelled es h lt =
    elim (cases_lt 3 (length es)) [
      | inl more ↦ each_spelled es h (rw (lt-ltb 3 (length es) more) at lt)
      | inr few ↦ all_but_last_spelled es h (rw (le-ltb 3 (length es) few) at lt)
    ]

pub written_spelled : (p : Payload) → AllByRecursion IsElement p.elements → length (written p) < 2 ^ 64 → AllByRecursion Spelled p.elements
unfolding written
written_spelled p h lt = body_spelled p.elements h (omega (arith, lt))

-- ---- one packet

units_cons : (x : List ℕ) (xs : List (List ℕ)) (v vs : List ℕ) → unit_of x ≡ Some v → units_of xs ≡ Some vs → units_of (x ∷ xs) ≡ Some (v ++ vs)
unfolding units_of
units_cons x xs v vs a b = rw (a, b) refl

units_append : (xs ys : List (List ℕ)) (u : List ℕ) → units_of (xs ++ ys) ≡ Some u → (a : List ℕ) × (b : List ℕ) × (units_of xs ≡ Some a) × (units_of ys ≡ Some b) × (u ≡ a ++ b)
unfolding units_of
units_append [] ys u e = ([], u, refl, e, refl)
units_append (x ∷ xs) ys u e =
    let first = bind_some (unit_of x) (λ v. units_of (xs ++ ys) >>= λ vs. Some (v ++ vs)) u e in
    let others = bind_some (units_of (xs ++ ys)) (λ vs. Some (first.0 ++ vs)) u first.2 in
    let parts = units_append xs ys others.0 others.1 in (
      first.0 ++ parts.0,
      parts.1,
      units_cons x xs first.0 parts.0 first.1 parts.2,
      parts.3,
      sym (some_is (first.0 ++ others.0) u others.2) ∙ ap (λ (t : List ℕ). first.0 ++ t) parts.4 ∙ sym (append_assoc first.0 parts.0 parts.1),
    )

no_orphan : (es : List (List ℕ)) → without_orphan false es ≡ es
no_orphan [] = refl
no_orphan (e ∷ es) = refl

pending_is : (begun pending : List ℕ) (p : Payload) → p.continues ≡ is_begun begun → (p.continues ≡ true → p.starts ≡ false)
    → (is_begun begun ≡ true → pending ≡ begun) → still_pending p pending ≡ begun
pending_is [] pending p z n same = rw z refl
pending_is (b ∷ bs) pending p z n same = rw (z, n z) (same refl)

usable_is : (begun : List ℕ) (p : Payload) → p.continues ≡ is_begun begun → usable p begun ≡ p.elements
usable_is [] p z = rw z (no_orphan p.elements)
usable_is (b ∷ bs) p z = rw z (no_orphan p.elements)

-- the facts about each packet of a frame
pub record IsSound (p : Payload) : Type 0 where
  pub nonempty : 0 < length p.elements
  pub later : p.continues ≡ true → p.starts ≡ false
  pub short : length (written p) < 2 ^ 64

received_is : (pending packet begun a : List ℕ) (p : Payload) → payload_at packet ≡ Some p → still_pending p pending ≡ begun → usable p begun ≡ p.elements
    → units_of (ended p.goes_on begun p.elements) ≡ Some a
    → received pending packet ≡ Some (a, left_open p.goes_on begun p.elements)
unfolding received taken
received_is pending packet begun a p is still used units = rw (is, still, used, units) refl

all_cons : (pending packet : List ℕ) (packets : List (List ℕ)) (a middle b end : List ℕ) → received pending packet ≡ Some (a, middle)
    → all_received middle packets ≡ Some (b, end) → all_received pending (packet ∷ packets) ≡ Some (a ++ b, end)
unfolding all_received
all_cons pending packet packets a middle b end one others = rw (one, others) refl

pub comes : (begun pending : List ℕ) (ps : List Payload) (strings : List (List ℕ)) (units : List ℕ) → StandsAfter begun ps strings → (is_begun begun ≡ true → pending ≡ begun)
    → AllByRecursion IsSound ps → units_of strings ≡ Some units → (end : List ℕ) × (all_received pending (map written ps) ≡ Some (units, end))
unfolding all_received units_of
comes begun pending [] strings units h same sound e = (pending, ap (λ (u : List ℕ). Some (u, pending)) (some_is [] units (rw h.1 at e)))
comes begun pending (p ∷ ps) strings units h same sound e =
    let begun' = left_open p.goes_on begun p.elements in
    let joined : units_of (ended p.goes_on begun p.elements ++ h.2.0) ≡ Some units = rw (← h.2.1) e in
    let parts = units_append (ended p.goes_on begun p.elements) h.2.0 units joined in
    let one = received_is pending (written p) begun parts.0 p
    (payload_again p (written_spelled p h.1 sound.0.short) sound.0.nonempty)
    (pending_is begun pending p h.0 sound.0.later same)
    (usable_is begun p h.0)
    parts.2 in
    let others = comes begun' begun' ps h.2.0 parts.1 h.2.2 (λ _. refl) sound.1 parts.3 in
    (others.0, all_cons pending (written p) (map written ps) parts.0 begun' parts.1 others.0 one others.1 ∙ ap (λ (u : List ℕ). Some (u, others.0)) (sym parts.4))

-- ---- the strings of a frame

cases_bool : (b : Bool) → (b ≡ true) ⊎ (b ≡ false)
cases_bool true = inl refl
cases_bool false = inr refl

-- all of them are kept
abbrev pub AllKept : List Obu → Type 0
AllKept os = AllByRecursion (λ o. IsGood o × (is_kept_type o.header ≡ true)) os

pub kept_all : (os : List Obu) → AllByRecursion IsGood os → AllKept (kept os)
kept_all [] h = tt
kept_all (o ∷ os) h =
    elim (cases_bool (is_kept_type o.header)) [
      | inl is ↦ rw is ((h.0, is), kept_all os h.1)
      | inr is ↦ rw is (kept_all os h.1)
    ]

units_strings : (os : List Obu) → AllKept os → units_of (map string os) ≡ Some (flat_map canonical os)
unfolding units_of
units_strings [] h = refl
units_strings (o ∷ os) h = units_cons (string o) (map string os) (canonical o) (flat_map canonical os) (unit_again o h.0.0 h.0.1) (units_strings os h.1)

-- ---- the packets of a frame

later_sound : (mtu : ℕ) → mtu < 2 ^ 64 → (ps : List Payload) → AllByRecursion HasElement ps → AllByRecursion (λ p. length (written p) ≤ mtu) ps
    → AllByRecursion (λ p. p.starts ≡ false) ps → AllByRecursion IsSound ps
later_sound mtu lt [] ne w n = tt
later_sound mtu lt (p ∷ ps) ne w n = (record { nonempty = ne.0; later = λ _. n.0; short = omega (arith, w.0, lt) }, later_sound mtu lt ps ne.1 w.1 n.1)

sound : (mtu : ℕ) → mtu < 2 ^ 64 → (starts : Bool) (strings : List (List ℕ)) (ps : List Payload) → Sent mtu starts strings ps → AllByRecursion IsSound ps
sound mtu lt starts strings [] sent = tt
sound mtu lt starts strings (p ∷ ps) sent = (
  record { nonempty = sent.nonempty.0; later = λ e. absurd (let z = sent.stands.0 in cc); short = omega (arith, sent.within.0, lt) },
  later_sound mtu lt ps sent.nonempty.1 sent.within.1 sent.first.1,
)

-- From any pending bytes the packets of a frame give its kept OBUs in canonical form.
pub frame_comes : (mtu : ℕ) (starts : Bool) (os : List Obu) (ps : List Payload) (pending : List ℕ) → mtu < 2 ^ 64 → AllByRecursion IsGood os → Sent mtu starts (map string (kept os)) ps
    → (end : List ℕ) × (all_received pending (map written ps) ≡ Some (canonical_unit os, end))
frame_comes mtu starts os ps pending lt good sent =
    comes [] pending ps (map string (kept os)) (canonical_unit os) sent.stands (λ e. absurd (let z = e in cc)) (sound mtu lt starts (map string (kept os)) ps sent)
    (units_strings (kept os) (kept_all os good))

-- ---- a last part of the packets

split_stands : (begun : List ℕ) (front : List Payload) (q : Payload) (qs : List Payload) (strings : List (List ℕ)) → StandsAfter begun (front ++ q ∷ qs) strings → q.continues ≡ false
    → (done : List (List ℕ)) × (rest : List (List ℕ)) × (strings ≡ done ++ rest) × StandsAfter [] (q ∷ qs) rest
split_stands [] [] q qs strings h head = ([], strings, refl, h)
split_stands (b ∷ begun) [] q qs strings h head = absurd (let z = h.0 in cc)
split_stands begun (p ∷ front) q qs strings h head =
    let more = split_stands (left_open p.goes_on begun p.elements) front q qs h.2.0 h.2.2 head in (
      ended p.goes_on begun p.elements ++ more.0,
      more.1,
      h.2.1 ∙ ap (λ (t : List (List ℕ)). ended p.goes_on begun p.elements ++ t) more.2 ∙ sym (append_assoc (ended p.goes_on begun p.elements) more.0 more.1),
      more.3,
    )

same_front : (o : Obu) (xs ys : List Obu) → xs ≡ ys → o ∷ xs ≡ o ∷ ys
same_front o xs ys e = cc

split_map : (os : List Obu) (a b : List (List ℕ)) → map string os ≡ a ++ b → (first : List Obu) × (last : List Obu) × (os ≡ first ++ last) × (map string last ≡ b)
split_map os [] b e = ([], os, refl, e)
split_map [] (x ∷ a) b e = absurd cc
split_map (o ∷ os) (x ∷ a) b e =
    let t : map string os ≡ a ++ b = cc in
    let more = split_map os a b t in
    (o ∷ more.0, more.1, same_front o os (more.0 ++ more.1) more.2, more.3)

kept_last : (first last : List Obu) → AllKept (first ++ last) → AllKept last
kept_last [] last h = h
kept_last (o ∷ first) last h = kept_last first last h.1

sound_last : (front ps : List Payload) → AllByRecursion IsSound (front ++ ps) → AllByRecursion IsSound ps
sound_last [] ps h = h
sound_last (p ∷ front) ps h = sound_last front ps h.1

pub stands_nonempty : (q : Payload) (qs : List Payload) → StandsAfter [] (q ∷ qs) [] → 0 < length q.elements → ⊥
stands_nonempty q qs h ne =
    let none = all_marks [] (q ∷ qs) [] h in
    let some = one_byte q.continues q.elements h.1 ne in
    omega (arith, some, length-append (segment q.continues q.elements) (join (segments qs)), ap length none)

last_nonempty : (last : List Obu) (q : Payload) (qs : List Payload) → StandsAfter [] (q ∷ qs) (map string last) → 0 < length q.elements → 0 < length last
last_nonempty [] q qs h ne = absurd (stands_nonempty q qs h ne)
last_nonempty (o ∷ last) q qs h ne = omega arith

-- From any pending bytes a last part of the packets that begins with a head gives a nonempty last part of the kept OBUs.
pub last_part_comes : (mtu : ℕ) (starts : Bool) (os : List Obu) (front : List Payload) (q : Payload) (qs : List Payload) (pending : List ℕ) → mtu < 2 ^ 64 → AllByRecursion IsGood os
    → Sent mtu starts (map string (kept os)) (front ++ q ∷ qs) → q.continues ≡ false
    → (first : List Obu) × (last : List Obu) × (end : List ℕ) × (kept os ≡ first ++ last) × (0 < length last) × (all_received pending (map written (q ∷ qs)) ≡ Some (flat_map canonical last, end))
last_part_comes mtu starts os front q qs pending lt good sent head =
    let parts = split_stands [] front q qs (map string (kept os)) sent.stands head in
    let split = split_map (kept os) parts.0 parts.1 parts.2 in
    let all : AllKept (split.0 ++ split.1) = subst AllKept split.2 (kept_all os good) in
    let good_last = kept_last split.0 split.1 all in
    let stands : StandsAfter [] (q ∷ qs) (map string split.1) = subst (λ (t : List (List ℕ)). StandsAfter [] (q ∷ qs) t) (sym split.3) parts.3 in
    let whole = sound mtu lt starts (map string (kept os)) (front ++ q ∷ qs) sent in
    let ours = sound_last front (q ∷ qs) whole in
    let c = comes [] pending (q ∷ qs) (map string split.1) (flat_map canonical split.1) stands (λ e. absurd (let z = e in cc)) ours (units_strings split.1 good_last) in
    (split.0, split.1, c.0, split.2, last_nonempty split.1 q qs stands ours.0.nonempty, c.1)

-- the packets of a frame are read as its payloads
read_back : (begun : List ℕ) (ps : List Payload) (strings : List (List ℕ)) → StandsAfter begun ps strings → AllByRecursion IsSound ps → AreRead (map written ps) ps
read_back begun [] strings h good = tt
read_back begun (p ∷ ps) strings h good =
    (payload_again p (written_spelled p h.1 good.0.short) good.0.nonempty, read_back (left_open p.goes_on begun p.elements) ps h.2.0 h.2.2 good.1)

pub sent_are_read : (mtu : ℕ) (starts : Bool) (strings : List (List ℕ)) (ps : List Payload) → mtu < 2 ^ 64 → Sent mtu starts strings ps → AreRead (map written ps) ps
sent_are_read mtu starts strings ps lt sent = read_back [] ps strings sent.stands (sound mtu lt starts strings ps sent)

-- the payload of a packet, among the ones before and after it
same_before : (p : Payload) (xs ys : List Payload) → xs ≡ ys → p ∷ xs ≡ p ∷ ys
same_before p xs ys e = cc

pick : (ps : List Payload) (front : List (List ℕ)) (packet : List ℕ) (packets : List (List ℕ)) → front ++ packet ∷ packets ≡ map written ps
    → (before : List Payload) × (p : Payload) × (behind : List Payload) × (ps ≡ before ++ p ∷ behind) × (packet ≡ written p) × (packets ≡ map written behind)
pick [] [] packet packets e = absurd cc
pick [] (f ∷ front) packet packets e = absurd cc
pick (p ∷ ps) [] packet packets e = let a : packet ≡ written p = cc in let b : packets ≡ map written ps = cc in ([], p, ps, refl, a, b)
pick (p ∷ ps) (f ∷ front) packet packets e =
    let t : front ++ packet ∷ packets ≡ map written ps = cc in
    let m = pick ps front packet packets t in
    (p ∷ m.0, m.1, m.2, same_before p ps (m.0 ++ m.1 ∷ m.2) m.3, m.4, m.5)

same_list : (a b : List ℕ) (xs ys : List (List ℕ)) → a ≡ b → xs ≡ ys → a ∷ xs ≡ b ∷ ys
same_list a b xs ys e f = cc

-- the same, of the packets themselves
pub last_packets_come : (mtu : ℕ) (starts : Bool) (os : List Obu) (ps : List Payload) (front : List (List ℕ)) (packet : List ℕ) (packets : List (List ℕ))
    (pending : List ℕ) → mtu < 2 ^ 64 → AllByRecursion IsGood os
    → Sent mtu starts (map string (kept os)) ps → front ++ packet ∷ packets ≡ map written ps → is_head packet ≡ true
    → (first : List Obu) × (last : List Obu) × (end : List ℕ) × (kept os ≡ first ++ last) × (0 < length last) × (all_received pending (packet ∷ packets) ≡ Some (flat_map canonical last, end))
last_packets_come mtu starts os ps front packet packets pending lt good sent are head =
    let m = pick ps front packet packets are in
    let sent' : Sent mtu starts (map string (kept os)) (m.0 ++ m.1 ∷ m.2) = subst (λ (qs : List Payload). Sent mtu starts (map string (kept os)) qs) m.3 sent in
    let clear : m.1.continues ≡ false = written_head m.1 (rw m.4 at head) in
    let r = last_part_comes mtu starts os m.0 m.1 m.2 pending lt good sent' clear in
    (r.0, r.1, r.2, r.3, r.4, ap (λ (t : List (List ℕ)). all_received pending t) (same_list packet (written m.1) packets (map written m.2) m.4 m.5) ∙ r.5)
