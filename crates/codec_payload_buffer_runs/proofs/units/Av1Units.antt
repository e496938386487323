-- An AV1 frame is one lawful unit, whose parts are its kept OBUs: a receiver that lost its first packets may get the last of them.
use Rattle.std.proofs.Common.{◌≡◌, ◌≢◌, ◌∙◌, sym, ap, refl, subst, ℕ, ◌+◌, ◌*◌, ◌<◌, ◌≤◌, ◌%◌, ◌^◌, ◌||◌, inl, inr, List, []}
use Rattle.std.proofs.Common.{◌∷◌, ◌++◌, length, map, arith, append_assoc, Bool, true, false, Option, Some, None, Result, Ok, Err, cond, leb, ltb, not}
use Rattle.std.specs.Prelude.{MatchResult, ◌&&◌, ◌==◌, ◌/◌}
use Rattle.std.specs.Int.Bits.{bit_and}
use Rattle.std.specs.List.{AllByRecursion, flat_map}
use Rattle.std.proofs.lemmas.Bool.{eq-eqb, ltb-false}
use Rattle.std.proofs.lemmas.Grind.{flat_map-append}
use Rattle.std.proofs.lemmas.List.{append-nil, append_cancel_right, map-append, length-map}
use Rattle.std.proofs.lemmas.Nat.Bits.{and_pow}
use Rattle.codec_payload_base.specs.Pieces.{joined}
use Rattle.codec_payload_base.specs.declared.error.PacketError.{PacketError}
use Rattle.codec_payload_base.specs.declared.error.PacketError.TheVariants as faults
use Rattle.codec_payload_av1.proofs.Av1ObuGrammar.{sequence_complete}
use Rattle.codec_payload_av1.specs.Av1Reading.{◌>>=◌}
use Rattle.codec_payload_av1.specs.Av1Obu.{Obu, IsSequence, has_bit, canonical, canonical_unit, frame_kept, kept, string, strings_of}
use Rattle.codec_payload_av1.specs.Av1Packing.{IsElement, HasElement, StandsAfter, StandsFor, ended, is_begun, left_open}
use Rattle.codec_payload_av1.specs.Av1Payload.{Payload, aggregation_header, body, element_count, elements_at, is_head, payload_at, written}
use Rattle.codec_payload_av1.specs.Av1Receiving.{all_received, received, still_pending, taken, usable}
use Rattle.codec_payload_av1.specs.Av1Steps.{AnswersAv1, Av1Step, IsRefusedPayload, IsSentFrame, keeps_nothing, refusal_of_kept}
use Rattle.codec_payload_codec.proofs.CaseLemmas.{by_test}
use Rattle.codec_payload_buffer_runs.proofs.order.ReportLemmas.{quiet_tells}
use Rattle.codec_payload_buffer_runs.proofs.units.SendsUnits.{SendsUnits, no_units}
use Rattle.codec_payload_codec.specs.Depacketizers.{DepacketizerState, Av1Depacketizing, Av1Payloads, kind_of_depacketizer}
use Rattle.codec_payload_buffer.specs.Held.{Held}
use Rattle.codec_payload_codec.specs.Packetizers.{Av1Packetizing}
use Rattle.codec_payload_payloader.specs.Packets.{Packet}
use Rattle.codec_payload_buffer_runs.specs.Schedule.{payloads_of}
use Rattle.codec_payload_payloader.specs.Sending.{Sample, packets_from}
use Rattle.codec_payload_buffer_runs.specs.LawfulUnits.{StartsWithHead, payloads_held, payloads_sent, IsLawful}
use Rattle.codec_payload_buffer_runs.specs.SentStream.{CarryParts, SentUnit, EndsWithTail, IsReleaseOf}
use Rattle.codec_payload_buffer.specs.Steps.{Unpacked, Unpacks, nothing_unpacked}
use Rattle.codec_payload_buffer_runs.specs.Units.{canonical_obus, canonical_units, units_by}

-- the result of two reads, one after the other
bind_split : {A B : Type 0} → (o : Option A) (f : A → Option B) (y : B) → (o >>= f) ≡ Some y → (a : A) × (o ≡ Some a) × (f a ≡ Some y)
bind_split None f y e = absurd (cc)
bind_split (Some a) f y e = (a, refl, e)

received_empty : (pending : List ℕ) → received pending [] ≡ None
unfolding received payload_at
received_empty pending = refl

-- a payload that can be read is refused only if memory runs out
refused_for_memory : (fault : PacketError) (pending payload : List ℕ) (r : List ℕ × List ℕ) → received pending payload ≡ Some r → IsRefusedPayload fault pending payload → fault ≡ faults.OutOfMemory
refused_for_memory faults.OutOfMemory pending payload r reads refused = refl
refused_for_memory faults.ErrShortPacket pending payload r reads refused = let e = sym (received_empty pending) ∙ (ap (received pending) (sym refused) ∙ reads) in absurd (cc)
refused_for_memory faults.ErrAv1CorruptedPacket pending payload r reads refused = let e = sym refused.1 ∙ reads in absurd (cc)
refused_for_memory fault pending payload r reads refused = absurd refused

-- packets that can be read give their units, or memory runs out
abbrev Given : List ℕ → Result Unpacked PacketError → DepacketizerState → Type 0
Given bytes answer e = (kind_of_depacketizer e ≡ Av1Payloads) × MatchResult answer (λ unpacked. unpacked.bytes ≡ bytes) (λ fault. fault ≡ faults.OutOfMemory)

one_given : (bytes : List ℕ) (p : Held) (ps : List Held) (pending rest : List ℕ) (r : List ℕ × List ℕ) (u v : Unpacked) (one : Result (Unit {0}) PacketError)
    (left : List ℕ) (mid : DepacketizerState) (answer : Result Unpacked PacketError) (e : DepacketizerState)
    → received pending p.bytes ≡ Some r → Av1Step pending p.bytes u.bytes u.extra one left v.bytes v.extra → mid ≡ Av1Depacketizing left → bytes ≡ u.bytes ++ (r.0 ++ rest)
    → MatchResult one (λ _. Unpacks mid ps v answer e) (λ fault. (answer ≡ Err fault) × (e ≡ mid))
    → (left ≡ r.1 → Unpacks (Av1Depacketizing left) ps v answer e → Given (v.bytes ++ rest) answer e)
    → Given bytes answer e
one_given bytes p ps pending rest r u v (Ok _) left mid answer e reads (added, is, gained, extra) mid_is whole goes_on later =
    let added_is : added ≡ r.0 = cc in
    let left_is : left ≡ r.1 = cc in
    let total : v.bytes ++ rest ≡ bytes = ap (λ (xs : List ℕ). xs ++ rest) (gained ∙ ap (λ (xs : List ℕ). u.bytes ++ xs) added_is) ∙ (append_assoc u.bytes r.0 rest ∙ sym whole) in
    subst (λ (xs : List ℕ). Given xs answer e) total (later left_is (subst (λ (m : DepacketizerState). Unpacks m ps v answer e) mid_is goes_on))
one_given bytes p ps pending rest r u v (Err fault) left mid answer e reads (refused, cleared, same_bytes, same_extra) mid_is whole goes_on later =
    (ap kind_of_depacketizer (goes_on.1 ∙ mid_is), rw goes_on.0 (refused_for_memory fault pending p.bytes r reads refused))

some_pair : (a c b d : List ℕ) → ◌≡◌ {A = Option (List ℕ × List ℕ)} (Some (a, b)) (Some (c, d)) → (a ≡ c) × (b ≡ d)
some_pair a c b d e = let same : ◌≡◌ {A = List ℕ × List ℕ} (a, b) (c, d) = cc in (ap (λ (p : List ℕ × List ℕ). p.0) same, ap (λ (p : List ℕ × List ℕ). p.1) same)

all_given : (ps : List Held) (pending x end : List ℕ) (u : Unpacked) (answer : Result Unpacked PacketError) (e : DepacketizerState)
    → all_received pending (payloads_held ps) ≡ Some (x, end) → Unpacks (Av1Depacketizing pending) ps u answer e
    → Given (u.bytes ++ x) answer e
unfolding all_received
all_given [] pending x end u answer e reads gives =
    let none : [] ≡ x = (some_pair [] x pending end reads).0 in
    (ap kind_of_depacketizer gives.1, rw gives.0 (sym (append-nil u.bytes) ∙ ap (λ (xs : List ℕ). u.bytes ++ xs) none))
all_given (p ∷ ps) pending x end u answer e reads gives =
    let first = bind_split (received pending p.bytes) (λ r. all_received r.1 (payloads_held ps) >>= λ rs. Some (r.0 ++ rs.0, rs.1)) (x, end) reads in
    let others = bind_split (all_received first.0.1 (payloads_held ps)) (λ rs. Some (first.0.0 ++ rs.0, rs.1)) (x, end) first.2 in
    let x_is : x ≡ first.0.0 ++ others.0.0 = sym (some_pair (first.0.0 ++ others.0.0) x others.0.1 end others.2).0 in
    one_given (u.bytes ++ x) p ps pending others.0.0 first.0 u gives.2 gives.0 gives.3.0 gives.1 answer e first.1 gives.3.1 gives.3.2 (ap (λ (xs : List ℕ). u.bytes ++ xs) x_is) gives.4
    (λ left_is unpacks. all_given ps gives.3.0 others.0.0 others.0.1 gives.2 answer e (ap (λ (l : List ℕ). all_received l (payloads_held ps)) left_is ∙ others.1) unpacks)

bind_again : {A B : Type 0} (o : Option A) (a : A) (f : A → Option B) → o ≡ Some a → (o >>= f) ≡ f a
bind_again o a f is = ap (λ (x : Option _). x >>= f) is

-- packets that can be read give what the first of them give, and then what the others give
append_split : (front behind : List (List ℕ)) (pending x end : List ℕ) → all_received pending (front ++ behind) ≡ Some (x, end)
    → (u : List ℕ) × (mid : List ℕ) × (v : List ℕ) × (all_received pending front ≡ Some (u, mid)) × (all_received mid behind ≡ Some (v, end)) × (x ≡ u ++ v)
unfolding all_received
append_split [] behind pending x end reads = ([], pending, x, refl, reads, refl)
append_split (p ∷ ps) behind pending x end reads =
    let first = bind_split (received pending p) (λ r. all_received r.1 (ps ++ behind) >>= λ rs. Some (r.0 ++ rs.0, rs.1)) (x, end) reads in
    let others = bind_split (all_received first.0.1 (ps ++ behind)) (λ rs. Some (first.0.0 ++ rs.0, rs.1)) (x, end) first.2 in
    let both = some_pair (first.0.0 ++ others.0.0) x others.0.1 end others.2 in
    let (u, mid, v, reads_front, reads_behind, is) = append_split ps behind first.0.1 others.0.0 others.0.1 others.1 in
    let reads_all : all_received pending (p ∷ ps) ≡ Some (first.0.0 ++ u, mid) =
    bind_again (received pending p) first.0 (λ r. all_received r.1 ps >>= λ rs. Some (r.0 ++ rs.0, rs.1)) first.1
    ∙ bind_again (all_received first.0.1 ps) (u, mid) (λ rs. Some (first.0.0 ++ rs.0, rs.1)) reads_front in (
      first.0.0 ++ u,
      mid,
      v,
      reads_all,
      reads_behind ∙ ap (λ (e : List ℕ). Some (v, e)) both.1,
      sym both.0 ∙ (ap (λ (xs : List ℕ). first.0.0 ++ xs) is ∙ sym (append_assoc first.0.0 u v)),
    )

not_true : (b : Bool) → not b ≡ true → b ≡ false
not_true true e = absurd (cc)
not_true false e = refl

-- a payload that does not continue an element is read alike after any pending bytes
abbrev taken_after : List ℕ → Payload → Option (List ℕ × List ℕ)
taken_after pending p = taken p.goes_on (still_pending p pending) (usable p (still_pending p pending))

same_taken : (a b : List ℕ) (p : Payload) → p.continues ≡ false → taken_after a p ≡ taken_after b p
same_taken a b p is = rw is refl

same_of_elements : (o : Option (List (List ℕ))) (f : List (List ℕ) → Payload) (a b : List ℕ) → ((es : List (List ℕ)) → (f es).continues ≡ false)
    → ((o >>= λ es. Some (f es)) >>= taken_after a) ≡ ((o >>= λ es. Some (f es)) >>= taken_after b)
same_of_elements None f a b all = refl
same_of_elements (Some es) f a b all = same_taken a b (f es) (all es)

head_received : (a b packet : List ℕ) → is_head packet ≡ true → received a packet ≡ received b packet
unfolding received payload_at
head_received a b [] head = refl
head_received a b (h ∷ bytes) head =
    let w = bit_and h 0x30 / 16 in
    same_of_elements (elements_at w bytes)
    (λ es. record { continues = has_bit 128 h; goes_on = has_bit 64 h && (w == 0 || length es == w); starts = has_bit 8 h; elements = es })
    a b (λ es. not_true (has_bit 128 h) head)

head_all_received : (a b packet : List ℕ) (packets : List (List ℕ)) → is_head packet ≡ true → all_received a (packet ∷ packets) ≡ all_received b (packet ∷ packets)
unfolding all_received
head_all_received a b packet packets head =
    ap (λ (o : Option (List ℕ × List ℕ)). o >>= λ r. all_received r.1 packets >>= λ rs. Some (r.0 ++ rs.0, rs.1)) (head_received a b packet head)

-- a depacketizer of these payloads holds the pending bytes
is_av1 : (d : DepacketizerState) → kind_of_depacketizer d ≡ Av1Payloads → (pending : List ℕ) × (d ≡ Av1Depacketizing pending)
is_av1 (Av1Depacketizing pending) is = (pending, refl)
is_av1 d is = absurd (cc)

flat_joined : (os : List Obu) → flat_map canonical os ≡ joined (map canonical os)
flat_joined [] = refl
flat_joined (o ∷ os) = ap (λ (xs : List ℕ). canonical o ++ xs) (flat_joined os)

-- the first packet is a head
few_elements : (es : List (List ℕ)) → element_count es ≤ 3
few_elements es = by_test (ltb 3 (length es)) (λ b. cond b 0 (length es) ≤ 3) (λ _. omega arith) (λ few. omega (arith, ltb-false 3 (length es) few))

low_bits : (goes_on starts : Bool) (n : ℕ) → n ≤ 3 → cond goes_on 64 0 + 16 * n + cond starts 8 0 < 128
low_bits true true n few = omega (arith, few)
low_bits true false n few = omega (arith, few)
low_bits false true n few = omega (arith, few)
low_bits false false n few = omega (arith, few)

low_header : (p : Payload) → p.continues ≡ false → aggregation_header p < 128
low_header p first =
    let clear : ◌≡◌ {A = ℕ} (cond p.continues 128 0) 0 = ap (λ (b : Bool). cond b 128 0) first in
    omega (arith, clear, low_bits p.goes_on p.starts (element_count p.elements) (few_elements p.elements))

low_is_head : (h : ℕ) (bytes : List ℕ) → h < 128 → is_head (h ∷ bytes) ≡ true
low_is_head h bytes low = let clear : bit_and h 128 ≡ 0 = omega (arith, and_pow h 7) in rw (eq-eqb (bit_and h 128) 0 clear) refl

written_first : (p : Payload) → p.continues ≡ false → is_head (written p) ≡ true
unfolding written
written_first p first = low_is_head (aggregation_header p) (body p.elements) (low_header p first)

-- an element that continues is begun
goes_on_begun : (es : List (List ℕ)) (goes_on : Bool) (begun : List ℕ) → AllByRecursion IsElement es → 0 < length es → ended goes_on begun es ≡ [] → is_begun (left_open goes_on begun es) ≡ true
goes_on_begun [] goes_on begun full some none = absurd (omega (arith, some))
goes_on_begun (e ∷ []) true begun full some none = begun_more begun e full.0
  where
    begun_more : (xs ys : List ℕ) → 0 < length ys → is_begun (xs ++ ys) ≡ true
    begun_more [] [] more = absurd (omega (arith, more))
    begun_more [] (y ∷ ys) more = refl
    begun_more (x ∷ xs) ys more = refl
goes_on_begun (e ∷ []) false begun full some none = absurd (cc)
goes_on_begun (e ∷ f ∷ es) goes_on begun full some none = absurd (cc)

left_nil : (xs ys : List (List ℕ)) → [] ≡ xs ++ ys → (xs ≡ []) × (ys ≡ [])
left_nil [] ys e = (refl, sym e)
left_nil (x ∷ xs) ys e = absurd (cc)

-- no payloads represent no strings, once an element has begun
none_begun : (ps : List Payload) (begun : List ℕ) → is_begun begun ≡ true → AllByRecursion HasElement ps → StandsAfter begun ps [] → ⊥
none_begun [] begun is full stands = let e : is_begun begun ≡ false = ap is_begun stands.0 in cc
none_begun (p ∷ ps) begun is full (continues, elements, (rest, strings, stands)) =
    let parts = left_nil (ended p.goes_on begun p.elements) rest strings in
    none_begun ps (left_open p.goes_on begun p.elements) (goes_on_begun p.elements p.goes_on begun elements full.0 parts.0) full.1
    (subst (StandsAfter (left_open p.goes_on begun p.elements) ps) parts.1 stands)

none_sent : (ps : List Payload) → AllByRecursion HasElement ps → StandsFor ps [] → ps ≡ []
none_sent [] full stands = refl
none_sent (p ∷ ps) full (continues, elements, (rest, strings, stands)) =
    let parts = left_nil (ended p.goes_on [] p.elements) rest strings in
    absurd (none_begun ps (left_open p.goes_on [] p.elements) (goes_on_begun p.elements p.goes_on [] elements full.0 parts.0) full.1
    (subst (StandsAfter (left_open p.goes_on [] p.elements) ps) parts.1 stands))

module _ (sample : Sample) (rtp_time : ℕ) where
  abbrev laid : ℕ → ℕ → List (List ℕ) → List Packet
  laid number place packets = packets_from Av1Packetizing sample rtp_time number place packets

  ends : (number place : ℕ) (packet : List ℕ) (packets : List (List ℕ)) → EndsWithTail Av1Payloads (laid number place (packet ∷ packets))
  ends number place packet [] = refl
  ends number place packet (next ∷ []) = (refl, refl)
  ends number place packet (next ∷ more ∷ packets) = (refl, ends ((number + 1) % 2 ^ 64) (place + 1) next (more ∷ packets))

  payloads_laid : (number place : ℕ) (packets : List (List ℕ)) → payloads_sent (laid number place packets) ≡ packets
  payloads_laid number place [] = refl
  payloads_laid number place (packet ∷ packets) = ap (λ (ps : List (List ℕ)). packet ∷ ps) (payloads_laid ((number + 1) % 2 ^ 64) (place + 1) packets)

  -- the frame as a unit
  abbrev obus_unit : ℕ → List Obu → List (List ℕ) → SentUnit
  obus_unit number obus packets = record { parts = map canonical (kept obus); packets = laid number 0 packets; id = None }

  module _ (mtu number : ℕ) (packet : List ℕ) (others : List (List ℕ)) (s : IsSentFrame mtu sample.bytes (packet ∷ others)) where
    abbrev unit_is : SentUnit
    unit_is = obus_unit number s.obus (packet ∷ others)

    abbrev Released : List Packet → Result Unpacked PacketError → DepacketizerState → Type 0
    Released missing answer e = (kind_of_depacketizer e ≡ Av1Payloads) × MatchResult answer (λ unpacked. IsReleaseOf true unit_is missing unpacked.bytes) (λ fault. fault ≡ faults.OutOfMemory)

    whole_released : (answer : Result Unpacked PacketError) (e : DepacketizerState) → Given (canonical_unit s.obus) answer e → Released [] answer e
    whole_released (Ok v) e given = (given.0, inl (refl, given.1 ∙ flat_joined (kept s.obus)))
    whole_released (Err fault) e given = given

    -- the packets in front of the last ones carry exactly the OBUs that the last ones lack
    front_carries : (front : List (List ℕ)) (next : List ℕ) (behind : List (List ℕ)) → packet ∷ others ≡ front ++ next ∷ behind → is_head next ≡ true
        → (first last : List Obu) → kept s.obus ≡ first ++ last → (before end : List ℕ) → all_received before (next ∷ behind) ≡ Some (flat_map canonical last, end)
        → (pending : List ℕ) → (after : List ℕ) × (all_received pending front ≡ Some (joined (map canonical first), after))
    front_carries front next behind split head first last parts before end read pending =
        let total = s.comes_back pending in
        let (u, mid, v, reads, rest, is) = append_split front (next ∷ behind) pending (canonical_unit s.obus) total.0 (ap (all_received pending) (sym split) ∙ total.1) in
        let v_is : v ≡ flat_map canonical last = (some_pair v (flat_map canonical last) total.0 end (sym rest ∙ (head_all_received mid before next behind head ∙ read))).0 in
        let whole : u ++ flat_map canonical last ≡ flat_map canonical first ++ flat_map canonical last =
        ap (λ (xs : List ℕ). u ++ xs) (sym v_is) ∙ (sym is ∙ (ap (flat_map canonical) parts ∙ flat_map-append canonical first last)) in
        let u_is : u ≡ joined (map canonical first) = append_cancel_right u (flat_map canonical first) (flat_map canonical last) whole ∙ flat_joined first in
        (mid, reads ∙ ap (λ (xs : List ℕ). Some (xs, mid)) u_is)

    last_released : (m : Packet) (ms : List Packet) (first last : List Obu) (answer : Result Unpacked PacketError) (e : DepacketizerState) → kept s.obus ≡ first ++ last
        → 0 < length last → CarryParts (m ∷ ms) (map canonical first) → Given (flat_map canonical last) answer e → Released (m ∷ ms) answer e
    last_released m ms first last (Ok v) e split some carried given =
        let size : length (map canonical last) ≡ length last = length-map last canonical in (
          given.0,
          inr (
            refl,
            omega arith,
            map canonical first,
            map canonical last,
            ap (map canonical) split ∙ map-append canonical first last,
            omega (arith, size, some),
            given.1 ∙ flat_joined last,
            carried,
          ),
        )
    last_released m ms first last (Err fault) e split some carried given = given

    gives_unit : (missing rest : List Packet) → missing ++ rest ≡ laid number 0 (packet ∷ others) → StartsWithHead Av1Payloads rest → (ps : List Held) → payloads_held ps ≡ payloads_sent rest
        → (d : DepacketizerState) (answer : Result Unpacked PacketError) (e : DepacketizerState) → kind_of_depacketizer d ≡ Av1Payloads
        → Unpacks d ps nothing_unpacked answer e → Released missing answer e
    gives_unit [] rest whole head ps same d answer e is gives =
        let holds = is_av1 d is in
        let read = s.comes_back holds.0 in
        let all : payloads_held ps ≡ packet ∷ others = same ∙ (ap payloads_sent whole ∙ payloads_laid number 0 (packet ∷ others)) in
        whole_released answer e (all_given ps holds.0 (canonical_unit s.obus) read.0 nothing_unpacked answer e (ap (all_received holds.0) all ∙ read.1)
        (subst (λ (x : DepacketizerState). Unpacks x ps nothing_unpacked answer e) holds.1 gives))
    gives_unit (m ∷ ms) [] whole head ps same d answer e is gives = absurd head
    gives_unit (m ∷ ms) (r ∷ rs) whole head ps same d answer e is gives =
        let holds = is_av1 d is in
        let split : packet ∷ others ≡ payloads_sent (m ∷ ms) ++ r.payload ∷ payloads_sent rs =
        sym (payloads_laid number 0 (packet ∷ others)) ∙ (ap payloads_sent (sym whole) ∙ map-append (λ (p : Packet). p.payload) (m ∷ ms) (r ∷ rs)) in
        let (first, last, end, parts, some, read) = s.last_come_back (payloads_sent (m ∷ ms)) r.payload (payloads_sent rs) split head holds.0 in
        let carried = front_carries (payloads_sent (m ∷ ms)) r.payload (payloads_sent rs) split head first last parts holds.0 end read in
        last_released m ms first last answer e parts some carried (all_given ps holds.0 (flat_map canonical last) end nothing_unpacked answer e
        (ap (all_received holds.0) same ∙ read) (subst (λ (x : DepacketizerState). Unpacks x ps nothing_unpacked answer e) holds.1 gives))

    first_head : (ps : List Payload) → packet ∷ others ≡ map written ps → StandsFor ps (strings_of s.obus) → is_head packet ≡ true
    first_head [] are stands = absurd (cc)
    first_head (p ∷ ps) are stands = let same : packet ≡ written p = cc in ap is_head same ∙ written_first p stands.0

    lawful_obus : IsLawful Av1Payloads true unit_is
    lawful_obus = record {
      ends = ends number 0 packet others;
      starts = first_head s.sent.0 s.sent.1 s.sent.2.stands;
      gives = gives_unit;
      tells = λ missing rest whole head ps same d unpacked e is gives. quiet_tells Av1Payloads refl ps d unpacked e is gives;
    }

-- the units of a frame whose kept OBUs are known
abbrev units_if : ℕ → List ℕ → Option (List Obu) → List (List (List ℕ))
units_if mtu frame o = units_by (leb mtu 1 || keeps_nothing o) (cond (leb mtu 1) None (refusal_of_kept o)) (canonical_obus o ∷ [])

small_skips : (mtu : ℕ) (frame : List ℕ) (o : Option (List Obu)) → leb mtu 1 ≡ true → units_if mtu frame o ≡ []
small_skips mtu frame o small = rw small refl

nothing_kept : (mtu : ℕ) (frame : List ℕ) → leb mtu 1 ≡ false → units_if mtu frame (Some []) ≡ []
nothing_kept mtu frame large = rw large refl

refused : (mtu : ℕ) (frame : List ℕ) → leb mtu 1 ≡ false → units_if mtu frame None ≡ []
refused mtu frame large = rw large refl

kept_of_sequence : (obus : List Obu) (frame : List ℕ) → IsSequence obus frame → frame_kept frame ≡ Some (kept obus)
unfolding frame_kept
kept_of_sequence obus frame sequence = ap (λ (r : Option (List Obu)). r >>= λ os. Some (kept os)) (sequence_complete obus frame sequence)

no_strings : (os : List Obu) → map string os ≡ [] → os ≡ []
no_strings [] e = refl
no_strings (o ∷ os) e = absurd (cc)

module _ (mtu : ℕ) (sample : Sample) (rtp_time number : ℕ) (large : leb mtu 1 ≡ false) where
  abbrev Sends : List (List ℕ) → Type 0
  Sends packets = SendsUnits Av1Packetizing mtu sample rtp_time number packets Av1Packetizing

  units_are : (s_obus os : List Obu) → IsSequence s_obus sample.bytes → kept s_obus ≡ os → canonical_units Av1Packetizing mtu sample.bytes ≡ units_if mtu sample.bytes (Some os)
  units_are s_obus os sequence is = ap (units_if mtu sample.bytes) (kept_of_sequence s_obus sample.bytes sequence ∙ ap (λ (xs : List Obu). Some xs) is)

  sends_none : (s : IsSentFrame mtu sample.bytes []) → Sends []
  sends_none s =
      let none : s.sent.0 ≡ [] = no_payloads s.sent.0 s.sent.1 in
      let stands : StandsFor [] (strings_of s.obus) = subst (λ (ps : List Payload). StandsFor ps (strings_of s.obus)) none s.sent.2.stands in
      no_units Av1Packetizing mtu sample rtp_time number [] refl (units_are s.obus [] s.sequence (no_strings (kept s.obus) stands.1) ∙ nothing_kept mtu sample.bytes large) refl
    where
      no_payloads : (ps : List Payload) → [] ≡ map written ps → ps ≡ []
      no_payloads [] e = refl
      no_payloads (p ∷ ps) e = absurd (cc)

  module _ (packet : List ℕ) (others : List (List ℕ)) (s : IsSentFrame mtu sample.bytes (packet ∷ others)) where
    sends_unit : (os : List Obu) → kept s.obus ≡ os → Sends (packet ∷ others)
    sends_unit [] is =
        let strings : strings_of s.obus ≡ [] = ap (map string) is in
        let none = none_sent s.sent.0 s.sent.2.nonempty (subst (StandsFor s.sent.0) strings s.sent.2.stands) in
        let nothing : packet ∷ others ≡ [] = s.sent.1 ∙ ap (map written) none in
        absurd (cc)
    sends_unit (o ∷ os) is =
        let units : units_if mtu sample.bytes (Some (o ∷ os)) ≡ map canonical (o ∷ os) ∷ [] = rw large refl in
        record {
          units = obus_unit sample rtp_time number s.obus (packet ∷ others) ∷ [];
          canonical = ap (λ (xs : List Obu). map canonical xs ∷ []) is ∙ (sym units ∙ sym (units_are s.obus (o ∷ os) s.sequence is));
          packets = append-nil _;
          lawful = λ _. (lawful_obus sample rtp_time mtu number packet others s, tt);
          ids = (refl, tt);
          ids_go_on = λ m. refl;
          goes_on = refl;
        }

  sends_frame : (packets : List (List ℕ)) → IsSentFrame mtu sample.bytes packets → Sends packets
  sends_frame [] s = sends_none s
  sends_frame (packet ∷ others) s = sends_unit packet others s (kept s.obus) refl

  sends_kept : (r : Option (List Obu)) → frame_kept sample.bytes ≡ r → (packets : List (List ℕ)) → AnswersAv1 mtu sample.bytes (Ok packets) → Sends packets
  sends_kept None is packets step = sends_frame packets (step.1 (rw (large, is) refl))
  sends_kept (Some []) is packets step =
      no_units Av1Packetizing mtu sample rtp_time number packets (step.0 (rw (large, is) refl)) (ap (units_if mtu sample.bytes) is ∙ nothing_kept mtu sample.bytes large) refl
  sends_kept (Some (o ∷ os)) is packets step = sends_frame packets (step.1 (rw (large, is) refl))

  sends_refused : (r : Option (List Obu)) → frame_kept sample.bytes ≡ r → (fault : PacketError) → AnswersAv1 mtu sample.bytes (Err fault) → fault ≢ faults.OutOfMemory → Sends []
  sends_refused None is fault step found = no_units Av1Packetizing mtu sample rtp_time number [] refl (ap (units_if mtu sample.bytes) is ∙ refused mtu sample.bytes large) refl
  sends_refused (Some []) is fault step found = let no = rw (large, is) at step.0 in absurd cc
  sends_refused (Some (o ∷ os)) is fault step found = absurd (found (rw (large, is) at step.1))

-- the packets sent for an AV1 frame
pub av1_sends : (mtu : ℕ) (sample : Sample) (rtp_time number : ℕ) (answer : Result (List (List ℕ)) PacketError) → AnswersAv1 mtu sample.bytes answer → answer ≢ Err faults.OutOfMemory
    → SendsUnits Av1Packetizing mtu sample rtp_time number (payloads_of answer) Av1Packetizing
av1_sends mtu sample rtp_time number answer step found =
    by_test (leb mtu 1) (λ b. leb mtu 1 ≡ b → SendsUnits Av1Packetizing mtu sample rtp_time number (payloads_of answer) Av1Packetizing)
    (λ small _. no_units Av1Packetizing mtu sample rtp_time number (payloads_of answer) (nothing_sent answer step found small) (small_skips mtu sample.bytes (frame_kept sample.bytes) small) refl)
    (λ large _. sends large answer step found)
    refl
  where
    nothing_sent : (a : Result (List (List ℕ)) PacketError) → AnswersAv1 mtu sample.bytes a → a ≢ Err faults.OutOfMemory → leb mtu 1 ≡ true → payloads_of a ≡ []
    nothing_sent (Ok packets) is other small = is.0 (rw small refl)
    nothing_sent (Err fault) is other small = refl

    sends : leb mtu 1 ≡ false → (a : Result (List (List ℕ)) PacketError) → AnswersAv1 mtu sample.bytes a → a ≢ Err faults.OutOfMemory
        → SendsUnits Av1Packetizing mtu sample rtp_time number (payloads_of a) Av1Packetizing
    sends large (Ok packets) is other = sends_kept mtu sample rtp_time number large (frame_kept sample.bytes) refl packets is
    sends large (Err fault) is other = sends_refused mtu sample rtp_time number large (frame_kept sample.bytes) refl fault is (λ same. other (ap Err same))
