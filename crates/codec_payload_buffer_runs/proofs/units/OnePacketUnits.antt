-- Units of one packet whose payload may carry other bytes than its own: comfort noise, telephone events and AMR-WB.
use Rattle.std.proofs.Common.{◌≡◌, ◌≢◌, ◌∙◌, sym, ap, refl, subst, ℕ, inl, inr, ◌⊎◌, List, [], ◌∷◌, ◌++◌, take, Bool, true, false, Option, Some, None, Result, Ok, Err, ◌||◌}
use Rattle.std.specs.Prelude.{MatchResult}
use Rattle.std.proofs.lemmas.List.{append-nil}
use Rattle.codec_payload_audio.proofs.AmrWbRoundTripLemmas.{stored_is_frame, received_again}
use Rattle.codec_payload_audio.specs.AmrWb.{Frame, AnswersAmrWb, IsPacketOf, amr_wb_is_skipped, amr_wb_refusal, canonical, payload, stored}
use Rattle.codec_payload_audio.specs.AmrWbReceived.{AmrWbStep, IsRefusal, received}
use Rattle.codec_payload_base.specs.Bits.{bits_of, bytes_of}
use Rattle.codec_payload_audio.specs.Payloads.{AnswersWhole, whole_refusal}
use Rattle.codec_payload_base.specs.Answers.{AnswersBy, is_empty}
use Rattle.codec_payload_base.specs.TelephoneReport.{TakesFirst, are_reports}
use Rattle.codec_payload_base.specs.declared.error.PacketError.{PacketError}
use Rattle.codec_payload_base.specs.declared.error.PacketError.TheVariants as faults
use Rattle.codec_payload_base.specs.declared.interface.CodecExtra.{CodecExtra}
use Rattle.codec_payload_buffer_runs.proofs.order.ReportLemmas.{quiet_tells}
use Rattle.codec_payload_codec.specs.Depacketizers.{DepacketizerState, DepacketizerKind, ComfortNoiseDepacketizing, TeleDepacketizing, AmrWbDepacketizing, ComfortNoisePayloads}
use Rattle.codec_payload_codec.specs.Depacketizers.{TelePayloads, AmrWbPayloads, kind_of_depacketizer, DepacketizerStep, head_in, tail_in}
use Rattle.codec_payload_buffer.specs.Held.{Held}
use Rattle.codec_payload_codec.specs.Packetizers.{PacketizerState, ComfortNoisePacketizing, TelePacketizing, AmrWbPacketizing, is_quiet, payloads_by}
use Rattle.codec_payload_payloader.specs.Packets.{Packet}
use Rattle.codec_payload_buffer_runs.specs.Schedule.{payloads_of}
use Rattle.codec_payload_buffer_runs.specs.LawfulUnits.{StartsWithHead, payloads_held, payloads_sent, IsLawful}
use Rattle.codec_payload_buffer_runs.specs.SentStream.{SentUnit, IsReleaseOf}
use Rattle.codec_payload_buffer.specs.Steps.{Unpacked, Unpacks, nothing_unpacked}
use Rattle.codec_payload_buffer_runs.specs.Units.{canonical_units, each_whole, is_readable, bytes_of_frame, units_by}

-- a payload begins and ends a unit, and carries these bytes
pub record IsCarried (kind : DepacketizerKind) (payload bytes : List ℕ) : Type 0 where
  pub head : head_in kind payload ≡ true
  pub tail : (marker : Bool) → tail_in kind marker payload ≡ true
  pub quiet : is_quiet kind ≡ true
  pub gives : (d : DepacketizerState) (extra : CodecExtra) (one : Result (Unit {0}) PacketError) (e : DepacketizerState) (out' : List ℕ) (extra' : CodecExtra) → kind_of_depacketizer d ≡ kind
      → DepacketizerStep d payload [] extra one e out' extra'
      → (kind_of_depacketizer e ≡ kind) × MatchResult one (λ _. out' ≡ bytes) (λ fault. fault ≡ faults.OutOfMemory)

-- a unit of one packet
abbrev pub one_packet : List ℕ → Packet → SentUnit
one_packet bytes q = record { parts = bytes ∷ []; packets = q ∷ []; id = None }

-- no packet is missing before a nonempty end of one packet
pub only_whole : (q : Packet) (missing rest : List Packet) (kind : DepacketizerKind) → missing ++ rest ≡ q ∷ [] → StartsWithHead kind rest → (missing ≡ []) × (rest ≡ q ∷ [])
only_whole q [] rest kind e head = (refl, e)
only_whole q (m ∷ []) [] kind e head = absurd head
only_whole q (m ∷ []) (r ∷ rs) kind e head = absurd (cc)
only_whole q (m ∷ n ∷ ms) rest kind e head = absurd (cc)

pub one_held : (ps : List Held) (payload : List ℕ) → payloads_held ps ≡ payload ∷ [] → (p : Held) × (ps ≡ p ∷ []) × (p.bytes ≡ payload)
one_held [] payload e = absurd (cc)
one_held (p ∷ []) payload e = (p, refl, cc)
one_held (p ∷ q ∷ ps) payload e = absurd (cc)

given_one : (bytes : List ℕ) (q : Packet) (missing : List Packet) (kind : DepacketizerKind) (answer : Result Unpacked PacketError) (e : DepacketizerState) → missing ≡ []
    → (one : Result (Unit {0}) PacketError) (mid : DepacketizerState) (v : Unpacked) → (kind_of_depacketizer mid ≡ kind) × MatchResult one (λ _. v.bytes ≡ bytes) (λ fault. fault ≡ faults.OutOfMemory)
    → MatchResult one (λ _. (answer ≡ Ok v) × (e ≡ mid)) (λ fault. (answer ≡ Err fault) × (e ≡ mid))
    → (kind_of_depacketizer e ≡ kind) × MatchResult answer (λ unpacked. IsReleaseOf false (one_packet bytes q) missing unpacked.bytes) (λ fault. fault ≡ faults.OutOfMemory)
given_one bytes q missing kind answer e none (Ok u) mid v step rest = (
  ap kind_of_depacketizer rest.1 ∙ step.0,
  subst (λ (a : Result Unpacked PacketError). MatchResult a (λ unpacked. IsReleaseOf false (one_packet bytes q) missing unpacked.bytes) (λ fault. fault ≡ faults.OutOfMemory)) (sym rest.0)
      (inl (none, step.1 ∙ sym (append-nil bytes))),
)
given_one bytes q missing kind answer e none (Err f) mid v step rest = (
  ap kind_of_depacketizer rest.1 ∙ step.0,
  subst (λ (a : Result Unpacked PacketError). MatchResult a (λ unpacked. IsReleaseOf false (one_packet bytes q) missing unpacked.bytes) (λ fault. fault ≡ faults.OutOfMemory)) (sym rest.0) step.1,
)

pub lawful_one : (kind : DepacketizerKind) (bytes : List ℕ) (q : Packet) → IsCarried kind q.payload bytes → IsLawful kind false (one_packet bytes q)
lawful_one kind bytes q carried = record {
  ends = carried.tail q.marker;
  starts = carried.head;
  gives = λ missing rest whole head ps same d answer e is gives.
      let only = only_whole q missing rest kind whole head in
      let found = one_held ps q.payload (same ∙ ap payloads_sent only.1) in
      let one = subst (λ (hs : List Held). Unpacks d hs nothing_unpacked answer e) found.1 gives in
      let step = subst (λ (payload : List ℕ). DepacketizerStep d payload [] (nothing_unpacked).extra one.0 one.1 one.2.bytes one.2.extra) found.2 one.3 in
      given_one bytes q missing kind answer e only.0 one.0 one.1 one.2 (carried.gives d (nothing_unpacked).extra one.0 one.1 one.2.bytes one.2.extra is step) one.4;
  tells = λ missing rest whole head ps same d unpacked e is gives. quiet_tells kind carried.quiet ps d unpacked e is gives;
}

-- the condition on a codec of such units for a frame: no packets and no units, or one of each
abbrev pub OneOrNone : PacketizerState → ℕ → List ℕ → List (List ℕ) → Type 0
OneOrNone packetizer mtu frame payloads =
    ((payloads ≡ []) × (canonical_units packetizer mtu frame ≡ []))
    ⊎ ((payload : List ℕ) × (bytes : List ℕ) × (payloads ≡ payload ∷ []) × (canonical_units packetizer mtu frame ≡ (bytes ∷ []) ∷ [])
    × (is_readable packetizer frame ≡ true → IsCarried (payloads_by packetizer) payload bytes))

-- none of a frame that is skipped or refused, and all of any other
pub none_skipped : (skips : Bool) (refusal : Option PacketError) (units : List (List (List ℕ))) → skips ≡ true → units_by skips refusal units ≡ []
none_skipped skips refusal units is = rw is refl

pub none_refused : (skips : Bool) (refusal : Option PacketError) (fault : PacketError) (units : List (List (List ℕ))) → skips ≡ false → refusal ≡ Some fault → units_by skips refusal units ≡ []
none_refused skips refusal fault units is refused = rw (is, refused) refl

pub all_sent : (skips : Bool) (refusal : Option PacketError) (units : List (List (List ℕ))) → skips ≡ false → refusal ≡ None → units_by skips refusal units ≡ units
all_sent skips refusal units is taken = rw (is, taken) refl

-- an answer depends on what is skipped and refused; nothing is sent for either
pub by_answer : (skips : Bool) (refusal : Option PacketError) (Sends : List (List ℕ) → Type 0) (answer : Result (List (List ℕ)) PacketError)
    → AnswersBy skips refusal Sends answer → answer ≢ Err faults.OutOfMemory
    → (P : List (List ℕ) → Type 0) → (skips ≡ true → P []) → ((fault : PacketError) → skips ≡ false → refusal ≡ Some fault → P [])
    → ((packets : List (List ℕ)) → skips ≡ false → refusal ≡ None → Sends packets → P packets) → P (payloads_of answer)
by_answer true refusal Sends answer is found P skipped refused sent = subst (λ (a : Result (List (List ℕ)) PacketError). P (payloads_of a)) (sym is) (skipped refl)
by_answer false (Some fault) Sends answer is found P skipped refused sent = subst (λ (a : Result (List (List ℕ)) PacketError). P (payloads_of a)) (sym is) (refused fault refl refl)
by_answer false None Sends (Ok packets) is found P skipped refused sent = sent packets refl refl is
by_answer false None Sends (Err fault) is found P skipped refused sent = absurd (found (ap Err is))

-- comfort noise
noise_given : (d : DepacketizerState) (b : ℕ) (bs : List ℕ) (extra : CodecExtra) (one : Result (Unit {0}) PacketError) (e : DepacketizerState) (out' : List ℕ)
    (extra' : CodecExtra) → kind_of_depacketizer d ≡ ComfortNoisePayloads
    → DepacketizerStep d (b ∷ bs) [] extra one e out' extra' → (kind_of_depacketizer e ≡ ComfortNoisePayloads) × MatchResult one (λ _. out' ≡ b ∷ bs) (λ fault. fault ≡ faults.OutOfMemory)
noise_given ComfortNoiseDepacketizing b bs extra (Ok _) e out' extra' is step = (ap kind_of_depacketizer step.1, step.0.0)
noise_given ComfortNoiseDepacketizing b bs extra (Err fault) e out' extra' is step = (ap kind_of_depacketizer step.1, step.0.0)
noise_given d b bs extra one e out' extra' is step = absurd (cc)

noise_carried : (b : ℕ) (bs : List ℕ) → IsCarried ComfortNoisePayloads (b ∷ bs) (b ∷ bs)
noise_carried b bs = record { head = refl; tail = λ marker. refl; quiet = refl; gives = λ d extra one e out' extra' is step. noise_given d b bs extra one e out' extra' is step }

pub noise_units : (mtu : ℕ) (frame : List ℕ) (answer : Result (List (List ℕ)) PacketError) → AnswersWhole mtu frame answer → answer ≢ Err faults.OutOfMemory
    → OneOrNone ComfortNoisePacketizing mtu frame (payloads_of answer)
noise_units mtu frame answer is found =
    by_answer (is_empty frame) (whole_refusal mtu frame) (λ packets. packets ≡ frame ∷ []) answer is found (OneOrNone ComfortNoisePacketizing mtu frame)
    (λ skips. inl (refl, none_skipped (is_empty frame) (whole_refusal mtu frame) (each_whole (frame ∷ [])) skips))
    (λ fault sent refused. inl (refl, none_refused (is_empty frame) (whole_refusal mtu frame) fault (each_whole (frame ∷ [])) sent refused))
    (λ packets sent taken is. inr (frame, frame, is, all_sent (is_empty frame) (whole_refusal mtu frame) (each_whole (frame ∷ [])) sent taken, λ _. carried frame sent))
  where
    carried : (frame : List ℕ) → is_empty frame ≡ false → IsCarried ComfortNoisePayloads frame frame
    carried [] some = absurd (cc)
    carried (b ∷ bs) some = noise_carried b bs

-- telephone events
first_given : (rate : ℕ) (payload out' : List ℕ) (extra' : CodecExtra) → TakesFirst rate payload [] out' extra' → out' ≡ take 4 payload
first_given rate (a ∷ b ∷ c ∷ d ∷ rest) out' extra' takes = takes.0
first_given rate [] out' extra' takes = absurd takes
first_given rate (a ∷ []) out' extra' takes = absurd takes
first_given rate (a ∷ b ∷ []) out' extra' takes = absurd takes
first_given rate (a ∷ b ∷ c ∷ []) out' extra' takes = absurd takes

tele_given : (d : DepacketizerState) (payload : List ℕ) (extra : CodecExtra) (one : Result (Unit {0}) PacketError) (e : DepacketizerState) (out' : List ℕ) (extra' : CodecExtra)
    → are_reports payload ≡ true → kind_of_depacketizer d ≡ TelePayloads
    → DepacketizerStep d payload [] extra one e out' extra' → (kind_of_depacketizer e ≡ TelePayloads) × MatchResult one (λ _. out' ≡ take 4 payload) (λ fault. fault ≡ faults.OutOfMemory)
tele_given (TeleDepacketizing rate) payload extra (Ok _) e out' extra' whole is step = (ap kind_of_depacketizer step.1, first_given rate payload out' extra' step.0.1)
tele_given (TeleDepacketizing rate) payload extra (Err fault) e out' extra' whole is step = (ap kind_of_depacketizer step.1, step.0.2 whole)
tele_given d payload extra one e out' extra' whole is step = absurd (cc)

tele_carried : (payload : List ℕ) → are_reports payload ≡ true → IsCarried TelePayloads payload (take 4 payload)
tele_carried payload whole = record { head = refl; tail = λ marker. refl; quiet = refl; gives = λ d extra one e out' extra' is step. tele_given d payload extra one e out' extra' whole is step }

pub tele_units : (mtu : ℕ) (frame : List ℕ) (answer : Result (List (List ℕ)) PacketError) → AnswersWhole mtu frame answer → answer ≢ Err faults.OutOfMemory
    → OneOrNone TelePacketizing mtu frame (payloads_of answer)
tele_units mtu frame answer is found =
    by_answer (is_empty frame) (whole_refusal mtu frame) (λ packets. packets ≡ frame ∷ []) answer is found (OneOrNone TelePacketizing mtu frame)
    (λ skips. inl (refl, none_skipped (is_empty frame) (whole_refusal mtu frame) (each_whole (take 4 frame ∷ [])) skips))
    (λ fault sent refused. inl (refl, none_refused (is_empty frame) (whole_refusal mtu frame) fault (each_whole (take 4 frame ∷ [])) sent refused))
    (λ packets sent taken is. inr (
      frame,
      take 4 frame,
      is,
      all_sent (is_empty frame) (whole_refusal mtu frame) (each_whole (take 4 frame ∷ [])) sent taken,
      λ whole. tele_carried frame (reports sent whole),
    ))
  where
    reports : is_empty frame ≡ false → (is_empty frame || are_reports frame) ≡ true → are_reports frame ≡ true
    reports some whole = rw some at whole

-- AMR-WB
amr_wb_step : (octet : Bool) (packet frames : List ℕ) (extra : CodecExtra) (one : Result (Unit {0}) PacketError) (out' : List ℕ) (extra' : CodecExtra) → received octet (bits_of packet) ≡ Ok frames
    → AmrWbStep octet packet [] extra one out' extra' → MatchResult one (λ _. out' ≡ bytes_of frames) (λ fault. fault ≡ faults.OutOfMemory)
amr_wb_step octet packet frames extra (Ok _) out' extra' reads (given, is, bytes, same) = let e : given ≡ frames = cc in bytes ∙ ap bytes_of e
amr_wb_step octet packet frames extra (Err fault) out' extra' reads step = (subst (IsRefusal fault packet) reads step.0).0

amr_wb_given : (d : DepacketizerState) (octet : Bool) (packet frames : List ℕ) (extra : CodecExtra) (one : Result (Unit {0}) PacketError) (e : DepacketizerState) (out' : List ℕ)
    (extra' : CodecExtra) → received octet (bits_of packet) ≡ Ok frames → kind_of_depacketizer d ≡ AmrWbPayloads octet
    → DepacketizerStep d packet [] extra one e out' extra' → (kind_of_depacketizer e ≡ AmrWbPayloads octet) × MatchResult one (λ _. out' ≡ bytes_of frames) (λ fault. fault ≡ faults.OutOfMemory)
amr_wb_given (AmrWbDepacketizing own) octet packet frames extra one e out' extra' reads is step =
    let same : own ≡ octet = cc in
    (ap kind_of_depacketizer step.1 ∙ is, amr_wb_step own packet frames extra one out' extra' (ap (λ (o : Bool). received o (bits_of packet)) same ∙ reads) step.0)
amr_wb_given d octet packet frames extra one e out' extra' reads is step = absurd (cc)

amr_wb_carried : (octet : Bool) (packet frames : List ℕ) → received octet (bits_of packet) ≡ Ok frames → IsCarried (AmrWbPayloads octet) packet (bytes_of frames)
amr_wb_carried octet packet frames reads = record {
  head = refl;
  tail = λ marker. refl;
  quiet = refl;
  gives = λ d extra one e out' extra' is step. amr_wb_given d
      octet packet frames extra one e out' extra' reads is step;
}

-- the one packet of a stored frame
abbrev SendsFrame : Bool → Option Frame → List (List ℕ) → Type 0
SendsFrame octet o packets = (packet : List ℕ) × (packets ≡ packet ∷ []) × IsCarried (AmrWbPayloads octet) packet (bytes_of_frame o)

frame_carried : (octet : Bool) (mtu : ℕ) (frame : List ℕ) (o : Option Frame) (packets : List (List ℕ)) → stored frame ≡ o → IsPacketOf octet mtu o packets → SendsFrame octet o packets
frame_carried octet mtu frame None packets stores is = absurd is
frame_carried octet mtu frame (Some f) packets stores (packet, one, spelled, fits) =
    (packet, one, amr_wb_carried octet packet (canonical f) (ap (received octet) spelled ∙ received_again octet f (stored_is_frame frame f stores)))

pub amr_wb_units : (octet : Bool) (mtu : ℕ) (frame : List ℕ) (answer : Result (List (List ℕ)) PacketError) → AnswersAmrWb octet mtu frame answer
    → answer ≢ Err faults.OutOfMemory → OneOrNone (AmrWbPacketizing octet) mtu frame (payloads_of answer)
amr_wb_units octet mtu frame answer is found =
    let units = each_whole (bytes_of_frame (stored frame) ∷ []) in
    by_answer (amr_wb_is_skipped frame) (amr_wb_refusal octet mtu frame) (λ packets. IsPacketOf octet mtu (stored frame) packets) answer is found (OneOrNone (AmrWbPacketizing octet) mtu frame)
    (λ skips. inl (refl, none_skipped (amr_wb_is_skipped frame) (amr_wb_refusal octet mtu frame) units skips))
    (λ fault sent refused. inl (refl, none_refused (amr_wb_is_skipped frame) (amr_wb_refusal octet mtu frame) fault units sent refused))
    (λ packets sent taken is.
    let one = frame_carried octet mtu frame (stored frame) packets refl is in
    inr (one.0, bytes_of_frame (stored frame), one.1, all_sent (amr_wb_is_skipped frame) (amr_wb_refusal octet mtu frame) units sent taken, λ _. one.2))
