-- The calls on a session: datagrams in, events out.
use denote.RawPtr.{Ptr}
use Rattle.std.specs.Prelude.{◌≡◌, ℕ, Bool, true, false, List, [], Option, Some, None, Result, Ok, Err, length}
use Rattle.std.specs.Global.{Vec}
use Rattle.std.specs.declared.alloc.AllocError.{AllocError}
use Rattle.codec_payload_base.specs.declared.wire.Ticks.{Ticks}
use Rattle.codec_payload_core.specs.Faults.{fault_number}
use Rattle.codec_payload_core.specs.Release.{Release}
use Rattle.codec_payload_core.specs.declared.buffer.RtpMeta.{RtpMeta}
use Rattle.codec_payload_handle.specs.Slots.{latest_packets}
use Rattle.codec_payload_handle.specs.Units.{TellsUnit, TellsValues, no_unit}
use Rattle.codec_payload_handle.specs.declared.extension_values.ExtensionValues.{ExtensionValues as CValues}
use Rattle.codec_payload_handle.specs.declared.object.PortSession.{PortSession}
use Rattle.codec_payload_handle.specs.declared.unit.Unit.{Unit as CUnit}
use Rattle.codec_payload_jitter.specs.declared.outcome.Outcome.{Outcome}
use Rattle.codec_payload_session.specs.Accepting.{Accepts, time_for}
use Rattle.codec_payload_session.specs.Polls.{Polls}
use Rattle.codec_payload_session.specs.Ports.{Session}
use Rattle.codec_payload_session_stream.specs.declared.arrival.Arrival.{Arrival}
use Rattle.codec_payload_session_stream.specs.declared.arrival.Arrival.TheVariants as arrivals
use Rattle.codec_payload_session_stream.specs.Units.{Event}
use Rattle.codec_payload_session_stream.specs.declared.events.Event.TheVariants as events
use Rattle.codec_payload_session_stream.specs.declared.stream.Ending.{Ending}
use Rattle.codec_payload_session_stream.specs.declared.stream.Ending.TheVariants as endings
use Rattle.codec_payload_receiver.specs.declared.receiver.ReceiveError.{ReceiveError}
use Rattle.codec_payload_c_receiving.specs.StreamReceivers.{Tells, time_or}
use Rattle.codec_payload_c_receiving.specs.declared.session.Arrival.{Arrival as CArrival}
use Rattle.codec_payload_c_receiving.specs.declared.session.Event.{Event as CEvent}
use Rattle.std_alloc.specs.Vec.{vec_ptr}

-- ---- datagrams

-- a datagram that no stream received: all other fields are 0
abbrev pub arrived_as : ℕ → CArrival
arrived_as kind = record { kind = kind; ssrc = 0; status = 0; outcome = 0; payload_type = 0 }

-- the answer of a stream, as a receiver reports it, with outcome 0 if there is an error
abbrev pub TellsOfStream : (ssrc payload_type : ℕ) → Result Outcome ReceiveError → CArrival → Type 0
TellsOfStream ssrc payload_type answer a = (a.kind ≡ 0) × (a.ssrc ≡ ssrc) × (a.payload_type ≡ payload_type) × Tells answer a.status 0 a.outcome

-- what was done with a datagram
abbrev pub TellsArrival : Arrival → CArrival → Type 0
TellsArrival (arrivals.Stream ssrc payload_type outcome) a = TellsOfStream ssrc payload_type (Ok outcome) a
TellsArrival (arrivals.Faulty ssrc payload_type fault) a = TellsOfStream ssrc payload_type (Err fault) a
TellsArrival arrivals.Rtcp a = a ≡ arrived_as 1
TellsArrival arrivals.Malformed a = a ≡ arrived_as 2
TellsArrival arrivals.Unknown a = a ≡ arrived_as 3
TellsArrival arrivals.Refused a = a ≡ arrived_as 4
TellsArrival arrivals.Unassociated a = a ≡ arrived_as 5

-- the status of an answer, and what was done with the datagram, if it has one
abbrev pub TellsAnswer : Result Arrival AllocError → ℕ → (before after : CArrival) → Type 0
TellsAnswer (Ok arrival) status before after = (status ≡ 0) × TellsArrival arrival after
TellsAnswer (Err e) status before after = (status ≡ 17) × (after ≡ before)

-- the session takes the datagram at that time; for the transport it arrived at its own time in microseconds, if that is given
pub record TakesDatagram (micros : Option ℕ) (r : PortSession) (now : ℕ) (bytes : List ℕ) (answer : Result Arrival AllocError) (s : PortSession) : Type 0 where
  pub at : Ticks
  pub at_is : at.0 ≡ now
  pub receives : Accepts (time_for micros at r.session) at bytes r.session answer s.session
  pub lent : s.lent ≡ r.lent
  pub taken : s.taken ≡ r.taken

-- a datagram is received; for the transport it arrived at its own time in microseconds, if that is given
pub record ReceivesDatagram (micros : Option ℕ) (r : PortSession) (now : ℕ) (bytes : List ℕ) (status : ℕ) (before after : CArrival) (s : PortSession) : Type 0 where
  pub answer : Result Arrival AllocError
  pub takes : TakesDatagram micros r now bytes answer s
  pub tells : TellsAnswer answer status before after

-- ---- events

-- the numbers of reasons to end
abbrev pub ending_number : Ending → ℕ
ending_number endings.Bye = 0
ending_number endings.Timeout = 1
ending_number endings.ByCall = 2
ending_number endings.Changed = 3

-- the description of a unit, with its extended RTP time, and whether it is decodable and a keyframe
abbrev pub TellsJudgedBy : Option ℕ → Bool → Bool → Release → CUnit → Type 0
TellsJudgedBy time decodable keyframe u unit =
    TellsUnit u (record unit { rtp_time = u.time.numer; decodable = true; keyframe = false })
    × (unit.rtp_time ≡ time_or u.time.numer time) × (unit.decodable ≡ decodable) × (unit.keyframe ≡ keyframe)

-- an event of a stream without an error or a reason to end, with its bytes at this place
abbrev pub event_with : (kind ssrc payload_type : ℕ) → (at : Ptr) → CUnit → CEvent
event_with kind ssrc payload_type at unit =
    record { kind = kind; ssrc = ssrc; status = 0; why = 0; «data» = at; bytes = unit.bytes; payload_type = payload_type; unit = unit }

-- the event of a unit
abbrev pub TellsUnitOf : (ssrc payload_type : ℕ) → (at : Ptr) → (CUnit → Type 0) → CEvent → Type 0
TellsUnitOf ssrc payload_type at Told e = (e ≡ event_with 1 ssrc payload_type at e.unit) × Told e.unit

-- the bytes of an RTCP packet; none if memory ran out for it
abbrev pub bytes_sent : Result (Vec ℕ) AllocError → List ℕ
bytes_sent (Ok packet) = packet.items
bytes_sent (Err e) = []

-- the description of a packet of telephone events: its RTP time, its marker, and how many bytes its payload has
abbrev pub telephone_unit : ℕ → Bool → ℕ → CUnit
telephone_unit rtp_time marker bytes = record no_unit { rtp_time = rtp_time; bytes = bytes; starts_talk_spurt = marker }

-- the event of an RTCP packet of this many bytes
abbrev pub packet_event : (kind ssrc payload_type : ℕ) → (at : Ptr) → ℕ → CEvent
packet_event kind ssrc payload_type at bytes = record (event_with kind ssrc payload_type at no_unit) { bytes = bytes }

-- the description of an event with its bytes at this place
abbrev pub TellsEvent : (at : Ptr) → Event → CEvent → Type 0
TellsEvent at (events.Begun ssrc payload_type) e = e ≡ event_with 0 ssrc payload_type at no_unit
TellsEvent at (events.Unit ssrc payload_type time decodable keyframe (Ok u)) e = TellsUnitOf ssrc payload_type at (TellsJudgedBy time decodable keyframe u) e
TellsEvent at (events.Unit ssrc payload_type time decodable keyframe (Err fault)) e = e ≡ event_with 1 ssrc payload_type at no_unit
TellsEvent at (events.TooLarge ssrc payload_type unit) e = e ≡ record (event_with 2 ssrc payload_type at no_unit) { status = 76 }
TellsEvent at (events.Refused ssrc payload_type fault) e = e ≡ record (event_with 2 ssrc payload_type at no_unit) { status = fault_number fault }
TellsEvent at (events.Feedback ssrc payload_type packet) e = e ≡ packet_event 4 ssrc payload_type at (length (bytes_sent packet))
TellsEvent at (events.Telephone ssrc payload_type time marker payload) e =
    e ≡ event_with 6 ssrc payload_type at (telephone_unit time marker (length payload.items))
TellsEvent at (events.Report packet) e = e ≡ packet_event 5 0 0 at (length (bytes_sent packet))
TellsEvent at (events.TransportFeedback packet) e = e ≡ packet_event 7 0 0 at (length (bytes_sent packet))
TellsEvent at (events.Ended ssrc payload_type why) e = e ≡ record (event_with 3 ssrc payload_type at no_unit) { why = ending_number why }

-- memory ran out for the unit or the RTCP packet of the event
abbrev pub is_no_memory : Event → Bool
is_no_memory (events.Begun ssrc payload_type) = false
is_no_memory (events.Unit ssrc payload_type time decodable keyframe (Ok u)) = false
is_no_memory (events.Unit ssrc payload_type time decodable keyframe (Err e)) = true
is_no_memory (events.TooLarge ssrc payload_type unit) = false
is_no_memory (events.Refused ssrc payload_type fault) = false
is_no_memory (events.Feedback ssrc payload_type (Ok packet)) = false
is_no_memory (events.Feedback ssrc payload_type (Err e)) = true
is_no_memory (events.Telephone ssrc payload_type time marker payload) = false
is_no_memory (events.Report (Ok packet)) = false
is_no_memory (events.Report (Err e)) = true
is_no_memory (events.TransportFeedback (Ok packet)) = false
is_no_memory (events.TransportFeedback (Err e)) = true
is_no_memory (events.Ended ssrc payload_type why) = false

-- the bytes of the event: of its unit, of its RTCP packet, or of its telephone events
abbrev pub bytes_in : Event → List ℕ
bytes_in (events.Begun ssrc payload_type) = []
bytes_in (events.Unit ssrc payload_type time decodable keyframe (Ok u)) = u.bytes
bytes_in (events.Unit ssrc payload_type time decodable keyframe (Err e)) = []
bytes_in (events.TooLarge ssrc payload_type unit) = []
bytes_in (events.Refused ssrc payload_type fault) = []
bytes_in (events.Feedback ssrc payload_type packet) = bytes_sent packet
bytes_in (events.Telephone ssrc payload_type time marker payload) = payload.items
bytes_in (events.Report packet) = bytes_sent packet
bytes_in (events.TransportFeedback packet) = bytes_sent packet
bytes_in (events.Ended ssrc payload_type why) = []

-- a poll of the session at that time
abbrev pub PollsAt : ℕ → Session → Option Event → Session → Type 0
PollsAt now s answer t = (at : Ticks) × (at.0 ≡ now) × Polls at s answer t

-- `taken`: the packets of the latest unit so far. Status 17: memory ran out for the unit or the request, and the session keeps it.
-- Status 0: the event is described, and its bytes are where the description says: they are the bytes that the session lends, in its
-- own memory.
abbrev pub Hands : (no_memory : Bool) → Event → (status : ℕ) → (before after : CEvent) → (taken : Option (List RtpMeta)) → PortSession → Type 0
Hands true next status before after taken s = (status ≡ 17) × (after ≡ before) × (s.taken ≡ taken)
Hands false next status before after taken s =
    (status ≡ 0) × TellsEvent (vec_ptr s.lent) next after × (s.lent.items ≡ bytes_in next) × (s.taken ≡ latest_packets (Some next) taken)

-- Status 32: there is no event, and its description is unchanged.
abbrev pub HandsOver : Option Event → (status : ℕ) → (before after : CEvent) → (taken : Option (List RtpMeta)) → PortSession → Type 0
HandsOver None status before after taken s = (status ≡ 32) × (after ≡ before) × (s.taken ≡ taken)
HandsOver (Some next) status before after taken s = Hands (is_no_memory next) next status before after taken s

-- the session is polled, and its event is handed over
pub record PollsEvent (now : ℕ) (r : PortSession) (status : ℕ) (before after : CEvent) (s : PortSession) : Type 0 where
  pub next : Option Event
  pub polls : PollsAt now r.session next s.session
  pub hands : HandsOver next status before after r.taken s

-- the values of the latest popped unit, which has these packets
abbrev pub TellsTaken : Option (List RtpMeta) → ℕ → (before after : CValues) → Type 0
TellsTaken None status before after = (status ≡ 32) × (after ≡ before)
TellsTaken (Some metas) status before after = (status ≡ 0) × TellsValues metas after
