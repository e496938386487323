-- A session, with a counter for each result of a datagram, and its packets of telephone events.
use Rattle.std.specs.Prelude.{◌≡◌, ◌⊎◌, ◌≤◌, IsErr, ℕ, ◌+◌, ◌%◌, ◌^◌, ◌==◌, Bool, true, false, List, [], ◌∷◌, Option, Some, None, Result, Ok, Err, length, slice_get, slice_set}
use Rattle.std.specs.List.{position}
use Rattle.std.specs.Option.{option_map}
use Rattle.std.specs.declared.alloc.AllocError.{AllocError}
use Rattle.codec_payload_base.specs.declared.wire.Ticks.{Ticks}
use Rattle.codec_payload_feedback.specs.Transport.{Reporter}
use Rattle.codec_payload_feedback_xr.specs.Exchange.{no_exchange}
use Rattle.codec_payload_jitter.specs.Receiving.{next}
use Rattle.codec_payload_session.specs.Arrivals.{Port, TakesIn, left_where}
use Rattle.codec_payload_session_formats.specs.Checks.{fault_of}
use Rattle.codec_payload_session_stream.specs.Reports.{block_of, reported_by}
use Rattle.codec_payload_session_stream.specs.Streams.{IsInfo, is_former, trips_where, waiting_where}
use Rattle.codec_payload_session_stream.specs.Telephone.{MayLackMemory, Queue, QueuesIf, empty_queue, is_without_media, telephone_at}
use Rattle.codec_payload_session_requests.specs.Transports.{reporter_for, restarted_if}
use Rattle.codec_payload_jitter.specs.declared.waiting.WaitLimits.{WaitLimits}
use Rattle.codec_payload_rtcp.specs.declared.items.ReportBlock.{ReportBlock}
use Rattle.codec_payload_receiver.specs.Sessions.{Session as Receiver}
use Rattle.codec_payload_session_formats.specs.declared.checks.SessionSettingsError.{SessionSettingsError}
use Rattle.codec_payload_session_formats.specs.declared.formats.SessionSettings.{SessionSettings}
use Rattle.codec_payload_session_stream.specs.declared.arrival.Arrival.{Arrival}
use Rattle.codec_payload_session_stream.specs.declared.arrival.Arrival.TheVariants as arrivals
use Rattle.codec_payload_session.specs.declared.session.ArrivalCounts.{ArrivalCounts}
use Rattle.codec_payload_session.specs.declared.session.SessionCounts.{SessionCounts}
use Rattle.codec_payload_session_formats.specs.declared.names.StreamNames.{StreamNames}
use Rattle.codec_payload_session_stream.specs.declared.stream.Ending.TheVariants as endings
use Rattle.codec_payload_session_stream.specs.declared.stream.StreamInfo.{StreamInfo}
use Rattle.codec_payload_session_stream.specs.declared.stream.StreamState.{StreamState}

-- the settings, the streams, the counters of datagrams, the packets of telephone events that wait, when the next report is due, and the
-- arrivals on the transport, if they are reported
pub record Session : Type 0 where
  pub settings : SessionSettings
  pub port : Port
  pub counts : ArrivalCounts
  pub telephone : Queue
  pub report_due : Option ℕ
  pub transport : Option Reporter

abbrev pub no_port : Port
no_port = record { streams = []; finished = false; ended = 0; last = None; exchange = no_exchange }

abbrev pub no_counts : ArrivalCounts
no_counts = record { received = 0; rtcp = 0; malformed = 0; unknown = 0; refused = 0; unassociated = 0 }

abbrev pub new_session : SessionSettings → Session
new_session settings = record { settings = settings; port = no_port; counts = no_counts; telephone = empty_queue; report_due = None; transport = reporter_for settings }

-- a new session, or the fault of its settings
abbrev pub made_of : Option SessionSettingsError → SessionSettings → Result Session SessionSettingsError
made_of None settings = Ok (new_session settings)
made_of (Some fault) settings = Err fault

-- one more datagram with this result
abbrev pub counted : Arrival → ArrivalCounts → ArrivalCounts
counted arrivals.Rtcp c = record c { received = next c.received; rtcp = next c.rtcp }
counted arrivals.Malformed c = record c { received = next c.received; malformed = next c.malformed }
counted arrivals.Unknown c = record c { received = next c.received; unknown = next c.unknown }
counted arrivals.Refused c = record c { received = next c.received; refused = next c.refused }
counted arrivals.Unassociated c = record c { received = next c.received; unassociated = next c.unassociated }
counted (arrivals.Stream ssrc payload_type outcome) c = record c { received = next c.received }
counted (arrivals.Faulty ssrc payload_type fault) c = record c { received = next c.received }

abbrev pub counted_if : Result Arrival AllocError → ArrivalCounts → ArrivalCounts
counted_if (Ok arrival) c = counted arrival c
counted_if (Err e) c = c

-- how many datagrams the streams took
abbrev pub taken_in : List StreamState → ℕ
taken_in [] = 0
taken_in (s ∷ ss) = s.taken + taken_in ss

-- each received datagram is counted once: as RTCP, malformed, unknown, refused or unassociated, or by the stream that took it,
-- which may have ended; counted modulo 2^64
abbrev pub IsAccountedFor : ArrivalCounts → Port → Type 0
IsAccountedFor c p =
    c.received % 2 ^ 64 ≡ (c.rtcp + c.malformed + c.unknown + c.refused + c.unassociated + p.ended + taken_in p.streams) % 2 ^ 64

-- every datagram is accounted for, and there are at most `max_streams` streams
pub record IsPort (settings : SessionSettings) (p : Port) (c : ArrivalCounts) : Type 0 where
  pub accounted : IsAccountedFor c p
  pub bounded : length p.streams ≤ settings.max_streams

-- and at most 32 packets of telephone events wait; the settings can be met, so each of their formats can begin a stream
pub record IsSession (s : Session) : Type 0 where
  pub usable : fault_of s.settings ≡ None
  pub port : IsPort s.settings s.port s.counts
  pub few : length s.telephone.waiting ≤ 32

-- the streams receive the datagram, and it waits if it is a packet of telephone events that a stream took without media
pub record ReceivesIt (now : Ticks) (bytes : List ℕ) (s : Session) (answer : Result Arrival AllocError) (t : Session) : Type 0 where
  pub port : Port
  pub telephone : Queue
  pub takes : TakesIn s.settings now bytes s.port answer port
  pub queues : QueuesIf (is_without_media answer) (telephone_at s.settings bytes) s.telephone telephone
  pub left : t ≡ record s { port = port; counts = counted_if answer s.counts; telephone = telephone }

-- memory ran out for a packet of telephone events: nothing has changed
pub record LacksMemory (bytes : List ℕ) (s : Session) (answer : Result Arrival AllocError) (t : Session) : Type 0 where
  pub fails : IsErr answer
  pub telephone : MayLackMemory (telephone_at s.settings bytes)
  pub left : t ≡ s

abbrev pub Receives : Ticks → List ℕ → Session → Result Arrival AllocError → Session → Type 0
Receives now bytes s answer t = ReceivesIt now bytes s answer t ⊎ LacksMemory bytes s answer t

-- ---- calls

abbrev pub ends_of : ℕ → ℕ → Session → Session
ends_of ssrc at s = record s { port = record s.port { streams = left_where (λ own. ssrc == own) endings.ByCall at s.port.streams } }

abbrev pub waits_of : ℕ → ℕ → WaitLimits → Session → Session
waits_of ssrc payload_type limits s = record s { port = record s.port { streams = waiting_where ssrc payload_type limits s.port.streams } }

abbrev pub trips_of : ℕ → ℕ → Option ℕ → Session → Session
trips_of ssrc payload_type round_trip s = record s { port = record s.port { streams = trips_where ssrc payload_type round_trip s.port.streams } }

-- the transport begins again
abbrev pub restarts_transport : Session → Session
restarts_transport s = record s { transport = restarted_if s.transport }

-- the stream at a place gives its block; no other stream changes
pub record ReportsOn (place tick_rate now : ℕ) (p : Port) (answer : Option ReportBlock) (q : Port) : Type 0 where
  pub stream : StreamState
  pub there : slice_get p.streams place ≡ Some stream
  pub answers : answer ≡ block_of tick_rate now stream
  pub left : q ≡ record p { streams = slice_set p.streams place (reported_by stream) }

-- without a stream there is no block, and nothing changes
abbrev pub ReportsIf : Option ℕ → (tick_rate now : ℕ) → Port → Option ReportBlock → Port → Type 0
ReportsIf None tick_rate now p answer q = (answer ≡ None) × (q ≡ p)
ReportsIf (Some place) tick_rate now p answer q = ReportsOn place tick_rate now p answer q

abbrev pub everyone : ℕ → Bool
everyone ssrc = true

abbrev pub ends_all : ℕ → Session → Session
ends_all at s = record s { port = record s.port { streams = left_where everyone endings.ByCall at s.port.streams; finished = true } }

abbrev pub counts_with : ArrivalCounts → ℕ → ℕ → SessionCounts
counts_with c ended telephone_dropped = record {
  received = c.received;
  rtcp = c.rtcp;
  malformed = c.malformed;
  unknown = c.unknown;
  refused = c.refused;
  unassociated = c.unassociated;
  ended = ended;
  telephone_dropped = telephone_dropped;
}

-- the received datagrams are the sum of the counters and of the datagrams that the streams took, modulo 2^64
abbrev pub IsSum : SessionCounts → ℕ → Type 0
IsSum c taken = c.received % 2 ^ 64 ≡ (c.rtcp + c.malformed + c.unknown + c.refused + c.unassociated + c.ended + taken) % 2 ^ 64

-- the receiver of the stream at a place
abbrev pub receiver_among : Option ℕ → List StreamState → Option Receiver
receiver_among None streams = None
receiver_among (Some place) streams = option_map (λ stream. stream.receiver) (slice_get streams place)

-- the names of the stream at a place
abbrev pub names_among : Option ℕ → List StreamState → Option StreamNames
names_among None streams = None
names_among (Some place) streams = option_map (λ stream. stream.names) (slice_get streams place)

-- the SSRC of the stream at a place
abbrev pub ssrc_among : Option ℕ → List StreamState → Option ℕ
ssrc_among None streams = None
ssrc_among (Some place) streams = option_map (λ stream. stream.ssrc) (slice_get streams place)

-- the SSRC of the first other stream that is announced and has these names
abbrev pub former_among : ℕ → Option StreamNames → List StreamState → Option ℕ
former_among ssrc None streams = None
former_among ssrc (Some names) streams = ssrc_among (position (is_former ssrc names) streams) streams

abbrev pub MatchInfo : Option StreamState → Option StreamInfo → Type 0
MatchInfo None None = Unit {0}
MatchInfo None (Some i) = ⊥
MatchInfo (Some s) None = ⊥
MatchInfo (Some s) (Some i) = IsInfo s i
