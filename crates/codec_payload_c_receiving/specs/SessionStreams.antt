-- The streams of a session: counters, what to request, and how long to wait.
use Rattle.std.specs.Prelude.{◌≡◌, ℕ, ◌+◌, ◌%◌, ◌^◌, ◌++◌, nat_lt, if◌then◌else◌, Bool, false, Option, Some, None, List, is_some, length, drop}
use Rattle.std.specs.List.{position}
use Rattle.std.specs.Option.{unwrap_or}
use Rattle.codec_payload_handle.specs.declared.object.PortSession.{PortSession}
use Rattle.codec_payload_jitter.specs.Missing.{missing_numbers}
use Rattle.codec_payload_jitter.specs.declared.waiting.WaitLimits.{WaitLimits}
use Rattle.codec_payload_session.specs.Ports.{receiver_among, taken_in, trips_of, waits_of}
use Rattle.codec_payload_session_requests.specs.Requests.{request_counts_of, round_trip_of}
use Rattle.codec_payload_session_requests.specs.Probes.{probes_of}
use Rattle.codec_payload_session_stream.specs.Streams.{is_of, told_receiver}
use Rattle.codec_payload_session_stream.specs.declared.stream.Stage.{Stage}
use Rattle.codec_payload_session_stream.specs.declared.stream.Stage.TheVariants as stages
use Rattle.codec_payload_session_stream.specs.declared.stream.StreamInfo.{StreamInfo}
use Rattle.codec_payload_session_stream.specs.declared.stream.StreamState.{StreamState}
use Rattle.codec_payload_receiver.specs.Sessions.{Session as Receiver}
use Rattle.codec_payload_c_receiving.specs.Sessions.{ending_number}
use Rattle.codec_payload_handle.specs.Numbers.{given_if}
use Rattle.codec_payload_c_receiving.specs.StreamReceivers.{TellsCounts}
use Rattle.codec_payload_c_receiving.specs.declared.receiver.ReceiverCountsInfo.{ReceiverCountsInfo}
use Rattle.codec_payload_c_receiving.specs.declared.session_streams.SessionCountsInfo.{SessionCountsInfo}
use Rattle.codec_payload_c_receiving.specs.declared.session_streams.SessionStream.{SessionStream}

-- ---- counters

-- the counters of a session; each received datagram is counted once, modulo 2^64
pub record TellsSessionCounts (r : PortSession) (c : SessionCountsInfo) : Type 0 where
  pub received : c.received ≡ r.session.counts.received
  pub rtcp : c.rtcp ≡ r.session.counts.rtcp
  pub malformed : c.malformed ≡ r.session.counts.malformed
  pub unknown : c.unknown ≡ r.session.counts.unknown
  pub refused : c.refused ≡ r.session.counts.refused
  pub unassociated : c.unassociated ≡ r.session.counts.unassociated
  pub ended : c.ended ≡ r.session.port.ended
  pub telephone_dropped : c.telephone_dropped ≡ r.session.telephone.dropped
  pub streams : c.streams ≡ length r.session.port.streams
  pub accounted : c.received % 2 ^ 64 ≡ (c.rtcp + c.malformed + c.unknown + c.refused + c.unassociated + c.ended + taken_in r.session.port.streams) % 2 ^ 64

-- ---- streams

abbrev pub stage_number : Stage → ℕ
stage_number stages.Probation = 0
stage_number stages.Playing = 1
stage_number (stages.Leaving why at) = 2
stage_number (stages.Draining why) = 3

-- the number of the reason to end; 0 if the stream does not end yet
abbrev pub end_reason : Stage → ℕ
end_reason stages.Probation = 0
end_reason stages.Playing = 0
end_reason (stages.Leaving why at) = ending_number why
end_reason (stages.Draining why) = ending_number why

-- when a stream that is leaving ends; 0 in other stages
abbrev pub end_time : Stage → ℕ
end_time stages.Probation = 0
end_time stages.Playing = 0
end_time (stages.Leaving why at) = at
end_time (stages.Draining why) = 0

-- the description of a stream
pub record TellsStream (s : StreamState) (i : SessionStream) : Type 0 where
  pub taken : i.taken ≡ s.taken
  pub bytes : i.bytes ≡ s.bytes
  pub ends_at : i.ends_at ≡ end_time s.stage
  pub ssrc_is : i.ssrc ≡ s.ssrc
  pub stage : i.stage ≡ stage_number s.stage
  pub why : i.why ≡ end_reason s.stage
  pub payload_type : i.payload_type ≡ s.format.payload_type
  pub has_round_trip : i.has_round_trip ≡ is_some (round_trip_of s.feedback)
  pub round_trip : i.round_trip ≡ unwrap_or (round_trip_of s.feedback) 0
  pub numbers_requested : i.numbers_requested ≡ (request_counts_of s.feedback).numbers
  pub keyframes_requested : i.keyframes_requested ≡ (request_counts_of s.feedback).keyframes
  pub counts : TellsCounts (told_receiver s) false i.counts
  pub probes : i.probes ≡ probes_of s.probes

-- the same from what a session says of a stream
pub record DescribesStream (info : StreamInfo) (counts : ReceiverCountsInfo) (i : SessionStream) : Type 0 where
  pub taken : i.taken ≡ info.taken
  pub bytes : i.bytes ≡ info.bytes
  pub ends_at : i.ends_at ≡ end_time info.stage
  pub ssrc_is : i.ssrc ≡ info.ssrc
  pub stage : i.stage ≡ stage_number info.stage
  pub why : i.why ≡ end_reason info.stage
  pub payload_type : i.payload_type ≡ info.payload_type
  pub has_round_trip : i.has_round_trip ≡ is_some info.round_trip
  pub round_trip : i.round_trip ≡ unwrap_or info.round_trip 0
  pub numbers_requested : i.numbers_requested ≡ info.requests.numbers
  pub keyframes_requested : i.keyframes_requested ≡ info.requests.keyframes
  pub counts_are : i.counts ≡ counts
  pub probes : i.probes ≡ info.probes

-- the counters of the receiver of a stream that was removed
pub record HasLastCounts (info : StreamInfo) (c : ReceiverCountsInfo) : Type 0 where
  pub received : c.received ≡ info.counters.received
  pub rtcp : c.rtcp ≡ info.counters.rtcp
  pub malformed : c.malformed ≡ info.counters.malformed
  pub other_streams : c.other_streams ≡ info.counters.other_streams
  pub undecided : c.undecided ≡ info.counters.undecided
  pub no_media : c.no_media ≡ info.counters.packets.no_media
  pub duplicates : c.duplicates ≡ info.counters.packets.duplicates
  pub late : c.late ≡ info.counters.packets.late
  pub suspect : c.suspect ≡ info.counters.packets.suspect
  pub evicted : c.evicted ≡ info.counters.packets.evicted
  pub released : c.released ≡ info.counters.packets.released
  pub left : c.left ≡ info.counters.packets.left
  pub incomplete : c.incomplete ≡ info.counters.packets.incomplete
  pub skipped : c.skipped ≡ info.counters.packets.skipped
  pub refused : c.refused ≡ info.counters.packets.refused
  pub restarts : c.restarts ≡ info.counters.packets.restarts
  pub retransmitted : c.retransmitted ≡ info.counters.packets.retransmitted
  pub recovered : c.recovered ≡ info.counters.packets.recovered
  pub units : c.units ≡ info.counters.packets.units
  pub undecodable : c.undecodable ≡ info.counters.undecodable
  pub too_large : c.too_large ≡ info.counters.too_large
  pub held : c.held ≡ info.held
  pub ssrc : given_if c.has_ssrc c.ssrc ≡ Some info.ssrc
  pub waiting : c.waiting ≡ false

-- the stream that was removed last, if one was; otherwise status 32
abbrev pub TellsLast : Option StreamInfo → ℕ → (before after : SessionStream) → Type 0
TellsLast None status before after = (status ≡ 32) × (after ≡ before)
TellsLast (Some info) status before after = (status ≡ 0) × DescribesStream info after.counts after × HasLastCounts info after.counts

-- a stream, if there is one; otherwise status 32
abbrev pub TellsStreamAt : Option StreamState → ℕ → (before after : SessionStream) → Type 0
TellsStreamAt None status before after = (status ≡ 32) × (after ≡ before)
TellsStreamAt (Some s) status before after = (status ≡ 0) × TellsStream s after

-- the receiver of the stream with this SSRC and payload type
abbrev pub receiver_in : ℕ → ℕ → PortSession → Option Receiver
receiver_in ssrc payload_type r = receiver_among (position (is_of ssrc payload_type) r.session.port.streams) r.session.port.streams

-- the room for numbers, and how many were written, before and after a call
pub record Room : Type 0 where
  pub before : List ℕ
  pub numbers : List ℕ
  pub count_before : ℕ
  pub count : ℕ

-- the missing numbers, as many as there is room for; the rest of the room is unchanged
pub record FillsMissing (r : Receiver) (room : Room) : Type 0 where
  pub count : room.count ≡ length (missing_numbers r.packets (length room.before))
  pub numbers : room.numbers ≡ missing_numbers r.packets (length room.before) ++ drop room.count room.before

-- the missing numbers of a stream, if there is one; otherwise status 32
abbrev pub TellsMissingOf : Option Receiver → ℕ → Room → Type 0
TellsMissingOf None status room = (status ≡ 32) × (room.count ≡ room.count_before) × (room.numbers ≡ room.before)
TellsMissingOf (Some r) status room = (status ≡ 0) × FillsMissing r room

-- whether a keyframe of a stream is needed, if there is one; otherwise status 32
abbrev pub TellsWants : Option Receiver → ℕ → (before after : Bool) → Type 0
TellsWants None status before after = (status ≡ 32) × (after ≡ before)
TellsWants (Some r) status before after = (status ≡ 0) × (after ≡ r.gates.gate.wants)

-- the wait limits of a stream are replaced, if there is one; otherwise status 32, and nothing changes
abbrev pub SetsWaitLimits : Option Receiver → (ssrc payload_type : ℕ) → WaitLimits → PortSession → ℕ → PortSession → Type 0
SetsWaitLimits None ssrc payload_type limits r status s = (status ≡ 32) × (s ≡ r)
SetsWaitLimits (Some _) ssrc payload_type limits r status s = (status ≡ 0) × (s ≡ record r { session = waits_of ssrc payload_type limits r.session })

-- what C says of a round trip: 0 is none
abbrev pub trip_given : ℕ → Option ℕ
trip_given ticks = if nat_lt 0 ticks then Some ticks else None

-- the round trip of a stream is set, if there is one; otherwise status 32, and nothing changes
abbrev pub SetsRoundTrip : Option Receiver → (ssrc payload_type round_trip : ℕ) → PortSession → ℕ → PortSession → Type 0
SetsRoundTrip None ssrc payload_type round_trip r status s = (status ≡ 32) × (s ≡ r)
SetsRoundTrip (Some _) ssrc payload_type round_trip r status s = (status ≡ 0) × (s ≡ record r { session = trips_of ssrc payload_type (trip_given round_trip) r.session })
