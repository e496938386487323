-- The round trip that reports measured for all streams of a session.
use Rattle.std.specs.Prelude.{◌≡◌, ℕ, List, [], ◌∷◌, map, Option, Some, None}
use Rattle.codec_payload_session_requests.specs.Requests.{Asking, reported_by, round_trip_of}
use Rattle.codec_payload_session_stream.specs.declared.stream.StreamState.{StreamState}

-- the requests of the stream follow this round trip; its waits do once it accepts a packet
abbrev pub with_round_trip : Option ℕ → StreamState → StreamState
with_round_trip round_trip s = record s { feedback = reported_by round_trip s.feedback }

abbrev pub with_round_trips : Option ℕ → List StreamState → List StreamState
with_round_trips round_trip ss = map (with_round_trip round_trip) ss

-- ---- a theorem

-- a stream that requests has this round trip
abbrev pub Knows : ℕ → Option Asking → Type 0
Knows round_trip None = Unit {0}
Knows round_trip (Some a) = round_trip_of (Some a) ≡ Some round_trip

abbrev pub AllKnow : ℕ → List StreamState → Type 0
AllKnow round_trip [] = Unit {0}
AllKnow round_trip (s ∷ ss) = Knows round_trip s.feedback × AllKnow round_trip ss

-- whatever answers to requests came, the round trip that reports measured is that of each stream
abbrev pub ReportedTripsCount : Type 0
ReportedTripsCount = (round_trip : ℕ) (ss : List StreamState) → AllKnow round_trip (with_round_trips (Some round_trip) ss)
