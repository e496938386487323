-- The round trip that reports measured.
use Rattle.std.proofs.Common.{◌≡◌, refl, ℕ, List, [], ◌∷◌, Option, Some, None}
use Rattle.codec_payload_session_requests.specs.Requests.{Asking, reported_by}
use Rattle.codec_payload_session_stream.specs.Trips.{AllKnow, Knows, with_round_trips}
use Rattle.codec_payload_session_stream.specs.declared.stream.StreamState.{StreamState}

knows : (round_trip : ℕ) (o : Option Asking) → Knows round_trip (reported_by (Some round_trip) o)
knows round_trip None = tt
knows round_trip (Some a) = refl

pub all_know : (round_trip : ℕ) (ss : List StreamState) → AllKnow round_trip (with_round_trips (Some round_trip) ss)
all_know round_trip [] = tt
all_know round_trip (s ∷ ss) = (knows round_trip s.feedback, all_know round_trip ss)
