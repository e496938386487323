use Rattle.codec_payload_session_stream.proofs.TripLemmas.{all_know}
use Rattle.codec_payload_session_stream.proofs.trips.reported_trips_count.Goals as goal

pub returns : goal.returns
returns c = all_know
