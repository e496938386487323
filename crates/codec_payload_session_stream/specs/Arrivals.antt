-- What a stream answers to a datagram.
use Rattle.std.specs.Prelude.{◌≡◌, ℕ, IsErr, Bool, true, false, Result, Ok, Err}
use Rattle.std.specs.declared.alloc.AllocError.{AllocError}
use Rattle.codec_payload_jitter.specs.declared.outcome.Outcome.{Outcome}
use Rattle.codec_payload_receiver.specs.declared.receiver.ReceiveError.{ReceiveError}
use Rattle.codec_payload_session_stream.specs.declared.arrival.Arrival.{Arrival}
use Rattle.codec_payload_session_stream.specs.declared.arrival.Arrival.TheVariants as arrivals

-- ---- a datagram for a stream that exists

-- the outcome of a datagram that a receiver accepted or dropped, or the fault for which it refused the datagram
abbrev pub arrival_of : (ssrc payload_type : ℕ) → Result Outcome ReceiveError → Arrival
arrival_of ssrc payload_type (Ok outcome) = arrivals.Stream ssrc payload_type outcome
arrival_of ssrc payload_type (Err fault) = arrivals.Faulty ssrc payload_type fault

-- if memory runs out for the datagram, there is an error instead of an answer
abbrev pub Arrives : Bool → Arrival → Result Arrival AllocError → Type 0
Arrives false arrival answer = answer ≡ Ok arrival
Arrives true arrival answer = IsErr answer
