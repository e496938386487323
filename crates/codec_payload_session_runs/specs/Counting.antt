-- Every datagram of a run is counted.
use Rattle.std.specs.Prelude.{◌≡◌, ℕ, ◌+◌, ◌%◌, ◌^◌, Bool, true, false, List, [], ◌∷◌, Result, Ok, Err}
use Rattle.std.specs.declared.alloc.AllocError.{AllocError}
use Rattle.codec_payload_session_stream.specs.declared.arrival.Arrival.{Arrival}
use Rattle.codec_payload_session_stream.specs.declared.arrival.Arrival.TheVariants as arrivals
use Rattle.codec_payload_session.specs.declared.session.SessionCounts.{SessionCounts}
use Rattle.codec_payload_session_runs.specs.SessionRuns.{Call}
use Rattle.codec_payload_session_runs.specs.declared.run.StepAnswer.{StepAnswer}
use Rattle.codec_payload_session_runs.specs.declared.run.StepAnswer.TheVariants as answers

-- a datagram was received: memory did not run out for it, and its arrival is of this kind
abbrev pub arrived_if : (Arrival → Bool) → Result Arrival AllocError → Bool
arrived_if kind (Ok arrival) = kind arrival
arrived_if kind (Err e) = false

abbrev pub answered_with : (Arrival → Bool) → StepAnswer → Bool
answered_with kind (answers.Received arrival) = arrived_if kind arrival
answered_with kind (answers.Polled event) = false
answered_with kind (answers.Reported block) = false
answered_with kind (answers.PairAdded added) = false
answered_with kind (answers.KeyframeAsked asked) = false
answered_with kind answers.Done = false

abbrev pub one_if : Bool → ℕ
one_if true = 1
one_if false = 0

-- how many datagrams of a run had an arrival of this kind
abbrev pub many : (Arrival → Bool) → List Call → ℕ
many kind [] = 0
many kind (c ∷ cs) = one_if (answered_with kind c.answer) + many kind cs

abbrev pub is_any : Arrival → Bool
is_any arrival = true

abbrev pub is_rtcp : Arrival → Bool
is_rtcp arrivals.Rtcp = true
is_rtcp arrivals.Malformed = false
is_rtcp arrivals.Unknown = false
is_rtcp arrivals.Refused = false
is_rtcp arrivals.Unassociated = false
is_rtcp (arrivals.Stream ssrc payload_type outcome) = false
is_rtcp (arrivals.Faulty ssrc payload_type fault) = false

abbrev pub is_malformed : Arrival → Bool
is_malformed arrivals.Rtcp = false
is_malformed arrivals.Malformed = true
is_malformed arrivals.Unknown = false
is_malformed arrivals.Refused = false
is_malformed arrivals.Unassociated = false
is_malformed (arrivals.Stream ssrc payload_type outcome) = false
is_malformed (arrivals.Faulty ssrc payload_type fault) = false

abbrev pub is_unknown : Arrival → Bool
is_unknown arrivals.Rtcp = false
is_unknown arrivals.Malformed = false
is_unknown arrivals.Unknown = true
is_unknown arrivals.Refused = false
is_unknown arrivals.Unassociated = false
is_unknown (arrivals.Stream ssrc payload_type outcome) = false
is_unknown (arrivals.Faulty ssrc payload_type fault) = false

abbrev pub is_refused : Arrival → Bool
is_refused arrivals.Rtcp = false
is_refused arrivals.Malformed = false
is_refused arrivals.Unknown = false
is_refused arrivals.Refused = true
is_refused arrivals.Unassociated = false
is_refused (arrivals.Stream ssrc payload_type outcome) = false
is_refused (arrivals.Faulty ssrc payload_type fault) = false

abbrev pub is_unassociated : Arrival → Bool
is_unassociated arrivals.Rtcp = false
is_unassociated arrivals.Malformed = false
is_unassociated arrivals.Unknown = false
is_unassociated arrivals.Refused = false
is_unassociated arrivals.Unassociated = true
is_unassociated (arrivals.Stream ssrc payload_type outcome) = false
is_unassociated (arrivals.Faulty ssrc payload_type fault) = false

abbrev pub is_taken : Arrival → Bool
is_taken arrivals.Rtcp = false
is_taken arrivals.Malformed = false
is_taken arrivals.Unknown = false
is_taken arrivals.Refused = false
is_taken arrivals.Unassociated = false
is_taken (arrivals.Stream ssrc payload_type outcome) = true
is_taken (arrivals.Faulty ssrc payload_type fault) = true

-- the counters of a session after a run from a new session: each is how often the calls of `receive` answered so, modulo 2^64.
-- The removed streams and the existing ones, which took `held` datagrams, took each datagram that an answer gives to a stream
pub record Counts (calls : List Call) (c : SessionCounts) (held : ℕ) : Type 0 where
  pub received : c.received ≡ many is_any calls % 2 ^ 64
  pub rtcp : c.rtcp ≡ many is_rtcp calls % 2 ^ 64
  pub malformed : c.malformed ≡ many is_malformed calls % 2 ^ 64
  pub unknown : c.unknown ≡ many is_unknown calls % 2 ^ 64
  pub refused : c.refused ≡ many is_refused calls % 2 ^ 64
  pub unassociated : c.unassociated ≡ many is_unassociated calls % 2 ^ 64
  pub taken : (c.ended + held) % 2 ^ 64 ≡ many is_taken calls % 2 ^ 64
  -- no datagram is missing, and none is counted twice
  pub whole :
      many is_any calls
      ≡ many is_rtcp calls + many is_malformed calls + many is_unknown calls + many is_refused calls + many is_unassociated calls + many is_taken calls
