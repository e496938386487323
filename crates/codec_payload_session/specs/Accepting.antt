-- A datagram is recorded for the transport, and then received.
use Rattle.std.specs.Prelude.{◌≡◌, ◌⊎◌, ℕ, ◌/◌, ◌%◌, ◌^◌, true, List, IsErr, Option, Some, None, Result}
use Rattle.std.specs.Option.{is_some}
use Rattle.std.specs.declared.alloc.AllocError.{AllocError}
use Rattle.codec_payload_base.specs.declared.wire.Ticks.{Ticks}
use Rattle.codec_payload_feedback.specs.Transport.{quarters_at}
use Rattle.codec_payload_session.specs.Associations.{Associates}
use Rattle.codec_payload_session.specs.Ports.{Session}
use Rattle.codec_payload_session_requests.specs.Transports.{noted_at}
use Rattle.codec_payload_session_stream.specs.declared.arrival.Arrival.{Arrival}

-- the datagram arrived on the transport at that time, in quarters of a millisecond, if the session reports what arrives there
abbrev pub noted_in : ℕ → List ℕ → Session → Session
noted_in time bytes s = record s { transport = noted_at time bytes s.transport }

-- a time of the session's clock, or of a clock in microseconds, in quarters of a millisecond modulo 2^32
abbrev pub time_for : Option ℕ → Ticks → Session → ℕ
time_for None now s = quarters_at now.0 s.settings.tick_rate
time_for (Some micros) now s = (micros / 250) % 2 ^ 32

-- memory ran out for the arrival on a transport: nothing has changed
pub record LacksArrival (s : Session) (answer : Result Arrival AllocError) (t : Session) : Type 0 where
  pub fails : IsErr answer
  pub reports : is_some s.transport ≡ true
  pub left : t ≡ s

-- the arrival is recorded, and then the session receives the datagram, whatever it does with it
abbrev pub Accepts : ℕ → Ticks → List ℕ → Session → Result Arrival AllocError → Session → Type 0
Accepts time now bytes s answer t = Associates now bytes (noted_in time bytes s) answer t ⊎ LacksArrival s answer t
