-- The suspect packet that is kept, and restarts that the caller takes back.
use Rattle.std.specs.Prelude.{ℕ, ◌==◌, ◌&&◌, Bool, false, Option, Some, None}
use Rattle.std.specs.Option.{option_map}
use Rattle.codec_payload_jitter.specs.Receiving.{Arrival, Receiving, arrival_of}
use Rattle.codec_payload_jitter.specs.declared.jitter.suspect.BeforeRestart.{BeforeRestart}

-- the suspect packet has this sequence number and this RTP time
abbrev pub is_kept_at : ℕ → ℕ → Option Arrival → Bool
is_kept_at low time None = false
is_kept_at low time (Some a) = (a.header.sequence_number == low) && (a.header.timestamp == time)

-- a restart that the caller announced is taken back
abbrev pub taken_back : BeforeRestart → Receiving → Receiving
taken_back b r = record r { ended = b.ended; is_restarting = b.is_restarting; first = b.first; kept = option_map arrival_of b.kept }
