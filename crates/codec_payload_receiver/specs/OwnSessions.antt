-- A receiver with a custom depacketizer: how its answers give the units.
use Rattle.std.specs.Prelude.{ℕ, List, Result, ⊤}
use Rattle.codec_payload_base.specs.declared.error.PacketError.{PacketError}
use Rattle.codec_payload_base.specs.declared.interface.CodecExtra.{CodecExtra}
use Rattle.codec_payload_jitter.specs.OwnReceiving.{OwnPopsWith}
use Rattle.codec_payload_jitter.specs.Receiving.{settled, waiting_at}
use Rattle.codec_payload_receiver.specs.Pops.{DropsUnits, Answer}
use Rattle.codec_payload_receiver.specs.Sessions.{Session}

-- what one pop of the jitter buffer answers is the result of the depacketizer's calls
abbrev pub OwnPopsOnce : {B : Type 0} (state : B → List ℕ) (step : B → List ℕ → List ℕ → CodecExtra → Result ⊤ PacketError → List ℕ → List ℕ → CodecExtra → Type 0)
    → ℕ → Session → Answer → Type 0
OwnPopsOnce state step now s answer = OwnPopsWith state step (waiting_at (settled s.packets) now) (settled s.packets) answer

-- so is the answer of a pop of the receiver, after pops whose units are dropped
abbrev pub OwnPopsGated : {B : Type 0} (state : B → List ℕ) (step : B → List ℕ → List ℕ → CodecExtra → Result ⊤ PacketError → List ℕ → List ℕ → CodecExtra → Type 0)
    → ℕ → Session → Answer → Type 0
OwnPopsGated state step now s answer = (mid : Session) × DropsUnits now s mid × OwnPopsOnce state step now mid answer
