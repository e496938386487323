-- Receiving with a custom depacketizer: its answers decide where units begin and end, and give the units.
use Rattle.std.specs.Prelude.{◌≡◌, ◌⊎◌, ℕ, Bool, List, Contains, Option, Some, None, Result, ⊤}
use Rattle.codec_payload_base.specs.declared.error.PacketError.{PacketError}
use Rattle.codec_payload_base.specs.declared.interface.CodecExtra.{CodecExtra}
use Rattle.codec_payload_buffer.specs.Held.{Held}
use Rattle.codec_payload_metadata.specs.Release.{Release}
use Rattle.codec_payload_buffer.specs.Steps.{State, OwnPops}
use Rattle.codec_payload_jitter.specs.Receiving.{Receiving}

-- some value of the depacketizer's type decides whether the packet begins and ends a unit
abbrev pub IsDecidedBy : {B : Type 0} (is_head : B → List ℕ → Bool) (is_tail : B → Bool → List ℕ → Bool) → Held → Type 0
IsDecidedBy {B} is_head is_tail p = (b : B) × (p.head ≡ is_head b p.bytes) × (p.tail ≡ is_tail b p.meta.header.marker p.bytes)

-- the depacketizer stays, and a value of its type decides each packet that was stored
pub record OwnStores {B : Type 0} (is_head : B → List ℕ → Bool) (is_tail : B → Bool → List ℕ → Bool) (s t : State) : Type 0 where
  pub stays : t.depacketizer ≡ s.depacketizer
  pub decided : (p : Held) → Contains t.held p → Contains s.held p ⊎ IsDecidedBy is_head is_tail p

-- what a pop answers is the result of the depacketizer's calls for the payloads of the frame, each once, in order
abbrev pub OwnPopsWith : {B : Type 0} (state : B → List ℕ) (step : B → List ℕ → List ℕ → CodecExtra → Result ⊤ PacketError → List ℕ → List ℕ → CodecExtra → Type 0)
    → Option ℕ → Receiving → Option (Result Release PacketError) → Type 0
OwnPopsWith state step None r answer = answer ≡ None
OwnPopsWith state step (Some hold_back) r answer = OwnPops state step (record r.buffer { hold_back = hold_back }) answer
