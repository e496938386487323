-- Inspection of one payload.
use Rattle.std.specs.Prelude.{◌≡◌, ℕ, Bool, Option, Some, None}
use Rattle.codec_payload_core.specs.Depacketizers.{DepacketizerState}

-- the answer of the codec's depacketizer, if it has one; otherwise status 37
abbrev pub Inspect : Option DepacketizerState → (DepacketizerState → Bool) → ℕ → Bool → Bool → Type 0
Inspect None says status before answer = (status ≡ 37) × (answer ≡ before)
Inspect (Some d) says status before answer = (status ≡ 0) × (answer ≡ says d)
