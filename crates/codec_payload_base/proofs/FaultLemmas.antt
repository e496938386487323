-- Lemmas on faults.
use Rattle.std.proofs.Common.{◌≡◌, ◌≢◌, refl}
use Rattle.codec_payload_base.specs.declared.error.PacketError.{PacketError}
use Rattle.codec_payload_base.specs.declared.error.PacketError.TheVariants as faults

-- the only remaining fault is out of memory
pub only_memory : (fault : PacketError) → ((fault ≢ faults.OutOfMemory) → ⊥) → fault ≡ faults.OutOfMemory
only_memory faults.OutOfMemory other = refl
only_memory fault other = absurd (other (λ e. cc))
