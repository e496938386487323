use Rattle.std.proofs.Common.{refl}
use Rattle.codec_payload_fec_receiver.proofs.SoundLemmas.{none_found}
use Rattle.codec_payload_fec_receiver.proofs.theorems.restarted_holds_nothing.Goals as goal

pub returns : goal.returns
returns c = λ s. record { none_kept = none_found; no_fecs = refl; is_number = tt }
