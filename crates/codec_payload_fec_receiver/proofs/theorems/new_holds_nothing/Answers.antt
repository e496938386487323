use Rattle.std.proofs.Common.{refl}
use Rattle.codec_payload_fec_receiver.proofs.SoundLemmas.{none_new}
use Rattle.codec_payload_fec_receiver.proofs.theorems.new_holds_nothing.Goals as goal

pub returns : goal.returns
returns c = λ settings. record { none_kept = none_new; no_fecs = refl; is_number = tt }
