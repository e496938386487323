use Rattle.codec_payload_feedback_freezes.proofs.FreezeLemmas.{fits}
use Rattle.codec_payload_feedback_freezes.proofs.freezes.freezes_fit_the_time.Goals as goal

pub returns : goal.returns
returns c = record { fits = fits }
