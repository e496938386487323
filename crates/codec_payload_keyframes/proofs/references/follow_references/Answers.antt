use Rattle.codec_payload_keyframes.proofs.ReferenceLemmas.{follows_references}
use Rattle.codec_payload_keyframes.proofs.references.follow_references.Goals as goal

pub returns : goal.returns
returns c = follows_references
