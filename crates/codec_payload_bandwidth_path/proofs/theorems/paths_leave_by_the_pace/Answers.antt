use Rattle.codec_payload_bandwidth_path.proofs.RunLemmas.{leaves_by_the_pace}
use Rattle.codec_payload_bandwidth_path.proofs.theorems.paths_leave_by_the_pace.Goals as goal

pub returns : goal.returns
returns c = leaves_by_the_pace
