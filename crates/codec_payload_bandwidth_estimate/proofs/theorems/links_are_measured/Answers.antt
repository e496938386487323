use Rattle.codec_payload_bandwidth_estimate.proofs.LinkLemmas.{link_is_measured}
use Rattle.codec_payload_bandwidth_estimate.proofs.theorems.links_are_measured.Goals as goal

pub returns : goal.returns
returns c = link_is_measured
