use Rattle.std.proofs.Common.{◌∙◌, Some, ap, set}
use Rattle.codec_payload_bandwidth_estimate.proofs.ShiftLemmas.{shifted}
use Rattle.codec_payload_bandwidth_estimate.proofs.arrivals.push.Goals as goal

pub returns : goal.returns
returns c = ap (λ l. set l 0 (Some c.args.arrival)) c.copy_within.ensures.after ∙ shifted 255 (Some c.args.arrival) c.args.latest.now c.requires
