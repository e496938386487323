use Rattle.std.proofs.Common.{◌∙◌, ap}
use Rattle.codec_payload_bandwidth_estimator.specs.Estimates.{Estimate}
use Rattle.codec_payload_bandwidth_offer.specs.Offers.{trial_if}
use Rattle.codec_payload_bandwidth_offer.proofs.offer.judge_by.Goals as goal

pub returns : goal.returns
returns c = c.begin_trial.ensures ∙ ap (λ (e : Estimate). trial_if c.args.time.0 c.args.wants e) c.judge.ensures
