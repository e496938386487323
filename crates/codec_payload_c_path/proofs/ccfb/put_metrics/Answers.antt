use Rattle.std.proofs.Common.{◌∙◌, ◌<◌, ◌+◌, ℕ, arith, drop, length, map}
use Rattle.std.proofs.lemmas.Grind.{common_steps}
use Rattle.codec_payload_c_path.specs.Ccfb.{metric_told}
use Rattle.codec_payload_c_path.proofs.MetricPlaces.{put_next, rest_next}
use Rattle.codec_payload_c_path.proofs.ccfb.put_metrics.Goals as goal

pub loop-metric-preserved : goal.loop-metric-preserved
loop-metric-preserved c =
    let place : ℕ = c.loop-metric.place in
    let within : place < length c.loop-metric.packets = omega (arith, c.loop-metric.invariant.place, c.loop-metric.invariant.len, c.loop-metric-test.true, c.requires) in
    record {
      place = omega (arith, c.loop-metric.invariant.place);
      len = grind (arith, common_steps);
      put = put_next c.loop-metric.packets place c.metric_told.result (map metric_told (drop (c.loop-metric.metric-index + 1) c.args.metrics.now)) within
          ∙ grind (arith, common_steps);
      rest = rest_next c.loop-metric.packets place c.metric_told.result ∙ grind (arith, common_steps);
    }

pub returns : goal.returns
returns c = grind (arith, common_steps)
