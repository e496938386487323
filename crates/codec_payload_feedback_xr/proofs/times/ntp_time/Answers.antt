use Rattle.std.proofs.Common.{◌≡◌, ◌∙◌, ℕ, ◌<◌, ap, arith}
use Rattle.codec_payload_feedback_xr.specs.RoundTrip.{ntp_time}
use Rattle.codec_payload_feedback_xr.proofs.TimeLemmas.{ntp_parts}
use Rattle.codec_payload_feedback_xr.proofs.times.ntp_time.Goals as goal

pub returns : goal.returns
returns c =
    let rate_is : c.from-rate.result ≡ c.args.tick_rate = c.from-rate.ensures ∙ c.get.ensures.value in
    let above : 0 < c.from-rate.result = omega (arith, c.from-rate.ensures, c.get.ensures.above_zero) in
    ntp_parts c.args.now.0 c.from-rate.result above ∙ ap (λ (rate : ℕ). ntp_time c.args.now.0 rate) rate_is
