use Rattle.std.proofs.Common.{◌≡◌, ◌⊎◌, ◌-◌, ◌/◌, ◌^◌, ◌≤◌}
use Rattle.codec_payload_feedback_congestion.proofs.remb.rounded.Given as goal

abbrev pub invariant-loop-exponent : goal.invariant-loop-exponent
invariant-loop-exponent l = record {
  fits : l.exponent ≤ 46;
  normal : (l.exponent ≡ 0) ⊎ (131072 ≤ l.bitrate / 2 ^ l.exponent);
}

abbrev pub decreases-loop-exponent : goal.decreases-loop-exponent
decreases-loop-exponent l = 46 - l.exponent
