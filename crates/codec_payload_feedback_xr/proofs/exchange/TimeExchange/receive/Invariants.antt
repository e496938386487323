use Rattle.std.proofs.Common.{◌≡◌, ◌||◌, length}
use Rattle.codec_payload_rtcp.specs.RtcpReading.{packets_left}
use Rattle.codec_payload_feedback_xr.specs.Exchange.{any_at, taken_all}
use Rattle.codec_payload_feedback_xr.proofs.exchange.TimeExchange.receive.Given as goal

-- the packets so far, and then the others
abbrev pub invariant-loop-packet : goal.invariant-loop-packet
invariant-loop-packet l = record {
  after : taken_all l.ssrc l.tick_rate l.at (packets_left l.packets) l.self ≡ taken_all l.ssrc l.tick_rate l.at (packets_left l.initial.packets) l.initial.self;
  answers : (l.answers || any_at l.ssrc l.tick_rate l.at (packets_left l.packets)) ≡ any_at l.ssrc l.tick_rate l.at (packets_left l.initial.packets);
}

abbrev pub decreases-loop-packet : goal.decreases-loop-packet
decreases-loop-packet l = length (packets_left l.packets)
