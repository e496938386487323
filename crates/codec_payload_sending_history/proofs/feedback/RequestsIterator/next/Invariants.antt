use Rattle.std.proofs.Common.{◌≡◌, ◌++◌, length, map}
use Rattle.codec_payload_rtcp.specs.NackNumbers.{numbers_left}
use Rattle.codec_payload_rtcp.specs.RtcpReading.{packets_left}
use Rattle.codec_payload_sending_history.specs.Requests.{requests_in, requests_left}
use Rattle.codec_payload_sending_history.specs.declared.feedback.Request.TheVariants as requests
use Rattle.codec_payload_sending_history.proofs.feedback.RequestsIterator.next.Given as goal

-- packets so far requested nothing
abbrev pub invariant-loop-number : goal.invariant-loop-number
invariant-loop-number l = record {
  same : l.self-inside.ssrc ≡ l.fn.self.ssrc;
  left : map requests.Packet (numbers_left l.self-inside.numbers) ++ requests_in l.self-inside.ssrc (packets_left l.self-inside.packets) ≡ requests_left l.fn.self;
}

abbrev pub decreases-loop-number : goal.decreases-loop-number
decreases-loop-number l = length (packets_left l.self-inside.packets)
