use Rattle.std.proofs.Common.{◌≡◌, false, length}
use Rattle.codec_payload_rtcp.specs.RtcpReading.{packets_left}
use Rattle.codec_payload_session.specs.Arrivals.{left_where, say_goodbye}
use Rattle.codec_payload_session_stream.specs.Reports.{noted_where}
use Rattle.codec_payload_session_stream.specs.Waking.{ssrcs_of}
use Rattle.codec_payload_session_stream.specs.declared.stream.Ending.TheVariants as endings
use Rattle.codec_payload_session.proofs.compound.take_packets.Given as goal

-- the packets so far, and then the others; and the same without a BYE so far
abbrev pub invariant-loop-packet : goal.invariant-loop-packet
invariant-loop-packet l = record {
  taken :
      left_where (λ ssrc. say_goodbye ssrc (packets_left l.packets)) endings.Bye l.at (noted_where l.now (packets_left l.packets) l.streams)
      ≡ left_where (λ ssrc. say_goodbye ssrc (packets_left l.initial.packets)) endings.Bye l.at (noted_where l.now (packets_left l.initial.packets) l.initial.streams);
  listed : l.ssrcs ≡ ssrcs_of l.streams;
  stays : l.ends ≡ false → noted_where l.now (packets_left l.packets) l.streams ≡ noted_where l.now (packets_left l.initial.packets) l.initial.streams;
}

abbrev pub decreases-loop-packet : goal.decreases-loop-packet
decreases-loop-packet l = length (packets_left l.packets)
