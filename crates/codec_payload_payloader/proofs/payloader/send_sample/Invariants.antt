use Rattle.std.proofs.Common.{◌≡◌, ◌+◌, map, length, Option}
use Rattle.std.specs.Vec.Iter.{into_iter_items, into_iter_len}
use Rattle.codec_payload_base.specs.declared.error.PacketError.{PacketError}
use Rattle.codec_payload_codec.specs.Packetizers.{packetizer_state_of, is_built_in}
use Rattle.codec_payload_codec.specs.declared.codec.packetizer.CodecPacketizer.TheVariants.{Boxed}
use Rattle.codec_payload_payloader.specs.OwnSending.{OwnSends}
use Rattle.codec_payload_payloader.specs.Sending.{packets_for, packets_from, sample_of}
use Rattle.codec_payload_payloader.proofs.SendLemmas.{SentSoFar}
use Rattle.codec_payload_payloader.proofs.payloader.send_sample.Given as goal

-- the packets of the payloads that are left are still to be sent, and nothing else
abbrev pub invariant-loop-payload : goal.invariant-loop-payload
invariant-loop-payload g l =
    let sink = g.S.PacketSink in
    let packetizer = g.B.Packetizer in
    record {
      same : packetizer_state_of l.packetizer ≡ packetizer_state_of l.initial.packetizer;
      kept : sink.keeps l.fn.sink l.sink;
      counted : length (into_iter_items l.payload-iterator) ≡ into_iter_len l.payload-iterator;
      placed : l.place + length (into_iter_items l.payload-iterator) ≡ l.count;
      so_far : SentSoFar (is_built_in (packetizer_state_of l.initial.packetizer)) sink.accepts sink.sent sink.next l.fn.sink
          (packets_for (packetizer_state_of l.initial.packetizer) (sample_of l.sample) l.rtp_time (sink.next l.fn.sink) (map (λ p. p.items) (into_iter_items l.initial.payload-iterator)))
          (packets_from (packetizer_state_of l.initial.packetizer) (sample_of l.sample) l.rtp_time (sink.next l.sink) l.place (map (λ p. p.items) (into_iter_items l.payload-iterator)))
          l.sink;
      -- the effect of a custom packetizer on the rest completes its effect on all
      own : (b : g.row.B.Denot) → l.initial.packetizer ≡ Boxed b → (now : g.row.B.Denot) × (l.packetizer ≡ Boxed now) × ((fault : Option PacketError) (b' : g.row.B.Denot) (after : g.row.S.Denot)
          → OwnSends packetizer.state packetizer.marker_step packetizer.marks_spurts packetizer.may_be_asked_for sink.accepts sink.refuses sink.sent sink.next
          (sample_of l.sample) l.rtp_time l.place now l.sink (map (λ p. p.items) (into_iter_items l.payload-iterator)) fault b' after
          → OwnSends packetizer.state packetizer.marker_step packetizer.marks_spurts packetizer.may_be_asked_for sink.accepts sink.refuses sink.sent sink.next
          (sample_of l.sample) l.rtp_time 0 b l.fn.sink (map (λ p. p.items) (into_iter_items l.initial.payload-iterator)) fault b' after);
    }
