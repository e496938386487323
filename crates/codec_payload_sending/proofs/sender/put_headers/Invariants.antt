use Rattle.std.proofs.Common.{◌≡◌, ◌<◌, ℕ, [], length, get_or}
use Rattle.codec_payload_codec.specs.Packetizers.{packetizer_state_of}
use Rattle.codec_payload_codec.specs.declared.codec.packetizer.CodecPacketizer.TheVariants.{Boxed}
use Rattle.codec_payload_sending.specs.Datagrams.{IsHeader, IsHeadedAt, header_at, sample_of}
use Rattle.codec_payload_sending.specs.OwnDatagrams.{AreAsked}
use Rattle.codec_payload_sending.proofs.sender.put_headers.Given as goal

-- the packets before this place have their headers
abbrev pub invariant-loop-place : goal.invariant-loop-place
invariant-loop-place g l =
    let packetizer = g.B.Packetizer in
    record {
      same : packetizer_state_of l.packetizer ≡ packetizer_state_of l.fn.packetizer;
      rest : l.packets.out ≡ record l.fn.packets.out { headers = l.packets.out.headers };
      many : length l.packets.out.headers ≡ length l.fn.packets.out.payloads;
      so_far : (k : ℕ) → k < l.place → IsHeadedAt l.stream (packetizer_state_of l.fn.packetizer) (sample_of l.sample) (length l.fn.packets.out.payloads) k (get_or l.packets.out.headers k []);
      own : (b : g.row.B.Denot) → l.fn.packetizer ≡ Boxed b → (now : g.row.B.Denot) × (l.packetizer ≡ Boxed now)
          × AreAsked packetizer.state packetizer.marker_step packetizer.marks_spurts (sample_of l.sample) l.fn.packets.out.payloads
          (λ k marker. IsHeader (get_or l.packets.out.headers k []) (header_at l.stream (sample_of l.sample) k (length l.fn.packets.out.payloads) marker))
          l.place b now;
    }
