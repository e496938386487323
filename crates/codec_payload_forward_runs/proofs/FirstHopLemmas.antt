-- A retransmission that is unwrapped reads as the datagram that it repeats.
use Rattle.std.proofs.Common.{◌≡◌, ◌∙◌, sym, ap, ℕ, ◌<◌, ◌^◌, List, ◌++◌, Option, Some, Result, Ok, arith}
use Rattle.std.specs.Int.{w16, to_be_bytes}
use Rattle.std.specs.Option.{option_map}
use Rattle.std.proofs.lemmas.Nat.{from_be_bytes-to_be_bytes_2}
use Rattle.std.proofs.lemmas.Option.{same_Some}
use Rattle.codec_payload_rtp.specs.RtpPackets.{Packet}
use Rattle.codec_payload_rtp.specs.declared.rtp.RtpError.{RtpError}
use Rattle.codec_payload_sending.specs.Datagrams.{header_at}
use Rattle.codec_payload_sending_history.specs.Originals.{numbered, original_of, original_with}
use Rattle.codec_payload_sending_history.specs.declared.retransmission.RetransmissionStream.{RetransmissionStream}
use Rattle.codec_payload_forward_runs.specs.FirstHop.{ReadsAsSent, original_stream}

-- a packet as a retransmission
abbrev wrapped : RetransmissionStream → ℕ → Packet → Packet
wrapped again next p = record {
  header = record p.header { payload_type = again.payload_type; sequence_number = next; ssrc = again.ssrc };
  payload = to_be_bytes w16 p.header.sequence_number ++ p.payload;
  padding = 0;
}

-- the number in front of its payload
number_of : (number : ℕ) (payload : List ℕ) → number < 2 ^ 16 → numbered (to_be_bytes w16 number ++ payload) ≡ Some (number, payload)
unfolding numbered
number_of number payload small = ap (λ (n : ℕ). Some (n, payload)) (from_be_bytes-to_be_bytes_2 number small)

same_packet : (p q : Packet) → ◌≡◌ {A = Result Packet RtpError} (Ok p) (Ok q) → p ≡ q
same_packet p q same = cc

pub reads_as_sent : ReadsAsSent
reads_as_sent stream packetizer sample count place payload datagram again next retransmission bytes sent is writes =
    let q : Packet = record { header = header_at stream sample place count sent.marker; payload = payload; padding = 0 } in
    let was : is.original ≡ q = same_packet is.original q (sym is.was ∙ sent.reads) in
    let packet : writes.packet ≡ wrapped again next q = same_packet writes.packet (wrapped again next is.original) (sym writes.was ∙ is.reads) ∙ ap (wrapped again next) was in
    let unwrapped : original_of (original_stream stream) (wrapped again next q) ≡ Some q =
    ap (λ (o : Option (ℕ × List ℕ)). option_map (original_with (original_stream stream) (wrapped again next q).header) o) (number_of q.header.sequence_number payload (omega arith)) in
    let original : writes.original ≡ q = same_Some writes.original q (sym writes.is ∙ (ap (original_of (original_stream stream)) packet ∙ unwrapped)) in
    writes.reads ∙ (ap (λ (p : Packet). Ok p) original ∙ sym sent.reads)
