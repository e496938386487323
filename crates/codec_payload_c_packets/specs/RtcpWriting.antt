-- The calls that write RTCP packets: reports with their blocks, a canonical name, requests for keyframes, and a BYE.
use Rattle.std.specs.Prelude.{◌≡◌, ◌⊎◌, ℕ, ◌/◌, ◌%◌, ◌&&◌, nat_le, nat_lt, Bool, true, false, List, [], ◌∷◌, Option, Some, None, length}
use Rattle.std.specs.List.{flat_map, list_all}
use Rattle.std.specs.Int.{to_be_bytes, w32}
use Rattle.codec_payload_rtcp.specs.RtcpItems.{block_bytes, entry_bytes}
use Rattle.codec_payload_rtcp.specs.RtcpPackets.{Feedback, Leaving, Packet, Receiver, Sender, receiver_report, sender_report}
use Rattle.codec_payload_rtcp.specs.RtcpWriting.{Appends, cname_chunk, leaving_bytes}
use Rattle.codec_payload_rtcp.specs.declared.items.FullIntraEntry.{FullIntraEntry}
use Rattle.codec_payload_rtcp.specs.SdesWriting.{description_bytes}
use Rattle.codec_payload_rtcp.specs.declared.items.ReportBlock.{ReportBlock}
use Rattle.codec_payload_c_packets.specs.Congestion.{IsUnwritten, PutsPacket}
use Rattle.codec_payload_c_packets.specs.TransportReporters.{Writing}
use Rattle.codec_payload_c_packets.specs.declared.sender.SenderReportInfo.{SenderReportInfo}
use Rattle.codec_payload_handle.specs.declared.report_block.ReportBlockInfo.{ReportBlockInfo}

-- Status 0 or 33: the packet, without padding (PutsPacket). Status 17: memory ran out, and nothing is written
abbrev pub WritesPacket : Packet → ℕ → Writing → Type 0
WritesPacket p status w = ((packet : List ℕ) × Appends [] packet p × PutsPacket packet status w) ⊎ ((status ≡ 17) × IsUnwritten w)

-- the same, or status 37: the arguments are none that a packet can have, and nothing is written
abbrev pub WritesPacketIf : Bool → Packet → ℕ → Writing → Type 0
WritesPacketIf true p status w = WritesPacket p status w
WritesPacketIf false p status w = (status ≡ 37) × IsUnwritten w

-- ---- report blocks

-- a report block, from C
abbrev pub block_given : ReportBlockInfo → ReportBlock
block_given b = record {
  ssrc = b.ssrc;
  fraction_lost = b.fraction_lost;
  cumulative_lost = b.cumulative_lost;
  highest_sequence_number = b.highest;
  jitter = b.jitter;
  last_sender_report = b.last_sender_report;
  delay_since_sender_report = b.delay_since_sender_report;
}

-- the lost packets of each have 24 bits
abbrev pub fits_24_bits : List ReportBlockInfo → Bool
fits_24_bits blocks = list_all (λ b. nat_lt b.cumulative_lost 16777216) blocks

-- a report has at most 31 blocks
abbrev pub blocks_fit : List ReportBlockInfo → Bool
blocks_fit blocks = nat_le (length blocks) 31 && fits_24_bits blocks

-- the bytes of a block, from C
unfoldable pub given_bytes : ReportBlockInfo → List ℕ
given_bytes b = block_bytes (block_given b)

-- the bytes of blocks, one after another
abbrev pub block_list : List ReportBlockInfo → List ℕ
block_list blocks = flat_map given_bytes blocks

-- ---- packets

-- a PLI (RFC 4585, section 6.3.1)
abbrev pub loss_of : (sender media : ℕ) → Feedback
loss_of sender media = record { sender = sender; media = media; fci = [] }

-- the entry of a full intra request
abbrev pub entry_given : (media command : ℕ) → FullIntraEntry
entry_given media command = record { ssrc = media; sequence_number = command }

-- a full intra request for one stream (RFC 5104, section 4.3.1): the SSRC of the stream is in its entry, and that of the header is 0
abbrev pub intra_of : (sender media command : ℕ) → Feedback
intra_of sender media command = record { sender = sender; media = 0; fci = entry_bytes (entry_given media command) }

-- no bytes are no reason
abbrev pub reason_given : List ℕ → Option (List ℕ)
reason_given [] = None
reason_given (b ∷ bs) = Some (b ∷ bs)

-- a BYE of one source (RFC 3550, section 6.6): a reason is filled with zeros to whole words
abbrev pub bye_packet : ℕ → List ℕ → List ℕ
bye_packet ssrc reason = leaving_bytes (record { ssrcs = to_be_bytes w32 ssrc; reason = reason_given reason })

abbrev pub WritesByeIf : Bool → ℕ → List ℕ → ℕ → Writing → Type 0
WritesByeIf true ssrc reason status w = PutsPacket (bye_packet ssrc reason) status w ⊎ ((status ≡ 17) × IsUnwritten w)
WritesByeIf false ssrc reason status w = (status ≡ 37) × IsUnwritten w

-- the reason has at most 255 bytes
abbrev pub WritesBye : ℕ → List ℕ → ℕ → Writing → Type 0
WritesBye ssrc reason status w = WritesByeIf (nat_le (length reason) 255) ssrc reason status w

-- a sender report with these blocks, and no extension
abbrev pub sender_given : ℕ → SenderReportInfo → List ReportBlockInfo → Sender
sender_given ntp_time r blocks = record {
  ssrc = r.ssrc;
  ntp_seconds = ntp_time / 4294967296;
  ntp_fraction = ntp_time % 4294967296;
  rtp_time = r.rtp_time;
  packet_count = r.packets;
  octet_count = r.octets;
  blocks = block_list blocks;
  extension = [];
}

abbrev pub receiver_given : ℕ → List ReportBlockInfo → Receiver
receiver_given ssrc blocks = record { ssrc = ssrc; blocks = block_list blocks; extension = [] }

abbrev pub WritesSender : ℕ → SenderReportInfo → List ReportBlockInfo → ℕ → Writing → Type 0
WritesSender ntp_time r blocks status w = WritesPacketIf (blocks_fit blocks) (sender_report (sender_given ntp_time r blocks)) status w

abbrev pub WritesReceiver : ℕ → List ReportBlockInfo → ℕ → Writing → Type 0
WritesReceiver ssrc blocks status w = WritesPacketIf (blocks_fit blocks) (receiver_report (receiver_given ssrc blocks)) status w

-- a source description of one source with its canonical name (RFC 3550, section 6.5), with the fewest zeros that end it
abbrev pub name_packet : ℕ → List ℕ → List ℕ
name_packet ssrc cname = description_bytes (cname_chunk ssrc cname)

abbrev pub WritesNameIf : Bool → ℕ → List ℕ → ℕ → Writing → Type 0
WritesNameIf true ssrc cname status w = PutsPacket (name_packet ssrc cname) status w ⊎ ((status ≡ 17) × IsUnwritten w)
WritesNameIf false ssrc cname status w = (status ≡ 37) × IsUnwritten w

-- the name has at most 255 bytes
abbrev pub WritesName : ℕ → List ℕ → ℕ → Writing → Type 0
WritesName ssrc cname status w = WritesNameIf (nat_le (length cname) 255) ssrc cname status w
