use Rattle.std.proofs.Common.{length}
use Rattle.std.specs.Int.{w16, to_be_bytes}
use Rattle.codec_payload_fec.specs.Fec.{continued_bytes, head_bytes}
use Rattle.codec_payload_fec.specs.FecReading.{fec_of}
use Rattle.codec_payload_fec.proofs.FecWriting.{four_parts, on_ok_if}
use Rattle.codec_payload_fec.proofs.packet.FecPacket.write_parts.Goals as goal

pub returns-clause-written : goal.returns-clause-written
returns-clause-written c =
    let f = fec_of c.args.self.now in
    four_parts c.extend_from_slice-3.result c.args.out.now.items c.extend_from_slice.new.self.items c.write_continued.new.out.items c.extend_from_slice-2.new.self.items c.extend_from_slice-3.new.self.items
    c.heads.result (head_bytes f) (to_be_bytes w16 (length f.recovery.bytes)) (to_be_bytes w16 f.mask) (continued_bytes f.continued) f.recovery.bytes f.further
    c.heads.ensures c.in_ok-extend_from_slice.ensures.items c.in_ok-write_continued.ensures.written c.in_ok-extend_from_slice-2.ensures.items (on_ok_if c.extend_from_slice-3.result c.extend_from_slice-3.new.self.items _ _ c.extend_from_slice-3.ensures.items)
