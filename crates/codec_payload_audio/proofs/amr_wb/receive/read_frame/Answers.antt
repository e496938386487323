use Rattle.std.proofs.Common.{◌≡◌, ◌∙◌, sym, Some}
use Rattle.codec_payload_base.specs.Bits.{left}
use Rattle.codec_payload_audio.specs.AmrWb.{speech_size}
use Rattle.codec_payload_audio.proofs.AmrWbFrameLemmas.{frame_gains, frame_rest}
use Rattle.codec_payload_audio.proofs.amr_wb.receive.read_frame.Goals as goal

pub returns-clause-ok : goal.returns-clause-ok
returns-clause-ok c =
    let size : speech_size c.args.entry.frame_type ≡ Some c.in-Some.count = sym c.speech_bits.ensures ∙ c.in-Some.is in
    rw size
    (frame_gains c.args.octet_align c.args.entry c.in-Some.count (left c.args.reader.now) (left c.skip_padding.new.reader) c.args.out.now.items c.push.new.self.items c.copy_bits.new.out.items
    c.args.entry.four_bits (rw c.storage_header.ensures at c.in_ok-push.ensures.items) c.in_ok-copy_bits.ensures.copied c.in_ok-copy_bits.ensures.place.0
    (frame_rest c.args.octet_align c.args.reader.now c.copy_bits.new.reader c.skip_padding.new.reader c.in-Some.count c.in_ok-copy_bits.ensures.place.1 c.skip_padding.ensures))
