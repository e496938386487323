use Rattle.std.proofs.Common.{rules, ◌≡◌, ◌∙◌, sym, Some}
use Rattle.codec_payload_base.specs.Bits.{left}
use Rattle.codec_payload_audio.specs.AmrWb.{speech_size}
use Rattle.codec_payload_audio.proofs.AmrWbFrameLemmas.{frame_there, frame_rest}
use Rattle.codec_payload_audio.proofs.amr_wb.receive.skip_frame.Goals as goal

pub returns-clause-read : goal.returns-clause-read
returns-clause-read c =
    let size : speech_size c.args.entry.frame_type ≡ Some c.in-Some.count = sym c.speech_bits.ensures ∙ c.in-Some.is in
    let (within, moves) = c.skip_bits.ensures.skipped (search rules) in
    frame_there c.args.octet_align c.args.entry c.in-Some.count (left c.args.reader.now) (left c.skip_padding.new.reader) size within
    (frame_rest c.args.octet_align c.args.reader.now c.skip_bits.new.self c.skip_padding.new.reader c.in-Some.count moves c.skip_padding.ensures)
