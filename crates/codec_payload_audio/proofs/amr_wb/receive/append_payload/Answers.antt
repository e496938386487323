use Rattle.codec_payload_base.specs.Bits.{left}
use Rattle.codec_payload_audio.proofs.AmrWbReceivedLemmas.{appended_ok, appended_err}
use Rattle.codec_payload_audio.proofs.amr_wb.receive.append_payload.Goals as goal

pub append_frames-requires-clause-table : goal.append_frames-requires-clause-table
append_frames-requires-clause-table c = ((c.requires.speech.0, left c.args.contents.speech), c.requires.speech.1)

pub returns-clause-ok : goal.returns-clause-ok
returns-clause-ok c =
    let (es, read) = c.requires.speech in
    appended_ok c.args.octet_align c.args.packet.now c.args.contents.toc c.requires.some c.requires.toc es (left c.args.contents.speech) read
    c.requires.received.0 c.args.out.now.items c.append_frames.new.out.items (left c.append_frames.new.speech) c.append_frames.result c.requires.received.1
    (rw c.in_ok-reserve.ensures.items at c.append_frames.ensures.ok)

pub returns-clause-err : goal.returns-clause-err
returns-clause-err c =
    let (es, read) = c.requires.speech in
    appended_err c.args.octet_align c.args.packet.now c.args.contents.toc c.requires.some c.requires.toc es (left c.args.contents.speech) read
    c.requires.received.0 c.append_frames.result c.requires.received.1 c.append_frames.ensures.err
