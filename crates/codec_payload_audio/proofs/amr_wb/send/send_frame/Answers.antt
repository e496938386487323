use Rattle.std.proofs.Common.{arith}
use Rattle.std.proofs.lemmas.Result.{err_from_is_err_and}
use Rattle.codec_payload_audio.proofs.AmrWbPayloadLemmas.{frame_too_large, frame_for_memory, frame_sent}
use Rattle.codec_payload_audio.proofs.amr_wb.send.send_frame.Goals as goal

pub returns-then-payload_size-mtu : goal.returns-then-payload_size-mtu
returns-then-payload_size-mtu c =
    frame_too_large c.args.octet_align c.args.mtu c.args.frame.now.toc c.args.frame.now.count c.payload_size.result c.args.frame.now.speech.now c.requires.within
    c.payload_size.ensures.least c.payload_size.ensures.most (omega arith)

pub returns-in_err-payload : goal.returns-in_err-payload
returns-in_err-payload c =
    let p = err_from_is_err_and c.from_residual.result c.from_residual.ensures.1 in
    rw (p.1, p.2, c.in_err-payload.ensures.fault)
    (frame_for_memory c.args.octet_align c.args.mtu c.args.frame.now.toc c.args.frame.now.count c.payload_size.result c.args.frame.now.speech.now c.requires.within
    c.payload_size.ensures.least c.payload_size.ensures.most (omega arith))

pub returns-in_err-packets : goal.returns-in_err-packets
returns-in_err-packets c =
    let p = err_from_is_err_and c.from_residual-in_err-packets.result c.from_residual-in_err-packets.ensures.1 in
    rw (p.1, p.2)
    (frame_for_memory c.args.octet_align c.args.mtu c.args.frame.now.toc c.args.frame.now.count c.payload_size.result c.args.frame.now.speech.now c.requires.within
    c.payload_size.ensures.least c.payload_size.ensures.most (omega arith))

pub returns : goal.returns
returns c =
    rw (c.in_ok-push.ensures.items, c.in_ok-packets.ensures.items)
    (frame_sent c.args.octet_align c.args.mtu c.args.frame.now.toc c.args.frame.now.count c.payload_size.result c.args.frame.now.speech.now c.requires.within
    c.payload_size.ensures.least c.payload_size.ensures.most (omega arith) c.in_ok-payload.payload.items c.in_ok-payload.ensures.ok)
