use Rattle.std.proofs.Common.{◌∙◌, ap, ◌+◌, take}
use Rattle.codec_payload_base.specs.Bits.{bits_of}
use Rattle.codec_payload_audio.specs.AmrWb.{padded}
use Rattle.codec_payload_audio.proofs.AmrWbPayloadLemmas.{shifted_payload, aligned_payload}
use Rattle.codec_payload_audio.proofs.amr_wb.send.lay.Goals as goal

pub returns-then-octet_align-clause-payload : goal.returns-then-octet_align-clause-payload
returns-then-octet_align-clause-payload c =
    let frame = c.args.frame.now in
    rw c.if-octet_align.true
    (c.cut.ensures.cut
    ∙ ap (λ t. padded (take (16 + frame.count) (bits_of t))) c.lay_aligned.ensures
    ∙ aligned_payload frame.toc frame.count frame.speech.now c.requires.last c.requires.clear)

pub returns-else-octet_align-clause-payload : goal.returns-else-octet_align-clause-payload
returns-else-octet_align-clause-payload c =
    let frame = c.args.frame.now in
    rw c.if-octet_align.false
    (c.cut-else-octet_align.ensures.cut
    ∙ ap (λ t. padded (take (10 + frame.count) t)) c.lay_shifted.ensures.bits
    ∙ shifted_payload frame.toc frame.count frame.speech.now c.requires.last c.requires.within)
