use Rattle.std.proofs.Common.{arith, ◌≡◌, ◌<◌, ◌/◌, ◌∙◌, ap, sym, length, Some, get_or}
use Rattle.std.specs.Int.{div_ceil}
use Rattle.std.specs.Int.Bits.{bit_and}
use Rattle.codec_payload_audio.specs.AmrWb.{speech_size}
use Rattle.codec_payload_base.proofs.ByteTables.{and_124}
use Rattle.codec_payload_audio.proofs.AmrWbRoundTripLemmas.{stored_frame}
use Rattle.codec_payload_audio.proofs.amr_wb.send.sent_of.Goals as goal

pub returns-clause-sent : goal.returns-clause-sent
returns-clause-sent c =
    let small : c.in-Some.field-0-0.now < 256 = omega (arith, ap (λ t. get_or t 0 0) c.in-Some.ensures.cases.0, c.type_inv.b 0) in
    let size : speech_size (bit_and (c.in-Some.field-0-0.now / 8) 15) ≡ Some c.in-Some-speech_bits.count = sym c.speech_bits.ensures ∙ c.in-Some-speech_bits.is in
    let whole : length c.in-Some.speech.now ≡ div_ceil c.in-Some-speech_bits.count 8 = c.if-speech-div_ceil.false ∙ c.div_ceil.ensures in
    stored_frame c.in-Some.field-0-0.now c.in-Some-speech_bits.count c.args.b.now c.in-Some.speech.now c.in-Some.ensures.cases.0 size whole small c.if-frame_type-eq-NO_DATA.false

pub returns-clause-clear : goal.returns-clause-clear
returns-clause-clear c =
    let small : c.in-Some.field-0-0.now < 256 = omega (arith, ap (λ t. get_or t 0 0) c.in-Some.ensures.cases.0, c.type_inv.b 0) in
    rw (and_124 c.in-Some.field-0-0.now small) (omega arith)
