use Rattle.std.proofs.Common.{arith, ◌≤◌, ◌∙◌, ap, length}
use Rattle.std.proofs.lemmas.List.{take-append-le, take-take}
use Rattle.codec_payload_base.specs.Bits.{bits_of}
use Rattle.codec_payload_audio.proofs.amr_wb.send.payload_of.Goals as goal

pub returns-clause-ok : goal.returns-clause-ok
returns-clause-ok c =
    let size = c.lay-size.result in
    let whole = c.lay-size.new.to in
    let all : size ≤ c.resize.new.self.len = omega (arith, c.lay-size.ensures.size, c.lay-size.ensures.same, ap length c.deref_mut.ensures.value, c.resize.new.self.ok.0) in
    ap bits_of
    (c.truncate.ensures.items ∙ take-take size c.resize.new.self.len _ all ∙ take-append-le size whole _ c.lay-size.ensures.size)
    ∙ c.lay-size.ensures.payload
