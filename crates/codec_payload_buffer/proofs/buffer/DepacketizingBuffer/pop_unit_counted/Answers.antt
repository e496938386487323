use Rattle.std.proofs.Common.{◌∙◌, arith, [], refl, sym, None}
use Rattle.codec_payload_buffer.specs.Steps.{Pops, none}
use Rattle.codec_payload_buffer.proofs.LeavingLemmas.{left_is}
use Rattle.codec_payload_buffer.proofs.buffer.DepacketizingBuffer.pop_unit_counted.Goals as goal

pub returns-in-None-clause-pops : goal.returns-in-None-clause-pops
returns-in-None-clause-pops g c =
    let pops : Pops c.args.self.now None c.args.self.now = ([], (none, sym c.due.ensures.due ∙ c.in-None.is)) in (
      pops,
      left_is c.args.self.now None c.args.self.now pops c.left_by.result 0 0 0 0 c.left_by.ensures.incomplete c.left_by.ensures.skipped c.left_by.ensures.refused (omega arith) refl refl refl,
    )
