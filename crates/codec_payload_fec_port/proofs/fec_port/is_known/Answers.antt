use Rattle.std.proofs.Common.{Option, sym, ap}
use Rattle.std.specs.Prelude.{is_some}
use Rattle.codec_payload_fec_port.specs.Streams.{is_of}
use Rattle.codec_payload_fec_port.specs.declared.fec_stream.FecStream.{FecStream}
use Rattle.codec_payload_fec_port.proofs.FirstLemmas.{find_none, known_some}
use Rattle.codec_payload_fec_port.proofs.fec_port.is_known.Goals as goal

pub returns-in-None : goal.returns-in-None
returns-in-None c = sym (ap (λ (o : Option FecStream). is_some o) (find_none (is_of c.args.ssrc) c.args.streams.now (sym c.in-None.ensures.value)))

pub returns-in-Some : goal.returns-in-Some
returns-in-Some c = known_some (is_of c.args.ssrc) c.args.streams.now c.in-Some.field-0 (sym c.in-Some.ensures.value)
