use Rattle.std.proofs.Common.{◌∙◌, sym, ap, slice_set}
use Rattle.codec_payload_fec_port.specs.Streams.{is_of, restarted}
use Rattle.codec_payload_fec_port.specs.declared.fec_stream.FecStream.{FecStream}
use Rattle.codec_payload_fec_port.proofs.FirstLemmas.{changed_none, changed_some}
use Rattle.codec_payload_fec_port.proofs.fec_port.restart_one.Goals as goal

pub returns-in-None : goal.returns-in-None
returns-in-None c = sym (changed_none (is_of c.args.ssrc) restarted c.args.streams.now (sym c.in-None.ensures.value))

pub returns-in-Some : goal.returns-in-Some
returns-in-Some c =
    ap (λ (t : FecStream). slice_set c.args.streams.now c.in-Some.place t) c.restart.ensures
    ∙ changed_some (is_of c.args.ssrc) restarted c.args.streams.now c.in-Some.place c.index-streams-place.result (sym c.in-Some.ensures.value)
