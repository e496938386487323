use Rattle.std.proofs.Common.{sym, ap}
use Rattle.std.specs.Option.{option_map}
use Rattle.codec_payload_fec_port.specs.Streams.{is_of}
use Rattle.codec_payload_fec_port.specs.declared.fec_stream.FecStream.{FecStream}
use Rattle.codec_payload_fec_port.proofs.FirstLemmas.{find_none, find_some}
use Rattle.codec_payload_fec_port.proofs.fec_port.counts_in.Goals as goal

pub returns-in-None : goal.returns-in-None
returns-in-None c = sym (ap (option_map (λ (t : FecStream). t.counts)) (find_none (is_of c.args.ssrc) c.args.streams.now (sym c.in-None.ensures.value)))

pub returns-in-Some : goal.returns-in-Some
returns-in-Some c =
    sym (ap (option_map (λ (t : FecStream). t.counts)) (find_some (is_of c.args.ssrc) c.args.streams.now c.in-Some.place c.index-streams-place.result (sym c.in-Some.ensures.value)))
