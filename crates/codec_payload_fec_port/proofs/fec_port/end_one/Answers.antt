use Rattle.std.proofs.Common.{◌∙◌, sym, rules}
use Rattle.codec_payload_fec_port.specs.Streams.{is_of}
use Rattle.codec_payload_fec_port.proofs.FirstLemmas.{without_none, without_some}
use Rattle.codec_payload_fec_port.proofs.fec_port.end_one.Goals as goal

pub returns-in-None : goal.returns-in-None
returns-in-None c = sym (without_none (is_of c.args.ssrc) c.args.streams.now.items (search rules))

pub returns-in-Some : goal.returns-in-Some
returns-in-Some c = c.remove.ensures.items ∙ without_some (is_of c.args.ssrc) c.args.streams.now.items c.in-Some.place c.remove.result (search rules)
