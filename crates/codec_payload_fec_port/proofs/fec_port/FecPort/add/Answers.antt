use Rattle.std.proofs.Common.{rules}
use Rattle.std.specs.Option.{option_map}
use Rattle.codec_payload_fec_port.specs.Ports.{held_of}
use Rattle.codec_payload_fec_port.proofs.PortLemmas.{added_is}
use Rattle.codec_payload_fec_port.proofs.fec_port.FecPort.add.Goals as goal

pub returns-clause-ok : goal.returns-clause-ok
returns-clause-ok c =
    added_is c.self.inside.settings c.self.inside.streams.items c.put.new.streams.items c.self.inside.latest c.self.inside.taken c.self.inside.counts (option_map held_of c.self.inside.waiting) c.args.self.now c.note.new.self c.args.kind
    c.args.ssrc c.args.datagram.now c.args.leaving c.in_ok-stream.stream c.feed.new.self c.self.view_is (search rules) (search rules) (search rules) (search rules)
