use Rattle.codec_payload_rtcp.proofs.ExactWriting.{description_exact}
use Rattle.codec_payload_rtcp.proofs.SdesWriting.{description_written}
use Rattle.codec_payload_rtcp.proofs.packet.SourceDescription.write.Goals as goal

pub returns-clause-packet : goal.returns-clause-packet
returns-clause-packet c = description_written c.write_parts.result c.args.self.now.count c.args.self.now.chunks.now c.header.result c.args.out.now.items c.write_parts.new.out.items c.known_bytes.ensures c.requires c.header.ensures c.write_parts.ensures

pub returns-clause-exact : goal.returns-clause-exact
returns-clause-exact c = description_exact c.write_parts.result c.args.self.now.count c.args.self.now.chunks.now c.header.result c.args.out.now.items c.write_parts.new.out.items c.header.ensures c.write_parts.ensures
