use Rattle.std.proofs.Common.{map, refl, arith, rules}
use Rattle.codec_payload_rtcp.specs.SdesValues.{item_of}
use Rattle.codec_payload_rtcp.proofs.ExactWriting.{chunk_exact}
use Rattle.codec_payload_rtcp.proofs.SdesWriting.{chunk_written}
use Rattle.codec_payload_rtcp.proofs.sdes.write_chunk.Goals as goal

pub returns-clause-chunk : goal.returns-clause-chunk
returns-clause-chunk c =
    chunk_written c.extend_from_slice-2.result c.args.ssrc _ (map item_of c.args.items.now) c.args.chunks.now.items c.extend_from_slice.new.self.items c.put_items.new.out.items c.extend_from_slice-2.new.self.items
    (omega arith) c.requires (search rules) c.in_ok-put_items.ensures refl (search rules)

pub returns-clause-exact : goal.returns-clause-exact
returns-clause-exact c =
    chunk_exact c.extend_from_slice-2.result c.args.ssrc _ (map item_of c.args.items.now) c.args.chunks.now.items c.extend_from_slice.new.self.items c.put_items.new.out.items c.extend_from_slice-2.new.self.items
    (search rules) c.in_ok-put_items.ensures refl (search rules)
