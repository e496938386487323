use Rattle.std.proofs.Common.{◌≡◌, ◌++◌, subst}
use Rattle.std.specs.Prelude.{OnOk}
use Rattle.codec_payload_rtcp.specs.RtcpItems.{block_bytes}
use Rattle.codec_payload_rtcp.specs.declared.items.ReportBlock.{ReportBlock}
use Rattle.codec_payload_c_packets.specs.RtcpWriting.{given_bytes}
use Rattle.codec_payload_c_packets.proofs.ReportLemmas.{length_more, on_ok}
use Rattle.codec_payload_c_packets.proofs.rtcp_writing.append_block.Goals as goal

pub returns : goal.returns
unfolding given_bytes
returns c = record {
  bytes = subst (λ (b : ReportBlock). OnOk c.write.result (c.write.new.blocks.items ≡ c.args.list.now.items ++ block_bytes b)) c.block_given.ensures c.write.ensures.written;
  len = on_ok c.write.result (length_more c.block_given.result c.args.list.now.items c.write.new.blocks.items) c.write.ensures.written;
}
