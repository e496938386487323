use Rattle.std.proofs.Common.{◌∙◌, ap, rules}
use Rattle.codec_payload_codec.specs.Depacketizers.{is_built_in_depacketizer}
use Rattle.codec_payload_jitter.proofs.OwnLemmas.{stores_then}
use Rattle.codec_payload_receiver.proofs.blocks.recover_all.Goals as goal

pub loop-copy-preserved : goal.loop-copy-preserved
loop-copy-preserved g c = record {
  all = search rules;
  own = λ other.
      let first = c.loop-copy.invariant.own other in
      stores_then _ _ c.args.packets.now.buffer c.loop-copy.packets.buffer c.push_recovered.new.self.buffer first
      (c.in-Ok.ensures.own (ap is_built_in_depacketizer first.stays ∙ other));
}
