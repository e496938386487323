use Rattle.std.proofs.Common.{rules}
use Rattle.codec_payload_base.proofs.PaddingLemmas.{copied_to_front}
use Rattle.codec_payload_base.proofs.wire.extension.VideoLayersAllocation.new.Goals as goal

pub invariant_of-result : goal.invariant_of-result
invariant_of-result c = copied_to_front c.args.bytes.now c.copy_from_slice.new.self c.in_ok-len.len c.copy_from_slice.ensures.after (search rules)
