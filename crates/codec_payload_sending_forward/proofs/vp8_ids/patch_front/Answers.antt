use Rattle.std.proofs.Common.{rules}
use Rattle.codec_payload_sending_forward.proofs.PatchLemmas.{patched_over}
use Rattle.codec_payload_sending_forward.proofs.vp8_ids.patch_front.Goals as goal

pub returns-then-reaches : goal.returns-then-reaches
returns-then-reaches c =
    patched_over c.args.patch c.min-front.result c.args.payload.now c.args.copy.now c.copy_to.new.dst (search rules) c.requires.same (search rules) (search rules)
