use Rattle.std.proofs.Common.{length, refl, rules}
use Rattle.codec_payload_session_formats.proofs.NameLemmas.{copied_to_front}
use Rattle.codec_payload_session_formats.proofs.names.StreamName.new.Goals as goal

pub invariant_of-result : goal.invariant_of-result
invariant_of-result c = copied_to_front c.args.bytes.now c.copy_from_slice.new.self (length c.args.bytes.now) c.copy_from_slice.ensures.after refl (search rules)
