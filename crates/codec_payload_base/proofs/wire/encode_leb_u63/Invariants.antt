use Rattle.codec_payload_base.proofs.LebLemmas.{WrittenTo}
use Rattle.codec_payload_base.proofs.wire.encode_leb_u63.Given as goal

abbrev pub invariant-loop-place : goal.invariant-loop-place
invariant-loop-place l = WrittenTo l.value l.fn.buf l.buf l.place l.rest
