use Rattle.codec_payload_base.proofs.Leb128Lemmas.{SoFar}
use Rattle.codec_payload_base.proofs.bits.BitReaderBitRead.get_leb128.Given as goal

abbrev pub invariant-loop-place : goal.invariant-loop-place
invariant-loop-place l = SoFar l.initial.self l.self l.place l.value
