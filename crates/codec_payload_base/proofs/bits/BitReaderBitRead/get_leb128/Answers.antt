use Rattle.std.proofs.Common.{arith, ◌≡◌, ◌%◌, ◌∙◌}
use Rattle.std.proofs.lemmas.Nat.{and_mask}
use Rattle.codec_payload_base.proofs.Leb128Lemmas.{so_far_more, reads_last}
use Rattle.codec_payload_base.proofs.bits.BitReaderBitRead.get_leb128.Goals as goal

pub returns-then-byte-lt128 : goal.returns-then-byte-lt128
returns-then-byte-lt128 c =
    let low : c.from.result ≡ c.in_ok-byte.byte % 128 = c.from.ensures ∙ and_mask c.in_ok-byte.byte 7 in
    rw low (reads_last _ c.loop-place.self _ c.loop-place.place c.loop-place.value c.in_ok-byte.byte (omega arith) c.loop-place.invariant c.in_ok-byte.ensures c.if-byte-lt128.true)

pub loop-place-preserved : goal.loop-place-preserved
loop-place-preserved c =
    let low : c.from.result ≡ c.in_ok-byte.byte % 128 = c.from.ensures ∙ and_mask c.in_ok-byte.byte 7 in
    rw low (so_far_more _ c.loop-place.self _ c.loop-place.place c.loop-place.value c.in_ok-byte.byte (omega arith) c.loop-place.invariant c.in_ok-byte.ensures c.if-byte-lt128.false)
