use Rattle.std.proofs.Common.{arith}
use Rattle.codec_payload_base.proofs.LebLemmas.{none_written, in_buffer, byte_written, written_length, written_bytes}
use Rattle.codec_payload_base.proofs.wire.encode_leb_u63.Goals as goal

pub loop-place-init : goal.loop-place-init
loop-place-init c = none_written c.args.value c.args.buf.now c.requires.value

pub bounds-buf-place : goal.bounds-buf-place
bounds-buf-place c = in_buffer _ _ _ _ _ c.loop-place.invariant (omega arith)

pub returns-then-rest-lt128-clause-length : goal.returns-then-rest-lt128-clause-length
returns-then-rest-lt128-clause-length c =
    written_length _ _ _ _ _ c.loop-place.invariant (omega arith) (in_buffer _ _ _ _ _ c.loop-place.invariant (omega arith)) c.if-rest-lt128.true

pub returns-then-rest-lt128-clause-bytes : goal.returns-then-rest-lt128-clause-bytes
returns-then-rest-lt128-clause-bytes c =
    written_bytes _ _ _ _ _ c.loop-place.invariant (omega arith) (in_buffer _ _ _ _ _ c.loop-place.invariant (omega arith)) c.if-rest-lt128.true

pub bounds-buf-place-in-loop-place : goal.bounds-buf-place-in-loop-place
bounds-buf-place-in-loop-place c = in_buffer _ _ _ _ _ c.loop-place.invariant (omega arith)

pub loop-place-preserved : goal.loop-place-preserved
loop-place-preserved c = byte_written _ _ _ _ _ c.loop-place.invariant c.loop-place-test.true (in_buffer _ _ _ _ _ c.loop-place.invariant (omega arith)) c.if-rest-lt128.false
