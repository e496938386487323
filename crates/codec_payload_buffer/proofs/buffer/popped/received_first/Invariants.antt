use Rattle.std.proofs.Common.{ℕ, ◌<◌, ◌≤◌, length, get_or}
use Rattle.codec_payload_metadata.specs.declared.meta.RtpMeta.{RtpMeta}
use Rattle.codec_payload_buffer.proofs.buffer.popped.received_first.Given as goal

abbrev pub invariant-loop-i : goal.invariant-loop-i
invariant-loop-i l = record {
  within : l.first < length l.metas;
  least : (k : ℕ) (d : RtpMeta) → k < l.i → (get_or l.metas l.first d).received.0 ≤ (get_or l.metas k d).received.0;
  earlier : (k : ℕ) (d : RtpMeta) → k < l.first → (get_or l.metas l.first d).received.0 < (get_or l.metas k d).received.0;
}
