use Rattle.std.proofs.Common.{◌≡◌, ℕ, ◌%◌, true, length, List}
use Rattle.codec_payload_base.specs.Bits.{left}
use Rattle.codec_payload_audio.proofs.AmrWbFramesLemmas.{FramesSoFar}
use Rattle.codec_payload_audio.proofs.amr_wb.receive.skip_frames.Given as goal

abbrev pub invariant-loop-entry : goal.invariant-loop-entry
invariant-loop-entry l = record {
  read : (added : List ℕ) × FramesSoFar l.octet_align (left l.initial.toc) (left l.initial.speech) (left l.toc) (left l.speech) added;
  whole : l.octet_align ≡ true → (length (left l.toc) % 8 ≡ 0) × (length (left l.speech) % 8 ≡ 0);
}

abbrev pub decreases-loop-entry : goal.decreases-loop-entry
decreases-loop-entry l = length (left l.toc)
