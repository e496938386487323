use Rattle.std.proofs.Common.{◌≡◌, ◌%◌, true, length}
use Rattle.codec_payload_base.specs.Bits.{left}
use Rattle.codec_payload_audio.proofs.AmrWbFramesLemmas.{Gathered}
use Rattle.codec_payload_audio.proofs.amr_wb.receive.append_frames.Given as goal

abbrev pub invariant-loop-entry : goal.invariant-loop-entry
invariant-loop-entry l = record {
  read : Gathered l.octet_align (left l.initial.toc) (left l.initial.speech) (left l.toc) (left l.speech) l.initial.out.items l.out.items;
  whole : l.octet_align ≡ true → (length (left l.toc) % 8 ≡ 0) × (length (left l.speech) % 8 ≡ 0);
}

abbrev pub decreases-loop-entry : goal.decreases-loop-entry
decreases-loop-entry l = length (left l.toc)
