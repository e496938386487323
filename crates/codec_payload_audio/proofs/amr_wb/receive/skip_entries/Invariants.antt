use Rattle.std.proofs.Common.{◌≡◌, ◌%◌, true, length}
use Rattle.codec_payload_base.specs.Bits.{left}
use Rattle.codec_payload_audio.proofs.AmrWbEntryLemmas.{SoFar}
use Rattle.codec_payload_audio.proofs.amr_wb.receive.skip_entries.Given as goal

abbrev pub invariant-loop-entry : goal.invariant-loop-entry
invariant-loop-entry l = record {
  read : SoFar l.octet_align (left l.initial.reader) (left l.reader);
  whole : l.octet_align ≡ true → length (left l.reader) % 8 ≡ 0;
}

abbrev pub decreases-loop-entry : goal.decreases-loop-entry
decreases-loop-entry l = length (left l.reader)
