use Rattle.codec_payload_audio.proofs.ShiftLemmas.{Shifted}
use Rattle.codec_payload_audio.proofs.amr_wb.shift.write_shifted.Given as goal

abbrev pub invariant-loop-i : goal.invariant-loop-i
invariant-loop-i l = Shifted l.initial.to l.to l.start l.bytes l.shift l.i
