use Rattle.std.proofs.Common.{◌≡◌, ◌≤◌, length}
use Rattle.codec_payload_references.specs.Frames.{Following}
use Rattle.codec_payload_references.specs.Notes.{above, up_to}
use Rattle.codec_payload_references.specs.Units.{Collects}
use Rattle.codec_payload_references.specs.declared.unit.UnitSoFar.{UnitSoFar}
use Rattle.codec_payload_references.proofs.notes.collect.Given as goal

-- what the notes that are left give, all of them give
abbrev pub invariant-loop-lowest : goal.invariant-loop-lowest
invariant-loop-lowest l = record {
  collects : (v : UnitSoFar) (s : Following) → Collects l.unit l.reader (up_to l.last l.held.items) v s → Collects l.initial.unit l.fn.reader (up_to l.last l.fn.held.items) v s;
  rest : above l.last l.held.items ≡ above l.last l.fn.held.items;
  room : l.fn.held.room ≤ l.held.room;
}

abbrev pub decreases-loop-lowest : goal.decreases-loop-lowest
decreases-loop-lowest l = length l.held.items
