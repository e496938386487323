-- A buffer's fields, as contracts see them.
use Rattle.std.specs.Prelude.{◌≡◌, ◌≤◌, List, map}
use Rattle.codec_payload_codec.specs.Depacketizers.{depacketizer_state_of}
use Rattle.codec_payload_buffer.specs.Held.{held_of}
use Rattle.codec_payload_buffer.specs.Steps.{State, IsSound}
use Rattle.codec_payload_buffer.specs.Frames.{frames}
use Rattle.codec_payload_buffer.specs.Rows.{rows}
use Rattle.codec_payload_buffer.specs.Ends.{Mark, AreTold}
use Rattle.codec_payload_buffer.specs.declared.buffer.DepacketizingBuffer.TheInside.{Inside}
use Rattle.codec_payload_buffer.specs.declared.buffer.frames.CompleteFrame.{CompleteFrame}

-- what the fields say of the buffer
abbrev pub state_of : {B : _} → Inside B → State
state_of b = record {
  held = map held_of b.packets.items;
  cutoff = b.cutoff;
  evicted = b.evicted;
  contiguity = b.contiguity;
  depacketizer = depacketizer_state_of b.depacketizer;
  hold_back = b.hold_back;
  limit = b.limit;
}

-- an invariant of every buffer: it is sound, its limit is in range, the ends of rows are noted in its packets, and its list of complete
-- frames has exactly those of the held set, in order
pub record IsIndexed (s : State) (marks : List Mark) (complete : List CompleteFrame) : Type 0 where
  pub sound : IsSound s
  pub least : 1 ≤ s.limit
  pub most : s.limit ≤ 65536
  pub told : AreTold (rows s.held) marks
  pub frames_are : complete ≡ frames s.held
