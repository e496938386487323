-- What a pop that answers None says about time, by the wait limits at that pop: for any packets, and if the limits change in between.
use Rattle.std.specs.Prelude.{◌≡◌, ◌≢◌, ℕ, ◌+◌, ◌<◌, List, [], ◌∷◌, Some, None}
use Rattle.codec_payload_base.specs.declared.wire.Ticks.{Ticks}
use Rattle.codec_payload_buffer.specs.Blanks.{received_of}
use Rattle.codec_payload_buffer.specs.Frames.{frames}
use Rattle.codec_payload_buffer.specs.Steps.{State}
use Rattle.codec_payload_buffer.specs.declared.buffer.frames.CompleteFrame.{CompleteFrame}
use Rattle.codec_payload_jitter.specs.Receiving.{PopsWith, Receiving, settled, waiting_at}

-- at this time the first complete frame is not due: its packet with the highest number arrived less than `max_wait` before
pub record FirstWaits (max_wait now : ℕ) (s : State) : Type 0 where
  pub frame : CompleteFrame
  pub later : List CompleteFrame
  pub first : frames s.held ≡ frame ∷ later
  pub since : Ticks
  pub arrived : received_of frame.last s.held ≡ Some since
  pub not_due : now < since.0 + max_wait

-- a pop that answers None and leaves a complete frame: the first complete frame was not due
abbrev pub PopsLeaveNoneOverdue : Type 0
PopsLeaveNoneOverdue =
    (r t : Receiving) (max_wait now : ℕ) → r.wait_limits.max_wait ≡ Some max_wait → PopsWith (waiting_at (settled r) now) (settled r) None t
    → frames t.buffer.held ≢ [] → FirstWaits max_wait now (settled r).buffer
