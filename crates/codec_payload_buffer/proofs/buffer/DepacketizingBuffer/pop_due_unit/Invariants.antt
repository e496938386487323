use Rattle.std.proofs.Common.{◌≡◌, ◌≤◌, ◌+◌, List, length}
use Rattle.codec_payload_buffer.specs.Leaving.{packets_in}
use Rattle.codec_payload_buffer.specs.Held.{Rises}
use Rattle.codec_payload_buffer.specs.Steps.{Passes, due_of}
use Rattle.codec_payload_buffer.specs.declared.buffer.frames.CompleteFrame.{CompleteFrame}
use Rattle.codec_payload_buffer.proofs.buffer.DepacketizingBuffer.pop_due_unit.Given as goal

abbrev pub invariant-loop-due : goal.invariant-loop-due
invariant-loop-due g l = record {
  over : List CompleteFrame;
  -- these frames were skipped so far
  passes : Passes l.initial.self over l.self;
  -- with these packets
  counted : l.skipped ≡ packets_in over l.initial.self.held;
  -- no packet is counted twice
  fewer : l.skipped + length l.self.held ≤ length l.initial.self.held;
  limit : l.self.limit ≡ l.initial.self.limit;
  -- the frame that is due is looked up once for each round
  due : l.due ≡ due_of l.self;
  rises : Rises l.self.held;
}

-- each takes a packet with it
abbrev pub decreases-loop-due : goal.decreases-loop-due
decreases-loop-due g l = length l.self.held
