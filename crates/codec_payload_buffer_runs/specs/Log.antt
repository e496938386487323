-- A run described pop by pop: the pushes before each pop, its result, and the state of the buffer.
use Rattle.std.specs.Prelude.{◌≡◌, ◌≢◌, ℕ, ◌+◌, List, [], ◌∷◌, ◌++◌, Option, Some, None, Err, map, take, slice_get}
use Rattle.codec_payload_base.specs.declared.error.PacketError.TheVariants as faults
use Rattle.codec_payload_codec.specs.Depacketizers.{DepacketizerState}
use Rattle.codec_payload_buffer_runs.specs.Headline.{ReleasesInOrder}
use Rattle.codec_payload_buffer.specs.Held.{Held}
use Rattle.codec_payload_buffer_runs.specs.LawfulUnits.{AllLawful}
use Rattle.codec_payload_payloader.specs.Packets.{Packet}
use Rattle.codec_payload_buffer_runs.specs.RunCounts.{sent_before}
use Rattle.codec_payload_buffer_runs.specs.Schedule.{Answer, RunState, meta_of_push}
use Rattle.codec_payload_payloader.specs.Sending.{Sample}
use Rattle.codec_payload_buffer.specs.Steps.{State, arrived, PopsOver}
use Rattle.codec_payload_buffer.specs.Stretches.{after_pushes}
use Rattle.codec_payload_buffer.specs.declared.buffer.frames.CompleteFrame.{CompleteFrame}
use Rattle.codec_payload_codec.specs.Packetizers.{payloads_by, may_split}
use Rattle.codec_payload_buffer_runs.specs.declared.run.Sent.{Sent}
use Rattle.codec_payload_buffer_runs.specs.declared.run.Step.{Step}
use Rattle.codec_payload_buffer_runs.specs.declared.run.Step.TheVariants as steps

-- the time between two pops: the buffer after the previous pop, the packets pushed since, in order, and the buffer then
pub record Stretch : Type 0 where
  pub left : State
  pub pushes : List Held
  pub now : State

-- a pop: the stretch that ends with it, the frames that it skipped, latest first, its result, and the buffer afterwards
pub record Turn : Type 0 where
  pub stretch : Stretch
  pub passed : List CompleteFrame
  pub answer : Answer
  pub after : State

-- a stretch in which nothing was pushed yet
abbrev pub begun : State → Stretch
begun s = record { left = s; pushes = []; now = s }

-- a stretch with additional pushes
abbrev pub with_pushes : Stretch → List Held → Stretch
with_pushes w ps = record w { pushes = w.pushes ++ ps; now = after_pushes w.now ps }

-- the packet that step `place` names by its index, if it was sent by then
abbrev pub packet_named : List Packet → List Sent → ℕ → ℕ → Option Packet
packet_named packets sends place k = slice_get (take (sent_before place sends) packets) k

-- the push of step `place` for that packet, if there is one
abbrev pub held_of : ℕ → ℕ → Option Packet → DepacketizerState → List Held
held_of place clock_rate None depacketizer = []
held_of place clock_rate (Some p) depacketizer = arrived depacketizer (meta_of_push place clock_rate p) p.payload ∷ []

-- the steps from `place` on, with the stretch so far: each pop ends a turn, and the steps after the last pop are the stretch at the
-- end; `named` gives the pushes of a step from its place, the index that it names, and the depacketizer
abbrev pub IsLogBy : (ℕ → ℕ → DepacketizerState → List Held) → ℕ → List Step → Stretch → List Turn → Stretch → Type 0
IsLogBy named place [] w [] end = end ≡ w
IsLogBy named place [] w (turn ∷ turns) end = ⊥
IsLogBy named place (steps.Send i mtu ∷ later) w turns end = IsLogBy named (place + 1) later w turns end
IsLogBy named place (steps.Push k ∷ later) w turns end = IsLogBy named (place + 1) later (with_pushes w (named place k w.now.depacketizer)) turns end
IsLogBy named place (steps.Pop ∷ later) w [] end = ⊥
IsLogBy named place (steps.Pop ∷ later) w (turn ∷ turns) end =
    (turn.stretch ≡ w) × PopsOver w.now turn.passed turn.answer turn.after × (turn.answer ≢ Some (Err faults.OutOfMemory))
    × IsLogBy named (place + 1) later (begun turn.after) turns end

-- a step pushes the packet that it names
abbrev pub IsLog : List Packet → ℕ → List Sent → ℕ → List Step → Stretch → List Turn → Stretch → Type 0
IsLog packets clock_rate sends = IsLogBy (λ place k. held_of place clock_rate (packet_named packets sends place k))

-- a run described pop by pop, with the units that it sends; the codec meets its condition for each; `end` is the stretch after the
-- last pop
pub record RunLog (samples : List Sample) (all_steps : List Step) (s : RunState) (sends : List Sent) (pops : List Answer) (t : RunState) : Type 0 where
  pub released : ReleasesInOrder samples all_steps s sends pops t
  pub lawful : AllLawful (payloads_by s.payloading.packetizer) (may_split s.payloading.packetizer) released.units
  pub turns : List Turn
  pub end : Stretch
  pub is_log : IsLog t.sink.packets s.payloading.clock_rate sends 0 all_steps (begun s.buffer) turns end
  pub answers : map (λ (turn : Turn). turn.answer) turns ≡ pops
  pub left : end.now ≡ t.buffer
