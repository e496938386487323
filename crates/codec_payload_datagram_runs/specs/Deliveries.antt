-- Packets that were delivered before a pop, and units whose packets were delivered in time.
use Rattle.std.specs.Prelude.{◌≡◌, ℕ, ◌+◌, ◌<◌, ◌≤◌, ◌⊎◌, true, List, [], ◌∷◌, ◌++◌, Option, Some, None, Ok, Err}
use Rattle.codec_payload_base.specs.declared.wire.Ticks.{Ticks}
use Rattle.codec_payload_buffer.specs.Held.{Held, has_number}
use Rattle.codec_payload_metadata.specs.declared.meta.RtpMeta.{RtpMeta}
use Rattle.codec_payload_buffer_runs.specs.Log.{Turn}
use Rattle.codec_payload_buffer_runs.specs.Schedule.{Answer}
use Rattle.codec_payload_datagram_runs.specs.declared.run.DatagramStep.{DatagramStep}
use Rattle.codec_payload_datagram_runs.specs.declared.run.DatagramStep.TheVariants as steps

-- a delivery: the number of its packet, as the receiver reports it, and the time of arrival
pub record Delivery : Type 0 where
  pub number : ℕ
  pub at : Ticks

-- one of these deliveries brought this packet: it has the packet's number and time of arrival
abbrev pub IsBrought : List Delivery → RtpMeta → Type 0
IsBrought [] meta = ⊥
IsBrought (d ∷ ds) meta = ((meta.seq_no.0 ≡ d.number) × (meta.received ≡ d.at)) ⊎ IsBrought ds meta

abbrev pub AreBrought : List Delivery → List RtpMeta → Type 0
AreBrought ds [] = Unit {0}
AreBrought ds (m ∷ ms) = IsBrought ds m × AreBrought ds ms

-- they brought all packets of the unit, if one is released
abbrev pub IsOfBrought : List Delivery → Answer → Type 0
IsOfBrought ds None = Unit {0}
IsOfBrought ds (Some (Err fault)) = Unit {0}
IsOfBrought ds (Some (Ok r)) = AreBrought ds r.metas

-- the deliveries by the end of these steps, the latest first: those of `before`, and those of the steps. The datagram with the index
-- 0 has the number `first`
abbrev pub brought_by : ℕ → List Delivery → List DatagramStep → List Delivery
brought_by first before [] = before
brought_by first before (steps.Send i ∷ later) = brought_by first before later
brought_by first before (steps.Deliver k now ∷ later) = brought_by first (record { number = first + k; at = now } ∷ before) later
brought_by first before (steps.Pop now ∷ later) = brought_by first before later
brought_by first before (steps.Finish ∷ later) = brought_by first before later

-- each pop of these steps returns packets that were delivered before it: in `before`, or by a step in front of the pop
abbrev pub PopsAreBrought : ℕ → List Delivery → List DatagramStep → List Answer → Type 0
PopsAreBrought first before [] answers = Unit {0}
PopsAreBrought first before (steps.Send i ∷ later) answers = PopsAreBrought first before later answers
PopsAreBrought first before (steps.Deliver k now ∷ later) answers = PopsAreBrought first (record { number = first + k; at = now } ∷ before) later answers
PopsAreBrought first before (steps.Pop now ∷ later) [] = ⊥
PopsAreBrought first before (steps.Pop now ∷ later) (answer ∷ answers) = IsOfBrought before answer × PopsAreBrought first before later answers
PopsAreBrought first before (steps.Finish ∷ later) answers = PopsAreBrought first before later answers

-- the cutoff, if there is one, is below a number
abbrev pub IsCutoffBelow : ℕ → Option ℕ → Type 0
IsCutoffBelow low None = Unit {0}
IsCutoffBelow low (Some cutoff) = cutoff < low

-- before one of these pops all packets with the numbers from `low` up to `high` were pushed: in `pushed`, or since then. Each earlier
-- one of these pops left the cutoff below them, so none of them released or skipped a frame that ends later, and no push before
-- it evicted one of these packets or a later one
abbrev pub ComesInTime : (low high : ℕ) (pushed : List Held) → List Turn → Type 0
ComesInTime low high pushed [] = ⊥
ComesInTime low high pushed (turn ∷ turns) =
    ((n : ℕ) → low ≤ n → n < high → has_number n (pushed ++ turn.stretch.pushes) ≡ true)
    ⊎ (IsCutoffBelow low turn.after.cutoff × ComesInTime low high (pushed ++ turn.stretch.pushes) turns)
