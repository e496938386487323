-- Runs in RED in which copies of written datagrams are delivered: the datagram itself, or a retransmission of it.
use Rattle.std.proofs.Common.{◌≡◌, refl, List, [], ◌∷◌, ◌++◌, inl, ℕ, Option, Some, None, MatchOption}
use Rattle.std.specs.Prelude.{slice_get}
use Rattle.codec_payload_base.specs.declared.wire.Ticks.{Ticks}
use Rattle.codec_payload_sending_history.specs.declared.retransmission.RetransmissionStream.{RetransmissionStream}
use Rattle.codec_payload_payloader.specs.Sending.{Sample}
use Rattle.codec_payload_receiver.specs.Sessions.{Session}
use Rattle.codec_payload_datagram_runs.proofs.Courses.{IsCopy}
use Rattle.codec_payload_datagram_runs.specs.RedRuns.{DeliversWhole, DoesRedStep, RedRuns, RedWire}
use Rattle.codec_payload_datagram_runs.specs.WireRuns.{Receipt}
use Rattle.codec_payload_datagram_runs.specs.declared.run.DatagramStep.{DatagramStep}
use Rattle.codec_payload_datagram_runs.specs.declared.run.DatagramStep.TheVariants as steps

-- a copy of the written datagram is delivered, if the datagram was written
abbrev pub DeliversRedCopy : Option RetransmissionStream → Option (List ℕ) → Ticks → RedWire → RedWire → Type 0
DeliversRedCopy again o now s t =
    MatchOption o (t ≡ s) (λ datagram.
    (bytes : List ℕ) × IsCopy again datagram bytes × (receipt : Receipt) × (session : Session) × DeliversWhole now bytes s.wire.session receipt session
    × (t ≡ record s { wire = record s.wire { session = session; receipts = s.wire.receipts ++ receipt ∷ [] } }))

-- one step
abbrev pub RedMakes : Option RetransmissionStream → List Sample → DatagramStep → RedWire → RedWire → Type 0
RedMakes again samples (steps.Send i) s t = DoesRedStep samples (steps.Send i) s t
RedMakes again samples (steps.Deliver k now) s t = DeliversRedCopy again (slice_get s.written k) now s t
RedMakes again samples (steps.Pop now) s t = DoesRedStep samples (steps.Pop now) s t
RedMakes again samples steps.Finish s t = DoesRedStep samples steps.Finish s t

-- the steps, in order
abbrev pub RedProceeds : Option RetransmissionStream → List Sample → List DatagramStep → RedWire → RedWire → Type 0
RedProceeds again samples [] s t = t ≡ s
RedProceeds again samples (step ∷ later) s t = (mid : RedWire) × RedMakes again samples step s mid × RedProceeds again samples later mid t

delivers_red_copy : (again : Option RetransmissionStream) (o : Option (List ℕ)) (now : Ticks) (s t : RedWire)
    → MatchOption o (t ≡ s) (λ bytes. (receipt : Receipt) × (session : Session) × DeliversWhole now bytes s.wire.session receipt session
    × (t ≡ record s { wire = record s.wire { session = session; receipts = s.wire.receipts ++ receipt ∷ [] } }))
    → DeliversRedCopy again o now s t
delivers_red_copy again None now s t same = same
delivers_red_copy again (Some bytes) now s t done = (bytes, inl refl, done.0, done.1, done.2, done.3)

-- a step without retransmissions
pub red_makes : (again : Option RetransmissionStream) (samples : List Sample) (step : DatagramStep) (s t : RedWire) → DoesRedStep samples step s t → RedMakes again samples step s t
red_makes again samples (steps.Send i) s t does = does
red_makes again samples (steps.Deliver k now) s t does = delivers_red_copy again (slice_get s.written k) now s t does
red_makes again samples (steps.Pop now) s t does = does
red_makes again samples steps.Finish s t does = does

-- a run without retransmissions
pub red_proceeds : (again : Option RetransmissionStream) (samples : List Sample) (all_steps : List DatagramStep) (s t : RedWire) → RedRuns samples all_steps s t
    → RedProceeds again samples all_steps s t
red_proceeds again samples [] s t run = run
red_proceeds again samples (step ∷ later) s t run = (run.0, red_makes again samples step s run.0 run.1, red_proceeds again samples later run.0 t run.2)
