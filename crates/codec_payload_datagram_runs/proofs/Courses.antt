-- Runs in which copies of datagrams are delivered: the datagram itself, or a retransmission of it.
use Rattle.std.proofs.Common.{◌≡◌, refl, ℕ, List, [], ◌∷◌, ◌++◌, ◌⊎◌, inl, Option, Some, None, MatchOption}
use Rattle.std.specs.Prelude.{slice_get}
use Rattle.codec_payload_base.specs.declared.wire.Ticks.{Ticks}
use Rattle.codec_payload_sending_history.specs.Histories.{Repeats}
use Rattle.codec_payload_sending_history.specs.declared.retransmission.RetransmissionStream.{RetransmissionStream}
use Rattle.codec_payload_payloader.specs.Sending.{Sample}
use Rattle.codec_payload_receiver.specs.Sessions.{Session}
use Rattle.codec_payload_datagram_runs.specs.WireRuns.{Delivers, DoesStep, Receipt, Runs, Wire}
use Rattle.codec_payload_datagram_runs.specs.declared.run.DatagramStep.{DatagramStep}
use Rattle.codec_payload_datagram_runs.specs.declared.run.DatagramStep.TheVariants as steps

-- the bytes are the datagram, or a retransmission of it under some number
abbrev pub IsCopy : Option RetransmissionStream → List ℕ → List ℕ → Type 0
IsCopy again datagram bytes = (bytes ≡ datagram) ⊎ ((next : ℕ) × Repeats again next datagram bytes)

-- a copy of the datagram is delivered, if the datagram was sent
abbrev pub DeliversCopy : Option RetransmissionStream → Option (List ℕ) → Ticks → Wire → Wire → Type 0
DeliversCopy again o now s t =
    MatchOption o (t ≡ s) (λ datagram.
    (bytes : List ℕ) × IsCopy again datagram bytes
    × (receipt : Receipt) × (session : Session) × Delivers now bytes s.session receipt session × (t ≡ record s { session = session; receipts = s.receipts ++ receipt ∷ [] }))

-- one step
abbrev pub Makes : Option RetransmissionStream → List Sample → DatagramStep → Wire → Wire → Type 0
Makes again samples (steps.Send i) s t = DoesStep samples (steps.Send i) s t
Makes again samples (steps.Deliver k now) s t = DeliversCopy again (slice_get s.datagrams k) now s t
Makes again samples (steps.Pop now) s t = DoesStep samples (steps.Pop now) s t
Makes again samples steps.Finish s t = DoesStep samples steps.Finish s t

-- the steps, in order
abbrev pub Proceeds : Option RetransmissionStream → List Sample → List DatagramStep → Wire → Wire → Type 0
Proceeds again samples [] s t = t ≡ s
Proceeds again samples (step ∷ later) s t = (mid : Wire) × Makes again samples step s mid × Proceeds again samples later mid t

delivers_copy : (again : Option RetransmissionStream) (o : Option (List ℕ)) (now : Ticks) (s t : Wire)
    → MatchOption o (t ≡ s) (λ bytes. (receipt : Receipt) × (session : Session) × Delivers now bytes s.session receipt session
    × (t ≡ record s { session = session; receipts = s.receipts ++ receipt ∷ [] }))
    → DeliversCopy again o now s t
delivers_copy again None now s t same = same
delivers_copy again (Some bytes) now s t done = (bytes, inl refl, done.0, done.1, done.2, done.3)

-- a step without retransmissions
pub makes : (again : Option RetransmissionStream) (samples : List Sample) (step : DatagramStep) (s t : Wire) → DoesStep samples step s t → Makes again samples step s t
makes again samples (steps.Send i) s t does = does
makes again samples (steps.Deliver k now) s t does = delivers_copy again (slice_get s.datagrams k) now s t does
makes again samples (steps.Pop now) s t does = does
makes again samples steps.Finish s t does = does

-- a run without retransmissions
pub proceeds : (again : Option RetransmissionStream) (samples : List Sample) (all_steps : List DatagramStep) (s t : Wire) → Runs samples all_steps s t → Proceeds again samples all_steps s t
proceeds again samples [] s t run = run
proceeds again samples (step ∷ later) s t run = (run.0, makes again samples step s run.0 run.1, proceeds again samples later run.0 t run.2)
