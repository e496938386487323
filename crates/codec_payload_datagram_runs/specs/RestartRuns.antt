-- The parts of a run over datagrams whose sender restarts, one after another.
use Rattle.std.specs.Prelude.{◌≡◌, ℕ, ◌⊎◌, Bool, true, false, List, [], ◌∷◌, Option, Some, None}
use Rattle.codec_payload_base.specs.declared.error.PacketError.{PacketError}
use Rattle.codec_payload_buffer.specs.Steps.{State}
use Rattle.codec_payload_buffer_runs.specs.Schedule.{Answer}
use Rattle.codec_payload_payloader.specs.Sending.{Sample}
use Rattle.codec_payload_sending.specs.Datagrams.{Sample as SentNow}
use Rattle.codec_payload_sending.specs.Senders.{Sending}
use Rattle.codec_payload_datagrams.specs.Kinds.{retransmitted_under}
use Rattle.codec_payload_receiver.specs.Sessions.{Session, restarted}
use Rattle.codec_payload_datagram_runs.specs.OwnRuns.{AsksInRun}
use Rattle.codec_payload_datagram_runs.specs.WireRuns.{Runs, Stops, Wire, begins, wire_of}
use Rattle.codec_payload_datagram_runs.specs.declared.restart_run.Part.{Part}
use Rattle.codec_payload_datagram_runs.specs.declared.run.DatagramRun.{DatagramRun}
use Rattle.codec_payload_datagram_runs.specs.declared.run.DatagramStep.{DatagramStep}

-- the receiver after a restart was announced, with the SSRC of the next sender if it was named
abbrev pub told : Option ℕ → Session → Session
told None s = restarted s.named s
told (Some ssrc) s = restarted (Some ssrc) (record s { stream = retransmitted_under None s.stream; named = Some ssrc })

-- nobody restarts before the first part
abbrev pub told_if : Bool → Option ℕ → Session → Session
told_if false ssrc s = s
told_if true ssrc s = told ssrc s

-- the parts, in order, each with its sender: `R` relates the states before and after the steps of a part. Before the first of these
-- parts a restart is announced if `later`. `runs` has the results of each part, `after` the senders and t the receiver in the end
abbrev pub RunsPartsBy : (R : List DatagramStep → Wire → Wire → Type 0) (later : Bool) → List Part → List Sending → Session → (runs : List DatagramRun) (after : List Sending) (t : Session) → Type 0
RunsPartsBy R later [] senders s runs after t = (runs ≡ []) × (after ≡ senders) × (t ≡ s)
RunsPartsBy R later (part ∷ parts) [] s runs after t = (runs ≡ []) × (after ≡ []) × (t ≡ s)
RunsPartsBy R later (part ∷ parts) (sender ∷ senders) s [] after t = ⊥
RunsPartsBy R later (part ∷ parts) (sender ∷ senders) s (run ∷ runs) [] t = ⊥
RunsPartsBy R later (part ∷ parts) (sender ∷ senders) s (run ∷ runs) (sent ∷ after) t =
    (mid : Session) × R part.steps.items (begins sender (told_if later part.ssrc s)) (wire_of sent mid run) × RunsPartsBy R true parts senders mid runs after t

-- each part is a run over datagrams
abbrev pub RunsParts : List Sample → Bool → List Part → List Sending → Session → List DatagramRun → List Sending → Session → Type 0
RunsParts samples = RunsPartsBy (Runs samples)

-- the same, with what each step asks custom codecs
abbrev pub AsksInParts : (SentNow → Sending → Option PacketError → Sending → Type 0) → (State → State → Type 0) → (ℕ → Session → Answer → Type 0)
    → List Sample → Bool → List Part → List Sending → Session → List DatagramRun → List Sending → Session → Type 0
AsksInParts Sends Stores Gives samples = RunsPartsBy (AsksInRun Sends Stores Gives samples)

-- memory ran out before a part began, or in a part: at that step, as `Stops` says
abbrev pub StopsParts : List Sample → (later : Bool) → List Part → List Sending → Session → (after : List Sending) (t : Session) → Type 0
StopsParts samples later [] senders s after t = ⊥
StopsParts samples later (part ∷ parts) [] s after t = ⊥
StopsParts samples later (part ∷ parts) (sender ∷ senders) s after t =
    ((after ≡ sender ∷ senders) × (t ≡ s))
    ⊎ (((sent : Sending) × (after ≡ sent ∷ senders) × Stops samples part.steps.items (begins sender (told_if later part.ssrc s)) sent t)
    ⊎ ((sent : Sending) × (mid : Session) × (run : DatagramRun) × (rest : List Sending) × (after ≡ sent ∷ rest)
    × Runs samples part.steps.items (begins sender (told_if later part.ssrc s)) (wire_of sent mid run) × StopsParts samples true parts senders mid rest t))
