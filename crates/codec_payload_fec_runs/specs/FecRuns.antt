-- Runs over datagrams with FEC: a receiver of FEC gets datagrams of the stream and of its FEC, and the receiver of the stream gets what it
-- hands out.
use Rattle.std.specs.Prelude.{◌≡◌, ℕ, ◌+◌, ◌-◌, ◌≤◌, nat_le, if◌then◌else◌, List, [], ◌∷◌, ◌++◌, Option, Some, None, slice_get}
use Rattle.codec_payload_base.specs.declared.wire.Ticks.{Ticks}
use Rattle.codec_payload_rtp.specs.RtpReading.{rtp_at}
use Rattle.codec_payload_fec_receiver.specs.Contents.{content_of}
use Rattle.codec_payload_fec_receiver.specs.Runs.{HoldsNothing, IsOfSender, IsSender}
use Rattle.codec_payload_fec_receiver.specs.States.{State, next_of, received}
use Rattle.codec_payload_payloader.specs.Sending.{Sample}
use Rattle.codec_payload_sending.specs.Senders.{Sending}
use Rattle.codec_payload_receiver.specs.Sessions.{Session}
use Rattle.codec_payload_datagram_runs.specs.Releases.{ReleasesWithinWindows}
use Rattle.codec_payload_datagram_runs.specs.WireRuns.{Delivers, DoesStep, Receipt, Runs, Wire, begins}
use Rattle.codec_payload_datagram_runs.specs.declared.run.DatagramStep.{DatagramStep}
use Rattle.codec_payload_datagram_runs.specs.declared.run.DatagramStep.TheVariants as steps

-- a step: one of a run over datagrams; a datagram reaches the receiver of FEC; the receiver of FEC is asked for a packet, and the receiver
-- of the stream gets it
pub data FecStep : Type 0 where
  Plain : DatagramStep → FecStep
  Reaches : (datagram : List ℕ) → FecStep
  Rebuilds : (now : Ticks) → FecStep

-- a run over datagrams, and the receiver of FEC
pub record FecWire : Type 0 where
  pub wire : Wire
  pub fec : State

-- the receiver of the stream gets a packet
pub record GetsPacket (now : Ticks) (packet : List ℕ) (s t : Wire) : Type 0 where
  pub receipt : Receipt
  pub session : Session
  pub delivers : Delivers now packet s.session receipt session
  pub left : t ≡ record s { session = session; receipts = s.receipts ++ receipt ∷ [] }

abbrev pub GetsIf : Ticks → Option (List ℕ) → Wire → Wire → Type 0
GetsIf now None s t = t ≡ s
GetsIf now (Some packet) s t = GetsPacket now packet s t

-- ---- the sender

-- datagram k was sent with the number first + k, counted without wrap
abbrev pub sent_at : ℕ → List (List ℕ) → ℕ → Option (List ℕ)
sent_at first datagrams n = if nat_le first n then slice_get datagrams (n - first) else None

-- The steps, in order. What reaches the receiver of FEC is of the sender of the run: a datagram that was sent before, in RED or not, or FEC
-- that was made from such. `highest`: the highest number of these so far
abbrev pub FecRuns : (first : ℕ) → List Sample → Option ℕ → List FecStep → FecWire → FecWire → Type 0
FecRuns first samples highest [] s t = t ≡ s
FecRuns first samples highest (Plain step ∷ later) s t =
    (wire : Wire) × DoesStep samples step s.wire wire × FecRuns first samples highest later (record s { wire = wire }) t
FecRuns first samples highest (Reaches datagram ∷ later) s t =
    (after : Option ℕ) × IsOfSender s.fec.settings (sent_at first s.wire.datagrams) (content_of s.fec.settings (rtp_at datagram)) highest after
    × FecRuns first samples after later (record s { fec = received datagram s.fec }) t
FecRuns first samples highest (Rebuilds now ∷ later) s t =
    (wire : Wire) × GetsIf now (next_of s.fec).packet s.wire wire × FecRuns first samples highest later (record { wire = wire; fec = (next_of s.fec).state }) t

-- ---- a run with FEC is a run over datagrams

-- the same steps; a rebuilt packet is a delivery of a datagram that was sent
pub data AreDeliveries : List FecStep → List DatagramStep → Type 0 where
  no_steps : AreDeliveries [] []
  plain_too : (step : DatagramStep) (later : List FecStep) (deliveries : List DatagramStep) → AreDeliveries later deliveries → AreDeliveries (Plain step ∷ later) (step ∷ deliveries)
  not_seen : (datagram : List ℕ) (later : List FecStep) (deliveries : List DatagramStep) → AreDeliveries later deliveries → AreDeliveries (Reaches datagram ∷ later) deliveries
  rebuilt_nothing : (now : Ticks) (later : List FecStep) (deliveries : List DatagramStep) → AreDeliveries later deliveries → AreDeliveries (Rebuilds now ∷ later) deliveries
  rebuilt_one : (now : Ticks) (k : ℕ) (later : List FecStep) (deliveries : List DatagramStep) → AreDeliveries later deliveries → AreDeliveries (Rebuilds now ∷ later) (steps.Deliver k now ∷ deliveries)

pub record IsRun (samples : List Sample) (fec_steps : List FecStep) (s t : FecWire) : Type 0 where
  pub deliveries : List DatagramStep
  pub are : AreDeliveries fec_steps deliveries
  pub runs : Runs samples deliveries s.wire t.wire

-- the receiver of FEC holds nothing; the datagrams of the run are RTP packets of its SSRC, whose numbers follow one another from `first` on
pub record IsWithFec (first : ℕ) (samples : List Sample) (fec_steps : List FecStep) (s t : FecWire) : Type 0 where
  pub runs : FecRuns first samples None fec_steps s t
  pub nothing : HoldsNothing s.fec
  pub sender : IsSender s.fec.settings.ssrc (sent_at first t.wire.datagrams)

abbrev pub RunsWithFecAreRuns : Type 0
RunsWithFecAreRuns = (first : ℕ) (samples : List Sample) (fec_steps : List FecStep) (s t : FecWire) → IsWithFec first samples fec_steps s t → IsRun samples fec_steps s t

-- so it releases what a run over datagrams does, with these deliveries
pub record ReleasesAsRun (samples : List Sample) (fec_steps : List FecStep) (s t : FecWire) : Type 0 where
  pub is_run : IsRun samples fec_steps s t
  pub releases : ReleasesWithinWindows samples is_run.deliveries s.wire t.wire

abbrev pub ReleaseWithFec : Type 0
ReleaseWithFec =
    (first : ℕ) (samples : List Sample) (fec_steps : List FecStep) (sender : Sending) (receiver : Session) (fec : State) (t : FecWire)
    → IsWithFec first samples fec_steps (record { wire = begins sender receiver; fec = fec }) t → ReleasesAsRun samples fec_steps (record { wire = begins sender receiver; fec = fec }) t
