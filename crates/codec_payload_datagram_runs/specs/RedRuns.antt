-- The steps of a run over datagrams in RED (RFC 2198): a writer puts each sent datagram in RED, and written datagrams are delivered.
use Rattle.std.specs.Prelude.{◌≡◌, ◌≢◌, ℕ, List, [], ◌∷◌, ◌++◌, ◌⊎◌, Some, Err, MatchOption, slice_get}
use Rattle.codec_payload_base.specs.declared.wire.Ticks.{Ticks}
use Rattle.codec_payload_sending_red.specs.Writers.{IsFault, Writer, Writes}
use Rattle.codec_payload_sending_red.specs.declared.red_writer.RedWriteError.TheVariants as faults
use Rattle.codec_payload_payloader.specs.Sending.{Sample}
use Rattle.codec_payload_sending.specs.Senders.{Sending}
use Rattle.codec_payload_receiver.specs.Sessions.{ReceivesBytes, Session}
use Rattle.codec_payload_receiver.specs.declared.receiver.ReceiveError.TheVariants as refusals
use Rattle.codec_payload_datagram_runs.specs.HistoryRuns.{sent_since}
use Rattle.codec_payload_datagram_runs.specs.WireRuns.{Delivers, DoesStep, Receipt, StopsAt, Wire, begins, bytes_in, wire_of}
use Rattle.codec_payload_datagram_runs.specs.declared.red_run.RedRun.{RedRun}
use Rattle.codec_payload_datagram_runs.specs.declared.run.DatagramStep.{DatagramStep}
use Rattle.codec_payload_datagram_runs.specs.declared.run.DatagramStep.TheVariants as steps

-- sender, receiver and results as in a run without RED, with the datagrams of the sender; the writer; the datagrams in RED
pub record RedWire : Type 0 where
  pub wire : Wire
  pub writer : Writer
  pub written : List (List ℕ)

abbrev pub red_wire_of : Sending → Writer → Session → RedRun → RedWire
red_wire_of sending writer session run = record { wire = wire_of sending session run.run; writer = writer; written = bytes_in run.written.items }

-- before any step
abbrev pub begins_in_red : Sending → Writer → Session → RedWire
begins_in_red sending writer session = record { wire = begins sending session; writer = writer; written = [] }

-- the writer writes these datagrams, one after another
abbrev pub WritesAll : Writer → List (List ℕ) → List (List ℕ) → Writer → Type 0
WritesAll w [] outs t = (outs ≡ []) × (t ≡ w)
WritesAll w (datagram ∷ datagrams) outs t =
    (out : List ℕ) × (more : List (List ℕ)) × (mid : Writer) × (outs ≡ out ∷ more) × Writes w datagram out mid × WritesAll mid datagrams more t

-- it writes some of them, up to a datagram for which memory ran out
abbrev pub WritesSome : Writer → List (List ℕ) → Writer → Type 0
WritesSome w [] t = ⊥
WritesSome w (datagram ∷ datagrams) t =
    IsFault w datagram faults.OutOfMemory t ⊎ ((out : List ℕ) × (mid : Writer) × Writes w datagram out mid × WritesSome mid datagrams t)

-- the receiver receives a datagram with all its blocks
abbrev pub DeliversWhole : Ticks → List ℕ → Session → Receipt → Session → Type 0
DeliversWhole now bytes s receipt t = (receipt ≢ Err refusals.BlocksOutOfMemory) × Delivers now bytes s receipt t

-- memory ran out for the datagram, or for one of its blocks
abbrev pub StopsDelivering : Ticks → List ℕ → Session → Session → Type 0
StopsDelivering now bytes s t = ReceivesBytes now bytes s (Err refusals.OutOfMemory) t ⊎ ReceivesBytes now bytes s (Err refusals.BlocksOutOfMemory) t

-- a step of the run without RED; what it sends is written in RED
abbrev pub WritesWhatIsSent : List Sample → DatagramStep → RedWire → RedWire → Type 0
WritesWhatIsSent samples step s t =
    (wire : Wire) × (outs : List (List ℕ)) × (writer : Writer) × DoesStep samples step s.wire wire × WritesAll s.writer (sent_since s.wire wire) outs writer
    × (t ≡ record { wire = wire; writer = writer; written = s.written ++ outs })

-- one step: a `Deliver` that names a written datagram gets a receipt, and any other step is as in the run without RED
abbrev pub DoesRedStep : List Sample → DatagramStep → RedWire → RedWire → Type 0
DoesRedStep samples (steps.Send i) s t = WritesWhatIsSent samples (steps.Send i) s t
DoesRedStep samples (steps.Deliver k now) s t =
    MatchOption (slice_get s.written k) (t ≡ s) (λ bytes.
    (receipt : Receipt) × (session : Session) × DeliversWhole now bytes s.wire.session receipt session
    × (t ≡ record s { wire = record s.wire { session = session; receipts = s.wire.receipts ++ receipt ∷ [] } }))
DoesRedStep samples (steps.Pop now) s t = WritesWhatIsSent samples (steps.Pop now) s t
DoesRedStep samples steps.Finish s t = WritesWhatIsSent samples steps.Finish s t

-- memory ran out for a step of the run without RED, or for a datagram that should be written
abbrev pub StopsWriting : List Sample → DatagramStep → RedWire → Sending → Writer → Session → Type 0
StopsWriting samples step s sending writer session =
    ((writer ≡ s.writer) × StopsAt samples step s.wire sending session)
    ⊎ ((wire : Wire) × DoesStep samples step s.wire wire × (sending ≡ wire.sending) × (session ≡ wire.session) × WritesSome s.writer (sent_since s.wire wire) writer)

-- memory ran out for a step
abbrev pub RedStopsAt : List Sample → DatagramStep → RedWire → Sending → Writer → Session → Type 0
RedStopsAt samples (steps.Send i) s sending writer session = StopsWriting samples (steps.Send i) s sending writer session
RedStopsAt samples (steps.Deliver k now) s sending writer session =
    (bytes : List ℕ) × (slice_get s.written k ≡ Some bytes) × (sending ≡ s.wire.sending) × (writer ≡ s.writer)
    × ((session ≡ s.wire.session) ⊎ StopsDelivering now bytes s.wire.session session)
RedStopsAt samples (steps.Pop now) s sending writer session = StopsWriting samples (steps.Pop now) s sending writer session
RedStopsAt samples steps.Finish s sending writer session = StopsWriting samples steps.Finish s sending writer session

-- the steps, in order, up to a step for which memory ran out; the sender, the writer and the receiver after it
abbrev pub RedStops : List Sample → List DatagramStep → RedWire → Sending → Writer → Session → Type 0
RedStops samples [] s sending writer session = ⊥
RedStops samples (step ∷ later) s sending writer session =
    RedStopsAt samples step s sending writer session
    ⊎ ((mid : RedWire) × DoesRedStep samples step s mid × RedStops samples later mid sending writer session)

-- the steps, in order
abbrev pub RedRuns : List Sample → List DatagramStep → RedWire → RedWire → Type 0
RedRuns samples [] s t = t ≡ s
RedRuns samples (step ∷ later) s t = (mid : RedWire) × DoesRedStep samples step s mid × RedRuns samples later mid t
