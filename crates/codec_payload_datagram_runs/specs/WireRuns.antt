-- The steps of a run over datagrams, one after another.
use Rattle.std.specs.Prelude.{◌≡◌, ◌≢◌, ℕ, ◌<◌, ◌^◌, List, [], ◌∷◌, ◌++◌, ◌⊎◌, Option, Some, None, Result, Err, MatchOption, length, map, slice_get, true}
use Rattle.std.specs.Global.{Vec}
use Rattle.std.specs.Option.{is_some}
use Rattle.codec_payload_base.specs.declared.error.PacketError.{PacketError}
use Rattle.codec_payload_base.specs.declared.error.PacketError.TheVariants as faults
use Rattle.codec_payload_base.specs.declared.wire.Ticks.{Ticks}
use Rattle.codec_payload_buffer_runs.specs.Schedule.{Answer}
use Rattle.codec_payload_payloader.specs.Sending.{Sample}
use Rattle.codec_payload_jitter.specs.declared.outcome.Outcome.{Outcome}
use Rattle.codec_payload_sending.specs.Datagrams.{Sample as SentNow}
use Rattle.codec_payload_sending.specs.Senders.{Sending, Sends, Refuses}
use Rattle.codec_payload_receiver.specs.Pops.{PopsGated}
use Rattle.codec_payload_receiver.specs.Sessions.{Ends, ReceivesBytes, Session, first_waiting}
use Rattle.codec_payload_receiver.specs.declared.receiver.ReceiveError.{ReceiveError}
use Rattle.codec_payload_receiver.specs.declared.receiver.ReceiveError.TheVariants as refusals
use Rattle.codec_payload_datagram_runs.specs.declared.run.DatagramRun.{DatagramRun}
use Rattle.codec_payload_datagram_runs.specs.declared.run.DatagramStep.{DatagramStep}
use Rattle.codec_payload_datagram_runs.specs.declared.run.DatagramStep.TheVariants as steps
use Rattle.codec_payload_datagram_runs.specs.declared.run.SentSample.{SentSample}

-- a sender, a receiver, the datagrams sent so far, and the results of the steps: the entries of sends, the receipts of
-- delivered datagrams, and the answers of pops
pub record Wire : Type 0 where
  pub sending : Sending
  pub session : Session
  pub datagrams : List (List ℕ)
  pub sends : List SentSample
  pub receipts : List (Result Outcome ReceiveError)
  pub pops : List Answer

-- datagrams, without their places in memory
abbrev pub bytes_in : List (Vec ℕ) → List (List ℕ)
bytes_in = map (λ (v : Vec ℕ). v.items)

abbrev pub wire_of : Sending → Session → DatagramRun → Wire
wire_of sending session run = record {
  sending = sending;
  session = session;
  datagrams = bytes_in run.datagrams.items;
  sends = run.sends.items;
  receipts = run.receipts.items;
  pops = run.pops.items;
}

-- before any step
abbrev pub begins : Sending → Session → Wire
begins sending session = record { sending = sending; session = session; datagrams = []; sends = []; receipts = []; pops = [] }

-- the sample of a sender; the sender sets the payload type
abbrev pub sent_sample : Sample → SentNow
sent_sample s = record { rtp_time = s.rtp_time; bytes = s.bytes; start_of_talk_spurt = s.start_of_talk_spurt; ext_vals = s.ext_vals }

-- the sample was sent, or refused by the packetizer, which sends nothing
abbrev pub SendsOrRefuses : SentNow → Sending → Option PacketError → Sending → Type 0
SendsOrRefuses sample s None t = Sends s sample t
SendsOrRefuses sample s (Some fault) t = (fault ≢ faults.OutOfMemory) × Refuses s sample fault t

-- memory ran out for the sample, or for the copy of its datagrams
abbrev pub StopsSending : SentNow → Sending → Sending → Type 0
StopsSending sample s t = Refuses s sample faults.OutOfMemory t ⊎ ((fault : Option PacketError) × SendsOrRefuses sample s fault t)

-- its datagrams are appended to the earlier ones
pub record SendsIt (sample : Sample) (s : Sending) (before : List (List ℕ)) (entry : SentSample) (t : Sending) (after : List (List ℕ)) : Type 0 where
  pub sends : SendsOrRefuses (sent_sample sample) s entry.fault t
  pub gained : after ≡ before ++ t.datagrams
  pub count : entry.count ≡ length t.datagrams
  pub few : length after < 2 ^ 63

-- the receipt: an outcome, or the error for a datagram of no stream
abbrev pub Receipt : Type 0
Receipt = Result Outcome ReceiveError

-- the receiver receives a datagram
abbrev pub Delivers : Ticks → List ℕ → Session → Receipt → Session → Type 0
Delivers now bytes s receipt t = (receipt ≢ Err refusals.OutOfMemory) × ReceivesBytes now bytes s receipt t

-- a pop of the receiver
abbrev pub PopsUnit : Ticks → Session → Answer → Session → Type 0
PopsUnit now s answer t = PopsGated now.0 s answer t

-- one step: a `Send` that names a sample gets an entry, a `Deliver` that names a datagram a receipt, and each `Pop` an answer
abbrev pub DoesStep : List Sample → DatagramStep → Wire → Wire → Type 0
DoesStep samples (steps.Send i) s t =
    MatchOption (slice_get samples i) (t ≡ s) (λ sample.
    (entry : SentSample) × SendsIt sample s.sending s.datagrams entry t.sending t.datagrams
    × (t ≡ record s { sending = t.sending; datagrams = t.datagrams; sends = s.sends ++ entry ∷ [] }))
DoesStep samples (steps.Deliver k now) s t =
    MatchOption (slice_get s.datagrams k) (t ≡ s) (λ bytes.
    (receipt : Receipt) × (session : Session) × Delivers now bytes s.session receipt session × (t ≡ record s { session = session; receipts = s.receipts ++ receipt ∷ [] }))
DoesStep samples (steps.Pop now) s t =
    (answer : Answer) × (session : Session) × (answer ≢ Some (Err faults.OutOfMemory)) × PopsUnit now s.session answer session × (t ≡ record s { session = session; pops = s.pops ++ answer ∷ [] })
DoesStep samples steps.Finish s t = (session : Session) × Ends s.session session × (t ≡ record s { session = session })

-- memory ran out for a step: before it began, or inside the call, which leaves sender and receiver as it says. A sample whose
-- datagrams could not be copied was sent, or refused by the packetizer
abbrev pub StopsAt : List Sample → DatagramStep → Wire → Sending → Session → Type 0
StopsAt samples (steps.Send i) s sending session =
    (sample : Sample) × (slice_get samples i ≡ Some sample) × (session ≡ s.session)
    × ((sending ≡ s.sending) ⊎ StopsSending (sent_sample sample) s.sending sending)
StopsAt samples (steps.Deliver k now) s sending session =
    (bytes : List ℕ) × (slice_get s.datagrams k ≡ Some bytes) × (sending ≡ s.sending)
    × ((session ≡ s.session) ⊎ ReceivesBytes now bytes s.session (Err refusals.OutOfMemory) session)
StopsAt samples (steps.Pop now) s sending session =
    (sending ≡ s.sending) × ((session ≡ s.session) ⊎ PopsUnit now s.session (Some (Err faults.OutOfMemory)) session)
StopsAt samples steps.Finish s sending session = (sending ≡ s.sending) × (is_some (first_waiting s.session) ≡ true) × (session ≡ s.session)

-- the steps, in order, up to a step for which memory ran out; the sender and the receiver after it
abbrev pub Stops : List Sample → List DatagramStep → Wire → Sending → Session → Type 0
Stops samples [] s sending session = ⊥
Stops samples (step ∷ later) s sending session =
    StopsAt samples step s sending session ⊎ ((mid : Wire) × DoesStep samples step s mid × Stops samples later mid sending session)

-- the steps, in order
abbrev pub Runs : List Sample → List DatagramStep → Wire → Wire → Type 0
Runs samples [] s t = t ≡ s
Runs samples (step ∷ later) s t = (mid : Wire) × DoesStep samples step s mid × Runs samples later mid t
