-- The steps of a run with a forwarder whose viewer requests packets: a store keeps what comes to the forwarder, and the forwarder writes
-- packets of the store again.
use Rattle.std.specs.Prelude.{◌≡◌, ℕ, Bool, true, false, List, [], ◌∷◌, ◌++◌, ◌⊎◌, Option, Some, None, Err, MatchOption, slice_get}
use Rattle.codec_payload_payloader.specs.Sending.{Sample}
use Rattle.codec_payload_receiver.specs.Sessions.{ReceivesBytes, Session}
use Rattle.codec_payload_receiver.specs.declared.receiver.ReceiveError.TheVariants as refusals
use Rattle.codec_payload_rtp.specs.RtpPackets.{Packet}
use Rattle.codec_payload_rtp.specs.RtpReading.{rtp_at}
use Rattle.codec_payload_sending.specs.Senders.{Sending}
use Rattle.codec_payload_sending_forward.specs.Forwarding.{Forward, IsNotRequested, IsRequested, Repeats}
use Rattle.codec_payload_sending_history.specs.Histories.{KeepsOnce}
use Rattle.codec_payload_sending_history.specs.Packets.{Past}
use Rattle.codec_payload_sending_history.specs.declared.retransmission.KeptOnce.{KeptOnce}
use Rattle.codec_payload_datagram_runs.specs.WireRuns.{Delivers, Receipt, bytes_in}
use Rattle.codec_payload_forward_runs.specs.ForwardRuns.{DoesForwardStep, ForwardStopsAt, Hops, begins_forwarding, hops_of, packet_read}
use Rattle.codec_payload_forward_runs.specs.declared.run.ForwardStep.{ForwardStep}
use Rattle.codec_payload_forward_runs.specs.declared.run.ForwardStep.TheVariants as plain
use Rattle.codec_payload_forward_runs.specs.declared.store_run.StoreRun.{StoreRun}
use Rattle.codec_payload_forward_runs.specs.declared.store_run.StoreStep.{StoreStep}
use Rattle.codec_payload_forward_runs.specs.declared.store_run.StoreStep.TheVariants as steps

-- a run without a store so far; the store; the packets that were written again; and for which requests one was
pub record Stored : Type 0 where
  pub hops : Hops
  pub store : Past
  pub again : List (List ℕ)
  pub found : List Bool

abbrev pub stored_of : Sending → Forward → Session → Past → StoreRun → Stored
stored_of sending forwarder session store run = record {
  hops = hops_of sending forwarder session run.run;
  store = store;
  again = bytes_in run.again.items;
  found = run.found.items;
}

-- before any step
abbrev pub begins_with_store : Sending → Forward → Session → Past → Stored
begins_with_store sending forwarder session store = record { hops = begins_forwarding sending forwarder session; store = store; again = []; found = [] }

-- the store keeps a datagram, if it is a packet
abbrev pub KeepsPacket : Option (List ℕ) → Past → Past → Type 0
KeepsPacket None h t = t ≡ h
KeepsPacket (Some datagram) h t = MatchOption (packet_read (rtp_at datagram)) (t ≡ h) (λ packet. (kept : KeptOnce) × KeepsOnce h datagram kept t)

-- it keeps the datagram that comes to the forwarder in this step, if one does
abbrev pub KeepsFor : ForwardStep → List (List ℕ) → Past → Past → Type 0
KeepsFor (plain.Send i) datagrams h t = t ≡ h
KeepsFor (plain.Forward k now) datagrams h t = KeepsPacket (slice_get datagrams k) h t
KeepsFor (plain.Deliver j now) datagrams h t = t ≡ h
KeepsFor (plain.Pop now) datagrams h t = t ≡ h
KeepsFor plain.Finish datagrams h t = t ≡ h

-- The viewer requests a number. The store does not have the packet that was sent under it, or the forwarder writes the packet again, or
-- does not
abbrev pub Requests : ℕ → Forward → Past → Bool → List ℕ → Forward → Type 0
Requests number f store found bytes t =
    ((found ≡ false) × (bytes ≡ []) × IsNotRequested f store number × (t ≡ f)) ⊎ ((p : Packet) × IsRequested f store number p × Repeats p f found bytes t)

-- the packet that was written again, if one was
abbrev pub again_by : Bool → List ℕ → List (List ℕ)
again_by true bytes = bytes ∷ []
again_by false bytes = []

-- one step
abbrev pub DoesStoreStep : List Sample → StoreStep → Stored → Stored → Type 0
DoesStoreStep samples (steps.Plain step) s t =
    (store : Past) × (hops : Hops) × KeepsFor step s.hops.wire.datagrams s.store store × DoesForwardStep samples step s.hops hops
    × (t ≡ record s { hops = hops; store = store })
DoesStoreStep samples (steps.Keep k) s t = (store : Past) × KeepsPacket (slice_get s.hops.wire.datagrams k) s.store store × (t ≡ record s { store = store })
DoesStoreStep samples (steps.Request number) s t =
    (found : Bool) × (bytes : List ℕ) × (forwarder : Forward) × Requests number s.hops.forwarder s.store found bytes forwarder
    × (t ≡ record s { hops = record s.hops { forwarder = forwarder }; again = s.again ++ again_by found bytes; found = s.found ++ found ∷ [] })
DoesStoreStep samples (steps.DeliverAgain j now) s t =
    MatchOption (slice_get s.again j) (t ≡ s) (λ bytes.
    (receipt : Receipt) × (session : Session) × Delivers now bytes s.hops.wire.session receipt session
    × (t ≡ record s { hops = record s.hops { wire = record s.hops.wire { session = session; receipts = s.hops.wire.receipts ++ receipt ∷ [] } } }))

-- the steps, in order
abbrev pub StoreRuns : List Sample → List StoreStep → Stored → Stored → Type 0
StoreRuns samples [] s t = t ≡ s
StoreRuns samples (step ∷ later) s t = (mid : Stored) × DoesStoreStep samples step s mid × StoreRuns samples later mid t

-- Memory ran out for a step: for the store, which is then as before; or after the store has kept the datagram
abbrev pub StoreStopsAt : List Sample → StoreStep → Stored → Sending → Forward → Session → Past → Type 0
StoreStopsAt samples (steps.Plain step) s sending forwarder session store =
    ((sending ≡ s.hops.wire.sending) × (forwarder ≡ s.hops.forwarder) × (session ≡ s.hops.wire.session) × (store ≡ s.store))
    ⊎ (KeepsFor step s.hops.wire.datagrams s.store store × ForwardStopsAt samples step s.hops sending forwarder session)
StoreStopsAt samples (steps.Keep k) s sending forwarder session store =
    (sending ≡ s.hops.wire.sending) × (forwarder ≡ s.hops.forwarder) × (session ≡ s.hops.wire.session) × (store ≡ s.store)
StoreStopsAt samples (steps.Request number) s sending forwarder session store =
    (sending ≡ s.hops.wire.sending) × (forwarder ≡ s.hops.forwarder) × (session ≡ s.hops.wire.session) × (store ≡ s.store)
StoreStopsAt samples (steps.DeliverAgain j now) s sending forwarder session store =
    (bytes : List ℕ) × (slice_get s.again j ≡ Some bytes) × (sending ≡ s.hops.wire.sending) × (forwarder ≡ s.hops.forwarder) × (store ≡ s.store)
    × ((session ≡ s.hops.wire.session) ⊎ ReceivesBytes now bytes s.hops.wire.session (Err refusals.OutOfMemory) session)

-- the steps, in order, up to a step for which memory ran out
abbrev pub StoreStops : List Sample → List StoreStep → Stored → Sending → Forward → Session → Past → Type 0
StoreStops samples [] s sending forwarder session store = ⊥
StoreStops samples (step ∷ later) s sending forwarder session store =
    StoreStopsAt samples step s sending forwarder session store
    ⊎ ((mid : Stored) × DoesStoreStep samples step s mid × StoreStops samples later mid sending forwarder session store)
