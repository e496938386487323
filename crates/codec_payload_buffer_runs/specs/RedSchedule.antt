-- The effect of the steps of a run with RED: samples are sent in RED, and a push pushes the packets that a receiver recovers from a
-- packet.
use Rattle.std.specs.Prelude.{◌≡◌, ◌⊎◌, ℕ, ◌+◌, ◌%◌, ◌^◌, ◌&&◌, if◌then◌else◌, Bool, true, false, List, [], ◌∷◌, ◌++◌, Option, Some, None, Ok, Err, map, slice_get, refl}
use Rattle.codec_payload_base.specs.Extensions.{no_values}
use Rattle.codec_payload_base.specs.declared.error.PacketError.TheVariants as faults
use Rattle.codec_payload_buffer.specs.Held.{Held}
use Rattle.codec_payload_codec.specs.Packetizers.{PacketizerState, PacketizerStep, is_built_in}
use Rattle.codec_payload_buffer.specs.Steps.{State, IsArrived, pushed, Pops}
use Rattle.codec_payload_metadata.specs.declared.meta.RtpMeta.{RtpMeta}
use Rattle.codec_payload_payloader.specs.Packets.{Packet, SentPackets}
use Rattle.codec_payload_payloader.specs.RedPackets.{in_red}
use Rattle.codec_payload_buffer_runs.specs.Schedule.{Answer, RunState, run_state, after_send, packets_sent, DoesStep}
use Rattle.codec_payload_payloader.specs.Sending.{Sample, Payloading, AreAs}
use Rattle.codec_payload_buffer_runs.specs.declared.run.Sent.{Sent}
use Rattle.codec_payload_buffer_runs.specs.declared.run.Step.{Step}
use Rattle.codec_payload_buffer_runs.specs.declared.run.Step.TheVariants as steps
use Rattle.codec_payload_red.specs.RedLevels.{Entry, Sender, recorded}
use Rattle.codec_payload_red.specs.RedPayload.{Red}
use Rattle.codec_payload_red.specs.RedReading.{red_at}
use Rattle.codec_payload_red.specs.RedRecovery.{Receiver, RecoveredPacket, recovered}
use Rattle.codec_payload_red.specs.RedRun.{sender_after}

-- ---- sending in RED

-- packets as a sender of RED remembers them
abbrev pub remembered : Packet → Entry
remembered p = record { bytes = p.payload; time = p.rtp_time }

abbrev pub all_remembered : List Packet → List Entry
all_remembered ps = map remembered ps

-- the packets in RED, one after another
abbrev pub all_in_red : Sender → ℕ → List Packet → List Packet
all_in_red red budget [] = []
all_in_red red budget (p ∷ ps) = in_red red budget p ∷ all_in_red (recorded red p.payload p.rtp_time) budget ps

-- how a run uses RED, without its sender
pub record Protection : Type 0 where
  pub budget : ℕ
  pub receiver : Receiver

-- A run with RED: its payloader, its buffer, and a sink of the packets before they were wrapped in RED; the actual contents of the
-- sink; and the sender.
pub record RedState : Type 0 where
  pub plain : RunState
  pub images : List Packet
  pub sender : Sender

-- these together, if the sink holds `sink`, and would hold `sent` without RED
abbrev pub red_state : Payloading → State → SentPackets → List Packet → Sender → RedState
red_state payloading buffer sink sent sender = record { plain = run_state payloading buffer (record sink { packets = sent }); images = sink.packets; sender = sender }

-- the packets that the sink gained without RED were sent in RED
pub record SendsInRed (budget : ℕ) (s t : RedState) : Type 0 where
  pub packets : List Packet
  pub gained : t.plain.sink.packets ≡ s.plain.sink.packets ++ packets
  pub images : t.images ≡ s.images ++ all_in_red s.sender budget packets
  pub sender : t.sender ≡ sender_after s.sender (all_remembered packets)

-- ---- pushes of recovered packets

-- the metadata of a block that step `place` pushes as this packet: marker and values only for the primary block
abbrev pub meta_of_block : ℕ → ℕ → ℕ → Bool → Packet → RtpMeta
meta_of_block place clock_rate pt is_primary p = record {
  received = record { 0 = place };
  time = record { numer = p.rtp_time; rate = clock_rate };
  seq_no = record { 0 = p.number };
  header = record {
    payload_type = pt;
    sequence_number = p.number % 2 ^ 16;
    timestamp = p.rtp_time;
    ssrc = 0;
    marker = is_primary && p.marker;
    ext_vals = if is_primary then p.ext_vals else no_values;
  };
  last_sender_info = None;
}

-- the metadata of a packet that was recovered from this one: its own number and RTP time
abbrev pub meta_of_recovered : ℕ → ℕ → ℕ → Packet → RecoveredPacket → RtpMeta
meta_of_recovered place clock_rate pt carrier x = meta_of_block place clock_rate pt x.is_primary (record carrier { number = x.seq_no; rtp_time = x.time })

-- the packets that a receiver recovers from a packet: none from an invalid RED payload
abbrev pub recovered_of : Receiver → Packet → Option Red → List RecoveredPacket
recovered_of receiver p None = []
recovered_of receiver p (Some red) = recovered receiver p.number p.rtp_time red

abbrev pub recovered_in : Receiver → Packet → List RecoveredPacket
recovered_in receiver p = recovered_of receiver p (red_at p.payload)

-- step `place` pushed these, in order
abbrev pub PushesAll : ℕ → ℕ → ℕ → Packet → List RecoveredPacket → State → State → Type 0
PushesAll place clock_rate pt carrier [] s t = t ≡ s
PushesAll place clock_rate pt carrier (x ∷ xs) s t =
    (held : Held) × IsArrived s.depacketizer (meta_of_recovered place clock_rate pt carrier x) x.bytes held × PushesAll place clock_rate pt carrier xs (pushed s held) t

-- memory was refused to one of them, once those before it were pushed
abbrev pub StopsAmong : ℕ → ℕ → ℕ → Packet → List RecoveredPacket → State → State → Type 0
StopsAmong place clock_rate pt carrier xs s t =
    (begun : List RecoveredPacket) × (refused : RecoveredPacket) × (left : List RecoveredPacket) × (xs ≡ begun ++ refused ∷ left) × PushesAll place clock_rate pt carrier begun s t

-- the packets recovered from that packet, if there is one
abbrev pub RedPushes : ℕ → ℕ → Receiver → Option Packet → State → State → Type 0
RedPushes place clock_rate receiver None s t = t ≡ s
RedPushes place clock_rate receiver (Some p) s t = PushesAll place clock_rate receiver.primary_pt p (recovered_in receiver p) s t

-- ---- the steps

-- one step, at its place; the entries and results are the same as in a run without RED
abbrev pub DoesRedStep : Protection → List Sample → ℕ → Step → RedState → List Sent → List Answer → RedState → Type 0
DoesRedStep w samples place (steps.Send i mtu) s sends pops t = DoesStep samples place (steps.Send i mtu) s.plain sends pops t.plain × SendsInRed w.budget s t
DoesRedStep w samples place (steps.Push k) s sends pops t =
    (sends ≡ []) × (pops ≡ []) × (buffer : State) × RedPushes place s.plain.payloading.clock_rate w.receiver (slice_get s.images k) s.plain.buffer buffer
    × (t ≡ record s { plain = record s.plain { buffer = buffer } })
DoesRedStep w samples place steps.Pop s sends pops t = DoesStep samples place steps.Pop s.plain sends pops t.plain × (t.images ≡ s.images) × (t.sender ≡ s.sender)

-- the steps from place `place` on, in order
abbrev pub RunsInRed : Protection → List Sample → ℕ → List Step → RedState → List Sent → List Answer → RedState → Type 0
RunsInRed w samples place [] s sends pops t = (sends ≡ []) × (pops ≡ []) × (t ≡ s)
RunsInRed w samples place (step ∷ later) s sends pops t =
    (send : List Sent) × (sends_later : List Sent) × (pop : List Answer) × (pops_later : List Answer) × (mid : RedState)
    × (sends ≡ send ++ sends_later) × (pops ≡ pop ++ pops_later) × DoesRedStep w samples place step s send pop mid × RunsInRed w samples (place + 1) later mid sends_later pops_later t

-- memory ran out while a sample was sent: in the packetizer; or in the sink or the sender for one of the packets, after the packets
-- before were sent; the sender has then remembered that one too, or not
abbrev pub StopsSendingInRed : ℕ → ℕ → Sample → RedState → RedState → Type 0
StopsSendingInRed budget mtu sample s t = (packetizer : PacketizerState) × (
    (PacketizerStep s.plain.payloading.packetizer mtu sample.bytes (Err faults.OutOfMemory) packetizer × (t ≡ record s { plain = after_send s.plain packetizer [] }))
    ⊎ ((payloads : List (List ℕ)) × (begun : List Packet) × (refused : Packet) × (left : List Packet) × PacketizerStep s.plain.payloading.packetizer mtu sample.bytes (Ok payloads) packetizer
    × AreAs (is_built_in packetizer) (begun ++ refused ∷ left) (packets_sent s.plain packetizer sample payloads)
    × (kept : List Packet) × ((kept ≡ begun) ⊎ (kept ≡ begun ++ refused ∷ []))
    × (t ≡ record {
      plain = after_send s.plain packetizer begun;
      images = s.images ++ all_in_red s.sender budget begun;
      sender = sender_after s.sender (all_remembered kept);
    })))

-- memory ran out while the contents of a packet were pushed: before the first of them, or at one, after the ones before were pushed
abbrev pub StopsPushing : ℕ → ℕ → Receiver → Packet → State → State → Type 0
StopsPushing place clock_rate receiver p s t = (t ≡ s) ⊎ StopsAmong place clock_rate receiver.primary_pt p (recovered_in receiver p) s t

-- memory was refused to a step: before it began, or as the refused call leaves things
abbrev pub StopsAtInRed : Protection → List Sample → ℕ → Step → RedState → RedState → Type 0
StopsAtInRed w samples place (steps.Send i mtu) s t = (sample : Sample) × (slice_get samples i ≡ Some sample) × ((t ≡ s) ⊎ StopsSendingInRed w.budget mtu sample s t)
StopsAtInRed w samples place (steps.Push k) s t = (packet : Packet) × (slice_get s.images k ≡ Some packet) × (buffer : State)
    × StopsPushing place s.plain.payloading.clock_rate w.receiver packet s.plain.buffer buffer × (t ≡ record s { plain = record s.plain { buffer = buffer } })
StopsAtInRed w samples place steps.Pop s t =
    (t ≡ s) ⊎ ((buffer : State) × Pops s.plain.buffer (Some (Err faults.OutOfMemory)) buffer × (t ≡ record s { plain = record s.plain { buffer = buffer } }))

-- the steps from place `place` on, in order, up to one to which memory was refused
abbrev pub StopsInRed : Protection → List Sample → ℕ → List Step → RedState → RedState → Type 0
StopsInRed w samples place [] s t = ⊥
StopsInRed w samples place (step ∷ later) s t =
    StopsAtInRed w samples place step s t
    ⊎ ((send : List Sent) × (pop : List Answer) × (mid : RedState) × DoesRedStep w samples place step s send pop mid × StopsInRed w samples (place + 1) later mid t)

-- an older packet is pushed with its own number and time, and with neither marker nor values
pub meta_of_recovered-older : (meta_of_recovered 3 48000 96 (record { pt = 63; number = 65537; rtp_time = 1920; wallclock = 0; marker = true; nackable = false; ext_vals = no_values; payload = [] })
    (record { seq_no = 65536; time = 960; bytes = []; is_primary = false })).header ≡ record { payload_type = 96; sequence_number = 0; timestamp = 960; ssrc = 0; marker = false; ext_vals = no_values }
meta_of_recovered-older = refl
