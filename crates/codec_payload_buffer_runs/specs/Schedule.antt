-- The effect of the steps of a run, one after another.
use Rattle.std.specs.Prelude.{false, ◌≡◌, ◌≢◌, ℕ, ◌<◌, ◌+◌, ◌%◌, ◌^◌, ◌⊎◌, List, [], ◌∷◌, ◌++◌, Option, Some, None, Result, Ok, Err, MatchOption, length, slice_get, refl}
use Rattle.codec_payload_base.specs.Extensions.{no_values}
use Rattle.codec_payload_base.specs.declared.error.PacketError.{PacketError}
use Rattle.codec_payload_base.specs.declared.error.PacketError.TheVariants as faults
use Rattle.codec_payload_buffer.specs.Held.{Held}
use Rattle.codec_payload_codec.specs.Packetizers.{PacketizerState, PacketizerStep, is_built_in}
use Rattle.codec_payload_payloader.specs.Packets.{Packet, SentPackets, AreNumbered}
use Rattle.codec_payload_payloader.specs.Sending.{Sample, Payloading, packets_for, rtp_time_at, AreAs}
use Rattle.codec_payload_metadata.specs.Release.{Release}
use Rattle.codec_payload_buffer.specs.Steps.{State, IsArrived, pushed, Pops}
use Rattle.codec_payload_metadata.specs.declared.meta.RtpMeta.{RtpMeta}
use Rattle.codec_payload_buffer_runs.specs.declared.run.Sent.{Sent}
use Rattle.codec_payload_buffer_runs.specs.declared.run.Step.{Step}
use Rattle.codec_payload_buffer_runs.specs.declared.run.Step.TheVariants as steps

-- the result of a pop
abbrev pub Answer : Type 0
Answer = Option (Result Release PacketError)

-- the payloader, the buffer and the sink of a run
pub record RunState : Type 0 where
  pub payloading : Payloading
  pub buffer : State
  pub sink : SentPackets

-- the payloads in a packetizer's result; a fault gives none
abbrev pub payloads_of : Result (List (List ℕ)) PacketError → List (List ℕ)
payloads_of (Ok payloads) = payloads
payloads_of (Err fault) = []

abbrev pub fault_of : Result (List (List ℕ)) PacketError → Option PacketError
fault_of (Ok payloads) = None
fault_of (Err fault) = Some fault

-- the packets that the sink gains of a packetizer that is built in
abbrev pub packets_sent : RunState → PacketizerState → Sample → List (List ℕ) → List Packet
packets_sent s packetizer sample payloads =
    packets_for packetizer sample (rtp_time_at s.payloading.clock_rate sample.rtp_time) (s.sink.first + length s.sink.packets) payloads

-- after the packetizer went on and the sink gained these packets
abbrev pub after_send : RunState → PacketizerState → List Packet → RunState
after_send s packetizer packets = record s { payloading = record s.payloading { packetizer = packetizer }; sink = record s.sink { packets = s.sink.packets ++ packets } }

-- the sample was sent, or refused by the packetizer, which sends nothing
pub record SendsIt (place mtu : ℕ) (sample : Sample) (s : RunState) (entry : Sent) (t : RunState) : Type 0 where
  pub answer : Result (List (List ℕ)) PacketError
  pub packetizer : PacketizerState
  pub packetized : PacketizerStep s.payloading.packetizer mtu sample.bytes answer packetizer
  pub not_memory : answer ≢ Err faults.OutOfMemory
  pub entry_is : entry ≡ record { step = place; first = length s.sink.packets; count = length (payloads_of answer); fault = fault_of answer }
  pub packets : List Packet
  pub are : AreAs (is_built_in packetizer) packets (packets_sent s packetizer sample (payloads_of answer))
  pub numbered : AreNumbered (s.sink.first + length s.sink.packets) packets
  pub few : length t.sink.packets < 2 ^ 63
  pub left : t ≡ after_send s packetizer packets

-- the metadata of a packet that step `place` pushes
abbrev pub meta_of_push : ℕ → ℕ → Packet → RtpMeta
meta_of_push place clock_rate p = record {
  received = record { 0 = place };
  time = record { numer = p.rtp_time; rate = clock_rate };
  seq_no = record { 0 = p.number };
  header = record {
    payload_type = p.pt;
    sequence_number = p.number % 2 ^ 16;
    timestamp = p.rtp_time;
    ssrc = 0;
    marker = p.marker;
    ext_vals = p.ext_vals;
  };
  last_sender_info = None;
}

-- step `place` pushed that packet, if there is one
abbrev pub Pushes : ℕ → ℕ → Option Packet → State → State → Type 0
Pushes place clock_rate None s t = t ≡ s
Pushes place clock_rate (Some p) s t = (held : Held) × IsArrived s.depacketizer (meta_of_push place clock_rate p) p.payload held × (t ≡ pushed s held)

-- one step, at its place: the entry of a `Send` and the result of a `Pop`, if it is one
abbrev pub DoesStep : List Sample → ℕ → Step → RunState → List Sent → List Answer → RunState → Type 0
DoesStep samples place (steps.Send i mtu) s sends pops t =
    (pops ≡ []) × MatchOption (slice_get samples i) ((sends ≡ []) × (t ≡ s)) (λ sample. (entry : Sent) × (sends ≡ entry ∷ []) × SendsIt place mtu sample s entry t)
DoesStep samples place (steps.Push k) s sends pops t =
    (sends ≡ []) × (pops ≡ []) × (buffer : State) × Pushes place s.payloading.clock_rate (slice_get s.sink.packets k) s.buffer buffer × (t ≡ record s { buffer = buffer })
DoesStep samples place steps.Pop s sends pops t =
    (sends ≡ []) × (answer : Answer) × (buffer : State) × (pops ≡ answer ∷ []) × (answer ≢ Some (Err faults.OutOfMemory)) × Pops s.buffer answer buffer × (t ≡ record s { buffer = buffer })

-- the steps from place `place` on, in order
abbrev pub Runs : List Sample → ℕ → List Step → RunState → List Sent → List Answer → RunState → Type 0
Runs samples place [] s sends pops t = (sends ≡ []) × (pops ≡ []) × (t ≡ s)
Runs samples place (step ∷ later) s sends pops t =
    (send : List Sent) × (sends_later : List Sent) × (pop : List Answer) × (pops_later : List Answer) × (mid : RunState)
    × (sends ≡ send ++ sends_later) × (pops ≡ pop ++ pops_later) × DoesStep samples place step s send pop mid × Runs samples (place + 1) later mid sends_later pops_later t

-- memory was refused while a sample was sent: by the packetizer, or by the sink to one of the packets, once it had those
-- before
abbrev pub StopsSending : ℕ → Sample → RunState → RunState → Type 0
StopsSending mtu sample s t = (packetizer : PacketizerState) × (
    (PacketizerStep s.payloading.packetizer mtu sample.bytes (Err faults.OutOfMemory) packetizer × (t ≡ after_send s packetizer []))
    ⊎ ((payloads : List (List ℕ)) × (begun : List Packet) × (refused : Packet) × (left : List Packet) × PacketizerStep s.payloading.packetizer mtu sample.bytes (Ok payloads) packetizer
    × AreAs (is_built_in packetizer) (begun ++ refused ∷ left) (packets_sent s packetizer sample payloads) × (t ≡ after_send s packetizer begun)))

-- memory was refused to a step: before it began, or as the refused call leaves things
abbrev pub StopsAt : List Sample → Step → RunState → RunState → Type 0
StopsAt samples (steps.Send i mtu) s t = (sample : Sample) × (slice_get samples i ≡ Some sample) × ((t ≡ s) ⊎ StopsSending mtu sample s t)
StopsAt samples (steps.Push k) s t = (packet : Packet) × (slice_get s.sink.packets k ≡ Some packet) × (t ≡ s)
StopsAt samples steps.Pop s t = (t ≡ s) ⊎ ((buffer : State) × Pops s.buffer (Some (Err faults.OutOfMemory)) buffer × (t ≡ record s { buffer = buffer }))

-- the steps from place `place` on, in order, up to one to which memory was refused
abbrev pub Stops : List Sample → ℕ → List Step → RunState → RunState → Type 0
Stops samples place [] s t = ⊥
Stops samples place (step ∷ later) s t =
    StopsAt samples step s t
    ⊎ ((send : List Sent) × (pop : List Answer) × (mid : RunState) × DoesStep samples place step s send pop mid × Stops samples (place + 1) later mid t)

-- a payloader, a buffer and a sink together
abbrev pub run_state : Payloading → State → SentPackets → RunState
run_state payloading buffer sink = record { payloading = payloading; buffer = buffer; sink = sink }

-- the packet pushed at step 3 came from step 3, with the low bits of its number and of its time in the header
pub meta_of_push-number : (meta_of_push 3 48000 (record {
  pt = 96;
  number = 65537;
  rtp_time = 960;
  wallclock = 0;
  marker = false;
  nackable = false;
  ext_vals =
      no_values;
  payload = [];
})).header.sequence_number ≡ 1
meta_of_push-number = refl
