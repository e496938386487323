-- The calls on a buffer.
use Rattle.std.specs.Prelude.{◌≡◌, ◌≢◌, ◌⊎◌, ℕ, ◌%◌, ◌^◌, Option, Some, None, List, is_some, length}
use Rattle.codec_payload_core.specs.Extensions.{no_values}
use Rattle.codec_payload_core.specs.Depacketizers.{DepacketizerState}
use Rattle.codec_payload_core.specs.Frames.{frames}
use Rattle.codec_payload_core.specs.Held.{Held}
use Rattle.codec_payload_core.specs.Steps.{Pops, IsArrived, empty_buffer, pushed}
use Rattle.codec_payload_core.specs.declared.buffer.RtpMeta.{RtpMeta}
use Rattle.codec_payload_handle.specs.Popping.{AnswersPop}
use Rattle.codec_payload_handle.specs.Units.{TellsUnit}
use Rattle.codec_payload_c_packets.specs.declared.buffer.BufferCountsInfo.{BufferCountsInfo}
use Rattle.codec_payload_c_packets.specs.declared.buffer.Received.{Received}
use Rattle.codec_payload_handle.specs.declared.unit.Unit.{Unit as CUnit}
use Rattle.codec_payload_handle.specs.declared.object.Object.{Object}
use Rattle.codec_payload_handle.specs.declared.object.Object.TheVariants as objects
use Rattle.codec_payload_handle.specs.declared.object.FrameReceiver.{FrameReceiver}
use Rattle.codec_payload_handle.specs.declared.settings.Spec.{Spec}

-- an empty buffer with these settings
pub record IsNew (spec : Spec) (depacketizer : Option DepacketizerState) (hold_back limit : ℕ) (r : FrameReceiver) : Type 0 where
  pub depacketizer_is : Some r.buffer.depacketizer ≡ depacketizer
  pub empty : r.buffer ≡ empty_buffer hold_back limit r.buffer.depacketizer
  pub waiting : r.waiting ≡ None
  pub rate : r.rate ≡ spec.rate

abbrev pub IsFrameReceiverOf : Spec → Option DepacketizerState → ℕ → ℕ → Object → Type 0
IsFrameReceiverOf spec depacketizer hold_back limit (objects.FrameReceiver r) = IsNew spec depacketizer hold_back limit r.value
IsFrameReceiverOf spec depacketizer hold_back limit _ = ⊥

-- the metadata of a packet
pub record IsToldBy (packet : Received) (rate : ℕ) (meta : RtpMeta) : Type 0 where
  pub number : meta.seq_no.0 ≡ packet.number
  pub received : meta.received.0 ≡ packet.received
  pub time : meta.time ≡ record { numer = packet.rtp_time; rate = rate }
  pub payload_type : meta.header.payload_type ≡ 0
  pub sequence_number : meta.header.sequence_number ≡ packet.number % 65536
  pub timestamp : meta.header.timestamp ≡ packet.rtp_time % 2 ^ 32
  pub ssrc : meta.header.ssrc ≡ 0
  pub marker : meta.header.marker ≡ packet.marker
  pub values : meta.header.ext_vals ≡ no_values
  pub no_info : meta.last_sender_info ≡ None

-- A push. Status 0: the packet was pushed. Otherwise memory ran out, and nothing changed.
pub record AnswersPush (r : FrameReceiver) (packet : Received) (payload : List ℕ) (status : ℕ) (s : FrameReceiver) : Type 0 where
  pub answers : (status ≡ 0) ⊎ (status ≡ 17)
  pub ok : status ≡ 0 → (meta : RtpMeta) × (p : Held) × IsToldBy packet r.rate meta × IsArrived r.buffer.depacketizer meta payload p × (s.buffer ≡ pushed r.buffer p)
  pub fault : status ≢ 0 → s.buffer ≡ r.buffer
  pub waiting : s.waiting ≡ r.waiting
  pub rate : s.rate ≡ r.rate

-- the next unit of a buffer
abbrev pub PopsUnit : FrameReceiver → ℕ → (unit_before unit : CUnit) (before bytes : List ℕ) → FrameReceiver → Type 0
PopsUnit r status unit_before unit before bytes s =
    AnswersPop (s.buffer ≡ r.buffer) (λ answer. Pops r.buffer answer s.buffer) TellsUnit status
    (record { waited = r.waiting; waits = s.waiting; unit_before = unit_before; unit = unit; before = before; bytes = bytes })
    × (s.rate ≡ r.rate)

-- the contents of a buffer, in numbers
pub record Counts (r : FrameReceiver) (counts : BufferCountsInfo) : Type 0 where
  pub held : counts.held ≡ length r.buffer.held
  pub ready : counts.ready ≡ length (frames r.buffer.held)
  pub limit : counts.limit ≡ r.buffer.limit
  pub waiting : counts.waiting ≡ is_some r.waiting
