-- Packets sent in RED (RFC 2198), and the sink that wraps them.
use Rattle.std.specs.Prelude.{◌≡◌, ℕ, List}
use Rattle.codec_payload_base.specs.declared.error.PacketError.{PacketError}
use Rattle.codec_payload_base.specs.declared.error.PacketError.TheVariants.{OutOfMemory}
use Rattle.codec_payload_red.specs.RedLevels.{Sender, output, recorded}
use Rattle.codec_payload_red.specs.RedPayload.{Red, IsRed}
use Rattle.codec_payload_payloader.specs.declared.red_sink.RedSink.{RedSink}
use Rattle.codec_payload_payloader.specs.Packets.{Packet}

-- a packet in RED: under the payload type of RED, with its payload wrapped, and otherwise as it is
abbrev pub in_red : Sender → ℕ → Packet → Packet
in_red red budget p = record p { pt = red.red_pt; payload = output red p.payload p.rtp_time budget }

-- the bytes are a RED payload, and that is its primary block
pub record HasPrimary (bytes primary : List ℕ) : Type 0 where
  pub red : Red
  pub is_red : IsRed bytes red
  pub is_primary : red.primary ≡ primary

-- the sink that packets are handed on to
abbrev pub stream_of : {S : Type 0} → RedSink S → S
stream_of sink = sink.stream.now

-- the sender that wraps their payloads
abbrev pub sender_of : {S : Type 0} → RedSink S → Sender
sender_of sink = sink.red.now

abbrev pub budget_of : {S : Type 0} → RedSink S → ℕ
budget_of sink = sink.budget

-- the same sink and the same sender are borrowed, for the same budget
abbrev pub SameLoans : {S : Type 0} → RedSink S → RedSink S → Type 0
SameLoans before after = (after.stream.ghost_name ≡ before.stream.ghost_name) × (after.red.ghost_name ≡ before.red.ghost_name) × (after.budget ≡ before.budget)

-- the packet as it is handed on
abbrev pub handed_on : {S : Type 0} → RedSink S → Packet → Packet
handed_on sink p = in_red (sender_of sink) (budget_of sink) p

-- the sender has remembered the packet's payload, and the budget stays
abbrev pub Remembers : {S : Type 0} → RedSink S → Packet → RedSink S → Type 0
Remembers before p after = (sender_of after ≡ recorded (sender_of before) p.payload p.rtp_time) × (budget_of after ≡ budget_of before)

-- the sender had no memory to wrap the payload, and all stayed as it was
abbrev pub FindsNoMemory : {S : Type 0} → RedSink S → PacketError → RedSink S → Type 0
FindsNoMemory before fault after = (fault ≡ OutOfMemory) × (stream_of after ≡ stream_of before) × (sender_of after ≡ sender_of before)
