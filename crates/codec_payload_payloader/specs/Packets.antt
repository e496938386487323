-- Outgoing packets, without their places in memory.
use Rattle.std.specs.Prelude.{◌≡◌, ℕ, ◌+◌, Bool, List, [], ◌∷◌, Option, option_map, slice_get, length, ◌-◌, map}
use Rattle.codec_payload_base.specs.declared.wire.extension.ExtensionValues.{ExtensionValues}
use Rattle.codec_payload_payloader.specs.declared.sink.OutgoingPacket.{OutgoingPacket}

pub record Packet : Type 0 where
  pub pt : ℕ
  pub number : ℕ
  pub rtp_time : ℕ
  pub wallclock : ℕ
  pub marker : Bool
  pub nackable : Bool
  pub ext_vals : ExtensionValues
  pub payload : List ℕ

abbrev pub packet_of : OutgoingPacket → Packet
packet_of p = record {
  pt = p.pt;
  number = p.seq_no.0;
  rtp_time = p.rtp_time;
  wallclock = p.wallclock.0;
  marker = p.marker;
  nackable = p.nackable;
  ext_vals = p.ext_vals;
  payload = p.payload.items;
}

abbrev pub packets_in : List OutgoingPacket → List Packet
packets_in = map packet_of

-- the packets that a sink keeps, and the number of its first
pub record SentPackets : Type 0 where
  pub first : ℕ
  pub packets : List Packet

-- the payload of the last packet, if there is one
abbrev pub last_payload : List Packet → Option (List ℕ)
last_payload packets = option_map (λ p. p.payload) (slice_get packets (length packets - 1))

-- the packets have consecutive numbers, from n on
abbrev pub AreNumbered : ℕ → List Packet → Type 0
AreNumbered n [] = Unit {0}
AreNumbered n (p ∷ ps) = (p.number ≡ n) × AreNumbered (n + 1) ps
