-- How a sample is sent through a custom packetizer: the questions to it, and the use of its answers.
use Rattle.std.specs.Prelude.{◌≡◌, ℕ, ◌+◌, ◌&&◌, ◌||◌, ◌⊎◌, Bool, false, List, [], ◌∷◌, Option, Some, None, Result, Ok, Err, MatchResult, length, ⊤}
use Rattle.codec_payload_base.specs.declared.error.PacketError.{PacketError}
use Rattle.codec_payload_base.specs.declared.wire.extension.ExtensionValues.{ExtensionValues}
use Rattle.codec_payload_codec.specs.Packetizers.{BoxedPacketizing}
use Rattle.codec_payload_payloader.specs.Packets.{Packet, last_payload}
use Rattle.codec_payload_payloader.specs.Sending.{Sample, packet_for, is_last, rtp_time_at, IsAs}
use Rattle.codec_payload_base.specs.StrippedValues.{stripped}

-- the packetizer b is asked once for the marker of a payload, with that previous payload, and whether it is the last; it is then
-- b'. The marker is also set at the start of a talk spurt, if b marks them; and b' says of the packet whether it may be
-- retransmitted
pub record IsAsked {B : Type 0} (state : B → List ℕ) (mark : B → List ℕ → Option (List ℕ) → Bool → Bool → List ℕ → Type 0) (spurts may_ask : B → Bool)
    (b : B) (starts : Bool) (payload : List ℕ) (previous : Option (List ℕ)) (last marker nackable : Bool) (b' : B) : Type 0 where
  pub answer : Bool
  pub asked : mark b payload previous last answer (state b')
  pub marker_is : marker ≡ (answer || (spurts b && starts))
  pub nackable_is : nackable ≡ may_ask b'

module _ {B S : Type 0} (state : B → List ℕ) (mark : B → List ℕ → Option (List ℕ) → Bool → Bool → List ℕ → Type 0) (spurts may_ask : B → Bool)
    (accepts : S → Packet → Packet → S → Type 0) (refuses : S → Packet → PacketError → S → Type 0) (sent : S → List Packet) (next : S → ℕ)
    (sample : Sample) (rtp_time : ℕ) where
  -- one payload becomes a packet with these values; the packetizer b gives its marker and is then b'; the sink accepts the packet,
  -- or refuses it with that fault
  pub record OwnPacket (values : ExtensionValues) (last : Bool) (payload : List ℕ) (b : B) (before : S) (answer : Result ⊤ PacketError) (b' : B) (after : S) : Type 0 where
    pub packet : Packet
    pub told : IsAs false packet (packet_for BoxedPacketizing sample rtp_time (next before) values last payload)
    pub asked : IsAsked state mark spurts may_ask b sample.start_of_talk_spurt payload (last_payload (sent before)) last packet.marker packet.nackable b'
    pub came : MatchResult answer (λ _. (image : Packet) × accepts before packet image after) (λ fault. refuses before packet fault after)

  -- the payloads from that place on, one after another, up to the first whose packet the sink refuses, with that fault
  abbrev pub OwnSends : ℕ → B → S → List (List ℕ) → Option PacketError → B → S → Type 0
  OwnSends place b before [] fault b' after = (fault ≡ None) × (b' ≡ b) × (after ≡ before)
  OwnSends place b before (payload ∷ payloads) fault b' after =
      (answer : Result ⊤ PacketError) × (asked : B) × (mid : S)
      × OwnPacket (stripped sample.ext_vals place (place + 1 + length payloads)) (is_last payloads) payload b before answer asked mid
      × MatchResult answer (λ _. OwnSends (place + 1) asked mid payloads fault b' after) (λ refusal. (fault ≡ Some refusal) × (b' ≡ asked) × (after ≡ mid))

-- the packetizer b is asked once for the payloads of the frame, which are sent, and is then b'
abbrev pub OwnSample : {B S : Type 0} (state : B → List ℕ) (packetize : B → ℕ → List ℕ → Result (List (List ℕ)) PacketError → List ℕ → Type 0)
    (mark : B → List ℕ → Option (List ℕ) → Bool → Bool → List ℕ → Type 0) (spurts may_ask : B → Bool)
    (accepts : S → Packet → Packet → S → Type 0) (refuses : S → Packet → PacketError → S → Type 0) (sent : S → List Packet) (next : S → ℕ)
    → ℕ → ℕ → Sample → B → S → Result ⊤ PacketError → B → S → Type 0
OwnSample {B} state packetize mark spurts may_ask accepts refuses sent next clock_rate mtu sample b before (Ok _) b' after =
    (payloads : List (List ℕ)) × (cut : B) × packetize b mtu sample.bytes (Ok payloads) (state cut)
    × OwnSends state mark spurts may_ask accepts refuses sent next sample (rtp_time_at clock_rate sample.rtp_time) 0 cut before payloads None b' after
OwnSample {B} state packetize mark spurts may_ask accepts refuses sent next clock_rate mtu sample b before (Err fault) b' after =
    (packetize b mtu sample.bytes (Err fault) (state b') × (after ≡ before))
    ⊎ ((payloads : List (List ℕ)) × (cut : B) × packetize b mtu sample.bytes (Ok payloads) (state cut)
    × OwnSends state mark spurts may_ask accepts refuses sent next sample (rtp_time_at clock_rate sample.rtp_time) 0 cut before payloads (Some fault) b' after)
