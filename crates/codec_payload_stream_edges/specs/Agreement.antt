-- The packet that is followed is the one that the receiver stores.
use Rattle.std.specs.Prelude.{◌≡◌, ℕ, false, List, Option, Some, None, IfSome, Ok}
use Rattle.std.specs.Option.{option_map}
use Rattle.codec_payload_base.specs.declared.wire.Codec.{Codec}
use Rattle.codec_payload_codec.specs.Depacketizers.{DepacketizerState}
use Rattle.codec_payload_datagrams.specs.Kinds.{Kinds, datagram_at}
use Rattle.codec_payload_datagrams.specs.declared.kinds.RedStream.{RedStream}
use Rattle.codec_payload_receiver.specs.Noting.{MediaPacket as ReceiversPacket, media_in}
use Rattle.codec_payload_receiver.specs.Sessions.{Session, session_by}
use Rattle.codec_payload_receiver.specs.declared.receiver.Settings.{Settings}
use Rattle.codec_payload_stream_edges.specs.Brought.{MediaPacket, brought_at, has_type, is_own_type, rules_of, type_of_red_again}
use Rattle.codec_payload_stream_edges.specs.declared.rules.EdgeRules.{EdgeRules}

abbrev pub again_type : Option RedStream → Option ℕ
again_type None = None
again_type (Some red) = red.retransmission

-- the rules have the payload types of the receiver; those of retransmissions differ from the others
pub record FitsTo (k : EdgeRules) (s : Kinds) : Type 0 where
  pub payload_type : k.payload_type ≡ s.payload_type
  pub red : k.red ≡ option_map (λ r. r.payload_type) s.red
  pub red_again : k.red_again ≡ again_type s.red
  pub retransmission : k.retransmission ≡ option_map (λ r. r.payload_type) s.retransmission
  pub apart : IfSome s.retransmission (λ r. is_own_type k r.payload_type ≡ false)
  pub red_apart : IfSome (again_type s.red) (λ t. (is_own_type k t ≡ false) × (has_type k.retransmission t ≡ false))

-- the same number, header extension and payload
pub record IsSamePacket (m : MediaPacket) (n : ReceiversPacket) : Type 0 where
  pub number : m.number ≡ n.number
  pub extension : m.extension ≡ n.extension
  pub bytes : m.bytes ≡ n.bytes

abbrev pub Agree : Option MediaPacket → Option ReceiversPacket → Type 0
Agree None n = Unit {0}
Agree (Some m) None = Unit {0}
Agree (Some m) (Some n) = IsSamePacket m n

-- for any bytes, and the SSRC that the receiver has: if there is a packet to follow, and the receiver takes one with media out of the
-- bytes, both are the same
abbrev pub FollowsWhatIsStored : Type 0
FollowsWhatIsStored = (k : EdgeRules) (s : Kinds) → FitsTo k s → (ssrc : ℕ) (bytes : List ℕ) → Agree (brought_at k ssrc bytes) (media_in s (datagram_at s (Some ssrc) bytes))

-- the rules that are made of settings have the payload types of each receiver with these settings
abbrev pub RulesFit : Type 0
RulesFit =
    (codec : Codec) (settings : Settings) (depacketizer : DepacketizerState) (s : Session) → session_by settings depacketizer ≡ Ok s
    → IfSome settings.retransmission (λ r. is_own_type (rules_of codec settings) r.payload_type ≡ false)
    → IfSome (type_of_red_again settings.red) (λ t. (is_own_type (rules_of codec settings) t ≡ false) × (has_type (rules_of codec settings).retransmission t ≡ false))
    → FitsTo (rules_of codec settings) s.stream
