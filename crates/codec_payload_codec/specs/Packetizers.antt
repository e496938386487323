-- Packetizers in contracts, and the effect of each of their calls.
use Rattle.std.specs.Prelude.{◌≡◌, ℕ, ◌<◌, ◌^◌, ◌&&◌, List, [], Bool, true, false, Option, Some, None, IfSome, Result}
use Rattle.codec_payload_base.specs.Pieces.{AnswersPieces}
use Rattle.codec_payload_audio.specs.AmrWb.{AnswersAmrWb, layout}
use Rattle.codec_payload_audio.specs.Payloads.{AnswersItself, AnswersWhole}
use Rattle.codec_payload_av1.specs.Av1Steps.{AnswersAv1}
use Rattle.codec_payload_vp8.specs.Vp8Sent.{Vp8Sends, numbers_of_id}
use Rattle.codec_payload_vp9.specs.Vp9Sent.{Sender, Vp9Sends, numbers_of_sender}
use Rattle.codec_payload_base.specs.declared.interface.Vp9PacketizerMode.{Vp9PacketizerMode}
use Rattle.codec_payload_base.specs.declared.error.PacketError.{PacketError}
use Rattle.codec_payload_base.specs.declared.wire.Codec.{Codec}
use Rattle.codec_payload_base.specs.declared.wire.Codec.TheVariants as codecs
use Rattle.codec_payload_codec.specs.Depacketizers.{DepacketizerKind, G711Payloads, OpusPayloads, ComfortNoisePayloads, TelePayloads, Vp8Payloads, Vp9Payloads, Av1Payloads}
use Rattle.codec_payload_codec.specs.Depacketizers.{AmrWbPayloads, NullPayloads, BoxedPayloads}
use Rattle.codec_payload_codec.specs.declared.codec.packetizer.CodecPacketizer.{CodecPacketizer}
use Rattle.codec_payload_codec.specs.declared.codec.packetizer.CodecPacketizer.TheVariants as variants

-- a packetizer of each codec, with its state; the state of a custom one is unknown
pub data PacketizerState : Type 0 where
  G711Packetizing : PacketizerState
  G722Packetizing : PacketizerState
  OpusPacketizing : PacketizerState
  ComfortNoisePacketizing : PacketizerState
  TelePacketizing : PacketizerState
  Vp8Packetizing : Option ℕ → PacketizerState
  Vp9Packetizing : Sender → PacketizerState
  Av1Packetizing : PacketizerState
  AmrWbPacketizing : Bool → PacketizerState
  NullPacketizing : PacketizerState
  BoxedPacketizing : PacketizerState

abbrev pub packetizer_state_of : {B : _} → CodecPacketizer B → PacketizerState
packetizer_state_of (variants.G711 _) = G711Packetizing
packetizer_state_of (variants.G722 _) = G722Packetizing
packetizer_state_of (variants.Opus _) = OpusPacketizing
packetizer_state_of (variants.Null _) = NullPacketizing
packetizer_state_of (variants.Vp8 id) = Vp8Packetizing id
packetizer_state_of (variants.Vp9 sender) = Vp9Packetizing sender
packetizer_state_of (variants.ComfortNoise _) = ComfortNoisePacketizing
packetizer_state_of (variants.Tele _) = TelePacketizing
packetizer_state_of (variants.Av1 _) = Av1Packetizing
packetizer_state_of (variants.AmrWb p) = AmrWbPacketizing p.octet_align
packetizer_state_of (variants.Boxed _) = BoxedPacketizing

-- whether the packetizer is built in, and not custom
abbrev pub is_built_in : PacketizerState → Bool
is_built_in BoxedPacketizing = false
is_built_in packetizer = true

-- the packetizer that a codec is given, if it has one; VP9's has a mode and the picture id of its first frame
abbrev pub packetizer_state_for : Vp9PacketizerMode → ℕ → Codec → Option PacketizerState
packetizer_state_for mode id codecs.Opus = Some OpusPacketizing
packetizer_state_for mode id codecs.PCMU = Some G711Packetizing
packetizer_state_for mode id codecs.PCMA = Some G711Packetizing
packetizer_state_for mode id codecs.G722 = Some G722Packetizing
packetizer_state_for mode id codecs.Null = Some NullPacketizing
packetizer_state_for mode id codecs.CN = Some ComfortNoisePacketizing
packetizer_state_for mode id codecs.AmrWb = Some (AmrWbPacketizing false)
packetizer_state_for mode id codecs.H264 = None
packetizer_state_for mode id codecs.H265 = None
packetizer_state_for mode id codecs.H266 = None
packetizer_state_for mode id codecs.Vp8 = Some (Vp8Packetizing None)
packetizer_state_for mode id codecs.Vp9 = Some (Vp9Packetizing (record { mode = mode; picture_id = id; tl0picidx = 0 }))
packetizer_state_for mode id codecs.Av1 = Some Av1Packetizing
packetizer_state_for mode id codecs.Tele = Some TelePacketizing
packetizer_state_for mode id codecs.Rtx = None
packetizer_state_for mode id codecs.Red = None
packetizer_state_for mode id codecs.Unknown = None

-- a packetizer after a specification was taken over
abbrev pub configured : Bool → PacketizerState → PacketizerState
configured octet (AmrWbPacketizing before) = AmrWbPacketizing octet
configured octet packetizer = packetizer

-- the packetizer, the MTU and the frame; the result and the packetizer afterwards. A custom one may return anything
abbrev pub PacketizerStep : PacketizerState → ℕ → List ℕ → Result (List (List ℕ)) PacketError → PacketizerState → Type 0
PacketizerStep G711Packetizing mtu frame answer after = AnswersPieces mtu frame answer × (after ≡ G711Packetizing)
PacketizerStep G722Packetizing mtu frame answer after = AnswersPieces mtu frame answer × (after ≡ G722Packetizing)
PacketizerStep OpusPacketizing mtu frame answer after = AnswersPieces mtu frame answer × (after ≡ OpusPacketizing)
PacketizerStep NullPacketizing mtu frame answer after = AnswersItself frame answer × (after ≡ NullPacketizing)
PacketizerStep (Vp8Packetizing id) mtu frame answer after = IfSome id (λ n. n < 2 ^ 15) × (next : Option ℕ) × Vp8Sends id mtu frame answer next × (after ≡ Vp8Packetizing next)
PacketizerStep (Vp9Packetizing sender) mtu frame answer after = (sender.picture_id < 2 ^ 15) × (next : Sender) × Vp9Sends sender mtu frame answer next × (after ≡ Vp9Packetizing next)
PacketizerStep ComfortNoisePacketizing mtu frame answer after = AnswersWhole mtu frame answer × (after ≡ ComfortNoisePacketizing)
PacketizerStep TelePacketizing mtu frame answer after = AnswersWhole mtu frame answer × (after ≡ TelePacketizing)
PacketizerStep Av1Packetizing mtu frame answer after = AnswersAv1 mtu frame answer × (after ≡ Av1Packetizing)
PacketizerStep (AmrWbPacketizing octet) mtu frame answer after = AnswersAmrWb octet mtu frame answer × (after ≡ AmrWbPacketizing octet)
PacketizerStep BoxedPacketizing mtu frame answer after = after ≡ BoxedPacketizing

-- the state of a packetizer of a codec, as numbers
abbrev pub numbers_of_packetizer : PacketizerState → List ℕ
numbers_of_packetizer (Vp8Packetizing id) = numbers_of_id id
numbers_of_packetizer (Vp9Packetizing sender) = numbers_of_sender sender
numbers_of_packetizer (AmrWbPacketizing octet) = layout octet
numbers_of_packetizer packetizer = []

-- the same step, with the packetizer afterwards as its numbers
abbrev pub PacketizerStepTo : PacketizerState → ℕ → List ℕ → Result (List (List ℕ)) PacketError → List ℕ → Type 0
PacketizerStepTo packetizer mtu frame answer after = (next : PacketizerState) × PacketizerStep packetizer mtu frame answer next × (after ≡ numbers_of_packetizer next)

-- the payloads that a packetizer makes
abbrev pub payloads_by : PacketizerState → DepacketizerKind
payloads_by G711Packetizing = G711Payloads
payloads_by G722Packetizing = G711Payloads
payloads_by OpusPacketizing = OpusPayloads
payloads_by NullPacketizing = NullPayloads
payloads_by (Vp8Packetizing id) = Vp8Payloads
payloads_by (Vp9Packetizing sender) = Vp9Payloads
payloads_by ComfortNoisePacketizing = ComfortNoisePayloads
payloads_by TelePacketizing = TelePayloads
payloads_by Av1Packetizing = Av1Payloads
payloads_by (AmrWbPacketizing octet) = AmrWbPayloads octet
payloads_by BoxedPacketizing = BoxedPayloads

-- what a codec is: one row for the payloads of each
pub record CodecFacts : Type 0 where
  -- whether the last packet of a frame is marked, and whether the marker announces the start of a talk spurt
  pub marks_last : Bool
  pub marks_spurt : Bool
  -- whether a lost packet may be asked for again
  pub nackable : Bool
  -- whether it is of video, so that a sample gives at most one unit
  pub video : Bool
  -- whether a receiver may be given the last parts of a unit alone
  pub splits : Bool
  -- whether a payload never reports picture ids, and whether each is a whole unit without a header
  pub quiet : Bool
  pub plain : Bool

-- for a custom codec the marker is unknown: nothing depends on its row
abbrev pub facts_of : DepacketizerKind → CodecFacts
facts_of G711Payloads = record { marks_last = false; marks_spurt = true; nackable = false; video = false; splits = false; quiet = true; plain = true }
facts_of OpusPayloads = record { marks_last = false; marks_spurt = true; nackable = false; video = false; splits = false; quiet = true; plain = true }
facts_of NullPayloads = record { marks_last = false; marks_spurt = false; nackable = true; video = false; splits = false; quiet = true; plain = true }
facts_of ComfortNoisePayloads = record { marks_last = false; marks_spurt = false; nackable = false; video = false; splits = false; quiet = true; plain = false }
facts_of TelePayloads = record { marks_last = false; marks_spurt = true; nackable = false; video = false; splits = false; quiet = true; plain = false }
facts_of (AmrWbPayloads octet) = record { marks_last = false; marks_spurt = true; nackable = false; video = false; splits = false; quiet = true; plain = false }
facts_of Vp8Payloads = record { marks_last = true; marks_spurt = false; nackable = true; video = true; splits = false; quiet = false; plain = false }
facts_of Vp9Payloads = record { marks_last = true; marks_spurt = false; nackable = true; video = true; splits = false; quiet = false; plain = false }
facts_of Av1Payloads = record { marks_last = true; marks_spurt = false; nackable = true; video = true; splits = true; quiet = true; plain = false }
facts_of BoxedPayloads = record { marks_last = false; marks_spurt = false; nackable = true; video = false; splits = false; quiet = false; plain = false }

-- whether a packet is marked; the last argument says that it is the last of its frame
abbrev pub marker_of : PacketizerState → Bool → Bool
marker_of packetizer last = (facts_of (payloads_by packetizer)).marks_last && last

-- the same as a step, which leaves the packetizer unchanged; both packets are ignored
abbrev pub MarkerStep : PacketizerState → List ℕ → Option (List ℕ) → Bool → Bool → List ℕ → Type 0
MarkerStep packetizer packet previous last answer after = (answer ≡ marker_of packetizer last) × (after ≡ numbers_of_packetizer packetizer)

abbrev pub talk_spurt_of : PacketizerState → Bool
talk_spurt_of packetizer = (facts_of (payloads_by packetizer)).marks_spurt

abbrev pub nackable_of : PacketizerState → Bool
nackable_of packetizer = (facts_of (payloads_by packetizer)).nackable

abbrev pub is_video : PacketizerState → Bool
is_video packetizer = (facts_of (payloads_by packetizer)).video

abbrev pub may_split : PacketizerState → Bool
may_split packetizer = (facts_of (payloads_by packetizer)).splits

abbrev pub is_quiet : DepacketizerKind → Bool
is_quiet kind = (facts_of kind).quiet

abbrev pub is_plain : DepacketizerKind → Bool
is_plain kind = (facts_of kind).plain
