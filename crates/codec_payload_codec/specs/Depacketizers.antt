-- Depacketizers in contracts, and the effect of each of their calls.
use Rattle.std.specs.Prelude.{◌≡◌, ℕ, List, [], ◌∷◌, Bool, true, false, min, Option, Some, None, Result, ⊤}
use Rattle.codec_payload_audio.specs.AmrWb.{layout}
use Rattle.codec_payload_audio.specs.AmrWbReceived.{AmrWbStep}
use Rattle.codec_payload_audio.specs.Payloads.{Appends, AppendsSome}
use Rattle.codec_payload_base.specs.TelephoneReport.{TeleStep}
use Rattle.codec_payload_av1.specs.Av1Payload.{is_head}
use Rattle.codec_payload_av1.specs.Av1Steps.{Av1Step}
use Rattle.codec_payload_vp8.specs.Vp8Received.{Vp8Step, is_start, numbers_of}
use Rattle.codec_payload_vp8.specs.declared.vp8.depacketizer.Vp8Depacketizer.{Vp8Depacketizer}
use Rattle.codec_payload_vp9.specs.Vp9Fields.{Fields, fields_of, unused}
use Rattle.codec_payload_vp9.specs.Vp9Received.{Vp9Step, is_start as is_vp9_start, numbers_of as numbers_of_fields}
use Rattle.codec_payload_base.specs.declared.error.PacketError.{PacketError}
use Rattle.codec_payload_base.specs.declared.interface.CodecExtra.{CodecExtra}
use Rattle.codec_payload_base.specs.declared.wire.Codec.{Codec}
use Rattle.codec_payload_base.specs.declared.wire.Codec.TheVariants as codecs
use Rattle.codec_payload_codec.specs.declared.codec.depacketizer.CodecDepacketizer.{CodecDepacketizer}
use Rattle.codec_payload_codec.specs.declared.codec.depacketizer.CodecDepacketizer.TheVariants as variants

-- a depacketizer of each codec, with its state; the state of a custom one is unknown
pub data DepacketizerState : Type 0 where
  G711Depacketizing : DepacketizerState
  OpusDepacketizing : DepacketizerState
  ComfortNoiseDepacketizing : DepacketizerState
  TeleDepacketizing : ℕ → DepacketizerState
  Vp8Depacketizing : Vp8Depacketizer → DepacketizerState
  Vp9Depacketizing : Fields → DepacketizerState
  Av1Depacketizing : List ℕ → DepacketizerState
  AmrWbDepacketizing : Bool → DepacketizerState
  NullDepacketizing : DepacketizerState
  BoxedDepacketizing : DepacketizerState

abbrev pub depacketizer_state_of : {B : _} → CodecDepacketizer B → DepacketizerState
depacketizer_state_of (variants.G711 _) = G711Depacketizing
depacketizer_state_of (variants.Opus _) = OpusDepacketizing
depacketizer_state_of (variants.Null _) = NullDepacketizing
depacketizer_state_of (variants.Vp8 d) = Vp8Depacketizing d
depacketizer_state_of (variants.Vp9 d) = Vp9Depacketizing (fields_of d)
depacketizer_state_of (variants.ComfortNoise _) = ComfortNoiseDepacketizing
depacketizer_state_of (variants.Tele rate) = TeleDepacketizing rate
depacketizer_state_of (variants.Av1 pending) = Av1Depacketizing pending
depacketizer_state_of (variants.AmrWb d) = AmrWbDepacketizing d.octet_align
depacketizer_state_of (variants.Boxed _) = BoxedDepacketizing

-- which payloads a depacketizer reads, whatever it holds
pub data DepacketizerKind : Type 0 where
  G711Payloads : DepacketizerKind
  OpusPayloads : DepacketizerKind
  ComfortNoisePayloads : DepacketizerKind
  TelePayloads : DepacketizerKind
  Vp8Payloads : DepacketizerKind
  Vp9Payloads : DepacketizerKind
  Av1Payloads : DepacketizerKind
  AmrWbPayloads : Bool → DepacketizerKind
  NullPayloads : DepacketizerKind
  BoxedPayloads : DepacketizerKind

abbrev pub kind_of_depacketizer : DepacketizerState → DepacketizerKind
kind_of_depacketizer G711Depacketizing = G711Payloads
kind_of_depacketizer OpusDepacketizing = OpusPayloads
kind_of_depacketizer NullDepacketizing = NullPayloads
kind_of_depacketizer (Vp8Depacketizing d) = Vp8Payloads
kind_of_depacketizer (Vp9Depacketizing d) = Vp9Payloads
kind_of_depacketizer ComfortNoiseDepacketizing = ComfortNoisePayloads
kind_of_depacketizer (TeleDepacketizing rate) = TelePayloads
kind_of_depacketizer (Av1Depacketizing pending) = Av1Payloads
kind_of_depacketizer (AmrWbDepacketizing octet) = AmrWbPayloads octet
kind_of_depacketizer BoxedDepacketizing = BoxedPayloads

-- whether the payloads are in the format of a codec, and not of a custom depacketizer
abbrev pub is_codec : DepacketizerKind → Bool
is_codec BoxedPayloads = false
is_codec kind = true

abbrev pub is_built_in_depacketizer : DepacketizerState → Bool
is_built_in_depacketizer depacketizer = is_codec (kind_of_depacketizer depacketizer)

-- a VP8 depacketizer that has read nothing
abbrev pub unused_vp8 : Vp8Depacketizer
unused_vp8 = record {
  x = 0;
  n = 0;
  s = 0;
  pid = 0;
  i = 0;
  l = 0;
  t = 0;
  k = 0;
  picture_id = 0;
  extended_pid = None;
  tl0_pic_idx = 0;
  extended_tl0_pic_idx = None;
  tid = 0;
  y = 0;
  key_idx = 0;
  p = 0;
}

-- the depacketizer that a codec is given, if it has one
abbrev pub depacketizer_state_for : Codec → Option DepacketizerState
depacketizer_state_for codecs.Opus = Some OpusDepacketizing
depacketizer_state_for codecs.PCMU = Some G711Depacketizing
depacketizer_state_for codecs.PCMA = Some G711Depacketizing
depacketizer_state_for codecs.G722 = Some G711Depacketizing
depacketizer_state_for codecs.Null = Some NullDepacketizing
depacketizer_state_for codecs.CN = Some ComfortNoiseDepacketizing
depacketizer_state_for codecs.AmrWb = Some (AmrWbDepacketizing false)
depacketizer_state_for codecs.H264 = None
depacketizer_state_for codecs.H265 = None
depacketizer_state_for codecs.H266 = None
depacketizer_state_for codecs.Vp8 = Some (Vp8Depacketizing unused_vp8)
depacketizer_state_for codecs.Vp9 = Some (Vp9Depacketizing unused)
depacketizer_state_for codecs.Av1 = Some (Av1Depacketizing [])
depacketizer_state_for codecs.Tele = Some (TeleDepacketizing 8000)
depacketizer_state_for codecs.Rtx = None
depacketizer_state_for codecs.Red = None
depacketizer_state_for codecs.Unknown = None

-- a depacketizer after a specification was taken over: the layout of AMR-WB, and the clock of telephone events
abbrev pub configured_depacketizer : Bool → ℕ → DepacketizerState → DepacketizerState
configured_depacketizer octet rate (TeleDepacketizing before) = TeleDepacketizing rate
configured_depacketizer octet rate (AmrWbDepacketizing before) = AmrWbDepacketizing octet
configured_depacketizer octet rate depacketizer = depacketizer

-- the depacketizer, the payload, the bytes and the codec-specific data before; the result; the three afterwards. A custom one may
-- return anything
abbrev pub DepacketizerStep : DepacketizerState → List ℕ → List ℕ → CodecExtra → Result ⊤ PacketError → DepacketizerState → List ℕ → CodecExtra → Type 0
DepacketizerStep G711Depacketizing payload out extra answer after out' extra' = Appends payload out extra answer out' extra' × (after ≡ G711Depacketizing)
DepacketizerStep OpusDepacketizing payload out extra answer after out' extra' = Appends payload out extra answer out' extra' × (after ≡ OpusDepacketizing)
DepacketizerStep NullDepacketizing payload out extra answer after out' extra' = Appends payload out extra answer out' extra' × (after ≡ NullDepacketizing)
DepacketizerStep (Vp8Depacketizing d) payload out extra answer after out' extra' = (next : Vp8Depacketizer) × Vp8Step d payload out extra answer next out' extra' × (after ≡ Vp8Depacketizing next)
DepacketizerStep (Vp9Depacketizing d) payload out extra answer after out' extra' = (next : Fields) × Vp9Step d payload out extra answer next out' extra' × (after ≡ Vp9Depacketizing next)
DepacketizerStep ComfortNoiseDepacketizing payload out extra answer after out' extra' = AppendsSome payload out extra answer out' extra' × (after ≡ ComfortNoiseDepacketizing)
DepacketizerStep (TeleDepacketizing rate) payload out extra answer after out' extra' = TeleStep rate payload out extra answer out' extra' × (after ≡ TeleDepacketizing rate)
DepacketizerStep (Av1Depacketizing pending) payload out extra answer after out' extra' = (left : List ℕ) × Av1Step pending payload out extra answer left out' extra' × (after ≡ Av1Depacketizing left)
DepacketizerStep (AmrWbDepacketizing octet) payload out extra answer after out' extra' = AmrWbStep octet payload out extra answer out' extra' × (after ≡ AmrWbDepacketizing octet)
DepacketizerStep BoxedDepacketizing payload out extra answer after out' extra' = after ≡ BoxedDepacketizing

-- the state of a depacketizer of a codec, as numbers
abbrev pub numbers_of_depacketizer : DepacketizerState → List ℕ
numbers_of_depacketizer (Vp8Depacketizing d) = numbers_of d
numbers_of_depacketizer (Vp9Depacketizing d) = numbers_of_fields d
numbers_of_depacketizer (TeleDepacketizing rate) = rate ∷ []
numbers_of_depacketizer (Av1Depacketizing pending) = pending
numbers_of_depacketizer (AmrWbDepacketizing octet) = layout octet
numbers_of_depacketizer depacketizer = []

-- the same step, with the depacketizer afterwards as its numbers
abbrev pub DepacketizerStepTo : DepacketizerState → List ℕ → List ℕ → CodecExtra → Result ⊤ PacketError → List ℕ → List ℕ → CodecExtra → Type 0
DepacketizerStepTo d payload out extra answer after out' extra' = (next : DepacketizerState) × DepacketizerStep d payload out extra answer next out' extra' × (after ≡ numbers_of_depacketizer next)

-- whether a payload begins a unit. For a custom depacketizer this is unknown: nothing depends on the values here, nor in the two
-- below
abbrev pub head_in : DepacketizerKind → List ℕ → Bool
head_in Vp8Payloads payload = is_start payload
head_in Vp9Payloads payload = is_vp9_start payload
head_in Av1Payloads payload = is_head payload
head_in BoxedPayloads payload = false
head_in kind payload = true

abbrev pub head_of : DepacketizerState → List ℕ → Bool
head_of depacketizer payload = head_in (kind_of_depacketizer depacketizer) payload

-- whether a payload under this marker ends a unit
abbrev pub tail_in : DepacketizerKind → Bool → List ℕ → Bool
tail_in Vp8Payloads marker payload = marker
tail_in Vp9Payloads marker payload = marker
tail_in Av1Payloads marker payload = marker
tail_in BoxedPayloads marker payload = false
tail_in kind marker payload = true

abbrev pub tail_of : DepacketizerState → Bool → List ℕ → Bool
tail_of depacketizer marker payload = tail_in (kind_of_depacketizer depacketizer) marker payload

-- how many bytes payloads of a total size may give
abbrev pub hint_of : DepacketizerState → ℕ → Option ℕ
hint_of (TeleDepacketizing rate) size = Some (min size 4)
hint_of BoxedDepacketizing size = None
hint_of depacketizer size = Some size
