-- The fields of lines.
use Rattle.std.specs.Prelude.{◌≡◌, ℕ, ◌+◌, ◌^◌, ◌<◌, ◌⊎◌, IsSome, if◌then◌else◌, Bool, List, codes, Option, Some, None}
use Rattle.std.specs.Str.{bytes_eq}
use Rattle.std.specs.Str.Parse.{digits_value}
use Rattle.codec_payload_core.specs.declared.interface.Vp9PacketizerMode.{Vp9PacketizerMode}
use Rattle.codec_payload_core.specs.declared.interface.Vp9PacketizerMode.TheVariants as modes
use Rattle.codec_payload_core.specs.declared.wire.Codec.{Codec}
use Rattle.codec_payload_core.specs.declared.wire.Codec.TheVariants as codecs
use Rattle.payload_lines.specs.HexField.{hex_field_of}
use Rattle.payload_lines.specs.Numbers.{IsNumber}

-- the codec with this name
abbrev pub codec_of : List ℕ → Option Codec
codec_of name =
    if bytes_eq name (codes "opus") then Some codecs.Opus
    else if bytes_eq name (codes "pcmu") then Some codecs.PCMU
    else if bytes_eq name (codes "pcma") then Some codecs.PCMA
    else if bytes_eq name (codes "g722") then Some codecs.G722
    else if bytes_eq name (codes "cn") then Some codecs.CN
    else if bytes_eq name (codes "amrwb") then Some codecs.AmrWb
    else if bytes_eq name (codes "amrwb-octet") then Some codecs.AmrWb
    else if bytes_eq name (codes "vp8") then Some codecs.Vp8
    else if bytes_eq name (codes "vp8-id") then Some codecs.Vp8
    else if bytes_eq name (codes "vp9") then Some codecs.Vp9
    else if bytes_eq name (codes "vp9-flex") then Some codecs.Vp9
    else if bytes_eq name (codes "av1") then Some codecs.Av1
    else if bytes_eq name (codes "tele") then Some codecs.Tele
    else if bytes_eq name (codes "null") then Some codecs.Null
    else None

-- whether a name asks for the octet-aligned layout
abbrev pub names_octet_aligned : List ℕ → Bool
names_octet_aligned name = bytes_eq name (codes "amrwb-octet")

-- whether a name asks for VP8 with picture ids
abbrev pub names_vp8_ids : List ℕ → Bool
names_vp8_ids name = bytes_eq name (codes "vp8-id")

-- the mode of VP9 that a name asks for
abbrev pub vp9_mode_of : List ℕ → Vp9PacketizerMode
vp9_mode_of name = if bytes_eq name (codes "vp9-flex") then modes.Flexible else modes.NonFlexible

-- the fields after `codec` are in range: the rate is above 0, the first number at most 2^62, the id below 2^15
abbrev pub AreSetup : List ℕ → List ℕ → List ℕ → List ℕ → List ℕ → Type 0
AreSetup name rate hold_back number id =
    IsSome (codec_of name) × IsNumber (2 ^ 32) rate × (0 < digits_value 10 rate) × IsNumber (2 ^ 64) hold_back
    × IsNumber (2 ^ 62 + 1) number × IsNumber (2 ^ 15) id

-- the field after `limit` is a number from 1 to 65,536
abbrev pub IsLimitField : List ℕ → Type 0
IsLimitField text = IsNumber 65537 text × (0 < digits_value 10 text)

-- the fields after `sample` are a time, `0` or `1`, and hexadecimal digits
abbrev pub AreSample : List ℕ → List ℕ → List ℕ → Type 0
AreSample time talk_spurt hex =
    IsNumber (2 ^ 64) time × ((talk_spurt ≡ codes "0") ⊎ (talk_spurt ≡ codes "1")) × IsSome (hex_field_of hex)
