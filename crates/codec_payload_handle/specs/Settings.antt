-- Packetizers and depacketizers for given settings.
use Rattle.std.specs.Prelude.{ℕ, Bool, true, false, ◌&&◌, ◌==◌, nat_lt, if◌then◌else◌, Option, Some, None, option_map}
use Rattle.codec_payload_core.specs.Depacketizers.{DepacketizerState, depacketizer_state_for, configured_depacketizer}
use Rattle.codec_payload_core.specs.Packetizers.{PacketizerState, Vp8Packetizing, packetizer_state_for, configured}
use Rattle.codec_payload_core.specs.declared.interface.Vp9PacketizerMode.{Vp9PacketizerMode}
use Rattle.codec_payload_core.specs.declared.interface.Vp9PacketizerMode.TheVariants as modes
use Rattle.codec_payload_core.specs.declared.wire.Codec.{Codec}
use Rattle.codec_payload_core.specs.declared.wire.Codec.TheVariants as codecs
use Rattle.codec_payload_handle.specs.declared.settings.Spec.{Spec}

-- the codec with a number; 6 to 8 are reserved for H.26x, which is unsupported
abbrev pub codec_numbered : ℕ → Codec
codec_numbered n =
    if n == 0 then codecs.Opus
    else if n == 1 then codecs.PCMU
    else if n == 2 then codecs.PCMA
    else if n == 3 then codecs.G722
    else if n == 4 then codecs.CN
    else if n == 5 then codecs.AmrWb
    else if n == 9 then codecs.Vp8
    else if n == 10 then codecs.Vp9
    else if n == 11 then codecs.Av1
    else if n == 12 then codecs.Null
    else if n == 13 then codecs.Tele
    else codecs.Unknown

abbrev pub mode_set : Bool → Vp9PacketizerMode
mode_set true = modes.Flexible
mode_set false = modes.NonFlexible

-- the packetizer, if there is one: the rate is above 0, the picture id has at most 15 bits, and the codec has a packetizer
abbrev pub packetizer_set : Spec → Option PacketizerState
packetizer_set s =
    if nat_lt 0 s.rate && nat_lt s.first_id 32768
    then if s.vp8_ids && (s.codec == 9) then Some (Vp8Packetizing (Some s.first_id))
    else option_map (configured s.octet_align) (packetizer_state_for (mode_set s.vp9_flexible) s.first_id (codec_numbered s.codec))
    else None

-- the depacketizer, if there is one
abbrev pub depacketizer_set : Spec → Option DepacketizerState
depacketizer_set s = if nat_lt 0 s.rate then option_map (configured_depacketizer s.octet_align s.rate) (depacketizer_state_for (codec_numbered s.codec)) else None
