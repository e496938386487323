-- What holds for each codec, by the codecs: the crates above cite these.
use Rattle.std.proofs.Common.{◌≡◌, ap, refl, ℕ, List, Bool, true, false, Result}
use Rattle.std.specs.Prelude.{⊤}
use Rattle.codec_payload_base.specs.declared.error.PacketError.{PacketError}
use Rattle.codec_payload_base.specs.declared.interface.CodecExtra.{CodecExtra}
use Rattle.codec_payload_codec.specs.Depacketizers.{DepacketizerState, Vp8Depacketizing, Vp9Depacketizing, Av1Depacketizing, BoxedDepacketizing, DepacketizerStep}
use Rattle.codec_payload_codec.specs.Depacketizers.{depacketizer_state_of, is_built_in_depacketizer, is_codec, tail_in}
use Rattle.codec_payload_codec.specs.Packetizers.{PacketizerState, Vp8Packetizing, Vp9Packetizing, Av1Packetizing, BoxedPacketizing, PacketizerStep}
use Rattle.codec_payload_codec.specs.Packetizers.{packetizer_state_of, is_built_in, is_video, payloads_by}
use Rattle.codec_payload_codec.specs.declared.codec.depacketizer.CodecDepacketizer.{CodecDepacketizer}
use Rattle.codec_payload_codec.specs.declared.codec.depacketizer.CodecDepacketizer.TheVariants as receivers
use Rattle.codec_payload_codec.specs.declared.codec.packetizer.CodecPacketizer.{CodecPacketizer}
use Rattle.codec_payload_codec.specs.declared.codec.packetizer.CodecPacketizer.TheVariants as senders

-- a packetizer that is built in stays so, and a custom one stays custom
pub packetizer_stays : (p : PacketizerState) (mtu : ℕ) (frame : List ℕ) (answer : Result (List (List ℕ)) PacketError) (q : PacketizerState)
    → PacketizerStep p mtu frame answer q → is_built_in q ≡ is_built_in p
packetizer_stays (Vp8Packetizing id) mtu frame answer q step = ap is_built_in step.3
packetizer_stays (Vp9Packetizing sender) mtu frame answer q step = ap is_built_in step.3
packetizer_stays BoxedPacketizing mtu frame answer q step = ap is_built_in step
packetizer_stays p mtu frame answer q step = ap is_built_in step.1

-- and so does a depacketizer
pub depacketizer_stays : (d : DepacketizerState) (payload out : List ℕ) (extra : CodecExtra) (answer : Result ⊤ PacketError) (e : DepacketizerState) (out' : List ℕ) (extra' : CodecExtra)
    → DepacketizerStep d payload out extra answer e out' extra' → is_built_in_depacketizer e ≡ is_built_in_depacketizer d
depacketizer_stays (Vp8Depacketizing d) payload out extra answer e out' extra' step = ap is_built_in_depacketizer step.2
depacketizer_stays (Vp9Depacketizing d) payload out extra answer e out' extra' step = ap is_built_in_depacketizer step.2
depacketizer_stays (Av1Depacketizing pending) payload out extra answer e out' extra' step = ap is_built_in_depacketizer step.2
depacketizer_stays BoxedDepacketizing payload out extra answer e out' extra' step = ap is_built_in_depacketizer step
depacketizer_stays d payload out extra answer e out' extra' step = ap is_built_in_depacketizer step.1

-- a packetizer that is built in makes payloads of a codec
pub codec_payloads : (p : PacketizerState) → is_built_in p ≡ true → is_codec (payloads_by p) ≡ true
codec_payloads BoxedPacketizing e = e
codec_payloads p e = refl

-- only codecs of video use the marker to find the end of a unit
pub marker_free : (p : PacketizerState) → is_video p ≡ false → (a b : Bool) (payload : List ℕ) → tail_in (payloads_by p) a payload ≡ tail_in (payloads_by p) b payload
marker_free (Vp8Packetizing id) none a b payload = absurd (cc)
marker_free (Vp9Packetizing sender) none a b payload = absurd (cc)
marker_free Av1Packetizing none a b payload = absurd (cc)
marker_free p none a b payload = refl

-- a packetizer that is not built in is custom
pub own_packetizer : {B : Type 0} (p : CodecPacketizer B) → is_built_in (packetizer_state_of p) ≡ false → (b : B) × (p ≡ senders.Boxed b)
own_packetizer (senders.Boxed b) other = (b, refl)
own_packetizer p other = absurd (cc)

-- and so is a depacketizer
pub own_depacketizer : {B : Type 0} (d : CodecDepacketizer B) → is_built_in_depacketizer (depacketizer_state_of d) ≡ false → (b : B) × (d ≡ receivers.Boxed b)
own_depacketizer (receivers.Boxed b) other = (b, refl)
own_depacketizer d other = absurd (cc)
