-- The description of a unit, for C.
use Rattle.std.specs.Prelude.{◌≡◌, true, false, List, length}
use Rattle.codec_payload_base.specs.declared.wire.extension.ExtensionValues.{ExtensionValues}
use Rattle.codec_payload_core.specs.Faults.{fault_number}
use Rattle.codec_payload_core.specs.Release.{Release, AreValues, IsFirst, IsLast, IsReceivedFirst}
use Rattle.codec_payload_core.specs.declared.buffer.RtpMeta.{RtpMeta}
use Rattle.codec_payload_core.specs.declared.error.PacketError.{PacketError}
use Rattle.codec_payload_handle.specs.Extras.{extra_told, nothing_told}
use Rattle.codec_payload_handle.specs.HeaderValues.{values_told}
use Rattle.codec_payload_handle.specs.declared.extension_values.ExtensionValues.{ExtensionValues as CValues}
use Rattle.codec_payload_handle.specs.declared.unit.Unit.{Unit as CUnit}

-- the values of header extensions of these packets are described
abbrev pub TellsValues : List RtpMeta → CValues → Type 0
TellsValues metas values = (v : ExtensionValues) × AreValues metas v × (values ≡ values_told v)

-- no unit: each number is 0, and each flag is false
abbrev pub no_unit : CUnit
no_unit = record {
  first = 0;
  last = 0;
  rtp_time = 0;
  received = 0;
  bytes = 0;
  contiguous = false;
  starts_talk_spurt = false;
  decodable = false;
  keyframe = false;
  extra = nothing_told;
  fault = 0;
}

-- a refused frame: its fault, and nothing else
abbrev pub refused_unit : PacketError → CUnit
refused_unit fault = record no_unit { fault = fault_number fault }

-- a unit that is too large: that it is, and nothing else
abbrev pub too_large_unit : CUnit
too_large_unit = record no_unit { fault = 76 }

-- the description of a unit without a receiver
pub record TellsUnit (u : Release) (unit : CUnit) : Type 0 where
  pub first : (m : RtpMeta) × IsFirst u.metas m × (unit.first ≡ m.seq_no.0)
  pub last : (m : RtpMeta) × IsLast u.metas m × (unit.last ≡ m.seq_no.0)
  pub rtp_time : unit.rtp_time ≡ u.time.numer
  pub received : (m : RtpMeta) × IsReceivedFirst u.metas m × (unit.received ≡ m.received.0)
  pub bytes : unit.bytes ≡ length u.bytes
  pub contiguous : unit.contiguous ≡ u.contiguous
  pub starts : (m : RtpMeta) × IsFirst u.metas m × (unit.starts_talk_spurt ≡ m.header.marker)
  pub decodable : unit.decodable ≡ true
  pub keyframe : unit.keyframe ≡ false
  pub extra : unit.extra ≡ extra_told u.codec_extra
  pub no_fault : unit.fault ≡ 0
