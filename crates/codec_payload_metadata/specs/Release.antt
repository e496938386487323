-- A released unit, and the values that it has from its packets.
use Rattle.std.specs.Prelude.{◌≡◌, ℕ, ◌-◌, ◌%◌, ◌^◌, ◌<◌, ◌≤◌, List, [], Bool, false, None, Some, All, length, take, slice_get}
use Rattle.std.specs.Option.{option_or}
use Rattle.codec_payload_base.specs.Extensions.{no_values}
use Rattle.codec_payload_base.specs.Time.{Time}
use Rattle.codec_payload_base.specs.declared.interface.CodecExtra.{CodecExtra}
use Rattle.codec_payload_base.specs.declared.interface.CodecExtra.TheVariants as extras
use Rattle.codec_payload_base.specs.declared.wire.extension.ExtensionValues.{ExtensionValues}
use Rattle.codec_payload_metadata.specs.declared.meta.RtpMeta.{RtpMeta}

-- the metadata of a packet from its number, its time, its payload type and its time of arrival
abbrev pub meta_of : ℕ → Time → ℕ → ℕ → RtpMeta
meta_of number time payload_type received = record {
  received = record { 0 = received };
  time = time;
  seq_no = record { 0 = number };
  header = record {
    payload_type = payload_type;
    sequence_number = number % 2 ^ 16;
    timestamp = time.numer % 2 ^ 32;
    ssrc = 0;
    marker = false;
    ext_vals = no_values;
  };
  last_sender_info = None;
}

-- the RTP time of its packets, whether it directly follows the unit released before it, its bytes, its codec-specific data, and
-- the metadata of its packets, in order
pub record Release : Type 0 where
  pub time : Time
  pub contiguous : Bool
  pub bytes : List ℕ
  pub codec_extra : CodecExtra
  pub metas : List RtpMeta

-- a unit to which no pop has written
abbrev pub released_none : Release
released_none = record { time = record { numer = 0; rate = 90000 }; contiguous = false; bytes = []; codec_extra = extras.None; metas = [] }

-- m is the first metadata
abbrev pub IsFirst : List RtpMeta → RtpMeta → Type 0
IsFirst metas m = slice_get metas 0 ≡ Some m

-- m is the last metadata
abbrev pub IsLast : List RtpMeta → RtpMeta → Type 0
IsLast metas m = slice_get metas (length metas - 1) ≡ Some m

-- m, at place `at`, is the first packet with the earliest time of arrival
pub record IsReceivedFirst (metas : List RtpMeta) (m : RtpMeta) : Type 0 where
  pub at : ℕ
  pub there : slice_get metas at ≡ Some m
  pub least : All (λ (x : RtpMeta). m.received.0 ≤ x.received.0) metas
  pub first : All (λ (x : RtpMeta). m.received.0 < x.received.0) (take at metas)

-- the values of the last packet, with the capture time and layers allocation of the first packet, if that has them
abbrev pub merged : ExtensionValues → ExtensionValues → ExtensionValues
merged first last = record last {
  abs_capture_time = option_or first.abs_capture_time last.abs_capture_time;
  layers_allocation = option_or first.layers_allocation last.layers_allocation;
}

-- the extension values of a unit with these packets
pub record AreValues (metas : List RtpMeta) (values : ExtensionValues) : Type 0 where
  pub first : RtpMeta
  pub last : RtpMeta
  pub begins : IsFirst metas first
  pub ends : IsLast metas last
  pub are : values ≡ merged first.header.ext_vals last.header.ext_vals
