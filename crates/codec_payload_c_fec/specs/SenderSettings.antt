-- Settings of a sender of FEC, from C.
use Rattle.std.specs.Prelude.{◌≡◌, ◌⊎◌, ℕ, nat_lt, if◌then◌else◌, [], Option, Some, None}
use Rattle.codec_payload_sending_fec.specs.Senders.{new_sender, refusal_of}
use Rattle.codec_payload_sending_fec.specs.declared.fec_sender.FecSenderError.{FecSenderError}
use Rattle.codec_payload_sending_fec.specs.declared.fec_sender.FecSenderError.TheVariants as errors
use Rattle.codec_payload_sending_fec.specs.declared.fec_sender.FecSenderSettings.{FecSenderSettings as Settings}
use Rattle.codec_payload_c_path.specs.declared.object.CallerFecSender.{CallerFecSender}
use Rattle.codec_payload_c_path.specs.declared.object.PathObject.{PathObject}
use Rattle.codec_payload_c_path.specs.declared.object.PathObject.TheVariants as objects
use Rattle.codec_payload_c_fec.specs.PortSettings.{late_given}
use Rattle.codec_payload_c_fec.specs.declared.sender_settings.FecSenderSettings.{FecSenderSettings}

abbrev pub settings_given : FecSenderSettings → Settings
settings_given s = record {
  ssrc = s.ssrc;
  red_type = s.red_type;
  fec_type = s.fec_type;
  first_number = s.first_number;
  writer = record { protection = s.protection; keyframe_protection = s.keyframe_protection };
  late_ids = late_given s.transport_number s.abs_send_time s.transmission_offset s.video_timing;
}

-- 88: the payload type is above 127; 89: that of ULPFEC equals that of RED
abbrev pub refusal_status : FecSenderSettings → FecSenderError → ℕ
refusal_status s errors.RedType = 88
refusal_status s errors.FecType = if nat_lt s.fec_type 128 then 89 else 88

-- a sender that has written nothing, and lends nothing
pub record IsNewSender (s : FecSenderSettings) (r : CallerFecSender) : Type 0 where
  pub faultless : refusal_of (settings_given s) ≡ None
  pub made : r.sender ≡ new_sender (settings_given s)
  pub packet : r.packet.items ≡ []
  pub fec : r.fec.payloads ≡ []

abbrev pub IsSenderOf : FecSenderSettings → PathObject → Type 0
IsSenderOf s (objects.FecSender r) = IsNewSender s r.value
IsSenderOf s _ = ⊥

-- the status of the first setting that is out of range
abbrev pub IsRefusedBy : FecSenderSettings → Option FecSenderError → ℕ → Type 0
IsRefusedBy s None status = ⊥
IsRefusedBy s (Some fault) status = status ≡ refusal_status s fault

-- status 17: the settings are in range, and memory ran out
abbrev pub IsRefused : FecSenderSettings → ℕ → Type 0
IsRefused s status = IsRefusedBy s (refusal_of (settings_given s)) status ⊎ ((status ≡ 17) × (refusal_of (settings_given s) ≡ None))
