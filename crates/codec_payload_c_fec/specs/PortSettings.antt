-- Settings of a port with FEC, from C.
use Rattle.std.specs.Prelude.{◌≡◌, ◌⊎◌, ℕ, Bool, true, false, if◌then◌else◌, List, [], map, Option, Some, None}
use Rattle.codec_payload_fec_port.specs.Ports.{new_port}
use Rattle.codec_payload_fec_port.specs.Settings.{fault_of}
use Rattle.codec_payload_fec_port.specs.declared.port_settings.FecPortSettings.{FecPortSettings as Settings}
use Rattle.codec_payload_fec_port.specs.declared.port_settings.FecPortSettingsError.{FecPortSettingsError}
use Rattle.codec_payload_fec_port.specs.declared.port_settings.FecPortSettingsError.TheVariants as faults
use Rattle.codec_payload_fec_port.specs.declared.port_settings.RetransmissionType.{RetransmissionType as Pair}
use Rattle.codec_payload_fec_receiver.specs.declared.late.LateIds.{LateIds}
use Rattle.codec_payload_c_path.specs.FecReceivers.{id_of}
use Rattle.codec_payload_c_path.specs.declared.object.CallerFecPort.{CallerFecPort}
use Rattle.codec_payload_c_path.specs.declared.object.PathObject.{PathObject}
use Rattle.codec_payload_c_path.specs.declared.object.PathObject.TheVariants as objects
use Rattle.codec_payload_c_fec.specs.declared.port_settings.FecPortSettings.{FecPortSettings}
use Rattle.codec_payload_c_fec.specs.declared.port_settings.RetransmissionType.{RetransmissionType}

-- room for 512 packets of 1,500 bytes for each stream
abbrev pub port_defaults : FecPortSettings
port_defaults = record {
  bytes = 768000;
  max_streams = 64;
  red_type = 0;
  fec_type = 0;
  red_retransmission = 0;
  has_red_retransmission = false;
  transport_number = 0;
  abs_send_time = 0;
  transmission_offset = 0;
  video_timing = 0;
}

abbrev pub late_given : (transport_number abs_send_time transmission_offset video_timing : ℕ) → LateIds
late_given transport_number abs_send_time transmission_offset video_timing = record {
  transport_number = id_of transport_number;
  abs_send_time = id_of abs_send_time;
  transmission_offset = id_of transmission_offset;
  video_timing = id_of video_timing;
}

abbrev pub given_if : Bool → ℕ → Option ℕ
given_if is_given number = if is_given then Some number else None

abbrev pub pair_given : RetransmissionType → Pair
pair_given p = record { media = p.media; retransmission = p.retransmission }

-- the settings, from C
pub record AreSettings (s : FecPortSettings) (retransmissions : List RetransmissionType) (t : Settings) : Type 0 where
  pub red_type : t.red_type ≡ s.red_type
  pub fec_type : t.fec_type ≡ s.fec_type
  pub red_retransmission : t.red_retransmission ≡ given_if s.has_red_retransmission s.red_retransmission
  pub retransmissions_are : t.retransmissions.items ≡ map pair_given retransmissions
  pub late_ids : t.late_ids ≡ late_given s.transport_number s.abs_send_time s.transmission_offset s.video_timing
  pub bytes : t.bytes ≡ s.bytes
  pub max_streams : t.max_streams ≡ s.max_streams

abbrev pub fault_status : FecPortSettingsError → ℕ
fault_status faults.MaxStreams = 87
fault_status (faults.PayloadType _) = 88
fault_status (faults.TwoMeanings _) = 89

-- a port without streams, which lends nothing
pub record IsNewPort (s : FecPortSettings) (retransmissions : List RetransmissionType) (r : CallerFecPort) : Type 0 where
  pub settings : Settings
  pub are : AreSettings s retransmissions settings
  pub faultless : fault_of settings ≡ None
  pub made : r.port ≡ new_port settings
  pub passed : r.passed.items ≡ []
  pub rebuilt : r.rebuilt.items ≡ []

abbrev pub IsPortOf : FecPortSettings → List RetransmissionType → PathObject → Type 0
IsPortOf s retransmissions (objects.FecPort r) = IsNewPort s retransmissions r.value
IsPortOf s retransmissions _ = ⊥

-- settings that no port can meet, and the status of their first fault
pub record HasFault (s : FecPortSettings) (retransmissions : List RetransmissionType) (status : ℕ) : Type 0 where
  pub settings : Settings
  pub are : AreSettings s retransmissions settings
  pub fault : FecPortSettingsError
  pub is_first : fault_of settings ≡ Some fault
  pub says : status ≡ fault_status fault

-- status 17: memory ran out
abbrev pub IsRefused : FecPortSettings → List RetransmissionType → ℕ → Type 0
IsRefused s retransmissions status = HasFault s retransmissions status ⊎ (status ≡ 17)
