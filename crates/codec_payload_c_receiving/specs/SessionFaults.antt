-- The first setting of a session that no session can meet, as C sees it.
use Rattle.std.specs.Prelude.{◌≡◌, ◌⊎◌, ℕ, suc, nat_le, nat_lt, if◌then◌else◌, true, false, Option, Some, None, List, [], ◌∷◌}
use Rattle.std.specs.Option.{option_map}
use Rattle.codec_payload_session_formats.specs.declared.checks.SessionSettingsError.{SessionSettingsError}
use Rattle.codec_payload_session_formats.specs.declared.checks.SessionSettingsError.TheVariants as faults
use Rattle.codec_payload_c_receiving.specs.SessionFormats.{fault_given, format_in_range}
use Rattle.codec_payload_c_receiving.specs.declared.session_faults.SettingsFault.{SettingsFault}
use Rattle.codec_payload_c_receiving.specs.declared.session_settings.SessionFormat.{SessionFormat}
use Rattle.codec_payload_c_receiving.specs.declared.session_settings.SessionSettings.{SessionSettings}

-- ---- the fault, by its number

-- 0: no fault; else a fault of a setting that is in no format and no list
abbrev pub plain_fault : ℕ → SettingsFault
plain_fault kind = record { format = 0; kind = kind; payload_type = 0; has_format = false; has_payload_type = false }

-- a fault of the format with this index
abbrev pub fault_at : (kind format : ℕ) → SettingsFault
fault_at kind format = record (plain_fault kind) { format = format; has_format = true }

-- a fault of a payload type, which the format with this index has, or else a list
abbrev pub type_fault_at : ℕ → Option ℕ → ℕ → SettingsFault
type_fault_at kind None payload_type = record (plain_fault kind) { payload_type = payload_type; has_payload_type = true }
type_fault_at kind (Some format) payload_type = record (fault_at kind format) { payload_type = payload_type; has_payload_type = true }

abbrev pub fault_told : SessionSettingsError → SettingsFault
fault_told faults.Limit = plain_fault 4
fault_told faults.MaxStreams = plain_fault 5
fault_told (faults.Codec format) = fault_at 6 format
fault_told (faults.RedStep format) = fault_at 7 format
fault_told (faults.PayloadType format payload_type) = type_fault_at 8 format payload_type
fault_told (faults.TwoMeanings format payload_type) = type_fault_at 9 format payload_type
fault_told faults.Cname = plain_fault 10
fault_told faults.TransportId = plain_fault 11
fault_told faults.TransportWindow = plain_fault 12

-- ---- the first fault

-- the first of the formats whose clock has no rate; the index of the first one is given
abbrev pub rate_fault : ℕ → List SessionFormat → Option SettingsFault
rate_fault index [] = None
rate_fault index (f ∷ fs) = if format_in_range f then rate_fault (suc index) fs else Some (fault_at 3 index)

-- numbers of C that the settings of a session cannot have: a clock without a rate, and `from_keyframe` without a meaning
abbrev pub range_fault : SessionSettings → List SessionFormat → Option SettingsFault
range_fault s formats = if nat_lt 0 s.tick_rate then (if nat_le s.from_keyframe 2 then rate_fault 0 formats else Some (plain_fault 2)) else Some (plain_fault 1)

abbrev pub first_told : Option SettingsFault → Option SessionSettingsError → Option SettingsFault
first_told (Some own) fault = Some own
first_told None fault = option_map fault_told fault

-- those numbers come first, and then the first setting that no session can meet
abbrev pub fault_for_c : SessionSettings → List SessionFormat → List ℕ → Option SettingsFault
fault_for_c s formats no_media = first_told (range_fault s formats) (fault_given s formats no_media)

-- ---- the call

-- status 0: there is no fault; 37: there is one
abbrev pub TellsFault : Option SettingsFault → ℕ → SettingsFault → Type 0
TellsFault None status after = (status ≡ 0) × (after ≡ plain_fault 0)
TellsFault (Some fault) status after = (status ≡ 37) × (after ≡ fault)

-- status 17: out of memory, and nothing is written
abbrev pub ChecksSettings : Option SettingsFault → ℕ → (before after : SettingsFault) → Type 0
ChecksSettings fault status before after = TellsFault fault status after ⊎ ((status ≡ 17) × (after ≡ before))
