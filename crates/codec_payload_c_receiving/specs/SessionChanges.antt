-- Formats that change while a session lives.
use Rattle.std.specs.Prelude.{◌≡◌, ◌⊎◌, ℕ, true, false, List, None, filter_map, is_some}
use Rattle.std.specs.Global.{Vec}
use Rattle.std.specs.List.{list_all}
use Rattle.codec_payload_handle.specs.declared.object.PortSession.{PortSession}
use Rattle.codec_payload_session_formats.specs.Checks.{fault_of}
use Rattle.codec_payload_session.specs.Ports.{Session}
use Rattle.codec_payload_session.specs.Renegotiation.{SetsFormats as SetsThem, with_formats}
use Rattle.codec_payload_session_formats.specs.declared.formats.Format.{Format}
use Rattle.codec_payload_c_receiving.specs.SessionFormats.{format_given, format_in_range}
use Rattle.codec_payload_c_receiving.specs.declared.session_settings.SessionFormat.{SessionFormat}

-- the session has these formats from now on
pub record HasFormats (now : ℕ) (formats : List SessionFormat) (r s : PortSession) : Type 0 where
  pub given : Vec Format
  pub given_is : given.items ≡ filter_map format_given formats
  pub in_range : list_all format_in_range formats ≡ true
  pub usable : fault_of (with_formats given r.session.settings) ≡ None
  pub session : Session
  pub sets : SetsThem given now r.session session
  pub left : s ≡ record r { session = session }

-- no session can meet the settings of this one with these formats
pub record IsUnusable (formats : List SessionFormat) (r : PortSession) : Type 0 where
  pub given : Vec Format
  pub given_is : given.items ≡ filter_map format_given formats
  pub faulty : is_some (fault_of (with_formats given r.session.settings)) ≡ true

-- status 0: the session has the formats; 37: a clock has no rate, or no session can have them; 17: memory ran out. In both cases
-- nothing has changed
abbrev pub SetsFormats : ℕ → List SessionFormat → PortSession → ℕ → PortSession → Type 0
SetsFormats now formats r status s =
    ((status ≡ 0) × HasFormats now formats r s)
    ⊎ ((status ≡ 37) × ((list_all format_in_range formats ≡ false) ⊎ IsUnusable formats r) × (s ≡ r))
    ⊎ ((status ≡ 17) × (s ≡ r))
