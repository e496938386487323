-- Formats that change while a session lives: the streams of formats that are gone end.
use Rattle.std.specs.Prelude.{◌≡◌, ℕ, List}
use Rattle.std.specs.Global.{Vec}
use Rattle.codec_payload_session.specs.Ports.{Session}
use Rattle.codec_payload_session_formats.specs.declared.formats.Format.{Format}
use Rattle.codec_payload_session_formats.specs.declared.formats.SessionSettings.{SessionSettings}
use Rattle.codec_payload_session_stream.specs.declared.stream.StreamState.{StreamState}
use Rattle.codec_payload_session_stream.specs.Renegotiation.{StayOrEnd}

-- the settings with these formats
abbrev pub with_formats : Vec Format → SessionSettings → SessionSettings
with_formats formats settings = record settings { formats = formats }

-- the session has these formats from now on. Each stream keeps its place
pub record SetsFormats (formats : Vec Format) (at : ℕ) (s t : Session) : Type 0 where
  pub streams : List StreamState
  pub each : StayOrEnd formats.items at s.port.streams streams
  pub left : t ≡ record s { settings = with_formats formats s.settings; port = record s.port { streams = streams } }
