-- Pairs of SSRCs that become known while a session runs.
use Rattle.std.specs.Prelude.{◌≡◌, ℕ, List}
use Rattle.std.specs.Global.{Vec}
use Rattle.codec_payload_session.specs.Ports.{Session}
use Rattle.codec_payload_session_formats.specs.declared.formats.SsrcPair.{SsrcPair}
use Rattle.codec_payload_session_stream.specs.Pairs.{paired_where}

-- ---- streams

-- the session has these pairs from now on, and the streams of this SSRC take its retransmissions by them
pub record Pairs (ssrc : ℕ) (pairs : List SsrcPair) (s t : Session) : Type 0 where
  pub named : Vec SsrcPair
  pub has : named.items ≡ pairs
  pub left : t ≡ record s { settings = record s.settings { pairs = named }; port = record s.port { streams = paired_where ssrc pairs s.port.streams } }
