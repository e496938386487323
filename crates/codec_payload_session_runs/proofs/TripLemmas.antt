-- Extended reports leave the streams of a session as they are, except for the round trip that they follow.
use Rattle.std.proofs.Common.{◌≡◌, refl, ℕ, Bool, true, false, List, Option, Some, None, Result, Ok, Err}
use Rattle.codec_payload_feedback_xr.specs.Exchange.{any_answer, exchanged}
use Rattle.codec_payload_rtcp.specs.RtcpPackets.{Packet}
use Rattle.codec_payload_rtcp.specs.RtcpReading.{compound_at}
use Rattle.codec_payload_rtcp.specs.declared.packet.RtcpError.{RtcpError}
use Rattle.codec_payload_session.specs.Arrivals.{Port, exchanged_by, exchanged_if, exchanged_in, with_trip_if}
use Rattle.codec_payload_session_formats.specs.declared.formats.FeedbackSettings.{FeedbackSettings}
use Rattle.codec_payload_session_stream.specs.Trips.{with_round_trips}
use Rattle.codec_payload_session_stream.specs.declared.stream.StreamState.{StreamState}

abbrev pub told_if : Bool → Option ℕ → List StreamState → List StreamState
told_if true round_trip ss = with_round_trips round_trip ss
told_if false round_trip ss = ss

pub told_streams : (b : Bool) (p : Port) → (with_trip_if b p).streams ≡ told_if b p.exchange.round_trip p.streams
told_streams true p = refl
told_streams false p = refl

-- the streams follow a round trip, or are the same
abbrev pub MayTell : List StreamState → List StreamState → Type 0
MayTell ss ts = (b : Bool) × (round_trip : Option ℕ) × (ts ≡ told_if b round_trip ss)

read_streams : (o : Result (List Packet) RtcpError) (ssrc tick_rate now : ℕ) (p : Port) → MayTell p.streams (exchanged_in ssrc tick_rate now o p).streams
read_streams (Ok ps) ssrc tick_rate now p = (
  any_answer ssrc tick_rate now ps,
  (exchanged ssrc tick_rate now ps p.exchange).round_trip,
  told_streams (any_answer ssrc tick_rate now ps) (record p { exchange = exchanged ssrc tick_rate now ps p.exchange }),
)
read_streams (Err e) ssrc tick_rate now p = (false, None, refl)

if_streams : (b : Bool) (ssrc tick_rate now : ℕ) (bytes : List ℕ) (p : Port) → MayTell p.streams (exchanged_if b ssrc tick_rate now bytes p).streams
if_streams true ssrc tick_rate now bytes p = read_streams (compound_at false bytes) ssrc tick_rate now p
if_streams false ssrc tick_rate now bytes p = (false, None, refl)

-- after a datagram of RTCP
pub exchanged_streams : (o : Option FeedbackSettings) (tick_rate now : ℕ) (bytes : List ℕ) (p : Port) → MayTell p.streams (exchanged_by o tick_rate now bytes p).streams
exchanged_streams None tick_rate now bytes p = (false, None, refl)
exchanged_streams (Some f) tick_rate now bytes p = if_streams f.extended f.ssrc tick_rate now bytes p
