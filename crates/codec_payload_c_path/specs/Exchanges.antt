-- What a peer has learned by extended reports, in a struct of C.
use Rattle.std.specs.Prelude.{ℕ, if◌then◌else◌, Option, Some, None}
use Rattle.std.specs.Option.{is_some}
use Rattle.codec_payload_feedback_xr.specs.declared.exchange.PeerTime.{PeerTime}
use Rattle.codec_payload_feedback_xr.specs.declared.exchange.TimeExchange.{TimeExchange}
use Rattle.codec_payload_c_path.specs.declared.exchange.XrExchange.{XrExchange}

abbrev pub peer_given : XrExchange → Option PeerTime
peer_given x = if x.has_peer then Some (record { ssrc = x.peer_ssrc; last_rr = x.peer_last_rr; arrived = x.peer_arrived }) else None

abbrev pub trip_given : XrExchange → Option ℕ
trip_given x = if x.has_round_trip then Some x.round_trip else None

abbrev pub exchange_given : XrExchange → TimeExchange
exchange_given x = record { round_trip = trip_given x; unanswered = x.unanswered; peer = peer_given x }

abbrev pub number_or_zero : Option ℕ → ℕ
number_or_zero None = 0
number_or_zero (Some n) = n

-- zeros without a reference time
abbrev pub peer_told : Option PeerTime → PeerTime
peer_told (Some peer) = peer
peer_told None = record { ssrc = 0; last_rr = 0; arrived = 0 }

abbrev pub exchange_told : TimeExchange → XrExchange
exchange_told x = record {
  round_trip = number_or_zero x.round_trip;
  peer_ssrc = (peer_told x.peer).ssrc;
  peer_last_rr = (peer_told x.peer).last_rr;
  peer_arrived = (peer_told x.peer).arrived;
  unanswered = x.unanswered;
  has_round_trip = is_some x.round_trip;
  has_peer = is_some x.peer;
}
