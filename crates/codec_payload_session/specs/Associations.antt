-- Whose a retransmission is, if no pair names its SSRC (RFC 4588, section 5.3): a stream requested the packet.
use Rattle.std.specs.Prelude.{◌≡◌, ◌⊎◌, ℕ, ◌*◌, ◌==◌, ◌&&◌, ◌||◌, not, nat_le, IsErr, if◌then◌else◌, Bool, true, false, List, [], ◌∷◌, filter, Option, Some, None, Result, Ok, Err}
use Rattle.std.specs.Global.{Vec}
use Rattle.std.specs.Option.{option_map}
use Rattle.std.specs.declared.alloc.AllocError.{AllocError}
use Rattle.codec_payload_base.specs.declared.wire.Ticks.{Ticks}
use Rattle.codec_payload_rtp.specs.RtpPackets.{Packet, is_rtcp}
use Rattle.codec_payload_rtp.specs.RtpReading.{rtp_at}
use Rattle.codec_payload_rtp.specs.declared.rtp.RtpError.{RtpError}
use Rattle.codec_payload_numbers.specs.Reports.{transit_change}
use Rattle.codec_payload_session.specs.Arrivals.{Port, TakesIn}
use Rattle.codec_payload_session_stream.specs.Changes.{is_playing}
use Rattle.codec_payload_session_formats.specs.Formats.{role_of, stream_of}
use Rattle.codec_payload_session.specs.Pairs.{Pairs}
use Rattle.codec_payload_session_stream.specs.Pairs.{paired_where, with_pair}
use Rattle.codec_payload_session.specs.Ports.{Receives, Session}
use Rattle.codec_payload_session_requests.specs.Requests.{has_requested, original_number}
use Rattle.codec_payload_session.specs.declared.association.Unpaired.{Unpaired}
use Rattle.codec_payload_session_formats.specs.declared.formats.Role.{Role}
use Rattle.codec_payload_session_formats.specs.declared.formats.Role.TheVariants as roles
use Rattle.codec_payload_session_formats.specs.declared.formats.SessionSettings.{SessionSettings}
use Rattle.codec_payload_session_formats.specs.declared.formats.SsrcPair.{SsrcPair}
use Rattle.codec_payload_session_stream.specs.declared.arrival.Arrival.{Arrival}
use Rattle.codec_payload_session_stream.specs.declared.arrival.Arrival.TheVariants as arrivals
use Rattle.codec_payload_session_stream.specs.declared.stream.StreamState.{StreamState}

-- ---- the retransmission

abbrev pub unpaired_by : Role → Option ℕ → Option ℕ → Packet → Option Unpaired
unpaired_by (roles.Retransmission f) None (Some number) p =
    Some (record { ssrc = p.header.ssrc; payload_type = f.payload_type; number = number; rtp_time = p.header.timestamp })
unpaired_by (roles.Retransmission f) None None p = None
unpaired_by (roles.Retransmission f) (Some ssrc) number p = None
unpaired_by (roles.Media f) ssrc number p = None
unpaired_by roles.NoMedia ssrc number p = None
unpaired_by roles.Unknown ssrc number p = None

-- a packet with a payload type of retransmissions and an original number; no pair names its SSRC as the SSRC of retransmissions
abbrev pub unpaired_of : SessionSettings → Packet → Option Unpaired
unpaired_of s p = unpaired_by (role_of s p.header.payload_type) (stream_of p.header.ssrc s.pairs.items) (original_number p.payload) p

abbrev pub unpaired_rtp : SessionSettings → Result Packet RtpError → Option Unpaired
unpaired_rtp s (Ok p) = unpaired_of s p
unpaired_rtp s (Err e) = None

-- any bytes
abbrev pub unpaired_at : SessionSettings → List ℕ → Option Unpaired
unpaired_at s bytes = if is_rtcp bytes then None else unpaired_rtp s (rtp_at bytes)

-- ---- its stream

-- a pair names the retransmissions of this SSRC
abbrev pub has_pair : ℕ → List SsrcPair → Bool
has_pair ssrc [] = false
has_pair ssrc (p ∷ ps) = (p.ssrc == ssrc) || has_pair ssrc ps

abbrev pub is_at_most : ℕ → Option ℕ → Bool
is_at_most most None = false
is_at_most most (Some n) = nat_le n most

-- a retransmission keeps the RTP time of its original packet. So the RTP time is at most 10 s from the clock of the stream's sender,
-- by the stream's latest packet, either way round the 32 bits
abbrev pub is_on_time : ℕ → ℕ → StreamState → Bool
is_on_time now rtp_time s = is_at_most (10 * s.format.spec.clock_rate) (transit_change s.receiver.reception now rtp_time)

-- the stream plays, has the format of the retransmission, has requested its original number, is on time, and is in no pair
abbrev pub may_be_of : List SsrcPair → ℕ → Unpaired → StreamState → Bool
may_be_of pairs now u s =
    is_playing s.stage && (s.format.payload_type == u.payload_type) && has_requested u.number s.feedback && is_on_time now u.rtp_time s
    && not (has_pair s.ssrc pairs)

-- the SSRC of the only stream in the list
abbrev pub only_ssrc : List StreamState → Option ℕ
only_ssrc [] = None
only_ssrc (s ∷ []) = Some s.ssrc
only_ssrc (s ∷ t ∷ ss) = None

-- the SSRC of the stream, if exactly one fits
abbrev pub owner_of : List SsrcPair → ℕ → Unpaired → List StreamState → Option ℕ
owner_of pairs now u ss = only_ssrc (filter (may_be_of pairs now u) ss)

abbrev pub pair_with : Option ℕ → ℕ → Option SsrcPair
pair_with ssrc retransmission = option_map (λ own. record { ssrc = own; retransmission = retransmission }) ssrc

abbrev pub pair_of : Option Unpaired → List SsrcPair → ℕ → List StreamState → Option SsrcPair
pair_of None pairs now ss = None
pair_of (Some u) pairs now ss = pair_with (owner_of pairs now u ss) u.ssrc

-- the pair of the stream's SSRC and the datagram's, if the datagram is such a retransmission and exactly one stream fits
abbrev pub pair_at : SessionSettings → ℕ → List ℕ → List StreamState → Option SsrcPair
pair_at s now bytes ss = pair_of (unpaired_at s bytes) s.pairs.items now ss

-- ---- the pair is added, and the datagram received

abbrev pub AssociatesBy : Option SsrcPair → Ticks → List ℕ → Session → Result Arrival AllocError → Session → Type 0
AssociatesBy None now bytes s answer t = Receives now bytes s answer t
AssociatesBy (Some pair) now bytes s answer t =
    ((paired : Session) × Pairs pair.ssrc (with_pair pair s.settings.pairs.items) s paired × Receives now bytes paired answer t)
    ⊎ (IsErr answer × (t ≡ s))

-- the session first gets the pair of a retransmission whose stream is found, as `add_pair` does; if memory runs out for it, nothing
-- has changed
abbrev pub Associates : Ticks → List ℕ → Session → Result Arrival AllocError → Session → Type 0
Associates now bytes s answer t = AssociatesBy (pair_at s.settings now.0 bytes s.port.streams) now bytes s answer t

-- no stream received the datagram, since it is a retransmission whose stream is not known
abbrev pub is_unassociated : Result Arrival AllocError → Bool
is_unassociated (Ok arrivals.Unassociated) = true
is_unassociated (Ok arrivals.Rtcp) = false
is_unassociated (Ok arrivals.Malformed) = false
is_unassociated (Ok arrivals.Unknown) = false
is_unassociated (Ok arrivals.Refused) = false
is_unassociated (Ok (arrivals.Stream ssrc payload_type outcome)) = false
is_unassociated (Ok (arrivals.Faulty ssrc payload_type fault)) = false
is_unassociated (Err e) = false

-- ---- the same for the settings and the streams

-- the settings have one more pair, and the streams of its SSRC take their retransmissions by it
pub record AddsPair (pair : SsrcPair) (s : SessionSettings) (p : Port) (t : SessionSettings) (q : Port) : Type 0 where
  pub named : Vec SsrcPair
  pub has : named.items ≡ with_pair pair s.pairs.items
  pub settings : t ≡ record s { pairs = named }
  pub streams : q ≡ record p { streams = paired_where pair.ssrc (with_pair pair s.pairs.items) p.streams }

pub record TakesInPaired (pair : SsrcPair) (now : Ticks) (bytes : List ℕ) (s : SessionSettings) (p : Port) (answer : Result Arrival AllocError) (t : SessionSettings) (q : Port) : Type 0 where
  pub paired : Port
  pub adds : AddsPair pair s p t paired
  pub takes : TakesIn t now bytes paired answer q

abbrev pub TakesInBy : Option SsrcPair → Ticks → List ℕ → SessionSettings → Port → Result Arrival AllocError → SessionSettings → Port → Type 0
TakesInBy None now bytes s p answer t q = TakesIn s now bytes p answer q × (t ≡ s)
TakesInBy (Some pair) now bytes s p answer t q = TakesInPaired pair now bytes s p answer t q ⊎ (IsErr answer × (t ≡ s) × (q ≡ p))
