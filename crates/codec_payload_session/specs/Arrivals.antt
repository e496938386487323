-- What a session does with a datagram.
use Rattle.std.specs.Prelude.{◌≡◌, ◌⊎◌, ℕ, min, ◌+◌, ◌-◌, ◌%◌, ◌^◌, ◌==◌, ◌&&◌, ◌||◌, not, IsErr, is_ok, nat_lt, if◌then◌else◌, Bool, true, false, List, [], ◌∷◌, ◌++◌, map, Option, Some, None, Result, Ok, Err, length, slice_get, slice_set}
use Rattle.std.specs.Int.{w32, from_be_bytes}
use Rattle.std.specs.List.{position, remove}
use Rattle.std.specs.Option.{is_some, option_map}
use Rattle.std.specs.declared.alloc.AllocError.{AllocError}
use Rattle.codec_payload_base.specs.declared.wire.Ticks.{Ticks}
use Rattle.codec_payload_jitter.specs.declared.outcome.Outcome.{Outcome}
use Rattle.codec_payload_rtcp.specs.RtcpPackets.{Packet, sender_report, receiver_report, source_description, goodbye, nack, picture_loss, full_intra, other}
use Rattle.codec_payload_rtcp.specs.RtcpReading.{compound_at}
use Rattle.codec_payload_rtcp.specs.declared.packet.RtcpError.{RtcpError}
use Rattle.codec_payload_receiver.specs.declared.receiver.ReceiveError.{ReceiveError}
use Rattle.codec_payload_session_stream.specs.Reports.{noted_at}
use Rattle.codec_payload_session_stream.specs.Changes.{continued, continues}
use Rattle.codec_payload_session_stream.specs.Trips.{with_round_trip, with_round_trips}
use Rattle.codec_payload_session_stream.specs.Streams.{Begins, Takes, info_of, is_no_memory, is_of, is_probation, left_when}
use Rattle.codec_payload_feedback_xr.specs.Exchange.{any_answer, exchanged}
use Rattle.codec_payload_feedback_xr.specs.declared.exchange.TimeExchange.{TimeExchange}
use Rattle.codec_payload_session_formats.specs.declared.formats.FeedbackSettings.{FeedbackSettings}
use Rattle.codec_payload_session_formats.specs.declared.formats.Format.{Format}
use Rattle.codec_payload_session_formats.specs.declared.formats.SessionSettings.{SessionSettings}
use Rattle.codec_payload_session_stream.specs.declared.arrival.Arrival.{Arrival}
use Rattle.codec_payload_session_stream.specs.declared.arrival.Arrival.TheVariants as arrivals
use Rattle.codec_payload_session_formats.specs.Names.{no_names}
use Rattle.codec_payload_session_formats.specs.declared.names.StreamNames.{StreamNames}
use Rattle.codec_payload_session_formats.specs.Sorting.{Sorted, sorted_at}
use Rattle.codec_payload_session_formats.specs.Sorting as sorted
use Rattle.codec_payload_session_stream.specs.declared.stream.Ending.{Ending}
use Rattle.codec_payload_session_stream.specs.declared.stream.Ending.TheVariants as endings
use Rattle.codec_payload_session_stream.specs.declared.stream.StreamState.{StreamState}
use Rattle.codec_payload_session_stream.specs.declared.stream.StreamInfo.{StreamInfo}
use Rattle.codec_payload_session.specs.declared.streams.Who.{Who}
use Rattle.codec_payload_session.specs.declared.streams.Who.TheVariants as whos
use Rattle.codec_payload_session_stream.specs.Arrivals.{arrival_of, Arrives}

abbrev pub sum_wrapped : ℕ → ℕ → ℕ
sum_wrapped m n = (m + n) % 2 ^ 64

-- the streams in the order in which they began, whether new streams are refused, how many datagrams the removed streams took, what was
-- known of the stream that was removed last, and what the session knows by extended reports
pub record Port : Type 0 where
  pub streams : List StreamState
  pub finished : Bool
  pub ended : ℕ
  pub last : Option StreamInfo
  pub exchange : TimeExchange

-- ---- streams that end

-- the SSRC at the front, and the SSRCs after it
unfoldable pub source_at_front : List ℕ → Option (ℕ × List ℕ)
source_at_front (s3 ∷ s2 ∷ s1 ∷ s0 ∷ ssrcs) = Some (from_be_bytes w32 (s3 ∷ s2 ∷ s1 ∷ s0 ∷ []), ssrcs)
source_at_front bytes = None

-- the SSRC is in the list, which has four bytes for each SSRC
unfoldable pub names : ℕ → List ℕ → Bool
names ssrc (s3 ∷ s2 ∷ s1 ∷ s0 ∷ ssrcs) = (from_be_bytes w32 (s3 ∷ s2 ∷ s1 ∷ s0 ∷ []) == ssrc) || names ssrc ssrcs
names ssrc bytes = false

abbrev pub named_in : List ℕ → ℕ → Bool
named_in ssrcs ssrc = names ssrc ssrcs

-- a BYE among the packets names the SSRC
abbrev pub says_goodbye : ℕ → Packet → Bool
says_goodbye ssrc (goodbye g) = names ssrc g.ssrcs
says_goodbye ssrc (sender_report s) = false
says_goodbye ssrc (receiver_report r) = false
says_goodbye ssrc (source_description cs) = false
says_goodbye ssrc (nack f) = false
says_goodbye ssrc (picture_loss f) = false
says_goodbye ssrc (full_intra f) = false
says_goodbye ssrc (other p) = false

abbrev pub say_goodbye : ℕ → List Packet → Bool
say_goodbye ssrc [] = false
say_goodbye ssrc (p ∷ ps) = says_goodbye ssrc p || say_goodbye ssrc ps

-- a compound packet with a fault names no stream
abbrev pub goodbye_in : ℕ → Result (List Packet) RtcpError → Bool
goodbye_in ssrc (Ok packets) = say_goodbye ssrc packets
goodbye_in ssrc (Err e) = false

-- the streams that a BYE in the bytes names
abbrev pub goodbye_at : List ℕ → ℕ → Bool
goodbye_at bytes ssrc = goodbye_in ssrc (compound_at false bytes)

-- the streams to end: all streams, or the streams of an SSRC
abbrev pub includes : Who → ℕ → Bool
includes whos.All ssrc = true
includes (whos.Of own) ssrc = own == ssrc

abbrev pub left_if : (ℕ → Bool) → Ending → ℕ → StreamState → StreamState
left_if who why at s = left_when (who s.ssrc) why at s

abbrev pub left_where : (ℕ → Bool) → Ending → ℕ → List StreamState → List StreamState
left_where who why at ss = map (left_if who why at) ss

-- ---- extended reports

-- all streams follow the round trip of the session
abbrev pub with_trip : Port → Port
with_trip p = record p { streams = with_round_trips p.exchange.round_trip p.streams }

abbrev pub with_trip_if : Bool → Port → Port
with_trip_if true p = with_trip p
with_trip_if false p = p

-- packets came for this SSRC; if one has an answer that gives a round trip, all streams follow it
abbrev pub exchanged_with : (ssrc tick_rate now : ℕ) → List Packet → Port → Port
exchanged_with ssrc tick_rate now ps p =
    with_trip_if (any_answer ssrc tick_rate now ps) (record p { exchange = exchanged ssrc tick_rate now ps p.exchange })

-- a compound packet with a fault has no extended reports
abbrev pub exchanged_in : (ssrc tick_rate now : ℕ) → Result (List Packet) RtcpError → Port → Port
exchanged_in ssrc tick_rate now (Ok ps) p = exchanged_with ssrc tick_rate now ps p
exchanged_in ssrc tick_rate now (Err e) p = p

abbrev pub exchanged_if : Bool → (ssrc tick_rate now : ℕ) → List ℕ → Port → Port
exchanged_if true ssrc tick_rate now bytes p = exchanged_in ssrc tick_rate now (compound_at false bytes) p
exchanged_if false ssrc tick_rate now bytes p = p

-- the settings say whether the session takes extended reports, and for which SSRC
abbrev pub exchanged_by : Option FeedbackSettings → (tick_rate now : ℕ) → List ℕ → Port → Port
exchanged_by None tick_rate now bytes p = p
exchanged_by (Some f) tick_rate now bytes p = exchanged_if f.extended f.ssrc tick_rate now bytes p

-- ---- a datagram for a stream that exists

-- the stream at a place receives it, and no other stream changes
pub record Feeds (probation place : ℕ) (now : Ticks) (bytes : List ℕ) (p : Port) (answer : Result Arrival AllocError) (q : Port) : Type 0 where
  pub stream : StreamState
  pub after : StreamState
  pub told : Result Outcome ReceiveError
  pub there : slice_get p.streams place ≡ Some stream
  pub takes : Takes now probation bytes stream told after
  pub arrives : Arrives (is_no_memory told) (arrival_of stream.ssrc stream.format.payload_type told) answer
  pub left : q ≡ record p { streams = slice_set p.streams place after }

-- without a stream nothing changes
abbrev pub FeedsIf : Option ℕ → Arrival → ℕ → Ticks → List ℕ → Port → Result Arrival AllocError → Port → Type 0
FeedsIf None arrival probation now bytes p answer q = (answer ≡ Ok arrival) × (q ≡ p)
FeedsIf (Some place) arrival probation now bytes p answer q = Feeds probation place now bytes p answer q

-- ---- a datagram that begins a stream

abbrev pub on_probation : StreamState → Bool
on_probation s = is_probation s.stage

-- the stream that is removed for a new one: if all places are taken, the first stream in probation
abbrev pub leaving : ℕ → List StreamState → Option ℕ
leaving most ss = if nat_lt (length ss) most then None else position on_probation ss

abbrev pub has_place : ℕ → Port → Bool
has_place most p = not p.finished && (nat_lt (length p.streams) most || is_some (position on_probation p.streams))

abbrev pub taken_of : Option StreamState → ℕ
taken_of None = 0
taken_of (Some s) = s.taken

-- the stream at a place is removed
abbrev pub removed : ℕ → Port → Port
removed place p = record p { streams = remove p.streams place; ended = sum_wrapped p.ended (taken_of (slice_get p.streams place)); last = option_map info_of (slice_get p.streams place) }

abbrev pub without : Option ℕ → Port → Port
without None p = p
without (Some place) p = removed place p

abbrev pub added : ℕ → StreamState → Port → Port
added most s p = without (leaving most p.streams) (record p { streams = p.streams ++ s ∷ [] })

abbrev pub has_ssrc : ℕ → StreamState → Bool
has_ssrc ssrc s = s.ssrc == ssrc

-- the names of the first stream of the SSRC
abbrev pub names_with : Option StreamState → StreamNames
names_with None = no_names
names_with (Some s) = s.names

abbrev pub names_at : Option ℕ → List StreamState → StreamNames
names_at None ss = no_names
names_at (Some place) ss = names_with (slice_get ss place)

abbrev pub names_of_ssrc : ℕ → List StreamState → StreamNames
names_of_ssrc ssrc ss = names_at (position (has_ssrc ssrc) ss) ss

-- a new stream follows the round trip of the session, and has the names of its SSRC
abbrev pub begun_in : (ssrc : ℕ) → Port → StreamState → StreamState
begun_in ssrc p s = record (with_round_trip p.exchange.round_trip s) { names = names_of_ssrc ssrc p.streams }

-- it receives the datagram, and is added
pub record BeginsWith (settings : SessionSettings) (ssrc : ℕ) (f : Format) (now : Ticks) (bytes : List ℕ) (p : Port) (answer : Result Arrival AllocError) (q : Port) : Type 0 where
  pub stream : StreamState
  pub after : StreamState
  pub told : Result Outcome ReceiveError
  pub begins : Begins settings ssrc f stream
  pub takes : Takes now settings.probation bytes (begun_in ssrc p stream) told after
  pub received : is_no_memory told ≡ false
  pub answers : answer ≡ Ok (arrival_of ssrc f.payload_type told)
  pub left : q ≡ added settings.max_streams after p

-- memory ran out, and nothing has changed
abbrev pub StaysEmpty : Port → Result Arrival AllocError → Port → Type 0
StaysEmpty p answer q = IsErr answer × (q ≡ p)

abbrev pub BeginsIf : Bool → SessionSettings → ℕ → Format → Ticks → List ℕ → Port → Result Arrival AllocError → Port → Type 0
BeginsIf false settings ssrc f now bytes p answer q = (answer ≡ Ok arrivals.Refused) × (q ≡ p)
BeginsIf true settings ssrc f now bytes p answer q = BeginsWith settings ssrc f now bytes p answer q ⊎ StaysEmpty p answer q

abbrev pub BeginsOrFeeds : Option ℕ → SessionSettings → ℕ → Format → Ticks → List ℕ → Port → Result Arrival AllocError → Port → Type 0
BeginsOrFeeds None settings ssrc f now bytes p answer q = BeginsIf (has_place settings.max_streams p) settings ssrc f now bytes p answer q
BeginsOrFeeds (Some place) settings ssrc f now bytes p answer q = Feeds settings.probation place now bytes p answer q

-- ---- a datagram of media

-- its stream receives it; if that stream is announced, the streams that its sender left for this format leave
pub record TakesMedia (settings : SessionSettings) (ssrc : ℕ) (f : Format) (now : Ticks) (bytes : List ℕ) (p : Port) (answer : Result Arrival AllocError) (q : Port) : Type 0 where
  pub received : Port
  pub takes : BeginsOrFeeds (position (is_of ssrc f.payload_type) p.streams) settings ssrc f now bytes p answer received
  pub left : q ≡ record received { streams = continued (is_ok answer && continues ssrc f received.streams) now.0 settings.bye_wait ssrc f received.streams }

-- ---- any datagram; RTCP ends the streams that its BYE names, states clocks of streams by its sender reports, and the round trip by its
-- extended reports

abbrev pub TakesInAs : Sorted → SessionSettings → Ticks → List ℕ → Port → Result Arrival AllocError → Port → Type 0
TakesInAs sorted.Rtcp settings now bytes p answer q =
    (answer ≡ Ok arrivals.Rtcp)
    × (q ≡ exchanged_by settings.feedback settings.tick_rate now.0 bytes (record p { streams = left_where (goodbye_at bytes) endings.Bye (min (now.0 + settings.bye_wait) (2 ^ 64 - 1)) (noted_at now bytes p.streams) }))
TakesInAs sorted.Malformed settings now bytes p answer q = (answer ≡ Ok arrivals.Malformed) × (q ≡ p)
TakesInAs sorted.Unknown settings now bytes p answer q = (answer ≡ Ok arrivals.Unknown) × (q ≡ p)
TakesInAs sorted.Unassociated settings now bytes p answer q = (answer ≡ Ok arrivals.Unassociated) × (q ≡ p)
TakesInAs (sorted.Media ssrc f) settings now bytes p answer q = TakesMedia settings ssrc f now bytes p answer q
TakesInAs (sorted.Retransmission ssrc payload_type) settings now bytes p answer q =
    FeedsIf (position (is_of ssrc payload_type) p.streams) arrivals.Unassociated settings.probation now bytes p answer q
TakesInAs (sorted.NoMedia ssrc) settings now bytes p answer q =
    FeedsIf (position (has_ssrc ssrc) p.streams) arrivals.Unknown settings.probation now bytes p answer q

abbrev pub TakesIn : SessionSettings → Ticks → List ℕ → Port → Result Arrival AllocError → Port → Type 0
TakesIn settings now bytes p answer q = TakesInAs (sorted_at settings bytes) settings now bytes p answer q
