-- Streams that are reported, or that follow another round trip, take no datagrams.
use Rattle.std.proofs.Common.{◌≡◌, ◌+◌, ℕ, suc, List, [], ◌∷◌, length, Bool, true, false, Option, Some, None, Result, Ok, Err, ap, refl, subst, sym, arith}
use Rattle.std.specs.Global.{Vec}
use Rattle.std.specs.declared.alloc.AllocError.{AllocError}
use Rattle.codec_payload_feedback_xr.specs.Exchange.{any_answer, exchanged, is_lost, sent}
use Rattle.codec_payload_rtcp.specs.RtcpPackets.{Packet}
use Rattle.codec_payload_rtcp.specs.RtcpReading.{compound_at}
use Rattle.codec_payload_rtcp.specs.declared.packet.RtcpError.{RtcpError}
use Rattle.codec_payload_session.specs.Arrivals.{Port, exchanged_by, exchanged_if, exchanged_in, with_trip_if}
use Rattle.codec_payload_session.specs.Ports.{IsPort, taken_in}
use Rattle.codec_payload_session.specs.Reporting.{Reports, ReportsBy, ReportsEach, ReportsIf, all_reported, deadline_if, is_chosen, is_new_round, is_report_due, most_blocks, noted_sent, room_after}
use Rattle.codec_payload_session_stream.specs.Reports.{reported_if}
use Rattle.codec_payload_session_stream.specs.Trips.{with_round_trips}
use Rattle.codec_payload_session_formats.specs.declared.formats.FeedbackSettings.{FeedbackSettings}
use Rattle.codec_payload_session_formats.specs.declared.formats.SessionSettings.{SessionSettings}
use Rattle.codec_payload_session.specs.declared.session.ArrivalCounts.{ArrivalCounts}
use Rattle.codec_payload_session_stream.specs.declared.stream.StreamState.{StreamState}

taken_if : (b is_new : Bool) (s : StreamState) → (reported_if b is_new s).taken ≡ s.taken
taken_if true is_new s = refl
taken_if false is_new s = refl

taken_reported : (is_new : Bool) (room : ℕ) (ss : List StreamState) → taken_in (all_reported is_new room ss) ≡ taken_in ss
taken_reported is_new room [] = refl
taken_reported is_new room (s ∷ ss) =
    omega (arith, taken_if (is_chosen is_new room s ss) is_new s, taken_reported is_new (room_after (is_chosen is_new room s ss) room) ss)

length_reported : (is_new : Bool) (room : ℕ) (ss : List StreamState) → length (all_reported is_new room ss) ≡ length ss
length_reported is_new room [] = refl
length_reported is_new room (s ∷ ss) = ap suc (length_reported is_new (room_after (is_chosen is_new room s ss) room) ss)

taken_trips : (round_trip : Option ℕ) (ss : List StreamState) → taken_in (with_round_trips round_trip ss) ≡ taken_in ss
taken_trips round_trip [] = refl
taken_trips round_trip (s ∷ ss) = ap (λ (n : ℕ). s.taken + n) (taken_trips round_trip ss)

pub length_trips : (round_trip : Option ℕ) (ss : List StreamState) → length (with_round_trips round_trip ss) ≡ length ss
length_trips round_trip [] = refl
length_trips round_trip (s ∷ ss) = ap suc (length_trips round_trip ss)

-- the round trip of the session is for all streams
pub trip_keeps : (b : Bool) (settings : SessionSettings) (c : ArrivalCounts) (p : Port) → IsPort settings p c → IsPort settings (with_trip_if b p) c
trip_keeps true settings c p kept = record {
  accounted = omega (arith, kept.accounted, taken_trips p.exchange.round_trip p.streams);
  bounded = omega (arith, kept.bounded, length_trips p.exchange.round_trip p.streams);
}
trip_keeps false settings c p kept = kept

read_keeps : (o : Result (List Packet) RtcpError) (settings : SessionSettings) (c : ArrivalCounts) (ssrc tick_rate now : ℕ) (p : Port) → IsPort settings p c → IsPort settings (exchanged_in ssrc tick_rate now o p) c
read_keeps (Ok ps) settings c ssrc tick_rate now p kept =
    trip_keeps (any_answer ssrc tick_rate now ps) settings c (record p { exchange = exchanged ssrc tick_rate now ps p.exchange }) (record { accounted = kept.accounted; bounded = kept.bounded })
read_keeps (Err e) settings c ssrc tick_rate now p kept = kept

exchange_keeps : (b : Bool) (settings : SessionSettings) (c : ArrivalCounts) (ssrc tick_rate now : ℕ) (bytes : List ℕ) (p : Port) → IsPort settings p c → IsPort settings (exchanged_if b ssrc tick_rate now bytes p) c
exchange_keeps true settings c ssrc tick_rate now bytes p kept = read_keeps (compound_at false bytes) settings c ssrc tick_rate now p kept
exchange_keeps false settings c ssrc tick_rate now bytes p kept = kept

-- extended reports are no datagrams of streams
pub exchanged_keeps : (o : Option FeedbackSettings) (settings : SessionSettings) (c : ArrivalCounts) (tick_rate now : ℕ) (bytes : List ℕ) (p : Port) → IsPort settings p c → IsPort settings (exchanged_by o tick_rate now bytes p) c
exchanged_keeps None settings c tick_rate now bytes p kept = kept
exchanged_keeps (Some f) settings c tick_rate now bytes p kept = exchange_keeps f.extended settings c f.ssrc tick_rate now bytes p kept

all_keep : (settings : SessionSettings) (c : ArrivalCounts) (is_new : Bool) (room : ℕ) (p q : Port) → q ≡ noted_sent (record p { streams = all_reported is_new room p.streams }) → IsPort settings p c → IsPort settings q c
all_keep settings c is_new room p q is kept =
    subst (λ (x : Port). IsPort settings x c) (sym is)
    (trip_keeps (is_lost p.exchange) settings c (record p { streams = all_reported is_new room p.streams; exchange = sent p.exchange }) (record {
      accounted = omega (arith, kept.accounted, taken_reported is_new room p.streams);
      bounded = omega (arith, kept.bounded, length_reported is_new room p.streams);
    }))

none_keeps : (settings : SessionSettings) (c : ArrivalCounts) (p q : Port) → q ≡ p → IsPort settings p c → IsPort settings q c
none_keeps settings c p q is kept = subst (λ (x : Port). IsPort settings x c) (sym is) kept

sent_keeps : (settings : SessionSettings) (c : ArrivalCounts) (f : FeedbackSettings) (interval tick_rate now : ℕ) (due : Option ℕ) (p : Port) (packet : Result (Vec ℕ) AllocError) (next : Option ℕ) (q : Port)
    → Reports f interval tick_rate now due p packet next q → IsPort settings p c → IsPort settings q c
sent_keeps settings c f interval tick_rate now due p (Ok packet) next q got kept = all_keep settings c (is_new_round (most_blocks f) p.streams) (most_blocks f) p q got.2 kept
sent_keeps settings c f interval tick_rate now due p (Err e) next q got kept = none_keeps settings c p q got.1 kept

if_keeps : (b : Bool) (settings : SessionSettings) (c : ArrivalCounts) (f : FeedbackSettings) (interval tick_rate now : ℕ) (due : Option ℕ) (p : Port) (answer : Option (Result (Vec ℕ) AllocError)) (next : Option ℕ) (q : Port)
    → ReportsIf b f interval tick_rate now due p answer next q → IsPort settings p c → IsPort settings q c
if_keeps true settings c f interval tick_rate now due p answer next q got kept = sent_keeps settings c f interval tick_rate now due p got.0 next q got.2 kept
if_keeps false settings c f interval tick_rate now due p answer next q got kept = none_keeps settings c p q got.2 kept

each_keeps : (wanted : Option ℕ) (settings : SessionSettings) (c : ArrivalCounts) (f : FeedbackSettings) (tick_rate now : ℕ) (due : Option ℕ) (p : Port) (answer : Option (Result (Vec ℕ) AllocError)) (next : Option ℕ) (q : Port)
    → ReportsEach wanted f tick_rate now due p answer next q → IsPort settings p c → IsPort settings q c
each_keeps None settings c f tick_rate now due p answer next q got kept = none_keeps settings c p q got.2 kept
each_keeps (Some interval) settings c f tick_rate now due p answer next q got kept =
    if_keeps (is_report_due now due p) settings c f interval tick_rate now due p answer next q got kept

-- a report is no datagram
pub report_keeps : (feedback : Option FeedbackSettings) (settings : SessionSettings) (c : ArrivalCounts) (tick_rate now : ℕ) (due : Option ℕ) (p : Port) (answer : Option (Result (Vec ℕ) AllocError)) (next : Option ℕ) (q : Port)
    → ReportsBy feedback tick_rate now due p answer next q → IsPort settings p c → IsPort settings q c
report_keeps None settings c tick_rate now due p answer next q got kept = none_keeps settings c p q got.2 kept
report_keeps (Some f) settings c tick_rate now due p answer next q got kept = each_keeps f.report_interval settings c f tick_rate now due p answer next q got kept

-- no report is planned
pub none_planned : (b : Bool) → None ≡ deadline_if b None
none_planned true = refl
none_planned false = refl
