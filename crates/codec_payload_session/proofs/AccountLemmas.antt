-- Every datagram is accounted for.
use Rattle.std.proofs.Common.{◌≡◌, ◌≤◌, ◌<◌, inl, inr, ◌∙◌, ℕ, zero, suc, ◌+◌, ◌%◌, ◌^◌, ◌&&◌, ◌||◌, not, List, [], ◌∷◌, ◌++◌, length, Bool, true, false, cond, is_ok, Option, Some, None, Result, Ok, Err, ap, refl, sym, subst, arith, nat_lt, slice_get, slice_set}
use Rattle.std.specs.List.{position, remove}
use Rattle.std.specs.Option.{is_some}
use Rattle.std.specs.declared.alloc.AllocError.{AllocError}
use Rattle.std.proofs.lemmas.Bool.Decides.{nat_tests}
use Rattle.std.proofs.lemmas.List.Quantifiers.{position-Some}
use Rattle.codec_payload_base.specs.declared.wire.Ticks.{Ticks}
use Rattle.codec_payload_metadata.specs.Release.{Release}
use Rattle.codec_payload_jitter.specs.Receiving.{next}
use Rattle.codec_payload_jitter.specs.declared.outcome.Outcome.{Outcome}
use Rattle.codec_payload_jitter.specs.declared.waiting.WaitLimits.{WaitLimits}
use Rattle.codec_payload_receiver.specs.declared.pops.Popped.{Popped}
use Rattle.codec_payload_receiver.specs.declared.receiver.ReceiveError.{ReceiveError}
use Rattle.codec_payload_rtcp.specs.RtcpPackets.{Packet}
use Rattle.codec_payload_rtcp.specs.RtcpReading.{compound_at}
use Rattle.codec_payload_rtcp.specs.declared.items.ReportBlock.{ReportBlock}
use Rattle.codec_payload_rtcp.specs.declared.packet.RtcpError.{RtcpError}
use Rattle.codec_payload_session_stream.proofs.QuietLemmas.{quiet_length}
use Rattle.codec_payload_session_stream.proofs.ReportLemmas.{noted_length}
use Rattle.codec_payload_session_stream.specs.Arrivals.{Arrives, arrival_of}
use Rattle.codec_payload_session.specs.Arrivals.{BeginsIf, BeginsOrFeeds, BeginsWith, Feeds, FeedsIf, Port, StaysEmpty, TakesIn, TakesInAs, added, begun_in, has_place, left_if, left_where, on_probation, taken_of, without, TakesMedia}
use Rattle.codec_payload_session.specs.Ports.{IsPort, ReportsIf, counted, counted_if, taken_in}
use Rattle.codec_payload_session_stream.specs.Reports.{noted_at, noted_in, reported_by}
use Rattle.codec_payload_session.proofs.ChangeLemmas.{length_continued, taken_continued}
use Rattle.codec_payload_session_stream.specs.Changes.{continues}
use Rattle.codec_payload_session_formats.specs.Sorting.{Sorted, sorted_at}
use Rattle.codec_payload_receiver.specs.Sessions.{Session as Receiver}
use Rattle.codec_payload_session_requests.specs.Late.{limit_by}
use Rattle.codec_payload_session_formats.specs.Names.{names_after}
use Rattle.codec_payload_rtp.specs.RtpReading.{rtp_at}
use Rattle.codec_payload_session_requests.specs.Requests.{Asking, heard_by, number_at, wait_by}
use Rattle.codec_payload_session.proofs.ReportingLemmas.{exchanged_keeps}
use Rattle.codec_payload_session_stream.specs.Streams.{Drains, Follows, Plays, RequestsBy, RestsBy, Steps, StepsBy, Takes, end_of, heard_unless, is_accepted, is_no_memory, is_of, is_probation, late_followed, late_noted, left_when, payload_size, received, trip_if, trip_when, trips_where, waiting_for, waiting_if, waiting_when, waiting_where, with_edges, probed}
use Rattle.codec_payload_session_stream.specs.Turns.{AreQuiet}
use Rattle.codec_payload_session.specs.Turns.{TakesTurn, ended_after, kept_after}
use Rattle.codec_payload_session_formats.specs.declared.formats.Format.{Format}
use Rattle.codec_payload_session_formats.specs.declared.formats.SessionSettings.{SessionSettings}
use Rattle.codec_payload_session_stream.specs.declared.arrival.Arrival.{Arrival}
use Rattle.codec_payload_session_stream.specs.declared.arrival.Arrival.TheVariants as arrivals
use Rattle.codec_payload_session.specs.declared.session.ArrivalCounts.{ArrivalCounts}
use Rattle.codec_payload_session_stream.specs.Units.{Event, Step}
use Rattle.codec_payload_session_formats.specs.Sorting as sorted
use Rattle.codec_payload_session_stream.specs.declared.stream.Ending.{Ending}
use Rattle.codec_payload_session_stream.specs.declared.stream.Stage.{Stage}
use Rattle.codec_payload_session_stream.specs.declared.stream.Stage.TheVariants as stages
use Rattle.codec_payload_session_stream.specs.declared.stream.Step.TheVariants as steps
use Rattle.codec_payload_session_stream.specs.declared.stream.StreamState.{StreamState}

-- ---- the datagrams that the streams took, and the number of streams

pub taken_set : (ss : List StreamState) (i : ℕ) (s t : StreamState) → slice_get ss i ≡ Some s → taken_in (slice_set ss i t) + s.taken ≡ taken_in ss + t.taken
taken_set [] i s t is = absurd (cc)
taken_set (x ∷ xs) zero s t is = omega (arith, ap taken_of is)
taken_set (x ∷ xs) (suc i) s t is = omega (arith, taken_set xs i s t is)

pub length_set : (ss : List StreamState) (i : ℕ) (t : StreamState) → length (slice_set ss i t) ≡ length ss
length_set [] i t = refl
length_set (x ∷ xs) zero t = refl
length_set (x ∷ xs) (suc i) t = ap suc (length_set xs i t)

taken_removed : (ss : List StreamState) (i : ℕ) → taken_in (remove ss i) + taken_of (slice_get ss i) ≡ taken_in ss
taken_removed [] zero = refl
taken_removed [] (suc i) = refl
taken_removed (x ∷ xs) zero = omega arith
taken_removed (x ∷ xs) (suc i) = omega (arith, taken_removed xs i)

length_removed : (ss : List StreamState) (i : ℕ) → i < length ss → length (remove ss i) + 1 ≡ length ss
length_removed [] i within = absurd (omega (arith, within))
length_removed (x ∷ xs) zero within = omega arith
length_removed (x ∷ xs) (suc i) within = omega (arith, length_removed xs i (omega (arith, within)))

taken_appended : (ss ts : List StreamState) → taken_in (ss ++ ts) ≡ taken_in ss + taken_in ts
taken_appended [] ts = omega arith
taken_appended (x ∷ xs) ts = omega (arith, taken_appended xs ts)

length_appended : (ss ts : List StreamState) → length (ss ++ ts) ≡ length ss + length ts
length_appended [] ts = omega arith
length_appended (x ∷ xs) ts = omega (arith, length_appended xs ts)

taken_left_if : (who : ℕ → Bool) (why : Ending) (at : ℕ) (s : StreamState) → (left_if who why at s).taken ≡ s.taken
taken_left_if who why at s = by_test (who s.ssrc)
  where
    by_test : (b : Bool) → (left_when b why at s).taken ≡ s.taken
    by_test true = refl
    by_test false = refl

taken_left : (who : ℕ → Bool) (why : Ending) (at : ℕ) (ss : List StreamState) → taken_in (left_where who why at ss) ≡ taken_in ss
taken_left who why at [] = refl
taken_left who why at (x ∷ xs) = omega (arith, taken_left_if who why at x, taken_left who why at xs)

length_left : (who : ℕ → Bool) (why : Ending) (at : ℕ) (ss : List StreamState) → length (left_where who why at ss) ≡ length ss
length_left who why at [] = refl
length_left who why at (x ∷ xs) = ap suc (length_left who why at xs)

-- ---- a datagram that a stream takes

abbrev taken_unless : Bool → ℕ → ℕ
taken_unless true n = n
taken_unless false n = next n

waiting_taken : (o : Option ℕ) (s : StreamState) → (waiting_for o s).taken ≡ s.taken
waiting_taken None s = refl
waiting_taken (Some wait) s = refl

received_taken : (now : ℕ) (bytes : List ℕ) (accepted : Bool) (r : Receiver) (s : StreamState) → (received now bytes accepted r s).taken ≡ s.taken
received_taken now bytes true r s =
    waiting_taken (wait_by (heard_by now (number_at s.format bytes) s.feedback)) (record s { receiver = r; feedback = heard_by now (number_at s.format bytes) s.feedback; names = names_after s.name_ids bytes s.names })
received_taken now bytes false r s = refl

late_taken : (b : Bool) (now : ℕ) (bytes : List ℕ) (s : StreamState) → (late_followed b now bytes s).taken ≡ s.taken
late_taken true now bytes s = waiting_taken (limit_by (late_noted now bytes s).late) (late_noted now bytes s)
late_taken false now bytes s = refl

takes_taken : (now : Ticks) (probation : ℕ) (bytes : List ℕ) (s : StreamState) (told : Result Outcome ReceiveError) (t : StreamState) → Takes now probation bytes s told t
    → t.taken ≡ taken_unless (is_no_memory told) s.taken
takes_taken now probation bytes s told t got = ap (λ (x : StreamState). x.taken) got.3 ∙ by_test (is_no_memory told)
  where
    same : (late_followed (is_ok told) now.0 bytes (received now.0 bytes (is_accepted told) got.0 (with_edges got.0 got.1 (probed bytes told s)))).taken ≡ s.taken
    same = late_taken (is_ok told) now.0 bytes (received now.0 bytes (is_accepted told) got.0 (with_edges got.0 got.1 (probed bytes told s))) ∙ received_taken now.0 bytes (is_accepted told) got.0 (with_edges got.0 got.1 (probed bytes told s))

    by_test : (b : Bool) → (heard_unless b now.0 probation (is_accepted told) (payload_size (rtp_at bytes)) (late_followed (is_ok told) now.0 bytes (received now.0 bytes (is_accepted told) got.0 (with_edges got.0 got.1 (probed bytes told s))))).taken ≡ taken_unless b s.taken
    by_test true = same
    by_test false = ap next same

-- the port after the datagram, with this result
abbrev Keeps : SessionSettings → ArrivalCounts → Port → Result Arrival AllocError → Type 0
Keeps settings c q answer = IsPort settings q (counted_if answer c)

keeps_by : (settings : SessionSettings) (c : ArrivalCounts) (p q : Port) (answer told : Result Arrival AllocError) → answer ≡ told → q ≡ p → Keeps settings c p told → Keeps settings c q answer
keeps_by settings c p q answer told is same kept =
    subst (λ (a : Result Arrival AllocError). Keeps settings c q a) (sym is) (subst (λ (x : Port). Keeps settings c x told) (sym same) kept)

-- a datagram that a stream took is received, and has no other counter
counted_taken : (ssrc payload_type : ℕ) (told : Result Outcome ReceiveError) (c : ArrivalCounts) → counted (arrival_of ssrc payload_type told) c ≡ record c { received = next c.received }
counted_taken ssrc payload_type (Ok outcome) c = refl
counted_taken ssrc payload_type (Err fault) c = refl

taken_keeps : (settings : SessionSettings) (c : ArrivalCounts) (q : Port) (ssrc payload_type : ℕ) (told : Result Outcome ReceiveError) → IsPort settings q (record c { received = next c.received })
    → Keeps settings c q (Ok (arrival_of ssrc payload_type told))
taken_keeps settings c q ssrc payload_type told kept = subst (λ (x : ArrivalCounts). IsPort settings q x) (sym (counted_taken ssrc payload_type told c)) kept

feeds_keep : (settings : SessionSettings) (c : ArrivalCounts) (place : ℕ) (now : Ticks) (bytes : List ℕ) (p : Port) (answer : Result Arrival AllocError) (q : Port)
    → Feeds settings.probation place now bytes p answer q → IsPort settings p c → Keeps settings c q answer
feeds_keep settings c place now bytes p answer q got kept =
    subst (λ (x : Port). Keeps settings c x answer) (sym got.left)
    (by_test (is_no_memory got.told) answer got.arrives (takes_taken now settings.probation bytes got.stream got.told got.after got.takes))
  where
    by_test : (b : Bool) (a : Result Arrival AllocError) → Arrives b (arrival_of got.stream.ssrc got.stream.format.payload_type got.told) a
        → got.after.taken ≡ taken_unless b got.stream.taken → Keeps settings c (record p { streams = slice_set p.streams place got.after }) a
    by_test false a is taken =
        subst (λ (x : Result Arrival AllocError). Keeps settings c (record p { streams = slice_set p.streams place got.after }) x) (sym is)
        (taken_keeps settings c (record p { streams = slice_set p.streams place got.after }) got.stream.ssrc got.stream.format.payload_type got.told (record {
          accounted = omega (arith, kept.accounted, taken, taken_set p.streams place got.stream got.after got.there);
          bounded = omega (arith, kept.bounded, length_set p.streams place got.after);
        }))
    by_test true (Ok arrival) is taken = absurd (cc)
    by_test true (Err e) is taken = record {
      accounted = omega (arith, kept.accounted, taken, taken_set p.streams place got.stream got.after got.there);
      bounded = omega (arith, kept.bounded, length_set p.streams place got.after);
    }

-- a sender report is no datagram that a stream takes
taken_noted : (now : Ticks) (o : Result (List Packet) RtcpError) (ss : List StreamState) → taken_in (noted_in now o ss) ≡ taken_in ss
taken_noted now (Err e) ss = refl
taken_noted now (Ok ps) [] = refl
taken_noted now (Ok ps) (s ∷ ss) = ap (λ (n : ℕ). s.taken + n) (taken_noted now (Ok ps) ss)

rtcp_keeps : (settings : SessionSettings) (c : ArrivalCounts) (now : Ticks) (bytes : List ℕ) (who : ℕ → Bool) (why : Ending) (at : ℕ) (p : Port) → IsPort settings p c
    → Keeps settings c (record p { streams = left_where who why at (noted_at now bytes p.streams) }) (Ok arrivals.Rtcp)
rtcp_keeps settings c now bytes who why at p kept =
    let noted_taken : taken_in (noted_at now bytes p.streams) ≡ taken_in p.streams = taken_noted now (compound_at false bytes) p.streams in
    let noted_count : length (noted_at now bytes p.streams) ≡ length p.streams = noted_length now (compound_at false bytes) p.streams in
    record {
      accounted = omega (arith, kept.accounted, noted_taken, taken_left who why at (noted_at now bytes p.streams));
      bounded = omega (arith, kept.bounded, noted_count, length_left who why at (noted_at now bytes p.streams));
    }

malformed_keeps : (settings : SessionSettings) (c : ArrivalCounts) (p : Port) → IsPort settings p c → Keeps settings c p (Ok arrivals.Malformed)
malformed_keeps settings c p kept = record { accounted = omega (arith, kept.accounted); bounded = kept.bounded }

unknown_keeps : (settings : SessionSettings) (c : ArrivalCounts) (p : Port) → IsPort settings p c → Keeps settings c p (Ok arrivals.Unknown)
unknown_keeps settings c p kept = record { accounted = omega (arith, kept.accounted); bounded = kept.bounded }

refused_keeps : (settings : SessionSettings) (c : ArrivalCounts) (p : Port) → IsPort settings p c → Keeps settings c p (Ok arrivals.Refused)
refused_keeps settings c p kept = record { accounted = omega (arith, kept.accounted); bounded = kept.bounded }

unassociated_keeps : (settings : SessionSettings) (c : ArrivalCounts) (p : Port) → IsPort settings p c → Keeps settings c p (Ok arrivals.Unassociated)
unassociated_keeps settings c p kept = record { accounted = omega (arith, kept.accounted); bounded = kept.bounded }

-- ---- a datagram that begins a stream

-- the sum of the datagrams, and the number of streams, after a stream was added
abbrev Adds : ℕ → StreamState → Port → Port → Type 0
Adds most s p q = ((q.ended + taken_in q.streams) % 2 ^ 64 ≡ (p.ended + taken_in p.streams + s.taken) % 2 ^ 64) × (length q.streams ≤ most)

adds_by : (b : Bool) (o : Option ℕ) (most : ℕ) (s : StreamState) (p : Port) → nat_lt (length p.streams) most ≡ b → position on_probation p.streams ≡ o → (b || is_some o) ≡ true → length p.streams ≤ most
    → Adds most s p (without (cond b None o) (record p { streams = p.streams ++ s ∷ [] }))
adds_by true o most s p less at place within =
    let there_is : length p.streams < most = grind (arith, nat_tests) in
    (omega (arith, taken_appended p.streams (s ∷ [])), omega (arith, length_appended p.streams (s ∷ []), there_is))
adds_by false (Some i) most s p less at place within =
    let there_is : i < length p.streams = (position-Some on_probation p.streams i s at).0 in
    let longer : length (p.streams ++ s ∷ []) ≡ length p.streams + length (s ∷ []) = length_appended p.streams (s ∷ []) in
    (omega (arith, taken_appended p.streams (s ∷ []), taken_removed (p.streams ++ s ∷ []) i), omega (arith, within, longer, length_removed (p.streams ++ s ∷ []) i (omega (arith, longer, there_is))))
adds_by false None most s p less at place within = absurd (cc)

has_place_by : (f : Bool) (b : Bool) → (not f && b) ≡ true → b ≡ true
has_place_by true b is = absurd (cc)
has_place_by false b is = is

adds : (most : ℕ) (s : StreamState) (p : Port) → has_place most p ≡ true → length p.streams ≤ most → Adds most s p (added most s p)
adds most s p place within =
    adds_by (nat_lt (length p.streams) most) (position on_probation p.streams) most s p refl refl (has_place_by p.finished _ place) within

begins_keep : (settings : SessionSettings) (c : ArrivalCounts) (ssrc : ℕ) (f : Format) (now : Ticks) (bytes : List ℕ) (p : Port) (answer : Result Arrival AllocError) (q : Port)
    → has_place settings.max_streams p ≡ true → BeginsWith settings ssrc f now bytes p answer q → IsPort settings p c → Keeps settings c q answer
begins_keep settings c ssrc f now bytes p answer q place got kept =
    let taken : got.after.taken ≡ taken_unless (is_no_memory got.told) got.stream.taken = takes_taken now settings.probation bytes (begun_in ssrc p got.stream) got.told got.after got.takes in
    let one : got.after.taken ≡ 1 = taken ∙ ap (λ (b : Bool). taken_unless b got.stream.taken) got.received ∙ ap next got.begins.taken in
    let it : Adds settings.max_streams got.after p (added settings.max_streams got.after p) = adds settings.max_streams got.after p place kept.bounded in
    keeps_by settings c (added settings.max_streams got.after p) q answer (Ok (arrival_of ssrc f.payload_type got.told)) got.answers got.left
    (taken_keeps settings c (added settings.max_streams got.after p) ssrc f.payload_type got.told (record { accounted = omega (arith, kept.accounted, one, it.0); bounded = it.1 }))

stays_keep : (settings : SessionSettings) (c : ArrivalCounts) (p : Port) (answer : Result Arrival AllocError) (q : Port) → StaysEmpty p answer q → IsPort settings p c → Keeps settings c q answer
stays_keep settings c p (Ok arrival) q got kept = absurd (cc)
stays_keep settings c p (Err e) q got kept = keeps_by settings c p q (Err e) (Err e) refl got.1 kept

begins_if_keeps : (b : Bool) (settings : SessionSettings) (c : ArrivalCounts) (ssrc : ℕ) (f : Format) (now : Ticks) (bytes : List ℕ) (p : Port) (answer : Result Arrival AllocError) (q : Port)
    → has_place settings.max_streams p ≡ b → BeginsIf b settings ssrc f now bytes p answer q → IsPort settings p c → Keeps settings c q answer
begins_if_keeps false settings c ssrc f now bytes p answer q place got kept = keeps_by settings c p q answer (Ok arrivals.Refused) got.0 got.1 (refused_keeps settings c p kept)
begins_if_keeps true settings c ssrc f now bytes p answer q place (inl got) kept = begins_keep settings c ssrc f now bytes p answer q place got kept
begins_if_keeps true settings c ssrc f now bytes p answer q place (inr got) kept = stays_keep settings c p answer q got kept

begins_or_feeds_keeps : (o : Option ℕ) (settings : SessionSettings) (c : ArrivalCounts) (ssrc : ℕ) (f : Format) (now : Ticks) (bytes : List ℕ) (p : Port) (answer : Result Arrival AllocError) (q : Port)
    → BeginsOrFeeds o settings ssrc f now bytes p answer q → IsPort settings p c → Keeps settings c q answer
begins_or_feeds_keeps None settings c ssrc f now bytes p answer q got kept = begins_if_keeps (has_place settings.max_streams p) settings c ssrc f now bytes p answer q refl got kept
begins_or_feeds_keeps (Some place) settings c ssrc f now bytes p answer q got kept = feeds_keep settings c place now bytes p answer q got kept

-- streams that their sender left take no datagram
media_keeps : (settings : SessionSettings) (c : ArrivalCounts) (ssrc : ℕ) (f : Format) (now : Ticks) (bytes : List ℕ) (p : Port) (answer : Result Arrival AllocError) (q : Port)
    → TakesMedia settings ssrc f now bytes p answer q → IsPort settings p c → Keeps settings c q answer
media_keeps settings c ssrc f now bytes p answer q got kept =
    let mid : Port = got.received in
    let after : Keeps settings c mid answer = begins_or_feeds_keeps _ settings c ssrc f now bytes p answer mid got.takes kept in
    let leaves : Bool = is_ok answer && continues ssrc f mid.streams in
    subst (λ (x : Port). Keeps settings c x answer) (sym got.left)
    (record {
      accounted = omega (arith, after.accounted, taken_continued leaves now.0 settings.bye_wait ssrc f mid.streams);
      bounded = omega (arith, after.bounded, length_continued leaves now.0 settings.bye_wait ssrc f mid.streams);
    })

feeds_if_unassociated : (o : Option ℕ) (settings : SessionSettings) (c : ArrivalCounts) (now : Ticks) (bytes : List ℕ) (p : Port) (answer : Result Arrival AllocError) (q : Port)
    → FeedsIf o arrivals.Unassociated settings.probation now bytes p answer q → IsPort settings p c → Keeps settings c q answer
feeds_if_unassociated None settings c now bytes p answer q got kept = keeps_by settings c p q answer (Ok arrivals.Unassociated) got.0 got.1 (unassociated_keeps settings c p kept)
feeds_if_unassociated (Some place) settings c now bytes p answer q got kept = feeds_keep settings c place now bytes p answer q got kept

feeds_if_unknown : (o : Option ℕ) (settings : SessionSettings) (c : ArrivalCounts) (now : Ticks) (bytes : List ℕ) (p : Port) (answer : Result Arrival AllocError) (q : Port)
    → FeedsIf o arrivals.Unknown settings.probation now bytes p answer q → IsPort settings p c → Keeps settings c q answer
feeds_if_unknown None settings c now bytes p answer q got kept = keeps_by settings c p q answer (Ok arrivals.Unknown) got.0 got.1 (unknown_keeps settings c p kept)
feeds_if_unknown (Some place) settings c now bytes p answer q got kept = feeds_keep settings c place now bytes p answer q got kept

keeps_as : (d : Sorted) (settings : SessionSettings) (now : Ticks) (bytes : List ℕ) (c : ArrivalCounts) (p q : Port) (answer : Result Arrival AllocError)
    → TakesInAs d settings now bytes p answer q → IsPort settings p c → Keeps settings c q answer
keeps_as sorted.Rtcp settings now bytes c p q answer got kept =
    keeps_by settings c _ q answer (Ok arrivals.Rtcp) got.0 got.1
    (exchanged_keeps settings.feedback settings (counted_if (Ok arrivals.Rtcp) c) settings.tick_rate now.0 bytes _ (rtcp_keeps settings c now bytes _ _ _ p kept))
keeps_as sorted.Malformed settings now bytes c p q answer got kept = keeps_by settings c p q answer (Ok arrivals.Malformed) got.0 got.1 (malformed_keeps settings c p kept)
keeps_as sorted.Unknown settings now bytes c p q answer got kept = keeps_by settings c p q answer (Ok arrivals.Unknown) got.0 got.1 (unknown_keeps settings c p kept)
keeps_as sorted.Unassociated settings now bytes c p q answer got kept = keeps_by settings c p q answer (Ok arrivals.Unassociated) got.0 got.1 (unassociated_keeps settings c p kept)
keeps_as (sorted.Media ssrc f) settings now bytes c p q answer got kept = media_keeps settings c ssrc f now bytes p answer q got kept
keeps_as (sorted.Retransmission ssrc payload_type) settings now bytes c p q answer got kept = feeds_if_unassociated _ settings c now bytes p answer q got kept
keeps_as (sorted.NoMedia ssrc) settings now bytes c p q answer got kept = feeds_if_unknown _ settings c now bytes p answer q got kept

-- each datagram is counted once
pub takes_in_keeps : (settings : SessionSettings) (now : Ticks) (bytes : List ℕ) (c : ArrivalCounts) (p q : Port) (answer : Result Arrival AllocError)
    → TakesIn settings now bytes p answer q → IsPort settings p c → IsPort settings q (counted_if answer c)
takes_in_keeps settings now bytes c p q answer got kept = keeps_as (sorted_at settings bytes) settings now bytes c p q answer got kept

-- ending streams take no datagram
pub left_keeps : (settings : SessionSettings) (c : ArrivalCounts) (who : ℕ → Bool) (why : Ending) (at : ℕ) (finished : Bool) (p : Port) → IsPort settings p c
    → IsPort settings (record p { streams = left_where who why at p.streams; finished = finished }) c
left_keeps settings c who why at finished p kept = record {
  accounted = omega (arith, kept.accounted, taken_left who why at p.streams);
  bounded = omega (arith, kept.bounded, length_left who why at p.streams);
}

-- a stream that waits longer takes nothing
taken_waiting_if : (ssrc payload_type : ℕ) (limits : WaitLimits) (s : StreamState) → (waiting_if ssrc payload_type limits s).taken ≡ s.taken
taken_waiting_if ssrc payload_type limits s = by_test (is_of ssrc payload_type s)
  where
    by_test : (b : Bool) → (waiting_when b limits s).taken ≡ s.taken
    by_test true = refl
    by_test false = refl

taken_waiting : (ssrc payload_type : ℕ) (limits : WaitLimits) (ss : List StreamState) → taken_in (waiting_where ssrc payload_type limits ss) ≡ taken_in ss
taken_waiting ssrc payload_type limits [] = refl
taken_waiting ssrc payload_type limits (x ∷ xs) = omega (arith, taken_waiting_if ssrc payload_type limits x, taken_waiting ssrc payload_type limits xs)

length_waiting : (ssrc payload_type : ℕ) (limits : WaitLimits) (ss : List StreamState) → length (waiting_where ssrc payload_type limits ss) ≡ length ss
length_waiting ssrc payload_type limits [] = refl
length_waiting ssrc payload_type limits (x ∷ xs) = ap suc (length_waiting ssrc payload_type limits xs)

pub waiting_keeps : (settings : SessionSettings) (c : ArrivalCounts) (ssrc payload_type : ℕ) (limits : WaitLimits) (p : Port) → IsPort settings p c
    → IsPort settings (record p { streams = waiting_where ssrc payload_type limits p.streams }) c
waiting_keeps settings c ssrc payload_type limits p kept = record {
  accounted = omega (arith, kept.accounted, taken_waiting ssrc payload_type limits p.streams);
  bounded = omega (arith, kept.bounded, length_waiting ssrc payload_type limits p.streams);
}

-- a stream whose round trip is set takes nothing
taken_trip_if : (ssrc payload_type : ℕ) (round_trip : Option ℕ) (s : StreamState) → (trip_if ssrc payload_type round_trip s).taken ≡ s.taken
taken_trip_if ssrc payload_type round_trip s = by_test (is_of ssrc payload_type s)
  where
    by_test : (b : Bool) → (trip_when b round_trip s).taken ≡ s.taken
    by_test true = waiting_taken _ _
    by_test false = refl

taken_trips : (ssrc payload_type : ℕ) (round_trip : Option ℕ) (ss : List StreamState) → taken_in (trips_where ssrc payload_type round_trip ss) ≡ taken_in ss
taken_trips ssrc payload_type round_trip [] = refl
taken_trips ssrc payload_type round_trip (x ∷ xs) = omega (arith, taken_trip_if ssrc payload_type round_trip x, taken_trips ssrc payload_type round_trip xs)

length_trips : (ssrc payload_type : ℕ) (round_trip : Option ℕ) (ss : List StreamState) → length (trips_where ssrc payload_type round_trip ss) ≡ length ss
length_trips ssrc payload_type round_trip [] = refl
length_trips ssrc payload_type round_trip (x ∷ xs) = ap suc (length_trips ssrc payload_type round_trip xs)

pub trips_keep : (settings : SessionSettings) (c : ArrivalCounts) (ssrc payload_type : ℕ) (round_trip : Option ℕ) (p : Port) → IsPort settings p c
    → IsPort settings (record p { streams = trips_where ssrc payload_type round_trip p.streams }) c
trips_keep settings c ssrc payload_type round_trip p kept = record {
  accounted = omega (arith, kept.accounted, taken_trips ssrc payload_type round_trip p.streams);
  bounded = omega (arith, kept.bounded, length_trips ssrc payload_type round_trip p.streams);
}

-- a report is no datagram
pub reports_keep : (settings : SessionSettings) (c : ArrivalCounts) (o : Option ℕ) (tick_rate now : ℕ) (answer : Option ReportBlock) (p q : Port) → ReportsIf o tick_rate now p answer q
    → IsPort settings p c → IsPort settings q c
reports_keep settings c None tick_rate now answer p q got kept = subst (λ (x : Port). IsPort settings x c) (sym got.1) kept
reports_keep settings c (Some place) tick_rate now answer p q got kept =
    subst (λ (x : Port). IsPort settings x c) (sym got.left)
    (record {
      accounted = omega (arith, kept.accounted, taken_set p.streams place got.stream (reported_by got.stream) got.there);
      bounded = omega (arith, kept.bounded, length_set p.streams place (reported_by got.stream));
    })

-- ---- turns

drains_taken : (o : Option Ending) (s t : StreamState) → Drains o s t → t.taken ≡ s.taken
drains_taken None s t got = ap (λ (x : StreamState). x.taken) got
drains_taken (Some why) s t got = ap (λ (x : StreamState). x.taken) got.2

requests_taken : (o : Option Asking) (now : ℕ) (s : StreamState) (step : Step) (t : StreamState) → RequestsBy o now s step t → t.taken ≡ s.taken
requests_taken None now s step t got = ap (λ (x : StreamState). x.taken) got.1
requests_taken (Some a) now s step t got = ap (λ (x : StreamState). x.taken) got.after

rests_taken : (stage : Stage) (now : ℕ) (s : StreamState) (step : Step) (t : StreamState) → RestsBy stage now s step t → t.taken ≡ s.taken
rests_taken stages.Probation now s step t got = ap (λ (x : StreamState). x.taken) got.1
rests_taken stages.Playing now s step t got = requests_taken s.feedback now s step t got
rests_taken (stages.Leaving why at) now s step t got = ap (λ (x : StreamState). x.taken) got.1
rests_taken (stages.Draining why) now s step t got = ap (λ (x : StreamState). x.taken) got.1

follows_taken : (o : Option (Result (Popped Release) AllocError)) (now : ℕ) (s : StreamState) (step : Step) (t : StreamState) → Follows o now s step t → t.taken ≡ s.taken
follows_taken None now s step t got = rests_taken s.stage now s step t got
follows_taken (Some told) now s step t got = ap (λ (x : StreamState). x.taken) got.1

plays_taken : (now : Ticks) (idle : ℕ) (s : StreamState) (step : Step) (t : StreamState) → Plays now idle s step t → t.taken ≡ s.taken
plays_taken now idle s step t got = follows_taken got.2.told now.0 (record got.0 { receiver = got.2.receiver }) step t got.2.follows ∙ drains_taken (end_of now.0 idle s) s got.0 got.1

steps_by_taken : (b announced : Bool) (now : Ticks) (idle : ℕ) (s : StreamState) (step : Step) (t : StreamState) → StepsBy b announced now idle s step t → t.taken ≡ s.taken
steps_by_taken true announced now idle s step t got = ap (λ (x : StreamState). x.taken) got.1
steps_by_taken false false now idle s step t got = ap (λ (x : StreamState). x.taken) got.1
steps_by_taken false true now idle s step t got = plays_taken now idle s step t got

steps_taken : (now : Ticks) (idle : ℕ) (s : StreamState) (step : Step) (t : StreamState) → Steps now idle s step t → t.taken ≡ s.taken
steps_taken now idle s step t got = steps_by_taken (is_probation s.stage) s.announced now idle s step t got

quiet_taken : (now : Ticks) (idle : ℕ) (ss ts : List StreamState) → AreQuiet now idle ss ts → taken_in ts ≡ taken_in ss
quiet_taken now idle [] [] got = refl
quiet_taken now idle [] (t ∷ ts) got = absurd got
quiet_taken now idle (s ∷ ss) [] got = absurd got
quiet_taken now idle (s ∷ ss) (t ∷ ts) got = omega (arith, steps_taken now idle s steps.Nothing t got.0, quiet_taken now idle ss ts got.1)

-- a stream that ended is counted among the ended streams
kept_taken : (step : Step) (t : StreamState) (rest : List StreamState) (ended : ℕ)
    → ((ended_after step t ended + taken_in (kept_after step t rest)) % 2 ^ 64 ≡ (ended + t.taken + taken_in rest) % 2 ^ 64) × (length (kept_after step t rest) ≤ 1 + length rest)
kept_taken steps.Begun t rest ended = (omega arith, omega arith)
kept_taken (steps.Unit unit) t rest ended = (omega arith, omega arith)
kept_taken (steps.TooLarge unit) t rest ended = (omega arith, omega arith)
kept_taken (steps.Refused fault) t rest ended = (omega arith, omega arith)
kept_taken (steps.Feedback packet) t rest ended = (omega arith, omega arith)
kept_taken (steps.Ended why) t rest ended = (omega arith, omega arith)
kept_taken steps.Nothing t rest ended = (omega arith, omega arith)

-- each datagram stays counted once
pub turn_keeps : (now : Ticks) (idle : ℕ) (settings : SessionSettings) (c : ArrivalCounts) (p q : Port) (event : Option Event) → TakesTurn now idle p event q → IsPort settings p c
    → IsPort settings q c
turn_keeps now idle settings c p q None got kept =
    subst (λ (x : Port). IsPort settings x c) (sym got.2)
    (record {
      accounted = omega (arith, kept.accounted, quiet_taken now idle p.streams got.0 got.1);
      bounded = omega (arith, kept.bounded, quiet_length now idle p.streams got.0 got.1);
    })
turn_keeps now idle settings c p q (Some event) got kept =
    let there_taken : taken_in p.streams ≡ taken_in got.front + (got.stream.taken + taken_in got.rest) = ap taken_in got.there ∙ taken_appended got.front (got.stream ∷ got.rest) in
    let there_length : length p.streams ≡ length got.front + length (got.stream ∷ got.rest) = ap (λ (l : List StreamState). length l) got.there ∙ length_appended got.front (got.stream ∷ got.rest) in
    let one = steps_taken now idle got.stream got.step got.stepped got.steps in
    let kept_one = kept_taken got.step got.stepped got.rest p.ended in
    let after_taken = taken_appended got.quiet (kept_after got.step got.stepped got.rest) in
    let after_length = length_appended got.quiet (kept_after got.step got.stepped got.rest) in
    subst (λ (x : Port). IsPort settings x c) (sym got.left)
    (record {
      accounted = omega (arith, kept.accounted, there_taken, one, kept_one.0, after_taken, quiet_taken now idle got.front got.quiet got.are_quiet);
      bounded = omega (arith, kept.bounded, there_length, kept_one.1, after_length, quiet_length now idle got.front got.quiet got.are_quiet);
    })
