-- What each call of a session makes of its streams.
use Rattle.std.proofs.Common.{◌≡◌, ◌<◌, ◌∙◌, inl, inr, refl, sym, ap, ap₂, subst, subst₂, ℕ, zero, suc, ◌+◌, ◌-◌, ◌^◌, ◌==◌, ◌&&◌, ◌||◌, min, Bool, true, false, cond, List, [], ◌∷◌, ◌++◌, map, Option, Some, None, Result, Ok, Err, is_ok, append-nil, slice_get, slice_set, length, get_or, nat_lt, arith}
use Rattle.std.specs.Prelude.{IsErr}
use Rattle.std.specs.List.{position, remove}
use Rattle.std.specs.Global.{Vec}
use Rattle.std.specs.declared.alloc.AllocError.{AllocError}
use Rattle.std.proofs.lemmas.List.Quantifiers.{position-Some}
use Rattle.codec_payload_base.specs.declared.wire.Ticks.{Ticks}
use Rattle.codec_payload_jitter.specs.declared.outcome.Outcome.{Outcome}
use Rattle.codec_payload_jitter.specs.declared.waiting.WaitLimits.{WaitLimits}
use Rattle.codec_payload_rtcp.specs.RtcpPackets.{Packet}
use Rattle.codec_payload_rtcp.specs.RtcpReading.{compound_at}
use Rattle.codec_payload_rtcp.specs.declared.items.ReportBlock.{ReportBlock}
use Rattle.codec_payload_rtcp.specs.declared.packet.RtcpError.{RtcpError}
use Rattle.codec_payload_rtp.specs.RtpPackets.{Packet as RtpPacket, is_rtcp}
use Rattle.codec_payload_rtp.specs.RtpReading.{rtp_at}
use Rattle.codec_payload_rtp.specs.declared.rtp.RtpError.{RtpError}
use Rattle.codec_payload_datagrams.specs.Kinds.{is_among}
use Rattle.codec_payload_receiver.specs.declared.receiver.ReceiveError.{ReceiveError}
use Rattle.codec_payload_session.specs.Keyframes.{asked_among, asked_with}
use Rattle.codec_payload_session_requests.specs.declared.requests.KeyframeAnswer.{KeyframeAnswer}
use Rattle.codec_payload_session_requests.specs.declared.requests.WaitRange.{WaitRange}
use Rattle.codec_payload_session_stream.specs.Arrivals.{Arrives, arrival_of}
use Rattle.codec_payload_session.specs.Arrivals.{BeginsIf, BeginsOrFeeds, BeginsWith, Feeds, FeedsIf, Port, TakesIn, TakesInAs, TakesMedia, goodbye_at, has_place, has_ssrc, left_if, left_where, on_probation, without, begun_in, names_of_ssrc}
use Rattle.codec_payload_session_stream.specs.Changes.{continued, continues, is_left_behind, left_behind}
use Rattle.codec_payload_session_stream.specs.Pairs.{paired_if, paired_when}
use Rattle.codec_payload_session.specs.Ports.{ReportsIf}
use Rattle.codec_payload_session.specs.Reporting.{all_reported, is_chosen, room_after}
use Rattle.codec_payload_session_stream.specs.Reports.{reported_if, noted, noted_at, noted_in, reported_by}
use Rattle.codec_payload_session_formats.specs.Formats.{has_type, resends, retransmission_for, role_by, stream_of}
use Rattle.codec_payload_session_formats.specs.Sorting.{sorted_by, sorted_retransmission, sorted_rtcp, sorted_rtp}
use Rattle.codec_payload_session_stream.specs.Streams.{Begins, is_no_memory, is_of, is_probation, waiting_if, waiting_when, asked_for, asked_unless, is_ending, Edges, edge_rules_of}
use Rattle.codec_payload_session_stream.specs.Turns.{AreQuiet}
use Rattle.codec_payload_session.specs.Turns.{TakesTurn, kept_after}
use Rattle.codec_payload_session_formats.specs.declared.formats.Format.{Format}
use Rattle.codec_payload_session_formats.specs.declared.names.StreamNames.{StreamNames}
use Rattle.codec_payload_session_formats.specs.declared.formats.SessionSettings.{SessionSettings}
use Rattle.codec_payload_session_formats.specs.declared.formats.SsrcPair.{SsrcPair}
use Rattle.codec_payload_session_stream.specs.declared.arrival.Arrival.{Arrival}
use Rattle.codec_payload_session_stream.specs.declared.arrival.Arrival.TheVariants as arrivals
use Rattle.codec_payload_session_stream.specs.Units.{Event}
use Rattle.codec_payload_session_stream.specs.declared.events.Event.TheVariants as events
use Rattle.codec_payload_session_stream.specs.declared.stream.Ending.{Ending}
use Rattle.codec_payload_session_stream.specs.declared.stream.Ending.TheVariants as endings
use Rattle.codec_payload_session_stream.specs.declared.stream.StreamState.{StreamState}
use Rattle.codec_payload_session_runs.proofs.AloneLemmas.{finishes_append, made_append, poll_of, polled_first, pops_append, reports_append, runs_append, shown_append, edges_append, polled_each, polled_edges}
use Rattle.codec_payload_session_runs.proofs.FateLemmas.{AreApart, AreFates, AreKnown, BeginsNow, Evolves, GoAll, IsFate, IsSilent, ShowsNothing, absent_middle, all_fates, all_stay, evolves_all, evolves_map, evolves_same, fates_append, found_none, mapped_all, one_goes, others_go, present, present_all, present_append, same_sym}
use Rattle.codec_payload_session_stream.specs.Trips.{with_round_trip}
use Rattle.codec_payload_session_runs.proofs.TripLemmas.{exchanged_streams, told_if}
use Rattle.codec_payload_session_runs.proofs.PollLemmas.{Kind, Stepped, steps_stepped}
use Rattle.codec_payload_session_runs.proofs.StreamLemmas.{FinishedBy, Goes, HasPart, IsKnown, Keeps, call_of, fed_goes, given_arrival, given_is, keeps_left, none_finished, own_waits, silent_goes, trip_ranges, edges_stay}
use Rattle.codec_payload_session_runs.proofs.WaitRangeLemmas.{asked_range}
use Rattle.codec_payload_session_runs.specs.Lives.{AreMadeBy, AreOfOne, FollowedWaits, IsAbsent, IsMadeAs, IsPart, IsReportEvent, ReceiverCall, StartsWithDatagram, age_range, events_by, events_in, given_by, is_same, many_reports, one_call, pairs, receives, released_by, reports, shown, shown_in, waits}
use Rattle.codec_payload_session_runs.specs.SessionRuns.{Call}
use Rattle.codec_payload_session_runs.specs.declared.run.SessionStep.{SessionStep}
use Rattle.codec_payload_session_runs.specs.declared.run.SessionStep.TheVariants as calls
use Rattle.codec_payload_session_runs.specs.declared.run.StepAnswer.{StepAnswer}
use Rattle.codec_payload_session_runs.specs.declared.run.StepAnswer.TheVariants as answers

-- ---- receive: a stream that exists

pub given_other : (b : Bool) (now : Ticks) (bytes : List ℕ) (ssrc payload_type s p : ℕ) (told : Result Outcome ReceiveError) (answer : Result Arrival AllocError) → is_same ssrc payload_type s p ≡ false
    → Arrives b (arrival_of s p told) answer → given_by ssrc payload_type now bytes answer ≡ []
given_other false now bytes ssrc payload_type s p told answer other is =
    ap (λ (a : Result Arrival AllocError). given_by ssrc payload_type now bytes a) is ∙ given_arrival ssrc payload_type now bytes s p told
    ∙ ap (λ (b : Bool). one_call b (receives now bytes told)) other
given_other true now bytes ssrc payload_type s p told (Ok arrival) other is = absurd (cc)
given_other true now bytes ssrc payload_type s p told (Err e) other is = refl

feeds_evolve : (given settings : SessionSettings) (place : ℕ) (now : Ticks) (micros : Option ℕ) (datagram : Vec ℕ) (p : Port) (answer : Result Arrival AllocError) (q : Port) → AreApart p.streams
    → Feeds settings.probation place now datagram.items p answer q → Evolves given (call_of now micros datagram answer) p.streams q.streams
feeds_evolve given settings place now micros datagram p answer q apart got =
    let c : Call = call_of now micros datagram answer in
    let x : StreamState = got.stream in
    subst (λ (o : Port). Evolves given c p.streams o.streams) (sym got.left)
    (evolves_all given c p.streams (slice_set p.streams place got.after) (λ ssrc payload_type. refl)
    (one_goes c p.streams place x got.after got.there apart (fed_goes now micros datagram settings.probation x got.told got.after answer got.takes got.arrives)
    (λ (z : StreamState) (other : is_same z.ssrc z.format.payload_type x.ssrc x.format.payload_type ≡ false).
    silent_goes c z (given_other (is_no_memory got.told) now datagram.items z.ssrc z.format.payload_type x.ssrc x.format.payload_type got.told answer other got.arrives) refl)))

-- an arrival that names no stream
abbrev pub NamesNone : Result Arrival AllocError → Type 0
NamesNone answer = (now : Ticks) (bytes : List ℕ) (ssrc payload_type : ℕ) → given_by ssrc payload_type now bytes answer ≡ []

stays_evolve : (given : SessionSettings) (now : Ticks) (micros : Option ℕ) (datagram : Vec ℕ) (p : Port) (answer told : Result Arrival AllocError) (q : Port) → NamesNone told → answer ≡ told → q ≡ p
    → Evolves given (call_of now micros datagram answer) p.streams q.streams
stays_evolve given now micros datagram p answer told q none is same =
    subst₂ (λ (a : Result Arrival AllocError) (o : Port). Evolves given (call_of now micros datagram a) p.streams o.streams) (sym is) (sym same)
    (evolves_same given (call_of now micros datagram told) p.streams (λ ssrc payload_type. refl) (λ ssrc payload_type. none now datagram.items ssrc payload_type))

feeds_if_evolve : (given : SessionSettings) (o : Option ℕ) (arrival : Arrival) (settings : SessionSettings) (now : Ticks) (micros : Option ℕ) (datagram : Vec ℕ) (p : Port) (answer : Result Arrival AllocError) (q : Port)
    → NamesNone (Ok arrival) → AreApart p.streams → FeedsIf o arrival settings.probation now datagram.items p answer q → Evolves given (call_of now micros datagram answer) p.streams q.streams
feeds_if_evolve given None arrival settings now micros datagram p answer q none apart got = stays_evolve given now micros datagram p answer (Ok arrival) q none got.0 got.1
feeds_if_evolve given (Some place) arrival settings now micros datagram p answer q none apart got = feeds_evolve given settings place now micros datagram p answer q apart got

-- ---- receive: a stream begins, and may replace one in probation

unannounced_by : (announced : Bool) (x : StreamState) → x.announced ≡ announced → IsKnown x → is_probation x.stage ≡ true → x.announced ≡ false
unannounced_by true x is known probation = let no : is_probation x.stage ≡ false = known is in absurd (cc)
unannounced_by false x is known probation = is

abbrev all_but : ℕ → List StreamState → List (Option StreamState)
all_but i [] = []
all_but zero (x ∷ xs) = None ∷ all_stay xs
all_but (suc i) (x ∷ xs) = Some x ∷ all_but i xs

all_but_fates : (c : Call) (i : ℕ) (xs : List StreamState) (d : StreamState) → IsSilent c → GoAll c xs xs → AreKnown xs → i < length xs → on_probation (get_or xs i d) ≡ true → AreFates c xs (all_but i xs)
all_but_fates c i [] d silent go known within is = tt
all_but_fates c zero (x ∷ xs) d silent go known within is =
    (inl (record { announced = unannounced_by x.announced x refl known.0 is; tells = silent x.ssrc x.format.payload_type }), all_fates c xs xs go.1)
all_but_fates c (suc i) (x ∷ xs) d silent go known within is = (go.0, all_but_fates c i xs d silent go.1 known.1 (omega arith) is)

all_but_present : (i : ℕ) (xs ys : List StreamState) → i < length xs → remove (xs ++ ys) i ≡ present (all_but i xs) ++ ys
all_but_present i [] ys within = absurd (omega arith)
all_but_present zero (x ∷ xs) ys within = ap (λ (zs : List StreamState). zs ++ ys) (sym (present_all xs))
all_but_present (suc i) (x ∷ xs) ys within = ap (λ (zs : List StreamState). x ∷ zs) (all_but_present i xs ys (omega arith))

appended_evolves : (given : SessionSettings) (c : Call) (p : Port) (y : StreamState) → IsSilent c → GoAll c p.streams p.streams → BeginsNow given c p.streams y
    → Evolves given c p.streams (p.streams ++ y ∷ [])
appended_evolves given c p y silent go begins = record {
  fates = all_stay p.streams;
  are_fates = all_fates c p.streams p.streams go;
  fresh = y ∷ [];
  are_fresh = begins;
  left = ap (λ (zs : List StreamState). zs ++ y ∷ []) (sym (present_all p.streams));
  silent = λ ssrc payload_type absent. silent ssrc payload_type;
}

-- the streams with a new one; an earlier stream may have been removed
added_evolves : (given : SessionSettings) (c : Call) (b : Bool) (o : Option ℕ) (p : Port) (y : StreamState) → IsSilent c → GoAll c p.streams p.streams → AreKnown p.streams
    → BeginsNow given c p.streams y → position on_probation p.streams ≡ o → Evolves given c p.streams (without (cond b None o) (record p { streams = p.streams ++ y ∷ [] })).streams
added_evolves given c true o p y silent go known begins place = appended_evolves given c p y silent go begins
added_evolves given c false None p y silent go known begins place = appended_evolves given c p y silent go begins
added_evolves given c false (Some i) p y silent go known begins place =
    let found = position-Some on_probation p.streams i y place in
    record {
      fates = all_but i p.streams;
      are_fates = all_but_fates c i p.streams y silent go known found.0 found.1;
      fresh = y ∷ [];
      are_fresh = begins;
      left = all_but_present i p.streams (y ∷ []) found.0;
      silent = λ ssrc payload_type absent. silent ssrc payload_type;
    }

-- a new stream follows the round trip of the session, and has the names of its SSRC
told_goes : (c : Call) (round_trip : Option ℕ) (names : StreamNames) (x y : StreamState) → Goes c (record (with_round_trip round_trip x) { names = names }) y → Goes c x y
told_goes c round_trip names x y goes = record {
  has = record {
    ssrc_is = goes.has.ssrc_is;
    format = goes.has.format;
    ranges = goes.has.ranges ∙ trip_ranges round_trip x;
    part = goes.has.part;
    alone = goes.has.alone;
    is_part = subst (λ (w : FollowedWaits). IsPart x.ssrc x.format w c goes.has.part) (trip_ranges round_trip x) goes.has.is_part;
    finishes_it = goes.has.finishes_it;
    descriptor = goes.has.descriptor;
    edged = goes.has.edged;
  };
  tells = goes.tells;
  known = goes.known;
}

begins_evolve : (settings : SessionSettings) (ssrc : ℕ) (f : Format) (now : Ticks) (micros : Option ℕ) (datagram : Vec ℕ) (p : Port) (answer : Result Arrival AllocError) (q : Port)
    → position (is_of ssrc f.payload_type) p.streams ≡ None → AreKnown p.streams → BeginsWith settings ssrc f now datagram.items p answer q
    → Evolves settings (call_of now micros datagram answer) p.streams q.streams
begins_evolve settings ssrc f now micros datagram p answer q none known got =
    let c : Call = call_of now micros datagram answer in
    let x : StreamState = got.stream in
    let y : StreamState = got.after in
    let absent : IsAbsent ssrc f.payload_type p.streams = found_none ssrc f.payload_type p.streams none in
    let names : answer ≡ Ok (arrival_of x.ssrc x.format.payload_type got.told) =
    got.answers ∙ ap₂ (λ (s : ℕ) (g : Format). Ok (arrival_of s g.payload_type got.told)) (sym got.begins.ssrc_is) (sym got.begins.format) in
    let arrives : Arrives (is_no_memory got.told) (arrival_of x.ssrc x.format.payload_type got.told) answer =
    subst (λ (b : Bool). Arrives b (arrival_of x.ssrc x.format.payload_type got.told) answer) (sym got.received) names in
    let fresh : StreamState = begun_in ssrc p x in
    let goes : Goes c x y = told_goes c p.exchange.round_trip (names_of_ssrc ssrc p.streams) x y (fed_goes now micros datagram settings.probation fresh got.told y answer got.takes arrives) in
    let ssrc_is : y.ssrc ≡ ssrc = goes.has.ssrc_is ∙ got.begins.ssrc_is in
    let format : y.format ≡ f = goes.has.format ∙ got.begins.format in
    let begins : BeginsNow settings c p.streams y = record {
      fresh = x;
      begins = subst₂ (λ (s : ℕ) (g : Format). Begins settings s g x) (sym ssrc_is) (sym format) got.begins;
      goes = goes;
      unannounced = goes.tells ∙ got.begins.announced;
      starts = subst₂ (λ (s : ℕ) (g : Format). StartsWithDatagram s g.payload_type (c ∷ [])) (sym ssrc_is) (sym format)
          (now, datagram.items, got.told, sym (given_is false now datagram.items ssrc f.payload_type got.told answer got.answers));
      absent = subst₂ (λ (s : ℕ) (g : Format). IsAbsent s g.payload_type p.streams) (sym ssrc_is) (sym format) absent;
    } in
    let go : GoAll c p.streams p.streams = others_go c ssrc f.payload_type p.streams absent
    (λ (z : StreamState) (other : is_same z.ssrc z.format.payload_type ssrc f.payload_type ≡ false).
    silent_goes c z (given_other false now datagram.items z.ssrc z.format.payload_type ssrc f.payload_type got.told answer other got.answers) refl) in
    subst (λ (o : Port). Evolves settings c p.streams o.streams) (sym got.left)
    (added_evolves settings c (nat_lt (length p.streams) settings.max_streams) (position on_probation p.streams) p y (λ s t. refl) go known begins refl)

begins_if_evolve : (b : Bool) (settings : SessionSettings) (ssrc : ℕ) (f : Format) (now : Ticks) (micros : Option ℕ) (datagram : Vec ℕ) (p : Port) (answer : Result Arrival AllocError) (q : Port)
    → position (is_of ssrc f.payload_type) p.streams ≡ None → AreKnown p.streams → BeginsIf b settings ssrc f now datagram.items p answer q
    → Evolves settings (call_of now micros datagram answer) p.streams q.streams
begins_if_evolve false settings ssrc f now micros datagram p answer q none known got = stays_evolve settings now micros datagram p answer (Ok arrivals.Refused) q (λ now bytes s t. refl) got.0 got.1
begins_if_evolve true settings ssrc f now micros datagram p answer q none known (inl got) = begins_evolve settings ssrc f now micros datagram p answer q none known got
begins_if_evolve true settings ssrc f now micros datagram p (Ok arrival) q none known (inr got) =
    absurd (cc)
begins_if_evolve true settings ssrc f now micros datagram p (Err e) q none known (inr got) = stays_evolve settings now micros datagram p (Err e) (Err e) q (λ now bytes s t. refl) refl got.1

begins_or_feeds_evolve : (o : Option ℕ) (settings : SessionSettings) (ssrc : ℕ) (f : Format) (now : Ticks) (micros : Option ℕ) (datagram : Vec ℕ) (p : Port) (answer : Result Arrival AllocError) (q : Port)
    → position (is_of ssrc f.payload_type) p.streams ≡ o → AreApart p.streams → AreKnown p.streams → BeginsOrFeeds o settings ssrc f now datagram.items p answer q
    → Evolves settings (call_of now micros datagram answer) p.streams q.streams
begins_or_feeds_evolve None settings ssrc f now micros datagram p answer q none apart known got =
    begins_if_evolve (has_place settings.max_streams p) settings ssrc f now micros datagram p answer q none known got
begins_or_feeds_evolve (Some place) settings ssrc f now micros datagram p answer q there apart known got = feeds_evolve settings settings place now micros datagram p answer q apart got

-- streams that their sender left
continued_evolves : (b : Bool) (given : SessionSettings) (c : Call) (now wait ssrc : ℕ) (f : Format) (ss ts : List StreamState) → Evolves given c ss ts → Evolves given c ss (continued b now wait ssrc f ts)
continued_evolves true given c now wait ssrc f ss ts got =
    evolves_map given c (left_behind now wait ssrc f) ss ts (λ (s : StreamState). keeps_left (is_left_behind now wait ssrc f s) endings.Changed now s) got
continued_evolves false given c now wait ssrc f ss ts got = got

media_evolves : (settings : SessionSettings) (ssrc : ℕ) (f : Format) (now : Ticks) (micros : Option ℕ) (datagram : Vec ℕ) (p : Port) (answer : Result Arrival AllocError) (q : Port)
    → AreApart p.streams → AreKnown p.streams → TakesMedia settings ssrc f now datagram.items p answer q → Evolves settings (call_of now micros datagram answer) p.streams q.streams
media_evolves settings ssrc f now micros datagram p answer q apart known got =
    let mid : Port = got.received in
    subst (λ (o : Port). Evolves settings (call_of now micros datagram answer) p.streams o.streams) (sym got.left)
    (continued_evolves (is_ok answer && continues ssrc f mid.streams) settings (call_of now micros datagram answer) now.0 settings.bye_wait ssrc f p.streams mid.streams
    (begins_or_feeds_evolve (position (is_of ssrc f.payload_type) p.streams) settings ssrc f now micros datagram p answer mid refl apart known got.takes))

-- ---- receive: RTCP

noted_keeps : (now : Ticks) (ps : List Packet) (s : StreamState) → Keeps s (noted now ps s)
noted_keeps now ps s = record { ssrc_is = refl; format = refl; announced = refl; receiver = refl; edges = refl; ranges = refl; stage = λ is. is; finished = λ n got. got }

noted_evolves : (given : SessionSettings) (c : Call) (now : Ticks) (o : Result (List Packet) RtcpError) (ss ts : List StreamState) → Evolves given c ss ts → Evolves given c ss (noted_in now o ts)
noted_evolves given c now (Ok ps) ss ts got = evolves_map given c (noted now ps) ss ts (noted_keeps now ps) got
noted_evolves given c now (Err e) ss ts got = got

left_evolves : (given : SessionSettings) (c : Call) (who : ℕ → Bool) (why : Ending) (at : ℕ) (ss ts : List StreamState) → Evolves given c ss ts → Evolves given c ss (map (left_if who why at) ts)
left_evolves given c who why at ss ts got = evolves_map given c (left_if who why at) ss ts (λ (s : StreamState). keeps_left (who s.ssrc) why at s) got

told_keeps : (round_trip : Option ℕ) (s : StreamState) → Keeps s (with_round_trip round_trip s)
told_keeps round_trip s = record { ssrc_is = refl; format = refl; announced = refl; receiver = refl; edges = refl; ranges = trip_ranges round_trip s; stage = λ is. is; finished = λ n got. got }

told_evolves : (b : Bool) (given : SessionSettings) (c : Call) (round_trip : Option ℕ) (ss ts : List StreamState) → Evolves given c ss ts → Evolves given c ss (told_if b round_trip ts)
told_evolves true given c round_trip ss ts got = evolves_map given c (with_round_trip round_trip) ss ts (told_keeps round_trip) got
told_evolves false given c round_trip ss ts got = got

-- ---- receive

rtcp_evolves : (o : Result (List Packet) RtcpError) (settings : SessionSettings) (now : Ticks) (micros : Option ℕ) (datagram : Vec ℕ) (p : Port) (answer : Result Arrival AllocError) (q : Port)
    → TakesInAs (sorted_rtcp o) settings now datagram.items p answer q → Evolves settings (call_of now micros datagram answer) p.streams q.streams
rtcp_evolves (Err e) settings now micros datagram p answer q got = stays_evolve settings now micros datagram p answer (Ok arrivals.Malformed) q (λ now bytes s t. refl) got.0 got.1
rtcp_evolves (Ok packets) settings now micros datagram p answer q got =
    let c : Call = call_of now micros datagram (Ok arrivals.Rtcp) in
    let at : ℕ = min (now.0 + settings.bye_wait) (2 ^ 64 - 1) in
    let mid : Port = record p { streams = left_where (goodbye_at datagram.items) endings.Bye at (noted_at now datagram.items p.streams) } in
    let tells = exchanged_streams settings.feedback settings.tick_rate now.0 datagram.items mid in
    subst₂ (λ (a : Result Arrival AllocError) (o : Port). Evolves settings (call_of now micros datagram a) p.streams o.streams) (sym got.0) (sym got.1)
    (subst (λ (zs : List StreamState). Evolves settings c p.streams zs) (sym tells.2)
    (told_evolves tells.0 settings c tells.1 p.streams mid.streams
    (left_evolves settings c (goodbye_at datagram.items) endings.Bye at p.streams (noted_at now datagram.items p.streams)
    (noted_evolves settings c now (compound_at false datagram.items) p.streams p.streams (evolves_same settings c p.streams (λ s t. refl) (λ s t. refl))))))

again_evolves : (o : Option ℕ) (payload_type : ℕ) (settings : SessionSettings) (now : Ticks) (micros : Option ℕ) (datagram : Vec ℕ) (p : Port) (answer : Result Arrival AllocError) (q : Port) → AreApart p.streams
    → TakesInAs (sorted_retransmission o payload_type) settings now datagram.items p answer q → Evolves settings (call_of now micros datagram answer) p.streams q.streams
again_evolves None payload_type settings now micros datagram p answer q apart got = stays_evolve settings now micros datagram p answer (Ok arrivals.Unassociated) q (λ now bytes s t. refl) got.0 got.1
again_evolves (Some ssrc) payload_type settings now micros datagram p answer q apart got =
    feeds_if_evolve settings (position (is_of ssrc payload_type) p.streams) arrivals.Unassociated settings now micros datagram p answer q (λ now bytes s t. refl) apart got

-- by the first format that names the payload type, or by the types without media
no_format_evolves : (b : Bool) (dropped telephone : List ℕ) (ssrc payload_type : ℕ) (settings : SessionSettings) (now : Ticks) (micros : Option ℕ) (datagram : Vec ℕ) (p : Port) (answer : Result Arrival AllocError) (q : Port)
    → AreApart p.streams → (is_among payload_type dropped || is_among payload_type telephone) ≡ b
    → TakesInAs (sorted_by (role_by [] dropped telephone payload_type) settings ssrc) settings now datagram.items p answer q → Evolves settings (call_of now micros datagram answer) p.streams q.streams
no_format_evolves true dropped telephone ssrc payload_type settings now micros datagram p answer q apart is got =
    feeds_if_evolve settings (position (has_ssrc ssrc) p.streams) arrivals.Unknown settings now micros datagram p answer q (λ now bytes s t. refl) apart (rw is at got)
no_format_evolves false dropped telephone ssrc payload_type settings now micros datagram p answer q apart is got =
    let same = rw is at got in
    stays_evolve settings now micros datagram p answer (Ok arrivals.Unknown) q (λ now bytes s t. refl) same.0 same.1

format_evolves : (b c : Bool) (f : Format) (fs : List Format) (dropped telephone : List ℕ) (ssrc payload_type : ℕ) (settings : SessionSettings) (now : Ticks) (micros : Option ℕ) (datagram : Vec ℕ) (p : Port) (answer : Result Arrival AllocError) (q : Port)
    → AreApart p.streams → AreKnown p.streams → has_type f payload_type ≡ b → resends f payload_type ≡ c
    → TakesInAs (sorted_by (role_by (f ∷ fs) dropped telephone payload_type) settings ssrc) settings now datagram.items p answer q
    → (TakesInAs (sorted_by (role_by fs dropped telephone payload_type) settings ssrc) settings now datagram.items p answer q → Evolves settings (call_of now micros datagram answer) p.streams q.streams)
    → Evolves settings (call_of now micros datagram answer) p.streams q.streams
format_evolves true c f fs dropped telephone ssrc payload_type settings now micros datagram p answer q apart known has again got later =
    media_evolves settings ssrc f now micros datagram p answer q apart known (rw has at got)
format_evolves false true f fs dropped telephone ssrc payload_type settings now micros datagram p answer q apart known has again got later =
    again_evolves (stream_of ssrc settings.pairs.items) f.payload_type settings now micros datagram p answer q apart (rw (has, again) at got)
format_evolves false false f fs dropped telephone ssrc payload_type settings now micros datagram p answer q apart known has again got later = later (rw (has, again) at got)

role_evolves : (fs : List Format) (dropped telephone : List ℕ) (ssrc payload_type : ℕ) (settings : SessionSettings) (now : Ticks) (micros : Option ℕ) (datagram : Vec ℕ) (p : Port) (answer : Result Arrival AllocError) (q : Port)
    → AreApart p.streams → AreKnown p.streams → TakesInAs (sorted_by (role_by fs dropped telephone payload_type) settings ssrc) settings now datagram.items p answer q
    → Evolves settings (call_of now micros datagram answer) p.streams q.streams
role_evolves [] dropped telephone ssrc payload_type settings now micros datagram p answer q apart known got =
    no_format_evolves (is_among payload_type dropped || is_among payload_type telephone) dropped telephone ssrc payload_type settings now micros datagram p answer q apart refl got
role_evolves (f ∷ fs) dropped telephone ssrc payload_type settings now micros datagram p answer q apart known got =
    format_evolves (has_type f payload_type) (resends f payload_type) f fs dropped telephone ssrc payload_type settings now micros datagram p answer q apart known refl refl got
    (role_evolves fs dropped telephone ssrc payload_type settings now micros datagram p answer q apart known)

rtp_evolves : (o : Result RtpPacket RtpError) (settings : SessionSettings) (now : Ticks) (micros : Option ℕ) (datagram : Vec ℕ) (p : Port) (answer : Result Arrival AllocError) (q : Port)
    → AreApart p.streams → AreKnown p.streams → TakesInAs (sorted_rtp settings o) settings now datagram.items p answer q → Evolves settings (call_of now micros datagram answer) p.streams q.streams
rtp_evolves (Err e) settings now micros datagram p answer q apart known got = stays_evolve settings now micros datagram p answer (Ok arrivals.Malformed) q (λ now bytes s t. refl) got.0 got.1
rtp_evolves (Ok packet) settings now micros datagram p answer q apart known got =
    role_evolves settings.formats.items settings.no_media.items settings.telephone_events.items packet.header.ssrc packet.header.payload_type settings now micros datagram p answer q apart known got

bytes_evolve : (b : Bool) (settings : SessionSettings) (now : Ticks) (micros : Option ℕ) (datagram : Vec ℕ) (p : Port) (answer : Result Arrival AllocError) (q : Port) → AreApart p.streams → AreKnown p.streams
    → is_rtcp datagram.items ≡ b → TakesIn settings now datagram.items p answer q → Evolves settings (call_of now micros datagram answer) p.streams q.streams
bytes_evolve true settings now micros datagram p answer q apart known is got = rtcp_evolves (compound_at false datagram.items) settings now micros datagram p answer q (rw is at got)
bytes_evolve false settings now micros datagram p answer q apart known is got = rtp_evolves (rtp_at datagram.items) settings now micros datagram p answer q apart known (rw is at got)

pub receive_evolves : (settings : SessionSettings) (now : Ticks) (micros : Option ℕ) (datagram : Vec ℕ) (p : Port) (answer : Result Arrival AllocError) (q : Port)
    → AreApart p.streams → AreKnown p.streams → TakesIn settings now datagram.items p answer q → Evolves settings (call_of now micros datagram answer) p.streams q.streams
receive_evolves settings now micros datagram p answer q apart known got = bytes_evolve (is_rtcp datagram.items) settings now micros datagram p answer q apart known refl got

-- memory ran out: nothing has changed
pub failed_evolves : (settings : SessionSettings) (now : Ticks) (micros : Option ℕ) (datagram : Vec ℕ) (answer : Result Arrival AllocError) (ss : List StreamState) → IsErr answer → Evolves settings (call_of now micros datagram answer) ss ss
failed_evolves settings now micros datagram (Ok arrival) ss fails = absurd (cc)
failed_evolves settings now micros datagram (Err e) ss fails = evolves_same settings (call_of now micros datagram (Err e)) ss (λ s t. refl) (λ s t. refl)

-- ---- poll

-- the event is not of the stream
abbrev IsOther : Ticks → Option Event → StreamState → Type 0
IsOther now event x = (events_by x.ssrc x.format.payload_type event ≡ []) × (released_by x.ssrc x.format.payload_type now event ≡ [])

-- a stream that was asked and has no event
quiet_goes : (now : Ticks) (event : Option Event) (kept : List StreamState → List StreamState) (x y : StreamState) → IsOther now event x → Stepped now x None kept y → Goes (poll_of now event) x y
quiet_goes now event kept x y other s = record {
  has = record { ssrc_is = s.ssrc_is; format = s.format; ranges = s.ranges; part = s.part; alone = s.alone; is_part = record { made = s.made x.ssrc x.format (own_waits x) event; one_pop = s.one_pop; one_end = s.one_end; one_report = omega (arith, s.no_report); pair_first = polled_first x.ssrc x.format (own_waits x) now event s.part (s.made x.ssrc x.format (own_waits x) event); follow_each = polled_each x.ssrc x.format (own_waits x) now event s.part (s.made x.ssrc x.format (own_waits x) event); shows = s.shows ∙ sym other.1 }; finishes_it = s.finishes_it; descriptor = ap (λ (e : Edges). e.descriptor) s.edges; edged = edges_stay (edge_rules_of x) s.part x.edges.followed x.edges y.edges s.edges (polled_edges x.ssrc x.format (own_waits x) now event (edge_rules_of x) x.edges.followed s.part (s.made x.ssrc x.format (own_waits x) event)) };
  tells = by_kind s.kind;
  known = s.known;
}
  where
    by_kind : Kind x.announced y.announced x.ssrc x.format.payload_type None kept y → AreOfOne x.announced (events_by x.ssrc x.format.payload_type event) y.announced
    by_kind (inl stays) = subst (λ (es : List Event). AreOfOne x.announced es y.announced) (sym other.0) stays.0
    by_kind (inr ends) = let none : [] ≡ events.Ended x.ssrc x.format.payload_type ends.0 ∷ [] = ends.2 in absurd (cc)

quiet_go : (now : Ticks) (idle : ℕ) (event : Option Event) (xs ys : List StreamState) → ((x : StreamState) → IsOther now event x) → AreQuiet now idle xs ys → GoAll (poll_of now event) xs ys
quiet_go now idle event [] [] other got = tt
quiet_go now idle event [] (y ∷ ys) other got = absurd got
quiet_go now idle event (x ∷ xs) [] other got = absurd got
quiet_go now idle event (x ∷ xs) (y ∷ ys) other got = (quiet_goes now event _ x y (other x) (steps_stepped now idle x _ y got.0), quiet_go now idle event xs ys other got.1)

-- a stream is reported at the end of a poll whose event is the report
reported_goes : (now : Ticks) (event : Option Event) (x y : StreamState) (b is_new : Bool) → IsReportEvent (answers.Polled event) → (goes : Goes (poll_of now event) x y) → many_reports goes.has.part ≡ 0
    → Goes (poll_of now event) x (reported_if b is_new y)
reported_goes now event x y false is_new told goes none = record {
  has = record {
    ssrc_is = goes.has.ssrc_is;
    format = goes.has.format;
    ranges = goes.has.ranges;
    part = goes.has.part;
    alone = goes.has.alone;
    is_part = goes.has.is_part;
    finishes_it = goes.has.finishes_it;
    descriptor = goes.has.descriptor;
    edged = goes.has.edged;
  };
  tells = goes.tells;
  known = goes.known;
}
reported_goes now event x y true is_new told goes none = record {
  has = record {
    ssrc_is = goes.has.ssrc_is;
    format = goes.has.format;
    ranges = goes.has.ranges;
    part = goes.has.part ++ reports ∷ [];
    alone = runs_append goes.has.part (reports ∷ []) x.receiver y.receiver (reported_by y).receiver goes.has.alone ((reported_by y).receiver, refl, refl);
    is_part = record {
      made = made;
      one_pop = omega (arith, pops_append goes.has.part (reports ∷ []), goes.has.is_part.one_pop);
      one_end = omega (arith, finishes_append goes.has.part (reports ∷ []), goes.has.is_part.one_end);
      one_report = omega (arith, reports_append goes.has.part (reports ∷ []), none);
      pair_first = polled_first x.ssrc x.format (own_waits x) now event (goes.has.part ++ reports ∷ []) made;
      follow_each = polled_each x.ssrc x.format (own_waits x) now event (goes.has.part ++ reports ∷ []) made;
      shows = shown_append goes.has.part (reports ∷ []) ∙ (append-nil (shown goes.has.part) ∙ goes.has.is_part.shows);
    };
    finishes_it = λ n was. subst (λ (m : ℕ). FinishedBy y.stage (n + m)) (omega (arith, finishes_append goes.has.part (reports ∷ []))) (goes.has.finishes_it n was);
    descriptor = goes.has.descriptor;
    edged = edges_append (edge_rules_of x) x.edges.followed goes.has.part (reports ∷ []) y.edges.followed y.edges.followed goes.has.edged (tt, refl);
  };
  tells = goes.tells;
  known = goes.known;
}
  where
    made : AreMadeBy x.ssrc x.format (own_waits x) (poll_of now event) (goes.has.part ++ reports ∷ [])
    made = made_append x.ssrc x.format (own_waits x) (poll_of now event) goes.has.part (reports ∷ []) goes.has.is_part.made (told, tt)

-- streams that were asked and have no event are reported
reported_go : (now : Ticks) (idle : ℕ) (event : Option Event) (is_new : Bool) (room : ℕ) (xs ys : List StreamState) → IsReportEvent (answers.Polled event) → ((x : StreamState) → IsOther now event x)
    → AreQuiet now idle xs ys → GoAll (poll_of now event) xs (all_reported is_new room ys)
unfolding quiet_goes
reported_go now idle event is_new room [] [] told other got = tt
reported_go now idle event is_new room [] (y ∷ ys) told other got = absurd got
reported_go now idle event is_new room (x ∷ xs) [] told other got = absurd got
reported_go now idle event is_new room (x ∷ xs) (y ∷ ys) told other got =
    let s = steps_stepped now idle x _ y got.0 in (
      reported_goes now event x y (is_chosen is_new room y ys) is_new told (quiet_goes now event _ x y (other x) s) s.no_report,
      reported_go now idle event is_new (room_after (is_chosen is_new room y ys) room) xs ys told other got.1,
    )

-- the streams in front of the one with an event, and those after it
front_go : (now : Ticks) (idle : ℕ) (event : Event) (front quiet : List StreamState) (x : StreamState) (rest : List StreamState) → AreApart (front ++ x ∷ rest)
    → ((z : StreamState) → is_same z.ssrc z.format.payload_type x.ssrc x.format.payload_type ≡ false → IsOther now (Some event) z) → AreQuiet now idle front quiet
    → GoAll (poll_of now (Some event)) front quiet
front_go now idle event [] [] x rest apart others got = tt
front_go now idle event [] (y ∷ ys) x rest apart others got = absurd got
front_go now idle event (z ∷ zs) [] x rest apart others got = absurd got
front_go now idle event (z ∷ zs) (y ∷ ys) x rest apart others got = (
  quiet_goes now (Some event) _ z y (others z (absent_middle z.ssrc z.format.payload_type zs x rest apart.0)) (steps_stepped now idle z _ y got.0),
  front_go now idle event zs ys x rest apart.1 others got.1,
)

rest_absent : (front : List StreamState) (x : StreamState) (rest : List StreamState) → AreApart (front ++ x ∷ rest) → IsAbsent x.ssrc x.format.payload_type rest
rest_absent [] x rest apart = apart.0
rest_absent (z ∷ zs) x rest apart = rest_absent zs x rest apart.1

-- the fate of the stream with the event
fate_of : (now : Ticks) (event : Event) (kept : List StreamState → List StreamState) (x y : StreamState) → Stepped now x (Some event) kept y
    → (f : Option StreamState) × IsFate (poll_of now (Some event)) x f × ((rest : List StreamState) → kept rest ≡ present (f ∷ all_stay rest))
fate_of now event kept x y s = by_kind s.kind
  where
    has : HasPart (poll_of now (Some event)) x y
    has = record { ssrc_is = s.ssrc_is; format = s.format; ranges = s.ranges; part = s.part; alone = s.alone; is_part = record { made = s.made x.ssrc x.format (own_waits x) (Some event); one_pop = s.one_pop; one_end = s.one_end; one_report = omega (arith, s.no_report); pair_first = polled_first x.ssrc x.format (own_waits x) now (Some event) s.part (s.made x.ssrc x.format (own_waits x) (Some event)); follow_each = polled_each x.ssrc x.format (own_waits x) now (Some event) s.part (s.made x.ssrc x.format (own_waits x) (Some event)); shows = s.shows }; finishes_it = s.finishes_it; descriptor = ap (λ (e : Edges). e.descriptor) s.edges; edged = edges_stay (edge_rules_of x) s.part x.edges.followed x.edges y.edges s.edges (polled_edges x.ssrc x.format (own_waits x) now (Some event) (edge_rules_of x) x.edges.followed s.part (s.made x.ssrc x.format (own_waits x) (Some event))) }

    by_kind : Kind x.announced y.announced x.ssrc x.format.payload_type (Some event) kept y
        → (f : Option StreamState) × IsFate (poll_of now (Some event)) x f × ((rest : List StreamState) → kept rest ≡ present (f ∷ all_stay rest))
    by_kind (inl stays) =
        (Some y, record { has = has; tells = stays.0; known = s.known }, λ rest. stays.1 rest ∙ ap (λ (zs : List StreamState). y ∷ zs) (sym (present_all rest)))
    by_kind (inr ends) = (None, inr (record { after = y; why = ends.0; has = has; announced = ends.1; tells = ends.2 }), λ rest. ends.3 rest ∙ sym (present_all rest))

pub tells_evolve : (given : SessionSettings) (now : Ticks) (idle : ℕ) (p : Port) (event : Event) (q : Port) → AreApart p.streams → TakesTurn now idle p (Some event) q
    → Evolves given (poll_of now (Some event)) p.streams q.streams
tells_evolve given now idle p event q apart got =
    let c : Call = poll_of now (Some event) in
    let x : StreamState = got.stream in
    let y : StreamState = got.stepped in
    let kept : List StreamState → List StreamState = λ rest. kept_after got.step y rest in
    let s : Stepped now x (Some event) kept y = subst (λ (o : Option Event). Stepped now x o kept y) (sym got.tells) (steps_stepped now idle x got.step y got.steps) in
    let here : AreApart (got.front ++ x ∷ got.rest) = subst AreApart got.there apart in
    let others : (z : StreamState) → is_same z.ssrc z.format.payload_type x.ssrc x.format.payload_type ≡ false → IsOther now (Some event) z =
    λ z other. s.own z.ssrc z.format.payload_type other in
    let fate = fate_of now event kept x y s in
    let first : AreFates c got.front (all_stay got.quiet) = all_fates c got.front got.quiet (front_go now idle event got.front got.quiet x got.rest here others got.are_quiet) in
    let last : AreFates c got.rest (all_stay got.rest) = all_fates c got.rest got.rest
    (others_go c x.ssrc x.format.payload_type got.rest (rest_absent got.front x got.rest here) (λ z other. silent_goes c z (others z other).1 (others z other).0)) in
    subst₂ (λ (ss : List StreamState) (o : Port). Evolves given c ss o.streams) (sym got.there) (sym got.left)
    (record {
      fates = all_stay got.quiet ++ fate.0 ∷ all_stay got.rest;
      are_fates = fates_append c got.front (all_stay got.quiet) (x ∷ got.rest) (fate.0 ∷ all_stay got.rest) first (fate.1, last);
      fresh = [];
      are_fresh = tt;
      left = sym (append-nil (present (all_stay got.quiet ++ fate.0 ∷ all_stay got.rest))
          ∙ (present_append (all_stay got.quiet) (fate.0 ∷ all_stay got.rest)
          ∙ ap₂ (λ (a b : List StreamState). a ++ b) (present_all got.quiet) (sym (fate.2 got.rest))));
      silent = λ ssrc payload_type absent. (s.own ssrc payload_type (absent_middle ssrc payload_type got.front x got.rest absent)).0;
    })

pub quiet_evolves : (given : SessionSettings) (now : Ticks) (idle : ℕ) (event : Option Event) (ss ts : List StreamState) → ((x : StreamState) → IsOther now event x) → IsSilent (poll_of now event)
    → AreQuiet now idle ss ts → Evolves given (poll_of now event) ss ts
quiet_evolves given now idle event ss ts other silent got = evolves_all given (poll_of now event) ss ts silent (quiet_go now idle event ss ts other got)

pub reported_evolves : (given : SessionSettings) (now : Ticks) (idle : ℕ) (event : Option Event) (is_new : Bool) (room : ℕ) (lost : Bool) (trip : Option ℕ) (ss ts : List StreamState) → IsReportEvent (answers.Polled event)
    → ((x : StreamState) → IsOther now event x) → IsSilent (poll_of now event) → AreQuiet now idle ss ts → Evolves given (poll_of now event) ss (told_if lost trip (all_reported is_new room ts))
reported_evolves given now idle event is_new room lost trip ss ts told other silent got =
    told_evolves lost given (poll_of now event) trip ss (all_reported is_new room ts)
    (evolves_all given (poll_of now event) ss (all_reported is_new room ts) silent (reported_go now idle event is_new room ss ts told other got))

-- ---- the other calls

abbrev plain_call : SessionStep → StepAnswer → Call
plain_call step answer = record { step = step; answer = answer }

pub end_evolves : (given : SessionSettings) (now : Ticks) (ssrc : ℕ) (who : ℕ → Bool) (ss : List StreamState) → Evolves given (plain_call (calls.End now ssrc) answers.Done) ss (map (left_if who endings.ByCall now.0) ss)
end_evolves given now ssrc who ss =
    left_evolves given (plain_call (calls.End now ssrc) answers.Done) who endings.ByCall now.0 ss ss (evolves_same given (plain_call (calls.End now ssrc) answers.Done) ss (λ s t. refl) (λ s t. refl))

pub finish_evolves : (given : SessionSettings) (now : Ticks) (who : ℕ → Bool) (ss : List StreamState) → Evolves given (plain_call (calls.Finish now) answers.Done) ss (map (left_if who endings.ByCall now.0) ss)
finish_evolves given now who ss =
    left_evolves given (plain_call (calls.Finish now) answers.Done) who endings.ByCall now.0 ss ss (evolves_same given (plain_call (calls.Finish now) answers.Done) ss (λ s t. refl) (λ s t. refl))

waiting_goes : (ssrc payload_type : ℕ) (limits : WaitLimits) (b : Bool) (s : StreamState) → is_of ssrc payload_type s ≡ b → Goes (plain_call (calls.SetWaitLimits ssrc payload_type limits) answers.Done) s (waiting_when b limits s)
waiting_goes ssrc payload_type limits false s is = silent_goes (plain_call (calls.SetWaitLimits ssrc payload_type limits) answers.Done) s refl refl
waiting_goes ssrc payload_type limits true s is = record {
  has = record {
    ssrc_is = refl;
    format = refl;
    ranges = refl;
    part = waits limits ∷ [];
    alone = ((waiting_when true limits s).receiver, refl, refl);
    is_part = record { made = ((same_sym s.ssrc s.format.payload_type ssrc payload_type ∙ is, refl), tt); one_pop = omega arith; one_end = omega arith; one_report = omega arith; pair_first = tt; follow_each = (refl, refl); shows = refl };
    finishes_it = none_finished s.stage s.stage (waits limits ∷ []) refl refl;
    descriptor = refl;
    edged = (tt, refl);
  };
  tells = refl;
  known = λ known. known;
}

pub waits_evolve : (given : SessionSettings) (ssrc payload_type : ℕ) (limits : WaitLimits) (ss : List StreamState)
    → Evolves given (plain_call (calls.SetWaitLimits ssrc payload_type limits) answers.Done) ss (map (waiting_if ssrc payload_type limits) ss)
waits_evolve given ssrc payload_type limits ss =
    let c : Call = plain_call (calls.SetWaitLimits ssrc payload_type limits) answers.Done in
    evolves_all given c ss (map (waiting_if ssrc payload_type limits) ss) (λ s t. refl)
    (mapped_all c (waiting_if ssrc payload_type limits) ss (λ (s : StreamState). waiting_goes ssrc payload_type limits (is_of ssrc payload_type s) s refl))

-- a call that gives the streams of an SSRC their retransmissions by these pairs
abbrev pub IsAboutPair : Call → ℕ → List SsrcPair → Type 0
IsAboutPair c ssrc named =
    (s : StreamState) (given : List ReceiverCall) → (s.ssrc == ssrc) ≡ true → IsMadeAs s.ssrc s.format (own_waits s) c.step c.answer given (pairs (retransmission_for s.ssrc s.format.retransmission named))

pub paired_goes : (c : Call) (ssrc : ℕ) (named : List SsrcPair) (b : Bool) (s : StreamState) → (s.ssrc == ssrc) ≡ b → IsAboutPair c ssrc named → events_in s.ssrc s.format.payload_type c.answer ≡ []
    → shown_in s.ssrc s.format.payload_type c ≡ [] → Goes c s (paired_when b named s)
paired_goes c ssrc named false s is about silent nothing = silent_goes c s nothing silent
paired_goes c ssrc named true s is about silent nothing = record {
  has = record {
    ssrc_is = refl;
    format = refl;
    ranges = refl;
    part = pairs (paired_when true named s).receiver.stream.retransmission ∷ [];
    alone = ((paired_when true named s).receiver, refl, refl);
    is_part = record {
      made = (about s (shown_in s.ssrc s.format.payload_type c) is, tt);
      one_pop = omega arith;
      one_end = omega arith;
      one_report = omega arith;
      pair_first = tt;
      follow_each = (refl, refl);
      shows = sym nothing;
    };
    finishes_it = none_finished s.stage s.stage (pairs (paired_when true named s).receiver.stream.retransmission ∷ []) refl refl;
    descriptor = refl;
    edged = (tt, refl);
  };
  tells = subst (λ (es : List Event). AreOfOne s.announced es s.announced) (sym silent) refl;
  known = λ known. known;
}

pub pairs_evolve : (given : SessionSettings) (c : Call) (ssrc : ℕ) (named : List SsrcPair) (ss : List StreamState) → IsAboutPair c ssrc named → IsSilent c → ShowsNothing c → Evolves given c ss (map (paired_if ssrc named) ss)
pairs_evolve given c ssrc named ss about silent nothing =
    evolves_all given c ss (map (paired_if ssrc named) ss) silent (mapped_all c (paired_if ssrc named) ss (λ (s : StreamState). paired_goes c ssrc named (s.ssrc == ssrc) s refl about (silent s.ssrc s.format.payload_type) (nothing s.ssrc s.format.payload_type)))

-- the stream at a place
pub at_place : (ss : List StreamState) (place : ℕ) (s d : StreamState) → slice_get ss place ≡ Some s → get_or ss place d ≡ s
at_place [] place s d there = absurd (cc)
at_place (x ∷ xs) zero s d there = cc
at_place (x ∷ xs) (suc i) s d there = at_place xs i s d there

abbrev report_call : Ticks → ℕ → ℕ → Option ReportBlock → Call
report_call now ssrc payload_type block = plain_call (calls.Report now ssrc payload_type) (answers.Reported block)

one_reported : (now : Ticks) (ssrc payload_type : ℕ) (block : Option ReportBlock) (s : StreamState) → is_of ssrc payload_type s ≡ true → Goes (report_call now ssrc payload_type block) s (reported_by s)
one_reported now ssrc payload_type block s is = record {
  has = record {
    ssrc_is = refl;
    format = refl;
    ranges = refl;
    part = reports ∷ [];
    alone = ((reported_by s).receiver, refl, refl);
    is_part = record { made = (same_sym s.ssrc s.format.payload_type ssrc payload_type ∙ is, tt); one_pop = omega arith; one_end = omega arith; one_report = omega arith; pair_first = tt; follow_each = (refl, refl); shows = refl };
    finishes_it = none_finished s.stage s.stage (reports ∷ []) refl refl;
    descriptor = refl;
    edged = (tt, refl);
  };
  tells = refl;
  known = λ known. known;
}

pub report_evolves : (o : Option ℕ) (given : SessionSettings) (now : Ticks) (ssrc payload_type tick_rate : ℕ) (p : Port) (block : Option ReportBlock) (q : Port) → AreApart p.streams
    → position (is_of ssrc payload_type) p.streams ≡ o → ReportsIf o tick_rate now.0 p block q → Evolves given (report_call now ssrc payload_type block) p.streams q.streams
report_evolves None given now ssrc payload_type tick_rate p block q apart found got =
    subst (λ (o : Port). Evolves given (report_call now ssrc payload_type block) p.streams o.streams) (sym got.1)
    (evolves_same given (report_call now ssrc payload_type block) p.streams (λ s t. refl) (λ s t. refl))
report_evolves (Some place) given now ssrc payload_type tick_rate p block q apart found got =
    let c : Call = report_call now ssrc payload_type block in
    let here = position-Some (is_of ssrc payload_type) p.streams place got.stream found in
    let is : is_of ssrc payload_type got.stream ≡ true = subst (λ (s : StreamState). is_of ssrc payload_type s ≡ true) (at_place p.streams place got.stream got.stream got.there) here.1 in
    subst (λ (o : Port). Evolves given c p.streams o.streams) (sym got.left)
    (evolves_all given c p.streams (slice_set p.streams place (reported_by got.stream)) (λ s t. refl)
    (one_goes c p.streams place got.stream (reported_by got.stream) got.there apart (one_reported now ssrc payload_type block got.stream is)
    (λ (z : StreamState) (other : is_same z.ssrc z.format.payload_type got.stream.ssrc got.stream.format.payload_type ≡ false). silent_goes c z refl refl)))

-- ---- a keyframe that is asked for

abbrev keyframe_call : ℕ → KeyframeAnswer → Call
keyframe_call ssrc asked = plain_call (calls.RequestKeyframe ssrc) (answers.KeyframeAsked asked)

-- its receiver stays as it is
asked_goes : (ssrc : ℕ) (asked : KeyframeAnswer) (ending : Bool) (s : StreamState) → Goes (keyframe_call ssrc asked) s (asked_unless ending s)
asked_goes ssrc asked true s = silent_goes (keyframe_call ssrc asked) s refl refl
asked_goes ssrc asked false s = record {
  has = record {
    ssrc_is = refl;
    format = refl;
    ranges = ap (λ (range : Option WaitRange). record { by_trip = range; by_age = age_range s.late }) (asked_range s.feedback);
    part = [];
    alone = refl;
    is_part = record { made = tt; one_pop = omega arith; one_end = omega arith; one_report = omega arith; pair_first = tt; follow_each = refl; shows = refl };
    finishes_it = none_finished s.stage s.stage [] refl refl;
    descriptor = refl;
    edged = refl;
  };
  tells = refl;
  known = λ known. known;
}

asked_evolves : (x : Option StreamState) (given : SessionSettings) (ssrc place : ℕ) (asked : KeyframeAnswer) (ss : List StreamState) → AreApart ss → slice_get ss place ≡ x
    → Evolves given (keyframe_call ssrc asked) ss (asked_with x place ss)
asked_evolves None given ssrc place asked ss apart there = evolves_same given (keyframe_call ssrc asked) ss (λ s t. refl) (λ s t. refl)
asked_evolves (Some s) given ssrc place asked ss apart there =
    let c : Call = keyframe_call ssrc asked in
    evolves_all given c ss (slice_set ss place (asked_for s)) (λ s t. refl)
    (one_goes c ss place s (asked_for s) there apart (asked_goes ssrc asked (is_ending s.stage) s)
    (λ (z : StreamState) (other : is_same z.ssrc z.format.payload_type s.ssrc s.format.payload_type ≡ false). silent_goes c z refl refl))

pub keyframe_evolves : (o : Option ℕ) (given : SessionSettings) (ssrc : ℕ) (asked : KeyframeAnswer) (p : Port) → AreApart p.streams
    → Evolves given (keyframe_call ssrc asked) p.streams (asked_among o p).streams
keyframe_evolves None given ssrc asked p apart = evolves_same given (keyframe_call ssrc asked) p.streams (λ s t. refl) (λ s t. refl)
keyframe_evolves (Some place) given ssrc asked p apart = asked_evolves (slice_get p.streams place) given ssrc place asked p.streams apart refl
