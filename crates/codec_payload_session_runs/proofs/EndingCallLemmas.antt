-- Each call of a session, and why its streams end.
use Rattle.std.proofs.Common.{◌≡◌, ◌∙◌, ◌⊎◌, inl, inr, refl, sym, ap, ap₂, subst, subst₂, ℕ, zero, suc, ◌+◌, ◌-◌, ◌^◌, ◌==◌, ◌&&◌, not, cond, min, Bool, true, false, List, [], ◌∷◌, ◌++◌, Option, Some, None, is_some, Result, Ok, Err, append_assoc, append-nil, slice_get, slice_set, eqb-true, is_ok, arith}
use Rattle.std.specs.Global.{Vec}
use Rattle.std.specs.List.{position, position_from}
use Rattle.std.specs.Prelude.{IsErr, is_ok, nat_le}
use Rattle.std.specs.declared.alloc.AllocError.{AllocError}
use Rattle.std.proofs.lemmas.Bool.{and_parts}
use Rattle.std.proofs.lemmas.Iterator.Adapters.{position_from-zero}
use Rattle.std.proofs.lemmas.List.Quantifiers.{position-Some}
use Rattle.codec_payload_base.specs.declared.wire.Ticks.{Ticks}
use Rattle.codec_payload_jitter.specs.declared.outcome.Outcome.{Outcome}
use Rattle.codec_payload_jitter.specs.declared.waiting.WaitLimits.{WaitLimits}
use Rattle.codec_payload_receiver.specs.Sessions.{Session as Receiver}
use Rattle.codec_payload_receiver.specs.declared.receiver.ReceiveError.{ReceiveError}
use Rattle.codec_payload_rtcp.specs.RtcpPackets.{Packet}
use Rattle.codec_payload_rtcp.specs.RtcpReading.{compound_at}
use Rattle.codec_payload_rtcp.specs.declared.packet.RtcpError.{RtcpError}
use Rattle.codec_payload_rtp.specs.RtpReading.{rtp_at}
use Rattle.codec_payload_session_requests.specs.Late.{limit_by}
use Rattle.codec_payload_session.specs.Keyframes.{asked_among, asked_with}
use Rattle.codec_payload_session.specs.Accepting.{Accepts, noted_in, time_for}
use Rattle.codec_payload_session_stream.specs.Arrivals.{Arrives, arrival_of}
use Rattle.codec_payload_session.specs.Arrivals.{BeginsIf, BeginsOrFeeds, BeginsWith, Feeds, FeedsIf, Port, TakesInAs, TakesMedia, exchanged_by, goodbye_at, has_place, leaving, left_where, without, has_ssrc, begun_in}
use Rattle.codec_payload_session.specs.Associations.{AssociatesBy, pair_at}
use Rattle.codec_payload_session_stream.specs.Changes.{continued, continues, is_left_behind, is_playing, plays, takes_turns}
use Rattle.codec_payload_session.specs.Pairs.{Pairs}
use Rattle.codec_payload_session_stream.specs.Pairs.{paired_if, paired_when, paired_where, with_pair}
use Rattle.codec_payload_session.specs.Polls.{GoesOn, PollsAfter, SendsAfter, TurnsOrReports}
use Rattle.codec_payload_session_stream.specs.Events.{report_event, transport_event}
use Rattle.codec_payload_session.specs.Ports.{Receives, Session, everyone, new_session, ReportsIf as ReportsPlace}
use Rattle.codec_payload_session.specs.Reporting.{all_reported, is_chosen, room_after}
use Rattle.codec_payload_session_stream.specs.Reports.{reported_if, noted, noted_at, reported_by, noted_in as clocks_in}
use Rattle.codec_payload_session_formats.specs.Names.{names_after}
use Rattle.codec_payload_session_requests.specs.Requests.{heard_by, number_at, wait_by}
use Rattle.codec_payload_session_formats.specs.Sorting.{Sorted, sorted_at}
use Rattle.codec_payload_session_formats.specs.Sorting as sorted
use Rattle.codec_payload_session_stream.specs.Streams.{Takes, accepted_after, heard_unless, is_accepted, is_no_memory, is_of, late_followed, late_noted, payload_size, received, stage_after, waiting_for, waiting_if, waiting_when, asked_for, asked_unless, is_ending, with_edges, probed}
use Rattle.codec_payload_session_stream.specs.Telephone.{event_of as telephone_event}
use Rattle.codec_payload_session_stream.specs.Turns.{AreQuiet, event_of}
use Rattle.codec_payload_session.specs.Turns.{TakesTurn, kept_after}
use Rattle.codec_payload_session_stream.specs.Units.{Event, Step}
use Rattle.codec_payload_session_formats.specs.declared.formats.Format.{Format}
use Rattle.codec_payload_session_formats.specs.declared.formats.SessionSettings.{SessionSettings}
use Rattle.codec_payload_session_formats.specs.declared.formats.SsrcPair.{SsrcPair}
use Rattle.codec_payload_session_stream.specs.declared.arrival.Arrival.{Arrival}
use Rattle.codec_payload_session_stream.specs.declared.arrival.Arrival.TheVariants as arrivals
use Rattle.codec_payload_session_stream.specs.declared.events.Event.TheVariants as events
use Rattle.codec_payload_session_stream.specs.declared.stream.Ending.{Ending}
use Rattle.codec_payload_session_stream.specs.declared.stream.Ending.TheVariants as endings
use Rattle.codec_payload_session_stream.specs.declared.stream.Stage.{Stage}
use Rattle.codec_payload_session_stream.specs.declared.stream.Stage.TheVariants as stages
use Rattle.codec_payload_session_stream.specs.declared.stream.StreamState.{StreamState}
use Rattle.codec_payload_session_runs.proofs.AloneLemmas.{poll_of}
use Rattle.codec_payload_session_formats.specs.declared.formats.FeedbackSettings.{FeedbackSettings}
use Rattle.codec_payload_session_stream.specs.Trips.{with_round_trip}
use Rattle.codec_payload_session_runs.proofs.TripLemmas.{exchanged_streams, told_if}
use Rattle.codec_payload_session_runs.proofs.EndingLemmas.{began_more, AllJustified, AllMoved, Asked, Justified, Moved, Reason, Same, all_left, all_more, all_silent, cause_more, ending_of, itself, justified_append, justified_more, justified_parts, justified_remove, justified_same, moved_same, one_moved, others_moved, same_justified, steps_asked}
use Rattle.codec_payload_session_runs.proofs.CallLemmas.{at_place}
use Rattle.codec_payload_session_runs.proofs.FateLemmas.{AreApart, found_none, of_is, number_sym}
use Rattle.codec_payload_session_runs.proofs.ReachedLemmas.{AllAloneIn, AloneIn, Reached, by_streams, reached, reached_more, reached_new, runs_split, Same as SameOrReported}
use Rattle.codec_payload_session_runs.proofs.PollLemmas.{IsOwn, Kind, steps_stepped}
use Rattle.codec_payload_session_runs.proofs.StreamLemmas.{FinishedBy, call_of, given_is, same_is}
use Rattle.codec_payload_session_runs.specs.Endings.{BeganWith, EachFinishHasCause, EndsHaveCauses, FinishHasCause, FinishesHaveCauses, HasCause, IsCause, last_given, names_other, or_before, time_given, time_named}
use Rattle.codec_payload_session_runs.specs.Lives.{IsAbsent, StartsWithDatagram, ending_poll, is_same, many_finishes, one_event}
use Rattle.codec_payload_stream_edges.specs.declared.followed.Followed.{Followed}
use Rattle.codec_payload_session_runs.specs.SessionRuns.{AddsPair, Call, Does, Runs}
use Rattle.codec_payload_session_runs.specs.declared.run.SessionStep.{SessionStep}
use Rattle.codec_payload_session_runs.specs.declared.run.SessionStep.TheVariants as calls
use Rattle.codec_payload_session_runs.specs.declared.run.StepAnswer.{StepAnswer}
use Rattle.codec_payload_session_runs.specs.declared.run.StepAnswer.TheVariants as answers

-- ---- a datagram for a stream

waiting_same : (o : Option ℕ) (s : StreamState) → Same s (waiting_for o s)
waiting_same None s = itself s
waiting_same (Some wait) s = record { ssrc_is = refl; format = refl; last = refl; stage = refl; accepted = refl }

pub received_same : (accepted : Bool) (now : ℕ) (bytes : List ℕ) (r : Receiver) (s : StreamState) → Same s (received now bytes accepted r s)
received_same true now bytes r s =
    let w = waiting_same (wait_by (heard_by now (number_at s.format bytes) s.feedback)) (record s { receiver = r; feedback = heard_by now (number_at s.format bytes) s.feedback; names = names_after s.name_ids bytes s.names }) in
    record { ssrc_is = w.ssrc_is; format = w.format; last = w.last; stage = w.stage; accepted = w.accepted }
received_same false now bytes r s = record { ssrc_is = refl; format = refl; last = refl; stage = refl; accepted = refl }

pub late_same : (b : Bool) (now : ℕ) (bytes : List ℕ) (s : StreamState) → Same s (late_followed b now bytes s)
late_same true now bytes s =
    let w = waiting_same (limit_by (late_noted now bytes s).late) (late_noted now bytes s) in
    record { ssrc_is = w.ssrc_is; format = w.format; last = w.last; stage = w.stage; accepted = w.accepted }
late_same false now bytes s = itself s

pub both_same : (b accepted : Bool) (now : ℕ) (bytes : List ℕ) (r : Receiver) (s : StreamState) → Same s (late_followed b now bytes (received now bytes accepted r s))
both_same b accepted now bytes r s =
    let one = received_same accepted now bytes r s in
    let two = late_same b now bytes (received now bytes accepted r s) in
    record {
      ssrc_is = two.ssrc_is ∙ one.ssrc_is;
      format = two.format ∙ one.format;
      last = two.last ∙ one.last;
      stage = two.stage ∙ one.stage;
      accepted = two.accepted ∙ one.accepted;
    }

-- the edges of the pictures, and the probes, change nothing of this
pub edged_same : (r : Receiver) (followed : Option Followed) (bytes : List ℕ) (told : Result Outcome ReceiveError) (s t : StreamState) → Same (with_edges r followed (probed bytes told s)) t → Same s t
edged_same r followed bytes told s t same = record { ssrc_is = same.ssrc_is; format = same.format; last = same.last; stage = same.stage; accepted = same.accepted }

by_probation : (b : Bool) (why : Ending) → ending_of (cond b stages.Playing stages.Probation) ≡ Some why → None ≡ Some why
by_probation true why is = is
by_probation false why is = is

stage_ending : (probation accepted : ℕ) (stage : Stage) (why : Ending) → ending_of (stage_after probation accepted stage) ≡ Some why → ending_of stage ≡ Some why
stage_ending probation accepted stages.Probation why is = by_probation (nat_le probation accepted) why is
stage_ending probation accepted stages.Playing why is = is
stage_ending probation accepted (stages.Leaving own at) why is = is
stage_ending probation accepted (stages.Draining own) why is = is

time_arrival : (ssrc payload_type now s p : ℕ) (told : Result Outcome ReceiveError) → time_named ssrc payload_type now (Ok (arrival_of s p told)) ≡ cond (is_same ssrc payload_type s p) (Some now) None
time_arrival ssrc payload_type now s p (Ok outcome) = refl
time_arrival ssrc payload_type now s p (Err fault) = refl

-- the datagram was given to no other stream
time_other : (b : Bool) (ssrc payload_type now s p : ℕ) (told : Result Outcome ReceiveError) (answer : Result Arrival AllocError) → is_same ssrc payload_type s p ≡ false → Arrives b (arrival_of s p told) answer
    → time_named ssrc payload_type now answer ≡ None
time_other false ssrc payload_type now s p told answer other is =
    ap (λ (a : Result Arrival AllocError). time_named ssrc payload_type now a) is ∙ time_arrival ssrc payload_type now s p told ∙ ap (λ (b : Bool). cond b (Some now) None) other
time_other true ssrc payload_type now s p told (Ok arrival) other is = absurd (cc)
time_other true ssrc payload_type now s p told (Err e) other is = refl

time_own : (ssrc payload_type now : ℕ) (told : Result Outcome ReceiveError) (answer : Result Arrival AllocError) → answer ≡ Ok (arrival_of ssrc payload_type told) → time_named ssrc payload_type now answer ≡ Some now
time_own ssrc payload_type now told answer is =
    ap (λ (a : Result Arrival AllocError). time_named ssrc payload_type now a) is ∙ time_arrival ssrc payload_type now ssrc payload_type told
    ∙ ap (λ (b : Bool). cond b (Some now) None) (same_is ssrc payload_type)

-- the stream that was given the datagram
record Fed (now : Ticks) (micros : Option ℕ) (datagram : Vec ℕ) (answer : Result Arrival AllocError) (x y : StreamState) : Type 0 where
  ssrc_is : y.ssrc ≡ x.ssrc
  format : y.format ≡ x.format
  last : or_before (time_given x.ssrc x.format.payload_type (call_of now micros datagram answer)) (Some x.last) ≡ Some y.last
  ends : (why : Ending) → ending_of y.stage ≡ Some why → ending_of x.stage ≡ Some why

by_memory : (b : Bool) (now : Ticks) (micros : Option ℕ) (datagram : Vec ℕ) (probation : ℕ) (accepted : Bool) (size : ℕ) (x z : StreamState) (told : Result Outcome ReceiveError) (answer : Result Arrival AllocError)
    → Arrives b (arrival_of x.ssrc x.format.payload_type told) answer → Same x z → Fed now micros datagram answer x (heard_unless b now.0 probation accepted size z)
by_memory true now micros datagram probation accepted size x z told (Ok arrival) is same = absurd (cc)
by_memory true now micros datagram probation accepted size x z told (Err e) is same =
    record { ssrc_is = same.ssrc_is; format = same.format; last = ap (λ (n : ℕ). Some n) (sym same.last); ends = λ why e. ap (λ (st : Stage). ending_of st) (sym same.stage) ∙ e }
by_memory false now micros datagram probation accepted size x z told answer is same = record {
  ssrc_is = same.ssrc_is;
  format = same.format;
  last = ap (λ (o : Option ℕ). or_before o (Some x.last)) (time_own x.ssrc x.format.payload_type now.0 told answer is);
  ends = λ why e. ap (λ (st : Stage). ending_of st) (sym same.stage) ∙ stage_ending probation (accepted_after accepted z.accepted) z.stage why e;
}

fed : (now : Ticks) (micros : Option ℕ) (datagram : Vec ℕ) (probation : ℕ) (x : StreamState) (told : Result Outcome ReceiveError) (y : StreamState) (answer : Result Arrival AllocError)
    → Takes now probation datagram.items x told y → Arrives (is_no_memory told) (arrival_of x.ssrc x.format.payload_type told) answer → Fed now micros datagram answer x y
fed now micros datagram probation x told y answer got arrives =
    let edged : StreamState = with_edges got.0 got.1 (probed datagram.items told x) in
    let after : StreamState = late_followed (is_ok told) now.0 datagram.items (received now.0 datagram.items (is_accepted told) got.0 edged) in
    subst (λ (z : StreamState). Fed now micros datagram answer x z) (sym got.3)
    (by_memory (is_no_memory told) now micros datagram probation (is_accepted told) (payload_size (rtp_at datagram.items)) x after told answer arrives
    (edged_same got.0 got.1 datagram.items told x after (both_same (is_ok told) (is_accepted told) now.0 datagram.items got.0 edged)))

-- ---- calls that give no stream a datagram

abbrev GivesNone : Call → Type 0
GivesNone c = (ssrc payload_type : ℕ) → time_given ssrc payload_type c ≡ None

stays : (g : SessionSettings) (cs : List Call) (c : Call) (p q : Port) → GivesNone c → AllJustified g cs p.streams → q ≡ p → AllJustified g (cs ++ c ∷ []) q.streams
stays g cs c p q none js same =
    subst (λ (o : Port). AllJustified g (cs ++ c ∷ []) o.streams) (sym same) (all_more g cs c p.streams p.streams js (all_silent g c p.streams none))

-- memory ran out
failed : (now : Ticks) (micros : Option ℕ) (datagram : Vec ℕ) (answer : Result Arrival AllocError) → IsErr answer → GivesNone (call_of now micros datagram answer)
failed now micros datagram (Ok arrival) fails = absurd (cc)
failed now micros datagram (Err e) fails = λ ssrc payload_type. refl

answered : (now : Ticks) (micros : Option ℕ) (datagram : Vec ℕ) (answer : Result Arrival AllocError) (arrival : Arrival) → ((ssrc payload_type : ℕ) → time_named ssrc payload_type now.0 (Ok arrival) ≡ None)
    → answer ≡ Ok arrival → GivesNone (call_of now micros datagram answer)
answered now micros datagram answer arrival none is = λ ssrc payload_type. ap (λ (a : Result Arrival AllocError). time_named ssrc payload_type now.0 a) is ∙ none ssrc payload_type

-- ---- receive

module _ (g : SessionSettings) (cs : List Call) (now : Ticks) (micros : Option ℕ) (datagram : Vec ℕ) (reached_so : Session) (run : Runs cs (new_session g) reached_so) where
  -- a stream that the port lacks, the session lacks
  abbrev Lacks : Port → Type 0
  Lacks p = (a b : ℕ) → IsAbsent a b p.streams → IsAbsent a b reached_so.port.streams

  abbrev this : Result Arrival AllocError → Call
  this answer = call_of now micros datagram answer

  abbrev After : Result Arrival AllocError → List StreamState → Type 0
  After answer ss = AllJustified g (cs ++ this answer ∷ []) ss

  feeds : (probation place : ℕ) (p : Port) (answer : Result Arrival AllocError) (q : Port) → AreApart p.streams → AllJustified g cs p.streams → Feeds probation place now datagram.items p answer q → After answer q.streams
  feeds probation place p answer q apart js got =
      let x : StreamState = got.stream in
      let f : Fed now micros datagram answer x got.after = fed now micros datagram probation x got.told got.after answer got.takes got.arrives in
      subst (λ (o : Port). After answer o.streams) (sym got.left)
      (all_more g cs (this answer) p.streams (slice_set p.streams place got.after) js
      (one_moved g (this answer) p.streams place x got.after got.there apart
      (record { ssrc_is = f.ssrc_is; format = f.format; last = f.last; ends = λ since given why is. inl (f.ends why is) })
      (λ z other. moved_same g (this answer) z z (time_other (is_no_memory got.told) z.ssrc z.format.payload_type now.0 x.ssrc x.format.payload_type got.told answer other got.arrives) (itself z))))

  feeds_if : (o : Option ℕ) (arrival : Arrival) (probation : ℕ) (p : Port) (answer : Result Arrival AllocError) (q : Port) → ((ssrc payload_type : ℕ) → time_named ssrc payload_type now.0 (Ok arrival) ≡ None)
      → AreApart p.streams → AllJustified g cs p.streams → FeedsIf o arrival probation now datagram.items p answer q → After answer q.streams
  feeds_if None arrival probation p answer q none apart js got = stays g cs (this answer) p q (answered now micros datagram answer arrival none got.0) js got.1
  feeds_if (Some place) arrival probation p answer q none apart js got = feeds probation place p answer q apart js got

  without_one : (o : Option ℕ) (calls : List Call) (p : Port) → AllJustified g calls p.streams → AllJustified g calls (without o p).streams
  without_one None calls p js = js
  without_one (Some i) calls p js = justified_remove g calls p.streams i js

  -- a stream that begins has no end
  fresh : (x y : StreamState) (answer : Result Arrival AllocError) → Fed now micros datagram answer x y → time_given x.ssrc x.format.payload_type (this answer) ≡ Some now.0 → x.stage ≡ stages.Probation
      → StartsWithDatagram x.ssrc x.format.payload_type (this answer ∷ []) → IsAbsent x.ssrc x.format.payload_type reached_so.port.streams → Justified g (cs ++ this answer ∷ []) y
  fresh x y answer f given young starts absent = record {
    since = this answer ∷ [];
    began = subst₂ (λ (n : ℕ) (h : Format). BeganWith g (cs ++ this answer ∷ []) n h.payload_type (this answer ∷ [])) (sym f.ssrc_is) (sym f.format)
        (record { earlier = cs; whole = refl; starts = starts; reached = reached_so; reaches = run; absent = absent });
    last = ap₂ (λ (n : ℕ) (h : Format). last_given n h.payload_type None (this answer ∷ [])) f.ssrc_is f.format
        ∙ ap (λ (o : Option ℕ). or_before o None) given
        ∙ ap (λ (o : Option ℕ). or_before o (Some x.last)) (sym given) ∙ f.last;
    cause = λ why is. let none : None ≡ Some why = ap (λ (st : Stage). ending_of st) (sym young) ∙ f.ends why is in absurd (cc);
  }

  begins : (settings : SessionSettings) (ssrc : ℕ) (f : Format) (p : Port) (answer : Result Arrival AllocError) (q : Port) → Lacks p → position (is_of ssrc f.payload_type) p.streams ≡ None → AllJustified g cs p.streams
      → BeginsWith settings ssrc f now datagram.items p answer q → After answer q.streams
  begins settings ssrc f p answer q lacks none js got =
      let x : StreamState = got.stream in
      let told : StreamState = begun_in ssrc p x in
      let names : answer ≡ Ok (arrival_of x.ssrc x.format.payload_type got.told) =
      got.answers ∙ ap₂ (λ (s : ℕ) (h : Format). Ok (arrival_of s h.payload_type got.told)) (sym got.begins.ssrc_is) (sym got.begins.format) in
      let arrives : Arrives (is_no_memory got.told) (arrival_of x.ssrc x.format.payload_type got.told) answer =
      subst (λ (b : Bool). Arrives b (arrival_of x.ssrc x.format.payload_type got.told) answer) (sym got.received) names in
      let given : time_given x.ssrc x.format.payload_type (this answer) ≡ Some now.0 = time_own x.ssrc x.format.payload_type now.0 got.told answer names in
      let starts : StartsWithDatagram x.ssrc x.format.payload_type (this answer ∷ []) =
      (now, datagram.items, got.told, sym (given_is false now datagram.items x.ssrc x.format.payload_type got.told answer names)) in
      let absent : IsAbsent x.ssrc x.format.payload_type reached_so.port.streams =
      subst₂ (λ (s : ℕ) (h : Format). IsAbsent s h.payload_type reached_so.port.streams) (sym got.begins.ssrc_is) (sym got.begins.format) (lacks ssrc f.payload_type (found_none ssrc f.payload_type p.streams none)) in
      let old : After answer p.streams = all_more g cs (this answer) p.streams p.streams js
      (others_moved g (this answer) ssrc f.payload_type p.streams (found_none ssrc f.payload_type p.streams none)
      (λ z other. moved_same g (this answer) z z (time_other false z.ssrc z.format.payload_type now.0 ssrc f.payload_type got.told answer other got.answers) (itself z))) in
      let new : Justified g (cs ++ this answer ∷ []) got.after =
      fresh told got.after answer (fed now micros datagram settings.probation told got.told got.after answer got.takes arrives) given got.begins.stage starts absent in
      subst (λ (o : Port). After answer o.streams) (sym got.left)
      (without_one (leaving settings.max_streams p.streams) (cs ++ this answer ∷ []) (record p { streams = p.streams ++ got.after ∷ [] })
      (justified_append g (cs ++ this answer ∷ []) p.streams (got.after ∷ []) old (new, tt)))

  begins_if : (b : Bool) (settings : SessionSettings) (ssrc : ℕ) (f : Format) (p : Port) (answer : Result Arrival AllocError) (q : Port) → Lacks p → position (is_of ssrc f.payload_type) p.streams ≡ None → AllJustified g cs p.streams
      → BeginsIf b settings ssrc f now datagram.items p answer q → After answer q.streams
  begins_if false settings ssrc f p answer q lacks none js got = stays g cs (this answer) p q (answered now micros datagram answer arrivals.Refused (λ s t. refl) got.0) js got.1
  begins_if true settings ssrc f p answer q lacks none js (inl got) = begins settings ssrc f p answer q lacks none js got
  begins_if true settings ssrc f p answer q lacks none js (inr got) = stays g cs (this answer) p q (failed now micros datagram answer got.0) js got.1

  begins_or_feeds : (o : Option ℕ) (settings : SessionSettings) (ssrc : ℕ) (f : Format) (p : Port) (answer : Result Arrival AllocError) (q : Port) → Lacks p → position (is_of ssrc f.payload_type) p.streams ≡ o → AreApart p.streams
      → AllJustified g cs p.streams → BeginsOrFeeds o settings ssrc f now datagram.items p answer q → After answer q.streams
  begins_or_feeds None settings ssrc f p answer q lacks there apart js got = begins_if (has_place settings.max_streams p) settings ssrc f p answer q lacks there js got
  begins_or_feeds (Some place) settings ssrc f p answer q lacks there apart js got = feeds settings.probation place p answer q apart js got

-- ---- a sender that goes on in another format

none_plays : (b playing : Bool) (i : ℕ) (o : Option ℕ) → b ≡ false → cond (b && playing) (Some i) o ≡ o
none_plays true playing i o is = absurd (cc)
none_plays false playing i o is = refl

absent_plays : (ssrc payload_type i : ℕ) (ss : List StreamState) → IsAbsent ssrc payload_type ss → position_from (plays ssrc payload_type) i ss ≡ None
absent_plays ssrc payload_type i [] absent = refl
absent_plays ssrc payload_type i (s ∷ ss) absent =
    none_plays (is_of ssrc payload_type s) (is_playing s.stage) i (position_from (plays ssrc payload_type) (i + 1) ss) absent.0 ∙ absent_plays ssrc payload_type (i + 1) ss absent.1

-- without a stream of the format nobody goes on in it
nobody_continues : (ssrc : ℕ) (f : Format) (ss : List StreamState) → position (is_of ssrc f.payload_type) ss ≡ None → continues ssrc f ss ≡ true → ⊥
nobody_continues ssrc f ss none goes =
    let found : is_some (position (plays ssrc f.payload_type) ss) ≡ true = (and_parts (not (takes_turns f.spec.codec)) (is_some (position (plays ssrc f.payload_type) ss)) goes).1 in
    let nobody : position (plays ssrc f.payload_type) ss ≡ None =
    position_from-zero (plays ssrc f.payload_type) ss ∙ absent_plays ssrc f.payload_type 0 ss (found_none ssrc f.payload_type ss none) in
    let no : false ≡ true = sym (ap (λ (o : Option ℕ). is_some o) nobody) ∙ found in
    absurd (cc)

-- the answer names the stream
abbrev Names : ℕ → ℕ → Result Arrival AllocError → Type 0
Names ssrc payload_type answer = (told : Result Outcome ReceiveError) × (answer ≡ Ok (arrival_of ssrc payload_type told))

arrives_names : (b : Bool) (ssrc payload_type : ℕ) (told : Result Outcome ReceiveError) (answer : Result Arrival AllocError) → Arrives b (arrival_of ssrc payload_type told) answer → is_ok answer ≡ true → Names ssrc payload_type answer
arrives_names false ssrc payload_type told answer is ok = (told, is)
arrives_names true ssrc payload_type told (Ok arrival) is ok = absurd (cc)
arrives_names true ssrc payload_type told (Err e) is ok = absurd (cc)

empty_fails : (ssrc payload_type : ℕ) (answer : Result Arrival AllocError) → IsErr answer → is_ok answer ≡ true → Names ssrc payload_type answer
empty_fails ssrc payload_type (Ok arrival) fails ok = absurd (cc)
empty_fails ssrc payload_type (Err e) fails ok = absurd (cc)

begun_names : (b : Bool) (settings : SessionSettings) (ssrc : ℕ) (f : Format) (now : Ticks) (bytes : List ℕ) (p : Port) (answer : Result Arrival AllocError) (q : Port) → position (is_of ssrc f.payload_type) p.streams ≡ None
    → BeginsIf b settings ssrc f now bytes p answer q → is_ok answer ≡ true → continues ssrc f q.streams ≡ true → Names ssrc f.payload_type answer
begun_names false settings ssrc f now bytes p answer q none got ok goes =
    absurd (nobody_continues ssrc f p.streams none (subst (λ (o : Port). continues ssrc f o.streams ≡ true) got.1 goes))
begun_names true settings ssrc f now bytes p answer q none (inl got) ok goes = (got.told, got.answers)
begun_names true settings ssrc f now bytes p answer q none (inr got) ok goes = empty_fails ssrc f.payload_type answer got.0 ok

takes_names : (o : Option ℕ) (settings : SessionSettings) (ssrc : ℕ) (f : Format) (now : Ticks) (bytes : List ℕ) (p : Port) (answer : Result Arrival AllocError) (q : Port) → position (is_of ssrc f.payload_type) p.streams ≡ o
    → BeginsOrFeeds o settings ssrc f now bytes p answer q → is_ok answer ≡ true → continues ssrc f q.streams ≡ true → Names ssrc f.payload_type answer
takes_names None settings ssrc f now bytes p answer q there got ok goes = begun_names (has_place settings.max_streams p) settings ssrc f now bytes p answer q there got ok goes
takes_names (Some place) settings ssrc f now bytes p answer q there got ok goes =
    let here = position-Some (is_of ssrc f.payload_type) p.streams place got.stream there in
    let is : is_of ssrc f.payload_type got.stream ≡ true = subst (λ (s : StreamState). is_of ssrc f.payload_type s ≡ true) (at_place p.streams place got.stream got.stream got.there) here.1 in
    let own = of_is ssrc f.payload_type got.stream is in
    subst₂ (λ (s t : ℕ). Names s t answer) own.0 own.1 (arrives_names (is_no_memory got.told) got.stream.ssrc got.stream.format.payload_type got.told answer got.arrives ok)

-- the stream that was left has the same SSRC and another payload type
names_left : (ssrc payload_type s p : ℕ) (told : Result Outcome ReceiveError) → (s == ssrc) ≡ true → not (p == payload_type) ≡ true → names_other s p (arrival_of ssrc payload_type told) ≡ true
names_left ssrc payload_type s p (Ok outcome) same other =
    ap₂ (λ (a b : Bool). a && not b) (number_sym ssrc s) (number_sym payload_type p) ∙ ap₂ (λ (a b : Bool). a && b) same other
names_left ssrc payload_type s p (Err fault) same other =
    ap₂ (λ (a b : Bool). a && not b) (number_sym ssrc s) (number_sym payload_type p) ∙ ap₂ (λ (a b : Bool). a && b) same other

left_parts : (a b c d e g : Bool) → (a && b && c && d && e && g) ≡ true → (a ≡ true) × (b ≡ true)
left_parts a b c d e g is =
    let p1 = and_parts (a && b && c && d && e) g is in
    let p2 = and_parts (a && b && c && d) e p1.0 in
    let p3 = and_parts (a && b && c) d p2.0 in
    let p4 = and_parts (a && b) c p3.0 in
    and_parts a b p4.0

continues_by : (b : Bool) (g : SessionSettings) (cs : List Call) (now : Ticks) (micros : Option ℕ) (datagram : Vec ℕ) (wait ssrc : ℕ) (f : Format) (answer : Result Arrival AllocError) (ss : List StreamState)
    → (b ≡ true → Names ssrc f.payload_type answer) → AllJustified g (cs ++ call_of now micros datagram answer ∷ []) ss
    → AllJustified g (cs ++ call_of now micros datagram answer ∷ []) (continued b now.0 wait ssrc f ss)
continues_by false g cs now micros datagram wait ssrc f answer ss names js = js
continues_by true g cs now micros datagram wait ssrc f answer ss names js =
    all_left (is_left_behind now.0 wait ssrc f) endings.Changed now.0 g cs (call_of now micros datagram answer) ss
    (λ s left front.
    let told = names refl in
    let parts = left_parts _ _ _ _ _ _ left in (
      arrival_of ssrc f.payload_type told.0,
      ap (λ (a : Result Arrival AllocError). answers.Received a) told.1,
      names_left ssrc f.payload_type s.ssrc s.format.payload_type told.0 parts.0 parts.1,
    )) js

takes_media : (g : SessionSettings) (cs : List Call) (now : Ticks) (micros : Option ℕ) (datagram : Vec ℕ) (reached_so : Session) (run : Runs cs (new_session g) reached_so) (settings : SessionSettings) (ssrc : ℕ) (f : Format) (p : Port) (answer : Result Arrival AllocError) (q : Port)
    → ((a b : ℕ) → IsAbsent a b p.streams → IsAbsent a b reached_so.port.streams) → AreApart p.streams → AllJustified g cs p.streams → TakesMedia settings ssrc f now datagram.items p answer q → AllJustified g (cs ++ call_of now micros datagram answer ∷ []) q.streams
takes_media g cs now micros datagram reached_so run settings ssrc f p answer q lacks apart js got =
    let mid : Port = got.received in
    let o : Option ℕ = position (is_of ssrc f.payload_type) p.streams in
    subst (λ (x : Port). AllJustified g (cs ++ call_of now micros datagram answer ∷ []) x.streams) (sym got.left)
    (continues_by (is_ok answer && continues ssrc f mid.streams) g cs now micros datagram settings.bye_wait ssrc f answer mid.streams
    (λ both. let parts = and_parts (is_ok answer) (continues ssrc f mid.streams) both in takes_names o settings ssrc f now datagram.items p answer mid refl got.takes parts.0 parts.1)
    (begins_or_feeds g cs now micros datagram reached_so run o settings ssrc f p answer mid lacks refl apart js got.takes))

-- ---- RTCP

clocks_same : (o : Result (List Packet) RtcpError) (g : SessionSettings) (cs : List Call) (now : Ticks) (ss : List StreamState) → AllJustified g cs ss → AllJustified g cs (clocks_in now o ss)
clocks_same (Ok packets) g cs now ss js = same_justified g cs (noted now packets) ss (λ s. record { ssrc_is = refl; format = refl; last = refl; stage = refl; accepted = refl }) js
clocks_same (Err e) g cs now ss js = js

-- the streams may follow another round trip
told_justified : (b : Bool) (round_trip : Option ℕ) (g : SessionSettings) (cs : List Call) (ss : List StreamState) → AllJustified g cs ss → AllJustified g cs (told_if b round_trip ss)
told_justified true round_trip g cs ss js = same_justified g cs (with_round_trip round_trip) ss (λ s. record { ssrc_is = refl; format = refl; last = refl; stage = refl; accepted = refl }) js
told_justified false round_trip g cs ss js = js

takes_rtcp : (f : Option FeedbackSettings) (tick_rate : ℕ) (g : SessionSettings) (cs : List Call) (now : Ticks) (micros : Option ℕ) (datagram : Vec ℕ) (at : ℕ) (p : Port) (answer : Result Arrival AllocError) (q : Port) → AllJustified g cs p.streams → answer ≡ Ok arrivals.Rtcp
    → q ≡ exchanged_by f tick_rate now.0 datagram.items (record p { streams = left_where (goodbye_at datagram.items) endings.Bye at (noted_at now datagram.items p.streams) }) → AllJustified g (cs ++ call_of now micros datagram answer ∷ []) q.streams
takes_rtcp f tick_rate g cs now micros datagram at p answer q js is left =
    let c : Call = call_of now micros datagram answer in
    let mid : Port = record p { streams = left_where (goodbye_at datagram.items) endings.Bye at (noted_at now datagram.items p.streams) } in
    let tells = exchanged_streams f tick_rate now.0 datagram.items mid in
    let same : AllJustified g (cs ++ c ∷ []) p.streams = stays g cs c p p (answered now micros datagram answer arrivals.Rtcp (λ s t. refl) is) js refl in
    subst (λ (o : Port). AllJustified g (cs ++ c ∷ []) o.streams) (sym left)
    (subst (λ (zs : List StreamState). AllJustified g (cs ++ c ∷ []) zs) (sym tells.2)
    (told_justified tells.0 tells.1 g (cs ++ c ∷ []) mid.streams
    (all_left (λ (s : StreamState). goodbye_at datagram.items s.ssrc) endings.Bye at g cs c (noted_at now datagram.items p.streams)
    (λ s named front. (now, micros, datagram, refl, named))
    (clocks_same (compound_at false datagram.items) g (cs ++ c ∷ []) now p.streams same))))

takes_as : (o : Sorted) (g : SessionSettings) (cs : List Call) (now : Ticks) (micros : Option ℕ) (datagram : Vec ℕ) (reached_so : Session) (run : Runs cs (new_session g) reached_so) (settings : SessionSettings) (p : Port) (answer : Result Arrival AllocError) (q : Port) → ((a b : ℕ) → IsAbsent a b p.streams → IsAbsent a b reached_so.port.streams) → AreApart p.streams
    → AllJustified g cs p.streams → TakesInAs o settings now datagram.items p answer q → AllJustified g (cs ++ call_of now micros datagram answer ∷ []) q.streams
takes_as sorted.Rtcp g cs now micros datagram reached_so run settings p answer q lacks apart js got = takes_rtcp settings.feedback settings.tick_rate g cs now micros datagram (min (now.0 + settings.bye_wait) (2 ^ 64 - 1)) p answer q js got.0 got.1
takes_as sorted.Malformed g cs now micros datagram reached_so run settings p answer q lacks apart js got =
    stays g cs (call_of now micros datagram answer) p q (answered now micros datagram answer arrivals.Malformed (λ s t. refl) got.0) js got.1
takes_as sorted.Unknown g cs now micros datagram reached_so run settings p answer q lacks apart js got =
    stays g cs (call_of now micros datagram answer) p q (answered now micros datagram answer arrivals.Unknown (λ s t. refl) got.0) js got.1
takes_as sorted.Unassociated g cs now micros datagram reached_so run settings p answer q lacks apart js got =
    stays g cs (call_of now micros datagram answer) p q (answered now micros datagram answer arrivals.Unassociated (λ s t. refl) got.0) js got.1
takes_as (sorted.Media ssrc f) g cs now micros datagram reached_so run settings p answer q lacks apart js got = takes_media g cs now micros datagram reached_so run settings ssrc f p answer q lacks apart js got
takes_as (sorted.Retransmission ssrc payload_type) g cs now micros datagram reached_so run settings p answer q lacks apart js got =
    feeds_if g cs now micros datagram reached_so run (position (is_of ssrc payload_type) p.streams) arrivals.Unassociated settings.probation p answer q (λ s t. refl) apart js got
takes_as (sorted.NoMedia ssrc) g cs now micros datagram reached_so run settings p answer q lacks apart js got =
    feeds_if g cs now micros datagram reached_so run (position (λ (s : StreamState). s.ssrc == ssrc) p.streams) arrivals.Unknown settings.probation p answer q (λ s t. refl) apart js got

receives : (g : SessionSettings) (cs : List Call) (now : Ticks) (micros : Option ℕ) (datagram : Vec ℕ) (reached_so : Session) (run : Runs cs (new_session g) reached_so) (s : Session) (answer : Result Arrival AllocError) (t : Session) → ((a b : ℕ) → IsAbsent a b s.port.streams → IsAbsent a b reached_so.port.streams) → AreApart s.port.streams → AllJustified g cs s.port.streams
    → Receives now datagram.items s answer t → AllJustified g (cs ++ call_of now micros datagram answer ∷ []) t.port.streams
receives g cs now micros datagram reached_so run s answer t lacks apart js (inl got) =
    subst (λ (z : Session). AllJustified g (cs ++ call_of now micros datagram answer ∷ []) z.port.streams) (sym got.left)
    (takes_as (sorted_at s.settings datagram.items) g cs now micros datagram reached_so run s.settings s.port answer got.port lacks apart js got.takes)
receives g cs now micros datagram reached_so run s answer t lacks apart js (inr got) =
    stays g cs (call_of now micros datagram answer) s.port t.port (failed now micros datagram answer got.fails) js (ap (λ (z : Session). z.port) got.left)

-- ---- pairs

pub paired_same : (b : Bool) (named : List SsrcPair) (s : StreamState) → Same s (paired_when b named s)
paired_same true named s = record { ssrc_is = refl; format = refl; last = refl; stage = refl; accepted = refl }
paired_same false named s = itself s

absent_paired : (ssrc : ℕ) (named : List SsrcPair) (a b : ℕ) (ss : List StreamState) → IsAbsent a b ss → IsAbsent a b (paired_where ssrc named ss)
absent_paired ssrc named a b [] absent = tt
absent_paired ssrc named a b (s ∷ ss) absent =
    let same : Same s (paired_when (s.ssrc == ssrc) named s) = paired_same (s.ssrc == ssrc) named s in
    (ap₂ (λ (n : ℕ) (f : Format). (n == a) && (f.payload_type == b)) same.ssrc_is same.format ∙ absent.0, absent_paired ssrc named a b ss absent.1)

absent_unpaired : (ssrc : ℕ) (named : List SsrcPair) (a b : ℕ) (ss : List StreamState) → IsAbsent a b (paired_where ssrc named ss) → IsAbsent a b ss
absent_unpaired ssrc named a b [] absent = tt
absent_unpaired ssrc named a b (s ∷ ss) absent =
    let same : Same s (paired_when (s.ssrc == ssrc) named s) = paired_same (s.ssrc == ssrc) named s in
    (sym (ap₂ (λ (n : ℕ) (f : Format). (n == a) && (f.payload_type == b)) same.ssrc_is same.format) ∙ absent.0, absent_unpaired ssrc named a b ss absent.1)

pub apart_paired : (ssrc : ℕ) (named : List SsrcPair) (ss : List StreamState) → AreApart ss → AreApart (paired_where ssrc named ss)
apart_paired ssrc named [] apart = tt
apart_paired ssrc named (s ∷ ss) apart =
    let same : Same s (paired_when (s.ssrc == ssrc) named s) = paired_same (s.ssrc == ssrc) named s in (
      subst₂ (λ (n : ℕ) (f : Format). IsAbsent n f.payload_type (paired_where ssrc named ss)) (sym same.ssrc_is) (sym same.format) (absent_paired ssrc named s.ssrc s.format.payload_type ss apart.0),
      apart_paired ssrc named ss apart.1,
    )

paired_justified : (g : SessionSettings) (cs : List Call) (ssrc : ℕ) (named : List SsrcPair) (ss : List StreamState) → AllJustified g cs ss → AllJustified g cs (paired_where ssrc named ss)
paired_justified g cs ssrc named ss js = same_justified g cs (paired_if ssrc named) ss (λ s. paired_same (s.ssrc == ssrc) named s) js

associates : (o : Option SsrcPair) (g : SessionSettings) (cs : List Call) (now : Ticks) (micros : Option ℕ) (datagram : Vec ℕ) (reached_so : Session) (run : Runs cs (new_session g) reached_so) (s : Session) (answer : Result Arrival AllocError) (t : Session) → ((a b : ℕ) → IsAbsent a b s.port.streams → IsAbsent a b reached_so.port.streams) → AreApart s.port.streams
    → AllJustified g cs s.port.streams → AssociatesBy o now datagram.items s answer t → AllJustified g (cs ++ call_of now micros datagram answer ∷ []) t.port.streams
associates None g cs now micros datagram reached_so run s answer t lacks apart js got = receives g cs now micros datagram reached_so run s answer t lacks apart js got
associates (Some pair) g cs now micros datagram reached_so run s answer t lacks apart js (inl got) =
    let named : List SsrcPair = with_pair pair s.settings.pairs.items in
    let streams : got.0.port.streams ≡ paired_where pair.ssrc named s.port.streams = ap (λ (z : Session). z.port.streams) got.1.left in
    receives g cs now micros datagram reached_so run got.0 answer t
    (λ a b absent. lacks a b (absent_unpaired pair.ssrc named a b s.port.streams (subst (λ (ss : List StreamState). IsAbsent a b ss) streams absent)))
    (subst AreApart (sym streams) (apart_paired pair.ssrc named s.port.streams apart))
    (subst (λ (ss : List StreamState). AllJustified g cs ss) (sym streams) (paired_justified g cs pair.ssrc named s.port.streams js)) got.2
associates (Some pair) g cs now micros datagram reached_so run s answer t lacks apart js (inr got) =
    stays g cs (call_of now micros datagram answer) s.port t.port (failed now micros datagram answer got.0) js (ap (λ (z : Session). z.port) got.1)

accepts : (g : SessionSettings) (cs : List Call) (now : Ticks) (micros : Option ℕ) (datagram : Vec ℕ) (s : Session) (run : Runs cs (new_session g) s) (answer : Result Arrival AllocError) (t : Session) → AreApart s.port.streams → AllJustified g cs s.port.streams
    → Accepts (time_for micros now s) now datagram.items s answer t → AllJustified g (cs ++ call_of now micros datagram answer ∷ []) t.port.streams
accepts g cs now micros datagram s run answer t apart js (inl got) =
    associates (pair_at s.settings now.0 datagram.items s.port.streams) g cs now micros datagram s run (noted_in (time_for micros now s) datagram.items s) answer t (λ a b absent. absent) apart js got
accepts g cs now micros datagram s run answer t apart js (inr got) =
    stays g cs (call_of now micros datagram answer) s.port t.port (failed now micros datagram answer got.fails) js (ap (λ (z : Session). z.port) got.left)

-- ---- poll

asked_moved : (g : SessionSettings) (now : Ticks) (event : Option Event) (s : StreamState) (answer : Step) (t : StreamState) → Asked now.0 g.idle_timeout s answer t → Moved g (poll_of now event) s t
asked_moved g now event s answer t a = record {
  ssrc_is = a.ssrc_is;
  format = a.format;
  last = ap (λ (n : ℕ). Some n) (sym a.last);
  ends = λ since given why is. by_reason since why given (a.ends why is);
}
  where
    by_reason : (since : List Call) (why : Ending) → last_given s.ssrc s.format.payload_type None since ≡ Some s.last → Reason now.0 g.idle_timeout s why
        → (ending_of s.stage ≡ Some why) ⊎ IsCause g.idle_timeout why s.ssrc s.format.payload_type since (poll_of now event)
    by_reason since why given (inl same) = inl same
    by_reason since why given (inr late) =
        inr (subst (λ (w : Ending). IsCause g.idle_timeout w s.ssrc s.format.payload_type since (poll_of now event)) (sym late.0) (now, s.last, refl, given, late.1))

quiet_moved : (g : SessionSettings) (now : Ticks) (event : Option Event) (ss ts : List StreamState) → AreQuiet now g.idle_timeout ss ts → AllMoved g (poll_of now event) ss ts
quiet_moved g now event [] [] quiet = tt
quiet_moved g now event [] (t ∷ ts) quiet = absurd quiet
quiet_moved g now event (s ∷ ss) [] quiet = absurd quiet
quiet_moved g now event (s ∷ ss) (t ∷ ts) quiet = (asked_moved g now event s _ t (steps_asked now g.idle_timeout s _ t quiet.0), quiet_moved g now event ss ts quiet.1)

kept_justified : (g : SessionSettings) (cs : List Call) (announced after : Bool) (ssrc payload_type : ℕ) (event : Option Event) (kept : List StreamState → List StreamState) (y : StreamState) (rest : List StreamState)
    → Kind announced after ssrc payload_type event kept y → Justified g cs y → AllJustified g cs rest → AllJustified g cs (kept rest)
kept_justified g cs announced after ssrc payload_type event kept y rest (inl stays) j js = subst (λ (ss : List StreamState). AllJustified g cs ss) (sym (stays.1 rest)) (j, js)
kept_justified g cs announced after ssrc payload_type event kept y rest (inr ends) j js = subst (λ (ss : List StreamState). AllJustified g cs ss) (sym (ends.3 rest)) js

takes_turn : (o : Option Event) (g : SessionSettings) (cs : List Call) (now : Ticks) (event : Option Event) (p q : Port) → AllJustified g cs p.streams → TakesTurn now g.idle_timeout p o q → AllJustified g (cs ++ poll_of now event ∷ []) q.streams
takes_turn None g cs now event p q js got =
    let c : Call = poll_of now event in
    subst (λ (o : Port). AllJustified g (cs ++ c ∷ []) o.streams) (sym got.2) (all_more g cs c p.streams got.0 js (quiet_moved g now event p.streams got.0 got.1))
takes_turn (Some e) g cs now event p q js got =
    let c : Call = poll_of now event in
    let parts = justified_parts g cs got.front (got.stream ∷ got.rest) (subst (λ (ss : List StreamState). AllJustified g cs ss) got.there js) in
    let front : AllJustified g (cs ++ c ∷ []) got.quiet = all_more g cs c got.front got.quiet parts.0 (quiet_moved g now event got.front got.quiet got.are_quiet) in
    let one : Justified g (cs ++ c ∷ []) got.stepped =
    justified_more g cs c got.stream got.stepped parts.1.0 (asked_moved g now event got.stream got.step got.stepped (steps_asked now g.idle_timeout got.stream got.step got.stepped got.steps)) in
    let rest : AllJustified g (cs ++ c ∷ []) got.rest = all_more g cs c got.rest got.rest parts.1.1 (all_silent g c got.rest (λ s t. refl)) in
    subst (λ (o : Port). AllJustified g (cs ++ c ∷ []) o.streams) (sym got.left)
    (justified_append g (cs ++ c ∷ []) got.quiet (kept_after got.step got.stepped got.rest) front
    (kept_justified g (cs ++ c ∷ []) got.stream.announced got.stepped.announced got.stream.ssrc got.stream.format.payload_type (event_of got.stepped got.step) (λ (zs : List StreamState). kept_after got.step got.stepped zs) got.stepped got.rest
    (steps_stepped now g.idle_timeout got.stream got.step got.stepped got.steps).kind one rest))

pub reported_same : (b is_new : Bool) (s : StreamState) → Same s (reported_if b is_new s)
reported_same true is_new s = record { ssrc_is = refl; format = refl; last = refl; stage = refl; accepted = refl }
reported_same false is_new s = record { ssrc_is = refl; format = refl; last = refl; stage = refl; accepted = refl }

all_reported_justified : (g : SessionSettings) (cs : List Call) (is_new : Bool) (room : ℕ) (ss : List StreamState) → AllJustified g cs ss → AllJustified g cs (all_reported is_new room ss)
all_reported_justified g cs is_new room [] js = tt
all_reported_justified g cs is_new room (s ∷ ss) js = (
  justified_same g cs s (reported_if (is_chosen is_new room s ss) is_new s) js.0 (reported_same (is_chosen is_new room s ss) is_new s),
  all_reported_justified g cs is_new (room_after (is_chosen is_new room s ss) room) ss js.1,
)

or_reported : (g : SessionSettings) (cs : List Call) (packet : Option (Result (Vec ℕ) AllocError)) (ss ts : List StreamState) → SameOrReported packet ss ts → AllJustified g cs ss → AllJustified g cs ts
or_reported g cs packet ss ts (inl same) js = subst (λ (zs : List StreamState). AllJustified g cs zs) (sym same) js
or_reported g cs packet ss ts (inr (bytes, is_new, room, lost, trip, told, same)) js =
    subst (λ (zs : List StreamState). AllJustified g cs zs) (sym same) (told_justified lost trip g cs (all_reported is_new room ss) (all_reported_justified g cs is_new room ss js))

goes_on : (o : Option Event) (g : SessionSettings) (cs : List Call) (now : ℕ) (s : Session) (event : Option Event) (t : Session) → AllJustified g cs s.port.streams → GoesOn o now s event t → AllJustified g cs t.port.streams
goes_on None g cs now s event t js got =
    subst (λ (z : Session). AllJustified g cs z.port.streams) (sym got.left)
    (or_reported g cs got.packet s.port.streams got.port.streams (by_streams s.settings.feedback s.settings.tick_rate now s.report_due s.port got.packet got.due got.port got.reports) js)
goes_on (Some e) g cs now s event t js got = subst (λ (z : Session). AllJustified g cs z.port.streams) (sym got.1) js

sends_after : (o : Option Event) (g : SessionSettings) (cs : List Call) (now : ℕ) (s : Session) (event : Option Event) (t : Session) → AllJustified g cs s.port.streams → SendsAfter o now s event t → AllJustified g cs t.port.streams
sends_after None g cs now s event t js got = subst (λ (z : Session). AllJustified g cs z.port.streams) (sym got.left) js
sends_after (Some e) g cs now s event t js got = subst (λ (z : Session). AllJustified g cs z.port.streams) (sym got.1) js

polls : (ws : List _) (g : SessionSettings) (cs : List Call) (now : Ticks) (s : Session) (event : Option Event) (t : Session) → s.settings.idle_timeout ≡ g.idle_timeout → AllJustified g cs s.port.streams → PollsAfter ws now s event t
    → AllJustified g (cs ++ poll_of now event ∷ []) t.port.streams
polls [] g cs now s event t is js got =
    let turn = got.turn in
    let took : TakesTurn now g.idle_timeout s.port turn.event turn.port = subst (λ (n : ℕ). TakesTurn now n s.port turn.event turn.port) is turn.turn in
    sends_after got.event g (cs ++ poll_of now event ∷ []) now.0 got.after event t
    (goes_on turn.event g (cs ++ poll_of now event ∷ []) now.0 (record s { port = turn.port }) got.event got.after (takes_turn turn.event g cs now event s.port turn.port js took) turn.goes_on) got.sends
polls (w ∷ ws) g cs now s event t is js got = stays g cs (poll_of now event) s.port t.port (λ s t. refl) js (ap (λ (z : Session). z.port) got.1)

-- ---- the event that ends a stream

-- the end is that of the stream which was asked
own_end : (b : Bool) (now : Ticks) (ssrc payload_type s p : ℕ) (why : Ending) → is_same ssrc payload_type s p ≡ b → IsOwn now s p (Some (events.Ended ssrc payload_type why)) → is_same ssrc payload_type s p ≡ true
own_end true now ssrc payload_type s p why is own = is
own_end false now ssrc payload_type s p why is own =
    let event : Event = events.Ended ssrc payload_type why in
    let no : event ∷ [] ≡ [] = sym (ap (λ (c : Bool). one_event c event) (same_is ssrc payload_type)) ∙ (own ssrc payload_type is).0 in
    absurd (cc)

-- the stream ended for a cause in its own time
abbrev EndsFor : SessionSettings → List Call → Ticks → ℕ → ℕ → Ending → Type 0
EndsFor g cs now ssrc payload_type why =
    (since : List Call) × BeganWith g (cs ++ ending_poll now ssrc payload_type why ∷ []) ssrc payload_type since × HasCause g.idle_timeout why ssrc payload_type since

turn_ends : (g : SessionSettings) (cs : List Call) (now : Ticks) (ssrc payload_type : ℕ) (why : Ending) (p q : Port) → AllJustified g cs p.streams → TakesTurn now g.idle_timeout p (Some (events.Ended ssrc payload_type why)) q
    → EndsFor g cs now ssrc payload_type why
turn_ends g cs now ssrc payload_type why p q js got =
    let x : StreamState = got.stream in
    let parts = justified_parts g cs got.front (x ∷ got.rest) (subst (λ (ss : List StreamState). AllJustified g cs ss) got.there js) in
    let a : Asked now.0 g.idle_timeout x got.step got.stepped = steps_asked now g.idle_timeout x got.step got.stepped got.steps in
    let own : IsOwn now x.ssrc x.format.payload_type (Some (events.Ended ssrc payload_type why)) =
    subst (λ (e : Option Event). IsOwn now x.ssrc x.format.payload_type e) (sym got.tells) (steps_stepped now g.idle_timeout x got.step got.stepped got.steps).own in
    let same = and_parts (x.ssrc == ssrc) (x.format.payload_type == payload_type) (own_end (is_same ssrc payload_type x.ssrc x.format.payload_type) now ssrc payload_type x.ssrc x.format.payload_type why refl own) in
    subst₂ (λ (n m : ℕ). (since : List Call) × BeganWith g (cs ++ ending_poll now ssrc payload_type why ∷ []) n m since × HasCause g.idle_timeout why n m since)
    (eqb-true x.ssrc ssrc same.0) (eqb-true x.format.payload_type payload_type same.1)
    (by_reason x parts.1.0 (a.ended why (got.stepped, ssrc, payload_type, sym got.tells)))
  where
    by_reason : (x : StreamState) → Justified g cs x → Reason now.0 g.idle_timeout x why
        → (since : List Call) × BeganWith g (cs ++ ending_poll now ssrc payload_type why ∷ []) x.ssrc x.format.payload_type since × HasCause g.idle_timeout why x.ssrc x.format.payload_type since
    by_reason x j (inl same) = (
      j.since ++ ending_poll now ssrc payload_type why ∷ [],
      began_more g cs (ending_poll now ssrc payload_type why) x.ssrc x.format.payload_type j.since j.began,
      cause_more g.idle_timeout why x.ssrc x.format.payload_type j.since (ending_poll now ssrc payload_type why) (j.cause why same),
    )
    by_reason x j (inr late) = (
      j.since ++ ending_poll now ssrc payload_type why ∷ [],
      began_more g cs (ending_poll now ssrc payload_type why) x.ssrc x.format.payload_type j.since j.began,
      (j.since, ending_poll now ssrc payload_type why, [], refl, subst (λ (w : Ending). IsCause g.idle_timeout w x.ssrc x.format.payload_type j.since (ending_poll now ssrc payload_type why)) (sym late.0) (now, x.last, refl, j.last, late.1)),
    )

reports_nothing : (o : Option (Result (Vec ℕ) AllocError)) (ssrc payload_type : ℕ) (why : Ending) → ◌≡◌ {A = Option Event} (Some (events.Ended ssrc payload_type why)) (report_event o) → ⊥
reports_nothing None ssrc payload_type why is = absurd (cc)
reports_nothing (Some packet) ssrc payload_type why is = absurd (cc)

transport_nothing : (o : Option (Result (Vec ℕ) AllocError)) (ssrc payload_type : ℕ) (why : Ending) → ◌≡◌ {A = Option Event} (Some (events.Ended ssrc payload_type why)) (transport_event o) → ⊥
transport_nothing None ssrc payload_type why is = absurd (cc)
transport_nothing (Some packet) ssrc payload_type why is = absurd (cc)

goes_ends : (o : Option Event) (g : SessionSettings) (cs : List Call) (now : Ticks) (ssrc payload_type : ℕ) (why : Ending) (s : Session) (port : Port) (t : Session) → AllJustified g cs s.port.streams → TakesTurn now g.idle_timeout s.port o port
    → GoesOn o now.0 (record s { port = port }) (Some (events.Ended ssrc payload_type why)) t → EndsFor g cs now ssrc payload_type why
goes_ends None g cs now ssrc payload_type why s port t js turn got = absurd (reports_nothing got.packet ssrc payload_type why got.answers)
goes_ends (Some e) g cs now ssrc payload_type why s port t js turn got =
    let same : e ≡ events.Ended ssrc payload_type why = cc in
    turn_ends g cs now ssrc payload_type why s.port port js (subst (λ (x : Event). TakesTurn now g.idle_timeout s.port (Some x) port) same turn)

sends_ends : (o : Option Event) (g : SessionSettings) (cs : List Call) (now : Ticks) (ssrc payload_type : ℕ) (why : Ending) (s after t : Session) → s.settings.idle_timeout ≡ g.idle_timeout → AllJustified g cs s.port.streams
    → TurnsOrReports now s o after → SendsAfter o now.0 after (Some (events.Ended ssrc payload_type why)) t → EndsFor g cs now ssrc payload_type why
sends_ends None g cs now ssrc payload_type why s after t is js turn got = absurd (transport_nothing got.packet ssrc payload_type why got.answers)
sends_ends (Some e) g cs now ssrc payload_type why s after t is js turn got =
    let same : Some e ≡ Some (events.Ended ssrc payload_type why) = sym got.0 in
    goes_ends turn.event g cs now ssrc payload_type why s turn.port after js (subst (λ (n : ℕ). TakesTurn now n s.port turn.event turn.port) is turn.turn)
    (subst (λ (x : Option Event). GoesOn turn.event now.0 (record s { port = turn.port }) x after) same turn.goes_on)

polls_ends : (ws : List _) (g : SessionSettings) (cs : List Call) (now : Ticks) (ssrc payload_type : ℕ) (why : Ending) (s t : Session) → s.settings.idle_timeout ≡ g.idle_timeout → AllJustified g cs s.port.streams
    → PollsAfter ws now s (Some (events.Ended ssrc payload_type why)) t → EndsFor g cs now ssrc payload_type why
polls_ends [] g cs now ssrc payload_type why s t is js got = sends_ends got.event g cs now ssrc payload_type why s got.after t is js got.turn got.sends
polls_ends (w ∷ ws) g cs now ssrc payload_type why s t is js got =
    let no : Some (events.Ended ssrc payload_type why) ≡ Some (telephone_event w) = got.0 in
    absurd (cc)

-- ---- the other calls

abbrev plain : SessionStep → StepAnswer → Call
plain step answer = record { step = step; answer = answer }

left_all : (who : ℕ → Bool) (at : ℕ) (g : SessionSettings) (cs : List Call) (c : Call) (ss : List StreamState) → GivesNone c
    → ((s : StreamState) → who s.ssrc ≡ true → (front : List Call) → IsCause g.idle_timeout endings.ByCall s.ssrc s.format.payload_type front c)
    → AllJustified g cs ss → AllJustified g (cs ++ c ∷ []) (left_where who endings.ByCall at ss)
left_all who at g cs c ss none cause js =
    all_left (λ (s : StreamState). who s.ssrc) endings.ByCall at g cs c ss cause (all_more g cs c ss ss js (all_silent g c ss none))

pub waited_same : (b : Bool) (limits : WaitLimits) (s : StreamState) → Same s (waiting_when b limits s)
waited_same true limits s = record { ssrc_is = refl; format = refl; last = refl; stage = refl; accepted = refl }
waited_same false limits s = itself s

set_same : (g : SessionSettings) (cs : List Call) (ss : List StreamState) (place : ℕ) (x y : StreamState) → slice_get ss place ≡ Some x → Same x y → AllJustified g cs ss → AllJustified g cs (slice_set ss place y)
set_same g cs [] place x y there same js = absurd (cc)
set_same g cs (s ∷ ss) zero x y there same js =
    let e : s ≡ x = cc in
    (justified_same g cs x y (subst (λ (z : StreamState). Justified g cs z) e js.0) same, js.1)
set_same g cs (s ∷ ss) (suc i) x y there same js = (js.0, set_same g cs ss i x y there same js.1)

pairs_justify : (g : SessionSettings) (cs : List Call) (c : Call) (ssrc : ℕ) (named : List SsrcPair) (s t : Session) → GivesNone c → AllJustified g cs s.port.streams → Pairs ssrc named s t → AllJustified g (cs ++ c ∷ []) t.port.streams
pairs_justify g cs c ssrc named s t none js got =
    subst (λ (z : Session). AllJustified g (cs ++ c ∷ []) z.port.streams) (sym got.left)
    (paired_justified g (cs ++ c ∷ []) ssrc named s.port.streams (all_more g cs c s.port.streams s.port.streams js (all_silent g c s.port.streams none)))

added_justify : (g : SessionSettings) (cs : List Call) (ssrc retransmission : ℕ) (s : Session) (added_as : Result Unit AllocError) (t : Session) → AllJustified g cs s.port.streams → AddsPair ssrc retransmission s added_as t
    → AllJustified g (cs ++ plain (calls.AddPair ssrc retransmission) (answers.PairAdded added_as) ∷ []) t.port.streams
added_justify g cs ssrc retransmission s (Ok u) t js got = pairs_justify g cs (plain (calls.AddPair ssrc retransmission) (answers.PairAdded (Ok u))) ssrc _ s t (λ a b. refl) js got.0
added_justify g cs ssrc retransmission s (Err e) t js got =
    stays g cs (plain (calls.AddPair ssrc retransmission) (answers.PairAdded (Err e))) s.port t.port (λ a b. refl) js (ap (λ (z : Session). z.port) got.1)

reports_justify : (o : Option ℕ) (g : SessionSettings) (cs : List Call) (c : Call) (tick_rate now : ℕ) (p : Port) (block : Option _) (q : Port) → GivesNone c → AllJustified g cs p.streams → ReportsPlace o tick_rate now p block q
    → AllJustified g (cs ++ c ∷ []) q.streams
reports_justify None g cs c tick_rate now p block q none js got = stays g cs c p q none js got.1
reports_justify (Some place) g cs c tick_rate now p block q none js got =
    subst (λ (o : Port). AllJustified g (cs ++ c ∷ []) o.streams) (sym got.left)
    (set_same g (cs ++ c ∷ []) p.streams place got.stream (reported_by got.stream) got.there (record { ssrc_is = refl; format = refl; last = refl; stage = refl; accepted = refl })
    (all_more g cs c p.streams p.streams js (all_silent g c p.streams none)))

asked_same : (ending : Bool) (s : StreamState) → Same s (asked_unless ending s)
asked_same true s = itself s
asked_same false s = record { ssrc_is = refl; format = refl; last = refl; stage = refl; accepted = refl }

asked_justified : (x : Option StreamState) (g : SessionSettings) (cs : List Call) (ss : List StreamState) (place : ℕ) → slice_get ss place ≡ x → AllJustified g cs ss → AllJustified g cs (asked_with x place ss)
asked_justified None g cs ss place there js = js
asked_justified (Some s) g cs ss place there js = set_same g cs ss place s (asked_for s) there (asked_same (is_ending s.stage) s) js

keyframe_justified : (o : Option ℕ) (g : SessionSettings) (cs : List Call) (p : Port) → AllJustified g cs p.streams → AllJustified g cs (asked_among o p).streams
keyframe_justified None g cs p js = js
keyframe_justified (Some place) g cs p js = asked_justified (slice_get p.streams place) g cs p.streams place refl js

justifies : (step : SessionStep) (answer : StepAnswer) (g : SessionSettings) (cs : List Call) (s t : Session) → Runs cs (new_session g) s → s.settings.idle_timeout ≡ g.idle_timeout → AreApart s.port.streams → AllJustified g cs s.port.streams → Does step s answer t
    → AllJustified g (cs ++ plain step answer ∷ []) t.port.streams
justifies (calls.Receive now micros datagram) answer g cs s t run is apart js got =
    subst (λ (a : StepAnswer). AllJustified g (cs ++ plain (calls.Receive now micros datagram) a ∷ []) t.port.streams) (sym got.1) (accepts g cs now micros datagram s run got.0 t apart js got.2)
justifies (calls.Poll now) answer g cs s t run is apart js got =
    subst (λ (a : StepAnswer). AllJustified g (cs ++ plain (calls.Poll now) a ∷ []) t.port.streams) (sym got.1) (polls s.telephone.waiting g cs now s got.0 t is js got.2)
justifies (calls.End now ssrc) answer g cs s t run is apart js got =
    subst (λ (z : Session). AllJustified g (cs ++ plain (calls.End now ssrc) answer ∷ []) z.port.streams) (sym got.1)
    (left_all (λ own. ssrc == own) now.0 g cs (plain (calls.End now ssrc) answer) s.port.streams (λ a b. refl)
    (λ x same front. inl (now, ap (λ (n : ℕ). calls.End now n) (eqb-true ssrc x.ssrc same))) js)
justifies (calls.Finish now) answer g cs s t run is apart js got =
    subst (λ (z : Session). AllJustified g (cs ++ plain (calls.Finish now) answer ∷ []) z.port.streams) (sym got.1)
    (left_all everyone now.0 g cs (plain (calls.Finish now) answer) s.port.streams (λ a b. refl) (λ x same front. inr (now, refl)) js)
justifies (calls.SetWaitLimits ssrc payload_type limits) answer g cs s t run is apart js got =
    let c : Call = plain (calls.SetWaitLimits ssrc payload_type limits) answer in
    subst (λ (z : Session). AllJustified g (cs ++ c ∷ []) z.port.streams) (sym got.1)
    (same_justified g (cs ++ c ∷ []) (waiting_if ssrc payload_type limits) s.port.streams (λ x. waited_same (is_of ssrc payload_type x) limits x)
    (all_more g cs c s.port.streams s.port.streams js (all_silent g c s.port.streams (λ a b. refl))))
justifies (calls.Report now ssrc payload_type) answer g cs s t run is apart js got =
    let c : Call = plain (calls.Report now ssrc payload_type) answer in
    subst (λ (z : Session). AllJustified g (cs ++ c ∷ []) z.port.streams) (sym got.2.left)
    (reports_justify (position (is_of ssrc payload_type) s.port.streams) g cs c s.settings.tick_rate now.0 s.port got.0 got.2.port (λ a b. refl) js got.2.reports)
justifies (calls.AddPair ssrc retransmission) answer g cs s t run is apart js got =
    subst (λ (a : StepAnswer). AllJustified g (cs ++ plain (calls.AddPair ssrc retransmission) a ∷ []) t.port.streams) (sym got.1) (added_justify g cs ssrc retransmission s got.0 t js got.2)
justifies calls.RestartTransport answer g cs s t run is apart js got = stays g cs (plain calls.RestartTransport answer) s.port t.port (λ a b. refl) js (ap (λ (z : Session). z.port) got.1)
justifies (calls.RequestKeyframe ssrc) answer g cs s t run is apart js got =
    let c : Call = plain (calls.RequestKeyframe ssrc) answer in
    subst (λ (z : Session). AllJustified g (cs ++ c ∷ []) z.port.streams) (sym got.1)
    (keyframe_justified (position (has_ssrc ssrc) s.port.streams) g (cs ++ c ∷ []) s.port
    (all_more g cs c s.port.streams s.port.streams js (all_silent g c s.port.streams (λ a b. refl))))
justifies (calls.RemovePair ssrc) answer g cs s t run is apart js got = pairs_justify g cs (plain (calls.RemovePair ssrc) answer) ssrc _ s t (λ a b. refl) js got.1

-- ---- whole runs

same_idle : (settings : SessionSettings) (cs : List Call) (s : Session) → Reached settings cs s → s.settings.idle_timeout ≡ settings.idle_timeout
same_idle settings cs s got = ap (λ (x : SessionSettings). x.idle_timeout) got.others

justified_later : (settings : SessionSettings) (later cs : List Call) (s t : Session) → Reached settings cs s → AllJustified settings cs s.port.streams → Runs later s t
    → AllJustified settings (cs ++ later) t.port.streams
justified_later settings [] cs s t got js run =
    subst₂ (λ (zs : List Call) (z : Session). AllJustified settings zs z.port.streams) (sym (append-nil cs)) (sym run) js
justified_later settings (c ∷ later) cs s t got js run =
    subst (λ (zs : List Call). AllJustified settings zs t.port.streams) (append_assoc cs (c ∷ []) later)
    (justified_later settings later (cs ++ c ∷ []) run.0 t (reached_more settings cs c s run.0 got run.1)
    (justifies c.step c.answer settings cs s run.0 got.run (same_idle settings cs s got) got.apart js run.1) run.2)

ends_by : (settings : SessionSettings) (before : List Call) (now : Ticks) (ssrc payload_type : ℕ) (why : Ending) (s t : Session) → Runs before (new_session settings) s
    → Does (calls.Poll now) s (answers.Polled (Some (events.Ended ssrc payload_type why))) t → EndsFor settings before now ssrc payload_type why
ends_by settings before now ssrc payload_type why s t run does =
    let got : Reached settings before s = reached settings before s run in
    let js : AllJustified settings before s.port.streams = justified_later settings before [] (new_session settings) s (reached_new settings) tt run in
    let same : does.0 ≡ Some (events.Ended ssrc payload_type why) = cc in
    polls_ends s.telephone.waiting settings before now ssrc payload_type why s t (same_idle settings before s got) js
    (subst (λ (e : Option Event). PollsAfter s.telephone.waiting now s e t) same does.2)

pub ends_have_causes : EndsHaveCauses
ends_have_causes settings before after now ssrc payload_type why s run =
    let parts = runs_split before (ending_poll now ssrc payload_type why ∷ after) (new_session settings) s run in
    ends_by settings before now ssrc payload_type why parts.0 parts.2.0 parts.1 parts.2.1

-- a receiver that was finished belongs to a drained stream, whose end has a cause
finish_cause : (settings : SessionSettings) (cs : List Call) (x : StreamState) (stage : Stage) → x.stage ≡ stage → AloneIn settings cs x → Justified settings cs x → FinishHasCause settings cs x
finish_cause settings cs x stages.Probation at in_x j =
    let none : many_finishes in_x.alone.own ≡ 0 = subst (λ (stage : Stage). FinishedBy stage (many_finishes in_x.alone.own)) at in_x.finished in
    record { alone = in_x.alone; once = omega (arith, none); caused = inl none }
finish_cause settings cs x stages.Playing at in_x j =
    let none : many_finishes in_x.alone.own ≡ 0 = subst (λ (stage : Stage). FinishedBy stage (many_finishes in_x.alone.own)) at in_x.finished in
    record { alone = in_x.alone; once = omega (arith, none); caused = inl none }
finish_cause settings cs x (stages.Leaving why until) at in_x j =
    let none : many_finishes in_x.alone.own ≡ 0 = subst (λ (stage : Stage). FinishedBy stage (many_finishes in_x.alone.own)) at in_x.finished in
    record { alone = in_x.alone; once = omega (arith, none); caused = inl none }
finish_cause settings cs x (stages.Draining why) at in_x j = record {
  alone = in_x.alone;
  once = subst (λ (stage : Stage). FinishedBy stage (many_finishes in_x.alone.own)) at in_x.finished;
  caused = inr (why, j.since, j.began, j.cause why (ap (λ (stage : Stage). ending_of stage) at));
}

finish_causes : (settings : SessionSettings) (cs : List Call) (ss : List StreamState) → AllAloneIn settings cs ss → AllJustified settings cs ss → EachFinishHasCause settings cs ss
finish_causes settings cs [] all js = tt
finish_causes settings cs (s ∷ ss) all js = (finish_cause settings cs s s.stage refl all.0 js.0, finish_causes settings cs ss all.1 js.1)

pub finishes_have_causes : FinishesHaveCauses
finishes_have_causes settings calls s run =
    finish_causes settings calls s.port.streams (reached settings calls s run).ones (justified_later settings calls [] (new_session settings) s (reached_new settings) tt run)
