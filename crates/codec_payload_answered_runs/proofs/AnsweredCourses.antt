-- A run with a history and requests is one without a history in which copies of datagrams are delivered. It repeats RepeatLemmas of
-- codec_payload_datagram_runs, whose names for these facts are private, with the steps of the schedule.
use Rattle.std.proofs.Common.{◌≡◌, ◌∙◌, refl, sym, ap, subst, ℕ, ◌+◌, ◌%◌, List, [], ◌∷◌, ◌++◌, Option, Some, None, Ok, MatchOption, length, arith, append_assoc, append-nil}
use Rattle.std.specs.Prelude.{slice_get}
use Rattle.std.proofs.lemmas.List.{length-append}
use Rattle.codec_payload_base.specs.declared.wire.Ticks.{Ticks}
use Rattle.codec_payload_feedback_requests.specs.declared.nack.NackSettings.{NackSettings}
use Rattle.codec_payload_feedback_requests.specs.NackRuns.{Exact, OnTime}
use Rattle.codec_payload_feedback_requests.specs.NackSchedule.{after_answer, after_due}
use Rattle.codec_payload_payloader.specs.Sending.{Sample}
use Rattle.codec_payload_sending.specs.Senders.{Sending}
use Rattle.codec_payload_sending_history.specs.Histories.{history_by}
use Rattle.codec_payload_sending_history.specs.Packets.{Past}
use Rattle.codec_payload_sending_history.specs.declared.retransmission.HistorySettings.{HistorySettings}
use Rattle.codec_payload_sending_history.specs.declared.retransmission.Resent.{Resent}
use Rattle.codec_payload_sending_history.specs.declared.retransmission.RetransmissionStream.{RetransmissionStream}
use Rattle.codec_payload_receiver.specs.Sessions.{Session}
use Rattle.codec_payload_datagram_runs.proofs.Courses.{DeliversCopy, makes}
use Rattle.codec_payload_datagram_runs.proofs.RepeatLemmas.{AreLatest, From, IsNewest, IsOf, advanced, advanced_append, copy_at, follows, from_append, from_same, grows, keeps_all, new_history, new_is, newest_stays, no_copy_at, repeats_append, repeats_more, resends_copy}
use Rattle.codec_payload_datagram_runs.specs.HistoryReleases.{AreRepeats, latest_with, repeated_by, sends_by}
use Rattle.codec_payload_datagram_runs.specs.HistoryRuns.{KeepsAll, Resending, begins_with, sent_since, written}
use Rattle.codec_payload_datagram_runs.specs.WireRuns.{Delivers, DoesStep, Receipt, Wire}
use Rattle.codec_payload_datagram_runs.specs.declared.history_run.HistoryStep.TheVariants as history_steps
use Rattle.codec_payload_datagram_runs.specs.declared.run.DatagramStep.{DatagramStep}
use Rattle.codec_payload_datagram_runs.specs.declared.run.SentSample.{SentSample}
use Rattle.codec_payload_answered_runs.proofs.AskedCourses.{AskedCourse}
use Rattle.codec_payload_answered_runs.proofs.RunParts.{fills}
use Rattle.codec_payload_answered_runs.specs.AnsweredRuns.{AnsweredRuns, AnsweredStep, Answering, AnswersFillGaps, Links, Notes, Polls, asked_steps, asking_of, asked_steps_of, begins_answering}
use Rattle.codec_payload_answered_runs.specs.AskedRuns.{Asking, asked_by, begins_asking, wanted_by}

-- a state of a run with a history; `repeated` has the indices of the datagrams that the retransmissions repeat, from the number
-- `begin` on
record IsAt (again : Option RetransmissionStream) (first begin : ℕ) (s : Resending) (repeated : List ℕ) : Type 0 where
  numbers : From first s.wire.datagrams
  next : s.wire.sending.stream.number % 65536 ≡ (first + length s.wire.datagrams) % 65536
  kept : IsOf again (advanced again begin (length s.retransmissions)) s.wire.datagrams s.history
  newest : IsNewest first s.wire.datagrams s.history
  repeats : AreRepeats again begin s.wire.datagrams s.retransmissions repeated

-- the run without a history
record Comes (again : Option RetransmissionStream) (first : ℕ) (samples : List Sample) (all_steps : List AnsweredStep) (s t : Answering) (repeated : List ℕ) : Type 0 where
  later : List SentSample
  sends : t.link.wire.sends ≡ s.link.wire.sends ++ later
  more : List Resent
  answers : t.link.answers ≡ s.link.answers ++ more
  course : AskedCourse again samples (asked_steps first samples (length s.link.wire.datagrams) repeated all_steps later more) (asking_of s) (asking_of t)

module _ (again : Option RetransmissionStream) (first begin : ℕ) (samples : List Sample) where
  -- the state after a step of the run without a history
  plain_at : (step : DatagramStep) (s mid : Resending) (repeated : List ℕ) → IsAt again first begin s repeated → DoesStep samples step s.wire mid.wire
      → KeepsAll s.history (sent_since s.wire mid.wire) mid.history → mid.retransmissions ≡ s.retransmissions → IsAt again first begin mid repeated
  plain_at step s mid repeated at does keeps same =
      let g = grows samples step s.wire mid.wire does in
      let count : length mid.wire.datagrams ≡ length s.wire.datagrams + length g.new = ap length g.whole ∙ length-append s.wire.datagrams g.new in
      let from = from_same s.wire.sending.stream.number (first + length s.wire.datagrams) g.new at.next g.numbers in
      let all = keeps_all again first (advanced again begin (length s.retransmissions)) s.wire.datagrams g.new s.history mid.history at.kept at.newest from
      (subst (λ (ds : List (List ℕ)). KeepsAll s.history ds mid.history) (new_is s.wire mid.wire g) keeps) in
      record {
        numbers = subst (From first) (sym g.whole) (from_append first s.wire.datagrams g.new at.numbers from);
        next = omega (arith, g.next, at.next, count);
        kept = subst (λ (ds : List (List ℕ)). IsOf again (advanced again begin (length mid.retransmissions)) ds mid.history) (sym g.whole)
            (subst (λ (bs : List (List ℕ)). IsOf again (advanced again begin (length bs)) (s.wire.datagrams ++ g.new) mid.history) (sym same) all.0);
        newest = subst (λ (ds : List (List ℕ)). IsNewest first ds mid.history) (sym g.whole) all.1;
        repeats = subst (λ (ds : List (List ℕ)). AreRepeats again begin ds mid.retransmissions repeated) (sym g.whole)
            (subst (λ (bs : List (List ℕ)). AreRepeats again begin (s.wire.datagrams ++ g.new) bs repeated) (sym same)
            (repeats_more again begin s.wire.datagrams g.new s.retransmissions repeated at.repeats));
      }

  plain_comes : (step : DatagramStep) (later : List AnsweredStep) (s t : Answering) (link : Resending) (repeated : List ℕ) → DoesStep samples step s.link.wire link.wire → link.answers ≡ s.link.answers
      → Comes again first samples later (record s { link = link }) t repeated → Comes again first samples (Links (history_steps.Plain step) ∷ later) s t repeated
  plain_comes step later s t link repeated does same comes =
      let f = follows samples step s.link.wire link.wire comes.later does in
      let next : Asking = asking_of (record s { link = link }) in
      record {
        later = f.later;
        sends = comes.sends ∙ f.sends;
        more = comes.more;
        answers = comes.answers ∙ ap (λ (as' : List Resent). as' ++ comes.more) same;
        course = (
          next,
          (link.wire, makes again samples step s.link.wire link.wire does, refl),
          subst (λ (n : ℕ). AskedCourse again samples (asked_steps first samples n repeated later (sends_by samples step f.later) comes.more) next (asking_of t)) (sym f.sent)
              (subst (λ (es : List SentSample). AskedCourse again samples (asked_steps first samples (length link.wire.datagrams) repeated later es comes.more) next (asking_of t)) (sym f.left) comes.course),
        );
      }

  -- a delivered retransmission
  again_comes : (o : Option (List ℕ)) (j : ℕ) (now : Ticks) (later : List AnsweredStep) (s t : Answering) (link : Resending) (repeated : List ℕ) → slice_get s.link.retransmissions j ≡ o
      → IsAt again first begin s.link repeated
      → MatchOption o (link ≡ s.link) (λ bytes. (receipt : Receipt) × (session : Session) × Delivers now bytes s.link.wire.session receipt session
      × (link ≡ record s.link { wire = record s.link.wire { session = session; receipts = s.link.wire.receipts ++ receipt ∷ [] } }))
      → (IsAt again first begin link repeated → Comes again first samples later (record s { link = link }) t repeated)
      → Comes again first samples (Links (history_steps.DeliverAgain j now) ∷ later) s t repeated
  again_comes None j now later s t link repeated is at same rest =
      let c : Comes again first samples later s t repeated =
      subst (λ (x : Resending). Comes again first samples later (record s { link = x }) t repeated) same (rest (subst (λ (x : Resending). IsAt again first begin x repeated) (sym same) at)) in
      let none : slice_get repeated j ≡ None = no_copy_at again begin s.link.wire.datagrams s.link.retransmissions repeated j at.repeats is in
      record {
        later = c.later;
        sends = c.sends;
        more = c.more;
        answers = c.answers;
        course = rw none c.course;
      }
  again_comes (Some bytes) j now later s t link repeated is at done rest =
      let next : Resending = record s.link { wire = record s.link.wire { session = done.1; receipts = s.link.wire.receipts ++ done.0 ∷ [] } } in
      let c : Comes again first samples later (record s { link = next }) t repeated =
      subst (λ (x : Resending). Comes again first samples later (record s { link = x }) t repeated) done.3
      (rest (subst (λ (x : Resending). IsAt again first begin x repeated) (sym done.3) (record { numbers = at.numbers; next = at.next; kept = at.kept; newest = at.newest; repeats = at.repeats }))) in
      let copy = copy_at again begin s.link.wire.datagrams s.link.retransmissions repeated j bytes at.repeats is in
      let delivers : DeliversCopy again (slice_get s.link.wire.datagrams copy.0) now s.link.wire next.wire =
      subst (λ (o : Option (List ℕ)). DeliversCopy again o now s.link.wire next.wire) (sym copy.3) (bytes, copy.4, done.0, done.1, done.2, refl) in
      record {
        later = c.later;
        sends = c.sends;
        more = c.more;
        answers = c.answers;
        course = rw copy.1 (asking_of (record s { link = next }), (next.wire, delivers, refl), c.course);
      }

  answered_comes : (all_steps : List AnsweredStep) (s t : Answering) (repeated : List ℕ) → IsAt again first begin s.link repeated → AnsweredRuns samples all_steps s t
      → Comes again first samples all_steps s t repeated
  answered_comes [] s t repeated at run = record {
    later = [];
    sends = ap (λ (x : Answering). x.link.wire.sends) run ∙ sym (append-nil s.link.wire.sends);
    more = [];
    answers = ap (λ (x : Answering). x.link.answers) run ∙ sym (append-nil s.link.answers);
    course = ap asking_of run;
  }
  answered_comes (Links (history_steps.Plain step) ∷ later) s t repeated at run =
      let link : Resending = run.1.0 in
      let does = run.1.1 in
      let wire : link.wire ≡ does.0 = ap (λ (x : Resending). x.wire) does.4 in
      let history : link.history ≡ does.1 = ap (λ (x : Resending). x.history) does.4 in
      let stepped : DoesStep samples step s.link.wire link.wire = subst (DoesStep samples step s.link.wire) (sym wire) does.2 in
      let kept : KeepsAll s.link.history (sent_since s.link.wire link.wire) link.history =
      subst (λ (x : Wire). KeepsAll s.link.history (sent_since s.link.wire x) link.history) (sym wire) (subst (KeepsAll s.link.history (sent_since s.link.wire does.0)) (sym history) does.3) in
      let next_at : IsAt again first begin link repeated = plain_at step s.link link repeated at stepped kept (ap (λ (x : Resending). x.retransmissions) does.4) in
      plain_comes step later s t link repeated stepped (ap (λ (x : Resending). x.answers) does.4)
      (subst (λ (x : Answering). Comes again first samples later x t repeated) run.1.2
      (answered_comes later run.0 t repeated (subst (λ (x : Answering). IsAt again first begin x.link repeated) (sym run.1.2) next_at) run.2))
  answered_comes (Links (history_steps.Resend number now) ∷ later) s t repeated at run =
      let link : Resending = run.1.0 in
      let does = run.1.1 in
      let index : ℕ = latest_with first (length s.link.wire.datagrams) number in
      let more : List ℕ = repeated ++ repeated_by does.0 index in
      let here = resends_copy again first (advanced again begin (length s.link.retransmissions)) s.link.wire.datagrams now number s.link.history does.2 does.0 does.1 at.numbers at.kept does.3 in
      let next : Resending = record s.link { history = does.2; retransmissions = s.link.retransmissions ++ written does.0 does.1; answers = s.link.answers ++ does.0 ∷ [] } in
      let next_at : IsAt again first begin next more = record {
        numbers = at.numbers;
        next = at.next;
        kept = subst (λ (n : ℕ). IsOf again n s.link.wire.datagrams does.2) (advanced_append again begin s.link.retransmissions (written does.0 does.1)) here.0;
        newest = newest_stays first s.link.wire.datagrams now number s.link.history does.2 does.0 does.1 at.newest does.3;
        repeats = repeats_append again begin s.link.wire.datagrams s.link.retransmissions repeated (written does.0 does.1) (repeated_by does.0 index) at.repeats here.1;
      } in
      let mid : run.0 ≡ record s { link = next } = run.1.2 ∙ ap (λ (x : Resending). record s { link = x }) does.4 in
      let c : Comes again first samples later (record s { link = next }) t more =
      subst (λ (x : Answering). Comes again first samples later x t more) mid
      (answered_comes later run.0 t more (subst (λ (x : Answering). IsAt again first begin x.link more) (sym mid) next_at) run.2) in
      record {
        later = c.later;
        sends = c.sends;
        more = does.0 ∷ c.more;
        answers = c.answers ∙ append_assoc s.link.answers (does.0 ∷ []) c.more;
        course = c.course;
      }
  answered_comes (Links (history_steps.DeliverAgain j now) ∷ later) s t repeated at run =
      again_comes (slice_get s.link.retransmissions j) j now later s t run.1.0 repeated refl at run.1.1
      (λ next. subst (λ (x : Answering). Comes again first samples later x t repeated) run.1.2
      (answered_comes later run.0 t repeated (subst (λ (x : Answering). IsAt again first begin x.link repeated) (sym run.1.2) next) run.2))
  answered_comes (Polls now ∷ later) s t repeated at run =
      let next : Answering = record s { schedule = after_due now (wanted_by now s.link.wire.session s.schedule); asked = s.asked ++ asked_by now s.link.wire.session s.schedule ∷ [] } in
      let c : Comes again first samples later next t repeated =
      subst (λ (x : Answering). Comes again first samples later x t repeated) run.1 (answered_comes later run.0 t repeated (subst (λ (x : Answering). IsAt again first begin x.link repeated) (sym run.1) at) run.2) in
      record { later = c.later; sends = c.sends; more = c.more; answers = c.answers; course = (asking_of next, refl, c.course) }
  answered_comes (Notes now number ∷ later) s t repeated at run =
      let next : Answering = record s { schedule = after_answer now number s.schedule } in
      let c : Comes again first samples later next t repeated =
      subst (λ (x : Answering). Comes again first samples later x t repeated) run.1 (answered_comes later run.0 t repeated (subst (λ (x : Answering). IsAt again first begin x.link repeated) (sym run.1) at) run.2) in
      record { later = c.later; sends = c.sends; more = c.more; answers = c.answers; course = (asking_of next, refl, c.course) }

module _ (samples : List Sample) (all_steps : List AnsweredStep) (sender : Sending) (history : Past) (receiver : Session) (wants : NackSettings) (t : Answering)
    (run : AnsweredRuns samples all_steps (begins_answering sender history receiver wants) t) (settings : HistorySettings) (is_new : history_by settings ≡ Ok history) where
  begun_at : IsAt history.stream sender.stream.number history.next (begins_with sender history receiver) []
  begun_at =
      let new = new_history settings history is_new in
      record {
        numbers = tt;
        next = omega arith;
        kept = record {
          latest = subst (AreLatest []) (sym new.0) (λ place p there. absurd (cc));
          few = omega (arith, ap length new.0);
          limit = new.1;
          stream = refl;
          next = refl;
        };
        newest = record {
          none = λ e. new.0;
          newest = λ n e. absurd (omega (arith, e));
          small = omega (arith, new.3);
          some = new.2;
        };
        repeats = tt;
      }

  comes : Comes history.stream sender.stream.number samples all_steps (begins_answering sender history receiver wants) t []
  comes = answered_comes history.stream sender.stream.number history.next samples all_steps (begins_answering sender history receiver wants) t [] begun_at run

  pub answered_course : AskedCourse history.stream samples (asked_steps_of samples all_steps (begins_answering sender history receiver wants) t) (begins_asking sender receiver wants) (asking_of t)
  answered_course =
      subst (λ (as' : List Resent). AskedCourse history.stream samples (asked_steps sender.stream.number samples 0 [] all_steps t.link.wire.sends as') (begins_asking sender receiver wants) (asking_of t)) (sym comes.answers)
      (subst (λ (es : List SentSample). AskedCourse history.stream samples (asked_steps sender.stream.number samples 0 [] all_steps es comes.more) (begins_asking sender receiver wants) (asking_of t)) (sym comes.sends) comes.course)

pub answers_fill_gaps : Exact → OnTime → AnswersFillGaps
answers_fill_gaps exact on_time samples all_steps sender history receiver settings t run plain answers within =
    fills exact on_time history.stream samples (asked_steps_of samples all_steps (begins_answering sender history receiver settings) t) sender receiver settings (asking_of t)
    (answered_course samples all_steps sender history receiver settings t run answers.settings answers.new) answers.heard within plain
