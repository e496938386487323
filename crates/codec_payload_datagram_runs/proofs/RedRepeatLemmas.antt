-- A run in RED with a history is a run in RED without one in which copies of written datagrams are delivered.
use Rattle.std.proofs.Common.{◌≡◌, ◌∙◌, refl, sym, ap, subst, ℕ, ◌+◌, ◌%◌, ◌≤◌, List, [], ◌∷◌, ◌++◌, Bool, true, false, eqb, Option, Some, None, Ok, MatchOption, length, drop, arith, append_assoc, append-nil}
use Rattle.std.specs.Prelude.{All, slice_get}
use Rattle.std.proofs.Math.Seq.{drop-append_seam}
use Rattle.std.proofs.lemmas.List.{length-append}
use Rattle.codec_payload_base.specs.declared.wire.Ticks.{Ticks}
use Rattle.codec_payload_sending_history.specs.Histories.{history_by}
use Rattle.codec_payload_sending_history.specs.Packets.{Past, number_in, number_of}
use Rattle.codec_payload_sending_history.specs.declared.retransmission.HistorySettings.{HistorySettings}
use Rattle.codec_payload_sending_history.specs.declared.retransmission.Resent.{Resent}
use Rattle.codec_payload_sending_history.specs.declared.retransmission.RetransmissionStream.{RetransmissionStream}
use Rattle.codec_payload_sending_red.specs.Writers.{Writer, Writes, WritesPacket}
use Rattle.codec_payload_payloader.specs.Sending.{Sample}
use Rattle.codec_payload_sending.specs.Senders.{Sending}
use Rattle.codec_payload_receiver.specs.Sessions.{Session}
use Rattle.codec_payload_datagram_runs.proofs.RedCopies.{DeliversRedCopy, RedProceeds, red_makes}
use Rattle.codec_payload_datagram_runs.proofs.RedReleaseLemmas.{keeps_promises, releases_all}
use Rattle.codec_payload_datagram_runs.proofs.RedStepLemmas.{writes_count}
use Rattle.codec_payload_datagram_runs.proofs.RepeatLemmas.{AreLatest, Follows, From, IsNewest, IsOf, advanced, advanced_append, copy_at, follows, follows_same, from_append, from_packets, from_same, grows}
use Rattle.codec_payload_datagram_runs.proofs.RepeatLemmas.{keeps_all, new_history, new_is, newest_stays, no_copy_at, repeats_append, repeats_more, resends_copy}
use Rattle.codec_payload_datagram_runs.specs.HistoryReleases.{AreRepeats, latest_with, plain_steps, repeated_by, repeated_in, sends_by, sent_by}
use Rattle.codec_payload_datagram_runs.specs.HistoryRuns.{IsPacket, KeepsAll, sent_since, written}
use Rattle.codec_payload_datagram_runs.specs.RedHistoryReleases.{PromisesInRedWithHistory, ReleaseInRedWithHistory, RepeatsInRedWithHistory, red_plain_steps_of, red_repeated_of}
use Rattle.codec_payload_datagram_runs.specs.RedHistoryRuns.{RedHistoryRuns, RedResending, begins_in_red_with, written_since}
use Rattle.codec_payload_datagram_runs.specs.RedRuns.{DeliversWhole, DoesRedStep, RedWire, WritesAll, WritesWhatIsSent, begins_in_red}
use Rattle.codec_payload_datagram_runs.specs.WireRuns.{Receipt, Wire}
use Rattle.codec_payload_datagram_runs.specs.declared.history_run.HistoryStep.{HistoryStep}
use Rattle.codec_payload_datagram_runs.specs.declared.history_run.HistoryStep.TheVariants as history_steps
use Rattle.codec_payload_datagram_runs.specs.declared.run.DatagramStep.{DatagramStep}
use Rattle.codec_payload_datagram_runs.specs.declared.run.DatagramStep.TheVariants as steps
use Rattle.codec_payload_datagram_runs.specs.declared.run.SentSample.{SentSample}

-- Numbers of written datagrams

one_number : (w : Writer) (d out : List ℕ) (t : Writer) (n : ℕ) → number_in d ≡ Some n → Writes w d out t → number_in out ≡ Some n
one_number w d out t n is writes = by_type (eqb writes.packet.header.payload_type w.media_type) writes.written
  where
    by_type : (b : Bool) → WritesPacket b w writes.packet d out t → number_in out ≡ Some n
    by_type true in_red = ap number_of in_red.reads ∙ (sym (ap number_of writes.read) ∙ is)
    by_type false same = ap number_in same.0 ∙ is

-- they are those of the datagrams
written_numbers : (w : Writer) (n : ℕ) (ds outs : List (List ℕ)) (t : Writer) → From n ds → WritesAll w ds outs t → From n outs
written_numbers w n [] outs t from writes = subst (From n) (sym writes.0) tt
written_numbers w n (d ∷ ds) outs t from writes =
    subst (From n) (sym writes.3) (one_number w d writes.0 writes.2 (n % 65536) from.0 writes.4, written_numbers writes.2 (n + 1) ds writes.1 t from.1 writes.5)

-- What a step writes

record WritesNext (s t : RedWire) : Type 0 where
  new : List (List ℕ)
  whole : t.written ≡ s.written ++ new
  numbers : From s.wire.sending.stream.number new
  next : t.wire.sending.stream.number % 65536 ≡ (s.wire.sending.stream.number + length new) % 65536
  count : length t.wire.datagrams ≡ length s.wire.datagrams + length new

writes_nothing : (s t : RedWire) → t.written ≡ s.written → t.wire.sending ≡ s.wire.sending → t.wire.datagrams ≡ s.wire.datagrams → WritesNext s t
writes_nothing s t same sending datagrams = record {
  new = [];
  whole = same ∙ sym (append-nil s.written);
  numbers = tt;
  next = ap (λ (x : Sending). x.stream.number % 65536) sending ∙ omega arith;
  count = ap length datagrams ∙ omega arith;
}

writes_sent : (samples : List Sample) (step : DatagramStep) (s t : RedWire) → WritesWhatIsSent samples step s t → WritesNext s t
writes_sent samples step s t done =
    let g = grows samples step s.wire done.0 done.3 in
    let since : sent_since s.wire done.0 ≡ g.new = new_is s.wire done.0 g in
    let wrote : WritesAll s.writer g.new done.1 done.2 = subst (λ (ds : List (List ℕ)). WritesAll s.writer ds done.1 done.2) since done.4 in
    let many : length done.1 ≡ length g.new = writes_count s.writer g.new done.1 done.2 wrote in
    let wire : t.wire ≡ done.0 = ap (λ (x : RedWire). x.wire) done.5 in
    record {
      new = done.1;
      whole = ap (λ (x : RedWire). x.written) done.5;
      numbers = written_numbers s.writer s.wire.sending.stream.number g.new done.1 done.2 g.numbers wrote;
      next = ap (λ (x : Wire). x.sending.stream.number % 65536) wire ∙ (g.next ∙ ap (λ (n : ℕ). (s.wire.sending.stream.number + n) % 65536) (sym many));
      count = ap (λ (x : Wire). length x.datagrams) wire ∙ (ap length g.whole ∙ (length-append s.wire.datagrams g.new ∙ ap (λ (n : ℕ). length s.wire.datagrams + n) (sym many)));
    }

writes_not : (o : Option (List ℕ)) (now : Ticks) (s t : RedWire)
    → MatchOption o (t ≡ s) (λ bytes. (receipt : Receipt) × (session : Session) × DeliversWhole now bytes s.wire.session receipt session
    × (t ≡ record s { wire = record s.wire { session = session; receipts = s.wire.receipts ++ receipt ∷ [] } }))
    → WritesNext s t
writes_not None now s t same = writes_nothing s t (ap (λ (x : RedWire). x.written) same) (ap (λ (x : RedWire). x.wire.sending) same) (ap (λ (x : RedWire). x.wire.datagrams) same)
writes_not (Some bytes) now s t done =
    writes_nothing s t (ap (λ (x : RedWire). x.written) done.3) (ap (λ (x : RedWire). x.wire.sending) done.3) (ap (λ (x : RedWire). x.wire.datagrams) done.3)

writes_next : (samples : List Sample) (step : DatagramStep) (s t : RedWire) → DoesRedStep samples step s t → WritesNext s t
writes_next samples (steps.Send i) s t does = writes_sent samples (steps.Send i) s t does
writes_next samples (steps.Deliver k now) s t does = writes_not (slice_get s.written k) now s t does
writes_next samples (steps.Pop now) s t does = writes_sent samples (steps.Pop now) s t does
writes_next samples steps.Finish s t does = writes_sent samples steps.Finish s t does

written_new : (s t : RedWire) (g : WritesNext s t) → written_since s t ≡ g.new
written_new s t g = ap (drop (length s.written)) g.whole ∙ drop-append_seam s.written g.new

-- no step loses a written datagram
pub none_unwritten : (samples : List Sample) (step : DatagramStep) (s t : RedWire) → DoesRedStep samples step s t → length s.written ≤ length t.written
none_unwritten samples step s t does =
    let g = writes_next samples step s t does in
    omega (arith, ap length g.whole, length-append s.written g.new)

-- what a step writes are packets
pub packets_written : (samples : List Sample) (step : DatagramStep) (s t : RedWire) → DoesRedStep samples step s t → All IsPacket (written_since s t)
packets_written samples step s t does =
    let g = writes_next samples step s t does in
    subst (All IsPacket) (sym (written_new s t g)) (from_packets s.wire.sending.stream.number g.new g.numbers)

-- Whole runs

-- a state of a run in RED with a history; `repeated` has the indices of the written datagrams that the retransmissions repeat, from
-- the number `begin` on
record IsRedAt (again : Option RetransmissionStream) (first begin : ℕ) (s : RedResending) (repeated : List ℕ) : Type 0 where
  numbers : From first s.red.written
  next : s.red.wire.sending.stream.number % 65536 ≡ (first + length s.red.written) % 65536
  count : length s.red.wire.datagrams ≡ length s.red.written
  kept : IsOf again (advanced again begin (length s.retransmissions)) s.red.written s.history
  newest : IsNewest first s.red.written s.history
  repeats : AreRepeats again begin s.red.written s.retransmissions repeated

-- the run without a history
record ComesInRed (again : Option RetransmissionStream) (first begin : ℕ) (samples : List Sample) (all_steps : List HistoryStep) (s t : RedResending) (repeated : List ℕ) : Type 0 where
  later : List SentSample
  sends : t.red.wire.sends ≡ s.red.wire.sends ++ later
  more : List Resent
  answers : t.answers ≡ s.answers ++ more
  course : RedProceeds again samples (plain_steps first samples (length s.red.written) repeated all_steps later more) s.red t.red
  repeats : AreRepeats again begin t.red.written t.retransmissions (repeated_in first samples (length s.red.written) repeated all_steps later more)

follows_delivery : (samples : List Sample) (k : ℕ) (o : Option (List ℕ)) (now : Ticks) (s t : RedWire) (rest : List SentSample)
    → MatchOption o (t ≡ s) (λ bytes. (receipt : Receipt) × (session : Session) × DeliversWhole now bytes s.wire.session receipt session
    × (t ≡ record s { wire = record s.wire { session = session; receipts = s.wire.receipts ++ receipt ∷ [] } }))
    → Follows samples (steps.Deliver k now) s.wire t.wire rest
follows_delivery samples k None now s t rest same =
    follows_same samples (steps.Deliver k now) s.wire t.wire rest refl refl (ap (λ (x : RedWire). x.wire.sends) same) (ap (λ (x : RedWire). x.wire.datagrams) same)
follows_delivery samples k (Some bytes) now s t rest done =
    follows_same samples (steps.Deliver k now) s.wire t.wire rest refl refl (ap (λ (x : RedWire). x.wire.sends) done.3) (ap (λ (x : RedWire). x.wire.datagrams) done.3)

follows_sending : (samples : List Sample) (step : DatagramStep) (s t : RedWire) (rest : List SentSample) → WritesWhatIsSent samples step s t → Follows samples step s.wire t.wire rest
follows_sending samples step s t rest done =
    subst (λ (x : Wire). Follows samples step s.wire x rest) (sym (ap (λ (x : RedWire). x.wire) done.5)) (follows samples step s.wire done.0 rest done.3)

follows_in_red : (samples : List Sample) (step : DatagramStep) (s t : RedWire) (rest : List SentSample) → DoesRedStep samples step s t → Follows samples step s.wire t.wire rest
follows_in_red samples (steps.Send i) s t rest does = follows_sending samples (steps.Send i) s t rest does
follows_in_red samples (steps.Deliver k now) s t rest does = follows_delivery samples k (slice_get s.written k) now s t rest does
follows_in_red samples (steps.Pop now) s t rest does = follows_sending samples (steps.Pop now) s t rest does
follows_in_red samples steps.Finish s t rest does = follows_sending samples steps.Finish s t rest does

module _ (again : Option RetransmissionStream) (first begin : ℕ) (samples : List Sample) where
  -- the state after a step of the run without a history
  plain_at : (step : DatagramStep) (s mid : RedResending) (repeated : List ℕ) → IsRedAt again first begin s repeated → DoesRedStep samples step s.red mid.red
      → KeepsAll s.history (written_since s.red mid.red) mid.history → mid.retransmissions ≡ s.retransmissions → IsRedAt again first begin mid repeated
  plain_at step s mid repeated at does keeps same =
      let g = writes_next samples step s.red mid.red does in
      let many : length mid.red.written ≡ length s.red.written + length g.new = ap length g.whole ∙ length-append s.red.written g.new in
      let from = from_same s.red.wire.sending.stream.number (first + length s.red.written) g.new at.next g.numbers in
      let all = keeps_all again first (advanced again begin (length s.retransmissions)) s.red.written g.new s.history mid.history at.kept at.newest from
      (subst (λ (ds : List (List ℕ)). KeepsAll s.history ds mid.history) (written_new s.red mid.red g) keeps) in
      record {
        numbers = subst (From first) (sym g.whole) (from_append first s.red.written g.new at.numbers from);
        next = omega (arith, g.next, at.next, many);
        count = omega (arith, g.count, at.count, many);
        kept = subst (λ (ds : List (List ℕ)). IsOf again (advanced again begin (length mid.retransmissions)) ds mid.history) (sym g.whole)
            (subst (λ (bs : List (List ℕ)). IsOf again (advanced again begin (length bs)) (s.red.written ++ g.new) mid.history) (sym same) all.0);
        newest = subst (λ (ds : List (List ℕ)). IsNewest first ds mid.history) (sym g.whole) all.1;
        repeats = subst (λ (ds : List (List ℕ)). AreRepeats again begin ds mid.retransmissions repeated) (sym g.whole)
            (subst (λ (bs : List (List ℕ)). AreRepeats again begin (s.red.written ++ g.new) bs repeated) (sym same)
            (repeats_more again begin s.red.written g.new s.retransmissions repeated at.repeats));
      }

  plain_comes : (step : DatagramStep) (later : List HistoryStep) (s mid t : RedResending) (repeated : List ℕ) → DoesRedStep samples step s.red mid.red → mid.answers ≡ s.answers
      → length s.red.wire.datagrams ≡ length s.red.written → length mid.red.wire.datagrams ≡ length mid.red.written
      → ComesInRed again first begin samples later mid t repeated → ComesInRed again first begin samples (history_steps.Plain step ∷ later) s t repeated
  plain_comes step later s mid t repeated does same many many_after comes =
      let f = follows_in_red samples step s.red mid.red comes.later does in
      let sent : sent_by samples (length s.red.written) step f.later ≡ length mid.red.written =
      ap (λ (n : ℕ). sent_by samples n step f.later) (sym many) ∙ (f.sent ∙ many_after) in
      record {
        later = f.later;
        sends = comes.sends ∙ f.sends;
        more = comes.more;
        answers = comes.answers ∙ ap (λ (as' : List Resent). as' ++ comes.more) same;
        course = (
          mid.red,
          red_makes again samples step s.red mid.red does,
          subst (λ (n : ℕ). RedProceeds again samples (plain_steps first samples n repeated later (sends_by samples step f.later) comes.more) mid.red t.red) (sym sent)
              (subst (λ (es : List SentSample). RedProceeds again samples (plain_steps first samples (length mid.red.written) repeated later es comes.more) mid.red t.red) (sym f.left) comes.course),
        );
        repeats = subst (λ (n : ℕ). AreRepeats again begin t.red.written t.retransmissions (repeated_in first samples n repeated later (sends_by samples step f.later) comes.more)) (sym sent)
            (subst (λ (es : List SentSample). AreRepeats again begin t.red.written t.retransmissions (repeated_in first samples (length mid.red.written) repeated later es comes.more)) (sym f.left) comes.repeats);
      }

  -- a delivered retransmission
  again_comes : (o : Option (List ℕ)) (j : ℕ) (now : Ticks) (later : List HistoryStep) (s mid t : RedResending) (repeated : List ℕ) → slice_get s.retransmissions j ≡ o
      → IsRedAt again first begin s repeated
      → MatchOption o (mid ≡ s) (λ bytes. (receipt : Receipt) × (session : Session) × DeliversWhole now bytes s.red.wire.session receipt session
      × (mid ≡ record s { red = record s.red { wire = record s.red.wire { session = session; receipts = s.red.wire.receipts ++ receipt ∷ [] } } }))
      → (IsRedAt again first begin mid repeated → ComesInRed again first begin samples later mid t repeated) → ComesInRed again first begin samples (history_steps.DeliverAgain j now ∷ later) s t repeated
  again_comes None j now later s mid t repeated is at same rest =
      let c : ComesInRed again first begin samples later s t repeated =
      subst (λ (x : RedResending). ComesInRed again first begin samples later x t repeated) same (rest (subst (λ (x : RedResending). IsRedAt again first begin x repeated) (sym same) at)) in
      let none : slice_get repeated j ≡ None = no_copy_at again begin s.red.written s.retransmissions repeated j at.repeats is in
      record {
        later = c.later;
        sends = c.sends;
        more = c.more;
        answers = c.answers;
        course = rw none c.course;
        repeats = c.repeats;
      }
  again_comes (Some bytes) j now later s mid t repeated is at done rest =
      let next : RedResending = record s { red = record s.red { wire = record s.red.wire { session = done.1; receipts = s.red.wire.receipts ++ done.0 ∷ [] } } } in
      let c : ComesInRed again first begin samples later next t repeated =
      subst (λ (x : RedResending). ComesInRed again first begin samples later x t repeated) done.3
      (rest (subst (λ (x : RedResending). IsRedAt again first begin x repeated) (sym done.3)
      (record { numbers = at.numbers; next = at.next; count = at.count; kept = at.kept; newest = at.newest; repeats = at.repeats }))) in
      let copy = copy_at again begin s.red.written s.retransmissions repeated j bytes at.repeats is in
      let delivers : DeliversRedCopy again (slice_get s.red.written copy.0) now s.red next.red =
      subst (λ (o : Option (List ℕ)). DeliversRedCopy again o now s.red next.red) (sym copy.3) (bytes, copy.4, done.0, done.1, done.2, refl) in
      record {
        later = c.later;
        sends = c.sends;
        more = c.more;
        answers = c.answers;
        course = rw copy.1 (next.red, delivers, c.course);
        repeats = c.repeats;
      }

  history_comes : (all_steps : List HistoryStep) (s t : RedResending) (repeated : List ℕ) → IsRedAt again first begin s repeated → RedHistoryRuns samples all_steps s t
      → ComesInRed again first begin samples all_steps s t repeated
  history_comes [] s t repeated at run = record {
    later = [];
    sends = ap (λ (x : RedResending). x.red.wire.sends) run ∙ sym (append-nil s.red.wire.sends);
    more = [];
    answers = ap (λ (x : RedResending). x.answers) run ∙ sym (append-nil s.answers);
    course = ap (λ (x : RedResending). x.red) run;
    repeats = subst (λ (x : RedResending). AreRepeats again begin x.red.written x.retransmissions repeated) (sym run) at.repeats;
  }
  history_comes (history_steps.Plain step ∷ later) s t repeated at run =
      let mid : RedResending = run.0 in
      let does = run.1 in
      let red : mid.red ≡ does.0 = ap (λ (x : RedResending). x.red) does.4 in
      let history : mid.history ≡ does.1 = ap (λ (x : RedResending). x.history) does.4 in
      let stepped : DoesRedStep samples step s.red mid.red = subst (DoesRedStep samples step s.red) (sym red) does.2 in
      let kept : KeepsAll s.history (written_since s.red mid.red) mid.history =
      subst (λ (x : RedWire). KeepsAll s.history (written_since s.red x) mid.history) (sym red) (subst (KeepsAll s.history (written_since s.red does.0)) (sym history) does.3) in
      let next = plain_at step s mid repeated at stepped kept (ap (λ (x : RedResending). x.retransmissions) does.4) in
      plain_comes step later s mid t repeated stepped (ap (λ (x : RedResending). x.answers) does.4) at.count next.count (history_comes later mid t repeated next run.2)
  history_comes (history_steps.Resend number now ∷ later) s t repeated at run =
      let does = run.1 in
      let index : ℕ = latest_with first (length s.red.written) number in
      let more : List ℕ = repeated ++ repeated_by does.0 index in
      let here = resends_copy again first (advanced again begin (length s.retransmissions)) s.red.written now number s.history does.2 does.0 does.1 at.numbers at.kept does.3 in
      let next : RedResending = record s { history = does.2; retransmissions = s.retransmissions ++ written does.0 does.1; answers = s.answers ++ does.0 ∷ [] } in
      let next_at : IsRedAt again first begin next more = record {
        numbers = at.numbers;
        next = at.next;
        count = at.count;
        kept = subst (λ (n : ℕ). IsOf again n s.red.written does.2) (advanced_append again begin s.retransmissions (written does.0 does.1)) here.0;
        newest = newest_stays first s.red.written now number s.history does.2 does.0 does.1 at.newest does.3;
        repeats = repeats_append again begin s.red.written s.retransmissions repeated (written does.0 does.1) (repeated_by does.0 index) at.repeats here.1;
      } in
      let c : ComesInRed again first begin samples later next t more =
      subst (λ (x : RedResending). ComesInRed again first begin samples later x t more) does.4
      (history_comes later run.0 t more (subst (λ (x : RedResending). IsRedAt again first begin x more) (sym does.4) next_at) run.2) in
      record {
        later = c.later;
        sends = c.sends;
        more = does.0 ∷ c.more;
        answers = c.answers ∙ append_assoc s.answers (does.0 ∷ []) c.more;
        course = c.course;
        repeats = c.repeats;
      }
  history_comes (history_steps.DeliverAgain j now ∷ later) s t repeated at run =
      again_comes (slice_get s.retransmissions j) j now later s run.0 t repeated refl at run.1 (λ next. history_comes later run.0 t repeated next run.2)

-- The theorem

module _ (samples : List Sample) (all_steps : List HistoryStep) (sender : Sending) (writer : Writer) (history : Past) (receiver : Session) (t : RedResending)
    (run : RedHistoryRuns samples all_steps (begins_in_red_with sender writer history receiver) t) (settings : HistorySettings) (is_new : history_by settings ≡ Ok history) where
  abbrev again : Option RetransmissionStream
  again = history.stream

  abbrev first : ℕ
  first = sender.stream.number

  begun_at : IsRedAt again first history.next (begins_in_red_with sender writer history receiver) []
  begun_at =
      let new = new_history settings history is_new in
      record {
        numbers = tt;
        next = omega arith;
        count = refl;
        kept = record {
          latest = subst (AreLatest []) (sym new.0) (λ place p there. absurd (cc));
          few = omega (arith, ap length new.0);
          limit = new.1;
          stream = refl;
          next = refl;
        };
        newest = record {
          none = λ e. new.0;
          newest = λ n e. absurd (omega (arith, e));
          small = omega (arith, new.3);
          some = new.2;
        };
        repeats = tt;
      }

  comes : ComesInRed again first history.next samples all_steps (begins_in_red_with sender writer history receiver) t []
  comes = history_comes again first history.next samples all_steps (begins_in_red_with sender writer history receiver) t [] begun_at run

  pub course : RedProceeds again samples (red_plain_steps_of samples all_steps (begins_in_red_with sender writer history receiver) t) (begins_in_red sender writer receiver) t.red
  course = subst (λ (as' : List Resent). RedProceeds again samples (plain_steps first samples 0 [] all_steps t.red.wire.sends as') (begins_in_red sender writer receiver) t.red) (sym comes.answers)
      (subst (λ (es : List SentSample). RedProceeds again samples (plain_steps first samples 0 [] all_steps es comes.more) (begins_in_red sender writer receiver) t.red) (sym comes.sends) comes.course)

  pub repeats : AreRepeats again history.next t.red.written t.retransmissions (red_repeated_of samples all_steps (begins_in_red_with sender writer history receiver) t)
  repeats = subst (λ (as' : List Resent). AreRepeats again history.next t.red.written t.retransmissions (repeated_in first samples 0 [] all_steps t.red.wire.sends as')) (sym comes.answers)
      (subst (λ (es : List SentSample). AreRepeats again history.next t.red.written t.retransmissions (repeated_in first samples 0 [] all_steps es comes.more)) (sym comes.sends) comes.repeats)

pub repeats_in_red_with_history : RepeatsInRedWithHistory
repeats_in_red_with_history samples all_steps sender writer history receiver t run settings is_new = repeats samples all_steps sender writer history receiver t run settings is_new

pub promises_in_red_with_history : PromisesInRedWithHistory
promises_in_red_with_history samples all_steps sender writer history receiver t run answers within in_turn =
    keeps_promises history.stream samples (red_plain_steps_of samples all_steps (begins_in_red_with sender writer history receiver) t) sender writer receiver t.red
    (course samples all_steps sender writer history receiver t run answers.settings answers.new) answers.heard within in_turn

pub release_in_red_with_history : ReleaseInRedWithHistory
release_in_red_with_history samples all_steps sender writer history receiver t run answers within =
    releases_all history.stream samples (red_plain_steps_of samples all_steps (begins_in_red_with sender writer history receiver) t) sender writer receiver t.red
    (course samples all_steps sender writer history receiver t run answers.settings answers.new) answers.heard within
