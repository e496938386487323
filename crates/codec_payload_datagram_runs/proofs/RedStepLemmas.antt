-- A run in RED, as steps of the receiver over written datagrams; and what the writer wrote.
use Rattle.std.proofs.Common.{◌≡◌, ◌≢◌, ◌∙◌, refl, sym, ap, subst, ℕ, suc, ◌+◌, List, []}
use Rattle.std.proofs.Common.{◌∷◌, ◌++◌, true, false, ltb, Option, Some, None, Err, MatchOption, drop, length, arith, append_assoc, append-nil}
use Rattle.std.specs.Prelude.{slice_get}
use Rattle.std.proofs.Math.Seq.{drop-append_seam}
use Rattle.std.proofs.lemmas.Bool.{lt-ltb, le-ltb}
use Rattle.std.proofs.lemmas.List.{length-append}
use Rattle.std.proofs.lemmas.Option.{slice_get_within}
use Rattle.codec_payload_base.specs.declared.error.PacketError.TheVariants as faults
use Rattle.codec_payload_base.specs.declared.wire.Ticks.{Ticks}
use Rattle.codec_payload_sending_history.specs.declared.retransmission.RetransmissionStream.{RetransmissionStream}
use Rattle.codec_payload_sending_red.specs.Writers.{Writer}
use Rattle.codec_payload_buffer_runs.specs.Schedule.{Answer}
use Rattle.codec_payload_buffer_runs.specs.declared.run.Step.{Step}
use Rattle.codec_payload_buffer_runs.specs.declared.run.Step.TheVariants as run_steps
use Rattle.codec_payload_payloader.specs.Sending.{Sample}
use Rattle.codec_payload_receiver.specs.Sessions.{Ends, Session}
use Rattle.codec_payload_datagram_runs.proofs.Courses.{IsCopy}
use Rattle.codec_payload_datagram_runs.proofs.RedCopies.{DeliversRedCopy, RedProceeds}
use Rattle.codec_payload_datagram_runs.proofs.StepLemmas.{get_append, past_end}
use Rattle.codec_payload_datagram_runs.specs.HistoryRuns.{sent_since}
use Rattle.codec_payload_datagram_runs.specs.RedRuns.{DeliversWhole, RedWire, WritesAll, WritesWhatIsSent}
use Rattle.codec_payload_datagram_runs.specs.Releases.{received_steps, sending_steps, sends_after, sent_after, times_of, times_sent}
use Rattle.codec_payload_datagram_runs.specs.WireRuns.{DoesStep, PopsUnit, Receipt, Runs, SendsIt, Wire}
use Rattle.codec_payload_datagram_runs.specs.declared.run.DatagramStep.{DatagramStep}
use Rattle.codec_payload_datagram_runs.specs.declared.run.DatagramStep.TheVariants as steps
use Rattle.codec_payload_datagram_runs.specs.declared.run.SentSample.{SentSample}

-- The writer

pub writes_count : (w : Writer) (ds outs : List (List ℕ)) (t : Writer) → WritesAll w ds outs t → length outs ≡ length ds
writes_count w [] outs t writes = ap length writes.0
writes_count w (d ∷ ds) outs t writes = ap length writes.3 ∙ ap suc (writes_count writes.2 ds writes.1 t writes.5)

writes_append : (w : Writer) (ds outs : List (List ℕ)) (v : Writer) (es more : List (List ℕ)) (t : Writer) → WritesAll w ds outs v → WritesAll v es more t
    → WritesAll w (ds ++ es) (outs ++ more) t
writes_append w [] outs v es more t one two =
    subst (λ (os : List (List ℕ)). WritesAll w es (os ++ more) t) (sym one.0) (subst (λ (x : Writer). WritesAll x es more t) one.1 two)
writes_append w (d ∷ ds) outs v es more t one two =
    (one.0, one.1 ++ more, one.2, ap (λ (os : List (List ℕ)). os ++ more) one.3, one.4, writes_append one.2 ds one.1 v es more t one.5 two)

-- The datagrams of a step

-- a step appends what it sends
abbrev Gained : Wire → Wire → Type 0
Gained s t = t.datagrams ≡ s.datagrams ++ sent_since s t

gained_by : (s t : Wire) (new : List (List ℕ)) → t.datagrams ≡ s.datagrams ++ new → Gained s t × (sent_since s t ≡ new)
gained_by s t new is =
    let since : sent_since s t ≡ new = ap (λ (ds : List (List ℕ)). drop (length s.datagrams) ds) is ∙ drop-append_seam s.datagrams new in
    (is ∙ ap (λ (ds : List (List ℕ)). s.datagrams ++ ds) (sym since), since)

gained_none : (s t : Wire) → t.datagrams ≡ s.datagrams → Gained s t × (sent_since s t ≡ [])
gained_none s t same = gained_by s t [] (same ∙ sym (append-nil s.datagrams))

gained_sample : (o : Option Sample) (s t : Wire)
    → MatchOption o (t ≡ s) (λ sample. (entry : SentSample) × SendsIt sample s.sending s.datagrams entry t.sending t.datagrams
    × (t ≡ record s { sending = t.sending; datagrams = t.datagrams; sends = s.sends ++ entry ∷ [] }))
    → Gained s t
gained_sample None s t same = (gained_none s t (ap (λ (x : Wire). x.datagrams) same)).0
gained_sample (Some sample) s t done = (gained_by s t t.sending.datagrams done.1.gained).0

-- What was written in a run

written_step : (samples : List Sample) (step : DatagramStep) (w : Writer) (s t : RedWire) → ((wire : Wire) → DoesStep samples step s.wire wire → Gained s.wire wire)
    → WritesWhatIsSent samples step s t → WritesAll w s.wire.datagrams s.written s.writer → WritesAll w t.wire.datagrams t.written t.writer
written_step samples step w s t gains done before =
    let gained : done.0.datagrams ≡ s.wire.datagrams ++ sent_since s.wire done.0 = gains done.0 done.3 in
    subst (λ (x : RedWire). WritesAll w x.wire.datagrams x.written x.writer) (sym done.5)
    (subst (λ (ds : List (List ℕ)). WritesAll w ds (s.written ++ done.1) done.2) (sym gained)
    (writes_append w s.wire.datagrams s.written s.writer (sent_since s.wire done.0) done.1 done.2 before done.4))

-- a delivery writes nothing
written_delivery : (again : Option RetransmissionStream) (o : Option (List ℕ)) (now : Ticks) (w : Writer) (s t : RedWire) → DeliversRedCopy again o now s t
    → WritesAll w s.wire.datagrams s.written s.writer → WritesAll w t.wire.datagrams t.written t.writer
written_delivery again None now w s t same before = subst (λ (x : RedWire). WritesAll w x.wire.datagrams x.written x.writer) (sym same) before
written_delivery again (Some datagram) now w s t done before = subst (λ (x : RedWire). WritesAll w x.wire.datagrams x.written x.writer) (sym done.5) before

pub written_in : (again : Option RetransmissionStream) (samples : List Sample) (all_steps : List DatagramStep) (w : Writer) (s t : RedWire) → RedProceeds again samples all_steps s t
    → WritesAll w s.wire.datagrams s.written s.writer → WritesAll w t.wire.datagrams t.written t.writer
written_in again samples [] w s t run before = subst (λ (x : RedWire). WritesAll w x.wire.datagrams x.written x.writer) (sym run) before
written_in again samples (steps.Send i ∷ later) w s t run before =
    written_in again samples later w run.0 t run.2 (written_step samples (steps.Send i) w s run.0 (λ wire does. gained_sample (slice_get samples i) s.wire wire does) run.1 before)
written_in again samples (steps.Deliver k now ∷ later) w s t run before =
    written_in again samples later w run.0 t run.2 (written_delivery again (slice_get s.written k) now w s run.0 run.1 before)
written_in again samples (steps.Pop now ∷ later) w s t run before =
    written_in again samples later w run.0 t run.2
    (written_step samples (steps.Pop now) w s run.0 (λ wire does. (gained_none s.wire wire (ap (λ (x : Wire). x.datagrams) does.4)).0) run.1 before)
written_in again samples (steps.Finish ∷ later) w s t run before =
    written_in again samples later w run.0 t run.2
    (written_step samples steps.Finish w s run.0 (λ wire does. (gained_none s.wire wire (ap (λ (x : Wire). x.datagrams) does.2)).0) run.1 before)

-- What is sent does not depend on what is received

abbrev pub only_sends : List DatagramStep → List DatagramStep
only_sends [] = []
only_sends (steps.Send i ∷ later) = steps.Send i ∷ only_sends later
only_sends (steps.Deliver k now ∷ later) = only_sends later
only_sends (steps.Pop now ∷ later) = only_sends later
only_sends (steps.Finish ∷ later) = only_sends later

pub same_times : (clock_rate : ℕ) (samples : List Sample) (all_steps : List DatagramStep) (sends : List SentSample)
    → times_sent clock_rate samples (only_sends all_steps) sends ≡ times_sent clock_rate samples all_steps sends
same_times clock_rate samples [] sends = refl
same_times clock_rate samples (steps.Send i ∷ later) sends =
    ap (λ (ts : List ℕ). times_of clock_rate (slice_get samples i) sends ++ ts) (same_times clock_rate samples later (sends_after (slice_get samples i) sends))
same_times clock_rate samples (steps.Deliver k now ∷ later) sends = same_times clock_rate samples later sends
same_times clock_rate samples (steps.Pop now ∷ later) sends = same_times clock_rate samples later sends
same_times clock_rate samples (steps.Finish ∷ later) sends = same_times clock_rate samples later sends

pub same_sends : (mtu : ℕ) (all_steps : List DatagramStep) → sending_steps mtu (only_sends all_steps) ≡ sending_steps mtu all_steps
same_sends mtu [] = refl
same_sends mtu (steps.Send i ∷ later) = ap (λ (ss : List Step). run_steps.Send i mtu ∷ ss) (same_sends mtu later)
same_sends mtu (steps.Deliver k now ∷ later) = same_sends mtu later
same_sends mtu (steps.Pop now ∷ later) = same_sends mtu later
same_sends mtu (steps.Finish ∷ later) = same_sends mtu later

-- a run of the sender alone
pub record SendsAlone (samples : List Sample) (all_steps : List DatagramStep) (x : Wire) (t : RedWire) : Type 0 where
  pub end : Wire
  pub runs : Runs samples (only_sends all_steps) x end
  pub sending : end.sending ≡ t.wire.sending
  pub datagrams : end.datagrams ≡ t.wire.datagrams
  pub sends : end.sends ≡ t.wire.sends

abbrev AreAlike : Wire → RedWire → Type 0
AreAlike x s = (x.sending ≡ s.wire.sending) × (x.datagrams ≡ s.wire.datagrams) × (x.sends ≡ s.wire.sends)

-- the same step for a wire with this sender and these datagrams
record SendsOnce (samples : List Sample) (i : ℕ) (x : Wire) (s : RedWire) : Type 0 where
  mid : Wire
  does : DoesStep samples (steps.Send i) x mid
  alike : AreAlike mid s

send_once : (samples : List Sample) (i : ℕ) (o : Option Sample) (x s wire : Wire) → slice_get samples i ≡ o → x.sending ≡ s.sending → x.datagrams ≡ s.datagrams → x.sends ≡ s.sends
    → MatchOption o (wire ≡ s) (λ sample. (entry : SentSample) × SendsIt sample s.sending s.datagrams entry wire.sending wire.datagrams
    × (wire ≡ record s { sending = wire.sending; datagrams = wire.datagrams; sends = s.sends ++ entry ∷ [] }))
    → (mid : Wire) × DoesStep samples (steps.Send i) x mid × (mid.sending ≡ wire.sending) × (mid.datagrams ≡ wire.datagrams) × (mid.sends ≡ wire.sends)
send_once samples i None x s wire is sending datagrams sends_are same = (
  x,
  subst (λ (o : Option Sample). MatchOption o (x ≡ x) (λ sample. (entry : SentSample) × SendsIt sample x.sending x.datagrams entry x.sending x.datagrams
      × (x ≡ record x { sending = x.sending; datagrams = x.datagrams; sends = x.sends ++ entry ∷ [] }))) (sym is) refl,
  sending ∙ ap (λ (y : Wire). y.sending) (sym same),
  datagrams ∙ ap (λ (y : Wire). y.datagrams) (sym same),
  sends_are ∙ ap (λ (y : Wire). y.sends) (sym same),
)
send_once samples i (Some sample) x s wire is sending datagrams sends_are done =
    let entry : SentSample = done.0 in
    let mid : Wire = record x { sending = wire.sending; datagrams = wire.datagrams; sends = x.sends ++ entry ∷ [] } in
    let sends : SendsIt sample x.sending x.datagrams entry wire.sending wire.datagrams =
    subst (λ (ds : List (List ℕ)). SendsIt sample x.sending ds entry wire.sending wire.datagrams) (sym datagrams)
    (rw sending done.1) in (
      mid,
      subst (λ (o : Option Sample). MatchOption o (mid ≡ x) (λ one. (e : SentSample) × SendsIt one x.sending x.datagrams e mid.sending mid.datagrams
          × (mid ≡ record x { sending = mid.sending; datagrams = mid.datagrams; sends = x.sends ++ e ∷ [] }))) (sym is) (entry, sends, refl),
      refl,
      refl,
      ap (λ (es : List SentSample). es ++ entry ∷ []) sends_are ∙ ap (λ (y : Wire). y.sends) (sym done.2),
    )

-- a step that sends nothing
alone_later : (samples : List Sample) (later : List DatagramStep) (x : Wire) (t : RedWire) (all_steps : List DatagramStep) → only_sends all_steps ≡ only_sends later
    → SendsAlone samples later x t → SendsAlone samples all_steps x t
alone_later samples later x t all_steps same alone = record {
  end = alone.end;
  runs = subst (λ (ss : List DatagramStep). Runs samples ss x alone.end) (sym same) alone.runs;
  sending = alone.sending;
  datagrams = alone.datagrams;
  sends = alone.sends;
}

delivery_alike : (again : Option RetransmissionStream) (o : Option (List ℕ)) (now : Ticks) (x : Wire) (s t : RedWire) → DeliversRedCopy again o now s t → AreAlike x s → AreAlike x t
delivery_alike again None now x s t same alike = subst (AreAlike x) (sym same) alike
delivery_alike again (Some datagram) now x s t done alike = subst (AreAlike x) (sym done.5) alike

pub sends_alone : (again : Option RetransmissionStream) (samples : List Sample) (all_steps : List DatagramStep) (x : Wire) (s t : RedWire) → RedProceeds again samples all_steps s t → AreAlike x s → SendsAlone samples all_steps x t
sends_alone again samples [] x s t run alike = record {
  end = x;
  runs = refl;
  sending = alike.0 ∙ ap (λ (y : RedWire). y.wire.sending) (sym run);
  datagrams = alike.1 ∙ ap (λ (y : RedWire). y.wire.datagrams) (sym run);
  sends = alike.2 ∙ ap (λ (y : RedWire). y.wire.sends) (sym run);
}
sends_alone again samples (steps.Send i ∷ later) x s t run alike =
    let done = run.1 in
    let one = send_once samples i (slice_get samples i) x s.wire done.0 refl alike.0 alike.1 alike.2 done.3 in
    let rest = sends_alone again samples later one.0 run.0 t run.2
    (one.2 ∙ ap (λ (y : RedWire). y.wire.sending) (sym done.5), one.3 ∙ ap (λ (y : RedWire). y.wire.datagrams) (sym done.5), one.4 ∙ ap (λ (y : RedWire). y.wire.sends) (sym done.5)) in
    record { end = rest.end; runs = (one.0, one.1, rest.runs); sending = rest.sending; datagrams = rest.datagrams; sends = rest.sends }
sends_alone again samples (steps.Deliver k now ∷ later) x s t run alike =
    alone_later samples later x t (steps.Deliver k now ∷ later) refl
    (sends_alone again samples later x run.0 t run.2 (delivery_alike again (slice_get s.written k) now x s run.0 run.1 alike))
sends_alone again samples (steps.Pop now ∷ later) x s t run alike =
    let done = run.1 in
    let same : run.0.wire ≡ record s.wire { session = done.3.1; pops = s.wire.pops ++ done.3.0 ∷ [] } = ap (λ (y : RedWire). y.wire) done.5 ∙ done.3.4 in
    alone_later samples later x t (steps.Pop now ∷ later) refl
    (sends_alone again samples later x run.0 t run.2 (alike.0 ∙ ap (λ (y : Wire). y.sending) (sym same), alike.1 ∙ ap (λ (y : Wire). y.datagrams) (sym same), alike.2 ∙ ap (λ (y : Wire). y.sends) (sym same)))
sends_alone again samples (steps.Finish ∷ later) x s t run alike =
    let done = run.1 in
    let same : run.0.wire ≡ record s.wire { session = done.3.0 } = ap (λ (y : RedWire). y.wire) done.5 ∙ done.3.2 in
    alone_later samples later x t (steps.Finish ∷ later) refl
    (sends_alone again samples later x run.0 t run.2 (alike.0 ∙ ap (λ (y : Wire). y.sending) (sym same), alike.1 ∙ ap (λ (y : Wire). y.datagrams) (sym same), alike.2 ∙ ap (λ (y : Wire). y.sends) (sym same)))

-- What is received

-- the receiver makes these steps over copies of these written datagrams, and pops have these answers
abbrev pub RedTakes : Option RetransmissionStream → List DatagramStep → List (List ℕ) → Session → List Answer → Session → Type 0
RedTakes again [] written s answers t = (answers ≡ []) × (t ≡ s)
RedTakes again (steps.Send i ∷ later) written s answers t = RedTakes again later written s answers t
RedTakes again (steps.Deliver k now ∷ later) written s answers t =
    (datagram : List ℕ) × (slice_get written k ≡ Some datagram) × (bytes : List ℕ) × IsCopy again datagram bytes
    × (receipt : Receipt) × (mid : Session) × DeliversWhole now bytes s receipt mid × RedTakes again later written mid answers t
RedTakes again (steps.Pop now ∷ later) written s answers t =
    (answer : Answer) × (more : List Answer) × (mid : Session) × (answers ≡ answer ∷ more) × (answer ≢ Some (Err faults.OutOfMemory)) × PopsUnit now s answer mid
    × RedTakes again later written mid more t
RedTakes again (steps.Finish ∷ later) written s answers t = (mid : Session) × Ends s mid × RedTakes again later written mid answers t

-- the effect of the steps of a run
pub record RedComes (again : Option RetransmissionStream) (samples : List Sample) (all_steps : List DatagramStep) (s t : RedWire) : Type 0 where
  pub later : List SentSample
  pub sends : t.wire.sends ≡ s.wire.sends ++ later
  pub answers : List Answer
  pub pops : t.wire.pops ≡ s.wire.pops ++ answers
  pub grows : (k : ℕ) (bytes : List ℕ) → slice_get s.written k ≡ Some bytes → slice_get t.written k ≡ Some bytes
  pub takes : RedTakes again (received_steps samples (length s.written) all_steps later) t.written s.wire.session answers t.wire.session

module _ (again : Option RetransmissionStream) (samples : List Sample) where
  abbrev Received : ℕ → List DatagramStep → List SentSample → List DatagramStep
  Received = received_steps samples

  -- what a step without RED and the writer leave
  abbrev after_step : RedWire → Wire → List (List ℕ) → Writer → RedWire
  after_step s wire outs writer = record { wire = wire; writer = writer; written = s.written ++ outs }

  count_same : (s : RedWire) (wire : Wire) (outs : List (List ℕ)) → length outs ≡ length (sent_since s.wire wire) → wire.datagrams ≡ s.wire.datagrams
      → length (s.written ++ outs) ≡ length s.written
  count_same s wire outs count same =
      let none : sent_since s.wire wire ≡ [] = (gained_none s.wire wire same).1 in
      omega (arith, length-append s.written outs, count, ap length none)

  send_comes : (o : Option Sample) (i : ℕ) (later : List DatagramStep) (s : RedWire) (wire : Wire) (outs : List (List ℕ)) (writer : Writer) (t : RedWire) → slice_get samples i ≡ o
      → MatchOption o (wire ≡ s.wire) (λ sample. (entry : SentSample) × SendsIt sample s.wire.sending s.wire.datagrams entry wire.sending wire.datagrams
      × (wire ≡ record s.wire { sending = wire.sending; datagrams = wire.datagrams; sends = s.wire.sends ++ entry ∷ [] }))
      → length outs ≡ length (sent_since s.wire wire)
      → RedComes again samples later (after_step s wire outs writer) t → RedComes again samples (steps.Send i ∷ later) s t
  send_comes None i later s wire outs writer t is same count comes =
      let length_same = count_same s wire outs count (ap (λ (x : Wire). x.datagrams) same) in
      record {
        later = comes.later;
        sends = comes.sends ∙ ap (λ (x : Wire). x.sends ++ comes.later) same;
        answers = comes.answers;
        pops = comes.pops ∙ ap (λ (x : Wire). x.pops ++ comes.answers) same;
        grows = λ k bytes there. comes.grows k bytes (get_append s.written outs k bytes there);
        takes = subst (λ (o : Option Sample). RedTakes again (Received (sent_after (length s.written) o comes.later) later (sends_after o comes.later)) t.written s.wire.session comes.answers t.wire.session) (sym is)
            (subst (λ (x : Session). RedTakes again (Received (length s.written) later comes.later) t.written x comes.answers t.wire.session) (ap (λ (x : Wire). x.session) same)
            (subst (λ (n : ℕ). RedTakes again (Received n later comes.later) t.written wire.session comes.answers t.wire.session) length_same comes.takes));
      }
  send_comes (Some sample) i later s wire outs writer t is done count comes =
      let entry : SentSample = done.0 in
      let new : sent_since s.wire wire ≡ wire.sending.datagrams = (gained_by s.wire wire wire.sending.datagrams done.1.gained).1 in
      let length_more : length (s.written ++ outs) ≡ length s.written + entry.count = omega (arith, length-append s.written outs, count, ap length new, done.1.count) in
      let session : wire.session ≡ s.wire.session = ap (λ (x : Wire). x.session) done.2 in
      record {
        later = entry ∷ comes.later;
        sends = comes.sends ∙ (ap (λ (x : Wire). x.sends ++ comes.later) done.2 ∙ append_assoc s.wire.sends (entry ∷ []) comes.later);
        answers = comes.answers;
        pops = comes.pops ∙ ap (λ (x : Wire). x.pops ++ comes.answers) done.2;
        grows = λ k bytes there. comes.grows k bytes (get_append s.written outs k bytes there);
        takes = subst (λ (o : Option Sample). RedTakes again (Received (sent_after (length s.written) o (entry ∷ comes.later)) later (sends_after o (entry ∷ comes.later)))
            t.written s.wire.session comes.answers t.wire.session) (sym is)
            (subst (λ (n : ℕ). RedTakes again (Received n later comes.later) t.written s.wire.session comes.answers t.wire.session) length_more
            (subst (λ (x : Session). RedTakes again (Received (length (s.written ++ outs)) later comes.later) t.written x comes.answers t.wire.session) session comes.takes));
      }

  deliver_comes : (o : Option (List ℕ)) (k : ℕ) (now : Ticks) (later : List DatagramStep) (s mid t : RedWire) → slice_get s.written k ≡ o → DeliversRedCopy again o now s mid
      → RedComes again samples later mid t → RedComes again samples (steps.Deliver k now ∷ later) s t
  deliver_comes None k now later s mid t is same comes =
      let c : RedComes again samples later s t = subst (λ (x : RedWire). RedComes again samples later x t) same comes in
      let past : ltb k (length s.written) ≡ false = le-ltb k (length s.written) (past_end s.written k is) in
      record {
        later = c.later;
        sends = c.sends;
        answers = c.answers;
        pops = c.pops;
        grows = c.grows;
        takes = rw past c.takes;
      }
  deliver_comes (Some datagram) k now later s mid t is done comes =
      let c : RedComes again samples later (record s { wire = record s.wire { session = done.3; receipts = s.wire.receipts ++ done.2 ∷ [] } }) t =
      subst (λ (x : RedWire). RedComes again samples later x t) done.5 comes in
      let within : ltb k (length s.written) ≡ true = lt-ltb k (length s.written) (slice_get_within s.written k datagram is) in
      record {
        later = c.later;
        sends = c.sends;
        answers = c.answers;
        pops = c.pops;
        grows = c.grows;
        takes = rw within (datagram, c.grows k datagram is, done.0, done.1, done.2, done.3, done.4, c.takes);
      }

  pub red_comes_to : (all_steps : List DatagramStep) (s t : RedWire) → RedProceeds again samples all_steps s t → RedComes again samples all_steps s t
  red_comes_to [] s t run = record {
    later = [];
    sends = ap (λ (x : RedWire). x.wire.sends) run ∙ sym (append-nil s.wire.sends);
    answers = [];
    pops = ap (λ (x : RedWire). x.wire.pops) run ∙ sym (append-nil s.wire.pops);
    grows = λ k bytes there. subst (λ (x : RedWire). slice_get x.written k ≡ Some bytes) (sym run) there;
    takes = (refl, ap (λ (x : RedWire). x.wire.session) run);
  }
  red_comes_to (steps.Send i ∷ later) s t run =
      let done = run.1 in
      send_comes (slice_get samples i) i later s done.0 done.1 done.2 t refl done.3 (writes_count s.writer (sent_since s.wire done.0) done.1 done.2 done.4)
      (subst (λ (x : RedWire). RedComes again samples later x t) done.5 (red_comes_to later run.0 t run.2))
  red_comes_to (steps.Deliver k now ∷ later) s t run = deliver_comes (slice_get s.written k) k now later s run.0 t refl run.1 (red_comes_to later run.0 t run.2)
  red_comes_to (steps.Pop now ∷ later) s t run =
      let done = run.1 in
      let wire : Wire = done.0 in
      let outs : List (List ℕ) = done.1 in
      let does : wire ≡ record s.wire { session = done.3.1; pops = s.wire.pops ++ done.3.0 ∷ [] } = done.3.4 in
      let comes : RedComes again samples later (after_step s wire outs done.2) t = subst (λ (x : RedWire). RedComes again samples later x t) done.5 (red_comes_to later run.0 t run.2) in
      let length_same = count_same s wire outs (writes_count s.writer (sent_since s.wire wire) outs done.2 done.4) (ap (λ (x : Wire). x.datagrams) does) in
      record {
        later = comes.later;
        sends = comes.sends ∙ ap (λ (x : Wire). x.sends ++ comes.later) does;
        answers = done.3.0 ∷ comes.answers;
        pops = comes.pops ∙ (ap (λ (x : Wire). x.pops ++ comes.answers) does ∙ append_assoc s.wire.pops (done.3.0 ∷ []) comes.answers);
        grows = λ k bytes there. comes.grows k bytes (get_append s.written outs k bytes there);
        takes = (
          done.3.0,
          comes.answers,
          done.3.1,
          refl,
          done.3.2,
          done.3.3,
          subst (λ (n : ℕ). RedTakes again (Received n later comes.later) t.written done.3.1 comes.answers t.wire.session) length_same
              (subst (λ (x : Session). RedTakes again (Received (length (s.written ++ outs)) later comes.later) t.written x comes.answers t.wire.session) (ap (λ (x : Wire). x.session) does) comes.takes),
        );
      }
  red_comes_to (steps.Finish ∷ later) s t run =
      let done = run.1 in
      let wire : Wire = done.0 in
      let outs : List (List ℕ) = done.1 in
      let does : wire ≡ record s.wire { session = done.3.0 } = done.3.2 in
      let comes : RedComes again samples later (after_step s wire outs done.2) t = subst (λ (x : RedWire). RedComes again samples later x t) done.5 (red_comes_to later run.0 t run.2) in
      let length_same = count_same s wire outs (writes_count s.writer (sent_since s.wire wire) outs done.2 done.4) (ap (λ (x : Wire). x.datagrams) does) in
      record {
        later = comes.later;
        sends = comes.sends ∙ ap (λ (x : Wire). x.sends ++ comes.later) does;
        answers = comes.answers;
        pops = comes.pops ∙ ap (λ (x : Wire). x.pops ++ comes.answers) does;
        grows = λ k bytes there. comes.grows k bytes (get_append s.written outs k bytes there);
        takes = (
          done.3.0,
          done.3.1,
          subst (λ (n : ℕ). RedTakes again (Received n later comes.later) t.written done.3.0 comes.answers t.wire.session) length_same
              (subst (λ (x : Session). RedTakes again (Received (length (s.written ++ outs)) later comes.later) t.written x comes.answers t.wire.session) (ap (λ (x : Wire). x.session) does) comes.takes),
        );
      }
