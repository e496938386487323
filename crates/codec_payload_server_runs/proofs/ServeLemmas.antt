-- A run of a media server is a run of its session, and a run with the forwarder.
use Rattle.std.specs.Global.{Vec}
use Rattle.std.proofs.Common.{◌≡◌, ◌≤◌, ◌∙◌, refl, sym, ap, subst, ℕ, zero, suc, List, [], ◌∷◌, ◌++◌, Bool, true, false, cond, ltb, Option, Some, None, MatchOption, Ok, length, map, take, append_assoc, append-nil, length-append, arith}
use Rattle.std.specs.Prelude.{slice_get, ◌&&◌}
use Rattle.std.proofs.Math.Seq.{take-append_seam}
use Rattle.std.proofs.lemmas.Bool.{le-ltb, lt-ltb}
use Rattle.std.proofs.lemmas.Option.{same_Some, slice_get_within}
use Rattle.codec_payload_base.specs.declared.wire.Ticks.{Ticks}
use Rattle.codec_payload_payloader.specs.Sending.{Sample}
use Rattle.codec_payload_receiver.specs.Sessions.{Session as Receiver}
use Rattle.codec_payload_rtp.specs.RtpPackets.{Packet}
use Rattle.codec_payload_sending.specs.Senders.{Sending}
use Rattle.codec_payload_sending_forward.specs.Forwarding.{Forward, Forwards}
use Rattle.codec_payload_sending_forward.specs.declared.forwarder.Forwarded.{Forwarded}
use Rattle.codec_payload_sending_history.specs.declared.original.OriginalStream.{OriginalStream}
use Rattle.codec_payload_sending_history.specs.declared.retransmission.RetransmissionStream.{RetransmissionStream}
use Rattle.codec_payload_session.specs.Ports.{Session}
use Rattle.codec_payload_datagram_runs.specs.Releases.{sends_after, sent_after}
use Rattle.codec_payload_datagram_runs.specs.WireRuns.{Delivers, DoesStep, Receipt, SendsIt, Wire}
use Rattle.codec_payload_datagram_runs.specs.declared.run.DatagramStep.TheVariants as wires
use Rattle.codec_payload_datagram_runs.specs.declared.run.SentSample.{SentSample}
use Rattle.codec_payload_forward_runs.specs.FirstHop.{original_stream}
use Rattle.codec_payload_forward_runs.specs.ForwardRuns.{Comes, DoesForwardStep, ForwardRuns, Hops, begins_forwarding, packet_in, packet_read, written_by}
use Rattle.codec_payload_forward_runs.specs.declared.run.ForwardStep.{ForwardStep}
use Rattle.codec_payload_forward_runs.specs.declared.run.ForwardStep.TheVariants as plain
use Rattle.codec_payload_session_runs.specs.SessionRuns.{Call, Runs}
use Rattle.codec_payload_session_runs.specs.declared.run.SessionStep.{SessionStep}
use Rattle.codec_payload_session_runs.specs.declared.run.SessionStep.TheVariants as calls
use Rattle.codec_payload_session_runs.specs.declared.run.StepAnswer.{StepAnswer}
use Rattle.codec_payload_session_runs.specs.declared.run.StepAnswer.TheVariants as answers
use Rattle.codec_payload_server_runs.proofs.SenderPackets.{AllOf, IsOf, SendsItsOwn, of_at, reads_again, sends_own, stream_of}
use Rattle.codec_payload_server_runs.specs.ServeReleases.{AreCalls, UnwrapsSender, forwarded_steps, forwarded_steps_of, has_repeats, passed_by, says_taken}
use Rattle.codec_payload_server_runs.specs.ServeRuns.{Arrives, ComesUnwrapped, DoesIf, DoesServeStep, IsAgain, ServeRuns, Served, begins_serving, fits_in, is_taken_as, repeated_in}
use Rattle.codec_payload_server_runs.specs.declared.run.Moment.{Moment}
use Rattle.codec_payload_server_runs.specs.declared.run.ServeStep.{ServeStep}
use Rattle.codec_payload_server_runs.specs.declared.run.ServeStep.TheVariants as steps

-- What steps leave of the sender

-- a step that sends nothing
pub record Keeps (s t : Hops) : Type 0 where
  pub sends : t.wire.sends ≡ s.wire.sends
  pub datagrams : t.wire.datagrams ≡ s.wire.datagrams
  pub sending : t.wire.sending ≡ s.wire.sending

pub keeps_same : (s t : Hops) → t ≡ s → Keeps s t
keeps_same s t same =
    record { sends = ap (λ (x : Hops). x.wire.sends) same; datagrams = ap (λ (x : Hops). x.wire.datagrams) same; sending = ap (λ (x : Hops). x.wire.sending) same }

pub keeps_comes : (o : Option Packet) (time : ℕ) (s t : Hops) → Comes o time s t → Keeps s t
keeps_comes None time s t same = keeps_same s t same
keeps_comes (Some p) time s t done =
    record { sends = ap (λ (x : Hops). x.wire.sends) done.4; datagrams = ap (λ (x : Hops). x.wire.datagrams) done.4; sending = ap (λ (x : Hops). x.wire.sending) done.4 }

keeps_if : (b : Bool) (P : Hops → Hops → Type 0) (s t : Hops) → (P s t → Keeps s t) → DoesIf b P s t → Keeps s t
keeps_if true P s t to does = to does
keeps_if false P s t to same = keeps_same s t same

pub keeps_delivered : (o : Option (List ℕ)) (now : Ticks) (s t : Hops)
    → MatchOption o (t ≡ s) (λ bytes. (receipt : Receipt) × (session : Receiver) × Delivers now bytes s.wire.session receipt session
    × (t ≡ record s { wire = record s.wire { session = session; receipts = s.wire.receipts ++ receipt ∷ [] } }))
    → Keeps s t
keeps_delivered None now s t same = keeps_same s t same
keeps_delivered (Some bytes) now s t done =
    record { sends = ap (λ (x : Hops). x.wire.sends) done.3; datagrams = ap (λ (x : Hops). x.wire.datagrams) done.3; sending = ap (λ (x : Hops). x.wire.sending) done.3 }

pub keeps_wire : (s t : Hops) (wire : Wire) → t ≡ record s { wire = wire } → wire.sends ≡ s.wire.sends → wire.datagrams ≡ s.wire.datagrams → wire.sending ≡ s.wire.sending → Keeps s t
keeps_wire s t wire is sends datagrams sending =
    record { sends = ap (λ (x : Hops). x.wire.sends) is ∙ sends; datagrams = ap (λ (x : Hops). x.wire.datagrams) is ∙ datagrams; sending = ap (λ (x : Hops). x.wire.sending) is ∙ sending }

-- the datagrams after some steps have those before them in front
abbrev pub IsMore : List (List ℕ) → List (List ℕ) → Type 0
IsMore before after = (new : List (List ℕ)) × (after ≡ before ++ new)

pub more_none : (datagrams : List (List ℕ)) → IsMore datagrams datagrams
more_none datagrams = ([], sym (append-nil datagrams))

pub more_on : (xs ys zs : List (List ℕ)) → IsMore xs ys → IsMore ys zs → IsMore xs zs
more_on xs ys zs one two = (one.0 ++ two.0, two.1 ∙ (ap (λ (ds : List (List ℕ)). ds ++ two.0) one.1 ∙ append_assoc xs one.0 two.0))

-- the datagrams sent before, among all
pub taken_of : (before all : List (List ℕ)) (sent : ℕ) → length before ≡ sent → IsMore before all → take sent all ≡ before
taken_of before all sent count more =
    subst (λ (n : ℕ). take n all ≡ before) count (ap (take (length before)) more.1 ∙ take-append_seam before more.0)

pub past_end : (xs : List (List ℕ)) (k : ℕ) → slice_get xs k ≡ None → length xs ≤ k
past_end [] k e = omega arith
past_end (x ∷ xs) zero e = absurd (cc)
past_end (x ∷ xs) (suc k) e = omega (arith, past_end xs k e)

-- a step of the sender: the entries from it on, and how many datagrams were sent after it
pub record Sent (o : Option Sample) (s t : Wire) (rest : List SentSample) : Type 0 where
  pub entries : List SentSample
  pub sends : t.sends ++ rest ≡ s.sends ++ entries
  pub left : sends_after o entries ≡ rest
  pub count : sent_after (length s.datagrams) o entries ≡ length t.datagrams
  pub more : IsMore s.datagrams t.datagrams

pub sent_step : (o : Option Sample) (s t : Wire) (rest : List SentSample)
    → MatchOption o (t ≡ s) (λ sample. (entry : SentSample) × SendsIt sample s.sending s.datagrams entry t.sending t.datagrams
    × (t ≡ record s { sending = t.sending; datagrams = t.datagrams; sends = s.sends ++ entry ∷ [] }))
    → Sent o s t rest
sent_step None s t rest same = record {
  entries = rest;
  sends = ap (λ (x : Wire). x.sends ++ rest) same;
  left = refl;
  count = sym (ap (λ (x : Wire). length x.datagrams) same);
  more = subst (IsMore s.datagrams) (sym (ap (λ (x : Wire). x.datagrams) same)) (more_none s.datagrams);
}
sent_step (Some sample) s t rest done = record {
  entries = done.0 ∷ rest;
  sends = ap (λ (x : Wire). x.sends ++ rest) done.2 ∙ append_assoc s.sends (done.0 ∷ []) rest;
  left = refl;
  count = omega (arith, ap (λ (ds : List (List ℕ)). length ds) done.1.gained, length-append s.datagrams t.sending.datagrams, done.1.count);
  more = (t.sending.datagrams, done.1.gained);
}

-- a step that sends nothing leaves the sender its own datagrams
pub own_kept : (s t : Hops) → Keeps s t → SendsItsOwn s.wire → SendsItsOwn t.wire
own_kept s t keeps own =
    subst (λ (x : Sending). AllOf (original_stream x.stream) t.wire.datagrams) (sym keeps.sending) (subst (AllOf (stream_of s.wire)) (sym keeps.datagrams) own)

pub and_false : (b : Bool) → (b && false) ≡ false
and_false true = refl
and_false false = refl

pub fits_both : (stream : OriginalStream) (again : RetransmissionStream) → stream.payload_type ≤ 127 → again.payload_type ≤ 127 → fits_in stream again ≡ true
fits_both stream again one two =
    ap (λ (b : Bool). b && ltb again.payload_type 128) (lt-ltb stream.payload_type 128 (omega (arith, one))) ∙ lt-ltb again.payload_type 128 (omega (arith, two))

module _ (stream : OriginalStream) (samples : List Sample) where
  -- a run of the session, and a run with the forwarder. Before it `sent` datagrams were sent
  pub record Splits (sent : ℕ) (all_steps : List ServeStep) (s t : Served) : Type 0 where
    pub later : List SentSample
    pub sends : t.hops.wire.sends ≡ s.hops.wire.sends ++ later
    pub gained : List StepAnswer
    pub told : t.answers ≡ s.answers ++ gained
    pub more : IsMore s.hops.wire.datagrams t.hops.wire.datagrams
    pub forwards : UnwrapsSender stream all_steps s → ForwardRuns samples (forwarded_steps stream samples sent all_steps later gained) s.hops t.hops
    pub made : List Call
    pub are : AreCalls stream samples t.hops.wire.datagrams sent all_steps later made
    pub answered : map (λ (c : Call). c.answer) made ≡ gained
    pub runs : Runs made s.server t.server

  nothing : (sent : ℕ) (s : Served) → Splits sent [] s s
  nothing sent s = record {
    later = [];
    sends = sym (append-nil s.hops.wire.sends);
    gained = [];
    told = sym (append-nil s.answers);
    more = more_none s.hops.wire.datagrams;
    forwards = λ own. refl;
    made = [];
    are = refl;
    answered = refl;
    runs = refl;
  }

  -- a step that names nothing
  skipped : (sent : ℕ) (whole later : List ServeStep) (s mid t : Served) → mid ≡ s → Splits sent later mid t
      → ((entries : List SentSample) (told : List StepAnswer) → forwarded_steps stream samples sent whole entries told ≡ forwarded_steps stream samples sent later entries told)
      → ((entries : List SentSample) (cs : List Call) → IsMore s.hops.wire.datagrams t.hops.wire.datagrams → AreCalls stream samples t.hops.wire.datagrams sent later entries cs
      → AreCalls stream samples t.hops.wire.datagrams sent whole entries cs)
      → (has_repeats later ≡ true → has_repeats whole ≡ true) → Splits sent whole s t
  skipped sent whole later s mid t same rest steps_are calls_are repeats =
      let r : Splits sent later s t = subst (λ (x : Served). Splits sent later x t) same rest in
      record {
        later = r.later;
        sends = r.sends;
        gained = r.gained;
        told = r.told;
        more = r.more;
        forwards = λ own. subst (λ (fs : List ForwardStep). ForwardRuns samples fs s.hops t.hops) (sym (steps_are r.later r.gained)) (r.forwards (λ has. own (repeats has)));
        made = r.made;
        are = calls_are r.later r.made r.more r.are;
        answered = r.answered;
        runs = r.runs;
      }

  -- the forwarder gets what the session took
  passes_on : (taken : Bool) (k time : ℕ) (P : Hops → Hops → Type 0) (later : List ForwardStep) (s mid t : Hops)
      → (P s mid → DoesForwardStep samples (plain.Forward k time) s mid) → DoesIf taken P s mid → ForwardRuns samples later mid t → ForwardRuns samples (passed_by taken k time ++ later) s t
  passes_on true k time P later s mid t to does run = (mid, to does, run)
  passes_on false k time P later s mid t to same run = subst (λ (x : Hops). ForwardRuns samples later x t) same run

  -- a datagram that comes to the session
  arrived : (sent k : ℕ) (at : Moment) (datagram : Vec ℕ) (P : Hops → Hops → Type 0) (whole later : List ServeStep) (s mid t : Served)
      → (a : Arrives stream at datagram.items P s mid) → Keeps s.hops a.hops → (UnwrapsSender stream whole s → P s.hops a.hops → DoesForwardStep samples (plain.Forward k at.time) s.hops a.hops) → Splits sent later mid t
      → ((entries : List SentSample) (answer : StepAnswer) (told : List StepAnswer)
      → forwarded_steps stream samples sent whole entries (answer ∷ told) ≡ passed_by (says_taken stream answer) k at.time ++ forwarded_steps stream samples sent later entries told)
      → ((entries : List SentSample) (c : Call) (cs : List Call) → IsMore s.hops.wire.datagrams t.hops.wire.datagrams → c.step ≡ calls.Receive at.now at.micros datagram
      → AreCalls stream samples t.hops.wire.datagrams sent later entries cs → AreCalls stream samples t.hops.wire.datagrams sent whole entries (c ∷ cs))
      → (has_repeats later ≡ true → has_repeats whole ≡ true) → Splits sent whole s t
  arrived sent k at datagram P whole later s mid t a keeps to rest steps_are calls_are repeats =
      let answer : StepAnswer = answers.Received a.arrival in
      let next : Served = record { hops = a.hops; server = a.server; answers = s.answers ++ answer ∷ [] } in
      let r : Splits sent later next t = subst (λ (x : Served). Splits sent later x t) a.left rest in
      let more : IsMore s.hops.wire.datagrams t.hops.wire.datagrams = subst (λ (ds : List (List ℕ)). IsMore ds t.hops.wire.datagrams) keeps.datagrams r.more in
      let own_later : UnwrapsSender stream whole s → UnwrapsSender stream later next = λ own has. ap (λ (x : Sending). stream_of (record a.hops.wire { sending = x })) keeps.sending ∙ own (repeats has) in
      record {
        later = r.later;
        sends = r.sends ∙ ap (λ (es : List SentSample). es ++ r.later) keeps.sends;
        gained = answer ∷ r.gained;
        told = r.told ∙ append_assoc s.answers (answer ∷ []) r.gained;
        more = more;
        forwards = λ own.
            subst (λ (fs : List ForwardStep). ForwardRuns samples fs s.hops t.hops) (sym (steps_are r.later answer r.gained))
            (passes_on (is_taken_as stream a.arrival) k at.time P (forwarded_steps stream samples sent later r.later r.gained) s.hops a.hops t.hops (to own) a.passes (r.forwards (own_later own)));
        made = record { step = calls.Receive at.now at.micros datagram; answer = answer } ∷ r.made;
        are = calls_are r.later (record { step = calls.Receive at.now at.micros datagram; answer = answer }) r.made more refl r.are;
        answered = ap (λ (rs : List StepAnswer). answer ∷ rs) r.answered;
        runs = (a.server, (a.arrival, refl, a.accepts), r.runs);
      }

  -- a step that the session does not see, and that sends nothing
  hopped : (sent : ℕ) (step : ForwardStep) (whole later : List ServeStep) (s t : Served) (hops : Hops) → DoesForwardStep samples step s.hops hops → Keeps s.hops hops → Splits sent later (record s { hops = hops }) t
      → ((entries : List SentSample) (told : List StepAnswer) → forwarded_steps stream samples sent whole entries told ≡ step ∷ forwarded_steps stream samples sent later entries told)
      → ((entries : List SentSample) (cs : List Call) → AreCalls stream samples t.hops.wire.datagrams sent later entries cs → AreCalls stream samples t.hops.wire.datagrams sent whole entries cs)
      → (has_repeats later ≡ true → has_repeats whole ≡ true) → Splits sent whole s t
  hopped sent step whole later s t hops does keeps r steps_are calls_are repeats =
      let own_later : UnwrapsSender stream whole s → UnwrapsSender stream later (record s { hops = hops }) =
      λ own has. ap (λ (x : Sending). stream_of (record hops.wire { sending = x })) keeps.sending ∙ own (repeats has) in
      record {
        later = r.later;
        sends = r.sends ∙ ap (λ (es : List SentSample). es ++ r.later) keeps.sends;
        gained = r.gained;
        told = r.told;
        more = subst (λ (ds : List (List ℕ)). IsMore ds t.hops.wire.datagrams) keeps.datagrams r.more;
        forwards = λ own.
            subst (λ (fs : List ForwardStep). ForwardRuns samples fs s.hops t.hops) (sym (steps_are r.later r.gained)) (hops, does, r.forwards (own_later own));
        made = r.made;
        are = calls_are r.later r.made r.are;
        answered = r.answered;
        runs = r.runs;
      }

  -- a step of the sender
  sent_one : (sent i : ℕ) (later : List ServeStep) (s t : Served) (hops : Hops) → length s.hops.wire.datagrams ≡ sent → DoesForwardStep samples (plain.Send i) s.hops hops
      → DoesStep samples (wires.Send i) s.hops.wire hops.wire → stream_of hops.wire ≡ stream_of s.hops.wire → Splits (length hops.wire.datagrams) later (record s { hops = hops }) t
      → Splits sent (steps.Send i ∷ later) s t
  sent_one sent i later s t hops count does stepped same r =
      let o : Option Sample = slice_get samples i in
      let f : Sent o s.hops.wire hops.wire r.later = sent_step o s.hops.wire hops.wire r.later stepped in
      let after : sent_after sent o f.entries ≡ length hops.wire.datagrams = subst (λ (n : ℕ). sent_after n o f.entries ≡ length hops.wire.datagrams) count f.count in
      record {
        later = f.entries;
        sends = r.sends ∙ f.sends;
        gained = r.gained;
        told = r.told;
        more = more_on s.hops.wire.datagrams hops.wire.datagrams t.hops.wire.datagrams f.more r.more;
        forwards = λ own. (
          hops,
          does,
          subst (λ (n : ℕ). ForwardRuns samples (forwarded_steps stream samples n later (sends_after o f.entries) r.gained) hops t.hops) (sym after)
              (subst (λ (es : List SentSample). ForwardRuns samples (forwarded_steps stream samples (length hops.wire.datagrams) later es r.gained) hops t.hops) (sym f.left) (r.forwards (λ has. same ∙ own has))),
        );
        made = r.made;
        are =
            subst (λ (n : ℕ). AreCalls stream samples t.hops.wire.datagrams n later (sends_after o f.entries) r.made) (sym after)
            (subst (λ (es : List SentSample). AreCalls stream samples t.hops.wire.datagrams (length hops.wire.datagrams) later es r.made) (sym f.left) r.are);
        answered = r.answered;
        runs = r.runs;
      }

  -- a call of the session
  called : (sent : ℕ) (call : SessionStep) (later : List ServeStep) (s mid t : Served) → DoesServeStep stream samples (steps.Call call) s mid → Splits sent later mid t → Splits sent (steps.Call call ∷ later) s t
  called sent call later s mid t does rest =
      let next : Served = record s { server = does.1; answers = s.answers ++ does.0 ∷ [] } in
      let r : Splits sent later next t = subst (λ (x : Served). Splits sent later x t) does.3 rest in
      record {
        later = r.later;
        sends = r.sends;
        gained = does.0 ∷ r.gained;
        told = r.told ∙ append_assoc s.answers (does.0 ∷ []) r.gained;
        more = r.more;
        forwards = r.forwards;
        made = record { step = call; answer = does.0 } ∷ r.made;
        are = (refl, r.are);
        answered = ap (λ (rs : List StepAnswer). does.0 ∷ rs) r.answered;
        runs = (does.1, does.2, r.runs);
      }

  -- a datagram of the sender
  arrives : (sent k : ℕ) (at : Moment) (later : List ServeStep) (s mid t : Served) (o : Option (List ℕ)) → slice_get s.hops.wire.datagrams k ≡ o → length s.hops.wire.datagrams ≡ sent
      → MatchOption o (mid ≡ s) (λ bytes. (datagram : Vec ℕ) × (datagram.items ≡ bytes) × Arrives stream at datagram.items (Comes (packet_in (Some bytes)) at.time) s mid)
      → Splits sent later mid t → Splits sent (steps.Arrive k at ∷ later) s t
  arrives sent k at later s mid t None e count same rest =
      let past : ltb k sent ≡ false = subst (λ (n : ℕ). ltb k n ≡ false) count (le-ltb k (length s.hops.wire.datagrams) (past_end s.hops.wire.datagrams k e)) in
      skipped sent (steps.Arrive k at ∷ later) later s mid t same rest (λ entries told. rw past refl)
      (λ entries cs more are.
      let none : slice_get (take sent t.hops.wire.datagrams) k ≡ None = ap (λ (ds : List (List ℕ)). slice_get ds k) (taken_of s.hops.wire.datagrams t.hops.wire.datagrams sent count more) ∙ e in
      rw none are)
      (λ has. has)
  arrives sent k at later s mid t (Some bytes) e count done rest =
      let a = done.2 in
      let within : ltb k sent ≡ true = subst (λ (n : ℕ). ltb k n ≡ true) count (lt-ltb k (length s.hops.wire.datagrams) (slice_get_within s.hops.wire.datagrams k bytes e)) in
      let keeps : Keeps s.hops a.hops = keeps_if (is_taken_as stream a.arrival) (Comes (packet_in (Some bytes)) at.time) s.hops a.hops (keeps_comes (packet_in (Some bytes)) at.time s.hops a.hops) a.passes in
      arrived sent k at done.0 (Comes (packet_in (Some bytes)) at.time) (steps.Arrive k at ∷ later) later s mid t a keeps
      (λ own comes. subst (λ (x : Option (List ℕ)). Comes (packet_in x) at.time s.hops a.hops) (sym e) comes) rest (λ entries answer told. rw within refl)
      (λ entries c cs more is are.
      let there : slice_get (take sent t.hops.wire.datagrams) k ≡ Some bytes = ap (λ (ds : List (List ℕ)). slice_get ds k) (taken_of s.hops.wire.datagrams t.hops.wire.datagrams sent count more) ∙ e in
      rw there ((done.0, done.1, is), are))
      (λ has. has)

  -- a retransmission of one
  unwrapped : (datagram retransmission : List ℕ) (again : RetransmissionStream) (time : ℕ) (s t : Hops) (of : IsOf stream datagram) → IsAgain again of.packet retransmission
      → ComesUnwrapped stream retransmission time s t → Comes (packet_in (Some datagram)) time s t
  unwrapped datagram retransmission again time s t of is comes =
      subst (λ (r : _). Comes (packet_read r) time s t) (reads_again stream datagram of again again.first_number retransmission comes.0 is comes.1) comes.2

  module _ (sent k : ℕ) (again : RetransmissionStream) (at : Moment) (later : List ServeStep) (s mid t : Served) (count : length s.hops.wire.datagrams ≡ sent) (rest : Splits sent later mid t) where
    abbrev whole : List ServeStep
    whole = steps.Repeat k again at ∷ later

    abbrev ds : List (List ℕ)
    ds = s.hops.wire.datagrams

    abbrev Repeated : Packet → Type 0
    Repeated packet = (datagram : Vec ℕ) × IsAgain again packet datagram.items × Arrives stream at datagram.items (ComesUnwrapped stream datagram.items at.time) s mid

    same_repeated : (more : IsMore ds t.hops.wire.datagrams) → repeated_in stream again (slice_get (take sent t.hops.wire.datagrams) k) ≡ repeated_in stream again (slice_get ds k)
    same_repeated more = ap (λ (xs : List (List ℕ)). repeated_in stream again (slice_get xs k)) (taken_of ds t.hops.wire.datagrams sent count more)

    -- it is not written
    unrepeated : repeated_in stream again (slice_get ds k) ≡ None → (ltb k sent && fits_in stream again) ≡ false → mid ≡ s → Splits sent whole s t
    unrepeated none out same =
        skipped sent whole later s mid t same rest (λ entries told. rw out refl) (λ entries cs more are. rw (same_repeated more ∙ none) are) (λ has. refl)

    repeated : (datagram : List ℕ) → SendsItsOwn s.hops.wire → slice_get ds k ≡ Some datagram → (packet : Packet) → repeated_in stream again (slice_get ds k) ≡ Some packet
        → packet_in (Some datagram) ≡ Some packet → (ltb k sent && fits_in stream again) ≡ true → Repeated packet → Splits sent whole s t
    repeated datagram own there packet is reads within done =
        let a = done.2 in
        let keeps : Keeps s.hops a.hops =
        keeps_if (is_taken_as stream a.arrival) (ComesUnwrapped stream done.0.items at.time) s.hops a.hops (λ comes. keeps_comes (packet_in (Some comes.0)) at.time s.hops a.hops comes.2) a.passes in
        arrived sent k at done.0 (ComesUnwrapped stream done.0.items at.time) whole later s mid t a keeps
        (λ unwraps comes.
        let of : IsOf stream datagram = subst (λ (x : OriginalStream). IsOf x datagram) (unwraps refl) (of_at (stream_of s.hops.wire) ds k datagram own there) in
        let same : packet ≡ of.packet = same_Some packet of.packet (sym reads ∙ ap packet_read of.reads) in
        subst (λ (x : Option (List ℕ)). Comes (packet_in x) at.time s.hops a.hops) (sym there)
        (unwrapped datagram done.0.items again at.time s.hops a.hops of (subst (λ (p : Packet). IsAgain again p done.0.items) same done.1) comes))
        rest (λ entries answer told. rw within refl) (λ entries c cs more step are. rw (same_repeated more ∙ is) ((done.0, done.1, step), are)) (λ has. refl)

    repeats : SendsItsOwn s.hops.wire → (fits : Bool) → fits_in stream again ≡ fits → (o : Option (List ℕ)) → slice_get ds k ≡ o
        → MatchOption (repeated_in stream again (slice_get ds k)) (mid ≡ s) Repeated → Splits sent whole s t
    repeats own false fits o there does =
        let none : repeated_in stream again (slice_get ds k) ≡ None = rw fits refl in
        unrepeated none (ap (λ (b : Bool). ltb k sent && b) fits ∙ and_false (ltb k sent)) (rw none at does)
    repeats own true fits None there does =
        let none : repeated_in stream again (slice_get ds k) ≡ None = rw (fits, there) refl in
        let past : ltb k sent ≡ false = subst (λ (n : ℕ). ltb k n ≡ false) count (le-ltb k (length ds) (past_end ds k there)) in
        unrepeated none (ap (λ (b : Bool). b && fits_in stream again) past) (rw none at does)
    repeats own true fits (Some datagram) there does =
        let of : IsOf (stream_of s.hops.wire) datagram = of_at (stream_of s.hops.wire) ds k datagram own there in
        let reads : packet_in (Some datagram) ≡ Some of.packet = ap packet_read of.reads in
        let is : repeated_in stream again (slice_get ds k) ≡ Some of.packet = rw (fits, there) reads in
        let within : ltb k sent ≡ true = subst (λ (n : ℕ). ltb k n ≡ true) count (lt-ltb k (length ds) (slice_get_within ds k datagram there)) in
        repeated datagram own there of.packet is reads (ap (λ (b : Bool). b && fits_in stream again) within ∙ fits) (rw is at does)

  -- All steps

  keeps_arrived : (at : Moment) (datagram : List ℕ) (P : Hops → Hops → Type 0) (s t : Served) → ((h : Hops) → P s.hops h → Keeps s.hops h) → Arrives stream at datagram P s t → Keeps s.hops t.hops
  keeps_arrived at datagram P s t to a =
      subst (Keeps s.hops) (sym (ap (λ (x : Served). x.hops) a.left)) (keeps_if (is_taken_as stream a.arrival) P s.hops a.hops (to a.hops) a.passes)

  keeps_arrives : (at : Moment) (s t : Served) (o : Option (List ℕ))
      → MatchOption o (t ≡ s) (λ bytes. (datagram : Vec ℕ) × (datagram.items ≡ bytes) × Arrives stream at datagram.items (Comes (packet_in (Some bytes)) at.time) s t) → Keeps s.hops t.hops
  keeps_arrives at s t None same = keeps_same s.hops t.hops (ap (λ (x : Served). x.hops) same)
  keeps_arrives at s t (Some bytes) done =
      keeps_arrived at done.0.items (Comes (packet_in (Some bytes)) at.time) s t (λ h comes. keeps_comes (packet_in (Some bytes)) at.time s.hops h comes) done.2

  keeps_repeats : (again : RetransmissionStream) (at : Moment) (s t : Served) (o : Option Packet)
      → MatchOption o (t ≡ s) (λ packet. (datagram : Vec ℕ) × IsAgain again packet datagram.items × Arrives stream at datagram.items (ComesUnwrapped stream datagram.items at.time) s t) → Keeps s.hops t.hops
  keeps_repeats again at s t None same = keeps_same s.hops t.hops (ap (λ (x : Served). x.hops) same)
  keeps_repeats again at s t (Some packet) done =
      keeps_arrived at done.0.items (ComesUnwrapped stream done.0.items at.time) s t (λ h comes. keeps_comes (packet_in (Some comes.0)) at.time s.hops h comes.2) done.2

  pub splits : (all_steps : List ServeStep) (sent : ℕ) (s t : Served) → length s.hops.wire.datagrams ≡ sent → SendsItsOwn s.hops.wire → ServeRuns stream samples all_steps s t → Splits sent all_steps s t
  splits [] sent s t count own run = subst (λ (x : Served). Splits sent [] s x) (sym run) (nothing sent s)
  splits (steps.Send i ∷ later) sent s t count own run =
      let hops : Hops = run.1.0 in
      let does : DoesForwardStep samples (plain.Send i) s.hops hops = run.1.1 in
      let stepped : DoesStep samples (wires.Send i) s.hops.wire hops.wire =
      subst (DoesStep samples (wires.Send i) s.hops.wire) (sym (ap (λ (x : Hops). x.wire) does.2)) does.1 in
      let own_after = sends_own (slice_get samples i) s.hops.wire hops.wire stepped own in
      sent_one sent i later s t hops count does stepped own_after.0
      (splits later (length hops.wire.datagrams) (record s { hops = hops }) t refl own_after.1 (subst (λ (x : Served). ServeRuns stream samples later x t) run.1.2 run.2))
  splits (steps.Arrive k at ∷ later) sent s t count own run =
      let keeps : Keeps s.hops run.0.hops = keeps_arrives at s run.0 (slice_get s.hops.wire.datagrams k) run.1 in
      arrives sent k at later s run.0 t (slice_get s.hops.wire.datagrams k) refl count run.1
      (splits later sent run.0 t (ap (λ (ds : List (List ℕ)). length ds) keeps.datagrams ∙ count) (own_kept s.hops run.0.hops keeps own) run.2)
  splits (steps.Repeat k again at ∷ later) sent s t count own run =
      let keeps : Keeps s.hops run.0.hops = keeps_repeats again at s run.0 (repeated_in stream again (slice_get s.hops.wire.datagrams k)) run.1 in
      repeats sent k again at later s run.0 t count
      (splits later sent run.0 t (ap (λ (ds : List (List ℕ)). length ds) keeps.datagrams ∙ count) (own_kept s.hops run.0.hops keeps own) run.2) own (fits_in stream again) refl
      (slice_get s.hops.wire.datagrams k) refl run.1
  splits (steps.Call call ∷ later) sent s t count own run =
      let hops : run.0.hops ≡ s.hops = ap (λ (x : Served). x.hops) run.1.3 in
      called sent call later s run.0 t run.1
      (splits later sent run.0 t (ap (λ (h : Hops). length h.wire.datagrams) hops ∙ count) (subst (λ (h : Hops). SendsItsOwn h.wire) (sym hops) own) run.2)
  splits (steps.Deliver j now ∷ later) sent s t count own run =
      let hops : Hops = run.1.0 in
      let keeps : Keeps s.hops hops = keeps_delivered (slice_get s.hops.written j) now s.hops hops run.1.1 in
      hopped sent (plain.Deliver j now) (steps.Deliver j now ∷ later) later s t hops run.1.1 keeps
      (splits later sent (record s { hops = hops }) t (ap (λ (ds : List (List ℕ)). length ds) keeps.datagrams ∙ count) (own_kept s.hops hops keeps own)
      (subst (λ (x : Served). ServeRuns stream samples later x t) run.1.2 run.2))
      (λ entries told. refl) (λ entries cs are. are) (λ has. has)
  splits (steps.Pop now ∷ later) sent s t count own run =
      let hops : Hops = run.1.0 in
      let does = run.1.1 in
      let keeps : Keeps s.hops hops =
      keeps_wire s.hops hops does.0 does.2 (ap (λ (w : Wire). w.sends) does.1.4) (ap (λ (w : Wire). w.datagrams) does.1.4) (ap (λ (w : Wire). w.sending) does.1.4) in
      hopped sent (plain.Pop now) (steps.Pop now ∷ later) later s t hops does keeps
      (splits later sent (record s { hops = hops }) t (ap (λ (ds : List (List ℕ)). length ds) keeps.datagrams ∙ count) (own_kept s.hops hops keeps own)
      (subst (λ (x : Served). ServeRuns stream samples later x t) run.1.2 run.2))
      (λ entries told. refl) (λ entries cs are. are) (λ has. has)
  splits (steps.Finish ∷ later) sent s t count own run =
      let hops : Hops = run.1.0 in
      let does = run.1.1 in
      let keeps : Keeps s.hops hops =
      keeps_wire s.hops hops does.0 does.2 (ap (λ (w : Wire). w.sends) does.1.2) (ap (λ (w : Wire). w.datagrams) does.1.2) (ap (λ (w : Wire). w.sending) does.1.2) in
      hopped sent plain.Finish (steps.Finish ∷ later) later s t hops does keeps
      (splits later sent (record s { hops = hops }) t (ap (λ (ds : List (List ℕ)). length ds) keeps.datagrams ∙ count) (own_kept s.hops hops keeps own)
      (subst (λ (x : Served). ServeRuns stream samples later x t) run.1.2 run.2))
      (λ entries told. refl) (λ entries cs are. are) (λ has. has)

  -- A whole run
  module _ (all_steps : List ServeStep) (sender : Sending) (forwarder : Forward) (receiver : Receiver) (server : Session) (t : Served)
      (run : ServeRuns stream samples all_steps (begins_serving sender forwarder receiver server) t) where
    abbrev pub start : Served
    start = begins_serving sender forwarder receiver server

    pub parts : Splits 0 all_steps start t
    parts = splits all_steps 0 start t refl tt run

    pub forwarded_run : UnwrapsSender stream all_steps start → ForwardRuns samples (forwarded_steps_of stream samples all_steps t) (begins_forwarding sender forwarder receiver) t.hops
    forwarded_run own =
        subst (λ (es : List SentSample). ForwardRuns samples (forwarded_steps stream samples 0 all_steps es t.answers) (begins_forwarding sender forwarder receiver) t.hops) (sym parts.sends)
        (subst (λ (rs : List StepAnswer). ForwardRuns samples (forwarded_steps stream samples 0 all_steps parts.later rs) (begins_forwarding sender forwarder receiver) t.hops) (sym parts.told)
        (parts.forwards own))
