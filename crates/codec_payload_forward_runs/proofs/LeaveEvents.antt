-- A run whose forwarder leaves packets out, as what happened in it.
use Rattle.std.proofs.Common.{◌≡◌, ◌∙◌, refl, sym, ap, subst, ℕ, ◌+◌, List, [], ◌∷◌, ◌++◌, Bool, true, false, ltb, Option, Some, None, MatchOption, Ok, length, append_assoc, append-nil, length-append, arith}
use Rattle.std.specs.Prelude.{slice_get}
use Rattle.std.proofs.lemmas.Bool.{le-ltb, lt-ltb}
use Rattle.std.proofs.lemmas.Option.{slice_get_within}
use Rattle.codec_payload_base.specs.declared.wire.Codec.{Codec}
use Rattle.codec_payload_base.specs.declared.wire.Ticks.{Ticks}
use Rattle.codec_payload_payloader.specs.Sending.{Sample}
use Rattle.codec_payload_receiver.specs.Sessions.{Session}
use Rattle.codec_payload_rtp.specs.RtpPackets.{Packet}
use Rattle.codec_payload_rtp.specs.RtpReading.{rtp_at}
use Rattle.codec_payload_sending_forward.specs.Forwarding.{Forward, Forwards, Leaves}
use Rattle.codec_payload_sending_forward.specs.declared.forwarder.Forwarded.{Forwarded}
use Rattle.codec_payload_datagram_runs.proofs.StepLemmas.{past_end}
use Rattle.codec_payload_datagram_runs.specs.Releases.{sends_after, sent_after}
use Rattle.codec_payload_datagram_runs.specs.WireRuns.{Delivers, Receipt, SendsIt, Wire}
use Rattle.codec_payload_datagram_runs.specs.declared.run.DatagramStep.TheVariants as seen
use Rattle.codec_payload_datagram_runs.specs.declared.run.SentSample.{SentSample}
use Rattle.codec_payload_forward_runs.proofs.SourceLemmas.{IsDatagramOf, IsSource, of_at, source_after}
use Rattle.codec_payload_forward_runs.specs.ForwardRuns.{DoesPlain, Hops, packet_in, packet_read, written_by}
use Rattle.codec_payload_forward_runs.specs.LeaveReleases.{Event, delivers, ends, entry_of, events, forwards, leaves, pops, sends}
use Rattle.codec_payload_forward_runs.specs.LeaveRuns.{DoesLeaveStep, LeaveRuns, filled_by}
use Rattle.codec_payload_forward_runs.specs.declared.leave_run.LeaveStep.{LeaveStep}
use Rattle.codec_payload_forward_runs.specs.declared.leave_run.LeaveStep.TheVariants as steps
use Rattle.codec_payload_forward_runs.specs.declared.run.ForwardStep.TheVariants as plain

-- What an event does

-- a sample is sent, if there is one
abbrev pub DoesSend : Option Sample → Option SentSample → Hops → Hops → Type 0
DoesSend None None s t = t ≡ s
DoesSend None (Some entry) s t = ⊥
DoesSend (Some sample) None s t = ⊥
DoesSend (Some sample) (Some entry) s t =
    SendsIt sample s.wire.sending s.wire.datagrams entry t.wire.sending t.wire.datagrams
    × (t ≡ record s { wire = record s.wire { sending = t.wire.sending; datagrams = t.wire.datagrams; sends = s.wire.sends ++ entry ∷ [] } })

-- a datagram comes to the forwarder, to be forwarded
pub record DoesForward (k : ℕ) (answer : Forwarded) (s t : Hops) : Type 0 where
  pub datagram : List ℕ
  pub packet : Packet
  pub there : slice_get s.wire.datagrams k ≡ Some datagram
  pub reads : rtp_at datagram ≡ Ok packet
  pub now : ℕ
  pub bytes : List ℕ
  pub forwarder : Forward
  pub does : Forwards now packet s.forwarder answer bytes forwarder
  pub is : t ≡ record s { forwarder = forwarder; written = s.written ++ written_by answer bytes; answers = s.answers ++ answer ∷ [] }

-- or to be left out
pub record DoesLeave (k : ℕ) (answer : Forwarded) (s t : Hops) : Type 0 where
  pub datagram : List ℕ
  pub packet : Packet
  pub there : slice_get s.wire.datagrams k ≡ Some datagram
  pub reads : rtp_at datagram ≡ Ok packet
  pub bytes : List ℕ
  pub forwarder : Forward
  pub does : Leaves packet s.forwarder answer bytes forwarder
  pub is : t ≡ record s { forwarder = forwarder; written = s.written ++ filled_by answer bytes; answers = s.answers ++ answer ∷ [] }

abbrev pub DoesDeliver : ℕ → Ticks → Hops → Hops → Type 0
DoesDeliver j now s t =
    MatchOption (slice_get s.written j) (t ≡ s) (λ bytes.
    (receipt : Receipt) × (session : Session) × Delivers now bytes s.wire.session receipt session
    × (t ≡ record s { wire = record s.wire { session = session; receipts = s.wire.receipts ++ receipt ∷ [] } }))

abbrev pub DoesEvent : List Sample → Event → Hops → Hops → Type 0
DoesEvent samples (sends i entry) s t = DoesSend (slice_get samples i) entry s t
DoesEvent samples (forwards k answer) s t = DoesForward k answer s t
DoesEvent samples (leaves k answer) s t = DoesLeave k answer s t
DoesEvent samples (delivers j now) s t = DoesDeliver j now s t
DoesEvent samples (pops now) s t = DoesPlain samples (seen.Pop now) s t
DoesEvent samples ends s t = DoesPlain samples seen.Finish s t

abbrev pub Happens : List Sample → List Event → Hops → Hops → Type 0
Happens samples [] s t = t ≡ s
Happens samples (event ∷ later) s t = (mid : Hops) × DoesEvent samples event s mid × Happens samples later mid t

-- A run is what happened

module _ (ssrc rate : ℕ) (codec : Codec) (kind steady : Bool) (samples : List Sample) where
  abbrev Source : Hops → Type 0
  Source s = IsSource ssrc rate codec kind steady s.wire.sending s.wire.datagrams

  pub record Became (all_steps : List LeaveStep) (s t : Hops) : Type 0 where
    pub later : List SentSample
    pub sends_are : t.wire.sends ≡ s.wire.sends ++ later
    pub more : List Forwarded
    pub answers_are : t.answers ≡ s.answers ++ more
    pub happens : Happens samples (events samples (length s.wire.datagrams) all_steps later more) s t

  -- a step that is skipped
  skipped : (step : LeaveStep) (later : List LeaveStep) (s mid t : Hops) → mid ≡ s
      → ((entries : List SentSample) (results : List Forwarded) → events samples (length s.wire.datagrams) (step ∷ later) entries results ≡ events samples (length s.wire.datagrams) later entries results)
      → Became later mid t → Became (step ∷ later) s t
  skipped step later s mid t same none rest =
      let r : Became later s t = subst (λ (x : Hops). Became later x t) same rest in
      record {
        later = r.later;
        sends_are = r.sends_are;
        more = r.more;
        answers_are = r.answers_are;
        happens = subst (λ (es : List Event). Happens samples es s t) (sym (none r.later r.more)) r.happens;
      }

  -- one event, of a step that sends nothing and gets no answer
  quiet_event : (step : LeaveStep) (event : Event) (later : List LeaveStep) (s mid t : Hops) → mid.wire.datagrams ≡ s.wire.datagrams → mid.wire.sends ≡ s.wire.sends → mid.answers ≡ s.answers
      → DoesEvent samples event s mid
      → ((entries : List SentSample) (results : List Forwarded) → events samples (length s.wire.datagrams) (step ∷ later) entries results ≡ event ∷ events samples (length s.wire.datagrams) later entries results)
      → Became later mid t → Became (step ∷ later) s t
  quiet_event step event later s mid t datagrams entries answers does one rest = record {
    later = rest.later;
    sends_are = rest.sends_are ∙ ap (λ (es : List SentSample). es ++ rest.later) entries;
    more = rest.more;
    answers_are = rest.answers_are ∙ ap (λ (xs : List Forwarded). xs ++ rest.more) answers;
    happens = subst (λ (es : List Event). Happens samples es s t) (sym (one rest.later rest.more))
        (mid, does, subst (λ (ds : List (List ℕ)). Happens samples (events samples (length ds) later rest.later rest.more) mid t) datagrams rest.happens);
  }

  -- one event that gets an answer
  answered : (step : LeaveStep) (event : Event) (answer : Forwarded) (later : List LeaveStep) (s mid t : Hops) → mid.wire ≡ s.wire → mid.answers ≡ s.answers ++ answer ∷ []
      → DoesEvent samples event s mid
      → ((entries : List SentSample) (results : List Forwarded)
      → events samples (length s.wire.datagrams) (step ∷ later) entries (answer ∷ results) ≡ event ∷ events samples (length s.wire.datagrams) later entries results)
      → Became later mid t → Became (step ∷ later) s t
  answered step event answer later s mid t wire answers does one rest = record {
    later = rest.later;
    sends_are = rest.sends_are ∙ ap (λ (w : Wire). w.sends ++ rest.later) wire;
    more = answer ∷ rest.more;
    answers_are = rest.answers_are ∙ (ap (λ (xs : List Forwarded). xs ++ rest.more) answers ∙ append_assoc s.answers (answer ∷ []) rest.more);
    happens = subst (λ (es : List Event). Happens samples es s t) (sym (one rest.later rest.more))
        (mid, does, subst (λ (w : Wire). Happens samples (events samples (length w.datagrams) later rest.later rest.more) mid t) wire rest.happens);
  }

  -- a sample
  sent_event : (i : ℕ) (later : List LeaveStep) (s mid t : Hops) (o : Option Sample) → slice_get samples i ≡ o → (wire : Wire)
      → MatchOption o (wire ≡ s.wire) (λ sample. (entry : SentSample) × SendsIt sample s.wire.sending s.wire.datagrams entry wire.sending wire.datagrams
      × (wire ≡ record s.wire { sending = wire.sending; datagrams = wire.datagrams; sends = s.wire.sends ++ entry ∷ [] }))
      → mid ≡ record s { wire = wire } → Became later mid t → Became (steps.Plain (plain.Send i) ∷ later) s t
  sent_event i later s mid t None none wire same is rest =
      let whole : mid ≡ s = is ∙ ap (λ (w : Wire). record s { wire = w }) same in
      let r : Became later s t = subst (λ (x : Hops). Became later x t) whole rest in
      record {
        later = r.later;
        sends_are = r.sends_are;
        more = r.more;
        answers_are = r.answers_are;
        happens = subst (λ (o : Option Sample).
            Happens samples (sends i (entry_of o r.later) ∷ events samples (sent_after (length s.wire.datagrams) o r.later) later (sends_after o r.later) r.more) s t) (sym none)
            (s, subst (λ (o : Option Sample). DoesSend o None s s) (sym none) refl, r.happens);
      }
  sent_event i later s mid t (Some sample) there wire done is rest =
      let entry : SentSample = done.0 in
      let mid_wire : mid.wire ≡ wire = ap (λ (x : Hops). x.wire) is in
      let all : wire.datagrams ≡ s.wire.datagrams ++ wire.sending.datagrams = done.1.gained in
      let count : length mid.wire.datagrams ≡ length s.wire.datagrams + entry.count =
      ap (λ (w : Wire). length w.datagrams) mid_wire ∙ omega (arith, ap length all, length-append s.wire.datagrams wire.sending.datagrams, done.1.count) in
      let does : DoesSend (Some sample) (Some entry) s mid = (
        subst (λ (w : Wire). SendsIt sample s.wire.sending s.wire.datagrams entry w.sending w.datagrams) (sym mid_wire) done.1,
        is ∙ (ap (λ (w : Wire). record s { wire = w }) done.2
            ∙ ap (λ (w : Wire). record s { wire = record s.wire { sending = w.sending; datagrams = w.datagrams; sends = s.wire.sends ++ entry ∷ [] } }) (sym mid_wire)),
      ) in
      record {
        later = entry ∷ rest.later;
        sends_are = rest.sends_are ∙ (ap (λ (w : Wire). w.sends ++ rest.later) mid_wire ∙ (ap (λ (w : Wire). w.sends ++ rest.later) done.2 ∙ append_assoc s.wire.sends (entry ∷ []) rest.later));
        more = rest.more;
        answers_are = rest.answers_are ∙ ap (λ (x : Hops). x.answers ++ rest.more) is;
        happens = subst (λ (o : Option Sample).
            Happens samples (sends i (entry_of o (entry ∷ rest.later)) ∷ events samples (sent_after (length s.wire.datagrams) o (entry ∷ rest.later)) later (sends_after o (entry ∷ rest.later)) rest.more) s t)
            (sym there) (
              mid,
              subst (λ (o : Option Sample). DoesSend o (Some entry) s mid) (sym there) does,
              subst (λ (n : ℕ). Happens samples (events samples n later rest.later rest.more) mid t) count rest.happens,
            );
      }

  -- a datagram that is not there, or the one that comes
  past : (k : ℕ) (s : Hops) → slice_get s.wire.datagrams k ≡ None → ltb k (length s.wire.datagrams) ≡ false
  past k s none = le-ltb k (length s.wire.datagrams) (past_end s.wire.datagrams k none)

  there_is : (k : ℕ) (s : Hops) (d : List ℕ) → slice_get s.wire.datagrams k ≡ Some d → ltb k (length s.wire.datagrams) ≡ true
  there_is k s d there = lt-ltb k (length s.wire.datagrams) (slice_get_within s.wire.datagrams k d there)

  packet_is : (k : ℕ) (s : Hops) (d : List ℕ) (of : IsDatagramOf steady ssrc codec d) → slice_get s.wire.datagrams k ≡ Some d → packet_in (slice_get s.wire.datagrams k) ≡ Some of.0
  packet_is k s d of there = ap packet_in there ∙ ap packet_read of.1

  forward_event : (k now : ℕ) (later : List LeaveStep) (s mid t : Hops) → Source s → DoesLeaveStep samples (steps.Plain (plain.Forward k now)) s mid → Became later mid t
      → Became (steps.Plain (plain.Forward k now) ∷ later) s t
  forward_event k now later s mid t source does rest = by (slice_get s.wire.datagrams k) refl
    where
      by : (o : Option (List ℕ)) → slice_get s.wire.datagrams k ≡ o → Became (steps.Plain (plain.Forward k now) ∷ later) s t
      by None none = skipped (steps.Plain (plain.Forward k now)) later s mid t (rw none at does) (λ entries results. rw (past k s none) refl) rest
      by (Some d) there =
          let of : IsDatagramOf steady ssrc codec d = of_at steady ssrc codec s.wire.datagrams k d source.all there in
          let is : packet_in (slice_get s.wire.datagrams k) ≡ Some of.0 = packet_is k s d of there in
          let done = rw is at does in
          answered (steps.Plain (plain.Forward k now)) (forwards k done.0) done.0 later s mid t (ap (λ (x : Hops). x.wire) done.4) (ap (λ (x : Hops). x.answers) done.4)
          (record { datagram = d; packet = of.0; there = there; reads = of.1; now = now; bytes = done.1; forwarder = done.2; does = done.3; is = done.4 })
          (λ entries results. rw (there_is k s d there) refl) rest

  leave_event : (k : ℕ) (later : List LeaveStep) (s mid t : Hops) → Source s → DoesLeaveStep samples (steps.LeaveOut k) s mid → Became later mid t → Became (steps.LeaveOut k ∷ later) s t
  leave_event k later s mid t source does rest = by (slice_get s.wire.datagrams k) refl
    where
      by : (o : Option (List ℕ)) → slice_get s.wire.datagrams k ≡ o → Became (steps.LeaveOut k ∷ later) s t
      by None none = skipped (steps.LeaveOut k) later s mid t (rw none at does) (λ entries results. rw (past k s none) refl) rest
      by (Some d) there =
          let of : IsDatagramOf steady ssrc codec d = of_at steady ssrc codec s.wire.datagrams k d source.all there in
          let is : packet_in (slice_get s.wire.datagrams k) ≡ Some of.0 = packet_is k s d of there in
          let done = rw is at does in
          answered (steps.LeaveOut k) (leaves k done.0) done.0 later s mid t (ap (λ (x : Hops). x.wire) done.4) (ap (λ (x : Hops). x.answers) done.4)
          (record { datagram = d; packet = of.0; there = there; reads = of.1; bytes = done.1; forwarder = done.2; does = done.3; is = done.4 })
          (λ entries results. rw (there_is k s d there) refl) rest

  deliver_event : (j : ℕ) (now : Ticks) (later : List LeaveStep) (s mid t : Hops) (o : Option (List ℕ)) → slice_get s.written j ≡ o
      → MatchOption o (mid ≡ s) (λ bytes. (receipt : Receipt) × (session : Session) × Delivers now bytes s.wire.session receipt session
      × (mid ≡ record s { wire = record s.wire { session = session; receipts = s.wire.receipts ++ receipt ∷ [] } }))
      → DoesDeliver j now s mid → Became later mid t → Became (steps.Plain (plain.Deliver j now) ∷ later) s t
  deliver_event j now later s mid t None is same does rest =
      quiet_event (steps.Plain (plain.Deliver j now)) (delivers j now) later s mid t (ap (λ (x : Hops). x.wire.datagrams) same) (ap (λ (x : Hops). x.wire.sends) same) (ap (λ (x : Hops). x.answers) same) does
      (λ entries results. refl) rest
  deliver_event j now later s mid t (Some bytes) is done does rest =
      quiet_event (steps.Plain (plain.Deliver j now)) (delivers j now) later s mid t (ap (λ (x : Hops). x.wire.datagrams) done.3) (ap (λ (x : Hops). x.wire.sends) done.3) (ap (λ (x : Hops). x.answers) done.3) does
      (λ entries results. refl) rest

  -- the source after a step
  same_source : (s mid : Hops) → Source s → mid.wire.sending ≡ s.wire.sending → mid.wire.datagrams ≡ s.wire.datagrams → Source mid
  same_source s mid source sending datagrams =
      subst (λ (ds : List (List ℕ)). IsSource ssrc rate codec kind steady mid.wire.sending ds) (sym datagrams)
      (subst (λ (x : _). IsSource ssrc rate codec kind steady x s.wire.datagrams) (sym sending) source)

  wire_same : (k : ℕ) (s mid : Hops) (P : Packet → Type 0) → ((p : Packet) → P p → mid.wire ≡ s.wire) → MatchOption (packet_in (slice_get s.wire.datagrams k)) (mid ≡ s) P → mid.wire ≡ s.wire
  wire_same k s mid P here does = by (packet_in (slice_get s.wire.datagrams k)) does
    where
      by : (o : Option Packet) → MatchOption o (mid ≡ s) P → mid.wire ≡ s.wire
      by None same = ap (λ (x : Hops). x.wire) same
      by (Some p) done = here p done

  deliver_source : (s mid : Hops) (o : Option (List ℕ)) (now : Ticks) → Source s
      → MatchOption o (mid ≡ s) (λ bytes. (receipt : Receipt) × (session : Session) × Delivers now bytes s.wire.session receipt session
      × (mid ≡ record s { wire = record s.wire { session = session; receipts = s.wire.receipts ++ receipt ∷ [] } }))
      → Source mid
  deliver_source s mid None now source same = subst Source (sym same) source
  deliver_source s mid (Some bytes) now source done = same_source s mid source (ap (λ (x : Hops). x.wire.sending) done.3) (ap (λ (x : Hops). x.wire.datagrams) done.3)

  source_then : (step : LeaveStep) (s mid : Hops) → Source s → DoesLeaveStep samples step s mid → Source mid
  source_then (steps.Plain (plain.Send i)) s mid source does =
      subst Source (sym does.2) (source_after ssrc rate codec kind steady samples i s.wire does.0 source does.1)
  source_then (steps.Plain (plain.Forward k now)) s mid source does =
      let wire : mid.wire ≡ s.wire = wire_same k s mid _ (λ p done. ap (λ (x : Hops). x.wire) done.4) does in
      same_source s mid source (ap (λ (w : Wire). w.sending) wire) (ap (λ (w : Wire). w.datagrams) wire)
  source_then (steps.Plain (plain.Deliver j now)) s mid source does = deliver_source s mid (slice_get s.written j) now source does
  source_then (steps.Plain (plain.Pop now)) s mid source does =
      same_source s mid source (ap (λ (x : Hops). x.wire.sending) does.2 ∙ ap (λ (w : Wire). w.sending) does.1.4) (ap (λ (x : Hops). x.wire.datagrams) does.2 ∙ ap (λ (w : Wire). w.datagrams) does.1.4)
  source_then (steps.Plain plain.Finish) s mid source does =
      same_source s mid source (ap (λ (x : Hops). x.wire.sending) does.2 ∙ ap (λ (w : Wire). w.sending) does.1.2) (ap (λ (x : Hops). x.wire.datagrams) does.2 ∙ ap (λ (w : Wire). w.datagrams) does.1.2)
  source_then (steps.LeaveOut k) s mid source does =
      let wire : mid.wire ≡ s.wire = wire_same k s mid _ (λ p done. ap (λ (x : Hops). x.wire) done.4) does in
      same_source s mid source (ap (λ (w : Wire). w.sending) wire) (ap (λ (w : Wire). w.datagrams) wire)

  became_first : (step : LeaveStep) (later : List LeaveStep) (s mid t : Hops) → Source s → DoesLeaveStep samples step s mid → Became later mid t → Became (step ∷ later) s t
  became_first (steps.Plain (plain.Send i)) later s mid t source does rest = sent_event i later s mid t (slice_get samples i) refl does.0 does.1 does.2 rest
  became_first (steps.Plain (plain.Forward k now)) later s mid t source does rest = forward_event k now later s mid t source does rest
  became_first (steps.Plain (plain.Deliver j now)) later s mid t source does rest = deliver_event j now later s mid t (slice_get s.written j) refl does does rest
  became_first (steps.Plain (plain.Pop now)) later s mid t source does rest =
      quiet_event (steps.Plain (plain.Pop now)) (pops now) later s mid t (ap (λ (x : Hops). x.wire.datagrams) does.2 ∙ ap (λ (w : Wire). w.datagrams) does.1.4)
      (ap (λ (x : Hops). x.wire.sends) does.2 ∙ ap (λ (w : Wire). w.sends) does.1.4) (ap (λ (x : Hops). x.answers) does.2) does (λ entries results. refl) rest
  became_first (steps.Plain plain.Finish) later s mid t source does rest =
      quiet_event (steps.Plain plain.Finish) ends later s mid t (ap (λ (x : Hops). x.wire.datagrams) does.2 ∙ ap (λ (w : Wire). w.datagrams) does.1.2)
      (ap (λ (x : Hops). x.wire.sends) does.2 ∙ ap (λ (w : Wire). w.sends) does.1.2) (ap (λ (x : Hops). x.answers) does.2) does (λ entries results. refl) rest
  became_first (steps.LeaveOut k) later s mid t source does rest = leave_event k later s mid t source does rest

  pub became : (all_steps : List LeaveStep) (s t : Hops) → Source s → LeaveRuns samples all_steps s t → Became all_steps s t
  became [] s t source run = record {
    later = [];
    sends_are = ap (λ (x : Hops). x.wire.sends) run ∙ sym (append-nil s.wire.sends);
    more = [];
    answers_are = ap (λ (x : Hops). x.answers) run ∙ sym (append-nil s.answers);
    happens = run;
  }
  became (step ∷ later) s t source run = became_first step later s run.0 t source run.1 (became later run.0 t (source_then step s run.0 source run.1) run.2)
