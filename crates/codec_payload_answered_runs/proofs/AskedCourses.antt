-- A run whose receiver requests what is missing, as steps of its receiver and of its schedule.
use Rattle.std.proofs.Common.{◌≡◌, ◌≢◌, ◌∙◌, refl, sym, ap, subst, ℕ, ◌+◌, List, [], ◌∷◌, ◌++◌, Bool, true, false, Option, Some, None, Err, MatchOption, length, ltb, arith, append-nil, append_assoc, cond}
use Rattle.std.specs.Prelude.{slice_get}
use Rattle.std.proofs.lemmas.Bool.{le-ltb, lt-ltb}
use Rattle.std.proofs.lemmas.List.{length-append}
use Rattle.std.proofs.lemmas.Option.{slice_get_within}
use Rattle.codec_payload_base.specs.declared.error.PacketError.TheVariants as faults
use Rattle.codec_payload_base.specs.declared.wire.Ticks.{Ticks}
use Rattle.codec_payload_feedback_requests.specs.NackSchedule.{Schedule, after_answer, after_due}
use Rattle.codec_payload_payloader.specs.Sending.{Sample}
use Rattle.codec_payload_sending_history.specs.declared.retransmission.RetransmissionStream.{RetransmissionStream}
use Rattle.codec_payload_receiver.specs.Sessions.{Ends, Session}
use Rattle.codec_payload_buffer_runs.specs.Schedule.{Answer}
use Rattle.codec_payload_datagram_runs.proofs.Courses.{DeliversCopy, IsCopy, Makes, Proceeds, makes}
use Rattle.codec_payload_datagram_runs.proofs.StepLemmas.{get_append, past_end}
use Rattle.codec_payload_datagram_runs.specs.Releases.{received_steps, sends_after, sent_after}
use Rattle.codec_payload_datagram_runs.specs.WireRuns.{Delivers, PopsUnit, Receipt, SendsIt, Wire}
use Rattle.codec_payload_datagram_runs.specs.declared.run.DatagramStep.{DatagramStep}
use Rattle.codec_payload_datagram_runs.specs.declared.run.DatagramStep.TheVariants as steps
use Rattle.codec_payload_datagram_runs.specs.declared.run.SentSample.{SentSample}
use Rattle.codec_payload_answered_runs.specs.AskedRuns.{Asked, AskedRuns, AskedStep, Asking, Asks, Does, DoesAsked, NotesAnswer, asked_by, receiver_steps, plain_of, wanted_by}

-- a step in which copies of datagrams are delivered
abbrev pub MakesAsked : Option RetransmissionStream → List Sample → AskedStep → Asking → Asking → Type 0
MakesAsked again samples (Does step) s t = (wire : Wire) × Makes again samples step s.wire wire × (t ≡ record s { wire = wire })
MakesAsked again samples (Asks now) s t = DoesAsked samples (Asks now) s t
MakesAsked again samples (NotesAnswer now number) s t = DoesAsked samples (NotesAnswer now number) s t

abbrev pub AskedCourse : Option RetransmissionStream → List Sample → List AskedStep → Asking → Asking → Type 0
AskedCourse again samples [] s t = t ≡ s
AskedCourse again samples (step ∷ later) s t = (mid : Asking) × MakesAsked again samples step s mid × AskedCourse again samples later mid t

makes_asked : (again : Option RetransmissionStream) (samples : List Sample) (step : AskedStep) (s t : Asking) → DoesAsked samples step s t → MakesAsked again samples step s t
makes_asked again samples (Does step) s t does = (does.0, makes again samples step s.wire does.0 does.1, does.2)
makes_asked again samples (Asks now) s t does = does
makes_asked again samples (NotesAnswer now number) s t does = does

pub asked_course : (again : Option RetransmissionStream) (samples : List Sample) (all_steps : List AskedStep) (s t : Asking) → AskedRuns samples all_steps s t → AskedCourse again samples all_steps s t
asked_course again samples [] s t run = run
asked_course again samples (step ∷ later) s t run = (run.0, makes_asked again samples step s run.0 run.1, asked_course again samples later run.0 t run.2)

-- the steps without those of the schedule are a run
pub plain_course : (again : Option RetransmissionStream) (samples : List Sample) (all_steps : List AskedStep) (s t : Asking) → AskedCourse again samples all_steps s t → Proceeds again samples (plain_of all_steps) s.wire t.wire
plain_course again samples [] s t run = ap (λ (x : Asking). x.wire) run
plain_course again samples (Does step ∷ later) s t run =
    let wire : run.0.wire ≡ run.1.0 = ap (λ (x : Asking). x.wire) run.1.2 in
    (run.0.wire, subst (Makes again samples step s.wire) (sym wire) run.1.1, plain_course again samples later run.0 t run.2)
plain_course again samples (Asks now ∷ later) s t run =
    subst (λ (w : Wire). Proceeds again samples (plain_of later) w t.wire) (ap (λ (x : Asking). x.wire) run.1) (plain_course again samples later run.0 t run.2)
plain_course again samples (NotesAnswer now number ∷ later) s t run =
    subst (λ (w : Wire). Proceeds again samples (plain_of later) w t.wire) (ap (λ (x : Asking). x.wire) run.1) (plain_course again samples later run.0 t run.2)

-- the steps of the receiver
pub plain_heard : (samples : List Sample) (sent : ℕ) (all_steps : List AskedStep) (sends : List SentSample) → plain_of (receiver_steps samples sent all_steps sends) ≡ received_steps samples sent (plain_of all_steps) sends
plain_heard samples sent [] sends = refl
plain_heard samples sent (Does (steps.Send i) ∷ later) sends = plain_heard samples (sent_after sent (slice_get samples i) sends) later (sends_after (slice_get samples i) sends)
plain_heard samples sent (Does (steps.Deliver k now) ∷ later) sends = by_sent (ltb k sent) (plain_heard samples sent later sends)
  where
    by_sent : (b : Bool) → plain_of (receiver_steps samples sent later sends) ≡ received_steps samples sent (plain_of later) sends
        → plain_of (cond b (Does (steps.Deliver k now) ∷ receiver_steps samples sent later sends) (receiver_steps samples sent later sends))
        ≡ cond b (steps.Deliver k now ∷ received_steps samples sent (plain_of later) sends) (received_steps samples sent (plain_of later) sends)
    by_sent true rest = ap (λ (xs : List DatagramStep). steps.Deliver k now ∷ xs) rest
    by_sent false rest = rest
plain_heard samples sent (Does (steps.Pop now) ∷ later) sends = ap (λ (xs : List DatagramStep). steps.Pop now ∷ xs) (plain_heard samples sent later sends)
plain_heard samples sent (Does steps.Finish ∷ later) sends = ap (λ (xs : List DatagramStep). steps.Finish ∷ xs) (plain_heard samples sent later sends)
plain_heard samples sent (Asks now ∷ later) sends = plain_heard samples sent later sends
plain_heard samples sent (NotesAnswer now number ∷ later) sends = plain_heard samples sent later sends

-- the receiver and its schedule make these steps over copies of these datagrams, and this is requested
abbrev pub Listens : Option RetransmissionStream → List AskedStep → List (List ℕ) → Session → Schedule → List Answer → List Asked → Type 0
Listens again [] datagrams s c answers asked = (answers ≡ []) × (asked ≡ [])
Listens again (Does (steps.Send i) ∷ later) datagrams s c answers asked = Listens again later datagrams s c answers asked
Listens again (Does (steps.Deliver k now) ∷ later) datagrams s c answers asked =
    (datagram : List ℕ) × (slice_get datagrams k ≡ Some datagram) × (bytes : List ℕ) × IsCopy again datagram bytes
    × (receipt : Receipt) × (mid : Session) × Delivers now bytes s receipt mid × Listens again later datagrams mid c answers asked
Listens again (Does (steps.Pop now) ∷ later) datagrams s c answers asked =
    (answer : Answer) × (mid : Session) × (answer ≢ Some (Err faults.OutOfMemory)) × PopsUnit now s answer mid
    × (more : List Answer) × (answers ≡ answer ∷ more) × Listens again later datagrams mid c more asked
Listens again (Does steps.Finish ∷ later) datagrams s c answers asked = (mid : Session) × Ends s mid × Listens again later datagrams mid c answers asked
Listens again (Asks now ∷ later) datagrams s c answers asked =
    (more : List Asked) × (asked ≡ asked_by now s c ∷ more) × Listens again later datagrams s (after_due now (wanted_by now s c)) answers more
Listens again (NotesAnswer now number ∷ later) datagrams s c answers asked = Listens again later datagrams s (after_answer now number c) answers asked

module _ (again : Option RetransmissionStream) (samples : List Sample) where
  pub record HearsTo (all_steps : List AskedStep) (s t : Asking) : Type 0 where
    pub later : List SentSample
    pub sends : t.wire.sends ≡ s.wire.sends ++ later
    pub answers : List Answer
    pub pops : t.wire.pops ≡ s.wire.pops ++ answers
    pub more : List Asked
    pub asked : t.asked ≡ s.asked ++ more
    pub grows : (k : ℕ) (bytes : List ℕ) → slice_get s.wire.datagrams k ≡ Some bytes → slice_get t.wire.datagrams k ≡ Some bytes
    pub listens : Listens again (receiver_steps samples (length s.wire.datagrams) all_steps later) t.wire.datagrams s.wire.session s.schedule answers more

  abbrev Heard : ℕ → List AskedStep → List SentSample → List AskedStep
  Heard = receiver_steps samples

  send_hears : (o : Option Sample) (i : ℕ) (later : List AskedStep) (s t : Asking) (wire : Wire) → slice_get samples i ≡ o
      → MatchOption o (wire ≡ s.wire) (λ sample. (entry : SentSample) × SendsIt sample s.wire.sending s.wire.datagrams entry wire.sending wire.datagrams
      × (wire ≡ record s.wire { sending = wire.sending; datagrams = wire.datagrams; sends = s.wire.sends ++ entry ∷ [] }))
      → HearsTo later (record s { wire = wire }) t → HearsTo (Does (steps.Send i) ∷ later) s t
  send_hears None i later s t wire is same hears =
      let c : HearsTo later s t = subst (λ (w : Wire). HearsTo later (record s { wire = w }) t) same hears in
      record {
        later = c.later;
        sends = c.sends;
        answers = c.answers;
        pops = c.pops;
        more = c.more;
        asked = c.asked;
        grows = c.grows;
        listens = subst (λ (o : Option Sample). Listens again (Heard (sent_after (length s.wire.datagrams) o c.later) later (sends_after o c.later)) t.wire.datagrams s.wire.session s.schedule c.answers c.more) (sym is) c.listens;
      }
  send_hears (Some sample) i later s t wire is done hears =
      let entry : SentSample = done.0 in
      let all : wire.datagrams ≡ s.wire.datagrams ++ wire.sending.datagrams = done.1.gained in
      let count : length wire.datagrams ≡ length s.wire.datagrams + entry.count = omega (arith, ap length all, length-append s.wire.datagrams wire.sending.datagrams, done.1.count) in
      let session : wire.session ≡ s.wire.session = ap (λ (x : Wire). x.session) done.2 in
      record {
        later = entry ∷ hears.later;
        sends = hears.sends ∙ (ap (λ (x : Wire). x.sends ++ hears.later) done.2 ∙ append_assoc s.wire.sends (entry ∷ []) hears.later);
        answers = hears.answers;
        pops = hears.pops ∙ ap (λ (x : Wire). x.pops ++ hears.answers) done.2;
        more = hears.more;
        asked = hears.asked;
        grows = λ k bytes there. hears.grows k bytes (subst (λ (ds : List (List ℕ)). slice_get ds k ≡ Some bytes) (sym all) (get_append s.wire.datagrams wire.sending.datagrams k bytes there));
        listens = subst (λ (o : Option Sample). Listens again (Heard (sent_after (length s.wire.datagrams) o (entry ∷ hears.later)) later (sends_after o (entry ∷ hears.later)))
            t.wire.datagrams s.wire.session s.schedule hears.answers hears.more) (sym is)
            (subst (λ (n : ℕ). Listens again (Heard n later hears.later) t.wire.datagrams s.wire.session s.schedule hears.answers hears.more) count
            (subst (λ (x : Session). Listens again (Heard (length wire.datagrams) later hears.later) t.wire.datagrams x s.schedule hears.answers hears.more) session hears.listens));
      }

  deliver_hears : (o : Option (List ℕ)) (k : ℕ) (now : Ticks) (later : List AskedStep) (s t : Asking) (wire : Wire) → slice_get s.wire.datagrams k ≡ o
      → DeliversCopy again o now s.wire wire → HearsTo later (record s { wire = wire }) t → HearsTo (Does (steps.Deliver k now) ∷ later) s t
  deliver_hears None k now later s t wire is same hears =
      let c : HearsTo later s t = subst (λ (w : Wire). HearsTo later (record s { wire = w }) t) same hears in
      let past : ltb k (length s.wire.datagrams) ≡ false = le-ltb k (length s.wire.datagrams) (past_end s.wire.datagrams k is) in
      record {
        later = c.later;
        sends = c.sends;
        answers = c.answers;
        pops = c.pops;
        more = c.more;
        asked = c.asked;
        grows = c.grows;
        listens = rw past c.listens;
      }
  deliver_hears (Some datagram) k now later s t wire is done hears =
      let within : ltb k (length s.wire.datagrams) ≡ true = lt-ltb k (length s.wire.datagrams) (slice_get_within s.wire.datagrams k datagram is) in
      let session : wire.session ≡ done.3 = ap (λ (x : Wire). x.session) done.5 in
      let same : wire.datagrams ≡ s.wire.datagrams = ap (λ (x : Wire). x.datagrams) done.5 in
      let grows : (j : ℕ) (b : List ℕ) → slice_get s.wire.datagrams j ≡ Some b → slice_get t.wire.datagrams j ≡ Some b =
      λ j b there. hears.grows j b (subst (λ (ds : List (List ℕ)). slice_get ds j ≡ Some b) (sym same) there) in
      let rest : Listens again (Heard (length s.wire.datagrams) later hears.later) t.wire.datagrams done.3 s.schedule hears.answers hears.more =
      subst (λ (ds : List (List ℕ)). Listens again (Heard (length ds) later hears.later) t.wire.datagrams done.3 s.schedule hears.answers hears.more) same
      (subst (λ (x : Session). Listens again (Heard (length wire.datagrams) later hears.later) t.wire.datagrams x s.schedule hears.answers hears.more) session hears.listens) in
      record {
        later = hears.later;
        sends = hears.sends ∙ ap (λ (x : Wire). x.sends ++ hears.later) done.5;
        answers = hears.answers;
        pops = hears.pops ∙ ap (λ (x : Wire). x.pops ++ hears.answers) done.5;
        more = hears.more;
        asked = hears.asked;
        grows = grows;
        listens = rw within (datagram, grows k datagram is, done.0, done.1, done.2, done.3, done.4, rest);
      }

  pub hears_to : (all_steps : List AskedStep) (s t : Asking) → AskedCourse again samples all_steps s t → HearsTo all_steps s t
  hears_to [] s t run = record {
    later = [];
    sends = ap (λ (x : Asking). x.wire.sends) run ∙ sym (append-nil s.wire.sends);
    answers = [];
    pops = ap (λ (x : Asking). x.wire.pops) run ∙ sym (append-nil s.wire.pops);
    more = [];
    asked = ap (λ (x : Asking). x.asked) run ∙ sym (append-nil s.asked);
    grows = λ k bytes there. subst (λ (x : Asking). slice_get x.wire.datagrams k ≡ Some bytes) (sym run) there;
    listens = (refl, refl);
  }
  hears_to (Does (steps.Send i) ∷ later) s t run =
      send_hears (slice_get samples i) i later s t run.1.0 refl run.1.1 (subst (λ (x : Asking). HearsTo later x t) run.1.2 (hears_to later run.0 t run.2))
  hears_to (Does (steps.Deliver k now) ∷ later) s t run =
      deliver_hears (slice_get s.wire.datagrams k) k now later s t run.1.0 refl run.1.1 (subst (λ (x : Asking). HearsTo later x t) run.1.2 (hears_to later run.0 t run.2))
  hears_to (Does (steps.Pop now) ∷ later) s t run =
      let wire : Wire = run.1.0 in
      let hears : HearsTo later (record s { wire = wire }) t = subst (λ (x : Asking). HearsTo later x t) run.1.2 (hears_to later run.0 t run.2) in
      let pop = run.1.1 in
      let does : wire ≡ record s.wire { session = pop.1; pops = s.wire.pops ++ pop.0 ∷ [] } = pop.4 in
      let session : wire.session ≡ pop.1 = ap (λ (x : Wire). x.session) does in
      let same : wire.datagrams ≡ s.wire.datagrams = ap (λ (x : Wire). x.datagrams) does in
      record {
        later = hears.later;
        sends = hears.sends ∙ ap (λ (x : Wire). x.sends ++ hears.later) does;
        answers = pop.0 ∷ hears.answers;
        pops = hears.pops ∙ (ap (λ (x : Wire). x.pops ++ hears.answers) does ∙ append_assoc s.wire.pops (pop.0 ∷ []) hears.answers);
        more = hears.more;
        asked = hears.asked;
        grows = λ j b there. hears.grows j b (subst (λ (ds : List (List ℕ)). slice_get ds j ≡ Some b) (sym same) there);
        listens = (
          pop.0,
          pop.1,
          pop.2,
          pop.3,
          hears.answers,
          refl,
          subst (λ (ds : List (List ℕ)). Listens again (Heard (length ds) later hears.later) t.wire.datagrams pop.1 s.schedule hears.answers hears.more) same
              (subst (λ (x : Session). Listens again (Heard (length wire.datagrams) later hears.later) t.wire.datagrams x s.schedule hears.answers hears.more) session hears.listens),
        );
      }
  hears_to (Does steps.Finish ∷ later) s t run =
      let wire : Wire = run.1.0 in
      let hears : HearsTo later (record s { wire = wire }) t = subst (λ (x : Asking). HearsTo later x t) run.1.2 (hears_to later run.0 t run.2) in
      let ends = run.1.1 in
      let session : wire.session ≡ ends.0 = ap (λ (x : Wire). x.session) ends.2 in
      let same : wire.datagrams ≡ s.wire.datagrams = ap (λ (x : Wire). x.datagrams) ends.2 in
      record {
        later = hears.later;
        sends = hears.sends ∙ ap (λ (x : Wire). x.sends ++ hears.later) ends.2;
        answers = hears.answers;
        pops = hears.pops ∙ ap (λ (x : Wire). x.pops ++ hears.answers) ends.2;
        more = hears.more;
        asked = hears.asked;
        grows = λ j b there. hears.grows j b (subst (λ (ds : List (List ℕ)). slice_get ds j ≡ Some b) (sym same) there);
        listens = (
          ends.0,
          ends.1,
          subst (λ (ds : List (List ℕ)). Listens again (Heard (length ds) later hears.later) t.wire.datagrams ends.0 s.schedule hears.answers hears.more) same
              (subst (λ (x : Session). Listens again (Heard (length wire.datagrams) later hears.later) t.wire.datagrams x s.schedule hears.answers hears.more) session hears.listens),
        );
      }
  hears_to (Asks now ∷ later) s t run =
      let next : Asking = record s { schedule = after_due now (wanted_by now s.wire.session s.schedule); asked = s.asked ++ asked_by now s.wire.session s.schedule ∷ [] } in
      let hears : HearsTo later next t = subst (λ (x : Asking). HearsTo later x t) run.1 (hears_to later run.0 t run.2) in
      record {
        later = hears.later;
        sends = hears.sends;
        answers = hears.answers;
        pops = hears.pops;
        more = asked_by now s.wire.session s.schedule ∷ hears.more;
        asked = hears.asked ∙ append_assoc s.asked (asked_by now s.wire.session s.schedule ∷ []) hears.more;
        grows = hears.grows;
        listens = (hears.more, refl, hears.listens);
      }
  hears_to (NotesAnswer now number ∷ later) s t run =
      let next : Asking = record s { schedule = after_answer now number s.schedule } in
      let hears : HearsTo later next t = subst (λ (x : Asking). HearsTo later x t) run.1 (hears_to later run.0 t run.2) in
      record {
        later = hears.later;
        sends = hears.sends;
        answers = hears.answers;
        pops = hears.pops;
        more = hears.more;
        asked = hears.asked;
        grows = hears.grows;
        listens = hears.listens;
      }
