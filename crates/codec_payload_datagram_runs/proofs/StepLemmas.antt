-- A run over datagrams, as steps of the receiver.
use Rattle.std.proofs.Common.{◌≡◌, ◌≢◌, ◌∙◌, refl, sym, ap, subst, ℕ, zero, suc, ◌+◌, ◌≤◌, List, []}
use Rattle.std.proofs.Common.{◌∷◌, ◌++◌, true, false, ltb, Option, Some, None, Err, MatchOption, length, arith, append_assoc, append-nil}
use Rattle.std.specs.Prelude.{slice_get}
use Rattle.std.proofs.lemmas.Bool.{lt-ltb, le-ltb}
use Rattle.std.proofs.lemmas.List.{length-append}
use Rattle.std.proofs.lemmas.Option.{slice_get_within}
use Rattle.codec_payload_base.specs.declared.error.PacketError.TheVariants as faults
use Rattle.codec_payload_base.specs.declared.wire.Ticks.{Ticks}
use Rattle.codec_payload_sending_history.specs.declared.retransmission.RetransmissionStream.{RetransmissionStream}
use Rattle.codec_payload_buffer_runs.specs.Schedule.{Answer}
use Rattle.codec_payload_payloader.specs.Sending.{Sample}
use Rattle.codec_payload_receiver.specs.Sessions.{Ends, Session}
use Rattle.codec_payload_datagram_runs.proofs.Courses.{DeliversCopy, IsCopy, Proceeds}
use Rattle.codec_payload_datagram_runs.specs.Releases.{received_steps, sends_after, sent_after}
use Rattle.codec_payload_datagram_runs.specs.WireRuns.{Delivers, PopsUnit, Receipt, SendsIt, Wire}
use Rattle.codec_payload_datagram_runs.specs.declared.run.DatagramStep.{DatagramStep}
use Rattle.codec_payload_datagram_runs.specs.declared.run.DatagramStep.TheVariants as steps
use Rattle.codec_payload_datagram_runs.specs.declared.run.SentSample.{SentSample}

pub get_append : {X : Type 0} (xs ys : List X) (k : ℕ) (x : X) → slice_get xs k ≡ Some x → slice_get (xs ++ ys) k ≡ Some x
get_append [] ys k x e = absurd (cc)
get_append (y ∷ xs) ys zero x e = e
get_append (y ∷ xs) ys (suc k) x e = get_append xs ys k x e

pub past_end : {X : Type 0} (xs : List X) (k : ℕ) → slice_get xs k ≡ None → length xs ≤ k
past_end [] k e = omega arith
past_end (x ∷ xs) zero e = absurd (cc)
past_end (x ∷ xs) (suc k) e = omega (arith, past_end xs k e)

-- the receiver makes these steps over copies of these datagrams, and pops have these answers
abbrev pub Takes : Option RetransmissionStream → List DatagramStep → List (List ℕ) → Session → List Answer → Session → Type 0
Takes again [] datagrams s answers t = (answers ≡ []) × (t ≡ s)
Takes again (steps.Send i ∷ later) datagrams s answers t = Takes again later datagrams s answers t
Takes again (steps.Deliver k now ∷ later) datagrams s answers t =
    (datagram : List ℕ) × (slice_get datagrams k ≡ Some datagram) × (bytes : List ℕ) × IsCopy again datagram bytes
    × (receipt : Receipt) × (mid : Session) × Delivers now bytes s receipt mid × Takes again later datagrams mid answers t
Takes again (steps.Pop now ∷ later) datagrams s answers t =
    (answer : Answer) × (more : List Answer) × (mid : Session) × (answers ≡ answer ∷ more) × (answer ≢ Some (Err faults.OutOfMemory)) × PopsUnit now s answer mid × Takes again later datagrams mid more t
Takes again (steps.Finish ∷ later) datagrams s answers t = (mid : Session) × Ends s mid × Takes again later datagrams mid answers t

-- the effect of the steps of a run
pub record ComesTo (again : Option RetransmissionStream) (samples : List Sample) (all_steps : List DatagramStep) (s t : Wire) : Type 0 where
  pub later : List SentSample
  pub sends : t.sends ≡ s.sends ++ later
  pub answers : List Answer
  pub pops : t.pops ≡ s.pops ++ answers
  pub grows : (k : ℕ) (bytes : List ℕ) → slice_get s.datagrams k ≡ Some bytes → slice_get t.datagrams k ≡ Some bytes
  pub takes : Takes again (received_steps samples (length s.datagrams) all_steps later) t.datagrams s.session answers t.session

module _ (again : Option RetransmissionStream) (samples : List Sample) where
  abbrev Received : ℕ → List DatagramStep → List SentSample → List DatagramStep
  Received = received_steps samples

  -- a step that changes only the receiver
  after_same : (later : List DatagramStep) (s mid t : Wire) → mid ≡ s → ComesTo again samples later mid t → ComesTo again samples later s t
  after_same later s mid t same comes = subst (λ (x : Wire). ComesTo again samples later x t) same comes

  send_comes : (o : Option Sample) (i : ℕ) (later : List DatagramStep) (s mid t : Wire) → slice_get samples i ≡ o
      → MatchOption o (mid ≡ s) (λ sample. (entry : SentSample) × SendsIt sample s.sending s.datagrams entry mid.sending mid.datagrams
      × (mid ≡ record s { sending = mid.sending; datagrams = mid.datagrams; sends = s.sends ++ entry ∷ [] }))
      → ComesTo again samples later mid t → ComesTo again samples (steps.Send i ∷ later) s t
  send_comes None i later s mid t is same comes =
      let c : ComesTo again samples later s t = after_same later s mid t same comes in
      record {
        later = c.later;
        sends = c.sends;
        answers = c.answers;
        pops = c.pops;
        grows = c.grows;
        takes = subst (λ (o : Option Sample). Takes again (Received (sent_after (length s.datagrams) o c.later) later (sends_after o c.later)) t.datagrams s.session c.answers t.session) (sym is) c.takes;
      }
  send_comes (Some sample) i later s mid t is done comes =
      let entry : SentSample = done.0 in
      let all : mid.datagrams ≡ s.datagrams ++ mid.sending.datagrams = done.1.gained in
      let count : length mid.datagrams ≡ length s.datagrams + entry.count = omega (arith, ap length all, length-append s.datagrams mid.sending.datagrams, done.1.count) in
      let session : mid.session ≡ s.session = ap (λ (x : Wire). x.session) done.2 in
      record {
        later = entry ∷ comes.later;
        sends = comes.sends ∙ (ap (λ (x : Wire). x.sends ++ comes.later) done.2 ∙ append_assoc s.sends (entry ∷ []) comes.later);
        answers = comes.answers;
        pops = comes.pops ∙ ap (λ (x : Wire). x.pops ++ comes.answers) done.2;
        grows = λ k bytes there. comes.grows k bytes (subst (λ (ds : List (List ℕ)). slice_get ds k ≡ Some bytes) (sym all) (get_append s.datagrams mid.sending.datagrams k bytes there));
        takes = subst (λ (o : Option Sample). Takes again (Received (sent_after (length s.datagrams) o (entry ∷ comes.later)) later (sends_after o (entry ∷ comes.later)))
            t.datagrams s.session comes.answers t.session) (sym is)
            (subst (λ (n : ℕ). Takes again (Received n later comes.later) t.datagrams s.session comes.answers t.session) count
            (subst (λ (x : Session). Takes again (Received (length mid.datagrams) later comes.later) t.datagrams x comes.answers t.session) session comes.takes));
      }

  deliver_comes : (o : Option (List ℕ)) (k : ℕ) (now : Ticks) (later : List DatagramStep) (s mid t : Wire) → slice_get s.datagrams k ≡ o
      → DeliversCopy again o now s mid → ComesTo again samples later mid t → ComesTo again samples (steps.Deliver k now ∷ later) s t
  deliver_comes None k now later s mid t is same comes =
      let c : ComesTo again samples later s t = after_same later s mid t same comes in
      let past : ltb k (length s.datagrams) ≡ false = le-ltb k (length s.datagrams) (past_end s.datagrams k is) in
      record {
        later = c.later;
        sends = c.sends;
        answers = c.answers;
        pops = c.pops;
        grows = c.grows;
        takes = rw past c.takes;
      }
  deliver_comes (Some datagram) k now later s mid t is done comes =
      let within : ltb k (length s.datagrams) ≡ true = lt-ltb k (length s.datagrams) (slice_get_within s.datagrams k datagram is) in
      let session : mid.session ≡ done.3 = ap (λ (x : Wire). x.session) done.5 in
      let same : mid.datagrams ≡ s.datagrams = ap (λ (x : Wire). x.datagrams) done.5 in
      let grows : (j : ℕ) (b : List ℕ) → slice_get s.datagrams j ≡ Some b → slice_get t.datagrams j ≡ Some b =
      λ j b there. comes.grows j b (subst (λ (ds : List (List ℕ)). slice_get ds j ≡ Some b) (sym same) there) in
      let rest : Takes again (Received (length s.datagrams) later comes.later) t.datagrams done.3 comes.answers t.session =
      subst (λ (ds : List (List ℕ)). Takes again (Received (length ds) later comes.later) t.datagrams done.3 comes.answers t.session) same
      (subst (λ (x : Session). Takes again (Received (length mid.datagrams) later comes.later) t.datagrams x comes.answers t.session) session comes.takes) in
      record {
        later = comes.later;
        sends = comes.sends ∙ ap (λ (x : Wire). x.sends ++ comes.later) done.5;
        answers = comes.answers;
        pops = comes.pops ∙ ap (λ (x : Wire). x.pops ++ comes.answers) done.5;
        grows = grows;
        takes = rw within (datagram, grows k datagram is, done.0, done.1, done.2, done.3, done.4, rest);
      }

  pub comes_to : (all_steps : List DatagramStep) (s t : Wire) → Proceeds again samples all_steps s t → ComesTo again samples all_steps s t
  comes_to [] s t run = record {
    later = [];
    sends = ap (λ (x : Wire). x.sends) run ∙ sym (append-nil s.sends);
    answers = [];
    pops = ap (λ (x : Wire). x.pops) run ∙ sym (append-nil s.pops);
    grows = λ k bytes there. subst (λ (x : Wire). slice_get x.datagrams k ≡ Some bytes) (sym run) there;
    takes = (refl, ap (λ (x : Wire). x.session) run);
  }
  comes_to (steps.Send i ∷ later) s t run = send_comes (slice_get samples i) i later s run.0 t refl run.1 (comes_to later run.0 t run.2)
  comes_to (steps.Deliver k now ∷ later) s t run = deliver_comes (slice_get s.datagrams k) k now later s run.0 t refl run.1 (comes_to later run.0 t run.2)
  comes_to (steps.Pop now ∷ later) s t run =
      let comes = comes_to later run.0 t run.2 in
      let does : run.0 ≡ record s { session = run.1.1; pops = s.pops ++ run.1.0 ∷ [] } = run.1.4 in
      let session : run.0.session ≡ run.1.1 = ap (λ (x : Wire). x.session) does in
      let same : run.0.datagrams ≡ s.datagrams = ap (λ (x : Wire). x.datagrams) does in
      record {
        later = comes.later;
        sends = comes.sends ∙ ap (λ (x : Wire). x.sends ++ comes.later) does;
        answers = run.1.0 ∷ comes.answers;
        pops = comes.pops ∙ (ap (λ (x : Wire). x.pops ++ comes.answers) does ∙ append_assoc s.pops (run.1.0 ∷ []) comes.answers);
        grows = λ j b there. comes.grows j b (subst (λ (ds : List (List ℕ)). slice_get ds j ≡ Some b) (sym same) there);
        takes = (
          run.1.0,
          comes.answers,
          run.1.1,
          refl,
          run.1.2,
          run.1.3,
          subst (λ (ds : List (List ℕ)). Takes again (Received (length ds) later comes.later) t.datagrams run.1.1 comes.answers t.session) same
              (subst (λ (x : Session). Takes again (Received (length run.0.datagrams) later comes.later) t.datagrams x comes.answers t.session) session comes.takes),
        );
      }
  comes_to (steps.Finish ∷ later) s t run =
      let comes = comes_to later run.0 t run.2 in
      let session : run.0.session ≡ run.1.0 = ap (λ (x : Wire). x.session) run.1.2 in
      let same : run.0.datagrams ≡ s.datagrams = ap (λ (x : Wire). x.datagrams) run.1.2 in
      record {
        later = comes.later;
        sends = comes.sends ∙ ap (λ (x : Wire). x.sends ++ comes.later) run.1.2;
        answers = comes.answers;
        pops = comes.pops ∙ ap (λ (x : Wire). x.pops ++ comes.answers) run.1.2;
        grows = λ j b there. comes.grows j b (subst (λ (ds : List (List ℕ)). slice_get ds j ≡ Some b) (sym same) there);
        takes = (
          run.1.0,
          run.1.1,
          subst (λ (ds : List (List ℕ)). Takes again (Received (length ds) later comes.later) t.datagrams run.1.0 comes.answers t.session) same
              (subst (λ (x : Session). Takes again (Received (length run.0.datagrams) later comes.later) t.datagrams x comes.answers t.session) session comes.takes),
        );
      }
