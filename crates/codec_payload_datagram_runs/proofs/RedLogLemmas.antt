-- The log of a run in RED, from the steps of its receiver; and a log as a chain of turns.
use Rattle.std.proofs.Common.{◌≡◌, ◌∙◌, refl, sym, ap, subst, ℕ, ◌+◌, ◌*◌, ◌%◌, ◌^◌, ◌≤◌, ◌⊎◌, inl, inr, max, List, [], ◌∷◌, Bool, true, Option, Some, None, map, arith}
use Rattle.std.specs.Prelude.{Contains, slice_get}
use Rattle.codec_payload_base.specs.declared.wire.Ticks.{Ticks}
use Rattle.codec_payload_buffer.proofs.MemberLemmas.{IsIn, contains_in}
use Rattle.codec_payload_buffer.specs.Held.{Held, has_number}
use Rattle.codec_payload_buffer.specs.Steps.{State, is_dropped}
use Rattle.codec_payload_buffer.specs.Stretches.{after_pushes}
use Rattle.codec_payload_buffer.specs.declared.buffer.frames.CompleteFrame.{CompleteFrame}
use Rattle.codec_payload_codec.specs.Depacketizers.{DepacketizerKind, DepacketizerState, kind_of_depacketizer}
use Rattle.codec_payload_numbers.specs.Numbers.{Numbering, answer_for, greater, numbering_after, numbering_with}
use Rattle.codec_payload_jitter.specs.Receiving.{Receiving, settled, waiting_at}
use Rattle.codec_payload_numbers.specs.declared.numbers.Extended.{Extended}
use Rattle.codec_payload_numbers.specs.declared.numbers.Extended.TheVariants as extended
use Rattle.codec_payload_buffer_runs.proofs.order.HoldBackLemmas.{beyond_with}
use Rattle.codec_payload_buffer_runs.proofs.order.TurnLemmas.{ArePushes, IsReady, IsSpan, Setting, span_ready}
use Rattle.codec_payload_buffer_runs.proofs.units.UnitRows.{held_as}
use Rattle.codec_payload_buffer_runs.specs.Arrivals.{PopsWaiting}
use Rattle.codec_payload_buffer_runs.specs.Log.{Stretch, Turn, begun, with_pushes}
use Rattle.codec_payload_buffer_runs.specs.Schedule.{Answer}
use Rattle.codec_payload_buffer_runs.specs.SentStream.{packets_of}
use Rattle.codec_payload_payloader.specs.Packets.{Packet}
use Rattle.codec_payload_numbers.specs.SeenTimes.{none_seen}
use Rattle.codec_payload_receiver.specs.Sessions.{Session, ended}
use Rattle.codec_payload_datagram_runs.proofs.RedHearingLemmas.{deliver_fed, finish_is, pop_once, tuned_ended}
use Rattle.codec_payload_datagram_runs.proofs.EventLemmas.{turn_at}
use Rattle.codec_payload_datagram_runs.proofs.LogLemmas.{Chained, IsTurn, pushes_more, turn_of, turn_ready}
use Rattle.codec_payload_datagram_runs.proofs.ReceivingLemmas.{AllNumbered, KeepsLimits, keeps_then, settled_none, wait_same}
use Rattle.codec_payload_datagram_runs.proofs.RedPushLemmas.{AreBrought, IsHighest, after_both, pushed_whole}
use Rattle.codec_payload_datagram_runs.proofs.RedReceivingLemmas.{RedSide, Timely, Tuned}
use Rattle.codec_payload_datagram_runs.proofs.RedSeenLemmas.{IsOlder, IsRing, grow_older, most, none_ring, pop_drops, ring_kept}
use Rattle.codec_payload_datagram_runs.proofs.RedStepLemmas.{RedTakes}
use Rattle.codec_payload_datagram_runs.specs.RedLogs.{IsBroughtBy, IsRedLogOf}
use Rattle.codec_payload_datagram_runs.specs.Releases.{ComeWithin, StayWithin, delivered}
use Rattle.codec_payload_datagram_runs.specs.WireLogs.{wait_of}
use Rattle.codec_payload_datagram_runs.specs.declared.run.DatagramStep.{DatagramStep}
use Rattle.codec_payload_datagram_runs.specs.declared.run.DatagramStep.TheVariants as steps

-- A log as a chain

module _ (c : Setting) (Pushes : ℕ → ℕ → Ticks → DepacketizerState → List Held → Type 0)
    (are : (highest carrier : ℕ) (now : Ticks) (d : DepacketizerState) (ps : List Held) → kind_of_depacketizer d ≡ c.kind → Pushes highest carrier now d ps → ArePushes c ps) where
  pub red_chained : (r : Receiving) (at_end : Bool) (highest : ℕ) (later : List DatagramStep) (from : ℕ) (w : Stretch) (turns : List Turn) (end : Stretch) → IsReady c from w.left → IsSpan c w
      → IsRedLogOf Pushes r at_end highest later w turns end → Chained c w.left turns end
  red_chained r at_end highest [] from w [] end ready is log = (ap (λ (x : Stretch). x.left) log, subst (IsSpan c) (sym log) is)
  red_chained r at_end highest [] from w (turn ∷ turns) end ready is log = absurd log
  red_chained r at_end highest (steps.Send i ∷ later) from w turns end ready is log = red_chained r at_end highest later from w turns end ready is log
  red_chained r at_end highest (steps.Deliver k now ∷ later) from w turns end ready is log =
      let ps : List Held = log.0 in
      let reads = (span_ready c from w ready is).beyond.reads in
      let more : ArePushes c ps = are (max highest k) k now w.now.depacketizer ps reads log.1 in
      red_chained r at_end (max highest k) later from (with_pushes w ps) turns end ready
      (record { sent = pushes_more c w.pushes ps is.sent more; now = ap (λ (s : State). after_pushes s ps) is.now ∙ sym (after_both w.left w.pushes ps) }) log.2
  red_chained r at_end highest (steps.Pop now ∷ later) from w [] end ready is log = absurd log
  red_chained r at_end highest (steps.Pop now ∷ later) from w (turn ∷ turns) end ready is log =
      let at = span_ready c from w ready is in
      let made = turn_of c from (wait_of r at_end w.now now.0) w.now turn.after turn.passed turn.answer at log.1 in
      let next = turn_ready c from w.now turn.after turn.passed turn.answer at made in (
        ap (λ (x : Stretch). x.left) log.0,
        subst (IsSpan c) (sym log.0) is,
        subst (λ (x : Stretch). IsTurn c x.now turn.after turn.passed turn.answer) (sym log.0) made,
        red_chained r at_end highest later next.0 (begun turn.after) turns end next.1 (record { sent = tt; now = refl }) log.2,
      )
  red_chained r at_end highest (steps.Finish ∷ later) from w turns end ready is log = red_chained r true highest later from w turns end ready is log

-- what was pushed before a pop stays so
turn_drops : (c : Setting) (from : ℕ) (s t : State) (passed : List CompleteFrame) (a : Answer) (n : ℕ) → IsReady c from s → IsTurn c s t passed a → is_dropped s n ≡ true → is_dropped t n ≡ true
turn_drops c from s t passed a n ready (inl is) dropped = subst (λ (x : State). is_dropped x n ≡ true) (sym is.2) dropped
turn_drops c from s t passed a n ready (inr is) dropped = pop_drops c from (record s { hold_back = is.0 }) t passed a n (beyond_with c from is.0 s ready.beyond) is.1 dropped

-- The log of a receiver

module _ (l : RedSide) (jump : ℕ) (turn : most l jump * l.red.receiver.step ≤ 2 ^ 32) (r : Receiving) (Pushes : ℕ → ℕ → Ticks → DepacketizerState → List Held → Type 0)
    (gives : (highest carrier : ℕ) (now : Ticks) (d : DepacketizerState) (ps : List Held) → AreBrought l jump turn highest carrier now d ps
    → ((j : ℕ) (q : Packet) → slice_get (packets_of l.c.units) j ≡ Some q → IsBroughtBy l.writer l.datagrams l.backward highest carrier j → has_number q.number ps ≡ true)
    → Pushes highest carrier now d ps) where
  abbrev packets : List Packet
  packets = packets_of l.c.units

  abbrev first : ℕ
  first = l.c.first

  -- a log of these steps, from this stretch on, with these answers and this buffer in the end
  pub record HasRedLog (at_end : Bool) (highest : ℕ) (later : List DatagramStep) (w : Stretch) (answers : List Answer) (t : State) : Type 0 where
    pub turns : List Turn
    pub end : Stretch
    pub is_log : IsRedLogOf Pushes r at_end highest later w turns end
    pub answers_are : map (λ (one : Turn). one.answer) turns ≡ answers
    pub left : end.now ≡ t

  -- the highest index of a delivered datagram, and what is remembered; before the first delivery nothing is
  abbrev pub IsPlaced : ℕ → Session → List ℕ → Type 0
  IsPlaced highest s ks =
      ((s.packets.numbering.greatest ≡ None) × (highest ≡ 0) × (s.seen ≡ none_seen) × ComeWithin jump l.backward ks)
      ⊎ ((s.packets.numbering.greatest ≡ Some (first + highest)) × IsRing l jump highest s.packets.buffer s.seen × StayWithin jump l.backward highest ks)

  -- the same with the next datagram
  record IsMoved (highest k : ℕ) (s : Session) (ks : List ℕ) : Type 0 where
    at : IsHighest l jump turn (max highest k) k (numbering_after s.packets.numbering ((first + k) % 2 ^ 16))
    older : IsOlder l jump (max highest k) s.packets.buffer s.seen
    later : StayWithin jump l.backward (max highest k) ks

  moved : (highest k : ℕ) (s : Session) (ks : List ℕ) → IsPlaced highest s (k ∷ ks) → answer_for s.packets.numbering ((first + k) % 2 ^ 16) ≡ extended.Number (first + k) → IsMoved highest k s ks
  moved highest k s ks placed is = by_case placed
    where
      n : Numbering
      n = s.packets.numbering

      low : ℕ
      low = (first + k) % 2 ^ 16

      greatest_is : (numbering_after s.packets.numbering ((first + k) % 2 ^ 16)).greatest ≡ Some (greater s.packets.numbering.greatest (first + k))
      greatest_is = ap (λ (e : Extended). (numbering_with s.packets.numbering e ((first + k) % 2 ^ 16)).greatest) is

      by_case : IsPlaced highest s (k ∷ ks) → IsMoved highest k s ks
      by_case (inl new) =
          let same : max highest k ≡ k = omega (arith, new.1) in
          record {
            at = record {
              is = greatest_is ∙ (ap (λ (o : Option ℕ). Some (greater o (first + k))) new.0 ∙ ap (λ (m : ℕ). Some (first + m)) (sym same));
              over = omega arith;
              near = omega (arith, same);
            };
            older = subst (IsOlder l jump (max highest k) s.packets.buffer) (sym new.2) (none_ring l jump (max highest k) s.packets.buffer);
            later = subst (λ (m : ℕ). StayWithin jump l.backward m ks) (sym same) new.3.1;
          }
      by_case (inr more) =
          let up : max (first + highest) (first + k) ≡ first + max highest k = omega arith in
          let jumps = more.2.0 in
          let back = more.2.1 in
          record {
            at = record {
              is = greatest_is ∙ (ap (λ (o : Option ℕ). Some (greater o (first + k))) more.0 ∙ ap (λ (m : ℕ). Some m) up);
              over = omega arith;
              near = omega (arith, back);
            };
            older = grow_older l jump highest (max highest k) s.packets.buffer s.seen (omega arith) (omega (arith, jumps)) more.1;
            later = more.2.2;
          }

  -- a pop moves nothing
  placed_popped : (highest : ℕ) (s t : Session) (ks : List ℕ) → t.packets.numbering ≡ s.packets.numbering → t.seen ≡ s.seen
      → ((n : ℕ) → is_dropped s.packets.buffer n ≡ true → is_dropped t.packets.buffer n ≡ true) → IsPlaced highest s ks → IsPlaced highest t ks
  placed_popped highest s t ks numbering seen still (inl new) = inl (ap (λ (n : Numbering). n.greatest) numbering ∙ new.0, new.1, seen ∙ new.2, new.3)
  placed_popped highest s t ks numbering seen still (inr more) = inr (
    ap (λ (n : Numbering). n.greatest) numbering ∙ more.0,
    subst (IsRing l jump highest t.packets.buffer) (sym seen) (ring_kept l jump highest s.packets.buffer t.packets.buffer s.seen still more.1),
    more.2,
  )

  brought_pushes : (highest carrier : ℕ) (now : Ticks) (d : DepacketizerState) (ps : List Held) → kind_of_depacketizer d ≡ l.c.kind → AreBrought l jump turn highest carrier now d ps → ArePushes l.c ps
  brought_pushes highest carrier now d [] reads brought = tt
  brought_pushes highest carrier now d (p ∷ ps) reads brought =
      let one = brought.0 in (
        (
          one.index,
          one.packet,
          one.there,
          l.told one.index one.packet p.meta one.known.0,
          one.held ∙ ap (λ (x : DepacketizerKind). held_as x p.meta one.packet.payload) reads,
        ),
        brought_pushes highest carrier now d ps reads brought.1,
      )

  pub red_log : (later : List DatagramStep) (highest from : ℕ) (s t : Session) (answers : List Answer) → Tuned l s → KeepsLimits r s.packets → AllNumbered first s.packets.numbering (delivered later)
      → IsPlaced highest s (delivered later) → Timely l s (delivered later) → s.packets.no_media_numbers ≡ [] → IsReady l.c from s.packets.buffer
      → ((step : DatagramStep) → IsIn step later → IsIn step l.received) → RedTakes l.again later l.written s answers t
      → (w : Stretch) → w.now ≡ s.packets.buffer → HasRedLog s.packets.ended highest later w answers t.packets.buffer
  red_log [] highest from s t answers tuned keeps numbers placed in_time none ready inside takes w is =
      record { turns = []; end = w; is_log = refl; answers_are = sym takes.0; left = is ∙ sym (ap (λ (x : Session). x.packets.buffer) takes.1) }
  red_log (steps.Send i ∷ later) highest from s t answers tuned keeps numbers placed in_time none ready inside takes w is =
      let rest = red_log later highest from s t answers tuned keeps numbers placed in_time none ready (λ step there. inside step (inr there)) takes w is in
      record { turns = rest.turns; end = rest.end; is_log = rest.is_log; answers_are = rest.answers_are; left = rest.left }
  red_log (steps.Deliver k now ∷ later) highest from s t answers tuned keeps numbers placed in_time none ready inside takes w is =
      let mid : Session = takes.5 in
      let there : Contains l.received (steps.Deliver k now) = contains_in (steps.Deliver k now) l.received (inside (steps.Deliver k now) (inl refl)) in
      let one = deliver_fed l k now takes.0 takes.2 s mid takes.4 tuned there takes.1 takes.3 numbers.0 (delivered later) in_time takes.6 in
      let next = moved highest k s (delivered later) placed numbers.0 in
      let higher : ℕ = max highest k in
      let push = pushed_whole l jump turn higher k from now takes.0 takes.2 s mid takes.4 tuned there takes.1 takes.3 numbers.0 next.at next.older none ready.beyond (delivered later) in_time takes.6 in
      let span : Stretch = record { left = s.packets.buffer; pushes = push.ps; now = mid.packets.buffer } in
      let sent = brought_pushes higher k now s.packets.buffer.depacketizer push.ps ready.beyond.reads push.each in
      let ready_after : IsReady l.c from mid.packets.buffer = span_ready l.c from span ready (record { sent = sent; now = push.buffer }) in
      let placed_after : IsPlaced higher mid (delivered later) = inr (ap (λ (n : Numbering). n.greatest) one.numbering ∙ next.at.is, push.ring, next.later) in
      let pushed : after_pushes w.now push.ps ≡ mid.packets.buffer = ap (λ (b : State). after_pushes b push.ps) is ∙ sym push.buffer in
      let rest = red_log later higher from mid t answers one.tuned (keeps_then r s.packets mid.packets keeps push.limits)
      (subst (λ (n : Numbering). AllNumbered first n (delivered later)) (sym one.numbering) numbers.1) placed_after (one.timely (delivered later) in_time) push.no_media ready_after
      (λ step at. inside step (inr at)) takes.7 (with_pushes w push.ps) pushed in
      let l_rest = subst (λ (b : Bool). HasRedLog b higher later (with_pushes w push.ps) answers t.packets.buffer) one.fed.ended rest in
      record {
        turns = l_rest.turns;
        end = l_rest.end;
        is_log = (
          push.ps,
          subst (λ (b : State). Pushes higher k now b.depacketizer push.ps) (sym is) (gives higher k now s.packets.buffer.depacketizer push.ps push.each push.all),
          l_rest.is_log,
        );
        answers_are = l_rest.answers_are;
        left = l_rest.left;
      }
  red_log (steps.Pop now ∷ later) highest from s t answers tuned keeps numbers placed in_time none ready inside takes w is =
      let mid : Session = takes.2 in
      let one = pop_once l now takes.0 s mid tuned takes.4 takes.5 in
      let settled_is : settled s.packets ≡ s.packets = settled_none s.packets none in
      let up : one.up ≡ w.now = one.up_is ∙ (ap (λ (x : Receiving). x.buffer) settled_is ∙ sym is) in
      let wait : one.wait ≡ wait_of r s.packets.ended w.now now.0 =
      one.wait_is ∙ (ap (λ (x : Receiving). waiting_at x now.0) settled_is ∙ (wait_same r s.packets now.0 keeps ∙ ap (λ (b : State). wait_of r s.packets.ended b now.0) (sym is))) in
      let pops : PopsWaiting (wait_of r s.packets.ended w.now now.0) w.now takes.0 mid.packets.buffer =
      subst (λ (o : Option ℕ). PopsWaiting o w.now takes.0 mid.packets.buffer) wait (subst (λ (b : State). PopsWaiting one.wait b takes.0 mid.packets.buffer) up one.pops) in
      let made = turn_at (wait_of r s.packets.ended w.now now.0) w.now mid.packets.buffer takes.0 pops in
      let ready_now : IsReady l.c from w.now = subst (IsReady l.c from) (sym is) ready in
      let is_turn = turn_of l.c from (wait_of r s.packets.ended w.now now.0) w.now mid.packets.buffer made.0 takes.0 ready_now made.1 in
      let next = turn_ready l.c from w.now mid.packets.buffer made.0 takes.0 ready_now is_turn in
      let placed_after = placed_popped highest s mid (delivered later) one.numbering one.seen
      (λ n dropped. turn_drops l.c from w.now mid.packets.buffer made.0 takes.0 n ready_now is_turn (subst (λ (b : State). is_dropped b n ≡ true) (sym is) dropped)) placed in
      let rest = red_log later highest next.0 mid t takes.1 one.tuned (keeps_then r s.packets mid.packets keeps one.limits)
      (subst (λ (n : Numbering). AllNumbered first n (delivered later)) (sym one.numbering) numbers) placed_after (one.timely (delivered later) in_time)
      (one.no_media ∙ (ap (λ (x : Receiving). x.no_media_numbers) settled_is ∙ none)) next.1 (λ step at. inside step (inr at)) takes.6 (begun mid.packets.buffer) refl in
      let l_rest = subst (λ (b : Bool). HasRedLog b highest later (begun mid.packets.buffer) takes.1 t.packets.buffer) one.ended rest in
      record {
        turns = record { stretch = w; passed = made.0; answer = takes.0; after = mid.packets.buffer } ∷ l_rest.turns;
        end = l_rest.end;
        is_log = (refl, made.1, l_rest.is_log);
        answers_are = ap (λ (as' : List Answer). takes.0 ∷ as') l_rest.answers_are ∙ sym takes.3;
        left = l_rest.left;
      }
  red_log (steps.Finish ∷ later) highest from s t answers tuned keeps numbers placed in_time none ready inside takes w is =
      let at_end : takes.0 ≡ ended s = finish_is l s takes.0 tuned takes.1 in
      let rest = red_log later highest from (ended s) t answers (tuned_ended l s tuned) (record { wait_limits = keeps.wait_limits; room = keeps.room }) numbers placed in_time none ready
      (λ step there. inside step (inr there)) (subst (λ (x : Session). RedTakes l.again later l.written x answers t) at_end takes.2) w is in
      record { turns = rest.turns; end = rest.end; is_log = rest.is_log; answers_are = rest.answers_are; left = rest.left }
