-- The log of a stream's receiver in RED, and a log as a chain of turns.
use Rattle.std.proofs.Common.{◌≡◌, ◌∙◌, refl, sym, ap, subst, ℕ, ◌+◌, ◌*◌, ◌%◌, ◌^◌, ◌≤◌, ◌⊎◌, inl, inr, max, List, [], ◌∷◌, Bool, true, false, not, Option, Some, None, Result, map, arith}
use Rattle.std.specs.Prelude.{slice_get}
use Rattle.std.specs.declared.alloc.AllocError.{AllocError}
use Rattle.codec_payload_base.specs.declared.wire.Ticks.{Ticks}
use Rattle.codec_payload_buffer.specs.Held.{Held, has_number}
use Rattle.codec_payload_buffer.specs.Steps.{State, is_dropped}
use Rattle.codec_payload_buffer.specs.Stretches.{after_pushes}
use Rattle.codec_payload_buffer.specs.declared.buffer.frames.CompleteFrame.{CompleteFrame}
use Rattle.codec_payload_codec.specs.Depacketizers.{DepacketizerKind, DepacketizerState, kind_of_depacketizer}
use Rattle.codec_payload_numbers.specs.Numbers.{Numbering, answer_for, greater, numbering_after, numbering_with}
use Rattle.codec_payload_jitter.specs.Receiving.{Receiving, settled, waiting_at}
use Rattle.codec_payload_numbers.specs.declared.numbers.Extended.{Extended}
use Rattle.codec_payload_numbers.specs.declared.numbers.Extended.TheVariants as extended
use Rattle.codec_payload_buffer_runs.proofs.order.HoldBackLemmas.{beyond_with}
use Rattle.codec_payload_buffer_runs.proofs.order.TurnLemmas.{ArePushes, IsReady, IsSpan, Setting, span_ready}
use Rattle.codec_payload_buffer_runs.proofs.units.UnitRows.{held_as}
use Rattle.codec_payload_buffer_runs.specs.Arrivals.{PopsWaiting}
use Rattle.codec_payload_buffer_runs.specs.Log.{Stretch, Turn, begun, with_pushes}
use Rattle.codec_payload_buffer_runs.specs.Schedule.{Answer}
use Rattle.codec_payload_buffer_runs.specs.SentStream.{packets_of}
use Rattle.codec_payload_payloader.specs.Packets.{Packet}
use Rattle.codec_payload_numbers.specs.SeenTimes.{none_seen}
use Rattle.codec_payload_receiver.specs.Sessions.{Session as Receiver, ended}
use Rattle.codec_payload_datagram_runs.proofs.EventLemmas.{turn_at}
use Rattle.codec_payload_datagram_runs.proofs.LogLemmas.{Chained, IsTurn, pushes_more, turn_of, turn_ready}
use Rattle.codec_payload_datagram_runs.proofs.ReceivingLemmas.{settled_none, waits_for_nothing}
use Rattle.codec_payload_datagram_runs.proofs.RedPushLemmas.{AreBrought, IsHighest, after_both, pushed_whole}
use Rattle.codec_payload_datagram_runs.proofs.RedReceivingLemmas.{RedSide, Tuned}
use Rattle.codec_payload_datagram_runs.proofs.RedSeenLemmas.{IsOlder, IsRing, grow_older, most, none_ring, pop_drops, ring_kept}
use Rattle.codec_payload_datagram_runs.specs.RedLogs.{IsBroughtBy}
use Rattle.codec_payload_datagram_runs.specs.Releases.{ComeWithin, StayWithin}
use Rattle.codec_payload_datagram_runs.specs.WireLogs.{AnswersTurn}
use Rattle.codec_payload_datagram_runs.specs.declared.run.DatagramStep.{DatagramStep}
use Rattle.codec_payload_datagram_runs.specs.declared.run.DatagramStep.TheVariants as steps
use Rattle.codec_payload_jitter.specs.declared.outcome.Outcome.{Outcome}
use Rattle.codec_payload_metadata.specs.Release.{Release}
use Rattle.codec_payload_numbers.specs.Reports.{reported}
use Rattle.codec_payload_receiver.specs.Pops.{answer_of}
use Rattle.codec_payload_receiver.specs.declared.pops.Popped.{Popped}
use Rattle.codec_payload_receiver.specs.declared.receiver.ReceiveError.{ReceiveError}
use Rattle.codec_payload_session_stream.specs.Streams.{is_no_memory}
use Rattle.codec_payload_session_runs.specs.Lives.{ReceiverCall, finishes, follows, pairs, pops, receives, reports, waits, with_shown, notes}
use Rattle.codec_payload_session_units.specs.OneSender.{answers_by, effective, steps_by, AreUndescribed}
use Rattle.codec_payload_session_units.specs.RedStreamLogs.{IsLogInRed}
use Rattle.codec_payload_stream_edges.specs.Brought.{edge_by}
use Rattle.codec_payload_stream_edges.specs.declared.rules.EdgeRules.{EdgeRules}
use Rattle.codec_payload_session_units.proofs.RedCalls.{IsGoingInRed, Taken, going_ended, going_follows, going_lost, going_pairs, going_popped, going_received, going_reports, going_waits, going_notes}

-- A log as a chain

module _ (c : Setting) (Pushes : ℕ → ℕ → Ticks → DepacketizerState → List Held → Type 0)
    (are : (highest carrier : ℕ) (now : Ticks) (d : DepacketizerState) (ps : List Held) → kind_of_depacketizer d ≡ c.kind → Pushes highest carrier now d ps → ArePushes c ps) where
  pub chained_in_red : (at_end : Bool) (highest : ℕ) (later : List DatagramStep) (from : ℕ) (w : Stretch) (turns : List Turn) (end : Stretch) → IsReady c from w.left → IsSpan c w
      → IsLogInRed Pushes at_end highest later w turns end → Chained c w.left turns end
  chained_in_red at_end highest [] from w [] end ready is log = (ap (λ (x : Stretch). x.left) log, subst (IsSpan c) (sym log) is)
  chained_in_red at_end highest [] from w (turn ∷ turns) end ready is log = absurd log
  chained_in_red at_end highest (steps.Send i ∷ later) from w turns end ready is log = chained_in_red at_end highest later from w turns end ready is log
  chained_in_red at_end highest (steps.Deliver k now ∷ later) from w turns end ready is log =
      let ps : List Held = log.0 in
      let reads = (span_ready c from w ready is).beyond.reads in
      let more : ArePushes c ps = are (max highest k) k now w.now.depacketizer ps reads log.1 in
      chained_in_red at_end (max highest k) later from (with_pushes w ps) turns end ready
      (record { sent = pushes_more c w.pushes ps is.sent more; now = ap (λ (s : State). after_pushes s ps) is.now ∙ sym (after_both w.left w.pushes ps) }) log.2
  chained_in_red at_end highest (steps.Pop now ∷ later) from w [] end ready is log = absurd log
  chained_in_red at_end highest (steps.Pop now ∷ later) from w (turn ∷ turns) end ready is log =
      let at = span_ready c from w ready is in
      let answers : AnswersTurn log.1.0 w.now turn.passed turn.answer turn.after = subst (λ (x : Stretch). AnswersTurn log.1.0 x.now turn.passed turn.answer turn.after) log.0 log.1.2 in
      let made = turn_of c from log.1.0 w.now turn.after turn.passed turn.answer at answers in
      let next = turn_ready c from w.now turn.after turn.passed turn.answer at made in (
        ap (λ (x : Stretch). x.left) log.0,
        subst (IsSpan c) (sym log.0) is,
        subst (λ (x : Stretch). IsTurn c x.now turn.after turn.passed turn.answer) (sym log.0) made,
        chained_in_red at_end highest later next.0 (begun turn.after) turns end next.1 (record { sent = tt; now = refl }) log.2,
      )
  chained_in_red at_end highest (steps.Finish ∷ later) from w turns end ready is log = chained_in_red true highest later from w turns end ready is log

-- what was pushed before a pop stays so
turn_drops : (c : Setting) (from : ℕ) (s t : State) (passed : List CompleteFrame) (a : Answer) (n : ℕ) → IsReady c from s → IsTurn c s t passed a → is_dropped s n ≡ true → is_dropped t n ≡ true
turn_drops c from s t passed a n ready (inl is) dropped = subst (λ (x : State). is_dropped x n ≡ true) (sym is.2) dropped
turn_drops c from s t passed a n ready (inr is) dropped = pop_drops c from (record s { hold_back = is.0 }) t passed a n (beyond_with c from is.0 s ready.beyond) is.1 dropped

-- The log of a receiver

module _ (l : RedSide) (alone : l.again ≡ None) (unpaired : l.kinds.retransmission ≡ None) (rules : EdgeRules)
    (silent : (marker : Bool) (bytes : List ℕ) → edge_by rules.codec marker bytes ≡ None) (plain : AreUndescribed rules.descriptor l.written) (jump : ℕ) (turn : most l jump * l.red.receiver.step ≤ 2 ^ 32)
    (Pushes : ℕ → ℕ → Ticks → DepacketizerState → List Held → Type 0)
    (gives : (highest carrier : ℕ) (now : Ticks) (d : DepacketizerState) (ps : List Held) → AreBrought l jump turn highest carrier now d ps
    → ((j : ℕ) (q : Packet) → slice_get (packets_of l.c.units) j ≡ Some q → IsBroughtBy l.writer l.datagrams l.backward highest carrier j → has_number q.number ps ≡ true)
    → Pushes highest carrier now d ps) where
  abbrev first : ℕ
  first = l.c.first

  -- a log of these steps, from this stretch on, with these answers and this buffer in the end
  pub record HasLogInRed (at_end : Bool) (highest : ℕ) (later : List DatagramStep) (w : Stretch) (answers : List Answer) (t : State) : Type 0 where
    pub turns : List Turn
    pub end : Stretch
    pub is_log : IsLogInRed Pushes at_end highest later w turns end
    pub answers_are : map (λ (one : Turn). one.answer) turns ≡ answers
    pub left : end.now ≡ t

  -- the highest index of a delivered datagram, and what is remembered; before the first delivery nothing is
  abbrev pub IsPlaced : ℕ → Receiver → List ℕ → Type 0
  IsPlaced highest s ks =
      ((s.packets.numbering.greatest ≡ None) × (highest ≡ 0) × (s.seen ≡ none_seen) × ComeWithin jump l.backward ks)
      ⊎ ((s.packets.numbering.greatest ≡ Some (l.c.first + highest)) × IsRing l jump highest s.packets.buffer s.seen × StayWithin jump l.backward highest ks)

  -- the same with the next datagram
  record IsMoved (highest k : ℕ) (s : Receiver) (ks : List ℕ) : Type 0 where
    at : IsHighest l jump turn (max highest k) k (numbering_after s.packets.numbering ((first + k) % 2 ^ 16))
    older : IsOlder l jump (max highest k) s.packets.buffer s.seen
    later : StayWithin jump l.backward (max highest k) ks

  moved : (highest k : ℕ) (s : Receiver) (ks : List ℕ) → IsPlaced highest s (k ∷ ks) → answer_for s.packets.numbering ((first + k) % 2 ^ 16) ≡ extended.Number (first + k) → IsMoved highest k s ks
  moved highest k s ks placed is = by_case placed
    where
      greatest_is : (numbering_after s.packets.numbering ((first + k) % 2 ^ 16)).greatest ≡ Some (greater s.packets.numbering.greatest (first + k))
      greatest_is = ap (λ (e : Extended). (numbering_with s.packets.numbering e ((first + k) % 2 ^ 16)).greatest) is

      by_case : IsPlaced highest s (k ∷ ks) → IsMoved highest k s ks
      by_case (inl new) =
          let same : max highest k ≡ k = omega (arith, new.1) in
          record {
            at = record {
              is = greatest_is ∙ (ap (λ (o : Option ℕ). Some (greater o (first + k))) new.0 ∙ ap (λ (m : ℕ). Some (first + m)) (sym same));
              over = omega arith;
              near = omega (arith, same);
            };
            older = subst (IsOlder l jump (max highest k) s.packets.buffer) (sym new.2) (none_ring l jump (max highest k) s.packets.buffer);
            later = subst (λ (m : ℕ). StayWithin jump l.backward m ks) (sym same) new.3.1;
          }
      by_case (inr more) =
          let up : max (first + highest) (first + k) ≡ first + max highest k = omega arith in
          let jumps = more.2.0 in
          let back = more.2.1 in
          record {
            at = record {
              is = greatest_is ∙ (ap (λ (o : Option ℕ). Some (greater o (first + k))) more.0 ∙ ap (λ (m : ℕ). Some m) up);
              over = omega arith;
              near = omega (arith, back);
            };
            older = grow_older l jump highest (max highest k) s.packets.buffer s.seen (omega arith) (omega (arith, jumps)) more.1;
            later = more.2.2;
          }

  -- a call that changes neither numbers nor times that were seen
  placed_kept : (highest : ℕ) (s t : Receiver) (ks : List ℕ) → t.packets.numbering ≡ s.packets.numbering → t.seen ≡ s.seen
      → ((n : ℕ) → is_dropped s.packets.buffer n ≡ true → is_dropped t.packets.buffer n ≡ true) → IsPlaced highest s ks → IsPlaced highest t ks
  placed_kept highest s t ks numbering seen still (inl new) = inl (ap (λ (n : Numbering). n.greatest) numbering ∙ new.0, new.1, seen ∙ new.2, new.3)
  placed_kept highest s t ks numbering seen still (inr more) = inr (
    ap (λ (n : Numbering). n.greatest) numbering ∙ more.0,
    subst (IsRing l jump highest t.packets.buffer) (sym seen) (ring_kept l jump highest s.packets.buffer t.packets.buffer s.seen still more.1),
    more.2,
  )

  brought_pushes : (highest carrier : ℕ) (now : Ticks) (d : DepacketizerState) (ps : List Held) → kind_of_depacketizer d ≡ l.c.kind → AreBrought l jump turn highest carrier now d ps → ArePushes l.c ps
  brought_pushes highest carrier now d [] reads brought = tt
  brought_pushes highest carrier now d (p ∷ ps) reads brought =
      let one = brought.0 in (
        (
          one.index,
          one.packet,
          one.there,
          l.told one.index one.packet p.meta one.known.0,
          one.held ∙ ap (λ (x : DepacketizerKind). held_as x p.meta one.packet.payload) reads,
        ),
        brought_pushes highest carrier now d ps reads brought.1,
      )

  -- the calls, from this receiver on
  pub record IsLogging (later : List ReceiverCall) (ks : List ℕ) (highest from : ℕ) (s t : Receiver) : Type 0 where
    pub going : IsGoingInRed l alone unpaired rules silent plain later ks s t
    pub placed : IsPlaced highest s ks
    pub none : s.packets.no_media_numbers ≡ []
    pub ready : IsReady l.c from s.packets.buffer

  abbrev pub Logs : List DatagramStep → List Answer → ℕ → Receiver → Receiver → Type 0
  Logs later answers highest s t = (w : Stretch) → w.now ≡ s.packets.buffer → HasLogInRed s.packets.ended highest later w answers t.packets.buffer

  abbrev Next : List ReceiverCall → Receiver → Type 0
  Next later t = (ks : List ℕ) (highest from : ℕ) (s : Receiver) → IsLogging later ks highest from s t → Logs (steps_by (effective later) ks) (answers_by later) highest s t

  log_taken : (now : Ticks) (bytes : List ℕ) (answer : Result Outcome ReceiveError) (later : List ReceiverCall) (ks : List ℕ) (highest from : ℕ) (s t : Receiver) → Next later t
      → Tuned l s → s.packets.no_media_numbers ≡ [] → IsReady l.c from s.packets.buffer → IsPlaced highest s ks → Taken l alone unpaired rules silent plain now bytes answer later ks s t
      → Logs (steps_by (receives now bytes answer ∷ effective later) ks) (answers_by later) highest s t
  log_taken now bytes answer later [] highest from s t go tuned none ready placed taken w is = absurd taken
  log_taken now bytes answer later (k ∷ ks) highest from s t go tuned none ready placed taken w is =
      let mid : Receiver = taken.mid in
      let one = taken.one in
      let next = moved highest k s ks placed taken.number in
      let higher : ℕ = max highest k in
      let push = pushed_whole l jump turn higher k from now taken.datagram bytes s mid answer tuned taken.there taken.sent taken.copy taken.number next.at next.older none ready.beyond ks taken.in_time taken.whole in
      let span : Stretch = record { left = s.packets.buffer; pushes = push.ps; now = mid.packets.buffer } in
      let sent = brought_pushes higher k now s.packets.buffer.depacketizer push.ps ready.beyond.reads push.each in
      let ready_after : IsReady l.c from mid.packets.buffer = span_ready l.c from span ready (record { sent = sent; now = push.buffer }) in
      let placed_after : IsPlaced higher mid ks = inr (ap (λ (n : Numbering). n.greatest) one.numbering ∙ next.at.is, push.ring, next.later) in
      let pushed : after_pushes w.now push.ps ≡ mid.packets.buffer = ap (λ (b : State). after_pushes b push.ps) is ∙ sym push.buffer in
      let rest = go ks higher from mid (record { going = taken.rest; placed = placed_after; none = push.no_media; ready = ready_after }) (with_pushes w push.ps) pushed in
      let l_rest = subst (λ (b : Bool). HasLogInRed b higher (steps_by (effective later) ks) (with_pushes w push.ps) (answers_by later) t.packets.buffer) one.fed.ended rest in
      record {
        turns = l_rest.turns;
        end = l_rest.end;
        is_log = (
          push.ps,
          subst (λ (b : State). Pushes higher k now b.depacketizer push.ps) (sym is) (gives higher k now s.packets.buffer.depacketizer push.ps push.each push.all),
          l_rest.is_log,
        );
        answers_are = l_rest.answers_are;
        left = l_rest.left;
      }

  log_received : (lost : Bool) (now : Ticks) (bytes : List ℕ) (answer : Result Outcome ReceiveError) (later : List ReceiverCall) (ks : List ℕ) (highest from : ℕ) (s t : Receiver) → Next later t
      → is_no_memory answer ≡ lost → IsLogging (receives now bytes answer ∷ later) ks highest from s t
      → Logs (steps_by (with_shown (not lost) (receives now bytes answer) (effective later)) ks) (answers_by later) highest s t
  log_received false now bytes answer later ks highest from s t go is g =
      log_taken now bytes answer later ks highest from s t go g.going.tuned g.none g.ready g.placed (going_received l alone unpaired rules silent plain now bytes answer later ks s t is g.going)
  log_received true now bytes answer later ks highest from s t go is g =
      go ks highest from s (record { going = going_lost l alone unpaired rules silent plain now bytes answer later ks s t is g.going; placed = g.placed; none = g.none; ready = g.ready })

  log_asked : (now : Ticks) (answer : Option (Result (Popped Release) AllocError)) (later : List ReceiverCall) (ks : List ℕ) (highest from : ℕ) (s t : Receiver) → Next later t
      → IsLogging (pops now answer ∷ later) ks highest from s t → Logs (steps.Pop now ∷ steps_by (effective later) ks) (answer_of answer ∷ answers_by later) highest s t
  log_asked now answer later ks highest from s t go g w is =
      let asked = going_popped l alone unpaired rules silent plain now answer later ks s t g.going in
      let a : Answer = answer_of answer in
      let mid : Receiver = asked.mid in
      let one = asked.one in
      let settled_is : settled s.packets ≡ s.packets = settled_none s.packets g.none in
      let up : one.up ≡ w.now = one.up_is ∙ (ap (λ (x : Receiving). x.buffer) settled_is ∙ sym is) in
      let waits_as : one.wait ≡ waiting_at s.packets now.0 = one.wait_is ∙ ap (λ (x : Receiving). waiting_at x now.0) settled_is in
      let pops : PopsWaiting one.wait w.now a mid.packets.buffer = subst (λ (b : State). PopsWaiting one.wait b a mid.packets.buffer) up one.pops in
      let made = turn_at one.wait w.now mid.packets.buffer a pops in
      let ready_now : IsReady l.c from w.now = subst (IsReady l.c from) (sym is) g.ready in
      let is_turn = turn_of l.c from one.wait w.now mid.packets.buffer made.0 a ready_now made.1 in
      let next = turn_ready l.c from w.now mid.packets.buffer made.0 a ready_now is_turn in
      let placed_after = placed_kept highest s mid ks one.numbering one.seen
      (λ n dropped. turn_drops l.c from w.now mid.packets.buffer made.0 a n ready_now is_turn (subst (λ (b : State). is_dropped b n ≡ true) (sym is) dropped)) g.placed in
      let rest = go ks highest next.0 mid (record {
        going = asked.rest;
        placed = placed_after;
        none = one.no_media ∙ (ap (λ (x : Receiving). x.no_media_numbers) settled_is ∙ g.none);
        ready = next.1;
      }) (begun mid.packets.buffer) refl in
      let l_rest = subst (λ (b : Bool). HasLogInRed b highest (steps_by (effective later) ks) (begun mid.packets.buffer) (answers_by later) t.packets.buffer) one.ended rest in
      record {
        turns = record { stretch = w; passed = made.0; answer = a; after = mid.packets.buffer } ∷ l_rest.turns;
        end = l_rest.end;
        is_log = (refl, (one.wait, λ at_end. waits_as ∙ waits_for_nothing s.packets now.0 at_end, made.1), l_rest.is_log);
        answers_are = ap (λ (as' : List Answer). a ∷ as') l_rest.answers_are;
        left = l_rest.left;
      }

  pub log_calls : (later : List ReceiverCall) (ks : List ℕ) (highest from : ℕ) (s t : Receiver) → IsLogging later ks highest from s t → Logs (steps_by (effective later) ks) (answers_by later) highest s t
  log_calls [] ks highest from s t g = λ w is.
      record { turns = []; end = w; is_log = refl; answers_are = refl; left = is ∙ sym (ap (λ (x : Receiver). x.packets.buffer) g.going.run) }
  log_calls (receives now bytes answer ∷ later) ks highest from s t g =
      log_received (is_no_memory answer) now bytes answer later ks highest from s t (λ more top low x. log_calls later more top low x t) refl g
  log_calls (pops now answer ∷ later) ks highest from s t g = log_asked now answer later ks highest from s t (λ more top low x. log_calls later more top low x t) g
  log_calls (finishes ∷ later) ks highest from s t g = λ w is.
      let rest = log_calls later ks highest from (ended s) t (record { going = going_ended l alone unpaired rules silent plain later ks s t g.going; placed = g.placed; none = g.none; ready = g.ready }) w is in
      record { turns = rest.turns; end = rest.end; is_log = rest.is_log; answers_are = rest.answers_are; left = rest.left }
  log_calls (waits limits ∷ later) ks highest from s t g =
      log_calls later ks highest from (record s { packets = record s.packets { wait_limits = limits } }) t
      (record { going = going_waits l alone unpaired rules silent plain limits later ks s t g.going; placed = g.placed; none = g.none; ready = g.ready })
  log_calls (follows wait ∷ later) ks highest from s t g =
      log_calls later ks highest from (record s { packets = record s.packets { wait_limits = record s.packets.wait_limits { max_wait = Some wait } } }) t
      (record { going = going_follows l alone unpaired rules silent plain wait later ks s t g.going; placed = g.placed; none = g.none; ready = g.ready })
  log_calls (reports ∷ later) ks highest from s t g =
      log_calls later ks highest from (record s { reception = reported s.reception }) t (record { going = going_reports l alone unpaired rules silent plain later ks s t g.going; placed = g.placed; none = g.none; ready = g.ready })
  log_calls (notes e ∷ later) ks highest from s t g =
      log_calls later ks highest from s t (record { going = going_notes l alone unpaired rules silent plain e later ks s t g.going; placed = g.placed; none = g.none; ready = g.ready })
  log_calls (pairs r ∷ later) ks highest from s t g =
      log_calls later ks highest from (record s { stream = record s.stream { retransmission = r } }) t
      (record { going = going_pairs l alone unpaired rules silent plain r later ks s t g.going; placed = g.placed; none = g.none; ready = g.ready })
