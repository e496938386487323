-- The calls of a stream's receiver in RED, as a course of its buffer. Wait limits may change between them.
use Rattle.std.proofs.Common.{◌≡◌, ◌∙◌, refl, sym, ap, subst, ℕ, ◌+◌, ◌%◌, ◌^◌, List, [], ◌∷◌, Bool, true, false, not, inl, inr, Option, Some, None, Result, ◌*◌, ◌&&◌, eqb, cond, Ok, Err}
use Rattle.std.specs.Prelude.{slice_get, Contains}
use Rattle.std.specs.declared.alloc.AllocError.{AllocError}
use Rattle.codec_payload_base.specs.declared.wire.Ticks.{Ticks}
use Rattle.codec_payload_buffer.proofs.MemberLemmas.{IsIn, contains_in}
use Rattle.codec_payload_buffer_runs.specs.Schedule.{Answer}
use Rattle.codec_payload_datagrams.specs.Kinds.{Kinds}
use Rattle.codec_payload_datagrams.specs.declared.kinds.Retransmission.{Retransmission}
use Rattle.codec_payload_datagram_runs.proofs.Courses.{IsCopy}
use Rattle.codec_payload_datagram_runs.proofs.ReceivingLemmas.{AllNumbered}
use Rattle.codec_payload_datagram_runs.proofs.RedCourses.{Course}
use Rattle.codec_payload_datagram_runs.proofs.RedHearingLemmas.{IsDelivered, IsPoppedOnce, deliver_fed, finish_is, pop_once, tuned_ended}
use Rattle.codec_payload_datagram_runs.proofs.RedReceivingLemmas.{RedSide, Timely, Tuned, time_of, timely_same}
use Rattle.codec_payload_datagram_runs.specs.RedRuns.{DeliversWhole}
use Rattle.codec_payload_datagram_runs.specs.declared.run.DatagramStep.{DatagramStep}
use Rattle.codec_payload_datagram_runs.specs.declared.run.DatagramStep.TheVariants as steps
use Rattle.codec_payload_buffer_runs.specs.SentStream.{packets_of}
use Rattle.codec_payload_jitter.specs.declared.outcome.Outcome.{Outcome}
use Rattle.codec_payload_metadata.specs.Release.{Release}
use Rattle.codec_payload_codec.specs.Depacketizers.{is_built_in_depacketizer}
use Rattle.codec_payload_buffer.specs.Steps.{State}
use Rattle.codec_payload_keyframes.specs.UnitGates.{Gating}
use Rattle.codec_payload_numbers.specs.NotedTimes.{AreTimesOf, Noted}
use Rattle.codec_payload_numbers.specs.Numbers.{Numbering, answer_for}
use Rattle.codec_payload_numbers.specs.declared.numbers.Extended.TheVariants as extended
use Rattle.codec_payload_jitter.specs.declared.waiting.WaitLimits.{WaitLimits}
use Rattle.codec_payload_numbers.specs.Reports.{reported}
use Rattle.codec_payload_receiver.specs.Pops.{answer_of}
use Rattle.codec_payload_receiver.specs.Sessions.{Session as Receiver, ended}
use Rattle.codec_payload_receiver.specs.declared.pops.Popped.{Popped}
use Rattle.codec_payload_receiver.specs.declared.receiver.ReceiveError.{ReceiveError}
use Rattle.codec_payload_sending_history.specs.declared.retransmission.RetransmissionStream.{RetransmissionStream}
use Rattle.codec_payload_session_stream.specs.Streams.{is_no_memory}
use Rattle.codec_payload_session_runs.specs.Lives.{ReceiverCall, RunsAlone, finishes, follows, pairs, pops, receives, reports, waits, with_shown, Answered, EdgesCall, EdgesRun, FollowEach, answered_unless, edges_after, notes, to_follow}
use Rattle.codec_payload_session_units.specs.OneRedSender.{FoundBlocks}
use Rattle.codec_payload_session_units.specs.OneSender.{AreCopies, FoundMemory, IsCopyOf, answers_by, effective, steps_by, AreUndescribed}
use Rattle.codec_payload_rtp.specs.ExtensionFormats.{bytes_for, elements_of}
use Rattle.codec_payload_rtp.specs.RtpPackets.{Extension, Header}
use Rattle.codec_payload_rtp.specs.RtpPackets as rtp
use Rattle.codec_payload_rtp.specs.RtpReading.{rtp_at}
use Rattle.codec_payload_rtp.specs.declared.rtp.RtpError.{RtpError}
use Rattle.codec_payload_session_requests.specs.Named.{FollowsEdges}
use Rattle.codec_payload_stream_edges.specs.Brought.{MediaPacket, brought, brought_again, brought_at, brought_read, edge_by, edge_of, edge_with, is_own_type, original_payload, own_payload, whole}
use Rattle.codec_payload_stream_edges.specs.declared.followed.Followed.{Followed}
use Rattle.codec_payload_stream_edges.specs.declared.rules.EdgeRules.{EdgeRules}
use Rattle.codec_payload_session_units.proofs.EdgeSteps.{plain_still}
use Rattle.codec_payload_session_units.proofs.CallEvents.{AllTyped}
use Rattle.codec_payload_session_units.proofs.CopyLemmas.{HasType, found_memory, lost_leaves}

-- without a type of retransmissions there is no pair
pub no_pair : (r : Option Retransmission) → HasType None r → r ≡ None
no_pair None typed = refl
no_pair (Some r) typed = absurd (cc)

-- a copy without retransmissions
pub copy_is : (datagram bytes : List ℕ) (answer : Result Outcome ReceiveError) → IsCopyOf None datagram bytes answer → IsCopy None datagram bytes
copy_is datagram bytes answer (inl same) = inl same
copy_is datagram bytes answer (inr repeated) = inl repeated.1

-- ---- what the edges find in a packet has its header extension

whole_extension : (h : Header) (number : ℕ) (o : Option (List ℕ)) (m : MediaPacket) → whole h number o ≡ Some m → m.extension ≡ h.extension
whole_extension h number None m is = absurd (cc)
whole_extension h number (Some bytes) m is = cc

again_extension : (k : EdgeRules) (h : Header) (payload : List ℕ) (m : MediaPacket) → brought_again k h payload ≡ Some m → m.extension ≡ h.extension
again_extension k h [] m is = absurd (cc)
again_extension k h (high ∷ []) m is = absurd (cc)
again_extension k h (high ∷ low ∷ bytes) m is = whole_extension h (high * 256 + low) (original_payload k h.payload_type bytes) m is

packet_extension : (k : EdgeRules) (ssrc : ℕ) (p : rtp.Packet) (m : MediaPacket) → brought k ssrc p ≡ Some m → m.extension ≡ p.header.extension
packet_extension k ssrc p m is = by (eqb p.header.ssrc ssrc && is_own_type k p.header.payload_type) is
  where
    by : (b : Bool) → cond b (whole p.header p.header.sequence_number (own_payload k p.header.payload_type p.payload)) (brought_again k p.header p.payload) ≡ Some m → m.extension ≡ p.header.extension
    by true got = whole_extension p.header p.header.sequence_number (own_payload k p.header.payload_type p.payload) m got
    by false got = again_extension k p.header p.payload m got

read_extension : (k : EdgeRules) (ssrc : ℕ) (o : Result rtp.Packet RtpError) (m : MediaPacket) → brought_read k ssrc o ≡ Some m → (p : rtp.Packet) × (o ≡ Ok p) × (m.extension ≡ p.header.extension)
read_extension k ssrc (Ok p) m is = (p, refl, packet_extension k ssrc p m is)
read_extension k ssrc (Err e) m is = absurd (cc)

same_bytes : (datagram bytes : List ℕ) (answer : Result Outcome ReceiveError) → IsCopyOf None datagram bytes answer → bytes ≡ datagram
same_bytes datagram bytes answer (inl same) = same
same_bytes datagram bytes answer (inr repeated) = repeated.1

module _ (l : RedSide) (alone : l.again ≡ None) (unpaired : l.kinds.retransmission ≡ None) (rules : EdgeRules) (silent : (marker : Bool) (bytes : List ℕ) → edge_by rules.codec marker bytes ≡ None)
    (plain : AreUndescribed rules.descriptor l.written) where
  -- the datagram in front, if the edges are to follow it, was written
  abbrev IsWritten : Option Answered → Type 0
  IsWritten None = Unit {0}
  IsWritten (Some answered) = (index : ℕ) × (slice_get l.written index ≡ Some answered.0)

  -- the edges of these calls
  pub record IsEdged (later : List ReceiverCall) : Type 0 where
    pub last : Option Answered
    pub each : FollowEach last later
    pub here : IsWritten last
    pub edges : Option Followed
    pub after : Option Followed
    pub edged : EdgesRun rules edges later after

  edged_next : (c : ReceiverCall) (later : List ReceiverCall) → IsEdged (c ∷ later) → IsWritten (to_follow c) → IsEdged later
  edged_next c later is here = record { last = to_follow c; each = is.each.1; here = here; edges = edges_after is.edges c; after = is.after; edged = is.edged.1 }

  -- a datagram that was written says nothing of its picture
  says_nothing : (bytes : List ℕ) (index ssrc : ℕ) (m : MediaPacket) → slice_get l.written index ≡ Some bytes → brought_at rules ssrc bytes ≡ Some m → edge_of rules m ≡ None
  says_nothing bytes index ssrc m there is =
      let read = read_extension rules ssrc (rtp_at bytes) m is in
      let none : bytes_for rules.descriptor (elements_of m.extension) ≡ None = ap (λ (x : Option Extension). bytes_for rules.descriptor (elements_of x)) read.2 ∙ plain index bytes read.0 there read.1 in
      ap (λ (o : Option (List ℕ)). edge_with o rules.codec m.marker m.bytes) none ∙ silent m.marker m.bytes

  -- the calls, from this receiver on
  pub record IsGoingInRed (later : List ReceiverCall) (ks : List ℕ) (s t : Receiver) : Type 0 where
    pub tuned : Tuned l s
    pub numbers : AllNumbered l.c.first s.packets.numbering ks
    pub in_time : Timely l s ks
    pub copies : AreCopies None l.written (effective later) ks
    pub blocks : FoundBlocks (effective later)
    pub memory : FoundMemory (answers_by later)
    pub typed : AllTyped None later
    pub inside : (k : ℕ) (at : Ticks) → IsIn (steps.Deliver k at) (steps_by (effective later) ks) → IsIn (steps.Deliver k at) l.received
    pub run : RunsAlone later s t
    pub edged : IsEdged later

  -- a datagram that the receiver takes, and the calls after it
  pub record IsTaken (now : Ticks) (bytes : List ℕ) (answer : Result Outcome ReceiveError) (later : List ReceiverCall) (k : ℕ) (ks : List ℕ) (s t : Receiver) : Type 0 where
    pub datagram : List ℕ
    pub sent : slice_get l.written k ≡ Some datagram
    pub copy : IsCopy l.again datagram bytes
    pub there : Contains l.received (steps.Deliver k now)
    pub number : answer_for s.packets.numbering ((l.c.first + k) % 2 ^ 16) ≡ extended.Number (l.c.first + k)
    pub in_time : Timely l s (k ∷ ks)
    pub mid : Receiver
    pub whole : DeliversWhole now bytes s answer mid
    pub one : IsDelivered l k now s mid
    pub rest : IsGoingInRed later ks mid t

  abbrev pub Taken : Ticks → List ℕ → Result Outcome ReceiveError → List ReceiverCall → List ℕ → Receiver → Receiver → Type 0
  Taken now bytes answer later [] s t = ⊥
  Taken now bytes answer later (k ∷ ks) s t = IsTaken now bytes answer later k ks s t

  abbrev Inside : List ReceiverCall → List ℕ → Type 0
  Inside calls ks = (k : ℕ) (at : Ticks) → IsIn (steps.Deliver k at) (steps_by calls ks) → IsIn (steps.Deliver k at) l.received

  taken_by : (now : Ticks) (bytes : List ℕ) (answer : Result Outcome ReceiveError) (later : List ReceiverCall) (ks : List ℕ) (s t : Receiver) → is_no_memory answer ≡ false
      → AreCopies None l.written (receives now bytes answer ∷ effective later) ks → FoundBlocks (receives now bytes answer ∷ effective later)
      → Inside (receives now bytes answer ∷ effective later) ks → IsGoingInRed (receives now bytes answer ∷ later) ks s t → Taken now bytes answer later ks s t
  taken_by now bytes answer later [] s t found copies blocks inside g = absurd copies
  taken_by now bytes answer later (k ∷ ks) s t found copies blocks inside g =
      let mid : Receiver = g.run.0 in
      let there : Contains l.received (steps.Deliver k now) = contains_in (steps.Deliver k now) l.received (inside k now (inl refl)) in
      let whole : DeliversWhole now bytes s answer mid = (blocks.0, (found_memory answer found, g.run.1)) in
      let copy : IsCopy l.again copies.0.0 bytes = subst (λ (o : Option RetransmissionStream). IsCopy o copies.0.0 bytes) (sym alone) (copy_is copies.0.0 bytes answer copies.0.2) in
      let one = deliver_fed l k now copies.0.0 bytes s mid answer g.tuned there copies.0.1 copy g.numbers.0 ks g.in_time whole in
      record {
        datagram = copies.0.0;
        sent = copies.0.1;
        copy = copy;
        there = there;
        number = g.numbers.0;
        in_time = g.in_time;
        mid = mid;
        whole = whole;
        one = one;
        rest = record {
          tuned = one.tuned;
          numbers = subst (λ (n : Numbering). AllNumbered l.c.first n ks) (sym one.numbering) g.numbers.1;
          in_time = one.timely ks g.in_time;
          copies = copies.1;
          blocks = blocks.1;
          memory = g.memory;
          typed = g.typed;
          inside = λ j at is. inside j at (inr is);
          run = g.run.2;
          edged = edged_next (receives now bytes answer) later g.edged
              (subst (λ (b : Bool). IsWritten (answered_unless b bytes answer)) (sym found) (k, subst (λ (x : List ℕ). slice_get l.written k ≡ Some x) (sym (same_bytes copies.0.0 bytes answer copies.0.2)) copies.0.1));
        };
      }

  pub going_received : (now : Ticks) (bytes : List ℕ) (answer : Result Outcome ReceiveError) (later : List ReceiverCall) (ks : List ℕ) (s t : Receiver) → is_no_memory answer ≡ false
      → IsGoingInRed (receives now bytes answer ∷ later) ks s t → Taken now bytes answer later ks s t
  going_received now bytes answer later ks s t is g =
      taken_by now bytes answer later ks s t is
      (subst (λ (b : Bool). AreCopies None l.written (with_shown (not b) (receives now bytes answer) (effective later)) ks) is g.copies)
      (subst (λ (b : Bool). FoundBlocks (with_shown (not b) (receives now bytes answer) (effective later))) is g.blocks)
      (subst (λ (b : Bool). Inside (with_shown (not b) (receives now bytes answer) (effective later)) ks) is g.inside) g

  pub going_lost : (now : Ticks) (bytes : List ℕ) (answer : Result Outcome ReceiveError) (later : List ReceiverCall) (ks : List ℕ) (s t : Receiver) → is_no_memory answer ≡ true
      → IsGoingInRed (receives now bytes answer ∷ later) ks s t → IsGoingInRed later ks s t
  going_lost now bytes answer later ks s t is g =
      let same : g.run.0 ≡ s = lost_leaves l.stream.ssrc now bytes answer s g.run.0 g.tuned.named is g.run.1 in
      record {
        tuned = g.tuned;
        numbers = g.numbers;
        in_time = g.in_time;
        copies = subst (λ (b : Bool). AreCopies None l.written (with_shown (not b) (receives now bytes answer) (effective later)) ks) is g.copies;
        blocks = subst (λ (b : Bool). FoundBlocks (with_shown (not b) (receives now bytes answer) (effective later))) is g.blocks;
        memory = g.memory;
        typed = g.typed;
        inside = subst (λ (b : Bool). Inside (with_shown (not b) (receives now bytes answer) (effective later)) ks) is g.inside;
        run = subst (λ (x : Receiver). RunsAlone later x t) same g.run.2;
        edged = edged_next (receives now bytes answer) later g.edged (subst (λ (b : Bool). IsWritten (answered_unless b bytes answer)) (sym is) tt);
      }

  -- a pop, and the calls after it
  pub record IsAsked (now : Ticks) (answer : Option (Result (Popped Release) AllocError)) (later : List ReceiverCall) (ks : List ℕ) (s t : Receiver) : Type 0 where
    pub mid : Receiver
    pub one : IsPoppedOnce l now (answer_of answer) s mid
    pub rest : IsGoingInRed later ks mid t

  pub going_popped : (now : Ticks) (answer : Option (Result (Popped Release) AllocError)) (later : List ReceiverCall) (ks : List ℕ) (s t : Receiver) → IsGoingInRed (pops now answer ∷ later) ks s t
      → IsAsked now answer later ks s t
  going_popped now answer later ks s t g =
      let one = pop_once l now (answer_of answer) s g.run.0 g.tuned g.memory.0 g.run.1.0 in
      record {
        mid = g.run.0;
        one = one;
        rest = record {
          tuned = one.tuned;
          numbers = subst (λ (n : Numbering). AllNumbered l.c.first n ks) (sym one.numbering) g.numbers;
          in_time = one.timely ks g.in_time;
          copies = g.copies;
          blocks = g.blocks;
          memory = g.memory.1;
          typed = g.typed;
          inside = λ j at is. g.inside j at (inr is);
          run = g.run.2;
          edged = edged_next (pops now answer) later g.edged tt;
        };
      }

  pub going_ended : (later : List ReceiverCall) (ks : List ℕ) (s t : Receiver) → IsGoingInRed (finishes ∷ later) ks s t → IsGoingInRed later ks (ended s) t
  going_ended later ks s t g =
      let at_end : g.run.0 ≡ ended s = finish_is l s g.run.0 g.tuned g.run.1 in
      record {
        tuned = tuned_ended l s g.tuned;
        numbers = g.numbers;
        in_time = g.in_time;
        copies = g.copies;
        blocks = g.blocks;
        memory = g.memory;
        typed = g.typed;
        inside = λ j at is. g.inside j at (inr is);
        run = subst (λ (x : Receiver). RunsAlone later x t) at_end g.run.2;
        edged = edged_next finishes later g.edged tt;
      }

  -- a receiver that differs in nothing of which the stream speaks
  tuned_same : (s mid : Receiver) → mid.stream ≡ s.stream → mid.named ≡ s.named → mid.ssrc ≡ s.ssrc → mid.gates ≡ s.gates → mid.packets.rate ≡ s.packets.rate → mid.packets.is_restarting ≡ s.packets.is_restarting
      → mid.packets.buffer ≡ s.packets.buffer → mid.packets.numbering ≡ s.packets.numbering → mid.packets.noted ≡ s.packets.noted → Tuned l s → Tuned l mid
  tuned_same s mid kinds named ssrc gates rate running buffer numbering noted tuned = record {
    kinds_are = kinds ∙ tuned.kinds_are;
    named = named ∙ tuned.named;
    ssrc = ssrc ∙ tuned.ssrc;
    drops_none = ap (λ (x : Gating). x.drops) gates ∙ tuned.drops_none;
    steady = record {
      rate = rate ∙ tuned.steady.rate;
      running = running ∙ tuned.steady.running;
      of_codec = ap (λ (x : State). is_built_in_depacketizer x.depacketizer) buffer ∙ tuned.steady.of_codec;
      forward_is = ap (λ (x : Numbering). x.forward) numbering ∙ tuned.steady.forward_is;
      backward_is = ap (λ (x : Numbering). x.backward) numbering ∙ tuned.steady.backward_is;
      times = subst (λ (x : Noted). AreTimesOf (time_of l) x) (sym noted) tuned.steady.times;
    };
  }

  going_with : (later : List ReceiverCall) (ks : List ℕ) (s mid t : Receiver) → Tuned l mid → mid.packets.numbering ≡ s.packets.numbering → mid.seen ≡ s.seen → mid.packets.first ≡ s.packets.first
      → AllNumbered l.c.first s.packets.numbering ks → Timely l s ks → AreCopies None l.written (effective later) ks → FoundBlocks (effective later) → FoundMemory (answers_by later) → AllTyped None later
      → Inside (effective later) ks → IsEdged later → RunsAlone later mid t → IsGoingInRed later ks mid t
  going_with later ks s mid t tuned numbering seen begins numbers in_time copies blocks memory typed inside edged run = record {
    tuned = tuned;
    numbers = subst (λ (n : Numbering). AllNumbered l.c.first n ks) (sym numbering) numbers;
    in_time = timely_same l ks s mid seen begins in_time;
    copies = copies;
    blocks = blocks;
    memory = memory;
    typed = typed;
    inside = inside;
    run = run;
    edged = edged;
  }

  -- other wait limits
  pub going_waits : (limits : WaitLimits) (later : List ReceiverCall) (ks : List ℕ) (s t : Receiver) → IsGoingInRed (waits limits ∷ later) ks s t
      → IsGoingInRed later ks (record s { packets = record s.packets { wait_limits = limits } }) t
  going_waits limits later ks s t g =
      let mid : Receiver = record s { packets = record s.packets { wait_limits = limits } } in
      going_with later ks s mid t (tuned_same s mid refl refl refl refl refl refl refl refl refl g.tuned) refl refl refl g.numbers g.in_time g.copies g.blocks g.memory g.typed g.inside (edged_next (waits limits) later g.edged tt)
      (subst (λ (x : Receiver). RunsAlone later x t) g.run.1 g.run.2)

  -- another `max_wait`
  pub going_follows : (wait : ℕ) (later : List ReceiverCall) (ks : List ℕ) (s t : Receiver) → IsGoingInRed (follows wait ∷ later) ks s t
      → IsGoingInRed later ks (record s { packets = record s.packets { wait_limits = record s.packets.wait_limits { max_wait = Some wait } } }) t
  going_follows wait later ks s t g =
      let mid : Receiver = record s { packets = record s.packets { wait_limits = record s.packets.wait_limits { max_wait = Some wait } } } in
      going_with later ks s mid t (tuned_same s mid refl refl refl refl refl refl refl refl refl g.tuned) refl refl refl g.numbers g.in_time g.copies g.blocks g.memory g.typed g.inside (edged_next (follows wait) later g.edged tt)
      (subst (λ (x : Receiver). RunsAlone later x t) g.run.1 g.run.2)

  -- a report
  pub going_reports : (later : List ReceiverCall) (ks : List ℕ) (s t : Receiver) → IsGoingInRed (reports ∷ later) ks s t → IsGoingInRed later ks (record s { reception = reported s.reception }) t
  going_reports later ks s t g =
      let mid : Receiver = record s { reception = reported s.reception } in
      going_with later ks s mid t (tuned_same s mid refl refl refl refl refl refl refl refl refl g.tuned) refl refl refl g.numbers g.in_time g.copies g.blocks g.memory g.typed g.inside (edged_next reports later g.edged tt)
      (subst (λ (x : Receiver). RunsAlone later x t) g.run.1 g.run.2)

  -- a pair, which is none
  pub going_pairs : (r : Option Retransmission) (later : List ReceiverCall) (ks : List ℕ) (s t : Receiver) → IsGoingInRed (pairs r ∷ later) ks s t
      → IsGoingInRed later ks (record s { stream = record s.stream { retransmission = r } }) t
  going_pairs r later ks s t g =
      let mid : Receiver = record s { stream = record s.stream { retransmission = r } } in
      let none : s.stream.retransmission ≡ None = ap (λ (x : Kinds). x.retransmission) g.tuned.kinds_are ∙ unpaired in
      let kinds : mid.stream ≡ s.stream = ap (λ (o : Option Retransmission). record s.stream { retransmission = o }) (no_pair r g.typed.0 ∙ sym none) in
      going_with later ks s mid t (tuned_same s mid kinds refl refl refl refl refl refl refl refl g.tuned) refl refl refl g.numbers g.in_time g.copies g.blocks g.memory g.typed.1 g.inside (edged_next (pairs r) later g.edged tt)
      (subst (λ (x : Receiver). RunsAlone later x t) g.run.1 g.run.2)

  -- the edges follow a datagram: they note nothing
  pub going_notes : (e : EdgesCall) (later : List ReceiverCall) (ks : List ℕ) (s t : Receiver) → IsGoingInRed (notes e ∷ later) ks s t → IsGoingInRed later ks s t
  going_notes e later ks s t g =
      let here : (index : ℕ) × (slice_get l.written index ≡ Some e.bytes) = subst IsWritten g.edged.each.0 g.edged.here in
      let follows : FollowsEdges rules e.bytes e.received e.before s e.after g.run.0 = subst (λ (k : EdgeRules). FollowsEdges k e.bytes e.received e.before s e.after g.run.0) g.edged.edged.0.0 g.run.1 in
      let still : g.run.0 ≡ s = plain_still rules e.bytes e.received e.before s e.after g.run.0 (λ ssrc m is. says_nothing e.bytes here.0 ssrc m here.1 is) follows in
      record {
        tuned = g.tuned;
        numbers = g.numbers;
        in_time = g.in_time;
        copies = g.copies;
        blocks = g.blocks;
        memory = g.memory;
        typed = g.typed;
        inside = g.inside;
        run = subst (λ (x : Receiver). RunsAlone later x t) still g.run.2;
        edged = edged_next (notes e) later g.edged tt;
      }

  -- the calls are a course of the buffer

  abbrev pub Goes : List DatagramStep → Receiver → List Answer → Receiver → Type 0
  Goes later s answers t = Course l.c.known (packets_of l.c.units) later s.packets.buffer answers t.packets.buffer

  abbrev Next : List ReceiverCall → Receiver → Type 0
  Next later t = (ks : List ℕ) (s : Receiver) → IsGoingInRed later ks s t → Goes (steps_by (effective later) ks) s (answers_by later) t

  course_taken : (now : Ticks) (bytes : List ℕ) (answer : Result Outcome ReceiveError) (later : List ReceiverCall) (ks : List ℕ) (s t : Receiver) → Next later t → Taken now bytes answer later ks s t
      → Goes (steps_by (receives now bytes answer ∷ effective later) ks) s (answers_by later) t
  course_taken now bytes answer later [] s t go taken = absurd taken
  course_taken now bytes answer later (k ∷ ks) s t go taken = (taken.one.fed.ps, taken.mid.packets.buffer, taken.one.fed.feeds, go ks taken.mid taken.rest)

  received_if : (lost : Bool) (now : Ticks) (bytes : List ℕ) (answer : Result Outcome ReceiveError) (later : List ReceiverCall) (ks : List ℕ) (s t : Receiver) → Next later t → is_no_memory answer ≡ lost
      → IsGoingInRed (receives now bytes answer ∷ later) ks s t
      → Goes (steps_by (with_shown (not lost) (receives now bytes answer) (effective later)) ks) s (answers_by later) t
  received_if false now bytes answer later ks s t go is g = course_taken now bytes answer later ks s t go (going_received now bytes answer later ks s t is g)
  received_if true now bytes answer later ks s t go is g = go ks s (going_lost now bytes answer later ks s t is g)

  course_asked : (now : Ticks) (answer : Option (Result (Popped Release) AllocError)) (later : List ReceiverCall) (ks : List ℕ) (s t : Receiver) → Next later t → IsAsked now answer later ks s t
      → Goes (steps.Pop now ∷ steps_by (effective later) ks) s (answer_of answer ∷ answers_by later) t
  course_asked now answer later ks s t go asked =
      let one = asked.one in
      (answer_of answer, answers_by later, one.up, one.wait, asked.mid.packets.buffer, refl, one.raised_to, one.pops, go ks asked.mid asked.rest)

  pub red_calls : (later : List ReceiverCall) (ks : List ℕ) (s t : Receiver) → IsGoingInRed later ks s t → Goes (steps_by (effective later) ks) s (answers_by later) t
  red_calls [] ks s t g = (refl, ap (λ (x : Receiver). x.packets.buffer) g.run)
  red_calls (receives now bytes answer ∷ later) ks s t g = received_if (is_no_memory answer) now bytes answer later ks s t (λ more mid. red_calls later more mid t) refl g
  red_calls (pops now answer ∷ later) ks s t g = course_asked now answer later ks s t (λ more mid. red_calls later more mid t) (going_popped now answer later ks s t g)
  red_calls (finishes ∷ later) ks s t g = red_calls later ks (ended s) t (going_ended later ks s t g)
  red_calls (waits limits ∷ later) ks s t g = red_calls later ks (record s { packets = record s.packets { wait_limits = limits } }) t (going_waits limits later ks s t g)
  red_calls (follows wait ∷ later) ks s t g =
      red_calls later ks (record s { packets = record s.packets { wait_limits = record s.packets.wait_limits { max_wait = Some wait } } }) t (going_follows wait later ks s t g)
  red_calls (reports ∷ later) ks s t g = red_calls later ks (record s { reception = reported s.reception }) t (going_reports later ks s t g)
  red_calls (notes e ∷ later) ks s t g = red_calls later ks s t (going_notes e later ks s t g)
  red_calls (pairs r ∷ later) ks s t g = red_calls later ks (record s { stream = record s.stream { retransmission = r } }) t (going_pairs r later ks s t g)
