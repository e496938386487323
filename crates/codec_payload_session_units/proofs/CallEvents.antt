-- The calls of a stream's receiver, as events of its buffer. Wait limits and known retransmissions may change between them.
use Rattle.std.proofs.Common.{◌≡◌, ◌≢◌, ◌∙◌, refl, sym, ap, subst, ℕ, ◌+◌, ◌%◌, ◌^◌, ◌<◌, ◌⊎◌, List, [], ◌∷◌, Bool, true, false, not, Option, Some, None, Result, map, subst₂, inl, inr, length, arith}
use Rattle.std.specs.Prelude.{slice_get}
use Rattle.std.proofs.lemmas.Option.{slice_get_within}
use Rattle.std.specs.declared.alloc.AllocError.{AllocError}
use Rattle.codec_payload_base.specs.declared.wire.Ticks.{Ticks}
use Rattle.codec_payload_buffer.specs.Held.{Held}
use Rattle.codec_payload_buffer.specs.Steps.{State, arrived, pushed}
use Rattle.codec_payload_buffer_runs.specs.Arrivals.{Arrives, Asked, Event, Meets, PopsWaiting}
use Rattle.codec_payload_buffer_runs.specs.Log.{Stretch, Turn, begun, with_pushes}
use Rattle.codec_payload_buffer_runs.specs.Schedule.{Answer}
use Rattle.codec_payload_codec.specs.Depacketizers.{is_built_in_depacketizer}
use Rattle.codec_payload_datagrams.specs.Kinds.{Kinds}
use Rattle.codec_payload_datagram_runs.proofs.EventLemmas.{AllHaveValues, AllTimed, Brings, IsRead, packet_at_index, time_at, turn_at, values_asked, values_with}
use Rattle.codec_payload_datagram_runs.proofs.ReceivingLemmas.{AllNumbered, IsPopped, finishes_as, pops_as}
use Rattle.codec_payload_datagram_runs.proofs.TimelyLemmas.{StayTimely, time_in, timely_next, timely_now, untimely_is}
use Rattle.codec_payload_datagram_runs.specs.Releases.{AreDatagrams}
use Rattle.codec_payload_datagram_runs.specs.WireRuns.{Delivers}
use Rattle.codec_payload_jitter.specs.declared.outcome.Outcome.{Outcome}
use Rattle.codec_payload_metadata.specs.Release.{Release}
use Rattle.codec_payload_metadata.specs.declared.meta.RtpMeta.{RtpMeta}
use Rattle.codec_payload_numbers.specs.NotedTimes.{AreTimesOf}
use Rattle.codec_payload_numbers.specs.Numbers.{Numbering, answer_for, numbering_after}
use Rattle.codec_payload_numbers.specs.Reports.{reported}
use Rattle.codec_payload_numbers.specs.declared.noted_times.NotedTime.{NotedTime}
use Rattle.codec_payload_numbers.specs.declared.numbers.Extended.TheVariants as extended
use Rattle.codec_payload_payloader.specs.Packets.{AreNumbered, Packet}
use Rattle.codec_payload_receiver.specs.Pops.{answer_of}
use Rattle.codec_payload_keyframes.specs.UnitGates.{Gating}
use Rattle.codec_payload_receiver.specs.RedOnce.{HasNoBlock}
use Rattle.codec_payload_receiver.specs.Sessions.{Session as Receiver, ended}
use Rattle.codec_payload_receiver.specs.declared.pops.Popped.{Popped}
use Rattle.codec_payload_receiver.specs.declared.receiver.ReceiveError.{ReceiveError}
use Rattle.codec_payload_rtp.specs.declared.values.ExtensionIds.{ExtensionIds}
use Rattle.codec_payload_sending.specs.declared.sender.Outgoing.{Outgoing}
use Rattle.codec_payload_sending_history.specs.declared.retransmission.RetransmissionStream.{RetransmissionStream}
use Rattle.codec_payload_session_stream.specs.Streams.{is_no_memory}
use Rattle.codec_payload_session_runs.specs.Lives.{ReceiverCall, RunsAlone, finishes, follows, pairs, pops, receives, reports, waits, with_shown, notes, Answered, EdgesCall, EdgesRun, FollowEach, answered_unless, to_follow}
use Rattle.codec_payload_datagram_runs.specs.declared.run.DatagramStep.{DatagramStep}
use Rattle.codec_payload_session_units.specs.OneSender.{AreApartFrom, AreCopies, FoundMemory, answers_by, effective, steps_by, IsCopyOf}
use Rattle.codec_payload_session_units.specs.StreamUnits.{IsLogOfStream}
use Rattle.codec_payload_base.specs.Extended.{extended as nearest_to}
use Rattle.codec_payload_edges.specs.Senders.{FindsNothing}
use Rattle.codec_payload_sending_history.specs.Histories.{Repeats}
use Rattle.codec_payload_session_requests.specs.Named.{FollowsEdges}
use Rattle.codec_payload_stream_edges.specs.declared.followed.Followed.{Followed}
use Rattle.codec_payload_stream_edges.specs.declared.rules.EdgeRules.{EdgeRules}
use Rattle.codec_payload_session_units.proofs.EdgeSteps.{Knows, edges_still}
use Rattle.codec_payload_session_units.proofs.NearLemmas.{near_after, windows_stay}
use Rattle.codec_payload_session_units.proofs.ShowLemmas.{IsCopyHere, IsFollowed}
use Rattle.codec_payload_session_units.proofs.CopyLemmas.{HasType, IsStream, copy_is_pushed, found_memory, lost_leaves, not_again_by}

-- the number of a retransmission, if the copy is one
copy_number : (again : Option RetransmissionStream) (datagram bytes : List ℕ) (answer : Result Outcome ReceiveError) → IsCopyOf again datagram bytes answer → ℕ
copy_number again datagram bytes answer (inl same) = 0
copy_number again datagram bytes answer (inr repeated) = repeated.0

copy_of : (again : Option RetransmissionStream) (datagram bytes : List ℕ) (answer : Result Outcome ReceiveError) (copy : IsCopyOf again datagram bytes answer)
    → (bytes ≡ datagram) ⊎ Repeats again (copy_number again datagram bytes answer copy) datagram bytes
unfolding copy_number
copy_of again datagram bytes answer (inl same) = inl same
copy_of again datagram bytes answer (inr repeated) = inr repeated.1

-- each pair among these calls has the payload type that the format has for retransmissions
abbrev pub AllTyped : Option ℕ → List ReceiverCall → Type 0
AllTyped own [] = Unit {0}
AllTyped own (receives now bytes answer ∷ calls) = AllTyped own calls
AllTyped own (pops now answer ∷ calls) = AllTyped own calls
AllTyped own (finishes ∷ calls) = AllTyped own calls
AllTyped own (waits limits ∷ calls) = AllTyped own calls
AllTyped own (follows wait ∷ calls) = AllTyped own calls
AllTyped own (pairs r ∷ calls) = HasType own r × AllTyped own calls
AllTyped own (reports ∷ calls) = AllTyped own calls
AllTyped own (notes e ∷ calls) = AllTyped own calls

-- a log of these steps, from this stretch on, with these answers and this buffer in the end
pub record HasLogOf (known : ℕ → Packet → RtpMeta → Type 0) (packets : List Packet) (at_end : Bool) (later : List DatagramStep) (w : Stretch) (answers : List Answer) (t : State) : Type 0 where
  pub turns : List Turn
  pub end : Stretch
  pub is_log : IsLogOfStream known packets at_end later w turns end
  pub answers_are : map (λ (turn : Turn). turn.answer) turns ≡ answers
  pub left : end.now ≡ t

-- the events of the buffer for these steps
pub record IsMetBy (stream : Outgoing) (packets : List Packet) (later : List DatagramStep) (s : Receiver) (answers : List Answer) (t : Receiver) : Type 0 where
  pub events : List Event
  pub meets : Meets stream.clock_rate packets events s.packets.buffer answers t.packets.buffer
  pub brings : Brings s.packets.ended later events
  pub values : AllHaveValues s.stream.ids stream packets events
  pub logs : (w : Stretch) → w.now ≡ s.packets.buffer → HasLogOf (IsRead s.stream.ids stream packets) packets s.packets.ended later w answers t.packets.buffer

-- a call that leaves the buffer, the end and the ids as they were
met_same : (stream : Outgoing) (packets : List Packet) (later : List DatagramStep) (s mid : Receiver) (answers : List Answer) (t : Receiver) → mid.packets.buffer ≡ s.packets.buffer
    → mid.packets.ended ≡ s.packets.ended → mid.stream.ids ≡ s.stream.ids → IsMetBy stream packets later mid answers t → IsMetBy stream packets later s answers t
met_same stream packets later s mid answers t buffer at_end ids rest = record {
  events = rest.events;
  meets = subst (λ (b : State). Meets stream.clock_rate packets rest.events b answers t.packets.buffer) buffer rest.meets;
  brings = subst (λ (b : Bool). Brings b later rest.events) at_end rest.brings;
  values = subst (λ (i : ExtensionIds). AllHaveValues i stream packets rest.events) ids rest.values;
  logs = λ w is. subst (λ (i : ExtensionIds). HasLogOf (IsRead i stream packets) packets s.packets.ended later w answers t.packets.buffer) ids
      (subst (λ (b : Bool). HasLogOf (IsRead mid.stream.ids stream packets) packets b later w answers t.packets.buffer) at_end (rest.logs w (is ∙ sym buffer)));
}

module _ (own : Option ℕ) (again : Option RetransmissionStream) (stream : Outgoing) (types : (stream.payload_type < 64) ⊎ (95 < stream.payload_type)) (other : own ≢ Some stream.payload_type)
    (apart : AreApartFrom stream.ssrc again) (first : ℕ) (packets : List Packet) (datagrams : List (List ℕ)) (are : AreDatagrams stream packets datagrams) (numbered : AreNumbered first packets)
    (time_of : ℕ → ℕ) (few : first + length datagrams < 2 ^ 64) (nothing : FindsNothing) (k : EdgeRules) (followed : IsFollowed nothing k again stream first datagrams) where
  abbrev pub rate : ℕ
  rate = stream.clock_rate

  -- the datagram in front, if the edges are to follow it, is a copy that the receiver has just received
  abbrev pub IsHere : Option Answered → Receiver → Type 0
  IsHere None s = Unit {0}
  IsHere (Some answered) s = IsCopyHere again stream first datagrams answered.0 s

  -- the calls, from this receiver on
  pub record IsGoing (later : List ReceiverCall) (ks : List ℕ) (s t : Receiver) : Type 0 where
    pub is : IsStream own stream s
    pub numbers : AllNumbered first s.packets.numbering ks
    pub timed : AllTimed time_of first packets ks
    pub timely : StayTimely rate first packets s.packets.first ks
    pub times : AreTimesOf time_of s.packets.noted
    pub copies : AreCopies again datagrams (effective later) ks
    pub memory : FoundMemory (answers_by later)
    pub typed : AllTyped own later
    pub run : RunsAlone later s t
    pub backward : s.packets.numbering.backward < 32768
    pub last : Option Answered
    pub each : FollowEach last later
    pub here : IsHere last s
    pub edges : Option Followed
    pub knows : Knows nothing followed.sender followed.order followed.alone edges
    pub after : Option Followed
    pub edged : EdgesRun k edges later after

  abbrev pub Met : List ReceiverCall → List ℕ → Receiver → Receiver → Type 0
  Met later ks s t = IsMetBy stream packets (steps_by (effective later) ks) s (answers_by later) t

  -- another state of the receiver, of which the calls do not speak
  listens : (s mid : Receiver) → mid.stream ≡ s.stream → mid.named ≡ s.named → mid.ssrc ≡ s.ssrc → mid.packets.rate ≡ s.packets.rate → mid.packets.is_restarting ≡ false
      → mid.packets.no_media_numbers ≡ s.packets.no_media_numbers → mid.packets.buffer ≡ s.packets.buffer → mid.seen ≡ s.seen → mid.gates ≡ s.gates → IsStream own stream s → IsStream own stream mid
  listens s mid kinds named ssrc rates running none buffer seen gates is = record {
    listening = record {
      payload_type = ap (λ (x : Kinds). x.payload_type) kinds ∙ is.listening.payload_type;
      named = named ∙ is.listening.named;
      ssrc = ssrc ∙ is.listening.ssrc;
      not_again = not_again_by own stream mid.stream.retransmission other (subst (λ (x : Kinds). HasType own x.retransmission) (sym kinds) is.typed);
      rate = rates ∙ is.listening.rate;
      running = running;
      none_noted = none ∙ is.listening.none_noted;
      of_codec = ap (λ (x : State). is_built_in_depacketizer x.depacketizer) buffer ∙ is.listening.of_codec;
      no_block_seen = subst HasNoBlock (sym seen) is.listening.no_block_seen;
      drops_none = ap (λ (x : Gating). x.drops) gates ∙ is.listening.drops_none;
      heard = tt;
    };
    no_red = ap (λ (x : Kinds). x.red) kinds ∙ is.no_red;
    typed = subst (λ (x : Kinds). HasType own x.retransmission) (sym kinds) is.typed;
  }

  -- the same for these calls from any state on
  abbrev Next : List ReceiverCall → Receiver → Type 0
  Next later t = (ks : List ℕ) (s : Receiver) → IsGoing later ks s t → Met later ks s t

  -- a datagram for which memory was found
  received_then : (now : Ticks) (bytes : List ℕ) (answer : Result Outcome ReceiveError) (later : List ReceiverCall) (ks : List ℕ) (s t : Receiver) → Next later t → is_no_memory answer ≡ false
      → AreCopies again datagrams (receives now bytes answer ∷ effective later) ks → IsGoing (receives now bytes answer ∷ later) ks s t
      → IsMetBy stream packets (steps_by (receives now bytes answer ∷ effective later) ks) s (answers_by later) t
  received_then now bytes answer later [] s t go found copies g = absurd copies
  received_then now bytes answer later (k ∷ ks) s t go found copies g =
      let mid : Receiver = g.run.0 in
      let datagram : List ℕ = copies.0.0 in
      let p = packet_at_index stream first packets datagrams k datagram are numbered copies.0.1 in
      let q : Packet = p.0 in
      let p_at : slice_get packets k ≡ Some q = p.1 in
      let number : answer_for s.packets.numbering (q.number % 2 ^ 16) ≡ extended.Number q.number =
      subst (λ (n : ℕ). answer_for s.packets.numbering (n % 2 ^ 16) ≡ extended.Number n) (sym p.3) g.numbers.0 in
      let stamped : q.rtp_time ≡ time_in packets k = time_at packets k q p.1 in
      let time : q.rtp_time ≡ time_of q.number = stamped ∙ (g.timed.0 ∙ ap time_of (sym p.3)) in
      let in_time = untimely_is rate s.packets.rate first packets s.packets.first q.number q.rtp_time k g.is.listening.rate p.3 stamped
      (timely_now rate first packets s.packets.first k ks g.timely) in
      let delivers : Delivers now bytes s answer mid = (found_memory answer found, g.run.1) in
      let one = copy_is_pushed own again time_of stream now q datagram bytes answer s mid types apart g.is p.2 copies.0.2 number g.times time in_time delivers in
      let timely_then : StayTimely rate first packets mid.packets.first ks =
      timely_next rate first packets s.packets.first mid.packets.first (answer_for s.packets.numbering (q.number % 2 ^ 16)) q.number q.rtp_time k ks
      g.timely one.first number p.3 stamped in
      let numbering : mid.packets.numbering ≡ numbering_after s.packets.numbering ((first + k) % 2 ^ 16) = one.numbering ∙ ap (λ (n : ℕ). numbering_after s.packets.numbering (n % 2 ^ 16)) p.3 in
      let small : q.number < 2 ^ 64 = omega (arith, few, p.3, slice_get_within datagrams k datagram copies.0.1) in
      let here : IsCopyHere again stream first datagrams bytes mid = record {
        index = k;
        packet = q;
        datagram = datagram;
        there = copies.0.1;
        reads = p.2;
        number = p.3;
        next = copy_number again datagram bytes answer copies.0.2;
        copy = copy_of again datagram bytes answer copies.0.2;
        nearest = ap (λ (n : Numbering). nearest_to 65536 n.greatest (q.number % 2 ^ 16)) one.numbering ∙ near_after s.packets.numbering q.number number g.backward small;
        ssrc_is = one.listening.ssrc;
      } in
      let rest = go ks mid (record {
        is = record {
          listening = one.listening;
          no_red = ap (λ (x : Kinds). x.red) one.kinds ∙ g.is.no_red;
          typed = subst (λ (x : Kinds). HasType own x.retransmission) (sym one.kinds) g.is.typed;
        };
        numbers = subst (λ (n : Numbering). AllNumbered first n ks) (sym numbering) g.numbers.1;
        timed = g.timed.1;
        timely = timely_then;
        times = one.times;
        copies = copies.1;
        memory = g.memory;
        typed = g.typed;
        run = g.run.2;
        backward = subst (λ (n : ℕ). n < 32768) (sym (ap (λ (n : Numbering). n.backward) numbering ∙ windows_stay s.packets.numbering ((first + k) % 2 ^ 16))) g.backward;
        last = to_follow (receives now bytes answer);
        each = g.each.1;
        here = subst (λ (b : Bool). IsHere (answered_unless b bytes answer) mid) (sym found) here;
        edges = g.edges;
        knows = g.knows;
        after = g.after;
        edged = g.edged.1;
      }) in
      record {
        events = Arrives k one.meta ∷ rest.events;
        meets = (q, p.1, one.tells, subst (λ (b : State). Meets rate packets rest.events b (answers_by later) t.packets.buffer) one.buffer rest.meets);
        brings = (one.meta, rest.events, refl, one.received, subst (λ (b : Bool). Brings b (steps_by (effective later) ks) rest.events) one.ended rest.brings);
        values = values_with s.stream.ids stream packets rest.events k one.meta (q, p.1, one.values)
            (subst (λ (x : Kinds). AllHaveValues x.ids stream packets rest.events) one.kinds rest.values);
        logs = λ w is.
            let h : Held = arrived w.now.depacketizer one.meta q.payload in
            let next : pushed w.now h ≡ mid.packets.buffer = ap (λ (b : State). pushed b (arrived b.depacketizer one.meta q.payload)) is ∙ sym one.buffer in
            let l = subst (λ (x : Kinds). HasLogOf (IsRead x.ids stream packets) packets s.packets.ended (steps_by (effective later) ks) (with_pushes w (h ∷ [])) (answers_by later) t.packets.buffer) one.kinds
            (subst (λ (b : Bool). HasLogOf (IsRead mid.stream.ids stream packets) packets b (steps_by (effective later) ks) (with_pushes w (h ∷ [])) (answers_by later) t.packets.buffer) one.ended
            (rest.logs (with_pushes w (h ∷ [])) next)) in
            record {
              turns = l.turns;
              end = l.end;
              is_log = (q, one.meta, p_at, (one.tells, (q, p_at, one.values)), one.received, l.is_log);
              answers_are = l.answers_are;
              left = l.left;
            };
      }

  -- a datagram, by whether memory ran out for it
  received_if : (lost : Bool) (now : Ticks) (bytes : List ℕ) (answer : Result Outcome ReceiveError) (later : List ReceiverCall) (ks : List ℕ) (s t : Receiver) → Next later t → is_no_memory answer ≡ lost
      → IsGoing (receives now bytes answer ∷ later) ks s t
      → IsMetBy stream packets (steps_by (with_shown (not lost) (receives now bytes answer) (effective later)) ks) s (answers_by later) t
  received_if false now bytes answer later ks s t go is g =
      received_then now bytes answer later ks s t go is
      (subst (λ (b : Bool). AreCopies again datagrams (with_shown (not b) (receives now bytes answer) (effective later)) ks) is g.copies) g
  received_if true now bytes answer later ks s t go is g =
      let same : g.run.0 ≡ s = lost_leaves stream.ssrc now bytes answer s g.run.0 g.is.listening.named is g.run.1 in
      go ks s (record {
        is = g.is;
        numbers = g.numbers;
        timed = g.timed;
        timely = g.timely;
        times = g.times;
        copies = subst (λ (b : Bool). AreCopies again datagrams (with_shown (not b) (receives now bytes answer) (effective later)) ks) is g.copies;
        memory = g.memory;
        typed = g.typed;
        run = subst (λ (x : Receiver). RunsAlone later x t) same g.run.2;
        backward = g.backward;
        last = to_follow (receives now bytes answer);
        each = g.each.1;
        here = subst (λ (b : Bool). IsHere (answered_unless b bytes answer) s) (sym is) tt;
        edges = g.edges;
        knows = g.knows;
        after = g.after;
        edged = g.edged.1;
      })

  popped_then : (now : Ticks) (answer : Option (Result (Popped Release) AllocError)) (later : List ReceiverCall) (ks : List ℕ) (s t : Receiver) → Next later t → IsGoing (pops now answer ∷ later) ks s t → Met (pops now answer ∷ later) ks s t
  popped_then now answer later ks s t go g =
      let mid : Receiver = g.run.0 in
      let a : Answer = answer_of answer in
      let one : IsPopped None stream now a s mid = pops_as None stream now a s mid g.is.listening g.memory.0 g.run.1.0 in
      let rest = go ks mid (record {
        is = record {
          listening = one.listening;
          no_red = ap (λ (x : Kinds). x.red) one.kinds ∙ g.is.no_red;
          typed = subst (λ (x : Kinds). HasType own x.retransmission) (sym one.kinds) g.is.typed;
        };
        numbers = subst (λ (n : Numbering). AllNumbered first n ks) (sym one.numbering) g.numbers;
        timed = g.timed;
        timely = subst (λ (o : Option NotedTime). StayTimely rate first packets o ks) (sym one.first) g.timely;
        times = subst (AreTimesOf time_of) (sym one.noted) g.times;
        copies = g.copies;
        memory = g.memory.1;
        typed = g.typed;
        run = g.run.2;
        backward = subst (λ (n : Numbering). n.backward < 32768) (sym one.numbering) g.backward;
        last = None;
        each = g.each.1;
        here = tt;
        edges = g.edges;
        knows = g.knows;
        after = g.after;
        edged = g.edged.1;
      }) in
      record {
        events = Asked one.wait ∷ rest.events;
        meets = (a, answers_by later, mid.packets.buffer, refl, one.pops, rest.meets);
        brings = (one.wait, rest.events, refl, one.at_end, subst (λ (b : Bool). Brings b (steps_by (effective later) ks) rest.events) one.ended rest.brings);
        values = values_asked s.stream.ids stream packets rest.events one.wait (subst (λ (x : Kinds). AllHaveValues x.ids stream packets rest.events) one.kinds rest.values);
        logs = λ w is.
            let turn = turn_at one.wait w.now mid.packets.buffer a (subst (λ (b : State). PopsWaiting one.wait b a mid.packets.buffer) (sym is) one.pops) in
            let l = subst (λ (x : Kinds). HasLogOf (IsRead x.ids stream packets) packets s.packets.ended (steps_by (effective later) ks) (begun mid.packets.buffer) (answers_by later) t.packets.buffer) one.kinds
            (subst (λ (b : Bool). HasLogOf (IsRead mid.stream.ids stream packets) packets b (steps_by (effective later) ks) (begun mid.packets.buffer) (answers_by later) t.packets.buffer) one.ended
            (rest.logs (begun mid.packets.buffer) refl)) in
            record {
              turns = record { stretch = w; passed = turn.0; answer = a; after = mid.packets.buffer } ∷ l.turns;
              end = l.end;
              is_log = (refl, (one.wait, one.at_end, turn.1), l.is_log);
              answers_are = ap (λ (as' : List Answer). a ∷ as') l.answers_are;
              left = l.left;
            };
      }

  finished_then : (later : List ReceiverCall) (ks : List ℕ) (s t : Receiver) → Next later t → IsGoing (finishes ∷ later) ks s t → Met (finishes ∷ later) ks s t
  finished_then later ks s t go g =
      let at_end : g.run.0 ≡ ended s = finishes_as None stream s g.run.0 g.is.listening g.run.1 in
      let rest = go ks (ended s) (record {
        is = listens s (ended s) refl refl refl refl refl refl refl refl refl g.is;
        numbers = g.numbers;
        timed = g.timed;
        timely = g.timely;
        times = g.times;
        copies = g.copies;
        memory = g.memory;
        typed = g.typed;
        run = subst (λ (x : Receiver). RunsAlone later x t) at_end g.run.2;
        backward = g.backward;
        last = None;
        each = g.each.1;
        here = tt;
        edges = g.edges;
        knows = g.knows;
        after = g.after;
        edged = g.edged.1;
      }) in
      record {
        events = rest.events;
        meets = rest.meets;
        brings = rest.brings;
        values = rest.values;
        logs = λ w is. let l = rest.logs w is in record { turns = l.turns; end = l.end; is_log = l.is_log; answers_are = l.answers_are; left = l.left };
      }

  -- a call that changes neither what is known of numbers and times nor the buffer
  changed_then : (later : List ReceiverCall) (ks : List ℕ) (s mid t : Receiver) → Next later t → IsStream own stream mid → mid.packets.numbering ≡ s.packets.numbering → mid.packets.first ≡ s.packets.first
      → mid.packets.noted ≡ s.packets.noted → mid.packets.buffer ≡ s.packets.buffer → mid.packets.ended ≡ s.packets.ended → mid.stream.ids ≡ s.stream.ids
      → AllNumbered first s.packets.numbering ks → AllTimed time_of first packets ks → StayTimely rate first packets s.packets.first ks → AreTimesOf time_of s.packets.noted
      → AreCopies again datagrams (effective later) ks → FoundMemory (answers_by later) → AllTyped own later → s.packets.numbering.backward < 32768 → FollowEach None later → (edges : Option Followed)
      → Knows nothing followed.sender followed.order followed.alone edges → (after : Option Followed) → EdgesRun k edges later after → RunsAlone later mid t → Met later ks s t
  changed_then later ks s mid t go is numbering begins noted buffer at_end ids numbers timed timely times copies memory typed backward each edges knows after edged run =
      met_same stream packets (steps_by (effective later) ks) s mid (answers_by later) t buffer at_end ids
      (go ks mid (record {
        is = is;
        numbers = subst (λ (n : Numbering). AllNumbered first n ks) (sym numbering) numbers;
        timed = timed;
        timely = subst (λ (o : Option NotedTime). StayTimely rate first packets o ks) (sym begins) timely;
        times = subst (AreTimesOf time_of) (sym noted) times;
        copies = copies;
        memory = memory;
        typed = typed;
        run = run;
        backward = subst (λ (n : Numbering). n.backward < 32768) (sym numbering) backward;
        last = None;
        each = each;
        here = tt;
        edges = edges;
        knows = knows;
        after = after;
        edged = edged;
      }))

  -- the edges follow the datagram in front: they note nothing
  noted_then : (e : EdgesCall) (later : List ReceiverCall) (ks : List ℕ) (s t : Receiver) → Next later t → IsGoing (notes e ∷ later) ks s t → Met later ks s t
  noted_then e later ks s t go g =
      let here : IsCopyHere again stream first datagrams e.bytes s = subst (λ (o : Option Answered). IsHere o s) g.each.0 g.here in
      let follows : FollowsEdges k e.bytes e.received g.edges s e.after g.run.0 =
      subst₂ (λ (rules : EdgeRules) (f : Option Followed). FollowsEdges rules e.bytes e.received f s e.after g.run.0) g.edged.0.0 g.edged.0.1 g.run.1 in
      let still = edges_still nothing followed.sender followed.order followed.alone k e.bytes e.received g.edges s e.after g.run.0 g.knows (followed.shows e.bytes s here) follows in
      go ks s (record {
        is = g.is;
        numbers = g.numbers;
        timed = g.timed;
        timely = g.timely;
        times = g.times;
        copies = g.copies;
        memory = g.memory;
        typed = g.typed;
        run = subst (λ (x : Receiver). RunsAlone later x t) still.0 g.run.2;
        backward = g.backward;
        last = None;
        each = g.each.1;
        here = tt;
        edges = e.after;
        knows = still.1;
        after = g.after;
        edged = g.edged.1;
      })

  pub met_calls : (later : List ReceiverCall) (ks : List ℕ) (s t : Receiver) → IsGoing later ks s t → Met later ks s t
  met_calls [] ks s t g = record {
    events = [];
    meets = (refl, ap (λ (x : Receiver). x.packets.buffer) g.run);
    brings = refl;
    values = λ k m is. absurd is;
    logs = λ w is. record { turns = []; end = w; is_log = refl; answers_are = refl; left = is ∙ sym (ap (λ (x : Receiver). x.packets.buffer) g.run) };
  }
  met_calls (receives now bytes answer ∷ later) ks s t g =
      received_if (is_no_memory answer) now bytes answer later ks s t (λ more mid. met_calls later more mid t) refl g
  met_calls (pops now answer ∷ later) ks s t g = popped_then now answer later ks s t (λ more mid. met_calls later more mid t) g
  met_calls (finishes ∷ later) ks s t g = finished_then later ks s t (λ more mid. met_calls later more mid t) g
  met_calls (waits limits ∷ later) ks s t g =
      let mid : Receiver = record s { packets = record s.packets { wait_limits = limits } } in
      changed_then later ks s mid t (λ more mid. met_calls later more mid t) (listens s mid refl refl refl refl g.is.listening.running refl refl refl refl g.is) refl refl refl refl refl refl g.numbers g.timed g.timely g.times g.copies g.memory g.typed g.backward g.each.1 g.edges g.knows g.after g.edged.1
      (subst (λ (x : Receiver). RunsAlone later x t) g.run.1 g.run.2)
  met_calls (follows wait ∷ later) ks s t g =
      let mid : Receiver = record s { packets = record s.packets { wait_limits = record s.packets.wait_limits { max_wait = Some wait } } } in
      changed_then later ks s mid t (λ more mid. met_calls later more mid t) (listens s mid refl refl refl refl g.is.listening.running refl refl refl refl g.is) refl refl refl refl refl refl g.numbers g.timed g.timely g.times g.copies g.memory g.typed g.backward g.each.1 g.edges g.knows g.after g.edged.1
      (subst (λ (x : Receiver). RunsAlone later x t) g.run.1 g.run.2)
  met_calls (notes e ∷ later) ks s t g = noted_then e later ks s t (λ more mid. met_calls later more mid t) g
  met_calls (reports ∷ later) ks s t g =
      let mid : Receiver = record s { reception = reported s.reception } in
      changed_then later ks s mid t (λ more mid. met_calls later more mid t) (listens s mid refl refl refl refl g.is.listening.running refl refl refl refl g.is) refl refl refl refl refl refl g.numbers g.timed g.timely g.times g.copies g.memory g.typed g.backward g.each.1 g.edges g.knows g.after g.edged.1
      (subst (λ (x : Receiver). RunsAlone later x t) g.run.1 g.run.2)
  met_calls (pairs r ∷ later) ks s t g =
      let mid : Receiver = record s { stream = record s.stream { retransmission = r } } in
      let is : IsStream own stream mid = record {
        listening = record {
          payload_type = g.is.listening.payload_type;
          named = g.is.listening.named;
          ssrc = g.is.listening.ssrc;
          not_again = not_again_by own stream r other g.typed.0;
          rate = g.is.listening.rate;
          running = g.is.listening.running;
          none_noted = g.is.listening.none_noted;
          of_codec = g.is.listening.of_codec;
          no_block_seen = g.is.listening.no_block_seen;
          drops_none = g.is.listening.drops_none;
          heard = tt;
        };
        no_red = g.is.no_red;
        typed = g.typed.0;
      } in
      changed_then later ks s mid t (λ more mid. met_calls later more mid t) is refl refl refl refl refl refl g.numbers g.timed g.timely g.times g.copies g.memory g.typed.1 g.backward g.each.1 g.edges g.knows g.after g.edged.1
      (subst (λ (x : Receiver). RunsAlone later x t) g.run.1 g.run.2)
