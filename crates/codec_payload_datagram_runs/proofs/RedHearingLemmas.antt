-- A receiver of a stream in RED does with copies of written datagrams and with pops what its buffer does with their packets and blocks.
use Rattle.std.proofs.Common.{◌≡◌, ◌≢◌, ◌∙◌, refl, sym, ap, subst, ℕ, ◌+◌, ◌%◌, ◌^◌, ◌<◌, inl, inr, ◌&&◌, List, [], ◌∷◌, Bool, true, false, not, cond}
use Rattle.std.proofs.Common.{Option, Some, None, Err, length, take, ◌⊎◌}
use Rattle.std.specs.Prelude.{Contains, is_some, slice_get}
use Rattle.std.specs.Option.{option_map}
use Rattle.std.proofs.lemmas.Option.{slice_get-map}
use Rattle.codec_payload_base.specs.declared.error.PacketError.TheVariants as faults
use Rattle.codec_payload_base.specs.declared.wire.Ticks.{Ticks}
use Rattle.codec_payload_buffer.proofs.MemberLemmas.{IsIn, contains_in}
use Rattle.codec_payload_buffer.specs.Steps.{State}
use Rattle.codec_payload_metadata.specs.declared.meta.RtpMeta.{RtpMeta}
use Rattle.codec_payload_codec.specs.Depacketizers.{is_built_in_depacketizer}
use Rattle.codec_payload_numbers.specs.NotedTimes.{AreTimesOf}
use Rattle.codec_payload_numbers.specs.Numbers.{Numbering, answer_for, numbering_after}
use Rattle.codec_payload_jitter.specs.Receiving.{Arrival, Receives, Receiving}
use Rattle.codec_payload_jitter.specs.Receiving.{settled, waiting_at}
use Rattle.codec_payload_numbers.specs.declared.noted_times.NotedTime.{NotedTime}
use Rattle.codec_payload_numbers.specs.declared.numbers.Extended.TheVariants as extended
use Rattle.codec_payload_jitter.specs.declared.outcome.Outcome.{Outcome}
use Rattle.codec_payload_red.proofs.RedRunLemmas.{fits_at, same_distances}
use Rattle.codec_payload_red.specs.RedLevels.{Entry, is_accepted}
use Rattle.codec_payload_red.specs.RedRun.{sender_at}
use Rattle.codec_payload_sending_red.specs.Writers.{IsInRed, Writer}
use Rattle.codec_payload_buffer_runs.proofs.order.SafetyLemmas.{number_at}
use Rattle.codec_payload_buffer_runs.specs.Arrivals.{PopsWaiting}
use Rattle.codec_payload_buffer_runs.specs.RedSchedule.{all_remembered, remembered}
use Rattle.codec_payload_buffer_runs.specs.Schedule.{Answer}
use Rattle.codec_payload_buffer_runs.specs.SentStream.{packets_of}
use Rattle.codec_payload_payloader.specs.Packets.{AreNumbered, Packet}
use Rattle.codec_payload_sending.specs.declared.sender.Outgoing.{Outgoing}
use Rattle.codec_payload_receiver.proofs.PopLemmas.{drops_stay, pops_at_once}
use Rattle.codec_payload_datagrams.specs.Kinds.{Carrier, Datagram, Kinds, datagram_at, header_for}
use Rattle.codec_payload_receiver.specs.Pops.{PopsOnce}
use Rattle.codec_payload_receiver.specs.RedOnce.{HasNoBlock}
use Rattle.codec_payload_receiver.specs.Sessions.{Ends, Hears, Holding, RecoversAll, RecoversUnless, Session, SettlesOn, TakesPrimary, TakesPrimaryIf}
use Rattle.codec_payload_receiver.specs.Sessions.{all_carried, ended, first_waiting, has_restarted, is_none_of, is_own_media, is_repeat, is_suspect, primary_seen}
use Rattle.codec_payload_datagrams.specs.declared.choice.Candidate.{Candidate}
use Rattle.codec_payload_datagram_runs.proofs.EventLemmas.{time_at}
use Rattle.codec_payload_datagram_runs.proofs.TimelyLemmas.{StayTimely, stamp}
use Rattle.codec_payload_datagram_runs.proofs.ReadingLemmas.{packet_at}
use Rattle.codec_payload_datagram_runs.proofs.ReceivingLemmas.{AllNumbered, KeepsLimits, heard, not_repeated, turn_of}
use Rattle.codec_payload_datagram_runs.proofs.RedCourses.{Course, IsRaised, raised}
use Rattle.codec_payload_datagram_runs.proofs.RedNumberLemmas.{IsPast, past_number}
use Rattle.codec_payload_datagram_runs.proofs.RedReadingLemmas.{blocks_are, carrier_at}
use Rattle.codec_payload_datagram_runs.proofs.RedStepLemmas.{RedTakes}
use Rattle.codec_payload_datagram_runs.specs.RedRuns.{DeliversWhole}
use Rattle.codec_payload_datagram_runs.specs.Releases.{delivered}
use Rattle.codec_payload_datagram_runs.specs.WireRuns.{PopsUnit, Receipt}
use Rattle.codec_payload_datagram_runs.specs.declared.run.DatagramStep.{DatagramStep}
use Rattle.codec_payload_datagram_runs.specs.declared.run.DatagramStep.TheVariants as steps
use Rattle.codec_payload_sending_history.specs.Histories.{IsRetransmission}
use Rattle.codec_payload_sending_history.specs.declared.retransmission.RetransmissionStream.{RetransmissionStream}
use Rattle.codec_payload_jitter.specs.Receiving.{ReceivesAgain}
use Rattle.codec_payload_datagrams.specs.Kinds.{AgainInRed}
use Rattle.codec_payload_receiver.specs.Sessions.{TakesAgain, TakesPrimaryAgain, packet_seen, told_of_red}
use Rattle.codec_payload_datagram_runs.proofs.Courses.{IsCopy}
use Rattle.codec_payload_datagram_runs.proofs.RedAgainLemmas.{carrier_again, red_again_is}
use Rattle.codec_payload_datagram_runs.proofs.RedReceivingLemmas.{FirstAfter, IsFed, RedSide, Steady, TakesOwn, Timely, Tuned, fed_then, heard_at_once, hears_red, own_primary, primary_fed, primary_is, recovered_unless, time_of, timely_after, timely_at, timely_same, writer_at}
use Rattle.codec_payload_datagram_runs.specs.RedHistoryReleases.{AreHeardInRed, HearsRedAgain}

module _ (l : RedSide) where
  abbrev stream : Outgoing
  stream = l.stream

  abbrev w : Writer
  w = l.writer

  abbrev packets : List Packet
  packets = packets_of l.c.units

  abbrev first : ℕ
  first = l.c.first

  abbrev numbered : AreNumbered l.c.first (packets_of l.c.units)
  numbered = l.c.numbered

  abbrev kinds : Kinds
  kinds = l.kinds

  abbrev received : List DatagramStep
  received = l.received

  abbrev backward : ℕ
  backward = l.backward

  abbrev Known : ℕ → Packet → RtpMeta → Type 0
  Known = l.c.known

  -- a datagram or a retransmission of it is received: its packet, and then its blocks
  pub record HearsRed (k : ℕ) (now : Ticks) (q : Packet) (s t : Session) (receipt : Receipt) : Type 0 where
    pub outcome : Outcome
    pub whole : Bool
    pub mid : Receiving
    pub end : Holding
    pub primary : TakesOwn l (is_repeat kinds s.seen s.packets q.rtp_time (q.number % 2 ^ 16)) now q s.packets outcome mid
    pub skips : Bool
    pub skips_is : (skips ≡ is_suspect outcome) ⊎ (skips ≡ false)
    pub blocks : RecoversUnless skips whole (all_carried kinds now (carrier_at l.red.receiver stream (writer_at l k) q))
        (record { packets = mid; seen = packet_seen true outcome q.rtp_time s.seen }) end
    pub answer : receipt ≡ told_of_red whole outcome
    pub packets_is : t.packets ≡ end.packets
    pub seen_is : t.seen ≡ end.seen
    pub kinds_is : t.stream ≡ s.stream
    pub named_is : t.named ≡ s.named
    pub ssrc_is : t.ssrc ≡ Some stream.ssrc
    pub drops_is : t.gates.drops ≡ s.gates.drops

  heard_red : (k : ℕ) (now : Ticks) (bytes : List ℕ) (q : Packet) (after : Writer) (s t : Session) (receipt : Receipt) → Tuned l s → slice_get packets k ≡ Some q
      → IsInRed (writer_at l k) (packet_at stream q) bytes after → DeliversWhole now bytes s receipt t → HearsRed k now q s t receipt
  heard_red k now bytes q after s t receipt tuned there in_red delivers =
      let hears = hears_red l k now bytes q after s t receipt tuned there in_red delivers in
      let c : Carrier = carrier_at l.red.receiver stream (writer_at l k) q in
      let repeats : Bool = is_repeat kinds s.seen s.packets q.rtp_time (q.number % 2 ^ 16) in
      let own : is_own_media kinds c ≡ true = own_primary l k q in
      let takes = hears.takes in
      let mid : Receiving = takes.0 in
      let end : Holding = record { packets = hears.packets; seen = hears.seen } in
      let primary : TakesPrimary kinds now c s.seen s.packets hears.outcome mid = subst (λ (x : Kinds). TakesPrimary x now c s.seen s.packets hears.outcome mid) tuned.kinds_are takes.1 in
      let others : RecoversUnless (is_suspect hears.outcome) hears.whole (all_carried kinds now c)
      (record { packets = mid; seen = primary_seen (is_own_media kinds c) hears.outcome c.header.timestamp (has_restarted s.packets mid) s.seen }) end =
      subst (λ (x : Kinds). RecoversUnless (is_suspect hears.outcome) hears.whole (all_carried x now c)
      (record { packets = mid; seen = primary_seen (is_own_media x c) hears.outcome c.header.timestamp (has_restarted s.packets mid) s.seen }) end) tuned.kinds_are takes.2 in
      record {
        outcome = hears.outcome;
        whole = hears.whole;
        mid = mid;
        end = end;
        primary = direct repeats s.packets mid hears.outcome (subst (λ (b : Bool). TakesPrimaryIf (b && not repeats) kinds now c s.packets hears.outcome mid) own primary);
        skips = is_suspect hears.outcome;
        skips_is = inl refl;
        blocks = subst (λ (b : Bool). RecoversUnless (is_suspect hears.outcome) hears.whole (all_carried kinds now c)
            (record { packets = mid; seen = primary_seen b hears.outcome c.header.timestamp (has_restarted s.packets mid) s.seen }) end) own others;
        answer = hears.answers;
        packets_is = ap (λ (x : Session). x.packets) hears.left;
        seen_is = ap (λ (x : Session). x.seen) hears.left;
        kinds_is = ap (λ (x : Session). x.stream) hears.left;
        named_is = ap (λ (x : Session). x.named) hears.left;
        ssrc_is = ap (λ (x : Session). x.ssrc) hears.left;
        drops_is = ap (λ (x : Session). x.gates.drops) hears.left;
      }
    where
      direct : (repeats : Bool) (r m : Receiving) (outcome : Outcome) → TakesPrimaryIf (not repeats) kinds now (carrier_at l.red.receiver stream (writer_at l k) q) r outcome m
          → TakesOwn l repeats now q r outcome m
      direct true r m outcome takes = takes
      direct false r m outcome takes =
          inl (subst (λ (a : Arrival). Receives a r outcome m) (primary_is l w.red_type now q (carrier_at l.red.receiver stream (writer_at l k) q) refl refl) takes)

  heard_red_again : (again : RetransmissionStream) (next k : ℕ) (now : Ticks) (datagram bytes : List ℕ) (q : Packet) (after : Writer) (s t : Session) (receipt : Receipt) → HearsRedAgain again kinds
      → Tuned l s → slice_get packets k ≡ Some q → IsInRed (writer_at l k) (packet_at stream q) datagram after → IsRetransmission again next datagram bytes → DeliversWhole now bytes s receipt t
      → HearsRed k now q s t receipt
  heard_red_again again next k now datagram bytes q after s t receipt reads tuned there in_red repeats_it delivers =
      let sent : List Entry = all_remembered packets in
      let here : slice_get sent k ≡ Some (remembered q) = slice_get-map remembered packets k ∙ ap (λ o. option_map remembered o) there in
      let room : length q.payload < w.budget = fits_at w.budget sent k (remembered q) l.given.each_fits here in
      let accepted : is_accepted (sender_at w.red sent k).distances ≡ true = ap is_accepted (same_distances w.red (take k sent)) ∙ l.given.accepted in
      let c : Carrier = carrier_again again l.red.receiver stream (writer_at l k) q in
      let is : datagram_at s.stream s.ssrc bytes ≡ AgainInRed c =
      ap (λ (x : Kinds). datagram_at x s.ssrc bytes) tuned.kinds_are
      ∙ red_again_is kinds s.ssrc stream l.red (writer_at l k) q datagram bytes after again next l.is_red.used reads accepted room tuned.ssrc in_red repeats_it in
      let hears : Hears now (AgainInRed c) s receipt t =
      subst (λ (d : Datagram). Hears now d s receipt t) is (heard now (datagram_at s.stream s.ssrc bytes) s t receipt delivers.1.0 (heard_at_once l now bytes s t receipt tuned delivers)) in
      let repeats : Bool = is_repeat kinds s.seen s.packets q.rtp_time (q.number % 2 ^ 16) in
      let own : is_own_media kinds c ≡ true = own_primary l k q in
      let takes = hears.takes in
      let mid : Receiving = takes.0 in
      let end : Holding = record { packets = hears.packets; seen = hears.seen } in
      let primary : TakesPrimaryAgain (is_own_media kinds c) kinds now c s.seen s.packets hears.outcome mid =
      subst (λ (x : Kinds). TakesPrimaryAgain (is_own_media x c) x now c s.seen s.packets hears.outcome mid) tuned.kinds_are takes.1 in
      let others : RecoversAll hears.whole (all_carried kinds now c)
      (record { packets = mid; seen = primary_seen (is_own_media kinds c) hears.outcome c.header.timestamp (has_restarted s.packets mid) s.seen }) end =
      subst (λ (x : Kinds). RecoversAll hears.whole (all_carried x now c)
      (record { packets = mid; seen = primary_seen (is_own_media x c) hears.outcome c.header.timestamp (has_restarted s.packets mid) s.seen }) end) tuned.kinds_are takes.2 in
      record {
        outcome = hears.outcome;
        whole = hears.whole;
        mid = mid;
        end = end;
        primary = once_more repeats s.packets mid hears.outcome (subst (λ (b : Bool). TakesPrimaryAgain b kinds now c s.seen s.packets hears.outcome mid) own primary);
        skips = false;
        skips_is = inr refl;
        blocks = subst (λ (b : Bool). RecoversAll hears.whole (all_carried kinds now c)
            (record { packets = mid; seen = primary_seen b hears.outcome c.header.timestamp (has_restarted s.packets mid) s.seen }) end) own others;
        answer = hears.answers;
        packets_is = ap (λ (x : Session). x.packets) hears.left;
        seen_is = ap (λ (x : Session). x.seen) hears.left;
        kinds_is = ap (λ (x : Session). x.stream) hears.left;
        named_is = ap (λ (x : Session). x.named) hears.left;
        ssrc_is = ap (λ (x : Session). x.ssrc) hears.left ∙ tuned.ssrc;
        drops_is = ap (λ (x : Session). x.gates.drops) hears.left;
      }
    where
      once_more : (repeats : Bool) (r m : Receiving) (outcome : Outcome)
          → TakesAgain repeats (record { now = now; header = header_for kinds (carrier_again again l.red.receiver stream (writer_at l k) q).header; bytes = (carrier_again again l.red.receiver stream (writer_at l k) q).primary.payload }) r outcome m
          → TakesOwn l repeats now q r outcome m
      once_more true r m outcome takes = takes
      once_more false r m outcome takes =
          inr (subst (λ (a : Arrival). ReceivesAgain a r outcome m) (primary_is l again.payload_type now q (carrier_again again l.red.receiver stream (writer_at l k) q) refl refl) takes)

  pub heard_copy : (again : Option RetransmissionStream) (k : ℕ) (now : Ticks) (datagram bytes : List ℕ) (q : Packet) (after : Writer) (s t : Session) (receipt : Receipt) → AreHeardInRed again kinds
      → Tuned l s → slice_get packets k ≡ Some q → IsInRed (writer_at l k) (packet_at stream q) datagram after → IsCopy again datagram bytes → DeliversWhole now bytes s receipt t
      → HearsRed k now q s t receipt
  heard_copy again k now datagram bytes q after s t receipt reads tuned there in_red (inl same) delivers =
      heard_red k now bytes q after s t receipt tuned there (subst (λ (b : List ℕ). IsInRed (writer_at l k) (packet_at stream q) b after) (sym same) in_red) delivers
  heard_copy None k now datagram bytes q after s t receipt reads tuned there in_red (inr again) delivers =
      heard_red k now bytes q after s t receipt tuned there (subst (λ (b : List ℕ). IsInRed (writer_at l k) (packet_at stream q) b after) (sym again.1) in_red) delivers
  heard_copy (Some x) k now datagram bytes q after s t receipt reads tuned there in_red (inr again) delivers =
      heard_red_again x again.0 k now datagram bytes q after s t receipt reads tuned there in_red again.1 delivers

  -- the effect of a delivery
  pub record IsDelivered (k : ℕ) (now : Ticks) (s t : Session) : Type 0 where
    pub fed : IsFed l now s.packets t.packets
    pub numbering : t.packets.numbering ≡ numbering_after s.packets.numbering ((first + k) % 2 ^ 16)
    pub tuned : Tuned l t
    pub timely : (ks : List ℕ) → Timely l s (k ∷ ks) → Timely l t ks

  pub deliver_fed : (k : ℕ) (now : Ticks) (datagram bytes : List ℕ) (s t : Session) (receipt : Receipt) → Tuned l s → Contains received (steps.Deliver k now) → slice_get l.written k ≡ Some datagram
      → IsCopy l.again datagram bytes → answer_for s.packets.numbering ((first + k) % 2 ^ 16) ≡ extended.Number (first + k) → (later : List ℕ) → Timely l s (k ∷ later)
      → DeliversWhole now bytes s receipt t → IsDelivered k now s t
  deliver_fed k now datagram bytes s t receipt tuned inside there copy answer later in_time delivers =
      let is = l.each k datagram there in
      let q : Packet = is.packet in
      let in_red : IsInRed (writer_at l k) (packet_at stream q) datagram is.after = subst (λ (x : Writer). IsInRed x (packet_at stream q) datagram is.after) is.before_is is.in_red in
      let hears = heard_copy l.again k now datagram bytes q is.after s t receipt l.heard tuned is.there in_red copy delivers in
      let number : q.number ≡ first + k = number_at packets first k q numbered is.there in
      let answer_q : answer_for s.packets.numbering (q.number % 2 ^ 16) ≡ extended.Number q.number = subst (λ (n : ℕ). answer_for s.packets.numbering (n % 2 ^ 16) ≡ extended.Number n) (sym number) answer in
      let mid : Receiving = hears.mid in
      let repeats : Bool = is_repeat kinds s.seen s.packets q.rtp_time (q.number % 2 ^ 16) in
      let one = primary_fed l repeats k now q s.packets mid hears.outcome is.there inside tuned.steady answer_q (timely_at l k later q s tuned is.there number in_time) hears.primary in
      let numbering : mid.numbering ≡ numbering_after s.packets.numbering ((first + k) % 2 ^ 16) = one.1 ∙ ap (λ (n : ℕ). numbering_after s.packets.numbering (n % 2 ^ 16)) number in
      let past : IsPast (first + k) backward mid.numbering =
      subst (IsPast (first + k) backward) (sym numbering) (subst (λ (b : ℕ). IsPast (first + k) b (numbering_after s.packets.numbering ((first + k) % 2 ^ 16))) tuned.steady.backward_is
      (past_number s.packets.numbering ((first + k) % 2 ^ 16) (first + k) answer)) in
      let holding : Holding = record { packets = mid; seen = packet_seen true hears.outcome q.rtp_time s.seen } in
      let blocks = blocks_are stream packets w first k now kinds l.red.receiver q l.given is.there number in
      let stored = recovered_unless l hears.skips hears.whole (all_carried kinds now (carrier_at l.red.receiver stream (writer_at l k) q)) k now holding hears.end inside blocks past one.0.steady hears.blocks in
      let all : IsFed l now s.packets hears.end.packets = fed_then l now s.packets mid hears.end.packets one.0 stored.fed in
      let new : HasNoBlock s.seen → not repeats ≡ true = λ none.
      let fresh : repeats ≡ false =
      ap (λ (x : Kinds). is_repeat x s.seen s.packets q.rtp_time (q.number % 2 ^ 16)) (sym tuned.kinds_are) ∙ not_repeated s q.rtp_time (q.number % 2 ^ 16) none in
      ap not fresh in
      let stamped : (record { number = q.number; time = q.rtp_time }) ≡ stamp first packets k =
      ap (λ (n : ℕ). record { number = n; time = q.rtp_time }) number ∙ ap (λ (n : ℕ). record { number = first + k; time = n }) (time_at packets k q is.there) in
      let first_is : t.packets.first ≡ mid.first = ap (λ (x : Receiving). x.first) hears.packets_is ∙ stored.first in
      record {
        timely = λ ks in_time_so.
            let some : (not repeats ≡ true) ⊎ (is_some s.packets.first ≡ true) = elim in_time_so.0 [ inl none ↦ inl (new none) | inr has ↦ inr has ] in
            let here = timely_after l (not repeats) k ks s.packets.first mid.first some in_time_so.1
            (subst (λ (x : NotedTime). FirstAfter l (not repeats) x s.packets.first mid.first) stamped one.2) in (
              inr (ap is_some first_is ∙ here.0),
              subst (λ (o : Option NotedTime). StayTimely stream.clock_rate first packets o ks) (sym first_is) here.1,
            );
        fed = subst (IsFed l now s.packets) (sym hears.packets_is) all;
        numbering = ap (λ (x : Receiving). x.numbering) hears.packets_is ∙ (stored.numbering ∙ numbering);
        tuned = record {
          kinds_are = hears.kinds_is ∙ tuned.kinds_are;
          named = hears.named_is ∙ tuned.named;
          ssrc = hears.ssrc_is;
          drops_none = hears.drops_is ∙ tuned.drops_none;
          steady = subst (Steady l) (sym hears.packets_is) all.steady;
        };
      }

  -- the effect of a pop
  pub record IsPoppedOnce (now : Ticks) (answer : Answer) (s t : Session) : Type 0 where
    pub up : State
    pub up_is : up ≡ (settled s.packets).buffer
    pub raised_to : IsRaised s.packets.buffer up
    pub no_media : t.packets.no_media_numbers ≡ (settled s.packets).no_media_numbers
    pub wait : Option ℕ
    pub wait_is : wait ≡ waiting_at (settled s.packets) now.0
    pub pops : PopsWaiting wait up answer t.packets.buffer
    pub numbering : t.packets.numbering ≡ s.packets.numbering
    pub ended : t.packets.ended ≡ s.packets.ended
    pub limits : KeepsLimits s.packets t.packets
    pub seen : t.seen ≡ s.seen
    pub tuned : Tuned l t
    pub timely : (ks : List ℕ) → Timely l s ks → Timely l t ks

  pub pop_once : (now : Ticks) (answer : Answer) (s t : Session) → Tuned l s → answer ≢ Some (Err faults.OutOfMemory) → PopsUnit now s answer t → IsPoppedOnce now answer s t
  pop_once now answer s t tuned not_memory gated =
      let popped : PopsOnce now.0 s answer t = pops_at_once now.0 s answer t tuned.drops_none gated in
      let r : Receiving = settled s.packets in
      let up = raised s.packets.buffer s.packets.no_media_numbers in
      let wait : Option ℕ = waiting_at r now.0 in
      let of_codec : is_built_in_depacketizer r.buffer.depacketizer ≡ true = ap (λ (x : State). is_built_in_depacketizer x.depacketizer) up.is ∙ tuned.steady.of_codec in
      let turn = turn_of wait r answer popped.packets of_codec not_memory popped.pops in
      let packets_is : t.packets ≡ popped.packets = ap (λ (x : Session). x.packets) popped.left in
      record {
        up = r.buffer;
        up_is = refl;
        raised_to = up;
        no_media = ap (λ (x : Receiving). x.no_media_numbers) packets_is ∙ turn.no_media_numbers;
        wait = wait;
        wait_is = refl;
        pops = subst (λ (x : Receiving). PopsWaiting wait r.buffer answer x.buffer) (sym packets_is) turn.pops;
        numbering = ap (λ (x : Receiving). x.numbering) packets_is ∙ turn.numbering;
        ended = ap (λ (x : Receiving). x.ended) packets_is ∙ turn.ended;
        seen = ap (λ (x : Session). x.seen) popped.left;
        limits = record {
          wait_limits = ap (λ (x : Receiving). x.wait_limits) packets_is ∙ turn.limits.wait_limits;
          room = ap (λ (x : Receiving). x.room) packets_is ∙ turn.limits.room;
        };
        timely = λ ks. timely_same l ks s t (ap (λ (x : Session). x.seen) popped.left) (ap (λ (x : Receiving). x.first) packets_is ∙ turn.first);
        tuned = record {
          kinds_are = ap (λ (x : Session). x.stream) popped.left ∙ tuned.kinds_are;
          named = ap (λ (x : Session). x.named) popped.left ∙ tuned.named;
          ssrc = ap (λ (x : Session). x.ssrc) popped.left ∙ tuned.ssrc;
          drops_none = ap (λ (x : Session). x.gates.drops) popped.left ∙ (drops_stay _ s.gates _ answer popped.references ∙ tuned.drops_none);
          steady = record {
            rate = ap (λ (x : Receiving). x.rate) packets_is ∙ (turn.rate ∙ tuned.steady.rate);
            running = ap (λ (x : Receiving). x.is_restarting) packets_is ∙ (turn.is_restarting ∙ tuned.steady.running);
            of_codec = ap (λ (x : Receiving). is_built_in_depacketizer x.buffer.depacketizer) packets_is ∙ turn.of_codec;
            forward_is = ap (λ (x : Receiving). x.numbering.forward) packets_is ∙ (ap (λ (x : Numbering). x.forward) turn.numbering ∙ tuned.steady.forward_is);
            backward_is = ap (λ (x : Receiving). x.numbering.backward) packets_is ∙ (ap (λ (x : Numbering). x.backward) turn.numbering ∙ tuned.steady.backward_is);
            times = subst (AreTimesOf (time_of l)) (sym (ap (λ (x : Receiving). x.noted) packets_is ∙ turn.noted)) tuned.steady.times;
          };
        };
      }

  -- at the end of the stream no packet waits for the choice
  pub finish_is : (s t : Session) → Tuned l s → Ends s t → t ≡ ended s
  finish_is s t tuned finishes =
      let none : first_waiting s ≡ None = ap (λ (o : Option ℕ). cond (is_none_of o) (slice_get s.choice.candidates 0) None) tuned.ssrc in
      let stays : SettlesOn None true s finishes.0 = subst (λ (o : Option Candidate). SettlesOn o true s finishes.0) none finishes.1 in
      finishes.2 ∙ ap ended stays.1

  pub tuned_ended : (s : Session) → Tuned l s → Tuned l (ended s)
  tuned_ended s tuned = record {
    kinds_are = tuned.kinds_are;
    named = tuned.named;
    ssrc = tuned.ssrc;
    drops_none = tuned.drops_none;
    steady = record {
      rate = tuned.steady.rate;
      running = refl;
      of_codec = tuned.steady.of_codec;
      forward_is = tuned.steady.forward_is;
      backward_is = tuned.steady.backward_is;
      times = tuned.steady.times;
    };
  }

  -- the steps of the receiver are a course of its buffer
  pub red_course : (later : List DatagramStep) (s t : Session) (answers : List Answer) → Tuned l s → AllNumbered first s.packets.numbering (delivered later) → Timely l s (delivered later)
      → ((step : DatagramStep) → IsIn step later → IsIn step received) → RedTakes l.again later l.written s answers t
      → Course Known packets later s.packets.buffer answers t.packets.buffer
  red_course [] s t answers tuned numbers in_time inside takes = (takes.0, ap (λ (x : Session). x.packets.buffer) takes.1)
  red_course (steps.Send i ∷ later) s t answers tuned numbers in_time inside takes = red_course later s t answers tuned numbers in_time (λ step is. inside step (inr is)) takes
  red_course (steps.Deliver k now ∷ later) s t answers tuned numbers in_time inside takes =
      let mid : Session = takes.5 in
      let there : Contains received (steps.Deliver k now) = contains_in (steps.Deliver k now) received (inside (steps.Deliver k now) (inl refl)) in
      let one = deliver_fed k now takes.0 takes.2 s mid takes.4 tuned there takes.1 takes.3 numbers.0 (delivered later) in_time takes.6 in
      let rest = red_course later mid t answers one.tuned (subst (λ (n : Numbering). AllNumbered first n (delivered later)) (sym one.numbering) numbers.1) (one.timely (delivered later) in_time) (λ step is. inside step (inr is)) takes.7 in
      (one.fed.ps, mid.packets.buffer, one.fed.feeds, rest)
  red_course (steps.Pop now ∷ later) s t answers tuned numbers in_time inside takes =
      let mid : Session = takes.2 in
      let one = pop_once now takes.0 s mid tuned takes.4 takes.5 in
      let rest = red_course later mid t takes.1 one.tuned (subst (λ (n : Numbering). AllNumbered first n (delivered later)) (sym one.numbering) numbers) (one.timely (delivered later) in_time) (λ step is. inside step (inr is)) takes.6 in
      (takes.0, takes.1, one.up, one.wait, mid.packets.buffer, takes.3, one.raised_to, one.pops, rest)
  red_course (steps.Finish ∷ later) s t answers tuned numbers in_time inside takes =
      let at_end : takes.0 ≡ ended s = finish_is s takes.0 tuned takes.1 in
      red_course later (ended s) t answers (tuned_ended s tuned) numbers in_time (λ step is. inside step (inr is)) (subst (λ (x : Session). RedTakes l.again later l.written x answers t) at_end takes.2)
