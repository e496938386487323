-- A delivery in RED pushes exactly the packets that its datagram brings, if the packets that the receiver remembers are within a turn of
-- the RTP clock.
use Rattle.std.proofs.Common.{◌≡◌, ◌∙◌, refl, sym, ap, subst, ℕ, ◌+◌, ◌-◌, ◌*◌, ◌%◌, ◌^◌, ◌<◌, ◌≤◌, inl, inr, ◌&&◌, ◌||◌, List, [], ◌∷◌, ◌++◌}
use Rattle.std.proofs.Common.{Bool, true, false, not, cond, eqb, ltb, leb, Option, Some, None, length, arith}
use Rattle.std.specs.Prelude.{Contains, slice_get}
use Rattle.std.specs.Option.{is_some}
use Rattle.std.proofs.Math.Nat.{mul-le-mul_left}
use Rattle.std.proofs.lemmas.Bool.{cases_lt, eq-eqb, le-ltb, lt-leb}
use Rattle.codec_payload_base.specs.declared.wire.Ticks.{Ticks}
use Rattle.codec_payload_buffer.proofs.MemberLemmas.{IsIn}
use Rattle.codec_payload_buffer.specs.Held.{Held, has_number, number_of}
use Rattle.codec_payload_buffer.specs.Steps.{State, arrived, is_at_most, is_dropped, pushed}
use Rattle.codec_payload_buffer.specs.Stretches.{after_pushes}
use Rattle.codec_payload_codec.specs.Depacketizers.{DepacketizerState}
use Rattle.codec_payload_jitter.specs.NoMediaNumbers.{is_in}
use Rattle.codec_payload_numbers.specs.Numbers.{Numbering, ahead, answer_by, answer_for, behind, fitting, follows_suspect, is_restarting, number_within, numbering_after}
use Rattle.codec_payload_jitter.proofs.RestartLemmas.{again_without_former}
use Rattle.codec_payload_jitter.specs.Receiving.{Arrival, Receiving, RecoversAs, RecoversIf}
use Rattle.codec_payload_jitter.specs.Receiving.{is_stored, may_recover, meta_for, number_again_for, outcome_at, would_store}
use Rattle.codec_payload_numbers.specs.declared.numbers.Extended.TheVariants as extended
use Rattle.codec_payload_jitter.specs.declared.outcome.Outcome.TheVariants as outcomes
use Rattle.codec_payload_red.specs.RedLevels.{Entry}
use Rattle.codec_payload_red.specs.RedRun.{IsKeptIn}
use Rattle.codec_payload_buffer_runs.proofs.order.SafetyLemmas.{number_at}
use Rattle.codec_payload_buffer_runs.proofs.order.TurnLemmas.{Beyond}
use Rattle.codec_payload_buffer_runs.proofs.units.BuiltInRuns.{push_keeps}
use Rattle.codec_payload_buffer_runs.specs.RedSchedule.{all_remembered}
use Rattle.codec_payload_buffer_runs.specs.SentStream.{packets_of}
use Rattle.codec_payload_payloader.specs.Packets.{Packet}
use Rattle.codec_payload_numbers.specs.SeenTimes.{Seen, has_block, is_seen, seen_with}
use Rattle.codec_payload_receiver.specs.Sessions.{Holding, RecoversAll, RecoversUnseen, Session, block_seen, is_repeat}
use Rattle.codec_payload_datagram_runs.proofs.Courses.{IsCopy}
use Rattle.codec_payload_datagram_runs.proofs.RedNumberLemmas.{IsPast}
use Rattle.codec_payload_datagram_runs.proofs.RedCourses.{beyond_fed}
use Rattle.codec_payload_datagram_runs.proofs.RedExactLemmas.{and_no, block_answer, block_is_seen, number_again_is, or_later, would_not}
use Rattle.codec_payload_datagram_runs.proofs.ReceivingLemmas.{KeepsLimits, keeps_then}
use Rattle.codec_payload_datagram_runs.proofs.RedPartLemmas.{parts}
use Rattle.codec_payload_datagram_runs.proofs.RedReadingLemmas.{AreBlocks, IsBlock, kept_carried, kept_earlier}
use Rattle.codec_payload_datagram_runs.proofs.RedReceivingLemmas.{IsDeliveryBy, RedSide, Steady, StoresBlocks, Timely, Tuned, block_delivery}
use Rattle.codec_payload_datagram_runs.proofs.RedReceivingLemmas.{one_recovered, own_delivery, own_header, pushes_block, stores_none, stores_then}
use Rattle.codec_payload_datagram_runs.proofs.RedSeenLemmas.{IsOfPushed, IsOlder, IsRing, distinct, dropped_after, found_older, grow_older, most, older_kept, push_drops, pushed_again, ring_with}
use Rattle.codec_payload_datagram_runs.specs.RedLogs.{IsBroughtBy}
use Rattle.codec_payload_datagram_runs.specs.RedRuns.{DeliversWhole}
use Rattle.codec_payload_datagram_runs.specs.WireRuns.{Receipt}
use Rattle.codec_payload_datagram_runs.specs.declared.run.DatagramStep.TheVariants as steps

-- Outcomes and numbers

-- a packet that would not be stored is late or held
not_stored_dropped : (s : State) (n : ℕ) → is_stored (outcome_at s n) ≡ false → is_dropped s n ≡ true
not_stored_dropped s n not_stored = by_tests (is_at_most s.cutoff n) (has_number n s.held) (ltb (length s.held) s.limit) not_stored
  where
    by_tests : (a b d : Bool) → is_stored (cond a outcomes.Late (cond b outcomes.Duplicate (cond d outcomes.Held outcomes.HeldAndEvicted))) ≡ false → a || b ≡ true
    by_tests true b d h = refl
    by_tests false true d h = refl
    by_tests false false true h = absurd (cc)
    by_tests false false false h = absurd (cc)

-- a number further back than the window
block_outside : (s : Numbering) (g i : ℕ) → s.greatest ≡ Some g → i < g → g ≤ i + s.backward + 8 → i + s.backward < g → s.forward + s.backward + 8 ≤ 65536 → 0 < s.forward
    → number_within (answer_for s (i % 65536)) ≡ None
block_outside s g i at less near far apart some =
    let up : ahead g (i % 65536) ≡ 65536 + i - g = ahead_under g i less (omega (arith, near, apart, some)) in
    let down : behind g (i % 65536) ≡ g - i = behind_under g i less (omega (arith, near, apart, some)) in
    let not_ahead : ltb (ahead g (i % 65536)) s.forward ≡ false = le-ltb (ahead g (i % 65536)) s.forward (omega (arith, up, near, apart)) in
    let not_within : leb (behind g (i % 65536)) s.backward ≡ false = lt-leb (behind g (i % 65536)) s.backward (omega (arith, down, far)) in
    ap (λ (o : Option ℕ). number_within (answer_by s o (i % 65536))) at ∙ rw (not_ahead, not_within) (no_number (follows_suspect s.suspect (i % 65536)) (is_restarting g (i % 65536)))
  where
    ahead_under : (g i : ℕ) → i < g → g < i + 65536 → ahead g (i % 65536) ≡ 65536 + i - g
    ahead_under g i less near = omega arith

    behind_under : (g i : ℕ) → i < g → g < i + 65536 → behind g (i % 65536) ≡ g - i
    behind_under g i less near = omega arith

    by_fit : (b : Bool) (v : ℕ) → number_within (cond b (extended.Restarted v) extended.Spent) ≡ None
    by_fit true v = refl
    by_fit false v = refl

    no_number : (f : Bool) (v : ℕ) → number_within (cond f (fitting extended.Restarted v) extended.Suspect) ≡ None
    no_number true v = by_fit (ltb v (2 ^ 64)) v
    no_number false v = refl

-- pushes do not change the depacketizer
pub pushes_keep : (s : State) (ps : List Held) → (after_pushes s ps).depacketizer ≡ s.depacketizer
pushes_keep s [] = refl
pushes_keep s (p ∷ ps) = pushes_keep (pushed s p) ps ∙ push_keeps s p

pub after_both : (s : State) (ps qs : List Held) → after_pushes s (ps ++ qs) ≡ after_pushes (after_pushes s ps) qs
after_both s [] qs = refl
after_both s (p ∷ ps) qs = after_both (pushed s p) ps qs

has_left : (n : ℕ) (ps qs : List Held) → has_number n ps ≡ true → has_number n (ps ++ qs) ≡ true
has_left n [] qs h = absurd (cc)
has_left n (p ∷ ps) qs h = by_first (eqb (number_of p) n) (has_left n ps qs) h
  where
    by_first : (b : Bool) → (has_number n ps ≡ true → has_number n (ps ++ qs) ≡ true) → b || has_number n ps ≡ true → b || has_number n (ps ++ qs) ≡ true
    by_first true rest h = refl
    by_first false rest h = rest h

has_right : (n : ℕ) (ps qs : List Held) → has_number n qs ≡ true → has_number n (ps ++ qs) ≡ true
has_right n [] qs h = h
has_right n (p ∷ ps) qs h = or_later (eqb (number_of p) n) (has_number n (ps ++ qs)) (has_right n ps qs h)

has_itself : (p : Held) (qs : List Held) → has_number (number_of p) (p ∷ qs) ≡ true
has_itself p qs = ap (λ (b : Bool). b || has_number (number_of p) qs) (eq-eqb (number_of p) (number_of p) refl)

module _ (l : RedSide) (jump : ℕ) (turn : most l jump * l.red.receiver.step ≤ 2 ^ 32) where
  abbrev packets : List Packet
  packets = packets_of l.c.units

  abbrev first : ℕ
  first = l.c.first

  -- the push of a packet that the datagram `carrier` brings
  pub record IsBroughtPush (highest carrier : ℕ) (now : Ticks) (d : DepacketizerState) (p : Held) : Type 0 where
    pub index : ℕ
    pub packet : Packet
    pub there : slice_get packets index ≡ Some packet
    pub brought : IsBroughtBy l.writer l.datagrams l.backward highest carrier index
    pub known : IsDeliveryBy l carrier index packet p.meta
    pub received : p.meta.received ≡ now
    pub held : p ≡ arrived d p.meta packet.payload

  abbrev pub AreBrought : (highest carrier : ℕ) → Ticks → DepacketizerState → List Held → Type 0
  AreBrought highest carrier now d [] = Unit {0}
  AreBrought highest carrier now d (p ∷ ps) = IsBroughtPush highest carrier now d p × AreBrought highest carrier now d ps

  pub brought_in : (highest carrier : ℕ) (now : Ticks) (d : DepacketizerState) (ps : List Held) (p : Held) → AreBrought highest carrier now d ps → IsIn p ps → IsBroughtPush highest carrier now d p
  brought_in highest carrier now d [] p brought is = absurd is
  brought_in highest carrier now d (q ∷ ps) p brought (inl same) = subst (IsBroughtPush highest carrier now d) (sym same) brought.0
  brought_in highest carrier now d (q ∷ ps) p brought (inr later) = brought_in highest carrier now d ps p brought.1 later

  brought_both : (highest carrier : ℕ) (now : Ticks) (d : DepacketizerState) (ps qs : List Held) → AreBrought highest carrier now d ps → AreBrought highest carrier now d qs
      → AreBrought highest carrier now d (ps ++ qs)
  brought_both highest carrier now d [] qs one two = two
  brought_both highest carrier now d (p ∷ ps) qs one two = (one.0, brought_both highest carrier now d ps qs one.1 two)

  -- Blocks

  -- after the packet k the highest index is this one
  pub record IsHighest (highest k : ℕ) (n : Numbering) : Type 0 where
    pub is : n.greatest ≡ Some (first + highest)
    pub over : k ≤ highest
    pub near : highest ≤ k + l.backward

  past_of : (highest k : ℕ) (n : Numbering) → IsHighest highest k n → IsPast (first + k) l.backward n
  past_of highest k n at =
      let over = at.over in
      let near = at.near in
      record { greatest = first + highest; is = at.is; over = omega (arith, over); near = omega (arith, near) }

  -- the receiver before a block of packet k
  record IsBefore (highest k from : ℕ) (d : DepacketizerState) (x : Holding) : Type 0 where
    at : IsHighest highest k x.packets.numbering
    steady : Steady l x.packets
    no_media : x.packets.no_media_numbers ≡ []
    ring : IsRing l jump highest x.packets.buffer x.seen
    beyond : Beyond l.c from x.packets.buffer
    reads : x.packets.buffer.depacketizer ≡ d

  -- the block of packet i is pushed, if it is within the window
  record IsBlockPushed (highest k i from : ℕ) (now : Ticks) (d : DepacketizerState) (x y : Holding) : Type 0 where
    ps : List Held
    each : AreBrought highest k now d ps
    buffer : y.packets.buffer ≡ after_pushes x.packets.buffer ps
    has : highest ≤ i + l.backward → has_number (first + i) ps ≡ true
    stores : StoresBlocks l now x.packets y.packets
    ring : IsRing l jump highest y.packets.buffer y.seen

  abbrev pushed_as : Arrival → ℕ → Packet → DepacketizerState → Held
  pushed_as a n q d = arrived d (meta_for a.now l.stream.clock_rate a.header n) q.payload

  brought_block : (highest k : ℕ) (now : Ticks) (a : Arrival) (d : DepacketizerState) → Contains l.received (steps.Deliver k now) → (is : IsBlock packets l.writer first k now a)
      → highest ≤ is.index + l.backward → IsBroughtPush highest k now d (pushed_as a (first + is.index) is.packet d)
  brought_block highest k now a d inside is within = record {
    index = is.index;
    packet = is.packet;
    there = is.there;
    brought = (inr (subst (λ (es : List Entry). IsKeptIn l.writer.red l.writer.budget es is.index k) (sym l.entries) is.kept), within);
    known = block_delivery l k now a (first + is.index) inside is refl;
    received = is.at;
    held = refl;
  }

  -- its push changes nothing
  block_again : (highest k from : ℕ) (now : Ticks) (a : Arrival) (d : DepacketizerState) (x y : Holding) → Contains l.received (steps.Deliver k now) → (is : IsBlock packets l.writer first k now a)
      → IsBefore highest k from d x → highest ≤ is.index + l.backward → is_dropped x.packets.buffer (first + is.index) ≡ true → y ≡ x → IsBlockPushed highest k is.index from now d x y
  block_again highest k from now a d x y inside is before within dropped same =
      let p : Held = pushed_as a (first + is.index) is.packet d in
      record {
        ps = p ∷ [];
        each = (brought_block highest k now a d inside is within, tt);
        buffer = ap (λ (z : Holding). z.packets.buffer) same ∙ sym (pushed_again x.packets.buffer p dropped);
        has = λ so. has_itself p [];
        stores = stores_none l now x.packets y.packets (ap (λ (z : Holding). z.packets) same) before.steady;
        ring = subst (λ (z : Holding). IsRing l jump highest z.packets.buffer z.seen) (sym same) before.ring;
      }

  -- it is stored
  block_stored : (went_in : Bool) (highest k from : ℕ) (now : Ticks) (a : Arrival) (d : DepacketizerState) (x y : Holding) → Contains l.received (steps.Deliver k now)
      → (is : IsBlock packets l.writer first k now a) → IsBefore highest k from d x → highest ≤ is.index + l.backward → StoresBlocks l now x.packets y.packets
      → RecoversIf true (first + is.index) a x.packets went_in y.packets → y.seen ≡ block_seen went_in a.header.timestamp x.seen → IsBlockPushed highest k is.index from now d x y
  block_stored went_in highest k from now a d x y inside is before within stores recovers seen_is =
      let p : Held = pushed_as a (first + is.index) is.packet d in
      let pushes = pushes_block l went_in k (first + is.index) now a x.packets y.packets is before.steady recovers in
      let held : pushes.held ≡ p = pushes.held_is ∙ ap (pushed_as a (first + is.index) is.packet) before.reads in
      let buffer : y.packets.buffer ≡ pushed x.packets.buffer p = pushes.buffer ∙ ap (pushed x.packets.buffer) held in
      let seen_now : y.seen ≡ seen_with (record { time = a.header.timestamp; is_block = true }) x.seen = seen_is ∙ ap (λ (b : Bool). block_seen b a.header.timestamp x.seen) recovers.3 in
      let still : (n : ℕ) → is_dropped x.packets.buffer n ≡ true → is_dropped y.packets.buffer n ≡ true =
      λ n dropped. subst (λ (s : State). is_dropped s n ≡ true) (sym buffer) (dropped_after x.packets.buffer p n before.beyond.beyond dropped) in
      let older = older_kept l jump highest x.packets.buffer y.packets.buffer x.seen still (grow_older l jump highest highest x.packets.buffer x.seen (omega arith) (omega arith) before.ring) in
      let below = is.below in
      let over = before.at.over in
      let one : IsOfPushed l jump highest 0 y.packets.buffer a.header.timestamp = record {
        index = is.index;
        packet = is.packet;
        there = is.there;
        time_is = sym is.time;
        below = omega (arith, below, over);
        near = omega (arith, within);
        dropped = subst (λ (s : State). is_dropped s (first + is.index) ≡ true) (sym buffer) (push_drops x.packets.buffer p before.beyond.beyond);
      } in
      record {
        ps = p ∷ [];
        each = (brought_block highest k now a d inside is within, tt);
        buffer = buffer;
        has = λ so. has_itself p [];
        stores = stores;
        ring = subst (IsRing l jump highest y.packets.buffer) (sym seen_now) (ring_with l jump highest y.packets.buffer x.seen (record { time = a.header.timestamp; is_block = true }) older one);
      }

  -- an earlier packet with its time is the packet itself
  seen_before : (highest k from : ℕ) (now : Ticks) (a : Arrival) (d : DepacketizerState) (x : Holding) → (is : IsBlock packets l.writer first k now a) → IsBefore highest k from d x
      → highest ≤ is.index + l.backward → is_seen a.header.timestamp x.seen.places ≡ true → is_dropped x.packets.buffer (first + is.index) ≡ true
  seen_before highest k from now a d x is before within seen_is =
      let older = grow_older l jump highest highest x.packets.buffer x.seen (omega arith) (omega arith) before.ring in
      let found = found_older l jump highest x.packets.buffer x.seen a.header.timestamp older seen_is in
      let one = found.1 in
      let old : jump * found.0 ≤ jump * 64 = mul-le-mul_left jump found.2 in
      let low = one.below in
      let near = one.near in
      let below = is.below in
      let over = before.at.over in
      let same : one.index ≡ is.index = distinct l jump turn one.index is.index one.packet is.packet one.there is.there (one.time_is ∙ is.time)
      (omega (arith, low, within)) (omega (arith, near, old, below, over)) in
      subst (λ (n : ℕ). is_dropped x.packets.buffer (first + n) ≡ true) same one.dropped

  block_new : (b went_in : Bool) (highest k from : ℕ) (now : Ticks) (a : Arrival) (d : DepacketizerState) (x y : Holding) → Contains l.received (steps.Deliver k now)
      → (is : IsBlock packets l.writer first k now a) → IsBefore highest k from d x → highest ≤ is.index + l.backward → StoresBlocks l now x.packets y.packets
      → is_stored (outcome_at x.packets.buffer (first + is.index)) ≡ b → RecoversIf b (first + is.index) a x.packets went_in y.packets
      → y.seen ≡ block_seen went_in a.header.timestamp x.seen → IsBlockPushed highest k is.index from now d x y
  block_new true went_in highest k from now a d x y inside is before within stores new recovers seen_is =
      block_stored went_in highest k from now a d x y inside is before within stores recovers seen_is
  block_new false went_in highest k from now a d x y inside is before within stores new recovers seen_is =
      let seen_same : y.seen ≡ x.seen = seen_is ∙ ap (λ (b : Bool). block_seen b a.header.timestamp x.seen) recovers.0 in
      let same : y ≡ x = ap (λ (r : Receiving). record { packets = r; seen = y.seen }) recovers.1 ∙ ap (λ (z : Seen). record { packets = x.packets; seen = z }) seen_same in
      block_again highest k from now a d x y inside is before within (not_stored_dropped x.packets.buffer (first + is.index) new) same

  block_near : (seen : Bool) (highest k from : ℕ) (now : Ticks) (a : Arrival) (d : DepacketizerState) (x y : Holding) → Contains l.received (steps.Deliver k now)
      → (is : IsBlock packets l.writer first k now a) → IsBefore highest k from d x → highest ≤ is.index + l.backward → StoresBlocks l now x.packets y.packets
      → is_seen a.header.timestamp x.seen.places ≡ seen → RecoversUnseen seen a x y → IsBlockPushed highest k is.index from now d x y
  block_near true highest k from now a d x y inside is before within stores seen_is same =
      block_again highest k from now a d x y inside is before within (seen_before highest k from now a d x is before within seen_is) same
  block_near false highest k from now a d x y inside is before within stores seen_is done =
      let r : Receiving = x.packets in
      let n : ℕ = first + is.index in
      let below = is.below in
      let over = before.at.over in
      let forward_is = before.steady.forward_is in
      let backward_is = before.steady.backward_is in
      let answer : answer_for r.numbering (n % 65536) ≡ extended.Number n =
      block_answer r.numbering (first + highest) n before.at.is (omega (arith, below, over)) (omega (arith, within, backward_is))
      (omega (arith, forward_is, backward_is, l.apart)) (omega (arith, forward_is, l.some)) in
      let answer_low : answer_for r.numbering a.header.sequence_number ≡ extended.Number n = ap (answer_for r.numbering) is.low ∙ answer in
      let number : number_again_for r a.header.sequence_number a.header.timestamp ≡ Some n =
      again_without_former r a.header.sequence_number a.header.timestamp before.steady.times.1 ∙ number_again_is r a.header.sequence_number n before.steady.running answer_low in
      let recovers : RecoversIf (may_recover r n) n a r done.0 y.packets = subst (λ (o : Option ℕ). RecoversAs o a r done.0 y.packets) number done.1 in
      let may : may_recover r n ≡ is_stored (outcome_at r.buffer n) =
      ap (λ (ns : List ℕ). is_stored (outcome_at r.buffer n) && not (is_in n ns)) before.no_media ∙ and_true (is_stored (outcome_at r.buffer n)) in
      block_new (is_stored (outcome_at r.buffer n)) done.0 highest k from now a d x y inside is before within stores refl
      (subst (λ (b : Bool). RecoversIf b n a r done.0 y.packets) may recovers) done.2
    where
      and_true : (b : Bool) → b && true ≡ b
      and_true true = refl
      and_true false = refl

  -- a block further back is not stored
  block_far : (seen : Bool) (highest k from : ℕ) (now : Ticks) (a : Arrival) (d : DepacketizerState) (x y : Holding) → (is : IsBlock packets l.writer first k now a)
      → IsBefore highest k from d x → is.index + l.backward < highest → RecoversUnseen seen a x y → y ≡ x
  block_far true highest k from now a d x y is before far same = same
  block_far false highest k from now a d x y is before far done =
      let r : Receiving = x.packets in
      let n : ℕ = first + is.index in
      let below = is.below in
      let near_block = is.near in
      let over = before.at.over in
      let near = before.at.near in
      let forward_is = before.steady.forward_is in
      let backward_is = before.steady.backward_is in
      let outside : number_within (answer_for r.numbering (n % 65536)) ≡ None =
      block_outside r.numbering (first + highest) n before.at.is (omega (arith, below, over)) (omega (arith, near, near_block, backward_is)) (omega (arith, far, backward_is))
      (omega (arith, forward_is, backward_is, l.apart)) (omega (arith, forward_is, l.some)) in
      let none : number_again_for r a.header.sequence_number a.header.timestamp ≡ None =
      again_without_former r a.header.sequence_number a.header.timestamp before.steady.times.1
      ∙ ap (λ (b : Bool). cond b None (number_within (answer_for r.numbering a.header.sequence_number))) before.steady.running
      ∙ (ap (λ (m : ℕ). number_within (answer_for r.numbering m)) is.low ∙ outside) in
      let recovers : RecoversAs None a r done.0 y.packets = subst (λ (o : Option ℕ). RecoversAs o a r done.0 y.packets) none done.1 in
      let seen_same : y.seen ≡ x.seen = done.2 ∙ ap (λ (b : Bool). block_seen b a.header.timestamp x.seen) recovers.0 in
      ap (λ (z : Receiving). record { packets = z; seen = y.seen }) recovers.1 ∙ ap (λ (z : Seen). record { packets = x.packets; seen = z }) seen_same

  one_block : (highest k from : ℕ) (now : Ticks) (a : Arrival) (d : DepacketizerState) (x y : Holding) → Contains l.received (steps.Deliver k now) → (is : IsBlock packets l.writer first k now a)
      → IsBefore highest k from d x → RecoversUnseen (is_seen a.header.timestamp x.seen.places) a x y → IsBlockPushed highest k is.index from now d x y
  one_block highest k from now a d x y inside is before done =
      let stores = one_recovered l (is_seen a.header.timestamp x.seen.places) k now a x y inside is (past_of highest k x.packets.numbering before.at) before.steady done in
      elim (cases_lt (is.index + l.backward) highest) [
        | inl far ↦
            let same = block_far (is_seen a.header.timestamp x.seen.places) highest k from now a d x y is before far done in
            record {
              ps = [];
              each = tt;
              buffer = ap (λ (z : Holding). z.packets.buffer) same;
              has = λ within. absurd (omega (arith, within, far));
              stores = stores;
              ring = subst (λ (z : Holding). IsRing l jump highest z.packets.buffer z.seen) (sym same) before.ring;
            }
        | inr within ↦ block_near (is_seen a.header.timestamp x.seen.places) highest k from now a d x y inside is before within stores refl done
      ]

  -- after a block
  before_next : (highest k i from : ℕ) (now : Ticks) (d : DepacketizerState) (x y : Holding) → IsBefore highest k from d x → IsBlockPushed highest k i from now d x y → IsBefore highest k from d y
  before_next highest k i from now d x y before done = record {
    at = subst (IsHighest highest k) (sym done.stores.numbering) before.at;
    steady = done.stores.fed.steady;
    no_media = done.stores.no_media ∙ before.no_media;
    ring = done.ring;
    beyond = beyond_fed l.c from now done.stores.fed.ps x.packets.buffer y.packets.buffer done.stores.fed.feeds before.beyond;
    reads = ap (λ (s : State). s.depacketizer) done.buffer ∙ (pushes_keep x.packets.buffer done.ps ∙ before.reads);
  }

  record AreBlocksPushed (highest k : ℕ) (now : Ticks) (d : DepacketizerState) (all : List Arrival) (x y : Holding) : Type 0 where
    ps : List Held
    each : AreBrought highest k now d ps
    buffer : y.packets.buffer ≡ after_pushes x.packets.buffer ps
    has : (a : Arrival) (j : ℕ) (q : Packet) → IsIn a all → slice_get packets j ≡ Some q → a.header.timestamp ≡ q.rtp_time → j < k → k ≤ j + 8 → highest ≤ j + l.backward
        → has_number (first + j) ps ≡ true
    stores : StoresBlocks l now x.packets y.packets
    ring : IsRing l jump highest y.packets.buffer y.seen

  all_blocks : (all : List Arrival) (highest k from : ℕ) (now : Ticks) (d : DepacketizerState) (x y : Holding) → Contains l.received (steps.Deliver k now) → AreBlocks packets l.writer first k now all
      → IsBefore highest k from d x → RecoversAll true all x y → AreBlocksPushed highest k now d all x y
  all_blocks [] highest k from now d x y inside are before same = subst (AreBlocksPushed highest k now d [] x) (sym same) (record {
    ps = [];
    each = tt;
    buffer = refl;
    has = λ a j q is there time less near within. absurd is;
    stores = stores_none l now x.packets x.packets refl before.steady;
    ring = before.ring;
  })
  all_blocks (b ∷ more) highest k from now d x y inside are before done =
      let mid : Holding = done.0 in
      let one = one_block highest k from now b d x mid inside are.0 before done.1 in
      let rest = all_blocks more highest k from now d mid y inside are.1 (before_next highest k are.0.index from now d x mid before one) done.2 in
      record {
        ps = one.ps ++ rest.ps;
        each = brought_both highest k now d one.ps rest.ps one.each rest.each;
        buffer = rest.buffer ∙ (ap (λ (s : State). after_pushes s rest.ps) one.buffer ∙ sym (after_both x.packets.buffer one.ps rest.ps));
        has = λ a j q is there time less near within. elim is [
          | inl same ↦
              let below = are.0.below in
              let near_block = are.0.near in
              let index : are.0.index ≡ j = distinct l jump turn are.0.index j are.0.packet q are.0.there there (sym are.0.time ∙ (ap (λ (z : Arrival). z.header.timestamp) (sym same) ∙ time))
              (omega (arith, below, near)) (omega (arith, less, near_block)) in
              has_left (first + j) one.ps rest.ps (subst (λ (n : ℕ). has_number (first + n) one.ps ≡ true) index (one.has (omega (arith, index, within))))
          | inr later ↦ has_right (first + j) one.ps rest.ps (rest.has a j q later there time less near within)
        ];
        stores = stores_then l now x.packets mid.packets y.packets one.stores rest.stores;
        ring = rest.ring;
      }

  -- A delivery

  -- no packet repeats a block
  own_is_new : (highest k : ℕ) (q : Packet) (s : Session) → slice_get packets k ≡ Some q → IsOlder l jump highest s.packets.buffer s.seen → k ≤ highest → highest ≤ k + l.backward
      → s.packets.is_restarting ≡ false → answer_for s.packets.numbering (q.number % 2 ^ 16) ≡ extended.Number q.number
      → is_repeat l.kinds s.seen s.packets q.rtp_time (q.number % 2 ^ 16) ≡ false
  own_is_new highest k q s there older over near running is = by_block (has_block q.rtp_time s.seen.places) refl
    where
      number : q.number ≡ first + k
      number = number_at packets first k q l.c.numbered there

      by_block : (b : Bool) → has_block q.rtp_time s.seen.places ≡ b → ((is_some l.kinds.red && b) && would_store s.packets (q.number % 2 ^ 16)) ≡ false
      by_block false none = ap (λ (a : Bool). a && would_store s.packets (q.number % 2 ^ 16)) (and_no (is_some l.kinds.red) false refl)
      by_block true block =
          let found = found_older l jump highest s.packets.buffer s.seen q.rtp_time older (block_is_seen s.seen.places q.rtp_time block) in
          let one = found.1 in
          let old : jump * found.0 ≤ jump * 64 = mul-le-mul_left jump found.2 in
          let low = one.below in
          let near_one = one.near in
          let same : one.index ≡ k = distinct l jump turn one.index k one.packet q one.there there one.time_is (omega (arith, low, near)) (omega (arith, near_one, old, over)) in
          let dropped : is_dropped s.packets.buffer q.number ≡ true =
          subst (λ (n : ℕ). is_dropped s.packets.buffer n ≡ true) (ap (λ (n : ℕ). first + n) same ∙ sym number) one.dropped in
          and_no (is_some l.kinds.red && true) (would_store s.packets (q.number % 2 ^ 16)) (would_not s.packets (q.number % 2 ^ 16) q.number running is dropped)

  -- the delivery of datagram k pushes what it brings
  pub record IsPushedWhole (highest k : ℕ) (now : Ticks) (s t : Session) : Type 0 where
    pub ps : List Held
    pub each : AreBrought highest k now s.packets.buffer.depacketizer ps
    pub all : (j : ℕ) (q : Packet) → slice_get packets j ≡ Some q → IsBroughtBy l.writer l.datagrams l.backward highest k j → has_number q.number ps ≡ true
    pub buffer : t.packets.buffer ≡ after_pushes s.packets.buffer ps
    pub limits : KeepsLimits s.packets t.packets
    pub no_media : t.packets.no_media_numbers ≡ []
    pub ring : IsRing l jump highest t.packets.buffer t.seen

  pub pushed_whole : (highest k from : ℕ) (now : Ticks) (datagram bytes : List ℕ) (s t : Session) (receipt : Receipt) → Tuned l s → Contains l.received (steps.Deliver k now) → slice_get l.written k ≡ Some datagram
      → IsCopy l.again datagram bytes → answer_for s.packets.numbering ((first + k) % 2 ^ 16) ≡ extended.Number (first + k) → IsHighest highest k (numbering_after s.packets.numbering ((first + k) % 2 ^ 16))
      → IsOlder l jump highest s.packets.buffer s.seen → s.packets.no_media_numbers ≡ [] → Beyond l.c from s.packets.buffer
      → (later : List ℕ) → Timely l s (k ∷ later) → DeliversWhole now bytes s receipt t → IsPushedWhole highest k now s t
  pushed_whole highest k from now datagram bytes s t receipt tuned inside there copy answer at older none beyond later in_time delivers =
      let p = parts l k now datagram bytes s t receipt tuned inside there copy answer
      (λ q q_there is. own_is_new highest k q s q_there older at.over at.near tuned.steady.running is) later in_time delivers in
      let q : Packet = p.packet in
      let d : DepacketizerState = s.packets.buffer.depacketizer in
      let own : Held = arrived d (meta_for now l.stream.clock_rate (own_header l q) q.number) q.payload in
      let mid : Receiving = p.mid in
      let seen : Seen = seen_with (record { time = q.rtp_time; is_block = false }) s.seen in
      let x : Holding = record { packets = mid; seen = seen } in
      let still : (n : ℕ) → is_dropped s.packets.buffer n ≡ true → is_dropped mid.buffer n ≡ true =
      λ n dropped. subst (λ (z : State). is_dropped z n ≡ true) (sym p.stored.buffer) (dropped_after s.packets.buffer own n beyond.beyond dropped) in
      let near = at.near in
      let one : IsOfPushed l jump highest 0 mid.buffer q.rtp_time = record {
        index = k;
        packet = q;
        there = p.there;
        time_is = refl;
        below = at.over;
        near = omega (arith, near);
        dropped = subst (λ (z : State). is_dropped z (first + k) ≡ true) (sym p.stored.buffer)
            (subst (λ (n : ℕ). is_dropped (pushed s.packets.buffer own) n ≡ true) p.number (push_drops s.packets.buffer own beyond.beyond));
      } in
      let numbering : mid.numbering ≡ numbering_after s.packets.numbering ((first + k) % 2 ^ 16) = p.stored.numbering ∙ ap (λ (n : ℕ). numbering_after s.packets.numbering (n % 2 ^ 16)) p.number in
      let before : IsBefore highest k from d x = record {
        at = subst (IsHighest highest k) (sym numbering) at;
        steady = p.stored.fed.steady;
        no_media = p.stored.no_media ∙ none;
        ring = ring_with l jump highest mid.buffer s.seen (record { time = q.rtp_time; is_block = false }) (older_kept l jump highest s.packets.buffer mid.buffer s.seen still older) one;
        beyond = beyond_fed l.c from now p.stored.fed.ps s.packets.buffer mid.buffer p.stored.fed.feeds beyond;
        reads = ap (λ (z : State). z.depacketizer) p.stored.buffer ∙ push_keeps s.packets.buffer own;
      } in
      let rest = all_blocks p.arrivals highest k from now d x p.end inside p.are before p.blocks in
      let brought : IsBroughtPush highest k now d own = record {
        index = k;
        packet = q;
        there = p.there;
        brought = (inl refl, at.near);
        known = own_delivery l k now q inside;
        received = refl;
        held = refl;
      } in
      record {
        ps = own ∷ rest.ps;
        each = (brought, rest.each);
        all = λ j r r_there brings.
            let number_r : r.number ≡ first + j = number_at packets first j r l.c.numbered r_there in
            elim brings.0 [
              | inl same ↦
                  let number : number_of own ≡ r.number = p.number ∙ (ap (λ (n : ℕ). first + n) (sym same) ∙ sym number_r) in
                  subst (λ (n : ℕ). has_number n (own ∷ rest.ps) ≡ true) number (has_itself own rest.ps)
              | inr kept ↦
                  let kept_here : IsKeptIn l.writer.red l.writer.budget (all_remembered packets) j k = subst (λ (es : List Entry). IsKeptIn l.writer.red l.writer.budget es j k) l.entries kept in
                  let found = kept_carried l.stream packets l.writer first k j now l.kinds l.red.receiver q r l.given p.there p.number kept_here r_there in
                  let before_k = kept_earlier l.writer (all_remembered packets) j k kept_here in
                  let has = rest.has found.0 j r (subst (IsIn found.0) (sym p.arrivals_are) found.1) r_there found.2 before_k found.3 brings.1 in
                  or_later (eqb (number_of own) r.number) (has_number r.number rest.ps) (subst (λ (n : ℕ). has_number n rest.ps ≡ true) (sym number_r) has)
            ];
        buffer = ap (λ (z : Receiving). z.buffer) p.packets_is ∙ (rest.buffer ∙ ap (λ (z : State). after_pushes z rest.ps) p.stored.buffer);
        limits = subst (KeepsLimits s.packets) (sym p.packets_is) (keeps_then s.packets mid p.end.packets p.stored.limits rest.stores.limits);
        no_media = ap (λ (z : Receiving). z.no_media_numbers) p.packets_is ∙ (rest.stores.no_media ∙ (p.stored.no_media ∙ none));
        ring = subst (IsRing l jump highest t.packets.buffer) (sym p.seen_is) (subst (λ (z : Receiving). IsRing l jump highest z.buffer p.end.seen) (sym p.packets_is) rest.ring);
      }
