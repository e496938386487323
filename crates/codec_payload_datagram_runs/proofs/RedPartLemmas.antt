-- A delivery of a written datagram, in two parts: its packet is stored, and then its blocks.
use Rattle.std.proofs.Common.{◌≡◌, ◌≢◌, ◌∙◌, ◌⊎◌, inl, inr, refl, ap, subst, ℕ, ◌+◌, ◌%◌, ◌^◌, List, ◌∷◌, Bool, true, false, cond, ltb, length, sym, Some, Err}
use Rattle.std.specs.Prelude.{Contains, slice_get}
use Rattle.codec_payload_base.specs.declared.wire.Ticks.{Ticks}
use Rattle.codec_payload_buffer.specs.Held.{has_number}
use Rattle.codec_payload_buffer.specs.Steps.{State, is_at_most}
use Rattle.codec_payload_jitter.specs.Receiving.{Arrival, Receiving, outcome_at}
use Rattle.codec_payload_numbers.specs.Numbers.{answer_for}
use Rattle.codec_payload_numbers.specs.declared.numbers.Extended.TheVariants as extended
use Rattle.codec_payload_jitter.specs.declared.outcome.Outcome.{Outcome}
use Rattle.codec_payload_jitter.specs.declared.outcome.Outcome.TheVariants as outcomes
use Rattle.codec_payload_sending_red.specs.Writers.{IsInRed, Writer}
use Rattle.codec_payload_buffer_runs.proofs.order.SafetyLemmas.{number_at}
use Rattle.codec_payload_buffer_runs.specs.SentStream.{packets_of}
use Rattle.codec_payload_payloader.specs.Packets.{Packet}
use Rattle.codec_payload_numbers.specs.SeenTimes.{Seen, none_seen, seen_with}
use Rattle.codec_payload_receiver.specs.Sessions.{Holding, RecoversAll, RecoversUnless, Session}
use Rattle.codec_payload_receiver.specs.Sessions.{all_carried, is_repeat, is_restart, is_suspect, packet_seen, told_of_red}
use Rattle.codec_payload_receiver.specs.declared.receiver.ReceiveError.TheVariants as refusals
use Rattle.codec_payload_datagram_runs.proofs.ReadingLemmas.{packet_at}
use Rattle.codec_payload_datagram_runs.proofs.RedReadingLemmas.{AreBlocks, blocks_are, carrier_at}
use Rattle.codec_payload_datagram_runs.proofs.Courses.{IsCopy}
use Rattle.codec_payload_datagram_runs.proofs.RedHearingLemmas.{heard_copy}
use Rattle.codec_payload_datagram_runs.proofs.RedReceivingLemmas.{RedSide, StoresOwn, TakesOwn, Timely, Tuned, stores_own, timely_at, writer_at}
use Rattle.codec_payload_datagram_runs.specs.RedRuns.{DeliversWhole}
use Rattle.codec_payload_datagram_runs.specs.WireRuns.{Receipt}
use Rattle.codec_payload_datagram_runs.specs.declared.run.DatagramStep.TheVariants as steps

-- a stored packet, and a packet that is late or held, are neither suspect nor a restart
outcome_plain : (s : State) (n : ℕ) → (is_suspect (outcome_at s n) ≡ false) × (is_restart (outcome_at s n) ≡ false)
outcome_plain s n = by_tests (is_at_most s.cutoff n) (has_number n s.held) (ltb (length s.held) s.limit)
  where
    by_tests : (a b d : Bool) → (is_suspect (cond a outcomes.Late (cond b outcomes.Duplicate (cond d outcomes.Held outcomes.HeldAndEvicted))) ≡ false)
        × (is_restart (cond a outcomes.Late (cond b outcomes.Duplicate (cond d outcomes.Held outcomes.HeldAndEvicted))) ≡ false)
    by_tests true b d = (refl, refl)
    by_tests false true d = (refl, refl)
    by_tests false false true = (refl, refl)
    by_tests false false false = (refl, refl)

module _ (l : RedSide) where
  abbrev packets : List Packet
  packets = packets_of l.c.units

  abbrev first : ℕ
  first = l.c.first

  -- the packet of a datagram is stored, and then its blocks
  pub record IsParted (k : ℕ) (now : Ticks) (s t : Session) : Type 0 where
    pub packet : Packet
    pub there : slice_get packets k ≡ Some packet
    pub number : packet.number ≡ first + k
    pub answer : answer_for s.packets.numbering (packet.number % 2 ^ 16) ≡ extended.Number packet.number
    pub mid : Receiving
    pub outcome : Outcome
    pub stored : StoresOwn l now packet s.packets mid outcome
    pub arrivals : List Arrival
    pub arrivals_are : arrivals ≡ all_carried l.kinds now (carrier_at l.red.receiver l.stream (writer_at l k) packet)
    pub are : AreBlocks packets l.writer first k now arrivals
    pub end : Holding
    pub blocks : RecoversAll true arrivals (record { packets = mid; seen = seen_with (record { time = packet.rtp_time; is_block = false }) s.seen }) end
    pub packets_is : t.packets ≡ end.packets
    pub seen_is : t.seen ≡ end.seen

  is_whole : (q : Packet) (k : ℕ) (outcome : Outcome) (whole : Bool) (receipt : Receipt) → receipt ≢ Err refusals.BlocksOutOfMemory → receipt ≡ told_of_red whole outcome → whole ≡ true
  is_whole q k outcome true receipt not_memory told = refl
  is_whole q k outcome false receipt not_memory told = absurd (not_memory told)

  -- the blocks of a packet that is neither suspect nor repeats a block
  not_skipped : (skips suspect : Bool) → suspect ≡ false → (skips ≡ suspect) ⊎ (skips ≡ false) → skips ≡ false
  not_skipped skips suspect is (inl same) = same ∙ is
  not_skipped skips suspect is (inr none) = none

  pub parts : (k : ℕ) (now : Ticks) (datagram bytes : List ℕ) (s t : Session) (receipt : Receipt) → Tuned l s → Contains l.received (steps.Deliver k now) → slice_get l.written k ≡ Some datagram
      → IsCopy l.again datagram bytes → answer_for s.packets.numbering ((first + k) % 2 ^ 16) ≡ extended.Number (first + k)
      → ((q : Packet) → slice_get packets k ≡ Some q → answer_for s.packets.numbering (q.number % 2 ^ 16) ≡ extended.Number q.number
      → is_repeat l.kinds s.seen s.packets q.rtp_time (q.number % 2 ^ 16) ≡ false)
      → (later : List ℕ) → Timely l s (k ∷ later) → DeliversWhole now bytes s receipt t → IsParted k now s t
  parts k now datagram bytes s t receipt tuned inside there copy answer new later in_time delivers =
      let is = l.each k datagram there in
      let q : Packet = is.packet in
      let in_red : IsInRed (writer_at l k) (packet_at l.stream q) datagram is.after = subst (λ (x : Writer). IsInRed x (packet_at l.stream q) datagram is.after) is.before_is is.in_red in
      let hears = heard_copy l l.again k now datagram bytes q is.after s t receipt l.heard tuned is.there in_red copy delivers in
      let number : q.number ≡ first + k = number_at packets first k q l.c.numbered is.there in
      let answer_q : answer_for s.packets.numbering (q.number % 2 ^ 16) ≡ extended.Number q.number = subst (λ (n : ℕ). answer_for s.packets.numbering (n % 2 ^ 16) ≡ extended.Number n) (sym number) answer in
      let mid : Receiving = hears.mid in
      let primary : TakesOwn l false now q s.packets hears.outcome mid = subst (λ (b : Bool). TakesOwn l b now q s.packets hears.outcome mid) (new q is.there answer_q) hears.primary in
      let stored = stores_own l k now q s.packets mid hears.outcome is.there inside tuned.steady answer_q (timely_at l k later q s tuned is.there number in_time) primary in
      let plain = outcome_plain s.packets.buffer q.number in
      let suspect : is_suspect hears.outcome ≡ false = ap is_suspect stored.outcome_is ∙ plain.0 in
      let restart : is_restart hears.outcome ≡ false = ap is_restart stored.outcome_is ∙ plain.1 in
      let seen_is : packet_seen true hears.outcome q.rtp_time s.seen ≡ seen_with (record { time = q.rtp_time; is_block = false }) s.seen =
      ap (λ (b : Bool). seen_with (record { time = q.rtp_time; is_block = false }) (cond b none_seen s.seen)) restart in
      let skips : hears.skips ≡ false = not_skipped hears.skips (is_suspect hears.outcome) suspect hears.skips_is in
      let whole : hears.whole ≡ true = is_whole q k hears.outcome hears.whole receipt delivers.0 hears.answer in
      let all : List Arrival = all_carried l.kinds now (carrier_at l.red.receiver l.stream (writer_at l k) q) in
      let stays : RecoversUnless false true all (record { packets = mid; seen = seen_with (record { time = q.rtp_time; is_block = false }) s.seen }) hears.end =
      subst (λ (x : Seen). RecoversUnless false true all (record { packets = mid; seen = x }) hears.end) seen_is
      (subst (λ (b : Bool). RecoversUnless false b all (record { packets = mid; seen = packet_seen true hears.outcome q.rtp_time s.seen }) hears.end) whole
      (subst (λ (b : Bool). RecoversUnless b hears.whole all (record { packets = mid; seen = packet_seen true hears.outcome q.rtp_time s.seen }) hears.end) skips hears.blocks)) in
      record {
        packet = q;
        there = is.there;
        number = number;
        answer = answer_q;
        mid = mid;
        outcome = hears.outcome;
        stored = stored;
        arrivals = all;
        arrivals_are = refl;
        are = blocks_are l.stream packets l.writer first k now l.kinds l.red.receiver q l.given is.there number;
        end = hears.end;
        blocks = stays;
        packets_is = hears.packets_is;
        seen_is = hears.seen_is;
      }
