-- What a receiver reports missing: what did not come, between the first datagram and the highest one that came.
use Rattle.std.proofs.Common.{◌≡◌, ◌∙◌, refl, sym, ap, subst, ℕ, zero, suc, ◌+◌, ◌-◌, ◌%◌, ◌^◌, ◌<◌, ◌≤◌, ◌⊎◌, ◌&&◌, ◌||◌, inl, inr, Bool, true, false, cond, List, [], ◌∷◌, Option, Some, None, arith, eqb, filter, length, max, take}
use Rattle.std.specs.Prelude.{is_some}
use Rattle.std.proofs.lemmas.Bool.{cases_lt, leb-false}
use Rattle.std.proofs.lemmas.Bool.Decides.{nat_tests}
use Rattle.std.proofs.lemmas.List.{take_all}
use Rattle.codec_payload_base.specs.declared.wire.Ticks.{Ticks}
use Rattle.codec_payload_codec.proofs.CaseLemmas.{by_test}
use Rattle.codec_payload_buffer.specs.Held.{has_number}
use Rattle.codec_payload_buffer.specs.Steps.{is_at_most}
use Rattle.codec_payload_feedback_requests.specs.declared.nack.NackSettings.{NackSettings}
use Rattle.codec_payload_feedback_requests.specs.NackRuns.{is_in}
use Rattle.codec_payload_feedback_requests.specs.NackSchedule.{followed, is_past, rising_after}
use Rattle.codec_payload_jitter.proofs.RestartLemmas.{again_without_former, answer_to_is}
use Rattle.codec_payload_jitter.specs.Missing.{absent_between, floor_by, is_absent, missing_by, missing_numbers, missing_of, numbers_from}
use Rattle.codec_payload_jitter.specs.Receiving.{Arrival, PopsWith, Receives, ReceivesAgain, ReceivesAgainAs, Receiving, number_again_for, waiting_at, would_store}
use Rattle.codec_payload_numbers.specs.NotedTimes.{AreTimesOf, is_untimely}
use Rattle.codec_payload_numbers.specs.Numbers.{answer_for, lesser, lowest_with, number_within}
use Rattle.codec_payload_numbers.specs.declared.numbers.Extended.TheVariants as extended
use Rattle.codec_payload_payloader.specs.Packets.{Packet}
use Rattle.codec_payload_sending_history.specs.Histories.{IsRetransmission}
use Rattle.codec_payload_sending_history.specs.declared.retransmission.RetransmissionStream.{RetransmissionStream}
use Rattle.codec_payload_sending.specs.declared.sender.Outgoing.{Outgoing}
use Rattle.codec_payload_datagrams.specs.Kinds.{Again, Datagram, WithMedia, datagram_at}
use Rattle.codec_payload_receiver.proofs.BlockTimeLemmas.{and_false}
use Rattle.codec_payload_receiver.proofs.PopLemmas.{pops_at_once}
use Rattle.codec_payload_receiver.specs.Pops.{PopsOnce}
use Rattle.codec_payload_receiver.specs.RedOnce.{HasNoBlock}
use Rattle.codec_payload_receiver.specs.Sessions.{Hears, Session, TakesAgain, TakesMedia, is_repeat}
use Rattle.codec_payload_buffer_runs.specs.Schedule.{Answer}
use Rattle.codec_payload_datagram_runs.proofs.Courses.{IsCopy}
use Rattle.codec_payload_datagram_runs.proofs.ReadingLemmas.{again_is, datagram_is, original_at, packet_at}
use Rattle.codec_payload_datagram_runs.proofs.ReceivingLemmas.{IsListening, arrival_at, heard, heard_at_once, same_ssrc, settled_none}
use Rattle.codec_payload_datagram_runs.specs.Releases.{ReadsAs}
use Rattle.codec_payload_datagram_runs.specs.WireRuns.{Delivers, PopsUnit, Receipt}

-- The lowest number

-- no packet repeats a block
not_repeated : (s : Session) (time low : ℕ) → HasNoBlock s.seen → is_repeat s.stream s.seen s.packets time low ≡ false
not_repeated s time low none =
    ap (λ (b : Bool). (is_some s.stream.red && b) && would_store s.packets low) (none time) ∙ ap (λ (b : Bool). b && would_store s.packets low) (and_false (is_some s.stream.red))

lowest_sent : (again : Option RetransmissionStream) (time_of : ℕ → ℕ) (stream : Outgoing) (now : Ticks) (q : Packet) (bytes : List ℕ) (s t : Session) (receipt : Receipt) → (stream.payload_type < 64)
    ⊎ (95 < stream.payload_type) → IsListening again stream s → ReadsAs stream q bytes
    → answer_for s.packets.numbering (q.number % 2 ^ 16) ≡ extended.Number q.number → AreTimesOf time_of s.packets.noted → q.rtp_time ≡ time_of q.number
    → is_untimely s.packets.rate s.packets.first (record { number = q.number; time = q.rtp_time }) ≡ false → Delivers now bytes s receipt t
    → t.packets.lowest ≡ Some (lesser s.packets.lowest q.number)
lowest_sent again time_of stream now q bytes s t receipt types listening reads numbered times time timely delivers =
    let is : datagram_at s.stream s.ssrc bytes ≡ WithMedia (packet_at stream q) =
    datagram_is s.stream s.ssrc stream q bytes reads listening.payload_type types (same_ssrc stream s listening.ssrc) listening.not_again in
    let hears : Hears now (WithMedia (packet_at stream q)) s receipt t =
    subst (λ (d : Datagram). Hears now d s receipt t) is (heard now (datagram_at s.stream s.ssrc bytes) s t receipt delivers.0 (heard_at_once stream.ssrc now bytes s t receipt listening.named delivers)) in
    let a : Arrival = arrival_at stream now q s in
    let new = not_repeated s a.header.timestamp a.header.sequence_number listening.no_block_seen in
    let receives : Receives a s.packets hears.outcome hears.packets = subst (λ (b : Bool). TakesMedia b a s.packets hears.outcome hears.packets) new hears.takes.0 in
    let packets : t.packets ≡ hears.packets = ap (λ (x : Session). x.packets) hears.left in
    ap (λ (x : Receiving). x.lowest) packets
    ∙ (ap (λ (x : Receiving). x.lowest) receives.2 ∙ ap (lowest_with s.packets.lowest) (answer_to_is time_of s.packets a.header q.number listening.running times numbered time timely))

lowest_again : (again : RetransmissionStream) (next : ℕ) (time_of : ℕ → ℕ) (stream : Outgoing) (now : Ticks) (q : Packet) (datagram bytes : List ℕ) (s t : Session) (receipt : Receipt)
    → IsListening (Some again) stream s → ReadsAs stream q datagram → IsRetransmission again next datagram bytes
    → answer_for s.packets.numbering (q.number % 2 ^ 16) ≡ extended.Number q.number → AreTimesOf time_of s.packets.noted → Delivers now bytes s receipt t
    → t.packets.lowest ≡ Some (lesser s.packets.lowest q.number)
lowest_again again next time_of stream now q datagram bytes s t receipt listening reads repeats numbered times delivers =
    let is : datagram_at s.stream s.ssrc bytes ≡ Again (original_at again next stream q) =
    again_is s.stream s.ssrc again next stream q datagram bytes reads repeats listening.ssrc listening.heard.0 listening.heard.1 in
    let hears : Hears now (Again (original_at again next stream q)) s receipt t =
    subst (λ (d : Datagram). Hears now d s receipt t) is
    (heard now (datagram_at s.stream s.ssrc bytes) s t receipt delivers.0 (heard_at_once stream.ssrc now bytes s t receipt listening.named delivers)) in
    let a : Arrival = arrival_at stream now q s in
    let low : ℕ = a.header.sequence_number in
    let r : Receiving = s.packets in
    let new = not_repeated s a.header.timestamp a.header.sequence_number listening.no_block_seen in
    let receives : ReceivesAgain a r hears.outcome hears.packets = subst (λ (b : Bool). TakesAgain b a r hears.outcome hears.packets) new hears.takes.0 in
    let packets : t.packets ≡ hears.packets = ap (λ (x : Session). x.packets) hears.left in
    let number : number_again_for r low a.header.timestamp ≡ Some q.number =
    again_without_former r low a.header.timestamp times.1 ∙ (ap (λ (b : Bool). cond b None (number_within (answer_for r.numbering low))) listening.running ∙ ap number_within numbered) in
    let here : ReceivesAgainAs (Some q.number) a r hears.outcome hears.packets = subst (λ (o : Option ℕ). ReceivesAgainAs o a r hears.outcome hears.packets) number receives in
    ap (λ (x : Receiving). x.lowest) packets ∙ ap (λ (x : Receiving). x.lowest) here.2

-- after any copy of a datagram
pub lowest_copy : (again : Option RetransmissionStream) (time_of : ℕ → ℕ) (stream : Outgoing) (now : Ticks) (q : Packet) (datagram bytes : List ℕ) (s t : Session) (receipt : Receipt)
    → (stream.payload_type < 64) ⊎ (95 < stream.payload_type) → IsListening again stream s → ReadsAs stream q datagram → IsCopy again datagram bytes
    → answer_for s.packets.numbering (q.number % 2 ^ 16) ≡ extended.Number q.number → AreTimesOf time_of s.packets.noted → q.rtp_time ≡ time_of q.number
    → is_untimely s.packets.rate s.packets.first (record { number = q.number; time = q.rtp_time }) ≡ false → Delivers now bytes s receipt t
    → t.packets.lowest ≡ Some (lesser s.packets.lowest q.number)
lowest_copy again time_of stream now q datagram bytes s t receipt types listening reads (inl same) numbered times time timely delivers =
    lowest_sent again time_of stream now q bytes s t receipt types listening (subst (ReadsAs stream q) (sym same) reads) numbered times time timely delivers
lowest_copy None time_of stream now q datagram bytes s t receipt types listening reads (inr repeated) numbered times time timely delivers =
    lowest_sent None time_of stream now q bytes s t receipt types listening (subst (ReadsAs stream q) (sym repeated.1) reads) numbered times time timely delivers
lowest_copy (Some again) time_of stream now q datagram bytes s t receipt types listening reads (inr repeated) numbered times time timely delivers =
    lowest_again again repeated.0 time_of stream now q datagram bytes s t receipt listening reads repeated.1 numbered times delivers

lowest_with_pop : (wait : Option ℕ) (r : Receiving) (answer : Answer) (t : Receiving) → PopsWith wait r answer t → t.lowest ≡ r.lowest
lowest_with_pop None r answer t pops = ap (λ (x : Receiving). x.lowest) pops.1
lowest_with_pop (Some h) r answer t pops = ap (λ (x : Receiving). x.lowest) pops.2

-- a pop leaves it
pub lowest_popped : (again : Option RetransmissionStream) (stream : Outgoing) (now : Ticks) (answer : Answer) (s t : Session) → IsListening again stream s → PopsUnit now s answer t → t.packets.lowest ≡ s.packets.lowest
lowest_popped again stream now answer s t listening gated =
    let popped : PopsOnce now.0 s answer t = pops_at_once now.0 s answer t listening.drops_none gated in
    let r : Receiving = s.packets in
    let pops : PopsWith (waiting_at r now.0) r answer popped.packets =
    subst (λ (x : Receiving). PopsWith (waiting_at x now.0) x answer popped.packets) (settled_none r listening.none_noted) popped.pops in
    ap (λ (x : Session). x.packets.lowest) popped.left ∙ lowest_with_pop (waiting_at r now.0) r answer popped.packets pops

-- Missing numbers

few_absent : (test : ℕ → Bool) (low count : ℕ) → length (filter test (numbers_from low count)) ≤ count
few_absent test low zero = omega arith
few_absent test low (suc count) =
    let rest = few_absent test (low + 1) count in
    by_test (test low) (λ b. length (cond b (low ∷ filter test (numbers_from (low + 1) count)) (filter test (numbers_from (low + 1) count))) ≤ suc count)
    (λ e. omega (arith, rest)) (λ e. omega (arith, rest))

few_rising : (last : Option ℕ) (ns : List ℕ) → length (rising_after last ns) ≤ length ns
few_rising last [] = omega arith
few_rising last (n ∷ ns) =
    let one = few_rising (Some n) ns in
    let two = few_rising last ns in
    by_test (is_past last n) (λ b. length (cond b (n ∷ rising_after (Some n) ns) (rising_after last ns)) ≤ length (n ∷ ns)) (λ e. omega (arith, one)) (λ e. omega (arith, two))

abbrev IsBelow : Option ℕ → ℕ → Type 0
IsBelow None low = Unit {0}
IsBelow (Some l) low = l < low

past_is : (last : Option ℕ) (low : ℕ) → IsBelow last low → is_past last low ≡ true
past_is None low below = refl
past_is (Some l) low below = grind (arith, nat_tests, below)

below_more : (last : Option ℕ) (low : ℕ) → IsBelow last low → IsBelow last (low + 1)
below_more None low below = tt
below_more (Some l) low below = omega (arith, below)

rising_in : (test : ℕ → Bool) (n low count : ℕ) (last : Option ℕ) → IsBelow last low → low ≤ n → n < low + count → test n ≡ true → is_in n (rising_after last (filter test (numbers_from low count))) ≡ true
rising_in test n low zero last below le less is = absurd (omega (arith, le, less))
rising_in test n low (suc count) last below le less is =
    by_test (test low)
    (λ b. test low ≡ b → is_in n (rising_after last (cond b (low ∷ filter test (numbers_from (low + 1) count)) (filter test (numbers_from (low + 1) count)))) ≡ true)
    (λ t e. by_past (is_past last low) (past_is last low below) (λ over. rising_in test n (low + 1) count (Some low) (omega arith) (omega (arith, over)) (omega (arith, less)) is))
    (λ f e. elim (cases_lt low n) [
      | inl over ↦ rising_in test n (low + 1) count last (below_more last low below) (omega (arith, over)) (omega (arith, less)) is
      | inr at ↦ let same : low ≡ n = omega (arith, at, le) in absurd (clash (test n) is (ap test (sym same) ∙ e))
    ]) refl
  where
    clash : (b : Bool) → b ≡ true → b ≡ false → ⊥
    clash b t f = cc

    by_past : (b : Bool) → b ≡ true → (low < n → is_in n (rising_after (Some low) (filter test (numbers_from (low + 1) count))) ≡ true)
        → is_in n (cond b (low ∷ rising_after (Some low) (filter test (numbers_from (low + 1) count))) (rising_after last (filter test (numbers_from (low + 1) count)))) ≡ true
    by_past true e rest = elim (cases_lt low n) [
      | inl over ↦ or_right (eqb low n) (is_in n (rising_after (Some low) (filter test (numbers_from (low + 1) count)))) (rest over)
      | inr at ↦ let same : low ≡ n = omega (arith, at, le) in grind (arith, nat_tests, same)
    ]
      where
        or_right : (a b : Bool) → b ≡ true → (a || b) ≡ true
        or_right true b e = refl
        or_right false b e = e
    by_past false e rest = absurd (cc)

-- a number that is absent above the floor and below the highest one is followed
pub misses : (settings : NackSettings) (r : Receiving) (n l g : ℕ) → r.lowest ≡ Some l → r.numbering.greatest ≡ Some g → l < n → is_at_most r.buffer.cutoff n ≡ false → n < g
    → is_absent r n ≡ true → ((m : ℕ) → floor_by (Some l) r.buffer.cutoff ≡ Some m → g ≤ settings.capacity + m + 1) → is_in n (followed settings (missing_numbers r settings.capacity)) ≡ true
misses settings r n l g lowest greatest over above under absent room =
    subst (λ (ns : List ℕ). is_in n (followed settings (take settings.capacity ns)) ≡ true) (sym missing_is) (by_cutoff r.buffer.cutoff above room)
  where
    missing_is : missing_of r ≡ missing_by r (floor_by (Some l) r.buffer.cutoff) (Some g)
    missing_is =
        ap (λ (o : Option ℕ). missing_by r (floor_by o r.buffer.cutoff) r.numbering.greatest) lowest ∙ ap (λ (o : Option ℕ). missing_by r (floor_by (Some l) r.buffer.cutoff) o) greatest

    by_floor : (m : ℕ) → l ≤ m → m < n → g ≤ settings.capacity + m + 1 → is_in n (followed settings (take settings.capacity (absent_between r (m + 1) g))) ≡ true
    by_floor m low below wide =
        let all : List ℕ = absent_between r (m + 1) g in
        let few = few_absent (is_absent r) (m + 1) (g - (m + 1)) in
        let whole : take settings.capacity all ≡ all = take_all settings.capacity all (omega (arith, few, wide)) in
        let short = few_rising None all in
        let rest : take settings.capacity (rising_after None all) ≡ rising_after None all = take_all settings.capacity (rising_after None all) (omega (arith, short, few, wide)) in
        subst (λ (ns : List ℕ). is_in n (take settings.capacity (rising_after None ns)) ≡ true) (sym whole)
        (subst (λ (ns : List ℕ). is_in n ns ≡ true) (sym rest) (rising_in (is_absent r) n (m + 1) (g - (m + 1)) None tt (omega (arith, below)) (omega (arith, below, under)) absent))

    by_cutoff : (o : Option ℕ) → is_at_most o n ≡ false → ((m : ℕ) → floor_by (Some l) o ≡ Some m → g ≤ settings.capacity + m + 1) → is_in n (followed settings (take settings.capacity (missing_by r (floor_by (Some l) o) (Some g)))) ≡ true
    by_cutoff None e wide = by_floor l (omega arith) over (wide l refl)
    by_cutoff (Some c) e wide = let cut = leb-false n c e in by_floor (max l c) (omega arith) (omega (arith, over, cut)) (wide (max l c) refl)

-- no other is: not one at or above the highest number
in_taken : (n k : ℕ) (ns : List ℕ) → is_in n (take k ns) ≡ true → is_in n ns ≡ true
in_taken n zero ns is = absurd (cc)
in_taken n (suc k) [] is = is
in_taken n (suc k) (m ∷ ms) is = by_test (eqb m n) (λ b. (b || is_in n (take k ms)) ≡ true → (b || is_in n ms) ≡ true) (λ t e. refl) (λ f e. in_taken n k ms e) is

in_rising : (n : ℕ) (last : Option ℕ) (ns : List ℕ) → is_in n (rising_after last ns) ≡ true → is_in n ns ≡ true
in_rising n last [] is = is
in_rising n last (m ∷ ms) is =
    by_test (is_past last m) (λ b. is_in n (cond b (m ∷ rising_after (Some m) ms) (rising_after last ms)) ≡ true → is_in n (m ∷ ms) ≡ true)
    (λ t e. by_test (eqb m n) (λ b. (b || is_in n (rising_after (Some m) ms)) ≡ true → (b || is_in n ms) ≡ true) (λ t e. refl) (λ f e. in_rising n (Some m) ms e) e)
    (λ f e. by_test (eqb m n) (λ b. (b || is_in n ms) ≡ true) (λ t. refl) (λ f. in_rising n last ms e)) is

in_numbers : (test : ℕ → Bool) (n low count : ℕ) → is_in n (filter test (numbers_from low count)) ≡ true → n < low + count
in_numbers test n low zero is = absurd (cc)
in_numbers test n low (suc count) is =
    by_test (test low) (λ b. is_in n (cond b (low ∷ filter test (numbers_from (low + 1) count)) (filter test (numbers_from (low + 1) count))) ≡ true → n < low + suc count)
    (λ t e. by_test (eqb low n) (λ b. eqb low n ≡ b → (b || is_in n (filter test (numbers_from (low + 1) count))) ≡ true → n < low + suc count)
    (λ t same e. let at : low ≡ n = grind (arith, nat_tests, same) in omega (arith, at))
    (λ f other e. let rest = in_numbers test n (low + 1) count e in omega (arith, rest)) refl e)
    (λ f e. let rest = in_numbers test n (low + 1) count e in omega (arith, rest)) is

in_missing : (r : Receiving) (n : ℕ) (floor greatest : Option ℕ) → is_in n (missing_by r floor greatest) ≡ true → (g : ℕ) × (greatest ≡ Some g) × (n < g)
in_missing r n None greatest is = absurd (cc)
in_missing r n (Some low) None is = absurd (cc)
in_missing r n (Some low) (Some g) is = (g, refl, by_size (cases_lt (low + 1) g))
  where
    by_size : ((low + 1 < g) ⊎ (g ≤ low + 1)) → n < g
    by_size (inl less) = let within = in_numbers (is_absent r) n (low + 1) (g - (low + 1)) is in omega (arith, within, less)
    by_size (inr ge) =
        let none : g - (low + 1) ≡ 0 = omega (arith, ge) in
        absurd (nothing (subst (λ (m : ℕ). is_in n (filter (is_absent r) (numbers_from (low + 1) m)) ≡ true) none is))
      where
        nothing : is_in n [] ≡ true → ⊥
        nothing e = absurd (cc)

pub not_missing : (settings : NackSettings) (r : Receiving) (n : ℕ) → ((g : ℕ) → r.numbering.greatest ≡ Some g → g ≤ n) → is_in n (followed settings (missing_numbers r settings.capacity)) ≡ false
not_missing settings r n high =
    by_test (is_in n (followed settings (missing_numbers r settings.capacity)))
    (λ b. is_in n (followed settings (missing_numbers r settings.capacity)) ≡ b → b ≡ false)
    (λ t e.
    let there = in_missing r n (floor_by r.lowest r.buffer.cutoff) r.numbering.greatest
    (in_taken n settings.capacity (missing_of r) (in_rising n None (take settings.capacity (missing_of r)) (in_taken n settings.capacity (rising_after None (take settings.capacity (missing_of r))) e))) in
    absurd (omega (arith, there.2, high there.0 there.1)))
    (λ f e. refl) refl

-- what is not held is absent
pub absent_is : (r : Receiving) (n : ℕ) → r.no_media_numbers ≡ [] → has_number n r.buffer.held ≡ false → is_absent r n ≡ true
absent_is r n none not_held = rw (none, not_held) refl
