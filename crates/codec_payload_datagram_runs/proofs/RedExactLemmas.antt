-- If each packet comes before the end of the stream, with its own datagram or as a block, all units are popped.
use Rattle.std.proofs.Common.{◌≡◌, ◌∙◌, refl, sym, ap, subst, ℕ, zero, suc, ◌+◌, ◌-◌, ◌*◌, ◌%◌, ◌^◌, ◌<◌, ◌≤◌, ◌⊎◌, inl, inr, ◌&&◌, ◌||◌, List, [], ◌∷◌, ◌++◌}
use Rattle.std.proofs.Common.{Bool, true, false, not, cond, eqb, ltb, leb, max, Option, Some, None, length, arith}
use Rattle.std.specs.Prelude.{Contains, slice_get, slice_set}
use Rattle.std.specs.Option.{is_some, option_map}
use Rattle.std.proofs.Math.Nat.{mul-le-mul_left}
use Rattle.std.proofs.lemmas.Bool.{cases_lt, eqb-true, le-leb, le-ltb}
use Rattle.std.proofs.lemmas.List.{length-map}
use Rattle.std.proofs.lemmas.Option.{same_Some, slice_get-map, slice_get_within}
use Rattle.codec_payload_base.specs.declared.wire.Ticks.{Ticks}
use Rattle.codec_payload_buffer.proofs.MemberLemmas.{IsIn, contains_in}
use Rattle.codec_payload_buffer.specs.Held.{Held, has_number, number_of}
use Rattle.codec_payload_buffer.specs.Steps.{State, arrived, is_at_most, is_dropped, pushed}
use Rattle.codec_payload_metadata.specs.declared.meta.RtpMeta.{RtpMeta}
use Rattle.codec_payload_jitter.specs.NoMediaNumbers.{is_in}
use Rattle.codec_payload_numbers.specs.Numbers.{Numbering, ahead, answer_by, answer_for, behind, greater, number_within, numbering_after, numbering_with}
use Rattle.codec_payload_jitter.proofs.RestartLemmas.{again_without_former}
use Rattle.codec_payload_jitter.specs.Receiving.{Arrival, Receiving, RecoversAs, RecoversIf}
use Rattle.codec_payload_jitter.specs.Receiving.{is_stored, may_recover, meta_for, number_again, number_again_for, outcome_at, settled, would_store, would_store_at}
use Rattle.codec_payload_numbers.specs.declared.numbers.Extended.{Extended}
use Rattle.codec_payload_numbers.specs.declared.numbers.Extended.TheVariants as extended
use Rattle.codec_payload_jitter.specs.declared.outcome.Outcome.TheVariants as outcomes
use Rattle.codec_payload_red.specs.RedLevels.{Entry}
use Rattle.codec_payload_red.specs.RedRun.{AreStepApart, IsKeptIn}
use Rattle.codec_payload_buffer_runs.proofs.order.ChainLemmas.{Exactly, Filling, full_at_pop}
use Rattle.codec_payload_buffer_runs.proofs.order.ExactLemmas.{MayGo, dropped, pop_answers}
use Rattle.codec_payload_buffer_runs.proofs.order.FillLemmas.{filled}
use Rattle.codec_payload_buffer_runs.proofs.order.RunLogs.{slice_there}
use Rattle.codec_payload_buffer_runs.proofs.order.SafetyLemmas.{number_at}
use Rattle.codec_payload_buffer_runs.proofs.order.TurnLemmas.{or_cases}
use Rattle.codec_payload_buffer_runs.specs.Arrivals.{PopsWaiting}
use Rattle.codec_payload_buffer_runs.specs.Exact.{AnswersAll}
use Rattle.codec_payload_buffer_runs.specs.RedSchedule.{all_remembered, remembered}
use Rattle.codec_payload_buffer_runs.specs.Schedule.{Answer}
use Rattle.codec_payload_buffer_runs.specs.SentStream.{SentUnit, packets_of}
use Rattle.codec_payload_payloader.specs.Packets.{Packet}
use Rattle.codec_payload_numbers.specs.SeenTimes.{Seen, has_block, is_seen, none_seen, seen_with}
use Rattle.codec_payload_receiver.specs.Sessions.{Holding, RecoversAll, RecoversUnseen, Session}
use Rattle.codec_payload_receiver.specs.Sessions.{block_seen, ended, is_repeat}
use Rattle.codec_payload_datagram_runs.proofs.Courses.{IsCopy}
use Rattle.codec_payload_datagram_runs.proofs.RedNumberLemmas.{IsPast, past_number}
use Rattle.codec_payload_datagram_runs.proofs.RedHearingLemmas.{deliver_fed, finish_is, pop_once, tuned_ended}
use Rattle.codec_payload_datagram_runs.proofs.ReceivingLemmas.{AllNumbered, settled_none, waits_for_nothing}
use Rattle.codec_payload_datagram_runs.proofs.RedCourses.{Feeds, fed_push}
use Rattle.codec_payload_datagram_runs.proofs.RedPartLemmas.{parts}
use Rattle.codec_payload_datagram_runs.proofs.RedReadingLemmas.{AreBlocks, IsBlock, kept_carried}
use Rattle.codec_payload_datagram_runs.proofs.RedReceivingLemmas.{RedSide, Steady, StoresBlocks, Timely, Tuned, all_recovered, block_known}
use Rattle.codec_payload_datagram_runs.proofs.RedReceivingLemmas.{own_header, own_known, pushes_block, recovered_if, stores_none, stores_then}
use Rattle.codec_payload_datagram_runs.proofs.RedStepLemmas.{RedTakes}
use Rattle.codec_payload_datagram_runs.specs.RedReleases.{Carries}
use Rattle.codec_payload_datagram_runs.specs.RedRuns.{DeliversWhole}
use Rattle.codec_payload_datagram_runs.specs.Releases.{ComeWithin, HaveNoPops, StayWithin, delivered}
use Rattle.codec_payload_datagram_runs.specs.WireRuns.{Receipt}
use Rattle.codec_payload_datagram_runs.specs.declared.run.DatagramStep.{DatagramStep}
use Rattle.codec_payload_datagram_runs.specs.declared.run.DatagramStep.TheVariants as steps

-- Times

wraps : (time step p q t : ℕ) → t ≡ ((time + step) % 2 ^ 32 + p) % 2 ^ 32 → q ≡ step + p → t ≡ (time + q) % 2 ^ 32
wraps time step p q t is next = omega arith

-- the time of an entry
pub entry_time : (step time j : ℕ) (sent : List Entry) (e : Entry) → AreStepApart step time sent → time < 2 ^ 32 → slice_get sent j ≡ Some e → e.time ≡ (time + j * step) % 2 ^ 32
entry_time step time j [] e apart small there = absurd (cc)
entry_time step time zero (x ∷ sent) e apart small there = let same : x ≡ e = same_Some x e there in omega (arith, ap (λ (y : Entry). y.time) (sym same), apart.0, small)
entry_time step time (suc j) (x ∷ sent) e apart small there =
    let rest = entry_time step ((time + step) % 2 ^ 32) j sent e apart.1 (omega arith) there in
    let next : suc j * step ≡ step + j * step = omega arith in
    wraps time step (j * step) (suc j * step) e.time rest next

pub no_wrap : (time p q : ℕ) → 1 ≤ q → q < 2 ^ 32 → (time + p) % 2 ^ 32 ≡ (time + (p + q)) % 2 ^ 32 → ⊥
no_wrap time p q some few same = omega (arith, some, few, same)

-- two packets have different times
later_time : (step time i j : ℕ) → 0 < step → step ≤ 16383 → j < 65536 → i < j → (time + i * step) % 2 ^ 32 ≡ (time + j * step) % 2 ^ 32 → ⊥
later_time step time i j some few last less same =
    let d : ℕ = j - i in
    let is : j ≡ i + d = omega (arith, less) in
    let one : step * 1 ≤ step * d = mul-le-mul_left step (omega (arith, less)) in
    let most : step * d ≤ step * 65535 = mul-le-mul_left step (omega (arith, last)) in
    let split : j * step ≡ i * step + step * d = omega (arith, ap (λ (n : ℕ). n * step) is) in
    no_wrap time (i * step) (step * d) (omega (arith, one, some)) (omega (arith, most, few)) (same ∙ ap (λ (n : ℕ). (time + n) % 2 ^ 32) split)

pub same_index : (step time i j : ℕ) (sent : List Entry) (e f : Entry) → AreStepApart step time sent → time < 2 ^ 32 → 0 < step → step ≤ 16383 → length sent ≤ 65536
    → slice_get sent i ≡ Some e → slice_get sent j ≡ Some f → e.time ≡ f.time → i ≡ j
same_index step time i j sent e f apart small some few all e_there f_there same =
    let i_in = slice_get_within sent i e e_there in
    let j_in = slice_get_within sent j f f_there in
    let times : (time + i * step) % 2 ^ 32 ≡ (time + j * step) % 2 ^ 32 = sym (entry_time step time i sent e apart small e_there) ∙ (same ∙ entry_time step time j sent f apart small f_there) in
    elim (cases_lt i j) [
      | inl less ↦ absurd (later_time step time i j some few (omega (arith, j_in, all)) less times)
      | inr more ↦ elim (cases_lt j i) [
        | inl greater_than ↦ absurd (later_time step time j i some few (omega (arith, i_in, all)) greater_than (sym times))
        | inr equal ↦ omega (arith, more, equal)
      ]
    ]

pub or_later : (a b : Bool) → b ≡ true → a || b ≡ true
or_later true b h = refl
or_later false b h = h

-- Seen times

-- the type of the items; the crate of receivers exports no name for a seen time
abbrev pub type_in : {A : Type 0} → List (Option A) → Type 0
type_in {A} times = A

abbrev pub SeenTime : Type 0
SeenTime = type_in none_seen.places

seen_set : (places : List (Option SeenTime)) (n time : ℕ) (x : SeenTime) → is_seen time (slice_set places n (Some x)) ≡ true → (x.time ≡ time) ⊎ (is_seen time places ≡ true)
seen_set [] n time x is = absurd (cc)
seen_set (None ∷ places) zero time x is = elim (or_cases (eqb x.time time) (is_seen time places) is) [ inl here ↦ inl (eqb-true x.time time here) | inr later ↦ inr later ]
seen_set (Some y ∷ places) zero time x is = elim (or_cases (eqb x.time time) (is_seen time places) is) [
  | inl here ↦ inl (eqb-true x.time time here)
  | inr later ↦ inr (or_later (eqb y.time time) (is_seen time places) later)
]
seen_set (None ∷ places) (suc n) time x is = seen_set places n time x is
seen_set (Some y ∷ places) (suc n) time x is = by_first (seen_set places n time x) (eqb y.time time) is
  where
    by_first : (is_seen time (slice_set places n (Some x)) ≡ true → (x.time ≡ time) ⊎ (is_seen time places ≡ true))
        → (b : Bool) → b || is_seen time (slice_set places n (Some x)) ≡ true → (x.time ≡ time) ⊎ (b || is_seen time places ≡ true)
    by_first later true h = inr refl
    by_first later false h = later h

pub block_is_seen : (places : List (Option SeenTime)) (time : ℕ) → has_block time places ≡ true → is_seen time places ≡ true
block_is_seen [] time is = is
block_is_seen (None ∷ places) time is = block_is_seen places time is
block_is_seen (Some y ∷ places) time is = by_first (block_is_seen places time) y.is_block (eqb y.time time) is
  where
    by_first : (has_block time places ≡ true → is_seen time places ≡ true) → (a b : Bool) → (a && b) || has_block time places ≡ true → b || is_seen time places ≡ true
    by_first later a true h = refl
    by_first later true false h = later h
    by_first later false false h = later h

-- Outcomes

-- a packet that is late or held is not stored
pub dropped_not_stored : (s : State) (n : ℕ) → is_dropped s n ≡ true → is_stored (outcome_at s n) ≡ false
dropped_not_stored s n dropped = by_tests (is_at_most s.cutoff n) (has_number n s.held) (ltb (length s.held) s.limit) dropped
  where
    by_tests : (a b d : Bool) → a || b ≡ true → is_stored (cond a outcomes.Late (cond b outcomes.Duplicate (cond d outcomes.Held outcomes.HeldAndEvicted))) ≡ false
    by_tests true b d h = refl
    by_tests false true d h = refl
    by_tests false false d h = absurd (cc)

-- without a cutoff, a packet that is not stored is held
pub not_stored_held : (s : State) (n : ℕ) → s.cutoff ≡ None → is_stored (outcome_at s n) ≡ false → has_number n s.held ≡ true
not_stored_held s n none not_stored = by_tests (is_at_most s.cutoff n) (has_number n s.held) (ltb (length s.held) s.limit) (ap (λ (o : Option ℕ). is_at_most o n) none) refl not_stored
  where
    by_tests : (a b d : Bool) → a ≡ false → has_number n s.held ≡ b → is_stored (cond a outcomes.Late (cond b outcomes.Duplicate (cond d outcomes.Held outcomes.HeldAndEvicted))) ≡ false
        → has_number n s.held ≡ true
    by_tests true b d not_late there h = absurd (cc)
    by_tests false true d not_late there h = there
    by_tests false false true not_late there h = absurd (cc)
    by_tests false false false not_late there h = absurd (cc)

pub and_no : (a b : Bool) → b ≡ false → (a && b) ≡ false
and_no true b h = h
and_no false b h = refl

pub held_dropped : (s : State) (n : ℕ) → has_number n s.held ≡ true → is_dropped s n ≡ true
held_dropped s n held = or_later (is_at_most s.cutoff n) (has_number n s.held) held

pub number_again_is : (r : Receiving) (low n : ℕ) → r.is_restarting ≡ false → answer_for r.numbering low ≡ extended.Number n → number_again r low ≡ Some n
number_again_is r low n running is = ap (λ (b : Bool). cond b None (number_within (answer_for r.numbering low))) running ∙ ap number_within is

pub would_not : (r : Receiving) (low n : ℕ) → r.is_restarting ≡ false → answer_for r.numbering low ≡ extended.Number n → is_dropped r.buffer n ≡ true → would_store r low ≡ false
would_not r low n running is dropped = ap (λ (o : Option ℕ). would_store_at o r) (number_again_is r low n running is) ∙ dropped_not_stored r.buffer n dropped

-- Numbers

-- a number within the backward window
pub block_answer : (s : Numbering) (g i : ℕ) → s.greatest ≡ Some g → i < g → g ≤ i + s.backward → s.forward + s.backward ≤ 65536 → 0 < s.forward → answer_for s (i % 65536) ≡ extended.Number i
block_answer s g i at less near apart some =
    let far : ahead g (i % 65536) ≡ 65536 + i - g = ahead_under g i less (omega (arith, near, apart, some)) in
    let back : behind g (i % 65536) ≡ g - i = behind_under g i less (omega (arith, near, apart, some)) in
    let not_ahead : ltb (ahead g (i % 65536)) s.forward ≡ false = le-ltb (ahead g (i % 65536)) s.forward (omega (arith, far, near, apart)) in
    let within : leb (behind g (i % 65536)) s.backward ≡ true = le-leb (behind g (i % 65536)) s.backward (omega (arith, back, near)) in
    let number : g - behind g (i % 65536) ≡ i = omega (arith, back, less) in
    ap (λ (o : Option ℕ). answer_by s o (i % 65536)) at ∙ rw (not_ahead, within, number) refl
  where
    ahead_under : (g i : ℕ) → i < g → g < i + 65536 → ahead g (i % 65536) ≡ 65536 + i - g
    ahead_under g i less near = omega arith

    behind_under : (g i : ℕ) → i < g → g < i + 65536 → behind g (i % 65536) ≡ g - i
    behind_under g i less near = omega arith

-- the packets with these indices come near the highest one before them
abbrev pub NearNumbers : (first forward back : ℕ) → Numbering → List ℕ → Type 0
NearNumbers first forward back n ks = ((n.greatest ≡ None) × ComeWithin forward back ks) ⊎ ((g : ℕ) × (n.greatest ≡ Some (first + g)) × StayWithin forward back g ks)

pub record IsNextNear (first forward back k : ℕ) (n : Numbering) (ks : List ℕ) : Type 0 where
  pub highest : ℕ
  pub is : n.greatest ≡ Some (first + highest)
  pub over : k ≤ highest
  pub near : highest ≤ k + back
  pub later : StayWithin forward back highest ks

near_step : (first forward back low k : ℕ) (n : Numbering) (ks : List ℕ) → NearNumbers first forward back n (k ∷ ks) → answer_for n low ≡ extended.Number (first + k)
    → IsNextNear first forward back k (numbering_after n low) ks
near_step first forward back low k n ks near is = by_case near
  where
    after : numbering_after n low ≡ record n { greatest = Some (greater n.greatest (first + k)) }
    after = ap (λ (e : Extended). numbering_with n e low) is

    by_case : NearNumbers first forward back n (k ∷ ks) → IsNextNear first forward back k (numbering_after n low) ks
    by_case (inl new) = record {
      highest = k;
      is = ap (λ (x : Numbering). x.greatest) after ∙ ap (λ (o : Option ℕ). Some (greater o (first + k))) new.0;
      over = omega arith;
      near = omega arith;
      later = new.1.1;
    }
    by_case (inr more) =
        let most : max (first + more.0) (first + k) ≡ first + max more.0 k = omega arith in
        record {
          highest = max more.0 k;
          is = ap (λ (x : Numbering). x.greatest) after ∙ (ap (λ (o : Option ℕ). Some (greater o (first + k))) more.1 ∙ ap (λ (m : ℕ). Some m) most);
          over = omega arith;
          near = let under = more.2.1 in omega (arith, under);
          later = more.2.2;
        }

-- The buffer is filled

module _ (l : RedSide) (start : State) (small : length (packets_of l.c.units) ≤ 65536) where
  abbrev packets : List Packet
  packets = packets_of l.c.units

  abbrev first : ℕ
  first = l.c.first

  distinct : (i j : ℕ) (p q : Packet) → slice_get packets i ≡ Some p → slice_get packets j ≡ Some q → p.rtp_time ≡ q.rtp_time → i ≡ j
  distinct i j p q p_there q_there same =
      let given = l.given in
      same_index l.red.receiver.step given.first_time i j (all_remembered packets) (remembered p) (remembered q) given.apart given.low_time given.some_step given.low_step
      (omega (arith, length-map packets remembered, small)) (slice_get-map remembered packets i ∙ ap (λ o. option_map remembered o) p_there)
      (slice_get-map remembered packets j ∙ ap (λ o. option_map remembered o) q_there) same

  -- each time that was seen is that of a packet that is held
  abbrev SeenHeld : Seen → State → Type 0
  SeenHeld seen s = (time : ℕ) → is_seen time seen.places ≡ true
      → (j : ℕ) × (q : Packet) × (slice_get packets j ≡ Some q) × (q.rtp_time ≡ time) × (has_number (first + j) s.held ≡ true)

  abbrev Still : State → State → Type 0
  Still s t = (n : ℕ) → has_number n s.held ≡ true → has_number n t.held ≡ true

  held_more : (seen : Seen) (s t : State) → Still s t → SeenHeld seen s → SeenHeld seen t
  held_more seen s t still known time is = let one = known time is in (one.0, one.1, one.2, one.3, still (first + one.0) one.4)

  seen_more : (x : SeenTime) (seen : Seen) (s : State) (j : ℕ) (q : Packet) → slice_get packets j ≡ Some q → q.rtp_time ≡ x.time → has_number (first + j) s.held ≡ true
      → SeenHeld seen s → SeenHeld (seen_with x seen) s
  seen_more x seen s j q there same held known time is = elim (seen_set seen.places seen.next time x is) [
    | inl here ↦ (j, q, there, same ∙ here, held)
    | inr later ↦ known time later
  ]

  -- nothing has left the buffer, and no number is without media
  pub record IsFillingUp (r : Receiving) (seen : Seen) : Type 0 where
    pub filling : Filling l.c start r.buffer
    pub no_media : r.no_media_numbers ≡ []
    pub seen_held : SeenHeld seen r.buffer

  -- a packet that repeats a block is held already
  not_repeated : (k : ℕ) (q : Packet) (r : Receiving) (seen : Seen) → slice_get packets k ≡ Some q → SeenHeld seen r.buffer → r.is_restarting ≡ false
      → answer_for r.numbering (q.number % 2 ^ 16) ≡ extended.Number q.number → is_repeat l.kinds seen r q.rtp_time (q.number % 2 ^ 16) ≡ false
  not_repeated k q r seen there known running is = by_block (has_block q.rtp_time seen.places) refl
    where
      number : q.number ≡ first + k
      number = number_at packets first k q l.c.numbered there

      by_block : (b : Bool) → has_block q.rtp_time seen.places ≡ b → ((is_some l.kinds.red && b) && would_store r (q.number % 2 ^ 16)) ≡ false
      by_block false none = ap (λ (a : Bool). a && would_store r (q.number % 2 ^ 16)) (and_no (is_some l.kinds.red) false refl)
      by_block true block =
          let one = known q.rtp_time (block_is_seen seen.places q.rtp_time block) in
          let same : one.0 ≡ k = distinct one.0 k one.1 q one.2 there one.3 in
          let held : has_number q.number r.buffer.held ≡ true = subst (λ (n : ℕ). has_number n r.buffer.held ≡ true) (ap (λ (n : ℕ). first + n) same ∙ sym number) one.4 in
          and_no (is_some l.kinds.red && true) (would_store r (q.number % 2 ^ 16)) (would_not r (q.number % 2 ^ 16) q.number running is (held_dropped r.buffer q.number held))

  -- a push while the buffer is filled
  record IsPushedIn (n : ℕ) (s t : State) : Type 0 where
    filling : Filling l.c start t
    has : has_number n t.held ≡ true
    still : Still s t

  pushed_in : (n : ℕ) (s t : State) (p : Held) (k : ℕ) (q : Packet) (meta : RtpMeta) → slice_get packets k ≡ Some q → l.c.known k q meta → p ≡ arrived s.depacketizer meta q.payload
      → meta.seq_no.0 ≡ n → t ≡ pushed s p → Filling l.c start s → IsPushedIn n s t
  pushed_in n s t p k q meta there known is number left filling =
      let push = fed_push l.c s p k q meta there known is 0 filling.beyond in
      let one = filled l.c.known l.c.clock_rate l.c.first l.c.kind l.c.faithful l.c.splits l.c.units l.c.lawful l.c.numbered start s p push filling in
      let number_p : p.meta.seq_no.0 ≡ n = ap (λ (h : Held). h.meta.seq_no.0) is ∙ number in
      record {
        filling = subst (Filling l.c start) (sym left) one.filling;
        has = subst (λ (x : State). has_number n x.held ≡ true) (sym left) (subst (λ (m : ℕ). has_number m (pushed s p).held ≡ true) number_p one.has);
        still = λ m h. subst (λ (x : State). has_number m x.held ≡ true) (sym left) (one.still m h);
      }

  -- Blocks while the buffer is filled

  record IsBlockIn (now : Ticks) (i : ℕ) (x y : Holding) : Type 0 where
    up : IsFillingUp y.packets y.seen
    has : has_number (first + i) y.packets.buffer.held ≡ true
    still : Still x.packets.buffer y.packets.buffer
    stores : StoresBlocks l now x.packets y.packets

  block_kept : (now : Ticks) (i : ℕ) (x y : Holding) → Steady l x.packets → IsFillingUp x.packets x.seen → has_number (first + i) x.packets.buffer.held ≡ true → y ≡ x → IsBlockIn now i x y
  block_kept now i x y steady up held same = subst (IsBlockIn now i x) (sym same) (record { up = up; has = held; still = λ n h. h; stores = stores_none l now x.packets x.packets refl steady })

  block_in_if : (b went_in : Bool) (k : ℕ) (now : Ticks) (a : Arrival) (x y : Holding) → Contains l.received (steps.Deliver k now) → (is : IsBlock packets l.writer first k now a)
      → IsPast (first + k) l.backward x.packets.numbering → Steady l x.packets → IsFillingUp x.packets x.seen → is_stored (outcome_at x.packets.buffer (first + is.index)) ≡ b
      → RecoversIf b (first + is.index) a x.packets went_in y.packets → y.seen ≡ block_seen went_in a.header.timestamp x.seen → IsBlockIn now is.index x y
  block_in_if false went_in k now a x y inside is past steady up not_stored recovers seen_is =
      let held = not_stored_held x.packets.buffer (first + is.index) up.filling.no_cutoff not_stored in
      let seen_same : y.seen ≡ x.seen = seen_is ∙ ap (λ (b : Bool). block_seen b a.header.timestamp x.seen) recovers.0 in
      let same : y ≡ x = ap (λ (r : Receiving). record { packets = r; seen = y.seen }) recovers.1 ∙ ap (λ (z : Seen). record { packets = x.packets; seen = z }) seen_same in
      block_kept now is.index x y steady up held same
  block_in_if true went_in k now a x y inside is past steady up is_new recovers seen_is =
      let stores = recovered_if l true went_in k (first + is.index) now a x.packets y.packets inside is past steady refl recovers in
      let pushes = pushes_block l went_in k (first + is.index) now a x.packets y.packets is steady recovers in
      let in_buffer = pushed_in (first + is.index) x.packets.buffer y.packets.buffer pushes.held is.index is.packet (meta_for a.now l.stream.clock_rate a.header (first + is.index)) is.there
      (block_known l k now a (first + is.index) inside is refl) pushes.held_is refl pushes.buffer up.filling in
      let seen_now : y.seen ≡ seen_with (record { time = a.header.timestamp; is_block = true }) x.seen = seen_is ∙ ap (λ (b : Bool). block_seen b a.header.timestamp x.seen) recovers.3 in
      record {
        up = record {
          filling = in_buffer.filling;
          no_media = stores.no_media ∙ up.no_media;
          seen_held = subst (λ (z : Seen). SeenHeld z y.packets.buffer) (sym seen_now)
              (seen_more (record { time = a.header.timestamp; is_block = true }) x.seen y.packets.buffer is.index is.packet is.there (sym is.time) in_buffer.has
              (held_more x.seen x.packets.buffer y.packets.buffer in_buffer.still up.seen_held));
        };
        has = in_buffer.has;
        still = in_buffer.still;
        stores = stores;
      }

  -- the highest number, as seen from a block of packet k
  record IsTight (k : ℕ) (n : Numbering) : Type 0 where
    highest : ℕ
    is : n.greatest ≡ Some (first + highest)
    over : k ≤ highest
    near : highest + 8 ≤ k + l.backward

  tight_same : (k : ℕ) (n m : Numbering) → m ≡ n → IsTight k n → IsTight k m
  tight_same k n m same tight = subst (IsTight k) (sym same) tight

  tight_past : (k : ℕ) (n : Numbering) → IsTight k n → IsPast (first + k) l.backward n
  tight_past k n tight =
      let over = tight.over in
      let near = tight.near in
      record { greatest = first + tight.highest; is = tight.is; over = omega (arith, over); near = omega (arith, near) }

  block_in : (seen : Bool) (k : ℕ) (now : Ticks) (a : Arrival) (x y : Holding) → Contains l.received (steps.Deliver k now) → (is : IsBlock packets l.writer first k now a)
      → IsTight k x.packets.numbering → Steady l x.packets → IsFillingUp x.packets x.seen → is_seen a.header.timestamp x.seen.places ≡ seen → RecoversUnseen seen a x y → IsBlockIn now is.index x y
  block_in true k now a x y inside is tight steady up seen_is same =
      let one = up.seen_held a.header.timestamp seen_is in
      let index : one.0 ≡ is.index = distinct one.0 is.index one.1 is.packet one.2 is.there (one.3 ∙ is.time) in
      block_kept now is.index x y steady up (subst (λ (n : ℕ). has_number (first + n) x.packets.buffer.held ≡ true) index one.4) same
  block_in false k now a x y inside is tight steady up seen_is done =
      let r : Receiving = x.packets in
      let below = is.below in
      let near_block = is.near in
      let over = tight.over in
      let near = tight.near in
      let forward_is = steady.forward_is in
      let backward_is = steady.backward_is in
      let answer : answer_for r.numbering ((first + is.index) % 65536) ≡ extended.Number (first + is.index) =
      block_answer r.numbering (first + tight.highest) (first + is.index) tight.is (omega (arith, below, over)) (omega (arith, near_block, near, backward_is))
      (omega (arith, forward_is, backward_is, l.apart)) (omega (arith, forward_is, l.some)) in
      let answer_low : answer_for r.numbering a.header.sequence_number ≡ extended.Number (first + is.index) = ap (answer_for r.numbering) is.low ∙ answer in
      let number : number_again_for r a.header.sequence_number a.header.timestamp ≡ Some (first + is.index) =
      again_without_former r a.header.sequence_number a.header.timestamp steady.times.1 ∙ number_again_is r a.header.sequence_number (first + is.index) steady.running answer_low in
      let recovers : RecoversIf (may_recover r (first + is.index)) (first + is.index) a r done.0 y.packets = subst (λ (o : Option ℕ). RecoversAs o a r done.0 y.packets) number done.1 in
      let may : may_recover r (first + is.index) ≡ is_stored (outcome_at r.buffer (first + is.index)) =
      ap (λ (ns : List ℕ). is_stored (outcome_at r.buffer (first + is.index)) && not (is_in (first + is.index) ns)) up.no_media ∙ and_true (is_stored (outcome_at r.buffer (first + is.index))) in
      block_in_if (is_stored (outcome_at r.buffer (first + is.index))) done.0 k now a x y inside is (tight_past k r.numbering tight) steady up refl
      (subst (λ (b : Bool). RecoversIf b (first + is.index) a r done.0 y.packets) may recovers) done.2
    where
      and_true : (b : Bool) → b && true ≡ b
      and_true true = refl
      and_true false = refl

  -- all blocks of a datagram
  record AreBlocksIn (now : Ticks) (all : List Arrival) (x y : Holding) : Type 0 where
    up : IsFillingUp y.packets y.seen
    has : (a : Arrival) (j : ℕ) (q : Packet) → IsIn a all → slice_get packets j ≡ Some q → a.header.timestamp ≡ q.rtp_time → has_number (first + j) y.packets.buffer.held ≡ true
    still : Still x.packets.buffer y.packets.buffer
    stores : StoresBlocks l now x.packets y.packets

  blocks_in : (all : List Arrival) (k : ℕ) (now : Ticks) (x y : Holding) → Contains l.received (steps.Deliver k now) → AreBlocks packets l.writer first k now all
      → IsTight k x.packets.numbering → Steady l x.packets → IsFillingUp x.packets x.seen → RecoversAll true all x y → AreBlocksIn now all x y
  blocks_in [] k now x y inside are tight steady up same = subst (AreBlocksIn now [] x) (sym same) (record {
    up = up;
    has = λ a j q is there time. absurd is;
    still = λ n h. h;
    stores = stores_none l now x.packets x.packets refl steady;
  })
  blocks_in (b ∷ more) k now x y inside are tight steady up done =
      let mid : Holding = done.0 in
      let one = block_in (is_seen b.header.timestamp x.seen.places) k now b x mid inside are.0 tight steady up refl done.1 in
      let rest = blocks_in more k now mid y inside are.1 (tight_same k x.packets.numbering mid.packets.numbering one.stores.numbering tight) one.stores.fed.steady one.up done.2 in
      record {
        up = rest.up;
        has = λ a j q is there time. elim is [
          | inl same ↦
              let index : are.0.index ≡ j = distinct are.0.index j are.0.packet q are.0.there there (sym are.0.time ∙ (ap (λ (z : Arrival). z.header.timestamp) (sym same) ∙ time)) in
              rest.still (first + j) (subst (λ (n : ℕ). has_number (first + n) mid.packets.buffer.held ≡ true) index one.has)
          | inr later ↦ rest.has a j q later there time
        ];
        still = λ n h. rest.still n (one.still n h);
        stores = stores_then l now x.packets mid.packets y.packets one.stores rest.stores;
      }

  -- a delivery while the buffer is filled
  pub record IsDeliveredIn (k : ℕ) (s t : Session) : Type 0 where
    pub up : IsFillingUp t.packets t.seen
    pub has : (j : ℕ) → j < length packets → Carries l.writer l.datagrams k j → has_number (first + j) t.packets.buffer.held ≡ true
    pub still : Still s.packets.buffer t.packets.buffer

  delivered_in : (k : ℕ) (now : Ticks) (datagram bytes : List ℕ) (s t : Session) (receipt : Receipt) → Tuned l s → Contains l.received (steps.Deliver k now) → slice_get l.written k ≡ Some datagram
      → IsCopy l.again datagram bytes → answer_for s.packets.numbering ((first + k) % 2 ^ 16) ≡ extended.Number (first + k) → IsTight k (numbering_after s.packets.numbering ((first + k) % 2 ^ 16))
      → IsFillingUp s.packets s.seen → (later : List ℕ) → Timely l s (k ∷ later) → DeliversWhole now bytes s receipt t → IsDeliveredIn k s t
  delivered_in k now datagram bytes s t receipt tuned inside there copy answer tight up later in_time delivers =
      let p = parts l k now datagram bytes s t receipt tuned inside there copy answer (λ q q_there is. not_repeated k q s.packets s.seen q_there up.seen_held tuned.steady.running is) later in_time delivers in
      let q : Packet = p.packet in
      let mid : Receiving = p.mid in
      let seen : Seen = seen_with (record { time = q.rtp_time; is_block = false }) s.seen in
      let own = pushed_in (first + k) s.packets.buffer mid.buffer (arrived s.packets.buffer.depacketizer (meta_for now l.stream.clock_rate (own_header l q) q.number) q.payload) k q
      (meta_for now l.stream.clock_rate (own_header l q) q.number) p.there (own_known l k now q inside) refl p.number p.stored.buffer up.filling in
      let mid_up : IsFillingUp mid seen = record {
        filling = own.filling;
        no_media = p.stored.no_media ∙ up.no_media;
        seen_held = seen_more (record { time = q.rtp_time; is_block = false }) s.seen mid.buffer k q p.there refl own.has (held_more s.seen s.packets.buffer mid.buffer own.still up.seen_held);
      } in
      let numbering : mid.numbering ≡ numbering_after s.packets.numbering ((first + k) % 2 ^ 16) = p.stored.numbering ∙ ap (λ (n : ℕ). numbering_after s.packets.numbering (n % 2 ^ 16)) p.number in
      let all = blocks_in p.arrivals k now (record { packets = mid; seen = seen }) p.end inside p.are (tight_same k (numbering_after s.packets.numbering ((first + k) % 2 ^ 16)) mid.numbering numbering tight) p.stored.fed.steady mid_up p.blocks in
      let has_end : (j : ℕ) → j < length packets → Carries l.writer l.datagrams k j → has_number (first + j) p.end.packets.buffer.held ≡ true = λ j less carries. elim carries [
        | inl same ↦ all.still (first + j) (subst (λ (n : ℕ). has_number (first + n) mid.buffer.held ≡ true) (sym same) own.has)
        | inr kept ↦
            let r : (r : Packet) × (slice_get packets j ≡ Some r) = slice_there packets j less in
            let kept_here : IsKeptIn l.writer.red l.writer.budget (all_remembered packets) j k = subst (λ (es : List Entry). IsKeptIn l.writer.red l.writer.budget es j k) l.entries kept in
            let found = kept_carried l.stream packets l.writer first k j now l.kinds l.red.receiver q r.0 l.given p.there p.number kept_here r.1 in
            all.has found.0 j r.0 (subst (IsIn found.0) (sym p.arrivals_are) found.1) r.1 found.2
      ] in
      let end_up : IsFillingUp t.packets t.seen = subst (λ (z : Seen). IsFillingUp t.packets z) (sym p.seen_is) (subst (λ (z : Receiving). IsFillingUp z p.end.seen) (sym p.packets_is) all.up) in
      record {
        up = end_up;
        has = λ j less carries. subst (λ (z : Receiving). has_number (first + j) z.buffer.held ≡ true) (sym p.packets_is) (has_end j less carries);
        still = λ n h. subst (λ (z : Receiving). has_number n z.buffer.held ≡ true) (sym p.packets_is) (all.still n (own.still n h));
      }

  -- All that comes before the end

  tight_next : (k back : ℕ) (n : Numbering) (ks : List ℕ) → back + 8 ≡ l.backward → IsNextNear first l.forward back k n ks → IsTight k n
  tight_next k back n ks wide next =
      let near = next.near in
      record { highest = next.highest; is = next.is; over = next.over; near = omega (arith, near, wide) }

  -- the receiver before the end of the stream: what the delivered datagrams carry is held
  pub record FillsAll (before after : List DatagramStep) (s : Session) (answers : List Answer) (t : Session) : Type 0 where
    pub mid : Session
    pub tuned : Tuned l mid
    pub numbers : AllNumbered first mid.packets.numbering (delivered after)
    pub in_time : Timely l mid (delivered after)
    pub up : IsFillingUp mid.packets mid.seen
    pub takes : RedTakes l.again (steps.Finish ∷ after) l.written mid answers t
    pub has : (carrier j : ℕ) → IsIn carrier (delivered before) → j < length packets → Carries l.writer l.datagrams carrier j → has_number (first + j) mid.packets.buffer.held ≡ true
    pub still : Still s.packets.buffer mid.packets.buffer

  pub fills : (back : ℕ) → back + 8 ≡ l.backward → (before after : List DatagramStep) (s t : Session) (answers : List Answer) → HaveNoPops before → Tuned l s
      → AllNumbered first s.packets.numbering (delivered (before ++ steps.Finish ∷ after)) → NearNumbers first l.forward back s.packets.numbering (delivered before)
      → Timely l s (delivered (before ++ steps.Finish ∷ after)) → IsFillingUp s.packets s.seen → ((step : DatagramStep) → IsIn step (before ++ steps.Finish ∷ after) → IsIn step l.received)
      → RedTakes l.again (before ++ steps.Finish ∷ after) l.written s answers t → FillsAll before after s answers t
  fills back wide [] after s t answers no_pops tuned numbers near in_time up inside takes =
      record { mid = s; tuned = tuned; numbers = numbers; in_time = in_time; up = up; takes = takes; has = λ carrier j is. absurd is; still = λ n h. h }
  fills back wide (steps.Send i ∷ before) after s t answers no_pops tuned numbers near in_time up inside takes =
      let rest = fills back wide before after s t answers no_pops tuned numbers near in_time up (λ step is. inside step (inr is)) takes in
      record { mid = rest.mid; tuned = rest.tuned; numbers = rest.numbers; in_time = rest.in_time; up = rest.up; takes = rest.takes; has = rest.has; still = rest.still }
  fills back wide (steps.Deliver k now ∷ before) after s t answers no_pops tuned numbers near in_time up inside takes =
      let mid : Session = takes.5 in
      let there : Contains l.received (steps.Deliver k now) = contains_in (steps.Deliver k now) l.received (inside (steps.Deliver k now) (inl refl)) in
      let later : List ℕ = delivered (before ++ steps.Finish ∷ after) in
      let one = deliver_fed l k now takes.0 takes.2 s mid takes.4 tuned there takes.1 takes.3 numbers.0 later in_time takes.6 in
      let next = near_step first l.forward back ((first + k) % 2 ^ 16) k s.packets.numbering (delivered before) near numbers.0 in
      let here = delivered_in k now takes.0 takes.2 s mid takes.4 tuned there takes.1 takes.3 numbers.0 (tight_next k back (numbering_after s.packets.numbering ((first + k) % 2 ^ 16)) (delivered before) wide next) up later in_time takes.6 in
      let near_after : NearNumbers first l.forward back mid.packets.numbering (delivered before) =
      subst (λ (n : Numbering). NearNumbers first l.forward back n (delivered before)) (sym one.numbering) (inr (next.highest, next.is, next.later)) in
      let numbers_after : AllNumbered first mid.packets.numbering (delivered (before ++ steps.Finish ∷ after)) =
      subst (λ (n : Numbering). AllNumbered first n (delivered (before ++ steps.Finish ∷ after))) (sym one.numbering) numbers.1 in
      let rest = fills back wide before after mid t answers no_pops one.tuned numbers_after near_after (one.timely later in_time) here.up (λ step is. inside step (inr is)) takes.7 in
      record {
        mid = rest.mid;
        tuned = rest.tuned;
        numbers = rest.numbers;
        in_time = rest.in_time;
        up = rest.up;
        takes = rest.takes;
        has = λ carrier j is less carries. elim is [
          | inl same ↦ rest.still (first + j) (here.has j less (subst (λ (n : ℕ). Carries l.writer l.datagrams n j) same carries))
          | inr later ↦ rest.has carrier j later less carries
        ];
        still = λ n h. rest.still n (here.still n h);
      }
  fills back wide (steps.Pop now ∷ before) after s t answers no_pops tuned numbers near in_time up inside takes = absurd no_pops
  fills back wide (steps.Finish ∷ before) after s t answers no_pops tuned numbers near in_time up inside takes =
      let at_end : takes.0 ≡ ended s = finish_is l s takes.0 tuned takes.1 in
      let rest = fills back wide before after (ended s) t answers no_pops (tuned_ended l s tuned) numbers near in_time
      (record { filling = up.filling; no_media = up.no_media; seen_held = up.seen_held }) (λ step is. inside step (inr is))
      (subst (λ (x : Session). RedTakes l.again (before ++ steps.Finish ∷ after) l.written x answers t) at_end takes.2) in
      record { mid = rest.mid; tuned = rest.tuned; numbers = rest.numbers; in_time = rest.in_time; up = rest.up; takes = rest.takes; has = rest.has; still = rest.still }

  -- After the end

  exactly_dropped : (k : ℕ) (rest : List SentUnit) (s : State) (j : ℕ) → Exactly l.c k rest s → j < length packets → is_dropped s (first + j) ≡ true
  exactly_dropped k rest s j exactly less = dropped l.c.known l.c.clock_rate l.c.first l.c.kind l.c.faithful l.c.splits l.c.units k j rest s exactly less

  -- each push is dropped
  feeds_dropped : (k : ℕ) (rest : List SentUnit) (now : Ticks) (ps : List Held) (s t : State) → Exactly l.c k rest s → Feeds l.c.known packets now ps s t → t ≡ s
  feeds_dropped k rest now [] s t exactly feeds = feeds
  feeds_dropped k rest now (p ∷ ps) s t exactly feeds =
      let there = feeds.3 in
      let number : p.meta.seq_no.0 ≡ first + feeds.0 =
      ap (λ (h : Held). h.meta.seq_no.0) feeds.6 ∙ (l.c.faithful.number feeds.0 feeds.1 feeds.2 feeds.4 ∙ number_at packets first feeds.0 feeds.1 l.c.numbered there) in
      let drop : is_dropped s (number_of p) ≡ true =
      subst (λ (n : ℕ). is_dropped s n ≡ true) (sym number) (exactly_dropped k rest s feeds.0 exactly (slice_get_within packets feeds.0 feeds.1 there)) in
      let same : pushed s p ≡ s = rw drop refl in
      feeds_dropped k rest now ps s t exactly (subst (λ (x : State). Feeds l.c.known packets now ps x t) same feeds.7)

  exactly_with : (k h : ℕ) (rest : List SentUnit) (s : State) → Exactly l.c k rest s → Exactly l.c k rest (record s { hold_back = h })
  exactly_with k h rest s e = record {
    row = e.row;
    rises = e.rises;
    next = e.next;
    count = e.count;
    lawful = e.lawful;
    numbered = e.numbered;
    one_time = e.one_time;
    reads = e.reads;
    may_go = e.may_go;
  }

  -- a delivery changes nothing
  after_delivery : (k : ℕ) (rest : List SentUnit) (j : ℕ) (now : Ticks) (datagram bytes : List ℕ) (s t : Session) (receipt : Receipt) → Tuned l s → Contains l.received (steps.Deliver j now)
      → slice_get l.written j ≡ Some datagram → IsCopy l.again datagram bytes → answer_for s.packets.numbering ((first + j) % 2 ^ 16) ≡ extended.Number (first + j) → Exactly l.c k rest s.packets.buffer
      → (later : List ℕ) → Timely l s (j ∷ later) → DeliversWhole now bytes s receipt t → t.packets.no_media_numbers ≡ s.packets.no_media_numbers
  after_delivery k rest j now datagram bytes s t receipt tuned inside there copy answer exactly later in_time delivers =
      let p = parts l j now datagram bytes s t receipt tuned inside there copy answer
      (λ q q_there is.
      let number : q.number ≡ first + j = number_at packets first j q l.c.numbered q_there in
      let late : is_dropped s.packets.buffer q.number ≡ true =
      subst (λ (n : ℕ). is_dropped s.packets.buffer n ≡ true) (sym number) (exactly_dropped k rest s.packets.buffer j exactly (slice_get_within packets j q q_there)) in
      and_no (is_some l.kinds.red && has_block q.rtp_time s.seen.places) (would_store s.packets (q.number % 2 ^ 16)) (would_not s.packets (q.number % 2 ^ 16) q.number tuned.steady.running is late)) later in_time delivers in
      let mid : Receiving = p.mid in
      let numbering : mid.numbering ≡ numbering_after s.packets.numbering ((first + j) % 2 ^ 16) = p.stored.numbering ∙ ap (λ (n : ℕ). numbering_after s.packets.numbering (n % 2 ^ 16)) p.number in
      let past : IsPast (first + j) l.backward mid.numbering =
      subst (IsPast (first + j) l.backward) (sym numbering) (subst (λ (b : ℕ). IsPast (first + j) b (numbering_after s.packets.numbering ((first + j) % 2 ^ 16))) tuned.steady.backward_is
      (past_number s.packets.numbering ((first + j) % 2 ^ 16) (first + j) answer)) in
      let stores = all_recovered l p.arrivals true j now (record { packets = mid; seen = seen_with (record { time = p.packet.rtp_time; is_block = false }) s.seen }) p.end inside p.are past p.stored.fed.steady p.blocks in
      ap (λ (r : Receiving). r.no_media_numbers) p.packets_is ∙ (stores.no_media ∙ p.stored.no_media)

  -- each pop returns the next unit
  pub answers_after : (later : List DatagramStep) (k : ℕ) (rest : List SentUnit) (s t : Session) (answers : List Answer) → Tuned l s → AllNumbered first s.packets.numbering (delivered later) → Timely l s (delivered later)
      → s.packets.no_media_numbers ≡ [] → s.packets.ended ≡ true → Exactly l.c k rest s.packets.buffer → ((step : DatagramStep) → IsIn step later → IsIn step l.received)
      → RedTakes l.again later l.written s answers t → AnswersAll l.c.known k rest answers
  answers_after [] k rest s t answers tuned numbers in_time none at_end exactly inside takes = subst (AnswersAll l.c.known k rest) (sym takes.0) tt
  answers_after (steps.Send i ∷ later) k rest s t answers tuned numbers in_time none at_end exactly inside takes =
      answers_after later k rest s t answers tuned numbers in_time none at_end exactly (λ step is. inside step (inr is)) takes
  answers_after (steps.Deliver j now ∷ later) k rest s t answers tuned numbers in_time none at_end exactly inside takes =
      let mid : Session = takes.5 in
      let there : Contains l.received (steps.Deliver j now) = contains_in (steps.Deliver j now) l.received (inside (steps.Deliver j now) (inl refl)) in
      let one = deliver_fed l j now takes.0 takes.2 s mid takes.4 tuned there takes.1 takes.3 numbers.0 (delivered later) in_time takes.6 in
      let same : mid.packets.buffer ≡ s.packets.buffer = feeds_dropped k rest now one.fed.ps s.packets.buffer mid.packets.buffer exactly one.fed.feeds in
      let none_after = after_delivery k rest j now takes.0 takes.2 s mid takes.4 tuned there takes.1 takes.3 numbers.0 exactly (delivered later) in_time takes.6 in
      answers_after later k rest mid t answers one.tuned (subst (λ (n : Numbering). AllNumbered first n (delivered later)) (sym one.numbering) numbers.1) (one.timely (delivered later) in_time) (none_after ∙ none)
      (one.fed.ended ∙ at_end) (subst (Exactly l.c k rest) (sym same) exactly) (λ step is. inside step (inr is)) takes.7
  answers_after (steps.Pop now ∷ later) k rest s t answers tuned numbers in_time none at_end exactly inside takes =
      let mid : Session = takes.2 in
      let one = pop_once l now takes.0 s mid tuned takes.4 takes.5 in
      let settled_is : settled s.packets ≡ s.packets = settled_none s.packets none in
      let wait : one.wait ≡ Some 0 = one.wait_is ∙ waits_for_nothing (settled s.packets) now.0 at_end in
      let up : one.up ≡ s.packets.buffer = one.up_is ∙ ap (λ (r : Receiving). r.buffer) settled_is in
      let pops : PopsWaiting (Some 0) s.packets.buffer takes.0 mid.packets.buffer =
      subst (λ (x : State). PopsWaiting (Some 0) x takes.0 mid.packets.buffer) up (subst (λ (o : Option ℕ). PopsWaiting o one.up takes.0 mid.packets.buffer) wait one.pops) in
      subst (AnswersAll l.c.known k rest) (sym takes.3)
      (pop_answers l.c.known l.c.clock_rate l.c.first l.c.kind l.c.faithful l.c.splits l.c.units k rest (record s.packets.buffer { hold_back = 0 }) mid.packets.buffer takes.0 takes.1
      (exactly_with k 0 rest s.packets.buffer exactly) pops.0 pops.1
      (λ n left next. answers_after later n left mid t takes.1 one.tuned (subst (λ (m : Numbering). AllNumbered first m (delivered later)) (sym one.numbering) numbers)
      (one.timely (delivered later) in_time) (one.no_media ∙ (ap (λ (r : Receiving). r.no_media_numbers) settled_is ∙ none)) (one.ended ∙ at_end) next (λ step is. inside step (inr is)) takes.6))
  answers_after (steps.Finish ∷ later) k rest s t answers tuned numbers in_time none at_end exactly inside takes =
      let is : takes.0 ≡ ended s = finish_is l s takes.0 tuned takes.1 in
      answers_after later k rest (ended s) t answers (tuned_ended l s tuned) numbers in_time none refl exactly (λ step is. inside step (inr is)) (subst (λ (x : Session). RedTakes l.again later l.written x answers t) is takes.2)

  -- all units
  pub answers_exactly : (before after : List DatagramStep) (s t : Session) (answers : List Answer) → MayGo l.c.units start.depacketizer start.contiguity
      → (filled_all : FillsAll before after s answers t) → ((step : DatagramStep) → IsIn step after → IsIn step l.received)
      → ((j : ℕ) → j < length packets → has_number (first + j) filled_all.mid.packets.buffer.held ≡ true) → AnswersAll l.c.known 0 l.c.units answers
  answers_exactly before after s t answers may filled_all inside all =
      let mid : Session = filled_all.mid in
      let exactly = full_at_pop l.c start mid.packets.buffer filled_all.up.filling may all in
      let is : filled_all.takes.0 ≡ ended mid = finish_is l mid filled_all.takes.0 filled_all.tuned filled_all.takes.1 in
      answers_after after 0 l.c.units (ended mid) t answers (tuned_ended l mid filled_all.tuned) filled_all.numbers filled_all.in_time filled_all.up.no_media refl exactly inside
      (subst (λ (x : Session). RedTakes l.again after l.written x answers t) is filled_all.takes.2)
