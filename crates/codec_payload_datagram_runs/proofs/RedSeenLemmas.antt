-- The RTP times that a receiver of RED remembers are those of packets that were pushed: each is held, or at or below the cutoff.
use Rattle.std.proofs.Common.{◌≡◌, ◌≢◌, ◌∙◌, refl, sym, ap, subst, ℕ, zero, suc, ◌+◌, ◌-◌, ◌*◌, ◌%◌, ◌^◌, ◌<◌, ◌≤◌, inl, inr, ◌||◌, List, [], ◌∷◌}
use Rattle.std.proofs.Common.{Bool, true, false, cond, eqb, ltb, leb, Option, Some, None, Ok, Err, length, arith}
use Rattle.std.specs.Prelude.{slice_get, slice_set}
use Rattle.std.specs.Option.{option_map}
use Rattle.std.proofs.Math.Nat.{mul-le-mul_left}
use Rattle.std.proofs.lemmas.Bool.{cases_lt, eq-eqb, eqb-true, le-leb, leb-true}
use Rattle.std.proofs.lemmas.Option.{slice_get-map}
use Rattle.codec_payload_buffer.proofs.PlaceLemmas.{placed_above_cutoff}
use Rattle.codec_payload_buffer.proofs.PopLemmas.{order_due}
use Rattle.codec_payload_buffer.proofs.StretchLemmas.{has_placed}
use Rattle.codec_payload_buffer.specs.Held.{Held, IsAboveCutoff, above, has_number, number_of, placed}
use Rattle.codec_payload_buffer.specs.Steps.{Passes, State, due_of, is_at_most, is_dropped, kept_to_limit, none, one_more, pushed, without_lowest}
use Rattle.codec_payload_buffer.specs.declared.buffer.frames.CompleteFrame.{CompleteFrame}
use Rattle.codec_payload_codec.proofs.CaseLemmas.{by_test}
use Rattle.codec_payload_buffer_runs.proofs.order.ContiguousLemmas.{due_higher}
use Rattle.codec_payload_buffer_runs.proofs.order.TurnLemmas.{Beyond, IsPop, Setting, or_cases, passed_beyond, releases, waits}
use Rattle.codec_payload_buffer_runs.proofs.order.WholeLemmas.{has_above}
use Rattle.codec_payload_buffer_runs.specs.RedSchedule.{all_remembered, remembered}
use Rattle.codec_payload_buffer_runs.specs.Schedule.{Answer}
use Rattle.codec_payload_buffer_runs.specs.SentStream.{packets_of}
use Rattle.codec_payload_payloader.specs.Packets.{Packet}
use Rattle.codec_payload_red.specs.RedLevels.{Entry}
use Rattle.codec_payload_numbers.specs.SeenTimes.{Seen, is_seen, none_seen, seen_with}
use Rattle.codec_payload_datagram_runs.proofs.RedExactLemmas.{SeenTime, entry_time, no_wrap, or_later}
use Rattle.codec_payload_datagram_runs.proofs.RedReceivingLemmas.{RedSide}

-- What was pushed stays so

or_first : (a b : Bool) → a ≡ true → a || b ≡ true
or_first true b h = refl
or_first false b h = absurd (cc)

lowest_dropped : (s : State) (hs : List Held) (n : ℕ) → hs ≡ s.held → IsAboveCutoff s.cutoff s.held → is_dropped s n ≡ true → is_dropped (without_lowest s hs) n ≡ true
lowest_dropped s [] n is over dropped = dropped
lowest_dropped s (q ∷ qs) n is over dropped = elim (or_cases (is_at_most s.cutoff n) (has_number n s.held) dropped) [
  | inl late ↦ or_first (leb n (number_of q)) (has_number n qs) (low s.cutoff (subst (IsAboveCutoff s.cutoff) (sym is) over) late)
  | inr held ↦ elim (or_cases (eqb (number_of q) n) (has_number n qs) (ap (has_number n) is ∙ held)) [
    | inl here ↦
        let same : number_of q ≡ n = eqb-true (number_of q) n here in
        or_first (leb n (number_of q)) (has_number n qs) (le-leb n (number_of q) (omega (arith, same)))
    | inr later ↦ or_later (leb n (number_of q)) (has_number n qs) later
  ]
]
  where
    low : (c : Option ℕ) → IsAboveCutoff c (q ∷ qs) → is_at_most c n ≡ true → leb n (number_of q) ≡ true
    low None over late = absurd (cc)
    low (Some c) over late = let under = leb-true n c late in le-leb n (number_of q) (omega (arith, under, over.0))

kept_dropped : (s : State) (n : ℕ) → IsAboveCutoff s.cutoff s.held → is_dropped s n ≡ true → is_dropped (kept_to_limit s) n ≡ true
kept_dropped s n over dropped =
    by_test (ltb s.limit (length s.held)) (λ b. is_dropped (cond b (without_lowest s s.held) s) n ≡ true) (λ e. lowest_dropped s s.held n refl over dropped) (λ e. dropped)

placed_dropped : (s : State) (p : Held) (n : ℕ) → is_dropped s n ≡ true → is_dropped (record s { held = placed p s.held }) n ≡ true
placed_dropped s p n dropped =
    ap (λ (b : Bool). is_at_most s.cutoff n || b) (has_placed n p s.held) ∙ more (is_at_most s.cutoff n) (eqb (number_of p) n) (has_number n s.held) dropped
  where
    more : (a b d : Bool) → a || d ≡ true → a || (b || d) ≡ true
    more true b d h = refl
    more false true d h = refl
    more false false d h = h

placed_there : (s : State) (p : Held) → is_dropped (record s { held = placed p s.held }) (number_of p) ≡ true
placed_there s p =
    let same : eqb (number_of p) (number_of p) ≡ true = eq-eqb (number_of p) (number_of p) refl in
    or_later (is_at_most s.cutoff (number_of p)) (has_number (number_of p) (placed p s.held))
    (has_placed (number_of p) p s.held ∙ or_first (eqb (number_of p) (number_of p)) (has_number (number_of p) s.held) same)

-- a push keeps what was pushed before, and the packet counts as pushed
pub dropped_after : (s : State) (p : Held) (n : ℕ) → IsAboveCutoff s.cutoff s.held → is_dropped s n ≡ true → is_dropped (pushed s p) n ≡ true
dropped_after s p n over dropped =
    by_test (is_dropped s (number_of p)) (λ b. is_dropped (cond b s (kept_to_limit (record s { held = placed p s.held }))) n ≡ true)
    (λ e. dropped)
    (λ e. kept_dropped (record s { held = placed p s.held }) n (placed_above_cutoff s.cutoff p s.held (grind (arith, e)) over) (placed_dropped s p n dropped))

pub push_drops : (s : State) (p : Held) → IsAboveCutoff s.cutoff s.held → is_dropped (pushed s p) (number_of p) ≡ true
push_drops s p over =
    by_test (is_dropped s (number_of p)) (λ b. is_dropped (cond b s (kept_to_limit (record s { held = placed p s.held }))) (number_of p) ≡ true)
    (λ e. e)
    (λ e. kept_dropped (record s { held = placed p s.held }) (number_of p) (placed_above_cutoff s.cutoff p s.held (grind (arith, e)) over) (placed_there s p))

-- a packet that was pushed before is not stored again
pub pushed_again : (s : State) (p : Held) → is_dropped s (number_of p) ≡ true → pushed s p ≡ s
pushed_again s p dropped = rw dropped refl

-- the frame that is due has left
frame_left : (s t : State) (f : CompleteFrame) (n : ℕ) → IsAboveCutoff s.cutoff s.held → due_of s ≡ Some f → t.held ≡ above f.last s.held → t.cutoff ≡ Some f.last → is_dropped s n ≡ true
    → is_dropped t n ≡ true
frame_left s t f n over due held cutoff dropped = elim (cases_lt f.last n) [
  | inr low ↦ or_first (is_at_most t.cutoff n) (has_number n t.held) (ap (λ (o : Option ℕ). is_at_most o n) cutoff ∙ le-leb n f.last low)
  | inl high ↦ elim (or_cases (is_at_most s.cutoff n) (has_number n s.held) dropped) [
    | inl late ↦ absurd (not_late s.cutoff refl late high)
    | inr there ↦ or_later (is_at_most t.cutoff n) (has_number n t.held) (ap (has_number n) held ∙ has_above n f.last s.held high there)
  ]
]
  where
    not_late : (c : Option ℕ) → s.cutoff ≡ c → is_at_most c n ≡ true → f.last < n → ⊥
    not_late None at late high = cc
    not_late (Some c) at late high =
        let under = leb-true n c late in
        let before = due_higher s f over due c at in
        let order = order_due s f due in
        omega (arith, under, before, order, high)

module _ (c : Setting) where
  passes_drop : (from : ℕ) (s t : State) (over : List CompleteFrame) (n : ℕ) → Beyond c from s → Passes s over t → is_dropped s n ≡ true → is_dropped t n ≡ true
  passes_drop from s t over n beyond none dropped = dropped
  passes_drop from s v over n beyond (one_more {t = t} passes p) dropped =
      let mid = passed_beyond c from s t _ beyond passes in
      frame_left t v p.frame n mid.beyond p.is_due (ap (λ (x : State). x.held) p.left) (ap (λ (x : State). x.cutoff) p.left) (passes_drop from s t _ n beyond passes dropped)

  -- a pop
  pub pop_drops : (from : ℕ) (s t : State) (over : List CompleteFrame) (a : Answer) (n : ℕ) → Beyond c from s → IsPop c s t over a → is_dropped s n ≡ true → is_dropped t n ≡ true
  pop_drops from s t over None n beyond (waits passes nothing) dropped = passes_drop from s t over n beyond passes dropped
  pop_drops from s t over (Some (Ok r)) n beyond (releases mid passes out) dropped =
      let there = passed_beyond c from s mid over beyond passes in
      frame_left mid t out.frame n there.beyond out.is_due (ap (λ (x : State). x.held) out.left) (ap (λ (x : State). x.cutoff) out.left) (passes_drop from s mid over n beyond passes dropped)
  pop_drops from s t over (Some (Err fault)) n beyond pop dropped = elim pop [ ]

-- Places

-- a fact about each place from `low` on
abbrev pub AtEach : (ℕ → SeenTime → Type 0) → ℕ → List (Option SeenTime) → Type 0
AtEach P low [] = Unit {0}
AtEach P low (None ∷ places) = AtEach P (low + 1) places
AtEach P low (Some x ∷ places) = P low x × AtEach P (low + 1) places

pub at_each : (P Q : ℕ → SeenTime → Type 0) → ((n : ℕ) (x : SeenTime) → P n x → Q n x) → (low : ℕ) (places : List (Option SeenTime)) → AtEach P low places → AtEach Q low places
at_each P Q so low [] all = tt
at_each P Q so low (None ∷ places) all = at_each P Q so (low + 1) places all
at_each P Q so low (Some x ∷ places) all = (so low x all.0, at_each P Q so (low + 1) places all.1)

-- the places after this one
others : (P Q : ℕ → SeenTime → Type 0) (place : ℕ) → ((n : ℕ) (x : SeenTime) → n < 64 → n ≢ place → P n x → Q n x) → (low : ℕ) (places : List (Option SeenTime))
    → place < low → low + length places ≤ 64 → AtEach P low places → AtEach Q low places
others P Q place so low [] after few all = tt
others P Q place so low (None ∷ places) after few all = others P Q place so (low + 1) places (omega (arith, after)) (omega (arith, few)) all
others P Q place so low (Some x ∷ places) after few all =
    (so low x (omega (arith, few)) (λ same. omega (arith, same, after)) all.0, others P Q place so (low + 1) places (omega (arith, after)) (omega (arith, few)) all.1)

-- a place is written
pub at_written : (P Q : ℕ → SeenTime → Type 0) (place : ℕ) (y : SeenTime) → ((n : ℕ) (x : SeenTime) → n < 64 → n ≢ place → P n x → Q n x) → Q place y
    → (low i : ℕ) (places : List (Option SeenTime)) → place ≡ low + i → low + length places ≤ 64 → AtEach P low places → AtEach Q low (slice_set places i (Some y))
at_written P Q place y so one low i [] at few all = tt
at_written P Q place y so one low zero (None ∷ places) at few all =
    let here : place ≡ low = omega (arith, at) in
    (subst (λ (n : ℕ). Q n y) here one, others P Q place so (low + 1) places (omega (arith, at)) (omega (arith, few)) all)
at_written P Q place y so one low zero (Some x ∷ places) at few all =
    let here : place ≡ low = omega (arith, at) in
    (subst (λ (n : ℕ). Q n y) here one, others P Q place so (low + 1) places (omega (arith, at)) (omega (arith, few)) all.1)
at_written P Q place y so one low (suc i) (None ∷ places) at few all = at_written P Q place y so one (low + 1) i places (omega (arith, at)) (omega (arith, few)) all
at_written P Q place y so one low (suc i) (Some x ∷ places) at few all =
    (so low x (omega (arith, few)) (λ same. omega (arith, same, at)) all.0, at_written P Q place y so one (low + 1) i places (omega (arith, at)) (omega (arith, few)) all.1)

-- a remembered time is at a place
pub seen_at_place : (P : ℕ → SeenTime → Type 0) (time low : ℕ) (places : List (Option SeenTime)) → AtEach P low places → is_seen time places ≡ true → (n : ℕ) × (x : SeenTime) × P n x × (x.time ≡ time)
seen_at_place P time low [] all is = absurd (cc)
seen_at_place P time low (None ∷ places) all is = seen_at_place P time (low + 1) places all is
seen_at_place P time low (Some x ∷ places) all is = elim (or_cases (eqb x.time time) (is_seen time places) is) [
  | inl here ↦ (low, x, all.0, eqb-true x.time time here)
  | inr later ↦ seen_at_place P time (low + 1) places all.1 later
]

length_written : (places : List (Option SeenTime)) (i : ℕ) (x : Option SeenTime) → length (slice_set places i x) ≡ length places
length_written [] i x = refl
length_written (y ∷ places) zero x = refl
length_written (y ∷ places) (suc i) x = ap suc (length_written places i x)

-- at first no place has a time
pub none_at : (P : ℕ → SeenTime → Type 0) → AtEach P 0 none_seen.places
none_at P = tt

-- how many times were remembered after that of a place
abbrev pub age : (next place : ℕ) → ℕ
age next place = (next + 63 - place) % 64

older : (next place : ℕ) → next < 64 → place < 64 → place ≢ next → age ((next + 1) % 64) place ≡ age next place + 1
older next place small low other = omega (arith, small, low, other)

newest : (next : ℕ) → next < 64 → age ((next + 1) % 64) next ≡ 0
newest next small = omega (arith, small)

-- Times

-- two packets within a turn of the clock have different times
turned : (step time i j most : ℕ) → 0 < step → most * step ≤ 2 ^ 32 → i < j → j < i + most → (time + i * step) % 2 ^ 32 ≡ (time + j * step) % 2 ^ 32 → ⊥
turned step time i j most some turn less near same =
    let d : ℕ = j - i in
    let is : j ≡ i + d = omega (arith, less) in
    let one : step * 1 ≤ step * d = mul-le-mul_left step (omega (arith, less)) in
    let all : step * (d + 1) ≤ step * most = mul-le-mul_left step (omega (arith, near, less)) in
    let split : j * step ≡ i * step + step * d = omega (arith, ap (λ (n : ℕ). n * step) is) in
    no_wrap time (i * step) (step * d) (omega (arith, one, some)) (omega (arith, all, turn, some)) (same ∙ ap (λ (n : ℕ). (time + n) % 2 ^ 32) split)

module _ (l : RedSide) (jump : ℕ) where
  abbrev packets : List Packet
  packets = packets_of l.c.units

  -- this number of packets is within a turn
  abbrev pub most : ℕ
  most = 64 * jump + l.backward + 9

  pub distinct : most * l.red.receiver.step ≤ 2 ^ 32 → (i j : ℕ) (p q : Packet) → slice_get packets i ≡ Some p → slice_get packets j ≡ Some q → p.rtp_time ≡ q.rtp_time
      → i < j + most → j < i + most → i ≡ j
  distinct turn i j p q p_there q_there same low high =
      let given = l.given in
      let sent : List Entry = all_remembered packets in
      let step : ℕ = l.red.receiver.step in
      let start : ℕ = given.first_time in
      let time_i : p.rtp_time ≡ (start + i * step) % 2 ^ 32 =
      entry_time step start i sent (remembered p) given.apart given.low_time (slice_get-map remembered packets i ∙ ap (λ o. option_map remembered o) p_there) in
      let time_j : q.rtp_time ≡ (start + j * step) % 2 ^ 32 =
      entry_time step start j sent (remembered q) given.apart given.low_time (slice_get-map remembered packets j ∙ ap (λ o. option_map remembered o) q_there) in
      let times : (start + i * step) % 2 ^ 32 ≡ (start + j * step) % 2 ^ 32 = sym time_i ∙ (same ∙ time_j) in
      elim (cases_lt i j) [
        | inl less ↦ absurd (turned step start i j most given.some_step turn less high times)
        | inr more ↦ elim (cases_lt j i) [
          | inl greater ↦ absurd (turned step start j i most given.some_step turn greater low (sym times))
          | inr equal ↦ omega (arith, more, equal)
        ]
      ]

  -- What is remembered

  -- the time is that of a packet that was pushed, `old` times ago; `highest` is the highest index of a delivered datagram
  pub record IsOfPushed (highest old : ℕ) (s : State) (time : ℕ) : Type 0 where
    pub index : ℕ
    pub packet : Packet
    pub there : slice_get packets index ≡ Some packet
    pub time_is : packet.rtp_time ≡ time
    pub below : index ≤ highest
    pub near : highest ≤ index + jump * old + l.backward + 8
    pub dropped : is_dropped s (l.c.first + index) ≡ true

  -- so it is with each remembered time
  pub record IsRing (highest : ℕ) (s : State) (seen : Seen) : Type 0 where
    pub next : seen.next < 64
    pub places : length seen.places ≡ 64
    pub each : AtEach (λ n x. IsOfPushed highest (age seen.next n) s x.time) 0 seen.places

  -- the same, one datagram later
  pub record IsOlder (highest : ℕ) (s : State) (seen : Seen) : Type 0 where
    pub next : seen.next < 64
    pub places : length seen.places ≡ 64
    pub each : AtEach (λ n x. IsOfPushed highest (age seen.next n + 1) s x.time) 0 seen.places

  pub none_ring : (highest : ℕ) (s : State) → IsOlder highest s none_seen
  none_ring highest s = record { next = omega arith; places = refl; each = none_at (λ n x. IsOfPushed highest (age 0 n + 1) s x.time) }

  -- the next datagram is at most `jump` higher
  pub grow_older : (highest higher : ℕ) (s : State) (seen : Seen) → highest ≤ higher → higher ≤ highest + jump → IsRing highest s seen → IsOlder higher s seen
  grow_older highest higher s seen up jumps ring = record {
    next = ring.next;
    places = ring.places;
    each = at_each (λ n x. IsOfPushed highest (age seen.next n) s x.time) (λ n x. IsOfPushed higher (age seen.next n + 1) s x.time)
        (λ n x one. record {
          index = one.index;
          packet = one.packet;
          there = one.there;
          time_is = one.time_is;
          below = let low = one.below in omega (arith, low, up);
          near = let near = one.near in omega (arith, near, jumps);
          dropped = one.dropped;
        }) 0 seen.places ring.each;
  }

  -- more was pushed
  pub ring_kept : (highest : ℕ) (s t : State) (seen : Seen) → ((n : ℕ) → is_dropped s n ≡ true → is_dropped t n ≡ true) → IsRing highest s seen → IsRing highest t seen
  ring_kept highest s t seen still ring = record {
    next = ring.next;
    places = ring.places;
    each = at_each (λ n x. IsOfPushed highest (age seen.next n) s x.time) (λ n x. IsOfPushed highest (age seen.next n) t x.time)
        (λ n x one. record {
          index = one.index;
          packet = one.packet;
          there = one.there;
          time_is = one.time_is;
          below = one.below;
          near = one.near;
          dropped = still (l.c.first + one.index) one.dropped;
        }) 0 seen.places ring.each;
  }

  pub older_kept : (highest : ℕ) (s t : State) (seen : Seen) → ((n : ℕ) → is_dropped s n ≡ true → is_dropped t n ≡ true) → IsOlder highest s seen → IsOlder highest t seen
  older_kept highest s t seen still ring = record {
    next = ring.next;
    places = ring.places;
    each = at_each (λ n x. IsOfPushed highest (age seen.next n + 1) s x.time) (λ n x. IsOfPushed highest (age seen.next n + 1) t x.time)
        (λ n x one. record {
          index = one.index;
          packet = one.packet;
          there = one.there;
          time_is = one.time_is;
          below = one.below;
          near = one.near;
          dropped = still (l.c.first + one.index) one.dropped;
        }) 0 seen.places ring.each;
  }

  -- one more time is remembered
  pub ring_with : (highest : ℕ) (s : State) (seen : Seen) (y : SeenTime) → IsOlder highest s seen → IsOfPushed highest 0 s y.time → IsRing highest s (seen_with y seen)
  ring_with highest s seen y ring one =
      let next : ℕ = (seen.next + 1) % 64 in
      let few : 0 + length seen.places ≤ 64 = omega (arith, ring.places) in
      record {
        next = omega arith;
        places = length_written seen.places seen.next (Some y) ∙ ring.places;
        each = at_written (λ n x. IsOfPushed highest (age seen.next n + 1) s x.time) (λ n x. IsOfPushed highest (age next n) s x.time) seen.next y
            (λ n x low other old. subst (λ (a : ℕ). IsOfPushed highest a s x.time) (sym (older seen.next n ring.next low other)) old)
            (subst (λ (a : ℕ). IsOfPushed highest a s y.time) (sym (newest seen.next ring.next)) one)
            0 seen.next seen.places (omega arith) few ring.each;
      }

  -- a remembered time
  pub found_older : (highest : ℕ) (s : State) (seen : Seen) (time : ℕ) → IsOlder highest s seen → is_seen time seen.places ≡ true → (old : ℕ) × IsOfPushed highest old s time × (old ≤ 64)
  found_older highest s seen time ring is =
      let at = seen_at_place (λ n x. IsOfPushed highest (age seen.next n + 1) s x.time) time 0 seen.places ring.each is in
      (age seen.next at.0 + 1, subst (IsOfPushed highest (age seen.next at.0 + 1) s) at.3 at.2, omega arith)
