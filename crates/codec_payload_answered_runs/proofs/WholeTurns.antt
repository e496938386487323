-- The pops of a buffer in which each gap is filled: each returns nothing, or the next unit, whole.
use Rattle.std.proofs.Common.{◌≡◌, ◌∙◌, refl, sym, ap, subst, ℕ, zero, suc, ◌+◌, ◌-◌, ◌^◌, ◌<◌, ◌≤◌, ◌⊎◌, ◌||◌, ◌&&◌, not, inl, inr, Bool, true, false, List, [], ◌∷◌, Option, Some, None, Ok, Err, arith, cond, drop, eqb, filter, leb, length, ltb, map, max, take}
use Rattle.std.specs.Prelude.{Contains, slice_get}
use Rattle.std.proofs.lemmas.Bool.{cases_lt, leb-false, leb-true}
use Rattle.std.proofs.lemmas.Bool.Decides.{nat_tests}
use Rattle.codec_payload_base.specs.declared.wire.Ticks.{Ticks}
use Rattle.codec_payload_codec.proofs.CaseLemmas.{by_test}
use Rattle.codec_payload_buffer.proofs.FrameEnds.{few_frames}
use Rattle.codec_payload_buffer.proofs.FrameLemmas.{are_frames}
use Rattle.codec_payload_buffer.proofs.MemberLemmas.{IsIn, in_contains}
use Rattle.codec_payload_buffer.proofs.StretchLemmas.{in_number, range_in}
use Rattle.codec_payload_buffer.specs.Blanks.{ready_since_among, ready_since_of, received_of}
use Rattle.codec_payload_buffer.specs.Frames.{IsFrame, frames}
use Rattle.codec_payload_buffer.specs.Held.{AllAbove, Held, IsAboveCutoff, Rises, above, has_number, number_of}
use Rattle.codec_payload_buffer.specs.Steps.{Releases, State, due_among, due_of, is_at_most, pushed, starts_right_after}
use Rattle.codec_payload_buffer.specs.Stretches.{counts, last_or, numbers_from}
use Rattle.codec_payload_buffer.specs.declared.buffer.frames.CompleteFrame.{CompleteFrame}
use Rattle.codec_payload_buffer_runs.proofs.order.HoldBackLemmas.{ready_with}
use Rattle.codec_payload_buffer_runs.proofs.order.LossLemmas.{Whole, due_whole, no_length, whole_release}
use Rattle.codec_payload_buffer_runs.proofs.order.SafetyLemmas.{before_later, before_next, lawful_at}
use Rattle.codec_payload_buffer_runs.proofs.order.TakenLemmas.{IsPlain, stays_plain}
use Rattle.codec_payload_buffer_runs.proofs.order.TurnLemmas.{Beyond, FrameOf, IsPop, IsPush, IsReady, IsSpan, Setting, count, few_released, frame_due, or_cases, pop_is, releases, span_left, span_ready, span_within, waits}
use Rattle.codec_payload_buffer_runs.proofs.order.WholeLemmas.{has_above, some_packets}
use Rattle.codec_payload_buffer_runs.specs.Headline.{packets_before}
use Rattle.codec_payload_buffer_runs.specs.Log.{Stretch}
use Rattle.codec_payload_buffer_runs.specs.RunOrder.{numbers_in}
use Rattle.codec_payload_buffer_runs.specs.RunUnits.{IsNext, count_after}
use Rattle.codec_payload_buffer_runs.specs.Schedule.{Answer}
use Rattle.codec_payload_buffer_runs.specs.SentStream.{SentUnit}
use Rattle.codec_payload_jitter.specs.Receiving.{Receiving, has_little_room, is_overdue, is_pressed, is_starting}
use Rattle.codec_payload_jitter.specs.Waiting.{most_held_back}
use Rattle.codec_payload_metadata.specs.Release.{Release}
use Rattle.codec_payload_datagram_runs.proofs.HeldLemmas.{AllHeld, all_above, all_in, all_mapped, all_pushed}
use Rattle.codec_payload_datagram_runs.specs.WireLogs.{AnswersTurn, wait_of}
use Rattle.codec_payload_timely_runs.proofs.FirstFrames.{last_received}
use Rattle.codec_payload_timely_runs.proofs.WaitLemmas.{wait_by}
use Rattle.codec_payload_answered_runs.specs.FilledGaps.{AreFilledAt, Came, CameAt, StartsWhole, WaitsByTime, first_size, has_come}

-- Lists

get_below : {X : Type 0} (xs : List X) (p q : ℕ) (x : X) → slice_get xs q ≡ Some x → p ≤ q → (y : X) × (slice_get xs p ≡ Some y)
get_below [] p q x at le = absurd (cc)
get_below (y ∷ ys) zero q x at le = (y, refl)
get_below (y ∷ ys) (suc p) zero x at le = absurd (omega (arith, le))
get_below (y ∷ ys) (suc p) (suc q) x at le = get_below ys p q x at (omega (arith, le))

-- how many numbers of a range pass a test that passes from a up to high alone
pub few_between : (test : ℕ → Bool) (a high low n : ℕ) → ((x : ℕ) → test x ≡ true → (a ≤ x) × (x < high)) → length (filter test (numbers_from low n)) ≤ high - max low a
few_between test a high low zero within = omega arith
few_between test a high low (suc n) within =
    let rest = few_between test a high (low + 1) n within in
    by_test (test low) (λ b. test low ≡ b → length (cond b (low ∷ filter test (numbers_from (low + 1) n)) (filter test (numbers_from (low + 1) n))) ≤ high - max low a)
    (λ t e. let here = within low e in omega (arith, rest, here.0, here.1)) (λ f e. omega (arith, rest)) refl

-- packets with rising numbers in a range are at most as many as its numbers
from_next : (n low high : ℕ) (hs : List Held) → AllAbove n hs → AllHeld (λ (h : Held). (low ≤ number_of h) × (number_of h < high)) hs → AllHeld (λ (h : Held). (n + 1 ≤ number_of h) × (number_of h < high)) hs
from_next n low high [] above all = tt
from_next n low high (h ∷ hs) above all = let over = above.0 in ((omega (arith, over), all.0.1), from_next n low high hs above.1 all.1)

few_in : (hs : List Held) (low high : ℕ) → low ≤ high → Rises hs → AllHeld (λ (h : Held). (low ≤ number_of h) × (number_of h < high)) hs → length hs + low ≤ high
few_in [] low high le rises all = omega (arith, le)
few_in (h ∷ hs) low high le rises all =
    let here = all.0 in
    let rest = few_in hs (number_of h + 1) high (omega (arith, here.1)) rises.1 (from_next (number_of h) low high hs rises.0 all.1) in
    omega (arith, rest, here.0)

pub came_has : (k at : ℕ) (xs : List Came) → CameAt k at xs → has_come k xs ≡ true
came_has k at [] is = absurd is
came_has k at (x ∷ xs) (inl here) = let same = here.0 in grind (arith, nat_tests, same)
came_has k at (x ∷ xs) (inr later) = let rest = came_has k at xs later in grind (arith, nat_tests, rest)

or_true : (a b : Bool) → (a ≡ true) ⊎ (b ≡ true) → (a || b) ≡ true
or_true true b is = refl
or_true false b (inl e) = absurd (cc)
or_true false b (inr e) = e

-- a push, if there is room for all packets: nothing is evicted
module _ (c : Setting) where
  pub record IsKept (from : ℕ) (s : State) (p : Held) : Type 0 where
    pub ready : IsReady c from (pushed s p)
    pub cutoff : (pushed s p).cutoff ≡ s.cutoff
    pub has : (n : ℕ) → counts s (p ∷ []) n ≡ true → has_number n (pushed s p).held ≡ true
    pub limit : (pushed s p).limit ≡ s.limit

  pub kept : (from : ℕ) (s : State) (p : Held) → IsReady c from s → IsPush c p → length (filter (counts s (p ∷ [])) (numbers_from c.first (count c))) ≤ s.limit → IsKept from s p
  kept from s p ready is few =
      let w : Stretch = record { left = s; pushes = p ∷ []; now = pushed s p } in
      let span : IsSpan c w = record { sent = (is, tt); now = refl } in
      let all : List ℕ = numbers_in c.first (count c) w in
      let left = span_left c from w ready span in
      let none : length all - s.limit ≡ 0 = omega (arith, few) in
      let held : map number_of (pushed s p).held ≡ all = left.held ∙ ap (λ (n : ℕ). drop n all) none in
      record {
        ready = span_ready c from w ready span;
        cutoff = left.cutoff ∙ ap (λ (n : ℕ). last_or (take n all) s.cutoff) none;
        has = λ n counts_it.
            let within = span_within c from w ready span n counts_it in
            in_number n (pushed s p).held (subst (λ (ns : List ℕ). IsIn n ns) (sym held) (range_in (counts s (p ∷ [])) n c.first (count c) within.0 within.1 counts_it));
        limit = left.limit;
      }

-- The turns of a receiver that waits by time

module _ (c : Setting) (r : Receiving) (max_wait : ℕ) (plain : IsPlain c) (settings : WaitsByTime max_wait r) (short : r.buffer.limit < 2 ^ 63) where
  -- a held packet came
  abbrev pub IsOf : List Came → Held → Type 0
  IsOf xs h = (k : ℕ) × CameAt k h.meta.received.0 xs × (number_of h ≡ c.first + k)

  -- the cutoff, when p units were popped: all packets up to it came
  abbrev pub StandsAt : ℕ → List Came → Option ℕ → Type 0
  StandsAt p xs None = p ≡ 0
  StandsAt p xs (Some cut) = (cut + 1 ≡ c.first + packets_before p c.units) × ((j : ℕ) → c.first + j ≤ cut → has_come j xs ≡ true)

  -- what came is above the units that were popped by less than the limit without the room
  abbrev pub IsNear : ℕ → List Came → Type 0
  IsNear p xs = (k : ℕ) → has_come k xs ≡ true → k + r.room < packets_before p c.units + r.buffer.limit

  -- the first p units were popped, and all that came since is held
  pub record Stands (p : ℕ) (xs : List Came) (s : State) : Type 0 where
    pub ready : IsReady c p s
    pub held_in : AllHeld (IsOf xs) s.held
    pub in_held : (k : ℕ) → has_come k xs ≡ true → (is_at_most s.cutoff (c.first + k) ≡ true) ⊎ (has_number (c.first + k) s.held ≡ true)
    pub cut : StandsAt p xs s.cutoff
    pub near : IsNear p xs
    pub limit : s.limit ≡ r.buffer.limit

  -- What came is near

  -- the packets that came are above the cutoff, and near
  held_range : (p : ℕ) (xs : List Came) (o : Option ℕ) (hs : List Held) → StandsAt p xs o → IsNear p xs → IsAboveCutoff o hs → AllHeld (IsOf xs) hs
      → AllHeld (λ (h : Held). (c.first + packets_before p c.units ≤ number_of h) × (number_of h < c.first + packets_before p c.units + (r.buffer.limit - r.room))) hs
  held_range p xs o [] at near above all = tt
  held_range p xs None (h ∷ hs) at near above all =
      let none : packets_before p c.units ≡ 0 = ap (λ (m : ℕ). packets_before m c.units) at in
      let close = near all.0.0 (came_has all.0.0 h.meta.received.0 xs all.0.1) in
      let number = all.0.2 in
      ((omega (arith, none, number), omega (arith, close, number)), held_range p xs None hs at near above all.1)
  held_range p xs (Some cut) (h ∷ hs) at near above all =
      let over = above.0 in
      let close = near all.0.0 (came_has all.0.0 h.meta.received.0 xs all.0.1) in
      let number = all.0.2 in
      ((omega (arith, at.0, over), omega (arith, close, number)), held_range p xs (Some cut) hs at near above.1 all.1)

  few_held : (p : ℕ) (xs : List Came) (s : State) → Stands p xs s → length s.held ≤ r.buffer.limit - r.room
  few_held p xs s stands =
      let low : ℕ = c.first + packets_before p c.units in
      let few = few_in s.held low (low + (r.buffer.limit - r.room)) (omega arith) stands.ready.beyond.rises (held_range p xs s.cutoff s.held stands.cut stands.near stands.ready.beyond.beyond stands.held_in) in
      omega (arith, few)

  -- a held packet, by its number
  held_at : (P : ℕ → Type 0) (hs : List Held) (n : ℕ) → AllHeld (λ (h : Held). P (number_of h)) hs → has_number n hs ≡ true → P n
  held_at P [] n all is = absurd (cc)
  held_at P (h ∷ hs) n all is = elim (or_cases (eqb (number_of h) n) (has_number n hs) is) [
    | inl here ↦ let same : number_of h ≡ n = grind (arith, nat_tests, here) in subst P same all.0
    | inr later ↦ held_at P hs n all.1 later
  ]

  -- at most these numbers count in a stretch, if what is pushed came
  pub few_counted : (p : ℕ) (xs : List Came) (s : State) (ps : List Held) → StandsAt p xs s.cutoff → IsNear p xs → IsAboveCutoff s.cutoff s.held → AllHeld (IsOf xs) s.held
      → ((n : ℕ) → has_number n ps ≡ true → (k : ℕ) × (has_come k xs ≡ true) × (n ≡ c.first + k)) → length (filter (counts s ps) (numbers_from c.first (count c))) ≤ r.buffer.limit
  few_counted p xs s ps at near above all came =
      let low : ℕ = c.first + packets_before p c.units in
      let few = few_between (counts s ps) low (low + (r.buffer.limit - r.room)) c.first (count c) each in
      omega (arith, few)
    where
      pushed_range : (o : Option ℕ) (n : ℕ) → StandsAt p xs o → is_at_most o n ≡ false → (k : ℕ) × (has_come k xs ≡ true) × (n ≡ c.first + k)
          → (c.first + packets_before p c.units ≤ n) × (n < c.first + packets_before p c.units + (r.buffer.limit - r.room))
      pushed_range None n at over (k, has, number) =
          let none : packets_before p c.units ≡ 0 = ap (λ (m : ℕ). packets_before m c.units) at in
          let close = near k has in
          (omega (arith, none, number), omega (arith, close, number))
      pushed_range (Some cut) n at over (k, has, number) =
          let past = leb-false n cut over in
          let close = near k has in
          (omega (arith, at.0, past), omega (arith, close, number))

      not_below : (a b : Bool) → (not a && b) ≡ true → (a ≡ false) × (b ≡ true)
      not_below false b e = (refl, e)
      not_below true b e = absurd (cc)

      each : (n : ℕ) → counts s ps n ≡ true → (c.first + packets_before p c.units ≤ n) × (n < c.first + packets_before p c.units + (r.buffer.limit - r.room))
      each n counts_it = elim (or_cases (has_number n s.held) (not (is_at_most s.cutoff n) && has_number n ps) counts_it) [
        | inl held ↦
            held_at (λ (m : ℕ). (c.first + packets_before p c.units ≤ m) × (m < c.first + packets_before p c.units + (r.buffer.limit - r.room))) s.held n
            (held_range p xs s.cutoff s.held at near above all) held
        | inr new ↦ let parts = not_below (is_at_most s.cutoff n) (has_number n ps) new in pushed_range s.cutoff n at parts.0 (came n parts.1)
      ]

  -- a push
  pub still_of : (x : Came) (xs : List Came) (h : Held) → IsOf xs h → IsOf (x ∷ xs) h
  still_of x xs h is = (is.0, inr is.1, is.2)

  still_come : (x : Came) (k : ℕ) (xs : List Came) → has_come k xs ≡ true → has_come k (x ∷ xs) ≡ true
  still_come x k xs is = or_true (eqb x.datagram k) (has_come k xs) (inr is)

  pub stands_more : (p : ℕ) (x : Came) (xs : List Came) (cutoff : Option ℕ) → StandsAt p xs cutoff → StandsAt p (x ∷ xs) cutoff
  stands_more p x xs None is = is
  stands_more p x xs (Some cut) is = (is.0, λ j le. still_come x j xs (is.1 j le))

  pub near_more : (p k : ℕ) (x : Came) (xs : List Came) → x.datagram ≡ k → k + r.room < packets_before p c.units + r.buffer.limit → IsNear p xs → IsNear p (x ∷ xs)
  near_more p k x xs index close near j has = elim (or_cases (eqb x.datagram j) (has_come j xs) has) [
    | inl new ↦ let same : x.datagram ≡ j = grind (arith, nat_tests, new) in omega (arith, same, index, close)
    | inr old ↦ near j old
  ]

  pub stands_pushed : (p : ℕ) (xs : List Came) (s : State) (h : Held) (k : ℕ) → Stands p xs s → IsPush c h → number_of h ≡ c.first + k → k + r.room < packets_before p c.units + r.buffer.limit
      → Stands p (record { datagram = k; at = h.meta.received.0 } ∷ xs) (pushed s h)
  stands_pushed p xs s h k stands is number close =
      let x : Came = record { datagram = k; at = h.meta.received.0 } in
      let near : IsNear p (x ∷ xs) = near_more p k x xs refl close stands.near in
      let few = few_counted p (x ∷ xs) s (h ∷ []) (stands_more p x xs s.cutoff stands.cut) near stands.ready.beyond.beyond (all_mapped (IsOf xs) (IsOf (x ∷ xs)) (still_of x xs) s.held stands.held_in)
      (λ n has. (k, or_true (eqb k k) (has_come k xs) (inl (same_is k)), one_number n has)) in
      let here = kept c p s h stands.ready is (omega (arith, few, stands.limit)) in
      record {
        ready = here.ready;
        held_in = all_pushed (IsOf (x ∷ xs)) s h (k, inl (refl, refl), number) (all_mapped (IsOf xs) (IsOf (x ∷ xs)) (still_of x xs) s.held stands.held_in);
        in_held = λ j came. elim (or_cases (eqb k j) (has_come j xs) came) [
          | inl new ↦
              let same : k ≡ j = grind (arith, nat_tests, new) in
              let at : number_of h ≡ c.first + j = omega (arith, number, same) in
              by_test (is_at_most s.cutoff (c.first + j))
              (λ b. is_at_most s.cutoff (c.first + j) ≡ b → (is_at_most (pushed s h).cutoff (c.first + j) ≡ true) ⊎ (has_number (c.first + j) (pushed s h).held ≡ true))
              (λ t e. inl (ap (λ (o : Option ℕ). is_at_most o (c.first + j)) here.cutoff ∙ e))
              (λ f e. inr (here.has (c.first + j) (or_true (has_number (c.first + j) s.held) (not (is_at_most s.cutoff (c.first + j)) && has_number (c.first + j) (h ∷ []))
              (inr (fresh (is_at_most s.cutoff (c.first + j)) (has_number (c.first + j) (h ∷ [])) e (grind (arith, nat_tests, at)))))))
              refl
          | inr old ↦ elim (stands.in_held j old) [
            | inl below ↦ inl (ap (λ (o : Option ℕ). is_at_most o (c.first + j)) here.cutoff ∙ below)
            | inr there ↦
                inr (here.has (c.first + j) (or_true (has_number (c.first + j) s.held) (not (is_at_most s.cutoff (c.first + j)) && has_number (c.first + j) (h ∷ [])) (inl there)))
          ]
        ];
        cut = subst (StandsAt p (x ∷ xs)) (sym here.cutoff) (stands_more p x xs s.cutoff stands.cut);
        near = near;
        limit = here.limit ∙ stands.limit;
      }
    where
      same_is : (j : ℕ) → eqb j j ≡ true
      same_is j = grind (arith, nat_tests)

      one_number : (n : ℕ) → has_number n (h ∷ []) ≡ true → n ≡ c.first + k
      one_number n has = elim (or_cases (eqb (number_of h) n) false has) [
        | inl e ↦ let same : number_of h ≡ n = grind (arith, nat_tests, e) in omega (arith, same, number)
        | inr no_more ↦ absurd (cc)
      ]

      fresh : (a b : Bool) → a ≡ false → b ≡ true → (not a && b) ≡ true
      fresh false true e f = refl
      fresh true b e f = absurd (cc)
      fresh false false e f = absurd (cc)

  -- The frame that is due

  -- a held packet with this number came when it was received
  came_of : (xs : List Came) (hs : List Held) (n : ℕ) (since : Ticks) → AllHeld (IsOf xs) hs → received_of n hs ≡ Some since → (k : ℕ) × CameAt k since.0 xs × (n ≡ c.first + k)
  came_of xs [] n since all at = absurd (cc)
  came_of xs (h ∷ hs) n since all at =
      by_test (eqb (number_of h) n) (λ b. cond b (Some h.meta.received) (received_of n hs) ≡ Some since → (k : ℕ) × CameAt k since.0 xs × (n ≡ c.first + k))
      (λ e here.
      let same : number_of h ≡ n = grind (arith, nat_tests, e) in
      let time : h.meta.received ≡ since = cc in
      (all.0.0, subst (λ (t : Ticks). CameAt all.0.0 t.0 xs) time all.0.1, omega (arith, same, all.0.2)))
      (λ e later. came_of xs hs n since all.1 later) at

  -- the first frame of a buffer
  due_is : (s : State) (fs : List CompleteFrame) (f : CompleteFrame) → due_among s fs ≡ Some f
      → (later : List CompleteFrame) × (fs ≡ f ∷ later) × ((starts_right_after s.cutoff f.first ≡ true) ⊎ (s.hold_back < length fs))
  due_is s [] f is = absurd (cc)
  due_is s (g ∷ gs) f is =
      by_test (starts_right_after s.cutoff g.first)
      (λ b. cond (b || ltb s.hold_back (length (g ∷ gs))) (Some g) None ≡ Some f
      → starts_right_after s.cutoff g.first ≡ b → (later : List CompleteFrame) × (g ∷ gs ≡ f ∷ later) × ((starts_right_after s.cutoff f.first ≡ true) ⊎ (s.hold_back < length (g ∷ gs))))
      (λ t here e. let same : g ≡ f = cc in (gs, ap (λ (x : CompleteFrame). x ∷ gs) same, inl (ap (λ (x : CompleteFrame). starts_right_after s.cutoff x.first) (sym same) ∙ e)))
      (λ no here e.
      by_test (ltb s.hold_back (length (g ∷ gs)))
      (λ b. cond b (Some g) None ≡ Some f → ltb s.hold_back (length (g ∷ gs)) ≡ b
      → (later : List CompleteFrame) × (g ∷ gs ≡ f ∷ later) × ((starts_right_after s.cutoff f.first ≡ true) ⊎ (s.hold_back < length (g ∷ gs))))
      (λ t here e. let same : g ≡ f = cc in (gs, ap (λ (x : CompleteFrame). x ∷ gs) same, inr (grind (arith, nat_tests, e))))
      (λ f here e. absurd (cc)) here refl)
      is refl

  -- the receiver at a pop
  abbrev asked : State → Receiving
  asked s = record r { buffer = s; ended = false }

  -- how many complete frames wait at a pop that is made
  data Waits (s : State) (now : ℕ) : ℕ → Type 0 where
    overdue : is_overdue r.wait_limits.max_wait now (ready_since_of s) ≡ true → Waits s now 0
    patient : {h : ℕ} → h ≡ 2 ^ 64 - 1 → Waits s now h

  same_some : (a b : ℕ) → Some a ≡ Some b → a ≡ b
  same_some a b e = cc

  none_some : (a : ℕ) → None ≡ Some a → ⊥
  none_some a e = absurd (cc)

  is_over : (over little : Bool) → (over || little) ≡ true → little ≡ false → over ≡ true
  is_over true little e f = refl
  is_over false true e f = absurd (cc)
  is_over false false e f = absurd (cc)

  waits_as : (s : State) (now h : ℕ) → length s.held ≤ r.buffer.limit - r.room → r.room ≤ r.buffer.limit → s.limit ≡ r.buffer.limit → wait_of r false s now ≡ Some h → Waits s now h
  waits_as s now h few room limit is = by_cases (is_pressed (asked s) now) (is_starting (asked s)) refl refl
    where
      roomy : has_little_room (asked s) ≡ false
      roomy = let enough : r.room ≤ s.limit - length s.held = omega (arith, room, few, limit) in grind (arith, nat_tests, enough)

      by_both : (b d : Bool) → is_pressed (asked s) now ≡ b → is_starting (asked s) ≡ d → wait_by b d (most_held_back r.wait_limits.hold_back) ≡ Some h
      by_both b d e f =
          sym (ap (λ (x : Bool). wait_by x d (most_held_back r.wait_limits.hold_back)) e) ∙ (sym (ap (λ (x : Bool). wait_by (is_pressed (asked s) now) x (most_held_back r.wait_limits.hold_back)) f) ∙ is)

      by_cases : (b d : Bool) → is_pressed (asked s) now ≡ b → is_starting (asked s) ≡ d → Waits s now h
      by_cases true d e f =
          subst (Waits s now) (same_some 0 h (by_both true d e f)) (overdue (is_over (is_overdue r.wait_limits.max_wait now (ready_since_of s)) (has_little_room (asked s)) e roomy))
      by_cases false true e f = absurd (none_some h (by_both false true e f))
      by_cases false false e f =
          patient (sym (same_some (most_held_back r.wait_limits.hold_back) h (by_both false false e f)) ∙ ap most_held_back settings.by_time)

  -- all numbers above the cutoff up to a due frame's last are held, if the frame is overdue
  overdue_since : (s : State) (now : ℕ) (f : CompleteFrame) (later : List CompleteFrame) (since : Ticks) → frames s.held ≡ f ∷ later → received_of f.last s.held ≡ Some since
      → is_overdue r.wait_limits.max_wait now (ready_since_of s) ≡ true → since.0 + max_wait ≤ now
  overdue_since s now f later since are at over =
      let ready : ready_since_of s ≡ Some since = ap (ready_since_among s.held) are ∙ at in
      let due : leb max_wait (now - since.0) ≡ true =
      sym (ap (λ (w : Option ℕ). is_overdue w now (Some since)) settings.limit) ∙ (sym (ap (is_overdue r.wait_limits.max_wait now) ready) ∙ over) in
      let le : max_wait ≤ now - since.0 = leb-true max_wait (now - since.0) due in
      omega (arith, le, settings.some)

  -- The unit of a due frame

  -- the next unit ends at or before the frame that is due
  next_within : (p : ℕ) (s : State) (f : CompleteFrame) (frame : FrameOf c p s f)
      → (u : SentUnit) × (slice_get c.units p ≡ Some u) × (packets_before (p + 1) c.units ≤ packets_before (frame.place + 1) c.units) × (packets_before p c.units < packets_before (p + 1) c.units)
  next_within p s f frame =
      let there = get_below c.units p frame.place frame.sent frame.at_place frame.not_before in
      let size = before_next c.units p there.0 there.1 in
      let some = some_packets c there.0.packets (lawful_at c.kind c.splits c.units p there.0 c.lawful there.1).ends in
      let last = before_next c.units frame.place frame.sent frame.at_place in
      elim (cases_lt p frame.place) [
        | inl less ↦ (there.0, there.1, omega (arith, before_later c.units p frame.place there.0 there.1 less, size, last), omega (arith, size, some))
        | inr le ↦
            let same : p ≡ frame.place = omega (arith, le, frame.not_before) in
            (there.0, there.1, omega (arith, ap (λ (n : ℕ). packets_before (n + 1) c.units) same), omega (arith, size, some))
      ]

  -- a frame of the next unit, whole
  abbrev IsNextFrame : (p : ℕ) (s : State) (f : CompleteFrame) → FrameOf c p s f → Type 0
  IsNextFrame p s f frame = (frame.place ≡ p) × (frame.missing ≡ [])

  -- if the next unit is held whole
  of_whole : (p : ℕ) (s : State) (f : CompleteFrame) (beyond : Beyond c p s) (due : due_of s ≡ Some f) → Whole c p s → IsNextFrame p s f (frame_due c p s f beyond due)
  of_whole p s f beyond due whole =
      let frame = frame_due c p s f beyond due in
      let next = next_within p s f frame in
      elim (due_whole c p s f p next.0 beyond next.1 whole due) [
        | inl early ↦ absurd (omega (arith, early, frame.stop, next.2, next.3))
        | inr is ↦ (is.0, is.1)
      ]

  -- if the frame starts right after the units that were popped
  of_start : (p cut : ℕ) (s : State) (f : CompleteFrame) (beyond : Beyond c p s) (due : due_of s ≡ Some f) → cut + 1 ≡ c.first + packets_before p c.units → cut + 1 ≡ f.first
      → IsNextFrame p s f (frame_due c p s f beyond due)
  of_start p cut s f beyond due at starts =
      let frame = frame_due c p s f beyond due in
      let there = get_below c.units p frame.place frame.sent frame.at_place frame.not_before in
      let size = before_next c.units p there.0 there.1 in
      let some = some_packets c there.0.packets (lawful_at c.kind c.splits c.units p there.0 c.lawful there.1).ends in
      elim (cases_lt p frame.place) [
        | inl less ↦ absurd (omega (arith, before_later c.units p frame.place there.0 there.1 less, some, frame.start, at, starts))
        | inr le ↦
            let same : frame.place ≡ p = omega (arith, le, frame.not_before) in
            let before : packets_before frame.place c.units ≡ packets_before p c.units = ap (λ (n : ℕ). packets_before n c.units) same in
            (same, no_length frame.missing (omega (arith, frame.start, at, starts, before)))
      ]

  -- the frame that is due is the next unit's
  next_frame : (p now h : ℕ) (xs : List Came) (s : State) (f : CompleteFrame) (stands : Stands p xs s) (beyond : Beyond c p (record s { hold_back = h })) (due : due_of (record s { hold_back = h }) ≡ Some f)
      → Waits s now h → AreFilledAt max_wait now xs → StartsWhole (first_size c.units) xs → IsNextFrame p (record s { hold_back = h }) f (frame_due c p (record s { hold_back = h }) f beyond due)
  next_frame p now h xs s f stands beyond due w filled starts = by_cutoff s.cutoff refl
    where
      first_is : (later : List CompleteFrame) × (frames s.held ≡ f ∷ later) × ((starts_right_after s.cutoff f.first ≡ true) ⊎ (h < length (frames s.held)))
      first_is = due_is (record s { hold_back = h }) (frames s.held) f due

      last_at : (since : Ticks) × (received_of f.last s.held ≡ Some since)
      last_at = last_received s.held f first_is.0 first_is.1

      came : (k : ℕ) × CameAt k last_at.0.0 xs × (f.last ≡ c.first + k)
      came = came_of xs s.held f.last last_at.0 stands.held_in last_at.1

      -- a number of the next unit, as an index
      index_of : (n : ℕ) → c.first ≤ n → (j : ℕ) × (n ≡ c.first + j)
      index_of n le = (n - c.first, omega (arith, le))

      -- nothing was popped
      of_first : s.cutoff ≡ None → IsNextFrame p (record s { hold_back = h }) f (frame_due c p (record s { hold_back = h }) f beyond due)
      of_first none = elim starts [
        | inl all ↦ of_whole p (record s { hold_back = h }) f beyond due (λ n is.
            let zero_is : p ≡ 0 = subst (StandsAt p xs) none stands.cut in
            let low : c.first ≤ n = let from = is.from in omega (arith, from) in
            let j = index_of n low in
            let size : packets_before (p + 1) c.units ≡ first_size c.units = ap (λ (m : ℕ). packets_before (m + 1) c.units) zero_is in
            let to = is.to in
            held_of j.0 n j.1 (all j.0 (omega (arith, to, size, j.1))))
        | inr few ↦
            let zero_is : p ≡ 0 = subst (StandsAt p xs) none stands.cut in
            let next = next_within p (record s { hold_back = h }) f (frame_due c p (record s { hold_back = h }) f beyond due) in
            let size : packets_before (p + 1) c.units ≡ first_size c.units = ap (λ (m : ℕ). packets_before (m + 1) c.units) zero_is in
            let less = few came.0 (came_has came.0 last_at.0.0 xs came.1) in
            absurd (omega (arith, less, size, came.2, (frame_due c p (record s { hold_back = h }) f beyond due).stop, next.2))
      ]
        where
          clash : {b : Bool} → b ≡ false → b ≡ true → ⊥
          clash f t = cc

          held_of : (j n : ℕ) → n ≡ c.first + j → has_come j xs ≡ true → has_number n s.held ≡ true
          held_of j n at has = elim (stands.in_held j has) [
            | inl below ↦ absurd (clash (ap (λ (o : Option ℕ). is_at_most o (c.first + j)) none) below)
            | inr there ↦ ap (λ (m : ℕ). has_number m s.held) at ∙ there
          ]

      by_cutoff : (o : Option ℕ) → s.cutoff ≡ o → IsNextFrame p (record s { hold_back = h }) f (frame_due c p (record s { hold_back = h }) f beyond due)
      by_cutoff None e = of_first e
      by_cutoff (Some cut) e = elim first_is.2 [
        | inl right ↦
            let right_here : eqb (cut + 1) f.first ≡ true = ap (λ (o : Option ℕ). starts_right_after o f.first) (sym e) ∙ right in
            of_start p cut (record s { hold_back = h }) f beyond due (subst (StandsAt p xs) e stands.cut).0 (grind (arith, nat_tests, right_here))
        | inr more ↦ by_wait w more
      ]
        where
          -- what came above the cutoff is held
          held_of : (j n : ℕ) → n ≡ c.first + j → cut < n → has_come j xs ≡ true → has_number n s.held ≡ true
          held_of j n at over has = elim (stands.in_held j has) [
            | inl below ↦
                let le : leb (c.first + j) cut ≡ true = ap (λ (o : Option ℕ). is_at_most o (c.first + j)) (sym e) ∙ below in
                let not_over = leb-true (c.first + j) cut le in
                absurd (omega (arith, not_over, over, at))
            | inr there ↦ ap (λ (m : ℕ). has_number m s.held) at ∙ there
          ]

          by_wait : {k : ℕ} → Waits s now k → k < length (frames s.held) → IsNextFrame p (record s { hold_back = h }) f (frame_due c p (record s { hold_back = h }) f beyond due)
          by_wait (patient many) more = absurd (omega (arith, many, more, few_frames s.held, few_held p xs s stands, short))
          by_wait (overdue over) more =
              let since : last_at.0.0 + max_wait ≤ now = overdue_since s now f first_is.0 last_at.0 first_is.1 last_at.1 over in
              let at = (subst (StandsAt p xs) e stands.cut).0 in
              let next = next_within p (record s { hold_back = h }) f (frame_due c p (record s { hold_back = h }) f beyond due) in
              of_whole p (record s { hold_back = h }) f beyond due (λ n is.
              let from = is.from in
              let to = is.to in
              let j = index_of n (omega (arith, from)) in
              held_of j.0 n j.1 (omega (arith, from, at)) (elim (cases_lt j.0 came.0) [
                | inl less ↦ filled came.0 last_at.0.0 j.0 came.1 since less
                | inr ge ↦
                    let same : came.0 ≡ j.0 = omega (arith, ge, to, j.1, came.2, (frame_due c p (record s { hold_back = h }) f beyond due).stop, next.2) in
                    subst (λ (k : ℕ). has_come k xs ≡ true) same (came_has came.0 last_at.0.0 xs came.1)
              ]))

  -- A pop

  -- the packets of a complete frame came
  row_came : (xs : List Came) (s : State) (f : CompleteFrame) (n : ℕ) → AllHeld (IsOf xs) s.held → IsFrame s.held f → f.first ≤ n → n ≤ f.last → (k : ℕ) × (has_come k xs ≡ true) × (n ≡ c.first + k)
  row_came xs s f n all is low high =
      let end = is.at_end in
      let one = is.row.each n low (omega (arith, high, end)) in
      let at = all_in (IsOf xs) s.held all one.0 (in_contains one.0 s.held one.1) in
      (at.0, came_has at.0 one.0.meta.received.0 xs at.1, omega (arith, at.2, one.2))

  last_frame : (s : State) (f : CompleteFrame) (later : List CompleteFrame) → Rises s.held → frames s.held ≡ f ∷ later → IsFrame s.held f
  last_frame s f later rises are = (are_frames s.held rises f).0 (subst (λ (fs : List CompleteFrame). Contains fs f) (sym are) (0, omega arith, refl))

  -- all packets up to a frame of the next unit came
  up_to : (p : ℕ) (xs : List Came) (s : State) (f : CompleteFrame) → Stands p xs s → f.first ≡ c.first + packets_before p c.units → IsFrame s.held f → (j : ℕ) → c.first + j ≤ f.last → has_come j xs ≡ true
  up_to p xs s f stands starts is j le = elim (cases_lt (c.first + j) f.first) [
    | inl less ↦ by_cutoff s.cutoff stands.cut less
    | inr ge ↦
        let row = row_came xs s f (c.first + j) stands.held_in is ge le in
        let same : row.0 ≡ j = omega (arith, row.2) in
        subst (λ (k : ℕ). has_come k xs ≡ true) same row.1
  ]
    where
      by_cutoff : (o : Option ℕ) → StandsAt p xs o → c.first + j < f.first → has_come j xs ≡ true
      by_cutoff None at less =
          let none : packets_before p c.units ≡ 0 = ap (λ (m : ℕ). packets_before m c.units) at in
          absurd (omega (arith, none, starts, less))
      by_cutoff (Some cut) at less = at.1 j (omega (arith, at.0, starts, less))

  -- what a pop leaves: one more unit was popped, if it returned one, and that was the next one, whole
  abbrev pub Next : ℕ → List Came → Answer → State → Type 0
  Next p xs a t = IsNext c.known c.splits c.units p a × Stands (count_after p a) xs t

  stands_with : (p h : ℕ) (xs : List Came) (s : State) → Stands p xs s → Stands p xs (record s { hold_back = h })
  stands_with p h xs s stands = record {
    ready = ready_with c p h s stands.ready;
    held_in = stands.held_in;
    in_held = stands.in_held;
    cut = stands.cut;
    near = stands.near;
    limit = stands.limit;
  }

  -- a unit is returned
  released_next : (p now h : ℕ) (xs : List Came) (s t : State) (rel : Release) → Stands p xs s → Waits s now h → AreFilledAt max_wait now xs → StartsWhole (first_size c.units) xs
      → Releases (record s { hold_back = h }) rel t → Next p xs (Some (Ok rel)) t
  released_next p now h xs s t rel stands w filled starts out =
      let mid : State = record s { hold_back = h } in
      let ready = ready_with c p h s stands.ready in
      let f : CompleteFrame = out.frame in
      let is = next_frame p now h xs s f stands ready.beyond out.is_due w filled starts in
      let whole = whole_release c p mid t rel p ready.beyond out is.0 is.1 in
      let first = due_is mid (frames s.held) f out.is_due in
      let held : t.held ≡ above f.last s.held = ap (λ (x : State). x.held) out.left in
      let cutoff : t.cutoff ≡ Some f.last = ap (λ (x : State). x.cutoff) out.left in
      let limit : t.limit ≡ s.limit = ap (λ (x : State). x.limit) out.left in (
        whole.whole,
        record {
          ready = record { beyond = whole.next; few = few_released c mid t rel ready.few out };
          held_in = subst (AllHeld (IsOf xs)) (sym held) (all_above (IsOf xs) f.last s.held stands.held_in);
          in_held = λ k has.
              by_test (leb (c.first + k) f.last)
              (λ b. leb (c.first + k) f.last ≡ b → (is_at_most t.cutoff (c.first + k) ≡ true) ⊎ (has_number (c.first + k) t.held ≡ true))
              (λ le e. inl (ap (λ (o : Option ℕ). is_at_most o (c.first + k)) cutoff ∙ e))
              (λ gt e.
              let over : f.last < c.first + k = leb-false (c.first + k) f.last e in
              elim (stands.in_held k has) [
                | inl below ↦ absurd (not_below p xs s.cutoff (c.first + k) f.last stands.cut (omega (arith, whole.end, before_up p mid t rel ready.beyond out is.0)) over below)
                | inr there ↦ inr (ap (has_number (c.first + k)) held ∙ has_above (c.first + k) f.last s.held over there)
              ]) refl;
          cut = subst (StandsAt (p + 1) xs) (sym cutoff) (omega (arith, whole.end), λ j le. up_to p xs s f stands (omega (arith, (frame_due c p mid f ready.beyond out.is_due).start, ap (λ (m : ℕ). packets_before m c.units) is.0, ap length is.1)) (last_frame s f first.0 ready.beyond.rises first.1) j le);
          near = λ k has. let close = stands.near k has in omega (arith, close, before_up p mid t rel ready.beyond out is.0);
          limit = limit ∙ stands.limit;
        },
      )
    where
      -- the cutoff was below
      not_below : (p : ℕ) (xs : List Came) (o : Option ℕ) (n last : ℕ) → StandsAt p xs o → c.first + packets_before p c.units ≤ last + 1 → last < n → is_at_most o n ≡ true → ⊥
      not_below p xs None n last at le over below = absurd (cc)
      not_below p xs (Some cut) n last at le over below = let low = leb-true n cut below in omega (arith, at.0, le, over, low)

      before_up : (p : ℕ) (mid t : State) (rel : Release) (beyond : Beyond c p mid) (out : Releases mid rel t) → (frame_due c p mid out.frame beyond out.is_due).place ≡ p
          → packets_before p c.units ≤ packets_before (p + 1) c.units
      before_up p mid t rel beyond out same =
          let next = next_within p mid out.frame (frame_due c p mid out.frame beyond out.is_due) in
          omega (arith, next.3)

  -- the cutoff is below what did not come
  pub not_passed : (p j : ℕ) (xs : List Came) (o : Option ℕ) → StandsAt p xs o → has_come j xs ≡ false → is_at_most o (c.first + j) ≡ false
  not_passed p j xs None at none = refl
  not_passed p j xs (Some cut) at none = elim (cases_lt cut (c.first + j)) [
    | inl over ↦ grind (arith, nat_tests, over)
    | inr le ↦ absurd (clash (at.1 j le) none)
  ]
    where
      clash : {b : Bool} → b ≡ true → b ≡ false → ⊥
      clash t f = cc

  pub stands_popped : (p now : ℕ) (xs : List Came) (s t : State) (passed : List CompleteFrame) (a : Answer) → Stands p xs s → AreFilledAt max_wait now xs → StartsWhole (first_size c.units) xs
      → AnswersTurn (wait_of r false s now) s passed a t → Next p xs a t
  stands_popped p now xs s t passed a stands filled starts turn = by_wait (wait_of r false s now) refl turn
    where
      by_pop : (h : ℕ) (b : Answer) → wait_of r false s now ≡ Some h → IsPop c (record s { hold_back = h }) t passed b → Next p xs b t
      by_pop h None e (waits passes nothing) =
          let same = stays_plain c p (record s { hold_back = h }) t passed (ready_with c p h s stands.ready).beyond plain passes in
          (tt, subst (Stands p xs) (sym same.0) (stands_with p h xs s stands))
      by_pop h (Some (Ok rel)) e (releases mid passes out) =
          let same = stays_plain c p (record s { hold_back = h }) mid passed (ready_with c p h s stands.ready).beyond plain passes in
          let here : Releases (record s { hold_back = h }) rel t = subst (λ (x : State). Releases x rel t) same.0 out in
          let first = due_is (record s { hold_back = h }) (frames s.held) here.frame here.is_due in
          let last = last_received s.held here.frame first.0 first.1 in
          let came = came_of xs s.held here.frame.last last.0 stands.held_in last.1 in
          let close = stands.near came.0 (came_has came.0 last.0.0 xs came.1) in
          let frame = frame_due c p (record s { hold_back = h }) here.frame (ready_with c p h s stands.ready).beyond here.is_due in
          let next = next_within p (record s { hold_back = h }) here.frame frame in
          let room : r.room ≤ r.buffer.limit = omega (arith, close, came.2, frame.stop, next.2, next.3) in
          released_next p now h xs s t rel stands (waits_as s now h (few_held p xs s stands) room stands.limit e) filled starts here
      by_pop h (Some (Err fault)) e pop = elim pop [ ]

      by_wait : (w : Option ℕ) → wait_of r false s now ≡ w → AnswersTurn w s passed a t → Next p xs a t
      by_wait None e is =
          subst (λ (b : Answer). Next p xs b t) (sym is.1) (tt, subst (Stands p xs) (sym is.2) stands)
      by_wait (Some h) e is = by_pop h a e (pop_is c p (record s { hold_back = h }) t passed a (ready_with c p h s stands.ready).beyond is.1 is.0)
