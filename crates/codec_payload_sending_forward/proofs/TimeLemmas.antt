-- The RTP times of a viewer's stream over whole runs.
use Rattle.std.proofs.Common.{◌≡◌, ◌∙◌, refl, ap, ℕ, ◌+◌, ◌-◌, ◌%◌, ◌<◌, ◌≤◌, max, List, [], ◌∷◌, Bool, true, false, cond, ltb, arith}
use Rattle.std.proofs.lemmas.Bool.{ltb-false, ltb-true}
use Rattle.codec_payload_sending_forward.specs.declared.times.Retiming.{Retiming}
use Rattle.codec_payload_sending_forward.specs.Times.{AreAtMost, AreNear, IsNear, NeverGoesBack, Retimes, TimeCall, Timeline, after_call, begun_times, call_of, later, sends, switches, time_as, time_of, timeline_after, times_after, times_sent}

-- the map and the stretch of the same calls
pub record Agrees (s : Timeline) (m : Retiming) : Type 0 where
  pub offset : (m.offset + s.first) % 4294967296 ≡ s.start % 4294967296
  pub highest : m.highest ≡ s.highest % 4294967296

begun_offset : (first start : ℕ) → ((start % 4294967296 + (4294967296 - first % 4294967296)) % 4294967296 + first) % 4294967296 ≡ start % 4294967296
begun_offset first start = omega arith

begun_agrees : (first start : ℕ) → Agrees (record { first = first; start = start; highest = start }) (begun_times (first % 4294967296) (start % 4294967296))
begun_agrees first start = record { offset = begun_offset first start; highest = refl }

moved : (time o first start : ℕ) → (o + first) % 4294967296 ≡ start % 4294967296 → first ≤ start + time → (time % 4294967296 + o) % 4294967296 ≡ (start + time - first) % 4294967296
moved time o first start e l = omega (arith, e, l)

sent_time : (s : Timeline) (m : Retiming) (time : ℕ) → Agrees s m → s.first ≤ s.start + time → time_as m (time % 4294967296) ≡ time_of s time % 4294967296
sent_time s m time a l = moved time m.offset s.first s.start a.offset l

later_up : (a b : ℕ) → a < b + 2147483648 → b < a + 2147483648 → ((b % 4294967296 + (4294967296 - a % 4294967296)) % 4294967296 < 2147483648) → a ≤ b
later_up a b l m h = omega (arith, l, m, h)

later_down : (a b : ℕ) → a < b + 2147483648 → b < a + 2147483648 → 2147483648 ≤ (b % 4294967296 + (4294967296 - a % 4294967296)) % 4294967296 → b ≤ a
later_down a b l m h = omega (arith, l, m, h)

later_is : (a b : ℕ) → a < b + 2147483648 → b < a + 2147483648 → later (a % 4294967296) (b % 4294967296) ≡ max a b % 4294967296
later_is a b l m = by (ltb ((b % 4294967296 + (4294967296 - a % 4294967296)) % 4294967296) 2147483648) refl
  where
    gap : ℕ
    gap = (b % 4294967296 + (4294967296 - a % 4294967296)) % 4294967296

    by : (x : Bool) → ltb gap 2147483648 ≡ x → cond x (b % 4294967296) (a % 4294967296) ≡ max a b % 4294967296
    by true e = let u : a ≤ b = later_up a b l m (ltb-true gap 2147483648 e) in ap (λ (k : ℕ). k % 4294967296) (omega (arith, u))
    by false e = let d : b ≤ a = later_down a b l m (ltb-false gap 2147483648 e) in ap (λ (k : ℕ). k % 4294967296) (omega (arith, d))

step : (call : TimeCall) (s : Timeline) (m : Retiming) → Agrees s m → IsNear call s → Agrees (after_call call s) (call_of call m)
step (sends time) s m a near = record {
  offset = a.offset;
  highest = ap (λ (h : ℕ). later h (time_as m (time % 4294967296))) a.highest
      ∙ (ap (λ (t : ℕ). later (s.highest % 4294967296) t) (sent_time s m time a near.0) ∙ later_is s.highest (time_of s time) near.1 near.2);
}
step (switches time ticks) s m a near =
    let e : (m.highest + ticks) % 4294967296 ≡ (s.highest + ticks) % 4294967296 = omega (arith, a.highest) in
    record {
      offset = ap (λ (h : ℕ). ((h + (4294967296 - time % 4294967296)) % 4294967296 + time) % 4294967296) e ∙ begun_offset time (s.highest + ticks);
      highest = e;
    }

agrees : (first start : ℕ) (calls : List TimeCall) → AreNear first start calls → Agrees (timeline_after first start calls) (times_after first start calls)
agrees first start [] near = begun_agrees first start
agrees first start (call ∷ before) near = step call (timeline_after first start before) (times_after first start before) (agrees first start before near.0) near.1

pub retimes : Retimes
retimes first start calls near =
    let a = agrees first start calls near in
    (λ time l. sent_time (timeline_after first start calls) (times_after first start calls) time a l, a.highest)

at_most_more : (a b : ℕ) (times : List ℕ) → a ≤ b → AreAtMost a times → AreAtMost b times
at_most_more a b [] l h = tt
at_most_more a b (time ∷ times) l h = (omega (arith, l, h.0), at_most_more a b times l h.1)

highest_is : (first start : ℕ) (calls : List TimeCall) → AreAtMost (timeline_after first start calls).highest (times_sent first start calls)
highest_is first start [] = tt
highest_is first start (sends time ∷ before) =
    let s = timeline_after first start before in
    (omega arith, at_most_more s.highest (max s.highest (time_of s time)) (times_sent first start before) (omega arith) (highest_is first start before))
highest_is first start (switches time ticks ∷ before) =
    let s = timeline_after first start before in
    (omega arith, at_most_more s.highest (s.highest + ticks) (times_sent first start before) (omega arith) (highest_is first start before))

pub never_goes_back : NeverGoesBack
never_goes_back first start before time ticks = (highest_is first start before, back (timeline_after first start before).highest ticks time)
  where
    back : (h ticks time : ℕ) → h + ticks + time - time ≡ h + ticks
    back h ticks time = omega arith
