-- What leaves is what the rate carries: by induction on the calls.
use Rattle.std.specs.Prelude.{if◌then◌else◌}
use Rattle.std.proofs.Common.{◌≡◌, ℕ, ◌+◌, ◌-◌, ◌*◌, ◌≤◌, max, Bool, true, false, ◌⊎◌, inl, inr, List, [], ◌∷◌, Option, Some, None, refl, sym, ap, subst, arith, nat_le}
use Rattle.std.proofs.Math.Nat.{mul-le-mul_right}
use Rattle.std.proofs.lemmas.Bool.Decides.{nat_tests}
use Rattle.codec_payload_bandwidth_pacer.specs.declared.pacer.PacedPacket.{PacedPacket}
use Rattle.codec_payload_bandwidth_pacer.specs.declared.pacer.PacerSettings.{PacerSettings}
use Rattle.codec_payload_bandwidth_pacer.specs.Pacing.{Pacing, after_pop, bits_of, filled, first_by, first_kind, less, limit_of, next_of, pushed, removed, with_rate}
use Rattle.codec_payload_bandwidth_pacer.specs.Runs.{Call, LeavesByTheRate, LeavesByTheTime, SetsAtMost, after_calls, carried_by, last_size, left_by, pop, push, remove, set_rate, sizes, with_packet}

-- nothing left, or what was owed and what left is covered
abbrev pub Covered : ℕ → ℕ → ℕ → List PacedPacket → Type 0
Covered owed carried burst packets = (packets ≡ []) ⊎ (owed + bits_of (sizes packets) ≤ carried + bits_of (burst + last_size packets))

-- what is owed falls by at most what is carried
one_more : (owed earned carried burst : ℕ) (packet : PacedPacket) (packets : List PacedPacket) → owed - earned ≤ bits_of burst
    → Covered ((owed - earned) + bits_of packet.size) carried burst packets
    → owed + bits_of (sizes (packet ∷ packets)) ≤ (earned + carried) + bits_of (burst + last_size (packet ∷ packets))
one_more owed earned carried burst packet [] below h = omega (arith, below)
one_more owed earned carried burst packet (next ∷ packets) below (inl is) = cc
one_more owed earned carried burst packet (next ∷ packets) below (inr h) = omega (arith, below, h)

none_more : (owed earned carried burst : ℕ) (packets : List PacedPacket) → Covered (owed - earned) carried burst packets
    → Covered owed (earned + carried) burst packets
none_more owed earned carried burst packets (inl is) = inl is
none_more owed earned carried burst packets (inr h) = inr (omega (arith, h))

no_time : (owed rate carried burst : ℕ) (packets : List PacedPacket) → Covered owed carried burst packets
    → Covered owed (rate * 0 + carried) burst packets
no_time owed rate carried burst packets (inl is) = inl is
no_time owed rate carried burst packets (inr h) = inr (omega (arith, h))

-- whether a packet leaves
popped : (p : Pacing) (burst carried earned owed : ℕ) (next : Option PacedPacket) (packets : List PacedPacket)
    → ((packet : PacedPacket) → next ≡ Some packet → owed - earned ≤ bits_of burst) → p.owed ≡ owed - earned
    → Covered (less next p).owed carried burst packets → Covered owed (earned + carried) burst (with_packet next packets)
popped p burst carried earned owed None packets below is h =
    none_more owed earned carried burst packets (subst (λ (n : ℕ). Covered n carried burst packets) is h)
popped p burst carried earned owed (Some packet) packets below is h =
    inr (one_more owed earned carried burst packet packets (below packet refl) (subst (λ (n : ℕ). Covered (n + bits_of packet.size) carried burst packets) is h))

if_due : (p : Pacing) (b : Bool) (packet : PacedPacket) → (if b then first_by (first_kind p.waits) p else None) ≡ Some packet → b ≡ true
if_due p true packet is = refl
if_due p false packet is = cc

le_true : (m n : ℕ) → nat_le m n ≡ true → m ≤ n
le_true m n is = grind (arith, nat_tests)

-- a packet leaves only while no more than the limit is owed
below_limit : (p : Pacing) (packet : PacedPacket) → next_of p ≡ Some packet → p.owed ≤ limit_of p
below_limit p packet is = le_true p.owed (limit_of p) (if_due p (nat_le p.owed (limit_of p)) packet is)

-- the settings stay
less_settings : (p : Pacing) (next : Option PacedPacket) → (less next p).settings ≡ p.settings
less_settings p None = refl
less_settings p (Some packet) = refl

covered : (calls : List Call) (p : Pacing) → Covered p.owed (carried_by calls p) p.settings.burst (left_by calls p)
covered [] p = inl refl
covered (set_rate now rate ∷ calls) p =
    none_more p.owed (p.rate * (now - p.at)) (carried_by calls (with_rate now rate p)) p.settings.burst (left_by calls (with_rate now rate p))
    (covered calls (with_rate now rate p))
covered (push packet ∷ calls) p =
    no_time p.owed p.rate (carried_by calls (pushed packet p)) p.settings.burst (left_by calls (pushed packet p))
    (covered calls (pushed packet p))
covered (pop now ∷ calls) p =
    popped (filled now p) p.settings.burst (carried_by calls (after_pop now p)) (p.rate * (now - p.at)) p.owed (next_of (filled now p))
    (left_by calls (after_pop now p)) (below_limit (filled now p)) refl
    (subst (λ (s : PacerSettings). Covered (after_pop now p).owed (carried_by calls (after_pop now p)) s.burst (left_by calls (after_pop now p)))
    (less_settings (filled now p) (next_of (filled now p))) (covered calls (after_pop now p)))
covered (remove kind ∷ calls) p =
    no_time p.owed p.rate (carried_by calls (removed kind p)) p.settings.burst (left_by calls (removed kind p))
    (covered calls (removed kind p))

within : (owed carried burst : ℕ) (packets : List PacedPacket) → Covered owed carried burst packets
    → bits_of (sizes packets) ≤ carried + bits_of (burst + last_size packets)
within owed carried burst packets (inl is) = let none : sizes packets ≡ 0 = ap sizes is in omega (arith, none)
within owed carried burst packets (inr h) = omega (arith, h)

-- at any rates
pub leaves_by_the_rate : LeavesByTheRate
leaves_by_the_rate p calls = within p.owed (carried_by calls p) p.settings.burst (left_by calls p) (covered calls p)

-- ---- by the time

-- the clock does not go back
later_by : (next : Option PacedPacket) (p : Pacing) → (less next p).at ≡ p.at
later_by None p = refl
later_by (Some packet) p = refl

same_rate : (next : Option PacedPacket) (p : Pacing) → (less next p).rate ≡ p.rate
same_rate None p = refl
same_rate (Some packet) p = refl

later : (calls : List Call) (p : Pacing) → p.at ≤ (after_calls calls p).at
later [] p = omega arith
later (set_rate now rate ∷ calls) p = omega (arith, later calls (with_rate now rate p))
later (push packet ∷ calls) p = later calls (pushed packet p)
later (pop now ∷ calls) p = omega (arith, later calls (after_pop now p), later_by (next_of (filled now p)) (filled now p))
later (remove kind ∷ calls) p = later calls (removed kind p)

-- one more step at a rate that is no higher
longer : (r rate at now next end carried : ℕ) → r ≤ rate → next ≡ max at now → next ≤ end → carried ≤ rate * (end - next)
    → r * (now - at) + carried ≤ rate * (end - at)
longer r rate at now next end carried low is before h =
    subst (λ (n : ℕ). r * (now - at) + carried ≤ rate * n) whole (omega (arith, mul-le-mul_right (now - at) low, h))
  where
    whole : (now - at) + (end - next) ≡ end - at
    whole = omega (arith, is, before)

by_time : (rate : ℕ) (calls : List Call) (p : Pacing) → p.rate ≤ rate → SetsAtMost rate calls → carried_by calls p ≤ rate * ((after_calls calls p).at - p.at)
by_time rate [] p low sets = omega arith
by_time rate (set_rate now r ∷ calls) p low sets =
    longer p.rate rate p.at now (max p.at now) (after_calls calls (with_rate now r p)).at (carried_by calls (with_rate now r p)) low refl
    (later calls (with_rate now r p)) (by_time rate calls (with_rate now r p) sets.0 sets.1)
by_time rate (push packet ∷ calls) p low sets = omega (arith, by_time rate calls (pushed packet p) low sets)
by_time rate (pop now ∷ calls) p low sets =
    let next : Pacing = after_pop now p in
    let at : next.at ≡ max p.at now = later_by (next_of (filled now p)) (filled now p) in
    let lower : next.rate ≤ rate = subst (λ (n : ℕ). n ≤ rate) (sym (same_rate (next_of (filled now p)) (filled now p))) low in
    longer p.rate rate p.at now next.at (after_calls calls next).at (carried_by calls next) low at (later calls next) (by_time rate calls next lower sets)
by_time rate (remove kind ∷ calls) p low sets = omega (arith, by_time rate calls (removed kind p) low sets)

pub leaves_by_the_time : LeavesByTheTime
leaves_by_the_time rate p calls low sets = omega (arith, leaves_by_the_rate p calls, by_time rate calls p low sets)
