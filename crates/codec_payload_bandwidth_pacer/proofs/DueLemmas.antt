-- A packet leaves at its deadline.
use Rattle.std.specs.Prelude.{if◌then◌else◌}
use Rattle.std.proofs.Common.{◌≡◌, ◌≢◌, ℕ, ◌+◌, ◌-◌, ◌*◌, ◌≤◌, ◌<◌, ◌^◌, Bool, true, false, List, [], ◌∷◌, Option, Some, None, refl, sym, subst, arith, nat_le, nat_lt}
use Rattle.std.proofs.Math.Nat.{mul-le-mul_left}
use Rattle.std.proofs.lemmas.Bool.Decides.{nat_tests}
use Rattle.codec_payload_bandwidth_pacer.specs.declared.pacer.PacedKind.{PacedKind}
use Rattle.codec_payload_bandwidth_pacer.specs.declared.pacer.PacedKind.TheVariants.{Audio, Resent, Media, Padding}
use Rattle.codec_payload_bandwidth_pacer.specs.declared.pacer.Waiting.{Waiting}
use Rattle.codec_payload_bandwidth_pacer.specs.Pacing.{Pacing, Waits, deadline_by, filled, first_by, first_kind, first_of, kind_or, limit_of, next_of, packet_of, wait_from, waits_of, within_clock}
use Rattle.codec_payload_bandwidth_pacer.specs.Runs.{LeavesWhenDue}

-- a kind has a packet
abbrev pub Has : PacedKind → Waits → Type 0
Has kind w = packet_of kind (first_of (waits_of kind w)) ≢ None

abbrev pub queues : List Waiting → List Waiting → List Waiting → List Waiting → Waits
queues a r m d = record { audio = a; resent = r; media = m; padding = d }

-- the kind that leaves next has one
has_first : (a r m d : List Waiting) (kind : PacedKind)
    → kind_or Audio a (kind_or Resent r (kind_or Media m (kind_or Padding d None))) ≡ Some kind → Has kind (queues a r m d)
has_first (x ∷ a) r m d kind is = let k : Audio ≡ kind = cc in subst (λ (it : PacedKind). Has it (queues (x ∷ a) r m d)) k (λ e. cc)
has_first [] (x ∷ r) m d kind is = let k : Resent ≡ kind = cc in subst (λ (it : PacedKind). Has it (queues [] (x ∷ r) m d)) k (λ e. cc)
has_first [] [] (x ∷ m) d kind is = let k : Media ≡ kind = cc in subst (λ (it : PacedKind). Has it (queues [] [] (x ∷ m) d)) k (λ e. cc)
has_first [] [] [] (x ∷ d) kind is = let k : Padding ≡ kind = cc in subst (λ (it : PacedKind). Has it (queues [] [] [] (x ∷ d))) k (λ e. cc)
has_first [] [] [] [] kind is = cc

first_leaves : (p : Pacing) (kind : PacedKind) (b : Bool) → b ≡ true → Has kind p.waits → (if b then first_by (Some kind) p else None) ≢ None
first_leaves p kind true is has = has
first_leaves p kind false is has = cc

-- while no more than the limit is owed, it leaves
leaves : (p : Pacing) (kind : PacedKind) → first_kind p.waits ≡ Some kind → p.owed ≤ limit_of p → next_of p ≢ None
leaves p kind is low =
    let may : nat_le p.owed (limit_of p) ≡ true = grind (arith, nat_tests) in
    subst (λ (k : Option PacedKind). (if nat_le p.owed (limit_of p) then first_by k p else None) ≢ None) (sym is)
    (first_leaves p kind (nat_le p.owed (limit_of p)) may (has_first p.waits.audio p.waits.resent p.waits.media p.waits.padding kind is))

-- what a rate carries after its wait
carries : (over rate wait passed : ℕ) → 0 < rate → wait ≡ wait_from over rate → wait ≤ passed → over ≤ rate * passed
carries over rate wait passed some is long =
    omega (arith, mul-le-mul_left rate long, whole)
  where
    whole : over ≤ rate * wait
    whole = subst (λ (n : ℕ). over ≤ rate * n) (sym is) (omega arith)

-- from the deadline on, no more than the limit is owed
paid_by : (owed limit rate since at now : ℕ) (low some : Bool) → nat_le owed limit ≡ low → nat_lt 0 rate ≡ some
    → (if low then Some since else (if some then within_clock (since + wait_from (owed - limit) rate) else None)) ≡ Some at → at ≤ now
    → owed - rate * (now - since) ≤ limit
paid_by owed limit rate since at now true some low_is some_is is come =
    let low : owed ≤ limit = grind (arith, nat_tests) in omega (arith, low)
paid_by owed limit rate since at now false true low_is some_is is come =
    let positive : 0 < rate = grind (arith, nat_tests) in
    let due : since + wait_from (owed - limit) rate ≤ now = within (since + wait_from (owed - limit) rate) at now (nat_lt (since + wait_from (owed - limit) rate) (2 ^ 64)) is come in
    omega (arith, carries (owed - limit) rate (wait_from (owed - limit) rate) (now - since) positive refl (omega (arith, due)))
  where
    within : (due at now : ℕ) (b : Bool) → (if b then Some due else None) ≡ Some at → at ≤ now → due ≤ now
    within due at now true is come = let same : due ≡ at = cc in omega (arith, same)
    within due at now false is come = cc
paid_by owed limit rate since at now false false low_is some_is is come = cc

leaves_by : (p : Pacing) (at now : ℕ) (kind : Option PacedKind) → first_kind p.waits ≡ kind → deadline_by kind p ≡ Some at → at ≤ now
    → next_of (filled now p) ≢ None
leaves_by p at now None kind_is is come = cc
leaves_by p at now (Some kind) kind_is is come =
    leaves (filled now p) kind kind_is
    (paid_by p.owed (limit_of p) p.rate p.at at now (nat_le p.owed (limit_of p)) (nat_lt 0 p.rate) refl refl is come)

pub leaves_when_due : LeavesWhenDue
leaves_when_due p at now is come = leaves_by p at now (first_kind p.waits) refl is come
