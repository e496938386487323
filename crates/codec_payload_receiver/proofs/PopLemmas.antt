-- Pops of a receiver: the parts of the keyframe gate that they leave unchanged.
use Rattle.std.proofs.Common.{◌≡◌, ◌∙◌, ◌==◌, ◌&&◌, ◌||◌, not, Bool, true, false, Option, Some, None, Result, Ok, Err, ℕ, ◌+◌, ◌%◌, ◌^◌, refl, sym, ap, subst, arith, length, ◌<◌, ◌≤◌}
use Rattle.std.specs.Prelude.{⊤}
use Rattle.std.proofs.lemmas.Bool.{false≢true}
use Rattle.codec_payload_metadata.specs.Release.{Release}
use Rattle.codec_payload_base.specs.declared.error.PacketError.{PacketError}
use Rattle.codec_payload_buffer.specs.Steps.{HasTaken, State, popped_to}
use Rattle.codec_payload_jitter.specs.Receiving.{PopsWith, Receiving, settled, waiting_at}
use Rattle.codec_payload_keyframes.specs.UnitGates.{Gating, is_passed, is_shown, with_loss}
use Rattle.codec_payload_keyframes.specs.declared.references.UnitReferences.{UnitReferences}
use Rattle.codec_payload_receiver.specs.Bounds.{is_over}
use Rattle.codec_payload_receiver.specs.Noting.{Noting, TakesNotes}
use Rattle.codec_payload_receiver.specs.Pops.{DropsUnits, Answer, PassesOnce, PopsGated, PopsOnce, after_fault, bound_if, gates_after, gates_if, has_left, is_answered, is_large, is_memory, is_passed_on, is_unit, none_dropped, one_more, time_if}
use Rattle.codec_payload_receiver.specs.Sessions.{IsSorted, Session, time_with}
use Rattle.codec_payload_receiver.specs.declared.bound.UnitBound.{UnitBound}
use Rattle.codec_payload_receiver.specs.declared.receiver.Arrived.{Arrived}
use Rattle.codec_payload_receiver.proofs.SessionLemmas.{Balance, balance_of}

answer_drops : (g : Gating) (has_left : Bool) (answer : Answer) (references : UnitReferences) → (gates_after g has_left answer references).drops ≡ g.drops
answer_drops g true None references = refl
answer_drops g false None references = refl
answer_drops g has_left (Some (Ok unit)) references = refl
answer_drops g has_left (Some (Err fault)) references = by_fault (is_memory fault) has_left
  where
    by_fault : (memory left : Bool) → (after_fault memory g left).drops ≡ g.drops
    by_fault true true = refl
    by_fault true false = refl
    by_fault false left = refl

-- whether units are dropped is unchanged
pub drops_stay : (large : Bool) (g : Gating) (has_left : Bool) (answer : Answer) (references : UnitReferences) → (gates_if large g has_left answer references).drops ≡ g.drops
drops_stay true g has_left answer references = refl
drops_stay false g has_left answer references = answer_drops g has_left answer references

-- so is the bound
pub most_stays : (large : Bool) (b : UnitBound) (answer : Answer) → (bound_if large b answer).most ≡ b.most
most_stays true b answer = refl
most_stays false b answer = refl

pub once_most : (now : ℕ) (s : Session) (answer : Answer) (t : Session) → PopsOnce now s answer t → t.bound.most ≡ s.bound.most
once_most now s answer t pops = ap (λ (x : Session). x.bound.most) pops.left ∙ most_stays (is_large s.bound.most answer) s.bound answer

pub dropped_most : (now : ℕ) (s t : Session) → DropsUnits now s t → t.bound.most ≡ s.bound.most
dropped_most now s t none_dropped = refl
dropped_most now s t (one_more {mid = mid} unit before passes) = once_most now mid (Some (Ok unit)) t passes.0 ∙ dropped_most now s mid before

-- a receiver that drops no units passes on all of them
passes_all : (s : Session) (unit : Release) (references : UnitReferences) → s.gates.drops ≡ false → is_answered s (Some (Ok unit)) references ≡ true
passes_all s unit references keeps = by_test (is_over s.bound.most unit.bytes)
  where
    by_test : (large : Bool) → (large || is_passed s.gates unit.bytes unit.contiguous unit.codec_extra references) ≡ true
    by_test true = refl
    by_test false = ap (λ (b : Bool). not b || is_shown s.gates unit.bytes unit.contiguous unit.codec_extra references) keeps

-- a receiver that drops no units drops none
pub none_are_dropped : (now : ℕ) (s mid : Session) → s.gates.drops ≡ false → DropsUnits now s mid → mid ≡ s
none_are_dropped now s mid keeps none_dropped = refl
none_are_dropped now s t keeps (one_more {mid = mid} unit before passes) =
    let same : mid ≡ s = none_are_dropped now s mid keeps before in
    absurd (false≢true (passes.1 ∙ passes_all mid unit passes.0.references (ap (λ (x : Session). x.gates.drops) same ∙ keeps)))

-- so its pop is one pop of the jitter buffer
pub pops_at_once : (now : ℕ) (s : Session) (answer : Answer) (t : Session) → s.gates.drops ≡ false → PopsGated now s answer t → PopsOnce now s answer t
pops_at_once now s answer t keeps gated = subst (λ (x : Session). PopsOnce now x answer t) (none_are_dropped now s gated.mid keeps gated.dropped) gated.pops

-- the gate follows the counter of discarded packets
pub gates_by : (g new : Gating) (a b before after : ℕ) (answer : Answer) (references : UnitReferences) → a ≡ before → b ≡ after → new ≡ gates_after g (not (b == a)) answer references
    → new ≡ gates_after g (not (after == before)) answer references
gates_by g new a b before after answer references a_is b_is is =
    is ∙ ap (λ (n : ℕ). gates_after g (not (b == n)) answer references) a_is ∙ ap (λ (n : ℕ). gates_after g (not (n == before)) answer references) b_is

-- an answer that is not passed on is a unit, which is dropped
pub one_more_dropped : (now : ℕ) (s mid t : Session) (answer : Answer) → DropsUnits now s mid → PassesOnce now mid answer false t → DropsUnits now s t
one_more_dropped now s mid t None before passes = absurd (false≢true passes.1)
one_more_dropped now s mid t (Some (Err fault)) before passes = absurd (false≢true passes.1)
one_more_dropped now s mid t (Some (Ok unit)) before passes = one_more unit before passes

-- nor does it leave more packets
pub no_more : (now : ℕ) (x y : Session) (answer : Answer) (s t : State) (most : ℕ) → HasTaken answer s t → PassesOnce now x answer false y → length s.held ≤ most → length t.held ≤ most
no_more now x y None s t most taken passes few = absurd (false≢true passes.1)
no_more now x y (Some (Err fault)) s t most taken passes few = absurd (false≢true passes.1)
no_more now x y (Some (Ok unit)) s t most taken passes few = omega (arith, taken, few)

-- what takes from few packets takes from more
pub taken_within : (answer : Answer) (s from t : State) → length s.held ≤ length from.held → HasTaken answer s t → HasTaken answer from t
taken_within None s from t few taken = tt
taken_within (Some (Ok unit)) s from t few taken = omega (arith, few, taken)
taken_within (Some (Err fault)) s from t few taken = λ other. let less : length t.held < length s.held = taken other in omega (arith, few, less)

-- a pop pushes no packet
pops_balance : (wait : Option ℕ) (r t : Receiving) (answer : Answer) → PopsWith wait r answer t → balance_of t ≡ balance_of r
pops_balance None r t answer pops = ap balance_of pops.1
pops_balance (Some hold_back) r t answer pops = ap balance_of pops.2

-- so each datagram is still sorted
pub still_sorted : (a : Arrived) (wait : Option ℕ) (r t : Receiving) (answer : Answer) → PopsWith wait (settled r) answer t → IsSorted a r.counters → IsSorted a t.counters
still_sorted a wait r t answer pops is =
    subst (λ (b : Balance). (a.received + b.recovered) % 2 ^ 64 ≡ (b.pushed + a.rtcp + a.malformed + a.other_streams) % 2 ^ 64)
    (sym (pops_balance wait (settled r) t answer pops)) is

-- ---- the receiver after an answer

module _ (now : ℕ) (s t : Session) (answer : Answer) (packets : Receiving) (references : UnitReferences) (notes : Option Noting)
    (pops : PopsWith (waiting_at (settled s.packets) now) (settled s.packets) answer packets) (takes : TakesNotes answer s.notes references notes) where
  -- a unit above the bound
  pub over_after : is_large s.bound.most answer ≡ true
      → t ≡ record s { packets = packets; gates = with_loss s.gates; bound = bound_if (is_large s.bound.most answer) s.bound answer; notes = notes } → PassesOnce now s answer true t
  over_after large is = (
    record {
      packets = packets;
      references = references;
      notes = notes;
      pops = pops;
      takes = takes;
      left = is ∙ ap (λ (b : Bool). record s { packets = packets; time = time_if b s.time answer; gates = gates_if b s.gates (has_left s.packets packets) answer references; bound = bound_if (is_large s.bound.most answer) s.bound answer; notes = notes }) (sym large);
    },
    ap (λ (b : Bool). b || is_passed_on s.gates answer references) (sym large),
  )

  -- any other answer
  pub others_after : (passed : Bool) → passed ≡ is_passed_on s.gates answer references → is_large s.bound.most answer ≡ false
      → t ≡ record s { packets = packets; time = time_with s.time answer; gates = gates_after s.gates (has_left s.packets packets) answer references; bound = bound_if (is_large s.bound.most answer) s.bound answer; notes = notes }
      → PassesOnce now s answer passed t
  others_after passed passes large is = (
    record {
      packets = packets;
      references = references;
      notes = notes;
      pops = pops;
      takes = takes;
      left = is ∙ ap (λ (b : Bool). record s { packets = packets; time = time_if b s.time answer; gates = gates_if b s.gates (has_left s.packets packets) answer references; bound = bound_if (is_large s.bound.most answer) s.bound answer; notes = notes }) (sym large);
    },
    passes ∙ ap (λ (b : Bool). b || is_passed_on s.gates answer references) (sym large),
  )

and_true : (b : Bool) → (b && true) ≡ b
and_true true = refl
and_true false = refl

-- a unit alone is large
pub large_unit : (most : Option ℕ) (answer : Answer) → (is_large most answer && is_unit answer) ≡ is_large most answer
large_unit most None = refl
large_unit most (Some (Err fault)) = refl
large_unit most (Some (Ok unit)) = and_true (is_over most unit.bytes)

pub large_unit_in : (most : Option ℕ) (answer : Option (Result ⊤ PacketError)) (unit : Release) → (is_large most (popped_to answer unit) && is_unit answer) ≡ is_large most (popped_to answer unit)
large_unit_in most None unit = refl
large_unit_in most (Some (Err fault)) unit = refl
large_unit_in most (Some (Ok _)) unit = and_true (is_over most unit.bytes)
