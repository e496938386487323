-- If no block was stored, a packet adds none.
use Rattle.std.proofs.Common.{◌≡◌, ◌∙◌, refl, ap, cond, ℕ, zero, suc, ◌==◌, ◌&&◌, ◌||◌, List, [], ◌∷◌, Bool, true, false, Option, Some, None, slice_set}
use Rattle.std.specs.Prelude.{replicate}
use Rattle.codec_payload_jitter.specs.declared.outcome.Outcome.{Outcome}
use Rattle.codec_payload_receiver.specs.RedOnce.{HasNoBlock}
use Rattle.codec_payload_numbers.specs.SeenTimes.{Seen, has_block, none_seen, seen_with, seen_past}
use Rattle.codec_payload_receiver.specs.Sessions.{is_restart, packet_seen}
use Rattle.codec_payload_numbers.specs.declared.seen_times.SeenTime.{SeenTime}

pub and_false : (b : Bool) → (b && false) ≡ false
and_false true = refl
and_false false = refl

second_false : (a b : Bool) → (a || b) ≡ false → b ≡ false
second_false true b is = absurd (cc)
second_false false b is = is

first_false : (a b : Bool) → (a || b) ≡ false → a ≡ false
first_false true b is = is
first_false false b is = refl

packet_at : ℕ → SeenTime
packet_at at = record { time = at; is_block = false }

none_with : (time at : ℕ) (places : List (Option SeenTime)) (i : ℕ) → has_block time places ≡ false → has_block time (slice_set places i (Some (packet_at at))) ≡ false
unfolding packet_at
none_with time at [] i none = none
none_with time at (None ∷ ps) zero none = none
none_with time at (Some x ∷ ps) zero none = second_false (x.is_block && (x.time == time)) (has_block time ps) none
none_with time at (None ∷ ps) (suc i) none = none_with time at ps i none
none_with time at (Some x ∷ ps) (suc i) none =
    ap (λ (b : Bool). b || has_block time (slice_set ps i (Some (packet_at at)))) (first_false (x.is_block && (x.time == time)) (has_block time ps) none)
    ∙ none_with time at ps i (second_false (x.is_block && (x.time == time)) (has_block time ps) none)

none_at_first : (n time : ℕ) → has_block time (replicate n None) ≡ false
none_at_first zero time = refl
none_at_first (suc n) time = none_at_first n time

pub new_has_no_block : HasNoBlock none_seen
new_has_no_block time = none_at_first 64 time

-- a packet is not a block
pub packet_has_no_block : (red : Bool) (outcome : Outcome) (at : ℕ) (seen : Seen) → HasNoBlock seen → HasNoBlock (packet_seen red outcome at seen)
unfolding packet_at
packet_has_no_block false outcome at seen none time = none time
packet_has_no_block true outcome at seen none time = by_restart (is_restart outcome)
  where
    by_restart : (b : Bool) → has_block time (seen_with (packet_at at) (cond b none_seen seen)).places ≡ false
    by_restart true = none_with time at none_seen.places none_seen.next (new_has_no_block time)
    by_restart false = none_with time at seen.places seen.next (none time)

-- a number without media adds none
pub past_has_no_block : (restarted : Bool) (seen : Seen) → HasNoBlock seen → HasNoBlock (seen_past restarted seen)
past_has_no_block true seen none = new_has_no_block
past_has_no_block false seen none = none
