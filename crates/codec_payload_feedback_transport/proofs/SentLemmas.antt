-- A packet that was sent is known by its number, until `limit` packets were sent after it.
use Rattle.std.proofs.Common.{◌≡◌, ℕ, ◌+◌, ◌-◌, ◌%◌, ◌<◌, List, [], ◌∷◌, ◌++◌, length, get_or, slice_get, Some, refl, sym, ap, ◌∙◌, subst, arith, length-append}
use Rattle.std.proofs.lemmas.Bool.{lt-ltb}
use Rattle.std.proofs.lemmas.List.{get_or-drop, get_or_append_left, get_or_at, length-drop}
use Rattle.std.proofs.lemmas.Option.{get_or_from_slice_get, slice_get-get_or}
use Rattle.codec_payload_feedback_transport.specs.Sent.{IsSent, Sent, SentAreKnown, after_all, after_sent, back_of, one_more, sent_at}

-- k packets were sent after the one with that number
record Known (s : Sent) (number time k : ℕ) : Type 0 where
  next : s.next ≡ (number + 1 + k) % 65536
  within : k < length s.times
  at : slice_get s.times (length s.times - 1 - k) ≡ Some time

longer : (time : ℕ) (times : List ℕ) → length (times ++ time ∷ []) ≡ length times + 1
longer time times = length-append times (time ∷ [])

pub length_one_more : (limit time : ℕ) (times : List ℕ) → length (one_more limit time times) ≡ length times + 1 - (length times + 1 - limit)
length_one_more limit time times = length-drop (length times + 1 - limit) (times ++ time ∷ []) ∙ ap (λ (n : ℕ). n - (length times + 1 - limit)) (longer time times)

-- the time at this place, from the end
at_place : (limit time index place : ℕ) (times : List ℕ) (x : ℕ) → place ≡ length times + 1 - limit + index → index < length (one_more limit time times) → get_or (times ++ time ∷ []) place 0 ≡ x → slice_get (one_more limit time times) index ≡ Some x
at_place limit time index place times x is within has =
    slice_get-get_or (one_more limit time times) index 0 within
    ∙ ap (λ (n : ℕ). Some n) (get_or-drop (length times + 1 - limit) (times ++ time ∷ []) index 0 ∙ ap (λ (n : ℕ). get_or (times ++ time ∷ []) n 0) (sym is) ∙ has)

stays_sent : (s : Sent) (time : ℕ) → IsSent s → IsSent (after_sent time s)
stays_sent s time h = record { some = h.some; few = h.few; within = omega (arith, h.within, h.some, length_one_more s.limit time s.times) }

known_first : (s : Sent) (time : ℕ) → IsSent s → Known (after_sent time s) s.next time 0
known_first s time h =
    let len : length (one_more s.limit time s.times) ≡ length s.times + 1 - (length s.times + 1 - s.limit) = length_one_more s.limit time s.times in
    let some : 0 < length (one_more s.limit time s.times) = omega (arith, len, h.some) in
    record {
      next = omega arith;
      within = some;
      at = at_place s.limit time (length (one_more s.limit time s.times) - 1 - 0) (length s.times) s.times time (omega (arith, len, h.some, h.within)) (omega (arith, some)) (get_or_at s.times time [] 0 (length s.times) refl);
    }

known_next : (s : Sent) (number time k later : ℕ) → IsSent s → k + 1 < s.limit → Known s number time k → Known (after_sent later s) number time (k + 1)
known_next s number time k later h room known =
    let len : length (one_more s.limit later s.times) ≡ length s.times + 1 - (length s.times + 1 - s.limit) = length_one_more s.limit later s.times in
    let place : ℕ = length s.times - 1 - k in
    let before : place < length s.times = omega (arith, known.within) in
    let was : get_or s.times place 0 ≡ time = get_or_from_slice_get s.times place time 0 known.at in
    record {
      next = omega (arith, known.next);
      within = omega (arith, len, known.within, room);
      at = at_place s.limit later (length (one_more s.limit later s.times) - 1 - (k + 1)) place s.times time (omega (arith, len, known.within, room, h.within)) (omega (arith, len, known.within, room)) (get_or_append_left s.times (later ∷ []) 0 place before ∙ was);
    }

known_as : (s : Sent) (number time j k : ℕ) → j ≡ k → Known s number time j → Known s number time k
known_as s number time j k is known = subst (λ (n : ℕ). Known s number time n) is known

known_all : (later : List ℕ) (s : Sent) (number time k : ℕ) → IsSent s → k + length later < s.limit → Known s number time k → Known (after_all later s) number time (k + length later)
known_all [] s number time k h room known = known_as s number time k (k + 0) (omega arith) known
known_all (t ∷ later) s number time k h room known =
    let rest : Known (after_all later (after_sent t s)) number time (k + 1 + length later) =
    known_all later (after_sent t s) number time (k + 1) (stays_sent s t h) (omega (arith, room)) (known_next s number time k t h (omega (arith, room)) known) in
    known_as (after_all later (after_sent t s)) number time (k + 1 + length later) (k + length (t ∷ later)) (omega arith) rest

is_back : (next number k : ℕ) → next ≡ (number + 1 + k) % 65536 → number < 65536 → k < 32768 → (next + 65535 - number) % 65536 ≡ k
is_back next number k is small few = omega (arith, is, small, few)

found : (s : Sent) (number time k : ℕ) → number < 65536 → k < 32768 → Known s number time k → sent_at number s ≡ Some time
found s number time k small few known =
    let back : back_of number s ≡ k = is_back s.next number k known.next small few in
    rw back (rw (lt-ltb k (length s.times) known.within) known.at)

pub sent_are_known : SentAreKnown
sent_are_known s time later h small room =
    let known : Known (after_all later (after_sent time s)) s.next time (0 + length later) =
    known_all later (after_sent time s) s.next time 0 (stays_sent s time h) (omega (arith, room)) (known_first s time h) in
    found (after_all later (after_sent time s)) s.next time (0 + length later) small (omega (arith, room, h.few)) known
