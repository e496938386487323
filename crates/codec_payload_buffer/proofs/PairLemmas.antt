-- Two packets that are stored at once: each is a push.
use Rattle.std.proofs.Common.{◌≡◌, ℕ, ◌<◌, ◌≤◌, ◌+◌, [], ◌∷◌, List, length, refl, ap, sym, subst, ◌∙◌, arith, Bool, true, false, cond, Option, Some, None, ltb, ◌||◌}
use Rattle.std.proofs.lemmas.Bool.Decides.{nat_tests}
use Rattle.codec_payload_codec.proofs.CaseLemmas.{by_test}
use Rattle.codec_payload_buffer.specs.Held.{Held, Rises, TakesLowest, has_number, number_of, placed}
use Rattle.std.specs.Option.{option_or}
use Rattle.codec_payload_buffer.specs.Pairs.{IsAt, is_there, stored}
use Rattle.codec_payload_buffer.specs.Steps.{State, IsSound, is_at_most, is_dropped, kept_to_limit, placed_among, placed_at, pushed, without_lowest}
use Rattle.codec_payload_buffer.specs.declared.buffer.placed.Placed.TheVariants as places
use Rattle.codec_payload_buffer.proofs.PlaceLemmas.{length_placed, placed_above_cutoff, placed_rises}
use Rattle.codec_payload_buffer.proofs.PushLemmas.{pushed_over, pushed_within}

-- what is held already stays
same_there : (s : State) (hs : List Held) → s.held ≡ hs → stored s hs None ≡ s
same_there s hs held = subst (λ (xs : List Held). stored s xs None ≡ s) held refl

dropped_stays : (s : State) (p : Held) → is_dropped s (number_of p) ≡ true → pushed s p ≡ s
dropped_stays s p dropped = rw dropped refl

pub late_stored : (s : State) (p : Held) (hs : List Held) (c : Option ℕ) (limit : ℕ) → IsAt s hs c limit → is_at_most c (number_of p) ≡ true → stored s hs None ≡ pushed s p
late_stored s p hs c limit at late =
    let is_late : is_at_most s.cutoff (number_of p) ≡ true = ap (λ (x : Option ℕ). is_at_most x (number_of p)) at.1 ∙ late in
    same_there s hs at.0 ∙ sym (dropped_stays s p (rw is_late refl))

pub known_stored : (s : State) (p : Held) (hs : List Held) (c : Option ℕ) (limit : ℕ) → IsAt s hs c limit → has_number (number_of p) hs ≡ true → stored s hs None ≡ pushed s p
known_stored s p hs c limit at known =
    let is_known : has_number (number_of p) s.held ≡ true = ap (has_number (number_of p)) at.0 ∙ known in
    same_there s hs at.0 ∙ sym (dropped_stays s p (or_true (is_at_most s.cutoff (number_of p)) (has_number (number_of p) s.held) is_known))
  where
    or_true : (a b : Bool) → b ≡ true → (a || b) ≡ true
    or_true true b is = refl
    or_true false b is = is

pub within_stored : (s : State) (p : Held) (hs new : List Held) (c : Option ℕ) (limit : ℕ) → IsAt s hs c limit → is_at_most c (number_of p) ≡ false → has_number (number_of p) hs ≡ false
    → new ≡ placed p hs → length new ≤ limit → stored s new None ≡ pushed s p
within_stored s p hs new c limit at late fresh put few =
    sym (pushed_within s p new (ap (λ (x : Option ℕ). is_at_most x (number_of p)) at.1 ∙ late) (ap (has_number (number_of p)) at.0 ∙ fresh) (put ∙ ap (placed p) (sym at.0)) (omega (arith, few, at.2)))

pub over_stored : (s : State) (p : Held) (hs mid left : List Held) (n : ℕ) (c : Option ℕ) (limit : ℕ) → IsAt s hs c limit → is_at_most c (number_of p) ≡ false → has_number (number_of p) hs ≡ false
    → mid ≡ placed p hs → limit < length mid → TakesLowest mid n left → stored s left (Some n) ≡ pushed s p
over_stored s p hs mid left n c limit at late fresh put many takes =
    sym (pushed_over s p mid left n (ap (λ (x : Option ℕ). is_at_most x (number_of p)) at.1 ∙ late) (ap (has_number (number_of p)) at.0 ∙ fresh) (put ∙ ap (placed p) (sym at.0)) (omega (arith, many, at.2)) takes)

-- the result for the packet

pub late_at : (s : State) (n : ℕ) (hs : List Held) (c : Option ℕ) (limit : ℕ) → IsAt s hs c limit → is_at_most c n ≡ true → places.Late ≡ placed_at s n
late_at s n hs c limit at late = rw (ap (λ (x : Option ℕ). is_at_most x n) at.1 ∙ late) refl

pub known_at : (s : State) (n : ℕ) (hs : List Held) (c : Option ℕ) (limit : ℕ) → IsAt s hs c limit → is_at_most c n ≡ false → has_number n hs ≡ true → places.Duplicate ≡ placed_at s n
known_at s n hs c limit at late known = rw (ap (λ (x : Option ℕ). is_at_most x n) at.1 ∙ late, ap (has_number n) at.0 ∙ known) refl

pub new_at : (s : State) (n : ℕ) (hs : List Held) (c : Option ℕ) (limit : ℕ) → IsAt s hs c limit → is_at_most c n ≡ false → has_number n hs ≡ false → placed_among limit hs ≡ placed_at s n
new_at s n hs c limit at late fresh = rw (ap (λ (x : Option ℕ). is_at_most x n) at.1 ∙ late, ap (has_number n) at.0 ∙ fresh) (ap (λ l. placed_among l hs) (sym at.2) ∙ ap (placed_among s.limit) (sym at.0))

-- a push keeps a buffer sound

lowest_sound : (s : State) (hs : List Held) → Rises hs → length hs ≤ s.limit + 1 → 0 < length hs → IsSound (without_lowest s hs)
lowest_sound s [] rises few some = absurd (omega arith)
lowest_sound s (q ∷ qs) rises few some = record { rises = rises.1; above = rises.0; few = omega (arith, few) }

pub pushed_sound : (s : State) (p : Held) → IsSound s → IsSound (pushed s p)
pushed_sound s p sound =
    by_test (is_at_most s.cutoff (number_of p) || has_number (number_of p) s.held)
    (λ b. IsSound (cond b s (kept_to_limit (record s { held = placed p s.held }))))
    (λ dropped. sound)
    (λ new.
    let late : is_at_most s.cutoff (number_of p) ≡ false = grind (arith, new) in
    let fresh : has_number (number_of p) s.held ≡ false = grind (arith, new) in
    let rises : Rises (placed p s.held) = placed_rises p s.held sound.rises fresh in
    let long : length (placed p s.held) ≡ length s.held + 1 = length_placed p s.held in
    by_test (ltb s.limit (length (placed p s.held)))
    (λ b. IsSound (cond b (without_lowest (record s { held = placed p s.held }) (placed p s.held)) (record s { held = placed p s.held })))
    (λ over. lowest_sound (record s { held = placed p s.held }) (placed p s.held) rises (omega (arith, long, sound.few)) (omega (arith, long)))
    (λ within. record { rises = rises; above = placed_above_cutoff s.cutoff p s.held late sound.above; few = grind (arith, nat_tests, within) }))

-- two packets, one after the other: what the fields hold then
pub stored_twice : (s : State) (p q : Held) (h1 h2 : List Held) (g1 g2 c1 c2 : Option ℕ) (e1 e2 : Bool)
    → c1 ≡ option_or g1 s.cutoff → e1 ≡ (is_there g1 || s.evicted) → c2 ≡ option_or g2 c1 → e2 ≡ (is_there g2 || e1)
    → stored s h1 g1 ≡ pushed s p → stored (stored s h1 g1) h2 g2 ≡ pushed (stored s h1 g1) q
    → record s { held = h2; cutoff = c2; evicted = e2 } ≡ pushed (pushed s p) q
stored_twice s p q h1 h2 g1 g2 c1 c2 e1 e2 cutoff_1 evicted_1 cutoff_2 evicted_2 one two =
    ap (λ (c : Option ℕ). record s { held = h2; cutoff = c; evicted = e2 }) (cutoff_2 ∙ ap (option_or g2) cutoff_1)
    ∙ (ap (λ (e : Bool). record s { held = h2; cutoff = option_or g2 (option_or g1 s.cutoff); evicted = e }) (evicted_2 ∙ ap (λ (e : Bool). is_there g2 || e) evicted_1)
    ∙ (two ∙ ap (λ (x : State). pushed x q) one))
