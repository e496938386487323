-- Pushes, one by one, keep the highest of the pushed numbers.
use Rattle.std.proofs.Common.{◌≡◌, if◌then◌else◌, ℕ, ◌<◌, ◌≤◌, ◌+◌, ◌-◌, [], ◌∷◌, ◌++◌, List, length, take, drop, refl, ap}
use Rattle.std.proofs.Common.{sym, ◌∙◌, subst, arith, true, false, cond, Option, Some, None, append_assoc, inl, inr, ltb, ◌||◌, Bool}
use Rattle.std.proofs.lemmas.Bool.{cases_lt}
use Rattle.std.proofs.lemmas.Bool.Decides.{nat_tests}
use Rattle.std.proofs.lemmas.List.{length-append, take-append-drop, take_at, drop_at, length-take-le}
use Rattle.codec_payload_codec.specs.Depacketizers.{DepacketizerState, is_built_in_depacketizer, head_of, tail_of}
use Rattle.codec_payload_metadata.specs.declared.meta.RtpMeta.{RtpMeta}
use Rattle.codec_payload_buffer.specs.Held.{Held, Rises, AllAbove, IsAboveCutoff, placed, has_number, number_of, TakesLowest}
use Rattle.codec_payload_buffer.specs.Steps.{State, IsArrived, pushed, is_dropped, kept_to_limit, without_lowest, is_at_most}
use Rattle.codec_payload_buffer.proofs.Gathered.{gathered, last_number, is_some_left, with_kept}
use Rattle.codec_payload_buffer.specs.Stretches.{after_pushes}
use Rattle.codec_payload_codec.proofs.CaseLemmas.{by_test}
use Rattle.codec_payload_buffer.proofs.PlaceLemmas.{placed_rises, placed_above_cutoff, length_placed}

-- all numbers are at most n
abbrev AllUpTo : ℕ → List Held → Type 0
AllUpTo n [] = Unit {0}
AllUpTo n (p ∷ ps) = (p.meta.seq_no.0 ≤ n) × AllUpTo n ps

-- a packet above all of `low` is inserted after them
placed_behind : (p : Held) (low high : List Held) → AllUpTo p.meta.seq_no.0 low → has_number p.meta.seq_no.0 low ≡ false → placed p (low ++ high) ≡ low ++ placed p high
placed_behind p [] high a fresh = refl
placed_behind p (q ∷ qs) high a fresh =
    let below : q.meta.seq_no.0 < p.meta.seq_no.0 = grind (arith, nat_tests, a.0, fresh) in
    let t : ltb q.meta.seq_no.0 p.meta.seq_no.0 ≡ true = grind (arith, nat_tests, below) in
    rw t (ap (λ (zs : List Held). q ∷ zs) (placed_behind p qs high a.1 (grind (arith, fresh))))

-- p is inserted below the last of `low`
placed_within : (p : Held) (low high : List Held) (c : Option ℕ) (m : ℕ) → last_number low c ≡ Some m → p.meta.seq_no.0 < m → is_some_left low ≡ true → placed p (low ++ high) ≡ placed p low ++ high
placed_within p [] high c m last l some = absurd (cc)
placed_within p (q ∷ []) high c m last l some =
    let e : q.meta.seq_no.0 ≡ m = cc in
    let t : ltb q.meta.seq_no.0 p.meta.seq_no.0 ≡ false = grind (arith, nat_tests, e, l) in
    rw t refl
placed_within p (q ∷ r ∷ low) high c m last l some =
    by_test (ltb q.meta.seq_no.0 p.meta.seq_no.0) (λ b. cond b (q ∷ placed p (r ∷ low ++ high)) (p ∷ q ∷ (r ∷ low ++ high)) ≡ cond b (q ∷ placed p (r ∷ low)) (p ∷ q ∷ r ∷ low) ++ high)
    (λ e. ap (λ (zs : List Held). q ∷ zs) (placed_within p (r ∷ low) high (Some q.meta.seq_no.0) m last l refl))
    (λ e. refl)

last_cons : (q : Held) (low : List Held) (c d : Option ℕ) → last_number (q ∷ low) c ≡ last_number (q ∷ low) d
last_cons q low c d = refl

last_placed : (p : Held) (low : List Held) (c : Option ℕ) (m : ℕ) → last_number low c ≡ Some m → p.meta.seq_no.0 < m → is_some_left low ≡ true → last_number (placed p low) c ≡ Some m
last_placed p [] c m last l some = absurd (cc)
last_placed p (q ∷ []) c m last l some =
    let e : q.meta.seq_no.0 ≡ m = cc in
    let t : ltb q.meta.seq_no.0 p.meta.seq_no.0 ≡ false = grind (arith, nat_tests, e, l) in
    rw t last
last_placed p (q ∷ r ∷ low) c m last l some =
    by_test (ltb q.meta.seq_no.0 p.meta.seq_no.0) (λ b. last_number (cond b (q ∷ placed p (r ∷ low)) (p ∷ q ∷ r ∷ low)) c ≡ Some m)
    (λ e. last_placed p (r ∷ low) (Some q.meta.seq_no.0) m last l refl)
    (λ e. last)

last_append : (low : List Held) (q : Held) (c : Option ℕ) → last_number (low ++ q ∷ []) c ≡ Some q.meta.seq_no.0
last_append [] q c = refl
last_append (r ∷ low) q c = last_append low q (Some r.meta.seq_no.0)

-- facts about the dropped packets
record IsLow (low high : List Held) (c : Option ℕ) (m : ℕ) : Type 0 where
  last : last_number low c ≡ Some m
  up_to : AllUpTo m low
  higher : AllAbove m high
  present : has_number m low ≡ true
  lower : (n : ℕ) → m ≤ n → is_at_most c n ≡ false

up_more : (n m : ℕ) (hs : List Held) → n ≤ m → AllUpTo n hs → AllUpTo m hs
up_more n m [] l a = tt
up_more n m (p ∷ ps) l a = (omega (arith, a.0), up_more n m ps l a.1)

last_above : (n : ℕ) (q : Held) (low : List Held) (c : Option ℕ) (m : ℕ) → AllAbove n (q ∷ low) → last_number (q ∷ low) c ≡ Some m → n < m
last_above n q [] c m a last = let e : q.meta.seq_no.0 ≡ m = cc in omega (arith, a.0, e)
last_above n q (r ∷ low) c m a last = last_above n r low (Some q.meta.seq_no.0) m a.1 last

low_from : (low high : List Held) (q : Held) (c : Option ℕ) → Rises (q ∷ low ++ high) → (m : ℕ) × (last_number (q ∷ low) c ≡ Some m) × AllUpTo m (q ∷ low)
    × AllAbove m high × (has_number m (q ∷ low) ≡ true) × (q.meta.seq_no.0 ≤ m)
low_from [] high q c r = (q.meta.seq_no.0, refl, (omega arith, tt), r.0, grind (arith, nat_tests), omega arith)
low_from (s ∷ low) high q c r =
    let rest = low_from low high s (Some q.meta.seq_no.0) r.1 in
    let over : q.meta.seq_no.0 < rest.0 = omega (arith, r.0.0, rest.5) in
    (rest.0, rest.1, (omega (arith, over), rest.2), rest.3, grind (arith, nat_tests, rest.4), omega (arith, over))

low_is : (low high : List Held) (q : Held) (c : Option ℕ) → Rises (q ∷ low ++ high) → IsAboveCutoff c (q ∷ low ++ high) → (m : ℕ) × IsLow (q ∷ low) high c m
low_is low high q c r a =
    let facts = low_from low high q c r in
    (facts.0, record { last = facts.1; up_to = facts.2; higher = facts.3; present = facts.4; lower = λ n le. lower_than c a n (omega (arith, le, facts.5)) })
  where
    lower_than : (c : Option ℕ) → IsAboveCutoff c (q ∷ low ++ high) → (n : ℕ) → q.meta.seq_no.0 ≤ n → is_at_most c n ≡ false
    lower_than None a n le = refl
    lower_than (Some c) a n le = grind (arith, nat_tests, a.0)

has_append : (n : ℕ) (xs ys : List Held) → has_number n (xs ++ ys) ≡ (has_number n xs || has_number n ys)
has_append n [] ys = refl
has_append n (x ∷ xs) ys = grind (arith, nat_tests, has_append n xs ys)

absent_up : (n m : ℕ) (hs : List Held) → AllUpTo m hs → m < n → has_number n hs ≡ false
absent_up n m [] a l = refl
absent_up n m (p ∷ ps) a l = grind (arith, nat_tests, a.0, absent_up n m ps a.1 l)

kept_is : (s : State) (low high : List Held) → length (low ++ high) - s.limit ≡ length low
    → with_kept s (low ++ high) ≡ record s { held = high; cutoff = last_number low s.cutoff; evicted = is_some_left low || s.evicted }
kept_is s low high n = rw (n, take_at low high (length low) refl, drop_at low high (length low) refl) refl

-- one more packet: the lowest of the held ones joins those left out
evicted : (s : State) (low hs : List Held) → length low + length hs ≡ length low + s.limit + 1
    → without_lowest (record s { held = hs; cutoff = last_number low s.cutoff; evicted = is_some_left low || s.evicted }) hs ≡ with_kept s (low ++ hs)
evicted s low [] n = absurd (omega (arith, n))
evicted s low (q ∷ qs) n =
    let split : low ++ q ∷ qs ≡ (low ++ q ∷ []) ++ qs = sym (append_assoc low (q ∷ []) qs) in
    let count : length ((low ++ q ∷ []) ++ qs) - s.limit ≡ length (low ++ q ∷ []) = omega (arith, n, length-append (low ++ q ∷ []) qs, length-append low (q ∷ [])) in
    let is = kept_is s (low ++ q ∷ []) qs count in
    sym (ap (with_kept s) split ∙ is ∙ rw (last_append low q s.cutoff, some_append low q) refl)
  where
    some_append : (low : List Held) (q : Held) → is_some_left (low ++ q ∷ []) ≡ true
    some_append [] q = refl
    some_append (r ∷ low) q = refl

-- the packets of the stretch with one more
abbrev pub with_one : Option ℕ → List Held → Held → List Held
with_one cutoff hs p = if is_at_most cutoff p.meta.seq_no.0 || has_number p.meta.seq_no.0 hs then hs else placed p hs

push_none_left : (s : State) (high : List Held) (p : Held) → length high - s.limit ≡ 0 → pushed (record s { held = high }) p ≡ with_kept s (with_one s.cutoff high p)
push_none_left s high p n =
    by_test (is_at_most s.cutoff p.meta.seq_no.0 || has_number p.meta.seq_no.0 high)
    (λ b. cond b (record s { held = high }) (kept_to_limit (record s { held = placed p high })) ≡ with_kept s (cond b high (placed p high)))
    (λ e. sym (kept_is s [] high n))
    (λ e. by_test (ltb s.limit (length (placed p high))) (λ b. cond b (without_lowest (record s { held = placed p high }) (placed p high))
    (record s { held = placed p high }) ≡ with_kept s (placed p high))
    (λ over. let full : length (placed p high) ≡ s.limit + 1 = grind (arith, nat_tests, over, n, length_placed p high) in evicted s [] (placed p high) (omega (arith, full)))
    (λ fits. let room : length (placed p high) - s.limit ≡ 0 = grind (arith, nat_tests, fits) in sym (kept_is s [] (placed p high) room)))

-- a buffer in which some were left out
abbrev pub held_now : State → Held → List Held → List Held → State
held_now s q low high = record s { held = high; cutoff = last_number (q ∷ low) s.cutoff; evicted = true }

some_placed : (p : Held) (hs : List Held) → is_some_left (placed p hs) ≡ true
some_placed p [] = refl
some_placed p (q ∷ qs) = by_test (ltb q.meta.seq_no.0 p.meta.seq_no.0) (λ b. is_some_left (cond b (q ∷ placed p qs) (p ∷ q ∷ qs)) ≡ true) (λ e. refl) (λ e. refl)

not_last : (n m : ℕ) (hs : List Held) → n ≤ m → has_number n hs ≡ false → has_number m hs ≡ true → n < m
not_last n m hs le without with = elim (cases_lt n m) [ inl lt ↦ lt | inr ge ↦ let e : n ≡ m = omega arith in absurd (clash (sym without ∙ ap (λ k. has_number k hs) e ∙ with)) ]
  where
    clash : false ≡ true → ⊥
    clash h = cc

push_some_left : (s : State) (q : Held) (low high : List Held) (p : Held) (m : ℕ) → IsLow (q ∷ low) high s.cutoff m → length high ≡ s.limit
    → pushed (record s { held = high; cutoff = last_number (q ∷ low) s.cutoff; evicted = true }) p ≡ with_kept s (with_one s.cutoff (q ∷ low ++ high) p)
push_some_left s q low high p m facts n = elim (cases_lt m p.meta.seq_no.0) [
  | inl over ↦
      let fresh : has_number p.meta.seq_no.0 (q ∷ low) ≡ false = absent_up p.meta.seq_no.0 m (q ∷ low) facts.up_to over in
      let behind = placed_behind p (q ∷ low) high (up_more m p.meta.seq_no.0 (q ∷ low) (omega arith) facts.up_to) fresh in
      let free : is_at_most (last_number (q ∷ low) s.cutoff) p.meta.seq_no.0 ≡ false = rw facts.last (grind (arith, nat_tests, over)) in
      let same : (is_at_most s.cutoff p.meta.seq_no.0 || has_number p.meta.seq_no.0 (q ∷ low ++ high)) ≡ has_number p.meta.seq_no.0 high = rw
      (facts.lower p.meta.seq_no.0 (omega arith)) (has_append p.meta.seq_no.0 (q ∷ low) high ∙ rw fresh refl) in
      rw (free, same) (by_test (has_number p.meta.seq_no.0 high)
      (λ b. cond b (held_now s q low high) (kept_to_limit (held_now s q low (placed p high))) ≡ with_kept s (cond b (q ∷ low ++ high) (placed p (q ∷ low ++ high))))
      (λ e. sym (kept_is s (q ∷ low) high (omega (arith, n, length-append (q ∷ low) high))))
      (λ e.
      let full : ltb s.limit (length (placed p high)) ≡ true = grind (arith, nat_tests, n, length_placed p high) in
      rw full (evicted s (q ∷ low) (placed p high) (omega (arith, n, length_placed p high)) ∙ ap (with_kept s) (sym behind))))
  | inr under ↦
      let gone : is_at_most (last_number (q ∷ low) s.cutoff) p.meta.seq_no.0 ≡ true = rw facts.last (grind (arith, nat_tests, under)) in
      rw gone (by_test (is_at_most s.cutoff p.meta.seq_no.0 || has_number p.meta.seq_no.0 (q ∷ low ++ high))
      (λ b. held_now s q low high ≡ with_kept s (cond b (q ∷ low ++ high) (placed p (q ∷ low ++ high))))
      (λ e. sym (kept_is s (q ∷ low) high (omega (arith, n, length-append (q ∷ low) high))))
      (λ e.
      let absent : has_number p.meta.seq_no.0 (q ∷ low ++ high) ≡ false = grind (arith, e) in
      let absent_low : has_number p.meta.seq_no.0 (q ∷ low) ≡ false = grind (arith, has_append p.meta.seq_no.0 (q ∷ low) high, absent) in
      let less : p.meta.seq_no.0 < m = not_last p.meta.seq_no.0 m (q ∷ low) under absent_low facts.present in
      let within = placed_within p (q ∷ low) high s.cutoff m facts.last less refl in
      let last = last_placed p (q ∷ low) s.cutoff m facts.last less refl in
      let count : length (placed p (q ∷ low) ++ high) - s.limit ≡ length (placed p (q ∷ low)) = omega (arith, n, length-append (placed p (q ∷ low)) high) in
      sym (ap (with_kept s) within ∙ kept_is s (placed p (q ∷ low)) high count ∙ rw (last, sym facts.last, some_placed p (q ∷ low)) refl)))
]

push_kept : (s : State) (low high : List Held) (p : Held) → Rises (low ++ high) → IsAboveCutoff s.cutoff (low ++ high) → length (low ++ high) - s.limit ≡ length low
    → pushed (with_kept s (low ++ high)) p ≡ with_kept s (with_one s.cutoff (low ++ high) p)
push_kept s [] high p r a n = ap (λ t. pushed t p) (kept_is s [] high n) ∙ push_none_left s high p n
push_kept s (q ∷ low) high p r a n =
    let facts = low_is low high q s.cutoff r a in
    ap (λ t. pushed t p) (kept_is s (q ∷ low) high n) ∙ push_some_left s q low high p facts.0 facts.1 (omega (arith, n, length-append (q ∷ low) high))

-- one push
pub push_one : (s : State) (all : List Held) (p : Held) → Rises all → IsAboveCutoff s.cutoff all → pushed (with_kept s all) p ≡ with_kept s (with_one s.cutoff all p)
push_one s all p r a =
    let n = length all - s.limit in
    let whole = take-append-drop n all in
    let count : length all - s.limit ≡ length (take n all) = omega (arith, length-take-le n all (omega arith)) in
    subst (λ (zs : List Held). pushed (with_kept s zs) p ≡ with_kept s (with_one s.cutoff zs p)) whole
    (push_kept s (take n all) (drop n all) p (subst Rises (sym whole) r) (subst (IsAboveCutoff s.cutoff) (sym whole) a)
    (subst (λ (zs : List Held). length zs - s.limit ≡ length (take n all)) (sym whole) count))

pub with_one_rises : (c : Option ℕ) (all : List Held) (p : Held) → Rises all → Rises (with_one c all p)
with_one_rises c all p r = by_test (is_at_most c p.meta.seq_no.0 || has_number p.meta.seq_no.0 all) (λ b. Rises (cond b all (placed p all))) (λ e. r) (λ e. placed_rises p all r (grind (arith, e)))

with_one_above : (c : Option ℕ) (all : List Held) (p : Held) → IsAboveCutoff c all → IsAboveCutoff c (with_one c all p)
with_one_above c all p a = by_test (is_at_most c p.meta.seq_no.0 || has_number p.meta.seq_no.0 all) (λ b. IsAboveCutoff c (cond b all (placed p all))) (λ e. a)
    (λ e. placed_above_cutoff c p all (grind (arith, e)) a)

-- all pushes of a stretch
pub pushes_keep : (s : State) (all ps : List Held) → Rises all → IsAboveCutoff s.cutoff all → after_pushes (with_kept s all) ps ≡ with_kept s (gathered s.cutoff all ps)
pushes_keep s all [] r a = refl
pushes_keep s all (p ∷ ps) r a = ap (λ t. after_pushes t ps) (push_one s all p r a) ∙ (pushes_keep s (with_one s.cutoff all p) ps (with_one_rises s.cutoff all p r) (with_one_above s.cutoff all p a))

-- at each moment of a stretch the buffer holds the highest of the packets held before and pushed since
pub stretch_is : (s : State) (ps : List Held) → Rises s.held → IsAboveCutoff s.cutoff s.held → length s.held ≤ s.limit → after_pushes s ps ≡ with_kept s (gathered s.cutoff s.held ps)
stretch_is s ps r a few = ap (λ t. after_pushes t ps) (sym (kept_is s [] s.held (omega (arith, few)))) ∙ pushes_keep s s.held ps r a

-- a packet for which this depacketizer decided whether it begins and ends a unit
pub is_arrived : (depacketizer here : DepacketizerState) → here ≡ depacketizer → (meta : RtpMeta) (bytes seen again : List ℕ) → seen ≡ bytes → again ≡ bytes → (head tail : Bool)
    → (is_built_in_depacketizer here ≡ true → head ≡ head_of here seen) → (is_built_in_depacketizer here ≡ true → tail ≡ tail_of here meta.header.marker again)
    → IsArrived depacketizer meta bytes (record { meta = meta; bytes = bytes; head = head; tail = tail })
is_arrived depacketizer here is meta bytes seen again one two head tail begins ends = (
  refl,
  refl,
  λ built_in.
      let b = ap is_built_in_depacketizer is ∙ built_in in
      ap (λ (h : Bool). record { meta = meta; bytes = bytes; head = h; tail = tail }) (begins b ∙ (ap (λ (d : DepacketizerState). head_of d seen) is ∙ ap (head_of depacketizer) one))
      ∙ ap (λ (t : Bool). record { meta = meta; bytes = bytes; head = head_of depacketizer bytes; tail = t })
      (ends b ∙ (ap (λ (d : DepacketizerState). tail_of d meta.header.marker again) is ∙ ap (tail_of depacketizer meta.header.marker) two)),
)

-- a new packet is placed, and the lowest leaves where there are too many then
new_placed : (s : State) (p : Held) → is_at_most s.cutoff (number_of p) ≡ false → has_number (number_of p) s.held ≡ false → pushed s p ≡ kept_to_limit (record s { held = placed p s.held })
new_placed s p late fresh =
    let kept : is_dropped s (number_of p) ≡ false = rw (late, fresh) refl in
    ap (λ (b : Bool). cond b s (kept_to_limit (record s { held = placed p s.held }))) kept

pub pushed_over : (s : State) (p : Held) (new left : List Held) (n : ℕ) → is_at_most s.cutoff (number_of p) ≡ false → has_number (number_of p) s.held ≡ false → new ≡ placed p s.held
    → s.limit < length new → TakesLowest new n left → pushed s p ≡ record s { held = left; cutoff = Some n; evicted = true }
pushed_over s p [] left n late fresh at more takes = absurd takes
pushed_over s p (q ∷ qs) left n late fresh at more takes =
    new_placed s p late fresh ∙ (ap (λ (hs : List Held). kept_to_limit (record s { held = hs })) (sym at)
    ∙ (by_test (ltb s.limit (length (q ∷ qs))) (λ b. cond b (record s { held = qs; cutoff = Some (number_of q); evicted = true })
    (record s { held = q ∷ qs }) ≡ record s { held = qs; cutoff = Some (number_of q); evicted = true })
    (λ e. refl) (λ e. absurd (grind (arith, nat_tests, e, more)))
    ∙ (ap (λ (hs : List Held). record s { held = hs; cutoff = Some (number_of q); evicted = true }) (sym takes.1)
    ∙ ap (λ (k : ℕ). record s { held = left; cutoff = Some k; evicted = true }) (sym takes.0))))

pub pushed_within : (s : State) (p : Held) (new : List Held) → is_at_most s.cutoff (number_of p) ≡ false → has_number (number_of p) s.held ≡ false → new ≡ placed p s.held
    → length new ≤ s.limit → pushed s p ≡ record s { held = new }
pushed_within s p new late fresh at few =
    new_placed s p late fresh ∙ (ap (λ (hs : List Held). kept_to_limit (record s { held = hs })) (sym at)
    ∙ by_test (ltb s.limit (length new)) (λ b. cond b (without_lowest (record s { held = new }) new) (record s { held = new }) ≡ record s { held = new })
    (λ e. absurd (grind (arith, nat_tests, e, few))) (λ e. refl))
