-- The numbers of a viewer's stream over whole runs.
use Rattle.std.proofs.Common.{◌≡◌, ◌≢◌, ◌∙◌, refl, sym, ap, ℕ, zero, suc, ◌+◌, ◌-◌, ◌%◌, ◌<◌, ◌≤◌, List, [], ◌∷◌, length, take, get_or, Bool, true, false, cond, eqb, ltb, leb, arith}
use Rattle.std.specs.Prelude.{◌||◌}
use Rattle.std.proofs.lemmas.Bool.{le-ltb, lt-ltb, ltb-false, ltb-true, leb-true}
use Rattle.std.proofs.lemmas.List.{get_or-take, length-take}
use Rattle.codec_payload_sending_forward.specs.declared.renumbering.Placed.TheVariants as answers
use Rattle.codec_payload_sending_forward.specs.Numbers.{AllBelow, Falls, Numbers, above, after_packet, begun, below, closed, is_in, is_too_old, next_number, placed, sent_as, without_lowest}
use Rattle.codec_payload_sending_forward.specs.NumberRuns.{Call, IsGiven, KeepsGaps, KeepsNumbers, Renumbers, SendsGiven, Stretch, SwitchesNext, after_call, call_of, map_after, next_of, number_of, packet, stretch, stretch_after, switch}
use Rattle.codec_payload_sending_forward.proofs.NumberLemmas.{Order, above_few, above_more, all_below_at, all_below_less, all_below_take, below_all, below_more, below_same, falls_take, in_more, less, more, not_first, order, parted, room_above, same}
use Rattle.codec_payload_sending_forward.proofs.MapLemmas.{true_false, young_by}

-- Numbers below others

above_all : (n x : ℕ) (xs : List ℕ) → above n (x ∷ xs) ≡ suc (length xs) → (n < x) × (above n xs ≡ length xs)
above_all n x xs e = by (ltb n x) refl e
  where
    by : (b : Bool) → ltb n x ≡ b → cond b (suc (above n xs)) (above n xs) ≡ suc (length xs) → (n < x) × (above n xs ≡ length xs)
    by true l e = (ltb-true n x l, omega (arith, e))
    by false l e = absurd (omega (arith, e, above_few n xs))

-- numbers above the first are no more than there are in between
low_within : (first n : ℕ) (xs : List ℕ) → first ≤ n → Falls xs → above first xs ≡ length xs → below n xs + first ≤ n
low_within first n [] l f e = omega (arith, l)
low_within first n (x ∷ xs) l f e =
    let s = above_all first x xs e in
    by (order n x) s (low_within first n xs l f.1 s.1)
  where
    by : Order n x → (first < x) × (above first xs ≡ length xs) → below n xs + first ≤ n → below n (x ∷ xs) + first ≤ n
    by (less m) s low = rw (below_same n x xs (omega (arith, m))) low
    by (same i) s low = rw (below_same n x xs (omega (arith, i))) low
    by (more m) s low = rw (below_more n x xs m, below_all n xs (all_below_less x n xs (omega (arith, m)) f.0)) (omega (arith, m, s.1, room_above first x xs s.0 f.1 f.0))

below_grows : (a b : ℕ) (xs : List ℕ) → a ≤ b → below a xs ≤ below b xs
below_grows a b [] l = omega arith
below_grows a b (x ∷ xs) l = by (order a x) (order b x) (below_grows a b xs l)
  where
    by : Order a x → Order b x → below a xs ≤ below b xs → below a (x ∷ xs) ≤ below b (x ∷ xs)
    by (more m) (more k) h = rw (below_more a x xs m, below_more b x xs k) (omega (arith, h))
    by (more m) (less k) h = absurd (omega (arith, m, k, l))
    by (more m) (same k) h = absurd (omega (arith, m, k, l))
    by (less m) (more k) h = rw (below_same a x xs (omega (arith, m)), below_more b x xs k) (omega (arith, h))
    by (less m) (less k) h = rw (below_same a x xs (omega (arith, m)), below_same b x xs (omega (arith, k))) h
    by (less m) (same k) h = rw (below_same a x xs (omega (arith, m)), below_same b x xs (omega (arith, k))) h
    by (same m) (more k) h = rw (below_same a x xs (omega (arith, m)), below_more b x xs k) (omega (arith, h))
    by (same m) (less k) h = rw (below_same a x xs (omega (arith, m)), below_same b x xs (omega (arith, k))) h
    by (same m) (same k) h = rw (below_same a x xs (omega (arith, m)), below_same b x xs (omega (arith, k))) h

-- between two numbers, of which the first is not among them, are fewer than their distance
between : (a b : ℕ) (xs : List ℕ) → a < b → Falls xs → is_in a xs ≡ false → below b xs + suc a ≤ below a xs + b
between a b [] l f out = omega (arith, l)
between a b (x ∷ xs) l f out =
    let s = not_first a x xs out in
    by (order b x) (order a x) s.0 (between a b xs l f.1 s.1) (parted a xs s.1)
  where
    here : (c : ℕ) → x < c → below c (x ∷ xs) ≡ suc (length xs)
    here c m = below_more c x xs m ∙ ap suc (below_all c xs (all_below_less x c xs (omega (arith, m)) f.0))

    by : Order b x → Order a x → a ≢ x → below b xs + suc a ≤ below a xs + b → above a xs + below a xs ≡ length xs → below b (x ∷ xs) + suc a ≤ below a (x ∷ xs) + b
    by (less m) k ne h e = rw (below_same b x xs (omega (arith, m)), below_same a x xs (omega (arith, m, l))) h
    by (same m) k ne h e = rw (below_same b x xs (omega (arith, m)), below_same a x xs (omega (arith, m, l))) h
    by (more m) (less k) ne h e = rw (here b m, below_same a x xs (omega (arith, k))) (omega (arith, m, e, room_above a x xs k f.1 f.0))
    by (more m) (same k) ne h e = absurd (ne k)
    by (more m) (more k) ne h e = rw (here b m, here a k) (omega (arith, l))

-- The lowest of them leaves

below_last : (n k : ℕ) (xs : List ℕ) → length xs ≡ suc k → get_or xs k 0 < n → below n xs ≡ suc (below n (take k xs))
below_last n k [] e l = absurd (omega (arith, e))
below_last n zero (x ∷ []) e l = below_more n x [] l
below_last n zero (x ∷ y ∷ ys) e l = absurd (omega (arith, e))
below_last n (suc k) (x ∷ xs) e l = by (order n x) (below_last n k xs (omega (arith, e)) l)
  where
    by : Order n x → below n xs ≡ suc (below n (take k xs)) → below n (x ∷ xs) ≡ suc (below n (x ∷ take k xs))
    by (less m) h = rw (below_same n x xs (omega (arith, m)), below_same n x (take k xs) (omega (arith, m))) h
    by (same m) h = rw (below_same n x xs (omega (arith, m)), below_same n x (take k xs) (omega (arith, m))) h
    by (more m) h = rw (below_more n x xs m, below_more n x (take k xs) m) (ap suc h)

in_last : (n k : ℕ) (xs : List ℕ) → length xs ≡ suc k → get_or xs k 0 < n → is_in n xs ≡ is_in n (take k xs)
in_last n k [] e l = absurd (omega (arith, e))
in_last n zero (x ∷ []) e l = in_more n x [] (λ i. omega (arith, i, l))
in_last n zero (x ∷ y ∷ ys) e l = absurd (omega (arith, e))
in_last n (suc k) (x ∷ xs) e l = ap (λ (b : Bool). eqb x n || b) (in_last n k xs (omega (arith, e)) l)

falls_at : (i j : ℕ) (xs : List ℕ) → i < j → j < length xs → Falls xs → get_or xs j 0 < get_or xs i 0
falls_at i j [] l m f = absurd (omega (arith, m))
falls_at zero zero (x ∷ xs) l m f = absurd (omega (arith, l))
falls_at zero (suc j) (x ∷ xs) l m f = all_below_at x j xs (omega (arith, m)) f.0
falls_at (suc i) zero (x ∷ xs) l m f = absurd (omega (arith, l))
falls_at (suc i) (suc j) (x ∷ xs) l m f = falls_at i j xs (omega (arith, l)) (omega (arith, m)) f.1

from_last : (low k : ℕ) (xs : List ℕ) → length xs ≡ 4096 → Falls xs → get_or xs 4095 0 ≡ low → k < 4095 → suc low ≤ get_or (take 4095 xs) k 0
from_last low k xs full f e l = omega (arith, falls_at k 4095 xs l (omega (arith, full)) f, e, get_or-take 4095 xs k 0 l)

from_more : (first n : ℕ) (xs : List ℕ) → first ≤ n → ((k : ℕ) → k < length xs → first ≤ get_or xs k 0) → (k : ℕ) → k < suc (length xs) → first ≤ get_or (n ∷ xs) k 0
from_more first n xs l h zero m = l
from_more first n xs l h (suc k) m = h k (omega (arith, m))

-- a packet that is too old is not above all others
old_low : (m : Numbers) (n : ℕ) → m.first ≤ m.highest → is_too_old m n ≡ true → n ≤ m.highest
old_low m n some e = by (ltb n m.first) refl (leb 32768 (m.highest - n)) refl e
  where
    by : (a : Bool) → ltb n m.first ≡ a → (b : Bool) → leb 32768 (m.highest - n) ≡ b → (a || b) ≡ true → n ≤ m.highest
    by true x b y h = omega (arith, ltb-true n m.first x, some)
    by false x true y h = omega (arith, leb-true 32768 (m.highest - n) y)
    by false x false y h = absurd (true_false (sym h))

-- The stretch alone

pub record IsStretch (s : Stretch) : Type 0 where
  pub some : s.first ≤ s.highest
  pub falls : Falls s.gone
  pub within : AllBelow (suc s.highest) s.gone
  pub high : above s.first s.gone ≡ length s.gone

-- the numbers left out leave room for the first one
room : (s : Stretch) → IsStretch s → length s.gone + s.first ≤ s.highest
room s h = omega (arith, h.high, room_above s.first (suc s.highest) s.gone (omega (arith, h.some)) h.falls h.within)

-- The stretch and the map of the same calls; `lost` numbers were forgotten by the map

pub record Follows (s : Stretch) (m : Numbers) (lost : ℕ) : Type 0 where
  pub stretch : IsStretch s
  pub highest : m.highest ≡ s.highest
  pub first : s.first ≤ m.first
  pub some : m.first ≤ m.highest
  pub few : length m.left_out ≤ 4096
  pub within : AllBelow (suc s.highest) m.left_out
  pub falls : Falls m.left_out
  pub from : (k : ℕ) → k < length m.left_out → m.first ≤ get_or m.left_out k 0
  pub count : length s.gone ≡ lost + length m.left_out
  pub counts : (n : ℕ) → m.first ≤ n → below n s.gone ≡ lost + below n m.left_out
  pub among : (n : ℕ) → m.first ≤ n → is_in n m.left_out ≡ is_in n s.gone
  pub offset : (m.offset + s.first + lost) % 65536 ≡ s.start % 65536

begun_offset : (first start w : ℕ) → w ≡ start % 65536 → ((w + 65536 - first % 65536) % 65536 + first + 0) % 65536 ≡ start % 65536
begun_offset first start w e = omega (arith, e)

begins : (first start w : ℕ) → w ≡ start % 65536 → Follows (stretch first start) (begun first w) 0
begins first start w e = record {
  stretch = record { some = omega arith; falls = tt; within = tt; high = refl };
  highest = refl;
  first = omega arith;
  some = omega arith;
  few = omega arith;
  within = tt;
  falls = tt;
  from = λ k l. absurd (omega (arith, l));
  count = refl;
  counts = λ n l. refl;
  among = λ n l. refl;
  offset = begun_offset first start w e;
}

next_is : (h o l start first lost : ℕ) → lost + l + first ≤ h → l ≤ 4096 → (o + first + lost) % 65536 ≡ start % 65536 → (suc h + o + 65536 - l) % 65536 ≡ (start + (suc h - first) - (lost + l)) % 65536
next_is h o l start first lost r few e = omega (arith, r, few, e)

sent_is : (n o b start first lost : ℕ) → lost + b + first ≤ n → (o + first + lost) % 65536 ≡ start % 65536 → (n + o + 65536 - b) % 65536 ≡ (start + (n - first) - (lost + b)) % 65536
sent_is n o b start first lost r e = omega (arith, r, e)

module _ (s : Stretch) (m : Numbers) (lost : ℕ) (f : Follows s m lost) where
  same_next : next_number m ≡ next_of s % 65536
  same_next =
      let r = room s f.stretch in
      ap (λ (h : ℕ). (suc h + m.offset + 65536 - length m.left_out) % 65536) f.highest
      ∙ (next_is s.highest m.offset (length m.left_out) s.start s.first lost (omega (arith, r, f.count)) f.few f.offset
      ∙ sym (ap (λ (k : ℕ). (s.start + (suc s.highest - s.first) - k) % 65536) f.count))

  same_number : (n : ℕ) → m.first ≤ n → sent_as m n ≡ number_of s n % 65536
  same_number n l =
      let low : below n s.gone + s.first ≤ n = low_within s.first n s.gone (omega (arith, l, f.first)) f.stretch.falls f.stretch.high in
      sent_is n m.offset (below n m.left_out) s.start s.first lost (omega (arith, low, f.counts n l)) f.offset
      ∙ sym (ap (λ (k : ℕ). (s.start + (n - s.first) - k) % 65536) (f.counts n l))

  -- a packet above all others, which is wanted
  follows_up : (n : ℕ) → s.highest < n → Follows (record s { highest = n }) (record m { highest = n }) lost
  follows_up n l = record {
    stretch = record { some = omega (arith, l, f.stretch.some); falls = f.stretch.falls; within = all_below_less (suc s.highest) (suc n) s.gone (omega (arith, l)) f.stretch.within; high = f.stretch.high };
    highest = refl;
    first = f.first;
    some = omega (arith, l, f.some, f.highest);
    few = f.few;
    within = all_below_less (suc s.highest) (suc n) m.left_out (omega (arith, l)) f.within;
    falls = f.falls;
    from = f.from;
    count = f.count;
    counts = f.counts;
    among = f.among;
    offset = f.offset;
  }

  gone_more : (n : ℕ) → s.highest < n → IsStretch (record s { highest = n; gone = n ∷ s.gone })
  gone_more n l = record {
    some = omega (arith, l, f.stretch.some);
    falls = (all_below_less (suc s.highest) n s.gone (omega (arith, l)) f.stretch.within, f.stretch.falls);
    within = (omega arith, all_below_less (suc s.highest) (suc n) s.gone (omega (arith, l)) f.stretch.within);
    high = above_more s.first n s.gone (omega (arith, l, f.stretch.some)) ∙ ap suc f.stretch.high;
  }

  counts_more : (n k lost' : ℕ) (xs : List ℕ) → below k s.gone ≡ lost' + below k xs → below k (n ∷ s.gone) ≡ lost' + below k (n ∷ xs)
  counts_more n k lost' xs e = by (order k n)
    where
      by : Order k n → below k (n ∷ s.gone) ≡ lost' + below k (n ∷ xs)
      by (less l) = rw (below_same k n s.gone (omega (arith, l)), below_same k n xs (omega (arith, l))) e
      by (same l) = rw (below_same k n s.gone (omega (arith, l)), below_same k n xs (omega (arith, l))) e
      by (more l) = rw (below_more k n s.gone l, below_more k n xs l) (omega (arith, e))

  -- a packet above all others, which is left out
  follows_add : (n : ℕ) → s.highest < n → length m.left_out < 4096 → Follows (record s { highest = n; gone = n ∷ s.gone }) (record m { highest = n; left_out = n ∷ m.left_out }) lost
  follows_add n l room = record {
    stretch = gone_more n l;
    highest = refl;
    first = f.first;
    some = omega (arith, l, f.some, f.highest);
    few = omega (arith, room);
    within = (omega arith, all_below_less (suc s.highest) (suc n) m.left_out (omega (arith, l)) f.within);
    falls = (all_below_less (suc s.highest) n m.left_out (omega (arith, l)) f.within, f.falls);
    from = from_more m.first n m.left_out (omega (arith, l, f.some, f.highest)) f.from;
    count = omega (arith, f.count);
    counts = λ k h. counts_more n k lost m.left_out (f.counts k h);
    among = λ k h. ap (λ (b : Bool). eqb n k || b) (f.among k h);
    offset = f.offset;
  }

  less_offset : (o first lost start : ℕ) → (o + first + lost) % 65536 ≡ start % 65536 → ((o + 65535) % 65536 + first + suc lost) % 65536 ≡ start % 65536
  less_offset o first lost start e = omega (arith, e)

  follows_replace : (n : ℕ) → s.highest < n → length m.left_out ≡ 4096 → Follows (record s { highest = n; gone = n ∷ s.gone }) (without_lowest n m) (suc lost)
  follows_replace n l full =
      let xs : List ℕ = m.left_out in
      let low : ℕ = get_or xs 4095 0 in
      let kept : List ℕ = take 4095 xs in
      let len : length kept ≡ 4095 = omega (arith, length-take 4095 xs, full) in
      let bottom : m.first ≤ low = f.from 4095 (omega (arith, full)) in
      let top : low < suc s.highest = all_below_at (suc s.highest) 4095 xs (omega (arith, full)) f.within in
      record {
        stretch = gone_more n l;
        highest = refl;
        first = omega (arith, f.first, bottom);
        some = omega (arith, l, top);
        few = omega (arith, len);
        within = (omega arith, all_below_take (suc n) 4095 xs (all_below_less (suc s.highest) (suc n) xs (omega (arith, l)) f.within));
        falls = (all_below_take n 4095 xs (all_below_less (suc s.highest) n xs (omega (arith, l)) f.within), falls_take 4095 xs f.falls);
        from = from_more (suc low) n kept (omega (arith, l, top)) (λ k h. from_last low k xs full f.falls refl (omega (arith, h, len)));
        count = omega (arith, f.count, len, full);
        counts = λ k h. counts_more n k (suc lost) kept (one_less k (omega (arith, h)) (f.counts k (omega (arith, h, bottom))));
        among = λ k h. ap (λ (b : Bool). eqb n k || b) (sym (in_last k 4095 xs full (omega (arith, h))) ∙ f.among k (omega (arith, h, bottom)));
        offset = less_offset m.offset s.first lost s.start f.offset;
      }
    where
      one_less : (k : ℕ) → get_or m.left_out 4095 0 < k → below k s.gone ≡ lost + below k m.left_out → below k s.gone ≡ suc lost + below k (take 4095 m.left_out)
      one_less k low e = omega (arith, e, below_last k 4095 m.left_out full low)

  -- any packet
  follows_packet : (n : ℕ) (wanted : Bool) → (lost' : ℕ) × Follows (after_call (packet n wanted) s) (after_packet n wanted m) lost'
  follows_packet n wanted = by_age (is_too_old m n) refl
    where
      up : s.highest < n → m.highest < n
      up l = omega (arith, l, f.highest)

      stays : n ≤ s.highest → after_call (packet n wanted) s ≡ s
      stays l = rw (le-ltb s.highest n l) refl

      map_is : (old : Bool) → is_too_old m n ≡ old → after_packet n wanted m ≡ cond old m (cond (ltb m.highest n) (cond wanted (record m { highest = n }) (closed n m)) m)
      map_is old e = rw e refl

      by_room : (b : Bool) → ltb (length m.left_out) 4096 ≡ b → s.highest < n → (lost' : ℕ) × Follows (record s { highest = n; gone = n ∷ s.gone }) (closed n m) lost'
      by_room true e l = (lost, rw e (follows_add n l (ltb-true (length m.left_out) 4096 e)))
      by_room false e l = (suc lost, rw e (follows_replace n l (omega (arith, ltb-false (length m.left_out) 4096 e, f.few))))

      by_wish : (w : Bool) → wanted ≡ w → is_too_old m n ≡ false → s.highest < n → (lost' : ℕ) × Follows (after_call (packet n w) s) (after_packet n w m) lost'
      by_wish true e young l = (lost, rw (lt-ltb s.highest n l, young, lt-ltb m.highest n (up l)) (follows_up n l))
      by_wish false e young l = rw (lt-ltb s.highest n l, young, lt-ltb m.highest n (up l)) (by_room (ltb (length m.left_out) 4096) refl l)

      by_place : Order s.highest n → is_too_old m n ≡ false → (lost' : ℕ) × Follows (after_call (packet n wanted) s) (after_packet n wanted m) lost'
      by_place (less l) young = by_wish wanted refl young l
      by_place (same e) young = (lost, rw (le-ltb s.highest n (omega (arith, e)), young, le-ltb m.highest n (omega (arith, e, f.highest))) f)
      by_place (more l) young = (lost, rw (le-ltb s.highest n (omega (arith, l)), young, le-ltb m.highest n (omega (arith, l, f.highest))) f)

      by_age : (old : Bool) → is_too_old m n ≡ old → (lost' : ℕ) × Follows (after_call (packet n wanted) s) (after_packet n wanted m) lost'
      by_age true old = (lost, rw (old, le-ltb s.highest n (omega (arith, old_low m n f.some old, f.highest))) f)
      by_age false young = by_place (order s.highest n) young

  follows_call : (call : Call) → (lost' : ℕ) × Follows (after_call call s) (call_of call m) lost'
  follows_call (packet n wanted) = follows_packet n wanted
  follows_call (switch n) = (0, begins n (next_of s) (next_number m) same_next)

follows_all : (first start : ℕ) (calls : List Call) → (lost : ℕ) × Follows (stretch_after first start calls) (map_after first start calls) lost
follows_all first start [] = (0, begins first start (start % 65536) refl)
follows_all first start (call ∷ before) =
    let f = follows_all first start before in
    follows_call (stretch_after first start before) (map_after first start before) f.0 f.1 call

-- The theorems

pub renumbers : Renumbers
renumbers first start calls =
    let m = map_after first start calls in
    let s = stretch_after first start calls in
    let f = follows_all first start calls in (
      λ n young.
          let l = (young_by m n young).0 in
          (f.1.among n l, λ kept. same_number s m f.0 f.1 n l),
      same_next s m f.0 f.1,
    )

is_sent : (m : Numbers) (n sent : ℕ) (old out : Bool) → is_too_old m n ≡ old → is_in n m.left_out ≡ out → placed m n true ≡ answers.Sent sent
    → (is_too_old m n ≡ false) × (is_in n m.left_out ≡ false) × (sent ≡ sent_as m n)
is_sent m n sent true out e o h = absurd (old_not sent (sym (rw e refl) ∙ h))
  where
    old_not : (sent : ℕ) → answers.TooOld ≡ answers.Sent sent → ⊥
    old_not sent e = cc
is_sent m n sent false true e o h = absurd (out_not sent (sym (rw (e, o) refl) ∙ h))
  where
    out_not : (sent : ℕ) → answers.LeftOut ≡ answers.Sent sent → ⊥
    out_not sent e = cc
is_sent m n sent false false e o h = (e, o, sym (same_sent (sent_as m n) sent (sym (rw (e, o) refl) ∙ h)))
  where
    same_sent : (a b : ℕ) → answers.Sent a ≡ answers.Sent b → a ≡ b
    same_sent a b e = cc

pub sends_given : SendsGiven
sends_given first start calls n sent e =
    let m = map_after first start calls in
    let s = stretch_after first start calls in
    let f = follows_all first start calls in
    let g = is_sent m n sent (is_too_old m n) (is_in n m.left_out) refl refl e in
    let l = (young_by m n g.0).0 in
    (g.2 ∙ same_number s m f.0 f.1 n l, given s (omega (arith, f.1.first, l)) (sym (f.1.among n l) ∙ g.1))
  where
    given : (s : Stretch) → s.first ≤ n → is_in n s.gone ≡ false → IsGiven (after_call (packet n true) s) n
    given s first out = by (order s.highest n)
      where
        by : Order s.highest n → IsGiven (after_call (packet n true) s) n
        by (less l) = rw (lt-ltb s.highest n l) (record { first = first; within = omega arith; kept = out })
        by (same l) = rw (le-ltb s.highest n (omega (arith, l))) (record { first = first; within = omega (arith, l); kept = out })
        by (more l) = rw (le-ltb s.highest n (omega (arith, l))) (record { first = first; within = omega (arith, l); kept = out })

apart : (s : Stretch) (a b : ℕ) → IsStretch s → s.first ≤ a → is_in a s.gone ≡ false → a < b
    → (number_of s a < number_of s b) × (number_of s b + (below b s.gone - below a s.gone) ≡ number_of s a + (b - a))
apart s a b h first out l =
    let low = low_within s.first a s.gone first h.falls h.high in
    let high = low_within s.first b s.gone (omega (arith, first, l)) h.falls h.high in
    let gap = between a b s.gone l h.falls out in
    let up = below_grows a b s.gone (omega (arith, l)) in
    (omega (arith, low, high, gap, up, first, l), omega (arith, low, high, gap, up, first, l))

pub keeps_gaps : KeepsGaps
keeps_gaps first start calls a b g h l = apart (stretch_after first start calls) a b (follows_all first start calls).1.stretch g.first g.kept l

stays_given : (s : Stretch) (m n : ℕ) (wanted : Bool) → IsGiven s n → IsGiven (after_call (packet m wanted) s) n × (number_of (after_call (packet m wanted) s) n ≡ number_of s n)
stays_given s m n wanted g = by (order s.highest m) wanted
  where
    by : Order s.highest m → (w : Bool) → IsGiven (after_call (packet m w) s) n × (number_of (after_call (packet m w) s) n ≡ number_of s n)
    by (less l) true = rw (lt-ltb s.highest m l) (record { first = g.first; within = omega (arith, l, g.within); kept = g.kept }, refl)
    by (less l) false = rw (lt-ltb s.highest m l) (
      record { first = g.first; within = omega (arith, l, g.within); kept = in_more n m s.gone (λ e. omega (arith, e, l, g.within)) ∙ g.kept },
      ap (λ (k : ℕ). s.start + (n - s.first) - k) (below_same n m s.gone (omega (arith, l, g.within))),
    )
    by (same l) w = rw (le-ltb s.highest m (omega (arith, l))) (g, refl)
    by (more l) w = rw (le-ltb s.highest m (omega (arith, l))) (g, refl)

pub keeps_numbers : KeepsNumbers
keeps_numbers first start before m wanted n g = stays_given (stretch_after first start before) m n wanted g

next_above : (s : Stretch) (n : ℕ) → IsStretch s → IsGiven s n → number_of s n < next_of s
next_above s n h g =
    let a = (apart s n (suc s.highest) h g.first g.kept (omega (arith, g.within))).0 in
    omega (arith, a, below_all (suc s.highest) s.gone h.within)

pub switches_next : SwitchesNext
switches_next first start before m n g =
    let s = stretch_after first start before in
    (start_is m (next_of s), next_above s n (follows_all first start before).1.stretch g)
  where
    start_is : (m next : ℕ) → next + (m - m) - 0 ≡ next
    start_is m next = omega arith
