-- The recursion on frames lists the complete frames of the set.
use Rattle.std.proofs.Common.{◌≡◌, ℕ, ◌<◌, ◌≤◌, ◌+◌, ◌-◌, [], ◌∷◌, ◌++◌, List, refl, ap, sym, ◌∙◌, subst, arith, true, false, cond, Option, Some, None, inl, inr, ◌⊎◌}
use Rattle.std.specs.Prelude.{Contains}
use Rattle.std.proofs.lemmas.Bool.{cases_lt}
use Rattle.codec_payload_buffer.specs.declared.buffer.frames.CompleteFrame.{CompleteFrame}
use Rattle.codec_payload_buffer.specs.Held.{Held, Rises, AllAbove}
use Rattle.codec_payload_buffer.specs.Frames.{frames, frames_after, frame_at, ended_at, lowest_head, row_before, leads_to, start_or_here, IsRow}
use Rattle.codec_payload_buffer.specs.Frames.{IsHeadAt, IsFrame, StartAbove, StartsRise, StandApart, AreFramesOfSet, AreInOrder, AreApart, AreOnlyList}
use Rattle.codec_payload_codec.proofs.CaseLemmas.{by_test, not_both}
use Rattle.codec_payload_buffer.proofs.RowLemmas.{leads_parts, leads_from}
use Rattle.codec_payload_buffer.proofs.MemberLemmas.{IsIn, contains_in, in_contains, in_left, in_right, in_append, KeysAbove, KeysRise, same_members}

-- the numbers fall, as in a list that is read backwards
abbrev AllBelow : ℕ → List Held → Type 0
AllBelow n [] = Unit {0}
AllBelow n (p ∷ ps) = (p.meta.seq_no.0 < n) × AllBelow n ps

abbrev Falls : List Held → Type 0
Falls [] = Unit {0}
Falls (p ∷ ps) = AllBelow p.meta.seq_no.0 ps × Falls ps

below_in : (n : ℕ) (ps : List Held) (q : Held) → AllBelow n ps → IsIn q ps → q.meta.seq_no.0 < n
below_in n [] q a h = absurd h
below_in n (p ∷ ps) q a (inl e) = rw e a.0
below_in n (p ∷ ps) q a (inr h) = below_in n ps q a.1 h

-- the first of them is the only one with its number
first_alone : (p : Held) (es : List Held) (q : Held) → Falls (p ∷ es) → IsIn q (p ∷ es) → p.meta.seq_no.0 ≤ q.meta.seq_no.0 → q ≡ p
first_alone p es q f (inl e) le = e
first_alone p es q f (inr h) le = let l = below_in p.meta.seq_no.0 es q f.0 h in absurd (omega arith)

not_first : (p : Held) (es : List Held) (q : Held) → IsIn q (p ∷ es) → q.meta.seq_no.0 < p.meta.seq_no.0 → IsIn q es
not_first p es q (inl e) l = absurd (omega (arith, l, ap (λ (h : Held). h.meta.seq_no.0) e))
not_first p es q (inr h) l = h

-- A row and a head in another list with the same packets up to the end of the row
row_into : (xs ys : List Held) (p : Held) (n : ℕ) → ((q : Held) → IsIn q xs → q.meta.seq_no.0 ≤ p.meta.seq_no.0 → IsIn q ys) → IsRow xs n p → IsRow ys n p
row_into xs ys p n into row = record {
  to_end = row.to_end;
  each = λ m low high.
      let r = row.each m low high in
      (r.0, contains_in r.0 ys (into r.0 (in_contains r.0 xs r.1) (omega (arith, r.2))), r.2, r.3, r.4);
}

head_into : (xs ys : List Held) (top n : ℕ) → ((q : Held) → IsIn q xs → q.meta.seq_no.0 ≤ top → IsIn q ys) → n ≤ top → IsHeadAt xs n → IsHeadAt ys n
head_into xs ys top n into le head = (head.0, contains_in head.0 ys (into head.0 (in_contains head.0 xs head.1) (omega (arith, head.2))), head.2, head.3)

-- a row of one packet
row_here : (p : Held) (es : List Held) → IsRow (p ∷ es) p.meta.seq_no.0 p
row_here p es = record {
  to_end = omega arith;
  each = λ m low high. (p, contains_in p (p ∷ es) (inl refl), omega arith, refl, λ l. absurd (omega arith));
}

-- a row that is longer by one packet
row_more : (e p : Held) (es : List Held) (n : ℕ) → leads_to e p ≡ true → IsRow (e ∷ es) n e → IsRow (p ∷ e ∷ es) n p
row_more e p es n leads row =
    let parts = leads_parts e p leads in
    record {
      to_end = omega (arith, row.to_end, parts.next);
      each = λ m low high. elim (cases_lt e.meta.seq_no.0 m) [
        | inl over ↦ (p, contains_in p (p ∷ e ∷ es) (inl refl), omega (arith, parts.next), refl, λ l. absurd (omega (arith, parts.next)))
        | inr up ↦ elim (cases_lt m e.meta.seq_no.0) [
          | inl under ↦
              let r = row.each m low up in
              (r.0, contains_in r.0 (p ∷ e ∷ es) (inr (in_contains r.0 (e ∷ es) r.1)), r.2, r.3 ∙ parts.same, λ l. r.4 under)
          | inr at ↦ (e, contains_in e (p ∷ e ∷ es) (inr (inl refl)), omega arith, parts.same, λ l. parts.no_tail)
        ]
      ];
    }

-- a packet that may stand right before p is the next one
before_first : (q e p : Held) (es : List Held) → Falls (p ∷ e ∷ es) → IsIn q (p ∷ e ∷ es) → q.meta.seq_no.0 + 1 ≡ p.meta.seq_no.0 → q.meta.time ≡ p.meta.time → q.tail ≡ false → leads_to e p ≡ true
before_first q e p es f h number time no_tail =
    let is : q ≡ e = first_alone e es q f.1 (not_first p (e ∷ es) q h (omega arith)) (omega (arith, f.0.0)) in
    leads e is
  where
    leads : (e : Held) → q ≡ e → leads_to e p ≡ true
    leads e is = rw (← is) (leads_from q p number time no_tail)

-- a row of more than one packet, without the last
row_less : (e p : Held) (es : List Held) (n : ℕ) → Falls (p ∷ e ∷ es) → IsRow (p ∷ e ∷ es) n p → n < p.meta.seq_no.0 → (leads_to e p ≡ true) × IsRow (e ∷ es) n e
row_less e p es n f row l =
    let r = row.each (p.meta.seq_no.0 - 1) (omega arith) (omega arith) in
    let leads = before_first r.0 e p es f (in_contains r.0 (p ∷ e ∷ es) r.1) (omega (arith, r.2)) r.3 (r.4 (omega arith)) in
    (leads, shorter (leads_parts e p leads).next (leads_parts e p leads).same)
  where
    shorter : e.meta.seq_no.0 + 1 ≡ p.meta.seq_no.0 → e.meta.time ≡ p.meta.time → IsRow (e ∷ es) n e
    shorter number time = record {
      to_end = omega (arith, number);
      each = λ m low high.
          let q = row.each m low (omega (arith, number)) in
          (q.0, contains_in q.0 (e ∷ es) (not_first p (e ∷ es) q.0 (in_contains q.0 (p ∷ e ∷ es) q.1) (omega (arith, q.2, number))), q.2, q.3 ∙ sym time, λ k. q.4 (omega (arith, number)));
    }

-- the lowest head from which a row goes to p
record IsLowest (xs : List Held) (p : Held) (n : ℕ) : Type 0 where
  row : IsRow xs n p
  head : IsHeadAt xs n
  least : (m : ℕ) → IsRow xs m p → IsHeadAt xs m → n ≤ m

abbrev AnswersLowest : List Held → Held → Option ℕ → Type 0
AnswersLowest xs p None = (m : ℕ) → IsRow xs m p → IsHeadAt xs m → ⊥
AnswersLowest xs p (Some n) = IsLowest xs p n

-- if no row with a head begins below p
lowest_here : (p : Held) (es : List Held) → Falls (p ∷ es) → ((m : ℕ) → IsRow (p ∷ es) m p → IsHeadAt (p ∷ es) m → m < p.meta.seq_no.0 → ⊥) → AnswersLowest (p ∷ es) p (start_or_here None p)
lowest_here p es f none =
    by_test p.head (λ b. AnswersLowest (p ∷ es) p (cond b (Some p.meta.seq_no.0) None))
    (λ is. record {
      row = row_here p es;
      head = (p, contains_in p (p ∷ es) (inl refl), refl, is);
      least = λ m row head. elim (cases_lt m p.meta.seq_no.0) [ inl l ↦ absurd (none m row head l) | inr ge ↦ ge ];
    })
    (λ no m row head. elim (cases_lt m p.meta.seq_no.0) [
      | inl l ↦ none m row head l
      | inr ge ↦
          let is : head.0 ≡ p = first_alone p es head.0 f (in_contains head.0 (p ∷ es) head.1) (omega (arith, head.2)) in
          let yes : p.head ≡ true = ap (λ (h : Held). h.head) (sym is) ∙ head.3 in
          absurd (cc (yes, no))
    ])

less_head : (p : Held) (es : List Held) (n : ℕ) → IsHeadAt (p ∷ es) n → n < p.meta.seq_no.0 → IsHeadAt es n
less_head p es n head l = (head.0, contains_in head.0 es (not_first p es head.0 (in_contains head.0 (p ∷ es) head.1) (omega (arith, head.2))), head.2, head.3)

more_head : (p : Held) (es : List Held) (n : ℕ) → IsHeadAt es n → IsHeadAt (p ∷ es) n
more_head p es n head = (head.0, contains_in head.0 (p ∷ es) (inr (in_contains head.0 es head.1)), head.2, head.3)

lowest_step : (e p : Held) (es : List Held) → Falls (p ∷ e ∷ es) → leads_to e p ≡ true → (o : Option ℕ) → AnswersLowest (e ∷ es) e o → AnswersLowest (p ∷ e ∷ es) p (start_or_here o p)
lowest_step e p es f leads (Some n) low = record {
  row = row_more e p es n leads low.row;
  head = more_head p (e ∷ es) n low.head;
  least = λ m row head. elim (cases_lt m p.meta.seq_no.0) [
    | inl l ↦ low.least m (row_less e p es m f row l).1 (less_head p (e ∷ es) m head l)
    | inr ge ↦ omega (arith, low.row.to_end, f.0.0)
  ];
}
lowest_step e p es f leads None none = lowest_here p (e ∷ es) f (λ m row head l. none m (row_less e p es m f row l).1 (less_head p (e ∷ es) m head l))

lowest_is : (p : Held) (es : List Held) → Falls (p ∷ es) → AnswersLowest (p ∷ es) p (lowest_head (p ∷ row_before p es))
lowest_is p [] f = lowest_here p [] f (λ m row head l. let r = row.each m (omega arith) (omega arith) in not_first p [] r.0 (in_contains r.0 (p ∷ []) r.1) (omega (arith, r.2)))
lowest_is p (e ∷ es) f =
    by_test (leads_to e p) (λ b. AnswersLowest (p ∷ e ∷ es) p (lowest_head (p ∷ cond b (e ∷ row_before e es) [])))
    (λ leads. lowest_step e p es f leads (lowest_head (e ∷ row_before e es)) (lowest_is e es f.1))
    (λ no. lowest_here p (e ∷ es) f (λ m row head l. not_both (leads_to e p) (row_less e p es m f row l).0 no))

-- the packets of a set, read up to a place
record IsParted (held earlier later : List Held) : Type 0 where
  falls : Falls earlier
  rises : Rises later
  apart : (q x : Held) → IsIn q earlier → IsIn x later → q.meta.seq_no.0 < x.meta.seq_no.0
  into : (q : Held) → IsIn q held → IsIn q earlier ⊎ IsIn q later
  back : (q : Held) → IsIn q earlier ⊎ IsIn q later → IsIn q held

above_in : (n : ℕ) (ps : List Held) (q : Held) → AllAbove n ps → IsIn q ps → n < q.meta.seq_no.0
above_in n [] q a h = absurd h
above_in n (p ∷ ps) q a (inl e) = rw e a.0
above_in n (p ∷ ps) q a (inr h) = above_in n ps q a.1 h

below_from : (n : ℕ) (ps : List Held) → ((q : Held) → IsIn q ps → q.meta.seq_no.0 < n) → AllBelow n ps
below_from n [] each = tt
below_from n (p ∷ ps) each = (each p (inl refl), below_from n ps (λ q h. each q (inr h)))

-- one packet further
parted_next : (held earlier : List Held) (p : Held) (later : List Held) → IsParted held earlier (p ∷ later) → IsParted held (p ∷ earlier) later
parted_next held earlier p later parted = record {
  falls = (below_from p.meta.seq_no.0 earlier (λ q h. parted.apart q p h (inl refl)), parted.falls);
  rises = parted.rises.1;
  apart = λ q x h k. elim h [
    | inl e ↦ rw e (above_in p.meta.seq_no.0 later x parted.rises.0 k)
    | inr g ↦ parted.apart q x g (inr k)
  ];
  into = λ q h. elim (parted.into q h) [ inl e ↦ inl (inr e) | inr l ↦ elim l [ inl e ↦ inl (inl e) | inr k ↦ inr k ] ];
  back = λ q h. elim h [
    | inl a ↦ elim a [ inl e ↦ parted.back q (inr (inl e)) | inr k ↦ parted.back q (inl k) ]
    | inr k ↦ parted.back q (inr (inr k))
  ];
}

-- up to p's number the set has the packets read so far and p
upto : (held earlier : List Held) (p : Held) (later : List Held) → IsParted held earlier (p ∷ later) → (q : Held) → IsIn q held → q.meta.seq_no.0 ≤ p.meta.seq_no.0 → IsIn q (p ∷ earlier)
upto held earlier p later parted q h le = elim (parted.into q h) [
  | inl e ↦ inr e
  | inr l ↦ elim l [
    | inl e ↦ inl e
    | inr k ↦ let over = above_in p.meta.seq_no.0 later q parted.rises.0 k in absurd (omega arith)
  ]
]

from_upto : (held earlier : List Held) (p : Held) (later : List Held) → IsParted held earlier (p ∷ later) → (q : Held) → IsIn q (p ∷ earlier) → IsIn q held
from_upto held earlier p later parted q (inl e) = parted.back q (inr (inl e))
from_upto held earlier p later parted q (inr h) = parted.back q (inl h)

lowest_at : (held earlier : List Held) (p : Held) (later : List Held) → IsParted held earlier (p ∷ later) → AnswersLowest (p ∷ earlier) p (lowest_head (p ∷ row_before p earlier))
lowest_at held earlier p later parted = lowest_is p earlier (parted_next held earlier p later parted).falls

-- the frame that is found at p is one of the set
found_at : (held earlier : List Held) (p : Held) (later : List Held) → IsParted held earlier (p ∷ later) → (f : CompleteFrame) → IsIn f (frame_at p earlier)
    → IsFrame held f × (f.last ≡ p.meta.seq_no.0) × (p.tail ≡ true)
found_at held earlier p later parted f =
    by_test p.tail (λ b. IsIn f (cond b (ended_at p (lowest_head (p ∷ row_before p earlier))) []) → IsFrame held f × (f.last ≡ p.meta.seq_no.0) × (p.tail ≡ true))
    (λ tail. of (lowest_head (p ∷ row_before p earlier)) (lowest_at held earlier p later parted) tail)
    (λ no h. absurd h)
  where
    of : (o : Option ℕ) → AnswersLowest (p ∷ earlier) p o → p.tail ≡ true → IsIn f (ended_at p o) → IsFrame held f × (f.last ≡ p.meta.seq_no.0) × (p.tail ≡ true)
    of None none tail h = absurd h
    of (Some n) low tail (inr h) = absurd h
    of (Some n) low tail (inl e) = (
      subst (IsFrame held) (sym e) (record {
        end = p;
        held_end = contains_in p held (parted.back p (inr (inl refl)));
        at_end = refl;
        is_tail = tail;
        row = row_into (p ∷ earlier) held p n (λ q h le. from_upto held earlier p later parted q h) low.row;
        begins = head_into (p ∷ earlier) held p.meta.seq_no.0 n (λ q h le. from_upto held earlier p later parted q h) low.row.to_end low.head;
        lowest = λ m row head. low.least m
            (row_into held (p ∷ earlier) p m (upto held earlier p later parted) row)
            (head_into held (p ∷ earlier) p.meta.seq_no.0 m (upto held earlier p later parted) row.to_end head);
      }),
      ap (λ (g : CompleteFrame). g.last) e,
      tail,
    )

-- and each frame of the set that ends at p is found there
finds_at : (held earlier : List Held) (p : Held) (later : List Held) → IsParted held earlier (p ∷ later) → (f : CompleteFrame) → f.last ≡ p.meta.seq_no.0 → p.tail ≡ true
    → IsRow held f.first p → IsHeadAt held f.first → ((m : ℕ) → IsRow held m p → IsHeadAt held m → f.first ≤ m) → IsIn f (frame_at p earlier)
finds_at held earlier p later parted f last tail row head least =
    subst (λ b. IsIn f (cond b (ended_at p (lowest_head (p ∷ row_before p earlier))) [])) (sym tail)
    (of (lowest_head (p ∷ row_before p earlier)) (lowest_at held earlier p later parted))
  where
    here : IsRow (p ∷ earlier) f.first p
    here = row_into held (p ∷ earlier) p f.first (upto held earlier p later parted) row

    head_here : IsHeadAt (p ∷ earlier) f.first
    head_here = head_into held (p ∷ earlier) p.meta.seq_no.0 f.first (upto held earlier p later parted) row.to_end head

    of : (o : Option ℕ) → AnswersLowest (p ∷ earlier) p o → IsIn f (ended_at p o)
    of None none = absurd (none f.first here head_here)
    of (Some n) low =
        let up : n ≤ f.first = low.least f.first here head_here in
        let down : f.first ≤ n = least n
        (row_into (p ∷ earlier) held p n (λ q h le. from_upto held earlier p later parted q h) low.row)
        (head_into (p ∷ earlier) held p.meta.seq_no.0 n (λ q h le. from_upto held earlier p later parted q h) low.row.to_end low.head) in
        let first : f.first ≡ n = omega arith in
        inl (rw (← first, ← last) refl)

-- a frame that is found is a frame of the set
sound : (held earlier later : List Held) → IsParted held earlier later → (f : CompleteFrame) → IsIn f (frames_after earlier later) → (p : Held) × IsFrame held f
    × (f.last ≡ p.meta.seq_no.0) × IsIn p later
sound held earlier [] parted f h = absurd h
sound held earlier (p ∷ later) parted f h = elim (in_append f (frame_at p earlier) (frames_after (p ∷ earlier) later) h) [
  | inl at ↦ let found = found_at held earlier p later parted f at in (p, found.0, found.1, inl refl)
  | inr on ↦ let r = sound held (p ∷ earlier) later (parted_next held earlier p later parted) f on in (r.0, r.1, r.2, inr r.3)
]

-- each frame of the set is found
complete : (held earlier later : List Held) → IsParted held earlier later → (f : CompleteFrame) (b : Held) → IsIn b later → f.last ≡ b.meta.seq_no.0 → b.tail ≡ true
    → IsRow held f.first b → IsHeadAt held f.first → ((m : ℕ) → IsRow held m b → IsHeadAt held m → f.first ≤ m) → IsIn f (frames_after earlier later)
complete held earlier [] parted f b h last tail row head least = absurd h
complete held earlier (p ∷ later) parted f b (inr h) last tail row head least =
    in_right f (frame_at p earlier) (frames_after (p ∷ earlier) later) (complete held (p ∷ earlier) later (parted_next held earlier p later parted) f b h last tail row head least)
complete held earlier (p ∷ later) parted f b (inl e) last tail row head least =
    in_left f (frame_at p earlier) (frames_after (p ∷ earlier) later) (at p e parted)
  where
    at : (p : Held) → b ≡ p → IsParted held earlier (p ∷ later) → IsIn f (frame_at p earlier)
    at p is parted = subst (λ p. IsParted held earlier (p ∷ later) → IsIn f (frame_at p earlier)) is (λ parted. finds_at held earlier b later parted f last tail row head least) parted

-- all of the set is still to be read
parted_all : (held : List Held) → Rises held → IsParted held [] held
parted_all held r = record { falls = tt; rises = r; apart = λ q x h k. absurd h; into = λ q h. inr h; back = λ q h. elim h [ inl n ↦ absurd n | inr k ↦ k ] }

frame_to : (held : List Held) → Rises held → (f : CompleteFrame) → Contains (frames held) f → IsFrame held f
frame_to held r f h = (sound held [] held (parted_all held r) f (in_contains f (frames held) h)).1

frame_from : (held : List Held) → Rises held → (f : CompleteFrame) → IsFrame held f → Contains (frames held) f
frame_from held r f is =
    contains_in f (frames held) (complete held [] held (parted_all held r) f is.end (in_contains is.end held is.held_end) (sym is.at_end) is.is_tail is.row is.begins is.lowest)

pub are_frames : AreFramesOfSet
are_frames held r f = (frame_to held r f, frame_from held r f)

start_above_from : (n : ℕ) (fs : List CompleteFrame) → ((f : CompleteFrame) → IsIn f fs → n < f.first) → StartAbove n fs
start_above_from n [] each = tt
start_above_from n (f ∷ fs) each = (each f (inl refl), start_above_from n fs (λ g h. each g (inr h)))

-- a frame that ends above a tail starts above it
after_tail : (held earlier : List Held) (p : Held) (later : List Held) → IsParted held earlier (p ∷ later) → p.tail ≡ true → (g : CompleteFrame) → IsFrame held g
    → p.meta.seq_no.0 < g.last → p.meta.seq_no.0 < g.first
after_tail held earlier p later parted tail g is l = elim (cases_lt p.meta.seq_no.0 g.first) [
  | inl over ↦ over
  | inr under ↦
      let q = is.row.each p.meta.seq_no.0 under (omega (arith, is.at_end)) in
      let same : q.0 ≡ p = first_alone p earlier q.0 (parted_next held earlier p later parted).falls
      (upto held earlier p later parted q.0 (in_contains q.0 held q.1) (omega (arith, q.2))) (omega (arith, q.2)) in
      absurd (not_both p.tail tail (ap (λ (h : Held). h.tail) (sym same) ∙ q.4 (omega (arith, is.at_end))))
]

abbrev AtMostOne : List CompleteFrame → Type 0
AtMostOne [] = Unit {0}
AtMostOne (f ∷ []) = Unit {0}
AtMostOne (f ∷ g ∷ fs) = ⊥

apart_after : (held earlier later : List Held) → IsParted held earlier later → StandApart (frames_after earlier later)
apart_after held earlier [] parted = tt
apart_after held earlier (p ∷ later) parted =
    joined (apart_after held (p ∷ earlier) later (parted_next held earlier p later parted)) (frame_at p earlier) (found_at held earlier p later parted)
    (by_test p.tail (λ b. AtMostOne (cond b (ended_at p (lowest_head (p ∷ row_before p earlier))) [])) (λ e. one (lowest_head (p ∷ row_before p earlier))) (λ e. tt))
  where
    one : (o : Option ℕ) → AtMostOne (ended_at p o)
    one None = tt
    one (Some n) = tt

    joined : StandApart (frames_after (p ∷ earlier) later) → (fs : List CompleteFrame)
        → ((f : CompleteFrame) → IsIn f fs → IsFrame held f × (f.last ≡ p.meta.seq_no.0) × (p.tail ≡ true)) → AtMostOne fs → StandApart (fs ++ frames_after (p ∷ earlier) later)
    joined rest [] each few = rest
    joined rest (f ∷ g ∷ fs) each few = absurd few
    joined rest (f ∷ []) each few =
        let is = each f (inl refl) in (
          omega (arith, is.0.row.to_end, is.0.at_end),
          start_above_from f.last (frames_after (p ∷ earlier) later) (λ g h.
              let found = sound held (p ∷ earlier) later (parted_next held earlier p later parted) g h in
              let over = above_in p.meta.seq_no.0 later found.0 parted.rises.0 found.3 in
              let after = after_tail held earlier p later parted is.2 g found.1 (omega (arith, found.2, over)) in
              omega (arith, is.1, after)),
          rest,
        )

pub are_apart : AreApart
are_apart held r = apart_after held [] held (parted_all held r)

start_lower : (m n : ℕ) (fs : List CompleteFrame) → m ≤ n → StartAbove n fs → StartAbove m fs
start_lower m n [] le a = tt
start_lower m n (f ∷ fs) le a = (omega (arith, a.0), start_lower m n fs le a.1)

rise_from_apart : (fs : List CompleteFrame) → StandApart fs → StartsRise fs
rise_from_apart [] a = tt
rise_from_apart (f ∷ fs) a = (start_lower f.first f.last fs a.0 a.1, rise_from_apart fs a.2)

pub are_in_order : AreInOrder
are_in_order held r = rise_from_apart (frames held) (are_apart held r)

key_from_start : (n : ℕ) (fs : List CompleteFrame) → StartAbove n fs → KeysAbove (λ (f : CompleteFrame). f.first) n fs
key_from_start n [] a = tt
key_from_start n (f ∷ fs) a = (a.0, key_from_start n fs a.1)

keys_from_starts : (fs : List CompleteFrame) → StartsRise fs → KeysRise (λ (f : CompleteFrame). f.first) fs
keys_from_starts [] a = tt
keys_from_starts (f ∷ fs) a = (key_from_start f.first fs a.0, keys_from_starts fs a.1)

pub are_only_list : AreOnlyList
are_only_list held r fs rise same = same_members (λ (f : CompleteFrame). f.first) fs (frames held) (keys_from_starts fs rise) (keys_from_starts (frames held) (are_in_order held r))
    (λ f h. in_contains f (frames held) (frame_from held r f ((same f).0 (contains_in f fs h))))
    (λ f h. in_contains f fs ((same f).1 (frame_to held r f (contains_in f (frames held) h))))
