-- What is remembered of pictures came in packets, so the numbers that are found are between two of them.
use Rattle.std.proofs.Common.{inl, inr, ◌≡◌, ◌∙◌, sym, refl, ap, subst, zero, suc, ℕ, ◌+◌, ◌-◌, ◌%◌, ◌*◌, ◌<◌, ◌≤◌, ◌&&◌, ◌||◌, not, eqb, ltb, leb, max, min, Bool, true, false, List, [], ◌∷◌, length, get_or, set, replicate, Option, Some, None, arith}
use Rattle.std.specs.Prelude.{IfSome, if◌then◌else◌, ◌⊎◌}
use Rattle.std.specs.List.{All}
use Rattle.std.proofs.lemmas.Bool.{and_parts, cases_lt, eqb-true, leb-true, ltb-true}
use Rattle.std.proofs.lemmas.List.{get_or_past}
use Rattle.std.proofs.lemmas.List.Elements.{All-replicate, All-set}
use Rattle.codec_payload_edges.specs.Edges.{id_after, ids_of}
use Rattle.codec_payload_edges.specs.Pictures.{Pictures, begin_of, between_of, checked, distrusted, end_of, find, found_at, gap_after, gap_before, gaps_at, has_noted, heard, heard_if, heard_in, if_edge, is_known, is_same, is_sound, latest_of, new_picture, no_edges, no_gaps, picture_for, places_with, with_edge, with_noted}
use Rattle.codec_payload_edges.specs.Senders.{AreBetweenPictures, Call, IsAmong, IsBetween, Stored, after_call, after_calls, stored_in}
use Rattle.codec_payload_edges.specs.Senders.Call.{Checks, Distrusts, Forgets, Hears, Notes}
use Rattle.codec_payload_edges.specs.declared.edge.Edge.{Edge}
use Rattle.codec_payload_edges.specs.declared.edge.IdWidth.{IdWidth}
use Rattle.codec_payload_edges.specs.declared.edge.IdWidth.TheVariants as widths
use Rattle.codec_payload_edges.specs.declared.pictures.Between.{Between}
use Rattle.codec_payload_edges.specs.declared.pictures.Gaps.{Gaps}
use Rattle.codec_payload_edges.specs.declared.pictures.Picture.{Picture}

-- ---- what is known of a picture

-- a packet with this number and the picture's id came, and was its first one, or its last one
record Came (xs : List Stored) (is_edge : Edge → Bool) (p : Picture) (n : ℕ) : Type 0 where
  edge : Edge
  is : IsAmong (record { number = n; edge = edge }) xs
  shows : is_edge edge ≡ true
  id : p.id ≡ edge.id
  width : ids_of p.width ≡ ids_of edge.width

abbrev begins : Edge → Bool
begins e = e.begins

abbrev ends : Edge → Bool
ends e = e.ends

record Knows (xs : List Stored) (p : Picture) : Type 0 where
  begun : IfSome p.begin (Came xs begins p)
  ended : IfSome p.end (Came xs ends p)

abbrev KnowsAt : List Stored → Option Picture → Type 0
KnowsAt xs place = IfSome place (Knows xs)

-- one more packet
came_more : (x : Stored) (xs : List Stored) (is_edge : Edge → Bool) (p : Picture) (n : Option ℕ) → IfSome n (Came xs is_edge p) → IfSome n (Came (x ∷ xs) is_edge p)
came_more x xs is_edge p None came = tt
came_more x xs is_edge p (Some n) came = record { edge = came.edge; is = inr came.is; shows = came.shows; id = came.id; width = came.width }

knows_more : (x : Stored) (xs : List Stored) (place : Option Picture) → KnowsAt xs place → KnowsAt (x ∷ xs) place
knows_more x xs None knows = tt
knows_more x xs (Some p) knows = record { begun = came_more x xs begins p p.begin knows.begun; ended = came_more x xs ends p p.end knows.ended }

all_more : (x : Stored) (xs : List Stored) (places : List (Option Picture)) → All (KnowsAt xs) places → All (KnowsAt (x ∷ xs)) places
all_more x xs places all = λ k d within. knows_more x xs (get_or places k d) (all k d within)

knows_at : (xs : List Stored) (places : List (Option Picture)) (i : ℕ) → All (KnowsAt xs) places → KnowsAt xs (get_or places i None)
knows_at xs places i all = by (cases_lt i (length places))
  where
    by : (i < length places) ⊎ (length places ≤ i) → KnowsAt xs (get_or places i None)
    by (inl within) = all i None within
    by (inr past) = subst (KnowsAt xs) (sym (get_or_past places i None past)) tt

-- ---- the picture of a packet

record IsFor (xs : List Stored) (e : Edge) (p : Picture) : Type 0 where
  knows : Knows xs p
  id : p.id ≡ e.id
  width : ids_of p.width ≡ ids_of e.width

is_for_new : (xs : List Stored) (e : Edge) → IsFor xs e (new_picture e)
is_for_new xs e = record { knows = record { begun = tt; ended = tt }; id = refl; width = refl }

same_is : (e : Edge) (p : Picture) → is_same e p ≡ true → (p.id ≡ e.id) × (ids_of p.width ≡ ids_of e.width)
same_is e p same =
    let both = and_parts (eqb p.id e.id) (eqb (ids_of p.width) (ids_of e.width)) same in (eqb-true p.id e.id both.0, eqb-true (ids_of p.width) (ids_of e.width) both.1)

is_for : (xs : List Stored) (n : ℕ) (e : Edge) (place : Option Picture) → KnowsAt xs place → IfSome (picture_for n e place) (IsFor xs e)
is_for xs n e None knows = is_for_new xs e
is_for xs n e (Some p) knows = by (is_same e p) (ltb (max n (latest_of p) - min n (latest_of p)) (ids_of e.width)) (ltb (latest_of p) n) refl refl refl
  where
    by : (same near later : Bool) → is_same e p ≡ same → ltb (max n (latest_of p) - min n (latest_of p)) (ids_of e.width) ≡ near → ltb (latest_of p) n ≡ later → IfSome (picture_for n e (Some p)) (IsFor xs e)
    by true true later e1 e2 e3 = rw (e1, e2) (record { knows = knows; id = (same_is e p e1).0; width = (same_is e p e1).1 })
    by true false true e1 e2 e3 = rw (e1, e2, e3) (is_for_new xs e)
    by true false false e1 e2 e3 = rw (e1, e2, e3) tt
    by false near true e1 e2 e3 = rw (e1, e3) (is_for_new xs e)
    by false near false e1 e2 e3 = rw (e1, e3) tt

-- the picture with one more packet
came_with : (x : Stored) (xs : List Stored) (is_edge : Edge → Bool) (p q : Picture) (known : Option ℕ) → is_edge x.edge ≡ is_edge x.edge → q.id ≡ p.id → q.width ≡ p.width → p.id ≡ x.edge.id → ids_of p.width ≡ ids_of x.edge.width
    → IfSome known (Came xs is_edge p) → IfSome (if_edge (is_edge x.edge) x.number known) (Came (x ∷ xs) is_edge q)
came_with x xs is_edge p q known same_edge q_id q_width id width came = by (is_edge x.edge) refl
  where
    old : (known : Option ℕ) → IfSome known (Came xs is_edge p) → IfSome known (Came (x ∷ xs) is_edge q)
    old None came = tt
    old (Some n) came = record { edge = came.edge; is = inr came.is; shows = came.shows; id = q_id ∙ came.id; width = ap ids_of q_width ∙ came.width }

    by : (shows : Bool) → is_edge x.edge ≡ shows → IfSome (if_edge shows x.number known) (Came (x ∷ xs) is_edge q)
    by true e = record { edge = x.edge; is = inl refl; shows = e; id = q_id ∙ id; width = ap ids_of q_width ∙ width }
    by false e = old known came

knows_with : (x : Stored) (xs : List Stored) (p : Picture) → IsFor xs x.edge p → Knows (x ∷ xs) (with_edge x.number x.edge p)
knows_with x xs p is = record {
  begun = came_with x xs begins p (with_edge x.number x.edge p) p.begin refl refl refl is.id is.width is.knows.begun;
  ended = came_with x xs ends p (with_edge x.number x.edge p) p.end refl refl refl is.id is.width is.knows.ended;
}

-- ---- the numbers between two pictures

next_of_prior : (width : IdWidth) (id : ℕ) → ((id + (ids_of width - 1)) % ids_of width + 1) % ids_of width ≡ id % ids_of width
next_of_prior widths.Bits7 id = omega arith
next_of_prior widths.Bits15 id = omega arith
next_of_prior widths.Bits16 id = omega arith

next_is : (width : IdWidth) (id : ℕ) → (id + 1) % ids_of width ≡ (id + 1) % ids_of width % ids_of width
next_is widths.Bits7 id = omega arith
next_is widths.Bits15 id = omega arith
next_is widths.Bits16 id = omega arith

-- the two numbers of a range
record IsRange (a b : ℕ) (range : Between) : Type 0 where
  after : range.after ≡ a
  before : range.before ≡ b
  some : a + 2 ≤ b
  few : b ≤ a + 128

is_range : (a b : ℕ) → IfSome (between_of (Some a) (Some b)) (IsRange a b)
is_range a b = by (ltb a b && (leb 2 (b - a) && leb (b - a) 128)) refl
  where
    by : (fits : Bool) → (ltb a b && (leb 2 (b - a) && leb (b - a) 128)) ≡ fits → IfSome (between_of (Some a) (Some b)) (IsRange a b)
    by true e =
        let parts = and_parts (ltb a b) (leb 2 (b - a) && leb (b - a) 128) e in
        let near = and_parts (leb 2 (b - a)) (leb (b - a) 128) parts.1 in
        let up : a < b = ltb-true a b parts.0 in
        let least : 2 ≤ b - a = leb-true 2 (b - a) near.0 in
        let most : b - a ≤ 128 = leb-true (b - a) 128 near.1 in
        rw e (record { after = refl; before = refl; some = omega (arith, up, least); few = omega (arith, up, most) })
    by false e = rw e tt

-- a picture that was found
record IsFound (xs : List Stored) (id : ℕ) (width : IdWidth) (p : Picture) : Type 0 where
  knows : Knows xs p
  id_is : p.id ≡ id
  width_is : ids_of p.width ≡ ids_of width

is_found_at : (xs : List Stored) (id : ℕ) (width : IdWidth) (place : Option Picture) → KnowsAt xs place → IfSome (found_at id width place) (IsFound xs id width)
is_found_at xs id width None knows = tt
is_found_at xs id width (Some p) knows = by (is_known id width p) refl
  where
    by : (known : Bool) → is_known id width p ≡ known → IfSome (found_at id width (Some p)) (IsFound xs id width)
    by true e =
        let both = and_parts (eqb p.id id) (eqb (ids_of p.width) (ids_of width)) e in
        rw e (record { knows = knows; id_is = eqb-true p.id id both.0; width_is = eqb-true (ids_of p.width) (ids_of width) both.1 })
    by false e = rw e tt

is_found : (xs : List Stored) (id : ℕ) (width : IdWidth) (places : List (Option Picture)) → All (KnowsAt xs) places → IfSome (find id width places) (IsFound xs id width)
is_found xs id width places all = is_found_at xs id width (get_or places (id % 32) None) (knows_at xs places (id % 32) all)

-- the packet is among those that came
module _ (x : Stored) (xs : List Stored) (among : IsAmong x xs) where
  before_with : (begins_is : x.edge.begins ≡ true) (a : ℕ) (e : Edge) → IsAmong (record { number = a; edge = e }) xs → e.ends ≡ true → ids_of e.width ≡ ids_of x.edge.width
      → e.id ≡ id_after x.edge.width x.edge.id (ids_of x.edge.width - 1) → IfSome (between_of (Some a) (Some x.number)) (IsBetween xs)
  before_with begins_is a e came ends_is width id = by (between_of (Some a) (Some x.number)) (is_range a x.number)
    where
      follows : (e.id + 1) % ids_of e.width ≡ x.edge.id % ids_of e.width
      follows = ap (λ (w : ℕ). (e.id + 1) % w) width ∙ (ap (λ (n : ℕ). (n + 1) % ids_of x.edge.width) id ∙ (next_of_prior x.edge.width x.edge.id ∙ ap (λ (w : ℕ). x.edge.id % w) (sym width)))

      by : (range : Option Between) → IfSome range (IsRange a x.number) → IfSome range (IsBetween xs)
      by None is = tt
      by (Some range) is = record {
        last = e;
        first = x.edge;
        last_came = subst (λ (n : ℕ). IsAmong (record { number = n; edge = e }) xs) (sym is.after) came;
        first_came = subst (λ (n : ℕ). IsAmong (record { number = n; edge = x.edge }) xs) (sym is.before) among;
        ends = ends_is;
        begins = begins_is;
        same_width = width;
        follows = follows;
        some = omega (arith, is.after, is.before, is.some);
        few = omega (arith, is.after, is.before, is.few);
      }

  after_with : (ends_is : x.edge.ends ≡ true) (b : ℕ) (e : Edge) → IsAmong (record { number = b; edge = e }) xs → e.begins ≡ true → ids_of e.width ≡ ids_of x.edge.width
      → e.id ≡ id_after x.edge.width x.edge.id 1 → IfSome (between_of (Some x.number) (Some b)) (IsBetween xs)
  after_with ends_is b e came begins_is width id = by (between_of (Some x.number) (Some b)) (is_range x.number b)
    where
      by : (range : Option Between) → IfSome range (IsRange x.number b) → IfSome range (IsBetween xs)
      by None is = tt
      by (Some range) is = record {
        last = x.edge;
        first = e;
        last_came = subst (λ (n : ℕ). IsAmong (record { number = n; edge = x.edge }) xs) (sym is.after) among;
        first_came = subst (λ (n : ℕ). IsAmong (record { number = n; edge = e }) xs) (sym is.before) came;
        ends = ends_is;
        begins = begins_is;
        same_width = sym width;
        follows = next_is x.edge.width x.edge.id ∙ ap (λ (n : ℕ). n % ids_of x.edge.width) (sym id);
        some = omega (arith, is.after, is.before, is.some);
        few = omega (arith, is.after, is.before, is.few);
      }

  before_is : (places : List (Option Picture)) → All (KnowsAt xs) places → IfSome (gap_before x.number x.edge places) (IsBetween xs)
  before_is places all = by x.edge.begins refl
    where
      id : ℕ
      id = id_after x.edge.width x.edge.id (ids_of x.edge.width - 1)

      at_end : x.edge.begins ≡ true → (p : Picture) (last : Option ℕ) → p.id ≡ id → ids_of p.width ≡ ids_of x.edge.width → IfSome last (Came xs ends p)
          → IfSome (between_of last (Some x.number)) (IsBetween xs)
      at_end begins_is p None p_id p_width came = tt
      at_end begins_is p (Some a) p_id p_width came = before_with begins_is a came.edge came.is came.shows (sym came.width ∙ p_width) (sym came.id ∙ p_id)

      of : x.edge.begins ≡ true → (prior : Option Picture) → IfSome prior (IsFound xs id x.edge.width) → IfSome (between_of (end_of prior) (Some x.number)) (IsBetween xs)
      of begins_is None found = tt
      of begins_is (Some p) found = at_end begins_is p p.end found.id_is found.width_is found.knows.ended

      by : (shows : Bool) → x.edge.begins ≡ shows → IfSome (gap_before x.number x.edge places) (IsBetween xs)
      by true e = rw e (of e (find id x.edge.width places) (is_found xs id x.edge.width places all))
      by false e = rw e tt

  after_is : (places : List (Option Picture)) → All (KnowsAt xs) places → IfSome (gap_after x.number x.edge places) (IsBetween xs)
  after_is places all = by x.edge.ends refl
    where
      id : ℕ
      id = id_after x.edge.width x.edge.id 1

      at_begin : x.edge.ends ≡ true → (p : Picture) (first : Option ℕ) → p.id ≡ id → ids_of p.width ≡ ids_of x.edge.width → IfSome first (Came xs begins p)
          → IfSome (between_of (Some x.number) first) (IsBetween xs)
      at_begin ends_is p None p_id p_width came = tt
      at_begin ends_is p (Some b) p_id p_width came = after_with ends_is b came.edge came.is came.shows (sym came.width ∙ p_width) (sym came.id ∙ p_id)

      of : x.edge.ends ≡ true → (next : Option Picture) → IfSome next (IsFound xs id x.edge.width) → IfSome (between_of (Some x.number) (begin_of next)) (IsBetween xs)
      of ends_is None found = tt
      of ends_is (Some p) found = at_begin ends_is p p.begin found.id_is found.width_is found.knows.begun

      by : (shows : Bool) → x.edge.ends ≡ shows → IfSome (gap_after x.number x.edge places) (IsBetween xs)
      by true e = rw e (of e (find id x.edge.width places) (is_found xs id x.edge.width places all))
      by false e = rw e tt

-- ---- a packet is stored

record Finds (xs : List Stored) (answer : Pictures × Gaps) : Type 0 where
  all : All (KnowsAt xs) answer.0.places
  before : IfSome answer.1.before (IsBetween xs)
  after : IfSome answer.1.after (IsBetween xs)

finds_none : (xs : List Stored) (s : Pictures) → All (KnowsAt xs) s.places → Finds xs (s, no_gaps)
finds_none xs s all = record { all = all; before = tt; after = tt }

finds_in : (x : Stored) (xs : List Stored) (s : Pictures) (p : Picture) → All (KnowsAt xs) s.places → IsFor xs x.edge p → Finds (x ∷ xs) (heard_in x.number x.edge s p)
finds_in x xs s p all is = by (is_sound x.number x.edge p) refl
  where
    new : List (Option Picture)
    new = places_with x.number x.edge p s.places

    more : All (KnowsAt (x ∷ xs)) new
    more = All-set (KnowsAt (x ∷ xs)) s.places (x.edge.id % 32) (Some (with_edge x.number x.edge p)) (knows_with x xs p is) (all_more x xs s.places all)

    by : (sound : Bool) → is_sound x.number x.edge p ≡ sound → Finds (x ∷ xs) (heard_in x.number x.edge s p)
    by true e = rw e (record { all = more; before = before_is x (x ∷ xs) (inl refl) new more; after = after_is x (x ∷ xs) (inl refl) new more })
    by false e = rw e (finds_none (x ∷ xs) (distrusted s) (all_more x xs s.places all))

finds_if : (x : Stored) (xs : List Stored) (s : Pictures) (p : Option Picture) → All (KnowsAt xs) s.places → IfSome p (IsFor xs x.edge) → Finds (x ∷ xs) (heard_if x.number x.edge s p)
finds_if x xs s None all is = finds_none (x ∷ xs) s (all_more x xs s.places all)
finds_if x xs s (Some p) all is = finds_in x xs s p all is

finds : (x : Stored) (xs : List Stored) (s : Pictures) → All (KnowsAt xs) s.places → Finds (x ∷ xs) (heard x.number x.edge s)
finds x xs s all = by (not s.is_trusted || not (x.edge.begins || x.edge.ends)) refl
  where
    place : Option Picture
    place = get_or s.places (x.edge.id % 32) None

    by : (out : Bool) → (not s.is_trusted || not (x.edge.begins || x.edge.ends)) ≡ out → Finds (x ∷ xs) (heard x.number x.edge s)
    by true e = rw e (finds_none (x ∷ xs) s (all_more x xs s.places all))
    by false e = rw e (finds_if x xs s (picture_for x.number x.edge place) all (is_for xs x.number x.edge place (knows_at xs s.places (x.edge.id % 32) all)))

-- ---- calls

checked_places : (n : ℕ) (s : Pictures) → (checked n s).places ≡ s.places
checked_places n s = by (has_noted n s.noted) refl
  where
    by : (noted : Bool) → has_noted n s.noted ≡ noted → (checked n s).places ≡ s.places
    by true e = rw e refl
    by false e = rw e refl

knows_after : (calls : List Call) → All (KnowsAt (stored_in calls)) (after_calls calls).places
knows_after [] = All-replicate (KnowsAt []) 32 None tt
knows_after (Hears x ∷ calls) = (finds x (stored_in calls) (after_calls calls) (knows_after calls)).all
knows_after (Checks n ∷ calls) = subst (All (KnowsAt (stored_in calls))) (sym (checked_places n (after_calls calls))) (knows_after calls)
knows_after (Notes range ∷ calls) = knows_after calls
knows_after (Distrusts ∷ calls) = knows_after calls
knows_after (Forgets ∷ calls) = All-replicate (KnowsAt []) 32 None tt

pub are_between_pictures : AreBetweenPictures
are_between_pictures calls x = let found = finds x (stored_in calls) (after_calls calls) (knows_after calls) in (found.before, found.after)
