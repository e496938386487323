-- The ranges that a packet shows have a lower end and an upper end.
use Rattle.std.proofs.Common.{ℕ, ◌-◌, ◌<◌, ◌&&◌, ◌||◌, not, cond, ltb, leb, List, Option, Some, None}
use Rattle.std.specs.Prelude.{IfSome, slice_index_or, ◌%◌}
use Rattle.std.proofs.lemmas.Bool.{and_parts, ltb-true}
use Rattle.codec_payload_codec.proofs.CaseLemmas.{by_test}
use Rattle.codec_payload_edges.specs.Edges.{id_after, ids_of}
use Rattle.codec_payload_edges.specs.Pictures.{Pictures, begin_of, between_of, distrusted, end_of, find, gap_after, gap_before, gaps_at, heard, heard_if, is_sound, no_gaps, picture_for, places_with}
use Rattle.codec_payload_edges.specs.declared.edge.Edge.{Edge}
use Rattle.codec_payload_edges.specs.declared.pictures.Between.{Between}
use Rattle.codec_payload_edges.specs.declared.pictures.Gaps.{Gaps}
use Rattle.codec_payload_edges.specs.declared.pictures.Picture.{Picture}

abbrev Rises : Option Between → Type 0
Rises gap = IfSome gap (λ r. r.after < r.before)

between_rises : (last first : Option ℕ) → Rises (between_of last first)
between_rises None first = tt
between_rises (Some a) None = tt
between_rises (Some a) (Some b) = by_test (ltb a b && (leb 2 (b - a) && leb (b - a) 128)) (λ fits. Rises (cond fits (Some (record { after = a; before = b })) None))
    (λ e. ltb-true a b (and_parts (ltb a b) (leb 2 (b - a) && leb (b - a) 128) e).0)
    (λ e. tt)

before_rises : (n : ℕ) (e : Edge) (places : List (Option Picture)) → Rises (gap_before n e places)
before_rises n e places = by_test e.begins (λ begins. Rises (cond begins (between_of (end_of (find (id_after e.width e.id (ids_of e.width - 1)) e.width places)) (Some n)) None))
    (λ is. between_rises (end_of (find (id_after e.width e.id (ids_of e.width - 1)) e.width places)) (Some n))
    (λ is. tt)

after_rises : (n : ℕ) (e : Edge) (places : List (Option Picture)) → Rises (gap_after n e places)
after_rises n e places = by_test e.ends (λ ends. Rises (cond ends (between_of (Some n) (begin_of (find (id_after e.width e.id 1) e.width places))) None))
    (λ is. between_rises (Some n) (begin_of (find (id_after e.width e.id 1) e.width places)))
    (λ is. tt)

abbrev BothRise : Pictures × Gaps → Type 0
BothRise answer = Rises answer.1.before × Rises answer.1.after

none_rise : (s : Pictures) → BothRise (s, no_gaps)
none_rise s = (tt, tt)

if_rise : (n : ℕ) (e : Edge) (s : Pictures) (picture : Option Picture) → BothRise (heard_if n e s picture)
if_rise n e s None = none_rise s
if_rise n e s (Some p) = by_test (is_sound n e p)
    (λ sound. BothRise (cond sound (record s { places = places_with n e p s.places }, gaps_at n e (places_with n e p s.places)) (distrusted s, no_gaps)))
    (λ is. (before_rises n e (places_with n e p s.places), after_rises n e (places_with n e p s.places)))
    (λ is. none_rise (distrusted s))

pub both_rise : (n : ℕ) (e : Edge) (s : Pictures) → BothRise (heard n e s)
both_rise n e s = by_test (not s.is_trusted || not (e.begins || e.ends))
    (λ ignored. BothRise (cond ignored (s, no_gaps) (heard_if n e s (picture_for n e (slice_index_or s.places (e.id % 32) None)))))
    (λ is. none_rise s)
    (λ is. if_rise n e s (picture_for n e (slice_index_or s.places (e.id % 32) None)))
