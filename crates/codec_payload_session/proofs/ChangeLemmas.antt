-- Streams that their sender left.
use Rattle.std.proofs.Common.{◌≡◌, ◌∙◌, ◌||◌, ℕ, suc, List, [], ◌∷◌, length, map, Bool, true, false, ap, refl, arith}
use Rattle.codec_payload_session_stream.specs.Changes.{any_left_behind, continued, is_left_behind, left_behind}
use Rattle.codec_payload_session.specs.Ports.{taken_in}
use Rattle.codec_payload_session_stream.specs.Streams.{left_when}
use Rattle.codec_payload_session_formats.specs.declared.formats.Format.{Format}
use Rattle.codec_payload_session_stream.specs.declared.stream.Ending.TheVariants as endings
use Rattle.codec_payload_session_stream.specs.declared.stream.StreamState.{StreamState}

-- such a stream takes nothing
taken_left_behind : (now wait ssrc : ℕ) (f : Format) (s : StreamState) → (left_behind now wait ssrc f s).taken ≡ s.taken
taken_left_behind now wait ssrc f s = by_test (is_left_behind now wait ssrc f s)
  where
    by_test : (b : Bool) → (left_when b endings.Changed now s).taken ≡ s.taken
    by_test true = refl
    by_test false = refl

taken_mapped : (now wait ssrc : ℕ) (f : Format) (ss : List StreamState) → taken_in (map (left_behind now wait ssrc f) ss) ≡ taken_in ss
taken_mapped now wait ssrc f [] = refl
taken_mapped now wait ssrc f (x ∷ xs) = omega (arith, taken_left_behind now wait ssrc f x, taken_mapped now wait ssrc f xs)

length_mapped : (now wait ssrc : ℕ) (f : Format) (ss : List StreamState) → length (map (left_behind now wait ssrc f) ss) ≡ length ss
length_mapped now wait ssrc f [] = refl
length_mapped now wait ssrc f (x ∷ xs) = ap suc (length_mapped now wait ssrc f xs)

pub taken_continued : (b : Bool) (now wait ssrc : ℕ) (f : Format) (ss : List StreamState) → taken_in (continued b now wait ssrc f ss) ≡ taken_in ss
taken_continued true now wait ssrc f ss = taken_mapped now wait ssrc f ss
taken_continued false now wait ssrc f ss = refl

pub length_continued : (b : Bool) (now wait ssrc : ℕ) (f : Format) (ss : List StreamState) → length (continued b now wait ssrc f ss) ≡ length ss
length_continued true now wait ssrc f ss = length_mapped now wait ssrc f ss
length_continued false now wait ssrc f ss = refl

-- ---- no stream is left behind

all_stay : (now wait ssrc : ℕ) (f : Format) (ss : List StreamState) → any_left_behind now wait ssrc f ss ≡ false → map (left_behind now wait ssrc f) ss ≡ ss
all_stay now wait ssrc f [] none = refl
all_stay now wait ssrc f (s ∷ ss) none = by_test (is_left_behind now wait ssrc f s) refl none (all_stay now wait ssrc f ss)
  where
    by_test : (b : Bool) → is_left_behind now wait ssrc f s ≡ b → (b || any_left_behind now wait ssrc f ss) ≡ false
        → (any_left_behind now wait ssrc f ss ≡ false → map (left_behind now wait ssrc f) ss ≡ ss) → left_behind now wait ssrc f s ∷ map (left_behind now wait ssrc f) ss ≡ s ∷ ss
    by_test true is other rest = absurd (cc)
    by_test false is other rest =
        ap (λ (c : Bool). left_when c endings.Changed now s ∷ map (left_behind now wait ssrc f) ss) is ∙ ap (λ (l : List StreamState). s ∷ l) (rest other)

-- if no stream is left behind, none changes
pub none_left : (go : Bool) (now wait ssrc : ℕ) (f : Format) (ss : List StreamState) → any_left_behind now wait ssrc f ss ≡ false → continued go now wait ssrc f ss ≡ ss
none_left false now wait ssrc f ss none = refl
none_left true now wait ssrc f ss none = all_stay now wait ssrc f ss none
