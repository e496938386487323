-- Streams whose formats stay, and streams whose formats are gone.
use Rattle.std.specs.Prelude.{◌≡◌, ◌⊎◌, ℕ, List, [], ◌∷◌}
use Rattle.codec_payload_session_stream.specs.Streams.{left}
use Rattle.codec_payload_session_formats.specs.declared.formats.Format.{Format}
use Rattle.codec_payload_session_stream.specs.declared.stream.Ending.TheVariants as endings
use Rattle.codec_payload_session_stream.specs.declared.stream.StreamState.{StreamState}

-- the format is one of these, with all of its fields
abbrev pub IsAmong : Format → List Format → Type 0
IsAmong f [] = ⊥
IsAmong f (g ∷ gs) = (g ≡ f) ⊎ IsAmong f gs

abbrev pub IsGone : Format → List Format → Type 0
IsGone f gs = IsAmong f gs → ⊥

-- a stream whose format is one of these stays as it is; any other one ends at this time
abbrev pub StaysOrEnds : List Format → ℕ → StreamState → StreamState → Type 0
StaysOrEnds formats at s t = (IsAmong s.format formats × (t ≡ s)) ⊎ (IsGone s.format formats × (t ≡ left endings.Changed at s))

abbrev pub StayOrEnd : List Format → ℕ → List StreamState → List StreamState → Type 0
StayOrEnd formats at [] [] = Unit {0}
StayOrEnd formats at (s ∷ ss) (t ∷ ts) = StaysOrEnds formats at s t × StayOrEnd formats at ss ts
StayOrEnd formats at [] (t ∷ ts) = ⊥
StayOrEnd formats at (s ∷ ss) [] = ⊥
