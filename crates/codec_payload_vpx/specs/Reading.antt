-- Readings from the left, with the first fault that is met.
use Rattle.std.specs.Prelude.{Result, Ok, Err}
use Rattle.codec_payload_vpx.specs.declared.error.MediaError.{MediaError}

-- a reading, and its continuation if it found no fault
infixl 10 ◌>>=◌
abbrev pub ◌>>=◌ : {A B : Type 0} → Result A MediaError → (A → Result B MediaError) → Result B MediaError
(Ok x) >>= f = f x
(Err e) >>= f = Err e

-- a result through a view
abbrev pub told : {X Y : Type 0} → (X → Y) → Result X MediaError → Result Y MediaError
told view (Ok x) = Ok (view x)
told view (Err e) = Err e
