-- Syntax tables of frames: their faults are media errors, and bits that end in a field are missing bytes.
use Rattle.std.specs.Prelude.{ℕ, List, Result}
use Rattle.codec_payload_syntax.specs.Syntax as tables
use Rattle.codec_payload_vpx.specs.declared.error.MediaError.{MediaError}
use Rattle.codec_payload_vpx.specs.declared.error.MediaError.TheVariants as errors

-- a table whose value is an A
abbrev pub Syntax : Type 0 → Type 1
Syntax A = tables.Syntax MediaError A

-- the value that a table gives to bits, and the bits after it, or the first fault
abbrev pub read : {A : Type 0} → Syntax A → List ℕ → Result (A × List ℕ) MediaError
read s bs = tables.read errors.MissingBytes s bs

-- the value that the table gives to the bits at the front
abbrev pub value_of : {A : Type 0} → Syntax A → List ℕ → Result A MediaError
value_of s bs = tables.value_of errors.MissingBytes s bs
