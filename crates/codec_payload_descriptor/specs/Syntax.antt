-- Syntax tables of dependency descriptors: their faults are descriptor faults, and bits that end in a field are short.
use Rattle.std.specs.Prelude.{◌≡◌, ℕ, List, Result, Ok, Err}
use Rattle.codec_payload_syntax.specs.Syntax as tables
use Rattle.codec_payload_descriptor.specs.declared.error.DescriptorError.{DescriptorError}
use Rattle.codec_payload_descriptor.specs.declared.error.DescriptorError.TheVariants as failures
use Rattle.codec_payload_descriptor.specs.declared.error.DescriptorFault.{DescriptorFault}
use Rattle.codec_payload_descriptor.specs.declared.error.DescriptorFault.TheVariants as faults

-- a table whose value is an A
abbrev pub Syntax : Type 0 → Type 1
Syntax A = tables.Syntax DescriptorFault A

-- the value that a table gives to bits, and the bits after it, or the first fault
abbrev pub read : {A : Type 0} → Syntax A → List ℕ → Result (A × List ℕ) DescriptorFault
read s bs = tables.read faults.Short s bs

-- the value that the table gives to the bits at the front
abbrev pub value_of : {A : Type 0} → Syntax A → List ℕ → Result A DescriptorFault
value_of s bs = tables.value_of faults.Short s bs

-- ---- results

-- what a call returned, through a view, is what reading gives, unless memory ran out
abbrev pub Fails : {Y : Type 0} → DescriptorError → Result Y DescriptorFault → Type 0
Fails failures.OutOfMemory read = Unit {0}
Fails (failures.Fault f) read = read ≡ Err f

abbrev pub Gives : {X Y : Type 0} → (X → Y) → Result X DescriptorError → Result Y DescriptorFault → Type 0
Gives view (Ok x) read = read ≡ Ok (view x)
Gives view (Err e) read = Fails e read
