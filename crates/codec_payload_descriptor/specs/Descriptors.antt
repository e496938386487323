-- The dependency descriptor (AV1 RTP specification, appendix A.8.2), as its tables have it, and a stream of descriptors.
use Rattle.std.specs.Prelude.{◌≡◌, ℕ, ◌-◌, ◌^◌, nat_lt, Bool, true, false, List, [], length, if◌then◌else◌, Option, Some, None, Result, Ok, Err, get_or, slice_get}
use Rattle.codec_payload_base.specs.Bits.{bits_of}
use Rattle.codec_payload_descriptor.specs.declared.dependency.DependencyDescriptor.{DependencyDescriptor}
use Rattle.codec_payload_descriptor.specs.declared.dependency.Flags.{Flags}
use Rattle.codec_payload_descriptor.specs.declared.dependency.Header.{Header}
use Rattle.codec_payload_descriptor.specs.declared.error.DescriptorError.{DescriptorError}
use Rattle.codec_payload_descriptor.specs.declared.error.DescriptorError.TheVariants as failures
use Rattle.codec_payload_descriptor.specs.declared.error.DescriptorFault.{DescriptorFault}
use Rattle.codec_payload_descriptor.specs.declared.error.DescriptorFault.TheVariants as faults
use Rattle.codec_payload_descriptor.specs.declared.structure.Layer.{Layer}
use Rattle.codec_payload_descriptor.specs.Structures.{Structure, place_of, references, structure}
use Rattle.codec_payload_syntax.specs.Syntax.{value, refuses, field, branch, ◌>>=◌, flag, times}
use Rattle.codec_payload_descriptor.specs.Syntax.{Syntax, value_of}

-- mandatory_descriptor_fields
unfoldable pub header : Syntax Header
header = do
  start ← flag
  end ← flag
  template ← field 6
  number ← field 16
  value (record { start_of_frame = start; end_of_frame = end; template_id = template; frame_number = number })

-- the flags of extended_descriptor_fields, which more than three bytes have
unfoldable pub flags_if : Bool → Syntax Flags
flags_if extended = branch extended told (value (record { structure = false; active = false; indications = false; references = false; chains = false }))
  where
    told : Syntax Flags
    told = do
      structure ← flag
      active ← flag
      indications ← flag
      references ← flag
      chains ← flag
      value (record { structure = structure; active = active; indications = indications; references = references; chains = chains })

abbrev pub structure_if : Bool → Syntax (Option Structure)
structure_if there = branch there own (value None)
  where
    own : Syntax (Option Structure)
    own = do
      s ← structure
      value (Some s)

-- the active decode targets as a number, bit 0 for the first: those of the descriptor, or all with a new structure
abbrev pub active_targets : Flags → ℕ → Syntax (Option ℕ)
active_targets flags targets = branch flags.active told (value (if flags.structure then Some (2 ^ targets - 1) else None))
  where
    told : Syntax (Option ℕ)
    told = do
      mask ← field targets
      value (Some mask)

-- the frame's own, or else its template's
abbrev pub own_or : Bool → Syntax (List ℕ) → List ℕ → Syntax (List ℕ)
own_or own table template = branch own table (value template)

-- frame_dependency_definition
abbrev pub with_template : Option Layer → Header → Flags → Option ℕ → Structure → Syntax DependencyDescriptor
with_template None h flags active s = refuses faults.Template
with_template (Some layer) h flags active s = do
  indications ← own_or flags.indications (times s.targets (field 2)) (get_or s.indications (place_of h.template_id s) [])
  differences ← own_or flags.references (references true) (get_or s.references (place_of h.template_id s) [])
  chain_differences ← own_or flags.chains (times s.chains (field 8)) (get_or s.chain_differences (place_of h.template_id s) [])
  value (record { start_of_frame = h.start_of_frame; end_of_frame = h.end_of_frame; frame_number = h.frame_number; layer = layer; indications = indications; references = differences; chain_differences = chain_differences; active_targets = active })

unfoldable pub frame : Header → Flags → Option ℕ → Structure → Syntax DependencyDescriptor
frame h flags active s = with_template (slice_get s.layers (place_of h.template_id s)) h flags active s

abbrev pub with_structure : Header → Flags → Option Structure → Syntax DependencyDescriptor
with_structure h flags None = refuses faults.NoStructure
with_structure h flags (Some s) = do
  active ← active_targets flags s.targets
  frame h flags active s

-- the first that there is
abbrev pub first_of : {A : Type 0} → Option A → Option A → Option A
first_of None other = other
first_of (Some x) other = Some x

-- dependency_descriptor, with the structure that came before: the descriptor, and its own structure if it has one
unfoldable pub descriptor : Bool → Option Structure → Syntax (DependencyDescriptor × Option Structure)
descriptor extended before = do
  h ← header
  flags ← flags_if extended
  own ← structure_if flags.structure
  d ← with_structure h flags (first_of own before)
  value (d, own)

-- the flag of a structure; a descriptor of three bytes has no flags and no structure
unfoldable pub structure_flag : Bool → Syntax Bool
structure_flag extended = do
  h ← header
  flags ← flags_if extended
  value flags.structure

-- The descriptor has a structure.
abbrev pub HasStructure : List ℕ → Type 0
HasStructure bytes = value_of (structure_flag (nat_lt 3 (length bytes))) (bits_of bytes) ≡ Ok true

-- the table of these bytes
abbrev pub descriptor_in : List ℕ → Option Structure → Syntax (DependencyDescriptor × Option Structure)
descriptor_in bytes before = descriptor (nat_lt 3 (length bytes)) before

-- the descriptor that bytes are
abbrev pub descriptor_of : Option Structure → List ℕ → Result (DependencyDescriptor × Option Structure) DescriptorFault
descriptor_of before bytes = value_of (descriptor_in bytes before) (bits_of bytes)

-- ---- streams

pub record Stream : Type 0 where
  -- the latest structure
  pub structure : Option Structure
  -- the active decode targets, bit 0 for the first
  pub active : ℕ

abbrev pub number_or : Option ℕ → ℕ → ℕ
number_or None n = n
number_or (Some m) n = m

-- a descriptor, and the stream after it
abbrev pub with_stream : Stream → Result (DependencyDescriptor × Option Structure) DescriptorFault → Result (DependencyDescriptor × Stream) DescriptorFault
with_stream s (Ok d) = Ok (d.0, record { structure = first_of d.1 s.structure; active = number_or d.0.active_targets s.active })
with_stream s (Err e) = Err e

abbrev pub stream_read : Stream → List ℕ → Result (DependencyDescriptor × Stream) DescriptorFault
stream_read s bytes = with_stream s (descriptor_of s.structure bytes)

-- why the next descriptor of a stream is not read: a fault, or memory ran out for its structure
abbrev pub CannotRead : DescriptorError → Stream → List ℕ → Type 0
CannotRead failures.OutOfMemory s bytes = HasStructure bytes
CannotRead (failures.Fault f) s bytes = stream_read s bytes ≡ Err f
