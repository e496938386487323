-- The frames of a stream by their dependency descriptors (AV1 RTP specification, appendix A), and what a unit of them refers to.
use Rattle.std.specs.Prelude.{◌≡◌, ℕ, ◌-◌, ◌*◌, ◌/◌, ◌%◌, ◌^◌, ◌==◌, ◌&&◌, not, nat_lt, Bool, true, false, List, [], ◌∷◌, Option, Some, None, Ok, if◌then◌else◌}
use Rattle.std.specs.Int.Bits.{bit_and, bit_or}
use Rattle.codec_payload_base.specs.Extended.{nearest}
use Rattle.codec_payload_descriptor.specs.Descriptors.{CannotRead, Stream, stream_read}
use Rattle.codec_payload_descriptor.specs.declared.dependency.DependencyDescriptor.{DependencyDescriptor}
use Rattle.codec_payload_descriptor.specs.declared.error.DescriptorError.{DescriptorError}
use Rattle.codec_payload_keyframes.specs.declared.references.Referring.{Referring}

-- ---- reading

-- what is known of a stream: its structure and active decode targets, and the number of the latest frame that was read
pub record Following : Type 0 where
  pub stream : Stream
  pub latest : ℕ

-- The descriptor was read, and its number is the one nearest to the latest number. Or it cannot be read, and nothing has changed.
abbrev pub IsRead : Following → List ℕ → Option DependencyDescriptor → Following → Type 0
IsRead before bytes (Some d) after = (stream_read before.stream bytes ≡ Ok (d, after.stream)) × (after.latest ≡ nearest 65536 before.latest d.frame_number)
IsRead before bytes None after = (after ≡ before) × (e : DescriptorError) × CannotRead e before.stream bytes

-- ---- sets of distances as bits

-- bit d for a distance of 1 to 127, bit 0 for another one
abbrev pub bit_for : ℕ → ℕ
bit_for d = if nat_lt d 128 then 2 ^ d else 1

abbrev pub mask_of : ℕ → List ℕ → ℕ
mask_of bits [] = bits
mask_of bits (d ∷ ds) = mask_of (bit_or bits (bit_for d)) ds

-- the same frames from a frame whose number is higher by a gap
abbrev pub moved_on : ℕ → ℕ → ℕ
moved_on frames gap = if nat_lt gap 128 then frames * 2 ^ gap % 2 ^ 128 else 0

abbrev pub bit_of : Bool → ℕ
bit_of true = 1
bit_of false = 0

-- all bits but bit 0
abbrev pub known : ℕ → ℕ
known distances = bit_and distances (2 ^ 128 - 1 - 1)

-- no bit was lost
abbrev pub is_within : ℕ → ℕ → Bool
is_within distances gap = if nat_lt gap 128 then moved_on distances gap / 2 ^ gap == distances else distances == 0

-- the same distances from a frame whose number is higher by a gap; bit 0 stays, and stands for those above 127
abbrev pub further_on : ℕ → ℕ → ℕ
further_on distances gap = bit_or (bit_or (moved_on (known distances) gap) (bit_and distances 1)) (bit_of (not (is_within (known distances) gap)))

-- ---- units

abbrev pub is_of_base : DependencyDescriptor → Bool
is_of_base d = d.layer.temporal_id == 0

-- a unit of one frame
abbrev pub first_frame : ℕ → DependencyDescriptor → Referring
first_frame n d = record { number = n; frames = 1; distances = mask_of 0 d.references; is_base = is_of_base d }

-- a unit with one more frame, whose references are those to frames that are not of the unit
abbrev pub with_next : Referring → ℕ → DependencyDescriptor → Referring
with_next u n d =
    if nat_lt u.number n then record {
      number = n;
      frames = bit_or (moved_on u.frames (n - u.number)) 1;
      distances = bit_or (further_on u.distances (n - u.number)) (bit_and (mask_of 0 d.references) (2 ^ 128 - 1 - moved_on u.frames (n - u.number)));
      is_base = u.is_base && is_of_base d;
    }
    else record { number = u.number; frames = u.frames; distances = bit_or u.distances 1; is_base = u.is_base && is_of_base d }

abbrev pub with_frame : Option Referring → ℕ → DependencyDescriptor → Referring
with_frame None n d = first_frame n d
with_frame (Some u) n d = with_next u n d

-- a frame of a unit: its number, and its descriptor
pub record Frame : Type 0 where
  pub number : ℕ
  pub descriptor : DependencyDescriptor

-- the frames of a unit, in the order of its packets, after those of the unit so far
abbrev pub with_frames : Option Referring → List Frame → Option Referring
with_frames u [] = u
with_frames u (f ∷ fs) = with_frames (Some (with_frame u f.number f.descriptor)) fs
