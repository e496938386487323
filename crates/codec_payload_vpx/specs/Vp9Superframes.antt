-- Superframes of VP9 (bitstream specification, Annex B): frames one after another, and an index at the end. The index is a
-- byte 110 SS CCC, the sizes of CCC + 1 frames in SS + 1 bytes each, low byte first, and the first byte again.
use Rattle.std.specs.Prelude.{◌≡◌, ◌≤◌, ◌⊎◌, ◌++◌, false, ℕ, zero, suc, ◌+◌, ◌-◌, ◌*◌, ◌/◌, ◌%◌, ◌==◌, ◌&&◌, nat_le, nat_lt, Bool, List, [], ◌∷◌, length, take, drop, get_or, if◌then◌else◌, Option, Some, None, Result, Ok, Err}
use Rattle.std.specs.List.{concat}
use Rattle.codec_payload_base.specs.Flags.{AreBytes}
use Rattle.codec_payload_vpx.specs.declared.error.MediaError.{MediaError}
use Rattle.codec_payload_vpx.specs.declared.error.MediaError.TheVariants as errors

-- the number that bytes say, low byte first
abbrev pub le_number : List ℕ → ℕ
le_number [] = 0
le_number (b ∷ bs) = b + 256 * le_number bs

-- ---- how a superframe is spelled

-- a size in `width` bytes
pub record IsSize (width : ℕ) (text frame : List ℕ) : Type 0 where
  pub wide : length text ≡ width
  pub says : le_number text ≡ length frame

abbrev pub AreSizes : ℕ → List ℕ → List (List ℕ) → Type 0
AreSizes width sizes [] = sizes ≡ []
AreSizes width sizes (frame ∷ frames) = (text : List ℕ) × (others : List ℕ) × (sizes ≡ text ++ others) × IsSize width text frame × AreSizes width others frames

-- the byte at both ends of an index
abbrev pub marker_of : ℕ → ℕ → ℕ
marker_of width count = 192 + 8 * (width - 1) + (count - 1)

-- The unit is a superframe of these frames; between them and the index there may be bytes of no frame.
pub record IsSuperframe (unit : List ℕ) (frames : List (List ℕ)) : Type 0 where
  pub some : 1 ≤ length frames
  pub few : length frames ≤ 8
  pub width : ℕ
  pub wide : 1 ≤ width
  pub narrow : width ≤ 4
  pub sizes : List ℕ
  pub are_sizes : AreSizes width sizes frames
  pub spare : List ℕ
  pub is : unit ≡ (concat frames ++ spare) ++ (marker_of width (length frames) ∷ (sizes ++ marker_of width (length frames) ∷ []))

-- ---- how it is read

-- the meaning of the byte at both ends
abbrev pub is_marker : ℕ → Bool
is_marker byte = byte / 32 == 6

abbrev pub frame_count : ℕ → ℕ
frame_count byte = byte % 8 + 1

abbrev pub size_width : ℕ → ℕ
size_width byte = byte / 8 % 4 + 1

abbrev pub index_length : ℕ → ℕ
index_length byte = 2 + frame_count byte * size_width byte

abbrev pub last_byte : List ℕ → ℕ
last_byte unit = get_or unit (length unit - 1) 0

-- whether the bytes end in an index
abbrev pub has_index : List ℕ → Bool
has_index unit =
    let byte = last_byte unit in
    is_marker byte && nat_le (index_length byte) (length unit) && (get_or unit (length unit - index_length byte) 0 == byte)

-- frames that are left: one without an index; how many, how wide their sizes are, the sizes, and the bytes
pub record Left : Type 0 where
  pub alone : Option (List ℕ)
  pub count : ℕ
  pub width : ℕ
  pub sizes : List ℕ
  pub bytes : List ℕ

abbrev pub next_size : ℕ → List ℕ → ℕ
next_size width sizes = le_number (take width sizes)

-- n frames at the front, each of the next size
unfoldable pub frames_in : ℕ → ℕ → List ℕ → List ℕ → List (List ℕ)
frames_in zero width sizes bytes = []
frames_in (suc n) width sizes bytes = take (next_size width sizes) bytes ∷ frames_in n width (drop width sizes) (drop (next_size width sizes) bytes)

abbrev pub with_alone : Option (List ℕ) → List (List ℕ) → List (List ℕ)
with_alone None frames = frames
with_alone (Some frame) frames = frame ∷ frames

abbrev pub frames_left : Left → List (List ℕ)
frames_left s = with_alone s.alone (frames_in s.count s.width s.sizes s.bytes)

-- the sum of the sizes of n frames
unfoldable pub size_sum : ℕ → ℕ → List ℕ → ℕ
size_sum zero width sizes = 0
size_sum (suc n) width sizes = next_size width sizes + size_sum n width (drop width sizes)

-- the frames that an index announces
abbrev pub indexed : ℕ → List ℕ → Result (List (List ℕ)) MediaError
indexed byte unit =
    let front = length unit - index_length byte in
    let sizes = drop (front + 1) unit in
    if nat_lt front (size_sum (frame_count byte) (size_width byte) sizes) then Err errors.SizesDoNotFit
    else Ok (frames_in (frame_count byte) (size_width byte) sizes (take front unit))

-- the frames of a unit: for a superframe the frames of its index, else the unit alone
abbrev pub unit_frames : List ℕ → Result (List (List ℕ)) MediaError
unit_frames [] = Err errors.MissingBytes
unit_frames (b ∷ bytes) = if has_index (b ∷ bytes) then indexed (last_byte (b ∷ bytes)) (b ∷ bytes) else Ok ((b ∷ bytes) ∷ [])

-- frame `number`, from 0, after all bytes of the frames before it, if there are enough frames
abbrev pub placed_in : ℕ → List (List ℕ) → Option (ℕ × List ℕ)
placed_in i frames = if nat_lt i (length frames) then Some (length (concat (take i frames)), get_or frames i []) else None

-- The unit is one frame: it does not end in an index.
pub record IsAlone (unit : List ℕ) (frames : List (List ℕ)) : Type 0 where
  pub some : 1 ≤ length unit
  pub no_index : has_index unit ≡ false
  pub is : frames ≡ unit ∷ []

-- Reading finds the frames of a superframe that the unit spells, and no others; else the unit is one frame.
abbrev pub ReadsSuperframes : Type 0
ReadsSuperframes = (unit : List ℕ) (frames : List (List ℕ)) → AreBytes unit → (IsSuperframe unit frames → unit_frames unit ≡ Ok frames) × (unit_frames unit ≡ Ok frames → IsSuperframe unit frames ⊎ IsAlone unit frames)
