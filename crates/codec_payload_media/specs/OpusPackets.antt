-- Packets of Opus (RFC 6716, section 3), and the identification header (RFC 7845, section 5.1).
use Rattle.std.specs.Prelude.{◌≡◌, ◌≤◌, ◌<◌, ◌⊎◌, ℕ, zero, suc, ◌+◌, ◌-◌, ◌*◌, ◌/◌, ◌%◌, ◌==◌, ◌&&◌, ◌||◌, nat_lt, nat_le, min, Bool, true, false, List, [], ◌∷◌, ◌++◌, length, take, slice_index_or, if◌then◌else◌, Result, Ok, Err}
use Rattle.std.specs.List.{AllByRecursion, concat}
use Rattle.codec_payload_base.specs.Flags.{AreBytes}
use Rattle.std.specs.Int.{w16, w32, to_le_bytes}
use Rattle.codec_payload_vpx.specs.BitFields.{bit_if}
use Rattle.codec_payload_vpx.specs.declared.error.MediaError.{MediaError}
use Rattle.codec_payload_vpx.specs.declared.error.MediaError.TheVariants as errors
use Rattle.codec_payload_media.specs.declared.opus.OpusHead.{OpusHead}
use Rattle.codec_payload_media.specs.declared.opus.OpusPacket.{OpusPacket}
use Rattle.codec_payload_media.specs.declared.opus.OpusMode.{OpusMode}
use Rattle.codec_payload_media.specs.declared.opus.OpusMode.TheVariants as modes
use Rattle.codec_payload_media.specs.declared.opus.OpusBandwidth.{OpusBandwidth}
use Rattle.codec_payload_media.specs.declared.opus.OpusBandwidth.TheVariants as bandwidths
use Rattle.codec_payload_vpx.specs.Reading.{◌>>=◌}

-- ---- the first byte: the configuration (5 bits), stereo (1), the code (2); table 2 gives the meaning of a configuration

abbrev pub mode_of : ℕ → OpusMode
mode_of config = if nat_lt config 12 then modes.Silk else if nat_lt config 16 then modes.Hybrid else modes.Celt

abbrev pub bandwidth_of : ℕ → OpusBandwidth
bandwidth_of config =
    if nat_lt config 4 then bandwidths.Narrowband
    else if nat_lt config 8 then bandwidths.Mediumband
    else if nat_lt config 12 then bandwidths.Wideband
    else if nat_lt config 14 then bandwidths.SuperWideband
    else if nat_lt config 16 then bandwidths.Fullband
    else if nat_lt config 20 then bandwidths.Narrowband
    else if nat_lt config 24 then bandwidths.Wideband
    else if nat_lt config 28 then bandwidths.SuperWideband
    else bandwidths.Fullband

-- how many samples of 48 kHz a frame has: of SILK 10, 20, 40 or 60 ms, of both 10 or 20 ms, of CELT 2.5, 5, 10 or 20 ms
abbrev pub silk_ticks : List ℕ
silk_ticks = 480 ∷ 960 ∷ 1920 ∷ 2880 ∷ []

abbrev pub hybrid_ticks : List ℕ
hybrid_ticks = 480 ∷ 960 ∷ []

abbrev pub celt_ticks : List ℕ
celt_ticks = 120 ∷ 240 ∷ 480 ∷ 960 ∷ []

abbrev pub ticks_of : ℕ → ℕ
ticks_of config =
    if nat_lt config 12 then slice_index_or silk_ticks (config % 4) 0
    else if nat_lt config 16 then slice_index_or hybrid_ticks (config % 2) 0
    else slice_index_or celt_ticks (config % 4) 0

abbrev pub packet_of : ℕ → ℕ → OpusPacket
packet_of toc frames = record { mode = mode_of (toc / 8); bandwidth = bandwidth_of (toc / 8); channels = toc / 4 % 2 + 1; frame_ticks = ticks_of (toc / 8); frames = frames }

-- the largest frame, in bytes
abbrev pub most : ℕ
most = 1275

-- the longest packet, 120 ms in samples of 48 kHz
abbrev pub longest : ℕ
longest = 5760

-- ---- how packets are spelled

-- a length in one byte, or from 252 on in two
pub record IsLongLength (n : ℕ) (text : List ℕ) : Type 0 where
  pub low : ℕ
  pub high : ℕ
  pub least : 252 ≤ low
  pub is : n ≡ low + 4 * high
  pub spelled : text ≡ low ∷ high ∷ []

abbrev pub IsLength : ℕ → List ℕ → Type 0
IsLength n text = ((n < 252) × (text ≡ n ∷ [])) ⊎ IsLongLength n text

-- the lengths of these frames
abbrev pub AreLengths : List (List ℕ) → List ℕ → Type 0
AreLengths [] text = text ≡ []
AreLengths (frame ∷ frames) text = (first : List ℕ) × (others : List ℕ) × (text ≡ first ++ others) × IsLength (length frame) first × AreLengths frames others

-- bytes of 255 and a last one below, which say how much padding there is: 254 for each, and the last
abbrev pub SaysPadding : List ℕ → ℕ → Type 0
SaysPadding [] n = ⊥
SaysPadding (b ∷ []) n = (b < 255) × (n ≡ b)
SaysPadding (b ∷ c ∷ text) n = (b ≡ 255) × (m : ℕ) × (n ≡ 254 + m) × SaysPadding (c ∷ text) m

abbrev pub IsPadding : Bool → List ℕ → List ℕ → Type 0
IsPadding false text padding = (text ≡ []) × (padding ≡ [])
IsPadding true text padding = SaysPadding text (length padding)

-- frames of one length, or each length but the last before the frames
abbrev pub AreFrames : Bool → List (List ℕ) → List ℕ → Type 0
AreFrames false frames bytes = (size : ℕ) × AllByRecursion (λ frame. length frame ≡ size) frames × (bytes ≡ concat frames)
AreFrames true frames bytes = (lengths : List ℕ) × (firsts : List (List ℕ)) × (last : List ℕ) × (frames ≡ firsts ++ last ∷ []) × AreLengths firsts lengths × (bytes ≡ lengths ++ concat frames)

-- code 3: a byte with the number of frames (6 bits), whether there is padding (1), and whether lengths are explicit (1)
pub record AreCounted (ticks : ℕ) (frames : List (List ℕ)) (bytes : List ℕ) : Type 0 where
  pub few : length frames < 64
  pub short : length frames * ticks ≤ longest
  pub told : Bool
  pub padded : Bool
  pub size : List ℕ
  pub padding : List ℕ
  pub is_padding : IsPadding padded size padding
  pub frames_bytes : List ℕ
  pub are : AreFrames told frames frames_bytes
  pub is : bytes ≡ (length frames + bit_if padded 64 + bit_if told 128) ∷ (size ++ (frames_bytes ++ padding))

-- code 0: one frame; code 1: two of one length; code 2: two, the first with an explicit length
abbrev pub AreCoded : ℕ → ℕ → List (List ℕ) → List ℕ → Type 0
AreCoded ticks zero frames bytes = (length frames ≡ 1) × AreFrames false frames bytes
AreCoded ticks (suc zero) frames bytes = (length frames ≡ 2) × AreFrames false frames bytes
AreCoded ticks (suc (suc zero)) frames bytes = (length frames ≡ 2) × AreFrames true frames bytes
AreCoded ticks (suc (suc (suc code))) frames bytes = AreCounted ticks frames bytes

-- The bytes are a packet that says this.
pub record IsOpusPacket (packet : List ℕ) (p : OpusPacket) : Type 0 where
  pub toc : ℕ
  pub frames : List (List ℕ)
  pub bytes : List ℕ
  pub is : packet ≡ toc ∷ bytes
  pub some : 1 ≤ length frames
  pub small : AllByRecursion (λ frame. length frame ≤ most) frames
  pub are : AreCoded (ticks_of (toc / 8)) (toc % 4) frames bytes
  pub says : p ≡ packet_of toc (length frames)

-- ---- how packets are read

-- n frames of one length, together of this size
abbrev pub alike : ℕ → ℕ → Result ℕ MediaError
alike count size = if (size % count == 0) && nat_le (size / count) most then Ok count else Err errors.SizesDoNotFit

abbrev pub long_length : ℕ → List ℕ → Result (ℕ × List ℕ) MediaError
long_length low [] = Err errors.MissingBytes
long_length low (high ∷ rest) = Ok (low + 4 * high, rest)

-- the length of a frame in one byte, or from 252 on in two
abbrev pub length_at : List ℕ → Result (ℕ × List ℕ) MediaError
length_at [] = Err errors.MissingBytes
length_at (low ∷ rest) = if nat_lt low 252 then Ok (low, rest) else long_length low rest

-- the lengths of n frames, added to a sum
unfoldable pub lengths_at : ℕ → ℕ → List ℕ → Result (ℕ × List ℕ) MediaError
lengths_at zero sum bytes = Ok (sum, bytes)
lengths_at (suc n) sum bytes = do
  first ← length_at bytes
  lengths_at n (sum + first.0) first.1

-- the frames whose lengths have that sum, and a last one
abbrev pub with_last : ℕ → ℕ → ℕ → Result ℕ MediaError
with_last count sum size = if nat_lt size sum || nat_lt most (size - sum) then Err errors.SizesDoNotFit else Ok count

-- n frames, with a length before each except the last
abbrev pub apart : ℕ → List ℕ → Result ℕ MediaError
apart count bytes = do
  lengths ← lengths_at (count - 1) 0 bytes
  with_last count lengths.0 (length lengths.1)

-- If padding follows the frames, its size comes before them: bytes of 255, which mean 254 bytes each, and a last byte. The number
-- of bytes from this place on that are not padding, by the size so far; the rest once the size is complete
unfoldable pub unpadded : ℕ → List ℕ → Result (List ℕ) MediaError
unpadded room [] = Err errors.MissingBytes
unpadded room (b ∷ rest) =
    if nat_lt room (1 + min b 254) then Err errors.SizesDoNotFit
    else if nat_lt b 255 then Ok (take (room - (1 + min b 254)) rest)
    else unpadded (room - (1 + min b 254)) rest

abbrev pub unpadded_if : Bool → List ℕ → Result (List ℕ) MediaError
unpadded_if false bytes = Ok bytes
unpadded_if true bytes = unpadded (length bytes) bytes

abbrev pub frames_if : Bool → ℕ → List ℕ → Result ℕ MediaError
frames_if false count bytes = alike count (length bytes)
frames_if true count bytes = apart count bytes

-- frames after a byte that says whether lengths are explicit (1 bit), whether there is padding (1), and their number (6)
abbrev pub counted_at : ℕ → List ℕ → Result ℕ MediaError
counted_at ticks [] = Err errors.MissingBytes
counted_at ticks (byte ∷ rest) =
    if (byte % 64 == 0) || nat_lt longest (byte % 64 * ticks) then Err errors.ReservedValue
    else (unpadded_if (byte / 64 % 2 == 1) rest >>= frames_if (byte / 128 == 1) (byte % 64))

-- the number of frames of a packet of this code, with n samples in each frame
abbrev pub frames_at : ℕ → ℕ → List ℕ → Result ℕ MediaError
frames_at ticks code bytes =
    if code == 0 then alike 1 (length bytes)
    else if code == 1 then alike 2 (length bytes)
    else if code == 2 then apart 2 bytes
    else counted_at ticks bytes

abbrev pub opus_at : List ℕ → Result OpusPacket MediaError
opus_at [] = Err errors.MissingBytes
opus_at (toc ∷ rest) = do
  frames ← frames_at (ticks_of (toc / 8)) (toc % 4) rest
  Ok (packet_of toc frames)

-- ---- the identification header: "OpusHead", version 1, the channels, the samples to skip, the rate of the input, no gain,
-- mapping family 0; numbers low byte first

abbrev pub head_bytes : OpusHead → List ℕ
head_bytes h =
    0x4f ∷ 0x70 ∷ 0x75 ∷ 0x73 ∷ 0x48 ∷ 0x65 ∷ 0x61 ∷ 0x64 ∷ 1 ∷ h.channels ∷ (to_le_bytes w16 h.pre_skip ++ (to_le_bytes w32 h.input_sample_rate ++ (0 ∷ 0 ∷ 0 ∷ [])))

-- Reading finds exactly the packets that the bytes spell.
abbrev pub ReadsOpus : Type 0
ReadsOpus = (packet : List ℕ) (p : OpusPacket) → AreBytes packet → (IsOpusPacket packet p → opus_at packet ≡ Ok p) × (opus_at packet ≡ Ok p → IsOpusPacket packet p)
