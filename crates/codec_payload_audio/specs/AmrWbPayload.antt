-- AMR-WB payloads as a grammar (RFC 4867, sections 4.3 and 4.4): a mode request, a table of contents, and the speech of each of its entries.
use Rattle.std.specs.Prelude.{◌≡◌, ℕ, ◌<◌, ◌⊎◌, Bool, true, false, if◌then◌else◌, List, [], ◌∷◌, ◌++◌, length, Ok}
use Rattle.std.specs.List.{flat_map, AllByRecursion}
use Rattle.codec_payload_base.specs.Bits.{bits, bits_of}
use Rattle.codec_payload_audio.specs.AmrWb.{Frame, IsFrame, canonical, gap, payload}
use Rattle.codec_payload_audio.specs.AmrWbReceived.{received}

-- the mode request in four bits; if octet-aligned, four bits of any value follow
abbrev pub request_size : Bool → ℕ
request_size false = 4
request_size true = 8

-- the number of bits of any value after an entry
abbrev pub entry_fill : Bool → ℕ
entry_fill false = 0
entry_fill true = 2

-- and after speech of n bits: if octet-aligned, up to a byte
abbrev pub speech_fill : Bool → ℕ → ℕ
speech_fill octet n = if octet then gap n else 0

-- an entry: whether another follows, the type, the quality
abbrev pub toc_entry : ℕ → Frame → List ℕ
toc_entry follows f = bits 1 follows ++ bits 4 f.kind ++ bits 1 f.quality

-- the bits are the table of contents of the frames, one or more: an entry for each; only the last says that no entry follows
abbrev pub AreEntries : Bool → List Frame → List ℕ → Type 0
AreEntries octet [] bs = ⊥
AreEntries octet (f ∷ []) bs = (fill : List ℕ) × (length fill ≡ entry_fill octet) × (bs ≡ toc_entry 0 f ++ fill)
AreEntries octet (f ∷ g ∷ fs) bs = (fill : List ℕ) × (more : List ℕ) × (length fill ≡ entry_fill octet) × AreEntries octet (g ∷ fs) more × (bs ≡ toc_entry 1 f ++ (fill ++ more))

-- the bits are the speech of the frames, in their order
abbrev pub AreSpeech : Bool → List Frame → List ℕ → Type 0
AreSpeech octet [] bs = bs ≡ []
AreSpeech octet (f ∷ fs) bs = (fill : List ℕ) × (more : List ℕ) × (length fill ≡ speech_fill octet (length f.speech)) × AreSpeech octet fs more × (bs ≡ f.speech ++ (fill ++ more))

-- The bits are a payload that carries the frames.
pub record IsAmrWb (octet : Bool) (bs : List ℕ) (fs : List Frame) : Type 0 where
  pub request : List ℕ
  pub entries : List ℕ
  pub speech : List ℕ
  pub fill : List ℕ
  pub frames : AllByRecursion IsFrame fs
  pub request_length : length request ≡ request_size octet
  pub are_entries : AreEntries octet fs entries
  pub are_speech : AreSpeech octet fs speech
  pub less_than_a_byte : length fill < 8
  pub is : bs ≡ request ++ (entries ++ (speech ++ fill))

-- the output of a payload of several frames: the canonical form of each, in order
abbrev pub canonicals : List Frame → List ℕ
canonicals fs = flat_map canonical fs

-- whatever is spelled so is received as those frames
abbrev pub SpelledIsReceived : Type 0
SpelledIsReceived = (octet : Bool) (bs : List ℕ) (fs : List Frame) → IsAmrWb octet bs fs → received octet bs ≡ Ok (canonicals fs)

-- received bytes were spelled so; an empty payload carries nothing
abbrev pub ReceivedIsSpelled : Type 0
ReceivedIsSpelled =
    (octet : Bool) (payload frames : List ℕ) → received octet (bits_of payload) ≡ Ok frames
    → ((payload ≡ []) × (frames ≡ [])) ⊎ ((fs : List Frame) × IsAmrWb octet (bits_of payload) fs × (frames ≡ canonicals fs))

-- the payload sent for a frame is spelled so
abbrev pub SentIsSpelled : Type 0
SentIsSpelled = (octet : Bool) (f : Frame) → IsFrame f → IsAmrWb octet (payload octet f) (f ∷ [])
