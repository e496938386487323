-- Received AMR-WB payloads, read in order.
use Rattle.std.specs.Prelude.{◌≡◌, ◌≢◌, ℕ, ◌+◌, ◌*◌, ◌<◌, ◌==◌, nat_lt, ⊤, Bool, true, false, if◌then◌else◌, List, [], ◌∷◌, ◌++◌, length, take, drop, Option, Some, None, Result, Ok, Err, refl}
use Rattle.codec_payload_base.specs.Bits.{bits, bits_of, bytes_of}
use Rattle.codec_payload_base.specs.declared.error.PacketError.{PacketError}
use Rattle.codec_payload_base.specs.declared.error.PacketError.TheVariants as faults
use Rattle.codec_payload_base.specs.declared.interface.CodecExtra.{CodecExtra}
use Rattle.codec_payload_audio.specs.AmrWb.{Frame, speech_size, canonical, payload, gap}

-- an entry of the table of contents: the type and the quality
pub record Entry : Type 0 where
  pub kind : ℕ
  pub quality : ℕ

-- the entries before the ones that were read, or the fault
abbrev pub with_front : List Entry → Result (List Entry × List ℕ) PacketError → Result (List Entry × List ℕ) PacketError
with_front es (Ok x) = Ok (es ++ x.0, x.1)
with_front es (Err e) = Err e

abbrev pub entry_from : ℕ → ℕ → ℕ → ℕ → ℕ → Entry
entry_from a b c d q = record { kind = 8 * a + 4 * b + 2 * c + d; quality = q }

-- only the entry if its first bit is 0, else it and the ones after it
abbrev pub entry_then : ℕ → Entry → List ℕ → Result (List Entry × List ℕ) PacketError → Result (List Entry × List ℕ) PacketError
entry_then f e rest more = if f == 0 then Ok (e ∷ [], rest) else with_front (e ∷ []) more

-- the entries up to the first whose first bit is 0, and the bits after them; if octet-aligned, two bits after each are skipped
unfoldable pub entries_at : Bool → List ℕ → Result (List Entry × List ℕ) PacketError
entries_at false (f ∷ a ∷ b ∷ c ∷ d ∷ q ∷ rest) = entry_then f (entry_from a b c d q) rest (entries_at false rest)
entries_at true (f ∷ a ∷ b ∷ c ∷ d ∷ q ∷ r ∷ s ∷ rest) = entry_then f (entry_from a b c d q) rest (entries_at true rest)
entries_at octet bs = Err faults.ErrShortPacket

abbrev pub with_frame : List ℕ → Result (List ℕ × List ℕ) PacketError → Result (List ℕ × List ℕ) PacketError
with_frame frame (Ok x) = Ok (frame ++ x.0, x.1)
with_frame frame (Err e) = Err e

-- the output of one frame, and the bits after it; if octet-aligned, its rest up to a byte is skipped
abbrev pub frame_at : Bool → Entry → List ℕ → Option ℕ → Result (List ℕ × List ℕ) PacketError
frame_at octet e bs None = Err faults.ErrAmrWbCorruptedPacket
frame_at octet e bs (Some n) =
    if nat_lt (length bs) n then Err faults.ErrShortPacket else Ok (canonical (record { kind = e.kind; quality = e.quality; speech = take n bs }), drop (if octet then n + gap n else n) bs)

abbrev pub then_frames : Result (List ℕ × List ℕ) PacketError → (List ℕ → Result (List ℕ × List ℕ) PacketError) → Result (List ℕ × List ℕ) PacketError
then_frames (Err e) more = Err e
then_frames (Ok x) more = with_frame x.0 (more x.1)

-- the canonical form of each frame, one after another, and the bits after them
unfoldable pub frames_at : Bool → List Entry → List ℕ → Result (List ℕ × List ℕ) PacketError
frames_at octet [] bs = Ok ([], bs)
frames_at octet (e ∷ es) bs = then_frames (frame_at octet e bs (speech_size e.kind)) (λ rest. frames_at octet es rest)

-- fewer than 8 bits may remain
abbrev pub whole : Result (List ℕ × List ℕ) PacketError → Result (List ℕ) PacketError
whole (Err e) = Err e
whole (Ok x) = if nat_lt (length x.1) 8 then Ok x.0 else Err faults.ErrAmrWbCorruptedPacket

abbrev pub behind_entries : Bool → Result (List Entry × List ℕ) PacketError → Result (List ℕ) PacketError
behind_entries octet (Err e) = Err e
behind_entries octet (Ok x) = whole (frames_at octet x.0 x.1)

-- the frames that the bits of a payload carry, or their fault; no bits carry nothing
unfoldable pub received : Bool → List ℕ → Result (List ℕ) PacketError
received octet [] = Ok []
received octet (b ∷ bs) = behind_entries octet (entries_at octet (drop (if octet then 8 else 4) (b ∷ bs)))

-- the bits begin with a whole table of contents
abbrev pub HasEntries : Bool → List ℕ → Type 0
HasEntries octet bs = (x : List Entry × List ℕ) × (entries_at octet bs ≡ Ok x)

-- the frames of the entries that were read, from the bits after them
abbrev pub frames_of : Bool → Result (List Entry × List ℕ) PacketError → List ℕ → Result (List ℕ × List ℕ) PacketError
frames_of octet (Err e) bs = Err e
frames_of octet (Ok x) bs = frames_at octet x.0 bs

-- any fault except out of memory is the fault of reading
abbrev pub FailsAs : {X : Type 0} → PacketError → Result X PacketError → Type 0
FailsAs fault r = fault ≢ faults.OutOfMemory → r ≡ Err fault

-- something may have been appended
abbrev pub Extends : List ℕ → List ℕ → Type 0
Extends old new = (more : List ℕ) × (new ≡ old ++ more)

-- the bytes that were read are appended to out
abbrev pub Gains : List ℕ → List ℕ → List ℕ → Result (List ℕ × List ℕ) PacketError → Type 0
Gains old new rest (Ok x) = (bits_of new ≡ bits_of old ++ x.0) × (rest ≡ x.1)
Gains old new rest (Err e) = ⊥

-- missing bits, or no memory
abbrev pub IsCopyFault : List ℕ → ℕ → PacketError → Type 0
IsCopyFault bs count fault = fault ≢ faults.OutOfMemory → (fault ≡ faults.ErrShortPacket) × (length bs < count)

-- the fault with which a payload is refused: the fault of reading; out of memory only if reading succeeds and there are bytes
abbrev pub IsRefusal : PacketError → List ℕ → Result (List ℕ) PacketError → Type 0
IsRefusal fault payload (Ok frames) = (fault ≡ faults.OutOfMemory) × (0 < length payload)
IsRefusal fault payload (Err e) = fault ≡ e

-- one payload: the bytes and the codec-specific data before, the result, and both afterwards. The frames in the payload's bits are
-- appended as bytes. On a fault nothing changes; it is the fault of reading, or out of memory if there are frames
abbrev pub AmrWbStep : Bool → List ℕ → List ℕ → CodecExtra → Result ⊤ PacketError → List ℕ → CodecExtra → Type 0
AmrWbStep octet payload out extra (Ok _) out' extra' =
    (frames : List ℕ) × (received octet (bits_of payload) ≡ Ok frames) × (out' ≡ out ++ bytes_of frames) × (extra' ≡ extra)
AmrWbStep octet payload out extra (Err fault) out' extra' = IsRefusal fault payload (received octet (bits_of payload)) × (out' ≡ out) × (extra' ≡ extra)

-- the payload of a frame that is sent carries its canonical form
abbrev pub CarriesCanonical : Bool → Option Frame → List (List ℕ) → Type 0
CarriesCanonical octet f [] = ⊤
CarriesCanonical octet None (packet ∷ packets) = ⊤
CarriesCanonical octet (Some f) (packet ∷ packets) = received octet (bits_of packet) ≡ Ok (canonical f)

-- a frame without speech is its first byte
pub canonical-lost : bytes_of (canonical (record { kind = 14; quality = 1; speech = [] })) ≡ 0x74 ∷ []
unfolding bits bytes_of
canonical-lost = refl
