-- AV1 frames into packets and back: the results of calls.
use Rattle.std.specs.Prelude.{◌≡◌, ◌≢◌, ℕ, ◌<◌, ◌≤◌, ◌||◌, Bool, true, false, List, [], ◌∷◌, ◌++◌, Option, Some, None, Result, Ok, Err, length, take, nat_le, if◌then◌else◌, ⊤}
use Rattle.std.specs.List.{flat_map}
use Rattle.codec_payload_base.specs.declared.error.PacketError.{PacketError}
use Rattle.codec_payload_base.specs.declared.error.PacketError.TheVariants as faults
use Rattle.codec_payload_base.specs.declared.interface.CodecExtra.{CodecExtra}
use Rattle.codec_payload_base.specs.declared.interface.CodecExtra.TheVariants as extras
use Rattle.codec_payload_av1.specs.Av1Obu.{Obu, IsSequence, has_bit, kept, strings_of, starts_sequence, canonical, canonical_unit, frame_kept}
use Rattle.codec_payload_av1.specs.Av1Payload.{is_head}
use Rattle.codec_payload_av1.specs.Av1Packing.{Packs, reach, AreSent}
use Rattle.codec_payload_av1.specs.Av1Receiving.{received, all_received}

-- ---- sending

-- from any state of a receiver the packets give the canonical unit
abbrev pub ComesBack : List Obu → List (List ℕ) → Type 0
ComesBack obus packets = (pending : List ℕ) → (end : List ℕ) × (all_received pending packets ≡ Some (canonical_unit obus, end))

-- and the last of them, from a head on, a nonempty last part of the kept OBUs
abbrev pub LastComeBack : List Obu → List (List ℕ) → Type 0
LastComeBack obus packets =
    (front : List (List ℕ)) (packet : List ℕ) (behind : List (List ℕ)) → packets ≡ front ++ packet ∷ behind → is_head packet ≡ true
    → (pending : List ℕ) → (first : List Obu) × (last : List Obu) × (end : List ℕ) × (kept obus ≡ first ++ last) × (0 < length last)
    × (all_received pending (packet ∷ behind) ≡ Some (flat_map canonical last, end))

-- these are the packets in which the kept OBUs of a frame are sent
pub record IsSentFrame (mtu : ℕ) (frame : List ℕ) (packets : List (List ℕ)) : Type 0 where
  pub obus : List Obu
  pub sequence : IsSequence obus frame
  pub sent : AreSent mtu (starts_sequence (kept obus)) (strings_of obus) packets
  pub comes_back : ComesBack obus packets
  pub last_come_back : LastComeBack obus packets

-- whether a frame is a sequence of OBUs without a kept one
abbrev pub keeps_nothing : Option (List Obu) → Bool
keeps_nothing None = false
keeps_nothing (Some []) = true
keeps_nothing (Some (o ∷ os)) = false

-- whether a frame gives no packets and no fault: the MTU leaves no room for a byte after the aggregation header, or none of its
-- OBUs is kept, as in an empty frame
abbrev pub av1_is_skipped : ℕ → List ℕ → Bool
av1_is_skipped mtu frame = nat_le mtu 1 || keeps_nothing (frame_kept frame)

abbrev pub refusal_of_kept : Option (List Obu) → Option PacketError
refusal_of_kept None = Some faults.ErrAv1CorruptedPacket
refusal_of_kept (Some os) = None

-- the fault with which a frame is refused, if it is; out of memory is not such a fault
abbrev pub av1_refusal : ℕ → List ℕ → Option PacketError
av1_refusal mtu frame = if nat_le mtu 1 then None else refusal_of_kept (frame_kept frame)

-- the fault, if there is one, else out of memory
abbrev pub IsFault : Option PacketError → PacketError → Type 0
IsFault None fault = fault ≡ faults.OutOfMemory
IsFault (Some refusal) fault = fault ≡ refusal

-- The result of the packetizer: no packets for a skipped frame; the fault of a refused frame; else the packets of the frame, or out
-- of memory.
abbrev pub AnswersAv1 : ℕ → List ℕ → Result (List (List ℕ)) PacketError → Type 0
AnswersAv1 mtu frame (Ok packets) = (av1_is_skipped mtu frame ≡ true → packets ≡ []) × (av1_is_skipped mtu frame ≡ false → IsSentFrame mtu frame packets)
AnswersAv1 mtu frame (Err fault) = (av1_is_skipped mtu frame ≡ false) × IsFault (av1_refusal mtu frame) fault

-- No list of payloads of at most the MTU that represents the same strings is shorter.
abbrev pub IsLeast : ℕ → List ℕ → List (List ℕ) → Type 0
IsLeast mtu frame packets = (obus : List Obu) → IsSequence obus frame → (others : List (List ℕ)) → Packs mtu others (strings_of obus) → length packets ≤ length others

-- Each packet reaches at least as far into the strings as the packet at its place in any such list.
abbrev pub ReachesFurthest : ℕ → List ℕ → List (List ℕ) → Type 0
ReachesFurthest mtu frame packets = (obus : List Obu) → IsSequence obus frame → (others : List (List ℕ)) → Packs mtu others (strings_of obus)
    → (count : ℕ) → reach (take count others) ≤ reach (take count packets)

-- ---- receiving

-- N: a coded video sequence starts
abbrev pub is_keyframe : List ℕ → Bool
is_keyframe [] = false
is_keyframe (header ∷ bytes) = has_bit 8 header

-- the codec-specific data before the call reports a keyframe
abbrev pub was_keyframe : CodecExtra → Bool
was_keyframe (extras.Av1 extra) = extra.is_keyframe
was_keyframe _ = false

abbrev pub extra_of : List ℕ → CodecExtra → CodecExtra
extra_of payload before = extras.Av1 (record { is_keyframe = is_keyframe payload || was_keyframe before })

-- why a payload is refused: out of memory only for a payload that could be received
abbrev pub IsRefusedPayload : PacketError → List ℕ → List ℕ → Type 0
IsRefusedPayload faults.ErrShortPacket pending payload = payload ≡ []
IsRefusedPayload faults.ErrAv1CorruptedPacket pending payload = (0 < length payload) × (received pending payload ≡ None)
IsRefusedPayload faults.OutOfMemory pending payload = received pending payload ≢ None
IsRefusedPayload _ pending payload = ⊥

-- The bytes that a payload appends, and the bytes pending then; or why it is refused.
abbrev pub TakesPayload : Result ⊤ PacketError → List ℕ → List ℕ → List ℕ → List ℕ → List ℕ → Type 0
TakesPayload (Ok _) pending payload out out' after = (added : List ℕ) × (received pending payload ≡ Some (added, after)) × (out' ≡ out ++ added)
TakesPayload (Err fault) pending payload out out' after = IsRefusedPayload fault pending payload

-- One payload: the pending bytes, the payload, the output and the codec-specific data before; the result; the pending bytes, the
-- output and the codec-specific data afterwards. After a refusal nothing is pending, and all else is unchanged.
abbrev pub Av1Step : List ℕ → List ℕ → List ℕ → CodecExtra → Result ⊤ PacketError → List ℕ → List ℕ → CodecExtra → Type 0
Av1Step pending payload out extra (Ok _) after out' extra' =
    (added : List ℕ) × (received pending payload ≡ Some (added, after)) × (out' ≡ out ++ added) × (extra' ≡ extra_of payload extra)
Av1Step pending payload out extra (Err fault) after out' extra' = IsRefusedPayload fault pending payload × (after ≡ []) × (out' ≡ out) × (extra' ≡ extra)
