-- The definitions of the buffer, for a few packets.
use Rattle.std.specs.Prelude.{◌≡◌, ℕ, Bool, true, false, List, [], ◌∷◌, Some, None, map, refl}
use Rattle.codec_payload_base.specs.Extensions.{no_values}
use Rattle.codec_payload_codec.specs.Depacketizers.{OpusDepacketizing}
use Rattle.codec_payload_buffer.specs.Held.{Held}
use Rattle.codec_payload_buffer.specs.Frames.{frames}
use Rattle.codec_payload_buffer.specs.Steps.{State, arrived, pushed, due_of, follows, without}
use Rattle.codec_payload_buffer.specs.Stretches.{after_pushes}
use Rattle.codec_payload_buffer.specs.declared.buffer.frames.CompleteFrame.{CompleteFrame}
use Rattle.codec_payload_metadata.specs.declared.meta.RtpMeta.{RtpMeta}
use Rattle.codec_payload_contiguity.specs.declared.contiguity.Contiguity.TheVariants as kept

-- the metadata of a packet with this number and time
abbrev meta_at : ℕ → ℕ → RtpMeta
meta_at number time = record {
  received = record { 0 = 0 };
  time = record { numer = time; rate = 48000 };
  seq_no = record { 0 = number };
  header = record { payload_type = 96; sequence_number = number; timestamp = time; ssrc = 0; marker = false; ext_vals = no_values };
  last_sender_info = None;
}

-- a packet with this number and time
abbrev packet_at : ℕ → ℕ → Bool → Bool → Held
packet_at number time head tail = record { meta = meta_at number time; bytes = []; head = head; tail = tail }

-- a frame from first to last
abbrev frame_of : ℕ → ℕ → CompleteFrame
frame_of first last = record { first = first; last = last }

-- Frames: 1 to 3 from its only head. None to 4, whose row has no head. 6 to 8 from the lower of two heads. None to 10, since 9
-- has another time. 11 and 12 apart, though they have one time, since 11 ends a unit.
pub frames-some : frames (
    packet_at 1 10 true false ∷ packet_at 2 10 false false ∷ packet_at 3 10 false true ∷ packet_at 4 10 false true
    ∷ packet_at 6 20 true false ∷ packet_at 7 20 true false ∷ packet_at 8 20 false true
    ∷ packet_at 9 30 true false ∷ packet_at 10 40 false true
    ∷ packet_at 11 50 true true ∷ packet_at 12 50 true true ∷ [])
    ≡ frame_of 1 3 ∷ frame_of 6 8 ∷ frame_of 11 11 ∷ frame_of 12 12 ∷ []
frames-some = refl

-- a gap ends a row, so the frame begins after the gap
pub frames-gap : frames (packet_at 1 10 true false ∷ packet_at 3 10 true false ∷ packet_at 4 10 false true ∷ []) ≡ frame_of 3 4 ∷ []
frames-gap = refl

-- An Opus buffer that holds back one frame

abbrev opus_packet : ℕ → Held
opus_packet number = arrived OpusDepacketizing (meta_at number number) []

-- no packet was pushed
abbrev opus_start : State
opus_start = record { held = []; cutoff = None; evicted = false; contiguity = kept.None; depacketizer = OpusDepacketizing; hold_back = 1; limit = 4096 }

-- the frame of this one packet was released
abbrev after_unit : State → ℕ → State
after_unit s number = without s (frame_of number number) OpusDepacketizing kept.None false

-- 10 arrives, and is released at once, as the first frame
pub hold_back_1-first : due_of (pushed opus_start (opus_packet 10)) ≡ Some (frame_of 10 10)
hold_back_1-first = refl

abbrev opus_after_10 : State
opus_after_10 = after_unit (pushed opus_start (opus_packet 10)) 10

-- 12 arrives, and waits for 11
pub hold_back_1-waits : due_of (pushed opus_after_10 (opus_packet 12)) ≡ None
hold_back_1-waits = refl

abbrev opus_with_13 : State
opus_with_13 = after_pushes opus_after_10 (opus_packet 12 ∷ opus_packet 13 ∷ [])

-- 13 arrives, and 12 is released, which does not follow 10
pub hold_back_1-goes_on : due_of opus_with_13 ≡ Some (frame_of 12 12)
hold_back_1-goes_on = refl

pub hold_back_1-loss : follows opus_with_13 (frame_of 12 12) ≡ false
hold_back_1-loss = refl

abbrev opus_after_12 : State
opus_after_12 = after_unit opus_with_13 12

-- 11 is late
pub hold_back_1-late : pushed opus_after_12 (opus_packet 11) ≡ opus_after_12
hold_back_1-late = refl

-- 13 is released, which follows 12
pub hold_back_1-next : due_of opus_after_12 ≡ Some (frame_of 13 13)
hold_back_1-next = refl

pub hold_back_1-follows : follows opus_after_12 (frame_of 13 13) ≡ true
hold_back_1-follows = refl

-- A buffer of two packets evicts the lowest of three pushed packets, in any order

abbrev small_start : State
small_start = record opus_start { limit = 2 }

abbrev small_after : List ℕ → State
small_after numbers = after_pushes small_start (map opus_packet numbers)

pub evicts-in_order : small_after (1 ∷ 2 ∷ 3 ∷ []) ≡ record small_start { held = opus_packet 2 ∷ opus_packet 3 ∷ []; cutoff = Some 1; evicted = true }
evicts-in_order = refl

pub evicts-reversed : small_after (3 ∷ 2 ∷ 1 ∷ []) ≡ small_after (1 ∷ 2 ∷ 3 ∷ [])
evicts-reversed = refl
