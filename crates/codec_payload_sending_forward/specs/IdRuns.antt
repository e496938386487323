-- The ids of the last picture of a source, over several calls.
use Rattle.std.specs.Prelude.{◌≡◌, ◌⊎◌, ℕ, ◌+◌, ◌%◌, ◌<◌, ◌≤◌, false, List, [], ◌∷◌, ◌++◌, Option, Some, None, option_map}
use Rattle.codec_payload_base.specs.PictureIds.{FitsWidth, id_range, id_value}
use Rattle.codec_payload_base.specs.declared.picture_id.PictureId.{PictureId}
use Rattle.codec_payload_rtp.specs.RtpPackets.{Packet}
use Rattle.codec_payload_sending_forward.specs.Forwarding.{Forward, after_written, ids_in, ids_left, offsets_for, picture_of}
use Rattle.codec_payload_sending_forward.specs.Ids.{id_offset, moved_ids, moved_picture}
use Rattle.codec_payload_sending_forward.specs.Numbers.{after_packet, is_too_old}

-- what is done with a packet of the source: it is written under its number, or left out above all others
pub data IdCall : Type 0 where
  Writes : (now number : ℕ) → Packet → IdCall
  LeavesOut : (number : ℕ) → Packet → IdCall

abbrev pub after_id_call : IdCall → Forward → Forward
after_id_call (Writes now n p) f = after_written now n p f
after_id_call (LeavesOut n p) f = record f { numbers = after_packet n false f.numbers; ids = ids_left f.settings.codec n p.payload f.ids }

-- the forwarder after calls, the latest of which is the first of the list
abbrev pub after_id_calls : List IdCall → Forward → Forward
after_id_calls [] f = f
after_id_calls (call ∷ calls) f = after_id_call call (after_id_calls calls f)

-- the picture id of a packet as it is sent, if its payload has one
abbrev pub sent_id : Forward → ℕ → Packet → Option ℕ
sent_id f n p = picture_of (option_map (moved_ids (offsets_for f.settings.codec f.ids n)) (ids_in f.settings.codec p.payload))

-- the number of a packet of the source, and the picture id that it was sent with
pub record SentId : Type 0 where
  pub number : ℕ
  pub id : ℕ

abbrev pub with_sent : ℕ → Option ℕ → List SentId → List SentId
with_sent n None xs = xs
with_sent n (Some id) xs = record { number = n; id = id } ∷ xs

-- the packets that were written, and before them the first packet of the source
abbrev pub sent_ids : List IdCall → SentId → Forward → List SentId
sent_ids [] first f = first ∷ []
sent_ids (Writes now n p ∷ calls) first f = with_sent n (sent_id (after_id_calls calls f) n p) (sent_ids calls first f)
sent_ids (LeavesOut n p ∷ calls) first f = sent_ids calls first f

-- a packet that is written has a place and a picture id; a packet that is left out is above all others
abbrev pub CanBeCalled : List IdCall → Forward → Type 0
CanBeCalled [] f = Unit {0}
CanBeCalled (Writes now n p ∷ calls) f =
    CanBeCalled calls f × (is_too_old (after_id_calls calls f).numbers n ≡ false) × ((id : ℕ) × (sent_id (after_id_calls calls f) n p ≡ Some id))
CanBeCalled (LeavesOut n p ∷ calls) f = CanBeCalled calls f × ((after_id_calls calls f).numbers.highest < n)

abbrev pub IsAmong : SentId → List SentId → Type 0
IsAmong x [] = ⊥
IsAmong x (y ∷ ys) = (x ≡ y) ⊎ IsAmong x ys

abbrev pub AreUpTo : ℕ → List SentId → Type 0
AreUpTo n [] = Unit {0}
AreUpTo n (x ∷ xs) = (x.number ≤ n) × AreUpTo n xs

-- the last picture id is that of a packet that was sent, and no packet that was sent has a higher number
pub record IsLatest (f : Forward) (xs : List SentId) : Type 0 where
  pub latest : SentId
  pub sent : IsAmong latest xs
  pub highest : AreUpTo latest.number xs
  pub number : f.latest ≡ latest.number
  pub id : f.ids.picture ≡ latest.id

-- whatever was lost, left out, or came late
abbrev pub KeepsLatestId : Type 0
KeepsLatestId =
    (f : Forward) (first : SentId) (calls : List IdCall) → f.latest ≡ first.number → f.ids.picture ≡ first.id → f.latest ≤ f.numbers.highest → CanBeCalled calls f
    → IsLatest (after_id_calls calls f) (sent_ids calls first f)

-- the first picture of the next source has the id after it, in its width
abbrev pub FollowsLatestId : Type 0
FollowsLatestId =
    (last : ℕ) (id : PictureId) → last < 65536 → FitsWidth id → id_value (moved_picture (id_offset last (Some id)) id) ≡ (last + 1) % id_range id
