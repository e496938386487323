-- The last picture id is that of the highest packet that was sent.
use Rattle.std.proofs.Common.{inl, inr, ◌≡◌, ◌∙◌, sym, refl, ap, subst, ℕ, ◌+◌, ◌-◌, ◌%◌, ◌<◌, ◌≤◌, ◌||◌, max, leb, ltb, Bool, true, false, List, [], ◌∷◌, length, Option, Some, None, arith}
use Rattle.std.specs.Prelude.{◌⊎◌, option_map}
use Rattle.std.proofs.lemmas.Bool.{cases_lt, le-ltb, lt-ltb}
use Rattle.std.proofs.lemmas.Option.{same_Some}
use Rattle.codec_payload_base.specs.PictureIds.{FitsWidth, id_range, id_value}
use Rattle.codec_payload_base.specs.declared.picture_id.PictureId.{PictureId}
use Rattle.codec_payload_base.specs.declared.picture_id.PictureId.TheVariants.{Long, Short}
use Rattle.codec_payload_rtp.specs.RtpPackets.{Packet}
use Rattle.codec_payload_sending_forward.specs.Forwarding.{Forward, after_written, ids_after, ids_in, ids_late, ids_left, ids_when, offsets_for, picture_of, closing_id}
use Rattle.codec_payload_sending_forward.specs.IdRuns.{AreUpTo, CanBeCalled, FollowsLatestId, IdCall, IsAmong, IsLatest, KeepsLatestId, SentId, after_id_call, after_id_calls, sent_id, sent_ids, with_sent}
use Rattle.codec_payload_sending_forward.specs.IdRuns.IdCall.{LeavesOut, Writes}
use Rattle.codec_payload_sending_forward.specs.Ids.{Ids, after_picture, after_sent, id_offset, id_to_leave, left_picture, moved_ids, moved_picture, picture_closed, picture_replaced}
use Rattle.codec_payload_sending_forward.specs.Numbers.{Numbers, after_packet, closed, is_too_old, without_lowest}
use Rattle.codec_payload_sending_forward.specs.declared.ids.IdOffsets.{IdOffsets}
use Rattle.codec_payload_sending_forward.specs.declared.ids.PayloadIds.{PayloadIds}

-- ---- the map of numbers

record IsHighest (m t : Numbers) (n : ℕ) : Type 0 where
  stays : m.highest ≤ t.highest
  covers : n ≤ t.highest

written_highest : (m : Numbers) (n : ℕ) → is_too_old m n ≡ false → IsHighest m (after_packet n true m) n
written_highest m n young = by (cases_lt m.highest n)
  where
    by : (m.highest < n) ⊎ (n ≤ m.highest) → IsHighest m (after_packet n true m) n
    by (inl up) = rw (young, lt-ltb m.highest n up) (record { stays = omega (arith, up); covers = omega arith })
    by (inr low) = rw (young, le-ltb m.highest n low) (record { stays = omega arith; covers = low })

closed_highest : (m : Numbers) (n : ℕ) → (closed n m).highest ≡ n
closed_highest m n = by (ltb (length m.left_out) 4096) refl
  where
    by : (b : Bool) → ltb (length m.left_out) 4096 ≡ b → (closed n m).highest ≡ n
    by true e = rw e refl
    by false e = rw e refl

left_highest : (m : Numbers) (n : ℕ) → m.highest < n → m.highest ≤ (after_packet n false m).highest
left_highest m n up = by (is_too_old m n) refl
  where
    by : (old : Bool) → is_too_old m n ≡ old → m.highest ≤ (after_packet n false m).highest
    by true e = rw e (omega arith)
    by false e = rw (e, lt-ltb m.highest n up) (omega (arith, up, closed_highest m n))

-- ---- the map of ids

left_same : (n : ℕ) (id : Option ℕ) (m : Ids) → (picture_closed n id m).picture ≡ m.picture
left_same n None m = refl
left_same n (Some id) m = by (ltb (length m.left_out) 4096) refl
  where
    by : (b : Bool) → ltb (length m.left_out) 4096 ≡ b → (picture_closed n (Some id) m).picture ≡ m.picture
    by true e = rw e refl
    by false e = rw e refl

sent_picture : (o : IdOffsets) (ids : Option PayloadIds) (m : Ids) (id : ℕ) → picture_of (option_map (moved_ids o) ids) ≡ Some id → (after_sent o ids m).picture ≡ id
sent_picture o None m id is = absurd (cc)
sent_picture o (Some ids) m id is = by (option_map id_value (moved_ids o ids).picture_id) refl
  where
    by : (picture : Option ℕ) → option_map id_value (moved_ids o ids).picture_id ≡ picture → (after_sent o (Some ids) m).picture ≡ id
    by None e = absurd (let none : ◌≡◌ {A = Option ℕ} None (Some id) = sym e ∙ is in cc)
    by (Some n) e = rw e (same_Some n id (sym e ∙ is))

written_picture : (ahead : Bool) (f : Forward) (n : ℕ) (p : Packet) (id : ℕ) → sent_id f n p ≡ Some id → (ids_when ahead true f.settings.codec n p.payload f.ids).picture ≡ id
written_picture true f n p id is = sent_picture (offsets_for f.settings.codec f.ids n) (ids_in f.settings.codec p.payload) (record f.ids { leaving = None }) id is
written_picture false f n p id is = sent_picture (offsets_for f.settings.codec f.ids n) (ids_in f.settings.codec p.payload) f.ids id is

-- ---- calls

up_to_more : (m n : ℕ) (xs : List SentId) → m ≤ n → AreUpTo m xs → AreUpTo n xs
up_to_more m n [] up all = tt
up_to_more m n (x ∷ xs) up all = (omega (arith, up, all.0), up_to_more m n xs up all.1)

record Holds (f : Forward) (xs : List SentId) : Type 0 where
  latest : IsLatest f xs
  below : f.latest ≤ f.numbers.highest

module _ (f : Forward) (xs : List SentId) (now n : ℕ) (p : Packet) (id : ℕ) (holds : Holds f xs) (young : is_too_old f.numbers n ≡ false) (is : sent_id f n p ≡ Some id) where
  above_written : f.latest < n → Holds (after_written now n p f) (record { number = n; id = id } ∷ xs)
  above_written up = record {
    latest = record {
      latest = record { number = n; id = id };
      sent = inl refl;
      highest = (omega arith, up_to_more holds.latest.latest.number n xs (omega (arith, up, holds.latest.number)) holds.latest.highest);
      number = omega (arith, up);
      id = ap (λ (later : Bool). (ids_when (ltb f.numbers.highest n) later f.settings.codec n p.payload f.ids).picture) (lt-ltb f.latest n up)
          ∙ written_picture (ltb f.numbers.highest n) f n p id is;
    };
    below = omega (arith, holds.below, (written_highest f.numbers n young).stays, (written_highest f.numbers n young).covers);
  }

  below_written : n ≤ f.latest → Holds (after_written now n p f) (record { number = n; id = id } ∷ xs)
  below_written low = record {
    latest = record {
      latest = holds.latest.latest;
      sent = inr holds.latest.sent;
      highest = (omega (arith, low, holds.latest.number), holds.latest.highest);
      number = omega (arith, low, holds.latest.number);
      id = ap (λ (ahead : Bool). (ids_when ahead (ltb f.latest n) f.settings.codec n p.payload f.ids).picture) (le-ltb f.numbers.highest n (omega (arith, low, holds.below)))
          ∙ (ap (λ (later : Bool). (ids_late later f.settings.codec n p.payload f.ids).picture) (le-ltb f.latest n low) ∙ holds.latest.id);
    };
    below = omega (arith, low, holds.below, (written_highest f.numbers n young).stays);
  }

  written : Holds (after_written now n p f) (with_sent n (sent_id f n p) xs)
  written = subst (λ (o : Option ℕ). Holds (after_written now n p f) (with_sent n o xs)) (sym is) (by (cases_lt f.latest n))
    where
      by : (f.latest < n) ⊎ (n ≤ f.latest) → Holds (after_written now n p f) (record { number = n; id = id } ∷ xs)
      by (inl up) = above_written up
      by (inr low) = below_written low

left_out : (f : Forward) (xs : List SentId) (n : ℕ) (p : Packet) → Holds f xs → f.numbers.highest < n → Holds (after_id_call (LeavesOut n p) f) xs
left_out f xs n p holds up = record {
  latest = record {
    latest = holds.latest.latest;
    sent = holds.latest.sent;
    highest = holds.latest.highest;
    number = holds.latest.number;
    id = left_same n (id_to_leave f.ids n (closing_id f.settings.codec p.payload)) f.ids ∙ holds.latest.id;
  };
  below = omega (arith, holds.below, left_highest f.numbers n up);
}

holds_after : (f : Forward) (first : SentId) (calls : List IdCall) → f.latest ≡ first.number → f.ids.picture ≡ first.id → f.latest ≤ f.numbers.highest → CanBeCalled calls f
    → Holds (after_id_calls calls f) (sent_ids calls first f)
holds_after f first [] number id below can =
    record { latest = record { latest = first; sent = inl refl; highest = (omega arith, tt); number = number; id = id }; below = below }
holds_after f first (Writes now n p ∷ calls) number id below can =
    let before = holds_after f first calls number id below can.0 in
    written (after_id_calls calls f) (sent_ids calls first f) now n p can.2.0 before can.1 can.2.1
holds_after f first (LeavesOut n p ∷ calls) number id below can =
    left_out (after_id_calls calls f) (sent_ids calls first f) n p (holds_after f first calls number id below can.0) can.1

pub keeps_latest_id : KeepsLatestId
keeps_latest_id f first calls number id below can = (holds_after f first calls number id below can).latest

pub follows_latest_id : FollowsLatestId
follows_latest_id last (Short n) small fits = omega (arith, small, fits)
follows_latest_id last (Long n) small fits = omega (arith, small, fits)
