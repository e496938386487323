-- What sent payloads report about pictures.
use Rattle.std.proofs.Common.{◌≡◌, ◌∙◌, ap, refl, subst, ℕ, ◌+◌, ◌<◌, ◌^◌, List, ◌∷◌, ◌++◌, length, Bool, true, false, Option, Some, Ok}
use Rattle.codec_payload_base.specs.Extended.{extended}
use Rattle.codec_payload_base.specs.PictureIds.{extended_by, id_bytes, take_id}
use Rattle.codec_payload_base.specs.declared.interface.CodecExtra.{CodecExtra}
use Rattle.codec_payload_base.specs.declared.interface.CodecExtra.TheVariants as extras
use Rattle.codec_payload_base.specs.declared.interface.Vp9CodecExtra.{Vp9CodecExtra}
use Rattle.codec_payload_base.specs.declared.interface.Vp9PacketizerMode.TheVariants.{Flexible, NonFlexible}
use Rattle.codec_payload_base.specs.declared.picture_id.PictureId.{PictureId}
use Rattle.codec_payload_base.specs.declared.picture_id.PictureId.TheVariants.{Long}
use Rattle.codec_payload_base.proofs.PictureIdLemmas.{takes_spelled}
use Rattle.codec_payload_vp9.proofs.SentIsTakenLemmas.{StepFromId, flagged, from_id}
use Rattle.codec_payload_vp9.specs.Vp9Fields.{Fields}
use Rattle.codec_payload_vp9.specs.Vp9Reading.{then_read, read_head}
use Rattle.codec_payload_vp9.specs.Vp9Received.{AppendedIf, Vp9Step, extra_of, is_misplaced, told_before}
use Rattle.codec_payload_vp9.specs.Vp9Sent.{header_in}

-- the picture id and the id of the base layer were read, and are reported for the base layer's frame
pub record TellsBoth (d : Fields) (id tl0 : ℕ) (after : Fields) (extra : CodecExtra) : Type 0 where
  pub told : Vp9CodecExtra
  pub is : extra ≡ extras.Vp9 told
  pub picture : told.picture_id ≡ Some (extended_by d.extended_pid d.picture_id (Long id))
  pub base : told.tl0_picture_id ≡ Some (extended 256 d.extended_tl0picidx tl0)
  pub layer : told.tid ≡ Some 0
  pub last : after.picture_id ≡ id
  pub extended_last : after.extended_pid ≡ Some (extended_by d.extended_pid d.picture_id (Long id))

-- the codec-specific data of an accepted payload
taken_extra : (misplaced : Bool) (after : Fields) (piece out : List ℕ) (extra : CodecExtra) (x : Unit {0}) (out' : List ℕ) (extra' : CodecExtra)
    → AppendedIf misplaced after piece out extra (Ok x) out' extra' → extra' ≡ extras.Vp9 (extra_of after (length out + length piece) (told_before extra))
taken_extra true after piece out extra x out' extra' a = let no = a.0 in absurd (cc)
taken_extra false after piece out extra x out' extra' a = a.1

module _ (d : Fields) (id tl0 : ℕ) (small : id < 2 ^ 15) (piece out : List ℕ) (extra : CodecExtra) (x : Unit {0}) (after : Fields) (out' : List ℕ) (extra' : CodecExtra) where
  plain_tells : (p first e : Bool) → StepFromId (flagged d p true false first e false) (take_id (id_bytes (Long id) ++ 16 ∷ tl0 ∷ piece)) out extra (Ok x) after out' extra'
      → TellsBoth d id tl0 after extra'
  plain_tells p first e step =
      let d0 = flagged d p true false first e false in
      let known : StepFromId d0 (Some (Long id, 16 ∷ tl0 ∷ piece)) out extra (Ok x) after out' extra' =
      subst (λ (o : Option (PictureId × List ℕ)). StepFromId d0 o out extra (Ok x) after out' extra') (takes_spelled (Long id) (16 ∷ tl0 ∷ piece) small) step in
      let fields = (then_read (from_id d0 (Some (Long id, 16 ∷ tl0 ∷ piece))) read_head).fields in
      let is = taken_extra (is_misplaced after (length out) (told_before extra)) after piece out extra x out' extra' known.2 in
      record {
        told = extra_of fields (length out + length piece) (told_before extra);
        is = is ∙ ap (λ (f : Fields). extras.Vp9 (extra_of f (length out + length piece) (told_before extra))) known.0;
        picture = refl;
        base = refl;
        layer = refl;
        last = ap (λ (f : Fields). f.picture_id) known.0;
        extended_last = ap (λ (f : Fields). f.extended_pid) known.0;
      }

  structure_tells : (p first e : Bool) → StepFromId (flagged d p true false first e true) (take_id (id_bytes (Long id) ++ 16 ∷ tl0 ∷ 0 ∷ piece)) out extra (Ok x) after out' extra'
      → TellsBoth d id tl0 after extra'
  structure_tells p first e step =
      let d0 = flagged d p true false first e true in
      let known : StepFromId d0 (Some (Long id, 16 ∷ tl0 ∷ 0 ∷ piece)) out extra (Ok x) after out' extra' =
      subst (λ (o : Option (PictureId × List ℕ)). StepFromId d0 o out extra (Ok x) after out' extra') (takes_spelled (Long id) (16 ∷ tl0 ∷ 0 ∷ piece) small) step in
      let fields = (then_read (from_id d0 (Some (Long id, 16 ∷ tl0 ∷ 0 ∷ piece))) read_head).fields in
      let is = taken_extra (is_misplaced after (length out) (told_before extra)) after piece out extra x out' extra' known.2 in
      record {
        told = extra_of fields (length out + length piece) (told_before extra);
        is = is ∙ ap (λ (f : Fields). extras.Vp9 (extra_of f (length out + length piece) (told_before extra))) known.0;
        picture = refl;
        base = refl;
        layer = refl;
        last = ap (λ (f : Fields). f.picture_id) known.0;
        extended_last = ap (λ (f : Fields). f.extended_pid) known.0;
      }

  -- each packet of the non-flexible mode reports both
  pub sent_tells : (key first last : Bool) → Vp9Step d (header_in NonFlexible key id tl0 first last ++ piece) out extra (Ok x) after out' extra' → TellsBoth d id tl0 after extra'
  sent_tells true true true step = structure_tells false true true step
  sent_tells true true false step = structure_tells false true false step
  sent_tells true false true step = plain_tells false false true step
  sent_tells true false false step = plain_tells false false false step
  sent_tells false true true step = plain_tells true true true step
  sent_tells false true false step = plain_tells true true false step
  sent_tells false false true step = plain_tells true false true step
  sent_tells false false false step = plain_tells true false false step

  -- a packet of the flexible mode leaves the id of the base layer as it was reported before
  abbrev pub KeepsBase : Type 0
  KeepsBase = (told : Vp9CodecExtra) × (extra' ≡ extras.Vp9 told) × (told.tl0_picture_id ≡ (told_before extra).tl0_picture_id)

  flexible_keeps : (first e : Bool) → StepFromId (flagged d false false true first e false) (take_id (id_bytes (Long id) ++ piece)) out extra (Ok x) after out' extra' → KeepsBase
  flexible_keeps first e step =
      let d0 = flagged d false false true first e false in
      let known : StepFromId d0 (Some (Long id, piece)) out extra (Ok x) after out' extra' =
      subst (λ (o : Option (PictureId × List ℕ)). StepFromId d0 o out extra (Ok x) after out' extra') (takes_spelled (Long id) piece small) step in
      let fields = (then_read (from_id d0 (Some (Long id, piece))) read_head).fields in
      let is = taken_extra (is_misplaced after (length out) (told_before extra)) after piece out extra x out' extra' known.2 in
      (extra_of fields (length out + length piece) (told_before extra), is ∙ ap (λ (f : Fields). extras.Vp9 (extra_of f (length out + length piece) (told_before extra))) known.0, refl)

  pub sent_keeps_base : (key first last : Bool) → Vp9Step d (header_in Flexible key id tl0 first last ++ piece) out extra (Ok x) after out' extra' → KeepsBase
  sent_keeps_base key true true step = flexible_keeps true true step
  sent_keeps_base key true false step = flexible_keeps true false step
  sent_keeps_base key false true step = flexible_keeps false true step
  sent_keeps_base key false false step = flexible_keeps false false step
