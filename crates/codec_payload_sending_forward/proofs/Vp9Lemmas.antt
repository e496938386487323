-- Payloads of VP9 whose ids are moved.
use Rattle.std.proofs.Common.{◌≡◌, ◌∙◌, refl, sym, ap, subst, ℕ, suc, ◌+◌, ◌*◌, ◌%◌, List, [], ◌∷◌, ◌++◌, length, Bool, true, false, cond, ◌&&◌, Option, Some, None, append_assoc, arith}
use Rattle.std.specs.Option.{option_map}
use Rattle.std.specs.Prelude.{IfSome, is_some, not}
use Rattle.std.proofs.lemmas.List.{length-append}
use Rattle.std.proofs.lemmas.Option.{same_Some}
use Rattle.codec_payload_base.specs.Flags.{has_bit}
use Rattle.codec_payload_base.specs.PictureIds.{FitsWidth, byte_if, id_if, take_id, take_long}
use Rattle.codec_payload_base.proofs.PictureIdLemmas.{takes_spelled}
use Rattle.codec_payload_vp9.specs.Vp9Descriptor.{Descriptor, HasLayers, IsDescriptor, spelled, spelled_structure}
use Rattle.codec_payload_base.specs.declared.picture_id.PictureId.{PictureId}
use Rattle.codec_payload_base.specs.declared.picture_id.PictureId.TheVariants.{Long, Short}
use Rattle.codec_payload_sending_forward.specs.declared.ids.IdOffsets.{IdOffsets}
use Rattle.codec_payload_sending_forward.specs.Ids.{moved_ids, moved_picture, moved_tl0}
use Rattle.codec_payload_sending_forward.specs.Vp9Numbers.{Fronted, MovesIds, front_ids, front_of, has_tl0, moved_by, moved_descriptor, some_id, spelled_front, taken_byte, taken_id, then_layers, then_rest, then_tl0, vp9_payload_as, with_ids}

-- Moved ids take as many bytes

id_size : (o : ℕ) (id : Option PictureId) → length (id_if (option_map (moved_picture o) id)) ≡ length (id_if id)
id_size o None = refl
id_size o (Some (Short n)) = refl
id_size o (Some (Long n)) = refl

tl0_size : (o : ℕ) (tl0 : Option ℕ) → length (byte_if (option_map (moved_tl0 o) tl0)) ≡ length (byte_if tl0)
tl0_size o None = refl
tl0_size o (Some n) = refl

front_size : (f : Fronted) → length (spelled_front f) ≡ suc (length (id_if f.picture_id) + length (byte_if f.layers) + length (byte_if f.tl0_pic_idx) + length f.rest)
front_size f =
    omega (
      arith,
      length-append (id_if f.picture_id) (byte_if f.layers ++ (byte_if f.tl0_pic_idx ++ f.rest)),
      length-append (byte_if f.layers) (byte_if f.tl0_pic_idx ++ f.rest),
      length-append (byte_if f.tl0_pic_idx) f.rest,
    )

moved_size : (o : IdOffsets) (f : Fronted) → length (spelled_front (with_ids f (moved_ids o (front_ids f)))) ≡ length (spelled_front f)
moved_size o f =
    omega (
      arith,
      front_size (with_ids f (moved_ids o (front_ids f))),
      front_size f,
      id_size o.picture f.picture_id,
      tl0_size o.tl0 f.tl0_pic_idx,
    )

-- What was taken has as many bytes as it was taken from

abbrev IsIdSize : List ℕ → PictureId × List ℕ → Type 0
IsIdSize bytes x = length (id_if (Some x.0)) + length x.1 ≡ length bytes

id_by : (long : Bool) (first : ℕ) (rest : List ℕ) (x : PictureId × List ℕ) → cond long (take_long (first % 128) rest) (Some (Short (first % 128), rest)) ≡ Some x → IsIdSize (first ∷ rest) x
id_by false first rest x e = subst (IsIdSize (first ∷ rest)) (same_Some (Short (first % 128), rest) x e) (omega arith)
id_by true first [] x e = absurd (cc)
id_by true first (low ∷ rest) x e = subst (IsIdSize (first ∷ low ∷ rest)) (same_Some (Long (first % 128 * 256 + low), rest) x e) (omega arith)

abbrev IsTakenId : List ℕ → Option PictureId × List ℕ → Type 0
IsTakenId bytes x = length (id_if x.0) + length x.1 ≡ length bytes

some_id_size : (bytes : List ℕ) (o : Option (PictureId × List ℕ)) (x : Option PictureId × List ℕ) → take_id bytes ≡ o → some_id o ≡ Some x → IsTakenId bytes x
some_id_size bytes None x is e = absurd (cc)
some_id_size [] (Some id) x is e = absurd (cc)
some_id_size (first ∷ rest) (Some id) x is e = subst (IsTakenId (first ∷ rest)) (same_Some (Some id.0, id.1) x e) (id_by (has_bit first 7) first rest id is)

taken_id_size : (there : Bool) (bytes : List ℕ) (x : Option PictureId × List ℕ) → taken_id there bytes ≡ Some x → IsTakenId bytes x
taken_id_size false bytes x e = subst (IsTakenId bytes) (same_Some (None, bytes) x e) (omega arith)
taken_id_size true bytes x e = some_id_size bytes (take_id bytes) x refl e

abbrev IsTakenByte : List ℕ → Option ℕ × List ℕ → Type 0
IsTakenByte bytes x = length (byte_if x.0) + length x.1 ≡ length bytes

taken_byte_size : (there : Bool) (bytes : List ℕ) (x : Option ℕ × List ℕ) → taken_byte there bytes ≡ Some x → IsTakenByte bytes x
taken_byte_size false bytes x e = subst (IsTakenByte bytes) (same_Some (None, bytes) x e) (omega arith)
taken_byte_size true [] x e = absurd (cc)
taken_byte_size true (byte ∷ bytes) x e = subst (IsTakenByte (byte ∷ bytes)) (same_Some (Some byte, bytes) x e) (omega arith)

-- a front has as many bytes as its payload
abbrev IsFrontSize : List ℕ → Fronted → Type 0
IsFrontSize payload f = length (spelled_front f) ≡ length payload

module _ (flags : ℕ) (bytes : List ℕ) (f : Fronted) where
  rest_size : (id : Option PictureId × List ℕ) (layers tl0 : Option ℕ × List ℕ) → IsTakenId bytes id → IsTakenByte id.1 layers → IsTakenByte layers.1 tl0
      → then_rest flags id.0 layers.0 (Some tl0) ≡ Some f → IsFrontSize (flags ∷ bytes) f
  rest_size id layers tl0 ids many more e =
      let whole : Fronted = record { flags = flags; picture_id = id.0; layers = layers.0; tl0_pic_idx = tl0.0; rest = tl0.1 } in
      subst (IsFrontSize (flags ∷ bytes)) (same_Some whole f e) (omega (arith, front_size whole, ids, many, more))

  tl0_taken : (id : Option PictureId × List ℕ) (layers : Option ℕ × List ℕ) (o : Option (Option ℕ × List ℕ)) → taken_byte (has_tl0 flags) layers.1 ≡ o → IsTakenId bytes id → IsTakenByte id.1 layers
      → then_rest flags id.0 layers.0 o ≡ Some f → IsFrontSize (flags ∷ bytes) f
  tl0_taken id layers None is ids many e = absurd (cc)
  tl0_taken id layers (Some tl0) is ids many e = rest_size id layers tl0 ids many (taken_byte_size (has_tl0 flags) layers.1 tl0 is) e

  layers_taken : (id : Option PictureId × List ℕ) (o : Option (Option ℕ × List ℕ)) → taken_byte (has_bit flags 5) id.1 ≡ o → IsTakenId bytes id
      → then_tl0 flags id.0 o ≡ Some f → IsFrontSize (flags ∷ bytes) f
  layers_taken id None is ids e = absurd (cc)
  layers_taken id (Some layers) is ids e =
      tl0_taken id layers (taken_byte (has_tl0 flags) layers.1) refl ids (taken_byte_size (has_bit flags 5) id.1 layers is) e

  id_taken : (o : Option (Option PictureId × List ℕ)) → taken_id (has_bit flags 7) bytes ≡ o → then_layers flags o ≡ Some f → IsFrontSize (flags ∷ bytes) f
  id_taken None is e = absurd (cc)
  id_taken (Some id) is e = layers_taken id (taken_byte (has_bit flags 5) id.1) refl (taken_id_size (has_bit flags 7) bytes id is) e

front_length : (payload : List ℕ) (f : Fronted) → front_of payload ≡ Some f → IsFrontSize payload f
front_length [] f e = absurd (cc)
front_length (flags ∷ bytes) f e = id_taken flags bytes f (taken_id (has_bit flags 7) bytes) refl e

moved_length : (o : IdOffsets) (payload : List ℕ) (front : Option Fronted) → front_of payload ≡ front → length (moved_by o front payload) ≡ length payload
moved_length o payload None is = refl
moved_length o payload (Some f) is = moved_size o f ∙ front_length payload f is

pub length_vp9_payload : (o : IdOffsets) (payload : List ℕ) → length (vp9_payload_as o payload) ≡ length payload
length_vp9_payload o payload = moved_length o payload (front_of payload) refl

-- ---- the descriptor of a payload

id_read : (there : Bool) (id : Option PictureId) (rest : List ℕ) → is_some id ≡ there → IfSome id FitsWidth → taken_id there (id_if id ++ rest) ≡ Some (id, rest)
id_read false None rest has fits = refl
id_read true None rest has fits = absurd (cc)
id_read false (Some id) rest has fits = absurd (cc)
id_read true (Some id) rest has fits = ap some_id (takes_spelled id rest fits)

byte_read : (there : Bool) (byte : Option ℕ) (rest : List ℕ) → is_some byte ≡ there → taken_byte there (byte_if byte ++ rest) ≡ Some (byte, rest)
byte_read false None rest has = refl
byte_read true None rest has = absurd (cc)
byte_read false (Some byte) rest has = absurd (cc)
byte_read true (Some byte) rest has = refl

has_layers : (l f : Bool) (layers tl0 : Option ℕ) → HasLayers l f layers tl0 → (is_some layers ≡ l) × (is_some tl0 ≡ (l && not f))
has_layers l f None None is = rw is (refl, refl)
has_layers l f None (Some tl0) is = absurd is
has_layers l f (Some octet) None is = rw (is.0, is.1) (refl, refl)
has_layers l f (Some octet) (Some tl0) is = rw (is.0, is.1) (refl, refl)

-- the bytes after TL0PICIDX
abbrev behind : Descriptor → List ℕ → List ℕ
behind d rest = (d.differences ++ spelled_structure d.structure) ++ rest

abbrev front_with : Descriptor → List ℕ → Fronted
front_with d rest = record { flags = d.flags; picture_id = d.picture_id; layers = d.layers; tl0_pic_idx = d.tl0picidx; rest = behind d rest }

-- a payload is spelled as its front
spelled_is : (d : Descriptor) (rest : List ℕ) → spelled d ++ rest ≡ spelled_front (front_with d rest)
spelled_is d rest =
    let more : List ℕ = d.differences ++ spelled_structure d.structure in
    ap (λ (t : List ℕ). d.flags ∷ t)
    (append_assoc (id_if d.picture_id) (byte_if d.layers ++ (byte_if d.tl0picidx ++ more)) rest
    ∙ ap (λ (t : List ℕ). id_if d.picture_id ++ t)
    (append_assoc (byte_if d.layers) (byte_if d.tl0picidx ++ more) rest
    ∙ ap (λ (t : List ℕ). byte_if d.layers ++ t) (append_assoc (byte_if d.tl0picidx) more rest)))

front_read : (d : Descriptor) (rest : List ℕ) → IsDescriptor d → front_of (spelled_front (front_with d rest)) ≡ Some (front_with d rest)
front_read d rest is =
    let layers = has_layers (has_bit d.flags 5) (has_bit d.flags 4) d.layers d.tl0picidx is.layers in
    ap (then_layers d.flags) (id_read (has_bit d.flags 7) d.picture_id (byte_if d.layers ++ (byte_if d.tl0picidx ++ behind d rest)) is.id is.width)
    ∙ (ap (then_tl0 d.flags d.picture_id) (byte_read (has_bit d.flags 5) d.layers (byte_if d.tl0picidx ++ behind d rest) layers.0)
    ∙ ap (then_rest d.flags d.picture_id d.layers) (byte_read (has_tl0 d.flags) d.tl0picidx (behind d rest) layers.1))

-- the moved descriptor is one

same_some : {A B : Type 0} (f : A → B) (o : Option A) → is_some (option_map f o) ≡ is_some o
same_some f None = refl
same_some f (Some x) = refl

moved_fits : (o : ℕ) (id : Option PictureId) → IfSome (option_map (moved_picture o) id) FitsWidth
moved_fits o None = tt
moved_fits o (Some (Short n)) = omega arith
moved_fits o (Some (Long n)) = omega arith

layers_stay : (o : ℕ) (l f : Bool) (layers tl0 : Option ℕ) → HasLayers l f layers tl0 → HasLayers l f layers (option_map (moved_tl0 o) tl0)
layers_stay o l f None None is = is
layers_stay o l f None (Some tl0) is = absurd is
layers_stay o l f (Some octet) None is = is
layers_stay o l f (Some octet) (Some tl0) is = is

moved_is : (o : IdOffsets) (d : Descriptor) → IsDescriptor d → IsDescriptor (moved_descriptor o d)
moved_is o d is = record {
  id = same_some (moved_picture o.picture) d.picture_id ∙ is.id;
  width = moved_fits o.picture d.picture_id;
  layers = layers_stay o.tl0 (has_bit d.flags 5) (has_bit d.flags 4) d.layers d.tl0picidx is.layers;
  differences = is.differences;
  structure = is.structure;
}

pub moves_ids : MovesIds
moves_ids o d payload rest is =
    let read : payload ≡ spelled_front (front_with d rest) = is.1 ∙ spelled_is d rest in
    let front : front_of payload ≡ Some (front_with d rest) = ap front_of read ∙ front_read d rest is.0 in
    (moved_is o d is.0, ap (λ (f : Option Fronted). moved_by o f payload) front ∙ sym (spelled_is (moved_descriptor o d) rest))
