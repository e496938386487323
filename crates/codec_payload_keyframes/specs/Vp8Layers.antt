-- Which pictures of VP8 a decoder can show, by the ids and layers of their payload descriptors (RFC 7741, section 4.2).
use Rattle.std.specs.Prelude.{◌≡◌, ◌≤◌, ◌<◌, ◌==◌, ◌+◌, ◌&&◌, ◌||◌, ◌⊎◌, ℕ, nat_lt, nat_le, not, if◌then◌else◌, Bool, true, List, [], ◌∷◌, Option, Some, None}
use Rattle.codec_payload_base.specs.declared.interface.CodecExtra.{CodecExtra}
use Rattle.codec_payload_base.specs.declared.interface.CodecExtra.TheVariants as extras
use Rattle.codec_payload_base.specs.declared.interface.Vp8CodecExtra.{Vp8CodecExtra}
use Rattle.codec_payload_keyframes.specs.declared.vp8_layers.Layer.{Layer}
use Rattle.codec_payload_keyframes.specs.declared.vp8_layers.Vp8Layers.{Vp8Layers}
use Rattle.codec_payload_keyframes.specs.declared.vp8_layers.Vp8Picture.{Vp8Picture}

-- ---- the picture of a unit

abbrev pub picture_by : Vp8CodecExtra → Option ℕ → Option ℕ → Option Vp8Picture
picture_by v None base = None
picture_by v (Some id) None = None
picture_by v (Some id) (Some base) =
    if nat_le v.layer_index 3 then Some (record { id = id; base = base; layer = v.layer_index; sync = v.sync; discardable = v.discardable }) else None

-- a unit of VP8 whose descriptors have both ids
abbrev pub picture_of : CodecExtra → Option Vp8Picture
picture_of (extras.Vp8 v) = picture_by v v.picture_id v.tl0_picture_id
picture_of _ = None

-- ---- what a picture may refer to

-- a picture that was released, and whether it was reported as one that can be shown
pub record Released : Type 0 where
  pub picture : Vp8Picture
  pub shown : Bool

-- a keyframe is a shown picture of the base layer
abbrev pub released_key : Vp8Picture → Released
released_key key = record { picture = record key { layer = 0 }; shown = true }

-- a keyframe, and the pictures that were released after it, the latest first
pub record Pictures : Type 0 where
  pub key : Vp8Picture
  pub later : List Released

abbrev pub latest_id : Vp8Picture → List Released → ℕ
latest_id key [] = key.id
latest_id key (r ∷ rs) = r.picture.id

abbrev pub Rises : Vp8Picture → List Released → Type 0
Rises key [] = Unit {0}
Rises key (r ∷ rs) = (latest_id key rs < r.picture.id) × Rises key rs

-- the latest picture of the base layer
abbrev pub latest_base : Vp8Picture → List Released → Released
latest_base key [] = released_key key
latest_base key (r ∷ rs) = if r.picture.layer == 0 then r else latest_base key rs

-- TL0PICIDX of a picture after this picture of the base layer, if it depends on that
abbrev pub index_after : ℕ → Vp8Picture → ℕ
index_after base p = if p.layer == 0 then base + 1 else base

-- the ids rise, and the picture of the base layer on which p depends is the latest one, which can be shown
pub record HasBase (ps : Pictures) (p : Vp8Picture) : Type 0 where
  pub rises : Rises ps.key ps.later
  pub above : latest_id ps.key ps.later < p.id
  pub shown : (latest_base ps.key ps.later).shown ≡ true
  pub named : p.base ≡ index_after (latest_base ps.key ps.later).picture.base p

-- a picture of layer l that refers to the base layer alone
abbrev pub is_sync : ℕ → Vp8Picture → Bool
is_sync l p = (p.layer == l) && p.sync

-- the id of the first picture to which a picture of layer l may refer: the picture of the base layer before the latest picture of the
-- layer that refers to the base layer alone, or else the keyframe
abbrev pub first_of : ℕ → Vp8Picture → List Released → ℕ
first_of l key [] = key.id
first_of l key (r ∷ rs) = if is_sync l r.picture then (latest_base key rs).picture.id else first_of l key rs

-- as a reference within layer l it lacks nothing: it is of another layer, can be shown, or no picture refers to it
abbrev pub is_usable : ℕ → Released → Bool
is_usable l r = not (r.picture.layer == l) || r.shown || r.picture.discardable

-- the picture with this id was released, and lacks nothing for layer l
abbrev pub Serves : ℕ → ℕ → Vp8Picture → List Released → Type 0
Serves l id key [] = id ≡ key.id
Serves l id key (r ∷ rs) = ((id ≡ r.picture.id) × (is_usable l r ≡ true)) ⊎ Serves l id key rs

-- a picture that may refer to pictures above the base layer
abbrev pub refers_above : Vp8Picture → Bool
refers_above p = not (p.layer == 0) && not p.sync

-- p can be shown: its picture of the base layer can; and if it may refer to others, so can each picture of its layer and of the
-- layers between, from the first one on. A missing picture counts for each of these layers, since its own is not known
pub record CanBeShown (ps : Pictures) (p : Vp8Picture) : Type 0 where
  pub base : HasBase ps p
  pub layers : refers_above p ≡ true → (l : ℕ) → 1 ≤ l → l ≤ p.layer → (id : ℕ) → first_of l ps.key ps.later ≤ id → id < p.id → Serves l id ps.key ps.later

-- ---- steps

abbrev pub new_layer : Layer
new_layer = record { is_whole = true; is_whole_since_base = true }

abbrev pub after_keyframe : Vp8Picture → Vp8Layers
after_keyframe key = record { last = key.id; base = key.base; is_base_shown = true; first = new_layer; second = new_layer; third = new_layer }

abbrev pub has_base : Vp8Layers → Vp8Picture → Bool
has_base s p = nat_lt s.last p.id && (s.is_base_shown && (p.base == index_after s.base p))

abbrev pub has_layers : Vp8Layers → Vp8Picture → Bool
has_layers s p = (p.id == s.last + 1) && (s.first.is_whole && ((nat_lt p.layer 2 || s.second.is_whole) && (nat_lt p.layer 3 || s.third.is_whole)))

abbrev pub shows_picture : Vp8Layers → Vp8Picture → Bool
shows_picture s p = has_base s p && (not (refers_above p) || has_layers s p)

-- layer l after a picture that follows the latest one or not, and can be shown or not
abbrev pub is_kept : ℕ → Vp8Picture → Bool → Bool → Bool
is_kept l p follows shown = follows && is_usable l (record { picture = p; shown = shown })

abbrev pub layer_after : ℕ → Vp8Picture → Bool → Bool → Layer → Layer
layer_after l p follows shown x = record {
  is_whole = (if is_sync l p then x.is_whole_since_base else x.is_whole) && is_kept l p follows shown;
  is_whole_since_base = (p.layer == 0) || (x.is_whole_since_base && is_kept l p follows shown);
}

abbrev pub after_picture : Vp8Layers → Vp8Picture → Vp8Layers
after_picture s p = record {
  last = p.id;
  base = if p.layer == 0 then p.base else s.base;
  is_base_shown = if p.layer == 0 then shows_picture s p else nat_lt s.last p.id && s.is_base_shown;
  first = layer_after 1 p (p.id == s.last + 1) (shows_picture s p) s.first;
  second = layer_after 2 p (p.id == s.last + 1) (shows_picture s p) s.second;
  third = layer_after 3 p (p.id == s.last + 1) (shows_picture s p) s.third;
}
