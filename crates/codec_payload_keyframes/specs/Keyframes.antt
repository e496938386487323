-- Which units of a video stream a decoder can show, and when a keyframe is needed.
use Rattle.std.specs.Prelude.{◌≡◌, ◌≤◌, ◌==◌, ◌&&◌, ◌||◌, ◌↔◌, ℕ, not, if◌then◌else◌, Bool, true, false, List, [], ◌∷◌, Option, Some, None, Result, Ok, Err}
use Rattle.codec_payload_base.specs.declared.wire.Codec.{Codec}
use Rattle.codec_payload_base.specs.declared.wire.Codec.TheVariants as codecs
use Rattle.codec_payload_media.specs.FrameInfo.{info_of}
use Rattle.codec_payload_media.specs.declared.frame_info.FrameInfo.{FrameInfo}
use Rattle.codec_payload_vpx.specs.declared.error.MediaError.{MediaError}
use Rattle.codec_payload_base.specs.declared.interface.CodecExtra.{CodecExtra}
use Rattle.codec_payload_keyframes.specs.References.{HasReferences, Reported, after_key_frames, picture_by_differences, shows_referring, with_frames}
use Rattle.codec_payload_keyframes.specs.Vp8Layers.{CanBeShown, HasBase, Pictures, after_keyframe, after_picture, has_base, shows_picture}
use Rattle.codec_payload_keyframes.specs.declared.gate.Followed.{Followed}
use Rattle.codec_payload_keyframes.specs.declared.gate.Followed.TheVariants as ways
use Rattle.codec_payload_keyframes.specs.declared.gate.KeyframeGate.{KeyframeGate}
use Rattle.codec_payload_keyframes.specs.declared.references.References.{References}
use Rattle.codec_payload_keyframes.specs.declared.references.Referring.{Referring}
use Rattle.codec_payload_keyframes.specs.declared.references.UnitReferences.{UnitReferences}
use Rattle.codec_payload_keyframes.specs.declared.vp8_layers.Vp8Layers.{Vp8Layers}
use Rattle.codec_payload_keyframes.specs.declared.vp8_layers.Vp8Picture.{Vp8Picture}

-- the codecs that have keyframes
abbrev pub is_video : Codec → Bool
is_video codecs.Vp8 = true
is_video codecs.Vp9 = true
is_video codecs.Av1 = true
is_video _ = false

-- the frame says that it is a keyframe
abbrev pub says_so : Option Bool → Bool
says_so None = false
says_so (Some keyframe) = keyframe

abbrev pub says_keyframe : Result FrameInfo MediaError → Bool
says_keyframe (Ok info) = says_so info.keyframe
says_keyframe (Err _) = false

abbrev pub is_keyframe : Codec → List ℕ → Bool
is_keyframe codec bytes = says_keyframe (info_of codec bytes)

-- ---- what a unit says of the frames that it refers to

-- by its dependency descriptors; and by its picture id and the P_DIFFs of VP9
pub record Said : Type 0 where
  pub frames : Option Referring
  pub pictures : Option Referring

abbrev pub said_of : CodecExtra → UnitReferences → Said
said_of extra references = record { frames = references.descriptor; pictures = picture_by_differences extra references.differences }

-- ---- steps of a gate

abbrev pub new_gate : Codec → KeyframeGate
new_gate codec = record { codec = codec; shows = not (is_video codec); wants = false; followed = ways.Chain }

-- what is followed after a keyframe: by descriptors, if its own can be read; else by P_DIFFs; else by the ids of VP8; else the chain
abbrev pub followed_by : Option Referring → Option Referring → Option Vp8Picture → Followed
followed_by (Some key) pictures vp8 = ways.Frames (after_key_frames key)
followed_by None (Some key) vp8 = ways.Pictures (after_key_frames key)
followed_by None None (Some key) = ways.Layers (after_keyframe key)
followed_by None None None = ways.Chain

-- nothing is shown, and the units after it are followed so
abbrev pub held_back : KeyframeGate → Followed → KeyframeGate
held_back g followed = record g { shows = false; wants = true; followed = followed }

-- nothing can be shown until a keyframe
abbrev pub broken_off : KeyframeGate → KeyframeGate
broken_off g = held_back g ways.Chain

-- a unit in the chain, or by its ids of VP8: by its ids, if it and all units since the keyframe have them, and by the unit before it,
-- if none of them has them
abbrev pub after_plain : KeyframeGate → Bool → Option Vp8Picture → KeyframeGate
after_plain g contiguous None = record g { shows = contiguous && g.shows; wants = g.wants || not (contiguous && g.shows) }
after_plain g contiguous (Some p) = broken_off g

abbrev pub after_layered : KeyframeGate → Vp8Layers → Option Vp8Picture → KeyframeGate
after_layered g s None = broken_off g
after_layered g s (Some p) =
    record g { shows = shows_picture s p; wants = not (has_base s p) || (g.wants && not (p.layer == 0)); followed = ways.Layers (after_picture s p) }

-- a unit of the base decides whether a keyframe is needed
abbrev pub wants_after : Bool → Referring → Bool → Bool
wants_after wants u shown = if u.is_base then not shown else wants

-- by descriptors; the frames of a unit whose descriptor cannot be read are missing
abbrev pub after_described : KeyframeGate → References → Option Referring → KeyframeGate
after_described g s None = held_back g g.followed
after_described g s (Some u) = record g {
  shows = shows_referring s u;
  wants = wants_after g.wants u (shows_referring s u);
  followed = ways.Frames (with_frames s u (shows_referring s u));
}

-- by P_DIFFs; a picture that names none refers to the unit before
abbrev pub shows_differing : References → Bool → Referring → Bool
shows_differing s follows u = shows_referring s u && (not (u.distances == 0) || follows)

abbrev pub after_differing : KeyframeGate → References → Bool → Option Referring → KeyframeGate
after_differing g s follows None = broken_off g
after_differing g s follows (Some u) = record g {
  shows = shows_differing s follows u;
  wants = wants_after g.wants u (shows_differing s follows u);
  followed = ways.Pictures (with_frames s u (shows_differing s follows u));
}

-- a unit that is not a keyframe
abbrev pub after_delta : KeyframeGate → Followed → Bool → Option Vp8Picture → Said → KeyframeGate
after_delta g ways.Chain contiguous picture said = after_plain g contiguous picture
after_delta g (ways.Layers s) contiguous picture said = after_layered g s picture
after_delta g (ways.Frames s) contiguous picture said = after_described g s said.frames
after_delta g (ways.Pictures s) contiguous picture said = after_differing g s (contiguous && g.shows) said.pictures

abbrev pub after_video : KeyframeGate → Bool → Bool → Option Vp8Picture → Said → KeyframeGate
after_video g true contiguous picture said = record g { shows = true; wants = false; followed = followed_by said.frames said.pictures picture }
after_video g false contiguous picture said = after_delta g g.followed contiguous picture said

abbrev pub after_unit : KeyframeGate → Bool → Bool → Option Vp8Picture → Said → KeyframeGate
after_unit g keyframe contiguous picture said = if is_video g.codec then after_video g keyframe contiguous picture said else g

-- whether a decoder can show a unit
abbrev pub shows_unit : KeyframeGate → Bool → Bool → Option Vp8Picture → Said → Bool
shows_unit g keyframe contiguous picture said = if is_video g.codec then (after_video g keyframe contiguous picture said).shows else true

-- a unit was lost: its numbers are missing; without numbers nothing can be shown until a keyframe
abbrev pub followed_past : Followed → Followed
followed_past ways.Chain = ways.Chain
followed_past (ways.Layers s) = ways.Chain
followed_past (ways.Frames s) = ways.Frames s
followed_past (ways.Pictures s) = ways.Pictures s

abbrev pub after_loss : KeyframeGate → KeyframeGate
after_loss g = if is_video g.codec then held_back g (followed_past g.followed) else g

abbrev pub after_skip : KeyframeGate → KeyframeGate
after_skip g = if is_video g.codec then record g { wants = true } else g

-- a unit of video is a keyframe
abbrev pub is_key_unit : KeyframeGate → List ℕ → Bool
is_key_unit g bytes = is_video g.codec && is_keyframe g.codec bytes

-- ---- whole streams

-- events of a stream: a unit is released, which is a keyframe or not, contiguous or not, has a picture of VP8 with both ids or not, says
-- what it refers to or not, and is reported as one that can be shown or not; a unit is lost; units are skipped because of their
-- picture ids
pub data Event : Type 0 where
  released : (key contiguous : Bool) (picture : Option Vp8Picture) (said : Said) (shown : Bool) → Event
  lost : Event
  skipped : Event

-- ---- streams whose units say what they refer to

-- by which number and which references the units since the latest keyframe are followed
pub data By : Type 0 where
  descriptors : By
  differences : By

-- a keyframe, and the units that were released after it with a number, the latest first
pub record Numbered : Type 0 where
  pub by : By
  pub key : Referring
  pub later : List Reported

-- descriptors go first
abbrev pub numbers_from : Option Referring → Option Referring → Option Numbered
numbers_from (Some key) pictures = Some (record { by = descriptors; key = key; later = [] })
numbers_from None (Some key) = Some (record { by = differences; key = key; later = [] })
numbers_from None None = None

abbrev pub said_by : By → Said → Option Referring
said_by descriptors said = said.frames
said_by differences said = said.pictures

-- frames of a unit whose descriptor cannot be read are missing; after a unit without a picture id or without P_DIFFs no number is known
abbrev pub without_number : By → Numbered → Option Numbered
without_number descriptors ns = Some ns
without_number differences ns = None

abbrev pub with_number : Numbered → Option Referring → Bool → Option Numbered
with_number ns None shown = without_number ns.by ns
with_number ns (Some u) shown = Some (record ns { later = record { unit = u; shown = shown } ∷ ns.later })

abbrev pub with_unit_of : Option Numbered → Said → Bool → Option Numbered
with_unit_of None said shown = None
with_unit_of (Some ns) said shown = with_number ns (said_by ns.by said) shown

-- the units since the latest keyframe, if they are followed by numbers
abbrev pub numbered_since : List Event → Option Numbered
numbered_since [] = None
numbered_since (released true contiguous picture said shown ∷ before) = numbers_from said.frames said.pictures
numbered_since (released false contiguous picture said shown ∷ before) = with_unit_of (numbered_since before) said shown
numbered_since (lost ∷ before) = numbered_since before
numbered_since (skipped ∷ before) = numbered_since before

-- by P_DIFFs, the unit names no picture: P is clear
abbrev pub names_none : By → Referring → Bool
names_none descriptors u = false
names_none differences u = u.distances == 0

-- ---- streams without

-- of the events so far, the latest first: no unit since the latest keyframe has ids, and each is contiguous, with no unit lost; and
-- the keyframe does not say what it refers to
pub data FollowsPlainly : List Event → Type 0 where
  from_keyframe : {contiguous shown : Bool} {said : Said} {before : List Event} → numbers_from said.frames said.pictures ≡ None
      → FollowsPlainly (released true contiguous None said shown ∷ before)
  next_unit : {shown : Bool} {said : Said} {before : List Event} → FollowsPlainly before → FollowsPlainly (released false true None said shown ∷ before)
  past_skipped : {before : List Event} → FollowsPlainly before → FollowsPlainly (skipped ∷ before)

-- the pictures since the latest keyframe, if all have ids, no unit was lost, and the keyframe does not say what it refers to
abbrev pub begun_by : Option Numbered → Option Vp8Picture → Option Pictures
begun_by (Some ns) picture = None
begun_by None None = None
begun_by None (Some key) = Some (record { key = key; later = [] })

abbrev pub with_picture : Option Pictures → Option Vp8Picture → Bool → Option Pictures
with_picture None picture shown = None
with_picture (Some ps) None shown = None
with_picture (Some ps) (Some p) shown = Some (record ps { later = record { picture = p; shown = shown } ∷ ps.later })

abbrev pub pictures_since : List Event → Option Pictures
pictures_since [] = None
pictures_since (released true contiguous picture said shown ∷ before) = begun_by (numbers_from said.frames said.pictures) picture
pictures_since (released false contiguous picture said shown ∷ before) = with_picture (pictures_since before) picture shown
pictures_since (lost ∷ before) = None
pictures_since (skipped ∷ before) = pictures_since before

-- the picture of the base layer on which p depends can be shown; p can be shown
abbrev pub HasBaseIn : Option Pictures → Vp8Picture → Type 0
HasBaseIn None p = ⊥
HasBaseIn (Some ps) p = HasBase ps p

abbrev pub CanBeShownIn : Option Pictures → Vp8Picture → Type 0
CanBeShownIn None p = ⊥
CanBeShownIn (Some ps) p = CanBeShown ps p

-- ---- what a gate says

-- the unit that was released last can be shown: it is a keyframe; it has no ids, and follows a unit that can be shown; it has ids, and
-- all to which it may refer can be shown; it says what it refers to, and each of these frames was released in a unit that can be shown;
-- or its picture names none, and it follows a unit that can be shown
pub data ShowsLast : List Event → Type 0 where
  at_keyframe : {contiguous shown : Bool} {picture : Option Vp8Picture} {said : Said} {before : List Event} → ShowsLast (released true contiguous picture said shown ∷ before)
  following : {shown : Bool} {said : Said} {before : List Event} → FollowsPlainly before → ShowsLast (released false true None said shown ∷ before)
  by_references : {contiguous shown : Bool} {p : Vp8Picture} {said : Said} {before : List Event} → CanBeShownIn (pictures_since before) p
      → ShowsLast (released false contiguous (Some p) said shown ∷ before)
  by_numbers : {contiguous shown : Bool} {picture : Option Vp8Picture} {said : Said} {before : List Event} {ns : Numbered} {u : Referring} → numbered_since before ≡ Some ns
      → said_by ns.by said ≡ Some u → HasReferences ns.key ns.later u → names_none ns.by u ≡ false → ShowsLast (released false contiguous picture said shown ∷ before)
  by_the_unit_before : {shown : Bool} {picture : Option Vp8Picture} {said : Said} {before : List Event} {ns : Numbered} {u : Referring} → numbered_since before ≡ Some ns
      → said_by ns.by said ≡ Some u → HasReferences ns.key ns.later u → names_none ns.by u ≡ true → ShowsLast before
      → ShowsLast (released false true picture said shown ∷ before)
  past : {before : List Event} → ShowsLast before → ShowsLast (skipped ∷ before)

-- the unit may end the need of a keyframe: it is a picture of the base layer, or all its frames are of the base
abbrev pub IsOfBase : Option Vp8Picture → Type 0
IsOfBase None = ⊥
IsOfBase (Some p) = p.layer ≡ 0

abbrev pub HasBaseFrames : Option Referring → Type 0
HasBaseFrames None = ⊥
HasBaseFrames (Some u) = u.is_base ≡ true

abbrev pub IsOfBaseBy : Option Numbered → Option Vp8Picture → Said → Type 0
IsOfBaseBy None picture said = IsOfBase picture
IsOfBaseBy (Some ns) picture said = HasBaseFrames (said_by ns.by said)

-- a keyframe is needed: since the last keyframe, a unit without ids was released that cannot be shown, or one with ids whose picture of
-- the base layer cannot be shown, or one was lost, or units were skipped; and no picture of the base layer came since that can be shown.
-- If units are followed by numbers: a unit of the base that cannot be shown, or one without a number
pub data WantsKeyframe : List Event → Type 0 where
  undecodable : {contiguous shown : Bool} {said : Said} {before : List Event} → numbered_since before ≡ None
      → (ShowsLast (released false contiguous None said shown ∷ before) → ⊥) → WantsKeyframe (released false contiguous None said shown ∷ before)
  without_base : {contiguous shown : Bool} {p : Vp8Picture} {said : Said} {before : List Event} → numbered_since before ≡ None → (HasBaseIn (pictures_since before) p → ⊥)
      → WantsKeyframe (released false contiguous (Some p) said shown ∷ before)
  unnumbered : {contiguous shown : Bool} {picture : Option Vp8Picture} {said : Said} {before : List Event} {ns : Numbered} → numbered_since before ≡ Some ns
      → said_by ns.by said ≡ None → WantsKeyframe (released false contiguous picture said shown ∷ before)
  undecodable_base : {contiguous shown : Bool} {picture : Option Vp8Picture} {said : Said} {before : List Event} {ns : Numbered} → numbered_since before ≡ Some ns
      → HasBaseFrames (said_by ns.by said) → (ShowsLast (released false contiguous picture said shown ∷ before) → ⊥)
      → WantsKeyframe (released false contiguous picture said shown ∷ before)
  after_lost : {before : List Event} → WantsKeyframe (lost ∷ before)
  after_skipped : {before : List Event} → WantsKeyframe (skipped ∷ before)
  still : {contiguous shown : Bool} {picture : Option Vp8Picture} {said : Said} {before : List Event} → (IsOfBaseBy (numbered_since before) picture said → ⊥)
      → WantsKeyframe before → WantsKeyframe (released false contiguous picture said shown ∷ before)

-- TID has two bits
abbrev pub IsVp8 : Option Vp8Picture → Type 0
IsVp8 None = Unit {0}
IsVp8 (Some p) = p.layer ≤ 3

-- the events of a gate, the latest first, each unit with what the gate reported, and the gate after them
pub data Run (codec : Codec) : List Event → KeyframeGate → Type 0 where
  begins : Run codec [] (new_gate codec)
  releases : {before : List Event} {g : KeyframeGate} (key contiguous : Bool) (picture : Option Vp8Picture) (said : Said) → IsVp8 picture → Run codec before g
      → Run codec (released key contiguous picture said (shows_unit g key contiguous picture said) ∷ before) (after_unit g key contiguous picture said)
  loses : {before : List Event} {g : KeyframeGate} → Run codec before g → Run codec (lost ∷ before) (after_loss g)
  skips : {before : List Event} {g : KeyframeGate} → Run codec before g → Run codec (skipped ∷ before) (after_skip g)

abbrev pub GatesAgree : Type 0
GatesAgree =
    (codec : Codec) (events : List Event) (g : KeyframeGate) → is_video codec ≡ true → Run codec events g
    → ((g.shows ≡ true) ↔ ShowsLast events) × ((g.wants ≡ true) ↔ WantsKeyframe events)

-- a unit that is reported as one that can be shown is one
abbrev pub UnitsFollowKeyframes : Type 0
UnitsFollowKeyframes =
    (codec : Codec) (before : List Event) (g : KeyframeGate) (key contiguous : Bool) (picture : Option Vp8Picture) (said : Said) → is_video codec ≡ true → IsVp8 picture
    → Run codec before g → shows_unit g key contiguous picture said ≡ true → ShowsLast (released key contiguous picture said true ∷ before)

-- no keyframe says what it refers to
abbrev pub KeysSayNothing : List Event → Type 0
KeysSayNothing [] = Unit {0}
KeysSayNothing (released true contiguous picture said shown ∷ before) = (numbers_from said.frames said.pictures ≡ None) × KeysSayNothing before
KeysSayNothing (released false contiguous picture said shown ∷ before) = KeysSayNothing before
KeysSayNothing (lost ∷ before) = KeysSayNothing before
KeysSayNothing (skipped ∷ before) = KeysSayNothing before

-- such a stream is followed by its ids of VP8 or as a chain alone
abbrev pub PlainStreams : Type 0
PlainStreams = (events : List Event) → KeysSayNothing events → numbered_since events ≡ None
