-- A gate follows keyframes and references: by induction on the run.
use Rattle.std.proofs.Common.{◌≡◌, ◌∙◌, ◌&&◌, ◌||◌, ◌≤◌, ◌⊎◌, inl, inr, not, Bool, true, false, List, [], ◌∷◌, Option, Some, None, cond, refl, sym, ap, subst, eqb}
use Rattle.std.specs.Prelude.{◌↔◌}
use Rattle.std.proofs.lemmas.Bool.{and_from, eqb-true, eq-eqb, false≢true, or_right}
use Rattle.codec_payload_base.specs.declared.wire.Codec.{Codec}
use Rattle.codec_payload_keyframes.proofs.LayerLemmas.{Knows, both, has_base_is, knows_key, knows_next, shows_is}
use Rattle.codec_payload_keyframes.proofs.ReferenceLemmas.{Knows as KnowsFrames, knows_key as knows_first, knows_next as knows_more, shows_is as refers_is}
use Rattle.codec_payload_keyframes.specs.Keyframes.{CanBeShownIn, Event, FollowsPlainly, GatesAgree, HasBaseFrames, HasBaseIn, IsOfBaseBy, IsVp8, Numbered, PlainStreams, Run, Said, ShowsLast, UnitsFollowKeyframes, WantsKeyframe, after_delta, after_described, after_differing, after_layered, after_lost, after_plain, after_skipped, after_unit, after_video, at_keyframe, begins, begun_by, by_numbers, by_references, by_the_unit_before, descriptors, differences, followed_by, followed_past, following, from_keyframe, is_video, loses, lost, names_none, new_gate, next_unit, numbered_since, numbers_from, past, past_skipped, pictures_since, released, releases, said_by, shows_differing, shows_unit, skipped, skips, still, undecodable, undecodable_base, unnumbered, wants_after, without_base}
use Rattle.codec_payload_keyframes.specs.References.{HasReferences, Reported, shows_referring, with_frames}
use Rattle.codec_payload_keyframes.specs.Vp8Layers.{Pictures, after_picture, has_base, shows_picture}
use Rattle.codec_payload_keyframes.specs.declared.gate.Followed.{Followed}
use Rattle.codec_payload_keyframes.specs.declared.gate.Followed.TheVariants as ways
use Rattle.codec_payload_keyframes.specs.declared.gate.KeyframeGate.{KeyframeGate}
use Rattle.codec_payload_keyframes.specs.declared.references.References.{References}
use Rattle.codec_payload_keyframes.specs.declared.references.Referring.{Referring}
use Rattle.codec_payload_keyframes.specs.declared.vp8_layers.Vp8Layers.{Vp8Layers}
use Rattle.codec_payload_keyframes.specs.declared.vp8_layers.Vp8Picture.{Vp8Picture}

-- what a gate knows: nothing, if units have neither ids nor references
data Follows : Followed → Option Pictures → Option Numbered → Type 0 where
  none_known : Follows ways.Chain None None
  layers_known : {s : Vp8Layers} {ps : Pictures} → Knows s ps → Follows (ways.Layers s) (Some ps) None
  frames_known : {s : References} {key : Referring} {later : List Reported} → KnowsFrames s key later
      → Follows (ways.Frames s) None (Some (record { by = descriptors; key = key; later = later }))
  pictures_known : {s : References} {key : Referring} {later : List Reported} → KnowsFrames s key later
      → Follows (ways.Pictures s) None (Some (record { by = differences; key = key; later = later }))

-- a gate after these events
record Agrees (codec : Codec) (events : List Event) (g : KeyframeGate) : Type 0 where
  codec_is : g.codec ≡ codec
  follows : Follows g.followed (pictures_since events) (numbered_since events)
  plainly : numbered_since events ≡ None → pictures_since events ≡ None → (g.shows ≡ true) ↔ FollowsPlainly events
  shows : (g.shows ≡ true) ↔ ShowsLast events
  wants : (g.wants ≡ true) ↔ WantsKeyframe events

-- ---- units that follow plainly have no numbers and no ids

no_numbers : {events : List Event} → FollowsPlainly events → numbered_since events ≡ None
no_numbers (from_keyframe none) = none
no_numbers (next_unit so) = rw (no_numbers so) refl
no_numbers (past_skipped so) = no_numbers so

no_pictures : {events : List Event} → FollowsPlainly events → pictures_since events ≡ None
no_pictures (from_keyframe none) = rw (none) refl
no_pictures (next_unit so) = rw (no_pictures so) refl
no_pictures (past_skipped so) = no_pictures so

none_some : {A : Type 0} {x : A} → None ≡ Some x → ⊥
none_some e = cc

differ : {A : Type 0} {x : A} {o : Option A} → o ≡ None → o ≡ Some x → ⊥
differ none some = none_some (sym none ∙ some)

same : {A : Type 0} {x y : A} {o : Option A} → o ≡ Some x → o ≡ Some y → x ≡ y
same first second = some_is (sym first ∙ second)
  where
    some_is : {A : Type 0} {x y : A} → Some x ≡ Some y → x ≡ y
    some_is e = cc

-- ---- units that are followed by numbers

-- the ways by which such a unit can be shown
shown_by : {before : List Event} {c b : Bool} {picture : Option Vp8Picture} {said : Said} {ns : Numbered} {u : Referring} → numbered_since before ≡ Some ns → pictures_since before ≡ None
    → said_by ns.by said ≡ Some u → ShowsLast (released false c picture said b ∷ before)
    → HasReferences ns.key ns.later u × ((names_none ns.by u ≡ false) ⊎ ((c ≡ true) × ShowsLast before))
shown_by is none one (following so) = absurd (differ (no_numbers so) is)
shown_by is none one (by_references {p = p} can) = absurd (subst (λ (ps : Option Pictures). CanBeShownIn ps p) none can)
shown_by {said = said} {ns = ns} {u = u} is none one (by_numbers {ns = n} {u = v} so this has named) = (moved.0, inl moved.1)
  where
    unit_is : v ≡ u
    unit_is = same (subst (λ (m : Numbered). said_by m.by said ≡ Some v) (same so is) this) one

    moved : HasReferences ns.key ns.later u × (names_none ns.by u ≡ false)
    moved = subst (λ (m : Numbered). HasReferences m.key m.later u × (names_none m.by u ≡ false)) (same so is)
        (subst (λ (w : Referring). HasReferences n.key n.later w × (names_none n.by w ≡ false)) unit_is (has, named))
shown_by {said = said} {ns = ns} {u = u} is none one (by_the_unit_before {ns = n} {u = v} so this has named last) = (moved, inr (refl, last))
  where
    unit_is : v ≡ u
    unit_is = same (subst (λ (m : Numbered). said_by m.by said ≡ Some v) (same so is) this) one

    moved : HasReferences ns.key ns.later u
    moved = subst (λ (m : Numbered). HasReferences m.key m.later u) (same so is) (subst (λ (w : Referring). HasReferences n.key n.later w) unit_is has)

-- a unit without a number cannot be shown
not_shown : {before : List Event} {c b : Bool} {picture : Option Vp8Picture} {said : Said} {ns : Numbered} → numbered_since before ≡ Some ns → pictures_since before ≡ None
    → said_by ns.by said ≡ None → ShowsLast (released false c picture said b ∷ before) → ⊥
not_shown is none lacking (following so) = differ (no_numbers so) is
not_shown is none lacking (by_references {p = p} can) = subst (λ (ps : Option Pictures). CanBeShownIn ps p) none can
not_shown {said = said} is none lacking (by_numbers {u = v} so this has named) = differ lacking (subst (λ (m : Numbered). said_by m.by said ≡ Some v) (same so is) this)
not_shown {said = said} is none lacking (by_the_unit_before {u = v} so this has named last) = differ lacking (subst (λ (m : Numbered). said_by m.by said ≡ Some v) (same so is) this)

-- such a unit needs a keyframe, or leaves the need
needs : {before : List Event} {c b w : Bool} {picture : Option Vp8Picture} {said : Said} {ns : Numbered} {u : Referring} → numbered_since before ≡ Some ns → said_by ns.by said ≡ Some u
    → ((w ≡ true) ↔ WantsKeyframe before) → WantsKeyframe (released false c picture said b ∷ before)
    → ((u.is_base ≡ true) × (ShowsLast (released false c picture said b ∷ before) → ⊥)) ⊎ ((u.is_base ≡ true → ⊥) × (w ≡ true))
needs is one wants (undecodable none shown) = absurd (differ none is)
needs is one wants (without_base none base) = absurd (differ none is)
needs {said = said} is one wants (unnumbered so lacking) = absurd (differ (subst (λ (m : Numbered). said_by m.by said ≡ None) (same so is) lacking) one)
needs {said = said} is one wants (undecodable_base so base shown) =
    inl (subst HasBaseFrames one (subst (λ (m : Numbered). HasBaseFrames (said_by m.by said)) (same so is) base), shown)
needs {picture = picture} {said = said} is one wants (still other so) =
    inr (λ base. other (subst (λ (o : Option Numbered). IsOfBaseBy o picture said) (sym is) (subst HasBaseFrames (sym one) base)), wants.1 so)

module _ (codec : Codec) (before : List Event) (g : KeyframeGate) (c : Bool) (picture : Option Vp8Picture) (said : Said) (a : Agrees codec before g) (ns : Numbered)
    (is : numbered_since before ≡ Some ns) (none : pictures_since before ≡ None) where
  abbrev Event_with : Bool → List Event
  Event_with it = released false c picture said it ∷ before

  -- its number and its references decide
  by_number : (u : Referring) → said_by ns.by said ≡ Some u → (it : Bool) → ((it ≡ true) ↔ ShowsLast (Event_with it)) → (f : Followed)
      → Follows f None (Some (record ns { later = record { unit = u; shown = it } ∷ ns.later }))
      → Agrees codec (Event_with it) (record g { shows = it; wants = wants_after g.wants u it; followed = f })
  by_number u one it shows f follows = record {
    codec_is = a.codec_is;
    follows = rw (none, is, one) follows;
    plainly = λ lacking e. absurd (none_some (sym lacking ∙ numbers));
    shows = shows;
    wants = (there u.is_base refl, λ so. back (needs is one a.wants so));
  }
    where
      numbers : numbered_since (Event_with it) ≡ Some (record ns { later = record { unit = u; shown = it } ∷ ns.later })
      numbers = rw (is, one) refl

      not_it : not it ≡ true → it ≡ true → ⊥
      not_it lacking so = false≢true (sym (ap not so) ∙ lacking)

      of_base : IsOfBaseBy (numbered_since before) picture said → u.is_base ≡ true
      of_base base = subst HasBaseFrames one (subst (λ (o : Option Numbered). IsOfBaseBy o picture said) is base)

      there : (b : Bool) → u.is_base ≡ b → cond b (not it) g.wants ≡ true → WantsKeyframe (Event_with it)
      there true base so = undecodable_base is (subst HasBaseFrames (sym one) base) (λ last. not_it so (shows.1 last))
      there false other so = still (λ base. false≢true (sym other ∙ of_base base)) (a.wants.0 so)

      never : (b : Bool) → it ≡ b → (ShowsLast (Event_with it) → ⊥) → not b ≡ true
      never true so lacking = absurd (lacking (shows.0 so))
      never false so lacking = refl

      back : ((u.is_base ≡ true) × (ShowsLast (Event_with it) → ⊥)) ⊎ ((u.is_base ≡ true → ⊥) × (g.wants ≡ true)) → wants_after g.wants u it ≡ true
      back (inl so) = rw (so.0) (never it refl so.1)
      back (inr so) = by u.is_base refl
        where
          by : (b : Bool) → u.is_base ≡ b → cond b (not it) g.wants ≡ true
          by true base = absurd (so.0 base)
          by false other = so.1

  -- it has no number
  without : said_by ns.by said ≡ None → (g2 : KeyframeGate) → g2.codec ≡ g.codec → g2.shows ≡ false → g2.wants ≡ true
      → Follows g2.followed (pictures_since (Event_with false)) (numbered_since (Event_with false)) → Agrees codec (Event_with false) g2
  without lacking g2 codec_same dark wanted follows = record {
    codec_is = codec_same ∙ a.codec_is;
    follows = follows;
    plainly = λ n e. (λ so. absurd (false≢true (sym dark ∙ so)), λ so. absurd (not_plain so));
    shows = (λ so. absurd (false≢true (sym dark ∙ so)), λ so. absurd (not_shown is none lacking so));
    wants = (λ so. unnumbered is lacking, λ so. wanted);
  }
    where
      not_plain : {b : Bool} {p : Option Vp8Picture} → FollowsPlainly (released false b p said false ∷ before) → ⊥
      not_plain (next_unit so) = differ (no_numbers so) is

  -- it can be shown by its references, and if it names none by the unit before it
  shows_named : (u : Referring) → said_by ns.by said ≡ Some u → (named : Bool) → names_none ns.by u ≡ named → (refers it : Bool)
      → ((refers ≡ true) ↔ HasReferences ns.key ns.later u) → it ≡ (refers && (not named || (c && g.shows))) → (it ≡ true) ↔ ShowsLast (Event_with it)
  shows_named u one named named_is refers it refers_so it_is = (λ so. there named named_is (both refers (not named || (c && g.shows)) (sym it_is ∙ so)), λ so. it_is ∙ back (shown_by is none one so))
    where
      follows_on : (b : Bool) → (b && g.shows) ≡ true → (refers ≡ true) → names_none ns.by u ≡ true → ShowsLast (released false b picture said it ∷ before)
      follows_on true so has clear = by_the_unit_before is one (refers_so.0 has) clear (a.shows.0 so)
      follows_on false so has clear = absurd (false≢true so)

      there : (n : Bool) → names_none ns.by u ≡ n → (refers ≡ true) × ((not n || (c && g.shows)) ≡ true) → ShowsLast (Event_with it)
      there true clear so = follows_on c so.1 so.0 clear
      there false names so = by_numbers is one (refers_so.0 so.0) names

      back : HasReferences ns.key ns.later u × ((names_none ns.by u ≡ false) ⊎ ((c ≡ true) × ShowsLast before)) → (refers && (not named || (c && g.shows))) ≡ true
      back (has, inl names) = and_from refers (not named || (c && g.shows)) (refers_so.1 has) (rw (sym named_is ∙ names) refl)
      back (has, inr so) = and_from refers (not named || (c && g.shows)) (refers_so.1 has) (or_right (not named) (c && g.shows) (and_from c g.shows so.0 (a.shows.1 so.1)))

-- by descriptors
described : (codec : Codec) (before : List Event) (g : KeyframeGate) (c : Bool) (picture : Option Vp8Picture) (said : Said) → Agrees codec before g → (s : References) (key : Referring)
    (later : List Reported) → g.followed ≡ ways.Frames s → numbered_since before ≡ Some (record { by = descriptors; key = key; later = later }) → pictures_since before ≡ None
    → KnowsFrames s key later → (frames : Option Referring) → said.frames ≡ frames
    → Agrees codec (released false c picture said (after_described g s frames).shows ∷ before) (after_described g s frames)
described codec before g c picture said a s key later way is none knows None lacking =
    without codec before g c picture said a _ is none lacking (record g { shows = false; wants = true }) refl refl refl (rw (none, is, lacking, way) (frames_known knows))
described codec before g c picture said a s key later way is none knows (Some u) one =
    by_number codec before g c picture said a _ is none u one (shows_referring s u)
    (shows_named codec before g c picture said a _ is none u one false refl (shows_referring s u) (shows_referring s u) (refers_is s key later u knows) (and_true (shows_referring s u)))
    (ways.Frames (with_frames s u (shows_referring s u))) (frames_known (knows_more s key later u (shows_referring s u) knows))
  where
    and_true : (b : Bool) → b ≡ (b && true)
    and_true true = refl
    and_true false = refl

-- by P_DIFFs
differing : (codec : Codec) (before : List Event) (g : KeyframeGate) (c : Bool) (picture : Option Vp8Picture) (said : Said) → Agrees codec before g → (s : References) (key : Referring)
    (later : List Reported) → numbered_since before ≡ Some (record { by = differences; key = key; later = later }) → pictures_since before ≡ None
    → KnowsFrames s key later → (units : Option Referring) → said.pictures ≡ units
    → Agrees codec (released false c picture said (after_differing g s (c && g.shows) units).shows ∷ before) (after_differing g s (c && g.shows) units)
differing codec before g c picture said a s key later is none knows None lacking =
    without codec before g c picture said a _ is none lacking (record g { shows = false; wants = true; followed = ways.Chain }) refl refl refl (rw (none, is, lacking) none_known)
differing codec before g c picture said a s key later is none knows (Some u) one =
    by_number codec before g c picture said a _ is none u one (shows_differing s (c && g.shows) u)
    (shows_named codec before g c picture said a _ is none u one (eqb u.distances 0) refl (shows_referring s u) (shows_differing s (c && g.shows) u) (refers_is s key later u knows) refl)
    (ways.Pictures (with_frames s u (shows_differing s (c && g.shows) u))) (pictures_known (knows_more s key later u (shows_differing s (c && g.shows) u) knows))

-- ---- units that are not

module _ (codec : Codec) (before : List Event) (g : KeyframeGate) (c : Bool) (said : Said) (a : Agrees codec before g) (unnumbered_so : numbered_since before ≡ None) where
  -- neither it nor a unit since the keyframe has ids
  plain : g.followed ≡ ways.Chain → pictures_since before ≡ None → (shown : Bool)
      → Agrees codec (released false c None said shown ∷ before) (record g { shows = c && g.shows; wants = g.wants || not (c && g.shows) })
  plain way none shown = record {
    codec_is = a.codec_is;
    follows = rw (way, none, unnumbered_so) none_known;
    plainly = λ n e. (there c, back);
    shows = (λ so. following_by c so, back_last);
    wants = (λ so. wanted_by g.wants refl (c && g.shows) refl so, needed);
  }
    where
      plainly_so : (g.shows ≡ true) ↔ FollowsPlainly before
      plainly_so = a.plainly unnumbered_so none

      there : (b : Bool) → (b && g.shows) ≡ true → FollowsPlainly (released false b None said shown ∷ before)
      there true so = next_unit (plainly_so.0 so)
      there false so = absurd (false≢true so)

      back : {b : Bool} → FollowsPlainly (released false b None said shown ∷ before) → (b && g.shows) ≡ true
      back (next_unit so) = plainly_so.1 so

      following_by : (b : Bool) → (b && g.shows) ≡ true → ShowsLast (released false b None said shown ∷ before)
      following_by true so = following (plainly_so.0 so)
      following_by false so = absurd (false≢true so)

      back_last : {b : Bool} → ShowsLast (released false b None said shown ∷ before) → (b && g.shows) ≡ true
      back_last (following so) = plainly_so.1 so
      back_last (by_numbers so this has named) = absurd (differ unnumbered_so so)
      back_last (by_the_unit_before so this has named last) = absurd (differ unnumbered_so so)

      not_base : IsOfBaseBy (numbered_since before) None said → ⊥
      not_base base = subst (λ (o : Option Numbered). IsOfBaseBy o None said) unnumbered_so base

      wanted_by : (old : Bool) → g.wants ≡ old → (it : Bool) → (c && g.shows) ≡ it → (old || not it) ≡ true → WantsKeyframe (released false c None said shown ∷ before)
      wanted_by true was it is so = still not_base (a.wants.0 was)
      wanted_by false was true is so = absurd (false≢true so)
      wanted_by false was false is so = undecodable unnumbered_so (λ last. false≢true (sym is ∙ back_last last))

      needed : WantsKeyframe (released false c None said shown ∷ before) → (g.wants || not (c && g.shows)) ≡ true
      needed (undecodable n none_shown) = by (c && g.shows) refl
        where
          by : (it : Bool) → (c && g.shows) ≡ it → (g.wants || not it) ≡ true
          by true is = absurd (none_shown (following_by c is))
          by false is = or_right g.wants true refl
      needed (unnumbered so lacking) = absurd (differ unnumbered_so so)
      needed (undecodable_base so base shown) = absurd (differ unnumbered_so so)
      needed (still base so) = rw (a.wants.1 so) refl

  -- it has ids, and a unit since the keyframe has none
  first_ids : (p : Vp8Picture) → pictures_since before ≡ None → (shown : Bool)
      → Agrees codec (released false c (Some p) said shown ∷ before) (record g { shows = false; wants = true; followed = ways.Chain })
  first_ids p none shown = record {
    codec_is = a.codec_is;
    follows = rw (none, unnumbered_so) none_known;
    plainly = λ n e. (λ so. absurd (false≢true so), never);
    shows = (λ so. absurd (false≢true so), never_last);
    wants = (λ so. without_base unnumbered_so (λ has. subst (λ (ps : Option Pictures). HasBaseIn ps p) none has), λ so. refl);
  }
    where
      never : {b : Bool} → FollowsPlainly (released false b (Some p) said shown ∷ before) → false ≡ true
      never = elim [ ]

      never_last : {b : Bool} → ShowsLast (released false b (Some p) said shown ∷ before) → false ≡ true
      never_last (by_references can) = absurd (subst (λ (ps : Option Pictures). CanBeShownIn ps p) none can)
      never_last (by_numbers so this has named) = absurd (differ unnumbered_so so)
      never_last (by_the_unit_before so this has named last) = absurd (differ unnumbered_so so)

  -- it has no ids, and all units since the keyframe have them
  no_ids : (ps : Pictures) → pictures_since before ≡ Some ps → (shown : Bool)
      → Agrees codec (released false c None said shown ∷ before) (record g { shows = false; wants = true; followed = ways.Chain })
  no_ids ps some shown = record {
    codec_is = a.codec_is;
    follows = rw (some, unnumbered_so) none_known;
    plainly = λ n e. (λ so. absurd (false≢true so), never);
    shows = (λ so. absurd (false≢true so), never_last);
    wants = (λ so. undecodable unnumbered_so (λ last. false≢true (never_last last)), λ so. refl);
  }
    where
      never : {b : Bool} → FollowsPlainly (released false b None said shown ∷ before) → false ≡ true
      never (next_unit so) = absurd (differ (no_pictures so) some)

      never_last : {b : Bool} → ShowsLast (released false b None said shown ∷ before) → false ≡ true
      never_last (following so) = absurd (differ (no_pictures so) some)
      never_last (by_numbers so this has named) = absurd (differ unnumbered_so so)
      never_last (by_the_unit_before so this has named last) = absurd (differ unnumbered_so so)

  -- all units since the keyframe have ids
  by_ids : (p : Vp8Picture) → p.layer ≤ 3 → (s : Vp8Layers) (ps : Pictures) → pictures_since before ≡ Some ps → Knows s ps
      → Agrees codec (released false c (Some p) said (shows_picture s p) ∷ before)
      (record g { shows = shows_picture s p; wants = not (has_base s p) || (g.wants && not (eqb p.layer 0)); followed = ways.Layers (after_picture s p) })
  by_ids p few s ps some knows = record {
    codec_is = a.codec_is;
    follows = rw (some, unnumbered_so) (layers_known (knows_next s ps p knows));
    plainly = λ n e. absurd (none_some (sym e ∙ pictures));
    shows = (λ so. by_references (rw (some) ((shows_is s ps p knows few).0 so)), shown_back);
    wants = (λ so. wanted_by (has_base s p) refl so, needed);
  }
    where
      pictures : pictures_since (released false c (Some p) said (shows_picture s p) ∷ before) ≡ Some (record ps { later = record { picture = p; shown = shows_picture s p } ∷ ps.later })
      pictures = rw (some) refl

      shown_back : {b : Bool} → ShowsLast (released false b (Some p) said (shows_picture s p) ∷ before) → shows_picture s p ≡ true
      shown_back (by_references can) = (shows_is s ps p knows few).1 (subst (λ (x : Option Pictures). CanBeShownIn x p) some can)
      shown_back (by_numbers so this has named) = absurd (differ unnumbered_so so)
      shown_back (by_the_unit_before so this has named last) = absurd (differ unnumbered_so so)

      base_back : HasBaseIn (pictures_since before) p → has_base s p ≡ true
      base_back has = (has_base_is s ps p knows).1 (subst (λ (x : Option Pictures). HasBaseIn x p) some has)

      of_base : IsOfBaseBy (numbered_since before) (Some p) said → p.layer ≡ 0
      of_base base = subst (λ (o : Option Numbered). IsOfBaseBy o (Some p) said) unnumbered_so base

      not_base : not (eqb p.layer 0) ≡ true → p.layer ≡ 0 → ⊥
      not_base other base = false≢true (sym (ap not (eq-eqb p.layer 0 base)) ∙ other)

      wanted_by : (b : Bool) → has_base s p ≡ b → (not b || (g.wants && not (eqb p.layer 0))) ≡ true
          → WantsKeyframe (released false c (Some p) said (shows_picture s p) ∷ before)
      wanted_by false is so = without_base unnumbered_so (λ has. false≢true (sym is ∙ base_back has))
      wanted_by true is so = let parts = both g.wants (not (eqb p.layer 0)) so in still (λ base. not_base parts.1 (of_base base)) (a.wants.0 parts.0)

      other_layer : (p.layer ≡ 0 → ⊥) → not (eqb p.layer 0) ≡ true
      other_layer other = by (eqb p.layer 0) refl
        where
          by : (b : Bool) → eqb p.layer 0 ≡ b → not b ≡ true
          by true e = absurd (other (eqb-true p.layer 0 e))
          by false e = refl

      from_base : p.layer ≡ 0 → IsOfBaseBy (numbered_since before) (Some p) said
      from_base base = subst (λ (o : Option Numbered). IsOfBaseBy o (Some p) said) (sym unnumbered_so) base

      needed : WantsKeyframe (released false c (Some p) said (shows_picture s p) ∷ before) → (not (has_base s p) || (g.wants && not (eqb p.layer 0))) ≡ true
      needed (without_base n none) = by (has_base s p) refl
        where
          by : (b : Bool) → has_base s p ≡ b → (not b || (g.wants && not (eqb p.layer 0))) ≡ true
          by true is = absurd (none (rw (some) ((has_base_is s ps p knows).0 is)))
          by false is = refl
      needed (unnumbered so lacking) = absurd (differ unnumbered_so so)
      needed (undecodable_base so base shown) = absurd (differ unnumbered_so so)
      needed (still other so) =
          or_right (not (has_base s p)) (g.wants && not (eqb p.layer 0)) (rw (a.wants.1 so, other_layer (λ base. other (from_base base))) refl)

  in_chain : (picture : Option Vp8Picture) → g.followed ≡ ways.Chain → pictures_since before ≡ None
      → Agrees codec (released false c picture said (after_plain g c picture).shows ∷ before) (after_plain g c picture)
  in_chain None way none = plain way none (c && g.shows)
  in_chain (Some p) way none = first_ids p none false

  in_layers : (picture : Option Vp8Picture) → IsVp8 picture → (s : Vp8Layers) (ps : Pictures) → pictures_since before ≡ Some ps → Knows s ps
      → Agrees codec (released false c picture said (after_layered g s picture).shows ∷ before) (after_layered g s picture)
  in_layers None few s ps some knows = no_ids ps some false
  in_layers (Some p) few s ps some knows = by_ids p few s ps some knows

-- ---- each step

delta : (codec : Codec) (before : List Event) (g : KeyframeGate) (c : Bool) (picture : Option Vp8Picture) (said : Said) → IsVp8 picture → Agrees codec before g → {f : Followed}
    {ps : Option Pictures} {ns : Option Numbered} → g.followed ≡ f → pictures_since before ≡ ps → numbered_since before ≡ ns → Follows f ps ns
    → Agrees codec (released false c picture said (after_delta g f c picture said).shows ∷ before) (after_delta g f c picture said)
delta codec before g c picture said few a way none is none_known = in_chain codec before g c said a is picture way none
delta codec before g c picture said few a way some is (layers_known {s = s} {ps = ps} knows) = in_layers codec before g c said a is picture few s ps some knows
delta codec before g c picture said few a way none is (frames_known {s = s} {key = key} {later = later} knows) =
    described codec before g c picture said a s key later way is none knows said.frames refl
delta codec before g c picture said few a way none is (pictures_known {s = s} {key = key} {later = later} knows) =
    differing codec before g c picture said a s key later is none knows said.pictures refl

key_agrees : (codec : Codec) (before : List Event) (g : KeyframeGate) (c : Bool) (picture : Option Vp8Picture) (said : Said) → Agrees codec before g
    → Agrees codec (released true c picture said true ∷ before) (record g { shows = true; wants = false; followed = followed_by said.frames said.pictures picture })
key_agrees codec before g c picture said a = record {
  codec_is = a.codec_is;
  follows = follows_of said.frames said.pictures picture;
  plainly = λ n e. (λ so. from_key picture n e, λ so. refl);
  shows = (λ so. at_keyframe, λ so. refl);
  wants = (λ so. absurd (false≢true so), never);
}
  where
    follows_of : (frames pictures : Option Referring) (x : Option Vp8Picture)
        → Follows (followed_by frames pictures x) (begun_by (numbers_from frames pictures) x) (numbers_from frames pictures)
    follows_of (Some key) pictures x = frames_known (knows_first key)
    follows_of None (Some key) x = pictures_known (knows_first key)
    follows_of None None (Some key) = layers_known (knows_key key)
    follows_of None None None = none_known

    from_key : (x : Option Vp8Picture) → numbers_from said.frames said.pictures ≡ None → begun_by (numbers_from said.frames said.pictures) x ≡ None
        → FollowsPlainly (released true c x said true ∷ before)
    from_key None n e = from_keyframe n
    from_key (Some key) n e = absurd (none_some (sym e ∙ ap (λ (o : Option Numbered). begun_by o (Some key)) n))

    never : WantsKeyframe (released true c picture said true ∷ before) → false ≡ true
    never = elim [ ]

unit_agrees : (codec : Codec) (before : List Event) (g : KeyframeGate) (key c : Bool) (picture : Option Vp8Picture) (said : Said) → IsVp8 picture → Agrees codec before g
    → Agrees codec (released key c picture said (after_video g key c picture said).shows ∷ before) (after_video g key c picture said)
unit_agrees codec before g true c picture said few a = key_agrees codec before g c picture said a
unit_agrees codec before g false c picture said few a =
    delta codec before g c picture said few a refl refl refl a.follows

loss_agrees : (codec : Codec) (before : List Event) (g : KeyframeGate) → Agrees codec before g
    → Agrees codec (lost ∷ before) (record g { shows = false; wants = true; followed = followed_past g.followed })
loss_agrees codec before g a = record {
  codec_is = a.codec_is;
  follows = follows_past a.follows;
  plainly = λ n e. (λ so. absurd (false≢true so), never);
  shows = (λ so. absurd (false≢true so), never_last);
  wants = (λ so. after_lost, λ so. refl);
}
  where
    follows_past : {f : Followed} {ps : Option Pictures} {ns : Option Numbered} → Follows f ps ns → Follows (followed_past f) None ns
    follows_past none_known = none_known
    follows_past (layers_known knows) = none_known
    follows_past (frames_known knows) = frames_known knows
    follows_past (pictures_known knows) = pictures_known knows

    never : FollowsPlainly (lost ∷ before) → false ≡ true
    never = elim [ ]

    never_last : ShowsLast (lost ∷ before) → false ≡ true
    never_last = elim [ ]

skip_agrees : (codec : Codec) (before : List Event) (g : KeyframeGate) → Agrees codec before g → Agrees codec (skipped ∷ before) (record g { wants = true })
skip_agrees codec before g a = record {
  codec_is = a.codec_is;
  follows = a.follows;
  plainly = λ n e. (λ so. past_skipped ((a.plainly n e).0 so), past_back n e);
  shows = (λ so. past (a.shows.0 so), last_back);
  wants = (λ so. after_skipped, λ so. refl);
}
  where
    past_back : numbered_since before ≡ None → pictures_since before ≡ None → FollowsPlainly (skipped ∷ before) → g.shows ≡ true
    past_back n e (past_skipped so) = (a.plainly n e).1 so

    last_back : ShowsLast (skipped ∷ before) → g.shows ≡ true
    last_back (past so) = a.shows.1 so

new_agrees : (codec : Codec) → is_video codec ≡ true → Agrees codec [] (new_gate codec)
new_agrees codec video = record {
  codec_is = refl;
  follows = none_known;
  plainly = λ n e. (λ so. absurd (false≢true (sym (ap not video) ∙ so)), never);
  shows = (λ so. absurd (false≢true (sym (ap not video) ∙ so)), never_last);
  wants = (λ so. absurd (false≢true so), never_wanted);
}
  where
    never : FollowsPlainly [] → not (is_video codec) ≡ true
    never = elim [ ]

    never_last : ShowsLast [] → not (is_video codec) ≡ true
    never_last = elim [ ]

    never_wanted : WantsKeyframe [] → false ≡ true
    never_wanted = elim [ ]

-- ---- whole runs

agrees : (codec : Codec) → is_video codec ≡ true → {events : List Event} {g : KeyframeGate} → Run codec events g → Agrees codec events g
agrees codec video begins = new_agrees codec video
agrees codec video (releases {before = before} {g = g} key c picture said few run) =
    let a = agrees codec video run in
    rw (ap is_video a.codec_is ∙ video) (unit_agrees codec before g key c picture said few a)
agrees codec video (loses {before = before} {g = g} run) =
    let a = agrees codec video run in
    rw (ap is_video a.codec_is ∙ video) (loss_agrees codec before g a)
agrees codec video (skips {before = before} {g = g} run) =
    let a = agrees codec video run in
    rw (ap is_video a.codec_is ∙ video) (skip_agrees codec before g a)

pub gates_agree : GatesAgree
gates_agree codec events g video run = let a = agrees codec video run in (a.shows, a.wants)

pub units_follow_keyframes : UnitsFollowKeyframes
units_follow_keyframes codec before g key c picture said video few run so =
    let a = agrees codec video (releases key c picture said few run) in
    subst (λ (b : Bool). ShowsLast (released key c picture said b ∷ before)) so
    (a.shows.0 (shown_after g key c picture (ap is_video (agrees codec video run).codec_is ∙ video) so))
  where
    shown_after : (g : KeyframeGate) (key c : Bool) (picture : Option Vp8Picture) → is_video g.codec ≡ true → shows_unit g key c picture said ≡ true
        → (after_unit g key c picture said).shows ≡ true
    shown_after g key c picture is so = rw (is) (rw (is) at so)

pub plain_streams : PlainStreams
plain_streams [] silent = refl
plain_streams (released true contiguous picture said shown ∷ before) silent = silent.0
plain_streams (released false contiguous picture said shown ∷ before) silent = rw (plain_streams before silent) refl
plain_streams (lost ∷ before) silent = plain_streams before silent
plain_streams (skipped ∷ before) silent = plain_streams before silent
