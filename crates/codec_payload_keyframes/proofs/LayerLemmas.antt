-- What is known of the layers of VP8 is what was released.
use Rattle.std.proofs.Common.{◌≡◌, refl, sym, subst, ℕ, zero, suc, ◌+◌, ◌<◌, ◌≤◌, ◌&&◌, ◌||◌, inl, inr, not, List, [], ◌∷◌, Bool, true, false, cond, eqb, ltb, arith, leb, Option, Some, None}
use Rattle.std.specs.Prelude.{◌↔◌}
use Rattle.std.proofs.lemmas.Bool.{and_from, eq-eqb, eqb-true, eqb-false, false≢true, lt-ltb, le-ltb, ltb-true, ltb-false, ne_eqb, leb-true}
use Rattle.codec_payload_keyframes.specs.Vp8Layers.{CanBeShown, HasBase, Pictures, Released, Rises, Serves, after_keyframe, after_picture, first_of, has_base, has_layers, index_after, is_kept, is_sync, is_usable, latest_base, latest_id, layer_after, new_layer, picture_by, picture_of, refers_above, shows_picture}
use Rattle.codec_payload_base.specs.declared.interface.CodecExtra.{CodecExtra}
use Rattle.codec_payload_base.specs.declared.interface.CodecExtra.TheVariants as extras
use Rattle.codec_payload_keyframes.specs.Keyframes.{IsVp8}
use Rattle.codec_payload_keyframes.specs.declared.vp8_layers.Layer.{Layer}
use Rattle.codec_payload_keyframes.specs.declared.vp8_layers.Vp8Layers.{Vp8Layers}
use Rattle.codec_payload_keyframes.specs.declared.vp8_layers.Vp8Picture.{Vp8Picture}

pub both : (a b : Bool) → (a && b) ≡ true → (a ≡ true) × (b ≡ true)
both true b e = (refl, e)
both false b e = absurd (false≢true e)

-- ---- ids

key_low : (key : Vp8Picture) (later : List Released) → Rises key later → key.id ≤ latest_id key later
key_low key [] rises = omega arith
key_low key (r ∷ rs) rises = omega (arith, key_low key rs rises.1, rises.0)

serves_low : (l id : ℕ) (key : Vp8Picture) (later : List Released) → Rises key later → Serves l id key later → id ≤ latest_id key later
serves_low l id key [] rises is = omega (arith, is)
serves_low l id key (r ∷ rs) rises (inl is) = omega (arith, is.0)
serves_low l id key (r ∷ rs) rises (inr is) = omega (arith, serves_low l id key rs rises.1 is, rises.0)

base_low : (key : Vp8Picture) (later : List Released) → Rises key later → (latest_base key later).picture.id ≤ latest_id key later
base_low key [] rises = omega arith
base_low key (r ∷ rs) rises = by (eqb r.picture.layer 0) (base_low key rs rises.1)
  where
    by : (b : Bool) → (latest_base key rs).picture.id ≤ latest_id key rs → (cond b r (latest_base key rs)).picture.id ≤ r.picture.id
    by true low = omega arith
    by false low = omega (arith, low, rises.0)

first_low : (l : ℕ) (key : Vp8Picture) (later : List Released) → Rises key later → first_of l key later ≤ latest_id key later
first_low l key [] rises = omega arith
first_low l key (r ∷ rs) rises = by (is_sync l r.picture) (first_low l key rs rises.1)
  where
    by : (b : Bool) → first_of l key rs ≤ latest_id key rs → cond b (latest_base key rs).picture.id (first_of l key rs) ≤ r.picture.id
    by true low = omega (arith, base_low key rs rises.1, rises.0)
    by false low = omega (arith, low, rises.0)

-- ---- a row of ids

-- each picture from this id on lacks nothing for layer l
abbrev pub AllServe : ℕ → ℕ → Vp8Picture → List Released → Type 0
AllServe l from key later = (id : ℕ) → from ≤ id → id ≤ latest_id key later → Serves l id key later

serves_less : (l id : ℕ) (key : Vp8Picture) (r : Released) (rs : List Released) → id < r.picture.id → Serves l id key (r ∷ rs) → Serves l id key rs
serves_less l id key r rs low (inl is) = absurd (omega (arith, low, is.0))
serves_less l id key r rs low (inr is) = is

-- the latest picture itself
serves_here : (l id : ℕ) (key : Vp8Picture) (r : Released) (rs : List Released) → Rises key rs → latest_id key rs < id → Serves l id key (r ∷ rs)
    → (id ≡ r.picture.id) × (is_usable l r ≡ true)
serves_here l id key r rs rises high (inl is) = is
serves_here l id key r rs rises high (inr is) = absurd (omega (arith, high, serves_low l id key rs rises is))

one_more : (l from : ℕ) (key : Vp8Picture) (r : Released) (rs : List Released) → r.picture.id ≡ suc (latest_id key rs) → is_usable l r ≡ true
    → AllServe l from key rs → AllServe l from key (r ∷ rs)
one_more l from key r rs next usable all = λ id low high. by id low high (ltb (latest_id key rs) id) refl
  where
    by : (id : ℕ) → from ≤ id → id ≤ r.picture.id → (b : Bool) → ltb (latest_id key rs) id ≡ b → Serves l id key (r ∷ rs)
    by id low high true e = inl (omega (arith, high, next, ltb-true (latest_id key rs) id e), usable)
    by id low high false e = inr (all id low (omega (arith, ltb-false (latest_id key rs) id e)))

one_less : (l from : ℕ) (key : Vp8Picture) (r : Released) (rs : List Released) → Rises key (r ∷ rs) → AllServe l from key (r ∷ rs) → AllServe l from key rs
one_less l from key r rs rises all = λ id low high. serves_less l id key r rs (omega (arith, high, rises.0)) (all id low (omega (arith, high, rises.0)))

is_next : (l from : ℕ) (key : Vp8Picture) (r : Released) (rs : List Released) → Rises key (r ∷ rs) → from ≤ latest_id key rs → AllServe l from key (r ∷ rs)
    → r.picture.id ≡ suc (latest_id key rs)
is_next l from key r rs rises low all =
    sym (serves_here l (suc (latest_id key rs)) key r rs rises.1 (omega arith) (all (suc (latest_id key rs)) (omega (arith, low)) (omega (arith, rises.0)))).0

is_fit : (l from : ℕ) (key : Vp8Picture) (r : Released) (rs : List Released) → Rises key (r ∷ rs) → from ≤ latest_id key rs → AllServe l from key (r ∷ rs)
    → is_usable l r ≡ true
is_fit l from key r rs rises low all = (serves_here l r.picture.id key r rs rises.1 rises.0 (all r.picture.id (omega (arith, low, rises.0)) (omega arith))).1

-- the row goes on exactly if the picture follows and lacks nothing
goes_on : (l from last : ℕ) (was : Bool) (key : Vp8Picture) (p : Vp8Picture) (shown : Bool) (rs : List Released) → last ≡ latest_id key rs
    → Rises key (record { picture = p; shown = shown } ∷ rs) → from ≤ latest_id key rs → ((was ≡ true) ↔ AllServe l from key rs)
    → ((was && is_kept l p (eqb p.id (last + 1)) shown) ≡ true) ↔ AllServe l from key (record { picture = p; shown = shown } ∷ rs)
goes_on l from last was key p shown rs last_is rises low known = (there, back)
  where
    r : Released
    r = record { picture = p; shown = shown }

    there : (was && is_kept l p (eqb p.id (last + 1)) shown) ≡ true → AllServe l from key (r ∷ rs)
    there e =
        let parts = both was (is_kept l p (eqb p.id (last + 1)) shown) e in
        let kept = both (eqb p.id (last + 1)) (is_usable l r) parts.1 in
        one_more l from key r rs (omega (arith, last_is, eqb-true p.id (last + 1) kept.0)) kept.1 (known.0 parts.0)

    back : AllServe l from key (r ∷ rs) → (was && is_kept l p (eqb p.id (last + 1)) shown) ≡ true
    back all =
        and_from was (is_kept l p (eqb p.id (last + 1)) shown) (known.1 (one_less l from key r rs rises all))
        (and_from (eqb p.id (last + 1)) (is_usable l r) (eq-eqb p.id (last + 1) (omega (arith, last_is, is_next l from key r rs rises low all)))
        (is_fit l from key r rs rises low all))

-- ---- one layer

pub record LayerIs (l : ℕ) (x : Layer) (key : Vp8Picture) (later : List Released) : Type 0 where
  pub whole : (x.is_whole ≡ true) ↔ AllServe l (first_of l key later) key later
  pub since : (x.is_whole_since_base ≡ true) ↔ AllServe l (latest_base key later).picture.id key later

only_key : (l : ℕ) (key : Vp8Picture) → AllServe l key.id key []
only_key l key = λ id low high. omega (arith, low, high)

new_is : (l : ℕ) (key : Vp8Picture) → LayerIs l new_layer key []
new_is l key = record { whole = (λ e. only_key l key, λ all. refl); since = (λ e. only_key l key, λ all. refl) }

-- a picture of the base layer is of another layer
base_usable : (l : ℕ) (p : Vp8Picture) (shown : Bool) → 1 ≤ l → p.layer ≡ 0 → is_usable l (record { picture = p; shown = shown }) ≡ true
base_usable l p shown above base = rw (ne_eqb p.layer l (λ e. omega (arith, above, base, e))) refl

alone : (l : ℕ) (key p : Vp8Picture) (shown : Bool) (rs : List Released) → 1 ≤ l → p.layer ≡ 0 → AllServe l p.id key (record { picture = p; shown = shown } ∷ rs)
alone l key p shown rs above base = λ id low high. inl (omega (arith, low, high), base_usable l p shown above base)

pub after_is : (l last : ℕ) (x : Layer) (key p : Vp8Picture) (shown : Bool) (rs : List Released) → 1 ≤ l → last ≡ latest_id key rs
    → Rises key (record { picture = p; shown = shown } ∷ rs) → LayerIs l x key rs
    → LayerIs l (layer_after l p (eqb p.id (last + 1)) shown x) key (record { picture = p; shown = shown } ∷ rs)
after_is l last x key p shown rs above last_is rises known = record { whole = by_sync (is_sync l p) refl; since = by_layer (eqb p.layer 0) refl }
  where
    r : Released
    r = record { picture = p; shown = shown }

    kept : Bool
    kept = is_kept l p (eqb p.id (last + 1)) shown

    by_sync : (b : Bool) → is_sync l p ≡ b
        → ((cond b x.is_whole_since_base x.is_whole && kept) ≡ true) ↔ AllServe l (cond b (latest_base key rs).picture.id (first_of l key rs)) key (r ∷ rs)
    by_sync true e = goes_on l (latest_base key rs).picture.id last x.is_whole_since_base key p shown rs last_is rises (base_low key rs rises.1) known.since
    by_sync false e = goes_on l (first_of l key rs) last x.is_whole key p shown rs last_is rises (first_low l key rs rises.1) known.whole

    by_layer : (b : Bool) → eqb p.layer 0 ≡ b
        → ((b || (x.is_whole_since_base && kept)) ≡ true) ↔ AllServe l (cond b r (latest_base key rs)).picture.id key (r ∷ rs)
    by_layer true e = (λ so. alone l key p shown rs above (eqb-true p.layer 0 e), λ all. refl)
    by_layer false e = goes_on l (latest_base key rs).picture.id last x.is_whole_since_base key p shown rs last_is rises (base_low key rs rises.1) known.since

-- ---- all layers

pub record Knows (s : Vp8Layers) (ps : Pictures) : Type 0 where
  pub last_is : s.last ≡ latest_id ps.key ps.later
  pub base_is : s.base ≡ (latest_base ps.key ps.later).picture.base
  pub shown_is : (s.is_base_shown ≡ true) ↔ (Rises ps.key ps.later × ((latest_base ps.key ps.later).shown ≡ true))
  pub first_is : Rises ps.key ps.later → LayerIs 1 s.first ps.key ps.later
  pub second_is : Rises ps.key ps.later → LayerIs 2 s.second ps.key ps.later
  pub third_is : Rises ps.key ps.later → LayerIs 3 s.third ps.key ps.later

pub knows_key : (key : Vp8Picture) → Knows (after_keyframe key) (record { key = key; later = [] })
knows_key key = record {
  last_is = refl;
  base_is = refl;
  shown_is = (λ e. (tt, refl), λ so. refl);
  first_is = λ rises. new_is 1 key;
  second_is = λ rises. new_is 2 key;
  third_is = λ rises. new_is 3 key;
}

-- the picture of the base layer on which p depends
pub has_base_is : (s : Vp8Layers) (ps : Pictures) (p : Vp8Picture) → Knows s ps → (has_base s p ≡ true) ↔ HasBase ps p
has_base_is s ps p knows = (there, back)
  where
    named : p.base ≡ index_after s.base p → p.base ≡ index_after (latest_base ps.key ps.later).picture.base p
    named e = subst (λ (n : ℕ). p.base ≡ index_after n p) knows.base_is e

    there : has_base s p ≡ true → HasBase ps p
    there e =
        let parts = both (ltb s.last p.id) (s.is_base_shown && eqb p.base (index_after s.base p)) e in
        let rest = both s.is_base_shown (eqb p.base (index_after s.base p)) parts.1 in
        let shown = knows.shown_is.0 rest.0 in
        record {
          rises = shown.0;
          above = omega (arith, knows.last_is, ltb-true s.last p.id parts.0);
          shown = shown.1;
          named = named (eqb-true p.base (index_after s.base p) rest.1);
        }

    back : HasBase ps p → has_base s p ≡ true
    back has =
        and_from (ltb s.last p.id) (s.is_base_shown && eqb p.base (index_after s.base p)) (lt-ltb s.last p.id (omega (arith, knows.last_is, has.above)))
        (and_from s.is_base_shown (eqb p.base (index_after s.base p)) (knows.shown_is.1 (has.rises, has.shown))
        (eq-eqb p.base (index_after s.base p) (subst (λ (n : ℕ). p.base ≡ index_after n p) (sym knows.base_is) has.named)))

-- each picture before p serves layer l exactly if the layer is whole and p follows
row_is : (l last : ℕ) (x : Layer) (key p : Vp8Picture) (rs : List Released) → last ≡ latest_id key rs → p.id ≡ last + 1 → LayerIs l x key rs → x.is_whole ≡ true
    → (id : ℕ) → first_of l key rs ≤ id → id < p.id → Serves l id key rs
row_is l last x key p rs last_is follows known whole = λ id low high. known.whole.0 whole id low (omega (arith, high, follows, last_is))

row_back : (l : ℕ) (x : Layer) (key p : Vp8Picture) (rs : List Released) → latest_id key rs < p.id → LayerIs l x key rs
    → ((id : ℕ) → first_of l key rs ≤ id → id < p.id → Serves l id key rs) → x.is_whole ≡ true
row_back l x key p rs above known all = known.whole.1 (λ id low high. all id low (omega (arith, high, above)))

row_follows : (l last : ℕ) (key p : Vp8Picture) (rs : List Released) → last ≡ latest_id key rs → latest_id key rs < p.id → Rises key rs
    → ((id : ℕ) → first_of l key rs ≤ id → id < p.id → Serves l id key rs) → p.id ≡ last + 1
row_follows l last key p rs last_is above rises all = by (ltb (suc (latest_id key rs)) p.id) refl
  where
    by : (b : Bool) → ltb (suc (latest_id key rs)) p.id ≡ b → p.id ≡ last + 1
    by false e = omega (arith, last_is, above, ltb-false (suc (latest_id key rs)) p.id e)
    by true e =
        absurd (omega (
          arith,
          serves_low l (suc (latest_id key rs)) key rs rises
              (all (suc (latest_id key rs)) (omega (arith, first_low l key rs rises)) (ltb-true (suc (latest_id key rs)) p.id e)),
        ))

low_or : (n l : ℕ) (b : Bool) → (ltb n l || b) ≡ true → l ≤ n → b ≡ true
low_or n l b e low = rw (le-ltb n l low) at e

or_low : (n l : ℕ) (b : Bool) → (l ≤ n → b ≡ true) → (ltb n l || b) ≡ true
or_low n l b so = by (ltb n l) refl
  where
    by : (c : Bool) → ltb n l ≡ c → (c || b) ≡ true
    by true e = refl
    by false e = so (ltb-false n l e)

-- the layers to which p may refer
has_layers_is : (s : Vp8Layers) (ps : Pictures) (p : Vp8Picture) → Knows s ps → p.layer ≤ 3 → HasBase ps p → has_layers s p ≡ true
    → (l : ℕ) → 1 ≤ l → l ≤ p.layer → (id : ℕ) → first_of l ps.key ps.later ≤ id → id < p.id → Serves l id ps.key ps.later
has_layers_is s ps p knows few has e = by
  where
    parts : (eqb p.id (s.last + 1) ≡ true) × ((s.first.is_whole && ((ltb p.layer 2 || s.second.is_whole) && (ltb p.layer 3 || s.third.is_whole))) ≡ true)
    parts = both (eqb p.id (s.last + 1)) (s.first.is_whole && ((ltb p.layer 2 || s.second.is_whole) && (ltb p.layer 3 || s.third.is_whole))) e

    whole : (s.first.is_whole ≡ true) × (((ltb p.layer 2 || s.second.is_whole) && (ltb p.layer 3 || s.third.is_whole)) ≡ true)
    whole = both s.first.is_whole ((ltb p.layer 2 || s.second.is_whole) && (ltb p.layer 3 || s.third.is_whole)) parts.1

    upper : ((ltb p.layer 2 || s.second.is_whole) ≡ true) × ((ltb p.layer 3 || s.third.is_whole) ≡ true)
    upper = both (ltb p.layer 2 || s.second.is_whole) (ltb p.layer 3 || s.third.is_whole) whole.1

    follows : p.id ≡ s.last + 1
    follows = eqb-true p.id (s.last + 1) parts.0

    by : (l : ℕ) → 1 ≤ l → l ≤ p.layer → (id : ℕ) → first_of l ps.key ps.later ≤ id → id < p.id → Serves l id ps.key ps.later
    by zero above low = absurd (omega (arith, above))
    by (suc zero) above low = row_is 1 s.last s.first ps.key p ps.later knows.last_is follows (knows.first_is has.rises) whole.0
    by (suc (suc zero)) above low = row_is 2 s.last s.second ps.key p ps.later knows.last_is follows (knows.second_is has.rises) (low_or p.layer 2 s.second.is_whole upper.0 low)
    by (suc (suc (suc zero))) above low = row_is 3 s.last s.third ps.key p ps.later knows.last_is follows (knows.third_is has.rises) (low_or p.layer 3 s.third.is_whole upper.1 low)
    by (suc (suc (suc (suc l)))) above low = absurd (omega (arith, low, few))

has_layers_back : (s : Vp8Layers) (ps : Pictures) (p : Vp8Picture) → Knows s ps → HasBase ps p → 1 ≤ p.layer
    → ((l : ℕ) → 1 ≤ l → l ≤ p.layer → (id : ℕ) → first_of l ps.key ps.later ≤ id → id < p.id → Serves l id ps.key ps.later) → has_layers s p ≡ true
has_layers_back s ps p knows has above all =
    and_from (eqb p.id (s.last + 1)) (s.first.is_whole && ((ltb p.layer 2 || s.second.is_whole) && (ltb p.layer 3 || s.third.is_whole)))
    (eq-eqb p.id (s.last + 1) (row_follows 1 s.last ps.key p ps.later knows.last_is has.above has.rises (all 1 (omega arith) above)))
    (and_from s.first.is_whole ((ltb p.layer 2 || s.second.is_whole) && (ltb p.layer 3 || s.third.is_whole))
    (row_back 1 s.first ps.key p ps.later has.above (knows.first_is has.rises) (all 1 (omega arith) above))
    (and_from (ltb p.layer 2 || s.second.is_whole) (ltb p.layer 3 || s.third.is_whole)
    (or_low p.layer 2 s.second.is_whole (λ low. row_back 2 s.second ps.key p ps.later has.above (knows.second_is has.rises) (all 2 (omega arith) low)))
    (or_low p.layer 3 s.third.is_whole (λ low. row_back 3 s.third ps.key p ps.later has.above (knows.third_is has.rises) (all 3 (omega arith) low)))))

-- p can be shown exactly if the layers say so
pub shows_is : (s : Vp8Layers) (ps : Pictures) (p : Vp8Picture) → Knows s ps → p.layer ≤ 3 → (shows_picture s p ≡ true) ↔ CanBeShown ps p
shows_is s ps p knows few = (there, back)
  where
    there : shows_picture s p ≡ true → CanBeShown ps p
    there e =
        let parts = both (has_base s p) (not (refers_above p) || has_layers s p) e in
        let has = (has_base_is s ps p knows).0 parts.0 in
        record {
          base = has;
          layers = λ refers. has_layers_is s ps p knows few has (rw (refers) at parts.1);
        }

    above : refers_above p ≡ true → 1 ≤ p.layer
    above refers = by (eqb p.layer 0) refl (both (not (eqb p.layer 0)) (not p.sync) refers).0
      where
        by : (b : Bool) → eqb p.layer 0 ≡ b → not b ≡ true → 1 ≤ p.layer
        by true e differs = absurd (false≢true differs)
        by false e differs = by_zero p.layer (eqb-false p.layer 0 e)
          where
            by_zero : (n : ℕ) → (n ≡ 0 → ⊥) → 1 ≤ n
            by_zero zero other = absurd (other refl)
            by_zero (suc n) other = omega arith

    back : CanBeShown ps p → shows_picture s p ≡ true
    back can = and_from (has_base s p) (not (refers_above p) || has_layers s p) ((has_base_is s ps p knows).1 can.base) (by (refers_above p) refl)
      where
        by : (b : Bool) → refers_above p ≡ b → (not b || has_layers s p) ≡ true
        by true e = has_layers_back s ps p knows can.base (above e) (can.layers e)
        by false e = refl

-- one more picture
pub knows_next : (s : Vp8Layers) (ps : Pictures) (p : Vp8Picture) → Knows s ps
    → Knows (after_picture s p) (record ps { later = record { picture = p; shown = shows_picture s p } ∷ ps.later })
knows_next s ps p knows = record {
  last_is = refl;
  base_is = by_base (eqb p.layer 0);
  shown_is = by_shown (eqb p.layer 0) refl;
  first_is = λ rises. after_is 1 s.last s.first ps.key p (shows_picture s p) ps.later (omega arith) knows.last_is rises (knows.first_is rises.1);
  second_is = λ rises. after_is 2 s.last s.second ps.key p (shows_picture s p) ps.later (omega arith) knows.last_is rises (knows.second_is rises.1);
  third_is = λ rises. after_is 3 s.last s.third ps.key p (shows_picture s p) ps.later (omega arith) knows.last_is rises (knows.third_is rises.1);
}
  where
    r : Released
    r = record { picture = p; shown = shows_picture s p }

    by_base : (b : Bool) → cond b p.base s.base ≡ (cond b r (latest_base ps.key ps.later)).picture.base
    by_base true = refl
    by_base false = knows.base_is

    rises_next : ltb s.last p.id ≡ true → latest_id ps.key ps.later < p.id
    rises_next e = omega (arith, knows.last_is, ltb-true s.last p.id e)

    by_shown : (b : Bool) → eqb p.layer 0 ≡ b
        → (cond b (shows_picture s p) (ltb s.last p.id && s.is_base_shown) ≡ true)
        ↔ (((latest_id ps.key ps.later < p.id) × Rises ps.key ps.later) × ((cond b r (latest_base ps.key ps.later)).shown ≡ true))
    by_shown true e =
        (λ so. let has = (has_base_is s ps p knows).0 (both (has_base s p) (not (refers_above p) || has_layers s p) so).0 in ((has.above, has.rises), so), λ so. so.1)
    by_shown false e = (
      λ so. let parts = both (ltb s.last p.id) s.is_base_shown so in let known = knows.shown_is.0 parts.1 in ((rises_next parts.0, known.0), known.1),
      λ so. and_from (ltb s.last p.id) s.is_base_shown (lt-ltb s.last p.id (omega (arith, knows.last_is, so.0.0))) (knows.shown_is.1 (so.0.1, so.1)),
    )

-- the layer of a picture has two bits
pub layer_fits : (extra : CodecExtra) → IsVp8 (picture_of extra)
layer_fits extras.None = tt
layer_fits (extras.Vp8 v) = by v.picture_id v.tl0_picture_id
  where
    by_layer : (id base : ℕ) (b : Bool) → leb v.layer_index 3 ≡ b
        → IsVp8 (cond b (Some (record { id = id; base = base; layer = v.layer_index; sync = v.sync; discardable = v.discardable })) None)
    by_layer id base true e = leb-true v.layer_index 3 e
    by_layer id base false e = tt

    by : (id base : Option ℕ) → IsVp8 (picture_by v id base)
    by None base = tt
    by (Some id) None = tt
    by (Some id) (Some base) = by_layer id base (leb v.layer_index 3) refl
layer_fits (extras.Vp9 v) = tt
layer_fits (extras.Av1 v) = tt
layer_fits (extras.Tele e) = tt
