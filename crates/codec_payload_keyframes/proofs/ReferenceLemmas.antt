-- What is known of units that name the frames to which they refer is what was released.
use Rattle.std.proofs.Common.{◌≡◌, ◌∙◌, refl, sym, ap, subst, ℕ, zero, suc, ◌+◌, ◌-◌, ◌*◌, ◌^◌, ◌%◌, ◌/◌, ◌<◌, ◌≤◌, ◌&&◌, ◌⊎◌, inl, inr, max, min, List, [], ◌∷◌, Bool, true, false, cond, eqb, ltb, arith}
use Rattle.std.specs.Prelude.{◌↔◌}
use Rattle.std.specs.Int.{bit_at, leading_zeros}
use Rattle.std.specs.Int.Count.{count_leading_zeros}
use Rattle.std.specs.Int.Width.{w128}
use Rattle.std.specs.Int.Bits.{bit_and, bit_or}
use Rattle.std.proofs.lemmas.Bool.{and_from, eq-eqb, eqb-true, false≢true, lt-ltb, ltb-true, ltb-false}
use Rattle.std.proofs.Math.Nat.{pow-le-pow_right, pow-suc}
use Rattle.std.proofs.lemmas.Nat.{and_le_r, leading_length, pow_pos}
use Rattle.std.proofs.lemmas.Nat.Bits.{bit_at-lt, bit_at-zero, bit_at_and, bit_at_mask_below, bit_at_mask_inside, bit_at_cat_high, bit_at_cat_low, bit_at_not, bit_at_or, same_from_bits_below}
use Rattle.codec_payload_keyframes.proofs.LayerLemmas.{both}
use Rattle.codec_payload_keyframes.specs.References.{FollowsReferences, HasFrame, HasReferences, IsBelow, IsShownAt, NumbersRise, ReferenceRun, Reported, after_key_frames, begins, latest_number, lower_numbers, moved_on, releases, seen_from, shows_referring, with_frames}
use Rattle.codec_payload_keyframes.specs.declared.references.References.{References}
use Rattle.codec_payload_keyframes.specs.declared.references.Referring.{Referring}

-- ---- numbers

-- a frame that was released has a number up to the latest one
shown_low : (n d : ℕ) (key : Referring) (later : List Reported) → NumbersRise key later → IsShownAt n d key later → n ≤ latest_number key later + d
shown_low n d key [] rise (inl is) = is.0
shown_low n d key [] rise (inr is) = is.0
shown_low n d key (r ∷ rs) rise (inl is) = is.0.0
shown_low n d key (r ∷ rs) rise (inr is) = omega (arith, shown_low n d key rs rise.1 is, rise.0)

-- the same frame, from another number on
moved_frame : (n d m e : ℕ) (u : Referring) → n + e ≡ m + d → HasFrame n d u → HasFrame m e u
moved_frame n d m e u same has = (omega (arith, has.0, same), subst (λ (i : ℕ). bit_at u.frames i ≡ 1) (omega (arith, has.0, same)) has.1)

moved_below : (n d m e : ℕ) (u : Referring) → n + e ≡ m + d → IsBelow n d u → IsBelow m e u
moved_below n d m e u same below = (omega (arith, below.0, same), subst (λ (i : ℕ). u.frames < 2 ^ i) (omega (arith, below.0, same)) below.1)

moved_shown : (n d m e : ℕ) (key : Referring) (later : List Reported) → n + e ≡ m + d → IsShownAt n d key later → IsShownAt m e key later
moved_shown n d m e key [] same (inl is) = inl (moved_frame n d m e key same is)
moved_shown n d m e key [] same (inr is) = inr (moved_below n d m e key same is)
moved_shown n d m e key (r ∷ rs) same (inl is) = inl (moved_frame n d m e r.unit same is.0, is.1)
moved_shown n d m e key (r ∷ rs) same (inr is) = inr (moved_shown n d m e key rs same is)

-- ---- bits

low_bits : (x i : ℕ) → i < 128 → bit_at (x % 2 ^ 128) i ≡ bit_at x i
low_bits x i low = sym (subst (λ (y : ℕ). bit_at y i ≡ bit_at (x % 2 ^ 128) i) (omega arith) (bit_at_cat_low (x / 2 ^ 128) 128 (x % 2 ^ 128) i low))

-- a bit of a row that moved on
moved_low : (shown gap i : ℕ) → i < gap → i < 128 → bit_at (moved_on shown gap) i ≡ 0
moved_low shown gap i below low = by (ltb gap 128) refl
  where
    by : (b : Bool) → ltb gap 128 ≡ b → bit_at (cond b (shown * 2 ^ gap % 2 ^ 128) 0) i ≡ 0
    by true e = low_bits (shown * 2 ^ gap) i low ∙ subst (λ (y : ℕ). bit_at y i ≡ 0) (omega arith) (bit_at_cat_low shown gap 0 i below ∙ bit_at-zero i)
    by false e = bit_at-zero i

moved_high : (shown gap i : ℕ) → gap ≤ i → i < 128 → 0 < 2 ^ gap → bit_at (moved_on shown gap) i ≡ bit_at shown (i - gap)
moved_high shown gap i above low some =
    rw (lt-ltb gap 128 (omega (arith, above, low)))
    (low_bits (shown * 2 ^ gap) i low ∙ subst (λ (y : ℕ). bit_at y i ≡ bit_at shown (i - gap)) (omega arith) (bit_at_cat_high shown gap 0 i some above))

bit_is : (x i : ℕ) → (bit_at x i ≡ 0) ⊎ (bit_at x i ≡ 1)
bit_is x i = by (bit_at x i) (bit_at-lt x i)
  where
    by : (n : ℕ) → n < 2 → (n ≡ 0) ⊎ (n ≡ 1)
    by zero low = inl refl
    by (suc zero) low = inr refl
    by (suc (suc n)) low = absurd (omega (arith, low))

moved_fits : (shown gap : ℕ) → moved_on shown gap < 2 ^ 128
moved_fits shown gap = by (ltb gap 128)
  where
    by : (b : Bool) → cond b (shown * 2 ^ gap % 2 ^ 128) 0 < 2 ^ 128
    by true = omega arith
    by false = omega arith

-- no bit of `wanted` is missing in `there`
all_there : (wanted there : ℕ) → there < 2 ^ 128 → bit_and wanted (2 ^ 128 - 1 - there) ≡ 0 → (d : ℕ) → d < 128 → bit_at wanted d ≡ 1 → bit_at there d ≡ 1
all_there wanted there fits none d low is = by (bit_is there d)
  where
    zero_at : min (bit_at wanted d) (1 - bit_at there d) ≡ 0
    zero_at = ap (min (bit_at wanted d)) (sym (bit_at_not w128 there d fits low)) ∙ sym (bit_at_and wanted (2 ^ 128 - 1 - there) d) ∙ ap (λ x. bit_at x d) none ∙ bit_at-zero d

    by : ((bit_at there d ≡ 0) ⊎ (bit_at there d ≡ 1)) → bit_at there d ≡ 1
    by (inr so) = so
    by (inl so) = absurd (omega (arith, is, so, zero_at))

none_missing : (wanted there : ℕ) → there < 2 ^ 128 → ((d : ℕ) → d < 128 → bit_at wanted d ≡ 1 → bit_at there d ≡ 1) → bit_and wanted (2 ^ 128 - 1 - there) ≡ 0
none_missing wanted there fits all = same_from_bits_below 128 (bit_and wanted (2 ^ 128 - 1 - there)) 0 (omega (arith, and_le_r wanted (2 ^ 128 - 1 - there))) (omega arith) at_each
  where
    at_each : (d : ℕ) → d < 128 → bit_at (bit_and wanted (2 ^ 128 - 1 - there)) d ≡ bit_at 0 d
    at_each d low = bit_at_and wanted (2 ^ 128 - 1 - there) d ∙ ap (min (bit_at wanted d)) (bit_at_not w128 there d fits low) ∙ by (bit_is wanted d) ∙ sym (bit_at-zero d)
      where
        by : ((bit_at wanted d ≡ 0) ⊎ (bit_at wanted d ≡ 1)) → min (bit_at wanted d) (1 - bit_at there d) ≡ 0
        by (inl so) = omega (arith, so)
        by (inr so) = omega (arith, so, all d low so)

-- ---- a run

pub record Knows (s : References) (key : Referring) (later : List Reported) : Type 0 where
  pub last_is : s.last ≡ latest_number key later
  pub rises_is : (s.rises ≡ true) ↔ NumbersRise key later
  pub bits : NumbersRise key later → (d : ℕ) → d < 128 → (bit_at s.shown d ≡ 1) ↔ IsShownAt s.last d key later

-- the bits in front of a unit say which frames before it can be shown
moved_is : (s : References) (key : Referring) (later : List Reported) (number : ℕ) → Knows s key later → NumbersRise key later → latest_number key later < number
    → (d : ℕ) → d < 128 → (bit_at (moved_on s.shown (number - s.last)) d ≡ 1) ↔ IsShownAt number d key later
moved_is s key later number knows rise above d low = by (ltb d (number - s.last)) refl
  where
    by : (b : Bool) → ltb d (number - s.last) ≡ b → (bit_at (moved_on s.shown (number - s.last)) d ≡ 1) ↔ IsShownAt number d key later
    by true e = (
      λ so. absurd (omega (arith, so, moved_low s.shown (number - s.last) d (ltb-true d (number - s.last) e) low)),
      λ so. absurd (omega (arith, shown_low number d key later rise so, ltb-true d (number - s.last) e, knows.last_is, above)),
    )
    by false e = (
      λ so. moved_shown s.last (d - (number - s.last)) number d key later (omega (arith, ltb-false d (number - s.last) e, knows.last_is, above))
          ((knows.bits rise (d - (number - s.last)) (omega (arith, low))).0 (sym (moved_high s.shown (number - s.last) d (ltb-false d (number - s.last) e) low (pow_pos (number - s.last))) ∙ so)),
      λ so. moved_high s.shown (number - s.last) d (ltb-false d (number - s.last) e) low (pow_pos (number - s.last))
          ∙ (knows.bits rise (d - (number - s.last)) (omega (arith, low))).1
          (moved_shown number d s.last (d - (number - s.last)) key later (omega (arith, ltb-false d (number - s.last) e, knows.last_is, above)) so),
    )

pub shows_is : (s : References) (key : Referring) (later : List Reported) (u : Referring) → Knows s key later → (shows_referring s u ≡ true) ↔ HasReferences key later u
shows_is s key later u knows = (there, back)
  where
    moved : ℕ
    moved = moved_on s.shown (u.number - s.last)

    there : shows_referring s u ≡ true → HasReferences key later u
    there e =
        let parts = both s.rises (ltb s.last u.number && eqb (bit_and u.distances (2 ^ 128 - 1 - moved)) 0) e in
        let rest = both (ltb s.last u.number) (eqb (bit_and u.distances (2 ^ 128 - 1 - moved)) 0) parts.1 in
        let rise = knows.rises_is.0 parts.0 in
        let above : latest_number key later < u.number = omega (arith, knows.last_is, ltb-true s.last u.number rest.0) in
        record {
          rise = rise;
          above = above;
          references = λ d low is. (moved_is s key later u.number knows rise above d low).0
              (all_there u.distances moved (moved_fits s.shown (u.number - s.last)) (eqb-true (bit_and u.distances (2 ^ 128 - 1 - moved)) 0 rest.1) d low is);
        }

    back : HasReferences key later u → shows_referring s u ≡ true
    back has =
        and_from s.rises (ltb s.last u.number && eqb (bit_and u.distances (2 ^ 128 - 1 - moved)) 0) (knows.rises_is.1 has.rise)
        (and_from (ltb s.last u.number) (eqb (bit_and u.distances (2 ^ 128 - 1 - moved)) 0) (lt-ltb s.last u.number (omega (arith, knows.last_is, has.above)))
        (eq-eqb (bit_and u.distances (2 ^ 128 - 1 - moved)) 0
        (none_missing u.distances moved (moved_fits s.shown (u.number - s.last))
        (λ d low is. (moved_is s key later u.number knows has.rise has.above d low).1 (has.references d low is)))))

pow_more : (d : ℕ) → 2 ^ suc d ≡ 2 * 2 ^ d
pow_more d = omega (arith, pow-suc 2 d)

pow_fits : (d : ℕ) → d < 128 → 2 ^ d ≤ 2 ^ 128
pow_fits d low = pow-le-pow_right (omega arith) {i = d} {j = 128} (omega (arith, low))

-- the numbers below all frames
lower_is : (frames d : ℕ) → d < 128 → (bit_at (lower_numbers frames) d ≡ 1) ↔ (frames < 2 ^ d)
lower_is frames d low = by (ltb frames (2 ^ 128)) refl
  where
    Wanted : ℕ → Type 0
    Wanted x = (bit_at x d ≡ 1) ↔ (frames < 2 ^ d)

    by : (b : Bool) → ltb frames (2 ^ 128) ≡ b → Wanted (cond b (2 ^ 128 - 2 ^ (128 - leading_zeros w128 frames)) 0)
    by false e = (
      λ so. absurd (omega (arith, so, bit_at-zero d)),
      λ so. absurd (omega (arith, so, ltb-false frames (2 ^ 128) e, pow_fits d low)),
    )
    by true e = with_length (leading_length 128 frames (ltb-true frames (2 ^ 128) e))
      where
        with_length : (m : ℕ) × (count_leading_zeros 128 frames + m ≡ 128) × (frames < 2 ^ m) × (2 ^ m ≤ 2 * frames + 1) → Wanted (2 ^ 128 - 2 ^ (128 - leading_zeros w128 frames))
        with_length m = subst (λ (k : ℕ). Wanted (2 ^ 128 - 2 ^ k)) (omega (arith, m.1)) (at (ltb d m.0) refl)
          where
            at : (b : Bool) → ltb d m.0 ≡ b → Wanted (2 ^ 128 - 2 ^ m.0)
            at true below =
                let more : 2 ^ suc d ≤ 2 ^ m.0 = pow-le-pow_right (omega arith) {i = suc d} {j = m.0} (omega (arith, ltb-true d m.0 below)) in (
                  λ so. absurd (omega (arith, so, bit_at_mask_below m.0 128 d (ltb-true d m.0 below))),
                  λ so. absurd (omega (arith, so, m.3, more, pow_more d)),
                )
            at false above =
                let more : 2 ^ m.0 ≤ 2 ^ d = pow-le-pow_right (omega arith) {i = m.0} {j = d} (ltb-false d m.0 above) in
                (λ so. omega (arith, m.2, more), λ so. bit_at_mask_inside m.0 128 d (ltb-false d m.0 above) low)

pub knows_key : (key : Referring) → Knows (after_key_frames key) key []
knows_key key = record { last_is = refl; rises_is = (λ e. tt, λ so. refl); bits = λ rise d low. first d low }
  where
    own : (d : ℕ) → key.number + d - key.number ≡ d
    own d = omega arith

    both_bits : (d : ℕ) → bit_at (bit_or key.frames (lower_numbers key.frames)) d ≡ max (bit_at key.frames d) (bit_at (lower_numbers key.frames) d)
    both_bits d = bit_at_or key.frames (lower_numbers key.frames) d

    first : (d : ℕ) → d < 128 → (bit_at (bit_or key.frames (lower_numbers key.frames)) d ≡ 1) ↔ (HasFrame key.number d key ⊎ IsBelow key.number d key)
    first d low = (there (bit_is key.frames d), back)
      where
        there : (bit_at key.frames d ≡ 0) ⊎ (bit_at key.frames d ≡ 1) → bit_at (bit_or key.frames (lower_numbers key.frames)) d ≡ 1
            → HasFrame key.number d key ⊎ IsBelow key.number d key
        there (inr so) e = inl (omega arith, subst (λ (i : ℕ). bit_at key.frames i ≡ 1) (sym (own d)) so)
        there (inl none) e =
            inr (omega arith, subst (λ (i : ℕ). key.frames < 2 ^ i) (sym (own d)) ((lower_is key.frames d low).0 (omega (arith, none, e, both_bits d))))

        back : HasFrame key.number d key ⊎ IsBelow key.number d key → bit_at (bit_or key.frames (lower_numbers key.frames)) d ≡ 1
        back (inl so) = both_bits d ∙ omega (arith, subst (λ (i : ℕ). bit_at key.frames i ≡ 1) (own d) so.1, bit_at-lt (lower_numbers key.frames) d)
        back (inr so) =
            both_bits d ∙ omega (arith, (lower_is key.frames d low).1 (subst (λ (i : ℕ). key.frames < 2 ^ i) (own d) so.1), bit_at-lt key.frames d)

-- one more unit, which is reported as one that can be shown or not
pub knows_next : (s : References) (key : Referring) (later : List Reported) (u : Referring) (shown : Bool) → Knows s key later
    → Knows (with_frames s u shown) key (record { unit = u; shown = shown } ∷ later)
knows_next s key later u shown knows = record { last_is = refl; rises_is = (rises_there, rises_back); bits = λ rise d low. bits_of rise d low shown }
  where
    rises_there : (s.rises && ltb s.last u.number) ≡ true → (latest_number key later < u.number) × NumbersRise key later
    rises_there e = let parts = both s.rises (ltb s.last u.number) e in (omega (arith, knows.last_is, ltb-true s.last u.number parts.1), knows.rises_is.0 parts.0)

    rises_back : (latest_number key later < u.number) × NumbersRise key later → (s.rises && ltb s.last u.number) ≡ true
    rises_back so = and_from s.rises (ltb s.last u.number) (knows.rises_is.1 so.1) (lt-ltb s.last u.number (omega (arith, knows.last_is, so.0)))

    own : (d : ℕ) → u.number + d - u.number ≡ d
    own d = omega arith

    bits_of : (latest_number key later < u.number) × NumbersRise key later → (d : ℕ) → d < 128 → (b : Bool)
        → (bit_at (cond b (bit_or (seen_from s u) u.frames) (seen_from s u)) d ≡ 1) ↔ ((HasFrame u.number d u × (b ≡ true)) ⊎ IsShownAt u.number d key later)
    bits_of rise d low b =
        subst (λ (m : ℕ). (bit_at (cond b (bit_or m u.frames) m) d ≡ 1) ↔ ((HasFrame u.number d u × (b ≡ true)) ⊎ IsShownAt u.number d key later))
        (sym (ap (λ (c : Bool). cond c moved 0) (lt-ltb s.last u.number (omega (arith, knows.last_is, rise.0))))) (by b)
      where
        moved : ℕ
        moved = moved_on s.shown (u.number - s.last)

        before : (bit_at moved d ≡ 1) ↔ IsShownAt u.number d key later
        before = moved_is s key later u.number knows rise.1 rise.0 d low

        both_bits : bit_at (bit_or moved u.frames) d ≡ max (bit_at moved d) (bit_at u.frames d)
        both_bits = bit_at_or moved u.frames d

        by : (b : Bool) → (bit_at (cond b (bit_or moved u.frames) moved) d ≡ 1) ↔ ((HasFrame u.number d u × (b ≡ true)) ⊎ IsShownAt u.number d key later)
        by false = (λ e. inr (before.0 e), back)
          where
            back : (HasFrame u.number d u × (false ≡ true)) ⊎ IsShownAt u.number d key later → bit_at moved d ≡ 1
            back (inl so) = absurd (false≢true so.1)
            back (inr so) = before.1 so
        by true = (there (bit_is moved d), back)
          where
            there : (bit_at moved d ≡ 0) ⊎ (bit_at moved d ≡ 1) → bit_at (bit_or moved u.frames) d ≡ 1
                → (HasFrame u.number d u × (true ≡ true)) ⊎ IsShownAt u.number d key later
            there (inl none) e = inl ((omega arith, subst (λ (i : ℕ). bit_at u.frames i ≡ 1) (sym (own d)) (omega (arith, none, e, both_bits))), refl)
            there (inr so) e = inr (before.0 so)

            back : (HasFrame u.number d u × (true ≡ true)) ⊎ IsShownAt u.number d key later → bit_at (bit_or moved u.frames) d ≡ 1
            back (inl so) = both_bits ∙ omega (arith, subst (λ (i : ℕ). bit_at u.frames i ≡ 1) (own d) so.0.1, bit_at-lt moved d)
            back (inr so) = both_bits ∙ omega (arith, before.1 so, bit_at-lt u.frames d)

known : {key : Referring} {later : List Reported} {s : References} → ReferenceRun key later s → Knows s key later
known {key = key} begins = knows_key key
known {key = key} (releases {later = later} {s = s} u run) = knows_next s key later u (shows_referring s u) (known run)

pub follows_references : FollowsReferences
follows_references key later s u run = shows_is s key later u (known run)
