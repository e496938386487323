-- Packets of FEC: spelled bytes are read, and bytes that are read are spelled so.
use Rattle.std.proofs.Common.{◌≡◌, ℕ, ◌+◌, ◌%◌, ◌<◌, ◌≤◌, Bool, true, false, cond, eqb, leb, ltb, List, [], ◌∷◌, ◌++◌, length, take, drop, Option, Some, None, Result, Ok, Err, refl, sym, ap, ◌∙◌, subst, arith, length-append}
use Rattle.std.specs.Prelude.{IfSome}
use Rattle.std.specs.Int.{w16, w32, from_be_bytes, to_be_bytes}
use Rattle.std.proofs.lemmas.Bool.{eqb-false, le-leb, le-ltb, leb-false, leb-true, lt-leb, ltb-false, ne_eqb}
use Rattle.std.proofs.lemmas.List.{drop_at, take_at, length-take-le, take-append-drop}
use Rattle.std.proofs.lemmas.Nat.{be_bytes_2, be_bytes_4, from_be_bytes-to_be_bytes_2, from_be_bytes-to_be_bytes_4}
use Rattle.codec_payload_base.specs.Flags.{AreBytes}
use Rattle.codec_payload_rtp.proofs.RtpFields.{drop_bytes, take_bytes}
use Rattle.codec_payload_fec.specs.Fec.{Fec, FitsFec, continued_bytes, fec_bytes, head_bytes, level_bytes, long_bit, mask_of}
use Rattle.codec_payload_fec.specs.FecReading.{FecComesBack, LevelValue, ReadIsSpelled, fec_at, level_at, level_with, with_level}
use Rattle.codec_payload_fec.specs.declared.packet.FecFault.{FecFault}
use Rattle.codec_payload_fec.specs.declared.packet.FecFault.TheVariants as faults

-- ---- what is spelled is read

level_again : (mask mask' : ℕ) (continued : Option ℕ) (size : ℕ) (payload further : List ℕ) → mask' ≡ mask → size ≡ length payload → 0 < mask_of mask continued
    → level_with mask' continued size (payload ++ further) ≡ Ok (record { mask = mask; continued = continued; payload = payload; further = further })
level_again mask mask' continued size payload further same is some =
    let all : length (payload ++ further) ≡ length payload + length further = length-append payload further in
    rw (same, ne_eqb (mask_of mask continued) 0 (λ e. omega (arith, e, some)), le-ltb (length (payload ++ further)) size (omega (arith, all, is)), take_at payload further size (sym is), drop_at payload further size (sym is)) refl

long_again : (mask c : ℕ) (payload further : List ℕ) → mask < 65536 → c < 4294967296 → length payload < 65536 → 0 < mask_of mask (Some c)
    → level_at true ((to_be_bytes w16 (length payload) ++ to_be_bytes w16 mask ++ to_be_bytes w32 c ++ payload) ++ further) ≡ Ok (record { mask = mask; continued = Some c; payload = payload; further = further })
unfolding level_at
long_again mask c payload further small-mask small few some =
    ap (λ (n : ℕ). level_with (from_be_bytes w16 (to_be_bytes w16 mask)) (Some n) (from_be_bytes w16 (to_be_bytes w16 (length payload))) (payload ++ further)) (from_be_bytes-to_be_bytes_4 c small)
    ∙ level_again mask _ (Some c) _ payload further (from_be_bytes-to_be_bytes_2 mask small-mask) (from_be_bytes-to_be_bytes_2 (length payload) few) some

short_again : (mask : ℕ) (payload further : List ℕ) → mask < 65536 → length payload < 65536 → 0 < mask_of mask None
    → level_at false ((to_be_bytes w16 (length payload) ++ to_be_bytes w16 mask ++ [] ++ payload) ++ further) ≡ Ok (record { mask = mask; continued = None; payload = payload; further = further })
unfolding level_at
short_again mask payload further small few some =
    level_again mask _ None _ payload further (from_be_bytes-to_be_bytes_2 mask small) (from_be_bytes-to_be_bytes_2 (length payload) few) some

abbrev made : (first second base time size : ℕ) → LevelValue → Fec
made first second base time size l = record { base = base; mask = l.mask; continued = l.continued; recovery = record { first = first; second = second; time = time; size = size; bytes = l.payload }; further = l.further }

head_again : (b first second base base' time time' size size' : ℕ) (level : Result LevelValue FecFault) (l : LevelValue) → leb 128 b ≡ false → b % 64 ≡ first → base' ≡ base → time' ≡ time → size' ≡ size → level ≡ Ok l
    → cond (leb 128 b) (Err faults.Extended) (with_level (b % 64) second base' time' size' level) ≡ Ok (made first second base time size l)
head_again b first second base base' time time' size size' level l e0 e1 e2 e3 e4 e5 = rw (e0, e1, e2, e3, e4, e5) refl

pub fec_comes_back : FecComesBack
unfolding fec_at
fec_comes_back f fits = by_mask f.continued refl
  where
    by_mask : (o : Option ℕ) → o ≡ f.continued → fec_at (fec_bytes (record f { continued = o })) ≡ Ok (record f { continued = o })
    by_mask None is =
        let some : 0 < mask_of f.mask None = subst (λ (o : Option ℕ). 0 < mask_of f.mask o) (sym is) fits.protects in
        let level : level_at (leb 64 (0 + f.recovery.first)) (level_bytes (record f { continued = None }) ++ f.further) ≡ Ok (record { mask = f.mask; continued = None; payload = f.recovery.bytes; further = f.further }) =
        rw (lt-leb 64 (0 + f.recovery.first) (omega (arith, fits.first))) (short_again f.mask f.recovery.bytes f.further fits.mask fits.few some) in
        head_again (0 + f.recovery.first) f.recovery.first f.recovery.second f.base _ f.recovery.time _ f.recovery.size _ _ _
        (lt-leb 128 (0 + f.recovery.first) (omega (arith, fits.first))) (omega (arith, fits.first))
        (from_be_bytes-to_be_bytes_2 f.base fits.base) (from_be_bytes-to_be_bytes_4 f.recovery.time fits.time) (from_be_bytes-to_be_bytes_2 f.recovery.size fits.size) level
    by_mask (Some c) is =
        let some : 0 < mask_of f.mask (Some c) = subst (λ (o : Option ℕ). 0 < mask_of f.mask o) (sym is) fits.protects in
        let small : c < 4294967296 = subst (λ (o : Option ℕ). IfSome o (λ c. c < 4294967296)) (sym is) fits.continued in
        let level : level_at (leb 64 (64 + f.recovery.first)) (level_bytes (record f { continued = Some c }) ++ f.further) ≡ Ok (record { mask = f.mask; continued = Some c; payload = f.recovery.bytes; further = f.further }) =
        rw (le-leb 64 (64 + f.recovery.first) (omega arith)) (long_again f.mask c f.recovery.bytes f.further fits.mask small fits.few some) in
        head_again (64 + f.recovery.first) f.recovery.first f.recovery.second f.base _ f.recovery.time _ f.recovery.size _ _ _
        (lt-leb 128 (64 + f.recovery.first) (omega (arith, fits.first))) (omega (arith, fits.first))
        (from_be_bytes-to_be_bytes_2 f.base fits.base) (from_be_bytes-to_be_bytes_4 f.recovery.time fits.time) (from_be_bytes-to_be_bytes_2 f.recovery.size fits.size) level

-- ---- what is read is spelled so

-- a test that did not fail
guard_ok : {A : Type 0} (b : Bool) (d : FecFault) (r : Result A FecFault) (y : A) → cond b (Err d) r ≡ Ok y → (b ≡ false) × (r ≡ Ok y)
guard_ok true d r y e = absurd cc
guard_ok false d r y e = (refl, e)

abbrev done : {A : Type 0} → A → Result A FecFault
done x = Ok x

ok_is : {A : Type 0} (x y : A) → done x ≡ done y → x ≡ y
ok_is x y e = cc

-- a mask, a payload of that size, and the bytes after it
abbrev Cut : (mask : ℕ) (continued : Option ℕ) (size : ℕ) → List ℕ → LevelValue → Type 0
Cut mask continued size bytes l = (l.mask ≡ mask) × (l.continued ≡ continued) × (length l.payload ≡ size) × (bytes ≡ l.payload ++ l.further) × (0 < mask_of mask continued)

level_takes : (mask : ℕ) (continued : Option ℕ) (size : ℕ) (bytes : List ℕ) (l : LevelValue) → level_with mask continued size bytes ≡ Ok l → Cut mask continued size bytes l
level_takes mask continued size bytes l e =
    let cut : LevelValue = record { mask = mask; continued = continued; payload = take size bytes; further = drop size bytes } in
    let g = guard_ok (eqb (mask_of mask continued) 0) faults.EmptyMask (cond (ltb (length bytes) size) (Err faults.PayloadTooShort) (Ok cut)) l e in
    let h = guard_ok (ltb (length bytes) size) faults.PayloadTooShort (Ok cut) l g.1 in
    let some : 0 < mask_of mask continued = omega (arith, eqb-false _ _ g.0) in
    let enough : size ≤ length bytes = ltb-false _ _ h.0 in
    subst (Cut mask continued size bytes) (ok_is cut l h.1) (refl, refl, length-take-le size bytes enough, sym (take-append-drop size bytes), some)

-- the bytes of a level, and their bounds
abbrev Spelled : Bool → List ℕ → LevelValue → Type 0
Spelled is_long bytes l =
    (bytes ≡ (to_be_bytes w16 (length l.payload) ++ to_be_bytes w16 l.mask ++ continued_bytes l.continued ++ l.payload) ++ l.further)
    × (long_bit l.continued ≡ cond is_long 64 0) × (l.mask < 65536) × IfSome l.continued (λ c. c < 4294967296) × (length l.payload < 65536) × (0 < mask_of l.mask l.continued)

same_level : (p p' m m' c c' payload further : List ℕ) → p ≡ p' → m ≡ m' → c ≡ c' → (p ++ m ++ c ++ payload) ++ further ≡ (p' ++ m' ++ c' ++ payload) ++ further
same_level p p' m m' c c' payload further e1 e2 e3 = cc

same_head : (b b' s : ℕ) (n n' t t' z z' : List ℕ) → b ≡ b' → n ≡ n' → t ≡ t' → z ≡ z' → b ∷ s ∷ (n ++ t ++ z) ≡ b' ∷ s ∷ (n' ++ t' ++ z')
same_head b b' s n n' t t' z z' e1 e2 e3 e4 = cc

level_spelled : (is_long : Bool) (bytes : List ℕ) (l : LevelValue) → AreBytes bytes → level_at is_long bytes ≡ Ok l → Spelled is_long bytes l
unfolding level_at
level_spelled true (p1 ∷ p0 ∷ m1 ∷ m0 ∷ c3 ∷ c2 ∷ c1 ∷ c0 ∷ rest) l are e =
    let all : List ℕ = p1 ∷ p0 ∷ m1 ∷ m0 ∷ c3 ∷ c2 ∷ c1 ∷ c0 ∷ rest in
    let size : ℕ = from_be_bytes w16 (p1 ∷ p0 ∷ []) in
    let mask : ℕ = from_be_bytes w16 (m1 ∷ m0 ∷ []) in
    let c : ℕ = from_be_bytes w32 (c3 ∷ c2 ∷ c1 ∷ c0 ∷ []) in
    let cut = level_takes mask (Some c) size rest l e in
    let sizes : to_be_bytes w16 (length l.payload) ≡ p1 ∷ p0 ∷ [] = be_bytes_2 (p1 ∷ p0 ∷ []) (length l.payload) refl (take_bytes 2 all are) cut.2 in
    let masks : to_be_bytes w16 l.mask ≡ m1 ∷ m0 ∷ [] = be_bytes_2 (m1 ∷ m0 ∷ []) l.mask refl (take_bytes 2 (drop 2 all) (drop_bytes 2 all are)) cut.0 in
    let words : to_be_bytes w32 c ≡ c3 ∷ c2 ∷ c1 ∷ c0 ∷ [] = be_bytes_4 (c3 ∷ c2 ∷ c1 ∷ c0 ∷ []) c refl (take_bytes 4 (drop 4 all) (drop_bytes 4 all are)) refl in
    let continued : continued_bytes l.continued ≡ c3 ∷ c2 ∷ c1 ∷ c0 ∷ [] = ap continued_bytes cut.1 ∙ words in
    let small : c < 4294967296 = omega (arith, are 4, are 5, are 6, are 7) in (
      ap (λ (bs : List ℕ). p1 ∷ p0 ∷ m1 ∷ m0 ∷ c3 ∷ c2 ∷ c1 ∷ c0 ∷ bs) cut.3
          ∙ same_level (p1 ∷ p0 ∷ []) _ (m1 ∷ m0 ∷ []) _ (c3 ∷ c2 ∷ c1 ∷ c0 ∷ []) _ l.payload l.further (sym sizes) (sym masks) (sym continued),
      ap long_bit cut.1,
      omega (arith, cut.0, are 2, are 3),
      rw cut.1 small,
      omega (arith, cut.2, are 0, are 1),
      rw (cut.0, cut.1) cut.4,
    )
level_spelled false (p1 ∷ p0 ∷ m1 ∷ m0 ∷ rest) l are e =
    let all : List ℕ = p1 ∷ p0 ∷ m1 ∷ m0 ∷ rest in
    let size : ℕ = from_be_bytes w16 (p1 ∷ p0 ∷ []) in
    let mask : ℕ = from_be_bytes w16 (m1 ∷ m0 ∷ []) in
    let cut = level_takes mask None size rest l e in
    let sizes : to_be_bytes w16 (length l.payload) ≡ p1 ∷ p0 ∷ [] = be_bytes_2 (p1 ∷ p0 ∷ []) (length l.payload) refl (take_bytes 2 all are) cut.2 in
    let masks : to_be_bytes w16 l.mask ≡ m1 ∷ m0 ∷ [] = be_bytes_2 (m1 ∷ m0 ∷ []) l.mask refl (take_bytes 2 (drop 2 all) (drop_bytes 2 all are)) cut.0 in
    let continued : continued_bytes l.continued ≡ [] = ap continued_bytes cut.1 in (
      ap (λ (bs : List ℕ). p1 ∷ p0 ∷ m1 ∷ m0 ∷ bs) cut.3
          ∙ same_level (p1 ∷ p0 ∷ []) _ (m1 ∷ m0 ∷ []) _ [] _ l.payload l.further (sym sizes) (sym masks) (sym continued),
      ap long_bit cut.1,
      omega (arith, cut.0, are 2, are 3),
      rw cut.1 tt,
      omega (arith, cut.2, are 0, are 1),
      rw (cut.0, cut.1) cut.4,
    )
level_spelled is_long bytes l are e = absurd cc

with_is : (first second base time size : ℕ) (r : Result LevelValue FecFault) (f : Fec) → with_level first second base time size r ≡ Ok f → (l : LevelValue) × (r ≡ Ok l) × (made first second base time size l ≡ f)
with_is first second base time size (Err fault) f e = absurd cc
with_is first second base time size (Ok l) f e = (l, refl, ok_is (made first second base time size l) f e)

bit_by : (b : ℕ) (is_long : Bool) → is_long ≡ leb 64 b → b < 128 → cond is_long 64 0 + b % 64 ≡ b
bit_by b true is small = omega (arith, leb-true 64 b (sym is))
bit_by b false is small = omega (arith, leb-false 64 b (sym is))

pub read_is_spelled : ReadIsSpelled
unfolding fec_at
read_is_spelled (b0 ∷ b1 ∷ n1 ∷ n0 ∷ t3 ∷ t2 ∷ t1 ∷ t0 ∷ l1 ∷ l0 ∷ rest) f are e =
    let all : List ℕ = b0 ∷ b1 ∷ n1 ∷ n0 ∷ t3 ∷ t2 ∷ t1 ∷ t0 ∷ l1 ∷ l0 ∷ rest in
    let base : ℕ = from_be_bytes w16 (n1 ∷ n0 ∷ []) in
    let time : ℕ = from_be_bytes w32 (t3 ∷ t2 ∷ t1 ∷ t0 ∷ []) in
    let size : ℕ = from_be_bytes w16 (l1 ∷ l0 ∷ []) in
    let g = guard_ok (leb 128 b0) faults.Extended (with_level (b0 % 64) b1 base time size (level_at (leb 64 b0) rest)) f e in
    let w = with_is (b0 % 64) b1 base time size (level_at (leb 64 b0) rest) f g.1 in
    let l : LevelValue = w.0 in
    let s = level_spelled (leb 64 b0) rest l (drop_bytes 10 all are) w.1 in
    let low : b0 < 128 = leb-false 128 b0 g.0 in
    let first : long_bit l.continued + b0 % 64 ≡ b0 = ap (λ (n : ℕ). n + b0 % 64) s.1 ∙ bit_by b0 (leb 64 b0) refl low in
    let bases : to_be_bytes w16 base ≡ n1 ∷ n0 ∷ [] = be_bytes_2 (n1 ∷ n0 ∷ []) base refl (take_bytes 2 (drop 2 all) (drop_bytes 2 all are)) refl in
    let times : to_be_bytes w32 time ≡ t3 ∷ t2 ∷ t1 ∷ t0 ∷ [] = be_bytes_4 (t3 ∷ t2 ∷ t1 ∷ t0 ∷ []) time refl (take_bytes 4 (drop 4 all) (drop_bytes 4 all are)) refl in
    let sizes : to_be_bytes w16 size ≡ l1 ∷ l0 ∷ [] = be_bytes_2 (l1 ∷ l0 ∷ []) size refl (take_bytes 2 (drop 8 all) (drop_bytes 8 all are)) refl in
    let it : Fec = made (b0 % 64) b1 base time size l in
    let heads : head_bytes it ≡ b0 ∷ b1 ∷ n1 ∷ n0 ∷ t3 ∷ t2 ∷ t1 ∷ t0 ∷ l1 ∷ l0 ∷ [] = same_head (long_bit l.continued + b0 % 64) b0 b1 _ (n1 ∷ n0 ∷ []) _ (t3 ∷ t2 ∷ t1 ∷ t0 ∷ []) _ (l1 ∷ l0 ∷ []) first bases times sizes in
    let is : all ≡ fec_bytes it = ap (λ (bs : List ℕ). (b0 ∷ b1 ∷ n1 ∷ n0 ∷ t3 ∷ t2 ∷ t1 ∷ t0 ∷ l1 ∷ l0 ∷ []) ++ bs) s.0 ∙ ap (λ (bs : List ℕ). bs ++ (level_bytes it ++ it.further)) (sym heads) in
    let fits : FitsFec it = record {
      base = omega (arith, are 2, are 3);
      mask = s.2;
      continued = s.3;
      first = omega arith;
      time = omega (arith, are 4, are 5, are 6, are 7);
      size = omega (arith, are 8, are 9);
      few = s.4;
      protects = s.5;
    } in
    subst (λ (x : Fec). (all ≡ fec_bytes x) × FitsFec x) w.2 (is, fits)
read_is_spelled bytes f are e = absurd cc
