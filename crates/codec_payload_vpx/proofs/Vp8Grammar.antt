-- Headers of VP8 frames: spelled bytes are read, and bytes that are read are spelled so.
use Rattle.std.proofs.Common.{◌≡◌, ℕ, zero, suc, ◌+◌, ◌*◌, ◌/◌, ◌%◌, ◌<◌, ◌≤◌, List, [], ◌∷◌, ◌++◌, length, Bool, true, false, ltb, eqb, Option, Some, None, Result, Ok, Err, refl, sym, ap, ◌∙◌, subst, arith, ◌&&◌}
use Rattle.std.specs.Prelude.{is_some, IfSome, IfOk}
use Rattle.std.specs.Int.{w16, from_le_bytes, to_le_bytes}
use Rattle.std.proofs.lemmas.Bool.{and_parts, eqb-true, ltb-false, le-ltb, eq-eqb, ne_eqb}
use Rattle.std.proofs.lemmas.Nat.{le_bytes_2, from_le_bytes-to_le_bytes_2}
use Rattle.codec_payload_base.specs.Flags.{AreBytes}
use Rattle.codec_payload_vpx.specs.declared.error.MediaError.{MediaError}
use Rattle.codec_payload_vpx.specs.declared.error.MediaError.TheVariants as errors
use Rattle.codec_payload_vpx.specs.declared.vp8.Vp8FrameHeader.{Vp8FrameHeader}
use Rattle.codec_payload_vpx.specs.declared.vp8.Vp8Keyframe.{Vp8Keyframe}
use Rattle.codec_payload_vpx.specs.Reading.{◌>>=◌}
use Rattle.codec_payload_vpx.specs.BitFields.{bit_if}
use Rattle.codec_payload_vpx.specs.Vp8Frames.{bit_unless, tag_of, three_bytes, side_bytes, keyframe_bytes, FitsKeyframe, IsVp8Frame, keyframe_of, is_start_code, keyframe_at, behind_tag, with_partition, with_tag, vp8_frame_at}
use Rattle.codec_payload_vpx.proofs.ReadingLemmas.{bind_ok, bit_is, guard_ok, then_true, ok_is, drop_bytes, take_bytes}

-- ---- the bits of a tag

abbrev number : Bool → ℕ → Bool → ℕ → ℕ
number key version shown size = bit_unless key 1 + 2 * version + bit_if shown 16 + 32 * size

is_eq : (n m : ℕ) → n ≡ m → eqb n m ≡ true
is_eq n m e = eq-eqb n m e

abbrev HasBits : ℕ → Bool → ℕ → Bool → ℕ → Type 0
HasBits n key version shown size = (eqb (n % 2) 0 ≡ key) × (n / 2 % 8 ≡ version) × (eqb (n / 16 % 2) 1 ≡ shown) × (n / 32 ≡ size)

tag_bits : (key : Bool) (version : ℕ) (shown : Bool) (size n : ℕ) → n ≡ number key version shown size → version < 8 → HasBits n key version shown size
tag_bits false v false s n is small = (ne_eqb (n % 2) 0 (λ h. omega (arith, h, is)), omega (arith, is, small), ne_eqb (n / 16 % 2) 1 (λ h. omega (arith, h, is, small)), omega (arith, is, small))
tag_bits false v true s n is small = (ne_eqb (n % 2) 0 (λ h. omega (arith, h, is)), omega (arith, is, small), is_eq (n / 16 % 2) 1 (omega (arith, is, small)), omega (arith, is, small))
tag_bits true v false s n is small = (is_eq (n % 2) 0 (omega (arith, is)), omega (arith, is, small), ne_eqb (n / 16 % 2) 1 (λ h. omega (arith, h, is, small)), omega (arith, is, small))
tag_bits true v true s n is small = (is_eq (n % 2) 0 (omega (arith, is)), omega (arith, is, small), is_eq (n / 16 % 2) 1 (omega (arith, is, small)), omega (arith, is, small))

key_is : (b : ℕ) → b < 2 → bit_unless (eqb b 0) 1 ≡ b
key_is zero h = refl
key_is (suc zero) h = refl
key_is (suc (suc b)) h = absurd (omega (arith, h))

tag_is : (n : ℕ) → number (eqb (n % 2) 0) (n / 2 % 8) (eqb (n / 16 % 2) 1) (n / 32) ≡ n
tag_is n = omega (arith, key_is (n % 2) (omega arith), bit_is (n / 16 % 2) 16 (omega arith))

-- ---- keyframes

side_again : (size scale : ℕ) → size < 16384 → scale < 4 → from_le_bytes w16 (side_bytes size scale) ≡ size + 16384 * scale
side_again size scale small few = from_le_bytes-to_le_bytes_2 (size + 16384 * scale) (omega (arith, small, few))

keyframe_same : (k : Vp8Keyframe) (h v : ℕ) → h % 16384 ≡ k.width → h / 16384 ≡ k.horizontal_scale → v % 16384 ≡ k.height → v / 16384 ≡ k.vertical_scale → keyframe_of h v ≡ k
keyframe_same k h v e1 e2 e3 e4 = rw (e1, e2, e3, e4) refl

keyframe_again : (k : Vp8Keyframe) (rest : List ℕ) → FitsKeyframe k → keyframe_at (keyframe_bytes (Some k) ++ rest) ≡ Ok (k, rest)
unfolding keyframe_at
keyframe_again k rest fits =
    let h = from_le_bytes w16 (side_bytes k.width k.horizontal_scale) in
    let v = from_le_bytes w16 (side_bytes k.height k.vertical_scale) in
    let eh : h ≡ k.width + 16384 * k.horizontal_scale = side_again k.width k.horizontal_scale fits.width fits.horizontal_scale in
    let ev : v ≡ k.height + 16384 * k.vertical_scale = side_again k.height k.vertical_scale fits.height fits.vertical_scale in
    ap (λ (x : Vp8Keyframe). Ok (x, rest)) (keyframe_same k h v (omega (arith, eh, fits.width)) (omega (arith, eh, fits.width)) (omega (arith, ev, fits.height)) (omega (arith, ev, fits.height)))

behind_again : (k : Option Vp8Keyframe) (rest : List ℕ) → IfSome k FitsKeyframe → behind_tag (is_some k) (keyframe_bytes k ++ rest) ≡ Ok (k, rest)
behind_again None rest fits = refl
behind_again (Some k) rest fits = rw (keyframe_again k rest fits) refl

abbrev TookKeyframe : List ℕ → Vp8Keyframe × List ℕ → Type 0
TookKeyframe bytes x = (bytes ≡ keyframe_bytes (Some x.0) ++ x.1) × FitsKeyframe x.0

side_takes : (a b n : ℕ) (bytes : List ℕ) → n ≡ from_le_bytes w16 (a ∷ b ∷ []) → AreBytes (a ∷ b ∷ bytes) → (a ∷ b ∷ [] ≡ side_bytes (n % 16384) (n / 16384)) × (n < 65536)
side_takes a b n bytes is are =
    let e : n % 16384 + 16384 * (n / 16384) ≡ n = omega arith in
    (sym (ap (to_le_bytes w16) e ∙ le_bytes_2 (a ∷ b ∷ []) n refl (take_bytes 2 (a ∷ b ∷ bytes) are) is), omega (arith, is, are 0, are 1))

spelled_same : (a b c : ℕ) (w w' h h' rest : List ℕ) → a ≡ 0x9d → b ≡ 0x01 → c ≡ 0x2a → w ≡ w' → h ≡ h' → a ∷ b ∷ c ∷ (w ++ (h ++ rest)) ≡ 0x9d ∷ 0x01 ∷ 0x2a ∷ (w' ++ (h' ++ rest))
spelled_same a b c w w' h h' rest e1 e2 e3 e4 e5 = cc

keyframe_takes : (bytes : List ℕ) (x : Vp8Keyframe × List ℕ) → AreBytes bytes → keyframe_at bytes ≡ Ok x → TookKeyframe bytes x
unfolding keyframe_at
keyframe_takes (a ∷ b ∷ c ∷ w0 ∷ w1 ∷ h0 ∷ h1 ∷ rest) x are e =
    let bytes : List ℕ = a ∷ b ∷ c ∷ w0 ∷ w1 ∷ h0 ∷ h1 ∷ rest in
    let h : ℕ = from_le_bytes w16 (w0 ∷ w1 ∷ []) in
    let v : ℕ = from_le_bytes w16 (h0 ∷ h1 ∷ []) in
    let t = then_true (is_start_code a b c) (Ok (keyframe_of h v, rest)) errors.WrongMarker x e in
    let abc = and_parts (eqb a 0x9d && eqb b 0x01) (eqb c 0x2a) t.0 in
    let ab = and_parts (eqb a 0x9d) (eqb b 0x01) abc.0 in
    let sh = side_takes w0 w1 h (h0 ∷ h1 ∷ rest) refl (drop_bytes 3 bytes are) in
    let sv = side_takes h0 h1 v rest refl (drop_bytes 5 bytes are) in
    let is : bytes ≡ keyframe_bytes (Some (keyframe_of h v)) ++ rest =
    spelled_same a b c (w0 ∷ w1 ∷ []) (side_bytes (h % 16384) (h / 16384)) (h0 ∷ h1 ∷ []) (side_bytes (v % 16384) (v / 16384)) rest
    (eqb-true a 0x9d ab.0) (eqb-true b 0x01 ab.1) (eqb-true c 0x2a abc.1) sh.0 sv.0 in
    let fits : FitsKeyframe (keyframe_of h v) = record { width = omega arith; horizontal_scale = omega (arith, sh.1); height = omega arith; vertical_scale = omega (arith, sv.1) } in
    subst (TookKeyframe bytes) (ok_is (keyframe_of h v, rest) x t.1) (is, fits)
keyframe_takes bytes x are e = cc

abbrev TookBehind : Bool → List ℕ → Option Vp8Keyframe × List ℕ → Type 0
TookBehind key bytes x = (bytes ≡ keyframe_bytes x.0 ++ x.1) × (is_some x.0 ≡ key) × IfSome x.0 FitsKeyframe

behind_takes : (key : Bool) (bytes : List ℕ) (x : Option Vp8Keyframe × List ℕ) → AreBytes bytes → behind_tag key bytes ≡ Ok x → TookBehind key bytes x
behind_takes false bytes x are e = subst (TookBehind false bytes) (ok_is (None, bytes) x e) (refl, refl, tt)
behind_takes true bytes x are e =
    let a = bind_ok (keyframe_at bytes) (λ keyframe. Ok (Some keyframe.0, keyframe.1)) x e in
    let t = keyframe_takes bytes a.0 are a.1 in
    subst (TookBehind true bytes) (ok_is (Some a.0.0, a.0.1) x a.2) (t.0, refl, t.1)

-- ---- frames

header_same : (h : Vp8FrameHeader) (version : ℕ) (shown : Bool) (size : ℕ) → version ≡ h.version → shown ≡ h.shown → size ≡ h.first_partition_size
    → record { version = version; shown = shown; first_partition_size = size; keyframe = h.keyframe } ≡ h
header_same h version shown size e1 e2 e3 = rw (e1, e2, e3) refl

partition_again : (h : Vp8FrameHeader) (n : ℕ) (bytes : List ℕ) → HasBits n (is_some h.keyframe) h.version h.shown h.first_partition_size → h.first_partition_size ≤ length bytes → with_partition n h.keyframe bytes ≡ Ok h
partition_again h n bytes (key, version, shown, size) room =
    rw (le-ltb (length bytes) (n / 32) (omega (arith, size, room))) (ap (λ (x : Vp8FrameHeader). Ok x) (header_same h (n / 2 % 8) (eqb (n / 16 % 2) 1) (n / 32) version shown size))

pub vp8_again : (frame : List ℕ) (h : Vp8FrameHeader) → IsVp8Frame frame h → vp8_frame_at frame ≡ Ok h
unfolding vp8_frame_at
vp8_again frame h is =
    let n : ℕ = tag_of h in
    let bits = tag_bits (is_some h.keyframe) h.version h.shown h.first_partition_size n refl is.version in
    let whole : n % 256 + 256 * (n / 256 % 256) + 65536 * (n / 65536) ≡ n = omega arith in
    ap vp8_frame_at is.is
    ∙ ap (λ (t : ℕ). with_tag t (keyframe_bytes h.keyframe ++ is.partitions)) whole
    ∙ ap (λ (b : Bool). behind_tag b (keyframe_bytes h.keyframe ++ is.partitions) >>= λ k. with_partition n k.0 k.1) bits.0
    ∙ ap (λ (r : Result (Option Vp8Keyframe × List ℕ) MediaError). r >>= λ k. with_partition n k.0 k.1) (behind_again h.keyframe is.partitions is.keyframe)
    ∙ partition_again h n is.partitions bits is.fits

three_takes : (a b c n : ℕ) → a < 256 → b < 256 → n ≡ a + 256 * b + 65536 * c → a ∷ b ∷ c ∷ [] ≡ three_bytes n
three_takes a b c n small less is =
    let ea : a ≡ n % 256 = omega (arith, is, small) in
    let eb : b ≡ n / 256 % 256 = omega (arith, is, small, less) in
    let ec : c ≡ n / 65536 = omega (arith, is, small, less) in
    cc

pub vp8_takes : (frame : List ℕ) (h : Vp8FrameHeader) → AreBytes frame → vp8_frame_at frame ≡ Ok h → IsVp8Frame frame h
unfolding vp8_frame_at
vp8_takes (t0 ∷ t1 ∷ t2 ∷ rest) h are e =
    let frame : List ℕ = t0 ∷ t1 ∷ t2 ∷ rest in
    let n : ℕ = t0 + 256 * t1 + 65536 * t2 in
    let a = bind_ok (behind_tag (eqb (n % 2) 0) rest) (λ k. with_partition n k.0 k.1) h e in
    let t = behind_takes (eqb (n % 2) 0) rest a.0 (drop_bytes 3 frame are) a.1 in
    let made : Vp8FrameHeader = record { version = n / 2 % 8; shown = eqb (n / 16 % 2) 1; first_partition_size = n / 32; keyframe = a.0.0 } in
    let g = guard_ok (ltb (length a.0.1) (n / 32)) errors.SizesDoNotFit (Ok made) h a.2 in
    let tag : tag_of made ≡ n = ap (λ (k : Bool). number k (n / 2 % 8) (eqb (n / 16 % 2) 1) (n / 32)) t.1 ∙ tag_is n in
    let front : t0 ∷ t1 ∷ t2 ∷ [] ≡ three_bytes (tag_of made) = three_takes t0 t1 t2 n (are 0) (are 1) refl ∙ ap three_bytes (sym tag) in
    subst (IsVp8Frame frame) (ok_is made h g.1) record {
      version = omega arith;
      size = omega (arith, are 0, are 1, are 2);
      keyframe = t.2;
      partitions = a.0.1;
      is = ap (λ (z : List ℕ). (t0 ∷ t1 ∷ t2 ∷ []) ++ z) t.0 ∙ ap (λ (z : List ℕ). z ++ (keyframe_bytes a.0.0 ++ a.0.1)) front;
      fits = ltb-false _ _ g.0;
    }
vp8_takes frame h are e = cc

pub vp8_spelled : (frame : List ℕ) (result : Result Vp8FrameHeader MediaError) → AreBytes frame → result ≡ vp8_frame_at frame → IfOk result (λ h. IsVp8Frame frame h)
vp8_spelled frame (Ok h) are e = vp8_takes frame h are (sym e)
vp8_spelled frame (Err f) are e = tt
