-- OBUs have a byte or more.
use Rattle.std.proofs.Common.{◌≡◌, ℕ, zero, suc, ◌*◌, ◌+◌, ◌/◌, ◌%◌, ◌<◌, ◌≤◌, List, [], ◌∷◌, length, take, drop, Bool, true, false, cond, ltb, eqb, ◌||◌, Option, Some, None, Ok, subst, arith}
use Rattle.std.specs.Prelude.{⊤}
use Rattle.std.specs.Option.{option_map}
use Rattle.std.proofs.lemmas.List.{length-drop}
use Rattle.codec_payload_base.specs.Leb.{leb_front, leb_low}
use Rattle.codec_payload_media.specs.declared.av1.obu.Av1Extension.{Av1Extension}
use Rattle.codec_payload_vpx.specs.declared.error.MediaError.TheVariants as errors
use Rattle.codec_payload_vpx.specs.Reading.{◌>>=◌}
use Rattle.codec_payload_media.specs.Av1Units.{Obu, obu_at, extension_at, sized}
use Rattle.codec_payload_vpx.proofs.ReadingLemmas.{bind_ok, guard_ok, ok_is}

-- the bytes after an optional number are not longer
abbrev Within : ℕ → Option (ℕ × List ℕ) → Type 0
Within n None = ⊤
Within n (Some x) = length x.1 ≤ n

mapped : (n : ℕ) (f : ℕ × List ℕ → ℕ) (o : Option (ℕ × List ℕ)) → Within n o → Within (suc n) (option_map (λ x. (f x, x.1)) o)
mapped n f None w = tt
mapped n f (Some x) w = omega (arith, w)

wider : (n : ℕ) (f : ℕ × List ℕ → ℕ) (o : Option (ℕ × List ℕ)) → Within n o → Within n (option_map (λ x. (f x, x.1)) o)
wider n f None w = tt
wider n f (Some x) w = w

tested : (b : Bool) (n : ℕ) (x : ℕ × List ℕ) (o : Option (ℕ × List ℕ)) → length x.1 ≤ n → Within n o → Within n (cond b (Some x) o)
tested true n x o small w = small
tested false n x o small w = w

front_within : (k : ℕ) (bytes : List ℕ) → Within (length bytes) (leb_front k bytes)
front_within k [] = none_at k
  where
    none_at : (k : ℕ) → Within 0 (leb_front k [])
    none_at zero = tt
    none_at (suc k) = tt
front_within zero (b ∷ bs) = tested (ltb b 128) (suc (length bs)) (b, bs) None (omega arith) tt
front_within (suc k) (b ∷ bs) =
    tested (ltb b 128) (suc (length bs)) (b, bs) (option_map (λ high. (b % 128 + 128 * high.0, high.1)) (leb_front k bs)) (omega arith) (mapped (length bs) (λ high. b % 128 + 128 * high.0) (leb_front k bs) (front_within k bs))

sized_within : (n t : ℕ) (extension : Option Av1Extension) (o : Option (ℕ × List ℕ)) (x : Obu × List ℕ) → Within n o → sized t extension o ≡ Ok x → length x.1 ≤ n
sized_within n t extension None x w e = cc
sized_within n t extension (Some size) x w e =
    let o : Obu = record { obu_type = t; extension = extension; payload = take size.0 size.1 } in
    let g = guard_ok (ltb (length size.1) size.0) errors.SizesDoNotFit (Ok (o, drop size.0 size.1)) x e in
    subst (λ (y : Obu × List ℕ). length y.1 ≤ n) (ok_is (o, drop size.0 size.1) x g.1) (omega (arith, w, length-drop size.0 size.1))

extension_within : (there : Bool) (bytes : List ℕ) (x : Option Av1Extension × List ℕ) → extension_at there bytes ≡ Ok x → length x.1 ≤ length bytes
extension_within false bytes x e = subst (λ (y : Option Av1Extension × List ℕ). length y.1 ≤ length bytes) (ok_is (None, bytes) x e) (omega arith)
extension_within true [] x e = cc
extension_within true (byte ∷ rest) x e =
    subst (λ (y : Option Av1Extension × List ℕ). length y.1 ≤ suc (length rest)) (ok_is (Some (record { temporal_id = byte / 32; spatial_id = byte / 8 % 4 }), rest) x e) (omega arith)

pub obu_shorter : (bytes : List ℕ) (x : Obu × List ℕ) → obu_at bytes ≡ Ok x → length x.1 < length bytes
obu_shorter [] x e = cc
obu_shorter (h ∷ rest) x e =
    let g = guard_ok (eqb (h / 128) 1 || eqb (h / 2 % 2) 0) errors.ReservedValue (extension_at (eqb (h / 4 % 2) 1) rest >>= λ extension. sized (h / 8 % 16) extension.0 (leb_low 7 extension.1)) x e in
    let a = bind_ok (extension_at (eqb (h / 4 % 2) 1) rest) (λ extension. sized (h / 8 % 16) extension.0 (leb_low 7 extension.1)) x g.1 in
    let w = wider (length a.0.1) (λ y. y.0 % 18446744073709551616) (leb_front 7 a.0.1) (front_within 7 a.0.1) in
    let s = sized_within (length a.0.1) (h / 8 % 16) a.0.0 (leb_low 7 a.0.1) x w a.2 in
    omega (arith, s, extension_within (eqb (h / 4 % 2) 1) rest a.0 a.1)
