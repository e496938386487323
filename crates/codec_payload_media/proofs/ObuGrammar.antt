-- OBUs: spelled bytes are read, and bytes that are read are spelled so.
use Rattle.std.proofs.Common.{◌≡◌, ℕ, zero, suc, ◌+◌, ◌*◌, ◌/◌, ◌%◌, ◌^◌, ◌<◌, ◌≤◌, List, [], ◌∷◌, ◌++◌, length, take, drop, Bool, true, false, ltb, eqb, ◌||◌, Option, Some, None, Result, Ok, Err, refl, sym, ap, ◌∙◌, subst, arith, append_assoc, length-append}
use Rattle.std.proofs.lemmas.Bool.{eq-eqb, ne_eqb, le-ltb, ltb-false}
use Rattle.std.proofs.lemmas.List.{take_at, drop_at, take-append-drop, length-take-le}
use Rattle.codec_payload_base.specs.Flags.{AreBytes}
use Rattle.codec_payload_base.specs.Leb.{IsLeb128, leb128_value, leb_front, leb_low}
use Rattle.codec_payload_base.proofs.LebLaws.{front_finds, front_stands, map_some}
use Rattle.codec_payload_media.specs.declared.av1.obu.Av1Extension.{Av1Extension}
use Rattle.codec_payload_vpx.specs.declared.error.MediaError.{MediaError}
use Rattle.codec_payload_vpx.specs.declared.error.MediaError.TheVariants as errors
use Rattle.codec_payload_vpx.specs.Reading.{◌>>=◌}
use Rattle.codec_payload_media.specs.Items.{AreSpelled, all_ok, items_at}
use Rattle.codec_payload_media.specs.Av1Units.{Obu, IsExtension, IsSizedObu, extension_at, extension_bit, obu_at, sized}
use Rattle.codec_payload_media.proofs.Av1Lemmas.{obu_shorter}
use Rattle.codec_payload_vpx.proofs.ReadingLemmas.{bind_ok, neither, drop_bytes, guard_ok, ok_is}
use Rattle.codec_payload_media.proofs.SpellingLemmas.{all_again, all_spelled}

-- ---- sizes

size_again : (size : List ℕ) (n : ℕ) (rest : List ℕ) → IsLeb128 size n → length size ≤ 8 → leb_low 7 (size ++ rest) ≡ Some (n, rest)
size_again size n rest says short =
    let few : length says.front ≤ 7 = omega (arith, short, ap length says.is, length-append says.front (says.last ∷ [])) in
    rw (says.is, front_finds 7 says.front says.last rest says.go_on says.ends few) (ap (λ (v : ℕ). Some (v, rest)) (sym (says.sum ∙ ap (λ (t : List ℕ). leb128_value t % 2 ^ 64) says.is)))

record IsSize (bytes : List ℕ) (x : ℕ × List ℕ) : Type 0 where
  size : List ℕ
  spelled : IsLeb128 size x.0
  short : length size ≤ 8
  parts : bytes ≡ size ++ x.1

size_taken : (bytes : List ℕ) (x : ℕ × List ℕ) → leb_low 7 bytes ≡ Some x → IsSize bytes x
size_taken bytes x e =
    let low = map_some (λ (y : ℕ × List ℕ). (y.0 % 2 ^ 64, y.1)) (leb_front 7 bytes) x e in
    let s = front_stands 7 bytes low.0.0 low.0.1 low.1 in
    let long : length s.text ≤ 8 = omega (arith, ap length s.is_text.is, length-append s.is_text.front (s.is_text.last ∷ []), s.is_text.few) in
    record {
      size = s.text;
      spelled = record {
        front = s.is_text.front;
        last = s.is_text.last;
        is = s.is_text.is;
        go_on = s.is_text.go_on;
        ends = s.is_text.ends;
        short = omega (arith, long);
        sum = sym (ap (λ (y : ℕ × List ℕ). y.0) low.2) ∙ ap (λ (v : ℕ). v % 2 ^ 64) s.value;
      };
      short = long;
      parts = s.parts ∙ ap (λ (y : ℕ × List ℕ). s.text ++ y.1) low.2;
    }

-- ---- extensions

extension_same : (e : Av1Extension) (t s : ℕ) → t ≡ e.temporal_id → s ≡ e.spatial_id → record { temporal_id = t; spatial_id = s } ≡ e
extension_same e t s e1 e2 = rw (e1, e2) refl

abbrev extended_by : Option Av1Extension → Bool
extended_by None = false
extended_by (Some e) = true

extension_again : (o : Option Av1Extension) (bytes rest : List ℕ) → IsExtension o bytes → extension_at (extended_by o) (bytes ++ rest) ≡ Ok (o, rest)
extension_again None bytes rest is = rw is refl
extension_again (Some e) bytes rest is =
    let n : ℕ = 32 * e.temporal_id + 8 * e.spatial_id + is.reserved in
    rw is.is (ap (λ (x : Av1Extension). Ok (Some x, rest)) (extension_same e (n / 32) (n / 8 % 4) (omega (arith, is.spatial, is.bits)) (omega (arith, is.spatial, is.bits))))

record TookExtension (there : Bool) (bytes : List ℕ) (x : Option Av1Extension × List ℕ) : Type 0 where
  text : List ℕ
  is_text : IsExtension x.0 text
  parts : bytes ≡ text ++ x.1
  same : extended_by x.0 ≡ there

extension_taken : (there : Bool) (bytes : List ℕ) (x : Option Av1Extension × List ℕ) → AreBytes bytes → extension_at there bytes ≡ Ok x → TookExtension there bytes x
extension_taken false bytes x are e = subst (TookExtension false bytes) (ok_is (None, bytes) x e) record { text = []; is_text = refl; parts = refl; same = refl }
extension_taken true [] x are e = cc
extension_taken true (n ∷ rest) x are e =
    let found : Av1Extension = record { temporal_id = n / 32; spatial_id = n / 8 % 4 } in
    let small : n < 256 = are 0 in
    let whole : n ≡ 32 * (n / 32) + 8 * (n / 8 % 4) + n % 8 = omega arith in
    subst (TookExtension true (n ∷ rest)) (ok_is (Some found, rest) x e) record {
      text = n ∷ [];
      is_text = record { temporal = omega (arith, small); spatial = omega arith; reserved = n % 8; bits = omega arith; is = ap (λ (k : ℕ). k ∷ []) whole };
      parts = refl;
      same = refl;
    }

-- ---- headers

abbrev header : ℕ → Option Av1Extension → ℕ → ℕ
header kind extension reserved = 8 * kind + extension_bit extension + 2 + reserved

abbrev HasFields : ℕ → ℕ → Option Av1Extension → Type 0
HasFields n kind extension = (n / 8 % 16 ≡ kind) × (eqb (n / 4 % 2) 1 ≡ extended_by extension) × (eqb (n / 128) 1 || eqb (n / 2 % 2) 0 ≡ false)

allowed : (n : ℕ) → n / 128 < 1 → n / 2 % 2 ≡ 1 → eqb (n / 128) 1 || eqb (n / 2 % 2) 0 ≡ false
allowed n low sized = rw (ne_eqb (n / 128) 1 (λ h. omega (arith, h, low)), ne_eqb (n / 2 % 2) 0 (λ h. omega (arith, h, sized))) refl

fields_of : (kind : ℕ) (extension : Option Av1Extension) (reserved n : ℕ) → n ≡ header kind extension reserved → kind < 16 → reserved < 2 → HasFields n kind extension
fields_of kind None reserved n is small bit = (omega (arith, is, small, bit), ne_eqb (n / 4 % 2) 1 (λ h. omega (arith, h, is, bit)), allowed n (omega (arith, is, small, bit)) (omega (arith, is, bit)))
fields_of kind (Some e) reserved n is small bit = (omega (arith, is, small, bit), eq-eqb (n / 4 % 2) 1 (omega (arith, is, bit)), allowed n (omega (arith, is, small, bit)) (omega (arith, is, bit)))

sized_again : (o : Obu) (rest : List ℕ) → sized o.obu_type o.extension (Some (length o.payload, o.payload ++ rest)) ≡ Ok (o, rest)
sized_again o rest =
    rw (le-ltb (length (o.payload ++ rest)) (length o.payload) (omega (arith, length-append o.payload rest)), take_at o.payload rest (length o.payload) refl, drop_at o.payload rest (length o.payload) refl) refl

abbrev behind_header : ℕ → ℕ → Bool → List ℕ → Result (Obu × List ℕ) MediaError
behind_header n kind there bytes = extension_at there bytes >>= λ extension. sized kind extension.0 (leb_low 7 extension.1)

abbrev tested : Bool → Result (Obu × List ℕ) MediaError → Result (Obu × List ℕ) MediaError
tested true others = Err errors.ReservedValue
tested false others = others

header_again : (n : ℕ) (o : Obu) (bytes : List ℕ) → HasFields n o.obu_type o.extension → obu_at (n ∷ bytes) ≡ behind_header n o.obu_type (extended_by o.extension) bytes
header_again n o bytes (kind, there, fine) = rw (fine, kind, there) refl

obu_again : (bytes : List ℕ) (o : Obu) (rest : List ℕ) → IsSizedObu bytes o rest → obu_at bytes ≡ Ok (o, rest)
obu_again bytes o rest is =
    let n : ℕ = header o.obu_type o.extension is.reserved in
    let others : List ℕ = is.size ++ (o.payload ++ rest) in
    ap obu_at is.is
    ∙ header_again n o (is.extension ++ others) (fields_of o.obu_type o.extension is.reserved n refl is.kind is.reserved_bit)
    ∙ ap (λ (r : Result (Option Av1Extension × List ℕ) MediaError). r >>= λ extension. sized o.obu_type extension.0 (leb_low 7 extension.1)) (extension_again o.extension is.extension others is.extended)
    ∙ ap (sized o.obu_type o.extension) (size_again is.size (length o.payload) (o.payload ++ rest) is.spelled is.short)
    ∙ sized_again o rest

-- ---- accepted bytes

abbrev Taken : List ℕ → Obu × List ℕ → Type 0
Taken bytes x = IsSizedObu bytes x.0 x.1 × AreBytes x.1

extension_bit_is : (b : ℕ) (o : Option Av1Extension) → b < 2 → extended_by o ≡ eqb b 1 → extension_bit o ≡ 4 * b
extension_bit_is zero None h e = refl
extension_bit_is zero (Some x) h e = absurd cc
extension_bit_is (suc zero) None h e = absurd cc
extension_bit_is (suc zero) (Some x) h e = refl
extension_bit_is (suc (suc b)) o h e = absurd (omega (arith, h))

not_one : (k : ℕ) → k < 2 → eqb k 1 ≡ false → k ≡ 0
not_one zero h e = refl
not_one (suc zero) h e = absurd cc
not_one (suc (suc k)) h e = absurd (omega (arith, h))

not_zero : (k : ℕ) → k < 2 → eqb k 0 ≡ false → k ≡ 1
not_zero zero h e = absurd cc
not_zero (suc zero) h e = refl
not_zero (suc (suc k)) h e = absurd (omega (arith, h))

module _ (n : ℕ) (bytes : List ℕ) (are : AreBytes (n ∷ bytes)) where
  cut_payload : (extension : Option Av1Extension) (text : List ℕ) (size : ℕ × List ℕ) (x : Obu × List ℕ) → IsExtension extension text
      → extended_by extension ≡ eqb (n / 4 % 2) 1 → eqb (n / 128) 1 || eqb (n / 2 % 2) 0 ≡ false → (s : IsSize (drop (length text) bytes) size) → bytes ≡ text
      ++ drop (length text) bytes → sized (n / 8 % 16) extension (Some size) ≡ Ok x → Taken (n ∷ bytes) x
  cut_payload extension text size x is_text there fine s parts e =
      let o : Obu = record { obu_type = n / 8 % 16; extension = extension; payload = take size.0 size.1 } in
      let g = guard_ok (ltb (length size.1) size.0) errors.SizesDoNotFit (Ok (o, drop size.0 size.1)) x e in
      let long : length (take size.0 size.1) ≡ size.0 = length-take-le size.0 size.1 (ltb-false _ _ g.0) in
      let both = neither (eqb (n / 128) 1) (eqb (n / 2 % 2) 0) fine in
      let small : n < 256 = are 0 in
      let low : n / 128 ≡ 0 = not_one (n / 128) (omega (arith, small)) both.0 in
      let has : n / 2 % 2 ≡ 1 = not_zero (n / 2 % 2) (omega arith) both.1 in
      let bit : extension_bit extension ≡ 4 * (n / 4 % 2) = extension_bit_is (n / 4 % 2) extension (omega arith) there in
      let first : n ≡ header (n / 8 % 16) extension (n % 2) = omega (arith, low, has, bit) in
      let behind : bytes ≡ text ++ (s.size ++ (take size.0 size.1 ++ drop size.0 size.1)) =
      parts ∙ ap (λ (t : List ℕ). text ++ t) (s.parts ∙ ap (λ (t : List ℕ). s.size ++ t) (sym (take-append-drop size.0 size.1))) in
      let rest_bytes : AreBytes (drop size.0 size.1) =
      subst AreBytes (drop_at (text ++ (s.size ++ take size.0 size.1)) (drop size.0 size.1) (length (text ++ (s.size ++ take size.0 size.1))) refl)
      (subst (λ (t : List ℕ). AreBytes (drop (length (text ++ (s.size ++ take size.0 size.1))) t)) (behind ∙ regrouped text s.size (take size.0 size.1) (drop size.0 size.1)) (drop_bytes (length (text ++ (s.size ++ take size.0 size.1))) bytes (drop_bytes 1 (n ∷ bytes) are))) in
      subst (Taken (n ∷ bytes)) (ok_is (o, drop size.0 size.1) x g.1) (
        record {
          kind = omega arith;
          reserved = n % 2;
          reserved_bit = omega arith;
          extension = text;
          extended = is_text;
          size = s.size;
          spelled = subst (λ (k : ℕ). IsLeb128 s.size k) (sym long) s.spelled;
          short = s.short;
          is = ap (λ (k : ℕ). k ∷ bytes) first ∙ ap (λ (t : List ℕ). header (n / 8 % 16) extension (n % 2) ∷ t) behind;
        },
        rest_bytes,
      )
    where
      regrouped : (a b c d : List ℕ) → a ++ (b ++ (c ++ d)) ≡ (a ++ (b ++ c)) ++ d
      regrouped a b c d = ap (λ (t : List ℕ). a ++ t) (sym (append_assoc b c d)) ∙ sym (append_assoc a (b ++ c) d)

  cut_size : (extension : Option Av1Extension) (text : List ℕ) (o : Option (ℕ × List ℕ)) (x : Obu × List ℕ) → IsExtension extension text
      → extended_by extension ≡ eqb (n / 4 % 2) 1 → eqb (n / 128) 1 || eqb (n / 2 % 2) 0 ≡ false → leb_low 7 (drop (length text) bytes) ≡ o → bytes ≡ text
      ++ drop (length text) bytes → sized (n / 8 % 16) extension o ≡ Ok x → Taken (n ∷ bytes) x
  cut_size extension text None x is_text there fine is parts e = absurd cc
  cut_size extension text (Some size) x is_text there fine is parts e = cut_payload extension text size x is_text there fine (size_taken (drop (length text) bytes) size is) parts e

  obu_cut : (x : Obu × List ℕ) → obu_at (n ∷ bytes) ≡ Ok x → Taken (n ∷ bytes) x
  obu_cut x e =
      let g = guard_ok (eqb (n / 128) 1 || eqb (n / 2 % 2) 0) errors.ReservedValue (behind_header n (n / 8 % 16) (eqb (n / 4 % 2) 1) bytes) x e in
      let a = bind_ok (extension_at (eqb (n / 4 % 2) 1) bytes) (λ extension. sized (n / 8 % 16) extension.0 (leb_low 7 extension.1)) x g.1 in
      let t = extension_taken (eqb (n / 4 % 2) 1) bytes a.0 (drop_bytes 1 (n ∷ bytes) are) a.1 in
      let rest : drop (length t.text) bytes ≡ a.0.1 = ap (drop (length t.text)) t.parts ∙ drop_at t.text a.0.1 (length t.text) refl in
      let parts : bytes ≡ t.text ++ drop (length t.text) bytes = t.parts ∙ ap (λ (z : List ℕ). t.text ++ z) (sym rest) in
      cut_size a.0.0 t.text (leb_low 7 a.0.1) x t.is_text t.same g.0 (ap (leb_low 7) rest) parts a.2

obu_taken : (bytes : List ℕ) (o : Obu) (rest : List ℕ) → AreBytes bytes → obu_at bytes ≡ Ok (o, rest) → IsSizedObu bytes o rest × AreBytes rest
obu_taken [] o rest are e = absurd cc
obu_taken (n ∷ bytes) o rest are e = obu_cut n bytes are (o, rest) e

pub obus_again : (bytes : List ℕ) (obus : List Obu) → AreSpelled IsSizedObu bytes obus → items_at obu_at bytes ≡ all_ok obus
obus_again bytes obus = all_again obu_at obu_shorter IsSizedObu obu_again obus bytes

pub obus_spelled : (bytes : List ℕ) (obus : List Obu) → AreBytes bytes → items_at obu_at bytes ≡ all_ok obus → AreSpelled IsSizedObu bytes obus
obus_spelled bytes obus = all_spelled obu_at obu_shorter IsSizedObu obu_taken obus bytes
