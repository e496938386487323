-- Values of header extensions as they are written: they fit, they are few, and their elements are read back.
use Rattle.std.proofs.Common.{◌≡◌, ℕ, ◌+◌, ◌-◌, ◌%◌, ◌≤◌, List, [], ◌∷◌, ◌++◌, length, map, true, leb, ◌&&◌, Option, Some, None, Result, Ok, Err, refl, ap, ◌∙◌, subst, arith, length-append}
use Rattle.std.specs.Prelude.{IfSome, OnOk}
use Rattle.std.specs.Option.{option_map}
use Rattle.std.specs.Int.{w64, to_be_bytes}
use Rattle.std.proofs.lemmas.Bool.{and_parts, and_from, le-leb}
use Rattle.std.proofs.lemmas.List.{length-take}
use Rattle.std.proofs.lemmas.List.Concat.{flat_map-append}
use lib.IntN.{ℤ}
use Rattle.codec_payload_base.specs.declared.wire.extension.AbsCaptureTime.{AbsCaptureTime}
use Rattle.codec_payload_base.specs.declared.wire.extension.VideoTiming.{VideoTiming}
use Rattle.codec_payload_base.specs.declared.wire.extension.ExtensionValues.{ExtensionValues}
use Rattle.codec_payload_rtp.specs.declared.elements.ElementForm.{ElementForm}
use Rattle.codec_payload_rtp.specs.declared.elements.ElementForm.TheVariants as forms
use Rattle.codec_payload_rtp.specs.declared.values.ExtensionIds.{ExtensionIds}
use Rattle.codec_payload_rtp.specs.Elements.{Element, element_bytes, element_fits, all_fit, elements_bytes, form_for, form_of_profile, profile_of_form, words_of, zeros_behind}
use Rattle.codec_payload_rtp.specs.ExtensionFormats.{elements_by, elements_of, timing_bytes}
use Rattle.codec_payload_rtp.specs.ExtensionWriting.{Row, are_ids, audio_byte, capture_bytes, element_for, elements_for, extension_for, id_fits, ids_fit, is_apart_from, offset_bytes, one_byte, row_elements, rows_elements, rows_for}
use Rattle.codec_payload_rtp.specs.RtpPackets.{Extension}
use Rattle.codec_payload_rtp.proofs.ElementLemmas.{form_fits, words_again, words_whole}

abbrev pub ids_of : List Row → List (Option ℕ)
ids_of rows = map (λ r. r.id) rows

-- ---- the two-byte form has room for them

fit_append : (es fs : List Element) → all_fit forms.TwoByte es ≡ true → all_fit forms.TwoByte fs ≡ true → all_fit forms.TwoByte (es ++ fs) ≡ true
fit_append [] fs a b = b
fit_append (e ∷ es) fs a b =
    let both = and_parts (element_fits forms.TwoByte e) (all_fit forms.TwoByte es) a in
    and_from (element_fits forms.TwoByte e) (all_fit forms.TwoByte (es ++ fs)) both.0 (fit_append es fs both.1 b)

row_fits : (id : Option ℕ) (bytes : Option (List ℕ)) → id_fits id ≡ true → IfSome bytes (λ b. length b ≤ 255) → all_fit forms.TwoByte (element_for id bytes) ≡ true
row_fits None bytes f s = refl
row_fits (Some id) None f s = refl
row_fits (Some id) (Some b) f s = and_from _ true (and_from (leb 1 id) (leb (length b) 255) f (le-leb (length b) 255 s)) refl

-- each value has at most 255 bytes
abbrev AreShort : List Row → Type 0
AreShort [] = Unit {0}
AreShort (row ∷ rows) = IfSome row.bytes (λ b. length b ≤ 255) × AreShort rows

rows_fit : (rows : List Row) → are_ids (ids_of rows) ≡ true → AreShort rows → all_fit forms.TwoByte (rows_elements rows) ≡ true
rows_fit [] ids short = refl
rows_fit (r ∷ rows) ids short =
    let first = and_parts (id_fits r.id) (is_apart_from r.id (ids_of rows) && are_ids (ids_of rows)) ids in
    let others = and_parts (is_apart_from r.id (ids_of rows)) (are_ids (ids_of rows)) first.1 in
    fit_append (row_elements r) (rows_elements rows) (row_fits r.id r.bytes first.0 short.0) (rows_fit rows others.1 short.1)

-- ---- how long values are

offset_few : (offset : Option ℤ) → length (offset_bytes offset) ≤ 8
offset_few None = omega arith
offset_few (Some z) = omega arith

pub capture_few : (time : Option AbsCaptureTime) → IfSome (option_map capture_bytes time) (λ b. length b ≤ 16)
capture_few None = tt
capture_few (Some t) = omega (arith, offset_few t.clock_offset, length-append (to_be_bytes w64 t.capture_time) (offset_bytes t.clock_offset))

byte_few : (byte : Option ℕ) → IfSome (option_map one_byte byte) (λ b. length b ≤ 1)
byte_few None = tt
byte_few (Some b) = omega arith

timing_few : (timing : Option VideoTiming) → IfSome (option_map timing_bytes timing) (λ b. length b ≤ 13)
timing_few None = tt
timing_few (Some t) = omega arith

at_most : (bytes : Option (List ℕ)) (n m : ℕ) → n ≤ m → IfSome bytes (λ b. length b ≤ n) → IfSome bytes (λ b. length b ≤ m)
at_most None n m h f = tt
at_most (Some b) n m h f = omega (arith, h, f)

pub values_fit : (ids : ExtensionIds) (values : ExtensionValues) → ids_fit ids ≡ true → IfSome values.layers_allocation (λ b. length b ≤ 255)
    → all_fit forms.TwoByte (elements_for ids values) ≡ true
values_fit ids values fit layers = rows_fit (rows_for ids values) fit (
  at_most _ 16 255 (omega arith) (capture_few values.abs_capture_time),
  (
    at_most _ 1 255 (omega arith) (byte_few values.video_orientation),
    (
      at_most _ 1 255 (omega arith) (byte_few values.video_content_type),
      (
        at_most _ 13 255 (omega arith) (timing_few values.video_timing),
        (
          layers,
          (at_most _ 1 255 (omega arith) (byte_few (audio_byte values)), tt),
        ),
      ),
    ),
  ),
)

pub lent_few : {A : Type 0} (now : A → List ℕ) (lent : Option A) (bytes : Option (List ℕ)) (n : ℕ) → option_map now lent ≡ bytes → IfSome lent (λ b. length (now b) ≤ n) → IfSome bytes (λ b. length b ≤ n)
lent_few now None bytes n e few = subst (λ (o : Option (List ℕ)). IfSome o (λ b. length b ≤ n)) e tt
lent_few now (Some b) bytes n e few = subst (λ (o : Option (List ℕ)). IfSome o (λ b. length b ≤ n)) e few

element_few : (form : ElementForm) (id : ℕ) (b : List ℕ) (n : ℕ) → length b ≤ n → length (elements_bytes form (record { id = id; bytes = b } ∷ [])) ≤ n + 2
element_few forms.OneByte id b n h = omega (arith, h, length-append b [])
element_few forms.TwoByte id b n h = omega (arith, h, length-append b [])

row_few : (form : ElementForm) (id : Option ℕ) (bytes : Option (List ℕ)) (n : ℕ) → IfSome bytes (λ b. length b ≤ n) → length (elements_bytes form (element_for id bytes)) ≤ n + 2
row_few form None bytes n h = omega arith
row_few form (Some id) None n h = omega arith
row_few form (Some id) (Some b) n h = element_few form id b n h

more : (form : ElementForm) (es fs : List Element) (n m : ℕ) → length (elements_bytes form es) ≤ n → length (elements_bytes form fs) ≤ m → length (elements_bytes form (es ++ fs)) ≤ n + m
more form es fs n m a b = rw (flat_map-append (element_bytes form) es fs) (omega (arith, a, b, length-append (elements_bytes form es) (elements_bytes form fs)))

values_few : (form : ElementForm) (ids : ExtensionIds) (values : ExtensionValues) → IfSome values.layers_allocation (λ b. length b ≤ 255) → length (elements_bytes form (elements_for ids values)) ≤ 299
values_few form ids values layers =
    more form _ _ 18 281 (row_few form ids.abs_capture_time _ 16 (capture_few values.abs_capture_time))
    (more form _ _ 3 278 (row_few form ids.video_orientation _ 1 (byte_few values.video_orientation))
    (more form _ _ 3 275 (row_few form ids.video_content_type _ 1 (byte_few values.video_content_type))
    (more form _ _ 15 260 (row_few form ids.video_timing _ 13 (timing_few values.video_timing))
    (more form _ _ 257 3 (row_few form ids.layers_allocation _ 255 layers)
    (more form _ _ 3 0 (row_few form ids.audio_level _ 1 (byte_few (audio_byte values))) (omega arith))))))

words_few : (form : ElementForm) (es : List Element) → length (elements_bytes form es) ≤ 299 → length (words_of form es) ≤ 300
words_few form es few =
    let n = length (elements_bytes form es) in
    omega (arith, few, length-append (elements_bytes form es) (zeros_behind n), length-take {A = ℕ} ((4 - n % 4) % 4) (0 ∷ 0 ∷ 0 ∷ []))

-- ---- extensions

-- the bytes of an extension are whole words, at most 75
abbrev pub IsShort : Extension → Type 0
IsShort e = (length e.bytes % 4 ≡ 0) × (length e.bytes ≤ 300)

short_for : (es : List Element) → ((form : ElementForm) → length (elements_bytes form es) ≤ 299) → IfSome (extension_for es) IsShort
short_for [] few = tt
short_for (e ∷ es) few = (words_whole (form_for (e ∷ es)) (e ∷ es), words_few (form_for (e ∷ es)) (e ∷ es) (few (form_for (e ∷ es))))

pub extension_short : (ids : ExtensionIds) (values : ExtensionValues) → IfSome values.layers_allocation (λ b. length b ≤ 255) → IfSome (extension_for (elements_for ids values)) IsShort
extension_short ids values layers = short_for (elements_for ids values) (λ form. values_few form ids values layers)

form_again : (form : ElementForm) → form_of_profile (profile_of_form form) ≡ Some form
form_again forms.OneByte = refl
form_again forms.TwoByte = refl

pub on_ok : {X E : Type 0} (result : Result X E) (P : Type 0) → P → OnOk result P
on_ok (Ok x) P p = p
on_ok (Err x) P p = tt

-- written bytes are read back
pub elements_again : (es : List Element) → all_fit forms.TwoByte es ≡ true → elements_of (extension_for es) ≡ es
elements_again [] fit = refl
elements_again (e ∷ es) fit =
    let form = form_for (e ∷ es) in
    ap (λ (f : Option ElementForm). elements_by f (words_of form (e ∷ es))) (form_again form) ∙ words_again form (e ∷ es) (form_fits (e ∷ es) fit)
