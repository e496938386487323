-- A number in the extension of a packet.
use Rattle.std.proofs.Common.{◌≡◌, ℕ, ◌==◌, Bool, true, false, List, [], ◌∷◌, ◌++◌, Some, refl, arith}
use Rattle.codec_payload_rtp.specs.Elements.{Element, elements_at, form_for, form_of_profile, profile_of_form, words_of}
use Rattle.codec_payload_rtp.specs.ExtensionFormats.{bytes_with, elements_by, elements_of}
use Rattle.codec_payload_rtp.specs.ExtensionWriting.{extension_for}
use Rattle.codec_payload_rtp.specs.declared.elements.ElementForm.{ElementForm}
use Rattle.codec_payload_rtp.specs.declared.elements.ElementForm.TheVariants as forms
use Rattle.codec_payload_feedback_transport.specs.Numbering.{NumbersComeBack, element_for, without}

-- an extension with a last element
pub some_extension : (es : List Element) (e : Element) → extension_for (es ++ e ∷ []) ≡ Some (record { profile = profile_of_form (form_for (es ++ e ∷ [])); bytes = words_of (form_for (es ++ e ∷ [])) (es ++ e ∷ []) })
some_extension [] e = refl
some_extension (x ∷ es) e = refl

pub profile_says : (f : ElementForm) (bytes : List ℕ) → elements_by (form_of_profile (profile_of_form f)) bytes ≡ elements_at f bytes
profile_says forms.OneByte bytes = refl
profile_says forms.TwoByte bytes = refl

keeps_last : (id : ℕ) (b : Bool) (e last : Element) (es : List Element) → (e.id == id) ≡ b → bytes_with id (without id es ++ last ∷ []) ≡ Some last.bytes → bytes_with id (without id (e ∷ es) ++ last ∷ []) ≡ Some last.bytes
keeps_last id true e last es is rest = rw is rest
keeps_last id false e last es is rest = rw is (rw is rest)

last_found : (id : ℕ) (last : Element) (es : List Element) → (last.id == id) ≡ true → bytes_with id (without id es ++ last ∷ []) ≡ Some last.bytes
last_found id last [] is = rw is refl
last_found id last (e ∷ es) is = keeps_last id (e.id == id) e last es refl (last_found id last es is)

same_id : (id : ℕ) → (id == id) ≡ true
same_id id = grind (arith)

pub numbers_come_back : NumbersComeBack
numbers_come_back id number p = last_found id (element_for id number) (elements_of p.header.extension) (same_id id)
