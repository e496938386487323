-- Extensions without late elements.
use Rattle.std.proofs.Common.{◌≡◌, ℕ, zero, suc, ◌+◌, ◌-◌, ◌/◌, ◌%◌, ◌<◌, ◌≤◌, Bool, true, false, cond, nat_lt, List, [], ◌∷◌, ◌++◌, drop, length, take, Option, Some, None, refl, sym, ap, append_assoc, ◌∙◌, arith}
use Rattle.std.specs.Prelude.{IfSome}
use Rattle.codec_payload_rtp.specs.Elements.{Element, cut_element, element_at, is_reserved}
use Rattle.codec_payload_rtp.specs.declared.elements.ElementForm.{ElementForm}
use Rattle.codec_payload_rtp.specs.declared.elements.ElementForm.TheVariants as forms
use Rattle.codec_payload_fec_receiver.specs.declared.late.LateIds.{LateIds}
use Rattle.codec_payload_fec_port.specs.Cleared.{cleared_by, cleared_element, cleared_in, element_front, front_of, is_late}
use Rattle.std.proofs.lemmas.List.{append-nil, length-append, length-take, length-drop, length-replicate}

pub cleared_none : (n : ℕ) (late : LateIds) (form : ElementForm) → cleared_in n late form [] ≡ []
unfolding cleared_in front_of element_at
cleared_none zero late form = refl
cleared_none (suc n) late forms.OneByte = cleared_none n late forms.OneByte
cleared_none (suc n) late forms.TwoByte = cleared_none n late forms.TwoByte

pub cleared_first : (n : ℕ) (late : LateIds) (form : ElementForm) (bytes : List ℕ) → 0 < n → cleared_in n late form bytes ≡ (front_of late form bytes).written ++ cleared_in (n - 1) late form (front_of late form bytes).rest
unfolding cleared_in
cleared_first zero late form bytes h = absurd (omega (arith, h))
cleared_first (suc n) late form bytes h =
    let back : n ≡ suc n - 1 = omega arith in
    ap (λ (k : ℕ). (front_of late form bytes).written ++ cleared_in k late form (front_of late form bytes).rest) back

pub cleared_end : (late : LateIds) (form : ElementForm) (bytes : List ℕ) → cleared_in 0 late form bytes ≡ bytes
unfolding cleared_in
cleared_end late form bytes = refl

-- ---- the length stays

-- the element is within the bytes
more : (o : Option (Element × List ℕ)) (m n : ℕ) → m ≤ n → IfSome o (λ x. length x.0.bytes + length x.1 ≤ m) → IfSome o (λ x. length x.0.bytes + length x.1 ≤ n)
more None m n le h = tt
more (Some x) m n le h = omega (arith, le, h)

cut_parts : (id len : ℕ) (bytes : List ℕ) → Element × List ℕ
cut_parts id len bytes = (record { id = id; bytes = take len bytes }, drop len bytes)

cut_if : (id len : ℕ) (bytes : List ℕ) (b : Bool) → IfSome (cond b None (Some (cut_parts id len bytes))) (λ x. length x.0.bytes + length x.1 ≤ length bytes)
unfolding cut_parts
cut_if id len bytes true = tt
cut_if id len bytes false = omega (arith, length-take len bytes, length-drop len bytes)

cut_sizes : (id len : ℕ) (bytes : List ℕ) → IfSome (cut_element id len bytes) (λ x. length x.0.bytes + length x.1 ≤ length bytes)
unfolding cut_parts
cut_sizes id len bytes = cut_if id len bytes (nat_lt (length bytes) len)

unless_reserved : (id len : ℕ) (bytes : List ℕ) (b : Bool) → IfSome (cond b None (cut_element id len bytes)) (λ x. length x.0.bytes + length x.1 ≤ suc (length bytes))
unless_reserved id len bytes true = tt
unless_reserved id len bytes false = more (cut_element id len bytes) (length bytes) (suc (length bytes)) (omega arith) (cut_sizes id len bytes)

element_sizes : (form : ElementForm) (bytes : List ℕ) → IfSome (element_at form bytes) (λ x. length x.0.bytes + length x.1 ≤ length bytes)
unfolding element_at
element_sizes forms.OneByte [] = tt
element_sizes forms.OneByte (b ∷ bytes) = unless_reserved (b / 16) (b % 16 + 1) bytes (is_reserved (b / 16))
element_sizes forms.TwoByte [] = tt
element_sizes forms.TwoByte (b ∷ []) = tt
element_sizes forms.TwoByte (id ∷ len ∷ bytes) = more (cut_element id len bytes) (length bytes) (suc (suc (length bytes))) (omega arith) (cut_sizes id len bytes)

element_size : (late : Bool) (bytes : List ℕ) → length (cleared_element late bytes) ≡ length bytes
element_size true bytes = length-replicate {A = ℕ} (length bytes) 0
element_size false bytes = refl

sized : (late : LateIds) (bytes : List ℕ) (o : Option (Element × List ℕ)) → IfSome o (λ x. length x.0.bytes + length x.1 ≤ length bytes)
    → length (element_front late bytes o).written + length (element_front late bytes o).rest ≡ length bytes
sized late bytes None h = omega arith
sized late bytes (Some x) h =
    omega (arith, h, element_size (is_late late x.0.id) (take (length bytes - length x.1) bytes), length-take (length bytes - length x.1) bytes)

front_size : (late : LateIds) (form : ElementForm) (bytes : List ℕ) → length (front_of late form bytes).written + length (front_of late form bytes).rest ≡ length bytes
unfolding front_of
front_size late form [] = sized late [] (element_at form []) (element_sizes form [])
front_size late form (zero ∷ bytes) = omega arith
front_size late form (suc b ∷ bytes) = sized late (suc b ∷ bytes) (element_at form (suc b ∷ bytes)) (element_sizes form (suc b ∷ bytes))

pub cleared_size : (n : ℕ) (late : LateIds) (form : ElementForm) (bytes : List ℕ) → length (cleared_in n late form bytes) ≡ length bytes
unfolding cleared_in
cleared_size zero late form bytes = refl
cleared_size (suc n) late form bytes =
    omega (arith, length-append (front_of late form bytes).written (cleared_in n late form (front_of late form bytes).rest), cleared_size n late form (front_of late form bytes).rest, front_size late form bytes)

pub by_size : (late : LateIds) (form : Option ElementForm) (bytes : List ℕ) → length (cleared_by late form bytes) ≡ length bytes
by_size late None bytes = refl
by_size late (Some form) bytes = cleared_size (length bytes) late form bytes

-- ---- the loop

pub empty_is : (n : ℕ) (late : LateIds) (form : ElementForm) (rest out all : List ℕ) → length rest ≡ 0 → out ++ cleared_in n late form rest ≡ all → out ≡ all
empty_is n late form (b ∷ rest) out all none h = absurd cc
empty_is n late form [] out all none h =
    sym (append-nil out) ∙ ap (λ (bs : List ℕ). out ++ bs) (sym (cleared_none n late form)) ∙ h

pub cleared_part : (n : ℕ) (late : LateIds) (form : ElementForm) (bytes rest out more all : List ℕ) → 0 < n → more ≡ out ++ (front_of late form bytes).written → rest ≡ (front_of late form bytes).rest
    → out ++ cleared_in n late form bytes ≡ all → more ++ cleared_in (n - 1) late form rest ≡ all
cleared_part n late form bytes rest out more all some written left h =
    ap (λ (bs : List ℕ). bs ++ cleared_in (n - 1) late form rest) written
    ∙ ap (λ (bs : List ℕ). (out ++ (front_of late form bytes).written) ++ cleared_in (n - 1) late form bs) left
    ∙ append_assoc out (front_of late form bytes).written (cleared_in (n - 1) late form (front_of late form bytes).rest)
    ∙ ap (λ (bs : List ℕ). out ++ bs) (sym (cleared_first n late form bytes some)) ∙ h

pub cleared_last : (n : ℕ) (late : LateIds) (form : ElementForm) (rest out all : List ℕ) → n ≤ 0 → out ++ cleared_in n late form rest ≡ all → out ++ rest ≡ all
cleared_last n late form rest out all none h =
    let is : n ≡ 0 = omega (arith, none) in
    ap (λ (bs : List ℕ). out ++ bs) (sym (ap (λ (k : ℕ). cleared_in k late form rest) is ∙ cleared_end late form rest)) ∙ h
