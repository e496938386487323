-- Extensions with zeros.
use Rattle.std.proofs.Common.{◌≡◌, ℕ, zero, suc, ◌+◌, ◌-◌, ◌/◌, ◌%◌, ◌<◌, ◌≤◌, Bool, true, false, cond, nat_lt, List, [], ◌∷◌, ◌++◌, drop, length, replicate, take, Option, Some, None, refl, sym, ap, append_assoc, ◌∙◌, arith}
use Rattle.std.specs.Prelude.{IfSome}
use Rattle.codec_payload_rtp.specs.Elements.{Element, cut_element, element_at, is_reserved}
use Rattle.codec_payload_rtp.specs.declared.elements.ElementForm.{ElementForm}
use Rattle.codec_payload_rtp.specs.declared.elements.ElementForm.TheVariants as forms
use Rattle.codec_payload_fec_receiver.specs.declared.late.LateIds.{LateIds}
use Rattle.codec_payload_fec_receiver.specs.Late.{element_front, front_of, zeroed_by, zeroed_in, zeroed_value, zeros_from}
use Rattle.std.proofs.lemmas.List.{append-nil, length-append, length-take, length-drop, length-replicate}

pub zeroed_none : (n : ℕ) (late : LateIds) (form : ElementForm) → zeroed_in n late form [] ≡ []
unfolding zeroed_in front_of element_at
zeroed_none zero late form = refl
zeroed_none (suc n) late forms.OneByte = zeroed_none n late forms.OneByte
zeroed_none (suc n) late forms.TwoByte = zeroed_none n late forms.TwoByte

pub zeroed_first : (n : ℕ) (late : LateIds) (form : ElementForm) (bytes : List ℕ) → 0 < n → zeroed_in n late form bytes ≡ (front_of late form bytes).written ++ zeroed_in (n - 1) late form (front_of late form bytes).rest
unfolding zeroed_in
zeroed_first zero late form bytes h = absurd (omega (arith, h))
zeroed_first (suc n) late form bytes h =
    let back : n ≡ suc n - 1 = omega arith in
    ap (λ (k : ℕ). (front_of late form bytes).written ++ zeroed_in k late form (front_of late form bytes).rest) back

pub zeroed_end : (late : LateIds) (form : ElementForm) (bytes : List ℕ) → zeroed_in 0 late form bytes ≡ bytes
unfolding zeroed_in
zeroed_end late form bytes = refl

-- ---- the length stays

-- the element is within the bytes
more : (o : Option (Element × List ℕ)) (m n : ℕ) → m ≤ n → IfSome o (λ x. length x.0.bytes + length x.1 ≤ m) → IfSome o (λ x. length x.0.bytes + length x.1 ≤ n)
more None m n le h = tt
more (Some x) m n le h = omega (arith, le, h)

cut_parts : (id len : ℕ) (bytes : List ℕ) → Element × List ℕ
cut_parts id len bytes = (record { id = id; bytes = take len bytes }, drop len bytes)

cut_if : (id len : ℕ) (bytes : List ℕ) (b : Bool) → IfSome (cond b None (Some (cut_parts id len bytes))) (λ x. length x.0.bytes + length x.1 ≤ length bytes)
unfolding cut_parts
cut_if id len bytes true = tt
cut_if id len bytes false = omega (arith, length-take len bytes, length-drop len bytes)

cut_sizes : (id len : ℕ) (bytes : List ℕ) → IfSome (cut_element id len bytes) (λ x. length x.0.bytes + length x.1 ≤ length bytes)
unfolding cut_parts
cut_sizes id len bytes = cut_if id len bytes (nat_lt (length bytes) len)

unless_reserved : (id len : ℕ) (bytes : List ℕ) (b : Bool) → IfSome (cond b None (cut_element id len bytes)) (λ x. length x.0.bytes + length x.1 ≤ suc (length bytes))
unless_reserved id len bytes true = tt
unless_reserved id len bytes false = more (cut_element id len bytes) (length bytes) (suc (length bytes)) (omega arith) (cut_sizes id len bytes)

element_sizes : (form : ElementForm) (bytes : List ℕ) → IfSome (element_at form bytes) (λ x. length x.0.bytes + length x.1 ≤ length bytes)
unfolding element_at
element_sizes forms.OneByte [] = tt
element_sizes forms.OneByte (b ∷ bytes) = unless_reserved (b / 16) (b % 16 + 1) bytes (is_reserved (b / 16))
element_sizes forms.TwoByte [] = tt
element_sizes forms.TwoByte (b ∷ []) = tt
element_sizes forms.TwoByte (id ∷ len ∷ bytes) = more (cut_element id len bytes) (length bytes) (suc (suc (length bytes))) (omega arith) (cut_sizes id len bytes)

value_size : (from : Option ℕ) (value : List ℕ) → length (zeroed_value from value) ≡ length value
value_size None value = refl
value_size (Some from) value = omega (arith, length-append (take from value) (replicate (length value - from) 0), length-take from value, length-replicate {A = ℕ} (length value - from) 0)

sized : (late : LateIds) (bytes : List ℕ) (o : Option (Element × List ℕ)) → IfSome o (λ x. length x.0.bytes + length x.1 ≤ length bytes)
    → length (element_front late bytes o).written + length (element_front late bytes o).rest ≡ length bytes
sized late bytes None h = omega arith
sized late bytes (Some x) h =
    omega (arith, h, length-append (take (length bytes - length x.1 - length x.0.bytes) bytes) (zeroed_value (zeros_from late x.0.id) x.0.bytes), length-take (length bytes - length x.1 - length x.0.bytes) bytes, value_size (zeros_from late x.0.id) x.0.bytes)

front_size : (late : LateIds) (form : ElementForm) (bytes : List ℕ) → length (front_of late form bytes).written + length (front_of late form bytes).rest ≡ length bytes
unfolding front_of
front_size late form [] = sized late [] (element_at form []) (element_sizes form [])
front_size late form (zero ∷ bytes) = omega arith
front_size late form (suc b ∷ bytes) = sized late (suc b ∷ bytes) (element_at form (suc b ∷ bytes)) (element_sizes form (suc b ∷ bytes))

pub zeroed_size : (n : ℕ) (late : LateIds) (form : ElementForm) (bytes : List ℕ) → length (zeroed_in n late form bytes) ≡ length bytes
unfolding zeroed_in
zeroed_size zero late form bytes = refl
zeroed_size (suc n) late form bytes =
    omega (arith, length-append (front_of late form bytes).written (zeroed_in n late form (front_of late form bytes).rest), zeroed_size n late form (front_of late form bytes).rest, front_size late form bytes)

pub by_size : (late : LateIds) (form : Option ElementForm) (bytes : List ℕ) → length (zeroed_by late form bytes) ≡ length bytes
by_size late None bytes = refl
by_size late (Some form) bytes = zeroed_size (length bytes) late form bytes

-- ---- the loop

pub empty_is : (n : ℕ) (late : LateIds) (form : ElementForm) (rest out all : List ℕ) → length rest ≡ 0 → out ++ zeroed_in n late form rest ≡ all → out ≡ all
empty_is n late form (b ∷ rest) out all none h = absurd cc
empty_is n late form [] out all none h =
    sym (append-nil out) ∙ ap (λ (bs : List ℕ). out ++ bs) (sym (zeroed_none n late form)) ∙ h

pub zeroed_part : (n : ℕ) (late : LateIds) (form : ElementForm) (bytes rest out more all : List ℕ) → 0 < n → more ≡ out ++ (front_of late form bytes).written → rest ≡ (front_of late form bytes).rest
    → out ++ zeroed_in n late form bytes ≡ all → more ++ zeroed_in (n - 1) late form rest ≡ all
zeroed_part n late form bytes rest out more all some written left h =
    ap (λ (bs : List ℕ). bs ++ zeroed_in (n - 1) late form rest) written
    ∙ ap (λ (bs : List ℕ). (out ++ (front_of late form bytes).written) ++ zeroed_in (n - 1) late form bs) left
    ∙ append_assoc out (front_of late form bytes).written (zeroed_in (n - 1) late form (front_of late form bytes).rest)
    ∙ ap (λ (bs : List ℕ). out ++ bs) (sym (zeroed_first n late form bytes some)) ∙ h

pub zeroed_last : (n : ℕ) (late : LateIds) (form : ElementForm) (rest out all : List ℕ) → n ≤ 0 → out ++ zeroed_in n late form rest ≡ all → out ++ rest ≡ all
zeroed_last n late form rest out all none h =
    let is : n ≡ 0 = omega (arith, none) in
    ap (λ (bs : List ℕ). out ++ bs) (sym (ap (λ (k : ℕ). zeroed_in k late form rest) is ∙ zeroed_end late form rest)) ∙ h
