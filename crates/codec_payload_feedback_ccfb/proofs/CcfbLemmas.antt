-- Blocks that are read one after another, and how long what is written is.
use Rattle.std.proofs.Common.{◌≡◌, inl, inr, ℕ, zero, suc, ◌+◌, ◌-◌, ◌*◌, ◌%◌, ◌<◌, ◌≤◌, ◌&&◌, Bool, true, false, nat_le, List, [], ◌∷◌, ◌++◌, length, Option, Result, Ok, Err, refl, sym, ap, ◌∙◌, arith, append_assoc, length-append}
use Rattle.std.specs.Int.{w16, w32, from_be_bytes, to_be_bytes}
use Rattle.std.proofs.lemmas.Bool.{cases_eq, cases_lt, eq-eqb, le-ltb, lt-ltb, ne_eqb}
use Rattle.std.proofs.lemmas.Bool.Decides.{nat_tests}
use Rattle.std.proofs.lemmas.List.{append-nil, length-drop}
use Rattle.codec_payload_feedback_ccfb.specs.Ccfb.{Congestion, Report, block_size, body_bytes, fill_of, metrics_bytes, report_bytes, reports_bytes, report_fits, reports_fit}
use Rattle.codec_payload_feedback_ccfb.specs.CcfbReading.{◌>>=◌, Fails, after_block, block_at, reports_at, reports_in, with_report, with_reports}
use Rattle.codec_payload_feedback_ccfb.specs.declared.feedback.CcfbError.{CcfbError}
use Rattle.codec_payload_feedback_ccfb.specs.declared.feedback.CcfbError.TheVariants as failures
use Rattle.codec_payload_feedback_ccfb.specs.declared.feedback.CcfbFault.{CcfbFault}
use Rattle.codec_payload_feedback_ccfb.specs.declared.feedback.PacketMetric.{PacketMetric}

-- ---- blocks

abbrev rest_of : Result (Report × List ℕ) CcfbFault → List ℕ
rest_of (Ok x) = x.1
rest_of (Err e) = []

after_within : (ssrc first count : ℕ) (bytes : List ℕ) → length (rest_of (after_block ssrc first count bytes)) ≤ length bytes
after_within ssrc first count bytes =
    elim (cases_lt 16384 count) [
      | inl many ↦ rw (lt-ltb 16384 count many) (omega arith)
      | inr few ↦ rw (le-ltb 16384 count few) (elim (cases_lt (length bytes) (2 * (count + count % 2))) [
        | inl short ↦ rw (lt-ltb (length bytes) (2 * (count + count % 2)) short) (omega arith)
        | inr long ↦ rw (le-ltb (length bytes) (2 * (count + count % 2)) long) (omega (arith, length-drop (2 * (count + count % 2)) bytes))
      ])
    ]

block_within : (bytes : List ℕ) → length (rest_of (block_at bytes)) ≤ length bytes - 8
unfolding block_at
block_within [] = omega arith
block_within (a ∷ []) = omega arith
block_within (a ∷ b ∷ []) = omega arith
block_within (a ∷ b ∷ c ∷ []) = omega arith
block_within (a ∷ b ∷ c ∷ d ∷ []) = omega arith
block_within (a ∷ b ∷ c ∷ d ∷ e ∷ []) = omega arith
block_within (a ∷ b ∷ c ∷ d ∷ e ∷ f ∷ []) = omega arith
block_within (a ∷ b ∷ c ∷ d ∷ e ∷ f ∷ g ∷ []) = omega arith
block_within (a ∷ b ∷ c ∷ d ∷ e ∷ f ∷ g ∷ h ∷ bytes) = omega (arith, after_within (from_be_bytes w32 (a ∷ b ∷ c ∷ d ∷ [])) (from_be_bytes w16 (e ∷ f ∷ [])) (from_be_bytes w16 (g ∷ h ∷ [])) bytes)

pub block_shorter : (bytes : List ℕ) (x : Report × List ℕ) → block_at bytes ≡ Ok x → 0 < length bytes → length x.1 < length bytes
block_shorter bytes x is some = omega (arith, block_within bytes, ap (λ (o : Result (Report × List ℕ) CcfbFault). length (rest_of o)) is, some)

same_rest : (f g : List ℕ → Result (List Report) CcfbFault) (o : Result (Report × List ℕ) CcfbFault) → ((x : Report × List ℕ) → o ≡ Ok x → f x.1 ≡ g x.1)
    → (o >>= λ x. with_report x.0 (f x.1)) ≡ (o >>= λ x. with_report x.0 (g x.1))
same_rest f g (Ok x) h = ap (λ (a : Result (List Report) CcfbFault). with_report x.0 a) (h x refl)
same_rest f g (Err e) h = refl

enough : (n m : ℕ) (bytes : List ℕ) → length bytes ≤ n → length bytes ≤ m → reports_in n bytes ≡ reports_in m bytes
unfolding reports_in
enough n m [] a b = refl
enough zero m (x ∷ bytes) a b = absurd (omega (arith, a))
enough (suc n) zero (x ∷ bytes) a b = absurd (omega (arith, b))
enough (suc n) (suc m) (x ∷ bytes) a b =
    same_rest (reports_in n) (reports_in m) (block_at (x ∷ bytes)) (λ y is. let s = block_shorter (x ∷ bytes) y is (omega arith) in enough n m y.1 (omega (arith, s, a)) (omega (arith, s, b)))

-- what the block at the front says, and the rest
abbrev then_others : Result (Report × List ℕ) CcfbFault → Result (List Report) CcfbFault
then_others o = o >>= λ x. with_report x.0 (reports_at x.1)

one_read : (n : ℕ) (bytes : List ℕ) → n ≡ length bytes → 0 < length bytes → reports_in n bytes ≡ then_others (block_at bytes)
unfolding reports_in
one_read n [] is some = absurd (omega (arith, some))
one_read zero (b ∷ bytes) is some = absurd (omega (arith, is))
one_read (suc n) (b ∷ bytes) is some =
    same_rest (reports_in n) reports_at (block_at (b ∷ bytes)) (λ y e. let s = block_shorter (b ∷ bytes) y e (omega arith) in enough n (length y.1) y.1 (omega (arith, s, is)) (omega arith))

pub read_by : (bytes : List ℕ) (o : Result (Report × List ℕ) CcfbFault) → block_at bytes ≡ o → 0 < length bytes → reports_at bytes ≡ then_others o
read_by bytes o is some = one_read (length bytes) bytes refl some ∙ ap then_others is

with_more : (xs : List Report) (r : Report) (o : Result (List Report) CcfbFault) → with_reports xs (with_report r o) ≡ with_reports (xs ++ r ∷ []) o
with_more xs r (Ok rs) = ap (λ (ys : List Report). Ok ys) (sym (append_assoc xs (r ∷ []) rs))
with_more xs r (Err e) = refl

pub read_more : (xs : List Report) (bytes others : List ℕ) (r : Report) (target : Result (List Report) CcfbFault) → block_at bytes ≡ Ok (r, others) → 0 < length bytes → with_reports xs (reports_at bytes) ≡ target
    → with_reports (xs ++ r ∷ []) (reports_at others) ≡ target
read_more xs bytes others r target is some before =
    sym (with_more xs r (reports_at others)) ∙ ap (with_reports xs) (sym (read_by bytes (Ok (r, others)) is some)) ∙ before

pub read_none : (xs : List Report) (bytes : List ℕ) (target : Result (List Report) CcfbFault) → length bytes ≡ 0 → with_reports xs (reports_at bytes) ≡ target → target ≡ Ok xs
unfolding reports_in
read_none xs [] target is before = sym before ∙ ap (λ (ys : List Report). Ok ys) (append-nil xs)
read_none xs (b ∷ bytes) target is before = absurd (omega (arith, is))

pub read_fault : (error : CcfbError) (xs : List Report) (bytes : List ℕ) (target : Result (List Report) CcfbFault) → Fails error (block_at bytes) → 0 < length bytes → with_reports xs (reports_at bytes) ≡ target → Fails error target
read_fault failures.OutOfMemory xs bytes target is some before = tt
read_fault (failures.Fault f) xs bytes target is some before = sym before ∙ ap (with_reports xs) (read_by bytes (Err f) is some)

-- ---- lengths

pub length_metrics : (ms : List (Option PacketMetric)) → length (metrics_bytes ms) ≡ 2 * length ms
length_metrics [] = refl
length_metrics (m ∷ ms) = omega (arith, length_metrics ms)

pub length_fill : (count : ℕ) → length (fill_of count) ≡ 2 * (count % 2)
length_fill count =
    elim (cases_eq (count % 2) 0) [
      | inl even ↦ rw (eq-eqb (count % 2) 0 even) (omega (arith, even))
      | inr odd ↦ rw (ne_eqb (count % 2) 0 odd) (omega (arith, odd))
    ]

pub length_report : (r : Report) → length (report_bytes r) ≡ block_size (length r.metrics)
length_report r =
    let ms : ℕ = length r.metrics in
    let tail : length (metrics_bytes r.metrics ++ fill_of ms) ≡ 2 * ms + 2 * (ms % 2) = length-append (metrics_bytes r.metrics) (fill_of ms) ∙ omega (arith, length_metrics r.metrics, length_fill ms) in
    omega (arith, tail)

pub both : (a b : Bool) → (a && b) ≡ true → (a ≡ true) × (b ≡ true)
both true true e = (refl, refl)
both true false e = absurd cc
both false b e = absurd cc

pub length_reports : (room : ℕ) (rs : List Report) → reports_fit room rs ≡ true → (length (reports_bytes rs) ≤ room) × (length (reports_bytes rs) % 4 ≡ 0)
length_reports room [] fit = (omega arith, refl)
length_reports room (r ∷ rs) fit =
    let size : ℕ = block_size (length r.metrics) in
    let parts = both (report_fits r) (nat_le size room && reports_fit (room - size) rs) fit in
    let rest = both (nat_le size room) (reports_fit (room - size) rs) parts.1 in
    let later = length_reports (room - size) rs rest.1 in
    let long : length (reports_bytes (r ∷ rs)) ≡ size + length (reports_bytes rs) = length-append (report_bytes r) (reports_bytes rs) ∙ ap (λ (n : ℕ). n + length (reports_bytes rs)) (length_report r) in
    let within : size ≤ room = grind (arith, nat_tests, rest.0) in
    (omega (arith, long, within, later.0), omega (arith, long, later.1))

pub length_body : (f : Congestion) → length (body_bytes f) ≡ 8 + length (reports_bytes f.reports)
length_body f =
    let tail : length (reports_bytes f.reports ++ to_be_bytes w32 f.timestamp) ≡ length (reports_bytes f.reports) + 4 = length-append (reports_bytes f.reports) (to_be_bytes w32 f.timestamp) in
    omega (arith, tail)
