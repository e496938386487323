-- Written bytes are read back.
use Rattle.std.proofs.Common.{◌≡◌, ℕ, zero, suc, ◌+◌, ◌*◌, ◌/◌, ◌^◌, ◌<◌, ◌≤◌, Bool, true, false, not, cond, ltb, eqb, List, [], ◌∷◌, ◌++◌, length, Some, refl, ◌∙◌, ap, append_assoc, inl, inr, arith}
use Rattle.std.specs.Prelude.{◌||◌, ◌&&◌, bit_and, bit_or}
use Rattle.std.specs.List.{AllByRecursion}
use Rattle.std.proofs.lemmas.List.{length-append, take_at, drop_at}
use Rattle.std.proofs.lemmas.Bool.{cases_lt, lt-ltb, le-ltb, ne_eqb, eq-eqb, eqb-true}
use Rattle.codec_payload_base.specs.Leb.{leb, leb_at}
use Rattle.codec_payload_base.proofs.LebLaws.{writes_leb, leb_complete}
use Rattle.codec_payload_av1.specs.Av1Obu.{Obu, IsObu, has_bit, has_extension, is_kept_type, string, canonical, obu_at, extension_at}
use Rattle.codec_payload_av1.specs.Av1Payload.{is_head, Payload, written, body, element_count, each_with_length, all_but_last_with_length, payload_at, element_at, each_at, counted_at, elements_at}
use Rattle.codec_payload_av1.specs.Av1Receiving.{unit_of}

-- ---- tests over a table

abbrev passes_below : ℕ → (ℕ → Bool) → Bool
passes_below zero test = true
passes_below (suc n) test = test n && passes_below n test

pub and_true : (a b : Bool) → (a && b) ≡ true → (a ≡ true) × (b ≡ true)
and_true true b e = (refl, e)
and_true false b e = absurd cc

pub at_each : (n : ℕ) (test : ℕ → Bool) → passes_below n test ≡ true → (k : ℕ) → k < n → test k ≡ true
at_each zero test e k lt = absurd (omega (arith, lt))
at_each (suc n) test e k lt =
    let both = and_true (test n) (passes_below n test) e in
    elim (cases_lt k n) [
      | inl less ↦ at_each n test both.1 k less
      | inr more ↦ let is : k ≡ n = omega arith in rw is both.0
    ]

-- ---- numbers

pub leb_again : (n : ℕ) (rest : List ℕ) → n < 2 ^ 64 → leb_at (leb n ++ rest) ≡ Some (n, rest)
leb_again n rest lt = leb_complete (leb n ++ rest) n rest (leb n) (writes_leb n lt) refl

-- ---- the aggregation header

abbrev flags : Bool → Bool → Bool → ℕ → ℕ
flags z y n w = cond z 128 0 + cond y 64 0 + 16 * w + cond n 8 0

record HasFlags (h : ℕ) (z y n : Bool) (w : ℕ) : Type 0 where
  count : bit_and h 0x30 / 16 ≡ w
  continues : has_bit 128 h ≡ z
  goes_on : has_bit 64 h ≡ y
  starts : has_bit 8 h ≡ n

flags_again : (z y n : Bool) (w : ℕ) → w ≤ 3 → HasFlags (flags z y n w) z y n w
flags_again true true true zero le = record { count = refl; continues = refl; goes_on = refl; starts = refl }
flags_again true true true (suc zero) le = record { count = refl; continues = refl; goes_on = refl; starts = refl }
flags_again true true true (suc (suc zero)) le = record { count = refl; continues = refl; goes_on = refl; starts = refl }
flags_again true true true (suc (suc (suc zero))) le = record { count = refl; continues = refl; goes_on = refl; starts = refl }
flags_again true true false zero le = record { count = refl; continues = refl; goes_on = refl; starts = refl }
flags_again true true false (suc zero) le = record { count = refl; continues = refl; goes_on = refl; starts = refl }
flags_again true true false (suc (suc zero)) le = record { count = refl; continues = refl; goes_on = refl; starts = refl }
flags_again true true false (suc (suc (suc zero))) le = record { count = refl; continues = refl; goes_on = refl; starts = refl }
flags_again true false true zero le = record { count = refl; continues = refl; goes_on = refl; starts = refl }
flags_again true false true (suc zero) le = record { count = refl; continues = refl; goes_on = refl; starts = refl }
flags_again true false true (suc (suc zero)) le = record { count = refl; continues = refl; goes_on = refl; starts = refl }
flags_again true false true (suc (suc (suc zero))) le = record { count = refl; continues = refl; goes_on = refl; starts = refl }
flags_again true false false zero le = record { count = refl; continues = refl; goes_on = refl; starts = refl }
flags_again true false false (suc zero) le = record { count = refl; continues = refl; goes_on = refl; starts = refl }
flags_again true false false (suc (suc zero)) le = record { count = refl; continues = refl; goes_on = refl; starts = refl }
flags_again true false false (suc (suc (suc zero))) le = record { count = refl; continues = refl; goes_on = refl; starts = refl }
flags_again false true true zero le = record { count = refl; continues = refl; goes_on = refl; starts = refl }
flags_again false true true (suc zero) le = record { count = refl; continues = refl; goes_on = refl; starts = refl }
flags_again false true true (suc (suc zero)) le = record { count = refl; continues = refl; goes_on = refl; starts = refl }
flags_again false true true (suc (suc (suc zero))) le = record { count = refl; continues = refl; goes_on = refl; starts = refl }
flags_again false true false zero le = record { count = refl; continues = refl; goes_on = refl; starts = refl }
flags_again false true false (suc zero) le = record { count = refl; continues = refl; goes_on = refl; starts = refl }
flags_again false true false (suc (suc zero)) le = record { count = refl; continues = refl; goes_on = refl; starts = refl }
flags_again false true false (suc (suc (suc zero))) le = record { count = refl; continues = refl; goes_on = refl; starts = refl }
flags_again false false true zero le = record { count = refl; continues = refl; goes_on = refl; starts = refl }
flags_again false false true (suc zero) le = record { count = refl; continues = refl; goes_on = refl; starts = refl }
flags_again false false true (suc (suc zero)) le = record { count = refl; continues = refl; goes_on = refl; starts = refl }
flags_again false false true (suc (suc (suc zero))) le = record { count = refl; continues = refl; goes_on = refl; starts = refl }
flags_again false false false zero le = record { count = refl; continues = refl; goes_on = refl; starts = refl }
flags_again false false false (suc zero) le = record { count = refl; continues = refl; goes_on = refl; starts = refl }
flags_again false false false (suc (suc zero)) le = record { count = refl; continues = refl; goes_on = refl; starts = refl }
flags_again false false false (suc (suc (suc zero))) le = record { count = refl; continues = refl; goes_on = refl; starts = refl }
flags_again z y n (suc (suc (suc (suc w)))) le = absurd (omega (arith, le))

-- ---- elements

-- an element that can be spelled
abbrev pub Spelled : List ℕ → Type 0
Spelled e = (0 < length e) × (length e < 2 ^ 64)

pub nonzero_test : (n m : ℕ) → 0 < n → n ≤ m → (eqb n 0 || ltb m n) ≡ false
nonzero_test n m lt le = rw (ne_eqb n 0 (omega arith), le-ltb m n le) refl

element_again : (e rest : List ℕ) → Spelled e → element_at (leb (length e) ++ (e ++ rest)) ≡ Some (e, rest)
unfolding element_at
element_again e rest h =
    rw (
      leb_again (length e) (e ++ rest) h.1,
      nonzero_test (length e) (length (e ++ rest)) h.0 (omega (arith, length-append e rest)),
      take_at e rest (length e) refl,
      drop_at e rest (length e) refl,
    ) refl

pub each_step : (k : ℕ) (bytes : List ℕ) (e rest : List ℕ) (es : List (List ℕ)) → element_at bytes ≡ Some (e, rest) → each_at k rest ≡ Some es → each_at (suc k) bytes ≡ Some (e ∷ es)
unfolding each_at element_at leb_at
each_step k [] e rest es one others = absurd cc
each_step k (b ∷ bytes) e rest es one others = rw (one, others) refl

each_again : (k : ℕ) (es : List (List ℕ)) → AllByRecursion Spelled es → length (each_with_length es) ≤ k → each_at k (each_with_length es) ≡ Some es
unfolding each_at
each_again k [] h le = refl
each_again zero (e ∷ es) h le = absurd (omega (arith, h.0.0, length-append (leb (length e) ++ e) (each_with_length es), length-append (leb (length e)) e, le))
each_again (suc k) (e ∷ es) h le =
    let one : element_at (each_with_length (e ∷ es)) ≡ Some (e, each_with_length es) = rw append_assoc (element_again e (each_with_length es) h.0) in
    each_step k (each_with_length (e ∷ es)) e (each_with_length es) es one
    (each_again k es h.1 (omega (arith, h.0.0, length-append (leb (length e) ++ e) (each_with_length es), length-append (leb (length e)) e, le)))

pub counted_step : (k : ℕ) (bytes : List ℕ) (e rest : List ℕ) (es : List (List ℕ)) → element_at bytes ≡ Some (e, rest) → counted_at k rest ≡ Some es → counted_at (suc k) bytes ≡ Some (e ∷ es)
unfolding counted_at element_at leb_at
counted_step k [] e rest es one others = absurd cc
counted_step k (b ∷ bytes) e rest es one others = rw (one, others) refl

counted_again : (k : ℕ) (es : List (List ℕ)) → AllByRecursion Spelled es → length es ≡ k + 1 → counted_at k (all_but_last_with_length es) ≡ Some es
unfolding counted_at
counted_again k [] h e = absurd (omega (arith, e))
counted_again k ([] ∷ []) h e = absurd (omega (arith, h.0.0))
counted_again zero ((b ∷ bs) ∷ []) h e = refl
counted_again (suc k) ((b ∷ bs) ∷ []) h e = absurd (omega (arith, e))
counted_again zero (d ∷ f ∷ es) h e = absurd (omega (arith, e))
counted_again (suc k) (d ∷ f ∷ es) h e =
    let one : element_at (all_but_last_with_length (d ∷ f ∷ es)) ≡ Some (d, all_but_last_with_length (f ∷ es)) = rw append_assoc (element_again d (all_but_last_with_length (f ∷ es)) h.0) in
    counted_step k (all_but_last_with_length (d ∷ f ∷ es)) d (all_but_last_with_length (f ∷ es)) (f ∷ es) one (counted_again k (f ∷ es) h.1 (omega (arith, e)))

-- ---- payloads

count_small : (es : List (List ℕ)) → element_count es ≤ 3
count_small es =
    elim (cases_lt 3 (length es)) [
      | inl more ↦ rw (lt-ltb 3 (length es) more) (omega arith)
      | inr few ↦ rw (le-ltb 3 (length es) few) few
    ]

or_true : (b : Bool) → (b || true) ≡ true
or_true true = refl
or_true false = refl

body_again : (es : List (List ℕ)) → AllByRecursion Spelled es → 0 < length es → elements_at (element_count es) (body es) ≡ Some es
body_again [] h ne = absurd (omega (arith, ne))
body_again (e ∷ es) h ne =
    elim (cases_lt 3 (length (e ∷ es))) [
      | inl more ↦ rw (lt-ltb 3 (length (e ∷ es)) more) (each_again (length (each_with_length (e ∷ es))) (e ∷ es) h (omega arith))
      | inr few ↦ rw (le-ltb 3 (length (e ∷ es)) few) (counted_again (length es) (e ∷ es) h (omega arith))
    ]

whole : (es : List (List ℕ)) → (eqb (element_count es) 0 || eqb (length es) (element_count es)) ≡ true
whole es =
    elim (cases_lt 3 (length es)) [
      | inl more ↦ rw (lt-ltb 3 (length es) more) refl
      | inr few ↦ rw (le-ltb 3 (length es) few, eq-eqb (length es) (length es) refl) (or_true (eqb (length es) 0))
    ]

and_one : (b : Bool) → (b && true) ≡ b
and_one true = refl
and_one false = refl

pub payload_again : (p : Payload) → AllByRecursion Spelled p.elements → 0 < length p.elements → payload_at (written p) ≡ Some p
unfolding payload_at written
payload_again p h ne =
    let f = flags_again p.continues p.goes_on p.starts (element_count p.elements) (count_small p.elements) in
    rw (f.count, body_again p.elements h ne, f.continues, f.goes_on, f.starts, whole p.elements)
    (ap (λ (y : Bool). Some (record { continues = p.continues; goes_on = y; starts = p.starts; elements = p.elements })) (and_one p.goes_on))

-- ---- OBUs

-- a header without its size bit, read again
abbrev mask_test : ℕ → Bool
mask_test h = eqb (bit_and (bit_and h 0xfd) 4) (bit_and h 4) &&
    (eqb (bit_and (bit_and h 0xfd) 2) 0 && (eqb (bit_and (bit_and h 0xfd) 0x78) (bit_and h 0x78) && eqb (bit_or (bit_and h 0xfd) 2) (bit_or h 2)))

record Masked (h : ℕ) : Type 0 where
  extension : bit_and (bit_and h 0xfd) 4 ≡ bit_and h 4
  size : bit_and (bit_and h 0xfd) 2 ≡ 0
  type : bit_and (bit_and h 0xfd) 0x78 ≡ bit_and h 0x78
  back : bit_or (bit_and h 0xfd) 2 ≡ bit_or h 2

masked : (h : ℕ) → h < 256 → Masked h
masked h lt =
    let a = and_true _ _ (at_each 256 mask_test refl h lt) in
    let b = and_true _ _ a.1 in
    let c = and_true _ _ b.1 in
    record { extension = eqb-true _ _ a.0; size = eqb-true _ _ b.0; type = eqb-true _ _ c.0; back = eqb-true _ _ c.1 }

pub extension_again : (b : Bool) (ext rest : List ℕ) → length ext ≡ cond b 1 0 → extension_at b (ext ++ rest) ≡ Some (ext, rest)
extension_again false [] rest e = refl
extension_again false (x ∷ ext) rest e = absurd (omega (arith, e))
extension_again true [] rest e = absurd (omega (arith, e))
extension_again true (x ∷ []) rest e = refl
extension_again true (x ∷ y ∷ ext) rest e = absurd (omega (arith, e))

-- an OBU of a frame: a byte for its header
pub record IsGood (o : Obu) : Type 0 where
  pub is_obu : IsObu o
  pub byte : o.header < 256
  pub size : length o.payload < 2 ^ 64

-- the string of a kept OBU adds its canonical form
pub unit_again : (o : Obu) → IsGood o → is_kept_type o.header ≡ true → unit_of (string o) ≡ Some (canonical o)
unfolding unit_of obu_at string canonical
unit_again o good is_kept =
    let m = masked o.header good.byte in
    let same : has_extension (bit_and o.header 0xfd) ≡ has_extension o.header = ap (λ n. not (eqb n 0)) m.extension in
    rw (same, extension_again (has_extension o.header) o.extension o.payload good.is_obu.extension, m.size, m.type, is_kept, m.back) (rw m.size refl)

-- a kept OBU is read back, and is its own canonical form
abbrev pub sized : Obu → Obu
sized o = record { header = bit_or o.header 2; extension = o.extension; payload = o.payload }

pub masked_type : (h : ℕ) → h < 256 → bit_and (bit_and h 0xfd) 0x78 ≡ bit_and h 0x78
masked_type h lt = (masked h lt).type

not_true : (b : Bool) → not b ≡ true → b ≡ false
not_true true e = absurd cc
not_true false e = refl

pub written_head : (p : Payload) → is_head (written p) ≡ true → p.continues ≡ false
unfolding written
written_head p h =
    let f = flags_again p.continues p.goes_on p.starts (element_count p.elements) (count_small p.elements) in
    not_true p.continues (rw f.continues at h)

true_not : (b : Bool) → b ≡ false → not b ≡ true
true_not true e = absurd cc
true_not false e = refl

pub head_written : (p : Payload) → p.continues ≡ false → is_head (written p) ≡ true
unfolding written
head_written p h =
    let f = flags_again p.continues p.goes_on p.starts (element_count p.elements) (count_small p.elements) in
    true_not _ (f.continues ∙ h)
