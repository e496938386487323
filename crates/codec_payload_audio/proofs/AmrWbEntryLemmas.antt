-- Lemmas on the table of contents.
use Rattle.std.proofs.Common.{◌≡◌, ℕ, ◌+◌, ◌*◌, ◌/◌, ◌%◌, ◌<◌, List, [], ◌∷◌, ◌++◌, length, refl, sym, ◌∙◌, ap, arith, append_assoc, length-append, Option, Some, None, Ok, Err, Result, Bool, true, false, eqb, leb, ◌≤◌, inl, inr}
use Rattle.std.proofs.lemmas.Bool.{cases_Bool, eqb-true, eqb-false, leb-true, leb-false}
use Rattle.std.specs.Option.{ok_or}
use Rattle.codec_payload_base.specs.Bits.{Reader, bits, left, ReadsBits}
use Rattle.codec_payload_base.proofs.BitLemmas.{length-bits}
use Rattle.codec_payload_base.specs.declared.error.PacketError.{PacketError}
use Rattle.codec_payload_base.specs.declared.error.PacketError.TheVariants as faults
use Rattle.codec_payload_audio.specs.declared.amr_wb.toc.TocEntry.{TocEntry}
use Rattle.codec_payload_audio.specs.AmrWbReceived.{Entry, entries_at, entry_then, with_front}
use Rattle.codec_payload_audio.specs.AmrWbEntries.{ReadsEntry, entry_of}
use Rattle.codec_payload_audio.specs.AmrWb.{bit_of}

pub entries_short6 : (bs : List ℕ) → length bs < 6 → entries_at false bs ≡ Err faults.ErrShortPacket
unfolding entries_at
entries_short6 [] h = refl
entries_short6 (a ∷ []) h = refl
entries_short6 (a ∷ b ∷ []) h = refl
entries_short6 (a ∷ b ∷ c ∷ []) h = refl
entries_short6 (a ∷ b ∷ c ∷ d ∷ []) h = refl
entries_short6 (a ∷ b ∷ c ∷ d ∷ e ∷ []) h = refl
entries_short6 (a ∷ b ∷ c ∷ d ∷ e ∷ f ∷ bs) h = absurd (omega arith)

pub entries_short8 : (bs : List ℕ) → length bs < 8 → entries_at true bs ≡ Err faults.ErrShortPacket
unfolding entries_at
entries_short8 [] h = refl
entries_short8 (a ∷ []) h = refl
entries_short8 (a ∷ b ∷ []) h = refl
entries_short8 (a ∷ b ∷ c ∷ []) h = refl
entries_short8 (a ∷ b ∷ c ∷ d ∷ []) h = refl
entries_short8 (a ∷ b ∷ c ∷ d ∷ e ∷ []) h = refl
entries_short8 (a ∷ b ∷ c ∷ d ∷ e ∷ f ∷ []) h = refl
entries_short8 (a ∷ b ∷ c ∷ d ∷ e ∷ f ∷ g ∷ []) h = refl
entries_short8 (a ∷ b ∷ c ∷ d ∷ e ∷ f ∷ g ∷ i ∷ bs) h = absurd (omega arith)

-- the entry of a number of six bits
abbrev pub six_bits : ℕ → Entry
six_bits n = record { kind = n / 2 % 16; quality = n % 2 }

pub bit_of_high : (b : ℕ) → b < 64 → bit_of (leb 32 b) ≡ b / 32
bit_of_high b small = elim (cases_Bool (leb 32 b)) [
  | inl high ↦ let most : 32 ≤ b = leb-true 32 b high in rw high (omega arith)
  | inr low ↦ let least : b < 32 = leb-false 32 b low in rw low (omega arith)
]

pub bit_of_low : (b : ℕ) → bit_of (eqb (b % 2) 1) ≡ b % 2
bit_of_low b = elim (cases_Bool (eqb (b % 2) 1)) [
  | inl high ↦ let odd : b % 2 ≡ 1 = eqb-true (b % 2) 1 high in rw high (omega arith)
  | inr low ↦ let even = eqb-false (b % 2) 1 low in rw low (omega (arith, even))
]

pub entries_six : (e : ℕ) (rest : List ℕ) → e < 64 → entries_at false (bits 6 e ++ rest) ≡ entry_then (e / 32) (six_bits e) rest (entries_at false rest)
unfolding entries_at bits
entries_six e rest small =
    let first : e / 32 % 2 ≡ e / 32 = omega arith in
    let kind : 8 * (e / 16 % 2) + 4 * (e / 8 % 2) + 2 * (e / 4 % 2) + e / 2 % 2 ≡ e / 2 % 16 = omega arith in
    let last : e / 1 ≡ e = omega arith in
    rw (first, kind, last) refl

pub entries_eight : (b : ℕ) (rest : List ℕ) → b < 256 → entries_at true (bits 8 b ++ rest) ≡ entry_then (b / 4 / 32) (six_bits (b / 4)) rest (entries_at true rest)
unfolding entries_at bits
entries_eight b rest small =
    let first : b / 128 % 2 ≡ b / 4 / 32 = omega arith in
    let kind : 8 * (b / 64 % 2) + 4 * (b / 32 % 2) + 2 * (b / 16 % 2) + b / 8 % 2 ≡ b / 4 / 2 % 16 = omega arith in
    rw (first, kind) refl

-- the entry that the code makes of six bits
record IsOf (t : TocEntry) (e : ℕ) : Type 0 where
  pub follows : bit_of t.follows ≡ e / 32
  pub frame_type : t.frame_type ≡ e / 2 % 16
  pub quality : bit_of t.quality ≡ e % 2

then_same : (t : TocEntry) (e : ℕ) (rest : List ℕ) (more : Result (List Entry × List ℕ) PacketError) → IsOf t e
    → entry_then (e / 32) (six_bits e) rest more ≡ entry_then (bit_of t.follows) (entry_of t) rest more
then_same t e rest more is = rw (is.follows, is.frame_type, is.quality) refl

pub reads_six : (old new : Reader) (e : ℕ) (t : TocEntry) → ReadsBits 6 old new (Some e) → bit_of t.follows ≡ e / 32 → t.frame_type ≡ e / 2 % 16
    → bit_of t.quality ≡ e % 2 → ReadsEntry false (left old) (left new) (Some t)
reads_six old new e t r f k q = (
  ap (entries_at false) r.1 ∙ entries_six e (left new) r.0 ∙ then_same t e (left new) (entries_at false (left new)) record { follows = f; frame_type = k; quality = q },
  omega (arith, ap length r.1, length-append (bits 6 e) (left new), length-bits 6 e),
)

pub reads_eight : (old new : Reader) (b : ℕ) (t : TocEntry) → ReadsBits 8 old new (Some b) → bit_of t.follows ≡ b / 4 / 32 → t.frame_type ≡ b / 4 / 2 % 16
    → bit_of t.quality ≡ b / 4 % 2 → ReadsEntry true (left old) (left new) (Some t)
reads_eight old new b t r f k q = (
  ap (entries_at true) r.1 ∙ entries_eight b (left new) r.0 ∙ then_same t (b / 4) (left new) (entries_at true (left new)) record { follows = f; frame_type = k; quality = q },
  omega (arith, ap length r.1, length-append (bits 8 b) (left new), length-bits 8 b),
)

-- the entries read so far precede the remaining ones
pub record SoFar (octet : Bool) (old now : List ℕ) : Type 0 where
  pub es : List Entry
  pub before : with_front es (entries_at octet now) ≡ entries_at octet old

with_front_none : (r : Result (List Entry × List ℕ) PacketError) → with_front [] r ≡ r
with_front_none (Ok x) = refl
with_front_none (Err e) = refl

with_front_more : (es : List Entry) (e : Entry) (r : Result (List Entry × List ℕ) PacketError) → with_front es (with_front (e ∷ []) r) ≡ with_front (es ++ e ∷ []) r
with_front_more es e (Ok x) = ap (λ t. Ok (t, x.1)) (sym (append_assoc es (e ∷ []) x.0))
with_front_more es e (Err f) = refl

pub so_far_none : (octet : Bool) (old : List ℕ) → SoFar octet old old
so_far_none octet old = record { es = []; before = with_front_none (entries_at octet old) }

pub entries_more : (octet : Bool) (now next : List ℕ) (e : TocEntry) → ReadsEntry octet now next (Some e) → e.follows ≡ true
    → entries_at octet now ≡ with_front (entry_of e ∷ []) (entries_at octet next)
entries_more octet now next e r on = rw on at r.0

pub entries_last : (octet : Bool) (now next : List ℕ) (e : TocEntry) → ReadsEntry octet now next (Some e) → e.follows ≡ false → entries_at octet now ≡ Ok (entry_of e ∷ [], next)
entries_last octet now next e r off = rw off at r.0

pub so_far_more : (octet : Bool) (old now next : List ℕ) (e : TocEntry) → SoFar octet old now → ReadsEntry octet now next (Some e) → e.follows ≡ true → SoFar octet old next
so_far_more octet old now next e s r on =
    record { es = s.es ++ entry_of e ∷ []; before = sym (with_front_more s.es (entry_of e) (entries_at octet next)) ∙ ap (with_front s.es) (sym (entries_more octet now next e r on)) ∙ s.before }

pub reads_last : (octet : Bool) (old now next : List ℕ) (e : TocEntry) → SoFar octet old now → ReadsEntry octet now next (Some e) → e.follows ≡ false
    → (es : List Entry) × (entries_at octet old ≡ Ok (es, next))
reads_last octet old now next e s r off = (s.es ++ entry_of e ∷ [], sym s.before ∙ ap (with_front s.es) (entries_last octet now next e r off))

pub reads_short : (octet : Bool) (old now next : List ℕ) → SoFar octet old now → ReadsEntry octet now next None → entries_at octet old ≡ Err faults.ErrShortPacket
reads_short octet old now next s r = sym s.before ∙ ap (with_front s.es) r

-- if no entry can be read, the fault is the fault of the entries
pub entry_missing : (octet : Bool) (old now next : List ℕ) (o : Option TocEntry) (e : PacketError) → SoFar octet old now → ReadsEntry octet now next o
    → Err e ≡ ok_or o faults.ErrShortPacket → entries_at octet old ≡ Err e
entry_missing octet old now next None e s r is =
    let same : e ≡ faults.ErrShortPacket = cc in
    reads_short octet old now next s r ∙ ap (λ t. Err t) (sym same)
entry_missing octet old now next (Some t) e s r is = cc
