-- Spelling a number byte by byte.
use Rattle.std.proofs.Common.{◌≡◌, ℕ, zero, suc, ◌+◌, ◌-◌, ◌*◌, ◌/◌, ◌%◌, ◌^◌, ◌<◌, ◌≤◌, List, [], ◌∷◌, ◌++◌, length, take, drop, set, refl, sym, ap, ◌∙◌, inl, inr, append_assoc, arith}
use Rattle.std.proofs.lemmas.Bool.{cases_lt, lt-ltb, le-ltb}
use Rattle.std.proofs.lemmas.List.{length-append, length-take-le, take-append-drop, take_more_set, drop-set-lt, take_all}
use Rattle.std.proofs.lemmas.Grind.{drop_more_same}
use Rattle.codec_payload_base.specs.Leb.{leb, leb_within}

-- the numbers that k + 1 bytes can spell are below this
abbrev pub limit : ℕ → ℕ
limit zero = 128
limit (suc k) = 128 * limit k

some_byte : (k n : ℕ) → 0 < length (leb_within k n)
some_byte zero n = omega arith
some_byte (suc k) n =
    elim (cases_lt n 128) [
      | inl small ↦ rw (lt-ltb n 128 small) (omega arith)
      | inr large ↦ rw (le-ltb n 128 large) (omega arith)
    ]

-- before this place are the first bytes of a number, after it the bytes from the start; the rest is still to be written
pub record WrittenTo (value : ℕ) (start buf : List ℕ) (place rest : ℕ) : Type 0 where
  pub written : take place buf ++ leb_within (9 - place) rest ≡ leb value
  pub behind : drop place buf ≡ drop place start
  pub small : rest < limit (8 - place)

pub in_buffer : (value : ℕ) (start buf : List ℕ) (place rest : ℕ) → WrittenTo value start buf place rest → length (leb value) ≤ length buf → place < length buf
in_buffer value start buf place rest so_far room =
    elim (cases_lt place (length buf)) [
      | inl inside ↦ inside
      | inr past ↦
          let all = ap length so_far.written in
          let front : length (take place buf) ≡ length buf = ap length (take_all place buf past) in
          absurd (omega (arith, all, front, length-append (take place buf) (leb_within (9 - place) rest), some_byte (9 - place) rest, room))
    ]

pub none_written : (value : ℕ) (start : List ℕ) → value < 2 ^ 63 → WrittenTo value start start 0 value
unfolding leb
none_written value start fits = record { written = refl; behind = refl; small = omega arith }

pub byte_written : (value : ℕ) (start buf : List ℕ) (place rest : ℕ) → WrittenTo value start buf place rest → place < 8 → place < length buf → 128 ≤ rest
    → WrittenTo value start (set buf place (rest % 128 + 128)) (place + 1) (rest / 128)
byte_written value start buf place rest so_far few inside large =
    let k : 9 - place ≡ suc (9 - (place + 1)) = omega arith in
    let j : 8 - place ≡ suc (8 - (place + 1)) = omega arith in
    let byte = rest % 128 + 128 in
    let before : take place buf ++ (byte ∷ leb_within (9 - (place + 1)) (rest / 128)) ≡ leb value = rw (k, le-ltb rest 128 large) at so_far.written in
    let more : rest < limit (suc (8 - (place + 1))) = rw j at so_far.small in
    record {
      written = rw (take_more_set buf place byte inside) (append_assoc (take place buf) (byte ∷ []) (leb_within (9 - (place + 1)) (rest / 128)) ∙ before);
      behind = drop-set-lt (place + 1) buf place byte (omega arith) ∙ drop_more_same buf start place so_far.behind;
      small = omega (arith, more);
    }

module _ (value : ℕ) (start buf : List ℕ) (place rest : ℕ) (so_far : WrittenTo value start buf place rest) (few : place ≤ 8) (inside : place < length buf) (last : rest < 128) where
  all_bytes : take place buf ++ rest ∷ [] ≡ leb value
  all_bytes =
      let k : 9 - place ≡ suc (8 - place) = omega arith in
      rw (k, lt-ltb rest 128 last) at so_far.written

  pub written_length : place + 1 ≡ length (leb value)
  written_length = omega (arith, ap length all_bytes, length-append (take place buf) (rest ∷ []), length-take-le place buf (omega (arith, inside)))

  pub written_bytes : set buf place rest ≡ leb value ++ drop (place + 1) start
  written_bytes =
      sym (take-append-drop (place + 1) (set buf place rest))
      ∙ rw (take_more_set buf place rest inside, drop-set-lt (place + 1) buf place rest (omega arith), drop_more_same buf start place so_far.behind, all_bytes) refl
