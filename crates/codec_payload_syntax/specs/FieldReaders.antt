-- Readers of fields: bits that were taken out of the bytes, and the bytes after them.
use Rattle.std.specs.Prelude.{ℕ, ◌+◌, ◌*◌, ◌^◌, List, [], ◌∷◌, ◌++◌, length, Result, Ok, Err}
use Rattle.codec_payload_base.specs.Bits.{bits_of}

pub record Unread : Type 0 where
  pub held : List ℕ
  pub behind : List ℕ

-- the bits that are left
abbrev pub left : Unread → List ℕ
left r = r.held ++ bits_of r.behind

-- the number that bytes say, high byte first
abbrev pub be_number : List ℕ → ℕ
be_number [] = 0
be_number (b ∷ bs) = b * 2 ^ (8 * length bs) + be_number bs

-- the rest of a reader after skipped bits
abbrev pub skipped : {F : Type 0} → Result Unread F → Result (ℕ × List ℕ) F
skipped (Ok r) = Ok (0, left r)
skipped (Err f) = Err f
