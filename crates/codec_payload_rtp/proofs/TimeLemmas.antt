-- Extended times have the given bits.
use Rattle.std.proofs.Common.{◌≡◌, refl, ℕ, ◌%◌, ◌^◌, ◌<◌, ◌≤◌, Bool, true, false, arith}
use Rattle.std.specs.Prelude.{nat_le}
use Rattle.std.proofs.lemmas.Bool.{leb-true, leb-false}
use Rattle.codec_payload_base.specs.Extended.{ahead, nearest}

low_by : (b : Bool) (previous id : ℕ) → id < 4294967296 → nat_le (ahead 4294967296 previous id) 2147483648 ≡ b → nearest 4294967296 previous id % 4294967296 ≡ id
low_by true previous id small is = let few : ahead 4294967296 previous id ≤ 2147483648 = leb-true (ahead 4294967296 previous id) 2147483648 is in rw is (omega (arith, few, small))
low_by false previous id small is = let many : 2147483648 < ahead 4294967296 previous id = leb-false (ahead 4294967296 previous id) 2147483648 is in rw is (omega (arith, many, small))

pub low_bits : (previous id : ℕ) → id < 4294967296 → nearest (2 ^ 32) previous id % 2 ^ 32 ≡ id
low_bits previous id small = low_by (nat_le (ahead 4294967296 previous id) 2147483648) previous id small refl
