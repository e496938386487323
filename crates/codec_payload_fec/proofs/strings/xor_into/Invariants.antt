use Rattle.std.proofs.Common.{◌≡◌, ℕ, ◌<◌, ◌≤◌, get_or, bit_xor}
use Rattle.codec_payload_fec.proofs.strings.xor_into.Given as goal

-- bytes in front of the index are summed, and the others are as they were
abbrev pub invariant-loop-i : goal.invariant-loop-i
invariant-loop-i l =
    ((k : ℕ) → k < l.i → get_or l.sum k 0 ≡ bit_xor (get_or l.fn.sum k 0) (get_or l.bytes k 0)) × ((k : ℕ) → l.i ≤ k → get_or l.sum k 0 ≡ get_or l.fn.sum k 0)
