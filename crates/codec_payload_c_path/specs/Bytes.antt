-- Bytes in the caller's memory.
use Rattle.std.specs.Prelude.{ℕ, List, ◌++◌, length, drop, nat_le, if◌then◌else◌}

-- the output buffer after the given bytes were written to its front; it is unchanged if it is too small
abbrev pub filled : List ℕ → List ℕ → List ℕ
filled given bytes = if nat_le (length given) (length bytes) then given ++ drop (length given) bytes else bytes
