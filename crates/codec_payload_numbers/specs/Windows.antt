-- The windows of a receiver, by how many packets arrive each second.
use Rattle.std.specs.Prelude.{ℕ, ◌*◌, max, min}
use Rattle.codec_payload_numbers.specs.declared.windows.Windows.{Windows}

-- the packets of 5 s behind and of 12 s ahead, at least 1,000 and 3,000, for at most 2,730 packets per second
abbrev pub windows_for : ℕ → Windows
windows_for rate = record { forward = max (12 * min rate 2730) 3000; backward = max (5 * min rate 2730) 1000 }
