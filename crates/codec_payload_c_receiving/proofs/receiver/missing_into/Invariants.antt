use Rattle.std.proofs.Common.{◌≡◌, ◌+◌, ◌≤◌, ◌++◌, length, take, drop}
use Rattle.codec_payload_jitter.specs.Missing.{missing_numbers}
use Rattle.codec_payload_c_receiving.proofs.receiver.missing_into.Given as goal

abbrev pub invariant-loop-number : goal.invariant-loop-number
invariant-loop-number l =
    goal.iterator-loop-number.can_next l.number-iterator
    × goal.iterator-loop-number.is_finite l.number-iterator
    × (take l.count l.numbers ++ l.number-iterator ≡ missing_numbers l.receiver.packets (length l.fn.numbers))
    × (drop l.count l.numbers ≡ drop l.count l.fn.numbers)
    × (l.count + length l.number-iterator ≤ length l.fn.numbers)
    × (length l.numbers ≡ length l.fn.numbers)
