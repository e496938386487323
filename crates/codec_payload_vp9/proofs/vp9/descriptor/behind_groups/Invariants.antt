use Rattle.std.proofs.Common.{◌≡◌, ◌-◌}
use Rattle.codec_payload_vp9.specs.Vp9Fields.{Groups}
use Rattle.codec_payload_vp9.specs.Vp9Reading.{groups_at}
use Rattle.codec_payload_vp9.proofs.vp9.descriptor.behind_groups.Given as goal

-- the result of reading from here on, after some groups, is the result of reading from the start
abbrev pub invariant-loop : goal.invariant-loop
invariant-loop l = (groups : Groups) → (now : Groups) × (groups_at (l.count - l.counter) now l.rest ≡ groups_at l.count groups l.initial.rest)
