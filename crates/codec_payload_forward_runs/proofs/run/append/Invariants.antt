use Rattle.std.proofs.Common.{◌≡◌, ◌++◌}
use Rattle.std.specs.Vec.Iter.{into_iter_items}
use Rattle.codec_payload_forward_runs.proofs.run.append.Given as goal

-- the items that are left follow those that were appended
abbrev pub invariant-loop-item : goal.invariant-loop-item
invariant-loop-item g l = l.list.items ++ into_iter_items l.item-iterator ≡ l.fn.list.items ++ l.fn.more.items
