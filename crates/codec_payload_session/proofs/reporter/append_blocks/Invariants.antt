use Rattle.std.proofs.Common.{◌≡◌, ◌++◌, drop}
use Rattle.codec_payload_session.specs.Reporting.{blocks_of, bytes_of}
use Rattle.codec_payload_session.proofs.reporter.append_blocks.Given as goal

-- the blocks so far, and those of the other streams
abbrev pub invariant-loop-place : goal.invariant-loop-place
invariant-loop-place l =
    l.blocks.items ++ bytes_of (blocks_of l.round.is_new l.room l.tick_rate l.now.0 (drop l.place l.streams))
    ≡ l.initial.blocks.items ++ bytes_of (blocks_of l.round.is_new l.round.room l.tick_rate l.now.0 l.streams)
