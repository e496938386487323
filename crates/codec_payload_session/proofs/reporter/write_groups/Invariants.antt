use Rattle.std.proofs.Common.{length}
use Rattle.codec_payload_session.proofs.PacketLemmas.{Writes}
use Rattle.codec_payload_session.proofs.reporter.write_groups.Given as goal

-- the groups so far, and then the others
abbrev pub invariant-loop-rest : goal.invariant-loop-rest
invariant-loop-rest l = Writes l.ssrc l.blocks l.rest l.initial.out.items l.out.items

abbrev pub decreases-loop-rest : goal.decreases-loop-rest
decreases-loop-rest l = length l.rest
