use Rattle.std.proofs.Common.{◌≡◌, drop, filter}
use Rattle.codec_payload_session.specs.Associations.{may_be_of, owner_of}
use Rattle.codec_payload_session.proofs.AssociationLemmas.{owner_after}
use Rattle.codec_payload_session.proofs.association.owner_of.Given as goal

abbrev pub invariant-loop-stream : goal.invariant-loop-stream
invariant-loop-stream l =
    owner_after l.owner (filter (may_be_of l.pairs l.now.0 l.packet) (drop l.stream-index l.streams)) ≡ owner_of l.pairs l.now.0 l.packet l.streams
