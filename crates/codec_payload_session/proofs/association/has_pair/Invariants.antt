use Rattle.std.proofs.Common.{◌≡◌, drop}
use Rattle.codec_payload_session.specs.Associations.{has_pair}
use Rattle.codec_payload_session.proofs.association.has_pair.Given as goal

abbrev pub invariant-loop-pair : goal.invariant-loop-pair
invariant-loop-pair l = has_pair l.ssrc (drop l.pair-index l.pairs) ≡ has_pair l.ssrc l.pairs
