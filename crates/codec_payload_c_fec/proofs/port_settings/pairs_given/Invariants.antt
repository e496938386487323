use Rattle.std.proofs.Common.{◌≡◌, ◌++◌, drop, map}
use Rattle.codec_payload_c_fec.specs.PortSettings.{pair_given}
use Rattle.codec_payload_c_fec.proofs.port_settings.pairs_given.Given as goal

-- the pairs so far, and those that are left, are all pairs
abbrev pub invariant-loop-pair : goal.invariant-loop-pair
invariant-loop-pair l = l.pairs.items ++ map pair_given (drop l.pair-index l.given) ≡ map pair_given l.given
