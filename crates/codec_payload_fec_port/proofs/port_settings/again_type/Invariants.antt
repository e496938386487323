use Rattle.std.proofs.Common.{◌≡◌, drop}
use Rattle.codec_payload_fec_port.specs.Settings.{again_type}
use Rattle.codec_payload_fec_port.proofs.port_settings.again_type.Given as goal

abbrev pub invariant-loop-pair : goal.invariant-loop-pair
invariant-loop-pair l = again_type l.media (drop l.pair-index l.pairs) ≡ again_type l.media l.pairs
