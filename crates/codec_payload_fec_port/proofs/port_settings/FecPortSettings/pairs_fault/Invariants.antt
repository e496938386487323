use Rattle.std.proofs.Common.{◌≡◌, drop}
use Rattle.codec_payload_fec_port.specs.Settings.{pairs_fault}
use Rattle.codec_payload_fec_port.proofs.port_settings.FecPortSettings.pairs_fault.Given as goal

abbrev pub invariant-loop-pair : goal.invariant-loop-pair
invariant-loop-pair l = pairs_fault l.self (drop l.pair-index l.self.retransmissions.items) ≡ pairs_fault l.self l.self.retransmissions.items
