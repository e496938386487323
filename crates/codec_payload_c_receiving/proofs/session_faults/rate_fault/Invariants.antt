use Rattle.std.proofs.Common.{◌≡◌, drop}
use Rattle.codec_payload_c_receiving.specs.SessionFaults.{rate_fault}
use Rattle.codec_payload_c_receiving.proofs.session_faults.rate_fault.Given as goal

-- the formats so far have clocks with rates
abbrev pub invariant-loop-index : goal.invariant-loop-index
invariant-loop-index l = rate_fault l.index (drop l.index l.formats) ≡ rate_fault 0 l.formats
