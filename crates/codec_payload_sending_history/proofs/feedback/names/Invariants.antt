use Rattle.std.proofs.Common.{◌≡◌, length}
use Rattle.codec_payload_sending_history.specs.Requests.{names}
use Rattle.codec_payload_sending_history.proofs.feedback.names.Given as goal

-- no entry so far names the source
abbrev pub invariant-loop-named : goal.invariant-loop-named
invariant-loop-named l = names l.ssrc l.rest ≡ names l.ssrc l.entries

abbrev pub decreases-loop-named : goal.decreases-loop-named
decreases-loop-named l = length l.rest
