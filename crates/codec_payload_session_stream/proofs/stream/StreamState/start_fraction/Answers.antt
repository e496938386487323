use Rattle.std.proofs.Common.{subst, sym}
use Rattle.codec_payload_numbers.specs.Reports.{reported}
use Rattle.codec_payload_receiver.specs.Sessions.{Session as Receiver}
use Rattle.codec_payload_session_stream.specs.Quiet.{IsQuietUntil, time_of}
use Rattle.codec_payload_session_stream.proofs.StillLemmas.{quiet_stays}
use Rattle.codec_payload_session_stream.proofs.stream.StreamState.start_fraction.Goals as goal

pub invariant_of-self : goal.invariant_of-self
invariant_of-self c =
    subst (λ (r : Receiver). IsQuietUntil c.self.inside.quiet_until (time_of c.self.inside.work) c.self.inside.announced c.self.inside.stage c.self.inside.last c.self.inside.feedback r)
    (sym c.report.ensures.after)
    (quiet_stays c.self.inside.quiet_until (time_of c.self.inside.work) c.self.inside.announced c.self.inside.stage c.self.inside.last c.self.inside.feedback c.self.inside.receiver
    (reported c.self.inside.receiver.reception) c.self.invariant)
