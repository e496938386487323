use Rattle.std.proofs.Common.{◌<◌, ◌-◌, arith, subst}
use Rattle.std.proofs.lemmas.Bool.Decides.{nat_tests}
use Rattle.codec_payload_session_stream.specs.Quiet.{time_of}
use Rattle.codec_payload_session_stream.specs.Streams.{Steps, StreamState}
use Rattle.codec_payload_session_stream.specs.declared.stream.Step.TheVariants as steps
use Rattle.codec_payload_session_stream.proofs.SkipLemmas.{seen, skips}
use Rattle.codec_payload_session_stream.proofs.stream.StreamState.is_quiet.Goals as goal

pub returns-then-now-self : goal.returns-then-now-self
returns-then-now-self c = λ awake.
    let less : c.args.now.0 < c.self.inside.quiet_until = grind (arith, nat_tests, c.if-now-self.true) in
    let lasts : c.args.now.0 - c.self.inside.last < c.args.idle_timeout = grind (arith, nat_tests, c.saturating_sub.ensures, awake) in
    subst (λ (s : StreamState). Steps c.args.now c.args.idle_timeout s steps.Nothing s) c.self.view_is
    (skips c.self.inside.quiet_until (time_of c.self.inside.work) c.args.now c.args.idle_timeout (seen c.self.inside) less lasts c.self.invariant)
