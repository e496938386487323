use Rattle.std.proofs.Common.{◌≡◌, Option, Some, arith, refl, subst}
use Rattle.codec_payload_session_stream.specs.Streams.{Drains, StreamState, end_of}
use Rattle.codec_payload_session_stream.specs.declared.stream.Ending.{Ending}
use Rattle.codec_payload_session_stream.specs.declared.stream.Stage.TheVariants as stages
use Rattle.codec_payload_session_stream.proofs.SkipLemmas.{seen}
use Rattle.codec_payload_session_stream.proofs.stream.StreamState.drain.Goals as goal

pub returns-in-Some : goal.returns-in-Some
returns-in-Some c =
    let t : StreamState = record (seen c.self.inside) { receiver = c.finish.new.self; stage = stages.Draining c.in-Some.why } in
    let ends : Some c.in-Some.why ≡ end_of c.args.now c.args.idle_timeout c.args.self.now = grind (arith, c.in-Some.ensures, c.self.view_is) in
    subst (λ (o : Option Ending). Drains o c.args.self.now t) ends
    (subst (λ (s : StreamState). Drains (Some c.in-Some.why) s t) c.self.view_is (c.finish.new.self, c.finish.ensures.finished, refl))
