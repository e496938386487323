use Rattle.std.proofs.Common.{◌≡◌, Option, Some, arith, refl, subst, sym}
use Rattle.codec_payload_receiver.specs.Sessions.{Session as Receiver}
use Rattle.codec_payload_session_requests.specs.Requests.{Asking}
use Rattle.codec_payload_session_stream.specs.Streams.{RequestsBy, StreamState}
use Rattle.codec_payload_session_stream.proofs.SkipLemmas.{seen}
use Rattle.codec_payload_session_stream.proofs.stream.StreamState.request.Goals as goal

pub returns-in-Some-clause-requests : goal.returns-in-Some-clause-requests
returns-in-Some-clause-requests c =
    let s : StreamState = seen c.self.inside in
    let t : StreamState = record s { feedback = Some c.take_due-due.new.self } in
    let asked : RequestsBy (Some c.in-Some.feedback) c.args.now.0 s c.step_of.result t =
    record { told = c.take_due-due.result.0; asking = c.take_due-due.new.self; asks = c.take_due-due.ensures.asks; answers = c.step_of.ensures; after = refl } in
    let same : RequestsBy (Some c.in-Some.feedback) c.args.now.0 s c.step_of.result (record t { receiver = c.take_due-due.new.receiver }) =
    subst (λ (r : Receiver). RequestsBy (Some c.in-Some.feedback) c.args.now.0 s c.step_of.result (record t { receiver = r })) (sym c.take_due-due.ensures.same) asked in
    let is : Some c.in-Some.feedback ≡ s.feedback = grind (arith, c.in-Some.is, c.in-Some.feedback-is) in
    subst (λ (x : StreamState). RequestsBy x.feedback c.args.now.0 x c.step_of.result (record t { receiver = c.take_due-due.new.receiver })) c.self.view_is
    (subst (λ (o : Option Asking). RequestsBy o c.args.now.0 s c.step_of.result (record t { receiver = c.take_due-due.new.receiver })) is same)
