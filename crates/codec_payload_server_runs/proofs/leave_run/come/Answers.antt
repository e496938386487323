use Rattle.std.proofs.Common.{◌≡◌, ap, List, ℕ, Some, refl, subst}
use Rattle.std.specs.Global.{Vec}
use Rattle.std.specs.Prelude.{slice_get}
use Rattle.codec_payload_codec.proofs.AnswerLemmas.{on_ok}
use Rattle.codec_payload_datagram_runs.specs.WireRuns.{bytes_in}
use Rattle.codec_payload_forward_runs.specs.ForwardRuns.{Hops}
use Rattle.codec_payload_server_runs.specs.ServeLeaveRuns.{PassesOrIsLeftOut, serving_of}
use Rattle.codec_payload_server_runs.specs.ServeRuns.{repeated_in}
use Rattle.codec_payload_server_runs.specs.Serving.{ComesTo, IsSpelled, PassesUnwrapped, Serving}
use Rattle.codec_payload_server_runs.proofs.leave_run.come.Goals as goal

pub returns-in-Some-clause-ok : goal.returns-in-Some-clause-ok
returns-in-Some-clause-ok g c =
    let link = c.args.link.now in
    let left = c.repeat.new.link in
    let k = c.in-Repeat.datagram in
    let made = rw c.in-Some.is at c.in_ok-made-in-Repeat.ensures in
    let ds : List (List ℕ) = bytes_in c.args.run.now.run.run.datagrams.items in
    let same : bytes_in c.deref.result.now ≡ ds = ap (λ (vs : List (Vec ℕ)). bytes_in vs) c.deref.ensures.value in
    let is : repeated_in link.stream c.in-Repeat.again (slice_get ds k) ≡ Some made.0 =
    subst (λ (x : List (List ℕ)). repeated_in link.stream c.in-Repeat.again (slice_get x k) ≡ Some made.0) same made.1 in
    let spelled : IsSpelled (slice_get ds k) made.0 = subst (λ (x : List (List ℕ)). IsSpelled (slice_get x k) made.0) same made.2 in
    let s : Serving Hops = serving_of link.link.sender link.link.forwarder link.link.receiver link.session c.args.run.now in
    let t : Serving Hops = serving_of left.link.sender left.link.forwarder left.link.receiver left.session c.repeat.new.run in
    on_ok c.repeat.result
    (λ comes.
    rw c.in-Repeat.is
    (rw is (
      c.in-Some.retransmission,
      made.3,
      spelled,
      subst (λ (d : List ℕ). ComesTo link.stream c.in-Repeat.at d (PassesUnwrapped link.stream d (PassesOrIsLeftOut c.args.plain c.in-Repeat.at.time)) s t) c.deref-in-Repeat.ensures.value comes,
    )))
    c.repeat.ensures.ok

pub returns-in_ok-call-in-Call-clause-ok : goal.returns-in_ok-call-in-Call-clause-ok
returns-in_ok-call-in-Call-clause-ok g c =
    let done = c.in_ok-call-in-Call.ensures.ok in
    rw c.in-Call.is (done.0, done.1, done.2, refl)
