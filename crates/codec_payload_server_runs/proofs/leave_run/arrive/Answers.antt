use Rattle.std.proofs.Common.{List, [], ℕ, Option, refl, subst}
use Rattle.std.specs.Global.{Vec}
use Rattle.std.specs.Prelude.{slice_get}
use Rattle.codec_payload_codec.proofs.AnswerLemmas.{from_err, on_ok}
use Rattle.codec_payload_datagram_runs.specs.WireRuns.{bytes_in}
use Rattle.codec_payload_forward_runs.specs.ForwardRuns.{Hops}
use Rattle.codec_payload_forward_runs.specs.LeaveRuns.{DoesLeaveStep, LeaveStopsAt}
use Rattle.codec_payload_forward_runs.specs.declared.leave_run.LeaveStep.{LeaveStep}
use Rattle.codec_payload_server_runs.proofs.ServingArrivals.{Took, arrived_alone, arrived_on, stops_on}
use Rattle.codec_payload_server_runs.proofs.LeaveServing.{passes_of, stops_of}
use Rattle.codec_payload_server_runs.specs.ServeLeaveRuns.{Left, PassesOrIsLeftOut, StaysAll, StopsPassing, left_by, serving_of}
use Rattle.codec_payload_server_runs.specs.Serving.{Serving}
use Rattle.codec_payload_server_runs.proofs.leave_run.arrive.Goals as goal

pub returns-then-not-taken-clause-ok : goal.returns-then-not-taken-clause-ok
returns-then-not-taken-clause-ok g c =
    let link = c.args.link.now in
    let coming = c.args.coming in
    let s : Serving Hops = serving_of link.link.sender link.link.forwarder link.link.receiver link.session c.args.run.now in
    let t : Serving Hops =
    serving_of link.link.sender link.link.forwarder link.link.receiver c.take_sent.new.session (record { run = c.args.run.now.run; answers = c.take_sent.new.answers }) in
    let o : Option (List ℕ) = slice_get (bytes_in c.args.run.now.run.run.datagrams.items) coming.datagram in
    let took : Took link.stream coming.at s t c.in_ok-taken.taken o =
    subst (λ (vs : List (Vec ℕ)). Took link.stream coming.at s t c.in_ok-taken.taken (slice_get (bytes_in vs) coming.datagram)) c.deref.ensures.value c.in_ok-taken.ensures.ok in
    arrived_alone link.stream coming.at s t c.in_ok-taken.taken (PassesOrIsLeftOut coming.plain coming.at.time) o took c.if-not-taken.true refl

pub returns-clause-ok : goal.returns-clause-ok
returns-clause-ok g c =
    let link = c.args.link.now in
    let coming = c.args.coming in
    let left = c.do_leave_step.new.link in
    let s : Serving Hops = serving_of link.link.sender link.link.forwarder link.link.receiver link.session c.args.run.now in
    let t : Serving Hops =
    serving_of left.sender left.forwarder left.receiver c.take_sent.new.session (record { run = c.do_leave_step.new.run; answers = c.take_sent.new.answers }) in
    let o : Option (List ℕ) = slice_get (bytes_in c.args.run.now.run.run.datagrams.items) coming.datagram in
    let took : Took link.stream coming.at s t c.in_ok-taken.taken o =
    subst (λ (vs : List (Vec ℕ)). Took link.stream coming.at s t c.in_ok-taken.taken (slice_get (bytes_in vs) coming.datagram)) c.deref.ensures.value c.in_ok-taken.ensures.ok in
    on_ok c.do_leave_step.result
    (λ does.
    arrived_on link.stream coming.at s t c.in_ok-taken.taken (PassesOrIsLeftOut coming.plain coming.at.time) o took c.if-not-taken.false
    (λ bytes there.
    passes_of [] coming.plain coming.datagram coming.at.time bytes s.behind t.behind there (subst (λ (step : LeaveStep). DoesLeaveStep [] step s.behind t.behind) c.passing_step-step.ensures does)))
    c.do_leave_step.ensures.ok

pub returns-clause-err : goal.returns-clause-err
returns-clause-err g c =
    let link = c.args.link.now in
    let coming = c.args.coming in
    let after = c.do_leave_step.new.link in
    let s : Serving Hops = serving_of link.link.sender link.link.forwarder link.link.receiver link.session c.args.run.now in
    let t : Serving Hops =
    serving_of link.link.sender link.link.forwarder link.link.receiver c.take_sent.new.session (record { run = c.args.run.now.run; answers = c.take_sent.new.answers }) in
    let o : Option (List ℕ) = slice_get (bytes_in c.args.run.now.run.run.datagrams.items) coming.datagram in
    let left : Left = left_by after.sender after.forwarder after.receiver in
    let took : Took link.stream coming.at s t c.in_ok-taken.taken o =
    subst (λ (vs : List (Vec ℕ)). Took link.stream coming.at s t c.in_ok-taken.taken (slice_get (bytes_in vs) coming.datagram)) c.deref.ensures.value c.in_ok-taken.ensures.ok in
    from_err c.do_leave_step.result
    (λ stops.
    stops_on link.stream coming.at s t c.in_ok-taken.taken (StaysAll left) (StopsPassing left coming.plain) o took c.if-not-taken.false
    (λ bytes there.
    stops_of [] coming.plain coming.datagram coming.at.time bytes s.behind left
    (subst (λ (step : LeaveStep). LeaveStopsAt [] step s.behind left.sending left.forwarder left.receiver) c.passing_step-step.ensures stops)))
    c.do_leave_step.ensures.err
