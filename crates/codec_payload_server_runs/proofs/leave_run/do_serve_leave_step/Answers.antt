use Rattle.std.proofs.Common.{◌≡◌, ◌∙◌, List, Some, map, refl, subst, sym, true, false}
use Rattle.codec_payload_codec.proofs.AnswerLemmas.{on_ok}
use Rattle.codec_payload_payloader.specs.Sending.{Sample, sample_of}
use Rattle.codec_payload_forward_runs.specs.ForwardRuns.{Hops}
use Rattle.codec_payload_forward_runs.specs.LeaveRuns.{DoesLeaveStep}
use Rattle.codec_payload_forward_runs.specs.declared.leave_run.LeaveStep.{LeaveStep}
use Rattle.codec_payload_server_runs.proofs.LeaveServing.{hop_step}
use Rattle.codec_payload_server_runs.proofs.ServingArrivals.{hop_does}
use Rattle.codec_payload_server_runs.specs.ServeLeaveRuns.{PassesOrIsLeftOut, hops_in, left_as, serving_of}
use Rattle.codec_payload_server_runs.specs.Serving.{Serving, hop_of}
use Rattle.codec_payload_server_runs.proofs.leave_run.do_serve_leave_step.Goals as goal

pub returns-in-Some-clause-ok : goal.returns-in-Some-clause-ok
returns-in-Some-clause-ok g c =
    let link = c.args.link.now in
    let left = c.do_forward_step.new.link in
    let samples : List Sample = map sample_of c.args.samples.now in
    let is : hop_of c.in-Plain.step ≡ Some c.in-Some.hop = sym c.hop_of.ensures ∙ c.in-Some.is in
    let s : Serving Hops = serving_of link.link.sender link.link.forwarder link.link.receiver link.session c.args.run.now in
    let t : Serving Hops = serving_of left.sender left.forwarder left.receiver link.session (record { run = c.do_forward_step.new.run; answers = c.args.run.now.answers }) in
    on_ok c.do_forward_step.result
    (λ does.
    rw c.in-Plain.is
    (hop_does hops_in left_as link.stream PassesOrIsLeftOut (DoesLeaveStep samples) true c.in-Plain.step c.in-Some.hop s t is
    (subst (λ (x : LeaveStep). DoesLeaveStep samples x s.behind t.behind) (hop_step true c.in-Plain.step c.in-Some.hop is) does, refl, refl)))
    c.do_forward_step.ensures.ok

pub returns-in-Some-hop_of-clause-ok : goal.returns-in-Some-hop_of-clause-ok
returns-in-Some-hop_of-clause-ok g c =
    let link = c.args.link.now in
    let left = c.do_forward_step-in-Some-hop_of.new.link in
    let samples : List Sample = map sample_of c.args.samples.now in
    let is : hop_of c.in-LeaveOut.step ≡ Some c.in-Some-hop_of.hop = sym c.hop_of-in-LeaveOut.ensures ∙ c.in-Some-hop_of.is in
    let s : Serving Hops = serving_of link.link.sender link.link.forwarder link.link.receiver link.session c.args.run.now in
    let t : Serving Hops =
    serving_of left.sender left.forwarder left.receiver link.session (record { run = c.do_forward_step-in-Some-hop_of.new.run; answers = c.args.run.now.answers }) in
    on_ok c.do_forward_step-in-Some-hop_of.result
    (λ does.
    rw c.in-LeaveOut.is
    (hop_does hops_in left_as link.stream PassesOrIsLeftOut (DoesLeaveStep samples) false c.in-LeaveOut.step c.in-Some-hop_of.hop s t is
    (subst (λ (x : LeaveStep). DoesLeaveStep samples x s.behind t.behind) (hop_step false c.in-LeaveOut.step c.in-Some-hop_of.hop is) does, refl, refl)))
    c.do_forward_step-in-Some-hop_of.ensures.ok
