use Rattle.std.proofs.Common.{◌≡◌, ◌∙◌, List, Some, map, refl, subst, sym, true, false}
use Rattle.codec_payload_codec.proofs.AnswerLemmas.{on_ok}
use Rattle.codec_payload_payloader.specs.Sending.{Sample, sample_of}
use Rattle.codec_payload_forward_runs.specs.StoreRuns.{DoesStoreStep, Stored}
use Rattle.codec_payload_forward_runs.specs.declared.store_run.StoreStep.{StoreStep}
use Rattle.codec_payload_server_runs.proofs.ServingArrivals.{hop_does}
use Rattle.codec_payload_server_runs.proofs.StoreServing.{hop_step}
use Rattle.codec_payload_server_runs.specs.ServeStoreRuns.{PassesToStore, hops_in, served_store_of, stored_as}
use Rattle.codec_payload_server_runs.specs.Serving.{Serving, hop_of}
use Rattle.codec_payload_server_runs.proofs.store_run.do_serve_store_step.Goals as goal

pub returns-in-Some-clause-ok : goal.returns-in-Some-clause-ok
returns-in-Some-clause-ok g c =
    let link = c.args.link.now in
    let left = c.do_store_step.new.link in
    let samples : List Sample = map sample_of c.args.samples.now in
    let is : hop_of c.in-Plain.step ≡ Some c.in-Some.hop = sym c.hop_of.ensures ∙ c.in-Some.is in
    let s : Serving Stored = served_store_of link.link.link.sender link.link.link.forwarder link.link.link.receiver link.link.store link.session c.args.run.now in
    let t : Serving Stored =
    served_store_of left.link.sender left.link.forwarder left.link.receiver left.store link.session (record { run = c.do_store_step.new.run; answers = c.args.run.now.answers }) in
    on_ok c.do_store_step.result
    (λ does.
    rw c.in-Plain.is
    (hop_does hops_in stored_as link.stream PassesToStore (DoesStoreStep samples) true c.in-Plain.step c.in-Some.hop s t is
    (subst (λ (x : StoreStep). DoesStoreStep samples x s.behind t.behind) (hop_step true c.in-Plain.step c.in-Some.hop is) does, refl, refl)))
    c.do_store_step.ensures.ok

pub returns-in-Some-hop_of-clause-ok : goal.returns-in-Some-hop_of-clause-ok
returns-in-Some-hop_of-clause-ok g c =
    let link = c.args.link.now in
    let left = c.do_store_step-in-Some-hop_of.new.link in
    let samples : List Sample = map sample_of c.args.samples.now in
    let is : hop_of c.in-Keep.step ≡ Some c.in-Some-hop_of.hop = sym c.hop_of-in-Keep.ensures ∙ c.in-Some-hop_of.is in
    let s : Serving Stored = served_store_of link.link.link.sender link.link.link.forwarder link.link.link.receiver link.link.store link.session c.args.run.now in
    let t : Serving Stored =
    served_store_of left.link.sender left.link.forwarder left.link.receiver left.store link.session (record { run = c.do_store_step-in-Some-hop_of.new.run; answers = c.args.run.now.answers }) in
    on_ok c.do_store_step-in-Some-hop_of.result
    (λ does.
    rw c.in-Keep.is
    (hop_does hops_in stored_as link.stream PassesToStore (DoesStoreStep samples) false c.in-Keep.step c.in-Some-hop_of.hop s t is
    (subst (λ (x : StoreStep). DoesStoreStep samples x s.behind t.behind) (hop_step false c.in-Keep.step c.in-Some-hop_of.hop is) does, refl, refl)))
    c.do_store_step-in-Some-hop_of.ensures.ok
