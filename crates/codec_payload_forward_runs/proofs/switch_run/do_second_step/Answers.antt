use Rattle.std.proofs.Common.{map}
use Rattle.codec_payload_payloader.specs.Sending.{sample_of}
use Rattle.codec_payload_forward_runs.proofs.SwitchSteps.{second_done, second_stops}
use Rattle.codec_payload_forward_runs.specs.ForwardRuns.{Hops, hops_of}
use Rattle.codec_payload_forward_runs.specs.SwitchRuns.{Switched, switched_of}
use Rattle.codec_payload_forward_runs.proofs.switch_run.do_second_step.Goals as goal

pub returns-clause-ok : goal.returns-clause-ok
returns-clause-ok g c =
    let old = c.args.link.now in
    let one = c.swap_sources.new in
    let end = c.swap_sources-2.new in
    let made = c.do_forward_step-done.new in
    let s : Switched = switched_of old.link.sender old.second old.link.forwarder old.link.receiver c.args.run.now in
    let mid : Switched = switched_of one.link.link.sender one.link.second one.link.link.forwarder one.link.link.receiver one.run in
    let t : Switched = switched_of end.link.link.sender end.link.second end.link.link.forwarder end.link.link.receiver end.run in
    let hops : Hops = hops_of made.link.sender made.link.forwarder made.link.receiver made.run in
    second_done (map sample_of c.args.samples.now) c.args.step s mid t hops c.do_forward_step-done.result c.swap_sources.ensures c.do_forward_step-done.ensures.ok c.swap_sources-2.ensures

pub returns-clause-err : goal.returns-clause-err
returns-clause-err g c =
    let old = c.args.link.now in
    let one = c.swap_sources.new in
    let end = c.swap_sources-2.new in
    let made = c.do_forward_step-done.new in
    let s : Switched = switched_of old.link.sender old.second old.link.forwarder old.link.receiver c.args.run.now in
    let mid : Switched = switched_of one.link.link.sender one.link.second one.link.link.forwarder one.link.link.receiver one.run in
    let t : Switched = switched_of end.link.link.sender end.link.second end.link.link.forwarder end.link.link.receiver end.run in
    let hops : Hops = hops_of made.link.sender made.link.forwarder made.link.receiver made.run in
    second_stops (map sample_of c.args.samples.now) c.args.step s mid t hops c.do_forward_step-done.result c.swap_sources.ensures c.do_forward_step-done.ensures.err c.swap_sources-2.ensures
