use Rattle.std.proofs.Common.{◌≡◌, true, false, subst, sym, ℕ, List, Bool}
use Rattle.codec_payload_codec.proofs.AnswerLemmas.{on_ok}
use Rattle.codec_payload_forward_runs.specs.ForwardRuns.{Hops}
use Rattle.codec_payload_server_runs.proofs.ServingArrivals.{comes_if}
use Rattle.codec_payload_server_runs.specs.ServeLeaveRuns.{PassesOrIsLeftOut, serving_of}
use Rattle.codec_payload_server_runs.specs.Serving.{PassesUnwrapped, Serving}
use Rattle.codec_payload_server_runs.proofs.leave_run.repeat.Goals as goal

pub returns-clause-ok : goal.returns-clause-ok
returns-clause-ok g c =
    let link = c.args.link.now in
    let coming = c.args.coming in
    let original : List ℕ = c.in_ok-original.original.items in
    let s : Serving Hops = serving_of link.link.sender link.link.forwarder link.link.receiver link.session c.args.run.now in
    let t : Serving Hops =
    serving_of link.link.sender c.leave_bytes.new.forwarder link.link.receiver c.take_in.new.session (record { run = c.leave_bytes.new.run; answers = c.take_in.new.answers }) in
    on_ok c.leave_bytes.result
    (λ passes.
    let left : PassesOrIsLeftOut false coming.at.time original s.behind t.behind =
    subst (λ (bytes : List ℕ). PassesOrIsLeftOut false coming.at.time bytes s.behind t.behind) c.deref-else-coming.ensures.value (passes coming.at.time link.link.sender link.link.receiver) in
    let unwrapped : PassesUnwrapped link.stream c.args.retransmission.now (PassesOrIsLeftOut coming.plain coming.at.time) s.behind t.behind =
    (original, c.in_ok-original.ensures.ok, subst (λ (m : Bool). PassesOrIsLeftOut m coming.at.time original s.behind t.behind) (sym c.if-coming.false) left) in
    comes_if link.stream coming.at c.args.retransmission.now (PassesUnwrapped link.stream c.args.retransmission.now (PassesOrIsLeftOut coming.plain coming.at.time)) s t c.in_ok-taken.taken true
    c.in_ok-taken.ensures.ok c.if-not-taken.false unwrapped)
    c.leave_bytes.ensures.ok
