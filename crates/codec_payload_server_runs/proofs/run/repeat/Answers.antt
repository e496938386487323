use Rattle.std.proofs.Common.{◌≡◌, List, ℕ, Bool, false, refl, rules, subst, sym}
use Rattle.std.specs.Prelude.{is_err}
use Rattle.codec_payload_codec.proofs.AnswerLemmas.{on_ok}
use Rattle.codec_payload_forward_runs.specs.ForwardRuns.{Hops}
use Rattle.codec_payload_sending_history.specs.Originals.{WritesOriginal}
use Rattle.codec_payload_server_runs.proofs.ArrivalLemmas.{arrives_by, no_error}
use Rattle.codec_payload_server_runs.specs.ServeRuns.{ComesUnwrapped, DoesIf, Served, served_of}
use Rattle.codec_payload_server_runs.proofs.run.repeat.Goals as goal

pub returns-then-not-taken-clause-ok : goal.returns-then-not-taken-clause-ok
returns-then-not-taken-clause-ok g c =
    let link = c.args.link.now in
    let done = c.in_ok-taken.ensures.ok in
    let P : Hops → Hops → Type 0 = ComesUnwrapped link.stream c.args.retransmission.now c.args.at.time in
    let s : Served = served_of link.link.sender link.link.forwarder link.link.receiver link.session c.args.run.now in
    let t : Served = served_of link.link.sender link.link.forwarder link.link.receiver c.take_in.new.session (record { run = c.args.run.now.run; answers = c.take_in.new.answers }) in
    arrives_by link.stream c.args.at c.args.retransmission.now P s t c.in_ok-taken.taken done.0 done.1 done.2 done.3 (subst (λ (b : Bool). DoesIf b P s.hops t.hops) (sym c.if-not-taken.true) refl)

pub returns-clause-ok : goal.returns-clause-ok
returns-clause-ok g c =
    let link = c.args.link.now in
    let done = c.in_ok-taken.ensures.ok in
    let none : is_err c.write.result ≡ false = search rules in
    let writes : WritesOriginal link.stream c.args.retransmission.now c.write.new.out.items = no_error c.write.result none c.write.ensures.ok in
    let written : WritesOriginal link.stream c.args.retransmission.now c.deref.result.now = subst (WritesOriginal link.stream c.args.retransmission.now) (sym c.deref.ensures.value) writes in
    let P : Hops → Hops → Type 0 = ComesUnwrapped link.stream c.args.retransmission.now c.args.at.time in
    let s : Served = served_of link.link.sender link.link.forwarder link.link.receiver link.session c.args.run.now in
    let t : Served = served_of link.link.sender c.forward_bytes.new.forwarder link.link.receiver c.take_in.new.session (record { run = c.forward_bytes.new.run; answers = c.take_in.new.answers }) in
    on_ok c.forward_bytes.result
    (λ comes.
    arrives_by link.stream c.args.at c.args.retransmission.now P s t c.in_ok-taken.taken done.0 done.1 done.2 done.3
    (subst (λ (b : Bool). DoesIf b P s.hops t.hops) (sym c.if-not-taken.false) (c.deref.result.now, written, comes link.link.sender link.link.receiver)))
    c.forward_bytes.ensures.ok
