use Rattle.std.proofs.Common.{map, refl}
use Rattle.codec_payload_codec.proofs.AnswerLemmas.{on_err}
use Rattle.codec_payload_payloader.specs.Sending.{sample_of}
use Rattle.codec_payload_datagram_runs.specs.WireRuns.{Wire, begins, wire_of}
use Rattle.codec_payload_forward_runs.proofs.PlainSteps.{done_after, one_step, stops_after}
use Rattle.codec_payload_forward_runs.proofs.run.do_plain_step.Goals as goal

pub returns-in_err-append-clause-err : goal.returns-in_err-append-clause-err
returns-in_err-append-clause-err g c =
    let samples = map sample_of c.args.samples.now in
    let s : Wire = wire_of c.args.link.now.sender c.args.link.now.receiver c.args.run.now in
    let one : Wire = wire_of c.run_datagrams.new.sender c.run_datagrams.new.receiver c.in_ok-one.one in
    on_err c.from_residual-in_err-append.result (stops_after samples c.args.step s one (one_step samples c.args.step (begins s.sending s.session) one c.in_ok-one.ensures.runs))

pub returns-in_err-append-2-clause-err : goal.returns-in_err-append-2-clause-err
returns-in_err-append-2-clause-err g c =
    let samples = map sample_of c.args.samples.now in
    let s : Wire = wire_of c.args.link.now.sender c.args.link.now.receiver c.args.run.now in
    let one : Wire = wire_of c.run_datagrams.new.sender c.run_datagrams.new.receiver c.in_ok-one.one in
    on_err c.from_residual-in_err-append-2.result (stops_after samples c.args.step s one (one_step samples c.args.step (begins s.sending s.session) one c.in_ok-one.ensures.runs))

pub returns-in_err-append-3-clause-err : goal.returns-in_err-append-3-clause-err
returns-in_err-append-3-clause-err g c =
    let samples = map sample_of c.args.samples.now in
    let s : Wire = wire_of c.args.link.now.sender c.args.link.now.receiver c.args.run.now in
    let one : Wire = wire_of c.run_datagrams.new.sender c.run_datagrams.new.receiver c.in_ok-one.one in
    on_err c.from_residual-in_err-append-3.result (stops_after samples c.args.step s one (one_step samples c.args.step (begins s.sending s.session) one c.in_ok-one.ensures.runs))

pub returns-clause-ok : goal.returns-clause-ok
returns-clause-ok g c =
    done_after (map sample_of c.args.samples.now) c.args.step c.args.link.now.sender c.run_datagrams.new.sender c.args.link.now.receiver c.run_datagrams.new.receiver c.args.run.now c.in_ok-one.one
    (record { datagrams = c.append.new.list; sends = c.append-2.new.list; receipts = c.args.run.now.receipts; pops = c.append-3.new.list }) c.requires c.in_ok-one.ensures.runs
    c.in_ok-append.ensures.ok c.in_ok-append-2.ensures.ok refl c.in_ok-append-3.ensures.ok c.append.ensures.few
