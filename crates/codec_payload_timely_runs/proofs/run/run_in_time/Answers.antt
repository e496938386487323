use Rattle.std.proofs.Common.{map}
use Rattle.codec_payload_payloader.specs.Sending.{sample_of}
use Rattle.codec_payload_datagram_runs.specs.WireRuns.{wire_of}
use Rattle.codec_payload_timely_runs.proofs.RunTimes.{times_over_datagrams}
use Rattle.codec_payload_timely_runs.proofs.AnswerLemmas.{if_ok}
use Rattle.codec_payload_timely_runs.proofs.run.run_in_time.Goals as goal

pub returns-clause-times : goal.returns-clause-times
returns-clause-times g c =
    if_ok c.run_datagrams.result (λ run is. times_over_datagrams (map sample_of c.args.samples.now) c.args.steps.now c.args.sender.now c.args.receiver.now
    (wire_of c.run_datagrams.new.sender c.run_datagrams.new.receiver run) is) c.run_datagrams.ensures.runs
