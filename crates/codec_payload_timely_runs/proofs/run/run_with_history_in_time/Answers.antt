use Rattle.std.proofs.Common.{map}
use Rattle.codec_payload_payloader.specs.Sending.{sample_of}
use Rattle.codec_payload_datagram_runs.specs.HistoryRuns.{resending_of}
use Rattle.codec_payload_timely_runs.proofs.RunTimes.{times_with_history}
use Rattle.codec_payload_timely_runs.proofs.AnswerLemmas.{if_ok}
use Rattle.codec_payload_timely_runs.proofs.run.run_with_history_in_time.Goals as goal

pub returns-clause-times : goal.returns-clause-times
returns-clause-times g c =
    if_ok c.run_with_history.result (λ run is. times_with_history (map sample_of c.args.samples.now) c.args.steps.now c.args.link.now.sender c.args.link.now.history c.args.link.now.receiver
    (resending_of c.run_with_history.new.link.sender c.run_with_history.new.link.history c.run_with_history.new.link.receiver run) is) c.run_with_history.ensures.runs
