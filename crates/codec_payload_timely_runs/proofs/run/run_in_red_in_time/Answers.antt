use Rattle.std.proofs.Common.{map}
use Rattle.codec_payload_payloader.specs.Sending.{sample_of}
use Rattle.codec_payload_datagram_runs.specs.RedRuns.{red_wire_of}
use Rattle.codec_payload_timely_runs.proofs.RedRunTimes.{times_in_red}
use Rattle.codec_payload_timely_runs.proofs.AnswerLemmas.{if_ok}
use Rattle.codec_payload_timely_runs.proofs.run.run_in_red_in_time.Goals as goal

pub returns-clause-times : goal.returns-clause-times
returns-clause-times g c =
    if_ok c.run_datagrams_in_red.result (λ run is. times_in_red (map sample_of c.args.samples.now) c.args.steps.now c.args.link.now.sender c.args.link.now.writer c.args.link.now.receiver
    (red_wire_of c.run_datagrams_in_red.new.link.sender c.run_datagrams_in_red.new.link.writer c.run_datagrams_in_red.new.link.receiver run) is) c.run_datagrams_in_red.ensures.runs
