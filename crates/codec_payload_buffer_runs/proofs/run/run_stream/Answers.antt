use Rattle.std.proofs.Common.{◌∙◌, refl, sym, ap, option_map}
use Rattle.codec_payload_codec.specs.Depacketizers.{depacketizer_state_of}
use Rattle.codec_payload_buffer_runs.proofs.units.StreamStart.{runs_stream}
use Rattle.codec_payload_buffer.specs.Steps.{empty_buffer}
use Rattle.codec_payload_buffer_runs.specs.Schedule.{run_state}
use Rattle.codec_payload_buffer_runs.proofs.run.run_stream.Goals as goal

pub returns-clause-promises : goal.returns-clause-promises
returns-clause-promises c =
    let sends = sym c.new.ensures ∙ c.in-Some.is in
    let receives = sym c.from_codec.ensures ∙ ap (λ o. option_map depacketizer_state_of o) c.in-Some-from_codec.is in
    let empty = c.with_limit-buffer.ensures ∙ ap (λ d. empty_buffer c.args.stream.hold_back c.args.stream.limit d) c.configure_for.ensures in
    runs_stream c.args.stream c.args.samples.now c.args.steps.now c.in_ok-run.run' c.in-Some.payloader c.with_limit-buffer.result c.new-sink.result
    (run_state c.run_schedule.new.payloader c.run_schedule.new.buffer c.run_schedule.new.sink) (depacketizer_state_of c.in-Some-from_codec.depacketizer)
    sends receives empty c.new-sink.ensures (c.in_ok-run.ensures.promises refl)
