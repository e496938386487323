use Rattle.std.proofs.Common.{◌≡◌, ◌∙◌, ap, sym, length}
use Rattle.std.proofs.lemmas.List.{length-map}
use Rattle.codec_payload_codec.proofs.AnswerLemmas.{on_err}
use Rattle.codec_payload_buffer_runs.proofs.order.ScheduleLemmas.{noted_it, stopped_it}
use Rattle.codec_payload_payloader.specs.Sending.{sample_of}
use Rattle.codec_payload_buffer_runs.proofs.plain.send_step.Goals as goal

pub returns-in_err-fault-clause-err : goal.returns-in_err-fault-clause-err
returns-in_err-fault-clause-err g c =
    let refused = rw c.in_err-fault.ensures.err at c.push_sample.ensures.err in
    on_err c.from_residual.result (λ b. stopped_it c.args.sending.now.mtu (sample_of c.args.sending.now.sample.now) _ _ b _ _ c.push_sample.ensures.clock refused)

pub returns-clause-ok : goal.returns-clause-ok
returns-clause-ok g c = λ b.
    let before : length c.packets-first.result.now ≡ length c.args.sink.now.packets = sym (length-map _ _) ∙ ap length c.packets-first.ensures.value in
    let after : length c.packets.result.now ≡ length c.push_sample.new.sink.packets = sym (length-map _ _) ∙ ap length c.packets.ensures.value in
    rw (before, after) (noted_it c.args.sending.now.place c.args.sending.now.mtu (sample_of c.args.sending.now.sample.now) c.push_sample.result c.in_ok-fault.fault _ _ b _ _
    c.push_sample.ensures.clock c.in_ok-fault.ensures.ok.0 c.in_ok-fault.ensures.ok.1 c.packets-first.ensures.few c.packets.ensures.few c.push_sample.ensures.ok c.push_sample.ensures.err)
