use Rattle.std.proofs.Common.{rules, ◌≡◌, ◌∙◌, ap, sym, subst, length, refl, ◌<◌, ◌^◌}
use Rattle.std.proofs.lemmas.List.{length-map}
use Rattle.codec_payload_payloader.specs.Packets.{SentPackets}
use Rattle.codec_payload_payloader.specs.RedPackets.{stream_of}
use Rattle.codec_payload_payloader.specs.Sending.{sample_of}
use Rattle.codec_payload_buffer_runs.proofs.in_red.RedSendLemmas.{noted_in_red, stopped_in_red, sent_as, stopped_as}
use Rattle.codec_payload_codec.proofs.AnswerLemmas.{on_err}
use Rattle.codec_payload_buffer_runs.proofs.red.red_send_step.Goals as goal

pub returns-in_err-fault-clause-err : goal.returns-in_err-fault-clause-err
returns-in_err-fault-clause-err g c =
    let before = c.new-in_red.result in
    let after = c.push_sample.new.sink in
    let stream : stream_of before ≡ c.args.sink.now = c.new-in_red.ensures.stream in
    let stream_after : stream_of after ≡ c.sink-1.given.0 = search rules in
    let refused = rw c.in_err-fault.ensures.err at c.push_sample.ensures.err in
    on_err c.from_residual.result (λ b sent long.
    stopped_as c.args.sending.now.mtu (sample_of c.args.sending.now.sample.now) c.args.payloader.now c.push_sample.new.self b before after _ _ _ _ _ sent stream c.new-in_red.ensures.red
    c.new-in_red.ensures.budget stream_after refl
    (stopped_in_red c.args.sending.now.mtu (sample_of c.args.sending.now.sample.now) c.args.payloader.now c.push_sample.new.self b before after sent
    (long ∙ ap (λ (s : SentPackets). length s.packets) (sym stream)) c.push_sample.ensures.clock refused))

pub returns-clause-ok : goal.returns-clause-ok
returns-clause-ok g c = λ b sent long.
    let before = c.new-in_red.result in
    let after = c.push_sample.new.sink in
    let stream : stream_of before ≡ c.args.sink.now = c.new-in_red.ensures.stream in
    let stream_after : stream_of after ≡ c.sink-1.given.0 = search rules in
    let first : length c.packets-first.result.now ≡ length (stream_of before).packets = sym (length-map _ _) ∙ ap length c.packets-first.ensures.value
    ∙ ap (λ (s : SentPackets). length s.packets) (sym stream) in
    let total : length c.packets.result.now ≡ length (stream_of after).packets = sym (length-map _ _) ∙ ap length c.packets.ensures.value
    ∙ ap (λ (s : SentPackets). length s.packets) (sym stream_after) in
    let few_before : length (stream_of before).packets < 2 ^ 63 = subst (λ (s : SentPackets). length s.packets < 2 ^ 63) (sym stream) c.packets-first.ensures.few in
    let few : length (stream_of after).packets < 2 ^ 63 = subst (λ (s : SentPackets). length s.packets < 2 ^ 63) (sym stream_after) c.packets.ensures.few in
    sent_as c.args.sending.now.place c.args.sending.now.mtu (sample_of c.args.sending.now.sample.now) _ _ b before after _ _ _ _ _ sent _ c.in_ok-fault.fault _ stream c.new-in_red.ensures.red
    c.new-in_red.ensures.budget stream_after refl (rw (first, total) refl)
    (noted_in_red c.args.sending.now.place c.args.sending.now.mtu (sample_of c.args.sending.now.sample.now) c.push_sample.result c.in_ok-fault.fault _ _ b before after sent
    (long ∙ ap (λ (s : SentPackets). length s.packets) (sym stream))
    c.push_sample.ensures.clock c.in_ok-fault.ensures.ok.0 c.in_ok-fault.ensures.ok.1 few_before few c.push_sample.ensures.ok c.push_sample.ensures.err)
