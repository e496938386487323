use Rattle.std.proofs.Common.{rules, ◌≡◌, ◌∙◌, ap, subst, [], ◌∷◌, map}
use Rattle.codec_payload_buffer.specs.Steps.{State}
use Rattle.codec_payload_codec.proofs.AnswerLemmas.{from_err, on_err}
use Rattle.codec_payload_payloader.specs.Packets.{packet_of}
use Rattle.codec_payload_buffer_runs.specs.RedSchedule.{PushesAll}
use Rattle.codec_payload_red.specs.RedRecovery.{packet_of as recovered_of}
use Rattle.codec_payload_buffer_runs.proofs.red.+push_all_recovered.Goals as goal

pub returns-in_err-push_recovered-clause-err : goal.returns-in_err-push_recovered-clause-err
returns-in_err-push_recovered-clause-err g t c =
    let split : map recovered_of c.args.recovered.now ≡ recovered_of c.in-Some.first.now ∷ map recovered_of c.in-Some.others.now = search rules in
    on_err c.from_residual.result ([], recovered_of c.in-Some.first.now, map recovered_of c.in-Some.others.now, split, c.in_err-push_recovered.ensures.err)

pub returns-clause-err : goal.returns-clause-err
returns-clause-err g t c =
    let split : map recovered_of c.args.recovered.now ≡ recovered_of c.in-Some.first.now ∷ map recovered_of c.in-Some.others.now = search rules in
    let one = c.in_ok-push_recovered.ensures.ok in
    from_err c.push_all_recovered.result (λ stop. (
      recovered_of c.in-Some.first.now ∷ stop.0,
      stop.1,
      stop.2,
      split ∙ ap (λ (xs : _). recovered_of c.in-Some.first.now ∷ xs) stop.3,
      (one.0, one.1, subst (λ (s : State). PushesAll c.args.pushing.now.place c.args.pushing.now.clock_rate c.args.pt (packet_of c.args.pushing.now.packet.now) stop.0 s c.push_all_recovered.new.buffer) one.2 stop.4),
    )) c.push_all_recovered.ensures.err
