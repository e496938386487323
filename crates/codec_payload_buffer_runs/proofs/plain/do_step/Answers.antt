use Rattle.std.proofs.Common.{rules, subst, ◌∙◌, sym, ap, refl, ℕ, [], ◌∷◌, length, option_map, Some, inl, inr}
use Rattle.std.specs.Prelude.{slice_get}
use Rattle.std.proofs.lemmas.List.{append-nil}
use Rattle.std.proofs.lemmas.Option.{slice_get-map, slice_get_past, slice_get_read}
use Rattle.codec_payload_payloader.specs.Packets.{packet_of}
use Rattle.codec_payload_buffer_runs.specs.Schedule.{Pushes, run_state}
use Rattle.codec_payload_payloader.specs.Sending.{sample_of}
use Rattle.codec_payload_buffer.specs.Steps.{State}
use Rattle.codec_payload_codec.proofs.AnswerLemmas.{from_err, on_err, on_ok}
use Rattle.codec_payload_buffer_runs.proofs.plain.do_step.Goals as goal

pub returns-in_default-clause-ok : goal.returns-in_default-clause-ok
returns-in_default-clause-ok g c =
    let none = slice_get_past c.args.turn.now.samples.now c.in-Send.sample c.in_default.ensures.lookup.3 in
    let here = slice_get-map sample_of c.args.turn.now.samples.now c.in-Send.sample ∙ ap (λ o. option_map sample_of o) none in
    ([], [], sym (append-nil _), sym (append-nil _), rw c.in-Send.is (refl, rw here (refl, refl)))

pub returns-in_err-reserve-in-Send-clause-err : goal.returns-in_err-reserve-in-Send-clause-err
returns-in_err-reserve-in-Send-clause-err g c =
    let there = slice_get_read c.args.turn.now.samples.now (length c.args.turn.now.samples.now) c.in-Send.sample c.in-Some.sample.now refl c.in-Some.ensures.lookup.3.0 c.in-Some.ensures.lookup.1 in
    let here = slice_get-map sample_of c.args.turn.now.samples.now c.in-Send.sample ∙ ap (λ o. option_map sample_of o) there in
    on_err c.from_residual.result (rw c.in-Send.is (sample_of c.in-Some.sample.now, here, inl refl))

pub returns-in_err-entry-in-Send-clause-err : goal.returns-in_err-entry-in-Send-clause-err
returns-in_err-entry-in-Send-clause-err g c =
    let there = slice_get_read c.args.turn.now.samples.now (length c.args.turn.now.samples.now) c.in-Send.sample c.in-Some.sample.now refl c.in-Some.ensures.lookup.3.0 c.in-Some.ensures.lookup.1 in
    let here = slice_get-map sample_of c.args.turn.now.samples.now c.in-Send.sample ∙ ap (λ o. option_map sample_of o) there in
    on_err c.from_residual-in_err-entry-in-Send.result (rw c.in-Send.is (sample_of c.in-Some.sample.now, here, inr (c.in_err-entry-in-Send.ensures.err c.args.buffer.now)))

pub returns-in_default-get-clause-ok : goal.returns-in_default-get-clause-ok
returns-in_default-get-clause-ok g c =
    let none = slice_get_past c.packets.result.now c.in-Push.k c.in_default-get.ensures.lookup.3 in
    let here = ap (λ ps. slice_get ps c.in-Push.k) (sym c.packets.ensures.value) ∙ (slice_get-map packet_of c.packets.result.now c.in-Push.k ∙ ap (λ o. option_map packet_of o) none) in
    ([], [], sym (append-nil _), sym (append-nil _), rw c.in-Push.is (refl, refl, c.args.buffer.now, rw here refl, refl))

pub returns-in_ok-entry-in-Send-clause-ok : goal.returns-in_ok-entry-in-Send-clause-ok
returns-in_ok-entry-in-Send-clause-ok g c =
    let there = slice_get_read c.args.turn.now.samples.now (length c.args.turn.now.samples.now) c.in-Send.sample c.in-Some.sample.now refl c.in-Some.ensures.lookup.3.0 c.in-Some.ensures.lookup.1 in
    let here = slice_get-map sample_of c.args.turn.now.samples.now c.in-Send.sample ∙ ap (λ o. option_map sample_of o) there in
    (c.in_ok-entry-in-Send.entry ∷ [], [], search rules, sym (append-nil _), rw c.in-Send.is (refl, rw here (c.in_ok-entry-in-Send.entry, refl, c.in_ok-entry-in-Send.ensures.ok c.args.buffer.now)))

pub returns-in-Some-get-clause-ok : goal.returns-in-Some-get-clause-ok
returns-in-Some-get-clause-ok g c =
    let there = slice_get_read c.packets.result.now (length c.packets.result.now) c.in-Push.k c.in-Some-get.packet.now refl c.in-Some-get.ensures.lookup.3.0 c.in-Some-get.ensures.lookup.1 in
    let here = ap (λ ps. slice_get ps c.in-Push.k) (sym c.packets.ensures.value) ∙ (slice_get-map packet_of c.packets.result.now c.in-Push.k ∙ ap (λ o. option_map packet_of o) there) in
    on_ok c.push_step.result (λ pushed. (
      [],
      [],
      sym (append-nil _),
      sym (append-nil _),
      rw c.in-Push.is (
        refl,
        refl,
        c.push_step.new.buffer,
        rw here (subst (λ (rate : ℕ). Pushes c.args.turn.now.place rate (Some (packet_of c.in-Some-get.packet.now)) c.args.buffer.now c.push_step.new.buffer) c.clock_rate.ensures pushed),
        refl,
      ),
    )) c.push_step.ensures.ok

pub returns-in-Some-get-clause-err : goal.returns-in-Some-get-clause-err
returns-in-Some-get-clause-err g c =
    let there = slice_get_read c.packets.result.now (length c.packets.result.now) c.in-Push.k c.in-Some-get.packet.now refl c.in-Some-get.ensures.lookup.3.0 c.in-Some-get.ensures.lookup.1 in
    let here = ap (λ ps. slice_get ps c.in-Push.k) (sym c.packets.ensures.value) ∙ (slice_get-map packet_of c.packets.result.now c.in-Push.k ∙ ap (λ o. option_map packet_of o) there) in
    from_err c.push_step.result (λ same. rw c.in-Push.is (packet_of c.in-Some-get.packet.now, here, ap (λ (b : State). run_state c.args.payloader.now b c.args.sink.now) same)) c.push_step.ensures.err

pub returns-in-Pop-clause-ok : goal.returns-in-Pop-clause-ok
returns-in-Pop-clause-ok g c =
    on_ok c.pop_step.result (λ did. (
      [],
      did.0 ∷ [],
      did.1 ∙ sym (append-nil _),
      did.2,
      rw c.in-Pop.is (refl, did.0, c.pop_step.new.buffer, refl, did.3, did.4, refl),
    )) c.pop_step.ensures.ok

pub returns-in-Pop-clause-err : goal.returns-in-Pop-clause-err
returns-in-Pop-clause-err g c =
    from_err c.pop_step.result (λ stopped. rw c.in-Pop.is (elim stopped [
      | inl same ↦ inl (ap (λ (b : State). run_state c.args.payloader.now b c.args.sink.now) same)
      | inr pops ↦ inr (c.pop_step.new.buffer, pops, refl)
    ])) c.pop_step.ensures.err
