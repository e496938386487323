use Rattle.std.proofs.Common.{◌≡◌, ◌∙◌, ℕ, ap, subst, false, Option}
use Rattle.codec_payload_numbers.specs.Numbers.{Numbering, lowest_with, numbering_with}
use Rattle.codec_payload_jitter.specs.Receiving.{Arrival, Receiving, ReceivesAs, answer_to, with_first}
use Rattle.codec_payload_numbers.specs.declared.numbers.Extended.{Extended}
use Rattle.codec_payload_jitter.proofs.jitter.JitterBuffer.push_packed.Goals as goal

pub returns-clause-ok : goal.returns-clause-ok
returns-clause-ok g c =
    let r : Receiving = c.args.self.now in
    let low : ℕ = c.args.header.sequence_number in
    let time : ℕ = c.args.header.timestamp in
    let a : Arrival = record { now = c.args.now; header = c.args.header; bytes = c.args.payload.items } in
    let e : Extended = answer_to r c.args.header in
    let mid : Receiving = c.receive_as.new.self in
    let after : Receiving = c.set_numbers.new.self in
    let answer : c.answer_to_packet-answer.result ≡ e = c.answer_to_packet-answer.ensures.value in
    let numbers : c.extended-numbers.result.0 ≡ numbering_with r.numbering e low = rw (answer, c.sequence_number-low.ensures) at c.extended-numbers.ensures.numbers in
    let lowest : c.extended-numbers.result.1 ≡ lowest_with r.lowest e = rw answer at c.extended-numbers.ensures.lowest in (
      mid,
      subst (λ (x : Extended). ReceivesAs x a r c.in_ok-outcome.outcome mid) answer c.in_ok-outcome.ensures.ok,
      c.note_first.ensures ∙ (ap (λ (x : Extended). with_first x c.timestamp-time.result after) answer
          ∙ (ap (λ (k : ℕ). with_first e k after) c.timestamp-time.ensures ∙ ap (with_first e time) (c.set_numbers.ensures
          ∙ (ap (λ (k : Numbering). record mid { numbering = k; lowest = c.extended-numbers.result.1; is_restarting = false }) numbers
          ∙ ap (λ (l : Option ℕ). record mid { numbering = numbering_with r.numbering e low; lowest = l; is_restarting = false }) lowest)))),
    )
