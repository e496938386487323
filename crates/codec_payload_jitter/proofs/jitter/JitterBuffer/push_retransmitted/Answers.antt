use Rattle.std.proofs.Common.{◌≡◌, ◌∙◌, ℕ, ap, sym, false, Option, Some}
use Rattle.codec_payload_numbers.specs.Numbers.{Numbering, lowest_with, numbering_with}
use Rattle.codec_payload_jitter.specs.Receiving.{Receiving, counted_in_again, number_again_for, with_first}
use Rattle.codec_payload_numbers.specs.declared.numbers.Extended.{Extended}
use Rattle.codec_payload_numbers.specs.declared.numbers.Extended.TheVariants as extended
use Rattle.codec_payload_jitter.proofs.ReceivingLemmas.{receives_again_is}
use Rattle.codec_payload_jitter.proofs.jitter.JitterBuffer.push_retransmitted.Goals as goal

pub returns-clause-ok : goal.returns-clause-ok
returns-clause-ok g c =
    let r : Receiving = c.args.self.now in
    let low : ℕ = c.args.header.sequence_number in
    let n : ℕ = c.in-Some.number in
    let answer : Extended = extended.Number n in
    let mid : Receiving = c.store_and_note.new.self in
    let stored : Receiving = record mid { counters = counted_in_again mid.counters c.in_ok-outcome.outcome } in
    let is : number_again_for r low c.args.header.timestamp ≡ Some n = sym c.number_again_for.ensures.value ∙ c.in-Some.is in
    let numbers : c.extended-numbers.result.0 ≡ numbering_with r.numbering answer low = c.extended-numbers.ensures.numbers in
    let lowest : c.extended-numbers.result.1 ≡ lowest_with r.lowest answer = c.extended-numbers.ensures.lowest in
    receives_again_is (record { now = c.args.now; header = c.args.header; bytes = c.args.payload.items }) n r mid c.note_first.new.self c.in_ok-outcome.outcome is (rw c.in_ok-new.ensures at c.in_ok-outcome.ensures.ok)
    (c.note_first.ensures ∙ ap (with_first answer c.args.header.timestamp) (c.set_numbers.ensures ∙ (ap (λ (x : Receiving). record x { numbering = c.extended-numbers.result.0; lowest = c.extended-numbers.result.1; is_restarting = false }) c.count_again.ensures
    ∙ (ap (λ (k : Numbering). record stored { numbering = k; lowest = c.extended-numbers.result.1; is_restarting = false }) numbers
    ∙ ap (λ (l : Option ℕ). record stored { numbering = numbering_with r.numbering answer low; lowest = l; is_restarting = false }) lowest))))
