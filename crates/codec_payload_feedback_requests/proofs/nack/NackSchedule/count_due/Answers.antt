use Rattle.std.proofs.Common.{◌≡◌, ◌∙◌, List, Option, ℕ, ap, false, length, rules, subst, sym, true}
use Rattle.std.proofs.lemmas.List.{with_items_is}
use Rattle.codec_payload_feedback_requests.specs.declared.nack.PendingRequest.{PendingRequest}
use Rattle.codec_payload_feedback_requests.specs.NackSchedule.{Schedule, after_due, are_rising, earliest_of, numbers_of, slowest_of}
use Rattle.codec_payload_feedback_requests.specs.Requests.{has_come}
use Rattle.codec_payload_feedback_requests.proofs.NackLemmas.{nothing_due, tried_rises}
use Rattle.codec_payload_feedback_requests.proofs.nack.NackSchedule.count_due.Goals as goal

pub returns-then-not-has_come : goal.returns-then-not-has_come
returns-then-not-has_come c =
    let none : has_come (earliest_of c.self.inside.pending.items) c.args.now.0 ≡ false =
    ap (λ (at : Option ℕ). has_come at c.args.now.0) (sym c.self.invariant.earliest_is) ∙ sym c.has_come.ensures ∙ c.if-not-has_come.true in
    subst (λ (s : Schedule). s ≡ after_due c.args.now.0 s) c.self.view_is (nothing_due c.args.now.0 _ none)

pub invariant_of-self : goal.invariant_of-self
invariant_of-self c =
    let list : c.deref_mut.result.now ≡ c.self.inside.pending.items = search rules in
    let size : length c.try_due.new.pending ≡ c.self.inside.pending.len = search rules in
    let before : are_rising (numbers_of c.deref_mut.result.now) ≡ true = rw list c.self.invariant.rising in
    record {
      rising =
          ap (λ (rs : List PendingRequest). are_rising (numbers_of rs)) (with_items_is c.self.inside.pending c.try_due.new.pending size ∙ c.try_due.ensures)
          ∙ tried_rises c.self.inside.settings.tries c.retry_time-retry.result c.args.now.0 c.deref_mut.result.now before;
      earliest_is = c.earliest_of-self-inside.ensures ∙ ap earliest_of c.deref.ensures.value;
      slowest_is = c.slowest_of-self-inside.ensures ∙ ap slowest_of c.deref-2.ensures.value;
    }
