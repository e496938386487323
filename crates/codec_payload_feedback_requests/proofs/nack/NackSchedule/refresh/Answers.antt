use Rattle.std.proofs.Common.{◌≡◌, ◌∙◌, ap, subst, sym}
use Rattle.codec_payload_feedback_requests.specs.NackSchedule.{Schedule, earliest_of, numbers_of, refreshed, slowest_of}
use Rattle.codec_payload_feedback_requests.proofs.NackLemmas.{refreshed_rises, same_again}
use Rattle.codec_payload_feedback_requests.proofs.nack.NackSchedule.refresh.Goals as goal

pub returns-then-are_numbers_of-clause-ok : goal.returns-then-are_numbers_of-clause-ok
returns-then-are_numbers_of-clause-ok c =
    let same : numbers_of c.self.inside.pending.items ≡ c.args.missing.now = ap numbers_of (sym c.deref.ensures.value) ∙ c.are_numbers_of.ensures c.if-are_numbers_of.true in
    subst (λ (s : Schedule). s ≡ refreshed c.args.now.0 c.args.missing.now s) c.self.view_is (same_again c.args.now.0 c.args.missing.now _ c.self.invariant.rising same c.if-missing-self.true)

pub invariant_of-self-2 : goal.invariant_of-self-2
invariant_of-self-2 c =
    record {
      rising = rw (c.swap.ensures.x_after, c.in_ok-merge.ensures) (refreshed_rises c.self.inside.settings c.args.now.0 c.args.missing.now c.deref-2.result.now);
      earliest_is = c.earliest_of-self-inside.ensures ∙ ap earliest_of c.deref-3.ensures.value;
      slowest_is = c.slowest_of-self-inside.ensures ∙ ap slowest_of c.deref-4.ensures.value;
    }
