use Rattle.std.proofs.Common.{◌≡◌, ◌∙◌, ◌++◌, Option, ℕ, ap, false, map, subst, sym}
use Rattle.codec_payload_feedback_requests.specs.NackSchedule.{Schedule, due_numbers, earliest_of, low_bits}
use Rattle.codec_payload_feedback_requests.specs.Requests.{has_come}
use Rattle.codec_payload_feedback_requests.proofs.NackLemmas.{nothing_appended}
use Rattle.codec_payload_feedback_requests.proofs.nack.NackSchedule.append_due.Goals as goal

pub returns-then-not-has_come-clause-ok : goal.returns-then-not-has_come-clause-ok
returns-then-not-has_come-clause-ok c =
    let none : has_come (earliest_of c.self.inside.pending.items) c.args.now.0 ≡ false =
    ap (λ (at : Option ℕ). has_come at c.args.now.0) (sym c.self.invariant.earliest_is) ∙ sym c.has_come.ensures ∙ c.if-not-has_come.true in
    subst (λ (s : Schedule). c.args.numbers.now.items ≡ c.args.numbers.now.items ++ map low_bits (due_numbers c.args.now.0 s)) c.self.view_is (nothing_appended c.args.now.0 (record { settings = c.self.inside.settings; pending = c.self.inside.pending.items; trip = c.self.inside.trip }) c.args.numbers.now.items none)
