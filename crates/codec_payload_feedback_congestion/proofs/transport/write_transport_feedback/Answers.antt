use Rattle.std.proofs.Common.{◌≡◌, ◌++◌, ◌+◌, [], ap, ◌∙◌, List, ℕ, length, arith, rules}
use Rattle.codec_payload_feedback_congestion.specs.Feedback.{feedback_header}
use Rattle.codec_payload_feedback_congestion.proofs.FeedbackLemmas.{reported_written}
use Rattle.codec_payload_feedback_congestion.proofs.transport.write_transport_feedback.Goals as goal

pub returns-clause-ok : goal.returns-clause-ok
returns-clause-ok c =
    let none : c.reserve.new.self.items ≡ [] = search rules in
    let head : c.extend_from_slice.new.self.items ≡ c.reserve.new.self.items ++ c.feedback_header.result = search rules in
    let number : c.from.result ≡ c.args.counter = omega arith in
    let is : c.extend_from_slice.new.self.items ≡ feedback_header c.args.base (length c.args.statuses.now) (c.args.reference + c.args.counter) =
    head ∙ ap (λ (t : List ℕ). t ++ c.feedback_header.result) none ∙ c.feedback_header.ensures ∙ ap (λ (k : ℕ). feedback_header c.args.base (length c.args.statuses.now) (c.args.reference + k)) number in
    reported_written c.args.out.now.items c.extend_from_slice.new.self.items c.write_body.new.body.items c.extend_from_slice-2.new.self.items c.args.base c.args.reference c.args.counter c.args.statuses.now
    (omega arith) (omega arith) c.requires.whole (omega arith) c.requires.few is c.in_ok-write_body.ensures (search rules)
