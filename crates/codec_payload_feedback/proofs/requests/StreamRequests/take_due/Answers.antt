use Rattle.std.proofs.Common.{◌≡◌, ◌∙◌, [], false, rules, subst, sym}
use Rattle.codec_payload_feedback.proofs.FeedbackLemmas.{few_due, no_packet, rests}
use Rattle.codec_payload_feedback.proofs.requests.StreamRequests.take_due.Goals as goal

pub packet-requires : goal.packet-requires
packet-requires c =
    let none : c.new-numbers.result.items ≡ [] = search rules in
    let same : c.deref.result.now ≡ c.append_due.new.numbers.items = search rules in
    few_due c.args.now.0 c.self.inside.nack c.new-numbers.result.items c.deref.result.now c.self.invariant none (same ∙ c.in_ok-append_due.ensures.ok)

pub returns-then-not-has_due-clause-packet : goal.returns-then-not-has_due-clause-packet
returns-then-not-has_due-clause-packet c = no_packet c.args.source.now c.args.now.0 c.args.self.now (sym c.has_due.ensures ∙ c.if-not-has_due.true)

pub returns-then-not-has_due-clause-after : goal.returns-then-not-has_due-clause-after
returns-then-not-has_due-clause-after c = (rests c.args.now.0 c.args.self.now (sym c.has_due.ensures ∙ c.if-not-has_due.true)).after
