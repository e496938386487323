use Rattle.std.proofs.Common.{◌≡◌, ◌∙◌, ◌+◌, List, ℕ, OnOk, ap, length, rules, subst, take}
use Rattle.std.proofs.lemmas.List.{length-take, take_min}
use Rattle.codec_payload_feedback.specs.Feedback.{AppendsAll, cname_by}
use Rattle.codec_payload_session.specs.Reporting.{name_length}
use Rattle.codec_payload_session.proofs.reporter.write_name.Goals as goal

pub returns-clause-packets : goal.returns-clause-packets
returns-clause-packets c =
    let short : take c.min-len.result c.deref.result.now ≡ take 255 c.args.feedback.now.cname.items = search (rules, take_min 255 c.args.feedback.now.cname.items) in
    subst (λ (l : List ℕ). OnOk c.write_name_of.result (AppendsAll (cname_by c.args.feedback.now.ssrc l) c.args.out.now.items c.write_name_of.new.out.items)) short c.write_name_of.ensures.packets

pub returns-clause-length : goal.returns-clause-length
returns-clause-length c =
    let short : take c.min-len.result c.deref.result.now ≡ take 255 c.args.feedback.now.cname.items = search (rules, take_min 255 c.args.feedback.now.cname.items) in
    subst (λ (n : ℕ). OnOk c.write_name_of.result (length c.write_name_of.new.out.items ≡ length c.args.out.now.items + name_length n))
    (ap (λ (l : List ℕ). length l) short ∙ length-take 255 c.args.feedback.now.cname.items) c.write_name_of.ensures.length
