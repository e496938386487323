use Rattle.std.proofs.Common.{◌≡◌, ◌∙◌, ◌<◌, ◌≤◌, ◌-◌, ◌%◌, ap, sym, subst, List, Option, ℕ, length, take, drop, arith}
use Rattle.std.proofs.lemmas.List.{length-drop}
use Rattle.codec_payload_feedback_congestion.specs.Feedback.{Fit, fitting}
use Rattle.codec_payload_feedback_congestion.specs.Report.{reference_of}
use Rattle.codec_payload_feedback_congestion.proofs.ReportLemmas.{fit_taken, fitting_within, reference_whole, some_reported}
use Rattle.codec_payload_feedback_congestion.proofs.report.append_report.Goals as goal

pub split_at-requires : goal.split_at-requires
split_at-requires c = omega (arith, c.fitting-count.ensures, fitting_within c.args.most c.reference_of-reference.result c.unreported-unreported.result.now)

pub write_transport_feedback-requires-clause-whole : goal.write_transport_feedback-requires-clause-whole
write_transport_feedback-requires-clause-whole c = ap (λ (n : ℕ). n % 256) c.reference_of-reference.ensures ∙ reference_whole c.unreported-unreported.result.now

pub write_transport_feedback-requires-clause-fit : goal.write_transport_feedback-requires-clause-fit
write_transport_feedback-requires-clause-fit c =
    let unreported : List (Option ℕ) = c.unreported-unreported.result.now in
    let cut : c.split_at.result.0.now ≡ take (fitting c.args.most c.reference_of-reference.result unreported) unreported = c.split_at.ensures.front ∙ ap (λ (n : ℕ). take n unreported) c.fitting-count.ensures in
    subst (λ (l : List (Option ℕ)). Fit c.reference_of-reference.result l) (sym cut) (fit_taken c.args.most c.reference_of-reference.result unreported c.unreported-unreported.ensures.times)

pub returns-clause-within : goal.returns-clause-within
returns-clause-within c =
    let unreported : List (Option ℕ) = c.unreported-unreported.result.now in
    let long : length unreported ≡ length c.args.log.now.slots - c.args.log.now.reported = ap (λ (l : List (Option ℕ)). length l) c.unreported-unreported.ensures.is ∙ length-drop c.args.log.now.reported c.args.log.now.slots in
    omega (arith, long, c.unreported-unreported.ensures.reported, c.fitting-count.ensures, fitting_within c.args.most c.reference_of-reference.result unreported)

pub returns-clause-some : goal.returns-clause-some
returns-clause-some c some there =
    let unreported : List (Option ℕ) = c.unreported-unreported.result.now in
    let long : length unreported ≡ length c.args.log.now.slots - c.args.log.now.reported = ap (λ (l : List (Option ℕ)). length l) c.unreported-unreported.ensures.is ∙ length-drop c.args.log.now.reported c.args.log.now.slots in
    let one : 1 ≤ fitting c.args.most (reference_of unreported) unreported = some_reported c.args.most unreported some (omega (arith, long, there)) c.unreported-unreported.ensures.times in
    let count : c.fitting-count.result ≡ fitting c.args.most (reference_of unreported) unreported = c.fitting-count.ensures ∙ ap (λ (n : ℕ). fitting c.args.most n unreported) c.reference_of-reference.ensures in
    omega (arith, one, count)
