use Rattle.std.proofs.Common.{rules, ◌≡◌, ◌∙◌, ap, ◌+◌, ◌-◌, ◌^◌, min}
use Rattle.codec_payload_bandwidth_offer.proofs.JudgeLemmas.{judged_as}
use Rattle.codec_payload_bandwidth_offer.specs.Offers.{Offer, clock_at, judged_at}
use Rattle.codec_payload_bandwidth_offer.proofs.offer.RateOffer.judge.Goals as goal

pub returns : goal.returns
returns c =
    let o : Offer = record {
      estimator = c.self.inside.estimator;
      wants = c.self.inside.wants;
      clock = c.self.inside.clock;
      sent = c.self.inside.sent;
      arrived = c.self.inside.arrived;
      next = c.self.inside.next;
      told = c.self.inside.told;
      told_at = c.self.inside.told_at;
    } in
    let same : o ≡ c.args.self.now = c.self.view_is in
    let time : c.time-time.result.0 ≡ clock_at c.args.now.0 o = search rules in
    let next : c.saturating_add-self-inside.result ≡ min (c.args.now.0 + 50000) (2 ^ 64 - 1) = search rules in
    judged_as c.args.now.0 c.args.round_trip c.time-time.result.0 c.saturating_add-self-inside.result c.judge_by.new.estimator o time next c.judge_by.ensures
    ∙ ap (λ (x : Offer). judged_at c.args.now.0 c.args.round_trip x) same
