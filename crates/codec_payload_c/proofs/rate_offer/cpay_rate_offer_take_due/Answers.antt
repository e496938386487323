use Rattle.std.proofs.Common.{◌≡◌, ◌∙◌, ap, sym, subst, rules, ℕ, Option, Some, Box, Global}
use Rattle.codec_payload_bandwidth_offer.specs.Offers.{Offer}
use Rattle.codec_payload_c_path.specs.Kinds.{OnOffer, StaysOffer}
use Rattle.codec_payload_c_path.specs.RateOffers.{TakesRate}
use Rattle.codec_payload_c_path.specs.declared.object.PathObject.{PathObject}
use Rattle.codec_payload_c_path.specs.declared.object.PathObject.TheVariants as objects
use Rattle.codec_payload_c.proofs.rate_offer.cpay_rate_offer_take_due.Goals as goal
use Rattle.codec_payload_c.proofs.rate_offer.cpay_rate_offer_take_due.Goals.{in-RateOffer, in_default-deref_mut}

-- the handle has an offer before and after
stays : (Does : Offer → Offer → Type 0) (before after : Option PathObject) (r s : Box Offer Global)
    → before ≡ Some (objects.RateOffer r) → after ≡ Some (objects.RateOffer s) → Does r.value s.value → OnOffer before Does after
stays Does before after r s was is done =
    subst (λ (o : Option PathObject). OnOffer o Does after) (sym was) (subst (λ (o : Option PathObject). StaysOffer (Does r.value) o) (sym is) done)

-- the same offer, status and rate
takes_as : (held r : Offer) (now round_trip known status before told rate : ℕ) (s : Offer)
    → held ≡ r → status ≡ known → rate ≡ told → TakesRate now round_trip held known before told s → TakesRate now round_trip r status before rate s
takes_as held r now round_trip known status before told rate s same_offer same_status same_rate takes =
    let a = subst (λ (x : Offer). TakesRate now round_trip x known before told s) same_offer takes in
    let b = subst (λ (x : ℕ). TakesRate now round_trip r x before told s) (sym same_status) a in
    subst (λ (x : ℕ). TakesRate now round_trip r status before x s) (sym same_rate) b

pub returns-clause-takes : goal.returns-clause-takes
returns-clause-takes c = elim c.match-deref_mut.branch [
  | in-RateOffer w ↦
      let was : c.args.handle.now.place.value ≡ Some (objects.RateOffer w.in-RateOffer.offer) = sym c.in-Some.ensures.value ∙ ap Some (sym c.deref_mut.ensures.value ∙ w.in-RateOffer.is) in
      let is = c.put.ensures ∙ ap (λ (b : Box PathObject Global). Some b.value) w.object-is in
      let takes = takes_as w.deref_mut-in-RateOffer.result.now w.in-RateOffer.offer.value c.args.now c.args.round_trip _ _ _ _ _ w.take_rate-answer.new.offer w.deref_mut-in-RateOffer.ensures.value w.answer-is w.rate-is w.take_rate-answer.ensures.takes in
      stays (λ (r s : Offer). TakesRate c.args.now c.args.round_trip r c.match-deref_mut.answer c.args.rate.now c.match-deref_mut.rate s) _ _ _ _ was is takes
  | in_default-deref_mut w ↦ search rules
]
