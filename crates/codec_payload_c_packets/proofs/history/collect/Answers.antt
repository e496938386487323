use Rattle.std.proofs.Common.{◌≡◌, ◌∙◌, ap, sym, arith, suc, ℕ, ◌-◌, ◌^◌, ◌||◌, List, ◌∷◌, length, set}
use Rattle.codec_payload_sending_history.specs.Requests.{requests_left}
use Rattle.codec_payload_sending_history.specs.declared.feedback.Request.{Request}
use Rattle.codec_payload_sending_history.specs.declared.feedback.Request.TheVariants as requests
use Rattle.codec_payload_c_packets.specs.Histories.{asks_keyframe, numbers_asked}
use Rattle.codec_payload_c_packets.proofs.AskedNumbers.{put_all, put_from, set_least}
use Rattle.codec_payload_c_packets.proofs.history.collect.Goals as goal

pub loop-request-preserved-in-Packet : goal.loop-request-preserved-in-Packet
loop-request-preserved-in-Packet c =
    let n = c.loop-request.invariant.0 in
    let before = c.loop-request.numbers in
    let number = c.in-Packet.number in
    let left = requests_left c.next.new.self in
    let step : requests_left c.loop-request.request-iterator ≡ requests.Packet number ∷ left = c.in-Some.ensures.steps ∙ ap (λ (r : Request). r ∷ left) c.in-Packet.is in
    let asked : numbers_asked (requests_left c.loop-request.request-iterator) ≡ number ∷ numbers_asked left = ap numbers_asked step in
    let put : c.put-count.new.numbers ≡ set before n number =
    c.put-count.ensures.number ∙ ap (λ (i : ℕ). set before i number) c.loop-request.invariant.1 ∙ set_least (2 ^ 64 - 1) n before number c.put-count.ensures.room in (
      suc n,
      omega (arith, c.put-count.ensures.next, c.loop-request.invariant.1),
      omega (arith, ap length asked, c.loop-request.invariant.2),
      ap (λ (ys : List ℕ). put_from (suc n) ys (numbers_asked left)) put ∙ sym (ap (put_from n before) asked) ∙ c.loop-request.invariant.3,
      sym (ap (λ (rs : List Request). c.loop-request.wants_keyframe || asks_keyframe rs) step) ∙ c.loop-request.invariant.4,
    )

pub returns-clause-numbers : goal.returns-clause-numbers
returns-clause-numbers c =
    sym (ap (λ (rs : List Request). put_from c.loop-request.invariant.0 c.loop-request.numbers (numbers_asked rs)) c.in-None.ensures.steps.0)
    ∙ c.loop-request.invariant.3 ∙ put_all c.args.numbers.now (numbers_asked (requests_left c.args.requests))
