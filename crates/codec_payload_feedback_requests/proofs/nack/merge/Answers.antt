use Rattle.std.proofs.Common.{ℕ, ◌≡◌, ◌∙◌, ◌+◌, ◌∷◌, List, ap, arith, drop, get_or, rules, sym, true, false}
use Rattle.codec_payload_feedback_requests.specs.NackSchedule.{is_past}
use Rattle.codec_payload_feedback_requests.proofs.NackLemmas.{kept_here, left_is, merged, merged_later, merged_more, same_more, skip_rising}
use Rattle.codec_payload_feedback_requests.proofs.nack.merge.Goals as goal
use Rattle.codec_payload_feedback_requests.proofs.nack.merge.Goals.{then-is_past+in_ok-push, else-is_past}

pub loop-number-preserved : goal.loop-number-preserved
loop-number-preserved c =
    let i = c.loop-number.number-index in
    let n = get_or c.args.missing.now i 0 in
    let left : drop i c.args.missing.now ≡ n ∷ drop (i + 1) c.args.missing.now = left_is c.args.missing.now i (omega arith) in
    let whole = ap (λ (ns : List ℕ). merged c.args.settings.now c.args.now c.args.pending.now c.loop-number.out.items c.loop-number.last ns) (sym left) ∙ c.loop-number.invariant.all in
    elim c.if-is_past.branch [
      | then-is_past+in_ok-push w ↦
          let past : is_past c.loop-number.last n ≡ true = search rules in
          let kept = kept_here c.args.settings.now c.args.now n c.loop-number.rest.now c.args.pending.now c.loop-number.invariant.rising (c.loop-number.invariant.same n past) in
          let skipped = w.skip_below-rest.ensures in
          let made = w.kept_if_first.ensures in
          let pushed = w.in_ok-push.ensures.items in
          rw (w.out-is, w.last-is, w.rest-is, skipped) (record {
            all = merged_more c.args.settings.now c.args.now n c.args.pending.now c.loop-number.out.items w.push.new.self.items c.loop-number.last (drop (i + 1) c.args.missing.now)
                past (omega arith) (cc) ∙ whole;
            same = same_more c.loop-number.last n c.loop-number.rest.now c.args.pending.now past c.loop-number.invariant.same;
            rising = skip_rising n c.loop-number.rest.now c.loop-number.invariant.rising;
          })
      | else-is_past w ↦
          let past : is_past c.loop-number.last n ≡ false = search rules in
          rw (w.out-is, w.last-is, w.rest-is) (record {
            all = merged_later c.args.settings.now c.args.now n c.args.pending.now c.loop-number.out.items c.loop-number.last (drop (i + 1) c.args.missing.now) past ∙ whole;
            same = c.loop-number.invariant.same;
            rising = c.loop-number.invariant.rising;
          })
    ]
