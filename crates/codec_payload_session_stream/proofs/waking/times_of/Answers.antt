use Rattle.std.proofs.Common.{◌≡◌, ◌∷◌, ◌++◌, [], ℕ, List, add-one, arith, ap, length, subst}
use Rattle.std.proofs.lemmas.List.{length-append}
use Rattle.codec_payload_session_stream.specs.Streams.{StreamState}
use Rattle.codec_payload_session_stream.specs.Waking.{AllWake, WakesAt}
use Rattle.codec_payload_session_stream.proofs.WakingLemmas.{all_padded, all_push}
use Rattle.codec_payload_session_stream.proofs.waking.times_of.Goals as goal

pub loop-stream-preserved : goal.loop-stream-preserved
loop-stream-preserved c =
    let longer : c.push.new.self.items ≡ c.loop-stream.times.items ++ c.wakes_at.result ∷ [] = c.in_ok-push.ensures.items in
    let it : WakesAt c.args.idle_timeout c.wakes_at.result _ = subst (λ (s : StreamState). WakesAt c.args.idle_timeout c.wakes_at.result s) c.stream-item.is c.wakes_at.ensures in
    record {
      timed = rw (longer, add-one) (all_push c.args.idle_timeout c.loop-stream.stream-index c.wakes_at.result c.stream-item.result c.loop-stream.times.items c.args.streams.now c.loop-stream.invariant.count c.loop-stream-test.true
          c.loop-stream.invariant.timed it);
      count = omega (arith, ap (λ (l : List ℕ). length l) longer, length-append c.loop-stream.times.items (c.wakes_at.result ∷ []), c.loop-stream.invariant.count);
    }

pub loop-preserved : goal.loop-preserved
loop-preserved c = rw c.in_ok-push-2.ensures.items (all_padded c.args.idle_timeout c.loop.times.items _ c.args.streams.now c.loop.invariant)
