use Rattle.std.proofs.Common.{List, add-one, arith, length-set, subst}
use Rattle.std.proofs.lemmas.List.{take_all}
use Rattle.codec_payload_session_stream.specs.Streams.{StreamState}
use Rattle.codec_payload_session_stream.specs.Waking.{AllWake, WakesAt}
use Rattle.codec_payload_session_stream.proofs.WakingLemmas.{first_set}
use Rattle.codec_payload_session_stream.proofs.waking.set_times.Goals as goal

pub set-requires : goal.set-requires
set-requires c = omega (arith, c.loop-place-test.true, c.loop-place.invariant.room)

pub loop-place-preserved : goal.loop-place-preserved
loop-place-preserved c = record {
  timed =
      let it : WakesAt c.args.idle_timeout c.wakes_at.result _ = subst (λ (s : StreamState). WakesAt c.args.idle_timeout c.wakes_at.result s) c.index-streams-place.is c.wakes_at.ensures in
      rw (c.set.ensures, add-one) (first_set c.args.idle_timeout c.loop-place.place c.wakes_at.result c.index-streams-place.result c.loop-place.times c.args.streams.now c.loop-place-test.true c.loop-place.invariant.room
      c.loop-place.invariant.timed it);
  room = rw c.set.ensures (omega (arith, c.loop-place.invariant.room, length-set c.loop-place.times c.loop-place.place c.wakes_at.result));
}

pub returns : goal.returns
returns c = subst (λ (l : List StreamState). AllWake c.args.idle_timeout c.loop-place.times l) (take_all c.loop-place.place c.args.streams.now (omega (arith, c.loop-place-test.false))) c.loop-place.invariant.timed
