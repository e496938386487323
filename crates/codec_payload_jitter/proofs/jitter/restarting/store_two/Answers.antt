use Rattle.std.proofs.Common.{refl}
use Rattle.codec_payload_buffer.specs.Steps.{State, arrived_by, pushed}
use Rattle.codec_payload_jitter.specs.Receiving.{arrival_of}
use Rattle.codec_payload_jitter.proofs.OwnLemmas.{stores_pushed, stores_then}
use Rattle.codec_payload_jitter.proofs.RestartingLemmas.{taken_both}
use Rattle.codec_payload_jitter.proofs.jitter.restarting.store_two.Goals as goal

pub returns-clause-takes : goal.returns-clause-takes
returns-clause-takes g c =
    rw (c.outcome_of.ensures, c.outcome_of-2.ensures) (taken_both c.args.clock_rate (arrival_of c.args.first.0) c.args.first.1 (arrival_of c.args.second.0) c.args.second.1 c.args.buffer.now c.store_two.new.self
    c.incoming.result c.incoming-2.result c.in_ok-places.places c.incoming.ensures.meta c.incoming.ensures.payload c.incoming-2.ensures.meta c.incoming-2.ensures.payload c.in_ok-places.ensures.ok)

pub returns-clause-own : goal.returns-clause-own
returns-clause-own g c = λ other.
    let both = c.in_ok-places.ensures.own other in
    let first = arrived_by (g.B.Depacketizer.is_head both.0) (g.B.Depacketizer.is_tail both.0) c.incoming.result.meta c.incoming.result.payload.items in
    let mid : State = pushed c.args.buffer.now first in
    stores_then _ _ c.args.buffer.now mid c.store_two.new.self (stores_pushed _ _ c.args.buffer.now mid both.0 _ _ refl)
    (stores_pushed _ _ mid c.store_two.new.self both.0 _ _ both.1)
