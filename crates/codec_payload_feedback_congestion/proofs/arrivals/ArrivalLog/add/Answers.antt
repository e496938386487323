use Rattle.std.proofs.Common.{◌≡◌, arith, rules}
use Rattle.codec_payload_feedback_congestion.specs.Arrivals.{Log}
use Rattle.codec_payload_feedback_congestion.proofs.ArrivalLemmas.{is_windowed}
use Rattle.codec_payload_feedback_congestion.proofs.arrivals.ArrivalLog.add.Goals as goal

pub invariant_of-self-2 : goal.invariant_of-self-2
invariant_of-self-2 c =
    let l : Log = record { window = c.self.inside.window; start = c.self.inside.start; slots = c.self.inside.slots; reported = c.self.inside.reported } in
    is_windowed l c.args.gap c.args.time c.saturating_sub-excess.result c.append.new.self c.drop_front.new.self c.saturating_sub-self-inside.result _ c.self.invariant (omega arith)
    c.in_ok-append.ensures.ok (omega arith) c.drop_front.ensures (omega arith)
