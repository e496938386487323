use Rattle.std.proofs.Common.{◌∙◌, ◌<◌, ◌+◌, ◌%◌, ℕ, arith, drop, length}
use Rattle.std.proofs.lemmas.Grind.{common_steps}
use Rattle.codec_payload_c_packets.specs.Congestion.{arrivals_from}
use Rattle.codec_payload_c_packets.proofs.ArrivalPlaces.{put_next, rest_next}
use Rattle.codec_payload_c_packets.proofs.congestion.put_arrivals.Goals as goal

pub loop-status-preserved : goal.loop-status-preserved
loop-status-preserved c =
    let place : ℕ = c.loop-status.place in
    let within : place < length c.loop-status.packets = omega (arith, c.loop-status.invariant.place, c.loop-status.invariant.len, c.loop-status-test.true, c.requires) in
    record {
      place = omega (arith, c.loop-status.invariant.place);
      len = grind (arith, common_steps);
      put = put_next c.loop-status.packets place c.arrival_of.result (arrivals_from ((c.loop-status.number + 1) % 65536) (drop (c.loop-status.status-index + 1) c.args.statuses.now)) within
          ∙ grind (arith, common_steps);
      rest = rest_next c.loop-status.packets place c.arrival_of.result ∙ grind (arith, common_steps);
    }

pub returns : goal.returns
returns c = grind (arith, common_steps)
