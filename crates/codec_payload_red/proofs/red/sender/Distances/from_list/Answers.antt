use Rattle.std.proofs.Common.{◌<◌, ◌≤◌, ◌∙◌, length, arith, length-set, get_or}
use Rattle.codec_payload_red.proofs.SenderHistoryLemmas.{accepted_few, copied_more}
use Rattle.codec_payload_red.proofs.red.sender.Distances.from_list.Goals as goal

pub loop-i-preserved : goal.loop-i-preserved
loop-i-preserved c =
    let few : length c.args.distances.now ≤ 8 = accepted_few c.args.distances.now c.requires in
    let here : c.loop-i.i < length c.loop-i.list = omega (arith, c.loop-i.invariant.room) in
    record {
      same = copied_more c.loop-i.list c.args.distances.now c.loop-i.i here c.loop-i-test.true c.loop-i.invariant.same;
      room = length-set c.loop-i.list c.loop-i.i (get_or c.args.distances.now c.loop-i.i 0) ∙ c.loop-i.invariant.room;
    }
