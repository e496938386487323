use Rattle.std.proofs.Common.{◌≡◌, ◌≤◌, ◌++◌, arith, length, rules}
use Rattle.codec_payload_session.proofs.PacketLemmas.{writes_last, writes_more}
use Rattle.codec_payload_session.proofs.reporter.write_groups.Goals as goal

pub loop-rest-preserved : goal.loop-rest-preserved
loop-rest-preserved c =
    let is : c.loop-rest.rest.now ≡ c.split_at.result.0.now ++ c.split_at.result.1.now = search rules in
    let long : length c.split_at.result.0.now ≡ 744 = search rules in
    let some : 1 ≤ length c.split_at.result.1.now = omega arith in
    writes_more c.args.ssrc c.args.blocks.now c.split_at.result.0.now c.loop-rest.rest.now c.split_at.result.1.now c.args.out.now.items c.loop-rest.out.items c.write_group.new.out.items
    c.loop-rest.invariant is long some c.in_ok-write_group.ensures

pub returns : goal.returns
returns c =
    writes_last c.write_group-2.result c.args.ssrc c.args.blocks.now c.loop-rest.rest.now c.args.out.now.items c.loop-rest.out.items c.write_group-2.new.out.items
    c.loop-rest.invariant c.loop-rest-test.false c.write_group-2.ensures
