use Rattle.std.proofs.Common.{arith, ◌≤◌}
use Rattle.codec_payload_audio.proofs.AmrWbReadLemmas.{copied_rest, rest_place}
use Rattle.codec_payload_audio.proofs.amr_wb.receive.copy_rest.Goals as goal

pub returns-clause-copied : goal.returns-clause-copied
returns-clause-copied c =
    let few : c.args.count ≤ 8 = omega arith in
    rw c.in_ok-push.ensures.items
    (copied_rest c.args.reader.now c.get_bits.new.self c.args.out.now.items c.args.count c.in_ok-bits.bits (omega arith) c.requires (rw c.in_ok-bits.ensures.ok_part at (c.get_bits.ensures.few few)))

pub returns-clause-place : goal.returns-clause-place
returns-clause-place c =
    let few : c.args.count ≤ 8 = omega arith in
    rest_place c.args.reader.now c.get_bits.new.self c.args.count c.in_ok-bits.bits (rw c.in_ok-bits.ensures.ok_part at (c.get_bits.ensures.few few))
