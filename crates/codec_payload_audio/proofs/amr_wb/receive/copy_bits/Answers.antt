use Rattle.std.proofs.Common.{arith, ◌≡◌, ◌+◌, ◌*◌, ◌/◌, ◌%◌}
use Rattle.codec_payload_audio.proofs.AmrWbReadLemmas.{copied_both}
use Rattle.codec_payload_audio.proofs.amr_wb.receive.copy_bits.Goals as goal

pub returns-clause-copied : goal.returns-clause-copied
returns-clause-copied c =
    let whole : c.args.count ≡ 8 * (c.args.count / 8) + c.args.count % 8 = omega arith in
    copied_both c.args.reader.now c.copy_bytes.new.reader c.args.out.now.items c.copy_bytes.new.out.items c.copy_rest.new.out.items (c.args.count / 8) (c.args.count % 8) c.args.count whole
    c.in_ok-copy_bytes.ensures.place.1 c.in_ok-copy_bytes.ensures.place.0 c.in_ok-copy_bytes.ensures.copied c.in_ok-copy_rest.ensures.copied
