use Rattle.std.proofs.Common.{arith, ◌≤◌}
use Rattle.codec_payload_base.specs.Bits.{left}
use Rattle.codec_payload_audio.proofs.AmrWbEntryLemmas.{reads_six, reads_eight, entries_short6, entries_short8}
use Rattle.codec_payload_audio.proofs.amr_wb.receive.read_entry.Goals as goal

pub returns-in_err-bits-clause-read : goal.returns-in_err-bits-clause-read
returns-in_err-bits-clause-read c =
    let most : 8 ≤ 8 = omega arith in
    rw (c.if-octet_align.true, c.from_residual.ensures) (entries_short8 (left c.args.reader.now) (c.in_err-bits.ensures.few most).0)

pub returns-in_err-bits-2-clause-read : goal.returns-in_err-bits-2-clause-read
returns-in_err-bits-2-clause-read c =
    let most : 6 ≤ 8 = omega arith in
    rw (c.if-octet_align.false, c.from_residual-in_err-bits-2.ensures) (entries_short6 (left c.args.reader.now) (c.in_err-bits-2.ensures.few most).0)

pub returns-in_ok-bits-clause-read : goal.returns-in_ok-bits-clause-read
returns-in_ok-bits-clause-read c =
    let most : 8 ≤ 8 = omega arith in
    rw c.if-octet_align.true (reads_eight c.args.reader.now c.get_bits.new.self c.in_ok-bits.bits c.from_bits.result
    (c.in_ok-bits.ensures.few most) c.from_bits.ensures.follows c.from_bits.ensures.frame_type c.from_bits.ensures.quality)

pub returns-in_ok-bits-2-clause-read : goal.returns-in_ok-bits-2-clause-read
returns-in_ok-bits-2-clause-read c =
    let most : 6 ≤ 8 = omega arith in
    let f = c.from_bits-else-octet_align.ensures in
    rw c.if-octet_align.false (reads_six c.args.reader.now c.get_bits-else-octet_align.new.self c.in_ok-bits-2.bits c.from_bits-else-octet_align.result
    (c.in_ok-bits-2.ensures.few most) f.follows f.frame_type f.quality)
