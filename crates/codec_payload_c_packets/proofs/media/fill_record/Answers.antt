use Rattle.std.proofs.Common.{sym, arith}
use Rattle.codec_payload_c_packets.proofs.RecordLemmas.{too_few, stays, written}
use Rattle.codec_payload_c_packets.proofs.media.fill_record.Goals as goal

pub returns-then-bytes-obu-clause-enough : goal.returns-then-bytes-obu-clause-enough
returns-then-bytes-obu-clause-enough c = sym (too_few c.args.header.now c.args.obu.now c.args.bytes.now (omega (arith, c.if-bytes-obu.true)))

pub returns-then-bytes-obu-clause-written : goal.returns-then-bytes-obu-clause-written
returns-then-bytes-obu-clause-written c = stays c.args.header.now c.args.obu.now c.args.bytes.now (omega (arith, c.if-bytes-obu.true))

pub returns-clause-written : goal.returns-clause-written
returns-clause-written c =
    rw (c.copy_from_slice.ensures.after, c.copy_from_slice-2.ensures.after, c.split_at_mut-front.ensures.back, c.av1c_front.ensures)
    (written c.args.header.now c.args.obu.now c.args.bytes.now (omega (arith, c.if-bytes-obu.false)))
