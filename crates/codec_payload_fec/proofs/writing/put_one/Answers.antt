use Rattle.std.proofs.Common.{◌<◌, length, arith}
use Rattle.codec_payload_fec.specs.FecReading.{fec_of}
use Rattle.codec_payload_fec.specs.Sums.{sum_of}
use Rattle.codec_payload_fec.specs.Writing.{fec_for, lists_of}
use Rattle.codec_payload_fec.proofs.GroupLemmas.{mask_bound}
use Rattle.codec_payload_fec.proofs.PutLemmas.{fec_is, fits_for, on_ok_same}
use Rattle.codec_payload_fec.proofs.writing.put_one.Goals as goal

pub fec_with-fec-requires : goal.fec_with-fec-requires
fec_with-fec-requires c = omega (arith, c.mask_of-mask.ensures, mask_bound 48 (length c.args.group.now) c.args.count c.args.n (omega arith))

pub put_fec-requires : goal.put_fec-requires
put_fec-requires c =
    let some : 0 < length c.args.group.now = omega (arith, c.requires.here, c.requires.fewer) in
    fits_for c.args.group.now c.args.count c.args.n (fec_of c.fec_with-fec.result) c.requires.here c.requires.fewer c.requires.few c.requires.short
    (fec_is c.args.group.now _ c.args.count c.args.n c.number_of-base.result c.mask_of-mask.result (sum_of c.in_ok-sum.sum) (fec_of c.fec_with-fec.result) some c.number_of-base.ensures c.mask_of-mask.ensures c.in_ok-sum.ensures c.fec_with-fec.ensures)

pub returns-clause-ok : goal.returns-clause-ok
returns-clause-ok c =
    let some : 0 < length c.args.group.now = omega (arith, c.requires.here, c.requires.fewer) in
    on_ok_same c.put_fec.result c.put_fec.new.out.payloads c.args.out.now.payloads (fec_of c.fec_with-fec.result) (fec_for c.args.count c.args.n (lists_of c.args.group.now))
    (fec_is c.args.group.now _ c.args.count c.args.n c.number_of-base.result c.mask_of-mask.result (sum_of c.in_ok-sum.sum) (fec_of c.fec_with-fec.result) some c.number_of-base.ensures c.mask_of-mask.ensures c.in_ok-sum.ensures c.fec_with-fec.ensures)
    c.put_fec.ensures.ok
