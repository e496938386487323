use Rattle.std.proofs.Common.{refl}
use Rattle.codec_payload_core.specs.Release.{AreValues, merged}
use Rattle.codec_payload_handle.proofs.unit.values_of_packets.Goals as goal

pub returns : goal.returns
returns c =
    let first = c.first_of-first.result.now in
    let last = c.last_of-last.result.now in
    let are : AreValues c.args.metas.now (merged first.header.ext_vals last.header.ext_vals) = record {
      first = first;
      last = last;
      begins = c.first_of-first.ensures;
      ends = c.last_of-last.ensures;
      are = refl;
    } in
    (merged first.header.ext_vals last.header.ext_vals, are, c.values_between.ensures)
