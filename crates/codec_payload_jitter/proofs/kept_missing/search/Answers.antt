use Rattle.std.proofs.Common.{arith, ◌+◌}
use Rattle.codec_payload_jitter.specs.Missing.{absent_between}
use Rattle.codec_payload_jitter.proofs.KeptLemmas.{first_above}
use Rattle.codec_payload_jitter.proofs.kept_missing.search.Goals as goal

pub loop-number-smaller : goal.loop-number-smaller
loop-number-smaller g c =
    let r = c.args.packets.now in
    let n = c.in-Some.number in
    let le = first_above r.buffer.held r.no_media_numbers c.loop-number.next c.args.to n (absent_between r (n + 1) c.args.to) c.in-Some.ensures.first in
    omega (arith, le, c.in-Some.ensures.within)
