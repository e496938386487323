use Rattle.std.proofs.Common.{arith, ◌≡◌, ◌+◌, ◌*◌, ◌/◌, ◌%◌, ◌<◌, ◌≤◌, length, get_or, ap}
use Rattle.std.proofs.lemmas.Grind.{common_steps}
use Rattle.codec_payload_base.proofs.BitLemmas.{window_value, reads_none}
use Rattle.codec_payload_base.proofs.bits.BitReaderBitRead.get_bits.Goals as goal
use Rattle.codec_payload_base.proofs.bits.BitReaderBitRead.get_bits.Goals.{then-bytes-lt2-2, else-bytes-lt2-2}

pub returns-clause-few : goal.returns-clause-few
returns-clause-few c = λ few.
    let bs = c.self.inside.source.now in
    let i = c.self.inside.byte in
    let s = c.self.inside.bit in
    let within : 8 * i + s + c.args.count ≤ 8 * length bs = search arith in
    let low : c.from-2.result ≡ get_or bs (i + 1) 0 = grind (arith, common_steps) in
    let small : c.from-2.result < 256 = elim c.if-bytes-lt2-2.branch [ then-bytes-lt2-2 w ↦ omega (arith, c.from-2.ensures, w.low-is) | else-bytes-lt2-2 w ↦ omega (arith, c.from-2.ensures, w.low-is) ] in
    let place : 8 * (i + (s + c.args.count) / 8) + (s + c.args.count) % 8 ≡ 8 * i + s + c.args.count = omega arith in
    let window = window_value bs i s c.args.count c.from.result c.from-2.result c.from.ensures low (omega arith) small (omega arith) few within in
    rw (← c.self.view_is) (window.fits, rw place window.front, ap (λ p. record { bytes = bs; place = p }) place)

pub returns-then-count-eq0-clause-few : goal.returns-then-count-eq0-clause-few
returns-then-count-eq0-clause-few c = λ few.
    rw c.if-count-eq0.true (reads_none c.args.self.now)
