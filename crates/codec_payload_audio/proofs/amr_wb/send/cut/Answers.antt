use Rattle.std.proofs.Common.{arith, ◌≡◌, ℕ, ◌+◌, ◌-◌, ◌/◌, ◌%◌, ◌∙◌, ap, min, refl, get_or, set, take}
use Rattle.std.proofs.Math.Seq.{take-set-lt}
use Rattle.codec_payload_base.specs.Bits.{bits_of}
use Rattle.codec_payload_audio.proofs.AmrWbCopyLemmas.{cut_items}
use Rattle.codec_payload_audio.proofs.amr_wb.send.cut.Goals as goal

pub returns-clause-cut : goal.returns-clause-cut
returns-clause-cut c =
    let n = c.args.count in
    let items = c.args.bytes.now in
    let m = c.div_ceil-size.result in
    let k = m - 1 in
    let up : m ≡ n / 8 + min 1 (n % 8) = c.div_ceil-size.ensures in
    let last : m ≡ k + 1 = omega (arith, up, c.requires.some) in
    let b : ℕ = get_or items k 0 in
    let v : ℕ = c.without_low.result in
    ap bits_of (take-set-lt m items k v (omega (arith, last)) ∙ ap (set (take m items) k) c.without_low.ensures)
    ∙ cut_items items n m k b ((8 - n % 8) % 8) c.requires.some (omega (arith, c.requires.within)) last (omega (arith, last, up, c.requires.some)) (omega (arith, up)) refl refl
