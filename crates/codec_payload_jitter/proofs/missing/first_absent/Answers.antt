use Rattle.std.proofs.Common.{◌≡◌, ◌∙◌, ◌+◌, ◌∷◌, ◌<◌, true, false, sym, ap, arith}
use Rattle.codec_payload_jitter.specs.Missing.{absent_between}
use Rattle.codec_payload_jitter.specs.NoMediaNumbers.{is_in}
use Rattle.codec_payload_jitter.proofs.MissingLemmas.{absent_past, absent_free, absent_over}
use Rattle.codec_payload_jitter.proofs.missing.first_absent.Goals as goal

pub returns-then-free-to-clause-first : goal.returns-then-free-to-clause-first
returns-then-free-to-clause-first g c =
    sym c.loop-number.invariant ∙ absent_past c.held_in_a_row_near.result c.args.packets.now c.loop-number.number c.args.to c.held_in_a_row_near.ensures.held
    (omega (arith, c.if-free-to.true, c.saturating_add-free.ensures, c.ranges.to.fits))

pub returns-then-not-has_no_media-clause-first : goal.returns-then-not-has_no_media-clause-first
returns-then-not-has_no_media-clause-first g c =
    let r = c.args.packets.now in
    let n = c.loop-number.number in
    let k = c.held_in_a_row_near.result in
    let free : n + k ≡ c.saturating_add-free.result = omega (arith, c.if-free-to.false, c.saturating_add-free.ensures, c.ranges.to.fits) in
    let below : n + k < c.args.to = omega (arith, free, c.if-free-to.false) in
    let media : is_in (n + k) r.no_media_numbers ≡ false = ap (λ m. is_in m r.no_media_numbers) free ∙ sym c.has_no_media.ensures ∙ c.if-not-has_no_media.true in
    sym c.loop-number.invariant ∙ absent_free k r n c.args.to c.held_in_a_row_near.ensures.held below c.held_in_a_row_near.ensures.end media
    ∙ ap (λ m. m ∷ absent_between r (m + 1) c.args.to) free

pub loop-number-preserved : goal.loop-number-preserved
loop-number-preserved g c =
    let r = c.args.packets.now in
    let n = c.loop-number.number in
    let k = c.held_in_a_row_near.result in
    let free : n + k ≡ c.saturating_add-free.result = omega (arith, c.if-free-to.false, c.saturating_add-free.ensures, c.ranges.to.fits) in
    let below : n + k < c.args.to = omega (arith, free, c.if-free-to.false) in
    let media : is_in (n + k) r.no_media_numbers ≡ true = ap (λ m. is_in m r.no_media_numbers) free ∙ sym c.has_no_media.ensures ∙ c.if-not-has_no_media.false in
    sym (ap (λ m. absent_between r (m + 1) c.args.to) free) ∙ sym (absent_over k r n c.args.to c.held_in_a_row_near.ensures.held below c.held_in_a_row_near.ensures.end media) ∙ c.loop-number.invariant
