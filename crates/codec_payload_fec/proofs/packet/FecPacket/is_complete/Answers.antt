use Rattle.std.proofs.Common.{◌≡◌, ℕ, List, None, ◌∙◌, sym, ap, arith}
use Rattle.codec_payload_fec.specs.Fec.{numbers_in}
use Rattle.codec_payload_fec.specs.FecReading.{fec_of}
use Rattle.codec_payload_fec.specs.Rebuilding.{are_none, found_in, missing_of}
use Rattle.codec_payload_fec.proofs.RebuildLemmas.{missing_more, missing_some, numbers_are, numbers_none}
use Rattle.codec_payload_fec.proofs.packet.FecPacket.is_complete.Goals as goal

pub loop-place-init : goal.loop-place-init
loop-place-init c = ap (missing_of (found_in c.args.store.now.slots)) (sym (numbers_none c.mask_bits-mask.result c.args.self.now.base))

pub returns-in-Some : goal.returns-in-Some
returns-in-Some c =
    sym (missing_some (found_in c.args.store.now.slots) c.loop-place.place c.mask_bits-mask.result c.args.self.now.base c.in-Some._missing c.loop-place-test.true c.loop-place.invariant c.in-Some.ensures)
    ∙ ap (λ (m : ℕ). are_none (missing_of (found_in c.args.store.now.slots) (numbers_in 48 m c.args.self.now.base))) c.mask_bits-mask.ensures
    ∙ ap (λ (ns : List ℕ). are_none (missing_of (found_in c.args.store.now.slots) ns)) (sym (numbers_are (fec_of c.args.self.now)))

pub loop-place-preserved : goal.loop-place-preserved
loop-place-preserved c =
    missing_more (found_in c.args.store.now.slots) c.loop-place.place c.mask_bits-mask.result c.args.self.now.base None None c.loop-place.invariant c.in_default.ensures

pub returns : goal.returns
returns c =
    let all : c.loop-place.place ≡ 48 = omega arith in
    ap are_none c.loop-place.invariant
    ∙ ap (λ (n : ℕ). are_none (missing_of (found_in c.args.store.now.slots) (numbers_in n c.mask_bits-mask.result c.args.self.now.base))) all
    ∙ ap (λ (m : ℕ). are_none (missing_of (found_in c.args.store.now.slots) (numbers_in 48 m c.args.self.now.base))) c.mask_bits-mask.ensures
    ∙ ap (λ (ns : List ℕ). are_none (missing_of (found_in c.args.store.now.slots) ns)) (sym (numbers_are (fec_of c.args.self.now)))
