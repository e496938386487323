use Rattle.std.proofs.Common.{◌≡◌, ℕ, List, Some, None, ◌∙◌, sym, ap, arith}
use Rattle.codec_payload_fec.specs.Fec.{numbers_in}
use Rattle.codec_payload_fec.specs.FecReading.{fec_of}
use Rattle.codec_payload_fec.specs.Rebuilding.{found_in, found_of}
use Rattle.codec_payload_fec.specs.Strings.{added_all}
use Rattle.codec_payload_fec.specs.Sums.{sum_of}
use Rattle.codec_payload_fec.proofs.RebuildLemmas.{added_more, numbers_are, numbers_none}
use Rattle.codec_payload_fec.proofs.packet.FecPacket.sum_with.Goals as goal
use Rattle.codec_payload_fec.proofs.packet.FecPacket.sum_with.Goals.{in-Some, in_default}

pub loop-place-init : goal.loop-place-init
loop-place-init c =
    c.in_ok-sum.ensures ∙ ap (λ (ns : List ℕ). added_all (found_of (found_in c.args.store.now.slots) ns) (fec_of c.args.self.now).recovery) (sym (numbers_none c.mask_bits-mask.result c.args.self.now.base))

pub loop-place-preserved : goal.loop-place-preserved
loop-place-preserved c =
    let more = added_more (found_in c.args.store.now.slots) c.loop-place.place c.mask_bits-mask.result c.args.self.now.base in
    elim c.match-found_at.branch [
      | in-Some w ↦ ap sum_of w.sum-is ∙ w.add.ensures ∙ more (Some w.in-Some.packet.now) (fec_of c.args.self.now).recovery (sum_of c.loop-place.sum) c.loop-place.invariant w.in-Some.ensures
      | in_default w ↦ ap sum_of w.sum-is ∙ more None (fec_of c.args.self.now).recovery (sum_of c.loop-place.sum) c.loop-place.invariant w.in_default.ensures
    ]

pub returns : goal.returns
returns c =
    let all : c.loop-place.place ≡ 48 = omega arith in
    c.loop-place.invariant
    ∙ ap (λ (n : ℕ). added_all (found_of (found_in c.args.store.now.slots) (numbers_in n c.mask_bits-mask.result c.args.self.now.base)) (fec_of c.args.self.now).recovery) all
    ∙ ap (λ (m : ℕ). added_all (found_of (found_in c.args.store.now.slots) (numbers_in 48 m c.args.self.now.base)) (fec_of c.args.self.now).recovery) c.mask_bits-mask.ensures
    ∙ ap (λ (ns : List ℕ). added_all (found_of (found_in c.args.store.now.slots) ns) (fec_of c.args.self.now).recovery) (sym (numbers_are (fec_of c.args.self.now)))
