use Rattle.std.proofs.Common.{◌≡◌, ℕ, List, Some, None, ◌∙◌, sym, ap, arith}
use Rattle.std.proofs.lemmas.List.{append-nil}
use Rattle.std.specs.Prelude.{option_to_list}
use Rattle.codec_payload_fec.specs.Fec.{numbers_in}
use Rattle.codec_payload_fec.specs.FecReading.{fec_of}
use Rattle.codec_payload_fec.specs.Rebuilding.{found_in, missing_of, only}
use Rattle.codec_payload_fec.proofs.RebuildLemmas.{missing_more, missing_once, missing_twice, numbers_are, numbers_none, only_list}
use Rattle.codec_payload_fec.proofs.packet.FecPacket.only_missing.Goals as goal
use Rattle.codec_payload_fec.proofs.packet.FecPacket.only_missing.Goals.{in-Some+else-is_some, in_default}

pub loop-place-init : goal.loop-place-init
loop-place-init c = ap (missing_of (found_in c.args.store.now.slots)) (sym (numbers_none c.mask_bits-mask.result c.args.self.now.base))

pub returns-then-is_some : goal.returns-then-is_some
returns-then-is_some c =
    missing_twice (found_in c.args.store.now.slots) c.loop-place.place c.mask_bits-mask.result c.args.self.now.base c.loop-place.missing c.in-Some.number
    (sym c.is_some.ensures ∙ c.if-is_some.true) c.loop-place-test.true c.loop-place.invariant c.in-Some.ensures
    ∙ ap (λ (m : ℕ). only (missing_of (found_in c.args.store.now.slots) (numbers_in 48 m c.args.self.now.base))) c.mask_bits-mask.ensures
    ∙ ap (λ (ns : List ℕ). only (missing_of (found_in c.args.store.now.slots) ns)) (sym (numbers_are (fec_of c.args.self.now)))

pub loop-place-preserved : goal.loop-place-preserved
loop-place-preserved c =
    let more = missing_more (found_in c.args.store.now.slots) c.loop-place.place c.mask_bits-mask.result c.args.self.now.base c.loop-place.missing in
    elim c.match-missing_at.branch [
      | in-Some+else-is_some w ↦
          ap option_to_list w.missing-is ∙ missing_once c.loop-place.missing w.in-Some.number (sym w.is_some.ensures ∙ w.if-is_some.false) ∙ more (Some w.in-Some.number) c.loop-place.invariant w.in-Some.ensures
      | in_default w ↦ ap option_to_list w.missing-is ∙ sym (append-nil (option_to_list c.loop-place.missing)) ∙ more None c.loop-place.invariant w.in_default.ensures
    ]

pub returns : goal.returns
returns c =
    let all : c.loop-place.place ≡ 48 = omega arith in
    sym (only_list c.loop-place.missing) ∙ ap only c.loop-place.invariant
    ∙ ap (λ (n : ℕ). only (missing_of (found_in c.args.store.now.slots) (numbers_in n c.mask_bits-mask.result c.args.self.now.base))) all
    ∙ ap (λ (m : ℕ). only (missing_of (found_in c.args.store.now.slots) (numbers_in 48 m c.args.self.now.base))) c.mask_bits-mask.ensures
    ∙ ap (λ (ns : List ℕ). only (missing_of (found_in c.args.store.now.slots) ns)) (sym (numbers_are (fec_of c.args.self.now)))
