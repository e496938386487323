use Rattle.std.proofs.Common.{arith, ◌≡◌, ◌*◌, ◌%◌, ◌≤◌, ◌++◌, length, ◌∙◌, ap}
use Rattle.std.proofs.lemmas.Grind.{common_steps}
use Rattle.codec_payload_base.specs.Bits.{bits_of, here}
use Rattle.codec_payload_base.proofs.BitLemmas.{bits_of-append}
use Rattle.codec_payload_audio.proofs.ShiftLemmas.{left_here, whole_here, there_here}
use Rattle.codec_payload_audio.proofs.amr_wb.receive.copy_bytes.Goals as goal
use Rattle.codec_payload_audio.proofs.amr_wb.receive.copy_bytes.Goals.{then-shift-eq0+in_ok-extend_from_slice, else-shift-eq0+in_ok-append_shifted}

pub append_shifted-requires-clause-there : goal.append_shifted-requires-clause-there
append_shifted-requires-clause-there c =
    let lent = rw c.in_ok-whole.ensures.ok_part at c.get_bytes.ensures in
    rw (c.ahead-bytes.ensures, c.bits_behind_byte-shift.ensures) (there_here c.args.reader.now c.args.count lent.0)

pub returns-clause-copied : goal.returns-clause-copied
returns-clause-copied c =
    let r = c.args.reader.now in
    let n = c.args.count in
    let out = c.args.out.now.items in
    let lent = rw c.in_ok-whole.ensures.ok_part at c.get_bytes.ensures in
    let there : 8 * n ≤ 8 * length (here r) = omega (arith, there_here r n lent.0) in
    let some : n ≤ length (here r) = omega (arith, there) in
    elim c.if-shift-eq0.branch [
      | then-shift-eq0+in_ok-extend_from_slice w ↦
          let whole : r.place % 8 ≡ 0 = omega (arith, c.bits_behind_byte-shift.ensures, w.if-shift-eq0.true) in
          let items : w.extend_from_slice.new.self.items ≡ out ++ c.in_ok-whole.whole.now = grind (arith, common_steps) in
          rw w.out-is (ap bits_of items ∙ bits_of-append out c.in_ok-whole.whole.now ∙ ap (λ t. bits_of out ++ t) (ap bits_of lent.1 ∙ whole_here r n whole some))
      | else-shift-eq0+in_ok-append_shifted w ↦
          rw w.out-is (rw (c.ahead-bytes.ensures, c.bits_behind_byte-shift.ensures, ← left_here r) at w.in_ok-append_shifted.ensures.copied)
    ]
