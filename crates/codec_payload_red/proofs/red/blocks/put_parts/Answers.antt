use Rattle.std.proofs.Common.{◌≡◌, true, false, arith, rules}
use Rattle.codec_payload_red.specs.RedPayload.{fits}
use Rattle.codec_payload_red.specs.RedBlocks.{redundant_of, part_of}
use Rattle.codec_payload_red.proofs.EncoderLoopLemmas.{kept_one, kept_none}
use Rattle.codec_payload_red.proofs.red.blocks.put_parts.Goals as goal
use Rattle.codec_payload_red.proofs.red.blocks.put_parts.Goals.{then-left-gt0+then-fits+in_ok-put_part, else-left-gt0, else-left-gt0-via-then-left-gt0+else-fits, else-left-gt0-via-else-left-gt0}

pub loop-block-preserved : goal.loop-block-preserved
loop-block-preserved c =
    elim c.if-left-gt0.branch [
      | then-left-gt0+then-fits+in_ok-put_part w ↦
          let fit : fits (redundant_of c.block-item.result) ≡ true = search rules in
          rw (w.out-is, w.left-is, w.in_ok-put_part.ensures, w.deref.ensures.value)
          (kept_one (part_of c.args.part) c.loop-block.out.items _ c.loop-block.left c.args.redundant.now c.loop-block.block-index c.block-item.result
          c.block-item.is c.loop-block-test.true fit w.if-left-gt0.true c.loop-block.invariant)
      | else-left-gt0 w ↦
          elim w.else-left-gt0.branch [
            | else-left-gt0-via-then-left-gt0+else-fits w' ↦
                let unfit : fits (redundant_of c.block-item.result) ≡ false = search rules in
                rw (w.out-is, w.left-is) (kept_none (part_of c.args.part) c.loop-block.out.items _ c.loop-block.left c.args.redundant.now c.loop-block.block-index c.block-item.result c.block-item.is c.loop-block-test.true unfit c.loop-block.invariant)
            | else-left-gt0-via-else-left-gt0 w' ↦
                let out : c.loop-block.left ≡ 0 = omega arith in
                rw (w.out-is, w.left-is, out) (rw out at c.loop-block.invariant)
          ]
    ]
