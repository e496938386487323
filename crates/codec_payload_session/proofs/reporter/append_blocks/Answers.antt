use Rattle.std.proofs.Common.{◌∙◌, ℕ, ap, sym}
use Rattle.std.specs.Global.{Vec}
use Rattle.codec_payload_session.proofs.ReporterLemmas.{block_more, block_none}
use Rattle.codec_payload_session.proofs.reporter.append_blocks.Goals.{then-is_chosen+in_ok-append_block, else-is_chosen}
use Rattle.codec_payload_session.proofs.reporter.append_blocks.Goals as goal

pub loop-place-preserved : goal.loop-place-preserved
loop-place-preserved c = elim c.if-is_chosen.branch [
  | then-is_chosen+in_ok-append_block w ↦
      block_more c.args.round.is_new c.loop-place.room c.if-is_chosen.room c.args.tick_rate c.args.now.0 c.args.streams.now c.loop-place.place w.index-streams-place.result c.loop-place.blocks.items c.if-is_chosen.blocks.items c.loop-place-test.true
      w.index-streams-place.is (sym c.is_chosen.ensures ∙ w.if-is_chosen.true) (w.room-is ∙ w.saturating_sub-room.ensures) (ap (λ (v : Vec ℕ). v.items) w.blocks-is ∙ w.in_ok-append_block.ensures) ∙ c.loop-place.invariant
  | else-is_chosen w ↦
      block_none c.args.round.is_new c.loop-place.room c.if-is_chosen.room c.args.tick_rate c.args.now.0 c.args.streams.now c.loop-place.place c.loop-place.blocks.items c.if-is_chosen.blocks.items c.loop-place-test.true
      (sym c.is_chosen.ensures ∙ w.if-is_chosen.false) w.room-is (ap (λ (v : Vec ℕ). v.items) w.blocks-is) ∙ c.loop-place.invariant
]
