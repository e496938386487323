use Rattle.std.proofs.Common.{rules, ◌∙◌}
use Rattle.codec_payload_av1.specs.Av1Obu.{view}
use Rattle.codec_payload_av1.proofs.Av1ReadingObus.{first_kept, first_dropped, none_first, shorter}
use Rattle.codec_payload_av1.proofs.av1.packer.starts_with_sequence.Goals as goal

pub returns-then-is_kept : goal.returns-then-is_kept
returns-then-is_kept c = λ os whole. first_kept c.loop-obu.rest.now c.in-Some.after.now (view c.in-Some.obu) os c.in-Some.ensures (search rules) (c.loop-obu.invariant ∙ whole)

pub loop-obu-smaller : goal.loop-obu-smaller
loop-obu-smaller c = shorter c.loop-obu.rest.now c.in-Some.after.now (view c.in-Some.obu) c.in-Some.ensures

pub loop-obu-preserved : goal.loop-obu-preserved
loop-obu-preserved c = first_dropped c.loop-obu.rest.now c.in-Some.after.now (view c.in-Some.obu) c.in-Some.ensures (search rules) ∙ c.loop-obu.invariant

pub returns : goal.returns
returns c = λ os whole. none_first c.loop-obu.rest.now os c.in_default.ensures (c.loop-obu.invariant ∙ whole)
