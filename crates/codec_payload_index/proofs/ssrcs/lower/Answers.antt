use Rattle.std.proofs.Common.{◌∙◌, ◌<◌, length, arith, ap}
use Rattle.codec_payload_index.specs.Ssrcs.{lowered}
use Rattle.codec_payload_index.proofs.EntryLemmas.{preserved}
use Rattle.codec_payload_index.proofs.ssrcs.lower.Goals as goal

pub loop-at-preserved : goal.loop-at-preserved
loop-at-preserved c =
    let within : c.loop-at.at < length c.args.entries.now.items = omega (arith, c.loop-at-test.true, c.len-at-end.ensures, c.args.entries.now.ok.0) in
    preserved (lowered c.args.place) c.args.entries.now.items c.loop-at.entries.items c.loop-at.at c.index.result.now c.lowered.result
    within c.loop-at.invariant (c.lowered.ensures ∙ ap (lowered c.args.place) c.index.ensures)
