use Rattle.codec_payload_fec.proofs.GroupLemmas.{chosen_beyond, chosen_other, chosen_yes}
use Rattle.codec_payload_fec.proofs.writing.chosen_at.Goals as goal
use Rattle.codec_payload_fec.proofs.writing.chosen_at.Goals.{else-place-group-via-then-place-group+else-place-count, else-place-group-via-else-place-group}

pub returns-then-place-count : goal.returns-then-place-count
returns-then-place-count c = chosen_yes c.args.group.now c.args.count c.args.n c.args.place _ c.if-place-group.true c.if-place-count.true

pub returns-else-place-group : goal.returns-else-place-group
returns-else-place-group c =
    elim c.else-place-group.branch [
      | else-place-group-via-then-place-group+else-place-count w ↦ chosen_other c.args.group.now c.args.count c.args.n c.args.place w.if-place-group.true w.if-place-count.false
      | else-place-group-via-else-place-group w ↦ chosen_beyond c.args.group.now c.args.count c.args.n c.args.place w.if-place-group.false
    ]
