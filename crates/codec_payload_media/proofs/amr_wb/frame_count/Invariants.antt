use Rattle.std.proofs.Common.{◌≡◌, ◌+◌, ◌≤◌, length}
use Rattle.codec_payload_media.specs.AmrWbFrames.{frame_at}
use Rattle.codec_payload_media.specs.Items.{count_of, items_at}
use Rattle.codec_payload_media.proofs.AmrWbLemmas.{frame_shorter}
use Rattle.codec_payload_media.proofs.ItemLemmas.{counted}
use Rattle.codec_payload_media.proofs.amr_wb.frame_count.Given as goal

abbrev pub invariant-loop-rest : goal.invariant-loop-rest
invariant-loop-rest l = record {
  within : l.count + length l.rest ≤ length l.unit;
  same : counted frame_at frame_shorter l.count (count_of (items_at frame_at l.rest)) ≡ count_of (items_at frame_at l.unit);
}

abbrev pub decreases-loop-rest : goal.decreases-loop-rest
decreases-loop-rest l = length l.rest
