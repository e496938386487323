use Rattle.std.proofs.Common.{◌≡◌, ◌≤◌, length}
use Rattle.codec_payload_media.specs.Av1TemporalUnits.{empty_unit, unit_from}
use Rattle.codec_payload_media.specs.Av1Units.{obu_at}
use Rattle.codec_payload_media.specs.Items.{items_at}
use Rattle.codec_payload_media.proofs.av1.temporal_unit.Av1TemporalUnit.parse.Given as goal

abbrev pub invariant-loop-rest : goal.invariant-loop-rest
invariant-loop-rest l = record {
  within : length l.rest ≤ length l.unit;
  same : unit_from (items_at obu_at l.rest) l.told ≡ unit_from (items_at obu_at l.unit) empty_unit;
}

abbrev pub decreases-loop-rest : goal.decreases-loop-rest
decreases-loop-rest l = length l.rest
