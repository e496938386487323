use Rattle.std.proofs.Common.{◌≡◌, ◌<◌, drop, length}
use Rattle.codec_payload_bandwidth_layers.specs.Choices.{choice_of, highest}
use Rattle.codec_payload_bandwidth_layers.proofs.chooser.choose.Given as goal

abbrev pub invariant-loop-index : goal.invariant-loop-index
invariant-loop-index l = record {
  value : highest l.current l.carries l.index l.best (drop l.index l.choices) ≡ choice_of l.current l.carries l.choices;
  within : 0 < length l.choices → l.best < length l.choices;
}
