use Rattle.std.proofs.Common.{◌≡◌, ◌-◌, ◌≤◌, length}
use Rattle.codec_payload_syntax.specs.FieldReaders.{left}
use Rattle.codec_payload_descriptor.specs.Structures.{first_layer, layers_from}
use Rattle.codec_payload_descriptor.specs.Syntax.{read}
use Rattle.codec_payload_syntax.proofs.RepeatLemmas.{after}
use Rattle.codec_payload_descriptor.proofs.structure.read_layers.Given as goal

-- the layers so far, and those that are left
abbrev pub invariant-loop-layer : goal.invariant-loop-layer
invariant-loop-layer l = record {
  within : length l.layers.items ≤ 64;
  same : after l.layers.items (read (layers_from (64 - length l.layers.items) l.layer) (left l.reader)) ≡ read (layers_from 64 first_layer) (left l.fn.reader);
}

abbrev pub decreases-loop-layer : goal.decreases-loop-layer
decreases-loop-layer l = 64 - length l.layers.items
