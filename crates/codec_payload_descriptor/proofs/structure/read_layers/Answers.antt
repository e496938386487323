use Rattle.std.proofs.Common.{◌-◌, ◌∙◌, ◌∷◌, [], length, arith, ap, sym, length-append}
use Rattle.std.proofs.lemmas.Bool.{eq-eqb, ne_eqb}
use Rattle.codec_payload_syntax.specs.FieldReaders.{left}
use Rattle.codec_payload_descriptor.specs.Structures.{layers}
use Rattle.codec_payload_descriptor.proofs.ResultLemmas.{fails_with}
use Rattle.codec_payload_descriptor.proofs.StructureLemmas.{layers_more, layers_last, layers_fault, layers_too_many, layers_too_high}
use Rattle.codec_payload_descriptor.proofs.structure.read_layers.Goals as goal
use Rattle.codec_payload_descriptor.proofs.structure.read_layers.Goals.{then-loop-layer-test+else-is_valid, else-loop-layer-test}

pub returns-in_err-idc : goal.returns-in_err-idc
unfolding layers
returns-in_err-idc c =
    let e = layers_fault 64 c.in_err-idc.field-0.0 c.loop-layer.layers.items c.loop-layer.layer (left c.loop-layer.reader) (omega arith) (sym c.is_valid.ensures ∙ c.if-is_valid.true) c.in_err-idc.ensures.value in
    fails_with _ _ _ _ c.from_residual.ensures (sym c.loop-layer.invariant.same ∙ e)

pub returns-then-idc-eq3 : goal.returns-then-idc-eq3
unfolding layers
returns-then-idc-eq3 c =
    sym c.loop-layer.invariant.same
    ∙ layers_last 64 c.in_ok-idc.idc c.loop-layer.layers.items c.push.new.self.items c.loop-layer.layer (left c.loop-layer.reader) (left c.read_field.new.reader) (omega arith) c.in-Ok.ensures.items (sym c.is_valid.ensures ∙ c.if-is_valid.true) c.in_ok-idc.ensures.value (eq-eqb c.in_ok-idc.idc 3 c.if-idc-eq3.true)

pub loop-layer-preserved : goal.loop-layer-preserved
loop-layer-preserved c =
    record {
      within = omega (arith, ap length c.in-Ok.ensures.items, length-append c.loop-layer.layers.items (c.loop-layer.layer ∷ []));
      same =
          rw c.next-layer.ensures
          (layers_more 64 c.in_ok-idc.idc c.loop-layer.layers.items c.push.new.self.items c.loop-layer.layer (left c.loop-layer.reader) (left c.read_field.new.reader) (omega arith) c.in-Ok.ensures.items (sym c.is_valid.ensures ∙ c.if-is_valid.true) c.in_ok-idc.ensures.value (ne_eqb c.in_ok-idc.idc 3 c.if-idc-eq3.false))
          ∙ c.loop-layer.invariant.same;
    }

pub returns : goal.returns
unfolding layers
returns c =
    sym c.loop-layer.invariant.same
    ∙ elim c.loop-layer-test.branch [
      | then-loop-layer-test+else-is_valid w ↦ layers_too_high (64 - length c.loop-layer.layers.items) c.loop-layer.layers.items c.loop-layer.layer (left c.loop-layer.reader) (sym w.is_valid.ensures ∙ w.if-is_valid.false)
      | else-loop-layer-test w ↦ layers_too_many 64 c.loop-layer.layers.items c.loop-layer.layer (left c.loop-layer.reader) (omega arith)
    ]
