use Rattle.std.proofs.Common.{◌<◌, ◌∙◌, ap, sym, length, arith, rules}
use Rattle.std.proofs.lemmas.Grind.{common_steps}
use Rattle.codec_payload_vp9.proofs.NamedFaultLemmas.{cleared_some, with_structure_is}
use Rattle.codec_payload_vp9.specs.Vp9Fields.{fields_of, Fields}
use Rattle.codec_payload_vp9.specs.Vp9Reading.{groups_of}
use Rattle.codec_payload_vp9.proofs.vp9.depacketizer.Vp9Depacketizer.read_structure.Goals as goal

pub returns-then-not-is_empty-clause-groups : goal.returns-then-not-is_empty-clause-groups
returns-then-not-is_empty-clause-groups c =
    let some : 0 < length c.args.bytes.now = grind (arith, common_steps) in
    let after = fields_of c.clear_groups.new.self in
    with_structure_is (fields_of c.args.self.now) after c.args.bytes.now
    (c.clear_groups.ensures.kept ∙ ap (λ (x : Fields). record x { groups = groups_of after }) c.read_head-read.ensures.fields) (search rules)
    (c.clear_groups.ensures.groups ∙ sym (cleared_some c.args.bytes.now (groups_of (fields_of c.args.self.now)) some))
