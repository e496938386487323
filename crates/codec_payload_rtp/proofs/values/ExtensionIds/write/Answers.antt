use Rattle.std.proofs.Common.{rules, ◌≡◌, map, take, true}
use Rattle.codec_payload_rtp.specs.Elements.{element_of, all_fit}
use Rattle.codec_payload_rtp.specs.ExtensionWriting.{elements_for}
use Rattle.codec_payload_rtp.specs.declared.elements.ElementForm.TheVariants.{TwoByte}
use Rattle.codec_payload_rtp.proofs.ExtensionLemmas.{lent_few, on_ok, values_fit, extension_short, elements_again}
use Rattle.codec_payload_rtp.proofs.values.ExtensionIds.write.Goals as goal

pub write_extension-requires : goal.write_extension-requires
write_extension-requires c =
    let same : map element_of (take c.gather-count.result.1 c.gather-count.result.0) ≡ elements_for c.args.self.now c.args.values.now = search rules in
    let few = lent_few (λ b. b.now) c.layers_of.result c.args.values.now.layers_allocation 255 c.layers_of.ensures.value c.layers_of.ensures.few in
    let fit : all_fit TwoByte (elements_for c.args.self.now c.args.values.now) ≡ true = values_fit c.args.self.now c.args.values.now (search rules) few in
    search (rules, same, fit)

pub returns-clause-words : goal.returns-clause-words
returns-clause-words c =
    let few = lent_few (λ b. b.now) c.layers_of.result c.args.values.now.layers_allocation 255 c.layers_of.ensures.value c.layers_of.ensures.few in
    on_ok _ _ (extension_short c.args.self.now c.args.values.now few)

pub returns-clause-comes_back : goal.returns-clause-comes_back
returns-clause-comes_back c =
    let few = lent_few (λ b. b.now) c.layers_of.result c.args.values.now.layers_allocation 255 c.layers_of.ensures.value c.layers_of.ensures.few in
    on_ok _ _ (elements_again (elements_for c.args.self.now c.args.values.now) (values_fit c.args.self.now c.args.values.now (search rules) few))
