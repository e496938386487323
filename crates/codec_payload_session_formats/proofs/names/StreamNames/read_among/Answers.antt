use Rattle.std.proofs.Common.{rules, ◌≡◌, ◌∷◌, []}
use Rattle.std.specs.Option.{option_map}
use Rattle.codec_payload_rtp.specs.Elements.{element_of, elements_left}
use Rattle.codec_payload_session_formats.proofs.NameLemmas.{at_end, kept_on}
use Rattle.codec_payload_session_formats.proofs.names.StreamNames.read_among.Goals as goal

pub loop-element-preserved : goal.loop-element-preserved
loop-element-preserved c =
    let first : elements_left c.loop-element.element-iterator ≡ element_of c.in-Some.element ∷ elements_left c.next.new.self = search rules in
    record {
      mid = kept_on c.args.ids.now.mid _ _ (element_of c.in-Some.element) (elements_left c.next.new.self) (elements_left c.loop-element.element-iterator) (elements_left c.args.elements) c.keep_first.ensures first c.loop-element.invariant.mid;
      rid = kept_on c.args.ids.now.rid _ _ (element_of c.in-Some.element) (elements_left c.next.new.self) (elements_left c.loop-element.element-iterator) (elements_left c.args.elements) c.keep_first-in-loop-element.ensures first c.loop-element.invariant.rid;
      repaired = kept_on c.args.ids.now.repaired_rid _ _ (element_of c.in-Some.element) (elements_left c.next.new.self) (elements_left c.loop-element.element-iterator) (elements_left c.args.elements) c.keep_first-in-loop-element-2.ensures first c.loop-element.invariant.repaired;
    }

pub returns : goal.returns
returns c =
    let none : elements_left c.loop-element.element-iterator ≡ [] = search rules in
    let mid = at_end c.args.ids.now.mid (option_map (λ b. b.now) c.loop-element.mid) (elements_left c.loop-element.element-iterator) (elements_left c.args.elements) none c.loop-element.invariant.mid in
    let rid = at_end c.args.ids.now.rid (option_map (λ b. b.now) c.loop-element.rid) (elements_left c.loop-element.element-iterator) (elements_left c.args.elements) none c.loop-element.invariant.rid in
    let repaired = at_end c.args.ids.now.repaired_rid (option_map (λ b. b.now) c.loop-element.repaired_rid) (elements_left c.loop-element.element-iterator) (elements_left c.args.elements) none c.loop-element.invariant.repaired in
    search (rules, mid, rid, repaired)
