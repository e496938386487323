use Rattle.std.proofs.Common.{rules, ◌≡◌, ◌∷◌, [], ℕ, List, Bool, true, false, Option, Some, None, refl, sym, ap, ◌∙◌}
use Rattle.std.specs.Prelude.{if◌then◌else◌, ◌==◌}
use Rattle.std.specs.Option.{option_map}
use Rattle.codec_payload_rtp.specs.Elements.{Element, element_of, elements_left}
use Rattle.codec_payload_rtp.specs.ExtensionFormats.{bytes_for, first_of}
use Rattle.codec_payload_rtp.proofs.values.ExtensionIds.find.Goals as goal

chosen : (is : Bool) (bytes : List ℕ) (rest : Option (List ℕ)) → first_of (if is then Some bytes else None) rest ≡ (if is then Some bytes else rest)
chosen true bytes rest = refl
chosen false bytes rest = refl

one_more : (kept : Option (List ℕ)) (id : Option ℕ) (e : Element) (es : List Element) → first_of (first_of kept (bytes_for id (e ∷ []))) (bytes_for id es) ≡ first_of kept (bytes_for id (e ∷ es))
one_more (Some b) id e es = refl
one_more None None e es = refl
one_more None (Some id) e es = chosen (e.id == id) e.bytes (bytes_for (Some id) es)

kept_on : (id : Option ℕ) (before after : Option (List ℕ)) (e : Element) (es left all : List Element) → after ≡ first_of before (bytes_for id (e ∷ [])) → left ≡ e ∷ es
    → first_of before (bytes_for id left) ≡ bytes_for id all → first_of after (bytes_for id es) ≡ bytes_for id all
kept_on id before after e es left all step first is =
    ap (λ (k : Option (List ℕ)). first_of k (bytes_for id es)) step ∙ one_more before id e es ∙ ap (λ (l : List Element). first_of before (bytes_for id l)) (sym first) ∙ is

at_end : (id : Option ℕ) (kept : Option (List ℕ)) (left all : List Element) → left ≡ [] → first_of kept (bytes_for id left) ≡ bytes_for id all → kept ≡ bytes_for id all
at_end id kept left all none is = without id kept ∙ ap (λ (l : List Element). first_of kept (bytes_for id l)) (sym none) ∙ is where
  without : (id : Option ℕ) (kept : Option (List ℕ)) → kept ≡ first_of kept (bytes_for id [])
  without id (Some b) = refl
  without None None = refl
  without (Some id) None = refl

pub loop-element-preserved : goal.loop-element-preserved
loop-element-preserved c =
    let first : elements_left c.loop-element.element-iterator ≡ element_of c.in-Some.element ∷ elements_left c.next.new.self = search rules in
    record {
      capture_time = kept_on c.args.self.now.abs_capture_time _ _ (element_of c.in-Some.element) (elements_left c.next.new.self) (elements_left c.loop-element.element-iterator) (elements_left c.args.elements) c.keep_first.ensures first c.loop-element.invariant.capture_time;
      orientation = kept_on c.args.self.now.video_orientation _ _ (element_of c.in-Some.element) (elements_left c.next.new.self) (elements_left c.loop-element.element-iterator) (elements_left c.args.elements) c.keep_first-in-loop-element.ensures first c.loop-element.invariant.orientation;
      content_type = kept_on c.args.self.now.video_content_type _ _ (element_of c.in-Some.element) (elements_left c.next.new.self) (elements_left c.loop-element.element-iterator) (elements_left c.args.elements) c.keep_first-in-loop-element-2.ensures first c.loop-element.invariant.content_type;
      timing = kept_on c.args.self.now.video_timing _ _ (element_of c.in-Some.element) (elements_left c.next.new.self) (elements_left c.loop-element.element-iterator) (elements_left c.args.elements) c.keep_first-in-loop-element-3.ensures first c.loop-element.invariant.timing;
      allocation = kept_on c.args.self.now.layers_allocation _ _ (element_of c.in-Some.element) (elements_left c.next.new.self) (elements_left c.loop-element.element-iterator) (elements_left c.args.elements) c.keep_first-in-loop-element-4.ensures first c.loop-element.invariant.allocation;
      level = kept_on c.args.self.now.audio_level _ _ (element_of c.in-Some.element) (elements_left c.next.new.self) (elements_left c.loop-element.element-iterator) (elements_left c.args.elements) c.keep_first-in-loop-element-5.ensures first c.loop-element.invariant.level;
    }

pub returns : goal.returns
returns c =
    let none : elements_left c.loop-element.element-iterator ≡ [] = search rules in
    let capture_time = at_end c.args.self.now.abs_capture_time (option_map (λ b. b.now) c.loop-element.capture_time) (elements_left c.loop-element.element-iterator) (elements_left c.args.elements) none c.loop-element.invariant.capture_time in
    let orientation = at_end c.args.self.now.video_orientation (option_map (λ b. b.now) c.loop-element.orientation) (elements_left c.loop-element.element-iterator) (elements_left c.args.elements) none c.loop-element.invariant.orientation in
    let content_type = at_end c.args.self.now.video_content_type (option_map (λ b. b.now) c.loop-element.content_type) (elements_left c.loop-element.element-iterator) (elements_left c.args.elements) none c.loop-element.invariant.content_type in
    let timing = at_end c.args.self.now.video_timing (option_map (λ b. b.now) c.loop-element.timing) (elements_left c.loop-element.element-iterator) (elements_left c.args.elements) none c.loop-element.invariant.timing in
    let allocation = at_end c.args.self.now.layers_allocation (option_map (λ b. b.now) c.loop-element.allocation) (elements_left c.loop-element.element-iterator) (elements_left c.args.elements) none c.loop-element.invariant.allocation in
    let level = at_end c.args.self.now.audio_level (option_map (λ b. b.now) c.loop-element.level) (elements_left c.loop-element.element-iterator) (elements_left c.args.elements) none c.loop-element.invariant.level in
    search (rules, capture_time, orientation, content_type, timing, allocation, level)
