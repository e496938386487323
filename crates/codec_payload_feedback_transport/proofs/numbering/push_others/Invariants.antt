use Rattle.std.proofs.Common.{◌≡◌, ◌++◌, map}
use Rattle.codec_payload_rtp.specs.Elements.{element_of, elements_left}
use Rattle.codec_payload_feedback_transport.specs.Numbering.{without}
use Rattle.codec_payload_feedback_transport.proofs.numbering.push_others.Given as goal

-- the elements so far, and those that are left, are all with other ids
abbrev pub invariant-loop-element : goal.invariant-loop-element
invariant-loop-element l =
    map element_of l.others.items ++ without l.id (elements_left l.element-iterator) ≡ map element_of l.initial.others.items ++ without l.id (elements_left l.fn.elements)
