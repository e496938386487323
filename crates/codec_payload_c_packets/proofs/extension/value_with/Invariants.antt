use Rattle.std.proofs.Common.{◌≡◌}
use Rattle.codec_payload_rtp.specs.Elements.{elements_left}
use Rattle.codec_payload_rtp.specs.ExtensionFormats.{bytes_with}
use Rattle.codec_payload_c_packets.proofs.extension.value_with.Given as goal

abbrev pub invariant-loop-element : goal.invariant-loop-element
invariant-loop-element l = bytes_with l.id (elements_left l.element-iterator) ≡ bytes_with l.id (elements_left l.fn.elements)
