use Rattle.std.proofs.Common.{◌≡◌}
use Rattle.std.specs.Option.{option_map}
use Rattle.codec_payload_rtp.specs.Elements.{elements_left}
use Rattle.codec_payload_rtp.specs.ExtensionFormats.{bytes_for, first_of}
use Rattle.codec_payload_session_formats.proofs.names.StreamNames.read_among.Given as goal

abbrev pub invariant-loop-element : goal.invariant-loop-element
invariant-loop-element l = record {
  mid : first_of (option_map (λ b. b.now) l.mid) (bytes_for l.ids.mid (elements_left l.element-iterator)) ≡ bytes_for l.ids.mid (elements_left l.fn.elements);
  rid : first_of (option_map (λ b. b.now) l.rid) (bytes_for l.ids.rid (elements_left l.element-iterator)) ≡ bytes_for l.ids.rid (elements_left l.fn.elements);
  repaired : first_of (option_map (λ b. b.now) l.repaired_rid) (bytes_for l.ids.repaired_rid (elements_left l.element-iterator)) ≡ bytes_for l.ids.repaired_rid (elements_left l.fn.elements);
}
