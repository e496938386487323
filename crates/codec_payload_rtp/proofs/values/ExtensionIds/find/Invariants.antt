use Rattle.std.proofs.Common.{◌≡◌}
use Rattle.std.specs.Option.{option_map}
use Rattle.codec_payload_rtp.specs.Elements.{elements_left}
use Rattle.codec_payload_rtp.specs.ExtensionFormats.{bytes_for, first_of}
use Rattle.codec_payload_rtp.proofs.values.ExtensionIds.find.Given as goal

abbrev pub invariant-loop-element : goal.invariant-loop-element
invariant-loop-element l = record {
  capture_time : first_of (option_map (λ b. b.now) l.capture_time) (bytes_for l.self.abs_capture_time (elements_left l.element-iterator)) ≡ bytes_for l.self.abs_capture_time (elements_left l.fn.elements);
  orientation : first_of (option_map (λ b. b.now) l.orientation) (bytes_for l.self.video_orientation (elements_left l.element-iterator)) ≡ bytes_for l.self.video_orientation (elements_left l.fn.elements);
  content_type : first_of (option_map (λ b. b.now) l.content_type) (bytes_for l.self.video_content_type (elements_left l.element-iterator)) ≡ bytes_for l.self.video_content_type (elements_left l.fn.elements);
  timing : first_of (option_map (λ b. b.now) l.timing) (bytes_for l.self.video_timing (elements_left l.element-iterator)) ≡ bytes_for l.self.video_timing (elements_left l.fn.elements);
  allocation : first_of (option_map (λ b. b.now) l.allocation) (bytes_for l.self.layers_allocation (elements_left l.element-iterator)) ≡ bytes_for l.self.layers_allocation (elements_left l.fn.elements);
  level : first_of (option_map (λ b. b.now) l.level) (bytes_for l.self.audio_level (elements_left l.element-iterator)) ≡ bytes_for l.self.audio_level (elements_left l.fn.elements);
}
