use Rattle.std.proofs.Common.{◌≡◌, ◌++◌, ◌*◌, ◌/◌, ◌+◌, ap, ◌∙◌, length, ℕ, arith, rules, refl}
use Rattle.codec_payload_feedback_congestion.specs.Remb.{remb_head, word_of}
use Rattle.codec_payload_feedback_congestion.proofs.RembLemmas.{remb_written}
use Rattle.codec_payload_feedback_congestion.proofs.remb.write_remb.Goals as goal

pub returns : goal.returns
returns c =
    let m : ℕ = c.rounded-mantissa.result.0 in
    let e : ℕ = c.rounded-mantissa.result.1 in
    let count : ℕ = length c.args.ssrcs.now / 4 in
    let first : c.extend_from_slice.new.self.items ≡ c.args.out.now.items ++ c.remb_head.result = search rules in
    let number : c.from.result ≡ e = omega arith in
    let is : c.remb_head.result ≡ remb_head (word_of count e m) = c.remb_head.ensures ∙ ap (λ (n : ℕ). remb_head (count * 16777216 + n * 262144 + m)) number in
    remb_written c.args.bitrate m e count (word_of count e m) c.args.out.now.items c.extend_from_slice.new.self.items c.extend_from_slice-2.new.self.items c.remb_head.result c.args.ssrcs.now
    (omega arith) c.rounded-mantissa.ensures (omega arith) (omega arith) refl is first (search rules)
