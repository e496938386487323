use Rattle.std.proofs.Common.{List, ℕ, ◌∙◌, ap}
use Rattle.codec_payload_fec.specs.Sums.{sum_of}
use Rattle.codec_payload_fec.proofs.WholeSums.{added_whole}
use Rattle.codec_payload_fec.proofs.strings.Sum.add_whole.Goals as goal

pub returns : goal.returns
returns c =
    c.add.ensures
    ∙ added_whole c.args.packet.now (sum_of c.args.self.now) (record (sum_of c.args.self.now) { bytes = c.pad.new.bytes.items }) c.saturating_sub.result
    (ap (λ (bs : List ℕ). record (sum_of c.args.self.now) { bytes = bs }) c.in_ok-pad.ensures) c.saturating_sub.ensures
