use Rattle.std.proofs.Common.{sym}
use Rattle.codec_payload_fec.specs.Sums.{sum_of}
use Rattle.codec_payload_fec.proofs.SumLemmas.{added_short}
use Rattle.codec_payload_fec.proofs.strings.Sum.add.Goals as goal

pub returns-in_default : goal.returns-in_default
returns-in_default c = sym (added_short c.args.packet.now (sum_of c.args.self.now) c.in_default.len_below)
