use Rattle.std.proofs.Common.{map}
use Rattle.codec_payload_av1.specs.Av1Obu.{kept}
use Rattle.codec_payload_av1.proofs.Av1ReadBack.{sized}
use Rattle.codec_payload_av1.proofs.Av1ObuGrammar.{sequence_good, canonical_again}
use Rattle.codec_payload_av1.proofs.av1.theorems.canonical_unit_is_its_own.Goals as goal

pub returns : goal.returns
returns c = λ bytes os fits short seq.
    let h = canonical_again os (sequence_good os bytes fits short seq) in
    (map sized (kept os), h.0, h.1)
