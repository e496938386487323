use Rattle.std.proofs.Common.{◌∙◌, ap, sym, length}
use Rattle.codec_payload_numbers.proofs.SeenLemmas.{length_places}
use Rattle.codec_payload_numbers.proofs.seen_times.SeenTimes.len.Goals as goal

pub returns-clause-all : goal.returns-clause-all
returns-clause-all c =
    let all = length_places c.self.inside.times c.self.inside.kinds 64 c.self.invariant.0 c.self.invariant.1 in
    rw (← c.self.view_is) (ap length c.as_slice.ensures ∙ (c.self.invariant.0 ∙ sym all))
