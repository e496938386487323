use Rattle.std.proofs.Common.{◌∙◌, arith, sym}
use Rattle.codec_payload_numbers.proofs.SeenLemmas.{place_is}
use Rattle.codec_payload_numbers.specs.declared.seen_times.Kind.TheVariants.{Nothing}
use Rattle.codec_payload_numbers.proofs.seen_times.SeenTimes.at.Goals as goal

pub returns : goal.returns
returns c =
    let there = place_is c.self.inside.times c.self.inside.kinds c.args.place 0 Nothing (omega (arith, c.requires, c.self.invariant.0)) (omega (arith, c.requires, c.self.invariant.1)) in
    rw (← c.self.view_is) (c.seen_at.ensures ∙ sym there)
