use Rattle.std.proofs.Common.{◌∙◌, sym, Some, None}
use Rattle.codec_payload_index.proofs.HalvedLemmas.{found_within, found_below}
use Rattle.codec_payload_index.proofs.times.first_below.Goals as goal

pub place_in-requires : goal.place_in-requires
place_in-requires c = found_within c.args.now c.args.level.now c.in-Some.pair (sym c.in-Some.is ∙ c.requires)

pub returns-in-Some : goal.returns-in-Some
returns-in-Some c = c.place_in.ensures ∙ found_below c.args.now c.args.level.now (Some c.in-Some.pair) (sym c.in-Some.is ∙ c.requires)

pub returns-in-None : goal.returns-in-None
returns-in-None c = found_below c.args.now c.args.level.now None (sym c.in-None.is ∙ c.requires)
