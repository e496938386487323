use Rattle.std.proofs.Common.{lit<}
use Rattle.std.proofs.lemmas.Iterator.Consumers.{map_from_collect}
use Rattle.std.proofs.lemmas.Iterator.Splits.{YieldsList-from_str_split}
use Rattle.payload_vectors.proofs.LineLemmas.{IfOk-Says}
use Rattle.payload_vectors.proofs.line.Line.parse.Goals as goal

pub returns : goal.returns
returns c =
    let all = map_from_collect _ c.collect.ensures.ran (YieldsList-from_str_split 32 c.args.text.now (lit< tt) c.split.ensures.text c.split.ensures.has_more c.split.ensures.pattern) in
    let these = rw c.in_ok-fields.was at all in
    let said = IfOk-Says _ c.from_fields.result c.from_fields.ensures.pop c.from_fields.ensures.push c.from_fields.ensures.limit c.from_fields.ensures.send c.from_fields.ensures.sample c.from_fields.ensures.red c.from_fields.ensures.codec c.from_fields.ensures.other in
    rw (c.deref.ensures.value, these) at said
