use Rattle.std.proofs.Common.{sym, ap, ◌∙◌}
use Rattle.codec_payload_syntax.specs.Syntax.{read, field}
use Rattle.codec_payload_syntax.proofs.ReaderLemmas.{takes_field}
use Rattle.codec_payload_syntax.proofs.reader.FieldReader.take_bits.Goals as goal

pub returns-then-hold-clause-value : goal.returns-then-hold-clause-value
returns-then-hold-clause-value g c =
    sym (ap (read c.args.short (field c.args.count)) (sym c.hold.ensures.same) ∙ takes_field c.args.short c.args.count c.split.result c.hold.new.self c.split.new.self c.split.ensures.below c.split.ensures.value c.split.ensures.behind)
