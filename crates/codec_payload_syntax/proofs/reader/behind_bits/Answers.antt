use Rattle.std.proofs.Common.{◌%◌, sym, ap, ◌∙◌}
use Rattle.codec_payload_base.specs.Bits.{bits_of}
use Rattle.codec_payload_syntax.specs.FieldReaders.{left}
use Rattle.codec_payload_syntax.specs.Syntax.{field, read}
use Rattle.codec_payload_syntax.proofs.ReaderLemmas.{skips_far, skips_not_far, skips_past}
use Rattle.codec_payload_syntax.proofs.reader.behind_bits.Goals as goal

pub returns-then-bytes-count : goal.returns-then-bytes-count
returns-then-bytes-count g c = sym (skips_past c.args.short c.args.count c.args.bytes.now c.if-bytes-count.true)

pub returns-in-Ok : goal.returns-in-Ok
returns-in-Ok g c = skips_far c.args.short c.args.count c.in-Ok.field-0 c.args.bytes.now (left c.take_bits.new.self) c.if-bytes-count.false (c.in-Ok.ensures.value ∙ ap (read c.args.short (field (c.args.count % 8))) (c.new-reader.ensures ∙ ap bits_of c.split_at.ensures.back))

pub returns-in-Err : goal.returns-in-Err
returns-in-Err g c = skips_not_far c.args.short c.args.count c.in-Err.fault c.args.bytes.now c.if-bytes-count.false (c.in-Err.ensures.value ∙ ap (read c.args.short (field (c.args.count % 8))) (c.new-reader.ensures ∙ ap bits_of c.split_at.ensures.back))
