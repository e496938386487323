use Rattle.std.proofs.Common.{true, false, refl, sym, ◌∙◌}
use Rattle.codec_payload_c_packets.proofs.RecordLemmas.{record_written}
use Rattle.codec_payload_c.proofs.media.cpay_av1c.Goals as goal

pub returns-then-fill_record : goal.returns-then-fill_record
returns-then-fill_record c =
    rw (sym c.header_in.ensures, c.in-Ok.is) (record_written c.in-Ok.header c.args.obu.now c.args.bytes.now true c.fill_record.new.bytes c.args.size.now _
    (sym c.if-fill_record.true ∙ c.fill_record.ensures.enough) c.fill_record.ensures.written refl)

pub returns-else-fill_record : goal.returns-else-fill_record
returns-else-fill_record c =
    rw (sym c.header_in.ensures, c.in-Ok.is) (record_written c.in-Ok.header c.args.obu.now c.args.bytes.now false c.fill_record.new.bytes c.args.size.now _
    (sym c.if-fill_record.false ∙ c.fill_record.ensures.enough) c.fill_record.ensures.written refl)
