use Rattle.std.proofs.Common.{◌∙◌, Some, ap, sym}
use Rattle.codec_payload_c_receiving.proofs.SettingsFaultLemmas.{no_memory, none_told, range_first, some_told}
use Rattle.codec_payload_c_receiving.proofs.session_faults.first_fault.Goals as goal

pub returns-then-is_some-clause-ok : goal.returns-then-is_some-clause-ok
returns-then-is_some-clause-ok c =
    range_first c.args.settings.now c.args.formats.now c.args.no_media.now c.range_fault-range.result c.range_fault-range.ensures (sym c.is_some.ensures ∙ c.if-is_some.true)

pub returns-in-Ok-check-clause-ok : goal.returns-in-Ok-check-clause-ok
returns-in-Ok-check-clause-ok c =
    none_told c.args.settings.now c.args.formats.now c.args.no_media.now _ c.in-Ok.settings c.range_fault-range.result _ c.range_fault-range.ensures (sym c.is_some.ensures ∙ c.if-is_some.false)
    c.in-Ok.ensures.ok c.in-Ok-check.ensures

pub returns-in-Ok-clause-ok : goal.returns-in-Ok-clause-ok
returns-in-Ok-clause-ok c =
    ap Some c.fault_told.ensures
    ∙ some_told c.args.settings.now c.args.formats.now c.args.no_media.now _ c.in-Ok.settings c.range_fault-range.result c.in-Err-check.fault c.range_fault-range.ensures (sym c.is_some.ensures ∙ c.if-is_some.false)
    c.in-Ok.ensures.ok c.in-Err-check.ensures

pub returns-clause-err : goal.returns-clause-err
returns-clause-err c =
    no_memory c.args.settings.now c.args.formats.now c.range_fault-range.result c.in-Err.status c.range_fault-range.ensures (sym c.is_some.ensures ∙ c.if-is_some.false) c.in-Err.ensures.err
