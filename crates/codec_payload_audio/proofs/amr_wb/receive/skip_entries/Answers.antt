use Rattle.std.proofs.Common.{rules, ◌≡◌, true, Some}
use Rattle.std.proofs.lemmas.Result.{err_from_is_err_and}
use Rattle.codec_payload_base.specs.Bits.{left}
use Rattle.codec_payload_audio.specs.AmrWbEntries.{ReadsEntry}
use Rattle.codec_payload_audio.proofs.AmrWbEntryLemmas.{so_far_more, entry_missing}
use Rattle.codec_payload_audio.proofs.amr_wb.receive.skip_entries.Goals as goal

pub returns-in_err-entry-clause-read : goal.returns-in_err-entry-clause-read
returns-in_err-entry-clause-read c =
    let p = err_from_is_err_and c.from_residual.result c.from_residual.ensures.1 in
    rw (p.1, p.2)
    (entry_missing c.args.octet_align (left c.args.reader.now) (left c.loop-entry.reader)
    (left c.read_entry.new.reader) c.read_entry.result c.in_err-entry.field-0.0 c.loop-entry.invariant.read c.read_entry.ensures.read c.in_err-entry.ensures.value)

pub loop-entry-preserved : goal.loop-entry-preserved
loop-entry-preserved c =
    let on : c.in_ok-entry.entry.follows ≡ true = search rules in
    let read : ReadsEntry c.args.octet_align (left c.loop-entry.reader) (left c.read_entry.new.reader) (Some c.in_ok-entry.entry) = rw c.in_ok-entry.ensures.ok_part at c.read_entry.ensures.read in
    record {
      read = so_far_more c.args.octet_align (left c.args.reader.now) (left c.loop-entry.reader) (left c.read_entry.new.reader) c.in_ok-entry.entry c.loop-entry.invariant.read read on;
      whole = c.read_entry.ensures.whole;
    }
