use Rattle.std.proofs.Common.{rules, ◌≡◌, true, false, Some}
use Rattle.std.proofs.lemmas.Result.{err_from_is_err_and}
use Rattle.codec_payload_base.specs.Bits.{left}
use Rattle.codec_payload_audio.specs.AmrWbEntries.{ReadsEntry}
use Rattle.codec_payload_audio.proofs.AmrWbFramesLemmas.{gathered_more, gathered_last, gathered_fail}
use Rattle.codec_payload_audio.proofs.amr_wb.receive.append_frames.Goals as goal

pub returns-in_err-read_frame-clause-err : goal.returns-in_err-read_frame-clause-err
returns-in_err-read_frame-clause-err c =
    let read : ReadsEntry c.args.octet_align (left c.loop-entry.toc) (left c.read_entry.new.reader) (Some c.in_ok-entry.entry) = rw c.in_ok-entry.ensures.ok_part at c.read_entry.ensures.read in
    let p = err_from_is_err_and c.from_residual-in_err-read_frame.result c.from_residual-in_err-read_frame.ensures.1 in
    rw (p.1, p.2)
    (gathered_fail c.args.octet_align (left c.args.toc.now) (left c.args.speech.now) (left c.loop-entry.toc)
    (left c.loop-entry.speech) c.args.out.now.items c.loop-entry.out.items
    (left c.read_entry.new.reader) c.in_ok-entry.entry c.loop-entry.invariant.read read c.in_err-read_frame.field-0.0 c.in_err-read_frame.ensures.err)

pub returns-then-not-entry-clause-ok : goal.returns-then-not-entry-clause-ok
returns-then-not-entry-clause-ok c =
    let off : c.in_ok-entry.entry.follows ≡ false = search rules in
    let read : ReadsEntry c.args.octet_align (left c.loop-entry.toc) (left c.read_entry.new.reader) (Some c.in_ok-entry.entry) = rw c.in_ok-entry.ensures.ok_part at c.read_entry.ensures.read in
    gathered_last c.args.octet_align (left c.args.toc.now) (left c.args.speech.now) (left c.loop-entry.toc)
    (left c.loop-entry.speech) c.args.out.now.items c.loop-entry.out.items
    (left c.read_entry.new.reader) c.in_ok-entry.entry c.loop-entry.invariant.read read c.read_frame.new.out.items
    (left c.read_frame.new.reader) off c.in_ok-read_frame.ensures.ok

pub loop-entry-preserved : goal.loop-entry-preserved
loop-entry-preserved c =
    let on : c.in_ok-entry.entry.follows ≡ true = search rules in
    let read : ReadsEntry c.args.octet_align (left c.loop-entry.toc) (left c.read_entry.new.reader) (Some c.in_ok-entry.entry) = rw c.in_ok-entry.ensures.ok_part at c.read_entry.ensures.read in
    record {
      read = gathered_more c.args.octet_align (left c.args.toc.now) (left c.args.speech.now) (left c.loop-entry.toc)
          (left c.loop-entry.speech) c.args.out.now.items c.loop-entry.out.items
          (left c.read_entry.new.reader) c.in_ok-entry.entry c.loop-entry.invariant.read read c.read_frame.new.out.items
          (left c.read_frame.new.reader) on c.in_ok-read_frame.ensures.ok c.in_ok-read_frame.ensures.kept;
      whole = λ aligned. (c.read_entry.ensures.whole aligned, c.in_ok-read_frame.ensures.whole aligned);
    }
