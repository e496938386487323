use Rattle.std.proofs.Common.{rules, ◌≡◌, ◌++◌, true, false, Some}
use Rattle.std.proofs.lemmas.Result.{err_from_is_err_and}
use Rattle.codec_payload_base.specs.Bits.{left}
use Rattle.codec_payload_audio.specs.AmrWbEntries.{ReadsEntry}
use Rattle.codec_payload_audio.proofs.AmrWbFramesLemmas.{frames_more, frames_last, frames_fail}
use Rattle.codec_payload_audio.proofs.amr_wb.receive.skip_frames.Goals as goal

pub returns-in_err-count : goal.returns-in_err-count
returns-in_err-count c =
    let (added, so_far) = c.loop-entry.invariant.read in
    let read : ReadsEntry c.args.octet_align (left c.loop-entry.toc) (left c.read_entry.new.reader) (Some c.in_ok-entry.entry) = rw c.in_ok-entry.ensures.ok_part at c.read_entry.ensures.read in
    let p = err_from_is_err_and c.from_residual-in_err-count.result c.from_residual-in_err-count.ensures.1 in
    rw (p.1, p.2)
    (frames_fail c.args.octet_align (left c.args.toc.now) (left c.args.speech.now) (left c.loop-entry.toc) (left c.loop-entry.speech) added
    (left c.read_entry.new.reader) c.in_ok-entry.entry so_far read c.in_err-count.field-0.0 c.in_err-count.ensures.read)

pub returns-then-not-entry : goal.returns-then-not-entry
returns-then-not-entry c =
    let (added, so_far) = c.loop-entry.invariant.read in
    let (frame, given) = c.in_ok-count.ensures.read in
    let off : c.in_ok-entry.entry.follows ≡ false = search rules in
    let read : ReadsEntry c.args.octet_align (left c.loop-entry.toc) (left c.read_entry.new.reader) (Some c.in_ok-entry.entry) = rw c.in_ok-entry.ensures.ok_part at c.read_entry.ensures.read in (
      added ++ frame,
      frames_last c.args.octet_align (left c.args.toc.now) (left c.args.speech.now) (left c.loop-entry.toc) (left c.loop-entry.speech) added
          (left c.read_entry.new.reader) c.in_ok-entry.entry so_far read frame (left c.skip_frame.new.reader) off given,
    )

pub loop-entry-preserved : goal.loop-entry-preserved
loop-entry-preserved c =
    let (added, so_far) = c.loop-entry.invariant.read in
    let (frame, given) = c.in_ok-count.ensures.read in
    let on : c.in_ok-entry.entry.follows ≡ true = search rules in
    let read : ReadsEntry c.args.octet_align (left c.loop-entry.toc) (left c.read_entry.new.reader) (Some c.in_ok-entry.entry) = rw c.in_ok-entry.ensures.ok_part at c.read_entry.ensures.read in
    record {
      read = (
        added ++ frame,
        frames_more c.args.octet_align (left c.args.toc.now) (left c.args.speech.now) (left c.loop-entry.toc) (left c.loop-entry.speech) added
            (left c.read_entry.new.reader) c.in_ok-entry.entry so_far read frame (left c.skip_frame.new.reader) on given,
      );
      whole = λ aligned. (c.read_entry.ensures.whole aligned, c.in_ok-count.ensures.whole aligned);
    }
