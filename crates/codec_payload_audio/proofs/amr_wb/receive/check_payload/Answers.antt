use Rattle.std.proofs.Common.{◌≡◌, ◌<◌, ◌≤◌, ◌↔◌, length, List, ℕ, Bool, true, false, inl, inr}
use Rattle.std.proofs.lemmas.Bool.{cases_lt}
use Rattle.std.proofs.lemmas.Result.{err_from_is_err_and}
use Rattle.codec_payload_base.specs.Bits.{left}
use Rattle.codec_payload_audio.proofs.AmrWbReceivedLemmas.{entries_fail, frames_fail_so, received_long, received_all}
use Rattle.codec_payload_audio.proofs.amr_wb.receive.check_payload.Goals as goal

many_left : (b : Bool) (bs : List ℕ) → b ≡ false → ((b ≡ true) ↔ (length bs < 8)) → 8 ≤ length bs
many_left b bs off is = elim (cases_lt (length bs) 8) [ inl few ↦ let on : b ≡ true = is.1 few in cc | inr many ↦ many ]

few_left : (b : Bool) (bs : List ℕ) → b ≡ true → ((b ≡ true) ↔ (length bs < 8)) → length bs < 8
few_left b bs on is = is.0 on

pub returns-in_err-skip_entries-clause-received : goal.returns-in_err-skip_entries-clause-received
returns-in_err-skip_entries-clause-received c =
    let p = err_from_is_err_and c.from_residual.result c.from_residual.ensures.1 in
    rw (p.1, p.2) (entries_fail c.args.octet_align c.args.packet.now c.behind_request-toc.result c.requires c.behind_request-toc.ensures.place
    c.in_err-skip_entries.field-0.0 (rw c.fork-speech.ensures at c.in_err-skip_entries.ensures.read))

pub skip_frames-requires-clause-table : goal.skip_frames-requires-clause-table
skip_frames-requires-clause-table c =
    let (es, read) = c.in_ok-skip_entries.ensures.read in
    ((es, left c.skip_entries.new.reader), rw (c.fork-entries.ensures, ← c.fork-speech.ensures) read)

pub returns-in_err-storage_size-clause-received : goal.returns-in_err-storage_size-clause-received
returns-in_err-storage_size-clause-received c =
    let (es, read) = c.in_ok-skip_entries.ensures.read in
    let p = err_from_is_err_and c.from_residual-in_err-storage_size.result c.from_residual-in_err-storage_size.ensures.1 in
    rw (p.1, p.2)
    (frames_fail_so c.args.octet_align c.args.packet.now c.behind_request-toc.result c.requires c.behind_request-toc.ensures.place es
    (left c.skip_entries.new.reader) (rw c.fork-speech.ensures at read) c.in_err-storage_size.field-0.0
    (rw (c.fork-entries.ensures, c.fork-frames.ensures) at c.in_err-storage_size.ensures))

pub returns-then-not-less_than_a_byte_is_left-clause-received : goal.returns-then-not-less_than_a_byte_is_left-clause-received
returns-then-not-less_than_a_byte_is_left-clause-received c =
    let (es, read) = c.in_ok-skip_entries.ensures.read in
    let (frames, given) = c.in_ok-storage_size.ensures in
    received_long c.args.octet_align c.args.packet.now c.behind_request-toc.result c.requires c.behind_request-toc.ensures.place es (left c.skip_entries.new.reader)
    (rw c.fork-speech.ensures at read) frames (left c.skip_frames.new.speech) (rw (c.fork-entries.ensures, c.fork-frames.ensures) at given)
    (many_left c.less_than_a_byte_is_left.result (left c.skip_frames.new.speech) c.if-not-less_than_a_byte_is_left.true c.less_than_a_byte_is_left.ensures)

pub returns-clause-received : goal.returns-clause-received
returns-clause-received c =
    let (es, read) = c.in_ok-skip_entries.ensures.read in
    let (frames, given) = c.in_ok-storage_size.ensures in (
      frames,
      received_all c.args.octet_align c.args.packet.now c.behind_request-toc.result c.requires c.behind_request-toc.ensures.place es
          (left c.skip_entries.new.reader) (rw c.fork-speech.ensures at read) frames (left c.skip_frames.new.speech)
          (rw (c.fork-entries.ensures, c.fork-frames.ensures) at given)
          (few_left c.less_than_a_byte_is_left.result (left c.skip_frames.new.speech) c.if-not-less_than_a_byte_is_left.false c.less_than_a_byte_is_left.ensures),
    )
