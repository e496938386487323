-- What is spelled is read.
use Rattle.std.proofs.Common.{◌≡◌, ℕ, ◌+◌, ◌*◌, ◌/◌, List, [], ◌∷◌, ◌++◌, length, take, drop, Option, Some, None, Result, Ok, refl, sym, ap, ◌∙◌, arith, length-append}
use Rattle.std.proofs.lemmas.Bool.{eq-eqb, le-ltb}
use Rattle.std.proofs.lemmas.List.{drop_at, take_at}
use Rattle.std.proofs.lemmas.Nat.{from_be_bytes-to_be_bytes_2, from_be_bytes-to_be_bytes_4, from_be_bytes-to_be_bytes_8}
use Rattle.codec_payload_feedback_xr.specs.Xr.{Block, block_bytes, blocks_bytes, dlrr_block, first_for, or_else, reference_time_block, sub_block_bytes, sub_blocks_in}
use Rattle.codec_payload_feedback_xr.specs.XrReading.{DlrrComesBack, FitBlocks, FitsBlock, IsDlrr, ReferenceTimeComesBack, ReportComesBack, after_block, after_head, block_at, body_at, report_by, walk, walk_in}
use Rattle.codec_payload_feedback_xr.specs.declared.report.Dlrr.{Dlrr}
use Rattle.codec_payload_feedback_xr.specs.declared.report.XrFault.{XrFault}
use Rattle.codec_payload_feedback_xr.proofs.XrLemmas.{walk_past}

same_block : (b : Block) (front rest more : List ℕ) → front ≡ b.contents → rest ≡ more
    → (let o : Result (Block × List ℕ) XrFault = Ok (record { block_type = b.block_type; type_specific = b.type_specific; contents = front }, rest) in o) ≡ Ok (b, more)
same_block b front rest more is after = rw (is, after) refl

after_back : (b : Block) (more : List ℕ) (size : ℕ) → size ≡ length b.contents → after_head b.block_type b.type_specific size (b.contents ++ more) ≡ Ok (b, more)
after_back b more size is =
    let all : length (b.contents ++ more) ≡ length b.contents + length more = length-append b.contents more in
    rw (le-ltb (length (b.contents ++ more)) size (omega (arith, all, is)))
    (same_block b (take size (b.contents ++ more)) (drop size (b.contents ++ more)) more (take_at b.contents more size (sym is)) (drop_at b.contents more size (sym is)))

block_back : (b : Block) (more : List ℕ) → FitsBlock b → block_at (block_bytes b ++ more) ≡ Ok (b, more)
unfolding block_at
block_back b more fits =
    rw (from_be_bytes-to_be_bytes_2 (length b.contents / 4) fits.few) (after_back b more (4 * (length b.contents / 4)) fits.whole)

walk_ends : walk [] ≡ record { blocks = []; end = Ok tt }
unfolding walk_in
walk_ends = refl

walk_back : (bs : List Block) → FitBlocks bs → walk (blocks_bytes bs) ≡ record { blocks = bs; end = Ok tt }
walk_back [] fit = walk_ends
walk_back (b ∷ bs) fit = walk_past (block_bytes b ++ blocks_bytes bs) (blocks_bytes bs) b (block_back b (blocks_bytes bs) fit.0) ∙ ap (after_block b) (walk_back bs fit.1)

pub report_back : ReportComesBack
unfolding body_at
report_back r ssrc fit = rw (from_be_bytes-to_be_bytes_4 r.ssrc ssrc) (ap (report_by r.ssrc) (walk_back r.blocks fit))

pub reference_time_back : ReferenceTimeComesBack
reference_time_back ssrc ntp_time small fits = (
  report_back (record { ssrc = ssrc; blocks = reference_time_block ntp_time ∷ [] }) small (record { whole = refl; few = omega arith }, tt),
  ap (λ (n : ℕ). Some n) (from_be_bytes-to_be_bytes_8 ntp_time fits),
)

sub_block_back : (d : Dlrr) → IsDlrr d → sub_blocks_in (sub_block_bytes d ++ []) ≡ d ∷ []
unfolding sub_blocks_in
sub_block_back d is = rw (from_be_bytes-to_be_bytes_4 d.ssrc is.ssrc, from_be_bytes-to_be_bytes_4 d.last_rr is.last_rr, from_be_bytes-to_be_bytes_4 d.delay is.delay) refl

first_back : (d : Dlrr) → first_for d.ssrc (d ∷ []) ≡ Some d
first_back d = rw (eq-eqb d.ssrc d.ssrc refl) refl

pub dlrr_back : DlrrComesBack
dlrr_back ssrc d small is = (
  report_back (record { ssrc = ssrc; blocks = dlrr_block (d ∷ []) ∷ [] }) small (record { whole = refl; few = omega arith }, tt),
  ap (λ (ds : List Dlrr). or_else (first_for d.ssrc ds) None) (sub_block_back d is) ∙ ap (λ (o : Option Dlrr). or_else o None) (first_back d),
)
