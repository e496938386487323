-- Extended reports as they are read, from the left, with the first fault that is met.
use Rattle.std.specs.Prelude.{◌≡◌, ℕ, zero, suc, ◌*◌, ◌/◌, ◌<◌, nat_lt, if◌then◌else◌, List, [], ◌∷◌, length, take, drop, Some, Result, Ok, Err}
use Rattle.std.specs.Int.{w16, w32, from_be_bytes}
use Rattle.codec_payload_base.specs.Flags.{AreBytes}
use Rattle.codec_payload_feedback_xr.specs.Xr.{Block, Report, body_bytes, dlrr_block, dlrr_in, reference_time_block, reference_time_in}
use Rattle.codec_payload_feedback_xr.specs.declared.report.Dlrr.{Dlrr}
use Rattle.codec_payload_feedback_xr.specs.declared.report.ExtendedReport.{ExtendedReport}
use Rattle.codec_payload_feedback_xr.specs.declared.report.XrBlock.{XrBlock}
use Rattle.codec_payload_feedback_xr.specs.declared.report.XrFault.{XrFault}
use Rattle.codec_payload_feedback_xr.specs.declared.report.XrFault.TheVariants as faults

-- a block without its place in memory
abbrev pub block_of : XrBlock → Block
block_of b = record { block_type = b.block_type; type_specific = b.type_specific; contents = b.contents.now }

-- the contents, and the bytes after them
abbrev pub after_head : (block_type type_specific size : ℕ) → List ℕ → Result (Block × List ℕ) XrFault
after_head block_type type_specific size bytes =
    if nat_lt (length bytes) size then Err faults.ContentsTooShort
    else Ok (record { block_type = block_type; type_specific = type_specific; contents = take size bytes }, drop size bytes)

-- the block at the front, and the bytes after it
unfoldable pub block_at : List ℕ → Result (Block × List ℕ) XrFault
block_at (block_type ∷ type_specific ∷ l1 ∷ l0 ∷ bytes) = after_head block_type type_specific (4 * from_be_bytes w16 (l1 ∷ l0 ∷ [])) bytes
block_at bytes = Err faults.BlockTooShort

-- blocks that were read, and how that ended: at the end of the bytes, or at a fault
pub record Walk : Type 0 where
  pub blocks : List Block
  pub end : Result (Unit {0}) XrFault

abbrev pub after_block : Block → Walk → Walk
after_block b w = record { blocks = b ∷ w.blocks; end = w.end }

abbrev pub walk_by : (List ℕ → Walk) → Result (Block × List ℕ) XrFault → Walk
walk_by others (Ok x) = after_block x.0 (others x.1)
walk_by others (Err fault) = record { blocks = []; end = Err fault }

-- at most n blocks
unfoldable pub walk_in : ℕ → List ℕ → Walk
walk_in n [] = record { blocks = []; end = Ok tt }
walk_in zero (b ∷ bytes) = record { blocks = []; end = Err faults.BlockTooShort }
walk_in (suc n) (b ∷ bytes) = walk_by (walk_in n) (block_at (b ∷ bytes))

-- each block has four bytes or more
abbrev pub walk : List ℕ → Walk
walk bytes = walk_in (length bytes) bytes

-- the blocks, up to the first one that the bytes end in
abbrev pub blocks_in : List ℕ → List Block
blocks_in bytes = (walk bytes).blocks

-- whether the bytes are whole blocks
abbrev pub fault_in : List ℕ → Result (Unit {0}) XrFault
fault_in bytes = (walk bytes).end

-- a report without its places in memory
abbrev pub report_of : ExtendedReport → Report
report_of r = record { ssrc = r.ssrc; blocks = blocks_in r.blocks.now }

abbrev pub after_end : Result (Unit {0}) XrFault → Report → Result Report XrFault
after_end (Ok _) r = Ok r
after_end (Err fault) r = Err fault

abbrev pub report_by : ℕ → Walk → Result Report XrFault
report_by ssrc w = after_end w.end (record { ssrc = ssrc; blocks = w.blocks })

-- what is after the header
unfoldable pub body_at : List ℕ → Result Report XrFault
body_at (s3 ∷ s2 ∷ s1 ∷ s0 ∷ bytes) = report_by (from_be_bytes w32 (s3 ∷ s2 ∷ s1 ∷ s0 ∷ [])) (walk bytes)
body_at bytes = Err faults.TooShort

-- ---- theorems

-- whole words, at most 65,535
pub record FitsBlock (b : Block) : Type 0 where
  pub whole : 4 * (length b.contents / 4) ≡ length b.contents
  pub few : length b.contents / 4 < 65536

abbrev pub FitBlocks : List Block → Type 0
FitBlocks [] = Unit {0}
FitBlocks (b ∷ bs) = FitsBlock b × FitBlocks bs

-- what is read is spelled so
abbrev pub ReadIsSpelled : Type 0
ReadIsSpelled = (body : List ℕ) (r : Report) → AreBytes body → body_at body ≡ Ok r → (body ≡ body_bytes r) × (r.ssrc < 4294967296) × FitBlocks r.blocks

-- what is spelled is read
abbrev pub ReportComesBack : Type 0
ReportComesBack = (r : Report) → r.ssrc < 4294967296 → FitBlocks r.blocks → body_at (body_bytes r) ≡ Ok r

-- what a packet with one reference time spells is read, and has that time
abbrev pub ReferenceTimeComesBack : Type 0
ReferenceTimeComesBack = (ssrc ntp_time : ℕ) → ssrc < 4294967296 → ntp_time < 18446744073709551616
    → (body_at (body_bytes (record { ssrc = ssrc; blocks = reference_time_block ntp_time ∷ [] })) ≡ Ok (record { ssrc = ssrc; blocks = reference_time_block ntp_time ∷ [] }))
    × (reference_time_in (reference_time_block ntp_time ∷ []) ≡ Some ntp_time)

-- the numbers have their width
pub record IsDlrr (d : Dlrr) : Type 0 where
  pub ssrc : d.ssrc < 4294967296
  pub last_rr : d.last_rr < 4294967296
  pub delay : d.delay < 4294967296

-- what a packet with one answer spells is read, and has that answer
abbrev pub DlrrComesBack : Type 0
DlrrComesBack = (ssrc : ℕ) (d : Dlrr) → ssrc < 4294967296 → IsDlrr d
    → (body_at (body_bytes (record { ssrc = ssrc; blocks = dlrr_block (d ∷ []) ∷ [] })) ≡ Ok (record { ssrc = ssrc; blocks = dlrr_block (d ∷ []) ∷ [] }))
    × (dlrr_in d.ssrc (dlrr_block (d ∷ []) ∷ []) ≡ Some d)
