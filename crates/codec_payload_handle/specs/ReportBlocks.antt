-- Blocks of receiver reports, for C.
use Rattle.std.specs.Prelude.{◌≡◌, ℕ, Option, Some, None}
use Rattle.codec_payload_rtcp.specs.declared.items.ReportBlock.{ReportBlock}
use Rattle.codec_payload_handle.specs.declared.report_block.ReportBlockInfo.{ReportBlockInfo}

abbrev pub block_info : ReportBlock → ReportBlockInfo
block_info b = record {
  ssrc = b.ssrc;
  cumulative_lost = b.cumulative_lost;
  highest = b.highest_sequence_number;
  jitter = b.jitter;
  last_sender_report = b.last_sender_report;
  delay_since_sender_report = b.delay_since_sender_report;
  fraction_lost = b.fraction_lost;
}

-- a block, if there is one; otherwise status 32
abbrev pub TellsBlock : Option ReportBlock → ℕ → (before after : ReportBlockInfo) → Type 0
TellsBlock None status before after = (status ≡ 32) × (after ≡ before)
TellsBlock (Some b) status before after = (status ≡ 0) × (after ≡ block_info b)
