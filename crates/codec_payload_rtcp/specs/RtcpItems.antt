-- Report blocks (RFC 3550, section 6.4.1) and entries of a full intra request (RFC 5104, section 4.3.1.1).
use Rattle.std.specs.Prelude.{ℕ, ◌+◌, ◌*◌, ◌/◌, ◌%◌, ◌<◌, ◌==◌, ◌&&◌, nat_le, Bool, true, List, ◌++◌, length, take, drop, Option, Some, None}
use Rattle.std.specs.Int.{w32, from_be_bytes, to_be_bytes}
use Rattle.codec_payload_rtcp.specs.declared.items.ReportBlock.{ReportBlock}
use Rattle.codec_payload_rtcp.specs.declared.items.FullIntraEntry.{FullIntraEntry}

-- the number of 32 bits at that place
abbrev pub word_in : ℕ → List ℕ → ℕ
word_in place bytes = from_be_bytes w32 (take 4 (drop place bytes))

-- the report block of that index
abbrev pub block_at : ℕ → List ℕ → ReportBlock
block_at i bytes = record {
  ssrc = word_in (24 * i) bytes;
  fraction_lost = word_in (24 * i + 4) bytes / 16777216;
  cumulative_lost = word_in (24 * i + 4) bytes % 16777216;
  highest_sequence_number = word_in (24 * i + 8) bytes;
  jitter = word_in (24 * i + 12) bytes;
  last_sender_report = word_in (24 * i + 16) bytes;
  delay_since_sender_report = word_in (24 * i + 20) bytes;
}

-- the numbers of a report block have their width
pub record FitsBlock (b : ReportBlock) : Type 0 where
  pub ssrc : b.ssrc < 4294967296
  pub fraction_lost : b.fraction_lost < 256
  pub cumulative_lost : b.cumulative_lost < 16777216
  pub highest_sequence_number : b.highest_sequence_number < 4294967296
  pub jitter : b.jitter < 4294967296
  pub last_sender_report : b.last_sender_report < 4294967296
  pub delay_since_sender_report : b.delay_since_sender_report < 4294967296

abbrev pub block_bytes : ReportBlock → List ℕ
block_bytes b =
    to_be_bytes w32 b.ssrc ++ to_be_bytes w32 (b.fraction_lost * 16777216 + b.cumulative_lost) ++ to_be_bytes w32 b.highest_sequence_number
    ++ to_be_bytes w32 b.jitter ++ to_be_bytes w32 b.last_sender_report ++ to_be_bytes w32 b.delay_since_sender_report

-- the entry of that index; its last three bytes are reserved
abbrev pub entry_at : ℕ → List ℕ → FullIntraEntry
entry_at i bytes = record { ssrc = word_in (8 * i) bytes; sequence_number = word_in (8 * i + 4) bytes / 16777216 }

-- the numbers of an entry have their width
pub record FitsEntry (e : FullIntraEntry) : Type 0 where
  pub ssrc : e.ssrc < 4294967296
  pub sequence_number : e.sequence_number < 256

abbrev pub entry_bytes : FullIntraEntry → List ℕ
entry_bytes e = to_be_bytes w32 e.ssrc ++ to_be_bytes w32 (e.sequence_number * 16777216)

-- ---- lengths in bytes of what a packet can have, as tests

-- whole items of that size, within these two numbers of bytes
abbrev pub are_items : ℕ → ℕ → ℕ → ℕ → Bool
are_items size least most n = (n % size == 0) && (nat_le least n && nat_le n most)

-- report blocks of 24 bytes, and an extension of whole words
abbrev pub report_fits : ℕ → ℕ → Bool
report_fits blocks extension = are_items 24 0 744 blocks && are_items 4 0 261372 extension

-- the reason of a BYE has at most 255 bytes
abbrev pub reason_short : Option (List ℕ) → Bool
reason_short None = true
reason_short (Some reason) = nat_le (length reason) 255
