-- Extended reports (RFC 3611): how they are spelled, and what their blocks say.
use Rattle.std.specs.Prelude.{ℕ, ◌/◌, ◌%◌, ◌==◌, ◌&&◌, if◌then◌else◌, List, [], ◌∷◌, ◌++◌, length, Option, Some, None}
use Rattle.std.specs.Int.{w16, w32, w64, from_be_bytes, to_be_bytes}
use Rattle.std.specs.List.{flat_map}
use Rattle.codec_payload_rtcp.specs.RtcpPackets.{Packet, other}
use Rattle.codec_payload_feedback_xr.specs.declared.report.Dlrr.{Dlrr}

-- a report block (section 3): BT, the type-specific bits, and the contents, whole words
pub record Block : Type 0 where
  pub block_type : ℕ
  pub type_specific : ℕ
  pub contents : List ℕ

-- a packet (section 2): the SSRC of its sender, and its report blocks
pub record Report : Type 0 where
  pub ssrc : ℕ
  pub blocks : List Block

-- ---- how it is spelled

-- BT, the type-specific bits, the length in words of the contents, the contents
abbrev pub block_bytes : Block → List ℕ
block_bytes b = b.block_type ∷ b.type_specific ∷ (to_be_bytes w16 (length b.contents / 4) ++ b.contents)

abbrev pub blocks_bytes : List Block → List ℕ
blocks_bytes bs = flat_map block_bytes bs

-- after the header: the SSRC of the sender, the report blocks
abbrev pub body_bytes : Report → List ℕ
body_bytes r = to_be_bytes w32 r.ssrc ++ blocks_bytes r.blocks

-- XR; the five bits of the count are reserved
abbrev pub xr_packet : Report → Packet
xr_packet r = other (record { packet_type = 207; count = 0; body = body_bytes r })

-- section 4.4: an NTP timestamp
abbrev pub reference_time_block : ℕ → Block
reference_time_block ntp_time = record { block_type = 4; type_specific = 0; contents = to_be_bytes w64 ntp_time }

-- section 4.5: the SSRC of a receiver, LRR and DLRR
abbrev pub sub_block_bytes : Dlrr → List ℕ
sub_block_bytes d = to_be_bytes w32 d.ssrc ++ (to_be_bytes w32 d.last_rr ++ to_be_bytes w32 d.delay)

abbrev pub dlrr_block : List Dlrr → Block
dlrr_block ds = record { block_type = 5; type_specific = 0; contents = flat_map sub_block_bytes ds }

-- ---- what blocks say

-- the first value that is there
abbrev pub or_else : {A : Type 0} → Option A → Option A → Option A
or_else (Some x) o = Some x
or_else None o = o

-- a block of type 4 and two words
abbrev pub reference_time_of : Block → Option ℕ
reference_time_of b = if (b.block_type == 4) && (length b.contents == 8) then Some (from_be_bytes w64 b.contents) else None

-- the first one
abbrev pub reference_time_in : List Block → Option ℕ
reference_time_in [] = None
reference_time_in (b ∷ bs) = or_else (reference_time_of b) (reference_time_in bs)

-- the sub-block at the front, of twelve bytes, and the bytes after it
unfoldable pub sub_block_at : List ℕ → Option (Dlrr × List ℕ)
sub_block_at (s3 ∷ s2 ∷ s1 ∷ s0 ∷ l3 ∷ l2 ∷ l1 ∷ l0 ∷ d3 ∷ d2 ∷ d1 ∷ d0 ∷ bytes) =
    Some (record { ssrc = from_be_bytes w32 (s3 ∷ s2 ∷ s1 ∷ s0 ∷ []); last_rr = from_be_bytes w32 (l3 ∷ l2 ∷ l1 ∷ l0 ∷ []); delay = from_be_bytes w32 (d3 ∷ d2 ∷ d1 ∷ d0 ∷ []) }, bytes)
sub_block_at bytes = None

-- all of them
unfoldable pub sub_blocks_in : List ℕ → List Dlrr
sub_blocks_in (s3 ∷ s2 ∷ s1 ∷ s0 ∷ l3 ∷ l2 ∷ l1 ∷ l0 ∷ d3 ∷ d2 ∷ d1 ∷ d0 ∷ bytes) =
    record { ssrc = from_be_bytes w32 (s3 ∷ s2 ∷ s1 ∷ s0 ∷ []); last_rr = from_be_bytes w32 (l3 ∷ l2 ∷ l1 ∷ l0 ∷ []); delay = from_be_bytes w32 (d3 ∷ d2 ∷ d1 ∷ d0 ∷ []) } ∷ sub_blocks_in bytes
sub_blocks_in bytes = []

-- the first one of that receiver
abbrev pub first_for : ℕ → List Dlrr → Option Dlrr
first_for ssrc [] = None
first_for ssrc (d ∷ ds) = if d.ssrc == ssrc then Some d else first_for ssrc ds

-- a block of type 5 with whole sub-blocks
abbrev pub dlrr_of : ℕ → Block → Option Dlrr
dlrr_of ssrc b = if (b.block_type == 5) && (length b.contents % 12 == 0) then first_for ssrc (sub_blocks_in b.contents) else None

-- the first one of that receiver
abbrev pub dlrr_in : ℕ → List Block → Option Dlrr
dlrr_in ssrc [] = None
dlrr_in ssrc (b ∷ bs) = or_else (dlrr_of ssrc b) (dlrr_in ssrc bs)
