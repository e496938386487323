-- The receiver reports that a session sends by itself (RFC 3550, sections 6.1 and 6.4.2).
use Rattle.std.specs.Prelude.{◌≡◌, ◌≤◌, ℕ, zero, suc, ◌+◌, ◌-◌, ◌*◌, ◌/◌, ◌%◌, max, min, ◌==◌, ◌&&◌, ◌||◌, not, nat_le, Bool, true, false, List, [], ◌∷◌, ◌++◌, map, take, Option, Some, None, Result, Ok, Err, length}
use Rattle.std.specs.Global.{Vec}
use Rattle.std.specs.List.{filter_map, flat_map}
use Rattle.std.specs.Option.{is_some}
use Rattle.std.specs.declared.alloc.AllocError.{AllocError}
use Rattle.codec_payload_feedback.specs.Feedback.{AppendsAll, cname_part}
use Rattle.codec_payload_rtcp.specs.RtcpItems.{block_bytes}
use Rattle.codec_payload_rtcp.specs.RtcpPackets.{IsCompound, Packet, receiver_report}
use Rattle.codec_payload_rtcp.specs.RtcpWriting.{AreUnpadded}
use Rattle.codec_payload_rtcp.specs.declared.items.ReportBlock.{ReportBlock}
use Rattle.codec_payload_feedback_xr.specs.Exchange.{exchange_packets, is_lost, reference_time, sent}
use Rattle.codec_payload_feedback_xr.specs.declared.exchange.TimeExchange.{TimeExchange}
use Rattle.codec_payload_session.specs.Arrivals.{Port, with_trip_if}
use Rattle.codec_payload_session_stream.specs.Reports.{block_of, reported_if}
use Rattle.codec_payload_session_requests.specs.Requests.{source_for}
use Rattle.codec_payload_session_stream.specs.Streams.{later}
use Rattle.codec_payload_session_formats.specs.declared.formats.FeedbackSettings.{FeedbackSettings}
use Rattle.codec_payload_session_stream.specs.declared.stream.StreamState.{StreamState}

-- ---- the streams of a report

-- a stream of the SSRC is announced
abbrev pub has_announced : ℕ → List StreamState → Bool
has_announced ssrc [] = false
has_announced ssrc (s ∷ ss) = (s.announced && (s.ssrc == ssrc)) || has_announced ssrc ss

-- the stream is announced, and no later announced stream has its SSRC
abbrev pub is_reported : StreamState → List StreamState → Bool
is_reported s later = s.announced && not (has_announced s.ssrc later)

abbrev pub is_first_reported : List StreamState → Bool
is_first_reported [] = false
is_first_reported (s ∷ later) = is_reported s later

-- the stream is reported, and this round of reports had no block about it; in a new round none was
abbrev pub is_due : Bool → StreamState → List StreamState → Bool
is_due is_new s later = is_reported s later && (is_new || not s.was_reported)

abbrev pub is_first_due : Bool → List StreamState → Bool
is_first_due is_new [] = false
is_first_due is_new (s ∷ later) = is_due is_new s later

abbrev pub due_if : Bool → StreamState → List StreamState → List StreamState
due_if true s ss = s ∷ ss
due_if false s ss = ss

-- the streams that this round of reports had no block about, in the order in which they began; in a new round all that are reported
abbrev pub due_streams : Bool → List StreamState → List StreamState
due_streams is_new [] = []
due_streams is_new (s ∷ later) = due_if (is_due is_new s later) s (due_streams is_new later)

-- a new round of reports begins with each report that has room for all streams, and once no stream is left that this round had no
-- block about
abbrev pub is_new_round : ℕ → List StreamState → Bool
is_new_round room ss = nat_le (length (due_streams true ss)) room || (length (due_streams false ss) == 0)

-- the blocks about the first streams that are due, for as many as there is room; a stream of which nothing came has a turn and no block
abbrev pub blocks_of : Bool → ℕ → ℕ → ℕ → List StreamState → List ReportBlock
blocks_of is_new room tick_rate now ss = filter_map (block_of tick_rate now) (take room (due_streams is_new ss))

-- the stream is due, and the report has room for it
abbrev pub is_chosen : Bool → ℕ → StreamState → List StreamState → Bool
is_chosen is_new room s later = nat_le 1 room && is_due is_new s later

abbrev pub is_first_chosen : Bool → ℕ → List StreamState → Bool
is_first_chosen is_new room [] = false
is_first_chosen is_new room (s ∷ later) = is_chosen is_new room s later

abbrev pub room_after : Bool → ℕ → ℕ
room_after true room = room - 1
room_after false room = room

-- the streams after a report of this round
abbrev pub all_reported : Bool → ℕ → List StreamState → List StreamState
all_reported is_new room [] = []
all_reported is_new room (s ∷ ss) = reported_if (is_chosen is_new room s ss) is_new s ∷ all_reported is_new (room_after (is_chosen is_new room s ss) room) ss

-- a report takes as many streams off its round as it has room for; so while no stream begins or ends, n streams have a turn each in
-- n / room reports, rounded up
abbrev pub TakeTurns : Type 0
TakeTurns = (is_new : Bool) (room : ℕ) (ss : List StreamState) → length (due_streams false (all_reported is_new room ss)) ≡ length (due_streams is_new ss) - room

-- ---- the packet

-- the bytes of the description of a source with a name of that many bytes (RFC 3550, section 6.5)
abbrev pub name_length : ℕ → ℕ
name_length zero = 0
name_length (suc n) = 12 + 4 * ((suc n + 2) / 4)

-- the blocks that fit into this number of bytes: receiver reports of 8 bytes and 31 blocks, and one with the rest
abbrev pub blocks_within : ℕ → ℕ
blocks_within bytes = 31 * (bytes / 752) + (bytes % 752 - 8) / 24

-- the room for extended reports: a reference time in 20 bytes, and an answer in 24
abbrev pub extended_length : Bool → ℕ
extended_length true = 44
extended_length false = 0

-- as many blocks as fit beside the name and the extended reports; at least one
abbrev pub most_blocks : FeedbackSettings → ℕ
most_blocks f = max 1 (blocks_within (f.max_report - name_length (min 255 (length f.cname.items)) - extended_length f.extended))

-- the bytes of a report with one block
abbrev pub least_report : FeedbackSettings → ℕ
least_report f = 32 + (name_length (min 255 (length f.cname.items)) + extended_length f.extended)

-- the blocks as they are in a packet, 24 bytes each
abbrev pub bytes_of : List ReportBlock → List ℕ
bytes_of bs = flat_map block_bytes bs

abbrev pub bytes_if : Option ReportBlock → List ℕ
bytes_if None = []
bytes_if (Some b) = block_bytes b

-- the bytes in groups: 31 blocks of 24 bytes in each group but the last, and at most 31 blocks in the last
abbrev pub AreGroups : List (List ℕ) → List ℕ → Type 0
AreGroups [] bytes = ⊥
AreGroups (g ∷ []) bytes = (bytes ≡ g) × (length g ≤ 744)
AreGroups (g ∷ h ∷ gs) bytes = (rest : List ℕ) × (bytes ≡ g ++ rest) × (length g ≡ 744) × (1 ≤ length rest) × AreGroups (h ∷ gs) rest

abbrev pub report_of_group : ℕ → List ℕ → Packet
report_of_group ssrc blocks = receiver_report (record { ssrc = ssrc; blocks = blocks; extension = [] })

-- new is old with receiver reports at its end, whose groups are the blocks
abbrev pub AppendsGroups : ℕ → List ℕ → List ℕ → List ℕ → Type 0
AppendsGroups ssrc blocks old new = (groups : List (List ℕ)) × AreGroups groups blocks × AppendsAll (map (report_of_group ssrc) groups) old new

abbrev pub extended_if : Bool → (ssrc time : ℕ) → TimeExchange → List Packet
extended_if true ssrc time x = exchange_packets ssrc time x
extended_if false ssrc time x = []

-- the extended reports that leave at this NTP time, if the session has them
abbrev pub extended_part : FeedbackSettings → ℕ → TimeExchange → List Packet
extended_part f time x = extended_if f.extended f.ssrc time x

abbrev pub report_packets : FeedbackSettings → List (List ℕ) → List Packet → List Packet
report_packets f groups extended = map (report_of_group f.ssrc) groups ++ (cname_part (source_for f) ++ extended)

-- a compound packet: receiver reports with the bytes of these blocks, 31 blocks in each but the last, the name of the session, if it
-- has one, and these extended reports. Without a block there is one empty report. The packet fits into the bytes of the settings,
-- unless these have no room for one block
pub record IsReport (f : FeedbackSettings) (blocks : List ℕ) (extended : List Packet) (bytes : List ℕ) : Type 0 where
  pub fits : length bytes ≤ max f.max_report (least_report f)
  pub groups : List (List ℕ)
  pub are_groups : AreGroups groups blocks
  pub unpadded : AreUnpadded (report_packets f groups extended) bytes
  pub compound : IsCompound true (report_packets f groups extended) bytes

-- ---- when a report is sent

abbrev pub any_announced : List StreamState → Bool
any_announced [] = false
any_announced (s ∷ ss) = s.announced || any_announced ss

abbrev pub is_time : ℕ → Option ℕ → Bool
is_time now None = false
is_time now (Some at) = nat_le at now

-- there is something to report: a stream is announced, or a reference time waits for its answer
abbrev pub is_reporting : Port → Bool
is_reporting p = any_announced p.streams || is_some p.exchange.peer

abbrev pub is_due_if : Bool → ℕ → Option ℕ → Bool
is_due_if reporting now due = reporting && is_time now due

-- a report is due: its time has come, and there is something to report
abbrev pub is_report_due : ℕ → Option ℕ → Port → Bool
is_report_due now due p = is_due_if (is_reporting p) now due

abbrev pub due_again : ℕ → ℕ → Option ℕ → Option ℕ
due_again interval now None = later now (max 1 interval)
due_again interval now (Some at) = Some at

-- with nothing to report no report is planned; the first one is due one interval after there is something
abbrev pub planned : Bool → ℕ → ℕ → Option ℕ → Option ℕ
planned false interval now due = None
planned true interval now due = due_again interval now due

-- one interval after a packet; if memory ran out the report stays due
abbrev pub due_after : Result (Vec ℕ) AllocError → ℕ → ℕ → Option ℕ → Option ℕ
due_after (Ok packet) interval now due = later now (max 1 interval)
due_after (Err e) interval now due = due

-- after a report without an answer to the three before it the round trip is not known any more
abbrev pub noted_sent : Port → Port
noted_sent p = with_trip_if (is_lost p.exchange) (record p { exchange = sent p.exchange })

-- the packet has the blocks of the streams whose turn it is, and the extended reports, and the next one is due one interval later; if
-- memory runs out, nothing has changed
abbrev pub Reports : FeedbackSettings → (interval tick_rate now : ℕ) → Option ℕ → Port → Result (Vec ℕ) AllocError → Option ℕ → Port → Type 0
Reports f interval tick_rate now due p (Ok packet) next q =
    IsReport f (bytes_of (blocks_of (is_new_round (most_blocks f) p.streams) (most_blocks f) tick_rate now p.streams)) (extended_part f (reference_time now tick_rate) p.exchange) packet.items
    × (next ≡ later now (max 1 interval))
    × (q ≡ noted_sent (record p { streams = all_reported (is_new_round (most_blocks f) p.streams) (most_blocks f) p.streams }))
Reports f interval tick_rate now due p (Err e) next q = (next ≡ due) × (q ≡ p)

abbrev pub ReportsIf : Bool → FeedbackSettings → (interval tick_rate now : ℕ) → Option ℕ → Port → Option (Result (Vec ℕ) AllocError) → Option ℕ → Port → Type 0
ReportsIf false f interval tick_rate now due p answer next q = (answer ≡ None) × (next ≡ planned (is_reporting p) interval now due) × (q ≡ p)
ReportsIf true f interval tick_rate now due p answer next q =
    (packet : Result (Vec ℕ) AllocError) × (answer ≡ Some packet) × Reports f interval tick_rate now due p packet next q

abbrev pub ReportsEach : Option ℕ → FeedbackSettings → (tick_rate now : ℕ) → Option ℕ → Port → Option (Result (Vec ℕ) AllocError) → Option ℕ → Port → Type 0
ReportsEach None f tick_rate now due p answer next q = (answer ≡ None) × (next ≡ due) × (q ≡ p)
ReportsEach (Some interval) f tick_rate now due p answer next q =
    ReportsIf (is_report_due now due p) f interval tick_rate now due p answer next q

-- the settings say whether reports are sent, and how often; due and next are when the next report is due, before and after
abbrev pub ReportsBy : Option FeedbackSettings → (tick_rate now : ℕ) → Option ℕ → Port → Option (Result (Vec ℕ) AllocError) → Option ℕ → Port → Type 0
ReportsBy None tick_rate now due p answer next q = (answer ≡ None) × (next ≡ due) × (q ≡ p)
ReportsBy (Some f) tick_rate now due p answer next q = ReportsEach f.report_interval f tick_rate now due p answer next q

-- when the next report is due, as long as there is something to report
abbrev pub deadline_if : Bool → Option ℕ → Option ℕ
deadline_if true due = due
deadline_if false due = None

abbrev pub report_deadline : Option ℕ → Port → Option ℕ
report_deadline due p = deadline_if (is_reporting p) due
