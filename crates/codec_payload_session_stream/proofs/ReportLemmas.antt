-- Sender reports, and report blocks.
use Rattle.std.proofs.Common.{◌≡◌, ℕ, suc, List, [], ◌∷◌, length, Option, Some, None, Result, Ok, Err, ap, refl}
use Rattle.codec_payload_base.specs.declared.wire.Ticks.{Ticks}
use Rattle.codec_payload_rtcp.specs.RtcpPackets.{Packet, Sender}
use Rattle.codec_payload_rtcp.specs.declared.packet.RtcpError.{RtcpError}
use Rattle.codec_payload_session_stream.specs.Reports.{clock_after, later_of, latest, noted, noted_in, noted_where, report_by}
use Rattle.codec_payload_session_stream.specs.declared.reports.SenderClock.{SenderClock}
use Rattle.codec_payload_session_stream.specs.declared.stream.StreamState.{StreamState}

-- ---- packets one after another

later_clock : (now : Ticks) (a b : Option Sender) (c : Option SenderClock) → clock_after now (later_of a b) c ≡ clock_after now a (clock_after now b c)
later_clock now None b c = refl
later_clock now (Some r) b c = refl

noted_one : (now : Ticks) (p : Packet) (ps : List Packet) (s : StreamState) → noted now (p ∷ ps) s ≡ noted now ps (noted now (p ∷ []) s)
noted_one now p ps s = ap (λ (c : Option SenderClock). record s { sender_clock = c }) (later_clock now (latest s.ssrc ps) (report_by s.ssrc p) s.sender_clock)

-- the first packet, and then the others
pub noted_first : (now : Ticks) (p : Packet) (ps : List Packet) (ss : List StreamState) → noted_where now ps (noted_where now (p ∷ []) ss) ≡ noted_where now (p ∷ ps) ss
noted_first now p ps [] = refl
noted_first now p ps (s ∷ ss) = rw (noted_one now p ps s, noted_first now p ps ss) refl

pub noted_nothing : (now : Ticks) (ss : List StreamState) → noted_where now [] ss ≡ ss
noted_nothing now [] = refl
noted_nothing now (s ∷ ss) = ap (λ (l : List StreamState). s ∷ l) (noted_nothing now ss)

-- another packet than a sender report
pub noted_other : (now : Ticks) (p : Packet) (ss : List StreamState) → ((ssrc : ℕ) → report_by ssrc p ≡ None) → noted_where now (p ∷ []) ss ≡ ss
noted_other now p [] none = refl
noted_other now p (s ∷ ss) none = rw (none s.ssrc, noted_other now p ss none) refl

-- ---- the number of streams

pub noted_length : (now : Ticks) (o : Result (List Packet) RtcpError) (ss : List StreamState) → length (noted_in now o ss) ≡ length ss
noted_length now (Err e) ss = refl
noted_length now (Ok ps) [] = refl
noted_length now (Ok ps) (s ∷ ss) = ap suc (noted_length now (Ok ps) ss)
