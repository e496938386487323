-- The streams that leave by name, one name after another.
use Rattle.std.proofs.Common.{◌≡◌, ℕ, List, [], ◌∷◌, Bool, true, false, ◌||◌, ap, refl, arith}
use Rattle.std.proofs.Math.Nat.{min-eq_left, min-le_right}
use Rattle.codec_payload_base.specs.declared.wire.Ticks.{Ticks}
use Rattle.codec_payload_rtcp.specs.RtcpPackets.{Packet}
use Rattle.codec_payload_session.specs.Arrivals.{left_where}
use Rattle.codec_payload_session_stream.specs.Reports.{noted, noted_where}
use Rattle.codec_payload_session_stream.specs.Streams.{left_when, stage_left}
use Rattle.codec_payload_session_stream.specs.declared.stream.Ending.{Ending}
use Rattle.codec_payload_session_stream.specs.declared.stream.Stage.{Stage}
use Rattle.codec_payload_session_stream.specs.declared.stream.Stage.TheVariants as stages
use Rattle.codec_payload_session_stream.specs.declared.stream.StreamState.{StreamState}

-- who leaves twice at one time leaves once
stage_twice : (why : Ending) (at : ℕ) (x : Stage) → stage_left why at (stage_left why at x) ≡ stage_left why at x
stage_twice why at stages.Probation = ap (λ (n : ℕ). stages.Leaving why n) (min-eq_left {n = at} {m = at} (omega arith))
stage_twice why at stages.Playing = ap (λ (n : ℕ). stages.Leaving why n) (min-eq_left {n = at} {m = at} (omega arith))
stage_twice why at (stages.Leaving first before) = ap (λ (n : ℕ). stages.Leaving first n) (min-eq_left (min-le_right before at))
stage_twice why at (stages.Draining first) = refl

left_twice : (why : Ending) (at : ℕ) (b : Bool) (s : StreamState) → left_when b why at (left_when true why at s) ≡ left_when true why at s
left_twice why at true s = ap (λ (x : Stage). record s { stage = x }) (stage_twice why at s.stage)
left_twice why at false s = refl

left_once : (why : Ending) (at : ℕ) (B : ℕ → Bool) (a : Bool) (s : StreamState)
    → left_when (B (left_when a why at s).ssrc) why at (left_when a why at s) ≡ left_when (a || B s.ssrc) why at s
left_once why at B true s = left_twice why at (B s.ssrc) s
left_once why at B false s = refl

-- those of A, and then those of B
pub left_either : (A B : ℕ → Bool) (why : Ending) (at : ℕ) (ss : List StreamState)
    → left_where B why at (left_where A why at ss) ≡ left_where (λ ssrc. A ssrc || B ssrc) why at ss
left_either A B why at [] = refl
left_either A B why at (s ∷ ss) = rw (left_once why at B (A s.ssrc) s, left_either A B why at ss) refl

pub left_same : (A B : ℕ → Bool) (why : Ending) (at : ℕ) (ss : List StreamState) → ((ssrc : ℕ) → A ssrc ≡ B ssrc) → left_where A why at ss ≡ left_where B why at ss
left_same A B why at [] same = refl
left_same A B why at (s ∷ ss) same = rw (same s.ssrc, left_same A B why at ss same) refl

pub left_nobody : (A : ℕ → Bool) (why : Ending) (at : ℕ) (ss : List StreamState) → ((ssrc : ℕ) → A ssrc ≡ false) → left_where A why at ss ≡ ss
left_nobody A why at [] none = refl
left_nobody A why at (s ∷ ss) none = rw (none s.ssrc, left_nobody A why at ss none) refl

-- a stream keeps its clock as it leaves, so both orders give the same
noted_left_one : (now : Ticks) (ps : List Packet) (b : Bool) (why : Ending) (at : ℕ) (s : StreamState) → noted now ps (left_when b why at s) ≡ left_when b why at (noted now ps s)
noted_left_one now ps true why at s = refl
noted_left_one now ps false why at s = refl

pub noted_left : (now : Ticks) (ps : List Packet) (A : ℕ → Bool) (why : Ending) (at : ℕ) (ss : List StreamState)
    → noted_where now ps (left_where A why at ss) ≡ left_where A why at (noted_where now ps ss)
noted_left now ps A why at [] = refl
noted_left now ps A why at (s ∷ ss) = rw (noted_left_one now ps (A s.ssrc) why at s, noted_left now ps A why at ss) refl
