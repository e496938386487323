-- The choice of the SSRC of a stream, if the settings name none.
use Rattle.std.specs.Prelude.{◌≡◌, ℕ, ◌+◌, ◌-◌, ◌%◌, ◌==◌, ◌&&◌, ◌||◌, nat_le, nat_lt, if◌then◌else◌, Bool, true, false, List, [], ◌∷◌, ◌++◌, Option, Some, None, length, refl}
use Rattle.std.specs.List.{position, remove}
use Rattle.codec_payload_base.specs.declared.wire.Ticks.{Ticks}
use Rattle.codec_payload_datagrams.specs.Kinds.{Datagram, RtcpPacket, Malformed, OfOthers, WithoutMedia, WithMedia, InRed, Again, AgainInRed, AgainEmpty}
use Rattle.codec_payload_datagrams.specs.declared.choice.Candidate.{Candidate}
use Rattle.codec_payload_datagrams.specs.declared.choice.Origin.{Origin}
use Rattle.codec_payload_datagrams.specs.declared.choice.Verdict.{Verdict}
use Rattle.codec_payload_datagrams.specs.declared.choice.Verdict.TheVariants as verdicts

-- the packets that wait for the choice, in order of arrival; when the latest packet of the stream arrived; how many ticks the
-- stream must be silent before another one can be chosen
pub record Choosing : Type 0 where
  pub candidates : List Candidate
  pub latest : Option ℕ
  pub silence : ℕ

abbrev pub no_choice : ℕ → Choosing
no_choice silence = record { candidates = []; latest = None; silence = silence }

-- the SSRC and the number of a packet with a payload type of the stream
abbrev pub origin_of : Datagram → Option Origin
origin_of (WithoutMedia h) = Some (record { ssrc = h.ssrc; number = h.sequence_number })
origin_of (WithMedia p) = Some (record { ssrc = p.header.ssrc; number = p.header.sequence_number })
origin_of (InRed c) = Some (record { ssrc = c.header.ssrc; number = c.header.sequence_number })
origin_of RtcpPacket = None
origin_of (Malformed e) = None
origin_of OfOthers = None
origin_of (Again o) = None
origin_of (AgainInRed c) = None
origin_of AgainEmpty = None

-- two 16-bit numbers are 1 to 100 apart, in either order
abbrev pub are_near : ℕ → ℕ → Bool
are_near m n = let d = (n + 65536 - m) % 65536 in nat_lt 0 d && (nat_le d 100 || nat_le 65436 d)

-- a waiting packet of this SSRC with a near number
abbrev pub near_place : Origin → List Candidate → Option ℕ
near_place o candidates = position (λ (c : Candidate). (c.ssrc == o.ssrc) && are_near c.number o.number) candidates

-- Packets wait

-- the packet that a packet of this SSRC replaces: a packet of the same SSRC, or the first of four packets
abbrev pub first_of_four : Option ℕ → ℕ → Option ℕ
first_of_four (Some place) count = Some place
first_of_four None count = if nat_le 4 count then Some 0 else None

abbrev pub same_place : ℕ → List Candidate → Option ℕ
same_place ssrc candidates = position (λ (c : Candidate). c.ssrc == ssrc) candidates

abbrev pub leaving : ℕ → List Candidate → Option ℕ
leaving ssrc candidates = first_of_four (same_place ssrc candidates) (length candidates)

abbrev pub without : Option ℕ → List Candidate → List Candidate
without None candidates = candidates
without (Some place) candidates = remove candidates place

-- the waiting packets with one more
abbrev pub waiting_with : Candidate → List Candidate → List Candidate
waiting_with c candidates = without (leaving c.ssrc candidates) (candidates ++ c ∷ [])

-- c keeps this datagram
pub record IsCandidate (now : Ticks) (o : Origin) (bytes : List ℕ) (c : Candidate) : Type 0 where
  pub received : c.received ≡ now
  pub ssrc : c.ssrc ≡ o.ssrc
  pub number : c.number ≡ o.number
  pub whole : c.bytes.items ≡ bytes

-- Verdicts

abbrev pub is_the : Option ℕ → ℕ → Bool
is_the None ssrc = false
is_the (Some known) ssrc = known == ssrc

abbrev pub verdict_at : Option ℕ → Origin → Verdict
verdict_at (Some place) o = verdicts.Choose place
verdict_at None o = verdicts.Keep o

-- the verdict for a packet that is not of the stream: if a packet near it waits, its SSRC is chosen; otherwise it waits
abbrev pub verdict_of : List Candidate → Option ℕ → Option Origin → Verdict
verdict_of candidates known None = verdicts.Hear
verdict_of candidates known (Some o) = if is_the known o.ssrc then verdicts.Hear else verdict_at (near_place o candidates) o

-- when the latest packet of the stream arrived
abbrev pub latest_after : Option ℕ → ℕ → Option Origin → Option ℕ
latest_after latest now None = latest
latest_after latest now (Some o) = Some now

-- no packet of the stream arrived for this number of ticks
abbrev pub silent_by : Option ℕ → ℕ → ℕ → Bool
silent_by None silence now = false
silent_by (Some latest) silence now = nat_le silence (now - latest)

abbrev pub is_silent : Choosing → ℕ → Bool
is_silent c now = silent_by c.latest c.silence now

-- across the wrap, the same number, and more than 100 apart
pub near-wrap : are_near 65535 0 ≡ true
near-wrap = refl

pub near-wrap-back : are_near 2 65500 ≡ true
near-wrap-back = refl

pub near-same : are_near 7 7 ≡ false
near-same = refl

pub near-far : are_near 7 108 ≡ false
near-far = refl
