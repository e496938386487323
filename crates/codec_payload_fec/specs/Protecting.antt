-- A packet of FEC that was made from packets, and what it rebuilds.
use Rattle.std.specs.Prelude.{◌≡◌, ◌⊎◌, ℕ, ◌<◌, ◌≤◌, List, [], ◌∷◌, length, map, Option, Some, None, IfSome, IsTrue, is_ok, take, drop}
use Rattle.std.specs.Int.{w32, from_be_bytes}
use Rattle.codec_payload_base.specs.Flags.{AreBytes}
use Rattle.codec_payload_rtp.specs.RtpReading.{rtp_at}
use Rattle.codec_payload_fec.specs.Fec.{Fec, numbers}
use Rattle.codec_payload_fec.specs.Rebuilding.{missing_of, rebuilt}
use Rattle.codec_payload_fec.specs.Strings.{number_of, xor_all}

-- The packet of FEC protects these packets: their numbers are those of the mask, in order, and its recovery fields and payload are the
-- exclusive or of their bit strings
pub record Protects (f : Fec) (packets : List (List ℕ)) : Type 0 where
  pub numbers_are : numbers f ≡ map number_of packets
  pub is_sum : f.recovery ≡ xor_all packets

-- an RTP packet of the stream with this SSRC, of at most 65,547 bytes
pub record IsOfStream (ssrc : ℕ) (p : List ℕ) : Type 0 where
  pub are_bytes : AreBytes p
  pub is_rtp : IsTrue (is_ok (rtp_at p))
  pub source : from_be_bytes w32 (take 4 (drop 8 p)) ≡ ssrc
  pub few : length p < 65548

abbrev pub AreOfStream : ℕ → List (List ℕ) → Type 0
AreOfStream ssrc [] = Unit {0}
AreOfStream ssrc (p ∷ ps) = IsOfStream ssrc p × AreOfStream ssrc ps

-- each of the packets came, or nothing is kept under its number
abbrev pub CameOrLost : (ℕ → Option (List ℕ)) → List ℕ → Type 0
CameOrLost find p = (find (number_of p) ≡ None) ⊎ (find (number_of p) ≡ Some p)

abbrev pub AllCameOrLost : (ℕ → Option (List ℕ)) → List (List ℕ) → Type 0
AllCameOrLost find [] = Unit {0}
AllCameOrLost find (p ∷ ps) = CameOrLost find p × AllCameOrLost find ps

abbrev pub IsAmong : List ℕ → List (List ℕ) → Type 0
IsAmong p [] = ⊥
IsAmong p (q ∷ qs) = (p ≡ q) ⊎ IsAmong p qs

-- Whatever was lost: what is rebuilt is one of the packets, byte for byte, and nothing was kept under its number
abbrev pub RebuildsPackets : Type 0
RebuildsPackets =
    (ssrc : ℕ) (f : Fec) (packets : List (List ℕ)) (find : ℕ → Option (List ℕ)) → Protects f packets → AreOfStream ssrc packets → AllCameOrLost find packets
    → IfSome (rebuilt ssrc f find) (λ p. IsAmong p packets × (find (number_of p) ≡ None))

-- If one number alone is missing, its packet is rebuilt
abbrev pub RebuildsTheMissing : Type 0
RebuildsTheMissing =
    (ssrc : ℕ) (f : Fec) (packets : List (List ℕ)) (find : ℕ → Option (List ℕ)) (n : ℕ) → Protects f packets → AreOfStream ssrc packets → AllCameOrLost find packets
    → missing_of find (numbers f) ≡ n ∷ [] → (p : List ℕ) × (rebuilt ssrc f find ≡ Some p) × IsAmong p packets × (number_of p ≡ n)

-- If two or more were lost, nothing is rebuilt
abbrev pub TwoRebuildNothing : Type 0
TwoRebuildNothing =
    (ssrc : ℕ) (f : Fec) (find : ℕ → Option (List ℕ)) → 2 ≤ length (missing_of find (numbers f)) → rebuilt ssrc f find ≡ None
