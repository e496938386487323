-- Packets of FEC that this library's writer makes.
use Rattle.std.specs.Prelude.{◌≡◌, ℕ, ◌+◌, ◌<◌, ◌≤◌, List, [], ◌∷◌, Option, Some}
use Rattle.codec_payload_fec.specs.Fec.{Fec}
use Rattle.codec_payload_fec.specs.Writing.{IsOneOf, fecs}
use Rattle.codec_payload_fec_receiver.specs.Runs.{IsMadeFrom, IsSender}

-- packets that were sent with the 8,000 numbers from n on
abbrev pub WereSentFrom : (ℕ → Option (List ℕ)) → ℕ → List (List ℕ) → Type 0
WereSentFrom sent n [] = Unit {0}
WereSentFrom sent n (p ∷ ps) = ((i : ℕ) × (sent i ≡ Some p) × (n ≤ i) × (i < n + 8000)) × WereSentFrom sent n ps

-- FEC that the writer makes for packets of a sender, with any protection, is made from sent packets
abbrev pub OwnFecIsMade : Type 0
OwnFecIsMade =
    (ssrc protection n : ℕ) (sent : ℕ → Option (List ℕ)) (packets : List (List ℕ)) (f : Fec) → IsSender ssrc sent → 48 ≤ n → WereSentFrom sent n packets
    → f.base < 65536 → IsOneOf f (fecs protection packets) → (m : ℕ) × IsMadeFrom sent m f
