-- A sender takes few distances.
use Rattle.std.proofs.Common.{◌≡◌, ℕ, ◌+◌, ◌<◌, ◌≤◌, List, [], ◌∷◌, length, true, ltb, leb, ◌&&◌, arith}
use Rattle.std.proofs.lemmas.Bool.{and_parts, ltb-true, leb-true}
use Rattle.codec_payload_core.specs.RedLevels.{rises_above, is_accepted}

rises_few : (low : ℕ) (ds : List ℕ) → rises_above low ds ≡ true → low ≤ 8 → low + length ds ≤ 8
rises_few low [] rises le = omega arith
rises_few low (d ∷ ds) rises le =
    let (both, rest) = and_parts (ltb low d && leb d 8) (rises_above d ds) rises in
    let (above, most) = and_parts (ltb low d) (leb d 8) both in
    let here : low < d = ltb-true low d above in
    let small : d ≤ 8 = leb-true d 8 most in
    omega (arith, rises_few d ds rest small)

pub accepted_few : (ds : List ℕ) → is_accepted ds ≡ true → length ds ≤ 8
accepted_few ds accepted = omega (arith, rises_few 0 ds accepted (omega arith))
