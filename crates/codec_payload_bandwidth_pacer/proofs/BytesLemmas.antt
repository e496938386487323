-- How many bytes wait.
use Rattle.std.proofs.Common.{◌≡◌, ◌+◌, List, [], ◌∷◌, ◌++◌, arith}
use Rattle.codec_payload_bandwidth_pacer.specs.declared.pacer.Waiting.{Waiting}
use Rattle.codec_payload_bandwidth_pacer.specs.Pacing.{bytes_of}

pub bytes_more : (ws : List Waiting) (w : Waiting) → bytes_of (ws ++ w ∷ []) ≡ bytes_of ws + w.size
bytes_more [] w = omega arith
bytes_more (v ∷ ws) w = omega (arith, bytes_more ws w)
