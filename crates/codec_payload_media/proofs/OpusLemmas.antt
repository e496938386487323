-- The lengths of frames, one after another.
use Rattle.std.proofs.Common.{◌≡◌, ℕ, suc, ◌+◌, ◌-◌, ◌<◌, List, Result, Ok, ap, ◌∙◌, arith}
use Rattle.codec_payload_vpx.specs.declared.error.MediaError.{MediaError}
use Rattle.codec_payload_vpx.specs.Reading.{◌>>=◌}
use Rattle.codec_payload_media.specs.OpusPackets.{length_at, lengths_at}

pub lengths_step : (n i sum : ℕ) (bytes : List ℕ) (x : ℕ × List ℕ) → i < n → length_at bytes ≡ Ok x → lengths_at (n - i) sum bytes ≡ lengths_at (n - (i + 1)) (sum + x.0) x.1
unfolding lengths_at
lengths_step n i sum bytes x lt ok =
    let m : ℕ = n - (i + 1) in
    let e : n - i ≡ suc m = omega (arith, lt) in
    ap (λ (k : ℕ). lengths_at k sum bytes) e ∙ ap (λ (r : Result (ℕ × List ℕ) MediaError). r >>= λ first. lengths_at m (sum + first.0) first.1) ok
