-- The SSRCs of streams: what keeps them, and what the list of them finds.
use Rattle.std.proofs.Common.{◌≡◌, ◌<◌, ℕ, zero, suc, List, [], ◌∷◌, length, get_or, ap, refl, arith}
use Rattle.codec_payload_session_stream.specs.Streams.{StreamState}
use Rattle.codec_payload_session_stream.specs.Waking.{ssrcs_of}

-- ---- lists

pub count_of : (ss : List StreamState) → length (ssrcs_of ss) ≡ length ss
count_of [] = refl
count_of (s ∷ ss) = ap suc (count_of ss)

-- ---- what the list finds

pub ssrc_at : (ss : List StreamState) (k : ℕ) (d : StreamState) → k < length ss → get_or (ssrcs_of ss) k 0 ≡ (get_or ss k d).ssrc
ssrc_at [] k d within = absurd (omega (arith, within))
ssrc_at (s ∷ ss) zero d within = refl
ssrc_at (s ∷ ss) (suc k) d within = ssrc_at ss k d (omega (arith, within))
