-- The SSRCs of a BYE.
use Rattle.std.proofs.Common.{◌≡◌, ◌<◌, ℕ, List, ◌∷◌, length, Bool, false, ◌||◌, eqb, Option, Some, None, ap, arith}
use Rattle.codec_payload_session.specs.Arrivals.{names, source_at_front}

abbrev pub named_first : ℕ → Option (ℕ × List ℕ) → Bool
named_first ssrc None = false
named_first ssrc (Some x) = eqb x.0 ssrc || names ssrc x.1

-- the SSRC is at the front, or after it
pub names_more : (ssrc : ℕ) (bytes : List ℕ) (o : Option (ℕ × List ℕ)) → source_at_front bytes ≡ o → names ssrc bytes ≡ named_first ssrc o
unfolding source_at_front names
names_more ssrc (s3 ∷ s2 ∷ s1 ∷ s0 ∷ ssrcs) o e = ap (named_first ssrc) e
names_more ssrc bytes o e = ap (named_first ssrc) e

abbrev left_of : Option (ℕ × List ℕ) → ℕ
left_of None = 0
left_of (Some x) = length x.1

-- the SSRCs after the front are fewer
pub sources_fewer : (bytes : List ℕ) (x : ℕ × List ℕ) → source_at_front bytes ≡ Some x → length x.1 < length bytes
unfolding source_at_front
sources_fewer (s3 ∷ s2 ∷ s1 ∷ s0 ∷ ssrcs) x e = omega (arith, ap left_of e)
sources_fewer bytes x e = absurd (cc)

pub named_nowhere : (ssrc : ℕ) (bytes : List ℕ) → source_at_front bytes ≡ None → names ssrc bytes ≡ false
named_nowhere ssrc bytes e = names_more ssrc bytes None e
