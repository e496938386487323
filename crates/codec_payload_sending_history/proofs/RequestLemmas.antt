-- The entries of a full intra request.
use Rattle.std.proofs.Common.{◌≡◌, ◌≢◌, ◌<◌, ℕ, List, ◌∷◌, length, Bool, true, false, ◌||◌, eqb, Option, Some, None, ap, ◌∙◌, arith}
use Rattle.std.proofs.lemmas.Bool.{eq-eqb, ne_eqb}
use Rattle.codec_payload_sending_history.specs.Requests.{entry_at_front, names}

abbrev pub named_first : ℕ → Option (ℕ × List ℕ) → Bool
named_first ssrc None = false
named_first ssrc (Some x) = eqb x.0 ssrc || names ssrc x.1

-- the entry at the front names the source, or one after it
pub names_more : (ssrc : ℕ) (bytes : List ℕ) (o : Option (ℕ × List ℕ)) → entry_at_front bytes ≡ o → names ssrc bytes ≡ named_first ssrc o
unfolding entry_at_front names
names_more ssrc (s3 ∷ s2 ∷ s1 ∷ s0 ∷ number ∷ r2 ∷ r1 ∷ r0 ∷ entries) o e = ap (named_first ssrc) e
names_more ssrc bytes o e = ap (named_first ssrc) e

abbrev left_of : Option (ℕ × List ℕ) → ℕ
left_of None = 0
left_of (Some x) = length x.1

-- the entries after it are fewer
pub entries_fewer : (bytes : List ℕ) (x : ℕ × List ℕ) → entry_at_front bytes ≡ Some x → length x.1 < length bytes
unfolding entry_at_front
entries_fewer (s3 ∷ s2 ∷ s1 ∷ s0 ∷ number ∷ r2 ∷ r1 ∷ r0 ∷ entries) x e = omega (arith, ap left_of e)
entries_fewer bytes x e = absurd (cc)

-- the entry at the front names the source
pub named_here : (ssrc : ℕ) (bytes : List ℕ) (x : ℕ × List ℕ) → entry_at_front bytes ≡ Some x → x.0 ≡ ssrc → names ssrc bytes ≡ true
named_here ssrc bytes x e is = names_more ssrc bytes (Some x) e ∙ ap (λ b. b || names ssrc x.1) (eq-eqb x.0 ssrc is)

-- or it does not
pub named_later : (ssrc : ℕ) (bytes : List ℕ) (x : ℕ × List ℕ) → entry_at_front bytes ≡ Some x → x.0 ≢ ssrc → names ssrc bytes ≡ names ssrc x.1
named_later ssrc bytes x e is = names_more ssrc bytes (Some x) e ∙ ap (λ b. b || names ssrc x.1) (ne_eqb x.0 ssrc is)

pub named_nowhere : (ssrc : ℕ) (bytes : List ℕ) → entry_at_front bytes ≡ None → names ssrc bytes ≡ false
named_nowhere ssrc bytes e = names_more ssrc bytes None e
