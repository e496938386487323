-- Streams whose formats stay, and streams whose formats are gone.
use Rattle.std.proofs.Common.{◌≡◌, ◌<◌, inl, inr, ℕ, zero, suc, ◌+◌, List, [], ◌∷◌, ◌++◌, length, take, drop, ap, refl, sym, ◌∙◌, arith, add-one, slice_index_or, slice_set, subst, Bool, true, false, not, IsTrue, IsFalse}
use Rattle.codec_payload_session_stream.specs.Renegotiation.{IsAmong, IsGone, StaysOrEnds, StayOrEnd}
use Rattle.codec_payload_session_stream.specs.Streams.{left_when}
use Rattle.codec_payload_session_formats.specs.declared.formats.Format.{Format}
use Rattle.codec_payload_session_stream.specs.declared.stream.Ending.TheVariants as endings
use Rattle.codec_payload_session_stream.specs.declared.stream.StreamState.{StreamState}

-- the format at a place is among them
pub among : (f d : Format) (gs : List Format) (i : ℕ) → i < length gs → slice_index_or gs i d ≡ f → IsAmong f gs
among f d [] i within is = absurd (omega (arith, within))
among f d (g ∷ gs) zero within is = inl is
among f d (g ∷ gs) (suc i) within is = inr (among f d gs i (omega (arith, within)) is)

gone_with : (f g : Format) (gs : List Format) → (g ≡ f → ⊥) → IsGone f gs → IsGone f (g ∷ gs)
gone_with f g gs other gone (inl is) = other is
gone_with f g gs other gone (inr h) = gone h

gone_after : (f d : Format) (gs : List Format) (i : ℕ) → i < length gs → IsGone f (take i gs) → (slice_index_or gs i d ≡ f → ⊥) → IsGone f (take (suc i) gs)
gone_after f d [] i within gone other = λ h. h
gone_after f d (g ∷ gs) zero within gone other = gone_with f g [] other (λ h. h)
gone_after f d (g ∷ gs) (suc i) within gone other =
    gone_with f g (take (suc i) gs) (λ is. gone (inl is)) (gone_after f d gs i (omega (arith, within)) (λ h. gone (inr h)) other)

-- one more format is another one
pub gone_on : (f d : Format) (gs : List Format) (i : ℕ) → i < length gs → IsGone f (take i gs) → (slice_index_or gs i d ≡ f → ⊥) → IsGone f (take (i + 1) gs)
gone_on f d gs i within gone other = subst (λ n. IsGone f (take n gs)) (sym (add-one i)) (gone_after f d gs i within gone other)

-- a stream ends exactly if its format is gone
pub stays_or_ends : (fs : List Format) (at : ℕ) (s : StreamState) (found : Bool) → (IsTrue found → IsAmong s.format fs) → (IsFalse found → IsGone s.format fs)
    → StaysOrEnds fs at s (left_when (not found) endings.Changed at s)
stays_or_ends fs at s true there gone = inl (there refl, refl)
stays_or_ends fs at s false there gone = inr (gone refl, refl)

-- the streams up to a place stay or end, and the others are as they were
abbrev pub Reaches : List Format → ℕ → List StreamState → ℕ → List StreamState → Type 0
Reaches fs at xs i ys = (done : List StreamState) × StayOrEnd fs at (take i xs) done × (ys ≡ done ++ drop i xs)

reaches_after : (fs : List Format) (at : ℕ) (xs done : List StreamState) (i : ℕ) (d t : StreamState) → i < length xs → StayOrEnd fs at (take i xs) done
    → StaysOrEnds fs at (slice_index_or (done ++ drop i xs) i d) t → Reaches fs at xs (suc i) (slice_set (done ++ drop i xs) i t)
reaches_after fs at [] done i d t within are went = absurd (omega (arith, within))
reaches_after fs at (x ∷ xs) [] zero d t within are went = (t ∷ [], (went, tt), refl)
reaches_after fs at (x ∷ xs) (q ∷ qs) zero d t within are went = absurd are
reaches_after fs at (x ∷ xs) [] (suc i) d t within are went = absurd are
reaches_after fs at (x ∷ xs) (q ∷ qs) (suc i) d t within are went =
    let rest = reaches_after fs at xs qs i d t (omega (arith, within)) are.1 went in
    (q ∷ rest.0, (are.0, rest.1), ap (λ (l : List StreamState). q ∷ l) rest.2)

-- one more stream
pub reaches_on : (fs : List Format) (at : ℕ) (xs ys : List StreamState) (i : ℕ) (d t : StreamState) → i < length xs → Reaches fs at xs i ys
    → StaysOrEnds fs at (slice_index_or ys i d) t → Reaches fs at xs (i + 1) (slice_set ys i t)
reaches_on fs at xs ys i d t within r went =
    let here = subst (λ (l : List StreamState). StaysOrEnds fs at (slice_index_or l i d) t) r.2 went in
    let all = reaches_after fs at xs r.0 i d t within r.1 here in
    subst (λ n. Reaches fs at xs n (slice_set ys i t)) (sym (add-one i)) (subst (λ (l : List StreamState). Reaches fs at xs (suc i) (slice_set l i t)) (sym r.2) all)

take_all : {A : Type 0} (xs : List A) → take (length xs) xs ≡ xs
take_all [] = refl
take_all (x ∷ xs) = ap (λ l. x ∷ l) (take_all xs)

drop_all : {A : Type 0} (xs : List A) → drop (length xs) xs ≡ []
drop_all [] = refl
drop_all (x ∷ xs) = drop_all xs

append_nil : {A : Type 0} (xs : List A) → xs ++ [] ≡ xs
append_nil [] = refl
append_nil (x ∷ xs) = ap (λ l. x ∷ l) (append_nil xs)

-- all streams
pub reaches_all : (fs : List Format) (at : ℕ) (xs ys : List StreamState) → Reaches fs at xs (length xs) ys → StayOrEnd fs at xs ys
reaches_all fs at xs ys r =
    let same = r.2 ∙ ap (λ l. r.0 ++ l) (drop_all xs) ∙ append_nil r.0 in
    subst (StayOrEnd fs at xs) (sym same) (subst (λ l. StayOrEnd fs at l r.0) (take_all xs) r.1)

-- one more stream is asked whether its format is there
pub asked_on : (fs : List Format) (at : ℕ) (xs ys : List StreamState) (i : ℕ) (d t : StreamState) (found : Bool) → i < length xs → Reaches fs at xs i ys
    → (IsTrue found → IsAmong (slice_index_or ys i d).format fs) → (IsFalse found → IsGone (slice_index_or ys i d).format fs)
    → t ≡ left_when (not found) endings.Changed at (slice_index_or ys i d) → Reaches fs at xs (i + 1) (slice_set ys i t)
asked_on fs at xs ys i d t found within r there gone is =
    reaches_on fs at xs ys i d t within r (subst (StaysOrEnds fs at (slice_index_or ys i d)) (sym is) (stays_or_ends fs at (slice_index_or ys i d) found there gone))
