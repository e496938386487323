-- The streams of one SSRC change, one after another, as the list of SSRCs finds them.
use Rattle.std.proofs.Common.{◌≡◌, ◌≢◌, ◌∙◌, ◌<◌, ◌≤◌, ◌==◌, ℕ, zero, suc, ◌+◌, List, [], ◌∷◌, ◌++◌, length, map, take, drop, set, get_or, Bool, true, false, Some, None, ap, refl, sym, arith}
use Rattle.std.specs.Prelude.{if◌then◌else◌}
use Rattle.std.proofs.lemmas.Bool.Decides.{nat_tests}
use Rattle.std.proofs.lemmas.List.{append-nil, drop_all, take_all}
use Rattle.codec_payload_index.specs.Ssrcs.{IsFirstFrom, IsPlaceFrom}
use Rattle.codec_payload_session_stream.specs.Reports.{clocked_if}
use Rattle.codec_payload_session_stream.specs.Streams.{StreamState}
use Rattle.codec_payload_session_stream.specs.Waking.{ssrcs_of}
use Rattle.codec_payload_session_stream.specs.declared.reports.SenderClock.{SenderClock}
use Rattle.codec_payload_session_stream.proofs.QuietLemmas.{preserved}
use Rattle.codec_payload_session_stream.proofs.SsrcLemmas.{count_of, ssrc_at}

-- streams of other SSRCs stay
pub record ChangesSsrc (ssrc : ℕ) (f : StreamState → StreamState) : Type 0 where
  pub others : (s : StreamState) → s.ssrc ≢ ssrc → f s ≡ s

pub other_number : (m n : ℕ) → m ≢ n → (m == n) ≡ false
other_number m n other = by_test (m == n) refl
  where
    by_test : (b : Bool) → (m == n) ≡ b → (m == n) ≡ false
    by_test true is = absurd (other (grind (arith, nat_tests, is)))
    by_test false is = is

pub changes_clock : (ssrc : ℕ) (clock : SenderClock) → ChangesSsrc ssrc (clocked_if ssrc clock)
changes_clock ssrc clock = record { others = λ s other. ap (λ (b : Bool). if b then record s { sender_clock = Some clock } else s) (other_number s.ssrc ssrc other) }

-- the streams between two places stay
skipped : (f : StreamState → StreamState) (from place : ℕ) (xs : List StreamState) → from ≤ place → place ≤ length xs → ((k : ℕ) (d : StreamState) → from ≤ k → k < place → f (get_or xs k d) ≡ get_or xs k d)
    → map f (take from xs) ++ drop from xs ≡ map f (take place xs) ++ drop place xs
skipped f zero zero xs low within stay = refl
skipped f zero (suc place) [] low within stay = absurd (omega (arith, within))
skipped f zero (suc place) (x ∷ xs) low within stay =
    let rest : xs ≡ map f (take place xs) ++ drop place xs = skipped f zero place xs (omega arith) (omega (arith, within)) (λ k d l r. stay (suc k) d (omega arith) (omega (arith, r))) in
    ap (λ (l : List StreamState). x ∷ l) rest ∙ ap (λ (y : StreamState). y ∷ (map f (take place xs) ++ drop place xs)) (sym (stay 0 x (omega arith) (omega arith)))
skipped f (suc from) zero xs low within stay = absurd (omega (arith, low))
skipped f (suc from) (suc place) [] low within stay = absurd (omega (arith, within))
skipped f (suc from) (suc place) (x ∷ xs) low within stay =
    ap (λ (l : List StreamState). f x ∷ l) (skipped f from place xs (omega (arith, low)) (omega (arith, within)) (λ k d l r. stay (suc k) d (omega (arith, l)) (omega (arith, r))))

-- the stream at the next place of the SSRC changes
pub changed_next : (f : StreamState → StreamState) (ssrc from place : ℕ) (ids : List ℕ) (xs ys : List StreamState) (d r : StreamState) → ChangesSsrc ssrc f → ids ≡ ssrcs_of xs → IsPlaceFrom from ssrc ids place
    → ys ≡ map f (take from xs) ++ drop from xs → r ≡ f (get_or ys place d) → set ys place r ≡ map f (take (place + 1) xs) ++ drop (place + 1) xs
changed_next f ssrc from place ids xs ys d r changes listed found is made =
    let within : place < length xs = omega (arith, found.within, ap (λ (l : List ℕ). length l) listed, count_of xs) in
    let stay : (k : ℕ) (e : StreamState) → from ≤ k → k < place → f (get_or xs k e) ≡ get_or xs k e = λ k e l s. changes.others (get_or xs k e)
    (λ same. found.first k 0 l s (ap (λ (ns : List ℕ). get_or ns k 0) listed ∙ ssrc_at xs k e (omega (arith, s, within)) ∙ same)) in
    preserved f xs ys place d r within (is ∙ skipped f from place xs found.behind (omega (arith, within)) stay) made

-- no other stream has the SSRC
pub changed_all : (f : StreamState → StreamState) (ssrc from : ℕ) (ids : List ℕ) (xs ys : List StreamState) → ChangesSsrc ssrc f → ids ≡ ssrcs_of xs → IsFirstFrom from ssrc ids None → from ≤ length xs
    → ys ≡ map f (take from xs) ++ drop from xs → ys ≡ map f xs
changed_all f ssrc from ids xs ys changes listed missing low is =
    let long : length ids ≡ length xs = ap (λ (l : List ℕ). length l) listed ∙ count_of xs in
    let stay : (k : ℕ) (e : StreamState) → from ≤ k → k < length xs → f (get_or xs k e) ≡ get_or xs k e = λ k e l s. changes.others (get_or xs k e)
    (λ same. missing k 0 l (omega (arith, s, long)) (ap (λ (ns : List ℕ). get_or ns k 0) listed ∙ ssrc_at xs k e s ∙ same)) in
    is ∙ skipped f from (length xs) xs low (omega arith) stay
    ∙ ap (λ (l : List StreamState). map f l ++ drop (length xs) xs) (take_all (length xs) xs (omega arith)) ∙ ap (λ (l : List StreamState). map f xs ++ l) (drop_all (length xs) xs (omega arith)) ∙ append-nil (map f xs)

-- the list of what changed is as long
pub changed_length : (f : StreamState → StreamState) (from : ℕ) (xs ys : List StreamState) → ys ≡ map f (take from xs) ++ drop from xs → length ys ≡ length xs
changed_length f from xs ys is = ap (λ (l : List StreamState). length l) is ∙ same from xs
  where
    same : (n : ℕ) (l : List StreamState) → length (map f (take n l) ++ drop n l) ≡ length l
    same zero l = refl
    same (suc n) [] = refl
    same (suc n) (x ∷ l) = ap suc (same n l)
