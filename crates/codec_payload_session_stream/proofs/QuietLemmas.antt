-- Streams that are asked for an event, one after another.
use Rattle.std.proofs.Common.{◌≡◌, ◌<◌, ℕ, zero, suc, ◌+◌, List, [], ◌∷◌, ◌++◌, length, take, drop, set, get_or, Option, Some, None, ap, refl, arith, add-one, subst, sym, ◌∙◌, map, true, false, slice_get}
use Rattle.std.specs.List.{remove}
use Rattle.codec_payload_base.specs.declared.wire.Ticks.{Ticks}
use Rattle.codec_payload_session_stream.specs.Streams.{Steps, earlier}
use Rattle.codec_payload_session_stream.specs.Turns.{AreQuiet, FirstSteps, is_nothing}
use Rattle.codec_payload_session_stream.specs.Units.{Step, Turn}
use Rattle.codec_payload_session_stream.specs.declared.stream.Step.{Step as StepWith}
use Rattle.codec_payload_session_stream.specs.declared.stream.Step.TheVariants as steps
use Rattle.codec_payload_session_stream.specs.declared.stream.StreamState.{StreamState}

-- the stream at a place after quiet ones, and the list with another stream in its place
abbrev pub Splits : List StreamState → List StreamState → ℕ → StreamState → StreamState → Type 0
Splits xs quiet i d t =
    (xs ≡ take i xs ++ get_or (quiet ++ drop i xs) i d ∷ drop (suc i) xs) × (i ≡ length quiet) × (set (quiet ++ drop i xs) i t ≡ quiet ++ t ∷ drop (suc i) xs)

pub splits : (now : Ticks) (idle : ℕ) (xs quiet : List StreamState) (i : ℕ) (d t : StreamState) → i < length xs → AreQuiet now idle (take i xs) quiet → Splits xs quiet i d t
splits now idle [] quiet i d t within are = absurd (omega (arith, within))
splits now idle (x ∷ xs) [] zero d t within are = (refl, refl, refl)
splits now idle (x ∷ xs) (q ∷ qs) zero d t within are = absurd are
splits now idle (x ∷ xs) [] (suc i) d t within are = absurd are
splits now idle (x ∷ xs) (q ∷ qs) (suc i) d t within are =
    let it : Splits xs qs i d t = splits now idle xs qs i d t (omega (arith, within)) are.1 in
    (ap (λ (l : List StreamState). x ∷ l) it.0, omega (arith, it.1), ap (λ (l : List StreamState). q ∷ l) it.2)

pub found : (now : Ticks) (idle : ℕ) (xs quiet : List StreamState) (i : ℕ) (d t : StreamState) (step : Step) → i < length xs → AreQuiet now idle (take i xs) quiet
    → Steps now idle (get_or (quiet ++ drop i xs) i d) step t → is_nothing step ≡ false
    → FirstSteps now idle xs (record { place = i; step = step }) (set (quiet ++ drop i xs) i t)
found now idle xs quiet i d t step within are went tells =
    let it : Splits xs quiet i d t = splits now idle xs quiet i d t within are in
    record {
      front = take i xs;
      quiet = quiet;
      stream = get_or (quiet ++ drop i xs) i d;
      stepped = t;
      rest = drop (suc i) xs;
      before = it.0;
      are_quiet = are;
      place = it.1;
      steps = went;
      tells = tells;
      after = it.2;
    }

-- the same in the list as it is
pub found_in : (now : Ticks) (idle : ℕ) (xs ys quiet : List StreamState) (i : ℕ) (d t : StreamState) (step : Step) → i < length xs → AreQuiet now idle (take i xs) quiet
    → ys ≡ quiet ++ drop i xs → Steps now idle (get_or ys i d) step t → is_nothing step ≡ false
    → FirstSteps now idle xs (record { place = i; step = step }) (set ys i t)
found_in now idle xs ys quiet i d t step within are is went tells =
    let has_stepped : Steps now idle (get_or (quiet ++ drop i xs) i d) step t = subst (λ (l : List StreamState). Steps now idle (get_or l i d) step t) is went in
    subst (λ (l : List StreamState). FirstSteps now idle xs (record { place = i; step = step }) (set l i t)) (sym is)
    (found now idle xs quiet i d t step within are has_stepped tells)

-- one more stream was quiet
abbrev pub StaysQuiet : Ticks → ℕ → List StreamState → List StreamState → ℕ → StreamState → ℕ → Type 0
StaysQuiet now idle xs quiet i t j =
    (more : List StreamState) × AreQuiet now idle (take j xs) more × (set (quiet ++ drop i xs) i t ≡ more ++ drop j xs)

quiet_on : (now : Ticks) (idle : ℕ) (xs quiet : List StreamState) (i : ℕ) (d t : StreamState) → i < length xs → AreQuiet now idle (take i xs) quiet
    → Steps now idle (get_or (quiet ++ drop i xs) i d) steps.Nothing t → StaysQuiet now idle xs quiet i t (suc i)
quiet_on now idle [] quiet i d t within are steps = absurd (omega (arith, within))
quiet_on now idle (x ∷ xs) [] zero d t within are steps = (t ∷ [], (steps, tt), refl)
quiet_on now idle (x ∷ xs) (q ∷ qs) zero d t within are steps = absurd are
quiet_on now idle (x ∷ xs) [] (suc i) d t within are steps = absurd are
quiet_on now idle (x ∷ xs) (q ∷ qs) (suc i) d t within are steps =
    let it : StaysQuiet now idle xs qs i t (suc i) = quiet_on now idle xs qs i d t (omega (arith, within)) are.1 steps in
    (q ∷ it.0, (are.0, it.1), ap (λ (l : List StreamState). q ∷ l) it.2)

pub quiet_next : (now : Ticks) (idle : ℕ) (xs quiet : List StreamState) (i : ℕ) (d t : StreamState) → i < length xs → AreQuiet now idle (take i xs) quiet
    → Steps now idle (get_or (quiet ++ drop i xs) i d) steps.Nothing t → StaysQuiet now idle xs quiet i t (i + 1)
quiet_next now idle xs quiet i d t within are steps = rw add-one (quiet_on now idle xs quiet i d t within are steps)

-- a step without an event
pub nothing_is : {U : Type 0} (step : StepWith U) → is_nothing step ≡ true → step ≡ steps.Nothing
nothing_is steps.Begun is = absurd (cc)
nothing_is (steps.Unit unit) is = absurd (cc)
nothing_is (steps.TooLarge unit) is = absurd (cc)
nothing_is (steps.Refused fault) is = absurd (cc)
nothing_is (steps.Feedback packet) is = absurd (cc)
nothing_is (steps.Ended why) is = absurd (cc)
nothing_is steps.Nothing is = refl

pub quiet_in : (now : Ticks) (idle : ℕ) (xs ys quiet : List StreamState) (i : ℕ) (d t : StreamState) (step : Step) → i < length xs → AreQuiet now idle (take i xs) quiet
    → ys ≡ quiet ++ drop i xs → Steps now idle (get_or ys i d) step t → is_nothing step ≡ true
    → (more : List StreamState) × AreQuiet now idle (take (i + 1) xs) more × (set ys i t ≡ more ++ drop (i + 1) xs)
quiet_in now idle xs ys quiet i d t step within are is went tells =
    let quiet_step : Steps now idle (get_or ys i d) steps.Nothing t = subst (λ (told : Step). Steps now idle (get_or ys i d) told t) (nothing_is step tells) went in
    let has_stepped : Steps now idle (get_or (quiet ++ drop i xs) i d) steps.Nothing t = subst (λ (l : List StreamState). Steps now idle (get_or l i d) steps.Nothing t) is quiet_step in
    let it : StaysQuiet now idle xs quiet i t (i + 1) = quiet_next now idle xs quiet i d t within are has_stepped in
    (it.0, it.1, ap (λ (l : List StreamState). set l i t) is ∙ it.2)

-- ---- the event of the stream

pub slice_at : (xs : List StreamState) (s : StreamState) (ys : List StreamState) → slice_get (xs ++ s ∷ ys) (length xs) ≡ Some s
slice_at [] s ys = refl
slice_at (x ∷ xs) s ys = slice_at xs s ys

pub remove_at : (xs : List StreamState) (s : StreamState) (ys : List StreamState) → remove (xs ++ s ∷ ys) (length xs) ≡ xs ++ ys
remove_at [] s ys = refl
remove_at (x ∷ xs) s ys = ap (λ (l : List StreamState). x ∷ l) (remove_at xs s ys)

within_at : (xs : List StreamState) (s : StreamState) (ys : List StreamState) → length xs < length (xs ++ s ∷ ys)
within_at [] s ys = omega arith
within_at (x ∷ xs) s ys = omega (arith, within_at xs s ys)

pub quiet_length : (now : Ticks) (idle : ℕ) (ss ts : List StreamState) → AreQuiet now idle ss ts → length ts ≡ length ss
quiet_length now idle [] [] got = refl
quiet_length now idle [] (t ∷ ts) got = absurd got
quiet_length now idle (s ∷ ss) [] got = absurd got
quiet_length now idle (s ∷ ss) (t ∷ ts) got = ap suc (quiet_length now idle ss ts got.1)

length_with : (xs ys zs : List StreamState) (s t : StreamState) → length xs ≡ length ys → length (xs ++ s ∷ zs) ≡ length (ys ++ t ∷ zs)
length_with [] [] zs s t same = refl
length_with [] (y ∷ ys) zs s t same = absurd (omega (arith, same))
length_with (x ∷ xs) [] zs s t same = absurd (omega (arith, same))
length_with (x ∷ xs) (y ∷ ys) zs s t same = ap suc (length_with xs ys zs s t (omega (arith, same)))

pub first_length : (now : Ticks) (idle : ℕ) (ss ts : List StreamState) (turn : Turn) → FirstSteps now idle ss turn ts → length ts ≡ length ss
first_length now idle ss ts turn it =
    ap (λ (l : List StreamState). length l) it.after ∙ length_with it.quiet it.front it.rest it.stepped it.stream (quiet_length now idle it.front it.quiet it.are_quiet)
    ∙ ap (λ (l : List StreamState). length l) (sym it.before)

-- the place is one of the streams
pub place_within : (now : Ticks) (idle : ℕ) (ss ts : List StreamState) (turn : Turn) → FirstSteps now idle ss turn ts → turn.place < length ts
place_within now idle ss ts turn it = subst (λ (l : List StreamState). turn.place < length l) (sym it.after) (subst (λ (n : ℕ). n < length (it.quiet ++ it.stepped ∷ it.rest)) (sym it.place) (within_at it.quiet it.stepped it.rest))

-- ---- a list that is changed in place

pub get_mapped : (f : StreamState → StreamState) (xs : List StreamState) (i : ℕ) (d : StreamState) → i < length xs → get_or (map f (take i xs) ++ drop i xs) i d ≡ get_or xs i d
get_mapped f [] i d within = absurd (omega (arith, within))
get_mapped f (x ∷ xs) zero d within = refl
get_mapped f (x ∷ xs) (suc i) d within = get_mapped f xs i d (omega (arith, within))

pub set_mapped : (f : StreamState → StreamState) (xs : List StreamState) (i : ℕ) (d : StreamState) → i < length xs
    → set (map f (take i xs) ++ drop i xs) i (f (get_or xs i d)) ≡ map f (take (suc i) xs) ++ drop (suc i) xs
set_mapped f [] i d within = absurd (omega (arith, within))
set_mapped f (x ∷ xs) zero d within = refl
set_mapped f (x ∷ xs) (suc i) d within = ap (λ (l : List StreamState). f x ∷ l) (set_mapped f xs i d (omega (arith, within)))

pub preserved : (f : StreamState → StreamState) (xs ys : List StreamState) (i : ℕ) (d r : StreamState) → i < length xs → ys ≡ map f (take i xs) ++ drop i xs → r ≡ f (get_or ys i d)
    → set ys i r ≡ map f (take (i + 1) xs) ++ drop (i + 1) xs
preserved f xs ys i d r within is made = rw (made, is, get_mapped f xs i d within, add-one) (set_mapped f xs i d within)

-- ---- deadlines

pub earlier_assoc : (a b c : Option ℕ) → earlier (earlier a b) c ≡ earlier a (earlier b c)
earlier_assoc None b c = refl
earlier_assoc (Some a) None c = refl
earlier_assoc (Some a) (Some b) None = refl
earlier_assoc (Some a) (Some b) (Some c) = ap (λ (n : ℕ). Some n) (omega arith)

pub earlier_none : (a : Option ℕ) → earlier a None ≡ a
earlier_none None = refl
earlier_none (Some a) = refl
