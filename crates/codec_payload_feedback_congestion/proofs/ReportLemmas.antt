-- What a feedback tells fits.
use Rattle.std.proofs.Common.{◌≡◌, ℕ, zero, suc, ◌+◌, ◌*◌, ◌-◌, ◌/◌, ◌%◌, ◌<◌, ◌≤◌, List, [], ◌∷◌, length, take, drop, Bool, true, false, leb, Option, Some, None, refl, sym, ap, ◌∙◌, subst, arith, inl, inr}
use Rattle.std.proofs.lemmas.Bool.{cases_lt, le-leb, lt-leb, lt-ltb}
use Rattle.codec_payload_feedback_congestion.specs.Arrivals.{AreTimes, IsTime}
use Rattle.codec_payload_feedback_congestion.specs.Feedback.{FitsOne, Fit, delta_between, fitting, symbol_between, symbol_for, time_for}
use Rattle.codec_payload_feedback_congestion.specs.Report.{reference_of}

fitting_one : (k from : ℕ) (s : Option ℕ) (ss : List (Option ℕ)) → symbol_for from s ≤ 2 → fitting (suc k) from (s ∷ ss) ≡ suc (fitting k (time_for from s) ss)
unfolding fitting
fitting_one k from s ss fits = let e : 1 + fitting k (time_for from s) ss ≡ suc (fitting k (time_for from s) ss) = omega arith in rw (le-leb (symbol_for from s) 2 fits) e

fitting_not : (k from : ℕ) (s : Option ℕ) (ss : List (Option ℕ)) → 2 < symbol_for from s → fitting (suc k) from (s ∷ ss) ≡ 0
unfolding fitting
fitting_not k from s ss big = rw (lt-leb (symbol_for from s) 2 big) refl

fitting_none : (from : ℕ) (ss : List (Option ℕ)) → fitting 0 from ss ≡ 0
unfolding fitting
fitting_none from ss = refl

fitting_empty : (k from : ℕ) → fitting k from [] ≡ 0
unfolding fitting
fitting_empty zero from = refl
fitting_empty (suc k) from = refl

pub fitting_within : (k from : ℕ) (ss : List (Option ℕ)) → fitting k from ss ≤ length ss
fitting_within zero from ss = omega (arith, fitting_none from ss)
fitting_within (suc k) from [] = omega (arith, fitting_empty (suc k) from)
fitting_within (suc k) from (s ∷ ss) =
    elim (cases_lt 2 (symbol_for from s)) [
      | inl big ↦ omega (arith, fitting_not k from s ss big)
      | inr fits ↦ omega (arith, fitting_one k from s ss fits, fitting_within k (time_for from s) ss)
    ]

fits_one : (from : ℕ) (s : Option ℕ) → IsTime s → symbol_for from s ≤ 2 → FitsOne from s
fits_one from None time fits = tt
fits_one from (Some to) time fits = (time, fits)

no_fit : (from : ℕ) (ss : List (Option ℕ)) (n : ℕ) → n ≡ 0 → Fit from (take n ss)
unfolding Fit
no_fit from [] zero none = tt
no_fit from (s ∷ ss) zero none = tt
no_fit from ss (suc n) none = absurd (omega (arith, none))

one_more : (from n m : ℕ) (s : Option ℕ) (ss : List (Option ℕ)) → n ≡ suc m → FitsOne from s → Fit (time_for from s) (take m ss) → Fit from (take n (s ∷ ss))
unfolding Fit
one_more from zero m s ss e fits more = absurd (omega (arith, e))
one_more from (suc n) m s ss e fits more = let same : n ≡ m = omega (arith, e) in rw same (fits, more)

pub fit_taken : (k from : ℕ) (ss : List (Option ℕ)) → AreTimes ss → Fit from (take (fitting k from ss) ss)
fit_taken zero from ss times = no_fit from ss (fitting zero from ss) (fitting_none from ss)
fit_taken (suc k) from [] times = no_fit from [] (fitting (suc k) from []) (fitting_empty (suc k) from)
fit_taken (suc k) from (s ∷ ss) times =
    elim (cases_lt 2 (symbol_for from s)) [
      | inl big ↦ no_fit from (s ∷ ss) (fitting (suc k) from (s ∷ ss)) (fitting_not k from s ss big)
      | inr fits ↦ one_more from (fitting (suc k) from (s ∷ ss)) (fitting k (time_for from s) ss) s ss (fitting_one k from s ss fits) (fits_one from s times.0 fits) (fit_taken k (time_for from s) ss times.1)
    ]

pub reference_whole : (ss : List (Option ℕ)) → reference_of ss % 256 ≡ 0
reference_whole [] = refl
reference_whole (None ∷ ss) = reference_whole ss
reference_whole (Some t ∷ ss) = omega arith

close : (t : ℕ) → t < 4294967296 → delta_between (256 * (t / 256)) t < 256
close t small = omega (arith, small)

small_symbol : (from to : ℕ) → delta_between from to < 256 → symbol_between from to ≡ 1
unfolding symbol_between
small_symbol from to small = rw (lt-ltb (delta_between from to) 256 small) refl

first_fits : (s : Option ℕ) (ss : List (Option ℕ)) → IsTime s → symbol_for (reference_of (s ∷ ss)) s ≤ 2
first_fits None ss time = omega arith
first_fits (Some t) ss time = omega (arith, small_symbol (256 * (t / 256)) t (close t time))

pub some_reported : (most : ℕ) (ss : List (Option ℕ)) → 1 ≤ most → 0 < length ss → AreTimes ss → 1 ≤ fitting most (reference_of ss) ss
some_reported zero ss some there times = absurd (omega (arith, some))
some_reported (suc k) [] some there times = absurd (omega (arith, there))
some_reported (suc k) (s ∷ ss) some there times = omega (arith, fitting_one k (reference_of (s ∷ ss)) s ss (first_fits s ss times.0))
