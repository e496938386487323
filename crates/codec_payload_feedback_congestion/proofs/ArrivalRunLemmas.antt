-- What a log has came.
use Rattle.std.proofs.Common.{◌≡◌, ◌⊎◌, ℕ, zero, suc, ◌+◌, ◌-◌, ◌%◌, ◌<◌, ◌≤◌, List, [], ◌∷◌, ◌++◌, length, set, drop, replicate, min, slice_get, slice_set, Option, Some, None, refl, sym, ap, ◌∙◌, subst, arith, length-append, inl, inr}
use Rattle.std.proofs.lemmas.Bool.{cases_eq, cases_lt, eq-eqb, le-leb, le-ltb, lt-leb, lt-ltb, ne_eqb}
use Rattle.std.proofs.lemmas.List.{length-replicate}
use Rattle.codec_payload_feedback_congestion.specs.Arrivals.{Log, added, after_reported, ahead_of, arrived, arrived_ahead, arrived_by, arrived_late, begun, filled_if, first_unreported, new_log, unreported, windowed}
use Rattle.codec_payload_feedback_congestion.specs.ArrivalRuns.{AreSteps, HasCome, SayArrivals, Step, ReportsArrivals, after_step, came, log_after, reported}

come_more : (number time : ℕ) (s : Step) (steps : List Step) → HasCome number time steps → HasCome number time (s ∷ steps)
come_more number time (came n t) steps h = inr h
come_more number time (reported n) steps h = h

say_more : (number : ℕ) (ss : List (Option ℕ)) (s : Step) (steps : List Step) → SayArrivals number ss steps → SayArrivals number ss (s ∷ steps)
say_more number [] s steps h = tt
say_more number (None ∷ ss) s steps h = say_more ((number + 1) % 65536) ss s steps h
say_more number (Some t ∷ ss) s steps h = (come_more number t s steps h.0, say_more ((number + 1) % 65536) ss s steps h.1)

say_at : (a b : ℕ) (ss : List (Option ℕ)) (steps : List Step) → a ≡ b → SayArrivals a ss steps → SayArrivals b ss steps
say_at a b ss steps e h = subst (λ (n : ℕ). SayArrivals n ss steps) e h

say_rest : (number : ℕ) (s : Option ℕ) (ss : List (Option ℕ)) (steps : List Step) → SayArrivals number (s ∷ ss) steps → SayArrivals ((number + 1) % 65536) ss steps
say_rest number None ss steps h = h
say_rest number (Some t) ss steps h = h.1

say_drop : (k number : ℕ) (ss : List (Option ℕ)) (steps : List Step) → number < 65536 → SayArrivals number ss steps → SayArrivals ((number + k) % 65536) (drop k ss) steps
say_drop zero number ss steps small h = say_at number ((number + 0) % 65536) ss steps (omega (arith, small)) h
say_drop (suc k) number [] steps small h = tt
say_drop (suc k) number (s ∷ ss) steps small h =
    say_at (((number + 1) % 65536 + k) % 65536) ((number + suc k) % 65536) (drop k ss) steps (omega arith)
    (say_drop k ((number + 1) % 65536) ss steps (omega arith) (say_rest number s ss steps h))

say_none : (k number : ℕ) (steps : List Step) → SayArrivals number (replicate k None) steps
say_none zero number steps = tt
say_none (suc k) number steps = say_none k ((number + 1) % 65536) steps

say_append : (number : ℕ) (xs ys : List (Option ℕ)) (steps : List Step) → number < 65536 → SayArrivals number xs steps → SayArrivals ((number + length xs) % 65536) ys steps → SayArrivals number (xs ++ ys) steps
say_append number [] ys steps small h k = say_at ((number + 0) % 65536) number ys steps (omega (arith, small)) k
say_append number (None ∷ xs) ys steps small h k =
    let e : (number + length (None ∷ xs)) % 65536 ≡ ((number + 1) % 65536 + length xs) % 65536 = omega arith in
    say_append ((number + 1) % 65536) xs ys steps (omega arith) h (say_at _ _ ys steps e k)
say_append number (Some t ∷ xs) ys steps small h k =
    let e : (number + length (Some t ∷ xs)) % 65536 ≡ ((number + 1) % 65536 + length xs) % 65536 = omega arith in
    (h.0, say_append ((number + 1) % 65536) xs ys steps (omega arith) h.1 (say_at _ _ ys steps e k))

say_one : (number time : ℕ) (steps : List Step) → HasCome number time steps → SayArrivals number (Some time ∷ []) steps
say_one number time steps h = (h, tt)

come_at : (a b time : ℕ) (steps : List Step) → a ≡ b → HasCome a time steps → HasCome b time steps
come_at a b time steps e h = subst (λ (n : ℕ). HasCome n time steps) e h

say_set : (number i time : ℕ) (ss : List (Option ℕ)) (steps : List Step) → number < 65536 → HasCome ((number + i) % 65536) time steps → SayArrivals number ss steps → SayArrivals number (set ss i (Some time)) steps
say_set number i time [] steps small come h = tt
say_set number zero time (s ∷ ss) steps small come h = (come_at ((number + 0) % 65536) number time steps (omega (arith, small)) come, say_rest number s ss steps h)
say_set number (suc i) time (None ∷ ss) steps small come h =
    let e : (number + suc i) % 65536 ≡ ((number + 1) % 65536 + i) % 65536 = omega arith in
    say_set ((number + 1) % 65536) i time ss steps (omega arith) (come_at _ _ time steps e come) h
say_set number (suc i) time (Some t ∷ ss) steps small come h =
    let e : (number + suc i) % 65536 ≡ ((number + 1) % 65536 + i) % 65536 = omega arith in
    (h.0, say_set ((number + 1) % 65536) i time ss steps (omega arith) (come_at _ _ time steps e come) h.1)

-- ---- an arrival

place_is : (start len number gap : ℕ) → number < 65536 → gap ≡ ahead_of start len number → (start + (len + gap)) % 65536 ≡ number
place_is start len number gap small is = omega (arith, small, is)

behind : (start len number gap back : ℕ) → number < 65536 → gap ≡ ahead_of start len number → gap < 65536 → back ≡ 65536 - gap → back ≤ len → (start + (len - back)) % 65536 ≡ number
behind start len number gap back small is most e within =
    let place : (start + (len + gap)) % 65536 ≡ number = place_is start len number gap small is in
    let same : start + (len + gap) ≡ start + (len - back) + 65536 = omega (arith, e, most, within) in
    let both : (start + (len - back) + 65536) % 65536 ≡ (start + (len - back)) % 65536 = omega arith in
    sym both ∙ ap (λ (n : ℕ). n % 65536) (sym same) ∙ place

-- the slots of a log say arrivals
pub record Says (l : Log) (steps : List Step) : Type 0 where
  pub start : l.start < 65536
  pub says : SayArrivals l.start l.slots steps

begun_says : (l : Log) (number time : ℕ) (steps : List Step) → number < 65536 → HasCome number time steps → Says (begun number time l) steps
begun_says l number time steps small come = record { start = small; says = say_one number time steps come }

added_says : (l : Log) (number gap time : ℕ) (steps : List Step) → number < 65536 → gap ≡ ahead_of l.start (length l.slots) number → HasCome number time steps → Says l steps → Says (windowed (added gap time l)) steps
added_says l number gap time steps small is come h =
    let none : Option ℕ = None in
    let lost : List (Option ℕ) = replicate gap none in
    let place : (l.start + (length l.slots + gap)) % 65536 ≡ number = place_is l.start (length l.slots) number gap small is in
    let at : number ≡ ((l.start + length l.slots) % 65536 + length lost) % 65536 = sym place ∙ again l.start (length l.slots) gap (length lost) (length-replicate gap none) in
    let back : SayArrivals ((l.start + length l.slots) % 65536) (lost ++ Some time ∷ []) steps =
    say_append ((l.start + length l.slots) % 65536) lost (Some time ∷ []) steps (omega arith) (say_none gap ((l.start + length l.slots) % 65536) steps) (say_at _ _ (Some time ∷ []) steps at (say_one number time steps come)) in
    let all : SayArrivals l.start (l.slots ++ (lost ++ Some time ∷ [])) steps = say_append l.start l.slots (lost ++ Some time ∷ []) steps h.start h.says back in
    record { start = omega arith; says = say_drop (length (l.slots ++ (lost ++ Some time ∷ [])) - l.window) l.start (l.slots ++ (lost ++ Some time ∷ [])) steps h.start all }
  where
    again : (start len gap n : ℕ) → n ≡ gap → (start + (len + gap)) % 65536 ≡ ((start + len) % 65536 + n) % 65536
    again start len gap n e = omega (arith, e)

filled_says : (l : Log) (number index time : ℕ) (o : Option (Option ℕ)) (steps : List Step) → (l.start + index) % 65536 ≡ number → HasCome number time steps → Says l steps → Says (filled_if o index time l) steps
filled_says l number index time None steps place come h = h
filled_says l number index time (Some (Some t)) steps place come h = h
filled_says l number index time (Some None) steps place come h =
    record { start = h.start; says = say_set l.start index time l.slots steps h.start (come_at number ((l.start + index) % 65536) time steps (sym place) come) h.says }

by_says : (l : Log) (number ahead time : ℕ) (steps : List Step) → number < 65536 → ahead ≡ ahead_of l.start (length l.slots) number → HasCome number time steps → Says l steps → Says (arrived_by ahead number time l) steps
by_says l number ahead time steps small is come h =
    let most : ahead < 65536 = omega (arith, is) in
    elim (cases_lt ahead 32768) [
      | inl before ↦ rw (lt-ltb ahead 32768 before) (elim (cases_lt ahead l.window) [
        | inl less ↦ rw (lt-ltb ahead l.window less) (added_says l number ahead time steps small is come h)
        | inr past ↦ rw (le-ltb ahead l.window past) (begun_says l number time steps small come)
      ])
      | inr least ↦ rw (le-ltb ahead 32768 least) (elim (cases_lt (length l.slots) (65536 - ahead)) [
        | inl past ↦ rw (lt-leb (65536 - ahead) (length l.slots) past) h
        | inr within ↦ rw (le-leb (65536 - ahead) (length l.slots) within)
            (filled_says l number (length l.slots - (65536 - ahead)) time (slice_get l.slots (length l.slots - (65536 - ahead))) steps (behind l.start (length l.slots) number ahead (65536 - ahead) small is most refl within) come h)
      ])
    ]

arrived_says : (l : Log) (number time : ℕ) (steps : List Step) → number < 65536 → HasCome number time steps → Says l steps → Says (arrived number time l) steps
arrived_says l number time steps small come h =
    elim (cases_eq (length l.slots) 0) [
      | inl none ↦ rw (eq-eqb (length l.slots) 0 none) (begun_says l number time steps small come)
      | inr some ↦ rw (ne_eqb (length l.slots) 0 some) (by_says l number (ahead_of l.start (length l.slots) number) time steps small refl come h)
    ]

-- ---- runs

run_says : (window : ℕ) (steps : List Step) → AreSteps steps → Says (log_after window steps) steps
run_says window [] are = record { start = omega arith; says = tt }
run_says window (came number time ∷ steps) are =
    let before : Says (log_after window steps) steps = run_says window steps are.1 in
    arrived_says (log_after window steps) number time (came number time ∷ steps) are.0 (inl (refl, refl))
    (record { start = before.start; says = say_more (log_after window steps).start (log_after window steps).slots (came number time) steps before.says })
run_says window (reported n ∷ steps) are =
    let before : Says (log_after window steps) steps = run_says window steps are in
    record { start = before.start; says = say_more (log_after window steps).start (log_after window steps).slots (reported n) steps before.says }

pub reports_arrivals : ReportsArrivals
reports_arrivals window steps are =
    let h : Says (log_after window steps) steps = run_says window steps are in
    say_drop (log_after window steps).reported (log_after window steps).start (log_after window steps).slots steps h.start h.says
