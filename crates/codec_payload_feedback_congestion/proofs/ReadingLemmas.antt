-- Chunks and deltas that are read, one after another.
use Rattle.std.proofs.Common.{◌≡◌, ℕ, zero, suc, ◌+◌, ◌*◌, ◌-◌, ◌/◌, ◌%◌, ◌<◌, ◌≤◌, List, [], ◌∷◌, ◌++◌, length, get_or, take, drop, Option, Some, None, Result, Ok, Err, refl, sym, ap, ◌∙◌, subst, arith, append_assoc, length-append}
use Rattle.std.specs.Int.{w16, from_be_bytes}
use Rattle.std.proofs.Math.Seq.{take-append-add}
use Rattle.std.proofs.lemmas.Bool.{eq-eqb, ne_eqb}
use Rattle.std.proofs.lemmas.List.{append-nil, drop_all, drop_more, length-take, take_all}
use Rattle.codec_payload_feedback_congestion.specs.declared.transport.TransportFault.{TransportFault}
use Rattle.codec_payload_feedback_congestion.specs.declared.transport.TransportFault.TheVariants as faults
use Rattle.codec_payload_feedback_congestion.specs.declared.transport.TransportError.{TransportError}
use Rattle.codec_payload_feedback_congestion.specs.declared.transport.TransportError.TheVariants as failures
use Rattle.codec_payload_feedback_congestion.specs.Chunks.{◌>>=◌, unpacked, chunk_symbols, counted, with_symbols, symbols_at}
use Rattle.codec_payload_feedback_congestion.specs.Feedback.{Fails, Reported, body_at, only_statuses, status_at, statuses_at, reported_by, with_status, with_statuses}
use Rattle.codec_payload_feedback_congestion.proofs.ChunkLemmas.{both_with, none_at}

-- ---- digits

pub digits_none : (base k word : ℕ) (old : List ℕ) → k ≡ 0 → old ≡ old ++ unpacked base k word
unfolding unpacked
digits_none base zero word old e = sym (append-nil old)
digits_none base (suc k) word old e = absurd (omega (arith, e))

pub digits_more : (base k word : ℕ) (old mid new : List ℕ) → 0 < k → mid ≡ old ++ unpacked base (k - 1) (word / base) → new ≡ mid ++ (word % base) ∷ [] → new ≡ old ++ unpacked base k word
unfolding unpacked
digits_more base zero word old mid new some first e = absurd (omega (arith, some))
digits_more base (suc k) word old mid new some first e =
    let d : suc k - 1 ≡ k = omega arith in
    e ∙ ap (λ (t : List ℕ). t ++ (word % base) ∷ []) (first ∙ ap (λ (i : ℕ). old ++ unpacked base i (word / base)) d) ∙ append_assoc old (unpacked base k (word / base)) ((word % base) ∷ [])

-- ---- chunks

one_at : (n : ℕ) (h l : ℕ) (others : List ℕ) → 0 < n → symbols_at n (h ∷ l ∷ others) ≡ with_symbols (counted n h l) (symbols_at (n - length (counted n h l)) others)
unfolding symbols_at
one_at n h l others some = let nonzero : n ≡ 0 → ⊥ = λ e. omega (arith, e, some) in rw (ne_eqb n 0 nonzero) refl

few_at : (n : ℕ) (rest : List ℕ) → 0 < n → length rest < 2 → symbols_at n rest ≡ Err faults.ChunksTooShort
unfolding symbols_at
few_at n [] some few = let nonzero : n ≡ 0 → ⊥ = λ e. omega (arith, e, some) in rw (ne_eqb n 0 nonzero) refl
few_at n (h ∷ []) some few = let nonzero : n ≡ 0 → ⊥ = λ e. omega (arith, e, some) in rw (ne_eqb n 0 nonzero) refl
few_at n (h ∷ l ∷ rest) some few = absurd (omega (arith, few))

pub read_step : (count word : ℕ) (rest old full new : List ℕ) (target : Result (List ℕ × List ℕ) TransportFault) → 2 ≤ length rest → length old < count → word ≡ from_be_bytes w16 (get_or rest 0 0 ∷ get_or rest 1 0 ∷ [])
    → full ≡ old ++ chunk_symbols word → new ≡ take count full → with_symbols old (symbols_at (count - length old) rest) ≡ target
    → with_symbols new (symbols_at (count - length new) (take (length rest - 2) (drop 2 rest))) ≡ target
read_step count word [] old full new target two few is whole cut h = absurd (omega (arith, two))
read_step count word (a ∷ []) old full new target two few is whole cut h = absurd (omega (arith, two))
read_step count word (a ∷ b ∷ others) old full new target two few is whole cut h =
    let n : ℕ = count - length old in
    let s : List ℕ = counted n a b in
    let sum : count ≡ length old + n = omega (arith, few) in
    let new_is : new ≡ old ++ s =
    cut ∙ ap (λ (t : List ℕ). take count t) (whole ∙ ap (λ (w : ℕ). old ++ chunk_symbols w) is)
    ∙ ap (λ (i : ℕ). take i (old ++ chunk_symbols (from_be_bytes w16 (a ∷ b ∷ [])))) sum ∙ take-append-add old (chunk_symbols (from_be_bytes w16 (a ∷ b ∷ []))) n in
    let left : count - length new ≡ n - length s = omega (arith, ap length new_is, length-append old s) in
    let l : length (a ∷ b ∷ others) - 2 ≡ length others = omega arith in
    let rest_is : take (length (a ∷ b ∷ others) - 2) others ≡ others = ap (λ (i : ℕ). take i others) l ∙ take_all (length others) others (omega arith) in
    ap (λ (t : List ℕ). with_symbols new (symbols_at (count - length new) t)) rest_is
    ∙ ap (λ (i : ℕ). with_symbols new (symbols_at i others)) left ∙ ap (λ (t : List ℕ). with_symbols t (symbols_at (n - length s) others)) new_is
    ∙ sym (both_with old s (symbols_at (n - length s) others)) ∙ ap (with_symbols old) (sym (one_at n a b others (omega (arith, few)))) ∙ h

pub read_done : (count : ℕ) (rest old : List ℕ) (target : Result (List ℕ × List ℕ) TransportFault) → count ≤ length old → with_symbols old (symbols_at (count - length old) rest) ≡ target → target ≡ Ok (old, rest)
read_done count rest old target all h =
    let none : count - length old ≡ 0 = omega (arith, all) in
    sym h ∙ ap (λ (i : ℕ). with_symbols old (symbols_at i rest)) none ∙ ap (with_symbols old) (none_at rest)
    ∙ ap (λ (t : List ℕ). let o : Result (List ℕ × List ℕ) TransportFault = Ok (t, rest) in o) (append-nil old)

pub read_short : (count : ℕ) (rest old : List ℕ) (target : Result (List ℕ × List ℕ) TransportFault) → length old < count → length rest < 2 → with_symbols old (symbols_at (count - length old) rest) ≡ target → target ≡ Err faults.ChunksTooShort
read_short count rest old target few short h = sym h ∙ ap (with_symbols old) (few_at (count - length old) rest (omega (arith, few)) short)

pub length_cut : (count : ℕ) (xs ys : List ℕ) → ys ≡ take count xs → length ys ≤ count
length_cut count xs ys e = omega (arith, ap length e, length-take count xs)

-- ---- deltas

first_with : (r : Result (List (Option ℕ) × List ℕ) TransportFault) → with_statuses [] r ≡ r
first_with (Ok x) = refl
first_with (Err e) = refl

pub statuses_none : (time : ℕ) (ss bytes : List ℕ) (old : List (Option ℕ)) → old ≡ [] → with_statuses old (statuses_at time ss bytes) ≡ statuses_at time ss bytes
statuses_none time ss bytes old none = ap (λ (t : List (Option ℕ)). with_statuses t (statuses_at time ss bytes)) none ∙ first_with (statuses_at time ss bytes)

one_more : (old : List (Option ℕ)) (s : Option ℕ) (r : Result (List (Option ℕ) × List ℕ) TransportFault) → with_statuses (old ++ s ∷ []) r ≡ with_statuses old (with_status s r)
one_more old s (Ok x) = ap (λ (t : List (Option ℕ)). let o : Result (List (Option ℕ) × List ℕ) TransportFault = Ok (t, x.1) in o) (append_assoc old (s ∷ []) x.0)
one_more old s (Err e) = refl

first_of : (time symbol : ℕ) (ss rest : List ℕ) (o : Result (Option ℕ × ℕ × List ℕ) TransportFault) → status_at time symbol rest ≡ o → statuses_at time (symbol ∷ ss) rest ≡ o >>= λ x. with_status x.0 (statuses_at x.1 ss x.2)
unfolding statuses_at
first_of time symbol ss rest o e = ap (λ (r : Result (Option ℕ × ℕ × List ℕ) TransportFault). r >>= λ x. with_status x.0 (statuses_at x.1 ss x.2)) e

pub status_step : (time t symbol i : ℕ) (ss rest others : List ℕ) (s : Option ℕ) (old new : List (Option ℕ)) (target : Result (List (Option ℕ) × List ℕ) TransportFault) → i < length ss → symbol ≡ get_or ss i 0
    → status_at time symbol rest ≡ Ok (s, t, others) → new ≡ old ++ s ∷ [] → with_statuses old (statuses_at time (drop i ss) rest) ≡ target
    → with_statuses new (statuses_at t (drop (i + 1) ss) others) ≡ target
status_step time t symbol i ss rest others s old new target within is says e h =
    let more : drop i ss ≡ symbol ∷ drop (i + 1) ss = drop_more ss i 0 within ∙ ap (λ (x : ℕ). x ∷ drop (i + 1) ss) (sym is) in
    ap (λ (l : List (Option ℕ)). with_statuses l (statuses_at t (drop (i + 1) ss) others)) e ∙ one_more old s (statuses_at t (drop (i + 1) ss) others)
    ∙ ap (with_statuses old) (sym (first_of time symbol (drop (i + 1) ss) rest (Ok (s, t, others)) says)) ∙ ap (λ (l : List ℕ). with_statuses old (statuses_at time l rest)) (sym more) ∙ h

pub status_fault : (time symbol i : ℕ) (ss rest : List ℕ) (f : TransportFault) (old : List (Option ℕ)) (target : Result (List (Option ℕ) × List ℕ) TransportFault) → i < length ss → symbol ≡ get_or ss i 0
    → status_at time symbol rest ≡ Err f → with_statuses old (statuses_at time (drop i ss) rest) ≡ target → only_statuses target ≡ Err f
status_fault time symbol i ss rest f old target within is says h =
    let more : drop i ss ≡ symbol ∷ drop (i + 1) ss = drop_more ss i 0 within ∙ ap (λ (x : ℕ). x ∷ drop (i + 1) ss) (sym is) in
    ap only_statuses (sym h ∙ ap (λ (l : List ℕ). with_statuses old (statuses_at time l rest)) more ∙ ap (with_statuses old) (first_of time symbol (drop (i + 1) ss) rest (Err f) says))

no_symbols : (time : ℕ) (rest : List ℕ) → statuses_at time [] rest ≡ Ok ([], rest)
unfolding statuses_at
no_symbols time rest = refl

pub statuses_done : (time i : ℕ) (ss rest : List ℕ) (old : List (Option ℕ)) (target : Result (List (Option ℕ) × List ℕ) TransportFault) → length ss ≤ i → with_statuses old (statuses_at time (drop i ss) rest) ≡ target → only_statuses target ≡ Ok old
statuses_done time i ss rest old target all h =
    ap only_statuses (sym h ∙ ap (λ (l : List ℕ). with_statuses old (statuses_at time l rest)) (drop_all i ss all) ∙ ap (with_statuses old) (no_symbols time rest))
    ∙ ap (λ (t : List (Option ℕ)). let o : Result (List (Option ℕ)) TransportFault = Ok t in o) (append-nil old)

-- ---- the whole

pub fails_first : (base count word : ℕ) (bytes : List ℕ) (e : TransportError) → Fails e (symbols_at count bytes) → Fails e (body_at base count word bytes)
unfolding body_at
fails_first base count word bytes failures.OutOfMemory h = tt
fails_first base count word bytes (failures.Fault f) h = rw h refl

ended : (base word : ℕ) (r : Result (List (Option ℕ) × List ℕ) TransportFault) (f : TransportFault) → only_statuses r ≡ Err f → (r >>= λ y. Ok (reported_by base word y.0)) ≡ Err f
ended base word (Ok x) f h = absurd cc
ended base word (Err g) f h = ap (λ (r : Result (List (Option ℕ)) TransportFault). r >>= λ y. let o : Result Reported TransportFault = Ok (reported_by base word y) in o) h

reported : (base word : ℕ) (r : Result (List (Option ℕ) × List ℕ) TransportFault) (l : List (Option ℕ)) → only_statuses r ≡ Ok l → (r >>= λ y. Ok (reported_by base word y.0)) ≡ Ok (reported_by base word l)
reported base word (Ok x) l h = ap (λ (r : Result (List (Option ℕ)) TransportFault). r >>= λ y. let o : Result Reported TransportFault = Ok (reported_by base word y) in o) h
reported base word (Err g) l h = absurd cc

pub fails_second : (base count word : ℕ) (bytes ss rest : List ℕ) (e : TransportError) → symbols_at count bytes ≡ Ok (ss, rest) → Fails e (only_statuses (statuses_at (256 * (word / 256)) ss rest)) → Fails e (body_at base count word bytes)
unfolding body_at
fails_second base count word bytes ss rest failures.OutOfMemory first h = tt
fails_second base count word bytes ss rest (failures.Fault f) first h = rw first (ended base word (statuses_at (256 * (word / 256)) ss rest) f h)

pub gives_both : (base count word : ℕ) (bytes ss rest : List ℕ) (l : List (Option ℕ)) → symbols_at count bytes ≡ Ok (ss, rest) → only_statuses (statuses_at (256 * (word / 256)) ss rest) ≡ Ok l → body_at base count word bytes ≡ Ok (reported_by base word l)
unfolding body_at
gives_both base count word bytes ss rest l first h = rw first (reported base word (statuses_at (256 * (word / 256)) ss rest) l h)
