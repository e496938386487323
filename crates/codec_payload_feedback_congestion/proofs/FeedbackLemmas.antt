-- Deltas that are written are read again.
use Rattle.std.proofs.Common.{◌≡◌, ◌≢◌, ℕ, zero, suc, ◌+◌, ◌*◌, ◌-◌, ◌/◌, ◌%◌, ◌<◌, ◌≤◌, ◌&&◌, List, [], ◌∷◌, ◌++◌, length, get_or, take, drop, replicate, Bool, true, false, cond, ltb, leb, Option, Some, None, Result, Ok, Err, refl, sym, ap, ◌∙◌, subst, arith, append_assoc, length-append, inl, inr}
use Rattle.std.specs.Int.{w16, w32, from_be_bytes, to_be_bytes}
use Rattle.std.proofs.lemmas.Bool.{lt-ltb, le-ltb, le-leb, lt-leb, cases_lt, and_from}
use Rattle.std.proofs.lemmas.List.{append-nil, drop_all, drop_more, take_all, length-replicate}
use Rattle.std.proofs.lemmas.Nat.{from_be_bytes-to_be_bytes_2, from_be_bytes-to_be_bytes_4}
use Rattle.codec_payload_feedback_congestion.specs.declared.transport.TransportFault.{TransportFault}
use Rattle.codec_payload_feedback_congestion.specs.Chunks.{◌>>=◌, symbols_at, all_below, Chunked}
use Rattle.codec_payload_feedback_congestion.specs.Feedback.{Reported, status_at, with_status, statuses_at, reported_by, body_at, feedback_at, delta_between, symbol_between, delta_bytes, symbol_for, delta_for, time_for, symbols_of, deltas_of, FitsOne, Fit, fitting, feedback_header, IsBody, Tells, AppendsReported}

-- ---- one delta

Again : ℕ → ℕ → List ℕ → Type 0
Again from to rest = status_at from (symbol_between from to) (delta_bytes from to ++ rest) ≡ Ok (Some to, to, rest)

same_step : (to t : ℕ) (rest : List ℕ) → t ≡ to → (let o : Result (Option ℕ × ℕ × List ℕ) TransportFault = Ok (Some t, t, rest) in o) ≡ Ok (Some to, to, rest)
same_step to t rest e = ap (λ (x : ℕ). let o : Result (Option ℕ × ℕ × List ℕ) TransportFault = Ok (Some x, x, rest) in o) e

small_again : (from to : ℕ) (rest : List ℕ) → from < 4294967296 → to < 4294967296 → delta_between from to < 256
    → status_at from (symbol_between from to) (delta_bytes from to ++ rest) ≡ Ok (Some to, to, rest)
unfolding status_at symbol_between delta_bytes
small_again from to rest f t small =
    rw (lt-ltb (delta_between from to) 256 small) (same_step to ((from + delta_between from to) % 4294967296) rest (omega (arith, f, t)))

large_again : (from to : ℕ) (rest : List ℕ) → from < 4294967296 → to < 4294967296 → 256 ≤ delta_between from to → delta_between from to < 32768
    → status_at from (symbol_between from to) (delta_bytes from to ++ rest) ≡ Ok (Some to, to, rest)
unfolding status_at symbol_between delta_bytes
large_again from to rest f t most large =
    let d : ℕ = delta_between from to in
    let low : d % 65536 ≡ d = omega (arith, large) in
    let small : d < 65536 = omega (arith, large) in
    rw (le-ltb d 256 most, lt-ltb d 32768 large, low, from_be_bytes-to_be_bytes_2 d small, lt-ltb d 32768 large)
    (same_step to ((from + d) % 4294967296) rest (omega (arith, f, t)))

negative_again : (from to : ℕ) (rest : List ℕ) → from < 4294967296 → to < 4294967296 → 4294934528 ≤ delta_between from to
    → status_at from (symbol_between from to) (delta_bytes from to ++ rest) ≡ Ok (Some to, to, rest)
unfolding status_at symbol_between delta_bytes
negative_again from to rest f t least =
    let d : ℕ = delta_between from to in
    let bound : d < 4294967296 = omega arith in
    let over : 256 ≤ d = omega (arith, least) in
    let above : 32768 ≤ d = omega (arith, least) in
    let small : d % 65536 < 65536 = omega arith in
    let high : 32768 ≤ d % 65536 = omega (arith, least, bound) in
    rw (le-ltb d 256 over, le-ltb d 32768 above, le-leb 4294934528 d least, from_be_bytes-to_be_bytes_2 (d % 65536) small, le-ltb (d % 65536) 32768 high)
    (same_step to ((from + (d % 65536 + 4294901760)) % 4294967296) rest (omega (arith, f, t, least, bound)))

between_three : (from to : ℕ) → 32768 ≤ delta_between from to → delta_between from to < 4294934528 → symbol_between from to ≡ 3
unfolding symbol_between
between_three from to least most =
    let d : ℕ = delta_between from to in
    let over : 256 ≤ d = omega (arith, least) in
    rw (le-ltb d 256 over, le-ltb d 32768 least, lt-leb 4294934528 d most) refl

none_between : (from to : ℕ) → 32768 ≤ delta_between from to → delta_between from to < 4294934528 → symbol_between from to ≤ 2 → ⊥
none_between from to least most h =
    let three : symbol_between from to ≡ 3 = between_three from to least most in
    omega (arith, h, three)

status_again : (from to : ℕ) (rest : List ℕ) → from < 4294967296 → to < 4294967296 → symbol_between from to ≤ 2
    → status_at from (symbol_between from to) (delta_bytes from to ++ rest) ≡ Ok (Some to, to, rest)
status_again from to rest f t fits =
    elim (cases_lt (delta_between from to) 256) [
      | inl small ↦ small_again from to rest f t small
      | inr most ↦ elim (cases_lt (delta_between from to) 32768) [
        | inl large ↦ large_again from to rest f t most large
        | inr above ↦ elim (cases_lt (delta_between from to) 4294934528) [
          | inl between ↦ absurd (none_between from to above between fits)
          | inr least ↦ negative_again from to rest f t least
        ]
      ]
    ]

-- ---- all

one_again : (from : ℕ) (s : Option ℕ) (rest : List ℕ) → from < 4294967296 → FitsOne from s → status_at from (symbol_for from s) (delta_for from s ++ rest) ≡ Ok (s, time_for from s, rest)
unfolding status_at
one_again from None rest f fits = refl
one_again from (Some to) rest f fits = status_again from to rest f fits.0 fits.1

time_small : (from : ℕ) (s : Option ℕ) → from < 4294967296 → FitsOne from s → time_for from s < 4294967296
time_small from None f fits = f
time_small from (Some to) f fits = fits.0

statuses_again : (from : ℕ) (ss : List (Option ℕ)) (rest : List ℕ) → from < 4294967296 → Fit from ss → statuses_at from (symbols_of from ss) (deltas_of from ss ++ rest) ≡ Ok (ss, rest)
unfolding statuses_at symbols_of deltas_of Fit
statuses_again from [] rest f fits = refl
statuses_again from (s ∷ ss) rest f fits =
    ap (λ (bytes : List ℕ). status_at from (symbol_for from s) bytes >>= λ x. with_status x.0 (statuses_at x.1 (symbols_of (time_for from s) ss) x.2)) (append_assoc (delta_for from s) (deltas_of (time_for from s) ss) rest)
    ∙ ap (λ (o : Result (Option ℕ × ℕ × List ℕ) TransportFault). o >>= λ x. with_status x.0 (statuses_at x.1 (symbols_of (time_for from s) ss) x.2)) (one_again from s (deltas_of (time_for from s) ss ++ rest) f fits.0)
    ∙ ap (with_status s) (statuses_again (time_for from s) ss rest (time_small from s f fits.0) fits.1)

pub length_symbols : (from : ℕ) (ss : List (Option ℕ)) → length (symbols_of from ss) ≡ length ss
unfolding symbols_of
length_symbols from [] = refl
length_symbols from (s ∷ ss) = ap suc (length_symbols (time_for from s) ss)

symbol_small : (from : ℕ) (s : Option ℕ) → FitsOne from s → symbol_for from s < 4
symbol_small from None fits = omega arith
symbol_small from (Some to) fits = omega (arith, fits.1)

pub symbols_below : (from : ℕ) (ss : List (Option ℕ)) → Fit from ss → all_below 4 (symbols_of from ss) ≡ true
unfolding all_below symbols_of Fit
symbols_below from [] fits = refl
symbols_below from (s ∷ ss) fits = and_from (ltb (symbol_for from s) 4) (all_below 4 (symbols_of (time_for from s) ss)) (lt-ltb (symbol_for from s) 4 (symbol_small from s fits.0)) (symbols_below (time_for from s) ss fits.1)

delta_short : (from to : ℕ) → length (delta_bytes from to) ≤ 2
unfolding delta_bytes
delta_short from to = by_test (ltb (delta_between from to) 256)
  where
    by_test : (b : Bool) → length (cond b (delta_between from to ∷ []) (to_be_bytes w16 (delta_between from to % 65536))) ≤ 2
    by_test true = omega arith
    by_test false = omega arith

one_short : (from : ℕ) (s : Option ℕ) → length (delta_for from s) ≤ 2
one_short from None = omega arith
one_short from (Some to) = delta_short from to

pub deltas_short : (from : ℕ) (ss : List (Option ℕ)) → length (deltas_of from ss) ≤ 2 * length ss
unfolding deltas_of
deltas_short from [] = omega arith
deltas_short from (s ∷ ss) =
    let front : length (delta_for from s) ≤ 2 = one_short from s in
    let more : length (deltas_of (time_for from s) ss) ≤ 2 * length ss = deltas_short (time_for from s) ss in
    omega (arith, length-append (delta_for from s) (deltas_of (time_for from s) ss), front, more)

-- ---- one more, in a loop

pub symbols_step : (from : ℕ) (ss : List (Option ℕ)) (i : ℕ) (s : Option ℕ) (before new target : List ℕ) (x t : ℕ) → i < length ss → s ≡ get_or ss i None → x ≡ symbol_for from s → t ≡ time_for from s → new ≡ before ++ x ∷ []
    → before ++ symbols_of from (drop i ss) ≡ target → new ++ symbols_of t (drop (i + 1) ss) ≡ target
unfolding symbols_of
symbols_step from ss i s before new target x t within is symbol time e h =
    let more : drop i ss ≡ s ∷ drop (i + 1) ss = drop_more ss i None within ∙ ap (λ (o : Option ℕ). o ∷ drop (i + 1) ss) (sym is) in
    ap (λ (l : List ℕ). l ++ symbols_of t (drop (i + 1) ss)) e ∙ append_assoc before (x ∷ []) (symbols_of t (drop (i + 1) ss))
    ∙ ap (λ (y : ℕ). before ++ (y ∷ symbols_of t (drop (i + 1) ss))) symbol ∙ ap (λ (y : ℕ). before ++ (symbol_for from s ∷ symbols_of y (drop (i + 1) ss))) time
    ∙ ap (λ (l : List (Option ℕ)). before ++ symbols_of from l) (sym more) ∙ h

pub symbols_end : (from : ℕ) (ss : List (Option ℕ)) (i : ℕ) (before target : List ℕ) → length ss ≤ i → before ++ symbols_of from (drop i ss) ≡ target → before ≡ target
unfolding symbols_of
symbols_end from ss i before target all h = sym (append-nil before) ∙ ap (λ (l : List (Option ℕ)). before ++ symbols_of from l) (sym (drop_all i ss all)) ∙ h

pub deltas_step : (from : ℕ) (ss : List (Option ℕ)) (i : ℕ) (s : Option ℕ) (before new target : List ℕ) (t : ℕ) → i < length ss → s ≡ get_or ss i None → t ≡ time_for from s → new ≡ before ++ delta_for from s
    → before ++ deltas_of from (drop i ss) ≡ target → new ++ deltas_of t (drop (i + 1) ss) ≡ target
unfolding deltas_of
deltas_step from ss i s before new target t within is time e h =
    let more : drop i ss ≡ s ∷ drop (i + 1) ss = drop_more ss i None within ∙ ap (λ (o : Option ℕ). o ∷ drop (i + 1) ss) (sym is) in
    ap (λ (l : List ℕ). l ++ deltas_of t (drop (i + 1) ss)) e ∙ append_assoc before (delta_for from s) (deltas_of t (drop (i + 1) ss))
    ∙ ap (λ (y : ℕ). before ++ (delta_for from s ++ deltas_of y (drop (i + 1) ss))) time
    ∙ ap (λ (l : List (Option ℕ)). before ++ deltas_of from l) (sym more) ∙ h

pub deltas_end : (from : ℕ) (ss : List (Option ℕ)) (i : ℕ) (before target : List ℕ) → length ss ≤ i → before ++ deltas_of from (drop i ss) ≡ target → before ≡ target
unfolding deltas_of
deltas_end from ss i before target all h = sym (append-nil before) ∙ ap (λ (l : List (Option ℕ)). before ++ deltas_of from l) (sym (drop_all i ss all)) ∙ h

-- ---- how many fit

pub length_others : (rest : List (Option ℕ)) → 0 < length rest → length (take (length rest - 1) (drop 1 rest)) ≡ length rest - 1
length_others [] there = absurd (omega (arith, there))
length_others (s ∷ rest) there = let l : length (s ∷ rest) - 1 ≡ length rest = omega arith in rw (l, take_all (length rest) rest (omega arith)) refl

no_more : (most count time : ℕ) (rest : List (Option ℕ)) → most ≤ count → fitting (most - count) time rest ≡ 0
unfolding fitting
no_more most count time rest all = let none : most - count ≡ 0 = omega (arith, all) in rw none refl

no_rest : (k time : ℕ) (rest : List (Option ℕ)) → length rest ≡ 0 → fitting k time rest ≡ 0
unfolding fitting
no_rest zero time rest none = refl
no_rest (suc k) time [] none = refl
no_rest (suc k) time (s ∷ rest) none = absurd (omega (arith, none))

no_fit : (k time : ℕ) (rest : List (Option ℕ)) → 0 < length rest → 2 < symbol_for time (get_or rest 0 None) → fitting k time rest ≡ 0
unfolding fitting
no_fit zero time rest there big = refl
no_fit (suc k) time [] there big = absurd (omega (arith, there))
no_fit (suc k) time (s ∷ rest) there big = rw (lt-leb (symbol_for time s) 2 big) refl

pub ends_full : (most count time target : ℕ) (rest : List (Option ℕ)) → most ≤ count → count + fitting (most - count) time rest ≡ target → count ≡ target
ends_full most count time target rest all h = omega (arith, h, no_more most count time rest all)

pub ends_empty : (k count time target : ℕ) (rest : List (Option ℕ)) → length rest ≡ 0 → count + fitting k time rest ≡ target → count ≡ target
ends_empty k count time target rest none h = omega (arith, h, no_rest k time rest none)

pub ends_unfit : (k count time target : ℕ) (rest : List (Option ℕ)) → 0 < length rest → 2 < symbol_for time (get_or rest 0 None) → count + fitting k time rest ≡ target → count ≡ target
ends_unfit k count time target rest there big h = omega (arith, h, no_fit k time rest there big)

one_fits : (k time : ℕ) (rest : List (Option ℕ)) → 0 < k → 0 < length rest → symbol_for time (get_or rest 0 None) ≤ 2
    → fitting k time rest ≡ 1 + fitting (k - 1) (time_for time (get_or rest 0 None)) (take (length rest - 1) (drop 1 rest))
unfolding fitting
one_fits zero time rest some there fits = absurd (omega (arith, some))
one_fits (suc k) time [] some there fits = absurd (omega (arith, there))
one_fits (suc k) time (s ∷ rest) some there fits =
    let d : suc k - 1 ≡ k = omega arith in
    let l : length (s ∷ rest) - 1 ≡ length rest = omega arith in
    rw (le-leb (symbol_for time s) 2 fits, d, l, take_all (length rest) rest (omega arith)) refl

pub fitting_step : (most count time t target : ℕ) (rest : List (Option ℕ)) → count < most → 0 < length rest → symbol_for time (get_or rest 0 None) ≤ 2 → t ≡ time_for time (get_or rest 0 None)
    → count + fitting (most - count) time rest ≡ target → (count + 1) + fitting (most - (count + 1)) t (take (length rest - 1) (drop 1 rest)) ≡ target
fitting_step most count time t target rest less there fits time_is h =
    let others : List (Option ℕ) = take (length rest - 1) (drop 1 rest) in
    let left : most - count - 1 ≡ most - (count + 1) = omega (arith, less) in
    let one : fitting (most - count) time rest ≡ 1 + fitting (most - (count + 1)) t others =
    one_fits (most - count) time rest (omega (arith, less)) there fits ∙ ap (λ (i : ℕ). 1 + fitting i (time_for time (get_or rest 0 None)) others) left
    ∙ ap (λ (x : ℕ). 1 + fitting (most - (count + 1)) x others) (sym time_is) in
    omega (arith, h, one)

pub below_written : (from : ℕ) (ss : List (Option ℕ)) (lent items old : List ℕ) → old ≡ [] → lent ≡ items → items ≡ old ++ symbols_of from ss → Fit from ss → all_below 4 lent ≡ true
below_written from ss lent items old none same is fits =
    ap (all_below 4) (same ∙ is ∙ ap (λ (t : List ℕ). t ++ symbols_of from ss) none) ∙ symbols_below from ss fits

-- ---- the whole

regroup : (a b c d : List ℕ) → ((a ++ b) ++ c) ++ d ≡ a ++ (b ++ (c ++ d))
regroup a b c d = append_assoc (a ++ b) c d ∙ append_assoc a b (c ++ d)

body_says : (base word count reference : ℕ) (ss : List (Option ℕ)) (symbols chunks zeros more : List ℕ) → reference < 4294967296 → Fit reference ss → symbols ≡ symbols_of reference ss → count ≡ length symbols
    → 256 * (word / 256) ≡ reference → ((more : List ℕ) → symbols_at (length symbols) (chunks ++ more) ≡ Ok (symbols, more))
    → body_at base count word (((chunks ++ deltas_of reference ss) ++ zeros) ++ more) ≡ Ok (reported_by base word ss)
unfolding body_at
body_says base word count reference ss symbols chunks zeros more f fits are counts time says =
    let after : List ℕ = deltas_of reference ss ++ (zeros ++ more) in
    let first : symbols_at count (((chunks ++ deltas_of reference ss) ++ zeros) ++ more) ≡ Ok (symbols_of reference ss, after) =
    ap (λ (n : ℕ). symbols_at n (((chunks ++ deltas_of reference ss) ++ zeros) ++ more)) counts
    ∙ ap (symbols_at (length symbols)) (regroup chunks (deltas_of reference ss) zeros more) ∙ says after
    ∙ ap (λ (t : List ℕ). let o : Result (List ℕ × List ℕ) TransportFault = Ok (t, after) in o) are in
    let second : statuses_at (256 * (word / 256)) (symbols_of reference ss) after ≡ Ok (ss, zeros ++ more) =
    ap (λ (t : ℕ). statuses_at t (symbols_of reference ss) after) time ∙ statuses_again reference ss (zeros ++ more) f fits in
    ap (λ (o : Result (List ℕ × List ℕ) TransportFault). o >>= λ x. (statuses_at (256 * (word / 256)) x.0 x.1) >>= λ y. Ok (reported_by base word y.0)) first
    ∙ ap (λ (o : Result (List (Option ℕ) × List ℕ) TransportFault). o >>= λ y. Ok (reported_by base word y.0)) second

pub body_written : (old b c new symbols : List ℕ) (reference : ℕ) (ss : List (Option ℕ)) → reference < 4294967296 → Fit reference ss → symbols ≡ symbols_of reference ss
    → Chunked old b symbols → c ≡ b ++ deltas_of reference ss → new ≡ c ++ replicate ((4 - length c % 4) % 4) 0 → IsBody old new reference ss
body_written old b c new symbols reference ss f fits are chunked second third =
    let zeros : List ℕ = replicate ((4 - length c % 4) % 4) 0 in
    let fill : length zeros ≡ (4 - length c % 4) % 4 = length-replicate ((4 - length c % 4) % 4) 0 in
    let counts : length symbols ≡ length ss = ap length are ∙ length_symbols reference ss in
    record {
      body = (chunked.chunks ++ deltas_of reference ss) ++ zeros;
      is = third ∙ ap (λ (t : List ℕ). t ++ zeros) (second ∙ ap (λ (t : List ℕ). t ++ deltas_of reference ss) chunked.is ∙ append_assoc old chunked.chunks (deltas_of reference ss)) ∙ append_assoc old (chunked.chunks ++ deltas_of reference ss) zeros;
      whole = omega (arith, ap length third, length-append c zeros, fill);
      short = omega (arith, length-append (chunked.chunks ++ deltas_of reference ss) zeros, length-append chunked.chunks (deltas_of reference ss), chunked.short, counts, deltas_short reference ss, fill);
      says = λ base word more time. body_says base word (length ss) reference ss symbols chunked.chunks zeros more f fits are (sym counts) time chunked.says;
    }

header_says : (base count word : ℕ) (bytes : List ℕ) → base < 65536 → count < 65536 → word < 4294967296 → feedback_at (feedback_header base count word ++ bytes) ≡ body_at base count word bytes
unfolding feedback_at
header_says base count word bytes b c w = rw (from_be_bytes-to_be_bytes_2 base b, from_be_bytes-to_be_bytes_2 count c, from_be_bytes-to_be_bytes_4 word w) refl

same_reported : (base word reference counter : ℕ) (ss : List (Option ℕ)) → 256 * (word / 256) ≡ reference → word % 256 ≡ counter
    → reported_by base word ss ≡ record { base = base; reference = reference; counter = counter; statuses = ss }
same_reported base word reference counter ss time number =
    ap (λ (t : ℕ). let r : Reported = record { base = base; reference = t; counter = word % 256; statuses = ss } in r) time
    ∙ ap (λ (k : ℕ). let r : Reported = record { base = base; reference = reference; counter = k; statuses = ss } in r) number

pub reported_written : (old header full new : List ℕ) (base reference counter : ℕ) (ss : List (Option ℕ)) → base < 65536 → reference < 4294967296 → reference % 256 ≡ 0 → counter < 256 → length ss ≤ 65535
    → header ≡ feedback_header base (length ss) (reference + counter) → IsBody header full reference ss → new ≡ old ++ full
    → AppendsReported old new (record { base = base; reference = reference; counter = counter; statuses = ss })
reported_written old header full new base reference counter ss b r whole k few is body e =
    let word : ℕ = reference + counter in
    let small : word < 4294967296 = omega (arith, r, whole, k) in
    let time : 256 * (word / 256) ≡ reference = omega (arith, whole, k) in
    let number : word % 256 ≡ counter = omega (arith, whole, k) in
    let eight : length header ≡ 8 = ap length is in (
      full,
      record {
        whole = body.whole;
        short = omega (arith, ap length body.is, length-append header body.body, eight, body.short);
        says = λ more.
            ap (λ (t : List ℕ). feedback_at (t ++ more)) body.is ∙ ap feedback_at (append_assoc header body.body more) ∙ ap (λ (t : List ℕ). feedback_at (t ++ (body.body ++ more))) is
            ∙ header_says base (length ss) word (body.body ++ more) b (omega (arith, few)) small ∙ body.says base word more time
            ∙ ap (λ (t : Reported). let o : Result Reported TransportFault = Ok t in o) (same_reported base word reference counter ss time number);
      },
      e,
    )
