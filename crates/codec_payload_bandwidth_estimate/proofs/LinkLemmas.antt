-- A link that never idles is measured exactly.
use Rattle.std.specs.Prelude.{if◌then◌else◌, ◌&&◌, not}
use Rattle.std.proofs.Common.{◌≡◌, ◌∙◌, ℕ, ◌+◌, ◌-◌, ◌*◌, ◌/◌, ◌≤◌, ◌<◌, Bool, true, false, List, [], ◌∷◌, Option, Some, None, refl, sym, ap, subst, arith, nat_lt}
use Rattle.std.proofs.Math.Nat.{mul-div_cancel_left}
use Rattle.std.proofs.lemmas.Bool.Decides.{nat_tests}
use Rattle.codec_payload_bandwidth_estimate.specs.declared.arrivals.Arrival.{Arrival}
use Rattle.codec_payload_bandwidth_estimate.specs.declared.arrivals.Span.{Span}
use Rattle.codec_payload_bandwidth_estimate.specs.Arrivals.{LinkIsMeasured, NeverIdles, measure_from, measure_of, newest_at, rate_by, rate_or, rate_of}

-- the bytes of a span are what the rate carries in its time
abbrev pub IsOf : ℕ → Span → Type 0
IsOf rate span = span.time * rate ≡ span.bytes * 8000000

-- the time since one packet is that since the next one, and that between them
both_times : (rate newest at before bytes size : ℕ) → before ≤ at → at ≤ newest → (newest - at) * rate ≡ bytes * 8000000 → (at - before) * rate ≡ size * 8000000
    → (newest - before) * rate ≡ (bytes + size) * 8000000
both_times rate newest at before bytes size h k one two =
    subst (λ (n : ℕ). n * rate ≡ (bytes + size) * 8000000) whole (omega (arith, one, two))
  where
    whole : (newest - at) + (at - before) ≡ newest - before
    whole = omega (arith, h, k)

by_tests : (rate newest bytes : ℕ) (one : Arrival) (span : Span) (rest : Span) (b d : Bool) → IsOf rate span → (newest - one.at) * rate ≡ bytes * 8000000
    → IsOf rate rest → IsOf rate (if b then span else (if d then span else rest))
by_tests rate newest bytes one span rest true d is here more = is
by_tests rate newest bytes one span rest false true is here more = is
by_tests rate newest bytes one span rest false false is here more = more

measured : (rate newest bytes : ℕ) (span : Span) (busy : Bool) (xs : List (Option Arrival)) → NeverIdles rate xs → IsOf rate span
    → ((one : Arrival) (rest : List (Option Arrival)) → xs ≡ Some one ∷ rest → (one.at ≤ newest) × ((newest - one.at) * rate ≡ bytes * 8000000))
    → IsOf rate (measure_from newest bytes span busy xs)
measured rate newest bytes span busy [] never is here = is
measured rate newest bytes span busy (None ∷ rest) never is here = is
measured rate newest bytes span busy (Some one ∷ []) never is here =
    let now = here one [] refl in
    by_tests rate newest bytes one span (record { bytes = bytes; time = newest - one.at }) (nat_lt 250000 (newest - one.at)) (busy && not one.waited) is now.1 now.1
measured rate newest bytes span busy (Some one ∷ None ∷ rest) never is here =
    let now = here one (None ∷ rest) refl in
    by_tests rate newest bytes one span (record { bytes = bytes; time = newest - one.at }) (nat_lt 250000 (newest - one.at)) (busy && not one.waited) is now.1 now.1
measured rate newest bytes span busy (Some one ∷ Some before ∷ rest) never is here =
    let now = here one (Some before ∷ rest) refl in
    let next : Span = record { bytes = bytes; time = newest - one.at } in
    let earlier : before.at ≤ newest = omega (arith, never.0, now.0) in
    let at_before : (newest - before.at) * rate ≡ (bytes + one.size) * 8000000 = both_times rate newest one.at before.at bytes one.size never.0 now.0 now.1 never.1 in
    by_tests rate newest bytes one span (measure_from newest (bytes + one.size) next busy (Some before ∷ rest)) (nat_lt 250000 (newest - one.at)) (busy && not one.waited) is now.1
    (measured rate newest (bytes + one.size) next busy (Some before ∷ rest) never.2 now.1
    (λ it more e. let same : before ≡ it = cc in subst (λ (a : Arrival). (a.at ≤ newest) × ((newest - a.at) * rate ≡ (bytes + one.size) * 8000000)) same (earlier, at_before)))

no_time : (at rate : ℕ) → (at - at) * rate ≡ 0 * 8000000
no_time at rate = let zero_time : at - at ≡ 0 = omega arith in ap (λ (n : ℕ). n * rate) zero_time ∙ omega arith

begins : (rate : ℕ) (latest : List (Option Arrival)) (one : Arrival) (rest : List (Option Arrival)) → latest ≡ Some one ∷ rest
    → (one.at ≤ newest_at latest) × ((newest_at latest - one.at) * rate ≡ 0 * 8000000)
begins rate latest one rest e =
    subst (λ (l : List (Option Arrival)). (one.at ≤ newest_at l) × ((newest_at l - one.at) * rate ≡ 0 * 8000000)) (sym e) (omega arith, no_time one.at rate)

whole : (rate : ℕ) (busy : Bool) (latest : List (Option Arrival)) → NeverIdles rate latest → IsOf rate (measure_of busy latest)
whole rate busy latest never =
    measured rate (newest_at latest) 0 (record { bytes = 0; time = 0 }) busy latest never (omega arith) (begins rate latest)

-- the rate of such a span
rate_if : (rate measured : ℕ) (span : Span) (b : Bool) → nat_lt span.time 50000 ≡ b → IsOf rate span
    → (if b then None else Some (span.bytes * 8000000 / span.time)) ≡ Some measured → measured ≡ rate
rate_if rate measured span true short is h = cc
rate_if rate measured span false short is h =
    let long : 50000 ≤ span.time = grind (arith, nat_tests) in
    let some : 0 < span.time = omega (arith, long) in
    let found : span.bytes * 8000000 / span.time ≡ measured = cc in
    sym found ∙ ap (λ (n : ℕ). n / span.time) (sym is) ∙ mul-div_cancel_left rate some

rate_is : (rate measured : ℕ) (span : Span) → IsOf rate span → rate_by span ≡ Some measured → measured ≡ rate
rate_is rate measured span is h = rate_if rate measured span (nat_lt span.time 50000) refl is h

either : (rate measured : ℕ) (one other : Option ℕ) → ((m : ℕ) → one ≡ Some m → m ≡ rate) → ((m : ℕ) → other ≡ Some m → m ≡ rate) → rate_or one other ≡ Some measured
    → measured ≡ rate
either rate measured None other first second h = second measured h
either rate measured (Some m) other first second h = first measured h

pub link_is_measured : LinkIsMeasured
link_is_measured rate measured latest never h =
    either rate measured (rate_by (measure_of true latest)) (rate_of latest) (λ m e. rate_is rate m (measure_of true latest) (whole rate true latest never) e)
    (λ m e. rate_is rate m (measure_of false latest) (whole rate false latest never) e) h
