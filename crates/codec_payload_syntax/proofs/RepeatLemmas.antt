-- Tables that are read several times.
use Rattle.std.proofs.Common.{◌≡◌, ℕ, zero, suc, ◌+◌, ◌-◌, ◌<◌, ◌≤◌, List, [], ◌∷◌, ◌++◌, length, Option, Some, None, Result, Ok, Err, refl, sym, ap, ◌∙◌, arith, append_assoc, append-nil, length-append}
use Rattle.codec_payload_syntax.specs.Syntax.{Syntax, times, until_none, at_most, with_others, then_read, read}

abbrev Readings : Type 0 → Type 0 → Type 0
Readings F A = Result (List A × List ℕ) F

-- the values so far, before those that are read
abbrev pub after : {F A : Type 0} → List A → Result (List A × List ℕ) F → Result (List A × List ℕ) F
after done (Ok x) = Ok (done ++ x.0, x.1)
after done (Err e) = Err e

pub after_nothing : {F A : Type 0} (r : Result (List A × List ℕ) F) → after [] r ≡ r
after_nothing (Ok r) = refl
after_nothing (Err e) = refl

pub after_one : {F A : Type 0} (done : List A) (x : A) (r : Readings F A) → after done (then_read r (λ xs rest. Ok (x ∷ xs, rest))) ≡ after (done ++ x ∷ []) r
after_one done x (Ok r) = ap (λ t. Ok (t, r.1)) (sym (append_assoc done (x ∷ []) r.0))
after_one done x (Err e) = refl

one_longer : {A : Type 0} (n : ℕ) (done next : List A) (x : A) → next ≡ done ++ x ∷ [] → n - length next ≡ n - (length done + 1)
one_longer n done next x is = omega (arith, ap length is, length-append done (x ∷ []))

module _ {F A : Type 0} (short : F) (s : Syntax F A) where
  abbrev and_times : ℕ → Result (A × List ℕ) F → Readings F A
  and_times m r = then_read r (λ y others. then_read (read short (times m s) others) (λ xs end. Ok (y ∷ xs, end)))

  -- another value
  pub times_more : (n : ℕ) (done next : List A) (x : A) (bs rest : List ℕ) → length done < n → next ≡ done ++ x ∷ [] → Ok (x, rest) ≡ read short s bs → after next (read short (times (n - length next) s) rest) ≡ after done (read short (times (n - length done) s) bs)
  unfolding times
  times_more n done next x bs rest lt longer is =
      let m : ℕ = n - (length done + 1) in
      let e : n - length done ≡ suc m = omega (arith, lt) in
      ap (λ (k : ℕ). after next (read short (times k s) rest)) (one_longer n done next x longer)
      ∙ ap (λ (t : List A). after t (read short (times m s) rest)) longer
      ∙ sym (after_one done x (read short (times m s) rest))
      ∙ ap (λ (r : Result (A × List ℕ) F). after done (and_times m r)) is
      ∙ ap (λ (k : ℕ). after done (read short (times k s) bs)) (sym e)

  pub times_fault : (n : ℕ) (done : List A) (e : F) (bs : List ℕ) → length done < n → Err e ≡ read short s bs → after done (read short (times (n - length done) s) bs) ≡ Err e
  unfolding times
  times_fault n done e bs lt is =
      let m : ℕ = n - (length done + 1) in
      let next : n - length done ≡ suc m = omega (arith, lt) in
      ap (λ (k : ℕ). after done (read short (times k s) bs)) next
      ∙ ap (λ (r : Result (A × List ℕ) F). after done (and_times m r)) (sym is)

  pub times_end : (n : ℕ) (done : List A) (bs : List ℕ) → n ≤ length done → after done (read short (times (n - length done) s) bs) ≡ Ok (done, bs)
  unfolding times
  times_end n done bs le =
      let none : n - length done ≡ 0 = omega (arith, le) in
      ap (λ (k : ℕ). after done (read short (times k s) bs)) none ∙ ap (λ (t : List A). Ok (t, bs)) (append-nil done)

module _ {F A : Type 0} (short : F) (s : Syntax F (Option A)) (fault : F) where
  abbrev and_until : ℕ → Result (Option A × List ℕ) F → Readings F A
  and_until m r = then_read r (λ y others. read short (with_others (until_none m fault s) y) others)

  abbrev and_none : Result (Option A × List ℕ) F → Readings F A
  and_none r = then_read r (λ y others. read short (at_most fault y) others)

  pub until_more : (n : ℕ) (done next : List A) (x : A) (bs rest : List ℕ) → length done < n → next ≡ done ++ x ∷ [] → Ok (Some x, rest) ≡ read short s bs → after next (read short (until_none (n - length next) fault s) rest) ≡ after done (read short (until_none (n - length done) fault s) bs)
  unfolding until_none
  until_more n done next x bs rest lt longer is =
      let m : ℕ = n - (length done + 1) in
      let e : n - length done ≡ suc m = omega (arith, lt) in
      ap (λ (k : ℕ). after next (read short (until_none k fault s) rest)) (one_longer n done next x longer)
      ∙ ap (λ (t : List A). after t (read short (until_none m fault s) rest)) longer
      ∙ sym (after_one done x (read short (until_none m fault s) rest))
      ∙ ap (λ (r : Result (Option A × List ℕ) F). after done (and_until m r)) is
      ∙ ap (λ (k : ℕ). after done (read short (until_none k fault s) bs)) (sym e)

  pub until_end : (n : ℕ) (done : List A) (bs rest : List ℕ) → Ok (None, rest) ≡ read short s bs → after done (read short (until_none n fault s) bs) ≡ Ok (done, rest)
  unfolding until_none
  until_end zero done bs rest is = ap (λ (r : Result (Option A × List ℕ) F). after done (and_none r)) (sym is) ∙ ap (λ (t : List A). Ok (t, rest)) (append-nil done)
  until_end (suc n) done bs rest is = ap (λ (r : Result (Option A × List ℕ) F). after done (and_until n r)) (sym is) ∙ ap (λ (t : List A). Ok (t, rest)) (append-nil done)

  pub until_fault : (n : ℕ) (done : List A) (e : F) (bs : List ℕ) → Err e ≡ read short s bs → after done (read short (until_none n fault s) bs) ≡ Err e
  unfolding until_none
  until_fault zero done e bs is = ap (λ (r : Result (Option A × List ℕ) F). after done (and_none r)) (sym is)
  until_fault (suc n) done e bs is = ap (λ (r : Result (Option A × List ℕ) F). after done (and_until n r)) (sym is)

  pub until_full : (n : ℕ) (done : List A) (x : A) (bs rest : List ℕ) → n ≤ length done → Ok (Some x, rest) ≡ read short s bs → after done (read short (until_none (n - length done) fault s) bs) ≡ Err fault
  unfolding until_none
  until_full n done x bs rest le is =
      let none : n - length done ≡ 0 = omega (arith, le) in
      ap (λ (k : ℕ). after done (read short (until_none k fault s) bs)) none ∙ ap (λ (r : Result (Option A × List ℕ) F). after done (and_none r)) (sym is)
