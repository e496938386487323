-- The sizes of an index, one after another, and the frames of these sizes.
use Rattle.std.proofs.Common.{◌≡◌, ℕ, zero, suc, ◌+◌, ◌-◌, ◌*◌, ◌<◌, ◌≤◌, List, [], length, take, drop, get_or, Option, Some, None, refl, sym, ap, ◌∙◌, arith, length-append}
use Rattle.std.specs.List.{concat}
use Rattle.std.specs.Prelude.{IfSome}
use Rattle.std.proofs.lemmas.Bool.{le-ltb, lt-ltb}
use Rattle.std.proofs.lemmas.List.{length-take, length-drop, drop-drop}
use Rattle.codec_payload_vpx.specs.Vp9Superframes.{Left, frames_in, frames_left, next_size, placed_in, size_sum}

pub sum_step : (n i width sum size : ℕ) (sizes rest : List ℕ) → i < n → size ≡ next_size width sizes → rest ≡ drop width sizes → sum + size_sum (n - i) width sizes ≡ (sum + size) + size_sum (n - (i + 1)) width rest
unfolding size_sum
sum_step n i width sum size sizes rest lt is left =
    let m : ℕ = n - (i + 1) in
    let e : n - i ≡ suc m = omega (arith, lt) in
    let same : size_sum m width (drop width sizes) ≡ size_sum m width rest = rw left refl in
    ap (λ (k : ℕ). sum + size_sum k width sizes) e ∙ omega (arith, is, same)

pub sum_end : (n i width sum : ℕ) (sizes : List ℕ) → n ≤ i → sum + size_sum (n - i) width sizes ≡ sum
unfolding size_sum
sum_end n i width sum sizes le =
    let e : n - i ≡ 0 = omega (arith, le) in
    ap (λ (k : ℕ). sum + size_sum k width sizes) e ∙ omega arith

-- ---- frames by their numbers

pub how_many : (n width : ℕ) (sizes body : List ℕ) → length (frames_in n width sizes body) ≡ n
unfolding frames_in
how_many zero width sizes body = refl
how_many (suc n) width sizes body = let e = how_many n width (drop width sizes) (drop (next_size width sizes) body) in omega (arith, e)

numbered : (i n width : ℕ) (sizes body : List ℕ) → i < n → get_or (frames_in n width sizes body) i [] ≡ take (next_size width (drop (i * width) sizes)) (drop (size_sum i width sizes) body)
unfolding frames_in size_sum
numbered i zero width sizes body lt = absurd (omega (arith, lt))
numbered zero (suc n) width sizes body lt = let none : 0 * width ≡ 0 = omega arith in sym (ap (λ (k : ℕ). take (next_size width (drop k sizes)) body) none)
numbered (suc i) (suc n) width sizes body lt =
    let s : ℕ = next_size width sizes in
    let others = numbered i n width (drop width sizes) (drop s body) (omega (arith, lt)) in
    let further : drop (i * width) (drop width sizes) ≡ drop (width + i * width) sizes = drop-drop (i * width) width sizes in
    let behind : drop (size_sum i width (drop width sizes)) (drop s body) ≡ drop (s + size_sum i width (drop width sizes)) body = drop-drop (size_sum i width (drop width sizes)) s body in
    let next : width + i * width ≡ suc i * width = omega arith in
    others
    ∙ ap (λ (t : List ℕ). take (next_size width t) (drop (size_sum i width (drop width sizes)) (drop s body))) (further ∙ ap (λ (k : ℕ). drop k sizes) next)
    ∙ ap (take (next_size width (drop (suc i * width) sizes))) behind

before : (i n width : ℕ) (sizes body : List ℕ) → i ≤ n → length (concat (take i (frames_in n width sizes body))) ≡ length (take (size_sum i width sizes) body)
unfolding frames_in size_sum
before zero n width sizes body le = refl
before (suc i) zero width sizes body le = absurd (omega (arith, le))
before (suc i) (suc n) width sizes body le =
    let s : ℕ = next_size width sizes in
    let k : ℕ = size_sum i width (drop width sizes) in
    let others = before i n width (drop width sizes) (drop s body) (omega (arith, le)) in
    omega (arith, others, length-append (take s body) (concat (take i (frames_in n width (drop width sizes) (drop s body)))), length-take s body, length-take k (drop s body), length-drop s body, length-take (s + k) body)

placed_there : (i n width : ℕ) (sizes body : List ℕ) → i < n
    → placed_in i (frames_in n width sizes body) ≡ Some (length (take (size_sum i width sizes) body), take (next_size width (drop (i * width) sizes)) (drop (size_sum i width sizes) body))
placed_there i n width sizes body lt =
    let many = how_many n width sizes body in
    rw (lt-ltb i (length (frames_in n width sizes body)) (omega (arith, lt, many)), before i n width sizes body (omega (arith, lt)), numbered i n width sizes body lt) refl

placed_nowhere : (i n width : ℕ) (sizes body : List ℕ) → n ≤ i → placed_in i (frames_in n width sizes body) ≡ None
placed_nowhere i n width sizes body le =
    let many = how_many n width sizes body in
    rw (le-ltb i (length (frames_in n width sizes body)) (omega (arith, le, many))) refl

pub placed_behind : (i : ℕ) (s : Left) → s.alone ≡ None → s.count ≤ i → placed_in i (frames_left s) ≡ None
placed_behind i s none le = rw none (placed_nowhere i s.count s.width s.sizes s.bytes le)

pub placed_among : (i : ℕ) (s : Left) → s.alone ≡ None → i < s.count
    → placed_in i (frames_left s) ≡ Some (length (take (size_sum i s.width s.sizes) s.bytes), take (next_size s.width (drop (i * s.width) s.sizes)) (drop (size_sum i s.width s.sizes) s.bytes))
placed_among i s none lt = rw none (placed_there i s.count s.width s.sizes s.bytes lt)

pub placed_behind_one : (i : ℕ) (s : Left) (frame : List ℕ) → s.alone ≡ Some frame → s.count ≡ 0 → 1 ≤ i → placed_in i (frames_left s) ≡ None
unfolding frames_in
placed_behind_one i s frame some none le = rw (some, none, le-ltb i 1 le) refl

pub none_behind : {A : Type 0} (o : Option A) (x : A) (n : ℕ) → o ≡ Some x → IfSome o (λ _. n ≡ 0) → n ≡ 0
none_behind (Some y) x n is h = h
none_behind None x n is h = absurd cc
