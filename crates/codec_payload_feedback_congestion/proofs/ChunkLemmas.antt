-- Packet status chunks: digits of a word, and chunks one after another.
use Rattle.std.proofs.Common.{◌≡◌, ◌≢◌, ℕ, zero, suc, ◌+◌, ◌*◌, ◌-◌, ◌/◌, ◌%◌, ◌^◌, ◌<◌, ◌≤◌, ◌&&◌, List, [], ◌∷◌, ◌++◌, length, get_or, take, drop, replicate, min, Bool, true, false, cond, ltb, eqb, Result, Ok, Err, refl, sym, ap, ◌∙◌, subst, arith, append_assoc, length-append}
use Rattle.std.specs.Int.{w16, from_be_bytes, to_be_bytes}
use Rattle.std.proofs.lemmas.Bool.{lt-ltb, le-ltb, ltb-true, and_parts, ne_eqb}
use Rattle.std.proofs.lemmas.List.{append-nil, take_all, take_min, length-replicate, length-take-le, length-drop, take-append-drop, take_more, replicate_more}
use Rattle.std.proofs.Math.Nat.{pow-succ', pow-zero}
use Rattle.std.proofs.lemmas.Nat.{div-mul-add, mod-mul-add, mul-le, from_be_bytes-to_be_bytes_2}
use Rattle.codec_payload_feedback_congestion.specs.declared.transport.TransportFault.{TransportFault}
use Rattle.codec_payload_feedback_congestion.specs.Chunks.{◌>>=◌, unpacked, chunk_symbols, counted, with_symbols, symbols_at, padded, are_below, all_below, Chunked}

-- the first symbol, and those after it
pub front_of : (rest : List ℕ) → 0 < length rest → rest ≡ get_or rest 0 0 ∷ take (length rest - 1) (drop 1 rest)
front_of [] some = absurd (omega (arith, some))
front_of (b ∷ rest) some = let k : length (b ∷ rest) - 1 ≡ length rest = omega arith in rw (k, take_all (length rest) rest (omega arith)) refl

-- ---- digits

unpacked_more : (base j word s : ℕ) → s < base → unpacked base (suc j) (word * base + s) ≡ unpacked base j word ++ s ∷ []
unfolding unpacked
unpacked_more base j word s small = rw (div-mul-add word base s small, mod-mul-add word base s small) refl

pub pack_none : (base k word : ℕ) (rest : List ℕ) → k ≡ 0 → (j m : ℕ) → m ≡ j + k → unpacked base m word ≡ unpacked base j word ++ padded k rest
unfolding padded
pack_none base zero word rest e j m is = let same : m ≡ j = omega arith in ap (λ (i : ℕ). unpacked base i word) same ∙ sym (append-nil (unpacked base j word))
pack_none base (suc k) word rest e j m is = absurd (omega (arith, e))

pack_step : (base k word s next r : ℕ) (others : List ℕ) → s < base → next ≡ word * base + s
    → ((j m : ℕ) → m ≡ j + k → unpacked base m r ≡ unpacked base j next ++ padded k others)
    → (j m : ℕ) → m ≡ j + suc k → unpacked base m r ≡ unpacked base j word ++ (s ∷ padded k others)
pack_step base k word s next r others small e h j m is =
    h (suc j) m (omega arith)
    ∙ ap (λ (t : List ℕ). t ++ padded k others) (ap (λ (w : ℕ). unpacked base (suc j) w) e ∙ unpacked_more base j word s small)
    ∙ append_assoc (unpacked base j word) (s ∷ []) (padded k others)

pub pack_zero : (base k word next r : ℕ) (rest : List ℕ) → 1 ≤ base → 0 < k → length rest ≡ 0 → next ≡ word * base
    → ((j m : ℕ) → m ≡ j + (k - 1) → unpacked base m r ≡ unpacked base j next ++ padded (k - 1) rest)
    → (j m : ℕ) → m ≡ j + k → unpacked base m r ≡ unpacked base j word ++ padded k rest
unfolding padded
pack_zero base zero word next r rest pos some none e h j m is = absurd (omega (arith, some))
pack_zero base (suc k) word next r (b ∷ rest) pos some none e h j m is = absurd (omega (arith, none))
pack_zero base (suc k) word next r [] pos some none e h j m is =
    let d : suc k - 1 ≡ k = omega arith in
    pack_step base k word 0 next r [] (omega (arith, pos)) (omega (arith, e))
    (subst (λ (i : ℕ). (j m : ℕ) → m ≡ j + i → unpacked base m r ≡ unpacked base j next ++ padded i []) d h) j m is

pub pack_some : (base k word next r : ℕ) (rest : List ℕ) → 0 < k → 0 < length rest → get_or rest 0 0 < base → next ≡ word * base + get_or rest 0 0
    → ((j m : ℕ) → m ≡ j + (k - 1) → unpacked base m r ≡ unpacked base j next ++ padded (k - 1) (take (length rest - 1) (drop 1 rest)))
    → (j m : ℕ) → m ≡ j + k → unpacked base m r ≡ unpacked base j word ++ padded k rest
unfolding padded
pack_some base zero word next r rest some there small e h j m is = absurd (omega (arith, some))
pack_some base (suc k) word next r [] some there small e h j m is = absurd (omega (arith, there))
pack_some base (suc k) word next r (s ∷ rest) some there small e h j m is =
    let d : suc k - 1 ≡ k = omega arith in
    let l : length (s ∷ rest) - 1 ≡ length rest = omega arith in
    let all : take (length (s ∷ rest) - 1) rest ≡ rest = ap (λ (i : ℕ). take i rest) l ∙ take_all (length rest) rest (omega arith) in
    pack_step base k word s next r rest small e
    (λ j m is. h j m (omega (arith, d)) ∙ ap (λ (i : ℕ). unpacked base j next ++ padded i (take (length (s ∷ rest) - 1) rest)) d ∙ ap (λ (t : List ℕ). unpacked base j next ++ padded k t) all) j m is

-- ---- bounds of a word

power : (base k : ℕ) → 0 < k → base ^ k ≡ base * base ^ (k - 1)
power base zero some = absurd (omega (arith, some))
power base (suc k) some = let d : suc k - 1 ≡ k = omega arith in pow-succ' base k ∙ ap (λ (i : ℕ). base * base ^ i) (sym d)

positive_power : (base k : ℕ) → 1 ≤ base → 1 ≤ base ^ k
positive_power base zero pos = omega (arith, pow-zero base)
positive_power base (suc k) pos = let less : 1 * 1 ≤ base * base ^ k = mul-le 1 1 base (base ^ k) pos (positive_power base k pos) in omega (arith, less, pow-succ' base k)

pub room_step : (base k word s : ℕ) → s < base → 0 < k → (word + 1) * base ^ k ≤ 65536 → (word * base + s + 1) * base ^ (k - 1) ≤ 65536
room_step base k word s small some room =
    let e : (word + 1) * base ^ k ≡ (word + 1) * (base * base ^ (k - 1)) = ap (λ (p : ℕ). (word + 1) * p) (power base k some) in
    let less : (word * base + s + 1) * base ^ (k - 1) ≤ (word * base + base) * base ^ (k - 1) = mul-le (word * base + s + 1) (base ^ (k - 1)) (word * base + base) (base ^ (k - 1)) (omega (arith, small)) (omega arith) in
    omega (arith, e, less, room)

pub room_fits : (base k word s : ℕ) → 1 ≤ base → s < base → 0 < k → (word + 1) * base ^ k ≤ 65536 → word * base + s < 65536
room_fits base k word s pos small some room =
    let step : (word * base + s + 1) * base ^ (k - 1) ≤ 65536 = room_step base k word s small some room in
    let less : (word * base + s + 1) * 1 ≤ (word * base + s + 1) * base ^ (k - 1) = mul-le (word * base + s + 1) 1 (word * base + s + 1) (base ^ (k - 1)) (omega arith) (positive_power base (k - 1) pos) in
    omega (arith, step, less)

pub least_step : (base k word s r : ℕ) → 0 < k → (word * base + s) * base ^ (k - 1) ≤ r → word * base ^ k ≤ r
least_step base k word s r some h =
    let e : word * base ^ k ≡ word * (base * base ^ (k - 1)) = ap (λ (p : ℕ). word * p) (power base k some) in
    omega (arith, e, h)

pub most_step : (base k word s r : ℕ) → s < base → 0 < k → r < (word * base + s + 1) * base ^ (k - 1) → r < (word + 1) * base ^ k
most_step base k word s r small some h =
    let e : (word + 1) * base ^ k ≡ (word + 1) * (base * base ^ (k - 1)) = ap (λ (p : ℕ). (word + 1) * p) (power base k some) in
    let less : (word * base + s + 1) * base ^ (k - 1) ≤ (word * base + base) * base ^ (k - 1) = mul-le (word * base + s + 1) (base ^ (k - 1)) (word * base + base) (base ^ (k - 1)) (omega (arith, small)) (omega arith) in
    omega (arith, e, less, h)

-- ---- tests

pub below_front : (base k : ℕ) (ss : List ℕ) → all_below base ss ≡ true → are_below base k ss ≡ true
unfolding are_below all_below
below_front base zero ss h = refl
below_front base (suc k) [] h = refl
below_front base (suc k) (s ∷ ss) h = let p = and_parts (ltb s base) (all_below base ss) h in rw p.0 (below_front base k ss p.1)

pub below_drop : (base n : ℕ) (ss : List ℕ) → all_below base ss ≡ true → all_below base (drop n ss) ≡ true
unfolding all_below
below_drop base zero ss h = h
below_drop base (suc n) [] h = refl
below_drop base (suc n) (s ∷ ss) h = let p = and_parts (ltb s base) (all_below base ss) h in below_drop base n ss p.1

pub below_first : (base k : ℕ) (ss : List ℕ) → 0 < k → 0 < length ss → are_below base k ss ≡ true → get_or ss 0 0 < base
unfolding are_below
below_first base zero ss some there h = absurd (omega (arith, some))
below_first base (suc k) [] some there h = absurd (omega (arith, there))
below_first base (suc k) (s ∷ ss) some there h = let p = and_parts (ltb s base) (are_below base k ss) h in ltb-true s base p.0

pub below_others : (base k : ℕ) (ss : List ℕ) → 0 < k → 0 < length ss → are_below base k ss ≡ true → are_below base (k - 1) (take (length ss - 1) (drop 1 ss)) ≡ true
unfolding are_below
below_others base zero ss some there h = absurd (omega (arith, some))
below_others base (suc k) [] some there h = absurd (omega (arith, there))
below_others base (suc k) (s ∷ ss) some there h =
    let p = and_parts (ltb s base) (are_below base k ss) h in
    let d : suc k - 1 ≡ k = omega arith in
    let l : length (s ∷ ss) - 1 ≡ length ss = omega arith in
    rw (d, l, take_all (length ss) ss (omega arith)) p.1

pub below_none : (base k : ℕ) (ss : List ℕ) → length ss ≡ 0 → are_below base k ss ≡ true
unfolding are_below
below_none base zero ss none = refl
below_none base (suc k) [] none = refl
below_none base (suc k) (s ∷ ss) none = absurd (omega (arith, none))

pub below_zero : (base k : ℕ) (ss : List ℕ) → k ≡ 0 → true ≡ are_below base k ss
unfolding are_below
below_zero base zero ss e = refl
below_zero base (suc k) ss e = absurd (omega (arith, e))

pub below_more : (base k : ℕ) (ss : List ℕ) (r : Bool) → 0 < k → 0 < length ss → get_or ss 0 0 < base → r ≡ are_below base (k - 1) (take (length ss - 1) (drop 1 ss)) → r ≡ are_below base k ss
unfolding are_below
below_more base zero ss r some there lt h = absurd (omega (arith, some))
below_more base (suc k) [] r some there lt h = absurd (omega (arith, there))
below_more base (suc k) (s ∷ ss) r some there lt h =
    let d : suc k - 1 ≡ k = omega arith in
    let l : length (s ∷ ss) - 1 ≡ length ss = omega arith in
    let same : are_below base (suc k - 1) (take (length (s ∷ ss) - 1) ss) ≡ are_below base k ss = rw (d, l, take_all (length ss) ss (omega arith)) refl in
    rw (lt-ltb s base lt) (h ∙ same)

pub below_not : (base k : ℕ) (ss : List ℕ) → 0 < k → 0 < length ss → base ≤ get_or ss 0 0 → ltb (get_or ss 0 0) base ≡ are_below base k ss
unfolding are_below
below_not base zero ss some there le = absurd (omega (arith, some))
below_not base (suc k) [] some there le = absurd (omega (arith, there))
below_not base (suc k) (s ∷ ss) some there le = rw (le-ltb s base le) refl

pub all_first : (base : ℕ) (ss : List ℕ) → 0 < length ss → all_below base ss ≡ true → get_or ss 0 0 < base
unfolding all_below
all_first base [] there h = absurd (omega (arith, there))
all_first base (s ∷ ss) there h = let p = and_parts (ltb s base) (all_below base ss) h in ltb-true s base p.0

-- ---- what a chunk says

pub says_run : (s r len : ℕ) → s < 4 → r < 8192 → r ≤ len → take len (chunk_symbols (s * 8192 + r)) ≡ replicate r s
unfolding chunk_symbols
says_run s r len small short within =
    let run : s * 8192 + r < 32768 = omega arith in
    rw (lt-ltb (s * 8192 + r) 32768 run, div-mul-add s 8192 r short, mod-mul-add s 8192 r short) (take_all len (replicate r s) (omega (arith, length-replicate r s, within)))

padded_front : (k : ℕ) (ss : List ℕ) → take (length ss) (padded k ss) ≡ take k ss
unfolding padded
padded_front zero [] = refl
padded_front zero (s ∷ ss) = refl
padded_front (suc k) [] = refl
padded_front (suc k) (s ∷ ss) = ap (λ (t : List ℕ). s ∷ t) (padded_front k ss)

no_digits : (base word : ℕ) → unpacked base 0 word ≡ []
unfolding unpacked
no_digits base word = refl

all_digits : (base k word r : ℕ) (ss : List ℕ) → ((j m : ℕ) → m ≡ j + k → unpacked base m r ≡ unpacked base j word ++ padded k ss) → unpacked base k r ≡ padded k ss
all_digits base k word r ss h = h 0 k (omega arith) ∙ ap (λ (t : List ℕ). t ++ padded k ss) (no_digits base word)

bits_says : (word : ℕ) → 32768 ≤ word → word < 49152 → chunk_symbols word ≡ unpacked 2 14 word
unfolding chunk_symbols
bits_says word least most = rw (le-ltb word 32768 least, lt-ltb word 49152 most) refl

pairs_says : (word : ℕ) → 49152 ≤ word → chunk_symbols word ≡ unpacked 4 7 word
unfolding chunk_symbols
pairs_says word least = let low : 32768 ≤ word = omega arith in rw (le-ltb word 32768 low, le-ltb word 49152 least) refl

capped : (k n : ℕ) (ss : List ℕ) → n ≡ min (length ss) k → take k ss ≡ take n ss
capped k n ss e = let same : min k (length ss) ≡ n = omega (arith, e) in sym (take_min k ss) ∙ ap (λ (i : ℕ). take i ss) same

pub says_bits : (word n : ℕ) (ss : List ℕ) → n ≡ min (length ss) 14 → ((j m : ℕ) → m ≡ j + 14 → unpacked 2 m word ≡ unpacked 2 j 2 ++ padded 14 ss) → 32768 ≤ word → word < 49152
    → take (length ss) (chunk_symbols word) ≡ take n ss
says_bits word n ss e h least most =
    ap (λ (t : List ℕ). take (length ss) t) (bits_says word least most ∙ all_digits 2 14 2 word ss h) ∙ padded_front 14 ss ∙ capped 14 n ss e

pub says_pairs : (word n : ℕ) (ss : List ℕ) → n ≡ min (length ss) 7 → ((j m : ℕ) → m ≡ j + 7 → unpacked 4 m word ≡ unpacked 4 j 3 ++ padded 7 ss) → 49152 ≤ word
    → take (length ss) (chunk_symbols word) ≡ take n ss
says_pairs word n ss e h least =
    ap (λ (t : List ℕ). take (length ss) t) (pairs_says word least ∙ all_digits 4 7 3 word ss h) ∙ padded_front 7 ss ∙ capped 7 n ss e

-- ---- chunks one after another

-- chunks for the symbols before the rest
pub record ChunkedUpTo (old new symbols rest : List ℕ) : Type 0 where
  pub chunks : List ℕ
  pub front : List ℕ
  pub is : new ≡ old ++ chunks
  pub whole : symbols ≡ front ++ rest
  pub short : 7 * length chunks + 2 * length rest ≤ 2 * length symbols + 12
  pub full : 0 < length rest → 7 * length chunks + 2 * length rest ≤ 2 * length symbols
  pub below : all_below 4 rest ≡ true
  pub says : (more : List ℕ) → symbols_at (length symbols) (chunks ++ more) ≡ with_symbols front (symbols_at (length rest) more)

same_with : (r : Result (List ℕ × List ℕ) TransportFault) → r ≡ with_symbols [] r
same_with (Ok x) = refl
same_with (Err e) = refl

pub both_with : (a b : List ℕ) (r : Result (List ℕ × List ℕ) TransportFault) → with_symbols a (with_symbols b r) ≡ with_symbols (a ++ b) r
both_with a b (Ok x) = ap (λ (t : List ℕ). let o : Result (List ℕ × List ℕ) TransportFault = Ok (t, x.1) in o) (sym (append_assoc a b x.0))
both_with a b (Err e) = refl

pub chunks_none : (old symbols : List ℕ) → all_below 4 symbols ≡ true → ChunkedUpTo old old symbols symbols
chunks_none old symbols below = record {
  chunks = [];
  front = [];
  is = sym (append-nil old);
  whole = refl;
  short = omega arith;
  full = λ more. omega arith;
  below = below;
  says = λ more. same_with (symbols_at (length symbols) more);
}

one_chunk : (n word count : ℕ) (rest more : List ℕ) → n ≡ length rest → 0 < n → word < 65536 → count ≤ length rest → take n (chunk_symbols word) ≡ take count rest
    → symbols_at n (to_be_bytes w16 word ++ more) ≡ with_symbols (take count rest) (symbols_at (n - count) more)
unfolding symbols_at
one_chunk n word count rest more is some small within says =
    let nonzero : n ≡ 0 → ⊥ = λ e. omega (arith, e, some) in
    rw (ne_eqb n 0 nonzero, from_be_bytes-to_be_bytes_2 word small, says, length-take-le count rest within) refl

pub chunks_more : (old new next symbols rest after : List ℕ) (word count : ℕ) → after ≡ drop count rest → 0 < length rest → word < 65536 → 1 ≤ count → count ≤ length rest → (count < length rest → 7 ≤ count) → take (length rest) (chunk_symbols word) ≡ take count rest
    → ChunkedUpTo old new symbols rest → next ≡ new ++ to_be_bytes w16 word → ChunkedUpTo old next symbols after
chunks_more old new next symbols rest after word count same there small some within far says p e =
    subst (λ (t : List ℕ). ChunkedUpTo old next symbols t) (sym same) (
    let two : List ℕ = to_be_bytes w16 word in
    let left : length (drop count rest) ≡ length rest - count = length-drop count rest in
    record {
      chunks = p.chunks ++ two;
      front = p.front ++ take count rest;
      is = e ∙ ap (λ (t : List ℕ). t ++ two) p.is ∙ append_assoc old p.chunks two;
      whole = p.whole ∙ ap (λ (t : List ℕ). p.front ++ t) (sym (take-append-drop count rest)) ∙ sym (append_assoc p.front (take count rest) (drop count rest));
      short = omega (arith, length-append p.chunks two, p.full there, left, some, within);
      full = λ more. omega (arith, length-append p.chunks two, p.full there, left, within, far (omega (arith, left, more)));
      below = below_drop 4 count rest p.below;
      says = λ more.
          ap (symbols_at (length symbols)) (append_assoc p.chunks two more) ∙ p.says (two ++ more)
          ∙ ap (with_symbols p.front) (one_chunk (length rest) word count rest more refl there small within says ∙ ap (λ (i : ℕ). with_symbols (take count rest) (symbols_at i more)) (sym left))
          ∙ both_with p.front (take count rest) (symbols_at (length (drop count rest)) more);
    })

pub none_at : (more : List ℕ) → symbols_at 0 more ≡ Ok ([], more)
unfolding symbols_at
none_at [] = refl
none_at (a ∷ []) = refl
none_at (a ∷ b ∷ more) = refl

pub chunks_all : (old new symbols rest : List ℕ) → (length rest ≡ 0) → ChunkedUpTo old new symbols rest → Chunked old new symbols
chunks_all old new symbols (b ∷ rest) none p = absurd (omega (arith, none))
chunks_all old new symbols [] none p = record {
  chunks = p.chunks;
  is = p.is;
  short = omega (arith, p.short);
  says = λ more. p.says more ∙ ap (with_symbols p.front) (none_at more)
      ∙ ap (λ (t : List ℕ). let o : Result (List ℕ × List ℕ) TransportFault = Ok (t, more) in o) (sym p.whole);
}

-- ---- a run

pub run_one : (ss : List ℕ) → 0 < length ss → take 1 ss ≡ replicate 1 (get_or ss 0 0)
run_one [] there = absurd (omega (arith, there))
run_one (s ∷ ss) there = refl

pub run_more : (ss : List ℕ) (n s : ℕ) → n < length ss → get_or ss n 0 ≡ s → take n ss ≡ replicate n s → take (n + 1) ss ≡ replicate (n + 1) s
run_more ss n s within is h =
    take_more ss n 0 within ∙ ap (λ (t : List ℕ). t ++ get_or ss n 0 ∷ []) h ∙ ap (λ (x : ℕ). replicate n s ++ x ∷ []) is ∙ replicate_more n s
