-- Spelled bytes are read, and bytes that are read are spelled so.
use Rattle.std.proofs.Common.{◌≡◌, ℕ, zero, suc, ◌+◌, ◌*◌, ◌/◌, ◌%◌, ◌<◌, ◌≤◌, List, [], ◌∷◌, ◌++◌, length, get_or, take, drop, Option, Some, None, cond, ltb, refl, sym, ap, ◌∙◌, arith, ◌⊎◌, inl, inr, append_assoc, length-append}
use Rattle.std.proofs.lemmas.List.{take_at, drop_at, take-append-drop, length-take-le}
use Rattle.std.proofs.lemmas.Bool.{lt-ltb, le-ltb, cases_lt}
use Rattle.std.specs.List.{flat_map, AllByRecursion}
use Rattle.codec_payload_red.specs.RedPayload.{Redundant, Red, header_of, header, spelling, HasHeader, IsRed}
use Rattle.codec_payload_red.specs.RedReading.{◌>>=◌, count_at, cut_block, block_at, one_more, blocks_at, red_at}

bind_some : {A B : Type 0} (o : Option A) (f : A → Option B) (y : B) → (o >>= f) ≡ Some y → (x : A) × (o ≡ Some x) × (f x ≡ Some y)
bind_some (Some x) f y h = (x, refl, h)
bind_some None f y h = cc

abbrev pub bytes_in : List Redundant → List ℕ
bytes_in bs = flat_map (λ b. b.bytes) bs

-- ---- spelled bytes are read

count_spelled : (k : ℕ) (bs : List Redundant) (pt : ℕ) (rest : List ℕ) → length bs ≤ k → pt < 128 → count_at k (flat_map header bs ++ pt ∷ rest) ≡ Some (length bs)
unfolding count_at
count_spelled zero [] pt rest few small = rw (lt-ltb pt 128 small) refl
count_spelled (suc k) [] pt rest few small = rw (lt-ltb pt 128 small) refl
count_spelled zero (b ∷ bs) pt rest few small = absurd (omega (arith, few))
count_spelled (suc k) (b ∷ bs) pt rest few small =
    let fewer : length bs ≤ k = omega (arith, few) in
    let one : length bs + 1 ≡ suc (length bs) = omega arith in
    rw (le-ltb (128 + b.pt) 128 (omega arith), count_spelled k bs pt rest fewer small, one) refl

length_field : (offset len : ℕ) → len ≤ 1023 → (offset % 64 * 4 + len / 256) % 4 * 256 + len % 256 ≡ len
length_field offset len small = omega arith

offset_field : (offset len : ℕ) → offset ≤ 16383 → len ≤ 1023 → offset / 64 * 64 + (offset % 64 * 4 + len / 256) / 4 ≡ offset
offset_field offset len low small = omega arith

type_field : (pt : ℕ) → pt < 128 → (128 + pt) % 128 ≡ pt
type_field pt small = omega arith

cut_spelled : (pt offset len : ℕ) (bytes rest : List ℕ) → length bytes ≡ len → cut_block pt offset len (bytes ++ rest) ≡ Some (record { pt = pt; offset = offset; bytes = bytes }, rest)
cut_spelled pt offset len bytes rest e =
    let enough : len ≤ length (bytes ++ rest) = omega (arith, length-append bytes rest) in
    rw (le-ltb (length (bytes ++ rest)) len enough, take_at bytes rest len e, drop_at bytes rest len e) refl

block_spelled : (pt offset : ℕ) (bytes tail rest : List ℕ) → pt < 128 → offset ≤ 16383 → length bytes ≤ 1023 → block_at (header_of pt offset (length bytes) ++ tail) (bytes ++ rest) ≡ Some (record { pt = pt; offset = offset; bytes = bytes }, rest)
unfolding block_at
block_spelled pt offset bytes tail rest small low short =
    rw (type_field pt small, offset_field offset (length bytes) low short, length_field offset (length bytes) short) (cut_spelled pt offset (length bytes) bytes rest refl)

blocks_spelled : (bs : List Redundant) (pt : ℕ) (rest primary : List ℕ) → AllByRecursion HasHeader bs → blocks_at (length bs) (flat_map header bs ++ pt ∷ rest) (bytes_in bs ++ primary) ≡ Some (record { redundant = bs; pt = pt; primary = primary })
unfolding blocks_at
blocks_spelled [] pt rest primary each = refl
blocks_spelled (b ∷ bs) pt rest primary each =
    rw (append_assoc b.bytes (bytes_in bs) primary, block_spelled b.pt b.offset b.bytes (flat_map header bs ++ pt ∷ rest) (bytes_in bs ++ primary) each.0.pt each.0.offset each.0.bytes, blocks_spelled bs pt rest primary each.1) refl

drop_heads : (bs : List Redundant) (pt : ℕ) (rest : List ℕ) → drop (4 * length bs + 1) (flat_map header bs ++ pt ∷ rest) ≡ rest
drop_heads [] pt rest = refl
drop_heads (b ∷ bs) pt rest =
    let four : 4 * suc (length bs) + 1 ≡ suc (suc (suc (suc (4 * length bs + 1)))) = omega arith in
    rw four (drop_heads bs pt rest)

pub reads_spelling : (r : Red) → AllByRecursion HasHeader r.redundant → length r.redundant ≤ 32 → r.pt < 128 → red_at (spelling r) ≡ Some r
unfolding red_at
reads_spelling r each few small =
    rw (count_spelled 32 r.redundant r.pt (bytes_in r.redundant ++ r.primary) few small, drop_heads r.redundant r.pt (bytes_in r.redundant ++ r.primary)) (blocks_spelled r.redundant r.pt (bytes_in r.redundant ++ r.primary) r.primary each)

pub reads_spelled : (bytes : List ℕ) (r : Red) → IsRed bytes r → red_at bytes ≡ Some r
reads_spelled bytes r is = rw is.is (reads_spelling r is.each is.few is.pt)

-- ---- bytes that are read are spelled so

abbrev IsHeads : ℕ → List ℕ → Type 0
IsHeads zero bytes = (get_or bytes 0 0 < 128) × (0 < length bytes)
IsHeads (suc n) bytes = (128 ≤ get_or bytes 0 0) × IsHeads n (drop 4 bytes)

first_case : (b : ℕ) (more : Option ℕ) (n : ℕ) → cond (ltb b 128) (Some 0) more ≡ Some n → ((b < 128) × (n ≡ 0)) ⊎ ((128 ≤ b) × (more ≡ Some n))
first_case b more n h = elim (cases_lt b 128) [
  | inl lt ↦ let e = rw (lt-ltb b 128 lt) at h in inl (lt, cc)
  | inr le ↦ inr (le, rw (le-ltb b 128 le) at h)
]

count_found : (k : ℕ) (bytes : List ℕ) (n : ℕ) → count_at k bytes ≡ Some n → (n ≤ k) × IsHeads n bytes
unfolding count_at
count_found zero [] n h = cc
count_found (suc k) [] n h = cc
count_found zero (b ∷ bytes) n h = elim (first_case b None n h) [
  | inl here ↦ let e : n ≡ 0 = here.1 in rw e (omega arith, (here.0, omega arith))
  | inr later ↦ let impossible : None ≡ Some n = later.1 in cc
]
count_found (suc k) (b ∷ bytes) n h = elim (first_case b (count_at k (drop 3 bytes) >>= λ m. Some (m + 1)) n h) [
  | inl here ↦ let e : n ≡ 0 = here.1 in rw e (omega arith, (here.0, omega arith))
  | inr later ↦
      let (m, found, same) = bind_some (count_at k (drop 3 bytes)) (λ m. Some (m + 1)) n later.1 in
      let plus : m + 1 ≡ n = cc in
      let e : n ≡ suc m = omega arith in
      let behind = count_found k (drop 3 bytes) m found in
      rw e (omega (arith, behind.0), (later.0, behind.1))
]

record Spelled (n : ℕ) (heads bodies : List ℕ) (r : Red) : Type 0 where
  pub front : heads ≡ flat_map header r.redundant ++ r.pt ∷ drop (4 * n + 1) heads
  pub behind : bodies ≡ bytes_in r.redundant ++ r.primary
  pub each : AllByRecursion HasHeader r.redundant
  pub count : length r.redundant ≡ n
  pub pt : r.pt < 128

no_heads : (n : ℕ) → IsHeads n [] → ⊥
no_heads zero h = omega (arith, h.1)
no_heads (suc n) h = omega (arith, h.0)

cut_found : (pt offset len : ℕ) (bodies : List ℕ) (x : Redundant × List ℕ) → cut_block pt offset len bodies ≡ Some x → (len ≤ length bodies) × (x ≡ (record { pt = pt; offset = offset; bytes = take len bodies }, drop len bodies))
cut_found pt offset len bodies x h = elim (cases_lt (length bodies) len) [
  | inl lt ↦ let e = rw (lt-ltb (length bodies) len lt) at h in cc
  | inr le ↦ let e = rw (le-ltb (length bodies) len le) at h in (le, cc)
]

block_found : (a b c d : ℕ) (heads bodies : List ℕ) (x : Redundant × List ℕ) → block_at (a ∷ b ∷ c ∷ d ∷ heads) bodies ≡ Some x → (c % 4 * 256 + d ≤ length bodies) × (x ≡ (record { pt = a % 128; offset = b * 64 + c / 4; bytes = take (c % 4 * 256 + d) bodies }, drop (c % 4 * 256 + d) bodies))
unfolding block_at
block_found a b c d heads bodies x h = cut_found (a % 128) (b * 64 + c / 4) (c % 4 * 256 + d) bodies x h

header_found : (a b c d len : ℕ) → 128 ≤ a → a < 256 → c < 256 → d < 256 → len ≡ c % 4 * 256 + d → a ∷ b ∷ c ∷ d ∷ [] ≡ header_of (a % 128) (b * 64 + c / 4) len
header_found a b c d len set la lc ld e =
    let one : a ≡ 128 + a % 128 = omega arith in
    let two : b ≡ (b * 64 + c / 4) / 64 = omega arith in
    let three : c ≡ (b * 64 + c / 4) % 64 * 4 + len / 256 = omega arith in
    let four : d ≡ len % 256 = omega arith in
    cc

header_fields : (a b c d len : ℕ) → b < 256 → c < 256 → d < 256 → len ≡ c % 4 * 256 + d → (a % 128 < 128) × (b * 64 + c / 4 ≤ 16383) × (len ≤ 1023)
header_fields a b c d len lb lc ld e = (omega arith, omega arith, omega arith)

abbrev IsBytes : List ℕ → Type 0
IsBytes bs = (i : ℕ) → get_or bs i 0 < 256

one_found : (n a b c d len : ℕ) (heads bodies : List ℕ) (r : Red) → 128 ≤ a → a < 256 → b < 256 → c < 256 → d < 256 → len ≡ c % 4 * 256 + d → len ≤ length bodies → Spelled n heads (drop len bodies) r
    → Spelled (suc n) (a ∷ b ∷ c ∷ d ∷ heads) bodies (one_more (record { pt = a % 128; offset = b * 64 + c / 4; bytes = take len bodies }) r)
one_found n a b c d len heads bodies r set la lb lc ld e enough s =
    let short : length (take len bodies) ≡ len = length-take-le len bodies enough in
    let first : a ∷ b ∷ c ∷ d ∷ [] ≡ header_of (a % 128) (b * 64 + c / 4) (length (take len bodies)) = rw short (header_found a b c d len set la lc ld e) in
    let fields = header_fields a b c d len lb lc ld e in
    let four : 4 * suc n + 1 ≡ suc (suc (suc (suc (4 * n + 1)))) = omega arith in
    record {
      front = rw four (ap (λ t. (a ∷ b ∷ c ∷ d ∷ []) ++ t) s.front ∙ ap (λ t. t ++ (flat_map header r.redundant ++ r.pt ∷ drop (4 * n + 1) heads)) first);
      behind = sym (take-append-drop len bodies) ∙ ap (λ t. take len bodies ++ t) s.behind ∙ sym (append_assoc (take len bodies) (bytes_in r.redundant) r.primary);
      each = (record { pt = fields.0; offset = fields.1; bytes = rw short fields.2 }, s.each);
      count = ap (λ (k : ℕ). suc k) s.count;
      pt = s.pt;
    }

last_is : (r s : Red) → Some s ≡ Some r → r ≡ s
last_is r s e = cc

blocks_found : (n : ℕ) (heads bodies : List ℕ) (r : Red) → blocks_at n heads bodies ≡ Some r → IsHeads n heads → IsBytes heads → Spelled n heads bodies r
unfolding blocks_at
blocks_found zero [] bodies r h is bytes = absurd (omega (arith, is.1))
blocks_found zero (a ∷ heads) bodies r h is bytes =
    let e : r ≡ record { redundant = []; pt = a; primary = bodies } = cc in
    rw e record { front = refl; behind = refl; each = tt; count = refl; pt = is.0 }
blocks_found (suc n) [] bodies r h is bytes = absurd (no_heads n is.1)
blocks_found (suc n) (a ∷ []) bodies r h is bytes = absurd (no_heads n is.1)
blocks_found (suc n) (a ∷ b ∷ []) bodies r h is bytes = absurd (no_heads n is.1)
blocks_found (suc n) (a ∷ b ∷ c ∷ []) bodies r h is bytes = absurd (no_heads n is.1)
blocks_found (suc n) (a ∷ b ∷ c ∷ d ∷ heads) bodies r h is bytes =
    let (x, cut, more) = bind_some (block_at (a ∷ b ∷ c ∷ d ∷ heads) bodies) (λ x. blocks_at n heads x.1 >>= λ r. Some (one_more x.0 r)) r h in
    let (r', found, same) = bind_some (blocks_at n heads x.1) (λ r. Some (one_more x.0 r)) r more in
    let (enough, x_is) = block_found a b c d heads bodies x cut in
    let r_is : r ≡ one_more (record { pt = a % 128; offset = b * 64 + c / 4; bytes = take (c % 4 * 256 + d) bodies }) r' = last_is r (one_more x.0 r') same ∙ ap (λ (t : Redundant × List ℕ). one_more t.0 r') x_is in
    let found' : blocks_at n heads (drop (c % 4 * 256 + d) bodies) ≡ Some r' = ap (λ (t : Redundant × List ℕ). blocks_at n heads t.1) (sym x_is) ∙ found in
    let s = blocks_found n heads (drop (c % 4 * 256 + d) bodies) r' found' is.1 (λ i. bytes (suc (suc (suc (suc i))))) in
    rw r_is (one_found n a b c d (c % 4 * 256 + d) heads bodies r' is.0 (bytes 0) (bytes 1) (bytes 2) (bytes 3) refl enough s)

pub spells_read : (bytes : List ℕ) (r : Red) → red_at bytes ≡ Some r → IsBytes bytes → IsRed bytes r
unfolding red_at
spells_read bytes r h are =
    let (n, counted, found) = bind_some (count_at 32 bytes) (λ n. blocks_at n bytes (drop (4 * n + 1) bytes)) r h in
    let (few, heads) = count_found 32 bytes n counted in
    let s = blocks_found n bytes (drop (4 * n + 1) bytes) r found heads are in
    record { each = s.each; few = omega (arith, s.count); pt = s.pt; is = s.front ∙ ap (λ t. flat_map header r.redundant ++ r.pt ∷ t) s.behind }
