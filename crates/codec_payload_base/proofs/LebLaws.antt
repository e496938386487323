-- The LEB128 bytes of a number encode it in as few bytes as possible, and reading returns the number that a text encodes.
use Rattle.std.proofs.Common.{◌≡◌, ℕ, zero, suc, ◌+◌, ◌*◌, ◌/◌, ◌%◌, ◌^◌, ◌<◌, ◌≤◌, List, [], ◌∷◌, ◌++◌, length, Option, Some, None, refl, sym, ap, ◌∙◌, inl, inr, arith}
use Rattle.std.specs.Option.{option_map}
use Rattle.std.proofs.Math.Nat.{mod-eq_of_lt, mod-le}
use Rattle.std.proofs.lemmas.Bool.{cases_lt, lt-ltb, le-ltb}
use Rattle.std.proofs.lemmas.List.{length-append}
use Rattle.codec_payload_base.specs.Leb.{AllGoOn, leb128_value, IsLeb128, leb_front, leb_at, leb_within, leb, WritesLeb, WritesShortest, TakesNine, FindsLeb}
use Rattle.codec_payload_base.proofs.LebLemmas.{limit}

-- ---- written bytes

-- bytes with the continuation bit and one without it
pub record IsText (k : ℕ) (text : List ℕ) : Type 0 where
  pub front : List ℕ
  pub last : ℕ
  pub is : text ≡ front ++ last ∷ []
  pub go_on : AllGoOn front
  pub ends : last < 128
  pub few : length front ≤ k

text_within : (k n : ℕ) → n < limit k → IsText k (leb_within k n)
text_within zero n lt = record { front = []; last = n; is = refl; go_on = tt; ends = lt; few = omega arith }
text_within (suc k) n lt =
    elim (cases_lt n 128) [
      | inl small ↦ rw (lt-ltb n 128 small) (record { front = []; last = n; is = refl; go_on = tt; ends = small; few = omega arith })
      | inr large ↦
          let t = text_within k (n / 128) (omega arith) in
          rw (le-ltb n 128 large) (record {
            front = (n % 128 + 128) ∷ t.front;
            last = t.last;
            is = ap (λ (xs : List ℕ). (n % 128 + 128) ∷ xs) t.is;
            go_on = (omega arith, t.go_on);
            ends = t.ends;
            few = omega (arith, t.few);
          })
    ]

value_within : (k n : ℕ) → n < limit k → leb128_value (leb_within k n) ≡ n
value_within zero n lt = omega (arith, lt)
value_within (suc k) n lt =
    elim (cases_lt n 128) [
      | inl small ↦ rw (lt-ltb n 128 small) (omega arith)
      | inr large ↦ rw (le-ltb n 128 large, value_within k (n / 128) (omega arith)) (omega arith)
    ]

pub writes_leb : WritesLeb
unfolding leb
writes_leb n lt =
    let t = text_within 9 n (omega arith) in
    record {
      front = t.front;
      last = t.last;
      is = t.is;
      go_on = t.go_on;
      ends = t.ends;
      short = omega (arith, ap length t.is, length-append t.front (t.last ∷ []), t.few);
      sum = sym (mod-eq_of_lt lt) ∙ ap (λ (v : ℕ). v % 2 ^ 64) (sym (value_within 9 n (omega arith)));
    }

-- ---- how short it is

within_short : (k j n : ℕ) → n < limit j → length (leb_within k n) ≤ suc j
within_short zero j n lt = omega arith
within_short (suc k) zero n lt = rw (lt-ltb n 128 lt) (omega arith)
within_short (suc k) (suc j) n lt =
    elim (cases_lt n 128) [
      | inl small ↦ rw (lt-ltb n 128 small) (omega arith)
      | inr large ↦ rw (le-ltb n 128 large) (omega (arith, within_short k j (n / 128) (omega arith)))
    ]

value_below : (j : ℕ) (text : List ℕ) → length text ≡ suc j → leb128_value text < limit j
value_below zero (b ∷ []) e = omega arith
value_below zero (b ∷ c ∷ bs) e = absurd (omega (arith, e))
value_below (suc j) (b ∷ bs) e = omega (arith, value_below j bs (omega (arith, e)))
value_below j [] e = absurd (omega (arith, e))

pub writes_shortest : WritesShortest
unfolding leb
writes_shortest n text says = by_length text (ap length says.is) says.sum
  where
    by_length : (bytes : List ℕ) → length bytes ≡ length (says.front ++ says.last ∷ []) → n ≡ leb128_value bytes % 2 ^ 64 → length (leb_within 9 n) ≤ length bytes
    by_length [] e sum = absurd (omega (arith, e, length-append says.front (says.last ∷ [])))
    by_length (b ∷ bs) e sum =
        within_short 9 (length bs) n (omega (arith, sum, mod-le (leb128_value (b ∷ bs)) (2 ^ 64), value_below (length bs) (b ∷ bs) refl))

pub takes_nine : TakesNine
unfolding leb
takes_nine n lt = within_short 9 8 n (omega arith)

-- ---- reading

pub front_finds : (k : ℕ) (front : List ℕ) (last : ℕ) (rest : List ℕ) → AllGoOn front → last < 128 → length front ≤ k
    → leb_front k ((front ++ last ∷ []) ++ rest) ≡ Some (leb128_value (front ++ last ∷ []), rest)
front_finds zero [] last rest go_on ends few = rw (lt-ltb last 128 ends) (ap (λ (v : ℕ). Some (v, rest)) (omega arith))
front_finds (suc k) [] last rest go_on ends few = rw (lt-ltb last 128 ends) (ap (λ (v : ℕ). Some (v, rest)) (omega arith))
front_finds zero (b ∷ bs) last rest go_on ends few = absurd (omega (arith, few))
front_finds (suc k) (b ∷ bs) last rest go_on ends few =
    rw (le-ltb b 128 go_on.0, front_finds k bs last rest go_on.1 ends (omega (arith, few))) refl

pub leb_complete : (bytes : List ℕ) (n : ℕ) (rest text : List ℕ) → IsLeb128 text n → bytes ≡ text ++ rest → leb_at bytes ≡ Some (n, rest)
unfolding leb_at
leb_complete bytes n rest text says e =
    let few : length says.front ≤ 9 = omega (arith, says.short, ap length says.is, length-append says.front (says.last ∷ [])) in
    let found = front_finds 9 says.front says.last rest says.go_on says.ends few in
    rw (e, says.is, found) (ap (λ (v : ℕ). Some (v, rest)) (sym (says.sum ∙ ap (λ (t : List ℕ). leb128_value t % 2 ^ 64) says.is)))

pub map_some : {A B : Type 0} (f : A → B) (o : Option A) (y : B) → option_map f o ≡ Some y → (x : A) × (o ≡ Some x) × (f x ≡ y)
map_some f (Some x) y e = (x, refl, cc)
map_some f None y e = absurd (cc)

-- a text of at most k + 1 bytes at the front
pub record StandsAtFront (k : ℕ) (bytes : List ℕ) (n : ℕ) (rest : List ℕ) : Type 0 where
  pub text : List ℕ
  pub is_text : IsText k text
  pub parts : bytes ≡ text ++ rest
  pub value : n ≡ leb128_value text

abbrev found : ℕ → List ℕ → Option (ℕ × List ℕ)
found n rest = Some (n, rest)

last_byte : (k b n : ℕ) (bs rest : List ℕ) → b < 128 → found b bs ≡ found n rest → StandsAtFront k (b ∷ bs) n rest
last_byte k b n bs rest small e =
    let read : ℕ × List ℕ = (b, bs) in
    let stated : ℕ × List ℕ = (n, rest) in
    let same : read ≡ stated = cc in
    record {
      text = b ∷ [];
      is_text = record { front = []; last = b; is = refl; go_on = tt; ends = small; few = omega arith };
      parts = ap (λ (x : ℕ × List ℕ). b ∷ x.1) same;
      value = sym (ap (λ (x : ℕ × List ℕ). x.0) same) ∙ omega arith;
    }

pub front_stands : (k : ℕ) (bytes : List ℕ) (n : ℕ) (rest : List ℕ) → leb_front k bytes ≡ Some (n, rest) → StandsAtFront k bytes n rest
front_stands k [] n rest e = absurd (cc)
front_stands zero (b ∷ bs) n rest e =
    elim (cases_lt b 128) [
      | inl small ↦ last_byte zero b n bs rest small (rw (lt-ltb b 128 small) at e)
      | inr large ↦ let none = rw (le-ltb b 128 large) at e in absurd (cc)
    ]
front_stands (suc k) (b ∷ bs) n rest e =
    elim (cases_lt b 128) [
      | inl small ↦ last_byte (suc k) b n bs rest small (rw (lt-ltb b 128 small) at e)
      | inr large ↦
          let more = map_some (λ (high : ℕ × List ℕ). (b % 128 + 128 * high.0, high.1)) (leb_front k bs) (n, rest) (rw (le-ltb b 128 large) at e) in
          let s = front_stands k bs more.0.0 more.0.1 more.1 in
          record {
            text = b ∷ s.text;
            is_text = record {
              front = b ∷ s.is_text.front;
              last = s.is_text.last;
              is = ap (λ (t : List ℕ). b ∷ t) s.is_text.is;
              go_on = (large, s.is_text.go_on);
              ends = s.is_text.ends;
              few = omega (arith, s.is_text.few);
            };
            parts = ap (λ (t : List ℕ). b ∷ t) s.parts ∙ ap (λ (x : ℕ × List ℕ). b ∷ (s.text ++ x.1)) more.2;
            value = sym (ap (λ (x : ℕ × List ℕ). x.0) more.2) ∙ ap (λ (v : ℕ). b % 128 + 128 * v) s.value;
          }
    ]

pub leb_sound : (bytes : List ℕ) (n : ℕ) (rest : List ℕ) → leb_at bytes ≡ Some (n, rest) → (text : List ℕ) × IsLeb128 text n × (bytes ≡ text ++ rest)
unfolding leb_at
leb_sound bytes n rest e =
    let low = map_some (λ (x : ℕ × List ℕ). (x.0 % 2 ^ 64, x.1)) (leb_front 9 bytes) (n, rest) e in
    let s = front_stands 9 bytes low.0.0 low.0.1 low.1 in (
      s.text,
      record {
        front = s.is_text.front;
        last = s.is_text.last;
        is = s.is_text.is;
        go_on = s.is_text.go_on;
        ends = s.is_text.ends;
        short = omega (arith, ap length s.is_text.is, length-append s.is_text.front (s.is_text.last ∷ []), s.is_text.few);
        sum = sym (ap (λ (x : ℕ × List ℕ). x.0) low.2) ∙ ap (λ (v : ℕ). v % 2 ^ 64) s.value;
      },
      s.parts ∙ ap (λ (x : ℕ × List ℕ). s.text ++ x.1) low.2,
    )

pub finds_leb : FindsLeb
finds_leb bytes n rest = (λ text says e. leb_complete bytes n rest text says e, leb_sound bytes n rest)
