-- Syntax tables, as the standards write them: fields of n bits, highest first, skipped bits of any value, and steps that depend on
-- the values of fields.
use Rattle.std.specs.Prelude.{◌≡◌, ℕ, zero, suc, ◌^◌, ◌<◌, ◌==◌, nat_lt, Bool, true, false, List, [], ◌∷◌, ◌++◌, length, take, drop, if◌then◌else◌, Option, Some, None, Result, Ok, Err}
use Rattle.codec_payload_base.specs.Bits.{bits, number_of}

-- a table whose value is an A, and whose faults are in F
pub data Syntax : Type 0 → Type 0 → Type 1 where
  value : {F A : Type 0} → A → Syntax F A
  refuses : {F A : Type 0} → F → Syntax F A
  field : {F : Type 0} → ℕ → Syntax F ℕ
  skips : {F : Type 0} → ℕ → Syntax F ℕ
  branch : {F A : Type 0} → Bool → Syntax F A → Syntax F A → Syntax F A
  follows : {F A B : Type 0} → Syntax F A → (A → Syntax F B) → Syntax F B

infixl 10 ◌>>=◌
abbrev pub ◌>>=◌ : {F A B : Type 0} → Syntax F A → (A → Syntax F B) → Syntax F B
s >>= f = follows s f

-- ---- reading

-- a step, and the next step after it
abbrev pub then_read : {F A B : Type 0} → Result (A × List ℕ) F → (A → List ℕ → Result (B × List ℕ) F) → Result (B × List ℕ) F
then_read (Ok x) f = f x.0 x.1
then_read (Err e) f = Err e

-- the value that a table gives to bits, and the bits after it, or the first fault; `short` is the fault of bits that end in a field
abbrev pub read : {F A : Type 0} → F → Syntax F A → List ℕ → Result (A × List ℕ) F
read short (value x) bs = Ok (x, bs)
read short (refuses e) bs = Err e
read short (field n) bs = if nat_lt (length bs) n then Err short else Ok (number_of (take n bs), drop n bs)
read short (skips n) bs = if nat_lt (length bs) n then Err short else Ok (0, drop n bs)
read short (branch b s t) bs = if b then read short s bs else read short t bs
read short (follows s f) bs = then_read (read short s bs) (λ x rest. read short (f x) rest)

-- a result, and the bits that are left
abbrev pub paired : {F A : Type 0} → Result A F → List ℕ → Result (A × List ℕ) F
paired (Ok x) rest = Ok (x, rest)
paired (Err e) rest = Err e

abbrev pub without_rest : {F A : Type 0} → Result (A × List ℕ) F → Result A F
without_rest (Ok x) = Ok x.0
without_rest (Err e) = Err e

-- the value that the table gives to the bits at the front
abbrev pub value_of : {F A : Type 0} → F → Syntax F A → List ℕ → Result A F
value_of short s bs = without_rest (read short s bs)

-- ---- spelling

-- the first if the test is met, else the second
abbrev pub IfMet : Bool → Type 0 → Type 0 → Type 0
IfMet true P Q = P
IfMet false P Q = Q

-- The bits are spelled by the table with this value, and then the rest.
abbrev pub Spells : {F A : Type 0} → Syntax F A → List ℕ → A → List ℕ → Type 0
Spells (value x) bs y rest = (x ≡ y) × (bs ≡ rest)
Spells (refuses e) bs y rest = ⊥
Spells (field n) bs y rest = (y < 2 ^ n) × (bs ≡ bits n y ++ rest)
Spells (skips n) bs y rest = (y ≡ 0) × (skipped : List ℕ) × (length skipped ≡ n) × (bs ≡ skipped ++ rest)
Spells (branch b s t) bs y rest = IfMet b (Spells s bs y rest) (Spells t bs y rest)
Spells (follows {F} {A} s f) bs y rest = (x : A) × (middle : List ℕ) × Spells s bs x middle × Spells (f x) middle y rest

-- The bits begin with a spelling of this value by the table.
abbrev pub IsSpelled : {F A : Type 0} → Syntax F A → List ℕ → A → Type 0
IsSpelled s bs x = (rest : List ℕ) × Spells s bs x rest

-- ---- tables that occur often in others

abbrev pub flag : {F : Type 0} → Syntax F Bool
flag = do
  x ← field 1
  value (x == 1)

-- a field that has the wanted value, or a fault
abbrev pub expects : {F : Type 0} → ℕ → ℕ → F → Syntax F ℕ
expects n wanted fault = do
  x ← field n
  branch (x == wanted) (value x) (refuses fault)

-- a table n times
unfoldable pub times : {F A : Type 0} → ℕ → Syntax F A → Syntax F (List A)
times zero s = value []
times (suc n) s = do
  x ← s
  xs ← times n s
  value (x ∷ xs)

-- no value, or a fault
abbrev pub at_most : {F A : Type 0} → F → Option A → Syntax F (List A)
at_most fault None = value []
at_most fault (Some x) = refuses fault

-- no value, or a value and others
abbrev pub with_others : {F A : Type 0} → Syntax F (List A) → Option A → Syntax F (List A)
with_others others None = value []
with_others others (Some x) = do
  xs ← others
  value (x ∷ xs)

-- a table until it has no value; a fault if it has more than n
unfoldable pub until_none : {F A : Type 0} → ℕ → F → Syntax F (Option A) → Syntax F (List A)
until_none zero fault s = s >>= at_most fault
until_none (suc n) fault s = s >>= with_others (until_none n fault s)
