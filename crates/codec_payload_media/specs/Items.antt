-- Items one after another, up to the first that is malformed.
use Rattle.std.specs.Prelude.{◌≡◌, ℕ, zero, suc, List, [], ◌∷◌, length, Result, Ok, Err}
use Rattle.codec_payload_vpx.specs.declared.error.MediaError.{MediaError}

-- an item, and the ones after it; or the fault, after which there are none
abbrev pub with_others : {A : Type 0} → (List ℕ → List (Result A MediaError)) → Result (A × List ℕ) MediaError → List (Result A MediaError)
with_others others (Ok x) = Ok x.0 ∷ others x.1
with_others others (Err e) = Err e ∷ []

-- at most n items; front reads the first
unfoldable pub items_in : {A : Type 0} → (List ℕ → Result (A × List ℕ) MediaError) → ℕ → List ℕ → List (Result A MediaError)
items_in front zero bytes = []
items_in front (suc n) [] = []
items_in front (suc n) (b ∷ bytes) = with_others (items_in front n) (front (b ∷ bytes))

-- all of them: each has a byte or more
abbrev pub items_at : {A : Type 0} → (List ℕ → Result (A × List ℕ) MediaError) → List ℕ → List (Result A MediaError)
items_at front bytes = items_in front (length bytes) bytes

-- how many there are, or the first fault
abbrev pub count_then : {A : Type 0} → Result A MediaError → Result ℕ MediaError → Result ℕ MediaError
count_then (Ok x) (Ok n) = Ok (suc n)
count_then (Ok x) (Err e) = Err e
count_then (Err e) more = Err e

unfoldable pub count_of : {A : Type 0} → List (Result A MediaError) → Result ℕ MediaError
count_of [] = Ok zero
count_of (x ∷ xs) = count_then x (count_of xs)

-- ---- how items are spelled

-- The bytes are these items, one after another; each is spelled before the others.
abbrev pub AreSpelled : {A : Type 0} → (List ℕ → A → List ℕ → Type 0) → List ℕ → List A → Type 0
AreSpelled IsItem bytes [] = bytes ≡ []
AreSpelled IsItem bytes (x ∷ xs) = (rest : List ℕ) × IsItem bytes x rest × AreSpelled IsItem rest xs

abbrev pub all_ok : {A : Type 0} → List A → List (Result A MediaError)
all_ok [] = []
all_ok (x ∷ xs) = Ok x ∷ all_ok xs
