-- A list of SSRCs, and their places in rising order of SSRCs.
use Rattle.std.specs.Prelude.{◌≡◌, ◌≢◌, ◌<◌, ◌≤◌, ℕ, ◌+◌, ◌-◌, ◌*◌, ◌^◌, nat_lt, if◌then◌else◌, List, Option, Some, None, length, slice_index, slice_index_or}
use Rattle.std.specs.List.{AllPairs, AllWithin}
use Rattle.codec_payload_index.specs.declared.ssrcs.Entry.{Entry}

-- the first place from a place on that has the SSRC
pub record IsPlaceFrom (from ssrc : ℕ) (ss : List ℕ) (place : ℕ) : Type 0 where
  pub behind : from ≤ place
  pub within : place < length ss
  pub has : slice_index ss place ≡ ssrc
  pub first : AllWithin (λ s. s ≢ ssrc) ss from place

-- or none, if no place has it
abbrev pub IsFirstFrom : ℕ → ℕ → List ℕ → Option ℕ → Type 0
IsFirstFrom from ssrc ss None = AllWithin (λ s. s ≢ ssrc) ss from (length ss)
IsFirstFrom from ssrc ss (Some place) = IsPlaceFrom from ssrc ss place

-- the place that alone has the SSRC; or none, if no place or several have it
abbrev pub IsOnly : ℕ → List ℕ → Option ℕ → Type 0
IsOnly ssrc ss None = (place : ℕ) → IsFirstFrom 0 ssrc ss (Some place) → IsFirstFrom (place + 1) ssrc ss None → ⊥
IsOnly ssrc ss (Some place) = IsFirstFrom 0 ssrc ss (Some place) × IsFirstFrom (place + 1) ssrc ss None

-- SSRCs come first, then places
abbrev pub key : ℕ → ℕ → ℕ
key ssrc place = ssrc * 2 ^ 64 + place

abbrev pub key_of : Entry → ℕ
key_of e = key e.ssrc e.place

-- the SSRC is at the place
pub record IsTold (ss : List ℕ) (e : Entry) : Type 0 where
  pub within : e.place < length ss
  pub has : slice_index ss e.place ≡ e.ssrc

-- an entry has the place
pub record IsListed (place : ℕ) (es : List Entry) : Type 0 where
  pub at : ℕ
  pub within : at < length es
  pub is : (d : Entry) → (slice_index_or es at d).place ≡ place

-- each entry has a higher key than the ones before it
abbrev pub Rises : List Entry → Type 0
Rises es = AllPairs (λ (x y : Entry). key_of x < key_of y) es

-- each place of the list has one entry, which has its SSRC
pub record AreEntries (ss : List ℕ) (es : List Entry) : Type 0 where
  pub rise : Rises es
  pub told : (i : ℕ) (d : Entry) → i < length es → IsTold ss (slice_index_or es i d)
  pub listed : (place : ℕ) → place < length ss → IsListed place es

-- the entry of the same SSRC once the SSRC at a place is removed
abbrev pub lowered : ℕ → Entry → Entry
lowered place e = record e { place = if nat_lt place e.place then e.place - 1 else e.place }
