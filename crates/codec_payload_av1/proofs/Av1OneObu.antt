-- Bytes that are exactly one OBU give a unit, and others do not.
use Rattle.std.proofs.Common.{◌≡◌, ℕ, ◌<◌, Bool, true, false, cond, ltb, eqb, List, [], ◌∷◌, length, take, drop, Option, Some, None, refl, inl, inr, arith}
use Rattle.std.specs.Prelude.{is_some}
use Rattle.std.proofs.lemmas.Bool.{cases_lt, lt-ltb, le-ltb, ne_eqb, eq-eqb}
use Rattle.std.proofs.lemmas.List.{length-drop, drop_all}
use Rattle.codec_payload_base.specs.Leb.{leb_at}
use Rattle.codec_payload_av1.specs.Av1Reading.{◌>>=◌}
use Rattle.codec_payload_av1.specs.Av1Obu.{Obu, has_size, has_extension, extension_at, sized_at, obu_at, is_whole, is_one_behind, is_one}
use Rattle.codec_payload_av1.specs.Av1Packing.{is_begun}
use Rattle.codec_payload_av1.specs.Av1Receiving.{added, unit_of}

some_begun : (xs : List ℕ) → 0 < length xs → is_begun xs ≡ true
some_begun [] lt = absurd (omega (arith, lt))
some_begun (x ∷ xs) lt = refl

-- an OBU with nothing after it
abbrev alone : (Obu → List ℕ) → Option (Obu × List ℕ) → Option (List ℕ)
alone f r = r >>= λ o. cond (is_begun o.1) None (Some (f o.0))

size_is_whole : (f : Obu → List ℕ) (o : Obu) (n : ℕ) (bs : List ℕ) → is_some (alone f (cond (ltb (length bs) n) None (Some (o, drop n bs)))) ≡ eqb n (length bs)
size_is_whole f o n bs =
    elim (cases_lt (length bs) n) [
      | inl more ↦ rw (lt-ltb (length bs) n more, ne_eqb n (length bs) (omega arith)) refl
      | inr within ↦ elim (cases_lt n (length bs)) [
        | inl less ↦ rw (le-ltb (length bs) n within, some_begun (drop n bs) (omega (arith, length-drop n bs)), ne_eqb n (length bs) (omega arith)) refl
        | inr all ↦ rw (le-ltb (length bs) n within, drop_all n bs all, eq-eqb n (length bs) (omega arith)) refl
      ]
    ]

sized_is_whole : (f : Obu → List ℕ) (h : ℕ) (ext : List ℕ) (r : Option (ℕ × List ℕ))
    → is_some (alone f (r >>= λ n. cond (ltb (length n.1) n.0) None (Some (record { header = h; extension = ext; payload = take n.0 n.1 }, drop n.0 n.1)))) ≡ is_whole r
sized_is_whole f h ext None = refl
sized_is_whole f h ext (Some n) = size_is_whole f (record { header = h; extension = ext; payload = take n.0 n.1 }) n.0 n.1

by_size : (f : Obu → List ℕ) (h : ℕ) (x : List ℕ × List ℕ) (b : Bool)
    → is_some (alone f (cond b (sized_at h x.0 x.1) (Some (record { header = h; extension = x.0; payload = x.1 }, [])))) ≡ cond b (is_whole (leb_at x.1)) true
by_size f h x true = sized_is_whole f h x.0 (leb_at x.1)
by_size f h x false = refl

by_extension : (f : Obu → List ℕ) (h : ℕ) (r : Option (List ℕ × List ℕ))
    → is_some (alone f (r >>= λ x. cond (has_size h) (sized_at h x.0 x.1) (Some (record { header = h; extension = x.0; payload = x.1 }, [])))) ≡ is_one_behind h r
by_extension f h None = refl
by_extension f h (Some x) = by_size f h x (has_size h)

pub unit_is_one : (bytes : List ℕ) → is_some (unit_of bytes) ≡ is_one bytes
unfolding unit_of obu_at
unit_is_one [] = refl
unit_is_one (h ∷ bytes) = by_extension (added (h ∷ bytes)) h (extension_at (has_extension h) bytes)
