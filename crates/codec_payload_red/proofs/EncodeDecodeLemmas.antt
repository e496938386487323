-- Encoding and decoding undo each other.
use Rattle.std.proofs.Common.{◌≡◌, ℕ, zero, suc, ◌%◌, ◌<◌, ◌≤◌, List, [], ◌∷◌, length, map, filter, take, get_or, Some, None, Result, Ok, Err, IfOk, true, leb, refl, sym, arith, inl, inr}
use Rattle.std.proofs.lemmas.List.{length-take, length-map, take_all}
use Rattle.std.proofs.lemmas.Bool.{leb-true, le-leb, and_parts, cases_Bool}
use Rattle.std.specs.List.{AllByRecursion}
use Rattle.codec_payload_red.specs.RedPayload.{Redundant, Red, HasHeader, IsRed, fits, masked, kept_of, encoded}
use Rattle.codec_payload_red.specs.RedReading.{red_at}
use Rattle.std.specs.Prelude.{MatchResult, IsErrOf}
use Rattle.codec_payload_base.specs.declared.error.PacketError.{PacketError}
use Rattle.codec_payload_base.specs.declared.error.PacketError.TheVariants.{ErrRedCorruptedPacket}
use Rattle.codec_payload_red.specs.RedBlocks.{Block, Decodes, Fails, blocks_in}
use Rattle.codec_payload_red.proofs.RedGrammarLemmas.{reads_spelled, spells_read}

fits_has : (b : Redundant) → fits b ≡ true → HasHeader (masked b)
fits_has b h =
    let parts = and_parts (leb b.offset 16383) (leb (length b.bytes) 1023) h in
    record { pt = omega arith; offset = leb-true b.offset 16383 parts.0; bytes = leb-true (length b.bytes) 1023 parts.1 }

kept_have : (k : ℕ) (bs : List Redundant) → AllByRecursion HasHeader (map masked (take k (filter fits bs)))
kept_have zero bs = tt
kept_have (suc k) [] = tt
kept_have (suc k) (b ∷ bs) = elim (cases_Bool (fits b)) [
  | inl fit ↦ rw fit (fits_has b fit, kept_have k bs)
  | inr unfit ↦ rw unfit (kept_have (suc k) bs)
]

pub kept_is_red : (pt : ℕ) (primary : List ℕ) (bs : List Redundant) → IsRed (encoded pt primary bs) (kept_of pt primary bs)
kept_is_red pt primary bs = record {
  each = kept_have 32 bs;
  few = omega (arith, length-map (take 32 (filter fits bs)) masked, length-take 32 (filter fits bs));
  pt = omega arith;
  is = refl;
}

pub encoded_is_red : (bytes : List ℕ) (pt : ℕ) (primary : List ℕ) (bs : List Redundant) → bytes ≡ encoded pt primary bs → IsRed bytes (kept_of pt primary bs)
encoded_is_red bytes pt primary bs e = rw e (kept_is_red pt primary bs)

pub encoded_is_read : (bytes : List ℕ) (pt : ℕ) (primary : List ℕ) (bs : List Redundant) → bytes ≡ encoded pt primary bs → red_at bytes ≡ Some (kept_of pt primary bs)
encoded_is_read bytes pt primary bs e = reads_spelled bytes (kept_of pt primary bs) (encoded_is_red bytes pt primary bs e)

-- the contents of a payload fit, and its types have 7 bits
all_fit : (bs : List Redundant) → AllByRecursion HasHeader bs → filter fits bs ≡ bs
all_fit [] each = refl
all_fit (b ∷ bs) each = rw (le-leb b.offset 16383 each.0.offset, le-leb (length b.bytes) 1023 each.0.bytes, all_fit bs each.1) refl

masked_same : (bs : List Redundant) → AllByRecursion HasHeader bs → map masked bs ≡ bs
masked_same [] each = refl
masked_same (b ∷ bs) each =
    let small : b.pt < 128 = each.0.pt in
    let same : b.pt % 128 ≡ b.pt = omega arith in
    rw (same, masked_same bs each.1) refl

pub encodes_again : (bytes : List ℕ) (r : Red) → IsRed bytes r → encoded r.pt r.primary r.redundant ≡ bytes
encodes_again bytes r is =
    let few : length r.redundant ≤ 32 = is.few in
    let small : r.pt < 128 = is.pt in
    let same : r.pt % 128 ≡ r.pt = omega arith in
    rw (all_fit r.redundant is.each, take_all 32 r.redundant few, masked_same r.redundant is.each, same) (sym is.is)

abbrev IsBytes : List ℕ → Type 0
IsBytes bs = (i : ℕ) → get_or bs i 0 < 256

module _ {V : Type 0} (view : V → List Block) (bytes : List ℕ) where
  pub decoded_is_red : (result : Result V PacketError) → MatchResult result (λ v. Decodes (red_at bytes) (view v)) (λ e. Fails e (red_at bytes)) → IsBytes bytes
      → IfOk result (λ v. (r : Red) × IsRed bytes r × (view v ≡ blocks_in r) × (encoded r.pt r.primary r.redundant ≡ bytes))
  decoded_is_red (Ok v) (r, e, same) are = let is = spells_read bytes r e are in (r, is, same, encodes_again bytes r is)
  decoded_is_red (Err e) h are = tt

  pub refused_is_none : (result : Result V PacketError) → MatchResult result (λ v. Decodes (red_at bytes) (view v)) (λ e. Fails e (red_at bytes)) → IsErrOf result ErrRedCorruptedPacket → (r : Red) → ¬ IsRed bytes r
  refused_is_none (Ok v) h is r red = cc
  refused_is_none (Err e) h is r red =
      let same : e ≡ ErrRedCorruptedPacket = cc in
      let none : red_at bytes ≡ None = rw same at h in
      let some : red_at bytes ≡ Some r = reads_spelled bytes r red in
      cc
