-- The condition on a codec for each sample.
use Rattle.std.proofs.Common.{◌≡◌, ◌∙◌, sym, ap, refl, subst, ℕ, zero, suc, ◌+◌, List, [], ◌∷◌, ◌++◌, length, map, arith, true, Option, Some}
use Rattle.std.specs.Prelude.{slice_get}
use Rattle.codec_payload_codec.specs.Packetizers.{PacketizerState, payloads_by, may_split}
use Rattle.codec_payload_buffer_runs.specs.ReportedIds.{id_later, next_id}
use Rattle.codec_payload_payloader.specs.Sending.{Sample, packets_for}
use Rattle.codec_payload_buffer_runs.specs.LawfulUnits.{AllLawful}
use Rattle.codec_payload_buffer_runs.specs.SentStream.{SentUnit, packets_of}
use Rattle.codec_payload_buffer_runs.specs.Units.{canonical_units, is_readable, packetizer_after}

-- the units carry the ids that come n units after `first` and later, one after another
abbrev pub CarryIds : Option ℕ → ℕ → List SentUnit → Type 0
CarryIds first n [] = Unit {0}
CarryIds first n (u ∷ us) = (u.id ≡ id_later first n) × CarryIds first (suc n) us

carry_append : (first : Option ℕ) (n : ℕ) (us vs : List SentUnit) → CarryIds first n us → CarryIds first (n + length us) vs → CarryIds first n (us ++ vs)
carry_append first n [] vs a b = let e : n + 0 ≡ n = omega arith in subst (λ (m : ℕ). CarryIds first m vs) e b
carry_append first n (u ∷ us) vs a b = let e : n + suc (length us) ≡ suc n + length us = omega arith in (a.0, carry_append first (suc n) us vs a.1 (subst (λ (m : ℕ). CarryIds first m vs) e b))

-- the same counted from k units before
carry_shift : (later first : Option ℕ) (k n : ℕ) (us : List SentUnit) → ((m : ℕ) → id_later later m ≡ id_later first (k + m)) → CarryIds later n us → CarryIds first (k + n) us
carry_shift later first k n [] same carry = tt
carry_shift later first k n (u ∷ us) same carry =
    let e : k + suc n ≡ suc (k + n) = omega arith in
    (carry.0 ∙ same n, subst (λ (m : ℕ). CarryIds first m us) e (carry_shift later first k (suc n) us same carry.1))

-- units, and then more, counted from the end of the first
pub carry_on : (first later : Option ℕ) (us vs : List SentUnit) → CarryIds first 0 us → ((m : ℕ) → id_later later m ≡ id_later first (length us + m))
    → CarryIds later 0 vs → CarryIds first 0 (us ++ vs)
carry_on first later us vs a same b =
    let e : length us + 0 ≡ 0 + length us = omega arith in
    carry_append first 0 us vs a (subst (λ (m : ℕ). CarryIds first m vs) e (carry_shift later first (length us) 0 vs same b))

carry_behind : (first : Option ℕ) (n m : ℕ) (us : List SentUnit) (u : SentUnit) → CarryIds first n us → slice_get us m ≡ Some u → u.id ≡ id_later first (n + m)
carry_behind first n m [] u carry is = absurd (cc)
carry_behind first n zero (v ∷ us) u carry is = let same : v ≡ u = cc in let e : n + 0 ≡ n = omega arith in ap (λ (x : SentUnit). x.id) (sym same) ∙ (carry.0 ∙ ap (id_later first) (sym e))
carry_behind first n (suc m) (v ∷ us) u carry is = let e : suc n + m ≡ n + suc m = omega arith in carry_behind first (suc n) m us u carry.1 is ∙ ap (id_later first) e

-- the unit at place m carries the m-th id
pub carry_at : (first : Option ℕ) (m : ℕ) (us : List SentUnit) (u : SentUnit) → CarryIds first 0 us → slice_get us m ≡ Some u → u.id ≡ id_later first m
carry_at first m us u carry is = let e : 0 + m ≡ m = omega arith in carry_behind first 0 m us u carry is ∙ ap (id_later first) e

-- the condition on a codec for each sample: its packets form lawful units, the canonical ones
pub record SendsUnits (packetizer : PacketizerState) (mtu : ℕ) (sample : Sample) (rtp_time number : ℕ) (payloads : List (List ℕ)) (after : PacketizerState) : Type 0 where
  pub units : List SentUnit
  pub canonical : map (λ (u : SentUnit). u.parts) units ≡ canonical_units packetizer mtu sample.bytes
  pub packets : packets_of units ≡ packets_for after sample rtp_time number payloads
  pub lawful : is_readable packetizer sample.bytes ≡ true → AllLawful (payloads_by packetizer) (may_split packetizer) units
  pub ids : CarryIds (next_id packetizer) 0 units
  pub ids_go_on : (m : ℕ) → id_later (next_id after) m ≡ id_later (next_id packetizer) (length units + m)
  pub goes_on : after ≡ packetizer_after packetizer mtu sample.bytes

-- nothing is sent of a frame that is skipped
pub no_units : (packetizer : PacketizerState) (mtu : ℕ) (sample : Sample) (rtp_time number : ℕ) (payloads : List (List ℕ)) → payloads ≡ []
    → canonical_units packetizer mtu sample.bytes ≡ [] → next_id (packetizer_after packetizer mtu sample.bytes) ≡ next_id packetizer
    → SendsUnits packetizer mtu sample rtp_time number payloads (packetizer_after packetizer mtu sample.bytes)
no_units packetizer mtu sample rtp_time number payloads nothing none same = record {
  units = [];
  canonical = sym none;
  packets = ap (packets_for (packetizer_after packetizer mtu sample.bytes) sample rtp_time number) (sym nothing);
  lawful = λ _. tt;
  ids = tt;
  ids_go_on = λ m. let e : 0 + m ≡ m = omega arith in ap (λ (o : Option ℕ). id_later o m) same ∙ ap (id_later (next_id packetizer)) (sym e);
  goes_on = refl;
}
