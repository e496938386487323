-- What a packet of FEC rebuilds.
use Rattle.std.proofs.Common.{◌≡◌, ℕ, ◌≤◌, List, [], ◌∷◌, ◌++◌, length, Option, Some, None, refl, sym, ap, ◌∙◌, subst, inl, inr, arith, map}
use Rattle.std.specs.Prelude.{IfSome}
use Rattle.codec_payload_fec.specs.Fec.{Fec, numbers}
use Rattle.codec_payload_fec.specs.Protecting.{AllCameOrLost, AreOfStream, IsAmong, IsOfStream, Protects, RebuildsPackets, RebuildsTheMissing, TwoRebuildNothing}
use Rattle.codec_payload_fec.specs.Rebuilding.{found_of, missing_of, only, packet_of, rebuilt_as, sum_in}
use Rattle.codec_payload_fec.specs.Strings.{added_all, number_of, xor_all}
use Rattle.codec_payload_fec.proofs.BitStringLemmas.{all_but_one}
use Rattle.codec_payload_fec.proofs.MadeLemmas.{packet_again}

module _ (find : ℕ → Option (List ℕ)) where
  -- none is missing: all came
  all_found : (ps : List (List ℕ)) → AllCameOrLost find ps → missing_of find (map number_of ps) ≡ [] → found_of find (map number_of ps) ≡ ps
  all_found [] all none = refl
  all_found (p ∷ ps) all none =
      elim all.0 [
        | inl lost ↦ absurd (some_missing p ps lost none)
        | inr came ↦ rw came (ap (λ (qs : List (List ℕ)). p ∷ qs) (all_found ps all.1 (rest_missing p ps came none)))
      ]
    where
      some_missing : (p : List ℕ) (ps : List (List ℕ)) → find (number_of p) ≡ None → missing_of find (map number_of (p ∷ ps)) ≡ [] → ⊥
      some_missing p ps lost none = let h : number_of p ∷ missing_of find (map number_of ps) ≡ [] = rw lost at none in cc

      rest_missing : (p : List ℕ) (ps : List (List ℕ)) → find (number_of p) ≡ Some p → missing_of find (map number_of (p ∷ ps)) ≡ [] → missing_of find (map number_of ps) ≡ []
      rest_missing p ps came none = rw came at none

  -- one packet is missing, and the others came
  record MissesOne (ps : List (List ℕ)) (n : ℕ) : Type 0 where
    before : List (List ℕ)
    packet : List ℕ
    after : List (List ℕ)
    all : ps ≡ before ++ packet ∷ after
    number : number_of packet ≡ n
    lost : find n ≡ None
    found : found_of find (map number_of ps) ≡ before ++ after

  misses_one : (ps : List (List ℕ)) (n : ℕ) → AllCameOrLost find ps → missing_of find (map number_of ps) ≡ n ∷ [] → MissesOne ps n
  misses_one [] n all one = absurd cc
  misses_one (p ∷ ps) n all one =
      elim all.0 [ inl lost ↦ here lost (rw lost at one) | inr came ↦ there came (misses_one ps n all.1 (rw came at one)) ]
    where
      here : find (number_of p) ≡ None → number_of p ∷ missing_of find (map number_of ps) ≡ n ∷ [] → MissesOne (p ∷ ps) n
      here lost one =
          let number : number_of p ≡ n = cc in
          let none : missing_of find (map number_of ps) ≡ [] = cc in
          record { before = []; packet = p; after = ps; all = refl; number = number; lost = ap find (sym number) ∙ lost; found = rw lost (all_found ps all.1 none) }

      there : find (number_of p) ≡ Some p → MissesOne ps n → MissesOne (p ∷ ps) n
      there came more = record {
        before = p ∷ more.before;
        packet = more.packet;
        after = more.after;
        all = ap (λ (qs : List (List ℕ)). p ∷ qs) more.all;
        number = more.number;
        lost = more.lost;
        found = rw came (ap (λ (qs : List (List ℕ)). p ∷ qs) more.found);
      }

among : (ps : List (List ℕ)) (q : List ℕ) (qs : List (List ℕ)) → IsAmong q (ps ++ q ∷ qs)
among [] q qs = inl refl
among (p ∷ ps) q qs = inr (among ps q qs)

of_stream : (ssrc : ℕ) (ps : List (List ℕ)) (q : List ℕ) (qs : List (List ℕ)) → AreOfStream ssrc (ps ++ q ∷ qs) → IsOfStream ssrc q
of_stream ssrc [] q qs are = are.0
of_stream ssrc (p ∷ ps) q qs are = of_stream ssrc ps q qs are.1

-- what is rebuilt
abbrev Rebuilds : ℕ → Fec → List (List ℕ) → (ℕ → Option (List ℕ)) → ℕ → Type 0
Rebuilds ssrc f packets find n = (p : List ℕ) × (packet_of n ssrc (sum_in f find) ≡ Some p) × IsAmong p packets × (number_of p ≡ n) × (find n ≡ None)

rebuilds : (ssrc : ℕ) (f : Fec) (packets : List (List ℕ)) (find : ℕ → Option (List ℕ)) (n : ℕ) → Protects f packets → AreOfStream ssrc packets → AllCameOrLost find packets → missing_of find (numbers f) ≡ n ∷ []
    → Rebuilds ssrc f packets find n
rebuilds ssrc f packets find n is are came one =
    let it = misses_one find packets n came (ap (missing_of find) (sym is.numbers_are) ∙ one) in
    let sum : sum_in f find ≡ added_all (it.before ++ it.after) (xor_all (it.before ++ it.packet ∷ it.after)) =
    ap (λ (ns : List ℕ). added_all (found_of find ns) f.recovery) is.numbers_are
    ∙ ap (λ (ps : List (List ℕ)). added_all ps f.recovery) it.found
    ∙ ap (added_all (it.before ++ it.after)) (is.is_sum ∙ ap xor_all it.all) in
    let one_is : IsOfStream ssrc it.packet = of_stream ssrc it.before it.packet it.after (subst (AreOfStream ssrc) it.all are) in (
      it.packet,
      ap (packet_of n ssrc) sum ∙ packet_again ssrc n it.packet _ one_is it.number (all_but_one it.before it.packet it.after),
      subst (IsAmong it.packet) (sym it.all) (among it.before it.packet it.after),
      it.number,
      it.lost,
    )

pub rebuilds_the_missing : RebuildsTheMissing
rebuilds_the_missing ssrc f packets find n is are came one =
    let it = rebuilds ssrc f packets find n is are came one in
    (it.0, ap (λ (ns : List ℕ). rebuilt_as ssrc f find (only ns)) one ∙ it.1, it.2, it.3)

pub rebuilds_packets : RebuildsPackets
rebuilds_packets ssrc f packets find is are came = by_missing (missing_of find (numbers f)) refl
  where
    by_missing : (ns : List ℕ) → missing_of find (numbers f) ≡ ns → IfSome (rebuilt_as ssrc f find (only ns)) (λ p. IsAmong p packets × (find (number_of p) ≡ None))
    by_missing [] e = tt
    by_missing (n ∷ []) e =
        let it = rebuilds ssrc f packets find n is are came e in
        subst (λ (o : Option (List ℕ)). IfSome o (λ p. IsAmong p packets × (find (number_of p) ≡ None))) (sym it.1) (it.2, ap find it.3 ∙ it.4)
    by_missing (n ∷ m ∷ ns) e = tt

only_many : (ns : List ℕ) → 2 ≤ length ns → only ns ≡ None
only_many [] h = absurd (omega (arith, h))
only_many (n ∷ []) h = absurd (omega (arith, h))
only_many (n ∷ m ∷ ns) h = refl

pub two_rebuild_nothing : TwoRebuildNothing
two_rebuild_nothing ssrc f find h = ap (rebuilt_as ssrc f find) (only_many (missing_of find (numbers f)) h)
