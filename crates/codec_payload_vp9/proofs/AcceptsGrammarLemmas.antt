-- Which payloads are taken.
use Rattle.std.proofs.Common.{◌≡◌, ◌∙◌, ap, sym, refl, ℕ, suc, ◌+◌, List, [], ◌∷◌, ◌++◌, length, length-append, Bool, true, false, Result, Ok, Err, subst}
use Rattle.std.specs.Prelude.{IfOk, IfErr}
use Rattle.codec_payload_base.specs.Flags.{AreBytes}
use Rattle.codec_payload_base.specs.declared.error.PacketError.{PacketError}
use Rattle.codec_payload_base.specs.declared.error.PacketError.TheVariants as faults
use Rattle.codec_payload_base.specs.declared.interface.CodecExtra.{CodecExtra}
use Rattle.codec_payload_base.specs.declared.interface.CodecExtra.TheVariants as extras
use Rattle.codec_payload_vp9.specs.Vp9Fields.{Fields, Groups}
use Rattle.codec_payload_vp9.specs.Vp9Described.{groups_after, with_descriptor}
use Rattle.codec_payload_vp9.specs.Vp9Descriptor.{spelled, Descriptor}
use Rattle.codec_payload_vp9.specs.Vp9Laws.{Accepts, IsDescribed, RefusesBy, WantsMemoryOf}
use Rattle.codec_payload_vp9.specs.Vp9Reading.{all_groups, groups_of, with_flags}
use Rattle.codec_payload_vp9.specs.Vp9Received.{extra_of, is_misplaced, told_before, AppendedIf, Vp9Rest, Vp9Step, WantsMemory}
use Rattle.codec_payload_vp9.proofs.ReadIsSpelledLemmas.{read_is_spelled}
use Rattle.codec_payload_vp9.proofs.SpelledIsReadLemmas.{fields_read, groups_told, spelled_is_read}
use Rattle.codec_payload_vp9.proofs.NamedFaultLemmas.{names_no_memory}

-- accepted: the bytes after the descriptor were appended
taken_if : (misplaced : Bool) (d : Fields) (rest out : List ℕ) (extra : CodecExtra) (out' : List ℕ) (extra' : CodecExtra) → AppendedIf misplaced d rest out extra (Ok tt) out' extra'
    → (out' ≡ out ++ rest) × (extra' ≡ extras.Vp9 (extra_of d (length out') (told_before extra)))
taken_if true d rest out extra out' extra' step = let never = step.0 in absurd (cc)
taken_if false d rest out extra out' extra' step =
    let end : length out + length rest ≡ length out' = sym (ap length step.0 ∙ length-append out rest) in
    (step.0, step.1 ∙ ap (λ (n : ℕ). extras.Vp9 (extra_of d n (told_before extra))) end)

taken_rest : (d : Fields) (r : Result (List ℕ) PacketError) (out : List ℕ) (extra : CodecExtra) (out' : List ℕ) (extra' : CodecExtra) → Vp9Rest d r out extra (Ok tt) out' extra'
    → (rest : List ℕ) × (r ≡ Ok rest) × (out' ≡ out ++ rest) × (extra' ≡ extras.Vp9 (extra_of d (length out') (told_before extra)))
taken_rest d (Err fault) out extra out' extra' step = let never = step.0 in absurd (cc)
taken_rest d (Ok rest) out extra out' extra' step =
    let appended = taken_if (is_misplaced d (length out) (told_before extra)) d rest out extra out' extra' step in
    (rest, refl, appended.0, appended.1)

pub accepts : (payload : List ℕ) (d : Fields) (out : List ℕ) (extra : CodecExtra) (r : Result (Unit {0}) PacketError) (after : Fields) (out' : List ℕ) (extra' : CodecExtra)
    → AreBytes payload → Vp9Step d payload out extra r after out' extra' → IfOk r (λ _. Accepts d payload out extra after out' extra')
accepts payload d out extra (Err fault) after out' extra' are step = tt
accepts [] d out extra (Ok _) after out' extra' are step = let never = step.0 in absurd (cc)
accepts (flags ∷ bytes) d out extra (Ok _) after out' extra' are step =
    let (rest, ends, appended, told) = taken_rest after (all_groups (with_flags d flags) bytes).rest out extra out' extra' step.2 in
    let (read, is, whole) = read_is_spelled d flags bytes rest (λ i. are (suc i)) ends in
    let so : Vp9Step d (spelled read ++ rest) out extra (Ok tt) after out' extra' = subst (λ (p : List ℕ). Vp9Step d p out extra (Ok tt) after out' extra') whole step in
    let fields : after ≡ record (with_descriptor d read) { groups = groups_after d read.structure } =
    so.0 ∙ ap (λ (f : Fields). record f { groups = groups_of after }) (fields_read read rest is d)
    ∙ ap (λ (g : Groups). record (with_descriptor d read) { groups = g }) (so.1 refl ∙ groups_told read rest is d) in
    (read, rest, (is, whole), appended, fields, told)

-- refused, for a payload that has a descriptor: it is misplaced, or memory ran out
refused_if : (misplaced : Bool) (d : Fields) (rest out : List ℕ) (extra : CodecExtra) (fault : PacketError) (out' : List ℕ) (extra' : CodecExtra) → (fault ≡ faults.OutOfMemory → ⊥)
    → AppendedIf misplaced d rest out extra (Err fault) out' extra' → (fault ≡ faults.ErrVP9CorruptedPacket) × (misplaced ≡ true)
refused_if true d rest out extra fault out' extra' other step = let is = step.0 in (cc, refl)
refused_if false d rest out extra fault out' extra' other step = absurd (other step.0)

refuses_by : (d : Fields) (read : Descriptor) (rest out : List ℕ) (extra : CodecExtra) (fault : PacketError) (after : Fields) (out' : List ℕ) (extra' : CodecExtra)
    → (fault ≡ faults.OutOfMemory → ⊥) → IsDescribed (spelled read ++ rest) read rest
    → Vp9Step d (spelled read ++ rest) out extra (Err fault) after out' extra' → (fault ≡ faults.ErrVP9CorruptedPacket) × (is_misplaced after (length out) (told_before extra) ≡ true)
refuses_by d read rest out extra fault after out' extra' other described step =
    let goes = subst (λ (r : Result (List ℕ) PacketError). Vp9Rest after r out extra (Err fault) out' extra') (spelled_is_read read rest described.0 d) step.2 in
    refused_if (is_misplaced after (length out) (told_before extra)) after rest out extra fault out' extra' other goes

-- memory ran out
wanting_if : (misplaced : Bool) (d : Fields) (rest out : List ℕ) (extra : CodecExtra) (fault : PacketError) (out' : List ℕ) (extra' : CodecExtra) → fault ≡ faults.OutOfMemory
    → AppendedIf misplaced d rest out extra (Err fault) out' extra' → WantsMemory d rest × (misplaced ≡ false)
wanting_if true d rest out extra fault out' extra' lacks step = let never = step.0 in absurd (cc)
wanting_if false d rest out extra fault out' extra' lacks step = (step.1, refl)

module _ (d after : Fields) (out : List ℕ) (extra : CodecExtra) (fault : PacketError) (out' : List ℕ) (extra' : CodecExtra) (lacks : fault ≡ faults.OutOfMemory)
    (unnamed : (d : Fields) (bytes : List ℕ) → ((all_groups d bytes).rest ≡ Err faults.OutOfMemory) → ⊥) where
  wanting_rest : (start : Fields) (bytes : List ℕ) (r : Result (List ℕ) PacketError) → (all_groups start bytes).rest ≡ r → Vp9Rest after r out extra (Err fault) out' extra'
      → (rest : List ℕ) × (r ≡ Ok rest) × WantsMemory after rest × (is_misplaced after (length out) (told_before extra) ≡ false)
  wanting_rest start bytes (Err named) is step = let same = step.0 in absurd (unnamed start bytes (is ∙ cc))
  wanting_rest start bytes (Ok rest) is step =
      let wants = wanting_if (is_misplaced after (length out) (told_before extra)) after rest out extra fault out' extra' lacks step in
      (rest, refl, wants.0, wants.1)

  wants_memory : (payload : List ℕ) → AreBytes payload → Vp9Step d payload out extra (Err fault) after out' extra' → WantsMemoryOf payload out extra after
  wants_memory [] are step = let never = step.0 in absurd (cc)
  wants_memory (flags ∷ bytes) are step =
      let (rest, ends, wants, free) = wanting_rest (with_flags d flags) bytes (all_groups (with_flags d flags) bytes).rest refl step.2 in
      let (read, is, whole) = read_is_spelled d flags bytes rest (λ i. are (suc i)) ends in
      (read, rest, (is, whole), wants, free)

pub refuses : (payload : List ℕ) (d : Fields) (out : List ℕ) (extra : CodecExtra) (r : Result (Unit {0}) PacketError) (after : Fields) (out' : List ℕ) (extra' : CodecExtra)
    → AreBytes payload → Vp9Step d payload out extra r after out' extra' → IfErr r (λ fault. RefusesBy payload out extra fault after)
refuses payload d out extra (Ok _) after out' extra' are step = tt
refuses payload d out extra (Err fault) after out' extra' are step = (
  λ other read rest is. refuses_by d read rest out extra fault after out' extra' other (is.0, refl) (subst (λ (p : List ℕ). Vp9Step d p out extra (Err fault) after out' extra') is.1 step),
  λ lacks. wants_memory d after out extra fault out' extra' lacks names_no_memory payload are step,
)
