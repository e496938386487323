-- One payload, by the parts in which it is read.
use Rattle.std.proofs.Common.{◌≡◌, ◌∙◌, ap, sym, refl, subst, inl, ℕ, ◌<◌, List, ◌∷◌, length, Bool, true, false, Result, Ok, Err}
use Rattle.codec_payload_base.specs.declared.error.PacketError.{PacketError}
use Rattle.codec_payload_base.specs.declared.error.PacketError.TheVariants as faults
use Rattle.codec_payload_base.specs.declared.interface.CodecExtra.{CodecExtra}
use Rattle.codec_payload_vp9.proofs.GroupLemmas.{begins_same}
use Rattle.codec_payload_vp9.proofs.SentIsTakenLemmas.{no_memory_fault}
use Rattle.codec_payload_vp9.specs.Vp9Fields.{Fields, Groups}
use Rattle.codec_payload_vp9.specs.Vp9Reading.{GroupReading, all_groups, group_count, groups_from, groups_of, is_no_memory, read_all, with_flags, Begins, SameButGroups}
use Rattle.codec_payload_vp9.specs.Vp9Received.{AppendedIf, Reads, Vp9Rest, Vp9Step, is_misplaced, is_taken, told_before}

module _ (d start after : Fields) (flags : ℕ) (bytes out : List ℕ) (extra : CodecExtra) (flagged : start ≡ with_flags d flags) (kept : SameButGroups after (read_all start bytes).fields) where
  stepped : (answer : Result (Unit {0}) PacketError) (out' : List ℕ) (extra' : CodecExtra)
      → (is_taken answer ≡ true → groups_of after ≡ (all_groups start bytes).groups)
      → Vp9Rest after (all_groups start bytes).rest out extra answer out' extra'
      → ((fault : PacketError) → (read_all start bytes).rest ≡ Err fault → groups_of after ≡ (all_groups start bytes).groups)
      → Begins (groups_of after) (all_groups start bytes).groups
      → Vp9Step d (flags ∷ bytes) out extra answer after out' extra'
  stepped answer out' extra' groups rest before begins =
      subst (λ (s : Fields). Reads (read_all s bytes).fields (read_all s bytes).rest (all_groups s bytes).groups (all_groups s bytes).rest out extra answer after out' extra') flagged
      (kept, groups, rest, before, begins)

  -- the descriptor is refused before its groups
  pub refused : (fault : PacketError) (next : Groups → List ℕ → GroupReading) → (read_all start bytes).rest ≡ Err fault
      → all_groups start bytes ≡ groups_from (groups_of after) (read_all start bytes).rest next → Vp9Step d (flags ∷ bytes) out extra (Err fault) after out extra
  refused fault next fails all =
      let is : all_groups start bytes ≡ record { groups = groups_of after; rest = Err fault } = all ∙ ap (λ (r : Result (List ℕ) PacketError). groups_from (groups_of after) r next) fails in
      let groups : groups_of after ≡ (all_groups start bytes).groups = sym (ap (λ (r : GroupReading). r.groups) is) in
      stepped (Err fault) out extra (λ _. groups)
      (subst (λ (r : Result (List ℕ) PacketError). Vp9Rest after r out extra (Err fault) out extra) (sym (ap (λ (r : GroupReading). r.rest) is)) (refl, refl, refl)) (λ _ _. groups)
      (subst (λ (g : Groups). Begins (groups_of after) g) groups (begins_same (groups_of after)))

  module _ (here : GroupReading) (all : all_groups start bytes ≡ here) (behind : List ℕ) (read : (read_all start bytes).rest ≡ Ok behind) (begins : Begins (groups_of after) here.groups) where
    -- its groups are read as far as memory lasts
    on : (answer : Result (Unit {0}) PacketError) (out' : List ℕ) (extra' : CodecExtra) → (is_taken answer ≡ true → groups_of after ≡ here.groups)
        → Vp9Rest after here.rest out extra answer out' extra' → Vp9Step d (flags ∷ bytes) out extra answer after out' extra'
    on answer out' extra' groups rest =
        stepped answer out' extra' (λ taken. groups taken ∙ sym (ap (λ (r : GroupReading). r.groups) all))
        (subst (λ (r : GroupReading). Vp9Rest after r.rest out extra answer out' extra') (sym all) rest) (λ fault fails. absurd (let never = sym read ∙ fails in cc))
        (subst (λ (r : GroupReading). Begins (groups_of after) r.groups) (sym all) begins)

    -- they end too early
    pub short : (fault : PacketError) → here.rest ≡ Err fault → Vp9Step d (flags ∷ bytes) out extra (Err fault) after out extra
    short fault fails = on (Err fault) out extra (λ taken. absurd (cc)) (subst (λ (r : Result (List ℕ) PacketError). Vp9Rest after r out extra (Err fault) out extra) (sym fails) (refl, refl, refl))

    module _ (rest : List ℕ) (whole : here.rest ≡ Ok rest) where
      placed : (misplaced : Bool) (answer : Result (Unit {0}) PacketError) (out' : List ℕ) (extra' : CodecExtra) → is_misplaced after (length out) (told_before extra) ≡ misplaced
          → (is_taken answer ≡ true → groups_of after ≡ here.groups) → AppendedIf misplaced after rest out extra answer out' extra' → Vp9Step d (flags ∷ bytes) out extra answer after out' extra'
      placed misplaced answer out' extra' is groups appended =
          on answer out' extra' groups
          (subst (λ (r : Result (List ℕ) PacketError). Vp9Rest after r out extra answer out' extra') (sym whole)
          (subst (λ (m : Bool). AppendedIf m after rest out extra answer out' extra') (sym is) appended))

      -- the groups are complete, and the bytes after them are misplaced
      pub misplaced : is_misplaced after (length out) (told_before extra) ≡ true → Vp9Step d (flags ∷ bytes) out extra (Err faults.ErrVP9CorruptedPacket) after out extra
      misplaced is = placed true (Err faults.ErrVP9CorruptedPacket) out extra is (λ taken. absurd (cc)) (refl, refl, refl)

      -- there is no memory for the groups
      pub wanting : (fault : PacketError) → is_misplaced after (length out) (told_before extra) ≡ false → fault ≡ faults.OutOfMemory → 0 < group_count after
          → Vp9Step d (flags ∷ bytes) out extra (Err fault) after out extra
      wanting fault is lacks some = placed false (Err fault) out extra is (λ taken. absurd (cc)) (lacks, inl some, refl, refl)

      -- the bytes after the groups are appended, or there is no memory for them
      pub appended : (answer : Result (Unit {0}) PacketError) (out' : List ℕ) (extra' : CodecExtra) → is_misplaced after (length out) (told_before extra) ≡ false → groups_of after ≡ here.groups
          → AppendedIf false after rest out extra answer out' extra' → Vp9Step d (flags ∷ bytes) out extra answer after out' extra'
      appended answer out' extra' is groups given = placed false answer out' extra' is (λ _. groups) given

-- a payload that can be read whole is refused only if memory runs out
pub lacks_memory : (lacks : Bool) (fault : PacketError) (r : Result (List ℕ) PacketError) (rest : List ℕ) → is_no_memory {X = Unit {0}} (Err fault) ≡ lacks → r ≡ Ok rest
    → (is_no_memory {X = Unit {0}} (Err fault) ≡ false → Err fault ≡ r) → fault ≡ faults.OutOfMemory
lacks_memory true fault r rest is whole named = no_memory_fault fault is
lacks_memory false fault r rest is whole named = let never = named is ∙ whole in absurd (cc)
