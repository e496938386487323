-- Receiver reports that are written one after another, with blocks in groups.
use Rattle.std.proofs.Common.{◌≡◌, ◌<◌, ◌≤◌, ◌∙◌, ◌⊎◌, inl, inr, ℕ, suc, max, min, ◌+◌, ◌-◌, ◌*◌, ◌/◌, ◌%◌, List, [], ◌∷◌, ◌++◌, length, map, true, Result, Ok, Err, OnOk, ap, refl, sym, subst, arith, append_assoc, length-append}
use Rattle.std.proofs.lemmas.Bool.{cases_lt}
use Rattle.std.proofs.lemmas.List.{map-append}
use Rattle.codec_payload_feedback.specs.Feedback.{AppendsAll, cname_part}
use Rattle.codec_payload_feedback.proofs.FeedbackLemmas.{both, none_more, one_more}
use Rattle.codec_payload_rtcp.specs.RtcpItems.{block_bytes}
use Rattle.codec_payload_rtcp.specs.RtcpPackets.{IsCompound, IsPacket, Packet}
use Rattle.codec_payload_rtcp.specs.RtcpWriting.{Appends, AreCompound, AreUnpadded, cname_chunk}
use Rattle.codec_payload_rtcp.specs.SdesWriting.{description_bytes}
use Rattle.codec_payload_rtcp.specs.declared.items.ReportBlock.{ReportBlock}
use Rattle.codec_payload_rtcp.proofs.ExactWriting.{name_chunk_length}
use Rattle.codec_payload_session_requests.specs.Requests.{source_for}
use Rattle.codec_payload_session.specs.Reporting.{AppendsGroups, AreGroups, IsReport, blocks_within, bytes_of, extended_length, most_blocks, name_length, report_of_group, report_packets}
use Rattle.codec_payload_session_formats.specs.declared.formats.FeedbackSettings.{FeedbackSettings}

-- ---- blocks of 24 bytes

block_length : (b : ReportBlock) → length (block_bytes b) ≡ 24
block_length b = refl

pub blocks_length : (bs : List ReportBlock) → length (bytes_of bs) ≡ 24 * length bs
blocks_length [] = refl
blocks_length (b ∷ bs) = omega (arith, length-append (block_bytes b) (bytes_of bs), block_length b, blocks_length bs)

pub whole_blocks : (bs : List ReportBlock) (bytes : List ℕ) → bytes ≡ bytes_of bs → length bytes % 24 ≡ 0
whole_blocks bs bytes is = omega (arith, ap (λ (l : List ℕ). length l) is, blocks_length bs)

-- ---- groups

-- the groups that are written, before any groups of the rest, are groups of the blocks
abbrev pub Leads : List (List ℕ) → List ℕ → List ℕ → Type 0
Leads done rest blocks = (gs : List (List ℕ)) → AreGroups gs rest → AreGroups (done ++ gs) blocks

-- the groups that are written, and what they append
abbrev pub Writes : ℕ → List ℕ → List ℕ → List ℕ → List ℕ → Type 0
Writes ssrc blocks rest old new =
    (done : List (List ℕ)) × Leads done rest blocks × AppendsAll (map (report_of_group ssrc) done) old new × (length rest % 24 ≡ 0)

pub writes_none : (ssrc : ℕ) (blocks old : List ℕ) → length blocks % 24 ≡ 0 → Writes ssrc blocks blocks old old
writes_none ssrc blocks old whole = ([], λ gs are. are, none_more old, whole)

cons_group : (g rest others : List ℕ) (gs : List (List ℕ)) → rest ≡ g ++ others → length g ≡ 744 → 1 ≤ length others → AreGroups gs others → AreGroups (g ∷ gs) rest
cons_group g rest others [] is long some are = absurd are
cons_group g rest others (h ∷ gs) is long some are = (others, is, long, some, are)

one_group : (ssrc : ℕ) (done : List (List ℕ)) (g a b c : List ℕ) → AppendsAll (map (report_of_group ssrc) done) a b → Appends b c (report_of_group ssrc g)
    → AppendsAll (map (report_of_group ssrc) (done ++ g ∷ [])) a c
one_group ssrc done g a b c before more =
    subst (λ (ps : List Packet). AppendsAll ps a c) (sym (map-append (report_of_group ssrc) done (g ∷ [])))
    (both (map (report_of_group ssrc) done) (report_of_group ssrc g ∷ []) a b c before (one_more b c (report_of_group ssrc g) more))

pub writes_more : (ssrc : ℕ) (blocks g rest others a b c : List ℕ) → Writes ssrc blocks rest a b → rest ≡ g ++ others → length g ≡ 744 → 1 ≤ length others
    → Appends b c (report_of_group ssrc g) → Writes ssrc blocks others a c
writes_more ssrc blocks g rest others a b c got is long some more = (
  got.0 ++ g ∷ [],
  λ gs are. subst (λ (d : List (List ℕ)). AreGroups d blocks) (sym (append_assoc got.0 (g ∷ []) gs)) (got.1 (g ∷ gs) (cons_group g rest others gs is long some are)),
  one_group ssrc got.0 g a b c got.2 more,
  omega (arith, got.3, long, length-append g others, ap (λ (l : List ℕ). length l) is),
)

pub writes_last : {X E : Type 0} (result : Result X E) (ssrc : ℕ) (blocks rest a b c : List ℕ) → Writes ssrc blocks rest a b → length rest ≤ 744
    → OnOk result (Appends b c (report_of_group ssrc rest)) → OnOk result (AppendsGroups ssrc blocks a c)
writes_last (Ok x) ssrc blocks rest a b c got few more = (got.0 ++ rest ∷ [], got.1 (rest ∷ []) (refl, few), one_group ssrc got.0 rest a b c got.2 more)
writes_last (Err e) ssrc blocks rest a b c got few more = tt

-- ---- lengths

group_length : (ssrc : ℕ) (g front : List ℕ) → IsPacket 0 front (report_of_group ssrc g) → length front ≡ 8 + length g
group_length ssrc g front is =
    omega (arith, ap (λ (l : List ℕ). length l) is.is, length-append is.body is.tail, ap (λ (l : List ℕ). length l) is.is_body, ap (λ (l : List ℕ). length l) is.is_padding, length-append g [])

abbrev total : List (List ℕ) → ℕ
total [] = 0
total (g ∷ gs) = length g + total gs

groups_length : (ssrc : ℕ) (gs : List (List ℕ)) (bytes : List ℕ) → AreUnpadded (map (report_of_group ssrc) gs) bytes → length bytes ≡ 8 * length gs + total gs
groups_length ssrc [] bytes are = ap (λ (l : List ℕ). length l) are
groups_length ssrc (g ∷ gs) bytes are =
    omega (arith, ap (λ (l : List ℕ). length l) are.4, length-append are.0 are.1, group_length ssrc g are.0 are.2, groups_length ssrc gs are.1 are.3)

total_is : (gs : List (List ℕ)) (blocks : List ℕ) → AreGroups gs blocks → total gs ≡ length blocks
total_is [] blocks are = absurd are
total_is (g ∷ []) blocks are = omega (arith, ap (λ (l : List ℕ). length l) are.0)
total_is (g ∷ h ∷ gs) blocks are = omega (arith, ap (λ (l : List ℕ). length l) are.1, length-append g are.0, total_is (h ∷ gs) are.0 are.4)

-- one group, or groups of which all but the last are full
abbrev Few : ℕ → ℕ → Type 0
Few groups long = ((groups ≡ 1) × (long ≤ 744)) ⊎ (744 * groups < long + 744)

more_groups : (groups rest long : ℕ) → Few groups rest → 1 ≤ rest → long ≡ 744 + rest → Few (suc groups) long
more_groups groups rest long (inl few) some is = inr (omega (arith, few.0, some, is))
more_groups groups rest long (inr few) some is = inr (omega (arith, few, is))

few_groups : (gs : List (List ℕ)) (blocks : List ℕ) → AreGroups gs blocks → Few (length gs) (length blocks)
few_groups [] blocks are = absurd are
few_groups (g ∷ []) blocks are = inl (refl, omega (arith, ap (λ (l : List ℕ). length l) are.0, are.1))
few_groups (g ∷ h ∷ gs) blocks are =
    more_groups (length (h ∷ gs)) (length are.0) (length blocks) (few_groups (h ∷ gs) are.0 are.4) are.3
    (omega (arith, ap (λ (l : List ℕ). length l) are.1, length-append g are.0, are.2))

one_fits : (groups long name size : ℕ) → Few groups long → long ≤ 24 → 8 * groups + long + name ≤ max size (32 + name)
one_fits groups long name size (inl few) short = omega (arith, few.0, short)
one_fits groups long name size (inr few) short = omega (arith, few, short)

-- q full reports, and t blocks in the rest of r bytes
some_fit : (groups long q r t : ℕ) → Few groups long → 24 < long → long ≤ 24 * (31 * q + t) → 24 * t ≤ r - 8 → r < 752 → 8 * groups + long ≤ 752 * q + r
some_fit groups long q r t (inl few) many within blocks rest = omega (arith, few.0, few.1, many, within, blocks, rest)
some_fit groups long q r t (inr few) many within blocks rest = omega (arith, few, many, within, blocks, rest)

all_fit : (groups long name size : ℕ) → Few groups long → 24 < long → long ≤ 24 * max 1 (blocks_within (size - name)) → 8 * groups + long + name ≤ max size (32 + name)
all_fit groups long name size few many within =
    let room : ℕ = size - name in
    let q : ℕ = room / 752 in
    let r : ℕ = room % 752 in
    let t : ℕ = (r - 8) / 24 in
    let blocks : long ≤ 24 * (31 * q + t) = omega (arith, many, within) in
    let fit : 8 * groups + long ≤ 752 * q + r = some_fit groups long q r t few many blocks (omega arith) (omega arith) in
    omega (arith, fit, many)

fits_either : (groups long name size : ℕ) → Few groups long → long ≤ 24 * max 1 (blocks_within (size - name)) → (long ≤ 24) ⊎ (24 < long) → 8 * groups + long + name ≤ max size (32 + name)
fits_either groups long name size few within (inl short) = one_fits groups long name size few short
fits_either groups long name size few within (inr many) = all_fit groups long name size few many within

within_or_more : (long : ℕ) → (long ≤ 24) ⊎ (24 < long)
within_or_more long = swapped (cases_lt 24 long)
  where
    swapped : (24 < long) ⊎ (long ≤ 24) → (long ≤ 24) ⊎ (24 < long)
    swapped (inl many) = inr many
    swapped (inr short) = inl short

-- a source description with a name
cname_length : (ssrc : ℕ) (name : List ℕ) → length (description_bytes (cname_chunk ssrc name)) ≡ 12 + 4 * ((length name + 2) / 4)
cname_length ssrc name = omega (arith, name_chunk_length ssrc name)

pub name_written : {X E : Type 0} (result : Result X E) (ssrc : ℕ) (name a b : List ℕ) → 1 ≤ length name → OnOk result (b ≡ a ++ description_bytes (cname_chunk ssrc name)) → OnOk result (length b ≡ length a + name_length (length name))
name_written (Ok x) ssrc [] a b some written = absurd (omega (arith, some))
name_written (Ok x) ssrc (n ∷ ns) a b some written =
    omega (arith, ap (λ (l : List ℕ). length l) written, length-append a (description_bytes (cname_chunk ssrc (n ∷ ns))), cname_length ssrc (n ∷ ns))
name_written (Err e) ssrc name a b some written = tt

-- ---- the packet

compound_by : (f : FeedbackSettings) (groups : List (List ℕ)) (extended : List Packet) (blocks bytes : List ℕ) → AreCompound → AreGroups groups blocks → AreUnpadded (report_packets f groups extended) bytes
    → IsCompound true (report_packets f groups extended) bytes
compound_by f [] extended blocks bytes all groups are = absurd groups
compound_by f (g ∷ gs) extended blocks bytes all groups are = record {
  are = all (report_of_group f.ssrc g) (map (report_of_group f.ssrc) gs ++ (cname_part (source_for f) ++ extended)) bytes are;
  report = λ full. refl;
}

-- what the blocks leave of the bytes of the settings
less_room : (long size name more : ℕ) → long ≤ 24 * max 1 (blocks_within (size - name - more)) → long ≤ 24 * max 1 (blocks_within (size - (name + more)))
less_room long size name more few = let same : size - name - more ≡ size - (name + more) = omega arith in subst (λ (n : ℕ). long ≤ 24 * max 1 (blocks_within n)) same few

pub is_report : (f : FeedbackSettings) (extended : List Packet) (blocks a b c d : List ℕ) → AreCompound → a ≡ [] → AppendsGroups f.ssrc blocks a b → AppendsAll (cname_part (source_for f)) b c
    → AppendsAll extended c d → length blocks ≤ 24 * most_blocks f → length c ≡ length b + name_length (min 255 (length f.cname.items)) → length d ≤ length c + extended_length f.extended → IsReport f blocks extended d
is_report f extended blocks a b c d all none groups name more few named small =
    let name_size : ℕ = name_length (min 255 (length f.cname.items)) in
    let more_size : ℕ = extended_length f.extended in
    let sized : length groups.2.0 ≡ 8 * length groups.0 + total groups.0 = groups_length f.ssrc groups.0 groups.2.0 groups.2.1 in
    let reports : length b ≡ 8 * length groups.0 + length blocks =
    omega (arith, sized, total_is groups.0 blocks groups.1, ap (λ (l : List ℕ). length l) groups.2.2, ap (λ (l : List ℕ). length l) none, length-append a groups.2.0) in
    let rest : AppendsAll (cname_part (source_for f) ++ extended) b d = both (cname_part (source_for f)) extended b c d name more in
    let written : AppendsAll (report_packets f groups.0 extended) a d = both (map (report_of_group f.ssrc) groups.0) (cname_part (source_for f) ++ extended) a b d groups.2 rest in
    let are : AreUnpadded (report_packets f groups.0 extended) d =
    subst (λ (l : List ℕ). AreUnpadded (report_packets f groups.0 extended) l) (sym (written.2 ∙ ap (λ (l : List ℕ). l ++ written.0) none)) written.1 in
    record {
      fits = omega (
        arith,
        reports,
        named,
        small,
        fits_either (length groups.0) (length blocks) (name_size + more_size) f.max_report (few_groups groups.0 blocks groups.1) (less_room (length blocks) f.max_report name_size more_size few) (within_or_more (length blocks)),
      );
      groups = groups.0;
      are_groups = groups.1;
      unpadded = are;
      compound = compound_by f groups.0 extended blocks d all groups.1 are;
    }
