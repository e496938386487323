-- Packets that are appended one after another, and how many numbers are followed.
use Rattle.std.proofs.Common.{◌≡◌, ◌≤◌, ◌∙◌, ℕ, suc, ◌+◌, ◌==◌, List, [], ◌∷◌, ◌++◌, length, map, filter, Bool, true, false, cond, Some, Result, Ok, Err, OnOk, ap, refl, sym, subst, arith, append_assoc, None, ◌&&◌, ◌||◌}
use Rattle.std.proofs.lemmas.Bool.Decides.{nat_tests}
use Rattle.std.proofs.lemmas.List.{append-nil}
use Rattle.codec_payload_rtcp.specs.RtcpPackets.{Packet, source_description}
use Rattle.codec_payload_rtcp.specs.RtcpWriting.{Appends, AreUnpadded, cname_chunk}
use Rattle.codec_payload_rtcp.specs.NackNumbers.{Packs, numbers_in}
use Rattle.codec_payload_feedback_requests.specs.NackSchedule.{Schedule, due_numbers, earliest_of, followed, is_due, low_bits}
use Rattle.codec_payload_feedback_requests.specs.declared.nack.PendingRequest.{PendingRequest}
use Rattle.codec_payload_feedback_requests.specs.KeyframeRequests.{after_pause, deadline_of as keyframe_deadline, is_due as is_keyframe_due}
use Rattle.codec_payload_feedback_requests.specs.Requests.{has_come}
use Rattle.codec_payload_feedback_requests.specs.declared.keyframe.KeyframeRequests.{KeyframeRequests}
use Rattle.codec_payload_feedback_requests.proofs.MomentLemmas.{come_earlier}
use Rattle.codec_payload_feedback_requests.proofs.NackLemmas.{none_due, nothing_due}
use Rattle.codec_payload_feedback.specs.Feedback.{AppendsAll, AppendsNack, Bounded, IsFeedback, Source, cname_by, cname_if, description_part, has_any, keyframe_part, nack_by, report_part, Requests, after_feedback, counted, deadline_of, keyframe_is_due, keyframe_pause, numbers_due}
use Rattle.codec_payload_feedback.specs.declared.requests.RequestCounts.{RequestCounts}

-- ---- packets

pub none_more : (old : List ℕ) → AppendsAll [] old old
none_more old = ([], refl, sym (append-nil old))

pub one_more : (old new : List ℕ) (p : Packet) → Appends old new p → AppendsAll (p ∷ []) old new
one_more old new p got = (got.0, (got.0, [], got.1, refl, sym (append-nil got.0)), got.2)

unpadded_both : (ps qs : List Packet) (front rest : List ℕ) → AreUnpadded ps front → AreUnpadded qs rest → AreUnpadded (ps ++ qs) (front ++ rest)
unpadded_both [] qs front rest first second = subst (λ (bytes : List ℕ). AreUnpadded qs bytes) (sym (ap (λ (f : List ℕ). f ++ rest) first)) second
unpadded_both (p ∷ ps) qs front rest first second =
    (first.0, first.1 ++ rest, first.2, unpadded_both ps qs first.1 rest first.3 second, ap (λ (f : List ℕ). f ++ rest) first.4 ∙ append_assoc first.0 first.1 rest)

pub both : (ps qs : List Packet) (a b c : List ℕ) → AppendsAll ps a b → AppendsAll qs b c → AppendsAll (ps ++ qs) a c
both ps qs a b c first second =
    (first.0 ++ second.0, unpadded_both ps qs first.0 second.0 first.1 second.1, second.2 ∙ ap (λ (l : List ℕ). l ++ second.0) first.2 ∙ append_assoc a first.0 second.0)

-- ---- parts

no_numbers : numbers_in [] ≡ []
unfolding numbers_in
no_numbers = refl

pub nack_none : (sender media : ℕ) (numbers old : List ℕ) → (length numbers == 0) ≡ true → AppendsNack sender media numbers old old
nack_none sender media [] old is = ([], record { names = no_numbers; fewest = λ other same. omega arith }, none_more old)
nack_none sender media (n ∷ ns) old is = absurd (grind (arith, nat_tests))

-- numbers, and few of them, have pairs that a NACK can carry
some_pairs : (numbers pairs : List ℕ) → (length numbers == 0) ≡ false → Packs [] pairs numbers → 1 ≤ length pairs
some_pairs numbers [] is packs =
    let none : numbers ≡ [] = sym packs.names ∙ ap numbers_in (sym packs.is) ∙ no_numbers in
    absurd (grind (arith, nat_tests))
some_pairs numbers (p ∷ ps) is packs = omega arith

pub pairs_some : (numbers old pairs lent : List ℕ) → old ≡ [] → lent ≡ pairs → (length numbers == 0) ≡ false → Packs old pairs numbers → 1 ≤ length lent
pairs_some numbers old pairs lent none same is packs =
    subst (λ (l : List ℕ). 1 ≤ length l) (sym same) (some_pairs numbers pairs is (subst (λ (l : List ℕ). Packs l pairs numbers) none packs))

pub all_four : (s : Source) (media : ℕ) (numbers : List ℕ) (keyframe : Bool) (a b c d e : List ℕ) → a ≡ [] → has_any numbers keyframe ≡ true → AppendsAll (report_part s) a b
    → AppendsAll (description_part s) b c → AppendsNack s.ssrc media numbers c d → AppendsAll (keyframe_part s.ssrc media keyframe) d e → IsFeedback s media numbers keyframe (Some e)
all_four s media numbers keyframe a b c d e none any report cname asks picture =
    let four : AppendsAll (report_part s ++ (description_part s ++ (nack_by s.ssrc media numbers asks.0 ++ keyframe_part s.ssrc media keyframe))) [] e =
    both (report_part s) (description_part s ++ (nack_by s.ssrc media numbers asks.0 ++ keyframe_part s.ssrc media keyframe)) [] b e (subst (λ (l : List ℕ). AppendsAll (report_part s) l b) none report)
    (both (description_part s) (nack_by s.ssrc media numbers asks.0 ++ keyframe_part s.ssrc media keyframe) b c e cname
    (both (nack_by s.ssrc media numbers asks.0) (keyframe_part s.ssrc media keyframe) c d e asks.2 picture)) in
    (any, asks.0, asks.1, subst (λ (l : List ℕ). AreUnpadded (report_part s ++ (description_part s ++ (nack_by s.ssrc media numbers asks.0 ++ keyframe_part s.ssrc media keyframe))) l) (sym four.2) four.1)

-- ---- numbers

length_map : {A B : Type 0} (f : A → B) (xs : List A) → length (map f xs) ≡ length xs
length_map f [] = refl
length_map f (x ∷ xs) = ap suc (length_map f xs)

length_filter : (now : ℕ) (rs : List PendingRequest) → length (filter (is_due now) rs) ≤ length rs
length_filter now [] = omega arith
length_filter now (r ∷ rs) = by_test (is_due now r) (length_filter now rs)
  where
    by_test : (b : Bool) → length (filter (is_due now) rs) ≤ length rs → length (cond b (r ∷ filter (is_due now) rs) (filter (is_due now) rs)) ≤ length (r ∷ rs)
    by_test true fewer = omega (arith, fewer)
    by_test false fewer = omega (arith, fewer)

pub few_due : (now : ℕ) (s : Schedule) (old numbers : List ℕ) → Bounded s → old ≡ [] → numbers ≡ old ++ map low_bits (due_numbers now s) → length numbers ≤ 65533
few_due now s old numbers kept none is =
    omega (arith, ap (λ (l : List ℕ). length l) (is ∙ ap (λ (l : List ℕ). l ++ map low_bits (due_numbers now s)) none), length_map low_bits (due_numbers now s), length_map (λ (r : PendingRequest). r.number) (filter (is_due now) s.pending), length_filter now s.pending, kept.pending)

-- ---- transport-wide feedback

pub all_three : (s : Source) (p : Packet) (a b c d : List ℕ) → a ≡ [] → AppendsAll (report_part s) a b → AppendsAll (description_part s) b c → Appends c d p → AreUnpadded (report_part s ++ (description_part s ++ p ∷ [])) d
all_three s p a b c d none report cname feedback =
    let three : AppendsAll (report_part s ++ (description_part s ++ p ∷ [])) [] d =
    both (report_part s) (description_part s ++ p ∷ []) [] b d (subst (λ (l : List ℕ). AppendsAll (report_part s) l b) none report) (both (description_part s) (p ∷ []) b c d cname (one_more c d p feedback)) in
    subst (λ (l : List ℕ). AreUnpadded (report_part s ++ (description_part s ++ p ∷ [])) l) (sym three.2) three.1

-- ---- the description of a source

named : (ssrc : ℕ) (name : List ℕ) → 1 ≤ length name → cname_by ssrc name ≡ source_description (cname_chunk ssrc name ∷ []) ∷ []
named ssrc [] some = absurd (omega (arith, some))
named ssrc (c ∷ cs) some = refl

pub name_described : {X E : Type 0} (result : Result X E) (ssrc : ℕ) (name a b : List ℕ) → 1 ≤ length name → OnOk result (Appends a b (source_description (cname_chunk ssrc name ∷ [])))
    → OnOk result (AppendsAll (cname_by ssrc name) a b)
name_described (Ok x) ssrc name a b some got =
    subst (λ (ps : List Packet). AppendsAll ps a b) (sym (named ssrc name some)) (one_more a b (source_description (cname_chunk ssrc name ∷ [])) got)
name_described (Err e) ssrc name a b some got = tt

pub described : {X E : Type 0} (result : Result X E) (s : Source) (ssrc : ℕ) (name a b : List ℕ) → s.has_report ≡ true → s.ssrc ≡ ssrc → s.cname ≡ name → 1 ≤ length name
    → OnOk result (Appends a b (source_description (cname_chunk ssrc name ∷ []))) → OnOk result (AppendsAll (description_part s) a b)
described result s ssrc name a b report from is some got =
    let packets : description_part s ≡ cname_by ssrc name =
    ap (λ (r : Bool). cname_if r s) report ∙ ap (λ (n : ℕ). cname_by n s.cname) from ∙ ap (λ (n : List ℕ). cname_by ssrc n) is in
    subst (λ (ps : List Packet). OnOk result (AppendsAll ps a b)) (sym packets) (name_described result ssrc name a b some got)

-- ---- nothing is due

both_false : (a b : Bool) → (a || b) ≡ false → (a ≡ false) × (b ≡ false)
both_false true b is = cc
both_false false b is = (refl, is)

keyframe_not_due : (now : ℕ) (r : KeyframeRequests) → has_come (keyframe_deadline r) now ≡ false → is_keyframe_due now r ≡ false
keyframe_not_due now r none = by_test r.wanted none
  where
    by_test : (b : Bool) → has_come (cond b r.next None) now ≡ false → (b && has_come r.next now) ≡ false
    by_test true is = is
    by_test false is = refl

keyframe_stays : (now pause : ℕ) (r : KeyframeRequests) → is_keyframe_due now r ≡ false → after_pause now pause r ≡ r
keyframe_stays now pause r none = rw none refl

-- before the deadline there is no packet, and nothing changes
pub record Rests (now : ℕ) (r : Requests) : Type 0 where
  pub numbers : numbers_due now r ≡ []
  pub keyframe : keyframe_is_due now r ≡ false
  pub after : r ≡ after_feedback now r

counted_none : (numbers : List ℕ) (keyframe : Bool) (c : RequestCounts) → numbers ≡ [] → keyframe ≡ false → counted numbers keyframe c ≡ c
counted_none numbers keyframe c no_numbers no_keyframe = rw (no_numbers, no_keyframe) refl

pub rests : (now : ℕ) (r : Requests) → has_come (deadline_of r) now ≡ false → Rests now r
rests now r none =
    let both = both_false (has_come (earliest_of r.nack.pending) now) (has_come (keyframe_deadline r.keyframes) now) (sym (come_earlier (earliest_of r.nack.pending) (keyframe_deadline r.keyframes) now) ∙ none) in
    let keyframe = keyframe_not_due now r.keyframes both.1 in
    let numbers : numbers_due now r ≡ [] = rw (none_due now r.nack.pending both.0) refl in
    record {
      numbers = numbers;
      keyframe = keyframe;
      after = rw (sym (nothing_due now r.nack both.0), keyframe_stays now (keyframe_pause r) r.keyframes keyframe, counted_none (numbers_due now r) (keyframe_is_due now r) r.counts numbers keyframe) refl;
    }

pub no_packet : (s : Source) (now : ℕ) (r : Requests) → has_come (deadline_of r) now ≡ false → IsFeedback s r.ssrc (numbers_due now r) (keyframe_is_due now r) None
no_packet s now r none = let all = rests now r none in rw (all.numbers, all.keyframe) refl
