-- Packets of FEC that are written one after another.
use Rattle.std.proofs.Common.{◌≡◌, ℕ, ◌+◌, ◌-◌, ◌/◌, ◌%◌, ◌<◌, ◌≤◌, true, List, [], ◌∷◌, ◌++◌, length, get_or, take, drop, map, Result, Ok, Err, refl, sym, ap, ◌∙◌, subst, arith, append_assoc}
use Rattle.std.specs.Prelude.{IsTrue, OnOk}
use Rattle.std.specs.Borrow.{Bor}
use Rattle.std.proofs.Math.Nat.{mod-eq_of_lt}
use Rattle.std.proofs.lemmas.Bool.{eq-eqb, lt-ltb}
use Rattle.std.proofs.lemmas.List.{append-nil, drop-drop, drop_all, length-drop, map-append, take_all}
use Rattle.codec_payload_base.specs.PayloadLists.{PayloadList}
use Rattle.codec_payload_fec.specs.Fec.{Fec, fec_bytes, fec_fits, mask_of}
use Rattle.codec_payload_fec.specs.Strings.{BitString, number_of, xor_all}
use Rattle.codec_payload_fec.specs.Writing.{AreShort, chosen_in, fec_count, fec_for, fecs, fecs_below, first_number, group_fecs, group_size, is_chosen, lists_of, low_bits, mask_in}
use Rattle.codec_payload_fec.proofs.GroupLemmas.{length_lists, list_at, lists_drop, lists_take, mask_some}
use Rattle.codec_payload_fec.proofs.WholeSums.{first_below}
use Rattle.codec_payload_fec.proofs.WriterLemmas.{fecs_more, fecs_none, mask_again, short_bytes, short_chosen, short_drop, short_take}

-- a payload that was begun, put and ended
pub put_is : {X E : Type 0} (result : Result X E) (old begun put new : PayloadList) (bytes items empty fec : List ℕ) → begun ≡ record old { begun = [] } → put ≡ record begun { begun = begun.begun ++ bytes }
    → OnOk result (new ≡ record put { headers = put.headers ++ [] ∷ []; payloads = put.payloads ++ put.begun ∷ []; begun = [] }) → bytes ≡ items → items ≡ empty ++ fec → empty ≡ [] → OnOk result (new.payloads ≡ old.payloads ++ fec ∷ [])
put_is (Ok x) old begun put new bytes items empty fec e1 e2 e3 e4 e5 e6 =
    let here : put.payloads ≡ old.payloads = ap (λ (p : PayloadList). p.payloads) e2 ∙ ap (λ (p : PayloadList). p.payloads) e1 in
    let is : put.begun ≡ fec = ap (λ (p : PayloadList). p.begun) e2 ∙ ap (λ (p : PayloadList). p.begun ++ bytes) e1 ∙ e4 ∙ e5 ∙ ap (λ (bs : List ℕ). bs ++ fec) e6 in
    ap (λ (p : PayloadList). p.payloads) e3 ∙ ap (λ (ps : List (List ℕ)). ps ++ put.begun ∷ []) here ∙ ap (λ (bs : List ℕ). old.payloads ++ bs ∷ []) is
put_is (Err x) old begun put new bytes items empty fec e1 e2 e3 e4 e5 e6 = tt

abbrev with_sum : (base mask : ℕ) → BitString → Fec
with_sum base mask a = record { base = base; mask = mask / 4294967296; continued = low_bits (mask % 4294967296); recovery = a; further = [] }

same_sum : (base base' mask mask' : ℕ) (a a' : BitString) → base ≡ base' → mask ≡ mask' → a ≡ a' → with_sum base mask a ≡ with_sum base' mask' a'
same_sum base base' mask mask' a a' e1 e2 e3 = ap (λ (n : ℕ). with_sum n mask a) e1 ∙ ap (λ (n : ℕ). with_sum base' n a) e2 ∙ ap (with_sum base' mask') e3

pub fec_is : (group : List (Bor (List ℕ))) (d : Bor (List ℕ)) (count n base mask : ℕ) (a : BitString) (f : Fec) → 0 < length group → base ≡ number_of (get_or group 0 d).now → mask ≡ mask_in 48 (length group) count n
    → a ≡ xor_all (chosen_in 48 count n (lists_of group)) → f ≡ with_sum base mask a → f ≡ fec_for count n (lists_of group)
fec_is group d count n base mask a f some e1 e2 e3 e4 =
    e4 ∙ same_sum base (first_number (lists_of group)) mask (mask_in 48 (length (lists_of group)) count n) a (xor_all (chosen_in 48 count n (lists_of group)))
    (e1 ∙ ap number_of (sym (list_at group 0 d some))) (e2 ∙ ap (λ (size : ℕ). mask_in 48 size count n) (sym (length_lists group))) e3

fits_is : (f : Fec) → f.recovery.first < 64 → length f.recovery.bytes < 65536 → 0 < mask_of f.mask f.continued → IsTrue (fec_fits f)
fits_is f h1 h2 h3 = rw (lt-ltb f.recovery.first 64 h1, lt-ltb (length f.recovery.bytes) 65536 h2, lt-ltb 0 (mask_of f.mask f.continued) h3) refl

chosen_here : (size count n : ℕ) → n < count → n < size → is_chosen size count n n ≡ true
chosen_here size count n h h' = rw (lt-ltb n size h', eq-eqb (n % count) n (mod-eq_of_lt h)) refl

-- a packet of FEC of a group can be written
pub fits_for : (group : List (Bor (List ℕ))) (count n : ℕ) (f : Fec) → n < count → count ≤ length group → length group ≤ 48 → AreShort (lists_of group) → f ≡ fec_for count n (lists_of group) → IsTrue (fec_fits f)
fits_for group count n f here fewer few short is =
    let packets : List (List ℕ) = chosen_in 48 count n (lists_of group) in
    let mask : ℕ = mask_in 48 (length (lists_of group)) count n in
    let size : length (lists_of group) ≡ length group = length_lists group in
    let some : 0 < mask = mask_some n (length (lists_of group)) count n (omega (arith, here, fewer, few)) (chosen_here (length (lists_of group)) count n here (omega (arith, here, fewer, size))) in
    subst (λ (f : Fec). IsTrue (fec_fits f)) (sym is)
    (fits_is (fec_for count n (lists_of group)) (first_below packets) (short_bytes packets (short_chosen 48 count n (lists_of group) short)) (subst (λ (m : ℕ). 0 < m) (sym (mask_again mask)) some))

pub on_ok_same : {X E : Type 0} (result : Result X E) (new old : List (List ℕ)) (f g : Fec) → f ≡ g → OnOk result (new ≡ old ++ fec_bytes f ∷ []) → OnOk result (new ≡ old ++ fec_bytes g ∷ [])
on_ok_same result new old f g e h = subst (λ (f : Fec). OnOk result (new ≡ old ++ fec_bytes f ∷ [])) e h

-- all of a group
pub group_done : (protection : ℕ) (group : List (Bor (List ℕ))) (n count : ℕ) (old new : List (List ℕ)) → new ≡ old ++ map fec_bytes (fecs_below n count (lists_of group)) → n ≡ count → count ≡ fec_count (length group) protection
    → new ≡ old ++ map fec_bytes (group_fecs protection (lists_of group))
group_done protection group n count old new e all is =
    e ∙ ap (λ (k : ℕ). old ++ map fec_bytes (fecs_below k count (lists_of group))) all
    ∙ ap (λ (k : ℕ). old ++ map fec_bytes (fecs_below k k (lists_of group))) (is ∙ ap (λ (size : ℕ). fec_count size protection) (sym (length_lists group)))

-- one more group
pub all_more : (protection : ℕ) (packets : List (Bor (List ℕ))) (start size : ℕ) (old new : List (List ℕ)) → start < length packets → size ≡ group_size (lists_of (drop start packets))
    → new ≡ old ++ map fec_bytes (group_fecs protection (lists_of (take size (drop start packets))))
    → new ++ map fec_bytes (fecs protection (drop (start + size) (lists_of packets))) ≡ old ++ map fec_bytes (fecs protection (drop start (lists_of packets)))
all_more protection packets start size old new h is e =
    let rest : List (List ℕ) = drop start (lists_of packets) in
    let same : size ≡ group_size rest = is ∙ ap group_size (lists_drop start packets) in
    let group : lists_of (take size (drop start packets)) ≡ take (group_size rest) rest = lists_take size (drop start packets) ∙ ap (take size) (lists_drop start packets) ∙ ap (λ (k : ℕ). take k rest) same in
    let later : drop (start + size) (lists_of packets) ≡ drop (group_size rest) rest = sym (drop-drop size start (lists_of packets)) ∙ ap (λ (k : ℕ). drop k rest) same in
    let some : 0 < length rest = omega (arith, length-drop start (lists_of packets), length_lists packets, h) in
    let here : List Fec = group_fecs protection (take (group_size rest) rest) in
    let others : List Fec = fecs protection (drop (group_size rest) rest) in
    ap (λ (ps : List (List ℕ)). ps ++ map fec_bytes (fecs protection (drop (start + size) (lists_of packets)))) (e ∙ ap (λ (ps : List (List ℕ)). old ++ map fec_bytes (group_fecs protection ps)) group)
    ∙ ap (λ (ps : List (List ℕ)). (old ++ map fec_bytes here) ++ map fec_bytes (fecs protection ps)) later
    ∙ append_assoc old (map fec_bytes here) (map fec_bytes others)
    ∙ ap (λ (ps : List (List ℕ)). old ++ ps) (sym (map-append fec_bytes here others))
    ∙ ap (λ (fs : List Fec). old ++ map fec_bytes fs) (sym (fecs_more protection rest some))

-- no group is left
pub all_done : (protection : ℕ) (packets : List (Bor (List ℕ))) (start : ℕ) (new all : List (List ℕ)) → length packets ≤ start → new ++ map fec_bytes (fecs protection (drop start (lists_of packets))) ≡ all → new ≡ all
all_done protection packets start new all h e =
    let none : fecs protection (drop start (lists_of packets)) ≡ [] = ap (fecs protection) (drop_all start (lists_of packets) (omega (arith, length_lists packets, h))) ∙ fecs_none protection in
    sym (append-nil new) ∙ ap (λ (fs : List Fec). new ++ map fec_bytes fs) (sym none) ∙ e

pub short_part : (packets : List (Bor (List ℕ))) (start size : ℕ) → AreShort (lists_of packets) → AreShort (lists_of (take size (drop start packets)))
short_part packets start size short =
    subst AreShort (sym (lists_take size (drop start packets) ∙ ap (take size) (lists_drop start packets))) (short_take size (drop start (lists_of packets)) (short_drop start (lists_of packets) short))

-- a slice from a place to the end
pub rest_is : (packets : List (Bor (List ℕ))) (start : ℕ) → take (length packets - start) (drop start packets) ≡ drop start packets
rest_is packets start = take_all (length packets - start) (drop start packets) (omega (arith, length-drop start packets))
