-- The output of a sender keeps the budget, and is a RED payload.
use Rattle.std.proofs.Common.{◌≡◌, ℕ, suc, ◌+◌, ◌%◌, ◌-◌, ◌<◌, ◌≤◌, List, [], ◌∷◌, ◌++◌, length, reverse, Option, Some, None, true, leb, refl, ap, arith, inl, inr, length-append, append_assoc}
use Rattle.std.proofs.lemmas.Bool.{and_parts, cases_Bool, leb-true, lt-ltb}
use Rattle.std.specs.Prelude.{sum_by}
use Rattle.std.specs.List.{flat_map, cons_option, AllByRecursion}
use Rattle.std.specs.Option.{option_and_then}
use Rattle.std.proofs.lemmas.List.{length-reverse}
use Rattle.std.specs.Prelude.{IfSome}
use Rattle.std.proofs.lemmas.Grind.{reverse_onto}
use Rattle.std.proofs.lemmas.List.Sums.{sum_by_push, sum_by-cons}
use Rattle.codec_payload_red.specs.RedPayload.{Redundant, Red, HasHeader, IsRed, fits, header, spelling}
use Rattle.codec_payload_red.specs.RedLevels.{is_accepted, cost, back, as_block, level, levels, offset_of, kept, wrapped, output, Sender, Entry}
use Rattle.codec_payload_red.proofs.SenderHistoryLemmas.{accepted_few}
use Rattle.codec_payload_red.proofs.LongestLevelsLemmas.{within_fits, within_begins}

-- ---- how long the output is

length_parts : (bs : List Redundant) → length (flat_map header bs) + length (flat_map (λ (b : Redundant). b.bytes) bs) ≡ sum_by cost bs
length_parts [] = refl
length_parts (b ∷ bs) =
    let second : length (flat_map (λ (b : Redundant). b.bytes) (b ∷ bs)) ≡ length b.bytes + length (flat_map (λ (b : Redundant). b.bytes) bs) = length-append b.bytes (flat_map (λ (b : Redundant). b.bytes) bs) in
    omega (arith, length_parts bs, second, sum_by-cons cost b bs)

length_spelling : (r : Red) → length (spelling r) ≡ sum_by cost r.redundant + 1 + length r.primary
length_spelling r =
    let bytes = flat_map (λ (b : Redundant). b.bytes) r.redundant in
    omega (arith, length_parts r.redundant, length-append (flat_map header r.redundant) (r.pt ∷ (bytes ++ r.primary)), length-append bytes r.primary)

sum_reverse : (bs : List Redundant) → sum_by cost (reverse bs) ≡ sum_by cost bs
sum_reverse [] = refl
sum_reverse (b ∷ bs) = let turned : reverse (b ∷ bs) ≡ reverse bs ++ b ∷ [] = reverse_onto bs b [] in omega (arith, ap (λ t. sum_by cost t) turned, sum_by_push cost (reverse bs) b, sum_reverse bs, sum_by-cons cost b bs)

pub output_bounded : (s : Sender) (payload : List ℕ) (time budget : ℕ) (items : List ℕ) → items ≡ output s payload time budget → length payload < budget → length items ≤ budget
output_bounded s payload time budget items e room =
    let is : items ≡ spelling (wrapped s payload time budget) = rw (lt-ltb (length payload) budget room) at e in
    omega (arith, ap length is, length_spelling (wrapped s payload time budget), sum_reverse (kept s (length payload) time budget), within_fits (budget - length payload - 1) (levels (s.primary_pt % 128) time s.history s.distances))

-- ---- the output is a payload

all_append : {X : Type 0} (P : X → Type 0) (xs ys : List X) → AllByRecursion P xs → AllByRecursion P ys → AllByRecursion P (xs ++ ys)
all_append P [] ys all more = more
all_append P (x ∷ xs) ys all more = (all.0, all_append P xs ys all.1 more)

all_reverse : {X : Type 0} (P : X → Type 0) (xs : List X) → AllByRecursion P xs → AllByRecursion P (reverse xs)
all_reverse P [] all = tt
all_reverse P (x ∷ xs) all = rw (reverse_onto xs x []) (all_append P (reverse xs) (x ∷ []) (all_reverse P xs all.1) (all.0, tt))

block_has : (pt now : ℕ) (e : Entry) → pt < 128 → IfSome (as_block pt now e) HasHeader
block_has pt now e small =
    let b : Redundant = record { pt = pt; offset = offset_of now e.time; bytes = e.bytes } in
    elim (cases_Bool (fits b)) [
      | inl fit ↦
          let parts = and_parts (leb (offset_of now e.time) 16383) (leb (length e.bytes) 1023) fit in
          rw fit record { pt = small; offset = leb-true (offset_of now e.time) 16383 parts.0; bytes = leb-true (length e.bytes) 1023 parts.1 }
      | inr unfit ↦ rw unfit tt
    ]

level_has : (pt now : ℕ) (o : Option Entry) → pt < 128 → IfSome (option_and_then (as_block pt now) o) HasHeader
level_has pt now None small = tt
level_has pt now (Some e) small = block_has pt now e small

all_cons : (o : Option Redundant) (bs : List Redundant) → IfSome o HasHeader → AllByRecursion HasHeader bs → AllByRecursion HasHeader (cons_option o bs)
all_cons None bs one all = all
all_cons (Some b) bs one all = (one, all)

length_cons : (o : Option Redundant) (bs : List Redundant) → length (cons_option o bs) ≤ suc (length bs)
length_cons None bs = omega arith
length_cons (Some b) bs = omega arith

levels_have : (pt now : ℕ) (history : List Entry) (ds : List ℕ) → pt < 128 → AllByRecursion HasHeader (levels pt now history ds)
unfolding levels
levels_have pt now history [] small = tt
levels_have pt now history (d ∷ ds) small = all_cons (level pt now history d) (levels pt now history ds) (level_has pt now (back history d) small) (levels_have pt now history ds small)

levels_few : (pt now : ℕ) (history : List Entry) (ds : List ℕ) → length (levels pt now history ds) ≤ length ds
unfolding levels
levels_few pt now history [] = omega arith
levels_few pt now history (d ∷ ds) = omega (arith, length_cons (level pt now history d) (levels pt now history ds), levels_few pt now history ds)

begins_have : (bs front rest : List Redundant) → bs ≡ front ++ rest → AllByRecursion HasHeader bs → AllByRecursion HasHeader front
begins_have bs [] rest e all = tt
begins_have [] (f ∷ front) rest e all = cc
begins_have (b ∷ bs) (f ∷ front) rest e all =
    let first : b ≡ f = cc in
    let more : bs ≡ front ++ rest = cc in
    (rw (← first) all.0, begins_have bs front rest more all.1)

wrapped_is_red : (s : Sender) (payload : List ℕ) (time budget : ℕ) → is_accepted s.distances ≡ true → IsRed (spelling (wrapped s payload time budget)) (wrapped s payload time budget)
wrapped_is_red s payload time budget ok =
    let small : s.primary_pt % 128 < 128 = omega arith in
    let all = levels (s.primary_pt % 128) time s.history s.distances in
    let begins = within_begins (budget - length payload - 1) all in
    record {
      each = all_reverse HasHeader (kept s (length payload) time budget) (begins_have all (kept s (length payload) time budget) begins.0 begins.1 (levels_have (s.primary_pt % 128) time s.history s.distances small));
      few = omega (arith, length-reverse (kept s (length payload) time budget), ap length begins.1, length-append (kept s (length payload) time budget) begins.0, levels_few (s.primary_pt % 128) time s.history s.distances, accepted_few s.distances ok);
      pt = small;
      is = refl;
    }

pub output_is_red : (s : Sender) (payload : List ℕ) (time budget : ℕ) (items : List ℕ) → is_accepted s.distances ≡ true → items ≡ output s payload time budget → length payload < budget → IsRed items (wrapped s payload time budget)
output_is_red s payload time budget items ok e some =
    let is : items ≡ spelling (wrapped s payload time budget) = rw (lt-ltb (length payload) budget some) at e in
    rw is (wrapped_is_red s payload time budget ok)

pub appended_in_order : (kept : List Redundant) (pt : ℕ) (primary before heads mid bytes all : List ℕ) → heads ≡ before ++ flat_map header kept → mid ≡ heads ++ pt ∷ [] → bytes ≡ mid ++ flat_map (λ b. b.bytes) kept → all ≡ bytes ++ primary
    → all ≡ before ++ spelling (record { redundant = kept; pt = pt; primary = primary })
appended_in_order kept pt primary before heads mid bytes all b c d e = rw (e, d, c, b) (simp append_assoc)
