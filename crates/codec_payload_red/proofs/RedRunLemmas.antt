-- Consecutive packets from one sender without history: each payload carries payloads that were sent before it.
use Rattle.std.proofs.Common.{◌≡◌, ℕ, zero, suc, ◌+◌, ◌-◌, ◌*◌, ◌/◌, ◌%◌, ◌^◌, ◌<◌, ◌≤◌, ◌⊎◌, inl, inr, List, [], ◌∷◌, ◌++◌, length, take, map, reverse, Option, Some, None, true, false, ltb, leb, ◌&&◌, ◌==◌, refl, sym, ap, ◌∙◌, subst, arith, append_assoc}
use Rattle.std.specs.Prelude.{slice_get, Contains}
use Rattle.std.proofs.lemmas.Option.{slice_get_within}
use Rattle.std.proofs.lemmas.List.Elements.{filter_map-append}
use Rattle.std.specs.List.{AllByRecursion, cons_option, filter_map}
use Rattle.std.specs.Option.{option_and_then}
use Rattle.std.proofs.lemmas.Bool.{and_parts, cases_Bool, leb-true, cases_lt, lt-ltb, le-ltb, le-leb}
use Rattle.std.proofs.lemmas.Bool.Decides.{nat_tests}
use Rattle.std.proofs.lemmas.Grind.{reverse_onto}
use Rattle.std.proofs.lemmas.List.{append-nil, length-take-le}
use Rattle.std.proofs.Math.Nat.{add-mul, mul-mod_left, mul-div_left, mul-le-mul_right, le-mul_of_pos_right}
use Rattle.codec_payload_red.specs.RedBlocks.{Block, older}
use Rattle.codec_payload_red.specs.RedLevels.{Entry, Sender, is_accepted, rises_above, deepest, back, offset_of, as_block, level, levels, levels_of, within, cost, room_of, kept, wrapped, output, recorded}
use Rattle.codec_payload_red.specs.RedPayload.{Redundant, fits}
use Rattle.codec_payload_red.proofs.RedGrammarLemmas.{reads_spelled}
use Rattle.codec_payload_red.proofs.SenderOutputLemmas.{output_is_red}
use Rattle.codec_payload_red.specs.RedReading.{red_at}
use Rattle.codec_payload_red.specs.RedRecovery.{Receiver, RecoveredPacket, recovered_from, recovered}
use Rattle.codec_payload_red.specs.RedRun.{sender_after, sender_at, AreStepApart, IsPacketAt, IsCarried, IsKeptIn, AreOfSent, RecoversSent}

-- ---- the sender after some wraps

same_primary : (s : Sender) (es : List Entry) → (sender_after s es).primary_pt ≡ s.primary_pt
same_primary s [] = refl
same_primary s (e ∷ es) = same_primary (recorded s e.bytes e.time) es

pub same_distances : (s : Sender) (es : List Entry) → (sender_after s es).distances ≡ s.distances
same_distances s [] = refl
same_distances s (e ∷ es) = same_distances (recorded s e.bytes e.time) es

take_less : {X : Type 0} (n m : ℕ) (zs : List X) → n ≤ m → take n (take m zs) ≡ take n zs
take_less zero m zs le = refl
take_less (suc n) zero zs le = absurd (omega (arith, le))
take_less (suc n) (suc m) [] le = refl
take_less (suc n) (suc m) (z ∷ zs) le = ap (λ t. z ∷ t) (take_less n m zs (omega (arith, le)))

take_behind : {X : Type 0} (n m : ℕ) (ys zs : List X) → n ≤ m → take n (ys ++ take m zs) ≡ take n (ys ++ zs)
take_behind n m [] zs le = take_less n m zs le
take_behind zero m (y ∷ ys) zs le = refl
take_behind (suc n) m (y ∷ ys) zs le = ap (λ t. y ∷ t) (take_behind n m ys zs (omega (arith, le)))

-- the history holds the newest wrapped payloads, newest first, before its old contents
history_after : (s : Sender) (es : List Entry) → take (deepest s.distances) s.history ≡ s.history → (sender_after s es).history ≡ take (deepest s.distances) (reverse es ++ s.history)
history_after s [] small = sym small
history_after s (e ∷ es) small =
    let n = deepest s.distances in
    let x : Entry = record { bytes = e.bytes; time = e.time } in
    history_after (recorded s e.bytes e.time) es (take_less n n (x ∷ s.history) (omega arith))
    ∙ (take_behind n n (reverse es) (x ∷ s.history) (omega arith) ∙ ap (λ t. take n t) (sym (ap (λ t. t ++ s.history) (reverse_onto es e []) ∙ append_assoc (reverse es) (e ∷ []) s.history)))

take_none : (n : ℕ) → take {A = Entry} n [] ≡ []
take_none zero = refl
take_none (suc n) = refl

-- after some wraps from a fresh sender the history is the newest of them, newest first
history_is : (s : Sender) (es : List Entry) → s.history ≡ [] → (sender_after s es).history ≡ take (deepest s.distances) (reverse es)
history_is s es fresh =
    history_after s es (rw fresh (take_none (deepest s.distances))) ∙ ap (λ t. take (deepest s.distances) t) (ap (λ t. reverse es ++ t) fresh ∙ append-nil (reverse es))

slice_take : {X : Type 0} (n : ℕ) (xs : List X) (i : ℕ) (x : X) → slice_get (take n xs) i ≡ Some x → slice_get xs i ≡ Some x
slice_take zero xs i x h = absurd (cc)
slice_take (suc n) [] i x h = absurd (cc)
slice_take (suc n) (y ∷ xs) zero x h = h
slice_take (suc n) (y ∷ xs) (suc i) x h = slice_take n xs i x h

-- the payload i back in the history was wrapped i before the last, or was in the old history
entry_back : (s : Sender) (es : List Entry) (i : ℕ) (e : Entry) → slice_get (sender_after s es).history i ≡ Some e
    → ((j : ℕ) × (j + i + 1 ≡ length es) × (slice_get es j ≡ Some e)) ⊎ ((m : ℕ) × (i ≡ m + length es) × (slice_get s.history m ≡ Some e))
entry_back s [] i e h = inr (i, omega arith, h)
entry_back s (x ∷ xs) i e h = elim (entry_back (recorded s x.bytes x.time) xs i e h) [
  | inl (j, at, there) ↦ inl (suc j, omega (arith, at), there)
  | inr (m, at, there) ↦ first m at (slice_take (deepest s.distances) (record { bytes = x.bytes; time = x.time } ∷ s.history) m e there)
]
  where
    first : (m : ℕ) → i ≡ m + length xs → slice_get (record { bytes = x.bytes; time = x.time } ∷ s.history) m ≡ Some e
        → ((j : ℕ) × (j + i + 1 ≡ length (x ∷ xs)) × (slice_get (x ∷ xs) j ≡ Some e)) ⊎ ((m : ℕ) × (i ≡ m + length (x ∷ xs)) × (slice_get s.history m ≡ Some e))
    first zero at there = inl (0, omega (arith, at), there)
    first (suc m) at there = inr (m, omega (arith, at), there)

-- the payload d back from packet k is the payload of packet k - d
sent_back : (s : Sender) (sent : List Entry) (k d : ℕ) (e : Entry) → s.history ≡ [] → k ≤ length sent → back (sender_after s (take k sent)).history d ≡ Some e
    → (j : ℕ) × (j + d ≡ k) × (0 < d) × (slice_get sent j ≡ Some e)
sent_back s sent k zero e fresh le h = absurd (cc)
sent_back s sent k (suc d) e fresh le h = elim (entry_back s (take k sent) d e h) [
  | inl (j, at, there) ↦ (j, omega (arith, at, length-take-le k sent le), omega arith, slice_take k sent j e there)
  | inr (m, at, there) ↦ absurd (never m (subst (λ (es : List Entry). slice_get es m ≡ Some e) fresh there))
]
  where
    never : (m : ℕ) → slice_get {X = Entry} [] m ≡ Some e → ⊥
    never m h = cc

-- ---- times

modulo_on : (a b : ℕ) → (a % 2 ^ 32 + b) % 2 ^ 32 ≡ (a + b) % 2 ^ 32
modulo_on a b = omega arith

-- the time of the packet of index i
time_at : (step time : ℕ) (es : List Entry) (i : ℕ) (e : Entry) → time < 2 ^ 32 → AreStepApart step time es → slice_get es i ≡ Some e → e.time ≡ (time + i * step) % 2 ^ 32
time_at step time [] i e low apart h = absurd (cc)
time_at step time (x ∷ xs) zero e low apart h =
    let same : x ≡ e = cc in
    omega (arith, ap (λ (y : Entry). y.time) same, apart.0, low)
time_at step time (x ∷ xs) (suc i) e low apart h =
    let next : (time + step) % 2 ^ 32 < 2 ^ 32 = omega arith in
    time_at step ((time + step) % 2 ^ 32) xs i e next apart.1 h ∙ (modulo_on (time + step) (i * step) ∙ ap (λ n. n % 2 ^ 32) sum)
  where
    sum : time + step + i * step ≡ time + suc i * step
    sum = omega arith

-- the offset of a packet a number of ticks earlier
offset_is : (a b now then : ℕ) → b < 2 ^ 32 → now ≡ (a + b) % 2 ^ 32 → then ≡ a % 2 ^ 32 → offset_of now then ≡ b
offset_is a b now then small e f = rw (e, f) (omega (arith, small))

-- and back
time_back : (a b now : ℕ) → b < 2 ^ 32 → now ≡ (a + b) % 2 ^ 32 → (now + (2 ^ 32 - b)) % 2 ^ 32 ≡ a % 2 ^ 32
time_back a b now small e = rw e (omega (arith, small))

eight_steps : (d step : ℕ) → d ≤ 8 → step ≤ 16383 → d * step < 2 ^ 32
eight_steps d step few short =
    let a : d * step ≤ 8 * step = mul-le-mul_right step few in
    omega (arith, a, short)

-- ---- membership

abbrev IsAmong : {X : Type 0} → X → List X → Type 0
IsAmong x [] = ⊥
IsAmong x (y ∷ ys) = (x ≡ y) ⊎ IsAmong x ys

in_contains : {X : Type 0} (x : X) (xs : List X) → Contains xs x → IsAmong x xs
in_contains x [] (k, l, e) = absurd (omega arith)
in_contains x (y ∷ ys) (zero, l, e) = inl (sym e)
in_contains x (y ∷ ys) (suc k, l, e) = inr (in_contains x ys (k, omega arith, e))

contains_in : {X : Type 0} (x : X) (xs : List X) → IsAmong x xs → Contains xs x
contains_in x [] h = absurd h
contains_in x (y ∷ ys) (inl e) = (0, omega arith, sym e)
contains_in x (y ∷ ys) (inr h) = let r = contains_in x ys h in (suc r.0, omega (arith, r.1), r.2)

in_left : {X : Type 0} (x : X) (xs ys : List X) → IsAmong x xs → IsAmong x (xs ++ ys)
in_left x [] ys h = absurd h
in_left x (z ∷ xs) ys (inl e) = inl e
in_left x (z ∷ xs) ys (inr h) = inr (in_left x xs ys h)

in_right : {X : Type 0} (x : X) (xs ys : List X) → IsAmong x ys → IsAmong x (xs ++ ys)
in_right x [] ys h = h
in_right x (z ∷ xs) ys h = inr (in_right x xs ys h)

in_reverse : {X : Type 0} (x : X) (xs : List X) → IsAmong x xs → IsAmong x (reverse xs)
in_reverse x [] h = absurd h
in_reverse x (y ∷ ys) (inl e) = rw (reverse_onto ys y []) (in_right x (reverse ys) (y ∷ []) (inl e))
in_reverse x (y ∷ ys) (inr h) = rw (reverse_onto ys y []) (in_left x (reverse ys) (y ∷ []) (in_reverse x ys h))

-- ---- levels

-- the facts about a level: the payload a number of packets back, as a block that fits
record IsLevel (pt now : ℕ) (o : Option Entry) (b : Redundant) : Type 0 where
  entry : Entry
  is : o ≡ Some entry
  pt_is : b.pt ≡ pt
  offset : b.offset ≡ offset_of now entry.time
  bytes : b.bytes ≡ entry.bytes
  low : b.offset ≤ 16383

level_of_entry : (pt now : ℕ) (e : Entry) (b : Redundant) → as_block pt now e ≡ Some b → IsLevel pt now (Some e) b
level_of_entry pt now e b h =
    let c : Redundant = record { pt = pt; offset = offset_of now e.time; bytes = e.bytes } in
    elim (cases_Bool (fits c)) [
      | inl fit ↦
          let there : Some c ≡ Some b = rw fit at h in
          let same : c ≡ b = cc in
          let parts = and_parts (leb (offset_of now e.time) 16383) (leb (length e.bytes) 1023) fit in
          record {
            entry = e;
            is = refl;
            pt_is = sym (ap (λ (x : Redundant). x.pt) same);
            offset = sym (ap (λ (x : Redundant). x.offset) same);
            bytes = sym (ap (λ (x : Redundant). x.bytes) same);
            low = omega (arith, leb-true (offset_of now e.time) 16383 parts.0, ap (λ (x : Redundant). x.offset) same);
          }
      | inr unfit ↦ let none : None ≡ Some b = rw unfit at h in absurd (cc)
    ]

level_is : (pt now : ℕ) (o : Option Entry) (b : Redundant) → option_and_then (as_block pt now) o ≡ Some b → IsLevel pt now o b
level_is pt now None b h = absurd (cc)
level_is pt now (Some e) b h = level_of_entry pt now e b h

-- a block is the level of one of the distances
abbrev IsLevelOf : List ℕ → ℕ → ℕ → List Entry → Redundant → Type 0
IsLevelOf ds pt now history b = (d : ℕ) × IsAmong d ds × (level pt now history d ≡ Some b)

module _ (all : List ℕ) (pt now : ℕ) (history : List Entry) where
  level_each : (d : ℕ) (o : Option Redundant) (bs : List Redundant) → IsAmong d all → level pt now history d ≡ o → AllByRecursion (IsLevelOf all pt now history) bs → AllByRecursion (IsLevelOf all pt now history) (cons_option o bs)
  level_each d None bs one is each = each
  level_each d (Some b) bs one is each = ((d, one, is), each)

  levels_each : (ds : List ℕ) → ((d : ℕ) → IsAmong d ds → IsAmong d all) → AllByRecursion (IsLevelOf all pt now history) (levels pt now history ds)
  unfolding levels
  levels_each [] some = tt
  levels_each (d ∷ ds) some = level_each d (level pt now history d) (levels pt now history ds) (some d (inl refl)) refl (levels_each ds (λ c is. some c (inr is)))

-- an accepted distance is at most 8
rises_each : (low : ℕ) (ds : List ℕ) (d : ℕ) → rises_above low ds ≡ true → IsAmong d ds → d ≤ 8
rises_each low [] d h is = absurd is
rises_each low (c ∷ ds) d h is =
    let (both, rest) = and_parts (ltb low c && leb c 8) (rises_above c ds) h in
    let (above, most) = and_parts (ltb low c) (leb c 8) both in
    elim is [ inl e ↦ omega (arith, leb-true c 8 most, e) | inr more ↦ rises_each c ds d rest more ]

all_append : {X : Type 0} (P : X → Type 0) (xs ys : List X) → AllByRecursion P xs → AllByRecursion P ys → AllByRecursion P (xs ++ ys)
all_append P [] ys all more = more
all_append P (x ∷ xs) ys all more = (all.0, all_append P xs ys all.1 more)

all_reverse : {X : Type 0} (P : X → Type 0) (xs : List X) → AllByRecursion P xs → AllByRecursion P (reverse xs)
all_reverse P [] all = tt
all_reverse P (x ∷ xs) all = rw (reverse_onto xs x []) (all_append P (reverse xs) (x ∷ []) (all_reverse P xs all.1) (all.0, tt))

-- a fact about each block is a fact about each kept one
within_each : (P : Redundant → Type 0) (room : ℕ) (bs : List Redundant) → AllByRecursion P bs → AllByRecursion P (within room bs)
unfolding within
within_each P room [] all = tt
within_each P room (b ∷ bs) all = elim (cases_lt room (cost b)) [
  | inl over ↦ rw (lt-ltb room (cost b) over) tt
  | inr enough ↦ rw (le-ltb room (cost b) enough) (all.0, within_each P (room - cost b) bs all.1)
]

-- ---- a block at a receiver

-- a block a number of whole steps back is a packet
recover_older : (r : Receiver) (seq_no time d : ℕ) (b : Redundant) → 0 < r.step → b.pt ≡ r.primary_pt → b.offset ≡ d * r.step → 0 < d → d ≤ 8 → d ≤ seq_no
    → recovered_from r seq_no time (older b) ≡ Some (record { seq_no = seq_no - d; time = (time + (2 ^ 32 - b.offset)) % 2 ^ 32; bytes = b.bytes; is_primary = false })
recover_older r seq_no time d b some pt offset back few there =
    let steps : b.offset / r.step ≡ d = ap (λ n. n / r.step) offset ∙ mul-div_left d some in
    let exact : b.offset % r.step ≡ 0 = ap (λ n. n % r.step) offset ∙ mul-mod_left d r.step in
    let far : d ≤ d * r.step = le-mul_of_pos_right d some in
    let t1 : (b.pt == r.primary_pt) ≡ true = grind (arith, nat_tests, pt) in
    let t2 : ltb 0 b.offset ≡ true = grind (arith, nat_tests, far, offset, back) in
    let t3 : (b.offset % r.step == 0) ≡ true = grind (arith, nat_tests, exact) in
    let t4 : leb d 8 ≡ true = le-leb d 8 few in
    let t5 : leb d seq_no ≡ true = le-leb d seq_no there in
    rw (steps, t1, t2, t3, t4, t5) refl

-- the primary block is the packet itself
recover_primary : (r : Receiver) (seq_no time pt : ℕ) (bytes : List ℕ) → pt ≡ r.primary_pt
    → recovered_from r seq_no time (record { pt = pt; timestamp_offset = 0; payload = bytes; is_primary = true }) ≡ Some (record { seq_no = seq_no; time = time; bytes = bytes; is_primary = true })
recover_primary r seq_no time pt bytes same =
    let of_type : (pt == r.primary_pt) ≡ true = grind (arith, nat_tests, same) in
    rw of_type refl

-- ---- the packets that a receiver finds in each payload

module _ (s : Sender) (r : Receiver) (budget first time : ℕ) (sent : List Entry) (fresh : s.history ≡ []) (accepted : is_accepted s.distances ≡ true) (alike : r.primary_pt ≡ s.primary_pt % 128)
    (some : 0 < r.step) (short : r.step ≤ 16383) (low : time < 2 ^ 32) (apart : AreStepApart r.step time sent) where
  -- the sender when it wraps the packet of index k
  abbrev now : ℕ → Sender
  now k = sender_at s sent k

  -- a block that is one of the packets before the packet of index k
  record IsOlder (k at_time : ℕ) (b : Redundant) : Type 0 where
    distance : ℕ
    index : ℕ
    at : index + distance ≡ k
    back : 0 < distance
    few : distance ≤ 8
    entry : Entry
    there : slice_get sent index ≡ Some entry
    pt : b.pt ≡ r.primary_pt
    offset : b.offset ≡ distance * r.step
    bytes : b.bytes ≡ entry.bytes
    carried : IsKeptIn s budget sent index k
    time_of : (at_time + (2 ^ 32 - b.offset)) % 2 ^ 32 ≡ entry.time

  -- the level of distance d of the packet of index k is the payload of index k - d, as many steps older
  older_of_level : (k : ℕ) (e : Entry) (b : Redundant) (d : ℕ) → slice_get sent k ≡ Some e → IsAmong d s.distances → level ((now k).primary_pt % 128) e.time (now k).history d ≡ Some b → Contains (kept (now k) (length e.bytes) e.time budget) b → IsOlder k e.time b
  older_of_level k e b d here one_of h is_kept =
      let few = rises_each 0 s.distances d accepted one_of in
      let one = level_is ((now k).primary_pt % 128) e.time (back (now k).history d) b h in
      let within : k < length sent = slice_get_within sent k e here in
      let found = sent_back s sent k d one.entry fresh (omega (arith, within)) one.is in
      let j = found.0 in
      let then_is = time_at r.step time sent j one.entry low apart found.3 in
      let now_is = time_at r.step time sent k e low apart here in
      let sum : time + k * r.step ≡ (time + j * r.step) + d * r.step = omega (arith, add-mul j d r.step, ap (λ n. n * r.step) found.1) in
      let now_is' : e.time ≡ ((time + j * r.step) + d * r.step) % 2 ^ 32 = now_is ∙ ap (λ n. n % 2 ^ 32) sum in
      let small = eight_steps d r.step few short in
      let offset : b.offset ≡ d * r.step = one.offset ∙ offset_is (time + j * r.step) (d * r.step) e.time one.entry.time small now_is' then_is in
      record {
        distance = d;
        index = j;
        at = found.1;
        back = found.2;
        few = few;
        entry = one.entry;
        there = found.3;
        pt = one.pt_is ∙ (ap (λ n. n % 128) (same_primary s (take k sent)) ∙ sym alike);
        offset = offset;
        carried = record { distance = d; of_sender = contains_in d s.distances one_of; back = found.1; block = b; entry = e; there = here; is_level = h; is_kept = is_kept };
        bytes = one.bytes;
        time_of = ap (λ n. (e.time + (2 ^ 32 - n)) % 2 ^ 32) offset ∙ (time_back (time + j * r.step) (d * r.step) e.time small now_is' ∙ sym then_is);
      }

  older_each : (k : ℕ) (e : Entry) (bs : List Redundant) → slice_get sent k ≡ Some e → ((b : Redundant) → IsAmong b bs → IsAmong b (kept (now k) (length e.bytes) e.time budget))
      → AllByRecursion (IsLevelOf s.distances ((now k).primary_pt % 128) e.time (now k).history) bs → AllByRecursion (IsOlder k e.time) bs
  older_each k e [] here some all = tt
  older_each k e (b ∷ bs) here some all =
      let is_kept = contains_in b (kept (now k) (length e.bytes) e.time budget) (some b (inl refl)) in
      (older_of_level k e b all.0.0 here all.0.1 all.0.2 is_kept, older_each k e bs here (λ c is. some c (inr is)) all.1)

  abbrev finds : ℕ → ℕ → Block → Option RecoveredPacket
  finds k at_time = recovered_from r (first + k) at_time

  -- the packet that a block before it is
  abbrev packet_before : ℕ → ℕ → (b : Redundant) → ℕ → RecoveredPacket
  packet_before k at_time b d = record { seq_no = first + k - d; time = (at_time + (2 ^ 32 - b.offset)) % 2 ^ 32; bytes = b.bytes; is_primary = false }

  finds_older : (k at_time : ℕ) (b : Redundant) (o : IsOlder k at_time b) → finds k at_time (older b) ≡ Some (packet_before k at_time b o.distance)
  finds_older k at_time b o = recover_older r (first + k) at_time o.distance b some o.pt o.offset o.back o.few (omega (arith, o.at))

  older_is_at : (k at_time : ℕ) (b : Redundant) (o : IsOlder k at_time b) → IsPacketAt first sent (packet_before k at_time b o.distance) o.index
  older_is_at k at_time b o = record { entry = o.entry; there = o.there; number = omega (arith, o.at); time = o.time_of; bytes = o.bytes }

  sent_older : (k at_time : ℕ) (b : Redundant) (o : IsOlder k at_time b) → IsCarried s budget first sent k (packet_before k at_time b o.distance)
  sent_older k at_time b o = record {
    index = o.index;
    is_at = older_is_at k at_time b o;
    not_later = omega (arith, o.at);
    carried = inr o.carried;
    primary = let other : (o.index == k) ≡ false = grind (arith, nat_tests, o.at, o.back) in sym other;
  }

  finds_each : (k at_time : ℕ) (bs : List Redundant) (rest : List Block) → AllByRecursion (IsOlder k at_time) bs
      → AllByRecursion (IsCarried s budget first sent k) (filter_map (finds k at_time) rest)
      → AllByRecursion (IsCarried s budget first sent k) (filter_map (finds k at_time) (map older bs ++ rest))
  finds_each k at_time [] rest all more = more
  finds_each k at_time (b ∷ bs) rest all more = rw (finds_older k at_time b all.0) (sent_older k at_time b all.0, finds_each k at_time bs rest all.1 more)

  finds_one : (k at_time : ℕ) (bs : List Redundant) (rest : List Block) (b : Redundant) → AllByRecursion (IsOlder k at_time) bs → IsAmong b bs → (o : IsOlder k at_time b) → IsAmong (packet_before k at_time b o.distance) (filter_map (finds k at_time) (map older bs ++ rest))
  finds_one k at_time [] rest b all is o = absurd is
  finds_one k at_time (c ∷ bs) rest b all (inl e) o = rw (finds_older k at_time c all.0) (inl (some_is (sym (finds_older k at_time b o) ∙ (ap (λ x. finds k at_time (older x)) e ∙ finds_older k at_time c all.0))))
    where
      some_is : {X : Type 0} {x y : X} → Some x ≡ Some y → x ≡ y
      some_is h = cc
  finds_one k at_time (c ∷ bs) rest b all (inr is) o = rw (finds_older k at_time c all.0) (inr (finds_one k at_time bs rest b all.1 is o))

  kept_each : (k : ℕ) (e : Entry) → slice_get sent k ≡ Some e → AllByRecursion (IsOlder k e.time) (reverse (kept (now k) (length e.bytes) e.time budget))
  kept_each k e here =
      let blocks = kept (now k) (length e.bytes) e.time budget in
      let same = same_distances s (take k sent) in
      let all = levels_each s.distances ((now k).primary_pt % 128) e.time (now k).history (now k).distances (λ d is. subst (IsAmong d) same is) in
      let kept_levels = within_each (IsLevelOf s.distances ((now k).primary_pt % 128) e.time (now k).history) (room_of (length e.bytes) budget) (levels_of (now k) e.time) all in
      all_reverse (IsOlder k e.time) blocks (older_each k e blocks here (λ b is. is) kept_levels)

  -- the packet of index k itself
  abbrev primary_of : ℕ → Entry → RecoveredPacket
  primary_of k e = record { seq_no = first + k; time = e.time; bytes = e.bytes; is_primary = true }

  finds_primary : (k : ℕ) (e : Entry) → slice_get sent k ≡ Some e → finds k e.time (record { pt = (now k).primary_pt % 128; timestamp_offset = 0; payload = e.bytes; is_primary = true }) ≡ Some (primary_of k e)
  finds_primary k e here = recover_primary r (first + k) e.time ((now k).primary_pt % 128) e.bytes (ap (λ n. n % 128) (same_primary s (take k sent)) ∙ sym alike)

  primary_is_at : (k : ℕ) (e : Entry) → slice_get sent k ≡ Some e → IsPacketAt first sent (primary_of k e) k
  primary_is_at k e here = record { entry = e; there = here; number = refl; time = refl; bytes = refl }

  sent_primary : (k : ℕ) (e : Entry) → slice_get sent k ≡ Some e → IsCarried s budget first sent k (primary_of k e)
  sent_primary k e here = record {
    index = k;
    is_at = primary_is_at k e here;
    not_later = omega arith;
    carried = inl refl;
    primary = let same : (k == k) ≡ true = grind (arith, nat_tests) in sym same;
  }

  -- each packet that is recovered from the payload of index k was sent, with that packet or before it
  recovered_each : (k : ℕ) (e : Entry) → slice_get sent k ≡ Some e → AllByRecursion (IsCarried s budget first sent k) (recovered r (first + k) e.time (wrapped (now k) e.bytes e.time budget))
  recovered_each k e here =
      finds_each k e.time (reverse (kept (now k) (length e.bytes) e.time budget)) _ (kept_each k e here) (rw (finds_primary k e here) (sent_primary k e here, tt))

  -- the packet itself is the last of them
  recovered_last : (k : ℕ) (e : Entry) → slice_get sent k ≡ Some e
      → (others : List RecoveredPacket) × (x : RecoveredPacket) × (recovered r (first + k) e.time (wrapped (now k) e.bytes e.time budget) ≡ others ++ x ∷ []) × IsPacketAt first sent x k
  recovered_last k e here =
      let olders = map older (reverse (kept (now k) (length e.bytes) e.time budget)) in (
        filter_map (finds k e.time) olders,
        primary_of k e,
        filter_map-append (finds k e.time) olders _ ∙ ap (λ t. filter_map (finds k e.time) olders ++ t) (rw (finds_primary k e here) refl),
        primary_is_at k e here,
      )

  -- the payload in a kept level is recovered
  recovered_kept : (j k : ℕ) (e : Entry) → slice_get sent k ≡ Some e → IsKeptIn s budget sent j k
      → (x : RecoveredPacket) × Contains (recovered r (first + k) e.time (wrapped (now k) e.bytes e.time budget)) x × IsPacketAt first sent x j
  unfolding older_of_level
  recovered_kept j k e here is =
      let same : is.entry ≡ e = the_same is.there here in
      let blocks = kept (now k) (length e.bytes) e.time budget in
      let in_kept : IsAmong is.block blocks = in_contains is.block blocks (subst (λ (x : Entry). Contains (kept (now k) (length x.bytes) x.time budget) is.block) same is.is_kept) in
      let at : level ((now k).primary_pt % 128) e.time (now k).history is.distance ≡ Some is.block = subst (λ (x : Entry). level ((now k).primary_pt % 128) x.time (now k).history is.distance ≡ Some is.block) same is.is_level in
      let one_of = in_contains is.distance s.distances is.of_sender in
      let is_kept = contains_in is.block blocks in_kept in
      let older : IsOlder k e.time is.block = older_of_level k e is.block is.distance here one_of at is_kept in
      let index : older.index ≡ j = omega (arith, older.at, is.back, same_distance k e is.block is.distance here one_of at is_kept) in
      let packet = packet_before k e.time is.block older.distance in (
        packet,
        contains_in packet _ (finds_one k e.time (reverse blocks) _ is.block (kept_each k e here) (in_reverse is.block blocks in_kept) older),
        subst (λ i. IsPacketAt first sent packet i) index (older_is_at k e.time is.block older),
      )
    where
      the_same : {x y : Entry} → slice_get sent k ≡ Some x → slice_get sent k ≡ Some y → x ≡ y
      the_same a b = cc

      same_distance : (k : ℕ) (e : Entry) (b : Redundant) (d : ℕ) (here : slice_get sent k ≡ Some e) (one_of : IsAmong d s.distances) (h : level ((now k).primary_pt % 128) e.time (now k).history d ≡ Some b) (is_kept : Contains (kept (now k) (length e.bytes) e.time budget) b)
          → (older_of_level k e b d here one_of h is_kept).distance ≡ d
      same_distance k e b d here one_of h is_kept = refl

-- the output is read back as the wrapped payload
pub output_reads : (s : Sender) (payload : List ℕ) (time budget : ℕ) → is_accepted s.distances ≡ true → length payload < budget → red_at (output s payload time budget) ≡ Some (wrapped s payload time budget)
output_reads s payload time budget ok room = reads_spelled (output s payload time budget) (wrapped s payload time budget) (output_is_red s payload time budget (output s payload time budget) ok refl room)

pub fits_at : (budget : ℕ) (sent : List Entry) (k : ℕ) (e : Entry) → AllByRecursion (λ e. length e.bytes < budget) sent → slice_get sent k ≡ Some e → length e.bytes < budget
fits_at budget [] k e all here = absurd (cc)
fits_at budget (x ∷ sent) zero e all here =
    let same : x ≡ e = cc in
    subst (λ (y : Entry). length y.bytes < budget) same all.0
fits_at budget (x ∷ sent) (suc k) e all here = fits_at budget sent k e all.1 here

pub recovers_sent : RecoversSent
recovers_sent s r budget first sent given k e here packets got =
    let room : length e.bytes < budget = fits_at budget sent k e given.each_fits here in
    let accepted_at : is_accepted (sender_at s sent k).distances ≡ true = ap is_accepted (same_distances s (take k sent)) ∙ given.accepted in
    let reads = output_reads (sender_at s sent k) e.bytes e.time budget accepted_at room in
    let same : got.0 ≡ wrapped (sender_at s sent k) e.bytes e.time budget = some_is (sym got.1 ∙ reads) in
    let are : recovered r (first + k) e.time (wrapped (sender_at s sent k) e.bytes e.time budget) ≡ packets = sym (got.2 ∙ ap (recovered r (first + k) e.time) same) in
    subst (AreOfSent s budget first sent k) are (record {
      were_sent = recovered_each s r budget first given.first_time sent given.fresh given.accepted given.same_type given.some_step given.low_step given.low_time given.apart k e here;
      itself = recovered_last s r budget first given.first_time sent given.fresh given.accepted given.same_type given.some_step given.low_step given.low_time given.apart k e here;
      all_kept = λ j is. recovered_kept s r budget first given.first_time sent given.fresh given.accepted given.same_type given.some_step given.low_step given.low_time given.apart j k e here is;
    })
  where
    some_is : {X : Type 0} {x y : X} → Some x ≡ Some y → x ≡ y
    some_is h = cc
