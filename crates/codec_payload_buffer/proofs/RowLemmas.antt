-- The packets of a frame stand together in the list.
use Rattle.std.proofs.Common.{◌≡◌, ℕ, ◌<◌, ◌≤◌, ◌+◌, [], ◌∷◌, ◌++◌, List, length, reverse, refl, ap, sym, ◌∙◌, arith, true, false, cond, Some, None, append_assoc}
use Rattle.std.proofs.lemmas.List.{reverse-append}
use Rattle.std.proofs.lemmas.Bool.Decides.{nat_tests}
use Rattle.codec_payload_buffer.specs.declared.buffer.frames.CompleteFrame.{CompleteFrame}
use Rattle.codec_payload_buffer.specs.Held.{Held, Rises, AllAbove, between, above}
use Rattle.codec_payload_buffer.specs.Frames.{frames_after, ended_at, lowest_head, row_before, leads_to, start_or_here, is_same_time}
use Rattle.codec_payload_base.specs.Time.{Time}
use Rattle.codec_payload_buffer.proofs.FrameParts.{IsRun, BeginsWithHead, IsPart}
use Rattle.codec_payload_buffer.specs.Scan.{first_of}
use Rattle.codec_payload_codec.proofs.CaseLemmas.{by_test, by_option}

-- the effect of a row that begins at a head
record RowSplit (earlier : List Held) (row : List Held) (n last : ℕ) (time : Time) : Type 0 where
  before : List Held
  packets : List Held
  whole : reverse earlier ++ row ≡ before ++ packets
  run : IsRun n last time packets
  begins : BeginsWithHead packets

-- two times of the same number and rate
pub same_time : (s t : Time) → is_same_time s t ≡ true → s ≡ t
same_time s t h =
    let numer : s.numer ≡ t.numer = grind (arith, nat_tests, h) in
    let rate : s.rate ≡ t.rate = grind (arith, nat_tests, h) in
    ap (λ (k : ℕ). with_parts k s.rate) numer ∙ ap (with_parts t.numer) rate
  where
    with_parts : ℕ → ℕ → Time
    with_parts k r = record { numer = k; rate = r }

-- a time is the same as itself
pub same_time_self : (t : Time) → is_same_time t t ≡ true
same_time_self t = grind (arith, nat_tests)

pub leads_parts : (e q : Held) → leads_to e q ≡ true → record { next : e.meta.seq_no.0 + 1 ≡ q.meta.seq_no.0; same : e.meta.time ≡ q.meta.time; no_tail : e.tail ≡ false }
leads_parts e q h = record { next = grind (arith, nat_tests, h); same = same_time e.meta.time q.meta.time (grind (arith, h)); no_tail = grind (arith, nat_tests, h) }

-- and from these parts
pub leads_from : (e q : Held) → e.meta.seq_no.0 + 1 ≡ q.meta.seq_no.0 → e.meta.time ≡ q.meta.time → e.tail ≡ false → leads_to e q ≡ true
leads_from e q next time no_tail =
    let same : is_same_time e.meta.time q.meta.time ≡ true = ap (λ (t : Time). is_same_time e.meta.time t) (sym time) ∙ same_time_self e.meta.time in
    grind (arith, nat_tests, next, same, no_tail)

pub run_time : (q : Held) (acc : List Held) (first last : ℕ) (time : Time) → IsRun first last time (q ∷ acc) → q.meta.time ≡ time
run_time q [] first last time run = run.2
run_time q (a ∷ as') first last time run = run.1

-- a row that extends back by one packet
longer_run : (e q : Held) (acc : List Held) (last : ℕ) (time : Time) → leads_to e q ≡ true → IsRun q.meta.seq_no.0 last time (q ∷ acc) → IsRun e.meta.seq_no.0 last time (e ∷ q ∷ acc)
longer_run e q acc last time leads run =
    let parts = leads_parts e q leads in
    (refl, parts.same ∙ run_time q acc q.meta.seq_no.0 last time run, parts.no_tail, rw parts.next run)

starts_here : (q : Held) (n : ℕ) → start_or_here None q ≡ Some n → (q.head ≡ true) × (q.meta.seq_no.0 ≡ n)
starts_here q n low =
    by_test q.head (λ b. cond b (Some q.meta.seq_no.0) None ≡ Some n → (b ≡ true) × (q.meta.seq_no.0 ≡ n)) (λ e low. (refl, cc)) (λ e low. absurd (cc)) low

-- here the row begins
here : (q : Held) (acc earlier : List Held) (n last : ℕ) (time : Time) → start_or_here None q ≡ Some n → IsRun q.meta.seq_no.0 last time (q ∷ acc) → RowSplit earlier (q ∷ acc) n last time
here q acc earlier n last time low run =
    let starts = starts_here q n low in
    record { before = reverse earlier; packets = q ∷ acc; whole = refl; run = rw (← starts.1) run; begins = starts.0 }

row_split : (q : Held) (acc earlier : List Held) (n last : ℕ) (time : Time) → lowest_head (q ∷ row_before q earlier) ≡ Some n
    → IsRun q.meta.seq_no.0 last time (q ∷ acc) → RowSplit earlier (q ∷ acc) n last time
row_split q acc [] n last time low run = here q acc [] n last time low run
row_split q acc (e ∷ es) n last time low run =
    by_test (leads_to e q) (λ b. lowest_head (q ∷ cond b (e ∷ row_before e es) []) ≡ Some n → RowSplit (e ∷ es) (q ∷ acc) n last time)
    (λ leads. by_option (lowest_head (e ∷ row_before e es)) (λ o. start_or_here o q ≡ Some n → RowSplit (e ∷ es) (q ∷ acc) n last time)
    (λ none low. here q acc (e ∷ es) n last time low run)
    (λ m is low.
    let longer = row_split e (q ∷ acc) es n last time (is ∙ low) (longer_run e q acc last time leads run) in
    record {
      before = longer.before;
      packets = longer.packets;
      whole = ap (λ (zs : List Held). zs ++ q ∷ acc) (reverse-append (e ∷ []) es) ∙ append_assoc (reverse es) (e ∷ []) (q ∷ acc) ∙ longer.whole;
      run = longer.run;
      begins = longer.begins;
    }))
    (λ no low. here q acc (e ∷ es) n last time low run)
    low

-- the first of the frames that end in `later`
pub first_split : (earlier later : List Held) (f : CompleteFrame) → first_of (frames_after earlier later) ≡ Some f → (packets after : List Held) × IsPart (reverse earlier ++ later) f packets after
first_split earlier [] f h = absurd (cc)
first_split earlier (p ∷ later) f h =
    let on : first_of (frames_after (p ∷ earlier) later) ≡ Some f → (packets after : List Held) × IsPart (reverse earlier ++ p ∷ later) f packets after = λ h.
    let rest = first_split (p ∷ earlier) later f h in
    let part = rest.2 in (
      rest.0,
      rest.1,
      record {
        before = part.before;
        whole = sym (ap (λ (zs : List Held). zs ++ later) (reverse-append (p ∷ []) earlier) ∙ append_assoc (reverse earlier) (p ∷ []) later) ∙ part.whole;
        time = part.time;
        run = part.run;
        begins = part.begins;
      },
    ) in
    by_test p.tail (λ b. first_of (cond b (ended_at p (lowest_head (p ∷ row_before p earlier))) [] ++ frames_after (p ∷ earlier) later) ≡ Some f
    → (packets after : List Held) × IsPart (reverse earlier ++ p ∷ later) f packets after)
    (λ tail. by_option (lowest_head (p ∷ row_before p earlier)) (λ o. first_of (ended_at p o ++ frames_after (p ∷ earlier) later) ≡ Some f
    → (packets after : List Held) × IsPart (reverse earlier ++ p ∷ later) f packets after)
    (λ none h. on h)
    (λ n is h.
    let frame : CompleteFrame = record { first = n; last = p.meta.seq_no.0 } in
    let e : frame ≡ f = cc in
    let split = row_split p [] earlier n p.meta.seq_no.0 p.meta.time is (refl, refl, refl, tail) in (
      split.packets,
      later,
      record {
        before = split.before;
        whole = sym (append_assoc (reverse earlier) (p ∷ []) later) ∙ ap (λ (zs : List Held). zs ++ later) split.whole ∙ append_assoc split.before split.packets later;
        time = p.meta.time;
        run = rw (← e) split.run;
        begins = split.begins;
      },
    )))
    (λ no h. on h)
    h

-- a frame of rising packets: its packets, and those above it
pub above_all : (n : ℕ) (xs ys : List Held) → AllAbove n (xs ++ ys) → AllAbove n ys
above_all n [] ys a = a
above_all n (x ∷ xs) ys a = above_all n xs ys a.1

rises_back : (xs ys : List Held) → Rises (xs ++ ys) → Rises ys
rises_back [] ys r = r
rises_back (x ∷ xs) ys r = rises_back xs ys r.1

pub first_above : (n : ℕ) (packets after : List Held) (first last : ℕ) (time : Time) → IsRun first last time packets → AllAbove n (packets ++ after) → n < first
first_above n [] after first last time run a = absurd run
first_above n (p ∷ []) after first last time run a = omega (arith, a.0, run.0)
first_above n (p ∷ q ∷ ps) after first last time run a = omega (arith, a.0, run.0)

pub first_le_last : (packets : List Held) (first last : ℕ) (time : Time) → IsRun first last time packets → first ≤ last
first_le_last [] first last time run = absurd run
first_le_last (p ∷ []) first last time run = omega (arith, run.0, run.1)
first_le_last (p ∷ q ∷ ps) first last time run = omega (arith, first_le_last (q ∷ ps) (first + 1) last time run.3)

pub none_between : (first last n : ℕ) (hs : List Held) → last ≤ n → AllAbove n hs → between first last hs ≡ []
none_between first last n [] l a = refl
none_between first last n (p ∷ ps) l a = grind (arith, nat_tests, none_between first last n ps l a.1, a.0)

pub all_above : (last : ℕ) (hs : List Held) → AllAbove last hs → above last hs ≡ hs
all_above last [] a = refl
all_above last (p ∷ ps) a = grind (arith, nat_tests, all_above last ps a.1, a.0)

run_between : (low first last : ℕ) (time : Time) (packets after : List Held) → low ≤ first → IsRun first last time packets → Rises (packets ++ after)
    → record { inside : between low last (packets ++ after) ≡ packets; beyond : above last (packets ++ after) ≡ after }
run_between low first last time [] after l run r = absurd run
run_between low first last time (p ∷ []) after l run r =
    let none = none_between low last p.meta.seq_no.0 after (omega (arith, run.1)) r.0 in
    let all = all_above last after (rw (← run.1) r.0) in
    record { inside = grind (arith, nat_tests, none, run.0, run.1); beyond = grind (arith, nat_tests, all, run.1) }
run_between low first last time (p ∷ q ∷ ps) after l run r =
    let rest = run_between low (first + 1) last time (q ∷ ps) after (omega arith) run.3 r.1 in
    let le = first_le_last (q ∷ ps) (first + 1) last time run.3 in
    record { inside = grind (arith, nat_tests, rest.inside, run.0, le); beyond = grind (arith, nat_tests, rest.beyond, run.0, le) }

pub part_between : (before packets after : List Held) (first last : ℕ) (time : Time) → IsRun first last time packets → Rises (before ++ (packets ++ after))
    → record { inside : between first last (before ++ (packets ++ after)) ≡ packets; beyond : above last (before ++ (packets ++ after)) ≡ after }
part_between [] packets after first last time run r = run_between first first last time packets after (omega arith) run r
part_between (b ∷ bs) packets after first last time run r =
    let rest = part_between bs packets after first last time run r.1 in
    let low = first_above b.meta.seq_no.0 packets after first last time run (above_all b.meta.seq_no.0 bs (packets ++ after) r.0) in
    let le = first_le_last packets first last time run in
    record { inside = grind (arith, nat_tests, rest.inside, low); beyond = grind (arith, nat_tests, rest.beyond, low, le) }

pub run_first : (p : Held) (ps : List Held) (first last : ℕ) (time : Time) → IsRun first last time (p ∷ ps) → p.meta.seq_no.0 ≡ first
run_first p [] first last time run = run.0
run_first p (q ∷ ps) first last time run = run.0

pub run_length : (ps : List Held) (first last : ℕ) (time : Time) → IsRun first last time ps → last + 1 ≡ first + length ps
run_length [] first last time run = absurd run
run_length (p ∷ []) first last time run = omega (arith, run.0, run.1)
run_length (p ∷ q ∷ ps) first last time run = omega (arith, run_length (q ∷ ps) (first + 1) last time run.3)
