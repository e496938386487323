-- Which numbers can become missing, or stop being missing.
use Rattle.std.proofs.Common.{◌≡◌, ◌≢◌, ◌∙◌, refl, ap, sym, subst, ℕ, List, [], ◌∷◌, Bool, true, false, length, cond, ltb, leb, eqb, arith, ◌||◌, ◌&&◌, not, Option, Some, None, drop, inl, inr, ◌++◌, ◌<◌, ◌≤◌, Result, Ok, Err}
use Rattle.std.proofs.lemmas.Bool.Decides.{nat_tests}
use Rattle.codec_payload_codec.proofs.CaseLemmas.{by_test}
use Rattle.codec_payload_metadata.specs.declared.meta.RtpMeta.{RtpMeta}
use Rattle.codec_payload_buffer.specs.Held.{AllAbove, Held, IsAboveCutoff, above, has_number, number_of, placed}
use Rattle.codec_payload_buffer.specs.Blanks.{is_right_after, passed_number}
use Rattle.codec_payload_buffer.specs.declared.buffer.frames.CompleteFrame.{CompleteFrame}
use Rattle.codec_payload_base.specs.Time.{Time}
use Rattle.codec_payload_buffer.proofs.FrameParts.{IsRun}
use Rattle.codec_payload_base.specs.declared.error.PacketError.{PacketError}
use Rattle.codec_payload_metadata.specs.Release.{Release}
use Rattle.codec_payload_buffer.proofs.PopLemmas.{order_due, part_due}
use Rattle.codec_payload_buffer.proofs.LeavingLemmas.{passes_sound}
use Rattle.codec_payload_buffer.proofs.PlaceLemmas.{placed_above_cutoff}
use Rattle.codec_payload_buffer.proofs.RowLemmas.{above_all}
use Rattle.codec_payload_buffer.specs.Steps.{IsSound, Passes, Pops, due_of, none, one_more, State, is_at_most, is_dropped, kept_to_limit, pushed, without_lowest}
use Rattle.codec_payload_buffer.proofs.StretchLemmas.{has_placed}
use Rattle.codec_payload_jitter.specs.NoMediaNumbers.{is_done, is_in, kept_few, no_media_in, no_media_left, passed_no_media}
use Rattle.codec_payload_jitter.specs.Staying.{PopChangesNone, StoreChangesOne, NoteChangesTwo, PassChangesNone, first_number}

-- a packet of another number is placed
other_placed : (m : ℕ) (p : Held) (hs : List Held) → m ≢ number_of p → has_number m (placed p hs) ≡ has_number m hs
other_placed m p hs other =
    let differ : eqb (number_of p) m ≡ false = grind (arith, nat_tests) in
    has_placed m p hs ∙ ap (λ b. b || has_number m hs) differ

-- the lowest packet leaves
other_lowest : (m : ℕ) (s : State) (hs : List Held) → hs ≡ s.held → is_at_most (without_lowest s hs).cutoff m ≡ false → has_number m (without_lowest s hs).held ≡ has_number m hs
other_lowest m s [] same above = ap (has_number m) (sym same)
other_lowest m s (p ∷ ps) same above =
    let differ : eqb (number_of p) m ≡ false = grind (arith, nat_tests, above) in
    sym (ap (λ b. b || has_number m ps) differ)

other_kept : (m : ℕ) (s : State) → is_at_most (kept_to_limit s).cutoff m ≡ false → has_number m (kept_to_limit s).held ≡ has_number m s.held
other_kept m s = by_test (ltb s.limit (length s.held)) (λ b. is_at_most (cond b (without_lowest s s.held) s).cutoff m ≡ false → has_number m (cond b (without_lowest s s.held) s).held ≡ has_number m s.held)
    (λ e above. other_lowest m s s.held refl above)
    (λ e above. refl)

other_pushed : (m : ℕ) (s : State) (p : Held) → m ≢ number_of p → is_at_most (pushed s p).cutoff m ≡ false → has_number m (pushed s p).held ≡ has_number m s.held
other_pushed m s p other = by_test (is_dropped s (number_of p))
    (λ b. is_at_most (cond b s (kept_to_limit (record s { held = placed p s.held }))).cutoff m ≡ false → has_number m (cond b s (kept_to_limit (record s { held = placed p s.held }))).held ≡ has_number m s.held)
    (λ e above. refl)
    (λ e above. other_kept m (record s { held = placed p s.held }) above ∙ other_placed m p s.held other)

pub store_changes_one : StoreChangesOne
store_changes_one rate n m a s t stored other above =
    let p = stored.0 in
    let number : number_of p ≡ n = ap (λ (meta : RtpMeta). meta.seq_no.0) stored.1.0 in
    let differ : m ≢ number_of p = λ same. other (same ∙ number) in
    let is : t ≡ pushed s p = stored.2 in
    ap (λ (x : State). has_number m x.held) is ∙ other_pushed m s p differ (ap (λ (x : State). is_at_most x.cutoff m) (sym is) ∙ above)

-- another number is put in its place
other_in : (n m : ℕ) (ns : List ℕ) → m ≢ n → is_in m (no_media_in n ns) ≡ is_in m ns
other_in n m [] other = let differ : eqb n m ≡ false = grind (arith, nat_tests) in rw differ refl
other_in n m (k ∷ ks) other =
    by_test (ltb k n) (λ b. is_in m (cond b (k ∷ no_media_in n ks) (cond (eqb k n) (k ∷ ks) (n ∷ k ∷ ks))) ≡ is_in m (k ∷ ks))
    (λ e. ap (λ b. eqb k m || b) (other_in n m ks other))
    (λ e. by_test (eqb k n) (λ b. is_in m (cond b (k ∷ ks) (n ∷ k ∷ ks)) ≡ is_in m (k ∷ ks))
    (λ same. refl)
    (λ unlike. let differ : eqb n m ≡ false = grind (arith, nat_tests) in rw differ refl))

-- the first number leaves
other_first : (m : ℕ) (ns : List ℕ) → first_number ns ≢ Some m → is_in m (drop 1 ns) ≡ is_in m ns
other_first m [] other = refl
other_first m (k ∷ ks) other =
    let unlike : k ≢ m = λ same. other (ap Some same) in
    let differ : eqb k m ≡ false = grind (arith, nat_tests) in
    sym (ap (λ b. b || is_in m ks) differ)

other_few : (m : ℕ) (ns : List ℕ) → cond (ltb 1024 (length ns)) (first_number ns) None ≢ Some m → is_in m (kept_few ns) ≡ is_in m ns
other_few m ns = by_test (ltb 1024 (length ns)) (λ b. cond b (first_number ns) None ≢ Some m → is_in m (cond b (drop 1 ns) ns) ≡ is_in m ns)
    (λ e other. other_first m ns other)
    (λ e other. refl)

pub note_changes_two : NoteChangesTwo
note_changes_two n m ns other kept = other_few m (no_media_in n ns) kept ∙ other_in n m ns other

-- the number before a cutoff
below_next : (c : Option ℕ) (m n : ℕ) → is_right_after c n ≡ true → is_at_most (Some n) m ≡ false → is_at_most c m ≡ false
below_next None m n next above = refl
below_next (Some c) m n next above = grind (arith, nat_tests, next, above)

left_of_and : (a b : Bool) → a && b ≡ true → a ≡ true
left_of_and true b h = refl
left_of_and false b h = cc

left_of_or : (a : Bool) → a || false ≡ true → a ≡ true
left_of_or true h = refl
left_of_or false h = cc

above_before : (m n : ℕ) (s : State) → is_at_most (passed_number s n).cutoff m ≡ false → is_at_most s.cutoff m ≡ false
above_before m n s = by_test (is_right_after s.cutoff n && not (has_number n s.held))
    (λ b. is_at_most (cond b (record s { cutoff = Some n }) s).cutoff m ≡ false → is_at_most s.cutoff m ≡ false)
    (λ e above. below_next s.cutoff m n (left_of_and (is_right_after s.cutoff n) (not (has_number n s.held)) e) above)
    (λ e above. above)

pub above_passed : (m : ℕ) (s : State) (ns : List ℕ) → is_at_most (passed_no_media s ns).cutoff m ≡ false → is_at_most s.cutoff m ≡ false
above_passed m s [] = λ above. above
above_passed m s (n ∷ ns) = by_test (is_done s n) (λ b. is_at_most (cond b (passed_no_media (passed_number s n) ns) s).cutoff m ≡ false → is_at_most s.cutoff m ≡ false)
    (λ e above. above_before m n s (above_passed m (passed_number s n) ns above))
    (λ e above. above)

-- a number that is passed is at or below the cutoff after that
passed_below : (n : ℕ) (s : State) → is_done s n ≡ true → is_at_most (passed_number s n).cutoff n ≡ true
passed_below n s = by_test (is_right_after s.cutoff n && not (has_number n s.held))
    (λ b. is_at_most s.cutoff n || b ≡ true → is_at_most (cond b (record s { cutoff = Some n }) s).cutoff n ≡ true)
    (λ e is_done. let here : leb n n ≡ true = grind (arith, nat_tests) in here)
    (λ e is_done. left_of_or (is_at_most s.cutoff n) is_done)

pub pass_changes_none : PassChangesNone
pass_changes_none m s [] = λ above. refl
pass_changes_none m s (n ∷ ns) = by_test (is_done s n)
    (λ b. is_at_most (cond b (passed_no_media (passed_number s n) ns) s).cutoff m ≡ false → is_in m (cond b (no_media_left (passed_number s n) ns) (n ∷ ns)) ≡ is_in m (n ∷ ns))
    (λ e above.
    let now : is_at_most (passed_number s n).cutoff m ≡ false = above_passed m (passed_number s n) ns above in
    let low : is_at_most (passed_number s n).cutoff n ≡ true = passed_below n s e in
    let unlike : n ≢ m = λ same. let both : is_at_most (passed_number s n).cutoff m ≡ true = subst (λ k. is_at_most (passed_number s n).cutoff k ≡ true) same low in absurd (cc) in
    let differ : eqb n m ≡ false = grind (arith, nat_tests) in
    pass_changes_none m (passed_number s n) ns above ∙ sym (ap (λ b. b || is_in m ns) differ))
    (λ e above. refl)

-- ---- pops

-- n is above the cutoff, if there is one
abbrev IsOver : Option ℕ → ℕ → Type 0
IsOver None n = Unit {0}
IsOver (Some c) n = c < n

over_from : (c : Option ℕ) (m : ℕ) → is_at_most c m ≡ false → IsOver c m
over_from None m above = tt
over_from (Some c) m above = grind (arith, nat_tests, above)

first_over : (c : ℕ) (packets after : List Held) (first last : ℕ) (time : Time) → IsRun first last time packets → AllAbove c (packets ++ after) → c < first
first_over c [] after first last time run a = absurd run
first_over c (p ∷ []) after first last time run a = omega (arith, a.0, run.0)
first_over c (p ∷ q ∷ ps) after first last time run a = omega (arith, a.0, run.0)

over_by : (cutoff : Option ℕ) (before packets after : List Held) (first last : ℕ) (time : Time) → IsRun first last time packets → IsAboveCutoff cutoff (before ++ (packets ++ after)) → IsOver cutoff first
over_by None before packets after first last time run a = tt
over_by (Some c) before packets after first last time run a = first_over c packets after first last time run (above_all c before (packets ++ after) a)

-- the frame that is due lies above the cutoff
due_over : (s : State) (f : CompleteFrame) → IsSound s → due_of s ≡ Some f → IsOver s.cutoff f.first
due_over s f sound due =
    let part = part_due s f due in
    over_by s.cutoff part.2.before part.0 part.1 f.first f.last part.2.time part.2.run (rw part.2.whole at sound.above)

over_less : (cutoff : Option ℕ) (m n : ℕ) → IsOver cutoff m → m ≤ n → IsOver cutoff n
over_less None m n over le = tt
over_less (Some c) m n over le = omega (arith, over, le)

has_above : (n last : ℕ) (hs : List Held) → last < n → has_number n (above last hs) ≡ has_number n hs
has_above n last [] lt = refl
has_above n last (p ∷ ps) lt =
    by_test (ltb last (number_of p)) (λ b. has_number n (cond b (p ∷ above last ps) (above last ps)) ≡ has_number n (p ∷ ps))
    (λ e. ap (λ b. eqb (number_of p) n || b) (has_above n last ps lt))
    (λ e. let differ : eqb (number_of p) n ≡ false = grind (arith, nat_tests, e, lt) in has_above n last ps lt ∙ sym (ap (λ b. b || has_number n ps) differ))

-- the frame that is due and all packets below it leave
left_has : (t u : State) (f : CompleteFrame) (m : ℕ) → IsSound t → due_of t ≡ Some f → u.held ≡ above f.last t.held → u.cutoff ≡ Some f.last → IsOver u.cutoff m
    → (has_number m u.held ≡ has_number m t.held) × IsOver t.cutoff m
left_has t u f m sound due held cut up =
    let lt : f.last < m = subst (λ (c : Option ℕ). IsOver c m) cut up in
    (ap (has_number m) held ∙ has_above m f.last t.held lt, over_less t.cutoff f.first m (due_over t f sound due) (omega (arith, lt, order_due t f due)))

passes_has : (s t : State) (over : List CompleteFrame) (m : ℕ) → Passes s over t → IsSound s → IsOver t.cutoff m → (has_number m t.held ≡ has_number m s.held) × IsOver s.cutoff m
passes_has s t over m none sound up = (refl, up)
passes_has s u over m (one_more {t = t} passes p) sound up =
    let one = left_has t u p.frame m (passes_sound s t _ passes sound) p.is_due (ap (λ (x : State). x.held) p.left) (ap (λ (x : State). x.cutoff) p.left) up in
    let before = passes_has s t _ m passes sound one.1 in
    (one.0 ∙ before.0, before.1)

over_has : (s t u : State) (over : List CompleteFrame) (f : CompleteFrame) (m : ℕ) → Passes s over t → IsSound s → due_of t ≡ Some f → u.held ≡ above f.last t.held → u.cutoff ≡ Some f.last
    → IsOver u.cutoff m → (has_number m u.held ≡ has_number m s.held) × IsOver s.cutoff m
over_has s t u over f m passes sound due held cut up =
    let one = left_has t u f m (passes_sound s t over passes sound) due held cut up in
    let before = passes_has s t over m passes sound one.1 in
    (one.0 ∙ before.0, before.1)

pops_has : (m : ℕ) (s u : State) (answer : Option (Result Release PacketError)) → IsSound s → Pops s answer u → IsOver u.cutoff m → (has_number m u.held ≡ has_number m s.held) × IsOver s.cutoff m
pops_has m s u None sound (over, (passes, rest)) up = passes_has s u over m passes sound up
pops_has m s u (Some (Ok r)) sound (over, (t, passes, takes)) up =
    over_has s t u over takes.frame m passes sound takes.is_due (ap (λ (x : State). x.held) takes.left) (ap (λ (x : State). x.cutoff) takes.left) up
pops_has m s u (Some (Err fault)) sound (over, (t, passes, inl stalls)) up =
    let before = passes_has s t over m passes sound (subst (λ (c : Option ℕ). IsOver c m) (ap (λ (x : State). x.cutoff) stalls.1.left) up) in
    (ap (λ (x : State). has_number m x.held) stalls.1.left ∙ before.0, before.1)
pops_has m s u (Some (Err fault)) sound (over, (t, passes, inr takes)) up =
    over_has s t u over takes.frame m passes sound takes.is_due (ap (λ (x : State). x.held) takes.left) (ap (λ (x : State). x.cutoff) takes.left) up

pub pop_changes_none : PopChangesNone
pop_changes_none m s t answer sound pops above = (pops_has m s t answer sound pops (over_from t.cutoff m above)).0

-- the cutoff never falls
under_from : (c : Option ℕ) (m : ℕ) → IsOver c m → is_at_most c m ≡ false
under_from None m over = refl
under_from (Some c) m over = grind (arith, nat_tests, over)

pub pop_over : (m : ℕ) (s t : State) (answer : Option (Result Release PacketError)) → IsSound s → Pops s answer t → is_at_most t.cutoff m ≡ false → is_at_most s.cutoff m ≡ false
pop_over m s t answer sound pops above = under_from s.cutoff m (pops_has m s t answer sound pops (over_from t.cutoff m above)).1

lowest_over : (c : Option ℕ) (m : ℕ) (s : State) (hs : List Held) → hs ≡ s.held → s.cutoff ≡ c → IsAboveCutoff c hs → is_at_most (without_lowest s hs).cutoff m ≡ false → is_at_most c m ≡ false
lowest_over c m s [] same is above up = ap (λ o. is_at_most o m) (sym is) ∙ up
lowest_over None m s (p ∷ ps) same is above up = refl
lowest_over (Some c) m s (p ∷ ps) same is above up = grind (arith, nat_tests, above.0, up)

right_of_or : (a b : Bool) → a || b ≡ false → a ≡ false
right_of_or false b h = refl
right_of_or true b h = cc

pub push_over : (m : ℕ) (s : State) (p : Held) → IsSound s → is_at_most (pushed s p).cutoff m ≡ false → is_at_most s.cutoff m ≡ false
push_over m s p sound = by_test (is_dropped s (number_of p))
    (λ b. is_at_most (cond b s (kept_to_limit (record s { held = placed p s.held }))).cutoff m ≡ false → is_at_most s.cutoff m ≡ false)
    (λ e up. up)
    (λ e. by_test (ltb s.limit (length (placed p s.held))) (λ b. is_at_most (cond b (without_lowest (record s { held = placed p s.held }) (placed p s.held)) (record s { held = placed p s.held })).cutoff m ≡ false → is_at_most s.cutoff m ≡ false)
    (λ full up. lowest_over s.cutoff m (record s { held = placed p s.held }) (placed p s.held) refl refl
    (placed_above_cutoff s.cutoff p s.held (right_of_or (is_at_most s.cutoff (number_of p)) (has_number (number_of p) s.held) e) sound.above) up)
    (λ room up. up))
