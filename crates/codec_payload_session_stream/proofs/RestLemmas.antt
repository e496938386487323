-- A pop that has no unit, and the pops after it.
use Rattle.std.proofs.Common.{◌≡◌, ◌∙◌, refl, ap, sym, subst, ℕ, ◌+◌, ◌-◌, ◌%◌, ◌^◌, ◌<◌, ◌≤◌, ◌||◌, not, List, [], ◌∷◌, ◌++◌, Bool, true, false, cond, Option, Some, None, Result, inl, inr, length, arith}
use Rattle.std.specs.Prelude.{◌⊎◌, nat_lt, nat_le, if◌then◌else◌}
use Rattle.std.proofs.lemmas.Bool.Decides.{nat_tests}
use Rattle.codec_payload_base.specs.Time.{Time}
use Rattle.codec_payload_base.specs.declared.error.PacketError.{PacketError}
use Rattle.codec_payload_base.specs.declared.wire.Ticks.{Ticks}
use Rattle.codec_payload_buffer.specs.Blanks.{ready_since_among, ready_since_of, passed_number}
use Rattle.codec_payload_buffer.specs.Frames.{frames}
use Rattle.codec_payload_buffer.specs.Held.{Held, above, number_of}
use Rattle.codec_payload_buffer.specs.Leaving.{left_of}
use Rattle.codec_payload_metadata.specs.Release.{Release}
use Rattle.codec_payload_buffer.specs.Steps.{Passes, PassesOver, Pops, State, due_of, none, one_more}
use Rattle.codec_payload_buffer.specs.declared.buffer.frames.CompleteFrame.{CompleteFrame}
use Rattle.codec_payload_buffer.specs.declared.buffer.leaving.Left.{Left}
use Rattle.codec_payload_buffer.proofs.BlankLemmas.{leaves_few, takes_away}
use Rattle.codec_payload_buffer.proofs.FrameParts.{IsRun}
use Rattle.codec_payload_buffer.proofs.PopLemmas.{above_shorter, order_due, part_due}
use Rattle.codec_payload_jitter.specs.NoMediaNumbers.{is_done, no_media_left, passed_no_media}
use Rattle.codec_payload_jitter.specs.Receiving.{PopsWith, Receiving, counted_pop, deadline_by, deadline_of, has_little_room, is_overdue, is_pressed, is_starting, settled, waiting_at}
use Rattle.codec_payload_jitter.specs.Waiting.{most_held_back}
use Rattle.codec_payload_jitter.specs.declared.outcome.PacketCounters.{PacketCounters}
use Rattle.codec_payload_jitter.proofs.PressureLemmas.{none_left, settled_holds}
use Rattle.codec_payload_jitter.proofs.ReceivingLemmas.{pressed_waits_for_none}
use Rattle.codec_payload_session_stream.specs.Quiet.{IsBefore, PopsNothing}

-- ---- the buffer

-- a packet at or below a number is not above it
above_drops : (last : ℕ) (before : List Held) (p : Held) (after : List Held) → number_of p ≤ last → length (above last (before ++ p ∷ after)) < length (before ++ p ∷ after)
above_drops last [] p after le = grind (arith, nat_tests, above_shorter last after)
above_drops last (q ∷ qs) p after le = grind (arith, nat_tests, above_drops last qs p after le)

run_drops : (first last : ℕ) (before packets after : List Held) (time : Time) → IsRun first last time packets → first ≤ last
    → length (above last (before ++ (packets ++ after))) < length (before ++ (packets ++ after))
run_drops first last before [] after time run order = absurd run
run_drops first last before (p ∷ []) after time run order = above_drops last before p after (omega (arith, run.0, order))
run_drops first last before (p ∷ q ∷ ps) after time run order = above_drops last before p ((q ∷ ps) ++ after) (omega (arith, run.0, order))

-- the frame that is due takes a packet with it
due_drops : (s : State) (f : CompleteFrame) → due_of s ≡ Some f → length (above f.last s.held) < length s.held
due_drops s f due =
    let part = part_due s f due in
    subst (λ (hs : List Held). length (above f.last hs) < length hs) (sym part.2.whole)
    (run_drops f.first f.last part.2.before part.0 part.1 part.2.time part.2.run (order_due s f due))

fewer_after : (s t : State) → PassesOver s t → length t.held < length s.held
fewer_after s t p = subst (λ (x : State). length x.held < length s.held) (sym p.left) (due_drops s p.frame p.is_due)

passes_few : (s t : State) (over : List CompleteFrame) → Passes s over t → length t.held ≤ length s.held
passes_few s t over none = omega arith
passes_few s u over (one_more {t = t} before p) =
    let fewer : length u.held < length t.held = fewer_after t u p in
    let few : length t.held ≤ length s.held = passes_few s t _ before in
    omega (arith, fewer, few)

-- a pop that skips no frame changes nothing; another one leaves fewer packets
abbrev pub IsSameOrFewer : State → State → Type 0
IsSameOrFewer s t = (t ≡ s) ⊎ (length t.held < length s.held)

pub passes_same : (s t : State) (over : List CompleteFrame) → Passes s over t → IsSameOrFewer s t
passes_same s t over none = inl refl
passes_same s u over (one_more {t = t} before p) =
    let fewer : length u.held < length t.held = fewer_after t u p in
    let few : length t.held ≤ length s.held = passes_few s t _ before in
    inr (omega (arith, fewer, few))

-- ---- numbers without media

passed_again : (s : State) (ns : List ℕ) (h : ℕ)
    → passed_no_media (record (passed_no_media s ns) { hold_back = h }) (no_media_left s ns) ≡ record (passed_no_media s ns) { hold_back = h }
passed_again s [] h = refl
passed_again s (n ∷ ns) h = by_test (is_done s n) refl (passed_again (passed_number s n) ns h)
  where
    by_test : (b : Bool) → is_done s n ≡ b
        → passed_no_media (record (passed_no_media (passed_number s n) ns) { hold_back = h }) (no_media_left (passed_number s n) ns) ≡ record (passed_no_media (passed_number s n) ns) { hold_back = h }
        → passed_no_media (record (cond b (passed_no_media (passed_number s n) ns) s) { hold_back = h }) (cond b (no_media_left (passed_number s n) ns) (n ∷ ns))
        ≡ record (cond b (passed_no_media (passed_number s n) ns) s) { hold_back = h }
    by_test true is later = later
    by_test false is later = rw is refl

left_again : (s : State) (ns : List ℕ) (h : ℕ) → no_media_left (record (passed_no_media s ns) { hold_back = h }) (no_media_left s ns) ≡ no_media_left s ns
left_again s [] h = refl
left_again s (n ∷ ns) h = by_test (is_done s n) refl (left_again (passed_number s n) ns h)
  where
    by_test : (b : Bool) → is_done s n ≡ b
        → no_media_left (record (passed_no_media (passed_number s n) ns) { hold_back = h }) (no_media_left (passed_number s n) ns) ≡ no_media_left (passed_number s n) ns
        → no_media_left (record (cond b (passed_no_media (passed_number s n) ns) s) { hold_back = h }) (cond b (no_media_left (passed_number s n) ns) (n ∷ ns))
        ≡ cond b (no_media_left (passed_number s n) ns) (n ∷ ns)
    by_test true is later = later
    by_test false is later = rw is refl

-- a jitter buffer after a pop that took nothing
abbrev waited : Receiving → ℕ → PacketCounters → Receiving
waited r h c = record (settled r) { buffer = record (settled r).buffer { hold_back = h }; counters = c }

settled_again : (r : Receiving) (h : ℕ) (c : PacketCounters) → settled (waited r h c) ≡ waited r h c
settled_again r h c =
    ap (λ (b : State). record (waited r h c) { buffer = b; no_media_numbers = no_media_left (waited r h c).buffer (waited r h c).no_media_numbers })
    (passed_again r.buffer r.no_media_numbers h)
    ∙ ap (λ (ns : List ℕ). record (waited r h c) { no_media_numbers = ns }) (left_again r.buffer r.no_media_numbers h)

-- ---- waiting

overdue_later : (max_wait : Option ℕ) (since : Option Ticks) (now later : ℕ) → is_overdue max_wait now since ≡ false → later < 2 ^ 64 → IsBefore (deadline_by max_wait since) later → is_overdue max_wait later since ≡ false
overdue_later None since now later not few before = refl
overdue_later (Some m) None now later not few before = refl
overdue_later (Some m) (Some since) now later not few before = by_test (nat_lt (since.0 + m) (2 ^ 64)) refl before
  where
    by_test : (b : Bool) → nat_lt (since.0 + m) (2 ^ 64) ≡ b → IsBefore (cond b (Some (since.0 + m)) None) later → nat_le m (later - since.0) ≡ false
    by_test true is before = grind (arith, nat_tests)
    by_test false is before = grind (arith, nat_tests)

or_first : (a b c : Bool) → b ≡ true → a || (b || c) ≡ true
or_first true b c is = refl
or_first false true c is = refl
or_first false false c is = absurd (cc)

pub never_overdue : (max_wait : Option ℕ) (now : ℕ) → is_overdue max_wait now None ≡ false
never_overdue None now = refl
never_overdue (Some m) now = refl

-- no frame is overdue, if pops under pressure leave none
not_overdue : (p : Receiving) (now : ℕ) → (is_pressed p now ≡ true → frames p.buffer.held ≡ []) → is_overdue p.wait_limits.max_wait now (ready_since_of p.buffer) ≡ false
not_overdue p now drained = by_test (is_overdue p.wait_limits.max_wait now (ready_since_of p.buffer)) refl
  where
    by_test : (b : Bool) → is_overdue p.wait_limits.max_wait now (ready_since_of p.buffer) ≡ b → is_overdue p.wait_limits.max_wait now (ready_since_of p.buffer) ≡ false
    by_test true is =
        let empty : frames p.buffer.held ≡ [] = drained (or_first p.ended _ (has_little_room p) is) in
        ap (λ (fs : List CompleteFrame). is_overdue p.wait_limits.max_wait now (ready_since_among p.buffer.held fs)) empty ∙ never_overdue p.wait_limits.max_wait now
    by_test false is = is

-- until the deadline pops wait as before
waits_same : (p : Receiving) (now later : ℕ) → (is_pressed p now ≡ true → frames p.buffer.held ≡ []) → later < 2 ^ 64 → IsBefore (deadline_of p) later → waiting_at p later ≡ waiting_at p now
waits_same p now later drained few before =
    let first : is_overdue p.wait_limits.max_wait now (ready_since_of p.buffer) ≡ false = not_overdue p now drained in
    let second : is_overdue p.wait_limits.max_wait later (ready_since_of p.buffer) ≡ false = overdue_later p.wait_limits.max_wait (ready_since_of p.buffer) now later first few before in
    ap (λ (b : Bool). if p.ended || (b || has_little_room p) then Some 0 else (if is_starting p then None else Some (most_held_back p.wait_limits.hold_back))) (second ∙ sym first)

-- ---- pops

pub counted_twice : (c : PacketCounters) (units released : ℕ) (l m : Left) → m.incomplete ≡ 0 → m.skipped ≡ 0 → m.refused ≡ 0
    → counted_pop (counted_pop c units released l) 0 0 m ≡ counted_pop c units released l
counted_twice c units released l m incomplete skipped refused =
    ap (λ (x : Left). counted_pop (counted_pop c units released l) 0 0 x) (all_none m incomplete skipped refused)
    ∙ again (c.units + units) (c.released + released) (c.left + (l.incomplete + l.skipped + l.refused)) (c.incomplete + l.incomplete) (c.skipped + l.skipped) (c.refused + l.refused)
  where
    parts : ℕ → ℕ → ℕ → ℕ → ℕ → ℕ → PacketCounters
    parts a b d e f g = record c { units = a; released = b; left = d; incomplete = e; skipped = f; refused = g }

    left : ℕ → ℕ → ℕ → Left
    left i k f = record { incomplete = i; skipped = k; refused = f }

    all_none : (x : Left) → x.incomplete ≡ 0 → x.skipped ≡ 0 → x.refused ≡ 0 → x ≡ record { incomplete = 0; skipped = 0; refused = 0 }
    all_none x one two three = ap (λ (n : ℕ). left n x.skipped x.refused) one ∙ (ap (λ (n : ℕ). left 0 n x.refused) two ∙ ap (λ (n : ℕ). left 0 0 n) three)

    once : (n : ℕ) → (n % 2 ^ 64 + 0) % 2 ^ 64 ≡ n % 2 ^ 64
    once n = omega arith

    again : (a b d e f g : ℕ)
        → parts ((a % 2 ^ 64 + 0) % 2 ^ 64) ((b % 2 ^ 64 + 0) % 2 ^ 64) ((d % 2 ^ 64 + (0 + 0 + 0)) % 2 ^ 64) ((e % 2 ^ 64 + 0) % 2 ^ 64) ((f % 2 ^ 64 + 0) % 2 ^ 64) ((g % 2 ^ 64 + 0) % 2 ^ 64)
        ≡ parts (a % 2 ^ 64) (b % 2 ^ 64) (d % 2 ^ 64) (e % 2 ^ 64) (f % 2 ^ 64) (g % 2 ^ 64)
    again a b d e f g = rw (once a, once b, once d, once e, once f, once g) refl

-- a pop that waits for `h` frames and finds none to take
waits_on : (r : Receiving) (h : ℕ) (c : PacketCounters) (l : Left) → due_of (record (settled r).buffer { hold_back = h }) ≡ None → c ≡ counted_pop (settled r).counters 0 0 l
    → PopsWith (Some h) (waited r h c) None (waited r h c)
waits_on r h c l due counted =
    let s : State = record (settled r).buffer { hold_back = h } in
    let pops : Pops s None s = ([], (none, due)) in
    let twice : counted_pop c 0 0 (left_of s None s pops) ≡ c =
    subst (λ (k : PacketCounters). counted_pop k 0 0 (left_of s None s pops) ≡ k) (sym counted)
    (counted_twice (settled r).counters 0 0 l (left_of s None s pops) (omega arith) refl refl) in
    (s, pops, ap (λ (k : PacketCounters). record (waited r h c) { counters = k }) (sym twice))

-- a jitter buffer that is settled pops as it is
pub as_settled : (now : ℕ) (t : Receiving) (wait : Option ℕ) → settled t ≡ t → waiting_at t now ≡ wait → PopsWith wait t None t → PopsNothing now t
as_settled now t wait same waits pops =
    subst (λ (x : Receiving). PopsWith (waiting_at x now) x None t) (sym same) (subst (λ (w : Option ℕ). PopsWith w t None t) (sym waits) pops)

-- a pop without a unit that leaves all packets: until the deadline each pop is one
again_by : (now later : ℕ) (r t : Receiving) (wait : Option ℕ) → waiting_at (settled r) now ≡ wait → PopsWith wait (settled r) None t → length t.buffer.held ≡ length r.buffer.held
    → later < 2 ^ 64 → IsBefore (deadline_of t) later → PopsNothing later t
again_by now later r t None waits pops same few before =
    let is : t ≡ settled r = pops.1 in
    let early : IsBefore (deadline_of (settled r)) later = subst (λ (x : Receiving). IsBefore (deadline_of x) later) is before in
    let on : waiting_at (settled r) later ≡ None = waits_same (settled r) now later (λ pressed. let no = rw pressed at waits in absurd (cc)) few early ∙ waits in
    subst (λ (x : Receiving). PopsNothing later x) (sym is)
    (as_settled later (settled r) None (settled_again r (settled r).buffer.hold_back (settled r).counters) on (refl, refl))
again_by now later r t (Some h) waits pops same few before = by_pass (passes_same (record (settled r).buffer { hold_back = h }) pops.0 pops.1.0 pops.1.1.0)
  where
    by_pass : IsSameOrFewer (record (settled r).buffer { hold_back = h }) pops.0 → PopsNothing later t
    by_pass (inr fewer) =
        let held : length t.buffer.held ≡ length pops.0.held = ap (λ (x : Receiving). length x.buffer.held) pops.2 in
        absurd (omega (arith, fewer, held, same, settled_holds r))
    by_pass (inl stays) =
        let l : Left = left_of (record (settled r).buffer { hold_back = h }) None pops.0 pops.1 in
        let c : PacketCounters = counted_pop (settled r).counters 0 0 l in
        let is : t ≡ waited r h c = pops.2 ∙ ap (λ (x : State). record (settled r) { buffer = x; counters = c }) stays in
        let due : due_of (record (settled r).buffer { hold_back = h }) ≡ None = subst (λ (x : State). due_of x ≡ None) stays pops.1.1.1 in
        let some : length (frames pops.0.held) ≤ h = leaves_few (record (settled r).buffer { hold_back = h }) pops.0 pops.1 in
        let left : frames pops.0.held ≡ frames (settled r).buffer.held = ap (λ (x : State). frames x.held) stays in
        let drained : is_pressed (settled r) now ≡ true → frames (settled r).buffer.held ≡ [] = λ pressed.
        none_left (frames (settled r).buffer.held) (omega (arith, some, ap length left, pressed_waits_for_none (settled r) now h pressed waits)) in
        let early : IsBefore (deadline_of (settled r)) later = subst (λ (x : Receiving). IsBefore (deadline_of x) later) is before in
        let on : waiting_at (settled r) later ≡ Some h = waits_same (settled r) now later drained few early ∙ waits in
        subst (λ (x : Receiving). PopsNothing later x) (sym is) (as_settled later (waited r h c) (Some h) (settled_again r h c) on (waits_on r h c l due refl))

pub pops_again : (now later : ℕ) (r t : Receiving) → PopsWith (waiting_at (settled r) now) (settled r) None t → length t.buffer.held ≡ length r.buffer.held
    → later < 2 ^ 64 → IsBefore (deadline_of t) later → PopsNothing later t
pops_again now later r t pops same few before = again_by now later r t (waiting_at (settled r) now) refl pops same few before

-- a pop leaves at most the packets that it finds
pub pops_few : (wait : Option ℕ) (r t : Receiving) (answer : Option (Result Release PacketError)) → PopsWith wait (settled r) answer t → length t.buffer.held ≤ length r.buffer.held
pops_few None r t answer pops =
    let held : length t.buffer.held ≡ length (settled r).buffer.held = ap (λ (x : Receiving). length x.buffer.held) pops.1 in
    omega (arith, held, settled_holds r)
pops_few (Some h) r t answer pops =
    let held : length t.buffer.held ≡ length pops.0.held = ap (λ (x : Receiving). length x.buffer.held) pops.2 in
    let few = takes_away (record (settled r).buffer { hold_back = h }) pops.0 answer pops.1 in
    omega (arith, held, few, settled_holds r)
