-- The times at which streams may have their next events, and the polls that ask by them.
use Rattle.std.proofs.Common.{◌≡◌, ◌∙◌, ◌<◌, ◌≤◌, ℕ, zero, suc, ◌+◌, ◌-◌, ◌^◌, min, List, [], ◌∷◌, ◌++◌, length, take, drop, set, get_or, Bool, Option, Some, None, option_map, cond, true, false, ap, refl, sym, subst, arith, inl, inr, length-set}
use Rattle.std.specs.Prelude.{nat_le}
use Rattle.std.specs.List.{AllWithin}
use Rattle.std.proofs.lemmas.Bool.Decides.{nat_tests}
use Rattle.std.proofs.lemmas.List.{append-nil, drop_all, length-append, length-map, take-append-drop, take_all, take_more}
use Rattle.codec_payload_base.specs.declared.wire.Ticks.{Ticks}
use Rattle.codec_payload_index.specs.Times.{first_come, first_come_from, least_of}
use Rattle.codec_payload_session_stream.specs.Dues.{key_of}
use Rattle.codec_payload_session_stream.specs.Quiet.{IsQuietUntil}
use Rattle.codec_payload_rtcp.specs.RtcpPackets.{Packet}
use Rattle.codec_payload_session_stream.specs.Reports.{noted, noted_where}
use Rattle.codec_payload_session_stream.specs.Streams.{Steps, StepsBy, StreamState, due_in, due_of, earlier}
use Rattle.codec_payload_session_stream.specs.Turns.{AreQuiet, FirstSteps, StepsFirst, is_nothing}
use Rattle.codec_payload_session_stream.specs.Waking.{AllTimed, AllWake, Grows, Holds, IsAsleep, IsBound, IsNext, IsTimed, OthersWake, SaysNothing, WakesAt, or_max}
use Rattle.codec_payload_session_stream.specs.Units.{Step, Turn}
use Rattle.codec_payload_session_stream.specs.declared.stream.Step.TheVariants as steps
use Rattle.codec_payload_session_stream.specs.declared.waking.Waking.{Waking}
use Rattle.codec_payload_session_stream.proofs.QuietLemmas.{earlier_assoc, earlier_none, first_length, found_in, nothing_is, quiet_length}
use Rattle.codec_payload_session_stream.proofs.SkipLemmas.{quiet_before, quiet_steps}

-- ---- one stream

-- a stream that sleeps has no event
pub asleep_steps : (now : Ticks) (idle : ℕ) (s : StreamState) → IsAsleep now.0 idle s → Steps now idle s steps.Nothing s
asleep_steps now idle s (inl probing) = subst (λ (b : Bool). StepsBy b s.announced now idle s steps.Nothing s) (sym probing) (refl, refl)
asleep_steps now idle s (inr quiet) = quiet_steps now idle s (grind (arith, nat_tests, quiet.1)) quiet.0

-- a time that says nothing
pub from_zero : (idle : ℕ) (s : StreamState) → WakesAt idle 0 s
from_zero idle s = record { sleeps = λ now before. absurd (omega (arith, before)); due = omega arith }

pub wakes_quiet : (until idle_at idle at key : ℕ) (work : Option ℕ) (s : StreamState) → IsQuietUntil until work s.announced s.stage s.last s.feedback s.receiver → 0 < idle → idle_at ≤ s.last + idle
    → at ≡ min (min until idle_at) key → key ≡ key_of (due_of idle s) → WakesAt idle at s
wakes_quiet until idle_at idle at key work s quiet some idle_is is due = record {
  sleeps = λ now before. inr (quiet_before until now work s.announced s.stage s.last s.feedback s.receiver (omega (arith, before, is)) quiet, omega (arith, before, is, idle_is, some));
  due = omega (arith, is, due);
}

-- ---- times of streams

pub all_length : (idle : ℕ) (ts : List ℕ) (ss : List StreamState) → AllWake idle ts ss → length ss ≤ length ts
all_length idle ts [] all = omega arith
all_length idle [] (s ∷ ss) all = absurd all
all_length idle (t ∷ ts) (s ∷ ss) all = omega (arith, all_length idle ts ss all.1)

pub others_length : (idle i : ℕ) (ts : List ℕ) (ss : List StreamState) → i < length ss → OthersWake idle i ts ss → length ss ≤ length ts
others_length idle i ts [] within others = absurd (omega (arith, within))
others_length idle i [] (s ∷ ss) within others = absurd others
others_length idle zero (t ∷ ts) (s ∷ ss) within others = omega (arith, all_length idle ts ss others)
others_length idle (suc i) (t ∷ ts) (s ∷ ss) within others = omega (arith, others_length idle i ts ss (omega (arith, within)) others.1)

-- the time of the stream that was excepted is noted
note_one : (idle i at : ℕ) (d : StreamState) (ts : List ℕ) (ss : List StreamState) → i < length ss → OthersWake idle i ts ss → WakesAt idle at (get_or ss i d) → AllWake idle (set ts i at) ss
note_one idle i at d ts [] within others it = absurd (omega (arith, within))
note_one idle i at d [] (s ∷ ss) within others it = absurd others
note_one idle zero at d (t ∷ ts) (s ∷ ss) within others it = (it, others)
note_one idle (suc i) at d (t ∷ ts) (s ∷ ss) within others it = (others.0, note_one idle i at d ts ss (omega (arith, within)) others.1 it)

-- a stream is excepted
but_one : (idle i x : ℕ) (ts : List ℕ) (ss : List StreamState) → AllWake idle ts ss → OthersWake idle i (set ts i x) ss
but_one idle i x ts [] all = tt
but_one idle i x [] (s ∷ ss) all = absurd all
but_one idle zero x (t ∷ ts) (s ∷ ss) all = all.1
but_one idle (suc i) x (t ∷ ts) (s ∷ ss) all = (all.0, but_one idle i x ts ss all.1)

but_same : (idle i : ℕ) (ts : List ℕ) (ss : List StreamState) → AllWake idle ts ss → OthersWake idle i ts ss
but_same idle i ts [] all = tt
but_same idle i [] (s ∷ ss) all = absurd all
but_same idle zero (t ∷ ts) (s ∷ ss) all = all.1
but_same idle (suc i) (t ∷ ts) (s ∷ ss) all = (all.0, but_same idle i ts ss all.1)

-- the stream that is excepted may change
others_set : (idle i : ℕ) (ts : List ℕ) (ss : List StreamState) (x : StreamState) → OthersWake idle i ts ss → OthersWake idle i ts (set ss i x)
others_set idle i ts [] x others = others
others_set idle i [] (s ∷ ss) x others = absurd others
others_set idle zero (t ∷ ts) (s ∷ ss) x others = others
others_set idle (suc i) (t ∷ ts) (s ∷ ss) x others = (others.0, others_set idle i ts ss x others.1)

-- a stream and its time change
all_set : (idle i at : ℕ) (ts : List ℕ) (ss : List StreamState) (x : StreamState) → i < length ss → AllWake idle ts ss → WakesAt idle at x → AllWake idle (set ts i at) (set ss i x)
all_set idle i at ts [] x within all it = absurd (omega (arith, within))
all_set idle i at [] (s ∷ ss) x within all it = absurd all
all_set idle zero at (t ∷ ts) (s ∷ ss) x within all it = (it, all.1)
all_set idle (suc i) at (t ∷ ts) (s ∷ ss) x within all it = (all.0, all_set idle i at ts ss x (omega (arith, within)) all.1 it)

-- one more stream
all_grown : (idle : ℕ) (ts : List ℕ) (ss : List StreamState) (x : StreamState) → length ss < length ts → AllWake idle ts ss → AllWake idle (set ts (length ss) 0) (ss ++ x ∷ [])
all_grown idle [] [] x room all = absurd (omega (arith, room))
all_grown idle (t ∷ ts) [] x room all = (from_zero idle x, tt)
all_grown idle [] (s ∷ ss) x room all = absurd all
all_grown idle (t ∷ ts) (s ∷ ss) x room all = (all.0, all_grown idle ts ss x (omega (arith, room)) all.1)

others_grown : (idle i : ℕ) (ts : List ℕ) (ss : List StreamState) (x : StreamState) → i < length ss → length ss < length ts → OthersWake idle i ts ss → OthersWake idle i (set ts (length ss) 0) (ss ++ x ∷ [])
others_grown idle i ts [] x within room others = absurd (omega (arith, within))
others_grown idle i [] (s ∷ ss) x within room others = absurd others
others_grown idle zero (t ∷ ts) (s ∷ ss) x within room others = all_grown idle ts ss x (omega (arith, room)) others
others_grown idle (suc i) (t ∷ ts) (s ∷ ss) x within room others = (others.0, others_grown idle i ts ss x (omega (arith, within)) (omega (arith, room)) others.1)

-- ---- what is known

pub says_bound : (w : Waking) (ss : List StreamState) → SaysNothing w → IsBound w ss
says_bound w ss says = record { timed = λ known. absurd (Bool_differs (sym known ∙ says.unknown)); nothing = λ unknown. says.nothing }
  where
    Bool_differs : true ≡ false → ⊥
    Bool_differs same = grind (arith, same)

-- a time before the bound: the times are known
pub timed_of : (w : Waking) (n : ℕ) (ss : List StreamState) → IsBound w ss → n < w.until → IsTimed w ss
timed_of w n ss bound before = by_test w.known refl
  where
    by_test : (b : Bool) → w.known ≡ b → IsTimed w ss
    by_test true is = bound.timed is
    by_test false is = absurd (omega (arith, before, bound.nothing is))

pub note_times : (w v : Waking) (at : ℕ) (x : StreamState) (ss : List StreamState) → IsTimed w ss → x ≡ get_or ss w.fed x → WakesAt w.idle_timeout at x → v.times ≡ set w.times w.fed at → v.fed ≡ w.fed
    → v.idle_timeout ≡ w.idle_timeout → AllTimed w.idle_timeout v ss
note_times w v at x ss timed there it times fed idle = record {
  same = idle;
  within = omega (arith, timed.within, fed);
  all = subst (λ (l : List ℕ). AllWake w.idle_timeout l ss) (sym times) (note_one w.idle_timeout w.fed at x w.times ss timed.within timed.others (subst (λ (s : StreamState). WakesAt w.idle_timeout at s) there it));
}

pub left_out : (w v : Waking) (place x : ℕ) (ss : List StreamState) → AllTimed w.idle_timeout w ss → place < length ss → v.times ≡ set w.times place x → v.fed ≡ place → v.idle_timeout ≡ w.idle_timeout
    → v.until ≡ least_of v.times → v.known ≡ true → IsBound v ss
left_out w v place x ss timed within times fed idle until known = record {
  timed = λ is. record {
    within = omega (arith, within, fed);
    others = subst (λ (i : ℕ). OthersWake i v.fed v.times ss) (sym idle) (subst (λ (i : ℕ). OthersWake w.idle_timeout i v.times ss) (sym fed)
        (subst (λ (l : List ℕ). OthersWake w.idle_timeout place l ss) (sym times) (but_one w.idle_timeout place x w.times ss timed.all)));
    until = omega (arith, until);
  };
  nothing = λ unknown. absurd (grind (arith, known, unknown));
}

pub asked_again : (w v : Waking) (ss : List StreamState) → AllTimed w.idle_timeout w ss → v.times ≡ w.times → v.fed ≡ w.fed → v.idle_timeout ≡ w.idle_timeout → v.until ≡ 0 → IsBound v ss
asked_again w v ss timed times fed idle until = record {
  timed = λ is. record {
    within = omega (arith, timed.within, fed);
    others = subst (λ (i : ℕ). OthersWake i v.fed v.times ss) (sym idle) (subst (λ (l : List ℕ). OthersWake w.idle_timeout v.fed l ss) (sym times) (but_same w.idle_timeout v.fed w.times ss timed.all));
    until = omega (arith, until);
  };
  nothing = λ unknown. until;
}

pub grows : (w v : Waking) (ss : List StreamState) → IsTimed w ss → length ss < length w.times → v.times ≡ set w.times (length ss) 0 → v.fed ≡ w.fed → v.idle_timeout ≡ w.idle_timeout → v.until ≡ 0
    → Grows v ss
grows w v ss timed room times fed idle until = record {
  bound = λ s. record {
    timed = λ is. record {
      within = omega (arith, timed.within, fed, length-append ss (s ∷ []));
      others = subst (λ (i : ℕ). OthersWake i v.fed v.times (ss ++ s ∷ [])) (sym idle) (subst (λ (i : ℕ). OthersWake w.idle_timeout i v.times (ss ++ s ∷ [])) (sym fed)
          (subst (λ (l : List ℕ). OthersWake w.idle_timeout w.fed l (ss ++ s ∷ [])) (sym times) (others_grown w.idle_timeout w.fed w.times ss s timed.within room timed.others)));
      until = omega (arith, until);
    };
    nothing = λ unknown. until;
  };
}

-- the stream that is excepted may change
pub bound_set : (w : Waking) (i : ℕ) (ss : List StreamState) (x : StreamState) → (w.known ≡ true → w.fed ≡ i) → IsBound w ss → IsBound w (set ss i x)
bound_set w i ss x is bound = record {
  timed = λ known.
      let it : IsTimed w ss = bound.timed known in
      subst (λ (n : ℕ). IsTimed w (set ss n x)) (is known) (record {
        within = omega (arith, it.within, length-set ss w.fed x);
        others = others_set w.idle_timeout w.fed w.times ss x it.others;
        until = it.until;
      });
  nothing = bound.nothing;
}

-- a sender report changes no time
all_noted : (idle : ℕ) (now : Ticks) (ps : List Packet) (ts : List ℕ) (ss : List StreamState) → AllWake idle ts ss → AllWake idle ts (noted_where now ps ss)
all_noted idle now ps ts [] all = tt
all_noted idle now ps [] (s ∷ ss) all = absurd all
all_noted idle now ps (t ∷ ts) (s ∷ ss) all = (record { sleeps = all.0.sleeps; due = all.0.due }, all_noted idle now ps ts ss all.1)

others_noted : (idle i : ℕ) (now : Ticks) (ps : List Packet) (ts : List ℕ) (ss : List StreamState) → OthersWake idle i ts ss → OthersWake idle i ts (noted_where now ps ss)
others_noted idle i now ps ts [] others = tt
others_noted idle i now ps [] (s ∷ ss) others = absurd others
others_noted idle zero now ps (t ∷ ts) (s ∷ ss) others = all_noted idle now ps ts ss others
others_noted idle (suc i) now ps (t ∷ ts) (s ∷ ss) others = (record { sleeps = others.0.sleeps; due = others.0.due }, others_noted idle i now ps ts ss others.1)

pub bound_noted : (w : Waking) (now : Ticks) (ps : List Packet) (ss : List StreamState) → IsBound w ss → IsBound w (noted_where now ps ss)
bound_noted w now ps ss bound = record {
  timed = λ known.
      let it : IsTimed w ss = bound.timed known in
      record {
        within = omega (arith, it.within, length-map ss (noted now ps));
        others = others_noted w.idle_timeout w.fed now ps w.times ss it.others;
        until = it.until;
      };
  nothing = bound.nothing;
}

-- ---- a poll before the bound

all_quiet : (idle : ℕ) (now : Ticks) (ts : List ℕ) (ss : List StreamState) → now.0 < least_of ts → AllWake idle ts ss → AreQuiet now idle ss ss
all_quiet idle now ts [] before all = tt
all_quiet idle now [] (s ∷ ss) before all = absurd all
all_quiet idle now (t ∷ ts) (s ∷ ss) before all = (asleep_steps now idle s (all.0.sleeps now.0 (omega (arith, before))), all_quiet idle now ts ss (omega (arith, before)) all.1)

front_quiet : (idle i : ℕ) (now : Ticks) (ts : List ℕ) (ss : List StreamState) → now.0 < least_of ts → OthersWake idle i ts ss → AreQuiet now idle (take i ss) (take i ss)
front_quiet idle zero now ts ss before others = tt
front_quiet idle (suc i) now ts [] before others = tt
front_quiet idle (suc i) now [] (s ∷ ss) before others = absurd others
front_quiet idle (suc i) now (t ∷ ts) (s ∷ ss) before others = (asleep_steps now idle s (others.0.sleeps now.0 (omega (arith, before))), front_quiet idle i now ts ss (omega (arith, before)) others.1)

with_quiet : (idle i : ℕ) (now : Ticks) (d x : StreamState) (ts : List ℕ) (ss : List StreamState) → now.0 < least_of ts → i < length ss → OthersWake idle i ts ss
    → Steps now idle (get_or ss i d) steps.Nothing x → AreQuiet now idle ss (set ss i x)
with_quiet idle i now d x ts [] before within others went = absurd (omega (arith, within))
with_quiet idle i now d x [] (s ∷ ss) before within others went = absurd others
with_quiet idle zero now d x (t ∷ ts) (s ∷ ss) before within others went = (went, all_quiet idle now ts ss (omega (arith, before)) others)
with_quiet idle (suc i) now d x (t ∷ ts) (s ∷ ss) before within others went =
    (asleep_steps now idle s (others.0.sleeps now.0 (omega (arith, before))), with_quiet idle i now d x ts ss (omega (arith, before)) (omega (arith, within)) others.1 went)

-- the stream that is excepted is there
pub fed_within : (w : Waking) (now : Ticks) (idle : ℕ) (ss : List StreamState) → IsBound w ss → Holds w now idle → w.fed < length ss
fed_within w now idle ss bound holds = (timed_of w now.0 ss bound holds.before).within

-- it has no event
pub nothing_steps : (w : Waking) (now : Ticks) (idle : ℕ) (d x : StreamState) (ss : List StreamState) (step : Step) → IsBound w ss → Holds w now idle
    → Steps now idle (get_or ss w.fed d) step x → is_nothing step ≡ true → AreQuiet now idle ss (set ss w.fed x)
nothing_steps w now idle d x ss step bound holds went tells =
    let it : IsTimed w ss = timed_of w now.0 ss bound holds.before in
    let others : OthersWake idle w.fed w.times ss = subst (λ (i : ℕ). OthersWake i w.fed w.times ss) holds.same it.others in
    with_quiet idle w.fed now d x w.times ss (omega (arith, holds.before, it.until)) it.within others
    (subst (λ (told : Step). Steps now idle (get_or ss w.fed d) told x) (nothing_is step tells) went)

-- it has an event
pub fed_steps : (w : Waking) (now : Ticks) (idle : ℕ) (d x : StreamState) (ss : List StreamState) (step : Step) → IsBound w ss → Holds w now idle
    → Steps now idle (get_or ss w.fed d) step x → is_nothing step ≡ false → FirstSteps now idle ss (record { place = w.fed; step = step }) (set ss w.fed x)
fed_steps w now idle d x ss step bound holds went tells =
    let it : IsTimed w ss = timed_of w now.0 ss bound holds.before in
    let others : OthersWake idle w.fed w.times ss = subst (λ (i : ℕ). OthersWake i w.fed w.times ss) holds.same it.others in
    found_in now idle ss ss (take w.fed ss) w.fed d x step it.within
    (front_quiet idle w.fed now w.times ss (omega (arith, holds.before, it.until)) others) (sym (take-append-drop w.fed ss)) went tells

-- ---- the first place whose time has come

-- all times before the place come later, or all of them
abbrev pub Found : ℕ → ℕ → List ℕ → Option ℕ → Type 0
Found from now ts None = AllWithin (λ (t : ℕ). now < t) ts from (length ts)
Found from now ts (Some place) = (from ≤ place) × AllWithin (λ (t : ℕ). now < t) ts from place

shifted : (from now t : ℕ) (ts : List ℕ) (o : Option ℕ) → Found from now ts o → Found (suc from) now (t ∷ ts) (option_map suc o)
shifted from now t ts None later = none_later
  where
    none_later : (k d : ℕ) → suc from ≤ k → k < length (t ∷ ts) → now < get_or (t ∷ ts) k d
    none_later zero d low l = absurd (omega (arith, low))
    none_later (suc k) d low l = later k d (omega (arith, low)) (omega (arith, l))
shifted from now t ts (Some place) later = (omega (arith, later.0), some_later)
  where
    some_later : (k d : ℕ) → suc from ≤ k → k < suc place → now < get_or (t ∷ ts) k d
    some_later zero d low l = absurd (omega (arith, low))
    some_later (suc k) d low l = later.1 k d (omega (arith, low)) (omega (arith, l))

with_head : (now t : ℕ) (ts : List ℕ) (o : Option ℕ) → now < t → Found (suc zero) now (t ∷ ts) o → Found zero now (t ∷ ts) o
with_head now t ts None less later = none_later
  where
    none_later : (k d : ℕ) → 0 ≤ k → k < length (t ∷ ts) → now < get_or (t ∷ ts) k d
    none_later zero d low l = less
    none_later (suc k) d low l = later (suc k) d (omega arith) l
with_head now t ts (Some place) less later = (omega arith, some_later)
  where
    some_later : (k d : ℕ) → 0 ≤ k → k < place → now < get_or (t ∷ ts) k d
    some_later zero d low l = less
    some_later (suc k) d low l = later.1 (suc k) d (omega arith) l

pub found_from : (from now : ℕ) (ts : List ℕ) → Found from now ts (first_come_from from now ts)
found_from zero now [] = λ k d low l. absurd (omega (arith, l))
found_from zero now (t ∷ ts) = by_test (nat_le t now) refl (found_from zero now ts)
  where
    by_test : (c : Bool) → nat_le t now ≡ c → Found zero now ts (first_come now ts) → Found zero now (t ∷ ts) (cond c (Some 0) (option_map suc (first_come now ts)))
    by_test true is rest = (omega arith, λ k d low l. absurd (omega (arith, l)))
    by_test false is rest = with_head now t ts (option_map suc (first_come now ts)) (grind (arith, nat_tests, is)) (shifted zero now t ts (first_come now ts) rest)
found_from (suc from) now [] = λ k d low l. absurd (omega (arith, low, l))
found_from (suc from) now (t ∷ ts) = shifted from now t ts (first_come_from from now ts) (found_from from now ts)

pub next_none : (from count : ℕ) (now : Ticks) (ts : List ℕ) (o : Option ℕ) → o ≡ first_come_from from now.0 ts → o ≡ None → count ≤ length ts → IsNext from now count ts None
next_none from count now ts o is none few =
    let it : Found from now.0 ts None = subst (λ (x : Option ℕ). Found from now.0 ts x) (sym is ∙ none) (found_from from now.0 ts) in
    λ k d low l. it k d low (omega (arith, l, few))

pub next_some : (from count place : ℕ) (now : Ticks) (ts : List ℕ) (o : Option ℕ) → o ≡ first_come_from from now.0 ts → o ≡ Some place → place < count → IsNext from now count ts (Some place)
next_some from count place now ts o is some within =
    let it : Found from now.0 ts (Some place) = subst (λ (x : Option ℕ). Found from now.0 ts x) (sym is ∙ some) (found_from from now.0 ts) in
    (it.0, within, it.1)

pub next_past : (from count place : ℕ) (now : Ticks) (ts : List ℕ) (o : Option ℕ) → o ≡ first_come_from from now.0 ts → o ≡ Some place → count ≤ place → IsNext from now count ts None
next_past from count place now ts o is some past =
    let it : Found from now.0 ts (Some place) = subst (λ (x : Option ℕ). Found from now.0 ts x) (sym is ∙ some) (found_from from now.0 ts) in
    λ k d low l. it.1 k d low (omega (arith, l, past))

-- ---- the streams whose time has come are asked

sleeping : (idle place : ℕ) (now : Ticks) (ts : List ℕ) (ss : List StreamState) → AllWake idle ts ss → AllWithin (λ (t : ℕ). now.0 < t) ts 0 place → AreQuiet now idle (take place ss) (take place ss)
sleeping idle zero now ts ss all later = tt
sleeping idle (suc place) now ts [] all later = tt
sleeping idle (suc place) now [] (s ∷ ss) all later = absurd all
sleeping idle (suc place) now (t ∷ ts) (s ∷ ss) all later =
    (asleep_steps now idle s (all.0.sleeps now.0 (later 0 0 (omega arith) (omega arith))), sleeping idle place now ts ss all.1 (λ k d low l. later (suc k) d (omega arith) (omega (arith, l))))

further : (idle from place : ℕ) (now : Ticks) (ts : List ℕ) (xs quiet : List StreamState) → AreQuiet now idle (take from xs) quiet → AllWake idle ts (quiet ++ drop from xs)
    → AllWithin (λ (t : ℕ). now.0 < t) ts from place → from ≤ place → place ≤ length xs → (more : List StreamState) × AreQuiet now idle (take place xs) more × (quiet ++ drop from xs ≡ more ++ drop place xs)
further idle zero place now ts xs [] are all later low within = (take place xs, sleeping idle place now ts xs all later, sym (take-append-drop place xs))
further idle zero place now ts xs (q ∷ qs) are all later low within = absurd are
further idle (suc from) zero now ts xs quiet are all later low within = absurd (omega (arith, low))
further idle (suc from) (suc place) now ts [] quiet are all later low within = absurd (omega (arith, within))
further idle (suc from) (suc place) now ts (x ∷ xs) [] are all later low within = absurd are
further idle (suc from) (suc place) now [] (x ∷ xs) (q ∷ qs) are all later low within = absurd all
further idle (suc from) (suc place) now (t ∷ ts) (x ∷ xs) (q ∷ qs) are all later low within =
    let it = further idle from place now ts xs qs are.1 all.1 (λ k d l r. later (suc k) d (omega (arith, l)) (omega (arith, r))) (omega (arith, low)) (omega (arith, within)) in
    (q ∷ it.0, (are.0, it.1), ap (λ (l : List StreamState). q ∷ l) it.2)

pub further_in : (idle from place : ℕ) (now : Ticks) (ts : List ℕ) (xs ys quiet : List StreamState) → AreQuiet now idle (take from xs) quiet → ys ≡ quiet ++ drop from xs → AllWake idle ts ys
    → AllWithin (λ (t : ℕ). now.0 < t) ts from place → from ≤ place → place ≤ length xs → (more : List StreamState) × AreQuiet now idle (take place xs) more × (ys ≡ more ++ drop place xs)
further_in idle from place now ts xs ys quiet are is all later low within =
    let it = further idle from place now ts xs quiet are (subst (λ (l : List StreamState). AllWake idle ts l) is all) later low within in
    (it.0, it.1, is ∙ it.2)

-- all of them were asked
pub all_asked : (idle n : ℕ) (now : Ticks) (xs ys quiet : List StreamState) → n ≡ length xs → AreQuiet now idle (take n xs) quiet → ys ≡ quiet ++ drop n xs → AreQuiet now idle xs ys
all_asked idle n now xs ys quiet whole are is =
    let all : take n xs ≡ xs = take_all n xs (omega (arith, whole)) in
    let none : drop n xs ≡ [] = drop_all n xs (omega (arith, whole)) in
    let same : ys ≡ quiet = is ∙ ap (λ (l : List StreamState). quiet ++ l) none ∙ append-nil quiet in
    subst (λ (l : List StreamState). AreQuiet now idle xs l) (sym same) (subst (λ (l : List StreamState). AreQuiet now idle l quiet) all are)

pub set_wakes : (idle i at : ℕ) (ts : List ℕ) (ss : List StreamState) (x : StreamState) → i < length ss → AllWake idle ts ss → WakesAt idle at x → AllWake idle (set ts i at) (set ss i x)
set_wakes idle i at ts ss x within all it = all_set idle i at ts ss x within all it

-- ---- all times are found again

-- the times of the first streams
pub first_set : (idle i at : ℕ) (d : StreamState) (ts : List ℕ) (ss : List StreamState) → i < length ss → length ss ≤ length ts → AllWake idle ts (take i ss) → WakesAt idle at (get_or ss i d)
    → AllWake idle (set ts i at) (take (suc i) ss)
first_set idle i at d ts [] within room all it = absurd (omega (arith, within))
first_set idle i at d [] (s ∷ ss) within room all it = absurd (omega (arith, room))
first_set idle zero at d (t ∷ ts) (s ∷ ss) within room all it = (it, tt)
first_set idle (suc i) at d (t ∷ ts) (s ∷ ss) within room all it = (all.0, first_set idle i at d ts ss (omega (arith, within)) (omega (arith, room)) all.1 it)

-- one more time, behind those of the first streams
pub all_push : (idle i at : ℕ) (d : StreamState) (ts : List ℕ) (ss : List StreamState) → length ts ≡ i → i < length ss → AllWake idle ts (take i ss) → WakesAt idle at (get_or ss i d)
    → AllWake idle (ts ++ at ∷ []) (take (suc i) ss)
all_push idle i at d ts [] same within all it = absurd (omega (arith, within))
all_push idle zero at d [] (s ∷ ss) same within all it = (it, tt)
all_push idle zero at d (t ∷ ts) (s ∷ ss) same within all it = absurd (omega (arith, same))
all_push idle (suc i) at d [] (s ∷ ss) same within all it = absurd (omega (arith, same))
all_push idle (suc i) at d (t ∷ ts) (s ∷ ss) same within all it = (all.0, all_push idle i at d ts ss (omega (arith, same)) (omega (arith, within)) all.1 it)

-- a time that counts for no stream
pub all_padded : (idle : ℕ) (ts us : List ℕ) (ss : List StreamState) → AllWake idle ts ss → AllWake idle (ts ++ us) ss
all_padded idle ts us [] all = tt
all_padded idle [] us (s ∷ ss) all = absurd all
all_padded idle (t ∷ ts) us (s ∷ ss) all = (all.0, all_padded idle ts us ss all.1)

-- ---- the least deadline

earlier_max : (a b : Option ℕ) → or_max a < 2 ^ 64 → or_max b < 2 ^ 64 → or_max (earlier a b) ≡ min (or_max a) (or_max b)
earlier_max None b some other = omega (arith, other)
earlier_max (Some a) None some other = omega (arith, some)
earlier_max (Some a) (Some b) some other = refl

due_push : (idle : ℕ) (ss : List StreamState) (s : StreamState) → due_in idle (ss ++ s ∷ []) ≡ earlier (due_in idle ss) (due_of idle s)
due_push idle [] s = earlier_none (due_of idle s)
due_push idle (x ∷ ss) s = ap (λ (a : Option ℕ). earlier (due_of idle x) a) (due_push idle ss s) ∙ sym (earlier_assoc (due_of idle x) (due_in idle ss) (due_of idle s))

-- one more stream of a list
due_more : (idle i due other : ℕ) (ss : List StreamState) (d : StreamState) → i < length ss → due ≡ or_max (due_in idle (take i ss)) → other ≡ or_max (due_of idle (get_or ss i d))
    → due < 2 ^ 64 → other < 2 ^ 64 → min due other ≡ or_max (due_in idle (take (i + 1) ss))
due_more idle i due other ss d within so_far is few less =
    let a : Option ℕ = due_in idle (take i ss) in
    let b : Option ℕ = due_of idle (get_or ss i d) in
    ap (λ (n : ℕ). min n other) so_far ∙ ap (λ (n : ℕ). min (or_max a) n) is
    ∙ sym (earlier_max a b (omega (arith, so_far, few)) (omega (arith, is, less)))
    ∙ ap or_max (sym (ap (due_in idle) (take_more ss i d within) ∙ due_push idle (take i ss) (get_or ss i d)))

-- ---- a step of the list

pub steps_length : (now : Ticks) (idle : ℕ) (ss ts : List StreamState) (turn : Option Turn) → StepsFirst now idle ss turn ts → length ts ≡ length ss
steps_length now idle ss ts None got = quiet_length now idle ss ts got
steps_length now idle ss ts (Some turn) got = first_length now idle ss ts turn got

-- one more stream of a list, as a loop reads it
pub due_and : (idle i least due other : ℕ) (ss : List StreamState) (x : StreamState) → least ≡ min due other → i < length ss → x ≡ get_or ss i x → due ≡ or_max (due_in idle (take i ss))
    → other ≡ or_max (due_of idle x) → due < 2 ^ 64 → other < 2 ^ 64 → least ≡ or_max (due_in idle (take (i + 1) ss))
due_and idle i least due other ss x is within at so_far own few less =
    is ∙ due_more idle i due other ss x within so_far (own ∙ ap (λ (s : StreamState). or_max (due_of idle s)) at) few less
