-- The SSRCs of streams: what keeps them, and what the list of them finds.
use Rattle.std.proofs.Common.{◌≡◌, ◌≢◌, ◌∙◌, ◌<◌, ◌≤◌, ◌||◌, ◌&&◌, ℕ, zero, suc, ◌+◌, ◌-◌, List, [], ◌∷◌, ◌++◌, length, map, set, get_or, Option, Some, None, Bool, true, false, not, is_ok, ap, refl, sym, subst, arith, inl, inr}
use Rattle.std.proofs.lemmas.List.{get_or_default, with_items_is}
use Rattle.std.specs.Global.{Vec}
use Rattle.std.specs.Prelude.{IfSome, nat_le, nat_lt, ◌==◌}
use Rattle.std.specs.List.{AllWithin, position, position_or_len, remove}
use Rattle.std.proofs.lemmas.Bool.{cases_lt}
use Rattle.std.proofs.lemmas.Bool.Decides.{nat_tests}
use Rattle.std.proofs.lemmas.List.Sums.{position_or_len_is}
use Rattle.codec_payload_index.specs.Ssrcs.{IsFirstFrom, IsPlaceFrom}
use Rattle.std.specs.Vec.{with_items}
use Rattle.codec_payload_base.specs.declared.wire.Ticks.{Ticks}
use Rattle.codec_payload_jitter.specs.declared.outcome.Outcome.{Outcome}
use Rattle.codec_payload_receiver.specs.declared.receiver.ReceiveError.{ReceiveError}
use Rattle.codec_payload_receiver.specs.Sessions.{Session as Receiver}
use Rattle.std.specs.declared.result.Result.{Result}
use Rattle.codec_payload_rtp.specs.RtpReading.{rtp_at}
use Rattle.codec_payload_session_stream.specs.Trips.{with_round_trip, with_round_trips}
use Rattle.codec_payload_session_stream.specs.Streams.{Drains, RequestsBy, RestsBy, Steps, StepsBy, is_of, Follows, StreamState, Takes, end_of, heard_unless, is_accepted, is_no_memory, is_probation, late_followed, late_noted, left_when, payload_size, received, trip_when, waiting_for, waiting_when, with_edges, probed}
use Rattle.codec_payload_jitter.specs.declared.jitter.WaitLimits.{WaitLimits}
use Rattle.codec_payload_session.specs.Arrivals.{has_ssrc}
use Rattle.codec_payload_session_stream.specs.Changes.{any_left_behind, are_alike, continued, is_left_behind, is_playing, left_behind, takes_turns}
use Rattle.codec_payload_session_formats.specs.Formats.{is_video}
use Rattle.codec_payload_session_requests.specs.Late.{limit_by}
use Rattle.codec_payload_session_stream.specs.Pairs.{paired_when}
use Rattle.codec_payload_session.specs.Reporting.{all_reported, is_chosen, room_after}
use Rattle.codec_payload_session_stream.specs.Reports.{reported_if}
use Rattle.codec_payload_session_formats.specs.declared.formats.Format.{Format}
use Rattle.codec_payload_session_formats.specs.declared.formats.SsrcPair.{SsrcPair}
use Rattle.codec_payload_session_stream.specs.declared.stream.Ending.TheVariants as endings
use Rattle.codec_payload_session_stream.specs.Turns.{AreQuiet, FirstSteps, StepsFirst}
use Rattle.codec_payload_session_stream.specs.Units.{Step, Turn}
use Rattle.codec_payload_session_stream.specs.Waking.{Grows, IsBound, SaysNothing, ssrcs_of}
use Rattle.codec_payload_session.specs.Waking.{IsIndexed}
use Rattle.codec_payload_session_stream.specs.declared.stream.Ending.{Ending}
use Rattle.codec_payload_session_stream.specs.declared.stream.Stage.{Stage}
use Rattle.codec_payload_session_stream.specs.declared.stream.Stage.TheVariants as stages
use Rattle.codec_payload_session_stream.specs.declared.waking.Waking.{Waking}
use Rattle.codec_payload_session_stream.proofs.WakingLemmas.{says_bound}
use Rattle.codec_payload_session_stream.proofs.SsrcLemmas.{count_of, ssrc_at}

-- ---- lists

pub same_mapped : (f : StreamState → StreamState) (ss : List StreamState) → ((s : StreamState) → (f s).ssrc ≡ s.ssrc) → ssrcs_of (map f ss) ≡ ssrcs_of ss
same_mapped f [] same = refl
same_mapped f (s ∷ ss) same = ap (λ (n : ℕ). n ∷ ssrcs_of (map f ss)) (same s) ∙ ap (λ (l : List ℕ). s.ssrc ∷ l) (same_mapped f ss same)

pub same_set : (ss : List StreamState) (i : ℕ) (x t : StreamState) → i < length ss → x ≡ get_or ss i x → t.ssrc ≡ x.ssrc → ssrcs_of (set ss i t) ≡ ssrcs_of ss
same_set [] i x t within there same = absurd (omega (arith, within))
same_set (s ∷ ss) zero x t within there same = ap (λ (n : ℕ). n ∷ ssrcs_of ss) (same ∙ ap (λ (y : StreamState). y.ssrc) there)
same_set (s ∷ ss) (suc i) x t within there same = ap (λ (l : List ℕ). s.ssrc ∷ l) (same_set ss i x t (omega (arith, within)) there same)

pub of_removed : (ss : List StreamState) (i : ℕ) → ssrcs_of (remove ss i) ≡ remove (ssrcs_of ss) i
of_removed [] zero = refl
of_removed [] (suc i) = refl
of_removed (s ∷ ss) zero = refl
of_removed (s ∷ ss) (suc i) = ap (λ (l : List ℕ). s.ssrc ∷ l) (of_removed ss i)

pub of_added : (ss : List StreamState) (s : StreamState) → ssrcs_of (ss ++ s ∷ []) ≡ ssrcs_of ss ++ s.ssrc ∷ []
of_added [] s = refl
of_added (x ∷ ss) s = ap (λ (l : List ℕ). x.ssrc ∷ l) (of_added ss s)

-- the streams that are written back
pub written_is : (v : Vec StreamState) (ts : List StreamState) → ssrcs_of ts ≡ ssrcs_of v.items → (with_items v ts).items ≡ ts
written_is v ts same =
    let long : length ts ≡ length v.items = sym (count_of ts) ∙ ap (λ (l : List ℕ). length l) same ∙ count_of v.items in
    with_items_is v ts (omega (arith, long, v.ok.0))

pub kept : (w : Waking) (ids : List ℕ) (v : Vec StreamState) (ts : List StreamState) → IsBound w ts → ids ≡ ssrcs_of v.items → ssrcs_of ts ≡ ssrcs_of v.items → IsIndexed w ids (with_items v ts).items
kept w ids v ts bound is same = subst (λ (l : List StreamState). IsIndexed w ids l) (sym (written_is v ts same)) (record { bound = bound; listed = is ∙ sym same })

-- the same with no times
pub forgotten : (w : Waking) (ids : List ℕ) (v : Vec StreamState) (ts : List StreamState) → SaysNothing w → ids ≡ ssrcs_of v.items → ssrcs_of ts ≡ ssrcs_of v.items → IsIndexed w ids (with_items v ts).items
forgotten w ids v ts says is same = kept w ids v ts (says_bound w ts says) is same

-- one more stream
pub grown : (w : Waking) (before ids : List ℕ) (ss ts : List StreamState) (s : StreamState) → Grows w ss → before ≡ ssrcs_of ss → ids ≡ before ++ s.ssrc ∷ [] → ts ≡ ss ++ s ∷ [] → IsIndexed w ids ts
grown w before ids ss ts s grows listed more longer = record {
  bound = subst (λ (l : List StreamState). IsBound w l) (sym longer) (grows.bound s);
  listed = more ∙ ap (λ (l : List ℕ). l ++ s.ssrc ∷ []) listed ∙ sym (of_added ss s) ∙ sym (ap ssrcs_of longer);
}

-- ---- one stream

pub left_ssrc : (b : Bool) (why : Ending) (at : ℕ) (s : StreamState) → (left_when b why at s).ssrc ≡ s.ssrc
left_ssrc true why at s = refl
left_ssrc false why at s = refl

waiting_ssrc : (o : Option ℕ) (s : StreamState) → (waiting_for o s).ssrc ≡ s.ssrc
waiting_ssrc None s = refl
waiting_ssrc (Some wait) s = refl

received_ssrc : (now : ℕ) (bytes : List ℕ) (b : Bool) (r : Receiver) (s : StreamState) → (received now bytes b r s).ssrc ≡ s.ssrc
received_ssrc now bytes true r s = waiting_ssrc _ _
received_ssrc now bytes false r s = refl

late_ssrc : (b : Bool) (now : ℕ) (bytes : List ℕ) (s : StreamState) → (late_followed b now bytes s).ssrc ≡ s.ssrc
late_ssrc true now bytes s = waiting_ssrc (limit_by (late_noted now bytes s).late) (late_noted now bytes s)
late_ssrc false now bytes s = refl

heard_ssrc : (b : Bool) (now probation : ℕ) (accepted : Bool) (size : ℕ) (s : StreamState) → (heard_unless b now probation accepted size s).ssrc ≡ s.ssrc
heard_ssrc true now probation accepted size s = refl
heard_ssrc false now probation accepted size s = refl

pub takes_ssrc : (now : Ticks) (probation : ℕ) (bytes : List ℕ) (s : StreamState) (answer : Result Outcome ReceiveError) (t : StreamState) → Takes now probation bytes s answer t → t.ssrc ≡ s.ssrc
takes_ssrc now probation bytes s answer t got =
    let r : StreamState = received now.0 bytes (is_accepted answer) got.0 (with_edges got.0 got.1 (probed bytes answer s)) in
    ap (λ (x : StreamState). x.ssrc) got.3 ∙ heard_ssrc (is_no_memory answer) now.0 probation (is_accepted answer) (payload_size (rtp_at bytes)) (late_followed (is_ok answer) now.0 bytes r)
    ∙ late_ssrc (is_ok answer) now.0 bytes r
    ∙ received_ssrc now.0 bytes (is_accepted answer) got.0 (with_edges got.0 got.1 (probed bytes answer s))

drains_ssrc : (o : Option Ending) (s t : StreamState) → Drains o s t → t.ssrc ≡ s.ssrc
drains_ssrc None s t got = ap (λ (x : StreamState). x.ssrc) got
drains_ssrc (Some why) s t got = ap (λ (x : StreamState). x.ssrc) got.2

requests_ssrc : (o : Option _) (now : ℕ) (s : StreamState) (step : Step) (t : StreamState) → RequestsBy o now s step t → t.ssrc ≡ s.ssrc
requests_ssrc None now s step t got = ap (λ (x : StreamState). x.ssrc) got.1
requests_ssrc (Some a) now s step t got = ap (λ (x : StreamState). x.ssrc) got.after

rests_ssrc : (stage : Stage) (now : ℕ) (s : StreamState) (step : Step) (t : StreamState) → RestsBy stage now s step t → t.ssrc ≡ s.ssrc
rests_ssrc stages.Probation now s step t got = ap (λ (x : StreamState). x.ssrc) got.1
rests_ssrc stages.Playing now s step t got = requests_ssrc s.feedback now s step t got
rests_ssrc (stages.Leaving why at) now s step t got = ap (λ (x : StreamState). x.ssrc) got.1
rests_ssrc (stages.Draining why) now s step t got = ap (λ (x : StreamState). x.ssrc) got.1

follows_ssrc : (o : Option _) (now : ℕ) (s : StreamState) (step : Step) (t : StreamState) → Follows o now s step t → t.ssrc ≡ s.ssrc
follows_ssrc None now s step t got = rests_ssrc s.stage now s step t got
follows_ssrc (Some told) now s step t got = ap (λ (x : StreamState). x.ssrc) got.1

by_steps : (probing announced : Bool) (now : Ticks) (idle : ℕ) (s : StreamState) (step : Step) (t : StreamState) → StepsBy probing announced now idle s step t → t.ssrc ≡ s.ssrc
by_steps true announced now idle s step t got = ap (λ (x : StreamState). x.ssrc) got.1
by_steps false false now idle s step t got = ap (λ (x : StreamState). x.ssrc) got.1
by_steps false true now idle s step t got =
    follows_ssrc got.2.told now.0 (record got.0 { receiver = got.2.receiver }) step t got.2.follows ∙ drains_ssrc (end_of now.0 idle s) s got.0 got.1

pub steps_ssrc : (now : Ticks) (idle : ℕ) (s : StreamState) (step : Step) (t : StreamState) → Steps now idle s step t → t.ssrc ≡ s.ssrc
steps_ssrc now idle s step t got = by_steps (is_probation s.stage) s.announced now idle s step t got

-- ---- a step of the list

quiet_ssrcs : (now : Ticks) (idle : ℕ) (ss ts : List StreamState) → AreQuiet now idle ss ts → ssrcs_of ts ≡ ssrcs_of ss
quiet_ssrcs now idle [] [] got = refl
quiet_ssrcs now idle [] (t ∷ ts) got = absurd got
quiet_ssrcs now idle (s ∷ ss) [] got = absurd got
quiet_ssrcs now idle (s ∷ ss) (t ∷ ts) got =
    ap (λ (n : ℕ). n ∷ ssrcs_of ts) (steps_ssrc now idle s _ t got.0) ∙ ap (λ (l : List ℕ). s.ssrc ∷ l) (quiet_ssrcs now idle ss ts got.1)

of_parts : (xs ys : List StreamState) → ssrcs_of (xs ++ ys) ≡ ssrcs_of xs ++ ssrcs_of ys
of_parts [] ys = refl
of_parts (x ∷ xs) ys = ap (λ (l : List ℕ). x.ssrc ∷ l) (of_parts xs ys)

first_ssrcs : (now : Ticks) (idle : ℕ) (ss : List StreamState) (turn : Turn) (ts : List StreamState) → FirstSteps now idle ss turn ts → ssrcs_of ts ≡ ssrcs_of ss
first_ssrcs now idle ss turn ts got =
    ap ssrcs_of got.after ∙ of_parts got.quiet (got.stepped ∷ got.rest)
    ∙ ap (λ (l : List ℕ). l ++ got.stepped.ssrc ∷ ssrcs_of got.rest) (quiet_ssrcs now idle got.front got.quiet got.are_quiet)
    ∙ ap (λ (n : ℕ). ssrcs_of got.front ++ n ∷ ssrcs_of got.rest) (steps_ssrc now idle got.stream turn.step got.stepped got.steps)
    ∙ sym (of_parts got.front (got.stream ∷ got.rest)) ∙ sym (ap ssrcs_of got.before)

pub step_ssrcs : (now : Ticks) (idle : ℕ) (ss : List StreamState) (turn : Option Turn) (ts : List StreamState) → StepsFirst now idle ss turn ts → ssrcs_of ts ≡ ssrcs_of ss
step_ssrcs now idle ss None ts got = quiet_ssrcs now idle ss ts got
step_ssrcs now idle ss (Some turn) ts got = first_ssrcs now idle ss turn ts got

-- ---- what the list finds

-- a test that fails for each stream of another SSRC
pub record IsOfSsrc (ssrc : ℕ) (p : StreamState → Bool) : Type 0 where
  pub fails : (s : StreamState) → s.ssrc ≢ ssrc → p s ≡ false

pub none_before : (p : StreamState → Bool) (ssrc from place : ℕ) (ss : List StreamState) → IsOfSsrc ssrc p → AllWithin (λ (s : StreamState). p s ≡ false) ss 0 from → IsPlaceFrom from ssrc (ssrcs_of ss) place
    → AllWithin (λ (s : StreamState). p s ≡ false) ss 0 place
none_before p ssrc from place ss only none found = λ k d low l. elim (cases_lt k from) [
  | inl early ↦ none k d low early
  | inr late ↦ only.fails (get_or ss k d) (λ same. found.first k 0 late l (ssrc_at ss k d (omega (arith, l, found.within, count_of ss)) ∙ same))
]

pub none_at_all : (p : StreamState → Bool) (ssrc from : ℕ) (ss : List StreamState) → IsOfSsrc ssrc p → AllWithin (λ (s : StreamState). p s ≡ false) ss 0 from
    → AllWithin (λ (n : ℕ). n ≢ ssrc) (ssrcs_of ss) from (length (ssrcs_of ss)) → AllWithin (λ (s : StreamState). p s ≡ false) ss 0 (length ss)
none_at_all p ssrc from ss only none missing = λ k d low l. elim (cases_lt k from) [
  | inl early ↦ none k d low early
  | inr late ↦ only.fails (get_or ss k d) (λ same. missing k 0 late (omega (arith, l, count_of ss)) (ssrc_at ss k d l ∙ same))
]

pub one_more : (p : StreamState → Bool) (place : ℕ) (ss : List StreamState) (x : StreamState) → AllWithin (λ (s : StreamState). p s ≡ false) ss 0 place → place < length ss → x ≡ get_or ss place x → p x ≡ false
    → AllWithin (λ (s : StreamState). p s ≡ false) ss 0 (place + 1)
one_more p place ss x none within is fails = λ k d low l. elim (cases_lt k place) [
  | inl early ↦ none k d low early
  | inr late ↦
      let there : get_or ss k d ≡ x = ap (λ (i : ℕ). get_or ss i d) (omega arith) ∙ get_or_default ss place d x within ∙ sym is in
      ap p there ∙ fails
]

pub first_at : (p : StreamState → Bool) (ss : List StreamState) (place : ℕ) (x : StreamState) → place < length ss → AllWithin (λ (s : StreamState). p s ≡ false) ss 0 place → x ≡ get_or ss place x → p x ≡ true
    → Some place ≡ position p ss
first_at p ss place x within none is passes =
    let at : position_or_len p ss ≡ place = position_or_len_is p ss place x (omega (arith, within)) (λ k l. none k x (omega arith) l) (λ _. ap p (sym is) ∙ passes) in
    let less : nat_lt (position_or_len p ss) (length ss) ≡ true = grind (arith, nat_tests, at, within) in
    rw (less, at) refl

pub nowhere : (p : StreamState → Bool) (ss : List StreamState) → AllWithin (λ (s : StreamState). p s ≡ false) ss 0 (length ss) → None ≡ position p ss
nowhere p [] none = refl
nowhere p (s ∷ ss) none =
    let at : position_or_len p (s ∷ ss) ≡ length (s ∷ ss) = position_or_len_is p (s ∷ ss) (length (s ∷ ss)) s (omega arith) (λ k l. none k s (omega arith) l) (λ l. absurd (omega (arith, l))) in
    let most : nat_lt (position_or_len p (s ∷ ss)) (length (s ∷ ss)) ≡ false = grind (arith, nat_tests, at) in
    rw most refl

pub of_ssrc : (ssrc payload_type : ℕ) → IsOfSsrc ssrc (is_of ssrc payload_type)
of_ssrc ssrc payload_type = record {
  fails = λ s other.
      let e : (s.ssrc == ssrc) ≡ false = grind (arith, nat_tests, other) in
      ap (λ (b : Bool). b && (s.format.payload_type == payload_type)) e;
}

-- a stream that the list finds
pub record IsFound (ssrc from place : ℕ) (ss : List StreamState) (x : StreamState) : Type 0 where
  pub within : place < length ss
  pub behind : from ≤ place
  pub ssrc_is : x.ssrc ≡ ssrc

pub found_in : (ids : List ℕ) (ssrc from place : ℕ) (ss : List StreamState) (x : StreamState) → ids ≡ ssrcs_of ss → IsPlaceFrom from ssrc ids place → x ≡ get_or ss place x → IsFound ssrc from place ss x
found_in ids ssrc from place ss x is found there =
    let it : IsPlaceFrom from ssrc (ssrcs_of ss) place = subst (λ (l : List ℕ). IsPlaceFrom from ssrc l place) is found in
    let within : place < length ss = omega (arith, it.within, count_of ss) in
    record {
      within = within;
      behind = it.behind;
      ssrc_is = ap (λ (s : StreamState). s.ssrc) there ∙ sym (ssrc_at ss place x within) ∙ it.has;
    }

pub is_of_it : (ssrc payload_type : ℕ) (x : StreamState) → x.ssrc ≡ ssrc → x.format.payload_type ≡ payload_type → is_of ssrc payload_type x ≡ true
is_of_it ssrc payload_type x one two = grind (arith, nat_tests, one, two)

pub is_not_of : (ssrc payload_type : ℕ) (x : StreamState) → x.format.payload_type ≢ payload_type → is_of ssrc payload_type x ≡ false
is_not_of ssrc payload_type x other =
    let e : (x.format.payload_type == payload_type) ≡ false = grind (arith, nat_tests, other) in
    and_false (x.ssrc == ssrc) (x.format.payload_type == payload_type) e
  where
    and_false : (a b : Bool) → b ≡ false → (a && b) ≡ false
    and_false true b is = is
    and_false false b is = refl

-- ---- the first stream of an SSRC

of_only : (ssrc : ℕ) → IsOfSsrc ssrc (has_ssrc ssrc)
of_only ssrc = record { fails = λ s other. grind (arith, nat_tests, other) }

-- there is a stream at a place
record IsThere (place : ℕ) (ss : List StreamState) : Type 0 where
  stream : StreamState
  is : stream ≡ get_or ss place stream

there : (place : ℕ) (ss : List StreamState) → place < length ss → IsThere place ss
there place [] within = absurd (omega (arith, within))
there zero (s ∷ ss) within = record { stream = s; is = refl }
there (suc place) (s ∷ ss) within =
    let it = there place ss (omega (arith, within)) in
    record { stream = it.stream; is = it.is }

pub first_of : (ssrc : ℕ) (ids : List ℕ) (ss : List StreamState) (found : Option ℕ) → ids ≡ ssrcs_of ss → IsFirstFrom 0 ssrc ids found → found ≡ position (has_ssrc ssrc) ss
first_of ssrc ids ss found listed first = by_answer found (subst (λ (l : List ℕ). IsFirstFrom 0 ssrc l found) listed first)
  where
    by_answer : (o : Option ℕ) → IsFirstFrom 0 ssrc (ssrcs_of ss) o → o ≡ position (has_ssrc ssrc) ss
    by_answer None missing = nowhere (has_ssrc ssrc) ss (none_at_all (has_ssrc ssrc) ssrc 0 ss (of_only ssrc) (λ k d low l. absurd (omega (arith, l))) missing)
    by_answer (Some place) it =
        let within : place < length ss = omega (arith, it.within, count_of ss) in
        let here = there place ss within in
        let ssrc_is : here.stream.ssrc ≡ ssrc = ap (λ (s : StreamState). s.ssrc) here.is ∙ sym (ssrc_at ss place here.stream within) ∙ it.has in
        let none = none_before (has_ssrc ssrc) ssrc 0 place ss (of_only ssrc) (λ k d low l. absurd (omega (arith, l))) it in
        first_at (has_ssrc ssrc) ss place here.stream within none here.is (grind (arith, nat_tests, ssrc_is))

pub first_within : (ssrc : ℕ) (ids : List ℕ) (ss : List StreamState) (found : Option ℕ) → ids ≡ ssrcs_of ss → IsFirstFrom 0 ssrc ids found → IfSome found (λ (place : ℕ). place < length ss)
first_within ssrc ids ss found listed first = by_answer found (subst (λ (l : List ℕ). IsFirstFrom 0 ssrc l found) listed first)
  where
    by_answer : (o : Option ℕ) → IsFirstFrom 0 ssrc (ssrcs_of ss) o → IfSome o (λ (place : ℕ). place < length ss)
    by_answer None missing = tt
    by_answer (Some place) it = omega (arith, it.within, count_of ss)

-- ---- the streams that the sender left

pub of_left : (now wait ssrc : ℕ) (f : Format) → IsOfSsrc ssrc (is_left_behind now wait ssrc f)
of_left now wait ssrc f = record {
  fails = λ s other.
      let e : (s.ssrc == ssrc) ≡ false = grind (arith, nat_tests, other) in
      ap (λ (b : Bool). b && not (s.format.payload_type == f.payload_type) && not (takes_turns s.format.spec.codec)
      && are_alike (is_video s.format.spec.codec) (is_video f.spec.codec) && is_playing s.stage && nat_le wait (now - s.last)) e;
}

pub one_left : (now wait ssrc : ℕ) (f : Format) (ss : List StreamState) (place : ℕ) (x : StreamState) → place < length ss → x ≡ get_or ss place x → is_left_behind now wait ssrc f x ≡ true
    → any_left_behind now wait ssrc f ss ≡ true
one_left now wait ssrc f [] place x within is left = absurd (omega (arith, within))
one_left now wait ssrc f (s ∷ ss) zero x within is left = ap (λ (b : Bool). b || any_left_behind now wait ssrc f ss) (ap (λ (y : StreamState). is_left_behind now wait ssrc f y) (sym is) ∙ left)
one_left now wait ssrc f (s ∷ ss) (suc place) x within is left =
    ap (λ (b : Bool). is_left_behind now wait ssrc f s || b) (one_left now wait ssrc f ss place x (omega (arith, within)) is left) ∙ or_true (is_left_behind now wait ssrc f s)
  where
    or_true : (a : Bool) → (a || true) ≡ true
    or_true true = refl
    or_true false = refl

pub none_left : (now wait ssrc : ℕ) (f : Format) (ss : List StreamState) → AllWithin (λ (s : StreamState). is_left_behind now wait ssrc f s ≡ false) ss 0 (length ss)
    → any_left_behind now wait ssrc f ss ≡ false
none_left now wait ssrc f [] none = refl
none_left now wait ssrc f (s ∷ ss) none =
    ap (λ (b : Bool). b || any_left_behind now wait ssrc f ss) (none 0 s (omega arith) (omega arith))
    ∙ none_left now wait ssrc f ss (λ k d low l. none (suc k) d (omega arith) (omega (arith, l)))

-- ---- calls

pub waiting_when_ssrc : (b : Bool) (limits : WaitLimits) (s : StreamState) → (waiting_when b limits s).ssrc ≡ s.ssrc
waiting_when_ssrc true limits s = refl
waiting_when_ssrc false limits s = refl

pub trip_when_ssrc : (b : Bool) (round_trip : Option ℕ) (s : StreamState) → (trip_when b round_trip s).ssrc ≡ s.ssrc
trip_when_ssrc true round_trip s = waiting_ssrc _ _
trip_when_ssrc false round_trip s = refl

pub same_trips : (round_trip : Option ℕ) (ss : List StreamState) → ssrcs_of (with_round_trips round_trip ss) ≡ ssrcs_of ss
same_trips round_trip ss = same_mapped (with_round_trip round_trip) ss (λ s. refl)

pub paired_when_ssrc : (b : Bool) (pairs : List SsrcPair) (s : StreamState) → (paired_when b pairs s).ssrc ≡ s.ssrc
paired_when_ssrc true pairs s = refl
paired_when_ssrc false pairs s = refl

pub same_continued : (b : Bool) (now wait ssrc : ℕ) (f : Format) (ss : List StreamState) → ssrcs_of (continued b now wait ssrc f ss) ≡ ssrcs_of ss
same_continued true now wait ssrc f ss = same_mapped (left_behind now wait ssrc f) ss (λ s. left_ssrc (is_left_behind now wait ssrc f s) endings.Changed now s)
same_continued false now wait ssrc f ss = refl

pub same_reported : (is_new : Bool) (room : ℕ) (ss : List StreamState) → ssrcs_of (all_reported is_new room ss) ≡ ssrcs_of ss
same_reported is_new room [] = refl
same_reported is_new room (s ∷ ss) =
    ap (λ (n : ℕ). n ∷ ssrcs_of (all_reported is_new (room_after (is_chosen is_new room s ss) room) ss)) (reported_ssrc (is_chosen is_new room s ss))
    ∙ ap (λ (l : List ℕ). s.ssrc ∷ l) (same_reported is_new (room_after (is_chosen is_new room s ss) room) ss)
  where
    reported_ssrc : (b : Bool) → (reported_if b is_new s).ssrc ≡ s.ssrc
    reported_ssrc true = refl
    reported_ssrc false = refl
