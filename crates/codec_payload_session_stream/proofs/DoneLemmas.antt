-- A stream that is done after a unit has no event until a datagram arrives.
use Rattle.std.proofs.Common.{◌≡◌, ◌∙◌, refl, ap, sym, subst, ℕ, zero, suc, ◌-◌, ◌==◌, ◌&&◌, ◌||◌, not, List, [], ◌∷◌, Bool, true, false, Option, Some, None, Result, Ok, Err, length, arith}
use Rattle.std.specs.Prelude.{nat_le, if◌then◌else◌}
use Rattle.std.proofs.lemmas.Bool.{false≢true}
use Rattle.std.proofs.lemmas.Bool.Decides.{nat_tests}
use Rattle.std.specs.declared.alloc.AllocError.{AllocError}
use Rattle.codec_payload_base.specs.declared.error.PacketError.{PacketError}
use Rattle.codec_payload_metadata.specs.Release.{Release}
use Rattle.codec_payload_buffer.specs.Blanks.{ready_since_among, ready_since_of, released_packets}
use Rattle.codec_payload_buffer.specs.Frames.{frames}
use Rattle.codec_payload_buffer.specs.Leaving.{left_of}
use Rattle.codec_payload_buffer.specs.Steps.{Pops, due_among, due_of, none}
use Rattle.codec_payload_buffer.specs.declared.buffer.frames.CompleteFrame.{CompleteFrame}
use Rattle.codec_payload_buffer.specs.declared.buffer.leaving.Left.{Left}
use Rattle.codec_payload_jitter.specs.NoMediaNumbers.{no_media_left, passed_no_media}
use Rattle.codec_payload_jitter.specs.Receiving.{PopsWith, Receiving, counted_pop, deadline_by, deadline_of, has_little_room, is_idle, is_none_of, is_overdue, settled, units_in, waiting_at}
use Rattle.codec_payload_jitter.specs.Waiting.{most_held_back}
use Rattle.codec_payload_jitter.specs.declared.outcome.PacketCounters.{PacketCounters}
use Rattle.codec_payload_feedback.specs.Feedback.{Requests, deadline_of as requests_deadline, is_idle as are_empty}
use Rattle.codec_payload_receiver.specs.Pops.{PopsGated, answer_of}
use Rattle.codec_payload_receiver.specs.Sessions.{Session as Receiver}
use Rattle.codec_payload_receiver.specs.declared.pops.Popped.{Popped}
use Rattle.codec_payload_receiver.specs.declared.pops.Popped.TheVariants as popped
use Rattle.codec_payload_session_requests.specs.Requests.{Asking, are_idle, is_calm, is_heard, requests_due}
use Rattle.codec_payload_session_stream.specs.Changes.{is_playing}
use Rattle.codec_payload_session_stream.specs.Quiet.{AsksNothing, IsQuietUntil, PopsNothing, is_done}
use Rattle.codec_payload_session_stream.specs.Streams.{StreamState, earlier, request_deadline}
use Rattle.codec_payload_session_stream.specs.declared.stream.Stage.{Stage}
use Rattle.codec_payload_session_stream.specs.declared.stream.Stage.TheVariants as stages
use Rattle.codec_payload_session_requests.proofs.IdleLemmas.{asks_none, idle_is}
use Rattle.codec_payload_session_stream.proofs.RestLemmas.{as_settled, counted_twice, never_overdue}

both : (a b : Bool) → (a && b) ≡ true → (a ≡ true) × (b ≡ true)
both true b is = (refl, is)
both false b is = absurd (false≢true is)

not_so : (b : Bool) → not b ≡ true → b ≡ false
not_so true is = absurd (false≢true is)
not_so false is = refl

no_items : {A : Type 0} (xs : List A) → (length xs == 0) ≡ true → xs ≡ []
no_items [] is = refl
no_items (x ∷ xs) is = absurd (grind (arith, nat_tests))

-- ---- the jitter buffer

-- what an idle jitter buffer has
record Idle (r : Receiving) : Type 0 where
  none_complete : frames r.buffer.held ≡ []
  none_noted : r.no_media_numbers ≡ []
  goes_on : r.ended ≡ false
  has_begun : is_none_of r.buffer.cutoff ≡ false
  waits : r.buffer.hold_back ≡ most_held_back r.wait_limits.hold_back
  has_room : has_little_room r ≡ false

idle_parts : (r : Receiving) → is_idle r ≡ true → Idle r
idle_parts r is =
    let room = both _ (not (has_little_room r)) is in
    let waits = both _ (r.buffer.hold_back == most_held_back r.wait_limits.hold_back) room.0 in
    let begun = both _ (not (is_none_of r.buffer.cutoff)) waits.0 in
    let on = both _ (not r.ended) begun.0 in
    let noted = both (length (frames r.buffer.held) == 0) (length r.no_media_numbers == 0) on.0 in
    record {
      none_complete = no_items (frames r.buffer.held) noted.0;
      none_noted = no_items r.no_media_numbers noted.1;
      goes_on = not_so r.ended on.1;
      has_begun = not_so (is_none_of r.buffer.cutoff) begun.1;
      waits = same r.buffer.hold_back (most_held_back r.wait_limits.hold_back) waits.1;
      has_room = not_so (has_little_room r) room.1;
    }
  where
    same : (m n : ℕ) → (m == n) ≡ true → m ≡ n
    same m n is = grind (arith, nat_tests)

settled_idle : (r : Receiving) → r.no_media_numbers ≡ [] → settled r ≡ r
settled_idle r no_numbers =
    ap (λ (ns : List ℕ). record r { buffer = passed_no_media r.buffer ns; no_media_numbers = no_media_left r.buffer ns }) no_numbers
    ∙ ap (λ (ns : List ℕ). record r { no_media_numbers = ns }) (sym no_numbers)

waits_idle : (r : Receiving) (now : ℕ) → Idle r → waiting_at r now ≡ Some r.buffer.hold_back
waits_idle r now it =
    let late : is_overdue r.wait_limits.max_wait now (ready_since_of r.buffer) ≡ false =
    ap (λ (fs : List CompleteFrame). is_overdue r.wait_limits.max_wait now (ready_since_among r.buffer.held fs)) it.none_complete ∙ never_overdue r.wait_limits.max_wait now in
    ap (λ (b : Bool). by b (is_overdue r.wait_limits.max_wait now (ready_since_of r.buffer)) (has_little_room r) (is_none_of r.buffer.cutoff)) it.goes_on
    ∙ (ap (λ (b : Bool). by false b (has_little_room r) (is_none_of r.buffer.cutoff)) late
    ∙ (ap (λ (b : Bool). by false false b (is_none_of r.buffer.cutoff)) it.has_room
    ∙ (ap (λ (b : Bool). by false false false b) it.has_begun ∙ ap (λ (n : ℕ). Some n) (sym it.waits))))
  where
    by : (ended late little begins : Bool) → Option ℕ
    by ended late little begins =
        if ended || (late || little) then Some 0
        else (if begins && nat_le (length (frames r.buffer.held)) r.wait_limits.start then None else Some (most_held_back r.wait_limits.hold_back))

-- an idle jitter buffer pops nothing at any time, once its counters have the size of a pop's
pops_idle : (r : Receiving) (c : PacketCounters) (units released : ℕ) (l : Left) → Idle r → r.counters ≡ counted_pop c units released l → (now : ℕ) → PopsNothing now r
pops_idle r c units released l it counted now =
    let due : due_of r.buffer ≡ None = ap (λ (fs : List CompleteFrame). due_among r.buffer fs) it.none_complete in
    let pops : Pops r.buffer None r.buffer = ([], (none, due)) in
    let twice : counted_pop r.counters 0 0 (left_of r.buffer None r.buffer pops) ≡ r.counters =
    subst (λ (k : PacketCounters). counted_pop k 0 0 (left_of r.buffer None r.buffer pops) ≡ k) (sym counted)
    (counted_twice c units released l (left_of r.buffer None r.buffer pops) (omega arith) refl refl) in
    as_settled now r (Some r.buffer.hold_back) (settled_idle r it.none_noted) (waits_idle r now it)
    (r.buffer, pops, ap (λ (k : PacketCounters). record r { counters = k }) (sym twice))

-- after an answer of a pop
after_answer : (wait : Option ℕ) (r t : Receiving) (answer : Option (Result Release PacketError)) → (answer ≡ None → ⊥) → PopsWith wait r answer t → is_idle t ≡ true
    → (now : ℕ) → PopsNothing now t
after_answer None r t answer some pops idle now = absurd (some pops.0)
after_answer (Some h) r t answer some pops idle now =
    pops_idle t r.counters (units_in answer) (released_packets answer) (left_of (record r.buffer { hold_back = h }) answer pops.0 pops.1) (idle_parts t idle)
    (ap (λ (x : Receiving). x.counters) pops.2) now

-- ---- the receiver

some_answer : (p : Result (Popped Release) AllocError) → answer_of (Some p) ≡ None → ⊥
some_answer (Ok (popped.Unit unit)) is = absurd (cc)
some_answer (Ok (popped.TooLarge unit)) is = absurd (cc)
some_answer (Ok (popped.Refused fault)) is = absurd (cc)
some_answer (Err e) is = absurd (cc)

receiver_idle : (now : ℕ) (s t : Receiver) (p : Result (Popped Release) AllocError) → PopsGated now s (answer_of (Some p)) t → is_idle t.packets ≡ true
    → (later : ℕ) → PopsNothing later t.packets
receiver_idle now s t p gated idle later =
    let is : t.packets ≡ gated.pops.packets = ap (λ (x : Receiver). x.packets) gated.pops.left in
    let idle_there : is_idle gated.pops.packets ≡ true = subst (λ (x : Receiving). is_idle x ≡ true) is idle in
    subst (λ (x : Receiving). PopsNothing later x) (sym is)
    (after_answer (waiting_at (settled gated.mid.packets) now) (settled gated.mid.packets) gated.pops.packets (answer_of (Some p)) (some_answer p) gated.pops.pops idle_there later)

-- ---- the stream

no_deadline : (r : Receiving) → Idle r → deadline_of r ≡ None
no_deadline r it = ap (λ (fs : List CompleteFrame). deadline_by r.wait_limits.max_wait (ready_since_among r.buffer.held fs)) it.none_complete ∙ without r.wait_limits.max_wait
  where
    without : (most : Option ℕ) → deadline_by most None ≡ None
    without None = refl
    without (Some n) = refl

no_request : (o : Option Asking) (r : Receiver) → are_idle o r ≡ true → requests_due o ≡ None
no_request None r idle = refl
no_request (Some a) r idle = ap (λ (q : Requests). requests_deadline q) (idle_is a.requests (both (are_empty a.requests) (is_calm a r) idle).0)

asks_idle : (o : Option Asking) (now last : ℕ) (r : Receiver) → are_idle o r ≡ true → AsksNothing o now last r
asks_idle None now last r idle = tt
asks_idle (Some a) now last r idle =
    let parts = both (are_empty a.requests) (is_calm a r) idle in
    asks_none now (is_heard now last a) r a parts.1 (idle_is a.requests parts.0)

playing_is : (g : Stage) → is_playing g ≡ true → g ≡ stages.Playing
playing_is stages.Probation is = absurd (cc)
playing_is stages.Playing is = refl
playing_is (stages.Leaving why at) is = absurd (cc)
playing_is (stages.Draining why) is = absurd (cc)

-- a stream that is done is quiet, whatever the time
pub done_quiet : (now until : ℕ) (r : Receiver) (p : Result (Popped Release) AllocError) (s : StreamState) → PopsGated now r (answer_of (Some p)) s.receiver → s.announced ≡ true → is_done s ≡ true
    → IsQuietUntil until None s.announced s.stage s.last s.feedback s.receiver
done_quiet now zero r p s pops announced done = tt
done_quiet now (suc until) r p s pops announced done =
    let asks = both _ (are_idle s.feedback s.receiver) done in
    let idle = both (is_playing s.stage) (is_idle s.receiver.packets) asks.0 in
    let stage : s.stage ≡ stages.Playing = playing_is s.stage idle.0 in
    let unit : deadline_of s.receiver.packets ≡ None = no_deadline s.receiver.packets (idle_parts s.receiver.packets idle.1) in
    let request : request_deadline s.stage s.feedback ≡ None = ap (λ (g : Stage). request_deadline g s.feedback) stage ∙ no_request s.feedback s.receiver asks.1 in
    record {
      work_is = sym (ap (λ (o : Option ℕ). earlier o (request_deadline s.stage s.feedback)) unit ∙ ap (λ (o : Option ℕ). earlier None o) request);
      quiet = λ at less. record {
        is_announced = announced;
        plays = stage;
        pops = receiver_idle now r s.receiver p pops idle.1 at;
        asks = asks_idle s.feedback at s.last s.receiver asks.1;
      };
    }

-- until the moment that a stream keeps after a unit: 0 is none
pub quiet_after : (now until most : ℕ) (done : Bool) (r : Receiver) (p : Result (Popped Release) AllocError) (s : StreamState) → PopsGated now r (answer_of (Some p)) s.receiver → s.announced ≡ true
    → done ≡ is_done s → until ≡ (if done then most else 0) → IsQuietUntil until None s.announced s.stage s.last s.feedback s.receiver
quiet_after now until most true r p s pops announced is until_is = done_quiet now until r p s pops announced (sym is)
quiet_after now until most false r p s pops announced is until_is = subst (λ (n : ℕ). IsQuietUntil n None s.announced s.stage s.last s.feedback s.receiver) (sym until_is) tt
