-- Streams that are not asked, as they have no event.
use Rattle.std.proofs.Common.{◌≡◌, ◌∙◌, refl, ap, sym, subst, ℕ, zero, suc, ◌-◌, ◌^◌, ◌<◌, ◌≤◌, ◌==◌, not, Bool, true, false, Option, Some, None, Result, Ok, Err, length, arith}
use Rattle.std.specs.Prelude.{nat_le, if◌then◌else◌}
use Rattle.std.specs.Global.{Vec}
use Rattle.std.specs.declared.alloc.AllocError.{AllocError}
use Rattle.std.proofs.lemmas.Bool.Decides.{nat_tests}
use Rattle.codec_payload_base.specs.declared.error.PacketError.{PacketError}
use Rattle.codec_payload_base.specs.declared.wire.Ticks.{Ticks}
use Rattle.codec_payload_metadata.specs.Release.{Release}
use Rattle.codec_payload_jitter.specs.Receiving.{Receiving, deadline_of, settled, waiting_at}
use Rattle.codec_payload_keyframes.specs.References.{no_references}
use Rattle.codec_payload_receiver.specs.Pops.{DropsUnits, PopsGated, PopsOnce, none_dropped, one_more, without_unit}
use Rattle.codec_payload_receiver.specs.Sessions.{Session as Receiver}
use Rattle.codec_payload_session_requests.specs.Late.{unboxed}
use Rattle.codec_payload_session_requests.specs.Probes.{in_box}
use Rattle.codec_payload_session_stream.specs.Quiet.{AsksNothing, IsBefore, IsKnown, IsQuiet, IsQuietUntil, PopsNothing, Rests, RestsUntil, or_none, time_of}
use Rattle.codec_payload_session_requests.specs.Requests.{MayRest, Asking, Asks, is_heard, requests_due}
use Rattle.codec_payload_session_stream.specs.Streams.{Drains, Plays, Pops, RequestsBy, RestsBy, Steps, StepsBy, StreamState, earlier, end_by, is_probation, request_deadline, step_of, work_deadline}
use Rattle.codec_payload_session_stream.specs.declared.stream.Ending.{Ending}
use Rattle.codec_payload_session_stream.specs.declared.stream.Ending.TheVariants as endings
use Rattle.codec_payload_session_stream.specs.declared.stream.Stage.{Stage}
use Rattle.codec_payload_session_stream.specs.declared.stream.Stage.TheVariants as stages
use Rattle.codec_payload_session_stream.specs.declared.stream.Step.TheVariants as steps
use Rattle.codec_payload_session_stream.specs.declared.stream.StreamState.TheInside.{Inside}
use Rattle.codec_payload_session_stream.proofs.CalmLemmas.{asks_again}
use Rattle.codec_payload_session_stream.proofs.RestLemmas.{pops_again, pops_few}

-- ---- the receiver

pub once_few : (now : ℕ) (s t : Receiver) (answer : Option (Result Release PacketError)) → PopsOnce now s answer t → length t.packets.buffer.held ≤ length s.packets.buffer.held
once_few now s t answer pops =
    let held : length t.packets.buffer.held ≡ length pops.packets.buffer.held = ap (λ (x : Receiver). length x.packets.buffer.held) pops.left in
    let few = pops_few (waiting_at (settled s.packets) now) s.packets pops.packets answer pops.pops in
    omega (arith, held, few)

pub drops_few : (now : ℕ) (s t : Receiver) → DropsUnits now s t → length t.packets.buffer.held ≤ length s.packets.buffer.held
drops_few now s t none_dropped = omega arith
drops_few now s t (one_more {mid = mid} unit before passes) =
    let first : length mid.packets.buffer.held ≤ length s.packets.buffer.held = drops_few now s mid before in
    let second : length t.packets.buffer.held ≤ length mid.packets.buffer.held = once_few now mid t (Some (Ok unit)) passes.0 in
    omega (arith, first, second)

-- a pop without a unit that leaves all packets: until the deadline each pop is one
pub receiver_rests : (now later : ℕ) (s t : Receiver) → PopsGated now s None t → length t.packets.buffer.held ≡ length s.packets.buffer.held → later < 2 ^ 64
    → IsBefore (deadline_of t.packets) later → PopsNothing later t.packets
receiver_rests now later s t gated same few before =
    let is : t.packets ≡ gated.pops.packets = ap (λ (x : Receiver). x.packets) gated.pops.left in
    let held : length t.packets.buffer.held ≡ length gated.pops.packets.buffer.held = ap (λ (x : Receiving). length x.buffer.held) is in
    let first : length gated.mid.packets.buffer.held ≤ length s.packets.buffer.held = drops_few now s gated.mid gated.dropped in
    let second : length gated.pops.packets.buffer.held ≤ length gated.mid.packets.buffer.held = pops_few (waiting_at (settled gated.mid.packets) now) gated.mid.packets gated.pops.packets None gated.pops.pops in
    let all : length gated.pops.packets.buffer.held ≡ length gated.mid.packets.buffer.held = omega (arith, same, held, first, second) in
    let early : IsBefore (deadline_of gated.pops.packets) later = subst (λ (x : Receiving). IsBefore (deadline_of x) later) is before in
    subst (λ (x : Receiving). PopsNothing later x) (sym is) (pops_again now later gated.mid.packets gated.pops.packets gated.pops.pops all few early)

pub same_number : (n : ℕ) → (n == n) ≡ true
same_number n = grind (arith, nat_tests)

-- such a pop changes nothing in the receiver either
nothing_popped : (now : ℕ) (r : Receiver) → PopsNothing now r.packets → PopsGated now r None r
nothing_popped now r pops = record {
  mid = r;
  dropped = none_dropped;
  pops = record {
    packets = r.packets;
    references = no_references;
    notes = r.notes;
    pops = pops;
    takes = (refl, refl);
    left = ap (λ (b : Bool). record r { gates = without_unit r.gates (not b) }) (sym (same_number r.packets.counters.left));
  };
  passed = refl;
}

-- ---- a step that is not made

asks_by : (o : Option Asking) (now : ℕ) (s : StreamState) → s.feedback ≡ o → AsksNothing o now s.last s.receiver → RequestsBy {U = Release} o now s steps.Nothing s
asks_by None now s is asks = (refl, refl)
asks_by (Some a) now s is asks = record {
  told = Ok None;
  asking = a;
  asks = asks;
  answers = refl;
  after = ap (λ (o : Option Asking). record s { feedback = o }) is;
}

known : (until now : ℕ) (work : Option ℕ) (announced : Bool) (stage : Stage) (last : ℕ) (feedback : Option Asking) (r : Receiver) → now < until
    → IsQuietUntil until work announced stage last feedback r → IsKnown until work announced stage last feedback r
known zero now work announced stage last feedback r less quiet = absurd (omega (arith, less))
known (suc until) now work announced stage last feedback r less quiet = quiet

-- the time that a stream keeps is its own
pub kept_work : (until : ℕ) (work : Option ℕ) (s : StreamState) → 0 < until → IsQuietUntil until work s.announced s.stage s.last s.feedback s.receiver → work ≡ work_deadline s
kept_work until work s less quiet = (known until 0 work s.announced s.stage s.last s.feedback s.receiver less quiet).work_is

pub quiet_steps : (now : Ticks) (idle : ℕ) (s : StreamState) → nat_le idle (now.0 - s.last) ≡ false → IsQuiet now.0 s.announced s.stage s.last s.feedback s.receiver → Steps now idle s steps.Nothing s
quiet_steps now idle s awake quiet =
    let lasts : end_by now.0 idle s.last s.stage ≡ None =
    ap (λ (g : Stage). end_by now.0 idle s.last g) quiet.plays ∙ ap (λ (b : Bool). if b then Some endings.Timeout else None) awake in
    let rests : RestsBy {U = Release} s.stage now.0 s steps.Nothing s =
    subst (λ (g : Stage). RestsBy {U = Release} g now.0 s steps.Nothing s) (sym quiet.plays) (asks_by s.feedback now.0 s refl quiet.asks) in
    let pops : Pops now s steps.Nothing s = record { told = None; receiver = s.receiver; pops = nothing_popped now.0 s.receiver quiet.pops; refused = tt; large = refl; follows = rests } in
    let plays : Plays now idle s steps.Nothing s = (s, subst (λ (o : Option Ending). Drains o s s) (sym lasts) refl, pops) in
    subst (λ (g : Stage). StepsBy (is_probation g) s.announced now idle s steps.Nothing s) (sym quiet.plays)
    (subst (λ (b : Bool). StepsBy false b now idle s steps.Nothing s) (sym quiet.is_announced) plays)

-- a stream whose quiet time is known is quiet before it
pub quiet_before : (until now : ℕ) (work : Option ℕ) (announced : Bool) (stage : Stage) (last : ℕ) (feedback : Option Asking) (r : Receiver) → now < until → IsQuietUntil until work announced stage last feedback r → IsQuiet now announced stage last feedback r
quiet_before until now work announced stage last feedback r less quiet = (known until now work announced stage last feedback r less quiet).quiet now less

-- by the fields of the stream
pub skips : (until : ℕ) (work : Option ℕ) (now : Ticks) (idle : ℕ) (s : StreamState) → now.0 < until → now.0 - s.last < idle
    → IsQuietUntil until work s.announced s.stage s.last s.feedback s.receiver → Steps now idle s steps.Nothing s
skips until work now idle s less awake quiet =
    quiet_steps now idle s (grind (arith, nat_tests)) ((known until now.0 work s.announced s.stage s.last s.feedback s.receiver less quiet).quiet now.0 less)

-- ---- when a stream is quiet

-- what a stream that plays requested, and its receiver
abbrev Asked : ℕ → StreamState → StreamState → Type 0
Asked now s t =
    (t.receiver ≡ s.receiver)
    × ((later : ℕ) → MayRest t.feedback now later t.last t.receiver → IsBefore (requests_due t.feedback) later → AsksNothing t.feedback later t.last t.receiver)

pub told_none : (told : Result (Option (Vec ℕ)) AllocError) → steps.Nothing ≡ step_of {U = Release} told → told ≡ Ok None
told_none (Ok None) is = refl
told_none (Ok (Some packet)) is = absurd (cc)
told_none (Err e) is = absurd (cc)

asked_by : (o : Option Asking) (now : ℕ) (s t : StreamState) → RequestsBy {U = Release} o now s steps.Nothing t → s.feedback ≡ o → Asked now s t
asked_by None now s t asked is = (
  ap (λ (x : StreamState). x.receiver) asked.1,
  λ later may before. subst (λ (o : Option Asking). AsksNothing o later t.last t.receiver) (sym (ap (λ (x : StreamState). x.feedback) asked.1 ∙ is)) tt,
)
asked_by (Some a) now s t asked is = subst (λ (x : StreamState). Asked now s x) (sym asked.after) (
  refl,
  λ later may before.
      asks_again now later s.last s.receiver a asked.asking
      (subst (λ (told : Result (Option (Vec ℕ)) AllocError). Asks now (is_heard now s.last a) s.receiver a told asked.asking) (told_none asked.told asked.answers) asked.asks) may before,
)

stays : (s t : StreamState) (stage : Stage) → t ≡ s → s.stage ≡ stage → t.stage ≡ stage
stays s t stage same is = ap (λ (x : StreamState). x.stage) same ∙ is

rested_by : (g : Stage) (now : ℕ) (s t : StreamState) → s.stage ≡ g → RestsBy {U = Release} g now s steps.Nothing t → t.stage ≡ stages.Playing → Asked now s t
rested_by stages.Probation now s t is rests plays = let other : stages.Probation ≡ stages.Playing = sym (stays s t stages.Probation rests.1 is) ∙ plays in absurd (cc)
rested_by stages.Playing now s t is rests plays = asked_by s.feedback now s t rests refl
rested_by (stages.Leaving why at) now s t is rests plays =
    let other : stages.Leaving why at ≡ stages.Playing = sym (stays s t (stages.Leaving why at) rests.1 is) ∙ plays in absurd (cc)
rested_by (stages.Draining why) now s t is rests plays = let other : steps.Nothing ≡ steps.Ended why = rests.0 in absurd (cc)

pub earlier_both : (a b : Option ℕ) (now : ℕ) → IsBefore (earlier a b) now → IsBefore a now × IsBefore b now
earlier_both None b now before = (tt, before)
earlier_both (Some a) None now before = (before, tt)
earlier_both (Some a) (Some b) now before = (omega (arith, before), omega (arith, before))

quiet_until : (until : ℕ) (work : Option ℕ) (announced : Bool) (stage : Stage) (last : ℕ) (feedback : Option Asking) (r : Receiver)
    → (0 < until → IsKnown until work announced stage last feedback r) → IsQuietUntil until work announced stage last feedback r
quiet_until zero work announced stage last feedback r known = tt
quiet_until (suc until) work announced stage last feedback r known = known (omega arith)

-- a time after 0 is kept as a number
time_kept : (work : Option ℕ) → IsBefore work 0 → time_of (or_none work) ≡ work
time_kept None before = refl
time_kept (Some zero) before = absurd (omega (arith, before))
time_kept (Some (suc n)) before =
    let other : (suc n == 0) ≡ false = grind (arith, nat_tests) in
    ap (λ (b : Bool). if b then None else Some (suc n)) other

-- a stream that had no unit and nothing to request, and of which no packet left
pub rests_until : (now until kept : ℕ) (work : Option ℕ) (r : Receiver) (s t : StreamState) → PopsGated now r None s.receiver → RestsBy {U = Release} s.stage now s steps.Nothing t
    → length t.receiver.packets.buffer.held ≡ length r.packets.buffer.held → work ≡ work_deadline t → kept ≡ or_none work → RestsUntil until now t
    → IsQuietUntil until (time_of kept) t.announced t.stage t.last t.feedback t.receiver
rests_until now until kept work r s t popped rests same work_is kept_is can = quiet_until until (time_of kept) t.announced t.stage t.last t.feedback t.receiver (λ some. record {
  work_is =
      let it : Rests now 0 t = can 0 some in
      ap time_of kept_is ∙ (time_kept work (subst (λ (w : Option ℕ). IsBefore w 0) (sym work_is) it.before) ∙ work_is);
  quiet = λ later less.
      let it : Rests now later t = can later less in
      let both = earlier_both (deadline_of t.receiver.packets) (request_deadline t.stage t.feedback) later it.before in
      let asked : Asked now s t = rested_by s.stage now s t refl rests it.plays in
      let pops : PopsGated now r None t.receiver = subst (λ (x : Receiver). PopsGated now r None x) (sym asked.0) popped in
      record {
        is_announced = it.is_announced;
        plays = it.plays;
        pops = receiver_rests now later r t.receiver pops same it.few both.0;
        asks = asked.1 later it.asks (subst (λ (g : Stage). IsBefore (request_deadline g t.feedback) later) it.plays both.1);
      };
})

-- ---- fields

-- the value of these fields
abbrev pub seen : Inside → StreamState
seen s = record {
  ssrc = s.ssrc;
  format = s.format;
  receiver = s.receiver;
  edges = record { descriptor = s.descriptor; followed = s.edges };
  stage = s.stage;
  announced = s.announced;
  taken = s.taken;
  accepted = s.accepted;
  bytes = s.bytes;
  last = s.last;
  feedback = s.feedback;
  probes = in_box s.probes;
  late = unboxed s.late;
  sender_clock = s.sender_clock;
  was_reported = s.was_reported;
  name_ids = s.name_ids;
  names = s.names;
}
