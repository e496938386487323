-- A receiver after an announced restart: the next packet of its stream begins new numbers.
use Rattle.std.proofs.Common.{◌≡◌, ◌≢◌, ◌∙◌, refl, sym, ap, subst, ℕ, ◌+◌, ◌%◌, ◌^◌, ◌<◌, ◌⊎◌, inl, inr, ◌||◌, ◌&&◌, not, cond, List, [], ◌∷◌, Bool, true, false, Option, Some, None, Err}
use Rattle.std.specs.Prelude.{is_some}
use Rattle.std.proofs.lemmas.Option.{same_Some}
use Rattle.codec_payload_base.specs.declared.error.PacketError.TheVariants as faults
use Rattle.codec_payload_base.specs.declared.wire.RtpHeader.{RtpHeader}
use Rattle.codec_payload_base.specs.declared.wire.Ticks.{Ticks}
use Rattle.codec_payload_buffer.specs.Held.{Held}
use Rattle.codec_payload_buffer.specs.Steps.{State, arrived, pushed}
use Rattle.codec_payload_metadata.specs.declared.meta.RtpMeta.{RtpMeta}
use Rattle.codec_payload_codec.specs.Depacketizers.{is_built_in_depacketizer}
use Rattle.codec_payload_numbers.specs.NotedTimes.{AreTimesOf, contradicts, is_untimely}
use Rattle.codec_payload_numbers.specs.Numbers.{Numbering, answer_anew, begun_with, number_in}
use Rattle.codec_payload_jitter.proofs.FormerLemmas.{announced_leaves_none, goes_on_former, same_former}
use Rattle.codec_payload_jitter.proofs.RestartLemmas.{answer_without_former}
use Rattle.codec_payload_jitter.specs.Receiving.{Arrival, Confirms, GoesOn, PopsWith, Receives, ReceivesAs, Receiving}
use Rattle.codec_payload_jitter.specs.Receiving.{answer_by_time, answer_in, answer_to, answer_to_contradiction, begun_anew, is_contradicted, numbered, settled, waiting_at, with_first}
use Rattle.codec_payload_jitter.specs.Receiving as jitter
use Rattle.codec_payload_numbers.specs.declared.noted_times.NotedTime.{NotedTime}
use Rattle.codec_payload_numbers.specs.declared.numbers.Extended.{Extended}
use Rattle.codec_payload_numbers.specs.declared.numbers.Extended.TheVariants as extended
use Rattle.codec_payload_jitter.specs.declared.outcome.Outcome.{Outcome}
use Rattle.codec_payload_buffer_runs.specs.Arrivals.{Arrives, Asked, Event, Meets, PopsWaiting}
use Rattle.codec_payload_buffer_runs.specs.Log.{Stretch, Turn, begun, with_pushes}
use Rattle.codec_payload_buffer_runs.specs.Schedule.{Answer}
use Rattle.codec_payload_payloader.specs.Packets.{AreNumbered, Packet}
use Rattle.codec_payload_sending.specs.declared.sender.Outgoing.{Outgoing}
use Rattle.codec_payload_receiver.proofs.BlockTimeLemmas.{new_has_no_block, packet_has_no_block}
use Rattle.codec_payload_receiver.proofs.PopLemmas.{drops_stay, pops_at_once}
use Rattle.codec_payload_datagrams.specs.Kinds.{Datagram, Kinds, WithMedia, datagram_at, under}
use Rattle.codec_payload_receiver.specs.Pops.{PopsOnce}
use Rattle.codec_payload_receiver.specs.RedOnce.{HasNoBlock}
use Rattle.codec_payload_receiver.specs.Sessions.{Hears, Session, TakesMedia, ended, packet_seen}
use Rattle.codec_payload_datagrams.specs.declared.kinds.Retransmission.{Retransmission}
use Rattle.codec_payload_datagram_runs.proofs.Courses.{IsCopy}
use Rattle.codec_payload_datagram_runs.proofs.EventLemmas.{AllHaveValues, AllTimed, Brings, HasLog, IsMetOn, IsRead, met_by, numbering_through, packet_at_index, time_at, turn_at, values_asked, values_with}
use Rattle.codec_payload_datagram_runs.proofs.TimelyLemmas.{StayTimely, time_in, timely_begun}
use Rattle.codec_payload_datagram_runs.proofs.ReadingLemmas.{datagram_is, packet_at}
use Rattle.codec_payload_datagram_runs.proofs.ReceivingLemmas.{AllNumbered, IsListening, IsPushedBy, KeepsLimits, TakesIn, arrival_at, calmed, finishes_at, heard, heard_at_once, not_repeated, same_ssrc}
use Rattle.codec_payload_datagram_runs.proofs.ReceivingLemmas.{keeps_then, settled_none, still_calm, stored_is_pushed, turn_of, wait_same, waits_for_nothing, went_in}
use Rattle.codec_payload_datagram_runs.proofs.StepLemmas.{Takes}
use Rattle.codec_payload_datagram_runs.specs.Releases.{AreDatagrams, ReadsAs, delivered, is_sent_again_by}
use Rattle.codec_payload_datagram_runs.specs.RestartReleases.{EndsAfterFirst, name_in}
use Rattle.codec_payload_datagram_runs.specs.RestartRuns.{told}
use Rattle.codec_payload_datagram_runs.specs.WireLogs.{AnswersTurn, IsLogOf, wait_of}
use Rattle.codec_payload_datagram_runs.specs.WireRuns.{Delivers, PopsUnit, Receipt}
use Rattle.codec_payload_datagram_runs.specs.declared.run.DatagramStep.{DatagramStep}
use Rattle.codec_payload_datagram_runs.specs.declared.run.DatagramStep.TheVariants as steps

-- Announcements

-- a receiver of the stream that waits for the first packet after an announced restart
pub record IsTold (stream : Outgoing) (s : Session) : Type 0 where
  pub calm : IsListening None stream (calmed s)
  pub waiting : s.packets.is_restarting ≡ true
  pub kept : s.packets.kept ≡ None
  pub fresh : s.packets.first ≡ None

-- a receiver between two parts
pub record IsResting (stream : Kinds) (name : Option ℕ) (clock : ℕ) (s : Session) : Type 0 where
  pub kinds : s.stream ≡ stream
  pub named : s.named ≡ name
  pub rate : s.packets.rate ≡ clock
  pub none_noted : s.packets.no_media_numbers ≡ []
  pub of_codec : is_built_in_depacketizer s.packets.buffer.depacketizer ≡ true
  pub drops_none : s.gates.drops ≡ false

same_under : (o : Option Retransmission) → under o None ≡ o
same_under None = refl
same_under (Some r) = refl

pub told_packets : (ssrc : Option ℕ) (s : Session) → (told ssrc s).packets ≡ begun_anew s.packets
told_packets None s = refl
told_packets (Some ssrc) s = refl

pub told_kinds : (ssrc : Option ℕ) (s : Session) → (told ssrc s).stream ≡ s.stream
told_kinds None s = refl
told_kinds (Some ssrc) s = ap (λ (o : Option Retransmission). record s.stream { retransmission = o }) (same_under s.stream.retransmission)

pub is_told : (ssrc : Option ℕ) (kinds : Kinds) (named : Option ℕ) (rate : ℕ) (stream : Outgoing) (s : Session) → IsResting kinds named rate s → name_in true ssrc named ≡ Some stream.ssrc
    → kinds.payload_type ≡ stream.payload_type → is_sent_again_by kinds.retransmission stream ≡ false → rate ≡ stream.clock_rate → IsTold stream (told ssrc s)
is_told None kinds named rate stream s resting is payload_type not_again clock = record {
  calm = record {
    payload_type = ap (λ (k : Kinds). k.payload_type) resting.kinds ∙ payload_type;
    named = resting.named ∙ is;
    ssrc = resting.named ∙ is;
    not_again = ap (λ (k : Kinds). is_sent_again_by k.retransmission stream) resting.kinds ∙ not_again;
    rate = resting.rate ∙ clock;
    running = refl;
    none_noted = resting.none_noted;
    of_codec = resting.of_codec;
    no_block_seen = new_has_no_block;
    drops_none = resting.drops_none;
    heard = tt;
  };
  waiting = refl;
  kept = refl;
  fresh = refl;
}
is_told (Some ssrc) kinds named rate stream s resting is payload_type not_again clock = record {
  calm = record {
    payload_type = ap (λ (k : Kinds). k.payload_type) resting.kinds ∙ payload_type;
    named = is;
    ssrc = is;
    not_again = ap (λ (o : Option Retransmission). is_sent_again_by o stream) (same_under s.stream.retransmission)
        ∙ (ap (λ (k : Kinds). is_sent_again_by k.retransmission stream) resting.kinds ∙ not_again);
    rate = resting.rate ∙ clock;
    running = refl;
    none_noted = resting.none_noted;
    of_codec = resting.of_codec;
    no_block_seen = new_has_no_block;
    drops_none = resting.drops_none;
    heard = tt;
  };
  waiting = refl;
  kept = refl;
  fresh = refl;
}

-- The first packet

none_contradicts : (b x : Bool) → (not (b || true) && x) ≡ false
none_contradicts true x = refl
none_contradicts false x = refl

-- after an announced restart no time contradicts
answer_timed : (r : Receiving) (header : RtpHeader) (e : Extended) → r.is_restarting ≡ true → answer_in r header.sequence_number ≡ e
    → answer_by_time r header (answer_in r header.sequence_number) ≡ e
answer_timed r header (extended.Number n) waiting is =
    let x : NotedTime = record { number = n; time = header.timestamp } in
    let never : is_contradicted r n header.timestamp ≡ false =
    ap (λ (b : Bool). not (r.ended || b) && (contradicts r.noted x || is_untimely r.rate r.first x)) waiting
    ∙ none_contradicts r.ended (contradicts r.noted x || is_untimely r.rate r.first x) in
    ap (answer_by_time r header) is ∙ ap (λ (b : Bool). cond b (answer_to_contradiction r header) (extended.Number n)) never
answer_timed r header (extended.Restarted n) waiting is = ap (answer_by_time r header) is
answer_timed r header extended.Suspect waiting is = ap (answer_by_time r header) is
answer_timed r header extended.Spent waiting is = ap (answer_by_time r header) is

answer_told : (r : Receiving) (header : RtpHeader) (e : Extended) → r.is_restarting ≡ true → r.noted.former ≡ None → answer_in r header.sequence_number ≡ e → answer_to r header ≡ e
answer_told r header e waiting none is = answer_without_former r header none ∙ answer_timed r header e waiting is

first_as : (time_of : ℕ → ℕ) (n : ℕ) (a : Arrival) (e : Extended) (r mid t : Receiving) (outcome : Outcome) → r.is_restarting ≡ true → r.kept ≡ None
    → is_built_in_depacketizer r.buffer.depacketizer ≡ true
    → number_in e ≡ Some n → AreTimesOf time_of r.noted → a.header.timestamp ≡ time_of n → ReceivesAs e a r outcome mid
    → t ≡ with_first e a.header.timestamp (numbered r e a.header.sequence_number mid) → TakesIn time_of e n a r t
first_as time_of n a (extended.Number m) r mid t outcome waiting none of_codec is times time went left =
    let same : m ≡ n = same_Some m n is in
    let here : GoesOn n a r outcome mid = subst (λ (k : ℕ). GoesOn k a r outcome mid) same went in
    went_in time_of n a r mid t outcome mid.counters mid.kept (extended.Number m) of_codec times time here left
first_as time_of n a (extended.Restarted m) r mid t outcome waiting none of_codec is times time got left =
    let same : m ≡ n = same_Some m n is in
    let restarts = got.1 in
    let x : Receiving = restarts.1 in
    let went : GoesOn m a r restarts.0 x = restarts.3 in
    let kept : x.kept ≡ None = ap (λ (y : Receiving). y.kept) went.2 ∙ (ap (λ (y : Receiving). y.kept) went.1.3 ∙ none) in
    let confirms = subst (λ (o : Option Arrival). Confirms m o (jitter.restarted x) restarts.2 got.0) kept restarts.4 in
    let no_former : got.0.noted.former ≡ None = ap (λ (y : Receiving). y.noted.former) confirms.1 ∙ (goes_on_former m a r restarts.0 x went ∙ times.1) in
    let is_mid : mid ≡ jitter.restarted x = got.2 ∙ (same_former r got.0 (announced_leaves_none r waiting ∙ sym no_former) ∙ confirms.1) in
    let here : GoesOn n a r restarts.0 x = subst (λ (k : ℕ). GoesOn k a r restarts.0 x) same went in
    went_in time_of n a r x t restarts.0 (jitter.counted_restart x.counters) None (extended.Restarted m) of_codec times time here
    (left ∙ ap (λ (x : Receiving). with_first (extended.Restarted m) a.header.timestamp (numbered r (extended.Restarted m) a.header.sequence_number x)) is_mid)
first_as time_of n a extended.Suspect r mid t outcome waiting none of_codec is times time went left = absurd (cc)
first_as time_of n a extended.Spent r mid t outcome waiting none of_codec is times time went left = absurd (cc)

takes_first : (time_of : ℕ → ℕ) (n : ℕ) (a : Arrival) (r t : Receiving) (outcome : Outcome) → r.is_restarting ≡ true → r.kept ≡ None → is_built_in_depacketizer r.buffer.depacketizer ≡ true
    → number_in (answer_anew r.numbering a.header.sequence_number) ≡ Some n → AreTimesOf time_of r.noted → a.header.timestamp ≡ time_of n
    → Receives a r outcome t → TakesIn time_of (answer_anew r.numbering a.header.sequence_number) n a r t
takes_first time_of n a r t outcome waiting none of_codec is times time receives =
    let low : ℕ = a.header.sequence_number in
    let e : Extended = answer_anew r.numbering low in
    let mid : Receiving = receives.0 in
    let here : answer_in r low ≡ e = rw waiting refl in
    let answer : answer_to r a.header ≡ e = answer_told r a.header e waiting times.1 here in
    first_as time_of n a e r mid t outcome waiting none of_codec is times time (subst (λ (x : Extended). ReceivesAs x a r outcome mid) answer receives.1)
    (receives.2 ∙ ap (λ (x : Extended). with_first x a.header.timestamp (numbered r x low mid)) answer)

pub pushes_first : (time_of : ℕ → ℕ) (stream : Outgoing) (now : Ticks) (q : Packet) (bytes : List ℕ) (s t : Session) (receipt : Receipt) → (stream.payload_type < 64) ⊎ (95 < stream.payload_type)
    → IsTold stream s → ReadsAs stream q bytes → number_in (answer_anew s.packets.numbering (q.number % 2 ^ 16)) ≡ Some q.number
    → AreTimesOf time_of s.packets.noted → q.rtp_time ≡ time_of q.number → Delivers now bytes s receipt t
    → IsPushedBy (answer_anew s.packets.numbering (q.number % 2 ^ 16)) None time_of stream now q s t
pushes_first time_of stream now q bytes s t receipt types is_told reads numbered times time delivers =
    let listening : IsListening None stream (calmed s) = is_told.calm in
    let is : datagram_at s.stream s.ssrc bytes ≡ WithMedia (packet_at stream q) =
    datagram_is s.stream s.ssrc stream q bytes reads listening.payload_type types (same_ssrc stream s listening.ssrc) listening.not_again in
    let hears : Hears now (WithMedia (packet_at stream q)) s receipt t =
    subst (λ (d : Datagram). Hears now d s receipt t) is (heard now (datagram_at s.stream s.ssrc bytes) s t receipt delivers.0 (heard_at_once stream.ssrc now bytes s t receipt listening.named delivers)) in
    let a : Arrival = arrival_at stream now q s in
    let new = not_repeated s a.header.timestamp a.header.sequence_number listening.no_block_seen in
    let receives : Receives a s.packets hears.outcome hears.packets = subst (λ (b : Bool). TakesMedia b a s.packets hears.outcome hears.packets) new hears.takes.0 in
    let packets : t.packets ≡ hears.packets = ap (λ (x : Session). x.packets) hears.left in
    let e : Extended = answer_anew s.packets.numbering (q.number % 2 ^ 16) in
    let one = takes_first time_of q.number a s.packets hears.packets hears.outcome is_told.waiting is_told.kept listening.of_codec numbered times time receives in
    let seen : t.seen ≡ packet_seen (is_some s.stream.red) hears.outcome a.header.timestamp s.seen = ap (λ (x : Session). x.seen) hears.left ∙ hears.takes.1 in
    stored_is_pushed e None time_of stream now q s t listening (record {
      takes = subst (TakesIn time_of e q.number a s.packets) (sym packets) one;
      kinds = ap (λ (x : Session). x.stream) hears.left;
      named = ap (λ (x : Session). x.named) hears.left;
      ssrc = ap (λ (x : Session). x.ssrc) hears.left;
      seen = subst HasNoBlock (sym seen) (packet_has_no_block (is_some s.stream.red) hears.outcome a.header.timestamp s.seen listening.no_block_seen);
      drops = ap (λ (x : Session). x.gates.drops) hears.left;
    })

-- a copy without retransmissions is the datagram
reads_copy : (stream : Outgoing) (q : Packet) (datagram bytes : List ℕ) → IsCopy None datagram bytes → ReadsAs stream q datagram → ReadsAs stream q bytes
reads_copy stream q datagram bytes (inl same) reads = subst (ReadsAs stream q) (sym same) reads
reads_copy stream q datagram bytes (inr repeated) reads = subst (ReadsAs stream q) (sym repeated.1) reads

-- Pops before the first packet

record IsPoppedTold (stream : Outgoing) (now : Ticks) (answer : Answer) (s t : Session) : Type 0 where
  wait : Option ℕ
  at_end : s.packets.ended ≡ true → wait ≡ Some 0
  pops : PopsWaiting wait s.packets.buffer answer t.packets.buffer
  noted : t.packets.noted ≡ s.packets.noted
  first : t.packets.first ≡ s.packets.first
  numbering : t.packets.numbering ≡ s.packets.numbering
  is_told : IsTold stream t
  kinds : t.stream ≡ s.stream
  limits : KeepsLimits s.packets t.packets
  wait_is : wait ≡ waiting_at s.packets now.0
  ended : t.packets.ended ≡ s.packets.ended

pops_told : (stream : Outgoing) (now : Ticks) (answer : Answer) (s t : Session) → IsTold stream s → answer ≢ Some (Err faults.OutOfMemory) → PopsUnit now s answer t → IsPoppedTold stream now answer s t
pops_told stream now answer s t is_told not_memory gated =
    let listening : IsListening None stream (calmed s) = is_told.calm in
    let popped : PopsOnce now.0 s answer t = pops_at_once now.0 s answer t listening.drops_none gated in
    let r : Receiving = s.packets in
    let settled_is : settled r ≡ r = settled_none r listening.none_noted in
    let wait : Option ℕ = waiting_at r now.0 in
    let pops : PopsWith wait r answer popped.packets = subst (λ (x : Receiving). PopsWith (waiting_at x now.0) x answer popped.packets) settled_is popped.pops in
    let turn = turn_of wait r answer popped.packets listening.of_codec not_memory pops in
    let packets : t.packets ≡ popped.packets = ap (λ (x : Session). x.packets) popped.left in
    record {
      wait = wait;
      at_end = waits_for_nothing r now.0;
      pops = subst (λ (x : Receiving). PopsWaiting wait r.buffer answer x.buffer) (sym packets) turn.pops;
      noted = ap (λ (x : Receiving). x.noted) packets ∙ turn.noted;
      first = ap (λ (x : Receiving). x.first) packets ∙ turn.first;
      numbering = ap (λ (x : Receiving). x.numbering) packets ∙ turn.numbering;
      is_told = record {
        calm = record {
          payload_type = ap (λ (x : Session). x.stream.payload_type) popped.left ∙ listening.payload_type;
          named = ap (λ (x : Session). x.named) popped.left ∙ listening.named;
          ssrc = ap (λ (x : Session). x.ssrc) popped.left ∙ listening.ssrc;
          not_again = ap (λ (x : Session). is_sent_again_by x.stream.retransmission stream) popped.left ∙ listening.not_again;
          rate = ap (λ (x : Receiving). x.rate) packets ∙ (turn.rate ∙ listening.rate);
          running = refl;
          none_noted = ap (λ (x : Receiving). x.no_media_numbers) packets ∙ (turn.no_media_numbers ∙ listening.none_noted);
          of_codec = ap (λ (x : Receiving). is_built_in_depacketizer x.buffer.depacketizer) packets ∙ turn.of_codec;
          no_block_seen = subst HasNoBlock (sym (ap (λ (x : Session). x.seen) popped.left)) listening.no_block_seen;
          drops_none = ap (λ (x : Session). x.gates.drops) popped.left ∙ (drops_stay _ s.gates _ answer popped.references ∙ listening.drops_none);
          heard = tt;
        };
        waiting = ap (λ (x : Receiving). x.is_restarting) packets ∙ (turn.is_restarting ∙ is_told.waiting);
        kept = ap (λ (x : Receiving). x.kept) packets ∙ (turn.kept ∙ is_told.kept);
        fresh = ap (λ (x : Receiving). x.first) packets ∙ (turn.first ∙ is_told.fresh);
      };
      kinds = ap (λ (x : Session). x.stream) popped.left;
      limits = record { wait_limits = ap (λ (x : Receiving). x.wait_limits) packets ∙ turn.limits.wait_limits; room = ap (λ (x : Receiving). x.room) packets ∙ turn.limits.room };
      wait_is = refl;
      ended = ap (λ (x : Receiving). x.ended) packets ∙ turn.ended;
    }

-- The steps of a part

-- each datagram with one of these indices gets the number of the first sent datagram plus its index, and the first of them begins
-- new numbers
abbrev pub AllBegun : ℕ → Numbering → List ℕ → Type 0
AllBegun first s [] = Unit {0}
AllBegun first s (k ∷ ks) = (number_in (answer_anew s ((first + k) % 2 ^ 16)) ≡ Some (first + k)) × AllNumbered first (begun_with s ((first + k) % 2 ^ 16)) ks

abbrev pub numbering_begun : ℕ → Numbering → List ℕ → Numbering
numbering_begun first s [] = s
numbering_begun first s (k ∷ ks) = numbering_through first (begun_with s ((first + k) % 2 ^ 16)) ks

-- the events of the buffer for the steps of a part, and what the receiver is in the end
pub record IsHeard (time_of : ℕ → ℕ) (stream : Outgoing) (packets : List Packet) (all_steps : List DatagramStep) (s : Session) (answers : List Answer) (t : Session) (numbering : Numbering) : Type 0 where
  pub events : List Event
  pub meets : Meets stream.clock_rate packets events s.packets.buffer answers t.packets.buffer
  pub brings : Brings s.packets.ended all_steps events
  pub values : AllHaveValues s.stream.ids stream packets events
  pub times : AreTimesOf time_of t.packets.noted
  pub through : t.packets.numbering ≡ numbering
  pub kinds : t.stream ≡ s.stream
  pub limits : KeepsLimits s.packets t.packets
  pub calm : IsListening None stream (calmed t)
  pub logs : (r : Receiving) → KeepsLimits r s.packets → (w : Stretch) → w.now ≡ s.packets.buffer
      → HasLog (IsRead s.stream.ids stream packets) packets r s.packets.ended all_steps w answers t.packets.buffer

-- receivers with the same limits have the same logs
log_limits : (known : ℕ → Packet → RtpMeta → Type 0) (packets : List Packet) (r s : Receiving) → KeepsLimits r s → (at_end : Bool) (later : List DatagramStep) (w : Stretch) (turns : List Turn) (end : Stretch)
    → IsLogOf known packets s at_end later w turns end → IsLogOf known packets r at_end later w turns end
log_limits known packets r s keeps at_end [] w [] end log = log
log_limits known packets r s keeps at_end [] w (turn ∷ turns) end log = absurd log
log_limits known packets r s keeps at_end (steps.Send i ∷ later) w turns end log = log_limits known packets r s keeps at_end later w turns end log
log_limits known packets r s keeps at_end (steps.Deliver k now ∷ later) w turns end log =
    (log.0, log.1, log.2, log.3, log.4, log_limits known packets r s keeps at_end later (with_pushes w (arrived w.now.depacketizer log.1 log.0.payload ∷ [])) turns end log.5)
log_limits known packets r s keeps at_end (steps.Pop now ∷ later) w [] end log = absurd log
log_limits known packets r s keeps at_end (steps.Pop now ∷ later) w (turn ∷ turns) end log =
    let same : wait_of s at_end w.now now.0 ≡ wait_of r at_end w.now now.0 =
    wait_same r (record s { buffer = w.now; ended = at_end }) now.0 (record { wait_limits = keeps.wait_limits; room = keeps.room }) in
    (log.0, subst (λ (o : Option ℕ). AnswersTurn o w.now turn.passed turn.answer turn.after) same log.1, log_limits known packets r s keeps at_end later (begun turn.after) turns end log.2)
log_limits known packets r s keeps at_end (steps.Finish ∷ later) w turns end log = log_limits known packets r s keeps true later w turns end log

log_with : (known : ℕ → Packet → RtpMeta → Type 0) (packets : List Packet) (r s : Receiving) → KeepsLimits r s → (at_end : Bool) (later : List DatagramStep) (w : Stretch) (answers : List Answer) (t : State)
    → HasLog known packets s at_end later w answers t → HasLog known packets r at_end later w answers t
log_with known packets r s keeps at_end later w answers t log =
    record { turns = log.turns; end = log.end; is_log = log_limits known packets r s keeps at_end later w log.turns log.end log.is_log; answers_are = log.answers_are; left = log.left }

-- without a restart
pub heard_on : (time_of : ℕ → ℕ) (first : ℕ) (stream : Outgoing) (packets : List Packet) (all_steps : List DatagramStep) (s : Session) (answers : List Answer) (t : Session)
    → IsMetOn None time_of first s.packets stream packets all_steps s answers t
    → IsHeard time_of stream packets all_steps s answers t (numbering_through first s.packets.numbering (delivered all_steps))
heard_on time_of first stream packets all_steps s answers t on = record {
  events = on.met.events;
  meets = on.met.meets;
  brings = on.met.brings;
  values = on.met.values;
  times = on.times;
  through = on.through;
  kinds = on.kinds;
  limits = on.limits;
  calm = still_calm None stream t on.listening;
  logs = λ r keeps w is. log_with (IsRead s.stream.ids stream packets) packets r s.packets keeps s.packets.ended all_steps w answers t.packets.buffer (on.met.logs w is);
}

module _ (stream : Outgoing) (types : (stream.payload_type < 64) ⊎ (95 < stream.payload_type)) (first : ℕ) (packets : List Packet) (datagrams : List (List ℕ))
    (are : AreDatagrams stream packets datagrams) (numbered : AreNumbered first packets) where
  abbrev Heard : (ℕ → ℕ) → List DatagramStep → Session → List Answer → Session → Type 0
  Heard time_of all_steps s answers t = IsHeard time_of stream packets all_steps s answers t (numbering_begun first s.packets.numbering (delivered all_steps))

  pub met_told : (time_of : ℕ → ℕ) (all_steps : List DatagramStep) (s t : Session) (answers : List Answer) → IsTold stream s → EndsAfterFirst all_steps
      → AllBegun first s.packets.numbering (delivered all_steps) → AllTimed time_of first packets (delivered all_steps)
      → StayTimely stream.clock_rate first packets None (delivered all_steps) → AreTimesOf time_of s.packets.noted
      → Takes None all_steps datagrams s answers t → Heard time_of all_steps s answers t
  met_told time_of [] s t answers is_told in_time numbers timed timely times takes = record {
    events = [];
    meets = (takes.0, ap (λ (x : Session). x.packets.buffer) takes.1);
    brings = refl;
    values = λ k m is. absurd is;
    times = subst (λ (x : Session). AreTimesOf time_of x.packets.noted) (sym takes.1) times;
    through = ap (λ (x : Session). x.packets.numbering) takes.1;
    kinds = ap (λ (x : Session). x.stream) takes.1;
    limits = subst (λ (x : Session). KeepsLimits s.packets x.packets) (sym takes.1) (record { wait_limits = refl; room = refl });
    calm = subst (λ (x : Session). IsListening None stream (calmed x)) (sym takes.1) is_told.calm;
    logs = λ r keeps w is. record { turns = []; end = w; is_log = refl; answers_are = sym takes.0; left = is ∙ sym (ap (λ (x : Session). x.packets.buffer) takes.1) };
  }
  met_told time_of (steps.Send i ∷ later) s t answers is_told in_time numbers timed timely times takes =
      let rest = met_told time_of later s t answers is_told in_time numbers timed timely times takes in
      record {
        events = rest.events;
        meets = rest.meets;
        brings = rest.brings;
        values = rest.values;
        times = rest.times;
        through = rest.through;
        kinds = rest.kinds;
        limits = rest.limits;
        calm = rest.calm;
        logs = λ r keeps w is. let l = rest.logs r keeps w is in record { turns = l.turns; end = l.end; is_log = l.is_log; answers_are = l.answers_are; left = l.left };
      }
  met_told time_of (steps.Deliver k now ∷ later) s t answers is_told in_time numbers timed timely times takes =
      let mid : Session = takes.5 in
      let p = packet_at_index stream first packets datagrams k takes.0 are numbered takes.1 in
      let q : Packet = p.0 in
      let number : number_in (answer_anew s.packets.numbering (q.number % 2 ^ 16)) ≡ Some q.number =
      subst (λ (n : ℕ). number_in (answer_anew s.packets.numbering (n % 2 ^ 16)) ≡ Some n) (sym p.3) numbers.0 in
      let stamped : q.rtp_time ≡ time_in packets k = time_at packets k q p.1 in
      let time : q.rtp_time ≡ time_of q.number = stamped ∙ (timed.0 ∙ ap time_of (sym p.3)) in
      let reads : ReadsAs stream q takes.2 = reads_copy stream q takes.0 takes.2 takes.3 p.2 in
      let one = pushes_first time_of stream now q takes.2 s mid takes.4 types is_told reads number times time takes.6 in
      let numbering : mid.packets.numbering ≡ begun_with s.packets.numbering ((first + k) % 2 ^ 16) =
      one.numbering ∙ ap (λ (n : ℕ). begun_with s.packets.numbering (n % 2 ^ 16)) p.3 in
      let timely_then : StayTimely stream.clock_rate first packets mid.packets.first (delivered later) =
      timely_begun stream.clock_rate first packets s.packets.first mid.packets.first (answer_anew s.packets.numbering (q.number % 2 ^ 16)) q.number q.rtp_time k (delivered later)
      is_told.fresh timely one.first number p.3 stamped in
      let all = met_by None stream types first packets datagrams are numbered mid.packets time_of later mid t answers one.listening (record { wait_limits = refl; room = refl })
      (subst (λ (n : Numbering). AllNumbered first n (delivered later)) (sym numbering) numbers.1) timed.1 timely_then one.times takes.7 in
      let rest = all.met in
      record {
        events = Arrives k one.meta ∷ rest.events;
        meets = (q, p.1, one.tells, subst (λ (b : State). Meets stream.clock_rate packets rest.events b answers t.packets.buffer) one.buffer rest.meets);
        brings = (one.meta, rest.events, refl, one.received, subst (λ (b : Bool). Brings b later rest.events) one.ended rest.brings);
        values = values_with s.stream.ids stream packets rest.events k one.meta (q, p.1, one.values)
            (subst (λ (x : Kinds). AllHaveValues x.ids stream packets rest.events) one.kinds rest.values);
        times = all.times;
        through = all.through ∙ ap (λ (n : Numbering). numbering_through first n (delivered later)) numbering;
        kinds = all.kinds ∙ one.kinds;
        limits = keeps_then s.packets mid.packets t.packets one.limits all.limits;
        calm = still_calm None stream t all.listening;
        logs = λ r keeps w is.
            let h : Held = arrived w.now.depacketizer one.meta q.payload in
            let next : pushed w.now h ≡ mid.packets.buffer = ap (λ (b : State). pushed b (arrived b.depacketizer one.meta q.payload)) is ∙ sym one.buffer in
            let here = log_with (IsRead mid.stream.ids stream packets) packets r mid.packets (keeps_then r s.packets mid.packets keeps one.limits) mid.packets.ended later
            (with_pushes w (h ∷ [])) answers t.packets.buffer (rest.logs (with_pushes w (h ∷ [])) next) in
            let l = subst (λ (x : Kinds). HasLog (IsRead x.ids stream packets) packets r s.packets.ended later (with_pushes w (h ∷ [])) answers t.packets.buffer) one.kinds
            (subst (λ (b : Bool). HasLog (IsRead mid.stream.ids stream packets) packets r b later (with_pushes w (h ∷ [])) answers t.packets.buffer) one.ended here) in
            record {
              turns = l.turns;
              end = l.end;
              is_log = (q, one.meta, p.1, (one.tells, (q, p.1, one.values)), one.received, l.is_log);
              answers_are = l.answers_are;
              left = l.left;
            };
      }
  met_told time_of (steps.Pop now ∷ later) s t answers is_told in_time numbers timed timely times takes =
      let mid : Session = takes.2 in
      let one = pops_told stream now takes.0 s mid is_told takes.4 takes.5 in
      let rest = met_told time_of later mid t takes.1 one.is_told in_time (subst (λ (n : Numbering). AllBegun first n (delivered later)) (sym one.numbering) numbers) timed timely
      (subst (AreTimesOf time_of) (sym one.noted) times) takes.6 in
      record {
        events = Asked one.wait ∷ rest.events;
        meets = (takes.0, takes.1, mid.packets.buffer, takes.3, one.pops, rest.meets);
        brings = (one.wait, rest.events, refl, one.at_end, subst (λ (b : Bool). Brings b later rest.events) one.ended rest.brings);
        values = values_asked s.stream.ids stream packets rest.events one.wait (subst (λ (x : Kinds). AllHaveValues x.ids stream packets rest.events) one.kinds rest.values);
        times = rest.times;
        through = rest.through ∙ ap (λ (n : Numbering). numbering_begun first n (delivered later)) one.numbering;
        kinds = rest.kinds ∙ one.kinds;
        limits = keeps_then s.packets mid.packets t.packets one.limits rest.limits;
        calm = rest.calm;
        logs = λ r keeps w is.
            let wait : one.wait ≡ wait_of r s.packets.ended w.now now.0 =
            one.wait_is ∙ (wait_same r s.packets now.0 keeps ∙ ap (λ (b : State). wait_of r s.packets.ended b now.0) (sym is)) in
            let turn = turn_at (wait_of r s.packets.ended w.now now.0) w.now mid.packets.buffer takes.0
            (subst (λ (o : Option ℕ). PopsWaiting o w.now takes.0 mid.packets.buffer) wait (subst (λ (b : State). PopsWaiting one.wait b takes.0 mid.packets.buffer) (sym is) one.pops)) in
            let l = subst (λ (x : Kinds). HasLog (IsRead x.ids stream packets) packets r s.packets.ended later (begun mid.packets.buffer) takes.1 t.packets.buffer) one.kinds
            (subst (λ (b : Bool). HasLog (IsRead mid.stream.ids stream packets) packets r b later (begun mid.packets.buffer) takes.1 t.packets.buffer) one.ended
            (rest.logs r (keeps_then r s.packets mid.packets keeps one.limits) (begun mid.packets.buffer) refl)) in
            record {
              turns = record { stretch = w; passed = turn.0; answer = takes.0; after = mid.packets.buffer } ∷ l.turns;
              end = l.end;
              is_log = (refl, turn.1, l.is_log);
              answers_are = ap (λ (as' : List Answer). takes.0 ∷ as') l.answers_are ∙ sym takes.3;
              left = l.left;
            };
      }
  met_told time_of (steps.Finish ∷ later) s t answers is_told in_time numbers timed timely times takes =
      let at_end : takes.0 ≡ ended s = finishes_at stream.ssrc s takes.0 is_told.calm.ssrc takes.1 in
      let all = met_by None stream types first packets datagrams are numbered (ended s).packets time_of later (ended s) t answers (record {
        payload_type = is_told.calm.payload_type;
        named = is_told.calm.named;
        ssrc = is_told.calm.ssrc;
        not_again = is_told.calm.not_again;
        rate = is_told.calm.rate;
        running = refl;
        none_noted = is_told.calm.none_noted;
        of_codec = is_told.calm.of_codec;
        no_block_seen = is_told.calm.no_block_seen;
        drops_none = is_told.calm.drops_none;
        heard = tt;
      }) (record { wait_limits = refl; room = refl }) (subst (AllNumbered first s.packets.numbering) (sym in_time) tt) timed
      (subst (StayTimely stream.clock_rate first packets s.packets.first) (sym in_time) (subst (λ (o : Option NotedTime). StayTimely stream.clock_rate first packets o []) (sym is_told.fresh) tt)) times
      (subst (λ (x : Session). Takes None later datagrams x answers t) at_end takes.2) in
      let rest = all.met in
      record {
        events = rest.events;
        meets = rest.meets;
        brings = rest.brings;
        values = rest.values;
        times = all.times;
        through = subst (λ (ks : List ℕ). t.packets.numbering ≡ numbering_begun first s.packets.numbering ks) (sym in_time)
            (subst (λ (ks : List ℕ). t.packets.numbering ≡ numbering_through first s.packets.numbering ks) in_time all.through);
        kinds = all.kinds;
        limits = record { wait_limits = all.limits.wait_limits; room = all.limits.room };
        calm = still_calm None stream t all.listening;
        logs = λ r keeps w is.
            let l = log_with (IsRead s.stream.ids stream packets) packets r (ended s).packets (record { wait_limits = keeps.wait_limits; room = keeps.room }) true later w answers t.packets.buffer (rest.logs w is) in
            record { turns = l.turns; end = l.end; is_log = l.is_log; answers_are = l.answers_are; left = l.left };
      }
