-- The turns of a run follow one another, and the state after each stretch depends on the set of its pushes.
use Rattle.std.proofs.Common.{◌≡◌, ◌≢◌, ◌∙◌, refl, sym, ap, ℕ, subst, List, [], Option, Some, None, Ok, Err, Bool, true, false}
use Rattle.std.proofs.Common.{◌++◌, ◌+◌, ◌-◌, ◌^◌, ◌∷◌, ◌<◌, ◌≤◌, inl, inr, ◌⊎◌, ◌||◌, ◌&&◌, not, eqb, arith, length, drop, map}
use Rattle.std.specs.Prelude.{slice_get}
use Rattle.std.proofs.lemmas.Bool.Decides.{nat_tests}
use Rattle.std.proofs.lemmas.List.{length-map, length-drop}
use Rattle.std.proofs.lemmas.Option.{slice_get_within}
use Rattle.codec_payload_base.specs.declared.error.PacketError.TheVariants as faults
use Rattle.codec_payload_buffer.proofs.MemberLemmas.{IsIn, in_contains}
use Rattle.codec_payload_buffer.proofs.PopLemmas.{above_shorter}
use Rattle.codec_payload_buffer_runs.proofs.order.SafetyLemmas.{IsSent, AllSent, IsBeyond, IsFrameOf, frame_of, number_of_sent, beyond_pushed, beyond_passes, released, released_at, not_refused}
use Rattle.codec_payload_buffer.proofs.StretchLemmas.{leaves_numbers}
use Rattle.codec_payload_buffer_runs.proofs.units.UnitIds.{TellInTurn}
use Rattle.codec_payload_buffer_runs.proofs.units.UnitRows.{IsFaithful, push_faithful, drop_next}
use Rattle.codec_payload_buffer_runs.proofs.units.UnitTimes.{AllOneTime}
use Rattle.codec_payload_codec.specs.Depacketizers.{DepacketizerState, DepacketizerKind, is_codec, kind_of_depacketizer}
use Rattle.codec_payload_buffer_runs.specs.Headline.{IsPushOf, InOrder}
use Rattle.codec_payload_buffer.specs.Held.{Held, number_of, has_number, above}
use Rattle.codec_payload_buffer_runs.specs.Log.{Stretch, Turn, begun, with_pushes, IsLogBy}
use Rattle.codec_payload_payloader.specs.Packets.{Packet, AreNumbered}
use Rattle.codec_payload_metadata.specs.Release.{Release}
use Rattle.codec_payload_buffer_runs.specs.RunOrder.{numbers_in, IsSentPacket, IsStretch, up_to, IsOrdered, AreStretches}
use Rattle.codec_payload_buffer_runs.specs.Schedule.{Answer}
use Rattle.codec_payload_buffer_runs.specs.LawfulUnits.{AllLawful}
use Rattle.codec_payload_buffer_runs.specs.SentStream.{SentUnit, packets_of}
use Rattle.codec_payload_buffer.specs.Steps.{State, IsSound, pushed, is_at_most, due_of, Passes, none, one_more, PopsOver, Releases}
use Rattle.codec_payload_buffer.specs.Stretches.{after_pushes, kept, IsLeft, IsInRange}
use Rattle.codec_payload_buffer.specs.declared.buffer.frames.CompleteFrame.{CompleteFrame}
use Rattle.codec_payload_metadata.specs.declared.meta.RtpMeta.{RtpMeta}
use Rattle.codec_payload_buffer_runs.specs.declared.run.Sent.{Sent}
use Rattle.codec_payload_buffer_runs.specs.declared.run.Step.{Step}
use Rattle.codec_payload_buffer_runs.specs.declared.run.Step.TheVariants as steps

-- what a run sends, and the facts about its pushes; `start` is the picture id of the first unit, if units carry them
pub record Setting : Type 1 where
  pub known : ℕ → Packet → RtpMeta → Type 0
  pub clock_rate : ℕ
  pub first : ℕ
  pub kind : DepacketizerKind
  pub faithful : IsFaithful known clock_rate kind
  pub codec : is_codec kind ≡ true
  pub splits : Bool
  pub units : List SentUnit
  pub lawful : AllLawful kind splits units
  pub numbered : AreNumbered first (packets_of units)
  pub one_time : AllOneTime units
  pub start : Option ℕ
  pub told : TellInTurn kind start 0 units
  pub short : length units < 2 ^ 63

pub or_cases : (a b : Bool) → (a || b) ≡ true → (a ≡ true) ⊎ (b ≡ true)
or_cases true b h = inl refl
or_cases false b h = inr h

and_right : (a b : Bool) → (a && b) ≡ true → b ≡ true
and_right true b h = h
and_right false b h = absurd (cc)

after_more : (s : State) (ps qs : List Held) → after_pushes s (ps ++ qs) ≡ after_pushes (after_pushes s ps) qs
after_more s [] qs = refl
after_more s (p ∷ ps) qs = after_more (pushed s p) ps qs

kept_few : (s : State) (ns : List ℕ) → length (kept s ns) ≤ s.limit
kept_few s ns = omega (arith, length-drop (length ns - s.limit) ns)

-- the same, of packets that these steps push as they are
abbrev pub by_steps : Setting → List Step → List Sent → Setting
by_steps c all_steps sends = record c { known = IsPushOf all_steps sends c.clock_rate; faithful = push_faithful all_steps sends c.clock_rate c.kind }

-- the results of the pops of these turns
abbrev pub answers_of : List Turn → List Answer
answers_of turns = map (λ (turn : Turn). turn.answer) turns

module _ (c : Setting) where
  -- pushes of packets that the run sends
  abbrev pub IsPush : Held → Type 0
  IsPush p = IsSent c.known c.clock_rate c.first c.kind c.faithful c.splits c.units c.lawful c.numbered p

  abbrev pub ArePushes : List Held → Type 0
  ArePushes ps = AllSent c.known c.clock_rate c.first c.kind c.faithful c.splits c.units c.lawful c.numbered ps

  abbrev pub Beyond : ℕ → State → Type 0
  Beyond from s = IsBeyond c.known c.clock_rate c.first c.kind c.faithful c.splits c.units c.lawful c.numbered from s

  abbrev pub FrameOf : ℕ → State → CompleteFrame → Type 0
  FrameOf from s f = IsFrameOf c.known c.clock_rate c.first c.kind c.faithful c.splits c.units c.lawful c.numbered from s f

  abbrev pub frame_due : (from : ℕ) (s : State) (f : CompleteFrame) → Beyond from s → due_of s ≡ Some f → FrameOf from s f
  frame_due from s f beyond due = frame_of c.known c.clock_rate c.first c.kind c.faithful c.splits c.units c.lawful c.numbered from s f beyond due

  abbrev pub count : ℕ
  count = length (packets_of c.units)

  -- a stretch of pushes of sent packets
  pub record IsSpan (w : Stretch) : Type 0 where
    pub sent : ArePushes w.pushes
    pub now : w.now ≡ after_pushes w.left w.pushes

  -- a pop that was not refused
  pub data IsPop (s t : State) : List CompleteFrame → Answer → Type 0 where
    waits : {over : List CompleteFrame} → Passes s over t → due_of t ≡ None → IsPop s t over None
    releases : {over : List CompleteFrame} {r : Release} → (mid : State) → Passes s over mid → Releases mid r t → IsPop s t over (Some (Ok r))

  -- the turns follow one another from s on
  abbrev pub Chain : State → List Turn → Stretch → Type 0
  Chain s [] end = (end.left ≡ s) × IsSpan end
  Chain s (turn ∷ turns) end = (turn.stretch.left ≡ s) × IsSpan turn.stretch × IsPop turn.stretch.now turn.after turn.passed turn.answer × Chain turn.after turns end

  sent_more : (ps qs : List Held) → ArePushes ps → ArePushes qs → ArePushes (ps ++ qs)
  sent_more [] qs a b = b
  sent_more (p ∷ ps) qs a b = (a.0, sent_more ps qs a.1 b)

  beyond_pushes : (from : ℕ) (s : State) (ps : List Held) → Beyond from s → ArePushes ps → Beyond from (after_pushes s ps)
  beyond_pushes from s [] beyond sent = beyond
  beyond_pushes from s (p ∷ ps) beyond sent = beyond_pushes from (pushed s p) ps
      (beyond_pushed c.known c.clock_rate c.first c.kind c.faithful c.splits c.units c.lawful c.numbered from s p sent.0 beyond) sent.1

  pub span_beyond : (from : ℕ) (w : Stretch) → Beyond from w.left → IsSpan w → Beyond from w.now
  span_beyond from w beyond is = subst (Beyond from) (sym is.now) (beyond_pushes from w.left w.pushes beyond is.sent)

  pub passed_beyond : (from : ℕ) (s t : State) (over : List CompleteFrame) → Beyond from s → Passes s over t → Beyond from t
  passed_beyond from s t over beyond passes = beyond_passes c.known c.clock_rate c.first c.kind c.faithful c.splits c.units c.lawful c.numbered from s t over beyond passes

  pub pop_is : (from : ℕ) (s t : State) (over : List CompleteFrame) (a : Answer) → Beyond from s → PopsOver s over a t → a ≢ Some (Err faults.OutOfMemory) → IsPop s t over a
  pop_is from s t over None beyond pop found = waits pop.0 pop.1
  pop_is from s t over (Some (Ok r)) beyond pop found = releases pop.0 pop.1 pop.2
  pop_is from s t over (Some (Err fault)) beyond pop found = elim pop.2 [
    | inl memory ↦ absurd (found (ap (λ f. Some (Err f)) memory.0))
    | inr refusal ↦ absurd (not_refused c.known c.clock_rate c.first c.kind c.faithful c.splits c.units c.lawful c.numbered from pop.0 t fault (passed_beyond from s pop.0 over beyond pop.1) refusal)
  ]

  popped_beyond : (from : ℕ) (s t : State) (over : List CompleteFrame) (a : Answer) → Beyond from s → IsPop s t over a → (next : ℕ) × Beyond next t
  popped_beyond from s t over None beyond (waits passes nothing) = (from, passed_beyond from s t over beyond passes)
  popped_beyond from s t over (Some (Ok r)) beyond (releases mid passes out) =
      let there = passed_beyond from s mid over beyond passes in
      let frame = frame_due from mid out.frame there out.is_due in
      (frame.place + 1, (released_at c.known c.clock_rate c.first c.kind c.faithful c.splits c.units c.lawful c.numbered from mid t r there out).2)
  popped_beyond from s t over (Some (Err fault)) beyond pop = elim pop [ ]

  pub pop_in_order : (from : ℕ) (s t : State) (over : List CompleteFrame) (a : Answer) (answers : List Answer) → Beyond from s → IsPop s t over a
      → ((n : ℕ) → Beyond n t → InOrder c.known c.splits c.units n answers) → InOrder c.known c.splits c.units from (a ∷ answers)
  pop_in_order from s t over None answers beyond (waits passes nothing) later = later from (passed_beyond from s t over beyond passes)
  pop_in_order from s t over (Some (Ok r)) answers beyond (releases mid passes out) later =
      let is = released c.known c.clock_rate c.first c.kind c.faithful c.splits c.units c.lawful c.numbered from mid t r (passed_beyond from s mid over beyond passes) out in
      (is.0, is.1, is.2, later (is.0 + 1) is.3)
  pop_in_order from s t over (Some (Err fault)) answers beyond pop later = elim pop [ ]

  -- units are released in order, each at most once
  pub chain_in_order : (from : ℕ) (s : State) (turns : List Turn) (end : Stretch) → Beyond from s → Chain s turns end → InOrder c.known c.splits c.units from (answers_of turns)
  chain_in_order from s [] end beyond chain = tt
  chain_in_order from s (turn ∷ turns) end beyond chain =
      let now = span_beyond from turn.stretch (subst (Beyond from) (sym chain.0) beyond) chain.1 in
      pop_in_order from turn.stretch.now turn.after turn.passed turn.answer (answers_of turns) now chain.2 (λ n after. chain_in_order n turn.after turns end after chain.3)

  -- if all named packets were sent, a log is a chain
  module _ (all_steps : List Step) (named : ℕ → ℕ → DepacketizerState → List Held) (sent : (place k : ℕ) (d : DepacketizerState) → slice_get all_steps place ≡ Some (steps.Push k)
      → kind_of_depacketizer d ≡ c.kind → ArePushes (named place k d)) where
    pub chain_of : (later : List Step) (place : ℕ) (w : Stretch) (turns : List Turn) (end : Stretch) → drop place all_steps ≡ later → (from : ℕ) → Beyond from w.now → IsSpan w
        → IsLogBy named place later w turns end → Chain w.left turns end
    chain_of [] place w [] end at from beyond is log = (ap (λ (x : Stretch). x.left) log, subst IsSpan (sym log) is)
    chain_of [] place w (turn ∷ turns) end at from beyond is log = absurd log
    chain_of (steps.Send i mtu ∷ later) place w turns end at from beyond is log =
        let next = drop_next all_steps place (steps.Send i mtu) later at in
        chain_of later (place + 1) w turns end next.1 from beyond is log
    chain_of (steps.Push k ∷ later) place w turns end at from beyond is log =
        let next = drop_next all_steps place (steps.Push k) later at in
        let ps = named place k w.now.depacketizer in
        let more = sent place k w.now.depacketizer next.0 beyond.reads in
        chain_of later (place + 1) (with_pushes w ps) turns end next.1 from (beyond_pushes from w.now ps beyond more)
        (record { sent = sent_more w.pushes ps is.sent more; now = ap (λ (s : State). after_pushes s ps) is.now ∙ sym (after_more w.left w.pushes ps) }) log
    chain_of (steps.Pop ∷ later) place w [] end at from beyond is log = absurd log
    chain_of (steps.Pop ∷ later) place w (turn ∷ turns) end at from beyond is log =
        let next = drop_next all_steps place steps.Pop later at in
        let pop = pop_is from w.now turn.after turn.passed turn.answer beyond log.1 log.2 in
        let after = popped_beyond from w.now turn.after turn.passed turn.answer beyond pop in (
          ap (λ (x : Stretch). x.left) log.0,
          subst IsSpan (sym log.0) is,
          subst (λ (x : Stretch). IsPop x.now turn.after turn.passed turn.answer) (sym log.0) pop,
          chain_of later (place + 1) (begun turn.after) turns end next.1 after.0 after.1 (record { sent = tt; now = refl }) log.3,
        )

  -- the facts about the buffer between two steps
  pub record IsReady (from : ℕ) (s : State) : Type 0 where
    pub beyond : Beyond from s
    pub few : length s.held ≤ s.limit

  is_sound : (from : ℕ) (s : State) → IsReady from s → IsSound s
  is_sound from s ready = record { rises = ready.beyond.rises; above = ready.beyond.beyond; few = ready.few }

  -- the number of a sent packet
  sent_within : (n : ℕ) (hs : List Held) → ArePushes hs → has_number n hs ≡ true → (c.first ≤ n) × (n < c.first + count)
  sent_within n [] sent h = absurd (cc)
  sent_within n (p ∷ ps) sent h = elim (or_cases (eqb (number_of p) n) (has_number n ps) h) [
    | inl here ↦
        let i = sent.0 in
        let number = number_of_sent c.known c.clock_rate c.first c.kind c.faithful c.splits c.units c.lawful c.numbered p i in
        let l = slice_get_within (packets_of c.units) i.0 i.1 i.2 in
        let same : number_of p ≡ n = grind (arith, nat_tests, here) in
        (omega (arith, number, same), omega (arith, number, same, l))
    | inr later ↦ sent_within n ps sent.1 later
  ]

  pub span_within : (from : ℕ) (w : Stretch) → IsReady from w.left → IsSpan w → IsInRange w.left w.pushes c.first count
  span_within from w ready is n h = elim (or_cases (has_number n w.left.held) (not (is_at_most w.left.cutoff n) && has_number n w.pushes) h) [
    | inl held ↦ sent_within n w.left.held ready.beyond.sent held
    | inr pushed ↦ sent_within n w.pushes is.sent (and_right (not (is_at_most w.left.cutoff n)) (has_number n w.pushes) pushed)
  ]

  pub span_left : (from : ℕ) (w : Stretch) → IsReady from w.left → IsSpan w → IsLeft w.left (numbers_in c.first count w) w.now
  span_left from w ready is =
      subst (IsLeft w.left (numbers_in c.first count w)) (sym is.now) (leaves_numbers w.left w.pushes c.first count (is_sound from w.left ready) (span_within from w ready is))

  pub span_ready : (from : ℕ) (w : Stretch) → IsReady from w.left → IsSpan w → IsReady from w.now
  span_ready from w ready is =
      let left = span_left from w ready is in
      record {
        beyond = span_beyond from w ready.beyond is;
        few = omega (arith, ap length left.held, length-map w.now.held number_of, kept_few w.left (numbers_in c.first count w), left.limit);
      }

  few_above : (s t : State) (last : ℕ) → t.held ≡ above last s.held → t.limit ≡ s.limit → length s.held ≤ s.limit → length t.held ≤ t.limit
  few_above s t last held limit few = omega (arith, ap length held, limit, few, above_shorter last s.held)

  few_passes : (s t : State) (over : List CompleteFrame) → length s.held ≤ s.limit → Passes s over t → length t.held ≤ t.limit
  few_passes s t over few none = few
  few_passes s u over few (one_more {t = t} passes p) =
      few_above t u p.frame.last (ap (λ (x : State). x.held) p.left) (ap (λ (x : State). x.limit) p.left) (few_passes s t _ few passes)

  pub few_released : (s t : State) (r : Release) → length s.held ≤ s.limit → Releases s r t → length t.held ≤ t.limit
  few_released s t r few out = few_above s t out.frame.last (ap (λ (x : State). x.held) out.left) (ap (λ (x : State). x.limit) out.left) few

  pub few_popped : (s t : State) (over : List CompleteFrame) (a : Answer) → length s.held ≤ s.limit → IsPop s t over a → length t.held ≤ t.limit
  few_popped s t over None few (waits passes nothing) = few_passes s t over few passes
  few_popped s t over (Some (Ok r)) few (releases mid passes out) = few_released mid t r (few_passes s mid over few passes) out
  few_popped s t over (Some (Err fault)) few pop = elim pop [ ]

  pub ready_pops : (from : ℕ) (s t : State) (over : List CompleteFrame) (a : Answer) → IsReady from s → IsPop s t over a → (next : ℕ) × IsReady next t
  ready_pops from s t over a ready pop =
      let next = popped_beyond from s t over a ready.beyond pop in
      (next.0, record { beyond = next.1; few = few_popped s t over a ready.few pop })

  pub left_ready : (from : ℕ) (s : State) (w : Stretch) → w.left ≡ s → IsReady from s → IsReady from w.left
  left_ready from s w at ready = subst (IsReady from) (sym at) ready

  -- each held packet is a separate push
  sent_in : (hs : List Held) → ArePushes hs → (p : Held) → IsIn p hs → IsSentPacket c.known (packets_of c.units) p
  sent_in [] sent p is = absurd is
  sent_in (q ∷ qs) sent p (inl same) =
      let i = sent.0 in
      subst (λ (h : Held). IsSentPacket c.known (packets_of c.units) h) (sym same) (i.0, i.1, i.2, i.3, ap (λ (h : Held). h.bytes) i.4)
  sent_in (q ∷ qs) sent p (inr later) = sent_in qs sent.1 p later

  stretch_of : (from : ℕ) (w : Stretch) → IsReady from w.left → IsSpan w → IsStretch c.known c.first (packets_of c.units) w
  stretch_of from w ready is = record {
    numbers = span_left from w ready is;
    each = λ p there. sent_in w.now.held (span_ready from w ready is).beyond.sent p (in_contains p w.now.held there);
  }

  -- at each moment of a stretch, and at its end
  sent_front : (ps qs : List Held) → ArePushes (ps ++ qs) → ArePushes ps
  sent_front [] qs sent = tt
  sent_front (p ∷ ps) qs sent = (sent.0, sent_front ps qs sent.1)

  ordered : (from : ℕ) (w : Stretch) → IsReady from w.left → IsSpan w → IsOrdered c.known c.first (packets_of c.units) w
  ordered from w ready is = record {
    at_each = λ pushes more split. stretch_of from (up_to w pushes) ready (record { sent = sent_front pushes more (subst ArePushes split is.sent); now = refl });
    at_end = stretch_of from w ready is;
  }

  pub are_stretches : (from : ℕ) (s : State) (turns : List Turn) (end : Stretch) → IsReady from s → Chain s turns end → AreStretches c.known c.first (packets_of c.units) turns end
  are_stretches from s [] end ready chain = ordered from end (left_ready from s end chain.0 ready) chain.1
  are_stretches from s (turn ∷ turns) end ready chain =
      let left = left_ready from s turn.stretch chain.0 ready in
      let next = ready_pops from turn.stretch.now turn.after turn.passed turn.answer (span_ready from turn.stretch left chain.1) chain.2 in
      (ordered from turn.stretch left chain.1, are_stretches next.0 turn.after turns end next.1 chain.3)
