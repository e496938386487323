-- Whatever of the packets of a run comes to a buffer, and however long each pop waits, both halves of the theorem hold.
use Rattle.std.proofs.Common.{◌≡◌, ◌≢◌, ◌∙◌, refl, sym, ap, ℕ, suc, subst, List, [], Option, Some, None, Err, true, ◌++◌, ◌+◌, ◌∷◌, ◌<◌, ◌≤◌, ◌⊎◌, inl, inr, arith, length}
use Rattle.std.specs.Prelude.{Contains, slice_get}
use Rattle.std.proofs.lemmas.Option.{slice_get_within}
use Rattle.codec_payload_base.specs.declared.error.PacketError.TheVariants as faults
use Rattle.codec_payload_buffer.proofs.MemberLemmas.{IsIn, contains_in}
use Rattle.codec_payload_codec.specs.Depacketizers.{DepacketizerKind, kind_of_depacketizer, tail_in}
use Rattle.codec_payload_buffer.specs.Held.{Held, number_of, has_number}
use Rattle.codec_payload_buffer.specs.Steps.{State, arrived, pushed, is_dropped, Pops}
use Rattle.codec_payload_metadata.specs.declared.meta.RtpMeta.{RtpMeta}
use Rattle.codec_payload_buffer_runs.proofs.units.BuiltInRuns.{Runs, plainly, unused_exactly}
use Rattle.codec_payload_buffer_runs.proofs.order.ChainLemmas.{Exactly, Filling, full_at_pop}
use Rattle.codec_payload_buffer_runs.proofs.order.ExactLemmas.{MayGo, dropped, pop_answers}
use Rattle.codec_payload_buffer_runs.proofs.order.FillLemmas.{IsFilled, filled}
use Rattle.codec_payload_buffer_runs.proofs.order.HoldBackLemmas.{beyond_with}
use Rattle.codec_payload_buffer_runs.proofs.order.RunSettings.{may_go, setting, fresh, empty}
use Rattle.codec_payload_buffer_runs.proofs.order.SafetyLemmas.{SendsAll, all_end, beyond_pushed, number_of_sent, sends_all}
use Rattle.codec_payload_buffer_runs.proofs.units.StreamLemmas.{Streams, streams}
use Rattle.codec_payload_buffer_runs.proofs.order.TurnLemmas.{Setting, Beyond, IsPush, count, pop_is, pop_in_order}
use Rattle.codec_payload_buffer_runs.proofs.units.UnitRows.{IsFaithful, held_as}
use Rattle.codec_payload_buffer_runs.specs.Arrivals.{Event, Arrives, Asked, PopsWaiting, Tells, Meets, IsMet, OnlyArrive, HasArrival, AllAreMade, AllArriveFirst, ReleasesArrivals, ReleaseInOrder}
use Rattle.codec_payload_buffer_runs.specs.Exact.{AnswersAll}
use Rattle.codec_payload_buffer_runs.specs.Headline.{InOrder, IsUnused}
use Rattle.codec_payload_payloader.specs.Packets.{Packet}
use Rattle.codec_payload_buffer_runs.specs.Schedule.{Answer, RunState}
use Rattle.codec_payload_payloader.specs.Sending.{Sample}
use Rattle.codec_payload_buffer_runs.specs.SentStream.{AreReadable, SentUnit, packets_of}
use Rattle.codec_payload_codec.specs.Packetizers.{payloads_by, may_split}
use Rattle.codec_payload_buffer_runs.specs.declared.run.Sent.{Sent}
use Rattle.codec_payload_buffer_runs.specs.declared.run.Step.{Step}

pub met_faithful : (events : List Event) (clock_rate : ℕ) (kind : DepacketizerKind) → IsFaithful (IsMet clock_rate events) clock_rate kind
met_faithful events clock_rate kind = record {
  number = λ k q m met. met.1.number;
  time = λ k q m met. met.1.time;
  tail = λ k q m met. ap (λ b. tail_in kind b q.payload) met.1.marker;
}

module _ (c : Setting) where
  abbrev Known : ℕ → Packet → RtpMeta → Type 0
  Known = c.known

  -- an event says what is known of the packet that it brings
  abbrev pub AllKnown : List Event → Type 0
  AllKnown events = (k : ℕ) (meta : RtpMeta) → IsIn (Arrives k meta) events → (q : Packet) → Tells c.clock_rate q meta → c.known k q meta

  -- so it is a push of a packet that was sent
  abbrev push_of : (s : State) (k : ℕ) (meta : RtpMeta) (q : Packet) → slice_get (packets_of c.units) k ≡ Some q → c.known k q meta
      → kind_of_depacketizer s.depacketizer ≡ c.kind → IsPush c (arrived s.depacketizer meta q.payload)
  push_of s k meta q there known reads = (k, q, there, known, ap (λ (x : DepacketizerKind). held_as x meta q.payload) reads)

  -- units are released in order, each at most once
  pub met_in_order : (from : ℕ) (events : List Event) (s t : State) (answers : List Answer) → AllKnown events → Beyond c from s → Meets c.clock_rate (packets_of c.units) events s answers t
      → InOrder c.known c.splits c.units from answers
  met_in_order from [] s t answers known beyond meets = subst (InOrder c.known c.splits c.units from) (sym meets.0) tt
  met_in_order from (Arrives k meta ∷ events) s t answers known beyond meets =
      let q : Packet = meets.0 in
      let push = push_of s k meta q meets.1 (known k meta (inl refl) q meets.2) beyond.reads in
      let next = beyond_pushed c.known c.clock_rate c.first c.kind c.faithful c.splits c.units c.lawful c.numbered from s (arrived s.depacketizer meta q.payload) push beyond in
      met_in_order from events (pushed s (arrived s.depacketizer meta q.payload)) t answers (λ j m is. known j m (inr is)) next meets.3
  met_in_order from (Asked None ∷ events) s t answers known beyond meets =
      let rest = met_in_order from events meets.2 t meets.1 (λ j m is. known j m (inr is)) (subst (Beyond c from) (sym meets.4.1) beyond) meets.5 in
      subst (InOrder c.known c.splits c.units from) (sym (meets.3 ∙ ap (λ (a : Answer). a ∷ meets.1) meets.4.0)) rest
  met_in_order from (Asked (Some h) ∷ events) s t answers known beyond meets =
      let waiting : State = record s { hold_back = h } in
      let before = beyond_with c from h s beyond in
      let over = meets.4.1.0 in
      let pop = pop_is c from waiting meets.2 over meets.0 before meets.4.1.1 meets.4.0 in
      subst (InOrder c.known c.splits c.units from) (sym meets.3)
      (pop_in_order c from waiting meets.2 over meets.0 meets.1 before pop (λ n after. met_in_order n events meets.2 t meets.1 (λ j m is. known j m (inr is)) after meets.5))

  -- the state that these pushes into an unused buffer leave, and the events after them
  pub record IsFull (start s : State) (before after : List Event) (answers : List Answer) (t : State) : Type 0 where
    pub mid : State
    pub filling : Filling c start mid
    pub has : (k : ℕ) → HasArrival k before → has_number (c.first + k) mid.held ≡ true
    pub still : (n : ℕ) → has_number n s.held ≡ true → has_number n mid.held ≡ true
    pub meets : Meets c.clock_rate (packets_of c.units) after mid answers t

  all_arrive : (start s : State) (before after : List Event) (answers : List Answer) (t : State) → AllKnown before → OnlyArrive before → Filling c start s
      → Meets c.clock_rate (packets_of c.units) (before ++ after) s answers t
      → IsFull start s before after answers t
  all_arrive start s [] after answers t known only filling meets = record { mid = s; filling = filling; has = λ k h. absurd h; still = λ n h. h; meets = meets }
  all_arrive start s (Asked wait ∷ before) after answers t known only filling meets = absurd only
  all_arrive start s (Arrives k meta ∷ before) after answers t known only filling meets =
      let q : Packet = meets.0 in
      let p : Held = arrived s.depacketizer meta q.payload in
      let push = push_of s k meta q meets.1 (known k meta (inl refl) q meets.2) filling.beyond.reads in
      let one = filled c.known c.clock_rate c.first c.kind c.faithful c.splits c.units c.lawful c.numbered start s p push filling in
      let number : p.meta.seq_no.0 ≡ c.first + k = number_of_sent c.known c.clock_rate c.first c.kind c.faithful c.splits c.units c.lawful c.numbered p push in
      let rest = all_arrive start (pushed s p) before after answers t (λ j m is. known j m (inr is)) only one.filling meets.3 in
      record {
        mid = rest.mid;
        filling = rest.filling;
        has = λ n h. elim h [
          | inl here ↦ rest.still (c.first + n) (subst (λ (m : ℕ). has_number (c.first + m) (pushed s p).held ≡ true) here (subst (λ (m : ℕ). has_number m (pushed s p).held ≡ true) number one.has))
          | inr later ↦ rest.has n later
        ];
        still = λ n h. rest.still n (one.still n h);
        meets = rest.meets;
      }

  exactly_with : (k h : ℕ) (rest : List SentUnit) (s : State) → Exactly c k rest s → Exactly c k rest (record s { hold_back = h })
  exactly_with k h rest s e = record {
    row = e.row;
    rises = e.rises;
    next = e.next;
    count = e.count;
    lawful = e.lawful;
    numbered = e.numbered;
    one_time = e.one_time;
    reads = e.reads;
    may_go = e.may_go;
  }

  -- from then on each push is dropped, and each pop returns the next unit
  answers_on : (k : ℕ) (rest : List SentUnit) (events : List Event) (s t : State) (answers : List Answer) → AllKnown events → AllAreMade events → Exactly c k rest s
      → Meets c.clock_rate (packets_of c.units) events s answers t
      → AnswersAll c.known k rest answers
  answers_on k rest [] s t answers known made exactly meets = subst (AnswersAll c.known k rest) (sym meets.0) tt
  answers_on k rest (Arrives j meta ∷ events) s t answers known made exactly meets =
      let q : Packet = meets.0 in
      let p : Held = arrived s.depacketizer meta q.payload in
      let push = push_of s j meta q meets.1 (known j meta (inl refl) q meets.2) exactly.reads in
      let number : p.meta.seq_no.0 ≡ c.first + j = number_of_sent c.known c.clock_rate c.first c.kind c.faithful c.splits c.units c.lawful c.numbered p push in
      let drop : is_dropped s (number_of p) ≡ true =
      subst (λ (n : ℕ). is_dropped s n ≡ true) (sym number) (dropped c.known c.clock_rate c.first c.kind c.faithful c.splits c.units k j rest s exactly
      (slice_get_within (packets_of c.units) j q meets.1)) in
      let same : pushed s p ≡ s = rw drop refl in
      answers_on k rest events s t answers (λ i m is. known i m (inr is)) made exactly (subst (λ (x : State). Meets c.clock_rate (packets_of c.units) events x answers t) same meets.3)
  answers_on k rest (Asked None ∷ events) s t answers known made exactly meets = absurd made
  answers_on k rest (Asked (Some h) ∷ events) s t answers known made exactly meets =
      subst (AnswersAll c.known k rest) (sym meets.3)
      (pop_answers c.known c.clock_rate c.first c.kind c.faithful c.splits c.units k rest (record s { hold_back = h }) meets.2 meets.0 meets.1 (exactly_with k h rest s exactly) meets.4.0 meets.4.1
      (λ n left there. answers_on n left events meets.2 t meets.1 (λ i m is. known i m (inr is)) made there meets.5))

  -- all units, whole
  pub met_all : (before after : List Event) (s t : State) (answers : List Answer) → AllKnown (before ++ after) → OnlyArrive before → AllAreMade after → Filling c s s
      → MayGo c.units s.depacketizer s.contiguity
      → ((k : ℕ) → k < count c → HasArrival k before) → Meets c.clock_rate (packets_of c.units) (before ++ after) s answers t → AnswersAll c.known 0 c.units answers
  met_all before after s t answers known only made filling may each meets =
      let full = all_arrive s s before after answers t (λ k m is. known k m (left_in before k m is)) only filling meets in
      let exactly = full_at_pop c s full.mid full.filling may (λ k l. full.has k (each k l)) in
      answers_on 0 c.units after full.mid t answers (λ k m is. known k m (right_in before k m is)) made exactly full.meets
    where
      left_in : (es : List Event) (k : ℕ) (m : RtpMeta) → IsIn (Arrives k m) es → IsIn (Arrives k m) (es ++ after)
      left_in [] k m is = absurd is
      left_in (e ∷ es) k m (inl here) = inl here
      left_in (e ∷ es) k m (inr later) = inr (left_in es k m later)

      right_in : (es : List Event) (k : ℕ) (m : RtpMeta) → IsIn (Arrives k m) after → IsIn (Arrives k m) (es ++ after)
      right_in [] k m is = is
      right_in (e ∷ es) k m is = inr (right_in es k m is)

module _ (samples : List Sample) (all_steps : List Step) (s t : RunState) (sends : List Sent) (pops : List Answer)
    (run : Runs plainly samples 0 all_steps s sends pops t) (unused : IsUnused s) (readable : AreReadable s.payloading.packetizer samples)
    (events : List Event) (answers : List Answer) (left : State) (meets : Meets s.payloading.clock_rate t.sink.packets events s.buffer answers left) where
  abbrev kind : DepacketizerKind
  kind = payloads_by s.payloading.packetizer

  abbrev faithful : IsFaithful (IsMet s.payloading.clock_rate events) s.payloading.clock_rate kind
  faithful = met_faithful events s.payloading.clock_rate kind

  abbrev stream : Streams samples all_steps s t
  stream = streams plainly samples 0 all_steps s t sends pops run

  sent : SendsAll s t stream.units
  sent = sends_all samples all_steps s t unused stream

  abbrev here : Setting
  here = setting samples all_steps s t stream unused readable (IsMet s.payloading.clock_rate events) faithful stream.units (stream.lawful readable) (sym sent.whole)

  known : AllKnown here events
  known k meta is q tells = (contains_in (Arrives k meta) events is, tells)

  meets_units : Meets s.payloading.clock_rate (packets_of stream.units) events s.buffer answers left
  meets_units = subst (λ (ps : List Packet). Meets s.payloading.clock_rate ps events s.buffer answers left) sent.whole meets

  pub releases_arrivals : ReleasesArrivals samples all_steps s t events answers
  releases_arrivals = record {
    units = stream.units;
    canonical = stream.canonical;
    packets = sym sent.whole;
    ends = all_end kind (may_split s.payloading.packetizer) stream.units (stream.lawful readable);
    in_order = met_in_order here 0 events s.buffer left answers known
        (fresh samples all_steps s t stream unused readable (IsMet s.payloading.clock_rate events) faithful stream.units (stream.lawful readable) (sym sent.whole)) meets_units;
    exactly = λ first. met_all here first.before first.after s.buffer left answers (subst (AllKnown here) first.whole known) first.no_pops first.made
        (empty samples all_steps s t stream unused readable (IsMet s.payloading.clock_rate events) faithful stream.units (stream.lawful readable) (sym sent.whole) first.few)
        (may_go samples all_steps s t stream unused readable (IsMet s.payloading.clock_rate events) faithful)
        (λ k l. first.each k (subst (λ (ps : List Packet). k < length ps) (sym sent.whole) l))
        (subst (λ (es : List Event). Meets s.payloading.clock_rate (packets_of stream.units) es s.buffer answers left) first.whole meets_units);
  }

pub release_in_order : ReleaseInOrder
release_in_order samples all_steps s t sends pops run unused readable events answers left meets =
    releases_arrivals samples all_steps s t sends pops (unused_exactly samples all_steps s sends pops t unused run) unused readable events answers left meets
