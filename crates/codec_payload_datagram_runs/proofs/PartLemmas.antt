-- One part of a run with announced restarts: what it sends, and what its deliveries push.
use Rattle.std.proofs.Common.{◌≡◌, ◌∙◌, refl, sym, ap, subst, ℕ, ◌+◌, ◌-◌, ◌%◌, ◌^◌, ◌<◌, ◌≤◌, ◌⊎◌, inl, inr, List, [], ◌∷◌, ◌++◌, cond, Bool, true, false, Option, None, arith, length, ltb, map}
use Rattle.std.specs.Prelude.{Contains}
use Rattle.std.proofs.lemmas.Bool.{le-ltb, lt-ltb}
use Rattle.std.proofs.lemmas.Option.{slice_get_within}
use Rattle.codec_payload_buffer.proofs.MemberLemmas.{IsIn, contains_in, in_contains}
use Rattle.codec_payload_buffer.specs.Steps.{State, empty_buffer}
use Rattle.codec_payload_metadata.specs.declared.meta.RtpMeta.{RtpMeta}
use Rattle.codec_payload_codec.specs.Depacketizers.{DepacketizerKind, DepacketizerState, tail_in}
use Rattle.codec_payload_codec.specs.Packetizers.{may_split, payloads_by}
use Rattle.codec_payload_numbers.specs.NotedTimes.{AreTimesOf}
use Rattle.codec_payload_jitter.specs.Receiving.{Receiving}
use Rattle.codec_payload_numbers.specs.Numbers.{IsNumbering, Numbering, no_numbers}
use Rattle.codec_payload_rtp.specs.declared.values.ExtensionIds.{ExtensionIds}
use Rattle.codec_payload_buffer_runs.proofs.order.ArrivalLemmas.{AllKnown}
use Rattle.codec_payload_buffer_runs.proofs.order.RunSettings.{setting}
use Rattle.codec_payload_buffer_runs.proofs.order.SafetyLemmas.{SendsAll, all_end, sends_all}
use Rattle.codec_payload_buffer_runs.proofs.order.TurnLemmas.{Setting}
use Rattle.codec_payload_buffer_runs.proofs.units.BuiltInRuns.{plainly, unused_exactly}
use Rattle.codec_payload_buffer_runs.proofs.units.StreamLemmas.{Streams, streams}
use Rattle.codec_payload_buffer_runs.proofs.units.UnitRows.{IsFaithful}
use Rattle.codec_payload_buffer_runs.specs.Arrivals.{Event, HasArrival, Meets, OnlyArrive}
use Rattle.codec_payload_buffer_runs.specs.Headline.{IsUnused}
use Rattle.codec_payload_buffer_runs.specs.LawfulUnits.{AllLawful}
use Rattle.codec_payload_buffer_runs.specs.Log.{Stretch}
use Rattle.codec_payload_buffer_runs.specs.RunValues.{values_of_run}
use Rattle.codec_payload_buffer_runs.specs.Schedule.{Answer, RunState}
use Rattle.codec_payload_buffer_runs.specs.SentStream.{AllEndWithTail, AreReadable, SentUnit, packets_of, units_of_run}
use Rattle.codec_payload_buffer_runs.specs.declared.run.Step.{Step}
use Rattle.codec_payload_payloader.specs.Packets.{Packet}
use Rattle.codec_payload_payloader.specs.Sending.{Sample}
use Rattle.codec_payload_sending.specs.Senders.{Sending}
use Rattle.codec_payload_receiver.specs.Sessions.{Session}
use Rattle.codec_payload_receiver.specs.declared.receiver.Settings.{Settings}
use Rattle.codec_payload_datagram_runs.proofs.BegunNumbers.{AllBelow, all_begun, all_first, below_after, bound_of, first_above, first_after, first_low_bits, first_most, greatest_after, numbering_at, through_begun, through_first, top_below}
use Rattle.codec_payload_datagram_runs.proofs.Courses.{proceeds}
use Rattle.codec_payload_datagram_runs.proofs.EventLemmas.{AllAtOnce, AllTimed, Brings, HasLog, IsRead, delivery_of, met_by, numbering_through, split_at_end, times_from}
use Rattle.codec_payload_datagram_runs.proofs.TimelyLemmas.{StayTimely, stay_timely, time_in}
use Rattle.codec_payload_numbers.specs.declared.noted_times.NotedTime.{NotedTime}
use Rattle.codec_payload_datagram_runs.proofs.LogLemmas.{log_known}
use Rattle.codec_payload_datagram_runs.proofs.ReceivingLemmas.{AllNumbered, IsListening, KeepsLimits}
use Rattle.codec_payload_datagram_runs.proofs.SendingLemmas.{SendsRun, running, same_count, sends_run}
use Rattle.codec_payload_datagram_runs.proofs.StepLemmas.{ComesTo, Takes, comes_to}
use Rattle.codec_payload_datagram_runs.proofs.ToldLemmas.{AllBegun, IsHeard, IsTold, heard_on, met_told, numbering_begun}
use Rattle.codec_payload_datagram_runs.proofs.ValueLemmas.{has_values}
use Rattle.codec_payload_datagram_runs.specs.Releases.{AllComeFirst, AreDatagrams, AreOfOneStream, ComeTimely, ComeWithin, HasValuesOf, HaveValuesOfSamples, IsDelivery, delivered, received_steps, sending_steps, times_sent}
use Rattle.codec_payload_datagram_runs.specs.RestartReleases.{EndsAfterFirst}
use Rattle.codec_payload_datagram_runs.specs.WireLogs.{IsLogOf}
use Rattle.codec_payload_datagram_runs.specs.WireRuns.{Runs, Wire, begins}
use Rattle.codec_payload_datagram_runs.specs.declared.run.DatagramStep.{DatagramStep}
use Rattle.codec_payload_datagram_runs.specs.declared.run.DatagramStep.TheVariants as steps
use Rattle.codec_payload_datagram_runs.specs.declared.run.SentSample.{SentSample}

-- the indices of datagrams that were sent
takes_below : (later : List DatagramStep) (datagrams : List (List ℕ)) (s t : Session) (answers : List Answer) → Takes None later datagrams s answers t → AllBelow (length datagrams) (delivered later)
takes_below [] datagrams s t answers takes = tt
takes_below (steps.Send i ∷ later) datagrams s t answers takes = takes_below later datagrams s t answers takes
takes_below (steps.Deliver k now ∷ later) datagrams s t answers takes = (slice_get_within datagrams k takes.0 takes.1, takes_below later datagrams takes.5 t answers takes.7)
takes_below (steps.Pop now ∷ later) datagrams s t answers takes = takes_below later datagrams takes.2 t takes.1 takes.6
takes_below (steps.Finish ∷ later) datagrams s t answers takes = takes_below later datagrams takes.0 t answers takes.2

-- a delivery names one of the indices
delivered_in : (k : ℕ) (meta : RtpMeta) (later : List DatagramStep) → IsIn (steps.Deliver k meta.received) later → IsIn k (delivered later)
delivered_in k meta [] is = absurd is
delivered_in k meta (steps.Send i ∷ later) (inl same) = absurd (cc)
delivered_in k meta (steps.Send i ∷ later) (inr is) = delivered_in k meta later is
delivered_in k meta (steps.Deliver j now ∷ later) (inl same) = inl (cc)
delivered_in k meta (steps.Deliver j now ∷ later) (inr is) = inr (delivered_in k meta later is)
delivered_in k meta (steps.Pop now ∷ later) (inl same) = absurd (cc)
delivered_in k meta (steps.Pop now ∷ later) (inr is) = delivered_in k meta later is
delivered_in k meta (steps.Finish ∷ later) (inl same) = absurd (cc)
delivered_in k meta (steps.Finish ∷ later) (inr is) = delivered_in k meta later is

below_in : (bound k : ℕ) (ks : List ℕ) → AllBelow bound ks → IsIn k ks → k < bound
below_in bound k [] below is = absurd is
below_in bound k (j ∷ ks) below (inl same) = subst (λ (n : ℕ). n < bound) (sym same) below.0
below_in bound k (j ∷ ks) below (inr is) = below_in bound k ks below.1 is

-- how the part starts: the receiver is new, or a restart was announced to it
abbrev pub Starts : Sending → Session → Option ℕ → List DatagramStep → Type 0
Starts sender s greatest received =
    (IsListening None sender.stream s × (greatest ≡ None) × (s.packets.first ≡ None)) ⊎ (IsTold sender.stream s × EndsAfterFirst received)

-- what is given of a part: its run, its premises, and what is known of its receiver. `greatest` is the highest number so far, and
-- the noted times are those of `time_of`
pub record PartGiven : Type 0 where
  pub samples : List Sample
  pub all_steps : List DatagramStep
  pub sender : Sending
  pub receiver : Session
  pub end : Wire
  pub run : Runs samples all_steps (begins sender receiver) end
  pub settings : Settings
  pub depacketizer : DepacketizerState
  pub one_stream : AreOfOneStream sender settings depacketizer
  pub readable : AreReadable sender.packetizer samples
  pub within : ComeWithin settings.forward settings.backward (delivered (received_steps samples 0 all_steps end.sends))
  pub timely : ComeTimely sender.stream.clock_rate (times_sent sender.stream.clock_rate samples all_steps end.sends) (delivered (received_steps samples 0 all_steps end.sends))
  pub windows : IsNumbering (no_numbers settings.forward settings.backward)
  pub greatest : Option ℕ
  pub numbering : receiver.packets.numbering ≡ numbering_at settings.forward settings.backward greatest
  pub room : bound_of greatest + 196608 + length end.datagrams < 2 ^ 62
  pub time_of : ℕ → ℕ
  pub noted : (t : ℕ → ℕ) → ((n : ℕ) → n < bound_of greatest → t n ≡ time_of n) → AreTimesOf t receiver.packets.noted
  pub starts : Starts sender receiver greatest (received_steps samples 0 all_steps end.sends)

module _ (g : PartGiven) where
  abbrev pub received : List DatagramStep
  received = received_steps g.samples 0 g.all_steps g.end.sends

  abbrev indices : List ℕ
  indices = delivered received

  abbrev rate : ℕ
  rate = g.sender.stream.clock_rate

  abbrev forward : ℕ
  forward = g.settings.forward

  abbrev backward : ℕ
  backward = g.settings.backward

  abbrev number : ℕ
  number = g.sender.stream.number % 65536

  low : number < 65536
  low = omega arith

  abbrev pub first : ℕ
  first = first_after g.greatest number indices

  -- the highest number after the part, and the bound of all numbers so far
  abbrev pub greatest : Option ℕ
  greatest = greatest_after g.greatest first indices

  comes : ComesTo None g.samples g.all_steps (begins g.sender g.receiver) g.end
  comes = comes_to None g.samples g.all_steps (begins g.sender g.receiver) g.end (proceeds None g.samples g.all_steps (begins g.sender g.receiver) g.end g.run)

  takes : Takes None received g.end.datagrams g.receiver g.end.pops g.end.session
  takes = subst (λ (answers : List Answer). Takes None received g.end.datagrams g.receiver answers g.end.session) (sym comes.pops)
      (subst (λ (sends : List SentSample). Takes None (received_steps g.samples 0 g.all_steps sends) g.end.datagrams g.receiver comes.answers g.end.session) (sym comes.sends) comes.takes)

  below : AllBelow (length g.end.datagrams) indices
  below = takes_below received g.end.datagrams g.receiver g.end.session g.end.pops takes

  pub above : bound_of g.greatest < first
  above = first_above g.greatest forward backward number indices g.within

  most : first ≤ bound_of g.greatest + 196608
  most = first_most g.greatest number indices low

  small : first < 2 ^ 63
  small = let m = most in let r = g.room in omega (arith, m, r)

  fits : first + length g.end.datagrams < 2 ^ 64
  fits = let m = most in let r = g.room in omega (arith, m, r)

  bits : g.sender.stream.number % 2 ^ 16 ≡ (first + 0) % 2 ^ 16
  bits = let is = first_low_bits g.greatest forward backward number indices g.within low in omega (arith, is)

  -- What is sent

  -- a buffer that nothing was pushed into
  abbrev unused_buffer : State
  unused_buffer = empty_buffer 0 1 g.depacketizer

  pub sent : SendsRun unused_buffer g.sender.stream g.sender.mtu first 0 g.samples g.all_steps (begins g.sender g.receiver) g.end []
  sent = sends_run unused_buffer g.sender.stream g.sender.mtu first small g.samples None 0 g.all_steps (begins g.sender g.receiver) g.end []
      (record { mtu = refl; built_in = g.one_stream.built_in; kept = refl; number = bits; reads = tt; numbered = tt; few = omega arith })
      (proceeds None g.samples g.all_steps (begins g.sender g.receiver) g.end g.run)

  abbrev start : RunState
  start = running unused_buffer first rate g.sender []

  abbrev after : RunState
  after = running unused_buffer first rate g.end.sending sent.all

  abbrev sends : List Step
  sends = sending_steps g.sender.mtu g.all_steps

  pub unused : IsUnused start
  unused = record {
    built_in = g.one_stream.built_in;
    nothing_sent = refl;
    nothing_held = refl;
    no_cutoff = refl;
    no_mark = refl;
    alike = g.one_stream.alike;
    nothing_read = g.one_stream.nothing_read;
    nothing_kept = refl;
  }

  pub units_sent : Streams g.samples sends start after
  units_sent = streams plainly g.samples 0 sends start after sent.entries [] (unused_exactly g.samples sends start sent.entries [] after unused sent.runs)

  pub whole : SendsAll start after units_sent.units
  whole = sends_all g.samples sends start after unused units_sent

  abbrev pub units : List SentUnit
  units = units_sent.units

  abbrev kind : DepacketizerKind
  kind = payloads_by g.sender.packetizer

  abbrev splits : Bool
  splits = may_split g.sender.packetizer

  pub lawful : AllLawful kind splits units
  lawful = units_sent.lawful g.readable

  abbrev pub Known : ExtensionIds → ℕ → Packet → RtpMeta → Type 0
  Known ids = IsDelivery ids g.sender.stream (packets_of units) received

  pub faithful : (ids : ExtensionIds) → IsFaithful (Known ids) rate kind
  faithful ids = record {
    number = λ k q m known. known.1.number;
    time = λ k q m known. known.1.time;
    tail = λ k q m known. ap (λ b. tail_in kind b q.payload) known.1.marker;
  }

  abbrev pub here : ExtensionIds → Setting
  here ids = setting g.samples sends start after units_sent unused g.readable (Known ids) (faithful ids) units lawful (sym whole.whole)

  pub canonical : map (λ (u : SentUnit). u.parts) units ≡ units_of_run g.sender.packetizer g.samples (sending_steps g.sender.mtu g.all_steps)
  canonical = units_sent.canonical

  pub datagrams : AreDatagrams g.sender.stream (packets_of units) g.end.datagrams
  datagrams = subst (λ (ps : List Packet). AreDatagrams g.sender.stream ps g.end.datagrams) whole.whole sent.at.reads

  pub ends : AllEndWithTail (payloads_by g.sender.packetizer) units
  ends = all_end kind splits units lawful

  pub values : (base : Session) (t : Wire) → HaveValuesOfSamples g.samples g.all_steps (begins g.sender base) t units
  values base t = λ video ids place r is. has_values base.stream.ids g.sender.stream (received_steps g.samples 0 g.all_steps t.sends) kind splits units
      (values_of_run g.sender.packetizer g.samples sends) ends (units_sent.values video) ids.same ids.fit place r is

  -- What is received

  numbers_begun : AllBegun first g.receiver.packets.numbering indices
  numbers_begun = subst (λ (n : Numbering). AllBegun first n indices) (sym g.numbering)
      (all_begun forward backward g.greatest number (length g.end.datagrams) g.windows.apart g.windows.order indices fits below g.within)

  goes_through : numbering_begun first g.receiver.packets.numbering indices ≡ numbering_at forward backward greatest
  goes_through = ap (λ (n : Numbering). numbering_begun first n indices) g.numbering
      ∙ through_begun forward backward g.greatest number (length g.end.datagrams) g.windows.apart g.windows.order indices fits below g.within

  -- the numbers of the packets that arrive are below the bound after the part
  pub below_next : AllBelow (bound_of greatest - first) indices
  below_next = below_after g.greatest first indices (length g.end.datagrams) below

  -- the RTP times of all numbers so far
  abbrev pub times_after : ℕ → ℕ
  times_after n = cond (ltb n (bound_of g.greatest)) (g.time_of n) (times_from first sent.all n)

  all_timed : (t : ℕ → ℕ) → ((n : ℕ) → n < bound_of greatest → t n ≡ times_after n) → (ks : List ℕ) → AllBelow (bound_of greatest - first) ks → AllTimed t first sent.all ks
  all_timed t agrees [] under = tt
  all_timed t agrees (k ∷ ks) under =
      let high = above in
      let past : ltb (first + k) (bound_of g.greatest) ≡ false = le-ltb (first + k) (bound_of g.greatest) (omega (arith, high)) in
      let place : first + k - first ≡ k = omega arith in
      let here_is : times_after (first + k) ≡ time_in sent.all k =
      ap (λ (b : Bool). cond b (g.time_of (first + k)) (times_from first sent.all (first + k))) past ∙ ap (time_in sent.all) place in
      (sym (agrees (first + k) (omega (arith, under.0)) ∙ here_is), all_timed t agrees ks under.1)

  timely_part : StayTimely rate first sent.all None indices
  timely_part = stay_timely rate first sent.all (times_sent rate g.samples g.all_steps g.end.sends) indices
      (sent.times ∙ ap (times_sent rate g.samples g.all_steps) (sym sent.sends_are)) g.timely

  -- the bound does not fall
  pub bound_grows : bound_of g.greatest ≤ bound_of greatest
  bound_grows = by_indices indices above
    where
      by_indices : (ks : List ℕ) → bound_of g.greatest < first → bound_of g.greatest ≤ bound_of (greatest_after g.greatest first ks)
      by_indices [] high = omega arith
      by_indices (k ∷ ks) high = omega (arith, high)

  -- and rises by no more than the numbers that a part takes
  pub bound_most : bound_of greatest ≤ bound_of g.greatest + 196608 + length g.end.datagrams
  bound_most = by_indices indices most below
    where
      by_indices : (ks : List ℕ) → first ≤ bound_of g.greatest + 196608 → AllBelow (length g.end.datagrams) ks
          → bound_of (greatest_after g.greatest first ks) ≤ bound_of g.greatest + 196608 + length g.end.datagrams
      by_indices [] high few = omega arith
      by_indices (k ∷ ks) high few = let l = top_below (length g.end.datagrams) k ks few.0 few.1 in omega (arith, high, l)

  earlier_times : (t : ℕ → ℕ) → ((n : ℕ) → n < bound_of greatest → t n ≡ times_after n) → (n : ℕ) → n < bound_of g.greatest → t n ≡ g.time_of n
  earlier_times t agrees n l =
      let up = bound_grows in
      let within : ltb n (bound_of g.greatest) ≡ true = lt-ltb n (bound_of g.greatest) l in
      agrees n (omega (arith, l, up)) ∙ ap (λ (b : Bool). cond b (g.time_of n) (times_from first sent.all n)) within

  pub heard_by : (t : ℕ → ℕ) → ((n : ℕ) → n < bound_of greatest → t n ≡ times_after n)
      → IsHeard t g.sender.stream sent.all received g.receiver g.end.pops g.end.session (numbering_at forward backward greatest)
  heard_by t agrees = by_start g.starts
    where
      timed : AllTimed t first sent.all indices
      timed = all_timed t agrees indices below_next

      times : AreTimesOf t g.receiver.packets.noted
      times = g.noted t (earlier_times t agrees)

      through_to : (n : Numbering) → n ≡ numbering_at forward backward greatest → IsHeard t g.sender.stream sent.all received g.receiver g.end.pops g.end.session n
          → IsHeard t g.sender.stream sent.all received g.receiver g.end.pops g.end.session (numbering_at forward backward greatest)
      through_to n is heard = subst (IsHeard t g.sender.stream sent.all received g.receiver g.end.pops g.end.session) is heard

      by_start : Starts g.sender g.receiver g.greatest received
          → IsHeard t g.sender.stream sent.all received g.receiver g.end.pops g.end.session (numbering_at forward backward greatest)
      by_start (inr is_told) =
          through_to (numbering_begun first g.receiver.packets.numbering indices) goes_through
          (met_told g.sender.stream g.one_stream.not_rtcp first sent.all g.end.datagrams sent.at.reads sent.at.numbered t received g.receiver g.end.session g.end.pops is_told.0 is_told.1 numbers_begun timed timely_part times takes)
      by_start (inl new) =
          let none : g.receiver.packets.numbering ≡ no_numbers forward backward = g.numbering ∙ ap (numbering_at forward backward) new.1 in
          let numbers : AllNumbered first g.receiver.packets.numbering indices =
          subst (λ (n : Numbering). AllNumbered first n indices) (sym none) (all_first forward backward first indices (subst (λ (n : Numbering). AllBegun first n indices) none numbers_begun)) in
          let same : numbering_through first g.receiver.packets.numbering indices ≡ numbering_begun first g.receiver.packets.numbering indices =
          ap (λ (n : Numbering). numbering_through first n indices) none ∙ (through_first forward backward first indices ∙ ap (λ (n : Numbering). numbering_begun first n indices) (sym none)) in
          through_to (numbering_through first g.receiver.packets.numbering indices) (same ∙ goes_through)
          (heard_on t first g.sender.stream sent.all received g.receiver g.end.pops g.end.session
          (met_by None g.sender.stream g.one_stream.not_rtcp first sent.all g.end.datagrams sent.at.reads sent.at.numbered g.receiver.packets t received g.receiver g.end.session g.end.pops new.0
          (record { wait_limits = refl; room = refl }) numbers timed
          (subst (λ (o : Option NotedTime). StayTimely rate first sent.all o indices) (sym new.2) timely_part) times takes))

  pub is_heard : IsHeard times_after g.sender.stream sent.all received g.receiver g.end.pops g.end.session (numbering_at forward backward greatest)
  is_heard = heard_by times_after (λ n l. refl)

  -- Facts for the buffer

  pub known : AllKnown (here g.receiver.stream.ids) is_heard.events
  known k meta is q tells = (
    contains_in (steps.Deliver k meta.received) received (delivery_of g.receiver.packets.ended received is_heard.events k meta is_heard.brings is),
    tells,
    subst (λ (ps : List Packet). HasValuesOf g.receiver.stream.ids g.sender.stream ps k meta) whole.whole (is_heard.values k meta is),
  )

  pub meets : Meets rate (packets_of units) is_heard.events g.receiver.packets.buffer g.end.pops g.end.session.packets.buffer
  meets = subst (λ (ps : List Packet). Meets rate ps is_heard.events g.receiver.packets.buffer g.end.pops g.end.session.packets.buffer) whole.whole is_heard.meets

  pub known_below : (ids : ExtensionIds) (k : ℕ) (q : Packet) (m : RtpMeta) → Known ids k q m → first + k < bound_of greatest
  known_below ids k q m known =
      let l = below_in (bound_of greatest - first) k indices below_next (delivered_in k m received (in_contains (steps.Deliver k m.received) received known.0)) in
      omega (arith, l)

  -- the number of a delivered packet
  pub delivered_below : (k : ℕ) → Contains indices k → first + k < bound_of greatest
  delivered_below k there =
      let l = below_in (bound_of greatest - first) k indices below_next (in_contains k indices there) in
      omega (arith, l)

  -- the log of the part, for a receiver with the same limits
  pub log_of : (r : Receiving) → KeepsLimits r g.receiver.packets → (w : Stretch) → w.now ≡ g.receiver.packets.buffer
      → HasLog (Known g.receiver.stream.ids) (packets_of units) r g.receiver.packets.ended received w g.end.pops g.end.session.packets.buffer
  log_of r keeps w is =
      let ids : ExtensionIds = g.receiver.stream.ids in
      let l = is_heard.logs r keeps w is in
      record {
        turns = l.turns;
        end = l.end;
        is_log = log_known received (IsRead ids g.sender.stream (packets_of units)) (Known ids) (packets_of units) r
            (λ k q m there read. (contains_in (steps.Deliver k m.received) received there, read.0, read.1)) g.receiver.packets.ended received (λ step is. is) w l.turns l.end
            (subst (λ (ps : List Packet). IsLogOf (IsRead ids g.sender.stream ps) ps r g.receiver.packets.ended received w l.turns l.end) whole.whole l.is_log);
        answers_are = l.answers_are;
        left = l.left;
      }

  -- the events of a part whose datagrams all arrive before its stream ends, without a pop
  pub record IsComing (limit : ℕ) : Type 0 where
    pub before : List Event
    pub after : List Event
    pub whole : is_heard.events ≡ before ++ after
    pub only : OnlyArrive before
    pub once : AllAtOnce after
    pub each : (k : ℕ) → k < length (packets_of units) → HasArrival k before
    pub room : length (packets_of units) ≤ limit

  pub all_come : (limit : ℕ) → AllComeFirst limit (length g.end.datagrams) received → IsComing limit
  all_come limit come =
      let split = split_at_end g.receiver.packets.ended come.before come.after is_heard.events come.no_pops
      (subst (λ (es : List DatagramStep). Brings g.receiver.packets.ended es is_heard.events) come.whole is_heard.brings) in
      let count : length sent.all ≡ length g.end.datagrams = same_count g.sender.stream sent.all g.end.datagrams sent.at.reads in
      let packets : length (packets_of units) ≡ length sent.all = ap length (sym whole.whole) in
      record {
        before = split.first;
        after = split.rest;
        whole = split.whole;
        only = split.only;
        once = split.at_once;
        each = λ k l. split.has k (in_contains k (delivered come.before) (come.each k (omega (arith, l, count, packets))));
        room = omega (arith, come.few, count, packets);
      }
