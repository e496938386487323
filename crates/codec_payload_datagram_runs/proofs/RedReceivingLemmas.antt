-- A receiver of a stream in RED does with written datagrams and with pops what its buffer does with their packets and blocks.
use Rattle.std.proofs.Common.{◌≡◌, ◌∙◌, refl, sym, ap, subst, ℕ, ◌+◌, ◌-◌, ◌%◌, ◌^◌, ◌<◌, ◌≤◌, inl, inr, ◌&&◌, ◌||◌, List, [], ◌∷◌, ◌++◌, Bool, true, false, not, cond, eqb, max}
use Rattle.std.proofs.Common.{Option, Some, None, length, take, arith, ◌⊎◌}
use Rattle.std.specs.Prelude.{Contains, is_some, slice_get}
use Rattle.std.specs.Option.{option_map}
use Rattle.std.proofs.lemmas.Bool.{eq-eqb, ne_eqb}
use Rattle.std.proofs.lemmas.Option.{slice_get-map}
use Rattle.codec_payload_base.specs.declared.wire.RtpHeader.{RtpHeader}
use Rattle.codec_payload_base.specs.declared.wire.Ticks.{Ticks}
use Rattle.codec_payload_buffer.specs.Held.{Held}
use Rattle.codec_payload_buffer.specs.Steps.{State, arrived, pushed}
use Rattle.codec_payload_metadata.specs.declared.meta.RtpMeta.{RtpMeta}
use Rattle.codec_payload_codec.specs.Depacketizers.{is_built_in_depacketizer}
use Rattle.codec_payload_jitter.proofs.RestartLemmas.{again_without_former, answer_in_is, answer_to_is}
use Rattle.codec_payload_numbers.specs.NotedTimes.{AreTimesOf, first_or, is_untimely}
use Rattle.codec_payload_numbers.specs.Numbers.{Numbering, answer_for, greater, number_within, numbering_after, numbering_with}
use Rattle.codec_payload_jitter.specs.Receiving.{Arrival, GoesOn, Notes, NotesAs, Receives, ReceivesAs, Receiving, RecoversAs, RecoversIf}
use Rattle.codec_payload_jitter.specs.Receiving.{answer_in, answer_to, first_past, first_with, may_recover, meta_for, number_again_for, outcome_at}
use Rattle.codec_payload_numbers.specs.declared.noted_times.NotedTime.{NotedTime}
use Rattle.codec_payload_numbers.specs.declared.numbers.Extended.{Extended}
use Rattle.codec_payload_numbers.specs.declared.numbers.Extended.TheVariants as extended
use Rattle.codec_payload_jitter.specs.declared.outcome.Outcome.{Outcome}
use Rattle.codec_payload_red.proofs.RedRunLemmas.{fits_at, same_distances}
use Rattle.codec_payload_red.specs.RedLevels.{Entry, Sender, is_accepted, recorded}
use Rattle.codec_payload_red.specs.RedRun.{IsKeptIn, IsRecoverable, sender_after, sender_at}
use Rattle.codec_payload_sending_red.specs.Writers.{IsInRed, Writer}
use Rattle.codec_payload_buffer_runs.proofs.order.SafetyLemmas.{number_at}
use Rattle.codec_payload_buffer_runs.proofs.order.TurnLemmas.{Setting}
use Rattle.codec_payload_buffer_runs.proofs.units.BuiltInRuns.{push_keeps}
use Rattle.codec_payload_buffer_runs.specs.RedSchedule.{all_remembered, remembered}
use Rattle.codec_payload_buffer_runs.specs.SentStream.{packets_of}
use Rattle.codec_payload_payloader.specs.Packets.{AreNumbered, Packet}
use Rattle.codec_payload_rtp.specs.RtpPackets.{Header}
use Rattle.codec_payload_sending.specs.declared.sender.Outgoing.{Outgoing}
use Rattle.codec_payload_datagrams.specs.Choice.{is_silent, origin_of, verdict_of}
use Rattle.codec_payload_datagrams.specs.Kinds.{Carrier, Datagram, InRed, Kinds, datagram_at, header_for, is_other}
use Rattle.codec_payload_receiver.specs.RedOnce.{HasNoBlock}
use Rattle.codec_payload_numbers.specs.SeenTimes.{Seen, is_seen}
use Rattle.codec_payload_receiver.specs.Sessions.{Heard, Hears, Holding, ReceivesBy, ReceivesBytes, RecoversAll, RecoversUnless, RecoversUnseen, Session}
use Rattle.codec_payload_receiver.specs.Sessions.{is_none_of, is_open, is_own_media}
use Rattle.codec_payload_datagrams.specs.declared.kinds.RedStream.{RedStream}
use Rattle.codec_payload_datagram_runs.proofs.EventLemmas.{time_at, times_from}
use Rattle.codec_payload_datagram_runs.proofs.TimelyLemmas.{StayTimely, stamp, time_in, timely_later, timely_now, untimely_is}
use Rattle.codec_payload_datagram_runs.proofs.ReadingLemmas.{packet_at}
use Rattle.codec_payload_datagram_runs.proofs.ReceivingLemmas.{KeepsLimits, TakesIn, heard, keeps_then, takes_in, takes_in_again}
use Rattle.codec_payload_datagram_runs.proofs.RedCourses.{Feeds, feeds_append}
use Rattle.codec_payload_datagram_runs.proofs.RedNumberLemmas.{IsPast, block_number}
use Rattle.codec_payload_datagram_runs.proofs.RedReadingLemmas.{AreBlocks, IsBlock, IsRedFor, IsWritten, carrier_at, red_datagram_is}
use Rattle.codec_payload_datagram_runs.specs.RedReleases.{HasHeaderOf, IsRedDelivery, entries_in}
use Rattle.codec_payload_datagram_runs.specs.RedRuns.{DeliversWhole}
use Rattle.codec_payload_datagram_runs.specs.WireRuns.{Receipt}
use Rattle.codec_payload_datagram_runs.specs.declared.run.DatagramStep.{DatagramStep}
use Rattle.codec_payload_datagram_runs.specs.declared.run.DatagramStep.TheVariants as steps
use Rattle.codec_payload_sending_history.specs.declared.retransmission.RetransmissionStream.{RetransmissionStream}
use Rattle.codec_payload_jitter.specs.Receiving.{ReceivesAgain, ReceivesAgainAs}
use Rattle.codec_payload_jitter.specs.declared.outcome.Outcome.TheVariants as outcomes
use Rattle.codec_payload_datagram_runs.specs.RedHistoryReleases.{AreHeardInRed}

-- Receiving

-- a jitter buffer of the stream, with these windows and noted times
pub record IsSteady (stream : Outgoing) (forward backward : ℕ) (time_of : ℕ → ℕ) (r : Receiving) : Type 0 where
  pub rate : r.rate ≡ stream.clock_rate
  pub running : r.is_restarting ≡ false
  pub of_codec : is_built_in_depacketizer r.buffer.depacketizer ≡ true
  pub forward_is : r.numbering.forward ≡ forward
  pub backward_is : r.numbering.backward ≡ backward
  pub times : AreTimesOf time_of r.noted

-- a receiver of the stream
pub record IsTuned (stream : Outgoing) (kinds : Kinds) (forward backward : ℕ) (time_of : ℕ → ℕ) (s : Session) : Type 0 where
  pub kinds_are : s.stream ≡ kinds
  pub named : s.named ≡ Some stream.ssrc
  pub ssrc : s.ssrc ≡ Some stream.ssrc
  pub drops_none : s.gates.drops ≡ false
  pub steady : IsSteady stream forward backward time_of s.packets

-- if the second of two branches is taken, facts about both apply to the second
second : {X : Type 0} (P : X → Type 0) (b : Bool) (x y : X) → b ≡ false → P (cond b x y) → P y
second P b x y taken known = subst (λ (c : Bool). P (cond c x y)) taken known

-- a stream in RED: the units of the sender, as the buffer's part of the run knows them; what was sent, written and received; and how
-- sender, writer and receiver fit; and the stream of retransmissions, which the receiver reads
pub record RedSide : Type 1 where
  pub c : Setting
  pub stream : Outgoing
  pub writer : Writer
  pub datagrams : List (List ℕ)
  pub entries : entries_in datagrams ≡ all_remembered (packets_of c.units)
  pub kinds : Kinds
  pub received : List DatagramStep
  pub told : (k : ℕ) (q : Packet) (m : RtpMeta) → IsRedDelivery kinds.ids stream writer datagrams received k q m → c.known k q m
  pub forward : ℕ
  pub backward : ℕ
  pub apart : forward + backward + 8 ≤ 65536
  pub some : 0 < forward
  pub red : RedStream
  pub is_red : IsRedFor stream writer kinds red
  pub given : IsRecoverable writer.red red.receiver writer.budget (all_remembered (packets_of c.units))
  pub written : List (List ℕ)
  pub each : (k : ℕ) (bytes : List ℕ) → slice_get written k ≡ Some bytes → IsWritten stream (packets_of c.units) writer k bytes
  pub own_type : eqb (writer.red.primary_pt % 128) kinds.payload_type ≡ true
  pub again : Option RetransmissionStream
  pub heard : AreHeardInRed again kinds

-- the payload type of the packets stays
pub same_primary : (s : Sender) (es : List Entry) → (sender_after s es).primary_pt ≡ s.primary_pt
same_primary s [] = refl
same_primary s (e ∷ es) = same_primary (recorded s e.bytes e.time) es

module _ (l : RedSide) where
  abbrev stream : Outgoing
  stream = l.stream

  abbrev w : Writer
  w = l.writer

  abbrev packets : List Packet
  packets = packets_of l.c.units

  abbrev first : ℕ
  first = l.c.first

  abbrev numbered : AreNumbered l.c.first (packets_of l.c.units)
  numbered = l.c.numbered

  abbrev kinds : Kinds
  kinds = l.kinds

  abbrev received : List DatagramStep
  received = l.received

  abbrev forward : ℕ
  forward = l.forward

  abbrev backward : ℕ
  backward = l.backward

  abbrev Known : ℕ → Packet → RtpMeta → Type 0
  Known = l.c.known

  abbrev pub time_of : ℕ → ℕ
  time_of = times_from l.c.first (packets_of l.c.units)

  abbrev pub Steady : Receiving → Type 0
  Steady r = IsSteady stream forward backward time_of r

  -- the jitter buffer stores packets at this time
  pub record IsFed (now : Ticks) (r t : Receiving) : Type 0 where
    pub ps : List Held
    pub feeds : Feeds Known packets now ps r.buffer t.buffer
    pub steady : Steady t
    pub ended : t.ended ≡ r.ended

  fed_none : (now : Ticks) (r t : Receiving) → t ≡ r → Steady r → IsFed now r t
  fed_none now r t same steady = record { ps = []; feeds = ap (λ (x : Receiving). x.buffer) same; steady = subst Steady (sym same) steady; ended = ap (λ (x : Receiving). x.ended) same }

  pub fed_then : (now : Ticks) (r mid t : Receiving) → IsFed now r mid → IsFed now mid t → IsFed now r t
  fed_then now r mid t one two = record {
    ps = one.ps ++ two.ps;
    feeds = feeds_append Known packets now one.ps two.ps r.buffer mid.buffer t.buffer one.feeds two.feeds;
    steady = two.steady;
    ended = two.ended ∙ one.ended;
  }

  -- The packet of a datagram

  abbrev pub own_header : Packet → RtpHeader
  own_header q = header_for kinds (record (packet_at stream q).header { payload_type = w.red_type })

  -- a datagram delivers this packet
  abbrev pub IsDeliveryBy : (carrier k : ℕ) → Packet → RtpMeta → Type 0
  IsDeliveryBy carrier k q meta = (is : IsRedDelivery kinds.ids stream w l.datagrams received k q meta) × (is.carrier ≡ carrier)

  pub own_delivery : (k : ℕ) (now : Ticks) (q : Packet) → Contains received (steps.Deliver k now) → IsDeliveryBy k k q (meta_for now stream.clock_rate (own_header q) q.number)
  own_delivery k now q inside = (
    record {
      carrier = k;
      delivers = inside;
      carries = inl refl;
      number = refl;
      time = refl;
      header = subst (λ (b : Bool). HasHeaderOf b kinds.ids stream q (meta_for now stream.clock_rate (own_header q) q.number)) (sym (eq-eqb k k refl)) (refl, refl);
    },
    refl,
  )

  pub own_known : (k : ℕ) (now : Ticks) (q : Packet) → Contains received (steps.Deliver k now) → Known k q (meta_for now stream.clock_rate (own_header q) q.number)
  own_known k now q inside = l.told k q (meta_for now stream.clock_rate (own_header q) q.number) (own_delivery k now q inside).0

  -- a number that is noted as one without media
  pub noted_fed : (now : Ticks) (low n : ℕ) (r t : Receiving) → Steady r → answer_for r.numbering low ≡ extended.Number n → Notes low r t
      → IsFed now r t × (t.numbering ≡ numbering_after r.numbering low) × (t.first ≡ r.first)
  noted_fed now low n r t steady is notes =
      let answer : answer_in r low ≡ extended.Number n = answer_in_is r low n steady.running is in
      let mid : Receiving = notes.0 in
      let noted : NotesAs (extended.Number n) r mid = subst (λ (e : Extended). NotesAs e r mid) answer notes.1 in
      let numbering : t.numbering ≡ numbering_with r.numbering (extended.Number n) low = ap (λ (x : Receiving). x.numbering) notes.2 ∙ ap (λ (e : Extended). numbering_with r.numbering e low) answer in (
        record {
          ps = [];
          feeds = ap (λ (x : Receiving). x.buffer) notes.2 ∙ ap (λ (x : Receiving). x.buffer) noted;
          steady = record {
            rate = ap (λ (x : Receiving). x.rate) notes.2 ∙ (ap (λ (x : Receiving). x.rate) noted ∙ steady.rate);
            running = ap (λ (x : Receiving). x.is_restarting) notes.2;
            of_codec = ap (λ (x : Receiving). is_built_in_depacketizer x.buffer.depacketizer) notes.2 ∙ (ap (λ (x : Receiving). is_built_in_depacketizer x.buffer.depacketizer) noted ∙ steady.of_codec);
            forward_is = ap (λ (x : Numbering). x.forward) numbering ∙ steady.forward_is;
            backward_is = ap (λ (x : Numbering). x.backward) numbering ∙ steady.backward_is;
            times = subst (AreTimesOf time_of) (sym (ap (λ (x : Receiving). x.noted) notes.2 ∙ ap (λ (x : Receiving). x.noted) noted)) steady.times;
          };
          ended = ap (λ (x : Receiving). x.ended) notes.2 ∙ ap (λ (x : Receiving). x.ended) noted;
        },
        numbering ∙ ap (λ (e : Extended). numbering_with r.numbering e low) (sym is),
        ap (λ (x : Receiving). x.first) notes.2 ∙ (ap (first_past mid.first) answer ∙ ap (λ (x : Receiving). x.first) noted),
      )

  abbrev pub own_arrival : Ticks → Packet → Arrival
  own_arrival now q = record { now = now; header = own_header q; bytes = q.payload }

  -- the packet of a datagram is stored
  pub record StoresOwn (now : Ticks) (q : Packet) (r t : Receiving) (outcome : Outcome) : Type 0 where
    pub fed : IsFed now r t
    pub numbering : t.numbering ≡ numbering_after r.numbering (q.number % 2 ^ 16)
    pub buffer : t.buffer ≡ pushed r.buffer (arrived r.buffer.depacketizer (meta_for now stream.clock_rate (own_header q) q.number) q.payload)
    pub no_media : t.no_media_numbers ≡ r.no_media_numbers
    pub first : t.first ≡ first_or r.first (record { number = q.number; time = q.rtp_time })
    pub limits : KeepsLimits r t
    pub outcome_is : outcome ≡ outcome_at r.buffer q.number

  stored_own : (k : ℕ) (now : Ticks) (q : Packet) (r t : Receiving) (outcome : Outcome) → slice_get packets k ≡ Some q → Contains received (steps.Deliver k now) → Steady r
      → answer_for r.numbering (q.number % 2 ^ 16) ≡ extended.Number q.number → TakesIn time_of (answer_for r.numbering (q.number % 2 ^ 16)) q.number (own_arrival now q) r t
      → outcome ≡ outcome_at r.buffer q.number → StoresOwn now q r t outcome
  stored_own k now q r t outcome there inside steady is one outcome_is =
      let meta : RtpMeta = meta_for now stream.clock_rate (own_header q) q.number in
      let p : Held = arrived r.buffer.depacketizer meta q.payload in
      let buffer : t.buffer ≡ pushed r.buffer p =
      one.buffer ∙ ap (λ (n : ℕ). pushed r.buffer (arrived r.buffer.depacketizer (meta_for now n (own_header q) q.number) q.payload)) steady.rate in
      let numbering : t.numbering ≡ numbering_with r.numbering (extended.Number q.number) (q.number % 2 ^ 16) =
      one.numbering ∙ ap (λ (e : Extended). numbering_with r.numbering e (q.number % 2 ^ 16)) is in
      record {
        fed = record {
          ps = p ∷ [];
          feeds = (k, q, meta, there, own_known k now q inside, refl, refl, buffer);
          steady = record {
            rate = one.rate ∙ steady.rate;
            running = one.running;
            of_codec = ap (λ (x : State). is_built_in_depacketizer x.depacketizer) buffer ∙ (ap is_built_in_depacketizer (push_keeps r.buffer p) ∙ steady.of_codec);
            forward_is = ap (λ (x : Numbering). x.forward) numbering ∙ steady.forward_is;
            backward_is = ap (λ (x : Numbering). x.backward) numbering ∙ steady.backward_is;
            times = one.times;
          };
          ended = one.ended;
        };
        numbering = one.numbering;
        buffer = buffer;
        no_media = one.no_media_numbers;
        first = one.first ∙ ap (λ (e : Extended). first_with r.first e q.rtp_time) is;
        limits = one.limits;
        outcome_is = outcome_is;
      }

  -- the time of its number
  own_time : (k : ℕ) (q : Packet) → slice_get packets k ≡ Some q → q.rtp_time ≡ time_of q.number
  own_time k q there =
      let number : q.number ≡ first + k = number_at packets first k q numbered there in
      let place : k ≡ q.number - first = omega (arith, number) in
      time_at packets k q there ∙ ap (time_in packets) place

  -- the packet of a datagram is stored, as it comes or as a retransmission; if it repeats a block, it counts as one without media
  abbrev pub TakesOwn : (repeats : Bool) → Ticks → Packet → Receiving → Outcome → Receiving → Type 0
  TakesOwn true now q r outcome t = (outcome ≡ outcomes.NoMedia) × Notes (q.number % 2 ^ 16) r t
  TakesOwn false now q r outcome t = Receives (own_arrival now q) r outcome t ⊎ ReceivesAgain (own_arrival now q) r outcome t

  pub stores_own : (k : ℕ) (now : Ticks) (q : Packet) (r t : Receiving) (outcome : Outcome) → slice_get packets k ≡ Some q → Contains received (steps.Deliver k now) → Steady r
      → answer_for r.numbering (q.number % 2 ^ 16) ≡ extended.Number q.number → is_untimely r.rate r.first (record { number = q.number; time = q.rtp_time }) ≡ false
      → TakesOwn false now q r outcome t → StoresOwn now q r t outcome
  stores_own k now q r t outcome there inside steady is timely (inl receives) =
      let time = own_time k q there in
      let a : Arrival = own_arrival now q in
      let one = takes_in time_of q.number a r t outcome steady.running steady.of_codec is steady.times time timely receives in
      let answer : answer_to r a.header ≡ extended.Number q.number = answer_to_is time_of r a.header q.number steady.running steady.times is time timely in
      let went : GoesOn q.number a r outcome receives.0 = subst (λ (e : Extended). ReceivesAs e a r outcome receives.0) answer receives.1 in
      stored_own k now q r t outcome there inside steady is one went.1.2
  stores_own k now q r t outcome there inside steady is timely (inr again) =
      let a : Arrival = own_arrival now q in
      let one = takes_in_again time_of q.number a r t outcome steady.running steady.of_codec is steady.times (own_time k q there) again in
      let low : ℕ = a.header.sequence_number in
      let number : number_again_for r low a.header.timestamp ≡ Some q.number =
      again_without_former r low a.header.timestamp steady.times.1 ∙ (ap (λ (b : Bool). cond b None (number_within (answer_for r.numbering low))) steady.running ∙ ap number_within is) in
      let here : ReceivesAgainAs (Some q.number) a r outcome t = subst (λ (o : Option ℕ). ReceivesAgainAs o a r outcome t) number again in
      stored_own k now q r t outcome there inside steady is one here.1.1.2

  -- the primary block on arrival
  pub primary_is : (type : ℕ) (now : Ticks) (q : Packet) (c : Carrier) → c.header ≡ record (packet_at stream q).header { payload_type = type } → c.primary.payload ≡ q.payload
      → (record { now = now; header = header_for kinds c.header; bytes = c.primary.payload }) ≡ own_arrival now q
  primary_is type now q c header bytes =
      ap (λ (h : Header). record { now = now; header = header_for kinds h; bytes = c.primary.payload }) header
      ∙ ap (λ (b : List ℕ). record { now = now; header = own_header q; bytes = b }) bytes

  -- the first packet after a datagram: its packet counts, if it was pushed
  abbrev pub FirstAfter : Bool → NotedTime → Option NotedTime → Option NotedTime → Type 0
  FirstAfter true x o p = p ≡ first_or o x
  FirstAfter false x o p = p ≡ o

  pub primary_fed : (repeats : Bool) (k : ℕ) (now : Ticks) (q : Packet) (r t : Receiving) (outcome : Outcome) → slice_get packets k ≡ Some q → Contains received (steps.Deliver k now) → Steady r
      → answer_for r.numbering (q.number % 2 ^ 16) ≡ extended.Number q.number → is_untimely r.rate r.first (record { number = q.number; time = q.rtp_time }) ≡ false
      → TakesOwn repeats now q r outcome t
      → IsFed now r t × (t.numbering ≡ numbering_after r.numbering (q.number % 2 ^ 16)) × FirstAfter (not repeats) (record { number = q.number; time = q.rtp_time }) r.first t.first
  primary_fed false k now q r t outcome there inside steady is timely takes =
      let one = stores_own k now q r t outcome there inside steady is timely takes in
      (one.fed, one.numbering, one.first)
  primary_fed true k now q r t outcome there inside steady is timely takes = noted_fed now (q.number % 2 ^ 16) q.number r t steady is takes.1

  -- Blocks

  pub block_delivery : (k : ℕ) (now : Ticks) (a : Arrival) (n : ℕ) → Contains received (steps.Deliver k now) → (is : IsBlock packets w first k now a) → n ≡ first + is.index
      → IsDeliveryBy k is.index is.packet (meta_for a.now stream.clock_rate a.header n)
  block_delivery k now a n inside is number = (
    record {
      carrier = k;
      delivers = subst (λ (at : Ticks). Contains received (steps.Deliver k at)) (sym is.at) inside;
      carries = inr (subst (λ (es : List Entry). IsKeptIn w.red w.budget es is.index k) (sym l.entries) is.kept);
      number = number ∙ sym (number_at packets first is.index is.packet numbered is.there);
      time = ap (λ (m : ℕ). record { numer = m; rate = stream.clock_rate }) is.time;
      header = subst (λ (b : Bool). HasHeaderOf b kinds.ids stream is.packet (meta_for a.now stream.clock_rate a.header n)) (sym other) (is.marker, is.values);
    },
    refl,
  )
    where
      other : eqb is.index k ≡ false
      other = ne_eqb is.index k (λ same. omega (arith, same, is.below))

  pub block_known : (k : ℕ) (now : Ticks) (a : Arrival) (n : ℕ) → Contains received (steps.Deliver k now) → (is : IsBlock packets w first k now a) → n ≡ first + is.index
      → Known is.index is.packet (meta_for a.now stream.clock_rate a.header n)
  block_known k now a n inside is number = l.told is.index is.packet (meta_for a.now stream.clock_rate a.header n) (block_delivery k now a n inside is number).0

  -- blocks of the packet k are stored after it: the numbering is past it, and stays
  pub record StoresBlocks (now : Ticks) (r t : Receiving) : Type 0 where
    pub fed : IsFed now r t
    pub numbering : t.numbering ≡ r.numbering
    pub no_media : t.no_media_numbers ≡ r.no_media_numbers
    pub first : t.first ≡ r.first
    pub limits : KeepsLimits r t

  pub stores_none : (now : Ticks) (r t : Receiving) → t ≡ r → Steady r → StoresBlocks now r t
  stores_none now r t same steady = record {
    fed = fed_none now r t same steady;
    numbering = ap (λ (x : Receiving). x.numbering) same;
    no_media = ap (λ (x : Receiving). x.no_media_numbers) same;
    first = ap (λ (x : Receiving). x.first) same;
    limits = record { wait_limits = ap (λ (x : Receiving). x.wait_limits) same; room = ap (λ (x : Receiving). x.room) same };
  }

  -- a stored block
  pub record PushesBlock (a : Arrival) (n : ℕ) (q : Packet) (r t : Receiving) : Type 0 where
    pub held : Held
    pub held_is : held ≡ arrived r.buffer.depacketizer (meta_for a.now stream.clock_rate a.header n) q.payload
    pub buffer : t.buffer ≡ pushed r.buffer held

  pub pushes_block : (went_in : Bool) (k n : ℕ) (now : Ticks) (a : Arrival) (r t : Receiving) → (is : IsBlock packets w first k now a) → Steady r → RecoversIf true n a r went_in t
      → PushesBlock a n is.packet r t
  pushes_block went_in k n now a r t is steady recovers =
      let accepts = recovers.2 in
      let p : Held = accepts.1.0 in
      let meta : RtpMeta = meta_for a.now stream.clock_rate a.header n in
      let exact : p ≡ arrived r.buffer.depacketizer (meta_for a.now r.rate a.header n) a.bytes = accepts.1.1.2 steady.of_codec in
      record {
        held = p;
        held_is = exact ∙ (ap (λ (m : ℕ). arrived r.buffer.depacketizer (meta_for a.now m a.header n) a.bytes) steady.rate ∙ ap (arrived r.buffer.depacketizer meta) is.bytes);
        buffer = ap (λ (x : Receiving). x.buffer) recovers.4 ∙ (ap (λ (x : Receiving). x.buffer) accepts.3 ∙ accepts.1.2);
      }

  pub recovered_if : (b went_in : Bool) (k n : ℕ) (now : Ticks) (a : Arrival) (r t : Receiving) → Contains received (steps.Deliver k now) → (is : IsBlock packets w first k now a)
      → IsPast (first + k) backward r.numbering → Steady r → n ≡ first + is.index → RecoversIf b n a r went_in t → StoresBlocks now r t
  recovered_if false went_in k n now a r t inside is past steady number recovers = stores_none now r t recovers.1 steady
  recovered_if true went_in k n now a r t inside is past steady number recovers =
      let accepts = recovers.2 in
      let pushes = pushes_block went_in k n now a r t is steady recovers in
      let meta : RtpMeta = meta_for a.now stream.clock_rate a.header n in
      let most : max past.greatest n ≡ past.greatest = let below = is.below in let over = past.over in omega (arith, number, below, over) in
      let numbering : t.numbering ≡ r.numbering =
      ap (λ (x : Receiving). x.numbering) recovers.4
      ∙ (ap (λ (o : Option ℕ). record r.numbering { greatest = Some (greater o n) }) past.is ∙ (ap (λ (m : ℕ). record r.numbering { greatest = Some m }) most
      ∙ ap (λ (o : Option ℕ). record r.numbering { greatest = o }) (sym past.is))) in
      record {
        fed = record {
          ps = pushes.held ∷ [];
          feeds = (is.index, is.packet, meta, is.there, block_known k now a n inside is number, is.at, pushes.held_is, pushes.buffer);
          steady = record {
            rate = ap (λ (x : Receiving). x.rate) recovers.4 ∙ (ap (λ (x : Receiving). x.rate) accepts.3 ∙ steady.rate);
            running = ap (λ (x : Receiving). x.is_restarting) recovers.4;
            of_codec = ap (λ (x : State). is_built_in_depacketizer x.depacketizer) pushes.buffer ∙ (ap is_built_in_depacketizer (push_keeps r.buffer pushes.held) ∙ steady.of_codec);
            forward_is = ap (λ (x : Numbering). x.forward) numbering ∙ steady.forward_is;
            backward_is = ap (λ (x : Numbering). x.backward) numbering ∙ steady.backward_is;
            times = subst (AreTimesOf time_of) (sym (ap (λ (x : Receiving). x.noted) recovers.4 ∙ ap (λ (x : Receiving). x.noted) accepts.3)) steady.times;
          };
          ended = ap (λ (x : Receiving). x.ended) recovers.4 ∙ ap (λ (x : Receiving). x.ended) accepts.3;
        };
        numbering = numbering;
        no_media = ap (λ (x : Receiving). x.no_media_numbers) recovers.4 ∙ ap (λ (x : Receiving). x.no_media_numbers) accepts.3;
        first = ap (λ (x : Receiving). x.first) recovers.4 ∙ ap (λ (x : Receiving). x.first) accepts.3;
        limits = record {
          wait_limits = ap (λ (x : Receiving). x.wait_limits) recovers.4 ∙ ap (λ (x : Receiving). x.wait_limits) accepts.3;
          room = ap (λ (x : Receiving). x.room) recovers.4 ∙ ap (λ (x : Receiving). x.room) accepts.3;
        };
      }

  recovered_as : (o : Option ℕ) (went_in : Bool) (k : ℕ) (now : Ticks) (a : Arrival) (r t : Receiving) → number_again_for r a.header.sequence_number a.header.timestamp ≡ o
      → Contains received (steps.Deliver k now) → IsBlock packets w first k now a → IsPast (first + k) backward r.numbering → Steady r → RecoversAs o a r went_in t → StoresBlocks now r t
  recovered_as None went_in k now a r t at inside is past steady recovers = stores_none now r t recovers.1 steady
  recovered_as (Some n) went_in k now a r t at inside is past steady recovers =
      let within : number_within (answer_for r.numbering a.header.sequence_number) ≡ Some n =
      ap (λ (b : Bool). cond b None (number_within (answer_for r.numbering a.header.sequence_number))) (sym steady.running)
      ∙ (sym (again_without_former r a.header.sequence_number a.header.timestamp steady.times.1) ∙ at) in
      let low : number_within (answer_for r.numbering ((first + is.index) % 65536)) ≡ Some n = ap (λ (m : ℕ). number_within (answer_for r.numbering m)) (sym is.low) ∙ within in
      let forward_is = steady.forward_is in
      let backward_is = steady.backward_is in
      let below = is.below in
      let near = is.near in
      let over = past.over in
      let past_near = past.near in
      let number : n ≡ first + is.index = block_number r.numbering past.greatest (first + is.index) n past.is (omega (arith, below, over)) (omega (arith, near, past_near, backward_is))
      (omega (arith, forward_is, backward_is, l.apart)) (omega (arith, forward_is, l.some)) low in
      recovered_if (may_recover r n) went_in k n now a r t inside is past steady number recovers

  pub one_recovered : (seen : Bool) (k : ℕ) (now : Ticks) (a : Arrival) (x y : Holding) → Contains received (steps.Deliver k now) → IsBlock packets w first k now a
      → IsPast (first + k) backward x.packets.numbering → Steady x.packets → RecoversUnseen seen a x y → StoresBlocks now x.packets y.packets
  one_recovered true k now a x y inside is past steady same = stores_none now x.packets y.packets (ap (λ (z : Holding). z.packets) same) steady
  one_recovered false k now a x y inside is past steady done =
      recovered_as (number_again_for x.packets a.header.sequence_number a.header.timestamp) done.0 k now a x.packets y.packets refl inside is past steady done.1

  pub past_same : (n : ℕ) (s t : Numbering) → t ≡ s → IsPast n backward s → IsPast n backward t
  past_same n s t same past = subst (IsPast n backward) (sym same) past

  pub stores_then : (now : Ticks) (r mid t : Receiving) → StoresBlocks now r mid → StoresBlocks now mid t → StoresBlocks now r t
  stores_then now r mid t one two = record { fed = fed_then now r mid t one.fed two.fed; numbering = two.numbering ∙ one.numbering; no_media = two.no_media ∙ one.no_media; first = two.first ∙ one.first; limits = keeps_then r mid t one.limits two.limits }

  pub all_recovered : (all : List Arrival) (whole : Bool) (k : ℕ) (now : Ticks) (x y : Holding) → Contains received (steps.Deliver k now) → AreBlocks packets w first k now all
      → IsPast (first + k) backward x.packets.numbering → Steady x.packets → RecoversAll whole all x y → StoresBlocks now x.packets y.packets
  all_recovered [] true k now x y inside are past steady same = stores_none now x.packets y.packets (ap (λ (z : Holding). z.packets) same) steady
  all_recovered [] false k now x y inside are past steady never = absurd never
  all_recovered (a ∷ more) true k now x y inside are past steady done =
      let one = one_recovered (is_seen a.header.timestamp x.seen.places) k now a x done.0 inside are.0 past steady done.1 in
      let rest = all_recovered more true k now done.0 y inside are.1 (past_same (first + k) x.packets.numbering done.0.packets.numbering one.numbering past) one.fed.steady done.2 in
      stores_then now x.packets done.0.packets y.packets one rest
  all_recovered (a ∷ more) false k now x y inside are past steady (inl same) = stores_none now x.packets y.packets (ap (λ (z : Holding). z.packets) same) steady
  all_recovered (a ∷ more) false k now x y inside are past steady (inr done) =
      let one = one_recovered (is_seen a.header.timestamp x.seen.places) k now a x done.0 inside are.0 past steady done.1 in
      let rest = all_recovered more false k now done.0 y inside are.1 (past_same (first + k) x.packets.numbering done.0.packets.numbering one.numbering past) one.fed.steady done.2 in
      stores_then now x.packets done.0.packets y.packets one rest

  pub recovered_unless : (b whole : Bool) (all : List Arrival) (k : ℕ) (now : Ticks) (x y : Holding) → Contains received (steps.Deliver k now) → AreBlocks packets w first k now all
      → IsPast (first + k) backward x.packets.numbering → Steady x.packets → RecoversUnless b whole all x y → StoresBlocks now x.packets y.packets
  recovered_unless true whole all k now x y inside are past steady done = stores_none now x.packets y.packets (ap (λ (z : Holding). z.packets) done.1) steady
  recovered_unless false whole all k now x y inside are past steady done = all_recovered all whole k now x y inside are past steady done

  -- Sessions

  abbrev pub Tuned : Session → Type 0
  Tuned s = IsTuned stream kinds forward backward time_of s

  -- the writer before a packet, and what the receiver finds in its datagram
  abbrev pub writer_at : ℕ → Writer
  writer_at k = record w { red = sender_at w.red (all_remembered packets) k }

  pub own_primary : (k : ℕ) (q : Packet) → is_own_media kinds (carrier_at l.red.receiver stream (writer_at k) q) ≡ true
  own_primary k q = ap (λ (n : ℕ). eqb (n % 128) kinds.payload_type) (same_primary w.red (take k (all_remembered packets))) ∙ l.own_type

  -- The packets of the datagrams with these indices are timely. If no packet was first so far, none can repeat a block
  abbrev pub Timely : Session → List ℕ → Type 0
  Timely s ks = (HasNoBlock s.seen ⊎ (is_some s.packets.first ≡ true)) × StayTimely stream.clock_rate first packets s.packets.first ks

  pub timely_same : (ks : List ℕ) (s t : Session) → t.seen ≡ s.seen → t.packets.first ≡ s.packets.first → Timely s ks → Timely t ks
  timely_same ks s t seen_is first_is timely =
      subst (λ (z : Seen). (HasNoBlock z ⊎ (is_some t.packets.first ≡ true)) × StayTimely stream.clock_rate first packets t.packets.first ks) (sym seen_is)
      (subst (λ (o : Option NotedTime). (HasNoBlock s.seen ⊎ (is_some o ≡ true)) × StayTimely stream.clock_rate first packets o ks) (sym first_is) timely)

  -- the premise of a packet
  pub timely_at : (k : ℕ) (ks : List ℕ) (q : Packet) (s : Session) → Tuned s → slice_get packets k ≡ Some q → q.number ≡ first + k → Timely s (k ∷ ks)
      → is_untimely s.packets.rate s.packets.first (record { number = q.number; time = q.rtp_time }) ≡ false
  timely_at k ks q s tuned there number timely =
      untimely_is stream.clock_rate s.packets.rate first packets s.packets.first q.number q.rtp_time k tuned.steady.rate number (time_at packets k q there)
      (timely_now stream.clock_rate first packets s.packets.first k ks timely.1)

  has_first : (o : Option NotedTime) (x : NotedTime) → is_some (first_or o x) ≡ true
  has_first None x = refl
  has_first (Some y) x = refl

  -- after a datagram
  pub timely_after : (b : Bool) (k : ℕ) (ks : List ℕ) (o p : Option NotedTime) → (b ≡ true) ⊎ (is_some o ≡ true) → StayTimely stream.clock_rate first packets o (k ∷ ks)
      → FirstAfter b (stamp first packets k) o p → (is_some p ≡ true) × StayTimely stream.clock_rate first packets p ks
  timely_after true k ks o p some stay is = (
    ap is_some is ∙ has_first o (stamp first packets k),
    subst (λ (x : Option NotedTime). StayTimely stream.clock_rate first packets x ks) (sym is) (timely_later stream.clock_rate first packets o k ks stay),
  )
  timely_after false k ks o p (inl none) stay is = cc
  timely_after false k ks None p (inr some) stay is = cc
  timely_after false k ks (Some x) p (inr some) stay is =
      (ap is_some is, subst (λ (y : Option NotedTime). StayTimely stream.clock_rate first packets y ks) (sym is) stay.1)

  pub heard_at_once : (now : Ticks) (bytes : List ℕ) (s t : Session) (receipt : Receipt) → Tuned s → DeliversWhole now bytes s receipt t → Heard now (datagram_at s.stream s.ssrc bytes) s receipt t
  heard_at_once now bytes s t receipt tuned delivers = by_case delivers.1.1
    where
      settled_already : is_open s now.0 ≡ false
      settled_already = ap (λ (named : Option ℕ). is_none_of named && not s.packets.ended && (is_none_of s.ssrc || is_silent s.choice now.0)) tuned.named

      by_case : ReceivesBytes now bytes s receipt t → Heard now (datagram_at s.stream s.ssrc bytes) s receipt t
      by_case (inl by) = second (λ v. ReceivesBy v now bytes s receipt t) (is_open s now.0) (verdict_of s.choice.candidates s.ssrc (origin_of (datagram_at s.stream None bytes))) _ settled_already by
      by_case (inr got) = absurd (delivers.1.0 got.0)

  pub hears_red : (k : ℕ) (now : Ticks) (bytes : List ℕ) (q : Packet) (after : Writer) (s t : Session) (receipt : Receipt) → Tuned s → slice_get packets k ≡ Some q
      → IsInRed (writer_at k) (packet_at stream q) bytes after → DeliversWhole now bytes s receipt t → Hears now (InRed (carrier_at l.red.receiver stream (writer_at k) q)) s receipt t
  hears_red k now bytes q after s t receipt tuned there in_red delivers =
      let sent : List Entry = all_remembered packets in
      let here : slice_get sent k ≡ Some (remembered q) = slice_get-map remembered packets k ∙ ap (λ o. option_map remembered o) there in
      let room : length q.payload < w.budget = fits_at w.budget sent k (remembered q) l.given.each_fits here in
      let accepted : is_accepted (sender_at w.red sent k).distances ≡ true = ap is_accepted (same_distances w.red (take k sent)) ∙ l.given.accepted in
      let own : is_other s.ssrc stream.ssrc ≡ false = ap (λ (o : Option ℕ). is_other o stream.ssrc) tuned.ssrc ∙ ap not (eq-eqb stream.ssrc stream.ssrc refl) in
      let is : datagram_at s.stream s.ssrc bytes ≡ InRed (carrier_at l.red.receiver stream (writer_at k) q) =
      ap (λ (x : Kinds). datagram_at x s.ssrc bytes) tuned.kinds_are ∙ red_datagram_is kinds s.ssrc stream l.red (writer_at k) q bytes after (record {
        used = l.is_red.used;
        red_type = l.is_red.red_type;
        other_type = l.is_red.other_type;
        not_rtcp = l.is_red.not_rtcp;
        not_again = l.is_red.not_again;
      }) accepted room own in_red in
      subst (λ (d : Datagram). Hears now d s receipt t) is (heard now (datagram_at s.stream s.ssrc bytes) s t receipt delivers.1.0 (heard_at_once now bytes s t receipt tuned delivers))
