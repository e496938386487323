-- The steps of a receiver, as events of its buffer.
use Rattle.std.proofs.Common.{◌≡◌, ◌∙◌, refl, sym, ap, subst, ℕ, zero, suc, ◌+◌, ◌-◌, ◌%◌, ◌^◌, ◌<◌, ◌⊎◌, inl, inr, List, [], ◌∷◌, ◌++◌, Bool, true, Option, Some, None, map, arith}
use Rattle.std.specs.Prelude.{slice_get}
use Rattle.std.proofs.lemmas.Option.{same_Some}
use Rattle.codec_payload_buffer.proofs.MemberLemmas.{IsIn}
use Rattle.codec_payload_buffer.specs.Held.{Held}
use Rattle.codec_payload_buffer.specs.Steps.{State, arrived, pushed}
use Rattle.codec_payload_buffer.specs.declared.buffer.frames.CompleteFrame.{CompleteFrame}
use Rattle.codec_payload_metadata.specs.declared.meta.RtpMeta.{RtpMeta}
use Rattle.codec_payload_sending_history.specs.declared.retransmission.RetransmissionStream.{RetransmissionStream}
use Rattle.codec_payload_buffer_runs.specs.Arrivals.{AllAreMade, Arrives, Asked, Event, HasArrival, Meets, OnlyArrive, PopsWaiting, Tells}
use Rattle.codec_payload_buffer_runs.specs.Log.{Stretch, Turn, begun, with_pushes}
use Rattle.codec_payload_rtp.specs.declared.values.ExtensionIds.{ExtensionIds}
use Rattle.codec_payload_payloader.specs.Packets.{Packet, AreNumbered}
use Rattle.codec_payload_buffer_runs.specs.Schedule.{Answer}
use Rattle.codec_payload_numbers.specs.NotedTimes.{AreTimesOf}
use Rattle.codec_payload_jitter.specs.Receiving.{Receiving}
use Rattle.codec_payload_numbers.specs.Numbers.{Numbering, answer_for, numbering_after}
use Rattle.codec_payload_numbers.specs.declared.numbers.Extended.TheVariants as extended
use Rattle.codec_payload_sending.specs.declared.sender.Outgoing.{Outgoing}
use Rattle.codec_payload_datagrams.specs.Kinds.{Kinds}
use Rattle.codec_payload_receiver.specs.Sessions.{Session, ended}
use Rattle.codec_payload_datagram_runs.proofs.ReceivingLemmas.{AllNumbered, IsListening, KeepsLimits, finishes_as, keeps_then, pops_as, pushes_copy, wait_same}
use Rattle.codec_payload_datagram_runs.proofs.TimelyLemmas.{StayTimely, time_in, timely_next, timely_now, untimely_is}
use Rattle.codec_payload_numbers.specs.declared.noted_times.NotedTime.{NotedTime}
use Rattle.codec_payload_datagram_runs.proofs.StepLemmas.{Takes}
use Rattle.codec_payload_datagram_runs.specs.Releases.{AreDatagrams, HasValuesOf, HaveNoPops, ReadsAs, delivered}
use Rattle.codec_payload_datagram_runs.specs.WireLogs.{AnswersTurn, IsLogOf, wait_of}
use Rattle.codec_payload_datagram_runs.specs.declared.run.DatagramStep.{DatagramStep}
use Rattle.codec_payload_datagram_runs.specs.declared.run.DatagramStep.TheVariants as steps

-- these steps are these events; after the end of the stream each pop is made
abbrev pub Brings : Bool → List DatagramStep → List Event → Type 0
Brings at_end [] events = events ≡ []
Brings at_end (steps.Send i ∷ later) events = Brings at_end later events
Brings at_end (steps.Deliver k now ∷ later) events = (meta : RtpMeta) × (rest : List Event) × (events ≡ Arrives k meta ∷ rest) × (meta.received ≡ now) × Brings at_end later rest
Brings at_end (steps.Pop now ∷ later) events = (wait : Option ℕ) × (rest : List Event) × (events ≡ Asked wait ∷ rest) × (at_end ≡ true → wait ≡ Some 0) × Brings at_end later rest
Brings at_end (steps.Finish ∷ later) events = Brings true later events

-- the packet of a datagram
pub packet_at_index : (stream : Outgoing) (first : ℕ) (packets : List Packet) (datagrams : List (List ℕ)) (k : ℕ) (bytes : List ℕ) → AreDatagrams stream packets datagrams
    → AreNumbered first packets → slice_get datagrams k ≡ Some bytes
    → (q : Packet) × (slice_get packets k ≡ Some q) × ReadsAs stream q bytes × (q.number ≡ first + k)
packet_at_index stream first [] [] k bytes are numbered there = absurd (cc)
packet_at_index stream first [] (d ∷ ds) k bytes are numbered there = absurd are
packet_at_index stream first (q ∷ qs) [] k bytes are numbered there = absurd are
packet_at_index stream first (q ∷ qs) (d ∷ ds) zero bytes are numbered there = (q, refl, subst (ReadsAs stream q) (same_Some d bytes there) are.0, omega (arith, numbered.0))
packet_at_index stream first (q ∷ qs) (d ∷ ds) (suc k) bytes are numbered there =
    let rest = packet_at_index stream (first + 1) qs ds k bytes are.1 numbered.1 there in
    (rest.0, rest.1, rest.2, omega (arith, rest.3))

-- the RTP times of the packets, by their numbers from `first` on
abbrev pub times_from : ℕ → List Packet → ℕ → ℕ
times_from first packets n = time_in packets (n - first)

pub time_at : (packets : List Packet) (k : ℕ) (q : Packet) → slice_get packets k ≡ Some q → q.rtp_time ≡ time_in packets k
time_at [] k q there = absurd (cc)
time_at (p ∷ packets) zero q there = ap (λ (x : Packet). x.rtp_time) (sym (same_Some p q there))
time_at (p ∷ packets) (suc k) q there = time_at packets k q there

-- a sender gave the packets with these indices these times
abbrev pub AllTimed : (ℕ → ℕ) → ℕ → List Packet → List ℕ → Type 0
AllTimed time_of first packets [] = Unit {0}
AllTimed time_of first packets (k ∷ ks) = (time_in packets k ≡ time_of (first + k)) × AllTimed time_of first packets ks

all_timed : (first : ℕ) (packets : List Packet) (ks : List ℕ) → AllTimed (times_from first packets) first packets ks
all_timed first packets [] = tt
all_timed first packets (k ∷ ks) = let place : k ≡ first + k - first = omega arith in (ap (time_in packets) place, all_timed first packets ks)

-- the numbering after the packets with these indices
abbrev pub numbering_through : ℕ → Numbering → List ℕ → Numbering
numbering_through first n [] = n
numbering_through first n (k ∷ ks) = numbering_through first (numbering_after n ((first + k) % 2 ^ 16)) ks

-- each push has the values of its packet
abbrev pub AllHaveValues : ExtensionIds → Outgoing → List Packet → List Event → Type 0
AllHaveValues ids stream packets events = (k : ℕ) (meta : RtpMeta) → IsIn (Arrives k meta) events → HasValuesOf ids stream packets k meta

pub values_with : (ids : ExtensionIds) (stream : Outgoing) (packets : List Packet) (events : List Event) (k : ℕ) (meta : RtpMeta) → HasValuesOf ids stream packets k meta
    → AllHaveValues ids stream packets events → AllHaveValues ids stream packets (Arrives k meta ∷ events)
values_with ids stream packets events k meta one rest j m is = elim is [
  | inl here ↦
      let index : j ≡ k = cc in
      let same : m ≡ meta = cc in
      (one.0, ap (slice_get packets) index ∙ one.1, ap (λ (x : RtpMeta). x.header.ext_vals) same ∙ one.2)
  | inr later ↦ rest j m later
]

pub values_asked : (ids : ExtensionIds) (stream : Outgoing) (packets : List Packet) (events : List Event) (wait : Option ℕ)
    → AllHaveValues ids stream packets events → AllHaveValues ids stream packets (Asked wait ∷ events)
values_asked ids stream packets events wait rest j m is = elim is [ inl here ↦ absurd (cc) | inr later ↦ rest j m later ]

-- what is known of the metadata of a packet, apart from its delivery
abbrev pub IsRead : ExtensionIds → Outgoing → List Packet → ℕ → Packet → RtpMeta → Type 0
IsRead ids stream packets k q meta = Tells stream.clock_rate q meta × HasValuesOf ids stream packets k meta

-- a log of these steps, from this stretch on, with these answers and this buffer in the end
pub record HasLog (known : ℕ → Packet → RtpMeta → Type 0) (packets : List Packet) (r : Receiving) (at_end : Bool) (later : List DatagramStep) (w : Stretch) (answers : List Answer) (t : State) : Type 0 where
  pub turns : List Turn
  pub end : Stretch
  pub is_log : IsLogOf known packets r at_end later w turns end
  pub answers_are : map (λ (turn : Turn). turn.answer) turns ≡ answers
  pub left : end.now ≡ t

-- the frames that a pop skips
pub turn_at : (wait : Option ℕ) (s t : State) (a : Answer) → PopsWaiting wait s a t → (passed : List CompleteFrame) × AnswersTurn wait s passed a t
turn_at None s t a pops = ([], (refl, pops.0, pops.1))
turn_at (Some h) s t a pops = (pops.1.0, (pops.0, pops.1.1))

-- the events of the buffer for these steps
pub record IsMet (r : Receiving) (stream : Outgoing) (packets : List Packet) (all_steps : List DatagramStep) (s : Session) (answers : List Answer) (t : Session) : Type 0 where
  pub events : List Event
  pub meets : Meets stream.clock_rate packets events s.packets.buffer answers t.packets.buffer
  pub brings : Brings s.packets.ended all_steps events
  pub values : AllHaveValues s.stream.ids stream packets events
  pub logs : (w : Stretch) → w.now ≡ s.packets.buffer → HasLog (IsRead s.stream.ids stream packets) packets r s.packets.ended all_steps w answers t.packets.buffer

-- the same, and what the receiver is in the end
pub record IsMetOn (again : Option RetransmissionStream) (time_of : ℕ → ℕ) (first : ℕ) (r : Receiving) (stream : Outgoing) (packets : List Packet) (all_steps : List DatagramStep) (s : Session) (answers : List Answer) (t : Session) : Type 0 where
  pub met : IsMet r stream packets all_steps s answers t
  pub listening : IsListening again stream t
  pub times : AreTimesOf time_of t.packets.noted
  pub through : t.packets.numbering ≡ numbering_through first s.packets.numbering (delivered all_steps)
  pub kinds : t.stream ≡ s.stream
  pub limits : KeepsLimits s.packets t.packets

module _ (again : Option RetransmissionStream) (stream : Outgoing) (types : (stream.payload_type < 64) ⊎ (95 < stream.payload_type)) (first : ℕ) (packets : List Packet) (datagrams : List (List ℕ))
    (are : AreDatagrams stream packets datagrams) (numbered : AreNumbered first packets) (r : Receiving) where
  pub met_by : (time_of : ℕ → ℕ) (all_steps : List DatagramStep) (s t : Session) (answers : List Answer) → IsListening again stream s → KeepsLimits r s.packets
      → AllNumbered first s.packets.numbering (delivered all_steps) → AllTimed time_of first packets (delivered all_steps)
      → StayTimely stream.clock_rate first packets s.packets.first (delivered all_steps) → AreTimesOf time_of s.packets.noted
      → Takes again all_steps datagrams s answers t → IsMetOn again time_of first r stream packets all_steps s answers t
  met_by time_of [] s t answers listening keeps numbers timed timely times takes = record {
    met = record {
      events = [];
      meets = (takes.0, ap (λ (x : Session). x.packets.buffer) takes.1);
      brings = refl;
      values = λ k m is. absurd is;
      logs = λ w is. record { turns = []; end = w; is_log = refl; answers_are = sym takes.0; left = is ∙ sym (ap (λ (x : Session). x.packets.buffer) takes.1) };
    };
    listening = subst (IsListening again stream) (sym takes.1) listening;
    times = subst (λ (x : Session). AreTimesOf time_of x.packets.noted) (sym takes.1) times;
    through = ap (λ (x : Session). x.packets.numbering) takes.1;
    kinds = ap (λ (x : Session). x.stream) takes.1;
    limits = subst (λ (x : Session). KeepsLimits s.packets x.packets) (sym takes.1) (record { wait_limits = refl; room = refl });
  }
  met_by time_of (steps.Send i ∷ later) s t answers listening keeps numbers timed timely times takes =
      let all = met_by time_of later s t answers listening keeps numbers timed timely times takes in
      let rest = all.met in
      record {
        met = record {
          events = rest.events;
          meets = rest.meets;
          brings = rest.brings;
          values = rest.values;
          logs = λ w is. let l = rest.logs w is in record { turns = l.turns; end = l.end; is_log = l.is_log; answers_are = l.answers_are; left = l.left };
        };
        listening = all.listening;
        times = all.times;
        through = all.through;
        kinds = all.kinds;
        limits = all.limits;
      }
  met_by time_of (steps.Deliver k now ∷ later) s t answers listening keeps numbers timed timely times takes =
      let mid : Session = takes.5 in
      let p = packet_at_index stream first packets datagrams k takes.0 are numbered takes.1 in
      let q : Packet = p.0 in
      let p_at : slice_get packets k ≡ Some q = p.1 in
      let number : answer_for s.packets.numbering (q.number % 2 ^ 16) ≡ extended.Number q.number =
      subst (λ (n : ℕ). answer_for s.packets.numbering (n % 2 ^ 16) ≡ extended.Number n) (sym p.3) numbers.0 in
      let time : q.rtp_time ≡ time_of q.number = time_at packets k q p.1 ∙ (timed.0 ∙ ap time_of (sym p.3)) in
      let stamped : q.rtp_time ≡ time_in packets k = time_at packets k q p.1 in
      let in_time = untimely_is stream.clock_rate s.packets.rate first packets s.packets.first q.number q.rtp_time k listening.rate p.3 stamped
      (timely_now stream.clock_rate first packets s.packets.first k (delivered later) timely) in
      let one = pushes_copy again time_of stream now q takes.0 takes.2 s mid takes.4 types listening p.2 takes.3 number times time in_time takes.6 in
      let timely_then : StayTimely stream.clock_rate first packets mid.packets.first (delivered later) =
      timely_next stream.clock_rate first packets s.packets.first mid.packets.first (answer_for s.packets.numbering (q.number % 2 ^ 16)) q.number q.rtp_time k (delivered later)
      timely one.first number p.3 stamped in
      let numbering : mid.packets.numbering ≡ numbering_after s.packets.numbering ((first + k) % 2 ^ 16) = one.numbering ∙ ap (λ (n : ℕ). numbering_after s.packets.numbering (n % 2 ^ 16)) p.3 in
      let all = met_by time_of later mid t answers one.listening (keeps_then r s.packets mid.packets keeps one.limits) (subst (λ (n : Numbering). AllNumbered first n (delivered later)) (sym numbering) numbers.1) timed.1 timely_then one.times takes.7 in
      let rest = all.met in
      record {
        met = record {
          events = Arrives k one.meta ∷ rest.events;
          meets = (q, p.1, one.tells, subst (λ (b : State). Meets stream.clock_rate packets rest.events b answers t.packets.buffer) one.buffer rest.meets);
          brings = (one.meta, rest.events, refl, one.received, subst (λ (b : Bool). Brings b later rest.events) one.ended rest.brings);
          values = values_with s.stream.ids stream packets rest.events k one.meta (q, p.1, one.values)
              (subst (λ (x : Kinds). AllHaveValues x.ids stream packets rest.events) one.kinds rest.values);
          logs = λ w is.
              let p : Held = arrived w.now.depacketizer one.meta q.payload in
              let next : pushed w.now p ≡ mid.packets.buffer = ap (λ (b : State). pushed b (arrived b.depacketizer one.meta q.payload)) is ∙ sym one.buffer in
              let l = subst (λ (x : Kinds). HasLog (IsRead x.ids stream packets) packets r s.packets.ended later (with_pushes w (p ∷ [])) answers t.packets.buffer) one.kinds
              (subst (λ (b : Bool). HasLog (IsRead mid.stream.ids stream packets) packets r b later (with_pushes w (p ∷ [])) answers t.packets.buffer) one.ended (rest.logs (with_pushes w (p ∷ [])) next)) in
              record {
                turns = l.turns;
                end = l.end;
                is_log = (q, one.meta, p_at, (one.tells, (q, p_at, one.values)), one.received, l.is_log);
                answers_are = l.answers_are;
                left = l.left;
              };
        };
        listening = all.listening;
        times = all.times;
        through = all.through ∙ ap (λ (n : Numbering). numbering_through first n (delivered later)) numbering;
        kinds = all.kinds ∙ one.kinds;
        limits = keeps_then s.packets mid.packets t.packets one.limits all.limits;
      }
  met_by time_of (steps.Pop now ∷ later) s t answers listening keeps numbers timed timely times takes =
      let mid : Session = takes.2 in
      let one = pops_as again stream now takes.0 s mid listening takes.4 takes.5 in
      let all = met_by time_of later mid t takes.1 one.listening (keeps_then r s.packets mid.packets keeps one.limits) (subst (λ (n : Numbering). AllNumbered first n (delivered later)) (sym one.numbering) numbers) timed
      (subst (λ (o : Option NotedTime). StayTimely stream.clock_rate first packets o (delivered later)) (sym one.first) timely) (subst (AreTimesOf time_of) (sym one.noted) times) takes.6 in
      let rest = all.met in
      record {
        met = record {
          events = Asked one.wait ∷ rest.events;
          meets = (takes.0, takes.1, mid.packets.buffer, takes.3, one.pops, rest.meets);
          brings = (one.wait, rest.events, refl, one.at_end, subst (λ (b : Bool). Brings b later rest.events) one.ended rest.brings);
          values = values_asked s.stream.ids stream packets rest.events one.wait (subst (λ (x : Kinds). AllHaveValues x.ids stream packets rest.events) one.kinds rest.values);
          logs = λ w is.
              let wait : one.wait ≡ wait_of r s.packets.ended w.now now.0 =
              one.wait_is ∙ (wait_same r s.packets now.0 keeps ∙ ap (λ (b : State). wait_of r s.packets.ended b now.0) (sym is)) in
              let turn = turn_at (wait_of r s.packets.ended w.now now.0) w.now mid.packets.buffer takes.0
              (subst (λ (o : Option ℕ). PopsWaiting o w.now takes.0 mid.packets.buffer) wait (subst (λ (b : State). PopsWaiting one.wait b takes.0 mid.packets.buffer) (sym is) one.pops)) in
              let l = subst (λ (x : Kinds). HasLog (IsRead x.ids stream packets) packets r s.packets.ended later (begun mid.packets.buffer) takes.1 t.packets.buffer) one.kinds
              (subst (λ (b : Bool). HasLog (IsRead mid.stream.ids stream packets) packets r b later (begun mid.packets.buffer) takes.1 t.packets.buffer) one.ended (rest.logs (begun mid.packets.buffer) refl)) in
              record {
                turns = record { stretch = w; passed = turn.0; answer = takes.0; after = mid.packets.buffer } ∷ l.turns;
                end = l.end;
                is_log = (refl, turn.1, l.is_log);
                answers_are = ap (λ (as' : List Answer). takes.0 ∷ as') l.answers_are ∙ sym takes.3;
                left = l.left;
              };
        };
        listening = all.listening;
        times = all.times;
        through = all.through ∙ ap (λ (n : Numbering). numbering_through first n (delivered later)) one.numbering;
        kinds = all.kinds ∙ one.kinds;
        limits = keeps_then s.packets mid.packets t.packets one.limits all.limits;
      }
  met_by time_of (steps.Finish ∷ later) s t answers listening keeps numbers timed timely times takes =
      let at_end : takes.0 ≡ ended s = finishes_as again stream s takes.0 listening takes.1 in
      let all = met_by time_of later (ended s) t answers (record {
        payload_type = listening.payload_type;
        named = listening.named;
        ssrc = listening.ssrc;
        not_again = listening.not_again;
        rate = listening.rate;
        running = refl;
        none_noted = listening.none_noted;
        of_codec = listening.of_codec;
        no_block_seen = listening.no_block_seen;
        drops_none = listening.drops_none;
        heard = listening.heard;
      }) (record { wait_limits = keeps.wait_limits; room = keeps.room }) numbers timed timely times (subst (λ (x : Session). Takes again later datagrams x answers t) at_end takes.2) in
      let rest = all.met in
      record {
        met = record {
          events = rest.events;
          meets = rest.meets;
          brings = rest.brings;
          values = rest.values;
          logs = λ w is. let l = rest.logs w is in record { turns = l.turns; end = l.end; is_log = l.is_log; answers_are = l.answers_are; left = l.left };
        };
        listening = all.listening;
        times = all.times;
        through = all.through;
        kinds = all.kinds;
        limits = record { wait_limits = all.limits.wait_limits; room = all.limits.room };
      }

  pub met : (all_steps : List DatagramStep) (s t : Session) (answers : List Answer) → IsListening again stream s → KeepsLimits r s.packets
      → AllNumbered first s.packets.numbering (delivered all_steps) → StayTimely stream.clock_rate first packets s.packets.first (delivered all_steps)
      → AreTimesOf (times_from first packets) s.packets.noted → Takes again all_steps datagrams s answers t
      → IsMet r stream packets all_steps s answers t
  met all_steps s t answers listening keeps numbers timely times takes =
      (met_by (times_from first packets) all_steps s t answers listening keeps numbers (all_timed first packets (delivered all_steps)) timely times takes).met

-- If all datagrams are delivered first

-- after the end of the stream each pop is made
made_after : (later : List DatagramStep) (events : List Event) → Brings true later events → AllAreMade events
made_after [] events brings = subst AllAreMade (sym brings) tt
made_after (steps.Send i ∷ later) events brings = made_after later events brings
made_after (steps.Deliver k now ∷ later) events brings = subst AllAreMade (sym brings.2) (made_after later brings.1 brings.4)
made_after (steps.Pop now ∷ later) events brings =
    subst AllAreMade (sym (brings.2 ∙ ap (λ (w : Option ℕ). Asked w ∷ brings.1) (brings.3 refl))) (made_after later brings.1 brings.4)
made_after (steps.Finish ∷ later) events brings = made_after later events brings

-- and nothing waits
abbrev pub AllAtOnce : List Event → Type 0
AllAtOnce [] = Unit {0}
AllAtOnce (Arrives k meta ∷ events) = AllAtOnce events
AllAtOnce (Asked wait ∷ events) = (wait ≡ Some 0) × AllAtOnce events

once_after : (later : List DatagramStep) (events : List Event) → Brings true later events → AllAtOnce events
once_after [] events brings = subst AllAtOnce (sym brings) tt
once_after (steps.Send i ∷ later) events brings = once_after later events brings
once_after (steps.Deliver k now ∷ later) events brings = subst AllAtOnce (sym brings.2) (once_after later brings.1 brings.4)
once_after (steps.Pop now ∷ later) events brings = subst AllAtOnce (sym brings.2) (brings.3 refl, once_after later brings.1 brings.4)
once_after (steps.Finish ∷ later) events brings = once_after later events brings

-- the events before the end of the stream, if no pop is among them, and the events after it
pub record IsSplit (before : List DatagramStep) (events : List Event) : Type 0 where
  pub first : List Event
  pub rest : List Event
  pub whole : events ≡ first ++ rest
  pub only : OnlyArrive first
  pub has : (k : ℕ) → IsIn k (delivered before) → HasArrival k first
  pub made : AllAreMade rest
  pub at_once : AllAtOnce rest

pub split_at_end : (at_end : Bool) (before after : List DatagramStep) (events : List Event) → HaveNoPops before → Brings at_end (before ++ steps.Finish ∷ after) events → IsSplit before events
split_at_end at_end [] after events no_pops brings = record { first = []; rest = events; whole = refl; only = tt; has = λ k is. absurd is; made = made_after after events brings; at_once = once_after after events brings }
split_at_end at_end (steps.Send i ∷ before) after events no_pops brings =
    let r = split_at_end at_end before after events no_pops brings in
    record { first = r.first; rest = r.rest; whole = r.whole; only = r.only; has = r.has; made = r.made; at_once = r.at_once }
split_at_end at_end (steps.Deliver k now ∷ before) after events no_pops brings =
    let r = split_at_end at_end before after brings.1 no_pops brings.4 in
    record {
      first = Arrives k brings.0 ∷ r.first;
      rest = r.rest;
      whole = brings.2 ∙ ap (λ (es : List Event). Arrives k brings.0 ∷ es) r.whole;
      only = r.only;
      has = λ j is. elim is [ inl here ↦ inl (sym here) | inr later ↦ inr (r.has j later) ];
      made = r.made;
      at_once = r.at_once;
    }
split_at_end at_end (steps.Pop now ∷ before) after events no_pops brings = absurd no_pops
split_at_end at_end (steps.Finish ∷ before) after events no_pops brings =
    let r = split_at_end true before after events no_pops brings in
    record { first = r.first; rest = r.rest; whole = r.whole; only = r.only; has = r.has; made = r.made; at_once = r.at_once }

-- Metadata of packets

-- a push is a delivery of this datagram, at its time of arrival
pub delivery_of : (at_end : Bool) (all_steps : List DatagramStep) (events : List Event) (k : ℕ) (meta : RtpMeta) → Brings at_end all_steps events
    → IsIn (Arrives k meta) events → IsIn (steps.Deliver k meta.received) all_steps
delivery_of at_end [] events k meta brings is = absurd (subst (IsIn (Arrives k meta)) brings is)
delivery_of at_end (steps.Send i ∷ later) events k meta brings is = inr (delivery_of at_end later events k meta brings is)
delivery_of at_end (steps.Deliver j now ∷ later) events k meta brings is =
    let there : IsIn (Arrives k meta) (Arrives j brings.0 ∷ brings.1) = subst (IsIn (Arrives k meta)) brings.2 is in
    elim there [
      | inl here ↦ let index : k ≡ j = cc in let same : meta ≡ brings.0 = cc in let received : meta.received ≡ now = ap (λ (m : RtpMeta). m.received) same ∙ brings.3 in inl (cc)
      | inr rest ↦ inr (delivery_of at_end later brings.1 k meta brings.4 rest)
    ]
delivery_of at_end (steps.Pop now ∷ later) events k meta brings is =
    let there : IsIn (Arrives k meta) (Asked brings.0 ∷ brings.1) = subst (IsIn (Arrives k meta)) brings.2 is in
    elim there [
      | inl here ↦ absurd (cc)
      | inr rest ↦ inr (delivery_of at_end later brings.1 k meta brings.4 rest)
    ]
delivery_of at_end (steps.Finish ∷ later) events k meta brings is = inr (delivery_of true later events k meta brings is)
