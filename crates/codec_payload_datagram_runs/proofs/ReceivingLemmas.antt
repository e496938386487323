-- A receiver does with its sender's datagrams and with pops exactly what its buffer does with the packets.
use Rattle.std.proofs.Common.{◌≡◌, ◌≢◌, ◌∙◌, refl, sym, ap, subst, ℕ, ◌+◌, ◌%◌, ◌^◌, ◌<◌, ◌⊎◌, inl, inr, ◌&&◌, ◌||◌, List, [], ◌∷◌, Bool, true, false, not, cond, Option, Some, None, Ok, Err}
use Rattle.std.specs.Prelude.{slice_get, is_some}
use Rattle.std.proofs.lemmas.Bool.{eq-eqb, or_left}
use Rattle.codec_payload_base.specs.declared.error.PacketError.TheVariants as faults
use Rattle.codec_payload_base.specs.declared.wire.Ticks.{Ticks}
use Rattle.codec_payload_codec.specs.Depacketizers.{is_built_in_depacketizer}
use Rattle.codec_payload_codec.specs.Packetizers.{NullPacketizing}
use Rattle.codec_payload_buffer.specs.Steps.{State, arrived, pushed, Pops}
use Rattle.codec_payload_metadata.specs.declared.meta.RtpMeta.{RtpMeta}
use Rattle.codec_payload_sending_history.specs.Histories.{IsRetransmission}
use Rattle.codec_payload_sending_history.specs.declared.retransmission.RetransmissionStream.{RetransmissionStream}
use Rattle.codec_payload_buffer_runs.proofs.units.BuiltInRuns.{pop_exactly, push_keeps}
use Rattle.codec_payload_buffer_runs.specs.Arrivals.{PopsWaiting, Tells}
use Rattle.codec_payload_payloader.specs.Packets.{Packet}
use Rattle.codec_payload_buffer_runs.specs.Schedule.{Answer, RunState, run_state}
use Rattle.codec_payload_jitter.specs.NoMediaNumbers.{passed_no_media, no_media_left}
use Rattle.codec_payload_numbers.specs.NotedTimes.{AreTimesOf, is_untimely, noted_with}
use Rattle.codec_payload_numbers.specs.Numbers.{Numbering, answer_for, number_within, numbering_after, numbering_with}
use Rattle.codec_payload_jitter.specs.Receiving.{Arrival, GoesOn, PopsWith, Receives, ReceivesAgain, ReceivesAgainAs, ReceivesAs, Receiving}
use Rattle.codec_payload_jitter.specs.Receiving.{answer_to, counted_in_again, first_with, is_starting, meta_for, number_again_for, numbered, settled, waiting_at, with_first, with_noted, would_store}
use Rattle.codec_payload_jitter.specs.Waiting.{most_held_back}
use Rattle.codec_payload_jitter.proofs.RestartLemmas.{again_without_former, answer_to_is}
use Rattle.codec_payload_numbers.proofs.TimesLemmas.{still_times}
use Rattle.codec_payload_numbers.specs.declared.noted_times.NotedTime.{NotedTime}
use Rattle.codec_payload_numbers.specs.declared.numbers.Extended.{Extended}
use Rattle.codec_payload_numbers.specs.declared.numbers.Extended.TheVariants as extended
use Rattle.codec_payload_jitter.specs.declared.outcome.Outcome.{Outcome}
use Rattle.codec_payload_jitter.specs.declared.outcome.PacketCounters.{PacketCounters}
use Rattle.codec_payload_sending.specs.declared.sender.Outgoing.{Outgoing}
use Rattle.codec_payload_datagrams.specs.Kinds.{Again, Datagram, Kinds, WithMedia, datagram_at, header_for, is_other}
use Rattle.codec_payload_datagrams.specs.Choice.{is_silent, origin_of, verdict_of}
use Rattle.codec_payload_receiver.specs.Sessions.{Ends, Heard, Hears, ReceivesBy, ReceivesBytes, Session, SettlesOn, TakesAgain, TakesMedia, ended, first_waiting, is_none_of, is_open, is_repeat, packet_seen}
use Rattle.codec_payload_datagrams.specs.declared.choice.Candidate.{Candidate}
use Rattle.codec_payload_receiver.specs.Pops.{PopsOnce}
use Rattle.codec_payload_receiver.specs.declared.receiver.ReceiveError.TheVariants as refusals
use Rattle.codec_payload_receiver.proofs.PopLemmas.{drops_stay, pops_at_once}
use Rattle.codec_payload_receiver.specs.RedOnce.{HasNoBlock}
use Rattle.codec_payload_receiver.proofs.BlockTimeLemmas.{and_false, packet_has_no_block}
use Rattle.codec_payload_datagram_runs.proofs.ReadingLemmas.{again_is, datagram_is, original_at, packet_at}
use Rattle.codec_payload_datagram_runs.proofs.Courses.{IsCopy}
use Rattle.codec_payload_datagram_runs.specs.HistoryReleases.{AreHeard}
use Rattle.codec_payload_datagram_runs.specs.Releases.{ReadsAs, is_sent_again_by, values_read}
use Rattle.codec_payload_jitter.specs.declared.waiting.WaitLimits.{WaitLimits}
use Rattle.codec_payload_datagram_runs.specs.WireLogs.{wait_of}
use Rattle.codec_payload_datagram_runs.specs.WireRuns.{Delivers, PopsUnit, Receipt}

-- each datagram with one of these indices gets the number of the first sent datagram, plus its index
abbrev pub AllNumbered : ℕ → Numbering → List ℕ → Type 0
AllNumbered first s [] = Unit {0}
AllNumbered first s (k ∷ ks) = (answer_for s ((first + k) % 2 ^ 16) ≡ extended.Number (first + k)) × AllNumbered first (numbering_after s ((first + k) % 2 ^ 16)) ks

-- a receiver of the stream and of its retransmissions, without numbers without media, without blocks of RED, and without an
-- announced restart
pub record IsListening (again : Option RetransmissionStream) (stream : Outgoing) (s : Session) : Type 0 where
  pub payload_type : s.stream.payload_type ≡ stream.payload_type
  pub named : s.named ≡ Some stream.ssrc
  pub ssrc : s.ssrc ≡ Some stream.ssrc
  pub not_again : is_sent_again_by s.stream.retransmission stream ≡ false
  pub rate : s.packets.rate ≡ stream.clock_rate
  pub running : s.packets.is_restarting ≡ false
  pub none_noted : s.packets.no_media_numbers ≡ []
  pub of_codec : is_built_in_depacketizer s.packets.buffer.depacketizer ≡ true
  pub no_block_seen : HasNoBlock s.seen
  pub drops_none : s.gates.drops ≡ false
  pub heard : AreHeard again s.stream.retransmission

-- Receiving

-- the answer for a datagram, unless memory runs out
pub heard : (now : Ticks) (d : Datagram) (s t : Session) (receipt : Receipt) → receipt ≢ Err refusals.OutOfMemory → Heard now d s receipt t → Hears now d s receipt t
heard now d s t (Ok outcome) not_memory told = told
heard now d s t (Err refusals.OutOfMemory) not_memory told = absurd (not_memory refl)
heard now d s t (Err (refusals.Rtp e)) not_memory told = told
heard now d s t (Err refusals.Red) not_memory told = told
heard now d s t (Err refusals.Retransmission) not_memory told = told
heard now d s t (Err refusals.BlocksOutOfMemory) not_memory told = told

-- if the second of two branches is taken, facts about both apply to the second
second : {X : Type 0} (P : X → Type 0) (b : Bool) (x y : X) → b ≡ false → P (cond b x y) → P y
second P b x y taken known = subst (λ (c : Bool). P (cond c x y)) taken known

-- a receiver with a named SSRC receives each datagram by its stream
pub heard_at_once : (ssrc : ℕ) (now : Ticks) (bytes : List ℕ) (s t : Session) (receipt : Receipt) → s.named ≡ Some ssrc
    → Delivers now bytes s receipt t → Heard now (datagram_at s.stream s.ssrc bytes) s receipt t
heard_at_once ssrc now bytes s t receipt is_named delivers = by_case delivers.1
  where
    settled_already : is_open s now.0 ≡ false
    settled_already = ap (λ (named : Option ℕ). is_none_of named && not s.packets.ended && (is_none_of s.ssrc || is_silent s.choice now.0)) is_named

    by_case : ReceivesBytes now bytes s receipt t → Heard now (datagram_at s.stream s.ssrc bytes) s receipt t
    by_case (inl by) =
        let told = second (λ v. ReceivesBy v now bytes s receipt t) (is_open s now.0)
        (verdict_of s.choice.candidates s.ssrc (origin_of (datagram_at s.stream None bytes))) _ settled_already by in
        told
    by_case (inr got) = absurd (delivers.0 got.0)

-- its SSRC is the same
pub same_ssrc : (stream : Outgoing) (s : Session) → s.ssrc ≡ Some stream.ssrc → is_other s.ssrc stream.ssrc ≡ false
same_ssrc stream s is = ap (λ (o : Option ℕ). is_other o stream.ssrc) is ∙ ap not (eq-eqb stream.ssrc stream.ssrc refl)

-- at the end of the stream no packet waits for the choice
pub finishes_at : (ssrc : ℕ) (s t : Session) → s.ssrc ≡ Some ssrc → Ends s t → t ≡ ended s
finishes_at ssrc s t is finishes =
    let none : first_waiting s ≡ None = ap (λ (o : Option ℕ). cond (is_none_of o) (slice_get s.choice.candidates 0) None) is in
    let stays : SettlesOn None true s finishes.0 = subst (λ (o : Option Candidate). SettlesOn o true s finishes.0) none finishes.1 in
    finishes.2 ∙ ap ended stays.1

pub finishes_as : (again : Option RetransmissionStream) (stream : Outgoing) (s t : Session) → IsListening again stream s → Ends s t → t ≡ ended s
finishes_as again stream s t listening finishes = finishes_at stream.ssrc s t listening.ssrc finishes

-- the limits of the receiver stay
pub record KeepsLimits (r t : Receiving) : Type 0 where
  pub wait_limits : t.wait_limits ≡ r.wait_limits
  pub room : t.room ≡ r.room

pub keeps_then : (r s t : Receiving) → KeepsLimits r s → KeepsLimits s t → KeepsLimits r t
keeps_then r s t one two = record { wait_limits = two.wait_limits ∙ one.wait_limits; room = two.room ∙ one.room }

-- so how long pops wait follows from the buffer, the moment, and whether the stream has ended
pub wait_same : (r s : Receiving) (now : ℕ) → KeepsLimits r s → waiting_at s now ≡ wait_of r s.ended s.buffer now
wait_same r s now keeps =
    ap (λ (l : WaitLimits). waiting_at (record r { buffer = s.buffer; ended = s.ended; wait_limits = l; room = s.room }) now) keeps.wait_limits
    ∙ ap (λ (n : ℕ). waiting_at (record r { buffer = s.buffer; ended = s.ended; room = n }) now) keeps.room

-- a push of the packet with this number, which has the RTP time of its number, by this answer
pub record TakesIn (time_of : ℕ → ℕ) (e : Extended) (n : ℕ) (a : Arrival) (r t : Receiving) : Type 0 where
  pub times : AreTimesOf time_of t.noted
  pub buffer : t.buffer ≡ pushed r.buffer (arrived r.buffer.depacketizer (meta_for a.now r.rate a.header n) a.bytes)
  pub numbering : t.numbering ≡ numbering_with r.numbering e a.header.sequence_number
  pub first : t.first ≡ first_with r.first e a.header.timestamp
  pub rate : t.rate ≡ r.rate
  pub running : t.is_restarting ≡ false
  pub no_media_numbers : t.no_media_numbers ≡ r.no_media_numbers
  pub limits : KeepsLimits r t
  pub ended : t.ended ≡ r.ended

-- a packet that was stored under this number
pub went_in : (time_of : ℕ → ℕ) (n : ℕ) (a : Arrival) (r mid t : Receiving) (outcome : Outcome) (counters : PacketCounters) (kept : Option Arrival) (e : Extended)
    → is_built_in_depacketizer r.buffer.depacketizer ≡ true
    → AreTimesOf time_of r.noted → a.header.timestamp ≡ time_of n → GoesOn n a r outcome mid
    → t ≡ with_first e a.header.timestamp (numbered r e a.header.sequence_number (record mid { counters = counters; kept = kept })) → TakesIn time_of e n a r t
went_in time_of n a r mid t outcome counters kept e of_codec times time went left =
    let trusted : mid ≡ with_noted n a went.0 = went.2 in
    let accepted = went.1.3 in
    let packet : went.1.1.0 ≡ arrived r.buffer.depacketizer (meta_for a.now r.rate a.header n) a.bytes = went.1.1.1.2 of_codec in
    let x : NotedTime = record { number = n; time = a.header.timestamp } in
    let noted : t.noted ≡ noted_with r.noted x =
    ap (λ (y : Receiving). y.noted) left ∙ (ap (λ (y : Receiving). y.noted) trusted ∙ ap (λ (y : Receiving). noted_with y.noted x) accepted) in
    record {
      times = subst (AreTimesOf time_of) (sym noted) (still_times time_of r.noted x time times);
      buffer = ap (λ (x : Receiving). x.buffer) left ∙ (ap (λ (x : Receiving). x.buffer) trusted ∙ (ap (λ (x : Receiving). x.buffer) accepted ∙ (went.1.1.2 ∙ ap (pushed r.buffer) packet)));
      numbering = ap (λ (x : Receiving). x.numbering) left;
      first = ap (λ (x : Receiving). x.first) left
          ∙ (ap (λ (x : Receiving). first_with x.first e a.header.timestamp) trusted ∙ ap (λ (x : Receiving). first_with x.first e a.header.timestamp) accepted);
      rate = ap (λ (x : Receiving). x.rate) left ∙ (ap (λ (x : Receiving). x.rate) trusted ∙ ap (λ (x : Receiving). x.rate) accepted);
      running = ap (λ (x : Receiving). x.is_restarting) left;
      no_media_numbers = ap (λ (x : Receiving). x.no_media_numbers) left ∙ (ap (λ (x : Receiving). x.no_media_numbers) trusted ∙ ap (λ (x : Receiving). x.no_media_numbers) accepted);
      limits = record {
        wait_limits = ap (λ (x : Receiving). x.wait_limits) left ∙ (ap (λ (x : Receiving). x.wait_limits) trusted ∙ ap (λ (x : Receiving). x.wait_limits) accepted);
        room = ap (λ (x : Receiving). x.room) left ∙ (ap (λ (x : Receiving). x.room) trusted ∙ ap (λ (x : Receiving). x.room) accepted);
      };
      ended = ap (λ (x : Receiving). x.ended) left ∙ (ap (λ (x : Receiving). x.ended) trusted ∙ ap (λ (x : Receiving). x.ended) accepted);
    }

pub takes_in : (time_of : ℕ → ℕ) (n : ℕ) (a : Arrival) (r t : Receiving) (outcome : Outcome) → r.is_restarting ≡ false → is_built_in_depacketizer r.buffer.depacketizer ≡ true
    → answer_for r.numbering a.header.sequence_number ≡ extended.Number n → AreTimesOf time_of r.noted → a.header.timestamp ≡ time_of n
    → is_untimely r.rate r.first (record { number = n; time = a.header.timestamp }) ≡ false → Receives a r outcome t → TakesIn time_of (answer_for r.numbering a.header.sequence_number) n a r t
takes_in time_of n a r t outcome running of_codec is times time timely receives =
    let answer : answer_to r a.header ≡ extended.Number n = answer_to_is time_of r a.header n running times is time timely in
    let mid : Receiving = receives.0 in
    let went : GoesOn n a r outcome mid = subst (λ (e : Extended). ReceivesAs e a r outcome mid) answer receives.1 in
    subst (λ (e : Extended). TakesIn time_of e n a r t) (answer ∙ sym is)
    (went_in time_of n a r mid t outcome mid.counters mid.kept (answer_to r a.header) of_codec times time went receives.2)

-- the same for a retransmitted packet
pub takes_in_again : (time_of : ℕ → ℕ) (n : ℕ) (a : Arrival) (r t : Receiving) (outcome : Outcome) → r.is_restarting ≡ false → is_built_in_depacketizer r.buffer.depacketizer ≡ true
    → answer_for r.numbering a.header.sequence_number ≡ extended.Number n → AreTimesOf time_of r.noted → a.header.timestamp ≡ time_of n
    → ReceivesAgain a r outcome t → TakesIn time_of (answer_for r.numbering a.header.sequence_number) n a r t
takes_in_again time_of n a r t outcome running of_codec is times time receives =
    let low : ℕ = a.header.sequence_number in
    let number : number_again_for r low a.header.timestamp ≡ Some n =
    again_without_former r low a.header.timestamp times.1 ∙ (ap (λ (b : Bool). cond b None (number_within (answer_for r.numbering low))) running ∙ ap number_within is) in
    let here : ReceivesAgainAs (Some n) a r outcome t = subst (λ (o : Option ℕ). ReceivesAgainAs o a r outcome t) number receives in
    subst (λ (e : Extended). TakesIn time_of e n a r t) (sym is)
    (went_in time_of n a r here.0 t outcome (counted_in_again here.0.counters outcome) here.0.kept (extended.Number n) of_codec times time here.1 here.2)

-- a copy of a datagram of the sender is a push of its packet, by this answer
pub record IsPushedBy (e : Extended) (again : Option RetransmissionStream) (time_of : ℕ → ℕ) (stream : Outgoing) (now : Ticks) (q : Packet) (s t : Session) : Type 0 where
  pub times : AreTimesOf time_of t.packets.noted
  pub meta : RtpMeta
  pub tells : Tells stream.clock_rate q meta
  pub values : meta.header.ext_vals ≡ values_read s.stream.ids stream q.ext_vals
  pub received : meta.received ≡ now
  pub buffer : t.packets.buffer ≡ pushed s.packets.buffer (arrived s.packets.buffer.depacketizer meta q.payload)
  pub numbering : t.packets.numbering ≡ numbering_with s.packets.numbering e (q.number % 2 ^ 16)
  pub first : t.packets.first ≡ first_with s.packets.first e q.rtp_time
  pub listening : IsListening again stream t
  pub kinds : t.stream ≡ s.stream
  pub limits : KeepsLimits s.packets t.packets
  pub ended : t.packets.ended ≡ s.packets.ended

-- the same for a packet within the windows
abbrev pub IsPushed : Option RetransmissionStream → (ℕ → ℕ) → Outgoing → Ticks → Packet → Session → Session → Type 0
IsPushed again time_of stream now q s t = IsPushedBy (answer_for s.packets.numbering (q.number % 2 ^ 16)) again time_of stream now q s t

-- the packet on arrival
abbrev pub arrival_at : Outgoing → Ticks → Packet → Session → Arrival
arrival_at stream now q s = record { now = now; header = header_for s.stream (packet_at stream q).header; bytes = q.payload }

-- the jitter buffer has stored the packet, and the rest of the receiver is as before, as far as the stream is concerned
pub record HasStored (e : Extended) (time_of : ℕ → ℕ) (stream : Outgoing) (now : Ticks) (q : Packet) (s t : Session) : Type 0 where
  pub takes : TakesIn time_of e q.number (arrival_at stream now q s) s.packets t.packets
  pub kinds : t.stream ≡ s.stream
  pub named : t.named ≡ s.named
  pub ssrc : t.ssrc ≡ Some stream.ssrc
  pub seen : HasNoBlock t.seen
  pub drops : t.gates.drops ≡ s.gates.drops

-- the receiver as if no restart was announced
abbrev pub calmed : Session → Session
calmed s = record s { packets = record s.packets { is_restarting = false } }

pub still_calm : (again : Option RetransmissionStream) (stream : Outgoing) (s : Session) → IsListening again stream s → IsListening again stream (calmed s)
still_calm again stream s listening = record {
  payload_type = listening.payload_type;
  named = listening.named;
  ssrc = listening.ssrc;
  not_again = listening.not_again;
  rate = listening.rate;
  running = refl;
  none_noted = listening.none_noted;
  of_codec = listening.of_codec;
  no_block_seen = listening.no_block_seen;
  drops_none = listening.drops_none;
  heard = listening.heard;
}

pub stored_is_pushed : (e : Extended) (again : Option RetransmissionStream) (time_of : ℕ → ℕ) (stream : Outgoing) (now : Ticks) (q : Packet) (s t : Session) → IsListening again stream (calmed s)
    → HasStored e time_of stream now q s t → IsPushedBy e again time_of stream now q s t
stored_is_pushed e again time_of stream now q s t listening has =
    let one = has.takes in
    let a : Arrival = arrival_at stream now q s in
    let meta : RtpMeta = meta_for now s.packets.rate a.header q.number in
    let buffer : t.packets.buffer ≡ pushed s.packets.buffer (arrived s.packets.buffer.depacketizer meta q.payload) = one.buffer in
    record {
      times = one.times;
      meta = meta;
      tells = record {
        number = refl;
        time = ap (λ (r : ℕ). record { numer = q.rtp_time; rate = r }) listening.rate;
        marker = refl;
      };
      values = refl;
      received = refl;
      buffer = buffer;
      numbering = one.numbering;
      first = one.first;
      listening = record {
        payload_type = ap (λ (x : Kinds). x.payload_type) has.kinds ∙ listening.payload_type;
        named = has.named ∙ listening.named;
        ssrc = has.ssrc;
        not_again = ap (λ (x : Kinds). is_sent_again_by x.retransmission stream) has.kinds ∙ listening.not_again;
        rate = one.rate ∙ listening.rate;
        running = one.running;
        none_noted = one.no_media_numbers ∙ listening.none_noted;
        of_codec = ap (λ (x : State). is_built_in_depacketizer x.depacketizer) buffer
            ∙ (ap is_built_in_depacketizer (push_keeps s.packets.buffer (arrived s.packets.buffer.depacketizer meta q.payload)) ∙ listening.of_codec);
        no_block_seen = has.seen;
        drops_none = has.drops ∙ listening.drops_none;
        heard = subst (λ (x : Kinds). AreHeard again x.retransmission) (sym has.kinds) listening.heard;
      };
      kinds = has.kinds;
      limits = one.limits;
      ended = one.ended;
    }

-- no packet repeats a block
pub not_repeated : (s : Session) (time low : ℕ) → HasNoBlock s.seen → is_repeat s.stream s.seen s.packets time low ≡ false
not_repeated s time low none =
    ap (λ (b : Bool). (is_some s.stream.red && b) && would_store s.packets low) (none time) ∙ ap (λ (b : Bool). b && would_store s.packets low) (and_false (is_some s.stream.red))

-- a datagram of the sender
pushes : (again : Option RetransmissionStream) (time_of : ℕ → ℕ) (stream : Outgoing) (now : Ticks) (q : Packet) (bytes : List ℕ) (s t : Session) (receipt : Receipt) → (stream.payload_type < 64)
    ⊎ (95 < stream.payload_type) → IsListening again stream s → ReadsAs stream q bytes
    → answer_for s.packets.numbering (q.number % 2 ^ 16) ≡ extended.Number q.number → AreTimesOf time_of s.packets.noted → q.rtp_time ≡ time_of q.number
    → is_untimely s.packets.rate s.packets.first (record { number = q.number; time = q.rtp_time }) ≡ false → Delivers now bytes s receipt t → IsPushed again time_of stream now q s t
pushes again time_of stream now q bytes s t receipt types listening reads numbered times time timely delivers =
    let is : datagram_at s.stream s.ssrc bytes ≡ WithMedia (packet_at stream q) =
    datagram_is s.stream s.ssrc stream q bytes reads listening.payload_type types (same_ssrc stream s listening.ssrc) listening.not_again in
    let hears : Hears now (WithMedia (packet_at stream q)) s receipt t =
    subst (λ (d : Datagram). Hears now d s receipt t) is (heard now (datagram_at s.stream s.ssrc bytes) s t receipt delivers.0 (heard_at_once stream.ssrc now bytes s t receipt listening.named delivers)) in
    let a : Arrival = arrival_at stream now q s in
    let new = not_repeated s a.header.timestamp a.header.sequence_number listening.no_block_seen in
    let receives : Receives a s.packets hears.outcome hears.packets = subst (λ (b : Bool). TakesMedia b a s.packets hears.outcome hears.packets) new hears.takes.0 in
    let packets : t.packets ≡ hears.packets = ap (λ (x : Session). x.packets) hears.left in
    let one = takes_in time_of q.number a s.packets hears.packets hears.outcome listening.running listening.of_codec numbered times time timely receives in
    let seen : t.seen ≡ packet_seen (is_some s.stream.red) hears.outcome a.header.timestamp s.seen = ap (λ (x : Session). x.seen) hears.left ∙ hears.takes.1 in
    let e : Extended = answer_for s.packets.numbering (q.number % 2 ^ 16) in
    stored_is_pushed e again time_of stream now q s t (still_calm again stream s listening) (record {
      takes = subst (TakesIn time_of e q.number a s.packets) (sym packets) one;
      kinds = ap (λ (x : Session). x.stream) hears.left;
      named = ap (λ (x : Session). x.named) hears.left;
      ssrc = ap (λ (x : Session). x.ssrc) hears.left;
      seen = subst HasNoBlock (sym seen) (packet_has_no_block (is_some s.stream.red) hears.outcome a.header.timestamp s.seen listening.no_block_seen);
      drops = ap (λ (x : Session). x.gates.drops) hears.left;
    })

-- a retransmission of it
pushes_again : (again : RetransmissionStream) (next : ℕ) (time_of : ℕ → ℕ) (stream : Outgoing) (now : Ticks) (q : Packet) (datagram bytes : List ℕ) (s t : Session) (receipt : Receipt)
    → IsListening (Some again) stream s → ReadsAs stream q datagram → IsRetransmission again next datagram bytes
    → answer_for s.packets.numbering (q.number % 2 ^ 16) ≡ extended.Number q.number → AreTimesOf time_of s.packets.noted → q.rtp_time ≡ time_of q.number
    → Delivers now bytes s receipt t → IsPushed (Some again) time_of stream now q s t
pushes_again again next time_of stream now q datagram bytes s t receipt listening reads repeats numbered times time delivers =
    let is : datagram_at s.stream s.ssrc bytes ≡ Again (original_at again next stream q) =
    again_is s.stream s.ssrc again next stream q datagram bytes reads repeats listening.ssrc listening.heard.0 listening.heard.1 in
    let hears : Hears now (Again (original_at again next stream q)) s receipt t =
    subst (λ (d : Datagram). Hears now d s receipt t) is
    (heard now (datagram_at s.stream s.ssrc bytes) s t receipt delivers.0 (heard_at_once stream.ssrc now bytes s t receipt listening.named delivers)) in
    let a : Arrival = arrival_at stream now q s in
    let new = not_repeated s a.header.timestamp a.header.sequence_number listening.no_block_seen in
    let receives : ReceivesAgain a s.packets hears.outcome hears.packets = subst (λ (b : Bool). TakesAgain b a s.packets hears.outcome hears.packets) new hears.takes.0 in
    let packets : t.packets ≡ hears.packets = ap (λ (x : Session). x.packets) hears.left in
    let one = takes_in_again time_of q.number a s.packets hears.packets hears.outcome listening.running listening.of_codec numbered times time receives in
    let seen : t.seen ≡ packet_seen (is_some s.stream.red) hears.outcome a.header.timestamp s.seen = ap (λ (x : Session). x.seen) hears.left ∙ hears.takes.1 in
    let e : Extended = answer_for s.packets.numbering (q.number % 2 ^ 16) in
    stored_is_pushed e (Some again) time_of stream now q s t (still_calm (Some again) stream s listening) (record {
      takes = subst (TakesIn time_of e q.number a s.packets) (sym packets) one;
      kinds = ap (λ (x : Session). x.stream) hears.left;
      named = ap (λ (x : Session). x.named) hears.left;
      ssrc = ap (λ (x : Session). x.ssrc) hears.left ∙ listening.ssrc;
      seen = subst HasNoBlock (sym seen) (packet_has_no_block (is_some s.stream.red) hears.outcome a.header.timestamp s.seen listening.no_block_seen);
      drops = ap (λ (x : Session). x.gates.drops) hears.left;
    })

-- any copy of it
pub pushes_copy : (again : Option RetransmissionStream) (time_of : ℕ → ℕ) (stream : Outgoing) (now : Ticks) (q : Packet) (datagram bytes : List ℕ) (s t : Session) (receipt : Receipt)
    → (stream.payload_type < 64) ⊎ (95 < stream.payload_type) → IsListening again stream s → ReadsAs stream q datagram → IsCopy again datagram bytes
    → answer_for s.packets.numbering (q.number % 2 ^ 16) ≡ extended.Number q.number → AreTimesOf time_of s.packets.noted → q.rtp_time ≡ time_of q.number
    → is_untimely s.packets.rate s.packets.first (record { number = q.number; time = q.rtp_time }) ≡ false → Delivers now bytes s receipt t → IsPushed again time_of stream now q s t
pushes_copy again time_of stream now q datagram bytes s t receipt types listening reads (inl same) numbered times time timely delivers =
    pushes again time_of stream now q bytes s t receipt types listening (subst (ReadsAs stream q) (sym same) reads) numbered times time timely delivers
pushes_copy None time_of stream now q datagram bytes s t receipt types listening reads (inr repeated) numbered times time timely delivers =
    pushes None time_of stream now q bytes s t receipt types listening (subst (ReadsAs stream q) (sym repeated.1) reads) numbered times time timely delivers
pushes_copy (Some again) time_of stream now q datagram bytes s t receipt types listening reads (inr repeated) numbered times time timely delivers =
    pushes_again again repeated.0 time_of stream now q datagram bytes s t receipt listening reads repeated.1 numbered times time delivers

-- Pops

-- with nothing remembered, nothing is settled
pub settled_none : (r : Receiving) → r.no_media_numbers ≡ [] → settled r ≡ r
settled_none r none =
    ap (λ (ns : List ℕ). record r { buffer = passed_no_media r.buffer ns; no_media_numbers = no_media_left r.buffer ns }) none ∙ ap (λ (ns : List ℕ). record r { no_media_numbers = ns }) (sym none)

-- a built-in depacketizer stays built in
pop_stays : (s t : State) (answer : Answer) → is_built_in_depacketizer s.depacketizer ≡ true → answer ≢ Some (Err faults.OutOfMemory) → Pops s answer t → is_built_in_depacketizer t.depacketizer ≡ true
pop_stays s t answer of_codec not_memory pops =
    let c : State → RunState = λ (x : State). run_state (record { packetizer = NullPacketizing; clock_rate = 0 }) x (record { first = 0; packets = [] }) in
    (pop_exactly [] 0 (c s) (c t) [] (answer ∷ []) refl of_codec (refl, answer, t, refl, not_memory, pops, refl)).1

-- a pop of the receiver is one of its buffer
pub record IsPopped (again : Option RetransmissionStream) (stream : Outgoing) (now : Ticks) (answer : Answer) (s t : Session) : Type 0 where
  pub wait : Option ℕ
  pub at_end : s.packets.ended ≡ true → wait ≡ Some 0
  pub pops : PopsWaiting wait s.packets.buffer answer t.packets.buffer
  pub noted : t.packets.noted ≡ s.packets.noted
  pub first : t.packets.first ≡ s.packets.first
  pub numbering : t.packets.numbering ≡ s.packets.numbering
  pub listening : IsListening again stream t
  pub kinds : t.stream ≡ s.stream
  pub limits : KeepsLimits s.packets t.packets
  pub wait_is : wait ≡ waiting_at s.packets now.0
  pub ended : t.packets.ended ≡ s.packets.ended

-- which parts of the jitter buffer a pop leaves unchanged, and what it does to the buffer
pub record IsTurn (wait : Option ℕ) (r : Receiving) (answer : Answer) (t : Receiving) : Type 0 where
  pub pops : PopsWaiting wait r.buffer answer t.buffer
  pub of_codec : is_built_in_depacketizer t.buffer.depacketizer ≡ true
  pub no_media_numbers : t.no_media_numbers ≡ r.no_media_numbers
  pub rate : t.rate ≡ r.rate
  pub noted : t.noted ≡ r.noted
  pub first : t.first ≡ r.first
  pub numbering : t.numbering ≡ r.numbering
  pub is_restarting : t.is_restarting ≡ r.is_restarting
  pub limits : KeepsLimits r t
  pub ended : t.ended ≡ r.ended
  pub kept : t.kept ≡ r.kept

pub turn_of : (wait : Option ℕ) (r : Receiving) (answer : Answer) (t : Receiving) → is_built_in_depacketizer r.buffer.depacketizer ≡ true → answer ≢ Some (Err faults.OutOfMemory)
    → PopsWith wait r answer t → IsTurn wait r answer t
turn_of None r answer t of_codec not_memory pops = record {
  pops = (pops.0, ap (λ (x : Receiving). x.buffer) pops.1);
  of_codec = ap (λ (x : Receiving). is_built_in_depacketizer x.buffer.depacketizer) pops.1 ∙ of_codec;
  no_media_numbers = ap (λ (x : Receiving). x.no_media_numbers) pops.1;
  rate = ap (λ (x : Receiving). x.rate) pops.1;
  noted = ap (λ (x : Receiving). x.noted) pops.1;
  first = ap (λ (x : Receiving). x.first) pops.1;
  numbering = ap (λ (x : Receiving). x.numbering) pops.1;
  is_restarting = ap (λ (x : Receiving). x.is_restarting) pops.1;
  limits = record { wait_limits = ap (λ (x : Receiving). x.wait_limits) pops.1; room = ap (λ (x : Receiving). x.room) pops.1 };
  ended = ap (λ (x : Receiving). x.ended) pops.1;
  kept = ap (λ (x : Receiving). x.kept) pops.1;
}
turn_of (Some h) r answer t of_codec not_memory pops = record {
  pops = (not_memory, subst (λ (s : State). Pops (record r.buffer { hold_back = h }) answer s) (sym (ap (λ (x : Receiving). x.buffer) pops.2)) pops.1);
  of_codec = ap (λ (x : Receiving). is_built_in_depacketizer x.buffer.depacketizer) pops.2 ∙ pop_stays (record r.buffer { hold_back = h }) pops.0 answer of_codec not_memory pops.1;
  no_media_numbers = ap (λ (x : Receiving). x.no_media_numbers) pops.2;
  rate = ap (λ (x : Receiving). x.rate) pops.2;
  noted = ap (λ (x : Receiving). x.noted) pops.2;
  first = ap (λ (x : Receiving). x.first) pops.2;
  numbering = ap (λ (x : Receiving). x.numbering) pops.2;
  is_restarting = ap (λ (x : Receiving). x.is_restarting) pops.2;
  limits = record { wait_limits = ap (λ (x : Receiving). x.wait_limits) pops.2; room = ap (λ (x : Receiving). x.room) pops.2 };
  ended = ap (λ (x : Receiving). x.ended) pops.2;
  kept = ap (λ (x : Receiving). x.kept) pops.2;
}

-- after the end of the stream pops wait for nothing
pub waits_for_nothing : (r : Receiving) (now : ℕ) → r.ended ≡ true → waiting_at r now ≡ Some 0
waits_for_nothing r now at_end =
    ap (λ (b : Bool). cond b (Some 0) (cond (is_starting r) None (Some (most_held_back r.wait_limits.hold_back)))) (or_left r.ended _ at_end)

pub pops_as : (again : Option RetransmissionStream) (stream : Outgoing) (now : Ticks) (answer : Answer) (s t : Session) → IsListening again stream s → answer ≢ Some (Err faults.OutOfMemory)
    → PopsUnit now s answer t → IsPopped again stream now answer s t
pops_as again stream now answer s t listening not_memory gated =
    let popped : PopsOnce now.0 s answer t = pops_at_once now.0 s answer t listening.drops_none gated in
    let r : Receiving = s.packets in
    let settled_is : settled r ≡ r = settled_none r listening.none_noted in
    let wait : Option ℕ = waiting_at r now.0 in
    let pops : PopsWith wait r answer popped.packets = subst (λ (x : Receiving). PopsWith (waiting_at x now.0) x answer popped.packets) settled_is popped.pops in
    let turn = turn_of wait r answer popped.packets listening.of_codec not_memory pops in
    let packets : t.packets ≡ popped.packets = ap (λ (x : Session). x.packets) popped.left in
    record {
      wait = wait;
      at_end = waits_for_nothing r now.0;
      pops = subst (λ (x : Receiving). PopsWaiting wait r.buffer answer x.buffer) (sym packets) turn.pops;
      noted = ap (λ (x : Receiving). x.noted) packets ∙ turn.noted;
      first = ap (λ (x : Receiving). x.first) packets ∙ turn.first;
      numbering = ap (λ (x : Receiving). x.numbering) packets ∙ turn.numbering;
      listening = record {
        payload_type = ap (λ (x : Session). x.stream.payload_type) popped.left ∙ listening.payload_type;
        named = ap (λ (x : Session). x.named) popped.left ∙ listening.named;
        ssrc = ap (λ (x : Session). x.ssrc) popped.left ∙ listening.ssrc;
        not_again = ap (λ (x : Session). is_sent_again_by x.stream.retransmission stream) popped.left ∙ listening.not_again;
        rate = ap (λ (x : Receiving). x.rate) packets ∙ (turn.rate ∙ listening.rate);
        running = ap (λ (x : Receiving). x.is_restarting) packets ∙ (turn.is_restarting ∙ listening.running);
        none_noted = ap (λ (x : Receiving). x.no_media_numbers) packets ∙ (turn.no_media_numbers ∙ listening.none_noted);
        of_codec = ap (λ (x : Receiving). is_built_in_depacketizer x.buffer.depacketizer) packets ∙ turn.of_codec;
        no_block_seen = subst HasNoBlock (sym (ap (λ (x : Session). x.seen) popped.left)) listening.no_block_seen;
        drops_none = ap (λ (x : Session). x.gates.drops) popped.left ∙ (drops_stay _ s.gates _ answer popped.references ∙ listening.drops_none);
        heard = subst (λ (x : Session). AreHeard again x.stream.retransmission) (sym popped.left) listening.heard;
      };
      kinds = ap (λ (x : Session). x.stream) popped.left;
      limits = record { wait_limits = ap (λ (x : Receiving). x.wait_limits) packets ∙ turn.limits.wait_limits; room = ap (λ (x : Receiving). x.room) packets ∙ turn.limits.room };
      wait_is = refl;
      ended = ap (λ (x : Receiving). x.ended) packets ∙ turn.ended;
    }
