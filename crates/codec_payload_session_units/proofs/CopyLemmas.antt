-- A copy of a datagram of its sender, as the receiver of a stream takes it.
use Rattle.std.proofs.Common.{◌≡◌, ◌≢◌, ◌∙◌, refl, sym, ap, ap₂, subst, ℕ, ◌%◌, ◌^◌, ◌<◌, ◌⊎◌, inl, inr, ◌&&◌, ◌||◌, List, ◌++◌, Bool, true, false, eqb, not, cond, Option, Some, None, Result, Ok, Err}
use Rattle.std.specs.Int.{w16, to_be_bytes}
use Rattle.std.proofs.lemmas.Bool.{ne_eqb}
use Rattle.std.proofs.lemmas.Bool.Decides.{eqb_tells}
use Rattle.codec_payload_base.specs.declared.wire.Ticks.{Ticks}
use Rattle.codec_payload_datagrams.specs.Choice.{is_silent, origin_of, verdict_of}
use Rattle.codec_payload_datagrams.specs.Kinds.{Datagram, Kinds, OfOthers, again_kind, datagram_at, first_kind, is_other, is_sent_again, kind_beside, kind_for, media_kind, own_kind, red_again_of, red_of}
use Rattle.codec_payload_datagrams.specs.declared.kinds.RedStream.{RedStream}
use Rattle.codec_payload_datagrams.specs.declared.kinds.Retransmission.{Retransmission}
use Rattle.codec_payload_datagram_runs.proofs.ReadingLemmas.{header_again, is_no_rtcp, packet_at}
use Rattle.codec_payload_datagram_runs.proofs.ReceivingLemmas.{IsListening, IsPushed, heard, heard_at_once, pushes_copy}
use Rattle.codec_payload_datagram_runs.specs.HistoryReleases.{AreHeard}
use Rattle.codec_payload_datagram_runs.specs.Releases.{ReadsAs, is_sent_again_by}
use Rattle.codec_payload_datagram_runs.specs.WireRuns.{Delivers}
use Rattle.codec_payload_jitter.specs.declared.outcome.Outcome.{Outcome}
use Rattle.codec_payload_jitter.specs.declared.outcome.Outcome.TheVariants as outcomes
use Rattle.codec_payload_numbers.specs.NotedTimes.{AreTimesOf, is_untimely}
use Rattle.codec_payload_numbers.specs.Numbers.{answer_for}
use Rattle.codec_payload_numbers.specs.declared.numbers.Extended.TheVariants as extended
use Rattle.codec_payload_payloader.specs.Packets.{Packet}
use Rattle.codec_payload_receiver.proofs.BlockTimeLemmas.{and_false}
use Rattle.codec_payload_receiver.specs.Sessions.{Heard, Hears, ReceivesBy, ReceivesBytes, Session as Receiver, is_none_of, is_open}
use Rattle.codec_payload_receiver.specs.declared.receiver.ReceiveError.{ReceiveError}
use Rattle.codec_payload_receiver.specs.declared.receiver.ReceiveError.TheVariants as errors
use Rattle.codec_payload_red.specs.RedRecovery.{Receiver as RedReceiver}
use Rattle.codec_payload_rtp.proofs.RtpFields.{ok_is}
use Rattle.codec_payload_rtp.specs.RtpPackets.{Header, is_rtcp}
use Rattle.codec_payload_rtp.specs.RtpPackets as rtp
use Rattle.codec_payload_rtp.specs.RtpReading.{rtp_at}
use Rattle.codec_payload_sending.specs.declared.sender.Outgoing.{Outgoing}
use Rattle.codec_payload_sending_history.specs.Histories.{IsRetransmission}
use Rattle.codec_payload_sending_history.specs.declared.retransmission.RetransmissionStream.{RetransmissionStream}
use Rattle.codec_payload_session_stream.specs.Streams.{is_no_memory}
use Rattle.codec_payload_session_units.specs.OneSender.{AreApartFrom, IsCopyOf, is_of_others}

-- ---- the receiver of a stream

-- retransmissions have the payload type that the format has for them
abbrev pub HasType : Option ℕ → Option Retransmission → Type 0
HasType own None = Unit {0}
HasType own (Some r) = own ≡ Some r.payload_type

-- a receiver of the sender's stream, without RED. Which retransmissions it knows may change
pub record IsStream (own : Option ℕ) (stream : Outgoing) (s : Receiver) : Type 0 where
  pub listening : IsListening None stream s
  pub no_red : s.stream.red ≡ None
  pub typed : HasType own s.stream.retransmission

-- no packet of the sender is one of them
pub not_again_by : (own : Option ℕ) (stream : Outgoing) (r : Option Retransmission) → own ≢ Some stream.payload_type → HasType own r → is_sent_again_by r stream ≡ false
not_again_by own stream None other typed = refl
not_again_by own stream (Some r) other typed =
    ap (λ (b : Bool). eqb r.ssrc stream.ssrc && b) (ne_eqb r.payload_type stream.payload_type (λ e. other (typed ∙ ap (λ (n : ℕ). Some n) e))) ∙ and_false (eqb r.ssrc stream.ssrc)

less_heard : (again : Option RetransmissionStream) (stream : Outgoing) (s : Receiver) → IsListening again stream s → IsListening None stream s
less_heard again stream s listening = record {
  payload_type = listening.payload_type;
  named = listening.named;
  ssrc = listening.ssrc;
  not_again = listening.not_again;
  rate = listening.rate;
  running = listening.running;
  none_noted = listening.none_noted;
  of_codec = listening.of_codec;
  no_block_seen = listening.no_block_seen;
  drops_none = listening.drops_none;
  heard = tt;
}

more_heard : (again : Option RetransmissionStream) (stream : Outgoing) (s : Receiver) → IsListening None stream s → AreHeard again s.stream.retransmission → IsListening again stream s
more_heard again stream s listening hears = record {
  payload_type = listening.payload_type;
  named = listening.named;
  ssrc = listening.ssrc;
  not_again = listening.not_again;
  rate = listening.rate;
  running = listening.running;
  none_noted = listening.none_noted;
  of_codec = listening.of_codec;
  no_block_seen = listening.no_block_seen;
  drops_none = listening.drops_none;
  heard = hears;
}

pushed_less : (again : Option RetransmissionStream) (time_of : ℕ → ℕ) (stream : Outgoing) (now : Ticks) (q : Packet) (s t : Receiver)
    → IsPushed again time_of stream now q s t → IsPushed None time_of stream now q s t
pushed_less again time_of stream now q s t one = record {
  times = one.times;
  meta = one.meta;
  tells = one.tells;
  values = one.values;
  received = one.received;
  buffer = one.buffer;
  numbering = one.numbering;
  first = one.first;
  listening = less_heard again stream t one.listening;
  kinds = one.kinds;
  limits = one.limits;
  ended = one.ended;
}

-- ---- retransmissions that are known, or of others

beside_none : (r : Option Retransmission) (h : Header) → red_again_of r None h ≡ None
beside_none None h = refl
beside_none (Some r) h = refl

either_way : (b : Bool) (x y : Datagram) → x ≡ OfOthers → y ≡ OfOthers → cond b x y ≡ OfOthers
either_way true x y one two = one
either_way false x y one two = two

-- a packet of another SSRC that is no known retransmission is of others
of_others : (kinds : Kinds) (ssrc : ℕ) (p : rtp.Packet) → is_sent_again kinds.retransmission p.header ≡ false → kinds.red ≡ None → is_other (Some ssrc) p.header.ssrc ≡ true
    → kind_for kinds (Some ssrc) p ≡ OfOthers
of_others kinds ssrc p sent none other =
    let same : Bool = eqb p.header.payload_type kinds.payload_type in
    let first : first_kind kinds (Some ssrc) p ≡ OfOthers =
    ap (λ (b : Bool). cond b OfOthers (cond same (media_kind p) (own_kind kinds (red_of kinds.red p.header.payload_type) p))) other in
    let beside : kind_beside kinds (Some ssrc) (red_again_of kinds.retransmission kinds.red p.header) p ≡ OfOthers =
    ap (λ (o : Option RedStream). kind_beside kinds (Some ssrc) (red_again_of kinds.retransmission o p.header) p) none
    ∙ (ap (λ (o : Option RedReceiver). kind_beside kinds (Some ssrc) o p) (beside_none kinds.retransmission p.header) ∙ first) in
    ap (λ (b : Bool). cond b (again_kind (Some ssrc) p) (cond same (first_kind kinds (Some ssrc) p) (kind_beside kinds (Some ssrc) (red_again_of kinds.retransmission kinds.red p.header) p))) sent
    ∙ either_way same (first_kind kinds (Some ssrc) p) (kind_beside kinds (Some ssrc) (red_again_of kinds.retransmission kinds.red p.header) p) first beside

abbrev known_as : RetransmissionStream → Option Retransmission
known_as again = Some (record { ssrc = again.ssrc; payload_type = again.payload_type })

known_or_not : (o : Option Retransmission) (again : RetransmissionStream) (next : ℕ) (stream : Outgoing) (q : Packet)
    → (is_sent_again o (header_again again next stream q) ≡ false) ⊎ (o ≡ known_as again)
known_or_not None again next stream q = inl refl
known_or_not (Some r) again next stream q = elim (eqb_tells r.ssrc again.ssrc) [
  | inr other ↦ inl (ap (λ (b : Bool). b && eqb r.payload_type again.payload_type) other.0)
  | inl same ↦ elim (eqb_tells r.payload_type again.payload_type) [
    | inr other ↦ inl (ap (λ (b : Bool). eqb r.ssrc again.ssrc && b) other.0 ∙ and_false (eqb r.ssrc again.ssrc))
    | inl type ↦ inr (ap₂ (λ (a b : ℕ). Some (record { ssrc = a; payload_type = b })) same.1 type.1)
  ]
]

other_ssrc : (ssrc other : ℕ) → other ≢ ssrc → is_other (Some ssrc) other ≡ true
other_ssrc ssrc other differs = ap not (ne_eqb ssrc other (λ e. differs (sym e)))

again_reads : (again : RetransmissionStream) (next : ℕ) (stream : Outgoing) (q : Packet) (datagram bytes : List ℕ) → ReadsAs stream q datagram → IsRetransmission again next datagram bytes
    → rtp_at bytes ≡ Ok (record { header = header_again again next stream q; payload = to_be_bytes w16 (q.number % 2 ^ 16) ++ q.payload; padding = 0 })
again_reads again next stream q datagram bytes reads is =
    let same : packet_at stream q ≡ is.original = ok_is (packet_at stream q) is.original (sym reads ∙ is.was) in
    subst (λ (p : rtp.Packet). rtp_at bytes ≡ Ok (record {
      header = record p.header { payload_type = again.payload_type; sequence_number = next; ssrc = again.ssrc };
      payload = to_be_bytes w16 p.header.sequence_number ++ p.payload;
      padding = 0;
    })) (sym same) is.reads

-- a retransmission that the receiver does not know is of others
others_or_known : (kinds : Kinds) (again : RetransmissionStream) (next : ℕ) (stream : Outgoing) (q : Packet) (datagram bytes : List ℕ) → AreApartFrom stream.ssrc (Some again) → kinds.red ≡ None
    → ReadsAs stream q datagram → IsRetransmission again next datagram bytes → (datagram_at kinds (Some stream.ssrc) bytes ≡ OfOthers) ⊎ (kinds.retransmission ≡ known_as again)
others_or_known kinds again next stream q datagram bytes apart none reads is =
    let there = again_reads again next stream q datagram bytes reads is in
    let no_rtcp : is_rtcp bytes ≡ false = is_no_rtcp bytes _ there apart.1 in
    elim (known_or_not kinds.retransmission again next stream q) [
      | inr known ↦ inr known
      | inl not_known ↦
          let others = of_others kinds stream.ssrc (record { header = header_again again next stream q; payload = to_be_bytes w16 (q.number % 2 ^ 16) ++ q.payload; padding = 0 })
          not_known none (other_ssrc stream.ssrc again.ssrc apart.0) in
          let all : datagram_at kinds (Some stream.ssrc) bytes ≡ OfOthers = rw (no_rtcp, there) others in
          inl all
    ]

-- so the receiver knows one that it does not say to be of others
known_here : (again : RetransmissionStream) (next : ℕ) (stream : Outgoing) (now : Ticks) (q : Packet) (datagram bytes : List ℕ) (answer : Result Outcome ReceiveError) (s t : Receiver)
    → AreApartFrom stream.ssrc (Some again) → IsListening None stream s → s.stream.red ≡ None → ReadsAs stream q datagram → IsRetransmission again next datagram bytes
    → is_of_others answer ≡ false → Delivers now bytes s answer t → s.stream.retransmission ≡ known_as again
known_here again next stream now q datagram bytes answer s t apart listening none reads is own delivers =
    elim (others_or_known s.stream again next stream q datagram bytes apart none reads is) [
      | inr known ↦ known
      | inl others ↦
          let at : datagram_at s.stream s.ssrc bytes ≡ OfOthers = ap (λ (o : Option ℕ). datagram_at s.stream o bytes) listening.ssrc ∙ others in
          let hears : Hears now OfOthers s answer t =
          subst (λ (d : Datagram). Hears now d s answer t) at
          (heard now (datagram_at s.stream s.ssrc bytes) s t answer delivers.0 (heard_at_once stream.ssrc now bytes s t answer listening.named delivers)) in
          let told : answer ≡ Ok outcomes.OtherStream = hears.answers ∙ ap (λ (x : Outcome). Ok x) hears.takes.0 in
          let wrong : true ≡ false = sym (ap is_of_others told) ∙ own in
          absurd (cc)
    ]

-- ---- a copy is pushed

pub copy_is_pushed : (own : Option ℕ) (again : Option RetransmissionStream) (time_of : ℕ → ℕ) (stream : Outgoing) (now : Ticks) (q : Packet) (datagram bytes : List ℕ) (answer : Result Outcome ReceiveError) (s t : Receiver)
    → (stream.payload_type < 64) ⊎ (95 < stream.payload_type) → AreApartFrom stream.ssrc again → IsStream own stream s → ReadsAs stream q datagram → IsCopyOf again datagram bytes answer
    → answer_for s.packets.numbering (q.number % 2 ^ 16) ≡ extended.Number q.number → AreTimesOf time_of s.packets.noted → q.rtp_time ≡ time_of q.number
    → is_untimely s.packets.rate s.packets.first (record { number = q.number; time = q.rtp_time }) ≡ false → Delivers now bytes s answer t → IsPushed None time_of stream now q s t
copy_is_pushed own again time_of stream now q datagram bytes answer s t types apart is reads (inl same) numbered times time timely delivers =
    pushes_copy None time_of stream now q datagram bytes s t answer types is.listening reads (inl same) numbered times time timely delivers
copy_is_pushed own None time_of stream now q datagram bytes answer s t types apart is reads (inr repeated) numbered times time timely delivers =
    pushes_copy None time_of stream now q datagram bytes s t answer types is.listening reads (inl repeated.1) numbered times time timely delivers
copy_is_pushed own (Some again) time_of stream now q datagram bytes answer s t types apart is reads (inr repeated) numbered times time timely delivers =
    let known = known_here again repeated.0 stream now q datagram bytes answer s t apart is.listening is.no_red reads repeated.1 repeated.2 delivers in
    let listening : IsListening (Some again) stream s = more_heard (Some again) stream s is.listening (known, apart.1) in
    pushed_less (Some again) time_of stream now q s t
    (pushes_copy (Some again) time_of stream now q datagram bytes s t answer types listening reads (inr (repeated.0, repeated.1)) numbered times time timely delivers)

-- ---- a datagram for which memory ran out

second : {X : Type 0} (P : X → Type 0) (b : Bool) (x y : X) → b ≡ false → P (cond b x y) → P y
second P b x y taken known = subst (λ (c : Bool). P (cond c x y)) taken known

-- it leaves the receiver as it was
pub lost_leaves : (ssrc : ℕ) (now : Ticks) (bytes : List ℕ) (answer : Result Outcome ReceiveError) (s t : Receiver) → s.named ≡ Some ssrc → is_no_memory answer ≡ true
    → ReceivesBytes now bytes s answer t → t ≡ s
lost_leaves ssrc now bytes (Ok outcome) s t named lost receives = absurd (cc)
lost_leaves ssrc now bytes (Err (errors.Rtp e)) s t named lost receives = absurd (cc)
lost_leaves ssrc now bytes (Err errors.Red) s t named lost receives = absurd (cc)
lost_leaves ssrc now bytes (Err errors.Retransmission) s t named lost receives = absurd (cc)
lost_leaves ssrc now bytes (Err errors.BlocksOutOfMemory) s t named lost receives = absurd (cc)
lost_leaves ssrc now bytes (Err errors.OutOfMemory) s t named lost (inr got) = got.1
lost_leaves ssrc now bytes (Err errors.OutOfMemory) s t named lost (inl by) =
    let closed : is_open s now.0 ≡ false = ap (λ (o : Option ℕ). is_none_of o && not s.packets.ended && (is_none_of s.ssrc || is_silent s.choice now.0)) named in
    let told : Heard now (datagram_at s.stream s.ssrc bytes) s (Err errors.OutOfMemory) t =
    second (λ v. ReceivesBy v now bytes s (Err errors.OutOfMemory) t) (is_open s now.0) (verdict_of s.choice.candidates s.ssrc (origin_of (datagram_at s.stream None bytes))) _ closed by in
    told.0

-- the answer to any other is not that
pub found_memory : (answer : Result Outcome ReceiveError) → is_no_memory answer ≡ false → answer ≢ Err errors.OutOfMemory
found_memory answer found e =
    let wrong : true ≡ false = sym (ap is_no_memory e) ∙ found in
    absurd (cc)
