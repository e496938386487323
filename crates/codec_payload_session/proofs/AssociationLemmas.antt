-- Retransmissions whose SSRC is in no pair.
use Rattle.std.proofs.Common.{◌≡◌, inl, inr, ◌∙◌, ℕ, List, [], ◌∷◌, Bool, true, false, if◌then◌else◌, Option, Some, None, Result, Ok, Err, IsErr, OnErr, OnOk, ap, refl, sym, subst}
use Rattle.std.specs.Global.{Vec}
use Rattle.std.specs.declared.alloc.AllocError.{AllocError}
use Rattle.codec_payload_base.specs.declared.wire.Ticks.{Ticks}
use Rattle.codec_payload_rtp.specs.RtpPackets.{Packet, is_rtcp}
use Rattle.codec_payload_rtp.specs.RtpReading.{rtp_at}
use Rattle.codec_payload_rtp.specs.declared.rtp.RtpError.{RtpError}
use Rattle.codec_payload_rtcp.specs.RtcpReading.{compound_at}
use Rattle.codec_payload_session.specs.Arrivals.{Port, TakesIn, TakesInAs}
use Rattle.codec_payload_session.specs.Associations.{AddsPair, AssociatesBy, TakesInBy, TakesInPaired, is_unassociated, only_ssrc, pair_at, pair_of, unpaired_at, unpaired_by, unpaired_rtp}
use Rattle.codec_payload_session_formats.specs.Formats.{role_of, stream_of}
use Rattle.codec_payload_session.specs.Pairs.{Pairs}
use Rattle.codec_payload_session_stream.specs.Pairs.{with_pair}
use Rattle.codec_payload_session.specs.Ports.{IsPort, Session, counted_if}
use Rattle.codec_payload_session_requests.specs.Requests.{original_number}
use Rattle.codec_payload_session_formats.specs.Sorting.{Sorted, sorted_at, sorted_by, sorted_retransmission, sorted_rtcp, sorted_rtp}
use Rattle.codec_payload_session_stream.specs.Telephone.{Queue, QueuesIf, is_without_media, telephone_at, telephone_of}
use Rattle.codec_payload_session.specs.declared.association.Unpaired.{Unpaired}
use Rattle.codec_payload_session_formats.specs.declared.formats.Role.{Role}
use Rattle.codec_payload_session_formats.specs.declared.formats.Role.TheVariants as roles
use Rattle.codec_payload_session_formats.specs.declared.formats.SessionSettings.{SessionSettings}
use Rattle.codec_payload_session_formats.specs.declared.formats.SsrcPair.{SsrcPair}
use Rattle.codec_payload_session_stream.specs.declared.arrival.Arrival.{Arrival}
use Rattle.codec_payload_session_stream.specs.declared.arrival.Arrival.TheVariants as arrivals
use Rattle.codec_payload_session.specs.declared.session.ArrivalCounts.{ArrivalCounts}
use Rattle.codec_payload_session_formats.specs.Sorting as sorted
use Rattle.codec_payload_session_stream.specs.declared.stream.StreamState.{StreamState}
use Rattle.codec_payload_session.proofs.AccountLemmas.{takes_in_keeps}
use Rattle.codec_payload_session.proofs.PairLemmas.{paired_keeps}

-- ---- the only stream that fits

-- the answer, if that one was found in front of the list
abbrev pub owner_after : Option ℕ → List StreamState → Option ℕ
owner_after None ss = only_ssrc ss
owner_after (Some n) [] = Some n
owner_after (Some n) (s ∷ ss) = None

-- ---- such a retransmission is for no stream without the pair

sorted_by_role : (role : Role) (stream number : Option ℕ) (p : Packet) (s : SessionSettings) (u : Unpaired) → stream_of p.header.ssrc s.pairs.items ≡ stream
    → unpaired_by role stream number p ≡ Some u → sorted_by role s p.header.ssrc ≡ sorted.Unassociated
sorted_by_role (roles.Retransmission f) None number p s u is got = ap (λ (o : Option ℕ). sorted_retransmission o f.payload_type) is
sorted_by_role (roles.Retransmission f) (Some ssrc) number p s u is got = absurd (cc)
sorted_by_role (roles.Media f) stream number p s u is got = absurd (cc)
sorted_by_role roles.NoMedia stream number p s u is got = absurd (cc)
sorted_by_role roles.Unknown stream number p s u is got = absurd (cc)

sorted_unpaired : (s : SessionSettings) (bytes : List ℕ) (u : Unpaired) → unpaired_at s bytes ≡ Some u → sorted_at s bytes ≡ sorted.Unassociated
sorted_unpaired s bytes u got = by_kind (is_rtcp bytes) (rtp_at bytes) got
  where
    by_kind : (b : Bool) (r : Result Packet RtpError) → (if b then None else unpaired_rtp s r) ≡ Some u
        → (if b then sorted_rtcp (compound_at false bytes) else sorted_rtp s r) ≡ sorted.Unassociated
    by_kind true r is = absurd (cc)
    by_kind false (Ok p) is = sorted_by_role (role_of s p.header.payload_type) (stream_of p.header.ssrc s.pairs.items) (original_number p.payload) p s u refl is
    by_kind false (Err e) is = absurd (cc)

-- so the streams take no part in it
unpaired_stays : (s : SessionSettings) (now : Ticks) (bytes : List ℕ) (p : Port) (answer : Result Arrival AllocError) (q : Port) (u : Unpaired)
    → TakesIn s now bytes p answer q → unpaired_at s bytes ≡ Some u → (answer ≡ Ok arrivals.Unassociated) × (q ≡ p)
unpaired_stays s now bytes p answer q u got is = subst (λ (d : Sorted). TakesInAs d s now bytes p answer q) (sorted_unpaired s bytes u is) got

-- a datagram with another answer needs no pair
pub no_pair : (s : SessionSettings) (now : Ticks) (bytes : List ℕ) (p : Port) (answer : Result Arrival AllocError) (q : Port) (n : ℕ) (ss : List StreamState)
    → TakesIn s now bytes p answer q → is_unassociated answer ≡ false → pair_at s n bytes ss ≡ None
no_pair s now bytes p answer q n ss got is = by_kind (unpaired_at s bytes) refl
  where
    by_kind : (o : Option Unpaired) → unpaired_at s bytes ≡ o → pair_of o s.pairs.items n ss ≡ None
    by_kind None at = refl
    by_kind (Some u) at =
        let told : is_unassociated answer ≡ true = ap is_unassociated (unpaired_stays s now bytes p answer q u got at).0 in
        absurd (cc)

-- ---- the session

-- a pair is no payload type of telephone events
telephone_same : (s : SessionSettings) (named : Vec SsrcPair) (bytes : List ℕ) → telephone_at s bytes ≡ telephone_at (record s { pairs = named }) bytes
telephone_same s named bytes = by_kind (is_rtcp bytes) (rtp_at bytes)
  where
    by_kind : (b : Bool) (r : Result Packet RtpError) → (if b then None else telephone_of s r) ≡ (if b then None else telephone_of (record s { pairs = named }) r)
    by_kind true r = refl
    by_kind false (Ok p) = refl
    by_kind false (Err e) = refl

-- the session after the datagram
abbrev after_all : Session → SessionSettings → Port → Queue → Result Arrival AllocError → Session
after_all s settings port telephone answer = record { settings = settings; port = port; counts = counted_if answer s.counts; telephone = telephone; report_due = s.report_due; transport = s.transport }

pairs_of : (pair : SsrcPair) (s : Session) (t : SessionSettings) (q : Port) → AddsPair pair s.settings s.port t q
    → Pairs pair.ssrc (with_pair pair s.settings.pairs.items) s (record s { settings = t; port = q })
pairs_of pair s t q got = record {
  named = got.named;
  has = got.has;
  left = ap (λ (x : SessionSettings). record s { settings = x; port = q }) got.settings ∙ ap (λ (x : Port). record s { settings = record s.settings { pairs = got.named }; port = x }) got.streams;
}

-- a call of `add_pair`, which memory may run out for
pub named_pair : (r : Result (Unit {0}) AllocError) (pair : SsrcPair) (s : Session) (t : SessionSettings) (q : Port) → OnOk r (AddsPair pair s.settings s.port t q)
    → OnOk r (Pairs pair.ssrc (with_pair pair s.settings.pairs.items) s (record s { settings = t; port = q }))
named_pair (Ok done) pair s t q got = pairs_of pair s t q got
named_pair (Err e) pair s t q got = got

paired_session : (pair : SsrcPair) (now : Ticks) (bytes : List ℕ) (s : Session) (answer : Result Arrival AllocError) (settings : SessionSettings) (port : Port) (telephone : Queue)
    → TakesInPaired pair now bytes s.settings s.port answer settings port → QueuesIf (is_without_media answer) (telephone_at s.settings bytes) s.telephone telephone
    → AssociatesBy (Some pair) now bytes s answer (after_all s settings port telephone answer)
paired_session pair now bytes s answer settings port telephone got queues =
    let paired : Session = record s { settings = settings; port = got.paired } in
    let same : telephone_at s.settings bytes ≡ telephone_at settings bytes =
    telephone_same s.settings got.adds.named bytes ∙ ap (λ (x : SessionSettings). telephone_at x bytes) (sym got.adds.settings) in
    inl (
      paired,
      pairs_of pair s settings got.paired got.adds,
      inl (record {
        port = port;
        telephone = telephone;
        takes = got.takes;
        queues = subst (λ (o : Option Packet). QueuesIf (is_without_media answer) o s.telephone telephone) same queues;
        left = refl;
      }),
    )

-- without memory for the pair nothing waits
queue_stays : (answer : Result Arrival AllocError) (o : Option Packet) (q r : Queue) → IsErr answer → QueuesIf (is_without_media answer) o q r → r ≡ q
queue_stays (Ok arrival) o q r fails got = absurd (cc)
queue_stays (Err e) None q r fails got = got
queue_stays (Err e) (Some p) q r fails got = got

count_stays : (answer : Result Arrival AllocError) (c : ArrivalCounts) → IsErr answer → counted_if answer c ≡ c
count_stays (Ok arrival) c fails = absurd (cc)
count_stays (Err e) c fails = refl

pub associates : (o : Option SsrcPair) (now : Ticks) (bytes : List ℕ) (s : Session) (answer : Result Arrival AllocError) (settings : SessionSettings) (port : Port) (telephone : Queue)
    → TakesInBy o now bytes s.settings s.port answer settings port → QueuesIf (is_without_media answer) (telephone_at s.settings bytes) s.telephone telephone
    → AssociatesBy o now bytes s answer (after_all s settings port telephone answer)
associates None now bytes s answer settings port telephone got queues =
    inl (record {
      port = port;
      telephone = telephone;
      takes = got.0;
      queues = queues;
      left = ap (λ (x : SessionSettings). after_all s x port telephone answer) got.1;
    })
associates (Some pair) now bytes s answer settings port telephone (inl got) queues = paired_session pair now bytes s answer settings port telephone got queues
associates (Some pair) now bytes s answer settings port telephone (inr got) queues =
    inr (
      got.0,
      ap (λ (x : SessionSettings). after_all s x port telephone answer) got.1
          ∙ ap (λ (x : Port). after_all s s.settings x telephone answer) got.2
          ∙ ap (λ (x : Queue). after_all s s.settings s.port x answer) (queue_stays answer (telephone_at s.settings bytes) s.telephone telephone got.0 queues)
          ∙ ap (λ (c : ArrivalCounts). record s { counts = c }) (count_stays answer s.counts got.0),
    )

-- ---- every datagram stays accounted for

adds_keeps : (pair : SsrcPair) (s : SessionSettings) (p : Port) (t : SessionSettings) (q : Port) (c : ArrivalCounts) → AddsPair pair s p t q → IsPort s p c → IsPort t q c
adds_keeps pair s p t q c got kept =
    subst (λ (x : Port). IsPort t x c) (sym got.streams)
    (paired_keeps s t c pair.ssrc (with_pair pair s.pairs.items) p (ap (λ (x : SessionSettings). x.max_streams) got.settings) kept)

pub adds_or_stays : (r : Result (Unit {0}) AllocError) (pair : SsrcPair) (s : SessionSettings) (p : Port) (t : SessionSettings) (q : Port) (c : ArrivalCounts) → OnOk r (AddsPair pair s p t q)
    → OnErr r (t ≡ s) → OnErr r (q ≡ p) → IsPort s p c → IsPort t q c
adds_or_stays (Ok done) pair s p t q c got same still kept = adds_keeps pair s p t q c got kept
adds_or_stays (Err e) pair s p t q c got same still kept = subst (λ (x : SessionSettings). IsPort x q c) (sym same) (subst (λ (x : Port). IsPort s x c) (sym still) kept)

pub takes_in_by_keeps : (o : Option SsrcPair) (now : Ticks) (bytes : List ℕ) (s : SessionSettings) (p : Port) (answer : Result Arrival AllocError) (t : SessionSettings) (q : Port) (c : ArrivalCounts)
    → TakesInBy o now bytes s p answer t q → IsPort s p c → IsPort t q (counted_if answer c)
takes_in_by_keeps None now bytes s p answer t q c got kept =
    subst (λ (x : SessionSettings). IsPort x q (counted_if answer c)) (sym got.1) (takes_in_keeps s now bytes c p q answer got.0 kept)
takes_in_by_keeps (Some pair) now bytes s p answer t q c (inl got) kept =
    takes_in_keeps t now bytes c got.paired q answer got.takes (adds_keeps pair s p t got.paired c got.adds kept)
takes_in_by_keeps (Some pair) now bytes s p answer t q c (inr got) kept =
    subst (λ (x : SessionSettings). IsPort x q (counted_if answer c)) (sym got.1)
    (subst (λ (x : Port). IsPort s x (counted_if answer c)) (sym got.2) (subst (λ (x : ArrivalCounts). IsPort s p x) (sym (count_stays answer c got.0)) kept))
