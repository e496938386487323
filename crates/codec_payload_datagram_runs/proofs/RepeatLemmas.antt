-- A run with a history is a run without one in which copies of datagrams are delivered.
use Rattle.std.proofs.Common.{◌≡◌, ◌∙◌, refl, sym, ap, subst, ℕ, zero, suc, ◌+◌, ◌-◌, ◌%◌, ◌^◌, ◌<◌, ◌≤◌, ◌||◌, List, [], ◌∷◌, ◌++◌}
use Rattle.std.proofs.Common.{Bool, true, false, not, cond, eqb, ltb, Option, Some, None, Result, Ok, Err, MatchOption, ◌⊎◌, inl, inr, get_or, length, take, drop, set, arith, append_assoc, append-nil}
use Rattle.std.specs.Prelude.{All, slice_get, slice_index_or}
use Rattle.std.proofs.Math.Seq.{drop-append_seam}
use Rattle.std.proofs.lemmas.Bool.{eqb-false, ltb-false, or_parts}
use Rattle.std.proofs.lemmas.List.{length-append, length-set, length-take}
use Rattle.std.proofs.lemmas.Option.{same_Some, slice_get-get_or, slice_get_within}
use Rattle.codec_payload_base.specs.declared.error.PacketError.{PacketError}
use Rattle.codec_payload_base.specs.declared.wire.Ticks.{Ticks}
use Rattle.codec_payload_sending_history.proofs.HeldLemmas.{keeps_next}
use Rattle.codec_payload_sending_history.specs.Histories.{Repeats, Resends, first_of, history_by, next_after}
use Rattle.codec_payload_sending_history.specs.Packets.{Past, Sent, number_in, number_of, stream_fits}
use Rattle.codec_payload_sending_history.specs.declared.retransmission.HistoryError.TheVariants as errors
use Rattle.codec_payload_sending_history.specs.declared.retransmission.HistorySettings.{HistorySettings}
use Rattle.codec_payload_sending_history.specs.declared.retransmission.Resent.{Resent}
use Rattle.codec_payload_sending_history.specs.declared.retransmission.Resent.TheVariants as results
use Rattle.codec_payload_sending_history.specs.declared.retransmission.RetransmissionStream.{RetransmissionStream}
use Rattle.codec_payload_rtp.specs.RtpReading.{rtp_at}
use Rattle.codec_payload_payloader.specs.Sending.{Sample}
use Rattle.codec_payload_sending.specs.Senders.{Sending}
use Rattle.codec_payload_receiver.specs.Sessions.{Session}
use Rattle.codec_payload_datagram_runs.proofs.Courses.{DeliversCopy, IsCopy, Proceeds, makes}
use Rattle.codec_payload_datagram_runs.proofs.ReleaseLemmas.{keeps_promises, releases_all}
use Rattle.codec_payload_datagram_runs.proofs.StepLemmas.{get_append}
use Rattle.codec_payload_datagram_runs.specs.HistoryReleases.{AreRepeats, PromisesWithHistory, ReleaseWithHistory, RepeatsWithHistory}
use Rattle.codec_payload_datagram_runs.specs.HistoryReleases.{latest_with, plain_steps, plain_steps_of, repeated_by, repeated_in, repeated_of, sends_by, sent_by}
use Rattle.codec_payload_datagram_runs.specs.HistoryRuns.{HistoryRuns, IsPacket, KeepsAll, KeepsOne, Resending, begins_with, sent_since, written}
use Rattle.codec_payload_datagram_runs.specs.WireRuns.{Delivers, DoesStep, Receipt, SendsIt, SendsOrRefuses, Wire, begins, sent_sample}
use Rattle.codec_payload_datagram_runs.specs.declared.history_run.HistoryStep.{HistoryStep}
use Rattle.codec_payload_datagram_runs.specs.declared.history_run.HistoryStep.TheVariants as history_steps
use Rattle.codec_payload_datagram_runs.specs.declared.run.DatagramStep.{DatagramStep}
use Rattle.codec_payload_datagram_runs.specs.declared.run.DatagramStep.TheVariants as steps
use Rattle.codec_payload_datagram_runs.specs.declared.run.SentSample.{SentSample}

-- Numbers of datagrams

-- the datagrams are packets with consecutive numbers, modulo 65,536, from n on
abbrev pub From : ℕ → List (List ℕ) → Type 0
From n [] = Unit {0}
From n (d ∷ ds) = (number_in d ≡ Some (n % 65536)) × From (n + 1) ds

pub from_same : (n m : ℕ) (ds : List (List ℕ)) → n % 65536 ≡ m % 65536 → From n ds → From m ds
from_same n m [] same from = tt
from_same n m (d ∷ ds) same from = (from.0 ∙ ap Some same, from_same (n + 1) (m + 1) ds (omega (arith, same)) from.1)

pub from_append : (n : ℕ) (ds es : List (List ℕ)) → From n ds → From (n + length ds) es → From n (ds ++ es)
from_append n [] es here more = subst (λ (m : ℕ). From m es) (omega arith) more
from_append n (d ∷ ds) es here more = (here.0, from_append (n + 1) ds es here.1 (subst (λ (m : ℕ). From m es) (omega arith) more))

from_at : (n k : ℕ) (ds : List (List ℕ)) (d : List ℕ) → From n ds → slice_get ds k ≡ Some d → number_in d ≡ Some ((n + k) % 65536)
from_at n k [] d from there = absurd (cc)
from_at n zero (e ∷ ds) d from there =
    let same : n ≡ n + zero = omega arith in
    subst (λ (m : ℕ). number_in d ≡ Some (m % 65536)) same (ap number_in (sym (same_Some e d there)) ∙ from.0)
from_at n (suc k) (e ∷ ds) d from there =
    let same : n + 1 + k ≡ n + suc k = omega arith in
    subst (λ (m : ℕ). number_in d ≡ Some (m % 65536)) same (from_at (n + 1) k ds d from.1 there)

from_each : (n : ℕ) (ds : List (List ℕ)) → ((i : ℕ) → i < length ds → number_in (slice_index_or ds i []) ≡ Some ((n + i) % 65536)) → From n ds
from_each n [] each = tt
from_each n (d ∷ ds) each =
    let same : n + 0 ≡ n = omega arith in (
      subst (λ (m : ℕ). number_in d ≡ Some (m % 65536)) same (each 0 (omega arith)),
      from_each (n + 1) ds (λ i l.
          let next : n + suc i ≡ n + 1 + i = omega arith in
          subst (λ (m : ℕ). number_in (slice_index_or ds i []) ≡ Some (m % 65536)) next (each (suc i) (omega (arith, l)))),
    )

-- a datagram with a number is a packet
packet_of : (d : List ℕ) (n : ℕ) → number_in d ≡ Some n → IsPacket d
packet_of d n e = by_read (rtp_at d) refl e
  where
    by_read : (r : _) → rtp_at d ≡ r → number_of r ≡ Some n → IsPacket d
    by_read (Ok p) is e = (p, is)
    by_read (Err fault) is e = absurd (cc)

-- What a step sends

-- a step of a run without a history has sent these datagrams
pub record Grows (s t : Wire) : Type 0 where
  pub new : List (List ℕ)
  pub whole : t.datagrams ≡ s.datagrams ++ new
  pub numbers : From s.sending.stream.number new
  pub next : t.sending.stream.number % 65536 ≡ (s.sending.stream.number + length new) % 65536

grows_none : (s t : Wire) → t.sending ≡ s.sending → t.datagrams ≡ s.datagrams → Grows s t
grows_none s t sending datagrams = record {
  new = [];
  whole = datagrams ∙ sym (append-nil s.datagrams);
  numbers = tt;
  next = ap (λ (x : Sending). x.stream.number % 65536) sending ∙ omega arith;
}

sent_numbers : (sample : Sample) (fault : Option PacketError) (s t : Sending) → SendsOrRefuses (sent_sample sample) s fault t
    → From s.stream.number t.datagrams × (t.stream.number % 65536 ≡ (s.stream.number + length t.datagrams) % 65536)
sent_numbers sample None s t sends =
    let count : length t.datagrams ≡ length sends.payloads = sends.sent.0 in
    let number : t.stream.number ≡ (s.stream.number + length sends.payloads) % 2 ^ 16 = ap (λ (x : Sending). x.stream.number) sends.left in (
      from_each s.stream.number t.datagrams (λ i l. ap number_of (sends.sent.1 i (omega (arith, count, l))).reads),
      omega (arith, count, number),
    )
sent_numbers sample (Some fault) s t refuses =
    let nothing : t.datagrams ≡ [] = ap (λ (x : Sending). x.datagrams) refuses.1.left in
    let number : t.stream.number ≡ s.stream.number = ap (λ (x : Sending). x.stream.number) refuses.1.left in (
      subst (From s.stream.number) (sym nothing) tt,
      omega (arith, number, ap length nothing),
    )

grows_sent : (samples : List Sample) (o : Option Sample) (s t : Wire)
    → MatchOption o (t ≡ s) (λ sample. (entry : SentSample) × SendsIt sample s.sending s.datagrams entry t.sending t.datagrams
    × (t ≡ record s { sending = t.sending; datagrams = t.datagrams; sends = s.sends ++ entry ∷ [] }))
    → Grows s t
grows_sent samples None s t same = grows_none s t (ap (λ (x : Wire). x.sending) same) (ap (λ (x : Wire). x.datagrams) same)
grows_sent samples (Some sample) s t done =
    let sent = sent_numbers sample done.0.fault s.sending t.sending done.1.sends in
    record { new = t.sending.datagrams; whole = done.1.gained; numbers = sent.0; next = sent.1 }

grows_not : (o : Option (List ℕ)) (now : Ticks) (s t : Wire)
    → MatchOption o (t ≡ s) (λ bytes. (receipt : Receipt) × (session : Session) × Delivers now bytes s.session receipt session
    × (t ≡ record s { session = session; receipts = s.receipts ++ receipt ∷ [] }))
    → Grows s t
grows_not None now s t same = grows_none s t (ap (λ (x : Wire). x.sending) same) (ap (λ (x : Wire). x.datagrams) same)
grows_not (Some bytes) now s t done = grows_none s t (ap (λ (x : Wire). x.sending) done.3) (ap (λ (x : Wire). x.datagrams) done.3)

pub grows : (samples : List Sample) (step : DatagramStep) (s t : Wire) → DoesStep samples step s t → Grows s t
grows samples (steps.Send i) s t does = grows_sent samples (slice_get samples i) s t does
grows samples (steps.Deliver k now) s t does = grows_not (slice_get s.datagrams k) now s t does
grows samples (steps.Pop now) s t does = grows_none s t (ap (λ (x : Wire). x.sending) does.4) (ap (λ (x : Wire). x.datagrams) does.4)
grows samples steps.Finish s t does = grows_none s t (ap (λ (x : Wire). x.sending) does.2) (ap (λ (x : Wire). x.datagrams) does.2)

pub new_is : (s t : Wire) (g : Grows s t) → sent_since s t ≡ g.new
new_is s t g = ap (drop (length s.datagrams)) g.whole ∙ drop-append_seam s.datagrams g.new

pub from_packets : (n : ℕ) (ds : List (List ℕ)) → From n ds → All IsPacket ds
from_packets n ds from k d within =
    packet_of (get_or ds k d) ((n + k) % 65536) (from_at n k ds (get_or ds k d) from (slice_get-get_or ds k d within))

-- no step loses a datagram
pub none_lost : (samples : List Sample) (step : DatagramStep) (s t : Wire) → DoesStep samples step s t → length s.datagrams ≤ length t.datagrams
none_lost samples step s t does =
    let g = grows samples step s t does in
    omega (arith, ap length g.whole, length-append s.datagrams g.new)

-- what a step sends are packets
pub packets_sent : (samples : List Sample) (step : DatagramStep) (s t : Wire) → DoesStep samples step s t → All IsPacket (sent_since s t)
packets_sent samples step s t does =
    let g = grows samples step s t does in
    subst (All IsPacket) (sym (new_is s t g)) (from_packets s.sending.stream.number g.new g.numbers)

-- The packets of the history

-- each kept packet is a sent datagram: the newest is the last one
abbrev pub AreLatest : List (List ℕ) → List Sent → Type 0
AreLatest datagrams packets =
    (place : ℕ) (p : Sent) → slice_get packets place ≡ Some p → (place < length datagrams) × (slice_get datagrams (length datagrams - 1 - place) ≡ Some p.bytes)

get_take : (count i : ℕ) (xs : List Sent) (p : Sent) → slice_get (take count xs) i ≡ Some p → slice_get xs i ≡ Some p
get_take zero i xs p there = absurd (cc)
get_take (suc count) i [] p there = absurd (cc)
get_take (suc count) zero (x ∷ xs) p there = there
get_take (suc count) (suc i) (x ∷ xs) p there = get_take count i xs p there

get_last : (xs : List (List ℕ)) (x : List ℕ) → slice_get (xs ++ x ∷ []) (length xs) ≡ Some x
get_last [] x = refl
get_last (y ∷ xs) x = get_last xs x

pub one_more : (xs : List (List ℕ)) (x : List ℕ) → length (xs ++ x ∷ []) ≡ suc (length xs)
one_more [] x = refl
one_more (y ∷ xs) x = ap suc (one_more xs x)

latest_new : (datagrams : List (List ℕ)) (d : List ℕ) (packets : List Sent) (resent : Option Ticks) → AreLatest datagrams packets
    → AreLatest (datagrams ++ d ∷ []) (record { bytes = d; resent = resent } ∷ packets)
latest_new datagrams d packets resent latest zero p there =
    let count = one_more datagrams d in
    let same : d ≡ p.bytes = ap (λ (x : Sent). x.bytes) (same_Some (record { bytes = d; resent = resent }) p there) in
    let index : length datagrams ≡ length (datagrams ++ d ∷ []) - 1 - zero = omega (arith, count) in
    (omega (arith, count), subst (λ (i : ℕ). slice_get (datagrams ++ d ∷ []) i ≡ Some p.bytes) index (get_last datagrams d ∙ ap Some same))
latest_new datagrams d packets resent latest (suc place) p there =
    let count = one_more datagrams d in
    let before = latest place p there in
    let index : length datagrams - 1 - place ≡ length (datagrams ++ d ∷ []) - 1 - suc place = omega (arith, count) in
    (omega (arith, count, before.0), subst (λ (i : ℕ). slice_get (datagrams ++ d ∷ []) i ≡ Some p.bytes) index (get_append datagrams (d ∷ []) (length datagrams - 1 - place) p.bytes before.1))

latest_first : (datagrams : List (List ℕ)) (count : ℕ) (packets : List Sent) → AreLatest datagrams packets → AreLatest datagrams (take count packets)
latest_first datagrams count packets latest place p there = latest place p (get_take count place packets p there)

-- a packet that was resent has its bytes
bytes_stay : (packets : List Sent) (place : ℕ) (p : Sent) (resent : Option Ticks) (i : ℕ) (q : Sent) → slice_get packets place ≡ Some p
    → slice_get (set packets place (record p { resent = resent })) i ≡ Some q → (x : Sent) × (slice_get packets i ≡ Some x) × (x.bytes ≡ q.bytes)
bytes_stay [] place p resent i q there now = absurd (cc)
bytes_stay (y ∷ packets) zero p resent zero q there now =
    (y, refl, ap (λ (x : Sent). x.bytes) (same_Some y p there) ∙ ap (λ (x : Sent). x.bytes) (same_Some (record p { resent = resent }) q now))
bytes_stay (y ∷ packets) zero p resent (suc i) q there now = (q, now, refl)
bytes_stay (y ∷ packets) (suc place) p resent zero q there now = (q, now, refl)
bytes_stay (y ∷ packets) (suc place) p resent (suc i) q there now = bytes_stay packets place p resent i q there now

latest_set : (datagrams : List (List ℕ)) (packets : List Sent) (place : ℕ) (p : Sent) (resent : Option Ticks) → slice_get packets place ≡ Some p → AreLatest datagrams packets
    → AreLatest datagrams (set packets place (record p { resent = resent }))
latest_set datagrams packets place p resent there latest i q now =
    let was = bytes_stay packets place p resent i q there now in
    let at = latest i was.0 was.1 in
    (at.0, at.1 ∙ ap Some was.2)

-- a history of these datagrams, whose next retransmission has this number
pub record IsOf (again : Option RetransmissionStream) (number : ℕ) (datagrams : List (List ℕ)) (h : Past) : Type 0 where
  pub latest : AreLatest datagrams h.packets
  pub few : length h.packets ≤ 32768
  pub limit : h.limit ≤ 32768
  pub stream : h.stream ≡ again
  pub next : h.next ≡ number

-- its highest number is that of the last datagram
pub record IsNewest (first : ℕ) (datagrams : List (List ℕ)) (h : Past) : Type 0 where
  pub none : datagrams ≡ [] → h.packets ≡ []
  pub newest : (n : ℕ) → length datagrams ≡ suc n → h.newest ≡ (first + n) % 65536
  pub small : h.newest < 65536
  pub some : 1 ≤ h.limit

-- so the next datagram follows it
comes_next : (first : ℕ) (datagrams : List (List ℕ)) (h : Past) → IsNewest first datagrams h
    → ((first + length datagrams) % 65536 ≡ (h.newest + 1) % 65536) ⊎ (h.packets ≡ [])
comes_next first [] h is = inr (is.none refl)
comes_next first (d ∷ datagrams) h is = inl (omega (arith, is.newest (length datagrams) refl))

keeps_one : (again : Option RetransmissionStream) (first next : ℕ) (datagrams : List (List ℕ)) (d : List ℕ) (h t : Past) → IsOf again next datagrams h → IsNewest first datagrams h
    → number_in d ≡ Some ((first + length datagrams) % 65536) → KeepsOne h d t → IsOf again next (datagrams ++ d ∷ []) t × IsNewest first (datagrams ++ d ∷ []) t
keeps_one again first next datagrams d h t of newest is keeps =
    let number : ℕ = (first + length datagrams) % 65536 in
    let all : List Sent = record { bytes = d; resent = None } ∷ h.packets in
    let left = (keeps_next h t d keeps.0 number newest.some of.limit newest.small is (comes_next first datagrams h newest) keeps.1).1 in
    let packets : t.packets ≡ take h.limit all = ap (λ (x : Past). x.packets) left in
    let limit : t.limit ≡ h.limit = ap (λ (x : Past). x.limit) left in
    let last : t.newest ≡ number = ap (λ (x : Past). x.newest) left in (
      record {
        latest = subst (AreLatest (datagrams ++ d ∷ [])) (sym packets) (latest_first (datagrams ++ d ∷ []) h.limit all (latest_new datagrams d h.packets None of.latest));
        few = omega (arith, ap length packets, length-take h.limit all, of.limit);
        limit = omega (arith, limit, of.limit);
        stream = ap (λ (x : Past). x.stream) left ∙ of.stream;
        next = ap (λ (x : Past). x.next) left ∙ of.next;
      },
      record {
        none = λ e. absurd (omega (arith, ap length e, one_more datagrams d));
        newest = λ n e. omega (arith, last, e, one_more datagrams d);
        small = omega (arith, last);
        some = omega (arith, limit, newest.some);
      },
    )

pub keeps_all : (again : Option RetransmissionStream) (first next : ℕ) (datagrams new : List (List ℕ)) (h t : Past) → IsOf again next datagrams h → IsNewest first datagrams h
    → From (first + length datagrams) new → KeepsAll h new t → IsOf again next (datagrams ++ new) t × IsNewest first (datagrams ++ new) t
keeps_all again first next datagrams [] h t of newest from keeps = (
  subst (λ (x : Past). IsOf again next (datagrams ++ []) x) (sym keeps) (subst (λ (ds : List (List ℕ)). IsOf again next ds h) (sym (append-nil datagrams)) of),
  subst (λ (x : Past). IsNewest first (datagrams ++ []) x) (sym keeps) (subst (λ (ds : List (List ℕ)). IsNewest first ds h) (sym (append-nil datagrams)) newest),
)
keeps_all again first next datagrams (d ∷ new) h t of newest from keeps =
    let one = keeps_one again first next datagrams d h keeps.0 of newest from.0 keeps.1 in
    let count : first + length datagrams + 1 ≡ first + length (datagrams ++ d ∷ []) = omega (arith, one_more datagrams d) in
    let rest = keeps_all again first next (datagrams ++ d ∷ []) new keeps.0 t one.0 one.1 (subst (λ (n : ℕ). From n new) count from.1) keeps.2 in (
      subst (λ (ds : List (List ℕ)). IsOf again next ds t) (append_assoc datagrams (d ∷ []) new) rest.0,
      subst (λ (ds : List (List ℕ)). IsNewest first ds t) (append_assoc datagrams (d ∷ []) new) rest.1,
    )

-- a request leaves the highest number
none_there : (place : ℕ) (p : Sent) → slice_get [] place ≡ Some p → ⊥
none_there place p there = absurd (cc)

pub newest_stays : (first : ℕ) (datagrams : List (List ℕ)) (now : Ticks) (number : ℕ) (h t : Past) (answer : Resent) (bytes : List ℕ) → IsNewest first datagrams h
    → Resends now number h [] answer bytes t → IsNewest first datagrams t
newest_stays first datagrams now number h t results.Written bytes is resends =
    let left = resends.5 in
    let newest : t.newest ≡ h.newest = ap (λ (x : Past). x.newest) left in
    let limit : t.limit ≡ h.limit = ap (λ (x : Past). x.limit) left in
    record {
      none = λ e. absurd (none_there resends.0 resends.1 (subst (λ (ps : List Sent). slice_get ps resends.0 ≡ Some resends.1) (is.none e) resends.2.found));
      newest = λ n e. newest ∙ is.newest n e;
      small = omega (arith, newest, is.small);
      some = omega (arith, limit, is.some);
    }
newest_stays first datagrams now number h t results.NotKept bytes is resends = subst (IsNewest first datagrams) (sym resends.2) is
newest_stays first datagrams now number h t results.TooSoon bytes is resends = subst (IsNewest first datagrams) (sym resends.5) is
newest_stays first datagrams now number h t results.TooLarge bytes is resends = absurd resends

-- Retransmissions

-- the number after that many retransmissions
abbrev pub advanced : Option RetransmissionStream → ℕ → ℕ → ℕ
advanced again next zero = next
advanced again next (suc n) = advanced again (next_after again next) n

pub advanced_append : (again : Option RetransmissionStream) (next : ℕ) (bs cs : List (List ℕ)) → advanced again (advanced again next (length bs)) (length cs) ≡ advanced again next (length (bs ++ cs))
advanced_append again next [] cs = refl
advanced_append again next (b ∷ bs) cs = advanced_append again (next_after again next) bs cs

pub repeats_append : (again : Option RetransmissionStream) (next : ℕ) (datagrams bs : List (List ℕ)) (ks : List ℕ) (cs : List (List ℕ)) (js : List ℕ) → AreRepeats again next datagrams bs ks
    → AreRepeats again (advanced again next (length bs)) datagrams cs js → AreRepeats again next datagrams (bs ++ cs) (ks ++ js)
repeats_append again next datagrams [] [] cs js here more = more
repeats_append again next datagrams [] (k ∷ ks) cs js here more = absurd here
repeats_append again next datagrams (b ∷ bs) [] cs js here more = absurd here
repeats_append again next datagrams (b ∷ bs) (k ∷ ks) cs js here more = (here.0, repeats_append again (next_after again next) datagrams bs ks cs js here.1 more)

pub repeats_more : (again : Option RetransmissionStream) (next : ℕ) (datagrams new bs : List (List ℕ)) (ks : List ℕ) → AreRepeats again next datagrams bs ks
    → AreRepeats again next (datagrams ++ new) bs ks
repeats_more again next datagrams new [] [] here = tt
repeats_more again next datagrams new [] (k ∷ ks) here = absurd here
repeats_more again next datagrams new (b ∷ bs) [] here = absurd here
repeats_more again next datagrams new (b ∷ bs) (k ∷ ks) here =
    ((here.0.0, get_append datagrams new k here.0.0 here.0.1, here.0.2), repeats_more again (next_after again next) datagrams new bs ks here.1)

pub copy_at : (again : Option RetransmissionStream) (next : ℕ) (datagrams bs : List (List ℕ)) (ks : List ℕ) (j : ℕ) (bytes : List ℕ) → AreRepeats again next datagrams bs ks → slice_get bs j ≡ Some bytes
    → (k : ℕ) × (slice_get ks j ≡ Some k) × (d : List ℕ) × (slice_get datagrams k ≡ Some d) × IsCopy again d bytes
copy_at again next datagrams [] ks j bytes repeats there = absurd (cc)
copy_at again next datagrams (b ∷ bs) [] j bytes repeats there = absurd repeats
copy_at again next datagrams (b ∷ bs) (k ∷ ks) zero bytes repeats there =
    (k, refl, repeats.0.0, repeats.0.1, subst (IsCopy again repeats.0.0) (same_Some b bytes there) (inr (next, repeats.0.2)))
copy_at again next datagrams (b ∷ bs) (k ∷ ks) (suc j) bytes repeats there = copy_at again (next_after again next) datagrams bs ks j bytes repeats.1 there

pub no_copy_at : (again : Option RetransmissionStream) (next : ℕ) (datagrams bs : List (List ℕ)) (ks : List ℕ) (j : ℕ) → AreRepeats again next datagrams bs ks → slice_get bs j ≡ None → slice_get ks j ≡ None
no_copy_at again next datagrams [] [] j repeats none = refl
no_copy_at again next datagrams [] (k ∷ ks) j repeats none = absurd repeats
no_copy_at again next datagrams (b ∷ bs) [] j repeats none = absurd repeats
no_copy_at again next datagrams (b ∷ bs) (k ∷ ks) zero repeats none = absurd (cc)
no_copy_at again next datagrams (b ∷ bs) (k ∷ ks) (suc j) repeats none = no_copy_at again (next_after again next) datagrams bs ks j repeats.1 none

-- the datagram at that place from the end is the latest with its number
latest_is : (first sent place number : ℕ) → place < sent → place < 65536 → number ≡ (first + (sent - 1 - place)) % 65536 → latest_with first sent number ≡ sent - 1 - place
latest_is first sent place number within few is = omega (arith, within, few, is)

-- the answer of the history repeats the latest datagram with the number
pub resends_copy : (again : Option RetransmissionStream) (first next : ℕ) (datagrams : List (List ℕ)) (now : Ticks) (number : ℕ) (h t : Past) (answer : Resent) (bytes : List ℕ)
    → From first datagrams → IsOf again next datagrams h → Resends now number h [] answer bytes t
    → IsOf again (advanced again next (length (written answer bytes))) datagrams t
    × AreRepeats again next datagrams (written answer bytes) (repeated_by answer (latest_with first (length datagrams) number))
resends_copy again first next datagrams now number h t results.Written bytes from of resends =
    let place : ℕ = resends.0 in
    let p : Sent = resends.1 in
    let at = of.latest place p resends.2.found in
    let few : place < length h.packets = slice_get_within h.packets place p resends.2.found in
    let is : number ≡ (first + (length datagrams - 1 - place)) % 65536 =
    same_Some number _ (sym resends.2.numbered ∙ from_at first (length datagrams - 1 - place) datagrams p.bytes from at.1) in
    let index : latest_with first (length datagrams) number ≡ length datagrams - 1 - place = latest_is first (length datagrams) place number at.0 (omega (arith, few, of.few)) is in
    let repeats : Repeats again next p.bytes bytes =
    subst (λ (n : ℕ). Repeats again n p.bytes bytes) of.next (subst (λ (o : Option RetransmissionStream). Repeats o h.next p.bytes bytes) of.stream resends.4) in
    let packets : t.packets ≡ set h.packets place (record p { resent = Some now }) = ap (λ (x : Past). x.packets) resends.5 in (
      record {
        latest = subst (AreLatest datagrams) (sym packets) (latest_set datagrams h.packets place p (Some now) resends.2.found of.latest);
        few = omega (arith, ap length packets, length-set h.packets place (record p { resent = Some now }), of.few);
        limit = omega (arith, ap (λ (x : Past). x.limit) resends.5, of.limit);
        stream = ap (λ (x : Past). x.stream) resends.5 ∙ of.stream;
        next = ap (λ (x : Past). x.next) resends.5 ∙ (ap (λ (o : Option RetransmissionStream). next_after o h.next) of.stream ∙ ap (next_after again) of.next);
      },
      ((p.bytes, subst (λ (k : ℕ). slice_get datagrams k ≡ Some p.bytes) (sym index) at.1, repeats), tt),
    )
resends_copy again first next datagrams now number h t results.NotKept bytes from of resends = (subst (IsOf again next datagrams) (sym resends.2) of, tt)
resends_copy again first next datagrams now number h t results.TooSoon bytes from of resends = (subst (IsOf again next datagrams) (sym resends.5) of, tt)
resends_copy again first next datagrams now number h t results.TooLarge bytes from of resends = absurd resends

-- Whole runs

-- a state of a run with a history; `repeated` has the indices of the datagrams that the retransmissions repeat, from the number
-- `begin` on
record IsAt (again : Option RetransmissionStream) (first begin : ℕ) (s : Resending) (repeated : List ℕ) : Type 0 where
  numbers : From first s.wire.datagrams
  next : s.wire.sending.stream.number % 65536 ≡ (first + length s.wire.datagrams) % 65536
  kept : IsOf again (advanced again begin (length s.retransmissions)) s.wire.datagrams s.history
  newest : IsNewest first s.wire.datagrams s.history
  repeats : AreRepeats again begin s.wire.datagrams s.retransmissions repeated

-- the run without a history
record Comes (again : Option RetransmissionStream) (first begin : ℕ) (samples : List Sample) (all_steps : List HistoryStep) (s t : Resending) (repeated : List ℕ) : Type 0 where
  later : List SentSample
  sends : t.wire.sends ≡ s.wire.sends ++ later
  more : List Resent
  answers : t.answers ≡ s.answers ++ more
  course : Proceeds again samples (plain_steps first samples (length s.wire.datagrams) repeated all_steps later more) s.wire t.wire
  repeats : AreRepeats again begin t.wire.datagrams t.retransmissions (repeated_in first samples (length s.wire.datagrams) repeated all_steps later more)

-- the entries of sends from a step of the run without a history on, and how many datagrams were sent after it
pub record Follows (samples : List Sample) (step : DatagramStep) (s t : Wire) (rest : List SentSample) : Type 0 where
  pub later : List SentSample
  pub sends : t.sends ++ rest ≡ s.sends ++ later
  pub left : sends_by samples step later ≡ rest
  pub sent : sent_by samples (length s.datagrams) step later ≡ length t.datagrams

pub follows_same : (samples : List Sample) (step : DatagramStep) (s t : Wire) (rest : List SentSample) → sends_by samples step rest ≡ rest
    → sent_by samples (length s.datagrams) step rest ≡ length s.datagrams → t.sends ≡ s.sends → t.datagrams ≡ s.datagrams → Follows samples step s t rest
follows_same samples step s t rest left sent sends datagrams = record {
  later = rest;
  sends = ap (λ (es : List SentSample). es ++ rest) sends;
  left = left;
  sent = sent ∙ sym (ap length datagrams);
}

follows_sent : (samples : List Sample) (i : ℕ) (o : Option Sample) (s t : Wire) (rest : List SentSample) → slice_get samples i ≡ o
    → MatchOption o (t ≡ s) (λ sample. (entry : SentSample) × SendsIt sample s.sending s.datagrams entry t.sending t.datagrams
    × (t ≡ record s { sending = t.sending; datagrams = t.datagrams; sends = s.sends ++ entry ∷ [] }))
    → Follows samples (steps.Send i) s t rest
follows_sent samples i None s t rest is same =
    follows_same samples (steps.Send i) s t rest (rw is refl) (rw is refl) (ap (λ (x : Wire). x.sends) same) (ap (λ (x : Wire). x.datagrams) same)
follows_sent samples i (Some sample) s t rest is done = record {
  later = done.0 ∷ rest;
  sends = ap (λ (x : Wire). x.sends ++ rest) done.2 ∙ append_assoc s.sends (done.0 ∷ []) rest;
  left = rw is refl;
  sent = rw is (omega (arith, ap length done.1.gained, length-append s.datagrams t.sending.datagrams, done.1.count));
}

follows_not : (samples : List Sample) (k : ℕ) (o : Option (List ℕ)) (now : Ticks) (s t : Wire) (rest : List SentSample)
    → MatchOption o (t ≡ s) (λ bytes. (receipt : Receipt) × (session : Session) × Delivers now bytes s.session receipt session
    × (t ≡ record s { session = session; receipts = s.receipts ++ receipt ∷ [] }))
    → Follows samples (steps.Deliver k now) s t rest
follows_not samples k None now s t rest same =
    follows_same samples (steps.Deliver k now) s t rest refl refl (ap (λ (x : Wire). x.sends) same) (ap (λ (x : Wire). x.datagrams) same)
follows_not samples k (Some bytes) now s t rest done =
    follows_same samples (steps.Deliver k now) s t rest refl refl (ap (λ (x : Wire). x.sends) done.3) (ap (λ (x : Wire). x.datagrams) done.3)

pub follows : (samples : List Sample) (step : DatagramStep) (s t : Wire) (rest : List SentSample) → DoesStep samples step s t → Follows samples step s t rest
follows samples (steps.Send i) s t rest does = follows_sent samples i (slice_get samples i) s t rest refl does
follows samples (steps.Deliver k now) s t rest does = follows_not samples k (slice_get s.datagrams k) now s t rest does
follows samples (steps.Pop now) s t rest does =
    follows_same samples (steps.Pop now) s t rest refl refl (ap (λ (x : Wire). x.sends) does.4) (ap (λ (x : Wire). x.datagrams) does.4)
follows samples steps.Finish s t rest does =
    follows_same samples steps.Finish s t rest refl refl (ap (λ (x : Wire). x.sends) does.2) (ap (λ (x : Wire). x.datagrams) does.2)

module _ (again : Option RetransmissionStream) (first begin : ℕ) (samples : List Sample) where
  -- the state after a step of the run without a history
  plain_at : (step : DatagramStep) (s mid : Resending) (repeated : List ℕ) → IsAt again first begin s repeated → DoesStep samples step s.wire mid.wire
      → KeepsAll s.history (sent_since s.wire mid.wire) mid.history → mid.retransmissions ≡ s.retransmissions → IsAt again first begin mid repeated
  plain_at step s mid repeated at does keeps same =
      let g = grows samples step s.wire mid.wire does in
      let count : length mid.wire.datagrams ≡ length s.wire.datagrams + length g.new = ap length g.whole ∙ length-append s.wire.datagrams g.new in
      let from = from_same s.wire.sending.stream.number (first + length s.wire.datagrams) g.new at.next g.numbers in
      let all = keeps_all again first (advanced again begin (length s.retransmissions)) s.wire.datagrams g.new s.history mid.history at.kept at.newest from
      (subst (λ (ds : List (List ℕ)). KeepsAll s.history ds mid.history) (new_is s.wire mid.wire g) keeps) in
      record {
        numbers = subst (From first) (sym g.whole) (from_append first s.wire.datagrams g.new at.numbers from);
        next = omega (arith, g.next, at.next, count);
        kept = subst (λ (ds : List (List ℕ)). IsOf again (advanced again begin (length mid.retransmissions)) ds mid.history) (sym g.whole)
            (subst (λ (bs : List (List ℕ)). IsOf again (advanced again begin (length bs)) (s.wire.datagrams ++ g.new) mid.history) (sym same) all.0);
        newest = subst (λ (ds : List (List ℕ)). IsNewest first ds mid.history) (sym g.whole) all.1;
        repeats = subst (λ (ds : List (List ℕ)). AreRepeats again begin ds mid.retransmissions repeated) (sym g.whole)
            (subst (λ (bs : List (List ℕ)). AreRepeats again begin (s.wire.datagrams ++ g.new) bs repeated) (sym same)
            (repeats_more again begin s.wire.datagrams g.new s.retransmissions repeated at.repeats));
      }

  plain_comes : (step : DatagramStep) (later : List HistoryStep) (s mid t : Resending) (repeated : List ℕ) → DoesStep samples step s.wire mid.wire → mid.answers ≡ s.answers
      → Comes again first begin samples later mid t repeated → Comes again first begin samples (history_steps.Plain step ∷ later) s t repeated
  plain_comes step later s mid t repeated does same comes =
      let f = follows samples step s.wire mid.wire comes.later does in
      record {
        later = f.later;
        sends = comes.sends ∙ f.sends;
        more = comes.more;
        answers = comes.answers ∙ ap (λ (as' : List Resent). as' ++ comes.more) same;
        course = (
          mid.wire,
          makes again samples step s.wire mid.wire does,
          subst (λ (n : ℕ). Proceeds again samples (plain_steps first samples n repeated later (sends_by samples step f.later) comes.more) mid.wire t.wire) (sym f.sent)
              (subst (λ (es : List SentSample). Proceeds again samples (plain_steps first samples (length mid.wire.datagrams) repeated later es comes.more) mid.wire t.wire) (sym f.left) comes.course),
        );
        repeats = subst (λ (n : ℕ). AreRepeats again begin t.wire.datagrams t.retransmissions (repeated_in first samples n repeated later (sends_by samples step f.later) comes.more)) (sym f.sent)
            (subst (λ (es : List SentSample). AreRepeats again begin t.wire.datagrams t.retransmissions (repeated_in first samples (length mid.wire.datagrams) repeated later es comes.more)) (sym f.left) comes.repeats);
      }

  -- a delivered retransmission
  again_comes : (o : Option (List ℕ)) (j : ℕ) (now : Ticks) (later : List HistoryStep) (s mid t : Resending) (repeated : List ℕ) → slice_get s.retransmissions j ≡ o
      → IsAt again first begin s repeated
      → MatchOption o (mid ≡ s) (λ bytes. (receipt : Receipt) × (session : Session) × Delivers now bytes s.wire.session receipt session
      × (mid ≡ record s { wire = record s.wire { session = session; receipts = s.wire.receipts ++ receipt ∷ [] } }))
      → (IsAt again first begin mid repeated → Comes again first begin samples later mid t repeated) → Comes again first begin samples (history_steps.DeliverAgain j now ∷ later) s t repeated
  again_comes None j now later s mid t repeated is at same rest =
      let c : Comes again first begin samples later s t repeated =
      subst (λ (x : Resending). Comes again first begin samples later x t repeated) same (rest (subst (λ (x : Resending). IsAt again first begin x repeated) (sym same) at)) in
      let none : slice_get repeated j ≡ None = no_copy_at again begin s.wire.datagrams s.retransmissions repeated j at.repeats is in
      record {
        later = c.later;
        sends = c.sends;
        more = c.more;
        answers = c.answers;
        course = rw none c.course;
        repeats = c.repeats;
      }
  again_comes (Some bytes) j now later s mid t repeated is at done rest =
      let next : Resending = record s { wire = record s.wire { session = done.1; receipts = s.wire.receipts ++ done.0 ∷ [] } } in
      let c : Comes again first begin samples later next t repeated =
      subst (λ (x : Resending). Comes again first begin samples later x t repeated) done.3
      (rest (subst (λ (x : Resending). IsAt again first begin x repeated) (sym done.3) (record { numbers = at.numbers; next = at.next; kept = at.kept; newest = at.newest; repeats = at.repeats }))) in
      let copy = copy_at again begin s.wire.datagrams s.retransmissions repeated j bytes at.repeats is in
      let delivers : DeliversCopy again (slice_get s.wire.datagrams copy.0) now s.wire next.wire =
      subst (λ (o : Option (List ℕ)). DeliversCopy again o now s.wire next.wire) (sym copy.3) (bytes, copy.4, done.0, done.1, done.2, refl) in
      record {
        later = c.later;
        sends = c.sends;
        more = c.more;
        answers = c.answers;
        course = rw copy.1 (next.wire, delivers, c.course);
        repeats = c.repeats;
      }

  history_comes : (all_steps : List HistoryStep) (s t : Resending) (repeated : List ℕ) → IsAt again first begin s repeated → HistoryRuns samples all_steps s t
      → Comes again first begin samples all_steps s t repeated
  history_comes [] s t repeated at run = record {
    later = [];
    sends = ap (λ (x : Resending). x.wire.sends) run ∙ sym (append-nil s.wire.sends);
    more = [];
    answers = ap (λ (x : Resending). x.answers) run ∙ sym (append-nil s.answers);
    course = ap (λ (x : Resending). x.wire) run;
    repeats = subst (λ (x : Resending). AreRepeats again begin x.wire.datagrams x.retransmissions repeated) (sym run) at.repeats;
  }
  history_comes (history_steps.Plain step ∷ later) s t repeated at run =
      let mid : Resending = run.0 in
      let does = run.1 in
      let wire : mid.wire ≡ does.0 = ap (λ (x : Resending). x.wire) does.4 in
      let history : mid.history ≡ does.1 = ap (λ (x : Resending). x.history) does.4 in
      let stepped : DoesStep samples step s.wire mid.wire = subst (DoesStep samples step s.wire) (sym wire) does.2 in
      let kept : KeepsAll s.history (sent_since s.wire mid.wire) mid.history =
      subst (λ (x : Wire). KeepsAll s.history (sent_since s.wire x) mid.history) (sym wire) (subst (KeepsAll s.history (sent_since s.wire does.0)) (sym history) does.3) in
      plain_comes step later s mid t repeated stepped (ap (λ (x : Resending). x.answers) does.4)
      (history_comes later mid t repeated (plain_at step s mid repeated at stepped kept (ap (λ (x : Resending). x.retransmissions) does.4)) run.2)
  history_comes (history_steps.Resend number now ∷ later) s t repeated at run =
      let mid : Resending = run.0 in
      let does = run.1 in
      let wire : mid.wire ≡ s.wire = ap (λ (x : Resending). x.wire) does.4 in
      let index : ℕ = latest_with first (length s.wire.datagrams) number in
      let more : List ℕ = repeated ++ repeated_by does.0 index in
      let here = resends_copy again first (advanced again begin (length s.retransmissions)) s.wire.datagrams now number s.history does.2 does.0 does.1 at.numbers at.kept does.3 in
      let next : Resending = record s { history = does.2; retransmissions = s.retransmissions ++ written does.0 does.1; answers = s.answers ++ does.0 ∷ [] } in
      let next_at : IsAt again first begin next more = record {
        numbers = at.numbers;
        next = at.next;
        kept = subst (λ (n : ℕ). IsOf again n s.wire.datagrams does.2) (advanced_append again begin s.retransmissions (written does.0 does.1)) here.0;
        newest = newest_stays first s.wire.datagrams now number s.history does.2 does.0 does.1 at.newest does.3;
        repeats = repeats_append again begin s.wire.datagrams s.retransmissions repeated (written does.0 does.1) (repeated_by does.0 index) at.repeats here.1;
      } in
      let c : Comes again first begin samples later next t more =
      subst (λ (x : Resending). Comes again first begin samples later x t more) does.4
      (history_comes later mid t more (subst (λ (x : Resending). IsAt again first begin x more) (sym does.4) next_at) run.2) in
      record {
        later = c.later;
        sends = c.sends;
        more = does.0 ∷ c.more;
        answers = c.answers ∙ append_assoc s.answers (does.0 ∷ []) c.more;
        course = c.course;
        repeats = c.repeats;
      }
  history_comes (history_steps.DeliverAgain j now ∷ later) s t repeated at run =
      again_comes (slice_get s.retransmissions j) j now later s run.0 t repeated refl at run.1 (λ next. history_comes later run.0 t repeated next run.2)

-- The theorem

-- a new history is empty
not_failed : {A E : Type 0} (b : Bool) (fault : E) (r : Result A E) (y : A) → cond b (Err fault) r ≡ Ok y → (b ≡ false) × (r ≡ Ok y)
not_failed true fault r y e = absurd (cc)
not_failed false fault r y e = (refl, e)

abbrev empty_history : HistorySettings → Past
empty_history s = record { limit = s.limit; interval = s.interval; stream = s.stream; next = first_of s.stream; newest = 0; refused = None; packets = [] }

above_zero : (n : ℕ) → (n ≡ 0 → ⊥) → 1 ≤ n
above_zero zero some = absurd (some refl)
above_zero (suc n) some = omega arith

pub new_history : (settings : HistorySettings) (h : Past) → history_by settings ≡ Ok h → (h.packets ≡ []) × (h.limit ≤ 32768) × (1 ≤ h.limit) × (h.newest ≡ 0)
new_history settings h new =
    let a = not_failed (eqb settings.limit 0 || ltb 32768 settings.limit) errors.Limit _ h new in
    let b = not_failed (not (stream_fits settings.stream)) errors.PayloadType _ h a.1 in
    let is : Ok (empty_history settings) ≡ Ok h = b.1 in
    let made : empty_history settings ≡ h = cc in
    let limit : settings.limit ≡ h.limit = ap (λ (x : Past). x.limit) made in
    let parts = or_parts (eqb settings.limit 0) (ltb 32768 settings.limit) a.0 in
    let few : settings.limit ≤ 32768 = ltb-false 32768 settings.limit parts.1 in
    let some : 1 ≤ settings.limit = above_zero settings.limit (eqb-false settings.limit 0 parts.0) in
    (ap (λ (x : Past). x.packets) (sym made), omega (arith, few, limit), omega (arith, some, limit), ap (λ (x : Past). x.newest) (sym made))

module _ (samples : List Sample) (all_steps : List HistoryStep) (sender : Sending) (history : Past) (receiver : Session) (t : Resending)
    (run : HistoryRuns samples all_steps (begins_with sender history receiver) t) (settings : HistorySettings) (is_new : history_by settings ≡ Ok history) where
  abbrev again : Option RetransmissionStream
  again = history.stream

  abbrev first : ℕ
  first = sender.stream.number

  begun_at : IsAt again first history.next (begins_with sender history receiver) []
  begun_at =
      let new = new_history settings history is_new in
      record {
        numbers = tt;
        next = omega arith;
        kept = record {
          latest = subst (AreLatest []) (sym new.0) (λ place p there. absurd (cc));
          few = omega (arith, ap length new.0);
          limit = new.1;
          stream = refl;
          next = refl;
        };
        newest = record {
          none = λ e. new.0;
          newest = λ n e. absurd (omega (arith, e));
          small = omega (arith, new.3);
          some = new.2;
        };
        repeats = tt;
      }

  comes : Comes again first history.next samples all_steps (begins_with sender history receiver) t []
  comes = history_comes again first history.next samples all_steps (begins_with sender history receiver) t [] begun_at run

  pub course : Proceeds again samples (plain_steps_of samples all_steps (begins_with sender history receiver) t) (begins sender receiver) t.wire
  course = subst (λ (as' : List Resent). Proceeds again samples (plain_steps first samples 0 [] all_steps t.wire.sends as') (begins sender receiver) t.wire) (sym comes.answers)
      (subst (λ (es : List SentSample). Proceeds again samples (plain_steps first samples 0 [] all_steps es comes.more) (begins sender receiver) t.wire) (sym comes.sends) comes.course)

  pub repeats : AreRepeats again history.next t.wire.datagrams t.retransmissions (repeated_of samples all_steps (begins_with sender history receiver) t)
  repeats = subst (λ (as' : List Resent). AreRepeats again history.next t.wire.datagrams t.retransmissions (repeated_in first samples 0 [] all_steps t.wire.sends as')) (sym comes.answers)
      (subst (λ (es : List SentSample). AreRepeats again history.next t.wire.datagrams t.retransmissions (repeated_in first samples 0 [] all_steps es comes.more)) (sym comes.sends) comes.repeats)

pub repeats_with_history : RepeatsWithHistory
repeats_with_history samples all_steps sender history receiver t run settings is_new = repeats samples all_steps sender history receiver t run settings is_new

pub promises_with_history : PromisesWithHistory
promises_with_history samples all_steps sender history receiver t run answers within =
    keeps_promises history.stream samples (plain_steps_of samples all_steps (begins_with sender history receiver) t) sender receiver t.wire
    (course samples all_steps sender history receiver t run answers.settings answers.new) answers.heard within

pub release_with_history : ReleaseWithHistory
release_with_history samples all_steps sender history receiver t run answers within =
    releases_all history.stream samples (plain_steps_of samples all_steps (begins_with sender history receiver) t) sender receiver t.wire
    (course samples all_steps sender history receiver t run answers.settings answers.new) answers.heard within
