-- Where each datagram of a sender of video stands: which payload of which picture it carries.
use Rattle.std.proofs.Common.{◌≡◌, ◌≢◌, ◌∙◌, ◌⊎◌, inl, inr, refl, sym, ap, subst, ℕ, zero, suc, ◌+◌, ◌-◌, ◌<◌, ◌≤◌, ◌||◌, ◌&&◌, eqb, List, [], ◌∷◌, ◌++◌, Bool, true, false, Option, Some, None, Ok, Err, length, get_or, slice_get, arith}
use Rattle.std.specs.Prelude.{slice_index_or}
use Rattle.std.proofs.lemmas.Bool.{cases_lt}
use Rattle.codec_payload_base.specs.Answers.{Lands}
use Rattle.codec_payload_base.specs.declared.error.PacketError.{PacketError}
use Rattle.codec_payload_base.specs.declared.error.PacketError.TheVariants as faults
use Rattle.codec_payload_codec.specs.Depacketizers.{DepacketizerKind}
use Rattle.codec_payload_codec.specs.Packetizers.{PacketizerState, PacketizerStep, facts_of, is_built_in, marker_of, payloads_by, talk_spurt_of}
use Rattle.codec_payload_codec.specs.Packetizers.{AmrWbPacketizing, Av1Packetizing, BoxedPacketizing, ComfortNoisePacketizing, G711Packetizing, G722Packetizing, NullPacketizing, OpusPacketizing, TelePacketizing, Vp8Packetizing, Vp9Packetizing}
use Rattle.codec_payload_datagram_runs.specs.WireRuns.{SendsOrRefuses, sent_sample}
use Rattle.codec_payload_datagram_runs.specs.declared.run.SentSample.{SentSample}
use Rattle.codec_payload_edges.specs.OwnSenders.{Answer, payload_at, pictures_of, sizes_of, start_of}
use Rattle.codec_payload_payloader.specs.Sending.{Sample}
use Rattle.codec_payload_rtp.specs.RtpPackets as rtp
use Rattle.codec_payload_rtp.specs.RtpReading.{rtp_at}
use Rattle.codec_payload_sending.specs.Datagrams.{Sample as SentNow, AreSent, IsSentAt}
use Rattle.codec_payload_sending.specs.Senders.{Sending}
use Rattle.codec_payload_session_units.specs.OneSender.{SendsAll}

-- ---- lists

pub index_is : (xs : List (List ℕ)) (k : ℕ) (d : List ℕ) → slice_get xs k ≡ Some d → slice_index_or xs k [] ≡ d
index_is [] k d there = absurd (cc)
index_is (x ∷ xs) zero d there = cc
index_is (x ∷ xs) (suc k) d there = index_is xs k d there

index_get : (xs : List (List ℕ)) (k : ℕ) → slice_index_or xs k [] ≡ get_or xs k []
index_get [] k = refl
index_get (x ∷ xs) zero = refl
index_get (x ∷ xs) (suc k) = index_get xs k

pub get_front : (xs ys : List (List ℕ)) (k : ℕ) (d : List ℕ) → k < length xs → slice_get (xs ++ ys) k ≡ Some d → slice_get xs k ≡ Some d
get_front [] ys k d below there = absurd (omega (arith, below))
get_front (x ∷ xs) ys zero d below there = there
get_front (x ∷ xs) ys (suc k) d below there = get_front xs ys k d (omega (arith, below)) there

pub get_behind : (xs ys : List (List ℕ)) (k : ℕ) (d : List ℕ) → length xs ≤ k → slice_get (xs ++ ys) k ≡ Some d → slice_get ys (k - length xs) ≡ Some d
get_behind [] ys k d above there = let same : k - 0 ≡ k = omega arith in subst (λ (n : ℕ). slice_get ys n ≡ Some d) (sym same) there
get_behind (x ∷ xs) ys zero d above there = absurd (omega (arith, above))
get_behind (x ∷ xs) ys (suc k) d above there =
    let same : k - length xs ≡ suc k - length (x ∷ xs) = omega arith in
    subst (λ (n : ℕ). slice_get ys n ≡ Some d) same (get_behind xs ys k d (omega (arith, above)) there)

-- ---- packetizers of one kind

pub kept_kind : (p : PacketizerState) (mtu : ℕ) (frame : List ℕ) (answer : Answer) (q : PacketizerState) → PacketizerStep p mtu frame answer q → payloads_by q ≡ payloads_by p
kept_kind G711Packetizing mtu frame answer q step = ap payloads_by step.1
kept_kind G722Packetizing mtu frame answer q step = ap payloads_by step.1
kept_kind OpusPacketizing mtu frame answer q step = ap payloads_by step.1
kept_kind NullPacketizing mtu frame answer q step = ap payloads_by step.1
kept_kind (Vp8Packetizing id) mtu frame answer q step = ap payloads_by step.3
kept_kind (Vp9Packetizing sender) mtu frame answer q step = ap payloads_by step.3
kept_kind ComfortNoisePacketizing mtu frame answer q step = ap payloads_by step.1
kept_kind TelePacketizing mtu frame answer q step = ap payloads_by step.1
kept_kind Av1Packetizing mtu frame answer q step = ap payloads_by step.1
kept_kind (AmrWbPacketizing octet) mtu frame answer q step = ap payloads_by step.1
kept_kind BoxedPacketizing mtu frame answer q step = ap payloads_by step

pub kept_built_in : (p : PacketizerState) (mtu : ℕ) (frame : List ℕ) (answer : Answer) (q : PacketizerState) → is_built_in p ≡ true → PacketizerStep p mtu frame answer q → is_built_in q ≡ true
kept_built_in G711Packetizing mtu frame answer q is step = ap is_built_in step.1
kept_built_in G722Packetizing mtu frame answer q is step = ap is_built_in step.1
kept_built_in OpusPacketizing mtu frame answer q is step = ap is_built_in step.1
kept_built_in NullPacketizing mtu frame answer q is step = ap is_built_in step.1
kept_built_in (Vp8Packetizing id) mtu frame answer q is step = ap is_built_in step.3
kept_built_in (Vp9Packetizing sender) mtu frame answer q is step = ap is_built_in step.3
kept_built_in ComfortNoisePacketizing mtu frame answer q is step = ap is_built_in step.1
kept_built_in TelePacketizing mtu frame answer q is step = ap is_built_in step.1
kept_built_in Av1Packetizing mtu frame answer q is step = ap is_built_in step.1
kept_built_in (AmrWbPacketizing octet) mtu frame answer q is step = ap is_built_in step.1
kept_built_in BoxedPacketizing mtu frame answer q is step = absurd (cc)

-- the answers of a packetizer, one after another
abbrev pub AreSteps : PacketizerState → List Answer → Type 0
AreSteps p [] = Unit {0}
AreSteps p (answer ∷ answers) = (mtu : ℕ) × (frame : List ℕ) × (q : PacketizerState) × PacketizerStep p mtu frame answer q × AreSteps q answers

-- ---- a datagram

-- the datagram reads as a packet with this payload of these pictures, and the last one of its picture has the marker
pub record IsPartOf (pictures : List (List (List ℕ))) (k : ℕ) (d : List ℕ) : Type 0 where
  pub packet : rtp.Packet
  pub reads : rtp_at d ≡ Ok packet
  pub picture : ℕ
  pub place : ℕ
  pub within : place < length (get_or pictures picture [])
  pub at : k ≡ start_of (sizes_of pictures) picture + place
  pub payload : packet.payload ≡ payload_at pictures picture place
  pub marker : packet.header.marker ≡ eqb (suc place) (length (get_or pictures picture []))

abbrev pub ArePartsOf : List (List (List ℕ)) → List (List ℕ) → Type 0
ArePartsOf pictures ds = (k : ℕ) (d : List ℕ) → slice_get ds k ≡ Some d → IsPartOf pictures k d

-- a kind that marks the last packet of a sample alone
abbrev pub MarksLast : DepacketizerKind → Type 0
MarksLast kind = ((facts_of kind).marks_last ≡ true) × ((facts_of kind).marks_spurt ≡ false)

marks : (p : PacketizerState) (last start : Bool) → MarksLast (payloads_by p) → (marker_of p last || (talk_spurt_of p && start)) ≡ last
marks p last start is = rw (is.0, is.1) (by last)
  where
    by : (b : Bool) → ((true && b) || (false && start)) ≡ b
    by true = refl
    by false = refl

-- one more picture in front
behind_front : (payloads : List (List ℕ)) (pictures : List (List (List ℕ))) (n k : ℕ) (d : List ℕ) → n ≡ length payloads → n ≤ k → IsPartOf pictures (k - n) d → IsPartOf (payloads ∷ pictures) k d
behind_front payloads pictures n k d count above is = record {
  packet = is.packet;
  reads = is.reads;
  picture = suc is.picture;
  place = is.place;
  within = is.within;
  at = omega (arith, is.at, count, above);
  payload = is.payload;
  marker = is.marker;
}

module _ (packetizer : PacketizerState) (marked : MarksLast (payloads_by packetizer)) (built : is_built_in packetizer ≡ true) where
  front_part : (stream : _) (sample : SentNow) (payloads : List (List ℕ)) (pictures : List (List (List ℕ))) (ds : List (List ℕ)) (k : ℕ) (d : List ℕ) → AreSent stream packetizer sample payloads ds → k < length payloads
      → slice_get ds k ≡ Some d → IsPartOf (payloads ∷ pictures) k d
  front_part stream sample payloads pictures ds k d sent below there =
      let at : IsSentAt stream packetizer sample (length payloads) k (slice_index_or payloads k []) (slice_index_or ds k []) = sent.1 k below in
      let is : IsSentAt stream packetizer sample (length payloads) k (slice_index_or payloads k []) d =
      subst (λ (x : List ℕ). IsSentAt stream packetizer sample (length payloads) k (slice_index_or payloads k []) x) (index_is ds k d there) at in
      let next : k + 1 ≡ suc k = omega arith in
      record {
        packet = record { header = _; payload = slice_index_or payloads k []; padding = 0 };
        reads = is.reads;
        picture = 0;
        place = k;
        within = below;
        at = omega arith;
        payload = index_get payloads k;
        marker = is.marked built ∙ (marks packetizer (eqb (k + 1) (length payloads)) sample.start_of_talk_spurt marked ∙ ap (λ (n : ℕ). eqb n (length payloads)) next);
      }

  -- the datagrams of one sample, and those behind them
  sent_parts : (stream : _) (sample : SentNow) (payloads : List (List ℕ)) (answers : List Answer) (ds more : List (List ℕ)) → AreSent stream packetizer sample payloads ds → ArePartsOf (pictures_of answers) more
      → ArePartsOf (pictures_of (Ok payloads ∷ answers)) (ds ++ more)
  sent_parts stream sample [] answers ds more sent later k d there =
      let none : length ds ≡ 0 = sent.0 in
      let same : k - length ds ≡ k = omega (arith, none) in
      subst (λ (n : ℕ). IsPartOf (pictures_of answers) n d) same (later (k - length ds) d (get_behind ds more k d (omega (arith, none)) there))
  sent_parts stream sample (payload ∷ payloads) answers ds more sent later k d there = by (cases_lt k (length ds))
    where
      by : (k < length ds) ⊎ (length ds ≤ k) → IsPartOf ((payload ∷ payloads) ∷ pictures_of answers) k d
      by (inl below) = front_part stream sample (payload ∷ payloads) (pictures_of answers) ds k d sent (omega (arith, below, sent.0)) (get_front ds more k d below there)
      by (inr above) = behind_front (payload ∷ payloads) (pictures_of answers) (length ds) k d sent.0 above (later (k - length ds) d (get_behind ds more k d above there))

-- ---- all samples

pub record Placing (p : PacketizerState) (ds : List (List ℕ)) : Type 0 where
  pub answers : List Answer
  pub steps : AreSteps p answers
  pub parts : ArePartsOf (pictures_of answers) ds

no_parts : (pictures : List (List (List ℕ))) (ds : List (List ℕ)) → ds ≡ [] → ArePartsOf pictures ds
no_parts pictures ds none k d there = let no : slice_get [] k ≡ Some d = subst (λ (x : List (List ℕ)). slice_get x k ≡ Some d) none there in absurd (cc)

refused_answer : (answer : Answer) (fault : PacketError) → fault ≢ faults.OutOfMemory → Lands answer (Err fault) [] → (other : PacketError) × (answer ≡ Err other)
refused_answer (Ok packets) fault found lands = absurd (found lands)
refused_answer (Err other) fault found lands = (other, refl)

err_parts : (fault : PacketError) (answer : Answer) (answers : List Answer) (ds : List (List ℕ)) → answer ≡ Err fault → ArePartsOf (pictures_of answers) ds → ArePartsOf (pictures_of (answer ∷ answers)) ds
err_parts fault answer answers ds is parts = subst (λ (a : Answer). ArePartsOf (pictures_of (a ∷ answers)) ds) (sym is) parts

-- one sample, and those behind it, once its packetizer is known
sample_placing : (kind : DepacketizerKind) (sample : Sample) (s t : Sending) (fault : Option PacketError) (more ds : List (List ℕ)) → MarksLast kind → payloads_by s.packetizer ≡ kind → is_built_in s.packetizer ≡ true
    → SendsOrRefuses (sent_sample sample) s fault t → ds ≡ t.datagrams ++ more → (payloads_by t.packetizer ≡ kind → is_built_in t.packetizer ≡ true → Placing t.packetizer more) → Placing s.packetizer ds
sample_placing kind sample s t None more ds marked is built got joined go =
    let step : PacketizerStep s.packetizer s.mtu sample.bytes (Ok got.payloads) t.packetizer = got.packetized built in
    let kind_is : payloads_by t.packetizer ≡ kind = kept_kind s.packetizer s.mtu sample.bytes (Ok got.payloads) t.packetizer step ∙ is in
    let built_then : is_built_in t.packetizer ≡ true = kept_built_in s.packetizer s.mtu sample.bytes (Ok got.payloads) t.packetizer built step in
    let rest : Placing t.packetizer more = go kind_is built_then in
    record {
      answers = Ok got.payloads ∷ rest.answers;
      steps = (s.mtu, sample.bytes, t.packetizer, step, rest.steps);
      parts = subst (λ (x : List (List ℕ)). ArePartsOf (pictures_of (Ok got.payloads ∷ rest.answers)) x) (sym joined)
          (sent_parts t.packetizer (subst MarksLast (sym kind_is) marked) built_then s.stream (sent_sample sample) got.payloads rest.answers t.datagrams more got.sent rest.parts);
    }
sample_placing kind sample s t (Some fault) more ds marked is built got joined go =
    let answered = got.1.packetized built in
    let answer : Answer = answered.0 in
    let refused = refused_answer answer fault got.0 answered.2 in
    let kind_is : payloads_by t.packetizer ≡ kind = kept_kind s.packetizer s.mtu sample.bytes answer t.packetizer answered.1 ∙ is in
    let built_then : is_built_in t.packetizer ≡ true = kept_built_in s.packetizer s.mtu sample.bytes answer t.packetizer built answered.1 in
    let rest : Placing t.packetizer more = go kind_is built_then in
    let none : t.datagrams ≡ [] = ap (λ (x : Sending). x.datagrams) got.1.left in
    let whole : ds ≡ more = joined ∙ ap (λ (x : List (List ℕ)). x ++ more) none in
    record {
      answers = answer ∷ rest.answers;
      steps = (s.mtu, sample.bytes, t.packetizer, answered.1, rest.steps);
      parts = subst (λ (x : List (List ℕ)). ArePartsOf (pictures_of (answer ∷ rest.answers)) x) (sym whole) (err_parts refused.0 answer rest.answers more refused.1 rest.parts);
    }

pub sends_placing : (kind : DepacketizerKind) (samples : List Sample) (s : Sending) (entries : List SentSample) (ds : List (List ℕ)) → MarksLast kind → payloads_by s.packetizer ≡ kind → is_built_in s.packetizer ≡ true
    → SendsAll samples s entries ds → Placing s.packetizer ds
sends_placing kind [] s [] ds marked is built sends = record { answers = []; steps = tt; parts = no_parts [] ds sends }
sends_placing kind [] s (entry ∷ entries) ds marked is built sends = absurd sends
sends_placing kind (sample ∷ samples) s [] ds marked is built sends = absurd sends
sends_placing kind (sample ∷ samples) s (entry ∷ entries) ds marked is built sends =
    sample_placing kind sample s sends.0 entry.fault sends.1 ds marked is built sends.2 sends.4
    (λ kind_is built_then. sends_placing kind samples sends.0 entries sends.1 marked kind_is built_then sends.5)
