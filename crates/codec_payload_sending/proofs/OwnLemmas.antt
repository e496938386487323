-- A custom packetizer between the questions to it.
use Rattle.std.proofs.Common.{◌≡◌, ◌∙◌, ap, refl, sym, subst, ℕ, zero, suc, ◌+◌, ◌<◌, List, [], ◌∷◌, length, get_or, slice_set, Bool, false, Option, Result, Ok, Err, ◌⊎◌, inl, inr, add-one, arith}
use Rattle.std.proofs.lemmas.List.{get_or-set_other, get_or-set_same}
use Rattle.std.proofs.lemmas.Bool.{cases_order}
use Rattle.codec_payload_base.specs.Answers.{Lands}
use Rattle.codec_payload_base.specs.PayloadLists.{PayloadList}
use Rattle.codec_payload_base.specs.declared.error.PacketError.{PacketError}
use Rattle.codec_payload_codec.specs.Packetizers.{PacketizerState}
use Rattle.codec_payload_rtp.specs.RtpReading.{rtp_at}
use Rattle.codec_payload_sending.specs.Datagrams.{IsHeader, IsHeadedAt, Sample, header_at, joined}
use Rattle.codec_payload_sending.specs.OwnDatagrams.{AreAsked, IsAskedAt, OwnSample, ReadsAt}
use Rattle.codec_payload_sending.specs.declared.sender.Outgoing.{Outgoing}
use Rattle.codec_payload_sending.proofs.SenderLemmas.{joined_at, length-joined}

-- the same questions, with a consequence of each marker
pub asked_as : {B : Type 0} (state : B → List ℕ) (mark : B → List ℕ → Option (List ℕ) → Bool → Bool → List ℕ → Type 0) (spurts : B → Bool)
    (sample : Sample) (payloads : List (List ℕ)) (P Q : ℕ → Bool → Type 0) (n : ℕ) (b b' : B)
    → ((place : ℕ) (marker : Bool) → place < n → P place marker → Q place marker)
    → AreAsked state mark spurts sample payloads P n b b' → AreAsked state mark spurts sample payloads Q n b b'
asked_as state mark spurts sample payloads P Q zero b b' so asked = asked
asked_as state mark spurts sample payloads P Q (suc n) b b' so asked = (
  asked.0,
  asked_as state mark spurts sample payloads P Q n b asked.0 (λ place marker few. so place marker (omega (arith, few))) asked.1,
  asked.2,
  asked.3,
  so n asked.2 (omega arith) asked.4,
)

-- the next marker was asked for
pub asked_next : {B : Type 0} (state : B → List ℕ) (mark : B → List ℕ → Option (List ℕ) → Bool → Bool → List ℕ → Type 0) (spurts : B → Bool)
    (sample : Sample) (payloads : List (List ℕ)) (P : ℕ → Bool → Type 0) (n : ℕ) (b mid b' : B) (marker : Bool)
    → AreAsked state mark spurts sample payloads P n b mid → IsAskedAt state mark spurts sample payloads n mid marker b' → P n marker
    → AreAsked state mark spurts sample payloads P (n + 1) b b'
asked_next state mark spurts sample payloads P n b mid b' marker asked next holds = rw add-one (mid, asked, marker, next, holds)

-- the same, whatever its packet became
pub asked_then : {B : Type 0} (state : B → List ℕ) (mark : B → List ℕ → Option (List ℕ) → Bool → Bool → List ℕ → Type 0) (spurts : B → Bool)
    (sample : Sample) (payloads : List (List ℕ)) (P : ℕ → Bool → Type 0) (n : ℕ) (b mid b' : B) (marker : Bool)
    → AreAsked state mark spurts sample payloads P n b mid → IsAskedAt state mark spurts sample payloads n mid marker b'
    → AreAsked state mark spurts sample payloads (λ _ _. Unit {0}) (n + 1) b b'
asked_then state mark spurts sample payloads P n b mid b' marker asked next =
    asked_next state mark spurts sample payloads (λ _ _. Unit {0}) n b mid b' marker
    (asked_as state mark spurts sample payloads P (λ _ _. Unit {0}) n b mid (λ place marker few holds. tt) asked) next tt

-- the bytes at that place read as the header of its packet
abbrev pub HeadsAt : Outgoing → Sample → ℕ → List (List ℕ) → ℕ → Bool → Type 0
HeadsAt stream sample count headers place marker = IsHeader (get_or headers place []) (header_at stream sample place count marker)

-- the next header was put in front of its payload
pub asked_headed : {B : Type 0} (state : B → List ℕ) (mark : B → List ℕ → Option (List ℕ) → Bool → Bool → List ℕ → Type 0) (spurts : B → Bool)
    (stream : Outgoing) (sample : Sample) (payloads headers headers' : List (List ℕ)) (header : List ℕ) (count n : ℕ) (b mid b' : B) (marker : Bool)
    → n < length headers → headers' ≡ slice_set headers n header
    → AreAsked state mark spurts sample payloads (HeadsAt stream sample count headers) n b mid → IsAskedAt state mark spurts sample payloads n mid marker b'
    → IsHeader header (header_at stream sample n count marker)
    → AreAsked state mark spurts sample payloads (HeadsAt stream sample count headers') (n + 1) b b'
asked_headed {B} state mark spurts stream sample payloads headers headers' header count n b mid b' marker few put asked next holds =
    subst (λ (hs : List (List ℕ)). AreAsked state mark spurts sample payloads (HeadsAt stream sample count hs) (n + 1) b b') (sym put)
    (asked_next state mark spurts sample payloads (HeadsAt stream sample count (slice_set headers n header)) n b mid b' marker
    (asked_as state mark spurts sample payloads (HeadsAt stream sample count headers) (HeadsAt stream sample count (slice_set headers n header)) n b mid
    (λ place m below h. subst (λ (x : List ℕ). IsHeader x (header_at stream sample place count m)) (sym (get_or-set_other headers n place header [] (omega (arith, below)))) h) asked)
    next (subst (λ (x : List ℕ). IsHeader x (header_at stream sample n count marker)) (sym (get_or-set_same headers n header [] few)) holds))

-- headers so far, and the one that was put at the next place
pub headed_next : (stream : Outgoing) (packetizer : PacketizerState) (sample : Sample) (count n : ℕ) (headers headers' : List (List ℕ)) (header : List ℕ)
    → n < length headers → headers' ≡ slice_set headers n header → IsHeadedAt stream packetizer sample count n header
    → ((k : ℕ) → k < n → IsHeadedAt stream packetizer sample count k (get_or headers k []))
    → (k : ℕ) → k < n + 1 → IsHeadedAt stream packetizer sample count k (get_or headers' k [])
headed_next stream packetizer sample count n headers headers' header few put next so_far k within =
    subst (λ (hs : List (List ℕ)). IsHeadedAt stream packetizer sample count k (get_or hs k [])) (sym put) (case (cases_order k n))
  where
    case : (k ≡ n) ⊎ ((k < n) ⊎ (n < k)) → IsHeadedAt stream packetizer sample count k (get_or (slice_set headers n header) k [])
    case (inl same) = subst (λ (j : ℕ). IsHeadedAt stream packetizer sample count j (get_or (slice_set headers n header) j [])) (sym same)
        (subst (λ (x : List ℕ). IsHeadedAt stream packetizer sample count n x) (sym (get_or-set_same headers n header [] few)) next)
    case (inr (inl below)) = subst (λ (x : List ℕ). IsHeadedAt stream packetizer sample count k x) (sym (get_or-set_other headers n k header [] (omega (arith, below))))
        (so_far k below)
    case (inr (inr above)) = absurd (omega (arith, within, above))

-- ---- a sample

-- what was written is the answer
pub landed : (P : Result (List (List ℕ)) PacketError → Type 0) (payloads : List (List ℕ)) (done : Unit {0}) (answer : Result (List (List ℕ)) PacketError)
    → P answer → Lands answer (Ok done) payloads → P (Ok payloads)
landed P payloads done (Ok packets) holds lands = subst (λ (ps : List (List ℕ)). P (Ok ps)) (sym lands) holds
landed P payloads done (Err fault) holds lands = absurd (cc)

-- a sample whose payloads have their headers was sent
pub own_sends : {B : Type 0} (state : B → List ℕ) (packetize : B → ℕ → List ℕ → Result (List (List ℕ)) PacketError → List ℕ → Type 0)
    (mark : B → List ℕ → Option (List ℕ) → Bool → Bool → List ℕ → Type 0) (spurts : B → Bool)
    (mtu : ℕ) (stream : Outgoing) (sample : Sample) (b cut b' : B) (done : Unit {0}) (out last : PayloadList) (headers : List (List ℕ))
    → last ≡ record out { headers = headers } → packetize b mtu sample.bytes (Ok out.payloads) (state cut)
    → AreAsked state mark spurts sample out.payloads (HeadsAt stream sample (length out.payloads) headers) (length out.payloads) cut b'
    → OwnSample state packetize mark spurts mtu stream sample b (Ok done) b' (joined last.headers last.payloads)
own_sends {B} state packetize mark spurts mtu stream sample b cut b' done out last headers is step asked =
    subst (λ (o : PayloadList). OwnSample state packetize mark spurts mtu stream sample b (Ok done) b' (joined o.headers o.payloads)) (sym is) (
      out.payloads,
      cut,
      step,
      length-joined headers out.payloads,
      asked_as state mark spurts sample out.payloads (HeadsAt stream sample (length out.payloads) headers) (ReadsAt stream sample out.payloads (joined headers out.payloads))
          (length out.payloads) cut b'
          (λ place marker few h. subst (λ (d : List ℕ). rtp_at d ≡ Ok (record { header = header_at stream sample place (length out.payloads) marker; payload = get_or out.payloads place []; padding = 0 }))
          (sym (joined_at headers out.payloads place few)) (h (get_or out.payloads place []))) asked,
    )

-- a sample whose payloads were not written was refused
pub own_refused : {B : Type 0} (state : B → List ℕ) (packetize : B → ℕ → List ℕ → Result (List (List ℕ)) PacketError → List ℕ → Type 0)
    (mark : B → List ℕ → Option (List ℕ) → Bool → Bool → List ℕ → Type 0) (spurts : B → Bool)
    (mtu : ℕ) (stream : Outgoing) (sample : Sample) (b b' : B) (fault : PacketError) (written datagrams : List (List ℕ)) (answer : Result (List (List ℕ)) PacketError)
    → packetize b mtu sample.bytes answer (state b') → Lands answer (Err fault) written
    → OwnSample state packetize mark spurts mtu stream sample b (Err fault) b' datagrams
own_refused state packetize mark spurts mtu stream sample b b' fault written datagrams (Ok packets) step lands = inr (lands, packets, b', step, 0, omega arith, refl)
own_refused state packetize mark spurts mtu stream sample b b' fault written datagrams (Err own) step lands =
    let same : own ≡ fault = cc in
    inl (subst (λ (f : PacketError). packetize b mtu sample.bytes (Err f) (state b')) same step)
