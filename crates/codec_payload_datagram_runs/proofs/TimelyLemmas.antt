-- Packets below the first one that are timely: those of a sender whose datagrams come as the premises of a run say.
use Rattle.std.proofs.Common.{◌≡◌, ◌∙◌, refl, sym, ap, subst, ℕ, zero, suc, ◌+◌, ◌-◌, ◌*◌, ◌%◌, ◌^◌, ◌<◌, ◌≤◌, ◌&&◌, List, [], ◌∷◌, map, Bool, true, false, Option, Some, None, arith, ltb}
use Rattle.std.specs.Prelude.{slice_index_or}
use Rattle.std.proofs.lemmas.Bool.{ltb-true, le-ltb}
use Rattle.codec_payload_numbers.specs.NotedTimes.{first_or, is_untimely}
use Rattle.codec_payload_numbers.specs.Numbers.{number_in}
use Rattle.codec_payload_jitter.specs.Receiving.{first_with}
use Rattle.codec_payload_numbers.specs.declared.noted_times.NotedTime.{NotedTime}
use Rattle.codec_payload_numbers.specs.declared.numbers.Extended.{Extended}
use Rattle.codec_payload_numbers.specs.declared.numbers.Extended.TheVariants as extended
use Rattle.codec_payload_payloader.specs.Packets.{Packet}
use Rattle.codec_payload_datagram_runs.specs.Releases.{AreTimely, ComeTimely}

-- the RTP times of the packets, by their indices
abbrev pub time_in : List Packet → ℕ → ℕ
time_in [] n = 0
time_in (q ∷ packets) zero = q.rtp_time
time_in (q ∷ packets) (suc n) = time_in packets n

pub time_is : (packets : List Packet) (k : ℕ) → slice_index_or (map (λ (q : Packet). q.rtp_time) packets) k 0 ≡ time_in packets k
time_is [] k = refl
time_is (q ∷ packets) zero = refl
time_is (q ∷ packets) (suc k) = time_is packets k

-- the number and the RTP time of the packet with this index; `first` is the number of the first packet
abbrev pub stamp : ℕ → List Packet → ℕ → NotedTime
stamp first packets k = record { number = first + k; time = time_in packets k }

-- the packets with these indices are timely after this one
abbrev pub AllAfter : ℕ → ℕ → List Packet → NotedTime → List ℕ → Type 0
AllAfter rate first packets x [] = Unit {0}
AllAfter rate first packets x (k ∷ ks) = (is_untimely rate (Some x) (stamp first packets k) ≡ false) × AllAfter rate first packets x ks

-- the same after the first packet so far, or after the first of them
abbrev pub StayTimely : ℕ → ℕ → List Packet → Option NotedTime → List ℕ → Type 0
StayTimely rate first packets (Some x) ks = AllAfter rate first packets x ks
StayTimely rate first packets None [] = Unit {0}
StayTimely rate first packets None (k ∷ ks) = AllAfter rate first packets (stamp first packets k) ks

pub timely_now : (rate first : ℕ) (packets : List Packet) (o : Option NotedTime) (k : ℕ) (ks : List ℕ) → StayTimely rate first packets o (k ∷ ks)
    → is_untimely rate o (stamp first packets k) ≡ false
timely_now rate first packets (Some x) k ks stay = stay.0
timely_now rate first packets None k ks stay = refl

pub timely_later : (rate first : ℕ) (packets : List Packet) (o : Option NotedTime) (k : ℕ) (ks : List ℕ) → StayTimely rate first packets o (k ∷ ks)
    → StayTimely rate first packets (first_or o (stamp first packets k)) ks
timely_later rate first packets (Some x) k ks stay = stay.1
timely_later rate first packets None k ks stay = stay

-- the same from what a step says of the first packet
pub timely_next : (rate first : ℕ) (packets : List Packet) (o p : Option NotedTime) (e : Extended) (n time k : ℕ) (ks : List ℕ) → StayTimely rate first packets o (k ∷ ks)
    → p ≡ first_with o e time → e ≡ extended.Number n → n ≡ first + k → time ≡ time_in packets k → StayTimely rate first packets p ks
timely_next rate first packets o p e n time k ks stay is answer number same =
    let x : p ≡ first_or o (stamp first packets k) = is ∙ (ap (λ (y : Extended). first_with o y time) answer
    ∙ (ap (λ (m : ℕ). first_or o (record { number = m; time = time })) number ∙ ap (λ (m : ℕ). first_or o (record { number = first + k; time = m })) same)) in
    subst (λ (y : Option NotedTime). StayTimely rate first packets y ks) (sym x) (timely_later rate first packets o k ks stay)

-- the first packet after an announced restart
begun_with : (e : Extended) (n time : ℕ) → number_in e ≡ Some n → first_with None e time ≡ Some (record { number = n; time = time })
begun_with (extended.Number m) n time is = ap (λ (o : Option ℕ). stamped o) is
  where
    stamped : Option ℕ → Option NotedTime
    stamped None = None
    stamped (Some m) = Some (record { number = m; time = time })
begun_with (extended.Restarted m) n time is = ap (λ (o : Option ℕ). stamped o) is
  where
    stamped : Option ℕ → Option NotedTime
    stamped None = None
    stamped (Some m) = Some (record { number = m; time = time })
begun_with extended.Suspect n time is = cc
begun_with extended.Spent n time is = cc

pub timely_begun : (rate first : ℕ) (packets : List Packet) (o p : Option NotedTime) (e : Extended) (n time k : ℕ) (ks : List ℕ) → o ≡ None → StayTimely rate first packets None (k ∷ ks)
    → p ≡ first_with o e time → number_in e ≡ Some n → n ≡ first + k → time ≡ time_in packets k → StayTimely rate first packets p ks
timely_begun rate first packets o p e n time k ks none stay is answer number same =
    let x : p ≡ Some (stamp first packets k) = is ∙ (ap (λ (y : Option NotedTime). first_with y e time) none ∙ (begun_with e n time answer
    ∙ (ap (λ (m : ℕ). Some (record { number = m; time = time })) number ∙ ap (λ (m : ℕ). Some (record { number = first + k; time = m })) same))) in
    subst (λ (y : Option NotedTime). StayTimely rate first packets y ks) (sym x) stay

-- the premise of a packet
pub untimely_is : (rate rate' first : ℕ) (packets : List Packet) (o : Option NotedTime) (n time k : ℕ) → rate' ≡ rate → n ≡ first + k → time ≡ time_in packets k
    → is_untimely rate o (stamp first packets k) ≡ false → is_untimely rate' o (record { number = n; time = time }) ≡ false
untimely_is rate rate' first packets o n time k rates number same is =
    ap (λ (r : ℕ). is_untimely r o (record { number = n; time = time })) rates
    ∙ (ap (λ (m : ℕ). is_untimely rate o (record { number = m; time = time })) number
    ∙ (ap (λ (m : ℕ). is_untimely rate o (record { number = first + k; time = m })) same ∙ is))

-- From the premises of a run

after_one : (rate first j k : ℕ) (packets : List Packet) (times : List ℕ) → map (λ (q : Packet). q.rtp_time) packets ≡ times
    → (k < j → (slice_index_or times j 0 + 2 ^ 32 - slice_index_or times k 0) % 2 ^ 32 ≤ 5 * rate) → is_untimely rate (Some (stamp first packets j)) (stamp first packets k) ≡ false
after_one rate first j k packets times is timely = by_test (ltb (first + k) (first + j)) refl
  where
    from : slice_index_or times j 0 ≡ time_in packets j
    from = ap (λ (ts : List ℕ). slice_index_or ts j 0) (sym is) ∙ time_is packets j

    to : slice_index_or times k 0 ≡ time_in packets k
    to = ap (λ (ts : List ℕ). slice_index_or ts k 0) (sym is) ∙ time_is packets k

    by_test : (b : Bool) → ltb (first + k) (first + j) ≡ b → (b && ltb (5 * rate) ((time_in packets j + 2 ^ 32 - time_in packets k) % 2 ^ 32)) ≡ false
    by_test false test = refl
    by_test true test =
        let below : first + k < first + j = ltb-true (first + k) (first + j) test in
        let near : (slice_index_or times j 0 + 2 ^ 32 - slice_index_or times k 0) % 2 ^ 32 ≤ 5 * rate = timely (omega (arith, below)) in
        le-ltb (5 * rate) ((time_in packets j + 2 ^ 32 - time_in packets k) % 2 ^ 32)
        (subst (λ (m : ℕ). (m + 2 ^ 32 - time_in packets k) % 2 ^ 32 ≤ 5 * rate) from
        (subst (λ (m : ℕ). (slice_index_or times j 0 + 2 ^ 32 - m) % 2 ^ 32 ≤ 5 * rate) to near))

all_after : (rate first j : ℕ) (packets : List Packet) (times : List ℕ) (ks : List ℕ) → map (λ (q : Packet). q.rtp_time) packets ≡ times → AreTimely rate times j ks
    → AllAfter rate first packets (stamp first packets j) ks
all_after rate first j packets times [] is timely = tt
all_after rate first j packets times (k ∷ ks) is timely = (after_one rate first j k packets times is timely.0, all_after rate first j packets times ks is timely.1)

pub stay_timely : (rate first : ℕ) (packets : List Packet) (times : List ℕ) (ks : List ℕ) → map (λ (q : Packet). q.rtp_time) packets ≡ times → ComeTimely rate times ks
    → StayTimely rate first packets None ks
stay_timely rate first packets times [] is timely = tt
stay_timely rate first packets times (k ∷ ks) is timely = all_after rate first k packets times ks is timely
