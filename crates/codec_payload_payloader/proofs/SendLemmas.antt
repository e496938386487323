-- The packets that a sink accepted grow one by one.
use Rattle.std.proofs.Common.{◌≡◌, ◌∙◌, sym, ap, refl, subst, ℕ, List, [], ◌∷◌, ◌++◌, append_assoc, map, length, ◌==◌, ◌+◌, ◌%◌, ◌^◌, ◌<◌, arith, length-append, Bool, true, false, suc, ◌||◌, ◌&&◌}
use Rattle.std.specs.Global.{Vec}
use Rattle.std.proofs.lemmas.List.{append-nil}
use Rattle.std.proofs.lemmas.Bool.Decides.{nat_tests}
use Rattle.std.proofs.lemmas.List.{length-map}
use Rattle.std.proofs.Math.Nat.{mod-eq_of_lt}
use Rattle.codec_payload_codec.proofs.CaseLemmas.{by_test}
use Rattle.codec_payload_payloader.specs.Packets.{Packet, SentPackets, AreNumbered}
use Rattle.codec_payload_payloader.specs.Sending.{Sends, Sample, packet_for, packets_for, packets_from, is_last, number_after, IsAs, AreAs}
use Rattle.codec_payload_base.specs.declared.error.PacketError.{PacketError}
use Rattle.codec_payload_codec.specs.Packetizers.{PacketizerState, is_built_in, marker_of, talk_spurt_of, nackable_of}
use Rattle.codec_payload_base.specs.StrippedValues.{stripped}
use Rattle.codec_payload_base.specs.declared.wire.extension.ExtensionValues.{ExtensionValues}

number_after_one : (number : ℕ) (packets : List Packet) (packet : Packet) → number_after number (packets ++ packet ∷ []) ≡ (number_after number packets + 1) % 2 ^ 64
number_after_one number [] packet = refl
number_after_one number (p ∷ packets) packet = number_after_one ((number + 1) % 2 ^ 64) packets packet

as_self : (b : Bool) (p : Packet) → IsAs b p p
as_self true p = refl
as_self false p = refl

pub all_as_self : (b : Bool) (ps : List Packet) → AreAs b ps ps
all_as_self b [] = tt
all_as_self b (p ∷ ps) = (as_self b p, all_as_self b ps)

as_other : (b : Bool) (p q r : Packet) → IsAs b p q → IsAs b q r → IsAs b p r
as_other true p q r one two = one ∙ two
as_other false p q r one two = one ∙ ap (λ (x : Packet). record x { marker = p.marker; nackable = p.nackable }) two

-- one packet in the place of another
as_in_place : (b : Bool) (begun : List Packet) (p q : Packet) (rest all : List Packet) → IsAs b p q → AreAs b (begun ++ q ∷ rest) all → AreAs b (begun ++ p ∷ rest) all
as_in_place b [] p q rest [] one whole = whole
as_in_place b [] p q rest (r ∷ rs) one whole = (as_other b p q r one whole.0, whole.1)
as_in_place b (x ∷ begun) p q rest [] one whole = whole
as_in_place b (x ∷ begun) p q rest (r ∷ rs) one whole = (whole.0, as_in_place b begun p q rest rs one whole.1)

as_number : (b : Bool) (p q : Packet) → IsAs b p q → p.number ≡ q.number
as_number true p q one = ap (λ (x : Packet). x.number) one
as_number false p q one = ap (λ (x : Packet). x.number) one

pub as_many : (b : Bool) (ps qs : List Packet) → AreAs b ps qs → length ps ≡ length qs
as_many b [] [] are = refl
as_many b (p ∷ ps) (q ∷ qs) are = ap suc (as_many b ps qs are.1)
as_many b [] (q ∷ qs) are = absurd are
as_many b (p ∷ ps) [] are = absurd are

-- one packet, with the marker from this packetizer, and whether it may be retransmitted
pub as_for : (p : PacketizerState) (sample : Sample) (rtp_time n number : ℕ) (values : ExtensionValues) (last marker nackable : Bool) (payload : List ℕ) → number ≡ n
    → (is_built_in p ≡ true → marker ≡ (marker_of p last || (talk_spurt_of p && sample.start_of_talk_spurt))) → (is_built_in p ≡ true → nackable ≡ nackable_of p)
    → IsAs (is_built_in p) (record {
      pt = sample.pt;
      number = number;
      rtp_time = rtp_time;
      wallclock = sample.wallclock;
      marker = marker;
      nackable = nackable;
      ext_vals = values;
      payload = payload;
    }) (packet_for p sample rtp_time n values last payload)
as_for p sample rtp_time n number values last marker nackable payload same marks asks =
    let told : Bool → Bool → ℕ → Packet = λ m a k. record {
      pt = sample.pt;
      number = k;
      rtp_time = rtp_time;
      wallclock = sample.wallclock;
      marker = m;
      nackable = a;
      ext_vals = values;
      payload = payload;
    } in
    by_test (is_built_in p) (λ b. IsAs b (told marker nackable number) (packet_for p sample rtp_time n values last payload))
    (λ e. ap (told marker nackable) same ∙ (ap (λ (m : Bool). told m nackable n) (marks e) ∙ ap (λ (a : Bool). told (marker_of p last || (talk_spurt_of p && sample.start_of_talk_spurt)) a n) (asks e)))
    (λ e. ap (told marker nackable) same)

-- packets of a packetizer that is built in
pub as_built_in : (ps qs : List Packet) → AreAs true ps qs → ps ≡ qs
as_built_in [] [] are = refl
as_built_in (p ∷ ps) (q ∷ qs) are = ap (λ (x : Packet). x ∷ ps) are.0 ∙ ap (λ (xs : List Packet). q ∷ xs) (as_built_in ps qs are.1)
as_built_in [] (q ∷ qs) are = absurd are
as_built_in (p ∷ ps) [] are = absurd are

module _ (b : Bool) {S : Type 0} (accepts : S → Packet → Packet → S → Type 0) (sent : S → List Packet) (next : S → ℕ) where
  -- of all packets the rest is still to be sent: those before it were, and the sink gained their images
  pub record SentSoFar (before : S) (all rest : List Packet) (now : S) : Type 0 where
    pub begun : List Packet
    pub images : List Packet
    pub sends : Sends accepts before begun images now
    pub gained : sent now ≡ sent before ++ images
    pub goes_on : next now ≡ number_after (next before) images
    pub whole : AreAs b (begun ++ rest) all

  -- one packet more after the accepted ones
  pub sends_one : (before : S) (begun images : List Packet) (mid : S) (packet image : Packet) (after : S)
      → Sends accepts before begun images mid → accepts mid packet image after
      → Sends accepts before (begun ++ packet ∷ []) (images ++ image ∷ []) after
  sends_one before [] images mid packet image after sends accepted =
      (image, [], after, ap (λ xs. xs ++ image ∷ []) sends.0, subst (λ (x : S). accepts x packet image after) sends.1 accepted, (refl, refl))
  sends_one before (p ∷ ps) images mid packet image after sends accepted =
      (sends.0, sends.1 ++ image ∷ [], sends.2, ap (λ xs. xs ++ image ∷ []) sends.3, sends.4, sends_one sends.2 ps sends.1 mid packet image after sends.5 accepted)

  pub none_so_far : (before : S) (all : List Packet) → SentSoFar before all all before
  none_so_far before all = record { begun = []; images = []; sends = (refl, refl); gained = sym (append-nil _); goes_on = refl; whole = all_as_self b all }

  pub one_so_far : (before : S) (all : List Packet) (packet like : Packet) → IsAs b packet like → (rest : List Packet) (mid : S) (image : Packet) (after : S)
      → SentSoFar before all (like ∷ rest) mid → accepts mid packet image after → sent after ≡ sent mid ++ image ∷ [] → next after ≡ (next mid + 1) % 2 ^ 64
      → SentSoFar before all rest after
  one_so_far before all packet like is rest mid image after so_far accepted grown numbered = record {
    begun = so_far.begun ++ packet ∷ [];
    images = so_far.images ++ image ∷ [];
    sends = sends_one before so_far.begun so_far.images mid packet image after so_far.sends accepted;
    gained = grown ∙ (ap (λ xs. xs ++ image ∷ []) so_far.gained ∙ append_assoc (sent before) so_far.images (image ∷ []));
    goes_on = numbered ∙ (ap (λ (n : ℕ). (n + 1) % 2 ^ 64) so_far.goes_on ∙ sym (number_after_one (next before) so_far.images image));
    whole = subst (λ (ps : List Packet). AreAs b ps all) (sym (append_assoc so_far.begun (packet ∷ []) rest)) (as_in_place b so_far.begun packet like rest all is so_far.whole);
  }

  -- if nothing is left, all were sent
  pub all_so_far : (before : S) (all : List Packet) (now : S) (so_far : SentSoFar before all [] now) → AreAs b so_far.begun all
  all_so_far before all now so_far = subst (λ (ps : List Packet). AreAs b ps all) (append-nil _) so_far.whole

-- no payload is left after the last
pub is_last_at_end : (vs : List (Vec ℕ)) (place count : ℕ) → count ≡ place + 1 + length vs → (place + 1 == count) ≡ is_last (map (λ v. v.items) vs)
is_last_at_end [] place count e = grind (arith, nat_tests, e)
is_last_at_end (v ∷ vs) place count e = grind (arith, nat_tests, e)

-- the next packet, at its place, and those after it
unfolded_so_far : {S : Type 0} (accepts : S → Packet → Packet → S → Type 0) (sent : S → List Packet) (next : S → ℕ)
    (before : S) (all : List Packet) (packetizer : PacketizerState) (sample : Sample) (rtp_time : ℕ) (vs : List (Vec ℕ)) (v : Vec ℕ) (left : List (Vec ℕ))
    (place count : ℕ) (values : ExtensionValues) (mid : S)
    → vs ≡ v ∷ left → count ≡ place + 1 + length left → values ≡ stripped sample.ext_vals place count
    → SentSoFar (is_built_in packetizer) accepts sent next before all (packets_from packetizer sample rtp_time (next mid) place (map (λ w. w.items) vs)) mid
    → SentSoFar (is_built_in packetizer) accepts sent next before all (packet_for packetizer sample rtp_time (next mid) values (place + 1 == count) v.items
    ∷ packets_from packetizer sample rtp_time ((next mid + 1) % 2 ^ 64) (place + 1) (map (λ w. w.items) left)) mid
unfolded_so_far accepts sent next before all packetizer sample rtp_time vs v left place count values mid split many given so_far =
    let here : ExtensionValues → Bool → List Packet = λ x last. packet_for packetizer sample rtp_time (next mid) x last v.items
    ∷ packets_from packetizer sample rtp_time ((next mid + 1) % 2 ^ 64) (place + 1) (map (λ w. w.items) left) in
    let size : count ≡ place + 1 + length (map (λ w. w.items) left) = many ∙ ap (λ (n : ℕ). place + 1 + n) (sym (length-map left (λ w. w.items))) in
    let is : here values (place + 1 == count) ≡ packets_from packetizer sample rtp_time (next mid) place (map (λ w. w.items) (v ∷ left)) =
    ap (here values) (is_last_at_end left place count many) ∙ ap (λ (x : ExtensionValues). here x (is_last (map (λ w. w.items) left))) (given ∙ ap (stripped sample.ext_vals place) size) in
    subst (λ (ps : List Packet). SentSoFar (is_built_in packetizer) accepts sent next before all ps mid) (sym is)
    (subst (λ (ws : List (Vec ℕ)). SentSoFar (is_built_in packetizer) accepts sent next before all
    (packets_from packetizer sample rtp_time (next mid) place (map (λ w. w.items) ws)) mid) split so_far)

-- the next payload was sent
pub next_so_far : {S : Type 0} (accepts : S → Packet → Packet → S → Type 0) (sent : S → List Packet) (next : S → ℕ)
    (before : S) (all : List Packet) (packetizer here : PacketizerState) (sample : Sample) (rtp_time : ℕ) (vs : List (Vec ℕ)) (v : Vec ℕ) (left : List (Vec ℕ)) (place count : ℕ)
    (values : ExtensionValues) (mid after : S)
    → vs ≡ v ∷ left → count ≡ place + 1 + length left → values ≡ stripped sample.ext_vals place count → here ≡ packetizer
    → SentSoFar (is_built_in packetizer) accepts sent next before all (packets_from packetizer sample rtp_time (next mid) place (map (λ w. w.items) vs)) mid
    → (packet : Packet) × IsAs (is_built_in here) packet (packet_for here sample rtp_time (next mid) values (place + 1 == count) v.items) × (image : Packet)
    × accepts mid packet image after × (sent after ≡ sent mid ++ image ∷ []) × (next after ≡ (next mid + 1) % 2 ^ 64)
    → SentSoFar (is_built_in packetizer) accepts sent next before all (packets_from packetizer sample rtp_time (next after) (place + 1) (map (λ w. w.items) left)) after
next_so_far accepts sent next before all packetizer here sample rtp_time vs v left place count values mid after split many given same so_far one =
    let unfolded : SentSoFar (is_built_in packetizer) accepts sent next before all (packet_for packetizer sample rtp_time (next mid) values (place + 1 == count) v.items
    ∷ packets_from packetizer sample rtp_time (next after) (place + 1) (map (λ w. w.items) left)) mid =
    subst (λ (n : ℕ). SentSoFar (is_built_in packetizer) accepts sent next before all (packet_for packetizer sample rtp_time (next mid) values (place + 1 == count) v.items
    ∷ packets_from packetizer sample rtp_time n (place + 1) (map (λ w. w.items) left)) mid) (sym one.5)
    (unfolded_so_far accepts sent next before all packetizer sample rtp_time vs v left place count values mid split many given so_far) in
    one_so_far (is_built_in packetizer) accepts sent next before all one.0 _
    (subst (λ (p : PacketizerState). IsAs (is_built_in p) one.0 (packet_for p sample rtp_time (next mid) values (place + 1 == count) v.items)) same one.1) _ mid one.2 after
    unfolded one.3 one.4 one.5

-- a sink in memory keeps its packets
abbrev pub Keeps : SentPackets → Packet → Packet → SentPackets → Type 0
Keeps before packet image after = (image ≡ packet) × (after ≡ record before { packets = before.packets ++ packet ∷ [] }) × (after.first + length after.packets < 2 ^ 64)

pub kept_all : (before : SentPackets) (packets images : List Packet) (after : SentPackets) → Sends Keeps before packets images after
    → (images ≡ packets) × (after ≡ record before { packets = before.packets ++ packets })
kept_all before [] images after sends = (sends.0, sends.1 ∙ ap (λ (ps : List Packet). record before { packets = ps }) (sym (append-nil before.packets)))
kept_all before (p ∷ ps) images after sends =
    let rest = kept_all sends.2 ps sends.1 after sends.5 in (
      sends.3 ∙ (ap (λ (x : Packet). x ∷ sends.1) sends.4.0 ∙ ap (λ (xs : List Packet). p ∷ xs) rest.0),
      rest.1 ∙ (ap (λ (s : SentPackets). record s { packets = s.packets ++ ps }) sends.4.1
          ∙ ap (λ (xs : List Packet). record before { packets = xs }) (append_assoc before.packets (p ∷ []) ps)),
    )

-- the packets of a sample have consecutive numbers in a sink in memory
numbered_from : (b : Bool) (packetizer : PacketizerState) (sample : Sample) (rtp_time number place : ℕ) (payloads : List (List ℕ)) (before : SentPackets) (images : List Packet) (after : SentPackets)
    → (packets : List Packet) → AreAs b packets (packets_from packetizer sample rtp_time number place payloads)
    → number ≡ before.first + length before.packets → Sends Keeps before packets images after
    → AreNumbered number packets
numbered_from b packetizer sample rtp_time number place [] before images after [] are at sends = tt
numbered_from b packetizer sample rtp_time number place [] before images after (packet ∷ packets) are at sends = absurd are
numbered_from b packetizer sample rtp_time number place (payload ∷ payloads) before images after [] are at sends = absurd are
numbered_from b packetizer sample rtp_time number place (payload ∷ payloads) before images after (packet ∷ packets) are at sends =
    let mid = sends.2 in
    let grown : mid.first + length mid.packets ≡ number + 1 =
    ap (λ (s : SentPackets). s.first + length s.packets) sends.4.1 ∙ omega (arith, length-append before.packets (packet ∷ []), at) in
    let small : (number + 1) % 2 ^ 64 ≡ number + 1 = mod-eq_of_lt (omega (arith, grown, sends.4.2)) in
    let next : (number + 1) % 2 ^ 64 ≡ mid.first + length mid.packets = small ∙ sym grown in (
      as_number b packet _ are.0,
      subst (λ (n : ℕ). AreNumbered n packets) small
          (numbered_from b packetizer sample rtp_time ((number + 1) % 2 ^ 64) (place + 1) payloads mid sends.1 after packets are.1 next sends.5),
    )

pub kept_numbered : (b : Bool) (packetizer : PacketizerState) (sample : Sample) (rtp_time number : ℕ) (payloads : List (List ℕ)) (before : SentPackets) (images : List Packet) (after : SentPackets)
    → (packets : List Packet) → AreAs b packets (packets_for packetizer sample rtp_time number payloads)
    → number ≡ before.first + length before.packets → Sends Keeps before packets images after
    → AreNumbered number packets
kept_numbered b packetizer sample rtp_time number payloads before images after packets are at sends = numbered_from b packetizer sample rtp_time number 0 payloads
    before images after packets are at sends

-- a payload was refused: those before it were sent
pub record RefusedSoFar (b : Bool) {S : Type 0} (accepts : S → Packet → Packet → S → Type 0) (refuses : S → Packet → PacketError → S → Type 0)
    (sent : S → List Packet) (next : S → ℕ) (before : S) (all : List Packet) (fault : PacketError) (after : S) : Type 0 where
  pub begun : List Packet
  pub refused : Packet
  pub left : List Packet
  pub whole : AreAs b (begun ++ refused ∷ left) all
  pub images : List Packet
  pub mid : S
  pub sends : Sends accepts before begun images mid
  pub refusal : refuses mid refused fault after
  pub gained : sent after ≡ sent before ++ images
  pub goes_on : next after ≡ number_after (next before) images

pub refused_so_far : {S : Type 0} (accepts : S → Packet → Packet → S → Type 0) (refuses : S → Packet → PacketError → S → Type 0) (sent : S → List Packet) (next : S → ℕ)
    (before : S) (all : List Packet) (packetizer here : PacketizerState) (sample : Sample) (rtp_time : ℕ) (vs : List (Vec ℕ)) (v : Vec ℕ) (left : List (Vec ℕ)) (place count : ℕ)
    (values : ExtensionValues) (mid after : S) (fault : PacketError)
    → vs ≡ v ∷ left → count ≡ place + 1 + length left → values ≡ stripped sample.ext_vals place count → here ≡ packetizer
    → SentSoFar (is_built_in packetizer) accepts sent next before all (packets_from packetizer sample rtp_time (next mid) place (map (λ w. w.items) vs)) mid
    → (packet : Packet) × IsAs (is_built_in here) packet (packet_for here sample rtp_time (next mid) values (place + 1 == count) v.items)
    × refuses mid packet fault after × (sent after ≡ sent mid) × (next after ≡ next mid)
    → RefusedSoFar (is_built_in packetizer) accepts refuses sent next before all fault after
refused_so_far accepts refuses sent next before all packetizer here sample rtp_time vs v left place count values mid after fault split many given same so_far one =
    let unfolded = unfolded_so_far accepts sent next before all packetizer sample rtp_time vs v left place count values mid split many given so_far in
    record {
      begun = unfolded.begun;
      refused = one.0;
      left = packets_from packetizer sample rtp_time ((next mid + 1) % 2 ^ 64) (place + 1) (map (λ w. w.items) left);
      whole = as_in_place (is_built_in packetizer) unfolded.begun one.0 _ _ all
          (subst (λ (p : PacketizerState). IsAs (is_built_in p) one.0 (packet_for p sample rtp_time (next mid) values (place + 1 == count) v.items)) same one.1) unfolded.whole;
      images = unfolded.images;
      mid = mid;
      sends = unfolded.sends;
      refusal = one.2;
      gained = one.3 ∙ unfolded.gained;
      goes_on = one.4 ∙ unfolded.goes_on;
    }
