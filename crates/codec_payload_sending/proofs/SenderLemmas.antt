-- Datagrams, and the bytes of payloads.
use Rattle.std.proofs.Common.{◌≡◌, ℕ, zero, suc, ◌+◌, ◌%◌, ◌<◌, List, [], ◌∷◌, ◌++◌, length, get_or, true, Some, Result, Ok, refl, sym, ap, ◌∙◌, subst, arith}
use Rattle.std.specs.Prelude.{OnOk}
use Rattle.codec_payload_base.specs.PayloadLists.{PayloadList, rooms_of}
use Rattle.codec_payload_codec.specs.Packetizers.{PacketizerState, PacketizerStep, is_built_in}
use Rattle.codec_payload_rtp.specs.RtpReading.{rtp_at}
use Rattle.codec_payload_sending.specs.Datagrams.{AreSent, IsHeadedAt, Sample, header_at, joined, octets_in, time_of}
use Rattle.codec_payload_sending.specs.Senders.{Sending, Sends}
use Rattle.codec_payload_sending.specs.declared.sender.Outgoing.{Outgoing}

pub length-joined : (headers payloads : List (List ℕ)) → length (joined headers payloads) ≡ length payloads
length-joined headers [] = refl
length-joined [] (p ∷ ps) = omega (arith, length-joined [] ps)
length-joined (h ∷ hs) (p ∷ ps) = omega (arith, length-joined hs ps)

pub joined_at : (headers payloads : List (List ℕ)) (i : ℕ) → i < length payloads → get_or (joined headers payloads) i [] ≡ get_or headers i [] ++ get_or payloads i []
joined_at headers [] i l = absurd (omega (arith, l))
joined_at [] (p ∷ ps) zero l = refl
joined_at [] (p ∷ ps) (suc i) l = joined_at [] ps i (omega (arith, l))
joined_at (h ∷ hs) (p ∷ ps) zero l = refl
joined_at (h ∷ hs) (p ∷ ps) (suc i) l = joined_at hs ps i (omega (arith, l))

-- ---- a sample that was sent

pub on_ok_at : {X E : Type 0} (result : Result X E) (x : X) (P : Type 0) → result ≡ Ok x → OnOk result P → P
on_ok_at {X} {E} result x P e holds = subst (λ (r : Result X E). OnOk r P) e holds

-- payloads behind their headers are datagrams
pub sent_all : (stream : Outgoing) (packetizer : PacketizerState) (sample : Sample) (headers payloads : List (List ℕ))
    → ((place : ℕ) → place < length payloads → IsHeadedAt stream packetizer sample (length payloads) place (get_or headers place []))
    → AreSent stream packetizer sample payloads (joined headers payloads)
sent_all stream packetizer sample headers payloads headed = (
  length-joined headers payloads,
  λ place few.
      let h = headed place few in
      record {
        marker = h.marker;
        marked = h.marked;
        reads = subst (λ (d : List ℕ). rtp_at d ≡ Ok (record { header = header_at stream sample place (length payloads) h.marker; payload = get_or payloads place []; padding = 0 }))
            (sym (joined_at headers payloads place few)) (h.reads (get_or payloads place []));
      },
)

-- what a sender is, once a sample was sent
abbrev pub sender_with : Sending → PacketizerState → PayloadList → ℕ → ℕ → ℕ → Sending
sender_with s packetizer out count octets time = record s {
  packetizer = packetizer;
  stream = record s.stream { number = (s.stream.number + count % 65536) % 65536 };
  tailroom = out.tailroom;
  counts = record { packets = (s.counts.packets + count % 4294967296) % 4294967296; octets = (s.counts.octets + octets) % 4294967296; rtp_time = Some time };
  datagrams = joined out.headers out.payloads;
}

numbers_same : (n count m : ℕ) → count ≡ m → (n + count % 65536) % 65536 ≡ (n + m) % 65536
numbers_same n count m e = omega (arith, e)

packets_same : (n count m : ℕ) → count ≡ m → (n + count % 4294967296) % 4294967296 ≡ (n + m) % 4294967296
packets_same n count m e = omega (arith, e)

octets_same : (n octets m : ℕ) → octets ≡ m % 4294967296 → (n + octets) % 4294967296 ≡ (n + m) % 4294967296
octets_same n octets m e = omega (arith, e)

left_same : (s : Sending) (packetizer : PacketizerState) (datagrams : List (List ℕ)) (n n' tailroom packets packets' octets octets' time time' : ℕ)
    → n ≡ n' → tailroom ≡ s.tailroom → packets ≡ packets' → octets ≡ octets' → time ≡ time'
    → record s {
      packetizer = packetizer;
      stream = record s.stream { number = n };
      tailroom = tailroom;
      counts = record
          { packets = packets; octets = octets; rtp_time = Some time };
      datagrams = datagrams;
    }
    ≡ record s { packetizer = packetizer; stream = record s.stream { number = n' }; counts = record { packets = packets'; octets = octets'; rtp_time = Some time' }; datagrams = datagrams }
left_same s packetizer datagrams n n' tailroom packets packets' octets octets' time time' e1 e2 e3 e4 e5 = rw (e1, e2, e3, e4, e5) refl

sends_by : (s : Sending) (sample : Sample) (packetizer : PacketizerState) (out : PayloadList) (count octets time : ℕ)
    → (is_built_in s.packetizer ≡ true → PacketizerStep s.packetizer s.mtu sample.bytes (Ok out.payloads) packetizer)
    → ((place : ℕ) → place < length out.payloads → IsHeadedAt s.stream packetizer sample (length out.payloads) place (get_or out.headers place []))
    → out.tailroom ≡ s.tailroom → count ≡ length out.payloads → octets ≡ octets_in out.payloads % 4294967296 → time ≡ time_of s.stream sample
    → Sends s sample (sender_with s packetizer out count octets time)
sends_by s sample packetizer out count octets time packetized headed tail counted_is octets_are time_is = record {
  payloads = out.payloads;
  packetized = packetized;
  sent = sent_all s.stream packetizer sample out.headers out.payloads headed;
  left = left_same s packetizer (joined out.headers out.payloads) _ _ out.tailroom _ _ _ _ time (time_of s.stream sample)
      (numbers_same s.stream.number count (length out.payloads) counted_is) tail (packets_same s.counts.packets count (length out.payloads) counted_is)
      (octets_same s.counts.octets octets (octets_in out.payloads) octets_are) time_is;
}

pub sends : (s : Sending) (sample : Sample) (packetizer mid : PacketizerState) (out last : PayloadList) (headers : List (List ℕ)) (headroom count octets time : ℕ)
    → packetizer ≡ mid → last ≡ record out { headers = headers } → rooms_of out ≡ headroom ∷ s.tailroom ∷ []
    → (is_built_in s.packetizer ≡ true → PacketizerStep s.packetizer s.mtu sample.bytes (Ok out.payloads) mid)
    → ((place : ℕ) → place < length out.payloads → IsHeadedAt s.stream mid sample (length out.payloads) place (get_or headers place []))
    → count ≡ length last.payloads → octets ≡ octets_in last.payloads % 4294967296 → time ≡ time_of s.stream sample
    → Sends s sample (sender_with s packetizer last count octets time)
sends s sample packetizer mid out last headers headroom count octets time packetizer_is last_is rooms packetized headed count_is octets_are time_is =
    subst (λ (p : PacketizerState). Sends s sample (sender_with s p last count octets time)) (sym packetizer_is)
    (subst (λ (o : PayloadList). Sends s sample (sender_with s mid o count octets time)) (sym last_is)
    (sends_by s sample mid (record out { headers = headers }) count octets time packetized headed (tail_of rooms)
    (count_is ∙ ap (λ (o : PayloadList). length o.payloads) last_is) (octets_are ∙ ap (λ (o : PayloadList). octets_in o.payloads % 4294967296) last_is) time_is))
  where
    tail_of : out.headroom ∷ out.tailroom ∷ [] ≡ headroom ∷ s.tailroom ∷ [] → out.tailroom ≡ s.tailroom
    tail_of e = cc
