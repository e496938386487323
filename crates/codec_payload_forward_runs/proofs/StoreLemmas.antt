-- What a store has: datagrams of the sender.
use Rattle.std.proofs.Common.{◌≡◌, ◌∙◌, refl, sym, ap, subst, ℕ, zero, suc, ◌-◌, List, [], ◌∷◌, ◌++◌, ◌⊎◌, inl, inr, Bool, true, false, ltb, Option, Some, None, MatchOption, length, take, set}
use Rattle.std.specs.Prelude.{slice_get}
use Rattle.std.proofs.lemmas.Option.{same_Some}
use Rattle.codec_payload_rtp.specs.RtpPackets.{Packet}
use Rattle.codec_payload_rtp.specs.RtpReading.{rtp_at}
use Rattle.codec_payload_sending_history.specs.Histories.{IsKept, KeepsOnce, above, below, follows, is_empty, kept_at, lowered, place_for, raised, with_bytes}
use Rattle.codec_payload_sending_history.specs.Packets.{Past, Sent, no_packet, number_in}
use Rattle.codec_payload_sending_history.specs.declared.retransmission.KeptOnce.{KeptOnce}
use Rattle.codec_payload_sending_history.specs.declared.retransmission.KeptOnce.TheVariants as once
use Rattle.codec_payload_sending_history.proofs.HistoryLemmas.{no_number}
use Rattle.codec_payload_datagram_runs.proofs.StepLemmas.{get_append}
use Rattle.codec_payload_forward_runs.specs.ForwardRuns.{packet_read}
use Rattle.codec_payload_forward_runs.specs.StoreRuns.{KeepsFor, KeepsPacket}
use Rattle.codec_payload_forward_runs.specs.declared.run.ForwardStep.{ForwardStep}
use Rattle.codec_payload_forward_runs.specs.declared.run.ForwardStep.TheVariants as plain

-- the bytes of each place are none, or one of these datagrams
abbrev pub IsIn : List (List ℕ) → List ℕ → Type 0
IsIn datagrams bytes = (bytes ≡ []) ⊎ ((k : ℕ) × (slice_get datagrams k ≡ Some bytes))

abbrev pub AllIn : List (List ℕ) → List Sent → Type 0
AllIn datagrams packets = (place : ℕ) (p : Sent) → slice_get packets place ≡ Some p → IsIn datagrams p.bytes

pub none_in : (datagrams : List (List ℕ)) → AllIn datagrams []
none_in datagrams place p there = absurd (cc)

in_first : (datagrams : List (List ℕ)) (x : Sent) (packets : List Sent) → IsIn datagrams x.bytes → AllIn datagrams packets → AllIn datagrams (x ∷ packets)
in_first datagrams x packets here all zero p there = subst (λ (q : Sent). IsIn datagrams q.bytes) (same_Some x p there) here
in_first datagrams x packets here all (suc place) p there = all place p there

in_rest : (datagrams : List (List ℕ)) (x : Sent) (packets : List Sent) → AllIn datagrams (x ∷ packets) → IsIn datagrams x.bytes × AllIn datagrams packets
in_rest datagrams x packets all = (all zero x refl, λ place p there. all (suc place) p there)

in_take : (datagrams : List (List ℕ)) (count : ℕ) (packets : List Sent) → AllIn datagrams packets → AllIn datagrams (take count packets)
in_take datagrams zero packets all = none_in datagrams
in_take datagrams (suc count) [] all = none_in datagrams
in_take datagrams (suc count) (x ∷ packets) all =
    let parts = in_rest datagrams x packets all in
    in_first datagrams x (take count packets) parts.0 (in_take datagrams count packets parts.1)

in_last : (datagrams : List (List ℕ)) (packets : List Sent) → AllIn datagrams packets → AllIn datagrams (packets ++ no_packet ∷ [])
in_last datagrams [] all = in_first datagrams no_packet [] (inl refl) (none_in datagrams)
in_last datagrams (x ∷ packets) all =
    let parts = in_rest datagrams x packets all in
    in_first datagrams x (packets ++ no_packet ∷ []) parts.0 (in_last datagrams packets parts.1)

in_set : (datagrams : List (List ℕ)) (packets : List Sent) (place : ℕ) (x : Sent) → IsIn datagrams x.bytes → AllIn datagrams packets → AllIn datagrams (set packets place x)
in_set datagrams [] place x here all = all
in_set datagrams (y ∷ packets) zero x here all = in_first datagrams x packets here (in_rest datagrams y packets all).1
in_set datagrams (y ∷ packets) (suc place) x here all =
    let parts = in_rest datagrams y packets all in
    in_first datagrams y (set packets place x) parts.0 (in_set datagrams packets place x here parts.1)

in_raised : (datagrams : List (List ℕ)) (limit count : ℕ) (packets : List Sent) → AllIn datagrams packets → AllIn datagrams (raised limit count packets)
in_raised datagrams limit zero packets all = all
in_raised datagrams limit (suc count) packets all =
    in_take datagrams limit (no_packet ∷ raised limit count packets) (in_first datagrams no_packet (raised limit count packets) (inl refl) (in_raised datagrams limit count packets all))

in_lowered : (datagrams : List (List ℕ)) (count : ℕ) (packets : List Sent) → AllIn datagrams packets → AllIn datagrams (lowered count packets)
in_lowered datagrams zero packets all = all
in_lowered datagrams (suc count) packets all = in_last datagrams (lowered count packets) (in_lowered datagrams count packets all)

-- wherever a packet is kept
in_kept : (datagrams : List (List ℕ)) (number : ℕ) (bytes : List ℕ) (h : Past) → IsIn datagrams bytes → AllIn datagrams h.packets
    → AllIn datagrams (kept_at (place_for h number) number bytes h).packets
in_kept datagrams number bytes h here all =
    by (is_empty h.packets) refl (ltb (below h number) h.limit) refl (ltb (above h number) 32768) refl (ltb (above h number) h.limit) refl (follows h.refused number) refl
  where
    anew : AllIn datagrams (with_bytes 0 bytes (raised h.limit 1 []))
    anew = in_set datagrams (raised h.limit 1 []) 0 _ here (in_raised datagrams h.limit 1 [] (none_in datagrams))

    higher : (count : ℕ) → AllIn datagrams (with_bytes 0 bytes (raised h.limit count h.packets))
    higher count = in_set datagrams (raised h.limit count h.packets) 0 _ here (in_raised datagrams h.limit count h.packets all)

    lower : (place : ℕ) → AllIn datagrams (with_bytes place bytes (lowered (suc place - length h.packets) h.packets))
    lower place = in_set datagrams (lowered (suc place - length h.packets) h.packets) place _ here (in_lowered datagrams (suc place - length h.packets) h.packets all)

    by : (a : Bool) → is_empty h.packets ≡ a → (b : Bool) → ltb (below h number) h.limit ≡ b → (c : Bool) → ltb (above h number) 32768 ≡ c → (d : Bool) → ltb (above h number) h.limit ≡ d
        → (f : Bool) → follows h.refused number ≡ f → AllIn datagrams (kept_at (place_for h number) number bytes h).packets
    by true e1 b e2 c e3 d e4 f e5 = rw e1 anew
    by false e1 true e2 c e3 d e4 f e5 = rw (e1, e2) (lower (below h number))
    by false e1 false e2 true e3 true e4 f e5 = rw (e1, e2, e3, e4) (higher (above h number))
    by false e1 false e2 true e3 false e4 f e5 = rw (e1, e2, e3, e4) anew
    by false e1 false e2 false e3 d e4 true e5 = rw (e1, e2, e3, e5) anew
    by false e1 false e2 false e3 d e4 false e5 = rw (e1, e2, e3, e5) all

keeps_in : (datagrams : List (List ℕ)) (datagram : List ℕ) (h t : Past) (number : ℕ) → t ≡ kept_at (place_for h number) number datagram h → IsIn datagrams datagram → AllIn datagrams h.packets
    → AllIn datagrams t.packets
keeps_in datagrams datagram h t number left here all = subst (λ (x : Past). AllIn datagrams x.packets) (sym left) (in_kept datagrams number datagram h here all)

once_in : (datagrams : List (List ℕ)) (datagram : List ℕ) (kept : KeptOnce) (h t : Past) → IsIn datagrams datagram → AllIn datagrams h.packets → KeepsOnce h datagram kept t
    → AllIn datagrams t.packets
once_in datagrams datagram once.New h t here all keeps = keeps_in datagrams datagram h t _ keeps.3.left here all
once_in datagrams datagram once.Known h t here all keeps = subst (λ (x : Past). AllIn datagrams x.packets) (sym keeps.3) all
once_in datagrams datagram once.TooOld h t here all keeps = keeps_in datagrams datagram h t _ keeps.left here all

pub packet_in_store : (datagrams : List (List ℕ)) (k : ℕ) (o : Option (List ℕ)) (h t : Past) → slice_get datagrams k ≡ o → AllIn datagrams h.packets → KeepsPacket o h t → AllIn datagrams t.packets
packet_in_store datagrams k None h t is all same = subst (λ (x : Past). AllIn datagrams x.packets) (sym same) all
packet_in_store datagrams k (Some datagram) h t is all keeps = by (packet_read (rtp_at datagram)) keeps
  where
    by : (o : Option Packet) → MatchOption o (t ≡ h) (λ packet. (kept : KeptOnce) × KeepsOnce h datagram kept t) → AllIn datagrams t.packets
    by None same = subst (λ (x : Past). AllIn datagrams x.packets) (sym same) all
    by (Some packet) done = once_in datagrams datagram done.0 h t (inr (k, is)) all done.1

-- the store after a step
pub kept_in : (datagrams : List (List ℕ)) (step : ForwardStep) (h t : Past) → AllIn datagrams h.packets → KeepsFor step datagrams h t → AllIn datagrams t.packets
kept_in datagrams (plain.Send i) h t all same = subst (λ (x : Past). AllIn datagrams x.packets) (sym same) all
kept_in datagrams (plain.Forward k now) h t all keeps = packet_in_store datagrams k (slice_get datagrams k) h t refl all keeps
kept_in datagrams (plain.Deliver j now) h t all same = subst (λ (x : Past). AllIn datagrams x.packets) (sym same) all
kept_in datagrams (plain.Pop now) h t all same = subst (λ (x : Past). AllIn datagrams x.packets) (sym same) all
kept_in datagrams plain.Finish h t all same = subst (λ (x : Past). AllIn datagrams x.packets) (sym same) all

pub in_more : (datagrams new : List (List ℕ)) (packets : List Sent) → AllIn datagrams packets → AllIn (datagrams ++ new) packets
in_more datagrams new packets all place p there = by (all place p there)
  where
    by : IsIn datagrams p.bytes → IsIn (datagrams ++ new) p.bytes
    by (inl none) = inl none
    by (inr at) = inr (at.0, get_append datagrams new at.0 p.bytes at.1)

-- a packet of the store is a datagram
pub is_sent : (datagrams : List (List ℕ)) (h : Past) (number : ℕ) (datagram : List ℕ) → AllIn datagrams h.packets → IsKept h number datagram
    → (k : ℕ) × (slice_get datagrams k ≡ Some datagram)
is_sent datagrams h number datagram all kept = by (all kept.0 kept.1 kept.2.found)
  where
    by : IsIn datagrams kept.1.bytes → (k : ℕ) × (slice_get datagrams k ≡ Some datagram)
    by (inl none) = absurd (no_number number (subst (λ (bytes : List ℕ). number_in bytes ≡ Some number) none kept.2.numbered))
    by (inr at) = (at.0, at.1 ∙ ap Some (sym kept.3))
