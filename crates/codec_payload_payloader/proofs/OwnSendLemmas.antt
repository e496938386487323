-- How the packets of a custom packetizer follow one another.
use Rattle.std.proofs.Common.{◌≡◌, ◌∙◌, sym, ap, refl, subst, ℕ, ◌+◌, ◌==◌, List, ◌∷◌, length, map, Bool, false, Option, Some, Result, Ok, Err, OnOk, IfErr}
use Rattle.std.specs.Prelude.{MatchResult, ⊤}
use Rattle.std.specs.Global.{Vec}
use Rattle.std.proofs.lemmas.List.{length-map}
use Rattle.codec_payload_base.specs.declared.error.PacketError.{PacketError}
use Rattle.codec_payload_base.specs.declared.wire.extension.ExtensionValues.{ExtensionValues}
use Rattle.codec_payload_codec.proofs.CodecLemmas.{own_packetizer}
use Rattle.codec_payload_codec.specs.Packetizers.{PacketizerStep, packetizer_state_of, is_built_in}
use Rattle.codec_payload_codec.specs.declared.codec.packetizer.CodecPacketizer.{CodecPacketizer}
use Rattle.codec_payload_codec.specs.declared.codec.packetizer.CodecPacketizer.TheVariants as variants
use Rattle.codec_payload_payloader.specs.Packets.{Packet}
use Rattle.codec_payload_payloader.specs.OwnSending.{OwnPacket, OwnSends}
use Rattle.codec_payload_payloader.specs.Sending.{Sample}
use Rattle.codec_payload_base.specs.StrippedValues.{stripped}
use Rattle.codec_payload_payloader.proofs.SendLemmas.{is_last_at_end}

-- a custom packetizer stays custom
pub still_own_packetizer : {B : Type 0} (p q : CodecPacketizer B) (b : B) → p ≡ variants.Boxed b → packetizer_state_of q ≡ packetizer_state_of p → (b' : B) × (q ≡ variants.Boxed b')
still_own_packetizer {B} p q b is same = own_packetizer q (ap is_built_in same ∙ ap (λ (x : CodecPacketizer B). is_built_in (packetizer_state_of x)) is)

-- so does one that was asked for payloads
pub still_own_cut : {B : Type 0} (p q : CodecPacketizer B) (b : B) (mtu : ℕ) (frame : List ℕ) (answer : Result (List (List ℕ)) PacketError) → p ≡ variants.Boxed b
    → PacketizerStep (packetizer_state_of p) mtu frame answer (packetizer_state_of q) → (b' : B) × (q ≡ variants.Boxed b')
still_own_cut {B} p q b mtu frame answer is step = own_packetizer q
    (ap is_built_in (subst (λ (x : CodecPacketizer B). PacketizerStep (packetizer_state_of x) mtu frame answer (packetizer_state_of q)) is step))

-- a consequence of a fact about a result
pub both_ways : {T E P P' : Type 0} {Q Q' : E → Type 0} (r : Result T E) → (P → P') → ((e : E) → Q e → Q' e) → OnOk r P → IfErr r Q → MatchResult r (λ _. P') Q'
both_ways (Ok x) f h p q = f p
both_ways (Err e) f h p q = h e q

-- the next payload became a packet, which the sink took or refused
pub own_next : {B S : Type 0} (state : B → List ℕ) (mark : B → List ℕ → Option (List ℕ) → Bool → Bool → List ℕ → Type 0) (spurts may_ask : B → Bool)
    (accepts : S → Packet → Packet → S → Type 0) (refuses : S → Packet → PacketError → S → Type 0) (sent : S → List Packet) (next : S → ℕ) (sample : Sample) (rtp_time : ℕ)
    (vs : List (Vec ℕ)) (v : Vec ℕ) (left : List (Vec ℕ)) (place count : ℕ) (values : ExtensionValues) (b asked b' : B) (before mid after : S)
    (answer : Result ⊤ PacketError) (fault : Option PacketError)
    → vs ≡ v ∷ left → count ≡ place + 1 + length left → values ≡ stripped sample.ext_vals place count
    → OwnPacket state mark spurts may_ask accepts refuses sent next sample rtp_time values (place + 1 == count) v.items b before answer asked mid
    → MatchResult answer (λ _. OwnSends state mark spurts may_ask accepts refuses sent next sample rtp_time (place + 1) asked mid
    (map (λ w. w.items) left) fault b' after) (λ refusal. (fault ≡ Some refusal) × (b' ≡ asked) × (after ≡ mid))
    → OwnSends state mark spurts may_ask accepts refuses sent next sample rtp_time place b before (map (λ w. w.items) vs) fault b' after
own_next {B} {S} state mark spurts may_ask accepts refuses sent next sample rtp_time vs v left place count values b asked b' before mid after answer fault split many given one rest =
    let size : count ≡ place + 1 + length (map (λ w. w.items) left) = many ∙ ap (λ (n : ℕ). place + 1 + n) (sym (length-map left (λ w. w.items))) in
    let here : ExtensionValues → Bool → Type 0 = λ x last. OwnPacket state mark spurts may_ask accepts refuses sent next sample rtp_time x last v.items b before answer asked mid in
    let told = subst (λ (last : Bool). here (stripped sample.ext_vals place (place + 1 + length (map (λ w. w.items) left))) last) (is_last_at_end left place count many)
    (subst (λ (x : ExtensionValues). here x (place + 1 == count)) (given ∙ ap (stripped sample.ext_vals place) size) one) in
    subst (λ (ws : List (Vec ℕ)). OwnSends state mark spurts may_ask accepts refuses sent next sample rtp_time place b before (map (λ w. w.items) ws) fault b' after)
    (sym split) (answer, asked, mid, told, rest)
