-- The packet that is followed is the one that the receiver stores.
use Rattle.std.proofs.Common.{◌≡◌, ◌∙◌, refl, ap, sym, subst, ℕ, ◌+◌, ◌*◌, Bool, true, false, cond, eqb, ltb, ◌&&◌, ◌||◌, not, List, [], ◌∷◌, Option, Some, None, Result, Ok, Err, arith}
use Rattle.std.specs.Prelude.{IfSome}
use Rattle.std.specs.Option.{option_map}
use Rattle.std.proofs.lemmas.Bool.{and_parts, eqb-true, ltb-true}
use Rattle.std.proofs.lemmas.Bool.Decides.{nat_tests}
use Rattle.codec_payload_codec.proofs.CaseLemmas.{by_test}
use Rattle.codec_payload_datagrams.specs.Kinds.{Kinds, OfOthers, RtcpPacket, WithMedia, WithoutMedia, again_kind, again_read, carrier_with, first_kind, is_among, is_padding_only, is_sent_again, is_the_type, kind_beside, kind_for, kind_read, media_kind, own_kind, red_again_kind, red_again_of, red_again_parts, red_again_read, red_kind, red_of, red_read, repeated_header}
use Rattle.codec_payload_datagrams.specs.declared.kinds.RedStream.{RedStream}
use Rattle.codec_payload_datagrams.specs.declared.kinds.Retransmission.{Retransmission}
use Rattle.codec_payload_receiver.specs.Noting.{MediaPacket as ReceiversPacket, media_in, primary_media}
use Rattle.codec_payload_red.specs.RedPayload.{Red}
use Rattle.codec_payload_red.specs.RedReading.{red_at}
use Rattle.codec_payload_red.proofs.RedGrammarLemmas.{reads_spelling}
use Rattle.codec_payload_red.specs.RedRecovery.{Receiver}
use Rattle.codec_payload_rtp.specs.RtpPackets.{Header, Packet, is_rtcp}
use Rattle.codec_payload_rtp.specs.RtpReading.{rtp_at}
use Rattle.codec_payload_rtp.specs.declared.rtp.RtpError.{RtpError}
use Rattle.codec_payload_stream_edges.specs.Agreement.{Agree, FitsTo, FollowsWhatIsStored, again_type}
use Rattle.codec_payload_stream_edges.specs.Brought.{MediaPacket, brought, brought_again, brought_at, brought_read, has_type, is_own_type, lone_block, original_payload, own_payload, whole}
use Rattle.codec_payload_stream_edges.specs.declared.rules.EdgeRules.{EdgeRules}

agree_none : (m : Option MediaPacket) → Agree m None
agree_none None = tt
agree_none (Some m) = tt

not_own : (a b : Bool) → b ≡ false → a && b ≡ false
not_own true b h = h
not_own false b h = refl

-- ---- RED with one block

lone_red : (first : ℕ) (block : List ℕ) → ltb first 128 ≡ true → red_at (first ∷ block) ≡ Some (record { redundant = []; pt = first; primary = block })
lone_red first block e = reads_spelling (record { redundant = []; pt = first; primary = block }) tt (omega arith) (ltb-true first 128 e)

-- what a packet of RED with this header brings: its only block
module _ (k : EdgeRules) (s : Kinds) (receiver : Receiver) (h : Header) where
  abbrev primary : Option Red → Option ReceiversPacket
  primary None = None
  primary (Some r) = primary_media s (carrier_with receiver h r)

  lone_agrees : (own : Header) → own.extension ≡ h.extension → (bytes : List ℕ) → Agree (whole own h.sequence_number (lone_block k.payload_type bytes)) (primary (red_at bytes))
  lone_agrees own same [] = tt
  lone_agrees own same (first ∷ block) = by_test (eqb first k.payload_type && ltb first 128) (λ b. Agree (whole own h.sequence_number (cond b (Some block) None)) (primary (red_at (first ∷ block))))
      (λ e.
      let small : ltb first 128 ≡ true = (and_parts (eqb first k.payload_type) (ltb first 128) e).1 in
      subst (λ (o : Option Red). Agree (whole own h.sequence_number (Some block)) (primary o)) (sym (lone_red first block small)) (block_agrees first))
      (λ e. tt)
    where
      block_agrees : (first : ℕ) → Agree (whole own h.sequence_number (Some block)) (primary (Some (record { redundant = []; pt = first; primary = block })))
      block_agrees first = by_test (eqb first s.payload_type) (λ b. Agree (whole own h.sequence_number (Some block)) (cond b (Some (record { number = h.sequence_number; time = h.timestamp; extension = h.extension; bytes = block })) None))
          (λ e. record { number = refl; extension = same; bytes = refl })
          (λ e. tt)

-- ---- which payload types a packet has

module _ (k : EdgeRules) (h : Header) where
  sent_again_types : (o : Option Retransmission) → is_sent_again o h ≡ true → IfSome o (λ r. is_own_type k r.payload_type ≡ false) → k.retransmission ≡ option_map (λ r. r.payload_type) o
      → (is_own_type k h.payload_type ≡ false) × (has_type k.retransmission h.payload_type ≡ true)
  sent_again_types None is apart same = absurd (cc)
  sent_again_types (Some r) is apart same =
      let both = and_parts (eqb r.ssrc h.ssrc) (eqb r.payload_type h.payload_type) is in
      let type : r.payload_type ≡ h.payload_type = eqb-true r.payload_type h.payload_type both.1 in
      (subst (λ (t : ℕ). is_own_type k t ≡ false) type apart, ap (λ (o : Option ℕ). has_type o h.payload_type) same ∙ both.1)

  red_again_types : (o : Option ℕ) → is_the_type o h.payload_type ≡ true → IfSome o (λ t. (is_own_type k t ≡ false) × (has_type k.retransmission t ≡ false)) → k.red_again ≡ o
      → (is_own_type k h.payload_type ≡ false) × (has_type k.retransmission h.payload_type ≡ false) × (has_type k.red_again h.payload_type ≡ true)
  red_again_types None is apart same = absurd (cc)
  red_again_types (Some t) is apart same =
      let type : t ≡ h.payload_type = eqb-true t h.payload_type is in
      let parts = subst (λ (t : ℕ). (is_own_type k t ≡ false) × (has_type k.retransmission t ≡ false)) type apart in
      (parts.0, parts.1, ap (λ (o : Option ℕ). has_type o h.payload_type) same ∙ is)

  is_red_again : (r : Option Retransmission) (red : Option RedStream) (receiver : Receiver) → red_again_of r red h ≡ Some receiver → is_the_type (again_type red) h.payload_type ≡ true
  is_red_again None red receiver is = absurd (cc)
  is_red_again (Some r) None receiver is = absurd (cc)
  is_red_again (Some r) (Some red) receiver is = by_test (eqb r.ssrc h.ssrc && is_the_type red.retransmission h.payload_type) (λ b. cond b (Some red.receiver) None ≡ Some receiver → is_the_type red.retransmission h.payload_type ≡ true)
      (λ e same. (and_parts (eqb r.ssrc h.ssrc) (is_the_type red.retransmission h.payload_type) e).1)
      (λ e same. absurd (cc))
      is

  is_red : (red : Option RedStream) (receiver : Receiver) → red_of red h.payload_type ≡ Some receiver → k.red ≡ option_map (λ r. r.payload_type) red → has_type k.red h.payload_type ≡ true
  is_red None receiver is same = absurd (cc)
  is_red (Some red) receiver is same = by_test (eqb red.payload_type h.payload_type) (λ b. cond b (Some red.receiver) None ≡ Some receiver → has_type k.red h.payload_type ≡ true)
      (λ e found. ap (λ (o : Option ℕ). has_type o h.payload_type) same ∙ e)
      (λ e found. absurd (cc))
      is

-- ---- an RTP packet

flip : (a b : ℕ) → eqb a b ≡ true → eqb b a ≡ true
flip a b e = let same : a ≡ b = eqb-true a b e in grind (arith, nat_tests)

module _ (k : EdgeRules) (s : Kinds) (fits : FitsTo k s) (ssrc : ℕ) (p : Packet) where
  abbrev left : Option MediaPacket
  left = brought k ssrc p

  -- a retransmission
  behind : is_own_type k p.header.payload_type ≡ false → left ≡ brought_again k p.header p.payload
  behind other = ap (λ (b : Bool). cond b (whole p.header p.header.sequence_number (own_payload k p.header.payload_type p.payload)) (brought_again k p.header p.payload)) (not_own (eqb p.header.ssrc ssrc) (is_own_type k p.header.payload_type) other)

  again_agrees : has_type k.retransmission p.header.payload_type ≡ true → (bytes : List ℕ) → Agree (brought_again k p.header bytes) (media_in s (again_read (Some ssrc) p.header bytes))
  again_agrees type [] = tt
  again_agrees type (high ∷ []) = tt
  again_agrees type (high ∷ low ∷ bytes) =
      subst (λ (b : Bool). Agree (whole p.header (high * 256 + low) (cond b (Some bytes) (cond (has_type k.red_again p.header.payload_type) (lone_block k.payload_type bytes) None))) (media_in s (again_read (Some ssrc) p.header (high ∷ low ∷ bytes)))) (sym type)
      (record { number = refl; extension = refl; bytes = refl })

  sent_again : is_sent_again s.retransmission p.header ≡ true → Agree left (media_in s (again_kind (Some ssrc) p))
  sent_again is =
      let types = sent_again_types k p.header s.retransmission is fits.apart fits.retransmission in
      subst (λ (m : Option MediaPacket). Agree m (media_in s (again_kind (Some ssrc) p))) (sym (behind types.0)) (again_agrees types.1 p.payload)

  read_again : (receiver : Receiver) (h : Header) (red : Option Red) → media_in s (red_again_read receiver h red) ≡ primary k s receiver h red
  read_again receiver h None = refl
  read_again receiver h (Some r) = refl

  red_again_agrees : has_type k.retransmission p.header.payload_type ≡ false → has_type k.red_again p.header.payload_type ≡ true → (receiver : Receiver) (bytes : List ℕ)
      → Agree (brought_again k p.header bytes) (media_in s (red_again_parts receiver (Some ssrc) p.header bytes))
  red_again_agrees other type receiver [] = tt
  red_again_agrees other type receiver (high ∷ []) = tt
  red_again_agrees other type receiver (high ∷ low ∷ bytes) =
      let h : Header = repeated_header (Some ssrc) p.header (high * 256 + low) in
      let lone : Agree (whole p.header (high * 256 + low) (lone_block k.payload_type bytes)) (primary k s receiver h (red_at bytes)) = lone_agrees k s receiver h p.header refl bytes in
      let right : Agree (whole p.header (high * 256 + low) (lone_block k.payload_type bytes)) (media_in s (red_again_read receiver h (red_at bytes))) =
      subst (λ (n : Option ReceiversPacket). Agree (whole p.header (high * 256 + low) (lone_block k.payload_type bytes)) n) (sym (read_again receiver h (red_at bytes))) lone in
      let payload : original_payload k p.header.payload_type bytes ≡ lone_block k.payload_type bytes =
      ap (λ (b : Bool). cond b (Some bytes) (cond (has_type k.red_again p.header.payload_type) (lone_block k.payload_type bytes) None)) other ∙ ap (λ (b : Bool). cond b (lone_block k.payload_type bytes) None) type in
      subst (λ (o : Option (List ℕ)). Agree (whole p.header (high * 256 + low) o) (media_in s (red_again_read receiver h (red_at bytes)))) (sym payload) right

  -- a packet under the SSRC of the stream
  own_is : eqb ssrc p.header.ssrc ≡ true → is_own_type k p.header.payload_type ≡ true → left ≡ whole p.header p.header.sequence_number (own_payload k p.header.payload_type p.payload)
  own_is same type = ap (λ (b : Bool). cond b (whole p.header p.header.sequence_number (own_payload k p.header.payload_type p.payload)) (brought_again k p.header p.payload)) (both (flip ssrc p.header.ssrc same) type)
    where
      both : {a b : Bool} → a ≡ true → b ≡ true → a && b ≡ true
      both {a = true} {b = b} x y = y
      both {a = false} {b = b} x y = absurd (cc)

  media_agrees : eqb p.header.payload_type s.payload_type ≡ true → eqb ssrc p.header.ssrc ≡ true → Agree left (media_in s (media_kind p))
  media_agrees type same =
      let own : eqb p.header.payload_type k.payload_type ≡ true = subst (λ (t : ℕ). eqb p.header.payload_type t ≡ true) (sym fits.payload_type) type in
      let is : left ≡ Some (record { number = p.header.sequence_number; marker = p.header.marker; extension = p.header.extension; bytes = p.payload }) =
      own_is same (ap (λ (b : Bool). b || has_type k.red p.header.payload_type) own)
      ∙ ap (λ (b : Bool). whole p.header p.header.sequence_number (cond b (Some p.payload) (cond (has_type k.red p.header.payload_type) (lone_block k.payload_type p.payload) None))) own in
      subst (λ (m : Option MediaPacket). Agree m (media_in s (media_kind p))) (sym is)
      (by_test (is_padding_only p) (λ b. Agree (Some (record { number = p.header.sequence_number; marker = p.header.marker; extension = p.header.extension; bytes = p.payload })) (media_in s (cond b (WithoutMedia p.header) (WithMedia p))))
      (λ e. tt)
      (λ e. record { number = refl; extension = refl; bytes = refl }))

  read_red : (receiver : Receiver) (h : Header) (red : Option Red) → media_in s (red_read receiver h red) ≡ primary k s receiver h red
  read_red receiver h None = refl
  read_red receiver h (Some r) = refl

  red_agrees : eqb p.header.payload_type s.payload_type ≡ false → eqb ssrc p.header.ssrc ≡ true → (receiver : Receiver) → red_of s.red p.header.payload_type ≡ Some receiver → Agree left (media_in s (red_kind receiver p))
  red_agrees other same receiver found =
      let other_type : eqb p.header.payload_type k.payload_type ≡ false = subst (λ (t : ℕ). eqb p.header.payload_type t ≡ false) (sym fits.payload_type) other in
      let type : has_type k.red p.header.payload_type ≡ true = is_red k p.header s.red receiver found fits.red in
      let is : left ≡ whole p.header p.header.sequence_number (lone_block k.payload_type p.payload) =
      own_is same (ap (λ (b : Bool). b || has_type k.red p.header.payload_type) other_type ∙ type)
      ∙ ap (λ (b : Bool). whole p.header p.header.sequence_number (cond b (Some p.payload) (cond (has_type k.red p.header.payload_type) (lone_block k.payload_type p.payload) None))) other_type
      ∙ ap (λ (b : Bool). whole p.header p.header.sequence_number (cond b (lone_block k.payload_type p.payload) None)) type in
      let lone : Agree (whole p.header p.header.sequence_number (lone_block k.payload_type p.payload)) (primary k s receiver p.header (red_at p.payload)) = lone_agrees k s receiver p.header p.header refl p.payload in
      let read : Agree left (media_in s (red_read receiver p.header (red_at p.payload))) =
      subst (λ (m : Option MediaPacket). Agree m (media_in s (red_read receiver p.header (red_at p.payload)))) (sym is)
      (subst (λ (n : Option ReceiversPacket). Agree (whole p.header p.header.sequence_number (lone_block k.payload_type p.payload)) n) (sym (read_red receiver p.header (red_at p.payload))) lone) in
      by_test (is_padding_only p) (λ b. Agree left (media_in s (cond b (WithoutMedia p.header) (red_read receiver p.header (red_at p.payload))))) (λ e. agree_none left) (λ e. read)

  own_agrees : eqb p.header.payload_type s.payload_type ≡ false → eqb ssrc p.header.ssrc ≡ true → Agree left (media_in s (own_kind s (red_of s.red p.header.payload_type) p))
  own_agrees other same = by (red_of s.red p.header.payload_type) refl
    where
      by : (o : Option Receiver) → red_of s.red p.header.payload_type ≡ o → Agree left (media_in s (own_kind s o p))
      by (Some receiver) found = red_agrees other same receiver found
      by None found = by_test (is_among p.header.payload_type s.no_media) (λ b. Agree left (media_in s (cond b (WithoutMedia p.header) OfOthers))) (λ e. agree_none left) (λ e. agree_none left)

  first_agrees : Agree left (media_in s (first_kind s (Some ssrc) p))
  first_agrees = by_test (eqb ssrc p.header.ssrc)
      (λ b. Agree left (media_in s (cond (not b) OfOthers (cond (eqb p.header.payload_type s.payload_type) (media_kind p) (own_kind s (red_of s.red p.header.payload_type) p)))))
      (λ same.
      by_test (eqb p.header.payload_type s.payload_type) (λ b. Agree left (media_in s (cond b (media_kind p) (own_kind s (red_of s.red p.header.payload_type) p))))
      (λ type. media_agrees type same)
      (λ other. own_agrees other same))
      (λ e. agree_none left)

  beside_agrees : Agree left (media_in s (kind_beside s (Some ssrc) (red_again_of s.retransmission s.red p.header) p))
  beside_agrees = by (red_again_of s.retransmission s.red p.header) refl
    where
      by : (o : Option Receiver) → red_again_of s.retransmission s.red p.header ≡ o → Agree left (media_in s (kind_beside s (Some ssrc) o p))
      by None found = first_agrees
      by (Some receiver) found =
          let types = red_again_types k p.header (again_type s.red) (is_red_again k p.header s.retransmission s.red receiver found) fits.red_apart fits.red_again in
          subst (λ (m : Option MediaPacket). Agree m (media_in s (red_again_kind receiver (Some ssrc) p))) (sym (behind types.0)) (red_again_agrees types.1 types.2 receiver p.payload)

  packet_agrees : Agree left (media_in s (kind_for s (Some ssrc) p))
  packet_agrees = by_test (is_sent_again s.retransmission p.header)
      (λ b. Agree left (media_in s (cond b (again_kind (Some ssrc) p) (cond (eqb p.header.payload_type s.payload_type) (first_kind s (Some ssrc) p) (kind_beside s (Some ssrc) (red_again_of s.retransmission s.red p.header) p)))))
      sent_again
      (λ e.
      by_test (eqb p.header.payload_type s.payload_type)
      (λ b. Agree left (media_in s (cond b (first_kind s (Some ssrc) p) (kind_beside s (Some ssrc) (red_again_of s.retransmission s.red p.header) p))))
      (λ type. first_agrees)
      (λ other. beside_agrees))

-- ---- any bytes

read_agrees : (k : EdgeRules) (s : Kinds) → FitsTo k s → (ssrc : ℕ) (r : Result Packet RtpError) → Agree (brought_read k ssrc r) (media_in s (kind_read s (Some ssrc) r))
read_agrees k s fits ssrc (Ok p) = packet_agrees k s fits ssrc p
read_agrees k s fits ssrc (Err e) = tt

pub follows_what_is_stored : FollowsWhatIsStored
follows_what_is_stored k s fits ssrc bytes = by_test (is_rtcp bytes) (λ b. Agree (brought_at k ssrc bytes) (media_in s (cond b RtcpPacket (kind_read s (Some ssrc) (rtp_at bytes)))))
    (λ e. agree_none (brought_at k ssrc bytes))
    (λ e. read_agrees k s fits ssrc (rtp_at bytes))
