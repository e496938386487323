-- What a receiver of FEC takes from what a sender of FEC writes.
use Rattle.std.proofs.Common.{◌≡◌, ℕ, zero, ◌+◌, ◌<◌, ◌≤◌, Bool, true, false, cond, eqb, ltb, List, [], ◌∷◌, length, Option, Some, None, refl, sym, ap, ◌∙◌, subst, arith, eq-eqb, lt-ltb}
use Rattle.std.specs.Prelude.{◌||◌, not, Ok}
use Rattle.std.proofs.lemmas.Bool.{le-ltb, ltb-false}
use Rattle.codec_payload_base.specs.Flags.{AreBytes}
use Rattle.codec_payload_rtp.specs.RtpPackets.{FitsHeader, Packet, packet_bytes}
use Rattle.codec_payload_rtp.specs.RtpReading.{rtp_at}
use Rattle.codec_payload_rtp.proofs.RtpGrammar.{rtp_takes}
use Rattle.codec_payload_rtp.proofs.RtpWriting.{packet_again}
use Rattle.codec_payload_fec_receiver.specs.Contents.{Content, Fec, Media, content_of}
use Rattle.codec_payload_fec_receiver.specs.declared.content.FecSettings.{FecSettings}
use Rattle.codec_payload_fec_receiver.specs.declared.late.LateIds.{LateIds}
use Rattle.codec_payload_fec_receiver.specs.Late.{plain_bytes}
use Rattle.codec_payload_sending_fec.specs.Senders.{Sender, fault_of, fec_packet, in_red, is_media, numbered, protected_bytes, refusal_of, sent_packet}
use Rattle.codec_payload_sending_fec.specs.Taken.{FecIsTaken, Hears, MediaIsTaken, passed}
use Rattle.codec_payload_sending_fec.specs.declared.fec_sender.FecSendError.{FecSendError}
use Rattle.codec_payload_sending_fec.specs.declared.fec_sender.FecSenderError.{FecSenderError}
use Rattle.codec_payload_sending_fec.specs.declared.fec_sender.FecSenderSettings.{FecSenderSettings}

-- ---- no fault

no_fault : (x y z : FecSendError) (a b c d : Bool) → cond a (Some x) (cond (not b) (Some y) (cond (c || d) (Some z) None)) ≡ None → (b ≡ true) × (c ≡ false) × (d ≡ false)
no_fault x y z true b c d e = absurd cc
no_fault x y z false false c d e = absurd cc
no_fault x y z false true true d e = absurd cc
no_fault x y z false true false true e = absurd cc
no_fault x y z false true false false e = (refl, refl, refl)

no_refusal : (x y : FecSenderError) (a b c : Bool) → cond a (Some x) (cond (b || c) (Some y) None) ≡ None → (a ≡ false) × (b ≡ false) × (c ≡ false)
no_refusal x y true b c e = absurd cc
no_refusal x y false true c e = absurd cc
no_refusal x y false false true e = absurd cc
no_refusal x y false false false e = (refl, refl, refl)

-- ---- media

-- RED with one block of media
block_of_media : (r : FecSettings) (h : Packet) (kind : ℕ) (contents : List ℕ) → eqb h.header.ssrc r.ssrc ≡ true → eqb h.header.payload_type r.red_type ≡ true → h.payload ≡ kind ∷ contents
    → ltb 127 kind ≡ false → eqb kind r.red_type ≡ false → eqb kind r.fec_type ≡ false
    → content_of r (Ok h) ≡ Media (record { header = record h.header { payload_type = kind }; payload = contents; padding = 0 })
block_of_media r h kind contents e1 e2 e3 e4 e5 e6 = rw (e1, e2, e3, e4, e5, e6) refl

block_of_fec : (r : FecSettings) (h : Packet) (kind : ℕ) (contents : List ℕ) → eqb h.header.ssrc r.ssrc ≡ true → eqb h.header.payload_type r.red_type ≡ true → h.payload ≡ kind ∷ contents
    → ltb 127 kind ≡ false → eqb kind r.red_type ≡ false → eqb kind r.fec_type ≡ true → content_of r (Ok h) ≡ Fec contents
block_of_fec r h kind contents e1 e2 e3 e4 e5 e6 = rw (e1, e2, e3, e4, e5, e6) refl

in_red_of : (red n : ℕ) (p : Packet) → is_media p.payload ≡ true → sent_packet red (numbered n p) ≡ in_red red (numbered n p)
in_red_of red n p is = rw is refl

pub media_is_taken : MediaIsTaken
media_is_taken s r datagram p n hears are read none is few =
    let facts = no_fault _ _ _ (ltb 65547 (length datagram)) (eqb p.header.ssrc s.ssrc) (eqb p.header.payload_type s.red_type) (eqb p.header.payload_type s.fec_type) none in
    let range = no_refusal _ _ (ltb 127 s.red_type) (ltb 127 s.fec_type) (eqb s.fec_type s.red_type) hears.in_range in
    let fits : FitsHeader p.header = (rtp_takes datagram p are read).fits in
    let red : s.red_type < 128 = omega (arith, ltb-false 127 s.red_type range.0) in
    let q : Packet = in_red s.red_type (numbered n p) in
    let q_fits : FitsHeader q.header =
    record { payload_type = red; sequence_number = few; timestamp = fits.timestamp; ssrc = fits.ssrc; csrcs = fits.csrcs; extension = fits.extension } in
    let again : rtp_at (packet_bytes q) ≡ Ok q = packet_again q q_fits (omega arith) in
    let taken : content_of r (Ok q) ≡ Media (passed n p) = block_of_media r q p.header.payload_type p.payload (ap (eqb p.header.ssrc) hears.ssrc ∙ facts.0) (ap (eqb s.red_type) hears.red_type ∙ eq-eqb s.red_type s.red_type refl) refl (le-ltb 127 p.header.payload_type (omega (arith, fits.payload_type)))
    (ap (eqb p.header.payload_type) hears.red_type ∙ facts.1) (ap (eqb p.header.payload_type) hears.fec_type ∙ facts.2) in (
      ap (λ (x : Packet). content_of r (rtp_at (packet_bytes x))) (in_red_of s.red_type n p is) ∙ ap (content_of r) again ∙ taken,
      ap (λ (late : LateIds). plain_bytes late (passed n p)) hears.late_ids,
    )

pub fec_is_taken : FecIsTaken
fec_is_taken s r n bytes hears ssrc time few =
    let range = no_refusal _ _ (ltb 127 s.settings.red_type) (ltb 127 s.settings.fec_type) (eqb s.settings.fec_type s.settings.red_type) hears.in_range in
    let red : s.settings.red_type < 128 = omega (arith, ltb-false 127 s.settings.red_type range.0) in
    let q : Packet = fec_packet s n bytes in
    let q_fits : FitsHeader q.header =
    record { payload_type = red; sequence_number = few; timestamp = time; ssrc = ssrc; csrcs = record { whole = refl; few = omega arith }; extension = tt } in
    let again : rtp_at (packet_bytes q) ≡ Ok q = packet_again q q_fits (omega arith) in
    ap (content_of r) again
    ∙ block_of_fec r q s.settings.fec_type bytes (ap (eqb s.settings.ssrc) hears.ssrc ∙ eq-eqb s.settings.ssrc s.settings.ssrc refl)
    (ap (eqb s.settings.red_type) hears.red_type ∙ eq-eqb s.settings.red_type s.settings.red_type refl) refl range.1
    (ap (eqb s.settings.fec_type) hears.red_type ∙ range.2) (ap (eqb s.settings.fec_type) hears.fec_type ∙ eq-eqb s.settings.fec_type s.settings.fec_type refl)
