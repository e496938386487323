-- A VP9 frame is one lawful unit, in either mode: all of its packets, from the one with the B bit to the one with the
-- marker.
use Rattle.std.proofs.Common.{◌≡◌, ◌∙◌, sym, ap, refl, ℕ, ◌+◌, ◌<◌, ◌%◌, ◌^◌, ◌||◌, ◌&&◌, List, [], ◌∷◌, ◌++◌, length, arith, Bool, true, false, Some, Ok, Err, cond, eqb}
use Rattle.codec_payload_codec.proofs.CaseLemmas.{by_test}
use Rattle.codec_payload_base.specs.Answers.{is_empty}
use Rattle.codec_payload_base.specs.Described.{AnswersDescribed}
use Rattle.codec_payload_base.specs.declared.interface.CodecExtra.{CodecExtra}
use Rattle.codec_payload_base.specs.declared.interface.CodecExtra.TheVariants as extras
use Rattle.codec_payload_base.specs.declared.interface.Vp9PacketizerMode.{Vp9PacketizerMode}
use Rattle.codec_payload_base.specs.declared.interface.Vp9PacketizerMode.TheVariants.{Flexible, NonFlexible}
use Rattle.codec_payload_codec.specs.Depacketizers.{Vp9Depacketizing, Vp9Payloads, kind_of_depacketizer}
use Rattle.codec_payload_codec.specs.Packetizers.{Vp9Packetizing}
use Rattle.codec_payload_buffer_runs.proofs.units.DescribedUnits.{all_silent, all_told, cut, described_sends}
use Rattle.codec_payload_buffer_runs.proofs.units.PieceUnits.{IsPiece, TellAll}
use Rattle.codec_payload_buffer_runs.proofs.units.SendsUnits.{SendsUnits}
use Rattle.codec_payload_buffer_runs.proofs.order.ReportLemmas.{IsSilent, IsTold, extension_is_next}
use Rattle.codec_payload_payloader.specs.Sending.{Sample}
use Rattle.codec_payload_codec.specs.BaseLayers.{is_absent, lacks_base}
use Rattle.codec_payload_buffer_runs.specs.ReportedIds.{id_in, id_later}
use Rattle.codec_payload_vp9.proofs.PictureLemmas.{sent_keeps_base, sent_tells}
use Rattle.codec_payload_vp9.proofs.SentIsTakenLemmas.{first_starts, sent_is_taken}
use Rattle.codec_payload_vp9.specs.Vp9Keyframe.{is_key_frame}
use Rattle.codec_payload_vp9.specs.Vp9Laws.{IsInPlace}
use Rattle.codec_payload_vp9.specs.Vp9Received.{told_before}
use Rattle.codec_payload_vp9.specs.Vp9Sent.{Sender, advanced, begun, header, next_tl0_in, reserve_in, sender_after}

is_piece : (s : Sender) (key : Bool) → s.picture_id < 2 ^ 15 → (first last : Bool) (piece : List ℕ) → 0 < length piece → IsPiece Vp9Payloads (IsInPlace s.mode) (header s key first last ++ piece) piece
is_piece s key small first last piece some (Vp9Depacketizing d) out extra (Ok x) e out' extra' is keeps step =
    let taken = sent_is_taken s key first last piece small d out extra (Ok x) step.0 out' extra' keeps step.1 in
    (ap kind_of_depacketizer step.2, (taken.0, taken.1))
is_piece s key small first last piece some (Vp9Depacketizing d) out extra (Err fault) e out' extra' is keeps step =
    (ap kind_of_depacketizer step.2, sent_is_taken s key first last piece small d out extra (Err fault) step.0 out' extra' keeps step.1)
is_piece s key small first last piece some d out extra one e out' extra' is keeps step = absurd (cc)

-- the flexible mode reports no id of a base layer, and the non-flexible mode both ids
lacked : (extra : CodecExtra) → lacks_base extra ≡ true → is_absent (told_before extra).tl0_picture_id ≡ true
lacked (extras.Vp9 e) lacks = lacks
lacked extra lacks = refl

is_silent : (id tl0 : ℕ) (key : Bool) → id < 2 ^ 15 → (first last : Bool) (piece : List ℕ)
    → IsSilent Vp9Payloads (header (record { mode = Flexible; picture_id = id; tl0picidx = tl0 }) key first last ++ piece)
is_silent id tl0 key small first last piece (Vp9Depacketizing d) out extra x e out' extra' is lacks step =
    let kept = sent_keeps_base d id tl0 small piece out extra x step.0 out' extra' key first last step.1 in
    (ap kind_of_depacketizer step.2, ap lacks_base kept.1 ∙ (ap is_absent kept.2 ∙ lacked extra lacks))
is_silent id tl0 key small first last piece d out extra x e out' extra' is lacks step = absurd (cc)

is_told : (id tl0 : ℕ) (key : Bool) → id < 2 ^ 15 → (first last : Bool) (piece : List ℕ)
    → IsTold Vp9Payloads id (header (record { mode = NonFlexible; picture_id = id; tl0picidx = tl0 }) key first last ++ piece)
is_told id tl0 key small first last piece (Vp9Depacketizing d) out extra x e out' extra' is step =
    let told = sent_tells d id tl0 small piece out extra x step.0 out' extra' key first last step.1 in (
      ap kind_of_depacketizer step.2,
      record {
        told = told.told;
        is = told.is;
        picture = _;
        base = _;
        has_picture = told.picture;
        has_base = told.base;
        base_layer = told.layer;
        next = extension_is_next d.extended_pid d.picture_id id;
        read = rw (step.2, told.last, told.extended_last) refl;
      },
    )
is_told id tl0 key small first last piece d out extra x e out' extra' is step = absurd (cc)

tell : (mode : Vp9PacketizerMode) (id tl0 : ℕ) (key : Bool) (next : Sender) (sample : Sample) (rtp_time number : ℕ) → id < 2 ^ 15 → (piece : List ℕ) (pieces : List (List ℕ))
    → TellAll Vp9Payloads (IsInPlace mode) (id_in mode id) (cut (header (record { mode = mode; picture_id = id; tl0picidx = tl0 }) key)
    (Vp9Packetizing next) sample rtp_time true number 0 (piece ∷ pieces))
tell NonFlexible id tl0 key next sample rtp_time number small piece pieces = (
  small,
  all_told Vp9Payloads id (header (record { mode = NonFlexible; picture_id = id; tl0picidx = tl0 }) key) (is_told id tl0 key small)
      (Vp9Packetizing next) sample rtp_time true number 0 (piece ∷ pieces),
)
tell Flexible id tl0 key next sample rtp_time number small piece pieces =
    all_silent Vp9Payloads (header (record { mode = Flexible; picture_id = id; tl0picidx = tl0 }) key) (is_silent id tl0 key small) (Vp9Packetizing next) sample rtp_time true number 0 (piece ∷ pieces)

starts : (mode : Vp9PacketizerMode) → IsInPlace mode [] extras.None
starts NonFlexible = refl
starts Flexible = tt

marks : (sample : Sample) (last : Bool) → last || (false && sample.start_of_talk_spurt) ≡ last
marks sample true = refl
marks sample false = refl

first_id : (mode : Vp9PacketizerMode) (id : ℕ) → id < 2 ^ 15 → id_in mode id ≡ id_later (id_in mode id) 0
first_id NonFlexible id small = let e : id ≡ (id + 0) % 32768 = omega (arith, small) in ap Some e
first_id Flexible id small = refl

goes_round : (mode : Vp9PacketizerMode) (id m : ℕ) → id_later (id_in mode ((id + 1) % 2 ^ 15)) m ≡ id_later (id_in mode id) (1 + m)
goes_round NonFlexible id m = let e : ((id + 1) % 32768 + m) % 32768 ≡ (id + (1 + m)) % 32768 = omega arith in ap Some e
goes_round Flexible id m = refl

-- before a frame the mode and the picture id stay
begun_keeps : (s : Sender) (mtu : ℕ) (frame : List ℕ) → ((begun s mtu frame).mode ≡ s.mode) × ((begun s mtu frame).picture_id ≡ s.picture_id)
begun_keeps s mtu frame =
    by_test (is_empty frame || eqb mtu 0) (λ b. ((cond b s (record s { tl0picidx = next_tl0_in s.mode s.tl0picidx })).mode ≡ s.mode)
    × ((cond b s (record s { tl0picidx = next_tl0_in s.mode s.tl0picidx })).picture_id ≡ s.picture_id))
    (λ _. (refl, refl)) (λ _. (refl, refl))

pub vp9_sends : (s next : Sender) (mtu : ℕ) (sample : Sample) (rtp_time number : ℕ) (payloads : List (List ℕ)) → s.picture_id < 2 ^ 15
    → AnswersDescribed (header (begun s mtu sample.bytes) (is_key_frame sample.bytes)) (reserve_in s.mode) mtu sample.bytes (Ok payloads)
    → next ≡ sender_after s (begun s mtu sample.bytes) (Ok payloads) → SendsUnits (Vp9Packetizing s) mtu sample rtp_time number payloads (Vp9Packetizing next)
vp9_sends s next mtu sample rtp_time number payloads small answer goes_on =
    let b = begun s mtu sample.bytes in
    let key = is_key_frame sample.bytes in
    let kept = begun_keeps s mtu sample.bytes in
    let low : b.picture_id < 2 ^ 15 = rw kept.1 small in
    let same : id_in s.mode s.picture_id ≡ id_in b.mode b.picture_id = rw (kept.0, kept.1) refl in
    described_sends Vp9Payloads (IsInPlace b.mode) (header b key) (Vp9Packetizing next) sample rtp_time (first_starts b key) (λ number last payload. marks sample last) (is_piece b key low)
    (Vp9Packetizing s) (id_in b.mode b.picture_id) mtu (reserve_in s.mode) number payloads (starts b.mode) (tell b.mode b.picture_id b.tl0picidx key next sample rtp_time number low)
    refl refl same (first_id b.mode b.picture_id low) refl refl refl
    (λ skip none. (ap Vp9Packetizing (goes_on ∙ rw (none, skip) refl), rw skip (sym same)))
    (λ roomy first others some.
    let is : next ≡ advanced true b = goes_on ∙ rw some refl in
    (ap Vp9Packetizing (is ∙ rw roomy refl), λ m. ap (λ (n : Sender). id_later (id_in n.mode n.picture_id) m) is ∙ goes_round b.mode b.picture_id m))
    answer
