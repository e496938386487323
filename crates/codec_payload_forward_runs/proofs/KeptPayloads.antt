-- Payloads that a forwarder keeps: those of VP8 without picture ids. Payloads whose ids are moved by the same offsets. And packetizers
-- that stay of one kind.
use Rattle.std.proofs.Common.{◌≡◌, ◌∙◌, refl, sym, ap, subst, ℕ, zero, suc, ◌+◌, ◌-◌, ◌%◌, ◌<◌, List, [], ◌∷◌, ◌++◌, Bool, true, false, ltb, Option, Some, None, Result, Ok, Err, length, arith}
use Rattle.std.specs.Prelude.{slice_index_or}
use Rattle.std.specs.Option.{option_map}
use Rattle.std.proofs.lemmas.Bool.{ltb-false, ltb-true}
use Rattle.codec_payload_base.specs.Answers.{Lands}
use Rattle.codec_payload_base.specs.Described.{AnswersDescribed, described}
use Rattle.codec_payload_base.specs.declared.error.PacketError.{PacketError}
use Rattle.codec_payload_base.specs.declared.picture_id.PictureId.{PictureId}
use Rattle.codec_payload_base.specs.declared.picture_id.PictureId.TheVariants.{Long, Short}
use Rattle.codec_payload_base.specs.declared.wire.Codec.{Codec}
use Rattle.codec_payload_base.specs.declared.wire.Codec.TheVariants as codecs
use Rattle.codec_payload_codec.specs.Packetizers.{PacketizerState, PacketizerStep, is_built_in}
use Rattle.codec_payload_codec.specs.Packetizers as packetizers
use Rattle.codec_payload_sending_forward.specs.Forwarding.{offsets_for, payload_for}
use Rattle.codec_payload_sending_forward.specs.Ids.{Ids, moved_picture, moved_tl0, offsets_at}
use Rattle.codec_payload_sending_forward.specs.Numbers.{above}
use Rattle.codec_payload_vp9.specs.Vp9Sent.{Sender}
use Rattle.codec_payload_sending_forward.specs.Vp8Numbers.{patch_by, patch_with, patched_by, payload_as}
use Rattle.codec_payload_sending_forward.specs.declared.ids.IdOffsets.{IdOffsets}
use Rattle.codec_payload_vp8.specs.Vp8Descriptor.{Descriptor, parsed}
use Rattle.codec_payload_vp8.specs.Vp8Patch.{Patch}
use Rattle.codec_payload_vp8.specs.Vp8Sent.{advanced, gives_packets, header}
use Rattle.codec_payload_vp8.specs.declared.vp8.descriptor.Vp8DescriptorError.{Vp8DescriptorError}
use Rattle.codec_payload_forward_runs.specs.ForwardReleases.{keeps_packetizer, keeps_payloads}

-- a payload without ids
plain_payload : (o : IdOffsets) (first last : Bool) (piece : List ℕ) → payload_as o (header None first last ++ piece) ≡ header None first last ++ piece
plain_payload o true last [] = refl
plain_payload o true last (b ∷ piece) = refl
plain_payload o false last [] = refl
plain_payload o false last (b ∷ piece) = refl

plain_each : (o : IdOffsets) (first : Bool) (pieces : List (List ℕ)) (i : ℕ) → i < length (described (header None) first pieces)
    → payload_as o (slice_index_or (described (header None) first pieces) i []) ≡ slice_index_or (described (header None) first pieces) i []
plain_each o first [] i l = absurd (omega (arith, l))
plain_each o first (piece ∷ []) zero l = plain_payload o first true piece
plain_each o first (piece ∷ []) (suc i) l = absurd (omega (arith, l))
plain_each o first (piece ∷ next ∷ pieces) zero l = plain_payload o first false piece
plain_each o first (piece ∷ next ∷ pieces) (suc i) l = plain_each o false (next ∷ pieces) i (omega (arith, l))

-- those of a frame
vp8_each : (o : IdOffsets) (mtu : ℕ) (frame : List ℕ) (payloads : List (List ℕ)) → AnswersDescribed (header None) 1 mtu frame (Ok payloads) → (i : ℕ) → i < length payloads
    → payload_as o (slice_index_or payloads i []) ≡ slice_index_or payloads i []
vp8_each o mtu frame payloads answers i l = by (ltb 1 mtu) refl
  where
    by : (b : Bool) → ltb 1 mtu ≡ b → payload_as o (slice_index_or payloads i []) ≡ slice_index_or payloads i []
    by true e =
        let are = answers.1 (ltb-true 1 mtu e) in
        subst (λ (ps : List (List ℕ)). payload_as o (slice_index_or ps i []) ≡ slice_index_or ps i []) (sym are.2)
        (plain_each o true are.0 i (subst (λ (ps : List (List ℕ)). i < length ps) are.2 l))
    by false e = absurd (omega (arith, l, ap length (answers.0 (ltb-false 1 mtu e))))

-- the packetizer keeps its id: none
still_none : (gave : Bool) → advanced gave None ≡ None
still_none true = refl
still_none false = refl

-- VP8 without ids: its payloads, and the packetizer after a frame
abbrev pub IsPlainVp8 : PacketizerState → Type 0
IsPlainVp8 packetizer = packetizer ≡ packetizers.Vp8Packetizing None

pub is_plain_vp8 : (packetizer : PacketizerState) → keeps_payloads codecs.Vp8 packetizer ≡ true → IsPlainVp8 packetizer
is_plain_vp8 packetizers.G711Packetizing keeps = absurd (cc)
is_plain_vp8 packetizers.G722Packetizing keeps = absurd (cc)
is_plain_vp8 packetizers.OpusPacketizing keeps = absurd (cc)
is_plain_vp8 packetizers.ComfortNoisePacketizing keeps = absurd (cc)
is_plain_vp8 packetizers.TelePacketizing keeps = absurd (cc)
is_plain_vp8 (packetizers.Vp8Packetizing None) keeps = refl
is_plain_vp8 (packetizers.Vp8Packetizing (Some id)) keeps = absurd (cc)
is_plain_vp8 (packetizers.Vp9Packetizing sender) keeps = absurd (cc)
is_plain_vp8 packetizers.Av1Packetizing keeps = absurd (cc)
is_plain_vp8 (packetizers.AmrWbPacketizing octet) keeps = absurd (cc)
is_plain_vp8 packetizers.NullPacketizing keeps = absurd (cc)
is_plain_vp8 packetizers.BoxedPacketizing keeps = absurd (cc)

-- the packetizer is asked for a frame, if it is built in
abbrev pub Asks : PacketizerState → ℕ → List ℕ → Result (List (List ℕ)) PacketError → PacketizerState → Type 0
Asks packetizer mtu frame answer after = is_built_in packetizer ≡ true → PacketizerStep packetizer mtu frame answer after

vp8_keeps : (packetizer after : PacketizerState) (mtu : ℕ) (frame : List ℕ) (answer : Result (List (List ℕ)) PacketError) → IsPlainVp8 packetizer → Asks packetizer mtu frame answer after
    → keeps_payloads codecs.Vp8 after ≡ true
vp8_keeps packetizer after mtu frame answer plain asks =
    let step : PacketizerStep (packetizers.Vp8Packetizing None) mtu frame answer after = subst (λ (p : PacketizerState). Asks p mtu frame answer after) plain asks refl in
    let next : step.1 ≡ None = step.2.1 ∙ still_none (gives_packets answer) in
    ap (keeps_payloads codecs.Vp8) step.3 ∙ ap (λ (id : Option ℕ). keeps_payloads codecs.Vp8 (packetizers.Vp8Packetizing id)) next

pub vp8_kept : (packetizer after : PacketizerState) (mtu : ℕ) (frame : List ℕ) (payloads : List (List ℕ)) → IsPlainVp8 packetizer → Asks packetizer mtu frame (Ok payloads) after
    → (o : IdOffsets) (i : ℕ) → i < length payloads → payload_as o (slice_index_or payloads i []) ≡ slice_index_or payloads i []
vp8_kept packetizer after mtu frame payloads plain asks o i l =
    let step : PacketizerStep (packetizers.Vp8Packetizing None) mtu frame (Ok payloads) after = subst (λ (p : PacketizerState). Asks p mtu frame (Ok payloads) after) plain asks refl in
    vp8_each o mtu frame payloads step.2.0 i l

-- a packetizer of VP8
pub is_vp8 : (packetizer : PacketizerState) → keeps_packetizer codecs.Vp8 packetizer ≡ true → (id : Option ℕ) × (packetizer ≡ packetizers.Vp8Packetizing id)
is_vp8 packetizers.G711Packetizing keeps = absurd (cc)
is_vp8 packetizers.G722Packetizing keeps = absurd (cc)
is_vp8 packetizers.OpusPacketizing keeps = absurd (cc)
is_vp8 packetizers.ComfortNoisePacketizing keeps = absurd (cc)
is_vp8 packetizers.TelePacketizing keeps = absurd (cc)
is_vp8 (packetizers.Vp8Packetizing id) keeps = (id, refl)
is_vp8 (packetizers.Vp9Packetizing sender) keeps = absurd (cc)
is_vp8 packetizers.Av1Packetizing keeps = absurd (cc)
is_vp8 (packetizers.AmrWbPacketizing octet) keeps = absurd (cc)
is_vp8 packetizers.NullPacketizing keeps = absurd (cc)
is_vp8 packetizers.BoxedPacketizing keeps = absurd (cc)

vp8_stays : (packetizer after : PacketizerState) (mtu : ℕ) (frame : List ℕ) (answer : Result (List (List ℕ)) PacketError) (id : Option ℕ) → packetizer ≡ packetizers.Vp8Packetizing id
    → Asks packetizer mtu frame answer after → keeps_packetizer codecs.Vp8 after ≡ true
vp8_stays packetizer after mtu frame answer id is asks =
    let step : PacketizerStep (packetizers.Vp8Packetizing id) mtu frame answer after = subst (λ (p : PacketizerState). Asks p mtu frame answer after) is asks refl in
    ap (keeps_packetizer codecs.Vp8) step.3

-- a packetizer of VP9
pub is_vp9 : (packetizer : PacketizerState) → keeps_packetizer codecs.Vp9 packetizer ≡ true → (sender : Sender) × (packetizer ≡ packetizers.Vp9Packetizing sender)
is_vp9 packetizers.G711Packetizing keeps = absurd (cc)
is_vp9 packetizers.G722Packetizing keeps = absurd (cc)
is_vp9 packetizers.OpusPacketizing keeps = absurd (cc)
is_vp9 packetizers.ComfortNoisePacketizing keeps = absurd (cc)
is_vp9 packetizers.TelePacketizing keeps = absurd (cc)
is_vp9 (packetizers.Vp8Packetizing id) keeps = absurd (cc)
is_vp9 packetizers.Av1Packetizing keeps = absurd (cc)
is_vp9 (packetizers.AmrWbPacketizing octet) keeps = absurd (cc)
is_vp9 packetizers.NullPacketizing keeps = absurd (cc)
is_vp9 packetizers.BoxedPacketizing keeps = absurd (cc)
is_vp9 (packetizers.Vp9Packetizing sender) keeps = (sender, refl)

vp9_keeps : (packetizer after : PacketizerState) (mtu : ℕ) (frame : List ℕ) (answer : Result (List (List ℕ)) PacketError) (sender : Sender) → packetizer ≡ packetizers.Vp9Packetizing sender
    → Asks packetizer mtu frame answer after → keeps_packetizer codecs.Vp9 after ≡ true
vp9_keeps packetizer after mtu frame answer sender is asks =
    let step : PacketizerStep (packetizers.Vp9Packetizing sender) mtu frame answer after = subst (λ (p : PacketizerState). Asks p mtu frame answer after) is asks refl in
    ap (keeps_packetizer codecs.Vp9) step.3

-- after a frame the payloads are kept too
pub still_kept : (codec : Codec) (packetizer after : PacketizerState) (mtu : ℕ) (frame : List ℕ) (answer : Result (List (List ℕ)) PacketError) → keeps_payloads codec packetizer ≡ true
    → Asks packetizer mtu frame answer after → keeps_payloads codec after ≡ true
still_kept codecs.Vp8 packetizer after mtu frame answer keeps asks = vp8_keeps packetizer after mtu frame answer (is_plain_vp8 packetizer keeps) asks
still_kept codecs.Vp9 packetizer after mtu frame answer keeps asks = refl
still_kept codecs.Opus packetizer after mtu frame answer keeps asks = refl
still_kept codecs.PCMU packetizer after mtu frame answer keeps asks = refl
still_kept codecs.PCMA packetizer after mtu frame answer keeps asks = refl
still_kept codecs.G722 packetizer after mtu frame answer keeps asks = refl
still_kept codecs.CN packetizer after mtu frame answer keeps asks = refl
still_kept codecs.AmrWb packetizer after mtu frame answer keeps asks = refl
still_kept codecs.H264 packetizer after mtu frame answer keeps asks = refl
still_kept codecs.H265 packetizer after mtu frame answer keeps asks = refl
still_kept codecs.H266 packetizer after mtu frame answer keeps asks = refl
still_kept codecs.Av1 packetizer after mtu frame answer keeps asks = refl
still_kept codecs.Null packetizer after mtu frame answer keeps asks = refl
still_kept codecs.Tele packetizer after mtu frame answer keeps asks = refl
still_kept codecs.Rtx packetizer after mtu frame answer keeps asks = refl
still_kept codecs.Red packetizer after mtu frame answer keeps asks = refl
still_kept codecs.Unknown packetizer after mtu frame answer keeps asks = refl

-- and the packetizer is of the codec
pub still_keeps : (codec : Codec) (packetizer after : PacketizerState) (mtu : ℕ) (frame : List ℕ) (answer : Result (List (List ℕ)) PacketError) → keeps_packetizer codec packetizer ≡ true
    → Asks packetizer mtu frame answer after → keeps_packetizer codec after ≡ true
still_keeps codecs.Vp9 packetizer after mtu frame answer keeps asks = let is = is_vp9 packetizer keeps in vp9_keeps packetizer after mtu frame answer is.0 is.1 asks
still_keeps codecs.Vp8 packetizer after mtu frame answer keeps asks = let is = is_vp8 packetizer keeps in vp8_stays packetizer after mtu frame answer is.0 is.1 asks
still_keeps codecs.Opus packetizer after mtu frame answer keeps asks = refl
still_keeps codecs.PCMU packetizer after mtu frame answer keeps asks = refl
still_keeps codecs.PCMA packetizer after mtu frame answer keeps asks = refl
still_keeps codecs.G722 packetizer after mtu frame answer keeps asks = refl
still_keeps codecs.CN packetizer after mtu frame answer keeps asks = refl
still_keeps codecs.AmrWb packetizer after mtu frame answer keeps asks = refl
still_keeps codecs.H264 packetizer after mtu frame answer keeps asks = refl
still_keeps codecs.H265 packetizer after mtu frame answer keeps asks = refl
still_keeps codecs.H266 packetizer after mtu frame answer keeps asks = refl
still_keeps codecs.Av1 packetizer after mtu frame answer keeps asks = refl
still_keeps codecs.Null packetizer after mtu frame answer keeps asks = refl
still_keeps codecs.Tele packetizer after mtu frame answer keeps asks = refl
still_keeps codecs.Rtx packetizer after mtu frame answer keeps asks = refl
still_keeps codecs.Red packetizer after mtu frame answer keeps asks = refl
still_keeps codecs.Unknown packetizer after mtu frame answer keeps asks = refl

-- and after a frame that was refused
abbrev pub Declines : PacketizerState → ℕ → List ℕ → PacketError → PacketizerState → Type 0
Declines packetizer mtu frame fault after = is_built_in packetizer ≡ true → (answer : Result (List (List ℕ)) PacketError) × PacketizerStep packetizer mtu frame answer after × Lands answer (Err fault) []

vp8_declines : (packetizer after : PacketizerState) (mtu : ℕ) (frame : List ℕ) (fault : PacketError) → IsPlainVp8 packetizer → Declines packetizer mtu frame fault after
    → keeps_payloads codecs.Vp8 after ≡ true
vp8_declines packetizer after mtu frame fault plain declines =
    let step = subst (λ (p : PacketizerState). Declines p mtu frame fault after) plain declines refl in
    vp8_keeps (packetizers.Vp8Packetizing None) after mtu frame step.0 refl (λ built. step.1)

vp9_declines : (packetizer after : PacketizerState) (mtu : ℕ) (frame : List ℕ) (fault : PacketError) (sender : Sender) → packetizer ≡ packetizers.Vp9Packetizing sender
    → Declines packetizer mtu frame fault after → keeps_packetizer codecs.Vp9 after ≡ true
vp9_declines packetizer after mtu frame fault sender is declines =
    let step = subst (λ (p : PacketizerState). Declines p mtu frame fault after) is declines refl in
    vp9_keeps (packetizers.Vp9Packetizing sender) after mtu frame step.0 sender refl (λ built. step.1)

vp8_refused : (packetizer after : PacketizerState) (mtu : ℕ) (frame : List ℕ) (fault : PacketError) (id : Option ℕ) → packetizer ≡ packetizers.Vp8Packetizing id
    → Declines packetizer mtu frame fault after → keeps_packetizer codecs.Vp8 after ≡ true
vp8_refused packetizer after mtu frame fault id is declines =
    let step = subst (λ (p : PacketizerState). Declines p mtu frame fault after) is declines refl in
    vp8_stays (packetizers.Vp8Packetizing id) after mtu frame step.0 id refl (λ built. step.1)

pub refused_kept : (codec : Codec) (packetizer after : PacketizerState) (mtu : ℕ) (frame : List ℕ) (fault : PacketError) → keeps_payloads codec packetizer ≡ true
    → Declines packetizer mtu frame fault after → keeps_payloads codec after ≡ true
refused_kept codecs.Vp8 packetizer after mtu frame fault keeps declines = vp8_declines packetizer after mtu frame fault (is_plain_vp8 packetizer keeps) declines
refused_kept codecs.Vp9 packetizer after mtu frame fault keeps declines = refl
refused_kept codecs.Opus packetizer after mtu frame fault keeps declines = refl
refused_kept codecs.PCMU packetizer after mtu frame fault keeps declines = refl
refused_kept codecs.PCMA packetizer after mtu frame fault keeps declines = refl
refused_kept codecs.G722 packetizer after mtu frame fault keeps declines = refl
refused_kept codecs.CN packetizer after mtu frame fault keeps declines = refl
refused_kept codecs.AmrWb packetizer after mtu frame fault keeps declines = refl
refused_kept codecs.H264 packetizer after mtu frame fault keeps declines = refl
refused_kept codecs.H265 packetizer after mtu frame fault keeps declines = refl
refused_kept codecs.H266 packetizer after mtu frame fault keeps declines = refl
refused_kept codecs.Av1 packetizer after mtu frame fault keeps declines = refl
refused_kept codecs.Null packetizer after mtu frame fault keeps declines = refl
refused_kept codecs.Tele packetizer after mtu frame fault keeps declines = refl
refused_kept codecs.Rtx packetizer after mtu frame fault keeps declines = refl
refused_kept codecs.Red packetizer after mtu frame fault keeps declines = refl
refused_kept codecs.Unknown packetizer after mtu frame fault keeps declines = refl

pub refused_still : (codec : Codec) (packetizer after : PacketizerState) (mtu : ℕ) (frame : List ℕ) (fault : PacketError) → keeps_packetizer codec packetizer ≡ true
    → Declines packetizer mtu frame fault after → keeps_packetizer codec after ≡ true
refused_still codecs.Vp9 packetizer after mtu frame fault keeps declines = let is = is_vp9 packetizer keeps in vp9_declines packetizer after mtu frame fault is.0 is.1 declines
refused_still codecs.Vp8 packetizer after mtu frame fault keeps declines = let is = is_vp8 packetizer keeps in vp8_refused packetizer after mtu frame fault is.0 is.1 declines
refused_still codecs.Opus packetizer after mtu frame fault keeps declines = refl
refused_still codecs.PCMU packetizer after mtu frame fault keeps declines = refl
refused_still codecs.PCMA packetizer after mtu frame fault keeps declines = refl
refused_still codecs.G722 packetizer after mtu frame fault keeps declines = refl
refused_still codecs.CN packetizer after mtu frame fault keeps declines = refl
refused_still codecs.AmrWb packetizer after mtu frame fault keeps declines = refl
refused_still codecs.H264 packetizer after mtu frame fault keeps declines = refl
refused_still codecs.H265 packetizer after mtu frame fault keeps declines = refl
refused_still codecs.H266 packetizer after mtu frame fault keeps declines = refl
refused_still codecs.Av1 packetizer after mtu frame fault keeps declines = refl
refused_still codecs.Null packetizer after mtu frame fault keeps declines = refl
refused_still codecs.Tele packetizer after mtu frame fault keeps declines = refl
refused_still codecs.Rtx packetizer after mtu frame fault keeps declines = refl
refused_still codecs.Red packetizer after mtu frame fault keeps declines = refl
refused_still codecs.Unknown packetizer after mtu frame fault keeps declines = refl

-- payloads of VP8 have no ids
abbrev pub IsKept : Codec → List ℕ → Type 0
IsKept codecs.Vp8 payload = (o : IdOffsets) → payload_as o payload ≡ payload
IsKept codec payload = Unit {0}

pub kept_each : (codec : Codec) (packetizer after : PacketizerState) (mtu : ℕ) (frame : List ℕ) (payloads : List (List ℕ)) → keeps_payloads codec packetizer ≡ true
    → Asks packetizer mtu frame (Ok payloads) after → (i : ℕ) → i < length payloads → IsKept codec (slice_index_or payloads i [])
kept_each codecs.Vp8 packetizer after mtu frame payloads keeps asks i l = λ o. vp8_kept packetizer after mtu frame payloads (is_plain_vp8 packetizer keeps) asks o i l
kept_each codecs.Vp9 packetizer after mtu frame payloads keeps asks i l = tt
kept_each codecs.Opus packetizer after mtu frame payloads keeps asks i l = tt
kept_each codecs.PCMU packetizer after mtu frame payloads keeps asks i l = tt
kept_each codecs.PCMA packetizer after mtu frame payloads keeps asks i l = tt
kept_each codecs.G722 packetizer after mtu frame payloads keeps asks i l = tt
kept_each codecs.CN packetizer after mtu frame payloads keeps asks i l = tt
kept_each codecs.AmrWb packetizer after mtu frame payloads keeps asks i l = tt
kept_each codecs.H264 packetizer after mtu frame payloads keeps asks i l = tt
kept_each codecs.H265 packetizer after mtu frame payloads keeps asks i l = tt
kept_each codecs.H266 packetizer after mtu frame payloads keeps asks i l = tt
kept_each codecs.Av1 packetizer after mtu frame payloads keeps asks i l = tt
kept_each codecs.Null packetizer after mtu frame payloads keeps asks i l = tt
kept_each codecs.Tele packetizer after mtu frame payloads keeps asks i l = tt
kept_each codecs.Rtx packetizer after mtu frame payloads keeps asks i l = tt
kept_each codecs.Red packetizer after mtu frame payloads keeps asks i l = tt
kept_each codecs.Unknown packetizer after mtu frame payloads keeps asks i l = tt

-- Offsets that differ by multiples of 2^16 are the same for ids of 7 and of 15 bits
same_id : (p q : ℕ) (id : PictureId) → p % 65536 ≡ q % 65536 → moved_picture p id ≡ moved_picture q id
same_id p q (Short n) same = ap Short (omega (arith, same))
same_id p q (Long n) same = ap Long (omega (arith, same))

same_picture : (p q : ℕ) (id : Option PictureId) → p % 65536 ≡ q % 65536 → option_map (moved_picture p) id ≡ option_map (moved_picture q) id
same_picture p q None same = refl
same_picture p q (Some id) same = ap (λ (x : PictureId). Some x) (same_id p q id same)

same_patch : (p q tl0 : ℕ) (r : Result Descriptor Vp8DescriptorError) → p % 65536 ≡ q % 65536 → patch_by (record { picture = p; tl0 = tl0 }) r ≡ patch_by (record { picture = q; tl0 = tl0 }) r
same_patch p q tl0 (Ok d) same =
    ap (λ (id : Option PictureId). patch_with d (record { picture_id = id; tl0_pic_idx = option_map (moved_tl0 tl0) d.tl0_pic_idx })) (same_picture p q d.picture_id same)
same_patch p q tl0 (Err error) same = refl

-- a payload depends on the low bits of the offset alone
pub same_moved : (p q tl0 : ℕ) (payload : List ℕ) → p % 65536 ≡ q % 65536 → payload_as (record { picture = p; tl0 = tl0 }) payload ≡ payload_as (record { picture = q; tl0 = tl0 }) payload
same_moved p q tl0 payload same = ap (λ (patch : Option Patch). patched_by patch payload) (same_patch p q tl0 (parsed payload) same)

-- no picture was left out, so none of the ids close up
unclosed : (ids : Ids) (n : ℕ) (payload : List ℕ) → ids.left_out ≡ [] → payload_as (offsets_at ids n) payload ≡ payload_as ids.offsets payload
unclosed ids n payload none =
    ap (λ (patch : Option Patch). patched_by patch payload)
    (same_patch (offsets_at ids n).picture ids.offsets.picture ids.offsets.tl0 (parsed payload)
    (ap (λ (left : List ℕ). (ids.offsets.picture + (65536 - (length left - above n left))) % 65536 % 65536) none ∙ omega arith))

-- a payload is sent with the offsets that the forwarder began with
same_kept : (codec : Codec) (ids : Ids) (n : ℕ) (payload : List ℕ) → IsKept codec payload → payload_for codec (offsets_for codec ids n) payload ≡ payload_for codec ids.offsets payload
same_kept codecs.Vp8 ids n payload kept = kept (offsets_at ids n) ∙ sym (kept ids.offsets)
same_kept codecs.Vp9 ids n payload kept = refl
same_kept codecs.Opus ids n payload kept = refl
same_kept codecs.PCMU ids n payload kept = refl
same_kept codecs.PCMA ids n payload kept = refl
same_kept codecs.G722 ids n payload kept = refl
same_kept codecs.CN ids n payload kept = refl
same_kept codecs.AmrWb ids n payload kept = refl
same_kept codecs.H264 ids n payload kept = refl
same_kept codecs.H265 ids n payload kept = refl
same_kept codecs.H266 ids n payload kept = refl
same_kept codecs.Av1 ids n payload kept = refl
same_kept codecs.Null ids n payload kept = refl
same_kept codecs.Tele ids n payload kept = refl
same_kept codecs.Rtx ids n payload kept = refl
same_kept codecs.Red ids n payload kept = refl
same_kept codecs.Unknown ids n payload kept = refl

same_unclosed : (codec : Codec) (ids : Ids) (n : ℕ) (payload : List ℕ) → ids.left_out ≡ [] → payload_for codec (offsets_for codec ids n) payload ≡ payload_for codec ids.offsets payload
same_unclosed codecs.Vp8 ids n payload none = unclosed ids n payload none
same_unclosed codecs.Vp9 ids n payload none = refl
same_unclosed codecs.Opus ids n payload none = refl
same_unclosed codecs.PCMU ids n payload none = refl
same_unclosed codecs.PCMA ids n payload none = refl
same_unclosed codecs.G722 ids n payload none = refl
same_unclosed codecs.CN ids n payload none = refl
same_unclosed codecs.AmrWb ids n payload none = refl
same_unclosed codecs.H264 ids n payload none = refl
same_unclosed codecs.H265 ids n payload none = refl
same_unclosed codecs.H266 ids n payload none = refl
same_unclosed codecs.Av1 ids n payload none = refl
same_unclosed codecs.Null ids n payload none = refl
same_unclosed codecs.Tele ids n payload none = refl
same_unclosed codecs.Rtx ids n payload none = refl
same_unclosed codecs.Red ids n payload none = refl
same_unclosed codecs.Unknown ids n payload none = refl

pub same_payload : (plain : Bool) (codec : Codec) (ids : Ids) (n : ℕ) (payload : List ℕ) → (plain ≡ true → IsKept codec payload) → (plain ≡ false → ids.left_out ≡ [])
    → payload_for codec (offsets_for codec ids n) payload ≡ payload_for codec ids.offsets payload
same_payload true codec ids n payload kept none = same_kept codec ids n payload (kept refl)
same_payload false codec ids n payload kept none = same_unclosed codec ids n payload (none refl)
