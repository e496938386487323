-- The payloads of a packetizer, as the viewer gets them, are those of the moved packetizer.
use Rattle.std.proofs.Common.{◌≡◌, ◌∙◌, refl, sym, ap, subst, ℕ, suc, ◌+◌, ◌%◌, ◌^◌, ◌<◌, List, [], ◌∷◌, ◌++◌, Bool, true, false, ◌||◌, cond, inl, inr, Option, Some, None, Result, Ok, Err, length, map, arith}
use Rattle.std.specs.Prelude.{◌==◌, ◌⊎◌, not, slice_index_or}
use Rattle.std.proofs.lemmas.List.{length-map}
use Rattle.codec_payload_base.proofs.PictureIdLemmas.{takes_spelled}
use Rattle.codec_payload_base.specs.Answers.{Lands, is_empty}
use Rattle.codec_payload_base.specs.Described.{AnswersDescribed, described, described_is_skipped}
use Rattle.codec_payload_base.specs.Flags.{has_bit}
use Rattle.codec_payload_base.specs.PictureIds.{id_bytes}
use Rattle.codec_payload_base.specs.declared.error.PacketError.{PacketError}
use Rattle.codec_payload_base.specs.declared.interface.Vp9PacketizerMode.{Vp9PacketizerMode}
use Rattle.codec_payload_base.specs.declared.interface.Vp9PacketizerMode.TheVariants.{Flexible, NonFlexible}
use Rattle.codec_payload_base.specs.declared.picture_id.PictureId.TheVariants.{Long}
use Rattle.codec_payload_base.specs.declared.wire.Codec.{Codec}
use Rattle.codec_payload_base.specs.declared.wire.Codec.TheVariants as codecs
use Rattle.codec_payload_buffer_runs.specs.Units.{packetizer_after}
use Rattle.codec_payload_codec.specs.Packetizers.{PacketizerState, PacketizerStep}
use Rattle.codec_payload_codec.specs.Packetizers as packetizers
use Rattle.codec_payload_sending.specs.Datagrams.{octets_in}
use Rattle.codec_payload_sending_forward.proofs.SizeLemmas.{length_payload_for}
use Rattle.codec_payload_sending_forward.specs.Forwarding.{payload_for}
use Rattle.codec_payload_sending_forward.specs.Vp8Numbers.{payload_as}
use Rattle.codec_payload_sending_forward.specs.Vp9Numbers.{Fronted, front_of, has_tl0, moved_by, some_id, taken_byte, taken_id, then_layers, then_rest, then_tl0, vp9_payload_as}
use Rattle.codec_payload_sending_forward.specs.declared.ids.IdOffsets.{IdOffsets}
use Rattle.codec_payload_vp9.specs.Vp9Keyframe.{is_key_frame}
use Rattle.codec_payload_vp9.specs.Vp9Sent.{Sender, Vp9Sends, advanced, begun, flexible_flags, header, next_tl0_in, nonflexible_flags, reserve_in}
use Rattle.codec_payload_forward_runs.specs.ForwardReleases.{keeps_packetizer, keeps_payloads, moved_packetizer, moved_sender}
use Rattle.codec_payload_forward_runs.proofs.KeptPayloads.{IsPlainVp8, is_plain_vp8, vp8_kept}

-- Lists

map_same : (f : List ℕ → List ℕ) (xs : List (List ℕ)) → ((x : List ℕ) → f x ≡ x) → map f xs ≡ xs
map_same f [] same = refl
map_same f (x ∷ xs) same = ap (λ (y : List ℕ). y ∷ map f xs) (same x) ∙ ap (λ (ys : List (List ℕ)). x ∷ ys) (map_same f xs same)

map_each : (f : List ℕ → List ℕ) (xs : List (List ℕ)) → ((i : ℕ) → i < length xs → f (slice_index_or xs i []) ≡ slice_index_or xs i []) → map f xs ≡ xs
map_each f [] each = refl
map_each f (x ∷ xs) each =
    ap (λ (y : List ℕ). y ∷ map f xs) (each 0 (omega arith)) ∙ ap (λ (ys : List (List ℕ)). x ∷ ys) (map_each f xs (λ i l. each (suc i) (omega (arith, l))))

pub octets_move : (codec : Codec) (o : IdOffsets) (xs : List (List ℕ)) → octets_in (map (payload_for codec o) xs) ≡ octets_in xs
octets_move codec o [] = refl
octets_move codec o (x ∷ xs) = omega (arith, length_payload_for codec o x, octets_move codec o xs)

-- ---- the headers of VP9

module _ (o : IdOffsets) (id tl0 : ℕ) (rest : List ℕ) (small : id < 2 ^ 15) where
  abbrev layered : List ℕ
  layered = id_bytes (Long id) ++ (16 ∷ tl0 ∷ rest)

  layered_read : (flags : ℕ) → has_bit flags 7 ≡ true → has_bit flags 5 ≡ true → has_tl0 flags ≡ true
      → front_of (flags ∷ layered) ≡ Some (record { flags = flags; picture_id = Some (Long id); layers = Some 16; tl0_pic_idx = Some tl0; rest = rest })
  layered_read flags i l t =
      ap (λ (b : Bool). then_layers flags (taken_id b layered)) i
      ∙ (ap (λ (x : Option _). then_layers flags (some_id x)) (takes_spelled (Long id) (16 ∷ tl0 ∷ rest) small)
      ∙ (ap (λ (b : Bool). then_tl0 flags (Some (Long id)) (taken_byte b (16 ∷ tl0 ∷ rest))) l
      ∙ ap (λ (b : Bool). then_rest flags (Some (Long id)) (Some 16) (taken_byte b (tl0 ∷ rest))) t))

  layered_moves : (flags : ℕ) → has_bit flags 7 ≡ true → has_bit flags 5 ≡ true → has_tl0 flags ≡ true
      → vp9_payload_as o (flags ∷ layered) ≡ flags ∷ (id_bytes (Long ((id + o.picture) % 32768)) ++ (16 ∷ (tl0 + o.tl0) % 256 ∷ rest))
  layered_moves flags i l t = ap (λ (f : Option Fronted). moved_by o f (flags ∷ layered)) (layered_read flags i l t)

module _ (o : IdOffsets) (id : ℕ) (rest : List ℕ) (small : id < 2 ^ 15) where
  abbrev flexible : List ℕ
  flexible = id_bytes (Long id) ++ rest

  flexible_read : (flags : ℕ) → has_bit flags 7 ≡ true → has_bit flags 5 ≡ false → has_tl0 flags ≡ false
      → front_of (flags ∷ flexible) ≡ Some (record { flags = flags; picture_id = Some (Long id); layers = None; tl0_pic_idx = None; rest = rest })
  flexible_read flags i l t =
      ap (λ (b : Bool). then_layers flags (taken_id b flexible)) i
      ∙ (ap (λ (x : Option _). then_layers flags (some_id x)) (takes_spelled (Long id) rest small)
      ∙ (ap (λ (b : Bool). then_tl0 flags (Some (Long id)) (taken_byte b rest)) l
      ∙ ap (λ (b : Bool). then_rest flags (Some (Long id)) None (taken_byte b rest)) t))

  flexible_moves : (flags : ℕ) → has_bit flags 7 ≡ true → has_bit flags 5 ≡ false → has_tl0 flags ≡ false
      → vp9_payload_as o (flags ∷ flexible) ≡ flags ∷ (id_bytes (Long ((id + o.picture) % 32768)) ++ rest)
  flexible_moves flags i l t = ap (λ (f : Option Fronted). moved_by o f (flags ∷ flexible)) (flexible_read flags i l t)

abbrev HeaderMoves : IdOffsets → Sender → Type 0
HeaderMoves o s = (key first last : Bool) (piece : List ℕ) → vp9_payload_as o (header s key first last ++ piece) ≡ header (moved_sender o s) key first last ++ piece

header_by : (o : IdOffsets) (mode : Vp9PacketizerMode) (id tl0 : ℕ) → id < 2 ^ 15 → HeaderMoves o (record { mode = mode; picture_id = id; tl0picidx = tl0 })
header_by o NonFlexible id tl0 small true true true piece = layered_moves o id tl0 (0 ∷ piece) small (nonflexible_flags true true true) refl refl refl
header_by o NonFlexible id tl0 small true true false piece = layered_moves o id tl0 (0 ∷ piece) small (nonflexible_flags true true false) refl refl refl
header_by o NonFlexible id tl0 small true false true piece = layered_moves o id tl0 piece small (nonflexible_flags true false true) refl refl refl
header_by o NonFlexible id tl0 small true false false piece = layered_moves o id tl0 piece small (nonflexible_flags true false false) refl refl refl
header_by o NonFlexible id tl0 small false true true piece = layered_moves o id tl0 piece small (nonflexible_flags false true true) refl refl refl
header_by o NonFlexible id tl0 small false true false piece = layered_moves o id tl0 piece small (nonflexible_flags false true false) refl refl refl
header_by o NonFlexible id tl0 small false false true piece = layered_moves o id tl0 piece small (nonflexible_flags false false true) refl refl refl
header_by o NonFlexible id tl0 small false false false piece = layered_moves o id tl0 piece small (nonflexible_flags false false false) refl refl refl
header_by o Flexible id tl0 small key true true piece = flexible_moves o id piece small (flexible_flags true true) refl refl refl
header_by o Flexible id tl0 small key true false piece = flexible_moves o id piece small (flexible_flags true false) refl refl refl
header_by o Flexible id tl0 small key false true piece = flexible_moves o id piece small (flexible_flags false true) refl refl refl
header_by o Flexible id tl0 small key false false piece = flexible_moves o id piece small (flexible_flags false false) refl refl refl

header_moves : (o : IdOffsets) (s : Sender) → s.picture_id < 2 ^ 15 → HeaderMoves o s
header_moves o s small key first last piece = header_by o s.mode s.picture_id s.tl0picidx small key first last piece

-- ---- a frame of VP9

module _ (o : IdOffsets) where
  abbrev move : List ℕ → List ℕ
  move = vp9_payload_as o

  described_moves : (s : Sender) (key first : Bool) (pieces : List (List ℕ)) → s.picture_id < 2 ^ 15
      → map move (described (header s key) first pieces) ≡ described (header (moved_sender o s) key) first pieces
  described_moves s key first [] small = refl
  described_moves s key first (piece ∷ []) small = ap (λ (x : List ℕ). x ∷ []) (header_moves o s small key first true piece)
  described_moves s key first (piece ∷ next ∷ pieces) small =
      ap (λ (x : List ℕ). x ∷ map move (described (header s key) false (next ∷ pieces))) (header_moves o s small key first false piece)
      ∙ ap (λ (xs : List (List ℕ)). (header (moved_sender o s) key first false ++ piece) ∷ xs) (described_moves s key false (next ∷ pieces) small)

  answers_move : (s : Sender) (key : Bool) (reserve mtu : ℕ) (frame : List ℕ) (payloads : List (List ℕ)) → s.picture_id < 2 ^ 15
      → AnswersDescribed (header s key) reserve mtu frame (Ok payloads) → AnswersDescribed (header (moved_sender o s) key) reserve mtu frame (Ok (map move payloads))
  answers_move s key reserve mtu frame payloads small are = (
    λ low. ap (map move) (are.0 low),
    λ high. let d = are.1 high in (d.0, d.1, ap (map move) d.2 ∙ described_moves s key true d.0 small),
    λ high. length-map payloads move ∙ are.2 high,
  )

  next_tl0 : (mode : Vp9PacketizerMode) (tl0 : ℕ) → next_tl0_in mode ((tl0 + o.tl0) % 256) ≡ (next_tl0_in mode tl0 + o.tl0) % 256
  next_tl0 NonFlexible tl0 = omega arith
  next_tl0 Flexible tl0 = refl

  begun_by : (b : Bool) (s : Sender)
      → cond b (moved_sender o s) (record (moved_sender o s) { tl0picidx = next_tl0_in s.mode ((s.tl0picidx + o.tl0) % 256) }) ≡ moved_sender o (cond b s (record s { tl0picidx = next_tl0_in s.mode s.tl0picidx }))
  begun_by true s = refl
  begun_by false s = ap (λ (n : ℕ). record (moved_sender o s) { tl0picidx = n }) (next_tl0 s.mode s.tl0picidx)

  begun_moves : (s : Sender) (mtu : ℕ) (frame : List ℕ) → begun (moved_sender o s) mtu frame ≡ moved_sender o (begun s mtu frame)
  begun_moves s mtu frame = begun_by (is_empty frame || (mtu == 0)) s

  same_id : (b : Bool) (s : Sender) → (cond b s (record s { tl0picidx = next_tl0_in s.mode s.tl0picidx })).picture_id ≡ s.picture_id
  same_id true s = refl
  same_id false s = refl

  begun_small : (s : Sender) (mtu : ℕ) (frame : List ℕ) → s.picture_id < 2 ^ 15 → (begun s mtu frame).picture_id < 2 ^ 15
  begun_small s mtu frame small = subst (λ (n : ℕ). n < 2 ^ 15) (sym (same_id (is_empty frame || (mtu == 0)) s)) small

  advanced_moves : (gave : Bool) (s : Sender) → moved_sender o (advanced gave s) ≡ advanced gave (moved_sender o s)
  advanced_moves true s = ap (λ (n : ℕ). record (moved_sender o s) { picture_id = n }) (omega arith)
  advanced_moves false s = refl

-- what a packetizer answers, as the viewer gets it
abbrev pub moved_answer : Codec → IdOffsets → Result (List (List ℕ)) PacketError → Result (List (List ℕ)) PacketError
moved_answer codec o (Ok payloads) = Ok (map (payload_for codec o) payloads)
moved_answer codec o (Err fault) = Err fault

vp9_sends : (o : IdOffsets) (s : Sender) (mtu : ℕ) (frame : List ℕ) (answer : Result (List (List ℕ)) PacketError) (after : Sender) → s.picture_id < 2 ^ 15 → Vp9Sends s mtu frame answer after
    → Vp9Sends (moved_sender o s) mtu frame (moved_answer codecs.Vp9 o answer) (moved_sender o after)
vp9_sends o s mtu frame (Err fault) after small sends = (sends.0, ap (moved_sender o) sends.1)
vp9_sends o s mtu frame (Ok []) after small sends =
    let same = sym (begun_moves o s mtu frame) in (
      subst (λ (x : Sender). AnswersDescribed (header x (is_key_frame frame)) (reserve_in s.mode) mtu frame (Ok [])) same
          (answers_move o (begun s mtu frame) (is_key_frame frame) (reserve_in s.mode) mtu frame [] (begun_small o s mtu frame small) sends.0),
      ap (moved_sender o) sends.1 ∙ same,
    )
vp9_sends o s mtu frame (Ok (payload ∷ payloads)) after small sends =
    let same = sym (begun_moves o s mtu frame) in (
      subst (λ (x : Sender). AnswersDescribed (header x (is_key_frame frame)) (reserve_in s.mode) mtu frame (Ok (map (vp9_payload_as o) (payload ∷ payloads)))) same
          (answers_move o (begun s mtu frame) (is_key_frame frame) (reserve_in s.mode) mtu frame (payload ∷ payloads) (begun_small o s mtu frame small) sends.0),
      ap (moved_sender o) sends.1 ∙ (advanced_moves o true (begun s mtu frame) ∙ ap (advanced true) same),
    )

vp9_step : (o : IdOffsets) (s : Sender) (after : PacketizerState) (mtu : ℕ) (frame : List ℕ) (answer : Result (List (List ℕ)) PacketError) → PacketizerStep (packetizers.Vp9Packetizing s) mtu frame answer after
    → PacketizerStep (packetizers.Vp9Packetizing (moved_sender o s)) mtu frame (moved_answer codecs.Vp9 o answer) (moved_packetizer codecs.Vp9 o after)
vp9_step o s after mtu frame answer step = (omega arith, moved_sender o step.1, vp9_sends o s mtu frame answer step.1 step.0 step.2, ap (moved_packetizer codecs.Vp9 o) step.3)

-- ---- a frame of any codec

same_answer : (codec : Codec) (o : IdOffsets) (answer : Result (List (List ℕ)) PacketError) → ((x : List ℕ) → payload_for codec o x ≡ x) → moved_answer codec o answer ≡ answer
same_answer codec o (Ok payloads) same = ap Ok (map_same (payload_for codec o) payloads same)
same_answer codec o (Err fault) same = refl

pub plain_step : (codec : Codec) (o : IdOffsets) (packetizer after : PacketizerState) (mtu : ℕ) (frame : List ℕ) (answer : Result (List (List ℕ)) PacketError) → ((x : List ℕ) → payload_for codec o x ≡ x)
    → PacketizerStep packetizer mtu frame answer after → PacketizerStep packetizer mtu frame (moved_answer codec o answer) after
plain_step codec o packetizer after mtu frame answer same step =
    subst (λ (a : Result (List (List ℕ)) PacketError). PacketizerStep packetizer mtu frame a after) (sym (same_answer codec o answer same)) step

vp8_answer : (o : IdOffsets) (packetizer after : PacketizerState) (mtu : ℕ) (frame : List ℕ) (answer : Result (List (List ℕ)) PacketError) → IsPlainVp8 packetizer
    → PacketizerStep packetizer mtu frame answer after → moved_answer codecs.Vp8 o answer ≡ answer
vp8_answer o packetizer after mtu frame (Ok payloads) plain step =
    ap Ok (map_each (payload_as o) payloads (λ i l. vp8_kept packetizer after mtu frame payloads plain (λ built. step) o i l))
vp8_answer o packetizer after mtu frame (Err fault) plain step = refl

pub step_moves : (codec : Codec) (o : IdOffsets) (packetizer after : PacketizerState) (mtu : ℕ) (frame : List ℕ) (answer : Result (List (List ℕ)) PacketError) → keeps_payloads codec packetizer ≡ true
    → keeps_packetizer codec packetizer ≡ true → PacketizerStep packetizer mtu frame answer after
    → PacketizerStep (moved_packetizer codec o packetizer) mtu frame (moved_answer codec o answer) (moved_packetizer codec o after)
step_moves codecs.Vp8 o packetizer after mtu frame answer keeps of step =
    subst (λ (a : Result (List (List ℕ)) PacketError). PacketizerStep packetizer mtu frame a after) (sym (vp8_answer o packetizer after mtu frame answer (is_plain_vp8 packetizer keeps) step)) step
step_moves codecs.Vp9 o (packetizers.Vp9Packetizing s) after mtu frame answer keeps of step = vp9_step o s after mtu frame answer step
step_moves codecs.Vp9 o packetizers.G711Packetizing after mtu frame answer keeps of step = absurd (cc)
step_moves codecs.Vp9 o packetizers.G722Packetizing after mtu frame answer keeps of step = absurd (cc)
step_moves codecs.Vp9 o packetizers.OpusPacketizing after mtu frame answer keeps of step = absurd (cc)
step_moves codecs.Vp9 o packetizers.ComfortNoisePacketizing after mtu frame answer keeps of step = absurd (cc)
step_moves codecs.Vp9 o packetizers.TelePacketizing after mtu frame answer keeps of step = absurd (cc)
step_moves codecs.Vp9 o (packetizers.Vp8Packetizing id) after mtu frame answer keeps of step = absurd (cc)
step_moves codecs.Vp9 o packetizers.Av1Packetizing after mtu frame answer keeps of step = absurd (cc)
step_moves codecs.Vp9 o (packetizers.AmrWbPacketizing octet) after mtu frame answer keeps of step = absurd (cc)
step_moves codecs.Vp9 o packetizers.NullPacketizing after mtu frame answer keeps of step = absurd (cc)
step_moves codecs.Vp9 o packetizers.BoxedPacketizing after mtu frame answer keeps of step = absurd (cc)
step_moves codecs.Opus o packetizer after mtu frame answer keeps of step = plain_step codecs.Opus o packetizer after mtu frame answer (λ x. refl) step
step_moves codecs.PCMU o packetizer after mtu frame answer keeps of step = plain_step codecs.PCMU o packetizer after mtu frame answer (λ x. refl) step
step_moves codecs.PCMA o packetizer after mtu frame answer keeps of step = plain_step codecs.PCMA o packetizer after mtu frame answer (λ x. refl) step
step_moves codecs.G722 o packetizer after mtu frame answer keeps of step = plain_step codecs.G722 o packetizer after mtu frame answer (λ x. refl) step
step_moves codecs.CN o packetizer after mtu frame answer keeps of step = plain_step codecs.CN o packetizer after mtu frame answer (λ x. refl) step
step_moves codecs.AmrWb o packetizer after mtu frame answer keeps of step = plain_step codecs.AmrWb o packetizer after mtu frame answer (λ x. refl) step
step_moves codecs.H264 o packetizer after mtu frame answer keeps of step = plain_step codecs.H264 o packetizer after mtu frame answer (λ x. refl) step
step_moves codecs.H265 o packetizer after mtu frame answer keeps of step = plain_step codecs.H265 o packetizer after mtu frame answer (λ x. refl) step
step_moves codecs.H266 o packetizer after mtu frame answer keeps of step = plain_step codecs.H266 o packetizer after mtu frame answer (λ x. refl) step
step_moves codecs.Av1 o packetizer after mtu frame answer keeps of step = plain_step codecs.Av1 o packetizer after mtu frame answer (λ x. refl) step
step_moves codecs.Null o packetizer after mtu frame answer keeps of step = plain_step codecs.Null o packetizer after mtu frame answer (λ x. refl) step
step_moves codecs.Tele o packetizer after mtu frame answer keeps of step = plain_step codecs.Tele o packetizer after mtu frame answer (λ x. refl) step
step_moves codecs.Rtx o packetizer after mtu frame answer keeps of step = plain_step codecs.Rtx o packetizer after mtu frame answer (λ x. refl) step
step_moves codecs.Red o packetizer after mtu frame answer keeps of step = plain_step codecs.Red o packetizer after mtu frame answer (λ x. refl) step
step_moves codecs.Unknown o packetizer after mtu frame answer keeps of step = plain_step codecs.Unknown o packetizer after mtu frame answer (λ x. refl) step

pub lands_moves : (codec : Codec) (o : IdOffsets) (answer : Result (List (List ℕ)) PacketError) (fault : PacketError) → Lands answer (Err fault) [] → Lands (moved_answer codec o answer) (Err fault) []
lands_moves codec o (Ok payloads) fault lands = lands
lands_moves codec o (Err other) fault lands = lands

-- ---- what the moved packetizer has in common with the packetizer

abbrev IsMovedAs : Codec → IdOffsets → PacketizerState → Type 0
IsMovedAs codec o packetizer =
    (moved_packetizer codec o packetizer ≡ packetizer) ⊎ ((s : Sender) × (packetizer ≡ packetizers.Vp9Packetizing s) × (moved_packetizer codec o packetizer ≡ packetizers.Vp9Packetizing (moved_sender o s)))

is_moved : (codec : Codec) (o : IdOffsets) (packetizer : PacketizerState) → IsMovedAs codec o packetizer
is_moved codecs.Vp9 o (packetizers.Vp9Packetizing s) = inr (s, refl, refl)
is_moved codecs.Vp9 o packetizers.G711Packetizing = inl refl
is_moved codecs.Vp9 o packetizers.G722Packetizing = inl refl
is_moved codecs.Vp9 o packetizers.OpusPacketizing = inl refl
is_moved codecs.Vp9 o packetizers.ComfortNoisePacketizing = inl refl
is_moved codecs.Vp9 o packetizers.TelePacketizing = inl refl
is_moved codecs.Vp9 o (packetizers.Vp8Packetizing id) = inl refl
is_moved codecs.Vp9 o packetizers.Av1Packetizing = inl refl
is_moved codecs.Vp9 o (packetizers.AmrWbPacketizing octet) = inl refl
is_moved codecs.Vp9 o packetizers.NullPacketizing = inl refl
is_moved codecs.Vp9 o packetizers.BoxedPacketizing = inl refl
is_moved codecs.Opus o packetizer = inl refl
is_moved codecs.PCMU o packetizer = inl refl
is_moved codecs.PCMA o packetizer = inl refl
is_moved codecs.G722 o packetizer = inl refl
is_moved codecs.CN o packetizer = inl refl
is_moved codecs.AmrWb o packetizer = inl refl
is_moved codecs.H264 o packetizer = inl refl
is_moved codecs.H265 o packetizer = inl refl
is_moved codecs.H266 o packetizer = inl refl
is_moved codecs.Vp8 o packetizer = inl refl
is_moved codecs.Av1 o packetizer = inl refl
is_moved codecs.Null o packetizer = inl refl
is_moved codecs.Tele o packetizer = inl refl
is_moved codecs.Rtx o packetizer = inl refl
is_moved codecs.Red o packetizer = inl refl
is_moved codecs.Unknown o packetizer = inl refl

fact_by : {A : Type 0} (g : PacketizerState → A) (codec : Codec) (o : IdOffsets) (packetizer : PacketizerState) → IsMovedAs codec o packetizer
    → ((s : Sender) → g (packetizers.Vp9Packetizing (moved_sender o s)) ≡ g (packetizers.Vp9Packetizing s)) → g (moved_packetizer codec o packetizer) ≡ g packetizer
fact_by g codec o packetizer (inl same) of_vp9 = ap g same
fact_by g codec o packetizer (inr is) of_vp9 = ap g is.2 ∙ (of_vp9 is.0 ∙ sym (ap g is.1))

-- what does not depend on ids stays
pub same_fact : {A : Type 0} (g : PacketizerState → A) (codec : Codec) (o : IdOffsets) (packetizer : PacketizerState)
    → ((s : Sender) → g (packetizers.Vp9Packetizing (moved_sender o s)) ≡ g (packetizers.Vp9Packetizing s)) → g (moved_packetizer codec o packetizer) ≡ g packetizer
same_fact g codec o packetizer of_vp9 = fact_by g codec o packetizer (is_moved codec o packetizer) of_vp9

pub after_moves : (codec : Codec) (o : IdOffsets) (packetizer : PacketizerState) (mtu : ℕ) (frame : List ℕ)
    → packetizer_after (moved_packetizer codec o packetizer) mtu frame ≡ moved_packetizer codec o (packetizer_after packetizer mtu frame)
after_moves codecs.Vp9 o (packetizers.Vp9Packetizing s) mtu frame =
    let gave : Bool = not (described_is_skipped (reserve_in s.mode) mtu frame) in
    ap (λ (x : Sender). packetizers.Vp9Packetizing (advanced gave x)) (begun_moves o s mtu frame) ∙ ap packetizers.Vp9Packetizing (sym (advanced_moves o gave (begun s mtu frame)))
after_moves codecs.Vp9 o packetizers.G711Packetizing mtu frame = refl
after_moves codecs.Vp9 o packetizers.G722Packetizing mtu frame = refl
after_moves codecs.Vp9 o packetizers.OpusPacketizing mtu frame = refl
after_moves codecs.Vp9 o packetizers.ComfortNoisePacketizing mtu frame = refl
after_moves codecs.Vp9 o packetizers.TelePacketizing mtu frame = refl
after_moves codecs.Vp9 o (packetizers.Vp8Packetizing id) mtu frame = refl
after_moves codecs.Vp9 o packetizers.Av1Packetizing mtu frame = refl
after_moves codecs.Vp9 o (packetizers.AmrWbPacketizing octet) mtu frame = refl
after_moves codecs.Vp9 o packetizers.NullPacketizing mtu frame = refl
after_moves codecs.Vp9 o packetizers.BoxedPacketizing mtu frame = refl
after_moves codecs.Opus o packetizer mtu frame = refl
after_moves codecs.PCMU o packetizer mtu frame = refl
after_moves codecs.PCMA o packetizer mtu frame = refl
after_moves codecs.G722 o packetizer mtu frame = refl
after_moves codecs.CN o packetizer mtu frame = refl
after_moves codecs.AmrWb o packetizer mtu frame = refl
after_moves codecs.H264 o packetizer mtu frame = refl
after_moves codecs.H265 o packetizer mtu frame = refl
after_moves codecs.H266 o packetizer mtu frame = refl
after_moves codecs.Vp8 o packetizer mtu frame = refl
after_moves codecs.Av1 o packetizer mtu frame = refl
after_moves codecs.Null o packetizer mtu frame = refl
after_moves codecs.Tele o packetizer mtu frame = refl
after_moves codecs.Rtx o packetizer mtu frame = refl
after_moves codecs.Red o packetizer mtu frame = refl
after_moves codecs.Unknown o packetizer mtu frame = refl
