-- Payloads of VP8 whose picture ids are moved, each in its width: a receiver gets the same units from them.
use Rattle.std.proofs.Common.{◌≡◌, ◌≢◌, ◌∙◌, refl, sym, ap, subst, ℕ, ◌+◌, ◌-◌, ◌/◌, ◌%◌, ◌^◌, ◌<◌, ◌||◌, ◌&&◌, List, [], ◌∷◌, ◌++◌, Bool, true, false, Option, Some, None, Result, Ok, Err, length, map, arith}
use Rattle.std.specs.Prelude.{MatchResult, if◌then◌else◌, nat_lt}
use Rattle.std.proofs.lemmas.Bool.{lt-ltb, ltb-true}
use Rattle.std.proofs.lemmas.List.{append-nil, length-map}
use Rattle.codec_payload_base.specs.Described.{AnswersDescribed, described}
use Rattle.codec_payload_base.specs.PictureIds.{FitsWidth, id_bytes, shortest_id}
use Rattle.codec_payload_base.specs.declared.error.PacketError.{PacketError}
use Rattle.codec_payload_base.specs.declared.error.PacketError.TheVariants as faults
use Rattle.codec_payload_base.specs.declared.interface.CodecExtra.{CodecExtra}
use Rattle.codec_payload_base.specs.declared.picture_id.PictureId.{PictureId}
use Rattle.codec_payload_base.specs.declared.picture_id.PictureId.TheVariants.{Long, Short}
use Rattle.codec_payload_buffer_runs.proofs.order.ReportLemmas.{IsSilent}
use Rattle.codec_payload_buffer_runs.proofs.units.DescribedUnits.{NoneEmpty, all_silent, described_sends, none_empty}
use Rattle.codec_payload_buffer_runs.proofs.units.PieceUnits.{IsPiece}
use Rattle.codec_payload_buffer_runs.proofs.units.SendsUnits.{SendsUnits}
use Rattle.codec_payload_buffer_runs.specs.Schedule.{payloads_of}
use Rattle.codec_payload_codec.specs.BaseLayers.{lacks_base}
use Rattle.codec_payload_codec.specs.Depacketizers.{Vp8Depacketizing, Vp8Payloads, head_in, kind_of_depacketizer}
use Rattle.codec_payload_codec.specs.Packetizers.{PacketizerState, PacketizerStep, Vp8Packetizing}
use Rattle.codec_payload_payloader.specs.Sending.{Sample}
use Rattle.codec_payload_sending_forward.specs.Ids.{moved_ids, moved_picture}
use Rattle.codec_payload_sending_forward.specs.Vp8Numbers.{ids_of, patch_by, patch_with, patched_by, payload_as}
use Rattle.codec_payload_sending_forward.specs.declared.ids.IdOffsets.{IdOffsets}
use Rattle.codec_payload_vp8.proofs.SpelledIsReadLemmas.{parses, reads}
use Rattle.codec_payload_vp8.specs.Vp8Descriptor.{Descriptor, IsDescriptor, Reading, parsed, read_behind}
use Rattle.codec_payload_vp8.specs.Vp8Received.{Vp8Rest, Vp8Step, extra_of, with_fields}
use Rattle.codec_payload_vp8.specs.Vp8Sent.{advanced, gives_packets, header, header_size}
use Rattle.codec_payload_vp8.specs.declared.vp8.depacketizer.Vp8Depacketizer.{Vp8Depacketizer}
use Rattle.codec_payload_vp8.specs.declared.vp8.descriptor.Vp8DescriptorError.{Vp8DescriptorError}

-- A payload with an id of either width

-- the first byte of a header
abbrev pub start_byte : Bool → ℕ
start_byte first = if first then 144 else 128

-- the header of a piece with this id: X, S on the first of a frame, and then I alone
abbrev pub header_with : PictureId → Bool → Bool → List ℕ
header_with id first last = start_byte first ∷ 128 ∷ id_bytes id

abbrev pub descriptor_with : Bool → PictureId → Descriptor
descriptor_with first id = record { first = start_byte first; flags = Some 128; picture_id = Some id; tl0_pic_idx = None; tid_octet = None }

is_descriptor : (first : Bool) (id : PictureId) → FitsWidth id → IsDescriptor (descriptor_with first id)
is_descriptor true id fits = record { extended = refl; fields = (refl, refl, refl, refl); width = fits }
is_descriptor false id fits = record { extended = refl; fields = (refl, refl, refl, refl); width = fits }

pub parsed_with : (first last : Bool) (id : PictureId) (piece : List ℕ) → FitsWidth id → 0 < length piece → parsed (header_with id first last ++ piece) ≡ Ok (descriptor_with first id)
parsed_with first last (Short n) piece fits some = parses (descriptor_with first (Short n)) piece (is_descriptor first (Short n) fits) some
parsed_with first last (Long n) piece fits some = parses (descriptor_with first (Long n)) piece (is_descriptor first (Long n) fits) some

-- its patch moves the id in its width
patched_with : (o : IdOffsets) (first last : Bool) (id : PictureId) (piece : List ℕ)
    → patched_by (patch_with (descriptor_with first id) (moved_ids o (ids_of (descriptor_with first id)))) (header_with id first last ++ piece)
    ≡ header_with (moved_picture o.picture id) first last ++ piece
patched_with o first last (Short n) piece =
    let few : nat_lt ((n + o.picture) % 128) 128 ≡ true = lt-ltb ((n + o.picture) % 128) 128 (omega arith) in
    rw few refl
patched_with o first last (Long n) piece =
    let few : nat_lt ((n + o.picture) % 32768) 32768 ≡ true = lt-ltb ((n + o.picture) % 32768) 32768 (omega arith) in
    let high : 128 + (n + o.picture) % 32768 / 256 % 128 ≡ 128 + (n + o.picture) % 32768 / 256 = omega arith in
    rw few (ap (λ (b : ℕ). start_byte first ∷ 128 ∷ b ∷ (n + o.picture) % 32768 % 256 ∷ piece) high)

moved_payload : (o : IdOffsets) (first last : Bool) (id : PictureId) (piece : List ℕ) → FitsWidth id → 0 < length piece
    → payload_as o (header_with id first last ++ piece) ≡ header_with (moved_picture o.picture id) first last ++ piece
moved_payload o first last id piece fits some =
    ap (λ (r : Result Descriptor Vp8DescriptorError). patched_by (patch_by o r) (header_with id first last ++ piece)) (parsed_with first last id piece fits some)
    ∙ patched_with o first last id piece

fits_moved : (offset : ℕ) (id : PictureId) → FitsWidth (moved_picture offset id)
fits_moved offset (Short n) = omega arith
fits_moved offset (Long n) = omega arith

pub fits_by : (below : Bool) (id : ℕ) → nat_lt id 128 ≡ below → id < 2 ^ 15 → FitsWidth (shortest_id id)
fits_by true id is small = rw is (ltb-true id 128 is)
fits_by false id is small = rw is small

-- What a receiver takes from it

starts : (id : PictureId) (first last : Bool) (piece : List ℕ) → head_in Vp8Payloads (header_with id first last ++ piece) ≡ first
starts id true last piece = refl
starts id false last piece = refl

reads_with : (first : Bool) (id : PictureId) (piece : List ℕ) → FitsWidth id
    → read_behind (start_byte first) (128 ∷ (id_bytes id ++ piece)) ≡ record { fields = descriptor_with first id; rest = Ok piece }
reads_with first id piece fits =
    ap (λ (t : List ℕ). read_behind (start_byte first) (128 ∷ (t ++ piece))) (sym (append-nil (id_bytes id))) ∙ reads (descriptor_with first id) piece (is_descriptor first id fits)

rest_taken : (d : Vp8Depacketizer) (piece out : List ℕ) (extra : CodecExtra) (answer : Result (Unit {0}) PacketError) (after : Vp8Depacketizer) (out' : List ℕ) (extra' : CodecExtra)
    → 0 < length piece → Vp8Rest d (Ok piece) out extra answer after out' extra' → MatchResult answer (λ _. out' ≡ out ++ piece) (λ fault. fault ≡ faults.OutOfMemory)
rest_taken d [] out extra answer after out' extra' some rest = absurd (omega arith)
rest_taken d (b ∷ bs) out extra (Ok _) after out' extra' some rest = rest.1
rest_taken d (b ∷ bs) out extra (Err fault) after out' extra' some rest = rest.0

rest_tells : (d : Vp8Depacketizer) (piece out : List ℕ) (extra : CodecExtra) (x : Unit {0}) (after : Vp8Depacketizer) (out' : List ℕ) (extra' : CodecExtra)
    → d.l ≡ 0 → Vp8Rest d (Ok piece) out extra (Ok x) after out' extra' → (extra' ≡ extra_of after extra) × (after.l ≡ 0)
rest_tells d [] out extra x after out' extra' clear rest = let no = rest.0 in absurd (cc)
rest_tells d (b ∷ bs) out extra x after out' extra' clear rest = (rest.2, ap (λ (v : Vp8Depacketizer). v.l) rest.0 ∙ clear)

clear_with : (first : Bool) (id : PictureId) (d : Vp8Depacketizer) → (with_fields d (descriptor_with first id)).l ≡ 0
clear_with true id d = refl
clear_with false id d = refl

module _ (first last : Bool) (id : PictureId) (piece : List ℕ) (fits : FitsWidth id) where
  step_is : (d : Vp8Depacketizer) (out : List ℕ) (extra : CodecExtra) (answer : Result (Unit {0}) PacketError) (after : Vp8Depacketizer) (out' : List ℕ) (extra' : CodecExtra)
      → Vp8Step d (header_with id first last ++ piece) out extra answer after out' extra' → Vp8Rest (with_fields d (descriptor_with first id)) (Ok piece) out extra answer after out' extra'
  step_is d out extra answer after out' extra' step =
      subst (λ (r : Reading). Vp8Rest (with_fields d r.fields) r.rest out extra answer after out' extra') (reads_with first id piece fits) step

  taken : 0 < length piece → (d : Vp8Depacketizer) (out : List ℕ) (extra : CodecExtra) (answer : Result (Unit {0}) PacketError) (after : Vp8Depacketizer) (out' : List ℕ) (extra' : CodecExtra)
      → Vp8Step d (header_with id first last ++ piece) out extra answer after out' extra' → MatchResult answer (λ _. out' ≡ out ++ piece) (λ fault. fault ≡ faults.OutOfMemory)
  taken some d out extra answer after out' extra' step =
      rest_taken (with_fields d (descriptor_with first id)) piece out extra answer after out' extra' some (step_is d out extra answer after out' extra' step)

  tells : (d : Vp8Depacketizer) (out : List ℕ) (extra : CodecExtra) (x : Unit {0}) (after : Vp8Depacketizer) (out' : List ℕ) (extra' : CodecExtra)
      → Vp8Step d (header_with id first last ++ piece) out extra (Ok x) after out' extra' → (extra' ≡ extra_of after extra) × (after.l ≡ 0)
  tells d out extra x after out' extra' step =
      rest_tells (with_fields d (descriptor_with first id)) piece out extra x after out' extra' (clear_with first id d) (step_is d out extra (Ok x) after out' extra' step)

-- nothing is required of the bytes and the codec-specific data between two packets
abbrev Anything : List ℕ → CodecExtra → Type 0
Anything out extra = Unit {0}

is_piece : (id : PictureId) → FitsWidth id → (first last : Bool) (piece : List ℕ) → 0 < length piece → IsPiece Vp8Payloads Anything (header_with id first last ++ piece) piece
is_piece id fits first last piece some (Vp8Depacketizing d) out extra (Ok x) e out' extra' is keeps step =
    (ap kind_of_depacketizer step.2, (taken first last id piece fits some d out extra (Ok x) step.0 out' extra' step.1, tt))
is_piece id fits first last piece some (Vp8Depacketizing d) out extra (Err fault) e out' extra' is keeps step =
    (ap kind_of_depacketizer step.2, taken first last id piece fits some d out extra (Err fault) step.0 out' extra' step.1)
is_piece id fits first last piece some d out extra one e out' extra' is keeps step = absurd (cc)

-- the id of a base layer is never sent
is_silent : (id : PictureId) → FitsWidth id → (first last : Bool) (piece : List ℕ) → IsSilent Vp8Payloads (header_with id first last ++ piece)
is_silent id fits first last piece (Vp8Depacketizing d) out extra x e out' extra' is lacks step =
    let told = tells first last id piece fits d out extra x step.0 out' extra' step.1 in
    (ap kind_of_depacketizer step.2, ap lacks_base told.0 ∙ rw told.1 refl)
is_silent id fits first last piece d out extra x e out' extra' is lacks step = absurd (cc)

-- A frame

marks : (sample : Sample) (last : Bool) → last || (false && sample.start_of_talk_spurt) ≡ last
marks sample true = refl
marks sample false = refl

module _ (o : IdOffsets) (id : ℕ) (small : id < 2 ^ 15) where
  abbrev moved : List ℕ → List ℕ
  moved = payload_as o

  abbrev sent : PictureId
  sent = shortest_id id

  abbrev seen : PictureId
  seen = moved_picture o.picture (shortest_id id)

  fits : FitsWidth sent
  fits = fits_by (nat_lt id 128) id refl small

  described_moves : (first : Bool) (pieces : List (List ℕ)) → NoneEmpty pieces → map moved (described (header (Some id)) first pieces) ≡ described (header_with seen) first pieces
  described_moves first [] full = refl
  described_moves first (piece ∷ []) full = ap (λ (x : List ℕ). x ∷ []) (moved_payload o first true sent piece fits full.0)
  described_moves first (piece ∷ next ∷ pieces) full =
      ap (λ (x : List ℕ). x ∷ map moved (described (header (Some id)) false (next ∷ pieces))) (moved_payload o first false sent piece fits full.0)
      ∙ ap (λ (xs : List (List ℕ)). (header_with seen first false ++ piece) ∷ xs) (described_moves false (next ∷ pieces) full.1)

  answers_move : (reserve mtu : ℕ) (frame : List ℕ) (payloads : List (List ℕ)) → AnswersDescribed (header (Some id)) reserve mtu frame (Ok payloads)
      → AnswersDescribed (header_with seen) reserve mtu frame (Ok (map moved payloads))
  answers_move reserve mtu frame payloads are = (
    λ low. ap (map moved) (are.0 low),
    λ high.
        let d = are.1 high in
        let full : NoneEmpty d.0 = none_empty (mtu - reserve) d.0 (omega (arith, high)) d.1.sizes in
        (d.0, d.1, ap (map moved) d.2 ∙ described_moves true d.0 full),
    λ high. length-map payloads moved ∙ are.2 high,
  )

  same_gives : (payloads : List (List ℕ)) → gives_packets (Ok (map moved payloads)) ≡ gives_packets (Ok payloads)
  same_gives [] = refl
  same_gives (payload ∷ payloads) = refl

  sends : (next : Option ℕ) (mtu : ℕ) (sample : Sample) (rtp_time number : ℕ) (payloads : List (List ℕ)) → AnswersDescribed (header (Some id)) (header_size (Some id)) mtu sample.bytes (Ok payloads)
      → next ≡ advanced (gives_packets (Ok payloads)) (Some id) → SendsUnits (Vp8Packetizing (Some id)) mtu sample rtp_time number (map moved payloads) (Vp8Packetizing next)
  sends next mtu sample rtp_time number payloads answer goes_on =
      let on : next ≡ advanced (gives_packets (Ok (map moved payloads))) (Some id) = goes_on ∙ ap (λ (b : Bool). advanced b (Some id)) (sym (same_gives payloads)) in
      described_sends Vp8Payloads Anything (header_with seen) (Vp8Packetizing next) sample rtp_time (starts seen) (λ number last payload. marks sample last) (is_piece seen (fits_moved o.picture sent))
      (Vp8Packetizing (Some id)) None mtu (header_size (Some id)) number (map moved payloads) tt
      (λ piece pieces. all_silent Vp8Payloads (header_with seen) (is_silent seen (fits_moved o.picture sent)) (Vp8Packetizing next) sample rtp_time true number 0 (piece ∷ pieces))
      refl refl refl refl refl refl refl
      (λ skip none. (ap Vp8Packetizing (on ∙ rw (none, skip) refl), refl))
      (λ roomy first others some. (ap Vp8Packetizing (on ∙ rw (some, roomy) refl), λ m. refl))
      (answers_move (header_size (Some id)) mtu sample.bytes payloads answer)

-- what a packetizer of VP8 sends for a sample, as the viewer gets it
pub record SendsMoved (o : IdOffsets) (id mtu : ℕ) (sample : Sample) (rtp_time number : ℕ) (answer : Result (List (List ℕ)) PacketError) (after : PacketizerState) : Type 0 where
  pub next : ℕ
  pub left : after ≡ Vp8Packetizing (Some next)
  pub units : SendsUnits (Vp8Packetizing (Some id)) mtu sample rtp_time number (map (payload_as o) (payloads_of answer)) after

next_is : (gave : Bool) (id : ℕ) → (next : ℕ) × (advanced gave (Some id) ≡ Some next)
next_is true id = ((id + 1) % 2 ^ 15, refl)
next_is false id = (id, refl)

pub sends_moved : (o : IdOffsets) (id mtu : ℕ) (sample : Sample) (rtp_time number : ℕ) (answer : Result (List (List ℕ)) PacketError) (after : PacketizerState)
    → PacketizerStep (Vp8Packetizing (Some id)) mtu sample.bytes answer after → answer ≢ Err faults.OutOfMemory → SendsMoved o id mtu sample rtp_time number answer after
sends_moved o id mtu sample rtp_time number (Ok payloads) after step found =
    let next = next_is (gives_packets (Ok payloads)) id in
    record {
      next = next.0;
      left = step.3 ∙ ap Vp8Packetizing (step.2.1 ∙ next.1);
      units = subst (SendsUnits (Vp8Packetizing (Some id)) mtu sample rtp_time number (map (payload_as o) payloads)) (sym step.3)
          (sends o id step.0 step.1 mtu sample rtp_time number payloads step.2.0 step.2.1);
    }
sends_moved o id mtu sample rtp_time number (Err fault) after step found = absurd (found (ap Err step.2.0.0))
