-- Chunks that are written are read again, and make a source description.
use Rattle.std.proofs.Common.{◌≡◌, ℕ, take, ◌+◌, ◌-◌, ◌/◌, ◌%◌, ◌<◌, ◌≤◌, List, [], ◌∷◌, ◌++◌, length, true, false, eqb, leb, ◌&&◌, Result, Ok, Err, refl, sym, ap, ◌∙◌, arith, append_assoc, length-append}
use Rattle.std.specs.Prelude.{OnOk}
use Rattle.std.specs.Int.{w32, to_be_bytes}
use Rattle.std.proofs.lemmas.Bool.{and_parts, leb-true, eqb-true}
use Rattle.std.proofs.lemmas.List.{append-nil, length-take}
use Rattle.codec_payload_base.specs.Flags.{AreBytes}
use Rattle.codec_payload_rtcp.specs.declared.packet.RtcpError.{RtcpError}
use Rattle.codec_payload_rtcp.specs.Steps.{fault_of}
use Rattle.codec_payload_rtcp.specs.Sdes.{Item, Chunk, items_bytes, FitItems, FitChunks, AreChunks}
use Rattle.codec_payload_rtcp.specs.SdesReading.{chunks_at, chunks_in}
use Rattle.codec_payload_rtcp.specs.SdesWriting.{item_fits, items_fit, is_read, description_fits, AppendsChunk, AreWholeChunks, OneMoreChunk, ChunksComeBack}
use Rattle.codec_payload_rtcp.specs.RtcpItems.{are_items}
use Rattle.codec_payload_rtcp.specs.RtcpPackets.{source_description, header_bytes}
use Rattle.codec_payload_rtcp.specs.RtcpWriting.{Appends}
use Rattle.codec_payload_rtcp.proofs.RtcpWriting.{first_zero, on_written, written_packet}
use Rattle.codec_payload_rtcp.proofs.SdesGrammar.{chunks_again, chunks_take}
use Rattle.codec_payload_rtcp.proofs.SdesLists.{described, chunks_left_is}

-- ---- a chunk

items_are_fit : (is : List Item) → items_fit is ≡ true → FitItems is
items_are_fit [] fit = tt
items_are_fit (i ∷ is) fit =
    let both = and_parts (item_fits i) (items_fit is) fit in
    let one = and_parts (leb 1 i.kind) (leb (length i.text) 255) both.0 in
    let kind : 1 ≤ i.kind = leb-true 1 i.kind one.0 in
    let text : length i.text ≤ 255 = leb-true (length i.text) 255 one.1 in
    (record { kind = kind; text = omega (arith, text) }, items_are_fit is both.1)

pub chunk_written : {X E : Type 0} (result : Result X E) (ssrc used : ℕ) (is : List Item) (old first second new : List ℕ) → ssrc < 4294967296 → items_fit is ≡ true → first ≡ old ++ to_be_bytes w32 ssrc → second ≡ first ++ items_bytes is
    → used ≡ length second - length old → OnOk result (new ≡ second ++ take (4 - used % 4) (0 ∷ 0 ∷ 0 ∷ 0 ∷ [])) → OnOk result (AppendsChunk old new (record { ssrc = ssrc; items = is }))
chunk_written result ssrc used is old first second new small fit e1 e2 count h =
    on_written result _ _ h (λ e3.
    let fill : ℕ = 4 - used % 4 in
    let more : List ℕ = take (fill - 1) (0 ∷ 0 ∷ 0 ∷ []) in
    let written : List ℕ = to_be_bytes w32 ssrc ++ (items_bytes is ++ 0 ∷ more) in
    let all : new ≡ old ++ written =
    e3 ∙ ap (λ (t : List ℕ). second ++ t) (first_zero fill (omega arith)) ∙ ap (λ (t : List ℕ). t ++ 0 ∷ more) e2 ∙ append_assoc first (items_bytes is) (0 ∷ more)
    ∙ ap (λ (t : List ℕ). t ++ (items_bytes is ++ 0 ∷ more)) e1 ∙ append_assoc old (to_be_bytes w32 ssrc) (items_bytes is ++ 0 ∷ more) in
    let many : used ≡ 4 + length (items_bytes is) = omega (arith, count, ap length e2, ap length e1, length-append first (items_bytes is), length-append old (to_be_bytes w32 ssrc)) in
    let long : length more ≡ fill - 1 = omega (arith, length-take {A = ℕ} (fill - 1) (0 ∷ 0 ∷ 0 ∷ [])) in
    let size : length written ≡ 5 + length (items_bytes is) + length more = omega (arith, length-append (items_bytes is) (0 ∷ more)) in
    (written, record { ssrc = small; items = items_are_fit is fit }, record { fill = more; few = omega (arith, long); whole = omega (arith, size, many, long); is = refl }, all))

-- ---- chunks one after another

pub one_more_chunk : OneMoreChunk
one_more_chunk [] old new c are (written, fits, is, e) = (written, [], fits, is, refl, e ∙ ap (λ (t : List ℕ). t ++ written) are ∙ sym (append-nil written))
one_more_chunk (d ∷ cs) old new c (front, rest, first_fits, first, others, s) (written, fits, is, e) =
    (front, rest ++ written, first_fits, first, one_more_chunk cs rest (rest ++ written) c others (written, fits, is, refl), e ∙ ap (λ (t : List ℕ). t ++ written) s ∙ append_assoc front rest written)

whole_are : (cs : List Chunk) (bytes : List ℕ) → AreWholeChunks cs bytes → AreChunks cs bytes
whole_are [] bytes are = tt
whole_are (c ∷ cs) bytes (front, rest, fits, is, others, e) = (front, rest, is, whole_are cs rest others, e)

whole_fit : (cs : List Chunk) (bytes : List ℕ) → AreWholeChunks cs bytes → FitChunks cs
whole_fit [] bytes are = tt
whole_fit (c ∷ cs) bytes (front, rest, fits, is, others, e) = (fits, whole_fit cs rest others)

pub chunks_come_back : ChunksComeBack
chunks_come_back cs bytes are =
    let again : chunks_at (length cs) bytes ≡ Ok cs = chunks_again cs bytes (whole_fit cs bytes are) (whole_are cs bytes are) in
    (ap (λ (r : Result (List Chunk) RtcpError). is_read (fault_of r)) again, chunks_left_is (length cs) bytes cs again)

-- ---- a source description

read_is : (r : Result (Unit {0}) RtcpError) → is_read r ≡ true → r ≡ Ok tt
read_is (Ok x) e = refl
read_is (Err d) e = absurd cc

pub description_written : {X E : Type 0} (result : Result X E) (count : ℕ) (chunks head old new : List ℕ) → AreBytes chunks → description_fits count chunks ≡ true
    → head ≡ header_bytes false count 202 (length chunks / 4) → OnOk result (new ≡ ((old ++ head) ++ chunks) ++ []) → OnOk result (Appends old new (source_description (chunks_in count chunks)))
description_written result count chunks head old new bytes fits e1 h =
    let read = and_parts (leb count 31 && are_items 4 0 262140 (length chunks)) (is_read (fault_of (chunks_at count chunks))) fits in
    let parts = and_parts (leb count 31) (are_items 4 0 262140 (length chunks)) read.0 in
    let few : count ≤ 31 = leb-true count 31 parts.0 in
    let items = and_parts (eqb (length chunks % 4) 0) (leb 0 (length chunks) && leb (length chunks) 262140) parts.1 in
    let whole : length chunks % 4 ≡ 0 = eqb-true (length chunks % 4) 0 items.0 in
    let bounds = and_parts (leb 0 (length chunks)) (leb (length chunks) 262140) items.1 in
    let short : length chunks ≤ 262140 = leb-true (length chunks) 262140 bounds.1 in
    let is = described count chunks (chunks_at count chunks) refl (read_is (fault_of (chunks_at count chunks)) read.1) in
    let took = chunks_take count chunks (chunks_in count chunks) bytes is in
    on_written result _ _ h (λ e.
    let all : new ≡ old ++ (header_bytes false (length (chunks_in count chunks)) 202 (length chunks / 4) ++ chunks) =
    e ∙ append-nil ((old ++ head) ++ chunks) ∙ append_assoc old head chunks ∙ ap (λ (t : List ℕ). old ++ (t ++ chunks)) e1 ∙ ap (λ (n : ℕ). old ++ (header_bytes false n 202 (length chunks / 4) ++ chunks)) (sym took.2) in
    written_packet (source_description (chunks_in count chunks)) chunks old new (length chunks / 4) (took.1, omega (arith, took.2, few)) took.0 (omega (arith, whole)) (omega (arith, short)) all)
