-- The bytes of packets that are written, exactly.
use Rattle.std.proofs.Common.{◌≡◌, ℕ, suc, take, drop, replicate, ◌+◌, ◌-◌, ◌/◌, ◌%◌, ◌<◌, ◌≤◌, List, [], ◌∷◌, ◌++◌, length, false, Some, None, Result, sym, ap, ◌∙◌, arith, append_assoc, length-append, true, eqb, leb, ◌&&◌}
use Rattle.std.specs.Prelude.{OnOk, get_or}
use Rattle.std.specs.Int.{w16, w32, to_be_bytes}
use Rattle.std.proofs.lemmas.Bool.{and_parts, leb-true}
use Rattle.std.proofs.lemmas.List.{append-nil, length-drop, length-take, take-replicate, take_all}
use Rattle.codec_payload_rtcp.specs.RtcpPackets.{header_bytes}
use Rattle.codec_payload_rtcp.specs.RtcpWriting.{cname_chunk, cname_head, ending_zeros, leaving_bytes, padded_bytes, padding_fits, reason_bytes}
use Rattle.codec_payload_rtcp.specs.Sdes.{Item, items_bytes}
use Rattle.codec_payload_rtcp.specs.SdesWriting.{chunk_bytes, description_bytes}
use Rattle.codec_payload_rtcp.proofs.RtcpWriting.{on_written}

-- the item of a canonical name
name_item : (name : List ℕ) → items_bytes (record { kind = 1; text = name } ∷ []) ≡ 1 ∷ length name ∷ name
name_item name = ap (λ (t : List ℕ). 1 ∷ length name ∷ t) (append-nil name)

name_chunk : (ssrc : ℕ) (name : List ℕ) → chunk_bytes (cname_chunk ssrc name) ≡ to_be_bytes w32 ssrc ++ ((1 ∷ length name ∷ name) ++ ending_zeros (suc (suc (length name))))
name_chunk ssrc name = ap (λ (t : List ℕ). to_be_bytes w32 ssrc ++ (t ++ ending_zeros (length t))) (name_item name)

-- the bytes of a chunk with a canonical name
pub name_chunk_length : (ssrc : ℕ) (name : List ℕ) → length (chunk_bytes (cname_chunk ssrc name)) ≡ 6 + length name + (4 - (length name + 2) % 4)
name_chunk_length ssrc name =
    omega (arith, ap (λ (l : List ℕ). length l) (name_chunk ssrc name), length-append name (ending_zeros (suc (suc (length name)))), length-take {A = ℕ} (4 - suc (suc (length name)) % 4) (0 ∷ 0 ∷ 0 ∷ 0 ∷ []))

pub cname_exact : {X E : Type 0} (result : Result X E) (ssrc zeros words : ℕ) (cname fill head old new : List ℕ) → zeros ≡ 4 - (length cname + 2) % 4 → words ≡ (6 + length cname + zeros) / 4
    → head ≡ cname_head words ssrc (length cname) → fill ≡ take zeros (0 ∷ 0 ∷ 0 ∷ 0 ∷ []) → OnOk result (new ≡ ((old ++ head) ++ cname) ++ fill) → OnOk result (new ≡ old ++ description_bytes (cname_chunk ssrc cname))
cname_exact result ssrc zeros words cname fill head old new is many e1 e2 h =
    let whole : ℕ = length (chunk_bytes (cname_chunk ssrc cname)) / 4 in
    let count : words ≡ whole = many ∙ ap (λ (n : ℕ). n / 4) (ap (λ (z : ℕ). 6 + length cname + z) is ∙ sym (name_chunk_length ssrc cname)) in
    let front : head ≡ cname_head whole ssrc (length cname) = e1 ∙ ap (λ (w : ℕ). cname_head w ssrc (length cname)) count in
    let left : zeros ≡ 4 - suc (suc (length cname)) % 4 = omega (arith, is) in
    let end : fill ≡ ending_zeros (suc (suc (length cname))) = e2 ∙ ap (λ (z : ℕ). take {A = ℕ} z (0 ∷ 0 ∷ 0 ∷ 0 ∷ [])) left in
    on_written result _ _ h (λ e.
    e ∙ append_assoc (old ++ head) cname fill ∙ append_assoc old head (cname ++ fill) ∙ ap (λ (t : List ℕ). old ++ (t ++ (cname ++ fill))) front
    ∙ ap (λ (t : List ℕ). old ++ (cname_head whole ssrc (length cname) ++ (cname ++ t))) end
    ∙ ap (λ (t : List ℕ). old ++ (header_bytes false 1 202 whole ++ t)) (sym (name_chunk ssrc cname)))

pub chunk_exact : {X E : Type 0} (result : Result X E) (ssrc used : ℕ) (is : List Item) (old first second new : List ℕ) → first ≡ old ++ to_be_bytes w32 ssrc → second ≡ first ++ items_bytes is
    → used ≡ length second - length old → OnOk result (new ≡ second ++ take (4 - used % 4) (0 ∷ 0 ∷ 0 ∷ 0 ∷ [])) → OnOk result (new ≡ old ++ chunk_bytes (record { ssrc = ssrc; items = is }))
chunk_exact result ssrc used is old first second new e1 e2 count h =
    let many : used ≡ 4 + length (items_bytes is) = omega (arith, count, ap length e2, ap length e1, length-append first (items_bytes is), length-append old (to_be_bytes w32 ssrc)) in
    let left : 4 - used % 4 ≡ 4 - length (items_bytes is) % 4 = omega (arith, many) in
    on_written result _ _ h (λ e.
    e ∙ ap (λ (z : ℕ). second ++ take {A = ℕ} z (0 ∷ 0 ∷ 0 ∷ 0 ∷ [])) left ∙ ap (λ (t : List ℕ). t ++ ending_zeros (length (items_bytes is))) (e2 ∙ ap (λ (t : List ℕ). t ++ items_bytes is) e1)
    ∙ append_assoc (old ++ to_be_bytes w32 ssrc) (items_bytes is) (ending_zeros (length (items_bytes is))) ∙ append_assoc old (to_be_bytes w32 ssrc) (items_bytes is ++ ending_zeros (length (items_bytes is))))

pub description_exact : {X E : Type 0} (result : Result X E) (count : ℕ) (chunks head old new : List ℕ) → head ≡ header_bytes false count 202 (length chunks / 4) → OnOk result (new ≡ ((old ++ head) ++ chunks) ++ [])
    → OnOk result (new ≡ old ++ (header_bytes false count 202 (length chunks / 4) ++ chunks))
description_exact result count chunks head old new e1 h =
    on_written result _ _ h (λ e. e ∙ append-nil ((old ++ head) ++ chunks) ∙ append_assoc old head chunks ∙ ap (λ (t : List ℕ). old ++ (t ++ chunks)) e1)

pub leaving_exact : {X E : Type 0} (result : Result X E) (ssrcs head old new : List ℕ) → head ≡ header_bytes false (length ssrcs / 4) 203 (length ssrcs / 4) → OnOk result (new ≡ ((old ++ head) ++ ssrcs) ++ [])
    → OnOk result (new ≡ old ++ leaving_bytes (record { ssrcs = ssrcs; reason = None }))
leaving_exact result ssrcs head old new e1 h =
    let same : length ssrcs / 4 ≡ length (ssrcs ++ []) / 4 = ap (λ (t : List ℕ). length t / 4) (sym (append-nil ssrcs)) in
    on_written result _ _ h (λ e.
    e ∙ append_assoc (old ++ head) ssrcs [] ∙ append_assoc old head (ssrcs ++ []) ∙ ap (λ (t : List ℕ). old ++ (t ++ (ssrcs ++ []))) (e1 ∙ ap (λ (n : ℕ). header_bytes false (length ssrcs / 4) 203 n) same))

pub leaving_for_exact : {X E : Type 0} (result : Result X E) (ssrcs reason head old first new : List ℕ) (words : ℕ) → words ≡ (length ssrcs + 1 + length reason + (3 - length reason % 4)) / 4 → head ≡ header_bytes false (length ssrcs / 4) 203 words
    → first ≡ ((old ++ head) ++ ssrcs) ++ length reason ∷ [] → OnOk result (new ≡ ((first ++ reason) ++ take (3 - length reason % 4) (0 ∷ 0 ∷ 0 ∷ [])) ++ []) → OnOk result (new ≡ old ++ leaving_bytes (record { ssrcs = ssrcs; reason = Some reason }))
leaving_for_exact result ssrcs reason head old first new words many e1 e2 h =
    let fill : List ℕ = take (3 - length reason % 4) (0 ∷ 0 ∷ 0 ∷ []) in
    let rest : List ℕ = reason_bytes (Some reason) in
    let long : length fill ≡ 3 - length reason % 4 = omega (arith, length-take {A = ℕ} (3 - length reason % 4) (0 ∷ 0 ∷ 0 ∷ [])) in
    let size : length (ssrcs ++ rest) ≡ length ssrcs + 1 + length reason + (3 - length reason % 4) = omega (arith, length-append ssrcs rest, length-append reason fill, long) in
    let same : words ≡ length (ssrcs ++ rest) / 4 = many ∙ ap (λ (n : ℕ). n / 4) (sym size) in
    on_written result _ _ h (λ e.
    e ∙ append-nil ((first ++ reason) ++ fill) ∙ append_assoc first reason fill ∙ ap (λ (t : List ℕ). t ++ (reason ++ fill)) e2
    ∙ append_assoc ((old ++ head) ++ ssrcs) (length reason ∷ []) (reason ++ fill) ∙ append_assoc (old ++ head) ssrcs rest ∙ append_assoc old head (ssrcs ++ rest)
    ∙ ap (λ (t : List ℕ). old ++ (t ++ (ssrcs ++ rest))) (e1 ∙ ap (λ (n : ℕ). header_bytes false (length ssrcs / 4) 203 n) same))

pub padded_exact : {X E : Type 0} (result : Result X E) (n words : ℕ) (packet rest zeros old first new : List ℕ) → 4 ≤ length packet → n < 256 → words ≡ (length packet + n) / 4 - 1 → rest ≡ take (length packet - 4) (drop 4 packet)
    → zeros ≡ take (n - 1) (replicate 255 0) → first ≡ old ++ ((get_or packet 0 0 + 32) ∷ get_or packet 1 0 ∷ to_be_bytes w16 words) → OnOk result (new ≡ ((first ++ rest) ++ zeros) ++ n ∷ []) → OnOk result (new ≡ old ++ padded_bytes n packet)
padded_exact result n words packet rest zeros old first new some small count cut filled e1 h =
    let head : List ℕ = (get_or packet 0 0 + 32) ∷ get_or packet 1 0 ∷ to_be_bytes w16 words in
    let body : rest ≡ drop 4 packet = cut ∙ take_all (length packet - 4) (drop 4 packet) (omega (arith, length-drop 4 packet)) in
    let fill : zeros ≡ replicate (n - 1) 0 = filled ∙ take-replicate (n - 1) 255 0 (omega (arith, small)) in
    on_written result _ _ h (λ e.
    e ∙ append_assoc (first ++ rest) zeros (n ∷ []) ∙ append_assoc first rest (zeros ++ n ∷ []) ∙ ap (λ (t : List ℕ). t ++ (rest ++ (zeros ++ n ∷ []))) e1 ∙ append_assoc old head (rest ++ (zeros ++ n ∷ []))
    ∙ ap (λ (t : List ℕ). old ++ (head ++ (t ++ (zeros ++ n ∷ [])))) body ∙ ap (λ (t : List ℕ). old ++ (head ++ (drop 4 packet ++ (t ++ n ∷ [])))) fill
    ∙ ap (λ (w : ℕ). old ++ (((get_or packet 0 0 + 32) ∷ get_or packet 1 0 ∷ to_be_bytes w16 w) ++ (drop 4 packet ++ (replicate (n - 1) 0 ++ n ∷ [])))) count)

pub long_enough : (n : ℕ) (packet : List ℕ) → padding_fits n packet ≡ true → 4 ≤ length packet
long_enough n packet fits =
    let a = and_parts (leb 4 (length packet) && leb (get_or packet 0 0) 159 && leb 1 n && eqb (n % 4) 0) (leb (length packet + n) 262144) fits in
    let b = and_parts (leb 4 (length packet) && leb (get_or packet 0 0) 159 && leb 1 n) (eqb (n % 4) 0) a.0 in
    let d = and_parts (leb 4 (length packet) && leb (get_or packet 0 0) 159) (leb 1 n) b.0 in
    leb-true 4 (length packet) (and_parts (leb 4 (length packet)) (leb (get_or packet 0 0) 159) d.0).0
