-- A packet that is written with padding.
use Rattle.std.proofs.Common.{◌≡◌, ℕ, zero, suc, take, drop, ◌+◌, ◌-◌, ◌*◌, ◌/◌, ◌%◌, ◌<◌, ◌≤◌, List, [], ◌∷◌, ◌++◌, length, Bool, true, false, eqb, leb, ◌&&◌, Result, refl, sym, ap, ◌∙◌, subst, arith, append_assoc, length-append}
use Rattle.std.specs.Prelude.{OnOk, get_or}
use Rattle.std.specs.Int.{w16, to_be_bytes}
use Rattle.std.proofs.lemmas.Bool.{and_parts, leb-true, le-leb, eqb-true}
use Rattle.std.proofs.lemmas.List.{append-nil, length-drop, take_all}
use Rattle.codec_payload_rtcp.specs.RtcpPackets.{type_of, count_of, IsPacket, header_bytes}
use Rattle.codec_payload_rtcp.specs.RtcpWriting.{AppendsPadded, LastPadded, padding_fits}
use Rattle.codec_payload_rtcp.proofs.RtcpWriting.{on_written}

pub last_padded : LastPadded
last_padded [] old written padding p are is = (padding, subst (λ (b : List ℕ). IsPacket padding b p) (sym (ap (λ (t : List ℕ). t ++ written) are)) is)
last_padded (q ∷ []) old written padding p (front, rest, first, none, e) is =
    (front, rest ++ written, first, (padding, subst (λ (b : List ℕ). IsPacket padding b p) (sym (ap (λ (t : List ℕ). t ++ written) none)) is), ap (λ (t : List ℕ). t ++ written) e ∙ append_assoc front rest written)
last_padded (q ∷ r ∷ ps) old written padding p (front, rest, first, others, e) is =
    (front, rest ++ written, first, last_padded (r ∷ ps) rest written padding p others is, ap (λ (t : List ℕ). t ++ written) e ∙ append_assoc front rest written)

padded : (n words : ℕ) (packet zeros old first new : List ℕ) → 1 ≤ n → n < 256 → n % 4 ≡ 0 → length packet + n ≤ 262144 → words ≡ (length packet + n) / 4 - 1 → length zeros ≡ n - 1
    → first ≡ old ++ ((get_or packet 0 0 + 32) ∷ get_or packet 1 0 ∷ to_be_bytes w16 words) → new ≡ ((first ++ drop 4 packet) ++ zeros) ++ n ∷ [] → AppendsPadded n old new packet
padded zero words packet zeros old first new some small whole few count long e1 e3 p is = absurd (omega (arith, some))
padded (suc m) words packet zeros old first new some small whole few count long e1 e3 p is =
    let tail : List ℕ = zeros ++ suc m ∷ [] in
    let c : ℕ = count_of p in
    let t : ℕ = type_of p in
    let body_is : is.body ++ is.tail ≡ is.body = ap (λ (b : List ℕ). is.body ++ b) is.is_padding ∙ append-nil is.body in
    let plain : packet ≡ header_bytes false c t (length (is.body ++ is.tail) / 4) ++ is.body = is.is ∙ ap (λ (b : List ℕ). header_bytes false c t (length (is.body ++ is.tail) / 4) ++ b) body_is in
    let byte : get_or packet 0 0 ≡ 128 + 0 + c = ap (λ (b : List ℕ). get_or b 0 0) plain in
    let kind : get_or packet 1 0 ≡ t = ap (λ (b : List ℕ). get_or b 1 0) plain in
    let rest : drop 4 packet ≡ is.body = ap (λ (b : List ℕ). drop 4 b) plain in
    let size : length packet ≡ 4 + length is.body = omega (arith, ap length plain) in
    let words_of : 4 * (length is.body / 4) ≡ length is.body = subst (λ (b : List ℕ). 4 * (length b / 4) ≡ length b) body_is is.whole in
    let sum : length (is.body ++ tail) ≡ length is.body + suc m = omega (arith, length-append is.body tail, length-append zeros (suc m ∷ []), long) in
    let all_words : words ≡ length (is.body ++ tail) / 4 = omega (arith, count, size, sum) in
    let with_p : get_or packet 0 0 + 32 ≡ 128 + 32 + c = omega (arith, byte) in
    let written : List ℕ = header_bytes true c t (length (is.body ++ tail) / 4) ++ (is.body ++ tail) in
    let head : ((get_or packet 0 0 + 32) ∷ get_or packet 1 0 ∷ to_be_bytes w16 words) ≡ header_bytes true c t (length (is.body ++ tail) / 4) =
    ap (λ (b : ℕ). b ∷ get_or packet 1 0 ∷ to_be_bytes w16 words) with_p ∙ ap (λ (b : ℕ). (128 + 32 + c) ∷ b ∷ to_be_bytes w16 words) kind ∙ ap (λ (w : ℕ). (128 + 32 + c) ∷ t ∷ to_be_bytes w16 w) all_words in
    let all : new ≡ old ++ written =
    e3 ∙ append_assoc (first ++ drop 4 packet) zeros (suc m ∷ []) ∙ append_assoc first (drop 4 packet) tail ∙ ap (λ (b : List ℕ). b ++ (drop 4 packet ++ tail)) e1
    ∙ append_assoc old ((get_or packet 0 0 + 32) ∷ get_or packet 1 0 ∷ to_be_bytes w16 words) (drop 4 packet ++ tail)
    ∙ ap (λ (b : List ℕ). old ++ (((get_or packet 0 0 + 32) ∷ get_or packet 1 0 ∷ to_be_bytes w16 words) ++ (b ++ tail))) rest
    ∙ ap (λ (b : List ℕ). old ++ (b ++ (is.body ++ tail))) head in (
      written,
      record {
        fits = is.fits;
        body = is.body;
        tail = tail;
        is_body = is.is_body;
        is_padding = (zeros, omega (arith, long), omega (arith, small), refl);
        whole = omega (arith, sum, words_of, whole);
        few = omega (arith, sum, size, few);
        is = ap (λ (b : Bool). header_bytes b c t (length (is.body ++ tail) / 4) ++ (is.body ++ tail)) (sym (le-leb 1 (suc m) some));
      },
      all,
    )

pub padded_written : {X E : Type 0} (result : Result X E) (n words : ℕ) (packet rest zeros old first new : List ℕ) → padding_fits n packet ≡ true → n < 256 → words ≡ (length packet + n) / 4 - 1 → rest ≡ take (length packet - 4) (drop 4 packet) → length zeros ≡ n - 1
    → first ≡ old ++ ((get_or packet 0 0 + 32) ∷ get_or packet 1 0 ∷ to_be_bytes w16 words) → OnOk result (new ≡ ((first ++ rest) ++ zeros) ++ n ∷ []) → OnOk result (AppendsPadded n old new packet)
padded_written result n words packet rest zeros old first new fits small count cut long e1 h =
    let a = and_parts (leb 4 (length packet) && leb (get_or packet 0 0) 159 && leb 1 n && eqb (n % 4) 0) (leb (length packet + n) 262144) fits in
    let b = and_parts (leb 4 (length packet) && leb (get_or packet 0 0) 159 && leb 1 n) (eqb (n % 4) 0) a.0 in
    let d = and_parts (leb 4 (length packet) && leb (get_or packet 0 0) 159) (leb 1 n) b.0 in
    let body : rest ≡ drop 4 packet = cut ∙ take_all (length packet - 4) (drop 4 packet) (omega (arith, length-drop 4 packet)) in
    on_written result _ _ h (λ e3. padded n words packet zeros old first new (leb-true 1 n d.1) small (eqb-true (n % 4) 0 b.1) (leb-true (length packet + n) 262144 a.1) count long e1 (e3 ∙ ap (λ (b : List ℕ). ((first ++ b) ++ zeros) ++ n ∷ []) body))
