-- Lemmas on bits copied from a reader.
use Rattle.std.proofs.Common.{◌≡◌, ℕ, ◌+◌, ◌-◌, ◌*◌, ◌%◌, ◌^◌, ◌<◌, ◌≤◌, List, [], ◌∷◌, ◌++◌, length, take, drop, replicate, sym, ◌∙◌, ap, arith, append_assoc, append-nil, length-append, length-drop, Some}
use Rattle.std.proofs.Math.Nat.{add-zero}
use Rattle.std.proofs.Math.Seq.{take-add}
use Rattle.std.proofs.lemmas.Nat.{pow_pos, shl_whole}
use Rattle.std.proofs.lemmas.List.{take_at, drop-drop, length-take-le}
use Rattle.codec_payload_base.specs.Bits.{Reader, bits, bits_of, left, moved, ReadsBits}
use Rattle.codec_payload_base.proofs.BitLemmas.{bits-cat, bits-zero, length-bits}
use Rattle.codec_payload_audio.specs.AmrWb.{gap, padded}
use Rattle.codec_payload_audio.specs.AmrWbReceived.{Extends, IsCopyFault}
use Rattle.codec_payload_base.specs.declared.error.PacketError.{PacketError}
use Rattle.codec_payload_audio.proofs.AmrWbCopyLemmas.{bits_of-push}

-- nothing appended, and one after another
pub extends_same : (xs : List ℕ) → Extends xs xs
extends_same xs = ([], sym (append-nil xs))

pub extends_on : (old mid new : List ℕ) → Extends old mid → Extends mid new → Extends old new
extends_on old mid new first second = (first.0 ++ second.0, second.1 ∙ ap (λ t. t ++ second.0) first.1 ∙ append_assoc old first.0 second.0)

length_moved : (r : Reader) (n : ℕ) → length (left (moved r n)) ≡ length (left r) - n
length_moved r n = ap length (sym (drop-drop n r.place (bits_of r.bytes))) ∙ length-drop n (left r)

padded_is : (xs : List ℕ) (n k : ℕ) → length xs ≡ n → gap n ≡ k → padded xs ≡ xs ++ replicate k 0
padded_is xs n k size e = ap (λ t. xs ++ replicate t 0) (ap gap size ∙ e)

gap_whole : (m n : ℕ) → m % 8 ≡ 0 → gap (m + n) ≡ gap n
gap_whole m n h = omega arith

-- whole bytes before the bits that are padded
pub padded-bytes : (xs ys : List ℕ) → length xs % 8 ≡ 0 → padded (xs ++ ys) ≡ xs ++ padded ys
padded-bytes xs ys whole =
    let same : gap (length (xs ++ ys)) ≡ gap (length ys) = ap gap (length-append xs ys) ∙ gap_whole (length xs) (length ys) whole in
    ap (λ t. (xs ++ ys) ++ replicate t 0) same ∙ append_assoc xs ys (replicate (gap (length ys)) 0)

-- whole bytes, and then fewer bits than a byte
pub copied_both : (old now : Reader) (out0 mid out : List ℕ) (k r n : ℕ) → n ≡ 8 * k + r → now ≡ moved old (8 * k) → 8 * k ≤ length (left old)
    → bits_of mid ≡ bits_of out0 ++ take (8 * k) (left old) → bits_of out ≡ bits_of mid ++ padded (take r (left now)) → bits_of out ≡ bits_of out0 ++ padded (take n (left old))
copied_both old now out0 mid out k r n e place within first second =
    let rest : left now ≡ drop (8 * k) (left old) = ap left place ∙ sym (drop-drop (8 * k) old.place (bits_of old.bytes)) in
    let whole : length (take (8 * k) (left old)) % 8 ≡ 0 = omega (arith, length-take-le (8 * k) (left old) within) in
    second
    ∙ ap (λ t. t ++ padded (take r (left now))) first
    ∙ append_assoc (bits_of out0) (take (8 * k) (left old)) (padded (take r (left now)))
    ∙ ap (λ t. bits_of out0 ++ t)
    (ap (λ t. take (8 * k) (left old) ++ padded (take r t)) rest
    ∙ sym (padded-bytes (take (8 * k) (left old)) (take r (drop (8 * k) (left old))) whole)
    ∙ ap padded (sym (take-add (8 * k) r (left old)) ∙ ap (λ t. take t (left old)) (sym e)))

pub place_both : (old now new : Reader) (k r n : ℕ) → n ≡ 8 * k + r → now ≡ moved old (8 * k) → 8 * k ≤ length (left old) → r ≤ length (left now) → new ≡ moved now r
    → (n ≤ length (left old)) × (new ≡ moved old n)
place_both old now new k r n e first within there second =
    let rest : length (left now) ≡ length (left old) - 8 * k = ap (λ t. length (left t)) first ∙ length_moved old (8 * k) in
    (omega (arith, rest), second ∙ ap (λ t. moved t r) first ∙ ap (λ p. record old { place = p }) (omega arith))

pub short_both : (old now : Reader) (k r n : ℕ) (fault : PacketError) → n ≡ 8 * k + r → now ≡ moved old (8 * k) → 8 * k ≤ length (left old)
    → IsCopyFault (left now) r fault → IsCopyFault (left old) n fault
short_both old now k r n fault e first within short = λ other.
    let rest : length (left now) ≡ length (left old) - 8 * k = ap (λ t. length (left t)) first ∙ length_moved old (8 * k) in
    let both = short other in
    (both.0, omega (arith, rest, both.1))

pub short_front : (bs : List ℕ) (m n : ℕ) (fault : PacketError) → m ≤ n → IsCopyFault bs m fault → IsCopyFault bs n fault
short_front bs m n fault less short = λ other. let both = short other in (both.0, omega (arith, both.1))

tail_byte : (r t : ℕ) → r < 8 → t < 2 ^ r → bits 8 (t * 2 ^ (8 - r) % 256) ≡ bits r t ++ replicate (8 - r) 0
tail_byte r t few small =
    let width : 8 - r + r ≡ 8 = omega arith in
    ap (bits 8) (shl_whole t r (8 - r) 8 small (omega arith) ∙ sym (add-zero (t * 2 ^ (8 - r))))
    ∙ ap (λ w. bits w (t * 2 ^ (8 - r) + 0)) (sym width)
    ∙ bits-cat (8 - r) r t 0 (pow_pos (8 - r))
    ∙ ap (λ z. bits r t ++ z) (bits-zero (8 - r))

-- fewer bits than a byte, and zeros after them
pub copied_rest : (old new : Reader) (out : List ℕ) (r t : ℕ) → 0 < r → r < 8 → ReadsBits r old new (Some t) → bits_of (out ++ (t * 2 ^ (8 - r) % 256) ∷ []) ≡ bits_of out ++ padded (take r (left old))
copied_rest old new out r t some few reads =
    let taken : take r (left old) ≡ bits r t = ap (take r) reads.1 ∙ take_at (bits r t) (left new) r (length-bits r t) in
    bits_of-push out (t * 2 ^ (8 - r) % 256)
    ∙ ap (λ z. bits_of out ++ z) (tail_byte r t few reads.0)
    ∙ ap (λ z. bits_of out ++ z) (sym (padded_is (bits r t) r (8 - r) (length-bits r t) (omega arith)) ∙ ap padded (sym taken))

pub rest_place : (old new : Reader) (r t : ℕ) → ReadsBits r old new (Some t) → (r ≤ length (left old)) × (new ≡ moved old r)
rest_place old new r t reads = (omega (arith, ap length reads.1, length-append (bits r t) (left new), length-bits r t), reads.2)

-- no bits are nothing
pub copied_nothing : (out bs : List ℕ) (n : ℕ) → n ≡ 0 → bits_of out ≡ bits_of out ++ padded (take n bs)
copied_nothing out bs n none = sym (ap (λ t. bits_of out ++ padded (take t bs)) none ∙ append-nil (bits_of out))

pub place_same : (old : Reader) (n : ℕ) → n ≡ 0 → old ≡ moved old n
place_same old n none = ap (λ p. record old { place = p }) (sym (add-zero old.place) ∙ ap (λ t. old.place + t) (sym none))
