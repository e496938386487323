-- The payload of a frame gives its canonical form back.
use Rattle.std.proofs.Common.{◌≡◌, ℕ, ◌+◌, ◌*◌, ◌/◌, ◌%◌, ◌<◌, ◌≤◌, List, [], ◌∷◌, ◌++◌, length, drop, replicate, refl, sym, ◌∙◌, ap, arith, append-nil, length-append, subst, cond, eqb, Option, Some, None, Ok, Err, Result, Bool, true, false, ltb, IfOk, ◌≢◌, inl, inr}
use Rattle.std.specs.Int.{div_ceil}
use Rattle.std.specs.Int.Bits.{bit_and}
use Rattle.std.proofs.lemmas.Nat.{and_mask}
use Rattle.codec_payload_audio.proofs.AmrWbPayloadLemmas.{toc_frame, stored_is}
use Rattle.std.proofs.lemmas.Bool.{lt-ltb, le-ltb, eqb-true, ne_eqb, cases_Bool}
use Rattle.std.proofs.lemmas.List.{take_at, drop_at, drop_all, length-replicate, length-take-le}
use Rattle.codec_payload_base.specs.Bits.{bits, bits_of}
use Rattle.codec_payload_base.proofs.BitLemmas.{length-bits_of}
use Rattle.codec_payload_base.specs.declared.error.PacketError.{PacketError}
use Rattle.codec_payload_base.specs.declared.error.PacketError.TheVariants as faults
use Rattle.codec_payload_audio.specs.AmrWb.{Frame, IsFrame, IsPacketOf, AnswersFrame, frame_from, sized, stored, amr_wb_is_skipped, speech_size, gap, entry, canonical, payload}
use Rattle.codec_payload_audio.specs.AmrWbReceived.{entries_at, entry_from, frames_at, whole, received, CarriesCanonical}

gap_sixteen : (n : ℕ) → gap (16 + n) ≡ gap n
gap_sixteen n = omega arith

gap_below : (n : ℕ) → gap n < 8
gap_below n = omega arith

front_size : (f : Frame) → length (bits 4 15 ++ bits 4 0 ++ entry f ++ bits 2 0) ≡ 16
unfolding bits
front_size f = refl

head_size : (f : Frame) → length (bits 4 15 ++ bits 4 0 ++ entry f ++ bits 2 0 ++ f.speech) ≡ 16 + length f.speech
head_size f =
    let front : List ℕ = bits 4 15 ++ bits 4 0 ++ entry f ++ bits 2 0 in
    length-append front f.speech ∙ ap (λ t. t + length f.speech) (front_size f)

-- one frame, and the bits that fill up its last byte
one_frame : (octet : Bool) (kind quality n : ℕ) (speech zeros : List ℕ) → speech_size kind ≡ Some n → length speech ≡ n → length zeros < 8
    → (octet ≡ true → length zeros ≡ gap n)
    → whole (frames_at octet (record { kind = kind; quality = quality } ∷ []) (speech ++ zeros)) ≡ Ok (canonical (record { kind = kind; quality = quality; speech = speech }))
unfolding frames_at
one_frame false kind quality n speech zeros size e few all =
    let enough : ltb (length (speech ++ zeros)) n ≡ false = le-ltb (length (speech ++ zeros)) n (omega (arith, length-append speech zeros)) in
    rw (size, enough, take_at speech zeros n e, drop_at speech zeros n e, lt-ltb (length zeros) 8 few) (ap Ok (append-nil (canonical (record { kind = kind; quality = quality; speech = speech }))))
one_frame true kind quality n speech zeros size e few all =
    let enough : ltb (length (speech ++ zeros)) n ≡ false = le-ltb (length (speech ++ zeros)) n (omega (arith, length-append speech zeros)) in
    let fill = all refl in
    let none : drop (n + gap n) (speech ++ zeros) ≡ [] = drop_all (n + gap n) (speech ++ zeros) (omega (arith, length-append speech zeros)) in
    rw (size, enough, take_at speech zeros n e, none) (ap Ok (append-nil (canonical (record { kind = kind; quality = quality; speech = speech }))))

pub received_again : (octet : Bool) (f : Frame) → IsFrame f → received octet (payload octet f) ≡ Ok (canonical f)
unfolding received entries_at bits
received_again false f is =
    let kind : 8 * (f.kind / 8 % 2) + 4 * (f.kind / 4 % 2) + 2 * (f.kind / 2 % 2) + f.kind / 1 % 2 ≡ f.kind = omega (arith, is.kind) in
    let quality : f.quality / 1 % 2 ≡ f.quality = omega (arith, is.quality) in
    let same : entry_from (f.kind / 8 % 2) (f.kind / 4 % 2) (f.kind / 2 % 2) (f.kind / 1 % 2) (f.quality / 1 % 2) ≡ record { kind = f.kind; quality = f.quality } = rw (kind, quality) refl in
    let zeros : List ℕ = replicate (gap (length (bits 4 15 ++ entry f ++ f.speech))) 0 in
    let few : length zeros < 8 = omega (arith, length-replicate {A = ℕ} (gap (length (bits 4 15 ++ entry f ++ f.speech))) 0, gap_below (length (bits 4 15 ++ entry f ++ f.speech))) in
    ap (λ e. whole (frames_at false (e ∷ []) (f.speech ++ zeros))) same ∙ one_frame false f.kind f.quality (length f.speech) f.speech zeros is.size refl few (λ no. cc)
received_again true f is =
    let kind : 8 * (f.kind / 8 % 2) + 4 * (f.kind / 4 % 2) + 2 * (f.kind / 2 % 2) + f.kind / 1 % 2 ≡ f.kind = omega (arith, is.kind) in
    let quality : f.quality / 1 % 2 ≡ f.quality = omega (arith, is.quality) in
    let same : entry_from (f.kind / 8 % 2) (f.kind / 4 % 2) (f.kind / 2 % 2) (f.kind / 1 % 2) (f.quality / 1 % 2) ≡ record { kind = f.kind; quality = f.quality } = rw (kind, quality) refl in
    let size : ℕ = length (bits 4 15 ++ bits 4 0 ++ entry f ++ bits 2 0 ++ f.speech) in
    let zeros : List ℕ = replicate (gap size) 0 in
    let count : length zeros ≡ gap size = length-replicate {A = ℕ} (gap size) 0 in
    let few : length zeros < 8 = omega (arith, count, gap_below size) in
    let fill : gap size ≡ gap (length f.speech) = ap gap (head_size f) ∙ gap_sixteen (length f.speech) in
    ap (λ e. whole (frames_at true (e ∷ []) (f.speech ++ zeros))) same ∙ one_frame true f.kind f.quality (length f.speech) f.speech zeros is.size refl few (λ _. count ∙ fill)

-- the frame that bytes store is one
pub is_frame : (first n : ℕ) (rest : List ℕ) → speech_size (first / 8 % 16) ≡ Some n → n ≤ 8 * length rest → IsFrame (frame_from first n rest)
is_frame first n rest size within = record {
  kind = omega arith;
  quality = omega arith;
  size = size ∙ ap Some (sym (length-take-le n (bits_of rest) (omega (arith, length-bits_of rest))));
}

-- the packet of a frame carries its canonical form
carries : (octet : Bool) (mtu : ℕ) (f : Frame) (packets : List (List ℕ)) → IsFrame f → IsPacketOf octet mtu (Some f) packets → CarriesCanonical octet (Some f) packets
carries octet mtu f [] is answer = tt
carries octet mtu f (p ∷ packets) is (packet, same, spelled, short) =
    let first : p ≡ packet = cc in
    ap (λ t. received octet (bits_of t)) first ∙ ap (received octet) spelled ∙ received_again octet f is

if_sent : (octet : Bool) (mtu : ℕ) (f : Frame) (packets : List (List ℕ)) → AnswersFrame octet mtu f (Ok packets) → IsPacketOf octet mtu (Some f) packets
if_sent octet mtu f packets answer = elim (cases_Bool (ltb (8 * mtu) (length (payload octet f)))) [
  | inl over ↦ let bad : ◌≡◌ {A = Result (List (List ℕ)) PacketError} (Ok packets) (Err faults.ErrPayloadTooLarge) = rw over at answer in cc
  | inr fits ↦ rw fits at answer
]

-- a frame with data that bytes store, by the code's reading of its first byte
pub stored_frame : (first n : ℕ) (bytes rest : List ℕ) → bytes ≡ first ∷ rest → speech_size (bit_and (first / 8) 15) ≡ Some n → length rest ≡ div_ceil n 8 → first < 256 → bit_and (first / 8) 15 ≢ 15
    → (amr_wb_is_skipped bytes ≡ false) × (stored bytes ≡ Some (frame_from (bit_and first 124) n rest))
stored_frame first n bytes rest e size whole small other =
    let is : stored bytes ≡ Some (frame_from first n rest) = stored_is bytes rest first n e size whole in
    let kind : bit_and (first / 8) 15 ≡ first / 8 % 16 = and_mask (first / 8) 4 in (
      rw (e, rw e at is, ne_eqb (first / 8 % 16) 15 (λ none. other (kind ∙ none))) refl,
      is ∙ ap Some (sym (toc_frame first n rest small)),
    )

some_injective : {x y : Frame} → Some x ≡ Some y → x ≡ y
some_injective e = cc

none_is_some : {x : Frame} → ◌≡◌ {A = Option Frame} None (Some x) → ⊥
none_is_some e = cc

sized_frame : (first : ℕ) (rest : List ℕ) (o : Option ℕ) (f : Frame) → speech_size (first / 8 % 16) ≡ o → sized first rest o ≡ Some f → IsFrame f
sized_frame first rest None f size is = cc
sized_frame first rest (Some n) f size is = by_length (eqb (length rest) (div_ceil n 8)) refl
  where
    by_length : (b : Bool) → eqb (length rest) (div_ceil n 8) ≡ b → IsFrame f
    by_length true same =
        let whole : length rest ≡ div_ceil n 8 = eqb-true (length rest) (div_ceil n 8) same in
        let f_is : frame_from first n rest ≡ f = some_injective (sym (ap (λ b. cond b (Some (frame_from first n rest)) None) same) ∙ is) in
        subst IsFrame f_is (is_frame first n rest size (omega (arith, whole)))
    by_length false other = absurd (none_is_some (sym (ap (λ b. cond b (Some (frame_from first n rest)) None) other) ∙ is))

-- stored bytes are a frame
pub stored_is_frame : (bytes : List ℕ) (f : Frame) → stored bytes ≡ Some f → IsFrame f
stored_is_frame [] f is = cc
stored_is_frame (b ∷ bs) f is = sized_frame b bs (speech_size (b / 8 % 16)) f refl is

-- the packets of the frame that bytes store carry its canonical form
pub stored_carries : (octet : Bool) (mtu : ℕ) (bytes : List ℕ) (f : Frame) → stored bytes ≡ Some f → (r : Result (List (List ℕ)) PacketError)
    → AnswersFrame octet mtu f r → IfOk r (λ packets. CarriesCanonical octet (stored bytes) packets)
stored_carries octet mtu bytes f is (Ok packets) answer = rw is (carries octet mtu f packets (stored_is_frame bytes f is) (if_sent octet mtu f packets answer))
stored_carries octet mtu bytes f is (Err fault) answer = tt
