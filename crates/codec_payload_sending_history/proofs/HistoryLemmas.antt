-- The numbers of the packets of a history, newest first.
use Rattle.std.proofs.Common.{◌≡◌, inl, inr, ℕ, zero, suc, ◌+◌, ◌*◌, ◌-◌, ◌%◌, ◌<◌, ◌≤◌, List, [], ◌∷◌, ◌++◌, length, take, set, get_or, true, false, eqb, Option, Some, None, refl, sym, ap, ◌∙◌, subst, arith}
use Rattle.std.specs.Prelude.{slice_get, slice_index_or}
use Rattle.std.specs.Option.{option_map}
use Rattle.std.proofs.lemmas.Option.{slice_get-map, slice_get_read, slice_get_within}
use Rattle.std.proofs.lemmas.Bool.{eqb-true}
use Rattle.std.proofs.lemmas.List.{length-append, length-take, map-set, take-map}
use Rattle.codec_payload_base.specs.declared.wire.Ticks.{Ticks}
use Rattle.codec_payload_rtp.specs.RtpReading.{header_at, rtp_at}
use Rattle.codec_payload_sending_history.specs.Packets.{AreNumbered, IsPlaceOf, Past, Sent, no_packet, number_in, packets_of, sent_of}
use Rattle.codec_payload_sending_history.specs.Histories.{HasNot, lowered, raised, with_bytes}
use Rattle.codec_payload_sending_history.specs.declared.retransmission.SentPacket.{SentPacket}

-- the first of them have theirs
pub numbered_first : (number count : ℕ) (packets : List Sent) → AreNumbered number packets → AreNumbered number (take count packets)
numbered_first number zero packets h = tt
numbered_first number (suc count) [] h = tt
numbered_first number (suc count) (p ∷ packets) h = (h.0, numbered_first ((number + 65535) % 65536) count packets h.1)

-- one more place below
numbered_last : (number : ℕ) (packets : List Sent) → AreNumbered number packets → AreNumbered number (packets ++ no_packet ∷ [])
numbered_last number [] h = (inl refl, tt)
numbered_last number (p ∷ packets) h = (h.0, numbered_last ((number + 65535) % 65536) packets h.1)

pub numbered_lowered : (number count : ℕ) (packets : List Sent) → AreNumbered number packets → AreNumbered number (lowered count packets)
numbered_lowered number zero packets h = h
numbered_lowered number (suc count) packets h = numbered_last number (lowered count packets) (numbered_lowered number count packets h)

pub length_lowered : (count : ℕ) (packets : List Sent) → length (lowered count packets) ≡ length packets + count
length_lowered zero packets = omega arith
length_lowered (suc count) packets = omega (arith, length-append (lowered count packets) (no_packet ∷ []), length_lowered count packets)

up : (n count : ℕ) → ((n + suc count) % 65536 + 65535) % 65536 ≡ (n + count) % 65536
up n count = omega arith

-- places above
pub numbered_raised : (limit count number : ℕ) (packets : List Sent) → number < 65536 → AreNumbered number packets → AreNumbered ((number + count) % 65536) (raised limit count packets)
numbered_raised limit zero number packets small h =
    let same : number ≡ (number + zero) % 65536 = omega (arith, small) in
    subst (λ (n : ℕ). AreNumbered n packets) same h
numbered_raised limit (suc count) number packets small h =
    numbered_first ((number + suc count) % 65536) limit (no_packet ∷ raised limit count packets)
    (inl refl, subst (λ (n : ℕ). AreNumbered n (raised limit count packets)) (sym (up number count)) (numbered_raised limit count number packets small h))

pub length_raised : (limit count : ℕ) (packets : List Sent) → length packets ≤ limit → length (raised limit count packets) ≤ limit
length_raised limit zero packets few = few
length_raised limit (suc count) packets few = omega (arith, length-take limit (no_packet ∷ raised limit count packets))

down : (n i : ℕ) → ((n + 65535) % 65536 + i * 65535) % 65536 ≡ (n + suc i * 65535) % 65536
down n i = omega arith

-- the number of the packet at a place
pub numbered_at : (number i : ℕ) (packets : List Sent) (p : Sent) → number < 65536 → AreNumbered number packets → slice_get packets i ≡ Some p
    → IsPlaceOf ((number + i * 65535) % 65536) p
numbered_at number i [] p small h there = absurd (cc)
numbered_at number zero (q ∷ packets) p small h there =
    let same : q ≡ p = cc in
    let at : number ≡ (number + zero * 65535) % 65536 = omega arith in
    subst (λ (x : Sent). IsPlaceOf ((number + zero * 65535) % 65536) x) same (subst (λ (n : ℕ). IsPlaceOf n q) at h.0)
numbered_at number (suc i) (q ∷ packets) p small h there =
    subst (λ (n : ℕ). IsPlaceOf n p) (down number i) (numbered_at ((number + 65535) % 65536) i packets p (omega arith) h.1 there)

some_is : (m n : ℕ) → Some m ≡ Some n → m ≡ n
some_is m n e = cc

pub no_number : (n : ℕ) → number_in [] ≡ Some n → ⊥
unfolding rtp_at header_at
no_number n e = absurd (cc)

none_is : (p : Sent) (n : ℕ) → p ≡ no_packet → number_in p.bytes ≡ Some n → ⊥
none_is p n is has = no_number n (subst (λ (x : Sent). number_in x.bytes ≡ Some n) is has)

-- a packet with a number has the one of its place
pub number_is : (number m : ℕ) (p : Sent) → IsPlaceOf number p → number_in p.bytes ≡ Some m → m ≡ number
number_is number m p (inl is) has = absurd (none_is p m is has)
number_is number m p (inr is) has = some_is m number (sym has ∙ is)

-- other bytes with the same number at a place
pub numbered_put : (number place : ℕ) (bytes : List ℕ) (packets : List Sent) → number < 65536 → number_in bytes ≡ Some ((number + place * 65535) % 65536) → AreNumbered number packets
    → AreNumbered number (with_bytes place bytes packets)
numbered_put number place bytes [] small is h = tt
numbered_put number zero bytes (q ∷ packets) small is h =
    let at : (number + zero * 65535) % 65536 ≡ number = omega arith in
    (inr (is ∙ ap Some at), h.1)
numbered_put number (suc place) bytes (q ∷ packets) small is h =
    (h.0, numbered_put ((number + 65535) % 65536) place bytes packets (omega arith) (is ∙ ap Some (sym (down number place))) h.1)

-- a packet that is resent keeps its number
pub numbered_resent : (number i : ℕ) (packets : List Sent) (p q : Sent) (n : ℕ) → number < 65536 → slice_get packets i ≡ Some p → number_in p.bytes ≡ Some n → q.bytes ≡ p.bytes
    → AreNumbered number packets → AreNumbered number (set packets i q)
numbered_resent number i [] p q n small there has same h = tt
numbered_resent number zero (x ∷ packets) p q n small there has same h =
    let is : x ≡ p = cc in
    let at : n ≡ number = number_is number n p (subst (λ (y : Sent). IsPlaceOf number y) is h.0) has in
    (inr (ap number_in same ∙ has ∙ ap Some at), h.1)
numbered_resent number (suc i) (x ∷ packets) p q n small there has same h = (h.0, numbered_resent ((number + 65535) % 65536) i packets p q n (omega arith) there has same h.1)

place_of : (newest number place : ℕ) → newest < 65536 → number < 65536 → place ≡ (newest + (65536 - number)) % 65536 → (newest + place * 65535) % 65536 ≡ number
place_of newest number place a b e = omega arith

place_is : (newest number place i : ℕ) → newest < 65536 → number < 65536 → i < 65536 → place ≡ (newest + (65536 - number)) % 65536
    → (newest + i * 65535) % 65536 ≡ number → i ≡ place
place_is newest number place i a b c e h = omega arith

has_bytes : (number : ℕ) (p : Sent) → IsPlaceOf number p → 0 < length p.bytes → number_in p.bytes ≡ Some number
has_bytes number p (inl is) some = absurd (omega (arith, some, ap (λ (x : Sent). length x.bytes) is))
has_bytes number p (inr is) some = is

-- the packet at the distance of a number from the highest one has that number
pub number_there : (newest number place : ℕ) (packets : List Sent) (p : Sent) → newest < 65536 → number < 65536 → place ≡ (newest + (65536 - number)) % 65536
    → AreNumbered newest packets → slice_get packets place ≡ Some p → 0 < length p.bytes → number_in p.bytes ≡ Some number
number_there newest number place packets p a b e h there some =
    has_bytes _ p (numbered_at newest place packets p a h there) some ∙ ap Some (place_of newest number place a b e)

-- and no other packet has
pub number_elsewhere : (h : Past) (number place i : ℕ) (p : Sent) → h.newest < 65536 → number < 65536 → place ≡ (h.newest + (65536 - number)) % 65536
    → AreNumbered h.newest h.packets → length h.packets ≤ 32768 → slice_get h.packets i ≡ Some p → number_in p.bytes ≡ Some number → i ≡ place
number_elsewhere h number place i p a b e numbered few there has =
    let within : i < length h.packets = slice_get_within h.packets i p there in
    place_is h.newest number place i a b (omega (arith, within, few)) e (sym (number_is _ number p (numbered_at h.newest i h.packets p a numbered there) has))

-- there is no place for it
pub number_nowhere : (h : Past) (number place : ℕ) → h.newest < 65536 → number < 65536 → place ≡ (h.newest + (65536 - number)) % 65536
    → AreNumbered h.newest h.packets → length h.packets ≤ place → length h.packets ≤ 32768 → HasNot h number
number_nowhere h number place a b e numbered past few = λ i p there has.
    let within : i < length h.packets = slice_get_within h.packets i p there in
    let same : i ≡ place = number_elsewhere h number place i p a b e numbered few there has in
    omega (arith, same, within, past)

no_bytes : (bytes : List ℕ) → length bytes ≡ 0 → bytes ≡ []
no_bytes [] e = refl
no_bytes (b ∷ bytes) e = absurd (omega (arith, e))

pub len_none : (n m : ℕ) → true ≡ eqb n 0 → n ≡ m → m ≡ 0
len_none n m e same = sym same ∙ eqb-true n 0 (sym e)

pub len_some : (n m : ℕ) → false ≡ eqb n 0 → n ≡ m → 0 < m
len_some zero m e same = absurd (cc)
len_some (suc n) m e same = omega (arith, same)

-- its place has no packet
pub number_absent : (h : Past) (number place : ℕ) (q : Sent) → h.newest < 65536 → number < 65536 → place ≡ (h.newest + (65536 - number)) % 65536
    → AreNumbered h.newest h.packets → slice_get h.packets place ≡ Some q → length q.bytes ≡ 0 → length h.packets ≤ 32768 → HasNot h number
number_absent h number place q a b e numbered here empty few = λ i p there has.
    let same : i ≡ place = number_elsewhere h number place i p a b e numbered few there has in
    let is : q ≡ p = one q p (sym here ∙ subst (λ (k : ℕ). slice_get h.packets k ≡ Some p) same there) in
    no_number number (subst (λ (bytes : List ℕ). number_in bytes ≡ Some number) (no_bytes q.bytes empty) (subst (λ (x : Sent). number_in x.bytes ≡ Some number) (sym is) has))
  where
    one : (x y : Sent) → Some x ≡ Some y → x ≡ y
    one x y e = cc

-- the item at a place, as contracts see it
pub sent_at : (items : List SentPacket) (place : ℕ) (x : SentPacket) → place < length items → x ≡ get_or items place x → slice_get (packets_of items) place ≡ Some (sent_of x)
sent_at items place x within is = slice_get-map sent_of items place ∙ ap (option_map sent_of) (slice_get_read items (length items) place x refl within is)

-- a place that is set
index_there : (packets : List Sent) (i : ℕ) (d p : Sent) → slice_get packets i ≡ Some p → slice_index_or packets i d ≡ p
index_there [] i d p there = absurd (cc)
index_there (q ∷ packets) zero d p there = cc
index_there (q ∷ packets) (suc i) d p there = index_there packets i d p there

pub put_at : (items : List SentPacket) (place : ℕ) (x y : SentPacket) → slice_get (packets_of items) place ≡ Some (sent_of x) → y.resent ≡ x.resent
    → packets_of (set items place y) ≡ with_bytes place y.bytes.items (packets_of items)
put_at items place x y there same =
    let is : slice_index_or (packets_of items) place no_packet ≡ sent_of x = index_there (packets_of items) place no_packet (sent_of x) there in
    map-set sent_of items place y
    ∙ ap (λ (r : Option Ticks). set (packets_of items) place (record { bytes = y.bytes.items; resent = r })) same
    ∙ sym (ap (λ (p : Sent). set (packets_of items) place (record p { bytes = y.bytes.items })) is)

-- one more place in front
pub raised_once : (limit : ℕ) (items : List SentPacket) (bytes : List ℕ) → 1 ≤ limit → bytes ≡ []
    → (record { bytes = bytes; resent = None } ∷ packets_of (take (limit - 1) items)) ≡ take limit (no_packet ∷ packets_of items)
raised_once zero items bytes some none = absurd (omega (arith, some))
raised_once (suc limit) items bytes some none =
    let e : suc limit - 1 ≡ limit = omega arith in
    ap (λ (bs : List ℕ). (record { bytes = bs; resent = None } ∷ packets_of (take (suc limit - 1) items))) none
    ∙ ap (λ (n : ℕ). no_packet ∷ packets_of (take n items)) e
    ∙ ap (λ (ps : List Sent). no_packet ∷ ps) (sym (take-map sent_of limit items))

-- the number of a place above or below
pub above_number : (newest count number : ℕ) → (newest + count) % 65536 ≡ number → ((newest + count) % 65536 + 0 * 65535) % 65536 ≡ number
above_number newest count number e = omega (arith, e)

pub below_number : (newest below number : ℕ) → newest < 65536 → number < 65536 → (newest + 65536 - number) % 65536 ≡ below → (newest + below * 65535) % 65536 ≡ number
below_number newest below number a b e = omega arith
