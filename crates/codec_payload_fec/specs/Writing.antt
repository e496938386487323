-- Packets of FEC for groups of packets (RFC 5109, section 8).
use Rattle.std.specs.Prelude.{◌≡◌, ◌⊎◌, ℕ, zero, suc, ◌+◌, ◌*◌, ◌/◌, ◌%◌, ◌<◌, ◌==◌, ◌&&◌, max, nat_lt, if◌then◌else◌, Bool, List, [], ◌∷◌, ◌++◌, length, get_or, Option, Some, None, IfSome, take, drop}
use Rattle.std.specs.Borrow.{Bor}
use Rattle.codec_payload_fec.specs.Fec.{Fec, number_at}
use Rattle.codec_payload_fec.specs.Protecting.{AllCameOrLost, AreOfStream, IsAmong}
use Rattle.codec_payload_fec.specs.Rebuilding.{rebuilt}
use Rattle.codec_payload_fec.specs.Strings.{number_of, xor_all}

-- packets that are lent
abbrev pub lists_of : List (Bor (List ℕ)) → List (List ℕ)
lists_of [] = []
lists_of (p ∷ ps) = p.now ∷ lists_of ps

-- ---- a group: packets from the front with consecutive numbers, at most 48

-- the size of a group whose first number is `base` and that has `i` packets so far
abbrev pub group_from : ℕ → ℕ → List (List ℕ) → ℕ
group_from base i [] = i
group_from base i (p ∷ ps) = if nat_lt i 48 && (number_of p == number_at i base) then group_from base (suc i) ps else i

abbrev pub first_number : List (List ℕ) → ℕ
first_number packets = number_of (get_or packets 0 [])

abbrev pub group_size : List (List ℕ) → ℕ
group_size packets = group_from (first_number packets) 1 (drop 1 packets)

-- ---- which packets of a group are protected by which packet of FEC

-- how many packets of FEC protect that many packets: so many 256ths of them, rounded, and at least one if there is a protection
abbrev pub fec_count : (media protection : ℕ) → ℕ
fec_count media protection = if protection == 0 then 0 else max ((media * protection + 128) / 256) 1

-- packet of FEC `n` of `count` protects the places n, n + count, n + 2 * count, ..
abbrev pub is_chosen : (size count n place : ℕ) → Bool
is_chosen size count n place = nat_lt place size && (place % count == n)

abbrev pub if_chosen : Bool → List ℕ → List (List ℕ)
if_chosen is_chosen p = if is_chosen then p ∷ [] else []

-- these packets among so many places
unfoldable pub chosen_in : (places count n : ℕ) → List (List ℕ) → List (List ℕ)
chosen_in zero count n group = []
chosen_in (suc place) count n group = chosen_in place count n group ++ if_chosen (is_chosen (length group) count n place) (get_or group place [])

abbrev pub bit_of : Bool → ℕ
bit_of is_chosen = if is_chosen then 1 else 0

-- the mask of so many places, the first of which has the highest bit
unfoldable pub mask_in : (places size count n : ℕ) → ℕ
mask_in zero size count n = 0
mask_in (suc place) size count n = mask_in place size count n * 2 + bit_of (is_chosen size count n place)

-- ---- packets of FEC

-- L is set if a bit beyond the first 16 is
abbrev pub low_bits : ℕ → Option ℕ
low_bits low = if low == 0 then None else Some low

-- the packet of FEC for these packets, with that mask
abbrev pub fec_with : ℕ → ℕ → List (List ℕ) → Fec
fec_with base mask packets = record { base = base; mask = mask / 4294967296; continued = low_bits (mask % 4294967296); recovery = xor_all packets; further = [] }

abbrev pub fec_for : (count n : ℕ) → List (List ℕ) → Fec
fec_for count n group = fec_with (first_number group) (mask_in 48 (length group) count n) (chosen_in 48 count n group)

-- the first n packets of FEC of a group that has `count`
abbrev pub fecs_below : (n count : ℕ) → List (List ℕ) → List Fec
fecs_below zero count group = []
fecs_below (suc n) count group = fecs_below n count group ++ fec_for count n group ∷ []

abbrev pub group_fecs : (protection : ℕ) → List (List ℕ) → List Fec
group_fecs protection group = fecs_below (fec_count (length group) protection) (fec_count (length group) protection) group

-- those of all groups, which are at most `n`
unfoldable pub fecs_in : (n protection : ℕ) → List (List ℕ) → List Fec
fecs_in zero protection packets = []
fecs_in (suc n) protection [] = []
fecs_in (suc n) protection (p ∷ ps) = group_fecs protection (take (group_size (p ∷ ps)) (p ∷ ps)) ++ fecs_in n protection (drop (group_size (p ∷ ps)) (p ∷ ps))

abbrev pub fecs : (protection : ℕ) → List (List ℕ) → List Fec
fecs protection packets = fecs_in (length packets) protection packets

-- each packet has at most 65,547 bytes
abbrev pub AreShort : List (List ℕ) → Type 0
AreShort [] = Unit {0}
AreShort (p ∷ ps) = (length p < 65548) × AreShort ps

-- ---- what was rebuilt was sent

abbrev pub IsOneOf : Fec → List Fec → Type 0
IsOneOf f [] = ⊥
IsOneOf f (g ∷ gs) = (f ≡ g) ⊎ IsOneOf f gs

-- For any packets of a stream, any protection, any packet of FEC that was made for them, and whatever packets were lost: what is rebuilt
-- is one of the packets that were sent, byte for byte, and was lost
abbrev pub RebuiltIsSent : Type 0
RebuiltIsSent =
    (ssrc protection : ℕ) (sent : List (List ℕ)) (f : Fec) (find : ℕ → Option (List ℕ)) → AreOfStream ssrc sent → IsOneOf f (fecs protection sent) → AllCameOrLost find sent
    → IfSome (rebuilt ssrc f find) (λ p. IsAmong p sent × (find (number_of p) ≡ None))
