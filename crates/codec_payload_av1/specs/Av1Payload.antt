-- The payload of a packet: an aggregation header, and elements.
use Rattle.std.specs.Prelude.{ℕ, zero, suc, ◌+◌, ◌*◌, ◌/◌, List, [], ◌∷◌, ◌++◌, length, take, drop, Option, Some, None, Bool, false, not, ◌||◌, ◌&&◌, nat_lt, ◌==◌, if◌then◌else◌, bit_and}
use Rattle.std.specs.List.{flat_map}
use Rattle.codec_payload_base.specs.Leb.{leb, leb_at}
use Rattle.codec_payload_av1.specs.Av1Reading.{◌>>=◌}
use Rattle.codec_payload_av1.specs.Av1Obu.{has_bit}

-- continues is Z: the first element continues from the previous packet. goes_on is Y: the last one continues in the next packet.
-- starts is N: a coded video sequence starts.
pub record Payload : Type 0 where
  pub continues : Bool
  pub goes_on : Bool
  pub starts : Bool
  pub elements : List (List ℕ)

-- ---- the shortest bytes of a payload

-- each element after its length
abbrev pub each_with_length : List (List ℕ) → List ℕ
each_with_length es = flat_map (λ e. leb (length e) ++ e) es

-- each element except the last after its length
abbrev pub all_but_last_with_length : List (List ℕ) → List ℕ
all_but_last_with_length [] = []
all_but_last_with_length (e ∷ []) = e
all_but_last_with_length (e ∷ f ∷ es) = leb (length e) ++ e ++ all_but_last_with_length (f ∷ es)

abbrev pub body : List (List ℕ) → List ℕ
body es = if nat_lt 3 (length es) then each_with_length es else all_but_last_with_length es

-- W: the number of elements up to three, and 0 above
abbrev pub count_of : ℕ → ℕ
count_of elements = if nat_lt 3 elements then 0 else elements

abbrev pub element_count : List (List ℕ) → ℕ
element_count es = count_of (length es)

-- Z, Y, W and N
abbrev pub header_byte : Bool → Bool → ℕ → Bool → ℕ
header_byte continues goes_on count starts =
    (if continues then 128 else 0) + (if goes_on then 64 else 0) + 16 * count + (if starts then 8 else 0)

abbrev pub aggregation_header : Payload → ℕ
aggregation_header p = header_byte p.continues p.goes_on (element_count p.elements) p.starts

unfoldable pub written : Payload → List ℕ
written p = aggregation_header p ∷ body p.elements

-- ---- reading

-- an element after its length, which isn't 0
unfoldable pub element_at : List ℕ → Option (List ℕ × List ℕ)
element_at bytes = leb_at bytes >>= λ n.
    if n.0 == 0 || nat_lt (length n.1) n.0 then None else Some (take n.0 n.1, drop n.0 n.1)

-- W = 0: each element after its length
unfoldable pub each_at : ℕ → List ℕ → Option (List (List ℕ))
each_at k [] = Some []
each_at zero (b ∷ bytes) = None
each_at (suc k) (b ∷ bytes) = element_at (b ∷ bytes) >>= λ e. each_at k e.1 >>= λ es. Some (e.0 ∷ es)

-- W = k + 1: up to k elements after their lengths, and one that takes the rest
unfoldable pub counted_at : ℕ → List ℕ → Option (List (List ℕ))
counted_at k [] = Some []
counted_at zero (b ∷ bytes) = Some ((b ∷ bytes) ∷ [])
counted_at (suc k) (b ∷ bytes) = element_at (b ∷ bytes) >>= λ e. counted_at k e.1 >>= λ es. Some (e.0 ∷ es)

abbrev pub elements_at : ℕ → List ℕ → Option (List (List ℕ))
elements_at zero bytes = each_at (length bytes) bytes
elements_at (suc k) bytes = counted_at k bytes

-- the next element under W, and the bytes after it; and the W for those bytes
abbrev pub next_at : ℕ → List ℕ → Option (List ℕ × List ℕ)
next_at w bytes = if w == 1 then Some (bytes, []) else element_at bytes

abbrev pub w_after : ℕ → ℕ
w_after zero = zero
w_after (suc zero) = suc zero
w_after (suc (suc k)) = suc k

-- Y counts only if all elements that W announces are present.
unfoldable pub payload_at : List ℕ → Option Payload
payload_at [] = None
payload_at (h ∷ bytes) = let w = bit_and h 0x30 / 16 in elements_at w bytes >>= λ es.
    Some (record { continues = has_bit 128 h; goes_on = has_bit 64 h && (w == 0 || length es == w); starts = has_bit 8 h; elements = es })

-- Z is clear: the packet may begin a frame
abbrev pub is_head : List ℕ → Bool
is_head [] = false
is_head (h ∷ bytes) = not (has_bit 128 h)
