-- Which datagrams a history holds, whatever the order in which they were kept.
use Rattle.std.specs.Prelude.{◌≡◌, ◌⊎◌, ℕ, ◌+◌, ◌%◌, ◌<◌, ◌≤◌, ◌==◌, max, if◌then◌else◌, List, [], ◌∷◌, take, Option, Some, None, slice_get}
use Rattle.codec_payload_sending_history.specs.Histories.{Keeps, below}
use Rattle.codec_payload_sending_history.specs.Packets.{Past, Sent, number_in}
use Rattle.codec_payload_sending_history.specs.declared.retransmission.Kept.{Kept}
use Rattle.codec_payload_sending_history.specs.declared.retransmission.Kept.TheVariants as answers

-- the bytes of a packet; a place without a packet has none
abbrev pub some_bytes : List ℕ → Option (List ℕ)
some_bytes [] = None
some_bytes (b ∷ bytes) = Some (b ∷ bytes)

abbrev pub bytes_there : Option Sent → Option (List ℕ)
bytes_there None = None
bytes_there (Some p) = some_bytes p.bytes

-- the datagram with that number, if the history holds it
abbrev pub held : Past → ℕ → Option (List ℕ)
held h number = bytes_there (slice_get h.packets (below h number))

-- Datagrams with their true numbers, which do not wrap; the latest comes first

abbrev pub greatest_of : List (ℕ × List ℕ) → ℕ
greatest_of [] = 0
greatest_of (x ∷ xs) = max x.0 (greatest_of xs)

-- the latest datagram with that number
abbrev pub latest : ℕ → List (ℕ × List ℕ) → Option (List ℕ)
latest n [] = None
latest n (x ∷ xs) = if x.0 == n then Some x.1 else latest n xs

-- a number is less than `limit` below the greatest one before it, or less than 32,768 above it
abbrev pub IsNear : ℕ → ℕ → List (ℕ × List ℕ) → Type 0
IsNear limit n [] = Unit {0}
IsNear limit n (x ∷ xs) = (greatest_of (x ∷ xs) < n + limit) × (n < greatest_of (x ∷ xs) + 32768)

-- a history keeps them, the last of the list first
abbrev pub KeepsNear : Past → List (ℕ × List ℕ) → Past → Type 0
KeepsNear h [] t = t ≡ h
KeepsNear h (x ∷ xs) t = (mid : Past) × (kept : Kept) × KeepsNear h xs mid × (number_in x.1 ≡ Some (x.0 % 65536)) × IsNear h.limit x.0 xs × Keeps mid x.1 kept t

-- with numbers missing, in any order and any number of times: a history that was empty holds the latest datagram of each of the
-- last `limit` numbers, and none where none was kept
abbrev pub HoldsLatest : Type 0
HoldsLatest =
    (h t : Past) (xs : List (ℕ × List ℕ)) (n : ℕ) → 1 ≤ h.limit → h.limit ≤ 32768 → h.packets ≡ [] → KeepsNear h xs t
    → n ≤ greatest_of xs → greatest_of xs < n + h.limit → held t (n % 65536) ≡ latest n xs

-- Packets in order

-- a packet whose number follows the highest one, or the first packet, becomes the newest of the last `limit` packets
abbrev pub KeepsNext : Type 0
KeepsNext =
    (h t : Past) (datagram : List ℕ) (kept : Kept) (number : ℕ) → 1 ≤ h.limit → h.limit ≤ 32768 → h.newest < 65536 → number_in datagram ≡ Some number
    → (number ≡ (h.newest + 1) % 65536) ⊎ (h.packets ≡ []) → Keeps h datagram kept t
    → (kept ≡ answers.Stored) × (t ≡ record h { newest = number; refused = None; packets = take h.limit (record { bytes = datagram; resent = None } ∷ h.packets) })
