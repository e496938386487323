-- The numbers of a viewer's stream.
use Rattle.std.specs.Prelude.{◌≡◌, ℕ, suc, ◌+◌, ◌-◌, ◌%◌, ◌<◌, ◌≤◌, ◌==◌, ◌||◌, nat_lt, nat_le, if◌then◌else◌, Bool, false, List, [], ◌∷◌, length, take, get_or}
use Rattle.codec_payload_sending_forward.specs.declared.renumbering.Placed.{Placed}
use Rattle.codec_payload_sending_forward.specs.declared.renumbering.Placed.TheVariants as answers

-- Lists of numbers, the highest first

-- how many of them are below that number, and above it
abbrev pub below : ℕ → List ℕ → ℕ
below n [] = 0
below n (x ∷ xs) = if nat_lt x n then suc (below n xs) else below n xs

abbrev pub above : ℕ → List ℕ → ℕ
above n [] = 0
above n (x ∷ xs) = if nat_lt n x then suc (above n xs) else above n xs

-- that number is one of them
abbrev pub is_in : ℕ → List ℕ → Bool
is_in n [] = false
is_in n (x ∷ xs) = (x == n) || is_in n xs

-- each is below the one in front of it
abbrev pub AllBelow : ℕ → List ℕ → Type 0
AllBelow n [] = Unit {0}
AllBelow n (x ∷ xs) = (x < n) × AllBelow n xs

abbrev pub Falls : List ℕ → Type 0
Falls [] = Unit {0}
Falls (x ∷ xs) = AllBelow x xs × Falls xs

-- ---- the map

-- The map: what is added to a number, modulo 65,536; the lowest number with a place; the highest number so far; and the numbers of
-- the packets that were left out, the highest first
pub record Numbers : Type 0 where
  pub offset : ℕ
  pub first : ℕ
  pub highest : ℕ
  pub left_out : List ℕ

-- the source's packet `number` is sent under the number `sent`
abbrev pub begun : (number sent : ℕ) → Numbers
begun number sent = record { offset = (sent + 65536 - number % 65536) % 65536; first = number; highest = number; left_out = [] }

-- the number received plus the offset, less the packets left out before it
abbrev pub sent_as : Numbers → ℕ → ℕ
sent_as m n = (n + m.offset + 65536 - below n m.left_out) % 65536

-- the number after the highest one
abbrev pub next_number : Numbers → ℕ
next_number m = (suc m.highest + m.offset + 65536 - length m.left_out) % 65536

-- a number below the lowest one with a place, or 32,768 or more below the highest one
abbrev pub is_too_old : Numbers → ℕ → Bool
is_too_old m n = nat_lt n m.first || nat_le 32768 (m.highest - n)

-- what is answered for a packet that is wanted, or is to be left out
abbrev pub placed : Numbers → ℕ → Bool → Placed
placed m n wanted =
    if is_too_old m n then answers.TooOld
    else (if is_in n m.left_out then answers.LeftOut
    else (if wanted then answers.Sent (sent_as m n)
    else (if nat_lt m.highest n then answers.LeftOut
    else answers.Unused (sent_as m n))))

-- the packet is left out, above all others; the lowest of 4,096 is forgotten, and numbers up to it have no place any more
abbrev pub without_lowest : ℕ → Numbers → Numbers
without_lowest n m = record { offset = (m.offset + 65535) % 65536; first = suc (get_or m.left_out 4095 0); highest = n; left_out = n ∷ take 4095 m.left_out }

abbrev pub closed : ℕ → Numbers → Numbers
closed n m = if nat_lt (length m.left_out) 4096 then record m { highest = n; left_out = n ∷ m.left_out } else without_lowest n m

-- the map after a packet
abbrev pub after_packet : ℕ → Bool → Numbers → Numbers
after_packet n wanted m =
    if is_too_old m n then m
    else (if nat_lt m.highest n then (if wanted then record m { highest = n } else closed n m) else m)

-- a packet of the source that came or was skipped is sent under that number
pub record HasNumber (m : Numbers) (sent number : ℕ) : Type 0 where
  pub within : number ≤ m.highest
  pub young : is_too_old m number ≡ false
  pub kept : is_in number m.left_out ≡ false
  pub is : sent_as m number ≡ sent

-- the number that has this place among the numbers that are not left out
abbrev pub source_at : ℕ → List ℕ → ℕ
source_at place [] = place
source_at place (x ∷ xs) = if nat_lt x (place + suc (length xs)) then place + suc (length xs) else source_at place xs
