-- What the numbers of a viewer's stream are, over whole runs of calls.
--
-- Here numbers do not wrap: the number on the wire is the number modulo 65,536.
use Rattle.std.specs.Prelude.{◌≡◌, ℕ, suc, ◌+◌, ◌-◌, ◌%◌, ◌<◌, ◌≤◌, nat_lt, if◌then◌else◌, Bool, true, false, List, [], ◌∷◌, length}
use Rattle.codec_payload_sending_forward.specs.Numbers.{Numbers, after_packet, begun, below, is_in, is_too_old, next_number, placed, sent_as}
use Rattle.codec_payload_sending_forward.specs.declared.renumbering.Placed.TheVariants as answers

-- a call: a packet with this number of the source, which is wanted or is to be left out; a switch to another source, whose packet with
-- this number is sent next
pub data Call : Type 0 where
  packet : (number : ℕ) (wanted : Bool) → Call
  switch : (number : ℕ) → Call

-- The stretch since the last switch: the number of the source with which it began, and the number under which that was sent; the
-- highest number of the source so far; and the numbers of the packets that were left out ahead of all others
pub record Stretch : Type 0 where
  pub first : ℕ
  pub start : ℕ
  pub highest : ℕ
  pub gone : List ℕ

abbrev pub stretch : (first start : ℕ) → Stretch
stretch first start = record { first = first; start = start; highest = first; gone = [] }

-- the number sent: the number received, moved so that the first number becomes the start, less the packets left out before it
abbrev pub number_of : Stretch → ℕ → ℕ
number_of s n = s.start + (n - s.first) - below n s.gone

-- the number after the highest one
abbrev pub next_of : Stretch → ℕ
next_of s = s.start + (suc s.highest - s.first) - length s.gone

abbrev pub after_call : Call → Stretch → Stretch
after_call (packet n wanted) s =
    if nat_lt s.highest n then (if wanted then record s { highest = n } else record s { highest = n; gone = n ∷ s.gone }) else s
after_call (switch n) s = stretch n (next_of s)

-- the stretch after these calls, the latest first
abbrev pub stretch_after : (first start : ℕ) → List Call → Stretch
stretch_after first start [] = stretch first start
stretch_after first start (call ∷ before) = after_call call (stretch_after first start before)

-- the map after the same calls
abbrev pub call_of : Call → Numbers → Numbers
call_of (packet n wanted) m = after_packet n wanted m
call_of (switch n) m = begun n (next_number m)

abbrev pub map_after : (first start : ℕ) → List Call → Numbers
map_after first start [] = begun first (start % 65536)
map_after first start (call ∷ before) = call_of call (map_after first start before)

-- a number of the stretch up to the highest one, which was not left out: it has a number that is sent, or is kept free for it
pub record IsGiven (s : Stretch) (n : ℕ) : Type 0 where
  pub first : s.first ≤ n
  pub within : n ≤ s.highest
  pub kept : is_in n s.gone ≡ false

-- The number on the wire of each packet that has a place is that number of the stretch, and so is the number after the highest one
abbrev pub Renumbers : Type 0
Renumbers =
    (first start : ℕ) (calls : List Call)
    → ((n : ℕ) → is_too_old (map_after first start calls) n ≡ false
    → (is_in n (map_after first start calls).left_out ≡ is_in n (stretch_after first start calls).gone)
    × (is_in n (stretch_after first start calls).gone ≡ false → sent_as (map_after first start calls) n ≡ number_of (stretch_after first start calls) n % 65536))
    × (next_number (map_after first start calls) ≡ next_of (stretch_after first start calls) % 65536)

-- Each packet that is sent has the number of its place in the stretch
abbrev pub SendsGiven : Type 0
SendsGiven =
    (first start : ℕ) (calls : List Call) (n sent : ℕ) → placed (map_after first start calls) n true ≡ answers.Sent sent
    → (sent ≡ number_of (stretch_after first start calls) n % 65536) × IsGiven (stretch_after first start (packet n true ∷ calls)) n

-- Within a stretch a higher packet has a higher number. So no two packets share one. Between two packets are as many numbers as
-- between those of the source, less the packets left out: a loss is a gap of the same size
abbrev pub KeepsGaps : Type 0
KeepsGaps =
    (first start : ℕ) (calls : List Call) (a b : ℕ)
    → IsGiven (stretch_after first start calls) a → IsGiven (stretch_after first start calls) b → a < b
    → (number_of (stretch_after first start calls) a < number_of (stretch_after first start calls) b)
    × (number_of (stretch_after first start calls) b + (below b (stretch_after first start calls).gone - below a (stretch_after first start calls).gone)
    ≡ number_of (stretch_after first start calls) a + (b - a))

-- a number keeps its place while other packets come
abbrev pub KeepsNumbers : Type 0
KeepsNumbers =
    (first start : ℕ) (before : List Call) (m : ℕ) (wanted : Bool) (n : ℕ) → IsGiven (stretch_after first start before) n
    → IsGiven (stretch_after first start (packet m wanted ∷ before)) n
    × (number_of (stretch_after first start (packet m wanted ∷ before)) n ≡ number_of (stretch_after first start before) n)

-- at a switch the first packet has the number after the highest one so far, and no number before it is as high
abbrev pub SwitchesNext : Type 0
SwitchesNext =
    (first start : ℕ) (before : List Call) (m n : ℕ) → IsGiven (stretch_after first start before) n
    → (number_of (stretch_after first start (switch m ∷ before)) m ≡ next_of (stretch_after first start before))
    × (number_of (stretch_after first start before) n < next_of (stretch_after first start before))
