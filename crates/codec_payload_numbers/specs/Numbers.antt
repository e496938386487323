-- Sequence numbers of 16 bits, extended to 64-bit numbers that continue upwards after a restart.
use Rattle.std.specs.Prelude.{◌≡◌, ℕ, ◌+◌, ◌-◌, ◌*◌, ◌/◌, ◌%◌, ◌^◌, ◌<◌, ◌≤◌, ◌==◌, ◌&&◌, nat_lt, nat_le, max, min}
use Rattle.std.specs.Prelude.{if◌then◌else◌, Bool, true, false, List, [], ◌∷◌, map, Option, Some, None, Result, Ok, Err, refl}
use Rattle.codec_payload_numbers.specs.declared.numbers.Extended.{Extended}
use Rattle.codec_payload_numbers.specs.declared.numbers.Extended.TheVariants as extended
use Rattle.codec_payload_numbers.specs.declared.numbers.WindowError.{WindowError}
use Rattle.codec_payload_numbers.specs.declared.numbers.WindowError.TheVariants as errors

-- the state of a numbering: the highest number so far; the low bits of the latest suspect packet, if no restart came since; the
-- windows. A packet may be less than `forward` ahead of the highest number, and at most `backward` behind it
pub record Numbering : Type 0 where
  pub greatest : Option ℕ
  pub suspect : Option ℕ
  pub forward : ℕ
  pub backward : ℕ

-- no packet arrived yet
abbrev pub no_numbers : ℕ → ℕ → Numbering
no_numbers forward backward = record { greatest = None; suspect = None; forward = forward; backward = backward }

-- a numbering with these windows, if they are in range
abbrev pub numbering_within : ℕ → ℕ → Result Numbering WindowError
numbering_within forward backward =
    if nat_lt 0 forward && nat_le forward 32768 then (if nat_lt backward forward then Ok (no_numbers forward backward) else Err errors.Backward) else Err errors.Forward

-- at least 65536
abbrev pub IsFar : Option ℕ → Type 0
IsFar None = Unit {0}
IsFar (Some g) = 65536 ≤ g

-- an invariant of every numbering: the windows do not meet, and numbers are far from 0
pub record IsNumbering (s : Numbering) : Type 0 where
  pub some : 0 < s.forward
  pub apart : s.forward + s.backward ≤ 65536
  pub order : s.backward < s.forward
  pub far : IsFar s.greatest

-- how far the next number with the low bits n is ahead of g, and how far the previous one is behind g
abbrev pub ahead : ℕ → ℕ → ℕ
ahead g n = (n + 65536 - g % 65536) % 65536

abbrev pub behind : ℕ → ℕ → ℕ
behind g n = (g + 65536 - n) % 65536

-- n comes right after the suspect number
abbrev pub follows_suspect : Option ℕ → ℕ → Bool
follows_suspect None n = false
follows_suspect (Some m) n = (m + 1) % 65536 == n

-- an answer with this number, if 64 bits hold it
abbrev pub fitting : (ℕ → Extended) → ℕ → Extended
fitting kind x = if nat_lt x (2 ^ 64) then kind x else extended.Spent

-- the number after a restart: n above the second multiple of 65536 above g. Packets that the sender sent before this one also
-- get numbers above g
abbrev pub is_restarting : ℕ → ℕ → ℕ
is_restarting g n = (g / 65536 + 2) * 65536 + n

-- the answer for a packet, if g is the highest number so far: the nearest number with the low bits n, if it is within the
-- windows. Otherwise the packet is suspect, unless it comes right after a suspect packet
abbrev pub answer_near : Numbering → ℕ → ℕ → Extended
answer_near s g n =
    if nat_lt (ahead g n) s.forward then fitting extended.Number (g + ahead g n)
    else (if nat_le (behind g n) s.backward then extended.Number (g - behind g n)
    else (if follows_suspect s.suspect n then fitting extended.Restarted (is_restarting g n) else extended.Suspect))

abbrev pub answer_by : Numbering → Option ℕ → ℕ → Extended
answer_by s None n = extended.Number (65536 + n)
answer_by s (Some g) n = answer_near s g n

-- the answer for the next packet
abbrev pub answer_for : Numbering → ℕ → Extended
answer_for s n = answer_by s s.greatest n

-- the answer for the first packet after an announced restart: above all numbers so far
abbrev pub answer_above : Option ℕ → ℕ → Extended
answer_above None n = extended.Number (65536 + n)
answer_above (Some g) n = fitting extended.Restarted (is_restarting g n)

abbrev pub answer_anew : Numbering → ℕ → Extended
answer_anew s n = answer_above s.greatest n

-- while no restart is detected, such a packet is suspect
abbrev pub without_restart : Extended → Extended
without_restart (extended.Number x) = extended.Number x
without_restart (extended.Restarted x) = extended.Suspect
without_restart extended.Suspect = extended.Suspect
without_restart extended.Spent = extended.Spent

-- the number, if it is within the windows
abbrev pub number_within : Extended → Option ℕ
number_within (extended.Number x) = Some x
number_within (extended.Restarted x) = None
number_within extended.Suspect = None
number_within extended.Spent = None

-- the lowest number since the latest restart
abbrev pub lesser : Option ℕ → ℕ → ℕ
lesser None x = x
lesser (Some l) x = min l x

abbrev pub lowest_with : Option ℕ → Extended → Option ℕ
lowest_with l (extended.Number x) = Some (lesser l x)
lowest_with l (extended.Restarted x) = Some x
lowest_with l extended.Suspect = l
lowest_with l extended.Spent = l

-- the number, if there is one
abbrev pub number_in : Extended → Option ℕ
number_in (extended.Number x) = Some x
number_in (extended.Restarted x) = Some x
number_in extended.Suspect = None
number_in extended.Spent = None

abbrev pub number_for : Numbering → ℕ → Option ℕ
number_for s n = number_in (answer_for s n)

abbrev pub greater : Option ℕ → ℕ → ℕ
greater None x = x
greater (Some g) x = max g x

-- the numbering after this answer: a packet within the windows leaves the suspect number alone
abbrev pub numbering_with : Numbering → Extended → ℕ → Numbering
numbering_with s (extended.Number x) n = record s { greatest = Some (greater s.greatest x) }
numbering_with s (extended.Restarted x) n = record s { greatest = Some (greater s.greatest x); suspect = None }
numbering_with s extended.Suspect n = record s { suspect = Some n }
numbering_with s extended.Spent n = s

abbrev pub numbering_after : Numbering → ℕ → Numbering
numbering_after s n = numbering_with s (answer_for s n) n

-- Runs

-- the numbers of packets, one after another
abbrev pub numbers_for : Numbering → List ℕ → List (Option ℕ)
numbers_for s [] = []
numbers_for s (n ∷ ns) = number_for s n ∷ numbers_for (numbering_after s n) ns

-- the sender has restarted
abbrev pub is_restart : Extended → Bool
is_restart (extended.Number x) = false
is_restart (extended.Restarted x) = true
is_restart extended.Suspect = false
is_restart extended.Spent = false

-- none of these packets is reported as a restart
abbrev pub GoOn : Numbering → List ℕ → Type 0
GoOn s [] = Unit {0}
GoOn s (n ∷ ns) = (is_restart (answer_for s n) ≡ false) × GoOn (numbering_after s n) ns

-- each true number is within the windows of the highest true number before it, and 64 bits hold its extended number
abbrev pub StayNear : ℕ → ℕ → ℕ → List ℕ → Type 0
StayNear forward backward g [] = Unit {0}
StayNear forward backward g (t ∷ ts) = (t < g + forward) × (g ≤ t + backward) × (t + 65536 < 2 ^ 64) × StayNear forward backward (max g t) ts

-- the low bits that a packet carries
abbrev pub low_bits : ℕ → ℕ
low_bits t = t % 65536

-- a true number minus the rounds before the first one, plus one round
abbrev pub moved : ℕ → ℕ → Option ℕ
moved first t = Some (t + 65536 - 65536 * (first / 65536))

-- if a sender does not restart, each packet gets its true number plus one constant, with any loss, repetition and order
abbrev pub AreTrueNumbers : Type 0
AreTrueNumbers =
    (forward backward : ℕ) → IsNumbering (no_numbers forward backward) → (first : ℕ) (ts : List ℕ) → first + 65536 < 2 ^ 64 → StayNear forward backward first ts
    → numbers_for (no_numbers forward backward) (map low_bits (first ∷ ts)) ≡ map (moved first) (first ∷ ts)

-- no restart is reported
abbrev pub NoneRestarts : Type 0
NoneRestarts =
    (forward backward : ℕ) → IsNumbering (no_numbers forward backward) → (first : ℕ) (ts : List ℕ) → first + 65536 < 2 ^ 64 → StayNear forward backward first ts
    → GoOn (no_numbers forward backward) (map low_bits (first ∷ ts))

-- the second packet was sent before the first
pub before-first : numbers_for (no_numbers 3000 1000) (0 ∷ 65535 ∷ 1 ∷ []) ≡ Some 65536 ∷ Some 65535 ∷ Some 65537 ∷ []
before-first = refl

-- the sender restarts
pub starts-is_restarting : numbers_for (no_numbers 3000 1000) (50000 ∷ 30000 ∷ 30001 ∷ 30002 ∷ []) ≡ Some 115536 ∷ None ∷ Some 226609 ∷ Some 226610 ∷ []
starts-is_restarting = refl

-- the sender restarts while packets from before the restart still arrive
pub beside-former : numbers_for (no_numbers 3000 1000) (50000 ∷ 30000 ∷ 50001 ∷ 30001 ∷ []) ≡ Some 115536 ∷ None ∷ Some 115537 ∷ Some 226609 ∷ []
beside-former = refl

-- a packet from elsewhere
pub from-elsewhere : numbers_for (no_numbers 3000 1000) (50000 ∷ 30000 ∷ 50001 ∷ 50002 ∷ []) ≡ Some 115536 ∷ None ∷ Some 115537 ∷ Some 115538 ∷ []
from-elsewhere = refl

-- the latest suspect packet counts
pub another-suspect : numbers_for (no_numbers 3000 1000) (50000 ∷ 30000 ∷ 10000 ∷ 30001 ∷ 30002 ∷ []) ≡ Some 115536 ∷ None ∷ None ∷ None ∷ Some 226610 ∷ []
another-suspect = refl

-- at the limits of the windows
pub at-borders : numbers_for (no_numbers 3000 1000) (50000 ∷ 52999 ∷ 55999 ∷ 51999 ∷ 51998 ∷ []) ≡ Some 115536 ∷ Some 118535 ∷ None ∷ Some 117535 ∷ None ∷ []
at-borders = refl

-- Senders that restart

-- every given number is above g
abbrev pub AllGivenAbove : ℕ → List (Option ℕ) → Type 0
AllGivenAbove g [] = Unit {0}
AllGivenAbove g (None ∷ numbers) = AllGivenAbove g numbers
AllGivenAbove g (Some x ∷ numbers) = (g < x) × AllGivenAbove g numbers

-- the packet with the number n is outside the windows of g, and comes right after a suspect packet
pub record StartsAnew (s : Numbering) (g n : ℕ) : Type 0 where
  pub greatest : s.greatest ≡ Some g
  pub ahead : s.forward ≤ ahead g n
  pub behind : s.backward < behind g n
  pub follows : follows_suspect s.suspect n ≡ true
  pub low : n < 65536
  pub fits : is_restarting g n < 2 ^ 64

-- after a restart every given number is above every number from before it
abbrev pub NeverMix : Type 0
NeverMix = (s : Numbering) (g n : ℕ) (ns : List ℕ) → IsNumbering s → StartsAnew s g n → AllGivenAbove g (numbers_for s (n ∷ ns))

-- 64 bits hold each number
abbrev pub FitAnew : ℕ → ℕ → List ℕ → Type 0
FitAnew up first [] = Unit {0}
FitAnew up first (t ∷ ts) = (t + up < 2 ^ 64 + first) × FitAnew up first ts

-- the numbers are the true numbers of the restarted sender, moved by one constant
abbrev pub moved_by : ℕ → ℕ → ℕ → Option ℕ
moved_by up first t = Some (t + up - first)

abbrev pub AreTrueAnew : Type 0
AreTrueAnew =
    (s : Numbering) (g first : ℕ) (ts : List ℕ) → IsNumbering s → StartsAnew s g (first % 65536) → FitAnew (is_restarting g (first % 65536)) first (first ∷ ts) → StayNear s.forward s.backward first ts
    → numbers_for s (map low_bits (first ∷ ts)) ≡ map (moved_by (is_restarting g (first % 65536)) first) (first ∷ ts)

-- The same for an announced restart

-- the numbering after the first packet, with the low bits n
abbrev pub begun_with : Numbering → ℕ → Numbering
begun_with s n = numbering_with s (answer_anew s n) n

-- every given number is above every number from before the restart
abbrev pub NeverMixAnew : Type 0
NeverMixAnew =
    (s : Numbering) (g n : ℕ) (ns : List ℕ) → IsNumbering s → s.greatest ≡ Some g → n < 65536 → is_restarting g n < 2 ^ 64
    → (number_in (answer_anew s n) ≡ Some (is_restarting g n)) × (g < is_restarting g n) × AllGivenAbove g (numbers_for (begun_with s n) ns)

-- the numbers are the true ones, moved by one constant
abbrev pub AreTrueBegun : Type 0
AreTrueBegun =
    (s : Numbering) (g first : ℕ) (ts : List ℕ) → IsNumbering s → s.greatest ≡ Some g → is_restarting g (first % 65536) < 2 ^ 64
    → FitAnew (is_restarting g (first % 65536)) first ts → StayNear s.forward s.backward first ts
    → numbers_for (begun_with s (first % 65536)) (map low_bits ts) ≡ map (moved_by (is_restarting g (first % 65536)) first) ts

-- the second packet of the new sender was sent before its first one: it is above all numbers from before the restart
pub before-first-anew : numbers_for (begun_with (record { greatest = Some 65500; suspect = None; forward = 3000; backward = 1000 }) 5) (65490 ∷ 6 ∷ []) ≡ Some 131026 ∷ Some 131078 ∷ []
before-first-anew = refl

-- the number of the suspect packet, if a packet with the number n confirms a restart: the highest number below n with its low
-- bits
abbrev pub kept_number : ℕ → ℕ → ℕ
kept_number n low = n - (n % 65536 + 65536 - low) % 65536
