-- The numbers of a stream in which packets of FEC follow the frames.
use Rattle.std.specs.Prelude.{ℕ, ◌+◌, ◌-◌, ◌%◌, nat_le, nat_lt, if◌then◌else◌, Bool, true, false, List, [], ◌∷◌, length, take, get_or, Option, Some, None}
use Rattle.codec_payload_base.specs.Extended.{nearest}

-- packets of FEC: the number of the media that they follow, and how many they are
pub record Step : Type 0 where
  pub behind : ℕ
  pub count : ℕ

-- `first`: the number of the stream that the first packet gets. `highest`: the highest number of the media so far, counted without wrap.
-- `shift`: what is added to a number that is above all FEC. `floor`: numbers up to it are too old. `steps`: the FEC, the latest first
pub record Numbers : Type 0 where
  pub first : ℕ
  pub highest : Option ℕ
  pub shift : ℕ
  pub floor : ℕ
  pub steps : List Step

abbrev pub none_so_far : ℕ → Numbers
none_so_far first = record { first = first; highest = None; shift = 0; floor = 0; steps = [] }

-- a number of the media, counted without wrap; the first one is at least 65,536, so that others can be below it
abbrev pub counted : Option ℕ → ℕ → ℕ
counted None number = 65536 + number
counted (Some highest) number = nearest 65536 highest number

-- a number without the FEC that follows it
unfoldable pub without_later : ℕ → ℕ → List Step → ℕ
without_later n sent [] = sent
without_later n sent (x ∷ xs) = if nat_le n x.behind then without_later n ((sent + 65536 - x.count) % 65536) xs else sent

-- The number of the stream under which a packet is sent: that of the media, and one more for each packet of FEC below it
abbrev pub sent_by : Option ℕ → Numbers → ℕ → ℕ
sent_by None m n = m.first
sent_by (Some highest) m n = without_later n ((n + m.shift) % 65536) m.steps

abbrev pub sent_as : Numbers → ℕ → ℕ
sent_as m n = sent_by m.highest m n

-- FEC follows the number
abbrev pub is_behind : ℕ → List Step → Bool
is_behind n [] = false
is_behind n (x ∷ xs) = nat_le n x.behind

abbrev pub is_late : Numbers → ℕ → Bool
is_late m n = is_behind n m.steps

abbrev pub is_too_old : Numbers → ℕ → Bool
is_too_old m n = nat_le n m.floor

abbrev pub is_highest : Option ℕ → ℕ → Bool
is_highest None n = true
is_highest (Some highest) n = nat_lt highest n

-- the number after the highest one
abbrev pub next_by : Option ℕ → Numbers → ℕ
next_by None m = m.first
next_by (Some highest) m = (highest + 1 + m.shift) % 65536

abbrev pub next_number : Numbers → ℕ
next_number m = next_by m.highest m

-- after a packet of the media
abbrev pub noted_by : Option ℕ → ℕ → Numbers → Numbers
noted_by None n m = record m { highest = Some n; shift = (m.first + 65536 - n % 65536) % 65536 }
noted_by (Some highest) n m = if nat_lt highest n then record m { highest = Some n } else m

abbrev pub noted : ℕ → Numbers → Numbers
noted n m = noted_by m.highest n m

-- after packets of FEC behind the highest number. Of 64 steps the oldest is forgotten: numbers up to it are too old then
abbrev pub floor_after : ℕ → List Step → ℕ
floor_after floor steps = if nat_lt (length steps) 64 then floor else (get_or steps 63 (record { behind = 0; count = 0 })).behind

abbrev pub latest : List Step → List Step
latest steps = if nat_lt (length steps) 64 then steps else take 63 steps

abbrev pub followed_by : Option ℕ → ℕ → Numbers → Numbers
followed_by None count m = m
followed_by (Some highest) count m =
    record m { shift = (m.shift + count) % 65536; floor = floor_after m.floor m.steps; steps = record { behind = highest; count = count } ∷ latest m.steps }

abbrev pub followed : ℕ → Numbers → Numbers
followed count m = followed_by m.highest count m
