-- Noted times: the RTP times of every fourth or every eighth of the latest numbers, and the sender before the latest restart.
use Rattle.std.specs.Prelude.{◌≡◌, ℕ, ◌+◌, ◌-◌, ◌*◌, ◌/◌, ◌%◌, ◌^◌, ◌==◌, ◌&&◌, not, nat_le, nat_lt, min, if◌then◌else◌, zero, suc, Bool, false, List, [], ◌∷◌, ◌++◌, drop, length, Option, Some, None, IfSome, ⊤, slice_index_or, slice_set}
use Rattle.std.specs.Option.{option_map}
use Rattle.codec_payload_base.specs.declared.wire.RtpHeader.{RtpHeader}
use Rattle.codec_payload_numbers.specs.declared.noted_times.FormerSender.{FormerSender}
use Rattle.codec_payload_numbers.specs.declared.noted_times.NotedTime.{NotedTime}

-- every fourth number is noted for a backward window of up to 1,000 numbers, every eighth for a wider one; 256 or 640 times are
-- noted
abbrev pub spacing_of : ℕ → ℕ
spacing_of backward = if nat_le backward 1000 then 4 else 8

abbrev pub places_for : ℕ → ℕ
places_for backward = if nat_le backward 1000 then 256 else 640

-- the index of a number among those that are noted
abbrev pub index_of : ℕ → ℕ → ℕ
index_of backward n = n / spacing_of backward

abbrev pub is_noted : ℕ → ℕ → Bool
is_noted backward n = n % spacing_of backward == 0

-- the noted times: the backward window of the numbers; an index; the RTP times of the number with this index and of those with
-- the next ones, as far as packets with these numbers arrived; the sender before the latest restart, if that restart was found
pub record Noted : Type 0 where
  pub backward : ℕ
  pub first : ℕ
  pub times : List (Option ℕ)
  pub former : Option FormerSender

abbrev pub none_noted : ℕ → Noted
none_noted backward = record { backward = backward; first = 0; times = []; former = None }

-- the noted times, and for how many there is memory
pub record Noting : Type 0 where
  pub noted : Noted
  pub room : ℕ

-- the noted time of the number with this index
abbrev pub time_at : ℕ → Noted → Option ℕ
time_at index s = if nat_le s.first index then slice_index_or s.times (index - s.first) None else None

abbrev pub is_another : Option ℕ → ℕ → Bool
is_another None time = false
is_another (Some noted) time = not (noted == time)

-- its number is noted with another time
abbrev pub contradicts : Noted → NotedTime → Bool
contradicts s x = is_noted s.backward x.number && is_another (time_at (index_of s.backward x.number) s) x.time

-- one more time, which takes the place of the first if there are `most`
abbrev pub pushed_time : ℕ → Option ℕ → List (Option ℕ) → List (Option ℕ)
pushed_time most time times = (if nat_lt (length times) most then times else drop 1 times) ++ (time ∷ [])

-- the next indices get no time
abbrev pub skipped : ℕ → ℕ → List (Option ℕ) → List (Option ℕ)
skipped most zero times = times
skipped most (suc gap) times = pushed_time most None (skipped most gap times)

-- a gap as long as the list leaves none of the earlier times
abbrev pub gone_on : ℕ → ℕ → List (Option ℕ) → List (Option ℕ)
gone_on most gap times = if nat_lt gap most then skipped most gap times else []

-- the time of an index after all others; the indices between have none
abbrev pub with_last : ℕ → List (Option ℕ) → Noted → Noted
with_last index times s = record s { first = index - (length times - 1); times = times }

abbrev pub appended_to : ℕ → ℕ → ℕ → Noted → Noted
appended_to most index time s = with_last index (pushed_time most (Some time) (gone_on most (index - s.first - length s.times) s.times)) s

-- the time of this index; a number below the first index is not noted
abbrev pub noted_at : ℕ → ℕ → ℕ → Noted → Noted
noted_at most index time s =
    if nat_lt index s.first then s
    else (if nat_lt (index - s.first) (length s.times) then record s { times = slice_set s.times (index - s.first) (Some time) }
    else appended_to most index time s)

abbrev pub noted_with : Noted → NotedTime → Noted
noted_with s x = if is_noted s.backward x.number then noted_at (places_for s.backward) (index_of s.backward x.number) x.time s else s

-- how many times are held at most until this index has its time
abbrev pub room_for : ℕ → ℕ → Noted → ℕ
room_for index most s = if nat_lt (index - s.first) (length s.times + most) then min (index - s.first) (most - 1) + 1 else 1

abbrev pub room_for_time : Noted → NotedTime → ℕ
room_for_time s x =
    if is_noted s.backward x.number && nat_le s.first (index_of s.backward x.number) then room_for (index_of s.backward x.number) (places_for s.backward) s else 0

-- the time of each index from this one on is that of its number by `time_of`
abbrev pub AreTimesFrom : (ℕ → ℕ) → ℕ → ℕ → List (Option ℕ) → Type 0
AreTimesFrom time_of spacing index [] = ⊤
AreTimesFrom time_of spacing index (time ∷ times) = IfSome time (λ t. t ≡ time_of (index * spacing)) × AreTimesFrom time_of spacing (index + 1) times

-- each noted time is that of its number
abbrev pub AreTimesOf : (ℕ → ℕ) → Noted → Type 0
AreTimesOf time_of s = AreTimesFrom time_of (spacing_of s.backward) s.first s.times × (s.former ≡ None)

-- the number is below the first one, and the RTP time is not from 5 seconds before the first one's up to that time, modulo 2^32
abbrev pub is_untimely : ℕ → Option NotedTime → NotedTime → Bool
is_untimely rate None x = false
is_untimely rate (Some first) x = nat_lt x.number first.number && nat_lt (5 * rate) ((first.time + 2 ^ 32 - x.time) % 2 ^ 32)

-- the first packet, after one more
abbrev pub first_or : Option NotedTime → NotedTime → Option NotedTime
first_or None x = Some x
first_or (Some first) x = Some first

-- The sender before a restart

-- how many ticks a time is after an earlier one, modulo 2^32
abbrev pub ticks_between : ℕ → ℕ → ℕ
ticks_between earlier later = (later + 2 ^ 32 - earlier) % 2 ^ 32

-- the latest number that is noted, with its time; an index and a number have 64 bits
abbrev pub latest_noted : Noted → Option NotedTime
latest_noted s =
    option_map (λ (time : ℕ). record { number = (s.first + (length s.times - 1)) % 2 ^ 64 * spacing_of s.backward % 2 ^ 64; time = time })
    (slice_index_or s.times (length s.times - 1) None)

-- the sender whose times are noted, by its highest number and its latest noted one, each modulo 2^16
abbrev pub sender_of : Noted → ℕ → Option FormerSender
sender_of s highest = option_map (λ (latest : NotedTime). record { highest = highest % 65536; number = latest.number % 65536; time = latest.time }) (latest_noted s)

-- the number is at or below another one, both modulo 2^16
abbrev pub is_at_or_below : ℕ → ℕ → Bool
is_at_or_below low other = nat_lt ((other + 65536 - low) % 65536) 32768

-- A packet goes with the former sender, by its latest noted number and time. Its number is not above that number, and its time is from
-- 10 seconds before up to that time. Or its number is above, and its time is after that time and before the new sender's first time:
-- by at most 10 seconds for numbers up to the highest one, and half a second for those above
abbrev pub goes_with : ℕ → FormerSender → ℕ → ℕ → ℕ → Bool
goes_with rate former begins low time =
    if is_at_or_below low former.number then nat_le (ticks_between time former.time) (10 * rate)
    else nat_le (ticks_between former.time time) (if is_at_or_below low former.highest then 10 * rate else rate / 2)
    && nat_lt (ticks_between former.time time) (ticks_between former.time begins)

-- the latest noted time of the new sender is more than 3 seconds after that of its first packet, and less than 2^31 ticks
abbrev pub has_gone_on : ℕ → NotedTime → Option NotedTime → Bool
has_gone_on rate begins None = false
has_gone_on rate begins (Some latest) =
    nat_le begins.number latest.number && (nat_lt (3 * rate) (ticks_between begins.time latest.time) && nat_lt (ticks_between begins.time latest.time) (2 ^ 31))

-- A packet is of the former sender: it goes with that sender, and the new sender has not gone on by 3 seconds. The new sender's first
-- time is not from 20 seconds before the former's latest noted time up to it, since then times do not distinguish the two
abbrev pub is_of_former_by : ℕ → Noted → Option FormerSender → Option NotedTime → ℕ → ℕ → Bool
is_of_former_by rate s None begins low time = false
is_of_former_by rate s (Some former) None low time = false
is_of_former_by rate s (Some former) (Some begins) low time =
    nat_lt (20 * rate) (ticks_between begins.time former.time) && (not (has_gone_on rate begins (latest_noted s)) && goes_with rate former begins.time low time)

abbrev pub is_of_former : ℕ → Noted → Option NotedTime → ℕ → ℕ → Bool
is_of_former rate s begins low time = is_of_former_by rate s s.former begins low time

-- how many numbers and how many ticks the later header is after the earlier one, modulo 2^16 and 2^32
abbrev pub numbers_after : RtpHeader → RtpHeader → ℕ
numbers_after earlier later = (later.sequence_number + 65536 - earlier.sequence_number) % 65536

abbrev pub ticks_after : RtpHeader → RtpHeader → ℕ
ticks_after earlier later = (later.timestamp + 2 ^ 32 - earlier.timestamp) % 2 ^ 32

-- the later header is 1 to 16 numbers after the earlier one, and at most two seconds of the RTP clock
abbrev pub is_soon_after : ℕ → RtpHeader → RtpHeader → Bool
is_soon_after rate earlier later =
    nat_le 1 (numbers_after earlier later) && (nat_le (numbers_after earlier later) 16 && nat_le (ticks_after earlier later) (2 * rate))
