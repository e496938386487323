-- The RTP times of a viewer's stream.
use Rattle.std.specs.Prelude.{◌≡◌, ℕ, ◌+◌, ◌-◌, ◌%◌, ◌<◌, ◌≤◌, nat_lt, if◌then◌else◌, max, List, [], ◌∷◌}
use Rattle.codec_payload_sending_forward.specs.declared.times.Retiming.{Retiming}

-- the later of two times that are less than 2^31 ticks apart
abbrev pub later : ℕ → ℕ → ℕ
later a b = if nat_lt ((b + (4294967296 - a)) % 4294967296) 2147483648 then b else a

abbrev pub begun_times : (time sent : ℕ) → Retiming
begun_times time sent = record { offset = (sent + (4294967296 - time)) % 4294967296; highest = sent }

abbrev pub time_as : Retiming → ℕ → ℕ
time_as m time = (time + m.offset) % 4294967296

abbrev pub after_time : ℕ → Retiming → Retiming
after_time time m = record m { highest = later m.highest (time_as m time) }

abbrev pub switched_times : (time ticks : ℕ) → Retiming → Retiming
switched_times time ticks m = begun_times time ((m.highest + ticks) % 4294967296)

-- ---- whole runs, in times that do not wrap

-- a call: a packet with this time of the source is sent; a switch to another source, whose first packet has this time, after the given
-- number of ticks
pub data TimeCall : Type 0 where
  sends : (time : ℕ) → TimeCall
  switches : (time ticks : ℕ) → TimeCall

-- the stretch since the last switch: the time of the source with which it began, the time that this was sent with, and the highest
-- time that was sent
pub record Timeline : Type 0 where
  pub first : ℕ
  pub start : ℕ
  pub highest : ℕ

-- the time sent: the time received, moved so that the first time becomes the start
abbrev pub time_of : Timeline → ℕ → ℕ
time_of s time = s.start + time - s.first

abbrev pub after_call : TimeCall → Timeline → Timeline
after_call (sends time) s = record s { highest = max s.highest (time_of s time) }
after_call (switches time ticks) s = record { first = time; start = s.highest + ticks; highest = s.highest + ticks }

abbrev pub timeline_after : (first start : ℕ) → List TimeCall → Timeline
timeline_after first start [] = record { first = first; start = start; highest = start }
timeline_after first start (call ∷ before) = after_call call (timeline_after first start before)

abbrev pub call_of : TimeCall → Retiming → Retiming
call_of (sends time) m = after_time (time % 4294967296) m
call_of (switches time ticks) m = switched_times (time % 4294967296) ticks m

abbrev pub times_after : (first start : ℕ) → List TimeCall → Retiming
times_after first start [] = begun_times (first % 4294967296) (start % 4294967296)
times_after first start (call ∷ before) = call_of call (times_after first start before)

-- a packet's time is less than 2^31 ticks from the highest time before it
abbrev pub IsNear : TimeCall → Timeline → Type 0
IsNear (sends time) s = (s.first ≤ s.start + time) × (s.highest < time_of s time + 2147483648) × (time_of s time < s.highest + 2147483648)
IsNear (switches time ticks) s = Unit {0}

abbrev pub AreNear : (first start : ℕ) → List TimeCall → Type 0
AreNear first start [] = Unit {0}
AreNear first start (call ∷ before) = AreNear first start before × IsNear call (timeline_after first start before)

-- the times on the wire are those of the stretch, modulo 2^32, and so is the highest one
abbrev pub Retimes : Type 0
Retimes =
    (first start : ℕ) (calls : List TimeCall) → AreNear first start calls
    → ((time : ℕ) → (timeline_after first start calls).first ≤ (timeline_after first start calls).start + time
    → time_as (times_after first start calls) (time % 4294967296) ≡ time_of (timeline_after first start calls) time % 4294967296)
    × ((times_after first start calls).highest ≡ (timeline_after first start calls).highest % 4294967296)

-- the times that were sent, the latest first
abbrev pub times_sent : (first start : ℕ) → List TimeCall → List ℕ
times_sent first start [] = []
times_sent first start (sends time ∷ before) = time_of (timeline_after first start before) time ∷ times_sent first start before
times_sent first start (switches time ticks ∷ before) = time_of (timeline_after first start (switches time ticks ∷ before)) time ∷ times_sent first start before

-- each is at most that
abbrev pub AreAtMost : ℕ → List ℕ → Type 0
AreAtMost most [] = Unit {0}
AreAtMost most (time ∷ times) = (time ≤ most) × AreAtMost most times

-- at a switch the time goes on by the ticks from the highest time so far, so it is not below any time that was sent
abbrev pub NeverGoesBack : Type 0
NeverGoesBack =
    (first start : ℕ) (before : List TimeCall) (time ticks : ℕ)
    → AreAtMost (timeline_after first start before).highest (times_sent first start before)
    × (time_of (timeline_after first start (switches time ticks ∷ before)) time ≡ (timeline_after first start before).highest + ticks)
