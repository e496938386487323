-- The packets that were sent on a transport, and what feedback says about them.
use Rattle.std.specs.Prelude.{◌≡◌, ℕ, ◌+◌, ◌-◌, ◌%◌, ◌<◌, ◌≤◌, ◌&&◌, nat_lt, nat_le, if◌then◌else◌, List, [], ◌∷◌, ◌++◌, length, drop, slice_get, Option, Some, None, Result, Ok, Err}
use Rattle.std.specs.Option.{option_map}
use Rattle.codec_payload_feedback_transport.specs.declared.sent.PacketResult.{PacketResult}
use Rattle.codec_payload_feedback_transport.specs.declared.sent.SentPacketsError.{SentPacketsError}
use Rattle.codec_payload_feedback_transport.specs.declared.sent.SentPacketsError.TheVariants as errors

-- the number of the next packet, and when the last packets were sent, the latest one last: at most `limit` of them
pub record Sent : Type 0 where
  pub limit : ℕ
  pub next : ℕ
  pub times : List ℕ

pub record IsSent (s : Sent) : Type 0 where
  pub some : 1 ≤ s.limit
  pub few : s.limit ≤ 32768
  pub within : length s.times ≤ s.limit

abbrev pub none_sent : ℕ → Sent
none_sent limit = record { limit = limit; next = 0; times = [] }

abbrev pub sent_by : ℕ → Result Sent SentPacketsError
sent_by limit = if nat_le 1 limit && nat_le limit 32768 then Ok (none_sent limit) else Err errors.Limit

-- ---- sending

-- the last `limit` of the times and this one
abbrev pub one_more : ℕ → ℕ → List ℕ → List ℕ
one_more limit time times = drop (length times + 1 - limit) (times ++ time ∷ [])

-- the next packet is sent at this time
abbrev pub after_sent : ℕ → Sent → Sent
after_sent time s = record s { next = (s.next + 1) % 65536; times = one_more s.limit time s.times }

-- packets are sent at these times, the first one first
abbrev pub after_all : List ℕ → Sent → Sent
after_all [] s = s
after_all (time ∷ times) s = after_all times (after_sent time s)

-- ---- reading

-- how many packets were sent after the one with this number, modulo 2^16
abbrev pub back_of : ℕ → Sent → ℕ
back_of number s = (s.next + 65535 - number) % 65536

-- when the packet with this number was sent, if it is among the last ones
abbrev pub sent_at : ℕ → Sent → Option ℕ
sent_at number s = if nat_lt (back_of number s) (length s.times) then slice_get s.times (length s.times - 1 - back_of number s) else None

abbrev pub result_of : ℕ → Option ℕ → Sent → PacketResult
result_of number received s = record { number = number; sent = option_map (λ at. record { 0 = at }) (sent_at number s); received = received }

-- of each number from this one on: when the packet was sent, and what is reported about it
abbrev pub results_of : ℕ → List (Option ℕ) → Sent → List PacketResult
results_of number [] s = []
results_of number (received ∷ statuses) s = result_of number received s ∷ results_of ((number + 1) % 65536) statuses s

-- ---- theorems

-- a packet that was sent is known by its number while fewer than `limit` packets were sent after it
abbrev pub SentAreKnown : Type 0
SentAreKnown = (s : Sent) (time : ℕ) (later : List ℕ) → IsSent s → s.next < 65536 → length later < s.limit → sent_at s.next (after_all later (after_sent time s)) ≡ Some time
