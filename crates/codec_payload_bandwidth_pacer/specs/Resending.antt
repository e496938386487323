-- How much may be retransmitted to a viewer.
use Rattle.std.specs.Prelude.{ℕ, ◌+◌, ◌-◌, ◌*◌, ◌^◌, ◌==◌, ◌&&◌, min, max, nat_le, nat_lt, if◌then◌else◌, Bool, List, Option, Some, None, Result, Ok, Err, is_some, replicate, slice_set}
use Rattle.std.specs.List.{position}
use Rattle.codec_payload_bandwidth_pacer.specs.declared.resends.Held.{Held}
use Rattle.codec_payload_bandwidth_pacer.specs.declared.resends.ResendRefused.{ResendRefused}
use Rattle.codec_payload_bandwidth_pacer.specs.declared.resends.ResendRefused.TheVariants.{TooSoon, Share, TooMany}
use Rattle.codec_payload_bandwidth_pacer.specs.declared.resends.ResendSettings.{ResendSettings}

-- `credit` in thousandths of a byte. A number is in `held` until it may be retransmitted again
pub record Limit : Type 0 where
  pub settings : ResendSettings
  pub at : ℕ
  pub began : ℕ
  pub sent_before : ℕ
  pub sent_now : ℕ
  pub credit : ℕ
  pub held : List Held

abbrev pub new_limit : ResendSettings → Limit
new_limit settings =
    record { settings = settings; at = 0; began = 0; sent_before = 0; sent_now = 0; credit = 0; held = replicate 128 (record { number = 0; until = 0 }) }

-- ---- time

-- the bytes that count
abbrev pub recent : Limit → ℕ
recent l = l.sent_before + l.sent_now

abbrev pub half_of : ResendSettings → ℕ
half_of s = max s.half_window 1

-- no more than the share of these bytes
abbrev pub bounded_credit : ℕ → ℕ → ℕ → ℕ
bounded_credit share bytes credit = min credit (share * bytes)

-- another half window begins
abbrev pub next_half : Limit → Limit
next_half l =
    record l { began = l.began + half_of l.settings; sent_before = l.sent_now; sent_now = 0; credit = bounded_credit l.settings.share l.sent_now l.credit }

-- all that was sent is longer ago
abbrev pub restarted : Limit → Limit
restarted l = record l { began = l.at; sent_before = 0; sent_now = 0; credit = bounded_credit l.settings.share 0 l.credit }

abbrev pub rolled : ℕ → Limit → Limit
rolled elapsed l =
    if nat_lt elapsed (half_of l.settings) then l
    else (if nat_lt (elapsed - half_of l.settings) (half_of l.settings) then next_half l else restarted l)

abbrev pub passed : ℕ → Limit → Limit
passed now l = rolled (max l.at now - l.began) (record l { at = max l.at now })

-- ---- sending

abbrev pub with_sent : ℕ → Limit → Limit
with_sent size l =
    record l {
      sent_now = min (l.sent_now + size) (2 ^ 64 - 1);
      credit = bounded_credit l.settings.share (l.sent_before + min (l.sent_now + size) (2 ^ 64 - 1)) (l.credit + l.settings.share * size);
    }

abbrev pub after_sent : ℕ → ℕ → Limit → Limit
after_sent now size l = with_sent size (passed now l)

-- ---- retransmissions

abbrev pub holds : ℕ → ℕ → Held → Bool
holds now number one = one.number == number && nat_lt now one.until

abbrev pub is_free : ℕ → Held → Bool
is_free now one = nat_le one.until now

-- a number was retransmitted less than a round trip ago
abbrev pub is_held : ℕ → ℕ → List Held → Bool
is_held now number held = is_some (position (holds now number) held)

-- the first place of a retransmission that is at least a round trip ago
abbrev pub free_place : ℕ → List Held → Option ℕ
free_place now held = position (is_free now) held

abbrev pub answer_by : Option ℕ → Result Unit ResendRefused
answer_by None = Err TooMany
answer_by (Some place) = Ok tt

abbrev pub answer_at : ℕ → ℕ → Limit → Result Unit ResendRefused
answer_at number size l =
    if is_held l.at number l.held then Err TooSoon
    else (if nat_lt l.credit (size * 1000) then Err Share else answer_by (free_place l.at l.held))

abbrev pub answer_to : ℕ → ℕ → ℕ → Limit → Result Unit ResendRefused
answer_to now number size l = answer_at number size (passed now l)

abbrev pub until_of : ℕ → Limit → ℕ
until_of round_trip l = min (l.at + round_trip) (2 ^ 64 - 1)

abbrev pub with_held : ℕ → ℕ → ℕ → Option ℕ → Limit → Limit
with_held number size round_trip None l = l
with_held number size round_trip (Some place) l =
    record l { credit = l.credit - size * 1000; held = slice_set l.held place (record { number = number; until = until_of round_trip l }) }

abbrev pub resent_at : ℕ → ℕ → ℕ → Limit → Limit
resent_at number size round_trip l =
    if is_held l.at number l.held then l
    else (if nat_lt l.credit (size * 1000) then l else with_held number size round_trip (free_place l.at l.held) l)

abbrev pub after_resend : ℕ → ℕ → ℕ → ℕ → Limit → Limit
after_resend now number size round_trip l = resent_at number size round_trip (passed now l)
