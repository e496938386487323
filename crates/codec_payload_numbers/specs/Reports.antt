-- The fields of a receiver report (RFC 3550, sections 6.4.1, A.3 and A.8).
use Rattle.std.specs.Prelude.{◌≡◌, ℕ, ◌+◌, ◌-◌, ◌*◌, ◌/◌, ◌%◌, ◌^◌, ◌==◌, nat_le, min, if◌then◌else◌, Bool, true, false, Option, Some, None, refl}
use Rattle.std.specs.Option.{option_map}
use lib.IntN.{ℤ, pos, neg_ℤ}
use Rattle.codec_payload_base.specs.Time.{rebased}
use Rattle.codec_payload_numbers.specs.Numbers.{Numbering, answer_for, no_numbers, numbering_after}
use Rattle.codec_payload_numbers.specs.declared.numbers.Extended.{Extended}
use Rattle.codec_payload_numbers.specs.declared.numbers.Extended.TheVariants as extended
use Rattle.codec_payload_numbers.specs.declared.statistics.ReceptionReport.{ReceptionReport}

-- the packets of one sender: their numbering; the rates of both clocks; the first number since the latest restart, and how many
-- packets arrived since then; the counts of the previous report; the transit time of the latest packet; sixteen times the
-- jitter
pub record Reception : Type 0 where
  pub numbering : Numbering
  pub tick_rate : ℕ
  pub rate : ℕ
  pub first : ℕ
  pub received : ℕ
  pub expected_before : ℕ
  pub received_before : ℕ
  pub transit : Option ℕ
  pub jitter : ℕ

abbrev pub no_reception : Numbering → ℕ → ℕ → Reception
no_reception numbering tick_rate rate = record {
  numbering = numbering;
  tick_rate = tick_rate;
  rate = rate;
  first = 0;
  received = 0;
  expected_before = 0;
  received_before = 0;
  transit = None;
  jitter = 0;
}

-- the same clocks and windows, before the first packet
abbrev pub reception_anew : Reception → Reception
reception_anew r = no_reception (no_numbers r.numbering.forward r.numbering.backward) r.tick_rate r.rate

-- Packets arrive

-- a time of your clock, converted to the RTP clock
abbrev pub arrival_of : Reception → ℕ → ℕ
arrival_of r now = (rebased (record { numer = now; rate = r.tick_rate }) r.rate).numer % 2 ^ 32

-- the transit time of a packet (A.8)
abbrev pub transit_of : Reception → ℕ → ℕ → ℕ
transit_of r now timestamp = (arrival_of r now + (2 ^ 32 - timestamp)) % 2 ^ 32

-- the distance between two 32-bit times, the shorter way round
abbrev pub distance : ℕ → ℕ → ℕ
distance before after = min ((after + (2 ^ 32 - before)) % 2 ^ 32) ((before + (2 ^ 32 - after)) % 2 ^ 32)

-- sixteen times the jitter, with a sixteenth of the change, rounded (A.8)
abbrev pub jitter_after : ℕ → Option ℕ → ℕ → ℕ
jitter_after jitter None transit = jitter
jitter_after jitter (Some before) transit = jitter + distance before transit - (jitter + 8) / 16

-- how much the transit time of a packet differs from the transit time of the latest packet, the shorter way round
abbrev pub transit_change : Reception → ℕ → ℕ → Option ℕ
transit_change r now timestamp = option_map (λ latest. distance latest (transit_of r now timestamp)) r.transit

-- the packets start again with this number (A.1)
abbrev pub begun : Reception → ℕ → ℕ → Reception
begun r n transit = record r { first = n; received = 1; expected_before = 0; received_before = 0; transit = Some transit }

-- one more packet came
abbrev pub gone_on : Reception → ℕ → Reception
gone_on r transit = record r { received = (r.received + 1) % 2 ^ 64; transit = Some transit; jitter = jitter_after r.jitter r.transit transit }

abbrev pub counted_by : Option ℕ → Reception → ℕ → ℕ → Reception
counted_by None r n transit = begun r n transit
counted_by (Some greatest) r n transit = gone_on r transit

-- by the answer for the number; `before` is the highest number before this packet
abbrev pub observed_as : Extended → Option ℕ → Reception → ℕ → Reception
observed_as (extended.Number n) greatest r transit = counted_by greatest r n transit
observed_as (extended.Restarted n) greatest r transit = begun r n transit
observed_as extended.Suspect greatest r transit = r
observed_as extended.Spent greatest r transit = r

-- a packet with this number and RTP time arrived
abbrev pub observed : Reception → ℕ → ℕ → ℕ → Reception
observed r now number timestamp =
    observed_as (answer_for r.numbering number) r.numbering.greatest (record r { numbering = numbering_after r.numbering number }) (transit_of r now timestamp)

-- they begin again at a restart, with the packet that confirms it (A.1); its jitter is that of the new sender alone
abbrev pub reception_since : (has_restarted : Bool) → Reception → Reception
reception_since true r = reception_anew r
reception_since false r = r

-- Reports

-- from the first number to the highest
abbrev pub expected_of : ℕ → ℕ → ℕ
expected_of greatest first = (greatest - first + 1) % 2 ^ 64

-- the lost packets in 1/256 of the expected packets, rounded down, in 8 bits
abbrev pub fraction_of : ℕ → ℕ → ℕ
fraction_of expected received = if expected == 0 then 0 else min ((expected - received) * 256 / expected) 255

-- limited to 24 bits
abbrev pub lost_of : ℕ → ℕ → ℤ
lost_of expected received = if nat_le received expected then pos (min (expected - received) 8388607) else neg_ℤ (pos (min (received - expected) 8388608))

-- the highest number in the low 16 bits, and above it the number of wraps since the first packet
abbrev pub highest_of : ℕ → ℕ → ℕ
highest_of greatest first = (greatest - (first - first % 65536)) % 2 ^ 32

abbrev pub report_by : Reception → ℕ → ℕ → ReceptionReport
report_by r greatest expected = record {
  fraction_lost = fraction_of (expected - r.expected_before) (r.received - r.received_before);
  cumulative_lost = lost_of expected r.received;
  highest = highest_of greatest r.first;
  jitter = r.jitter / 16;
}

abbrev pub report_at : Reception → Option ℕ → Option ReceptionReport
report_at r None = None
report_at r (Some greatest) = Some (report_by r greatest (expected_of greatest r.first))

abbrev pub report_of : Reception → Option ReceptionReport
report_of r = report_at r r.numbering.greatest

abbrev pub reported_at : Reception → Option ℕ → Reception
reported_at r None = r
reported_at r (Some greatest) = record r { expected_before = expected_of greatest r.first; received_before = r.received }

abbrev pub reported : Reception → Reception
reported r = reported_at r r.numbering.greatest

-- numbers 50000 to 50003, one of them missing
pub one-lost : fraction_of 4 3 ≡ 64
one-lost = refl

-- the low 16 bits, and one wrap
pub one-wrap : highest_of 131073 131071 ≡ 65537
one-wrap = refl
