-- Reports on telephone events (RFC 4733, section 2.3) as bytes, and the units of their durations.
use Rattle.std.specs.Prelude.{bit_and, ◌≡◌, ℕ, ◌+◌, ◌*◌, ◌/◌, ◌%◌, ◌&&◌, ◌==◌, nat_le, nat_lt, List, [], ◌∷◌, ◌++◌, length, Option, Some, None, Bool, true, false, if◌then◌else◌, Result, Ok, Err, ⊤, codes}
use Rattle.codec_payload_base.specs.declared.error.PacketError.{PacketError}
use Rattle.codec_payload_base.specs.declared.error.PacketError.TheVariants as faults
use Rattle.codec_payload_base.specs.declared.interface.CodecExtra.{CodecExtra}
use Rattle.codec_payload_base.specs.declared.interface.CodecExtra.TheVariants as extras
use Rattle.codec_payload_base.specs.declared.interface.TelephoneEvent.{TelephoneEvent}

-- units of a clock in nanoseconds, and nanoseconds in units, each to the nearest
abbrev pub nanoseconds_of : ℕ → ℕ → ℕ
nanoseconds_of units rate = (units * 1000000000 + rate / 2) / rate

abbrev pub units_of : ℕ → ℕ → ℕ
units_of nanoseconds rate = (nanoseconds * rate + 500000000) / 1000000000

-- the report of four bytes: the event, a byte with E, R and the volume, and the duration in units
abbrev pub report : ℕ → ℕ → ℕ → ℕ → ℕ → TelephoneEvent
report rate event flags high low = record { event = event; end = nat_le 128 flags; volume = flags % 64; duration = nanoseconds_of (high * 256 + low) rate }

-- the report of the first four bytes, if they are there
abbrev pub report_of : List ℕ → ℕ → Option TelephoneEvent
report_of (event ∷ flags ∷ high ∷ low ∷ rest) rate = Some (report rate event flags high low)
report_of bytes rate = None

-- the four bytes of a report, R clear, if its duration fits two of them
abbrev pub bytes_of_report : TelephoneEvent → ℕ → Option (List ℕ)
bytes_of_report e rate =
    if nat_le (units_of e.duration rate) 65535
    then Some (e.event ∷ ((if e.end then 128 else 0) + e.volume % 64) ∷ (units_of e.duration rate / 256) ∷ (units_of e.duration rate % 256) ∷ [])
    else None

-- the reports of a payload, in order
abbrev pub reports_of : List ℕ → ℕ → List TelephoneEvent
reports_of (event ∷ flags ∷ high ∷ low ∷ rest) rate = report rate event flags high low ∷ reports_of rest rate
reports_of bytes rate = []

-- one or more whole reports, and nothing else
abbrev pub are_reports : List ℕ → Bool
are_reports bytes = nat_lt 0 (length bytes) && (length bytes % 4 == 0)

-- the first report of a payload that is one or more whole ones
abbrev pub first_report : List ℕ → ℕ → Option TelephoneEvent
first_report bytes rate = if are_reports bytes then report_of bytes rate else None

-- the first four bytes without the reserved bit
abbrev pub without_reserved : List ℕ → List ℕ
without_reserved (event ∷ flags ∷ high ∷ low ∷ rest) = event ∷ bit_and flags 0xbf ∷ high ∷ low ∷ []
without_reserved bytes = []

-- the fault of a payload that does not consist of reports
abbrev pub IsNoReports : PacketError → Type 0
IsNoReports (faults.InvalidTelephoneEvent reason) = reason.now ≡ codes "payload must contain one or more complete 4-byte reports"
IsNoReports fault = ⊥

-- the bytes of the first report are appended, and the codec-specific data reports it
abbrev pub TakesFirst : ℕ → List ℕ → List ℕ → List ℕ → CodecExtra → Type 0
TakesFirst rate (event ∷ flags ∷ high ∷ low ∷ rest) out out' extra' =
    (out' ≡ out ++ event ∷ flags ∷ high ∷ low ∷ []) × (extra' ≡ extras.Tele (report rate event flags high low))
TakesFirst rate bytes out out' extra' = ⊥

-- one payload at a rate: the bytes and the codec-specific data before, the result, and both afterwards
abbrev pub TeleStep : ℕ → List ℕ → List ℕ → CodecExtra → Result ⊤ PacketError → List ℕ → CodecExtra → Type 0
TeleStep rate payload out extra (Ok _) out' extra' = (are_reports payload ≡ true) × TakesFirst rate payload out out' extra'
TeleStep rate payload out extra (Err fault) out' extra' =
    (out' ≡ out) × (extra' ≡ extra)
    × (are_reports payload ≡ true → fault ≡ faults.OutOfMemory)
    × (are_reports payload ≡ false → IsNoReports fault)
