-- Reports on telephone events.
use Rattle.std.specs.Prelude.{◌≡◌, ℕ, nat_le, nat_lt, if◌then◌else◌, Bool, true, false, List, Option, Some, None, length, slice_get}
use Rattle.codec_payload_core.specs.TelephoneReport.{are_reports, bytes_of_report, reports_of}
use Rattle.codec_payload_core.specs.declared.interface.TelephoneEvent.{TelephoneEvent}
use Rattle.codec_payload_handle.specs.Bytes.{filled}
use Rattle.codec_payload_handle.specs.Extras.{event_told}
use Rattle.codec_payload_handle.specs.declared.extra.TeleEvent.{TeleEvent}

-- the report, if there is one; otherwise status 32
abbrev pub GivesReport : Option TelephoneEvent → ℕ → TeleEvent → TeleEvent → Type 0
GivesReport None status before event = (status ≡ 32) × (event ≡ before)
GivesReport (Some e) status before event = (status ≡ 0) × (event ≡ event_told e)

-- if the payload is one or more whole reports; otherwise status 15
abbrev pub ReadsOne : Bool → List ℕ → ℕ → ℕ → ℕ → TeleEvent → TeleEvent → Type 0
ReadsOne false payload rate index status before event = (status ≡ 15) × (event ≡ before)
ReadsOne true payload rate index status before event = GivesReport (slice_get (reports_of payload rate) index) status before event

-- a rate of 0 is status 37
abbrev pub ReadsAt : Bool → List ℕ → ℕ → ℕ → ℕ → TeleEvent → TeleEvent → Type 0
ReadsAt false payload rate index status before event = (status ≡ 37) × (event ≡ before)
ReadsAt true payload rate index status before event = ReadsOne (are_reports payload) payload rate index status before event

abbrev pub ReadsReport : List ℕ → ℕ → ℕ → ℕ → TeleEvent → TeleEvent → Type 0
ReadsReport payload rate index status before event = ReadsAt (nat_lt 0 rate) payload rate index status before event

-- the report, from C
abbrev pub report_told : TeleEvent → TelephoneEvent
report_told e = record { event = e.event; end = e.end; volume = e.volume; duration = e.duration }

-- the four bytes, if the duration fits; otherwise status 37
abbrev pub WritesBytes : Option (List ℕ) → ℕ → List ℕ → List ℕ → Type 0
WritesBytes None status before bytes = (status ≡ 37) × (bytes ≡ before)
WritesBytes (Some written) status before bytes = (status ≡ (if nat_le 4 (length before) then 0 else 33)) × (bytes ≡ filled written before)

-- a rate of 0 is status 37 too
abbrev pub WritesAt : Bool → TeleEvent → ℕ → ℕ → List ℕ → List ℕ → Type 0
WritesAt false e rate status before bytes = (status ≡ 37) × (bytes ≡ before)
WritesAt true e rate status before bytes = WritesBytes (bytes_of_report (report_told e) rate) status before bytes

abbrev pub WritesReport : TeleEvent → ℕ → ℕ → List ℕ → List ℕ → Type 0
WritesReport e rate status before bytes = WritesAt (nat_lt 0 rate) e rate status before bytes
