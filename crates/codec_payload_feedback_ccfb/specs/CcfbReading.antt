-- Congestion control feedback as it is read, from the left, with the first fault that is met.
use Rattle.std.specs.Prelude.{◌≡◌, ℕ, zero, suc, ◌+◌, ◌-◌, ◌*◌, ◌/◌, ◌%◌, ◌<◌, nat_lt, if◌then◌else◌, true, List, [], ◌∷◌, ◌++◌, length, take, drop, Option, Some, None, Result, Ok, Err}
use Rattle.std.specs.Int.{w16, w32, from_be_bytes}
use Rattle.codec_payload_feedback_ccfb.specs.Ccfb.{Congestion, Report, body_bytes, congestion_fits}
use Rattle.codec_payload_feedback_ccfb.specs.declared.feedback.CcfbError.{CcfbError}
use Rattle.codec_payload_feedback_ccfb.specs.declared.feedback.CcfbError.TheVariants as failures
use Rattle.codec_payload_feedback_ccfb.specs.declared.feedback.CcfbFault.{CcfbFault}
use Rattle.codec_payload_feedback_ccfb.specs.declared.feedback.CcfbFault.TheVariants as faults
use Rattle.codec_payload_feedback_ccfb.specs.declared.feedback.PacketMetric.{PacketMetric}

infixl 10 ◌>>=◌
abbrev pub ◌>>=◌ : {A B : Type 0} → Result A CcfbFault → (A → Result B CcfbFault) → Result B CcfbFault
(Ok x) >>= f = f x
(Err e) >>= f = Err e

-- 16 bits about a packet; without R all others are ignored
abbrev pub metric_at : ℕ → Option PacketMetric
metric_at word = if nat_lt word 32768 then None else Some (record { ecn = word / 8192 % 4; offset = word % 8192 })

-- what each two bytes say
unfoldable pub metrics_in : List ℕ → List (Option PacketMetric)
metrics_in (high ∷ low ∷ bytes) = metric_at (from_be_bytes w16 (high ∷ low ∷ [])) ∷ metrics_in bytes
metrics_in bytes = []

-- the packets of a block, and the bytes after it: whole words
abbrev pub after_block : (ssrc first count : ℕ) → List ℕ → Result (Report × List ℕ) CcfbFault
after_block ssrc first count bytes =
    if nat_lt 16384 count then Err faults.TooMany
    else if nat_lt (length bytes) (2 * (count + count % 2)) then Err faults.MetricsTooShort
    else Ok (record { ssrc = ssrc; first = first; metrics = metrics_in (take (2 * count) bytes) }, drop (2 * (count + count % 2)) bytes)

-- the block at the front, and the bytes after it
unfoldable pub block_at : List ℕ → Result (Report × List ℕ) CcfbFault
block_at (s3 ∷ s2 ∷ s1 ∷ s0 ∷ b1 ∷ b0 ∷ n1 ∷ n0 ∷ bytes) =
    after_block (from_be_bytes w32 (s3 ∷ s2 ∷ s1 ∷ s0 ∷ [])) (from_be_bytes w16 (b1 ∷ b0 ∷ [])) (from_be_bytes w16 (n1 ∷ n0 ∷ [])) bytes
block_at bytes = Err faults.BlockTooShort

abbrev pub with_report : Report → Result (List Report) CcfbFault → Result (List Report) CcfbFault
with_report r others = others >>= λ rs. Ok (r ∷ rs)

-- reports, and those after them
abbrev pub with_reports : List Report → Result (List Report) CcfbFault → Result (List Report) CcfbFault
with_reports front others = others >>= λ rs. Ok (front ++ rs)

-- at most n blocks
unfoldable pub reports_in : ℕ → List ℕ → Result (List Report) CcfbFault
reports_in n [] = Ok []
reports_in zero (b ∷ bytes) = Err faults.BlockTooShort
reports_in (suc n) (b ∷ bytes) = block_at (b ∷ bytes) >>= λ x. with_report x.0 (reports_in n x.1)

-- blocks up to the end: each has eight bytes or more
abbrev pub reports_at : List ℕ → Result (List Report) CcfbFault
reports_at bytes = reports_in (length bytes) bytes

abbrev pub congestion_by : ℕ → List ℕ → List Report → Congestion
congestion_by sender time reports = record { sender = sender; reports = reports; timestamp = from_be_bytes w32 time }

-- the blocks, and the time of the report in the last four bytes
abbrev pub rest_at : ℕ → List ℕ → Result Congestion CcfbFault
rest_at sender rest =
    if nat_lt (length rest) 4 then Err faults.TooShort
    else reports_at (take (length rest - 4) rest) >>= λ rs. Ok (congestion_by sender (drop (length rest - 4) rest) rs)

-- what is after the header
unfoldable pub body_at : List ℕ → Result Congestion CcfbFault
body_at (s3 ∷ s2 ∷ s1 ∷ s0 ∷ rest) = rest_at (from_be_bytes w32 (s3 ∷ s2 ∷ s1 ∷ s0 ∷ [])) rest
body_at bytes = Err faults.TooShort

-- ---- results

-- what a call returned, through a view, is what reading gives, unless memory ran out
abbrev pub Fails : {Y : Type 0} → CcfbError → Result Y CcfbFault → Type 0
Fails failures.OutOfMemory read = Unit {0}
Fails (failures.Fault f) read = read ≡ Err f

abbrev pub Gives : {X Y : Type 0} → (X → Y) → Result X CcfbError → Result Y CcfbFault → Type 0
Gives view (Ok x) read = read ≡ Ok (view x)
Gives view (Err e) read = Fails e read

-- ---- theorems

-- the numbers have their width
abbrev pub AreNumbers : List Report → Type 0
AreNumbers [] = Unit {0}
AreNumbers (r ∷ rs) = (r.ssrc < 4294967296) × (r.first < 65536) × AreNumbers rs

-- what is spelled is read
abbrev pub FeedbackComesBack : Type 0
FeedbackComesBack = (f : Congestion) → congestion_fits f ≡ true → f.sender < 4294967296 → f.timestamp < 4294967296 → AreNumbers f.reports → body_at (body_bytes f) ≡ Ok f
