-- When packets leave: a token bucket with four queues. Rates are in bits per second, times in microseconds.
use Rattle.std.specs.Prelude.{ℕ, ◌+◌, ◌-◌, ◌*◌, ◌/◌, ◌^◌, max, nat_le, nat_lt, if◌then◌else◌, List, [], ◌∷◌, ◌++◌, drop, Option, Some, None}
use Rattle.codec_payload_bandwidth_pacer.specs.declared.pacer.PacedKind.{PacedKind}
use Rattle.codec_payload_bandwidth_pacer.specs.declared.pacer.PacedKind.TheVariants.{Audio, Resent, Media, Padding}
use Rattle.codec_payload_bandwidth_pacer.specs.declared.pacer.PacedPacket.{PacedPacket}
use Rattle.codec_payload_bandwidth_pacer.specs.declared.pacer.PacerSettings.{PacerSettings}
use Rattle.codec_payload_bandwidth_pacer.specs.declared.pacer.Waiting.{Waiting}

-- the packets that wait, of each kind, the first one first
pub record Waits : Type 0 where
  pub audio : List Waiting
  pub resent : List Waiting
  pub media : List Waiting
  pub padding : List Waiting

-- `owed`: what left, less what the rate has carried since, in bits times 1,000,000
pub record Pacing : Type 0 where
  pub settings : PacerSettings
  pub rate : ℕ
  pub at : ℕ
  pub owed : ℕ
  pub waits : Waits

abbrev pub new_pacing : ℕ → PacerSettings → Pacing
new_pacing rate settings =
    record { settings = settings; rate = rate; at = 0; owed = 0; waits = record { audio = []; resent = []; media = []; padding = [] } }

-- ---- the bucket

-- this many bytes, in bits times 1,000,000
abbrev pub bits_of : ℕ → ℕ
bits_of bytes = bytes * 8000000

-- a packet may leave while no more than this is owed
abbrev pub limit_of : Pacing → ℕ
limit_of p = bits_of p.settings.burst

-- time passes
abbrev pub filled : ℕ → Pacing → Pacing
filled now p = record p { at = max p.at now; owed = p.owed - p.rate * (now - p.at) }

abbrev pub with_rate : ℕ → ℕ → Pacing → Pacing
with_rate now rate p = record (filled now p) { rate = rate }

-- ---- the queues

abbrev pub bytes_of : List Waiting → ℕ
bytes_of [] = 0
bytes_of (w ∷ ws) = w.size + bytes_of ws

abbrev pub bytes_in : Waits → ℕ
bytes_in w = bytes_of w.audio + bytes_of w.resent + bytes_of w.media + bytes_of w.padding

abbrev pub first_of : List Waiting → Option Waiting
first_of [] = None
first_of (w ∷ ws) = Some w

abbrev pub with_waiting : Waiting → List Waiting → List Waiting
with_waiting w ws = ws ++ w ∷ []

abbrev pub waits_of : PacedKind → Waits → List Waiting
waits_of Audio w = w.audio
waits_of Resent w = w.resent
waits_of Media w = w.media
waits_of Padding w = w.padding

abbrev pub with_waits : PacedKind → List Waiting → Waits → Waits
with_waits Audio ws w = record w { audio = ws }
with_waits Resent ws w = record w { resent = ws }
with_waits Media ws w = record w { media = ws }
with_waits Padding ws w = record w { padding = ws }

abbrev pub pushed : PacedPacket → Pacing → Pacing
pushed packet p =
    record p { waits = with_waits packet.kind (with_waiting (record { size = packet.size; id = packet.id }) (waits_of packet.kind p.waits)) p.waits }

abbrev pub kind_or : PacedKind → List Waiting → Option PacedKind → Option PacedKind
kind_or kind [] other = other
kind_or kind (w ∷ ws) other = Some kind

-- the kind of the packet that leaves next: audio, retransmissions, media, padding
abbrev pub first_kind : Waits → Option PacedKind
first_kind w = kind_or Audio w.audio (kind_or Resent w.resent (kind_or Media w.media (kind_or Padding w.padding None)))

abbrev pub packet_of : PacedKind → Option Waiting → Option PacedPacket
packet_of kind None = None
packet_of kind (Some w) = Some (record { kind = kind; size = w.size; id = w.id })

-- the first packet of a kind
abbrev pub removed_of : PacedKind → Pacing → Option PacedPacket
removed_of kind p = packet_of kind (first_of (waits_of kind p.waits))

abbrev pub removed : PacedKind → Pacing → Pacing
removed kind p = record p { waits = with_waits kind (drop 1 (waits_of kind p.waits)) p.waits }

-- ---- what leaves

abbrev pub first_by : Option PacedKind → Pacing → Option PacedPacket
first_by None p = None
first_by (Some kind) p = removed_of kind p

-- the packet that leaves now, if time has passed
abbrev pub next_of : Pacing → Option PacedPacket
next_of p = if nat_le p.owed (limit_of p) then first_by (first_kind p.waits) p else None

abbrev pub less : Option PacedPacket → Pacing → Pacing
less None p = p
less (Some packet) p = record (removed packet.kind p) { owed = p.owed + bits_of packet.size }

abbrev pub after_pop : ℕ → Pacing → Pacing
after_pop now p = less (next_of (filled now p)) (filled now p)

-- ---- when

-- how long a rate takes to carry this
abbrev pub wait_from : ℕ → ℕ → ℕ
wait_from over rate = (over - 1) / rate + 1

abbrev pub within_clock : ℕ → Option ℕ
within_clock at = if nat_lt at (2 ^ 64) then Some at else None

-- from when on no more than the limit is owed
abbrev pub due_at : Pacing → Option ℕ
due_at p =
    if nat_le p.owed (limit_of p) then Some p.at
    else (if nat_lt 0 p.rate then within_clock (p.at + wait_from (p.owed - limit_of p) p.rate) else None)

abbrev pub deadline_by : Option PacedKind → Pacing → Option ℕ
deadline_by None p = None
deadline_by (Some kind) p = due_at p

-- from when on the first packet leaves. None: nothing waits, or the rate is 0, or the clock ends before
abbrev pub deadline_of : Pacing → Option ℕ
deadline_of p = deadline_by (first_kind p.waits) p
