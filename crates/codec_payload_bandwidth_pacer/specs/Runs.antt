-- Runs of calls of a pacer.
use Rattle.std.specs.Prelude.{◌≡◌, ◌≢◌, ℕ, ◌+◌, ◌-◌, ◌*◌, ◌≤◌, List, [], ◌∷◌, Option, Some, None}
use Rattle.codec_payload_bandwidth_pacer.specs.declared.pacer.PacedKind.{PacedKind}
use Rattle.codec_payload_bandwidth_pacer.specs.declared.pacer.PacedPacket.{PacedPacket}
use Rattle.codec_payload_bandwidth_pacer.specs.Pacing.{Pacing, after_pop, bits_of, deadline_of, filled, next_of, pushed, removed, with_rate}

-- a call: a rate from a time on; a packet that is stored; what leaves now; the first packet of a kind is removed
pub data Call : Type 0 where
  set_rate : (now rate : ℕ) → Call
  push : (packet : PacedPacket) → Call
  pop : (now : ℕ) → Call
  remove : (kind : PacedKind) → Call

abbrev pub after_call : Call → Pacing → Pacing
after_call (set_rate now rate) p = with_rate now rate p
after_call (push packet) p = pushed packet p
after_call (pop now) p = after_pop now p
after_call (remove kind) p = removed kind p

-- after these calls, the first one first
abbrev pub after_calls : List Call → Pacing → Pacing
after_calls [] p = p
after_calls (call ∷ calls) p = after_calls calls (after_call call p)

abbrev pub with_packet : Option PacedPacket → List PacedPacket → List PacedPacket
with_packet None packets = packets
with_packet (Some packet) packets = packet ∷ packets

abbrev pub left_at : Call → Pacing → Option PacedPacket
left_at (set_rate now rate) p = None
left_at (push packet) p = None
left_at (pop now) p = next_of (filled now p)
left_at (remove kind) p = None

-- the packets that leave in these calls, the first one first
abbrev pub left_by : List Call → Pacing → List PacedPacket
left_by [] p = []
left_by (call ∷ calls) p = with_packet (left_at call p) (left_by calls (after_call call p))

-- by how much a call's time is beyond all before it
abbrev pub passed_at : Call → Pacing → ℕ
passed_at (set_rate now rate) p = now - p.at
passed_at (push packet) p = 0
passed_at (pop now) p = now - p.at
passed_at (remove kind) p = 0

-- what the rate carries in these calls, in bits times 1,000,000: at each time the rate of that time
abbrev pub carried_by : List Call → Pacing → ℕ
carried_by [] p = 0
carried_by (call ∷ calls) p = p.rate * passed_at call p + carried_by calls (after_call call p)

abbrev pub sizes : List PacedPacket → ℕ
sizes [] = 0
sizes (packet ∷ packets) = packet.size + sizes packets

-- the size of the last one
abbrev pub last_size : List PacedPacket → ℕ
last_size [] = 0
last_size (packet ∷ []) = packet.size
last_size (packet ∷ next ∷ packets) = last_size (next ∷ packets)

-- no rate is set above this one
abbrev pub SetsAtMost : ℕ → List Call → Type 0
SetsAtMost rate [] = Unit {0}
SetsAtMost rate (set_rate now r ∷ calls) = (r ≤ rate) × SetsAtMost rate calls
SetsAtMost rate (push packet ∷ calls) = SetsAtMost rate calls
SetsAtMost rate (pop now ∷ calls) = SetsAtMost rate calls
SetsAtMost rate (remove kind ∷ calls) = SetsAtMost rate calls

-- What leaves in any calls, from any state on, is at most what the rate carries meanwhile, and the burst, and the last packet
abbrev pub LeavesByTheRate : Type 0
LeavesByTheRate =
    (p : Pacing) (calls : List Call)
    → bits_of (sizes (left_by calls p)) ≤ carried_by calls p + bits_of (p.settings.burst + last_size (left_by calls p))

-- While no rate is above this one: at most that rate times the time, and the burst, and the last packet
abbrev pub LeavesByTheTime : Type 0
LeavesByTheTime =
    (rate : ℕ) (p : Pacing) (calls : List Call) → p.rate ≤ rate → SetsAtMost rate calls
    → bits_of (sizes (left_by calls p)) ≤ rate * ((after_calls calls p).at - p.at) + bits_of (p.settings.burst + last_size (left_by calls p))

-- from its deadline on, a packet leaves
abbrev pub LeavesWhenDue : Type 0
LeavesWhenDue = (p : Pacing) (at now : ℕ) → deadline_of p ≡ Some at → at ≤ now → next_of (filled now p) ≢ None
