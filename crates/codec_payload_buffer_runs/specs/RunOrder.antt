-- Only the set of packets pushed before each pop matters in a run; and when a released unit follows the previous one.
use Rattle.std.specs.Prelude.{◌≡◌, ℕ, ◌+◌, ◌||◌, ◌↔◌, IsTrue, Bool, false, List, [], ◌∷◌, ◌++◌, Option, Some, None, Ok, Err, Contains, length, map, slice_get}
use Rattle.codec_payload_buffer_runs.specs.Headline.{IsPushOf, IsUnused}
use Rattle.codec_payload_buffer.specs.Held.{Held, has_number}
use Rattle.codec_payload_buffer_runs.specs.Log.{Stretch, Turn, RunLog}
use Rattle.codec_payload_payloader.specs.Packets.{Packet}
use Rattle.codec_payload_metadata.specs.Release.{Release}
use Rattle.codec_payload_buffer_runs.specs.Schedule.{Answer, RunState, Runs}
use Rattle.codec_payload_payloader.specs.Sending.{Sample}
use Rattle.codec_payload_buffer_runs.specs.SentStream.{AreReadable}
use Rattle.codec_payload_buffer.specs.Stretches.{after_pushes, stretch_numbers, left_out, is_some_of, IsLeft}
use Rattle.codec_payload_buffer_runs.specs.ReportedIds.{next_id}
use Rattle.codec_payload_metadata.specs.declared.meta.RtpMeta.{RtpMeta}
use Rattle.codec_payload_buffer_runs.specs.declared.run.Sent.{Sent}
use Rattle.codec_payload_buffer_runs.specs.declared.run.Step.{Step}

-- the numbers that count in a stretch, in rising order: held before it, or pushed in it above the cutoff. `count` packets
-- are sent in all, from number `first` on
abbrev pub numbers_in : ℕ → ℕ → Stretch → List ℕ
numbers_in first count w = stretch_numbers w.left w.pushes first count

-- the packets that its pushes evicted
abbrev pub evicted_in : ℕ → ℕ → Stretch → List ℕ
evicted_in first count w = left_out w.left (numbers_in first count w)

-- a push of the packet with that number, in bytes and metadata
abbrev pub IsSentPacket : (ℕ → Packet → RtpMeta → Type 0) → List Packet → Held → Type 0
IsSentPacket known packets p = (k : ℕ) × (q : Packet) × (slice_get packets k ≡ Some q) × known k q p.meta × (p.bytes ≡ q.payload)

-- at the end of a stretch the greatest numbers that count are held, each with its packet
pub record IsStretch (known : ℕ → Packet → RtpMeta → Type 0) (first : ℕ) (packets : List Packet) (w : Stretch) : Type 0 where
  pub numbers : IsLeft w.left (numbers_in first (length packets) w) w.now
  pub each : (p : Held) → Contains w.now.held p → IsSentPacket known packets p

-- a stretch up to a moment: with the first of its pushes
abbrev pub up_to : Stretch → List Held → Stretch
up_to w pushes = record { left = w.left; pushes = pushes; now = after_pushes w.left pushes }

-- so it is at each moment of a stretch, and at its end
pub record IsOrdered (known : ℕ → Packet → RtpMeta → Type 0) (first : ℕ) (packets : List Packet) (w : Stretch) : Type 0 where
  pub at_each : (pushes more : List Held) → w.pushes ≡ pushes ++ more → IsStretch known first packets (up_to w pushes)
  pub at_end : IsStretch known first packets w

-- of each stretch of a run, also of the one after the last pop
abbrev pub AreStretches : (ℕ → Packet → RtpMeta → Type 0) → ℕ → List Packet → List Turn → Stretch → Type 0
AreStretches known first packets [] end = IsOrdered known first packets end
AreStretches known first packets (turn ∷ turns) end =
    IsOrdered known first packets turn.stretch × AreStretches known first packets turns end

-- Order independence, the first sentence
abbrev pub IsOrderFree : {samples : List Sample} {all_steps : List Step} {s : RunState} {sends : List Sent} {pops : List Answer} {t : RunState} → RunLog samples all_steps s sends pops t → Type 0
IsOrderFree {all_steps = all_steps} {s = s} {sends = sends} {t = t} log = AreStretches (IsPushOf all_steps sends s.payloading.clock_rate) s.sink.first t.sink.packets log.turns log.end

-- the number of the first packet of a unit, and of the last
abbrev pub first_number : List RtpMeta → ℕ
first_number [] = 0
first_number (m ∷ ms) = m.seq_no.0

abbrev pub last_number : ℕ → List RtpMeta → ℕ
last_number n [] = n
last_number n (m ∷ ms) = last_number m.seq_no.0 ms

-- a released unit follows the previous one, which ends at that number; or it is the first, and nothing was evicted before it
abbrev pub FollowsAsSaid : Option ℕ → Bool → Answer → Type 0
FollowsAsSaid last evicted None = Unit {0}
FollowsAsSaid last evicted (Some (Err fault)) = Unit {0}
FollowsAsSaid None evicted (Some (Ok r)) = IsTrue r.contiguous ↔ (evicted ≡ false)
FollowsAsSaid (Some n) evicted (Some (Ok r)) = IsTrue r.contiguous ↔ (first_number r.metas ≡ n + 1)

-- the number at which the latest released unit ends
abbrev pub last_released : Option ℕ → Answer → Option ℕ
last_released last None = last
last_released last (Some (Err fault)) = last
last_released last (Some (Ok r)) = Some (last_number 0 r.metas)

-- whether a push has evicted a packet by the end of a stretch
abbrev pub has_evicted : ℕ → ℕ → Bool → Stretch → Bool
has_evicted first count evicted w = is_some_of (evicted_in first count w) || evicted

-- so does each, from a point on at which the latest released unit ended there, and packets were evicted or not
abbrev pub AllFollowAsSaid : ℕ → ℕ → Option ℕ → Bool → List Turn → Type 0
AllFollowAsSaid first count last evicted [] = Unit {0}
AllFollowAsSaid first count last evicted (turn ∷ turns) =
    FollowsAsSaid last (has_evicted first count evicted turn.stretch) turn.answer
    × AllFollowAsSaid first count (last_released last turn.answer) (has_evicted first count evicted turn.stretch) turns

-- Order independence, the second sentence: of codecs that do not send both picture id and TL0PICIDX
abbrev pub IsContiguousAsSaid : {samples : List Sample} {all_steps : List Step} {s : RunState} {sends : List Sent} {pops : List Answer} {t : RunState}
    → RunLog samples all_steps s sends pops t → Type 0
IsContiguousAsSaid {s = s} {t = t} log = next_id s.payloading.packetizer ≡ None → AllFollowAsSaid s.sink.first (length t.sink.packets) None false log.turns

-- all except the receive time of a packet
abbrev pub bare_meta : RtpMeta → RtpMeta
bare_meta m = record m { received = record { 0 = 0 } }

-- a unit, and a result, with reduced metadata of its packets
abbrev pub release_with : (RtpMeta → RtpMeta) → Release → Release
release_with less r = record r { metas = map less r.metas }

abbrev pub answer_with : (RtpMeta → RtpMeta) → Answer → Answer
answer_with less None = None
answer_with less (Some (Err fault)) = Some (Err fault)
answer_with less (Some (Ok r)) = Some (Ok (release_with less r))

-- the same packets are pushed before each pop, in whatever order and how often
abbrev pub PushTheSame : List Turn → List Turn → Type 0
PushTheSame [] [] = Unit {0}
PushTheSame [] (other ∷ others) = ⊥
PushTheSame (turn ∷ turns) [] = ⊥
PushTheSame (turn ∷ turns) (other ∷ others) = ((n : ℕ) → has_number n turn.stretch.pushes ≡ has_number n other.stretch.pushes) × PushTheSame turns others

-- two runs over the same packets that push the same ones before each pop get the same results, except for the receive times
abbrev pub OnlySetsCount : Type 0
OnlySetsCount = (samples : List Sample) (all_steps other_steps : List Step) (s t u : RunState) (sends other_sends : List Sent) (pops other_pops : List Answer)
    → Runs samples 0 all_steps s sends pops t → Runs samples 0 other_steps s other_sends other_pops u → t.sink.packets ≡ u.sink.packets
    → IsUnused s → AreReadable s.payloading.packetizer samples
    → (log : RunLog samples all_steps s sends pops t) (other : RunLog samples other_steps s other_sends other_pops u) → PushTheSame log.turns other.turns
    → map (answer_with bare_meta) pops ≡ map (answer_with bare_meta) other_pops
