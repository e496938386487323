-- Consecutive packets that one sender wrapped, and the packets that a receiver finds in each of them.
use Rattle.std.specs.Prelude.{◌≡◌, ◌⊎◌, ℕ, ◌+◌, ◌%◌, ◌^◌, ◌<◌, ◌≤◌, List, [], ◌∷◌, ◌++◌, Some, true, length, take, slice_get, Contains, ◌==◌}
use Rattle.std.specs.List.{AllByRecursion}
use Rattle.codec_payload_red.specs.RedLevels.{Entry, Sender, is_accepted, recorded, kept, level, output}
use Rattle.codec_payload_red.specs.RedPayload.{Redundant}
use Rattle.codec_payload_red.specs.RedReading.{red_at}
use Rattle.codec_payload_red.specs.RedRecovery.{Receiver, RecoveredPacket, Recovers}

-- a sender after it wrapped these payloads, in order
abbrev pub sender_after : Sender → List Entry → Sender
sender_after s [] = s
sender_after s (e ∷ es) = sender_after (recorded s e.bytes e.time) es

-- the sender when it wraps the payload of index k
abbrev pub sender_at : Sender → List Entry → ℕ → Sender
sender_at s sent k = sender_after s (take k sent)

-- the first has this RTP time, and each later one the previous time and a step, modulo 2^32
abbrev pub AreStepApart : ℕ → ℕ → List Entry → Type 0
AreStepApart step time [] = Unit {0}
AreStepApart step time (e ∷ es) = (e.time ≡ time) × AreStepApart step ((time + step) % 2 ^ 32) es

-- The conditions of recovery: a sender without history and a receiver of its type; packets as many ticks apart as the receiver's
-- step, which an offset can hold; and room for each payload with its header.
pub record IsRecoverable (s : Sender) (r : Receiver) (budget : ℕ) (sent : List Entry) : Type 0 where
  pub fresh : s.history ≡ []
  pub accepted : is_accepted s.distances ≡ true
  pub same_type : r.primary_pt ≡ s.primary_pt % 128
  pub some_step : 0 < r.step
  pub low_step : r.step ≤ 16383
  pub first_time : ℕ
  pub low_time : first_time < 2 ^ 32
  pub apart : AreStepApart r.step first_time sent
  pub each_fits : AllByRecursion (λ e. length e.bytes < budget) sent

-- the packet is packet j, whose number is `first + j`
pub record IsPacketAt (first : ℕ) (sent : List Entry) (x : RecoveredPacket) (j : ℕ) : Type 0 where
  pub entry : Entry
  pub there : slice_get sent j ≡ Some entry
  pub number : x.seq_no ≡ first + j
  pub time : x.time ≡ entry.time
  pub bytes : x.bytes ≡ entry.bytes

-- payload j is in a level that the budget leaves to packet k
pub record IsKeptIn (s : Sender) (budget : ℕ) (sent : List Entry) (j k : ℕ) : Type 0 where
  pub distance : ℕ
  pub of_sender : Contains s.distances distance
  pub back : j + distance ≡ k
  pub block : Redundant
  pub entry : Entry
  pub there : slice_get sent k ≡ Some entry
  pub is_level : level ((sender_at s sent k).primary_pt % 128) entry.time (sender_at s sent k).history distance ≡ Some block
  pub is_kept : Contains (kept (sender_at s sent k) (length entry.bytes) entry.time budget) block

-- the packet was sent: it is packet k, as the primary, or an earlier one in a kept level of it
pub record IsCarried (s : Sender) (budget first : ℕ) (sent : List Entry) (k : ℕ) (x : RecoveredPacket) : Type 0 where
  pub index : ℕ
  pub is_at : IsPacketAt first sent x index
  pub not_later : index ≤ k
  pub carried : (index ≡ k) ⊎ IsKeptIn s budget sent index k
  pub primary : x.is_primary ≡ (index == k)

-- The packets recovered from packet k: the packet itself, last, and exactly the earlier ones in its kept levels.
pub record AreOfSent (s : Sender) (budget first : ℕ) (sent : List Entry) (k : ℕ) (packets : List RecoveredPacket) : Type 0 where
  pub were_sent : AllByRecursion (IsCarried s budget first sent k) packets
  pub itself : (others : List RecoveredPacket) × (x : RecoveredPacket) × (packets ≡ others ++ x ∷ []) × IsPacketAt first sent x k
  pub all_kept : (j : ℕ) → IsKeptIn s budget sent j k → (x : RecoveredPacket) × Contains packets x × IsPacketAt first sent x j

-- Every packet that a receiver recovers from the sender's output for a packet, under the packet's own number and RTP time, was
-- sent.
abbrev pub RecoversSent : Type 0
RecoversSent = (s : Sender) (r : Receiver) (budget first : ℕ) (sent : List Entry) → IsRecoverable s r budget sent
    → (k : ℕ) (e : Entry) → slice_get sent k ≡ Some e → (packets : List RecoveredPacket)
    → Recovers r (first + k) e.time (red_at (output (sender_at s sent k) e.bytes e.time budget)) packets
    → AreOfSent s budget first sent k packets
