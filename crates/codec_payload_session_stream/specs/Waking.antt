-- When the streams may have their next events: a poll asks only those whose time has come.
use Rattle.std.specs.Prelude.{◌≡◌, ◌⊎◌, ◌<◌, ◌≤◌, ℕ, zero, suc, ◌^◌, ◌-◌, List, [], ◌∷◌, ◌++◌, true, false, Option, Some, None, Result, length}
use Rattle.std.specs.List.{AllWithin}
use Rattle.std.specs.declared.alloc.AllocError.{AllocError}
use Rattle.codec_payload_base.specs.declared.wire.Ticks.{Ticks}
use Rattle.codec_payload_index.specs.Times.{least_of}
use Rattle.codec_payload_jitter.specs.declared.outcome.Outcome.{Outcome}
use Rattle.codec_payload_receiver.specs.declared.receiver.ReceiveError.{ReceiveError}
use Rattle.codec_payload_session_stream.specs.Arrivals.{Arrives, arrival_of}
use Rattle.codec_payload_session_stream.specs.Dues.{key_of}
use Rattle.codec_payload_session_stream.specs.Quiet.{IsQuiet}
use Rattle.codec_payload_session_stream.specs.Streams.{StreamState, Takes, due_of, is_no_memory, is_probation}
use Rattle.codec_payload_session_stream.specs.declared.arrival.Arrival.{Arrival}
use Rattle.codec_payload_session_stream.specs.declared.waking.Waking.{Waking}

-- the stream is in probation, or it is quiet and not idle: it has no event at this time, and nothing changes
abbrev pub IsAsleep : ℕ → ℕ → StreamState → Type 0
IsAsleep now idle s = (is_probation s.stage ≡ true) ⊎ IsQuiet now s.announced s.stage s.last s.feedback s.receiver × (now - s.last < idle)

-- the same at each time before this one, and no deadline comes earlier
pub record WakesAt (idle at : ℕ) (s : StreamState) : Type 0 where
  pub sleeps : (now : ℕ) → now < at → IsAsleep now idle s
  pub due : at ≤ key_of (due_of idle s)

-- each of the streams has such a time; there may be more times
abbrev pub AllWake : ℕ → List ℕ → List StreamState → Type 0
AllWake idle ts [] = Unit {0}
AllWake idle [] (s ∷ ss) = ⊥
AllWake idle (t ∷ ts) (s ∷ ss) = WakesAt idle t s × AllWake idle ts ss

-- the same for each of them except the one at a place
abbrev pub OthersWake : ℕ → ℕ → List ℕ → List StreamState → Type 0
OthersWake idle place ts [] = Unit {0}
OthersWake idle place [] (s ∷ ss) = ⊥
OthersWake idle zero (t ∷ ts) (s ∷ ss) = AllWake idle ts ss
OthersWake idle (suc place) (t ∷ ts) (s ∷ ss) = WakesAt idle t s × OthersWake idle place ts ss

-- the times are those of the streams, except of one
pub record IsTimed (w : Waking) (ss : List StreamState) : Type 0 where
  pub within : w.fed < length ss
  pub others : OthersWake w.idle_timeout w.fed w.times ss
  pub until : w.until ≤ least_of w.times

-- the times are those of all streams
pub record AllTimed (idle : ℕ) (w : Waking) (ss : List StreamState) : Type 0 where
  pub same : w.idle_timeout ≡ idle
  pub within : w.fed < length ss
  pub all : AllWake idle w.times ss

-- if the times are known, they are those of the streams
pub record IsBound (w : Waking) (ss : List StreamState) : Type 0 where
  pub timed : w.known ≡ true → IsTimed w ss
  pub nothing : w.known ≡ false → w.until ≡ 0

-- no times are known
pub record SaysNothing (w : Waking) : Type 0 where
  pub unknown : w.known ≡ false
  pub nothing : w.until ≡ 0

-- the times are those of the streams and of one more
pub record Grows (w : Waking) (ss : List StreamState) : Type 0 where
  pub bound : (s : StreamState) → IsBound w (ss ++ s ∷ [])

-- the SSRC of each stream
abbrev pub ssrcs_of : List StreamState → List ℕ
ssrcs_of [] = []
ssrcs_of (s ∷ ss) = s.ssrc ∷ ssrcs_of ss

-- the time comes before that of any stream, except one
pub record Holds (w : Waking) (now : Ticks) (idle : ℕ) : Type 0 where
  pub before : now.0 < w.until
  pub same : w.idle_timeout ≡ idle

-- the first of `count` places from one on whose time has come
abbrev pub IsNext : ℕ → Ticks → ℕ → List ℕ → Option ℕ → Type 0
IsNext from now count ts None = AllWithin (λ (t : ℕ). now.0 < t) ts from count
IsNext from now count ts (Some place) = (from ≤ place) × (place < count) × AllWithin (λ (t : ℕ). now.0 < t) ts from place

-- the stream receives the datagram; if memory runs out for it, there is an error instead of an answer
pub record FeedsOne (probation : ℕ) (now : Ticks) (bytes : List ℕ) (s : StreamState) (answer : Result Arrival AllocError) (t : StreamState) : Type 0 where
  pub told : Result Outcome ReceiveError
  pub takes : Takes now probation bytes s told t
  pub arrives : Arrives (is_no_memory told) (arrival_of s.ssrc s.format.payload_type told) answer

-- a time as a number; 2^64 - 1 is none
abbrev pub or_max : Option ℕ → ℕ
or_max None = 2 ^ 64 - 1
or_max (Some at) = at
