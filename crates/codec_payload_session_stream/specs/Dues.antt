-- When each stream may have an event, as a list of numbers: the next deadline is the least of them.
use Rattle.std.specs.Prelude.{◌≡◌, ◌<◌, ℕ, min, ◌-◌, ◌^◌, List, Option, Some, None, get_or, length, map}
use Rattle.codec_payload_session_stream.specs.Streams.{StreamState, due_of}

-- a time as a number: 2^64 - 1 is none, and 2^64 - 2 is one of the two last times
abbrev pub key_of : Option ℕ → ℕ
key_of None = 2 ^ 64 - 1
key_of (Some at) = min at (2 ^ 64 - 2)

-- the deadline of each stream
abbrev pub keys_of : ℕ → List StreamState → List ℕ
keys_of idle ss = map (λ s. key_of (due_of idle s)) ss

-- a stream has this deadline
pub record HasKey (idle key : ℕ) (ss : List StreamState) : Type 0 where
  pub place : ℕ
  pub stream : StreamState
  pub within : place < length ss
  pub there : stream ≡ get_or ss place stream
  pub same : key_of (due_of idle stream) ≡ key
