-- Pressure: while little room is left, pops wait for nothing, so no complete frame is evicted.
use Rattle.std.specs.Prelude.{◌≡◌, ◌≢◌, ℕ, ◌<◌, Bool, None, List, [], ◌∷◌, length}
use Rattle.codec_payload_buffer.specs.Frames.{frames}
use Rattle.codec_payload_jitter.specs.Receiving.{Receiving, Arrival, Receives, ReceivesAgain, Recovers, Notes, PopsWith, settled, waiting_at}
use Rattle.codec_payload_jitter.specs.Runs.{Answer}
use Rattle.codec_payload_jitter.specs.declared.outcome.Outcome.{Outcome}

-- an event of a jitter buffer: a packet, a retransmitted packet, a packet recovered from another one, or a number without media
pub data Event : Type 0 where
  Packet : Arrival → Event
  Retransmitted : Arrival → Event
  Recovered : Arrival → Event
  WithoutMedia : ℕ → Event

-- the effect of each event
abbrev pub Comes : Event → Receiving → Receiving → Type 0
Comes (Packet a) r t = (outcome : Outcome) × Receives a r outcome t
Comes (Retransmitted a) r t = (outcome : Outcome) × ReceivesAgain a r outcome t
Comes (Recovered a) r t = (went_in : Bool) × Recovers a r went_in t
Comes (WithoutMedia low) r t = Notes low r t

-- events, one after another
abbrev pub ComeAll : List Event → Receiving → Receiving → Type 0
ComeAll [] r t = t ≡ r
ComeAll (event ∷ events) r t = (mid : Receiving) × Comes event r mid × ComeAll events mid t

-- pops at these moments, and a last pop that answers None
abbrev pub Drains : List ℕ → ℕ → Receiving → Receiving → Type 0
Drains [] last r t = PopsWith (waiting_at (settled r) last) (settled r) None t
Drains (now ∷ moments) last r t =
    (answer : Answer) × (mid : Receiving) × PopsWith (waiting_at (settled r) now) (settled r) answer mid × Drains moments last mid t

-- events, and the moments of the pops after them
pub record Burst : Type 0 where
  pub events : List Event
  pub pops_at : List ℕ
  pub last : ℕ

-- bursts, one after another, each with pops until one answers None
abbrev pub DoesBursts : List Burst → Receiving → Receiving → Type 0
DoesBursts [] r t = t ≡ r
DoesBursts (burst ∷ bursts) r t =
    (mid : Receiving) × (drained : Receiving) × ComeAll burst.events r mid × Drains burst.pops_at burst.last mid drained × DoesBursts bursts drained t

-- the run begins empty and pops until None after each burst. A burst with fewer events than places are kept free evicts a
-- packet only if no frame was complete before the burst. One more place is for a suspect packet, which a restart stores
abbrev pub SparesCompleteFrames : Type 0
SparesCompleteFrames =
    (start r t : Receiving) (bursts : List Burst) (events : List Event) → start.buffer.held ≡ [] → DoesBursts bursts start r
    → length events < start.room → ComeAll events r t
    → t.counters.evicted ≢ r.counters.evicted → frames r.buffer.held ≡ []
