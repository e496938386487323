-- Polls return packets of telephone events first.
use Rattle.std.proofs.Common.{List, [], ◌∷◌, Option, Some, None, ap, subst}
use Rattle.codec_payload_base.specs.declared.wire.Ticks.{Ticks}
use Rattle.codec_payload_metadata.specs.Release.{Release}
use Rattle.codec_payload_session.specs.Polls.{Polls, PollsAfter, TurnsOrSends}
use Rattle.codec_payload_session.specs.Ports.{Session}
use Rattle.codec_payload_session_stream.specs.Telephone.{Gives, GivesFrom, Queue}
use Rattle.codec_payload_session_stream.specs.Units.{Event}
use Rattle.codec_payload_session_stream.specs.declared.telephone.TelephonePacket.{TelephonePacket}

-- ---- polls

first_by : (ws : List TelephonePacket) (now : Ticks) (s : Session) (event : Event) (r : Queue) → GivesFrom ws s.telephone (Some event) r
    → PollsAfter ws now s (Some event) (record s { telephone = r })
first_by [] now s event r got = absurd (cc (got.0))
first_by (w ∷ ws) now s event r got = (got.0, ap (λ (x : Queue). record s { telephone = x }) got.1)

-- a packet that waits comes first
pub polls_first : (now : Ticks) (s : Session) (event : Event) (r : Queue) → Gives s.telephone (Some event) r → Polls now s (Some event) (record s { telephone = r })
polls_first now s event r got = first_by s.telephone.waiting now s event r got

turn_by : (ws : List TelephonePacket) (now : Ticks) (s : Session) (event : Option Event) (t : Session) (r : Queue) → GivesFrom {U = Release} ws s.telephone None r
    → TurnsOrSends now (record s { telephone = r }) event t → PollsAfter ws now s event t
turn_by [] now s event t r got turn = subst (λ (x : Queue). TurnsOrSends now (record s { telephone = x }) event t) got.1 turn
turn_by (w ∷ ws) now s event t r got turn = absurd (cc (got.0))

-- without one the streams are asked
pub polls_turn : (now : Ticks) (s : Session) (event : Option Event) (t : Session) (r : Queue) → Gives {U = Release} s.telephone None r → TurnsOrSends now (record s { telephone = r }) event t
    → Polls now s event t
polls_turn now s event t r got turn = turn_by s.telephone.waiting now s event t r got turn
