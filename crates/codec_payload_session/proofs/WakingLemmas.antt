-- A step of the port of a session.
use Rattle.std.proofs.Common.{◌≡◌, ℕ, List, Option, refl, sym, subst}
use Rattle.codec_payload_base.specs.declared.wire.Ticks.{Ticks}
use Rattle.codec_payload_session.specs.Arrivals.{Port}
use Rattle.codec_payload_session_stream.specs.Streams.{StreamState}
use Rattle.codec_payload_session_stream.specs.Turns.{StepsFirst}
use Rattle.codec_payload_session.specs.Waking.{StepsPort}
use Rattle.codec_payload_session_stream.specs.Units.{Turn}

-- ---- a step of the list

pub steps_port : (now : Ticks) (idle : ℕ) (p : Port) (turn : Option Turn) (ss ts written : List StreamState) → ss ≡ p.streams → written ≡ ts → StepsFirst now idle ss turn ts
    → StepsPort now idle p turn (record p { streams = written })
steps_port now idle p turn ss ts written is same first = record {
  streams = written;
  first = subst (λ (l : List StreamState). StepsFirst now idle p.streams turn l) (sym same) (subst (λ (l : List StreamState). StepsFirst now idle l turn ts) is first);
  left = refl;
}
