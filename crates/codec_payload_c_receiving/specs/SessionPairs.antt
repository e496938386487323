-- Pairs of SSRCs that become known while a session runs.
use Rattle.std.specs.Prelude.{◌≡◌, ◌⊎◌, ℕ, List}
use Rattle.codec_payload_handle.specs.declared.object.PortSession.{PortSession}
use Rattle.codec_payload_session.specs.Pairs.{Pairs}
use Rattle.codec_payload_session_stream.specs.Pairs.{with_pair, without_pair}
use Rattle.codec_payload_session.specs.Ports.{Session}
use Rattle.codec_payload_session_formats.specs.declared.formats.SsrcPair.{SsrcPair}

-- the session has these pairs from now on, and the streams of this SSRC take its retransmissions by them
pub record HasPairs (ssrc : ℕ) (pairs : List SsrcPair) (r s : PortSession) : Type 0 where
  pub session : Session
  pub takes : Pairs ssrc pairs r.session session
  pub left : s ≡ record r { session = session }

-- status 0: one more pair, which replaces those that have one of its SSRCs in the same place; 17: nothing has changed
abbrev pub AddsPair : (ssrc retransmission : ℕ) → PortSession → ℕ → PortSession → Type 0
AddsPair ssrc retransmission r status s =
    ((status ≡ 0) × HasPairs ssrc (with_pair (record { ssrc = ssrc; retransmission = retransmission }) r.session.settings.pairs.items) r s)
    ⊎ ((status ≡ 17) × (s ≡ r))

abbrev pub RemovesPair : ℕ → PortSession → ℕ → PortSession → Type 0
RemovesPair ssrc r status s = (status ≡ 0) × HasPairs ssrc (without_pair ssrc r.session.settings.pairs.items) r s
