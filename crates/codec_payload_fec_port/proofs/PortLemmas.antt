-- The steps of a port.
use Rattle.std.proofs.Common.{◌≡◌, ℕ, List, [], ◌∷◌, ◌++◌, Option, Result, Ok, Err, ap, ◌∙◌}
use Rattle.std.specs.Prelude.{IfOk, OnErr, OnOk}
use Rattle.codec_payload_fec_port.specs.Ports.{Held, Port, added, left, noted}
use Rattle.codec_payload_fec_port.specs.Streams.{begun, fed, rebuilt_in}
use Rattle.codec_payload_fec_port.specs.declared.fec_stream.FecCounts.{FecCounts}
use Rattle.codec_payload_fec_port.specs.declared.fec_stream.FecStream.{FecStream}
use Rattle.codec_payload_fec_port.specs.declared.plain.Kind.{Kind}
use Rattle.codec_payload_fec_port.specs.declared.port_settings.FecPortSettings.{FecPortSettings}

pub on_ok : {T E : Type 0} (P Q : Type 0) (r : Result T E) → (P → Q) → OnOk r P → OnOk r Q
on_ok P Q (Ok x) f h = f h
on_ok P Q (Err e) f h = h

pub on_err : {T E : Type 0} (P Q : Type 0) (r : Result T E) → (P → Q) → OnErr r P → OnErr r Q
on_err P Q (Ok x) f h = h
on_err P Q (Err e) f h = f h

-- the packet that a stream hands out, and what it leaves
module _ {T E : Type 0} (v : T → Option (List ℕ)) (g new : FecStream) where
  pub next_packet : (r : Result T E) (o : Option (List ℕ)) → IfOk r (λ p. (v p, new) ≡ rebuilt_in g) → (rebuilt_in g).0 ≡ o → IfOk r (λ p. v p ≡ o)
  next_packet (Ok p) o h e = ap (λ (q : Option (List ℕ) × FecStream). q.0) h ∙ e
  next_packet (Err f) o h e = tt

  pub next_leaves : (r : Result T E) (Q : Type 0) → IfOk r (λ p. (v p, new) ≡ rebuilt_in g) → (new ≡ (rebuilt_in g).1 → Q) → OnOk r Q
  next_leaves (Ok p) Q h f = f (ap (λ (q : Option (List ℕ) × FecStream). q.1) h)
  next_leaves (Err e) Q h f = tt

-- a stream is added
pub added_is : (settings : FecPortSettings) (streams news : List FecStream) (latest : Option ℕ) (taken : ℕ) (counts : FecCounts) (waiting : Option Held) (s after : Port) (kind : Kind) (ssrc : ℕ) (datagram : List ℕ) (leaving : Option ℕ) (b t : FecStream)
    → record { settings = settings; streams = streams; latest = latest; taken = taken; counts = counts; waiting = waiting } ≡ s
    → b ≡ begun settings ssrc → t ≡ fed kind taken datagram b → news ≡ left leaving streams ++ t ∷ []
    → after ≡ noted kind ssrc (record { settings = settings; streams = news; latest = latest; taken = taken; counts = counts; waiting = waiting })
    → after ≡ added kind ssrc datagram (left leaving s.streams) s
added_is settings streams news latest taken counts waiting s after kind ssrc datagram leaving b t is beginning feeding appended notes =
    let with : List FecStream → Port = λ ts. noted kind ssrc (record { settings = settings; streams = ts; latest = latest; taken = taken; counts = counts; waiting = waiting }) in
    notes ∙ ap with (appended ∙ ap (λ (u : FecStream). left leaving streams ++ u ∷ []) (feeding ∙ ap (fed kind taken datagram) beginning))
    ∙ ap (λ (q : Port). added kind ssrc datagram (left leaving q.streams) q) is
