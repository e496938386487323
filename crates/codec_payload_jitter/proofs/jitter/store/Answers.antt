use Rattle.std.proofs.Common.{◌≡◌, ◌∙◌, ap, ℕ}
use Rattle.codec_payload_buffer.specs.Steps.{placed_at}
use Rattle.codec_payload_metadata.specs.declared.meta.RtpMeta.{RtpMeta}
use Rattle.codec_payload_jitter.specs.Receiving.{outcome_of}
use Rattle.codec_payload_jitter.proofs.OwnLemmas.{stores_pushed}
use Rattle.codec_payload_jitter.proofs.ReceivingLemmas.{placed_outcome}
use Rattle.codec_payload_jitter.proofs.jitter.store.Goals as goal

pub returns-clause-outcome : goal.returns-clause-outcome
returns-clause-outcome g c =
    let number : c.meta_for-meta.result.seq_no.0 ≡ c.args.number = ap (λ (m : RtpMeta). m.seq_no.0) c.meta_for-meta.ensures in
    c.outcome_of.ensures ∙ (ap outcome_of c.in_ok-placed.ensures.placed ∙ (ap (λ (k : ℕ). outcome_of (placed_at c.args.buffer.now k)) number ∙ placed_outcome c.args.buffer.now c.args.number))

pub returns-clause-own : goal.returns-clause-own
returns-clause-own g c = λ other.
    let pushed = c.in_ok-placed.ensures.own other in
    stores_pushed _ _ c.args.buffer.now c.store_packed.new.self pushed.0 _ _ pushed.1
