use Rattle.std.proofs.Common.{◌≡◌, ◌∷◌, ◌∙◌, ap, set, take}
use Rattle.codec_payload_feedback_requests.specs.RoundTrips.{noted}
use Rattle.codec_payload_feedback_requests.proofs.SampleLemmas.{kept_five, shifted}
use Rattle.codec_payload_feedback_requests.proofs.round_trip.RoundTrip.note.Goals as goal

pub returns : goal.returns
returns c =
    let moved : set c.copy_within.new.self 0 c.args.sample ≡ c.args.sample ∷ take 4 c.self.inside.latest =
    ap (λ l. set l 0 c.args.sample) c.copy_within.ensures.after ∙ shifted 4 c.args.sample c.self.inside.latest c.self.invariant.0 in
    let kept : take c.min-self-inside.result (set c.copy_within.new.self 0 c.args.sample) ≡ take 5 (c.args.sample ∷ take c.self.inside.known c.self.inside.latest) =
    (λ i. take (c.min-self-inside.ensures i) (moved i)) ∙ kept_five c.self.inside.known c.args.sample c.self.inside.latest c.self.invariant.1 in
    (λ i. record { samples = kept i; reported = c.self.inside.reported }) ∙ ap (noted c.args.sample) c.self.view_is
