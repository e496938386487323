use Rattle.std.proofs.Common.{◌≡◌, ◌∙◌, ◌<◌, ℕ, List, Some, length, slice_get, slice_set, ap, subst, sym}
use Rattle.codec_payload_session.specs.Arrivals.{Port}
use Rattle.codec_payload_session.specs.Keyframes.{answer_among, asked_among, asked_with}
use Rattle.codec_payload_session_stream.specs.Streams.{StreamState}
use Rattle.codec_payload_session_stream.proofs.WakingLemmas.{says_bound}
use Rattle.codec_payload_session.proofs.KeyframeLemmas.{answer_at, asked_at, asked_ssrc}
use Rattle.codec_payload_session.proofs.SsrcLemmas.{same_set}
use Rattle.codec_payload_session.proofs.streams.Streams.request_keyframe_at.Goals as goal

pub invariant_of-self : goal.invariant_of-self
invariant_of-self c =
    let ss = c.self.inside.list.items in
    let within : c.args.place < length ss = subst (λ (p : Port). c.args.place < length p.streams) (sym c.self.view_is) c.requires in
    record {
      bound = says_bound _ _ c.forget.ensures;
      listed = c.self.invariant.listed ∙ sym (same_set ss c.args.place c.index_mut.result.now c.request_keyframe.new.self within c.index_mut.ensures.value
          (ap (λ (s : StreamState). s.ssrc) c.request_keyframe.ensures.after ∙ asked_ssrc c.index_mut.result.now));
    }

pub returns-clause-answer : goal.returns-clause-answer
returns-clause-answer c =
    let ss = c.self.inside.list.items in
    let within : c.args.place < length ss = subst (λ (p : Port). c.args.place < length p.streams) (sym c.self.view_is) c.requires in
    subst (λ (p : Port). c.request_keyframe.result ≡ answer_among (Some c.args.place) p.streams) c.self.view_is
    (c.request_keyframe.ensures.answer ∙ sym (answer_at c.args.place ss c.index_mut.result.now within c.index_mut.ensures.value))

pub returns-clause-after : goal.returns-clause-after
returns-clause-after c =
    let ss = c.self.inside.list.items in
    let place : ℕ = c.args.place in
    let within : place < length ss = subst (λ (p : Port). place < length p.streams) (sym c.self.view_is) c.requires in
    let same : slice_set ss place c.request_keyframe.new.self ≡ asked_with (slice_get ss place) place ss =
    ap (λ (x : StreamState). slice_set ss place x) c.request_keyframe.ensures.after ∙ sym (asked_at place ss c.index_mut.result.now within c.index_mut.ensures.value) in
    let after : List StreamState → Port = λ l. record { streams = l; finished = c.self.inside.finished; ended = c.self.inside.ended; last = c.self.inside.last; exchange = c.self.inside.exchange } in
    subst (λ (p : Port). after (slice_set ss place c.request_keyframe.new.self) ≡ asked_among (Some place) p) c.self.view_is (ap after same)
