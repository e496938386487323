use Rattle.std.proofs.Common.{◌≡◌, ◌∙◌, ◌++◌, ◌∷◌, [], List, ap, subst}
use Rattle.codec_payload_session_stream.specs.Streams.{StreamState}
use Rattle.codec_payload_session_stream.specs.Waking.{Grows}
use Rattle.codec_payload_session.proofs.SsrcLemmas.{grown}
use Rattle.codec_payload_session.proofs.streams.Streams.add.Goals as goal

pub invariant_of-self-in-Some : goal.invariant_of-self-in-Some
invariant_of-self-in-Some c =
    let longer : c.push-2.new.self.items ≡ c.self.inside.list.items ++ c.args.stream ∷ [] = (rw c.unwrap.ensures at c.push-2.ensures.items) ∙ ap (λ (l : List StreamState). l ++ c.args.stream ∷ []) c.in_ok-reserve.ensures.items in
    let more : c.push.new.self ≡ c.self.inside.ssrcs ++ c.args.stream.ssrc ∷ [] = c.in_ok-push.ensures.ok ∙ ap (λ (s : StreamState). c.self.inside.ssrcs ++ s.ssrc ∷ []) c.stream.view_is in
    let same : c.deref-2.result.now ≡ c.self.inside.list.items = c.deref-2.ensures.value ∙ c.in_ok-reserve.ensures.items in
    grown c.grow.new.self c.self.inside.ssrcs c.push.new.self c.self.inside.list.items c.push-2.new.self.items c.args.stream
    (subst (λ (l : List StreamState). Grows c.grow.new.self l) same c.grow.ensures) c.self.invariant.listed more longer

pub invariant_of-self-in_default : goal.invariant_of-self-in_default
invariant_of-self-in_default c =
    let longer : c.push-2.new.self.items ≡ c.self.inside.list.items ++ c.args.stream ∷ [] = (rw c.unwrap.ensures at c.push-2.ensures.items) ∙ ap (λ (l : List StreamState). l ++ c.args.stream ∷ []) c.in_ok-reserve.ensures.items in
    let more : c.push.new.self ≡ c.self.inside.ssrcs ++ c.args.stream.ssrc ∷ [] = c.in_ok-push.ensures.ok ∙ ap (λ (s : StreamState). c.self.inside.ssrcs ++ s.ssrc ∷ []) c.stream.view_is in
    let same : c.deref-2.result.now ≡ c.self.inside.list.items = c.deref-2.ensures.value ∙ c.in_ok-reserve.ensures.items in
    grown c.grow.new.self c.self.inside.ssrcs c.push.new.self c.self.inside.list.items c.push-2.new.self.items c.args.stream
    (subst (λ (l : List StreamState). Grows c.grow.new.self l) same c.grow.ensures) c.self.invariant.listed more longer
