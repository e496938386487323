use Rattle.std.proofs.Common.{◌≡◌, ◌∙◌, List, Option, length, ap, refl, subst, sym}
use Rattle.std.proofs.lemmas.List.{with_items_is}
use Rattle.std.specs.Vec.{with_items}
use Rattle.codec_payload_session.specs.Arrivals.{Port}
use Rattle.codec_payload_session_stream.specs.Turns.{StepsFirst}
use Rattle.codec_payload_session_stream.specs.Units.{Turn, turn_to}
use Rattle.codec_payload_session.specs.Waking.{StepsPort}
use Rattle.codec_payload_session_stream.specs.declared.stream.StreamState.{StreamState}
use Rattle.codec_payload_session_stream.specs.Waking.{ssrcs_of}
use Rattle.codec_payload_session.proofs.SsrcLemmas.{kept, step_ssrcs}
use Rattle.codec_payload_session_stream.proofs.WakingLemmas.{steps_length}
use Rattle.codec_payload_session.proofs.WakingLemmas.{steps_port}
use Rattle.codec_payload_session.proofs.streams.Streams.step.Goals as goal

pub returns-then-holds : goal.returns-then-holds
returns-then-holds c =
    let turn : Option Turn = turn_to c.step_excepted.result c.step_excepted.new.unit in
    let ss : List StreamState = c.self.inside.list.items in
    let ts : List StreamState = c.step_excepted.new.streams in
    let p : Port = record { streams = ss; finished = c.self.inside.finished; ended = c.self.inside.ended; last = c.self.inside.last; exchange = c.self.inside.exchange } in
    let is : c.deref_mut.result.now ≡ ss = c.deref_mut.ensures.value in
    let first : StepsFirst c.args.now c.args.idle_timeout ss turn ts = subst (λ (l : List StreamState). StepsFirst c.args.now c.args.idle_timeout l turn ts) is c.step_excepted.ensures.first in
    let long : length ts ≡ c.self.inside.list.len = steps_length c.args.now c.args.idle_timeout ss ts turn first ∙ sym c.self.inside.list.ok.0 in
    let written : List StreamState = (with_items c.self.inside.list ts).items in
    let same : written ≡ ts = with_items_is c.self.inside.list ts long in
    subst (λ (q : Port). StepsPort c.args.now c.args.idle_timeout q turn (record p { streams = written })) c.self.view_is
    (steps_port c.args.now c.args.idle_timeout p turn ss ts written refl same first)

pub invariant_of-self : goal.invariant_of-self
invariant_of-self c =
    let turn : Option Turn = turn_to c.step_excepted.result c.step_excepted.new.unit in
    let same = step_ssrcs c.args.now c.args.idle_timeout c.deref_mut.result.now turn c.step_excepted.new.streams c.step_excepted.ensures.first ∙ ap ssrcs_of c.deref_mut.ensures.value in
    kept c.self.inside.waking c.self.inside.ssrcs c.self.inside.list c.step_excepted.new.streams c.step_excepted.ensures.bound c.self.invariant.listed same
