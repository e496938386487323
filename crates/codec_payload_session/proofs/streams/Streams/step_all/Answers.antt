use Rattle.std.proofs.Common.{◌≡◌, ◌∙◌, List, Option, ap, length, refl, subst, sym}
use Rattle.std.proofs.lemmas.List.{with_items_is}
use Rattle.std.specs.Vec.{with_items}
use Rattle.codec_payload_session.specs.Arrivals.{Port}
use Rattle.codec_payload_session_stream.specs.Turns.{StepsFirst}
use Rattle.codec_payload_session_stream.specs.Units.{Turn, turn_to}
use Rattle.codec_payload_session.specs.Waking.{StepsPort}
use Rattle.codec_payload_session_stream.specs.Waking.{ssrcs_of}
use Rattle.codec_payload_session_stream.specs.declared.stream.StreamState.{StreamState}
use Rattle.codec_payload_session.proofs.SsrcLemmas.{forgotten, kept, step_ssrcs}
use Rattle.codec_payload_session_stream.proofs.WakingLemmas.{steps_length}
use Rattle.codec_payload_session.proofs.WakingLemmas.{steps_port}
use Rattle.codec_payload_session.proofs.streams.Streams.step_all.Goals as goal

pub returns-then-find : goal.returns-then-find
returns-then-find c =
    let turn : Option Turn = turn_to c.step_due.result c.step_due.new.unit in
    let ss : List StreamState = c.self.inside.list.items in
    let ts : List StreamState = c.step_due.new.streams in
    let p : Port = record { streams = ss; finished = c.self.inside.finished; ended = c.self.inside.ended; last = c.self.inside.last; exchange = c.self.inside.exchange } in
    let is : c.deref_mut.result.now ≡ ss = c.deref_mut.ensures.value in
    let first : StepsFirst c.args.now c.args.idle_timeout ss turn ts = subst (λ (l : List StreamState). StepsFirst c.args.now c.args.idle_timeout l turn ts) is c.step_due.ensures.first in
    let long : length ts ≡ c.self.inside.list.len = steps_length c.args.now c.args.idle_timeout ss ts turn first ∙ sym c.self.inside.list.ok.0 in
    let written : List StreamState = (with_items c.self.inside.list ts).items in
    let same : written ≡ ts = with_items_is c.self.inside.list ts long in
    subst (λ (q : Port). StepsPort c.args.now c.args.idle_timeout q turn (record p { streams = written })) c.self.view_is
    (steps_port c.args.now c.args.idle_timeout p turn ss ts written refl same first)

pub returns-else-find : goal.returns-else-find
returns-else-find c =
    let turn : Option Turn = turn_to c.step_first.result c.step_first.new.unit in
    let ss : List StreamState = c.self.inside.list.items in
    let ts : List StreamState = c.step_first.new.streams in
    let p : Port = record { streams = ss; finished = c.self.inside.finished; ended = c.self.inside.ended; last = c.self.inside.last; exchange = c.self.inside.exchange } in
    let is : c.deref_mut-else-find.result.now ≡ ss = c.deref_mut-else-find.ensures.value in
    let first : StepsFirst c.args.now c.args.idle_timeout ss turn ts = subst (λ (l : List StreamState). StepsFirst c.args.now c.args.idle_timeout l turn ts) is c.step_first.ensures in
    let long : length ts ≡ c.self.inside.list.len = steps_length c.args.now c.args.idle_timeout ss ts turn first ∙ sym c.self.inside.list.ok.0 in
    let written : List StreamState = (with_items c.self.inside.list ts).items in
    let same : written ≡ ts = with_items_is c.self.inside.list ts long in
    subst (λ (q : Port). StepsPort c.args.now c.args.idle_timeout q turn (record p { streams = written })) c.self.view_is
    (steps_port c.args.now c.args.idle_timeout p turn ss ts written refl same first)

pub invariant_of-self : goal.invariant_of-self
invariant_of-self c =
    let turn : Option Turn = turn_to c.step_due.result c.step_due.new.unit in
    let same = step_ssrcs c.args.now c.args.idle_timeout c.deref_mut.result.now turn c.step_due.new.streams c.step_due.ensures.first ∙ ap ssrcs_of c.deref_mut.ensures.value in
    kept c.step_due.new.waking c.self.inside.ssrcs c.self.inside.list c.step_due.new.streams c.step_due.ensures.bound c.self.invariant.listed same

pub invariant_of-self-else-find : goal.invariant_of-self-else-find
invariant_of-self-else-find c =
    let turn : Option Turn = turn_to c.step_first.result c.step_first.new.unit in
    let same = step_ssrcs c.args.now c.args.idle_timeout c.deref_mut-else-find.result.now turn c.step_first.new.streams c.step_first.ensures ∙ ap ssrcs_of c.deref_mut-else-find.ensures.value in
    forgotten c.find.new.self c.self.inside.ssrcs c.self.inside.list c.step_first.new.streams (c.find.ensures.lost c.if-find.false) c.self.invariant.listed same
