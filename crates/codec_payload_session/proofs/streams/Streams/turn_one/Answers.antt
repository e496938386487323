use Rattle.std.proofs.Common.{◌≡◌, ◌<◌, ◌∙◌, Option, Some, ap, length, slice_get, subst, sym}
use Rattle.std.specs.Prelude.{⊤}
use Rattle.codec_payload_metadata.specs.Release.{Release}
use Rattle.codec_payload_session.specs.Arrivals.{Port}
use Rattle.codec_payload_session.specs.Turns.{after_step, told_by}
use Rattle.codec_payload_session_stream.specs.Units.{Turn, event_to, step_to}
use Rattle.codec_payload_session.specs.Waking.{StepsPort}
use Rattle.codec_payload_session_stream.specs.declared.events.Event.{Event as EventWith}
use Rattle.codec_payload_session_stream.proofs.QuietLemmas.{place_within}
use Rattle.codec_payload_session.proofs.QuietLemmas.{turn_tells}
use Rattle.codec_payload_session.proofs.UnitLemmas.{after_to, told_to}
use Rattle.codec_payload_session.proofs.streams.Streams.turn_one.Goals as goal

pub tell-requires : goal.tell-requires
tell-requires c =
    let turn : Turn = record { place = c.in-Some.turn.place; step = step_to c.in-Some.turn.step c.step.new.unit } in
    let it : StepsPort c.args.now c.args.idle_timeout c.args.self.now (Some turn) c.step.new.self = c.in-Some.ensures in
    subst (λ (p : Port). turn.place < length p.streams) (sym it.left) (place_within c.args.now c.args.idle_timeout c.args.self.now.streams it.streams turn it.first)

pub returns-in-Some : goal.returns-in-Some
returns-in-Some c =
    let unit : Release = c.step.new.unit in
    let turn : Turn = record { place = c.in-Some.turn.place; step = step_to c.in-Some.turn.step unit } in
    let it : StepsPort c.args.now c.args.idle_timeout c.args.self.now (Some turn) c.step.new.self = c.in-Some.ensures in
    let told : event_to c.tell.result unit ≡ told_by (slice_get it.streams turn.place) turn.step =
    ap (λ (e : Option (EventWith ⊤)). event_to e unit) c.tell.ensures.told ∙ told_to (slice_get c.step.new.self.streams turn.place) c.in-Some.turn.step unit
    ∙ ap (λ (p : Port). told_by (slice_get p.streams turn.place) turn.step) it.left in
    let after : c.tell.new.self ≡ after_step turn.step turn.place (record c.args.self.now { streams = it.streams }) =
    c.tell.ensures.after ∙ after_to c.in-Some.turn.step turn.place c.step.new.self unit ∙ ap (λ (p : Port). after_step turn.step turn.place p) it.left in
    turn_tells c.args.now c.args.idle_timeout c.args.self.now c.tell.new.self turn it.streams (event_to c.tell.result unit) it.first told after

pub returns-in-None : goal.returns-in-None
returns-in-None c = (c.in-None.ensures.streams, c.in-None.ensures.first, c.in-None.ensures.left)
