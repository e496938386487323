use Rattle.std.proofs.Common.{◌≡◌, ◌∙◌, ◌<◌, ◌≤◌, ◌+◌, List, [], arith, false, length, refl, subst, sym, true}
use Rattle.std.proofs.lemmas.List.{get_or-set_same}
use Rattle.codec_payload_session_stream.specs.Streams.{StreamState}
use Rattle.codec_payload_session_stream.specs.Turns.{is_nothing}
use Rattle.codec_payload_session_stream.specs.Units.{step_to}
use Rattle.codec_payload_session_stream.specs.Waking.{AllWake, WakesAt}
use Rattle.codec_payload_session_stream.proofs.QuietLemmas.{found_in, quiet_in}
use Rattle.codec_payload_session_stream.proofs.UnitLemmas.{nothing_to}
use Rattle.codec_payload_session_stream.proofs.WakingLemmas.{all_asked, all_length, further_in, set_wakes}
use Rattle.codec_payload_session_stream.proofs.waking.ask_due.Goals as goal

pub loop-place-init : goal.loop-place-init
loop-place-init c = record { quiet = ([], tt, refl); timed = c.requires; within = omega arith }

pub next_due-requires : goal.next_due-requires
next_due-requires c = all_length c.args.idle_timeout c.loop-place.times c.loop-place.streams c.loop-place.invariant.timed

pub set-requires : goal.set-requires
set-requires c = omega (arith, c.in-Some.ensures.1, all_length c.args.idle_timeout c.loop-place.times c.loop-place.streams c.loop-place.invariant.timed)

pub returns-then-not-is_nothing-clause-first : goal.returns-then-not-is_nothing-clause-first
returns-then-not-is_nothing-clause-first c =
    let within : c.in-Some.place < length c.args.streams.now = omega (arith, c.in-Some.ensures.1, c.loop-place.auto.streams) in
    let tells : is_nothing (step_to c.step-step.result c.step-step.new.unit) ≡ false = nothing_to c.step-step.result c.step-step.new.unit ∙ sym c.is_nothing.ensures ∙ c.if-not-is_nothing.true in
    let it = further_in c.args.idle_timeout c.loop-place.from c.in-Some.place c.args.now c.loop-place.times c.args.streams.now c.loop-place.streams c.loop-place.invariant.quiet.0
    c.loop-place.invariant.quiet.1 c.loop-place.invariant.quiet.2 c.loop-place.invariant.timed c.in-Some.ensures.2 c.in-Some.ensures.0 (omega (arith, within)) in
    found_in c.args.now c.args.idle_timeout c.args.streams.now c.loop-place.streams it.0 c.in-Some.place c.index-streams-place.result c.step-step.new.self
    (step_to c.step-step.result c.step-step.new.unit) within it.1 it.2 c.step-step.ensures tells

pub returns-then-not-is_nothing-clause-timed : goal.returns-then-not-is_nothing-clause-timed
returns-then-not-is_nothing-clause-timed c =
    let wakes : WakesAt c.args.idle_timeout c.wakes_at.result c.step-step.new.self =
    subst (λ (s : StreamState). WakesAt c.args.idle_timeout c.wakes_at.result s) (get_or-set_same c.loop-place.streams c.in-Some.place c.step-step.new.self c.index-streams-place-in-Some.result c.in-Some.ensures.1) c.wakes_at.ensures in
    rw c.set.ensures (set_wakes c.args.idle_timeout c.in-Some.place c.wakes_at.result c.loop-place.times c.loop-place.streams c.step-step.new.self c.in-Some.ensures.1 c.loop-place.invariant.timed wakes)

pub loop-place-preserved-else-not-is_nothing : goal.loop-place-preserved-else-not-is_nothing
loop-place-preserved-else-not-is_nothing c =
    let within : c.in-Some.place < length c.args.streams.now = omega (arith, c.in-Some.ensures.1, c.loop-place.auto.streams) in
    let tells : is_nothing (step_to c.step-step.result c.step-step.new.unit) ≡ true = nothing_to c.step-step.result c.step-step.new.unit ∙ sym c.is_nothing.ensures ∙ c.if-not-is_nothing.false in
    let it = further_in c.args.idle_timeout c.loop-place.from c.in-Some.place c.args.now c.loop-place.times c.args.streams.now c.loop-place.streams c.loop-place.invariant.quiet.0
    c.loop-place.invariant.quiet.1 c.loop-place.invariant.quiet.2 c.loop-place.invariant.timed c.in-Some.ensures.2 c.in-Some.ensures.0 (omega (arith, within)) in
    let wakes : WakesAt c.args.idle_timeout c.wakes_at.result c.step-step.new.self =
    subst (λ (s : StreamState). WakesAt c.args.idle_timeout c.wakes_at.result s) (get_or-set_same c.loop-place.streams c.in-Some.place c.step-step.new.self c.index-streams-place-in-Some.result c.in-Some.ensures.1) c.wakes_at.ensures in
    record {
      quiet = quiet_in c.args.now c.args.idle_timeout c.args.streams.now c.loop-place.streams it.0 c.in-Some.place c.index-streams-place.result c.step-step.new.self
          (step_to c.step-step.result c.step-step.new.unit) within it.1 it.2 c.step-step.ensures tells;
      timed = rw c.set.ensures (set_wakes c.args.idle_timeout c.in-Some.place c.wakes_at.result c.loop-place.times c.loop-place.streams c.step-step.new.self c.in-Some.ensures.1 c.loop-place.invariant.timed wakes);
      within = omega (arith, within);
    }

pub loop-place-preserved-else-not-is_nothing-2 : goal.loop-place-preserved-else-not-is_nothing-2
loop-place-preserved-else-not-is_nothing-2 c =
    let within : c.in-Some.place < length c.args.streams.now = omega (arith, c.in-Some.ensures.1, c.loop-place.auto.streams) in
    let tells : is_nothing (step_to c.step-step.result c.step-step.new.unit) ≡ true = nothing_to c.step-step.result c.step-step.new.unit ∙ sym c.is_nothing.ensures ∙ c.if-not-is_nothing.false in
    let it = further_in c.args.idle_timeout c.loop-place.from c.in-Some.place c.args.now c.loop-place.times c.args.streams.now c.loop-place.streams c.loop-place.invariant.quiet.0
    c.loop-place.invariant.quiet.1 c.loop-place.invariant.quiet.2 c.loop-place.invariant.timed c.in-Some.ensures.2 c.in-Some.ensures.0 (omega (arith, within)) in
    let wakes : WakesAt c.args.idle_timeout c.wakes_at.result c.step-step.new.self =
    subst (λ (s : StreamState). WakesAt c.args.idle_timeout c.wakes_at.result s) (get_or-set_same c.loop-place.streams c.in-Some.place c.step-step.new.self c.index-streams-place-in-Some.result c.in-Some.ensures.1) c.wakes_at.ensures in
    record {
      quiet = quiet_in c.args.now c.args.idle_timeout c.args.streams.now c.loop-place.streams it.0 c.in-Some.place c.index-streams-place.result c.step-step.new.self
          (step_to c.step-step.result c.step-step.new.unit) within it.1 it.2 c.step-step.ensures tells;
      timed = rw c.set.ensures (set_wakes c.args.idle_timeout c.in-Some.place c.wakes_at.result c.loop-place.times c.loop-place.streams c.step-step.new.self c.in-Some.ensures.1 c.loop-place.invariant.timed wakes);
      within = omega (arith, within);
    }

pub loop-place-smaller : goal.loop-place-smaller
loop-place-smaller c = omega (arith, c.in-Some.ensures.0, c.in-Some.ensures.1, c.loop-place.auto.streams)

pub loop-place-preserved : goal.loop-place-preserved
loop-place-preserved c =
    let within : c.in-Some.place < length c.args.streams.now = omega (arith, c.in-Some.ensures.1, c.loop-place.auto.streams) in
    let tells : is_nothing (step_to c.step-step.result c.step-step.new.unit) ≡ true = nothing_to c.step-step.result c.step-step.new.unit ∙ sym c.is_nothing.ensures ∙ c.if-not-is_nothing.false in
    let it = further_in c.args.idle_timeout c.loop-place.from c.in-Some.place c.args.now c.loop-place.times c.args.streams.now c.loop-place.streams c.loop-place.invariant.quiet.0
    c.loop-place.invariant.quiet.1 c.loop-place.invariant.quiet.2 c.loop-place.invariant.timed c.in-Some.ensures.2 c.in-Some.ensures.0 (omega (arith, within)) in
    let wakes : WakesAt c.args.idle_timeout c.wakes_at.result c.step-step.new.self =
    subst (λ (s : StreamState). WakesAt c.args.idle_timeout c.wakes_at.result s) (get_or-set_same c.loop-place.streams c.in-Some.place c.step-step.new.self c.index-streams-place-in-Some.result c.in-Some.ensures.1) c.wakes_at.ensures in
    record {
      quiet = quiet_in c.args.now c.args.idle_timeout c.args.streams.now c.loop-place.streams it.0 c.in-Some.place c.index-streams-place.result c.step-step.new.self
          (step_to c.step-step.result c.step-step.new.unit) within it.1 it.2 c.step-step.ensures tells;
      timed = rw c.set.ensures (set_wakes c.args.idle_timeout c.in-Some.place c.wakes_at.result c.loop-place.times c.loop-place.streams c.step-step.new.self c.in-Some.ensures.1 c.loop-place.invariant.timed wakes);
      within = omega (arith, within);
    }

pub returns-clause-first : goal.returns-clause-first
returns-clause-first c =
    let it = further_in c.args.idle_timeout c.loop-place.from (length c.args.streams.now) c.args.now c.loop-place.times c.args.streams.now c.loop-place.streams c.loop-place.invariant.quiet.0
    c.loop-place.invariant.quiet.1 c.loop-place.invariant.quiet.2 c.loop-place.invariant.timed (λ k d low l. c.in_default.ensures k d low (omega (arith, l, c.loop-place.auto.streams))) c.loop-place.invariant.within (omega arith) in
    all_asked c.args.idle_timeout (length c.args.streams.now) c.args.now c.args.streams.now c.loop-place.streams it.0 refl it.1 it.2

pub returns-clause-timed : goal.returns-clause-timed
returns-clause-timed c = c.loop-place.invariant.timed
