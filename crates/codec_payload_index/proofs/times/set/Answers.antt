use Rattle.std.proofs.Common.{◌≡◌, ◌∙◌, ◌<◌, ◌/◌, length, subst, sym, arith, add-one, ℕ, length-set}
use Rattle.codec_payload_index.proofs.LevelLemmas.{IsPending, has_room, pending_next, pending_ends, pending_stops, first_stays}
use Rattle.codec_payload_index.proofs.times.set.Goals as goal

pub set_at-time_there-requires : goal.set_at-time_there-requires
set_at-time_there-requires c =
    let ls = c.loop-level.levels.items in
    let within : c.loop-level.level < length ls = omega (arith, c.loop-level-test.true, c.len.ensures, c.loop-level.levels.ok.0) in
    has_room c.loop-level.level c.loop-level.place_there c.loop-level.time_there ls c.index_mut.result.now c.loop-level.invariant.pending within c.index_mut.ensures.value

pub loop-level-preserved : goal.loop-level-preserved
loop-level-preserved c =
    let ls = c.loop-level.levels.items in
    let i = c.loop-level.level in
    let l = c.index_mut.result.now in
    let u = c.set_at-time_there.new.level in
    let within : i < length ls = omega (arith, c.loop-level-test.true, c.len.ensures, c.loop-level.levels.ok.0) in
    rw add-one (record {
      pending = pending_next i c.loop-level.place_there c.loop-level.time_there ls u c.set_at-time_there.result l c.loop-level.invariant.pending within c.index_mut.ensures.value c.set_at-time_there.ensures.level c.set_at-time_there.ensures.above c.set_at-time_there.ensures.within;
      first = first_stays i c.loop-level.place_there c.loop-level.time_there ls u (c.loop-level.place_there / 2) c.set_at-time_there.result l within c.index_mut.ensures.value c.set_at-time_there.ensures.level ∙ c.loop-level.invariant.first;
      within = omega (arith, within, length-set ls i u);
    })

pub returns-clause-levels : goal.returns-clause-levels
returns-clause-levels c =
    let ls = c.loop-level.levels.items in
    let same : c.loop-level.level ≡ length ls = omega (arith, c.loop-level-test.false, c.len.ensures, c.loop-level.levels.ok.0, c.loop-level.invariant.within) in
    pending_ends c.loop-level.place_there c.loop-level.time_there ls (subst (λ (i : ℕ). IsPending i c.loop-level.place_there c.loop-level.time_there ls) same c.loop-level.invariant.pending)

pub index-requires-in-loop-level : goal.index-requires-in-loop-level
index-requires-in-loop-level c =
    let ls = c.loop-level.levels.items in
    let within : c.loop-level.level < length ls = omega (arith, c.loop-level-test.true, c.len.ensures, c.loop-level.levels.ok.0) in
    omega (arith, has_room c.loop-level.level c.loop-level.place_there c.loop-level.time_there ls c.index.result.now c.loop-level.invariant.pending within c.index.ensures, c.index.result.now.ok.0)

pub returns-then-index-time_there-clause-levels : goal.returns-then-index-time_there-clause-levels
returns-then-index-time_there-clause-levels c =
    let ls = c.loop-level.levels.items in
    let within : c.loop-level.level < length ls = omega (arith, c.loop-level-test.true, c.len.ensures, c.loop-level.levels.ok.0) in
    pending_stops c.loop-level.level c.loop-level.place_there c.loop-level.time_there c.index-in-loop-level.result.now ls c.index.result.now c.loop-level.invariant.pending within c.index.ensures
    (sym c.index-in-loop-level.ensures ∙ c.if-index-time_there.true)
