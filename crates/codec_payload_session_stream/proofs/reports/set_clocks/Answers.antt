use Rattle.std.proofs.Common.{◌≡◌, ◌∙◌, ◌<◌, ◌+◌, ℕ, List, Some, None, ap, arith, length, refl, subst}
use Rattle.codec_payload_index.specs.Ssrcs.{IsPlaceFrom}
use Rattle.codec_payload_session_stream.specs.Reports.{clocked_if}
use Rattle.codec_payload_session_stream.proofs.PlaceLemmas.{changes_clock, changed_all, changed_length, changed_next}
use Rattle.codec_payload_session_stream.proofs.SsrcLemmas.{count_of}
use Rattle.codec_payload_session_stream.proofs.reports.set_clocks.Goals as goal

pub offset_bounds-streams-place : goal.offset_bounds-streams-place
offset_bounds-streams-place c = omega (arith, c.in-Some.ensures.within, ap (λ (l : List ℕ). length l) c.requires, count_of c.args.streams.now, c.well_formed.0.1)

pub bounds-streams-place : goal.bounds-streams-place
bounds-streams-place c = omega (arith, c.in-Some.ensures.within, ap (λ (l : List ℕ). length l) c.requires, count_of c.args.streams.now, c.loop-place.auto.streams)

pub overflow_add-from : goal.overflow_add-from
overflow_add-from c = omega (arith, c.in-Some.ensures.within, ap (λ (l : List ℕ). length l) c.requires, count_of c.args.streams.now, c.well_formed.0.1)

pub loop-place-smaller : goal.loop-place-smaller
loop-place-smaller c = omega (arith, c.in-Some.ensures.behind, c.in-Some.ensures.within, ap (λ (l : List ℕ). length l) c.requires, count_of c.args.streams.now)

pub loop-place-preserved : goal.loop-place-preserved
loop-place-preserved c = record {
  changed = changed_next (clocked_if c.args.ssrc c.args.clock) c.args.ssrc c.loop-place.from c.in-Some.place c.args.ssrcs.now c.args.streams.now c.loop-place.streams c.index-streams-place.result c.set_clock_if.new.self
      (changes_clock c.args.ssrc c.args.clock) c.requires c.in-Some.ensures c.loop-place.invariant.changed c.set_clock_if.ensures;
  within = omega (arith, c.in-Some.ensures.within, ap (λ (l : List ℕ). length l) c.requires, count_of c.args.streams.now);
}

pub returns : goal.returns
returns c = changed_all (clocked_if c.args.ssrc c.args.clock) c.args.ssrc c.loop-place.from c.args.ssrcs.now c.args.streams.now c.loop-place.streams (changes_clock c.args.ssrc c.args.clock) c.requires c.in_default.ensures c.loop-place.invariant.within c.loop-place.invariant.changed
