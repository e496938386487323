use Rattle.std.proofs.Common.{◌≡◌, ◌∙◌, ◌<◌, ◌+◌, ℕ, List, Some, None, ap, arith, length, refl, subst}
use Rattle.codec_payload_index.specs.Ssrcs.{IsPlaceFrom}
use Rattle.codec_payload_session.specs.Arrivals.{includes, left_if}
use Rattle.codec_payload_session_stream.specs.declared.stream.Ending.TheVariants as endings
use Rattle.codec_payload_session.specs.declared.streams.Who.TheVariants as whos
use Rattle.codec_payload_session.proofs.PlaceLemmas.{changes_stage}
use Rattle.codec_payload_session_stream.proofs.PlaceLemmas.{changed_all, changed_length, changed_next}
use Rattle.codec_payload_session_stream.proofs.SsrcLemmas.{count_of}
use Rattle.codec_payload_session.proofs.goodbyes.leave_of.Goals as goal

pub offset_bounds-streams-place : goal.offset_bounds-streams-place
offset_bounds-streams-place c = omega (arith, c.in-Some.ensures.within, ap (λ (l : List ℕ). length l) c.requires, count_of c.args.streams.now, c.well_formed.0.1)

pub bounds-streams-place : goal.bounds-streams-place
bounds-streams-place c = omega (arith, c.in-Some.ensures.within, ap (λ (l : List ℕ). length l) c.requires, count_of c.args.streams.now, c.loop-place.auto.streams)

pub overflow_add-from : goal.overflow_add-from
overflow_add-from c = omega (arith, c.in-Some.ensures.within, ap (λ (l : List ℕ). length l) c.requires, count_of c.args.streams.now, c.well_formed.0.1)

pub loop-place-smaller : goal.loop-place-smaller
loop-place-smaller c = omega (arith, c.in-Some.ensures.behind, c.in-Some.ensures.within, ap (λ (l : List ℕ). length l) c.requires, count_of c.args.streams.now)

pub loop-place-preserved : goal.loop-place-preserved
loop-place-preserved c = record {
  changed = changed_next (left_if (includes (whos.Of c.args.ssrc)) endings.Bye c.args.at) c.args.ssrc c.loop-place.from c.in-Some.place c.args.ssrcs.now c.args.streams.now c.loop-place.streams c.index-streams-place.result c.leave_if.new.stream
      (changes_stage c.args.ssrc endings.Bye c.args.at) c.requires c.in-Some.ensures c.loop-place.invariant.changed c.leave_if.ensures;
  within = omega (arith, c.in-Some.ensures.within, ap (λ (l : List ℕ). length l) c.requires, count_of c.args.streams.now);
}

pub returns-clause-left : goal.returns-clause-left
returns-clause-left c = changed_all (left_if (includes (whos.Of c.args.ssrc)) endings.Bye c.args.at) c.args.ssrc c.loop-place.from c.args.ssrcs.now c.args.streams.now c.loop-place.streams (changes_stage c.args.ssrc endings.Bye c.args.at) c.requires c.in_default.ensures c.loop-place.invariant.within c.loop-place.invariant.changed
