use Rattle.std.proofs.Common.{arith, refl, rules, set}
use Rattle.std.proofs.lemmas.List.{length-set}
use Rattle.codec_payload_session.specs.Reporting.{all_reported}
use Rattle.codec_payload_session.proofs.ReporterLemmas.{all_mixed, fraction_more}
use Rattle.codec_payload_session.proofs.reporter.start_fractions.Goals as goal

pub loop-place-preserved : goal.loop-place-preserved
loop-place-preserved c = record {
  made =
      fraction_more c.args.round.is_new c.loop-place.room c.room_after-room.result c.loop-place.streams (set c.loop-place.streams c.loop-place.place c.start_fraction.new.self) (all_reported c.args.round.is_new c.args.round.room c.args.streams.now) c.loop-place.place c.index-streams-place.result c.start_fraction.new.self c.is_chosen-is_chosen.result
      (search rules) c.is_chosen-is_chosen.ensures c.start_fraction.ensures c.room_after-room.ensures refl c.loop-place.invariant.made;
  same = search (rules, length-set c.loop-place.streams c.loop-place.place c.start_fraction.new.self);
}

pub returns : goal.returns
returns c =
    all_mixed c.args.round.is_new c.loop-place.room c.loop-place.streams (all_reported c.args.round.is_new c.args.round.room c.args.streams.now) c.loop-place.place
    (omega (arith, c.loop-place.invariant.same)) c.loop-place.invariant.made
