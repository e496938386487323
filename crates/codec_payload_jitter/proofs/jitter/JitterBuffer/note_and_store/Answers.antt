use Rattle.std.proofs.Common.{◌≡◌, ◌∙◌, ap, sym, subst, refl, length, List, ℕ}
use Rattle.std.specs.Option.{option_map}
use Rattle.codec_payload_jitter.specs.NoMediaNumbers.{noted_no_media}
use Rattle.codec_payload_jitter.specs.KeptMissing.{Keeps, Kept, touched, touched_if}
use Rattle.codec_payload_jitter.specs.Receiving.{Receiving, IsCounted, arrival_of, counted, counted_again, counted_restart}
use Rattle.codec_payload_jitter.specs.Staying.{lowest_if_full}
use Rattle.codec_payload_jitter.specs.declared.outcome.Outcome.TheVariants as outcomes
use Rattle.codec_payload_jitter.specs.declared.outcome.PacketCounters.{PacketCounters}
use Rattle.codec_payload_jitter.proofs.ReceivingLemmas.{conserved_noted}
use Rattle.codec_payload_jitter.proofs.RestartingLemmas.{noted_both}
use Rattle.codec_payload_jitter.proofs.KeptStores.{noted_keeps, stored_keeps}
use Rattle.codec_payload_jitter.proofs.jitter.JitterBuffer.note_and_store.Goals as goal

pub invariant_of-self-2 : goal.invariant_of-self-2
invariant_of-self-2 g c =
    let o = c.in_ok-outcome.outcome in
    let counters : c.with_kept-self-inside.result ≡ counted_again (counted_restart (counted c.self.inside.counters outcomes.NoMedia)) o =
    c.with_kept-self-inside.ensures ∙ (ap (λ (k : PacketCounters). counted_again k o) c.with_restart-counters.ensures ∙ ap (λ (k : PacketCounters). counted_again (counted_restart k) o) c.with_outcome.ensures) in
    let kept = conserved_noted c.self.inside.clock_rate (arrival_of c.args.kept) c.kept_number-before.result c.self.inside.buffer c.store.new.buffer o c.self.inside.counters
    c.in_ok-outcome.ensures.takes c.in_ok-outcome.ensures.outcome c.self.invariant.0 in
    let ns = c.self.inside.no_media_numbers.items in
    let made : c.touch_if.new.self ≡ touched_if (lowest_if_full ns) (touched c.args.number (touched c.kept_number-before.result c.self.inside.kept_missing)) =
    c.touch_if.ensures ∙ (ap (λ o. touched_if o c.touch-2.new.self) (c.lowest_if_full-lowest.ensures ∙ ap lowest_if_full c.make_room.ensures.same)
    ∙ ap (touched_if (lowest_if_full ns)) (c.touch-2.ensures ∙ ap (touched c.args.number) c.touch.ensures)) in
    let numbers : c.note.new.self.items ≡ noted_no_media c.args.number ns = c.note.ensures ∙ ap (λ (xs : List ℕ). noted_no_media c.args.number xs) c.make_room.ensures.same in
    let keeps = noted_keeps c.args.number (touched c.kept_number-before.result c.self.inside.kept_missing) c.store.new.buffer ns
    (stored_keeps c.self.inside.clock_rate c.kept_number-before.result (arrival_of c.args.kept) c.self.inside.kept_missing c.self.inside.buffer c.store.new.buffer ns c.store.ensures.sound c.in_ok-outcome.ensures.takes c.self.invariant.1) in (
      subst (λ (k : PacketCounters). IsCounted k (length c.store.new.buffer.held)) (sym counters) kept,
      subst (λ (xs : List ℕ). Keeps c.touch_if.new.self c.store.new.buffer xs) (sym numbers) (subst (λ (k : Kept). Keeps k c.store.new.buffer (noted_no_media c.args.number ns)) (sym made) keeps),
    )

pub returns-clause-ok : goal.returns-clause-ok
returns-clause-ok g c =
    let r : Receiving = record {
      numbering = c.self.inside.numbers;
      buffer = c.self.inside.buffer;
      no_media_numbers = c.self.inside.no_media_numbers.items;
      noted = c.self.inside.noted_times.noted;
      first = c.self.inside.first;
      kept = option_map arrival_of c.self.inside.kept;
      rate = c.self.inside.clock_rate;
      wait_limits = c.self.inside.wait_limits;
      ended = c.self.inside.ended;
      counters = c.self.inside.counters;
      lowest = c.self.inside.lowest;
      is_restarting = c.self.inside.is_restarting;
      room = c.self.inside.room;
    } in
    let o = c.in_ok-outcome.outcome in
    let counters : c.with_kept-self-inside.result ≡ counted_again (counted_restart (counted r.counters outcomes.NoMedia)) o =
    c.with_kept-self-inside.ensures ∙ (ap (λ (k : PacketCounters). counted_again k o) c.with_restart-counters.ensures ∙ ap (λ (k : PacketCounters). counted_again (counted_restart k) o) c.with_outcome.ensures) in
    let numbers : c.note.new.self.items ≡ noted_no_media c.args.number r.no_media_numbers =
    c.note.ensures ∙ ap (λ (ns : List ℕ). noted_no_media c.args.number ns) c.make_room.ensures.same in
    noted_both c.args.number (arrival_of c.args.kept) r c.args.self.now _ c.store.new.buffer o c.note.new.self.items c.with_kept-self-inside.result c.self.view_is
    (rw (c.kept_number-before.ensures, c.sequence_number.ensures) at c.in_ok-outcome.ensures.takes) (rw (c.kept_number-before.ensures, c.sequence_number.ensures) at c.in_ok-outcome.ensures.outcome) numbers counters refl
