use Rattle.std.proofs.Common.{◌≡◌, ◌∙◌, ap, sym, subst, refl, length}
use Rattle.std.specs.Option.{option_map}
use Rattle.codec_payload_numbers.specs.NotedTimes.{Noted, noted_with}
use Rattle.codec_payload_numbers.specs.declared.noted_times.NotedTime.{NotedTime}
use Rattle.codec_payload_jitter.specs.KeptMissing.{Keeps, Kept, touched}
use Rattle.codec_payload_jitter.specs.Receiving.{Receiving, IsCounted, arrival_of, counted, counted_again, counted_restart}
use Rattle.codec_payload_jitter.specs.declared.outcome.PacketCounters.{PacketCounters}
use Rattle.codec_payload_jitter.proofs.ReceivingLemmas.{conserved_both}
use Rattle.codec_payload_jitter.proofs.RestartingLemmas.{stored_both}
use Rattle.codec_payload_jitter.proofs.KeptStores.{stored_both_keeps}
use Rattle.codec_payload_jitter.proofs.jitter.JitterBuffer.store_both.Goals as goal

pub invariant_of-self-2 : goal.invariant_of-self-2
invariant_of-self-2 g c =
    let both = c.in_ok-outcomes.outcomes in
    let counters : c.with_kept-self-inside.result ≡ counted_again (counted_restart (counted c.self.inside.counters both.0)) both.1 =
    c.with_kept-self-inside.ensures ∙ (ap (λ (k : PacketCounters). counted_again k both.1) c.with_restart-counters.ensures
    ∙ ap (λ (k : PacketCounters). counted_again (counted_restart k) both.1) c.with_outcome.ensures) in
    let kept = conserved_both c.self.inside.clock_rate (arrival_of c.args.packet) c.args.number (arrival_of c.args.kept) c.kept_number-before.result c.self.inside.buffer c.store_two.new.buffer both
    c.self.inside.counters c.in_ok-outcomes.ensures.takes c.self.invariant.0 in (
      subst (λ (k : PacketCounters). IsCounted k (length c.store_two.new.buffer.held)) (sym counters) kept,
      subst (λ (k : Kept). Keeps k c.store_two.new.buffer c.self.inside.no_media_numbers.items) (sym (c.touch-2.ensures ∙ ap (touched c.kept_number-before.result) c.touch.ensures))
          (stored_both_keeps c.self.inside.clock_rate c.args.number c.kept_number-before.result (arrival_of c.args.packet) (arrival_of c.args.kept) c.self.inside.kept_missing c.self.inside.buffer c.store_two.new.buffer
          c.self.inside.no_media_numbers.items both c.store_two.ensures.sound c.in_ok-outcomes.ensures.takes c.self.invariant.1),
    )

pub returns-clause-ok : goal.returns-clause-ok
returns-clause-ok g c =
    let r : Receiving = record {
      numbering = c.self.inside.numbers;
      buffer = c.self.inside.buffer;
      no_media_numbers = c.self.inside.no_media_numbers.items;
      noted = c.self.inside.noted_times.noted;
      first = c.self.inside.first;
      kept = option_map arrival_of c.self.inside.kept;
      rate = c.self.inside.clock_rate;
      wait_limits = c.self.inside.wait_limits;
      ended = c.self.inside.ended;
      counters = c.self.inside.counters;
      lowest = c.self.inside.lowest;
      is_restarting = c.self.inside.is_restarting;
      room = c.self.inside.room;
    } in
    let both = c.in_ok-outcomes.outcomes in
    let counters : c.with_kept-self-inside.result ≡ counted_again (counted_restart (counted r.counters both.0)) both.1 =
    c.with_kept-self-inside.ensures ∙ (ap (λ (k : PacketCounters). counted_again k both.1) c.with_restart-counters.ensures
    ∙ ap (λ (k : PacketCounters). counted_again (counted_restart k) both.1) c.with_outcome.ensures) in
    let x : NotedTime = record { number = c.args.number; time = c.args.packet.header.timestamp } in
    let noted : c.note.new.self.noted ≡ noted_with r.noted x = (rw c.timestamp.ensures at c.note.ensures) ∙ ap (λ (s : Noted). noted_with s x) c.make_room.ensures.same in
    stored_both c.args.number (arrival_of c.args.packet) (arrival_of c.args.kept) r c.args.self.now _ c.store_two.new.buffer both c.note.new.self.noted c.with_kept-self-inside.result c.self.view_is
    (rw (c.kept_number-before.ensures, c.sequence_number.ensures) at c.in_ok-outcomes.ensures.takes) noted counters refl
