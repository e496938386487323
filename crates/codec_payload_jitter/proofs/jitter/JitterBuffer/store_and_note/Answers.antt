use Rattle.std.proofs.Common.{◌≡◌, ◌∙◌, ap, sym, subst, refl, length}
use Rattle.std.specs.Option.{option_map}
use Rattle.codec_payload_numbers.specs.NotedTimes.{Noted, noted_with}
use Rattle.codec_payload_jitter.specs.KeptMissing.{Keeps, Kept}
use Rattle.codec_payload_jitter.specs.Receiving.{Receiving, IsCounted, arrival_of, counted}
use Rattle.codec_payload_numbers.specs.declared.noted_times.NotedTime.{NotedTime}
use Rattle.codec_payload_jitter.specs.declared.outcome.PacketCounters.{PacketCounters}
use Rattle.codec_payload_jitter.proofs.ReceivingLemmas.{conserved_in}
use Rattle.codec_payload_jitter.proofs.RestartingLemmas.{went_on}
use Rattle.codec_payload_jitter.proofs.KeptStores.{stored_keeps}
use Rattle.codec_payload_jitter.proofs.jitter.JitterBuffer.store_and_note.Goals as goal

pub invariant_of-self-2 : goal.invariant_of-self-2
invariant_of-self-2 g c =
    let kept : IsCounted (counted c.self.inside.counters c.in_ok-outcome.outcome) (length c.store.new.buffer.held) =
    conserved_in c.self.inside.clock_rate (arrival_of c.args.packet) c.args.number c.self.inside.buffer c.store.new.buffer c.in_ok-outcome.outcome c.self.inside.counters
    c.in_ok-outcome.ensures.takes c.in_ok-outcome.ensures.outcome c.self.invariant.0 in (
      subst (λ (k : PacketCounters). IsCounted k (length c.store.new.buffer.held)) (sym c.count.ensures) kept,
      subst (λ (k : Kept). Keeps k c.store.new.buffer c.self.inside.no_media_numbers.items) (sym c.touch.ensures)
          (stored_keeps c.self.inside.clock_rate c.args.number (arrival_of c.args.packet) c.self.inside.kept_missing c.self.inside.buffer c.store.new.buffer c.self.inside.no_media_numbers.items c.store.ensures.sound c.in_ok-outcome.ensures.takes c.self.invariant.1),
    )

pub returns-clause-ok : goal.returns-clause-ok
returns-clause-ok g c =
    let r : Receiving = record {
      numbering = c.self.inside.numbers;
      buffer = c.self.inside.buffer;
      no_media_numbers = c.self.inside.no_media_numbers.items;
      noted = c.self.inside.noted_times.noted;
      first = c.self.inside.first;
      kept = option_map arrival_of c.self.inside.kept;
      rate = c.self.inside.clock_rate;
      wait_limits = c.self.inside.wait_limits;
      ended = c.self.inside.ended;
      counters = c.self.inside.counters;
      lowest = c.self.inside.lowest;
      is_restarting = c.self.inside.is_restarting;
      room = c.self.inside.room;
    } in
    let x : NotedTime = record { number = c.args.number; time = c.args.packet.header.timestamp } in
    let noted : c.note.new.self.noted ≡ noted_with r.noted x = (rw c.timestamp.ensures at c.note.ensures) ∙ ap (λ (s : Noted). noted_with s x) c.make_room.ensures.same in
    went_on c.args.number (arrival_of c.args.packet) r c.args.self.now _ c.store.new.buffer c.in_ok-outcome.outcome c.note.new.self.noted c.count.new.counters c.self.view_is
    c.in_ok-outcome.ensures.takes c.in_ok-outcome.ensures.outcome noted c.count.ensures refl
