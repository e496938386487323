use Rattle.std.proofs.Common.{◌≡◌, ◌∙◌, ℕ, Bool, ap, rules, sym, subst, Option}
use Rattle.std.specs.Option.{is_some, option_map}
use Rattle.codec_payload_jitter.specs.declared.outcome.Outcome.{Outcome}
use Rattle.codec_payload_receiver.specs.Noting.{Noting, noted_with, notes_after, noting_of, pending_in, restart_between, restart_if}
use Rattle.codec_payload_datagrams.specs.Choice.{Choosing, latest_after, origin_of}
use Rattle.codec_payload_datagrams.specs.Kinds.{Datagram, datagram_of, takes_memory}
use Rattle.codec_payload_numbers.specs.SeenTimes.{Seen}
use Rattle.codec_payload_receiver.specs.Sessions.{Heard, IsSorted, Session, arrived_with, has_restarted, is_suspect, observed_unless, reception_after, ssrc_after}
use Rattle.codec_payload_numbers.specs.Reports.{Reception, reception_since}
use Rattle.codec_payload_receiver.specs.declared.notes.PendingNote.{PendingNote}
use Rattle.codec_payload_receiver.specs.declared.receiver.Arrived.{Arrived}
use Rattle.codec_payload_receiver.proofs.NotingLemmas.{is_restart_if, room_then}
use Rattle.codec_payload_receiver.proofs.SessionLemmas.{heard, restarts_with_memory, takes_balanced}
use Rattle.codec_payload_receiver.proofs.receiver.Receiver.hear_datagram.Goals as goal

pub invariant_of-self-2 : goal.invariant_of-self-2
invariant_of-self-2 g c =
    let d : Datagram = datagram_of c.args.datagram.now in
    let kept : IsSorted (arrived_with c.self.inside.arrived d) c.take.new.packets.counters =
    takes_balanced c.self.inside.stream c.args.now c.self.inside.arrived d (record { packets = c.self.inside.packets; seen = c.self.inside.seen }) (record { packets = c.take.new.packets; seen = c.take.new.seen }) c.in-Ok-take.taken.outcome c.in-Ok-take.taken.whole c.in-Ok-take.ensures.ok c.self.invariant in
    subst (λ (a : Arrived). IsSorted a c.take.new.packets.counters) (sym c.with_datagram-self-inside.ensures) kept

pub returns-clause-heard : goal.returns-clause-heard
returns-clause-heard g c =
    let s : Session = record {
      stream = c.self.inside.stream;
      named = c.self.inside.named;
      ssrc = c.self.inside.ssrc;
      packets = c.self.inside.packets;
      arrived = c.self.inside.arrived;
      time = c.self.inside.times;
      reception = c.self.inside.statistics;
      choice = c.self.inside.choice;
      seen = c.self.inside.seen;
      gates = c.self.inside.gates;
      bound = c.self.inside.bound;
      notes = option_map noting_of c.self.inside.notes;
    } in
    let d : Datagram = datagram_of c.args.datagram.now in
    let after = c.take.new.packets in
    let o : Outcome = c.in-Ok-take.taken.outcome in
    let seen : Seen = c.take.new.seen in
    let notes : Option Noting = option_map noting_of c.settle_note.new.notes in
    let restarted : c.found_by-found.result.has_restarted ≡ has_restarted s.packets after = search rules in
    let counts : observed_unless c.found_by-found.result.is_suspect (reception_since c.found_by-found.result.has_restarted s.reception) c.args.now.0 d ≡ reception_after o s.packets after s.reception c.args.now.0 d =
    ap (λ (b : Bool). observed_unless b (reception_since c.found_by-found.result.has_restarted s.reception) c.args.now.0 d) c.found_by-found.ensures.suspect
    ∙ ap (λ (b : Bool). observed_unless (is_suspect o) (reception_since b s.reception) c.args.now.0 d) restarted in
    let restart : c.restart_by-restart.result ≡ restart_between s.packets after =
    c.restart_by-restart.ensures ∙ ap (λ (b : Bool). restart_if b c.has_suspect-has_kept.result) restarted ∙ ap (restart_if (has_restarted s.packets after)) c.has_suspect-has_kept.ensures in
    let noted : notes ≡ notes_after s.notes s.stream d o s.packets after =
    c.settle_note.ensures
    ∙ ap (λ (n : Option Noting). noted_with n c.in-Ok.note o c.restart_by-restart.result after) c.in-Ok.ensures.same
    ∙ ap (λ (p : Option PendingNote). noted_with s.notes p o c.restart_by-restart.result after) c.in-Ok.ensures.note
    ∙ ap (λ (x : Option Bool). noted_with s.notes (pending_in s.notes s.stream d) o x after) restart in
    let t : Session = record s { ssrc = c.ssrc_after-self-inside.result; packets = after; arrived = c.with_datagram-self-inside.result; reception = c.observe.new.statistics; choice = c.note-2.new.self; seen = seen; notes = notes } in
    let left : t ≡ record s {
      ssrc = ssrc_after s.ssrc d;
      packets = after;
      arrived = arrived_with s.arrived d;
      reception = reception_after o s.packets after s.reception c.args.now.0 d;
      choice = record s.choice { latest = latest_after s.choice.latest c.args.now.0 (origin_of d) };
      seen = seen;
      notes = notes_after s.notes s.stream d o s.packets after;
    } =
    ap (λ (o : Option ℕ). record s { ssrc = o; packets = after; arrived = c.with_datagram-self-inside.result; reception = c.observe.new.statistics; choice = c.note-2.new.self; seen = seen; notes = notes }) c.ssrc_after-self-inside.ensures
    ∙ ap (λ (a : Arrived). record s { ssrc = ssrc_after s.ssrc d; packets = after; arrived = a; reception = c.observe.new.statistics; choice = c.note-2.new.self; seen = seen; notes = notes }) c.with_datagram-self-inside.ensures
    ∙ ap (λ (x : Reception). record s { ssrc = ssrc_after s.ssrc d; packets = after; arrived = arrived_with s.arrived d; reception = x; choice = c.note-2.new.self; seen = seen; notes = notes }) (c.observe.ensures ∙ counts)
    ∙ ap (λ (x : Choosing). record s { ssrc = ssrc_after s.ssrc d; packets = after; arrived = arrived_with s.arrived d; reception = reception_after o s.packets after s.reception c.args.now.0 d; choice = x; seen = seen; notes = notes }) c.note-2.ensures
    ∙ ap (λ (x : Option Noting). record s {
      ssrc = ssrc_after s.ssrc d;
      packets = after;
      arrived = arrived_with s.arrived d;
      reception = reception_after o s.packets after s.reception c.args.now.0 d;
      choice = record s.choice { latest = latest_after s.choice.latest c.args.now.0 (origin_of d) };
      seen = seen;
      notes = x;
    }) noted in
    let made : Heard c.args.now d s c.answer_for.result t = heard c.args.now d s t c.in-Ok-take.taken.outcome c.in-Ok-take.taken.whole after seen c.answer_for.result c.in-Ok-take.ensures.ok c.answer_for.ensures left in
    subst (λ (x : Session). Heard c.args.now d x c.answer_for.result t) c.self.view_is made

pub settle_note-requires : goal.settle_note-requires
settle_note-requires g c =
    let s : Session = record {
      stream = c.self.inside.stream;
      named = c.self.inside.named;
      ssrc = c.self.inside.ssrc;
      packets = c.self.inside.packets;
      arrived = c.self.inside.arrived;
      time = c.self.inside.times;
      reception = c.self.inside.statistics;
      choice = c.self.inside.choice;
      seen = c.self.inside.seen;
      gates = c.self.inside.gates;
      bound = c.self.inside.bound;
      notes = option_map noting_of c.self.inside.notes;
    } in
    let d : Datagram = datagram_of c.args.datagram.now in
    let restarts : Bool = c.found_by-found.result.has_restarted in
    let some : is_some c.restart_by-restart.result ≡ restarts = ap is_some c.restart_by-restart.ensures ∙ is_restart_if restarts c.has_suspect-has_kept.result in
    let is : restarts ≡ has_restarted s.packets c.take.new.packets = search rules in
    room_then (takes_memory d) (is_some c.restart_by-restart.result) c.in-Ok.note c.prepare_note.new.notes
    (λ confirms. restarts_with_memory s.stream c.args.now d (record { packets = s.packets; seen = s.seen }) c.in-Ok-take.taken.outcome c.in-Ok-take.taken.whole (record { packets = c.take.new.packets; seen = c.take.new.seen }) c.in-Ok-take.ensures.ok (sym is ∙ sym some ∙ confirms))
    c.in-Ok.ensures.room
