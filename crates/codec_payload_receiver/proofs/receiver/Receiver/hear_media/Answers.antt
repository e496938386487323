use Rattle.std.proofs.Common.{◌≡◌, ◌∙◌, Bool, Option, refl, ap, rules, sym, subst, true, Ok}
use Rattle.std.specs.Option.{option_map}
use Rattle.codec_payload_rtp.specs.RtpValues.{packet_of}
use Rattle.codec_payload_jitter.specs.declared.outcome.Outcome.{Outcome}
use Rattle.codec_payload_receiver.specs.Noting.{Noting, noting_of, notes_after}
use Rattle.codec_payload_datagrams.specs.Choice.{Choosing, latest_after, origin_of}
use Rattle.codec_payload_datagrams.specs.Kinds.{Datagram, WithMedia}
use Rattle.codec_payload_numbers.specs.SeenTimes.{Seen}
use Rattle.codec_payload_receiver.specs.Sessions.{Heard, Session, arrived_with, has_restarted, is_suspect, observed_unless, reception_after, ssrc_after}
use Rattle.codec_payload_numbers.specs.Reports.{Reception, reception_since}
use Rattle.codec_payload_receiver.proofs.NotingLemmas.{none_noted}
use Rattle.codec_payload_receiver.proofs.SessionLemmas.{heard, takes_balanced}
use Rattle.codec_payload_receiver.proofs.receiver.Receiver.hear_media.Goals as goal

pub invariant_of-self-2 : goal.invariant_of-self-2
invariant_of-self-2 g c =
    takes_balanced c.self.inside.stream c.args.now c.self.inside.arrived (WithMedia (packet_of c.args.packet.now)) (record { packets = c.self.inside.packets; seen = c.self.inside.seen })
    (record { packets = c.take_media.new.packets; seen = c.take_media.new.seen }) c.in-Ok.outcome true c.in-Ok.ensures.ok c.self.invariant

pub returns-clause-heard : goal.returns-clause-heard
returns-clause-heard g c =
    let s : Session = record {
      stream = c.self.inside.stream;
      named = c.self.inside.named;
      ssrc = c.self.inside.ssrc;
      packets = c.self.inside.packets;
      arrived = c.self.inside.arrived;
      time = c.self.inside.times;
      reception = c.self.inside.statistics;
      choice = c.self.inside.choice;
      seen = c.self.inside.seen;
      gates = c.self.inside.gates;
      bound = c.self.inside.bound;
      notes = option_map noting_of c.self.inside.notes;
    } in
    let d : Datagram = WithMedia (packet_of c.args.packet.now) in
    let after = c.take_media.new.packets in
    let seen : Seen = c.take_media.new.seen in
    let o : Outcome = c.in-Ok.outcome in
    let restarted : c.found_by-found.result.has_restarted ≡ has_restarted s.packets after = search rules in
    let counts : observed_unless c.found_by-found.result.is_suspect (reception_since c.found_by-found.result.has_restarted s.reception) c.args.now.0 d ≡ reception_after o s.packets after s.reception c.args.now.0 d =
    ap (λ (b : Bool). observed_unless b (reception_since c.found_by-found.result.has_restarted s.reception) c.args.now.0 d) c.found_by-found.ensures.suspect
    ∙ ap (λ (b : Bool). observed_unless (is_suspect o) (reception_since b s.reception) c.args.now.0 d) restarted in
    let t : Session = record s { ssrc = ssrc_after s.ssrc d; packets = after; arrived = arrived_with s.arrived d; reception = c.observe_media.new.statistics; choice = c.note_at.new.self; seen = seen } in
    let left : t ≡ record s {
      ssrc = ssrc_after s.ssrc d;
      packets = after;
      arrived = arrived_with s.arrived d;
      reception = reception_after c.in-Ok.outcome s.packets after s.reception c.args.now.0 d;
      choice = record s.choice { latest = latest_after s.choice.latest c.args.now.0 (origin_of d) };
      seen = seen;
      notes = notes_after s.notes s.stream d o s.packets after;
    } =
    ap (λ (x : Reception). record s { ssrc = ssrc_after s.ssrc d; packets = after; arrived = arrived_with s.arrived d; reception = x; choice = c.note_at.new.self; seen = seen }) (c.observe_media.ensures ∙ counts)
    ∙ ap (λ (x : Choosing). record s { ssrc = ssrc_after s.ssrc d; packets = after; arrived = arrived_with s.arrived d; reception = reception_after c.in-Ok.outcome s.packets after s.reception c.args.now.0 d; choice = x; seen = seen }) c.note_at.ensures
    ∙ ap (λ (x : Option Noting). record s {
      ssrc = ssrc_after s.ssrc d;
      packets = after;
      arrived = arrived_with s.arrived d;
      reception = reception_after o s.packets after s.reception c.args.now.0 d;
      choice = record s.choice { latest = latest_after s.choice.latest c.args.now.0 (origin_of d) };
      seen = seen;
      notes = x;
    }) (none_noted c.self.inside.notes s.stream d o s.packets after (sym c.is_some.ensures ∙ c.if-is_some.false)) in
    let made : Heard c.args.now d s (Ok c.in-Ok.outcome) t = heard c.args.now d s t c.in-Ok.outcome true after seen (Ok c.in-Ok.outcome) c.in-Ok.ensures.ok refl left in
    subst (λ (x : Session). Heard c.args.now d x (Ok c.in-Ok.outcome) t) c.self.view_is made
