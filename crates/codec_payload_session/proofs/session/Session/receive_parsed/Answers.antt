use Rattle.std.proofs.Common.{◌≤◌, Bool, Option, length, subst, sym}
use Rattle.codec_payload_rtp.specs.RtpPackets.{Packet}
use Rattle.codec_payload_session.specs.Associations.{Associates, AssociatesBy, pair_at}
use Rattle.codec_payload_session.specs.Ports.{IsPort, Session}
use Rattle.codec_payload_session_stream.specs.Telephone.{Queue, is_without_media, telephone_at}
use Rattle.codec_payload_session_formats.specs.declared.formats.SsrcPair.{SsrcPair}
use Rattle.codec_payload_session.specs.declared.session.ArrivalCounts.{ArrivalCounts}
use Rattle.codec_payload_session.proofs.AssociationLemmas.{associates, takes_in_by_keeps}
use Rattle.codec_payload_session.proofs.CheckLemmas.{takes_usable}
use Rattle.codec_payload_session_stream.proofs.TelephoneLemmas.{queues_settled, stay_few}
use Rattle.codec_payload_session.proofs.session.Session.receive_parsed.Goals as goal

pub invariant_of-self : goal.invariant_of-self
invariant_of-self c = record {
  usable = c.self.invariant.usable;
  port = c.self.invariant.port;
  few = subst (λ (q : Queue). length q.waiting ≤ 32) (sym c.in_err-noted.ensures.unchanged) c.self.invariant.few;
}

pub invariant_of-self-2 : goal.invariant_of-self-2
invariant_of-self-2 c =
    let taken : Bool = is_without_media c.receive_or_associate-answer.result in
    let told : Option Packet = telephone_at c.self.inside.settings c.args.datagram.now in
    let pair : Option SsrcPair = pair_at c.self.inside.settings c.args.now.0 c.args.datagram.now c.self.inside.streams.streams in
    record {
      usable = takes_usable pair c.args.now c.args.datagram.now c.self.inside.settings c.self.inside.streams c.receive_or_associate-answer.result c.receive_or_associate-answer.new.settings c.receive_or_associate-answer.new.streams
          c.receive_or_associate-answer.ensures c.self.invariant.usable;
      port = subst (λ (n : ArrivalCounts). IsPort c.receive_or_associate-answer.new.settings c.receive_or_associate-answer.new.streams n) (sym c.count.ensures)
          (takes_in_by_keeps pair c.args.now c.args.datagram.now c.self.inside.settings c.self.inside.streams c.receive_or_associate-answer.result c.receive_or_associate-answer.new.settings c.receive_or_associate-answer.new.streams
          c.self.inside.counts c.receive_or_associate-answer.ensures c.self.invariant.port);
      few = stay_few taken told c.self.inside.telephone c.settle.new.self
          (queues_settled taken told c.self.inside.telephone c.in_ok-noted.noted c.note.new.self c.settle.new.self c.in_ok-noted.ensures.ok c.settle.ensures) c.self.invariant.few;
    }

pub returns : goal.returns
returns c =
    let taken : Bool = is_without_media c.receive_or_associate-answer.result in
    let told : Option Packet = telephone_at c.self.inside.settings c.args.datagram.now in
    let s : Session = record { settings = c.self.inside.settings; port = c.self.inside.streams; counts = c.self.inside.counts; telephone = c.self.inside.telephone; report_due = c.self.inside.report_due; transport = c.self.inside.transport } in
    let t : Session = record { settings = c.receive_or_associate-answer.new.settings; port = c.receive_or_associate-answer.new.streams; counts = c.count.new.self; telephone = c.settle.new.self; report_due = c.self.inside.report_due; transport = c.self.inside.transport } in
    let pair : Option SsrcPair = pair_at c.self.inside.settings c.args.now.0 c.args.datagram.now c.self.inside.streams.streams in
    subst (λ (x : Session). Associates c.args.now c.args.datagram.now x c.receive_or_associate-answer.result t) c.self.view_is
    (subst (λ (n : ArrivalCounts). AssociatesBy pair c.args.now c.args.datagram.now s c.receive_or_associate-answer.result (record t { counts = n })) (sym c.count.ensures)
    (associates pair c.args.now c.args.datagram.now s c.receive_or_associate-answer.result c.receive_or_associate-answer.new.settings c.receive_or_associate-answer.new.streams c.settle.new.self c.receive_or_associate-answer.ensures
    (queues_settled taken told c.self.inside.telephone c.in_ok-noted.noted c.note.new.self c.settle.new.self c.in_ok-noted.ensures.ok c.settle.ensures)))
