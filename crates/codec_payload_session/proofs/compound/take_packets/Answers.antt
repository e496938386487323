use Rattle.std.proofs.Common.{◌∙◌, ℕ, List, [], ◌∷◌, Bool, ap, refl, sym}
use Rattle.codec_payload_rtcp.specs.RtcpPackets.{Packet}
use Rattle.codec_payload_rtcp.specs.RtcpReading.{packets_left}
use Rattle.codec_payload_rtcp.specs.RtcpValues.{packet_of}
use Rattle.codec_payload_session.specs.Arrivals.{left_if, left_where, say_goodbye, says_goodbye}
use Rattle.codec_payload_session_stream.specs.Reports.{noted, noted_where}
use Rattle.codec_payload_session_stream.specs.Waking.{ssrcs_of}
use Rattle.codec_payload_session_stream.specs.declared.stream.Ending.TheVariants as endings
use Rattle.codec_payload_session_stream.specs.declared.stream.StreamState.{StreamState}
use Rattle.codec_payload_session.proofs.GoodbyeLemmas.{left_either, left_nobody, noted_left}
use Rattle.codec_payload_session_stream.proofs.ReportLemmas.{noted_first, noted_nothing}
use Rattle.codec_payload_session.proofs.SsrcLemmas.{left_ssrc, same_mapped}
use Rattle.codec_payload_session.proofs.compound.take_packets.Goals as goal

pub leave_by_packet-named-requires : goal.leave_by_packet-named-requires
leave_by_packet-named-requires c =
    c.loop-packet.invariant.listed ∙ sym (ap ssrcs_of c.note_packet.ensures ∙ same_mapped (noted c.args.now (packet_of c.in-Some.packet ∷ [])) c.loop-packet.streams (λ s. refl))

pub loop-packet-preserved : goal.loop-packet-preserved
loop-packet-preserved c =
    let rest : List Packet = packets_left c.next.new.self in
    let p : Packet = packet_of c.in-Some.packet in
    let first : ℕ → Bool = λ ssrc. says_goodbye ssrc p in
    let others : ℕ → Bool = λ ssrc. say_goodbye ssrc rest in
    let before : List StreamState = c.loop-packet.streams in
    record {
      taken =
          ap (λ (ss : List StreamState). left_where others endings.Bye c.args.at (noted_where c.args.now rest ss)) (c.leave_by_packet-named.ensures.left ∙ ap (λ (ss : List StreamState). left_where first endings.Bye c.args.at ss) c.note_packet.ensures)
          ∙ ap (λ (ss : List StreamState). left_where others endings.Bye c.args.at ss) (noted_left c.args.now rest first endings.Bye c.args.at (noted_where c.args.now (p ∷ []) before))
          ∙ left_either first others endings.Bye c.args.at (noted_where c.args.now rest (noted_where c.args.now (p ∷ []) before))
          ∙ ap (λ (ss : List StreamState). left_where (λ ssrc. say_goodbye ssrc (p ∷ rest)) endings.Bye c.args.at ss) (noted_first c.args.now p rest before)
          ∙ ap (λ (ps : List Packet). left_where (λ ssrc. say_goodbye ssrc ps) endings.Bye c.args.at (noted_where c.args.now ps before)) (sym c.in-Some.ensures.steps)
          ∙ c.loop-packet.invariant.taken;
      listed = c.loop-packet.invariant.listed
          ∙ sym (ap ssrcs_of c.leave_by_packet-named.ensures.left ∙ same_mapped (left_if first endings.Bye c.args.at) c.note_packet.new.streams (λ s. left_ssrc (first s.ssrc) endings.Bye c.args.at s)
          ∙ ap ssrcs_of c.note_packet.ensures ∙ same_mapped (noted c.args.now (p ∷ [])) before (λ s. refl));
      stays = λ is.
          let both = c.either-ends.ensures is in
          ap (λ (ss : List StreamState). noted_where c.args.now rest ss) (c.leave_by_packet-named.ensures.stays both.1 ∙ c.note_packet.ensures)
          ∙ noted_first c.args.now p rest before
          ∙ ap (λ (ps : List Packet). noted_where c.args.now ps before) (sym c.in-Some.ensures.steps)
          ∙ c.loop-packet.invariant.stays both.0;
    }

pub returns-clause-taken : goal.returns-clause-taken
returns-clause-taken c =
    sym (noted_nothing c.args.now c.loop-packet.streams)
    ∙ sym (left_nobody (λ ssrc. say_goodbye ssrc []) endings.Bye c.args.at (noted_where c.args.now [] c.loop-packet.streams) (λ ssrc. refl))
    ∙ ap (λ (ps : List Packet). left_where (λ ssrc. say_goodbye ssrc ps) endings.Bye c.args.at (noted_where c.args.now ps c.loop-packet.streams)) (sym c.in_default.ensures.steps.0)
    ∙ c.loop-packet.invariant.taken

pub returns-clause-stays : goal.returns-clause-stays
returns-clause-stays c = λ is.
    sym (noted_nothing c.args.now c.loop-packet.streams) ∙ ap (λ (ps : List Packet). noted_where c.args.now ps c.loop-packet.streams) (sym c.in_default.ensures.steps.0) ∙ c.loop-packet.invariant.stays is
