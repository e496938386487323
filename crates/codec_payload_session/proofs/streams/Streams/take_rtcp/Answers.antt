use Rattle.std.proofs.Common.{◌≡◌, ◌∙◌, ◌+◌, ◌-◌, ◌^◌, ℕ, List, Ok, Result, ap, false, min, refl, rules, subst}
use Rattle.codec_payload_rtcp.specs.RtcpPackets.{Packet}
use Rattle.codec_payload_rtcp.specs.RtcpReading.{compound_at, packets_left}
use Rattle.codec_payload_rtcp.specs.declared.packet.RtcpError.{RtcpError}
use Rattle.codec_payload_session.specs.Arrivals.{Port, TakesInAs, exchanged_by, goodbye_in, left_where}
use Rattle.codec_payload_session_stream.specs.Reports.{noted_in}
use Rattle.codec_payload_session_formats.specs.Sorting.{Sorted, sorted_rtcp}
use Rattle.codec_payload_session_stream.specs.declared.arrival.Arrival.TheVariants as arrivals
use Rattle.codec_payload_session_stream.specs.declared.stream.Ending.TheVariants as endings
use Rattle.codec_payload_session.proofs.streams.Streams.take_rtcp.Goals as goal

pub returns-in-Ok : goal.returns-in-Ok
returns-in-Ok c =
    let p : Port = c.args.self.now in
    let last : ℕ = min (c.args.now.0 + c.args.settings.now.bye_wait) (2 ^ 64 - 1) in
    let at : c.saturating_add-at.result ≡ last = search rules in
    let taken = λ (o : Result (List Packet) RtcpError) (n : ℕ). record p { streams = left_where (λ ssrc. goodbye_in ssrc o) endings.Bye n (noted_in c.args.now o p.streams) } in
    let exchanges = λ (q : Port). exchanged_by c.args.settings.now.feedback c.args.settings.now.tick_rate c.args.now.0 c.args.datagram.now q in
    let packets : Result (List Packet) RtcpError = Ok (packets_left c.in-Ok.packets) in
    let read : packets ≡ compound_at false c.args.datagram.now = c.in-Ok.ensures.exact in
    subst (λ (d : Sorted). TakesInAs d c.args.settings.now c.args.now c.args.datagram.now p (Ok arrivals.Rtcp) c.exchange_by.new.self) (ap sorted_rtcp read)
    (refl, c.exchange_by.ensures ∙ ap exchanges (c.take_packets.ensures ∙ ap (taken packets) at ∙ ap (λ (o : Result (List Packet) RtcpError). taken o last) read))
