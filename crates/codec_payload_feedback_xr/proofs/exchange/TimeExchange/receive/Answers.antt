use Rattle.std.proofs.Common.{◌≡◌, ◌∙◌, ◌||◌, ℕ, List, Bool, ap, rules, sym}
use Rattle.std.specs.Option.{is_some}
use Rattle.codec_payload_rtcp.specs.RtcpPackets.{Packet}
use Rattle.codec_payload_rtcp.specs.RtcpReading.{packets_left}
use Rattle.codec_payload_rtcp.specs.RtcpValues.{packet_of}
use Rattle.codec_payload_feedback_xr.specs.Exchange.{answer_of, any_at, taken_all}
use Rattle.codec_payload_feedback_xr.specs.RoundTrip.{middle_bits, ntp_time}
use Rattle.codec_payload_feedback_xr.specs.declared.exchange.TimeExchange.{TimeExchange}
use Rattle.codec_payload_feedback_xr.proofs.ExchangeLemmas.{or_more, or_none}
use Rattle.codec_payload_feedback_xr.proofs.exchange.TimeExchange.receive.Goals as goal

pub loop-packet-preserved : goal.loop-packet-preserved
loop-packet-preserved c =
    let ssrc : ℕ = c.args.ssrc in
    let rate : ℕ = c.args.tick_rate in
    let at : ℕ = c.middle_bits-at.result in
    let rest : List Packet = packets_left c.next.new.self in
    let p : Packet = packet_of c.in-Some.packet in
    let before : TimeExchange = c.loop-packet.self in
    let so_far : Bool = c.loop-packet.answers in
    record {
      after = ap (λ (x : TimeExchange). taken_all ssrc rate at rest x) c.take-is_answer.ensures.after
          ∙ ap (λ (ps : List Packet). taken_all ssrc rate at ps before) (sym c.in-Some.ensures.steps)
          ∙ c.loop-packet.invariant.after;
      answers = ap (λ (b : Bool). b || any_at ssrc rate at rest) (c.either-answers.ensures ∙ ap (λ (b : Bool). so_far || b) c.take-is_answer.ensures.answers)
          ∙ or_more so_far (is_some (answer_of ssrc rate at p)) (any_at ssrc rate at rest)
          ∙ ap (λ (ps : List Packet). so_far || any_at ssrc rate at ps) (sym c.in-Some.ensures.steps)
          ∙ c.loop-packet.invariant.answers;
    }

pub returns-clause-after : goal.returns-clause-after
returns-clause-after c =
    let at_is : c.middle_bits-at.result ≡ middle_bits (ntp_time c.args.now.0 c.args.tick_rate) = search rules in
    ap (λ (ps : List Packet). taken_all c.args.ssrc c.args.tick_rate c.middle_bits-at.result ps c.loop-packet.self) (sym c.in_default.ensures.steps.0)
    ∙ c.loop-packet.invariant.after
    ∙ ap (λ (n : ℕ). taken_all c.args.ssrc c.args.tick_rate n (packets_left c.args.packets) c.args.self.now) at_is

pub returns-clause-answers : goal.returns-clause-answers
returns-clause-answers c =
    let at_is : c.middle_bits-at.result ≡ middle_bits (ntp_time c.args.now.0 c.args.tick_rate) = search rules in
    or_none c.loop-packet.answers
    ∙ ap (λ (ps : List Packet). c.loop-packet.answers || any_at c.args.ssrc c.args.tick_rate c.middle_bits-at.result ps) (sym c.in_default.ensures.steps.0)
    ∙ c.loop-packet.invariant.answers
    ∙ ap (λ (n : ℕ). any_at c.args.ssrc c.args.tick_rate n (packets_left c.args.packets)) at_is
