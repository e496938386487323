use Rattle.std.proofs.Common.{◌≡◌, ◌∙◌, ◌++◌, ◌∷◌, [], List, ℕ, Some, Result, Ok, ap, length, option_map, refl, rules, sym}
use Rattle.std.specs.Global.{Vec}
use Rattle.std.specs.Prelude.{slice_get}
use Rattle.std.proofs.lemmas.Option.{slice_get-map, slice_get_read}
use Rattle.codec_payload_rtp.specs.RtpPackets.{Packet}
use Rattle.codec_payload_rtp.specs.RtpReading.{rtp_at}
use Rattle.codec_payload_rtp.specs.RtpValues.{packet_of}
use Rattle.codec_payload_rtp.specs.declared.rtp.RtpError.{RtpError}
use Rattle.codec_payload_datagram_runs.specs.WireRuns.{bytes_in}
use Rattle.codec_payload_forward_runs.specs.ForwardRuns.{packet_in, packet_read}
use Rattle.codec_payload_forward_runs.proofs.leave_run.do_leave_step.Goals as goal

abbrev bytes_of : Vec ℕ → List ℕ
bytes_of v = v.items

pub returns-in_ok-answer-in-LeaveOut-clause-ok : goal.returns-in_ok-answer-in-LeaveOut-clause-ok
returns-in_ok-answer-in-LeaveOut-clause-ok g c =
    let all = c.deref.result.now in
    let there = slice_get_read all (length all) c.in-LeaveOut.datagram c.in-Some.bytes.now refl c.in-Some.ensures.lookup.3.0 c.in-Some.ensures.lookup.1 in
    let here : slice_get (bytes_in c.args.run.now.run.datagrams.items) c.in-LeaveOut.datagram ≡ Some c.in-Some.bytes.now.items = ap (λ (vs : List (Vec ℕ)). slice_get (bytes_in vs) c.in-LeaveOut.datagram) (sym c.deref.ensures.value)
    ∙ (slice_get-map bytes_of all c.in-LeaveOut.datagram ∙ ap (λ o. option_map bytes_of o) there) in
    let reads : rtp_at c.in-Some.bytes.now.items ≡ Ok (packet_of c.in-Ok.packet) = sym (rw c.deref-in-LeaveOut.ensures.value at c.in-Ok.ensures.exact) in
    let is : packet_in (slice_get (bytes_in c.args.run.now.run.datagrams.items) c.in-LeaveOut.datagram) ≡ Some (packet_of c.in-Ok.packet) =
    ap packet_in here ∙ ap (λ (r : Result Packet RtpError). packet_read r) reads in
    let done = c.in_ok-answer-in-LeaveOut.ensures.ok in
    let gained : c.push.new.self.items ≡ c.args.run.now.answers.items ++ c.in_ok-answer-in-LeaveOut.answer ∷ [] = search rules in
    rw c.in-LeaveOut.is (rw is (c.in_ok-answer-in-LeaveOut.answer, done.0, c.leave_out.new.forwarder, done.1, rw (gained, done.2) refl))
