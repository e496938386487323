use Rattle.std.proofs.Common.{◌≡◌, ◌∙◌, ◌++◌, List, ℕ, append_assoc, ap, rules, sym, true, Some, Ok}
use Rattle.std.specs.Int.{w16, to_be_bytes}
use Rattle.codec_payload_rtp.specs.RtpPackets.{Packet}
use Rattle.codec_payload_rtp.specs.RtpReading.{rtp_at}
use Rattle.codec_payload_rtp.specs.RtpValues.{packet_of}
use Rattle.codec_payload_forward_runs.specs.ForwardRuns.{packet_read}
use Rattle.codec_payload_server_runs.proofs.ServeLemmas.{fits_both}
use Rattle.codec_payload_server_runs.specs.ServeRuns.{IsAgain, fits_in, repeated_in}
use Rattle.codec_payload_server_runs.proofs.run.retransmission_of.Goals as goal

pub returns : goal.returns
returns c =
    let p : Packet = packet_of c.in-Ok.packet in
    let reads : rtp_at c.args.datagram.now ≡ Ok p = sym c.in-Ok.ensures.exact in
    let fits : fits_in c.args.stream c.args.again ≡ true = fits_both c.args.stream c.args.again c.if-stream-gt127.false c.if-again-gt127.false in
    let is : repeated_in c.args.stream c.args.again (Some c.args.datagram.now) ≡ Some p = rw fits (ap packet_read reads) in
    let header : List ℕ = c.write.new.out.items in
    let number : List ℕ = to_be_bytes w16 p.header.sequence_number in
    let numbered : c.extend_from_slice.new.self.items ≡ header ++ number = search rules in
    let whole : c.extend_from_slice-2.new.self.items ≡ c.extend_from_slice.new.self.items ++ p.payload = search rules in
    let begins : header ≡ c.new-out.result.items ++ header = sym (ap (λ (xs : List ℕ). xs ++ header) c.new-out.ensures.items) in
    let written : IsAgain c.args.again p c.extend_from_slice-2.new.self.items =
    ap rtp_at (whole ∙ (ap (λ (xs : List ℕ). xs ++ p.payload) numbered ∙ append_assoc header number p.payload)) ∙ c.in_ok-write.ensures.comes_back header (number ++ p.payload) begins in
    (p, is, written, c.in-Ok.ensures.spelled)
