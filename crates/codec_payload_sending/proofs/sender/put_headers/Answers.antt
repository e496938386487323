use Rattle.std.proofs.Common.{◌≡◌, ◌∙◌, ◌<◌, ◌+◌, ap, arith, length}
use Rattle.std.proofs.lemmas.List.{length-set}
use Rattle.std.proofs.lemmas.Result.{err_from_is_err_and}
use Rattle.codec_payload_base.specs.PayloadLists.{PayloadList}
use Rattle.codec_payload_codec.specs.Packetizers.{packetizer_state_of}
use Rattle.codec_payload_sending.specs.Datagrams.{sample_of}
use Rattle.codec_payload_sending.proofs.OwnLemmas.{HeadsAt, asked_headed, asked_then, headed_next}
use Rattle.codec_payload_sending.proofs.sender.put_headers.Goals as goal

pub loop-place-preserved : goal.loop-place-preserved
loop-place-preserved g c =
    let here = c.loop-place.invariant in
    let out = c.loop-place.packets.out in
    let given = c.args.packets.now.out in
    let sample = sample_of c.args.sample.now in
    let count = length given.payloads in
    let ok = rw (here.rest, here.same) at c.in_ok-put_header.ensures.ok in
    let few : c.loop-place.place < length out.headers = omega (arith, here.many, c.len-place-end.ensures.payloads) in
    record {
      same = c.put_header.ensures.same ∙ here.same;
      rest = c.put_header.ensures.rest ∙ ap (λ (o : PayloadList). record o { headers = c.put_header.new.packets.out.headers }) here.rest;
      many = ap length ok.2 ∙ length-set out.headers c.loop-place.place ok.0 ∙ here.many;
      so_far = headed_next c.args.stream.now (packetizer_state_of c.args.packetizer.now) sample count c.loop-place.place out.headers c.put_header.new.packets.out.headers ok.0
          few ok.2 ok.1 here.so_far;
      own = λ b is.
          let now = here.own b is in
          let one = rw here.rest at (c.in_ok-put_header.ensures.own now.0 now.1) in (
            one.0,
            one.1,
            asked_headed g.B.Packetizer.state g.B.Packetizer.marker_step g.B.Packetizer.marks_spurts c.args.stream.now sample given.payloads out.headers
                c.put_header.new.packets.out.headers one.4.0 count c.loop-place.place b now.0 one.0 one.2 few one.4.2 now.2 one.3 one.4.1,
          );
    }

pub returns-clause-own : goal.returns-clause-own
returns-clause-own g c = λ before is.
    let now = c.loop-place.invariant.own before is in
    let all : c.loop-place.place ≡ length c.args.packets.now.out.payloads = omega (arith, c.len-place-end.ensures.payloads) in
    (now.0, now.1, rw all at now.2)

pub returns-in_err-put_header-clause-own : goal.returns-in_err-put_header-clause-own
returns-in_err-put_header-clause-own g c = λ before is.
    let here = c.loop-place.invariant in
    let exit = err_from_is_err_and c.from_residual.result c.from_residual.ensures.1 in
    let now = here.own before is in
    let one = rw here.rest at (c.put_header.ensures.own now.0 now.1) in
    let sample = sample_of c.args.sample.now in
    let given = c.args.packets.now.out in (
      one.0,
      one.1,
      rw exit.1 (
        c.loop-place.place + 1,
        omega (arith, c.len-place-end.ensures.payloads),
        asked_then g.B.Packetizer.state g.B.Packetizer.marker_step g.B.Packetizer.marks_spurts sample given.payloads
            (HeadsAt c.args.stream.now sample (length given.payloads) c.loop-place.packets.out.headers) c.loop-place.place before now.0 one.0 one.2 now.2 one.3,
      ),
    )
