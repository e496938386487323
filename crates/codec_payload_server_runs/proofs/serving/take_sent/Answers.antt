use Rattle.std.proofs.Common.{◌≡◌, refl, ℕ, List, Option, Some, length}
use Rattle.std.specs.Global.{Vec}
use Rattle.std.specs.Prelude.{slice_get}
use Rattle.std.proofs.lemmas.Option.{slice_get_read}
use Rattle.codec_payload_codec.proofs.AnswerLemmas.{from_err}
use Rattle.codec_payload_datagram_runs.specs.WireRuns.{bytes_in}
use Rattle.codec_payload_server_runs.proofs.SentAt.{datagram_at}
use Rattle.codec_payload_server_runs.proofs.ServingArrivals.{took_in}
use Rattle.codec_payload_server_runs.proofs.serving.take_sent.Goals as goal

pub returns-clause-ok : goal.returns-clause-ok
returns-clause-ok c =
    let all = c.args.datagrams.now in
    let k = c.args.coming.datagram in
    let there = slice_get_read all (length all) k c.in-Some.bytes.now refl c.in-Some.ensures.lookup.3.0 c.in-Some.ensures.lookup.1 in
    took_in (slice_get (bytes_in all) k) c.in-Some.bytes.now (datagram_at all k c.in-Some.bytes.now there) c.args.stream c.args.coming.at c.deref.result.now c.deref.ensures.value c.args.session.now
    c.take_in.new.session c.args.answers.now.items c.take_in.new.answers.items c.take_in.result c.take_in.ensures.ok

pub returns-clause-err : goal.returns-clause-err
returns-clause-err c =
    let all = c.args.datagrams.now in
    let k = c.args.coming.datagram in
    let there = slice_get_read all (length all) k c.in-Some.bytes.now refl c.in-Some.ensures.lookup.3.0 c.in-Some.ensures.lookup.1 in
    from_err c.take_in.result (λ same. (c.in-Some.bytes.now.items, datagram_at all k c.in-Some.bytes.now there, same)) c.take_in.ensures.err
