use Rattle.std.proofs.Common.{◌≡◌, ◌∙◌, ◌++◌, ◌∷◌, [], List, ℕ, Option, Some, ap, inr, length, option_map, refl, rules, subst, sym}
use Rattle.std.specs.Global.{Vec}
use Rattle.std.specs.Prelude.{slice_get}
use Rattle.std.proofs.lemmas.Option.{slice_get-map, slice_get_read}
use Rattle.codec_payload_codec.proofs.AnswerLemmas.{from_err, on_ok}
use Rattle.codec_payload_datagram_runs.specs.WireRuns.{bytes_in}
use Rattle.codec_payload_server_runs.specs.ServeRuns.{Arrives, ComesUnwrapped, Served, StopsArriving, repeated_in, served_of}
use Rattle.codec_payload_server_runs.proofs.run.do_serve_step.Goals as goal

abbrev bytes_of : Vec ℕ → List ℕ
bytes_of v = v.items

pub returns-in-Some-2-clause-ok : goal.returns-in-Some-2-clause-ok
returns-in-Some-2-clause-ok g c =
    let link = c.args.link.now in
    let left = c.repeat.new.link in
    let k = c.in-Repeat.datagram in
    let all = c.deref.result.now in
    let there = slice_get_read all (length all) k c.in-Some.bytes.now refl c.in-Some.ensures.lookup.3.0 c.in-Some.ensures.lookup.1 in
    let here : slice_get (bytes_in c.args.run.now.run.run.datagrams.items) k ≡ Some c.in-Some.bytes.now.items =
    ap (λ (vs : List (Vec ℕ)). slice_get (bytes_in vs) k) (sym c.deref.ensures.value) ∙ (slice_get-map bytes_of all k ∙ ap (λ o. option_map bytes_of o) there) in
    let made = rw c.in-Some-2.is at c.in_ok-retransmission-in-Repeat.ensures in
    let is : repeated_in link.stream c.in-Repeat.again (slice_get (bytes_in c.args.run.now.run.run.datagrams.items) k) ≡ Some made.0 =
    ap (repeated_in link.stream c.in-Repeat.again) (here ∙ ap (λ (d : List ℕ). Some d) (sym c.deref-in-Repeat.ensures.value)) ∙ made.1 in
    let s : Served = served_of link.link.sender link.link.forwarder link.link.receiver link.session c.args.run.now in
    let t : Served = served_of left.link.sender left.link.forwarder left.link.receiver left.session c.repeat.new.run in
    on_ok c.repeat.result
    (λ arrives.
    rw c.in-Repeat.is
    (rw is (
      c.in-Some-2.retransmission,
      made.2,
      subst (λ (d : List ℕ). Arrives link.stream c.in-Repeat.at d (ComesUnwrapped link.stream d c.in-Repeat.at.time) s t) c.deref-in-Repeat-2.ensures.value arrives,
    )))
    c.repeat.ensures.ok

pub returns-in-Some-2-clause-err : goal.returns-in-Some-2-clause-err
returns-in-Some-2-clause-err g c =
    let link = c.args.link.now in
    let left = c.repeat.new.link in
    let k = c.in-Repeat.datagram in
    let all = c.deref.result.now in
    let there = slice_get_read all (length all) k c.in-Some.bytes.now refl c.in-Some.ensures.lookup.3.0 c.in-Some.ensures.lookup.1 in
    let here : slice_get (bytes_in c.args.run.now.run.run.datagrams.items) k ≡ Some c.in-Some.bytes.now.items =
    ap (λ (vs : List (Vec ℕ)). slice_get (bytes_in vs) k) (sym c.deref.ensures.value) ∙ (slice_get-map bytes_of all k ∙ ap (λ o. option_map bytes_of o) there) in
    let made = rw c.in-Some-2.is at c.in_ok-retransmission-in-Repeat.ensures in
    let is : repeated_in link.stream c.in-Repeat.again (slice_get (bytes_in c.args.run.now.run.run.datagrams.items) k) ≡ Some made.0 =
    ap (repeated_in link.stream c.in-Repeat.again) (here ∙ ap (λ (d : List ℕ). Some d) (sym c.deref-in-Repeat.ensures.value)) ∙ made.1 in
    let s : Served = served_of link.link.sender link.link.forwarder link.link.receiver link.session c.args.run.now in
    from_err c.repeat.result
    (λ stops.
    rw c.in-Repeat.is
    (inr (
      made.0,
      c.in-Some-2.retransmission.items,
      is,
      made.2,
      subst (λ (d : List ℕ). StopsArriving link.stream c.in-Repeat.at d s left.link.sender left.link.forwarder left.link.receiver left.session) c.deref-in-Repeat-2.ensures.value stops,
    )))
    c.repeat.ensures.err

pub returns-in_ok-reserve-in-Call-clause-ok : goal.returns-in_ok-reserve-in-Call-clause-ok
returns-in_ok-reserve-in-Call-clause-ok g c =
    let gained : c.push.new.self.items ≡ c.args.run.now.answers.items ++ c.do_step-answer.result ∷ [] = search rules in
    rw c.in-Call.is (c.do_step-answer.result, c.do_step-answer.new.session, c.do_step-answer.ensures, rw gained refl)
