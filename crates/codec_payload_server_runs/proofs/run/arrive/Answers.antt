use Rattle.std.proofs.Common.{◌≡◌, ◌∙◌, List, ℕ, Bool, Option, Some, ap, inr, length, map, option_map, refl, subst, sym}
use Rattle.std.specs.Global.{Vec}
use Rattle.std.specs.Prelude.{slice_get}
use Rattle.std.proofs.lemmas.Option.{slice_get-map, slice_get_read}
use Rattle.codec_payload_codec.proofs.AnswerLemmas.{from_err, on_ok}
use Rattle.codec_payload_datagram_runs.specs.WireRuns.{bytes_in}
use Rattle.codec_payload_forward_runs.specs.ForwardRuns.{Comes, Hops, packet_in}
use Rattle.codec_payload_session.specs.Accepting.{Accepts, time_for}
use Rattle.codec_payload_server_runs.proofs.ArrivalLemmas.{arrives_by}
use Rattle.codec_payload_server_runs.specs.ServeRuns.{DoesIf, Served, served_of}
use Rattle.codec_payload_server_runs.proofs.run.arrive.Goals as goal

abbrev bytes_of : Vec ℕ → List ℕ
bytes_of v = v.items

pub returns-then-not-taken-clause-ok : goal.returns-then-not-taken-clause-ok
returns-then-not-taken-clause-ok g c =
    let link = c.args.link.now in
    let all = c.deref.result.now in
    let there = slice_get_read all (length all) c.args.datagram c.in-Some.bytes.now refl c.in-Some.ensures.lookup.3.0 c.in-Some.ensures.lookup.1 in
    let here : slice_get (bytes_in c.args.run.now.run.run.datagrams.items) c.args.datagram ≡ Some c.in-Some.bytes.now.items = ap (λ (vs : List (Vec ℕ)). slice_get (bytes_in vs) c.args.datagram) (sym c.deref.ensures.value)
    ∙ (slice_get-map bytes_of all c.args.datagram ∙ ap (λ o. option_map bytes_of o) there) in
    let done = c.in_ok-taken.ensures.ok in
    let accepts = subst (λ (d : List ℕ). Accepts (time_for c.args.at.micros c.args.at.now link.session) c.args.at.now d link.session done.0 c.take_in.new.session) c.deref-2.ensures.value done.1 in
    let P : Hops → Hops → Type 0 = Comes (packet_in (Some c.in-Some.bytes.now.items)) c.args.at.time in
    let s : Served = served_of link.link.sender link.link.forwarder link.link.receiver link.session c.args.run.now in
    let t : Served = served_of link.link.sender link.link.forwarder link.link.receiver c.take_in.new.session (record { run = c.args.run.now.run; answers = c.take_in.new.answers }) in
    rw here
    (c.in-Some.bytes.now, refl, arrives_by link.stream c.args.at c.in-Some.bytes.now.items P s t c.in_ok-taken.taken done.0 accepts done.2 done.3 (subst (λ (b : Bool). DoesIf b P s.hops t.hops) (sym c.if-not-taken.true) refl))

pub returns-clause-ok : goal.returns-clause-ok
returns-clause-ok g c =
    let link = c.args.link.now in
    let left = c.do_forward_step.new.link in
    let all = c.deref.result.now in
    let there = slice_get_read all (length all) c.args.datagram c.in-Some.bytes.now refl c.in-Some.ensures.lookup.3.0 c.in-Some.ensures.lookup.1 in
    let here : slice_get (bytes_in c.args.run.now.run.run.datagrams.items) c.args.datagram ≡ Some c.in-Some.bytes.now.items = ap (λ (vs : List (Vec ℕ)). slice_get (bytes_in vs) c.args.datagram) (sym c.deref.ensures.value)
    ∙ (slice_get-map bytes_of all c.args.datagram ∙ ap (λ o. option_map bytes_of o) there) in
    let done = c.in_ok-taken.ensures.ok in
    let accepts = subst (λ (d : List ℕ). Accepts (time_for c.args.at.micros c.args.at.now link.session) c.args.at.now d link.session done.0 c.take_in.new.session) c.deref-2.ensures.value done.1 in
    let P : Hops → Hops → Type 0 = Comes (packet_in (Some c.in-Some.bytes.now.items)) c.args.at.time in
    let s : Served = served_of link.link.sender link.link.forwarder link.link.receiver link.session c.args.run.now in
    let t : Served = served_of left.sender left.forwarder left.receiver c.take_in.new.session (record { run = c.do_forward_step.new.run; answers = c.take_in.new.answers }) in
    on_ok c.do_forward_step.result
    (λ does.
    rw here (
      c.in-Some.bytes.now,
      refl,
      arrives_by link.stream c.args.at c.in-Some.bytes.now.items P s t c.in_ok-taken.taken done.0 accepts done.2 done.3
          (subst (λ (b : Bool). DoesIf b P s.hops t.hops) (sym c.if-not-taken.false) (subst (λ (o : Option (List ℕ)). Comes (packet_in o) c.args.at.time s.hops t.hops) here does)),
    ))
    c.do_forward_step.ensures.ok

pub returns-clause-err : goal.returns-clause-err
returns-clause-err g c =
    let link = c.args.link.now in
    let all = c.deref.result.now in
    let there = slice_get_read all (length all) c.args.datagram c.in-Some.bytes.now refl c.in-Some.ensures.lookup.3.0 c.in-Some.ensures.lookup.1 in
    let here : slice_get (bytes_in c.args.run.now.run.run.datagrams.items) c.args.datagram ≡ Some c.in-Some.bytes.now.items = ap (λ (vs : List (Vec ℕ)). slice_get (bytes_in vs) c.args.datagram) (sym c.deref.ensures.value)
    ∙ (slice_get-map bytes_of all c.args.datagram ∙ ap (λ o. option_map bytes_of o) there) in
    let done = c.in_ok-taken.ensures.ok in
    let accepts = subst (λ (d : List ℕ). Accepts (time_for c.args.at.micros c.args.at.now link.session) c.args.at.now d link.session done.0 c.take_in.new.session) c.deref-2.ensures.value done.1 in
    from_err c.do_forward_step.result
    (λ stops. (c.in-Some.bytes.now.items, here, (stops, inr (record { arrival = done.0; accepts = accepts; taken = sym done.2 ∙ c.if-not-taken.false })))) c.do_forward_step.ensures.err
