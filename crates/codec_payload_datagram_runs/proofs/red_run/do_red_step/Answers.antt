use Rattle.std.proofs.Common.{◌≡◌, ◌∙◌, ◌++◌, ◌∷◌, [], ℕ, List, ◌-◌, ap, inr, length, take, drop, option_map, refl, rules, sym, subst, arith, OnOk, OnErr}
use Rattle.std.specs.Global.{Vec}
use Rattle.std.specs.Prelude.{All, map, slice_get}
use Rattle.std.proofs.lemmas.List.{drop-map, length-drop, length-map, take_all}
use Rattle.std.proofs.lemmas.Option.{slice_get-map, slice_get_read}
use Rattle.codec_payload_base.specs.declared.wire.Ticks.{Ticks}
use Rattle.codec_payload_codec.proofs.AnswerLemmas.{from_err, on_ok}
use Rattle.codec_payload_sending_red.specs.Writers.{Writer}
use Rattle.codec_payload_payloader.specs.Sending.{Sample, sample_of}
use Rattle.codec_payload_sending.specs.Senders.{Sending}
use Rattle.codec_payload_receiver.specs.Sessions.{Session}
use Rattle.codec_payload_datagram_runs.proofs.RepeatLemmas.{packets_sent}
use Rattle.codec_payload_datagram_runs.specs.HistoryRuns.{IsPacket}
use Rattle.codec_payload_datagram_runs.specs.RedRuns.{DoesRedStep, RedStopsAt, RedWire, StopsWriting, WritesAll, WritesSome, WritesWhatIsSent}
use Rattle.codec_payload_datagram_runs.specs.WireRuns.{Wire, bytes_in, wire_of}
use Rattle.codec_payload_datagram_runs.specs.declared.run.DatagramStep.{DatagramStep}
use Rattle.codec_payload_datagram_runs.specs.declared.run.DatagramStep.TheVariants as steps
use Rattle.codec_payload_datagram_runs.proofs.red_run.do_red_step.Goals as goal

abbrev bytes_of : Vec ℕ → List ℕ
bytes_of v = v.items

-- the datagrams after the earlier ones
since : (old new slice : List (Vec ℕ)) (sent : ℕ) → sent ≡ length old → slice ≡ new
    → drop (length (bytes_in old)) (bytes_in new) ≡ bytes_in (take (length slice - sent) (drop sent slice))
since old new slice sent count is =
    let place : length (bytes_in old) ≡ sent = length-map old bytes_of ∙ sym count in
    ap (λ (n : ℕ). drop n (bytes_in new)) place
    ∙ (ap (λ (vs : List (Vec ℕ)). drop sent (bytes_in vs)) (sym is)
    ∙ (drop-map bytes_of sent slice
    ∙ ap bytes_in (sym (take_all (length slice - sent) (drop sent slice) (omega (arith, length-drop sent slice))))))

-- a step that is not a delivery
plain_step : (samples : List Sample) (step : DatagramStep) (s t : RedWire) → ((k : ℕ) (now : Ticks) → step ≡ steps.Deliver k now → ⊥) → WritesWhatIsSent samples step s t → DoesRedStep samples step s t
plain_step samples (steps.Send i) s t other writes = writes
plain_step samples (steps.Deliver k now) s t other writes = absurd (other k now refl)
plain_step samples (steps.Pop now) s t other writes = writes
plain_step samples steps.Finish s t other writes = writes

plain_stop : (samples : List Sample) (step : DatagramStep) (s : RedWire) (sending : Sending) (writer : Writer) (session : Session) → ((k : ℕ) (now : Ticks) → step ≡ steps.Deliver k now → ⊥)
    → StopsWriting samples step s sending writer session → RedStopsAt samples step s sending writer session
plain_stop samples (steps.Send i) s sending writer session other stops = stops
plain_stop samples (steps.Deliver k now) s sending writer session other stops = absurd (other k now refl)
plain_stop samples (steps.Pop now) s sending writer session other stops = stops
plain_stop samples steps.Finish s sending writer session other stops = stops

-- A step of the run without RED

pub write_all-requires : goal.write_all-requires
write_all-requires g c =
    let before : Wire = wire_of c.args.link.now.sender c.args.link.now.receiver c.args.run.now.run in
    let after : Wire = wire_of c.do_step.new.sender c.do_step.new.receiver c.do_step.new.run in
    let count : c.len-sent.result ≡ length c.args.run.now.run.datagrams.items = omega (arith, c.len-sent.ensures, c.args.run.now.run.datagrams.ok.0) in
    let is = since c.args.run.now.run.datagrams.items c.do_step.new.run.datagrams.items c.deref-in_default.result.now c.len-sent.result count c.deref-in_default.ensures.value in
    subst (All IsPacket) is (packets_sent (map sample_of c.args.samples.now) c.args.step before after c.in_ok-do_step-in_default.ensures.ok)

pub returns-in_ok-do_step-in_default : goal.returns-in_ok-do_step-in_default
returns-in_ok-do_step-in_default g c =
    let before : Wire = wire_of c.args.link.now.sender c.args.link.now.receiver c.args.run.now.run in
    let after : Wire = wire_of c.do_step.new.sender c.do_step.new.receiver c.do_step.new.run in
    let count : c.len-sent.result ≡ length c.args.run.now.run.datagrams.items = omega (arith, c.len-sent.ensures, c.args.run.now.run.datagrams.ok.0) in
    let is = since c.args.run.now.run.datagrams.items c.do_step.new.run.datagrams.items c.deref-in_default.result.now c.len-sent.result count c.deref-in_default.ensures.value in
    let s : RedWire = record { wire = before; writer = c.args.link.now.writer; written = bytes_in c.args.run.now.written.items } in
    let t : RedWire = record { wire = after; writer = c.write_all.new.writer; written = bytes_in c.write_all.new.written.items } in
    let written = subst (λ (ds : List (List ℕ)). OnOk c.write_all.result ((outs : List (List ℕ)) × WritesAll c.args.link.now.writer ds outs c.write_all.new.writer
    × (bytes_in c.write_all.new.written.items ≡ bytes_in c.args.run.now.written.items ++ outs))) (sym is) c.write_all.ensures.ok in
    let stopped = subst (λ (ds : List (List ℕ)). OnErr c.write_all.result (WritesSome c.args.link.now.writer ds c.write_all.new.writer)) (sym is) c.write_all.ensures.err in
    record {
      ok = on_ok c.write_all.result (λ writes. plain_step (map sample_of c.args.samples.now) c.args.step s t c.in_default.not-Deliver (
        after,
        writes.0,
        c.write_all.new.writer,
        c.in_ok-do_step-in_default.ensures.ok,
        writes.1,
        ap (λ (outs : List (List ℕ)). record { wire = after; writer = c.write_all.new.writer; written = outs }) writes.2,
      )) written;
      err = from_err c.write_all.result (λ stops. plain_stop (map sample_of c.args.samples.now) c.args.step s c.do_step.new.sender c.write_all.new.writer c.do_step.new.receiver c.in_default.not-Deliver
          (inr (after, c.in_ok-do_step-in_default.ensures.ok, refl, refl, stops))) stopped;
      fault = c.write_all.ensures.fault;
      own = on_ok c.write_all.result (λ writes. c.in_ok-do_step-in_default.ensures.own) c.write_all.ensures.ok;
    }

-- A delivery

pub returns-in_ok-receipt-in-Deliver-clause-ok : goal.returns-in_ok-receipt-in-Deliver-clause-ok
returns-in_ok-receipt-in-Deliver-clause-ok g c =
    let all = c.deref.result.now in
    let there = slice_get_read all (length all) c.in-Deliver.datagram c.in-Some.bytes.now refl c.in-Some.ensures.lookup.3.0 c.in-Some.ensures.lookup.1 in
    let here = ap (λ (vs : List (Vec ℕ)). slice_get (bytes_in vs) c.in-Deliver.datagram) (sym c.deref.ensures.value)
    ∙ (slice_get-map bytes_of all c.in-Deliver.datagram ∙ ap (λ o. option_map bytes_of o) there) in
    let received = rw c.deref-in-Deliver.ensures.value at c.in_ok-receipt-in-Deliver.ensures.ok in
    let gained : c.push.new.self.items ≡ c.args.run.now.run.receipts.items ++ c.in_ok-receipt-in-Deliver.receipt ∷ [] = search rules in
    rw c.in-Deliver.is (rw here (c.in_ok-receipt-in-Deliver.receipt, c.deliver_whole.new.receiver, received, rw gained refl))
