use Rattle.std.proofs.Common.{◌≡◌, ◌≤◌, ◌∙◌, ◌++◌, ◌∷◌, [], ℕ, List, ◌-◌, ap, inl, inr, length, take, drop, option_map, refl, rules, sym, subst, arith, OnOk, OnErr}
use Rattle.std.specs.Global.{Vec}
use Rattle.std.specs.Prelude.{All, map, slice_get}
use Rattle.std.proofs.lemmas.List.{drop-map, length-drop, length-map, take_all}
use Rattle.std.proofs.lemmas.Option.{slice_get-map, slice_get_past, slice_get_read}
use Rattle.codec_payload_codec.proofs.AnswerLemmas.{from_err, on_err, on_ok}
use Rattle.codec_payload_jitter.proofs.OwnLemmas.{stores_none}
use Rattle.codec_payload_payloader.specs.Sending.{sample_of}
use Rattle.codec_payload_datagram_runs.proofs.RedRepeatLemmas.{none_unwritten, packets_written}
use Rattle.codec_payload_datagram_runs.specs.HistoryRuns.{IsPacket, KeepsAll, KeepsSome}
use Rattle.codec_payload_datagram_runs.specs.RedRuns.{RedWire, red_wire_of}
use Rattle.codec_payload_datagram_runs.specs.WireRuns.{bytes_in}
use Rattle.codec_payload_datagram_runs.proofs.red_history_run.do_red_history_step.Goals as goal

abbrev bytes_of : Vec ℕ → List ℕ
bytes_of v = v.items

-- the written datagrams after the earlier ones
since : (old new slice : List (Vec ℕ)) (sent : ℕ) → sent ≡ length old → slice ≡ new
    → drop (length (bytes_in old)) (bytes_in new) ≡ bytes_in (take (length slice - sent) (drop sent slice))
since old new slice sent count is =
    let place : length (bytes_in old) ≡ sent = length-map old bytes_of ∙ sym count in
    ap (λ (n : ℕ). drop n (bytes_in new)) place
    ∙ (ap (λ (vs : List (Vec ℕ)). drop sent (bytes_in vs)) (sym is)
    ∙ (drop-map bytes_of sent slice
    ∙ ap bytes_in (sym (take_all (length slice - sent) (drop sent slice) (omega (arith, length-drop sent slice))))))

-- A step of the run without a history

pub slice_bounds-keep_all-count : goal.slice_bounds-keep_all-count
slice_bounds-keep_all-count g c =
    let before : RedWire = red_wire_of c.args.link.now.red.sender c.args.link.now.red.writer c.args.link.now.red.receiver c.args.run.now.red in
    let after : RedWire = red_wire_of c.do_red_step.new.link.sender c.do_red_step.new.link.writer c.do_red_step.new.link.receiver c.do_red_step.new.run in
    let count : c.len-written.result ≡ length c.args.run.now.red.written.items = omega (arith, c.len-written.ensures, c.args.run.now.red.written.ok.0) in
    let grown : length before.written ≤ length after.written = none_unwritten (map sample_of c.args.samples.now) c.in-Plain.step before after c.in_ok-do_red_step-in-Plain.ensures.ok in
    omega (arith, count, grown, length-map c.args.run.now.red.written.items bytes_of, length-map c.do_red_step.new.run.written.items bytes_of, ap length c.deref.ensures.value)

pub slice_bounds-keep_all-start : goal.slice_bounds-keep_all-start
slice_bounds-keep_all-start g c = let most = slice_bounds-keep_all-count g c in search (rules, most)

pub offset_bounds-deref-written : goal.offset_bounds-deref-written
offset_bounds-deref-written g c = let most = slice_bounds-keep_all-count g c in search (rules, most)

pub keep_all-requires : goal.keep_all-requires
keep_all-requires g c =
    let before : RedWire = red_wire_of c.args.link.now.red.sender c.args.link.now.red.writer c.args.link.now.red.receiver c.args.run.now.red in
    let after : RedWire = red_wire_of c.do_red_step.new.link.sender c.do_red_step.new.link.writer c.do_red_step.new.link.receiver c.do_red_step.new.run in
    let count : c.len-written.result ≡ length c.args.run.now.red.written.items = omega (arith, c.len-written.ensures, c.args.run.now.red.written.ok.0) in
    let is = since c.args.run.now.red.written.items c.do_red_step.new.run.written.items c.deref.result.now c.len-written.result count c.deref.ensures.value in
    subst (All IsPacket) is (packets_written (map sample_of c.args.samples.now) c.in-Plain.step before after c.in_ok-do_red_step-in-Plain.ensures.ok)

pub returns-in_ok-do_red_step-in-Plain-clause-ok : goal.returns-in_ok-do_red_step-in-Plain-clause-ok
returns-in_ok-do_red_step-in-Plain-clause-ok g c =
    let before : RedWire = red_wire_of c.args.link.now.red.sender c.args.link.now.red.writer c.args.link.now.red.receiver c.args.run.now.red in
    let after : RedWire = red_wire_of c.do_red_step.new.link.sender c.do_red_step.new.link.writer c.do_red_step.new.link.receiver c.do_red_step.new.run in
    let count : c.len-written.result ≡ length c.args.run.now.red.written.items = omega (arith, c.len-written.ensures, c.args.run.now.red.written.ok.0) in
    let is = since c.args.run.now.red.written.items c.do_red_step.new.run.written.items c.deref.result.now c.len-written.result count c.deref.ensures.value in
    let kept = subst (λ (ds : List (List ℕ)). OnOk c.keep_all.result (KeepsAll c.args.link.now.history ds c.keep_all.new.history)) (sym is) c.keep_all.ensures.ok in
    rw c.in-Plain.is (on_ok c.keep_all.result (λ keeps. (after, c.keep_all.new.history, c.in_ok-do_red_step-in-Plain.ensures.ok, keeps, refl)) kept)

pub returns-in_ok-do_red_step-in-Plain-clause-err : goal.returns-in_ok-do_red_step-in-Plain-clause-err
returns-in_ok-do_red_step-in-Plain-clause-err g c =
    let before : RedWire = red_wire_of c.args.link.now.red.sender c.args.link.now.red.writer c.args.link.now.red.receiver c.args.run.now.red in
    let after : RedWire = red_wire_of c.do_red_step.new.link.sender c.do_red_step.new.link.writer c.do_red_step.new.link.receiver c.do_red_step.new.run in
    let count : c.len-written.result ≡ length c.args.run.now.red.written.items = omega (arith, c.len-written.ensures, c.args.run.now.red.written.ok.0) in
    let is = since c.args.run.now.red.written.items c.do_red_step.new.run.written.items c.deref.result.now c.len-written.result count c.deref.ensures.value in
    let kept = subst (λ (ds : List (List ℕ)). OnErr c.keep_all.result (KeepsSome c.args.link.now.history ds c.keep_all.new.history)) (sym is) c.keep_all.ensures.err in
    rw c.in-Plain.is (from_err c.keep_all.result (λ keeps. inr (after, c.in_ok-do_red_step-in-Plain.ensures.ok, refl, refl, refl, keeps)) kept)

-- A retransmission

pub returns-in_default-clause-ok : goal.returns-in_default-clause-ok
returns-in_default-clause-ok g c =
    let none = slice_get_past c.deref-in-DeliverAgain.result.now c.in-DeliverAgain.retransmission c.in_default.ensures.lookup.3 in
    let here = ap (λ (vs : List (Vec ℕ)). slice_get (bytes_in vs) c.in-DeliverAgain.retransmission) (sym c.deref-in-DeliverAgain.ensures.value)
    ∙ (slice_get-map bytes_of c.deref-in-DeliverAgain.result.now c.in-DeliverAgain.retransmission ∙ ap (λ o. option_map bytes_of o) none) in
    rw c.in-DeliverAgain.is (rw here refl)

pub returns-in_err-reserve-in-DeliverAgain-clause-err : goal.returns-in_err-reserve-in-DeliverAgain-clause-err
returns-in_err-reserve-in-DeliverAgain-clause-err g c =
    let all = c.deref-in-DeliverAgain.result.now in
    let there = slice_get_read all (length all) c.in-DeliverAgain.retransmission c.in-Some.bytes.now refl c.in-Some.ensures.lookup.3.0 c.in-Some.ensures.lookup.1 in
    let here = ap (λ (vs : List (Vec ℕ)). slice_get (bytes_in vs) c.in-DeliverAgain.retransmission) (sym c.deref-in-DeliverAgain.ensures.value)
    ∙ (slice_get-map bytes_of all c.in-DeliverAgain.retransmission ∙ ap (λ o. option_map bytes_of o) there) in
    on_err c.from_residual-in_err-reserve-in-DeliverAgain.result (rw c.in-DeliverAgain.is (c.in-Some.bytes.now.items, here, refl, refl, refl, inl refl))

pub returns-in_err-receipt-in-DeliverAgain-clause-err : goal.returns-in_err-receipt-in-DeliverAgain-clause-err
returns-in_err-receipt-in-DeliverAgain-clause-err g c =
    let all = c.deref-in-DeliverAgain.result.now in
    let there = slice_get_read all (length all) c.in-DeliverAgain.retransmission c.in-Some.bytes.now refl c.in-Some.ensures.lookup.3.0 c.in-Some.ensures.lookup.1 in
    let here = ap (λ (vs : List (Vec ℕ)). slice_get (bytes_in vs) c.in-DeliverAgain.retransmission) (sym c.deref-in-DeliverAgain.ensures.value)
    ∙ (slice_get-map bytes_of all c.in-DeliverAgain.retransmission ∙ ap (λ o. option_map bytes_of o) there) in
    let received = rw c.deref-in-DeliverAgain-2.ensures.value at c.in_err-receipt-in-DeliverAgain.ensures.err in
    on_err c.from_residual-in_err-receipt-in-DeliverAgain.result (rw c.in-DeliverAgain.is (c.in-Some.bytes.now.items, here, refl, refl, refl, inr received))

pub returns-in_ok-receipt-in-DeliverAgain-clause-ok : goal.returns-in_ok-receipt-in-DeliverAgain-clause-ok
returns-in_ok-receipt-in-DeliverAgain-clause-ok g c =
    let all = c.deref-in-DeliverAgain.result.now in
    let there = slice_get_read all (length all) c.in-DeliverAgain.retransmission c.in-Some.bytes.now refl c.in-Some.ensures.lookup.3.0 c.in-Some.ensures.lookup.1 in
    let here = ap (λ (vs : List (Vec ℕ)). slice_get (bytes_in vs) c.in-DeliverAgain.retransmission) (sym c.deref-in-DeliverAgain.ensures.value)
    ∙ (slice_get-map bytes_of all c.in-DeliverAgain.retransmission ∙ ap (λ o. option_map bytes_of o) there) in
    let received = rw c.deref-in-DeliverAgain-2.ensures.value at c.in_ok-receipt-in-DeliverAgain.ensures.ok in
    let gained : c.push-in-DeliverAgain.new.self.items ≡ c.args.run.now.red.run.receipts.items ++ c.in_ok-receipt-in-DeliverAgain.receipt ∷ [] = search rules in
    rw c.in-DeliverAgain.is (rw here (c.in_ok-receipt-in-DeliverAgain.receipt, c.deliver_whole.new.receiver, received, rw gained refl))

-- Custom codecs

pub returns-in_ok-do_red_step-in-Plain-clause-own : goal.returns-in_ok-do_red_step-in-Plain-clause-own
returns-in_ok-do_red_step-in-Plain-clause-own g c =
    rw c.in-Plain.is (on_ok c.keep_all.result (λ keeps. c.in_ok-do_red_step-in-Plain.ensures.own) c.keep_all.ensures.ok)

-- a skipped delivery stores nothing
pub returns-in_default-clause-own : goal.returns-in_default-clause-own
returns-in_default-clause-own g c =
    let buffer = c.args.link.now.red.receiver.packets.buffer in
    rw c.in-DeliverAgain.is (λ other. stores_none g.D.Depacketizer.is_head g.D.Depacketizer.is_tail buffer buffer refl)

pub returns-in_ok-receipt-in-DeliverAgain-clause-own : goal.returns-in_ok-receipt-in-DeliverAgain-clause-own
returns-in_ok-receipt-in-DeliverAgain-clause-own g c = rw c.in-DeliverAgain.is c.deliver_whole.ensures.own
