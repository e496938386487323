use Rattle.std.proofs.Common.{◌≡◌, ◌∙◌, ◌++◌, ◌∷◌, [], List, ℕ, ap, inl, inr, length, option_map, refl, rules, sym}
use Rattle.std.specs.Global.{Vec}
use Rattle.std.specs.Prelude.{slice_get}
use Rattle.std.proofs.lemmas.Option.{slice_get-map, slice_get_past, slice_get_read}
use Rattle.codec_payload_codec.proofs.AnswerLemmas.{on_err}
use Rattle.codec_payload_jitter.proofs.OwnLemmas.{stores_none}
use Rattle.codec_payload_payloader.specs.Sending.{sample_of}
use Rattle.codec_payload_datagram_runs.specs.WireRuns.{bytes_in}
use Rattle.codec_payload_datagram_runs.proofs.run.do_step.Goals as goal

pub returns-in_err-reserve-in-Send-clause-err : goal.returns-in_err-reserve-in-Send-clause-err
returns-in_err-reserve-in-Send-clause-err g c =
    let there = slice_get_read c.args.samples.now (length c.args.samples.now) c.in-Send.sample c.in-Some.sample.now refl c.in-Some.ensures.lookup.3.0 c.in-Some.ensures.lookup.1 in
    let here = slice_get-map sample_of c.args.samples.now c.in-Send.sample ∙ ap (λ o. option_map sample_of o) there in
    on_err c.from_residual.result (rw c.in-Send.is (sample_of c.in-Some.sample.now, here, refl, inl refl))

pub returns-in_err-entry-in-Send-clause-err : goal.returns-in_err-entry-in-Send-clause-err
returns-in_err-entry-in-Send-clause-err g c =
    let there = slice_get_read c.args.samples.now (length c.args.samples.now) c.in-Send.sample c.in-Some.sample.now refl c.in-Some.ensures.lookup.3.0 c.in-Some.ensures.lookup.1 in
    let here = slice_get-map sample_of c.args.samples.now c.in-Send.sample ∙ ap (λ o. option_map sample_of o) there in
    on_err c.from_residual-in_err-entry-in-Send.result (rw c.in-Send.is (sample_of c.in-Some.sample.now, here, refl, inr c.in_err-entry-in-Send.ensures.err))

pub returns-in_ok-entry-in-Send-clause-ok : goal.returns-in_ok-entry-in-Send-clause-ok
returns-in_ok-entry-in-Send-clause-ok g c =
    let there = slice_get_read c.args.samples.now (length c.args.samples.now) c.in-Send.sample c.in-Some.sample.now refl c.in-Some.ensures.lookup.3.0 c.in-Some.ensures.lookup.1 in
    let here = slice_get-map sample_of c.args.samples.now c.in-Send.sample ∙ ap (λ o. option_map sample_of o) there in
    let gained : c.push.new.self.items ≡ c.args.run.now.sends.items ++ c.in_ok-entry-in-Send.entry ∷ [] = search rules in
    rw c.in-Send.is (rw here (c.in_ok-entry-in-Send.entry, c.in_ok-entry-in-Send.ensures.ok, rw gained refl))

pub returns-in_default-get-clause-ok : goal.returns-in_default-get-clause-ok
returns-in_default-get-clause-ok g c =
    let none = slice_get_past c.deref.result.now c.in-Deliver.datagram c.in_default-get.ensures.lookup.3 in
    let here = ap (λ (vs : List (Vec ℕ)). slice_get (bytes_in vs) c.in-Deliver.datagram) (sym c.deref.ensures.value)
    ∙ (slice_get-map (λ (v : Vec ℕ). v.items) c.deref.result.now c.in-Deliver.datagram ∙ ap (λ o. option_map (λ (v : Vec ℕ). v.items) o) none) in
    rw c.in-Deliver.is (rw here refl)

pub returns-in_err-reserve-in-Deliver-clause-err : goal.returns-in_err-reserve-in-Deliver-clause-err
returns-in_err-reserve-in-Deliver-clause-err g c =
    let there = slice_get_read c.deref.result.now (length c.deref.result.now) c.in-Deliver.datagram c.in-Some-get.bytes.now refl c.in-Some-get.ensures.lookup.3.0 c.in-Some-get.ensures.lookup.1 in
    let here = ap (λ (vs : List (Vec ℕ)). slice_get (bytes_in vs) c.in-Deliver.datagram) (sym c.deref.ensures.value)
    ∙ (slice_get-map (λ (v : Vec ℕ). v.items) c.deref.result.now c.in-Deliver.datagram ∙ ap (λ o. option_map (λ (v : Vec ℕ). v.items) o) there) in
    on_err c.from_residual-in_err-reserve-in-Deliver.result (rw c.in-Deliver.is (c.in-Some-get.bytes.now.items, here, refl, inl refl))

pub returns-in_err-receipt-in-Deliver-clause-err : goal.returns-in_err-receipt-in-Deliver-clause-err
returns-in_err-receipt-in-Deliver-clause-err g c =
    let there = slice_get_read c.deref.result.now (length c.deref.result.now) c.in-Deliver.datagram c.in-Some-get.bytes.now refl c.in-Some-get.ensures.lookup.3.0 c.in-Some-get.ensures.lookup.1 in
    let here = ap (λ (vs : List (Vec ℕ)). slice_get (bytes_in vs) c.in-Deliver.datagram) (sym c.deref.ensures.value)
    ∙ (slice_get-map (λ (v : Vec ℕ). v.items) c.deref.result.now c.in-Deliver.datagram ∙ ap (λ o. option_map (λ (v : Vec ℕ). v.items) o) there) in
    let received = rw c.deref-in-Deliver.ensures.value at c.in_err-receipt-in-Deliver.ensures.err in
    on_err c.from_residual-in_err-receipt-in-Deliver.result (rw c.in-Deliver.is (c.in-Some-get.bytes.now.items, here, refl, inr received))

pub returns-in_ok-receipt-in-Deliver-clause-ok : goal.returns-in_ok-receipt-in-Deliver-clause-ok
returns-in_ok-receipt-in-Deliver-clause-ok g c =
    let there = slice_get_read c.deref.result.now (length c.deref.result.now) c.in-Deliver.datagram c.in-Some-get.bytes.now refl c.in-Some-get.ensures.lookup.3.0 c.in-Some-get.ensures.lookup.1 in
    let here = ap (λ (vs : List (Vec ℕ)). slice_get (bytes_in vs) c.in-Deliver.datagram) (sym c.deref.ensures.value)
    ∙ (slice_get-map (λ (v : Vec ℕ). v.items) c.deref.result.now c.in-Deliver.datagram ∙ ap (λ o. option_map (λ (v : Vec ℕ). v.items) o) there) in
    let received = rw c.deref-in-Deliver.ensures.value at c.in_ok-receipt-in-Deliver.ensures.ok in
    let gained : c.push-in-Deliver.new.self.items ≡ c.args.run.now.receipts.items ++ c.in_ok-receipt-in-Deliver.receipt ∷ [] = search rules in
    rw c.in-Deliver.is (rw here (c.in_ok-receipt-in-Deliver.receipt, c.deliver.new.receiver, received, rw gained refl))

-- Custom codecs

-- a skipped delivery stores nothing
pub returns-in_default-get-clause-own : goal.returns-in_default-get-clause-own
returns-in_default-get-clause-own g c =
    rw c.in-Deliver.is (λ other. stores_none g.D.Depacketizer.is_head g.D.Depacketizer.is_tail c.args.receiver.now.packets.buffer c.args.receiver.now.packets.buffer refl)

pub returns-in_ok-entry-in-Send-clause-own : goal.returns-in_ok-entry-in-Send-clause-own
returns-in_ok-entry-in-Send-clause-own g c =
    let there = slice_get_read c.args.samples.now (length c.args.samples.now) c.in-Send.sample c.in-Some.sample.now refl c.in-Some.ensures.lookup.3.0 c.in-Some.ensures.lookup.1 in
    let here = slice_get-map sample_of c.args.samples.now c.in-Send.sample ∙ ap (λ o. option_map sample_of o) there in
    let gained : c.push.new.self.items ≡ c.args.run.now.sends.items ++ c.in_ok-entry-in-Send.entry ∷ [] = search rules in
    rw c.in-Send.is (rw here (c.in_ok-entry-in-Send.entry, gained, c.in_ok-entry-in-Send.ensures.own))

pub returns-in_ok-receipt-in-Deliver-clause-own : goal.returns-in_ok-receipt-in-Deliver-clause-own
returns-in_ok-receipt-in-Deliver-clause-own g c = rw c.in-Deliver.is c.deliver.ensures.own
