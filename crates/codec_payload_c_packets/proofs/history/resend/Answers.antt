use Rattle.std.proofs.Common.{◌≡◌, ◌∙◌, ap, refl, ℕ, List, Ok, Err}
use Rattle.codec_payload_handle.specs.Bytes.{filled}
use Rattle.codec_payload_sending_history.specs.declared.retransmission.Resent.TheVariants as results
use Rattle.codec_payload_c_packets.proofs.ResendLemmas.{resends_as}
use Rattle.codec_payload_c_packets.proofs.history.resend.Goals as goal

pub returns-in-Err-clause-resends : goal.returns-in-Err-clause-resends
returns-in-Err-clause-resends c = record { at = record { 0 = c.args.request.0 }; at_is = refl; answer = Err c.in-Err.field-0; gives = (refl, refl, refl, refl, c.in-Err.ensures.err.0) }

pub returns-in-Ok-NotKept-clause-resends : goal.returns-in-Ok-NotKept-clause-resends
returns-in-Ok-NotKept-clause-resends c =
    let told = resends_as _ _ _ _ _ _ results.NotKept _ _ c.in-Ok-NotKept.field-0-is c.in-Ok-NotKept.ensures.ok in
    record { at = record { 0 = c.args.request.0 }; at_is = refl; answer = Ok results.NotKept; gives = (refl, refl, told.0, refl, refl, told.2) }

pub returns-in-Ok-TooSoon-clause-resends : goal.returns-in-Ok-TooSoon-clause-resends
returns-in-Ok-TooSoon-clause-resends c =
    let told = resends_as _ _ _ _ _ _ results.TooSoon _ _ c.in-Ok-TooSoon.field-0-is c.in-Ok-TooSoon.ensures.ok in
    record { at = record { 0 = c.args.request.0 }; at_is = refl; answer = Ok results.TooSoon; gives = (refl, refl, (told.0, told.1, told.2, told.3), refl, refl, told.5) }

pub returns-in-Ok-TooLarge-clause-resends : goal.returns-in-Ok-TooLarge-clause-resends
returns-in-Ok-TooLarge-clause-resends c =
    let told = resends_as _ _ _ _ _ _ results.TooLarge _ _ c.in-Ok-TooLarge.field-0-is c.in-Ok-TooLarge.ensures.ok in
    record { at = record { 0 = c.args.request.0 }; at_is = refl; answer = Ok results.TooLarge; gives = (c.resend_within.new.out.items, refl, told, c.len-in-Ok-TooLarge.ensures ∙ c.resend_within.new.out.ok.0, refl, refl) }

pub returns-in-Ok-Written-clause-resends : goal.returns-in-Ok-Written-clause-resends
returns-in-Ok-Written-clause-resends c =
    let d = c.resend_within.new.out.items in
    let before = c.args.bytes.now in
    let told = resends_as _ _ _ _ _ _ results.Written _ _ c.in-Ok-Written.field-0-is c.in-Ok-Written.ensures.ok in
    let filled_by : c.fill.new.bytes ≡ filled d before = c.fill.ensures.written ∙ ap (λ (xs : List ℕ). filled xs before) c.deref.ensures.value in
    record { at = record { 0 = c.args.request.0 }; at_is = refl; answer = Ok results.Written; gives = (d, refl, refl, told.1, told.0, filled_by, c.len.ensures ∙ c.resend_within.new.out.ok.0) }
