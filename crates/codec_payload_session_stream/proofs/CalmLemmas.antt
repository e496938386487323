-- A stream that had nothing to request has nothing to request later.
use Rattle.std.proofs.Common.{◌≡◌, ◌∙◌, refl, ap, sym, subst, ℕ, zero, suc, ◌&&◌, not, List, [], ◌∷◌, Bool, true, false, cond, Some, None, Ok, inl, inr, min, take, length, ◌==◌, arith}
use Rattle.std.proofs.lemmas.Bool.{false≢true}
use Rattle.codec_payload_feedback.specs.Feedback.{Requests, after_feedback, deadline_of, has_any, is_idle, keyframe_is_due, numbers_due, updated}
use Rattle.codec_payload_jitter.specs.Missing.{missing_numbers, missing_of}
use Rattle.std.proofs.lemmas.Bool.Decides.{nat_tests}
use Rattle.codec_payload_feedback_requests.specs.declared.nack.PendingRequest.{PendingRequest}
use Rattle.codec_payload_feedback_requests.specs.NackSchedule.{refreshed_with}
use Rattle.codec_payload_receiver.specs.Sessions.{Session as Receiver}
use Rattle.codec_payload_session_stream.specs.Quiet.{AsksNothing, IsBefore}
use Rattle.codec_payload_session_requests.specs.Requests.{MayRest, is_calm, is_none, Asking, Asks, Sends, is_heard, refreshed, wants_keyframe}
use Rattle.codec_payload_session_requests.proofs.IdleLemmas.{after_none, asked_stays, asks_none, emptied, no_keyframe, refreshed_none}
use Rattle.codec_payload_session_stream.proofs.DueLemmas.{nothing_due, nothing_sent, updated_again}

-- ---- nothing is requested

-- a poll without a packet leaves what was asked for
after_is : (now : ℕ) (heard : Bool) (r : Receiver) (a b : Asking) → Asks now heard r a (Ok None) b → b ≡ record a { requests = after_feedback now (refreshed now heard r a).requests }
after_is now heard r a b asks =
    let c : Asking = refreshed now heard r a in
    asks.after ∙ asked_stays now c (after_feedback now c.requests) (no_keyframe (numbers_due now c.requests) (keyframe_is_due now c.requests) asks.packet_is)

-- after a calm poll there are none
emptied_after : (now : ℕ) (heard : Bool) (r : Receiver) (a b : Asking) → Asks now heard r a (Ok None) b → is_calm b r ≡ true → b.requests ≡ emptied b.requests
emptied_after now heard r a b asks calm =
    let after : b ≡ record a { requests = after_feedback now (refreshed now heard r a).requests } = after_is now heard r a b asks in
    let same : is_calm b r ≡ is_calm a r = ap (λ (x : Asking). is_calm x r) after in
    let none : refreshed now heard r a ≡ record a { requests = emptied a.requests } = refreshed_none now heard r a (sym same ∙ calm) in
    let is : b.requests ≡ emptied a.requests = ap (λ (x : Asking). x.requests) after ∙ (ap (λ (x : Asking). after_feedback now x.requests) none ∙ after_none now a.requests) in
    is ∙ sym (ap emptied is)

-- so nothing is requested later
calm_again : (now later : ℕ) (heard heard_later : Bool) (r : Receiver) (a b : Asking) → Asks now heard r a (Ok None) b → is_calm b r ≡ true → Asks later heard_later r b (Ok None) b
calm_again now later heard heard_later r a b asks calm = asks_none later heard_later r b calm (emptied_after now heard r a b asks calm)

-- ---- no request is due yet

pub due_later : (now later : ℕ) (r : Receiver) (a b : Asking) → Asks now true r a (Ok None) b → IsBefore (deadline_of b.requests) later → Asks later true r b (Ok None) b
due_later now later r a b asks before =
    let missing : List ℕ = missing_numbers r.packets a.most in
    let wanted : Bool = true && wants_keyframe a r in
    let after = after_is now true r a b asks in
    let c : Asking = record a { requests = after_feedback now (updated now missing wanted a.requests) } in
    let same : refreshed later true r c ≡ c = ap (λ (q : Requests). record c { requests = q }) (updated_again now later missing wanted a.requests) in
    let early : IsBefore (deadline_of c.requests) later = subst (λ (x : Asking). IsBefore (deadline_of x.requests) later) after before in
    let none : has_any (numbers_due later c.requests) (keyframe_is_due later c.requests) ≡ false = nothing_due later c.requests early in
    let sends : Sends later c None c = record {
      packet_is = none;
      after =
          ap (λ (q : Requests). record c { requests = q }) (sym (nothing_sent later c.requests early))
          ∙ sym (asked_stays later c (after_feedback later c.requests) (no_keyframe (numbers_due later c.requests) (keyframe_is_due later c.requests) none));
    } in
    subst (λ (x : Asking). Asks later true r x (Ok None) x) (sym after) (subst (λ (x : Asking). Sends later x None c) (sym same) sends)

heard_again : (now later last : ℕ) (r : Receiver) (a b : Asking) → Asks now (is_heard now last a) r a (Ok None) b → is_heard now last b ≡ true → is_heard later last b ≡ true
    → IsBefore (deadline_of b.requests) later → Asks later (is_heard later last b) r b (Ok None) b
heard_again now later last r a b asks heard heard_later before =
    let same : is_heard now last b ≡ is_heard now last a = ap (λ (x : Asking). is_heard now last x) asks.after in
    let first : Asks now true r a (Ok None) b = subst (λ (h : Bool). Asks now h r a (Ok None) b) (sym same ∙ heard) asks in
    subst (λ (h : Bool). Asks later h r b (Ok None) b) (sym heard_later) (due_later now later r a b first before)

-- nothing was requested, and nothing is
pub asks_again : (now later last : ℕ) (r : Receiver) (a b : Asking) → Asks now (is_heard now last a) r a (Ok None) b → MayRest (Some b) now later last r
    → IsBefore (deadline_of b.requests) later → AsksNothing (Some b) later last r
asks_again now later last r a b asks (inl calm) before = calm_again now later (is_heard now last a) (is_heard later last b) r a b asks calm
asks_again now later last r a b asks (inr heard) before = heard_again now later last r a b asks heard.0 heard.1 before
