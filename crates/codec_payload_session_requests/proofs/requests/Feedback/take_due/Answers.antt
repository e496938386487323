use Rattle.std.proofs.Common.{◌≡◌, ◌∙◌, ◌&&◌, Bool, true, false, refl, rules, sym}
use Rattle.codec_payload_feedback.specs.Feedback.{is_idle}
use Rattle.codec_payload_session_requests.specs.Requests.{is_calm, is_heard}
use Rattle.codec_payload_session_requests.proofs.IdleLemmas.{asks_none, idle_is}
use Rattle.codec_payload_session_requests.proofs.requests.Feedback.take_due.Goals as goal

both : (a b : Bool) → (a && b) ≡ true → (a ≡ true) × (b ≡ true)
both true b is = (refl, is)
both false b is = cc

pub returns-then-is_idle-clause-asks : goal.returns-then-is_idle-clause-asks
returns-then-is_idle-clause-asks c =
    let idle : is_idle c.args.self.now.requests && is_calm c.args.self.now c.args.receiver.now ≡ true = search rules in
    let parts = both (is_idle c.args.self.now.requests) (is_calm c.args.self.now c.args.receiver.now) idle in
    asks_none c.args.now.0 (is_heard c.args.now.0 c.args.last c.args.self.now) c.args.receiver.now c.args.self.now parts.1 (idle_is c.args.self.now.requests parts.0)
