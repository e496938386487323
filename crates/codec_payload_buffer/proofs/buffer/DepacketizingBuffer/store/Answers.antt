use Rattle.std.proofs.Common.{rules, refl}
use Rattle.codec_payload_buffer.specs.Steps.{arrived}
use Rattle.codec_payload_buffer.proofs.buffer.DepacketizingBuffer.store.Goals as goal

-- a packet that is dropped may be any
pub returns-then-is_too_late-clause-ok : goal.returns-then-is_too_late-clause-ok
returns-then-is_too_late-clause-ok g c = (arrived c.args.self.now.depacketizer c.args.meta c.args.«data».items, (refl, refl, λ built_in. refl), search rules)

pub returns-then-holds-clause-ok : goal.returns-then-holds-clause-ok
returns-then-holds-clause-ok g c = (arrived c.args.self.now.depacketizer c.args.meta c.args.«data».items, (refl, refl, λ built_in. refl), search rules)

pub returns-clause-own : goal.returns-clause-own
returns-clause-own g c = rw c.in_ok-meta.ensures.ok at c.store_packed.ensures.own
