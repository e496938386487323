use Rattle.std.proofs.Common.{◌≡◌, ◌++◌, ◌-◌, ◌∙◌, ℕ, List, [], ap, length, replicate, rules, take}
use Rattle.codec_payload_session_requests.proofs.probes.no_numbers.Goals as goal

pub returns : goal.returns
returns c =
    let none : c.new-came.result.items ≡ [] = search rules in
    let made : c.resize.new.self.items ≡ take 2048 c.new-came.result.items ++ replicate (2048 - length c.new-came.result.items) 0 = search rules in
    made ∙ ap (λ (old : List ℕ). take 2048 old ++ replicate (2048 - length old) 0) none
