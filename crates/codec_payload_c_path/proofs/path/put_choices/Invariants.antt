use Rattle.std.proofs.Common.{◌≡◌, ◌++◌, drop, map}
use Rattle.codec_payload_c_path.specs.Paths.{choice_given}
use Rattle.codec_payload_c_path.proofs.path.put_choices.Given as goal

-- the choices so far, and those that are left, are all choices
abbrev pub invariant-loop-choice : goal.invariant-loop-choice
invariant-loop-choice l = l.choices.items ++ map choice_given (drop l.choice-index l.given) ≡ map choice_given l.given
