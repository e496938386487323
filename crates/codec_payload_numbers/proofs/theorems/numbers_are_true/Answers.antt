use Rattle.codec_payload_numbers.proofs.NumbersLemmas.{are_true_numbers, none_restarts, never_mix, are_true_anew, never_mix_anew, are_true_begun}
use Rattle.codec_payload_numbers.proofs.theorems.numbers_are_true.Goals as goal

pub returns-clause-numbers : goal.returns-clause-numbers
returns-clause-numbers c = are_true_numbers

pub returns-clause-goes_on : goal.returns-clause-goes_on
returns-clause-goes_on c = none_restarts

pub returns-clause-above : goal.returns-clause-above
returns-clause-above c = never_mix

pub returns-clause-is_restarting : goal.returns-clause-is_restarting
returns-clause-is_restarting c = are_true_anew

pub returns-clause-above_announced : goal.returns-clause-above_announced
returns-clause-above_announced c = never_mix_anew

pub returns-clause-announced : goal.returns-clause-announced
returns-clause-announced c = are_true_begun
