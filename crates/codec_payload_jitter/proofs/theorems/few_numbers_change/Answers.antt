use Rattle.codec_payload_jitter.proofs.StayingLemmas.{note_changes_two, pass_changes_none, pop_changes_none, store_changes_one}
use Rattle.codec_payload_jitter.proofs.theorems.few_numbers_change.Goals as goal

pub returns-clause-store : goal.returns-clause-store
returns-clause-store c = store_changes_one

pub returns-clause-note : goal.returns-clause-note
returns-clause-note c = note_changes_two

pub returns-clause-pass : goal.returns-clause-pass
returns-clause-pass c = pass_changes_none

pub returns-clause-pop : goal.returns-clause-pop
returns-clause-pop c = pop_changes_none
