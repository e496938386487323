use Rattle.codec_payload_buffer.proofs.StretchLemmas.{leaves_numbers, order_is_free}
use Rattle.codec_payload_buffer.proofs.buffer.theorems.order_of_pushes.Goals as goal

pub returns-clause-leaves : goal.returns-clause-leaves
returns-clause-leaves c = leaves_numbers

pub returns-clause-free : goal.returns-clause-free
returns-clause-free c = order_is_free
