use Rattle.codec_payload_datagram_runs.proofs.run.send.Goals as goal

pub returns-in-Ok-clause-own : goal.returns-in-Ok-clause-own
returns-in-Ok-clause-own g c = rw c.deref.ensures.value at c.in-Ok.ensures.own
