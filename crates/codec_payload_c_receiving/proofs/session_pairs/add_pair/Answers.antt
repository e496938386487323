use Rattle.std.proofs.Common.{inl, refl}
use Rattle.codec_payload_c_receiving.proofs.session_pairs.add_pair.Goals as goal

pub returns-in-Ok : goal.returns-in-Ok
returns-in-Ok c = inl (refl, record { session = c.add_pair.new.self; takes = c.in-Ok.ensures.ok; left = refl })
