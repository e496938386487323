use Rattle.std.proofs.Common.{refl}
use Rattle.codec_payload_c_receiving.proofs.beginnings.set_name.Goals as goal

pub returns : goal.returns
returns c = record { bytes = c.put_name.new.to; has = c.put_name.ensures; after = refl }
