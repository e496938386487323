use Rattle.std.proofs.Common.{refl}
use Rattle.codec_payload_buffer.proofs.buffer.ends.row_to.Goals as goal

pub returns : goal.returns
returns c = (c.at-last.result.now, c.at-last.ensures, rw (c.time.ensures, c.deref.ensures, c.deref-2.ensures, c.deref-3.ensures) refl)
