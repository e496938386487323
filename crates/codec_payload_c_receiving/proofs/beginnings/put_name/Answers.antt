use Rattle.std.proofs.Common.{◌∙◌, ℕ, List, ◌++◌, ap, drop, length, take}
use Rattle.std.proofs.Math.Seq.{take-append_seam}
use Rattle.codec_payload_c_receiving.proofs.beginnings.put_name.Goals as goal

pub returns : goal.returns
returns c =
    ap (λ (bs : List ℕ). take (length c.args.name.now) (bs ++ drop (length c.args.name.now) c.args.to.now)) c.copy_from_slice.ensures.after
    ∙ take-append_seam c.args.name.now (drop (length c.args.name.now) c.args.to.now)
