use Rattle.std.proofs.Common.{ℕ, ◌≤◌, length, arith}
use Rattle.std.proofs.lemmas.List.{length-map}
use Rattle.codec_payload_av1.specs.Av1Size.{leb_len, lengths}
use Rattle.codec_payload_av1.specs.Av1Piece.{piece_bytes, pieces_of}
use Rattle.codec_payload_av1.proofs.Av1PacketGrowth.{many_fit, many_most}
use Rattle.codec_payload_av1.proofs.av1.packer.OpenPayload.room.Goals as goal

pub returns-else-len-lt3-clause-fits : goal.returns-else-len-lt3-clause-fits
returns-else-len-lt3-clause-fits c =
    let es = c.self.inside.elements.items in
    let many : 3 ≤ length (lengths (pieces_of es)) = omega (arith, c.len.ensures, length-map (pieces_of es) (length {A = ℕ}), length-map es piece_bytes) in
    rw (← c.self.view_is)
    (λ some. many_fit leb_len (lengths (pieces_of es)) c.self.inside.mtu c.self.inside.left c.self.inside.deferred_length c.self.invariant.0 c.self.invariant.1
    c.longest.result many (λ more. omega (arith, c.longest.ensures.fits more)) some)

pub returns-else-len-lt3-clause-most : goal.returns-else-len-lt3-clause-most
returns-else-len-lt3-clause-most c =
    let es = c.self.inside.elements.items in
    let many : 3 ≤ length (lengths (pieces_of es)) = omega (arith, c.len.ensures, length-map (pieces_of es) (length {A = ℕ}), length-map es piece_bytes) in
    rw (← c.self.view_is)
    (many_most leb_len (lengths (pieces_of es)) c.self.inside.mtu c.self.inside.left c.self.inside.deferred_length c.self.invariant.0 c.self.invariant.1
    c.longest.result many (omega (arith, c.longest.ensures.most)))
