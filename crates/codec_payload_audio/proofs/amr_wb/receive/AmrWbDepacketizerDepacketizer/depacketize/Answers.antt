use Rattle.std.proofs.Common.{◌≡◌, ℕ, List, [], ◌++◌, length, append-nil, sym, arith, refl}
use Rattle.std.proofs.lemmas.Bool.{eqb-true}
use Rattle.codec_payload_base.specs.Bits.{bytes_of}
use Rattle.codec_payload_audio.proofs.AmrWbReceivedLemmas.{received_none}
use Rattle.codec_payload_base.proofs.BytesLemmas.{appended_bytes}
use Rattle.codec_payload_audio.proofs.amr_wb.receive.AmrWbDepacketizerDepacketizer.depacketize.Goals as goal

pub returns-clause-step : goal.returns-clause-step
returns-clause-step c =
    let (frames, read, bits) = c.in_default.ensures.ok in
    let (more, same) = c.in_default.ensures.kept in
    ((frames, read, appended_bytes c.args.out.now.items more c.append_payload.new.out.items frames same bits (λ i h. omega (arith, h, c.type_inv.out i 0 h)), refl), refl)

nothing_added : (out : List ℕ) → out ≡ out ++ bytes_of []
unfolding bytes_of
nothing_added out = sym (append-nil out)

pub returns-then-is_empty-clause-step : goal.returns-then-is_empty-clause-step
returns-then-is_empty-clause-step c =
    (([], received_none c.args.self.now.octet_align c.args.packet.now (eqb-true (length c.args.packet.now) 0 (sym c.if-is_empty.ensures)), nothing_added c.args.out.now.items, refl), refl)
