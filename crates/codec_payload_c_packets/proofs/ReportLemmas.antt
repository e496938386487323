-- Report blocks that are written one after another.
use Rattle.std.proofs.Common.{◌≡◌, ◌+◌, ◌++◌, ◌∙◌, ℕ, List, length, refl, ap, Result, Ok, Err, arith}
use Rattle.std.proofs.lemmas.Grind.{common_steps}
use Rattle.std.specs.Prelude.{OnOk}
use Rattle.codec_payload_rtcp.specs.RtcpItems.{block_bytes}
use Rattle.codec_payload_rtcp.specs.declared.items.ReportBlock.{ReportBlock}

length_block : (b : ReportBlock) → length (block_bytes b) ≡ 24
length_block b = refl

-- a block more has 24 bytes
pub length_more : (b : ReportBlock) (old new : List ℕ) → new ≡ old ++ block_bytes b → length new ≡ length old + 24
length_more b old new e = ap length e ∙ length_both old (block_bytes b) ∙ ap (λ n. length old + n) (length_block b)
  where
    length_both : (xs ys : List ℕ) → length (xs ++ ys) ≡ length xs + length ys
    length_both xs ys = grind (arith, common_steps)

pub on_ok : {A B : Type 0} (r : Result A B) {P Q : Type 0} → (P → Q) → OnOk r P → OnOk r Q
on_ok (Ok x) f h = f h
on_ok (Err e) f h = h
