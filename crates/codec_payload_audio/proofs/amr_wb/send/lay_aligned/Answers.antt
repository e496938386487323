use Rattle.std.proofs.Common.{arith, ◌≡◌, ℕ, ◌+◌, ◌≤◌, List, [], ◌∷◌, ◌++◌, length, set, take, drop, ◌∙◌, ap, append-nil}
use Rattle.std.proofs.lemmas.List.{drop_all, length-set}
use Rattle.codec_payload_audio.proofs.amr_wb.send.lay_aligned.Goals as goal

laid : (to new speech : List ℕ) (toc k : ℕ) → 2 ≤ length to → length to ≤ k + 2 → new ≡ speech
    → take 2 (set (set to 0 240) 1 toc) ++ (new ++ drop k (drop 2 (set (set to 0 240) 1 toc))) ≡ 240 ∷ toc ∷ speech
laid [] new speech toc k some all is = absurd (omega (arith, some))
laid (x ∷ []) new speech toc k some all is = absurd (omega (arith, some))
laid (x ∷ y ∷ to) new speech toc k some all is =
    ap (λ t. 240 ∷ toc ∷ t)
    (ap (λ t. t ++ drop k to) is ∙ ap (λ t. speech ++ t) (drop_all k to (omega (arith, all))) ∙ append-nil speech)

pub returns : goal.returns
returns c =
    laid c.args.to.now c.copy_from_slice.new.self c.args.speech.now c.args.toc _ (omega (arith, c.requires))
    (omega (arith, length-set (set c.args.to.now 0 240) 1 c.args.toc, length-set c.args.to.now 0 240, c.requires)) c.copy_from_slice.ensures.after
