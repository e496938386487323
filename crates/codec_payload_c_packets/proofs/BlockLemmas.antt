-- The loop over the blocks that C describes.
use Rattle.std.proofs.Common.{◌≡◌, ◌∙◌, ℕ, ◌+◌, ◌<◌, List, [], ◌∷◌, ◌++◌, length, map, take, get_or, sym, ap, subst}
use Rattle.std.specs.Prelude.{All}
use Rattle.std.proofs.lemmas.List.{map_push, take_more}
use Rattle.std.proofs.lemmas.List.Elements.{All-push}
use Rattle.codec_payload_core.specs.RedBlocks.{redundant_of}
use Rattle.codec_payload_core.specs.declared.red.RedundantBlock.{RedundantBlock}
use Rattle.codec_payload_c_packets.specs.RedCoding.{IsWithin, cut_from}
use Rattle.codec_payload_c_packets.specs.declared.red_blocks.RedOlder.{RedOlder}

pub one_more : (media : List ℕ) (blocks : List RedundantBlock) (b : RedundantBlock) (older : List RedOlder) (i : ℕ) (d : RedOlder)
    → i < length older → redundant_of b ≡ cut_from media (get_or older i d) → IsWithin media (get_or older i d)
    → (map redundant_of blocks ≡ map (cut_from media) (take i older)) × All (IsWithin media) (take i older)
    → (map redundant_of (blocks ++ b ∷ []) ≡ map (cut_from media) (take (i + 1) older)) × All (IsWithin media) (take (i + 1) older)
one_more media blocks b older i d below is within before =
    let next : take (i + 1) older ≡ take i older ++ get_or older i d ∷ [] = take_more older i d below in (
      map_push redundant_of blocks b ∙ ap (λ (xs : List _). xs ++ redundant_of b ∷ []) before.0 ∙ ap (λ x. map (cut_from media) (take i older) ++ x ∷ []) is
          ∙ sym (map_push (cut_from media) (take i older) (get_or older i d)) ∙ ap (λ (xs : List RedOlder). map (cut_from media) xs) (sym next),
      subst (λ (xs : List RedOlder). All (IsWithin media) xs) (sym next) (All-push (IsWithin media) (take i older) (get_or older i d) before.1 within),
    )
