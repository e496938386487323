-- The loop over the blocks of a RED packet: the packets found so far come in front of the packets of the remaining blocks.
use Rattle.std.proofs.Common.{◌≡◌, ℕ, ◌+◌, ◌<◌, List, [], ◌∷◌, ◌++◌, length, drop, get_or, Option, Some, None, refl, sym, ap, ◌∙◌, arith, append_assoc, append-nil, ◌≤◌}
use Rattle.std.proofs.lemmas.List.{drop_all, drop_more, get_or-map, length-map}
use Rattle.std.specs.List.{filter_map}
use Rattle.codec_payload_red.specs.declared.red.blocks.RedBlock.{RedBlock}
use Rattle.codec_payload_red.specs.RedBlocks.{Block, block_of, blocks_of}

ahead : (bs : List RedBlock) (i : ℕ) (d : RedBlock) → i < length bs → drop i (blocks_of bs) ≡ block_of (get_or bs i d) ∷ drop (i + 1) (blocks_of bs)
ahead bs i d lt =
    let lt' : i < length (blocks_of bs) = omega (arith, length-map bs block_of) in
    drop_more (blocks_of bs) i (block_of d) lt' ∙ ap (λ t. t ∷ drop (i + 1) (blocks_of bs)) (get_or-map block_of bs i d (block_of d) lt)

module _ {X : Type 0} (f : Block → Option X) (out whole : List X) (bs : List RedBlock) (i : ℕ) (d : RedBlock) where
  pub one_more : (p : X) → i < length bs → f (block_of (get_or bs i d)) ≡ Some p → out ++ filter_map f (drop i (blocks_of bs)) ≡ whole → (out ++ p ∷ []) ++ filter_map f (drop (i + 1) (blocks_of bs)) ≡ whole
  one_more p lt is h =
      let here : filter_map f (drop i (blocks_of bs)) ≡ p ∷ filter_map f (drop (i + 1) (blocks_of bs)) = rw (ahead bs i d lt, is) refl in
      append_assoc out (p ∷ []) (filter_map f (drop (i + 1) (blocks_of bs))) ∙ ap (λ t. out ++ t) (sym here) ∙ h

  pub none_more : i < length bs → f (block_of (get_or bs i d)) ≡ None → out ++ filter_map f (drop i (blocks_of bs)) ≡ whole → out ++ filter_map f (drop (i + 1) (blocks_of bs)) ≡ whole
  none_more lt is h =
      let here : filter_map f (drop i (blocks_of bs)) ≡ filter_map f (drop (i + 1) (blocks_of bs)) = rw (ahead bs i d lt, is) refl in
      ap (λ t. out ++ t) (sym here) ∙ h

module _ {X : Type 0} (f : Block → Option X) (out whole : List X) (bs : List RedBlock) (i : ℕ) where
  pub none_left : length bs ≤ i → out ++ filter_map f (drop i (blocks_of bs)) ≡ whole → out ≡ whole
  none_left le h =
      let le' : length (blocks_of bs) ≤ i = omega (arith, le, length-map bs block_of) in
      sym (append-nil out) ∙ ap (λ t. out ++ filter_map f t) (sym (drop_all i (blocks_of bs) le')) ∙ h
