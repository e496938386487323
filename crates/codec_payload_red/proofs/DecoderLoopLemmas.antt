-- The loop of the decoder: the found blocks precede the bytes that are left to read.
use Rattle.std.proofs.Common.{◌≡◌, ℕ, suc, List, [], ◌∷◌, ◌++◌, map, get_or, drop, Option, Some, None, is_some, true, false, refl, sym, ap, ◌∙◌, append_assoc}
use Rattle.std.proofs.lemmas.List.{append-nil, map_push}
use Rattle.codec_payload_red.specs.RedPayload.{Redundant, Red}
use Rattle.codec_payload_red.specs.declared.red.blocks.RedBlock.{RedBlock}
use Rattle.codec_payload_red.specs.RedBlocks.{block_of, blocks_of, blocks_in, older}
use Rattle.codec_payload_red.specs.RedReading.{◌>>=◌, block_at, one_more, blocks_at}

abbrev pub with_front : List Redundant → Option Red → Option Red
with_front found None = None
with_front found (Some r) = Some (record { redundant = found ++ r.redundant; pt = r.pt; primary = r.primary })

with_one : (found : List Redundant) (b : Redundant) (o : Option Red) → with_front (found ++ b ∷ []) o ≡ with_front found (o >>= λ r. Some (one_more b r))
with_one found b None = refl
with_one found b (Some r) = ap (λ t. Some (record { redundant = t; pt = r.pt; primary = r.primary })) (append_assoc found (b ∷ []) r.redundant)

pub with_none : (o : Option Red) → with_front [] o ≡ o
with_none None = refl
with_none (Some r) = refl

pub none_there : (found : List Redundant) (n : ℕ) (heads rest : List ℕ) (whole : Option Red) → block_at heads rest ≡ None → with_front found (blocks_at (suc n) heads rest) ≡ whole → whole ≡ None
unfolding blocks_at
none_there found n heads rest whole e h = sym (rw e at h)

pub one_there : (found : List Redundant) (n : ℕ) (heads rest : List ℕ) (whole : Option Red) (b : Redundant) (behind : List ℕ) → block_at heads rest ≡ Some (b, behind) → with_front found (blocks_at (suc n) heads rest) ≡ whole → with_front (found ++ b ∷ []) (blocks_at n (drop 4 heads) behind) ≡ whole
unfolding blocks_at
one_there found n heads rest whole b behind e h =
    let h' : with_front found (blocks_at n (drop 4 heads) behind >>= λ r. Some (one_more b r)) ≡ whole = rw e at h in
    with_one found b (blocks_at n (drop 4 heads) behind) ∙ h'

pub all_there : (found : List Redundant) (heads rest : List ℕ) (whole : Option Red) → with_front found (blocks_at 0 heads rest) ≡ whole → whole ≡ Some (record { redundant = found; pt = get_or heads 0 0; primary = rest })
unfolding blocks_at
all_there found heads rest whole h = sym h ∙ ap (λ t. Some (record { redundant = t; pt = get_or heads 0 0; primary = rest })) (append-nil found)

pub blocks_and_primary : (bs : List RedBlock) (x : RedBlock) (r : Red) → blocks_of bs ≡ map older r.redundant → block_of x ≡ record { pt = r.pt; timestamp_offset = 0; payload = r.primary; is_primary = true } → blocks_of (bs ++ x ∷ []) ≡ blocks_in r
blocks_and_primary bs x r older_ones last = map_push block_of bs x ∙ ap (λ t. t ++ block_of x ∷ []) older_ones ∙ ap (λ t. map older r.redundant ++ t ∷ []) last

pub some_none : (n : ℕ) (heads rest : List ℕ) → block_at heads rest ≡ None → is_some (blocks_at (suc n) heads rest) ≡ false
unfolding blocks_at
some_none n heads rest e = rw e refl

some_more : (b : Redundant) (o : Option Red) → is_some (o >>= λ r. Some (one_more b r)) ≡ is_some o
some_more b None = refl
some_more b (Some r) = refl

pub some_one : (n : ℕ) (heads rest : List ℕ) (b : Redundant) (behind : List ℕ) → block_at heads rest ≡ Some (b, behind) → is_some (blocks_at (suc n) heads rest) ≡ is_some (blocks_at n (drop 4 heads) behind)
unfolding blocks_at
some_one n heads rest b behind e = rw e (some_more b (blocks_at n (drop 4 heads) behind))

pub some_last : (heads rest : List ℕ) → is_some (blocks_at 0 heads rest) ≡ true
unfolding blocks_at
some_last heads rest = refl
