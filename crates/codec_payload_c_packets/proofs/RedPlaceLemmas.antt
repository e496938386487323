-- Blocks in their RED payload.
use Rattle.std.proofs.Common.{◌≡◌, ◌∙◌, sym, ap, subst, refl, ℕ, zero, suc, ◌+◌, ◌-◌, ◌*◌, ◌<◌, ◌≤◌, List, [], ◌∷◌, ◌++◌, length, take, drop, map, get_or, arith, append_assoc, append-nil, length-append, Option, Some, None, slice_get}
use Rattle.std.specs.List.{flat_map}
use Rattle.std.proofs.Math.Seq.{drop-append-add}
use Rattle.std.proofs.lemmas.Bool.{le-leb, lt-leb}
use Rattle.std.proofs.lemmas.List.{take_at, take_more, get_or-map, length-map}
use Rattle.codec_payload_core.specs.RedBlocks.{Block, block_of, blocks_in, blocks_of, older}
use Rattle.codec_payload_core.specs.RedPayload.{IsRed, Red, Redundant, header}
use Rattle.codec_payload_core.specs.RedReading.{red_at}
use Rattle.codec_payload_core.specs.declared.red.RedBlock.{RedBlock}
use Rattle.codec_payload_c_packets.specs.RedPlaces.{LiesThere, PlacesBlocks, block_at, block_place, bytes_in, front_of, no_block}
use Rattle.codec_payload_c_packets.specs.declared.red_places.RedBlockPlace.{RedBlockPlace}

-- ---- sizes

bytes-append : (bs cs : List Block) → bytes_in (bs ++ cs) ≡ bytes_in bs + bytes_in cs
bytes-append [] cs = omega arith
bytes-append (b ∷ bs) cs = omega (arith, bytes-append bs cs)

-- one more block in front of the place
pub bytes_more : (bs : List Block) (i : ℕ) → i < length bs → bytes_in (take (i + 1) bs) ≡ bytes_in (take i bs) + length (block_at bs i).payload
bytes_more bs i below = ap bytes_in (take_more bs i no_block below) ∙ bytes-append (take i bs) (block_at bs i ∷ []) ∙ omega arith

-- the blocks in front of a place have no more bytes than all blocks
pub bytes_within : (bs : List Block) (i : ℕ) → bytes_in (take i bs) ≤ bytes_in bs
bytes_within bs zero = omega arith
bytes_within [] (suc i) = omega arith
bytes_within (b ∷ bs) (suc i) = omega (arith, bytes_within bs i)

-- ---- places

-- the bytes of successive blocks
abbrev pub joined : List Block → List ℕ
joined [] = []
joined (b ∷ bs) = b.payload ++ joined bs

joined_long : (bs : List Block) → length (joined bs) ≡ bytes_in bs
joined_long [] = refl
joined_long (b ∷ bs) = omega (arith, length-append b.payload (joined bs), joined_long bs)

lies_in_joined : (bs : List Block) (i : ℕ) → i < length bs → take (length (block_at bs i).payload) (drop (bytes_in (take i bs)) (joined bs)) ≡ (block_at bs i).payload
lies_in_joined [] i below = absurd (omega (arith, below))
lies_in_joined (b ∷ bs) zero below = take_at b.payload (joined bs) (length b.payload) refl
lies_in_joined (b ∷ bs) (suc i) below =
    ap (λ (xs : List ℕ). take (length (block_at bs i).payload) xs) (drop-append-add b.payload (joined bs) (bytes_in (take i bs)))
    ∙ lies_in_joined bs i (omega (arith, below))

joined_red : (rs : List Redundant) (last : Block) → joined (map older rs ++ last ∷ []) ≡ flat_map (λ r. r.bytes) rs ++ last.payload
joined_red [] last = append-nil last.payload
joined_red (r ∷ rs) last = ap (λ (xs : List ℕ). r.bytes ++ xs) (joined_red rs last) ∙ sym (append_assoc r.bytes (flat_map (λ r. r.bytes) rs) last.payload)

headers_long : (rs : List Redundant) → length (flat_map header rs) ≡ 4 * length rs
headers_long [] = refl
headers_long (r ∷ rs) = omega (arith, length-append (header r) (flat_map header rs), headers_long rs)

module _ (payload : List ℕ) (r : Red) (is : IsRed payload r) where
  abbrev pub heads : List ℕ
  heads = flat_map header r.redundant ++ r.pt ∷ []

  many : length (blocks_in r) ≡ length r.redundant + 1
  many = length-append (map older r.redundant) (record { pt = r.pt; timestamp_offset = 0; payload = r.primary; is_primary = _ } ∷ []) ∙ ap (λ (n : ℕ). n + 1) (length-map r.redundant older)

  heads_long : length heads ≡ front_of (blocks_in r)
  heads_long = omega (arith, length-append (flat_map header r.redundant) (r.pt ∷ []), headers_long r.redundant, many)

  payload_is : payload ≡ heads ++ joined (blocks_in r)
  payload_is =
      is.is ∙ ap (λ (xs : List ℕ). flat_map header r.redundant ++ r.pt ∷ xs) (sym (joined_red r.redundant _))
      ∙ sym (append_assoc (flat_map header r.redundant) (r.pt ∷ []) (joined (blocks_in r)))

  pub there_are : (bs : List Block) → bs ≡ blocks_in r → (0 < length bs) × (length bs ≤ 33)
  there_are bs same = (omega (arith, ap length same, many), omega (arith, ap length same, many, is.few))

  pub long : (bs : List Block) → bs ≡ blocks_in r → front_of bs + bytes_in bs ≡ length payload
  long bs same =
      omega (arith, ap length payload_is, length-append heads (joined (blocks_in r)), joined_long (blocks_in r), heads_long, ap front_of same, ap bytes_in same)

  pub lies : (bs : List Block) → bs ≡ blocks_in r → (i : ℕ) → i < length bs → LiesThere payload bs i
  lies bs same i below = subst (λ (cs : List Block). LiesThere payload cs i) (sym same) (
      ap (λ (n : ℕ). take (length (block_at (blocks_in r) i).payload) (drop (n + bytes_in (take i (blocks_in r))) payload)) (sym heads_long)
      ∙ ap (λ (xs : List ℕ). take (length (block_at (blocks_in r) i).payload) (drop (length heads + bytes_in (take i (blocks_in r))) xs)) payload_is
      ∙ ap (λ (xs : List ℕ). take (length (block_at (blocks_in r) i).payload) xs) (drop-append-add heads (joined (blocks_in r)) (bytes_in (take i (blocks_in r))))
      ∙ lies_in_joined (blocks_in r) i (omega (arith, below, ap length same))
      )

-- ---- one described block

module _ (front : ℕ) (blocks : List RedBlock) (i : ℕ) (d : RedBlock) (start : ℕ) (below : i < length blocks) (start_is : start ≡ front + bytes_in (take i (blocks_of blocks))) where
  abbrev pub it : RedBlock
  it = get_or blocks i d

  here : block_at (blocks_of blocks) i ≡ block_of it
  here = get_or-map block_of blocks i d no_block below

  pub placed_is : record { start = start; bytes = length it.payload.now; offset = it.timestamp_offset; payload_type = it.pt; is_primary = it.is_primary } ≡ block_place front (blocks_of blocks) i
  placed_is = rw (start_is, here) refl

  pub start_next : start + length it.payload.now ≡ front + bytes_in (take (i + 1) (blocks_of blocks))
  start_next = omega (arith, start_is, bytes_more (blocks_of blocks) i (omega (arith, below, length-map blocks block_of)), ap (λ (b : Block). length b.payload) here)

  pub start_fits : start + length it.payload.now ≤ front + bytes_in (blocks_of blocks)
  start_fits = omega (arith, start_next, bytes_within (blocks_of blocks) (i + 1))

-- ---- all described blocks

there_is : {X : Type 0} → Option X → Type 0
there_is None = ⊥
there_is (Some x) = Unit {0}

not_none : {X : Type 0} (o : Option X) (x : X) → o ≡ Some x → o ≡ None → ⊥
unfolding there_is
not_none o x some none = subst there_is (sym some ∙ none) tt

module _ (payload : List ℕ) (items : List RedBlock) (r : Red) (is : IsRed payload r) (same : blocks_of items ≡ blocks_in r)
    (red : Red) (read : red_at payload ≡ Some red) (blocks : blocks_of items ≡ blocks_in red) (before : List RedBlockPlace) (len : ℕ) (counted : len ≡ length items) where
  long_as : length (blocks_in red) ≡ len
  long_as = omega (arith, ap length blocks, length-map items block_of, counted)

  front_as : 4 * len - 3 ≡ front_of (blocks_of items)
  front_as = omega (arith, length-map items block_of, counted)

  pub within : length payload < 18446744073709551616 → 4 * len - 3 + bytes_in (blocks_of items) ≤ 18446744073709551615
  within few = omega (arith, few, front_as, long payload r is (blocks_of items) same)

  pub too_few : length before < len → PlacesBlocks payload 33 before before len
  too_few few = record {
    corrupted = (λ e. absurd (omega (arith, e)), λ e. absurd (not_none (red_at payload) red read e));
    reads = λ _ _. (
      red,
      read,
      record {
        answers = rw (lt-leb (length (blocks_in red)) (length before) (omega (arith, few, long_as))) refl;
        counted = sym long_as;
        tells = λ e. absurd (omega (arith, e));
        lies = lies payload r is (blocks_in red) (sym blocks ∙ same);
        behind = λ e. absurd (omega (arith, e));
      },
    );
  }

  pub placed : (after : List RedBlockPlace) → len ≤ length before
      → ((index : ℕ) → index < length items → slice_get after index ≡ Some (block_place (4 * len - 3) (blocks_of items) index))
      → drop (length items) after ≡ drop (length items) before → PlacesBlocks payload 0 before after len
  placed after enough told behind = record {
    corrupted = (λ e. absurd (omega (arith, e)), λ e. absurd (not_none (red_at payload) red read e));
    reads = λ _ _. (
      red,
      read,
      record {
        answers = rw (le-leb (length (blocks_in red)) (length before) (omega (arith, enough, long_as))) refl;
        counted = sym long_as;
        tells = λ _ index below.
            told index (omega (arith, below, long_as, counted))
            ∙ ap (λ (f : ℕ). Some (block_place f (blocks_of items) index)) front_as
            ∙ ap (λ (cs : List Block). Some (block_place (front_of cs) cs index)) blocks;
        lies = lies payload r is (blocks_in red) (sym blocks ∙ same);
        behind = λ _. subst (λ (n : ℕ). drop n after ≡ drop n before) (omega (arith, long_as, counted)) behind;
      },
    );
  }
