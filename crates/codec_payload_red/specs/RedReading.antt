-- RED payloads as they are read, from the left.
use Rattle.std.specs.Prelude.{ℕ, zero, suc, ◌+◌, ◌*◌, ◌/◌, ◌%◌, List, [], ◌∷◌, length, take, drop, slice_index, Option, Some, None, nat_lt, if◌then◌else◌}
use Rattle.codec_payload_red.specs.RedPayload.{Redundant, Red}

infixl 10 ◌>>=◌
abbrev pub ◌>>=◌ : {A B : Type 0} → Option A → (A → Option B) → Option B
(Some x) >>= f = f x
None >>= f = None

-- how many headers have F set before the first with F clear, at most k
unfoldable pub count_at : ℕ → List ℕ → Option ℕ
count_at k [] = None
count_at zero (b ∷ bytes) = if nat_lt b 128 then Some 0 else None
count_at (suc k) (b ∷ bytes) = if nat_lt b 128 then Some 0 else count_at k (drop 3 bytes) >>= λ n. Some (n + 1)

-- a block of n bytes, and the bytes after it
abbrev pub cut_block : ℕ → ℕ → ℕ → List ℕ → Option (Redundant × List ℕ)
cut_block pt offset len bodies = if nat_lt (length bodies) len then None else Some (record { pt = pt; offset = offset; bytes = take len bodies }, drop len bodies)

-- the block whose header is first, and the bytes after it
unfoldable pub block_at : List ℕ → List ℕ → Option (Redundant × List ℕ)
block_at heads bodies = cut_block (slice_index heads 0 % 128) (slice_index heads 1 * 64 + slice_index heads 2 / 4) (slice_index heads 2 % 4 * 256 + slice_index heads 3) bodies

abbrev pub one_more : Redundant → Red → Red
one_more b r = record { redundant = b ∷ r.redundant; pt = r.pt; primary = r.primary }

-- n blocks, and the primary, whose header is then first and which takes the rest
unfoldable pub blocks_at : ℕ → List ℕ → List ℕ → Option Red
blocks_at zero heads bodies = Some (record { redundant = []; pt = slice_index heads 0; primary = bodies })
blocks_at (suc n) heads bodies = block_at heads bodies >>= λ b. blocks_at n (drop 4 heads) b.1 >>= λ r. Some (one_more b.0 r)

unfoldable pub red_at : List ℕ → Option Red
red_at bytes = count_at 32 bytes >>= λ n. blocks_at n bytes (drop (4 * n + 1) bytes)
