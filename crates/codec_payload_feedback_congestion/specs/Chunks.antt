-- Packet status chunks: one symbol for each packet. 0 did not arrive, 1 has a small delta, 2 a large or negative one, 3 is reserved.
use Rattle.std.specs.Prelude.{◌≡◌, ℕ, zero, suc, ◌+◌, ◌*◌, ◌-◌, ◌/◌, ◌%◌, ◌≤◌, ◌==◌, ◌&&◌, nat_lt, Bool, true, false, List, [], ◌∷◌, ◌++◌, length, take, replicate, if◌then◌else◌, Result, Ok, Err}
use Rattle.std.specs.Int.{w16, from_be_bytes, to_be_bytes}
use Rattle.codec_payload_feedback_congestion.specs.declared.transport.TransportFault.{TransportFault}
use Rattle.codec_payload_feedback_congestion.specs.declared.transport.TransportFault.TheVariants as faults

infixl 10 ◌>>=◌
abbrev pub ◌>>=◌ : {A B : Type 0} → Result A TransportFault → (A → Result B TransportFault) → Result B TransportFault
(Ok x) >>= f = f x
(Err e) >>= f = Err e

-- the last k digits of a word in a base, the most significant first
unfoldable pub unpacked : ℕ → ℕ → ℕ → List ℕ
unpacked base zero word = []
unpacked base (suc k) word = unpacked base k (word / base) ++ (word % base) ∷ []

-- T = 0: a run of one symbol (2 bits) with its length (13 bits). T = 1, S = 0: 14 symbols of one bit. T = 1, S = 1: 7 of two bits
unfoldable pub chunk_symbols : ℕ → List ℕ
chunk_symbols word =
    if nat_lt word 32768 then replicate (word % 8192) (word / 8192)
    else if nat_lt word 49152 then unpacked 2 14 word
    else unpacked 4 7 word

-- the symbols of a chunk, as far as they are counted
abbrev pub counted : ℕ → ℕ → ℕ → List ℕ
counted n high low = take n (chunk_symbols (from_be_bytes w16 (high ∷ low ∷ [])))

abbrev pub with_symbols : List ℕ → Result (List ℕ × List ℕ) TransportFault → Result (List ℕ × List ℕ) TransportFault
with_symbols front others = others >>= λ x. Ok (front ++ x.0, x.1)

-- n symbols from chunks, and the bytes after the chunks
unfoldable pub symbols_at : ℕ → List ℕ → Result (List ℕ × List ℕ) TransportFault
symbols_at n [] = if n == 0 then Ok ([], []) else Err faults.ChunksTooShort
symbols_at n (high ∷ []) = if n == 0 then Ok ([], high ∷ []) else Err faults.ChunksTooShort
symbols_at n (high ∷ low ∷ bytes) =
    if n == 0 then Ok ([], high ∷ low ∷ bytes)
    else with_symbols (counted n high low) (symbols_at (n - length (counted n high low)) bytes)

-- ---- writing

-- the first k symbols, filled up with 0
unfoldable pub padded : ℕ → List ℕ → List ℕ
padded zero ss = []
padded (suc k) [] = 0 ∷ padded k []
padded (suc k) (s ∷ ss) = s ∷ padded k ss

-- the first k symbols are below the base
unfoldable pub are_below : ℕ → ℕ → List ℕ → Bool
are_below base zero ss = true
are_below base (suc k) [] = true
are_below base (suc k) (s ∷ ss) = nat_lt s base && are_below base k ss

-- all are below the base
unfoldable pub all_below : ℕ → List ℕ → Bool
all_below base [] = true
all_below base (s ∷ ss) = nat_lt s base && all_below base ss

-- new is old with chunks of these symbols at its end: read, they are these symbols, whatever follows
pub record Chunked (old new symbols : List ℕ) : Type 0 where
  pub chunks : List ℕ
  pub is : new ≡ old ++ chunks
  -- two bytes for each seven symbols
  pub short : 7 * length chunks ≤ 2 * length symbols + 12
  pub says : (more : List ℕ) → symbols_at (length symbols) (chunks ++ more) ≡ Ok (symbols, more)
