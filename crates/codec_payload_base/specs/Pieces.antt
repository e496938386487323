-- How a frame is cut into pieces of one size, the last with the rest.
use Rattle.std.specs.Prelude.{◌≡◌, ℕ, zero, suc, ◌<◌, ◌≤◌, ◌==◌, ◌||◌, Bool, List, [], ◌∷◌, length, take, drop, None, Result, refl}
use Rattle.std.specs.List.{flat_map}
use Rattle.std.specs.Int.{div_ceil}
use Rattle.std.proofs.Common.{lit<, lit≤}
use Rattle.codec_payload_base.specs.declared.error.PacketError.{PacketError}
use Rattle.codec_payload_base.specs.Answers.{AnswersBy, is_empty}

-- byte strings, one after another
abbrev pub joined : List (List ℕ) → List ℕ
joined pieces = flat_map (λ piece. piece) pieces

-- all have that size but the last, which has at most that size and is not empty
abbrev pub AreOfSize : ℕ → List (List ℕ) → Type 0
AreOfSize size [] = Unit {0}
AreOfSize size (piece ∷ []) = (0 < length piece) × (length piece ≤ size)
AreOfSize size (piece ∷ next ∷ pieces) = (length piece ≡ size) × AreOfSize size (next ∷ pieces)

-- the pieces of a frame
pub record ArePieces (size : ℕ) (frame : List ℕ) (pieces : List (List ℕ)) : Type 0 where
  pub join : joined pieces ≡ frame
  pub sizes : AreOfSize size pieces

-- the first `count` pieces of that size
abbrev pub pieces_from : ℕ → ℕ → List ℕ → List (List ℕ)
pieces_from zero size frame = []
pieces_from (suc count) size frame = take size frame ∷ pieces_from count size (drop size frame)

-- all pieces of a frame, for a size above 0
abbrev pub pieces_of : ℕ → List ℕ → List (List ℕ)
pieces_of size frame = pieces_from (div_ceil (length frame) size) size frame

-- the pieces of a frame are one list
abbrev pub IsOneList : Type 0
IsOneList = (size : ℕ) (frame : List ℕ) (pieces : List (List ℕ)) → 0 < size → ArePieces size frame pieces → pieces ≡ pieces_of size frame

-- whether a frame gives no pieces at an MTU
abbrev pub pieces_are_skipped : ℕ → List ℕ → Bool
pieces_are_skipped mtu frame = is_empty frame || (mtu == 0)

-- the result of a packetizer of pieces: the pieces of MTU bytes, as many as the length over the MTU, rounded up; no frame is
-- refused
abbrev pub AnswersPieces : ℕ → List ℕ → Result (List (List ℕ)) PacketError → Type 0
AnswersPieces mtu frame answer = AnswersBy (pieces_are_skipped mtu frame) None (λ packets. ArePieces mtu frame packets × (length packets ≡ div_ceil (length frame) mtu)) answer

pub pieces_of-two : pieces_of 2 (0x90 ∷ 0x90 ∷ 0x90 ∷ []) ≡ (0x90 ∷ 0x90 ∷ []) ∷ (0x90 ∷ []) ∷ []
pieces_of-two = refl

-- three bytes at an MTU of 2 are two pieces
pub pieces-two : ArePieces 2 (0x90 ∷ 0x90 ∷ 0x90 ∷ []) ((0x90 ∷ 0x90 ∷ []) ∷ (0x90 ∷ []) ∷ [])
pieces-two = record { join = refl; sizes = (refl, (lit< tt, lit≤ tt)) }
