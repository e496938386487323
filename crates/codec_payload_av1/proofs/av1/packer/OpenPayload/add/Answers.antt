use Rattle.std.proofs.Common.{◌≡◌, ℕ, ◌+◌, ◌<◌, ◌≤◌, List, [], ◌∷◌, ◌++◌, length, ap, ◌∙◌, ◌⊎◌, inl, inr, arith}
use Rattle.codec_payload_av1.specs.declared.av1.piece.Piece.{Piece}
use Rattle.std.proofs.lemmas.List.{length-map, map_push}
use Rattle.codec_payload_av1.specs.Av1Size.{leb_len, lengths, own, deferred, packet_size}
use Rattle.codec_payload_av1.specs.Av1Piece.{piece_bytes, pieces_of}
use Rattle.codec_payload_av1.proofs.Av1PacketGrowth.{has_room, less_left, own_either}
use Rattle.codec_payload_av1.proofs.av1.packer.OpenPayload.add.Goals as goal
use Rattle.codec_payload_av1.proofs.av1.packer.OpenPayload.add.Goals.{then-len-lt3, else-len-lt3, In_ok-push}

-- the two lengths, over plain variables
chosen : (es : List ℕ) (n count len own_len : ℕ) (pair : ℕ × ℕ) → count ≡ length es → len ≡ n → own_len ≡ leb_len len → ((count < 3) × (pair ≡ (0, own_len))) ⊎ ((3 ≤ count) × (pair ≡ (own_len, 0)))
    → (pair.0 ≡ own leb_len es n) × (pair.1 ≡ deferred leb_len (es ++ n ∷ []))
chosen es n count len own_len pair count-is len-is own-is either =
    let own-of : own_len ≡ leb_len n = own-is ∙ ap leb_len len-is in
    elim either [
      | inl few ↦ own_either leb_len es n pair.0 pair.1 (inl (omega (arith, few.0), ap (λ (p : ℕ × ℕ). p.0) few.1, ap (λ (p : ℕ × ℕ). p.1) few.1 ∙ own-of))
      | inr many ↦ own_either leb_len es n pair.0 pair.1 (inr (omega (arith, many.0), ap (λ (p : ℕ × ℕ). p.0) many.1 ∙ own-of, ap (λ (p : ℕ × ℕ). p.1) many.1))
    ]

both : (c : In_ok-push) → (c.if-len-lt3.now.0 ≡ own leb_len (lengths (pieces_of c.self.inside.elements.items)) (length (piece_bytes c.args.element.now)))
    × (c.if-len-lt3.now.1 ≡ deferred leb_len (lengths (pieces_of c.self.inside.elements.items) ++ length (piece_bytes c.args.element.now) ∷ []))
both c =
    let es = c.self.inside.elements.items in
    chosen (lengths (pieces_of es)) (length (piece_bytes c.args.element.now)) c.len.result c.len-len.result c.number_len-own_len.result c.if-len-lt3.now
    (omega (arith, c.len.ensures, length-map (pieces_of es) (length {A = ℕ}), length-map es piece_bytes))
    c.len-len.ensures
    c.number_len-own_len.ensures.len
    (elim c.if-len-lt3.branch [
      | then-len-lt3 w ↦ inl (w.if-len-lt3.true, w.now-is)
      | else-len-lt3 w ↦ inr (w.if-len-lt3.false, w.now-is)
    ])

fits : (c : In_ok-push) → packet_size leb_len (lengths (pieces_of c.self.inside.elements.items) ++ length (piece_bytes c.args.element.now) ∷ []) ≤ c.self.inside.mtu
fits c = rw (← c.self.view_is) at c.requires

fits_left : (c : In_ok-push) → c.self.inside.deferred_length + c.if-len-lt3.now.0 + c.len-len.result ≤ c.self.inside.left
fits_left c =
    let es = c.self.inside.elements.items in
    let h = has_room leb_len (lengths (pieces_of es)) c.self.inside.mtu c.self.inside.left c.self.inside.deferred_length c.self.invariant.0 c.self.invariant.1
    (length (piece_bytes c.args.element.now)) (fits c) in
    omega (arith, h, (both c).0, c.len-len.ensures)

pub overflow_sub-self : goal.overflow_sub-self
overflow_sub-self c = omega (arith, fits_left c)

pub overflow_sub-self-2 : goal.overflow_sub-self-2
overflow_sub-self-2 c = omega (arith, fits_left c)

pub overflow_sub-self-3 : goal.overflow_sub-self-3
overflow_sub-self-3 c = omega (arith, fits_left c)

pub invariant_of-self-2 : goal.invariant_of-self-2
invariant_of-self-2 c =
    let es = c.self.inside.elements.items in
    let n = length (piece_bytes c.args.element.now) in
    let pushed : lengths (pieces_of c.push.new.self.items) ≡ lengths (pieces_of es) ++ n ∷ [] =
    ap (λ (vs : List Piece). lengths (pieces_of vs)) c.in_ok-push.ensures.ok ∙ ap lengths (map_push piece_bytes es c.args.element.now)
    ∙ map_push (length {A = ℕ}) (pieces_of es) (piece_bytes c.args.element.now) in
    let h = less_left leb_len (lengths (pieces_of es)) c.self.inside.mtu c.self.inside.left c.self.inside.deferred_length c.self.invariant.0 c.self.invariant.1 n
    (fits (goal.at.invariant_of-self-2 c).In_ok-push) in
    rw pushed (omega (arith, h, (both (goal.at.invariant_of-self-2 c).In_ok-push).0, c.len-len.ensures), (both (goal.at.invariant_of-self-2 c).In_ok-push).1)
