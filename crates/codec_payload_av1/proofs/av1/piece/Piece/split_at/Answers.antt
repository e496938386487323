use Rattle.std.proofs.Common.{◌≡◌, ℕ, zero, suc, ◌-◌, ◌<◌, true, false, Option, Some, None, List, [], ◌∷◌, ◌++◌, length, drop, min, refl, sym, ap, ◌∙◌, arith, ◌⊎◌, inl, inr}
use Rattle.std.specs.Option.{is_some}
use Rattle.codec_payload_av1.specs.Av1Piece.{header_bytes}
use Rattle.codec_payload_av1.proofs.av1.piece.Piece.split_at.Goals as goal
use Rattle.codec_payload_av1.proofs.av1.piece.Piece.split_at.Goals.{then-is_some, else-is_some}

drop_two : (left : ℕ) (ys zs : List ℕ) → drop (min left (length ys)) ys ++ drop (left - length ys) zs ≡ drop left (ys ++ zs)
drop_two left [] zs = let a : min left 0 ≡ 0 = omega arith in let b : left - 0 ≡ left = omega arith in rw (a, b) refl
drop_two zero (y ∷ ys) zs = let a : min 0 (length (y ∷ ys)) ≡ 0 = omega arith in let b : 0 - length (y ∷ ys) ≡ 0 = omega arith in rw (a, b) refl
drop_two (suc left) (y ∷ ys) zs =
    let a : min (suc left) (length (y ∷ ys)) ≡ suc (min left (length ys)) = omega arith in
    let b : suc left - length (y ∷ ys) ≡ left - length ys = omega arith in
    rw (a, b) (drop_two left ys zs)

behind : (o : Option ℕ) (n left : ℕ) (rest : List ℕ) → 0 < n → ((is_some o ≡ true) × (left ≡ n - 1)) ⊎ ((is_some o ≡ false) × (left ≡ n)) → drop left rest ≡ drop n (header_bytes o ++ rest)
behind (Some h) zero left rest lt e = absurd (omega (arith, lt))
behind (Some h) (suc n) left rest lt e = elim e [ inl a ↦ ap (λ k. drop k rest) (omega (arith, a.1)) | inr b ↦ absurd (let z = b.0 in cc) ]
behind None n left rest lt e = elim e [ inl a ↦ absurd (let z = a.0 in cc) | inr b ↦ ap (λ k. drop k rest) b.1 ]

pub returns-clause-back : goal.returns-clause-back
returns-clause-back c =
    let p = c.args.self.now in
    let left = c.if-is_some.left in
    let some : 0 < c.args.n = omega (arith, c.if-n-eq0.false) in
    rw (c.split_at.ensures.back, c.split_at-2.ensures.back, c.min.ensures, c.saturating_sub.ensures)
    (drop_two left p.extension.now p.payload.now
    ∙ behind p.header c.args.n left (p.extension.now ++ p.payload.now) some
    (elim c.if-is_some.branch [
      | then-is_some w ↦ inl (sym c.is_some.ensures ∙ w.if-is_some.true, w.left-is)
      | else-is_some w ↦ inr (sym c.is_some.ensures ∙ w.if-is_some.false, w.left-is)
    ]))
