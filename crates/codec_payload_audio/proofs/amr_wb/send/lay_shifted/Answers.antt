use Rattle.std.proofs.Common.{arith, ◌≡◌, ℕ, ◌+◌, ◌-◌, ◌*◌, ◌/◌, ◌%◌, ◌<◌, ◌≤◌, List, [], ◌∷◌, ◌++◌, length, get_or, set, take, drop, ◌∙◌, ap, refl, sym}
use Rattle.std.specs.Int.Bits.{bit_or}
use Rattle.std.proofs.lemmas.Grind.{common_steps}
use Rattle.std.proofs.lemmas.List.{nil_from_length, take_all, take_more_set, length-set}
use Rattle.codec_payload_base.specs.Bits.{bits_of}
use Rattle.codec_payload_audio.proofs.ShiftLemmas.{sent_all, sent_none}
use Rattle.codec_payload_audio.proofs.amr_wb.send.lay_shifted.Goals as goal

-- the first two of a list, written over
two : (to : List ℕ) (a b : ℕ) → 2 ≤ length to → take 2 (set (set to 0 a) 1 b) ≡ a ∷ b ∷ []
two [] a b some = absurd (omega (arith, some))
two (x ∷ []) a b some = absurd (omega (arith, some))
two (x ∷ y ∷ to) a b some = refl

two_all : (to : List ℕ) (a b : ℕ) → length to ≡ 2 → set (set to 0 a) 1 b ≡ a ∷ b ∷ []
two_all [] a b some = absurd (omega (arith, some))
two_all (x ∷ []) a b some = absurd (omega (arith, some))
two_all (x ∷ y ∷ []) a b some = refl
two_all (x ∷ y ∷ z ∷ to) a b some = absurd (omega (arith, some))

pub returns-in-None-clause-bits : goal.returns-in-None-clause-bits
returns-in-None-clause-bits c =
    let bs = c.args.speech.now in
    let to = c.args.to.now in
    let toc = c.args.toc in
    let none : bs ≡ [] = nil_from_length bs (grind (arith, common_steps)) in
    let size : length to ≡ 2 = omega (arith, ap length none, c.requires.space) in
    rw (two_all to (bit_or 240 (toc / 16)) (toc * 16 % 256) size, none) (sent_none toc c.requires.last c.requires.clear)

pub returns-in-Some-clause-bits : goal.returns-in-Some-clause-bits
returns-in-Some-clause-bits c =
    let bs = c.args.speech.now in
    let to = c.args.to.now in
    let toc = c.args.toc in
    let n = length bs - 1 in
    let size : length bs ≡ n + 1 = grind (arith, common_steps) in
    let first : ℕ = c.in-Some.first.now in
    let is : first ≡ get_or bs 0 0 = grind (arith, common_steps) in
    let small : first < 256 = omega (arith, is, c.type_inv.speech 0) in
    let h : ℕ = bit_or 240 (toc / 16) in
    let i : ℕ = bit_or (toc * 16 % 256) (first / 4) in
    let v : ℕ = get_or bs n 0 * 64 % 256 in
    let written = c.write_shifted.new.to in
    let whole : length written ≡ n + 3 =
    c.write_shifted.ensures.size ∙ length-set (set to 0 h) 1 i ∙ length-set to 0 h ∙ c.requires.space ∙ omega (arith, size) in
    let front : take 2 (set (set to 0 h) 1 i) ≡ h ∷ i ∷ [] = two to h i (omega (arith, c.requires.space)) in
    let so_far : bits_of (take (2 + n) written) ≡ bits_of (h ∷ i ∷ []) ++ take (8 * n) (drop 6 (bits_of bs)) =
    c.write_shifted.ensures.written ∙ ap (λ t. bits_of t ++ take (8 * n) (drop 6 (bits_of bs))) front in
    let all : set written (n + 2) v ≡ take (2 + n) written ++ v ∷ [] =
    sym (take_all (n + 2 + 1) (set written (n + 2) v) (omega (arith, length-set written (n + 2) v, whole)))
    ∙ take_more_set written (n + 2) v (omega (arith, whole)) ∙ ap (λ t. take t written ++ v ∷ []) (omega arith) in
    ap bits_of all
    ∙ sent_all toc bs (take (2 + n) written) n first (get_or bs n 0) c.requires.last c.requires.clear size small is refl so_far
