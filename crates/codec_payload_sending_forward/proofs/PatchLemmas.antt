-- A patch over the front of a payload.
use Rattle.std.proofs.Common.{◌≡◌, ◌∙◌, refl, sym, ap, ℕ, ◌<◌, ◌≤◌, List, ◌++◌, length, take, drop, Option, Some, None, arith}
use Rattle.std.specs.Prelude.{slice_set}
use Rattle.std.proofs.lemmas.List.{length-set, length-take-le, set-append_left, take-append-drop}
use Rattle.codec_payload_vp8.specs.Vp8Patch.{IsBelow, Patch, Reaches, patched, written}

written_length : (w : Option (ℕ × ℕ)) (xs : List ℕ) → length (written w xs) ≡ length xs
written_length None xs = refl
written_length (Some w) xs = length-set xs w.0 w.1

written_front : (w : Option (ℕ × ℕ)) (xs ys : List ℕ) → IsBelow w (length xs) → written w (xs ++ ys) ≡ written w xs ++ ys
written_front None xs ys h = refl
written_front (Some w) xs ys h = set-append_left xs ys w.0 w.1 h

pub patched_front : (p : Patch) (xs ys : List ℕ) → Reaches p (length xs) → patched p (xs ++ ys) ≡ patched p xs ++ ys
patched_front p xs ys h =
    let a = written p.picture_id xs in
    let b = written p.picture_id_low a in
    let c = written p.tl0_pic_idx b in
    let la : length a ≡ length xs = written_length p.picture_id xs in
    let lb : length b ≡ length xs = written_length p.picture_id_low a ∙ la in
    let lc : length c ≡ length xs = written_length p.tl0_pic_idx b ∙ lb in
    ap (λ l. written p.key_idx (written p.tl0_pic_idx (written p.picture_id_low l))) (written_front p.picture_id xs ys h.0)
    ∙ (ap (λ l. written p.key_idx (written p.tl0_pic_idx l)) (written_front p.picture_id_low a ys (rw la h.1))
    ∙ (ap (λ l. written p.key_idx l) (written_front p.tl0_pic_idx b ys (rw lb h.2))
    ∙ written_front p.key_idx c ys (rw lc h.3)))

-- the front is patched, and the rest is a copy
pub patched_over : (p : Patch) (k : ℕ) (xs ys front : List ℕ) → k ≤ length xs → ys ≡ xs → Reaches p k → front ≡ patched p (take k xs) → front ++ drop k ys ≡ patched p xs
patched_over p k xs ys front few same reaches is =
    let whole : patched p (take k xs ++ drop k xs) ≡ patched p (take k xs) ++ drop k xs = patched_front p (take k xs) (drop k xs) (rw (length-take-le k xs few) reaches) in
    rw (is, same) (sym whole ∙ ap (λ l. patched p l) (take-append-drop k xs))
