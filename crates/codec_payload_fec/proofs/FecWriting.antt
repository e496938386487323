-- Packets of FEC that are written.
use Rattle.std.proofs.Common.{◌≡◌, List, ◌++◌, Result, Ok, Err, ℕ, cond, ap, ◌∙◌, append_assoc}
use Rattle.std.specs.Prelude.{OnOk, is_ok}

-- the appended bytes in four parts
pub four_parts : {X E : Type 0} (result : Result X E) (old first second third new front head size mask continued payload further : List ℕ) → front ≡ (head ++ size) ++ mask → first ≡ old ++ front → second ≡ first ++ continued → third ≡ second ++ payload
    → OnOk result (new ≡ third ++ further) → OnOk result (new ≡ old ++ (head ++ (((size ++ mask) ++ continued ++ payload) ++ further)))
four_parts (Ok x) old first second third new front head size mask continued payload further e0 e1 e2 e3 e4 =
    e4 ∙ ap (λ (t : List ℕ). t ++ further) (e3 ∙ ap (λ (t : List ℕ). t ++ payload) (e2 ∙ ap (λ (t : List ℕ). t ++ continued) (e1 ∙ ap (λ (t : List ℕ). old ++ t) e0)))
    ∙ simp append_assoc
four_parts (Err x) old first second third new front head size mask continued payload further e0 e1 e2 e3 e4 = tt

pub on_ok_if : {X E : Type 0} (result : Result X E) (new a b : List ℕ) → new ≡ cond (is_ok result) a b → OnOk result (new ≡ a)
on_ok_if (Ok x) new a b e = e
on_ok_if (Err x) new a b e = tt
