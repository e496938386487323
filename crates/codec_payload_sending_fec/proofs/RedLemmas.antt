-- Packets that are appended.
use Rattle.std.proofs.Common.{◌≡◌, ℕ, Bool, cond, List, [], ◌∷◌, ◌++◌, Result, Ok, Err, sym, ap, ◌∙◌, append_assoc}
use Rattle.std.specs.Prelude.{OnOk, is_ok}
use Rattle.std.proofs.lemmas.List.{append-nil}
use Rattle.codec_payload_base.specs.PayloadLists.{PayloadList}

pub on_ok_if : {X E : Type 0} (result : Result X E) (new a b : List ℕ) → new ≡ cond (is_ok result) a b → OnOk result (new ≡ a)
on_ok_if (Ok x) new a b e = e
on_ok_if (Err x) new a b e = tt

-- a header, a byte and the contents
pub red_is : {X E : Type 0} (result : Result X E) (old first second new header : List ℕ) (kind : ℕ) (contents : List ℕ) → first ≡ old ++ header → second ≡ first ++ kind ∷ [] → OnOk result (new ≡ second ++ contents)
    → OnOk result (new ≡ old ++ (header ++ ((kind ∷ contents) ++ [])))
red_is (Ok x) old first second new header kind contents e1 e2 e3 =
    e3 ∙ ap (λ (t : List ℕ). t ++ contents) (e2 ∙ ap (λ (t : List ℕ). t ++ kind ∷ []) e1) ∙ append_assoc (old ++ header) (kind ∷ []) contents ∙ append_assoc old header (kind ∷ contents)
    ∙ ap (λ (t : List ℕ). old ++ (header ++ t)) (sym (append-nil (kind ∷ contents)))
red_is (Err x) old first second new header kind contents e1 e2 e3 = tt

-- a payload is begun, put and ended
pub put_is : {X E : Type 0} (result : Result X E) (old begun put new : PayloadList) (bytes items empty fec : List ℕ) → begun ≡ record old { begun = [] } → put ≡ record begun { begun = begun.begun ++ bytes }
    → OnOk result (new ≡ record put { headers = put.headers ++ [] ∷ []; payloads = put.payloads ++ put.begun ∷ []; begun = [] }) → bytes ≡ items → items ≡ empty ++ fec → empty ≡ [] → OnOk result (new.payloads ≡ old.payloads ++ fec ∷ [])
put_is (Ok x) old begun put new bytes items empty fec e1 e2 e3 e4 e5 e6 =
    let here : put.payloads ≡ old.payloads = ap (λ (p : PayloadList). p.payloads) e2 ∙ ap (λ (p : PayloadList). p.payloads) e1 in
    let is : put.begun ≡ fec = ap (λ (p : PayloadList). p.begun) e2 ∙ ap (λ (p : PayloadList). p.begun ++ bytes) e1 ∙ e4 ∙ e5 ∙ ap (λ (bs : List ℕ). bs ++ fec) e6 in
    ap (λ (p : PayloadList). p.payloads) e3 ∙ ap (λ (ps : List (List ℕ)). ps ++ put.begun ∷ []) here ∙ ap (λ (bs : List ℕ). old.payloads ++ bs ∷ []) is
put_is (Err x) old begun put new bytes items empty fec e1 e2 e3 e4 e5 e6 = tt
