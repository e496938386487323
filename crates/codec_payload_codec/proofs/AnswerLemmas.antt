-- Consequences of facts about results.
use Rattle.std.proofs.Common.{Result, Ok, Err, OnOk, OnErr, IfErr}

-- a general fact is a fact about an Err
pub on_err : {T E P : Type 0} (r : Result T E) → P → OnErr r P
on_err (Ok x) p = tt
on_err (Err e) p = p

-- a consequence of a fact about an Ok
pub on_ok : {T E P Q : Type 0} (r : Result T E) → (P → Q) → OnOk r P → OnOk r Q
on_ok (Ok x) f p = f p
on_ok (Err e) f p = p

-- a consequence of a fact about an Err
pub from_err : {T E P Q : Type 0} (r : Result T E) → (P → Q) → OnErr r P → OnErr r Q
from_err (Ok x) f p = p
from_err (Err e) f p = f p

-- a consequence of a fact about the fault
pub if_err : {T E : Type 0} {P Q : E → Type 0} (r : Result T E) → ((e : E) → P e → Q e) → IfErr r P → IfErr r Q
if_err (Ok x) f p = tt
if_err (Err e) f p = f e p
