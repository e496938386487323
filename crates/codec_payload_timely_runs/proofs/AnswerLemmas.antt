-- A consequence of a fact about an Ok.
use Rattle.std.proofs.Common.{Result, Ok, Err, IfOk}

pub if_ok : {T E : Type 0} {P Q : T → Type 0} (r : Result T E) → ((x : T) → P x → Q x) → IfOk r P → IfOk r Q
if_ok (Ok x) f p = f x p
if_ok (Err e) f p = tt
