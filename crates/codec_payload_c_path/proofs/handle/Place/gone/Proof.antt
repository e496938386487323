-- `gone` drops a place that owns nothing.
use Rattle.std.proofs.Common.{List, [], ◌∷◌, ◌++◌, refl, sym}
use mir.Val.{Val, vunit}
use base.Logic.{SProp, ent, emp, id⊢}
use contract.Monad.{fact}
use contract.Running.{tables}
use prog.Wp.{WpFn}
use types.Kit.{‵, raw, ◌⊛◌, ◌$◌, ◌∵◌, !, qed, by, move, keep, drop, split, fsplit, fjoin, feq_i, suffices, use0}
use types.Run.{of_opd, unit_lit, returns, enter}
use types.ByLocal.{alloc_all, pass_all, free_all, look_at, sets}
use denote.RattleType.{owns}
use denote.Signature.{types_at, plain}
use denote.Exit.{yes}
use denote.Steps.{nothing, heard}
use denote.Triple.Entry.{alive}
use denote.Triple.Walked.{Stays, stay_dropped, walk_of}
use Rattle.core.proofs.alloc.Calls.{Goes-blank}
use Rattle.std.proofs.raw_atomic.Walks.{proved_at, leaves}
use Rattle.std.specs.Prelude.{IsNone}
use Rattle.codec_payload_c_path.proofs.PlaceSteps.{Place, word, word_good, place_out}
use Rattle.codec_payload_c_path.specs.contracts.handle.Place.gone.{ended, clauses}
use Rattle.codec_payload_c_path.specs.contracts.handle.Place.gone.Key.{name as #self}
use Rattle.codec_payload_c_path.proofs.handle.Place.gone.Statement.{statement}
use Rattle.codec_payload_c_path.proofs.handle.Place.gone.Code as code

pub gone_spec : {M : Type 1} → statement M
gone_spec 𝓤 𝓛 𝓜 𝓡 wired =
    let 𝓣 = tables 𝓤 𝓛.H 𝓜 𝓡 𝓡.env in let c = clauses 𝓛 𝓜.mem 𝓡.returns in let fn = code.function in let S = ended.signature in
    let hs : Stays ended.signature.params ended.kept = (stay_dropped (plain (λ _. Place)) yes, tt) in
    proved_at 𝓛 ended hs c 𝓜 𝓡 (Goes-blank 𝓛 0 (plain (λ _. Place)) yes (λ κs x f. tt), tt) #self fn (code.unfolded 𝓤 𝓛.H 𝓜 𝓡 wired) (λ z are.
    let Post : Val → SProp 𝓤 = (walk_of 𝓛 ended hs c).post z in let Run : List Val → SProp 𝓤 = λ ws. WpFn 𝓤 𝓛.H 𝓣.C 𝓣.Λ fn ws Post in let d = z.0.3.0 in let w = word d.at in
    qed 𝓛 ((raw (alive 𝓛 S z.0.0 z.0.1) ⊛ ‵ (owns (types_at S.params z.0.0) z.0.3 z.0.4)) ∷ raw (fact 𝓤 (IsNone d.value)) ∷ []) ∵ move ! (1 ∷ []) $ heard ! (IsNone d.value) (λ is.
    split ! $ move ! (1 ∷ []) $ fsplit ! $ place_out ! d z.0.4.0 (λ ws. drop ! $
    suffices ! (Run (w ∷ [])) (mathlib.Core.Path.subst (λ (us : List Val). ent 𝓤 (Run (w ∷ [])) (Run us)) (sym (λ i. ws i ++ [])) (id⊢ 𝓤 (Run (w ∷ [])))) $
    enter ! 𝓣.C 𝓣.Λ fn (w ∷ []) Post $ alloc_all ! (λ l. pass_all ! refl (word_good d.at, tt) $
    sets ! (of_opd ! (unit_lit !)) refl (tt, tt) $
    use0 𝓛 (raw (emp 𝓤)) (id⊢ 𝓤 (emp 𝓤)) $ feq_i ! (List Val) (vunit ∷ []) (vunit ∷ []) refl $ nothing ! $ nothing ! $ fjoin ! $
    returns ! (look_at ! 0 refl) $ free_all ! refl $ keep ! (4 ∷ 0 ∷ 1 ∷ 2 ∷ []) $ by ! (leaves 𝓛 ended hs c z vunit tt (tt, tt) (tt, tt))))))
