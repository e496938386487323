-- A `Place` by value: its one machine value, and what it owns.
use Rattle.std.proofs.Common.{◌≡◌, Bool, List, [], ◌∷◌, ◌++◌, refl, sym, subst, lit<}
use lib.Dec.{T}
use seplogic.Ra.Ura.{Ura}
use mir.Val.{Val, vstruct, vcons, vnil, of_list, has_ty, WT}
use denote.Param.{layout}
use types.Logic.{Logic}
use types.Kit.{Item, Goal, Seq, Step, step, ‵, ◌$◌, drop, fsplit, fjoin, fpick, fpack, feq_i, feq_l}
use denote.RattleType.{RattleType, Valss}
use denote.Builtin.{RawPtr}
use denote.RawPtr.{Ptr, block_ptr, null_ptr, ptr_val}
use denote.Steps.{nothing}
use denote.Struct.Struct.{within}
use denote.Struct.Owning.{shape}
use Rattle.std.specs.Prelude.{Option, Some, None, IsSome}
use Rattle.codec_payload_c_path.specs.Owned.{owns_object}
use Rattle.codec_payload_c_path.specs.declared.object.PathObject.{PathObject}
use Rattle.codec_payload_c_path.specs.contracts.handle.Place as place

abbrev pub Place : RattleType
Place = place.the_row

abbrev pub word : Ptr → Val
word p = vstruct (vcons (ptr_val p) vnil)

module _ {M : Type 1} {𝓤 : Ura M} {𝓛 : Logic 𝓤} {K : Type 0} {Γ : List (Item 𝓤)} {G : Goal 𝓤 𝓛.H} where
  pub place_out : K → (d : Place.Denot) (vs : List Val) → (vs ≡ word d.at ∷ [] → Seq K 𝓛 (‵ (owns_object d.at d.value) ∷ Γ) G) → Seq K 𝓛 (‵ (Place.own_val d vs) ∷ Γ) G
  place_out t d vs k =
      fsplit t $ fpick t (λ vss. fsplit t $ feq_l t (λ ev. fsplit t $ feq_l t (λ ep. drop t $
      k (subst (λ (ps : List Val). vs ≡ vstruct (of_list (ps ++ [])) ∷ []) ep ev))))

  pub place_in : K → (p : Ptr) (x : Option PathObject)
      → Step K 𝓛 (‵ (Place.own_val (record { at = p; value = x }) (word p ∷ [])) ∷ Γ) G (‵ (owns_object p x) ∷ Γ) G
  place_in t p x = step (λ s.
      nothing t $ feq_i t (List Val) (ptr_val p ∷ []) (ptr_val p ∷ []) refl $ fjoin t $ feq_i t (List Val) (word p ∷ []) (word p ∷ []) refl $ fjoin t $
      fpack t (Valss (RawPtr ∷ [])) (within (shape place.the_type) (p, tt) (word p ∷ [])) (ptr_val p ∷ [], tt) $ fjoin t $ s)

-- the value, if there is one
pub some_of : (o : Option PathObject) → IsSome o → (x : PathObject) × (o ≡ Some x)
some_of (Some x) t = (x, refl)
some_of None t = absurd (subst (λ (b : Bool). T b) (sym t) tt)

-- a place's machine value is of its type
pub word_good : (p : Ptr) → T (has_ty (layout Place) (word p)) × WT (word p)
word_good (block_ptr b o) = (tt, (tt, tt))
word_good null_ptr = (tt, (record { fits = lit< tt }, tt))
