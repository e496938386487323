-- Bytes at the front of an array of zeros, and the first element with an id.
use Rattle.std.proofs.Common.{◌≡◌, ◌∙◌, ap, sym, refl, ℕ, ◌-◌, List, [], ◌∷◌, ◌++◌, length, take, drop, Bool, true, false, Option, Some, None}
use Rattle.std.specs.Prelude.{◌<◌, ◌==◌, if◌then◌else◌, replicate}
use Rattle.std.proofs.Math.Seq.{take-append_seam}
use Rattle.std.proofs.lemmas.List.{drop-replicate}
use Rattle.codec_payload_rtp.specs.Elements.{Element}
use Rattle.codec_payload_rtp.specs.ExtensionFormats.{bytes_for, first_of}

-- bytes that are copied to the front of 32 zeros
pub copied_to_front : (bytes copied : List ℕ) (len : ℕ) → copied ≡ bytes → len ≡ length bytes → 0 < len
    → let all = copied ++ drop (length bytes) (replicate 32 0) in let front = take len all in (length front ≡ len) × (front ++ replicate (32 - length front) 0 ≡ all) × (0 < len)
copied_to_front bytes copied len same is some =
    let all = copied ++ drop (length bytes) (replicate 32 0) in
    let long : len ≡ length copied = is ∙ sym (ap length same) in
    let front : take len all ≡ copied = ap (λ n. take n all) long ∙ take-append_seam copied (drop (length bytes) (replicate 32 0)) in
    let rest : drop (length bytes) (replicate 32 0) ≡ replicate (32 - length copied) 0 = drop-replicate (length bytes) 32 0 ∙ ap (λ (bs : List ℕ). replicate (32 - length bs) 0) (sym same) in
    (ap length front ∙ sym long, ap (λ (bs : List ℕ). bs ++ replicate (32 - length bs) 0) front ∙ ap (λ (bs : List ℕ). copied ++ bs) (sym rest), some)

-- ---- the first element with an id

chosen : (is : Bool) (bytes : List ℕ) (rest : Option (List ℕ)) → first_of (if is then Some bytes else None) rest ≡ (if is then Some bytes else rest)
chosen true bytes rest = refl
chosen false bytes rest = refl

one_more : (kept : Option (List ℕ)) (id : Option ℕ) (e : Element) (es : List Element) → first_of (first_of kept (bytes_for id (e ∷ []))) (bytes_for id es) ≡ first_of kept (bytes_for id (e ∷ es))
one_more (Some b) id e es = refl
one_more None None e es = refl
one_more None (Some id) e es = chosen (e.id == id) e.bytes (bytes_for (Some id) es)

-- what is kept and what is left together stay, if the next element is kept or not
pub kept_on : (id : Option ℕ) (before after : Option (List ℕ)) (e : Element) (es left all : List Element) → after ≡ first_of before (bytes_for id (e ∷ [])) → left ≡ e ∷ es
    → first_of before (bytes_for id left) ≡ bytes_for id all → first_of after (bytes_for id es) ≡ bytes_for id all
kept_on id before after e es left all step first is =
    ap (λ (k : Option (List ℕ)). first_of k (bytes_for id es)) step ∙ one_more before id e es ∙ ap (λ (l : List Element). first_of before (bytes_for id l)) (sym first) ∙ is

-- once no element is left, the bytes that are kept are those of the first element with the id
pub at_end : (id : Option ℕ) (kept : Option (List ℕ)) (left all : List Element) → left ≡ [] → first_of kept (bytes_for id left) ≡ bytes_for id all → kept ≡ bytes_for id all
at_end id kept left all none is = without id kept ∙ ap (λ (l : List Element). first_of kept (bytes_for id l)) (sym none) ∙ is where
  without : (id : Option ℕ) (kept : Option (List ℕ)) → kept ≡ first_of kept (bytes_for id [])
  without id (Some b) = refl
  without None None = refl
  without (Some id) None = refl
