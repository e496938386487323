-- A patch of a VP8 descriptor reaches no further than the longest descriptor, and leaves the bytes after it unchanged.
use Rattle.std.proofs.Common.{◌≡◌, ◌∙◌, sym, ap, refl, subst, ℕ, ◌+◌, ◌<◌, List, ◌++◌, length, take, drop, Bool, true, false, Option, Some, None, Result, Ok, Err, lit<}
use Rattle.std.proofs.Math.Seq.{take-append_seam}
use Rattle.std.proofs.lemmas.List.{length-set, set-append_left, take-append-drop}
use Rattle.std.specs.Prelude.{is_some, IfOk}
use Rattle.codec_payload_base.specs.declared.picture_id.PictureId.{PictureId}
use Rattle.codec_payload_base.specs.declared.picture_id.PictureId.TheVariants.{Short, Long}
use Rattle.codec_payload_core.specs.Vp8Descriptor.{Descriptor, IsDescribed}
use Rattle.codec_payload_base.specs.PictureIds.{byte_if, id_if}
use Rattle.codec_payload_core.specs.Vp8Patch.{Builder, IsBelow, Patch, Patches, Reaches, byte_at_place, id_byte, id_low_byte, patch_for, patch_to, patched, patched_descriptor, written}
use Rattle.codec_payload_core.specs.declared.vp8.Vp8PatchError.{Vp8PatchError}
use Rattle.codec_payload_c_packets.specs.Vp8.{IsPatchedBy}

-- a byte that is written in front of ys
written_front : (place : Option (ℕ × ℕ)) (xs ys : List ℕ) → IsBelow place (length xs) → written place (xs ++ ys) ≡ written place xs ++ ys
written_front None xs ys below = refl
written_front (Some w) xs ys below = set-append_left xs ys w.0 w.1 below

written_length : (place : Option (ℕ × ℕ)) (xs : List ℕ) → length (written place xs) ≡ length xs
written_length None xs = refl
written_length (Some w) xs = length-set xs w.0 w.1

still_below : (place : Option (ℕ × ℕ)) (m n : ℕ) → m ≡ n → IsBelow place n → IsBelow place m
still_below place m n e below = subst (λ (k : ℕ). IsBelow place k) (sym e) below

patched_front : (p : Patch) (xs ys : List ℕ) → Reaches p (length xs) → patched p (xs ++ ys) ≡ patched p xs ++ ys
patched_front p xs ys r =
    let a : List ℕ = written p.picture_id xs in
    let b : List ℕ = written p.picture_id_low a in
    let c : List ℕ = written p.tl0_pic_idx b in
    let la : length a ≡ length xs = written_length p.picture_id xs in
    let lb : length b ≡ length xs = written_length p.picture_id_low a ∙ la in
    let lc : length c ≡ length xs = written_length p.tl0_pic_idx b ∙ lb in
    ap (λ (z : List ℕ). written p.key_idx (written p.tl0_pic_idx (written p.picture_id_low z))) (written_front p.picture_id xs ys r.0)
    ∙ (ap (λ (z : List ℕ). written p.key_idx (written p.tl0_pic_idx z)) (written_front p.picture_id_low a ys (still_below p.picture_id_low (length a) (length xs) la r.1))
    ∙ (ap (λ (z : List ℕ). written p.key_idx z) (written_front p.tl0_pic_idx b ys (still_below p.tl0_pic_idx (length b) (length xs) lb r.2))
    ∙ written_front p.key_idx c ys (still_below p.key_idx (length c) (length xs) lc r.3)))

pub patched_split : (p : Patch) (n : ℕ) (xs : List ℕ) → Reaches p (length (take n xs)) → patched p (take n xs) ++ drop n xs ≡ patched p xs
patched_split p n xs r = sym (patched_front p (take n xs) (drop n xs) r) ∙ ap (λ (z : List ℕ). patched p z) (take-append-drop n xs)

-- the places of the fields
id_front : (asked : Bool) (id : Option PictureId) → IsBelow (id_byte asked id) 6
id_front false id = tt
id_front true None = tt
id_front true (Some (Short n)) = lit< tt
id_front true (Some (Long n)) = lit< tt

id_low_front : (asked : Bool) (id : Option PictureId) → IsBelow (id_low_byte asked id) 6
id_low_front false id = tt
id_low_front true None = tt
id_low_front true (Some (Short n)) = tt
id_low_front true (Some (Long n)) = lit< tt

place_front : (asked : Bool) (place : ℕ) (byte : Option ℕ) → place < 6 → IsBelow (byte_at_place asked place byte) 6
place_front asked place None below = tt
place_front true place (Some byte) below = below
place_front false place (Some byte) below = tt

tl0_place : (id : Option PictureId) → 2 + length (id_if id) < 6
tl0_place None = lit< tt
tl0_place (Some (Short n)) = lit< tt
tl0_place (Some (Long n)) = lit< tt

octet_place : (id : Option PictureId) (tl0 : Option ℕ) → 2 + length (id_if id) + length (byte_if tl0) < 6
octet_place None None = lit< tt
octet_place None (Some t) = lit< tt
octet_place (Some (Short n)) None = lit< tt
octet_place (Some (Short n)) (Some t) = lit< tt
octet_place (Some (Long n)) None = lit< tt
octet_place (Some (Long n)) (Some t) = lit< tt

built : (b : Builder) (r : Result Descriptor Vp8PatchError) → IfOk (patch_to b r) (λ p. Reaches p 6)
built b (Err error) = tt
built b (Ok d) = (
  id_front (is_some b.picture_id) d.picture_id,
  id_low_front (is_some b.picture_id) d.picture_id,
  place_front (is_some b.tl0_pic_idx) (2 + length (id_if d.picture_id)) d.tl0_pic_idx (tl0_place d.picture_id),
  place_front (is_some b.key_idx) (2 + length (id_if d.picture_id) + length (byte_if d.tl0_pic_idx)) d.tid_octet (octet_place d.picture_id d.tl0_pic_idx),
)

pub reaches_front : (b : Builder) (r : Result Patch Vp8PatchError) → r ≡ patch_for b → IfOk r (λ p. Reaches p 6)
reaches_front b r e = subst (λ (x : Result Patch Vp8PatchError). IfOk x (λ p. Reaches p 6)) (sym e) (built b (patched_descriptor b))

-- what a built patch does to the payload whose descriptor was read
pub reaches_payload : (b : Builder) (p : Patch) (payload rest : List ℕ) → Patches b p → IsDescribed payload b.descriptor rest → Reaches p (length payload)
reaches_payload b p payload rest patches described = (patches payload rest described).2.reaches

pub is_patched : (b : Builder) (p : Patch) (payload rest : List ℕ) → Patches b p → IsDescribed payload b.descriptor rest → IsPatchedBy b p 0 payload (patched p payload)
is_patched b p payload rest patches described =
    let w = patches payload rest described in record { answers = refl; writes = refl; new = w.0; parses = w.2.parses; values = w.2.values }

-- the patch of a copy of the front, and the bytes after the front
pub patched_copy : (p : Patch) (n : ℕ) (xs copy rest dst : List ℕ) → copy ≡ take n xs → length copy ≡ n → dst ≡ patched p (take n (copy ++ rest))
    → Reaches p (length (take n xs)) → dst ++ drop n xs ≡ patched p xs
patched_copy p n xs copy rest dst is len patch r =
    let front : take n (copy ++ rest) ≡ copy = ap (λ (k : ℕ). take k (copy ++ rest)) (sym len) ∙ take-append_seam copy rest in
    ap (λ (z : List ℕ). z ++ drop n xs) (patch ∙ ap (λ (z : List ℕ). patched p z) (front ∙ is)) ∙ patched_split p n xs r
