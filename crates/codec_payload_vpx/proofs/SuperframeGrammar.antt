-- Superframes of VP9: spelled bytes are read, and bytes that are read are spelled so.
use Rattle.std.proofs.Common.{◌≡◌, ℕ, zero, suc, ◌+◌, ◌-◌, ◌*◌, ◌/◌, ◌<◌, ◌≤◌, ◌⊎◌, inl, inr, List, [], ◌∷◌, ◌++◌, length, take, drop, get_or, Bool, true, false, ltb, leb, eqb, ◌&&◌, Ok, refl, sym, ap, ◌∙◌, subst, arith, append_assoc, length-append}
use Rattle.std.specs.List.{concat}
use Rattle.std.proofs.Math.Seq.{get_or-append_seam, take-append-add, take-length, take-suc}
use Rattle.std.proofs.lemmas.Bool.{and_parts, eq-eqb, eqb-true, le-leb, leb-true, le-ltb, ltb-false}
use Rattle.std.proofs.lemmas.List.{take_at, drop_at, take-append-drop, length-take-le, length-drop, drop-drop, drop_more, get_or-drop}
use Rattle.codec_payload_base.specs.Flags.{AreBytes}
use Rattle.codec_payload_vpx.specs.declared.error.MediaError.TheVariants as errors
use Rattle.codec_payload_vpx.specs.Vp9Superframes.{AreSizes, IsAlone, IsSize, IsSuperframe, frame_count, frames_in, has_index, index_length, indexed, is_marker, last_byte, le_number, marker_of, next_size, size_sum, size_width, unit_frames}
use Rattle.codec_payload_vpx.proofs.ReadingLemmas.{guard_ok, ok_is}
use Rattle.codec_payload_vpx.proofs.SuperframeLemmas.{how_many}

-- ---- spelled bytes are read

sizes_long : (width : ℕ) (frames : List (List ℕ)) (sizes : List ℕ) → AreSizes width sizes frames → length sizes ≡ length frames * width
sizes_long width [] sizes is = let none : length sizes ≡ 0 = ap length is in omega (arith, none)
sizes_long width (frame ∷ frames) sizes (text, others, is, size, are) =
    omega (arith, ap length is, length-append text others, size.wide, sizes_long width frames others are)

module _ (width : ℕ) (text others tail frame : List ℕ) (size : IsSize width text frame) where
  front : take width ((text ++ others) ++ tail) ≡ text
  front = ap (take width) (append_assoc text others tail) ∙ take_at text (others ++ tail) width size.wide

  first_size : next_size width ((text ++ others) ++ tail) ≡ length frame
  first_size = ap le_number front ∙ size.says

  other_sizes : drop width ((text ++ others) ++ tail) ≡ others ++ tail
  other_sizes = ap (drop width) (append_assoc text others tail) ∙ drop_at text (others ++ tail) width size.wide

frames_again : (width : ℕ) (frames : List (List ℕ)) (sizes tail spare : List ℕ) → AreSizes width sizes frames → frames_in (length frames) width (sizes ++ tail) (concat frames ++ spare) ≡ frames
unfolding frames_in
frames_again width [] sizes tail spare is = refl
frames_again width (frame ∷ frames) sizes tail spare (text, others, is, size, are) =
    let body : (frame ++ concat frames) ++ spare ≡ frame ++ (concat frames ++ spare) = append_assoc frame (concat frames) spare in
    rw (is, first_size width text others tail frame size, other_sizes width text others tail frame size, body, take_at frame (concat frames ++ spare) (length frame) refl, drop_at frame (concat frames ++ spare) (length frame) refl)
    (ap (λ (t : List (List ℕ)). frame ∷ t) (frames_again width frames others tail spare are))

sum_again : (width : ℕ) (frames : List (List ℕ)) (sizes tail : List ℕ) → AreSizes width sizes frames → size_sum (length frames) width (sizes ++ tail) ≡ length (concat frames)
unfolding size_sum
sum_again width [] sizes tail is = refl
sum_again width (frame ∷ frames) sizes tail (text, others, is, size, are) =
    rw (is, first_size width text others tail frame size, other_sizes width text others tail frame size) (omega (arith, sum_again width frames others tail are, length-append frame (concat frames)))

index_there : (unit : List ℕ) (m : ℕ) → last_byte unit ≡ m → is_marker m ≡ true → index_length m ≤ length unit → get_or unit (length unit - index_length m) 0 ≡ m → has_index unit ≡ true
index_there unit m last mark room first = rw (last, mark, le-leb (index_length m) (length unit) room, eq-eqb (get_or unit (length unit - index_length m) 0) m first) refl

with_index : (unit : List ℕ) → 0 < length unit → has_index unit ≡ true → unit_frames unit ≡ indexed (last_byte unit) unit
with_index [] some there = absurd (omega (arith, some))
with_index (b ∷ bytes) some there = rw there refl

indexed_is : (unit : List ℕ) (m at n width : ℕ) (sizes body : List ℕ) → length unit - index_length m ≡ at → frame_count m ≡ n → size_width m ≡ width → drop (at + 1) unit ≡ sizes → take at unit ≡ body → size_sum n width sizes ≤ at → indexed m unit ≡ Ok (frames_in n width sizes body)
indexed_is unit m at n width sizes body e1 e2 e3 e4 e5 room = rw (e1, e2, e3, e4, e5, le-ltb at (size_sum n width sizes) room) refl

abbrev HasNumbers : ℕ → ℕ → ℕ → Type 0
HasNumbers m width count = (m / 32 ≡ 6) × (frame_count m ≡ count) × (size_width m ≡ width)

numbers_of : (width count m : ℕ) → 1 ≤ width → width ≤ 4 → 1 ≤ count → count ≤ 8 → m ≡ marker_of width count → HasNumbers m width count
numbers_of width count m w1 w4 c1 c8 is = (omega (arith, w1, w4, c1, c8, is), omega (arith, w1, w4, c1, c8, is), omega (arith, w1, w4, c1, c8, is))

module _ (unit : List ℕ) (frames : List (List ℕ)) (is : IsSuperframe unit frames) where
  abbrev m : ℕ
  m = marker_of is.width (length frames)

  abbrev front_bytes : List ℕ
  front_bytes = concat frames ++ is.spare

  has : HasNumbers m is.width (length frames)
  has = numbers_of is.width (length frames) m is.wide is.narrow is.some is.few refl

  long : length is.sizes ≡ length frames * is.width
  long = sizes_long is.width frames is.sizes is.are_sizes

  index_long : index_length m ≡ 2 + length is.sizes
  index_long = rw (has.1, has.2) (omega (arith, long))

  whole : length unit ≡ length front_bytes + (2 + length is.sizes)
  whole = omega (arith, ap length is.is, length-append front_bytes (m ∷ (is.sizes ++ m ∷ [])), length-append is.sizes (m ∷ []))

  place : length unit - index_length m ≡ length front_bytes
  place = omega (arith, index_long, whole)

  last : last_byte unit ≡ m
  last =
      let regrouped : unit ≡ (front_bytes ++ (m ∷ is.sizes)) ++ m ∷ [] = is.is ∙ sym (append_assoc front_bytes (m ∷ is.sizes) (m ∷ [])) in
      let end : length unit - 1 ≡ length (front_bytes ++ (m ∷ is.sizes)) = omega (arith, whole, length-append front_bytes (m ∷ is.sizes)) in
      ap (λ (i : ℕ). get_or unit i 0) end ∙ ap (λ (u : List ℕ). get_or u (length (front_bytes ++ (m ∷ is.sizes))) 0) regrouped ∙ get_or-append_seam (front_bytes ++ (m ∷ is.sizes)) m [] 0

  first : get_or unit (length unit - index_length m) 0 ≡ m
  first = ap (λ (i : ℕ). get_or unit i 0) place ∙ ap (λ (u : List ℕ). get_or u (length front_bytes) 0) is.is ∙ get_or-append_seam front_bytes m (is.sizes ++ m ∷ []) 0

  there : has_index unit ≡ true
  there = index_there unit m last (eq-eqb (m / 32) 6 has.0) (omega (arith, index_long, whole)) first

  behind : drop (length front_bytes + 1) unit ≡ is.sizes ++ m ∷ []
  behind =
      let regrouped : unit ≡ (front_bytes ++ m ∷ []) ++ (is.sizes ++ m ∷ []) = is.is ∙ sym (append_assoc front_bytes (m ∷ []) (is.sizes ++ m ∷ [])) in
      ap (drop (length front_bytes + 1)) regrouped ∙ drop_at (front_bytes ++ m ∷ []) (is.sizes ++ m ∷ []) (length front_bytes + 1) (omega (arith, length-append front_bytes (m ∷ [])))

  pub superframe_again : unit_frames unit ≡ Ok frames
  superframe_again =
      let sum : size_sum (length frames) is.width (is.sizes ++ m ∷ []) ≤ length front_bytes = omega (arith, sum_again is.width frames is.sizes (m ∷ []) is.are_sizes, length-append (concat frames) is.spare) in
      with_index unit (omega (arith, whole)) there
      ∙ ap (λ (b : ℕ). indexed b unit) last
      ∙ indexed_is unit m (length front_bytes) (length frames) is.width (is.sizes ++ m ∷ []) front_bytes place has.1 has.2 behind (ap (take (length front_bytes)) is.is ∙ take_at front_bytes (m ∷ (is.sizes ++ m ∷ [])) (length front_bytes) refl) sum
      ∙ ap (λ (f : List (List ℕ)). Ok f) (frames_again is.width frames is.sizes (m ∷ []) is.spare is.are_sizes)

-- ---- bytes that are read are spelled so

sizes_taken : (n width : ℕ) (sizes body : List ℕ) → n * width ≤ length sizes → size_sum n width sizes ≤ length body → AreSizes width (take (n * width) sizes) (frames_in n width sizes body)
unfolding frames_in size_sum
sizes_taken zero width sizes body many room = let none : 0 * width ≡ 0 = omega arith in ap (λ (k : ℕ). take k sizes) none
sizes_taken (suc n) width sizes body many room =
    let s : ℕ = next_size width sizes in
    let enough : width ≤ length sizes = omega (arith, many) in
    let wide : length (take width sizes) ≡ width = length-take-le width sizes enough in
    let long : length (take s body) ≡ s = length-take-le s body (omega (arith, room)) in
    let others : length (drop width sizes) ≡ length sizes - width = length-drop width sizes in
    let rest : length (drop s body) ≡ length body - s = length-drop s body in
    let both : suc n * width ≡ width + n * width = omega arith in
    let parts : take (suc n * width) sizes ≡ take width sizes ++ take (n * width) (drop width sizes) =
    ap (λ (k : ℕ). take k sizes) both
    ∙ ap (λ (k : ℕ). take (k + n * width) sizes) (sym wide)
    ∙ ap (take (length (take width sizes) + n * width)) (sym (take-append-drop width sizes))
    ∙ take-append-add (take width sizes) (drop width sizes) (n * width) in (
      take width sizes,
      take (n * width) (drop width sizes),
      parts,
      record { wide = wide; says = sym long },
      sizes_taken n width (drop width sizes) (drop s body) (omega (arith, many, others, both)) (omega (arith, room, rest)),
    )

body_taken : (n width : ℕ) (sizes body : List ℕ) → size_sum n width sizes ≤ length body → body ≡ concat (frames_in n width sizes body) ++ drop (size_sum n width sizes) body
unfolding frames_in size_sum
body_taken zero width sizes body room = refl
body_taken (suc n) width sizes body room =
    let s : ℕ = next_size width sizes in
    let k : ℕ = size_sum n width (drop width sizes) in
    let rest : length (drop s body) ≡ length body - s = length-drop s body in
    let others = body_taken n width (drop width sizes) (drop s body) (omega (arith, room, rest)) in
    let further : drop k (drop s body) ≡ drop (s + k) body = drop-drop k s body in
    sym (take-append-drop s body)
    ∙ ap (λ (t : List ℕ). take s body ++ t) (others ∙ ap (λ (t : List ℕ). concat (frames_in n width (drop width sizes) (drop s body)) ++ t) further)
    ∙ sym (append_assoc (take s body) (concat (frames_in n width (drop width sizes) (drop s body))) (drop (s + k) body))

last_cut : (k : ℕ) (xs : List ℕ) → length xs ≡ suc k → xs ≡ take k xs ++ get_or xs k 0 ∷ []
last_cut k xs long = sym (take-length xs) ∙ ap (λ (n : ℕ). take n xs) long ∙ take-suc xs k 0 (omega (arith, long))

spelled_byte : (b : ℕ) → b < 256 → b / 32 ≡ 6 → b ≡ marker_of (size_width b) (frame_count b)
spelled_byte b small mark = omega (arith, small, mark)

module _ (unit : List ℕ) (b at : ℕ) (sizes body : List ℕ) (is_at : length unit ≡ at + index_length b) (first : get_or unit at 0 ≡ b) (last : get_or unit (length unit - 1) 0 ≡ b) (are_sizes : drop (at + 1) unit ≡ sizes) (is_body : take at unit ≡ body) where
  abbrev n : ℕ
  n = frame_count b

  abbrev width : ℕ
  width = size_width b

  sizes_length : length sizes ≡ suc (n * width)
  sizes_length = omega (arith, ap length are_sizes, length-drop (at + 1) unit, is_at)

  end : get_or sizes (n * width) 0 ≡ b
  end =
      let place : at + 1 + n * width ≡ length unit - 1 = omega (arith, is_at) in
      ap (λ (t : List ℕ). get_or t (n * width) 0) (sym are_sizes) ∙ get_or-drop (at + 1) unit (n * width) 0 ∙ ap (λ (i : ℕ). get_or unit i 0) place ∙ last

  index_is : drop at unit ≡ b ∷ (take (n * width) sizes ++ b ∷ [])
  index_is =
      drop_more unit at 0 (omega (arith, is_at))
      ∙ ap (λ (k : ℕ). k ∷ drop (at + 1) unit) first
      ∙ ap (λ (t : List ℕ). b ∷ t) (are_sizes ∙ last_cut (n * width) sizes sizes_length ∙ ap (λ (k : ℕ). take (n * width) sizes ++ k ∷ []) end)

  body_length : length body ≡ at
  body_length = sym (ap length is_body) ∙ length-take-le at unit (omega (arith, is_at))

  unit_is : size_sum n width sizes ≤ at → unit ≡ (concat (frames_in n width sizes body) ++ drop (size_sum n width sizes) body) ++ (b ∷ (take (n * width) sizes ++ b ∷ []))
  unit_is room =
      sym (take-append-drop at unit)
      ∙ ap (λ (t : List ℕ). t ++ drop at unit) (is_body ∙ body_taken n width sizes body (omega (arith, room, body_length)))
      ∙ ap (λ (t : List ℕ). (concat (frames_in n width sizes body) ++ drop (size_sum n width sizes) body) ++ t) index_is

  made : b < 256 → b / 32 ≡ 6 → size_sum n width sizes ≤ at → IsSuperframe unit (frames_in n width sizes body)
  made small mark room =
      let many = how_many n width sizes body in
      let byte : b ≡ marker_of width (length (frames_in n width sizes body)) = spelled_byte b small mark ∙ ap (marker_of width) (sym many) in
      record {
        some = omega (arith, many);
        few = omega (arith, many);
        width = width;
        wide = omega arith;
        narrow = omega arith;
        sizes = take (n * width) sizes;
        are_sizes = sizes_taken n width sizes body (omega (arith, sizes_length)) (omega (arith, room, body_length));
        spare = drop (size_sum n width sizes) body;
        is = unit_is room ∙ ap (λ (k : ℕ). (concat (frames_in n width sizes body) ++ drop (size_sum n width sizes) body) ++ (k ∷ (take (n * width) sizes ++ k ∷ []))) byte;
      }

index_taken : (unit : List ℕ) (frames : List (List ℕ)) → AreBytes unit → has_index unit ≡ true → indexed (last_byte unit) unit ≡ Ok frames → IsSuperframe unit frames
index_taken unit frames are there e =
    let b : ℕ = last_byte unit in
    let at : ℕ = length unit - index_length b in
    let sizes : List ℕ = drop (at + 1) unit in
    let body : List ℕ = take at unit in
    let all = and_parts (is_marker b && leb (index_length b) (length unit)) (eqb (get_or unit at 0) b) there in
    let front = and_parts (is_marker b) (leb (index_length b) (length unit)) all.0 in
    let room : index_length b ≤ length unit = leb-true _ _ front.1 in
    let g = guard_ok (ltb at (size_sum (frame_count b) (size_width b) sizes)) errors.SizesDoNotFit (Ok (frames_in (frame_count b) (size_width b) sizes body)) frames e in
    subst (IsSuperframe unit) (ok_is (frames_in (frame_count b) (size_width b) sizes body) frames g.1)
    (made unit b at sizes body (omega (arith, room)) (eqb-true _ _ all.1) refl refl refl (are (length unit - 1)) (eqb-true _ _ front.0) (ltb-false _ _ g.0))

abbrev Either : List ℕ → List (List ℕ) → Type 0
Either unit frames = IsSuperframe unit frames ⊎ IsAlone unit frames

pub superframe_taken : (unit : List ℕ) (frames : List (List ℕ)) → AreBytes unit → unit_frames unit ≡ Ok frames → Either unit frames
superframe_taken [] frames are e = absurd cc
superframe_taken (b ∷ bytes) frames are e = by_index (has_index (b ∷ bytes)) refl
  where
    by_index : (there : Bool) → has_index (b ∷ bytes) ≡ there → Either (b ∷ bytes) frames
    by_index true there = inl (index_taken (b ∷ bytes) frames are there (rw there at e))
    by_index false there =
        let alone : List (List ℕ) = (b ∷ bytes) ∷ [] in
        inr (record { some = omega arith; no_index = there; is = sym (ok_is alone frames (rw there at e)) })
