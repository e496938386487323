-- What the library's own packetizers show of their pictures.
use Rattle.std.proofs.Common.{inl, inr, ◌≡◌, ◌∙◌, sym, refl, ap, subst, zero, suc, ℕ, ◌+◌, ◌-◌, ◌*◌, ◌%◌, ◌^◌, ◌<◌, ◌≤◌, ◌||◌, eqb, ltb, Bool, true, false, List, [], ◌∷◌, ◌++◌, length, get_or, Option, Some, None, arith}
use Rattle.std.specs.Prelude.{◌⊎◌, if◌then◌else◌, Result, Ok, Err}
use Rattle.std.proofs.lemmas.Bool.{cases_eq, cases_lt, eq-eqb, eqb-true, le-ltb, lt-ltb, ne_eqb}
use Rattle.std.proofs.lemmas.Option.{same_Some}
use Rattle.codec_payload_base.specs.Answers.{is_empty}
use Rattle.codec_payload_base.specs.Described.{AnswersDescribed, described}
use Rattle.codec_payload_base.specs.declared.error.PacketError.{PacketError}
use Rattle.codec_payload_base.specs.PictureIds.{FitsWidth, id_bytes, id_value, shortest_id, take_id}
use Rattle.codec_payload_base.specs.declared.interface.Vp9PacketizerMode.{Vp9PacketizerMode}
use Rattle.codec_payload_base.specs.declared.interface.Vp9PacketizerMode.TheVariants.{Flexible, NonFlexible}
use Rattle.codec_payload_base.specs.declared.picture_id.PictureId.{PictureId}
use Rattle.codec_payload_base.specs.declared.picture_id.PictureId.TheVariants.{Long, Short}
use Rattle.codec_payload_base.proofs.DescribedLemmas.{length-described}
use Rattle.codec_payload_base.proofs.PictureIdLemmas.{takes_spelled}
use Rattle.codec_payload_vp8.specs.Vp8Sent.{Vp8Sends, header as vp8_header}
use Rattle.codec_payload_vp9.specs.Vp9Sent.{Sender as Vp9Packetizer, Vp9Sends, begun, flexible_flags, header as vp9_header, header_in, nonflexible_flags, reserve_in}
use Rattle.codec_payload_vp9.specs.Vp9Keyframe.{is_key_frame}
use Rattle.codec_payload_edges.specs.Edges.{edge_with, ids_of, vp8_edge, vp9_edge, width_of}
use Rattle.codec_payload_edges.specs.OwnSenders.{Answer, AreVp8Answers, AreVp9Answers, IsInOrder, Vp8SendsInOrder, Vp9SendsInOrder, group_at, own_sender, payload_at, pictures_of, sizes_of, start_of, stored_at}
use Rattle.codec_payload_edges.specs.Senders.{HasMediaAlone, IsOf, Sender, SendsInOrder, Stored}
use Rattle.codec_payload_edges.specs.declared.edge.Edge.{Edge}
use Rattle.codec_payload_edges.specs.declared.edge.IdWidth.{IdWidth}
use Rattle.codec_payload_edges.specs.declared.edge.IdWidth.TheVariants as widths
use Rattle.codec_payload_edges.proofs.OwnLemmas.{AllSome, IsWithin, group_each, group_is, group_order, group_some, group_within}

-- ---- headers

-- the header shows the id, and whether its piece is the first, and the last one, which has the marker
abbrev pub Shows : (edge_of : Bool → List ℕ → Option Edge) (header : Bool → Bool → List ℕ) (id : PictureId) → Type 0
Shows edge_of header id = (first last : Bool) (rest : List ℕ) → edge_of last (header first last ++ rest) ≡ Some (edge_with id first last)

vp8_shows : (id : ℕ) → FitsWidth (shortest_id id) → Shows vp8_edge (vp8_header (Some id)) (shortest_id id)
vp8_shows id fits true last rest = rw (takes_spelled (shortest_id id) rest fits) refl
vp8_shows id fits false last rest = rw (takes_spelled (shortest_id id) rest fits) refl

vp9_shows : (mode : Vp9PacketizerMode) (key : Bool) (id tl0 : ℕ) → FitsWidth (Long id) → Shows vp9_edge (header_in mode key id tl0) (Long id)
vp9_shows Flexible key id tl0 fits true true rest = rw (takes_spelled (Long id) rest fits) refl
vp9_shows Flexible key id tl0 fits true false rest = rw (takes_spelled (Long id) rest fits) refl
vp9_shows Flexible key id tl0 fits false true rest = rw (takes_spelled (Long id) rest fits) refl
vp9_shows Flexible key id tl0 fits false false rest = rw (takes_spelled (Long id) rest fits) refl
vp9_shows NonFlexible true id tl0 fits true true rest = rw (takes_spelled (Long id) (16 ∷ tl0 ∷ 0 ∷ rest) fits) refl
vp9_shows NonFlexible true id tl0 fits true false rest = rw (takes_spelled (Long id) (16 ∷ tl0 ∷ 0 ∷ rest) fits) refl
vp9_shows NonFlexible true id tl0 fits false true rest = rw (takes_spelled (Long id) (16 ∷ tl0 ∷ rest) fits) refl
vp9_shows NonFlexible true id tl0 fits false false rest = rw (takes_spelled (Long id) (16 ∷ tl0 ∷ rest) fits) refl
vp9_shows NonFlexible false id tl0 fits true true rest = rw (takes_spelled (Long id) (16 ∷ tl0 ∷ rest) fits) refl
vp9_shows NonFlexible false id tl0 fits true false rest = rw (takes_spelled (Long id) (16 ∷ tl0 ∷ rest) fits) refl
vp9_shows NonFlexible false id tl0 fits false true rest = rw (takes_spelled (Long id) (16 ∷ tl0 ∷ rest) fits) refl
vp9_shows NonFlexible false id tl0 fits false false rest = rw (takes_spelled (Long id) (16 ∷ tl0 ∷ rest) fits) refl

-- ---- a picture

-- the payloads of a picture with that id, extended
pub record IsShown (edge_of : Bool → List ℕ → Option Edge) (id : ℕ) (payloads : List (List ℕ)) : Type 0 where
  pub header : Bool → Bool → List ℕ
  pub pieces : List (List ℕ)
  pub picture_id : PictureId
  pub are : payloads ≡ described header true pieces
  pub some : 0 < length payloads
  pub shows : Shows edge_of header picture_id
  pub same : id_value picture_id % ids_of (width_of picture_id) ≡ id % ids_of (width_of picture_id)

abbrev pub AreShown : (edge_of : Bool → List ℕ → Option Edge) (id : ℕ) → List (List (List ℕ)) → Type 0
AreShown edge_of id [] = Unit {0}
AreShown edge_of id (payloads ∷ pictures) = IsShown edge_of id payloads × AreShown edge_of (suc id) pictures

if_same : (b c : Bool) → (if b then c else c) ≡ c
if_same true c = refl
if_same false c = refl

eqb_suc : (a b : ℕ) → eqb a b ≡ eqb (suc a) (suc b)
eqb_suc a b = by (cases_eq a b)
  where
    by : (a ≡ b) ⊎ (a ≡ b → ⊥) → eqb a b ≡ eqb (suc a) (suc b)
    by (inl same) = eq-eqb a b same ∙ sym (eq-eqb (suc a) (suc b) (ap (λ (n : ℕ). suc n) same))
    by (inr other) = ne_eqb a b other ∙ sym (ne_eqb (suc a) (suc b) (λ e. other (omega (arith, e))))

described_at : (header : Bool → Bool → List ℕ) (first : Bool) (pieces : List (List ℕ)) (j : ℕ) → j < length pieces
    → get_or (described header first pieces) j [] ≡ header (if eqb j 0 then first else false) (eqb (suc j) (length pieces)) ++ get_or pieces j []
described_at header first [] j below = absurd (omega (arith, below))
described_at header first (piece ∷ []) zero below = refl
described_at header first (piece ∷ []) (suc j) below = absurd (omega (arith, below))
described_at header first (piece ∷ next ∷ pieces) zero below = ap (λ (last : Bool). header first last ++ piece) (sym (ne_eqb 1 (suc (suc (length pieces))) (λ e. omega (arith, e))))
described_at header first (piece ∷ next ∷ pieces) (suc j) below =
    let not_first : eqb (suc j) 0 ≡ false = ne_eqb (suc j) 0 (λ e. omega (arith, e)) in
    let lasts : eqb (suc j) (length (next ∷ pieces)) ≡ eqb (suc (suc j)) (length (piece ∷ next ∷ pieces)) = eqb_suc (suc j) (length (next ∷ pieces)) in
    described_at header false (next ∷ pieces) j (omega (arith, below))
    ∙ (ap (λ (b : Bool). header b (eqb (suc j) (length (next ∷ pieces))) ++ get_or (next ∷ pieces) j []) (if_same (eqb j 0) false)
    ∙ (ap (λ (last : Bool). header false last ++ get_or (next ∷ pieces) j []) lasts
    ∙ sym (ap (λ (b : Bool). header (if b then first else false) (eqb (suc (suc j)) (length (piece ∷ next ∷ pieces))) ++ get_or (next ∷ pieces) j []) not_first)))

if_first : (b : Bool) → (if b then true else false) ≡ b
if_first true = refl
if_first false = refl

edge_at : (edge_of : Bool → List ℕ → Option Edge) (id : ℕ) (payloads : List (List ℕ)) (is : IsShown edge_of id payloads) (j : ℕ) → j < length payloads
    → edge_of (eqb (suc j) (length payloads)) (get_or payloads j []) ≡ Some (edge_with is.picture_id (eqb j 0) (eqb (suc j) (length payloads)))
edge_at edge_of id payloads is j below =
    let count : length payloads ≡ length is.pieces = ap (λ (x : List (List ℕ)). length x) is.are ∙ length-described is.header true is.pieces in
    let there : get_or payloads j [] ≡ is.header (eqb j 0) (eqb (suc j) (length payloads)) ++ get_or is.pieces j [] =
    ap (λ (x : List (List ℕ)). get_or x j []) is.are
    ∙ (described_at is.header true is.pieces j (omega (arith, below, count))
    ∙ (ap (λ (b : Bool). is.header b (eqb (suc j) (length is.pieces)) ++ get_or is.pieces j []) (if_first (eqb j 0))
    ∙ ap (λ (n : ℕ). is.header (eqb j 0) (eqb (suc j) n) ++ get_or is.pieces j []) (sym count))) in
    ap (edge_of (eqb (suc j) (length payloads))) there ∙ is.shows (eqb j 0) (eqb (suc j) (length payloads)) (get_or is.pieces j [])

-- ---- all pictures

shown_at : (edge_of : Bool → List ℕ → Option Edge) (id : ℕ) (pictures : List (List (List ℕ))) (k : ℕ) → 0 < length (get_or pictures k []) → AreShown edge_of id pictures → IsShown edge_of (id + k) (get_or pictures k [])
shown_at edge_of id [] k some all = absurd (omega (arith, some))
shown_at edge_of id (payloads ∷ pictures) zero some all = subst (λ (n : ℕ). IsShown edge_of n payloads) (omega arith) all.0
shown_at edge_of id (payloads ∷ pictures) (suc k) some all = subst (λ (n : ℕ). IsShown edge_of n (get_or pictures k [])) (omega arith) (shown_at edge_of (suc id) pictures k some all.1)

sizes_some : (edge_of : Bool → List ℕ → Option Edge) (id : ℕ) (pictures : List (List (List ℕ))) → AreShown edge_of id pictures → AllSome (sizes_of pictures)
sizes_some edge_of id [] all = tt
sizes_some edge_of id (payloads ∷ pictures) all = (all.0.some, sizes_some edge_of (suc id) pictures all.1)

size_at : (pictures : List (List (List ℕ))) (k : ℕ) → get_or (sizes_of pictures) k 0 ≡ length (get_or pictures k [])
size_at [] k = refl
size_at (payloads ∷ pictures) zero = refl
size_at (payloads ∷ pictures) (suc k) = size_at pictures k

module _ (edge_of : Bool → List ℕ → Option Edge) (first id : ℕ) (pictures : List (List (List ℕ))) (all : AreShown edge_of id pictures) where
  sizes : List ℕ
  sizes = sizes_of pictures

  of : ℕ → Option ℕ
  of n = (own_sender first id pictures).picture_of n

  -- a number of the sender
  at_number : (n k : ℕ) → (own_sender first id pictures).picture_of n ≡ Some k → (first ≤ n) × (group_at (n - first) (sizes_of pictures) 0 ≡ Some k)
  at_number n k is = by (cases_lt n first)
    where
      by : (n < first) ⊎ (first ≤ n) → (first ≤ n) × (group_at (n - first) (sizes_of pictures) 0 ≡ Some k)
      by (inl below) = absurd (let none : ◌≡◌ {A = Option ℕ} None (Some k) = rw (lt-ltb n first below) at is in cc)
      by (inr above) = (above, rw (le-ltb n first above) at is)

  from_number : (n k : ℕ) → first ≤ n → group_at (n - first) (sizes_of pictures) 0 ≡ Some k → (own_sender first id pictures).picture_of n ≡ Some k
  from_number n k above is = rw (le-ltb n first above) is

  in_order : SendsInOrder (own_sender first id pictures)
  in_order = record {
    in_order = λ m n i k up is_m is_n.
        let at_m = at_number m i is_m in
        let at_n = at_number n k is_n in
        group_order (m - first) (n - first) (sizes_of pictures) 0 i k (omega (arith, up, at_m.0)) at_m.1 at_n.1;
    each_sent = λ m n i j k is_m is_n after before.
        let at_n = at_number n k is_n in
        let each = group_each (n - first) (sizes_of pictures) 0 j k (sizes_some edge_of id pictures all) at_n.1 (omega arith) (omega (arith, before)) in
        let back : first + each.0 - first ≡ each.0 = omega arith in
        (first + each.0, from_number (first + each.0) j (omega arith) (ap (λ (q : ℕ). group_at q (sizes_of pictures) 0) back ∙ each.1));
    ids_rise = λ i. omega arith;
    ids_near = λ i. omega arith;
  }

  media_alone : HasMediaAlone (own_sender first id pictures)
  media_alone m n k i j after before is_m is_k =
      let at_m = at_number m i is_m in
      let at_k = at_number k j is_k in
      let found = group_some (n - first) (k - first) (sizes_of pictures) 0 j (omega (arith, after, before, at_m.0)) at_k.1 in
      (found.0, from_number n found.0 (omega (arith, after, at_m.0)) found.1)

  -- the numbers of a picture
  within : (n k : ℕ) → (own_sender first id pictures).picture_of n ≡ Some k → (first + start_of (sizes_of pictures) k ≤ n) × (n < first + start_of (sizes_of pictures) k + length (get_or pictures k []))
  within n k is =
      let at_n = at_number n k is in
      let inside = group_within (n - first) (sizes_of pictures) 0 k (at_n.1 ∙ ap (λ (m : ℕ). Some m) (omega arith)) in
      (omega (arith, at_n.0, inside.from), omega (arith, at_n.0, inside.to, size_at pictures k))

  is_of : (k j : ℕ) (below : j < length (get_or pictures k [])) (is : IsShown edge_of (id + k) (get_or pictures k []))
      → IsOf (own_sender first id pictures) (stored_at first pictures k j (edge_with is.picture_id (eqb j 0) (eqb (suc j) (length (get_or pictures k [])))))
  is_of k j below is = record {
    picture = k;
    is_media =
        let back : first + (start_of (sizes_of pictures) k + j) - first ≡ start_of (sizes_of pictures) k + j = omega arith in
        from_number (first + (start_of (sizes_of pictures) k + j)) k (omega arith) (ap (λ (q : ℕ). group_at q (sizes_of pictures) 0) back ∙ (group_is (sizes_of pictures) 0 k j (omega (arith, below, size_at pictures k)) ∙ ap (λ (m : ℕ). Some m) (omega arith)));
    id = is.same;
    near = near_by (width_of is.picture_id);
    is_first = λ begins n low there. let zero_is = eqb-true j 0 begins in let from = (within n k there).0 in absurd (omega (arith, zero_is, from, low));
    is_last = λ ends n high there. let last_is = eqb-true (suc j) (length (get_or pictures k [])) ends in let to = (within n k there).1 in absurd (omega (arith, last_is, to, high));
  }
    where
      near_by : (width : IdWidth) → 1 * 128 ≤ ids_of width
      near_by widths.Bits7 = omega arith
      near_by widths.Bits15 = omega arith
      near_by widths.Bits16 = omega arith

  pub shown_in_order : IsInOrder edge_of first id pictures
  shown_in_order = record {
    in_order = in_order;
    media_alone = media_alone;
    packets = λ k j below. let is = shown_at edge_of id pictures k (omega (arith, below)) all in
        (edge_with is.picture_id (eqb j 0) (eqb (suc j) (length (get_or pictures k []))), edge_at edge_of (id + k) (get_or pictures k []) is j below, is_of k j below is);
  }

-- ---- VP8

shortest_fits : (id : ℕ) → id < 2 ^ 15 → FitsWidth (shortest_id id)
shortest_fits id small = by (cases_lt id 128)
  where
    by : (id < 128) ⊎ (128 ≤ id) → FitsWidth (shortest_id id)
    by (inl low) = rw (lt-ltb id 128 low) low
    by (inr high) = rw (le-ltb id 128 high) (omega (arith, small))

shortest_same : (id extended : ℕ) → id ≡ extended % 2 ^ 15 → id_value (shortest_id id) % ids_of (width_of (shortest_id id)) ≡ extended % ids_of (width_of (shortest_id id))
shortest_same id extended is = by (cases_lt id 128)
  where
    by : (id < 128) ⊎ (128 ≤ id) → id_value (shortest_id id) % ids_of (width_of (shortest_id id)) ≡ extended % ids_of (width_of (shortest_id id))
    by (inl low) = rw (lt-ltb id 128 low) (omega (arith, is, low))
    by (inr high) = rw (le-ltb id 128 high) (omega (arith, is))

-- payloads of described pieces come only from an MTU above the header
vp8_shown : (id extended mtu : ℕ) (frame payload : List ℕ) (payloads : List (List ℕ)) (size : ℕ) → id ≡ extended % 2 ^ 15 → AnswersDescribed (vp8_header (Some id)) size mtu frame (Ok (payload ∷ payloads)) → IsShown vp8_edge extended (payload ∷ payloads)
vp8_shown id extended mtu frame payload payloads size is answers = by (cases_lt size mtu)
  where
    by : (size < mtu) ⊎ (mtu ≤ size) → IsShown vp8_edge extended (payload ∷ payloads)
    by (inl room) = let pieces = answers.1 room in record {
      header = vp8_header (Some id);
      pieces = pieces.0;
      picture_id = shortest_id id;
      are = pieces.2;
      some = omega arith;
      shows = vp8_shows id (shortest_fits id (omega (arith, is)));
      same = shortest_same id extended is;
    }
    by (inr full) = absurd (let none = answers.0 full in cc)

advanced_is : (extended : ℕ) → (extended % 2 ^ 15 + 1) % 2 ^ 15 ≡ suc extended % 2 ^ 15
advanced_is extended = omega arith

some_after : (id after : ℕ) → Some after ≡ Some id → after ≡ id
some_after id after is = same_Some after id is

vp8_all : (id extended : ℕ) (answers : List Answer) → id ≡ extended % 2 ^ 15 → AreVp8Answers id answers → AreShown vp8_edge extended (pictures_of answers)
vp8_all id extended [] is all = tt
vp8_all id extended (Ok [] ∷ answers) is all = vp8_all all.2 extended answers (some_after id all.2 all.3.1 ∙ is) all.4
vp8_all id extended (Ok (payload ∷ payloads) ∷ answers) is all =
    let after : all.2 ≡ (id + 1) % 2 ^ 15 = some_after ((id + 1) % 2 ^ 15) all.2 all.3.1 in
    (vp8_shown id extended all.0 all.1 payload payloads _ is all.3.0, vp8_all all.2 (suc extended) answers (after ∙ (ap (λ (n : ℕ). (n + 1) % 2 ^ 15) is ∙ advanced_is extended)) all.4)
vp8_all id extended (Err fault ∷ answers) is all = vp8_all all.2 extended answers (some_after id all.2 all.3.1 ∙ is) all.4

pub vp8_sends_in_order : Vp8SendsInOrder
vp8_sends_in_order first id answers small all = shown_in_order vp8_edge first id (pictures_of answers) (vp8_all id id answers (omega (arith, small)) all)

-- ---- VP9

begun_id : (s : Vp9Packetizer) (mtu : ℕ) (frame : List ℕ) → (begun s mtu frame).picture_id ≡ s.picture_id
begun_id s mtu frame = by (is_empty frame || eqb mtu 0) refl
  where
    by : (out : Bool) → (is_empty frame || eqb mtu 0) ≡ out → (begun s mtu frame).picture_id ≡ s.picture_id
    by true e = rw e refl
    by false e = rw e refl

vp9_shown : (s : Vp9Packetizer) (extended mtu : ℕ) (frame payload : List ℕ) (payloads : List (List ℕ)) → s.picture_id ≡ extended % 2 ^ 15
    → AnswersDescribed (vp9_header (begun s mtu frame) (is_key_frame frame)) (reserve_in s.mode) mtu frame (Ok (payload ∷ payloads)) → IsShown vp9_edge extended (payload ∷ payloads)
vp9_shown s extended mtu frame payload payloads is answers = by (cases_lt (reserve_in s.mode) mtu)
  where
    by : (reserve_in s.mode < mtu) ⊎ (mtu ≤ reserve_in s.mode) → IsShown vp9_edge extended (payload ∷ payloads)
    by (inl room) = let pieces = answers.1 room in record {
      header = vp9_header (begun s mtu frame) (is_key_frame frame);
      pieces = pieces.0;
      picture_id = Long (begun s mtu frame).picture_id;
      are = pieces.2;
      some = omega arith;
      shows = vp9_shows (begun s mtu frame).mode (is_key_frame frame) (begun s mtu frame).picture_id (begun s mtu frame).tl0picidx (omega (arith, begun_id s mtu frame, is));
      same = omega (arith, begun_id s mtu frame, is);
    }
    by (inr full) = absurd (let none = answers.0 full in cc)

vp9_all : (s : Vp9Packetizer) (extended : ℕ) (answers : List Answer) → s.picture_id ≡ extended % 2 ^ 15 → AreVp9Answers s answers → AreShown vp9_edge extended (pictures_of answers)
vp9_all s extended [] is all = tt
vp9_all s extended (Ok [] ∷ answers) is all =
    vp9_all all.2 extended answers (ap (λ (x : Vp9Packetizer). x.picture_id) all.3.1 ∙ (begun_id s all.0 all.1 ∙ is)) all.4
vp9_all s extended (Ok (payload ∷ payloads) ∷ answers) is all =
    let after : all.2.picture_id ≡ ((begun s all.0 all.1).picture_id + 1) % 2 ^ 15 = ap (λ (x : Vp9Packetizer). x.picture_id) all.3.1 in (
      vp9_shown s extended all.0 all.1 payload payloads is all.3.0,
      vp9_all all.2 (suc extended) answers (after ∙ (ap (λ (n : ℕ). (n + 1) % 2 ^ 15) (begun_id s all.0 all.1 ∙ is) ∙ advanced_is extended)) all.4,
    )
vp9_all s extended (Err fault ∷ answers) is all = vp9_all all.2 extended answers (ap (λ (x : Vp9Packetizer). x.picture_id) all.3.1 ∙ is) all.4

pub vp9_sends_in_order : Vp9SendsInOrder
vp9_sends_in_order first s answers small all = shown_in_order vp9_edge first s.picture_id (pictures_of answers) (vp9_all s s.picture_id answers (omega (arith, small)) all)
