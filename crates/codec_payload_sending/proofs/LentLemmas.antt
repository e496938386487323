-- A datagram that was lent with its tailroom.
use Rattle.std.proofs.Common.{◌≡◌, ◌∙◌, sym, ap, refl, subst, ℕ, zero, suc, ◌+◌, ◌-◌, ◌<◌, ◌≤◌, List, [], ◌∷◌, ◌++◌, length, take, drop, get_or, slice_range, slice_set, min, arith, length-append, length-drop}
use Rattle.std.proofs.Math.Seq.{drop-append_seam}
use Rattle.std.proofs.lemmas.List.{drop-drop, drop-take, length-take, take-append-drop, take-take}
use Rattle.codec_payload_base.specs.PayloadLists.{IsRegion, PayloadList, header_of_region, payload_of_region, with_region}
use Rattle.codec_payload_sending.specs.Datagrams.{joined}
use Rattle.codec_payload_sending.specs.Senders.{IsLent, Sending, with_datagram}
use Rattle.codec_payload_sending.proofs.SenderLemmas.{joined_at}

-- two neighbouring ranges
ranges_joined : (l : List ℕ) (a x y : ℕ) → slice_range l a (a + x) ++ slice_range l (a + x) (a + x + y) ≡ take (x + y) (drop a l)
ranges_joined l a x y =
    let first : slice_range l a (a + x) ≡ take x (drop a l) = ap (λ (n : ℕ). take n (drop a l)) (omega arith) in
    let second : slice_range l (a + x) (a + x + y) ≡ take y (drop x (drop a l)) =
    ap (λ (n : ℕ). take n (drop (a + x) l)) (omega arith) ∙ ap (take y) (sym (drop-drop x a l)) in
    ap (λ (u : List ℕ). u ++ slice_range l (a + x) (a + x + y)) (first ∙ sym (take-take x (x + y) (drop a l) (omega arith)))
    ∙ ap (λ (u : List ℕ). take x (take (x + y) (drop a l)) ++ u) (second ∙ sym (drop-take x y (drop a l)))
    ∙ take-append-drop x (take (x + y) (drop a l))

-- the same, where the places have other names
ranges_from : (l : List ℕ) (from room x y : ℕ) → from + x ≡ room → slice_range l from room ++ slice_range l room (room + y) ≡ take (x + y) (drop from l)
ranges_from l from room x y is = subst (λ (m : ℕ). slice_range l from m ++ slice_range l m (m + y) ≡ take (x + y) (drop from l)) is (ranges_joined l from x y)

-- a header and a payload were replaced
joined_put : (headers payloads : List (List ℕ)) (i : ℕ) (header payload : List ℕ) → i < length payloads → (length headers ≤ i → header ≡ [])
    → joined (slice_set headers i header) (slice_set payloads i payload) ≡ slice_set (joined headers payloads) i (header ++ payload)
joined_put headers [] i header payload few none = absurd (omega (arith, few))
joined_put [] (q ∷ qs) zero header payload few none = ap (λ (h : List ℕ). (h ++ payload) ∷ joined [] qs) (sym (none (omega arith)))
joined_put [] (q ∷ qs) (suc i) header payload few none = ap (λ (rest : List (List ℕ)). q ∷ rest) (joined_put [] qs i header payload (omega (arith, few)) (λ l. none (omega arith)))
joined_put (g ∷ gs) (q ∷ qs) zero header payload few none = refl
joined_put (g ∷ gs) (q ∷ qs) (suc i) header payload few none =
    ap (λ (rest : List (List ℕ)). (g ++ q) ∷ rest) (joined_put gs qs i header payload (omega (arith, few)) (λ l. none (omega (arith, l))))

take_none : (n : ℕ) (l : List ℕ) → n ≡ 0 → take n l ≡ []
take_none n l none = rw none refl

no_header : (headers : List (List ℕ)) (i : ℕ) → length headers ≤ i → length (get_or headers i []) ≡ 0
no_header [] i few = refl
no_header (h ∷ hs) zero few = absurd (omega (arith, few))
no_header (h ∷ hs) (suc i) few = no_header hs i (omega (arith, few))

-- a header is not longer than the headroom, so the region begins in front of it
pub begins_at : (out : PayloadList) (i from : ℕ) (before : List ℕ) → out.headroom ≡ 316 → IsRegion out i before
    → from ≡ min (316 - length (get_or out.headers i [])) (length before) → (from ≡ out.headroom - length (get_or out.headers i [])) × (from + length (get_or out.headers i []) ≡ out.headroom)
begins_at out i from before room region is =
    let h = get_or out.headers i [] in
    let size : min (out.headroom - (out.headroom - length h)) (length before - (out.headroom - length h)) ≡ length h =
    ap (min (out.headroom - (out.headroom - length h))) (sym (length-drop (out.headroom - length h) before))
    ∙ (sym (length-take (out.headroom - (out.headroom - length h)) (drop (out.headroom - length h) before)) ∙ ap length region.header) in
    let few : length h ≤ out.headroom = omega (arith, size) in
    let front : from ≡ out.headroom - length h = omega (arith, few, room, is, region.size) in
    (front, omega (arith, few, front))

-- what is lent is the datagram, and the room after it
pub lent_is : (s : Sending) (out : PayloadList) (i from : ℕ) (before : List ℕ) → i < length out.payloads → out.headroom ≡ 316 → IsRegion out i before
    → from ≡ min (316 - length (get_or out.headers i [])) (length before) → s.datagrams ≡ joined out.headers out.payloads → s.tailroom ≡ out.tailroom
    → IsLent s i (drop from before)
lent_is s out i from before few room region is datagrams tail =
    let h = get_or out.headers i [] in
    let p = get_or out.payloads i [] in
    let at = begins_at out i from before room region is in
    let d : get_or s.datagrams i [] ≡ h ++ p = ap (λ (ds : List (List ℕ)). get_or ds i []) datagrams ∙ joined_at out.headers out.payloads i few in
    let parts : slice_range before from out.headroom ++ slice_range before out.headroom (out.headroom + length p) ≡ take (length h + length p) (drop from before) =
    ranges_from before from out.headroom (length h) (length p) at.1 in
    let header : slice_range before from out.headroom ≡ h = ap (λ (n : ℕ). slice_range before n out.headroom) at.0 ∙ region.header in
    let whole : take (length h + length p) (drop from before) ≡ h ++ p =
    sym parts ∙ (ap (λ (u : List ℕ). u ++ slice_range before out.headroom (out.headroom + length p)) header ∙ ap (λ (u : List ℕ). h ++ u) region.payload) in
    let size : length (get_or s.datagrams i []) ≡ length h + length p = ap length d ∙ length-append h p in
    record {
      size = omega (arith, size, at.1, region.size, tail, length-drop from before);
      packet = ap (λ (n : ℕ). take n (drop from before)) size ∙ (whole ∙ sym d);
    }

-- and what is left there is the datagram afterwards
pub lent_back : (out : PayloadList) (i from : ℕ) (before left after : List ℕ) → i < length out.payloads → out.headroom ≡ 316 → IsRegion out i before
    → from ≡ min (316 - length (get_or out.headers i [])) (length before) → after ≡ take from before ++ left
    → joined (with_region out i after).headers (with_region out i after).payloads
    ≡ slice_set (joined out.headers out.payloads) i (take (length (get_or (joined out.headers out.payloads) i [])) left)
lent_back out i from before left after few room region is after_is =
    let h = get_or out.headers i [] in
    let p = get_or out.payloads i [] in
    let at = begins_at out i from before room region is in
    let header : header_of_region out i after ≡ slice_range after from out.headroom = ap (λ (n : ℕ). slice_range after n out.headroom) (sym at.0) in
    let parts : slice_range after from out.headroom ++ payload_of_region out i after ≡ take (length h + length p) (drop from after) =
    ranges_from after from out.headroom (length h) (length p) at.1 in
    let taken : length (take from before) ≡ from = length-take from before ∙ omega (arith, is) in
    let behind : drop from after ≡ left = ap (drop from) after_is ∙ (ap (λ (n : ℕ). drop n (take from before ++ left)) (sym taken) ∙ drop-append_seam (take from before) left) in
    let size : length (get_or (joined out.headers out.payloads) i []) ≡ length h + length p = ap length (joined_at out.headers out.payloads i few) ∙ length-append h p in
    let both : header_of_region out i after ++ payload_of_region out i after ≡ take (length (get_or (joined out.headers out.payloads) i [])) left =
    ap (λ (u : List ℕ). u ++ payload_of_region out i after) header ∙ (parts ∙ (ap (take (length h + length p)) behind ∙ ap (λ (n : ℕ). take n left) (sym size))) in
    let none : length out.headers ≤ i → header_of_region out i after ≡ [] = λ l.
    take_none (out.headroom - (out.headroom - length h)) (drop (out.headroom - length h) after) (omega (arith, no_header out.headers i l)) in
    joined_put out.headers out.payloads i (header_of_region out i after) (payload_of_region out i after) few none
    ∙ ap (slice_set (joined out.headers out.payloads) i) both

-- a sender with other packets
abbrev pub with_packets : Sending → PayloadList → Sending
with_packets s out = record s { tailroom = out.tailroom; datagrams = joined out.headers out.payloads }

pub lent_same : (s : Sending) (out new : PayloadList) (i : ℕ) (after left : List ℕ) → new ≡ with_region out i after
    → joined (with_region out i after).headers (with_region out i after).payloads
    ≡ slice_set (joined out.headers out.payloads) i (take (length (get_or (joined out.headers out.payloads) i [])) left)
    → with_packets s new ≡ with_datagram (with_packets s out) i left
lent_same s out new i after left is back =
    ap (with_packets s) is ∙ ap (λ (ds : List (List ℕ)). record s { tailroom = out.tailroom; datagrams = ds }) back
