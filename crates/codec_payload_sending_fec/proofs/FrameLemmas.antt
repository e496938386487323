-- The packets of a frame.
use Rattle.std.proofs.Common.{◌≡◌, ℕ, zero, suc, ◌+◌, ◌-◌, ◌<◌, ◌≤◌, true, false, List, [], ◌∷◌, ◌++◌, length, get_or, map, take, drop, Result, Ok, Err, refl, sym, ap, ◌∙◌, subst, arith, add-one}
use Rattle.std.specs.Borrow.{Bor}
use Rattle.std.specs.Global.{Vec}
use Rattle.std.specs.List.{insert}
use Rattle.std.specs.Prelude.{OnErr, OnOk}
use Rattle.std.proofs.lemmas.List.{get_or-map, length-map}
use Rattle.std.proofs.Math.Seq.{take-suc}
use Rattle.codec_payload_fec.specs.Strings.{number_of}
use Rattle.codec_payload_fec.specs.Writing.{AreShort, lists_of}
use Rattle.codec_payload_sending_fec.specs.Senders.{is_before, place_in, with_packet}

abbrev pub items_of : List (Vec ℕ) → List (List ℕ)
items_of frame = map (λ (p : Vec ℕ). p.items) frame

item_at : (frame : List (Vec ℕ)) (i : ℕ) (d : Vec ℕ) → i < length frame → get_or (items_of frame) i [] ≡ (get_or frame i d).items
item_at frame i d h = get_or-map (λ (p : Vec ℕ). p.items) frame i d [] h

-- ---- the place of a packet

-- the number is before the last of these packets, or not
back : (number k : ℕ) (frame : List (List ℕ)) → is_before number (number_of (get_or frame k [])) ≡ true → place_in number (suc k) frame ≡ place_in number k frame
unfolding place_in
back number k frame is = rw is refl

stop : (number k : ℕ) (frame : List (List ℕ)) → is_before number (number_of (get_or frame k [])) ≡ false → place_in number (suc k) frame ≡ suc k
unfolding place_in
stop number k frame is = rw is refl

-- the number of the packet in front of a place
number_at_place : (place r : ℕ) (x : List ℕ) (frame : List (Vec ℕ)) (d : Vec ℕ) → 0 < place → place ≤ length frame → x ≡ (get_or frame (place - 1) d).items → r ≡ number_of x → r ≡ number_of (get_or (items_of frame) (place - 1) [])
number_at_place place r x frame d some within same is = is ∙ ap number_of (same ∙ sym (item_at frame (place - 1) d (omega (arith, some, within))))

pub place_back : (number place r : ℕ) (x : List ℕ) (frame : List (Vec ℕ)) (d : Vec ℕ) → 0 < place → place ≤ length frame → x ≡ (get_or frame (place - 1) d).items → r ≡ number_of x → true ≡ is_before number r
    → place_in number (place - 1) (items_of frame) ≡ place_in number place (items_of frame)
place_back number place r x frame d some within same of is =
    let here : is_before number (number_of (get_or (items_of frame) (place - 1) [])) ≡ true = ap (is_before number) (sym (number_at_place place r x frame d some within same of)) ∙ sym is in
    let next : place ≡ suc (place - 1) = omega (arith, some) in
    sym (ap (λ (k : ℕ). place_in number k (items_of frame)) next ∙ back number (place - 1) (items_of frame) here)

pub place_stop : (number place r : ℕ) (x : List ℕ) (frame : List (Vec ℕ)) (d : Vec ℕ) → 0 < place → place ≤ length frame → x ≡ (get_or frame (place - 1) d).items → r ≡ number_of x → false ≡ is_before number r
    → place ≡ place_in number place (items_of frame)
place_stop number place r x frame d some within same of is =
    let here : is_before number (number_of (get_or (items_of frame) (place - 1) [])) ≡ false = ap (is_before number) (sym (number_at_place place r x frame d some within same of)) ∙ sym is in
    let next : place ≡ suc (place - 1) = omega (arith, some) in
    next ∙ sym (ap (λ (k : ℕ). place_in number k (items_of frame)) next ∙ stop number (place - 1) (items_of frame) here)

none : (number : ℕ) (frame : List (List ℕ)) → place_in number 0 frame ≡ 0
unfolding place_in
none number frame = refl

pub place_none : (number place : ℕ) (frame : List (List ℕ)) → place ≡ 0 → 0 ≡ place_in number place frame
place_none number place frame zero_is = sym (ap (λ (k : ℕ). place_in number k frame) zero_is ∙ none number frame)

-- ---- a packet is inserted

map_insert : (frame : List (Vec ℕ)) (i : ℕ) (p : Vec ℕ) → items_of (insert frame i p) ≡ insert (items_of frame) i p.items
map_insert [] zero p = refl
map_insert [] (suc i) p = refl
map_insert (q ∷ frame) zero p = refl
map_insert (q ∷ frame) (suc i) p = ap (λ (ps : List (List ℕ)). q.items ∷ ps) (map_insert frame i p)

pub held_is : (frame mid sl new : List (Vec ℕ)) (p : Vec ℕ) (s : List ℕ) (number place : ℕ) → mid ≡ frame → sl ≡ mid → place ≡ place_in number (length sl) (items_of sl) → s ≡ p.items → number ≡ number_of s → new ≡ insert mid place p
    → items_of new ≡ with_packet p.items (items_of frame)
held_is frame mid sl new p s number place e1 e2 e3 e4 e5 e6 =
    let n_is : number ≡ number_of p.items = e5 ∙ ap number_of e4 in
    let place_is : place ≡ place_in (number_of p.items) (length (items_of frame)) (items_of frame) =
    e3 ∙ ap (λ (f : List (Vec ℕ)). place_in number (length f) (items_of f)) (e2 ∙ e1) ∙ ap (λ (n : ℕ). place_in n (length frame) (items_of frame)) n_is
    ∙ ap (λ (k : ℕ). place_in (number_of p.items) k (items_of frame)) (sym (length-map frame (λ (q : Vec ℕ). q.items))) in
    ap items_of e6 ∙ map_insert mid place p ∙ ap (λ (f : List (Vec ℕ)). insert (items_of f) place p.items) e1 ∙ ap (λ (k : ℕ). insert (items_of frame) k p.items) place_is

short_insert : (xs : List (List ℕ)) (i : ℕ) (p : List ℕ) → AreShort xs → length p < 65548 → AreShort (insert xs i p)
short_insert [] zero p are few = (few, tt)
short_insert [] (suc i) p are few = (few, tt)
short_insert (x ∷ xs) zero p are few = (few, are)
short_insert (x ∷ xs) (suc i) p are few = (are.0, short_insert xs i p are.1 few)

pub short_hold : {X E : Type 0} (result : Result X E) (old new : List (Vec ℕ)) (p : Vec ℕ) → AreShort (items_of old) → length p.items < 65548 → OnOk result (items_of new ≡ with_packet p.items (items_of old)) → OnErr result (new ≡ old)
    → AreShort (items_of new)
short_hold (Ok x) old new p are few is same =
    subst AreShort (sym is) (short_insert (items_of old) (place_in (number_of p.items) (length (items_of old)) (items_of old)) p.items are few)
short_hold (Err x) old new p are few is same = subst (λ (f : List (Vec ℕ)). AreShort (items_of f)) (sym same) are

-- ---- slices

lists_snoc : (xs : List (Bor (List ℕ))) (x : Bor (List ℕ)) → lists_of (xs ++ x ∷ []) ≡ lists_of xs ++ x.now ∷ []
lists_snoc [] x = refl
lists_snoc (y ∷ xs) x = ap (λ (ls : List (List ℕ)). y.now ∷ ls) (lists_snoc xs x)

pub slices_more : (slices new : List (Bor (List ℕ))) (x : Bor (List ℕ)) (i : ℕ) (frame : List (Vec ℕ)) (d : Vec ℕ) → i < length frame → lists_of slices ≡ take i (items_of frame) → new ≡ slices ++ x ∷ [] → x.now ≡ (get_or frame i d).items
    → lists_of new ≡ take (i + 1) (items_of frame)
slices_more slices new x i frame d h before is same =
    let few : i < length (items_of frame) = omega (arith, h, length-map frame (λ (q : Vec ℕ). q.items)) in
    let last : take (i + 1) (items_of frame) ≡ take i (items_of frame) ++ get_or (items_of frame) i [] ∷ [] = rw add-one (take-suc (items_of frame) i [] few) in
    ap lists_of is ∙ lists_snoc slices x
    ∙ ap (λ (ls : List (List ℕ)). ls ++ x.now ∷ []) before
    ∙ ap (λ (l : List ℕ). take i (items_of frame) ++ l ∷ []) (same ∙ sym (item_at frame i d h))
    ∙ sym last
