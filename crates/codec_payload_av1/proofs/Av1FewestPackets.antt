-- The packets that are sent are as few as any.
use Rattle.std.proofs.Common.{◌≡◌, ℕ, zero, suc, ◌+◌, ◌<◌, ◌≤◌, Bool, true, false, not, List, [], ◌∷◌, ◌++◌, length, map, take, Option, refl, sym, ap, ◌∙◌, append_assoc, arith}
use Rattle.std.specs.List.{AllByRecursion, flat_map}
use Rattle.std.proofs.lemmas.List.{length-append, append-nil}
use Rattle.codec_payload_base.specs.Pieces.{joined}
use Rattle.codec_payload_av1.specs.Av1Payload.{Payload, written}
use Rattle.codec_payload_av1.specs.Av1Packing.{ended, left_open, is_begun, IsElement, StandsAfter, with_next, AllFullButLast, HasElement, Sent, AreRead, Packs, bytes_in, carried, reach}
use Rattle.codec_payload_av1.specs.Av1Size.{packet_size, leb_len}
use Rattle.codec_payload_av1.proofs.Av1FewestSegments.{runs, runs_from, join, FullSegments, fewest_segments, furthest_segments}
use Rattle.codec_payload_av1.proofs.Av1PayloadLengths.{leb_len_rises, length_written, payload_at_len}

-- ---- where strings begin in an element, and in a packet; mid: the element continues from before

abbrev pub falses : List ℕ → List Bool
falses [] = []
falses (b ∷ bs) = false ∷ falses bs

abbrev pub marks : Bool → List ℕ → List Bool
marks mid [] = []
marks mid (b ∷ bs) = not mid ∷ falses bs

abbrev pub segment : Bool → List (List ℕ) → List Bool
segment mid [] = []
segment mid (e ∷ es) = marks mid e ++ segment false es

abbrev pub segments : List Payload → List (List Bool)
segments [] = []
segments (p ∷ ps) = segment p.continues p.elements ∷ segments ps

falses-append : (xs ys : List ℕ) → falses (xs ++ ys) ≡ falses xs ++ falses ys
falses-append [] ys = refl
falses-append (x ∷ xs) ys = ap (λ (bs : List Bool). false ∷ bs) (falses-append xs ys)

-- ---- the elements of a packet, from its segment

runs_falses : (k : ℕ) (bs : List ℕ) (rest : List Bool) → runs_from k (falses bs ++ rest) ≡ runs_from (k + length bs) rest
runs_falses k [] rest = ap (λ n. runs_from n rest) (omega arith)
runs_falses k (b ∷ bs) rest = runs_falses (suc k) bs rest ∙ ap (λ n. runs_from n rest) (omega arith)

runs_after : (k : ℕ) (es : List (List ℕ)) → AllByRecursion IsElement es → runs_from k (segment false es) ≡ k ∷ map length es
runs_after k [] h = refl
runs_after k ([] ∷ es) h = absurd (omega (arith, h.0))
runs_after k ((c ∷ cs) ∷ es) h =
    ap (λ (ns : List ℕ). k ∷ ns) (runs_falses 1 cs (segment false es) ∙ runs_after (1 + length cs) es h.1 ∙ ap (λ n. n ∷ map length es) (omega arith))

runs_segment : (mid : Bool) (es : List (List ℕ)) → AllByRecursion IsElement es → runs (segment mid es) ≡ map length es
runs_segment mid [] h = refl
runs_segment mid ([] ∷ es) h = absurd (omega (arith, h.0))
runs_segment mid ((c ∷ cs) ∷ es) h = runs_falses 1 cs (segment false es) ∙ runs_after (1 + length cs) es h.1 ∙ ap (λ n. n ∷ map length es) (omega arith)

-- ---- all segments together show where the strings begin

marks_join : (begun e : List ℕ) → IsElement e → marks false begun ++ marks (is_begun begun) e ≡ marks false (begun ++ e)
marks_join [] e h = refl
marks_join (b ∷ bs) [] h = absurd (omega (arith, h))
marks_join (b ∷ bs) (c ∷ cs) h = ap (λ (xs : List Bool). true ∷ xs) (sym (falses-append bs (c ∷ cs)))

settled : (y : Bool) (begun : List ℕ) (es : List (List ℕ)) → AllByRecursion IsElement es
    → marks false begun ++ segment (is_begun begun) es ≡ flat_map (marks false) (ended y begun es) ++ marks false (left_open y begun es)
settled y begun [] h = append-nil (marks false begun)
settled true begun (e ∷ []) h = sym (append_assoc (marks false begun) (marks (is_begun begun) e) []) ∙ append-nil _ ∙ marks_join begun e h.0
settled false begun (e ∷ []) h = sym (append_assoc (marks false begun) (marks (is_begun begun) e) []) ∙ append-nil _ ∙ marks_join begun e h.0 ∙ sym (append-nil _ ∙ append-nil _)
settled y begun (e ∷ f ∷ es) h =
    sym (append_assoc (marks false begun) (marks (is_begun begun) e) (segment false (f ∷ es)))
    ∙ ap (λ (xs : List Bool). xs ++ segment false (f ∷ es)) (marks_join begun e h.0)
    ∙ ap (λ (xs : List Bool). marks false (begun ++ e) ++ xs) (settled y [] (f ∷ es) h.1)
    ∙ sym (append_assoc (marks false (begun ++ e)) (flat_map (marks false) (ended y [] (f ∷ es))) (marks false (left_open y [] (f ∷ es))))

flat-append : (xs ys : List (List ℕ)) → flat_map (marks false) (xs ++ ys) ≡ flat_map (marks false) xs ++ flat_map (marks false) ys
flat-append [] ys = refl
flat-append (x ∷ xs) ys = ap (λ (t : List Bool). marks false x ++ t) (flat-append xs ys) ∙ sym (append_assoc (marks false x) (flat_map (marks false) xs) (flat_map (marks false) ys))

pub all_marks : (begun : List ℕ) (ps : List Payload) (strings : List (List ℕ)) → StandsAfter begun ps strings
    → marks false begun ++ join (segments ps) ≡ flat_map (marks false) strings
all_marks begun [] strings h = rw (h.0, h.1) refl
all_marks begun (p ∷ ps) strings h =
    let begun' = left_open p.goes_on begun p.elements in
    rw (h.0, h.2.1)
    (sym (append_assoc (marks false begun) (segment (is_begun begun) p.elements) (join (segments ps)))
    ∙ ap (λ (xs : List Bool). xs ++ join (segments ps)) (settled p.goes_on begun p.elements h.1)
    ∙ append_assoc (flat_map (marks false) (ended p.goes_on begun p.elements)) (marks false begun') (join (segments ps))
    ∙ ap (λ (xs : List Bool). flat_map (marks false) (ended p.goes_on begun p.elements) ++ xs) (all_marks begun' ps h.2.0 h.2.2)
    ∙ sym (flat-append (ended p.goes_on begun p.elements) h.2.0))

-- ---- full packets

one_more : (mid : Bool) (n : ℕ) (e : List ℕ) → IsElement e → marks mid e ++ (false ∷ []) ≡ marks mid (e ++ n ∷ [])
one_more mid n [] h = absurd (omega (arith, h))
one_more mid n (c ∷ cs) h = ap (λ (xs : List Bool). not mid ∷ xs) (sym (falses-append cs (n ∷ [])))

with_next_marks : (mid y : Bool) (n : ℕ) (es : List (List ℕ)) → AllByRecursion IsElement es → 0 < length es → segment mid es ++ (not y ∷ []) ≡ segment mid (with_next y n es)
with_next_marks mid y n [] h ne = absurd (omega (arith, ne))
with_next_marks mid true n (e ∷ []) h ne = ap (λ (xs : List Bool). xs ++ false ∷ []) (append-nil (marks mid e)) ∙ one_more mid n e h.0 ∙ sym (append-nil _)
with_next_marks mid false n (e ∷ []) h ne = ap (λ (xs : List Bool). xs ++ true ∷ []) (append-nil (marks mid e))
with_next_marks mid y n (e ∷ f ∷ es) h ne = append_assoc (marks mid e) (segment false (f ∷ es)) (not y ∷ [])
    ∙ ap (λ (xs : List Bool). marks mid e ++ xs) (with_next_marks false y n (f ∷ es) h.1 (omega arith))

with_next_elements : (y : Bool) (n : ℕ) (es : List (List ℕ)) → AllByRecursion IsElement es → AllByRecursion IsElement (with_next y n es)
with_next_elements y n [] h = (omega arith, tt)
with_next_elements true n (e ∷ []) h = (omega (arith, h.0, length-append e (n ∷ [])), tt)
with_next_elements false n (e ∷ []) h = (h.0, (omega arith, tt))
with_next_elements y n (e ∷ f ∷ es) h = (h.0, with_next_elements y n (f ∷ es) h.1)

-- if something came, the next packet continues exactly if this one continues
next_begun : (y : Bool) (begun : List ℕ) (es : List (List ℕ)) → AllByRecursion IsElement es → 0 < length es → is_begun (left_open y begun es) ≡ y
next_begun y begun [] h ne = absurd (omega (arith, ne))
next_begun true [] ([] ∷ []) h ne = absurd (omega (arith, h.0))
next_begun true [] ((c ∷ e) ∷ []) h ne = refl
next_begun true (b ∷ begun) (e ∷ []) h ne = refl
next_begun false begun (e ∷ []) h ne = refl
next_begun y begun (e ∷ f ∷ es) h ne = next_begun y [] (f ∷ es) h.1 (omega arith)

head_mark : (mid : Bool) (es : List (List ℕ)) (b : Bool) (t : List Bool) → AllByRecursion IsElement es → 0 < length es → segment mid es ≡ b ∷ t → b ≡ not mid
head_mark mid [] b t h ne e = absurd (omega (arith, ne))
head_mark mid ([] ∷ es) b t h ne e = absurd (omega (arith, h.0))
head_mark mid ((c ∷ cs) ∷ es) b t h ne e = cc

full_segments : (mtu : ℕ) (begun : List ℕ) (ps : List Payload) (strings : List (List ℕ)) → StandsAfter begun ps strings → AllByRecursion HasElement ps → AllFullButLast mtu ps
    → FullSegments leb_len mtu (segments ps)
full_segments mtu begun [] strings h ne full = tt
full_segments mtu begun (p ∷ []) strings h ne full = tt
full_segments mtu begun (p ∷ q ∷ ps) strings h ne full =
    let rest = h.2 in
    let q-continues : q.continues ≡ p.goes_on = rest.2.0 ∙ next_begun p.goes_on begun p.elements h.1 ne.0 in (
      λ b t e.
          let b-is : b ≡ not p.goes_on = head_mark q.continues q.elements b t rest.2.1 ne.1.0 e ∙ ap not q-continues in
          let more = with_next p.goes_on 0 p.elements in
          let same : runs (segment p.continues p.elements ++ b ∷ []) ≡ map length more =
          rw b-is (ap runs (with_next_marks p.continues p.goes_on 0 p.elements h.1 ne.0) ∙ runs_segment p.continues more (with_next_elements p.goes_on 0 p.elements h.1)) in
          rw same (rw (← length_written (record p { elements = more })) (full.0 0)),
      full_segments mtu (left_open p.goes_on begun p.elements) (q ∷ ps) rest.0 rest.2 ne.1 full.1,
    )

-- ---- the capacity of other packets

within_segments : (mtu : ℕ) (begun : List ℕ) (others : List (List ℕ)) (ps : List Payload) (strings : List (List ℕ)) → StandsAfter begun ps strings
    → AreRead others ps → AllByRecursion (λ bytes. length bytes ≤ mtu) others
    → AllByRecursion (λ o. packet_size leb_len (runs o) ≤ mtu) (segments ps)
within_segments mtu begun [] [] strings h r w = tt
within_segments mtu begun [] (p ∷ ps) strings h r w = absurd r
within_segments mtu begun (bytes ∷ others) [] strings h r w = absurd r
within_segments mtu begun (bytes ∷ others) (p ∷ ps) strings h r w = (
  rw (runs_segment p.continues p.elements h.1) (omega (arith, payload_at_len bytes p r.0, w.0)),
  within_segments mtu (left_open p.goes_on begun p.elements) others ps h.2.0 h.2.2 r.1 w.1,
)

pub one_byte : (mid : Bool) (es : List (List ℕ)) → AllByRecursion IsElement es → 0 < length es → 0 < length (segment mid es)
one_byte mid [] h ne = absurd (omega (arith, ne))
one_byte mid ([] ∷ es) h ne = absurd (omega (arith, h.0))
one_byte mid ((c ∷ cs) ∷ es) h ne = omega arith

nonempty_segments : (begun : List ℕ) (ps : List Payload) (strings : List (List ℕ)) → StandsAfter begun ps strings → AllByRecursion HasElement ps → AllByRecursion (λ x. 0 < length x) (segments ps)
nonempty_segments begun [] strings h ne = tt
nonempty_segments begun (p ∷ ps) strings h ne = (one_byte p.continues p.elements h.1 ne.0, nonempty_segments (left_open p.goes_on begun p.elements) ps h.2.0 h.2.2 ne.1)

count_segments : (ps : List Payload) → length (segments ps) ≡ length ps
count_segments [] = refl
count_segments (p ∷ ps) = ap suc (count_segments ps)

count_read : (others : List (List ℕ)) (ps : List Payload) → AreRead others ps → length others ≡ length ps
count_read [] [] r = refl
count_read [] (p ∷ ps) r = absurd r
count_read (bytes ∷ others) [] r = absurd r
count_read (bytes ∷ others) (p ∷ ps) r = ap suc (count_read others ps r.1)

-- No list of payloads of at most mtu bytes that represents the strings is shorter than the sent one.
pub fewest : (mtu : ℕ) (starts : Bool) (strings : List (List ℕ)) (ps : List Payload) (others : List (List ℕ)) → Sent mtu starts strings ps → Packs mtu others strings → length ps ≤ length others
fewest mtu starts strings ps others sent packs =
    let same : join (segments ps) ≡ join (segments packs.payloads) = all_marks [] ps strings sent.stands ∙ sym (all_marks [] packs.payloads strings packs.stands) in
    let less = fewest_segments leb_len leb_len_rises mtu (segments ps) (segments packs.payloads) []
    (nonempty_segments [] ps strings sent.stands sent.nonempty)
    (full_segments mtu [] ps strings sent.stands sent.nonempty sent.full)
    (within_segments mtu [] others packs.payloads strings packs.stands packs.read packs.within)
    same in
    omega (arith, less, count_segments ps, count_segments packs.payloads, count_read others packs.payloads packs.read)

-- ---- how far packets reach

length_falses : (bs : List ℕ) → length (falses bs) ≡ length bs
length_falses [] = refl
length_falses (b ∷ bs) = ap suc (length_falses bs)

length_marks : (mid : Bool) (bs : List ℕ) → length (marks mid bs) ≡ length bs
length_marks mid [] = refl
length_marks mid (b ∷ bs) = ap suc (length_falses bs)

length_segment : (mid : Bool) (es : List (List ℕ)) → length (segment mid es) ≡ length (joined es)
length_segment mid [] = refl
length_segment mid (e ∷ es) = omega (arith, length-append (marks mid e) (segment false es), length-append e (joined es), length_marks mid e, length_segment false es)

pub reach_read : (k : ℕ) (packets : List (List ℕ)) (ps : List Payload) → AreRead packets ps → reach (take k packets) ≡ length (join (take k (segments ps)))
reach_read zero packets ps r = refl
reach_read (suc k) [] [] r = refl
reach_read (suc k) [] (p ∷ ps) r = absurd r
reach_read (suc k) (packet ∷ packets) [] r = absurd r
reach_read (suc k) (packet ∷ packets) (p ∷ ps) r =
    let here : length (carried packet) ≡ length (joined p.elements) = ap (λ (q : Option Payload). length (bytes_in q)) r.0 in
    omega (
      arith,
      here,
      reach_read k packets ps r.1,
      length_segment p.continues p.elements,
      length-append (carried packet) (flat_map carried (take k packets)),
      length-append (segment p.continues p.elements) (join (take k (segments ps))),
    )

-- Each packet reaches at least as far into the strings as the packet at its place in any other list.
pub furthest : (mtu : ℕ) (starts : Bool) (strings : List (List ℕ)) (ps : List Payload) (others : List (List ℕ)) → Sent mtu starts strings ps → AreRead (map written ps) ps → Packs mtu others strings
    → (k : ℕ) → reach (take k others) ≤ reach (take k (map written ps))
furthest mtu starts strings ps others sent read packs k =
    let same : join (segments ps) ≡ join (segments packs.payloads) = all_marks [] ps strings sent.stands ∙ sym (all_marks [] packs.payloads strings packs.stands) in
    let far = furthest_segments leb_len leb_len_rises mtu k (segments ps) (segments packs.payloads) []
    (nonempty_segments [] ps strings sent.stands sent.nonempty)
    (full_segments mtu [] ps strings sent.stands sent.nonempty sent.full)
    (within_segments mtu [] others packs.payloads strings packs.stands packs.read packs.within)
    same in
    omega (arith, far, reach_read k others packs.payloads packs.read, reach_read k (map written ps) ps read)
