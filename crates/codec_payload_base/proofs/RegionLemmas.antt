-- A packet with its rooms, which was written over in its place.
use Rattle.std.proofs.Common.{◌≡◌, ◌∙◌, sym, ap, ℕ, zero, suc, ◌+◌, ◌-◌, ◌<◌, ◌≤◌, List, [], ◌∷◌, ◌++◌, length, take, drop, get_or, slice_range, slice_set, arith}
use Rattle.std.proofs.lemmas.List.{drop-drop}
use Rattle.codec_payload_base.specs.PayloadLists.{IsRegion, with_region}
use Rattle.codec_payload_base.specs.Spans.{span_in, header_in, spanned, headed, list_of, InOrder}
use Rattle.codec_payload_base.specs.declared.payloads.Span.{Span}
use Rattle.codec_payload_base.proofs.SpanLemmas.{IsPut, drop_by_back, header_at, is_put, length-put, length-range, lists_behind, part_of_part, payload_at, range_by_front, same_list, span_at}

-- a place in memory, as a span of no bytes
abbrev pub place : ℕ → Span
place at = record { front = at; start = at; end = at }

-- the bytes of a region between two of its places
in_region : (bytes : List ℕ) (at to from until : ℕ) (region : List ℕ) → slice_range bytes at to ≡ region → from ≤ until → until ≤ to - at
    → slice_range bytes (at + from) (at + until) ≡ slice_range region from until
in_region bytes at to from until region is order within =
    sym (part_of_part bytes at from until (to - at) order within) ∙ ap (λ (x : List ℕ). slice_range x from until) is

-- the header and the payload of a span in its region
abbrev pub HasParts : ℕ → ℕ → Span → List ℕ → List ℕ → Type 0
HasParts h t s bytes region =
    (header_in bytes s ≡ slice_range region (h - (s.start - s.front)) h) × (span_in bytes s ≡ slice_range region h (h + (s.end - s.start)))

parts_of : (h t : ℕ) (s : Span) (bytes region : List ℕ) → h ≤ s.start → s.start ≤ s.front + h → s.front ≤ s.start → s.start ≤ s.end
    → slice_range bytes (s.start - h) (s.end + t) ≡ region → HasParts h t s bytes region
parts_of h t s bytes region room near front order is =
    let at = s.start - h in
    let begins : at + (h - (s.start - s.front)) ≡ s.front = omega (arith, room, near, front) in
    let middle : at + h ≡ s.start = omega (arith, room) in
    let ends : at + (h + (s.end - s.start)) ≡ s.end = omega (arith, room, order) in
    let first = in_region bytes at (s.end + t) (h - (s.start - s.front)) h region is (omega arith) (omega (arith, room, order)) in
    let second = in_region bytes at (s.end + t) h (h + (s.end - s.start)) region is (omega arith) (omega (arith, room, order)) in (
      ap (λ (n : ℕ). slice_range bytes n s.start) (sym begins) ∙ (ap (slice_range bytes (at + (h - (s.start - s.front)))) (sym middle) ∙ first),
      ap (λ (n : ℕ). slice_range bytes n s.end) (sym middle) ∙ (ap (slice_range bytes (at + h)) (sym ends) ∙ second),
    )

-- headers and payloads after the region at a place was overwritten
region_put : (h t from size : ℕ) (spans : List Span) (i : ℕ) (s : Span) (bytes bytes' header payload region : List ℕ) → i < length spans → s ≡ get_or spans i s → InOrder h t from size spans
    → IsPut bytes (s.start - h) (place (s.end + t)) region bytes' → header_in bytes' s ≡ header → span_in bytes' s ≡ payload
    → (headed bytes' spans ≡ slice_set (headed bytes spans) i header) × (spanned bytes' spans ≡ slice_set (spanned bytes spans) i payload)
region_put h t from size [] i s bytes bytes' header payload region lt is all put first second = absurd (omega arith)
region_put h t from size (r ∷ spans) zero s bytes bytes' header payload region lt is all put first second =
    let end : r.end ≡ s.end = ap (λ (x : Span). x.end) (sym is) in
    let behind = lists_behind h t (r.end + t) size (s.end + t) bytes bytes' spans put.3 (omega (arith, end)) all.4 in (
      ap (λ (x : List ℕ). x ∷ headed bytes' spans) (ap (header_in bytes') (sym is) ∙ first) ∙ ap (λ (xs : List (List ℕ)). header ∷ xs) behind.0,
      ap (λ (x : List ℕ). x ∷ spanned bytes' spans) (ap (span_in bytes') (sym is) ∙ second) ∙ ap (λ (xs : List (List ℕ)). payload ∷ xs) behind.1,
    )
region_put h t from size (r ∷ spans) (suc i) s bytes bytes' header payload region lt is all put first second =
    let at = span_at h t (r.end + t) size spans i s (omega arith) is all.4 in
    let front = s.start - h in
    let below : r.end ≤ front = omega (arith, at.0) in
    let rest = region_put h t (r.end + t) size spans i s bytes bytes' header payload region (omega arith) is all.4 put first second in
    let one : header_in bytes' r ≡ header_in bytes r = range_by_front front bytes bytes' r.front r.start put.0 put.1 put.2 all.2 (omega (arith, below, all.3)) in
    let own : span_in bytes' r ≡ span_in bytes r = range_by_front front bytes bytes' r.start r.end put.0 put.1 put.2 all.3 below in (
      ap (λ (x : List ℕ). x ∷ headed bytes' spans) one ∙ ap (λ (xs : List (List ℕ)). header_in bytes r ∷ xs) rest.0,
      ap (λ (x : List ℕ). x ∷ spanned bytes' spans) own ∙ ap (λ (xs : List (List ℕ)). span_in bytes r ∷ xs) rest.1,
    )

-- how long the parts of a span are
sizes_of : (bytes : List ℕ) (s : Span) → s.front ≤ s.start → s.start ≤ s.end → s.end ≤ length bytes
    → (length (header_in bytes s) ≡ s.start - s.front) × (length (span_in bytes s) ≡ s.end - s.start)
sizes_of bytes s front order within = (length-range bytes s.front s.start front (omega (arith, order, within)), length-range bytes s.start s.end order within)

-- the memory after the region at a place was overwritten
pub region_list : (h t size : ℕ) (spans : List Span) (i : ℕ) (s : Span) (bytes bytes' region : List ℕ) (b : ℕ) → i < length spans → s ≡ get_or spans i s → InOrder h t 0 size spans
    → IsPut bytes (s.start - h) (place (s.end + t)) region bytes' → s.end + t ≤ b → s.end ≤ length bytes
    → list_of h t bytes' spans b ≡ with_region (list_of h t bytes spans b) i region
region_list h t size spans i s bytes bytes' region b lt is all put le within =
    let at = span_at h t 0 size spans i s lt is all in
    let parts = parts_of h t s bytes' region (omega (arith, at.0)) at.1 at.2 at.3 put.4 in
    let sizes = sizes_of bytes s at.2 at.3 within in
    let header = ap length (header_at bytes spans i s lt is) ∙ sizes.0 in
    let payload = ap length (payload_at bytes spans i s lt is) ∙ sizes.1 in
    let lists = region_put h t 0 size spans i s bytes bytes' _ _ region lt is all put parts.0 parts.1 in
    same_list h t _ _ _ _ _ _
    (lists.0 ∙ ap (λ (n : ℕ). slice_set (headed bytes spans) i (slice_range region (h - n) h)) (sym header))
    (lists.1 ∙ ap (λ (n : ℕ). slice_set (spanned bytes spans) i (slice_range region h (h + n))) (sym payload))
    (drop_by_back (s.end + t) bytes bytes' b put.3 le)

-- a region as it lies in memory
pub is_region : (h t size : ℕ) (spans : List Span) (i : ℕ) (s : Span) (bytes region : List ℕ) (b : ℕ) → i < length spans → s ≡ get_or spans i s → InOrder h t 0 size spans
    → s.end + t ≤ length bytes → slice_range bytes (s.start - h) (s.end + t) ≡ region → IsRegion (list_of h t bytes spans b) i region
is_region h t size spans i s bytes region b lt is all within region_is =
    let at = span_at h t 0 size spans i s lt is all in
    let parts = parts_of h t s bytes region (omega (arith, at.0)) at.1 at.2 at.3 region_is in
    let sizes = sizes_of bytes s at.2 at.3 (omega (arith, within)) in
    let head = header_at bytes spans i s lt is in
    let body = payload_at bytes spans i s lt is in
    let header = ap length head ∙ sizes.0 in
    let payload = ap length body ∙ sizes.1 in
    let long : length region ≡ (s.end + t) - (s.start - h) = ap length (sym region_is) ∙ length-range bytes (s.start - h) (s.end + t) (omega (arith, at.3)) within in
    record {
      size = omega (arith, long, payload, at.0, at.3);
      header = ap (λ (n : ℕ). slice_range region (h - n) h) header ∙ (sym parts.0 ∙ sym head);
      payload = ap (λ (n : ℕ). slice_range region h (h + n)) payload ∙ (sym parts.1 ∙ sym body);
    }

-- memory keeps its length if a region of it is overwritten
pub length-over : (from : ℕ) (bytes region : List ℕ) → from + length region ≤ length bytes
    → length (take from bytes ++ (region ++ drop (length region) (drop from bytes))) ≡ length bytes
length-over from bytes region le =
    length-put from bytes region _ le (ap (λ (x : List ℕ). take from bytes ++ (region ++ x)) (drop-drop (length region) from bytes))

-- bytes written over a region of the memory, as the front up to `filled` has them
pub is_region_put : (filled from to : ℕ) (bytes region bytes' : List ℕ) → filled ≤ length bytes → to ≤ filled → to ≡ from + length region
    → bytes' ≡ take from bytes ++ (region ++ drop (length region) (drop from bytes)) → IsPut (take filled bytes) from (place to) region (take filled bytes')
is_region_put filled from to bytes region bytes' le within ends is =
    is_put filled from (place to) bytes region bytes' le within ends
    (is ∙ ap (λ (x : List ℕ). take from bytes ++ (region ++ x)) (drop-drop (length region) from bytes))
