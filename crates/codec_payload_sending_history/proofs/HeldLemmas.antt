-- Which datagrams a history holds.
use Rattle.std.proofs.Common.{◌≡◌, ◌≢◌, ◌∙◌, refl, sym, ap, ℕ, zero, suc, ◌+◌, ◌-◌, ◌%◌, ◌<◌, ◌≤◌, List, [], ◌∷◌, ◌++◌, length, take, inl, inr, ◌⊎◌}
use Rattle.std.proofs.Common.{Bool, true, false, cond, eqb, ltb, Some, None, Ok, arith}
use Rattle.std.specs.Prelude.{slice_get, slice_index_or}
use Rattle.std.proofs.lemmas.Bool.{le-ltb, lt-ltb, ltb-false, ltb-true, eq-eqb, ne_eqb}
use Rattle.std.proofs.lemmas.Bool.Decides.{eqb_tells}
use Rattle.std.proofs.lemmas.List.{length-set}
use Rattle.codec_payload_rtp.specs.RtpPackets.{Packet}
use Rattle.codec_payload_rtp.specs.RtpReading.{rtp_at}
use Rattle.codec_payload_sending_history.specs.HeldNumbers.{HoldsLatest, KeepsNear, KeepsNext, bytes_there, greatest_of, held, latest, some_bytes}
use Rattle.codec_payload_sending_history.specs.Histories.{Keeps, above, below, is_empty, kept_at, kept_by, lowered, place_for, raised, with_bytes}
use Rattle.codec_payload_sending_history.specs.Packets.{Past, Sent, no_packet, number_in, number_of}
use Rattle.codec_payload_sending_history.specs.declared.retransmission.Kept.{Kept}
use Rattle.codec_payload_sending_history.specs.declared.retransmission.Kept.TheVariants as answers
use Rattle.codec_payload_sending_history.specs.declared.retransmission.Place.{Place}
use Rattle.codec_payload_sending_history.specs.declared.retransmission.Place.TheVariants as places
use Rattle.codec_payload_sending_history.proofs.HistoryLemmas.{length_lowered, length_raised, no_number}

-- Places

put_here : (k : ℕ) (d : List ℕ) (ps : List Sent) → k < length ps → bytes_there (slice_get (with_bytes k d ps) k) ≡ some_bytes d
put_here k d [] l = absurd (omega (arith, l))
put_here zero d (q ∷ ps) l = refl
put_here (suc k) d (q ∷ ps) l = put_here k d ps (omega (arith, l))

put_else : (k : ℕ) (d : List ℕ) (ps : List Sent) (i : ℕ) → i ≢ k → bytes_there (slice_get (with_bytes k d ps) i) ≡ bytes_there (slice_get ps i)
put_else k d [] i other = refl
put_else zero d (q ∷ ps) zero other = absurd (other refl)
put_else zero d (q ∷ ps) (suc i) other = refl
put_else (suc k) d (q ∷ ps) zero other = refl
put_else (suc k) d (q ∷ ps) (suc i) other = put_else k d ps i (λ e. other (ap suc e))

last_none : (ps : List Sent) (i : ℕ) → bytes_there (slice_get (ps ++ no_packet ∷ []) i) ≡ bytes_there (slice_get ps i)
last_none [] zero = refl
last_none [] (suc i) = refl
last_none (q ∷ ps) zero = refl
last_none (q ∷ ps) (suc i) = last_none ps i

lowered_same : (count : ℕ) (ps : List Sent) (i : ℕ) → bytes_there (slice_get (lowered count ps) i) ≡ bytes_there (slice_get ps i)
lowered_same zero ps i = refl
lowered_same (suc count) ps i = last_none (lowered count ps) i ∙ lowered_same count ps i

take_get : (n : ℕ) (ps : List Sent) (i : ℕ) → i < n → slice_get (take n ps) i ≡ slice_get ps i
take_get zero ps i l = absurd (omega (arith, l))
take_get (suc n) [] i l = refl
take_get (suc n) (q ∷ ps) zero l = refl
take_get (suc n) (q ∷ ps) (suc i) l = take_get n ps i (omega (arith, l))

raised_new : (limit count : ℕ) (ps : List Sent) (i : ℕ) → i < limit → i < count → bytes_there (slice_get (raised limit count ps) i) ≡ None
raised_new limit zero ps i l new = absurd (omega (arith, new))
raised_new limit (suc count) ps zero l new = ap bytes_there (take_get limit (no_packet ∷ raised limit count ps) zero l)
raised_new limit (suc count) ps (suc i) l new =
    ap bytes_there (take_get limit (no_packet ∷ raised limit count ps) (suc i) l) ∙ raised_new limit count ps i (omega (arith, l)) (omega (arith, new))

raised_old : (limit count : ℕ) (ps : List Sent) (j : ℕ) → count + j < limit → slice_get (raised limit count ps) (count + j) ≡ slice_get ps j
raised_old limit zero ps j l =
    let e : zero + j ≡ j = omega arith in
    ap (slice_get ps) e
raised_old limit (suc count) ps j l =
    let e : suc count + j ≡ suc (count + j) = omega arith in
    ap (slice_get (raised limit (suc count) ps)) e
    ∙ (take_get limit (no_packet ∷ raised limit count ps) (suc (count + j)) (omega (arith, l)) ∙ raised_old limit count ps j (omega (arith, l)))

raised_some : (limit count : ℕ) (ps : List Sent) → 1 ≤ limit → 1 ≤ count → 0 < length (raised limit count ps)
raised_some limit zero ps a b = absurd (omega (arith, b))
raised_some zero (suc count) ps a b = absurd (omega (arith, a))
raised_some (suc limit) (suc count) ps a b = omega arith

not_empty : (k : ℕ) (d : List ℕ) (ps : List Sent) → 0 < length ps → is_empty (with_bytes k d ps) ≡ false
not_empty k d [] l = absurd (omega (arith, l))
not_empty zero d (q ∷ ps) l = refl
not_empty (suc k) d (q ∷ ps) l = refl

-- Where a packet is kept

is_below : (h : Past) (n : ℕ) → is_empty h.packets ≡ false → below h n < h.limit → place_for h n ≡ places.Below (below h n)
is_below h n some near =
    rw some (rw (lt-ltb (below h n) h.limit near) refl)

is_above : (h : Past) (n : ℕ) → is_empty h.packets ≡ false → h.limit ≤ below h n → above h n < 32768 → above h n < h.limit → place_for h n ≡ places.Above (above h n)
is_above h n some past ahead near =
    rw some (rw (le-ltb (below h n) h.limit past) (rw (lt-ltb (above h n) 32768 ahead) (rw (lt-ltb (above h n) h.limit near) refl)))

is_far : (h : Past) (n : ℕ) → is_empty h.packets ≡ false → h.limit ≤ below h n → above h n < 32768 → h.limit ≤ above h n → place_for h n ≡ places.Anew
is_far h n some past ahead far =
    rw some (rw (le-ltb (below h n) h.limit past) (rw (lt-ltb (above h n) 32768 ahead) (rw (le-ltb (above h n) h.limit far) refl)))

is_first : (h : Past) (n : ℕ) → h.packets ≡ [] → place_for h n ≡ places.Anew
is_first h n none = rw none refl

-- Numbers

back : (g n : ℕ) → n ≤ g → g < n + 32768 → ((g % 65536) + 65536 - n % 65536) % 65536 ≡ g - n
back g n a b = omega arith

ahead : (g n : ℕ) → g < n → n < g + 32768 → ((n % 65536) + 65536 - g % 65536) % 65536 ≡ n - g
ahead g n a b = omega arith

round : (g n : ℕ) → g < n → n < g + 32768 → ((g % 65536) + 65536 - n % 65536) % 65536 ≡ 65536 - (n - g)
round g n a b = omega arith

latest_here : (n : ℕ) (x : ℕ × List ℕ) (xs : List (ℕ × List ℕ)) → x.0 ≡ n → latest n (x ∷ xs) ≡ Some x.1
latest_here n x xs e = ap (λ (b : Bool). cond b (Some x.1) (latest n xs)) (eq-eqb x.0 n e)

latest_else : (n : ℕ) (x : ℕ × List ℕ) (xs : List (ℕ × List ℕ)) → x.0 ≢ n → latest n (x ∷ xs) ≡ latest n xs
latest_else n x xs e = ap (λ (b : Bool). cond b (Some x.1) (latest n xs)) (ne_eqb x.0 n e)

latest_none : (n : ℕ) (xs : List (ℕ × List ℕ)) → greatest_of xs < n → latest n xs ≡ None
latest_none n [] l = refl
latest_none n (x ∷ xs) l = latest_else n x xs (λ e. omega (arith, l, e)) ∙ latest_none n xs (omega (arith, l))

-- a packet has bytes
has_some : (d : List ℕ) (n : ℕ) → number_in d ≡ Some n → some_bytes d ≡ Some d
has_some [] n e = absurd (no_number n e)
has_some (b ∷ d) n e = refl

packet_number : (d : List ℕ) (n : ℕ) (p : Packet) → number_in d ≡ Some n → rtp_at d ≡ Ok p → p.header.sequence_number ≡ n
packet_number d n p e reads = same (sym (ap number_of reads) ∙ e)
  where
    same : Some p.header.sequence_number ≡ Some n → p.header.sequence_number ≡ n
    same e = cc

-- what a packet with this number and these bytes makes of a history
keeps_as : (h t : Past) (d : List ℕ) (kept : Kept) (n : ℕ) (place : Place) → number_in d ≡ Some n → place_for h n ≡ place → Keeps h d kept t
    → (kept ≡ kept_by place) × (t ≡ kept_at place n d h)
keeps_as h t d kept n place numbered is keeps =
    let e : keeps.packet.header.sequence_number ≡ n = packet_number d n keeps.packet numbered keeps.reads in
    let at : place_for h keeps.packet.header.sequence_number ≡ place = ap (place_for h) e ∙ is in (
      keeps.answer ∙ ap kept_by at,
      keeps.left ∙ (ap (λ (p : Place). kept_at p keeps.packet.header.sequence_number d h) at ∙ ap (λ (m : ℕ). kept_at place m d h) e),
    )

-- Runs

-- the state of a history that kept these, whose limit is this
record Holds (limit : ℕ) (xs : List (ℕ × List ℕ)) (t : Past) : Type 0 where
  same : t.limit ≡ limit
  few : length t.packets ≤ limit
  newest : t.newest ≡ greatest_of xs % 65536
  some : is_empty t.packets ≡ false
  holds : (n : ℕ) → n ≤ greatest_of xs → greatest_of xs < n + limit → held t (n % 65536) ≡ latest n xs

-- the place of a number
at_back : (t : Past) (g n : ℕ) → t.newest ≡ g % 65536 → n ≤ g → g < n + 32768 → held t (n % 65536) ≡ bytes_there (slice_get t.packets (g - n))
at_back t g n newest a b =
    ap (λ (i : ℕ). bytes_there (slice_get t.packets i)) (ap (λ (m : ℕ). (m + 65536 - n % 65536) % 65536) newest ∙ back g n a b)

-- a packet with the highest number; the places below it have none
holds_first : (limit : ℕ) (x : ℕ × List ℕ) (xs : List (ℕ × List ℕ)) (h t : Past) → 1 ≤ limit → limit ≤ 32768 → h.limit ≡ limit → number_in x.1 ≡ Some (x.0 % 65536)
    → greatest_of xs + limit ≤ x.0 ⊎ xs ≡ [] → t ≡ kept_at places.Anew (x.0 % 65536) x.1 h → Holds limit (x ∷ xs) t
holds_first limit x xs h t some most same is far left =
    let ps : List Sent = with_bytes 0 x.1 (raised h.limit 1 []) in
    let packets : t.packets ≡ ps = ap (λ (y : Past). y.packets) left in
    let top : greatest_of (x ∷ xs) ≡ x.0 = greatest far in
    let newest : t.newest ≡ greatest_of (x ∷ xs) % 65536 = ap (λ (y : Past). y.newest) left ∙ ap (λ (m : ℕ). m % 65536) (sym top) in
    let one : 0 < length (raised h.limit 1 []) = raised_some h.limit 1 [] (omega (arith, some, same)) (omega arith) in
    record {
      same = ap (λ (y : Past). y.limit) left ∙ same;
      few = omega (arith, ap length packets, length-set (raised h.limit 1 []) 0 (record (slice_index_or (raised h.limit 1 []) 0 no_packet) { bytes = x.1 }), length_raised h.limit 1 [] (omega arith), same);
      newest = newest;
      some = ap is_empty packets ∙ not_empty 0 x.1 (raised h.limit 1 []) one;
      holds = λ n a b.
          at_back t (greatest_of (x ∷ xs)) n newest a (omega (arith, b, most))
          ∙ (ap (λ (qs : List Sent). bytes_there (slice_get qs (greatest_of (x ∷ xs) - n))) packets ∙ by_number n (greatest_of (x ∷ xs) - n) (eqb_tells x.0 n) (omega (arith, top, a)) (omega (arith, b, top, some)));
    }
  where
    greatest : greatest_of xs + limit ≤ x.0 ⊎ xs ≡ [] → greatest_of (x ∷ xs) ≡ x.0
    greatest (inl l) = omega (arith, l)
    greatest (inr e) = omega (arith, ap greatest_of e)

    older : greatest_of xs + limit ≤ x.0 ⊎ xs ≡ [] → (n : ℕ) → x.0 < n + limit → latest n xs ≡ None
    older (inl l) n b = latest_none n xs (omega (arith, l, b))
    older (inr e) n b = ap (latest n) e

    by_number : (n i : ℕ) → ((eqb x.0 n ≡ true) × (x.0 ≡ n)) ⊎ ((eqb x.0 n ≡ false) × (x.0 ≢ n)) → x.0 ≡ n + i → x.0 < n + limit
        → bytes_there (slice_get (with_bytes 0 x.1 (raised h.limit 1 [])) i) ≡ latest n (x ∷ xs)
    by_number n zero tells e b =
        put_here 0 x.1 (raised h.limit 1 []) (raised_some h.limit 1 [] (omega (arith, some, same)) (omega arith)) ∙ (has_some x.1 (x.0 % 65536) is ∙ sym (latest_here n x xs (omega (arith, e))))
    by_number n (suc i) tells e b =
        let next : 1 + i ≡ suc i = omega arith in
        put_else 0 x.1 (raised h.limit 1 []) (suc i) (λ z. omega (arith, z))
        ∙ (ap bytes_there (ap (slice_get (raised h.limit 1 [])) (sym next) ∙ raised_old h.limit 1 [] i (omega (arith, e, b, same)))
        ∙ sym (latest_else n x xs (λ z. omega (arith, z, e)) ∙ older far n b))

-- a packet with the highest number, less than `limit` above the others
holds_above : (limit : ℕ) (x : ℕ × List ℕ) (xs : List (ℕ × List ℕ)) (h t : Past) → 1 ≤ limit → limit ≤ 32768 → Holds limit xs h → number_in x.1 ≡ Some (x.0 % 65536)
    → greatest_of xs < x.0 → x.0 < greatest_of xs + limit → t ≡ kept_at (places.Above (x.0 - greatest_of xs)) (x.0 % 65536) x.1 h → Holds limit (x ∷ xs) t
holds_above limit x xs h t some most before is up near left =
    let g : ℕ = greatest_of xs in
    let count : ℕ = x.0 - g in
    let rs : List Sent = raised h.limit count h.packets in
    let packets : t.packets ≡ with_bytes 0 x.1 rs = ap (λ (y : Past). y.packets) left in
    let top : greatest_of (x ∷ xs) ≡ x.0 = omega (arith, up) in
    let newest : t.newest ≡ greatest_of (x ∷ xs) % 65536 = ap (λ (y : Past). y.newest) left ∙ ap (λ (m : ℕ). m % 65536) (sym top) in
    let one : 0 < length rs = raised_some h.limit count h.packets (omega (arith, some, before.same)) (omega (arith, up)) in
    record {
      same = ap (λ (y : Past). y.limit) left ∙ before.same;
      few = omega (arith, ap length packets, length-set rs 0 (record (slice_index_or rs 0 no_packet) { bytes = x.1 }), length_raised h.limit count h.packets (omega (arith, before.few, before.same)), before.same);
      newest = newest;
      some = ap is_empty packets ∙ not_empty 0 x.1 rs one;
      holds = λ n a b.
          at_back t (greatest_of (x ∷ xs)) n newest a (omega (arith, b, most))
          ∙ (ap (λ (qs : List Sent). bytes_there (slice_get qs (greatest_of (x ∷ xs) - n))) packets
          ∙ by_number n (greatest_of (x ∷ xs) - n) one (omega (arith, top, a)) (omega (arith, b, top, some)));
    }
  where
    old : (n i j : ℕ) → x.0 ≡ n + i → i ≡ (x.0 - greatest_of xs) + j → x.0 < n + limit
        → bytes_there (slice_get (raised h.limit (x.0 - greatest_of xs) h.packets) i) ≡ latest n xs
    old n i j e f b =
        let at : greatest_of xs - n ≡ j = omega (arith, e, f, up) in
        ap bytes_there (ap (slice_get (raised h.limit (x.0 - greatest_of xs) h.packets)) f ∙ raised_old h.limit (x.0 - greatest_of xs) h.packets j (omega (arith, e, f, b, before.same)))
        ∙ (ap (λ (k : ℕ). bytes_there (slice_get h.packets k)) (sym at)
        ∙ (sym (at_back h (greatest_of xs) n before.newest (omega (arith, e, f, up)) (omega (arith, b, up, most)))
        ∙ before.holds n (omega (arith, e, f, up)) (omega (arith, b, up))))

    by_side : (n i : ℕ) (new : Bool) → ltb i (x.0 - greatest_of xs) ≡ new → x.0 ≡ n + i → x.0 < n + limit
        → bytes_there (slice_get (raised h.limit (x.0 - greatest_of xs) h.packets) i) ≡ latest n xs
    by_side n i true new e b =
        let l : i < x.0 - greatest_of xs = ltb-true i (x.0 - greatest_of xs) new in
        raised_new h.limit (x.0 - greatest_of xs) h.packets i (omega (arith, e, b, before.same)) l ∙ sym (latest_none n xs (omega (arith, e, l, up)))
    by_side n i false new e b =
        let l : x.0 - greatest_of xs ≤ i = ltb-false i (x.0 - greatest_of xs) new in
        old n i (i - (x.0 - greatest_of xs)) e (omega (arith, l)) b

    by_number : (n i : ℕ) → 0 < length (raised h.limit (x.0 - greatest_of xs) h.packets) → x.0 ≡ n + i → x.0 < n + limit
        → bytes_there (slice_get (with_bytes 0 x.1 (raised h.limit (x.0 - greatest_of xs) h.packets)) i) ≡ latest n (x ∷ xs)
    by_number n zero one e b =
        put_here 0 x.1 (raised h.limit (x.0 - greatest_of xs) h.packets) one ∙ (has_some x.1 (x.0 % 65536) is ∙ sym (latest_here n x xs (omega (arith, e))))
    by_number n (suc i) one e b =
        put_else 0 x.1 (raised h.limit (x.0 - greatest_of xs) h.packets) (suc i) (λ z. omega (arith, z))
        ∙ (by_side n (suc i) (ltb (suc i) (x.0 - greatest_of xs)) refl e b ∙ sym (latest_else n x xs (λ z. omega (arith, z, e))))

-- a packet at or below the highest number
holds_below : (limit : ℕ) (x : ℕ × List ℕ) (xs : List (ℕ × List ℕ)) (h t : Past) → 1 ≤ limit → limit ≤ 32768 → Holds limit xs h → number_in x.1 ≡ Some (x.0 % 65536)
    → x.0 ≤ greatest_of xs → greatest_of xs < x.0 + limit → t ≡ kept_at (places.Below (greatest_of xs - x.0)) (x.0 % 65536) x.1 h → Holds limit (x ∷ xs) t
holds_below limit x xs h t some most before is down near left =
    let k : ℕ = greatest_of xs - x.0 in
    let more : ℕ = suc k - length h.packets in
    let ls : List Sent = lowered more h.packets in
    let packets : t.packets ≡ with_bytes k x.1 ls = ap (λ (y : Past). y.packets) left in
    let top : greatest_of (x ∷ xs) ≡ greatest_of xs = omega (arith, down) in
    let newest : t.newest ≡ greatest_of (x ∷ xs) % 65536 = ap (λ (y : Past). y.newest) left ∙ (before.newest ∙ ap (λ (m : ℕ). m % 65536) (sym top)) in
    let count : length ls ≡ length h.packets + more = length_lowered more h.packets in
    let within : k < length ls = omega (arith, count) in
    record {
      same = ap (λ (y : Past). y.limit) left ∙ before.same;
      few = omega (arith, ap length packets, length-set ls k (record (slice_index_or ls k no_packet) { bytes = x.1 }), count, before.few, near, down);
      newest = newest;
      some = ap is_empty packets ∙ not_empty k x.1 ls (omega (arith, within));
      holds = λ n a b.
          at_back t (greatest_of (x ∷ xs)) n newest a (omega (arith, b, most))
          ∙ (ap (λ (qs : List Sent). bytes_there (slice_get qs (greatest_of (x ∷ xs) - n))) packets
          ∙ by_number n (greatest_of (x ∷ xs) - n) within (eqb_tells x.0 n) (omega (arith, top, a)) (omega (arith, b, top)));
    }
  where
    by_number : (n i : ℕ) → greatest_of xs - x.0 < length (lowered (suc (greatest_of xs - x.0) - length h.packets) h.packets)
        → ((eqb x.0 n ≡ true) × (x.0 ≡ n)) ⊎ ((eqb x.0 n ≡ false) × (x.0 ≢ n)) → greatest_of xs ≡ n + i → greatest_of xs < n + limit
        → bytes_there (slice_get (with_bytes (greatest_of xs - x.0) x.1 (lowered (suc (greatest_of xs - x.0) - length h.packets) h.packets)) i) ≡ latest n (x ∷ xs)
    by_number n i within (inl tells) e b =
        let at : i ≡ greatest_of xs - x.0 = omega (arith, e, tells.1) in
        ap (λ (j : ℕ). bytes_there (slice_get (with_bytes (greatest_of xs - x.0) x.1 (lowered (suc (greatest_of xs - x.0) - length h.packets) h.packets)) j)) at
        ∙ (put_here (greatest_of xs - x.0) x.1 (lowered (suc (greatest_of xs - x.0) - length h.packets) h.packets) within
        ∙ (has_some x.1 (x.0 % 65536) is ∙ sym (latest_here n x xs tells.1)))
    by_number n i within (inr tells) e b =
        let at : greatest_of xs - n ≡ i = omega (arith, e) in
        put_else (greatest_of xs - x.0) x.1 (lowered (suc (greatest_of xs - x.0) - length h.packets) h.packets) i (λ z. tells.1 (omega (arith, z, e, down)))
        ∙ (lowered_same (suc (greatest_of xs - x.0) - length h.packets) h.packets i
        ∙ (ap (λ (j : ℕ). bytes_there (slice_get h.packets j)) (sym at)
        ∙ (sym (at_back h (greatest_of xs) n before.newest (omega (arith, e)) (omega (arith, b, most)))
        ∙ (before.holds n (omega (arith, e)) b ∙ sym (latest_else n x xs tells.1)))))

one_more : (limit : ℕ) (x : ℕ × List ℕ) (xs : List (ℕ × List ℕ)) (mid t : Past) (kept : Kept) (side : Bool) → ltb (greatest_of xs) x.0 ≡ side → 1 ≤ limit → limit ≤ 32768 → Holds limit xs mid
    → number_in x.1 ≡ Some (x.0 % 65536) → greatest_of xs < x.0 + limit → x.0 < greatest_of xs + 32768 → Keeps mid x.1 kept t → Holds limit (x ∷ xs) t
one_more limit x xs mid t kept false side some most before is low high keeps =
    let g : ℕ = greatest_of xs in
    let down : x.0 ≤ g = ltb-false g x.0 side in
    let at : below mid (x.0 % 65536) ≡ g - x.0 = ap (λ (m : ℕ). (m + 65536 - x.0 % 65536) % 65536) before.newest ∙ back g x.0 down (omega (arith, low, most)) in
    let place : place_for mid (x.0 % 65536) ≡ places.Below (g - x.0) = is_below mid (x.0 % 65536) before.some (omega (arith, at, before.same, low, down, some)) ∙ ap places.Below at in
    holds_below limit x xs mid t some most before is down low (keeps_as mid t x.1 kept (x.0 % 65536) (places.Below (g - x.0)) is place keeps).1
one_more limit x xs mid t kept true side some most before is low high keeps =
    let g : ℕ = greatest_of xs in
    let up : g < x.0 = ltb-true g x.0 side in
    let far : below mid (x.0 % 65536) ≡ 65536 - (x.0 - g) = ap (λ (m : ℕ). (m + 65536 - x.0 % 65536) % 65536) before.newest ∙ round g x.0 up high in
    let at : above mid (x.0 % 65536) ≡ x.0 - g = ap (λ (m : ℕ). (x.0 % 65536 + 65536 - m) % 65536) before.newest ∙ ahead g x.0 up high in
    by_jump (ltb (x.0 - g) limit) refl up far at
  where
    by_jump : (near : Bool) → ltb (x.0 - greatest_of xs) limit ≡ near → greatest_of xs < x.0 → below mid (x.0 % 65536) ≡ 65536 - (x.0 - greatest_of xs)
        → above mid (x.0 % 65536) ≡ x.0 - greatest_of xs → Holds limit (x ∷ xs) t
    by_jump true near up far at =
        let l : x.0 - greatest_of xs < limit = ltb-true (x.0 - greatest_of xs) limit near in
        let place : place_for mid (x.0 % 65536) ≡ places.Above (x.0 - greatest_of xs) =
        is_above mid (x.0 % 65536) before.some (omega (arith, far, before.same, most, high, up)) (omega (arith, at, high, up)) (omega (arith, at, l, before.same)) ∙ ap places.Above at in
        holds_above limit x xs mid t some most before is up (omega (arith, l, up)) (keeps_as mid t x.1 kept (x.0 % 65536) (places.Above (x.0 - greatest_of xs)) is place keeps).1
    by_jump false near up far at =
        let l : limit ≤ x.0 - greatest_of xs = ltb-false (x.0 - greatest_of xs) limit near in
        let place : place_for mid (x.0 % 65536) ≡ places.Anew =
        is_far mid (x.0 % 65536) before.some (omega (arith, far, before.same, most, high, up)) (omega (arith, at, high, up)) (omega (arith, at, l, before.same)) in
        holds_first limit x xs mid t some most before.same is (inl (omega (arith, l, up))) (keeps_as mid t x.1 kept (x.0 % 65536) places.Anew is place keeps).1

all_hold : (h t : Past) (x : ℕ × List ℕ) (xs : List (ℕ × List ℕ)) → 1 ≤ h.limit → h.limit ≤ 32768 → h.packets ≡ [] → KeepsNear h (x ∷ xs) t → Holds h.limit (x ∷ xs) t
all_hold h t x [] some most none keeps =
    let mid : Past = keeps.0 in
    let same : mid ≡ h = keeps.2 in
    let empty : mid.packets ≡ [] = ap (λ (y : Past). y.packets) same ∙ none in
    holds_first h.limit x [] mid t some most (ap (λ (y : Past). y.limit) same) keeps.3 (inr refl)
    (keeps_as mid t x.1 keeps.1 (x.0 % 65536) places.Anew keeps.3 (is_first mid (x.0 % 65536) empty) keeps.5).1
all_hold h t x (y ∷ ys) some most none keeps =
    let before = all_hold h keeps.0 y ys some most none keeps.2 in
    one_more h.limit x (y ∷ ys) keeps.0 t keeps.1 (ltb (greatest_of (y ∷ ys)) x.0) refl some most before keeps.3 keeps.4.0 keeps.4.1 keeps.5

pub holds_latest : HoldsLatest
holds_latest h t [] n some most none keeps a b = rw keeps (rw none refl)
holds_latest h t (x ∷ xs) n some most none keeps a b = (all_hold h t x xs some most none keeps).holds n a b

-- In order

next_place : (h : Past) (n : ℕ) → h.newest < 65536 → n ≡ (h.newest + 1) % 65536 → (below h n ≡ 65535) × (above h n ≡ 1)
next_place h n small e = (omega (arith, small, e), omega (arith, small, e))

front : (limit : ℕ) (d : List ℕ) (ps : List Sent) → 1 ≤ limit → with_bytes 0 d (raised limit 1 ps) ≡ take limit (record { bytes = d; resent = None } ∷ ps)
front zero d ps some = absurd (omega (arith, some))
front (suc limit) d ps some = refl

alone : (limit : ℕ) (d : List ℕ) (ps : List Sent) → 1 ≤ limit → limit ≤ 1 → with_bytes 0 d (raised limit 1 []) ≡ take limit (record { bytes = d; resent = None } ∷ ps)
alone zero d ps some most = absurd (omega (arith, some))
alone (suc zero) d ps some most = refl
alone (suc (suc limit)) d ps some most = absurd (omega (arith, most))

module _ (h t : Past) (d : List ℕ) (kept : Kept) (n : ℕ) (some : 1 ≤ h.limit) (most : h.limit ≤ 32768) (small : h.newest < 65536) (numbered : number_in d ≡ Some n)
    (keeps : Keeps h d kept t) where
  abbrev IsNext : Type 0
  IsNext = (kept ≡ answers.Stored) × (t ≡ record h { newest = n; refused = None; packets = take h.limit (record { bytes = d; resent = None } ∷ h.packets) })

  next_as : (place : Place) (ps : List Sent) → place_for h n ≡ place → kept_by place ≡ answers.Stored → kept_at place n d h ≡ record h { newest = n; refused = None; packets = ps }
      → ps ≡ take h.limit (record { bytes = d; resent = None } ∷ h.packets) → IsNext
  next_as place ps is stored at same =
      let told = keeps_as h t d kept n place numbered is keeps in
      (told.0 ∙ stored, told.1 ∙ (at ∙ ap (λ (qs : List Sent). record h { newest = n; refused = None; packets = qs }) same))

  next_by : (near : Bool) → ltb 1 h.limit ≡ near → n ≡ (h.newest + 1) % 65536 → is_empty h.packets ≡ false → IsNext
  next_by true near e full =
      let at = next_place h n small e in
      let l : 1 < h.limit = ltb-true 1 h.limit near in
      let place : place_for h n ≡ places.Above 1 = is_above h n full (omega (arith, at.0, most)) (omega (arith, at.1)) (omega (arith, at.1, l)) ∙ ap places.Above at.1 in
      next_as (places.Above 1) (with_bytes 0 d (raised h.limit 1 h.packets)) place refl refl (front h.limit d h.packets some)
  next_by false near e full =
      let at = next_place h n small e in
      let l : h.limit ≤ 1 = ltb-false 1 h.limit near in
      let place : place_for h n ≡ places.Anew = is_far h n full (omega (arith, at.0, most)) (omega (arith, at.1)) (omega (arith, at.1, l)) in
      next_as places.Anew (with_bytes 0 d (raised h.limit 1 [])) place refl refl (alone h.limit d h.packets some l)

  next_first : h.packets ≡ [] → IsNext
  next_first none =
      next_as places.Anew (with_bytes 0 d (raised h.limit 1 [])) (is_first h n none) refl refl
      (front h.limit d [] some ∙ ap (λ (qs : List Sent). take h.limit (record { bytes = d; resent = None } ∷ qs)) (sym none))

  next_of : (ps : List Sent) → h.packets ≡ ps → (n ≡ (h.newest + 1) % 65536) ⊎ (h.packets ≡ []) → IsNext
  next_of [] is e = next_first is
  next_of (q ∷ qs) is (inl e) = next_by (ltb 1 h.limit) refl e (ap is_empty is)
  next_of (q ∷ qs) is (inr none) = next_first none

pub keeps_next : KeepsNext
keeps_next h t d kept n some most small numbered follows keeps = next_of h t d kept n some most small numbered keeps h.packets refl follows
