-- What the viewer's receiver gets in a run with one switch: the datagrams of the viewer's stream, each at its place.
use Rattle.std.proofs.Common.{◌≡◌, ◌∙◌, refl, sym, ap, subst, ℕ, zero, suc, ◌+◌, ◌-◌, ◌%◌, ◌<◌, ◌≤◌, max, List, [], ◌∷◌, ◌++◌, inl, inr, append-nil, append_assoc, length-append, Bool, true, false, cond, ltb, Option, Some, None, Result, Ok, drop, length, map, arith}
use Rattle.std.specs.Prelude.{◌⊎◌, slice_get, take}
use Rattle.std.specs.Option.{option_map}
use Rattle.std.proofs.lemmas.Bool.{lt-ltb}
use Rattle.std.proofs.lemmas.List.{length-map}
use Rattle.std.proofs.lemmas.Option.{same_Some, slice_get-map, slice_get_past, slice_get_within}
use Rattle.codec_payload_base.specs.declared.wire.Ticks.{Ticks}
use Rattle.codec_payload_buffer_runs.specs.Schedule.{Answer}
use Rattle.codec_payload_payloader.specs.Sending.{Sample}
use Rattle.codec_payload_receiver.specs.Sessions.{Session}
use Rattle.codec_payload_rtp.specs.RtpPackets.{Packet}
use Rattle.codec_payload_rtp.specs.RtpReading.{rtp_at}
use Rattle.codec_payload_rtp.specs.declared.rtp.RtpError.{RtpError}
use Rattle.codec_payload_sending.specs.Senders.{Sending}
use Rattle.codec_payload_sending_forward.specs.Forwarding.{Forward, IsWritten}
use Rattle.codec_payload_sending_forward.specs.declared.forwarder.Forwarded.{Forwarded}
use Rattle.codec_payload_sending_forward.specs.declared.forwarder.Forwarded.TheVariants as answers
use Rattle.codec_payload_datagram_runs.proofs.RepeatLemmas.{From}
use Rattle.codec_payload_datagram_runs.proofs.StepLemmas.{get_append}
use Rattle.codec_payload_datagram_runs.specs.HistoryReleases.{delivery_of}
use Rattle.codec_payload_datagram_runs.specs.Releases.{received_steps, sending_steps, times_sent}
use Rattle.codec_payload_datagram_runs.specs.RestartReleases.{next_above}
use Rattle.codec_payload_datagram_runs.specs.WireRuns.{Receipt, Runs, Wire}
use Rattle.codec_payload_datagram_runs.specs.declared.run.DatagramStep.{DatagramStep}
use Rattle.codec_payload_datagram_runs.specs.declared.run.DatagramStep.TheVariants as seen
use Rattle.codec_payload_datagram_runs.specs.declared.run.SentSample.{SentSample}
use Rattle.codec_payload_forward_runs.proofs.SwitchEvents.{DeliversOne, Happens, Viewer}
use Rattle.codec_payload_forward_runs.proofs.SwitchStreams.{seq_is}
use Rattle.codec_payload_forward_runs.specs.ForwardReleases.{forwarded_by, viewer_bytes, viewer_datagram, viewer_packet}
use Rattle.codec_payload_forward_runs.specs.ForwardRuns.{packet_read, written_by}
use Rattle.codec_payload_forward_runs.specs.LeaveReleases.{AreAt}
use Rattle.codec_payload_forward_runs.specs.SwitchReleases.{AreInPlace, Event, IsInStream, IsPacketAt, Writing, begun_with, cut_of, datagrams_of, delivers, ends, first_in, forwards, of_source, offsets_in, place_in, pops, start_of, wants, writing_of, writings, written_of}
use Rattle.codec_payload_forward_runs.specs.SwitchUnits.{places_of, stream_datagrams, viewed_steps}
use Rattle.codec_payload_forward_runs.specs.declared.switch_run.Source.{Source}
use Rattle.codec_payload_forward_runs.specs.declared.switch_run.Source.TheVariants as sources

-- Lists

pub get_take : (k n : ℕ) (xs : List (List ℕ)) (x : List ℕ) → k < n → slice_get xs k ≡ Some x → slice_get (take n xs) k ≡ Some x
get_take k zero xs x l there = absurd (omega (arith, l))
get_take k (suc n) [] x l there = absurd (cc)
get_take zero (suc n) (y ∷ ys) x l there = there
get_take (suc k) (suc n) (y ∷ ys) x l there = get_take k n ys x (omega (arith, l)) there

pub get_drop : (k n : ℕ) (xs : List (List ℕ)) (x : List ℕ) → n ≤ k → slice_get xs k ≡ Some x → slice_get (drop n xs) (k - n) ≡ Some x
get_drop k zero xs x l there = subst (λ (j : ℕ). slice_get xs j ≡ Some x) (omega arith) there
get_drop k (suc n) [] x l there = absurd (cc)
get_drop zero (suc n) (y ∷ ys) x l there = absurd (omega (arith, l))
get_drop (suc k) (suc n) (y ∷ ys) x l there = subst (λ (j : ℕ). slice_get (drop n ys) j ≡ Some x) (omega arith) (get_drop k n ys x (omega (arith, l)) there)

pub get_right : (xs ys : List (List ℕ)) (m : ℕ) → slice_get (xs ++ ys) (length xs + m) ≡ slice_get ys m
get_right [] ys m = let same : 0 + m ≡ m = omega arith in ap (slice_get ys) same
get_right (x ∷ xs) ys m = let same : suc (length xs) + m ≡ suc (length xs + m) = omega arith in ap (slice_get (x ∷ (xs ++ ys))) same ∙ get_right xs ys m

pub take_count : (n : ℕ) (xs : List (List ℕ)) → n ≤ length xs → length (take n xs) ≡ n
take_count zero xs l = refl
take_count (suc n) [] l = absurd (omega (arith, l))
take_count (suc n) (x ∷ xs) l = ap suc (take_count n xs (omega (arith, l)))

-- Places

module _ (first second : List (List ℕ)) (before after : Forward) (number cut start : ℕ) where
  abbrev InPlace : List Writing → List (List ℕ) → Type 0
  InPlace = AreInPlace first second before after number cut start

  -- how far the datagrams of a source are, after one that was written
  record Next (x y : Source) (k bound reached : ℕ) : Type 0 where
    next : ℕ
    low : next ≤ bound
    same : (ks : List ℕ) → next_above reached 0 (of_source x y k ++ ks) ≡ next_above next 0 ks

  next_one : (x y : Source) (k : ℕ) (p : Packet) (bound reached : ℕ) → length (datagrams_of x first second) ≡ bound → reached ≤ bound → IsPacketAt (datagrams_of y first second) k p → Next x y k bound reached
  next_one sources.First sources.First k p bound reached size low there =
      record { next = max reached (0 + k + 1); low = omega (arith, low, size, slice_get_within first k there.0 there.1); same = λ ks. refl }
  next_one sources.First sources.Second k p bound reached size low there = record { next = reached; low = low; same = λ ks. refl }
  next_one sources.Second sources.First k p bound reached size low there = record { next = reached; low = low; same = λ ks. refl }
  next_one sources.Second sources.Second k p bound reached size low there =
      record { next = max reached (0 + k + 1); low = omega (arith, low, size, slice_get_within second k there.0 there.1); same = λ ks. refl }

  -- the datagrams of a source that were written are datagrams of it
  all_sent : (source : Source) (bound : ℕ) (ws : List Writing) (bytes : List (List ℕ)) → length (datagrams_of source first second) ≡ bound → (reached : ℕ) → reached ≤ bound → InPlace ws bytes
      → next_above reached 0 (written_of source ws) ≤ bound
  all_sent source bound [] bytes size reached low are = low
  all_sent source bound (w ∷ ws) [] size reached low are = absurd are
  all_sent source bound (w ∷ ws) (b ∷ more) size reached low are =
      let n : Next source w.source w.datagram bound reached = next_one source w.source w.datagram are.0 bound reached size low are.1 in
      subst (λ (m : ℕ). m ≤ bound) (sym (n.same (written_of source ws))) (all_sent source bound ws more size n.next n.low are.5)

  pub cut_within : (ws : List Writing) (bytes : List (List ℕ)) → InPlace ws bytes → cut_of ws ≤ length first
  cut_within ws bytes are = all_sent sources.First (length first) ws bytes refl 0 (omega arith) are

  first_least : (reached : ℕ) (ks : List ℕ) → first_in ks ≤ next_above reached 0 ks
  first_least reached [] = omega arith
  first_least reached (k ∷ ks) = omega (arith, least (max reached (0 + k + 1)) ks)
    where
      least : (n : ℕ) (js : List ℕ) → n ≤ next_above n 0 js
      least n [] = omega arith
      least n (j ∷ js) = omega (arith, least (max n (0 + j + 1)) js)

  pub start_within : (ws : List Writing) (bytes : List (List ℕ)) → InPlace ws bytes → start_of ws ≤ length second
  start_within ws bytes are = omega (arith, first_least 0 (written_of sources.Second ws), all_sent sources.Second (length second) ws bytes refl 0 (omega arith) are)

  abbrev stream : List (List ℕ)
  stream = stream_datagrams cut start before after first second

  -- the datagram of a packet, as the viewer gets it
  datagram_is : (f : Forward) (d bytes : List ℕ) (p : Packet) → rtp_at d ≡ Ok p → IsWritten (viewer_packet f p) bytes → viewer_datagram f d ≡ bytes
  datagram_is f d bytes p is written = ap (λ (r : Result Packet RtpError). viewer_bytes f (packet_read r)) is ∙ sym written.0

  shown_at : (f : Forward) (ds : List (List ℕ)) (k : ℕ) (d bytes : List ℕ) → slice_get ds k ≡ Some d → viewer_datagram f d ≡ bytes → slice_get (map (viewer_datagram f) ds) k ≡ Some bytes
  shown_at f ds k d bytes there is = slice_get-map (viewer_datagram f) ds k ∙ (ap (option_map (viewer_datagram f)) there ∙ ap (λ (b : List ℕ). Some b) is)

  one_at : (source : Source) (k : ℕ) (p : Packet) (bytes : List ℕ) → cut ≤ length first → IsPacketAt (datagrams_of source first second) k p → IsWritten (viewer_packet (offsets_in source before after) p) bytes
      → IsInStream source cut start k → slice_get stream (place_in source cut start k) ≡ Some bytes
  one_at sources.First k p bytes low there written within =
      get_append (map (viewer_datagram before) (take cut first)) (map (viewer_datagram after) (drop start second)) k bytes
      (shown_at before (take cut first) k there.0 bytes (get_take k cut first there.0 within there.1) (datagram_is before there.0 bytes p there.2 written))
  one_at sources.Second k p bytes low there written within =
      let size : length (map (viewer_datagram before) (take cut first)) ≡ cut = length-map (take cut first) (viewer_datagram before) ∙ take_count cut first low in
      ap (λ (n : ℕ). slice_get stream (n + (k - start))) (sym size)
      ∙ (get_right (map (viewer_datagram before) (take cut first)) (map (viewer_datagram after) (drop start second)) (k - start)
      ∙ shown_at after (drop start second) (k - start) there.0 bytes (get_drop k start second there.0 within there.1) (datagram_is after there.0 bytes p there.2 written))

  pub written_at : (ws : List Writing) (bytes : List (List ℕ)) → cut ≤ length first → InPlace ws bytes → AreAt stream bytes (places_of cut start ws)
  written_at [] [] low are = tt
  written_at [] (b ∷ more) low are = absurd are
  written_at (w ∷ ws) [] low are = absurd are
  written_at (w ∷ ws) (b ∷ more) low are = (one_at w.source w.datagram are.0 b low are.1 are.2 are.3, written_at ws more low are.5)

  -- The numbers of both sources, as the viewer gets them, join at the switch

  module _ (low_first low_second : ℕ) (from_first : From low_first first) (from_second : From low_second second) where
    abbrev NumberOf : Source → Type 0
    NumberOf sources.First = (low_first + before.numbers.offset) % 65536 ≡ number % 65536
    NumberOf sources.Second = (low_second + start + after.numbers.offset) % 65536 ≡ (number + cut) % 65536

    number_of : (source : Source) (k : ℕ) (p : Packet) → IsPacketAt (datagrams_of source first second) k p → IsInStream source cut start k
        → (viewer_packet (offsets_in source before after) p).header.sequence_number ≡ (number + place_in source cut start k) % 65536 → NumberOf source
    number_of sources.First k p there within is = omega (arith, seq_is low_first k first p from_first there, is)
    number_of sources.Second k p there within is = omega (arith, seq_is low_second k second p from_second there, is, within)

    abbrev IsAmong : Source → List Source → Type 0
    IsAmong source [] = ⊥
    IsAmong source (x ∷ xs) = (x ≡ source) ⊎ IsAmong source xs

    among : (source : Source) (ws : List Writing) (bytes : List (List ℕ)) → InPlace ws bytes → IsAmong source (begun_with ws) → NumberOf source
    among source [] bytes are begun = absurd begun
    among source (w ∷ ws) [] are begun = absurd are
    among source (w ∷ ws) (b ∷ more) are begun = by w.begins begun (among source ws more are.5)
      where
        by : (begins : Bool) → IsAmong source (cond begins (w.source ∷ begun_with ws) (begun_with ws)) → (IsAmong source (begun_with ws) → NumberOf source) → NumberOf source
        by true (inl here) rest = subst NumberOf here (number_of w.source w.datagram are.0 are.1 are.3 are.4)
        by true (inr later) rest = rest later
        by false later rest = rest later

    pub join : (ws : List Writing) (bytes : List (List ℕ)) → InPlace ws bytes → begun_with ws ≡ sources.First ∷ sources.Second ∷ []
        → (low_first + cut + before.numbers.offset) % 65536 ≡ (low_second + start + after.numbers.offset) % 65536
    join ws bytes are begun =
        let one : NumberOf sources.First = among sources.First ws bytes are (subst (IsAmong sources.First) (sym begun) (inl refl)) in
        let two : NumberOf sources.Second = among sources.Second ws bytes are (subst (IsAmong sources.Second) (sym begun) (inr (inl refl))) in
        omega (arith, one, two)

-- What the receiver does

pub at_both : (datagrams bytes : List (List ℕ)) (places : List ℕ) (j : ℕ) (b : List ℕ) → AreAt datagrams bytes places → slice_get bytes j ≡ Some b → (k : ℕ) × (slice_get places j ≡ Some k) × (slice_get datagrams k ≡ Some b)
at_both datagrams [] places j b are there = absurd (cc)
at_both datagrams (c ∷ bytes) [] j b are there = absurd are
at_both datagrams (c ∷ bytes) (k ∷ places) zero b are there = (k, refl, are.0 ∙ there)
at_both datagrams (c ∷ bytes) (k ∷ places) (suc j) b are there = at_both datagrams bytes places j b are.1 there

pub at_left : (xs ys : List ℕ) (j k : ℕ) → j < length xs → slice_get (xs ++ ys) j ≡ Some k → slice_get xs j ≡ Some k
at_left [] ys j k l there = absurd (omega (arith, l))
at_left (x ∷ xs) ys zero k l there = there
at_left (x ∷ xs) ys (suc j) k l there = at_left xs ys j k (omega (arith, l)) there

at_count : (datagrams bytes : List (List ℕ)) (places : List ℕ) → AreAt datagrams bytes places → length places ≡ length bytes
at_count datagrams [] [] are = refl
at_count datagrams [] (k ∷ places) are = absurd are
at_count datagrams (b ∷ bytes) [] are = absurd are
at_count datagrams (b ∷ bytes) (k ∷ places) are = ap suc (at_count datagrams bytes places are.1)

places_append : (cut start : ℕ) (ws vs : List Writing) → places_of cut start (ws ++ vs) ≡ places_of cut start ws ++ places_of cut start vs
places_append cut start [] vs = refl
places_append cut start (w ∷ ws) vs = ap (λ (ks : List ℕ). place_in w.source cut start w.datagram ∷ ks) (places_append cut start ws vs)

one_place : (cut start : ℕ) (source : Source) (k : ℕ) (answer : Forwarded) → places_of cut start (writing_of source k answer) ≡ forwarded_by answer (place_in source cut start k)
one_place cut start source k answers.Began = refl
one_place cut start source k answers.Written = refl
one_place cut start source k answers.NoKeyframe = refl
one_place cut start source k answers.OtherSource = refl
one_place cut start source k answers.TooOld = refl
one_place cut start source k answers.LeftOut = refl
one_place cut start source k answers.Filled = refl

one_size : (answer : Forwarded) (place : ℕ) (bytes : List ℕ) → length (forwarded_by answer place) ≡ length (written_by answer bytes)
one_size answers.Began place bytes = refl
one_size answers.Written place bytes = refl
one_size answers.NoKeyframe place bytes = refl
one_size answers.OtherSource place bytes = refl
one_size answers.TooOld place bytes = refl
one_size answers.LeftOut place bytes = refl
one_size answers.Filled place bytes = refl

module _ (all : List Sample) (first second : List (List ℕ)) (cut start : ℕ) (sending : Sending) (datagrams : List (List ℕ)) (entries : List SentSample) where
  abbrev Lasts : List Event → Viewer → Viewer → Type 0
  Lasts = Happens first second

  -- what was written stays
  abbrev IsLonger : List (List ℕ) → List (List ℕ) → Type 0
  IsLonger before after = (new : List (List ℕ)) × (after ≡ before ++ new)

  longer_same : (before mid after : List (List ℕ)) → mid ≡ before → IsLonger mid after → IsLonger before after
  longer_same before mid after same longer = subst (λ (xs : List (List ℕ)). IsLonger xs after) same longer

  delivered_written : (o : Option (List ℕ)) (now : Ticks) (v w : Viewer) → DeliversOne o now v w → w.written ≡ v.written
  delivered_written None now v w same = ap (λ (x : Viewer). x.written) same
  delivered_written (Some bytes) now v w done = ap (λ (x : Viewer). x.written) done.3

  longer : (es : List Event) (v w : Viewer) → Lasts es v w → IsLonger v.written w.written
  longer [] v w run = ([], ap (λ (x : Viewer). x.written) run ∙ sym (append-nil v.written))
  longer (wants ssrc ∷ later) v w run = longer_same v.written run.0.written w.written (ap (λ (x : Viewer). x.written) run.1) (longer later run.0 w run.2)
  longer (forwards source k answer ∷ later) v w run =
      let rest : IsLonger run.0.written w.written = longer later run.0 w run.2 in
      let new : List (List ℕ) = written_by answer run.1.bytes in
      (new ++ rest.0, rest.1 ∙ (ap (λ (x : Viewer). x.written ++ rest.0) run.1.is ∙ append_assoc v.written new rest.0))
  longer (delivers j now ∷ later) v w run = longer_same v.written run.0.written w.written (delivered_written (slice_get v.written j) now v run.0 run.1) (longer later run.0 w run.2)
  longer (pops now ∷ later) v w run = longer_same v.written run.0.written w.written (ap (λ (x : Viewer). x.written) run.1.4) (longer later run.0 w run.2)
  longer (ends ∷ later) v w run = longer_same v.written run.0.written w.written (ap (λ (x : Viewer). x.written) run.1.2) (longer later run.0 w run.2)

  -- the run over one hop, after all was sent
  abbrev pub viewed : Viewer → List Receipt → Wire
  viewed v receipts = record { sending = sending; session = v.session; datagrams = datagrams; sends = entries; receipts = receipts; pops = v.pops }

  pub record Views (es : List Event) (places : List ℕ) (v w : Viewer) (receipts : List Receipt) : Type 0 where
    pub end : List Receipt
    pub runs : Runs all (viewed_steps cut start places es) (viewed v receipts) (viewed w end)

  -- a state of the run: `places` are the places of what was written so far
  pub record IsPlaced (es : List Event) (places : List ℕ) (v w : Viewer) : Type 0 where
    pub whole : AreAt datagrams w.written (places ++ places_of cut start (writings es))
    pub size : length places ≡ length v.written

  same_views : (es : List Event) (places : List ℕ) (v mid w : Viewer) (receipts : List Receipt) → mid.session ≡ v.session → mid.pops ≡ v.pops → Views es places mid w receipts → Views es places v w receipts
  same_views es places v mid w receipts session pops_are rest = record {
    end = rest.end;
    runs = subst (λ (s : Session). Runs all (viewed_steps cut start places es) (record (viewed v receipts) { session = s }) (viewed w rest.end)) session
        (subst (λ (ps : List Answer). Runs all (viewed_steps cut start places es) (record (viewed mid receipts) { pops = ps }) (viewed w rest.end)) pops_are rest.runs);
  }

  one_delivery : (j : ℕ) (now : Ticks) (later : List Event) (places : List ℕ) (v mid w : Viewer) (receipts : List Receipt) (o : Option (List ℕ)) → slice_get v.written j ≡ o → IsPlaced (delivers j now ∷ later) places v w
      → IsLonger v.written w.written → DeliversOne o now v mid → ((more : List Receipt) → Views later places mid w more) → Views (delivers j now ∷ later) places v w receipts
  one_delivery j now later places v mid w receipts None none at longer same rest =
      let past : slice_get places j ≡ None = none_past places j (omega (arith, at.size, past_all v.written j none)) in
      let r : Views later places v w receipts = subst (λ (x : Viewer). Views later places x w receipts) same (rest receipts) in
      record { end = r.end; runs = rw past r.runs }
    where
      past_all : (xs : List (List ℕ)) (j : ℕ) → slice_get xs j ≡ None → length xs ≤ j
      past_all [] j none = omega arith
      past_all (x ∷ xs) zero none = absurd (cc)
      past_all (x ∷ xs) (suc j) none = omega (arith, past_all xs j none)

      none_past : (ks : List ℕ) (j : ℕ) → length ks ≤ j → slice_get ks j ≡ None
      none_past ks j l = slice_get_past ks j l
  one_delivery j now later places v mid w receipts (Some bytes) there at longer done rest =
      let l : j < length places = omega (arith, at.size, slice_get_within v.written j bytes there) in
      let whole : slice_get w.written j ≡ Some bytes = ap (λ (bs : List (List ℕ)). slice_get bs j) longer.1 ∙ get_append v.written longer.0 j bytes there in
      let copy = at_both datagrams w.written (places ++ places_of cut start (writings later)) j bytes at.whole whole in
      let place : slice_get places j ≡ Some copy.0 = at_left places (places_of cut start (writings later)) j copy.0 l copy.1 in
      let more : List Receipt = receipts ++ done.0 ∷ [] in
      let r : Views later places (record v { session = done.1 }) w more = subst (λ (x : Viewer). Views later places x w more) done.3 (rest more) in
      record { end = r.end; runs = rw place (viewed (record v { session = done.1 }) more, rw copy.2 (done.0, done.1, done.2, refl), r.runs) }

  pub views : (es : List Event) (places : List ℕ) (v w : Viewer) (receipts : List Receipt) → IsPlaced es places v w → Lasts es v w → Views es places v w receipts
  views [] places v w receipts at run = record { end = receipts; runs = ap (λ (x : Viewer). viewed x receipts) run }
  views (wants ssrc ∷ later) places v w receipts at run =
      let rest : Views later places run.0 w receipts =
      views later places run.0 w receipts (record { whole = at.whole; size = at.size ∙ sym (ap (λ (x : Viewer). length x.written) run.1) }) run.2 in
      let r : Views later places v w receipts = same_views later places v run.0 w receipts (ap (λ (x : Viewer). x.session) run.1) (ap (λ (x : Viewer). x.pops) run.1) rest in
      record { end = r.end; runs = r.runs }
  views (forwards source k answer ∷ later) places v w receipts at run =
      let place : ℕ = place_in source cut start k in
      let next : List ℕ = places ++ forwarded_by answer place in
      let all_are : places ++ places_of cut start (writing_of source k answer ++ writings later) ≡ next ++ places_of cut start (writings later) =
      ap (λ (ks : List ℕ). places ++ ks) (places_append cut start (writing_of source k answer) (writings later) ∙ ap (λ (ks : List ℕ). ks ++ places_of cut start (writings later)) (one_place cut start source k answer))
      ∙ sym (append_assoc places (forwarded_by answer place) (places_of cut start (writings later))) in
      let count : length next ≡ length run.0.written = omega (
        arith,
        length-append places (forwarded_by answer place),
        at.size,
        one_size answer place run.1.bytes,
        ap (λ (x : Viewer). length x.written) run.1.is,
        length-append v.written (written_by answer run.1.bytes),
      ) in
      let rest : Views later next run.0 w receipts = views later next run.0 w receipts (record { whole = subst (AreAt datagrams w.written) all_are at.whole; size = count }) run.2 in
      let r : Views later next v w receipts = same_views later next v run.0 w receipts (ap (λ (x : Viewer). x.session) run.1.is) (ap (λ (x : Viewer). x.pops) run.1.is) rest in
      record { end = r.end; runs = r.runs }
  views (delivers j now ∷ later) places v w receipts at run =
      let same : run.0.written ≡ v.written = delivered_written (slice_get v.written j) now v run.0 run.1 in
      one_delivery j now later places v run.0 w receipts (slice_get v.written j) refl at (longer (delivers j now ∷ later) v w run) run.1
      (λ more. views later places run.0 w more (record { whole = at.whole; size = at.size ∙ sym (ap length same) }) run.2)
  views (pops now ∷ later) places v w receipts at run =
      let mid : Viewer = record v { session = run.1.1; pops = v.pops ++ run.1.0 ∷ [] } in
      let rest : Views later places run.0 w receipts =
      views later places run.0 w receipts (record { whole = at.whole; size = at.size ∙ sym (ap (λ (x : Viewer). length x.written) run.1.4) }) run.2 in
      let r : Views later places mid w receipts = subst (λ (x : Viewer). Views later places x w receipts) run.1.4 rest in
      record { end = r.end; runs = (viewed mid receipts, (run.1.0, run.1.1, run.1.2, run.1.3, refl), r.runs) }
  views (ends ∷ later) places v w receipts at run =
      let mid : Viewer = record v { session = run.1.0 } in
      let rest : Views later places run.0 w receipts =
      views later places run.0 w receipts (record { whole = at.whole; size = at.size ∙ sym (ap (λ (x : Viewer). length x.written) run.1.2) }) run.2 in
      let r : Views later places mid w receipts = subst (λ (x : Viewer). Views later places x w receipts) run.1.2 rest in
      record { end = r.end; runs = (viewed mid receipts, (run.1.0, run.1.1, refl), r.runs) }

  pub views_all : (es : List Event) (v w : Viewer) → v.written ≡ [] → AreAt datagrams w.written (places_of cut start (writings es)) → Lasts es v w → Views es [] v w []
  views_all es v w none whole run = views es [] v w [] (record { whole = whole; size = sym (ap length none) }) run

-- The steps of the receiver send nothing, and name only datagrams of the stream

abbrev pub AllUnder : ℕ → List ℕ → Type 0
AllUnder bound [] = Unit {0}
AllUnder bound (k ∷ ks) = (k < bound) × AllUnder bound ks

pub under_at : (bound : ℕ) (ks : List ℕ) (j k : ℕ) → AllUnder bound ks → slice_get ks j ≡ Some k → k < bound
under_at bound [] j k under there = absurd (cc)
under_at bound (n ∷ ks) zero k under there = omega (arith, under.0, same_Some n k there)
under_at bound (n ∷ ks) (suc j) k under there = under_at bound ks j k under.1 there

pub under_left : (bound : ℕ) (ks js : List ℕ) → AllUnder bound (ks ++ js) → AllUnder bound ks
under_left bound [] js under = tt
under_left bound (k ∷ ks) js under = (under.0, under_left bound ks js under.1)

pub places_under : (datagrams bytes : List (List ℕ)) (places : List ℕ) → AreAt datagrams bytes places → AllUnder (length datagrams) places
places_under datagrams [] [] are = tt
places_under datagrams [] (k ∷ places) are = absurd are
places_under datagrams (b ∷ bytes) [] are = absurd are
places_under datagrams (b ∷ bytes) (k ∷ places) are = (slice_get_within datagrams k b are.0, places_under datagrams bytes places are.1)

module _ (all : List Sample) (cut start bound : ℕ) where
  received_delivery : (o : Option ℕ) (now : Ticks) (later : List DatagramStep) → ((k : ℕ) → o ≡ Some k → k < bound) → received_steps all bound later [] ≡ later
      → received_steps all bound (delivery_of o now ++ later) [] ≡ delivery_of o now ++ later
  received_delivery None now later low rest = rest
  received_delivery (Some k) now later low rest =
      let there : ltb k bound ≡ true = lt-ltb k bound (low k refl) in
      ap (λ (b : Bool). cond b (seen.Deliver k now ∷ received_steps all bound later []) (received_steps all bound later [])) there ∙ ap (λ (ss : List DatagramStep). seen.Deliver k now ∷ ss) rest

  received : (es : List Event) (places : List ℕ) → AllUnder bound (places ++ places_of cut start (writings es)) → received_steps all bound (viewed_steps cut start places es) [] ≡ viewed_steps cut start places es
  received [] places under = refl
  received (wants ssrc ∷ later) places under = received later places under
  received (forwards source k answer ∷ later) places under =
      let place : ℕ = place_in source cut start k in
      received later (places ++ forwarded_by answer place)
      (subst (AllUnder bound)
      (ap (λ (ks : List ℕ). places ++ ks) (places_append cut start (writing_of source k answer) (writings later) ∙ ap (λ (ks : List ℕ). ks ++ places_of cut start (writings later)) (one_place cut start source k answer))
      ∙ sym (append_assoc places (forwarded_by answer place) (places_of cut start (writings later)))) under)
  received (delivers j now ∷ later) places under =
      received_delivery (slice_get places j) now (viewed_steps cut start places later)
      (λ k there. under_at bound places j k (under_left bound places (places_of cut start (writings later)) under) there) (received later places under)
  received (pops now ∷ later) places under = ap (λ (ss : List DatagramStep). seen.Pop now ∷ ss) (received later places under)
  received (ends ∷ later) places under = ap (λ (ss : List DatagramStep). seen.Finish ∷ ss) (received later places under)

  pub received_all : (datagrams bytes : List (List ℕ)) (es : List Event) → length datagrams ≡ bound → AreAt datagrams bytes (places_of cut start (writings es))
      → received_steps all bound (viewed_steps cut start [] es) [] ≡ viewed_steps cut start [] es
  received_all datagrams bytes es size are = received es [] (subst (λ (n : ℕ). AllUnder n (places_of cut start (writings es))) size (places_under datagrams bytes (places_of cut start (writings es)) are))

pub sends_none : (mtu cut start : ℕ) (es : List Event) (places : List ℕ) → sending_steps mtu (viewed_steps cut start places es) ≡ []
sends_none mtu cut start [] places = refl
sends_none mtu cut start (wants ssrc ∷ later) places = sends_none mtu cut start later places
sends_none mtu cut start (forwards source k answer ∷ later) places = sends_none mtu cut start later (places ++ forwarded_by answer (place_in source cut start k))
sends_none mtu cut start (delivers j now ∷ later) places = by (slice_get places j) (sends_none mtu cut start later places)
  where
    by : (o : Option ℕ) → sending_steps mtu (viewed_steps cut start places later) ≡ [] → sending_steps mtu (delivery_of o now ++ viewed_steps cut start places later) ≡ []
    by None rest = rest
    by (Some k) rest = rest
sends_none mtu cut start (pops now ∷ later) places = sends_none mtu cut start later places
sends_none mtu cut start (ends ∷ later) places = sends_none mtu cut start later places

pub times_none : (rate : ℕ) (all : List Sample) (cut start : ℕ) (es : List Event) (places : List ℕ) → times_sent rate all (viewed_steps cut start places es) [] ≡ []
times_none rate all cut start [] places = refl
times_none rate all cut start (wants ssrc ∷ later) places = times_none rate all cut start later places
times_none rate all cut start (forwards source k answer ∷ later) places = times_none rate all cut start later (places ++ forwarded_by answer (place_in source cut start k))
times_none rate all cut start (delivers j now ∷ later) places = by (slice_get places j) (times_none rate all cut start later places)
  where
    by : (o : Option ℕ) → times_sent rate all (viewed_steps cut start places later) [] ≡ [] → times_sent rate all (delivery_of o now ++ viewed_steps cut start places later) [] ≡ []
    by None rest = rest
    by (Some k) rest = rest
times_none rate all cut start (pops now ∷ later) places = times_none rate all cut start later places
times_none rate all cut start (ends ∷ later) places = times_none rate all cut start later places
