-- What a forwarder that leaves packets out writes: each written datagram has a number by its place among the datagrams that were not left
-- out.
use Rattle.std.proofs.Common.{◌||◌, ◌&&◌, eqb, ◌≡◌, ◌∙◌, refl, sym, ap, subst, ℕ, suc, ◌+◌, ◌-◌, ◌*◌, ◌%◌, ◌^◌, ◌<◌, ◌≤◌, ◌⊎◌, inl, inr, List, [], ◌∷◌, ◌++◌, append-nil, length, Bool, true, false, cond, ltb, Option, Some, None, Ok, arith}
use Rattle.std.specs.Prelude.{slice_get}
use Rattle.std.proofs.lemmas.Bool.{eq-eqb, le-ltb, lt-ltb, lt-leb}
use Rattle.codec_payload_rtp.specs.RtpPackets.{Packet, packet_bytes}
use Rattle.codec_payload_rtp.specs.RtpReading.{rtp_at}
use Rattle.codec_payload_sending_forward.specs.Forwarding.{Forward, Forwards, Leaves, after_begin, after_next, closing_id, first_packet, ids_in, ids_left, ids_when, is_source, next_packet, number_in, offsets_for, packet_under, payload_for, sent_packet, ticks_between}
use Rattle.codec_payload_base.specs.declared.wire.Codec.{Codec}
use Rattle.codec_payload_sending_forward.specs.Ids.{Ids, id_to_leave, offsets_at, offsets_switched, picture_closed}
use Rattle.codec_payload_sending_forward.specs.declared.ids.PayloadIds.{PayloadIds}
use Rattle.codec_payload_forward_runs.proofs.ViewerLemmas.{ids_stay, late_leaving, left_stay, switched_none, switched_to}
use Rattle.codec_payload_sending_forward.specs.NumberRuns.{Call, Stretch, after_call, map_after, number_of, packet, stretch_after}
use Rattle.codec_payload_sending_forward.specs.Numbers.{AllBelow, Falls, Numbers, above, after_packet, begun, below, closed, is_in, is_too_old, next_number, placed, sent_as}
use Rattle.codec_payload_sending_forward.specs.declared.forwarder.Forwarded.{Forwarded}
use Rattle.codec_payload_sending_forward.specs.declared.forwarder.Forwarded.TheVariants as answers
use Rattle.codec_payload_sending_forward.specs.declared.forwarder.ForwardSettings.{ForwardSettings}
use Rattle.codec_payload_sending_forward.specs.declared.renumbering.Placed.TheVariants as places
use Rattle.codec_payload_sending_forward.specs.declared.ids.IdOffsets.{IdOffsets}
use Rattle.codec_payload_sending_forward.specs.declared.times.Retiming.{Retiming}
use Rattle.codec_payload_base.specs.Extended.{nearest}
use Rattle.codec_payload_sending_forward.proofs.MapLemmas.{young_by}
use Rattle.codec_payload_sending_forward.proofs.NumberLemmas.{Order, all_below_less, less, more, not_in, order, same}
use Rattle.codec_payload_sending_forward.proofs.NumberRunLemmas.{renumbers, sends_given}
use Rattle.codec_payload_datagram_runs.specs.Releases.{StayWithin}
use Rattle.codec_payload_forward_runs.proofs.LeaveIds.{IdsHold, IsTop, Since, Tracks, closed_is, closed_leaving, ids_closed, ids_open, ids_same, is_moved, leaving_at, left_top, offsets_since, open_is, payload_at, payload_same, sent_leaving, sent_top}
use Rattle.codec_payload_forward_runs.proofs.LeaveLists.{AllAbove, AreGone, below_gone, below_higher, below_next, few_above, in_gone, in_higher, near_number}
use Rattle.codec_payload_forward_runs.specs.ForwardReleases.{forwarded_by}
use Rattle.codec_payload_forward_runs.specs.ForwardRuns.{written_by}
use Rattle.codec_payload_forward_runs.specs.LeaveReleases.{ComeNear, Offsets, came_by, fills, gone_by, ids_at, place_of}
use Rattle.codec_payload_forward_runs.specs.LeaveRuns.{filled_by}

-- The map of numbers

is_placed : (m : Numbers) (n : ℕ) (old out : Bool) → is_too_old m n ≡ old → is_in n m.left_out ≡ out
    → placed m n true ≡ cond old places.TooOld (cond out places.LeftOut (places.Sent (sent_as m n)))
is_placed m n old out e f = rw (e, f) refl

-- a packet that is sent is young, and was not left out
sent_young : (m : Numbers) (n sent : ℕ) → placed m n true ≡ places.Sent sent → (is_too_old m n ≡ false) × (is_in n m.left_out ≡ false)
sent_young m n sent is = by (is_too_old m n) refl (is_in n m.left_out) refl
  where
    by : (old : Bool) → is_too_old m n ≡ old → (out : Bool) → is_in n m.left_out ≡ out → (is_too_old m n ≡ false) × (is_in n m.left_out ≡ false)
    by true e out f = absurd (let none : places.TooOld ≡ places.Sent sent = sym (is_placed m n true out e f) ∙ is in cc)
    by false e true f = absurd (let none : places.LeftOut ≡ places.Sent sent = sym (is_placed m n false true e f) ∙ is in cc)
    by false e false f = (e, f)

-- one that was left out is young
left_young : (m : Numbers) (n : ℕ) → placed m n true ≡ places.LeftOut → (is_too_old m n ≡ false) × (is_in n m.left_out ≡ true)
left_young m n is = by (is_too_old m n) refl (is_in n m.left_out) refl
  where
    by : (old : Bool) → is_too_old m n ≡ old → (out : Bool) → is_in n m.left_out ≡ out → (is_too_old m n ≡ false) × (is_in n m.left_out ≡ true)
    by true e out f = absurd (let none : places.TooOld ≡ places.LeftOut = sym (is_placed m n true out e f) ∙ is in cc)
    by false e true f = (e, f)
    by false e false f = absurd (let none : places.Sent (sent_as m n) ≡ places.LeftOut = sym (is_placed m n false false e f) ∙ is in cc)

placed_old : (m : Numbers) (n : ℕ) → placed m n true ≡ places.TooOld → is_too_old m n ≡ true
placed_old m n is = by (is_too_old m n) refl (is_in n m.left_out) refl
  where
    by : (old : Bool) → is_too_old m n ≡ old → (out : Bool) → is_in n m.left_out ≡ out → is_too_old m n ≡ true
    by true e out f = e
    by false e true f = absurd (let none : places.LeftOut ≡ places.TooOld = sym (is_placed m n false true e f) ∙ is in cc)
    by false e false f = absurd (let none : places.Sent (sent_as m n) ≡ places.TooOld = sym (is_placed m n false false e f) ∙ is in cc)

-- a packet above all others is young
above_young : (m : Numbers) (n : ℕ) → IsTop m → m.highest < n → is_too_old m n ≡ false
above_young m n top l = rw (le-ltb n m.first (omega (arith, top.0, l)), lt-leb 32768 (m.highest - n) (omega (arith, l))) refl

old_low : (m : Numbers) (n : ℕ) → IsTop m → is_too_old m n ≡ true → n ≤ m.highest
old_low m n top old = by (order n m.highest)
  where
    by : Order n m.highest → n ≤ m.highest
    by (less l) = omega (arith, l)
    by (same l) = omega (arith, l)
    by (more l) = absurd (let young : is_too_old m n ≡ false = above_young m n top l in cc)

left_low : (m : Numbers) (n : ℕ) → IsTop m → is_in n m.left_out ≡ true → n ≤ m.highest
left_low m n top out = by (order n m.highest)
  where
    by : Order n m.highest → n ≤ m.highest
    by (less l) = omega (arith, l)
    by (same l) = omega (arith, l)
    by (more l) = absurd (let none : is_in n m.left_out ≡ false = not_in n m.left_out (all_below_less (suc m.highest) n m.left_out (omega (arith, l)) top.1) in cc)

-- the map after a packet
low_same : (m : Numbers) (n : ℕ) (wanted : Bool) → n ≤ m.highest → after_packet n wanted m ≡ m
low_same m n wanted l = by (is_too_old m n) refl
  where
    by : (old : Bool) → is_too_old m n ≡ old → after_packet n wanted m ≡ m
    by true e = rw e refl
    by false e = rw (e, le-ltb m.highest n l) refl

top_sent : (m : Numbers) (n : ℕ) → IsTop m → m.highest < n → after_packet n true m ≡ record m { highest = n }
top_sent m n top l = rw (above_young m n top l, lt-ltb m.highest n l) refl

top_left : (m : Numbers) (n : ℕ) → IsTop m → m.highest < n → after_packet n false m ≡ closed n m
top_left m n top l = rw (above_young m n top l, lt-ltb m.highest n l) refl

-- ---- since the forwarder began

-- A forwarder that has begun with the source. The datagrams come with numbers from `low` on; `gone` were left out, and `high` is the
-- highest index so far. `steady` says that there are no ids that close up; else `id_of` has the id of each datagram
pub record IsOn (ssrc low : ℕ) (steady : Bool) (id_of : ℕ → ℕ) (since : Since) (high : ℕ) (f : Forward) (gone : List ℕ) : Type 0 where
  pub source : is_source f.source ssrc ≡ true
  pub base_is : since.base ≡ 65536 + (low + since.begin) % 65536
  pub calls : List Call
  pub numbers : f.numbers ≡ map_after since.base since.start calls
  pub among : List ℕ
  pub highest : ℕ
  pub stretch : stretch_after since.base since.start calls ≡ record { first = since.base; start = since.start; highest = highest; gone = among }
  pub are_gone : AreGone since.begin since.base among gone
  pub high_is : highest + since.begin ≡ high + since.base
  pub highest_is : f.numbers.highest ≡ highest
  pub top : IsTop f.numbers
  pub from : since.begin ≤ high
  pub small : high < 2 ^ 63
  pub falls : Falls gone
  pub within : AllBelow (suc high) gone
  pub above : AllAbove since.begin gone
  pub ids : steady ≡ false → IdsHold since f.ids f.numbers gone
  pub pictures : AllBelow (suc high) since.pictures
  pub tracks : steady ≡ false → Tracks id_of gone since.highs since.pictures
  pub leaving : steady ≡ false → f.ids.leaving ≡ leaving_at id_of (is_in high gone) high

-- the forwarder has not begun, or has
pub data Stage : Type 0 where
  off : Stage
  on : (since : Since) (high : ℕ) → Stage

abbrev pub Holds : ℕ → ℕ → Bool → (ℕ → ℕ) → Stage → Forward → List ℕ → Type 0
Holds ssrc low steady id_of off f gone = (is_source f.source ssrc ≡ false) × (gone ≡ [])
Holds ssrc low steady id_of (on since high) f gone = IsOn ssrc low steady id_of since high f gone

-- the datagrams that come next are near the highest one
abbrev pub AreNear : Stage → List ℕ → Type 0
AreNear off ks = ComeNear ks
AreNear (on since high) ks = StayWithin 32768 32767 high ks

-- a packet as it is written: in this place, with ids moved as for its index
abbrev pub out_bytes : ForwardSettings → Offsets → (time place k : ℕ) → Packet → List ℕ
out_bytes s o time place k p = packet_bytes (sent_packet s (ids_at o k) ((o.number + place) % 65536) ((p.header.timestamp + time) % 4294967296) p)

-- a written datagram has the place of this index
pub record IsOut (since : Since) (high : ℕ) (f : Forward) (gone : List ℕ) (datagrams : List (List ℕ)) (bytes : List ℕ) (k : ℕ) : Type 0 where
  pub within : k ≤ high
  pub kept : is_in k gone ≡ false
  pub datagram : List ℕ
  pub packet : Packet
  pub there : slice_get datagrams k ≡ Some datagram
  pub reads : rtp_at datagram ≡ Ok packet
  pub is : bytes ≡ out_bytes f.settings (offsets_since since) f.times.offset (place_of gone k) k packet

abbrev pub AreOut : Since → ℕ → Forward → List ℕ → List (List ℕ) → List (List ℕ) → List ℕ → Type 0
AreOut since high f gone datagrams [] [] = Unit {0}
AreOut since high f gone datagrams [] (k ∷ ks) = ⊥
AreOut since high f gone datagrams (bytes ∷ rest) [] = ⊥
AreOut since high f gone datagrams (bytes ∷ rest) (k ∷ ks) = IsOut since high f gone datagrams bytes k × AreOut since high f gone datagrams rest ks

abbrev pub Wrote : Stage → Forward → List ℕ → List (List ℕ) → List (List ℕ) → List ℕ → Type 0
Wrote off f gone datagrams written ks = (written ≡ []) × (ks ≡ [])
Wrote (on since high) f gone datagrams written ks = AreOut since high f gone datagrams written ks

-- what is left out by the end, for indices up to the highest one, and what stays of the forwarder
abbrev pub Agrees : Offsets → Forward → List ℕ → Stage → Forward → List ℕ → Type 0
Agrees o e all off f gone = Unit {0}
Agrees o e all (on since high) f gone =
    (o.number ≡ (offsets_since since).number) × (o.ids ≡ since.ids) × (e.times.offset ≡ f.times.offset) × (e.settings ≡ f.settings)
    × ((k : ℕ) → k ≤ high → (is_in k all ≡ is_in k gone) × (below k all ≡ below k gone) × (below k o.pictures ≡ below k since.pictures))

-- the same bytes
pub same_out : (s s' : ForwardSettings) (o o' : Offsets) (time time' place place' k : ℕ) (p : Packet) → s ≡ s' → o.number ≡ o'.number → o.ids ≡ o'.ids → below k o.pictures ≡ below k o'.pictures → time ≡ time' → place ≡ place'
    → out_bytes s o time place k p ≡ out_bytes s' o' time' place' k p
same_out s s' o o' time time' place place' k p settings numbers ids pictures times places =
    ap (λ (x : ForwardSettings). out_bytes x o time place k p) settings
    ∙ (ap (λ (x : ℕ). packet_bytes (sent_packet s' (ids_at o k) ((x + place) % 65536) ((p.header.timestamp + time) % 4294967296) p)) numbers
    ∙ (ap (λ (x : IdOffsets).
    packet_bytes (sent_packet s' (record x { picture = (x.picture + 65535 * below k o.pictures) % 65536 }) ((o'.number + place) % 65536) ((p.header.timestamp + time) % 4294967296) p)) ids
    ∙ (ap (λ (x : ℕ). packet_bytes (sent_packet s' (record o'.ids { picture = (o'.ids.picture + 65535 * x) % 65536 }) ((o'.number + place) % 65536) ((p.header.timestamp + time) % 4294967296) p)) pictures
    ∙ (ap (λ (x : ℕ). out_bytes s' o' x place k p) times ∙ ap (λ (x : ℕ). out_bytes s' o' time' x k p) places))))

-- the same packets are out later
out_later : (since moved_since : Since) (high later : ℕ) (f t : Forward) (gone most : List ℕ) (datagrams written : List (List ℕ)) (ks : List ℕ) → high ≤ later
    → (offsets_since since).number ≡ (offsets_since moved_since).number → since.ids ≡ moved_since.ids → f.settings ≡ t.settings → f.times.offset ≡ t.times.offset
    → ((k : ℕ) → k ≤ high → (is_in k most ≡ is_in k gone) × (below k most ≡ below k gone) × (below k moved_since.pictures ≡ below k since.pictures)) → AreOut since high f gone datagrams written ks
    → AreOut moved_since later t most datagrams written ks
out_later since moved_since high later f t gone most datagrams [] [] l numbers ids settings times agree_at out = tt
out_later since moved_since high later f t gone most datagrams [] (k ∷ ks) l numbers ids settings times agree_at out = absurd out
out_later since moved_since high later f t gone most datagrams (b ∷ written) [] l numbers ids settings times agree_at out = absurd out
out_later since moved_since high later f t gone most datagrams (b ∷ written) (k ∷ ks) l numbers ids settings times agree_at out =
    let one = out.0 in
    let agree = agree_at k one.within in (
      record {
        within = omega (arith, l, one.within);
        kept = agree.0 ∙ one.kept;
        datagram = one.datagram;
        packet = one.packet;
        there = one.there;
        reads = one.reads;
        is = one.is ∙ same_out f.settings t.settings (offsets_since since) (offsets_since moved_since) f.times.offset t.times.offset (place_of gone k) (place_of most k) k one.packet settings numbers ids (sym agree.2) times
            (ap (λ (n : ℕ). k - n) (sym agree.1));
      },
      out_later since moved_since high later f t gone most datagrams written ks l numbers ids settings times agree_at out.1,
    )

out_append : (since : Since) (high : ℕ) (f : Forward) (gone : List ℕ) (datagrams bs : List (List ℕ)) (ks : List ℕ) (cs : List (List ℕ)) (js : List ℕ) → AreOut since high f gone datagrams bs ks
    → AreOut since high f gone datagrams cs js → AreOut since high f gone datagrams (bs ++ cs) (ks ++ js)
out_append since high f gone datagrams [] [] cs js here rest = rest
out_append since high f gone datagrams [] (k ∷ ks) cs js here rest = absurd here
out_append since high f gone datagrams (b ∷ bs) [] cs js here rest = absurd here
out_append since high f gone datagrams (b ∷ bs) (k ∷ ks) cs js here rest = (here.0, out_append since high f gone datagrams bs ks cs js here.1 rest)

or_true : (b : Bool) → (b || true) ≡ true
or_true true = refl
or_true false = refl

-- ---- one datagram

module _ (ssrc low : ℕ) (steady : Bool) (id_of : ℕ → ℕ) (codec : Codec) (fixed : is_moved codec ≡ false) where
  -- The forwarder after a datagram, which is the one with the index `k`; `later` come after it. `wrote` was written, for these indices
  pub record Turned (k : ℕ) (d : List ℕ) (st : Stage) (f : Forward) (gone later : List ℕ) (t : Forward) (more : List ℕ) (wrote : List (List ℕ)) (outs : List ℕ) : Type 0 where
    pub next : Stage
    pub holds : Holds ssrc low steady id_of next t more
    pub near : AreNear next later
    pub settings : t.settings ≡ f.settings
    pub agrees : (o : Offsets) (e : Forward) (all : List ℕ) → Agrees o e all next t more → Agrees o e all st f gone
    pub out : (datagrams written : List (List ℕ)) (ks : List ℕ) → slice_get datagrams k ≡ Some d → Wrote st f gone datagrams written ks → Wrote next t more datagrams (written ++ wrote) (ks ++ outs)

  module _ (k : ℕ) (d : List ℕ) (few : k < 2 ^ 63) (p : Packet) (reads : rtp_at d ≡ Ok p) (source_is : p.header.ssrc ≡ ssrc) (number_is : p.header.sequence_number ≡ (low + k) % 65536)
      (time_fits : p.header.timestamp < 4294967296) where
    -- nothing changes
    wrote_same : (st : Stage) (f : Forward) (gone : List ℕ) (datagrams written : List (List ℕ)) (ks : List ℕ) → Wrote st f gone datagrams written ks → Wrote st f gone datagrams (written ++ []) (ks ++ [])
    wrote_same st f gone datagrams written ks out =
        subst (λ (xs : List ℕ). Wrote st f gone datagrams (written ++ []) xs) (sym (append-nil ks)) (subst (λ (xs : List (List ℕ)). Wrote st f gone datagrams xs ks) (sym (append-nil written)) out)

    quiet : (st : Stage) (f t : Forward) (gone later : List ℕ) → t ≡ f → Holds ssrc low steady id_of st f gone → AreNear st later → Turned k d st f gone later t gone [] []
    quiet st f t gone later is holds near =
        subst (λ (x : Forward). Turned k d st f gone later x gone [] []) (sym is)
        (record { next = st; holds = holds; near = near; settings = refl; agrees = λ o e all agrees. agrees; out = λ datagrams written ks there out. wrote_same st f gone datagrams written ks out })

    clash : (f : Forward) → is_source f.source p.header.ssrc ≡ false → is_source f.source ssrc ≡ true → ⊥
    clash f other own = let here : is_source f.source ssrc ≡ false = subst (λ (n : ℕ). is_source f.source n ≡ false) source_is other in cc

    clash_off : (f : Forward) → is_source f.source p.header.ssrc ≡ true → is_source f.source ssrc ≡ false → ⊥
    clash_off f own other = let here : is_source f.source ssrc ≡ true = subst (λ (n : ℕ). is_source f.source n ≡ true) source_is own in cc

    -- the packet as it is written, under this number, at this time and with these ids
    under : (s : ForwardSettings) (o x : IdOffsets) (n n' t t' : ℕ) → payload_for s.codec o p.payload ≡ payload_for s.codec x p.payload → n ≡ n' → t ≡ t' → sent_packet s o n t p ≡ sent_packet s x n' t' p
    under s o x n n' t t' kept numbers times =
        ap (λ (y : List ℕ). packet_under s n t (record p { payload = y })) kept ∙ (ap (λ (m : ℕ). sent_packet s x m t p) numbers ∙ ap (λ (m : ℕ). sent_packet s x n' m p) times)

    -- the first packet

    -- the codec is this one, and a payload without ids stays
    abbrev Kept : Forward → Type 0
    Kept f = (f.settings.codec ≡ codec) × (steady ≡ true → (o : IdOffsets) → payload_for f.settings.codec o p.payload ≡ p.payload)

    is_fixed : (f : Forward) → Kept f → is_moved f.settings.codec ≡ false
    is_fixed f kept = ap is_moved kept.0 ∙ fixed

    begins_turn : (now : ℕ) (f t : Forward) (bytes later : List ℕ) → Kept f → is_source f.source p.header.ssrc ≡ false → (bytes ≡ packet_bytes (first_packet now f p)) → t ≡ after_begin now p f
        → AreNear off (k ∷ later) → Turned k d off f [] later t [] (bytes ∷ []) (k ∷ [])
    begins_turn now f t bytes later kept other written is near =
        let ids : Option PayloadIds = ids_in f.settings.codec p.payload in
        let since : Since = record { begin = k; base = 65536 + p.header.sequence_number; start = next_number f.numbers; ids = offsets_switched f.ids ids; pictures = []; highs = [] } in
        let start : next_number f.numbers ≡ ((offsets_since since).number + (k - 0)) % 65536 = omega arith in
        let time : (f.times.highest + ticks_between f.written_at now) % 4294967296
        ≡ (p.header.timestamp + ((f.times.highest + ticks_between f.written_at now) % 4294967296 + (4294967296 - p.header.timestamp)) % 4294967296) % 4294967296 = omega (arith, time_fits) in
        subst (λ (x : Forward). Turned k d off f [] later x [] (bytes ∷ []) (k ∷ [])) (sym is)
        (record {
          next = on since k;
          holds = record {
            source = ap (λ (n : ℕ). is_source (Some n) ssrc) source_is ∙ eq-eqb ssrc ssrc refl;
            base_is = ap (λ (n : ℕ). 65536 + n) number_is;
            calls = [];
            numbers = ap (begun (65536 + p.header.sequence_number)) (omega arith);
            among = [];
            highest = 65536 + p.header.sequence_number;
            stretch = refl;
            are_gone = tt;
            high_is = omega arith;
            highest_is = refl;
            top = (omega arith, tt, tt, omega arith, tt);
            from = omega arith;
            small = few;
            falls = tt;
            within = tt;
            above = tt;
            ids = λ moves. record {
              lost = 0;
              falls = tt;
              among = λ j is_there. absurd (cc);
              counts = λ n j same_index from. ap (λ (xs : List ℕ). 0 + (length xs - above n xs)) (switched_none ids f.ids);
              offset = ap (λ (x : IdOffsets). (x.picture + 0) % 65536) (switched_to ids f.ids) ∙ omega arith;
              tl0 = ap (λ (x : IdOffsets). x.tl0) (switched_to ids f.ids);
              few = omega (arith, ap length (switched_none ids f.ids));
              order = subst Falls (sym (switched_none ids f.ids)) tt;
              low = subst (AllBelow _) (sym (switched_none ids f.ids)) tt;
              part = λ n there from. absurd (let no : false ≡ true = sym (ap (is_in n) (switched_none ids f.ids)) ∙ there in cc);
            };
            pictures = tt;
            tracks = λ moves. refl;
            leaving = λ moves. sent_leaving (offsets_switched f.ids ids) ids (record f.ids { offsets = offsets_switched f.ids ids; left_out = [] });
          };
          near = near;
          settings = refl;
          agrees = λ o e all agrees. tt;
          out = λ datagrams old ks there out.
              subst (λ (xs : List ℕ). AreOut since k (after_begin now p f) [] datagrams (old ++ bytes ∷ []) (xs ++ k ∷ [])) (sym out.1)
              (subst (λ (xs : List (List ℕ)). AreOut since k (after_begin now p f) [] datagrams (xs ++ bytes ∷ []) (k ∷ [])) (sym out.0) (
                record {
                  within = omega arith;
                  kept = refl;
                  datagram = d;
                  packet = p;
                  there = there;
                  reads = reads;
                  is = written ∙ ap packet_bytes
                      (under f.settings (offsets_switched f.ids ids) (ids_at (offsets_since since) k) _ _ _ _
                      (payload_same f.settings.codec (offsets_switched f.ids ids) (ids_at (offsets_since since) k) p.payload (is_fixed f kept) (omega arith) refl) start time);
                },
                tt,
              ));
        })

    -- a later packet

    module _ (since : Since) (high : ℕ) (f : Forward) (gone later : List ℕ) (is_on : IsOn ssrc low steady id_of since high f gone) (near : AreNear (on since high) (k ∷ later)) where
      abbrev n : ℕ
      n = number_in f p

      n_is : n + since.begin ≡ k + since.base
      n_is =
          subst (λ (h : ℕ). nearest 65536 h p.header.sequence_number + since.begin ≡ k + since.base) (sym is_on.highest_is)
          (subst (λ (s : ℕ). nearest 65536 is_on.highest s + since.begin ≡ k + since.base) (sym number_is)
          (near_number since.begin since.base low is_on.highest high k is_on.base_is is_on.high_is is_on.from is_on.small near.0 near.1))

      index_low : n ≤ f.numbers.highest → k ≤ high
      index_low l = omega (arith, l, n_is, is_on.high_is, is_on.highest_is)

      index_high : f.numbers.highest < n → high < k
      index_high l = omega (arith, l, n_is, is_on.high_is, is_on.highest_is)

      near_low : k ≤ high → AreNear (on since high) later
      near_low l = subst (λ (h : ℕ). StayWithin 32768 32767 h later) (omega (arith, l)) near.2

      near_high : high < k → AreNear (on since k) later
      near_high l = subst (λ (h : ℕ). StayWithin 32768 32767 h later) (omega (arith, l)) near.2

      -- nothing changes for a packet that is not above all others
      stays_turn : (t : Forward) → n ≤ f.numbers.highest → t ≡ f → Turned k d (on since high) f gone later t gone [] []
      stays_turn t l is = quiet (on since high) f t gone later is is_on (near_low (index_low l))

      -- which packets were left out
      among_is : is_too_old f.numbers n ≡ false → is_in n f.numbers.left_out ≡ is_in k gone
      among_is young =
          let m : Numbers = map_after since.base since.start is_on.calls in
          let here : is_in n f.numbers.left_out ≡ is_in n m.left_out = ap (λ (x : Numbers). is_in n x.left_out) is_on.numbers in
          let old : is_too_old m n ≡ false = subst (λ (x : Numbers). is_too_old x n ≡ false) is_on.numbers young in
          here ∙ ((renumbers since.base since.start is_on.calls).0 n old).0 ∙ (ap (λ (s : Stretch). is_in n s.gone) is_on.stretch ∙ in_gone since.begin since.base is_on.among gone n k n_is is_on.are_gone)

      first_stays : (s : Stretch) → (after_call (packet n true) s).first ≡ s.first
      first_stays s = by (ltb s.highest n) refl
        where
          by : (b : Bool) → ltb s.highest n ≡ b → (after_call (packet n true) s).first ≡ s.first
          by true e = rw e refl
          by false e = rw e refl

      number_by : (sent b : ℕ) → sent ≡ (since.start + (n - since.base) - b) % 65536 → since.base ≤ n → b + since.begin ≤ k → sent ≡ ((offsets_since since).number + (k - b)) % 65536
      number_by sent b is first few_gone = omega (arith, is, first, few_gone, n_is)

      sent_place : (sent : ℕ) → placed f.numbers n true ≡ places.Sent sent → (sent ≡ ((offsets_since since).number + place_of gone k) % 65536) × (is_in k gone ≡ false)
      sent_place sent is =
          let young = sent_young f.numbers n sent is in
          let given = sends_given since.base since.start is_on.calls n sent (subst (λ (m : Numbers). placed m n true ≡ places.Sent sent) is_on.numbers is) in
          let number : sent ≡ (since.start + (n - since.base) - below n is_on.among) % 65536 = given.0 ∙ ap (λ (s : Stretch). number_of s n % 65536) is_on.stretch in
          let first : (after_call (packet n true) (stretch_after since.base since.start is_on.calls)).first ≡ since.base =
          first_stays (stretch_after since.base since.start is_on.calls) ∙ ap (λ (s : Stretch). s.first) is_on.stretch in
          let from : since.base ≤ n = subst (λ (x : ℕ). x ≤ n) first given.1.first in
          let low_index : since.begin ≤ k = omega (arith, from, n_is) in
          let same_below : below n is_on.among ≡ below k gone = below_gone since.begin since.base is_on.among gone n k n_is is_on.are_gone in (
            number_by sent (below k gone) (number ∙ ap (λ (b : ℕ). (since.start + (n - since.base) - b) % 65536) same_below) from (few_above since.begin k gone low_index is_on.falls is_on.above),
            sym (among_is young.0) ∙ young.1,
          )

      -- the ids of a packet that was not left out
      picture_by : (x a c b lost y : ℕ) → (x + (65536 - c)) % 65536 ≡ a → (x + lost) % 65536 ≡ y % 65536 → lost + c ≡ b → c ≤ 4096 → a % 65536 ≡ (y + 65535 * b) % 65536 % 65536
      picture_by x a c b lost y e g f l = omega (arith, e, f, g, l)

      -- the datagram itself is no picture that was left out
      not_picture : IdsHold since f.ids f.numbers gone → is_in k gone ≡ false → below (k + 1) since.pictures ≡ below k since.pictures
      not_picture ids kept_index = below_next since.pictures k ids.falls ∙ ap (λ (b : Bool). cond b (suc (below k since.pictures)) (below k since.pictures)) (by (is_in k since.pictures) refl)
        where
          by : (b : Bool) → is_in k since.pictures ≡ b → is_in k since.pictures ≡ false
          by true e = absurd (let there : is_in k gone ≡ true = ids.among k e in cc)
          by false e = e

      picture_is : IdsHold since f.ids f.numbers gone → is_in k gone ≡ false → f.numbers.first ≤ n → (offsets_at f.ids n).picture % 65536 ≡ (ids_at (offsets_since since) k).picture % 65536
      picture_is ids kept_index from =
          let left : List ℕ = f.ids.left_out in
          let count : ids.lost + (length left - above n left) ≡ below k since.pictures = ids.counts n k n_is from ∙ not_picture ids kept_index in
          picture_by f.ids.offsets.picture (offsets_at f.ids n).picture (length left - above n left) (below k since.pictures) ids.lost since.ids.picture refl ids.offset count (omega (arith, ids.few))

      payload_is : (b : Bool) → steady ≡ b → Kept f → is_in k gone ≡ false → f.numbers.first ≤ n
          → payload_for f.settings.codec (offsets_for f.settings.codec f.ids n) p.payload ≡ payload_for f.settings.codec (ids_at (offsets_since since) k) p.payload
      payload_is true plain kept kept_index from = kept.1 plain (offsets_for f.settings.codec f.ids n) ∙ sym (kept.1 plain (ids_at (offsets_since since) k))
      payload_is false moves kept kept_index from =
          let ids : IdsHold since f.ids f.numbers gone = is_on.ids moves in
          payload_at f.settings.codec f.ids n (ids_at (offsets_since since) k) p.payload (is_fixed f kept) (picture_is ids kept_index from) ids.tl0

      -- a packet of the source is written
      written_out : (now sent high' : ℕ) (t : Forward) (bytes : List ℕ) → Kept f → placed f.numbers n true ≡ places.Sent sent → bytes ≡ packet_bytes (next_packet f sent p) → t.settings ≡ f.settings
          → t.times.offset ≡ f.times.offset → high ≤ high' → k ≤ high'
          → (datagrams written : List (List ℕ)) (ks : List ℕ) → slice_get datagrams k ≡ Some d → AreOut since high f gone datagrams written ks
          → AreOut since high' t gone datagrams (written ++ bytes ∷ []) (ks ++ k ∷ [])
      written_out now sent high' t bytes kept is written settings times up here datagrams old ks there out =
          let place = sent_place sent is in
          let one : IsOut since high' f gone datagrams bytes k = record {
            within = here;
            kept = place.1;
            datagram = d;
            packet = p;
            there = there;
            reads = reads;
            is = written ∙ ap packet_bytes
                (under f.settings (offsets_for f.settings.codec f.ids n) (ids_at (offsets_since since) k) _ _ _ _ (payload_is steady refl kept place.1 (young_by f.numbers n (sent_young f.numbers n sent is).0).0) place.0 refl);
          } in
          out_later since since high' high' f t gone gone datagrams (old ++ bytes ∷ []) (ks ++ k ∷ []) (omega arith) refl refl (sym settings) (sym times) (λ j l. (refl, refl, refl))
          (out_append since high' f gone datagrams old ks (bytes ∷ []) (k ∷ [])
          (out_later since since high high' f f gone gone datagrams old ks up refl refl refl refl (λ j l. (refl, refl, refl)) out)
          (one, tt))

      written_turn : (now sent : ℕ) (t : Forward) (bytes : List ℕ) → Kept f → placed f.numbers n true ≡ places.Sent sent → bytes ≡ packet_bytes (next_packet f sent p) → t ≡ after_next now p f
          → Turned k d (on since high) f gone later t gone (bytes ∷ []) (k ∷ [])
      written_turn now sent t bytes kept placed_is written is =
          subst (λ (x : Forward). Turned k d (on since high) f gone later x gone (bytes ∷ []) (k ∷ [])) (sym is) (by (order n f.numbers.highest))
        where
          ids_next : (f.numbers.highest ≤ (after_packet n true f.numbers).highest) → (after_packet n true f.numbers).first ≡ f.numbers.first → (after_packet n true f.numbers).left_out ≡ f.numbers.left_out
              → IdsHold since f.ids f.numbers gone → IdsHold since (after_next now p f).ids (after_next now p f).numbers gone
          ids_next highest first out =
              ids_same since f.ids (after_next now p f).ids f.numbers (after_packet n true f.numbers) gone (ids_stay (ltb f.numbers.highest n) (ltb f.latest n) f.settings.codec n p.payload f.ids)
              (left_stay (ltb f.numbers.highest n) (ltb f.latest n) f.settings.codec n p.payload f.ids) first highest out

          below_top : n ≤ f.numbers.highest → Turned k d (on since high) f gone later (after_next now p f) gone (bytes ∷ []) (k ∷ [])
          below_top l =
              let map_same : after_packet n true f.numbers ≡ f.numbers = low_same f.numbers n true l in
              record {
                next = on since high;
                holds = record {
                  source = is_on.source;
                  base_is = is_on.base_is;
                  calls = is_on.calls;
                  numbers = map_same ∙ is_on.numbers;
                  among = is_on.among;
                  highest = is_on.highest;
                  stretch = is_on.stretch;
                  are_gone = is_on.are_gone;
                  high_is = is_on.high_is;
                  highest_is = ap (λ (m : Numbers). m.highest) map_same ∙ is_on.highest_is;
                  top = subst IsTop (sym map_same) is_on.top;
                  from = is_on.from;
                  small = is_on.small;
                  falls = is_on.falls;
                  within = is_on.within;
                  above = is_on.above;
                  ids = λ moves. ids_next (omega (arith, ap (λ (m : Numbers). m.highest) map_same)) (ap (λ (m : Numbers). m.first) map_same) (ap (λ (m : Numbers). m.left_out) map_same) (is_on.ids moves);
                  pictures = is_on.pictures;
                  tracks = is_on.tracks;
                  leaving = λ moves. ap (λ (b : Bool). (ids_when b (ltb f.latest n) f.settings.codec n p.payload f.ids).leaving) (le-ltb f.numbers.highest n l)
                      ∙ (late_leaving (ltb f.latest n) f.settings.codec n p.payload f.ids ∙ is_on.leaving moves);
                };
                near = near_low (index_low l);
                settings = refl;
                agrees = λ o e all agrees. agrees;
                out = written_out now sent high (after_next now p f) bytes kept placed_is written refl refl (omega arith) (index_low l);
              }

          above_top : f.numbers.highest < n → Turned k d (on since high) f gone later (after_next now p f) gone (bytes ∷ []) (k ∷ [])
          above_top l =
              let up : high < k = index_high l in
              let map_is : after_packet n true f.numbers ≡ record f.numbers { highest = n } = top_sent f.numbers n is_on.top l in
              let over : is_on.highest < n = omega (arith, l, is_on.highest_is) in
              record {
                next = on since k;
                holds = record {
                  source = is_on.source;
                  base_is = is_on.base_is;
                  calls = packet n true ∷ is_on.calls;
                  numbers = ap (after_packet n true) is_on.numbers;
                  among = is_on.among;
                  highest = n;
                  stretch = ap (after_call (packet n true)) is_on.stretch ∙ rw (lt-ltb is_on.highest n over) refl;
                  are_gone = is_on.are_gone;
                  high_is = n_is;
                  highest_is = ap (λ (m : Numbers). m.highest) map_is;
                  top = subst IsTop (sym map_is) (sent_top f.numbers n is_on.top l);
                  from = omega (arith, is_on.from, up);
                  small = few;
                  falls = is_on.falls;
                  within = all_below_less (suc high) (suc k) gone (omega (arith, up)) is_on.within;
                  above = is_on.above;
                  ids = λ moves. ids_next (omega (arith, l, ap (λ (m : Numbers). m.highest) map_is)) (ap (λ (m : Numbers). m.first) map_is) (ap (λ (m : Numbers). m.left_out) map_is) (is_on.ids moves);
                  pictures = all_below_less (suc high) (suc k) since.pictures (omega (arith, up)) is_on.pictures;
                  tracks = is_on.tracks;
                  leaving = λ moves. ap (λ (b : Bool). (ids_when b (ltb f.latest n) f.settings.codec n p.payload f.ids).leaving) (lt-ltb f.numbers.highest n l)
                      ∙ (sent_leaving (offsets_for f.settings.codec f.ids n) (ids_in f.settings.codec p.payload) f.ids
                      ∙ sym (ap (λ (b : Bool). leaving_at id_of b k) (not_in k gone (all_below_less (suc high) k gone (omega (arith, up)) is_on.within))));
                };
                near = near_high up;
                settings = refl;
                agrees = λ o e all agrees. (agrees.0, agrees.1, agrees.2, agrees.3, λ j within. agrees.4 j (omega (arith, within, up)));
                out = written_out now sent k (after_next now p f) bytes kept placed_is written refl refl (omega (arith, up)) (omega arith);
              }

          by : Order n f.numbers.highest → Turned k d (on since high) f gone later (after_next now p f) gone (bytes ∷ []) (k ∷ [])
          by (less l) = below_top (omega (arith, l))
          by (same l) = below_top (omega (arith, l))
          by (more l) = above_top l

      -- a packet above all others is left out; these are the pictures after it
      left_turn : (ps : List ℕ) (t y : Forward) → f.numbers.highest < n → y.settings ≡ f.settings → y.source ≡ f.source → y.times ≡ f.times → y.numbers ≡ after_packet n false f.numbers → t ≡ y
          → (steady ≡ false → IdsHold (record since { pictures = ps; highs = high ∷ since.highs }) y.ids (closed n f.numbers) (k ∷ gone))
          → (steady ≡ false → Tracks id_of (k ∷ gone) (high ∷ since.highs) ps) → (steady ≡ false → y.ids.leaving ≡ Some (id_of k)) → AllBelow (suc k) ps → ((j : ℕ) → j ≤ high → below j ps ≡ below j since.pictures)
          → Turned k d (on since high) f gone later t (k ∷ gone) [] []
      left_turn ps t y l settings source times numbers is ids tracks leaving low_pictures pictures =
          let up : high < k = index_high l in
          let map_is : y.numbers ≡ closed n f.numbers = numbers ∙ top_left f.numbers n is_on.top l in
          let over : is_on.highest < n = omega (arith, l, is_on.highest_is) in
          let top = left_top f.numbers n is_on.top l in
          let moved_since : Since = record since { pictures = ps; highs = high ∷ since.highs } in
          let higher : (j : ℕ) → j ≤ high → (is_in j (k ∷ gone) ≡ is_in j gone) × (below j (k ∷ gone) ≡ below j gone) × (below j ps ≡ below j since.pictures) =
          λ j within. (in_higher j k gone (omega (arith, within, up)), below_higher j k gone (omega (arith, within, up)), pictures j within) in
          subst (λ (x : Forward). Turned k d (on since high) f gone later x (k ∷ gone) [] []) (sym is)
          (record {
            next = on moved_since k;
            holds = record {
              source = ap (λ (o : Option ℕ). is_source o ssrc) source ∙ is_on.source;
              base_is = is_on.base_is;
              calls = packet n false ∷ is_on.calls;
              numbers = numbers ∙ ap (after_packet n false) is_on.numbers;
              among = n ∷ is_on.among;
              highest = n;
              stretch = ap (after_call (packet n false)) is_on.stretch ∙ rw (lt-ltb is_on.highest n over) refl;
              are_gone = (n_is, is_on.are_gone);
              high_is = n_is;
              highest_is = ap (λ (m : Numbers). m.highest) map_is ∙ top.1;
              top = subst IsTop (sym map_is) top.0;
              from = omega (arith, is_on.from, up);
              small = few;
              falls = (all_below_less (suc high) k gone (omega (arith, up)) is_on.within, is_on.falls);
              within = (omega arith, all_below_less (suc high) (suc k) gone (omega (arith, up)) is_on.within);
              above = (omega (arith, is_on.from, up), is_on.above);
              ids = λ moves. subst (λ (m : Numbers). IdsHold moved_since y.ids m (k ∷ gone)) (sym map_is) (ids moves);
              pictures = low_pictures;
              tracks = tracks;
              leaving = λ moves. leaving moves ∙ sym (ap (λ (b : Bool). leaving_at id_of (b || is_in k gone) k) (eq-eqb k k refl));
            };
            near = near_high up;
            settings = settings;
            agrees = λ o e all agrees. (
              agrees.0,
              agrees.1,
              agrees.2 ∙ ap (λ (x : Retiming). x.offset) times,
              agrees.3 ∙ settings,
              λ j within.
                  let later_on = agrees.4 j (omega (arith, within, up)) in
                  let here = higher j within in
                  (later_on.0 ∙ here.0, later_on.1 ∙ here.1, later_on.2 ∙ here.2),
            );
            out = λ datagrams written ks there out.
                wrote_same (on moved_since k) y (k ∷ gone) datagrams written ks
                (out_later since moved_since high k f y gone (k ∷ gone) datagrams written ks (omega (arith, up)) refl refl (sym settings) (sym (ap (λ (x : Retiming). x.offset) times)) higher out);
          })

    -- any datagram that is to be forwarded
    pub forward_turn : (now : ℕ) (answer : Forwarded) (bytes : List ℕ) (st : Stage) (f t : Forward) (gone later : List ℕ) → Kept f → Holds ssrc low steady id_of st f gone → Forwards now p f answer bytes t
        → AreNear st (came_by answer k ++ later) → Turned k d st f gone later t gone (written_by answer bytes) (forwarded_by answer k)
    forward_turn now answers.Began bytes off f t gone later kept holds does near =
        subst (λ (xs : List ℕ). Turned k d off f xs later t xs (bytes ∷ []) (k ∷ [])) (sym holds.1) (begins_turn now f t bytes later kept does.0 does.3.0 does.4 near)
    forward_turn now answers.Written bytes off f t gone later kept holds does near = absurd (clash_off f does.0 holds.0)
    forward_turn now answers.NoKeyframe bytes off f t gone later kept holds does near = quiet off f t gone later does.3.1 holds near
    forward_turn now answers.OtherSource bytes off f t gone later kept holds does near = quiet off f t gone later does.2.1 holds near
    forward_turn now answers.TooOld bytes off f t gone later kept holds does near = absurd (clash_off f does.0 holds.0)
    forward_turn now answers.LeftOut bytes off f t gone later kept holds does near = absurd (clash_off f does.0 holds.0)
    forward_turn now answers.Filled bytes off f t gone later kept holds does near = absurd does
    forward_turn now answers.Began bytes (on since high) f t gone later kept holds does near = absurd (clash f does.0 holds.source)
    forward_turn now answers.Written bytes (on since high) f t gone later kept holds does near =
        written_turn since high f gone later holds near now does.1.0 t bytes kept does.1.1 does.1.2.0 does.2
    forward_turn now answers.NoKeyframe bytes (on since high) f t gone later kept holds does near = absurd (clash f does.0 holds.source)
    forward_turn now answers.OtherSource bytes (on since high) f t gone later kept holds does near = absurd (clash f does.0 holds.source)
    forward_turn now answers.TooOld bytes (on since high) f t gone later kept holds does near =
        stays_turn since high f gone later holds near t (old_low f.numbers (number_in f p) holds.top (placed_old f.numbers (number_in f p) does.1)) does.2.1
    forward_turn now answers.LeftOut bytes (on since high) f t gone later kept holds does near =
        stays_turn since high f gone later holds near t (left_low f.numbers (number_in f p) holds.top (left_young f.numbers (number_in f p) does.1).1) does.2.1
    forward_turn now answers.Filled bytes (on since high) f t gone later kept holds does near = absurd does

    -- a datagram that was left out before
    again_turn : (since : Since) (high : ℕ) (f t : Forward) (gone later : List ℕ) → (holds : IsOn ssrc low steady id_of since high f gone) → AreNear (on since high) (k ∷ later)
        → placed f.numbers (number_in f p) true ≡ places.LeftOut → t ≡ f → Turned k d (on since high) f gone later t (gone_by answers.LeftOut k gone) [] []
    again_turn since high f t gone later holds near is stay =
        let left = left_young f.numbers (number_in f p) is in
        let here : is_in k gone ≡ true = sym (among_is since high f gone later holds near left.0) ∙ left.1 in
        rw here (stays_turn since high f gone later holds near t (left_low f.numbers (number_in f p) holds.top left.1) stay)

    -- a datagram above all others
    ahead_turn : (since : Since) (high : ℕ) (f t : Forward) (gone later : List ℕ) → (holds : IsOn ssrc low steady id_of since high f gone) → AreNear (on since high) (k ∷ later) → f.numbers.highest < number_in f p
        → (steady ≡ false → closing_id f.settings.codec p.payload ≡ Some (id_of k))
        → t ≡ record f { numbers = after_packet (number_in f p) false f.numbers; ids = ids_left f.settings.codec (number_in f p) p.payload f.ids }
        → Turned k d (on since high) f gone later t (gone_by answers.LeftOut k gone) [] []
    ahead_turn since high f t gone later holds near l id_is after =
        let up : high < k = index_high since high f gone later holds near l in
        let here : is_in k gone ≡ false = not_in k gone (all_below_less (suc high) k gone (omega (arith, up)) holds.within) in
        rw here (by (id_to_leave f.ids (number_in f p) (closing_id f.settings.codec p.payload)) refl up)
      where
        at_k : (o : Option ℕ) → id_to_leave f.ids (number_in f p) (closing_id f.settings.codec p.payload) ≡ o → steady ≡ false → id_to_leave f.ids (number_in f p) (Some (id_of k)) ≡ o
        at_k o e moves = sym (ap (id_to_leave f.ids (number_in f p)) (id_is moves)) ∙ e

        lower : steady ≡ false → AllBelow (suc f.numbers.highest) f.ids.left_out
        lower moves = (holds.ids moves).low

        -- one more datagram that was left out
        tracked : (ps : List ℕ) → high < k → steady ≡ false → ps ≡ cond (is_in high gone && eqb (id_of high) (id_of k)) since.pictures (k ∷ since.pictures) → Tracks id_of (k ∷ gone) (high ∷ since.highs) ps
        tracked ps up moves is = (since.pictures, holds.tracks moves, up, near.0, holds.within, is)

        by : (o : Option ℕ) → id_to_leave f.ids (number_in f p) (closing_id f.settings.codec p.payload) ≡ o → high < k → Turned k d (on since high) f gone later t (k ∷ gone) [] []
        by None e up =
            let ids : ids_left f.settings.codec (number_in f p) p.payload f.ids ≡ f.ids = ap (λ (o : Option ℕ). picture_closed (number_in f p) o f.ids) e in
            left_turn since high f gone later holds near since.pictures t (record f { numbers = after_packet (number_in f p) false f.numbers; ids = f.ids }) l refl refl refl refl
            (after ∙ ap (λ (m : Ids). record f { numbers = after_packet (number_in f p) false f.numbers; ids = m }) ids)
            (λ moves. ids_open since f.ids f.numbers gone high (number_in f p) k (n_is since high f gone later holds near) holds.top l (all_below_less (suc high) k since.pictures (omega (arith, up)) holds.pictures) (holds.ids moves))
            (λ moves.
            let stays = open_is id_of f.ids (number_in f p) f.numbers.highest k high gone (lower moves) l (holds.leaving moves) (at_k None e moves) in
            tracked since.pictures up moves (sym (ap (λ (b : Bool). cond b since.pictures (k ∷ since.pictures)) stays.1)))
            (λ moves. (open_is id_of f.ids (number_in f p) f.numbers.highest k high gone (lower moves) l (holds.leaving moves) (at_k None e moves)).0)
            (all_below_less (suc high) (suc k) since.pictures (omega (arith, up)) holds.pictures) (λ j within. refl)
        by (Some id) e up =
            let next : Ids = picture_closed (number_in f p) (Some id) f.ids in
            let ids : ids_left f.settings.codec (number_in f p) p.payload f.ids ≡ next = ap (λ (o : Option ℕ). picture_closed (number_in f p) o f.ids) e in
            left_turn since high f gone later holds near (k ∷ since.pictures) t (record f { numbers = after_packet (number_in f p) false f.numbers; ids = next }) l refl refl refl refl
            (after ∙ ap (λ (m : Ids). record f { numbers = after_packet (number_in f p) false f.numbers; ids = m }) ids)
            (λ moves. ids_closed since f.ids f.numbers gone high (number_in f p) k (n_is since high f gone later holds near) holds.top l (all_below_less (suc high) k since.pictures (omega (arith, up)) holds.pictures) (holds.ids moves) id)
            (λ moves.
            let closes = closed_is id_of f.ids (number_in f p) f.numbers.highest k high gone (lower moves) l (holds.leaving moves) id (at_k (Some id) e moves) in
            tracked (k ∷ since.pictures) up moves (sym (ap (λ (b : Bool). cond b since.pictures (k ∷ since.pictures)) closes.1)))
            (λ moves.
            let closes = closed_is id_of f.ids (number_in f p) f.numbers.highest k high gone (lower moves) l (holds.leaving moves) id (at_k (Some id) e moves) in
            closed_leaving (number_in f p) id f.ids ∙ ap (λ (x : ℕ). Some x) closes.0)
            (omega arith, all_below_less (suc high) (suc k) since.pictures (omega (arith, up)) holds.pictures) (λ j within. below_higher j k since.pictures (omega (arith, within, up)))

    -- any datagram that is to be left out, and comes in time
    pub leave_turn : (answer : Forwarded) (bytes : List ℕ) (st : Stage) (f t : Forward) (gone later : List ℕ) → fills answer ≡ false → (steady ≡ false → closing_id f.settings.codec p.payload ≡ Some (id_of k)) → Holds ssrc low steady id_of st f gone → Leaves p f answer bytes t
        → AreNear st (came_by answer k ++ later) → Turned k d st f gone later t (gone_by answer k gone) (filled_by answer bytes) []
    leave_turn answers.Began bytes st f t gone later none id_is holds does near = absurd does
    leave_turn answers.Written bytes st f t gone later none id_is holds does near = absurd does
    leave_turn answers.NoKeyframe bytes st f t gone later none id_is holds does near = absurd does
    leave_turn answers.Filled bytes st f t gone later none id_is holds does near = absurd (cc)
    leave_turn answers.OtherSource bytes off f t gone later none id_is holds does near = quiet off f t gone later does.1.1 holds near
    leave_turn answers.TooOld bytes off f t gone later none id_is holds does near = absurd (clash_off f does.0 holds.0)
    leave_turn answers.LeftOut bytes off f t gone later none id_is holds does near = absurd (clash_off f does.0 holds.0)
    leave_turn answers.OtherSource bytes (on since high) f t gone later none id_is holds does near = absurd (clash f does.0 holds.source)
    leave_turn answers.TooOld bytes (on since high) f t gone later none id_is holds does near =
        stays_turn since high f gone later holds near t (old_low f.numbers (number_in f p) holds.top (placed_old f.numbers (number_in f p) does.1)) does.2.1
    leave_turn answers.LeftOut bytes (on since high) f t gone later none id_is holds does near = by does.2
      where
        by : ((placed f.numbers (number_in f p) true ≡ places.LeftOut) × (t ≡ f))
            ⊎ ((f.numbers.highest < number_in f p)
            × (t ≡ record f { numbers = after_packet (number_in f p) false f.numbers; ids = ids_left f.settings.codec (number_in f p) p.payload f.ids }))
            → Turned k d (on since high) f gone later t (gone_by answers.LeftOut k gone) [] []
        by (inl is) = again_turn since high f t gone later holds near is.0 is.1
        by (inr is) = ahead_turn since high f t gone later holds near is.0 id_is is.1
