-- Bytes spelled as AMR-WB are received, and received bytes were spelled so.
use Rattle.std.proofs.Common.{◌≡◌, ℕ, zero, suc, ◌+◌, ◌-◌, ◌*◌, ◌/◌, ◌%◌, ◌<◌, ◌≤◌, inl, inr, List, [], ◌∷◌, ◌++◌, length, take, drop, map, refl, sym, ◌∙◌, ap, arith, append_assoc, length-append, length-drop, cond, eqb, Option, Some, None, Ok, Err, Result, Bool, true, false, replicate}
use Rattle.std.specs.List.{AllByRecursion}
use Rattle.std.proofs.lemmas.Bool.{lt-ltb, le-ltb, cases_lt, eqb-true, eqb-false, cases_Bool}
use Rattle.std.proofs.lemmas.List.{append-nil, length-replicate, take_at, drop_at, take-append-drop, length-take-le, drop-drop}
use Rattle.codec_payload_base.specs.Bits.{bits, bits_of}
use Rattle.codec_payload_base.proofs.BitLemmas.{length-bits, length-bits_of}
use Rattle.codec_payload_base.specs.declared.error.PacketError.{PacketError}
use Rattle.codec_payload_audio.specs.AmrWb.{Frame, IsFrame, canonical, entry, gap, payload, speech_size}
use Rattle.codec_payload_audio.specs.AmrWbReceived.{Entry, entries_at, entry_from, entry_then, with_front, frame_at, frames_at, then_frames, with_frame, whole, behind_entries, received}
use Rattle.codec_payload_audio.specs.AmrWbPayload.{request_size, entry_fill, speech_fill, toc_entry, AreEntries, AreSpeech, IsAmrWb, canonicals, SpelledIsReceived, ReceivedIsSpelled, SentIsSpelled}

abbrev entry_for : Frame → Entry
entry_for f = record { kind = f.kind; quality = f.quality }

-- ---- spelled bytes are received

one_entry : (octet : Bool) (v : ℕ) (f : Frame) (fill rest : List ℕ) → v < 2 → IsFrame f → length fill ≡ entry_fill octet
    → entries_at octet (toc_entry v f ++ (fill ++ rest)) ≡ entry_then v (entry_for f) rest (entries_at octet rest)
unfolding entries_at bits
one_entry false v f [] rest small is e =
    let follows : v / 1 % 2 ≡ v = omega arith in
    let kind : 8 * (f.kind / 8 % 2) + 4 * (f.kind / 4 % 2) + 2 * (f.kind / 2 % 2) + f.kind / 1 % 2 ≡ f.kind = omega (arith, is.kind) in
    let quality : f.quality / 1 % 2 ≡ f.quality = omega (arith, is.quality) in
    rw (follows, kind, quality) refl
one_entry false v f (x ∷ fill) rest small is e = absurd (omega arith)
one_entry true v f [] rest small is e = absurd (omega arith)
one_entry true v f (x ∷ []) rest small is e = absurd (omega arith)
one_entry true v f (x ∷ y ∷ []) rest small is e =
    let follows : v / 1 % 2 ≡ v = omega arith in
    let kind : 8 * (f.kind / 8 % 2) + 4 * (f.kind / 4 % 2) + 2 * (f.kind / 2 % 2) + f.kind / 1 % 2 ≡ f.kind = omega (arith, is.kind) in
    let quality : f.quality / 1 % 2 ≡ f.quality = omega (arith, is.quality) in
    rw (follows, kind, quality) refl
one_entry true v f (x ∷ y ∷ z ∷ fill) rest small is e = absurd (omega arith)

entries_spelled : (octet : Bool) (fs : List Frame) (bs rest : List ℕ) → AllByRecursion IsFrame fs → AreEntries octet fs bs → entries_at octet (bs ++ rest) ≡ Ok (map entry_for fs, rest)
entries_spelled octet [] bs rest all none = absurd none
entries_spelled octet (f ∷ []) bs rest all (fill, size, is) =
    ap (λ t. entries_at octet (t ++ rest)) is
    ∙ ap (entries_at octet) (append_assoc (toc_entry 0 f) fill rest)
    ∙ one_entry octet 0 f fill rest (omega arith) all.0 size
entries_spelled octet (f ∷ g ∷ fs) bs rest all (fill, more, size, others, is) =
    ap (λ t. entries_at octet (t ++ rest)) is
    ∙ ap (entries_at octet) (append_assoc (toc_entry 1 f) (fill ++ more) rest ∙ ap (λ t. toc_entry 1 f ++ t) (append_assoc fill more rest))
    ∙ one_entry octet 1 f fill (more ++ rest) (omega arith) all.0 size
    ∙ ap (with_front (entry_for f ∷ [])) (entries_spelled octet (g ∷ fs) more rest all.1 others)

skipped : (octet : Bool) (speech fill rest : List ℕ) → length fill ≡ speech_fill octet (length speech)
    → drop (cond octet (length speech + gap (length speech)) (length speech)) (speech ++ (fill ++ rest)) ≡ rest
skipped true speech fill rest size =
    ap (drop (length speech + gap (length speech))) (sym (append_assoc speech fill rest))
    ∙ drop_at (speech ++ fill) rest (length speech + gap (length speech)) (omega (arith, length-append speech fill, size))
skipped false speech [] rest size = drop_at speech rest (length speech) refl
skipped false speech (x ∷ fill) rest size = absurd (omega (arith, size))

one_frame : (octet : Bool) (f : Frame) (fill rest : List ℕ) → IsFrame f → length fill ≡ speech_fill octet (length f.speech)
    → frame_at octet (entry_for f) (f.speech ++ (fill ++ rest)) (speech_size f.kind) ≡ Ok (canonical f, rest)
one_frame octet f fill rest is size =
    let enough : length f.speech ≤ length (f.speech ++ (fill ++ rest)) = omega (arith, length-append f.speech (fill ++ rest)) in
    rw (is.size, le-ltb (length (f.speech ++ (fill ++ rest))) (length f.speech) enough, take_at f.speech (fill ++ rest) (length f.speech) refl, skipped octet f.speech fill rest size) refl

frames_spelled : (octet : Bool) (fs : List Frame) (bs rest : List ℕ) → AllByRecursion IsFrame fs → AreSpeech octet fs bs → frames_at octet (map entry_for fs) (bs ++ rest) ≡ Ok (canonicals fs, rest)
unfolding frames_at
frames_spelled octet [] bs rest all none = ap (λ t. Ok ([], t ++ rest)) none
frames_spelled octet (f ∷ fs) bs rest all (fill, more, size, others, is) =
    ap (λ t. frames_at octet (map entry_for (f ∷ fs)) (t ++ rest)) is
    ∙ ap (frames_at octet (map entry_for (f ∷ fs))) (append_assoc f.speech (fill ++ more) rest ∙ ap (λ t. f.speech ++ t) (append_assoc fill more rest))
    ∙ ap (λ t. then_frames t (λ left. frames_at octet (map entry_for fs) left)) (one_frame octet f fill (more ++ rest) all.0 size)
    ∙ ap (with_frame (canonical f)) (frames_spelled octet fs more rest all.1 others)

received_some : (octet : Bool) (bs : List ℕ) → 0 < length bs → received octet bs ≡ behind_entries octet (entries_at octet (drop (request_size octet) bs))
unfolding received
received_some octet [] some = absurd (omega arith)
received_some true (b ∷ bs) some = refl
received_some false (b ∷ bs) some = refl

some_request : (octet : Bool) (request rest : List ℕ) → length request ≡ request_size octet → 0 < length (request ++ rest)
some_request true request rest e = omega (arith, length-append request rest)
some_request false request rest e = omega (arith, length-append request rest)

pub spelled_is_received : SpelledIsReceived
spelled_is_received octet bs fs p =
    let behind : List ℕ = p.entries ++ (p.speech ++ p.fill) in
    ap (received octet) p.is
    ∙ received_some octet (p.request ++ behind) (some_request octet p.request behind p.request_length)
    ∙ ap (λ t. behind_entries octet (entries_at octet t)) (drop_at p.request behind (request_size octet) p.request_length)
    ∙ ap (behind_entries octet) (entries_spelled octet fs p.entries (p.speech ++ p.fill) p.frames p.are_entries)
    ∙ ap whole (frames_spelled octet fs p.speech p.fill p.frames p.are_speech)
    ∙ rw (lt-ltb (length p.fill) 8 p.less_than_a_byte) refl

-- ---- received bytes were spelled so

ok_pair : {A B : Type 0} (a c : A) (b d : B) → ◌≡◌ {A = Result (A × B) PacketError} (Ok (a, b)) (Ok (c, d)) → (a ≡ c) × (b ≡ d)
ok_pair {A} {B} a c b d h = let e : ◌≡◌ {A = A × B} (a, b) (c, d) = cc in (ap (λ (t : A × B). t.0) e, ap (λ (t : A × B). t.1) e)

abbrev AllBits : List ℕ → Type 0
AllBits bs = AllByRecursion (λ b. b < 2) bs

bits_are : (n v : ℕ) → AllBits (bits n v)
unfolding bits
bits_are zero v = tt
bits_are (suc n) v = (omega arith, bits_are n v)

all_append : (xs ys : List ℕ) → AllBits xs → AllBits ys → AllBits (xs ++ ys)
all_append [] ys a b = b
all_append (x ∷ xs) ys a b = (a.0, all_append xs ys a.1 b)

all_drop : (n : ℕ) (xs : List ℕ) → AllBits xs → AllBits (drop n xs)
all_drop zero xs a = a
all_drop (suc n) [] a = tt
all_drop (suc n) (x ∷ xs) a = all_drop n xs a.1

bits_of_are : (bytes : List ℕ) → AllBits (bits_of bytes)
bits_of_are [] = tt
bits_of_are (b ∷ bs) = all_append (bits 8 b) (bits_of bs) (bits_are 8 b) (bits_of_are bs)

record AreBits (v a b c d q : ℕ) : Type 0 where
  pub follows : v < 2
  pub first : a < 2
  pub second : b < 2
  pub third : c < 2
  pub fourth : d < 2
  pub last : q < 2

abbrev six : ℕ → ℕ → ℕ → ℕ → ℕ → ℕ → List ℕ
six v a b c d q = v ∷ a ∷ b ∷ c ∷ d ∷ q ∷ []

six_spelled : (v a b c d q : ℕ) (f : Frame) → AreBits v a b c d q → entry_for f ≡ entry_from a b c d q → six v a b c d q ≡ toc_entry v f
unfolding bits
six_spelled v a b c d q f s e =
    let kind : f.kind ≡ 8 * a + 4 * b + 2 * c + d = ap (λ (x : Entry). x.kind) e in
    let quality : f.quality ≡ q = ap (λ (x : Entry). x.quality) e in
    let x0 : v / 1 % 2 ≡ v = omega (arith, s.follows) in
    let x1 : f.kind / 8 % 2 ≡ a = omega (arith, kind, s.first, s.second, s.third, s.fourth) in
    let x2 : f.kind / 4 % 2 ≡ b = omega (arith, kind, s.first, s.second, s.third, s.fourth) in
    let x3 : f.kind / 2 % 2 ≡ c = omega (arith, kind, s.first, s.second, s.third, s.fourth) in
    let x4 : f.kind / 1 % 2 ≡ d = omega (arith, kind, s.first, s.second, s.third, s.fourth) in
    let x5 : f.quality / 1 % 2 ≡ q = omega (arith, quality, s.last) in
    rw (x0, x1, x2, x3, x4, x5) refl

record SmallEntry (e : Entry) : Type 0 where
  pub kind : e.kind < 16
  pub quality : e.quality < 2

small_entry : (v a b c d q : ℕ) → AreBits v a b c d q → SmallEntry (entry_from a b c d q)
small_entry v a b c d q s = record { kind = omega (arith, s.first, s.second, s.third, s.fourth); quality = s.last }

last_spells : (octet : Bool) (v a b c d q : ℕ) (fill : List ℕ) (fs : List Frame) → AreBits v a b c d q → v ≡ 0 → length fill ≡ entry_fill octet
    → map entry_for fs ≡ entry_from a b c d q ∷ [] → AreEntries octet fs (six v a b c d q ++ fill)
last_spells octet v a b c d q fill [] s last size e = cc
last_spells octet v a b c d q fill (f ∷ []) s last size e =
    let first : entry_for f ≡ entry_from a b c d q = cc in
    (fill, size, ap (λ t. t ++ fill) (six_spelled v a b c d q f s first) ∙ ap (λ t. toc_entry t f ++ fill) last)
last_spells octet v a b c d q fill (f ∷ g ∷ fs) s last size e = cc

more_spells : (octet : Bool) (v a b c d q : ℕ) (fill entries : List ℕ) (es : List Entry) (fs : List Frame) → AreBits v a b c d q → v ≡ 1
    → length fill ≡ entry_fill octet → ((gs : List Frame) → map entry_for gs ≡ es → AreEntries octet gs entries)
    → map entry_for fs ≡ entry_from a b c d q ∷ es → AreEntries octet fs (six v a b c d q ++ (fill ++ entries))
more_spells octet v a b c d q fill entries es [] s on size spells e = cc
more_spells octet v a b c d q fill entries es (f ∷ []) s on size spells e = let none : [] ≡ es = cc in absurd (spells [] none)
more_spells octet v a b c d q fill entries es (f ∷ g ∷ fs) s on size spells e =
    let first : entry_for f ≡ entry_from a b c d q = cc in
    let others : map entry_for (g ∷ fs) ≡ es = cc in
    (fill, entries, size, spells (g ∷ fs) others, ap (λ t. t ++ (fill ++ entries)) (six_spelled v a b c d q f s first) ∙ ap (λ t. toc_entry t f ++ (fill ++ entries)) on)

record EntriesFound (octet : Bool) (es : List Entry) (bs rest : List ℕ) : Type 0 where
  pub entries : List ℕ
  pub is : bs ≡ entries ++ rest
  pub small : AllByRecursion SmallEntry es
  pub spells : (fs : List Frame) → map entry_for fs ≡ es → AreEntries octet fs entries
  pub whole : octet ≡ true → length entries % 8 ≡ 0

split_front : (e : Entry) (r : Result (List Entry × List ℕ) PacketError) (es : List Entry) (rest : List ℕ) → with_front (e ∷ []) r ≡ Ok (es, rest)
    → (es' : List Entry) × (r ≡ Ok (es', rest)) × (es ≡ e ∷ es')
split_front e (Ok x) es rest h = let p = ok_pair (e ∷ x.0) es x.1 rest h in (x.0, ap (λ t. Ok (x.0, t)) p.1, sym p.0)
split_front e (Err f) es rest h = cc

fill_whole : (octet : Bool) (v a b c d q : ℕ) (fill : List ℕ) → length fill ≡ entry_fill octet → octet ≡ true → length (six v a b c d q ++ fill) % 8 ≡ 0
fill_whole true v a b c d q fill size o = omega (arith, size)
fill_whole false v a b c d q fill size o = cc

then_found : (octet : Bool) (v a b c d q : ℕ) (fill more : List ℕ) (es : List Entry) (rest : List ℕ) → AreBits v a b c d q → length fill ≡ entry_fill octet
    → entry_then v (entry_from a b c d q) more (entries_at octet more) ≡ Ok (es, rest)
    → ((es' : List Entry) → entries_at octet more ≡ Ok (es', rest) → EntriesFound octet es' more rest) → EntriesFound octet es (six v a b c d q ++ (fill ++ more)) rest
then_found octet v a b c d q fill more es rest s size h others = elim (cases_Bool (eqb v 0)) [
  | inl last ↦
      let zero_is : v ≡ 0 = eqb-true v 0 last in
      let p = ok_pair (entry_from a b c d q ∷ []) es more rest (rw last at h) in
      let es_is : es ≡ entry_from a b c d q ∷ [] = sym p.0 in
      let rest_is : rest ≡ more = sym p.1 in
      record {
        entries = six v a b c d q ++ fill;
        is = ap (λ t. six v a b c d q ++ (fill ++ t)) (sym rest_is);
        small = rw es_is (small_entry v a b c d q s, tt);
        spells = λ fs e. last_spells octet v a b c d q fill fs s zero_is size (e ∙ es_is);
        whole = fill_whole octet v a b c d q fill size;
      }
  | inr follows ↦
      let nonzero = eqb-false v 0 follows in
      let small_v : v < 2 = s.follows in
      let one_is : v ≡ 1 = omega (arith, nonzero) in
      let (es', read, es_is) = split_front (entry_from a b c d q) (entries_at octet more) es rest (rw follows at h) in
      let found = others es' read in
      record {
        entries = six v a b c d q ++ (fill ++ found.entries);
        is = ap (λ t. six v a b c d q ++ t) (ap (λ t. fill ++ t) found.is ∙ sym (append_assoc fill found.entries rest));
        small = rw es_is (small_entry v a b c d q s, found.small);
        spells = λ fs e. more_spells octet v a b c d q fill found.entries es' fs s one_is size found.spells (e ∙ es_is);
        whole = λ o. let here = fill_whole octet v a b c d q fill size o in let there = found.whole o in omega
            (arith, length-append (six v a b c d q) fill, length-append (six v a b c d q) (fill ++ found.entries), length-append fill found.entries);
      }
]

entries_found : (octet : Bool) (bs : List ℕ) (es : List Entry) (rest : List ℕ) → AllBits bs → entries_at octet bs ≡ Ok (es, rest) → EntriesFound octet es bs rest
unfolding entries_at
entries_found false (v ∷ a ∷ b ∷ c ∷ d ∷ q ∷ more) es rest all h =
    then_found false v a b c d q [] more es rest record {
      follows = all.0;
      first = all.1.0;
      second = all.1.1.0;
      third = all.1.1.1.0;
      fourth = all.1.1.1.1.0;
      last =
          all.1.1.1.1.1.0;
    } refl h (λ es' read. entries_found false more es' rest all.1.1.1.1.1.1 read)
entries_found true (v ∷ a ∷ b ∷ c ∷ d ∷ q ∷ x ∷ y ∷ more) es rest all h =
    then_found true v a b c d q (x ∷ y ∷ []) more es rest record
    { follows = all.0; first = all.1.0; second = all.1.1.0; third = all.1.1.1.0; fourth = all.1.1.1.1.0; last = all.1.1.1.1.1.0 } refl h
    (λ es' read. entries_found true more es' rest all.1.1.1.1.1.1.1.1 read)
entries_found octet bs es rest all h = cc

-- one frame after another
record FrameFound (octet : Bool) (e : Entry) (bs frame left : List ℕ) : Type 0 where
  pub n : ℕ
  pub size : speech_size e.kind ≡ Some n
  pub within : n ≤ length bs
  pub frame_is : frame ≡ canonical (record { kind = e.kind; quality = e.quality; speech = take n bs })
  pub left_is : left ≡ drop (cond octet (n + gap n) n) bs

frame_found : (octet : Bool) (e : Entry) (bs frame left : List ℕ) (o : Option ℕ) → speech_size e.kind ≡ o → frame_at octet e bs o ≡ Ok (frame, left) → FrameFound octet e bs frame left
frame_found octet e bs frame left None size h = cc
frame_found octet e bs frame left (Some n) size h = elim (cases_lt (length bs) n) [
  | inl short ↦ let h' = rw (lt-ltb (length bs) n short) at h in cc
  | inr within ↦
      let p = ok_pair (canonical (record { kind = e.kind; quality = e.quality; speech = take n bs })) frame (drop (cond octet (n + gap n) n) bs) left (rw (le-ltb (length bs) n within) at h) in
      record { n = n; size = size; within = within; frame_is = sym p.0; left_is = sym p.1 }
]

record Thens (r : Result (List ℕ × List ℕ) PacketError) (more : List ℕ → Result (List ℕ × List ℕ) PacketError) (frames rest : List ℕ) : Type 0 where
  pub frame : List ℕ
  pub left : List ℕ
  pub others : List ℕ
  pub here : r ≡ Ok (frame, left)
  pub there : more left ≡ Ok (others, rest)
  pub is : frames ≡ frame ++ others

split_with : (frame frames rest : List ℕ) (r : Result (List ℕ × List ℕ) PacketError) → with_frame frame r ≡ Ok (frames, rest) → (others : List ℕ) × (r ≡ Ok (others, rest)) × (frames ≡ frame ++ others)
split_with frame frames rest (Ok x) h = let p = ok_pair (frame ++ x.0) frames x.1 rest h in (x.0, ap (λ t. Ok (x.0, t)) p.1, sym p.0)
split_with frame frames rest (Err e) h = cc

split_then : (r : Result (List ℕ × List ℕ) PacketError) (more : List ℕ → Result (List ℕ × List ℕ) PacketError) (frames rest : List ℕ)
    → then_frames r more ≡ Ok (frames, rest) → Thens r more frames rest
split_then (Err e) more frames rest h = cc
split_then (Ok x) more frames rest h = let (others, read, is) = split_with x.0 frames rest (more x.1) h in record { frame = x.0; left = x.1; others = others; here = refl; there = read; is = is }

fill_there : (octet : Bool) (n size : ℕ) → n ≤ size → (octet ≡ true → size % 8 ≡ 0) → speech_fill octet n ≤ size - n
fill_there true n size within whole = let all = whole refl in omega arith
fill_there false n size within whole = omega arith

fill_sum : (octet : Bool) (n : ℕ) → cond octet (n + gap n) n ≡ n + speech_fill octet n
fill_sum true n = omega arith
fill_sum false n = omega arith

whole_left : (octet : Bool) (n size left : ℕ) → n ≤ size → left ≡ size - cond octet (n + gap n) n → (octet ≡ true → size % 8 ≡ 0) → octet ≡ true → left % 8 ≡ 0
whole_left true n size left within is whole o = let all = whole refl in omega arith
whole_left false n size left within is whole o = cc

record SpeechFound (octet : Bool) (es : List Entry) (bs frames rest : List ℕ) : Type 0 where
  pub fs : List Frame
  pub same : map entry_for fs ≡ es
  pub each : AllByRecursion IsFrame fs
  pub speech : List ℕ
  pub are : AreSpeech octet fs speech
  pub is : bs ≡ speech ++ rest
  pub given : frames ≡ canonicals fs

speech_found : (octet : Bool) (es : List Entry) (bs frames rest : List ℕ) → AllByRecursion SmallEntry es → (octet ≡ true → length bs % 8 ≡ 0)
    → frames_at octet es bs ≡ Ok (frames, rest) → SpeechFound octet es bs frames rest
unfolding frames_at
speech_found octet [] bs frames rest small aligned h = let p = ok_pair [] frames bs rest h in record { fs = []; same = refl; each = tt; speech = []; are = refl; is = p.1; given = sym p.0 }
speech_found octet (e ∷ es) bs frames rest small aligned h =
    let t = split_then (frame_at octet e bs (speech_size e.kind)) (λ left. frames_at octet es left) frames rest h in
    let x = frame_found octet e bs t.frame t.left (speech_size e.kind) refl t.here in
    let k : ℕ = speech_fill octet x.n in
    let fill : List ℕ = take k (drop x.n bs) in
    let within : x.n ≤ length bs = x.within in
    let taken : length (take x.n bs) ≡ x.n = length-take-le x.n bs within in
    let there : k ≤ length (drop x.n bs) = omega (arith, fill_there octet x.n (length bs) within aligned, length-drop x.n bs) in
    let filled : length fill ≡ k = length-take-le k (drop x.n bs) there in
    let left_is : t.left ≡ drop k (drop x.n bs) = x.left_is ∙ ap (λ m. drop m bs) (fill_sum octet x.n) ∙ sym (drop-drop k x.n bs) in
    let left_size : length t.left ≡ length bs - cond octet (x.n + gap x.n) x.n = ap length x.left_is ∙ length-drop (cond octet (x.n + gap x.n) x.n) bs in
    let rec = speech_found octet es t.left t.others rest small.1 (whole_left octet x.n (length bs) (length t.left) within left_size aligned) t.there in
    let f : Frame = record { kind = e.kind; quality = e.quality; speech = take x.n bs } in
    record {
      fs = f ∷ rec.fs;
      same = ap (λ t. e ∷ t) rec.same;
      each = (record { kind = small.0.kind; quality = small.0.quality; size = x.size ∙ ap (λ m. Some m) (sym taken) }, rec.each);
      speech = take x.n bs ++ (fill ++ rec.speech);
      are = (fill, rec.speech, filled ∙ ap (speech_fill octet) (sym taken), rec.are, refl);
      is =
          sym (take-append-drop x.n bs)
          ∙ ap (λ t. take x.n bs ++ t) (sym (take-append-drop k (drop x.n bs)) ∙ ap (λ t. fill ++ t) (sym left_is ∙ rec.is) ∙ sym (append_assoc fill rec.speech rest))
          ∙ sym (append_assoc (take x.n bs) (fill ++ rec.speech) rest);
      given = t.is ∙ ap (λ u. u ++ t.others) x.frame_is ∙ ap (λ u. canonical f ++ u) rec.given;
    }

-- a whole payload
split_whole : (frames : List ℕ) (r : Result (List ℕ × List ℕ) PacketError) → whole r ≡ Ok frames → (rest : List ℕ) × (r ≡ Ok (frames, rest)) × (length rest < 8)
split_whole frames (Err e) h = cc
split_whole frames (Ok x) h = elim (cases_lt (length x.1) 8) [
  | inl few ↦ let h' = rw (lt-ltb (length x.1) 8 few) at h in let same : x.0 ≡ frames = cc in (x.1, ap (λ t. Ok (t, x.1)) same, few)
  | inr many ↦ let h' = rw (le-ltb (length x.1) 8 many) at h in cc
]

split_behind : (octet : Bool) (frames : List ℕ) (r : Result (List Entry × List ℕ) PacketError) → behind_entries octet r ≡ Ok frames → (es : List Entry)
    × (now : List ℕ) × (r ≡ Ok (es, now)) × (whole (frames_at octet es now) ≡ Ok frames)
split_behind octet frames (Err e) h = cc
split_behind octet frames (Ok x) h = (x.0, x.1, refl, h)

request_there : (octet : Bool) (size bytes : ℕ) → size ≡ 8 * bytes → 0 < bytes → request_size octet ≤ size
request_there true size bytes e some = omega arith
request_there false size bytes e some = omega arith

whole_now : (octet : Bool) (size bytes entries now : ℕ) → size ≡ 8 * bytes → 0 < bytes → size - request_size octet ≡ entries + now → (octet ≡ true → entries % 8 ≡ 0) → octet ≡ true → now % 8 ≡ 0
whole_now true size bytes entries now e some sum whole o = let all = whole refl in omega arith
whole_now false size bytes entries now e some sum whole o = cc

bytes_received : (octet : Bool) (payload frames : List ℕ) → 0 < length payload → received octet (bits_of payload) ≡ Ok frames → (fs : List Frame)
    × IsAmrWb octet (bits_of payload) fs × (frames ≡ canonicals fs)
bytes_received octet payload frames some h =
    let all : List ℕ = bits_of payload in
    let k : ℕ = request_size octet in
    let size : length all ≡ 8 * length payload = length-bits_of payload in
    let many : 0 < length all = omega arith in
    let there : k ≤ length all = request_there octet (length all) (length payload) size some in
    let (es, now, read, rest_of) = split_behind octet frames (entries_at octet (drop k all)) (sym (received_some octet all many) ∙ h) in
    let (rest, speaks, few) = split_whole frames (frames_at octet es now) rest_of in
    let found = entries_found octet (drop k all) es now (all_drop k all (bits_of_are payload)) read in
    let sum : length all - k ≡ length found.entries + length now = sym (length-drop k all) ∙ ap length found.is ∙ length-append found.entries now in
    let given = speech_found octet es now frames rest found.small (whole_now octet (length all) (length payload) (length found.entries) (length now) size some sum found.whole) speaks in (
      given.fs,
      record {
        request = take k all;
        entries = found.entries;
        speech = given.speech;
        fill = rest;
        frames = given.each;
        request_length = length-take-le k all there;
        are_entries = found.spells given.fs given.same;
        are_speech = given.are;
        less_than_a_byte = few;
        is = sym (take-append-drop k all) ∙ ap (λ t. take k all ++ t) (found.is ∙ ap (λ t. found.entries ++ t) given.is);
      },
      given.given,
    )

none_received : (octet : Bool) (frames : List ℕ) → received octet [] ≡ Ok frames → frames ≡ []
unfolding received
none_received octet frames h = cc

pub received_is_spelled : ReceivedIsSpelled
received_is_spelled octet [] frames h = inl (refl, none_received octet frames h)
received_is_spelled octet (b ∷ bs) frames h = inr (bytes_received octet (b ∷ bs) frames (omega arith) h)

-- ---- sent frames are spelled so

gap_below : (n : ℕ) → gap n < 8
gap_below n = omega arith

entry_length : (f : Frame) → length (entry f) ≡ 6
unfolding bits
entry_length f = refl

gap_front : (h n : ℕ) → h ≡ 16 → gap (h + n) ≡ gap n
gap_front h n e = omega arith

pub sent_is_spelled : SentIsSpelled
sent_is_spelled false f is =
    let zeros : List ℕ = replicate (gap (length (bits 4 15 ++ entry f ++ f.speech))) 0 in
    let size : length zeros ≡ gap (length (bits 4 15 ++ entry f ++ f.speech)) = length-replicate {A = ℕ} (gap (length (bits 4 15 ++ entry f ++ f.speech))) 0 in
    record {
      request = bits 4 15;
      entries = toc_entry 0 f ++ [];
      speech = f.speech ++ ([] ++ []);
      fill = zeros;
      frames = (is, tt);
      request_length = length-bits 4 15;
      are_entries = ([], refl, refl);
      are_speech = ([], [], refl, refl, refl);
      less_than_a_byte = omega (arith, size, gap_below (length (bits 4 15 ++ entry f ++ f.speech)));
      is = simp (append_assoc, append-nil) refl;
    }
sent_is_spelled true f is =
    let front : List ℕ = bits 4 15 ++ bits 4 0 ++ entry f ++ bits 2 0 in
    let front_size : length front ≡ 16 = omega (
      arith,
      length-append (bits 4 15 ++ bits 4 0 ++ entry f) (bits 2 0),
      length-append (bits 4 15 ++ bits 4 0) (entry f),
      length-append (bits 4 15) (bits 4 0),
      length-bits 4 15,
      length-bits 4 0,
      length-bits 2 0,
      entry_length f,
    ) in
    let zeros : List ℕ = replicate (gap (length (front ++ f.speech))) 0 in
    let size : length zeros ≡ gap (length f.speech) = length-replicate {A = ℕ} (gap (length (front ++ f.speech))) 0 ∙ ap gap (length-append front f.speech)
    ∙ gap_front (length front) (length f.speech) front_size in
    record {
      request = bits 4 15 ++ bits 4 0;
      entries = toc_entry 0 f ++ bits 2 0;
      speech = f.speech ++ (zeros ++ []);
      fill = [];
      frames = (is, tt);
      request_length = omega (arith, length-append (bits 4 15) (bits 4 0), length-bits 4 15, length-bits 4 0);
      are_entries = (bits 2 0, length-bits 2 0, refl);
      are_speech = (zeros, [], size, refl, refl);
      less_than_a_byte = omega arith;
      is = simp (append_assoc, append-nil) refl;
    }
