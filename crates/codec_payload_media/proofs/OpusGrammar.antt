-- Opus packets: spelled bytes are read, and bytes that are read are spelled so.
use Rattle.std.proofs.Common.{◌≡◌, ℕ, zero, suc, ◌+◌, ◌-◌, ◌*◌, ◌/◌, ◌%◌, ◌<◌, ◌≤◌, inl, inr, min, List, [], ◌∷◌, ◌++◌, length, take, drop, Bool, true, false, cond, ltb, leb, eqb, ◌&&◌, ◌||◌, Result, Ok, refl, sym, ap, ◌∙◌, subst, arith, append_assoc, append-nil, length-append}
use Rattle.std.specs.List.{AllByRecursion, concat}
use Rattle.std.proofs.Math.Nat.{div-add-mod, mul-mod_right, mul-div_cancel_left}
use Rattle.std.proofs.lemmas.Bool.{and_parts, cases_lt, eq-eqb, ne_eqb, eqb-true, le-leb, leb-true, lt-ltb, le-ltb, ltb-false}
use Rattle.std.proofs.lemmas.List.{take_at, drop_at, drop-drop, take-append-drop, length-take, length-take-le, length-drop}
use Rattle.std.proofs.lemmas.List.Folds.{concat-append}
use Rattle.codec_payload_base.specs.Flags.{AreBytes}
use Rattle.codec_payload_vpx.specs.declared.error.MediaError.{MediaError}
use Rattle.codec_payload_vpx.specs.declared.error.MediaError.TheVariants as errors
use Rattle.codec_payload_media.specs.declared.opus.OpusPacket.{OpusPacket}
use Rattle.codec_payload_vpx.specs.Reading.{◌>>=◌}
use Rattle.codec_payload_vpx.specs.BitFields.{bit_if}
use Rattle.codec_payload_media.specs.OpusPackets.{AreCoded, AreCounted, AreFrames, AreLengths, IsLength, IsOpusPacket, IsPadding, SaysPadding, alike, apart, counted_at, frames_at}
use Rattle.codec_payload_media.specs.OpusPackets.{frames_if, length_at, lengths_at, long_length, longest, most, opus_at, packet_of, ticks_of, unpadded, unpadded_if, with_last}
use Rattle.codec_payload_vpx.proofs.ReadingLemmas.{bind_ok, bit_is, neither, drop_bytes, take_bytes, guard_ok, then_true, ok_is}

abbrev Frames : Type 0
Frames = List (List ℕ)

abbrev AreSmall : Frames → Type 0
AreSmall frames = AllByRecursion (λ frame. length frame ≤ most) frames

abbrev AreOf : ℕ → Frames → Type 0
AreOf size frames = AllByRecursion (λ frame. length frame ≡ size) frames

-- ---- spelled bytes are read: frames of one length

long_of : (size : ℕ) (frames : Frames) → AreOf size frames → length (concat frames) ≡ length frames * size
long_of size [] are = omega arith
long_of size (frame ∷ frames) (long, are) =
    let both : suc (length frames) * size ≡ size + length frames * size = omega arith in
    omega (arith, both, long, long_of size frames are, length-append frame (concat frames))

size_small : (size : ℕ) (frames : Frames) → 1 ≤ length frames → AreOf size frames → AreSmall frames → size ≤ most
size_small size [] some are small = absurd (omega (arith, some))
size_small size (frame ∷ frames) some (long, are) (fits, small) = omega (arith, long, fits)

alike_is : (n size : ℕ) → 1 ≤ n → size ≤ most → alike n (n * size) ≡ Ok n
alike_is n size some small =
    let even : n * size % n ≡ 0 = mul-mod_right n size in
    let each : n * size / n ≡ size = mul-div_cancel_left size (omega (arith, some)) in
    rw (even, each, le-leb size most small) refl

alike_again : (size : ℕ) (frames : Frames) → 1 ≤ length frames → AreSmall frames → AreOf size frames → alike (length frames) (length (concat frames)) ≡ Ok (length frames)
alike_again size frames some small are = ap (alike (length frames)) (long_of size frames are) ∙ alike_is (length frames) size some (size_small size frames some are small)

-- ---- frames with explicit lengths

length_again : (n : ℕ) (text rest : List ℕ) → IsLength n text → length_at (text ++ rest) ≡ Ok (n, rest)
length_again n text rest (inl (small, is)) = rw (is, lt-ltb n 252 small) refl
length_again n text rest (inr long) = rw (long.spelled, le-ltb long.low 252 long.least, long.is) refl

lengths_again : (frames : Frames) (text rest : List ℕ) (sum : ℕ) → AreLengths frames text → lengths_at (length frames) sum (text ++ rest) ≡ Ok (sum + length (concat frames), rest)
unfolding lengths_at
lengths_again [] text rest sum is = let none : sum + 0 ≡ sum = omega arith in rw (is, none) refl
lengths_again (frame ∷ frames) text rest sum (first, others, is, length_is, are) =
    let whole : text ++ rest ≡ first ++ (others ++ rest) = ap (λ (t : List ℕ). t ++ rest) is ∙ append_assoc first others rest in
    let sums : sum + length frame + length (concat frames) ≡ sum + length (frame ++ concat frames) = omega (arith, length-append frame (concat frames)) in
    rw (whole, length_again (length frame) first (others ++ rest) length_is, lengths_again frames others rest (sum + length frame) are, sums) refl

last_small : (firsts : Frames) (last : List ℕ) → AreSmall (firsts ++ last ∷ []) → length last ≤ most
last_small [] last small = small.0
last_small (frame ∷ firsts) last (fits, small) = last_small firsts last small

with_last_is : (count sum size : ℕ) → sum ≤ size → size ≤ sum + most → with_last count sum size ≡ Ok count
with_last_is count sum size room small = rw (le-ltb size sum room, le-ltb most (size - sum) (omega (arith, small))) refl

apart_again : (firsts : Frames) (last text : List ℕ) → AreLengths firsts text → length last ≤ most → apart (length (firsts ++ last ∷ [])) (text ++ concat (firsts ++ last ∷ [])) ≡ Ok (length (firsts ++ last ∷ []))
apart_again firsts last text are small =
    let n : ℕ = length (firsts ++ last ∷ []) in
    let fewer : n - 1 ≡ length firsts = omega (arith, length-append firsts (last ∷ [])) in
    let bytes : List ℕ = concat (firsts ++ last ∷ []) in
    let long : length bytes ≡ length (concat firsts) + length last = omega (arith, ap length (concat-append firsts (last ∷ [])), length-append (concat firsts) (last ++ []), length-append last []) in
    rw (fewer, lengths_again firsts text bytes 0 are) (with_last_is n (0 + length (concat firsts)) (length bytes) (omega (arith, long)) (omega (arith, long, small)))

frames_again : (told : Bool) (frames : Frames) (bytes : List ℕ) → 1 ≤ length frames → AreSmall frames → AreFrames told frames bytes → frames_if told (length frames) bytes ≡ Ok (length frames)
frames_again false frames bytes some small (size, are, is) = ap (λ (b : List ℕ). alike (length frames) (length b)) is ∙ alike_again size frames some small are
frames_again true frames bytes some small (text, firsts, last, is, are, spelled) =
    let fits : AreSmall (firsts ++ last ∷ []) = subst AreSmall is small in
    rw (spelled, is) (apart_again firsts last text are (last_small firsts last fits))

-- ---- padding

at_most : (b : ℕ) → b < 255 → min b 254 ≡ b
at_most b small = omega (arith, small)

last_of_padding : (room b : ℕ) (content padding : List ℕ) → b < 255 → room ≡ 1 + length content + b → unpadded room (b ∷ (content ++ padding)) ≡ Ok content
unfolding unpadded
last_of_padding room b content padding small is =
    let used : room - (1 + b) ≡ length content = omega (arith, is) in
    rw (at_most b small, le-ltb room (1 + b) (omega (arith, is)), lt-ltb b 255 small, used) (ap (λ (t : List ℕ). Ok t) (take_at content padding (length content) refl))

more_padding : (room : ℕ) (rest : List ℕ) → 255 ≤ room → unpadded room (255 ∷ rest) ≡ unpadded (room - 255) rest
unfolding unpadded
more_padding room rest enough = rw (le-ltb room 255 enough) refl

padding_again : (text : List ℕ) (n room : ℕ) (content padding : List ℕ) → SaysPadding text n → room ≡ length text + length content + n → unpadded room (text ++ (content ++ padding)) ≡ Ok content
padding_again [] n room content padding says is = absurd says
padding_again (b ∷ []) n room content padding (small, same) is = last_of_padding room b content padding small (omega (arith, is, same))
padding_again (b ∷ c ∷ text) n room content padding (all, m, same, says) is =
    ap (λ (k : ℕ). unpadded room (k ∷ c ∷ (text ++ (content ++ padding)))) all
    ∙ more_padding room (c ∷ (text ++ (content ++ padding))) (omega (arith, is, same))
    ∙ padding_again (c ∷ text) m (room - 255) content padding says (omega (arith, is, same))

unpadded_again : (padded : Bool) (text content padding : List ℕ) → IsPadding padded text padding → unpadded_if padded (text ++ (content ++ padding)) ≡ Ok content
unpadded_again false text content padding (none, nothing) = rw (none, nothing) (ap (λ (t : List ℕ). Ok t) (append-nil content))
unpadded_again true text content padding says =
    padding_again text (length padding) (length (text ++ (content ++ padding))) content padding says (omega (arith, length-append text (content ++ padding), length-append content padding))

-- ---- code 3

abbrev header : ℕ → Bool → Bool → ℕ
header count padded told = count + bit_if padded 64 + bit_if told 128

abbrev HasFields : ℕ → ℕ → Bool → Bool → Type 0
HasFields b count padded told = (b % 64 ≡ count) × (eqb (b / 64 % 2) 1 ≡ padded) × (eqb (b / 128) 1 ≡ told)

fields_of : (count : ℕ) (padded told : Bool) (b : ℕ) → count < 64 → b ≡ header count padded told → HasFields b count padded told
fields_of count false false b small is = (omega (arith, is, small), ne_eqb (b / 64 % 2) 1 (λ h. omega (arith, h, is, small)), ne_eqb (b / 128) 1 (λ h. omega (arith, h, is, small)))
fields_of count false true b small is = (omega (arith, is, small), ne_eqb (b / 64 % 2) 1 (λ h. omega (arith, h, is, small)), eq-eqb (b / 128) 1 (omega (arith, is, small)))
fields_of count true false b small is = (omega (arith, is, small), eq-eqb (b / 64 % 2) 1 (omega (arith, is, small)), ne_eqb (b / 128) 1 (λ h. omega (arith, h, is, small)))
fields_of count true true b small is = (omega (arith, is, small), eq-eqb (b / 64 % 2) 1 (omega (arith, is, small)), eq-eqb (b / 128) 1 (omega (arith, is, small)))

counted_is : (ticks b count : ℕ) (padded told : Bool) (rest content : List ℕ) → HasFields b count padded told → 1 ≤ count → count * ticks ≤ longest → unpadded_if padded rest ≡ Ok content → counted_at ticks (b ∷ rest) ≡ frames_if told count content
counted_is ticks b count padded told rest content (number, pad, vary) some short is =
    rw (number, pad, vary, ne_eqb count 0 (λ h. omega (arith, h, some)), le-ltb longest (count * ticks) short, is) refl

counted_again : (ticks : ℕ) (frames : Frames) (bytes : List ℕ) → 1 ≤ length frames → AreSmall frames → AreCounted ticks frames bytes → counted_at ticks bytes ≡ Ok (length frames)
counted_again ticks frames bytes some small are =
    let has = fields_of (length frames) are.padded are.told (header (length frames) are.padded are.told) are.few refl in
    ap (counted_at ticks) are.is
    ∙ counted_is ticks (header (length frames) are.padded are.told) (length frames) are.padded are.told (are.size ++ (are.frames_bytes ++ are.padding)) are.frames_bytes has some are.short (unpadded_again are.padded are.size are.frames_bytes are.padding are.is_padding)
    ∙ frames_again are.told frames are.frames_bytes some small are.are

coded_again : (ticks code : ℕ) (frames : Frames) (bytes : List ℕ) → 1 ≤ length frames → AreSmall frames → AreCoded ticks code frames bytes → frames_at ticks code bytes ≡ Ok (length frames)
coded_again ticks zero frames bytes some small (one, are) = ap (λ (n : ℕ). alike n (length bytes)) (sym one) ∙ frames_again false frames bytes some small are
coded_again ticks (suc zero) frames bytes some small (two, are) = ap (λ (n : ℕ). alike n (length bytes)) (sym two) ∙ frames_again false frames bytes some small are
coded_again ticks (suc (suc zero)) frames bytes some small (two, are) = ap (λ (n : ℕ). apart n bytes) (sym two) ∙ frames_again true frames bytes some small are
coded_again ticks (suc (suc (suc k))) frames bytes some small are =
    let c : ℕ = suc (suc (suc k)) in
    rw (ne_eqb c 0 (λ h. omega (arith, h)), ne_eqb c 1 (λ h. omega (arith, h)), ne_eqb c 2 (λ h. omega (arith, h))) (counted_again ticks frames bytes some small are)

pub opus_again : (packet : List ℕ) (p : OpusPacket) → IsOpusPacket packet p → opus_at packet ≡ Ok p
opus_again packet p is =
    ap opus_at is.is
    ∙ ap (λ (r : Result ℕ MediaError). r >>= λ frames. Ok (packet_of is.toc frames)) (coded_again (ticks_of (is.toc / 8)) (is.toc % 4) is.frames is.bytes is.some is.small is.are)
    ∙ ap (λ (x : OpusPacket). Ok x) (sym is.says)

-- ---- bytes that are read are spelled so: frames of one length

abbrev cuts : ℕ → ℕ → List ℕ → Frames
cuts zero size bytes = []
cuts (suc n) size bytes = take size bytes ∷ cuts n size (drop size bytes)

cuts_many : (n size : ℕ) (bytes : List ℕ) → length (cuts n size bytes) ≡ n
cuts_many zero size bytes = refl
cuts_many (suc n) size bytes = let e = cuts_many n size (drop size bytes) in omega (arith, e)

cuts_small : (n size : ℕ) (bytes : List ℕ) → size ≤ most → AreSmall (cuts n size bytes)
cuts_small zero size bytes small = tt
cuts_small (suc n) size bytes small = (omega (arith, small, length-take size bytes), cuts_small n size (drop size bytes) small)

cuts_of : (n size : ℕ) (bytes : List ℕ) → n * size ≤ length bytes → AreOf size (cuts n size bytes)
cuts_of zero size bytes room = tt
cuts_of (suc n) size bytes room =
    let both : suc n * size ≡ size + n * size = omega arith in
    (length-take-le size bytes (omega (arith, room, both)), cuts_of n size (drop size bytes) (omega (arith, room, both, length-drop size bytes)))

cuts_whole : (n size : ℕ) (bytes : List ℕ) → length bytes ≡ n * size → bytes ≡ concat (cuts n size bytes)
cuts_whole zero size [] long = refl
cuts_whole zero size (b ∷ bytes) long = let none : 0 * size ≡ 0 = omega arith in absurd (omega (arith, long, none))
cuts_whole (suc n) size bytes long =
    let both : suc n * size ≡ size + n * size = omega arith in
    sym (take-append-drop size bytes) ∙ ap (λ (t : List ℕ). take size bytes ++ t) (cuts_whole n size (drop size bytes) (omega (arith, long, both, length-drop size bytes)))

-- the frames of a reading with an explicit number
record Told (told : Bool) (n : ℕ) (bytes : List ℕ) : Type 0 where
  frames : Frames
  many : length frames ≡ n
  small : AreSmall frames
  are : AreFrames told frames bytes

alike_taken : (count n : ℕ) (bytes : List ℕ) → alike count (length bytes) ≡ Ok n → (count ≡ n) × Told false n bytes
alike_taken count n bytes e =
    let size : ℕ = length bytes / count in
    let t = then_true (eqb (length bytes % count) 0 && leb size most) (Ok count) errors.SizesDoNotFit n e in
    let both = and_parts (eqb (length bytes % count) 0) (leb size most) t.0 in
    let even : length bytes % count ≡ 0 = eqb-true _ _ both.0 in
    let small : size ≤ most = leb-true _ _ both.1 in
    let long : length bytes ≡ count * size = omega (arith, div-add-mod (length bytes) count, even) in
    let same : count ≡ n = ok_is count n t.1 in (
      same,
      record {
        frames = cuts count size bytes;
        many = cuts_many count size bytes ∙ same;
        small = cuts_small count size bytes small;
        are = (size, cuts_of count size bytes (omega (arith, long)), cuts_whole count size bytes long);
      },
    )

-- ---- frames with explicit lengths

record TookLength (bytes : List ℕ) (x : ℕ × List ℕ) : Type 0 where
  text : List ℕ
  is_length : IsLength x.0 text
  parts : bytes ≡ text ++ x.1
  small : x.0 ≤ most
  bytes_left : AreBytes x.1

length_taken : (bytes : List ℕ) (x : ℕ × List ℕ) → AreBytes bytes → length_at bytes ≡ Ok x → TookLength bytes x
length_taken [] x are e = cc
length_taken (low ∷ rest) x are e =
    elim (cases_lt low 252) [
      | inl small ↦ subst (TookLength (low ∷ rest)) (ok_is (low, rest) x (rw (lt-ltb low 252 small) at e)) record { text = low ∷ []; is_length = inl (small, refl); parts = refl; small = omega (arith, small); bytes_left = drop_bytes 1 (low ∷ rest) are }
      | inr large ↦ of_two rest are large (rw (le-ltb low 252 large) at e)
    ]
  where
    of_two : (rest : List ℕ) → AreBytes (low ∷ rest) → 252 ≤ low → long_length low rest ≡ Ok x → TookLength (low ∷ rest) x
    of_two [] are large e = absurd cc
    of_two (high ∷ rest) are large e =
        subst (TookLength (low ∷ high ∷ rest)) (ok_is (low + 4 * high, rest) x e) record {
          text = low ∷ high ∷ [];
          is_length = inr (record { low = low; high = high; least = large; is = refl; spelled = refl });
          parts = refl;
          small = omega (arith, are 0, are 1);
          bytes_left = drop_bytes 2 (low ∷ high ∷ rest) are;
        }

-- frames of these lengths
abbrev cut_by : List ℕ → List ℕ → Frames
cut_by [] bytes = []
cut_by (n ∷ ns) bytes = take n bytes ∷ cut_by ns (drop n bytes)

abbrev total : List ℕ → ℕ
total [] = 0
total (n ∷ ns) = n + total ns

abbrev AreLengthsOf : List ℕ → List ℕ → Type 0
AreLengthsOf [] text = text ≡ []
AreLengthsOf (n ∷ ns) text = (first : List ℕ) × (others : List ℕ) × (text ≡ first ++ others) × IsLength n first × AreLengthsOf ns others

record TookLengths (n sum : ℕ) (bytes : List ℕ) (x : ℕ × List ℕ) : Type 0 where
  ns : List ℕ
  many : length ns ≡ n
  text : List ℕ
  are : AreLengthsOf ns text
  parts : bytes ≡ text ++ x.1
  sums : x.0 ≡ sum + total ns
  small : AllByRecursion (λ k. k ≤ most) ns

lengths_taken : (n sum : ℕ) (bytes : List ℕ) (x : ℕ × List ℕ) → AreBytes bytes → lengths_at n sum bytes ≡ Ok x → TookLengths n sum bytes x
unfolding lengths_at
lengths_taken zero sum bytes x are e =
    subst (TookLengths zero sum bytes) (ok_is (sum, bytes) x e) record { ns = []; many = refl; text = []; are = refl; parts = refl; sums = omega arith; small = tt }
lengths_taken (suc n) sum bytes x are e =
    let a = bind_ok (length_at bytes) (λ first. lengths_at n (sum + first.0) first.1) x e in
    let f = length_taken bytes a.0 are a.1 in
    let t = lengths_taken n (sum + a.0.0) a.0.1 x f.bytes_left a.2 in
    record {
      ns = a.0.0 ∷ t.ns;
      many = omega (arith, t.many);
      text = f.text ++ t.text;
      are = (f.text, t.text, refl, f.is_length, t.are);
      parts = f.parts ∙ ap (λ (r : List ℕ). f.text ++ r) t.parts ∙ sym (append_assoc f.text t.text x.1);
      sums = omega (arith, t.sums);
      small = (f.small, t.small);
    }

cut_lengths : (ns text bytes : List ℕ) → AreLengthsOf ns text → total ns ≤ length bytes → AreLengths (cut_by ns bytes) text
cut_lengths [] text bytes is room = is
cut_lengths (n ∷ ns) text bytes (first, others, is, length_is, are) room =
    let long : length (take n bytes) ≡ n = length-take-le n bytes (omega (arith, room)) in
    (first, others, is, subst (λ (k : ℕ). IsLength k first) (sym long) length_is, cut_lengths ns others (drop n bytes) are (omega (arith, room, length-drop n bytes)))

cut_many : (ns bytes : List ℕ) → length (cut_by ns bytes) ≡ length ns
cut_many [] bytes = refl
cut_many (n ∷ ns) bytes = let e = cut_many ns (drop n bytes) in omega (arith, e)

cut_whole : (ns bytes : List ℕ) → bytes ≡ concat (cut_by ns bytes ++ drop (total ns) bytes ∷ [])
cut_whole [] bytes = sym (append-nil bytes)
cut_whole (n ∷ ns) bytes =
    sym (take-append-drop n bytes)
    ∙ ap (λ (t : List ℕ). take n bytes ++ t) (cut_whole ns (drop n bytes) ∙ ap (λ (t : List ℕ). concat (cut_by ns (drop n bytes) ++ t ∷ [])) (drop-drop (total ns) n bytes))

cut_small : (ns bytes last : List ℕ) → AllByRecursion (λ k. k ≤ most) ns → length last ≤ most → AreSmall (cut_by ns bytes ++ last ∷ [])
cut_small [] bytes last small fits = (fits, tt)
cut_small (n ∷ ns) bytes last (first, small) fits = (omega (arith, first, length-take n bytes), cut_small ns (drop n bytes) last small fits)

apart_taken : (count n : ℕ) (bytes : List ℕ) → 1 ≤ count → AreBytes bytes → apart count bytes ≡ Ok n → (count ≡ n) × Told true n bytes
apart_taken count n bytes some are e =
    let a = bind_ok (lengths_at (count - 1) 0 bytes) (λ lengths. with_last count lengths.0 (length lengths.1)) n e in
    let t = lengths_taken (count - 1) 0 bytes a.0 are a.1 in
    let rest : List ℕ = a.0.1 in
    let g = guard_ok (ltb (length rest) a.0.0 || ltb most (length rest - a.0.0)) errors.SizesDoNotFit (Ok count) n a.2 in
    let both = neither (ltb (length rest) a.0.0) (ltb most (length rest - a.0.0)) g.0 in
    let room : a.0.0 ≤ length rest = ltb-false _ _ both.0 in
    let fits : length rest - a.0.0 ≤ most = ltb-false _ _ both.1 in
    let same : count ≡ n = ok_is count n g.1 in
    let last : List ℕ = drop (total t.ns) rest in (
      same,
      record {
        frames = cut_by t.ns rest ++ last ∷ [];
        many = omega (arith, length-append (cut_by t.ns rest) (last ∷ []), cut_many t.ns rest, t.many, some, same);
        small = cut_small t.ns rest last t.small (omega (arith, fits, t.sums, length-drop (total t.ns) rest));
        are = (t.text, cut_by t.ns rest, last, refl, cut_lengths t.ns t.text rest t.are (omega (arith, room, t.sums)), t.parts ∙ ap (λ (r : List ℕ). t.text ++ r) (cut_whole t.ns rest));
      },
    )

frames_taken : (told : Bool) (count n : ℕ) (bytes : List ℕ) → 1 ≤ count → AreBytes bytes → frames_if told count bytes ≡ Ok n → (count ≡ n) × Told told n bytes
frames_taken false count n bytes some are e = alike_taken count n bytes e
frames_taken true count n bytes some are e = apart_taken count n bytes some are e

-- ---- padding

record TookPadding (already : ℕ) (bytes content : List ℕ) : Type 0 where
  text : List ℕ
  padding : List ℕ
  number : ℕ
  says : SaysPadding text number
  long : length padding ≡ already + number
  parts : bytes ≡ text ++ (content ++ padding)

says_more : (text : List ℕ) (m : ℕ) → SaysPadding text m → SaysPadding (255 ∷ text) (254 + m)
says_more [] m says = absurd says
says_more (b ∷ text) m says = (refl, m, refl, says)

is_255 : (b : ℕ) → b < 256 → 255 ≤ b → b ≡ 255
is_255 b small large = omega (arith, small, large)

module _ (b : ℕ) (rest content : List ℕ) (are : AreBytes (b ∷ rest)) where
  abbrev Took : ℕ → Type 0
  Took already = TookPadding already (b ∷ rest) content

  last_taken : (already room : ℕ) → b < 255 → 1 + b ≤ room → already + room ≡ suc (length rest) → take (room - (1 + b)) rest ≡ content → Took already
  last_taken already room small enough is cut =
      let k : ℕ = room - (1 + b) in
      let long : length (drop k rest) ≡ length rest - k = length-drop k rest in
      record {
        text = b ∷ [];
        padding = drop k rest;
        number = b;
        says = (small, refl);
        long = omega (arith, long, enough, is);
        parts = ap (λ (t : List ℕ). b ∷ t) (sym (take-append-drop k rest) ∙ ap (λ (t : List ℕ). t ++ drop k rest) cut);
      }

  more_taken : (already : ℕ) → 255 ≤ b → TookPadding (already + 254) rest content → Took already
  more_taken already large t =
      let first : b ≡ 255 = is_255 b (are 0) large in
      record {
        text = 255 ∷ t.text;
        padding = t.padding;
        number = 254 + t.number;
        says = says_more t.text t.number t.says;
        long = omega (arith, t.long);
        parts = ap (λ (k : ℕ). k ∷ rest) first ∙ ap (λ (r : List ℕ). 255 ∷ r) t.parts;
      }

padding_taken : (already room : ℕ) (bytes content : List ℕ) → AreBytes bytes → already + room ≡ length bytes → unpadded room bytes ≡ Ok content → TookPadding already bytes content
unfolding unpadded
padding_taken already room [] content are is e = cc
padding_taken already room (b ∷ rest) content are is e =
    let used : ℕ = 1 + min b 254 in
    let g = guard_ok (ltb room used) errors.SizesDoNotFit (cond (ltb b 255) (Ok (take (room - used) rest)) (unpadded (room - used) rest)) content e in
    let enough : used ≤ room = ltb-false _ _ g.0 in
    elim (cases_lt b 255) [
      | inl small ↦
          let one : min b 254 ≡ b = at_most b small in
          let cut : take (room - used) rest ≡ content = ok_is (take (room - used) rest) content (rw (lt-ltb b 255 small) at g.1) in
          last_taken b rest content are already room small (omega (arith, enough, one)) is (ap (λ (k : ℕ). take (room - (1 + k)) rest) (sym one) ∙ cut)
      | inr large ↦
          let all : min b 254 ≡ 254 = omega (arith, large) in
          more_taken b rest content are already large (padding_taken (already + 254) (room - used) rest content (drop_bytes 1 (b ∷ rest) are) (omega (arith, is, all, enough)) (rw (le-ltb b 255 large) at g.1))
    ]

-- ---- code 3

abbrev PaddedSo : Bool → List ℕ → List ℕ → Type 0
PaddedSo padded bytes content = (text : List ℕ) × (padding : List ℕ) × IsPadding padded text padding × (bytes ≡ text ++ (content ++ padding))

unpadded_taken : (padded : Bool) (bytes content : List ℕ) → AreBytes bytes → unpadded_if padded bytes ≡ Ok content → PaddedSo padded bytes content
unpadded_taken false bytes content are e = ([], [], (refl, refl), ok_is bytes content e ∙ sym (append-nil content))
unpadded_taken true bytes content are e =
    let t = padding_taken 0 (length bytes) bytes content are (omega arith) e in
    let long : t.number ≡ length t.padding = omega (arith, t.long) in
    (t.text, t.padding, subst (λ (k : ℕ). SaysPadding t.text k) long t.says, t.parts)

header_is : (b : ℕ) → b < 256 → header (b % 64) (eqb (b / 64 % 2) 1) (eqb (b / 128) 1) ≡ b
header_is b small = omega (arith, bit_is (b / 64 % 2) 64 (omega arith), bit_is (b / 128) 128 (omega (arith, small)), small)

middle_bytes : (text content padding : List ℕ) → AreBytes (text ++ (content ++ padding)) → AreBytes content
middle_bytes text content padding are =
    let behind : AreBytes (content ++ padding) = subst AreBytes (drop_at text (content ++ padding) (length text) refl) (drop_bytes (length text) (text ++ (content ++ padding)) are) in
    subst AreBytes (take_at content padding (length content) refl) (take_bytes (length content) (content ++ padding) behind)

-- the frames of a packet of this code
record TookFrames (ticks code n : ℕ) (bytes : List ℕ) : Type 0 where
  frames : Frames
  many : length frames ≡ n
  some : 1 ≤ n
  small : AreSmall frames
  are : AreCoded ticks code frames bytes

counted_taken : (ticks n : ℕ) (bytes : List ℕ) → AreBytes bytes → counted_at ticks bytes ≡ Ok n → TookFrames ticks 3 n bytes
counted_taken ticks n [] are e = cc
counted_taken ticks n (b ∷ rest) are e =
    let padded : Bool = eqb (b / 64 % 2) 1 in
    let told : Bool = eqb (b / 128) 1 in
    let g = guard_ok (eqb (b % 64) 0 || ltb longest (b % 64 * ticks)) errors.ReservedValue (unpadded_if padded rest >>= frames_if told (b % 64)) n e in
    let allowed = neither (eqb (b % 64) 0) (ltb longest (b % 64 * ticks)) g.0 in
    let some : 1 ≤ b % 64 = above_zero (b % 64) allowed.0 in
    let a = bind_ok (unpadded_if padded rest) (frames_if told (b % 64)) n g.1 in
    let rest_bytes : AreBytes rest = drop_bytes 1 (b ∷ rest) are in
    let u = unpadded_taken padded rest a.0 rest_bytes a.1 in
    let f = frames_taken told (b % 64) n a.0 some (middle_bytes u.0 a.0 u.1 (subst AreBytes u.3 rest_bytes)) a.2 in
    let number : b % 64 ≡ length f.1.frames = f.0 ∙ sym f.1.many in
    record {
      frames = f.1.frames;
      many = f.1.many;
      some = omega (arith, some, f.0);
      small = f.1.small;
      are = record {
        few = omega (arith, number);
        short = subst (λ (k : ℕ). k * ticks ≤ longest) number (ltb-false _ _ allowed.1);
        told = told;
        padded = padded;
        size = u.0;
        padding = u.1;
        is_padding = u.2;
        frames_bytes = a.0;
        are = f.1.are;
        is = ap (λ (k : ℕ). k ∷ rest) (sym (header_is b (are 0)) ∙ ap (λ (k : ℕ). header k padded told) number) ∙ ap (λ (t : List ℕ). header (length f.1.frames) padded told ∷ t) u.3;
      };
    }
  where
    above_zero : (k : ℕ) → eqb k 0 ≡ false → 1 ≤ k
    above_zero zero e = absurd cc
    above_zero (suc k) e = omega arith

coded_taken : (ticks code n : ℕ) (bytes : List ℕ) → code < 4 → AreBytes bytes → frames_at ticks code bytes ≡ Ok n → TookFrames ticks code n bytes
coded_taken ticks zero n bytes small are e =
    let t = alike_taken 1 n bytes e in
    record { frames = t.1.frames; many = t.1.many; some = omega (arith, t.0); small = t.1.small; are = (t.1.many ∙ sym t.0, t.1.are) }
coded_taken ticks (suc zero) n bytes small are e =
    let t = alike_taken 2 n bytes e in
    record { frames = t.1.frames; many = t.1.many; some = omega (arith, t.0); small = t.1.small; are = (t.1.many ∙ sym t.0, t.1.are) }
coded_taken ticks (suc (suc zero)) n bytes small are e =
    let t = apart_taken 2 n bytes (omega arith) are e in
    record { frames = t.1.frames; many = t.1.many; some = omega (arith, t.0); small = t.1.small; are = (t.1.many ∙ sym t.0, t.1.are) }
coded_taken ticks (suc (suc (suc zero))) n bytes small are e = counted_taken ticks n bytes are e
coded_taken ticks (suc (suc (suc (suc k)))) n bytes small are e = absurd (omega (arith, small))

pub opus_taken : (packet : List ℕ) (p : OpusPacket) → AreBytes packet → opus_at packet ≡ Ok p → IsOpusPacket packet p
opus_taken [] p are e = absurd cc
opus_taken (toc ∷ rest) p are e =
    let a = bind_ok (frames_at (ticks_of (toc / 8)) (toc % 4) rest) (λ frames. Ok (packet_of toc frames)) p e in
    let t = coded_taken (ticks_of (toc / 8)) (toc % 4) a.0 rest (omega arith) (drop_bytes 1 (toc ∷ rest) are) a.1 in
    record {
      toc = toc;
      frames = t.frames;
      bytes = rest;
      is = refl;
      some = omega (arith, t.some, t.many);
      small = t.small;
      are = t.are;
      says = sym (ok_is (packet_of toc a.0) p a.2) ∙ ap (packet_of toc) (sym t.many);
    }
