-- Values of header extensions that were written are read.
use Rattle.std.proofs.Common.{◌≡◌, ℕ, zero, suc, ◌+◌, ◌%◌, ◌^◌, ◌<◌, ◌≤◌, List, [], ◌∷◌, ◌++◌, length, Bool, true, false, not, cond, eqb, ◌&&◌, Option, Some, None, refl, sym, ap, ◌∙◌, arith}
use Rattle.std.specs.Prelude.{IfSome, nat_le, nat_lt}
use Rattle.std.specs.Option.{option_map}
use Rattle.std.specs.Int.{w64, to_be_bytes, from_be_bytes, cast_signed, cast_unsigned}
use Rattle.std.proofs.lemmas.Bool.{and_parts, not-true, eqb-false, eq-eqb, ne_eqb, ltb-true, le-leb, lt-leb}
use Rattle.std.proofs.lemmas.Nat.{from_be_bytes-to_be_bytes_2, from_be_bytes-to_be_bytes_8}
use lib.IntN.{ℤ, pos, negsuc, neg_ℤ}
use Rattle.codec_payload_base.specs.declared.wire.extension.AbsCaptureTime.{AbsCaptureTime}
use Rattle.codec_payload_base.specs.declared.wire.extension.VideoTiming.{VideoTiming}
use Rattle.codec_payload_base.specs.declared.wire.extension.ExtensionValues.{ExtensionValues}
use Rattle.codec_payload_rtp.specs.declared.values.ExtensionIds.{ExtensionIds}
use Rattle.codec_payload_rtp.specs.Elements.{Element}
use Rattle.codec_payload_rtp.specs.ExtensionFormats.{allocation_at, and_then, byte_at, bytes_for, bytes_with, capture_at, level_of, timing_at, timing_bytes, values_in}
use Rattle.codec_payload_rtp.specs.ExtensionWriting.{FitsCapture, FitsTiming, FitsValues, Row, ValuesComeBack, are_ids, audio_byte, capture_bytes, element_for, elements_for, id_fits, ids_fit}
use Rattle.codec_payload_rtp.specs.ExtensionWriting.{is_apart, is_apart_from, is_id, is_speech, kept_by, level_byte, offset_bytes, one_byte, rows_elements, sent_level, values_told}
use Rattle.codec_payload_rtp.specs.RtpPackets.{bit_if}
use Rattle.codec_payload_rtp.proofs.ExtensionLemmas.{elements_again, ids_of, values_fit}

-- ---- the element of an id

skip : (id : ℕ) (other : Option ℕ) (bytes : Option (List ℕ)) (rest : List Element) → is_id id other ≡ false → bytes_with id (element_for other bytes ++ rest) ≡ bytes_with id rest
skip id None bytes rest e = refl
skip id (Some other) None rest e = refl
skip id (Some other) (Some b) rest e = rw (ne_eqb other id (λ h. eqb-false id other e (sym h))) refl

none_with : (id : ℕ) (rows : List Row) → is_apart id (ids_of rows) ≡ true → bytes_with id (rows_elements rows) ≡ None
none_with id [] e = refl
none_with id (r ∷ rows) e =
    let both = and_parts (not (is_id id r.id)) (is_apart id (ids_of rows)) e in
    skip id r.id r.bytes (rows_elements rows) (not-true (is_id id r.id) both.0) ∙ none_with id rows both.1

hit : (id : ℕ) (bytes : Option (List ℕ)) (rows : List Row) → is_apart id (ids_of rows) ≡ true → bytes_with id (element_for (Some id) bytes ++ rows_elements rows) ≡ bytes
hit id None rows e = none_with id rows e
hit id (Some b) rows e = rw (eq-eqb id id refl) refl

apart_in : (o id : ℕ) (bytes : Option (List ℕ)) (before rows : List Row) → is_apart o (ids_of (before ++ record { id = Some id; bytes = bytes } ∷ rows)) ≡ true → eqb o id ≡ false
apart_in o id bytes [] rows e = not-true (eqb o id) (and_parts (not (eqb o id)) (is_apart o (ids_of rows)) e).0
apart_in o id bytes (b ∷ before) rows e = apart_in o id bytes before rows (and_parts (not (is_id o b.id)) (is_apart o (ids_of (before ++ record { id = Some id; bytes = bytes } ∷ rows))) e).1

apart_from : (other : Option ℕ) (id : ℕ) (bytes : Option (List ℕ)) (before rows : List Row) → is_apart_from other (ids_of (before ++ record { id = Some id; bytes = bytes } ∷ rows)) ≡ true → is_id id other ≡ false
apart_from None id bytes before rows e = refl
apart_from (Some o) id bytes before rows e = let apart = apart_in o id bytes before rows e in ne_eqb id o (λ h. eqb-false o id apart (sym h))

at_id : (before : List Row) (id : ℕ) (bytes : Option (List ℕ)) (rows : List Row) → are_ids (ids_of (before ++ record { id = Some id; bytes = bytes } ∷ rows)) ≡ true
    → bytes_with id (rows_elements (before ++ record { id = Some id; bytes = bytes } ∷ rows)) ≡ bytes
at_id [] id bytes rows e =
    let first = and_parts (id_fits (Some id)) (is_apart_from (Some id) (ids_of rows) && are_ids (ids_of rows)) e in
    let others = and_parts (is_apart_from (Some id) (ids_of rows)) (are_ids (ids_of rows)) first.1 in
    hit id bytes rows others.0
at_id (b ∷ before) id bytes rows e =
    let rest : List Row = before ++ record { id = Some id; bytes = bytes } ∷ rows in
    let first = and_parts (id_fits b.id) (is_apart_from b.id (ids_of rest) && are_ids (ids_of rest)) e in
    let others = and_parts (is_apart_from b.id (ids_of rest)) (are_ids (ids_of rest)) first.1 in
    skip id b.id b.bytes (rows_elements rest) (apart_from b.id id bytes before rows others.0) ∙ at_id before id bytes rows others.1

given : (before : List Row) (id : Option ℕ) (bytes : Option (List ℕ)) (rows : List Row) → are_ids (ids_of (before ++ record { id = id; bytes = bytes } ∷ rows)) ≡ true
    → bytes_for id (rows_elements (before ++ record { id = id; bytes = bytes } ∷ rows)) ≡ kept_by id bytes
given before None bytes rows e = refl
given before (Some id) bytes rows e = at_id before id bytes rows e

-- ---- its value

back : {A : Type 0} (id : Option ℕ) (read : List ℕ → Option A) (write : A → List ℕ) (value : Option A) → IfSome value (λ x. read (write x) ≡ Some x) → and_then read (kept_by id (option_map write value)) ≡ kept_by id value
back None read write value h = refl
back (Some id) read write None h = refl
back (Some id) read write (Some x) h = h

capture_back : (time : ℕ) (offset : Option ℤ) → time < 2 ^ 64 → IfSome offset (λ z. (cast_unsigned w64 z < 2 ^ 64) × (cast_signed w64 (cast_unsigned w64 z) ≡ z))
    → capture_at (to_be_bytes w64 time ++ offset_bytes offset) ≡ Some (record { capture_time = time; clock_offset = offset })
capture_back time None small fits = ap (λ (n : ℕ). Some (record { capture_time = n; clock_offset = None })) (from_be_bytes-to_be_bytes_8 time small)
capture_back time (Some z) small fits =
    ap (λ (n : ℕ). Some (record { capture_time = n; clock_offset = Some (cast_signed w64 (from_be_bytes w64 (to_be_bytes w64 (cast_unsigned w64 z)))) })) (from_be_bytes-to_be_bytes_8 time small)
    ∙ ap (λ (n : ℕ). Some (record { capture_time = time; clock_offset = Some (cast_signed w64 n) })) (from_be_bytes-to_be_bytes_8 (cast_unsigned w64 z) fits.0)
    ∙ ap (λ (y : ℤ). Some (record { capture_time = time; clock_offset = Some y })) fits.1

captures : (value : Option AbsCaptureTime) → IfSome value FitsCapture → IfSome value (λ t. capture_at (capture_bytes t) ≡ Some t)
captures None fits = tt
captures (Some t) fits = capture_back t.capture_time t.clock_offset fits.time fits.offset

abbrev timing : ℕ → ℕ → ℕ → ℕ → ℕ → ℕ → ℕ → Option VideoTiming
timing f a b c d n m = Some (record { flags = f; encode_start = a; encode_finish = b; packetize_complete = c; last_left_pacer = d; network_1 = n; network_2 = m })

same_timing : (f a a' b b' c c' d d' n n' m m' : ℕ) → a ≡ a' → b ≡ b' → c ≡ c' → d ≡ d' → n ≡ n' → m ≡ m'
    → timing f a b c d n m ≡ timing f a' b' c' d' n' m'
same_timing f a a' b b' c c' d d' n n' m m' e1 e2 e3 e4 e5 e6 = rw (e1, e2, e3, e4, e5, e6) refl

timings : (value : Option VideoTiming) → IfSome value FitsTiming → IfSome value (λ t. timing_at (timing_bytes t) ≡ Some t)
timings None fits = tt
timings (Some t) fits =
    same_timing t.flags _ t.encode_start _ t.encode_finish _ t.packetize_complete _ t.last_left_pacer _ t.network_1 _ t.network_2
    (from_be_bytes-to_be_bytes_2 t.encode_start fits.encode_start) (from_be_bytes-to_be_bytes_2 t.encode_finish fits.encode_finish)
    (from_be_bytes-to_be_bytes_2 t.packetize_complete fits.packetize_complete) (from_be_bytes-to_be_bytes_2 t.last_left_pacer fits.last_left_pacer)
    (from_be_bytes-to_be_bytes_2 t.network_1 fits.network_1) (from_be_bytes-to_be_bytes_2 t.network_2 fits.network_2)

bytes_again : (value : Option ℕ) → IfSome value (λ b. byte_at (one_byte b) ≡ Some b)
bytes_again None = tt
bytes_again (Some b) = refl

-- ---- the level of the audio

level_if : (voice small : Bool) (n : ℕ) → nat_lt n 127 ≡ small → option_map level_of (cond small (Some (bit_if voice 128 + (n + 1))) None) ≡ cond small (Some (negsuc n)) None
level_if voice false n e = refl
level_if true true n e = let few : n < 127 = ltb-true n 127 e in let m : (128 + (n + 1)) % 128 ≡ suc n = omega (arith, few) in ap (λ (k : ℕ). Some (neg_ℤ (pos k))) m
level_if false true n e = let few : n < 127 = ltb-true n 127 e in let m : (0 + (n + 1)) % 128 ≡ suc n = omega (arith, few) in ap (λ (k : ℕ). Some (neg_ℤ (pos k))) m

level_again : (voice : Bool) (level : Option ℤ) → option_map level_of (and_then (level_byte voice) level) ≡ and_then sent_level level
level_again voice None = refl
level_again true (Some (pos zero)) = refl
level_again false (Some (pos zero)) = refl
level_again voice (Some (pos (suc n))) = refl
level_again voice (Some (negsuc n)) = level_if voice (nat_lt n 127) n refl

voice_if : (voice small : Bool) (n : ℕ) → nat_lt n 127 ≡ small → option_map (nat_le 128) (cond small (Some (bit_if voice 128 + (n + 1))) None) ≡ option_map (λ level. voice) (cond small (Some (negsuc n)) None)
voice_if voice false n e = refl
voice_if true true n e = ap Some (le-leb 128 (128 + (n + 1)) (omega arith))
voice_if false true n e = let few : n < 127 = ltb-true n 127 e in ap Some (lt-leb 128 (0 + (n + 1)) (omega (arith, few)))

voice_again : (voice : Bool) (level : Option ℤ) → option_map (nat_le 128) (and_then (level_byte voice) level) ≡ option_map (λ l. voice) (and_then sent_level level)
voice_again voice None = refl
voice_again true (Some (pos zero)) = refl
voice_again false (Some (pos zero)) = refl
voice_again voice (Some (pos (suc n))) = refl
voice_again voice (Some (negsuc n)) = voice_if voice (nat_lt n 127) n refl

map_kept : {A B : Type 0} (f : A → B) (id : Option ℕ) (value : Option A) → option_map f (kept_by id value) ≡ kept_by id (option_map f value)
map_kept f None value = refl
map_kept f (Some id) value = refl

-- ---- all of them

abbrev values_of : Option AbsCaptureTime → Option ℕ → Option ℕ → Option VideoTiming → Option (List ℕ) → Option ℤ → Option Bool → ExtensionValues
values_of a b c d l v s = record { abs_capture_time = a; video_orientation = b; video_content_type = c; video_timing = d; layers_allocation = l; audio_level = v; voice_activity = s }

same_values : (a a' : Option AbsCaptureTime) (b b' c c' : Option ℕ) (d d' : Option VideoTiming) (l l' : Option (List ℕ)) (v v' : Option ℤ) (s s' : Option Bool) → a ≡ a' → b ≡ b' → c ≡ c' → d ≡ d' → l ≡ l' → v ≡ v' → s ≡ s'
    → values_of a b c d l v s ≡ values_of a' b' c' d' l' v' s'
same_values a a' b b' c c' d d' l l' v v' s s' e1 e2 e3 e4 e5 e6 e7 = rw (e1, e2, e3, e4, e5, e6, e7) refl

read_back : (ids : ExtensionIds) (values : ExtensionValues) → ids_fit ids ≡ true → FitsValues values → values_in ids (elements_for ids values) ≡ values_told ids values
read_back ids values fit fits =
    let r1 : Row = record { id = ids.abs_capture_time; bytes = option_map capture_bytes values.abs_capture_time } in
    let r2 : Row = record { id = ids.video_orientation; bytes = option_map one_byte values.video_orientation } in
    let r3 : Row = record { id = ids.video_content_type; bytes = option_map one_byte values.video_content_type } in
    let r4 : Row = record { id = ids.video_timing; bytes = option_map timing_bytes values.video_timing } in
    let r5 : Row = record { id = ids.layers_allocation; bytes = values.layers_allocation } in
    let r6 : Row = record { id = ids.audio_level; bytes = option_map one_byte (audio_byte values) } in
    let audio : and_then byte_at (bytes_for ids.audio_level (elements_for ids values)) ≡ kept_by ids.audio_level (audio_byte values) =
    ap (and_then byte_at) (given (r1 ∷ r2 ∷ r3 ∷ r4 ∷ r5 ∷ []) ids.audio_level r6.bytes [] fit) ∙ back ids.audio_level byte_at one_byte (audio_byte values) (bytes_again (audio_byte values)) in
    same_values _ _ _ _ _ _ _ _ _ _ _ _ _ _
    (ap (and_then capture_at) (given [] ids.abs_capture_time r1.bytes (r2 ∷ r3 ∷ r4 ∷ r5 ∷ r6 ∷ []) fit) ∙ back ids.abs_capture_time capture_at capture_bytes values.abs_capture_time (captures values.abs_capture_time fits.capture))
    (ap (and_then byte_at) (given (r1 ∷ []) ids.video_orientation r2.bytes (r3 ∷ r4 ∷ r5 ∷ r6 ∷ []) fit) ∙ back ids.video_orientation byte_at one_byte values.video_orientation (bytes_again values.video_orientation))
    (ap (and_then byte_at) (given (r1 ∷ r2 ∷ []) ids.video_content_type r3.bytes (r4 ∷ r5 ∷ r6 ∷ []) fit) ∙ back ids.video_content_type byte_at one_byte values.video_content_type (bytes_again values.video_content_type))
    (ap (and_then timing_at) (given (r1 ∷ r2 ∷ r3 ∷ []) ids.video_timing r4.bytes (r5 ∷ r6 ∷ []) fit) ∙ back ids.video_timing timing_at timing_bytes values.video_timing (timings values.video_timing fits.timing))
    (ap (and_then allocation_at) (given (r1 ∷ r2 ∷ r3 ∷ r4 ∷ []) ids.layers_allocation r5.bytes (r6 ∷ []) fit) ∙ allocated ids.layers_allocation values.layers_allocation fits.layers)
    (ap (option_map level_of) audio ∙ map_kept level_of ids.audio_level (audio_byte values) ∙ ap (kept_by ids.audio_level) (level_again (is_speech values.voice_activity) values.audio_level))
    (ap (option_map (nat_le 128)) audio ∙ map_kept (nat_le 128) ids.audio_level (audio_byte values) ∙ ap (kept_by ids.audio_level) (voice_again (is_speech values.voice_activity) values.audio_level))
  where
    allocated : (id : Option ℕ) (value : Option (List ℕ)) → IfSome value (λ b. length b ≤ 255) → and_then allocation_at (kept_by id value) ≡ kept_by id value
    allocated None value few = refl
    allocated (Some id) None few = refl
    allocated (Some id) (Some b) few = rw (le-leb (length b) 255 few) refl

pub values_again : ValuesComeBack
values_again ids values fit fits =
    ap (values_in ids) (elements_again (elements_for ids values) (values_fit ids values fit fits.layers)) ∙ read_back ids values fit fits
