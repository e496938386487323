-- The packets of a frame in the output buffer.
use Rattle.std.proofs.Common.{◌≡◌, ◌∙◌, sym, ap, refl, ℕ, zero, suc, ◌+◌, ◌<◌, ◌≤◌, ◌==◌, ◌&&◌, ◌||◌, Bool, true, Some, Result, List, [], ◌∷◌, ◌++◌, length, take, drop, get_or, slice_get, slice_set, arith, append_assoc, length-append}
use Rattle.std.proofs.Math.Seq.{take-add}
use Rattle.std.proofs.lemmas.List.{take_at, drop_at, take_more, drop_more, drop-drop, drop-set-lt, length-take, length-drop, take-append-drop}
use Rattle.codec_payload_core.specs.Packetizers.{PacketizerState, PacketizerStep, Vp8Packetizing, Vp9Packetizing, BoxedPacketizing, is_built_in, marker_of, talk_spurt_of, nackable_of}
use Rattle.codec_payload_core.specs.declared.error.PacketError.{PacketError}
use Rattle.codec_payload_c_packets.specs.Frames.{capped, laid, placed_at, rooms_in, size_with}
use Rattle.codec_payload_c_packets.specs.declared.frames.FrameCut.{FrameCut}

-- ---- sizes

-- the payloads in front of a place and the other payloads need as much as all payloads
pub size_split : (rooms : ℕ) (ps : List (List ℕ)) (i : ℕ) → size_with rooms (take i ps) + size_with rooms (drop i ps) ≡ size_with rooms ps
size_split rooms ps zero = omega arith
size_split rooms [] (suc i) = omega arith
size_split rooms (p ∷ ps) (suc i) = omega (arith, size_split rooms ps i)

size_append : (rooms : ℕ) (ps qs : List (List ℕ)) → size_with rooms (ps ++ qs) ≡ size_with rooms ps + size_with rooms qs
size_append rooms [] qs = omega arith
size_append rooms (p ∷ ps) qs = omega (arith, size_append rooms ps qs)

-- one more payload in front of the place
pub size_more : (rooms : ℕ) (ps : List (List ℕ)) (i : ℕ) → i < length ps
    → size_with rooms (take (i + 1) ps) ≡ size_with rooms (take i ps) + (rooms + length (get_or ps i []))
size_more rooms ps i below =
    ap (size_with rooms) (take_more ps i [] below) ∙ size_append rooms (take i ps) (get_or ps i [] ∷ []) ∙ omega arith

-- one payload less after it
pub size_left : (rooms : ℕ) (ps : List (List ℕ)) (i : ℕ) → i < length ps
    → size_with rooms (drop i ps) ≡ rooms + length (get_or ps i []) + size_with rooms (drop (i + 1) ps)
size_left rooms ps i below = ap (size_with rooms) (drop_more ps i [] below)

-- ---- writing

-- One payload is written: the bytes so far, followed by the bytes still to write, stay the same.
module _ (front back at : ℕ) (bytes p : List ℕ) (rest : List (List ℕ)) (room : at + (front + length p + back) ≤ length bytes) where
  abbrev pub left : List ℕ
  left = drop at bytes

  abbrev pub behind : List ℕ
  behind = drop (front + length p) left

  abbrev pub done : List ℕ
  done = take at bytes ++ (take front left ++ (p ++ take back behind))

  abbrev pub end : List ℕ
  end = drop (front + length p + back) left

  done_long : length done ≡ at + (front + length p + back)
  done_long = omega (
    arith,
    room,
    length-append (take at bytes) (take front left ++ (p ++ take back behind)),
    length-append (take front left) (p ++ take back behind),
    length-append p (take back behind),
    length-take at bytes,
    length-take front left,
    length-take back behind,
    length-drop at bytes,
    length-drop (front + length p) left,
  )

  rest_is : drop (at + front + length p) bytes ≡ take back behind ++ end
  rest_is =
      ap (λ (n : ℕ). drop n bytes) (omega arith) ∙ sym (drop-drop (front + length p) at bytes)
      ∙ sym (take-append-drop back behind) ∙ ap (λ (xs : List ℕ). take back behind ++ xs) (drop-drop back (front + length p) left)

  put_is : take (at + front) bytes ++ (p ++ drop (at + front + length p) bytes) ≡ done ++ end
  put_is =
      ap (λ (xs : List ℕ). xs ++ (p ++ drop (at + front + length p) bytes)) (take-add at front bytes)
      ∙ ap (λ (xs : List ℕ). (take at bytes ++ take front left) ++ (p ++ xs)) rest_is
      ∙ append_assoc (take at bytes) (take front left) (p ++ (take back behind ++ end))
      ∙ ap (λ (xs : List ℕ). take at bytes ++ (take front left ++ xs)) (sym (append_assoc p (take back behind) end))
      ∙ ap (λ (xs : List ℕ). take at bytes ++ xs) (sym (append_assoc (take front left) (p ++ take back behind) end))
      ∙ sym (append_assoc (take at bytes) (take front left ++ (p ++ take back behind)) end)

  whole : done ++ laid front back rest end ≡ take at bytes ++ laid front back (p ∷ rest) (drop at bytes)
  whole =
      append_assoc (take at bytes) (take front left ++ (p ++ take back behind)) (laid front back rest end)
      ∙ ap (λ (xs : List ℕ). take at bytes ++ xs) (
      append_assoc (take front left) (p ++ take back behind) (laid front back rest end)
      ∙ ap (λ (xs : List ℕ). take front left ++ xs) (append_assoc p (take back behind) (laid front back rest end))
      )

  pub laid_more : (after : List ℕ) → after ≡ take (at + front) bytes ++ (p ++ drop (at + front + length p) bytes)
      → take (at + (front + length p + back)) after ++ laid front back rest (drop (at + (front + length p + back)) after)
      ≡ take at bytes ++ laid front back (p ∷ rest) (drop at bytes)
  laid_more after is =
      let there : after ≡ done ++ end = is ∙ put_is in
      let n : ℕ = at + (front + length p + back) in
      ap (λ (xs : List ℕ). take n xs ++ laid front back rest (drop n xs)) there
      ∙ ap (λ (xs : List ℕ). xs ++ laid front back rest (drop n (done ++ end))) (take_at done end n done_long)
      ∙ ap (λ (xs : List ℕ). done ++ laid front back rest xs) (drop_at done end n done_long)
      ∙ whole

-- ---- descriptions

-- one more packet is described
pub told_more : {X : Type 0} (what : ℕ → X) (packets : List X) (i : ℕ) (x : X) → i < length packets → x ≡ what i
    → ((k : ℕ) → k < i → slice_get packets k ≡ Some (what k)) → (k : ℕ) → k < i + 1 → slice_get (slice_set packets i x) k ≡ Some (what k)
told_more what [] i x below is before k l = absurd (omega (arith, below))
told_more what (y ∷ ys) zero x below is before zero l = ap Some is
told_more what (y ∷ ys) zero x below is before (suc k) l = absurd (omega (arith, l))
told_more what (y ∷ ys) (suc i) x below is before zero l = before zero (omega arith)
told_more what (y ∷ ys) (suc i) x below is before (suc k) l =
    told_more (λ n. what (suc n)) ys i x (omega (arith, below)) is (λ k l. before (suc k) (omega (arith, l))) k (omega (arith, l))

-- the descriptions after it are unchanged
pub behind_more : {X : Type 0} (packets before : List X) (i : ℕ) (x : X) → drop i packets ≡ drop i before → drop (i + 1) (slice_set packets i x) ≡ drop (i + 1) before
behind_more packets before i x same =
    drop-set-lt (i + 1) packets i x (omega arith) ∙ sym (drop-drop 1 i packets) ∙ ap (drop 1) same ∙ drop-drop 1 i before

pub placed_is : (packetizer here : PacketizerState) (cut : FrameCut) (ps : List (List ℕ)) (i at bytes : ℕ) (marker nackable : Bool) → here ≡ packetizer
    → at ≡ size_with (rooms_in cut) (take i ps) → bytes ≡ length (get_or ps i [])
    → marker ≡ (marker_of here (i + 1 == length ps) || (cut.starts_talk_spurt && talk_spurt_of here)) → nackable ≡ nackable_of here
    → record { offset = at + cut.headroom; bytes = bytes; marker = marker; nackable = nackable } ≡ placed_at packetizer cut ps i
placed_is packetizer here cut ps i at bytes marker nackable same at_is bytes_are marker_is nackable_is = rw (at_is, bytes_are, marker_is, nackable_is, same) refl

-- nothing is left to count
pub counted_all : (size rooms : ℕ) (ps : List (List ℕ)) → ps ≡ [] → size < 18446744073709551616 → size ≡ capped (size + size_with rooms ps)
counted_all size rooms ps none few = rw none (grind arith)

-- ---- packetizers

-- a built-in packetizer stays built in
pub built_in_after : (p q : PacketizerState) (mtu : ℕ) (frame : List ℕ) (answer : Result (List (List ℕ)) PacketError)
    → PacketizerStep p mtu frame answer q → is_built_in p ≡ true → is_built_in q ≡ true
built_in_after (Vp8Packetizing id) q mtu frame answer step built = ap is_built_in step.3
built_in_after (Vp9Packetizing sender) q mtu frame answer step built = ap is_built_in step.3
built_in_after BoxedPacketizing q mtu frame answer step built = ap is_built_in step ∙ built
built_in_after p q mtu frame answer step built = ap is_built_in step.1
