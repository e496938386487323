-- A frame that is sent as it is, in one packet.
use Rattle.std.proofs.Common.{◌≡◌, ◌∙◌, sym, ap, refl, subst, ◌≢◌, ℕ, zero, suc, ◌+◌, ◌<◌, ◌≤◌, ◌==◌, ◌&&◌, ◌||◌, Bool, true, false, Some, Ok, List, [], ◌∷◌, ◌++◌, length, take, drop, slice_get, slice_set, arith, append-nil, rules, tests}
use Rattle.std.proofs.lemmas.List.{drop-drop, take-append-drop}
use Rattle.std.proofs.lemmas.Bool.Decides.{nat_tests}
use Rattle.codec_payload_base.proofs.PieceLemmas.{count_of_pieces}
use Rattle.codec_payload_base.specs.Pieces.{AnswersPieces, ArePieces, pieces_are_skipped}
use Rattle.codec_payload_core.specs.Packetizers.{PacketizerState, PacketizerStep, OpusPacketizing, G711Packetizing, G722Packetizing, packetizer_state_of, is_built_in, marker_of, talk_spurt_of, nackable_of}
use Rattle.codec_payload_handle.specs.declared.object.FrameSender.{FrameSender}
use Rattle.codec_payload_c_packets.specs.Frames.{Laying, LaysCut, LaysFrame, LaysPackets, capped, laid, placed_at, rooms_in, sends_pieces, size_with}
use Rattle.codec_payload_c_packets.specs.declared.frames.FrameCut.{FrameCut}
use Rattle.codec_payload_c_packets.specs.declared.frames.FrameRoom.{FrameRoom}
use Rattle.codec_payload_c_packets.specs.declared.frames.PlacedPacket.{PlacedPacket}

-- ---- the packetizer

not_skipped : (mtu : ℕ) (frame : List ℕ) → 0 < length frame → length frame ≤ mtu → pieces_are_skipped mtu frame ≡ false
not_skipped mtu [] some fits = absurd (omega (arith, some))
not_skipped zero (x ∷ xs) some fits = absurd (omega (arith, some, fits))
not_skipped (suc mtu) (x ∷ xs) some fits = search (rules, tests)

whole_pieces : (mtu : ℕ) (frame : List ℕ) → 0 < length frame → length frame ≤ mtu → AnswersPieces mtu frame (Ok (frame ∷ []))
whole_pieces mtu frame some fits =
    let pieces : ArePieces mtu frame (frame ∷ []) = record { join = append-nil frame; sizes = (some, fits) } in
    rw (not_skipped mtu frame some fits) (pieces, count_of_pieces mtu frame (frame ∷ []) (omega (arith, some, fits)) pieces)

-- a frame that fits is one packet, as it is
pub sent_whole : (p : PacketizerState) (mtu : ℕ) (frame : List ℕ) → sends_pieces p ≡ true → 0 < length frame → length frame ≤ mtu → PacketizerStep p mtu frame (Ok (frame ∷ [])) p
sent_whole OpusPacketizing mtu frame sends some fits = (whole_pieces mtu frame some fits, refl)
sent_whole G711Packetizing mtu frame sends some fits = (whole_pieces mtu frame some fits, refl)
sent_whole G722Packetizing mtu frame sends some fits = (whole_pieces mtu frame some fits, refl)
sent_whole p mtu frame sends some fits = absurd (cc)

pub pieces_built_in : (p : PacketizerState) → sends_pieces p ≡ true → is_built_in p ≡ true
pieces_built_in OpusPacketizing sends = refl
pieces_built_in G711Packetizing sends = refl
pieces_built_in G722Packetizing sends = refl
pieces_built_in p sends = absurd (cc)

-- ---- the output

pub laid_one : (front back : ℕ) (p bytes : List ℕ) → take front bytes ++ (p ++ drop (front + length p) bytes) ≡ laid front back (p ∷ []) bytes
laid_one front back p bytes =
    let behind : List ℕ = drop (front + length p) bytes in
    ap (λ (xs : List ℕ). take front bytes ++ (p ++ xs)) (sym (take-append-drop back behind) ∙ ap (λ (xs : List ℕ). take back behind ++ xs) (drop-drop back (front + length p) bytes))

pub told_one : (packets : List PlacedPacket) (x : PlacedPacket) (packetizer : PacketizerState) (cut : FrameCut) (p : List ℕ) → 0 < length packets → x ≡ placed_at packetizer cut (p ∷ []) 0
    → (place : ℕ) → place < 1 → slice_get (slice_set packets 0 x) place ≡ Some (placed_at packetizer cut (p ∷ []) place)
told_one [] x packetizer cut p some is place below = absurd (omega (arith, some))
told_one (y ∷ ys) x packetizer cut p some is zero below = ap Some is
told_one (y ∷ ys) x packetizer cut p some is (suc place) below = absurd (omega (arith, below))

pub left_one : (packets : List PlacedPacket) (x : PlacedPacket) → drop 1 (slice_set packets 0 x) ≡ drop 1 packets
left_one [] x = refl
left_one (y ∷ ys) x = refl

-- the description of the only packet
pub placed_one : (packetizer : PacketizerState) (cut : FrameCut) (p : List ℕ) (marker nackable : Bool) → marker ≡ (marker_of packetizer true || (cut.starts_talk_spurt && talk_spurt_of packetizer))
    → nackable ≡ nackable_of packetizer
    → record { offset = cut.headroom; bytes = length p; marker = marker; nackable = nackable } ≡ placed_at packetizer cut (p ∷ []) 0
placed_one packetizer cut p marker nackable marker_is nackable_is =
    let front : cut.headroom ≡ 0 + cut.headroom = omega arith in
    let at : ℕ → PlacedPacket =
    λ offset. record {
      offset = offset;
      bytes = length p;
      marker = marker_of packetizer true || (cut.starts_talk_spurt && talk_spurt_of packetizer);
      nackable = nackable_of packetizer;
    } in
    rw (marker_is, nackable_is) (ap at front)

-- what is at most the length of the output is not capped
pub within : (n len : ℕ) → capped n ≤ len → len < 18446744073709551615 → n ≤ len
within n len most short = grind (arith, nat_tests)

-- the only packet is in the output buffer, and is described
pub lays_one : (packetizer : PacketizerState) (cut : FrameCut) (p before after : List ℕ) (packets : List PlacedPacket) (x : PlacedPacket) (room : FrameRoom)
    → room.bytes ≡ capped (rooms_in cut + length p) → room.count ≡ 1 → rooms_in cut + length p ≤ length before → 0 < length packets
    → after ≡ take cut.headroom before ++ (p ++ drop (cut.headroom + length p) before) → x ≡ placed_at packetizer cut (p ∷ []) 0
    → LaysPackets (p ∷ []) packetizer cut 0 (record { before = before; bytes = after; told_before = packets; told = slice_set packets 0 x; room = room })
lays_one packetizer cut p before after packets x room size count fits some writes is =
    let same : rooms_in cut + length p ≡ size_with (rooms_in cut) (p ∷ []) = omega arith in
    record {
      bytes = size ∙ ap capped same;
      count = count;
      ok = λ zero. record {
        enough = omega (arith, fits);
        many = some;
        writes = writes ∙ laid_one cut.headroom cut.tailroom p before;
        tells = told_one packets x packetizer cut p some is;
        behind = left_one packets x;
      };
      too_small = λ other. absurd (other refl);
      untouched = λ other. absurd (other refl);
    }

pub is_some_length : {A : Type 0} (xs : List A) → (length xs == 0) ≡ false → 0 < length xs
is_some_length [] none = absurd (cc)
is_some_length (x ∷ xs) none = omega arith

-- ---- the call

-- a frame that is one packet was written, or did not fit; the packetizer is unchanged
pub lays_whole : (r s : FrameSender) (cut : FrameCut) (frame : List ℕ) (status : ℕ) (l : Laying)
    → PacketizerStep (packetizer_state_of r.packetizer) cut.mtu frame (Ok (frame ∷ [])) (packetizer_state_of r.packetizer)
    → packetizer_state_of s.packetizer ≡ packetizer_state_of r.packetizer → LaysPackets (frame ∷ []) (packetizer_state_of r.packetizer) cut status l
    → s.packets ≡ r.packets → s.taken ≡ r.taken → s.marked ≡ r.marked → LaysFrame r cut frame status l s
lays_whole r s cut frame status l step same lays packets taken marked =
    let p : PacketizerState = packetizer_state_of r.packetizer in
    let written : LaysCut r cut frame status l p = record { payloads = frame ∷ []; cuts = step; lays = lays } in
    record {
      ok = λ done. subst (λ (q : PacketizerState). LaysCut r cut frame status l q) (sym same) written;
      too_small = λ few. (p, written);
      fault = λ not_done not_few not_foreign. absurd (not_few (lays.too_small not_done).0);
      foreign = λ foreign. let not_done : status ≢ 0 = omega (arith, foreign) in absurd (omega (arith, foreign, (lays.too_small not_done).0));
      unchanged = λ not_done. same;
      stays = (packets, taken, marked);
    }
