-- A frame whose pieces follow headers is one lawful unit: all of its packets, from the one that begins it to the one with the
-- marker.
use Rattle.std.proofs.Common.{◌≡◌, ◌∙◌, sym, ap, refl, subst, ℕ, ◌+◌, ◌-◌, ◌<◌, ◌%◌, ◌^◌, ◌||◌, List, [], ◌∷◌, ◌++◌, length, length-append, arith, Bool, true, false, Option, None, Ok, leb}
use Rattle.std.proofs.lemmas.List.{append-nil}
use Rattle.std.proofs.lemmas.Bool.Decides.{nat_tests}
use Rattle.codec_payload_base.specs.Answers.{is_empty}
use Rattle.codec_payload_base.specs.Described.{AnswersDescribed, described}
use Rattle.codec_payload_base.specs.Pieces.{joined, ArePieces, AreOfSize}
use Rattle.codec_payload_base.specs.declared.interface.CodecExtra.{CodecExtra}
use Rattle.codec_payload_base.specs.declared.interface.CodecExtra.TheVariants as extras
use Rattle.codec_payload_codec.proofs.CaseLemmas.{by_test}
use Rattle.codec_payload_codec.specs.Depacketizers.{DepacketizerKind, head_in, tail_in}
use Rattle.codec_payload_codec.specs.Packetizers.{PacketizerState, payloads_by, may_split}
use Rattle.codec_payload_buffer_runs.proofs.units.PieceUnits.{IsPiece, CarryPieces, TellAll, lawful_pieces, whole}
use Rattle.codec_payload_buffer_runs.proofs.units.SendsUnits.{SendsUnits, no_units}
use Rattle.codec_payload_buffer_runs.proofs.order.ReportLemmas.{IsSilent, AllSilent, IsTold, AllTold, NoHeads}
use Rattle.codec_payload_payloader.specs.Packets.{Packet}
use Rattle.codec_payload_payloader.specs.Sending.{Sample, packet_for, packets_for, packets_from}
use Rattle.codec_payload_buffer_runs.specs.LawfulUnits.{payloads_sent}
use Rattle.codec_payload_buffer_runs.specs.SentStream.{EndsWithTail}
use Rattle.codec_payload_buffer_runs.specs.ReportedIds.{id_later, next_id}
use Rattle.codec_payload_buffer_runs.specs.Units.{is_skipped, refusal_of, units_sent, each_whole, packetizer_after}

-- no piece is empty
abbrev pub NoneEmpty : List (List ℕ) → Type 0
NoneEmpty [] = Unit {0}
NoneEmpty (piece ∷ pieces) = (0 < length piece) × NoneEmpty pieces

pub none_empty : (size : ℕ) (pieces : List (List ℕ)) → 0 < size → AreOfSize size pieces → NoneEmpty pieces
none_empty size [] some sizes = tt
none_empty size (piece ∷ []) some sizes = (sizes.0, tt)
none_empty size (piece ∷ next ∷ pieces) some sizes = (omega (arith, sizes.0), none_empty size (next ∷ pieces) some sizes.1)

not_empty : (frame : List ℕ) → 0 < length frame → is_empty frame ≡ false
not_empty [] some = absurd (omega arith)
not_empty (b ∷ bs) some = refl

skipped_by : (frame : List ℕ) (small : Bool) → small ≡ true → is_empty frame || small ≡ true
skipped_by [] small is = refl
skipped_by (b ∷ bs) small is = is

-- the packets of pieces of a frame, from the one at that place on
abbrev pub cut : (Bool → Bool → List ℕ) → PacketizerState → Sample → ℕ → Bool → ℕ → ℕ → List (List ℕ) → List Packet
cut header after sample rtp_time first number place pieces = packets_from after sample rtp_time number place (described header first pieces)

-- each reports the same as each piece after its header
pub all_silent : (kind : DepacketizerKind) (header : Bool → Bool → List ℕ) → ((first last : Bool) (piece : List ℕ) → IsSilent kind (header first last ++ piece))
    → (after : PacketizerState) (sample : Sample) (rtp_time : ℕ) (first : Bool) (number place : ℕ) (pieces : List (List ℕ))
    → AllSilent kind (payloads_sent (cut header after sample rtp_time first number place pieces))
all_silent kind header each after sample rtp_time first number place [] = tt
all_silent kind header each after sample rtp_time first number place (piece ∷ []) = (each first true piece, tt)
all_silent kind header each after sample rtp_time first number place (piece ∷ next ∷ pieces) =
    (each first false piece, all_silent kind header each after sample rtp_time false ((number + 1) % 2 ^ 64) (place + 1) (next ∷ pieces))

pub all_told : (kind : DepacketizerKind) (id : ℕ) (header : Bool → Bool → List ℕ) → ((first last : Bool) (piece : List ℕ) → IsTold kind id (header first last ++ piece))
    → (after : PacketizerState) (sample : Sample) (rtp_time : ℕ) (first : Bool) (number place : ℕ) (pieces : List (List ℕ))
    → AllTold kind id (payloads_sent (cut header after sample rtp_time first number place pieces))
all_told kind id header each after sample rtp_time first number place [] = tt
all_told kind id header each after sample rtp_time first number place (piece ∷ []) = (each first true piece, tt)
all_told kind id header each after sample rtp_time first number place (piece ∷ next ∷ pieces) =
    (each first false piece, all_told kind id header each after sample rtp_time false ((number + 1) % 2 ^ 64) (place + 1) (next ∷ pieces))

module _ (kind : DepacketizerKind) (Keeps : List ℕ → CodecExtra → Type 0) (header : Bool → Bool → List ℕ) (after : PacketizerState) (sample : Sample) (rtp_time : ℕ)
    (heads : (first last : Bool) (piece : List ℕ) → head_in kind (header first last ++ piece) ≡ first)
    (marked : (number : ℕ) (last : Bool) (payload : List ℕ) → tail_in kind (packet_for after sample rtp_time number sample.ext_vals last payload).marker payload ≡ last)
    (given : (first last : Bool) (piece : List ℕ) → 0 < length piece → IsPiece kind Keeps (header first last ++ piece) piece) where
  ends : (first : Bool) (number place : ℕ) (piece : List ℕ) (pieces : List (List ℕ)) → EndsWithTail kind (cut header after sample rtp_time first number place (piece ∷ pieces))
  ends first number place piece [] = marked number true (header first true ++ piece)
  ends first number place piece (next ∷ []) = (marked number false (header first false ++ piece), ends false ((number + 1) % 2 ^ 64) (place + 1) next [])
  ends first number place piece (next ∷ more ∷ pieces) = (marked number false (header first false ++ piece), ends false ((number + 1) % 2 ^ 64) (place + 1) next (more ∷ pieces))

  -- no later packet is a head
  no_heads : (number place : ℕ) (pieces : List (List ℕ)) → NoHeads kind (cut header after sample rtp_time false number place pieces)
  no_heads number place [] = tt
  no_heads number place (piece ∷ []) = (heads false true piece, tt)
  no_heads number place (piece ∷ next ∷ pieces) = (heads false false piece, no_heads ((number + 1) % 2 ^ 64) (place + 1) (next ∷ pieces))

  carry : (first : Bool) (number place : ℕ) (pieces : List (List ℕ)) → NoneEmpty pieces → CarryPieces kind Keeps (cut header after sample rtp_time first number place pieces) pieces
  carry first number place [] full = tt
  carry first number place (piece ∷ []) full = (given first true piece full.0, tt)
  carry first number place (piece ∷ next ∷ pieces) full = (given first false piece full.0, carry false ((number + 1) % 2 ^ 64) (place + 1) (next ∷ pieces) full.1)

  module _ (packetizer : PacketizerState) (id : Option ℕ) (mtu reserve number : ℕ) (payloads : List (List ℕ))
      (starts : Keeps [] extras.None) (tell : (piece : List ℕ) (pieces : List (List ℕ)) → TellAll kind Keeps id (cut header after sample rtp_time true number 0 (piece ∷ pieces)))
      (reads : payloads_by packetizer ≡ kind) (splits : may_split packetizer ≡ false) (next : next_id packetizer ≡ id) (first_id : id ≡ id_later id 0)
      (skips : is_skipped packetizer mtu sample.bytes ≡ is_empty sample.bytes || leb mtu reserve) (refuses : refusal_of packetizer mtu sample.bytes ≡ None)
      (sends : units_sent packetizer mtu sample.bytes ≡ each_whole (sample.bytes ∷ []))
      (skipping : is_skipped packetizer mtu sample.bytes ≡ true → payloads ≡ [] → (after ≡ packetizer_after packetizer mtu sample.bytes)
      × (next_id (packetizer_after packetizer mtu sample.bytes) ≡ next_id packetizer))
      (sending : is_skipped packetizer mtu sample.bytes ≡ false → (first : List ℕ) (others : List (List ℕ)) → payloads ≡ first ∷ others
      → (after ≡ packetizer_after packetizer mtu sample.bytes) × ((m : ℕ) → id_later (next_id after) m ≡ id_later id (1 + m))) where
    roomy : (piece : List ℕ) (pieces : List (List ℕ)) → leb mtu reserve ≡ false → ArePieces (mtu - reserve) sample.bytes (piece ∷ pieces)
        → NoneEmpty (piece ∷ pieces) → is_skipped packetizer mtu sample.bytes ≡ false
    roomy piece pieces large are full =
        let frame : is_empty sample.bytes ≡ false = not_empty sample.bytes (omega (arith, full.0, ap length are.join, length-append piece (joined pieces))) in
        skips ∙ rw (frame, large) refl

    nothing_sent : is_skipped packetizer mtu sample.bytes ≡ true → payloads ≡ [] → SendsUnits packetizer mtu sample rtp_time number payloads after
    nothing_sent skip none =
        let on = skipping skip none in
        subst (SendsUnits packetizer mtu sample rtp_time number payloads) (sym on.0) (no_units packetizer mtu sample rtp_time number payloads none (rw skip refl) on.1)

    one_unit : is_skipped packetizer mtu sample.bytes ≡ false → (first : Packet) (others : List Packet) (pieces : List (List ℕ))
        → cut header after sample rtp_time true number 0 pieces ≡ first ∷ others → joined pieces ≡ sample.bytes
        → payloads ≡ described header true pieces → NoHeads kind others → head_in kind first.payload ≡ true → CarryPieces kind Keeps (first ∷ others) pieces
        → EndsWithTail kind (first ∷ others) → TellAll kind Keeps id (first ∷ others)
        → after ≡ packetizer_after packetizer mtu sample.bytes → ((m : ℕ) → id_later (next_id after) m ≡ id_later id (1 + m)) → SendsUnits packetizer mtu sample rtp_time number payloads after
    one_unit skip first others pieces cuts join is none head carries ends_so tells goes_on ids = record {
      units = whole kind Keeps first others pieces none id ∷ [];
      canonical = rw (skip, refuses, sends) (ap (λ (bytes : List ℕ). (bytes ∷ []) ∷ []) join);
      packets = append-nil _ ∙ (sym cuts ∙ ap (packets_for after sample rtp_time number) (sym is));
      lawful = λ _. rw (reads, splits) (lawful_pieces kind Keeps first others pieces none id starts carries ends_so head tells, tt);
      ids = (first_id ∙ ap (λ (o : Option ℕ). id_later o 0) (sym next), tt);
      ids_go_on = λ m. ids m ∙ ap (λ (o : Option ℕ). id_later o (1 + m)) (sym next);
      goes_on = goes_on;
    }

    pieces_sent : leb mtu reserve ≡ false → reserve < mtu → (pieces : List (List ℕ)) → ArePieces (mtu - reserve) sample.bytes pieces
        → payloads ≡ described header true pieces → SendsUnits packetizer mtu sample rtp_time number payloads after
    pieces_sent large some [] are is =
        nothing_sent (skips ∙ ap (λ (bytes : List ℕ). is_empty bytes || leb mtu reserve) (sym are.join)) is
    pieces_sent large some (piece ∷ []) are is =
        let full = none_empty (mtu - reserve) (piece ∷ []) (omega arith) are.sizes in
        let on = sending (roomy piece [] large are full) (header true true ++ piece) [] is in
        one_unit (roomy piece [] large are full) _ [] (piece ∷ []) refl are.join is tt (heads true true piece) (carry true number 0 (piece ∷ []) full)
        (ends true number 0 piece []) (tell piece []) on.0 on.1
    pieces_sent large some (piece ∷ more ∷ pieces) are is =
        let full = none_empty (mtu - reserve) (piece ∷ more ∷ pieces) (omega arith) are.sizes in
        let on = sending (roomy piece (more ∷ pieces) large are full) (header true false ++ piece) (described header false (more ∷ pieces)) is in
        one_unit (roomy piece (more ∷ pieces) large are full) _ (cut header after sample rtp_time false ((number + 1) % 2 ^ 64) 1 (more ∷ pieces)) (piece ∷ more ∷ pieces) refl are.join is
        (no_heads ((number + 1) % 2 ^ 64) 1 (more ∷ pieces)) (heads true false piece) (carry true number 0 (piece ∷ more ∷ pieces) full)
        (ends true number 0 piece (more ∷ pieces)) (tell piece (more ∷ pieces)) on.0 on.1

    -- the frame gives no packets, or the packets of one unit
    pub described_sends : AnswersDescribed header reserve mtu sample.bytes (Ok payloads) → SendsUnits packetizer mtu sample rtp_time number payloads after
    described_sends answer =
        by_test (leb mtu reserve) (λ b. leb mtu reserve ≡ b → SendsUnits packetizer mtu sample rtp_time number payloads after)
        (λ small _. nothing_sent (skips ∙ skipped_by sample.bytes (leb mtu reserve) small) (answer.0 (grind (arith, nat_tests, small))))
        (λ large _. let some : reserve < mtu = grind (arith, nat_tests, large) in let are = answer.1 some in pieces_sent large some are.0 are.1 are.2)
        refl
