-- A unit whose packets each carry a piece of it is lawful, by the effect of one packet on a depacketizer.
use Rattle.std.proofs.Common.{◌≡◌, ◌∙◌, sym, ap, refl, subst, ℕ, ◌<◌, inl, List, [], ◌∷◌, ◌++◌, append_assoc, true, false, Option, Some, None, Result, Ok, Err}
use Rattle.std.specs.Prelude.{MatchResult}
use Rattle.std.proofs.lemmas.List.{append-nil}
use Rattle.codec_payload_base.specs.Pieces.{joined}
use Rattle.codec_payload_base.specs.declared.error.PacketError.{PacketError}
use Rattle.codec_payload_base.specs.declared.error.PacketError.TheVariants as faults
use Rattle.codec_payload_base.specs.declared.interface.CodecExtra.{CodecExtra}
use Rattle.codec_payload_base.specs.declared.interface.CodecExtra.TheVariants as extras
use Rattle.codec_payload_buffer_runs.proofs.order.ReportLemmas.{AllSilent, AllTold, NoHeads, none_later, silent_unpacks, told_unit}
use Rattle.codec_payload_codec.specs.Depacketizers.{DepacketizerState, DepacketizerKind, kind_of_depacketizer, DepacketizerStep, head_in}
use Rattle.codec_payload_buffer.specs.Held.{Held}
use Rattle.codec_payload_payloader.specs.Packets.{Packet}
use Rattle.codec_payload_buffer_runs.specs.LawfulUnits.{StartsWithHead, payloads_held, payloads_sent, IsLawful}
use Rattle.codec_payload_buffer_runs.specs.SentStream.{SentUnit, EndsWithTail, IsReleaseOf}
use Rattle.codec_payload_buffer.specs.Steps.{Unpacked, Unpacks, nothing_unpacked}
use Rattle.codec_payload_buffer_runs.specs.ReportedIds.{Tells, read_by}

-- `Keeps` states the facts about the bytes and the codec-specific data between the packets of a unit
module _ (kind : DepacketizerKind) (Keeps : List ℕ → CodecExtra → Type 0) where
  -- a depacketizer of this type, in any state, appends the piece, and fails only if memory runs out
  abbrev pub IsPiece : List ℕ → List ℕ → Type 0
  IsPiece payload piece =
      (d : DepacketizerState) (out : List ℕ) (extra : CodecExtra) (one : Result (Unit {0}) PacketError) (e : DepacketizerState) (out' : List ℕ) (extra' : CodecExtra)
      → kind_of_depacketizer d ≡ kind → Keeps out extra
      → DepacketizerStep d payload out extra one e out' extra'
      → (kind_of_depacketizer e ≡ kind) × MatchResult one (λ _. (out' ≡ out ++ piece) × Keeps out' extra') (λ fault. fault ≡ faults.OutOfMemory)

  -- the packets carry these pieces, in order
  abbrev pub CarryPieces : List Packet → List (List ℕ) → Type 0
  CarryPieces [] [] = Unit {0}
  CarryPieces (p ∷ ps) (piece ∷ pieces) = IsPiece p.payload piece × CarryPieces ps pieces
  CarryPieces [] (piece ∷ pieces) = ⊥
  CarryPieces (p ∷ ps) [] = ⊥

  abbrev Given : List ℕ → Result Unpacked PacketError → DepacketizerState → Type 0
  Given bytes answer e = (kind_of_depacketizer e ≡ kind) × MatchResult answer (λ unpacked. unpacked.bytes ≡ bytes) (λ fault. fault ≡ faults.OutOfMemory)

  -- after one packet, the others
  others_given : (piece : List ℕ) (pieces : List (List ℕ)) (ps : List Held) (u v : Unpacked) (one : Result (Unit {0}) PacketError) (mid : DepacketizerState)
      (answer : Result Unpacked PacketError) (e : DepacketizerState)
      → (kind_of_depacketizer mid ≡ kind) × MatchResult one (λ _. (v.bytes ≡ u.bytes ++ piece) × Keeps v.bytes v.extra) (λ fault. fault ≡ faults.OutOfMemory)
      → MatchResult one (λ _. Unpacks mid ps v answer e) (λ fault. (answer ≡ Err fault) × (e ≡ mid))
      → (kind_of_depacketizer mid ≡ kind → Keeps v.bytes v.extra → Unpacks mid ps v answer e → Given (v.bytes ++ joined pieces) answer e)
      → Given (u.bytes ++ joined (piece ∷ pieces)) answer e
  others_given piece pieces ps u v (Ok x) mid answer e step rest later =
      subst (λ (bytes : List ℕ). Given bytes answer e) (ap (λ (bytes : List ℕ). bytes ++ joined pieces) step.1.0 ∙ append_assoc u.bytes piece (joined pieces)) (later step.0 step.1.1 rest)
  others_given piece pieces ps u v (Err fault) mid answer e step rest later =
      (ap kind_of_depacketizer rest.1 ∙ step.0, rw rest.0 step.1)

  all_given : (packets : List Packet) (pieces : List (List ℕ)) (ps : List Held) (d : DepacketizerState) (u : Unpacked) (answer : Result Unpacked PacketError) (e : DepacketizerState)
      → CarryPieces packets pieces → kind_of_depacketizer d ≡ kind → Keeps u.bytes u.extra → payloads_held ps ≡ payloads_sent packets → Unpacks d ps u answer e
      → Given (u.bytes ++ joined pieces) answer e
  all_given [] [] [] d u answer e carry is keeps same gives = (ap kind_of_depacketizer gives.1 ∙ is, rw gives.0 (sym (append-nil u.bytes)))
  all_given [] [] (h ∷ hs) d u answer e carry is keeps same gives = absurd (cc)
  all_given (p ∷ ps) (piece ∷ pieces) [] d u answer e carry is keeps same gives = absurd (cc)
  all_given (p ∷ ps) (piece ∷ pieces) (h ∷ hs) d u answer e carry is keeps same gives =
      let here : h.bytes ≡ p.payload = cc in
      let later : payloads_held hs ≡ payloads_sent ps = cc in
      let step : DepacketizerStep d p.payload u.bytes u.extra gives.0 gives.1 gives.2.bytes gives.2.extra = subst
      (λ (bytes : List ℕ). DepacketizerStep d bytes u.bytes u.extra gives.0 gives.1 gives.2.bytes gives.2.extra) here gives.3 in
      others_given piece pieces hs u gives.2 gives.0 gives.1 answer e (carry.0 d u.bytes u.extra gives.0 gives.1 gives.2.bytes gives.2.extra is keeps step) gives.4
      (λ kept keeps_on rest. all_given ps pieces hs gives.1 gives.2 answer e carry.1 kept keeps_on later rest)
  all_given [] (piece ∷ pieces) hs d u answer e carry is keeps same gives = absurd carry
  all_given (p ∷ ps) [] hs d u answer e carry is keeps same gives = absurd carry

  -- each packet reports: the picture with this id, or no base layer
  abbrev pub TellAll : Option ℕ → List Packet → Type 0
  TellAll None packets = AllSilent kind (payloads_sent packets)
  TellAll (Some id) packets = (id < 32768) × AllTold kind id (payloads_sent packets)

  module _ (first : Packet) (others : List Packet) (pieces : List (List ℕ)) (none : NoHeads kind others) where
    abbrev pub whole : Option ℕ → SentUnit
    whole id = record { parts = joined pieces ∷ []; packets = first ∷ others; id = id }

    released : (id : Option ℕ) (answer : Result Unpacked PacketError) (e : DepacketizerState) → Given (joined pieces) answer e
        → (kind_of_depacketizer e ≡ kind) × MatchResult answer (λ unpacked. IsReleaseOf false (whole id) [] unpacked.bytes) (λ fault. fault ≡ faults.OutOfMemory)
    released id (Ok v) e given = (given.0, inl (refl, given.1 ∙ sym (append-nil (joined pieces))))
    released id (Err fault) e given = given

    gives_whole : (id : Option ℕ) → Keeps [] extras.None → CarryPieces (first ∷ others) pieces → (missing rest : List Packet) → missing ++ rest ≡ first ∷ others → StartsWithHead kind rest
        → (ps : List Held) → payloads_held ps ≡ payloads_sent rest → (d : DepacketizerState) (answer : Result Unpacked PacketError) (e : DepacketizerState)
        → kind_of_depacketizer d ≡ kind → Unpacks d ps nothing_unpacked answer e
        → (kind_of_depacketizer e ≡ kind) × MatchResult answer (λ unpacked. IsReleaseOf false (whole id) missing unpacked.bytes) (λ fault. fault ≡ faults.OutOfMemory)
    gives_whole id starts carry [] rest is head ps same d answer e reads gives =
        released id answer e (all_given (first ∷ others) pieces ps d nothing_unpacked answer e carry reads starts (same ∙ ap payloads_sent is) gives)
    gives_whole id starts carry (m ∷ ms) rest is head ps same d answer e reads gives = absurd (none_later kind ms rest others none (cc) head)

    tells_whole : (id : Option ℕ) → TellAll id (first ∷ others) → (missing rest : List Packet) → missing ++ rest ≡ first ∷ others → StartsWithHead kind rest
        → (ps : List Held) → payloads_held ps ≡ payloads_sent rest
        → (d : DepacketizerState) (unpacked : Unpacked) (e : DepacketizerState) → kind_of_depacketizer d ≡ kind → Unpacks d ps nothing_unpacked (Ok unpacked) e
        → Tells id (read_by d) unpacked.extra (read_by e)
    tells_whole None silent [] rest is head ps same d unpacked e reads gives =
        silent_unpacks kind ps d nothing_unpacked unpacked e (subst (AllSilent kind) (sym (same ∙ ap payloads_sent is)) silent) reads refl gives
    tells_whole None silent (m ∷ ms) rest is head ps same d unpacked e reads gives = absurd (none_later kind ms rest others none (cc) head)
    tells_whole (Some id) told missing rest is head ps same d unpacked e reads gives = told_unit kind id first others told.0 none told.1 missing rest is head ps same d unpacked e reads gives

    pub lawful_pieces : (id : Option ℕ) → Keeps [] extras.None → CarryPieces (first ∷ others) pieces → EndsWithTail kind (first ∷ others)
        → head_in kind first.payload ≡ true → TellAll id (first ∷ others)
        → IsLawful kind false (whole id)
    lawful_pieces id starts carry ends head tell = record { ends = ends; starts = head; gives = gives_whole id starts carry; tells = tells_whole id tell }
