-- What units report whose packets carry consecutive picture ids.
use Rattle.std.proofs.Common.{◌≡◌, subst, ℕ, zero, suc, ◌+◌, List, [], ◌∷◌, ◌++◌, arith, Option, Some, Ok, Bool}
use Rattle.std.specs.Prelude.{slice_get}
use Rattle.codec_payload_buffer_runs.proofs.units.SendsUnits.{CarryIds}
use Rattle.codec_payload_codec.specs.Depacketizers.{DepacketizerState, DepacketizerKind, kind_of_depacketizer}
use Rattle.codec_payload_buffer.specs.Held.{Held}
use Rattle.codec_payload_payloader.specs.Packets.{Packet}
use Rattle.codec_payload_buffer_runs.specs.LawfulUnits.{payloads_held, payloads_sent, StartsWithHead, AllLawful}
use Rattle.codec_payload_buffer_runs.specs.SentStream.{SentUnit}
use Rattle.codec_payload_buffer.specs.Steps.{Unpacked, Unpacks, nothing_unpacked}
use Rattle.codec_payload_buffer_runs.specs.ReportedIds.{Tells, id_later, read_by}

-- these packets, or the last of them from one that begins a unit, report that id
abbrev pub TellId : DepacketizerKind → Option ℕ → List Packet → Type 0
TellId kind id packets =
    (missing rest : List Packet) → missing ++ rest ≡ packets → StartsWithHead kind rest
    → (ps : List Held) → payloads_held ps ≡ payloads_sent rest
    → (d : DepacketizerState) (unpacked : Unpacked) (e : DepacketizerState) → kind_of_depacketizer d ≡ kind → Unpacks d ps nothing_unpacked (Ok unpacked) e
    → Tells id (read_by d) unpacked.extra (read_by e)

-- the units report the ids that come n units after `first` and later, one after another
abbrev pub TellInTurn : DepacketizerKind → Option ℕ → ℕ → List SentUnit → Type 0
TellInTurn kind first n [] = Unit {0}
TellInTurn kind first n (u ∷ us) = TellId kind (id_later first n) u.packets × TellInTurn kind first (suc n) us

-- units that carry them do
pub tell_in_turn : (kind : DepacketizerKind) (splits : Bool) (first : Option ℕ) (n : ℕ) (us : List SentUnit) → AllLawful kind splits us → CarryIds first n us → TellInTurn kind first n us
tell_in_turn kind splits first n [] lawful carry = tt
tell_in_turn kind splits first n (u ∷ us) lawful carry =
    (subst (λ (id : Option ℕ). TellId kind id u.packets) carry.0 lawful.0.tells, tell_in_turn kind splits first (suc n) us lawful.1 carry.1)

told_behind : (kind : DepacketizerKind) (first : Option ℕ) (n m : ℕ) (us : List SentUnit) (u : SentUnit) → TellInTurn kind first n us → slice_get us m ≡ Some u
    → TellId kind (id_later first (n + m)) u.packets
told_behind kind first n m [] u told is = absurd (cc)
told_behind kind first n zero (v ∷ us) u told is =
    let same : v ≡ u = cc in
    let e : n ≡ n + 0 = omega arith in
    subst (λ (k : ℕ). TellId kind (id_later first k) u.packets) e (subst (λ (x : SentUnit). TellId kind (id_later first n) x.packets) same told.0)
told_behind kind first n (suc m) (v ∷ us) u told is =
    let e : suc n + m ≡ n + suc m = omega arith in
    subst (λ (k : ℕ). TellId kind (id_later first k) u.packets) e (told_behind kind first (suc n) m us u told.1 is)

-- the unit at place m reports the m-th id
pub told_at : (kind : DepacketizerKind) (first : Option ℕ) (m : ℕ) (us : List SentUnit) (u : SentUnit) → TellInTurn kind first 0 us → slice_get us m ≡ Some u → TellId kind (id_later first m) u.packets
told_at kind first m us u told is =
    let e : 0 + m ≡ m = omega arith in
    subst (λ (k : ℕ). TellId kind (id_later first k) u.packets) e (told_behind kind first 0 m us u told is)
