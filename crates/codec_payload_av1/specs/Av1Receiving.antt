-- How a receiver reads payloads.
use Rattle.std.specs.Prelude.{ℕ, List, [], ◌∷◌, ◌++◌, Option, Some, None, Bool, not, ◌&&◌, ◌||◌, nat_lt, if◌then◌else◌}
use Rattle.codec_payload_av1.specs.Av1Reading.{◌>>=◌}
use Rattle.codec_payload_av1.specs.Av1Obu.{Obu, obu_at, is_one, has_bit, has_size, is_kept_type, canonical}
use Rattle.codec_payload_av1.specs.Av1Payload.{Payload, payload_at}
use Rattle.codec_payload_av1.specs.Av1Packing.{ended, left_open, is_begun}

-- the bytes still pending as the packet arrives
abbrev pub still_pending : Payload → List ℕ → List ℕ
still_pending p pending = if p.continues && not p.starts then pending else []

-- the elements without one whose beginning was lost
abbrev pub without_orphan : Bool → List (List ℕ) → List (List ℕ)
without_orphan orphan [] = []
without_orphan orphan (e ∷ es) = if orphan then es else e ∷ es

abbrev pub usable : Payload → List ℕ → List (List ℕ)
usable p begun = without_orphan (p.continues && not (is_begun begun)) p.elements

-- the bytes that an element of one OBU appends: none if it isn't kept
abbrev pub added : List ℕ → Obu → List ℕ
added element o = if is_kept_type o.header then (if has_size o.header then element else canonical o) else []

-- an element has to be exactly one OBU
unfoldable pub unit_of : List ℕ → Option (List ℕ)
unit_of element = obu_at element >>= λ o. if is_begun o.1 then None else Some (added element o.0)

unfoldable pub units_of : List (List ℕ) → Option (List ℕ)
units_of [] = Some []
units_of (e ∷ es) = unit_of e >>= λ u. units_of es >>= λ us. Some (u ++ us)

-- the bytes that these elements append to the output, and the bytes pending then; None is a fault
unfoldable pub taken : Bool → List ℕ → List (List ℕ) → Option (List ℕ × List ℕ)
taken goes_on begun es = units_of (ended goes_on begun es) >>= λ units. Some (units, left_open goes_on begun es)

-- the same of a packet
unfoldable pub received : List ℕ → List ℕ → Option (List ℕ × List ℕ)
received pending packet = payload_at packet >>= λ p. taken p.goes_on (still_pending p pending) (usable p (still_pending p pending))

-- the pending bytes that continue in the payload of this aggregation header
abbrev pub begun_at : ℕ → List ℕ → List ℕ
begun_at header pending = if has_bit 128 header && not (has_bit 8 header) then pending else []

-- whether an element is acceptable after the begun bytes and before these bytes: it is dropped, it continues in the next packet, or
-- it ends one OBU
abbrev pub can_take : Bool → Bool → ℕ → List ℕ → List ℕ → List ℕ → Bool
can_take orphan may_go_on w begun element rest = orphan || (may_go_on && nat_lt w 2 && not (is_begun rest)) || is_one (begun ++ element)

-- packet after packet
unfoldable pub all_received : List ℕ → List (List ℕ) → Option (List ℕ × List ℕ)
all_received pending [] = Some ([], pending)
all_received pending (packet ∷ packets) = received pending packet >>= λ r. all_received r.1 packets >>= λ rs. Some (r.0 ++ rs.0, rs.1)
