-- A receiver of FEC: what it holds, and what each call leaves.
use Rattle.std.specs.Prelude.{ℕ, zero, suc, ◌+◌, ◌-◌, ◌%◌, ◌||◌, nat_le, nat_lt, if◌then◌else◌, Bool, true, false, List, [], ◌∷◌, ◌++◌, length, map, slice_index_or, slice_set, Option, Some, None, Result, Ok, Err}
use Rattle.std.specs.List.{position, remove}
use Rattle.codec_payload_rtp.specs.RtpReading.{rtp_at}
use Rattle.codec_payload_fec.specs.Fec.{Fec, is_set, mask_of, numbers}
use Rattle.codec_payload_fec.specs.FecReading.{fec_at}
use Rattle.codec_payload_fec.specs.declared.packet.FecFault.{FecFault}
use Rattle.codec_payload_fec.specs.Rebuilding.{found_in, missing_of, rebuilt}
use Rattle.codec_payload_fec.specs.Strings.{number_of}
use Rattle.codec_payload_fec.specs.Stores.{Store, kept, no_packets, no_slots}
use Rattle.codec_payload_fec_receiver.specs.Contents.{Content, Nothing, Media, content_of}
use Rattle.codec_payload_fec_receiver.specs.Contents.{Fec as FecIn}
use Rattle.codec_payload_fec_receiver.specs.Late.{plain_bytes}
use Rattle.codec_payload_fec_receiver.specs.declared.content.FecSettings.{FecSettings}
use Rattle.codec_payload_fec_receiver.specs.declared.fec_receiver.OpenFec.{OpenFec as LentFec}
use Rattle.codec_payload_fec_receiver.specs.declared.fec_receiver.Verdict.{Verdict}
use Rattle.codec_payload_fec_receiver.specs.declared.fec_receiver.Verdict.TheVariants as verdicts

-- the payload of a packet of FEC, and whether it is to be tried: it came, or a packet that it protects did
pub record OpenFec : Type 0 where
  pub bytes : List ℕ
  pub is_due : Bool

abbrev pub held_fec : LentFec → OpenFec
held_fec o = record { bytes = o.bytes.items; is_due = o.is_due }

-- `first`: the first of the 32,768 numbers of the window, if one has begun. `store`: the packets that came in the window, and the rebuilt ones. `fecs`: the
-- packets of FEC that came in the window, the oldest first. `is_fresh`: no packet was rebuilt since the latest datagram
pub record State : Type 0 where
  pub settings : FecSettings
  pub first : Option ℕ
  pub store : Store
  pub fecs : List OpenFec
  pub is_fresh : Bool

abbrev pub new_state : FecSettings → State
new_state settings = record { settings = settings; first = None; store = no_packets settings.bytes; fecs = []; is_fresh = false }

-- nothing is held
abbrev pub emptied : State → State
emptied s = record s { store = record s.store { slots = no_slots }; fecs = [] }

abbrev pub forgotten : State → State
forgotten s = record (emptied s) { first = None; is_fresh = false }

-- ---- a datagram

-- the number is one of the 32,768 from `first` on
abbrev pub is_within : Option ℕ → ℕ → Bool
is_within None number = false
is_within (Some first) number = nat_lt ((number + 65536 - first) % 65536) 32768

-- A number beyond the window begins another one, in whose middle it is: nothing of the former one is held
abbrev pub entered : ℕ → State → State
entered number s = if is_within s.first number then s else record (emptied s) { first = Some ((number + 49152) % 65536) }

-- the number is one of those that a packet of FEC protects
abbrev pub is_place : ℕ → ℕ → Bool
is_place place mask = if nat_lt place 48 then is_set place mask else false

abbrev pub protects : ℕ → Result Fec FecFault → Bool
protects number (Ok f) = is_place ((number + 65536 - f.base) % 65536) (mask_of f.mask f.continued)
protects number (Err fault) = false

abbrev pub marked : ℕ → OpenFec → OpenFec
marked number o = record o { is_due = o.is_due || protects number (fec_at o.bytes) }

-- a packet with that number is kept, and the packets of FEC that protect it are to be tried
abbrev pub with_packet : ℕ → List ℕ → State → State
with_packet number p s = record s { store = kept p s.store; fecs = map (marked number) s.fecs }

-- at most 64 packets of FEC: the oldest one is dropped
abbrev pub latest : List OpenFec → List OpenFec
latest fecs = if nat_le 64 (length fecs) then remove fecs 0 else fecs

abbrev pub with_fec : List ℕ → State → State
with_fec bytes s = record s { fecs = latest s.fecs ++ record { bytes = bytes; is_due = true } ∷ [] }

-- a packet of FEC that is too large to protect packets that are kept is dropped
abbrev pub with_small : Bool → List ℕ → State → State
with_small true bytes s = with_fec bytes s
with_small false bytes s = s

abbrev pub took_fec : List ℕ → Result Fec FecFault → State → State
took_fec bytes (Err fault) s = s
took_fec bytes (Ok f) s = with_small (nat_le (length bytes - 6) s.store.largest) bytes (entered f.base s)

abbrev pub took : Content → State → State
took Nothing s = s
took (Media p) s = with_packet p.header.sequence_number (plain_bytes s.settings.late_ids p) (entered p.header.sequence_number s)
took (FecIn bytes) s = took_fec bytes (fec_at bytes) s

abbrev pub received : List ℕ → State → State
received datagram s = record (took (content_of s.settings (rtp_at datagram)) s) { is_fresh = true }

-- ---- the next packet

-- `Useless`: no packet is missing, or the bytes are not a packet of FEC. `Ready`: one packet is missing. `Waits`: several are
abbrev pub verdict_of : List ℕ → Verdict
verdict_of [] = verdicts.Useless
verdict_of (n ∷ []) = verdicts.Ready
verdict_of (n ∷ m ∷ ns) = verdicts.Waits

abbrev pub verdict_on : (ℕ → Option (List ℕ)) → Result Fec FecFault → Verdict
verdict_on find (Err fault) = verdicts.Useless
verdict_on find (Ok f) = verdict_of (missing_of find (numbers f))

abbrev pub first_due : List OpenFec → Option ℕ
first_due fecs = position (λ (o : OpenFec). o.is_due) fecs

abbrev pub fec_at_place : ℕ → State → OpenFec
fec_at_place place s = slice_index_or s.fecs place (record { bytes = []; is_due = false })

-- the packet of FEC at a place is dropped, or is not to be tried until another packet that it protects comes
abbrev pub without : ℕ → State → State
without place s = record s { fecs = remove s.fecs place }

abbrev pub waiting : ℕ → State → State
waiting place s = record s { fecs = slice_set s.fecs place (record (fec_at_place place s) { is_due = false }) }

-- the place of the first packet of FEC to be tried that misses one packet, and what is held once those before it were tried
pub record Tried : Type 0 where
  pub ready : Option ℕ
  pub state : State

abbrev pub judged : (State → Tried) → ℕ → State → Verdict → Tried
judged next place s verdicts.Ready = record { ready = Some place; state = s }
judged next place s verdicts.Waits = next (waiting place s)
judged next place s verdicts.Useless = next (without place s)

abbrev pub tried_at : (State → Tried) → Option ℕ → State → Tried
tried_at next None s = record { ready = None; state = s }
tried_at next (Some place) s = judged next place s (verdict_on (found_in s.store.slots) (fec_at (fec_at_place place s).bytes))

-- at most n are tried
unfoldable pub tried : ℕ → State → Tried
tried zero s = record { ready = None; state = s }
tried (suc n) s = tried_at (tried n) (first_due s.fecs) s

-- a packet that is handed out, and what is held then
pub record Handed : Type 0 where
  pub packet : Option (List ℕ)
  pub state : State

abbrev pub stale : State → State
stale s = record s { is_fresh = false }

abbrev pub rebuilt_by : State → Result Fec FecFault → Option (List ℕ)
rebuilt_by s (Err fault) = None
rebuilt_by s (Ok f) = rebuilt s.settings.ssrc f (found_in s.store.slots)

-- a rebuilt packet is kept, and may help others
abbrev pub kept_as : State → Option (List ℕ) → State
kept_as s None = s
kept_as s (Some p) = with_packet (number_of p) p s

abbrev pub handed_at : ℕ → State → Option (List ℕ) → Handed
handed_at place s packet = record { packet = packet; state = stale (kept_as (without place s) packet) }

abbrev pub handed_if : Option ℕ → State → Handed
handed_if None s = record { packet = None; state = stale s }
handed_if (Some place) s = handed_at place s (rebuilt_by s (fec_at (fec_at_place place s).bytes))

-- at most one packet for each datagram, and at most two packets of FEC are tried
abbrev pub after_tries : State → State
after_tries s = if s.is_fresh then (tried 2 s).state else s

abbrev pub next_of : State → Handed
next_of s = if s.is_fresh then handed_if (tried 2 s).ready (tried 2 s).state else record { packet = None; state = s }
