-- A lost packet is handed out as soon as its FEC comes.
use Rattle.std.proofs.Common.{◌≡◌, ℕ, zero, suc, ◌+◌, ◌-◌, ◌%◌, ◌<◌, ◌≤◌, Bool, true, false, cond, not, leb, ltb, List, [], ◌∷◌, ◌++◌, get_or, length, Option, Some, None, Result, Ok, refl, sym, ap, subst, ◌∙◌, arith}
use Rattle.std.specs.List.{position, position_or_len, remove}
use Rattle.std.proofs.lemmas.Bool.{le-leb, lt-ltb}
use Rattle.std.proofs.lemmas.List.{length-append}
use Rattle.codec_payload_rtp.specs.RtpReading.{rtp_at}
use Rattle.codec_payload_fec.specs.Fec.{Fec, numbers}
use Rattle.codec_payload_fec.specs.FecReading.{fec_at}
use Rattle.codec_payload_fec.specs.Protecting.{IsAmong}
use Rattle.codec_payload_fec.specs.Rebuilding.{found_in, missing_of, rebuilt}
use Rattle.codec_payload_fec.specs.Strings.{number_of}
use Rattle.codec_payload_fec.specs.declared.packet.FecFault.{FecFault}
use Rattle.codec_payload_fec.proofs.ProtectLemmas.{rebuilds_the_missing}
use Rattle.codec_payload_fec_receiver.specs.Contents.{Content}
use Rattle.codec_payload_fec_receiver.specs.Contents.{Fec as FecIn}
use Rattle.codec_payload_fec_receiver.specs.States.{OpenFec, State, Tried, emptied, entered, fec_at_place, first_due, handed_if, judged, latest, next_of, rebuilt_by, received, took, took_fec, tried, tried_at, verdict_of, verdict_on, with_fec, with_small}
use Rattle.codec_payload_fec_runs.specs.Missing.{CompletesGroup, NoneDue, TheMissingIsHandedOut}

-- ---- the last packet of FEC is the first to be tried

place_last : (os : List OpenFec) (o : OpenFec) → NoneDue os → o.is_due ≡ true → position_or_len (λ (x : OpenFec). x.is_due) (os ++ o ∷ []) ≡ length os
place_last [] o none is = ap (λ (b : Bool). cond (not b) 1 0) is
place_last (x ∷ os) o none is =
    ap (λ (b : Bool). cond (not b) (1 + position_or_len (λ (y : OpenFec). y.is_due) (os ++ o ∷ [])) 0) none.0 ∙ ap (λ (n : ℕ). 1 + n) (place_last os o none.1 is) ∙ omega arith

first_last : (os : List OpenFec) (o : OpenFec) → NoneDue os → o.is_due ≡ true → first_due (os ++ o ∷ []) ≡ Some (length os)
first_last os o none is =
    let long : length (os ++ o ∷ []) ≡ length os + 1 = length-append os (o ∷ []) in
    ap (λ (n : ℕ). cond (ltb n (length (os ++ o ∷ []))) (Some n) None) (place_last os o none is)
    ∙ ap (λ (b : Bool). cond b (Some (length os)) None) (lt-ltb (length os) (length (os ++ o ∷ [])) (omega (arith, long)))

last_at : (os : List OpenFec) (o d : OpenFec) → get_or (os ++ o ∷ []) (length os) d ≡ o
last_at [] o d = refl
last_at (x ∷ os) o d = last_at os o d

latest_none : (os : List OpenFec) (b : Bool) → NoneDue os → NoneDue (cond b (remove os 0) os)
latest_none [] true none = tt
latest_none (o ∷ os) true none = none.1
latest_none os false none = none

-- ---- the try

try_first : (t : State) → tried 2 t ≡ tried_at (tried 1) (first_due t.fecs) t
unfolding tried
try_first t = refl

tried_last : (t : State) (os : List OpenFec) (bytes : List ℕ) (f : Fec) (n : ℕ) → t.fecs ≡ os ++ record { bytes = bytes; is_due = true } ∷ [] → NoneDue os → fec_at bytes ≡ Ok f
    → missing_of (found_in t.store.slots) (numbers f) ≡ n ∷ [] → tried 2 t ≡ record { ready = Some (length os); state = t }
tried_last t os bytes f n are none read missing =
    let find : ℕ → Option (List ℕ) = found_in t.store.slots in
    let last : OpenFec = record { bytes = bytes; is_due = true } in
    let d : OpenFec = record { bytes = []; is_due = false } in
    let here : (fec_at_place (length os) t).bytes ≡ bytes = ap (λ (fs : List OpenFec). (get_or fs (length os) d).bytes) are ∙ ap (λ (o : OpenFec). o.bytes) (last_at os last d) in
    let verdict : verdict_on find (fec_at (fec_at_place (length os) t).bytes) ≡ verdict_of (n ∷ []) = ap (λ (bs : List ℕ). verdict_on find (fec_at bs)) here ∙ ap (verdict_on find) read ∙ ap verdict_of missing in
    try_first t ∙ ap (λ (fs : List OpenFec). tried_at (tried 1) (first_due fs) t) are ∙ ap (λ (o : Option ℕ). tried_at (tried 1) o t) (first_last os last none refl)
    ∙ ap (judged (tried 1) (length os) t) verdict

handed_last : (t : State) (os : List OpenFec) (bytes : List ℕ) (f : Fec) (n : ℕ) → t.is_fresh ≡ true → t.fecs ≡ os ++ record { bytes = bytes; is_due = true } ∷ [] → NoneDue os → fec_at bytes ≡ Ok f
    → missing_of (found_in t.store.slots) (numbers f) ≡ n ∷ [] → (next_of t).packet ≡ rebuilt t.settings.ssrc f (found_in t.store.slots)
handed_last t os bytes f n fresh are none read missing =
    let last : OpenFec = record { bytes = bytes; is_due = true } in
    let d : OpenFec = record { bytes = []; is_due = false } in
    let here : (fec_at_place (length os) t).bytes ≡ bytes = ap (λ (fs : List OpenFec). (get_or fs (length os) d).bytes) are ∙ ap (λ (o : OpenFec). o.bytes) (last_at os last d) in
    ap (λ (b : Bool). (cond b (handed_if (tried 2 t).ready (tried 2 t).state) (record { packet = None; state = t })).packet) fresh
    ∙ ap (λ (x : Tried). (handed_if x.ready x.state).packet) (tried_last t os bytes f n are none read missing)
    ∙ ap (λ (bs : List ℕ). rebuilt_by t (fec_at bs)) here ∙ ap (rebuilt_by t) read

-- ---- the packet of FEC is taken

abbrev other_window : State → ℕ → State
other_window s number = record (emptied s) { first = Some ((number + 49152) % 65536) }

abbrev fresh : State → State
fresh s = record s { is_fresh = true }

takes : (s : State) (datagram bytes : List ℕ) (f : Fec) (c : Content) → c ≡ FecIn bytes → fec_at bytes ≡ Ok f → entered f.base s ≡ s → length bytes - 6 ≤ s.store.largest → took c s ≡ with_fec bytes s
takes s datagram bytes f c content read within small =
    ap (λ (x : Content). took x s) content ∙ ap (λ (r : Result Fec FecFault). took_fec bytes r s) read ∙ ap (λ (b : Bool). with_small b bytes (entered f.base s)) (le-leb (length bytes - 6) s.store.largest small)
    ∙ ap (with_fec bytes) within

pub the_missing_is_handed_out : TheMissingIsHandedOut
the_missing_is_handed_out s datagram packets n c =
    let within : entered c.fec.base s ≡ s = ap (λ (b : Bool). cond b s (other_window s c.fec.base)) c.within in
    let took_is = takes s datagram c.bytes c.fec _ c.content c.read within c.small in
    let t : State = fresh (with_fec c.bytes s) in
    let is : received datagram s ≡ t = ap fresh took_is in
    let found = rebuilds_the_missing s.settings.ssrc c.fec packets (found_in s.store.slots) n c.protects c.of_stream c.came c.missing in
    let handed = handed_last t (latest s.fecs) c.bytes c.fec n refl refl (latest_none s.fecs (leb 64 (length s.fecs)) c.none_due) c.read c.missing in
    (found.0, ap (λ (x : State). (next_of x).packet) is ∙ handed ∙ found.1, found.2, found.3)
