-- The picture ids that a unit reports, from the reports of its packets.
use Rattle.std.proofs.Common.{◌≡◌, ◌∙◌, ap, refl, sym, subst, ℕ, ◌<◌, List, [], ◌∷◌, ◌++◌, length, arith, Bool, true, false, leb, Option, Some, None, Result, Ok, Err}
use Rattle.std.specs.Prelude.{MatchResult}
use Rattle.std.proofs.lemmas.Bool.Decides.{nat_tests}
use Rattle.codec_payload_base.specs.PictureIds.{extended_by}
use Rattle.codec_payload_base.specs.declared.picture_id.PictureId.TheVariants.{Long}
use Rattle.codec_payload_base.specs.declared.error.PacketError.{PacketError}
use Rattle.codec_payload_base.specs.declared.interface.CodecExtra.{CodecExtra}
use Rattle.codec_payload_codec.proofs.StepLemmas.{quiet_step}
use Rattle.codec_payload_codec.specs.BaseLayers.{lacks_base}
use Rattle.codec_payload_codec.specs.Depacketizers.{DepacketizerState, DepacketizerKind}
use Rattle.codec_payload_codec.specs.Depacketizers.{kind_of_depacketizer, DepacketizerStep, head_in}
use Rattle.codec_payload_codec.specs.Packetizers.{is_quiet}
use Rattle.codec_payload_buffer.specs.Held.{Held}
use Rattle.codec_payload_payloader.specs.Packets.{Packet}
use Rattle.codec_payload_buffer_runs.specs.LawfulUnits.{payloads_held, payloads_sent, StartsWithHead}
use Rattle.codec_payload_buffer.specs.Steps.{Unpacked, Unpacks, nothing_unpacked}
use Rattle.codec_payload_buffer_runs.specs.ReportedIds.{ReadId, IsNextId, TellsPicture, ahead, read_by, read_last}

-- Payloads that do not report the id of the base layer

-- after this payload it is reported only if it was before
abbrev pub IsSilent : DepacketizerKind → List ℕ → Type 0
IsSilent kind payload =
    (d : DepacketizerState) (out : List ℕ) (extra : CodecExtra) (x : Unit {0}) (e : DepacketizerState) (out' : List ℕ) (extra' : CodecExtra) → kind_of_depacketizer d ≡ kind → lacks_base extra ≡ true
    → DepacketizerStep d payload out extra (Ok x) e out' extra' → (kind_of_depacketizer e ≡ kind) × (lacks_base extra' ≡ true)

abbrev pub AllSilent : DepacketizerKind → List (List ℕ) → Type 0
AllSilent kind [] = Unit {0}
AllSilent kind (payload ∷ payloads) = IsSilent kind payload × AllSilent kind payloads

-- and the bytes reassembled from them do not report it either
after_silent : (kind : DepacketizerKind) (ps : List Held) (p : Held) (d : DepacketizerState) (u unpacked v : Unpacked) (one : Result (Unit {0}) PacketError) (mid e : DepacketizerState)
    → IsSilent kind p.bytes → kind_of_depacketizer d ≡ kind → lacks_base u.extra ≡ true
    → DepacketizerStep d p.bytes u.bytes u.extra one mid v.bytes v.extra
    → MatchResult one (λ _. Unpacks mid ps v (Ok unpacked) e) (λ fault. (◌≡◌ {A = Result Unpacked PacketError} (Ok unpacked) (Err fault)) × (e ≡ mid))
    → (kind_of_depacketizer mid ≡ kind → lacks_base v.extra ≡ true → Unpacks mid ps v (Ok unpacked) e → lacks_base unpacked.extra ≡ true) → lacks_base unpacked.extra ≡ true
after_silent kind ps p d u unpacked v (Ok x) mid e silent is lacks step rest later = let told = silent d u.bytes u.extra x mid v.bytes v.extra is lacks step in later told.0 told.1 rest
after_silent kind ps p d u unpacked v (Err fault) mid e silent is lacks step rest later = let wrong = rest.0 in absurd (cc)

pub silent_unpacks : (kind : DepacketizerKind) (ps : List Held) (d : DepacketizerState) (u unpacked : Unpacked) (e : DepacketizerState)
    → AllSilent kind (payloads_held ps) → kind_of_depacketizer d ≡ kind → lacks_base u.extra ≡ true
    → Unpacks d ps u (Ok unpacked) e → lacks_base unpacked.extra ≡ true
silent_unpacks kind [] d u unpacked e silent is lacks gives = let same : unpacked ≡ u = cc (gives.0) in ap (λ (x : Unpacked). lacks_base x.extra) same ∙ lacks
silent_unpacks kind (p ∷ ps) d u unpacked e silent is lacks gives =
    after_silent kind ps p d u unpacked gives.2 gives.0 gives.1 e silent.0 is lacks gives.3 gives.4
    (λ is_on lacks_on rest. silent_unpacks kind ps gives.1 gives.2 unpacked e silent.1 is_on lacks_on rest)

-- payloads that never report ids
all_quiet : (kind : DepacketizerKind) (payloads : List (List ℕ)) → is_quiet kind ≡ true → AllSilent kind payloads
all_quiet kind [] quiet = tt
all_quiet kind (payload ∷ payloads) quiet = (
  λ d out extra x e out' extra' is lacks step. let told = quiet_step d payload out extra x e out' extra' (ap is_quiet is ∙ quiet) lacks step in (told.0 ∙ is, told.1),
  all_quiet kind payloads quiet,
)

-- so a unit of them owes nothing more
pub quiet_tells : (kind : DepacketizerKind) → is_quiet kind ≡ true → (ps : List Held) (d : DepacketizerState) (unpacked : Unpacked) (e : DepacketizerState) → kind_of_depacketizer d ≡ kind
    → Unpacks d ps nothing_unpacked (Ok unpacked) e → lacks_base unpacked.extra ≡ true
quiet_tells kind quiet ps d unpacked e is gives = silent_unpacks kind ps d nothing_unpacked unpacked e (all_quiet kind (payloads_held ps) quiet) is refl gives

-- Payloads that carry a picture id and the id of the base layer

-- this payload reports that picture
abbrev pub IsTold : DepacketizerKind → ℕ → List ℕ → Type 0
IsTold kind id payload =
    (d : DepacketizerState) (out : List ℕ) (extra : CodecExtra) (x : Unit {0}) (e : DepacketizerState) (out' : List ℕ) (extra' : CodecExtra) → kind_of_depacketizer d ≡ kind
    → DepacketizerStep d payload out extra (Ok x) e out' extra' → (kind_of_depacketizer e ≡ kind) × TellsPicture id (read_by d) extra' (read_by e)

abbrev pub AllTold : DepacketizerKind → ℕ → List (List ℕ) → Type 0
AllTold kind id [] = Unit {0}
AllTold kind id (payload ∷ payloads) = IsTold kind id payload × AllTold kind id payloads

ahead_none : (id : ℕ) → id < 32768 → ahead id id ≡ 0
ahead_none id small = omega (arith, small)

-- the same id again gives the same extension
next_again : (id : ℕ) (before : Option ReadId) (picture next : ℕ) → id < 32768 → IsNextId before id picture
    → IsNextId (Some (record { raw = id; extended = picture })) id next → IsNextId before id next
next_again id None picture next small was on = omega (arith, on small (omega (arith, ahead_none id small)), ahead_none id small, was, small)
next_again id (Some r) picture next small was on = λ low near. omega (arith, on small (omega (arith, ahead_none id small)), ahead_none id small, was low near)

told_again : (id : ℕ) (before mid after : Option ReadId) (extra extra' : CodecExtra) → id < 32768 → TellsPicture id before extra mid
    → TellsPicture id mid extra' after → TellsPicture id before extra' after
told_again id before mid after extra extra' small was on = record {
  told = on.told;
  is = on.is;
  picture = on.picture;
  base = on.base;
  has_picture = on.has_picture;
  has_base = on.has_base;
  base_layer = on.base_layer;
  next = next_again id before was.picture on.picture small was.next (subst (λ (r : Option ReadId). IsNextId r id on.picture) was.read on.next);
  read = on.read;
}

-- an id reported before some payloads is still reported after them
after_told : (kind : DepacketizerKind) (id : ℕ) (start : Option ReadId) (ps : List Held) (p : Held) (d : DepacketizerState) (u unpacked v : Unpacked)
    (one : Result (Unit {0}) PacketError) (mid e : DepacketizerState) → IsTold kind id p.bytes → kind_of_depacketizer d ≡ kind
    → DepacketizerStep d p.bytes u.bytes u.extra one mid v.bytes v.extra
    → MatchResult one (λ _. Unpacks mid ps v (Ok unpacked) e) (λ fault. (◌≡◌ {A = Result Unpacked PacketError} (Ok unpacked) (Err fault)) × (e ≡ mid))
    → (kind_of_depacketizer mid ≡ kind → TellsPicture id (read_by d) v.extra (read_by mid) → Unpacks mid ps v (Ok unpacked) e
    → TellsPicture id start unpacked.extra (read_by e)) → TellsPicture id start unpacked.extra (read_by e)
after_told kind id start ps p d u unpacked v (Ok x) mid e told is step rest later = let here = told d u.bytes u.extra x mid v.bytes v.extra is step in later here.0 here.1 rest
after_told kind id start ps p d u unpacked v (Err fault) mid e told is step rest later = let wrong = rest.0 in absurd (cc)

told_behind : (kind : DepacketizerKind) (id : ℕ) (start : Option ReadId) (ps : List Held) (d : DepacketizerState) (u unpacked : Unpacked) (e : DepacketizerState) → id < 32768
    → AllTold kind id (payloads_held ps) → kind_of_depacketizer d ≡ kind
    → TellsPicture id start u.extra (read_by d) → Unpacks d ps u (Ok unpacked) e → TellsPicture id start unpacked.extra (read_by e)
told_behind kind id start [] d u unpacked e small told is was gives =
    let same : u ≡ unpacked = cc (gives.0) in
    let still : d ≡ e = cc (gives.1) in
    subst (λ (x : DepacketizerState). TellsPicture id start unpacked.extra (read_by x)) still (subst (λ (x : Unpacked). TellsPicture id start x.extra (read_by d)) same was)
told_behind kind id start (p ∷ ps) d u unpacked e small told is was gives =
    after_told kind id start ps p d u unpacked gives.2 gives.0 gives.1 e told.0 is gives.3 gives.4
    (λ is_on here rest. told_behind kind id start ps gives.1 gives.2 unpacked e small told.1 is_on (told_again id start (read_by d) (read_by gives.1) u.extra gives.2.extra small was here) rest)

-- a unit of such payloads, one or more, reports the picture
pub unit_told : (kind : DepacketizerKind) (id : ℕ) (ps : List Held) (d : DepacketizerState) (u unpacked : Unpacked) (e : DepacketizerState) → id < 32768 → 0 < length ps
    → AllTold kind id (payloads_held ps) → kind_of_depacketizer d ≡ kind
    → Unpacks d ps u (Ok unpacked) e → TellsPicture id (read_by d) unpacked.extra (read_by e)
unit_told kind id [] d u unpacked e small some told is gives = absurd (omega arith)
unit_told kind id (p ∷ ps) d u unpacked e small some told is gives =
    after_told kind id (read_by d) ps p d u unpacked gives.2 gives.0 gives.1 e told.0 is gives.3 gives.4
    (λ is_on here rest. told_behind kind id (read_by d) ps gives.1 gives.2 unpacked e small told.1 is_on here rest)

-- the extension as a depacketizer computes it is as is asked
pub extension_is_next : (before : Option ℕ) (last id : ℕ) → IsNextId (read_last before last) id (extended_by before last (Long id))
extension_is_next None last id = refl
extension_is_next (Some before) last id = λ low near.
    let is : leb (ahead last id) 16384 ≡ true = grind (arith, nat_tests, near) in
    rw is (omega (arith, low, near))

-- The condition on a codec whose units carry both ids: each packet reports the unit's picture, and only the first one begins a unit

abbrev pub NoHeads : DepacketizerKind → List Packet → Type 0
NoHeads kind [] = Unit {0}
NoHeads kind (p ∷ ps) = (head_in kind p.payload ≡ false) × NoHeads kind ps

pub none_later : (kind : DepacketizerKind) (missing rest ps : List Packet) → NoHeads kind ps → missing ++ rest ≡ ps → StartsWithHead kind rest → ⊥
none_later kind [] [] ps none whole head = head
none_later kind [] (r ∷ rs) [] none whole head = cc
none_later kind [] (r ∷ rs) (p ∷ ps) none whole head =
    let same : r ≡ p = cc in
    let wrong : true ≡ false = sym head ∙ (ap (λ (x : Packet). head_in kind x.payload) same ∙ none.0) in
    cc
none_later kind (m ∷ ms) rest [] none whole head = cc
none_later kind (m ∷ ms) rest (p ∷ ps) none whole head = none_later kind ms rest ps none.1 (cc) head

pub told_unit : (kind : DepacketizerKind) (id : ℕ) (first : Packet) (others : List Packet) → id < 32768 → NoHeads kind others → AllTold kind id (payloads_sent (first ∷ others))
    → (missing rest : List Packet) → missing ++ rest ≡ first ∷ others → StartsWithHead kind rest → (ps : List Held) → payloads_held ps ≡ payloads_sent rest
    → (d : DepacketizerState) (unpacked : Unpacked) (e : DepacketizerState) → kind_of_depacketizer d ≡ kind → Unpacks d ps nothing_unpacked (Ok unpacked) e
    → TellsPicture id (read_by d) unpacked.extra (read_by e)
told_unit kind id first others small none told (m ∷ ms) rest whole head ps same d unpacked e is gives = absurd (none_later kind ms rest others none (cc) head)
told_unit kind id first others small none told [] rest whole head ps same d unpacked e is gives =
    let payloads : payloads_held ps ≡ payloads_sent (first ∷ others) = same ∙ ap payloads_sent whole in
    unit_told kind id ps d nothing_unpacked unpacked e small (held_some ps payloads) (subst (AllTold kind id) (sym payloads) told) is gives
  where
    held_some : (hs : List Held) → payloads_held hs ≡ payloads_sent (first ∷ others) → 0 < length hs
    held_some [] are = absurd (cc)
    held_some (h ∷ hs) are = omega arith
