-- The units of a part among the units of all parts.
use Rattle.std.proofs.Common.{◌≡◌, ◌∙◌, refl, sym, ap, subst, ℕ, zero, suc, ◌+◌, ◌≤◌, List, [], ◌∷◌, ◌++◌, Bool, Some, arith, length, take, append_assoc}
use Rattle.std.specs.Prelude.{slice_get}
use Rattle.std.proofs.lemmas.List.{length-append}
use Rattle.codec_payload_metadata.specs.Release.{Release}
use Rattle.codec_payload_metadata.specs.declared.meta.RtpMeta.{RtpMeta}
use Rattle.codec_payload_buffer_runs.specs.Headline.{ArePushesBy, IsUnitAt, packets_before}
use Rattle.codec_payload_buffer_runs.specs.SentStream.{SentUnit, packets_of}
use Rattle.codec_payload_payloader.specs.Packets.{Packet}

pub packets_joined : (us vs : List SentUnit) → packets_of (us ++ vs) ≡ packets_of us ++ packets_of vs
packets_joined [] vs = refl
packets_joined (u ∷ us) vs = ap (λ (ps : List Packet). u.packets ++ ps) (packets_joined us vs) ∙ sym (append_assoc u.packets (packets_of us) (packets_of vs))

-- what is behind `done` others
pub get_behind : {X : Type 0} (done xs : List X) (j : ℕ) → slice_get (done ++ xs) (length done + j) ≡ slice_get xs j
get_behind {X} [] xs j = let e : length {A = X} [] + j ≡ j = omega arith in ap (slice_get xs) e
get_behind (d ∷ done) xs j =
    let e : length (d ∷ done) + j ≡ suc (length done + j) = omega arith in
    ap (slice_get (d ∷ done ++ xs)) e ∙ get_behind done xs j

take_behind : (done us : List SentUnit) (j : ℕ) → take (length done + j) (done ++ us) ≡ done ++ take j us
take_behind [] us j = let e : length {A = SentUnit} [] + j ≡ j = omega arith in ap (λ (n : ℕ). take n us) e
take_behind (d ∷ done) us j =
    let e : length (d ∷ done) + j ≡ suc (length done + j) = omega arith in
    ap (λ (n : ℕ). take n (d ∷ done ++ us)) e ∙ ap (λ (vs : List SentUnit). d ∷ vs) (take_behind done us j)

pub before_behind : (done us : List SentUnit) (j : ℕ) → packets_before (length done + j) (done ++ us) ≡ length (packets_of done) + packets_before j us
before_behind done us j =
    ap (λ (vs : List SentUnit). length (packets_of vs)) (take_behind done us j)
    ∙ (ap length (packets_joined done (take j us)) ∙ length-append (packets_of done) (packets_of (take j us)))

pub get_front : {X : Type 0} (xs ys : List X) (j : ℕ) (x : X) → slice_get xs j ≡ Some x → slice_get (xs ++ ys) j ≡ Some x
get_front [] ys j x is = absurd (cc)
get_front (y ∷ xs) ys zero x is = is
get_front (y ∷ xs) ys (suc j) x is = get_front xs ys j x is

take_front : (us vs : List SentUnit) (j : ℕ) → j ≤ length us → take j (us ++ vs) ≡ take j us
take_front us vs zero le = refl
take_front [] vs (suc j) le = absurd (omega (arith, le))
take_front (u ∷ us) vs (suc j) le = ap (λ (ws : List SentUnit). u ∷ ws) (take_front us vs j (omega (arith, le)))

within_front : (us : List SentUnit) (j : ℕ) (u : SentUnit) → slice_get us j ≡ Some u → j ≤ length us
within_front [] j u is = absurd (cc)
within_front (v ∷ us) zero u is = omega arith
within_front (v ∷ us) (suc j) u is = omega (arith, within_front us j u is)

-- pushes of the packets of a part
pushes_behind : (known all : ℕ → Packet → RtpMeta → Type 0) (base k : ℕ) (ps : List Packet) (ms : List RtpMeta) → ((j : ℕ) (q : Packet) (m : RtpMeta) → known j q m → all (base + j) q m)
    → ArePushesBy known k ps ms → ArePushesBy all (base + k) ps ms
pushes_behind known all base k [] [] moves pushes = tt
pushes_behind known all base k (p ∷ ps) [] moves pushes = absurd pushes
pushes_behind known all base k [] (m ∷ ms) moves pushes = absurd pushes
pushes_behind known all base k (p ∷ ps) (m ∷ ms) moves pushes =
    let next : base + (k + 1) ≡ base + k + 1 = omega arith in
    (moves k p m pushes.0, subst (λ (n : ℕ). ArePushesBy all n ps ms) next (pushes_behind known all base (k + 1) ps ms moves pushes.1))

-- a unit of a part is a unit of the run
pub unit_behind : (known all : ℕ → Packet → RtpMeta → Type 0) (splits : Bool) (done us later : List SentUnit) (j : ℕ) (r : Release)
    → ((k : ℕ) (q : Packet) (m : RtpMeta) → known k q m → all (length (packets_of done) + k) q m) → IsUnitAt known splits us j r → IsUnitAt all splits (done ++ (us ++ later)) (length done + j) r
unit_behind known all splits done us later j r moves is =
    let before : packets_before (length done + j) (done ++ (us ++ later)) ≡ length (packets_of done) + packets_before j us =
    before_behind done (us ++ later) j ∙ ap (λ (vs : List SentUnit). length (packets_of done) + length (packets_of vs)) (take_front us later j (within_front us j is.sent is.at_place)) in
    let start : length (packets_of done) + (packets_before j us + length is.missing) ≡ packets_before (length done + j) (done ++ (us ++ later)) + length is.missing = omega (arith, before) in
    record {
      sent = is.sent;
      at_place = get_behind done (us ++ later) j ∙ get_front us later j is.sent is.at_place;
      missing = is.missing;
      rest = is.rest;
      whole = is.whole;
      bytes = is.bytes;
      metas = subst (λ (n : ℕ). ArePushesBy all n is.rest r.metas) start
          (pushes_behind known all (length (packets_of done)) (packets_before j us + length is.missing) is.rest r.metas moves is.metas);
    }
