-- Units whose packets each end with their only tail are fixed by the list of all packets.
use Rattle.std.proofs.Common.{◌≡◌, ◌∙◌, ap, sym, subst, List, [], ◌∷◌, ◌++◌, length}
use Rattle.codec_payload_base.specs.declared.wire.extension.ExtensionValues.{ExtensionValues}
use Rattle.codec_payload_codec.specs.Depacketizers.{DepacketizerKind}
use Rattle.codec_payload_buffer_runs.proofs.units.UnitValues.{AllCarry, AreStripped}
use Rattle.codec_payload_payloader.specs.Packets.{Packet}
use Rattle.codec_payload_buffer_runs.specs.SentStream.{SentUnit, packets_of, AllEndWithTail, EndsWithTail}

-- the cut of a list of packets after its first last packet
pub same_front : (kind : DepacketizerKind) (xs ys as' bs : List Packet) → EndsWithTail kind xs → EndsWithTail kind ys → xs ++ as' ≡ ys ++ bs → (xs ≡ ys) × (as' ≡ bs)
same_front kind [] ys as' bs a b e = absurd a
same_front kind (x ∷ xs) [] as' bs a b e = absurd b
same_front kind (x ∷ []) (y ∷ []) as' bs a b e = (cc, cc)
same_front kind (x ∷ []) (y ∷ z ∷ ys) as' bs a b e = let same : x ≡ y = cc in let no = b.0 in absurd (cc)
same_front kind (x ∷ w ∷ xs) (y ∷ []) as' bs a b e = let same : x ≡ y = cc in let no = a.0 in absurd (cc)
same_front kind (x ∷ w ∷ xs) (y ∷ z ∷ ys) as' bs a b e =
    let same : x ≡ y = cc in
    let later : w ∷ xs ++ as' ≡ z ∷ ys ++ bs = cc in
    let rest = same_front kind (w ∷ xs) (z ∷ ys) as' bs a.1 b.1 later in
    (ap (λ (p : Packet). p ∷ w ∷ xs) same ∙ ap (λ (ps : List Packet). y ∷ ps) rest.0, rest.1)

pub not_nothing : (kind : DepacketizerKind) (xs as' : List Packet) → EndsWithTail kind xs → xs ++ as' ≡ [] → ⊥
not_nothing kind [] as' a e = a
not_nothing kind (x ∷ xs) as' a e = cc

-- so units with these packets carry the values of each other
pub values_of : (kind : DepacketizerKind) (values : List ExtensionValues) (us vs : List SentUnit) → AllEndWithTail kind us → AllEndWithTail kind vs
    → packets_of us ≡ packets_of vs → AllCarry values vs → AllCarry values us
values_of kind [] [] vs a b e carry = tt
values_of kind (x ∷ xs) [] [] a b e carry = absurd carry
values_of kind (x ∷ xs) [] (v ∷ vs) a b e carry = absurd (not_nothing kind v.packets (packets_of vs) b.0 (sym e))
values_of kind values (u ∷ us) [] a b e carry = absurd (not_nothing kind u.packets (packets_of us) a.0 e)
values_of kind [] (u ∷ us) (v ∷ vs) a b e carry = absurd carry
values_of kind (x ∷ xs) (u ∷ us) (v ∷ vs) a b e carry =
    let same = same_front kind u.packets v.packets (packets_of us) (packets_of vs) a.0 b.0 e in
    (subst (λ (ps : List Packet). AreStripped x 0 (length ps) ps) (sym same.0) carry.0, values_of kind xs us vs a.1 b.1 same.1 carry.1)
