-- What a depacketizer accepts, it accepts in one way: the result, the bytes and the codec-specific data are determined.
use Rattle.std.proofs.Common.{◌≡◌, ◌∙◌, sym, ap, ℕ, subst, List, [], ◌∷◌, ◌++◌, Result, Ok, Err, Bool, true, false, refl, length, Some}
use Rattle.codec_payload_audio.specs.AmrWbReceived.{AmrWbStep}
use Rattle.codec_payload_base.specs.Bits.{bytes_of}
use Rattle.codec_payload_audio.specs.Payloads.{Appends, AppendsSome}
use Rattle.codec_payload_base.specs.TelephoneReport.{TakesFirst}
use Rattle.codec_payload_base.specs.declared.error.PacketError.{PacketError}
use Rattle.codec_payload_base.specs.declared.interface.CodecExtra.{CodecExtra}
use Rattle.codec_payload_codec.specs.Depacketizers.{DepacketizerState, G711Depacketizing, ComfortNoiseDepacketizing, TeleDepacketizing, Vp8Depacketizing}
use Rattle.codec_payload_codec.specs.Depacketizers.{Vp9Depacketizing, Av1Depacketizing, AmrWbDepacketizing, BoxedDepacketizing, is_built_in_depacketizer, kind_of_depacketizer, DepacketizerStep}
use Rattle.codec_payload_codec.specs.Packetizers.{is_quiet}
use Rattle.codec_payload_codec.specs.BaseLayers.{lacks_base}
use Rattle.codec_payload_av1.specs.Av1Steps.{Av1Step}
use Rattle.codec_payload_vp9.specs.Vp9Fields.{Fields, Groups}
use Rattle.codec_payload_vp9.specs.Vp9Reading.{all_groups, read_all, with_flags}
use Rattle.codec_payload_vp9.specs.Vp9Received.{AppendedIf, Vp9Rest, Vp9Step, is_misplaced, told_before}
use Rattle.codec_payload_vp8.specs.Vp8Descriptor.{read_behind}
use Rattle.codec_payload_vp8.specs.Vp8Received.{Vp8Step, Vp8Rest, extra_of, with_fields}
use Rattle.codec_payload_vp8.specs.declared.vp8.depacketizer.Vp8Depacketizer.{Vp8Depacketizer}
use Rattle.codec_payload_vp8.specs.declared.vp8.descriptor.Vp8DescriptorError.{Vp8DescriptorError}

appends_same : (payload out : List ℕ) (extra : CodecExtra) (o p : List ℕ) (x y : CodecExtra) → Appends payload out extra (Ok tt) o x → Appends payload out extra (Ok tt) p y → (o ≡ p) × (x ≡ y)
appends_same payload out extra o p x y a b = (a.0 ∙ sym b.0, a.1 ∙ sym b.1)

some_same : (payload out : List ℕ) (extra : CodecExtra) (o p : List ℕ) (x y : CodecExtra) → AppendsSome payload out extra (Ok tt) o x → AppendsSome payload out extra (Ok tt) p y → (o ≡ p) × (x ≡ y)
some_same [] out extra o p x y a b = let no = a.0 in absurd (cc)
some_same (c ∷ cs) out extra o p x y a b = appends_same (c ∷ cs) out extra o p x y a b

first_same : (rate : ℕ) (payload out o p : List ℕ) (x y : CodecExtra) → TakesFirst rate payload out o x → TakesFirst rate payload out p y → (o ≡ p) × (x ≡ y)
first_same rate (event ∷ flags ∷ high ∷ low ∷ rest) out o p x y a b = (a.0 ∙ sym b.0, a.1 ∙ sym b.1)
first_same rate (event ∷ flags ∷ high ∷ []) out o p x y a b = absurd a
first_same rate (event ∷ flags ∷ []) out o p x y a b = absurd a
first_same rate (event ∷ []) out o p x y a b = absurd a
first_same rate [] out o p x y a b = absurd a

rest_same : (d : Vp8Depacketizer) (rest : Result (List ℕ) Vp8DescriptorError) (out : List ℕ) (extra : CodecExtra) (e f : Vp8Depacketizer) (o p : List ℕ)
    (x y : CodecExtra) → Vp8Rest d rest out extra (Ok tt) e o x → Vp8Rest d rest out extra (Ok tt) f p y → (e ≡ f) × (o ≡ p) × (x ≡ y)
rest_same d (Err error) out extra e f o p x y a b = let no = a.0 in absurd (cc)
rest_same d (Ok []) out extra e f o p x y a b = let no = a.0 in absurd (cc)
rest_same d (Ok (c ∷ cs)) out extra e f o p x y a b =
    let same : e ≡ f = a.0 ∙ sym b.0 in
    (same, a.1 ∙ sym b.1, a.2 ∙ ap (λ (g : Vp8Depacketizer). extra_of g extra) same ∙ sym b.2)

vp8_same : (d : Vp8Depacketizer) (payload out : List ℕ) (extra : CodecExtra) (e f : Vp8Depacketizer) (o p : List ℕ) (x y : CodecExtra)
    → Vp8Step d payload out extra (Ok tt) e o x → Vp8Step d payload out extra (Ok tt) f p y → (e ≡ f) × (o ≡ p) × (x ≡ y)
vp8_same d [] out extra e f o p x y a b = let no = a.0 in absurd (cc)
vp8_same d (byte ∷ bytes) out extra e f o p x y a b =
    let r = read_behind byte bytes in
    rest_same (with_fields d r.fields) r.rest out extra e f o p x y a b

-- a VP9 payload that is accepted
vp9_rest_same : (d f : Fields) (rest : Result (List ℕ) PacketError) (out : List ℕ) (extra : CodecExtra) (o p : List ℕ) (x y : CodecExtra) → d ≡ f
    → Vp9Rest d rest out extra (Ok tt) o x → Vp9Rest f rest out extra (Ok tt) p y → (o ≡ p) × (x ≡ y)
vp9_rest_same d f (Err fault) out extra o p x y same a b = let no = a.0 in absurd (cc)
vp9_rest_same d f (Ok rest) out extra o p x y same a b = placed (is_misplaced d (length out) (told_before extra)) a (subst (λ (g : Fields). Vp9Rest g (Ok rest) out extra (Ok tt) p y) (sym same) b)
  where
    placed : (m : Bool) → AppendedIf m d rest out extra (Ok tt) o x → AppendedIf m d rest out extra (Ok tt) p y → (o ≡ p) × (x ≡ y)
    placed true a b = let no = a.0 in absurd (cc)
    placed false a b = (a.0 ∙ sym b.0, a.1 ∙ sym b.1)

vp9_same : (d : Fields) (payload out : List ℕ) (extra : CodecExtra) (e f : Fields) (o p : List ℕ) (x y : CodecExtra) → Vp9Step d payload out extra (Ok tt) e o x
    → Vp9Step d payload out extra (Ok tt) f p y → (e ≡ f) × (o ≡ p) × (x ≡ y)
vp9_same d [] out extra e f o p x y a b = let no = a.0 in absurd (cc)
vp9_same d (flags ∷ bytes) out extra e f o p x y a b =
    let all = (read_all (with_flags d flags) bytes).fields in
    let groups : e.groups ≡ f.groups = a.1 refl ∙ sym (b.1 refl) in
    let same : e ≡ f = a.0 ∙ ap (λ (g : Groups). record all { groups = g }) groups ∙ sym b.0 in
    let rest = vp9_rest_same e f (all_groups (with_flags d flags) bytes).rest out extra o p x y same a.2 b.2 in
    (same, rest.0, rest.1)

some_is : (x y : List ℕ × List ℕ) → Some x ≡ Some y → x ≡ y
some_is x y e = cc

av1_same : (pending payload out : List ℕ) (extra : CodecExtra) (e f o p : List ℕ) (x y : CodecExtra) → Av1Step pending payload out extra (Ok tt) e o x
    → Av1Step pending payload out extra (Ok tt) f p y → (e ≡ f) × (o ≡ p) × (x ≡ y)
av1_same pending payload out extra e f o p x y a b =
    let both = some_is (a.0, e) (b.0, f) (sym a.1 ∙ b.1) in
    let added : a.0 ≡ b.0 = ap (λ z. z.0) both in
    let left : e ≡ f = ap (λ z. z.1) both in
    (left, a.2 ∙ ap (λ (zs : List ℕ). out ++ zs) added ∙ sym b.2, a.3 ∙ sym b.3)

amr_wb_same : (octet : Bool) (payload out : List ℕ) (extra : CodecExtra) (o p : List ℕ) (x y : CodecExtra) → AmrWbStep octet payload out extra (Ok tt) o x
    → AmrWbStep octet payload out extra (Ok tt) p y → (o ≡ p) × (x ≡ y)
amr_wb_same octet payload out extra o p x y a b =
    let both : ◌≡◌ {A = Result (List ℕ) PacketError} (Ok a.0) (Ok b.0) = sym a.1 ∙ b.1 in
    let frames : a.0 ≡ b.0 = cc in
    (a.2 ∙ ap (λ (zs : List ℕ). out ++ bytes_of zs) frames ∙ sym b.2, a.3 ∙ sym b.3)

-- of any of them
pub step_same : (d : DepacketizerState) (payload out : List ℕ) (extra : CodecExtra) (e f : DepacketizerState) (o p : List ℕ) (x y : CodecExtra) → is_built_in_depacketizer d ≡ true
    → DepacketizerStep d payload out extra (Ok tt) e o x → DepacketizerStep d payload out extra (Ok tt) f p y → (e ≡ f) × (o ≡ p) × (x ≡ y)
step_same ComfortNoiseDepacketizing payload out extra e f o p x y built_in a b = let same = some_same payload out extra o p x y a.0 b.0 in (a.1 ∙ sym b.1, same.0, same.1)
step_same (TeleDepacketizing rate) payload out extra e f o p x y built_in a b = let same = first_same rate payload out o p x y a.0.1 b.0.1 in (a.1 ∙ sym b.1, same.0, same.1)
step_same (AmrWbDepacketizing octet) payload out extra e f o p x y built_in a b = let same = amr_wb_same octet payload out extra o p x y a.0 b.0 in (a.1 ∙ sym b.1, same.0, same.1)
step_same (Vp8Depacketizing d) payload out extra e f o p x y built_in a b =
    let same = vp8_same d payload out extra a.0 b.0 o p x y a.1 b.1 in
    (a.2 ∙ ap Vp8Depacketizing same.0 ∙ sym b.2, same.1, same.2)
step_same (Vp9Depacketizing d) payload out extra e f o p x y built_in a b =
    let same = vp9_same d payload out extra a.0 b.0 o p x y a.1 b.1 in
    (a.2 ∙ ap Vp9Depacketizing same.0 ∙ sym b.2, same.1, same.2)
step_same (Av1Depacketizing pending) payload out extra e f o p x y built_in a b =
    let same = av1_same pending payload out extra a.0 b.0 o p x y a.1 b.1 in
    (a.2 ∙ ap Av1Depacketizing same.0 ∙ sym b.2, same.1, same.2)
step_same BoxedDepacketizing payload out extra e f o p x y built_in a b = absurd (cc)
step_same d payload out extra e f o p x y built_in a b = let same = appends_same payload out extra o p x y a.0 b.0 in (a.1 ∙ sym b.1, same.0, same.1)

-- a payload that never reports ids: neither is one of the base layer reported afterwards
first_silent : (rate : ℕ) (payload out out' : List ℕ) (extra' : CodecExtra) → TakesFirst rate payload out out' extra' → lacks_base extra' ≡ true
first_silent rate (a ∷ b ∷ c ∷ d ∷ rest) out out' extra' takes = ap lacks_base takes.1
first_silent rate payload out out' extra' takes = absurd takes

pub quiet_step : (d : DepacketizerState) (payload out : List ℕ) (extra : CodecExtra) (x : Unit {0}) (e : DepacketizerState) (out' : List ℕ) (extra' : CodecExtra)
    → is_quiet (kind_of_depacketizer d) ≡ true → lacks_base extra ≡ true
    → DepacketizerStep d payload out extra (Ok x) e out' extra' → (kind_of_depacketizer e ≡ kind_of_depacketizer d) × (lacks_base extra' ≡ true)
quiet_step (Vp8Depacketizing d) payload out extra x e out' extra' quiet lacks step = absurd (cc)
quiet_step (Vp9Depacketizing d) payload out extra x e out' extra' quiet lacks step = absurd (cc)
quiet_step BoxedDepacketizing payload out extra x e out' extra' quiet lacks step = absurd (cc)
quiet_step ComfortNoiseDepacketizing [] out extra x e out' extra' quiet lacks step = let none = step.0.0 in absurd (cc)
quiet_step ComfortNoiseDepacketizing (b ∷ bs) out extra x e out' extra' quiet lacks step = (ap kind_of_depacketizer step.1, ap lacks_base step.0.1 ∙ lacks)
quiet_step (TeleDepacketizing rate) payload out extra x e out' extra' quiet lacks step = (ap kind_of_depacketizer step.1, first_silent rate payload out out' extra' step.0.1)
quiet_step (Av1Depacketizing pending) payload out extra x e out' extra' quiet lacks step = (ap kind_of_depacketizer step.2, ap lacks_base step.1.3)
quiet_step (AmrWbDepacketizing octet) payload out extra x e out' extra' quiet lacks step = (ap kind_of_depacketizer step.1, ap lacks_base step.0.3 ∙ lacks)
quiet_step d payload out extra x e out' extra' quiet lacks step = (ap kind_of_depacketizer step.1, ap lacks_base step.0.1 ∙ lacks)
