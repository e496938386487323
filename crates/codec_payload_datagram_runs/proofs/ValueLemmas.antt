-- A complete unit of video has the extension values of its sample, as far as these have an id.
use Rattle.std.proofs.Common.{◌≡◌, ◌∙◌, ap, refl, sym, subst, ℕ, zero, suc, ◌+◌, ◌-◌, ◌==◌, Bool, true, false, List, [], ◌∷◌, ◌++◌, length, drop, Option, Some, None, arith}
use Rattle.std.specs.Option.{option_or}
use Rattle.std.specs.Prelude.{IfSome, slice_get}
use Rattle.std.proofs.lemmas.Bool.Decides.{nat_tests}
use Rattle.codec_payload_base.specs.StrippedValues.{kept_if, stripped}
use Rattle.codec_payload_base.specs.declared.wire.extension.ExtensionValues.{ExtensionValues}
use Rattle.codec_payload_metadata.specs.Release.{AreValues, Release, merged}
use Rattle.codec_payload_metadata.specs.declared.meta.RtpMeta.{RtpMeta}
use Rattle.codec_payload_codec.specs.Depacketizers.{DepacketizerKind}
use Rattle.codec_payload_rtp.proofs.ValueLemmas.{values_again}
use Rattle.codec_payload_rtp.specs.ExtensionFormats.{elements_of, values_in}
use Rattle.codec_payload_rtp.specs.ExtensionWriting.{FitsValues, elements_for, extension_for, ids_fit, kept_by, values_told}
use Rattle.codec_payload_rtp.specs.declared.values.ExtensionIds.{ExtensionIds}
use Rattle.codec_payload_buffer_runs.proofs.units.UnitRows.{drop_next}
use Rattle.codec_payload_buffer_runs.proofs.units.UnitValues.{AllCarry, AreStripped, carried_at}
use Rattle.codec_payload_buffer_runs.proofs.order.WholeLemmas.{unit_at}
use Rattle.codec_payload_buffer_runs.specs.Headline.{ArePushesBy, packets_before}
use Rattle.codec_payload_buffer_runs.specs.RunUnits.{IsWholeAt}
use Rattle.codec_payload_buffer_runs.specs.SentStream.{AllEndWithTail, EndsWithTail, SentUnit, packets_of}
use Rattle.codec_payload_payloader.specs.Packets.{Packet}
use Rattle.codec_payload_sending.specs.declared.sender.Outgoing.{Outgoing}
use Rattle.codec_payload_datagram_runs.specs.Releases.{IsDelivery, values_read}
use Rattle.codec_payload_datagram_runs.specs.declared.run.DatagramStep.{DatagramStep}

-- Values

-- the values of the first and the last packet, combined, are the values of the sample
or_told : {A : Type 0} (id : Option ℕ) (b : Bool) (o : Option A) → option_or (kept_by id o) (kept_by id (kept_if b o)) ≡ kept_by id o
or_told None b o = refl
or_told (Some id) b (Some x) = refl
or_told (Some id) true None = refl
or_told (Some id) false None = refl

told_last : {A : Type 0} (id : Option ℕ) (b : Bool) (o : Option A) → b ≡ true → kept_by id (kept_if b o) ≡ kept_by id o
told_last id b o is = ap (λ c. kept_by id (kept_if c o)) is

merged_told : (ids : ExtensionIds) (values : ExtensionValues) (m : ℕ)
    → merged (values_told ids (stripped values 0 (m + 1))) (values_told ids (stripped values m (m + 1))) ≡ values_told ids values
unfolding stripped
merged_told ids values m i =
    let last : (m + 1 == m + 1) ≡ true = grind (arith, nat_tests) in
    record {
      abs_capture_time = or_told ids.abs_capture_time (m == 0) values.abs_capture_time i;
      video_orientation = told_last ids.video_orientation (m + 1 == m + 1) values.video_orientation last i;
      video_content_type = told_last ids.video_content_type (m + 1 == m + 1) values.video_content_type last i;
      video_timing = told_last ids.video_timing (m + 1 == m + 1) values.video_timing last i;
      layers_allocation = or_told ids.layers_allocation (m == 0) values.layers_allocation i;
      audio_level = (values_told ids values).audio_level;
      voice_activity = (values_told ids values).voice_activity;
    }

-- the values of one packet have their width
kept_some : {A : Type 0} (P : A → Type 0) (b : Bool) (o : Option A) → IfSome o P → IfSome (kept_if b o) P
kept_some P true o is = is
kept_some P false o is = tt

fits_stripped : (values : ExtensionValues) (i n : ℕ) → FitsValues values → FitsValues (stripped values i n)
unfolding stripped
fits_stripped values i n fits = record {
  capture = kept_some _ (i == 0) values.abs_capture_time fits.capture;
  timing = kept_some _ (i + 1 == n) values.video_timing fits.timing;
  layers = kept_some _ (i == 0) values.layers_allocation fits.layers;
}

-- Packets

-- these packets are in the list from index k on
abbrev AreFrom : List Packet → ℕ → List Packet → Type 0
AreFrom packets k [] = Unit {0}
AreFrom packets k (p ∷ ps) = (slice_get packets k ≡ Some p) × AreFrom packets (k + 1) ps

from_drop : (packets : List Packet) (k : ℕ) (ps rest : List Packet) → drop k packets ≡ ps ++ rest → AreFrom packets k ps
from_drop packets k [] rest is = tt
from_drop packets k (p ∷ ps) rest is = let next = drop_next packets k p (ps ++ rest) is in (next.0, from_drop packets (k + 1) ps rest next.1)

end_at : (kind : DepacketizerKind) (units : List SentUnit) (place : ℕ) (u : SentUnit) → AllEndWithTail kind units → slice_get units place ≡ Some u → EndsWithTail kind u.packets
end_at kind [] place u ends is = absurd (cc)
end_at kind (v ∷ us) zero u ends is = let same : v ≡ u = cc in subst (λ (x : SentUnit). EndsWithTail kind x.packets) same ends.0
end_at kind (v ∷ us) (suc place) u ends is = end_at kind us place u ends.1 is

module _ (ids : ExtensionIds) (stream : Outgoing) (packets : List Packet) (received : List DatagramStep) (same : ids ≡ stream.ids) (fit : ids_fit stream.ids ≡ true)
    (values : ExtensionValues) (fits : FitsValues values) where
  abbrev Known : ℕ → Packet → RtpMeta → Type 0
  Known = IsDelivery ids stream packets received

  -- the values of one packet are read
  told : (k i n : ℕ) (p : Packet) (m : RtpMeta) → Known k p m → slice_get packets k ≡ Some p → p.ext_vals ≡ stripped values i n
      → m.header.ext_vals ≡ values_told stream.ids (stripped values i n)
  told k i n p m known there carries =
      let has = known.2 in
      let is : has.0 ≡ p = cc (has.1, there) in
      has.2 ∙ (ap (λ (q : Packet). values_read ids stream q.ext_vals) is
      ∙ (ap (values_read ids stream) carries
      ∙ (ap (λ (e : ExtensionIds). values_in e (elements_of (extension_for (elements_for stream.ids (stripped values i n))))) same
      ∙ values_again stream.ids (stripped values i n) fit (fits_stripped values i n fits))))

  last_told : (k i n : ℕ) (p : Packet) (ps : List Packet) (metas : List RtpMeta) → ArePushesBy Known k (p ∷ ps) metas → AreFrom packets k (p ∷ ps) → AreStripped values i n (p ∷ ps)
      → (m : RtpMeta) × (slice_get metas (length metas - 1) ≡ Some m) × (m.header.ext_vals ≡ values_told stream.ids (stripped values (i + length ps) n))
  last_told k i n p ps [] pushes from carry = absurd pushes
  last_told k i n p [] (m ∷ []) pushes from carry =
      let e : i ≡ i + 0 = omega arith in
      (m, refl, told k i n p m pushes.0 from.0 carry.0 ∙ ap (λ (j : ℕ). values_told stream.ids (stripped values j n)) e)
  last_told k i n p [] (m ∷ l ∷ ms) pushes from carry = absurd pushes.1
  last_told k i n p (q ∷ qs) (m ∷ []) pushes from carry = absurd pushes.1
  last_told k i n p (q ∷ qs) (m ∷ l ∷ ms) pushes from carry =
      let rest = last_told (k + 1) (i + 1) n q qs (l ∷ ms) pushes.1 from.1 carry.1 in
      let at : suc (length (l ∷ ms) - 1) ≡ length (m ∷ l ∷ ms) - 1 = omega arith in
      let e : i + 1 + length qs ≡ i + length (q ∷ qs) = omega arith in
      (rest.0, ap (slice_get (m ∷ l ∷ ms)) (sym at) ∙ rest.1, rest.2 ∙ ap (λ (j : ℕ). values_told stream.ids (stripped values j n)) e)

  -- the metadata of all packets of a unit gives the values
  told_by_all : (kind : DepacketizerKind) (k : ℕ) (ps : List Packet) (metas : List RtpMeta) → EndsWithTail kind ps → ArePushesBy Known k ps metas → AreFrom packets k ps
      → AreStripped values 0 (length ps) ps → AreValues metas (values_told stream.ids values)
  told_by_all kind k [] metas ends pushes from carry = absurd ends
  told_by_all kind k (p ∷ ps) [] ends pushes from carry = absurd pushes
  told_by_all kind k (p ∷ ps) (m ∷ ms) ends pushes from carry =
      let last = last_told k 0 (length (p ∷ ps)) p ps (m ∷ ms) pushes from carry in
      let n : length (p ∷ ps) ≡ length ps + 1 = omega arith in
      let none : 0 + length ps ≡ length ps = omega arith in
      let first_has : m.header.ext_vals ≡ values_told stream.ids (stripped values 0 (length ps + 1)) =
      told k 0 (length (p ∷ ps)) p m pushes.0 from.0 carry.0 ∙ ap (λ (j : ℕ). values_told stream.ids (stripped values 0 j)) n in
      let last_has : last.0.header.ext_vals ≡ values_told stream.ids (stripped values (length ps) (length ps + 1)) =
      last.2 ∙ (ap (λ (j : ℕ). values_told stream.ids (stripped values j (length (p ∷ ps)))) none ∙ ap (λ (j : ℕ). values_told stream.ids (stripped values (length ps) j)) n) in
      record {
        first = m;
        last = last.0;
        begins = refl;
        ends = last.1;
        are = sym (ap (λ (x : ExtensionValues). merged x last.0.header.ext_vals) first_has
            ∙ (ap (merged (values_told stream.ids (stripped values 0 (length ps + 1)))) last_has ∙ merged_told stream.ids values (length ps)));
      }

-- a release that is a whole unit has the values of that unit
pub has_values : (ids : ExtensionIds) (stream : Outgoing) (received : List DatagramStep) (kind : DepacketizerKind) (splits : Bool) (units : List SentUnit) (all : List ExtensionValues)
    → AllEndWithTail kind units → AllCarry all units → ids ≡ stream.ids → ids_fit stream.ids ≡ true → (place : ℕ) (r : Release)
    → IsWholeAt (IsDelivery ids stream (packets_of units) received) splits units place r
    → (values : ExtensionValues) × (slice_get all place ≡ Some values) × (FitsValues values → AreValues r.metas (values_told stream.ids values))
has_values ids stream received kind splits units all ends carry same fit place r whole =
    let sent = whole.0.sent in
    let at = carried_at all units place sent carry whole.0.at_place in
    let exact : whole.0.rest ≡ sent.packets = ap (λ (ps : List Packet). ps ++ whole.0.rest) (sym whole.1) ∙ whole.0.whole in
    let start : packets_before place units + length whole.0.missing ≡ packets_before place units = omega (arith, ap length whole.1) in
    let pushes : ArePushesBy (IsDelivery ids stream (packets_of units) received) (packets_before place units) sent.packets r.metas =
    subst (λ (k : ℕ). ArePushesBy (IsDelivery ids stream (packets_of units) received) k sent.packets r.metas) start
    (subst (λ (ps : List Packet). ArePushesBy (IsDelivery ids stream (packets_of units) received) (packets_before place units + length whole.0.missing) ps r.metas) exact whole.0.metas) in
    let from : AreFrom (packets_of units) (packets_before place units) sent.packets =
    from_drop (packets_of units) (packets_before place units) sent.packets (packets_of (drop (place + 1) units)) (unit_at units place sent whole.0.at_place) in (
      at.0,
      at.1,
      λ fits. told_by_all ids stream (packets_of units) received same fit at.0 fits kind (packets_before place units) sent.packets r.metas
          (end_at kind units place sent ends whole.0.at_place) pushes from at.2,
    )
