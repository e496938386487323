-- The packets of a unit of video carry the extension values of its sample, and so do releases of all of them.
use Rattle.std.proofs.Common.{◌≡◌, ◌∙◌, ap, refl, sym, subst, ℕ, zero, suc, ◌+◌, ◌-◌, ◌≤◌, ◌%◌, ◌^◌, ◌==◌, ◌||◌, Bool, true, cond, List, [], ◌∷◌, ◌++◌, length, map, Option, Some, None, is_some, arith}
use Rattle.std.specs.Option.{option_or}
use Rattle.std.specs.Prelude.{slice_get}
use Rattle.std.proofs.lemmas.Bool.Decides.{nat_tests}
use Rattle.std.proofs.lemmas.List.{append-nil}
use Rattle.codec_payload_av1.specs.Av1Obu.{frame_kept}
use Rattle.codec_payload_base.specs.declared.error.PacketError.{PacketError}
use Rattle.codec_payload_base.specs.declared.wire.extension.ExtensionValues.{ExtensionValues}
use Rattle.codec_payload_codec.proofs.CaseLemmas.{by_test}
use Rattle.codec_payload_codec.specs.Packetizers.{PacketizerState, Vp8Packetizing, Vp9Packetizing, Av1Packetizing, is_video}
use Rattle.codec_payload_metadata.specs.Release.{AreValues, merged}
use Rattle.codec_payload_metadata.specs.declared.meta.RtpMeta.{RtpMeta}
use Rattle.codec_payload_buffer_runs.specs.Headline.{IsPushOf, ArePushesBy}
use Rattle.codec_payload_payloader.specs.Packets.{Packet}
use Rattle.codec_payload_payloader.specs.Sending.{Sample, packets_from, packets_for}
use Rattle.codec_payload_buffer_runs.specs.SentStream.{SentUnit, packets_of}
use Rattle.codec_payload_base.specs.StrippedValues.{kept_if, stripped}
use Rattle.codec_payload_buffer_runs.specs.Units.{canonical_obus, canonical_units, is_skipped, packetizer_after, refusal_of, units_by}
use Rattle.codec_payload_buffer_runs.specs.declared.run.Sent.{Sent}
use Rattle.codec_payload_buffer_runs.specs.declared.run.Step.{Step}

-- these packets stand from place i of n on, and have the values that go there
abbrev pub AreStripped : ExtensionValues → ℕ → ℕ → List Packet → Type 0
AreStripped values i n [] = Unit {0}
AreStripped values i n (p ∷ ps) = (p.ext_vals ≡ stripped values i n) × AreStripped values (i + 1) n ps

-- exactly the packets of a unit carry these values
abbrev pub CarriesValues : ExtensionValues → SentUnit → Type 0
CarriesValues values u = AreStripped values 0 (length u.packets) u.packets

-- each unit carries its own
abbrev pub AllCarry : List ExtensionValues → List SentUnit → Type 0
AllCarry [] [] = Unit {0}
AllCarry (values ∷ more) (u ∷ us) = CarriesValues values u × AllCarry more us
AllCarry [] (u ∷ us) = ⊥
AllCarry (values ∷ more) [] = ⊥

stripped_from : (packetizer : PacketizerState) (sample : Sample) (rtp_time number place n : ℕ) (payloads : List (List ℕ)) → n ≡ place + length payloads
    → AreStripped sample.ext_vals place n (packets_from packetizer sample rtp_time number place payloads)
stripped_from packetizer sample rtp_time number place n [] is = tt
stripped_from packetizer sample rtp_time number place n (payload ∷ payloads) is =
    let here : place + 1 + length payloads ≡ n = omega (arith, is) in
    (ap (stripped sample.ext_vals place) here, stripped_from packetizer sample rtp_time ((number + 1) % 2 ^ 64) (place + 1) n payloads (sym here))

length_from : (packetizer : PacketizerState) (sample : Sample) (rtp_time number place : ℕ) (payloads : List (List ℕ))
    → length (packets_from packetizer sample rtp_time number place payloads) ≡ length payloads
length_from packetizer sample rtp_time number place [] = refl
length_from packetizer sample rtp_time number place (payload ∷ payloads) = ap suc (length_from packetizer sample rtp_time ((number + 1) % 2 ^ 64) (place + 1) payloads)

-- a sample of video gives one unit at most
at_most_one : (skips : Bool) (refusal : Option PacketError) (unit : List (List ℕ)) → length (units_by skips refusal (unit ∷ [])) ≤ 1
at_most_one skips refusal unit = by_test (skips || is_some refusal) (λ b. length (cond b [] (unit ∷ [])) ≤ 1) (λ _. omega arith) (λ _. omega arith)

one_unit_at_most : (packetizer : PacketizerState) (mtu : ℕ) (frame : List ℕ) → is_video packetizer ≡ true → length (canonical_units packetizer mtu frame) ≤ 1
one_unit_at_most (Vp8Packetizing id) mtu frame video = at_most_one (is_skipped (Vp8Packetizing id) mtu frame) (refusal_of (Vp8Packetizing id) mtu frame) (frame ∷ [])
one_unit_at_most (Vp9Packetizing sender) mtu frame video = at_most_one (is_skipped (Vp9Packetizing sender) mtu frame) (refusal_of (Vp9Packetizing sender) mtu frame) (frame ∷ [])
one_unit_at_most Av1Packetizing mtu frame video = at_most_one (is_skipped Av1Packetizing mtu frame) (refusal_of Av1Packetizing mtu frame) (canonical_obus (frame_kept frame))
one_unit_at_most packetizer mtu frame video = absurd (cc)

-- so its packets are the packets of the sample
carried_by : (values : ExtensionValues) (units : List SentUnit) (canonical : List (List (List ℕ))) → map (λ (u : SentUnit). u.parts) units ≡ canonical → length canonical ≤ 1
    → AreStripped values 0 (length (packets_of units)) (packets_of units) → AllCarry (map (λ (unit : List (List ℕ)). values) canonical) units
carried_by values [] [] are one carried = tt
carried_by values [] (c ∷ cs) are one carried = absurd (cc)
carried_by values (u ∷ us) [] are one carried = absurd (cc)
carried_by values (u ∷ []) (c ∷ []) are one carried = (subst (λ (ps : List Packet). AreStripped values 0 (length ps) ps) (append-nil u.packets) carried, tt)
carried_by values (u ∷ v ∷ us) (c ∷ []) are one carried = absurd (cc)
carried_by values (u ∷ us) (c ∷ d ∷ cs) are one carried = absurd (omega (arith, one))

pub carried_by_sample : (packetizer after : PacketizerState) (mtu : ℕ) (sample : Sample) (rtp_time number : ℕ) (payloads : List (List ℕ)) (units : List SentUnit) → is_video packetizer ≡ true
    → map (λ (u : SentUnit). u.parts) units ≡ canonical_units packetizer mtu sample.bytes → packets_of units ≡ packets_for after sample rtp_time number payloads
    → AllCarry (map (λ (unit : List (List ℕ)). sample.ext_vals) (canonical_units packetizer mtu sample.bytes)) units
carried_by_sample packetizer after mtu sample rtp_time number payloads units video canonical packets =
    carried_by sample.ext_vals units (canonical_units packetizer mtu sample.bytes) canonical (one_unit_at_most packetizer mtu sample.bytes video)
    (subst (λ (ps : List Packet). AreStripped sample.ext_vals 0 (length ps) ps) (sym packets)
    (stripped_from after sample rtp_time number 0 (length (packets_for after sample rtp_time number payloads)) payloads (omega (arith, length_from after sample rtp_time number 0 payloads))))

pub carry_append : (vs ws : List ExtensionValues) (us xs : List SentUnit) → AllCarry vs us → AllCarry ws xs → AllCarry (vs ++ ws) (us ++ xs)
carry_append [] ws [] xs a b = b
carry_append (v ∷ vs) ws (u ∷ us) xs a b = (a.0, carry_append vs ws us xs a.1 b)
carry_append [] ws (u ∷ us) xs a b = absurd a
carry_append (v ∷ vs) ws [] xs a b = absurd a

pub same_video : (packetizer : PacketizerState) (mtu : ℕ) (frame : List ℕ) → is_video (packetizer_after packetizer mtu frame) ≡ is_video packetizer
same_video Av1Packetizing mtu frame = refl
same_video packetizer mtu frame = refl

pub carried_at : (vs : List ExtensionValues) (us : List SentUnit) (place : ℕ) (u : SentUnit) → AllCarry vs us → slice_get us place ≡ Some u
    → (values : ExtensionValues) × (slice_get vs place ≡ Some values) × CarriesValues values u
carried_at vs [] place u carry is = absurd (cc)
carried_at [] (x ∷ us) place u carry is = absurd carry
carried_at (v ∷ vs) (x ∷ us) zero u carry is = let same : x ≡ u = cc in (v, refl, subst (CarriesValues v) same carry.0)
carried_at (v ∷ vs) (x ∷ us) (suc place) u carry is = carried_at vs us place u carry.1 is

-- the values of the first and the last packet, combined, are the values of the sample
or_kept : {A : Type 0} (b : Bool) (o : Option A) → option_or o (kept_if b o) ≡ o
or_kept b None = by_test b (λ c. kept_if c None ≡ None) (λ _. refl) (λ _. refl)
or_kept b (Some x) = refl

kept_true : {A : Type 0} (b : Bool) (o : Option A) → b ≡ true → kept_if b o ≡ o
kept_true b o is = ap (λ c. kept_if c o) is

merged_stripped : (values : ExtensionValues) (m : ℕ) → merged (stripped values 0 (m + 1)) (stripped values m (m + 1)) ≡ values
unfolding stripped
merged_stripped values m i =
    let last : (m + 1 == m + 1) ≡ true = grind (arith, nat_tests) in
    record {
      abs_capture_time = or_kept (m == 0) values.abs_capture_time i;
      video_orientation = kept_true (m + 1 == m + 1) values.video_orientation last i;
      video_content_type = kept_true (m + 1 == m + 1) values.video_content_type last i;
      video_timing = kept_true (m + 1 == m + 1) values.video_timing last i;
      layers_allocation = or_kept (m == 0) values.layers_allocation i;
      audio_level = values.audio_level;
      voice_activity = values.voice_activity;
    }

module _ (all_steps : List Step) (sends : List Sent) (clock_rate : ℕ) (values : ExtensionValues) where
  last_meta : (k i n : ℕ) (p : Packet) (ps : List Packet) (metas : List RtpMeta) → ArePushesBy (IsPushOf all_steps sends clock_rate) k (p ∷ ps) metas → AreStripped values i n (p ∷ ps)
      → (m : RtpMeta) × (slice_get metas (length metas - 1) ≡ Some m) × (m.header.ext_vals ≡ stripped values (i + length ps) n)
  last_meta k i n p ps [] pushes carry = absurd pushes
  last_meta k i n p [] (m ∷ []) pushes carry =
      let e : i ≡ i + 0 = omega arith in
      (m, refl, ap (λ (x : RtpMeta). x.header.ext_vals) pushes.0.3 ∙ (carry.0 ∙ ap (λ (j : ℕ). stripped values j n) e))
  last_meta k i n p [] (m ∷ l ∷ ms) pushes carry = absurd pushes.1
  last_meta k i n p (q ∷ qs) (m ∷ []) pushes carry = absurd pushes.1
  last_meta k i n p (q ∷ qs) (m ∷ l ∷ ms) pushes carry =
      let rest = last_meta (k + 1) (i + 1) n q qs (l ∷ ms) pushes.1 carry.1 in
      let at : suc (length (l ∷ ms) - 1) ≡ length (m ∷ l ∷ ms) - 1 = omega arith in
      let e : i + 1 + length qs ≡ i + length (q ∷ qs) = omega arith in
      (rest.0, ap (slice_get (m ∷ l ∷ ms)) (sym at) ∙ rest.1, rest.2 ∙ ap (λ (j : ℕ). stripped values j n) e)

  -- the facts about one push each of all these packets give the values
  pub told_by_all : (k : ℕ) (p : Packet) (ps : List Packet) (metas : List RtpMeta) → ArePushesBy (IsPushOf all_steps sends clock_rate) k (p ∷ ps) metas
      → AreStripped values 0 (length (p ∷ ps)) (p ∷ ps) → AreValues metas values
  told_by_all k p ps [] pushes carry = absurd pushes
  told_by_all k p ps (m ∷ ms) pushes carry =
      let last = last_meta k 0 (length (p ∷ ps)) p ps (m ∷ ms) pushes carry in
      let n : length (p ∷ ps) ≡ length ps + 1 = omega arith in
      let zero : 0 + length ps ≡ length ps = omega arith in
      let first_has : m.header.ext_vals ≡ stripped values 0 (length ps + 1) = ap (λ (x : RtpMeta). x.header.ext_vals) pushes.0.3 ∙ (carry.0 ∙ ap (stripped values 0) n) in
      let last_has : last.0.header.ext_vals ≡ stripped values (length ps) (length ps + 1) = last.2 ∙ (ap (λ (j : ℕ). stripped values j (length (p ∷ ps))) zero ∙ ap (stripped values (length ps)) n) in
      record {
        first = m;
        last = last.0;
        begins = refl;
        ends = last.1;
        are = sym (ap (λ (x : ExtensionValues). merged x last.0.header.ext_vals) first_has ∙ (ap (merged (stripped values 0 (length ps + 1))) last_has ∙ merged_stripped values (length ps)));
      }
