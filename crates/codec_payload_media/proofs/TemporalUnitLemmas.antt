-- Temporal units, OBU by OBU.
use Rattle.std.proofs.Common.{◌≡◌, ℕ, ◌<◌, List, length, true, false, is_some, Result, Ok, Err, ap, ◌∙◌, refl}
use Rattle.codec_payload_media.specs.declared.av1.temporal_unit.Av1TemporalUnit.{Av1TemporalUnit}
use Rattle.codec_payload_vpx.specs.declared.error.MediaError.{MediaError}
use Rattle.codec_payload_media.specs.Av1TemporalUnits.{unit_from, until_frame, with_obu}
use Rattle.codec_payload_media.specs.Av1Units.{Obu, obu_at}
use Rattle.codec_payload_media.specs.Items.{items_at}
use Rattle.codec_payload_media.proofs.Av1Lemmas.{obu_shorter}
use Rattle.codec_payload_media.proofs.ItemLemmas.{items_more, items_none}

module _ (bytes : List ℕ) (u : Av1TemporalUnit) where
  abbrev all_from : List (Result Obu MediaError) → Result Av1TemporalUnit MediaError
  all_from obus = unit_from obus u

  more : (x : Obu × List ℕ) → 0 < length bytes → obu_at bytes ≡ Ok x → unit_from (items_at obu_at bytes) u ≡ until_frame (unit_from (items_at obu_at x.1)) (with_obu u x.0)
  unfolding unit_from
  more x some e = ap all_from (items_more obu_at obu_shorter bytes (Ok x) some e)

  pub unit_malformed : (e : MediaError) → 0 < length bytes → obu_at bytes ≡ Err e → unit_from (items_at obu_at bytes) u ≡ Err e
  unfolding unit_from
  unit_malformed e some is = ap all_from (items_more obu_at obu_shorter bytes (Err e) some is)

  pub unit_ends : length bytes ≡ 0 → unit_from (items_at obu_at bytes) u ≡ Ok u
  unfolding unit_from
  unit_ends e = ap all_from (items_none obu_at obu_shorter bytes e)

  pub unit_refused : (x : Obu × List ℕ) (e : MediaError) → 0 < length bytes → obu_at bytes ≡ Ok x → with_obu u x.0 ≡ Err e → unit_from (items_at obu_at bytes) u ≡ Err e
  unit_refused x e some is fault = more x some is ∙ ap (until_frame (unit_from (items_at obu_at x.1))) fault

  pub unit_shown : (x : Obu × List ℕ) (v : Av1TemporalUnit) → 0 < length bytes → obu_at bytes ≡ Ok x → with_obu u x.0 ≡ Ok v → is_some v.frame ≡ true → unit_from (items_at obu_at bytes) u ≡ Ok v
  unit_shown x v some is next shown = more x some is ∙ ap (until_frame (unit_from (items_at obu_at x.1))) next ∙ rw shown refl

  pub unit_more : (x : Obu × List ℕ) (v : Av1TemporalUnit) → 0 < length bytes → obu_at bytes ≡ Ok x → with_obu u x.0 ≡ Ok v → is_some v.frame ≡ false → unit_from (items_at obu_at bytes) u ≡ unit_from (items_at obu_at x.1) v
  unit_more x v some is next hidden = more x some is ∙ ap (until_frame (unit_from (items_at obu_at x.1))) next ∙ rw hidden refl
