-- A patched descriptor has the values that were asked for, and else the old ones.
use Rattle.std.proofs.Common.{◌≡◌, ap, refl, ℕ, ◌+◌, ◌*◌, ◌/◌, ◌%◌, ◌<◌, Bool, true, false, Option, Some, None, Result, Ok, Err, arith, ltb-true}
use Rattle.std.specs.Prelude.{nat_lt, option_map, if◌then◌else◌}
use Rattle.codec_payload_base.specs.PictureIds.{id_range, id_value}
use Rattle.codec_payload_base.specs.declared.picture_id.PictureId.{PictureId}
use Rattle.codec_payload_base.specs.declared.picture_id.PictureId.TheVariants.{Short, Long}
use Rattle.codec_payload_vp8.specs.declared.vp8.patch.Vp8PatchError.{Vp8PatchError}
use Rattle.codec_payload_vp8.specs.Vp8Descriptor.{has_key_idx, key_index, key_index_at, Descriptor}
use Rattle.codec_payload_vp8.specs.Vp8Patch.{asked_or, behind_id, behind_start, behind_tl0, id_patched, octet_patched, octet_with, patched_descriptor, tl0_patched, Builder, HasValues}

-- a picture id
abbrev IsValue : Option PictureId → Option ℕ → Option PictureId → Type 0
IsValue old asked new = (option_map id_value new ≡ asked_or asked (option_map id_value old)) × (option_map id_range new ≡ option_map id_range old)

id_by : (long : Bool) (below : Bool) (old id : ℕ) (new : Option PictureId) → nat_lt id (if long then 32768 else 128) ≡ below
    → id_patched (Some (if long then Long old else Short old)) (Some id) ≡ Ok new → IsValue (Some (if long then Long old else Short old)) (Some id) new
id_by true true old id new is h = let e : Ok (Some (Long id)) ≡ Ok new = rw is at h in let same : new ≡ Some (Long id) = cc in rw same (refl, refl)
id_by true false old id new is h = let e = rw is at h in cc
id_by false true old id new is h = let e : Ok (Some (Short id)) ≡ Ok new = rw is at h in let same : new ≡ Some (Short id) = cc in rw same (refl, refl)
id_by false false old id new is h = let e = rw is at h in cc

id_values : (old : Option PictureId) (asked : Option ℕ) (new : Option PictureId) → id_patched old asked ≡ Ok new → IsValue old asked new
id_values old None new h = let e : new ≡ old = cc in (ap (option_map id_value) e, ap (option_map id_range) e)
id_values None (Some id) new h = cc
id_values (Some (Short old)) (Some id) new h = id_by false (nat_lt id 128) old id new refl h
id_values (Some (Long old)) (Some id) new h = id_by true (nat_lt id 32768) old id new refl h

tl0_values : (old asked new : Option ℕ) → tl0_patched old asked ≡ Ok new → new ≡ asked_or asked old
tl0_values old None new h = cc
tl0_values None (Some index) new h = cc
tl0_values (Some old) (Some index) new h = cc

-- TID Y KEYIDX
abbrev IsOctet : Option ℕ → Option ℕ → Option ℕ → Option ℕ → Type 0
IsOctet flags old asked new =
    (key_index_at flags new ≡ asked_or asked (key_index_at flags old)) × (option_map (λ o. o / 32) new ≡ option_map (λ o. o / 32) old) × (asked ≡ None → new ≡ old)

octet_by : (below k : Bool) (flags octet index : ℕ) (new : Option ℕ) → nat_lt index 32 ≡ below → has_key_idx flags ≡ k
    → octet_with (key_index_at (Some flags) (Some octet)) (Some octet) index ≡ Ok new → IsOctet (Some flags) (Some octet) (Some index) new
octet_by below false flags octet index new is key h = let never = rw key at h in cc
octet_by false true flags octet index new is key h = let never = rw (key, is) at h in cc
octet_by true true flags octet index new is key h =
    let e : Ok (Some (octet / 32 * 32 + index)) ≡ Ok new = rw (key, is) at h in
    let same : new ≡ Some (octet / 32 * 32 + index) = cc in
    let below : index < 32 = ltb-true index 32 is in
    let low : (octet / 32 * 32 + index) % 32 ≡ index = omega (arith, below) in
    let high : (octet / 32 * 32 + index) / 32 ≡ octet / 32 = omega (arith, below) in
    rw same (rw key (ap (λ (n : ℕ). Some n) low), ap (λ (n : ℕ). Some n) high, λ none. cc)

octet_values : (flags old asked new : Option ℕ) → octet_patched (key_index_at flags old) old asked ≡ Ok new → IsOctet flags old asked new
octet_values flags old None new h = let e : new ≡ old = cc in (ap (key_index_at flags) e, ap (option_map (λ o. o / 32)) e, λ none. e)
octet_values None old (Some index) new h = cc
octet_values (Some flags) None (Some index) new h = cc
octet_values (Some flags) (Some octet) (Some index) new h = octet_by (nat_lt index 32) (has_key_idx flags) flags octet index new refl refl h

-- in the order of the fields
module _ (b : Builder) where
  abbrev d : Descriptor
  d = b.descriptor

  from_octet : (id : Option PictureId) (tl0 : Option ℕ) (r : Result (Option ℕ) Vp8PatchError) (new : Descriptor)
      → id_patched d.picture_id b.picture_id ≡ Ok id → tl0_patched d.tl0_pic_idx b.tl0_pic_idx ≡ Ok tl0 → octet_patched (key_index d) d.tid_octet b.key_idx ≡ r
      → behind_tl0 d id tl0 r ≡ Ok new → HasValues b new
  from_octet id tl0 (Err error) new id_is tl0_is octet_is h = cc
  from_octet id tl0 (Ok octet) new id_is tl0_is octet_is h =
      let e : new ≡ record d { picture_id = id; tl0_pic_idx = tl0; tid_octet = octet } = cc in
      let ids = id_values d.picture_id b.picture_id id id_is in
      let tl0s = tl0_values d.tl0_pic_idx b.tl0_pic_idx tl0 tl0_is in
      let octets = octet_values d.flags d.tid_octet b.key_idx octet octet_is in
      rw e (record { first = refl; flags = refl; picture_id = ids.0; width = ids.1; tl0_pic_idx = tl0s; key_idx = octets.0; tid_and_y = octets.1; octet = octets.2 })

  from_tl0 : (id : Option PictureId) (r : Result (Option ℕ) Vp8PatchError) (new : Descriptor)
      → id_patched d.picture_id b.picture_id ≡ Ok id → tl0_patched d.tl0_pic_idx b.tl0_pic_idx ≡ r → behind_id d b.key_idx id r ≡ Ok new → HasValues b new
  from_tl0 id (Err error) new id_is tl0_is h = cc
  from_tl0 id (Ok tl0) new id_is tl0_is h = from_octet id tl0 (octet_patched (key_index d) d.tid_octet b.key_idx) new id_is tl0_is refl h

  from_id : (r : Result (Option PictureId) Vp8PatchError) (new : Descriptor)
      → id_patched d.picture_id b.picture_id ≡ r → behind_start d b.tl0_pic_idx b.key_idx r ≡ Ok new → HasValues b new
  from_id (Err error) new id_is h = cc
  from_id (Ok id) new id_is h = from_tl0 id (tl0_patched d.tl0_pic_idx b.tl0_pic_idx) new id_is refl h

pub has_values : (b : Builder) (new : Descriptor) → patched_descriptor b ≡ Ok new → HasValues b new
has_values b new h = from_id b (id_patched b.descriptor.picture_id b.picture_id) new refl h
