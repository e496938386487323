-- Picture ids that are moved.
use Rattle.std.proofs.Common.{◌≡◌, sym, subst, ℕ, ◌+◌, ◌%◌, ◌<◌, ◌≤◌, true, List, [], ◌∷◌, length, take, Option, Some, None, arith}
use Rattle.std.specs.Option.{option_map}
use Rattle.std.specs.Prelude.{IfSome}
use Rattle.std.proofs.lemmas.Bool.{ltb-true}
use Rattle.std.proofs.lemmas.List.{length-take}
use Rattle.std.proofs.lemmas.Option.{same_Some}
use Rattle.codec_payload_base.specs.PictureIds.{FitsWidth, id_value}
use Rattle.codec_payload_base.specs.declared.picture_id.PictureId.{PictureId}
use Rattle.codec_payload_base.specs.declared.picture_id.PictureId.TheVariants.{Long, Short}
use Rattle.codec_payload_vp8.specs.Vp8Descriptor.{id_bits}
use Rattle.codec_payload_sending_forward.specs.Numbers.{AllBelow, Falls}
use Rattle.codec_payload_sending_forward.specs.Ids.{is_ahead}
use Rattle.codec_payload_sending_forward.proofs.NumberLemmas.{all_below_less, all_below_take, falls_take}

pub short_id : (n o : ℕ) → (n + o) % 65536 % 128 ≡ (n + o) % 128
short_id n o = omega arith

pub long_id : (n o : ℕ) → (n + o) % 65536 % 32768 ≡ (n + o) % 32768
long_id n o = omega arith

-- a picture id of 7 bits fits into a byte
pub short_fits : (o : Option PictureId) (id : ℕ) → Some id ≡ option_map id_value o → Some 7 ≡ option_map id_bits o → IfSome o FitsWidth → id ≤ 255
short_fits None id is bits fits = absurd (cc)
short_fits (Some (Short n)) id is bits fits = omega (arith, same_Some id n is, fits)
short_fits (Some (Long n)) id is bits fits = absurd (let wrong : 7 ≡ 15 = same_Some 7 15 bits in omega (arith, wrong))

-- The pictures that are left out

pub ahead_below : (n : ℕ) (xs : List ℕ) → Falls xs → is_ahead n xs ≡ true → AllBelow n xs
ahead_below n [] falls ahead = tt
ahead_below n (x ∷ xs) falls ahead =
    let low : x < n = ltb-true x n ahead in
    (low, all_below_less x n xs (omega (arith, low)) falls.0)

pub picture_added : (n : ℕ) (xs ys : List ℕ) → ys ≡ n ∷ xs → is_ahead n xs ≡ true → length xs < 4096 → Falls xs → Falls ys × (length ys ≤ 4096)
picture_added n xs ys e ahead few falls =
    subst (λ (zs : List ℕ). Falls zs × (length zs ≤ 4096)) (sym e) ((ahead_below n xs falls ahead, falls), omega (arith, few))

pub picture_put : (n : ℕ) (xs ys : List ℕ) → ys ≡ n ∷ take 4095 xs → is_ahead n xs ≡ true → Falls xs → Falls ys × (length ys ≤ 4096)
picture_put n xs ys e ahead falls =
    let few : length (take 4095 xs) ≤ 4095 = omega (arith, length-take 4095 xs) in
    subst (λ (zs : List ℕ). Falls zs × (length zs ≤ 4096)) (sym e)
    ((all_below_take n 4095 xs (ahead_below n xs falls ahead), falls_take 4095 xs falls), omega (arith, few))
