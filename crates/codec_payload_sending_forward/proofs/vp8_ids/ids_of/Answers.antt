use Rattle.std.proofs.Common.{rules, ◌≡◌, Some}
use Rattle.std.proofs.Math.Facts.{Fits-below}
use Rattle.std.specs.Option.{option_map}
use Rattle.codec_payload_base.specs.PictureIds.{id_value}
use Rattle.codec_payload_vp8.specs.Vp8Descriptor.{id_bits}
use Rattle.codec_payload_sending_forward.proofs.IdLemmas.{short_fits}
use Rattle.codec_payload_sending_forward.proofs.vp8_ids.ids_of.Goals as goal

pub overflow_cast-picture_id : goal.overflow_cast-picture_id
overflow_cast-picture_id c =
    let id : Some c.in-Some-Some-eq7.id ≡ option_map id_value c.args.descriptor.now.picture_id = search rules in
    let bits : Some 7 ≡ option_map id_bits c.args.descriptor.now.picture_id = search rules in
    Fits-below tt (short_fits c.args.descriptor.now.picture_id c.in-Some-Some-eq7.id id bits c.requires)
