use Rattle.std.proofs.Common.{◌∙◌, ◌+◌, ◌%◌, ap, ℕ, List, Option, map, slice_set}
use Rattle.std.specs.List.{zip}
use Rattle.codec_payload_numbers.specs.SeenTimes.{seen_at}
use Rattle.codec_payload_numbers.specs.declared.seen_times.SeenTime.{SeenTime}
use Rattle.codec_payload_numbers.proofs.SeenLemmas.{set_place}
use Rattle.codec_payload_numbers.proofs.seen_times.SeenTimes.note.Goals as goal

pub returns : goal.returns
returns c =
    let places : List (Option SeenTime) = map seen_at (zip c.self.inside.times c.self.inside.kinds) in
    rw (← c.self.view_is) (
    ap (λ (ps : List (Option SeenTime)). record { places = ps; next = (c.self.inside.next + 1) % 64 })
    (set_place c.self.inside.times c.self.inside.kinds c.from-place.result c.args.seen.time c.kind_of.result
    ∙ (ap (λ (i : ℕ). slice_set places i (seen_at (c.args.seen.time, c.kind_of.result))) c.from-place.ensures
    ∙ ap (slice_set places c.self.inside.next) c.kind_of.ensures))
    )
