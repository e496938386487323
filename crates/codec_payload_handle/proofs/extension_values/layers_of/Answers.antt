use Rattle.std.proofs.Common.{◌∙◌, ap, sym, ℕ, ◌-◌, List, ◌++◌, length}
use Rattle.std.specs.Prelude.{replicate}
use Rattle.codec_payload_handle.specs.HeaderValues.{layers_told}
use Rattle.codec_payload_handle.proofs.HeaderLemmas.{padded}
use Rattle.codec_payload_handle.proofs.extension_values.layers_of.Goals as goal

pub returns-clause-bytes : goal.returns-clause-bytes
returns-clause-bytes c =
    padded c.bytes-bytes.result.now c.copy_from_slice.new.self c.copy_from_slice.ensures.after
    ∙ ap (λ (bytes : List ℕ). bytes ++ replicate (255 - length bytes) 0) c.bytes-bytes.ensures.value
    ∙ ap layers_told (sym c.in-Some.is)
