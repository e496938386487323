use Rattle.std.proofs.Common.{◌∙◌, ap, sym, ℕ, ◌-◌, List, ◌++◌, length}
use Rattle.std.specs.Prelude.{replicate}
use Rattle.codec_payload_c_receiving.specs.SessionNames.{name_told}
use Rattle.codec_payload_c_receiving.proofs.NameLemmas.{padded}
use Rattle.codec_payload_c_receiving.proofs.session_names.name_told.Goals as goal

pub returns-clause-bytes : goal.returns-clause-bytes
returns-clause-bytes c =
    padded c.as_bytes-bytes.result.now c.copy_from_slice.new.self c.copy_from_slice.ensures.after
    ∙ ap (λ (bytes : List ℕ). bytes ++ replicate (32 - length bytes) 0) c.as_bytes-bytes.ensures.value
    ∙ ap name_told (sym c.in-Some.is)
