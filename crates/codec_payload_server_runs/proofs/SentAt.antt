-- The datagrams of a list of vectors.
use Rattle.std.specs.Global.{Vec}
use Rattle.std.proofs.Common.{◌≡◌, ◌∙◌, ap, ℕ, List, Option, Some, None, option_map}
use Rattle.std.specs.Prelude.{slice_get}
use Rattle.std.proofs.lemmas.Option.{slice_get-map}
use Rattle.codec_payload_datagram_runs.specs.WireRuns.{bytes_in}

abbrev bytes_of : Vec ℕ → List ℕ
bytes_of v = v.items

pub datagram_at : (all : List (Vec ℕ)) (k : ℕ) (v : Vec ℕ) → slice_get all k ≡ Some v → slice_get (bytes_in all) k ≡ Some v.items
datagram_at all k v there = slice_get-map bytes_of all k ∙ ap (λ (o : Option (Vec ℕ)). option_map bytes_of o) there

pub no_datagram_at : (all : List (Vec ℕ)) (k : ℕ) → slice_get all k ≡ None → slice_get (bytes_in all) k ≡ None
no_datagram_at all k there = slice_get-map bytes_of all k ∙ ap (λ (o : Option (Vec ℕ)). option_map bytes_of o) there
