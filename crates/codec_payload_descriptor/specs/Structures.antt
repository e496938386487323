-- The template structure of a dependency descriptor (AV1 RTP specification, appendix A.8.2), as its tables have it.
use Rattle.std.specs.Prelude.{ℕ, zero, suc, ◌+◌, ◌-◌, ◌*◌, ◌^◌, ◌==◌, ◌&&◌, ◌%◌, nat_le, nat_lt, Bool, false, List, [], ◌∷◌, length, if◌then◌else◌, Option, Some, None, get_or}
use Rattle.std.specs.Int.{leading_zeros, w8}
use Rattle.codec_payload_descriptor.specs.declared.error.DescriptorFault.TheVariants as faults
use Rattle.codec_payload_descriptor.specs.declared.structure.Layer.{Layer}
use Rattle.codec_payload_syntax.specs.Syntax.{value, refuses, field, skips, branch, ◌>>=◌, flag, times, until_none}
use Rattle.codec_payload_descriptor.specs.Syntax.{Syntax}

-- ---- fields

-- how many binary digits a number below 256 has
abbrev pub digits : ℕ → ℕ
digits n = 8 - leading_zeros w8 n

-- how many of the values below n take one bit less than the others
abbrev pub shorter : ℕ → ℕ
shorter n = 2 ^ digits n - n

-- ns(n), a value below n (AV1 bitstream specification, section 4.10.7)
abbrev pub below : ℕ → Syntax ℕ
below n = do
  v ← field (digits n - 1)
  branch (nat_lt v (shorter n)) (value v) (longer v)
  where
    longer : ℕ → Syntax ℕ
    longer v = do
      last ← field 1
      value (2 * v - shorter n + last)

-- ---- references

-- a frame difference of a template in 4 bits, or of a frame with its own in 4 to 12; none where its first field is 0
abbrev pub next_reference : Bool → Syntax (Option ℕ)
next_reference own = do
  size ← field (if own then 2 else 1)
  branch (size == 0) (value None) (told (if own then 4 * size else 4))
  where
    told : ℕ → Syntax (Option ℕ)
    told bits = do
      less ← field bits
      value (Some (less + 1))

-- at most 16 frame differences
unfoldable pub references : Bool → Syntax (List ℕ)
references own = until_none 16 faults.References (next_reference own)

-- ---- layers

abbrev pub is_layer : Layer → Bool
is_layer l = nat_le l.spatial_id 3 && nat_le l.temporal_id 7

-- the layer of the next template: the same, the next temporal layer, or the first of the next spatial layer
abbrev pub next_layer : ℕ → Layer → Layer
next_layer idc l =
    if idc == 1 then record { spatial_id = l.spatial_id; temporal_id = l.temporal_id + 1 }
    else if idc == 2 then record { spatial_id = l.spatial_id + 1; temporal_id = 0 }
    else l

abbrev pub first_layer : Layer
first_layer = record { spatial_id = 0; temporal_id = 0 }

-- a template of this layer, and those after it unless next_layer_idc is 3
abbrev pub with_next : Layer → (ℕ → Syntax (List Layer)) → Syntax (List Layer)
with_next l others = do
  idc ← field 2
  branch (idc == 3) (value (l ∷ [])) (before (others idc))
  where
    before : Syntax (List Layer) → Syntax (List Layer)
    before others = do
      ls ← others
      value (l ∷ ls)

-- the layers of at most n templates, the first of them l
unfoldable pub layers_from : ℕ → Layer → Syntax (List Layer)
layers_from zero l = refuses faults.Layers
layers_from (suc n) l = branch (is_layer l) (with_next l (λ idc. layers_from n (next_layer idc l))) (refuses faults.Layers)

-- template_layers
unfoldable pub layers : Syntax (List Layer)
layers = layers_from 64 first_layer

-- ---- the structure

pub record Structure : Type 0 where
  -- the template id of the first template
  pub first : ℕ
  -- the number of decode targets
  pub targets : ℕ
  -- for each template its layer
  pub layers : List Layer
  -- for each template the indication of each decode target: 0 not present, 1 discardable, 2 switch, 3 required
  pub indications : List (List ℕ)
  -- for each template its frame differences
  pub references : List (List ℕ)
  -- the number of chains
  pub chains : ℕ
  -- for each decode target the chain that protects it; none without chains
  pub protected : List ℕ
  -- for each template its frame difference in each chain
  pub chain_differences : List (List ℕ)

-- decode_target_protected_by
abbrev pub protected : ℕ → ℕ → Syntax (List ℕ)
protected targets chains = branch (chains == 0) (value []) (times targets (below chains))

-- the spatial id of the last template, which is the highest
abbrev pub highest : List Layer → ℕ
highest ls = (get_or ls (length ls - 1) first_layer).spatial_id

-- render_resolutions: width and height in 16 bits each, for each spatial layer
unfoldable pub resolutions : List Layer → Syntax ℕ
resolutions ls = do
  present ← flag
  branch present (skips (32 * (highest ls + 1))) (value 0)

-- the layers of the templates, for each template the indications (template_dtis) and the frame differences (template_fdiffs)
unfoldable pub templates : ℕ → Syntax (List Layer × List (List ℕ) × List (List ℕ))
templates targets = do
  ls ← layers
  indications ← times (length ls) (times targets (field 2))
  differences ← times (length ls) (references false)
  value (ls, indications, differences)

-- template_chains: the number of chains, the chain of each decode target, for each template its difference in each chain
unfoldable pub chains : ℕ → ℕ → Syntax (ℕ × List ℕ × List (List ℕ))
chains count targets = do
  n ← below (targets + 1)
  chain_of ← protected targets n
  differences ← times count (times n (field 4))
  value (n, chain_of, differences)

-- template_dependency_structure after the number of decode targets
abbrev pub with_targets : ℕ → ℕ → Syntax Structure
with_targets first targets = do
  t ← templates targets
  c ← chains (length t.0) targets
  passed ← resolutions t.0
  value (record { first = first; targets = targets; layers = t.0; indications = t.1; references = t.2; chains = c.0; protected = c.1; chain_differences = c.2 })

-- template_dependency_structure: the template id of the first template, the number of decode targets less one, and the rest
unfoldable pub structure : Syntax Structure
structure = do
  first ← field 6
  less ← field 5
  with_targets first (less + 1)

-- the place of a template id among the templates
abbrev pub place_of : ℕ → Structure → ℕ
place_of id s = (id + 64 - s.first) % 64
