-- What lines say.
use Rattle.std.specs.Prelude.{◌≡◌, ◌≢◌, ◌==◌, ◌↔◌, ◌^◌, ℕ, IsTrue, List, [], ◌∷◌, codes, IfSome, IsSome, Option, Some, None, ◌⊎◌}
use Rattle.std.specs.List.{slice_split}
use Rattle.std.specs.Option.{SomeIff}
use Rattle.std.specs.Str.Parse.{digits_value}
use Rattle.codec_payload_core.specs.declared.schedule.Step.TheVariants.{Pop, Push, Send}
use Rattle.payload_vectors.specs.Fields.{AreSample, AreSetup, IsLimitField, codec_of, names_octet_aligned, names_vp8_ids, vp9_mode_of}
use Rattle.payload_lines.specs.HexField.{hex_field_of}
use Rattle.payload_lines.specs.Numbers.{IsNumber}
use Rattle.payload_vectors.specs.RedFields.{AreRed, SpellsDistances}
use Rattle.payload_vectors.specs.declared.line.Line.{Line}
use Rattle.payload_vectors.specs.declared.line.Line.TheVariants as lines
use Rattle.payload_vectors.specs.declared.line.Setup.{Setup}
use Rattle.payload_vectors.specs.declared.red_line.RedSetup.{RedSetup}

-- what the fields after `codec` set
pub record IsSetup (name rate hold_back number id : List ℕ) (setup : Setup) : Type 0 where
  pub of_name : codec_of name ≡ Some setup.codec
  pub of_layout : setup.octet_align ≡ names_octet_aligned name
  pub of_vp8_ids : setup.vp8_ids ≡ names_vp8_ids name
  pub of_vp9_mode : setup.vp9_mode ≡ vp9_mode_of name
  pub of_rate : setup.rate ≡ digits_value 10 rate
  pub of_hold_back : setup.hold_back ≡ digits_value 10 hold_back
  pub of_number : setup.first_number ≡ digits_value 10 number
  pub of_id : setup.first_id ≡ digits_value 10 id

-- what the fields after `red` set
pub record IsRedSetup (step budget distances : List ℕ) (red : RedSetup) : Type 0 where
  pub of_step : red.step ≡ digits_value 10 step
  pub of_budget : red.budget ≡ digits_value 10 budget
  pub of_distances : SpellsDistances distances red.distances.items

-- the fields have the form of a line: its word, and as many fields as it has
abbrev pub HasForm : List (List ℕ) → Type 0
HasForm (word ∷ []) = word ≡ codes "pop"
HasForm (word ∷ field ∷ []) = (word ≡ codes "push") ⊎ (word ≡ codes "limit")
HasForm (word ∷ sample ∷ mtu ∷ []) = word ≡ codes "send"
HasForm (word ∷ a ∷ b ∷ c ∷ []) = (word ≡ codes "sample") ⊎ (word ≡ codes "red")
HasForm (word ∷ name ∷ rate ∷ hold_back ∷ number ∷ id ∷ []) = word ≡ codes "codec"
HasForm _ = ⊥

-- the line that sets a codec
abbrev pub SetsCodec : List ℕ → List ℕ → List ℕ → List ℕ → List ℕ → Line → Type 0
SetsCodec name rate hold_back number id (lines.Codec setup) = IsSetup name rate hold_back number id setup
SetsCodec name rate hold_back number id (lines.Limit _) = ⊥
SetsCodec name rate hold_back number id (lines.Red _) = ⊥
SetsCodec name rate hold_back number id (lines.Sample _ _ _) = ⊥
SetsCodec name rate hold_back number id (lines.Step _) = ⊥

-- the line that sets the limit of the buffer
abbrev pub SetsLimit : List ℕ → Line → Type 0
SetsLimit text (lines.Limit limit) = limit.packets ≡ digits_value 10 text
SetsLimit text (lines.Codec _) = ⊥
SetsLimit text (lines.Red _) = ⊥
SetsLimit text (lines.Sample _ _ _) = ⊥
SetsLimit text (lines.Step _) = ⊥

-- the line that has the run send and receive in RED
abbrev pub SetsRed : List ℕ → List ℕ → List ℕ → Line → Type 0
SetsRed step budget distances (lines.Red red) = IsRedSetup step budget distances red
SetsRed step budget distances (lines.Codec _) = ⊥
SetsRed step budget distances (lines.Limit _) = ⊥
SetsRed step budget distances (lines.Sample _ _ _) = ⊥
SetsRed step budget distances (lines.Step _) = ⊥

-- the line that gives a sample
abbrev pub GivesSample : List ℕ → List ℕ → List ℕ → Line → Type 0
GivesSample time talk_spurt hex (lines.Sample ticks starts bytes) =
    (ticks ≡ digits_value 10 time) × (IsTrue starts ↔ (talk_spurt ≡ codes "1")) × (hex_field_of hex ≡ Some bytes.items)
GivesSample time talk_spurt hex (lines.Codec _) = ⊥
GivesSample time talk_spurt hex (lines.Limit _) = ⊥
GivesSample time talk_spurt hex (lines.Red _) = ⊥
GivesSample time talk_spurt hex (lines.Step _) = ⊥

-- what the fields after `codec` give
abbrev pub IsCodec : List ℕ → List ℕ → List ℕ → List ℕ → List ℕ → Option Line → Type 0
IsCodec name rate hold_back number id found =
    (IsSome found ↔ AreSetup name rate hold_back number id) × IfSome found (SetsCodec name rate hold_back number id)

-- what the field after `limit` gives
abbrev pub IsLimit : List ℕ → Option Line → Type 0
IsLimit text found = (IsSome found ↔ IsLimitField text) × IfSome found (SetsLimit text)

-- what the fields after `red` give
abbrev pub IsRed : List ℕ → List ℕ → List ℕ → Option Line → Type 0
IsRed step budget distances found =
    (IsSome found ↔ AreRed step budget distances) × IfSome found (SetsRed step budget distances)

-- what the fields after `sample` give
abbrev pub IsSample : List ℕ → List ℕ → List ℕ → Option Line → Type 0
IsSample time talk_spurt hex found =
    (IsSome found ↔ AreSample time talk_spurt hex) × IfSome found (GivesSample time talk_spurt hex)

-- what the fields after `send` give
abbrev pub IsSend : List ℕ → List ℕ → Option Line → Type 0
IsSend sample mtu found =
    SomeIff found (IsNumber (2 ^ 64) sample × IsNumber (2 ^ 64) mtu)
    (lines.Step (Send (digits_value 10 sample) (digits_value 10 mtu)))

-- what the field after `push` gives
abbrev pub IsPush : List ℕ → Option Line → Type 0
IsPush packet found = SomeIff found (IsNumber (2 ^ 64) packet) (lines.Step (Push (digits_value 10 packet)))

-- the fields of a line, with one space between two
abbrev pub fields_of : List ℕ → List (List ℕ)
fields_of text = slice_split (λ b. b == 32) text

-- the meaning of a line with these fields, by its word: nothing if it has no such word, other fields, or fields out of range
abbrev pub Says : List (List ℕ) → Option Line → Type 0
Says (word ∷ []) found = (word ≡ codes "pop" → found ≡ Some (lines.Step Pop)) × (word ≢ codes "pop" → found ≡ None)
Says (word ∷ field ∷ []) found =
    (word ≡ codes "push" → IsPush field found) × (word ≡ codes "limit" → IsLimit field found)
    × (word ≢ codes "push" → word ≢ codes "limit" → found ≡ None)
Says (word ∷ sample ∷ mtu ∷ []) found =
    (word ≡ codes "send" → IsSend sample mtu found) × (word ≢ codes "send" → found ≡ None)
Says (word ∷ a ∷ b ∷ c ∷ []) found =
    (word ≡ codes "sample" → IsSample a b c found) × (word ≡ codes "red" → IsRed a b c found)
    × (word ≢ codes "sample" → word ≢ codes "red" → found ≡ None)
Says (word ∷ name ∷ rate ∷ hold_back ∷ number ∷ id ∷ []) found =
    (word ≡ codes "codec" → IsCodec name rate hold_back number id found) × (word ≢ codes "codec" → found ≡ None)
Says _ found = found ≡ None
