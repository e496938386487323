-- Which layers a viewer gets. Rates are in bits per second.
use Rattle.std.specs.Prelude.{◌≡◌, ℕ, ◌+◌, ◌-◌, ◌*◌, ◌/◌, ◌^◌, ◌<◌, ◌≤◌, ◌&&◌, ◌||◌, ◌⊎◌, min, max, nat_le, nat_lt, if◌then◌else◌, Bool, List, [], ◌∷◌, length, take, slice_index_or}
use Rattle.codec_payload_bandwidth_layers.specs.declared.chooser.LayerChoice.{LayerChoice}
use Rattle.codec_payload_bandwidth_layers.specs.declared.chooser.LayerChooser.{LayerChooser}

-- the rate and 5 percent, and what it needs to begin
abbrev pub needs : LayerChoice → ℕ
needs choice = max (choice.rate * 105 / 100) choice.begin

abbrev pub trial_rate : LayerChoice → ℕ
trial_rate choice = min (max (choice.rate * 108 / 100) (choice.begin * 108 / 105)) (2 ^ 64 - 1)

-- a choice up to the current one is carried by its rate alone, a higher one if it may begin too
abbrev pub is_carried : (current carries index : ℕ) → LayerChoice → Bool
is_carried current carries index choice = (nat_le index current && nat_le choice.rate carries) || nat_le (needs choice) carries

-- the highest index of a choice that is carried, or else `best`. The first choice has this index
abbrev pub highest : (current carries index best : ℕ) → List LayerChoice → ℕ
highest current carries index best [] = best
highest current carries index best (choice ∷ choices) =
    highest current carries (index + 1) (if is_carried current carries index choice then index else best) choices

abbrev pub choice_of : (current carries : ℕ) → List LayerChoice → ℕ
choice_of current carries choices = highest current carries 0 0 choices

-- ---- a chooser

abbrev pub new_chooser : (pause current : ℕ) → LayerChooser
new_chooser pause current = record { pause = pause; current = current; rises_from = 0 }

-- among the choices up to the current one
abbrev pub held_of : (current carries : ℕ) → List LayerChoice → ℕ
held_of current carries choices = choice_of current carries (take (current + 1) choices)

abbrev pub next_of : (now carries : ℕ) → List LayerChoice → LayerChooser → ℕ
next_of now carries choices c = if nat_lt now c.rises_from then held_of c.current carries choices else choice_of c.current carries choices

-- a fall begins a pause
abbrev pub with_choice : (now next : ℕ) → LayerChooser → LayerChooser
with_choice now next c =
    record c { current = next; rises_from = if nat_lt next c.current then max c.rises_from (min (now + c.pause) (2 ^ 64 - 1)) else c.rises_from }

abbrev pub after_choice : (now carries : ℕ) → List LayerChoice → LayerChooser → LayerChooser
after_choice now carries choices c = with_choice now (next_of now carries choices c) c

abbrev pub none_chosen : LayerChoice
none_chosen = record { rate = 0; begin = 0 }

abbrev pub choice_at : ℕ → List LayerChoice → LayerChoice
choice_at index choices = slice_index_or choices index none_chosen

abbrev pub wanted_of : ℕ → List LayerChoice → LayerChooser → ℕ
wanted_of steps choices c =
    if nat_le (length choices) (c.current + 1) then 0 else trial_rate (choice_at (min (c.current + steps) (length choices - 1)) choices)

-- ---- theorems

-- what is chosen fits, or is the lowest choice
abbrev pub Fits : Type 0
Fits =
    (current carries : ℕ) (choices : List LayerChoice)
    → (choice_of current carries choices ≡ 0) ⊎ ((choice_at (choice_of current carries choices) choices).rate ≤ carries)

-- to choose again changes nothing
abbrev pub IsStable : Type 0
IsStable = (current carries : ℕ) (choices : List LayerChoice) → choice_of (choice_of current carries choices) carries choices ≡ choice_of current carries choices

-- a path that carries more never gets less
abbrev pub Ascends : Type 0
Ascends = (current carries more : ℕ) (choices : List LayerChoice) → carries ≤ more → choice_of current carries choices ≤ choice_of current more choices

-- a path that carries what a trial reached for a choice gets it, or a higher one
abbrev pub TrialRaises : Type 0
TrialRaises =
    (current carries index : ℕ) (choices : List LayerChoice) → index < length choices → carries < 2 ^ 64 - 1 → trial_rate (choice_at index choices) ≤ carries
    → index ≤ choice_of current carries choices

pub record Call : Type 0 where
  pub now : ℕ
  pub carries : ℕ
  pub choices : List LayerChoice

abbrev pub after_calls : List Call → LayerChooser → LayerChooser
after_calls [] c = c
after_calls (call ∷ calls) c = after_calls calls (after_choice call.now call.carries call.choices c)

abbrev pub AreBefore : ℕ → List Call → Type 0
AreBefore end [] = Unit {0}
AreBefore end (call ∷ calls) = (call.now < end) × AreBefore end calls

-- before the pause is over, the choice does not rise; a fall makes it last at least until then
abbrev pub PausesHold : Type 0
PausesHold =
    (c : LayerChooser) (calls : List Call) → AreBefore c.rises_from calls → ((after_calls calls c).current ≤ c.current)
