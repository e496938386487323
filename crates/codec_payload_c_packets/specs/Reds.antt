-- The calls on a RED sender.
use Rattle.std.specs.Prelude.{◌≡◌, ◌≢◌, ◌⊎◌, ℕ, ◌<◌, max, if◌then◌else◌, List, [], ◌++◌, drop, length}
use Rattle.codec_payload_core.specs.RedLevels.{Sender, is_accepted, output, recorded, synced}
use Rattle.codec_payload_handle.specs.declared.object.Object.{Object}
use Rattle.codec_payload_handle.specs.declared.object.Object.TheVariants as objects

-- a sender without earlier payloads
abbrev pub IsRedSenderOf : ℕ → ℕ → List ℕ → Object → Type 0
IsRedSenderOf red_pt primary_pt distances (objects.RedSender r) = r.value ≡ record { red_pt = red_pt; primary_pt = primary_pt; distances = distances; history = [] }
IsRedSenderOf red_pt primary_pt distances _ = ⊥

-- the new types and distances, if they are accepted; otherwise nothing changed
pub record Syncs (r : Sender) (red_pt primary_pt : ℕ) (distances : List ℕ) (status : ℕ) (s : Sender) : Type 0 where
  pub answers : status ≡ (if is_accepted distances then 0 else 37)
  pub leaves : s ≡ (if is_accepted distances then synced r red_pt primary_pt distances else r)

-- The output is at the front of the output buffer, and the payload was recorded; otherwise nothing changed. The output buffer
-- is large enough if it has as many bytes as the budget, and as the payload.
pub record Wraps (r : Sender) (time budget : ℕ) (payload : List ℕ) (status : ℕ) (before bytes : List ℕ) (size : ℕ) (s : Sender) : Type 0 where
  pub answers : (status ≡ 0) ⊎ ((status ≡ 17) ⊎ (status ≡ 33))
  pub room : (status ≡ 33 → length before < max budget (length payload)) × (length before < max budget (length payload) → status ≡ 33)
  pub needs : status ≡ 33 → size ≡ max budget (length payload)
  pub writes : status ≡ 0 → (size ≡ length (output r payload time budget)) × (bytes ≡ output r payload time budget ++ drop size before)
  pub records : status ≡ 0 → s ≡ recorded r payload time
  pub stays : status ≢ 0 → (s ≡ r) × (bytes ≡ before)
