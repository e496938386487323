-- The fate of the units of one part, from what each pop does with them.
use Rattle.std.proofs.Common.{◌≡◌, refl, sym, subst, ℕ, ◌+◌, ◌≤◌, inl, inr, List, [], ◌∷◌, ◌++◌, Bool, Option, Some, None, arith, drop, length}
use Rattle.std.specs.Prelude.{slice_get}
use Rattle.codec_payload_buffer.specs.Steps.{State}
use Rattle.codec_payload_metadata.specs.declared.meta.RtpMeta.{RtpMeta}
use Rattle.codec_payload_buffer_runs.specs.Headline.{packets_before}
use Rattle.codec_payload_buffer_runs.specs.Log.{Stretch, Turn}
use Rattle.codec_payload_buffer_runs.specs.RunUnits.{Fate, IsHeldWhole, IsPassedOverIn, IsReleasedIn, ReleasesWhole}
use Rattle.codec_payload_buffer_runs.specs.RunUnits as unit_fates
use Rattle.codec_payload_buffer_runs.specs.Schedule.{Answer}
use Rattle.codec_payload_buffer_runs.specs.SentStream.{SentUnit, packets_of}
use Rattle.codec_payload_payloader.specs.Packets.{Packet}
use Rattle.codec_payload_datagram_runs.proofs.StretchChains.{AllTurns, Cuts, Ends, HasAll, HasFrame, LeaveAll, SomeTurn, Watched, at_turn, ends_as, in_time, is_kept, is_lost, is_out, is_over}
use Rattle.codec_payload_datagram_runs.specs.Deliveries.{IsCutoffBelow}
use Rattle.codec_payload_datagram_runs.specs.RestartLogs.{AllInTimeBelow, FateBelow, IsDeliveredWhole, NoneIsLostBelow, evicted, held, released, skipped_over}
use Rattle.codec_payload_datagram_runs.specs.declared.run.DatagramStep.{DatagramStep}

pub cutoff_lower : (a b : ℕ) (m : Option ℕ) → a ≤ b → IsCutoffBelow a m → IsCutoffBelow b m
cutoff_lower a b None le below = tt
cutoff_lower a b (Some c) le below = omega (arith, le, below)

module _ (known : ℕ → Packet → RtpMeta → Type 0) (first : ℕ) (splits : Bool) (units : List SentUnit) where
  abbrev low : ℕ → ℕ
  low place = first + packets_before place units

  abbrev high : ℕ → ℕ
  high place = first + packets_before (place + 1) units

  abbrev Out : ℕ → Answer → Type 0
  Out place = ReleasesWhole known splits units place

  some_release : (place : ℕ) (turns : List Turn) → SomeTurn (λ (turn : Turn). Out place turn.answer) turns → IsReleasedIn known splits units place turns
  some_release place [] some = absurd some
  some_release place (turn ∷ turns) (inl here) = inl here
  some_release place (turn ∷ turns) (inr later) = inr (some_release place turns later)

  some_skip : (place : ℕ) (turns : List Turn) → SomeTurn (λ (turn : Turn). HasFrame (low place) (high place) turn.passed) turns → IsPassedOverIn first units place turns
  some_skip place [] some = absurd some
  some_skip place (turn ∷ turns) (inl here) = inl here
  some_skip place (turn ∷ turns) (inr later) = inr (some_skip place turns later)

  whole_as : (place : ℕ) (s : State) → HasAll (low place) (high place) s.held → IsHeldWhole first units place s
  whole_as place s has n is = has n is.from is.to

  all_as : (place : ℕ) (s : State) → IsHeldWhole first units place s → HasAll (low place) (high place) s.held
  all_as place s whole n a b = whole n (record { from = a; to = b })

  -- in a buffer with packets of one part
  pub fate_of : (place : ℕ) (turns later : List Turn) (end : Stretch) → Ends (low place) (high place) first (length (packets_of units)) (Out place) turns later end
      → Fate known first splits units place turns later end
  fate_of place turns later end (is_out is) = unit_fates.released (some_release place turns is)
  fate_of place turns later end (is_over is) = unit_fates.skipped_over (some_skip place turns is)
  fate_of place turns later end (is_kept is) = unit_fates.held (whole_as place end.now is)
  fate_of place turns later end (is_lost n a b is) = unit_fates.evicted (n, record { from = a; to = b }, is)

  module _ (received : List DatagramStep) (top : ℕ) where
    fate_below : (place : ℕ) (turns later : List Turn) (end : Stretch) → Ends (low place) (high place) 0 top (Out place) turns later end → FateBelow known top first splits units place turns later end
    fate_below place turns later end (is_out is) = released (some_release place turns is)
    fate_below place turns later end (is_over is) = skipped_over (some_skip place turns is)
    fate_below place turns later end (is_kept is) = held (whole_as place end.now is)
    fate_below place turns later end (is_lost n a b is) = evicted n (record { from = a; to = b }) is

    -- each unit that was delivered is watched at these pops
    abbrev pub WatchAll : List Turn → Type 0
    WatchAll turns = (place : ℕ) (u : SentUnit) → slice_get units place ≡ Some u → IsDeliveredWhole received units place → AllTurns (Watched (low place) (high place) (Out place)) turns

    pub none_lost : (s : State) (turns : List Turn) (end : Stretch) → LeaveAll 0 top s turns end → WatchAll turns → NoneIsLostBelow known received top first splits units turns end
    none_lost s [] end leaves watch = tt
    none_lost s (turn ∷ turns) end leaves watch = (
      λ place u at came whole.
          let watched = watch place u at came in
          fate_below place (turn ∷ turns) turns end (at_turn (low place) (high place) 0 top (Out place) turn turns end watched.0 (all_as place turn.stretch.now whole)
          (λ after. ends_as (low place) (high place) 0 top (Out place) turn.after turns end leaves.2 watched.1 after)),
      none_lost turn.after turns end leaves.2 (λ place u at came. (watch place u at came).1),
    )

    pub all_in_time : (s : State) (turns : List Turn) (end : Stretch) → LeaveAll 0 top s turns end → WatchAll turns → ((place : ℕ) → AllTurns (Cuts (low place)) turns) → IsCutoffBelow first s.cutoff
        → AllInTimeBelow known received top first splits units turns end
    all_in_time s turns end leaves watch cuts below place u at came comes =
        fate_below place turns turns end (in_time (low place) (high place) 0 top (Out place) s turns end [] leaves (watch place u at came) (cuts place) (cutoff_lower first (low place) s.cutoff (omega arith) below) (λ n a b h. absurd (cc)) comes)

-- The turns of a part and of later parts

pub turns_dropped : (here rest : List Turn) (n : ℕ) → n ≡ length here → drop n (here ++ rest) ≡ rest
turns_dropped here rest n same = subst (λ (k : ℕ). drop k (here ++ rest) ≡ rest) (sym same) (by_list here)
  where
    by_list : (ts : List Turn) → drop (length ts) (ts ++ rest) ≡ rest
    by_list [] = refl
    by_list (t ∷ ts) = by_list ts
