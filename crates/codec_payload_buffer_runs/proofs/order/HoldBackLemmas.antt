-- The guarantees of runs do not depend on how many complete frames wait.
use Rattle.std.proofs.Common.{ℕ}
use Rattle.codec_payload_buffer.specs.Steps.{State}
use Rattle.codec_payload_buffer_runs.proofs.order.TurnLemmas.{Setting, Beyond, IsReady}

module _ (c : Setting) where
  -- a buffer that holds sent packets of units from a place on does so with any `hold_back`
  pub beyond_with : (from h : ℕ) (s : State) → Beyond c from s → Beyond c from (record s { hold_back = h })
  beyond_with from h s beyond = record { rises = beyond.rises; beyond = beyond.beyond; sent = beyond.sent; floor = beyond.floor; reads = beyond.reads }

  pub ready_with : (from h : ℕ) (s : State) → IsReady c from s → IsReady c from (record s { hold_back = h })
  ready_with from h s ready = record { beyond = beyond_with from h s ready.beyond; few = ready.few }
